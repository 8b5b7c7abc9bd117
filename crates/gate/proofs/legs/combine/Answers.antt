use Rattle.std.proofs.Common.{ℕ, map, sym, ap, ◌∙◌, subst}
use Rattle.market.specs.Combinations.{Normal, reduced_leg, turns}
use Rattle.market.proofs.Making.{shaped, has_form}
use Rattle.gate.proofs.Shapes.{divided_some, divided_small}
use Rattle.gate.proofs.legs.combine.Goals as goal

pub normal_form-requires-clause-some : goal.normal_form-requires-clause-some
normal_form-requires-clause-some c = divided_some c.args.product c.args.legs.now _ c.in_ok-divisor.ensures

pub normal_form-requires-clause-small : goal.normal_form-requires-clause-small
normal_form-requires-clause-small c = divided_small c.args.product c.args.legs.now _ c.in_ok-divisor.ensures

pub invariant_of-result : goal.invariant_of-result
invariant_of-result c = record { normal = subst Normal (sym (c.normal_form.ensures ∙ ap (λ (d : ℕ). map (reduced_leg d (turns c.args.legs.now)) c.args.legs.now) c.in_ok-divisor.ensures.1)) (has_form c.args.product c.args.legs.now (shaped c.args.product c.args.legs.now c.in_ok-divisor.ensures.0)) }
