use Rattle.std.proofs.Common.{rules, position, ap, sym, ◌∙◌}
use Rattle.std.proofs.lemmas.Iterator.{YieldsList-from_slice}
use Rattle.std.proofs.lemmas.Iterator.Search.{position_from_yields_List}
use Rattle.market.specs.declared.combination.Combination.{Combination}
use Rattle.market.specs.Combinations.{same_legs}
use Rattle.gate.proofs.Numbering.{position-map}
use Rattle.gate.proofs.combinations.Combinations.find.Goals as goal

pub returns : goal.returns
returns c =
    position_from_yields_List (λ (x : Combination). same_legs c.args.legs.now x.legs.items) _ _ c.position.result c.position.ensures.ran (YieldsList-from_slice c.as_slice.result.now c.iter.ensures.rest) (λ x b q k. search rules)
    ∙ sym (position-map (λ (x : Combination). x.legs.items) (same_legs c.args.legs.now) c.as_slice.result.now) ∙ ap (position (same_legs c.args.legs.now)) c.as_slice.ensures
