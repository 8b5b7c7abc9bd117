use Rattle.std.proofs.Common.{◌≡◌, ℕ, Bool, ◌+◌, ◌/◌, map, length, None, ap, ◌∙◌, subst, rules}
use Rattle.std.proofs.lemmas.Result.{err_from_is_err_and}
use Rattle.market.specs.declared.leg.Leg.{Leg}
use Rattle.market.specs.Combinations.{size, is_nonzero, small, near, parts, count_fits, signs_fit}
use Rattle.market.specs.Tables.{unless, first_broken}
use Rattle.gate.proofs.Shapes.{nonzero_from, not_small, not_near, at_signs}
use Rattle.gate.proofs.legs.judged_divisor.Goals as goal

pub common_divisor-divisor-requires-clause-nonzero : goal.common_divisor-divisor-requires-clause-nonzero
common_divisor-divisor-requires-clause-nonzero c = nonzero_from c.args.legs.now _ (c.in_ok-first_broken.ensures is_nonzero (λ x t k. search rules))

pub returns-in_err-first_broken-2 : goal.returns-in_err-first_broken-2
returns-in_err-first_broken-2 c =
    let p = err_from_is_err_and c.from_residual-in_err-first_broken-2.result c.from_residual-in_err-first_broken-2.ensures.1 in
    let are : c.as_slice-sizes.result.now ≡ parts c.args.legs.now = c.as_slice-sizes.ensures.value ∙ c.parts-sizes.ensures ∙ ap (λ (d : ℕ). map (λ (l : Leg). size l / d) c.args.legs.now) c.common_divisor-divisor.ensures.value in
    let none : first_broken is_nonzero c.args.legs.now (3 + length c.args.legs.now) ≡ None = c.in_ok-first_broken.ensures is_nonzero (λ x t k. search rules) in
    let fits : unless {X = ℕ} (count_fits c.args.product (length c.args.legs.now)) 2 ≡ None = subst (λ (t : Bool). unless {X = ℕ} t 2 ≡ None) c.count_fits.ensures c.in_ok-unless.ensures in
    rw (p.1, p.2) (not_small c.args.product c.args.legs.now fits c.in_ok-check_rising.ensures none _ are _ (c.in_err-first_broken-2.ensures small (λ x t k. search rules)))

pub returns-in_err-first_broken-3 : goal.returns-in_err-first_broken-3
returns-in_err-first_broken-3 c =
    let p = err_from_is_err_and c.from_residual-in_err-first_broken-3.result c.from_residual-in_err-first_broken-3.ensures.1 in
    let are : c.as_slice-sizes.result.now ≡ parts c.args.legs.now = c.as_slice-sizes.ensures.value ∙ c.parts-sizes.ensures ∙ ap (λ (d : ℕ). map (λ (l : Leg). size l / d) c.args.legs.now) c.common_divisor-divisor.ensures.value in
    let none : first_broken is_nonzero c.args.legs.now (3 + length c.args.legs.now) ≡ None = c.in_ok-first_broken.ensures is_nonzero (λ x t k. search rules) in
    let fits : unless {X = ℕ} (count_fits c.args.product (length c.args.legs.now)) 2 ≡ None = subst (λ (t : Bool). unless {X = ℕ} t 2 ≡ None) c.count_fits.ensures c.in_ok-unless.ensures in
    rw (p.1, p.2) (not_near c.args.product c.args.legs.now fits c.in_ok-check_rising.ensures none _ are _ (c.in_ok-first_broken-2.ensures small (λ x t k. search rules)) (c.in_err-first_broken-3.ensures (near c.as_slice-sizes.result.now) (λ x t k. search rules)))

pub returns : goal.returns
returns c =
    let are : c.as_slice-sizes.result.now ≡ parts c.args.legs.now = c.as_slice-sizes.ensures.value ∙ c.parts-sizes.ensures ∙ ap (λ (d : ℕ). map (λ (l : Leg). size l / d) c.args.legs.now) c.common_divisor-divisor.ensures.value in
    let none : first_broken is_nonzero c.args.legs.now (3 + length c.args.legs.now) ≡ None = c.in_ok-first_broken.ensures is_nonzero (λ x t k. search rules) in
    let fits : unless {X = ℕ} (count_fits c.args.product (length c.args.legs.now)) 2 ≡ None = subst (λ (t : Bool). unless {X = ℕ} t 2 ≡ None) c.count_fits.ensures c.in_ok-unless.ensures in
    let signs : unless {X = ℕ} (signs_fit c.args.product c.args.legs.now) 6 ≡ None = subst (λ (t : Bool). unless {X = ℕ} t 6 ≡ None) c.signs_fit.ensures c.in_ok-unless-2.ensures in
    let last = at_signs c.args.product c.args.legs.now fits c.in_ok-check_rising.ensures none _ are (c.in_ok-first_broken-2.ensures small (λ x t k. search rules)) (c.in_ok-first_broken-3.ensures (near c.as_slice-sizes.result.now) (λ x t k. search rules)) in
    (last ∙ signs, c.common_divisor-divisor.ensures.value)
