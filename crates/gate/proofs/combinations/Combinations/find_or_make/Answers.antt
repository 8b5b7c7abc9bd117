use Rattle.std.proofs.Common.{◌≡◌, ℕ, ◌+◌, ◌++◌, [], ◌∷◌, List, length, map, position, vec_items, Some, sym, ◌∙◌, ap, subst, arith}
use Rattle.std.proofs.lemmas.List.{length-map, map-append}
use Rattle.market.specs.declared.combination.Combination.{Combination}
use Rattle.market.specs.declared.leg.Leg.{Leg}
use Rattle.market.specs.Combinations.{same_legs}
use Rattle.gate.specs.Made.{all_legs, Numbers}
use Rattle.gate.proofs.Numbering.{finds, spends, adds}
use Rattle.gate.proofs.combinations.Combinations.find_or_make.Goals as goal

-- the legs of a combination
abbrev legs_of : Combination → List Leg
legs_of x = x.legs.items

pub returns-in-Some : goal.returns-in-Some
returns-in-Some c =
    let cs : List (List Leg) = all_legs c.args.self.now in
    finds cs c.args.combination.legs.items c.in-Some.i
    (sym (c.find.ensures ∙ ap (λ ls. position (same_legs ls) cs) c.as_slice.ensures.value) ∙ c.in-Some.is)

pub returns-then-len-eq-MOST_COMBINATIONS : goal.returns-then-len-eq-MOST_COMBINATIONS
returns-then-len-eq-MOST_COMBINATIONS c =
    let cs : List (List Leg) = all_legs c.args.self.now in
    spends cs c.args.combination.legs.items
    (sym (c.find.ensures ∙ ap (λ ls. position (same_legs ls) cs) c.as_slice.ensures.value) ∙ c.in_default.is)
    (omega (arith, length-map (vec_items c.args.self.now.made) legs_of))

pub returns : goal.returns
returns c =
    let cs : List (List Leg) = all_legs c.args.self.now in
    let legs : List Leg = c.args.combination.legs.items in
    let many : length cs ≡ c.len-2.result = omega (arith, length-map (vec_items c.args.self.now.made) legs_of) in
    let after = map-append legs_of (vec_items c.args.self.now.made) (c.args.combination ∷ []) in
    subst (λ (ds : List (List Leg)). Numbers cs legs (Some (1001 + c.len-2.result)) ds) (sym (ap (map legs_of) c.push_reserved.ensures.items ∙ after))
    (subst (λ (n : ℕ). Numbers cs legs (Some (1001 + n)) (cs ++ legs ∷ [])) many
    (adds cs legs (sym (c.find.ensures ∙ ap (λ ls. position (same_legs ls) cs) c.as_slice.ensures.value) ∙ c.in_default.is)
    (omega (arith, c.args.self.now.few))))
