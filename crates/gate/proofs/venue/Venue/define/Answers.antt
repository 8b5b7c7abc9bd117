use Rattle.std.proofs.Common.{◌≡◌, ℕ, Bool, cond, List, length, replicate, Some, None, Ok, refl, sym, ap, ◌∙◌, subst}
use Rattle.market.specs.declared.leg.Leg.{Leg}
use Rattle.market.specs.declared.call.Call.TheVariants.{Define}
use Rattle.market.specs.Combinations.{turns}
use Rattle.market.specs.Endings.{Follows}
use Rattle.market.specs.Legs.{listed}
use Rattle.market.specs.Venues.{View, request_fault, with_combinations, Does}
use Rattle.gate.specs.Made.{all_legs}
use Rattle.gate.specs.Views.{view, rule_of}
use Rattle.gate.proofs.Defining.{numbers_along, request_refused, no_room, numbered_sound, numbered_follows}
use Rattle.gate.proofs.Lifting.{refused_by}
use Rattle.gate.proofs.venue.Venue.define.Goals as goal

pub returns-in-Err-clause-follows : goal.returns-in-Err-clause-follows
returns-in-Err-clause-follows g c =
    let v : View = view c.args.self.now in
    refused_by (request_refused v c.args.participant c.args.legs.now _ (subst (λ (ls : List Leg). request_fault v c.args.participant ls ≡ Some c.in-Err.refusal) c.as_slice-legs.ensures.value c.in-Err.ensures)) c.refuse.ensures.answer c.refuse.ensures.blank

pub returns-in_default-clause-follows : goal.returns-in_default-clause-follows
returns-in_default-clause-follows g c =
    let v : View = view c.args.self.now in
    let after : List (List Leg) = all_legs c.find_or_make.new.self in
    let free : request_fault v c.args.participant (listed c.args.legs.now) ≡ None = subst (λ (ls : List Leg). request_fault v c.args.participant ls ≡ None) c.as_slice-legs.ensures.value c.in-Ok.ensures.0 in
    let n = numbers_along v.combinations after _ _ (listed c.args.legs.now) _ None c.in-Ok.ensures.1 c.as_slice-legs.ensures.value c.in_default.is c.find_or_make.ensures in
    let r = no_room v c.args.participant c.args.legs.now free after n in
    subst (λ (cs : List (List Leg)). Follows (Does (g.R.AllocationRule.shares (rule_of c.args.self.now)) v (Define c.args.participant c.args.legs.now)) v (length c.args.report.now) c.refuse-in_default.result c.refuse-in_default.new.report (with_combinations v cs))
    (sym r.1) (refused_by r.0 c.refuse-in_default.ensures.answer c.refuse-in_default.ensures.blank)

pub returns-clause-follows : goal.returns-clause-follows
returns-clause-follows g c =
    let v : View = view c.args.self.now in
    let after : List (List Leg) = all_legs c.find_or_make.new.self in
    let free : request_fault v c.args.participant (listed c.args.legs.now) ≡ None = subst (λ (ls : List Leg). request_fault v c.args.participant ls ≡ None) c.as_slice-legs.ensures.value c.in-Ok.ensures.0 in
    let n = numbers_along v.combinations after _ _ (listed c.args.legs.now) _ (Some c.in-Some.combination) c.in-Ok.ensures.1 c.as_slice-legs.ensures.value c.in-Some.is c.find_or_make.ensures in
    numbered_follows v c.args.participant c.args.legs.now free _ c.in-Some.combination after n (length c.args.report.now) (Ok c.into.result) c.fill.new.self
    (ap Ok (c.into.ensures ∙ ap (λ (t : Bool). (c.in-Some.combination, cond {A = ℕ} t 1 0)) (c.turns.ensures ∙ ap turns c.as_slice-legs.ensures.value)))
    (c.fill.ensures.after (λ y e. e) ∙ ap (replicate (length c.args.report.now)) c.blank.ensures)

pub invariant_of-self : goal.invariant_of-self
invariant_of-self g c =
    let v : View = view c.args.self.now in
    let after : List (List Leg) = all_legs c.find_or_make.new.self in
    let free : request_fault v c.args.participant (listed c.args.legs.now) ≡ None = subst (λ (ls : List Leg). request_fault v c.args.participant ls ≡ None) c.as_slice-legs.ensures.value c.in-Ok.ensures.0 in
    let n = numbers_along v.combinations after _ _ (listed c.args.legs.now) _ c.find_or_make.result c.in-Ok.ensures.1 c.as_slice-legs.ensures.value refl c.find_or_make.ensures in
    record { table = numbered_sound v c.args.participant c.args.legs.now free (g.R.AllocationRule.shares (rule_of c.args.self.now)) c.args.self.now.listing.table c.find_or_make.result after n }
