-- Along the round nothing is lost, and what stands in the book stays what it was.
use Rattle.std.proofs.Common.{◌≡◌, ℕ, ◌+◌, ◌-◌, ◌≤◌, Bool, true, false, cond, eqb, List, [], ◌∷◌, ◌++◌, Some, refl, ap, sym, ◌∙◌, arith}
use Rattle.std.specs.List.{All}
use Rattle.std.proofs.lemmas.Bool.{true≢false}
use Rattle.std.proofs.lemmas.Bool.Decides.{nat_tests}
use Rattle.std.proofs.lemmas.List.Elements.{All-nil, All-append}
use Rattle.std.proofs.lemmas.List.Sums.{sum_by-append}
use Rattle.rules.specs.Domain.{Laws}
use Rattle.market.specs.declared.book_id.BookId.{BookId}
use Rattle.market.specs.declared.book_id.BookId.TheVariants.{Instrument, Combination}
use Rattle.market.specs.declared.leg.Leg.{Leg}
use Rattle.market.specs.declared.order.Order.{Order}
use Rattle.market.specs.declared.row.Row.{Row}
use Rattle.market.specs.declared.row.RowKind.{RowKind}
use Rattle.market.specs.declared.row.RowKind.TheVariants as kind
use Rattle.market.specs.Orders.{lot_book, quantity_of, less}
use Rattle.market.specs.Round.{legs_of, FirstEligible, left_of, Round, Round.over, Round.takes}
use Rattle.market.specs.Turns.{counted, resting}
use Rattle.market.proofs.Asking.{Bounded, bounded_thins}
use Rattle.market.proofs.Fills.{resting_open}
use Rattle.market.proofs.ImpliedSums.{legs_thin, legs_other, units_counted, implied_plain}
use Rattle.market.proofs.Lists.{all_middle}
use Rattle.market.proofs.Sizes.{lot_size-sized, book_kind, TradedBy, traded_by_lasts}
use Rattle.market.proofs.Sums.{resting-cons, Plain}
use Rattle.market.proofs.Thinning.{Thins, thins_same, thins_then, left_thins}

-- only a combination has legs
legs_combined : (cs : List (List Leg)) (b : BookId) (legs : List Leg) → legs_of cs b ≡ Some legs → book_kind b ≡ kind.Combination
legs_combined cs (Instrument i) legs h = cc
legs_combined cs (Combination c) legs h = refl

-- what rests of the number n where k of the order o have gone
resting_left : (n : ℕ) (ahead : List Order) (o : Order) (behind : List Order) (k : ℕ) → k ≤ quantity_of o →
    resting n (ahead ++ (o ∷ behind)) ≡ cond (eqb o.number n) k 0 + resting n (ahead ++ left_of o k ++ behind)
resting_left n ahead o behind k le =
    let new = sum_by-append {X = Order} (λ x. cond (eqb x.number n) (quantity_of x) 0) in
    let parts = new ahead (o ∷ behind) in
    let left = new ahead (left_of o k) in
    let all = new (ahead ++ left_of o k) behind in
    grind (arith, nat_tests, parts, left, all, resting-cons n o behind, resting_open n (less o k ∷ []), resting-cons n (less o k) [], lot_size-sized o.lot (quantity_of o - k))

module _ (shares : List ℕ → ℕ → List ℕ) (cs : List (List Leg)) where
  first_thins : {os ahead behind : List Order} {o : Order} (u : ℕ) → FirstEligible cs os ahead o behind → Thins os (ahead ++ left_of o u ++ behind)
  first_thins {ahead = ahead} {behind} {o} u first = rw first.stands (left_thins ahead o behind u)

  pub round_thins : {f f' : ℕ} {os os' : List Order} {rows : List Row} → Round shares cs f os rows f' os' → Thins os os'
  round_thins (over none) = thins_same _
  round_thins {f} (takes {u = u} ahead o behind legs first has i more) = thins_then (first_thins u first) (thins_then (legs_thin shares f o.number i.takes) (round_thins more))

  first_is : (P : Order → Type 0) {os ahead behind : List Order} {o : Order} → FirstEligible cs os ahead o behind → All P os → P o
  first_is P {ahead = ahead} {behind} {o} first a = all_middle P ahead o behind (rw first.stands at a)

  -- the rows cancel nothing
  pub round_plain : {f f' : ℕ} {os os' : List Order} {rows : List Row} → Round shares cs f os rows f' os' → All Plain rows
  round_plain (over none) = All-nil Plain
  round_plain (takes ahead o behind legs first has i more) = All-append Plain _ _ (implied_plain shares legs o i) (round_plain more)

  -- what rested, it traded or still rests
  module _ (laws : Laws shares) (is : RowKind → Bool) (leg : is kind.Leg ≡ false) (only : is kind.Combination ≡ true → is kind.Trade ≡ false) (n : ℕ) (low : 1 ≤ n) where
    pub round_balance : {f f' : ℕ} {os os' : List Order} {rows : List Row} → Round shares cs f os rows f' os' → Bounded os → All (TradedBy is n) os →
        resting n os ≡ counted is n rows + resting n os'
    round_balance (over none) bounded a = omega arith
    round_balance {f} {os = os} (takes {u = u} ahead o behind legs first has i more) bounded a =
        let before = first_thins u first in
        let thins = legs_thin shares f o.number i.takes in
        let a' = before.keeps (TradedBy is n) (traded_by_lasts is n) a in
        let counts : o.number ≡ n → is kind.Combination ≡ true = λ e. rw (legs_combined cs (lot_book o.lot) legs has) at (first_is (TradedBy is n) first a e) in
        let lost = ap (resting n) first.stands ∙ resting_left n ahead o behind u i.run.upto in
        let taken = legs_other shares f o.number laws is leg n (λ t e. true≢false (sym t ∙ only (counts (sym e)))) i.takes (bounded_thins before bounded) a' in
        let units = units_counted is n low f o u i.net i.taken in
        let there = round_balance more (bounded_thins thins (bounded_thins before bounded)) (thins.keeps (TradedBy is n) (traded_by_lasts is n) a') in
        grind (arith, nat_tests, counts, lost, taken, units, there, ap (counted is n) i.reports, sum_by-append {X = Row})
