-- Along a match nothing is lost, and what stands in the book stays what it was.
use Rattle.std.proofs.Common.{◌≡◌, ℕ, ◌+◌, ◌<◌, ◌≤◌, Bool, true, false, List, Some, Option, refl, ap, sym, ◌∙◌, arith}
use Rattle.std.specs.List.{All}
use Rattle.std.proofs.lemmas.Bool.{true≢false}
use Rattle.std.proofs.lemmas.Bool.Decides.{nat_tests}
use Rattle.std.proofs.lemmas.List.Elements.{All-nil, All-append, All-weaker}
use Rattle.std.proofs.lemmas.List.Sums.{sum_by-append}
use Rattle.rules.specs.Domain.{Laws}
use Rattle.market.specs.declared.leg.Leg.{Leg}
use Rattle.market.specs.declared.order.Order.{Order}
use Rattle.market.specs.declared.price.Price.{Price}
use Rattle.market.specs.declared.row.Row.{Row}
use Rattle.market.specs.declared.row.RowKind.{RowKind}
use Rattle.market.specs.declared.row.RowKind.TheVariants as kind
use Rattle.market.specs.Fills.{facing, divided}
use Rattle.market.specs.Implied.{ImpliedFill}
use Rattle.market.specs.Levels.{NoneWithin}
use Rattle.market.specs.Matching.{Match, Match.filled, Match.no_more, Match.fill, Match.implied}
use Rattle.market.specs.Orders.{lot_book}
use Rattle.market.specs.Turns.{counted, resting}
use Rattle.market.proofs.Asking.{Bounded, bounded_thins}
use Rattle.market.proofs.Fills.{fill_kind, fill_plain}
use Rattle.market.proofs.ImpliedSums.{legs_thin, legs_other, units_counted, implied_plain}
use Rattle.market.proofs.LevelSums.{level_thins, level_own, level_other}
use Rattle.market.proofs.Sizes.{book_kind, TradedBy, traded_by_lasts}
use Rattle.market.proofs.Sums.{Plain, resting_below}
use Rattle.market.proofs.Thinning.{Thins, thins_same, thins_then}

module _ (shares : List ℕ → ℕ → List ℕ) (legs : Option (List Leg)) (o : Order) where
  pub match_thins : {f q f' q' : ℕ} {os os' : List Order} {rows : List Row} → Match shares legs o f q os rows f' q' os' → Thins os os'
  match_thins filled = thins_same _
  match_thins (no_more h w) = thins_same _
  match_thins {q = q} {os = os} (fill p some best g first more) = thins_then (level_thins shares (lot_book o.lot) o.side p os q) (match_thins more)
  match_thins {f} (implied cs level has best i more) = thins_then (legs_thin shares f o.number i.takes) (match_thins more)

  -- the rows cancel nothing
  pub match_plain : {f q f' q' : ℕ} {os os' : List Order} {rows : List Row} → Match shares legs o f q os rows f' q' os' → All Plain rows
  match_plain filled = All-nil Plain
  match_plain (no_more k w) = All-nil Plain
  match_plain {f} {q} {os = os} (fill p some best g first more) =
      let b = lot_book o.lot in
      All-append Plain _ _ (fill_plain f o.number legs (facing b o.side p os) (divided shares b o.side p os q)) (match_plain more)
  match_plain (implied cs level has best i more) = All-append Plain _ _ (implied_plain shares cs o i) (match_plain more)

  -- a match that leaves something open leaves none within the limit
  pub match_clear : {f q f' q' : ℕ} {os os' : List Order} {rows : List Row} → Match shares legs o f q os rows f' q' os' → 0 < q' →
      NoneWithin (lot_book o.lot) o.side o.price os'
  match_clear filled h = absurd (omega arith)
  match_clear (no_more k w) h = k
  match_clear (fill p some best g first more) h = match_clear more h
  match_clear (implied cs level has best i more) h = match_clear more h

  module _ (laws : Laws shares) (is : RowKind → Bool) (leg : is kind.Leg ≡ false) where
    module _ (main : is (fill_kind legs) ≡ true) (only : is kind.Combination ≡ true → is kind.Trade ≡ false) (low : 1 ≤ o.number) where
      -- the contract trades of an implied-in fill count for none that is not in the book, as the one that takes
      units_own : {cs : List Leg} {level : Option Price} {f q u : ℕ} {os os' : List Order} {rows : List Row} → legs ≡ Some cs →
          ImpliedFill shares cs o level f q u os os rows os' → Bounded os → All (λ x. x.number < o.number) os → counted is o.number rows ≡ u
      units_own {f = f} {u = u} {os} {os'} has i bounded a =
          let combination : is kind.Combination ≡ true = rw has at main in
          let no_trade = only combination in
          let thins = legs_thin shares f o.number i.takes in
          let lost = legs_other shares f o.number laws is leg o.number (λ e. absurd (true≢false (sym e ∙ no_trade))) i.takes bounded
          (All-weaker (λ x. x.number < o.number) (TradedBy is o.number) (λ x l e. absurd (omega arith)) os a) in
          let before = resting_below o.number o.number (omega arith) os a in
          grind (arith, nat_tests, ap (counted is o.number) i.reports, units_counted is o.number low f o u i.net i.taken)

      -- to the arriving order: what it had open, it traded or has open
      pub match_own : {f q f' q' : ℕ} {os os' : List Order} {rows : List Row} → Match shares legs o f q os rows f' q' os' → Bounded os →
          All (λ x. x.number < o.number) os → q ≡ counted is o.number rows + q'
      match_own filled bounded a = refl
      match_own (no_more h w) bounded a = omega arith
      match_own {f} {q} {os = os} (fill p some best g first more) bounded a =
          let b = lot_book o.lot in
          let thins = level_thins shares b o.side p os q in
          let here = level_own shares b o.side p os q laws bounded best is leg f o.number legs main in
          let there = match_own more (bounded_thins thins bounded) (thins.keeps (λ x. x.number < o.number) (λ x k l. l) a) in
          omega (arith, here, there, sum_by-append {X = Row})
      match_own {f} {q} {os = os} (implied cs level has best i more) bounded a =
          let thins = legs_thin shares f o.number i.takes in
          let here = units_own has i bounded a in
          let there = match_own more (bounded_thins thins bounded) (thins.keeps (λ x. x.number < o.number) (λ x k l. l) a) in
          omega (arith, here, there, i.run.upto, sum_by-append {X = Row})

    -- to any other: what rested, it traded or still rests
    pub match_other : (n : ℕ) → 1 ≤ n → (n ≡ o.number → ⊥) → fill_kind legs ≡ book_kind (lot_book o.lot) →
        {f q f' q' : ℕ} {os os' : List Order} {rows : List Row} → Match shares legs o f q os rows f' q' os' → Bounded os →
        All (TradedBy is n) os → resting n os ≡ counted is n rows + resting n os'
    match_other n low ne agrees filled bounded a = omega arith
    match_other n low ne agrees (no_more h w) bounded a = omega arith
    match_other n low ne agrees {f} {q} {os = os} (fill p some best g first more) bounded a =
        let b = lot_book o.lot in
        let thins = level_thins shares b o.side p os q in
        let here = level_other shares b o.side p os q laws bounded best is leg f o.number legs n agrees (λ e. ne) a in
        let there = match_other n low ne agrees more (bounded_thins thins bounded) (thins.keeps (TradedBy is n) (traded_by_lasts is n) a) in
        omega (arith, here, there, sum_by-append {X = Row})
    match_other n low ne agrees {f} {os = os} (implied {u = u} cs level has best i more) bounded a =
        let thins = legs_thin shares f o.number i.takes in
        let taken = legs_other shares f o.number laws is leg n (λ e. ne) i.takes bounded a in
        let units = units_counted is n low f o u i.net i.taken in
        let there = match_other n low ne agrees more (bounded_thins thins bounded) (thins.keeps (TradedBy is n) (traded_by_lasts is n) a) in
        grind (arith, nat_tests, taken, units, there, ap (counted is n) i.reports, sum_by-append {X = Row})
