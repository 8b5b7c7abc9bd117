-- The rows of an implied-in fill are a fair report.
use Rattle.std.proofs.Common.{◌≡◌, ℕ, ◌+◌, ◌<◌, ◌≤◌, Bool, true, false, cond, ◌⊎◌, List, [], ◌∷◌, ℤ, Some, None, Option, Result, is_some, refl, sym, ap, subst, arith, inl, inr, ◌∙◌}
use Rattle.std.specs.List.{All, sum_by}
use Rattle.std.proofs.lemmas.Bool.{both_ways, and_parts}
use Rattle.std.proofs.lemmas.List.{append-nil}
use Rattle.std.proofs.lemmas.List.Elements.{All-cons, All-weaker}
use Rattle.market.specs.declared.call.Call.{Call}
use Rattle.market.specs.declared.leg.Leg.{Leg}
use Rattle.market.specs.declared.order.Order.{Order}
use Rattle.market.specs.declared.price.Price.{Price}
use Rattle.market.specs.declared.refusal.Refusal.{Refusal}
use Rattle.market.specs.declared.row.Row.{Row}
use Rattle.market.specs.declared.row.RowKind.TheVariants.{Trade}
use Rattle.market.specs.declared.side.Side.{Side}
use Rattle.market.specs.declared.side.Side.TheVariants.{Buy, Sell}
use Rattle.market.specs.Implied.{ImpliedFill}
use Rattle.market.specs.Ladders.{leg_side, contracts_for, ladders, net, unit_net, beats, wanted}
use Rattle.market.specs.Orders.{lot_book, book_number}
use Rattle.market.specs.Prices.{opposite, good, as_price}
use Rattle.market.specs.Round.{legs_of}
use Rattle.market.specs.Rows.{buyer_of, implied_row}
use Rattle.market.specs.Turns.{Turn, is_combination, is_trade}
use Rattle.market.specs.FairTrades.{Limited, is_leg, leg_rows, of_leg, laid_out, on_side, Names, LegTraded, WithinAll, UnitsWithin.from_legs, InLegs, Fair}
use Rattle.market.proofs.FairFills.{Known, limited, legs_made, legs_plain, legs_placed}
use Rattle.market.proofs.FairReports.{Placed, Meets, fair_cons, fair_plain, FairFrom}
use Rattle.market.proofs.LegRows.{LegRow, leg_is_no_combination, leg_rows_own}

-- of u units the order n, on side s of the combination, trades this leg's contracts, and is named in each row
pub record LegLaid (n : ℕ) (s : Side) (u : ℕ) (leg : Leg) (rows : List Row) : Type 0 where
  pub quantity : sum_by (λ row. row.quantity) rows ≡ contracts_for leg u
  pub named : All (λ row. on_side (leg_side s leg) row ≡ n) rows

-- the contract trades of an implied-in fill, laid out leg by leg: each unit's net is that of the ladders
pub record LegsLaid (f n : ℕ) (s : Side) (u : ℕ) (legs : List Leg) (os : List Order) (rows : List Row) : Type 0 where
  pub trades : All (λ row. (row.kind ≡ Trade) × (row.fill ≡ f)) rows
  pub only : All (InLegs legs) rows
  pub each : All (λ leg. LegLaid n s u leg (of_leg leg rows)) legs
  pub nets : (v : ℕ) → 1 ≤ v → v ≤ u → net (laid_out legs rows) v ≡ net (ladders s legs os) v

-- a unit that is wanted has a net within the limit
wanted_within : (s : Side) (limit : Price) (level : Option Price) (m : Option ℤ) → wanted s limit level m ≡ true → (z : ℤ) × (m ≡ Some z) × (good s (as_price z) limit ≡ true)
wanted_within s limit level None e = absurd (both_ways false refl e)
wanted_within s limit level (Some z) e = (z, refl, (and_parts (beats s level z) (good s (as_price z) limit) e).1)

-- an order that has units takes from the legs' ladders
from_ladders : (quote : Bool) (legs : List Leg) (s : Side) (os : List Order) (v : ℕ) (z : ℤ) → unit_net (cond quote None (Some legs)) s os v ≡ Some z → net (ladders s legs os) v ≡ Some z
from_ladders true legs s os v z e = absurd (both_ways false refl (ap is_some e))
from_ladders false legs s os v z e = e

-- ---- the one order that it names

one_order : (s : Side) (n : ℕ) → 0 < n → (0 < buyer_of s n 0) × (buyer_of (opposite s) n 0 ≡ 0) ⊎ (buyer_of s n 0 ≡ 0) × (0 < buyer_of (opposite s) n 0)
one_order Buy n h = inl (h, refl)
one_order Sell n h = inr (refl, h)

one_named : (s : Side) (leg : Leg) (n : ℕ) (row : Row) → on_side (leg_side s leg) row ≡ n → Names (leg_side Buy leg) (buyer_of s n 0) row × Names (leg_side Sell leg) (buyer_of (opposite s) n 0) row
one_named Buy leg n row e = (inr e, inl refl)
one_named Sell leg n row e = (inl refl, inr e)

module _ {Message : Type 0} (reading : Message → Result Call Refusal) (h : List (Turn Message)) where
  one_limited : (s : Side) (c n : ℕ) (z : ℤ) → Limited reading h s c n z → Limited reading h Buy c (buyer_of s n 0) z × Limited reading h Sell c (buyer_of (opposite s) n 0) z
  one_limited Buy c n z l = (l, inl refl)
  one_limited Sell c n z l = (inl refl, l)

  module _ (cs : List (List Leg)) (f : ℕ) (o : Order) (known : Known reading h o) (legs : List Leg) (exists : legs_of cs (lot_book o.lot) ≡ Some legs) where
    module _ (u : ℕ) (os : List Order) (amount : ℤ) (taken : List Row) (some : 0 < u) (laid : LegsLaid f o.number o.side u legs os taken)
        (nets : (v : ℕ) → 1 ≤ v → v ≤ u → (z : ℤ) × (net (ladders o.side legs os) v ≡ Some z) × (good o.side (as_price z) o.price ≡ true)) where
      own_rows : All (LegRow f) taken
      own_rows = All-weaker (λ row. (row.kind ≡ Trade) × (row.fill ≡ f)) (LegRow f) (λ row k. record { leg = ap is_leg k.0; filled = k.1 }) taken laid.trades

      all_within : (z : ℤ) → good o.side (as_price z) o.price ≡ true → WithinAll reading h (implied_row f o u amount ∷ taken) f z
      all_within z e =
          All-cons (Meets reading h f z) (implied_row f o u amount) taken
          (λ c same. one_limited o.side (book_number (lot_book o.lot)) o.number z (limited reading h o z known e))
          (All-weaker (LegRow f) (Meets reading h f z) (λ row own c. absurd (both_ways (is_combination row.kind) (leg_is_no_combination row.kind own.leg) c)) taken own_rows)

      implied_trade : Fair reading h cs (implied_row f o u amount ∷ taken) (implied_row f o u amount) taken
      implied_trade =
          let own : leg_rows f taken ≡ taken = subst (λ l. leg_rows f l ≡ taken) (append-nil taken) (leg_rows_own f taken [] own_rows refl) in
          record {
            legs = legs;
            exists = legs_made cs (lot_book o.lot) legs exists;
            traded = subst (λ l. All (λ leg. LegTraded leg (implied_row f o u amount) (of_leg leg l)) legs) (sym own)
                (All-weaker (λ leg. LegLaid o.number o.side u leg (of_leg leg taken)) (λ leg. LegTraded leg (implied_row f o u amount) (of_leg leg taken))
                (λ leg k. record { quantity = k.quantity; named = λ i row at. one_named o.side leg o.number _ (k.named i row at) }) legs laid.each);
            in_legs = subst (All (InLegs legs)) (sym own) laid.only;
            agreed = from_legs (one_order o.side o.number known.numbered) some
                (subst (All (λ row. is_trade row.kind ≡ true)) (sym own) (All-weaker (λ row. (row.kind ≡ Trade) × (row.fill ≡ f)) (λ row. is_trade row.kind ≡ true) (λ row k. ap is_trade k.0) taken laid.trades))
                (λ v low high. let n = nets v low high in (n.0, subst (λ l. net (laid_out legs l) v ≡ Some n.0) (sym own) (laid.nets v low high ∙ n.1), all_within n.0 n.2));
          }

      implied_rows : FairFrom reading h cs f (f + 1) (implied_row f o u amount ∷ taken)
      implied_rows = record {
        forward = omega arith;
        placed = All-cons (Placed f (f + 1)) (implied_row f o u amount) taken (inr (omega arith, omega arith)) (legs_placed f taken own_rows);
        fair = fair_cons reading h cs (implied_row f o u amount ∷ taken) (implied_row f o u amount) taken (λ c. implied_trade)
            (fair_plain reading h cs (implied_row f o u amount ∷ taken) taken (legs_plain f taken own_rows));
      }

    -- an implied-in fill, whose contract trades are laid out as the ladders
    pub implied_fair : (shares : List ℕ → ℕ → List ℕ) {level : Option Price} {q u : ℕ} {os os' os'' : List Order} {rows : List Row} (i : ImpliedFill shares legs o level f q u os os' rows os'') →
        LegsLaid f o.number o.side u legs os i.taken → FairFrom reading h cs f (f + 1) rows
    implied_fair shares {level} {q} {u} {os} i laid =
        subst (FairFrom reading h cs f (f + 1)) (sym i.reports)
        (implied_rows u os i.net i.taken i.some laid
        (λ v low high. let w = wanted_within o.side o.price level _ (i.run.each v low high) in (w.0, from_ladders o.quote legs o.side os v w.0 w.1, w.2)))
