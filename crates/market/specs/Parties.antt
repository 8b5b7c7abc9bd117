-- Who the orders are that a row names.
use Rattle.std.specs.Prelude.{◌≡◌, ℕ, ◌⊎◌, List, Some, Result}
use Rattle.std.specs.List.{Any}
use Rattle.market.specs.declared.call.Call.{Call}
use Rattle.market.specs.declared.leg.Leg.{Leg}
use Rattle.market.specs.declared.refusal.Refusal.{Refusal}
use Rattle.market.specs.declared.row.Row.{Row}
use Rattle.market.specs.declared.row.RowKind.{RowKind}
use Rattle.market.specs.declared.row.RowKind.TheVariants as kind
use Rattle.market.specs.declared.side.Side.{Side}
use Rattle.market.specs.declared.side.Side.TheVariants.{Buy, Sell}
use Rattle.market.specs.Combinations.{made}
use Rattle.market.specs.Ladders.{leg_side}
use Rattle.market.specs.Turns.{Turn}
use Rattle.market.specs.Entries.{Entry, Entered}

-- messages of any kind, by how they are read
module _ {Message : Type 0} (reading : Message → Result Call Refusal) (h : List (Turn Message)) where
  -- the order n was entered on side s of the instrument or combination b
  pub record EnteredIn (b : ℕ) (s : Side) (n : ℕ) : Type 0 where
    pub entry : Entry
    pub entered : Entered reading h entry
    pub number : entry.number ≡ n
    pub book : entry.book ≡ b
    pub side : entry.side ≡ s

  -- the order n was entered in a combination, on a side on which it trades a leg in the instrument i on side s
  pub record TradesLeg (cs : List (List Leg)) (i : ℕ) (s : Side) (n : ℕ) : Type 0 where
    pub combination : ℕ
    pub own_side : Side
    pub entered : EnteredIn combination own_side n
    pub legs : List Leg
    pub exists : made cs combination ≡ Some legs
    pub leg : Any (λ l. (l.instrument ≡ i) × (leg_side own_side l ≡ s)) legs

  -- the order n trades the instrument i on side s: its own, or a leg of its combination
  abbrev pub TradesIn : List (List Leg) → ℕ → Side → ℕ → Type 0
  TradesIn cs i s n = EnteredIn i s n ⊎ TradesLeg cs i s n

  -- the buyer and the seller of a row of this kind, in the book b: a trade of contracts or of a leg has two orders that trade that instrument on these sides, a combination trade one or two that were entered there, a cancellation one, and a row of zeros none
  abbrev pub Parties : List (List Leg) → RowKind → ℕ → ℕ → ℕ → Type 0
  Parties cs kind.Blank b buyer seller = (buyer ≡ 0) × (seller ≡ 0)
  Parties cs kind.Trade b buyer seller = TradesIn cs b Buy buyer × TradesIn cs b Sell seller
  Parties cs kind.Leg b buyer seller = TradesIn cs b Buy buyer × TradesIn cs b Sell seller
  Parties cs kind.Combination b buyer seller = (EnteredIn b Buy buyer × ((seller ≡ 0) ⊎ EnteredIn b Sell seller)) ⊎ ((buyer ≡ 0) × EnteredIn b Sell seller)
  Parties cs kind.Cancellation b buyer seller = (EnteredIn b Buy buyer × (seller ≡ 0)) ⊎ ((buyer ≡ 0) × EnteredIn b Sell seller)

  -- a row names such
  abbrev pub Named : List (List Leg) → Row → Type 0
  Named cs row = Parties cs row.kind row.book row.buyer row.seller
