-- The match of an arriving order, step by step.
use Rattle.std.specs.Prelude.{◌≡◌, ℕ, ◌+◌, ◌-◌, ◌<◌, ◌≤◌, true, false, List, ◌++◌, Some, None, Option}
use Rattle.market.specs.declared.leg.Leg.{Leg}
use Rattle.market.specs.declared.order.Order.{Order}
use Rattle.market.specs.declared.price.Price.{Price}
use Rattle.market.specs.declared.row.Row.{Row}
use Rattle.market.specs.Fills.{BestLevel}
use Rattle.market.specs.Ladders.{net_to, wanted}
use Rattle.market.specs.Levels.{Best, NoneWithin}
use Rattle.market.specs.Matching.{level_first, Match}
use Rattle.market.specs.Orders.{lot_book, quantity_of}
use Rattle.market.specs.Prices.{good}
use Rattle.book.specs.declared.progress.Progress.{Progress}
use Rattle.book.specs.declared.step.Step.{Step}
use Rattle.book.specs.declared.step.Step.TheVariants.{Level, Units, Over}
use Rattle.book.specs.declared.told.Told.{Told}
use Rattle.book.specs.declared.wanted.Wanted.{Wanted}
use Rattle.book.specs.Reports.{Tells}
use Rattle.book.specs.Runs.{RunWanted}

-- an order trades at this level: it is the best, within the limit, and unit 1 is not better
pub record AtLevel (o : Order) (legs : Option (List Leg)) (os : List Order) (p : Price) : Type 0 where
  pub best : Best (lot_book o.lot) o.side os p
  pub within : good o.side p o.price ≡ true
  pub first : level_first o.side p (net_to o legs os 1) ≡ true

-- an order takes these units: their run beats the best level, if there is one
pub record FromLegs (o : Order) (legs : Option (List Leg)) (q : ℕ) (os : List Order) (w : Wanted) : Type 0 where
  pub level : Option Price
  pub best : BestLevel (lot_book o.lot) o.side os level
  pub wanted : RunWanted o legs level q os w

-- neither an opposite order nor unit 1 is within the limit
pub record NoMore (o : Order) (legs : Option (List Leg)) (os : List Order) : Type 0 where
  pub none : NoneWithin (lot_book o.lot) o.side o.price os
  pub no_unit : wanted o.side o.price None (net_to o legs os 1) ≡ false

-- what an order does next, with q open
abbrev pub Next : Order → Option (List Leg) → ℕ → List Order → Step → Type 0
Next o legs q os (Level p) = AtLevel o legs os p
Next o legs q os (Units w) = FromLegs o legs q os w
Next o legs q os Over = NoMore o legs os

module _ (shares : List ℕ → ℕ → List ℕ) (legs : Option (List Leg)) (o : Order) where
  -- k of q have traded in the fill f, and their rows are told: whatever match follows is one with this fill before it
  pub record Traded (f q : ℕ) (os : List Order) (t : Told) (k : ℕ) (os' : List Order) (t' : Told) : Type 0 where
    pub some : 0 < k
    pub within : k ≤ q
    pub rows : List Row
    pub goes : (new : List Row) (f' q' : ℕ) (os'' : List Order) → Match shares legs o (f + 1) (q - k) os' new f' q' os'' → Match shares legs o f q os (rows ++ new) f' q' os''
    pub more : Tells t rows t'

  -- so much has traded, or the match is over and nothing is told
  abbrev pub Stepped : Progress → List Order → Told → Option ℕ → List Order → Told → Type 0
  Stepped at os t None os' t' = NoMore o legs os × (os' ≡ os) × (t' ≡ t)
  Stepped at os t (Some k) os' t' = Traded at.next_fill at.left os t k os' t'

  -- the order has matched, from the fill g on, and the rows of the match are told
  pub record Matched (g : ℕ) (os : List Order) (t : Told) (f q : ℕ) (os' : List Order) (t' : Told) : Type 0 where
    pub rows : List Row
    pub run : Match shares legs o g (quantity_of o) os rows f q os'
    pub more : Tells t rows t'
