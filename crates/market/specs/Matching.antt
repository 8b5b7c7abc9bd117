-- The match of an arriving order.
use Rattle.std.specs.Prelude.{◌≡◌, ℕ, ◌+◌, ◌-◌, ◌<◌, Bool, true, false, List, [], ◌++◌, ℤ, Some, None, Option}
use Rattle.market.specs.declared.leg.Leg.{Leg}
use Rattle.market.specs.declared.order.Order.{Order}
use Rattle.market.specs.declared.price.Price.{Price}
use Rattle.market.specs.declared.row.Row.{Row}
use Rattle.market.specs.declared.side.Side.{Side}
use Rattle.market.specs.Fills.{facing, given, BestLevel, divided, filled_book}
use Rattle.market.specs.Implied.{ImpliedFill}
use Rattle.market.specs.Ladders.{net_to, wanted}
use Rattle.market.specs.Levels.{Best, NoneWithin}
use Rattle.market.specs.Orders.{lot_book}
use Rattle.market.specs.Prices.{good, as_price}
use Rattle.market.specs.Rows.{fill_rows}

-- to one on side s, a level's price is at least as good as unit 1's net, or unit 1 does not exist
abbrev pub level_first : Side → Price → Option ℤ → Bool
level_first s p None = true
level_first s p (Some z) = good s p (as_price z)

module _ (shares : List ℕ → ℕ → List ℕ) where
  -- Match legs o f q os rows f' q' os': with q open of the order o, the next fill f and the book os, the match reports rows and ends with q' open, the next fill f' and the book os'; legs are those of the order's combination, none for an instrument
  pub data Match (legs : Option (List Leg)) (o : Order) : ℕ → ℕ → List Order → List Row → ℕ → ℕ → List Order → Type 0 where
    -- nothing is open any more
    filled : {f : ℕ} {os : List Order} → Match legs o f 0 os [] f 0 os
    -- neither an opposite order nor unit 1 is within the limit
    no_more : {f q : ℕ} {os : List Order} → NoneWithin (lot_book o.lot) o.side o.price os →
        wanted o.side o.price None (net_to o legs os 1) ≡ false → Match legs o f q os [] f q os
    -- the best opposite level is within the limit, and unit 1 is not better: one fill there, divided once by the rule, and on
    fill : {f q f' q' : ℕ} {os os' : List Order} {rows : List Row} (p : Price) → 0 < q →
        Best (lot_book o.lot) o.side os p → good o.side p o.price ≡ true → level_first o.side p (net_to o legs os 1) ≡ true →
        Match legs o (f + 1) (q - given (lot_book o.lot) o.side p os q) (filled_book shares (lot_book o.lot) o.side p os q) rows f' q' os' →
        Match legs o f q os (fill_rows f o.number legs (facing (lot_book o.lot) o.side p os) (divided shares (lot_book o.lot) o.side p os q) ++ rows) f' q' os'
    -- units within the limit, and strictly better than the best opposite level if there is one: their longest run in one implied-in fill, and on
    implied : {f q u f' q' : ℕ} {os os' os'' : List Order} {rows rows' : List Row} (cs : List Leg) (level : Option Price) → legs ≡ Some cs →
        BestLevel (lot_book o.lot) o.side os level → ImpliedFill shares cs o level f q u os os rows os' →
        Match legs o (f + 1) (q - u) os' rows' f' q' os'' →
        Match legs o f q os (rows ++ rows') f' q' os''
