-- What the book does with an order that is amended.
use Rattle.std.specs.Prelude.{ℕ, ◌<◌, ◌≤◌, List, ◌++◌}
use Rattle.market.specs.declared.acceptance.Acceptance.TheVariants.{Entered}
use Rattle.market.specs.declared.leg.Leg.{Leg}
use Rattle.market.specs.declared.order.Order.{Order}
use Rattle.market.specs.declared.price.Price.{Price}
use Rattle.market.specs.declared.refusal.Refusal.TheVariants.{NumbersSpent}
use Rattle.market.specs.declared.row.Row.{Row}
use Rattle.market.specs.BookCalls.{BookState, entered, Settles}
use Rattle.market.specs.Endings.{Ending, refused, done}
use Rattle.market.specs.Orders.{own, anew}
use Rattle.market.specs.Revisions.{kept, cancelled, Revises}
use Rattle.market.specs.Round.{Round}

module _ (shares : List ℕ → ℕ → List ℕ) (cs : List (List Leg)) where
  -- the participant's order n, quotes apart, is given the quantity q and the price r; the round ends the call
  pub data Amends (m : BookState) (p n q : ℕ) (r : Price) : Ending BookState → Type 0 where
    -- it keeps its place and its number, which is n, and trades nothing before the round
    in_place : {k f : ℕ} {rows rows' : List Row} {os os' : List Order} → Revises (own p n) q r m.orders (kept k) rows os →
        Round shares cs 1 os rows' f os' →
        Amends m p n q r (done (record { accepted = Entered k 0; rows = rows ++ rows'; after = record { orders = os'; next = m.next } }))
    -- it needs a new number, and that is over 99,999
    no_number : {o : Order} {rows : List Row} {os : List Order} → Revises (own p n) q r m.orders (cancelled o) rows os → 99999 < m.next →
        Amends m p n q r (refused NumbersSpent)
    -- what rests is cancelled, and the order arrives anew under the next number
    arrives : {o : Order} {f left f' : ℕ} {rows rows' rows'' : List Row} {os os' os'' : List Order} → Revises (own p n) q r m.orders (cancelled o) rows os →
        m.next ≤ 99999 → Settles shares cs 1 (record { orders = os; next = m.next }) (anew o q r) rows' f left os' → Round shares cs f os' rows'' f' os'' →
        Amends m p n q r (entered m q left (rows ++ (rows' ++ rows'')) os'')
