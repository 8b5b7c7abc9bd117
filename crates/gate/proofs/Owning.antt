-- An order that is looked up by its participant's number and its own.
use Rattle.std.proofs.Common.{◌≡◌, ℕ, true, [], ◌∷◌, Some, None, Option, refl}
use Rattle.std.specs.Option.{is_some}
use Rattle.market.specs.declared.call.Call.TheVariants.{Amend}
use Rattle.market.specs.declared.order.Order.{Order}
use Rattle.market.specs.declared.price.Price.{Price}
use Rattle.market.specs.declared.refusal.Refusal.TheVariants as refusal
use Rattle.market.specs.Orders.{own_order}
use Rattle.market.specs.Tables.{unless}
use Rattle.market.specs.Venues.{View, between, trading, amend_fault, fault}
use Rattle.market.proofs.Tables.{passed}

-- an order that is not found is at fault
found : (v : View) (o : Option Order) (q : ℕ) (r : Price) → amend_fault v o q r ≡ None → is_some o ≡ true
found v None q r h = absurd (cc)
found v (Some o) q r h = refl

-- an order that may be amended is the participant's own
pub amend_owns : (v : View) (p n q : ℕ) (r : Price) → fault v (Amend p n q r) ≡ None → is_some (own_order p n v.book.orders) ≡ true
amend_owns v p n q r h =
    let order = own_order p n v.book.orders in
    let free = passed (unless (trading v.phase) refusal.Phase ∷ unless (between 1 999 p) refusal.Participant ∷ amend_fault v order q r ∷ []) h in
    found v order q r free.1.1.0
