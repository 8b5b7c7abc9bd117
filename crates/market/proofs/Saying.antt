-- What the answer to an accepted line says of the orders that it numbers.
use Rattle.std.proofs.Common.{◌≡◌, ℕ, ◌<◌, ◌≤◌, true, false, ◌⊎◌, List}
use Rattle.std.specs.List.{All, Any}
use Rattle.market.specs.declared.call.Call.{Call}
use Rattle.market.specs.declared.call.Call.TheVariants.{Enter, Amend, Cancel, Quote, Define, Switch}
use Rattle.market.specs.declared.call.Duration.{Duration}
use Rattle.market.specs.declared.leg.Leg.{Leg}
use Rattle.market.specs.declared.order.Order.{Order}
use Rattle.market.specs.declared.price.Price.{Price}
use Rattle.market.specs.declared.side.Side.{Side}
use Rattle.market.specs.declared.side.Side.TheVariants.{Buy, Sell}
use Rattle.market.specs.Acceptances.{acceptance_numbers}
use Rattle.market.specs.BookCalls.{BookState}
use Rattle.market.specs.Endings.{Effect, Ending, refused, done}
use Rattle.market.specs.Orders.{lot_book, book_number}
use Rattle.market.specs.Entries.{Entry}
use Rattle.market.proofs.Keeping.{Among, Keeps}

-- where these orders rest, the line says this of a number in its answer, new or old
pub data Said (os : List Order) : Call → ℕ × ℕ → Entry → Type 0 where
  said_enter : {p i q : ℕ} {s : Side} {r : Price} {d : Duration} {a : ℕ × ℕ} → Said os (Enter p i s q r d) a (record { number = a.0; participant = p; book = i; side = s; quantity = q; limit = r; quote = false })
  said_amend : {p n q : ℕ} {r : Price} {a : ℕ × ℕ} (o : Order) → Any (λ x. x ≡ o) os → o.number ≡ n →
      Said os (Amend p n q r) a (record { number = a.0; participant = p; book = book_number (lot_book o.lot); side = o.side; quantity = q; limit = r; quote = false })
  said_bid : {p i q k : ℕ} {r w : Price} {a : ℕ × ℕ} → 0 < q → Said os (Quote p i q r k w) a (record { number = a.0; participant = p; book = i; side = Buy; quantity = q; limit = r; quote = true })
  said_offer : {p i q k : ℕ} {r w : Price} {a : ℕ × ℕ} → 0 < k → Said os (Quote p i q r k w) a (record { number = a.1; participant = p; book = i; side = Sell; quantity = k; limit = w; quote = true })

-- an order that a line amends rests
abbrev pub Rests : List Order → Call → Type 0
Rests os (Enter p i s q r d) = Unit {0}
Rests os (Amend p n q r) = Any (λ o. o.number ≡ n) os
Rests os (Cancel p n) = Unit {0}
Rests os (Quote p i q r k w) = Unit {0}
Rests os (Define p legs) = Unit {0}
Rests os (Switch w) = Unit {0}

-- the new entries are what the line says of new numbers; whatever else it says is of a number given before
pub record Says (next : ℕ) (os : List Order) (c : Call) (a : ℕ × ℕ) (new : List Entry) : Type 0 where
  pub told : All (Said os c a) new
  pub covers : (x : Entry) → Said os c a x → ((1 ≤ x.number) × (x.number < next)) ⊎ Among new x
  pub rests : Rests os c

-- a call of the book is accepted: its effect keeps all, with new entries that fit its answer
pub record Kept (cs : List (List Leg)) (m : BookState) (Fits : ℕ × ℕ → List Entry → Type 0) (e : Effect BookState) : Type 1 where
  pub new : List Entry
  pub fits : Fits (acceptance_numbers e.accepted) new
  pub keeps : Keeps cs m e.rows new e.after

-- where the call is accepted
abbrev pub Ended : List (List Leg) → BookState → (ℕ × ℕ → List Entry → Type 0) → Ending BookState → Type 1
Ended cs m Fits (refused e) = Unit {1}
Ended cs m Fits (done e) = Kept cs m Fits e
