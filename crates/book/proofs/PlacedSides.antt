-- Each way in which a side of a quote is placed.
use Rattle.std.proofs.Common.{◌≡◌, ℕ, ◌+◌, Bool, true, false, cond, List, [], Some, None, Ok, Err, Option, Result, sym, refl, ap, ◌∙◌, subst}
use Rattle.market.specs.declared.arrival.Arrival.{Arrival}
use Rattle.market.specs.declared.call.Duration.TheVariants.{Day}
use Rattle.market.specs.declared.leg.Leg.{Leg}
use Rattle.market.specs.declared.order.Order.{Order}
use Rattle.market.specs.declared.quote.Quote.{Quote}
use Rattle.market.specs.declared.refusal.Refusal.{Refusal}
use Rattle.market.specs.BookCalls.{NoRoom}
use Rattle.market.specs.Endings.{refused}
use Rattle.market.specs.Orders.{arriving}
use Rattle.market.specs.Quoting.{bid_of, offer_of, is_new, old_number, needs, PlacesSide, Quotes}
use Rattle.market.specs.Quoting.PlacesSide.{stands, arrives}
use Rattle.market.specs.Quoting.Quotes.{no_room_bid, no_room_offer}
use Rattle.market.specs.Revisions.{Revision}
use Rattle.book.specs.declared.placing.Placed.{Placed}
use Rattle.book.specs.declared.placing.PlacedSides.{PlacedSides}
use Rattle.book.specs.declared.placing.Placing.{Placing}
use Rattle.book.specs.declared.progress.Progress.{Progress}
use Rattle.book.specs.declared.side_numbers.SideNumbers.{SideNumbers}
use Rattle.book.specs.declared.told.Told.{Told}
use Rattle.book.specs.OldSides.{side_number, numbers_needed}
use Rattle.book.specs.PlacedSides.{state_at, SidePlaced, SidesPlaced}
use Rattle.book.specs.Settling.{Arrived, ArrivedBy}
use Rattle.book.proofs.Reports.{tells_none, tells_then, same_then}

-- a side with no number is new
without_number : (a : Arrival) (v : Revision) → None ≡ side_number a v → is_new a v ≡ true
without_number a v h = go (is_new a v) h
  where
    go : (t : Bool) → None ≡ cond t None (Some (old_number v)) → t ≡ true
    go true h = refl
    go false h = cc

-- a side with a number is not, and has that of its old side
with_number : (a : Arrival) (v : Revision) (n : ℕ) → Some n ≡ side_number a v → (is_new a v ≡ false) × (old_number v ≡ n)
with_number a v n h = go (is_new a v) h
  where
    go : (t : Bool) → Some n ≡ cond t None (Some (old_number v)) → (t ≡ false) × (old_number v ≡ n)
    go true h = absurd (cc)
    go false h = (refl, cc)

-- it needs a number where it has none
pub needs_number : (a : Arrival) (v : Revision) (number : Option ℕ) → number ≡ side_number a v → needs a v ≡ numbers_needed number
needs_number a v number h = go (is_new a v) ∙ ap numbers_needed (sym h)
  where
    go : (t : Bool) → cond t 1 0 ≡ numbers_needed (cond t None (Some (old_number v)))
    go true = refl
    go false = refl

module _ (shares : List ℕ → ℕ → List ℕ) (cs : List (List Leg)) (a : Arrival) (at : Placing) (os : List Order) (t : Told) where
  pub placed_already : (number : Option ℕ) (n : ℕ) → number ≡ Some n → SidePlaced shares cs a at os t number (Ok (record { number = n; after = at })) os t
  placed_already number n is = record {
    places = λ v h.
        let old = with_number a v n (sym is ∙ h) in
        record {
          rows = [];
          places = subst (λ k. PlacesSide shares cs at.next_fill (state_at os at) a v k [] at.next_fill (state_at os at)) old.1 (stands old.0);
          more = tells_none t;
        };
  }

  module _ (number : Option ℕ) (is : number ≡ None) (day : a.duration ≡ Day) (o : Order) (order : o ≡ arriving a at.next) (r : Result Progress Refusal) (os' : List Order) (t' : Told) (came : Arrived shares cs at.next_fill o os t r os' t') where
    arrived : ArrivedBy shares cs at.next_fill (state_at os at) a t t' r os'
    arrived = came.arrives (state_at os at) a refl order day

    pub placed_new : (p : Progress) → r ≡ Ok p → SidePlaced shares cs a at os t number (Ok (record { number = at.next; after = record { next = at.next + 1; next_fill = p.next_fill } })) os' t'
    placed_new p ok = record {
      places = λ v h.
          let new = subst (λ (x : Result Progress Refusal). ArrivedBy shares cs at.next_fill (state_at os at) a t t' x os') ok arrived in
          record { rows = new.rows; places = arrives (without_number a v (sym is ∙ h)) new.settles; more = new.more };
    }

-- ---- both sides

module _ (shares : List ℕ → ℕ → List ℕ) (cs : List (List Leg)) (k : Quote) (next : ℕ) (os : List Order) (t : Told) (numbers : SideNumbers) (side : Arrival) (is_bid : side ≡ bid_of k) (os₁ : List Order) (t₁ : Told) where
  abbrev bid_at : Placing
  bid_at = record { next = next; next_fill = 1 }

  abbrev bid_placed : Result Placed Refusal → Arrival → Type 0
  bid_placed r a = SidePlaced shares cs a bid_at os t numbers.bid r os₁ t₁

  pub no_bid : (e : Refusal) (r : Result PlacedSides Refusal) → r ≡ Err e → bid_placed (Err e) side → SidesPlaced shares cs k next os t numbers r os₁ t₁
  no_bid e r err bid =
      subst (λ (z : Result PlacedSides Refusal). SidesPlaced shares cs k next os t numbers z os₁ t₁) (sym err) (record {
        places = λ u v bid_stands offer_stands.
            let x = (subst (bid_placed (Err e)) is_bid bid).places u bid_stands in
            record {
              refused = λ m rows is settles fit.
                  subst (λ (y : Refusal). Quotes shares cs m k (refused y)) (sym x.refusal)
                  (no_room_bid settles fit x.new (subst (λ n. NoRoom shares cs 1 (record { orders = os; next = n }) (bid_of k)) (sym is) x.no_room));
              back = x.back;
            };
      })

  module _ (b : Placed) (placed : bid_placed (Ok b) side) (side' : Arrival) (is_offer : side' ≡ offer_of k) (os₂ : List Order) (t₂ : Told) where
    bid : bid_placed (Ok b) (bid_of k)
    bid = subst (bid_placed (Ok b)) is_bid placed

    abbrev offer_placed : Result Placed Refusal → Arrival → Type 0
    offer_placed r a = SidePlaced shares cs a b.after os₁ t₁ numbers.offer r os₂ t₂

    pub no_offer : (e : Refusal) (r : Result PlacedSides Refusal) → r ≡ Err e → offer_placed (Err e) side' → SidesPlaced shares cs k next os t numbers r os₂ t₂
    no_offer e r err offer =
        subst (λ (z : Result PlacedSides Refusal). SidesPlaced shares cs k next os t numbers z os₂ t₂) (sym err) (record {
          places = λ u v bid_stands offer_stands.
              let x = bid.places u bid_stands in
              let y = (subst (offer_placed (Err e)) is_offer offer).places v offer_stands in
              record {
                refused = λ m rows is settles fit.
                    subst (λ (z : Refusal). Quotes shares cs m k (refused z)) (sym y.refusal)
                    (no_room_offer settles fit (subst (λ n. PlacesSide shares cs 1 (record { orders = os; next = n }) (bid_of k) u b.number x.rows b.after.next_fill (state_at os₁ b.after)) (sym is) x.places) y.new y.no_room);
                back = record { report = same_then t t₁ t₂ x.more.report y.back.report; wiped = y.back.wiped };
              };
        })

    pub placed_both : (o : Placed) → offer_placed (Ok o) side' → SidesPlaced shares cs k next os t numbers (Ok (record { bid = b; offer = o })) os₂ t₂
    placed_both o offer = record {
      places = λ u v bid_stands offer_stands.
          let x = bid.places u bid_stands in
          let y = (subst (offer_placed (Ok o)) is_offer offer).places v offer_stands in
          record { between = os₁; bid_rows = x.rows; offer_rows = y.rows; bid = x.places; offer = y.places; more = tells_then t t₁ t₂ x.rows y.rows x.more y.more };
    }
