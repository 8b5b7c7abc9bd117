-- Each way in which the old side of a quote is settled.
use Rattle.std.proofs.Common.{◌≡◌, ℕ, List, [], ◌++◌, get_or, Some, None, Option, refl, ap}
use Rattle.std.specs.List.{position}
use Rattle.market.specs.declared.arrival.Arrival.{Arrival}
use Rattle.market.specs.declared.order.Order.{Order}
use Rattle.market.specs.declared.quote.Quote.{Quote}
use Rattle.market.specs.Orders.{lot_size}
use Rattle.market.specs.Quoting.{bid_of, offer_of, old_side}
use Rattle.market.specs.Revisions.{absent, kept, cancelled}
use Rattle.market.specs.Revisions.Revises.{none}
use Rattle.book.specs.declared.told.Told.{Told}
use Rattle.book.specs.OldSides.{side_number, OldSettled, BothSettled}
use Rattle.book.specs.Revised.{Revised}
use Rattle.book.proofs.Finding.{none_found}
use Rattle.book.proofs.Levels.{no_order}
use Rattle.book.proofs.Reports.{tells_none, tells_then}

module _ (a : Arrival) (os : List Order) (t : Told) where
  pub settled_absent : (answer : Option ℕ) → position (old_side a) os ≡ None → answer ≡ side_number a absent → OldSettled a os t answer os t
  settled_absent answer not-there is = record {
    revision = absent;
    rows = [];
    settles = none (none_found (old_side a) os not-there);
    stands = is;
    more = tells_none t;
  }

  module _ (i : ℕ) (found : position (old_side a) os ≡ Some i) (os' : List Order) (t' : Told) where
    pub settled_kept : (n : ℕ) → n ≡ (get_or os i no_order).number → Revised i (lot_size a.lot) a.price os t None os' t' → OldSettled a os t (Some n) os' t'
    settled_kept n is revised = record {
      revision = kept (get_or os i no_order).number;
      rows = revised.rows;
      settles = revised.revises (old_side a) no_order found;
      stands = ap Some is;
      more = revised.more;
    }

    pub settled_cancelled : (x : Order) (answer : Option ℕ) → answer ≡ side_number a absent → Revised i (lot_size a.lot) a.price os t (Some x) os' t' → OldSettled a os t answer os' t'
    settled_cancelled x answer is revised = record {
      revision = cancelled x;
      rows = revised.rows;
      settles = revised.revises (old_side a) no_order found;
      stands = is;
      more = revised.more;
    }

pub settled_both : (quote : Quote) (os : List Order) (t : Told) (bid : Option ℕ) (os₁ : List Order) (t₁ : Told) (offer : Option ℕ) (os₂ : List Order) (t₂ : Told)
    → OldSettled (bid_of quote) os t bid os₁ t₁ → OldSettled (offer_of quote) os₁ t₁ offer os₂ t₂ → BothSettled quote os t (record { bid = bid; offer = offer }) os₂ t₂
settled_both quote os t bid os₁ t₁ offer os₂ t₂ b o = record {
  bid = b.revision;
  offer = o.revision;
  rows = b.rows ++ o.rows;
  settles = record { bid_rows = b.rows; between = os₁; offer_rows = o.rows; revises_bid = b.settles; revises_offer = o.settles; reports = refl };
  bid_stands = b.stands;
  offer_stands = o.stands;
  more = tells_then t t₁ t₂ b.rows o.rows b.more o.more;
}
