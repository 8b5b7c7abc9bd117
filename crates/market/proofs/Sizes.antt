-- An order with another quantity is in all else the same.
use Rattle.std.proofs.Common.{◌≡◌, ℕ, ◌-◌, Bool, true, refl}
use Rattle.market.specs.declared.book_id.BookId.{BookId}
use Rattle.market.specs.declared.book_id.BookId.TheVariants.{Instrument, Combination}
use Rattle.market.specs.declared.order.Lot.{Lot}
use Rattle.market.specs.declared.order.Lot.TheVariants.{Outright, Combined}
use Rattle.market.specs.declared.order.Order.{Order}
use Rattle.market.specs.declared.row.RowKind.{RowKind}
use Rattle.market.specs.declared.row.RowKind.TheVariants as kind
use Rattle.market.specs.Orders.{lot_book, lot_size, sized_lot, quantity_of, less}

pub lot_size-sized : (l : Lot) (k : ℕ) → lot_size (sized_lot l k) ≡ k
lot_size-sized (Outright i q) k = refl
lot_size-sized (Combined c q) k = refl

pub lot_book-sized : (l : Lot) (k : ℕ) → lot_book (sized_lot l k) ≡ lot_book l
lot_book-sized (Outright i q) k = refl
lot_book-sized (Combined c q) k = refl

-- what holds of an order holds of it after a trade
abbrev pub Lasting : (Order → Type 0) → Type 0
Lasting P = (o : Order) (k : ℕ) → P o → P (less o k)

-- the rows that trade an order in this book
abbrev pub book_kind : BookId → RowKind
book_kind (Instrument i) = kind.Trade
book_kind (Combination c) = kind.Combination

-- an order of the number n is traded by rows of this kind
abbrev pub TradedBy : (RowKind → Bool) → ℕ → Order → Type 0
TradedBy is n o = o.number ≡ n → is (book_kind (lot_book o.lot)) ≡ true

pub traded_by_lasts : (is : RowKind → Bool) (n : ℕ) → Lasting (TradedBy is n)
traded_by_lasts is n o k h = rw (lot_book-sized o.lot (quantity_of o - k)) h
