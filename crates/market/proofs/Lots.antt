-- The lot that a line names: its size, its book, and the rows that trade it.
use Rattle.std.proofs.Common.{◌≡◌, ℕ, ltb, true, refl}
use Rattle.std.proofs.lemmas.Bool.{cond_both}
use Rattle.market.specs.Orders.{lot_book, lot_size, lot_of, book_number}
use Rattle.market.specs.Turns.{trades}
use Rattle.market.proofs.Sizes.{book_kind}

pub lot_of_size : (i q : ℕ) → lot_size (lot_of i q) ≡ q
lot_of_size i q = cond_both (ltb i 1001) _ _ (λ l. lot_size l ≡ q) (λ _. refl) (λ _. refl)

pub lot_of_book : (i q : ℕ) → book_number (lot_book (lot_of i q)) ≡ i
lot_of_book i q = cond_both (ltb i 1001) _ _ (λ l. book_number (lot_book l) ≡ i) (λ _. refl) (λ _. refl)

pub lot_of_traded : (i q : ℕ) → trades (book_number (lot_book (lot_of i q))) (book_kind (lot_book (lot_of i q))) ≡ true
lot_of_traded i q = cond_both (ltb i 1001) _ _ (λ l. trades (book_number (lot_book l)) (book_kind (lot_book l)) ≡ true) (λ e. rw e refl) (λ e. rw e refl)
