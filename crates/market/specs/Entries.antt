-- The order numbers that answers give, and what was entered under each.
use Rattle.std.specs.Prelude.{◌≡◌, ℕ, ◌<◌, Bool, true, false, cond, List, [], ◌∷◌, ◌++◌, Ok, Err, Result, ◌==◌}
use Rattle.std.specs.List.{Any}
use Rattle.market.specs.declared.call.Call.{Call}
use Rattle.market.specs.declared.call.Call.TheVariants.{Enter, Amend, Cancel, Quote, Define, Switch}
use Rattle.market.specs.declared.call.Duration.{Duration}
use Rattle.market.specs.declared.price.Price.{Price}
use Rattle.market.specs.declared.refusal.Refusal.{Refusal}
use Rattle.market.specs.declared.side.Side.{Side}
use Rattle.market.specs.declared.side.Side.TheVariants.{Buy, Sell}
use Rattle.market.specs.Turns.{Turn}

-- an order number, and what is said of the order by the line whose answer first gave that number; quote tells whether it is a side of a quote
pub record Entry : Type 0 where
  pub number : ℕ
  pub participant : ℕ
  pub book : ℕ
  pub side : Side
  pub quantity : ℕ
  pub limit : Price
  pub quote : Bool

-- the number of a side of a quote: none where nothing is wanted
abbrev pub side_number : ℕ → ℕ → List ℕ
side_number q n = cond (q == 0) [] (n ∷ [])

-- the order numbers in the answer to a line that is accepted: the first of an enter or an amend, and those of a quote's sides
abbrev pub order_numbers : Call → ℕ × ℕ → List ℕ
order_numbers (Enter p i s q r d) a = a.0 ∷ []
order_numbers (Amend p n q r) a = a.0 ∷ []
order_numbers (Cancel p n) a = []
order_numbers (Quote p i q r k w) a = side_number q a.0 ++ side_number k a.1
order_numbers (Define p legs) a = []
order_numbers (Switch w) a = []

-- the order numbers that an answer gives: none where the line could not be read or was refused
abbrev pub numbers_of : Result Call Refusal → Result (ℕ × ℕ) Refusal → List ℕ
numbers_of (Ok c) (Ok a) = order_numbers c a
numbers_of (Ok c) (Err e) = []
numbers_of (Err u) (Ok a) = []
numbers_of (Err u) (Err e) = []

-- messages of any kind, by how they are read
module _ {Message : Type 0} (reading : Message → Result Call Refusal) where
  -- the order numbers that a turn gives
  abbrev pub numbers : Turn Message → List ℕ
  numbers t = numbers_of (reading t.message) t.answer

  -- the turns, newest first, gave this order number
  abbrev pub Given : List (Turn Message) → ℕ → Type 0
  Given h n = Any (λ t. Any (λ k. k ≡ n) (numbers t)) h

  -- the turn's line is accepted, with this answer
  pub record Accepted (t : Turn Message) (c : Call) (a : ℕ × ℕ) : Type 0 where
    pub says : reading t.message ≡ Ok c
    pub answers : t.answer ≡ Ok a

  -- an order number with what is said of it by the accepted line whose answer first gave it
  pub data Entered : List (Turn Message) → Entry → Type 0 where
    -- an enter line
    by_enter : {t : Turn Message} {h : List (Turn Message)} {p i q : ℕ} {s : Side} {r : Price} {d : Duration} {a : ℕ × ℕ} →
        Accepted t (Enter p i s q r d) a → (Given h a.0 → ⊥) → Entered (t ∷ h) (record { number = a.0; participant = p; book = i; side = s; quantity = q; limit = r; quote = false })
    -- an amend line, which says nothing of a book or a side: they are those of the order that it names
    by_amend : {t : Turn Message} {h : List (Turn Message)} {p n q : ℕ} {r : Price} {a : ℕ × ℕ} {old : Entry} →
        Accepted t (Amend p n q r) a → (Given h a.0 → ⊥) → Entered h old → old.number ≡ n →
        Entered (t ∷ h) (record { number = a.0; participant = p; book = old.book; side = old.side; quantity = q; limit = r; quote = false })
    -- the bid of a quote line
    by_bid : {t : Turn Message} {h : List (Turn Message)} {p i q k : ℕ} {r w : Price} {a : ℕ × ℕ} →
        Accepted t (Quote p i q r k w) a → 0 < q → (Given h a.0 → ⊥) → Entered (t ∷ h) (record { number = a.0; participant = p; book = i; side = Buy; quantity = q; limit = r; quote = true })
    -- the offer of a quote line
    by_offer : {t : Turn Message} {h : List (Turn Message)} {p i q k : ℕ} {r w : Price} {a : ℕ × ℕ} →
        Accepted t (Quote p i q r k w) a → 0 < k → (Given h a.1 → ⊥) → Entered (t ∷ h) (record { number = a.1; participant = p; book = i; side = Sell; quantity = k; limit = w; quote = true })
    -- an earlier line
    earlier : {t : Turn Message} {h : List (Turn Message)} {e : Entry} → Entered h e → Entered (t ∷ h) e
