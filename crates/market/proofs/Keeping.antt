-- What holds of a book between calls, and what each call keeps.
use Rattle.std.proofs.Common.{◌≡◌, ℕ, subst, ◌+◌, ◌<◌, ◌≤◌, true, cond, eqb, ◌⊎◌, List, [], ◌∷◌, ◌++◌, get_or, sym, refl, ap, ◌∙◌, inl, inr, arith}
use Rattle.std.specs.List.{All, Any, sum_by}
use Rattle.std.proofs.lemmas.Bool.{cases_lt}
use Rattle.std.proofs.lemmas.List.{append-nil, get_or_default}
use Rattle.std.proofs.lemmas.List.Sums.{sum_by-append, sum_by-cons}
use Rattle.std.proofs.lemmas.Bool.Decides.{nat_tests}
use Rattle.market.specs.declared.leg.Leg.{Leg}
use Rattle.market.specs.declared.order.Order.{Order}
use Rattle.market.specs.declared.row.Row.{Row}
use Rattle.market.specs.BookCalls.{BookState}
use Rattle.market.specs.Orders.{lot_book, book_number}
use Rattle.market.specs.Rows.{blank}
use Rattle.market.specs.Turns.{trades, resting}
use Rattle.market.specs.Entries.{Entry}
use Rattle.market.specs.Sessions.{ByArrival, Exists}
use Rattle.market.proofs.Asking.{Bounded, bounded_thins}
use Rattle.market.proofs.Crossing.{Uncrossed, uncrossed_thins}
use Rattle.market.proofs.Lists.{all_parts, all_among, any_cases, any_first, any_behind, any_left, any_right}
use Rattle.market.proofs.Sizes.{Lasting, book_kind, TradedBy, traded_by_lasts}
use Rattle.market.proofs.Sums.{gone, gone-append, gone-blank, Used}
use Rattle.market.proofs.Thinning.{Thins}

pub record Orderly (m : BookState) : Type 0 where
  pub started : 1 ≤ m.next
  pub used : All (Used m.next) m.orders
  pub bounded : Bounded m.orders
  pub uncrossed : Uncrossed m.orders
  pub by_arrival : ByArrival m.orders

pub numbers_below : (m : BookState) → Orderly m → All (λ o. o.number < m.next) m.orders
numbers_below m k i o at = (k.used i o at).1

-- fewer orders, or less of them, are as orderly
pub orderly_thins : (m : BookState) (os : List Order) (n : ℕ) → Orderly m → Thins m.orders os → m.next ≤ n → Orderly (record { orders = os; next = n })
orderly_thins m os n k thins later = record {
  started = omega (arith, k.started);
  used = λ i o at. omega (arith, thins.keeps (Used m.next) (λ o j h. h) k.used i o at);
  bounded = bounded_thins thins k.bounded;
  uncrossed = uncrossed_thins thins k.uncrossed;
  by_arrival = thins.rises k.by_arrival;
}

-- ---- numbers

-- a call gives as many numbers as it has entries, one after another from the next
pub data Gives : ℕ → List Entry → ℕ → Type 0 where
  none : {next : ℕ} → Gives next [] next
  more : {next next' : ℕ} {es : List Entry} (e : Entry) → e.number ≡ next → Gives (next + 1) es next' → Gives next (e ∷ es) next'

-- what the entries have of the number n
abbrev pub arrived : ℕ → List Entry → ℕ
arrived n es = sum_by (λ e. cond (eqb e.number n) e.quantity 0) es

-- an entry is one of these
abbrev pub Among : List Entry → Entry → Type 0
Among es e = Any (λ x. x ≡ e) es

pub gives_later : {next next' : ℕ} {es : List Entry} → Gives next es next' → next ≤ next'
gives_later none = omega arith
gives_later (more e is g) = omega (arith, gives_later g)

-- one number is given where there is one entry
pub gives_one : (e : Entry) → Gives e.number (e ∷ []) (e.number + 1)
gives_one e = more e refl none

-- first these numbers, and then those
pub gives_append : {next next' next'' : ℕ} {es es' : List Entry} → Gives next es next' → Gives next' es' next'' → Gives next (es ++ es') next''
gives_append none g' = g'
gives_append (more e is g) g' = more e is (gives_append g g')

-- the number of an entry is one that the call gives
pub gives_only : {next next' : ℕ} {es : List Entry} (n : ℕ) → Gives next es next' → Any (λ e. e.number ≡ n) es → (next ≤ n) × (n < next')
gives_only n none h = absurd (omega (arith, h.2))
gives_only n (more {es = es} e is g) h = elim (any_cases (λ x. x.number ≡ n) e es h) [
  | inl own ↦ (omega (arith, own, is), omega (arith, own, is, gives_later g))
  | inr other ↦ let r = gives_only n g other in (omega (arith, r.0), r.1)
]

arrived-cons : (n : ℕ) (e : Entry) (es : List Entry) → arrived n (e ∷ es) ≡ cond (eqb e.number n) e.quantity 0 + arrived n es
arrived-cons n e es = sum_by-cons _ e es

pub gives_others_none : {next next' : ℕ} {es : List Entry} (n : ℕ) → Gives next es next' → n < next → arrived n es ≡ 0
gives_others_none n none h = refl
gives_others_none n (more {es = es} e is g) h = grind (arith, nat_tests, arrived-cons n e es, gives_others_none n g (omega (arith, h)))

-- an entry of a call has a number that the call gives, and what has arrived of that number is its quantity
pub gives_own : {next next' : ℕ} {es : List Entry} (e : Entry) → Gives next es next' → Among es e → (next ≤ e.number) × (e.number < next') × (arrived e.number es ≡ e.quantity)
gives_own e none h = absurd (omega (arith, h.2))
gives_own e (more {es = es} x is g) h = elim (any_cases (λ y. y ≡ e) x es h) [
  | inl own ↦
      let same : x.number ≡ e.number = ap (λ (y : Entry). y.number) own in
      let much : x.quantity ≡ e.quantity = ap (λ (y : Entry). y.quantity) own in
      let none_behind = gives_others_none e.number g (omega (arith, same, is)) in
      (omega (arith, same, is), omega (arith, same, is, gives_later g), grind (arith, nat_tests, arrived-cons e.number x es))
  | inr behind ↦
      let r = gives_own e g behind in
      (omega (arith, r.0), r.1, grind (arith, nat_tests, arrived-cons e.number x es))
]

-- two entries of a call that have one number are one
pub gives_single : {next next' : ℕ} {es : List Entry} (e e' : Entry) → Gives next es next' → Among es e → Among es e' → e.number ≡ e'.number → e ≡ e'
gives_single e e' none h h' same = absurd (omega (arith, h.2))
gives_single e e' (more {es = es} x is g) h h' same = elim (any_cases (λ y. y ≡ e) x es h) [
  | inl own ↦ elim (any_cases (λ y. y ≡ e') x es h') [
    | inl own' ↦ sym own ∙ own'
    | inr behind' ↦ absurd (omega (arith, ap (λ (y : Entry). y.number) own, is, same, gives_own e' g behind'))
  ]
  | inr behind ↦ elim (any_cases (λ y. y ≡ e') x es h') [
    | inl own' ↦ absurd (omega (arith, ap (λ (y : Entry). y.number) own', is, same, gives_own e g behind))
    | inr behind' ↦ gives_single e e' g behind behind' same
  ]
]

-- the entries of an entry's number are in its book
pub gives_alone : {next next' : ℕ} {es : List Entry} (e : Entry) → Gives next es next' → Among es e → All (λ x. x.number ≡ e.number → x.book ≡ e.book) es
gives_alone {es = es} e g h k d lt same =
    ap (λ (x : Entry). x.book) (gives_single (get_or es k d) e g (k, get_or es k d, lt, get_or_default es k (get_or es k d) d lt, refl) h same)

-- no entry has a number that was given before
pub gives_others : {next next' : ℕ} {es : List Entry} (n i : ℕ) → Gives next es next' → n < next → All (λ x. x.number ≡ n → x.book ≡ i) es
gives_others {es = es} n i g low k d lt same =
    absurd (omega (arith, gives_only n g (k, get_or es k d, lt, get_or_default es k (get_or es k d) d lt, same)))

-- a number is one that was given before, or that of an entry
pub gives_newest : {next next' : ℕ} {es : List Entry} (n : ℕ) → Gives next es next' → n < next' →
    (n < next) ⊎ ((e : Entry) × (e.number ≡ n) × Among es e)
gives_newest n none h = inl h
gives_newest n (more {next = next} {es = es} e is g) h = elim (gives_newest n g h) [
  | inl low ↦ elim (cases_lt n next) [
    | inl less ↦ inl less
    | inr most ↦ inr (e, omega (arith, is), any_first (λ x. x ≡ e) e es refl)
  ]
  | inr new ↦ inr (new.0, new.1, any_behind (λ x. x ≡ new.0) e es new.2)
]

-- ---- a call

-- the entry is that of the order, whose combination exists
pub record EntryOf (cs : List (List Leg)) (o : Order) (e : Entry) : Type 0 where
  pub number : e.number ≡ o.number
  pub participant : e.participant ≡ o.participant
  pub book : e.book ≡ book_number (lot_book o.lot)
  pub side : e.side ≡ o.side
  pub limit : e.limit ≡ o.price
  pub quote : e.quote ≡ o.quote
  pub traded : trades e.book (book_kind (lot_book o.lot)) ≡ true
  pub exists : Exists cs (lot_book o.lot)

-- from one book to another, a call reports rows and gives numbers: orders of the one book less what the rows say, and of those entered, are those of the other
pub record Keeps (cs : List (List Leg)) (m : BookState) (rows : List Row) (new : List Entry) (m' : BookState) : Type 1 where
  pub gives : Gives m.next new m'.next
  pub balance : (n i : ℕ) → 1 ≤ n → All (TradedBy (trades i) n) m.orders → All (λ e. e.number ≡ n → e.book ≡ i) new →
      resting n m.orders + arrived n new ≡ gone i n rows + resting n m'.orders
  pub comes : (P : Order → Type 0) → Lasting P → All P m.orders → ((o : Order) (e : Entry) → Among new e → EntryOf cs o e → P o) → All P m'.orders
  pub orderly : Orderly m'

-- rows of zeros after the last
pub keeps_padded : (cs : List (List Leg)) (m : BookState) (rows : List Row) (new : List Entry) (m' : BookState) (k : ℕ) → Keeps cs m rows new m' → Keeps cs m (rows ++ blank k) new m'
keeps_padded cs m rows new m' k s = record {
  gives = s.gives;
  balance = λ n i h a b. omega (arith, s.balance n i h a b, gone-append i n rows (blank k), gone-blank i n k);
  comes = s.comes;
  orderly = s.orderly;
}

-- a call that does nothing
pub keeps_still : (cs : List (List Leg)) (m : BookState) (k : ℕ) → Orderly m → Keeps cs m (blank k) [] m
keeps_still cs m k s = keeps_padded cs m [] [] m k (record {
  gives = none;
  balance = λ n i h a b. omega arith;
  comes = λ P lasts a new. a;
  orderly = s;
})

-- an order that has entered is traded by the rows of the book in which its number was entered
entered_traded : (cs : List (List Leg)) (n i : ℕ) (new : List Entry) → All (λ e. e.number ≡ n → e.book ≡ i) new → (o : Order) (e : Entry) → Among new e → EntryOf cs o e → TradedBy (trades i) n o
entered_traded cs n i new b o e there is same =
    rw (all_among (λ x. x.number ≡ n → x.book ≡ i) new e b there (is.number ∙ same)) at is.traded

-- one after the other
pub keeps_then : (cs : List (List Leg)) (m m' m'' : BookState) (rows rows' : List Row) (new new' : List Entry) →
    Keeps cs m rows new m' → Keeps cs m' rows' new' m'' → Keeps cs m (rows ++ rows') (new ++ new') m''
keeps_then cs m m' m'' rows rows' new new' k k' = record {
  gives = gives_append k.gives k'.gives;
  balance = λ n i h a b.
      let parts = all_parts (λ e. e.number ≡ n → e.book ≡ i) new new' b in
      let a' = k.comes (TradedBy (trades i) n) (traded_by_lasts (trades i) n) a (entered_traded cs n i new parts.0) in
      omega (arith, k.balance n i h a parts.0, k'.balance n i h a' parts.1, gone-append i n rows rows', sum_by-append {X = Entry});
  comes = λ P last a seen.
      k'.comes P last (k.comes P last a (λ o e there is. seen o e (any_left (λ x. x ≡ e) new new' there) is))
      (λ o e there is. seen o e (any_right (λ x. x ≡ e) new new' there) is);
  orderly = k'.orderly;
}

-- one after the other, where the second gives no number
pub keeps_then_none : (cs : List (List Leg)) (m m' m'' : BookState) (rows rows' : List Row) (new : List Entry) →
    Keeps cs m rows new m' → Keeps cs m' rows' [] m'' → Keeps cs m (rows ++ rows') new m''
keeps_then_none cs m m' m'' rows rows' new k k' = subst (λ es. Keeps cs m (rows ++ rows') es m'') (append-nil new) (keeps_then cs m m' m'' rows rows' new [] k k')
