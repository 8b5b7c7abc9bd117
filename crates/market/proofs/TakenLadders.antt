-- What taking contracts does to ladders: a fill drops the front of the ladder that it takes from, and leaves every other ladder as it was.
use Rattle.std.proofs.Common.{◌≡◌, ℕ, ◌+◌, ◌-◌, ◌<◌, ◌≤◌, Bool, true, false, not, eqb, List, [], ◌∷◌, ◌++◌, length, take, drop, replicate, filter, None, refl, sym, ap, ◌∙◌, ◌⊎◌, inl, inr, arith}
use Rattle.std.specs.Prelude.{ℤ}
use Rattle.std.specs.List.{All, sum_by}
use Rattle.std.proofs.lemmas.Bool.{cases_Bool, cond_both, and_parts, and_left, and_right, eqb-true}
use Rattle.std.proofs.lemmas.Bool.Decides.{nat_tests}
use Rattle.std.proofs.lemmas.List.{append_assoc, replicate-append-replicate, length-append, length-drop, length-replicate, length-take, drop-append-le, drop-replicate, drop-drop, drop-take, take-append-drop, take-append-le, take-replicate, take-take}
use Rattle.std.proofs.lemmas.List.Elements.{All-nil, All-cons, All-head, All-tail, All-append, All-weaker, filter_passes}
use Rattle.std.proofs.lemmas.List.Sums.{sum_by-cons}
use Rattle.rules.specs.Domain.{total, Below, Laws}
use Rattle.market.specs.declared.book_id.BookId.{BookId}
use Rattle.market.specs.declared.book_id.BookId.TheVariants.{Instrument, Combination}
use Rattle.market.specs.declared.order.Order.{Order}
use Rattle.market.specs.declared.price.Price.{Price}
use Rattle.market.specs.declared.row.Row.{Row}
use Rattle.market.specs.declared.row.RowKind.TheVariants.{Trade}
use Rattle.market.specs.declared.side.Side.{Side}
use Rattle.market.specs.declared.side.Side.TheVariants.{Buy, Sell}
use Rattle.market.specs.Fills.{facing, given, divided, filled_book}
use Rattle.market.specs.Implied.{Taken}
use Rattle.market.specs.Implied.Taken.{taken_all, next_level}
use Rattle.market.specs.Ladders.{contracts, ranked, ladder}
use Rattle.market.specs.Levels.{in_level, level, quantities, Best, reduced, after_fill}
use Rattle.market.specs.Orders.{lot_book, stands, quantity_of, less, same_book, book_number}
use Rattle.market.specs.Prices.{opposite, good, same_side, same_price}
use Rattle.market.specs.Rows.{buyer_of, trade_row, some_rows, fill_rows}
use Rattle.market.specs.FairTrades.{prices_of, on_side}
use Rattle.market.proofs.Asking.{Bounded, bounded_after_fill, shares_below, shares_total}
use Rattle.market.proofs.RankedLadders.{ladder_split, ladder_best, ladder_open, level_price, best_exists}
use Rattle.market.proofs.Sizes.{lot_size-sized, lot_book-sized}
use Rattle.market.proofs.Thinning.{all_reduced}

-- ---- an order less what has traded stands where it stood

stands_less : (b : BookId) (s : Side) (o : Order) (k : ℕ) → stands b s (less o k) ≡ stands b s o
stands_less b s o k = rw (lot_book-sized o.lot (quantity_of o - k)) refl

in_level_less : (b : BookId) (s : Side) (p : Price) (o : Order) (k : ℕ) → in_level b s p (less o k) ≡ in_level b s p o
in_level_less b s p o k = rw (lot_book-sized o.lot (quantity_of o - k)) refl

-- a test that asks nothing of what is open
abbrev Steady : (Order → Bool) → Type 0
Steady test = (o : Order) (k : ℕ) → test (less o k) ≡ test o

module _ (test : Order → Bool) (steady : Steady test) where
  -- the shares are gone from the orders that pass
  reduced_total : (os : List Order) (ks : List ℕ) → Below ks (quantities (filter test os)) →
      total (quantities (filter test (reduced test os ks))) + total ks ≡ total (quantities (filter test os))
  reduced_total [] [] h = refl
  reduced_total [] (k ∷ ks) h = absurd h
  reduced_total (o ∷ os) [] h = omega arith
  reduced_total (o ∷ os) (k ∷ ks) h = elim (cases_Bool (test o)) [
    | inl e ↦
        let b : (k ≤ quantity_of o) × Below ks (quantities (filter test os)) = rw e at h in
        rw (e, steady o k, e) (omega (arith, reduced_total os ks b.1, b.0, lot_size-sized o.lot (quantity_of o - k)))
    | inr e ↦ rw (e, e) (reduced_total os (k ∷ ks) (rw e at h))
  ]

  -- where a test passes none that give shares, those that pass it stay as found
  reduced_elsewhere : (other : Order → Bool) → Steady other → ((o : Order) → test o ≡ true → other o ≡ false) →
      (os : List Order) (ks : List ℕ) → filter other (reduced test os ks) ≡ filter other os
  reduced_elsewhere other still apart [] ks = refl
  reduced_elsewhere other still apart (o ∷ os) [] = refl
  reduced_elsewhere other still apart (o ∷ os) (k ∷ ks) = elim (cases_Bool (test o)) [
    | inl e ↦ rw (e, still o k, apart o e) (reduced_elsewhere other still apart os ks)
    | inr e ↦ rw (e, reduced_elsewhere other still apart os (k ∷ ks)) refl
  ]

-- ---- one fill

none_better_lasts : (b : BookId) (s : Side) (p : Price) (o : Order) (k : ℕ) → (stands b (opposite s) o ≡ true → good s p o.price ≡ true) → stands b (opposite s) (less o k) ≡ true → good s p o.price ≡ true
none_better_lasts b s p o k h e = h (sym (stands_less b (opposite s) o k) ∙ e)

drop_front : (n m : ℕ) (z : ℤ) (zs : List ℤ) → m ≤ n → drop m (replicate n z ++ zs) ≡ replicate (n - m) z ++ zs
drop_front n m z zs h = drop-append-le m (replicate n z) zs (omega (arith, length-replicate n z)) ∙ ap (λ ys. ys ++ zs) (drop-replicate m n z)

take_front : (n m : ℕ) (z : ℤ) (zs : List ℤ) → m ≤ n → take m (replicate n z ++ zs) ≡ replicate m z
take_front n m z zs h = take-append-le m (replicate n z) zs (omega (arith, length-replicate n z)) ∙ take-replicate m n z h

module _ (b : BookId) (s : Side) (p : Price) (os : List Order) (best : Best b s os p) where
  -- shares out of the best level drop as many contracts off the ladder
  shares_ladder : (ks : List ℕ) → Below ks (quantities (facing b s p os)) →
      ladder b s (after_fill (in_level b (opposite s) p) os ks) ≡ drop (total ks) (ladder b s os)
  shares_ladder ks below =
      let test = in_level b (opposite s) p in
      let outside : Order → Bool = λ o. not (test o) in
      let left = reduced test os ks in
      let steady : Steady test = in_level_less b (opposite s) p in
      let none : All (λ o. stands b (opposite s) o ≡ true → good s p o.price ≡ true) left =
      all_reduced (λ o. stands b (opposite s) o ≡ true → good s p o.price ≡ true) (none_better_lasts b s p) test os ks best.none_better in
      let sum : total (quantities (filter test left)) + total ks ≡ total (quantities (filter test os)) = reduced_total test steady os ks below in
      let rest : filter outside left ≡ filter outside os =
      reduced_elsewhere test steady outside (λ o k. ap not (steady o k)) (λ o e. ap not e) os ks in
      let fewer : total (quantities (filter test left)) ≡ total (quantities (filter test os)) - total ks = omega arith in
      ladder_open b s left
      ∙ ladder_split b s p left none
      ∙ rw (fewer, rest) (sym (drop_front (total (quantities (filter test os))) (total ks) p.0 (ladder b s (filter outside os)) (omega arith)))
      ∙ ap (drop (total ks)) (sym (ladder_best b s os p best))

  -- up to all of the best level, the first contracts are at its price
  front_of_ladder : (m : ℕ) → m ≤ total (quantities (facing b s p os)) → take m (ladder b s os) ≡ replicate m p.0
  front_of_ladder m h = ap (take m) (ladder_best b s os p best) ∙ take_front (total (quantities (facing b s p os))) m p.0 _ h

  front_within : (m : ℕ) → m ≤ total (quantities (facing b s p os)) → m ≤ length (ladder b s os)
  front_within m h =
      omega (arith, ap length (ladder_best b s os p best), length-append (replicate (total (quantities (facing b s p os))) p.0) (ladder b s (filter (λ o. not (in_level b (opposite s) p o)) os)), length-replicate (total (quantities (facing b s p os))) p.0)

module _ (shares : List ℕ → ℕ → List ℕ) (laws : Laws shares) where
  -- a fill drops what it takes off the front of the ladder
  pub filled_ladder : (b : BookId) (s : Side) (p : Price) (os : List Order) (q : ℕ) → Bounded os → Best b s os p →
      ladder b s (filled_book shares b s p os q) ≡ drop (given b s p os q) (ladder b s os)
  filled_ladder b s p os q bounded best =
      shares_ladder b s p os best (divided shares b s p os q) (shares_below shares laws b s p os q bounded best)
      ∙ ap (λ n. drop n (ladder b s os)) (shares_total shares laws b s p os q bounded best)

-- ---- other ladders

-- another book, or the other side
abbrev pub Elsewhere : BookId → Side → BookId → Side → Type 0
Elsewhere b s b' s' = (same_book b b' ≡ false) ⊎ (same_side s s' ≡ false)

other_book : (a b c : BookId) → same_book a b ≡ true → same_book b c ≡ false → same_book a c ≡ false
other_book (Instrument i) (Instrument j) (Instrument k) h e = grind (arith, nat_tests)
other_book (Instrument i) (Instrument j) (Combination k) h e = refl
other_book (Instrument i) (Combination j) c h e = absurd (grind arith)
other_book (Combination i) (Instrument j) c h e = absurd (grind arith)
other_book (Combination i) (Combination j) (Instrument k) h e = refl
other_book (Combination i) (Combination j) (Combination k) h e = grind (arith, nat_tests)

other_side : (a b c : Side) → same_side a (opposite b) ≡ true → same_side b c ≡ false → same_side a (opposite c) ≡ false
other_side a Buy Buy h e = absurd (grind arith)
other_side a Sell Sell h e = absurd (grind arith)
other_side Buy Buy Sell h e = absurd (grind arith)
other_side Sell Buy Sell h e = refl
other_side Buy Sell Buy h e = refl
other_side Sell Sell Buy h e = absurd (grind arith)

stands_apart : (b : BookId) (s : Side) (b' : BookId) (s' : Side) → Elsewhere b s b' s' → (o : Order) → stands b (opposite s) o ≡ true → stands b' (opposite s') o ≡ false
stands_apart b s b' s' (inl e) o h = and_left (same_book (lot_book o.lot) b') (same_side o.side (opposite s')) (other_book (lot_book o.lot) b b' (and_parts (same_book (lot_book o.lot) b) (same_side o.side (opposite s)) h).0 e)
stands_apart b s b' s' (inr e) o h = and_right (same_book (lot_book o.lot) b') (same_side o.side (opposite s')) (other_side o.side s s' (and_parts (same_book (lot_book o.lot) b) (same_side o.side (opposite s)) h).1 e)

-- a fill leaves every other ladder as it was
pub shares_elsewhere : (b : BookId) (s : Side) (p : Price) (os : List Order) (ks : List ℕ) (b' : BookId) (s' : Side) → Elsewhere b s b' s' →
    ladder b' s' (after_fill (in_level b (opposite s) p) os ks) ≡ ladder b' s' os
shares_elsewhere b s p os ks b' s' e =
    let test = in_level b (opposite s) p in
    ladder_open b' s' (reduced test os ks)
    ∙ ap (λ xs. contracts (ranked s' xs))
    (reduced_elsewhere test (in_level_less b (opposite s) p) (stands b' (opposite s')) (stands_less b' (opposite s'))
    (λ o h. stands_apart b s b' s' e o (and_parts (stands b (opposite s) o) (same_price o.price p) h).0) os ks)

pub filled_elsewhere : (shares : List ℕ → ℕ → List ℕ) (b : BookId) (s : Side) (p : Price) (os : List Order) (q : ℕ) (b' : BookId) (s' : Side) → Elsewhere b s b' s' →
    ladder b' s' (filled_book shares b s p os q) ≡ ladder b' s' os
filled_elsewhere shares b s p os q b' s' e = shares_elsewhere b s p os (divided shares b s p os q) b' s' e

-- ---- rows, laid out

pub prices_append : (xs ys : List Row) → prices_of (xs ++ ys) ≡ prices_of xs ++ prices_of ys
prices_append [] ys = refl
prices_append (row ∷ xs) ys = rw (prices_append xs ys) (sym (append_assoc (replicate row.quantity row.price.0) (prices_of xs) (prices_of ys)))

pub prices_length : (rows : List Row) → length (prices_of rows) ≡ sum_by (λ row. row.quantity) rows
prices_length [] = refl
prices_length (row ∷ rows) =
    omega (arith, prices_length rows, sum_by-cons (λ (r : Row). r.quantity) row rows, length-append (replicate row.quantity row.price.0) (prices_of rows), length-replicate row.quantity row.price.0)

-- the rows of a fill at one price
prices_fill : (f n : ℕ) (p : Price) (os : List Order) (ks : List ℕ) → All (λ o. o.price ≡ p) os → Below ks (quantities os) → prices_of (fill_rows f n None os ks) ≡ replicate (total ks) p.0
prices_fill f n p [] [] a h = refl
prices_fill f n p [] (k ∷ ks) a h = absurd h
prices_fill f n p (o ∷ os) [] a h = absurd h
prices_fill f n p (o ∷ os) (k ∷ ks) a h =
    let more = prices_fill f n p os ks (All-tail (λ x. x.price ≡ p) o os a) h.1 in
    elim (cases_Bool (eqb k 0)) [
      | inl e ↦
          let none : total ks ≡ k + total ks = omega (arith, eqb-true k 0 e) in
          rw (e, more) (ap (λ m. replicate m p.0) none)
      | inr e ↦ rw (e, more, All-head (λ x. x.price ≡ p) o os a) (replicate-append-replicate k (total ks) p.0)
    ]

-- a row trades contracts of b for the order n on side s, in the fill f
pub record Trades (f n : ℕ) (b : BookId) (s : Side) (row : Row) : Type 0 where
  pub trade : row.kind ≡ Trade
  pub fill : row.fill ≡ f
  pub book : row.book ≡ book_number b
  pub named : on_side s row ≡ n

same_number : (a b : BookId) → same_book a b ≡ true → book_number a ≡ book_number b
same_number (Instrument i) (Instrument j) h = eqb-true i j h
same_number (Instrument i) (Combination j) h = absurd (grind arith)
same_number (Combination i) (Instrument j) h = absurd (grind arith)
same_number (Combination i) (Combination j) h = eqb-true i j h

buys : (a : Side) (m n : ℕ) → same_side a Sell ≡ true → buyer_of a m n ≡ n
buys Buy m n h = absurd (grind arith)
buys Sell m n h = refl

sells : (a : Side) (m n : ℕ) → same_side a Buy ≡ true → buyer_of (opposite a) m n ≡ n
sells Buy m n h = refl
sells Sell m n h = absurd (grind arith)

names_taker : (s : Side) (f n : ℕ) (o : Order) (k : ℕ) → same_side o.side (opposite s) ≡ true → on_side s (trade_row f n o k) ≡ n
names_taker Buy f n o k h = buys o.side o.number n h
names_taker Sell f n o k h = sells o.side o.number n h

trade_trades : (f n : ℕ) (b : BookId) (s : Side) (o : Order) (k : ℕ) → stands b (opposite s) o ≡ true → Trades f n b s (trade_row f n o k)
trade_trades f n b s o k h =
    let parts = and_parts (same_book (lot_book o.lot) b) (same_side o.side (opposite s)) h in
    record { trade = refl; fill = refl; book = same_number (lot_book o.lot) b parts.0; named = names_taker s f n o k parts.1 }

fill_trades : (f n : ℕ) (b : BookId) (s : Side) (os : List Order) (ks : List ℕ) → All (λ o. stands b (opposite s) o ≡ true) os → All (Trades f n b s) (fill_rows f n None os ks)
fill_trades f n b s [] ks a = All-nil (Trades f n b s)
fill_trades f n b s (o ∷ os) [] a = All-nil (Trades f n b s)
fill_trades f n b s (o ∷ os) (k ∷ ks) a =
    All-append (Trades f n b s) (some_rows k (trade_row f n o k ∷ [])) (fill_rows f n None os ks)
    (cond_both (eqb k 0) [] (trade_row f n o k ∷ []) (All (Trades f n b s))
    (λ _. All-nil (Trades f n b s))
    (λ _. All-cons (Trades f n b s) (trade_row f n o k) [] (trade_trades f n b s o k (All-head (λ x. stands b (opposite s) x ≡ true) o os a)) (All-nil (Trades f n b s))))
    (fill_trades f n b s os ks (All-tail (λ x. stands b (opposite s) x ≡ true) o os a))

level_stands : (b : BookId) (s : Side) (p : Price) (os : List Order) → All (λ o. stands b s o ≡ true) (level b s p os)
level_stands b s p os =
    All-weaker (λ o. in_level b s p o ≡ true) (λ o. stands b s o ≡ true)
    (λ o h. (and_parts (stands b s o) (same_price o.price p) h).0)
    (level b s p os) (filter_passes (in_level b s p) os)

-- ---- taking contracts, level after level

take_on : {X : Type 0} (m k : ℕ) (xs : List X) → m ≤ k → take m xs ++ take (k - m) (drop m xs) ≡ take k xs
take_on m k xs h =
    let sum : m + (k - m) ≡ k = omega arith in
    let front : take m (take k xs) ≡ take m xs = take-take m k xs h in
    let back : drop m (take k xs) ≡ take (k - m) (drop m xs) = ap (λ j. drop m (take j xs)) (sym sum) ∙ drop-take m (k - m) xs in
    rw (← front, ← back) (take-append-drop m (take k xs))

-- what taking q contracts of a ladder comes to: the rows lay out its front, and the book keeps the rest
pub record LadderTaken (b : BookId) (s : Side) (q : ℕ) (os : List Order) (rows : List Row) (os' : List Order) : Type 0 where
  pub enough : q ≤ length (ladder b s os)
  pub prices : prices_of rows ≡ take q (ladder b s os)
  pub left : ladder b s os' ≡ drop q (ladder b s os)

module _ (shares : List ℕ → ℕ → List ℕ) (laws : Laws shares) where
  -- what one fill comes to
  fill_taken : (f n : ℕ) (b : BookId) (s : Side) (p : Price) (os : List Order) (q : ℕ) → Bounded os → Best b s os p →
      LadderTaken b s (given b s p os q) os (fill_rows f n None (facing b s p os) (divided shares b s p os q)) (filled_book shares b s p os q)
  fill_taken f n b s p os q bounded best =
      let within : given b s p os q ≤ total (quantities (facing b s p os)) = omega arith in
      let sum = shares_total shares laws b s p os q bounded best in
      record {
        enough = front_within b s p os best (given b s p os q) within;
        prices =
            prices_fill f n p (facing b s p os) (divided shares b s p os q) (level_price (stands b (opposite s)) p os) (shares_below shares laws b s p os q bounded best)
            ∙ ap (λ m. replicate m p.0) sum ∙ sym (front_of_ladder b s p os best (given b s p os q) within);
        left = filled_ladder shares laws b s p os q bounded best;
      }

  -- and as many as are wanted come level after level
  taken_step : (b : BookId) (s : Side) (m q : ℕ) (os os' os'' : List Order) (rows rows' : List Row) → m ≤ q →
      LadderTaken b s m os rows os' → LadderTaken b s (q - m) os' rows' os'' → LadderTaken b s q os (rows ++ rows') os''
  taken_step b s m q os os' os'' rows rows' le h more =
      let all : m + (q - m) ≡ q = omega arith in
      record {
        enough = omega (arith, h.enough, more.enough, ap length h.left, length-drop m (ladder b s os));
        prices = prices_append rows rows' ∙ rw (h.prices, more.prices, h.left) (take_on m q (ladder b s os) le);
        left = more.left ∙ ap (drop (q - m)) h.left ∙ drop-drop (q - m) m (ladder b s os) ∙ ap (λ k. drop k (ladder b s os)) all;
      }

  module _ (f n : ℕ) (b : BookId) (s : Side) where
    pub taken_bounded : {q : ℕ} {os os' : List Order} {rows : List Row} → Taken shares f n b s q os rows os' → Bounded os → Bounded os'
    taken_bounded taken_all bounded = bounded
    taken_bounded (next_level {q} {os} p h best t) bounded = taken_bounded t (bounded_after_fill (in_level b (opposite s) p) os (divided shares b s p os q) bounded)

    pub taken_ladder : {q : ℕ} {os os' : List Order} {rows : List Row} → Taken shares f n b s q os rows os' → Bounded os → LadderTaken b s q os rows os'
    taken_ladder taken_all bounded = record { enough = omega arith; prices = refl; left = refl }
    taken_ladder (next_level {q} {os} {os'} {rows} p h best t) bounded =
        let m : ℕ = given b s p os q in
        let ks : List ℕ = divided shares b s p os q in
        taken_step b s m q os (filled_book shares b s p os q) os' (fill_rows f n None (facing b s p os) ks) rows (omega arith)
        (fill_taken f n b s p os q bounded best)
        (taken_ladder t (bounded_after_fill (in_level b (opposite s) p) os ks bounded))

    pub taken_elsewhere : {q : ℕ} {os os' : List Order} {rows : List Row} (b' : BookId) (s' : Side) → Elsewhere b s b' s' → Taken shares f n b s q os rows os' → ladder b' s' os' ≡ ladder b' s' os
    taken_elsewhere b' s' e taken_all = refl
    taken_elsewhere b' s' e (next_level {q} {os} p h best t) = taken_elsewhere b' s' e t ∙ filled_elsewhere shares b s p os q b' s' e

    pub taken_rows : {q : ℕ} {os os' : List Order} {rows : List Row} → Taken shares f n b s q os rows os' → All (Trades f n b s) rows
    taken_rows taken_all = All-nil (Trades f n b s)
    taken_rows (next_level {q} {os} {os'} {rows} p h best t) =
        All-append (Trades f n b s) (fill_rows f n None (facing b s p os) (divided shares b s p os q)) rows
        (fill_trades f n b s (facing b s p os) (divided shares b s p os q) (level_stands b (opposite s) p os))
        (taken_rows t)

    pub taken_quantity : {q : ℕ} {os os' : List Order} {rows : List Row} → Taken shares f n b s q os rows os' → Bounded os → sum_by (λ row. row.quantity) rows ≡ q
    taken_quantity {q} {os} {os'} {rows} t bounded =
        let h = taken_ladder t bounded in
        omega (arith, h.enough, prices_length rows, ap length h.prices, length-take q (ladder b s os))

-- ---- one can go on

-- while something is to be taken and the ladder has it, there is a best level
pub can_take : (b : BookId) (s : Side) (q : ℕ) (os : List Order) → 0 < q → q ≤ length (ladder b s os) → (p : Price) × Best b s os p
can_take b s q os h enough = best_exists b s os (omega arith)

-- and after a fill there the ladder has what is left to be taken
pub can_go_on : (shares : List ℕ → ℕ → List ℕ) (laws : Laws shares) (b : BookId) (s : Side) (p : Price) (os : List Order) (q : ℕ) → Bounded os → Best b s os p →
    q ≤ length (ladder b s os) → q - given b s p os q ≤ length (ladder b s (filled_book shares b s p os q))
can_go_on shares laws b s p os q bounded best enough =
    omega (arith, ap length (filled_ladder shares laws b s p os q bounded best), length-drop (given b s p os q) (ladder b s os))
