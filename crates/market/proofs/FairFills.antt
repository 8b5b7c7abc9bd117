-- The rows of one fill are a fair report.
use Rattle.std.proofs.Common.{◌≡◌, ℕ, ◌+◌, ◌-◌, ◌∙◌, ◌<◌, Bool, true, false, cond, eqb, List, [], ◌∷◌, ◌++◌, map, ℤ, pos, ◌*ℤ◌, Some, None, Option, Result, is_some, refl, sym, ap, subst, arith, inr}
use Rattle.std.specs.List.{All}
use Rattle.std.proofs.lemmas.Bool.{both_ways, cond_both, eqb-false}
use Rattle.std.proofs.lemmas.List.Elements.{All-nil, All-cons, All-head, All-tail, All-weaker, All-map}
use Rattle.market.specs.declared.book_id.BookId.{BookId}
use Rattle.market.specs.declared.book_id.BookId.TheVariants.{Instrument, Combination}
use Rattle.market.specs.declared.call.Call.{Call}
use Rattle.market.specs.declared.leg.Leg.{Leg}
use Rattle.market.specs.declared.order.Order.{Order}
use Rattle.market.specs.declared.price.Price.{Price}
use Rattle.market.specs.declared.refusal.Refusal.{Refusal}
use Rattle.market.specs.declared.row.Row.{Row}
use Rattle.market.specs.declared.side.Side.{Side}
use Rattle.market.specs.declared.side.Side.TheVariants.{Buy, Sell}
use Rattle.market.specs.Combinations.{made, Rising}
use Rattle.market.specs.Combinations.{is_minus}
use Rattle.market.specs.Ladders.{leg_side}
use Rattle.market.specs.Orders.{lot_book, quantity_of, book_number}
use Rattle.market.specs.Prices.{opposite, good, as_price}
use Rattle.market.specs.Round.{legs_of}
use Rattle.market.specs.Rows.{buyer_of, trade_row, combination_row, leg_row, share_rows, fill_rows}
use Rattle.market.specs.Turns.{Turn, is_combination}
use Rattle.market.specs.Entries.{Entry, Entered}
use Rattle.market.specs.FairTrades.{Limited, leg_rows, of_leg, on_side, Names, LegTraded, WithinAll, UnitsWithin.at_level, InLegs, Fair}
use Rattle.market.proofs.FairReports.{Placed, Meets, FairIn, fair_nil, fair_cons, fair_past, fair_plain, FairFrom}
use Rattle.market.proofs.Fills.{fill_each}
use Rattle.market.proofs.LegRows.{LegRow, leg_is_no_combination, leg_rows_own, of_leg_one}
use Rattle.market.proofs.LevelSums.{AtLevel}
use Rattle.market.proofs.Lists.{any_first, any_behind}
use Rattle.market.proofs.Places.{opposite_twice, both_named, good_refl}
use Rattle.market.proofs.Sizes.{Lasting, lot_book-sized}

-- ---- whom they name

-- a leg's buyer and seller are those of the combination, the other way round for a minus leg
leg_names : (row : Row) (s : Side) (turned : Bool) (m n : ℕ) → row.buyer ≡ buyer_of (cond turned (opposite s) s) m n → row.seller ≡ buyer_of (opposite (cond turned (opposite s) s)) m n →
    (on_side (cond turned Sell Buy) row ≡ buyer_of s m n) × (on_side (cond turned Buy Sell) row ≡ buyer_of (opposite s) m n)
leg_names row Buy true m n b t = (t, b)
leg_names row Buy false m n b t = (b, t)
leg_names row Sell true m n b t = (t, b)
leg_names row Sell false m n b t = (b, t)

-- the row names the orders of the combination trade t, each on the side that it takes in the leg
abbrev NamesBoth : Leg → Row → Row → Type 0
NamesBoth leg t row = Names (leg_side Buy leg) t.buyer row × Names (leg_side Sell leg) t.seller row

pub legs_plain : (f : ℕ) (rows : List Row) → All (LegRow f) rows → All (λ row. is_combination row.kind ≡ false) rows
legs_plain f rows a = All-weaker (LegRow f) (λ row. is_combination row.kind ≡ false) (λ row own. leg_is_no_combination row.kind own.leg) rows a

pub legs_placed : (f : ℕ) (rows : List Row) → All (LegRow f) rows → All (Placed f (f + 1)) rows
legs_placed f rows a = All-weaker (LegRow f) (Placed f (f + 1)) (λ row own. inr (omega (arith, own.filled), omega (arith, own.filled))) rows a

module _ (f n k : ℕ) (x : Order) where
  leg_rows_are : (legs : List Leg) → All (LegRow f) (map (leg_row f n x k) legs)
  leg_rows_are legs = All-map (LegRow f) (leg_row f n x k) legs (λ i leg at. record { leg = refl; filled = refl })

  share_placed : (legs : List Leg) → All (Placed f (f + 1)) (share_rows f n (Some legs) x k)
  share_placed legs =
      All-cons (Placed f (f + 1)) (combination_row f n x k) (map (leg_row f n x k) legs) (inr (omega arith, omega arith))
      (legs_placed f (map (leg_row f n x k) legs) (leg_rows_are legs))

  legs_only : (legs : List Leg) → All (InLegs legs) (map (leg_row f n x k) legs)
  legs_only [] = All-nil (InLegs [])
  legs_only (leg ∷ legs) =
      All-cons (InLegs (leg ∷ legs)) (leg_row f n x k leg) (map (leg_row f n x k) legs) (any_first (λ l. leg.instrument ≡ l.instrument) leg legs refl)
      (All-weaker (InLegs legs) (InLegs (leg ∷ legs)) (λ row h. any_behind (λ l. row.book ≡ l.instrument) leg legs h) (map (leg_row f n x k) legs) (legs_only legs))

  leg_traded : (leg : Leg) → LegTraded leg (combination_row f n x k) (leg_row f n x k leg ∷ [])
  leg_traded leg =
      let row : Row = leg_row f n x k leg in
      let names = leg_names row x.side (is_minus leg) x.number n refl refl in
      record {
        quantity = omega arith;
        named = All-cons (NamesBoth leg (combination_row f n x k)) row [] (inr names.0, inr names.1) (All-nil (NamesBoth leg (combination_row f n x k)));
      }

  all_traded : (legs : List Leg) → Rising legs → All (λ leg. LegTraded leg (combination_row f n x k) (of_leg leg (map (leg_row f n x k) legs))) legs
  all_traded legs r =
      All-weaker (λ leg. of_leg leg (map (leg_row f n x k) legs) ≡ leg_row f n x k leg ∷ []) (λ leg. LegTraded leg (combination_row f n x k) (of_leg leg (map (leg_row f n x k) legs)))
      (λ leg e. subst (LegTraded leg (combination_row f n x k)) (sym e) (leg_traded leg)) legs (of_leg_one (leg_row f n x k) (λ leg. refl) legs r)

pub legs_made : (cs : List (List Leg)) (b : BookId) (legs : List Leg) → legs_of cs b ≡ Some legs → made cs (book_number b) ≡ Some legs
legs_made cs (Instrument i) legs e = absurd (both_ways false refl (ap is_some e))
legs_made cs (Combination c) legs e = e

module _ {Message : Type 0} (reading : Message → Result Call Refusal) (h : List (Turn Message)) where
  -- the book, the side and the limit of an order are those of its entry
  abbrev pub Lim : Order → Type 0
  Lim o = (e : Entry) × Entered reading h e × (e.number ≡ o.number) × (e.book ≡ book_number (lot_book o.lot)) × (e.side ≡ o.side) × (e.limit ≡ o.price)

  -- an order under a number from 1, with its limit
  pub record Known (o : Order) : Type 0 where
    pub numbered : 0 < o.number
    pub limit : Lim o

  pub known_lasts : Lasting Known
  known_lasts o k known = let l = known.limit in record { numbered = known.numbered; limit = (l.0, l.1, l.2, l.3 ∙ ap book_number (sym (lot_book-sized o.lot (quantity_of o - k))), l.4, l.5) }

  pub limited : (o : Order) (z : ℤ) → Known o → good o.side (as_price z) o.price ≡ true → Limited reading h o.side (book_number (lot_book o.lot)) o.number z
  limited o z known e = let l = known.limit in inr (l.0, l.1, l.2, l.3, l.4, subst (λ p. good o.side (as_price z) p ≡ true) (sym l.5) e)

  -- a known order of this book, side and price
  abbrev pub KnownAt : BookId → Side → Price → Order → Type 0
  KnownAt b s p x = Known x × AtLevel b s p x

  -- one of the level that an order faces at this price
  abbrev pub Facing : Order → Price → Order → Type 0
  Facing o p x = KnownAt (lot_book o.lot) (opposite o.side) p x

  -- contract trades of a fill, and no units
  fair_trades : (cs : List (List Leg)) (f : ℕ) (rows : List Row) → All (LegRow f) rows → FairFrom reading h cs f (f + 1) rows
  fair_trades cs f rows a = record { forward = omega arith; placed = legs_placed f rows a; fair = fair_plain reading h cs rows rows (legs_plain f rows a) }

  -- ---- a fill at a level

  module _ (cs : List (List Leg)) (f : ℕ) (o : Order) (p : Price) (known : Known o) (within : good o.side p o.price ≡ true) where
    -- in each combination trade of the fill, the taker and the order of the level are within their limits
    row_meets : (x : Order) (k : ℕ) → Facing o p x → Meets reading h f p.0 (combination_row f o.number x k)
    row_meets x k (kx, at) c e =
        both_named (λ t n. Limited reading h t (book_number (lot_book x.lot)) n p.0) x.side x.number o.number
        (limited x p.0 kx (rw at.priced (good_refl x.side p)))
        (rw (at.booked, at.sided, opposite_twice o.side) (limited o p.0 known within))

    share_meets : (legs : List Leg) (x : Order) (k : ℕ) → Facing o p x → All (Meets reading h f p.0) (share_rows f o.number (Some legs) x k)
    share_meets legs x k faced =
        All-cons (Meets reading h f p.0) (combination_row f o.number x k) (map (leg_row f o.number x k) legs) (row_meets x k faced)
        (All-map (Meets reading h f p.0) (leg_row f o.number x k) legs (λ i leg at c. absurd (both_ways false refl c)))

    module _ (legs : List Leg) (exists : legs_of cs (lot_book o.lot) ≡ Some legs) (rising : Rising legs) where
      -- one share's combination trade, where the rows behind begin with no leg row
      share_fair : (all : List Row) → WithinAll reading h all f p.0 → (x : Order) (k : ℕ) → 0 < k → Facing o p x → (more : List Row) → leg_rows f more ≡ [] →
          Fair reading h cs all (combination_row f o.number x k) (map (leg_row f o.number x k) legs ++ more)
      share_fair all meets x k some (kx, at) more none =
          let rows : List Row = map (leg_row f o.number x k) legs in
          let own : leg_rows f (rows ++ more) ≡ rows = leg_rows_own f rows more (leg_rows_are f o.number k x legs) none in
          let numbers = both_named (λ _ k. 0 < k) x.side x.number o.number kx.numbered known.numbered in
          record {
            legs = legs;
            exists = subst (λ b. made cs (book_number b) ≡ Some legs) (sym at.booked) (legs_made cs (lot_book o.lot) legs exists);
            traded = subst (λ l. All (λ leg. LegTraded leg (combination_row f o.number x k) (of_leg leg l)) legs) (sym own) (all_traded f o.number k x legs rising);
            in_legs = subst (All (InLegs legs)) (sym own) (legs_only f o.number k x legs);
            agreed = at_level p.0 numbers.0 numbers.1 some (ap (λ q. q.0 *ℤ pos k) at.priced) meets;
          }

      level_in : (all : List Row) → WithinAll reading h all f p.0 → (os : List Order) (ks : List ℕ) → All (Facing o p) os →
          FairIn reading h cs all (fill_rows f o.number (Some legs) os ks) × (leg_rows f (fill_rows f o.number (Some legs) os ks) ≡ [])
      level_in all meets [] ks a = (fair_nil reading h cs all, refl)
      level_in all meets (x ∷ os) [] a = (fair_nil reading h cs all, refl)
      level_in all meets (x ∷ os) (k ∷ ks) a =
          let more : List Row = fill_rows f o.number (Some legs) os ks in
          let rest = level_in all meets os ks (All-tail (Facing o p) x os a) in
          let faced : Facing o p x = All-head (Facing o p) x os a in
          let rows : List Row = map (leg_row f o.number x k) legs in
          cond_both (eqb k 0) [] (share_rows f o.number (Some legs) x k) (λ l. FairIn reading h cs all (l ++ more) × (leg_rows f (l ++ more) ≡ []))
          (λ e. rest)
          (λ e. (
            fair_cons reading h cs all (combination_row f o.number x k) (rows ++ more)
                (λ c. share_fair all meets x k (let ne = eqb-false k 0 e in omega arith) faced more rest.1)
                (fair_past reading h cs all rows more (legs_plain f rows (leg_rows_are f o.number k x legs)) rest.0),
            refl,
          ))

      -- the rows of the fill
      pub level_fair : (os : List Order) (ks : List ℕ) → All (Facing o p) os → FairFrom reading h cs f (f + 1) (fill_rows f o.number (Some legs) os ks)
      level_fair os ks a = record {
        forward = omega arith;
        placed = fill_each (Placed f (f + 1)) (Facing o p) f o.number (Some legs) (λ x k faced. share_placed f o.number k x legs) os ks a;
        fair = (level_in _ (fill_each (Meets reading h f p.0) (Facing o p) f o.number (Some legs) (share_meets legs) os ks a) os ks a).0;
      }

    -- a fill of an instrument's level trades no units
    pub trades_fair : (os : List Order) (ks : List ℕ) → All (Facing o p) os → FairFrom reading h cs f (f + 1) (fill_rows f o.number None os ks)
    trades_fair os ks a =
        fair_trades cs f (fill_rows f o.number None os ks)
        (fill_each (LegRow f) (Facing o p) f o.number None (λ x k faced. All-cons (LegRow f) (trade_row f o.number x k) [] (record { leg = refl; filled = refl }) (All-nil (LegRow f))) os ks a)

    -- a fill of the level that an order faces
    pub fill_fair : (legs : Option (List Leg)) → legs ≡ legs_of cs (lot_book o.lot) → ((ls : List Leg) → legs ≡ Some ls → Rising ls) →
        (os : List Order) (ks : List ℕ) → All (Facing o p) os → FairFrom reading h cs f (f + 1) (fill_rows f o.number legs os ks)
    fill_fair None e rising os ks a = trades_fair os ks a
    fill_fair (Some legs) e rising os ks a = level_fair legs (sym e) (rising legs refl) os ks a
