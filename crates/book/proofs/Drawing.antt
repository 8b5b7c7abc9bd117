-- Contracts of one instrument, taken level after level: whatever is taken further, the whole is taken from the start.
use Rattle.std.proofs.Common.{◌≡◌, ℕ, ◌-◌, ◌<◌, ◌≤◌, true, false, List, [], ◌++◌, length, Some, None, Option, sym, refl, subst}
use Rattle.std.specs.Option.{is_some}
use Rattle.std.proofs.lemmas.Bool.{both_ways}
use Rattle.std.proofs.lemmas.List.{append_assoc, append-nil}
use Rattle.rules.specs.Domain.{Laws}
use Rattle.market.specs.declared.book_id.BookId.{BookId}
use Rattle.market.specs.declared.book_id.BookId.TheVariants.{Instrument}
use Rattle.market.specs.declared.order.Order.{Order}
use Rattle.market.specs.declared.price.Price.{Price}
use Rattle.market.specs.declared.row.Row.{Row}
use Rattle.market.specs.declared.side.Side.{Side}
use Rattle.market.specs.Fills.{facing, given, divided, filled_book, BestLevel}
use Rattle.market.specs.Implied.{Taken}
use Rattle.market.specs.Implied.Taken.{taken_all, next_level}
use Rattle.market.specs.Ladders.{ladder}
use Rattle.market.specs.Levels.{Best}
use Rattle.market.specs.Orders.{stands}
use Rattle.market.specs.Prices.{opposite}
use Rattle.market.specs.Rows.{fill_rows}
use Rattle.market.proofs.Asking.{Bounded}
use Rattle.market.proofs.TakenLadders.{can_take, can_go_on}
use Rattle.book.specs.declared.taker.Taker.{Taker}
use Rattle.book.specs.declared.told.Told.{Told}
use Rattle.book.specs.Reports.{Tells}
use Rattle.book.specs.Taken.{ContractsTaken}
use Rattle.book.proofs.Reports.{tells_none, tells_then}

-- a best level is found where there is one
pub level_there : (b : BookId) (s : Side) (os : List Order) (r : Option Price) → BestLevel b s os r → (p : Price) × Best b s os p → is_some r ≡ true
level_there b s os None none h =
    let at = h.1.there in
    let off : stands b (opposite s) at.1 ≡ false = subst (λ o. stands b (opposite s) o ≡ false) at.3 (none at.0 at.1 at.2) in
    absurd (both_ways _ off at.4.0)
level_there b s os (Some p) best h = refl

-- while contracts are left to take, it is found
pub level_to_take : (b : BookId) (s : Side) (q : ℕ) (os : List Order) (r : Option Price) → BestLevel b s os r → 0 < q → q ≤ length (ladder b s os) → is_some r ≡ true
level_to_take b s q os r found some enough = level_there b s os r found (can_take b s q os some enough)

module _ (shares : List ℕ → ℕ → List ℕ) (taker : Taker) (i q₀ : ℕ) (os₀ : List Order) (t₀ : Told) where
  abbrev book : BookId
  book = Instrument i

  abbrev Takes : ℕ → List Order → List Row → List Order → Type 0
  Takes q os rows os' = Taken shares taker.fill taker.number book taker.side q os rows os'

  pub record Drawing (q : ℕ) (os : List Order) (t : Told) : Type 0 where
    pub told : List Row
    pub more : Tells t₀ told t
    pub goes : (new : List Row) (os' : List Order) → Takes q os new os' → Takes q₀ os₀ (told ++ new) os'
    pub enough : q ≤ length (ladder book taker.side os)

  pub drawing_start : q₀ ≤ length (ladder book taker.side os₀) → Drawing q₀ os₀ t₀
  drawing_start enough = record { told = []; more = tells_none t₀; goes = λ new os' h. h; enough = enough }

  pub drawing_level : Laws shares → (q : ℕ) (os : List Order) (t : Told) (p : Price) (t' : Told) → Drawing q os t → Bounded os → 0 < q → Best book taker.side os p
      → Tells t (fill_rows taker.fill taker.number None (facing book taker.side p os) (divided shares book taker.side p os q)) t'
      → Drawing (q - given book taker.side p os q) (filled_book shares book taker.side p os q) t'
  drawing_level laws q os t p t' g bounded some best now-told =
      let new = fill_rows taker.fill taker.number None (facing book taker.side p os) (divided shares book taker.side p os q) in
      record {
        told = g.told ++ new;
        more = tells_then t₀ t t' g.told new g.more now-told;
        goes = λ newer os' h. subst (λ (xs : List Row). Takes q₀ os₀ xs os') (sym (append_assoc g.told new newer)) (g.goes (new ++ newer) os' (next_level p some best h));
        enough = can_go_on shares laws book taker.side p os q bounded best g.enough;
      }

  pub drawing_end : (q : ℕ) (os : List Order) (t : Told) → Drawing q os t → q ≡ 0 → ContractsTaken shares taker i q₀ os₀ t₀ os t
  drawing_end q os t g none = record {
    rows = g.told;
    takes = subst (λ (xs : List Row). Takes q₀ os₀ xs os) (append-nil g.told) (g.goes [] os (subst (λ n. Takes n os [] os) (sym none) taken_all));
    more = g.more;
  }
