-- The rows of one share.
use Rattle.std.proofs.Common.{◌≡◌, ℕ, ◌<◌, List, [], ◌∷◌, map, Some, Option, Bor, sym, ap, ◌∙◌, subst, arith}
use Rattle.std.proofs.lemmas.Bool.Decides.{nat_tests}
use Rattle.market.specs.declared.leg.Leg.{Leg}
use Rattle.market.specs.declared.order.Order.{Order}
use Rattle.market.specs.declared.row.Row.{Row}
use Rattle.market.specs.Rows.{some_rows, share_rows, combination_row, leg_row}
use Rattle.book.specs.declared.fill.Fill.{Fill}
use Rattle.book.specs.declared.told.Told.{Told}
use Rattle.book.specs.Table.{lent}
use Rattle.book.specs.Reports.{Tells}
use Rattle.book.proofs.Reports.{tells_then}

pub some_rows-some : (k : ℕ) (rows : List Row) → 0 < k → some_rows k rows ≡ rows
some_rows-some k rows some = grind (arith, nat_tests)

-- a share of units is told by its trade and the trade's legs
pub units_told : (fill : Fill) (o : Order) (k : ℕ) (legs : Bor (List Leg)) (t t₁ t₂ : Told) (row : Row) → 0 < k → fill.legs ≡ Some legs → row ≡ combination_row fill.number fill.taker o k
    → Tells t (row ∷ []) t₁ → Tells t₁ (map (leg_row fill.number fill.taker o k) legs.now) t₂ → Tells t (some_rows k (share_rows fill.number fill.taker (lent fill.legs) o k)) t₂
units_told fill o k legs t t₁ t₂ row some of is trade rest =
    subst (λ (rs : List Row). Tells t rs t₂)
    (ap (λ (r : Row). r ∷ map (leg_row fill.number fill.taker o k) legs.now) is
    ∙ sym (some_rows-some k _ some ∙ ap (λ (ls : Option (List Leg)). share_rows fill.number fill.taker ls o k) (ap lent of)))
    (tells_then t t₁ t₂ (row ∷ []) (map (leg_row fill.number fill.taker o k) legs.now) trade rest)
