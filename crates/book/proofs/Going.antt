-- A match so far: whatever it goes on to, the whole is a match from the start.
use Rattle.std.proofs.Common.{◌≡◌, ℕ, ◌+◌, ◌-◌, ◌≤◌, List, [], ◌++◌, Option, sym, subst, arith}
use Rattle.std.proofs.lemmas.List.{append_assoc, append-nil}
use Rattle.market.specs.declared.leg.Leg.{Leg}
use Rattle.market.specs.declared.order.Order.{Order}
use Rattle.market.specs.declared.row.Row.{Row}
use Rattle.market.specs.Matching.{Match}
use Rattle.market.specs.Matching.Match.{filled, no_more}
use Rattle.market.specs.Orders.{quantity_of}
use Rattle.book.specs.declared.told.Told.{Told}
use Rattle.book.specs.Matched.{NoMore, Traded, Matched}
use Rattle.book.specs.Reports.{Tells}
use Rattle.book.proofs.Reports.{tells_none, tells_then}

module _ (shares : List ℕ → ℕ → List ℕ) (legs : Option (List Leg)) (o : Order) (g₀ : ℕ) (os₀ : List Order) (t₀ : Told) where
  pub record Going (f q : ℕ) (os : List Order) (t : Told) : Type 0 where
    pub told : List Row
    pub more : Tells t₀ told t
    pub goes : (new : List Row) (f' q' : ℕ) (os' : List Order) → Match shares legs o f q os new f' q' os' → Match shares legs o g₀ (quantity_of o) os₀ (told ++ new) f' q' os'
    pub upto : q ≤ quantity_of o
    pub fills : f + q ≤ g₀ + quantity_of o
    pub early : g₀ + quantity_of o ≤ 20001

  pub going_start : (q : ℕ) → q ≡ quantity_of o → quantity_of o ≤ 10000 → g₀ ≤ 10001 → Going g₀ q os₀ t₀
  going_start q is few first = record {
    told = [];
    more = tells_none t₀;
    goes = λ new f' q' os' m. subst (λ n. Match shares legs o g₀ n os₀ new f' q' os') is m;
    upto = omega arith;
    fills = omega arith;
    early = omega arith;
  }

  pub going_on : (f q : ℕ) (os : List Order) (t : Told) (k : ℕ) (os' : List Order) (t' : Told) → Going f q os t → Traded shares legs o f q os t k os' t' → Going (f + 1) (q - k) os' t'
  going_on f q os t k os' t' g h = record {
    told = g.told ++ h.rows;
    more = tells_then t₀ t t' g.told h.rows g.more h.more;
    goes = λ newer f' q' os'' m. subst (λ (xs : List Row). Match shares legs o g₀ (quantity_of o) os₀ xs f' q' os'') (sym (append_assoc g.told h.rows newer)) (g.goes (h.rows ++ newer) f' q' os'' (h.goes newer f' q' os'' m));
    upto = omega (arith, g.upto);
    fills = omega (arith, g.fills, h.some, h.within);
    early = g.early;
  }

  going_end : (f q : ℕ) (os : List Order) (t : Told) → Going f q os t → Match shares legs o f q os [] f q os → Matched shares legs o g₀ os₀ t₀ f q os t
  going_end f q os t g m = record {
    rows = g.told;
    run = subst (λ (xs : List Row). Match shares legs o g₀ (quantity_of o) os₀ xs f q os) (append-nil g.told) (g.goes [] f q os m);
    more = g.more;
  }

  pub going_over : (f q : ℕ) (os : List Order) (t : Told) → Going f q os t → NoMore o legs os → Matched shares legs o g₀ os₀ t₀ f q os t
  going_over f q os t g h = going_end f q os t g (no_more h.none h.no_unit)

  pub going_filled : (f q : ℕ) (os : List Order) (t : Told) → Going f q os t → q ≡ 0 → Matched shares legs o g₀ os₀ t₀ f q os t
  going_filled f q os t g none = going_end f q os t g (subst (λ n. Match shares legs o f n os [] f n os) (sym none) filled)
