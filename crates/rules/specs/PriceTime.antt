-- The price-time rule.
use Rattle.std.specs.Prelude.{ℕ, ◌-◌, min, List, [], ◌∷◌}

-- Each in turn takes the smaller of its quantity and what is left.
abbrev pub price_time : List ℕ → ℕ → List ℕ
price_time [] left = []
price_time (q ∷ qs) left = min q left ∷ price_time qs (left - q)
