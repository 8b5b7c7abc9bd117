-- The pro-rata rule.
use Rattle.std.specs.Prelude.{ℕ, ◌+◌, ◌-◌, ◌*◌, ◌/◌, min, cond, List, [], ◌∷◌, map, nat_lt}
use Rattle.rules.specs.Domain.{total}

-- Each quantity's part of what is given, in proportion to their sum and rounded down.
abbrev pub parts : ℕ → ℕ → List ℕ → List ℕ
parts give sum qs = map (λ q. q * give / sum) qs

-- One where something is left and the part is below its quantity, else none.
abbrev pub one_more : ℕ → ℕ → ℕ → ℕ
one_more q part left = min (min 1 left) (q - part)

-- What is left goes one each, in order, to the parts below their quantities.
abbrev pub one_each : List ℕ → List ℕ → ℕ → List ℕ
one_each [] ps left = []
one_each (q ∷ qs) [] left = []
one_each (q ∷ qs) (p ∷ ps) left = (p + one_more q p left) ∷ one_each qs ps (left - one_more q p left)

-- The parts, with what they leave of the quantity to give handed out one each.
abbrev pub topped_up : List ℕ → ℕ → List ℕ → List ℕ
topped_up qs give ps = one_each qs ps (give - total ps)

-- A quantity to give that reaches the sum fills all whole; a smaller one is divided in parts, topped up.
abbrev pub pro_rata : List ℕ → ℕ → List ℕ
pro_rata qs give = cond (nat_lt give (total qs)) (topped_up qs give (parts give (total qs) qs)) qs
