-- Orders that stand in order of arrival, where some are taken out and one comes last.
use Rattle.std.proofs.Common.{ℕ, ◌<◌, Bool, List, [], ◌∷◌, ◌++◌, filter}
use Rattle.std.specs.List.{All}
use Rattle.std.proofs.lemmas.Bool.{cond_both}
use Rattle.std.proofs.lemmas.List.Elements.{All-append, All-nil, All-head, All-tail, All-push, All-filter}
use Rattle.market.specs.declared.order.Order.{Order}
use Rattle.market.specs.Sessions.{ByArrival}
use Rattle.market.proofs.Lists.{all_parts}

-- an order of a higher number than n
abbrev pub Above : ℕ → Order → Type 0
Above n x = n < x.number

pub arrival_filter : (test : Order → Bool) (os : List Order) → ByArrival os → ByArrival (filter test os)
arrival_filter test [] a = tt
arrival_filter test (o ∷ os) a =
    cond_both (test o) _ _ ByArrival (λ _. (All-filter test (Above o.number) os a.0, arrival_filter test os a.1)) (λ _. arrival_filter test os a.1)

all_behind : (P : Order → Type 0) (ahead os os' : List Order) → (All P os → All P os') → All P (ahead ++ os) → All P (ahead ++ os')
all_behind P ahead os os' keeps a = let r = all_parts P ahead os a in All-append P ahead os' r.0 (keeps r.1)

-- orders behind others change, and stay above all numbers that they were above
pub arrival_behind : (ahead os os' : List Order) → ((n : ℕ) → All (Above n) os → All (Above n) os') → (ByArrival os → ByArrival os') →
    ByArrival (ahead ++ os) → ByArrival (ahead ++ os')
arrival_behind [] os os' above rises a = rises a
arrival_behind (x ∷ ahead) os os' above rises a =
    (all_behind (Above x.number) ahead os os' (above x.number) a.0, arrival_behind ahead os os' above rises a.1)

-- one more order, of a higher number than all others
pub arrival_last : (o : Order) (os : List Order) → All (λ x. x.number < o.number) os → ByArrival os → ByArrival (os ++ o ∷ [])
arrival_last o [] below a = (All-nil (Above o.number), tt)
arrival_last o (x ∷ os) below a =
    (All-push (Above x.number) os o a.0 (All-head (λ y. y.number < o.number) x os below), arrival_last o os (All-tail (λ y. y.number < o.number) x os below) a.1)
