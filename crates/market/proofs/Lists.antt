-- Elements of lists: of all, of some, and of one in the middle.
use Rattle.std.proofs.Common.{◌≡◌, zero, suc, subst, ◌⊎◌, List, [], ◌∷◌, ◌++◌, sym, refl, ◌∙◌, inl, inr, arith}
use Rattle.std.specs.List.{All, Any}
use Rattle.std.proofs.lemmas.List.Elements.{All-nil, All-cons, All-head, All-tail}

-- ---- all

-- what holds of all of two lists holds of all of each
pub all_parts : {X : Type 0} (P : X → Type 0) (xs ys : List X) → All P (xs ++ ys) → All P xs × All P ys
all_parts P [] ys a = (All-nil P, a)
all_parts P (x ∷ xs) ys a =
    let r = all_parts P xs ys (All-tail P x (xs ++ ys) a) in
    (All-cons P x xs (All-head P x (xs ++ ys) a) r.0, r.1)

-- and of the one in the middle
pub all_middle : {X : Type 0} (P : X → Type 0) (xs : List X) (x : X) (ys : List X) → All P (xs ++ (x ∷ ys)) → P x
all_middle P xs x ys a = All-head P x ys (all_parts P xs (x ∷ ys) a).1

-- what holds of all holds of each
pub all_among : {X : Type 0} (P : X → Type 0) (xs : List X) (x : X) → All P xs → Any (λ y. y ≡ x) xs → P x
all_among P xs x a h = subst P (h.3 ∙ h.4) (a h.0 h.1 h.2)

-- ---- some

-- what holds of one in a list holds of the first or of one behind it
pub any_cases : {X : Type 0} (P : X → Type 0) (x : X) (xs : List X) → Any P (x ∷ xs) → P x ⊎ Any P xs
any_cases P x xs (zero, y, at, is, p) = inl (subst P (sym is) p)
any_cases P x xs (suc k, y, at, is, p) = inr (k, y, omega (arith, at), is, p)

pub any_first : {X : Type 0} (P : X → Type 0) (x : X) (xs : List X) → P x → Any P (x ∷ xs)
any_first P x xs p = (0, x, omega arith, refl, p)

pub any_behind : {X : Type 0} (P : X → Type 0) (x : X) (xs : List X) → Any P xs → Any P (x ∷ xs)
any_behind P x xs (k, y, at, is, p) = (suc k, y, omega (arith, at), is, p)

pub any_left : {X : Type 0} (P : X → Type 0) (xs ys : List X) → Any P xs → Any P (xs ++ ys)
any_left P [] ys h = absurd (omega (arith, h.2))
any_left P (x ∷ xs) ys h = elim (any_cases P x xs h) [
  | inl p ↦ any_first P x (xs ++ ys) p
  | inr k ↦ any_behind P x (xs ++ ys) (any_left P xs ys k)
]

pub any_right : {X : Type 0} (P : X → Type 0) (xs ys : List X) → Any P ys → Any P (xs ++ ys)
any_right P [] ys h = h
any_right P (x ∷ xs) ys h = any_behind P x (xs ++ ys) (any_right P xs ys h)

-- an element of two lists is one of the first or of the second
pub any_split : {X : Type 0} (P : X → Type 0) (xs ys : List X) → Any P (xs ++ ys) → Any P xs ⊎ Any P ys
any_split P [] ys h = inr h
any_split P (x ∷ xs) ys h = elim (any_cases P x (xs ++ ys) h) [
  | inl p ↦ inl (any_first P x xs p)
  | inr k ↦ elim (any_split P xs ys k) [ inl l ↦ inl (any_behind P x xs l) | inr r ↦ inr r ]
]
