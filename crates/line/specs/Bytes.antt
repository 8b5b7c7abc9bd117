-- The bytes of a line, and the fields that its spaces part.
use Rattle.std.specs.Prelude.{ℕ, Bool, cond, ◌&&◌, ◌||◌, List, [], ◌∷◌, take, codes, ◌==◌, nat_le, slice_index}
use Prim.Native.String.{String}
use Rattle.std.specs.List.{prefix_len}

-- the code of the first character of a text
abbrev pub letter : String → ℕ
letter s = slice_index (codes s) 0

-- 0 to 9
abbrev pub digit : ℕ → Bool
digit b = nat_le (letter "0") b && nat_le b (letter "9")

-- A to Z
abbrev pub capital : ℕ → Bool
capital b = nat_le (letter "A") b && nat_le b (letter "Z")

-- a digit, a capital, a minus or a space
abbrev pub allowed : ℕ → Bool
allowed b = digit b || (capital b || (b == (letter "-") || b == (letter " ")))

-- the most bytes that a line may have
abbrev pub longest : ℕ
longest = 1200

-- how many bytes from the start are allowed, of the longest line's
abbrev pub clean : List ℕ → ℕ
clean line = prefix_len allowed (take longest line)

-- a byte in front of the first field; a space opens an empty field in front of all
abbrev pub onto : ℕ → List (List ℕ) → List (List ℕ)
onto b [] = []
onto b (f ∷ fs) = cond (b == (letter " ")) ([] ∷ (f ∷ fs)) ((b ∷ f) ∷ fs)

-- the parts of a line between its spaces, empty ones too
abbrev pub fields_of : List ℕ → List (List ℕ)
fields_of [] = [] ∷ []
fields_of (b ∷ bs) = onto b (fields_of bs)

-- the first field; an empty one where there is none
abbrev pub first : List (List ℕ) → List ℕ
first [] = []
first (f ∷ fs) = f

-- the fields after the first
abbrev pub others : List (List ℕ) → List (List ℕ)
others [] = []
others (f ∷ fs) = fs
