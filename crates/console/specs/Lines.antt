-- The lines of an input: a newline, byte 10, closes a line.
use Rattle.std.specs.Prelude.{◌≡◌, ℕ, Bool, true, false, cond, List, [], ◌∷◌, ◌++◌, ◌==◌}
use Rattle.std.specs.List.{flat_map, All}

-- the lines that are closed in these bytes, where `part` of a line stands before them
abbrev pub closed_after : List ℕ → List ℕ → List (List ℕ)
closed_after part [] = []
closed_after part (b ∷ bs) = cond (b == 10) (part ∷ closed_after [] bs) (closed_after (part ++ (b ∷ [])) bs)

-- what then stands after the last newline
abbrev pub open_after : List ℕ → List ℕ → List ℕ
open_after part [] = part
open_after part (b ∷ bs) = cond (b == 10) (open_after [] bs) (open_after (part ++ (b ∷ [])) bs)

-- the lines of an input that a newline closes, without it, in order
abbrev pub closed_lines : List ℕ → List (List ℕ)
closed_lines input = closed_after [] input

-- what stands after the last newline of an input
abbrev pub open_line : List ℕ → List ℕ
open_line input = open_after [] input

-- some byte is a newline
abbrev pub has_newline : List ℕ → Bool
has_newline [] = false
has_newline (b ∷ bs) = cond (b == 10) true (has_newline bs)

-- the bytes before the first newline, or all
abbrev pub before_newline : List ℕ → List ℕ
before_newline [] = []
before_newline (b ∷ bs) = cond (b == 10) [] (b ∷ before_newline bs)

-- the lines, each with its newline, and then the open part are the input, and no newline stands inside any of them
pub record Parted (input : List ℕ) (lines : List (List ℕ)) (part : List ℕ) : Type 0 where
  pub whole : input ≡ flat_map (λ l. l ++ (10 ∷ [])) lines ++ part
  pub lines_plain : All (λ l. has_newline l ≡ false) lines
  pub part_plain : has_newline part ≡ false

-- every input is parted into its closed lines and its open line
abbrev pub LinesPart : Type 0
LinesPart = (input : List ℕ) → Parted input (closed_lines input) (open_line input)
