-- What a cutter holds and hands out.
use Rattle.std.specs.Prelude.{◌≡◌, ℕ, ◌+◌, cond, List, [], ◌∷◌, ◌++◌, map, length, take, Some, None, Option, is_some, vec_items, vec_capacity}
use Rattle.console.specs.declared.cutter.LineCutter.{LineCutter}
use Rattle.console.specs.Lines.{closed_lines, open_line, has_newline, before_newline}

-- the first 1,201 bytes of a line suffice to judge it
abbrev pub start : List ℕ → List ℕ
start l = take 1201 l

-- the line at hand, or the last one closed
abbrev pub kept : LineCutter → List ℕ
kept c = vec_items c.line

-- what is held of the open line: nothing once a line is complete
abbrev pub pending : LineCutter → List ℕ
pending c = cond c.complete [] (kept c)

-- how many bytes of a block a cut used: those up to and with the newline that it found, or all
abbrev pub used_by : Option ℕ → List ℕ → ℕ
used_by (Some n) block = n
used_by None block = length block

-- the line that a cut hands out, where it found a newline
abbrev pub handed_by : Option ℕ → LineCutter → List (List ℕ)
handed_by cut after = cond (is_some cut) (kept after ∷ []) []

-- a cutter that was fed this input has handed out the start of each closed line, and holds the start of the open one
pub record Fed (c : LineCutter) (input : List ℕ) (handed : List (List ℕ)) : Type 0 where
  pub lines : handed ≡ map start (closed_lines input)
  pub rest : pending c ≡ start (open_line input)

-- a cut uses the block up to and with its first newline, or all of it, adds it to what is held, and takes no memory
pub record Cuts (before : LineCutter) (block : List ℕ) (cut : Option ℕ) (after : LineCutter) : Type 0 where
  pub closed : is_some cut ≡ has_newline block
  pub count : used_by cut block ≡ length (before_newline block) + cond (has_newline block) 1 0
  pub line : kept after ≡ start (pending before ++ before_newline block)
  pub state : after.complete ≡ is_some cut
  pub memory : vec_capacity after.line ≡ vec_capacity before.line
