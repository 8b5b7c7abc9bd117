-- A cut keeps what a cutter has handed out and holds in step with its input.
use Rattle.std.proofs.Common.{◌≡◌, ℕ, ◌+◌, Bool, true, false, cond, List, [], ◌∷◌, ◌++◌, map, length, take, Option, sym, refl, ap, ◌∙◌, add-zero, add-one}
use Rattle.std.proofs.lemmas.List.{append-nil, map-append}
use Rattle.console.specs.declared.cutter.LineCutter.{LineCutter}
use Rattle.console.specs.Lines.{closed_after, open_after, closed_lines, open_line, has_newline, before_newline}
use Rattle.console.specs.Cuts.{start, kept, pending, used_by, handed_by, Fed, Cuts}
use Rattle.console.proofs.Newlines.{closed_on, open_on, closed_plain, open_plain, before_plain, take_before, take_found, take_again}

-- ---- bytes x with no newline, alone and with a newline after them

module _ (input x : List ℕ) (h : has_newline x ≡ false) where
  lines_stay : closed_lines (input ++ x) ≡ closed_lines input
  lines_stay = closed_on [] input x ∙ ap (λ t. closed_lines input ++ t) (closed_plain (open_line input) x h) ∙ append-nil (closed_lines input)

  rest_grows : open_line (input ++ x) ≡ open_line input ++ x
  rest_grows = open_on [] input x ∙ open_plain (open_line input) x h

  one_line : closed_after (open_line input) (x ++ (10 ∷ [])) ≡ (open_line input ++ x) ∷ []
  one_line =
      closed_on (open_line input) x (10 ∷ [])
      ∙ ap (λ t. t ++ (open_after (open_line input) x ∷ [])) (closed_plain (open_line input) x h)
      ∙ ap (λ t. t ∷ []) (open_plain (open_line input) x h)

  lines_grow : closed_lines (input ++ (x ++ (10 ∷ []))) ≡ closed_lines input ++ ((open_line input ++ x) ∷ [])
  lines_grow = closed_on [] input (x ++ (10 ∷ [])) ∙ ap (λ t. closed_lines input ++ t) one_line

  rest_ends : open_line (input ++ (x ++ (10 ∷ []))) ≡ []
  rest_ends = open_on [] input (x ++ (10 ∷ [])) ∙ open_on (open_line input) x (10 ∷ [])

-- ---- a cut

module _ (before after : LineCutter) (block : List ℕ) (cut : Option ℕ) (cuts : Cuts before block cut after) (input : List ℕ) (handed : List (List ℕ)) (fed : Fed before input handed) where
  pub held : kept after ≡ start (open_line input ++ before_newline block)
  held = cuts.line ∙ ap (λ p. start (p ++ before_newline block)) fed.rest ∙ take_again 1201 (open_line input) (before_newline block)

  module _ (found : has_newline block ≡ true) where
    used_found : take (used_by cut block) block ≡ before_newline block ++ (10 ∷ [])
    used_found =
        ap (λ n. take n block) (cuts.count ∙ ap (λ t. length (before_newline block) + cond t 1 0) found ∙ add-one (length (before_newline block)))
        ∙ take_found block found

    pub grows : closed_lines (input ++ take (used_by cut block) block) ≡ closed_lines input ++ ((open_line input ++ before_newline block) ∷ [])
    grows = ap (λ t. closed_lines (input ++ t)) used_found ∙ lines_grow input (before_newline block) (before_plain block)

    lines_found : handed ++ handed_by cut after ≡ map start (closed_lines (input ++ take (used_by cut block) block))
    lines_found =
        ap (λ t. handed ++ cond t (kept after ∷ []) []) (cuts.closed ∙ found)
        ∙ ap (λ l. handed ++ (l ∷ [])) held
        ∙ ap (λ ls. ls ++ (start (open_line input ++ before_newline block) ∷ [])) fed.lines
        ∙ sym (map-append start (closed_lines input) ((open_line input ++ before_newline block) ∷ []))
        ∙ ap (map start) (sym grows)

    rest_found : pending after ≡ start (open_line (input ++ take (used_by cut block) block))
    rest_found =
        ap (λ t. cond t [] (kept after)) (cuts.state ∙ cuts.closed ∙ found)
        ∙ ap start (sym (rest_ends input (before_newline block) (before_plain block)))
        ∙ ap (λ t. start (open_line (input ++ t))) (sym used_found)

  module _ (none : has_newline block ≡ false) where
    used_none : take (used_by cut block) block ≡ before_newline block
    used_none =
        ap (λ n. take n block) (cuts.count ∙ ap (λ t. length (before_newline block) + cond t 1 0) none ∙ add-zero (length (before_newline block)))
        ∙ take_before block

    pub stays : closed_lines (input ++ take (used_by cut block) block) ≡ closed_lines input
    stays = ap (λ t. closed_lines (input ++ t)) used_none ∙ lines_stay input (before_newline block) (before_plain block)

    lines_none : handed ++ handed_by cut after ≡ map start (closed_lines (input ++ take (used_by cut block) block))
    lines_none =
        ap (λ t. handed ++ cond t (kept after ∷ []) []) (cuts.closed ∙ none)
        ∙ append-nil handed
        ∙ fed.lines
        ∙ ap (map start) (sym stays)

    rest_none : pending after ≡ start (open_line (input ++ take (used_by cut block) block))
    rest_none =
        ap (λ t. cond t [] (kept after)) (cuts.state ∙ cuts.closed ∙ none)
        ∙ held
        ∙ ap start (sym (rest_grows input (before_newline block) (before_plain block)))
        ∙ ap (λ t. start (open_line (input ++ t))) (sym used_none)

  either : (t : Bool) → has_newline block ≡ t → Fed after (input ++ take (used_by cut block) block) (handed ++ handed_by cut after)
  either true e = record { lines = lines_found e; rest = rest_found e }
  either false e = record { lines = lines_none e; rest = rest_none e }

  pub cut_feeds : Fed after (input ++ take (used_by cut block) block) (handed ++ handed_by cut after)
  cut_feeds = either (has_newline block) refl
