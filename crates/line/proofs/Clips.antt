-- More than 1,200 bytes of a line get its verdict.
use Rattle.std.proofs.Common.{◌≡◌, ℕ, ◌<◌, List, length, take, Err, sym, ap, ◌∙◌, ⊎_elim, arith, length-take}
use Rattle.std.specs.List.{prefix_len}
use Rattle.std.proofs.lemmas.List.{take_all, take-take}
use Rattle.std.proofs.lemmas.List.Sums.{prefix_len-le-length}
use Rattle.std.proofs.lemmas.Bool.{cases_lt}
use Rattle.market.specs.declared.refusal.Refusal.TheVariants.{Byte}
use Rattle.line.specs.Bytes.{allowed, clean}
use Rattle.line.specs.Kinds.{Form}
use Rattle.line.specs.Verdicts.{read_line}
use Rattle.line.proofs.Openings.{stopped}

pub same_verdict : {X : Type 0} (form : List (List ℕ) → Form X) (line : List ℕ) (most : ℕ) → 1200 < most → read_line form (take most line) ≡ read_line form line
same_verdict form line most more =
    ⊎_elim
    (λ h.
    let e : clean (take most line) ≡ clean line = ap (prefix_len allowed) (take-take 1200 most line (omega arith)) in
    let few = prefix_len-le-length allowed (take 1200 line) in
    let head = length-take 1200 line in
    let long = length-take most line in
    stopped form (take most line) (omega arith) ∙ ap (λ n. Err (Byte n)) e ∙ sym (stopped form line (omega arith)))
    (λ h. ap (read_line form) (take_all most line h))
    (cases_lt most (length line))
