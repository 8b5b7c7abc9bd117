use Rattle.std.proofs.Common.{◌≡◌, ◌+◌, length, None, sym, subst, rules}
use Rattle.market.specs.Bands.{low_fits, high_fits, in_order}
use Rattle.market.specs.Tables.{first_broken}
use Rattle.gate.specs.Conditions.{Judges}
use Rattle.gate.proofs.Tables.{last_of}
use Rattle.gate.proofs.fault.broken_band.Goals as goal

pub returns : goal.returns
returns c =
    let bands = c.args.bands.now in
    let low : first_broken low_fits bands 2 ≡ None = c.in_ok-first_broken.ensures low_fits (λ b t k. search rules) in
    let high : first_broken high_fits bands (2 + length bands) ≡ None = c.in_ok-first_broken-2.ensures high_fits (λ b t k. search rules) in
    rw (low, high) (subst (λ o. Judges o c.first_broken-3.result) (sym (last_of _)) (c.first_broken-3.ensures in_order (λ b t k. search rules)))
