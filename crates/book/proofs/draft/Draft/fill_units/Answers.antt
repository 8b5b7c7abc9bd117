use Rattle.std.proofs.Common.{[], ◌∷◌, subst}
use Rattle.market.specs.declared.row.Row.{Row}
use Rattle.book.specs.Reports.{Tells}
use Rattle.book.proofs.Reports.{tells_then}
use Rattle.book.proofs.draft.Draft.fill_units.Goals as goal

pub returns : goal.returns
returns g c =
    let legs = c.take_legs.ensures in
    let row = c.implied_row.result in
    record {
      rows = legs.rows;
      takes = legs.takes;
      more = subst (λ (r : Row). Tells c.args.told.now (r ∷ legs.rows) c.take_legs.new.told) c.implied_row.ensures (tells_then c.args.told.now c.push.new.self c.take_legs.new.told (row ∷ []) legs.rows c.push.ensures legs.more);
    }
