use Rattle.std.proofs.Common.{◌≡◌, ◌*◌, ◌≤◌, take}
use Rattle.arrayvec.specs.ArrayVec.{array_vec_len}
use Rattle.rules.specs.Domain.{total}
use Rattle.market.specs.Levels.{level, quantities}
use Rattle.book.proofs.level.read_level.Given as goal

abbrev pub invariant-loop-i : goal.invariant-loop-i
invariant-loop-i l =
    (l.total ≡ total (l.scratch.quantities.items))
    × (l.scratch.quantities.items ≡ quantities (level l.place.book l.place.side l.place.price (take l.i l.orders)))
    × (array_vec_len l.scratch.quantities ≤ l.i)
    × (l.total ≤ 10000 * l.i)
