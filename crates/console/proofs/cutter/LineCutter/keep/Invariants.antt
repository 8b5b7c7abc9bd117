use Rattle.std.proofs.Common.{◌≡◌, ◌+◌, ◌++◌, take, vec_items, vec_len, vec_capacity}
use Rattle.console.proofs.cutter.LineCutter.keep.Given as goal

abbrev pub invariant-loop-byte : goal.invariant-loop-byte
invariant-loop-byte l =
    (vec_items l.self.line ≡ vec_items l.initial.self.line ++ take l.byte-index l.fn.more)
    × (vec_len l.self.line ≡ vec_len l.initial.self.line + l.byte-index)
    × (vec_capacity l.self.line ≡ vec_capacity l.initial.self.line)
