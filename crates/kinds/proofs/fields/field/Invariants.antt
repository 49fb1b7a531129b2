use Rattle.std.proofs.Common.{◌≡◌, ℕ, ◌+◌, ◌<◌, length, slice_index}
use Rattle.kinds.proofs.fields.field.Given as goal

abbrev pub invariant-loop-i : goal.invariant-loop-i
invariant-loop-i g l = (length l.byte-items ≡ l.i-end) × ((k : ℕ) → k < l.i → slice_index l.byte-items k ≡ slice_index l.bytes (l.at + k))
