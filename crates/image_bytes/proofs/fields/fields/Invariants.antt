-- The first i are read.
use Rattle.std.proofs.Common.{◌≡◌, map, length, take}
use Rattle.images.specs.Bytes.{joined}
use Rattle.image_bytes.specs.Fields.{Stands}
use Rattle.image_bytes.proofs.fields.fields.Given as goal

abbrev pub invariant-loop-i : goal.invariant-loop-i
invariant-loop-i g l = (length l.item-items ≡ l.i-end) × Stands l.bytes l.at (joined (map g.T.Coded.code (take l.i l.item-items)))
