-- The first i are written.
use Rattle.std.proofs.Common.{map, take}
use Rattle.images.specs.Bytes.{joined}
use Rattle.image_bytes.specs.Fields.{Put}
use Rattle.image_bytes.proofs.fields.put_all.Given as goal

abbrev pub invariant-loop-i : goal.invariant-loop-i
invariant-loop-i g l = Put l.initial.bytes l.at (joined (map g.T.Coded.code (take l.i l.items))) l.bytes
