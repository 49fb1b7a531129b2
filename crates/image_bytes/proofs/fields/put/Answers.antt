use Rattle.std.proofs.Common.{arith}
use Rattle.image_bytes.proofs.Standing.{put_part}
use Rattle.image_bytes.proofs.fields.put.Goals as goal

pub returns : goal.returns
returns c = put_part c.args.bytes.now c.args.at c.args.field.now _ _ (omega arith) c.copy_from_slice.ensures.after c.requires
