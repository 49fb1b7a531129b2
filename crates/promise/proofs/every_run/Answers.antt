-- The promise over every run, from what the lower parts promise.
use Rattle.std.proofs.Common.{refl}
use Rattle.promise.proofs.Pages.{Below}
use Rattle.promise.proofs.Runs.{every_run, same_shape}
use Rattle.promise.proofs.Same.{one_set}
use Rattle.promise.proofs.every_run.Goals as goal

pub returns : goal.returns
returns c =
    let b = c.laws_stand.ensures in
    let k = c.bucket_laws_stand.ensures in
    let below : Below = record { boxes = b.boxes; leaves = b.leaves; numbers = b.numbers; order = b.order; orders = b.orders; places = k.placed } in
    record { nothing = refl; lasting = every_run below; shapes = same_shape below; sets = one_set below k.one }
