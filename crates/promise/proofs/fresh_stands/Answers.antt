-- The pages of a grid just made, from what the lower parts promise.
use Rattle.std.proofs.Common.{refl}
use Rattle.promise.proofs.Fresh.{fresh_stands}
use Rattle.promise.proofs.fresh_stands.Goals as goal

pub returns : goal.returns
returns c =
    let i = c.image_laws_stand.ensures in
    record { nothing = refl; fresh = fresh_stands c.laws_stand.ensures.boxes c.laws_stand.ensures.order i.plain i.roots i.directories }
