-- A bucket page that is read is one of its box.
use Rattle.std.proofs.Common.{List, ℕ, sym, refl, subst}
use Rattle.boxes.specs.GridBoxes.{box_of}
use Rattle.promise.specs.State.{BucketBytes}
use Rattle.grid.proofs.walk.Walk.pass_bucket.Goals as goal

pub returns-clause-passed : goal.returns-clause-passed
returns-clause-passed g c rs k =
    let m = g.K.Kind.meaning c.args.self.now.kind.now in
    let b = box_of c.args.leaf.now.inner in
    (c.pass_records.result, refl, c.pass_records.ensures.passed b rs (subst (λ (bytes : List ℕ). BucketBytes m b rs bytes) (sym c.in_ok-load_bucket.ensures.loaded.0) k))
