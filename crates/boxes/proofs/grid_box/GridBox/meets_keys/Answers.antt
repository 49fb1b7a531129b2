use Rattle.std.proofs.Common.{ℕ, rules, tests}
use Rattle.std.proofs.lemmas.Iterator.{cases_from_all, YieldsList-from_slice, YieldsList-from_zip}
use Rattle.std.proofs.lemmas.Iterator.Consumers.{YieldsList-from_enumerate}
use Rattle.boxes.specs.GridBoxes.{MeetsKey}
use Rattle.boxes.proofs.Alls.{each_passes}
use Rattle.boxes.proofs.grid_box.GridBox.meets_keys.Goals as goal

pub returns : goal.returns
returns c =
    let g = c.args.self.now in
    let lows = c.args.lowest.now in
    let highs = c.args.highest.now in
    each_passes (MeetsKey g) lows highs c.all.result
    (cases_from_all {s = c.enumerate-ends.result} c.all.new.self _ c.all.result (λ (p : ℕ × (ℕ × ℕ)). MeetsKey g p.0 p.1.0 p.1.1) (λ p. MeetsKey g p.0 p.1.0 p.1.1 → ⊥) c.all.ensures.ran
    (YieldsList-from_enumerate (YieldsList-from_zip (YieldsList-from_slice lows cc) (YieldsList-from_slice highs cc)) cc) (λ x q k. search (rules, tests)) (λ x q k. search (rules, tests)))
