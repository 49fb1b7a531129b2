-- The bytes of the stretch, one by one.
use Rattle.std.proofs.Common.{◌≡◌, ℕ, ◌-◌, take, drop, rules, tests}
use Rattle.std.proofs.lemmas.Iterator.{YieldsList-from_slice}
use Rattle.images.proofs.Every.{all_of}
use Rattle.image_bytes.proofs.Standing.{zeros_of}
use Rattle.image_bytes.proofs.fields.is_zero.Goals as goal

pub returns : goal.returns
returns c =
    let bs = c.args.bytes.now in
    let part = take (c.args.to - c.args.from) (drop c.args.from bs) in
    zeros_of c.all.result bs c.args.from c.args.to c.requires.from_le_to c.requires.to_in_bounds
    (all_of _ _ c.all.result (λ (b : ℕ). b ≡ 0) c.all.ensures.ran (λ x b q k. search (rules, tests)) part (YieldsList-from_slice part cc) 0)
