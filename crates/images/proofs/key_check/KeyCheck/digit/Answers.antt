-- By division.
use Rattle.std.proofs.Common.{◌≡◌, suc, ◌+◌, ◌/◌, ◌%◌, drop, ap, ◌∙◌, ap₂, arith}
use Rattle.images.specs.Directory.{intervals}
use Rattle.images.specs.Memory.{scales_in}
use Rattle.images.proofs.Digits.{digit_by}
use Rattle.images.proofs.Memory.{keys_in}
use Rattle.images.proofs.key_check.KeyCheck.digit.Goals as goal

pub returns : goal.returns
returns g c = λ below.
    let d = c.args.self.now.image.now in
    let k = c.args.self.now.key in
    let m = c.args.m in
    let more : k + 1 ≡ suc k = omega arith in
    ap₂ (λ a b. m % a / b) c.cells_from.ensures.product (c.cells_from-2.ensures.product ∙ ap (λ n. intervals (drop n (scales_in d))) more)
    ∙ digit_by (scales_in d) k m (omega (arith, keys_in d, c.args.self.now.key_in)) below
