-- As many answers are read as the key has ends.
use Rattle.std.proofs.Common.{◌≡◌, ◌<◌, Bool, true, false, length, take, sym, ap, ◌∙◌, arith, rules, tests}
use Rattle.std.proofs.lemmas.Iterator.{YieldsList-from_slice, YieldsList-from_take}
use Rattle.std.proofs.lemmas.List.{get_or-take, length-take-le}
use Rattle.images.proofs.Every.{all_of}
use Rattle.images.proofs.Memory.{scale_long, count_most}
use Rattle.images.proofs.key_check.KeyCheck.uses_ends.Goals as goal

pub returns : goal.returns
returns g c =
    let k = c.args.self.now in
    let used = c.used_ends-used.result in
    let n = length c.scale.result.now in
    let long : length (take n used) ≡ n =
    length-take-le n used (omega (arith, ap length c.scale.ensures, scale_long k.image.now k.key k.key_in, count_most k.image.now k.key k.key_in, c.used_ends-used.ensures.long)) in
    let here = ap length c.scale.ensures in
    let each = all_of _ _ c.all.result (λ (b : Bool). b ≡ true) c.all.ensures.ran (λ x b q k. search (rules, tests)) (take n used) (YieldsList-from_take n (YieldsList-from_slice used cc) cc) false in (
      (λ e j l. (c.used_ends-used.ensures.told j l).0 (sym (get_or-take n used j false (omega (arith, here))) ∙ each.0 e j (omega (arith, here, long)))),
      (λ w. each.1 (λ j l. let m : j < n = omega (arith, long) in get_or-take n used j false m ∙ (c.used_ends-used.ensures.told j (omega (arith, here))).1 (w j (omega (arith, here))))),
    )
