-- Each turn lays the scale of one key.
use Rattle.std.proofs.Common.{◌≡◌, ℕ, ◌+◌, ◌-◌, ◌<◌, List, length, get_or, take, Option, sym, ap, ◌∙◌, subst, arith, rules}
use borrow.Rule.Slice.PartMut.{put_mid}
use Rattle.std.proofs.lemmas.List.{places, get_or-take}
use Rattle.images.specs.Tilings.{over}
use Rattle.tilings.specs.Filling.{Laid}
use Rattle.tilings.specs.Tiles.{lows_in, scales_in_numbers}
use Rattle.tilings.proofs.Laying.{low_wide, scale_at, laid_full, laid_more, laid_all}
use Rattle.tilings.proofs.collecting.collect_scales.Goals as goal

pub returns-in_err-count : goal.returns-in_err-count
returns-in_err-count c =
    let g = c.args.inner.now in
    let ts = c.args.tiles.now in
    let k = g.space.now.keys in
    let i = c.loop-key.key in
    let from = c.loop-key.from in
    let ends = c.loop-key.ends in
    let new = c.collect_key.new.ends in
    let l = c.loop-key.invariant.2 in
    let inside : i < k = omega (arith, c.loop-key-test.true, low_wide g) in
    let four : i < 4 = omega (arith, inside, g.space.now.few) in
    let same : over (get_or (take k g.low) i 0) (lows_in i ts) ≡ scale_at g ts i = ap (λ n. over n (lows_in i ts)) (get_or-take k g.low i 0 inside) in
    let long : length (put_mid from (length ends - from) ends new) ≡ from + length new = search (rules, places) in
    subst (λ (o : Option (List ℕ)). Laid k (scales_in_numbers g ts) (put_mid from (length ends - from) ends new) o) (sym c.from_residual.ensures)
    (laid_full g ts i from c.loop-key.counts ends new four c.loop-key.invariant k _ inside long (subst (λ (us : List ℕ). length new < length us) same c.in_err-count.ensures))

pub loop-key-preserved : goal.loop-key-preserved
loop-key-preserved c =
    let g = c.args.inner.now in
    let ts = c.args.tiles.now in
    let k = g.space.now.keys in
    let i = c.loop-key.key in
    let inside : i < k = omega (arith, c.loop-key-test.true, low_wide g) in
    let four : i < 4 = omega (arith, inside, g.space.now.few) in
    let same : over (get_or (take k g.low) i 0) (lows_in i ts) ≡ scale_at g ts i = ap (λ n. over n (lows_in i ts)) (get_or-take k g.low i 0 inside) in
    laid_more g ts i c.loop-key.from c.loop-key.counts c.loop-key.ends c.collect_key.new.ends four c.loop-key.invariant c.in_ok-count.count _
    (c.in_ok-count.ensures.0 ∙ ap length same) (c.in_ok-count.ensures.1 ∙ same)

pub returns : goal.returns
returns c =
    let g = c.args.inner.now in
    laid_all g c.args.tiles.now c.loop-key.key c.loop-key.from c.loop-key.counts c.loop-key.ends
    (omega (arith, low_wide g, c.loop-key-test.false)) (omega (arith, low_wide g, c.loop-key.auto.key-end)) c.loop-key.invariant
