-- Each turn does one key.
use Rattle.tilings.proofs.Cornering.{within_part, turned}
use Rattle.tilings.proofs.corners.corner_of.Goals as goal

pub loop-key-preserved : goal.loop-key-preserved
loop-key-preserved c =
    let low = c.args.low.now in
    let counts = c.args.scales.now.counts.now in
    let ends = c.args.scales.now.ends.now in
    let l = c.loop-key in
    let within = within_part low counts ends l.point c.args.number l.key l.from l.left l.rest c.loop-key-test.true c.requires.four_keys c.told-low l.invariant in
    turned low counts ends l.point c.args.number l.key l.from l.left l.rest c.loop-key-test.true c.requires.four_keys c.told-low l.invariant c.interval_start.result (c.interval_start.ensures.there within)
