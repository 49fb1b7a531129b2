-- The first key's ends, and those of the others.
use Rattle.images.specs.SideBySide.{by_key}
use Rattle.image_bytes.proofs.Parsed.{all_rising, others_rising}
use Rattle.image_bytes.proofs.parsing.+ends_rise.Goals as goal

pub returns-then-rises : goal.returns-then-rises
returns-then-rises t c =
    let es = by_key c.args.ends.now in
    let us = c.in-Some.first.now in
    let more = by_key c.in-Some.more in (
      (λ e. all_rising es us more c.in-Some.ensures.1 (c.rises.ensures.0 c.if-rises.true) (c.ends_rise.ensures.0 e)),
      (λ all. c.ends_rise.ensures.1 (others_rising es us more c.in-Some.ensures.1 all)),
    )
