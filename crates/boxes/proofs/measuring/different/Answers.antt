use Rattle.std.proofs.Common.{◌≡◌, min, length, arith, rules, tests}
use Rattle.std.proofs.lemmas.Iterator.{YieldsList-from_slice, YieldsList-from_zip}
use Rattle.std.proofs.lemmas.Iterator.Adapters.{YieldsList-from_skip}
use Rattle.std.proofs.lemmas.Iterator.Consumers.{YieldsList-from_filter, count_from_yields_List}
use Rattle.boxes.proofs.Differing.{differ, different_all}
use Rattle.boxes.proofs.measuring.different.Goals as goal

pub returns : goal.returns
returns c =
    let xs = c.args.sorted.now in
    let one : c.from.result ≡ min 1 (length xs) = grind arith in
    different_all xs c.count.result c.from.result c.requires
    (count_from_yields_List c.filter.result c.count.result c.count.ensures.ran
    (YieldsList-from_filter _ differ (YieldsList-from_zip (YieldsList-from_slice xs cc) (YieldsList-from_skip 1 (YieldsList-from_slice xs cc) cc)) c.filter.ensures.closure (λ x r q k. search (rules, tests)))) one
