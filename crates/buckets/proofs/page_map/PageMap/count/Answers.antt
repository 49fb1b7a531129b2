-- The sum of a one for each page in use.
use Rattle.std.proofs.Common.{ℕ, cond, ◌<◌, ◌∙◌, arith, rules}
use borrow.Author.Tests.{tests}
use Rattle.std.specs.List.{range_with_len}
use Rattle.std.proofs.lemmas.Iterator.{YieldsList-from_range, YieldsList-from_map}
use Rattle.std.proofs.lemmas.Iterator.Consumers.{sum_by_from_yields_List, fits_by_from_yields_list}
use Rattle.buckets.specs.PageMaps.{used}
use Rattle.buckets.proofs.PageBits.{pages_counted, pages_fit}
use Rattle.buckets.proofs.page_map.PageMap.count.Goals as goal

pub sum-requires-clause-fits : goal.sum-requires-clause-fits
sum-requires-clause-fits c =
    let f = used c.args.self.now in
    let one = λ (page : ℕ). cond (f page) 1 0 in
    let few : 32768 < 18446744073709551616 = omega arith in
    fits_by_from_yields_list one (range_with_len 0 32768) c.map.result 18446744073709551616
    (YieldsList-from_map _ one (YieldsList-from_range 0 32768 32768 c.map.ensures.source (omega arith)) c.map.ensures.closure (λ x r q k. search (rules, tests)))
    (pages_fit f 32768 few)

pub returns : goal.returns
returns c =
    let f = used c.args.self.now in
    let one = λ (page : ℕ). cond (f page) 1 0 in
    sum_by_from_yields_List one (range_with_len 0 32768) c.map.result c.sum.result c.sum.ensures.ran
    (YieldsList-from_map _ one (YieldsList-from_range 0 32768 32768 c.map.ensures.source (omega arith)) c.map.ensures.closure (λ x r q k. search (rules, tests)))
    ∙ pages_counted f 32768
