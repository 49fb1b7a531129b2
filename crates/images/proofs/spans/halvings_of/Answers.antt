-- The sum of a one for each halving of the key.
use Rattle.std.proofs.Common.{ℕ, cond, ◌==◌, length, ◌<◌, arith, rules, tests}
use Rattle.std.specs.List.{count_by}
use Rattle.std.proofs.lemmas.List.Sums.{count_by-le-length}
use Rattle.std.proofs.lemmas.Iterator.{YieldsList-from_slice, YieldsList-from_map}
use Rattle.std.proofs.lemmas.Iterator.Consumers.{sum_by_from_yields_List, fits_by_from_yields_list}
use Rattle.images.proofs.spans.halvings_of.Goals as goal

pub sum-requires-clause-fits : goal.sum-requires-clause-fits
sum-requires-clause-fits c =
    let one = λ (h : ℕ). cond (c.args.key == h) 1 0 in
    fits_by_from_yields_list one c.args.halvings.now c.map.result 18446744073709551616
    (YieldsList-from_map _ one (YieldsList-from_slice c.args.halvings.now cc) c.map.ensures.closure (λ x r q k. search (rules, tests)))
    (omega (arith, count_by-le-length (λ h. c.args.key == h) c.args.halvings.now))

pub returns : goal.returns
returns c =
    let one = λ (h : ℕ). cond (c.args.key == h) 1 0 in
    sum_by_from_yields_List one c.args.halvings.now c.map.result c.sum.result c.sum.ensures.ran
    (YieldsList-from_map _ one (YieldsList-from_slice c.args.halvings.now cc) c.map.ensures.closure (λ x r q k. search (rules, tests)))
