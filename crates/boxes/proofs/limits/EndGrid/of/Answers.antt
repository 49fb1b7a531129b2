use Rattle.std.proofs.Common.{◌-◌, ◌*◌, ◌∙◌, rules, tests}
use Rattle.std.proofs.lemmas.Iterator.{YieldsList-from_slice, YieldsList-from_map}
use Rattle.std.proofs.lemmas.Iterator.Adapters.{total_from_yields_List}
use Rattle.std.proofs.lemmas.Iterator.Consumers.{sum_by_from_yields_List, fits_by_from_yields_list}
use Rattle.boxes.proofs.Bounds.{sum_is, product_is, sum_fits, product_fits}
use Rattle.boxes.proofs.limits.EndGrid.of.Goals as goal

pub sum-requires-clause-fits : goal.sum-requires-clause-fits
sum-requires-clause-fits c =
    fits_by_from_yields_list (λ n. n - 1) c.args.counts.now c.map.result 18446744073709551616
    (YieldsList-from_map _ (λ n. n - 1) (YieldsList-from_slice c.args.counts.now cc) c.map.ensures.closure (λ x r q k. search (rules, tests))) (sum_fits c.args.counts.now c.requires)

pub product-requires-clause-fits : goal.product-requires-clause-fits
product-requires-clause-fits c = product_fits c.args.counts.now c.requires (YieldsList-from_slice c.args.counts.now cc)

pub returns-clause-boundaries : goal.returns-clause-boundaries
returns-clause-boundaries c =
    sum_by_from_yields_List (λ n. n - 1) c.args.counts.now c.map.result c.sum.result c.sum.ensures.ran
    (YieldsList-from_map _ (λ n. n - 1) (YieldsList-from_slice c.args.counts.now cc) c.map.ensures.closure (λ x r q k. search (rules, tests))) ∙ sum_is c.args.counts.now

pub returns-clause-cells : goal.returns-clause-cells
returns-clause-cells c =
    total_from_yields_List (λ a x. a * x) 1 c.product.result c.product.ensures.ran (YieldsList-from_slice c.args.counts.now cc) ∙ product_is c.args.counts.now
