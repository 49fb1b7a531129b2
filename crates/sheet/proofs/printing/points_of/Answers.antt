use Rattle.std.proofs.Common.{◌≡◌, ◌∙◌, rules, tests, vec_items}
use Rattle.std.proofs.lemmas.Iterator.{items_from_collect, YieldsList-from_slice}
use Rattle.std.proofs.lemmas.Iterator.Consumers.{YieldsList-from_filter_map}
use Rattle.std.proofs.lemmas.Result.{IfOk-weaker}
use Rattle.std.specs.List.{filter_map}
use Rattle.sheet.specs.Printed.{points_of}
use Rattle.sheet.specs.Verdicts.{point_of}
use Rattle.sheet.proofs.Listing.{points_are}
use Rattle.sheet.proofs.printing.points_of.Goals as goal

pub returns : goal.returns
returns c =
    let vs = c.args.verdicts.now in
    IfOk-weaker c.collect.result (λ v. vec_items v ≡ filter_map point_of vs) (λ v. vec_items v ≡ points_of vs) (λ v e. e ∙ points_are vs)
    (items_from_collect c.collect.result c.collect.ensures.ran (YieldsList-from_filter_map _ point_of (YieldsList-from_slice vs cc) c.filter_map.ensures.closure (λ x r q k. search (rules, tests))))
