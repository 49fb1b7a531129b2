-- Each end is compared with the next.
use Rattle.std.proofs.Common.{ltb, rules, tests}
use Rattle.std.proofs.lemmas.Fn.{always_returns_same}
use Rattle.image_bytes.proofs.Parsed.{rises_of}
use Rattle.image_bytes.proofs.parsing.rises.Goals as goal

pub returns : goal.returns
returns c = rises_of c.is_sorted_by.result c.args.ends.now (c.is_sorted_by.ensures.cases (λ x y. ltb x y) (always_returns_same _ _ _ (λ a r f k. search (rules, tests))))
