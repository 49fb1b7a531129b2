use Rattle.std.proofs.Common.{◌≡◌, ◌+◌, ◌-◌, length, take, drop, vec_items, ap, ◌∙◌, arith}
use Rattle.std.proofs.lemmas.List.{drop_all, length-drop}
use Rattle.sheet.specs.Lines.{lines}
use Rattle.sheet.proofs.Lining.{next_line}
use Rattle.sheet.proofs.Listing.{rows_more}
use Rattle.sheet.proofs.rows.read_rows.Goals as goal

pub loop-start-preserved : goal.loop-start-preserved
loop-start-preserved c =
    let s = c.args.space.now in
    let text = c.args.text.now in
    let start = c.loop-start.start in
    let end = c.until-end.result in
    let row = take (end - start) (drop start text) in
    let inv = c.loop-start.invariant in
    let next = next_line text start end c.loop-start-test.true c.until-end.ensures in
    rows_more s (lines (drop c.args.from text)) (vec_items c.loop-start.verdicts) (vec_items c.push.new.self) c.read_row.result row (lines (drop (end + 1) text)) (inv.0 ∙ next.1) inv.2 c.read_row.ensures c.in_ok-push.ensures.items

pub returns : goal.returns
returns c =
    let text = c.args.text.now in
    let rows = lines (drop c.args.from text) in
    let vs = vec_items c.loop-start.verdicts in
    let inv = c.loop-start.invariant in
    let none = inv.0 ∙ ap lines (drop_all c.loop-start.start text c.loop-start-test.false) in
    let all : length vs ≡ length rows = omega (arith, inv.1, length-drop (length vs) rows, ap length none) in
    (all, λ i h. inv.2 i (omega arith))
