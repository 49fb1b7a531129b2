use Rattle.std.proofs.Common.{◌≡◌, length, arith, rules}
use Rattle.sheet.proofs.Heading.{front_is, point_read}
use Rattle.sheet.proofs.rows.read_point.Goals as goal

pub returns : goal.returns
returns c =
    let r = c.in_ok-numbers.ensures in
    let eight : length c.in_ok-numbers.numbers.first ≡ 8 = search rules in
    let same = front_is c.in_ok-numbers.numbers.count 8 c.in_ok-numbers.numbers.first r.0 (omega (arith, r.3)) (omega (arith, c.if-numbers-gt4.false)) (omega arith) r.4 in
    point_read c.args.space.now c.args.row.now r.0 r.1 r.2 _ same c.point.result c.point.ensures
