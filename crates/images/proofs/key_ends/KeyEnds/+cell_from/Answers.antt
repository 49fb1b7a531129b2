-- The number goes to the keys that are left.
use Rattle.std.proofs.Common.{◌≡◌, length, ap, ◌∙◌, arith, refl, rules}
use Rattle.images.specs.SideBySide.{by_key}
use Rattle.images.proofs.Turns.{length_parted, first_rising, rest_rising, stepped, step_most}
use Rattle.images.proofs.key_ends.KeyEnds.+cell_from.Goals as goal

pub overflow_mul-next : goal.overflow_mul-next
overflow_mul-next t c =
    let a = c.in-Some-Some in
    let len : length a.others.now ≡ length (by_key a.more) =
    omega (arith, length_parted a.more.counts.now a.more.ends.now, ap length a.ensures.0, ap length a.ensures'.cases.0, c.requires.point_len) in
    omega (arith, c.requires.bound, step_most c.args.number (by_key c.args.self.now) a.ends.now (by_key a.more) c.args.point.now a.x.now a.others.now a.ensures.1 a.ensures'.cases.0 _ refl len)

pub overflow_add-next-in-Some-Some : goal.overflow_add-next-in-Some-Some
overflow_add-next-in-Some-Some t c =
    let a = c.in-Some-Some in
    let len : length a.others.now ≡ length (by_key a.more) =
    omega (arith, length_parted a.more.counts.now a.more.ends.now, ap length a.ensures.0, ap length a.ensures'.cases.0, c.requires.point_len) in
    let up = first_rising c.args.number (by_key c.args.self.now) a.ends.now (by_key a.more) c.args.point.now a.x.now a.others.now a.ensures.1 a.ensures'.cases.0 c.requires.rising in
    omega (arith, c.requires.bound, step_most c.args.number (by_key c.args.self.now) a.ends.now (by_key a.more) c.args.point.now a.x.now a.others.now a.ensures.1 a.ensures'.cases.0 c.position_of.result (c.position_of.ensures.place up) len)

pub cell_from-requires : goal.cell_from-requires
cell_from-requires t c =
    let a = c.in-Some-Some in
    let up = first_rising c.args.number (by_key c.args.self.now) a.ends.now (by_key a.more) c.args.point.now a.x.now a.others.now a.ensures.1 a.ensures'.cases.0 c.requires.rising in (
      search rules,
      (
        omega (arith, ap length a.ensures.0, ap length a.ensures'.cases.0, c.requires.point_len),
        (
          rest_rising c.args.number (by_key c.args.self.now) a.ends.now (by_key a.more) c.args.point.now a.x.now a.others.now a.ensures.1 a.ensures'.cases.0 c.requires.rising,
          omega (arith, c.requires.bound, stepped c.args.number (by_key c.args.self.now) a.ends.now (by_key a.more) c.args.point.now a.x.now a.others.now a.ensures.1 a.ensures'.cases.0 c.position_of.result (c.position_of.ensures.place up)),
        ),
      ),
    )

pub returns-in-Some-Some : goal.returns-in-Some-Some
returns-in-Some-Some t c =
    let a = c.in-Some-Some in
    let up = first_rising c.args.number (by_key c.args.self.now) a.ends.now (by_key a.more) c.args.point.now a.x.now a.others.now a.ensures.1 a.ensures'.cases.0 c.requires.rising in
    c.cell_from.ensures ∙ stepped c.args.number (by_key c.args.self.now) a.ends.now (by_key a.more) c.args.point.now a.x.now a.others.now a.ensures.1 a.ensures'.cases.0 c.position_of.result (c.position_of.ensures.place up)
