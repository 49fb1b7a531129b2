-- Each halving of the key takes a bit.
use Rattle.std.proofs.Common.{◌-◌, ◌<◌, ◌≤◌, get_or, sym, ◌∙◌, subst}
use Rattle.images.proofs.Halvings.{room, left_bits, shifted, span_left, some_span, most_span}
use Rattle.images.proofs.spans.span_of.Goals as goal

pub overflow_sub-result : goal.overflow_sub-result
overflow_sub-result c = room c.args.space.now c.args.key c.args.level c.min-last.result c.halvings_of-halvings.result c.requires c.min-last.ensures c.halvings_of-halvings.ensures

pub returns : goal.returns
returns c =
    let s = c.args.space.now in
    let k = c.args.key in
    let last = c.min-last.result in
    let bits = get_or s.widths k 0 - c.halvings_of-halvings.result in
    let inv = left_bits s k c.args.level last c.halvings_of-halvings.result c.requires c.min-last.ensures c.halvings_of-halvings.ensures in
    let sh = shifted s k c.args.level last bits c.requires c.min-last.ensures inv in
    record {
      span = sh ∙ span_left s k c.args.level last bits c.requires c.min-last.ensures inv;
      some = subst (λ n. 0 < n) (sym sh) (some_span s k c.args.level last bits c.requires c.min-last.ensures inv);
      most = subst (λ n. n ≤ 4294967296) (sym sh) (most_span s k c.args.level last bits c.requires c.min-last.ensures inv);
    }
