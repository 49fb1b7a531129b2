use Rattle.std.proofs.Common.{◌≡◌, ◌*◌, ◌%◌, ◌^◌, not, sym, ap, ◌∙◌}
use lib.Bits.{bit_xor}
use Rattle.std.proofs.lemmas.Nat.{one_shl}
use Rattle.buckets.specs.PageMaps.{bit}
use Rattle.buckets.proofs.PageBits.{xor_here, xor_other, differs}
use Rattle.buckets.proofs.page_maps.with_bit.Goals as goal

pub returns : goal.returns
returns c =
    let x = c.args.byte in
    let i = c.args.i in
    let w : (1 * 2 ^ i) % 256 ≡ 2 ^ i = one_shl i 8 c.requires in
    record {
      here = ap (λ n. bit (bit_xor x n) i) w ∙ xor_here x i c.requires ∙ ap not (sym c.has_bit.ensures) ∙ differs _ _ c.if-has_bit-value.false;
      others = λ k h ne. ap (λ n. bit (bit_xor x n) k) w ∙ xor_other x i k c.requires h ne;
    }
