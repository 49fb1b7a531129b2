use Rattle.std.proofs.Common.{◌+◌, ◌-◌, ◌≡◌, ◌≤◌, ℕ, length, sym, subst, arith}
use Rattle.grid.specs.Walks.{Written}
use borrow.Rule.Slice.PartMut.{put_mid}
use Rattle.grid.proofs.OfLists.{written_part}
use Rattle.grid.proofs.walking.put.Goals as goal

pub returns-clause-written : goal.returns-clause-written
returns-clause-written c =
    let start = c.args.start in
    let old = c.args.buffer.now in
    let bytes = c.args.bytes.now in
    let room : start + length bytes ≤ length old = omega (arith, c.saturating_add-end.ensures, c.if-end-buffer.false) in
    let end : c.saturating_add-end.result ≡ start + length bytes = omega (arith, c.saturating_add-end.ensures, room, c.if-end-buffer.false) in
    let k = c.saturating_add-end.result - start in
    let w = written_part start k old bytes c.copy_from_slice.new.self room (omega arith) c.copy_from_slice.ensures.after in
    subst (λ (e : ℕ). Written start bytes e old (put_mid start k old c.copy_from_slice.new.self)) (sym end) w.1
