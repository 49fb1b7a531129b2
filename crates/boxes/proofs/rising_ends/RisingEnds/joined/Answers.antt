use Rattle.std.proofs.Common.{ℕ, ◌+◌, List, length, get_or, drop, sym, ap, ◌∙◌, arith}
use Rattle.std.proofs.lemmas.List.{at_drop_more}
use Rattle.boxes.specs.Rising.{insert, insert_all}
use Rattle.boxes.specs.RisingEnds.{ends_of}
use Rattle.boxes.proofs.Gathered.{length_insert_all}
use Rattle.boxes.proofs.rising_ends.RisingEnds.joined.Goals as goal

pub returns-in_err-insert : goal.returns-in_err-insert
returns-in_err-insert c =
    let more = c.as_slice-end-items.result.now in
    let i = c.loop-end.end-index in
    let own = ends_of c.loop-end.both in
    let step = at_drop_more (λ us. insert_all us own) more i 0 c.loop-end-test.true in
    let all = ap (λ (us : List ℕ). insert_all (drop i us) own) c.as_slice-end-items.ensures ∙ c.loop-end.invariant in
    rw c.from_residual.ensures (omega (arith, ap length (sym step ∙ all), length_insert_all (drop (i + 1) more) (insert (get_or more i 0) own), c.in_err-insert.ensures.0))
