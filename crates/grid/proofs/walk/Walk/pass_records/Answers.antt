-- One record more, counted and written behind the others where it is wanted.
use Rattle.std.proofs.Common.{◌≡◌, ℕ, ◌<◌, ◌≤◌, ◌+◌, MatchOption, List, [], length, get_or, refl, sym, ap, ◌∙◌, subst, arith}
use Rattle.std.proofs.lemmas.List.{take_all}
use Rattle.boxes.specs.GridBoxes.{box_of}
use Rattle.boxes.specs.KeyRanges.{lowest_of, highest_of}
use Rattle.buckets.specs.Bucket.{record_at}
use Rattle.grid.specs.Walks.{wanted, Written, PassedBucket}
use Rattle.grid.specs.declared.passed.Passed.{Passed}
use Rattle.grid.proofs.OfLists.{written_none, put_there, end_within}
use Rattle.grid.proofs.Passes.{passed_more, passed_same}
use Rattle.grid.proofs.walk.Walk.pass_records.Goals as goal
use Rattle.grid.proofs.walk.Walk.pass_records.Goals.{then-wants, else-wants}

pub loop-place-init : goal.loop-place-init
loop-place-init g c = (refl, λ l. l, λ b rs k. (omega arith, λ _. written_none c.args.so_far.end c.args.buffer.now))

pub loop-place-preserved : goal.loop-place-preserved
loop-place-preserved g c =
    let w = c.args.self.now in
    let m = g.K.Kind.meaning w.kind.now in
    let law = g.met.K.Kind.lawful w.kind.now in
    let i = c.loop-place.place in
    let p = c.args.so_far in
    let old = c.args.buffer.now in
    let mid = c.loop-place.buffer in
    let f = wanted m (lowest_of w.range) (highest_of w.range) (box_of w.inner) in (
      c.if-wants.auto.buffer ∙ c.loop-place.invariant.0,
      λ l. elim c.if-wants.branch [
        | then-wants v ↦ let k = end_within v.put.result c.loop-place.end v.unwrap_or-end.result mid v.put.new.buffer v.put.auto.buffer v.put.ensures.within v.unwrap_or-end.ensures (c.loop-place.invariant.1 l) in rw (v.end-is, v.buffer-is) k
        | else-wants v ↦ let k = c.loop-place.invariant.1 l in rw (v.end-is, v.buffer-is) k
      ],
      λ b rs k.
          let many = c.record_count-place-end.ensures.listed (length b) rs k.holds in
          let here : i < length rs = omega (arith, many, c.loop-place-test.true) in
          let placed = c.bucket_laws_stand.ensures.placed m (length b) rs c.args.page.now i law k.holds here in
          let own = k.records i here in
          let read = subst (λ r. MatchOption r (m.capacity ≤ i) (λ s. (i < m.capacity) × (s.now ≡ record_at m c.args.page.now i))) c.unwrap-record.ensures c.record_at.ensures in
          let same : c.unwrap-record.result.now ≡ get_or rs i [] = read.1 ∙ placed in
          let test = c.wants.ensures own.0 (ap m.read same ∙ own.1) ∙ ap f same in
          let q : Passed = record { number = c.loop-place.number; end = c.loop-place.end } in
          let so_far = c.loop-place.invariant.2 b rs k in
          elim c.if-wants.branch [
            | then-wants v ↦
                let end = c.loop-place.end in
                let bytes = c.unwrap-record.result.now in
                let there = put_there v.put.result end bytes mid v.put.new.buffer v.put.ensures.written in
                let put = subst (λ (z : List ℕ). end + length z ≤ length mid → Written end z v.unwrap_or-end.result mid v.put.new.buffer) same
                (λ room. subst (λ e. Written end bytes e mid v.put.new.buffer) (sym v.unwrap_or-end.ensures) (there room)) in
                let more = passed_more f rs i here p old q mid c.loop-place.invariant.0 so_far (sym test ∙ v.if-wants.true) v.saturating_add-number.result v.unwrap_or-end.result v.put.new.buffer v.saturating_add-number.ensures put in
                rw (v.number-is, v.end-is, v.buffer-is) more
            | else-wants v ↦
                let stays = passed_same f rs i here p old q mid c.loop-place.invariant.0 so_far (sym test ∙ v.if-wants.false) in
                rw (v.number-is, v.end-is, v.buffer-is) stays
          ],
    )

pub returns-clause-passed : goal.returns-clause-passed
returns-clause-passed g c b rs k =
    let w = c.args.self.now in
    let f = wanted (g.K.Kind.meaning w.kind.now) (lowest_of w.range) (highest_of w.range) (box_of w.inner) in
    let many = c.record_count-place-end.ensures.listed (length b) rs k.holds in
    let all = take_all c.loop-place.place rs (omega (arith, many, c.loop-place.auto.place-end, c.loop-place-test.false)) in
    subst (λ (us : List (List ℕ)). PassedBucket f us c.args.so_far c.args.buffer.now (record { number = c.loop-place.number; end = c.loop-place.end }) c.loop-place.buffer) all (c.loop-place.invariant.2 b rs k)

pub returns-clause-within : goal.returns-clause-within
returns-clause-within g c = c.loop-place.invariant.1
