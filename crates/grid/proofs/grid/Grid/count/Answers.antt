-- From the walk over the whole space follows what count does.
use Rattle.std.proofs.Common.{◌≡◌, ℕ, [], List, Ok, Err, Result, sym, refl, ap, ◌∙◌, subst, rules}
use Rattle.boxes.specs.GridBoxes.{box_of}
use Rattle.boxes.specs.KeyRanges.{lowest_of, highest_of}
use Rattle.promise.specs.Calls.{Counts}
use Rattle.promise.specs.declared.refusal.Refusal.{Refusal}
use Rattle.promise.proofs.Pages.{Below}
use Rattle.grid.specs.Grids.{state}
use Rattle.grid.specs.Walks.{Passes}
use Rattle.grid.specs.declared.passed.Passed.{Passed}
use Rattle.grid.proofs.OfCounts.{number_whole}
use Rattle.grid.proofs.Somes.{same_answer, not_refused}
use Rattle.grid.proofs.Walked.{not_counted, walked, counts_by}
use Rattle.grid.proofs.grid.Grid.count.Goals as goal

pub returns-in_err-walk : goal.returns-in_err-walk
returns-in_err-walk g c =
    let self = c.args.self.now in
    let m = g.K.Kind.meaning self.kind in
    let st = state (g.S.PageStore.pages c.args.store.now) self in
    let refused : ◌≡◌ {A = Result ℕ Refusal} c.from_residual.result (Err c.in_err-walk.field-0.0) = search rules in
    subst (λ (r : Result ℕ Refusal). Counts m c.args.lowest.now c.args.highest.now st r st) (sym refused) (not_counted m st c.args.lowest.now c.args.highest.now c.in_err-walk.field-0.0 c.in_err-walk.ensures.refused)

pub returns-in_err-passed : goal.returns-in_err-passed
returns-in_err-passed g c =
    let self = c.args.self.now in
    let m = g.K.Kind.meaning self.kind in
    let ps = g.S.PageStore.pages c.args.store.now in
    let st = state ps self in
    let w = c.in_ok-walk.walk in
    let begun = c.in_ok-walk.ensures.begun in
    let passes = subst (λ k. Passes (g.K.Kind.meaning k) ps w.memory.now (lowest_of w.range) (highest_of w.range) (box_of w.inner) (record { number = 0; end = 0 }) [] (Err c.in_err-passed.field-0.0) c.pass_directories.new.buffer) begun.0 c.in_err-passed.ensures.passed in
    let stays = ap (λ (qs : List (List ℕ)). state qs self) c.in_err-passed.ensures.kept in
    counts_by m st c.args.lowest.now c.args.highest.now w.memory.now w.range w.inner begun.1 _ _ stays
    (λ held h. let p = walked m st c.args.lowest.now c.args.highest.now w.memory.now w.range w.inner begun.1 ps refl _ _ _ _ passes held h in absurd (not_refused p.0 c.in_err-passed.field-0.0 p.1))

pub returns : goal.returns
returns g c =
    let self = c.args.self.now in
    let m = g.K.Kind.meaning self.kind in
    let law = g.met.K.Kind.lawful self.kind in
    let ps = g.S.PageStore.pages c.args.store.now in
    let st = state ps self in
    let ls = c.args.lowest.now in
    let hs = c.args.highest.now in
    let w = c.in_ok-walk.walk in
    let begun = c.in_ok-walk.ensures.begun in
    let q = c.in_ok-passed.passed in
    let passes = subst (λ k. Passes (g.K.Kind.meaning k) ps w.memory.now (lowest_of w.range) (highest_of w.range) (box_of w.inner) (record { number = 0; end = 0 }) [] (Ok q) c.pass_directories.new.buffer) begun.0 c.in_ok-passed.ensures.passed in
    let b = c.laws_stand.ensures in
    let below : Below = record { boxes = b.boxes; leaves = b.leaves; numbers = b.numbers; order = b.order; orders = b.orders; places = c.bucket_laws_stand.ensures.placed } in
    let stays = ap (λ (qs : List (List ℕ)). state qs self) c.in_ok-passed.ensures.kept in
    counts_by m st ls hs w.memory.now w.range w.inner begun.1 (Ok q.number) _ stays (λ held h.
    let p = walked m st ls hs w.memory.now w.range w.inner begun.1 ps refl _ _ _ _ passes held h in
    let same = ap (λ (z : Passed). z.number) (same_answer q p.0 p.1) in
    ap {B = Result ℕ Refusal} (λ (n : ℕ). Ok n) (number_whole m law st held h below ls hs q.number (same ∙ p.2)))
