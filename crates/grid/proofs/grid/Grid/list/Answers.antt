-- From the two walks over the whole space follows what list does.
use Rattle.std.proofs.Common.{◌≡◌, ℕ, [], List, Ok, Err, Result, sym, refl, ap, ◌∙◌, subst, arith, rules}
use Rattle.boxes.specs.GridBoxes.{box_of}
use Rattle.boxes.specs.KeyRanges.{lowest_of, highest_of}
use Rattle.promise.specs.Calls.{Holds, Lists}
use Rattle.promise.specs.declared.refusal.Refusal.{Refusal}
use Rattle.promise.specs.declared.refusal.Refusal.TheVariants.{ShortBuffer}
use Rattle.promise.proofs.Pages.{Below}
use Rattle.grid.specs.Grids.{state}
use Rattle.grid.specs.Walks.{Passes}
use Rattle.grid.specs.declared.passed.Passed.{Passed}
use Rattle.grid.proofs.OfCounts.{number_whole, needed_is}
use Rattle.grid.proofs.Somes.{same_answer, not_refused}
use Rattle.grid.proofs.Walked.{not_listed, walked, lists_by, written_whole}
use Rattle.grid.proofs.grid.Grid.list.Goals as goal

pub returns-in_err-walk : goal.returns-in_err-walk
returns-in_err-walk g c =
    let self = c.args.self.now in
    let m = g.K.Kind.meaning self.kind in
    let st = state (g.S.PageStore.pages c.args.store.now) self in
    let ls = c.args.lowest.now in
    let hs = c.args.highest.now in
    let old = c.args.buffer.now in
    let refused : ◌≡◌ {A = Result ℕ Refusal} c.from_residual.result (Err c.in_err-walk.field-0.0) = search rules in
    subst (λ (r : Result ℕ Refusal). Lists m ls hs st old r old st) (sym refused) (not_listed m st ls hs c.in_err-walk.field-0.0 old c.in_err-walk.ensures.refused)

pub returns-in_err-counted : goal.returns-in_err-counted
returns-in_err-counted g c =
    let self = c.args.self.now in
    let m = g.K.Kind.meaning self.kind in
    let ps = g.S.PageStore.pages c.args.store.now in
    let st = state ps self in
    let ls = c.args.lowest.now in
    let hs = c.args.highest.now in
    let w = c.in_ok-walk.walk in
    let begun = c.in_ok-walk.ensures.begun in
    let passes = subst (λ k. Passes (g.K.Kind.meaning k) ps w.memory.now (lowest_of w.range) (highest_of w.range) (box_of w.inner) (record { number = 0; end = 0 }) [] (Err c.in_err-counted.field-0.0) c.pass_directories.new.buffer) begun.0 c.in_err-counted.ensures.passed in
    let none = λ (held : List (List ℕ)) (h : Holds m st held). let p = walked m st ls hs w.memory.now w.range w.inner begun.1 ps refl _ _ _ _ passes held h in not_refused p.0 c.in_err-counted.field-0.0 p.1 in
    lists_by m st ls hs w.memory.now w.range w.inner begun.1 c.args.buffer.now _ c.args.buffer.now _ (ap (λ (qs : List (List ℕ)). state qs self) c.in_err-counted.ensures.kept) (λ _ _. refl) (λ held h _. absurd (none held h)) (λ held h _. absurd (none held h))

pub returns-then-buffer-needed : goal.returns-then-buffer-needed
returns-then-buffer-needed g c =
    let self = c.args.self.now in
    let m = g.K.Kind.meaning self.kind in
    let law = g.met.K.Kind.lawful self.kind in
    let ps = g.S.PageStore.pages c.args.store.now in
    let st = state ps self in
    let ls = c.args.lowest.now in
    let hs = c.args.highest.now in
    let w = c.in_ok-walk.walk in
    let begun = c.in_ok-walk.ensures.begun in
    let q = c.in_ok-counted.counted in
    let passes = subst (λ k. Passes (g.K.Kind.meaning k) ps w.memory.now (lowest_of w.range) (highest_of w.range) (box_of w.inner) (record { number = 0; end = 0 }) [] (Ok q) c.pass_directories.new.buffer) begun.0 c.in_ok-counted.ensures.passed in
    let b = c.laws_stand.ensures in
    let below : Below = record { boxes = b.boxes; leaves = b.leaves; numbers = b.numbers; order = b.order; orders = b.orders; places = c.bucket_laws_stand.ensures.placed } in
    let needed = c.saturating_mul-needed.result in
    let is = λ (held : List (List ℕ)) (h : Holds m st held).
    let p = walked m st ls hs w.memory.now w.range w.inner begun.1 ps refl _ _ _ _ passes held h in
    let number = number_whole m law st held h below ls hs q.number (ap (λ (z : Passed). z.number) (same_answer q p.0 p.1) ∙ p.2) in
    needed_is m law st held h below ls hs c.size.result q.number needed c.size.ensures number c.saturating_mul-needed.ensures in
    lists_by m st ls hs w.memory.now w.range w.inner begun.1 c.args.buffer.now (Err (ShortBuffer needed)) c.args.buffer.now _ (ap (λ (qs : List (List ℕ)). state qs self) c.in_ok-counted.ensures.kept) (λ _ _. refl)
    (λ held h _. ap {B = Result ℕ Refusal} (λ (n : ℕ). Err (ShortBuffer n)) (is held h))
    (λ held h room. absurd (omega (arith, is held h, c.if-buffer-needed.true, room)))

pub returns : goal.returns
returns g c =
    let self = c.args.self.now in
    let m = g.K.Kind.meaning self.kind in
    let law = g.met.K.Kind.lawful self.kind in
    let ps = g.S.PageStore.pages c.args.store.now in
    let qs = g.S.PageStore.pages c.pass_directories.new.store in
    let st = state ps self in
    let ls = c.args.lowest.now in
    let hs = c.args.highest.now in
    let old = c.args.buffer.now in
    let new = c.pass_directories-2.new.buffer in
    let w = c.in_ok-walk.walk in
    let begun = c.in_ok-walk.ensures.begun in
    let q = c.in_ok-counted.counted in
    let nothing : Passed = record { number = 0; end = 0 } in
    let passes = subst (λ k. Passes (g.K.Kind.meaning k) ps w.memory.now (lowest_of w.range) (highest_of w.range) (box_of w.inner) nothing [] (Ok q) c.pass_directories.new.buffer) begun.0 c.in_ok-counted.ensures.passed in
    let again = subst (λ k. Passes (g.K.Kind.meaning k) qs w.memory.now (lowest_of w.range) (highest_of w.range) (box_of w.inner) nothing old c.pass_directories-2.result new) begun.0 c.pass_directories-2.ensures.passed in
    let b = c.laws_stand.ensures in
    let below : Below = record { boxes = b.boxes; leaves = b.leaves; numbers = b.numbers; order = b.order; orders = b.orders; places = c.bucket_laws_stand.ensures.placed } in
    let needed = c.saturating_mul-needed.result in
    let number = λ (held : List (List ℕ)) (h : Holds m st held).
    let p = walked m st ls hs w.memory.now w.range w.inner begun.1 ps refl _ _ _ _ passes held h in
    number_whole m law st held h below ls hs q.number (ap (λ (z : Passed). z.number) (same_answer q p.0 p.1) ∙ p.2) in
    let is = λ (held : List (List ℕ)) (h : Holds m st held).
    needed_is m law st held h below ls hs c.size.result q.number needed c.size.ensures (number held h) c.saturating_mul-needed.ensures in
    lists_by m st ls hs w.memory.now w.range w.inner begun.1 old (Ok q.number) new _ (ap (λ (us : List (List ℕ)). state us self) (c.pass_directories-2.ensures.kept ∙ c.in_ok-counted.ensures.kept))
    (λ x e. absurd (not_refused q.number x (sym e)))
    (λ held h room. absurd (omega (arith, is held h, c.if-buffer-needed.false, room)))
    (λ held h room.
    let p = walked m st ls hs w.memory.now w.range w.inner begun.1 qs (sym c.in_ok-counted.ensures.kept) nothing old c.pass_directories-2.result new again held h in
    let r = written_whole m st ls hs law held h p.0 old new p.3 room in
    (ap {B = Result ℕ Refusal} (λ (n : ℕ). Ok n) (number held h), r.0, r.1, r.2))
