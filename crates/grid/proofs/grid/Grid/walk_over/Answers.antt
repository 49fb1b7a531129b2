-- The two lists are no range of the kind's space.
use Rattle.std.proofs.Common.{◌≡◌, ℕ, List, Err, Option, Result, IfErr, inr, sym, ap, ◌∙◌, subst, rules}
use Rattle.std.specs.Option.{ok_or}
use Rattle.boxes.specs.KeyRanges.{RangeMade}
use Rattle.boxes.specs.Ranges.{IsRange}
use Rattle.boxes.specs.declared.key_range.KeyRange.{KeyRange}
use Rattle.promise.specs.declared.refusal.Refusal.{Refusal}
use Rattle.promise.specs.declared.refusal.Refusal.TheVariants.{BadKeys}
use Rattle.grid.specs.Grids.{state}
use Rattle.grid.specs.Walks.{NotBegun}
use Rattle.grid.specs.declared.walk.Walk.{Walk}
use Rattle.grid.proofs.Somes.{same_refusal}
use Rattle.grid.proofs.grid.Grid.walk_over.Goals as goal

pub returns-in_err-range-clause-refused : goal.returns-in_err-range-clause-refused
returns-in_err-range-clause-refused g c =
    let m = g.K.Kind.meaning c.args.self.now.kind in
    let ps = g.S.PageStore.pages c.args.store.now in
    let ls = c.args.lowest.now in
    let hs = c.args.highest.now in
    let mem = c.in_ok-memory.memory.now in
    let made = c.in_ok-memory.ensures ps (sym c.count.ensures.counted) in
    let none = subst (RangeMade mem.space ls hs) c.in_err-range.ensures.ok_part c.new.ensures in
    let bad : c.in_err-range.field-0.0 ≡ BadKeys = same_refusal {A = KeyRange} _ _ (c.in_err-range.ensures.value ∙ ap (λ (o : Option KeyRange). ok_or o BadKeys) c.in_err-range.ensures.ok_part) in
    let refused : ◌≡◌ {A = Result (Walk g.row.K.Denot g.K.Kind) Refusal} c.from_residual-in_err-range.result (Err c.in_err-range.field-0.0) = search rules in
    subst (λ (r : Result (Walk g.row.K.Denot g.K.Kind) Refusal). IfErr r (NotBegun m (state ps c.args.self.now) ls hs)) (sym refused)
    (inr (mem, made, (λ k. none (subst (λ (ws : List ℕ). IsRange ws ls hs) (sym made.widths) k)), bad))
