-- The parts of the check together are the rules.
use Rattle.std.proofs.Common.{sym, ◌∙◌}
use Rattle.std.proofs.lemmas.Bool.{false≢true, eqb-true}
use Rattle.images.proofs.Verdict.{parts_lawful, lawful_parts}
use Rattle.images.proofs.held_image.HeldImage.is_lawful.Goals as goal
use Rattle.images.proofs.held_image.HeldImage.is_lawful.Goals.{then-self-inner, else-self-inner}

pub returns-then-has_lawful_cells : goal.returns-then-has_lawful_cells
returns-then-has_lawful_cells g c = elim c.if-self-inner.branch [
  | then-self-inner w ↦ (
    (λ e. parts_lawful c.args.inner.now c.args.self.now c.args.pages (w.if-self-inner.true, w.has_lawful_cells.ensures.0 (sym w.value-is ∙ c.if-has_lawful_cells.true), c.has_lawful_keys.ensures.0 e)),
    (λ l. c.has_lawful_keys.ensures.1 (lawful_parts c.args.inner.now c.args.self.now c.args.pages l).2),
  )
  | else-self-inner w ↦ absurd (w.if-self-inner.false (eqb-true c.args.self.now.keys c.args.inner.now.space.now.keys (sym w.value-is ∙ c.if-has_lawful_cells.true)))
]

pub returns-else-has_lawful_cells : goal.returns-else-has_lawful_cells
returns-else-has_lawful_cells g c = (
  (λ e. absurd (false≢true (sym c.if-has_lawful_cells.false ∙ e))),
  (λ l. elim c.if-self-inner.branch [
    | then-self-inner w ↦ w.value-is ∙ w.has_lawful_cells.ensures.1 (lawful_parts c.args.inner.now c.args.self.now c.args.pages l).1
    | else-self-inner w ↦ absurd (w.if-self-inner.false (lawful_parts c.args.inner.now c.args.self.now c.args.pages l).0)
  ]),
)
