-- The cell's number is below the number of cells.
use Rattle.std.proofs.Common.{ℕ, List, length, sym, ap, ◌∙◌, arith}
use Rattle.images.specs.Directory.{intervals, place_from}
use Rattle.images.specs.Memory.{scales_in, tile_in}
use Rattle.images.proofs.Memory.{keys_in}
use Rattle.images.proofs.Places.{place_below}
use Rattle.images.proofs.Scales.{get_or_listed}
use Rattle.images.proofs.Turns.{length_parted}
use Rattle.images.proofs.held_image.HeldImage.named_at.Goals as goal

pub cell_from-number-requires-clause-point_len : goal.cell_from-number-requires-clause-point_len
cell_from-number-requires-clause-point_len g c =
    let d = c.args.self.now in
    let s = c.scales.result in
    c.if-point-self.false ∙ sym (keys_in d) ∙ ap length (sym c.scales.ensures) ∙ length_parted s.counts.now s.ends.now

pub cell_from-number-requires-clause-bound : goal.cell_from-number-requires-clause-bound
cell_from-number-requires-clause-bound g c =
    let d = c.args.self.now in
    omega (arith, ap (λ (es : List (List ℕ)). place_from 0 es c.args.point.now) c.scales.ensures, d.small, d.most_cells, place_below (scales_in d) c.args.point.now (c.if-point-self.false ∙ sym (keys_in d)))

pub offset_bounds-self-number : goal.offset_bounds-self-number
offset_bounds-self-number g c =
    let d = c.args.self.now in
    omega (arith, c.cell_from-number.ensures, ap (λ (es : List (List ℕ)). place_from 0 es c.args.point.now) c.scales.ensures, d.small, d.most_cells, place_below (scales_in d) c.args.point.now (c.if-point-self.false ∙ sym (keys_in d)))

pub bounds-self-number : goal.bounds-self-number
bounds-self-number g c =
    let d = c.args.self.now in
    omega (arith, c.cell_from-number.ensures, ap (λ (es : List (List ℕ)). place_from 0 es c.args.point.now) c.scales.ensures, d.small, place_below (scales_in d) c.args.point.now (c.if-point-self.false ∙ sym (keys_in d)))

pub returns : goal.returns
returns g c =
    let d = c.args.self.now in
    let e = c.cell_from-number.ensures ∙ ap (λ (es : List (List ℕ)). place_from 0 es c.args.point.now) c.scales.ensures in
    let l = place_below (scales_in d) c.args.point.now (c.if-point-self.false ∙ sym (keys_in d)) in
    let n = place_from 0 (scales_in d) c.args.point.now in (
      c.if-point-self.false,
      ap (λ m. tile_in d m) e ∙ sym (get_or_listed (intervals (scales_in d)) (tile_in d) n (record { page = 0; level = 0 }) l),
    )
