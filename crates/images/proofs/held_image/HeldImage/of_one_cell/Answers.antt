-- Without lower ends there is one cell.
use Rattle.std.proofs.Common.{ℕ, ◌≤◌, List, [], ◌∷◌, get_or, take, replicate, ap, ◌∙◌, arith}
use lib.ListN.{length-replicate}
use Rattle.images.specs.Directory.{Tile, intervals}
use Rattle.images.specs.Parts.{parted}
use Rattle.images.specs.Memory.{tile}
use Rattle.images.specs.declared.held_image.Named.{Named}
use Rattle.images.proofs.OneCell.{scales_none, wide_none, total_none, one_interval, rising_none, first_of_all, listed_one}
use Rattle.images.proofs.held_image.HeldImage.of_one_cell.Goals as goal

pub invariant_of-result : goal.invariant_of-result
invariant_of-result g c =
    let k = c.args.keys in
    let few : k ≤ 4 = omega arith in
    let xs : List ℕ = replicate g.row.ENDS 0 in
    let some : 1 ≤ g.row.CELLS = omega arith in record { most_ends = omega arith; most_cells = omega arith; few = few; wide = wide_none k few xs; long = length-replicate {A = ℕ} g.row.ENDS 0; many = length-replicate g.row.CELLS c.args.cell; room = omega (arith, total_none k few xs); small = omega (arith, one_interval k few xs); rising = rising_none k few xs }

pub returns : goal.returns
returns g c =
    let k = c.args.keys in
    let few : k ≤ 4 = omega arith in
    let xs : List ℕ = replicate g.row.ENDS 0 in
    let some : 1 ≤ g.row.CELLS = omega arith in
    let none : Named = record { page = 0; level = 0 } in
    let cell_in : ℕ → Tile = λ m. tile (get_or (replicate g.row.CELLS c.args.cell) m none) in
    let cells = listed_one (intervals (parted (take k (0 ∷ 0 ∷ 0 ∷ 0 ∷ [])) xs)) cell_in (one_interval k few xs) ∙ ap (λ (n : Named). tile n ∷ []) (first_of_all g.row.CELLS c.args.cell none some) in
    (few, omega arith, some, omega arith, (λ i. record { ends = scales_none k few xs i; cells = cells i }))
