-- The scales fit, and are those of the arrays.
use Rattle.std.proofs.Common.{◌≡◌, ◌-◌, ◌≤◌, length, take, replicate, refl, ap, ◌∙◌, subst, inl, inr, arith, length-drop}
use Rattle.std.proofs.lemmas.List.{length-take, length-take-le, length-replicate, get_or-replicate, get_or_past}
use Rattle.std.proofs.lemmas.Bool.{cases_lt, both_ways}
use Rattle.images.specs.declared.held_image.Named.{Named}
use Rattle.images.specs.Directory.{intervals}
use Rattle.images.specs.Parts.{parted, total}
use Rattle.images.proofs.Counts.{intervals_parted}
use Rattle.tilings.proofs.Laying.{numbers_in, cells_made, laid_again, rising_again}
use Rattle.tilings.proofs.sizing.scaled_image.Goals as goal

pub returns-then-not-fits_into : goal.returns-then-not-fits_into
returns-then-not-fits_into g c = λ fits.
    let b = c.args.inner.now in
    let ts = c.args.tiles.now in
    let cs = take b.space.now.keys c.in_ok-scales.scales.counts in
    let xs = c.in_ok-scales.scales.ends in
    let r = c.in_ok-scales.ensures in
    let room : total cs ≤ length xs = omega (arith, r.0, r.2) in
    both_ways c.fits_into.result c.if-not-fits_into.true (c.fits_into.ensures.1 (
      omega (arith, numbers_in b ts cs xs xs room r.3, c.in_ok-size.ensures.2, fits.2),
      omega (arith, cells_made b ts cs xs xs room r.3, c.in_ok-size.ensures.3, fits.3),
    ))

pub invariant_of-result : goal.invariant_of-result
invariant_of-result g c =
    let b = c.args.inner.now in
    let ts = c.args.tiles.now in
    let cs = take b.space.now.keys c.in_ok-scales.scales.counts in
    let xs = c.in_ok-scales.scales.ends in
    let ys = c.in_ok-ends.ends in
    let n = c.in_ok-size.size.boundaries in
    let r = c.in_ok-scales.ensures in
    let room : total cs ≤ length xs = omega (arith, r.0, r.2) in
    let part : length (take n xs) ≡ n = length-take-le n xs (omega (arith, room, c.in_ok-size.ensures.2)) in
    let front : take n ys ≡ take n xs = subst (λ m. take m ys ≡ take n xs) part c.in_ok-ends.ensures.front in
    let same : take (total cs) ys ≡ take (total cs) xs = subst (λ m. take m ys ≡ take m xs) c.in_ok-size.ensures.2 front in
    let few : total cs ≤ g.row.ENDS = omega (arith, c.in_ok-size.ensures.2, (c.fits_into.ensures.0 c.if-not-fits_into.false).0) in
    let behind = ap length c.in_ok-ends.ensures.rest ∙ length-replicate (g.row.ENDS - length (take n xs)) 0 in
    let long : length ys ≡ g.row.ENDS = omega (arith, part, behind, length-drop (length (take n xs)) ys, ap length front, length-take n ys, (c.fits_into.ensures.0 c.if-not-fits_into.false).0) in
    let cells : intervals (parted cs ys) ≤ g.row.CELLS = omega (arith, intervals_parted cs ys (omega arith), c.in_ok-size.ensures.3, (c.fits_into.ensures.0 c.if-not-fits_into.false).1) in
    record { most_ends = omega arith; most_cells = omega arith; few = b.space.now.few; wide = r.1; long = long; many = length-replicate {A = Named} g.row.CELLS (record { page = 0; level = 0 }); room = few; small = cells; rising = rising_again b ts cs xs ys room r.3 same }

pub returns : goal.returns
returns g c =
    let b = c.args.inner.now in
    let ts = c.args.tiles.now in
    let cs = take b.space.now.keys c.in_ok-scales.scales.counts in
    let xs = c.in_ok-scales.scales.ends in
    let ys = c.in_ok-ends.ends in
    let n = c.in_ok-size.size.boundaries in
    let r = c.in_ok-scales.ensures in
    let room : total cs ≤ length xs = omega (arith, r.0, r.2) in
    let part : length (take n xs) ≡ n = length-take-le n xs (omega (arith, room, c.in_ok-size.ensures.2)) in
    let front : take n ys ≡ take n xs = subst (λ m. take m ys ≡ take n xs) part c.in_ok-ends.ensures.front in
    let same : take (total cs) ys ≡ take (total cs) xs = subst (λ m. take m ys ≡ take m xs) c.in_ok-size.ensures.2 front in
    let none : Named = record { page = 0; level = 0 } in
    let long = length-replicate {A = Named} g.row.CELLS none in (
      (
        omega arith,
        omega arith,
        omega (arith, numbers_in b ts cs xs ys room r.3, c.in_ok-size.ensures.2, (c.fits_into.ensures.0 c.if-not-fits_into.false).0),
        omega (arith, cells_made b ts cs xs ys room r.3, c.in_ok-size.ensures.3, (c.fits_into.ensures.0 c.if-not-fits_into.false).1),
      ),
      refl,
      laid_again b ts cs xs ys room r.3 same,
      long,
      (λ m. elim (cases_lt m g.row.CELLS) [
        | inl l ↦ get_or-replicate {A = Named} g.row.CELLS m none none l
        | inr l ↦ get_or_past {X = Named} (replicate g.row.CELLS none) m none (omega (arith, long))
      ]),
    )
