-- Each test that fails denies what a sound image would say of the bytes.
use Rattle.std.proofs.Common.{◌≡◌, ◌+◌, ◌*◌, ◌≤◌, length, get_or, take, Option, sym, subst, arith}
use Rattle.std.proofs.lemmas.List.{length-take-le}
use Rattle.std.proofs.lemmas.Bool.Decides.{not_from_Decides}
use Rattle.images.specs.Parts.{total}
use Rattle.images.specs.declared.held_image.HeldImage.{HeldImage}
use Rattle.images.specs.Parts.{product}
use Rattle.image_bytes.specs.Reading.{ImageRead}
use Rattle.image_bytes.proofs.Answered.{intervals_are, read_image}
use Rattle.image_bytes.proofs.Refusals.{heading_stands, counts_stand, total_few, cells_few, rest_stands, ends_rise}
use Rattle.image_bytes.proofs.reading.read_image.Goals as goal

pub returns-then-not-has_heading : goal.returns-then-not-has_heading
returns-then-not-has_heading g c = λ img sound laid.
    not_from_Decides _ c.has_heading.ensures c.if-not-has_heading.true
    (heading_stands (get_or c.args.mark 0 0) (get_or c.args.mark 1 0) c.args.keys c.args.level g.row.ENDS g.row.CELLS c.args.bytes.now c.requires.few img sound laid)

pub returns-in_err-counts : goal.returns-in_err-counts
returns-in_err-counts g c =
    subst (λ (o : Option (HeldImage g.row.ENDS g.row.CELLS)). ImageRead (get_or c.args.mark 0 0) (get_or c.args.mark 1 0) c.args.keys c.args.level c.args.bytes.now o)
    (sym c.from_residual.ensures)
    (λ img sound laid. counts_stand (get_or c.args.mark 0 0) (get_or c.args.mark 1 0) c.args.keys c.args.level g.row.ENDS g.row.CELLS c.args.bytes.now c.requires.few img sound laid
    c.in_err-counts.ensures)

pub returns-in_err-size : goal.returns-in_err-size
returns-in_err-size g c =
    let k = c.args.keys in
    let cs = c.in_ok-counts.counts in
    let many = length-take-le k cs (omega (arith, c.in_ok-counts.ensures.four_keys, c.requires.few)) in
    subst (λ (o : Option (HeldImage g.row.ENDS g.row.CELLS)). ImageRead (get_or c.args.mark 0 0) (get_or c.args.mark 1 0) k c.args.level c.args.bytes.now o)
    (sym c.from_residual-in_err-size.ensures)
    (λ img sound laid. c.in_err-size.ensures (
      omega (arith, many, c.requires.few),
      omega (arith, total_few (get_or c.args.mark 0 0) (get_or c.args.mark 1 0) k c.args.level g.row.ENDS g.row.CELLS c.args.bytes.now c.requires.few img sound laid cs c.in_ok-counts.ensures, c.requires.most.0),
    ))

pub returns-then-not-fits_into : goal.returns-then-not-fits_into
returns-then-not-fits_into g c = λ img sound laid.
    let k = c.args.keys in
    let cs = c.in_ok-counts.counts in
    let size = c.in_ok-size.ensures in
    not_from_Decides _ c.fits_into.ensures c.if-not-fits_into.true (
      omega (arith, size.2, total_few (get_or c.args.mark 0 0) (get_or c.args.mark 1 0) k c.args.level g.row.ENDS g.row.CELLS c.args.bytes.now c.requires.few img sound laid cs c.in_ok-counts.ensures),
      omega (arith, size.3, cells_few (get_or c.args.mark 0 0) (get_or c.args.mark 1 0) k c.args.level g.row.ENDS g.row.CELLS c.args.bytes.now c.requires.few img sound laid cs c.in_ok-counts.ensures),
    )

pub returns-then-not-is_zero : goal.returns-then-not-is_zero
returns-then-not-is_zero g c = λ img sound laid.
    not_from_Decides _ c.is_zero.ensures c.if-not-is_zero.true
    (rest_stands (get_or c.args.mark 0 0) (get_or c.args.mark 1 0) c.args.keys c.args.level g.row.ENDS g.row.CELLS c.args.bytes.now c.requires.few img sound laid
    c.in_ok-counts.counts c.in_ok-counts.ensures c.in_ok-size.size.boundaries c.in_ok-size.size.cells c.in_ok-size.ensures.2 c.in_ok-size.ensures.3)

pub returns-then-not-ends_rise : goal.returns-then-not-ends_rise
returns-then-not-ends_rise g c = λ img sound laid.
    let room : c.in_ok-size.size.boundaries ≤ length c.fields-ends.result = omega (arith, c.fields-ends.ensures.long, (c.fits_into.ensures.0 c.if-not-fits_into.false).0) in
    not_from_Decides _ c.ends_rise.ensures c.if-not-ends_rise.true
    (ends_rise (get_or c.args.mark 0 0) (get_or c.args.mark 1 0) c.args.keys c.args.level g.row.ENDS g.row.CELLS c.args.bytes.now c.requires.few img sound laid
    c.in_ok-counts.counts c.in_ok-counts.ensures c.in_ok-size.size.boundaries c.fields-ends.result c.in_ok-size.ensures.2 room c.fields-ends.ensures.read)

pub invariant_of-result : goal.invariant_of-result
invariant_of-result g c =
    let fit = c.fits_into.ensures.0 c.if-not-fits_into.false in
    let k = c.args.keys in
    let cs = c.in_ok-counts.counts in
    let xs = c.fields-ends.result in
    let counted = c.in_ok-counts.ensures in
    let t : total (take k cs) ≡ c.in_ok-size.size.boundaries = sym c.in_ok-size.ensures.2 in
    let m : product (take k cs) ≡ c.in_ok-size.size.cells = sym c.in_ok-size.ensures.3 in
    let room : c.in_ok-size.size.boundaries ≤ length xs = omega (arith, c.fields-ends.ensures.long, (c.fits_into.ensures.0 c.if-not-fits_into.false).0) in
    let e = intervals_are (take k cs) xs c.in_ok-size.size.boundaries c.in_ok-size.size.cells t m room in record { most_ends = c.requires.most.0; most_cells = c.requires.most.1; few = c.requires.few; wide = length-take-le k cs (omega (arith, counted.four_keys, c.requires.few)); long = c.fields-ends.ensures.long; many = c.fields-cells.ensures.long; room = omega (arith, t, fit.0); small = omega (arith, e, fit.1); rising = c.ends_rise.ensures.0 c.if-not-ends_rise.false }

pub returns : goal.returns
returns g c =
    let fit = c.fits_into.ensures.0 c.if-not-fits_into.false in
    let k = c.args.keys in
    let cs = c.in_ok-counts.counts in
    let xs = c.fields-ends.result in
    let ns = c.fields-cells.result in
    let n = c.in_ok-size.size.boundaries in
    let m = c.in_ok-size.size.cells in
    let counted = c.in_ok-counts.ensures in
    let en : total (take k cs) ≡ n = sym c.in_ok-size.ensures.2 in
    let em : product (take k cs) ≡ m = sym c.in_ok-size.ensures.3 in
    let room : n ≤ length xs = omega (arith, c.fields-ends.ensures.long, (c.fits_into.ensures.0 c.if-not-fits_into.false).0) in
    let small : m ≤ length ns = omega (arith, c.fields-cells.ensures.long, fit.1) in
    let many : length (take k cs) ≡ k = length-take-le k cs (omega (arith, counted.four_keys, c.requires.few)) in
    let fits : 16 + 4 * n + 3 * m ≤ length c.args.bytes.now = omega (arith, c.requires.room, fit.0, fit.1) in
    read_image (take k cs) xs n m en em room c.args.bytes.now (get_or c.args.mark 0 0) (get_or c.args.mark 1 0) k c.args.level ns c.requires.few many small fits
    (c.has_heading.ensures.0 c.if-not-has_heading.false) counted.stand c.fields-ends.ensures.read c.fields-cells.ensures.read (c.is_zero.ensures.0 c.if-not-is_zero.false)
