use Rattle.std.proofs.Common.{Option, sym, ◌∙◌, subst}
use Rattle.std.proofs.lemmas.Bool.Decides.{not_from_Decides}
use Rattle.boxes.specs.GridBoxes.{box_of}
use Rattle.boxes.specs.Spaces.{widths_of, order_of}
use Rattle.boxes.proofs.OfBoxes.{box_long}
use Rattle.images.specs.Memory.{image_of}
use Rattle.images.specs.declared.held_image.HeldImage.{HeldImage}
use Rattle.image_bytes.specs.Reading.{DirectoryRead}
use Rattle.image_bytes.proofs.Judged.{answered, sized, none_read, other_read}
use Rattle.image_bytes.proofs.reading.read_directory.Goals as goal

pub returns-in_err-image : goal.returns-in_err-image
returns-in_err-image c =
    let g = c.args.inner.now in
    let s = g.space.now in
    subst (λ (o : Option (HeldImage 60 80)). DirectoryRead g c.args.pages c.args.page.now o) (sym c.from_residual.ensures)
    (λ img p. none_read (widths_of s) (order_of s) (box_of g) c.args.pages 60 80 s.keys g.level 512 0x44 0x49 c.args.page.now s.few s.wide (box_long g) c.told-page
    c.in_err-image.ensures img p.lawful p.laid_out)

pub returns : goal.returns
returns c =
    let g = c.args.inner.now in
    let s = g.space.now in
    let bytes = c.args.page.now in
    subst (λ (o : Option (HeldImage 60 80)). DirectoryRead g c.args.pages bytes o) (sym c.then_some.ensures)
    (answered (λ (o : Option (HeldImage 60 80)). DirectoryRead g c.args.pages bytes o) c.is_lawful.result c.in_ok-image.image
    (λ lawful.
    record {
      laid_out =
          c.in_ok-image.ensures
          ∙ sized (widths_of s) (order_of s) (box_of g) c.args.pages 60 80 s.keys g.level 512 0x44 0x49 bytes s.few s.wide (box_long g) c.told-page (image_of c.in_ok-image.image);
      lawful = c.is_lawful.ensures.0 lawful;
    })
    (λ unlawful img p.
    other_read (widths_of s) (order_of s) (box_of g) c.args.pages 60 80 s.keys g.level 512 0x44 0x49 bytes s.few s.wide (box_long g) c.told-page
    c.in_ok-image.image c.in_ok-image.ensures (not_from_Decides _ c.is_lawful.ensures unlawful) img p.lawful p.laid_out))
