use Rattle.std.proofs.Common.{[], Option, sym, refl, ◌∙◌, subst}
use Rattle.std.proofs.lemmas.Bool.Decides.{not_from_Decides}
use Rattle.boxes.specs.Cuts.{Path}
use Rattle.boxes.specs.GridBoxes.{box_of}
use Rattle.boxes.specs.Spaces.{widths_of, order_of}
use Rattle.boxes.specs.declared.space.Space.{Space}
use Rattle.images.specs.Directory.{Lawful}
use Rattle.images.specs.Memory.{image_of}
use Rattle.images.specs.declared.held_image.HeldImage.{HeldImage}
use Rattle.image_bytes.specs.Reading.{RootRead}
use Rattle.image_bytes.proofs.Judged.{answered, sized, none_read, other_read}
use Rattle.image_bytes.proofs.reading.read_root.Goals as goal

pub returns-in_err-image : goal.returns-in_err-image
returns-in_err-image c =
    let s = c.args.space.now in
    subst (λ (o : Option (HeldImage 250 1024)). RootRead s c.args.pages c.args.bytes.now o) (sym c.from_residual.ensures)
    (λ img p. none_read (widths_of s) (order_of s) [] c.args.pages 250 1024 s.keys 0 4096 0x52 0x54 c.args.bytes.now s.few s.wide refl c.told-bytes
    c.in_err-image.ensures img p.lawful p.laid_out)

pub returns : goal.returns
returns c =
    let s = c.args.space.now in
    let w = c.whole-whole.result in
    let img = image_of c.in_ok-image.image in
    let bytes = c.args.bytes.now in
    subst (λ (o : Option (HeldImage 250 1024)). RootRead s c.args.pages bytes o) (sym c.then_some.ensures)
    (answered (λ (o : Option (HeldImage 250 1024)). RootRead s c.args.pages bytes o) c.is_lawful.result c.in_ok-image.image
    (λ lawful.
    record {
      laid_out = c.in_ok-image.ensures
          ∙ sized (widths_of s) (order_of s) [] c.args.pages 250 1024 s.keys 0 4096 0x52 0x54 bytes s.few s.wide refl c.told-bytes img;
      lawful =
          subst (λ (b : Path). Lawful (widths_of s) (order_of s) b c.args.pages 250 1024 img) c.whole-whole.ensures.1
          (subst (λ (t : Space). Lawful (widths_of t) (order_of t) (box_of w) c.args.pages 250 1024 img) c.whole-whole.ensures.0
          (c.is_lawful.ensures.0 lawful));
    })
    (λ unlawful other p.
    other_read (widths_of s) (order_of s) [] c.args.pages 250 1024 s.keys 0 4096 0x52 0x54 bytes s.few s.wide refl c.told-bytes
    c.in_ok-image.image c.in_ok-image.ensures
    (λ l. not_from_Decides _ c.is_lawful.ensures unlawful
    (subst (λ (t : Space). Lawful (widths_of t) (order_of t) (box_of w) c.args.pages 250 1024 img) (sym c.whole-whole.ensures.0)
    (subst (λ (b : Path). Lawful (widths_of s) (order_of s) b c.args.pages 250 1024 img) (sym c.whole-whole.ensures.1) l)))
    other p.lawful p.laid_out))
