use Rattle.std.proofs.ByRecursion.{all_shuffled}
use Rattle.boxes.specs.KeyLists.{keys_of}
use Rattle.boxes.specs.Points.{Point}
use Rattle.boxes.specs.Spaces.{widths_of}
use Rattle.sheet.proofs.figures_of.Goals as goal

pub figures_in-requires-clause-points : goal.figures_in-requires-clause-points
figures_in-requires-clause-points c = all_shuffled (λ p. Point (widths_of c.args.header.now.space) (keys_of p)) c.args.points.now c.places_needed-places.new.points c.places_needed-places.ensures.same.0 c.requires
