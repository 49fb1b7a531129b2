-- The laws, each by its proof.
use Rattle.std.proofs.Common.{refl}
use Rattle.images.proofs.image_laws_stand.Goals as goal
use Rattle.images.proofs.Depicts.{depicted_stands}
use Rattle.images.proofs.Laws.{cells_stand, built_stands, pieces_stand, same_stands, checks_stand}
use Rattle.images.proofs.Layouts.{one_root, one_directory, images_full}
use Rattle.images.proofs.OneCell.{one_cell_stands}
use Rattle.images.proofs.Paged.{pages_stand}

pub returns : goal.returns
returns c = record {
  nothing = refl;
  cells = cells_stand;
  built = built_stands;
  depicted = depicted_stands;
  pieces = pieces_stand;
  same = same_stands;
  checks = checks_stand;
  pages = pages_stand;
  plain = one_cell_stands;
  roots = one_root;
  directories = one_directory;
  full = images_full;
}
