-- The worked figures, computed.
use Rattle.std.proofs.Common.{refl}
use Rattle.boxes.specs.Cases.{Cases}

pub cases : Cases
cases = record {
  case1 = refl;
  case2 = refl;
  case3 = refl;
  case4 = refl;
  case4_levels = refl;
  case4_points = refl;
  case4_cells = refl;
  case5 = refl;
  case6 = refl;
  case7 = refl;
  case8 = refl;
  case9 = refl;
  case10 = refl;
  case11 = refl;
}
