-- Rainfall: day, gauge, tenths of a millimetre.
use Rattle.std.specs.Prelude.{ℕ, Bool, ◌&&◌, List, [], ◌∷◌, ◌==◌, nat_le}
use Rattle.kinds.specs.Fields.{byte, be2, marked, within}
use Rattle.kinds.specs.Formats.{Format}

-- bytes 2 and 3 are the day, 4 is the gauge, 5 and 6 the tenths of a millimetre, 7 is zero
abbrev pub is_rainfall : List ℕ → Bool
is_rainfall bs = marked 0x52 0x46 bs && within 1 12 (byte bs 4) && nat_le (be2 bs 5) 9999 && byte bs 7 == 0

abbrev pub rainfall : Format
rainfall = record {
  widths = 16 ∷ 4 ∷ 14 ∷ [];
  size = 8;
  capacity = 63;
  accepts = is_rainfall;
  keys = λ bs. be2 bs 2 ∷ byte bs 4 ∷ be2 bs 5 ∷ [];
}
