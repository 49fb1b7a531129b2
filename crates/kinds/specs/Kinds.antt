-- The formats of the five kinds. Marks are hexadecimal, other numbers decimal.
use Rattle.std.specs.Prelude.{ℕ, ◌*◌, ◌^◌, Bool, if◌then◌else◌, ◌&&◌, ◌||◌, List, [], ◌∷◌, ℤ, pos, neg_ℤ, ◌==◌, int_le, nat_le, nat_lt}
use Rattle.kinds.specs.Fields.{byte, be2, be3, be4, signed2, marked, within}
use Rattle.kinds.specs.Formats.{Format}

-- Kind D, daylight: hour, string, tenths of a volt.

-- hundredths of an ampere, from -3000 to 3000
abbrev pub is_current : ℤ → Bool
is_current z = int_le (neg_ℤ (pos 3000)) z && int_le z (pos 3000)

-- byte 2 is the string, byte 3 is zero, 4 to 7 are the hour, 8 and 9 the volts, 10 and 11 the current; 12 to 15, the watt-hours, are free
abbrev pub is_daylight : List ℕ → Bool
is_daylight bs =
    marked 0x44 0x52 bs && within 1 24 (byte bs 2) && byte bs 3 == 0 && nat_lt (be4 bs 4) (2 ^ 18) && nat_le (be2 bs 8) 15000 && is_current (signed2 bs 10)

abbrev pub daylight : Format
daylight = record {
  widths = 18 ∷ 5 ∷ 14 ∷ [];
  size = 16;
  capacity = 31;
  accepts = is_daylight;
  keys = λ bs. be4 bs 4 ∷ byte bs 2 ∷ be2 bs 8 ∷ [];
}

-- Kind I, insulation: day, array, kilohms.

-- digits and power of a resistance that was over the range of the meter
abbrev pub is_over_range : ℕ → ℕ → Bool
is_over_range d e = d == 0 && e == 255

-- those of one that was measured: only a power of 0 goes with fewer than three digits
abbrev pub is_measured : ℕ → ℕ → Bool
is_measured d e = nat_le e 3 && nat_le d 999 && (e == 0 || nat_le 100 d)

-- the kilohms of both; over range is the greatest key of 20 bits
abbrev pub kilohms : ℕ → ℕ → ℕ
kilohms d e = if is_over_range d e then 1048575 else d * 10 ^ e

-- bytes 2 and 3 are the day, 4 is the array, 5 and 6 the digits, 7 the power, 8 the surface (0 dry, 1 damp, 2 wet), 9 to 11 are zero
abbrev pub is_insulation : List ℕ → Bool
is_insulation bs =
    marked 0x49 0x52 bs && within 1 40 (byte bs 4) && (is_over_range (be2 bs 5) (byte bs 7) || is_measured (be2 bs 5) (byte bs 7)) && nat_le (byte bs 8) 2 && be3 bs 9 == 0

abbrev pub insulation : Format
insulation = record {
  widths = 16 ∷ 6 ∷ 20 ∷ [];
  size = 12;
  capacity = 42;
  accepts = is_insulation;
  keys = λ bs. be2 bs 2 ∷ byte bs 4 ∷ kilohms (be2 bs 5) (byte bs 7) ∷ [];
}

-- Kind T, trial: two keys, bytes 2 and 3, each from 0 to 3.
abbrev pub is_trial_t : List ℕ → Bool
is_trial_t bs = marked 0x54 0x57 bs && nat_le (byte bs 2) 3 && nat_le (byte bs 3) 3

abbrev pub trial_t : Format
trial_t = record {
  widths = 2 ∷ 2 ∷ [];
  size = 4;
  capacity = 2;
  accepts = is_trial_t;
  keys = λ bs. byte bs 2 ∷ byte bs 3 ∷ [];
}

-- Kind U, trial: one key, byte 2, which is free.
abbrev pub trial_u : Format
trial_u = record {
  widths = 8 ∷ [];
  size = 3;
  capacity = 1;
  accepts = marked 0x55 0x4E;
  keys = λ bs. byte bs 2 ∷ [];
}

-- Kind X, trial: three keys, the fields of three bytes at 2, 5 and 8, each below 2 to the power of 20.
abbrev pub is_trial_x : List ℕ → Bool
is_trial_x bs = marked 0x58 0x59 bs && nat_lt (be3 bs 2) (2 ^ 20) && nat_lt (be3 bs 5) (2 ^ 20) && nat_lt (be3 bs 8) (2 ^ 20)

abbrev pub trial_x : Format
trial_x = record {
  widths = 20 ∷ 20 ∷ 20 ∷ [];
  size = 11;
  capacity = 1;
  accepts = is_trial_x;
  keys = λ bs. be3 bs 2 ∷ be3 bs 5 ∷ be3 bs 8 ∷ [];
}
