-- The refusals by number.
use Rattle.std.specs.Prelude.{ℕ}
use Rattle.promise.specs.declared.refusal.Refusal.{Refusal}
use Rattle.promise.specs.declared.refusal.Refusal.TheVariants.{NoSuchPage, WrongStore, NotARecord, BadKeys, BrokenPage, AlreadyHeld, NotHeld, RootFull, StoreFull, ShortBuffer}

abbrev pub number : Refusal → ℕ
-- the page number is not in the store
number NoSuchPage = 1
-- too few or too many pages to make a grid, not the pages of the making, or a grid that was never made
number WrongStore = 2
-- the bytes are no record of the kind
number NotARecord = 3
-- not as many keys as the kind has, a key past its width, a range upside down, or a place of the capacity or more to hand out
number BadKeys = 4
-- a page read breaks its layout; it carries the page
number (BrokenPage pg) = 5
-- a record with these keys is held
number AlreadyHeld = 6
-- no record with these keys is held
number NotHeld = 7
-- with the record the root would not fit
number RootFull = 8
-- with the record more pages are needed than the store has
number StoreFull = 9
-- the list's buffer is too short; it carries the bytes needed
number (ShortBuffer needed) = 10
