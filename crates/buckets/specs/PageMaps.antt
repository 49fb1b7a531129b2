-- Which pages are in use.
use Rattle.std.specs.Prelude.{◌≡◌, ℕ, zero, suc, ◌+◌, ◌/◌, ◌%◌, ◌^◌, ◌<◌, ◌≤◌, min, Bool, true, false, if◌then◌else◌, Some, None, Ok, Err, Option, Result, ◌==◌, ◌≢◌, slice_index}
use Rattle.buckets.specs.Firsts.{FirstWith}
use Rattle.buckets.specs.declared.page_map.PageMap.{PageMap}

-- is bit i of the byte set? Bit 0 is the lowest.
abbrev pub bit : ℕ → ℕ → Bool
bit byte i = byte / 2 ^ i % 2 == 1

-- is page j in use? Eight pages share a byte; a page past the map is not.
abbrev pub used : PageMap → ℕ → Bool
used m j = bit (slice_index m.bits (j / 8)) (j % 8)

-- page p is in use or not, as told, and all others are as they were
abbrev pub OnlyAt : PageMap → ℕ → Bool → PageMap → Type 0
OnlyAt m p t after = (used after p ≡ t) × ((j : ℕ) → (j ≢ p) → used after j ≡ used m j)

-- the same; or the map has no page p, and is as it was
abbrev pub Marked : {U E : Type 0} → PageMap → ℕ → Bool → PageMap → Result U E → Type 0
Marked m p t after (Ok _) = (p < 32768) × OnlyAt m p t after
Marked m p t after (Err _) = (32768 ≤ p) × (after ≡ m)

-- of the first n pages, the first that was free is in use now, and all others are as they were; or none was free, and the map is as it was
abbrev pub Taken : PageMap → ℕ → PageMap → Option ℕ → Type 0
Taken m n after (Some p) = FirstWith (λ j. used m j ≡ false) (min n 32768) (Some p) × OnlyAt m p true after
Taken m n after None = FirstWith (λ j. used m j ≡ false) (min n 32768) None × (after ≡ m)

-- how many of the first n pages are in use
unfoldable pub counted : ℕ → (ℕ → Bool) → ℕ
counted zero f = 0
counted (suc n) f = counted n f + (if f n then 1 else 0)
