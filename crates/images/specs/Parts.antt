-- Scales that stand side by side in one list.
use Rattle.std.specs.Prelude.{ℕ, suc, ◌+◌, ◌*◌, ◌<◌, List, [], ◌∷◌, length, take, drop, slice_index_or}
use Rattle.images.specs.Directory.{Rising}

-- the first c numbers, the next ones, and so on
abbrev pub parted : List ℕ → List ℕ → List (List ℕ)
parted [] xs = []
parted (c ∷ cs) xs = take c xs ∷ parted cs (drop c xs)

-- how many numbers these are
abbrev pub total : List ℕ → ℕ
total [] = 0
total (c ∷ cs) = c + total cs

-- each scale rises
abbrev pub AllRising : List (List ℕ) → Type 0
AllRising es = (i : ℕ) → i < length es → Rising (slice_index_or es i [])

-- how many cells scales of these lengths make
abbrev pub product : List ℕ → ℕ
product [] = 1
product (c ∷ cs) = suc c * product cs
