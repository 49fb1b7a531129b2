-- The pages so far are in use, and no other.
use Rattle.std.proofs.Common.{◌≡◌, ℕ, ltb}
use Rattle.buckets.specs.PageMaps.{used}
use Rattle.grid.proofs.making.first_pages.Given as goal

abbrev pub invariant-loop-page : goal.invariant-loop-page
invariant-loop-page l = (j : ℕ) → used l.map j ≡ ltb j l.page
