-- The check of a cell in one key, as a test.
use Rattle.std.specs.Prelude.{ℕ, ◌+◌, ◌%◌, Bool, ◌&&◌, ◌||◌, List, length, ◌==◌, nat_le, slice_index_or}
use Rattle.images.specs.Cells.{start}
use Rattle.images.specs.Checks.{block}

-- In a key that begins at own and ends at top, with these lower ends between: is a cell in interval j covered by its box, of span s, and is it like its upper neighbour
-- where its box reaches over that, or where the neighbour's box, of span s', begins below it?
abbrev pub key_ok : List ℕ → ℕ → ℕ → ℕ → ℕ → ℕ → Bool → Bool
key_ok es own top j s s' alike =
    nat_le (slice_index_or es j top) (block s (start own es j) + s)
    && (nat_le (length es) j || (alike || (nat_le (block s (start own es j) + s) (slice_index_or es j top) && slice_index_or es j top % s' == 0)))
