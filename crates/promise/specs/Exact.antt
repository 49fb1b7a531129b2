-- Find's answer and buffer follow from the grid's memory and the pages, whatever the pages hold.
use Rattle.std.specs.Prelude.{◌≡◌, ℕ, List, Option, Result}
use Rattle.images.specs.Directory.{Image, tile_at}
use Rattle.images.specs.Memory.{image_of}
use Rattle.kinds.specs.Meaning.{Meaning}
use Rattle.promise.specs.Calls.{Made, Finds}
use Rattle.promise.specs.State.{State, size_of, page, box_around, DirectoryBytes}
use Rattle.promise.specs.declared.memory.Memory.{Memory}
use Rattle.promise.specs.declared.refusal.Refusal.{Refusal}

-- two finds with the same keys, over the same state, answer alike
abbrev pub OneAnswer : Type 0
OneAnswer = (m : Meaning) (st after after' : State) (ks old new new' : List ℕ) (r r' : Result (Option ℕ) Refusal)
    → Finds m ks st old r new after → Finds m ks st old r' new' after' → (r ≡ r') × (new ≡ new')

-- The two states have the same memory and equally many pages, and the two pages of the point ks are the same in both: the directory page that the root image in memory names, and the bucket page that the image there names.
pub record AgreeAt (m : Meaning) (st other : State) (ks : List ℕ) : Type 0 where
  pub memory : other.memory ≡ st.memory
  pub as_many : size_of other ≡ size_of st
  pub directory_page : (mem : Memory) → Made m st mem → page other (tile_at (image_of mem.root) ks).page ≡ page st (tile_at (image_of mem.root) ks).page
  pub bucket_page : (mem : Memory) → Made m st mem → (img : Image)
      → DirectoryBytes m st (box_around m (tile_at (image_of mem.root) ks) ks) img (page st (tile_at (image_of mem.root) ks).page)
      → page other (tile_at img ks).page ≡ page st (tile_at img ks).page

-- whatever the other pages hold, finds over two such states answer alike
abbrev pub TwoPages : Type 0
TwoPages = (m : Meaning) (st other after after' : State) (ks old new new' : List ℕ) (r r' : Result (Option ℕ) Refusal)
    → AgreeAt m st other ks → Finds m ks st old r new after → Finds m ks other old r' new' after' → (r ≡ r') × (new ≡ new')
