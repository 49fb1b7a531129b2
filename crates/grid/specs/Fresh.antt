-- A new grid.
use Rattle.std.specs.Prelude.{◌≡◌, ℕ, ◌≤◌, List, [], length, take, nat_lt, slice_index_or}
use Rattle.boxes.specs.declared.space.Space.{Space}
use Rattle.buckets.specs.Bucket.{bucket_layout}
use Rattle.buckets.specs.PageMaps.{used}
use Rattle.images.specs.Bytes.{joined}
use Rattle.images.specs.Directory.{one_cell, directory_layout, root_layout}
use Rattle.images.specs.Memory.{image_of}
use Rattle.promise.specs.declared.memory.Memory.{Memory}

-- The memory of a new grid: the root names page 8 for the whole space, ten pages are in use, and there is one box of each sort.
pub record FreshMemory (s : Space) (n : ℕ) (mem : Memory) : Type 0 where
  pub size : mem.pages ≡ n
  pub same_space : mem.space ≡ s
  pub root : image_of mem.root ≡ one_cell s.keys (record { page = 8; level = 0 })
  pub marks : (j : ℕ) → used mem.used j ≡ nat_lt j 10
  pub one_directory : mem.directories ≡ 1
  pub one_leaf : mem.leaves ≡ 1

-- Pages 0 to 7 are the root image, page 8 is a directory page that names page 9 for the whole space, page 9 is an empty bucket, and all other pages are as they were.
pub record FreshPages (mem : Memory) (ps qs : List (List ℕ)) : Type 0 where
  pub as_many : length qs ≡ length ps
  pub root : joined (take 8 qs) ≡ root_layout (image_of mem.root)
  pub directory : slice_index_or qs 8 [] ≡ directory_layout 0 (one_cell mem.space.keys (record { page = 9; level = 0 }))
  pub bucket : slice_index_or qs 9 [] ≡ bucket_layout 0 []
  pub rest : (j : ℕ) → 10 ≤ j → slice_index_or qs j [] ≡ slice_index_or ps j []
