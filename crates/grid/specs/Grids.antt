-- The state of a grid over the pages of a store.
use Rattle.std.specs.Prelude.{◌≡◌, ℕ, List, Ok, Err, Result}
use Rattle.kinds.specs.Meaning.{Meaning}
use Rattle.promise.specs.Calls.{Made, Unmade}
use Rattle.promise.specs.State.{State}
use Rattle.promise.specs.declared.memory.Memory.{Memory}
use Rattle.promise.specs.declared.refusal.Refusal.{Refusal}
use Rattle.promise.specs.declared.refusal.Refusal.TheVariants.{WrongStore}
use Rattle.grid.specs.declared.grid.Grid.{Grid}

-- the pages, and what the grid has in memory
abbrev pub state : {K : Type 0} → List (List ℕ) → Grid K → State
state ps g = record { pages = ps; memory = g.made }

-- the memory of a made grid; a refusal exactly where it is not made
abbrev pub MemoryOf : Meaning → State → Result Memory Refusal → Type 0
MemoryOf m st (Ok mem) = Made m st mem
MemoryOf m st (Err e) = Unmade m st × (e ≡ WrongStore)
