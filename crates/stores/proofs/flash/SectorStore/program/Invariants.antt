use Rattle.std.proofs.Common.{◌≡◌, ℕ, ◌+◌, ◌<◌, get_or}
use lib.Bits.{bit_and}
use Rattle.stores.specs.Memory.{Rewritten}
use Rattle.stores.proofs.flash.SectorStore.program.Given as goal

abbrev pub invariant-loop-i : goal.invariant-loop-i
invariant-loop-i l =
    Rewritten l.initial.self.memory.now l.self.memory.now l.start l.i (λ i. bit_and (get_or l.initial.self.memory.now (l.start + i) 0) (get_or l.bytes i 0))
    × (l.self.memory.ghost_name ≡ l.initial.self.memory.ghost_name)
    × (l.self.erases ≡ l.initial.self.erases)
    × ((k : ℕ) → k < l.i → get_or l.bytes k 0 < 256)
