-- The records held are a set: their order is no matter, and the pages tell them.
use Rattle.std.specs.Prelude.{ℕ, List}
use Rattle.boxes.specs.Leaves.{Same}
use Rattle.kinds.specs.Meaning.{Meaning, Lawful}
use Rattle.promise.specs.Calls.{Holds}
use Rattle.promise.specs.State.{State}

-- over the same pages, exactly the lists of the same records are held
abbrev pub OneSet : Type 0
OneSet = (m : Meaning) → Lawful m → (st : State) (held other : List (List ℕ)) → Holds m st held → (Same held other → Holds m st other) × (Holds m st other → Same held other)
