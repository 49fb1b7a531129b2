-- The widths of a lawful format are allowed, so its space is made.
use Rattle.std.proofs.Common.{ℕ, List, Some, None, Option, IsSome, sym, refl, subst, arith}
use Rattle.boxes.specs.Order.{order}
use Rattle.boxes.specs.Spaces.{SpaceMade}
use Rattle.boxes.specs.Widths.{Allowed}
use Rattle.boxes.specs.declared.space.Space.{Space}
use Rattle.boxes.proofs.Order.{order_names, names_length}
use Rattle.kinds.proofs.kind_of.KindOf.new.Goals as goal

is_made : (ws : List ℕ) (made : Option Space) → SpaceMade ws made → Allowed ws → IsSome made
is_made ws (Some s) h allowed = refl
is_made ws None h allowed = absurd (h allowed)

pub unwrap-requires : goal.unwrap-requires
unwrap-requires g c =
    let law = g.met.F.RecordFormat.lawful in
    let ws = g.F.RecordFormat.format.widths in
    let allowed : Allowed ws = (law.some_keys, law.few_keys, law.wide, omega (arith, law.shallow, names_length ws (order ws) (order_names ws))) in
    is_made _ c.new.result c.new.ensures (subst Allowed (sym c.widths.ensures) allowed)
