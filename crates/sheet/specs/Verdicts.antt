-- The point of a verdict.
use Rattle.std.specs.Prelude.{Some, None, Option}
use Rattle.boxes.specs.declared.keys.Keys.{Keys}
use Rattle.sheet.specs.declared.verdict.Verdict.{Verdict}
use Rattle.sheet.specs.declared.verdict.Verdict.TheVariants.{Kept, NoPoint, Repeated}

-- the point that is kept
abbrev pub point_of : Verdict → Option Keys
point_of (Kept p) = Some p
point_of NoPoint = None
point_of Repeated = None
