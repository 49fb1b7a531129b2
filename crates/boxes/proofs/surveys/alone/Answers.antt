use Rattle.std.proofs.lemmas.List.{take_more_set}
use Rattle.boxes.proofs.surveys.alone.Goals as goal

pub returns-then-not-is_empty-clause-noted : goal.returns-then-not-is_empty-clause-noted
returns-then-not-is_empty-clause-noted c = λ h. take_more_set c.args.room.now 0 _ h
