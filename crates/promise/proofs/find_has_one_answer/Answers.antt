-- One answer.
use Rattle.std.proofs.Common.{refl}
use Rattle.promise.proofs.Exact.{one_answer, two_pages}
use Rattle.promise.proofs.find_has_one_answer.Goals as goal

pub returns : goal.returns
returns c = record { nothing = refl; one = one_answer; alike = two_pages }
