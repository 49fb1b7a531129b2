-- What is left decides: with the value so far it gives the value of the whole text.
use Rattle.std.proofs.Common.{◌≡◌, ◌^◌, ◌<◌, drop}
use Rattle.std.specs.Str.{all_ascii_digits}
use Rattle.numbers.specs.Numbers.{value_on}
use Rattle.numbers.proofs.digits.Given as goal

abbrev pub invariant-loop-byte : goal.invariant-loop-byte
invariant-loop-byte l = (all_ascii_digits (drop l.byte-index l.text) ≡ all_ascii_digits l.text) × (value_on l.number (drop l.byte-index l.text) ≡ value_on 0 l.text) × (l.number < 10 ^ l.byte-index)
