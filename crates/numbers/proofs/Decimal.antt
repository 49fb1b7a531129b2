-- What decimal writes of a number below 2 to the 32, and back.
use Rattle.std.proofs.Common.{◌≡◌, ℕ, ◌^◌, ◌<◌, ◌≤◌, true, List, length, get_or, decimal, sym, refl, ap, ◌∙◌, subst, inl, inr, arith, rules}
use Rattle.std.specs.Str.{all_ascii_digits}
use Rattle.std.proofs.lemmas.Fmt.{decimal_nonempty, decimal_digit, length-decimal-le, first_decimal, digits_decimal, digits_value-decimal, decimal-digits_value}
use Rattle.std.proofs.lemmas.Str.Parse.{IsNumeralModel, numerals_by_fold}
use Rattle.std.proofs.lemmas.Bool.{cases_eq}
use Rattle.numbers.specs.Numbers.{Writes, WritesUpTo, value_on}

own : IsNumeralModel (λ ds. all_ascii_digits ds ≡ true) (value_on 0)
own = numerals_by_fold _ (search rules) value_on (search rules)

-- a text that writes a number
pub record Written (bs : List ℕ) (n : ℕ) : Type 0 where
  pub some : 0 < length bs
  pub few : length bs ≤ 10
  pub plain : get_or bs 0 0 ≡ 48 → length bs ≡ 1
  pub digits : all_ascii_digits bs ≡ true
  pub value : value_on 0 bs ≡ n

pub written : (bs : List ℕ) (n : ℕ) → Writes bs n → Written bs n
written bs n (h, e) =
    let w : n < 2 ^ 64 = omega arith in
    let z : n < 10 ^ 10 = omega arith in
    record {
      some = rw e (decimal_nonempty n w);
      few = rw e (length-decimal-le 10 n (omega arith) z w);
      plain = λ q. elim (cases_eq n 0) [
        | inl k ↦ rw (e, k, decimal_digit 0 (omega arith)) refl
        | inr k ↦ absurd (omega (arith, first_decimal n (omega arith) w, subst (λ (us : List ℕ). get_or us 0 0 ≡ 48) e q))
      ];
      digits = rw e (digits_decimal own n w);
      value = rw e (digits_value-decimal own n w);
    }

pub writes : (bs : List ℕ) (n : ℕ) → 0 < length bs → (get_or bs 0 0 ≡ 48 → length bs ≡ 1) → all_ascii_digits bs ≡ true → (m : ℕ) → n ≡ value_on 0 bs → n ≤ m → m ≤ 4294967295 → WritesUpTo m bs n
writes bs n some plain d m e h k = (h, sym (ap decimal e ∙ decimal-digits_value own bs d some plain (omega arith)))
