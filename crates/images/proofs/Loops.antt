-- The tests of one key.
use Rattle.std.proofs.Common.{◌≡◌, ℕ, ◌+◌, ◌-◌, ◌%◌, ◌<◌, ◌≤◌, Bool, true, false, ◌&&◌, ◌||◌, eqb, leb, List, length, get_or, sym, refl, ap, ◌∙◌, arith}
use Rattle.std.proofs.lemmas.List.{get_or_default, get_or_past}
use Rattle.std.proofs.lemmas.Bool.{le-leb, lt-leb}
use Rattle.images.specs.Cells.{start}
use Rattle.images.specs.Checks.{block}
use Rattle.images.specs.Loops.{key_ok}

and_true : (x : Bool) → (x && true) ≡ x
and_true true = refl
and_true false = refl

abbrev pub inside_ok : ℕ → ℕ → ℕ → Bool → Bool
inside_ok high reach s' alike = leb high reach && (alike || (leb reach high && eqb (high % s') 0))

pub key_inside : (es : List ℕ) (own top j s s' : ℕ) (alike : Bool) → j < length es → key_ok es own top j s s' alike ≡ inside_ok (get_or es j 0) (block s (start own es j) + s) s' alike
key_inside es own top j s s' alike h = rw (get_or_default es j top 0 h, lt-leb (length es) j h) refl

pub key_outside : (es : List ℕ) (own top j s s' : ℕ) (alike : Bool) → length es ≤ j → key_ok es own top j s s' alike ≡ leb top (block s (start own es j) + s)
key_outside es own top j s s' alike h = rw (get_or_past es j top h, le-leb (length es) j h) (and_true (leb top (block s (start own es j) + s)))

pub over : (high reach s' : ℕ) (alike : Bool) → reach < high → inside_ok high reach s' alike ≡ false
over high reach s' alike h = rw (lt-leb high reach h)

pub alike_in : (high reach s' : ℕ) → high ≤ reach → inside_ok high reach s' true ≡ true
alike_in high reach s' h = rw (le-leb high reach h)

pub apart_at : (high reach s' : ℕ) → high ≤ reach → reach ≤ high → inside_ok high reach s' false ≡ eqb (high % s') 0
apart_at high reach s' h k = rw (le-leb high reach h, le-leb reach high k)

pub apart_in : (high reach s' : ℕ) → high < reach → inside_ok high reach s' false ≡ false
apart_in high reach s' h = rw (le-leb high reach (omega arith), lt-leb reach high h)

-- with the interval's lower end at hand
pub key_within : (es : List ℕ) (own top j s s' : ℕ) (alike : Bool) (low : ℕ) → low ≡ start own es j → j < length es → key_ok es own top j s s' alike ≡ inside_ok (get_or es j 0) (low - low % s + s) s' alike
key_within es own top j s s' alike low e h = key_inside es own top j s s' alike h ∙ ap (λ x. inside_ok (get_or es j 0) (block s x + s) s' alike) (sym e)

pub key_last : (es : List ℕ) (own top j s s' : ℕ) (alike : Bool) (low : ℕ) → low ≡ start own es j → length es ≤ j → key_ok es own top j s s' alike ≡ leb top (low - low % s + s)
key_last es own top j s s' alike low e h = key_outside es own top j s s' alike h ∙ ap (λ x. leb top (block s x + s)) (sym e)
