-- a page replaced by programming alone, and by erasing its sector and programming all of it
use Rattle.std.proofs.Common.{◌≡◌, ℕ, ◌+◌, ◌-◌, ◌*◌, ◌<◌, ◌≤◌, List, length, get_or, take, drop, ap, ◌∙◌, ⊎_elim, arith}
use borrow.Rule.Slice.PartMut.{put_mid}
use lib.Bits.{bit_and}
use Rattle.std.proofs.lemmas.Nat.{and_mask, and_comm}
use Rattle.std.proofs.lemmas.List.{get_or-take, get_or-drop, length-take, length-drop}
use Rattle.std.proofs.lemmas.Bool.{cases_lt}
use Rattle.stores.specs.Memory.{Rewritten}
use Rattle.stores.specs.Flash.{Erased, Programmed, Programs, Bytes}
use Rattle.stores.proofs.Runs.{copied}

pub programmed_alone : {m w : List ℕ} {start n : ℕ} (b : List ℕ) → length b ≡ n → Programs m start b → Programmed m w start b → Rewritten m w start n (λ i. get_or b i 0)
programmed_alone b e fits r = record {
  long = r.long;
  here = λ i h. r.here i (omega arith) ∙ fits i (omega arith);
  before = r.before;
  after = λ i h. r.after i (omega arith);
}

-- FF AND x is x
and_ff : (x : ℕ) → x < 256 → bit_and 255 x ≡ x
and_ff x h = and_comm 255 x ∙ and_mask x 8 ∙ omega arith

abbrev pub sector_at : List ℕ → ℕ → List ℕ
sector_at m s = take 4096 (drop (4096 * s) m)

pub sector_long : (m : List ℕ) (s : ℕ) → 4096 * s + 4096 ≤ length m → length (sector_at m s) ≡ 4096
sector_long m s fits = simp (length-take, length-drop) (omega arith)

-- a sector loaded as y, after `y[a..a + 512].copy_from_slice(b)`
pub put_in : (m y u b : List ℕ) (s a j : ℕ) → 4096 * s + 4096 ≤ length m → a + 512 ≤ 4096 → y ≡ sector_at m s → u ≡ b → j ≡ 512 → length b ≡ 512 →
    Rewritten y (put_mid a j y u) a 512 (λ i. get_or b i 0) × (length (put_mid a j y u) ≡ 4096)
put_in m y u b s a j fits room loaded ue je e =
    let long : length y ≡ 4096 = ap length loaded ∙ sector_long m s fits in
    let put = copied y b u a j 512 ue je e (omega arith) in
    (put, put.long ∙ long)

-- sector s of the memory m, loaded as y and made x by putting b in at place a, is erased, which leaves e, and programmed with x, which leaves w
module _ (m e w y x b : List ℕ) (s a : ℕ) (fits : 4096 * s + 4096 ≤ length m) (room : a + 512 ≤ 4096)
    (loaded : y ≡ sector_at m s) (put : Rewritten y x a 512 (λ i. get_or b i 0)) (long : length x ≡ 4096)
    (er : Erased m e s) (pr : Programmed e w (4096 * s) x) (bytes : Bytes x) where
  -- a byte of the sector afterwards
  now_byte : (j : ℕ) → j < 4096 → get_or w (4096 * s + j) 0 ≡ get_or x j 0
  now_byte j h =
      let l : j < length x = rw long h in
      pr.here j l ∙ ap (λ v. bit_and v (get_or x j 0)) (er.here j h) ∙ and_ff (get_or x j 0) (bytes j l)

  -- and before
  old_byte : (j : ℕ) → j < 4096 → get_or y j 0 ≡ get_or m (4096 * s + j) 0
  old_byte j h = rw (loaded, get_or-take, get_or-drop)

  new_here : (i : ℕ) → i < 512 → get_or w (4096 * s + a + i) 0 ≡ get_or b i 0
  new_here i h =
      let eq : 4096 * s + a + i ≡ 4096 * s + (a + i) = omega arith in
      rw eq (now_byte (a + i) (omega arith) ∙ put.here i h)

  new_before : (i : ℕ) → i < 4096 * s + a → get_or w i 0 ≡ get_or m i 0
  new_before i h = ⊎_elim
      (λ lt. pr.before i lt ∙ er.before i lt)
      (λ ge. let j = i - 4096 * s in
      let eq : i ≡ 4096 * s + j = omega arith in
      rw eq (now_byte j (omega arith) ∙ put.before j (omega arith) ∙ old_byte j (omega arith)))
      (cases_lt i (4096 * s))

  new_after : (i : ℕ) → 4096 * s + a + 512 ≤ i → get_or w i 0 ≡ get_or m i 0
  new_after i h = ⊎_elim
      (λ lt. let j = i - 4096 * s in
      let eq : i ≡ 4096 * s + j = omega arith in
      rw eq (now_byte j (omega arith) ∙ put.after j (omega arith) ∙ old_byte j (omega arith)))
      (λ ge. pr.after i (rw long ge) ∙ er.after i ge)
      (cases_lt i (4096 * s + 4096))

  pub erased_programmed : (start : ℕ) → start ≡ 4096 * s + a → Rewritten m w start 512 (λ i. get_or b i 0)
  erased_programmed start q = record {
    long = pr.long ∙ er.long;
    here = λ i h. rw q (new_here i h);
    before = λ i h. new_before i (omega arith);
    after = λ i h. new_after i (omega arith);
  }
