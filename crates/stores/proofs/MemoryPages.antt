-- the pages of a memory, as they are read and replaced
use Rattle.std.proofs.Common.{◌≡◌, ℕ, ◌+◌, ◌*◌, ◌/◌, ◌<◌, ◌≤◌, ◌≢◌, List, [], length, get_or, take, drop, set, Ok, Err, Result, sym, ap, ◌∙◌, ⊎_elim, arith}
use Rattle.std.proofs.lemmas.List.{length-set, get_or-set_same, get_or-set_other, ext_get_or, get_or-take, get_or-drop}
use Rattle.std.proofs.lemmas.Bool.{cases_lt, cases_eq}
use Rattle.stores.specs.declared.NoSuchPage.{NoSuchPage}
use Rattle.stores.specs.Memory.{page_at, pages_in, flat_pages, sector_pages, Replaced, Written}
use Rattle.stores.specs.Wholes.{page_length, pages_length, pages_get_or}

-- the k bytes from where page p begins, read where k is 512
pub page_loaded : (m bytes : List ℕ) (n p k : ℕ) → bytes ≡ take k (drop (512 * p) m) → k ≡ 512 → p < n → bytes ≡ get_or (pages_in n m) p []
page_loaded m bytes n p k e whole h = e ∙ ap (λ j. take j (drop (512 * p) m)) whole ∙ sym (pages_get_or n m p h)

-- a write keeps the length of the memory
pub written_length : {U : Type 0} (m w : List ℕ) (p : ℕ) (b : List ℕ) (r : Result U NoSuchPage) → Written m w p b r → length w ≡ length m
written_length m w p b (Ok _) r = r.long
written_length m w p b (Err _) e = ap length e

-- byte i of a page
page_byte : (m : List ℕ) (q i : ℕ) → i < 512 → get_or (page_at m q) i 0 ≡ get_or m (512 * q + i) 0
page_byte m q i h = rw (get_or-take, get_or-drop)

module _ (m w : List ℕ) (p : ℕ) (b : List ℕ) (r : Replaced m w p b) where
  page_same : (n : ℕ) → p < n → 512 * n ≤ length m → length b ≡ 512 → page_at w p ≡ b
  page_same n h k e =
      let long : length (page_at w p) ≡ 512 = page_length n w p h (rw r.long k) in
      ext_get_or 0 (page_at w p) b (long ∙ sym e) (λ i l. page_byte w p i (omega arith) ∙ r.here i (omega arith))

  other_byte : (q : ℕ) → q ≢ p → (i : ℕ) → i < 512 → get_or w (512 * q + i) 0 ≡ get_or m (512 * q + i) 0
  other_byte q ne i j =
      ⊎_elim (λ lt. r.before (512 * q + i) (omega arith)) (λ ge. r.after (512 * q + i) (omega arith)) (cases_lt q p)

  page_other : (n q : ℕ) → q ≢ p → q < n → 512 * n ≤ length m → page_at w q ≡ page_at m q
  page_other n q ne h k =
      let long : length (page_at w q) ≡ 512 = page_length n w q h (rw r.long k) in
      ext_get_or 0 (page_at w q) (page_at m q) (long ∙ sym (page_length n m q h k)) (λ i l.
      let j : i < 512 = omega arith in
      page_byte w q i j ∙ other_byte q ne i j ∙ sym (page_byte m q i j))

  pub pages_replaced : (n : ℕ) → p < n → 512 * n ≤ length m → length b ≡ 512 → pages_in n w ≡ set (pages_in n m) p b
  pages_replaced n h k e =
      let len : length (pages_in n w) ≡ length (set (pages_in n m) p b) = simp (length-set, pages_length) in
      ext_get_or [] (pages_in n w) (set (pages_in n m) p b) len (λ q l.
      let lt : q < n = rw pages_length at l in
      ⊎_elim
      (λ same. let ps : p < length (pages_in n m) = rw pages_length h in
      cc (pages_get_or n w q lt, get_or-set_same (pages_in n m) p b [] ps, page_same n h k e))
      (λ ne. rw (pages_get_or n w q lt, get_or-set_other (pages_in n m) p q b [] ne, pages_get_or n m q lt) (page_other n q ne lt k))
      (cases_eq q p))

  pub flat_replaced : length b ≡ 512 → p < length m / 512 → flat_pages w ≡ set (flat_pages m) p b
  flat_replaced e h =
      let le : 512 * (length m / 512) ≤ length m = omega arith in
      rw r.long (pages_replaced (length m / 512) h le e)

  pub sector_replaced : length b ≡ 512 → p < 8 * (length m / 4096) → sector_pages w ≡ set (sector_pages m) p b
  sector_replaced e h =
      let le : 512 * (8 * (length m / 4096)) ≤ length m = omega arith in
      rw r.long (pages_replaced (8 * (length m / 4096)) h le e)
