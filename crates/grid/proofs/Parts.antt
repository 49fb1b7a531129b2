-- A string of bytes in pages of 512.
use Rattle.std.proofs.Common.{◌≡◌, ℕ, zero, suc, ◌+◌, ◌*◌, ◌<◌, ◌≤◌, List, [], ◌∷◌, ◌++◌, length, get_or, take, drop, set, Ok, Err, Result, sym, refl, ap, ◌∙◌, subst, inl, inr, arith, length-drop, length-set, get_or-set_other, get_or-set_same}
use Rattle.std.proofs.lemmas.List.{drop-drop}
use Rattle.std.proofs.lemmas.Bool.{cases_eq}
use Rattle.images.specs.Bytes.{joined}
use Rattle.std.specs.Simd.{first_chunks}
use Rattle.stores.specs.Pages.{Stored}
use Rattle.stores.specs.declared.NoSuchPage.{NoSuchPage}

-- a chunk of 512 bytes
pub chunk_at : (k i : ℕ) (xs : List ℕ) (d : List ℕ) → i < k → get_or (first_chunks 512 k xs) i d ≡ take 512 (drop (512 * i) xs)
chunk_at zero i xs d h = absurd (omega arith)
chunk_at (suc k) zero xs d h = refl
chunk_at (suc k) (suc i) xs d h = chunk_at k i (drop 512 xs) d (omega arith) ∙ ap (take 512) (drop-drop (512 * i) 512 xs ∙ ap (λ j. drop j xs) (omega arith))

-- the first n pages are the first n parts of the bytes, and the others are as they were
pub record Parted (ps : List (List ℕ)) (bytes : List ℕ) (n : ℕ) (qs : List (List ℕ)) : Type 0 where
  pub as_many : length qs ≡ length ps
  pub here : (j : ℕ) → j < n → get_or qs j [] ≡ take 512 (drop (512 * j) bytes)
  pub rest : (j : ℕ) → n ≤ j → get_or qs j [] ≡ get_or ps j []

pub parted_none : (ps : List (List ℕ)) (bytes : List ℕ) → Parted ps bytes 0 ps
parted_none ps bytes = record { as_many = refl; here = λ j l. absurd (omega arith); rest = λ j l. refl }

-- one page more
pub parted_more : {U : Type 0} (ps qs rs : List (List ℕ)) (bytes part : List ℕ) (n : ℕ) (r : Result U NoSuchPage) → n < length ps → part ≡ take 512 (drop (512 * n) bytes)
    → Parted ps bytes n qs → Stored qs rs n part r → Parted ps bytes (n + 1) rs
parted_more ps qs rs bytes part n (Ok u) l e p s =
    let k : n < length qs = omega (arith, p.as_many) in
    let same : (j : ℕ) → get_or rs j [] ≡ get_or (set qs n part) j [] = λ j. ap (λ (zs : List (List ℕ)). get_or zs j []) s.1 in
    record {
      as_many = ap length s.1 ∙ length-set qs n part ∙ p.as_many;
      here = λ j h. elim (cases_eq j n) [
        | inl q ↦ subst (λ i. get_or rs i [] ≡ take 512 (drop (512 * i) bytes)) (sym q) (same n ∙ get_or-set_same qs n part [] k ∙ e)
        | inr q ↦ same j ∙ get_or-set_other qs n j part [] q ∙ p.here j (omega arith)
      ];
      rest = λ j h. let q : j ≡ n → ⊥ = λ z. omega arith in same j ∙ get_or-set_other qs n j part [] q ∙ p.rest j (omega arith);
    }
parted_more ps qs rs bytes part n (Err f) l e p s = absurd (omega (arith, s.0, p.as_many))

take_drop_whole : (n : ℕ) (bs : List ℕ) → take n bs ++ drop n bs ≡ bs
take_drop_whole zero bs = refl
take_drop_whole (suc n) [] = refl
take_drop_whole (suc n) (b ∷ bs) = ap (λ (zs : List ℕ). b ∷ zs) (take_drop_whole n bs)

-- pages that are the parts of the bytes make them up
pub joined_parts : (n : ℕ) (qs : List (List ℕ)) (bytes : List ℕ) → n ≤ length qs → length bytes ≡ 512 * n → ((j : ℕ) → j < n → get_or qs j [] ≡ take 512 (drop (512 * j) bytes)) → joined (take n qs) ≡ bytes
joined_parts zero qs [] l e w = refl
joined_parts zero qs (b ∷ bs) l e w = absurd (omega arith)
joined_parts (suc n) [] bytes l e w = absurd (omega arith)
joined_parts (suc n) (q ∷ qs) bytes l e w =
    let first : q ≡ take 512 bytes = w 0 (omega arith) in
    let more : (j : ℕ) → j < n → get_or qs j [] ≡ take 512 (drop (512 * j) (drop 512 bytes)) =
    λ j h. w (suc j) (omega arith) ∙ ap (take 512) (ap (λ k. drop k bytes) (step j) ∙ sym (drop-drop (512 * j) 512 bytes)) in
    let ih = joined_parts n qs (drop 512 bytes) (omega arith) (omega (arith, length-drop 512 bytes)) more in
    ap (λ (z : List ℕ). z ++ joined (take n qs)) first ∙ ap (λ (z : List ℕ). take 512 bytes ++ z) ih ∙ take_drop_whole 512 bytes
  where
    step : (j : ℕ) → 512 * suc j ≡ 512 + 512 * j
    step j = omega arith
