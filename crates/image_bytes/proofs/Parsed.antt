-- The parts of an image that are read.
use Rattle.std.proofs.Common.{eqb, [], ap₂, Bool, true, false, ltb, Decides, ◌≡◌, ℕ, zero, suc, ◌+◌, ◌*◌, ◌<◌, ◌≤◌, List, ◌∷◌, map, length, get_or, take, sym, refl, ap, ◌∙◌, subst, arith}
use Rattle.std.specs.List.{IsAllAdjacentAnswer}
use Rattle.std.proofs.lemmas.Bool.{ltb-true, lt-ltb, false≢true}
use Rattle.images.specs.Directory.{Rising}
use Rattle.images.specs.Parts.{AllRising}
use Rattle.images.specs.Bytes.{two, joined}
use Rattle.images.proofs.Bytes.{two_same}
use Rattle.image_bytes.specs.Fields.{Stands, count_bytes}
use Rattle.image_bytes.proofs.Standing.{code_at}

-- a number that is no 0
pub some_number : (n : ℕ) → eqb n 0 ≡ false → 0 < n
some_number zero e = absurd (false≢true (sym e))
some_number (suc n) e = omega arith

-- counts in the bytes of the numbers of intervals
pub counts_bytes : (k : ℕ) (ns cs : List ℕ) → k ≤ length ns → k ≤ length cs → ((i : ℕ) → i < k → suc (get_or cs i 0) ≡ get_or ns i 0) → map count_bytes (take k cs) ≡ map two (take k ns)
counts_bytes zero ns cs l m e = refl
counts_bytes (suc k) [] cs l m e = absurd (omega arith)
counts_bytes (suc k) (n ∷ ns) [] l m e = absurd (omega arith)
counts_bytes (suc k) (n ∷ ns) (c ∷ cs) l m e = ap₂ (λ (u : List ℕ) (us : List (List ℕ)). u ∷ us) (ap two (e 0 (omega arith))) (counts_bytes k ns cs (omega arith) (omega arith) (λ i h. e (suc i) (omega arith)))

-- a key without an interval
pub no_count : (bs cs : List ℕ) (k i n : ℕ) → i < k → n ≡ 0 → Stands bs (4 + 2 * i) (two n) → length cs ≡ k → Stands bs 4 (joined (map count_bytes cs)) → ⊥
no_count bs cs k i n l none here long all =
    let there = code_at count_bytes 2 (λ _. refl) bs 4 cs i 0 (omega arith) all in
    omega (arith, two_same n (suc (get_or cs i 0)) (sym here ∙ there))

-- what comparing each end with the next says
pub rises_of : (r : Bool) (xs : List ℕ) → IsAllAdjacentAnswer (λ x y b. b ≡ ltb x y) xs r → Decides r (Rising xs)
rises_of true xs m = ((λ _ j h. let more : j + 1 ≡ suc j = omega arith in subst (λ n. get_or xs j 0 < get_or xs n 0) more (ltb-true (get_or xs j 0) (get_or xs (j + 1) 0) (sym (m j 0 (omega arith))))), (λ _. refl))
rises_of false xs m =
    let k = m.0 in
    let more : suc k ≡ k + 1 = omega arith in
    ((λ e. absurd (false≢true e)), (λ up. absurd (false≢true (m.2 0 ∙ lt-ltb (get_or xs k 0) (get_or xs (k + 1) 0) (subst (λ n. get_or xs k 0 < get_or xs n 0) more (up k (omega (arith, m.1))))))))

-- the first key's ends and the others
pub all_rising : (es : List (List ℕ)) (us : List ℕ) (more : List (List ℕ)) → es ≡ us ∷ more → Rising us → AllRising more → AllRising es
all_rising es us more e here rest = subst AllRising (sym e) go
  where
    go : AllRising (us ∷ more)
    go zero l = here
    go (suc i) l = rest i (omega arith)

pub others_rising : (es : List (List ℕ)) (us : List ℕ) (more : List (List ℕ)) → es ≡ us ∷ more → AllRising es → AllRising more
others_rising es us more e all = let all' = subst AllRising e all in λ i l. all' (suc i) (omega arith)
