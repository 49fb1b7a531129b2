-- The layouts are told from their bytes.
use Rattle.std.proofs.Common.{◌≡◌, ℕ, zero, suc, ◌+◌, ◌-◌, ◌*◌, ◌/◌, ◌%◌, ◌≤◌, List, [], ◌∷◌, ◌++◌, map, length, replicate, sym, refl, ap, ◌∙◌, append_assoc, append-nil, arith, length-append}
use mathlib.Core.List.{head-eq_of_cons-eq, tail-eq_of_cons-eq}
use Rattle.std.specs.List.{AllZip}
use Rattle.std.proofs.lemmas.List.{length-replicate}
use Rattle.images.specs.Bytes.{two, four, filled, joined}
use Rattle.images.specs.Directory.{Tile, Image, tile_bytes, counts, layout, inner, intervals}
use Rattle.images.specs.Laws.{OneRoot, OneDirectory, ImagesFull}
use Rattle.images.proofs.Bytes.{split_at, two_same, four_same, coded_same, each_long, length_coded}

tile_same : (s t : Tile) → tile_bytes s ≡ tile_bytes t → s ≡ t
tile_same s t e =
    let h : s.page / 256 ≡ t.page / 256 = cc in
    let l : s.page % 256 ≡ t.page % 256 = cc in
    let k : s.level ≡ t.level = cc in
    let p : s.page ≡ t.page = omega arith in
    λ i. record { page = p i; level = k i }

abbrev end_bytes : List ℕ → List ℕ
end_bytes es = joined (map four es)

ends_long : (es : List ℕ) → length (end_bytes es) ≡ 4 * length es
ends_long es = length_coded four 4 (λ _. refl) es

ends_same : (es fs : List ℕ) → end_bytes es ≡ end_bytes fs → es ≡ fs
ends_same es fs e =
    let l : length es ≡ length fs = omega (arith, ends_long es, ends_long fs, ap length e) in
    (coded_same four four_same es fs (each_long four 4 (λ _. refl) es fs l) [] [] (append-nil (end_bytes es) ∙ e ∙ sym (append-nil (end_bytes fs)))).0

counts_long : (n : ℕ) (es : List (List ℕ)) → length (counts n es) ≡ 2 * n
counts_long zero es = refl
counts_long (suc n) [] = omega (arith, counts_long n [])
counts_long (suc n) (e ∷ es) = omega (arith, counts_long n es)

counts_same : (n : ℕ) (es fs : List (List ℕ)) → length es ≡ length fs → length es ≤ n → counts n es ≡ counts n fs → AllZip (λ e f. length (end_bytes e) ≡ length (end_bytes f)) es fs
counts_same n [] [] l k e = tt
counts_same n [] (y ∷ fs) l k e = absurd (omega arith)
counts_same n (x ∷ es) [] l k e = absurd (omega arith)
counts_same zero (x ∷ es) (y ∷ fs) l k e = absurd (omega arith)
counts_same (suc n) (x ∷ es) (y ∷ fs) l k e =
    let r = split_at (two (suc (length x))) (two (suc (length y))) (counts n es) (counts n fs) refl e in
    let s = two_same (suc (length x)) (suc (length y)) r.0 in
    (omega (arith, ends_long x, ends_long y), counts_same n es fs (omega arith) (omega arith) r.1)

pub layout_same : (size m₀ m₁ level level' : ℕ) (img img' : Image) → length img.ends ≤ 4
    → length img.cells ≡ intervals img.ends → length img'.cells ≡ intervals img'.ends
    → layout size m₀ m₁ level img ≡ layout size m₀ m₁ level' img' → (img ≡ img') × (level ≡ level')
layout_same size m₀ m₁ level level' img img' four_keys all all' e =
    let E = joined (map end_bytes img.ends) in
    let E' = joined (map end_bytes img'.ends) in
    let T = joined (map tile_bytes img.cells) in
    let T' = joined (map tile_bytes img'.cells) in
    let Z : List ℕ = 0 ∷ 0 ∷ 0 ∷ 0 ∷ [] in
    let B = (m₀ ∷ m₁ ∷ length img.ends ∷ level ∷ []) ++ (counts 4 img.ends ++ (Z ++ (E ++ T))) in
    let B' = (m₀ ∷ m₁ ∷ length img'.ends ∷ level' ∷ []) ++ (counts 4 img'.ends ++ (Z ++ (E' ++ T'))) in
    let R = replicate (size - length B) 0 in
    let R' = replicate (size - length B') 0 in
    let h = split_at (m₀ ∷ m₁ ∷ length img.ends ∷ level ∷ []) (m₀ ∷ m₁ ∷ length img'.ends ∷ level' ∷ [])
    ((counts 4 img.ends ++ (Z ++ (E ++ T))) ++ R) ((counts 4 img'.ends ++ (Z ++ (E' ++ T'))) ++ R') refl e in
    let front = h.0 in
    let lev : level ≡ level' = head-eq_of_cons-eq (tail-eq_of_cons-eq (tail-eq_of_cons-eq (tail-eq_of_cons-eq front))) in
    let keys : length img.ends ≡ length img'.ends = head-eq_of_cons-eq (tail-eq_of_cons-eq (tail-eq_of_cons-eq front)) in
    let c = split_at (counts 4 img.ends) (counts 4 img'.ends) ((Z ++ (E ++ T)) ++ R) ((Z ++ (E' ++ T')) ++ R')
    (counts_long 4 img.ends ∙ sym (counts_long 4 img'.ends))
    (sym (append_assoc (counts 4 img.ends) (Z ++ (E ++ T)) R) ∙ h.1 ∙ append_assoc (counts 4 img'.ends) (Z ++ (E' ++ T')) R') in
    let each = counts_same 4 img.ends img'.ends keys four_keys c.0 in
    let z = split_at Z Z ((E ++ T) ++ R) ((E' ++ T') ++ R') refl c.1 in
    let d = coded_same end_bytes ends_same img.ends img'.ends each (T ++ R) (T' ++ R') (sym (append_assoc E T R) ∙ z.1 ∙ append_assoc E' T' R') in
    let many : length img.cells ≡ length img'.cells = all ∙ ap intervals d.0 ∙ sym all' in
    let t = coded_same tile_bytes tile_same img.cells img'.cells (each_long tile_bytes 3 (λ _. refl) img.cells img'.cells many) R R' d.1 in
    ((λ i. record { ends = d.0 i; cells = t.0 i }), lev)

pub one_root : OneRoot
one_root ws ord n n' img img' bytes k p q =
    let l = p.lawful in
    (layout_same 4096 0x52 0x54 0 0 img img' (omega (arith, l.scales)) l.all_cells q.lawful.all_cells (sym p.laid_out ∙ q.laid_out)).0

pub one_directory : OneDirectory
one_directory ws ord n n' b b' img img' bytes k p q =
    let l = p.lawful in
    layout_same 512 0x44 0x49 (length b) (length b') img img' (omega (arith, l.scales)) l.all_cells q.lawful.all_cells (sym p.laid_out ∙ q.laid_out)

filled_long : (n : ℕ) (bs : List ℕ) → length bs ≤ n → length (filled n bs) ≡ n
filled_long n bs l = omega (arith, length-append bs (replicate (n - length bs) 0), length-replicate {A = ℕ} (n - length bs) 0)

all_ends_long : (es : List (List ℕ)) → length (joined (map end_bytes es)) ≡ 4 * inner es
all_ends_long [] = refl
all_ends_long (e ∷ es) = omega (arith, length-append (end_bytes e) (joined (map end_bytes es)), ends_long e, all_ends_long es)

layout_long : (size m₀ m₁ level x y : ℕ) (img : Image) → inner img.ends ≤ x → length img.cells ≤ y → 16 + 4 * x + 3 * y ≤ size → length (layout size m₀ m₁ level img) ≡ size
layout_long size m₀ m₁ level x y img a b c =
    let E = joined (map end_bytes img.ends) in
    let T = joined (map tile_bytes img.cells) in
    let Z : List ℕ = 0 ∷ 0 ∷ 0 ∷ 0 ∷ [] in
    let e = length-append E T in
    let z = length-append (counts 4 img.ends) (Z ++ (E ++ T)) in
    let k : length ((m₀ ∷ m₁ ∷ length img.ends ∷ level ∷ []) ++ (counts 4 img.ends ++ (Z ++ (E ++ T)))) ≤ size =
    omega (arith, e, z, counts_long 4 img.ends, all_ends_long img.ends, length_coded tile_bytes 3 (λ _. refl) img.cells) in
    filled_long size ((m₀ ∷ m₁ ∷ length img.ends ∷ level ∷ []) ++ (counts 4 img.ends ++ (Z ++ (E ++ T)))) k

pub images_full : ImagesFull
images_full = (
  (λ ws ord n img bytes p. ap length p.laid_out
      ∙ layout_long 4096 0x52 0x54 0 250 1024 img p.lawful.few_inner (omega (arith, p.lawful.all_cells, p.lawful.few_cells)) (omega arith)),
  (λ ws ord n b img bytes p. ap length p.laid_out
      ∙ layout_long 512 0x44 0x49 (length b) 60 80 img p.lawful.few_inner (omega (arith, p.lawful.all_cells, p.lawful.few_cells)) (omega arith)),
)
