-- The bytes of an image as six strings side by side: the mark, the keys and the level; the counts; zeros; the ends; the cells; zeros.
use Rattle.std.proofs.Common.{◌≡◌, ℕ, ◌+◌, ◌-◌, ◌*◌, ◌≤◌, List, [], ◌∷◌, ◌++◌, map, length, replicate, sym, refl, ap, ◌∙◌, subst, append_assoc, arith, length-append}
use Rattle.std.proofs.lemmas.List.{length-replicate, length-map}
use Rattle.images.specs.Bytes.{four, filled, joined}
use Rattle.images.specs.Directory.{Tile, Image, tile_bytes, counts, layout}
use Rattle.images.proofs.Bytes.{length_coded}
use Rattle.image_bytes.specs.Fields.{Stands, count_bytes}
use Rattle.image_bytes.proofs.Standing.{stands_more, stands_front, stands_back, stands_whole, whole_stands}
use Rattle.image_bytes.proofs.Scaled.{ends_joined}

-- the counts, and the zeros up to the ends
counts_flat : (es : List (List ℕ)) → length es ≤ 4 → counts 4 es ++ (0 ∷ 0 ∷ 0 ∷ 0 ∷ []) ≡ joined (map count_bytes (map length es)) ++ replicate (16 - (4 + 2 * length es)) 0
counts_flat [] l = refl
counts_flat (a ∷ []) l = refl
counts_flat (a ∷ b ∷ []) l = refl
counts_flat (a ∷ b ∷ c ∷ []) l = refl
counts_flat (a ∷ b ∷ c ∷ d ∷ []) l = refl
counts_flat (a ∷ b ∷ c ∷ d ∷ e ∷ es) l = absurd (omega arith)

-- where the cells begin and where they end
abbrev pub cells_from : List ℕ → ℕ
cells_from ws = 16 + 4 * length ws

abbrev pub used : List ℕ → List Tile → ℕ
used ws ts = cells_from ws + 3 * length ts

abbrev pub flat : ℕ → ℕ → ℕ → ℕ → List ℕ → List ℕ → List Tile → List ℕ
flat size m₀ m₁ level cs ws ts =
    (m₀ ∷ m₁ ∷ length cs ∷ level ∷ []) ++ (joined (map count_bytes cs) ++ (replicate (16 - (4 + 2 * length cs)) 0
    ++ (joined (map four ws) ++ (joined (map tile_bytes ts) ++ replicate (size - used ws ts) 0))))

module _ (m₀ m₁ level : ℕ) (cs ws : List ℕ) (ts : List Tile) (few : length cs ≤ 4) where
  pub counts_long : length (joined (map count_bytes cs)) ≡ 2 * length cs
  counts_long = length_coded count_bytes 2 (λ _. refl) cs

  pub ends_long : length (joined (map four ws)) ≡ 4 * length ws
  ends_long = length_coded four 4 (λ _. refl) ws

  pub cells_long : length (joined (map tile_bytes ts)) ≡ 3 * length ts
  cells_long = length_coded tile_bytes 3 (λ _. refl) ts

  pub gap_long : 4 + 2 * length cs + length (replicate {A = ℕ} (16 - (4 + 2 * length cs)) 0) ≡ 16
  gap_long = omega (arith, length-replicate {A = ℕ} (16 - (4 + 2 * length cs)) 0)

  pub flat_long : (size : ℕ) → used ws ts ≤ size → length (flat size m₀ m₁ level cs ws ts) ≡ size
  flat_long size room =
      let Z = replicate {A = ℕ} (16 - (4 + 2 * length cs)) 0 in
      let R = replicate {A = ℕ} (size - used ws ts) 0 in
      let T = joined (map tile_bytes ts) in
      let E = joined (map four ws) in
      let C = joined (map count_bytes cs) in
      omega (
        arith,
        length-append T R,
        length-append E (T ++ R),
        length-append Z (E ++ (T ++ R)),
        length-append C (Z ++ (E ++ (T ++ R))),
        counts_long,
        ends_long,
        cells_long,
        gap_long,
        length-replicate {A = ℕ} (size - used ws ts) 0,
      )

-- The strings stand among the bytes.
pub record View (m₀ m₁ level : ℕ) (cs ws : List ℕ) (ts : List Tile) (bs : List ℕ) : Type 0 where
  pub head : Stands bs 0 (m₀ ∷ m₁ ∷ length cs ∷ level ∷ [])
  pub counted : Stands bs 4 (joined (map count_bytes cs))
  pub zeros : Stands bs (4 + 2 * length cs) (replicate (16 - (4 + 2 * length cs)) 0)
  pub ends : Stands bs 16 (joined (map four ws))
  pub cells : Stands bs (cells_from ws) (joined (map tile_bytes ts))
  pub rest : Stands bs (used ws ts) (replicate (length bs - used ws ts) 0)

module _ (m₀ m₁ level : ℕ) (cs ws : List ℕ) (ts : List Tile) (few : length cs ≤ 4) (bs : List ℕ) where
  abbrev H : List ℕ
  H = m₀ ∷ m₁ ∷ length cs ∷ level ∷ []

  abbrev C : List ℕ
  C = joined (map count_bytes cs)

  abbrev Z : List ℕ
  Z = replicate (16 - (4 + 2 * length cs)) 0

  abbrev E : List ℕ
  E = joined (map four ws)

  abbrev T : List ℕ
  T = joined (map tile_bytes ts)

  abbrev R : List ℕ
  R = replicate (length bs - used ws ts) 0

  -- where each string ends
  after_counts : 4 + length C ≡ 4 + 2 * length cs
  after_counts = ap (λ n. 4 + n) (counts_long m₀ m₁ level cs ws ts few)

  after_gap : 4 + 2 * length cs + length Z ≡ 16
  after_gap = gap_long m₀ m₁ level cs ws ts few

  after_ends : 16 + length E ≡ cells_from ws
  after_ends = ap (λ n. 16 + n) (ends_long m₀ m₁ level cs ws ts few)

  after_cells : cells_from ws + length T ≡ used ws ts
  after_cells = ap (λ n. cells_from ws + n) (cells_long m₀ m₁ level cs ws ts few)

  pub from_view : View m₀ m₁ level cs ws ts bs → used ws ts ≤ length bs → bs ≡ flat (length bs) m₀ m₁ level cs ws ts
  from_view v room =
      let r₀ = stands_more bs (cells_from ws) T R v.cells (subst (λ n. Stands bs n R) (sym after_cells) v.rest) in
      let r₁ = stands_more bs 16 E (T ++ R) v.ends (subst (λ n. Stands bs n (T ++ R)) (sym after_ends) r₀) in
      let r₂ = stands_more bs (4 + 2 * length cs) Z (E ++ (T ++ R)) v.zeros (subst (λ n. Stands bs n (E ++ (T ++ R))) (sym after_gap) r₁) in
      let r₃ = stands_more bs 4 C (Z ++ (E ++ (T ++ R))) v.counted (subst (λ n. Stands bs n (Z ++ (E ++ (T ++ R)))) (sym after_counts) r₂) in
      whole_stands bs (H ++ (C ++ (Z ++ (E ++ (T ++ R))))) (flat_long m₀ m₁ level cs ws ts few (length bs) room)
      (stands_more bs 0 H (C ++ (Z ++ (E ++ (T ++ R)))) v.head r₃)

  pub view : bs ≡ flat (length bs) m₀ m₁ level cs ws ts → View m₀ m₁ level cs ws ts bs
  view e =
      let h₀ : Stands bs 0 (H ++ (C ++ (Z ++ (E ++ (T ++ R))))) = subst (λ (us : List ℕ). Stands bs 0 us) e (stands_whole bs) in
      let h₁ : Stands bs 4 (C ++ (Z ++ (E ++ (T ++ R)))) = stands_back bs 0 H (C ++ (Z ++ (E ++ (T ++ R)))) h₀ in
      let h₂ = subst (λ n. Stands bs n (Z ++ (E ++ (T ++ R)))) after_counts (stands_back bs 4 C (Z ++ (E ++ (T ++ R))) h₁) in
      let h₃ = subst (λ n. Stands bs n (E ++ (T ++ R))) after_gap (stands_back bs (4 + 2 * length cs) Z (E ++ (T ++ R)) h₂) in
      let h₄ = subst (λ n. Stands bs n (T ++ R)) after_ends (stands_back bs 16 E (T ++ R) h₃) in
      record {
        head = stands_front bs 0 H (C ++ (Z ++ (E ++ (T ++ R)))) h₀;
        counted = stands_front bs 4 C (Z ++ (E ++ (T ++ R))) h₁;
        zeros = stands_front bs (4 + 2 * length cs) Z (E ++ (T ++ R)) h₂;
        ends = stands_front bs 16 E (T ++ R) h₃;
        cells = stands_front bs (cells_from ws) T R h₄;
        rest = subst (λ n. Stands bs n R) after_cells (stands_back bs (cells_from ws) T R h₄);
      }

-- the layout is such a string
pub layout_flat : (size m₀ m₁ level : ℕ) (img : Image) → length img.ends ≤ 4
    → layout size m₀ m₁ level img ≡ flat size m₀ m₁ level (map length img.ends) (joined img.ends) img.cells
layout_flat size m₀ m₁ level img few =
    let es = img.ends in
    let cs = map length es in
    let ws = joined es in
    let ts = img.cells in
    let same : length cs ≡ length es = length-map es length in
    let H : List ℕ = m₀ ∷ m₁ ∷ length es ∷ level ∷ [] in
    let K = counts 4 es in
    let N : List ℕ = 0 ∷ 0 ∷ 0 ∷ 0 ∷ [] in
    let C = joined (map count_bytes cs) in
    let Z = replicate {A = ℕ} (16 - (4 + 2 * length es)) 0 in
    let G = joined (map (λ e. joined (map four e)) es) in
    let E = joined (map four ws) in
    let T = joined (map tile_bytes ts) in
    let R = replicate {A = ℕ} (size - used ws ts) 0 in
    let middle : K ++ (N ++ (G ++ T)) ≡ C ++ (Z ++ (E ++ T)) =
    sym (append_assoc K N (G ++ T)) ∙ ap (λ (us : List ℕ). us ++ (G ++ T)) (counts_flat es few) ∙ append_assoc C Z (G ++ T)
    ∙ ap (λ (us : List ℕ). C ++ (Z ++ (us ++ T))) (ends_joined es) in
    let c = counts_long m₀ m₁ level cs ws ts (omega arith) in
    let long : length (H ++ (C ++ (Z ++ (E ++ T)))) ≡ used ws ts =
    omega (
      arith,
      length-append E T,
      length-append Z (E ++ T),
      length-append C (Z ++ (E ++ T)),
      c,
      length-replicate {A = ℕ} (16 - (4 + 2 * length es)) 0,
      ends_long m₀ m₁ level cs ws ts (omega arith),
      cells_long m₀ m₁ level cs ws ts (omega arith),
    ) in
    ap (λ (us : List ℕ). filled size (H ++ us)) middle
    ∙ ap (λ n. (H ++ (C ++ (Z ++ (E ++ T)))) ++ replicate (size - n) 0) long
    ∙ ap (λ (us : List ℕ). m₀ ∷ m₁ ∷ length es ∷ level ∷ us)
    (append_assoc C (Z ++ (E ++ T)) R ∙ ap (λ (us : List ℕ). C ++ us) (append_assoc Z (E ++ T) R ∙ ap (λ (us : List ℕ). Z ++ us) (append_assoc E T R)))
    ∙ ap (λ n. (m₀ ∷ m₁ ∷ n ∷ level ∷ []) ++ (C ++ (replicate (16 - (4 + 2 * n)) 0 ++ (E ++ (T ++ R))))) (sym same)
