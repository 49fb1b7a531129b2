-- A sound image that the bytes are laid out as: what is read of them is what it says, so that no test refuses them.
use Rattle.std.proofs.Common.{◌≡◌, ℕ, suc, ◌+◌, ◌-◌, ◌*◌, ◌≤◌, List, [], ◌∷◌, map, length, take, drop, replicate, sym, refl, ap, ◌∙◌, subst, ap₂, append-nil, arith}
use Rattle.std.proofs.lemmas.List.{length-map, length-take-le}
use Rattle.images.specs.Bytes.{four, joined}
use Rattle.images.specs.Directory.{Image, layout, inner, intervals}
use Rattle.images.specs.Parts.{parted, total, AllRising}
use Rattle.images.proofs.Bytes.{two_same, four_same, coded_same, each_long, length_coded}
use Rattle.images.specs.Parts.{product}
use Rattle.image_bytes.specs.Fields.{Zeros, Stands, count_bytes}
use Rattle.image_bytes.specs.Reading.{Sound, Heading, Counted}
use Rattle.image_bytes.proofs.Flat.{View, view, layout_flat, used}
use Rattle.image_bytes.proofs.Scaled.{parted_joined, parted_front, total_lengths, cells_lengths, length_joined}
use Rattle.image_bytes.proofs.Standing.{stands_byte, zero_byte}

-- strings of codes at one place are the same
same_codes : {A : Type 0} (g : A → List ℕ) (z : ℕ) → ((a : A) → length (g a) ≡ z) → ((a b : A) → g a ≡ g b → a ≡ b) → (bs : List ℕ) (at : ℕ) (us vs : List A)
    → length us ≡ length vs → Stands bs at (joined (map g us)) → Stands bs at (joined (map g vs)) → us ≡ vs
same_codes g z wide inj bs at us vs l hu hv =
    let same : length (joined (map g us)) ≡ length (joined (map g vs)) = length_coded g z wide us ∙ ap (λ n. z * n) l ∙ sym (length_coded g z wide vs) in
    let e : joined (map g us) ≡ joined (map g vs) = sym hu ∙ ap (λ n. take n (drop at bs)) same ∙ hv in
    (coded_same g inj us vs (each_long g z wide us vs l) [] [] (append-nil (joined (map g us)) ∙ e ∙ sym (append-nil (joined (map g vs))))).0

count_same : (a b : ℕ) → count_bytes a ≡ count_bytes b → a ≡ b
count_same a b e = omega (arith, two_same (suc a) (suc b) e)

module _ (m₀ m₁ k level most_inner most_cells : ℕ) (bs : List ℕ) (few : k ≤ 4) (img : Image) (sound : Sound k most_inner most_cells img) (laid : bs ≡ layout (length bs) m₀ m₁ level img) where
  abbrev lengths : List ℕ
  lengths = map length img.ends

  many : length lengths ≡ k
  many = length-map img.ends length ∙ sound.scales

  seen : View m₀ m₁ level lengths (joined img.ends) img.cells bs
  seen = view m₀ m₁ level lengths (joined img.ends) img.cells (omega (arith, many)) bs (laid ∙ layout_flat (length bs) m₀ m₁ level img (omega (arith, sound.scales)))

  -- the heading is right
  pub heading_stands : Heading m₀ m₁ k level bs
  heading_stands =
      let h : List ℕ = m₀ ∷ m₁ ∷ length lengths ∷ level ∷ [] in
      record {
        mark_first = stands_byte bs 0 h 0 (omega arith) seen.head;
        mark_second = stands_byte bs 0 h 1 (omega arith) seen.head;
        keys = stands_byte bs 0 h 2 (omega arith) seen.head ∙ many;
        named_level = stands_byte bs 0 h 3 (omega arith) seen.head;
        zeros = λ i ge lt. zero_byte bs (4 + 2 * k) 16 i ge lt (subst (λ n. Stands bs (4 + 2 * n) (replicate (16 - (4 + 2 * n)) 0)) many seen.zeros);
      }

  -- there are counts
  pub counts_stand : ((cs : List ℕ) → length cs ≡ k → Stands bs 4 (joined (map count_bytes cs)) → ⊥) → ⊥
  counts_stand none = none lengths many seen.counted

  module _ (cs : List ℕ) (c : Counted k bs cs) where
    front_long : length (take k cs) ≡ k
    front_long = length-take-le k cs (omega (arith, c.four_keys))

    counts_same : take k cs ≡ lengths
    counts_same = same_codes count_bytes 2 (λ _. refl) count_same bs 4 (take k cs) lengths (front_long ∙ sym many) c.stand seen.counted

    -- both limits are kept
    total_is : total (take k cs) ≡ inner img.ends
    total_is = ap total counts_same ∙ total_lengths img.ends

    pub total_few : total (take k cs) ≤ most_inner
    total_few = omega (arith, total_is, sound.few_inner)

    cells_are : product (take k cs) ≡ intervals img.ends
    cells_are = ap product counts_same ∙ cells_lengths img.ends

    pub cells_few : product (take k cs) ≤ most_cells
    cells_few = omega (arith, cells_are, sound.few_cells)

    -- the rest is zero
    pub rest_stands : (n m : ℕ) → n ≡ total (take k cs) → m ≡ product (take k cs) → Zeros bs (16 + 4 * n + 3 * m) (length bs)
    rest_stands n m en em i ge lt =
        let a : length (joined img.ends) ≡ n = length_joined img.ends ∙ sym total_is ∙ sym en in
        let b : length img.cells ≡ m = sound.all_cells ∙ sym cells_are ∙ sym em in
        let e : used (joined img.ends) img.cells ≡ 16 + 4 * n + 3 * m = ap₂ (λ x y. 16 + 4 * x + 3 * y) a b in
        zero_byte bs (16 + 4 * n + 3 * m) (length bs) i ge lt (subst (λ x. Stands bs x (replicate (length bs - x) 0)) e seen.rest)

    -- the ends of each key rise
    pub ends_rise : (n : ℕ) (xs : List ℕ) → n ≡ total (take k cs) → n ≤ length xs → Stands bs 16 (joined (map four (take n xs))) → AllRising (parted (take k cs) xs)
    ends_rise n xs en room stand =
        let all : length (take n xs) ≡ length (joined img.ends) = length-take-le n xs room ∙ en ∙ total_is ∙ sym (length_joined img.ends) in
        let same : take n xs ≡ joined img.ends = same_codes four 4 (λ _. refl) four_same bs 16 (take n xs) (joined img.ends) all stand seen.ends in
        let e : parted (take k cs) xs ≡ img.ends =
        sym (parted_front (take k cs) xs) ∙ ap (λ m. parted (take k cs) (take m xs)) (sym en) ∙ ap (parted (take k cs)) same ∙ ap (λ (us : List ℕ). parted us (joined img.ends)) counts_same
        ∙ parted_joined img.ends in
        subst AllRising (sym e) sound.rising
