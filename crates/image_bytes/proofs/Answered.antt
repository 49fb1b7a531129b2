-- What was read is the image that the bytes are laid out as, and what was written is its layout.
use Rattle.std.proofs.Common.{◌≡◌, ℕ, ◌+◌, ◌-◌, ◌*◌, ◌≤◌, List, [], ◌∷◌, ◌++◌, map, length, get_or, take, replicate, sym, refl, ap, ◌∙◌, subst, ap₂, append_assoc, arith, length-append}
use Rattle.std.proofs.lemmas.List.{length-take-le}
use Rattle.images.specs.Bytes.{four, joined}
use Rattle.images.specs.Directory.{Tile, Image, tile_bytes, layout, intervals}
use Rattle.images.specs.Memory.{tile}
use Rattle.images.specs.Parts.{parted, total}
use Rattle.images.specs.Tilings.{listed}
use Rattle.images.specs.declared.held_image.Named.{Named}
use Rattle.images.proofs.Scales.{length_listed}
use Rattle.images.proofs.Turns.{length_parted}
use Rattle.images.specs.Parts.{product}
use Rattle.image_bytes.specs.Fields.{Zeros, Stands, Put, count_bytes, named_bytes, heading_bytes}
use Rattle.image_bytes.specs.Reading.{Heading}
use Rattle.image_bytes.proofs.Flat.{View, flat, flat_long, from_view, layout_flat, used, counts_long, ends_long, cells_long, gap_long}
use Rattle.image_bytes.proofs.Scaled.{lengths_parted, joined_parted, cells_lengths, listed_cells}
use Rattle.image_bytes.proofs.Standing.{put_more, put_whole, zeros_stand}

first_four : (bs : List ℕ) → 4 ≤ length bs → take 4 bs ≡ get_or bs 0 0 ∷ get_or bs 1 0 ∷ get_or bs 2 0 ∷ get_or bs 3 0 ∷ []
first_four [] l = absurd (omega arith)
first_four (a ∷ []) l = absurd (omega arith)
first_four (a ∷ b ∷ []) l = absurd (omega arith)
first_four (a ∷ b ∷ c ∷ []) l = absurd (omega arith)
first_four (a ∷ b ∷ c ∷ d ∷ bs) l = refl

cell_codes : (ns : List Named) → joined (map tile_bytes (map tile ns)) ≡ joined (map named_bytes ns)
cell_codes [] = refl
cell_codes (n ∷ ns) = ap (λ (us : List ℕ). named_bytes n ++ us) (cell_codes ns)

pub cells_written : (m : ℕ) (ns : List Named) → m ≤ length ns → joined (map named_bytes (take m ns)) ≡ joined (map tile_bytes (listed m (λ k. tile (get_or ns k (record { page = 0; level = 0 })))))
cells_written m ns l = sym (cell_codes (take m ns)) ∙ ap (λ (us : List Tile). joined (map tile_bytes us)) (sym (listed_cells m ns l))

-- the image with these ends, side by side, and these tiles
abbrev pub held : List ℕ → List ℕ → (ℕ → Tile) → Image
held cs xs f = record { ends = parted cs xs; cells = listed (intervals (parted cs xs)) f }

-- n ends and c cells
module _ (cs xs : List ℕ) (n c : ℕ) (en : total cs ≡ n) (ec : product cs ≡ c) (room : n ≤ length xs) where
  pub intervals_are : intervals (parted cs xs) ≡ c
  intervals_are = sym (cells_lengths (parted cs xs)) ∙ ap product (lengths_parted cs xs (omega arith)) ∙ ec

  -- the bytes of it
  pub held_flat : (f : ℕ → Tile) (size m₀ m₁ level : ℕ) → length cs ≤ 4 → layout size m₀ m₁ level (held cs xs f) ≡ flat size m₀ m₁ level cs (take n xs) (listed c f)
  held_flat f size m₀ m₁ level few =
      let es = parted cs xs in
      let q : joined es ≡ take n xs = joined_parted cs xs ∙ ap (λ m. take m xs) en in
      layout_flat size m₀ m₁ level (held cs xs f) (omega (arith, length_parted cs xs))
      ∙ ap (λ (us : List ℕ). flat size m₀ m₁ level us (joined es) (listed (intervals es) f)) (lengths_parted cs xs (omega arith))
      ∙ ap (λ (us : List ℕ). flat size m₀ m₁ level cs us (listed (intervals es) f)) q
      ∙ ap (λ m. flat size m₀ m₁ level cs (take n xs) (listed m f)) intervals_are

  pub ends_many : length (take n xs) ≡ n
  ends_many = length-take-le n xs room

  pub used_is : (f : ℕ → Tile) → used (take n xs) (listed c f) ≡ 16 + 4 * n + 3 * c
  used_is f = ap₂ (λ a b. 16 + 4 * a + 3 * b) ends_many (length_listed c f)

  -- what was read
  module _ (bs : List ℕ) (m₀ m₁ k level : ℕ) (ns : List Named) (few : k ≤ 4) (many : length cs ≡ k) (small : c ≤ length ns) (fits : 16 + 4 * n + 3 * c ≤ length bs) where
    abbrev tiles : ℕ → Tile
    tiles m = tile (get_or ns m (record { page = 0; level = 0 }))

    pub read_image : Heading m₀ m₁ k level bs → Stands bs 4 (joined (map count_bytes cs)) → Stands bs 16 (joined (map four (take n xs)))
        → Stands bs (16 + 4 * n) (joined (map named_bytes (take c ns))) → Zeros bs (16 + 4 * n + 3 * c) (length bs)
        → bs ≡ layout (length bs) m₀ m₁ level (held cs xs tiles)
    read_image head counted ends cells rest =
        let seen : View m₀ m₁ level cs (take n xs) (listed c tiles) bs = record {
          head =
              first_four bs (omega arith) ∙ ap₂ (λ a b. a ∷ b ∷ get_or bs 2 0 ∷ get_or bs 3 0 ∷ []) head.mark_first head.mark_second
              ∙ ap₂ (λ a b. m₀ ∷ m₁ ∷ a ∷ b ∷ []) (head.keys ∙ sym many) head.named_level;
          counted = counted;
          zeros = subst (λ a. Stands bs (4 + 2 * a) (replicate (16 - (4 + 2 * a)) 0)) (sym many) (zeros_stand bs (4 + 2 * k) 16 (omega arith) (omega arith) head.zeros);
          ends = ends;
          cells =
              subst (λ a. Stands bs (16 + 4 * a) (joined (map tile_bytes (listed c tiles)))) (sym ends_many)
              (subst (λ (us : List ℕ). Stands bs (16 + 4 * n) us) (cells_written c ns small) cells);
          rest = subst (λ a. Stands bs a (replicate (length bs - a) 0)) (sym (used_is tiles)) (zeros_stand bs (16 + 4 * n + 3 * c) (length bs) fits (omega arith) rest);
        } in
        from_view m₀ m₁ level cs (take n xs) (listed c tiles) (omega arith) bs seen (omega (arith, used_is tiles)) ∙ sym (held_flat tiles (length bs) m₀ m₁ level (omega arith))

  -- what was written, string by string
  module _ (f : ℕ → Tile) (m₀ m₁ level : ℕ) (few : length cs ≤ 4) (b₀ b₁ b₂ b₃ b₄ : List ℕ) (fits : 16 + 4 * n + 3 * c ≤ length b₀) where
    abbrev C : List ℕ
    C = joined (map count_bytes cs)

    abbrev Z : List ℕ
    Z = replicate (16 - (4 + 2 * length cs)) 0

    abbrev E : List ℕ
    E = joined (map four (take n xs))

    abbrev T : List ℕ
    T = joined (map tile_bytes (listed c f))

    abbrev R : List ℕ
    R = replicate (length b₀ - (16 + 4 * n + 3 * c)) 0

    head_long : 16 ≡ 0 + length (heading_bytes m₀ m₁ level cs)
    head_long = omega (arith, length-append C Z, counts_long m₀ m₁ level cs xs [] few, gap_long m₀ m₁ level cs xs [] few)

    ends_end : 16 + 4 * n ≡ 16 + length E
    ends_end = omega (arith, ends_long m₀ m₁ level cs (take n xs) [] few, ends_many)

    cells_end : 16 + 4 * n + 3 * c ≡ 16 + 4 * n + length T
    cells_end = omega (arith, cells_long m₀ m₁ level cs xs (listed c f) few, length_listed c f)

    pub written_image : Put b₀ 0 (heading_bytes m₀ m₁ level cs) b₁ → Put b₁ 16 E b₂ → Put b₂ (16 + 4 * n) T b₃ → Put b₃ (16 + 4 * n + 3 * c) R b₄
        → b₄ ≡ layout (length b₀) m₀ m₁ level (held cs xs f)
    written_image head ends cells rest =
        let p₀ = put_more b₂ b₃ b₄ (16 + 4 * n) (16 + 4 * n + 3 * c) T R cells_end cells rest in
        let p₁ = put_more b₁ b₂ b₄ 16 (16 + 4 * n) E (T ++ R) ends_end ends p₀ in
        let p₂ = put_more b₀ b₁ b₄ 0 16 (heading_bytes m₀ m₁ level cs) (E ++ (T ++ R)) head_long head p₁ in
        let e : heading_bytes m₀ m₁ level cs ++ (E ++ (T ++ R)) ≡ flat (length b₀) m₀ m₁ level cs (take n xs) (listed c f) =
        ap (λ (us : List ℕ). m₀ ∷ m₁ ∷ length cs ∷ level ∷ us) (append_assoc C Z (E ++ (T ++ R)))
        ∙ ap (λ u. (m₀ ∷ m₁ ∷ length cs ∷ level ∷ []) ++ (C ++ (Z ++ (E ++ (T ++ replicate (length b₀ - u) 0))))) (sym (used_is f)) in
        put_whole b₀ (flat (length b₀) m₀ m₁ level cs (take n xs) (listed c f)) b₄
        (flat_long m₀ m₁ level cs (take n xs) (listed c f) few (length b₀) (omega (arith, used_is f))) (subst (λ (us : List ℕ). Put b₀ 0 us b₄) e p₂)
        ∙ sym (held_flat f (length b₀) m₀ m₁ level few)
