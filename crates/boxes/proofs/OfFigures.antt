-- The figures of a set of points, from the survey of the whole space.
use Rattle.std.proofs.Common.{◌≡◌, ℕ, ◌+◌, ◌^◌, ◌<◌, ◌≤◌, Bool, ◌&&◌, leb, List, [], map, length, get_or, take, set, sym, ap, ap₂, ◌∙◌, inl, inr, arith, pow_mono}
use mathlib.Core.Path.{fun_ext}
use mathlib.Core.List.{map-map}
use Rattle.std.specs.List.Sorted.{IsPermutation}
use Rattle.std.proofs.lemmas.List.{get_or-set_same, get_or-set_other, get_or-take, length-take}
use Rattle.std.proofs.lemmas.Bool.{cases_eq}
use Rattle.boxes.specs.declared.figures.Figures.{Figures}
use Rattle.boxes.specs.declared.grid_box.GridBox.{GridBox}
use Rattle.boxes.specs.declared.keys.Keys.{Keys}
use Rattle.boxes.specs.declared.space.Space.{Space}
use Rattle.boxes.specs.declared.survey.Survey.{Survey}
use Rattle.boxes.specs.Counts.{Countable}
use Rattle.boxes.specs.Cuts.{Path, cuts, around}
use Rattle.boxes.specs.Directories.{boundaries, cells, directories, ends, fits, limits}
use Rattle.boxes.specs.Figures.{figures}
use Rattle.boxes.specs.GridBoxes.{box_of, IsBox}
use Rattle.boxes.specs.KeyLists.{keys_of, way_of}
use Rattle.boxes.specs.Leaves.{few, leaves}
use Rattle.boxes.specs.Points.{lows, path}
use Rattle.boxes.specs.Spaces.{widths_of, order_of}
use Rattle.boxes.specs.Surveys.{Surveyed}
use Rattle.boxes.proofs.Cuts.{in_map_back}
use Rattle.boxes.proofs.Differing.{few_different}
use Rattle.boxes.proofs.DirectoryCount.{boundaries_same, cells_same}
use Rattle.boxes.proofs.Halvings.{cuts_bound}
use Rattle.boxes.proofs.Lows.{lows_below}
use Rattle.boxes.proofs.OfBoxes.{names}
use Rattle.boxes.proofs.OfRoots.{as_whole, all_leaves, all_directories, whole_leaves, whole_directories}
use Rattle.boxes.proofs.Tallies.{same_shuffled, tally_map}

-- the points in another order have the same boxes
module _ (s : Space) (c : ℕ) (ps qs : List Keys) (h : IsPermutation ps qs) where
  leaves_shuffled : all_leaves s c ps ≡ all_leaves s c qs
  leaves_shuffled = ap (λ f. cuts (length (order_of s)) f (f [])) (fun_ext (λ b. ap (λ m. leb m c)
      (tally_map (around b) (way_of s) ps ∙ same_shuffled ps qs h (λ p. around b (way_of s p)) ∙ sym (tally_map (around b) (way_of s) qs))))

  pub directories_shuffled : all_directories s c ps ≡ all_directories s c qs
  directories_shuffled = ap (directories (widths_of s) (order_of s)) leaves_shuffled

-- one key more is counted
pub counted_more : (ns : List ℕ) (f : ℕ → ℕ) (key n : ℕ) → key < length ns → n ≡ f key → ((i : ℕ) → i < key → get_or ns i 0 ≡ f i) → (i : ℕ) → i < key + 1 → get_or (set ns key n) i 0 ≡ f i
counted_more ns f key n k e w i h = elim (cases_eq i key) [
  | inl q ↦ rw (q, get_or-set_same ns key n 0 k) e
  | inr ne ↦ rw (get_or-set_other ns key i n 0 ne) (w i (omega arith))
]

-- the figures over any leaf boxes, in any order
abbrev figures_over : List ℕ → List ℕ → List Path → Figures
figures_over ws o ls =
    let ds = directories ws o ls in
    record {
      leaf_boxes = length ls;
      directory_boxes = length ds;
      pages = 8 + length ds + length ls;
      root_boundaries = boundaries (length ws) (ends ws o ds);
      root_cells = cells (length ws) (ends ws o ds);
      root_fits = limits 250 1024 (length ws) (ends ws o ds);
    }

module _ (s : Space) (c : ℕ) (ps : List Keys) where
  abbrev ws : List ℕ
  ws = widths_of s

  abbrev ord : List ℕ
  ord = order_of s

  abbrev root : ℕ → ℕ
  root = ends ws ord (all_directories s c ps)

  -- the root has at most as many lower ends in a key as the key has values
  root_small : (i : ℕ) → root i ≤ 2 ^ get_or ws i 0
  root_small i = few_different (map (λ b. get_or (lows ws ord b) i 0) (all_directories s c ps)) (2 ^ get_or ws i 0) (λ x k.
      let r = in_map_back (λ b. get_or (lows ws ord b) i 0) x (all_directories s c ps) k in
      omega (arith, r.1, lows_below r.0 ws ord (names s) i))

  module _ (ns : List ℕ) (four : length ns ≡ 4) (w : (i : ℕ) → i < s.keys → get_or ns i 0 ≡ root i) where
    abbrev k : ℕ
    k = s.keys

    front : length (take k ns) ≡ s.keys
    front = omega (arith, length-take k ns, s.few)

    at : (i : ℕ) → i < s.keys → get_or (take k ns) i 0 ≡ root i
    at i h = get_or-take k ns i 0 (omega arith) ∙ w i h

    pub root_countable : Countable (take k ns)
    root_countable = (ws, omega (arith, front, s.wide), s.allowed.1, s.allowed.3, λ i h. omega (arith, at i (omega (arith, front)), root_small i))

    keys_are : length (take k ns) ≡ length ws
    keys_are = front ∙ sym s.wide

    same : (i : ℕ) → i < length (take k ns) → get_or (take k ns) i 0 ≡ root i
    same i h = at i (omega (arith, front))

    pub root_boundaries : boundaries (length (take k ns)) (λ i. get_or (take k ns) i 0) ≡ boundaries (length ws) root
    root_boundaries = boundaries_same (length (take k ns)) (λ i. get_or (take k ns) i 0) root same ∙ ap (λ n. boundaries n root) keys_are

    pub root_cells : cells (length (take k ns)) (λ i. get_or (take k ns) i 0) ≡ cells (length ws) root
    root_cells = cells_same (length (take k ns)) (λ i. get_or (take k ns) i 0) root same ∙ ap (λ n. cells n root) keys_are

  pub figures_are : figures_over ws ord (all_leaves s c ps) ≡ figures ws c (map keys_of ps)
  figures_are =
      ap (λ hs. figures_over ws ord (leaves (length ord) c hs)) (sym (map-map (path ws ord) keys_of ps))
      ∙ ap (λ o. figures_over ws o (leaves (length o) c (map (path ws o) (map keys_of ps)))) s.ordered

  pub figures_made : (l d b n : ℕ) (f : Bool) → l ≡ length (all_leaves s c ps) → d ≡ length (all_directories s c ps) → b ≡ boundaries (length ws) root → n ≡ cells (length ws) root → f ≡ (leb b 250 && leb n 1024)
      → record { leaf_boxes = l; directory_boxes = d; pages = 8 + d + l; root_boundaries = b; root_cells = n; root_fits = f } ≡ figures ws c (map keys_of ps)
  figures_made l d b n f el ed eb en ef =
      (λ i. record { leaf_boxes = el i; directory_boxes = ed i; pages = 8 + ed i + el i; root_boundaries = eb i; root_cells = en i; root_fits = (ef ∙ ap₂ (λ x y. leb x 250 && leb y 1024) eb en) i })
      ∙ figures_are

  -- what the survey of the whole space found
  module _ (g : GridBox) (b : IsBox s [] g) (x : Survey) (f : Surveyed g.space.now g.level (box_of g) c ps x) where
    found : Surveyed s 0 [] c ps x
    found = as_whole s g b (λ t m q. Surveyed t m q c ps x) f

    pub leaf_total : x.leaf_boxes ≡ length (all_leaves s c ps)
    leaf_total = found.leaf_number ∙ ap length (whole_leaves s c ps)

    pub directory_total : x.directory_boxes ≡ length (all_directories s c ps)
    directory_total = found.directory_number ∙ ap length (whole_directories s c ps)

    pub totals_fit : (x.leaf_boxes ≤ 1152921504606846976) × (x.directory_boxes ≤ 1152921504606846976)
    totals_fit =
        let few_in = few c (map (way_of s) ps) in
        let keeps = fits ws ord (all_leaves s c ps) in
        let small = pow_mono {i = length ord} {j = 60} (omega (arith, s.long, s.short)) in
        (omega (arith, leaf_total, cuts_bound (length ord) few_in (few_in [])), omega (arith, directory_total, cuts_bound (length ord) keeps (keeps [])))

-- in another order the points have the same figures
pub figures_shuffled : (s : Space) (c : ℕ) (ps qs : List Keys) → IsPermutation ps qs → figures (widths_of s) c (map keys_of qs) ≡ figures (widths_of s) c (map keys_of ps)
figures_shuffled s c ps qs h = sym (figures_are s c qs) ∙ ap (figures_over (widths_of s) (order_of s)) (sym (leaves_shuffled s c ps qs h)) ∙ figures_are s c ps
