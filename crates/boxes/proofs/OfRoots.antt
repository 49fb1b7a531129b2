-- The survey of the whole space, and the lower ends of its directory boxes in one key.
use Rattle.std.proofs.Common.{◌≡◌, ℕ, ◌-◌, ◌≤◌, List, [], map, length, take, sym, ap, ◌∙◌, subst, arith}
use Rattle.std.specs.List.Sorted.{IsPermutation}
use Rattle.boxes.specs.declared.grid_box.GridBox.{GridBox}
use Rattle.boxes.specs.declared.keys.Keys.{Keys}
use Rattle.boxes.specs.declared.space.Space.{Space}
use Rattle.boxes.specs.declared.survey.Survey.{Survey}
use Rattle.boxes.specs.Cuts.{Path}
use Rattle.boxes.specs.Directories.{directories, distinct, ends}
use Rattle.boxes.specs.GridBoxes.{box_of, IsBox}
use Rattle.boxes.specs.KeyLists.{way_of}
use Rattle.boxes.specs.Fitting.{directories_from}
use Rattle.boxes.specs.Leaves.{leaves}
use Rattle.boxes.specs.Spaces.{widths_of, order_of}
use Rattle.boxes.specs.Surveys.{leaves_in, ends_in, directories_in, Surveyed, Noted}
use Rattle.boxes.proofs.Differing.{same_different, in_shuffled, shuffled_in}
use Rattle.boxes.proofs.OfBoxes.{box_long}

-- what holds of the box that is the whole space
pub as_whole : (s : Space) (g : GridBox) → IsBox s [] g → (P : Space → ℕ → Path → Type 0) → P g.space.now g.level (box_of g) → P s 0 []
as_whole s g b P p =
    subst (λ q. P s 0 q) b.1
    (subst (λ n. P s n (box_of g)) (sym (box_long g) ∙ ap length b.1)
    (subst (λ (t : Space). P t g.level (box_of g)) b.0 p))

module _ (s : Space) (c : ℕ) (ps : List Keys) where
  abbrev pub all_leaves : List Path
  all_leaves = leaves (length (order_of s)) c (map (way_of s) ps)

  abbrev pub all_directories : List Path
  all_directories = directories (widths_of s) (order_of s) all_leaves

  depth_is : s.depth - 0 ≡ length (order_of s)
  depth_is = omega (arith, s.long)

  pub whole_leaves : leaves_in s 0 c ps ≡ all_leaves
  whole_leaves = ap (λ n. leaves n c (map (way_of s) ps)) depth_is

  pub whole_directories : directories_in s 0 [] (leaves_in s 0 c ps) ≡ all_directories
  whole_directories =
      ap (λ ls. directories_in s 0 [] ls) whole_leaves
      ∙ ap (λ n. directories_from (widths_of s) (order_of s) n [] all_leaves) depth_is

  -- the lower ends noted
  module _ (g : GridBox) (b : IsBox s [] g) (key : ℕ) (x : Survey) (found : Surveyed g.space.now g.level (box_of g) c ps x) (r : List ℕ)
      (notes : Noted g.space.now g.level (box_of g) (leaves_in g.space.now g.level c ps) key r) (room : length all_directories ≤ length r) where
    number_is : x.directory_boxes ≡ length all_directories
    number_is = (as_whole s g b (λ t m q. Surveyed t m q c ps x) found).directory_number ∙ ap length whole_directories

    -- so many of them are different
    pub root_counted : (us : List ℕ) → IsPermutation (take x.directory_boxes r) us → length (distinct us) ≡ ends (widths_of s) (order_of s) all_directories key
    root_counted us h =
        let noted = as_whole s g b (λ t m q. Noted t m q (leaves_in t m c ps) key r) notes in
        let front = ap (λ n. take n r) number_is ∙ subst (λ bs. length bs ≤ length r → take (length bs) r ≡ ends_in s [] bs key) whole_directories noted room in
        let h' = subst (λ vs. IsPermutation vs us) front h in
        same_different us (ends_in s [] all_directories key) (in_shuffled (ends_in s [] all_directories key) us h') (shuffled_in (ends_in s [] all_directories key) us h')
