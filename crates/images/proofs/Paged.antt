-- The leaf boxes in a directory box tile it, and the directory boxes tile the space.
use Rattle.std.proofs.Common.{◌≡◌, ℕ, ◌<◌, ◌≤◌, Bool, true, List, [], ◌∷◌, length, filter, sym, refl, ap, ◌∙◌, subst, arith}
use Rattle.boxes.specs.Cuts.{Path, In, around, cuts, Cut, Ends}
use Rattle.boxes.specs.Points.{Names, path}
use Rattle.boxes.specs.Space.{Lies}
use Rattle.boxes.specs.Leaves.{Leaf, leaves, few}
use Rattle.boxes.specs.Directories.{Directory, directories, fits, ends, limits}
use Rattle.boxes.specs.Laws.{ways}
use Rattle.boxes.proofs.Cuts.{in_map, in_map_back, cuts_cut, cut_cuts, one_cut, cut_box_around, cut_around, around_cut}
use Rattle.boxes.proofs.Distinct.{in_kept, kept_in}
use Rattle.boxes.proofs.Lows.{length_path}
use Rattle.boxes.proofs.Spans.{around_lies, lies_around}
use Rattle.boxes.proofs.Leaves.{few_ends, leaf_cut, cut_leaf}
use Rattle.boxes.proofs.Levels.{full_paths, distinct_paths}
use Rattle.boxes.proofs.Directories.{cuts_short, fits_ends, leaf_fits, directory_cut, cut_directory, coarser}
use Rattle.images.specs.Tilings.{Piece, Tiling, built}
use Rattle.images.specs.Laws.{PagesStand}
use Rattle.images.specs.Paged.{paged, Shows}
use Rattle.images.proofs.Built.{built_at, built_lawful}
use Rattle.images.proofs.Limits.{limits_kept}

module _ (ws ord : List ℕ) (h : Names ws ord) (s : Path → Bool) (full : Ends (length ord) s) (b : Path) (short : length b ≤ length ord)
    (coarse : (d p : Path) → Cut s d → around b p ≡ true → around d p ≡ true → around b d ≡ true) (page : Path → ℕ) where
  abbrev boxes : List Path
  boxes = filter (around b) (cuts (length ord) s (s []))

  abbrev piece : Path → Piece
  piece d = record { box = d; page = page d }

  is_box : (d : Path) → In d boxes → Cut s d × (around b d ≡ true) × (length d ≤ length ord)
  is_box d i = let r = in_kept (around b) d (cuts (length ord) s (s [])) i in (cuts_cut (length ord) s (s []) refl full d r.0, r.1, cuts_short (length ord) s (s []) d r.0)

  box_is : (d p : Path) → Cut s d → around b p ≡ true → around d p ≡ true → In d boxes
  box_is d p c i j = kept_in (around b) d (cuts (length ord) s (s [])) (cut_cuts (length ord) s (s []) refl full d c) (coarse d p c i j)

  pub cuts_tile : Tiling ws ord b (paged page boxes)
  cuts_tile = record {
    within = λ t it. let r = in_map_back piece t boxes it in subst (λ (u : Piece). around b u.box ≡ true) (sym r.1) (is_box r.0 r.2).1;
    levels = λ t it. let r = in_map_back piece t boxes it in subst (λ (u : Piece). length u.box ≤ length ord) (sym r.1) (is_box r.0 r.2).2;
    one = λ p pp w.
        let a = lies_around b ws ord p h short pp w in
        let d = cut_box_around (length ord) s (s []) (path ws ord p) in
        let ad = around_cut (length ord) s (s []) (path ws ord p) in
        let c = cut_around (length ord) s (s []) refl full (path ws ord p) (length_path ws ord p) in (
          piece d,
          in_map piece d boxes (box_is d (path ws ord p) c a ad),
          around_lies d ws ord p h pp ad,
          λ u iu v.
              let r = in_map_back piece u boxes iu in
              let q = is_box r.0 r.2 in
              let ae = lies_around r.0 ws ord p h q.2 pp (subst (λ (z : Piece). Lies ws ord z.box p) r.1 v) in
              r.1 ∙ ap piece (one_cut s r.0 d (path ws ord p) q.0 c ae ad),
        );
  }

  pub cuts_show : (n x y : ℕ) (Box : Path → Type 0) → ((d : Path) → Box d → Cut s d) → ((d : Path) → Cut s d → (8 ≤ page d) × (page d < n)) → limits x y (length ws) (ends ws ord boxes) ≡ true
      → Shows ws ord b n x y page Box (built ws ord b (paged page boxes))
  cuts_show n x y Box is_cut pages lim =
      let k = limits_kept ws ord h b short page boxes cuts_tile x y lim in
      record {
        lawful = built_lawful ws ord h b (paged page boxes) cuts_tile short n x y
            (λ t it. let r = in_map_back piece t boxes it in subst (λ (u : Piece). (8 ≤ u.page) × (u.page < n)) (sym r.1) (pages r.0 (is_box r.0 r.2).0)) k.0 k.1;
        names = λ p pp w d bd l v.
            let a = lies_around d ws ord p h l pp v in
            built_at ws ord h b (paged page boxes) cuts_tile short p pp w (piece d)
            (in_map piece d boxes (box_is d (path ws ord p) (is_cut d bd) (lies_around b ws ord p h short pp w) a)) a;
      }

-- every box is in the whole space
kept_all : (bs : List Path) → filter (around []) bs ≡ bs
kept_all [] = refl
kept_all (b ∷ bs) = ap (λ (us : List Path). b ∷ us) (kept_all bs)

pub pages_stand : PagesStand
pages_stand ws ord h c pos hs all dis n page =
    let H = ways ws ord hs in
    let ls = leaves (length ord) c H in
    let s = few c H in
    let u = fits ws ord ls in
    let full = few_ends (length ord) c H (full_paths ws ord hs) (distinct_paths ws ord h hs all dis) pos in
    let ends_u = fits_ends (length ord) ws ord ls (λ d i. cuts_short (length ord) s (s []) d i) in
    record {
      directory = λ pages b short dir.
          cuts_show ws ord h s full b short (λ d p k i j. coarser s u (λ e m. leaf_fits ws ord (length ord) s full e m) b d p (directory_cut ws ord ls b dir) k i j) page n 60 80
          (Leaf c H) (λ d l. leaf_cut c H d l) (λ d k. pages d (cut_leaf c H d k)) dir.keeps;
      root = λ pages lim.
          subst (λ (bs : List Path). Shows ws ord [] n 250 1024 page (Directory ws ord ls) (built ws ord [] (paged page bs))) (kept_all (directories ws ord ls))
          (cuts_show ws ord h u ends_u [] (omega arith) (λ d p k i j. refl) page n 250 1024
          (Directory ws ord ls) (λ d l. directory_cut ws ord ls d l) (λ d k. pages d (cut_directory ws ord ls d k))
          (subst (λ (bs : List Path). limits 250 1024 (length ws) (ends ws ord bs) ≡ true) (sym (kept_all (directories ws ord ls))) lim));
    }
