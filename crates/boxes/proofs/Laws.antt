-- The laws of boxes, from the lemmas.
use Rattle.std.proofs.Common.{◌≡◌, ℕ, suc, ◌+◌, ◌<◌, ◌≤◌, Bool, true, false, List, [], ◌∷◌, length, get_or, drop, set, sym, refl, ap, ◌∙◌, subst, inl, inr, arith, length-append}
use Rattle.std.proofs.lemmas.List.{length-take-le}
use Rattle.std.proofs.lemmas.Bool.{both_ways, and_parts, cases_lt, leb-true}
use Rattle.boxes.specs.Cuts.{Path, In, half, around, same, Cut}
use Rattle.boxes.specs.Points.{Names, Point, path, lows}
use Rattle.boxes.specs.Space.{Lies, box_at}
use Rattle.boxes.specs.Leaves.{Leaf, leaves, few, count}
use Rattle.boxes.specs.Order.{order}
use Rattle.boxes.specs.Directories.{fits, directories, Directory}
use Rattle.boxes.specs.Laws.{ways, BoxLaws, BoxesStand, LeavesStand, OrderStands, ChangesStand, CellsStand, Number, Is, NumbersStand, RootCellsStand, AnyOrder}
use Rattle.boxes.proofs.Cuts.{same_true}
use Rattle.boxes.proofs.Order.{order_names, names_length}
use Rattle.boxes.proofs.Lows.{lows_lower, lows_is, lows_point, path_lows, around_take, length_path, path_same, around_self}
use Rattle.boxes.proofs.Spans.{around_lies, lies_around, lows_upper, span_is}
use Rattle.boxes.proofs.Refine.{around_next, nested, around_trans, refine_new, refine_old}
use Rattle.boxes.proofs.Leaves.{around_half, around_full, leaf_in, in_leaf, leaf_of, leaf_around, one_leaf, leaf_box_of, leaf_cut, few_ends}
use Rattle.boxes.proofs.Levels.{level_leaf, leaf_level, full_paths, distinct_paths, around_front_take}
use Rattle.boxes.proofs.Directories.{around_long, cuts_short, directory_in, in_directory, directory_cut, cut_directory, directory_of, one_directory, coarser, leaf_fits, fits_inherited, ends_parted, ends_joined}
use Rattle.boxes.proofs.Changes.{around_split, same_map, leaf_same, leaves_same, leaf_new, leaf_old, change_count, directories_refine}
use Rattle.boxes.proofs.Cells.{cell_leaf}
use Rattle.boxes.proofs.Ladder.{sibling_leaf}
use Rattle.boxes.proofs.Numbers.{cuts_distinct, same_number}

-- a point lies in one half only
one_half : (b p : Path) (x y : Bool) → around (half b x) p ≡ true → around (half b y) p ≡ true → x ≡ y
one_half [] [] x y i j = absurd (both_ways false refl i)
one_half [] (z ∷ p) x y i j = same_true x z (and_parts (same x z) true i).0 ∙ sym (same_true y z (and_parts (same y z) true j).0)
one_half (u ∷ b) [] x y i j = absurd (both_ways false refl i)
one_half (u ∷ b) (z ∷ p) x y i j = one_half b p x y (and_parts (same u z) (around (half b x) p) i).1 (and_parts (same u z) (around (half b y) p) j).1

module _ (ws ord : List ℕ) (h : Names ws ord) where
  -- lies and around
  abbrev way : List ℕ → Path
  way ps = path ws ord ps

  length_half : (b : Path) (x : Bool) → length b < length ord → length (half b x) ≤ length ord
  length_half b x l = omega (arith, length-append b (x ∷ []))

  halved : (b : Path) (ps : List ℕ) → length b < length ord → Point ws ps → Lies ws ord b ps → (x : Bool) × Lies ws ord (half b x) ps × ((y : Bool) → Lies ws ord (half b y) ps → y ≡ x)
  halved b ps l p w =
      let a = lies_around b ws ord ps h (omega arith) p w in
      elim (around_next b (way ps) a) [
        | inl e ↦ absurd (omega (arith, ap length e, length_path ws ord ps))
        | inr r ↦ (r.0, around_lies (half b r.0) ws ord ps h p r.1, λ y v. one_half b (way ps) y r.0 (lies_around (half b y) ws ord ps h (length_half b y l) p v) r.1)
      ]

  deeper : (b d p : Path) → length b ≤ length d → around b p ≡ true → around d p ≡ true → around b d ≡ true
  deeper b d p l i j = elim (nested b d p i j) [
    | inl k ↦ k
    | inr k ↦ rw (around_full d b (omega (arith, around_long d b k)) k) (around_self d)
  ]

  laws : BoxLaws ws ord
  laws = record {
    whole = λ ps p. around_lies [] ws ord ps h p refl;
    lower = λ b. lows_lower ws ord b;
    upper = λ b l. lows_upper b ws ord h l ∙ ap (λ n. set (lows ws ord b) (get_or ord (length b) 0) (get_or (lows ws ord b) (get_or ord (length b) 0) 0 + n)) (sym (span_is ws ord (suc (length b)) (get_or ord (length b) 0) h));
    halved = halved;
    within = λ b x ps l p w. around_lies b ws ord ps h p (around_half b (way ps) x (lies_around (half b x) ws ord ps h (length_half b x l) p w));
    nested = λ b d ps l m p v w qs q u. around_lies b ws ord qs h q
        (around_trans b d (way qs) (deeper b d (way ps) l (lies_around b ws ord ps h (omega arith) p v) (lies_around d ws ord ps h m p w)) (lies_around d ws ord qs h m q u));
    corner = λ l ps k p i m.
        let e = lows_is (box_at ws ord l ps) ws ord ps h p (around_front_take l (way ps)) i m in
        let n = length-take-le l (way ps) (omega (arith, length_path ws ord ps)) in
        rw (span_is ws ord l i h) (rw n at e);
    covers = λ l ps k p. around_lies (box_at ws ord l ps) ws ord ps h p (around_front_take l (way ps));
    start = λ b l. (lows_point ws ord b h, around_lies b ws ord (lows ws ord b) h (lows_point ws ord b h) (path_lows b ws ord h l));
    again = λ b ps l p w. sym (around_take b (way ps) (lies_around b ws ord ps h l p w));
    inner = λ b d ps a l p w. around_lies b ws ord ps h p (around_trans b d (way ps) a (lies_around d ws ord ps h l p w));
    point = λ b ps qs l p q v w. path_same ws ord ps qs h p q
        (around_full b (way ps) (length_path ws ord ps ∙ sym l) (lies_around b ws ord ps h (omega arith) p v)
        ∙ sym (around_full b (way qs) (length_path ws ord qs ∙ sym l) (lies_around b ws ord qs h (omega arith) q w)));
  }

pub boxes_stand : BoxesStand
boxes_stand ws ord h = laws ws ord h

pub order_stands : OrderStands
order_stands ws = (order_names ws, names_length ws (order ws) (order_names ws))

pub leaves_stand : LeavesStand
leaves_stand ws ord h c pos hs all dis =
    let n = length ord in
    let full = full_paths ws ord hs in
    let apart = distinct_paths ws ord h hs all dis in
    let short : (d : Path) → In d (leaves n c (ways ws ord hs)) → length d ≤ n = λ d i. cuts_short n (few c (ways ws ord hs)) (few c (ways ws ord hs) []) d i in
    record {
      listed = leaf_in n c (ways ws ord hs) full apart pos;
      only = in_leaf n c (ways ws ord hs) full apart pos;
      once = cuts_distinct n (few c (ways ws ord hs)) (few c (ways ws ord hs) []);
      one = λ ps p.
          let b = leaf_box_of n c (ways ws ord hs) (path ws ord ps) in
          let a = leaf_around n c (ways ws ord hs) (path ws ord ps) in
          let l = leaf_of n c (ways ws ord hs) full apart pos (path ws ord ps) (length_path ws ord ps) in
          (b, l, around_lies b ws ord ps h p a, λ d k m w. one_leaf c (ways ws ord hs) d b (path ws ord ps) m l (lies_around d ws ord ps h k p w) a);
      level = λ ps l p k v. level_leaf ws ord h c hs all ps p l k v;
      level_back = λ ps l p k v. leaf_level ws ord h c hs all ps p l k v;
      crowded = λ b l k. elim (cases_lt (length b) n) [
        | inl m ↦ m
        | inr m ↦ absurd (omega (arith, leb-true (count b (ways ws ord hs)) c (few_ends n c (ways ws ord hs) full apart pos b (omega arith))))
      ];
      one_directory = λ ps p.
          let r = directory_of ws ord (leaves n c (ways ws ord hs)) short (path ws ord ps) (length_path ws ord ps) in
          (r.0, r.1, around_lies r.0 ws ord ps h p r.2, λ d k m w. one_directory ws ord (leaves n c (ways ws ord hs)) d r.0 (path ws ord ps) m r.1 (lies_around d ws ord ps h k p w) r.2);
      listed_directory = directory_in ws ord (leaves n c (ways ws ord hs)) short;
      short = short;
      short_directory = λ b i. cuts_short n (fits ws ord (leaves n c (ways ws ord hs))) (fits ws ord (leaves n c (ways ws ord hs)) []) b i;
      coarse = λ e d ps l k p de ld v w. coarser (few c (ways ws ord hs)) (fits ws ord (leaves n c (ways ws ord hs)))
          (λ b q. leaf_fits ws ord n (few c (ways ws ord hs)) (few_ends n c (ways ws ord hs) full apart pos) b q) e d (path ws ord ps)
          (directory_cut ws ord (leaves n c (ways ws ord hs)) e de) (leaf_cut c (ways ws ord hs) d ld) (lies_around e ws ord ps h l p v) (lies_around d ws ord ps h k p w);
      only_directory = in_directory ws ord (leaves n c (ways ws ord hs)) short;
      once_directory = cuts_distinct n (fits ws ord (leaves n c (ways ws ord hs))) (fits ws ord (leaves n c (ways ws ord hs)) []);
      leaf_fits = λ b l. leaf_fits ws ord n (few c (ways ws ord hs)) (few_ends n c (ways ws ord hs) full apart pos) b (leaf_cut c (ways ws ord hs) b l);
      half_fits = fits_inherited ws ord (leaves n c (ways ws ord hs));
      parted = λ b no' i e k. ends_parted ws ord (leaves n c (ways ws ord hs)) b i e (λ m. no' (in_leaf n c (ways ws ord hs) full apart pos b m)) k;
      joined = ends_joined ws ord (leaves n c (ways ws ord hs));
    }

pub cells_stand : CellsStand
cells_stand ws ord h c hs ps qs p q b d l leaf a w v cell =
    let e = drop (length b) d in
    let cut = around_split b d a in
    let short : length b ≤ length ord = omega (arith, around_long b d a) in
    around_lies d ws ord qs h q (subst (λ u. around u (path ws ord qs) ≡ true) (sym cut)
    (cell_leaf ws ord ps qs (few c (ways ws ord hs)) h p q e b (subst (Cut (few c (ways ws ord hs))) cut (leaf_cut c (ways ws ord hs) d leaf)) (subst (λ u. length u ≤ length ord) cut l)
    (subst (λ u. around u (path ws ord ps) ≡ true) cut (lies_around d ws ord ps h l p w)) (lies_around b ws ord qs h short q v) cell))

pub changes_stand : ChangesStand
changes_stand ws ord h c pos hs gs x s all dis all' dis' px d leaf here =
    let n = length ord in
    let H = ways ws ord hs in
    let G = ways ws ord gs in
    let way_x = path ws ord x in
    let same' = same_map (path ws ord) hs (x ∷ gs) s in
    let full = full_paths ws ord hs in
    let full' = full_paths ws ord gs in
    let dp = distinct_paths ws ord h hs all dis in
    let dp' = distinct_paths ws ord h gs all' dis' in
    let short : length d ≤ n = omega (arith, around_long d way_x here, length_path ws ord x) in
    record {
      more = leaf_new c H G way_x d same' leaf here;
      fewer = leaf_old c H G way_x d same' leaf here;
      number = λ e le ae. change_count n c H G way_x d e same' (length_path ws ord x) full dp pos leaf here le ae;
      sibling = λ b y a m k.
          let cut = around_split d b a in
          leaf_same c (way_x ∷ G) H (half b y) (λ f. sym (same' f)) (subst (λ u. Leaf c (way_x ∷ G) (half u y)) (sym cut)
          (sibling_leaf c G way_x d (drop (length d) b) y leaf.few_in
          (subst (λ u. c < count u (way_x ∷ G)) cut (subst (λ j. c < j) (same' (around b)) m))
          (subst (λ u. around (half u y) way_x ≡ false) cut k)));
      more_directories = λ e de ae b k.
          elim (refine_new (fits ws ord (leaves n c G)) (fits ws ord (leaves n c H)) e (directories_refine c H G way_x d same' leaf here ws ord e full' dp' pos short de ae) b (directory_cut ws ord (leaves n c H) b k))
          [ inl r ↦ inl (cut_directory ws ord (leaves n c G) b r.0, r.1) | inr r ↦ inr r ];
      fewer_directories = λ e de ae b k.
          elim (refine_old (fits ws ord (leaves n c G)) (fits ws ord (leaves n c H)) e (directories_refine c H G way_x d same' leaf here ws ord e full' dp' pos short de ae) b (directory_cut ws ord (leaves n c G) b k))
          [ inl r ↦ inl r | inr r ↦ inr (cut_directory ws ord (leaves n c H) b r.0, r.1) ];
    }

one_number : (P : Path → Type 0) (m n : ℕ) → Number P m → Number P n → m ≡ n
one_number P m n x y = sym x.long ∙ same_number x.boxes y.boxes x.once y.once (λ b i. y.all_in b (x.no_more b i)) (λ b i. x.all_in b (y.no_more b i)) ∙ y.long

is : (P : Path → Type 0) (n : ℕ) → Number P n → Is P n
is P n x = (x, λ m y. one_number P m n y x)

pub numbers_stand : NumbersStand
numbers_stand ws ord h c pos hs all dis =
    let n = length ord in
    let l = leaves_stand ws ord h c pos hs all dis in
    let ls = leaves n c (ways ws ord hs) in
    let s = few c (ways ws ord hs) in
    let u = fits ws ord ls in (
      is (Leaf c (ways ws ord hs)) (length ls) (record { boxes = ls; once = cuts_distinct n s (s []); all_in = l.listed; no_more = l.only; long = refl }),
      is (Directory ws ord ls) (length (directories ws ord ls)) (record { boxes = directories ws ord ls; once = cuts_distinct n u (u []); all_in = l.listed_directory; no_more = l.only_directory; long = refl }),
    )

pub root_cells_stand : RootCellsStand
root_cells_stand ws ord h ls ps qs p q e l d w cell =
    around_lies e ws ord qs h q (cell_leaf ws ord ps qs (fits ws ord ls) h p q e [] (directory_cut ws ord ls e d) l (lies_around e ws ord ps h l p w) refl cell)

pub any_order : AnyOrder
any_order ws ord c hs gs s =
    let k = same_map (path ws ord) hs gs s in
    (leaves_same (length ord) c (ways ws ord hs) (ways ws ord gs) k, λ b. leaf_same c (ways ws ord hs) (ways ws ord gs) b k)
