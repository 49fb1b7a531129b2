-- The pages of a grid just made stand for the empty set.
use Rattle.std.proofs.Common.{◌≡◌, ℕ, zero, suc, ◌<◌, ◌≤◌, Bool, true, leb, ◌⊎◌, List, [], ◌∷◌, length, get_or, filter, sym, refl, ap, ◌∙◌, subst, subst₂, inl, inr, arith}
use Rattle.std.proofs.lemmas.Bool.{both_ways, and_from, le-leb, cases_lt, cases_eq}
use Rattle.std.proofs.lemmas.Nat.{pow_pos, mul-le}
use Rattle.boxes.specs.Cuts.{Path, around, cuts}
use Rattle.boxes.specs.Points.{Names, Point, zeros}
use Rattle.boxes.specs.Space.{box_at}
use Rattle.boxes.specs.Leaves.{few}
use Rattle.boxes.specs.Directories.{boundaries, cells, ends, fits, Directory, directories}
use Rattle.boxes.specs.Laws.{BoxesStand, OrderStands}
use Rattle.kinds.specs.Meaning.{Meaning, Lawful}
use Rattle.images.specs.Directory.{Tile, tile_at, RootBytes, DirectoryPage}
use Rattle.images.specs.Laws.{OneCellStands, OneRoot, OneDirectory}
use Rattle.promise.specs.Determined.{leaf_boxes, directory_boxes, IsLeaf, IsDirectory}
use Rattle.promise.specs.State.{State, size_of, page, root_pages, BucketBytes, DirectoryAt, LeafAt, Stands}
use Rattle.promise.specs.Calls.{Holds, Serves}
use Rattle.promise.specs.Fresh.{plain, Fresh, FreshStands}
use Rattle.promise.specs.declared.memory.Memory.{Memory}

-- the limits where each key has at most one lower end
ones_inner : (k : ℕ) (n : ℕ → ℕ) → ((i : ℕ) → n i ≤ 1) → boundaries k n ≡ 0
ones_inner zero n w = refl
ones_inner (suc k) n w = omega (arith, w k, ones_inner k n w)

ones_cells : (k : ℕ) (n : ℕ → ℕ) → ((i : ℕ) → n i ≤ 1) → cells k n ≤ 1
ones_cells zero n w = omega arith
ones_cells (suc k) n w = omega (arith, mul-le (n k) (cells k n) 1 1 (w k) (ones_cells k n w))

whole_fits : (ws ord : List ℕ) (b : Path) → fits ws ord ([] ∷ []) b ≡ true
whole_fits ws ord b =
    let n = ends ws ord (filter (λ d. around b d) ([] ∷ [])) in
    and_from (leb (boundaries (length ws) n) 60) (leb (cells (length ws) n) 80)
    (le-leb (boundaries (length ws) n) 60 (omega (arith, ones_inner (length ws) n (few_ends b))))
    (le-leb (cells (length ws) n) 80 (omega (arith, ones_cells (length ws) n (few_ends b))))
  where
    few_ends : (d : Path) (i : ℕ) → ends ws ord (filter (λ e. around d e) ([] ∷ [])) i ≤ 1
    few_ends [] i = omega arith
    few_ends (x ∷ d) i = omega arith

cuts_here : (n : ℕ) (s : Path → Bool) → cuts n s true ≡ [] ∷ []
cuts_here zero s = refl
cuts_here (suc n) s = refl

one_leaf_box : (m : Meaning) → leaf_boxes m [] ≡ [] ∷ []
one_leaf_box m = ap (λ t. cuts (length m.halvings) (few m.capacity []) t) (le-leb 0 m.capacity (omega arith)) ∙ cuts_here (length m.halvings) (few m.capacity [])

one_directory_box : (m : Meaning) → directory_boxes m [] ≡ [] ∷ []
one_directory_box m =
    ap (directories m.widths m.halvings) (one_leaf_box m)
    ∙ ap (λ t. cuts (length m.halvings) (fits m.widths m.halvings ([] ∷ [])) t) (whole_fits m.widths m.halvings []) ∙ cuts_here (length m.halvings) (fits m.widths m.halvings ([] ∷ []))

whole_leaf : (m : Meaning) → IsLeaf m [] []
whole_leaf m = record { few_in = omega arith; first = inl refl }

only_leaf : (m : Meaning) (b : Path) → IsLeaf m [] b → b ≡ []
only_leaf m b l = elim l.first [ inl e ↦ e | inr r ↦ absurd (omega (arith, r.3)) ]

whole_directory : (m : Meaning) → IsDirectory m [] []
whole_directory m = subst (λ ls. Directory m.widths m.halvings ls []) (sym (one_leaf_box m)) (record { keeps = whole_fits m.widths m.halvings []; first = inl refl })

only_directory : (m : Meaning) (b : Path) → IsDirectory m [] b → b ≡ []
only_directory m b d =
    let k : Directory m.widths m.halvings ([] ∷ []) b = subst (λ ls. Directory m.widths m.halvings ls b) (one_leaf_box m) d in
    elim k.first [ inl e ↦ e | inr r ↦ absurd (both_ways (fits m.widths m.halvings ([] ∷ []) r.0) r.3 (whole_fits m.widths m.halvings r.0)) ]

zeros_at : (ws : List ℕ) (i : ℕ) → get_or (zeros ws) i 0 ≡ 0
zeros_at [] i = refl
zeros_at (w ∷ ws) zero = refl
zeros_at (w ∷ ws) (suc i) = zeros_at ws i

zeros_long : (ws : List ℕ) → length (zeros ws) ≡ length ws
zeros_long [] = refl
zeros_long (w ∷ ws) = ap suc (zeros_long ws)

pub zero_point : (ws : List ℕ) → Point ws (zeros ws)
zero_point ws = record { long = zeros_long ws; inside = λ i _. omega (arith, zeros_at ws i, pow_pos (get_or ws i 0)) }

module _ (boxes : BoxesStand) (order : OrderStands) (cells : OneCellStands) (roots : OneRoot) (images : OneDirectory) (m : Meaning) (law : Lawful m) (st : State) (mem : Memory) (f : Fresh m st mem) where
  abbrev ws : List ℕ
  ws = m.widths

  abbrev ord : List ℕ
  ord = m.halvings

  -- every cell names the page for the whole space
  plain_tile : (pg : ℕ) → 8 ≤ pg → (p : List ℕ) → tile_at (plain m pg) p ≡ record { page = pg; level = 0 }
  plain_tile pg l p = (cells ws ord (suc pg) 0 1 pg (omega arith) l (omega arith)).1 p

  root_read : RootBytes ws ord (size_of st) (plain m 8) (root_pages st)
  root_read = record { laid_out = f.root; lawful = (cells ws ord (size_of st) 250 1024 8 (omega arith) (omega arith) (omega (arith, f.enough))).0 }

  image_read : DirectoryPage ws ord (size_of st) [] (plain m 9) (page st 8)
  image_read = record { laid_out = f.directory; lawful = (cells ws ord (size_of st) 60 80 9 (omega arith) (omega arith) (omega (arith, f.enough))).0 }

  directory_is : (b : Path) (pg : ℕ) → DirectoryAt m st b pg → (b ≡ []) × (pg ≡ 8)
  directory_is b pg d =
      let e = roots ws ord (size_of st) (size_of st) d.root (plain m 8) (root_pages st) law.few_keys d.read root_read in
      let t : tile_at d.root d.point ≡ record { page = 8; level = 0 } = ap (λ i. tile_at i d.point) e ∙ plain_tile 8 (omega arith) d.point in
      (d.box ∙ ap (λ (u : Tile). box_at ws ord u.level d.point) t, d.names ∙ ap (λ (u : Tile). u.page) t)

  leaf_is : (b : Path) (pg : ℕ) → LeafAt m st b pg → (b ≡ []) × (pg ≡ 9)
  leaf_is b pg l =
      let up = directory_is l.above l.above_page l.directory in
      let read : DirectoryPage ws ord (size_of st) l.above l.image (page st 8) = subst (λ k. DirectoryPage ws ord (size_of st) l.above l.image (page st k)) up.1 l.read in
      let e = (images ws ord (size_of st) (size_of st) l.above [] l.image (plain m 9) (page st 8) law.few_keys read image_read).0 in
      let t : tile_at l.image l.point ≡ record { page = 9; level = 0 } = ap (λ i. tile_at i l.point) e ∙ plain_tile 9 (omega arith) l.point in
      (l.box ∙ ap (λ (u : Tile). box_at ws ord u.level l.point) t, l.names ∙ ap (λ (u : Tile). u.page) t)

  the_directory : DirectoryAt m st [] 8
  the_directory =
      let t = plain_tile 8 (omega arith) (zeros ws) in
      record {
        root = plain m 8;
        read = root_read;
        point = zeros ws;
        valid = zero_point ws;
        box = sym (ap (λ (u : Tile). box_at ws ord u.level (zeros ws)) t);
        names = sym (ap (λ (u : Tile). u.page) t);
      }

  the_leaf : LeafAt m st [] 9
  the_leaf =
      let t = plain_tile 9 (omega arith) (zeros ws) in
      record {
        above = [];
        above_page = 8;
        directory = the_directory;
        image = plain m 9;
        read = image_read;
        point = zeros ws;
        valid = zero_point ws;
        within = (boxes ws ord (subst (Names ws) (sym law.in_rounds) (order ws).0)).whole (zeros ws) (zero_point ws);
        box = sym (ap (λ (u : Tile). box_at ws ord u.level (zeros ws)) t);
        names = sym (ap (λ (u : Tile). u.page) t);
      }

  the_bucket : BucketBytes m [] [] (page st 9)
  the_bucket = record { holds = record { laid_out = f.bucket; few = omega arith; sized = λ j l. absurd (omega arith) }; records = λ j l. absurd (omega arith); apart = λ i j l k e. absurd (omega arith) }

  stands : Stands m st []
  stands = record {
    directories = λ b k. (8, subst (λ d. DirectoryAt m st d 8) (sym (only_directory m b k)) the_directory);
    no_other_directories = λ b pg k. subst (IsDirectory m []) (sym (directory_is b pg k).0) (whole_directory m);
    leaves = λ b k. (9, subst (λ d. LeafAt m st d 9) (sym (only_leaf m b k)) the_leaf);
    no_other_leaves = λ b pg k. subst (IsLeaf m []) (sym (leaf_is b pg k).0) (whole_leaf m);
    contents = λ b pg k. let e = leaf_is b pg k in
        ([], subst₂ (λ d n. BucketBytes m d [] (page st n)) (sym e.0) (sym e.1) the_bucket, λ r. ((λ i. absurd i), (λ i _. i)));
    one_directory_page = λ b pg pg' k l. (directory_is b pg k).1 ∙ sym (directory_is b pg' l).1;
    own_directory_page = λ b b' pg k l. (directory_is b pg k).0 ∙ sym (directory_is b' pg l).0;
    one_bucket_page = λ b pg pg' k l. (leaf_is b pg k).1 ∙ sym (leaf_is b pg' l).1;
    own_bucket_page = λ b b' pg k l. (leaf_is b pg k).0 ∙ sym (leaf_is b' pg l).0;
    never_both = λ b b' pg k l. absurd (omega (arith, (directory_is b pg k).1, (leaf_is b' pg l).1));
  }

  page_is : (j : ℕ) → Serves m st j → j < 10
  page_is j (b, inl d) = omega (arith, (directory_is b j d).1)
  page_is j (b, inr l) = omega (arith, (leaf_is b j l).1)

  in_use : (j : ℕ) → j < 10 → (j < 8) ⊎ Serves m st j
  in_use j l = elim (cases_lt j 8) [
    | inl k ↦ inl k
    | inr k ↦ elim (cases_eq j 8) [
      | inl e ↦ inr ([], inl (subst (λ n. DirectoryAt m st [] n) (sym e) the_directory))
      | inr n ↦ let e : j ≡ 9 = omega arith in inr ([], inr (subst (λ k. LeafAt m st [] k) (sym e) the_leaf))
    ]
  ]

  holds : Holds m st []
  holds = record {
    mem = mem;
    made = f.made;
    whole_pages = f.whole_pages;
    records = λ r i. absurd i;
    no_two = tt;
    copied = subst (λ img. RootBytes ws ord (size_of st) img (root_pages st)) (sym f.copied) root_read;
    stands = stands;
    marked = λ j l k. in_use j (f.marks j l k);
    all_marked = λ j k. f.all_marks j (page_is j k);
    root_marked = λ j l. f.all_marks j (omega arith);
    counted = (f.one_directory ∙ ap length (sym (one_directory_box m)), f.one_leaf ∙ ap length (sym (one_leaf_box m)));
  }

pub fresh_stands : BoxesStand → OrderStands → OneCellStands → OneRoot → OneDirectory → FreshStands
fresh_stands boxes order cells roots images m law st mem f = (holds boxes order cells roots images m law st mem f, page_is boxes order cells roots images m law st mem f)
