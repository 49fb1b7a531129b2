-- What the walks read, over pages that stand for a set.
use Rattle.std.proofs.Common.{◌≡◌, ℕ, ◌+◌, ◌-◌, ◌*◌, ◌^◌, ◌≤◌, min, true, ◌&&◌, List, [], ◌∷◌, length, get_or, Some, sym, refl, ◌∙◌, subst, ap₂, subst₂, inl, inr, arith}
use Rattle.std.proofs.lemmas.Nat.{mul-le}
use Rattle.std.proofs.lemmas.List.{length-map}
use Rattle.std.proofs.lemmas.Bool.{and_parts}
use Rattle.boxes.specs.Cuts.{Path, In, around}
use Rattle.boxes.specs.GridBoxes.{lows_of, box_of}
use Rattle.boxes.specs.Laws.{ways, leaf_list}
use Rattle.boxes.specs.Leaves.{tally, total, Full, few}
use Rattle.boxes.specs.Points.{Names, Point, path}
use Rattle.boxes.specs.Space.{Lies, box_at}
use Rattle.boxes.specs.Spaces.{widths_of, order_of}
use Rattle.boxes.specs.declared.grid_box.GridBox.{GridBox}
use Rattle.boxes.specs.declared.space.Space.{Space}
use Rattle.boxes.proofs.Leaves.{tally_weaker}
use Rattle.boxes.proofs.Lows.{length_path}
use Rattle.boxes.proofs.OfBoxes.{names}
use Rattle.boxes.proofs.Totals.{every_once}
use Rattle.buckets.proofs.BucketRooms.{capacity_small}
use Rattle.images.specs.Directory.{Image, tile_at, DirectoryPage, RootBytes}
use Rattle.images.specs.Memory.{image_of}
use Rattle.kinds.specs.Meaning.{Meaning, Lawful}
use Rattle.promise.specs.Calls.{Holds, between, in_range}
use Rattle.promise.specs.Determined.{keys_of, points}
use Rattle.promise.specs.State.{State, size_of, page, root_pages, box_around, BucketBytes, DirectoryBytes, DirectoryAt}
use Rattle.promise.specs.declared.memory.Memory.{Memory}
use Rattle.promise.proofs.Pages.{Below, all_points, at}
use Rattle.promise.proofs.Pages as pages
use Rattle.grid.specs.Sites.{SiteAt}
use Rattle.grid.specs.Walks.{wanted, capped, OfKind, Under, Reads}
use Rattle.grid.specs.declared.opened.Opened.{Opened}
use Rattle.grid.specs.declared.site.Site.{Site}
use Rattle.grid.proofs.Halved.{tally_all, tally_le, tally_length}
use Rattle.grid.proofs.OfWalks.{AsMany, low_point, low_within, box_around_box, of_kind, bucket_count}

full_ways : (ws ord : List ℕ) (ps : List (List ℕ)) → Full (length ord) (ways ws ord ps)
full_ways ws ord [] = tt
full_ways ws ord (p ∷ ps) = (length_path ws ord p, full_ways ws ord ps)

total_le : {A : Type 0} (g : A → ℕ) (c : ℕ) (xs : List A) → ((x : A) → In x xs → g x ≤ c) → total g xs ≤ length xs * c
total_le g c [] w = omega arith
total_le g c (x ∷ xs) w = omega (arith, w x (inl refl), total_le g c xs (λ y i. w y (inr i)))

module _ (m : Meaning) where
  -- the box of a site, in the terms of the kind
  site_box : (s : Space) (n l : ℕ) (ks : List ℕ) (b : Path) → OfKind m s → b ≡ box_at (widths_of s) (order_of s) l ks → b ≡ box_at m.widths m.halvings l ks
  site_box s n l ks b k e = e ∙ ap₂ (λ (ws ord : List ℕ). box_at ws ord l ks) k.0 k.1

  -- a directory page, in the terms of the kind and back
  module _ (s : Space) (k : OfKind m s) (n : ℕ) (ps : List (List ℕ)) (st : State) (size : n ≡ length ps) (e : st.pages ≡ ps) (b : Path) (img : Image) (pg : ℕ) where
    pub page_as : DirectoryPage (widths_of s) (order_of s) n b img (get_or ps pg []) → DirectoryBytes m st b img (page st pg)
    page_as d =
        subst (λ (qs : List (List ℕ)). DirectoryPage m.widths m.halvings (length qs) b img (get_or qs pg [])) (sym e)
        (subst (λ (j : ℕ). DirectoryPage m.widths m.halvings j b img (get_or ps pg [])) size
        (subst₂ (λ (ws ord : List ℕ). DirectoryPage ws ord n b img (get_or ps pg [])) k.0 k.1 d))

    pub page_back : DirectoryBytes m st b img (page st pg) → DirectoryPage (widths_of s) (order_of s) n b img (get_or ps pg [])
    page_back d =
        subst₂ (λ (ws ord : List ℕ). DirectoryPage ws ord n b img (get_or ps pg [])) (sym k.0) (sym k.1)
        (subst (λ (j : ℕ). DirectoryPage m.widths m.halvings j b img (get_or ps pg [])) (sym size)
        (subst (λ (qs : List (List ℕ)). DirectoryPage m.widths m.halvings (length qs) b img (get_or qs pg [])) e d))

  module _ (law : Lawful m) (st : State) (held : List (List ℕ)) (h : Holds m st held) where
    -- the records of a leaf's bucket page, and how many of them are wanted
    pub leaf_found : (ls hs : List ℕ) (n : ℕ) (d : Opened) (g : GridBox) (leaf : Site) → Under n d g → OfKind m g.space.now
        → SiteAt d.inner.space.now d.pages (tile_at (image_of d.image) (lows_of g)) (lows_of g) leaf → leaf.inner.level ≤ g.level
        → Reads m st (box_of d.inner) (image_of d.image)
        → (rs : List (List ℕ)) × BucketBytes m (box_of leaf.inner) rs (page st leaf.page) × AsMany m ls hs (box_of g) rs held
    leaf_found ls hs n d g leaf u kg site le reads =
        let s = d.inner.space.now in
        let ks = lows_of g in
        let t = tile_at (image_of d.image) ks in
        let kd = of_kind m g.space.now s u.space kg in
        let same = site_box s d.pages t.level ks (box_of leaf.inner) kd site.box.1 in
        let a = box_around_box s t.level leaf.inner g (sym u.space) site.box le in
        let low = low_within d.inner g u.space u.inside in
        let names_m = subst₂ (λ (ws ord : List ℕ). Names ws ord) kd.0 kd.1 (names s) in
        let found = bucket_count m law names_m st held h ls hs (box_of d.inner) (image_of d.image) ks (box_of g) reads (subst (λ (ws : List ℕ). Point ws ks) kd.0 low.0)
        (subst₂ (λ (ws ord : List ℕ). Lies ws ord (box_of d.inner) ks) kd.0 kd.1 low.1) (subst (λ (b : Path). around b (box_of g) ≡ true) same a) in
        (found.0, subst₂ (λ (b : Path) (pg : ℕ). BucketBytes m b found.0 (page st pg)) (sym same) (sym site.page) found.1, found.2)

    -- the directory box at a box's lowest corner, by the root image in memory
    module _ (mem : Memory) (is : st.memory ≡ Some mem) (g : GridBox) (kg : OfKind m g.space.now) (space : g.space.now ≡ mem.space) (site : Site)
        (k : SiteAt mem.space mem.pages (tile_at (image_of mem.root) (lows_of g)) (lows_of g) site) where
      mine : h.mem ≡ mem
      mine = let a = h.made.is in let b = is in cc

      km : OfKind m mem.space
      km = of_kind m g.space.now mem.space (sym space) kg

      low_valid : Point m.widths (lows_of g)
      low_valid = subst (λ (ws : List ℕ). Point ws (lows_of g)) kg.0 (low_point g)

      here : box_of site.inner ≡ box_around m (tile_at (image_of mem.root) (lows_of g)) (lows_of g)
      here = site_box mem.space mem.pages (tile_at (image_of mem.root) (lows_of g)).level (lows_of g) (box_of site.inner) km k.box.1

      pub directory_here : DirectoryAt m st (box_of site.inner) site.page
      directory_here = record {
        root = image_of mem.root;
        read = subst (λ (x : Memory). RootBytes m.widths m.halvings (size_of st) (image_of x.root) (root_pages st)) mine h.copied;
        point = lows_of g;
        valid = low_valid;
        box = here;
        names = k.page;
      }

      pub directory_read : Below → (img : Image) × DirectoryBytes m st (box_of site.inner) img (page st site.page)
      directory_read below =
          let a = at below m law st held h (lows_of g) low_valid in
          let r = subst (λ (x : Memory). DirectoryBytes m st (box_around m (tile_at (image_of x.root) (lows_of g)) (lows_of g)) a.image (page st (tile_at (image_of x.root) (lows_of g)).page)) mine a.read in
          (a.image, subst₂ (λ (b : Path) (pg : ℕ). DirectoryBytes m st b a.image (page st pg)) (sym here) (sym k.page) r)

    -- a set has no more records than all leaf boxes take
    pub held_few : Below → length held ≤ 5537792
    held_few below =
        let ws = m.widths in
        let ord = m.halvings in
        let ps = ways ws ord (points m held) in
        let ls = leaf_list ws ord m.capacity (points m held) in
        let laws = below.leaves ws ord (pages.names below m law) m.capacity law.some_room (points m held) (all_points m law held h.records) h.no_two in
        let each : (b : Path) → In b ls → tally (λ p. around b p && true) ps ≤ m.capacity = λ b i.
        omega (arith, (laws.only b i).few_in, tally_weaker (λ p. around b p && true) (around b) (λ p q. (and_parts (around b p) true q).0) ps) in
        let once = every_once (length ord) (few m.capacity ps) (few m.capacity ps []) ps (full_ways ws ord (points m held)) (λ _. true) in
        let sum = total_le (λ b. tally (λ p. around b p && true) ps) m.capacity ls each in
        let fewer : length ls ≤ 32768 = omega (arith, h.counted.1, h.mem.enough, h.mem.most) in
        let most = mul-le (length ls) m.capacity 32768 169 fewer (capacity_small m law) in
        omega (arith, once, sum, most, tally_all ps, length-map (points m held) (path ws ord), length-map held (keys_of m))

    -- the count over the whole space is that of the range
    pub number_whole : Below → (ls hs : List ℕ) (n : ℕ) → n ≡ capped (0 + tally (wanted m ls hs []) held) → n ≡ length (in_range m ls hs held)
    number_whole below ls hs n e =
        let test = λ (x : List ℕ). between ls hs (keys_of m x) in
        omega (arith, e, tally_length test held, tally_le test held, held_few below)

    -- and so many bytes are its records
    pub needed_is : Below → (ls hs : List ℕ) (z number needed : ℕ) → z ≡ m.size → number ≡ length (in_range m ls hs held) → needed ≡ min (z * number) (2 ^ 64 - 1)
        → needed ≡ m.size * length (in_range m ls hs held)
    needed_is below ls hs z number needed e f k =
        let test = λ (x : List ℕ). between ls hs (keys_of m x) in
        let n = length (in_range m ls hs held) in
        let most = mul-le m.size n 252 5537792 law.most_size (omega (arith, tally_length test held, tally_le test held, held_few below)) in
        let fits : min (m.size * n) (2 ^ 64 - 1) ≡ m.size * n = omega (arith, most) in
        k ∙ ap₂ (λ (a b : ℕ). min (a * b) (2 ^ 64 - 1)) e f ∙ fits
