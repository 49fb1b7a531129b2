-- What find does, from what it read.
use Rattle.std.proofs.Common.{◌≡◌, ℕ, List, [], length, get_or, Some, Ok, Err, Option, Result, sym, refl, ap, ◌∙◌, subst}
use Rattle.boxes.specs.Cuts.{Path}
use Rattle.boxes.specs.GridBoxes.{box_of}
use Rattle.boxes.specs.Points.{Point}
use Rattle.boxes.specs.Space.{box_at}
use Rattle.boxes.specs.Spaces.{widths_of, order_of}
use Rattle.boxes.specs.declared.space.Space.{Space}
use Rattle.buckets.specs.Bucket.{BucketOf, BucketPageIn, IsBucketIn}
use Rattle.buckets.specs.Firsts.{FirstWith}
use Rattle.images.specs.Directory.{Image, tile_at, DirectoryPage}
use Rattle.images.specs.Laws.{OneDirectory}
use Rattle.kinds.specs.Meaning.{Meaning, Lawful}
use Rattle.promise.specs.Calls.{Made, Finds, FindsFrom, FindsIn}
use Rattle.promise.specs.State.{State, size_of, page, box_around, DirectoryBytes, BucketBytes}
use Rattle.promise.specs.declared.memory.Memory.{Memory}
use Rattle.promise.specs.declared.refusal.Refusal.{Refusal}
use Rattle.promise.specs.declared.refusal.Refusal.TheVariants.{BadKeys, BrokenPage}
use Rattle.grid.specs.Loads.{root_tile, PageRead}
use Rattle.grid.specs.Sites.{SiteAt}
use Rattle.grid.specs.declared.site.Site.{Site}
use Rattle.grid.proofs.Sited.{at_site, from_site}

module _ (m : Meaning) (law : Lawful m) (st after : State) (stays : after ≡ st) (mem : Memory) (made : Made m st mem) (ks old : List ℕ) where
  -- there is one memory
  mine : (other : Memory) → Made m st other → mem ≡ other
  mine other k = let a = made.is in let b = k.is in cc

  pub bad_keys : (Point (widths_of mem.space) ks → ⊥) → Finds m ks st old (Err BadKeys) old after
  bad_keys n = record {
    stays = stays;
    unmade = λ u. absurd (u mem made);
    bad_keys = λ _ _ _. (refl, refl);
    goes = λ _ _ p. absurd (n (subst (λ (ws : List ℕ). Point ws ks) (sym made.widths) p));
  }

  module _ (p : Point (widths_of mem.space) ks) where
    -- the directory page, in the terms of the kind
    read_as : (img : Image) → PageRead mem st.pages ks img → DirectoryBytes m st (box_around m (root_tile mem ks) ks) img (page st (root_tile mem ks).page)
    read_as img k =
        subst (λ (n : ℕ). DirectoryPage m.widths m.halvings n (box_around m (root_tile mem ks) ks) img (page st (root_tile mem ks).page)) made.size
        (subst (λ (ord : List ℕ). DirectoryPage m.widths ord mem.pages (box_at m.widths ord (root_tile mem ks).level ks) img (page st (root_tile mem ks).page)) made.halvings
        (subst (λ (ws : List ℕ). DirectoryPage ws (order_of mem.space) mem.pages (box_at ws (order_of mem.space) (root_tile mem ks).level ks) img (page st (root_tile mem ks).page)) made.widths k))

    read_back : (img : Image) → DirectoryBytes m st (box_around m (root_tile mem ks) ks) img (page st (root_tile mem ks).page) → PageRead mem st.pages ks img
    read_back img k =
        subst (λ (ws : List ℕ). DirectoryPage ws (order_of mem.space) mem.pages (box_at ws (order_of mem.space) (root_tile mem ks).level ks) img (page st (root_tile mem ks).page)) (sym made.widths)
        (subst (λ (ord : List ℕ). DirectoryPage m.widths ord mem.pages (box_at m.widths ord (root_tile mem ks).level ks) img (page st (root_tile mem ks).page)) (sym made.halvings)
        (subst (λ (n : ℕ). DirectoryPage m.widths m.halvings n (box_around m (root_tile mem ks) ks) img (page st (root_tile mem ks).page)) (sym made.size) k))

    -- what follows from the directory page
    from_directory : (r : Result (Option ℕ) Refusal) (new : List ℕ) → FindsFrom m ks st (box_around m (root_tile mem ks) ks) (root_tile mem ks).page old r new → Finds m ks st old r new after
    from_directory r new f = record {
      stays = stays;
      unmade = λ u. absurd (u mem made);
      bad_keys = λ _ _ n. absurd (n (subst (λ (ws : List ℕ). Point ws ks) made.widths p));
      goes = λ other k _. subst (λ (x : Memory). FindsFrom m ks st (box_around m (root_tile x ks) ks) (root_tile x ks).page old r new) (mine other k) f;
    }

    pub broken_directory : ((img : Image) → PageRead mem st.pages ks img → ⊥) → Finds m ks st old (Err (BrokenPage (root_tile mem ks).page)) old after
    broken_directory none = from_directory (Err (BrokenPage (root_tile mem ks).page)) old (record {
      broken = λ _. (refl, refl);
      sound = λ img k. absurd (none img (read_back img k));
    })

    module _ (one : OneDirectory) (img : Image) (read : PageRead mem st.pages ks img) (leaf : Site) (at : SiteAt mem.space mem.pages (tile_at img ks) ks leaf) where
      -- what follows from the bucket page
      from_bucket : (r : Result (Option ℕ) Refusal) (new : List ℕ) → FindsIn m ks st (box_around m (tile_at img ks) ks) (tile_at img ks).page old r new → Finds m ks st old r new after
      from_bucket r new f = from_directory r new (record {
        broken = λ none. absurd (none img (read_as img read));
        sound = λ other k.
            let b = box_around m (root_tile mem ks) ks in
            let e = (one m.widths m.halvings (size_of st) (size_of st) b b img other (page st (root_tile mem ks).page) law.few_keys (read_as img read) k).0 in
            subst (λ (i : Image). FindsIn m ks st (box_around m (tile_at i ks) ks) (tile_at i ks).page old r new) e f;
      })

      -- the bucket page, in the terms of the kind
      abbrev Kept : List ℕ → List ℕ → Path → ℕ → List (List ℕ) → Type 0
      Kept ws ord b pg rs = BucketPageIn m ws ord b rs (page st pg)

      bucket_as : (rs : List (List ℕ)) → Kept (widths_of leaf.inner.space.now) (order_of leaf.inner.space.now) (box_of leaf.inner) leaf.page rs
          → BucketBytes m (box_around m (tile_at img ks) ks) rs (page st (tile_at img ks).page)
      bucket_as rs k =
          let q = at_site mem.space mem.pages (tile_at img ks) ks leaf at (λ (u : Space) (b : Path) (pg : ℕ). Kept (widths_of u) (order_of u) b pg rs) k in
          subst (λ (ord : List ℕ). Kept m.widths ord (box_at m.widths ord (tile_at img ks).level ks) (tile_at img ks).page rs) made.halvings
          (subst (λ (ws : List ℕ). Kept ws (order_of mem.space) (box_at ws (order_of mem.space) (tile_at img ks).level ks) (tile_at img ks).page rs) made.widths q)

      bucket_back : (rs : List (List ℕ)) → BucketBytes m (box_around m (tile_at img ks) ks) rs (page st (tile_at img ks).page)
          → Kept (widths_of leaf.inner.space.now) (order_of leaf.inner.space.now) (box_of leaf.inner) leaf.page rs
      bucket_back rs k =
          from_site mem.space mem.pages (tile_at img ks) ks leaf at (λ (u : Space) (b : Path) (pg : ℕ). Kept (widths_of u) (order_of u) b pg rs)
          (subst (λ (ws : List ℕ). Kept ws (order_of mem.space) (box_at ws (order_of mem.space) (tile_at img ks).level ks) (tile_at img ks).page rs) (sym made.widths)
          (subst (λ (ord : List ℕ). Kept m.widths ord (box_at m.widths ord (tile_at img ks).level ks) (tile_at img ks).page rs) (sym made.halvings) k))

      pub broken_bucket : (IsBucketIn m (widths_of leaf.inner.space.now) (order_of leaf.inner.space.now) (box_of leaf.inner) (page st leaf.page) → ⊥)
          → Finds m ks st old (Err (BrokenPage leaf.page)) old after
      broken_bucket none = from_bucket (Err (BrokenPage leaf.page)) old (record {
        broken = λ _. (ap (λ (pg : ℕ). Err (BrokenPage pg)) at.page, refl);
        sound = λ rs k. absurd (none (rs, bucket_back rs k));
      })

      pub sound_bucket : (o : Option ℕ) (new : List ℕ) → new ≡ page st leaf.page
          → IsBucketIn m (widths_of leaf.inner.space.now) (order_of leaf.inner.space.now) (box_of leaf.inner) (page st leaf.page)
          → ((level : ℕ) (rs : List (List ℕ)) → BucketOf m level rs new → FirstWith (λ i. m.read (get_or rs i []) ≡ Some ks) (length rs) o) → Finds m ks st old (Ok o) new after
      sound_bucket o new e is place =
          let here : new ≡ page st (tile_at img ks).page = e ∙ ap (page st) at.page in
          from_bucket (Ok o) new (record {
            broken = λ none. absurd (none is.0 (bucket_as is.0 is.1));
            sound = λ rs k. (o, refl, place (length (box_around m (tile_at img ks) ks)) rs (subst (λ (bs : List ℕ). BucketOf m (length (box_around m (tile_at img ks) ks)) rs bs) (sym here) k.holds), here);
          })
