-- The two pages of a point, in pages that stand for the records held.
use Rattle.std.proofs.Common.{◌≡◌, ℕ, ◌<◌, ◌≤◌, List, [], ◌∷◌, length, get_or, Some, None, Ok, Option, Result, sym, refl, ap, ◌∙◌, subst, subst₂, inl, inr, arith}
use Rattle.std.specs.List.{AllByRecursion}
use Rattle.std.proofs.lemmas.List.{length-take-le}
use Rattle.boxes.specs.Cuts.{In}
use Rattle.boxes.specs.Points.{Names, Point, path}
use Rattle.boxes.specs.Space.{Lies, box_at}
use Rattle.boxes.specs.Laws.{BoxLaws, LeafLaws, BoxesStand, LeavesStand, NumbersStand, OrderStands, AnyOrder}
use Rattle.boxes.proofs.Lows.{length_path}
use Rattle.kinds.specs.Meaning.{Meaning, Lawful}
use Rattle.images.specs.Directory.{Image, tile_at, DirectoryPage}
use Rattle.images.specs.Memory.{image_of}
use Rattle.buckets.specs.BucketLaws.{RecordsPlaced}
use Rattle.buckets.specs.Firsts.{FirstWith}
use Rattle.promise.specs.Determined.{keys_or, keys_of, points}
use Rattle.promise.specs.State.{State, size_of, page, box_around, DirectoryBytes, BucketBytes, DirectoryAt, LeafAt, Exactly}
use Rattle.promise.specs.Calls.{Made, Holds, Finds}
use Rattle.promise.specs.declared.memory.Memory.{Memory}
use Rattle.promise.specs.declared.refusal.Refusal.{Refusal}

-- What the lower parts promise.
pub record Below : Type 0 where
  pub boxes : BoxesStand
  pub leaves : LeavesStand
  pub numbers : NumbersStand
  pub order : OrderStands
  pub orders : AnyOrder
  pub places : RecordsPlaced

pub length_box : (ws ord ps : List ℕ) (l : ℕ) → l ≤ length ord → length (box_at ws ord l ps) ≡ l
length_box ws ord ps l k = length-take-le l (path ws ord ps) (omega (arith, length_path ws ord ps))

pub keys_are : (m : Meaning) (r ks : List ℕ) → m.read r ≡ Some ks → keys_of m r ≡ ks
keys_are m r ks e = ap keys_or e

pub all_points : (m : Meaning) → Lawful m → (held : List (List ℕ)) → ((r : List ℕ) → In r held → (ks : List ℕ) × (m.read r ≡ Some ks)) → AllByRecursion (Point m.widths) (points m held)
all_points m law [] w = tt
all_points m law (r ∷ held) w =
    let k = w r (inl refl) in
    (subst (Point m.widths) (sym (keys_are m r k.0 k.1)) (law.keyed r k.0 k.1), all_points m law held (λ s i. w s (inr i)))

pub names : Below → (m : Meaning) → Lawful m → Names m.widths m.halvings
names below m law = subst (Names m.widths) (sym law.in_rounds) (below.order m.widths).0

-- the answer is the only one
pub one_first : (P : ℕ → Type 0) (n : ℕ) (o p : Option ℕ) → FirstWith P n o → FirstWith P n p → o ≡ p
one_first P n None None v w = refl
one_first P n None (Some j) v w = absurd (v j w.0 w.1)
one_first P n (Some i) None v w = absurd (w i v.0 v.1)
one_first P n (Some i) (Some j) v w =
    let a : (i < j) → ⊥ = λ l. w.2 i l v.1 in
    let b : (j < i) → ⊥ = λ l. v.2 j l w.1 in
    let e : i ≡ j = omega arith in
    ap {B = Option ℕ} Some e

-- the first of the records with these keys, or none
abbrev pub Place : Meaning → List (List ℕ) → List ℕ → Option ℕ → Type 0
Place m rs ks o = FirstWith (λ j. m.read (get_or rs j []) ≡ Some ks) (length rs) o

-- What stands at a point: its directory box and page, the image there, its leaf box and page, and the records there.
pub record At (m : Meaning) (st : State) (root : Image) (held : List (List ℕ)) (ks : List ℕ) : Type 0 where
  pub in_directory : Lies m.widths m.halvings (box_around m (tile_at root ks) ks) ks
  pub directory : DirectoryAt m st (box_around m (tile_at root ks) ks) (tile_at root ks).page
  pub image : Image
  pub read : DirectoryBytes m st (box_around m (tile_at root ks) ks) image (page st (tile_at root ks).page)
  pub in_leaf : Lies m.widths m.halvings (box_around m (tile_at image ks) ks) ks
  pub leaf : LeafAt m st (box_around m (tile_at image ks) ks) (tile_at image ks).page
  pub records : List (List ℕ)
  pub bucket : BucketBytes m (box_around m (tile_at image ks) ks) records (page st (tile_at image ks).page)
  pub exact : Exactly m held (box_around m (tile_at image ks) ks) records

-- the same memory serves another store of the same size
pub made_over : (m : Meaning) (st other : State) (mem : Memory) → Made m st mem → other.memory ≡ st.memory → size_of other ≡ size_of st → Made m other mem
made_over m st other mem made same_memory same_size = record { is = same_memory ∙ made.is; size = made.size ∙ sym same_size; widths = made.widths; halvings = made.halvings }

module _ (below : Below) (m : Meaning) (law : Lawful m) (st : State) (held : List (List ℕ)) (h : Holds m st held) where
  abbrev ws : List ℕ
  ws = m.widths

  abbrev ord : List ℕ
  ord = m.halvings

  -- the root image in memory
  abbrev pub root_in : Image
  root_in = image_of h.mem.root

  box_laws : BoxLaws ws ord
  box_laws = below.boxes ws ord (names below m law)

  leaf_laws : LeafLaws ws ord m.capacity (points m held)
  leaf_laws = below.leaves ws ord (names below m law) m.capacity law.some_room (points m held) (all_points m law held h.records) h.no_two

  pub at : (ks : List ℕ) → Point ws ks → At m st root_in held ks
  at ks p =
      let stands = h.stands in
      let own = leaf_laws.one ks p in
      let b = own.0 in
      let some = stands.leaves b own.1 in
      let lb = some.1 in
      let q = lb.point in
      let up = lb.above in
      let level = (tile_at root_in ks).level in
      let D = box_at ws ord level ks in
      let dpg = (tile_at root_in ks).page in
      let short : level ≤ length ord = (h.copied.lawful.nested ks p (box_laws.whole ks p)).1 in
      let in_D : Lies ws ord D ks = box_laws.covers level ks short p in
      let dbox : DirectoryAt m st D dpg = record { root = root_in; read = h.copied; point = ks; valid = p; box = refl; names = refl } in
      let depth = (tile_at lb.image q).level in
      let deep = lb.read.lawful.nested q lb.valid lb.within in
      let long : length b ≡ depth = ap length lb.box ∙ length_box ws ord q depth deep.1 in
      let in_b : Lies ws ord b q = subst (λ d. Lies ws ord d q) (sym lb.box) (box_laws.covers depth q deep.1 lb.valid) in
      let in_up : Lies ws ord up ks = box_laws.nested up b q (omega (arith, deep.0)) (omega (arith, deep.1)) lb.valid lb.within in_b ks p own.2 in
      let one = leaf_laws.one_directory ks p in
      let is_up = stands.no_other_directories up lb.above_page lb.directory in
      let short_up : length up ≤ length ord = omega (arith, deep.0, deep.1) in
      let short_D : length D ≤ length ord = omega (arith, length_box ws ord ks level short) in
      let same_box : up ≡ D = one.3 up short_up is_up in_up ∙ sym (one.3 D short_D (stands.no_other_directories D dpg dbox) in_D) in
      let same_page : lb.above_page ≡ dpg = stands.one_directory_page D lb.above_page dpg (subst (λ d. DirectoryAt m st d lb.above_page) same_box lb.directory) dbox in
      let read : DirectoryBytes m st D lb.image (page st dpg) = subst₂ (λ d pg. DirectoryBytes m st d lb.image (page st pg)) same_box same_page lb.read in
      let fits = (read.lawful.nested ks p in_D).1 in
      let lbox : LeafAt m st (box_around m (tile_at lb.image ks) ks) (tile_at lb.image ks).page = record {
        above = D;
        above_page = dpg;
        directory = dbox;
        image = lb.image;
        read = read;
        point = ks;
        valid = p;
        within = in_D;
        box = refl;
        names = refl;
      } in
      let inner = stands.contents (box_around m (tile_at lb.image ks) ks) (tile_at lb.image ks).page lbox in
      record {
        in_directory = in_D;
        directory = dbox;
        image = lb.image;
        read = read;
        in_leaf = box_laws.covers (tile_at lb.image ks).level ks fits p;
        leaf = lbox;
        records = inner.0;
        bucket = inner.1;
        exact = inner.2;
      }

  -- what a find answers over pages that agree on the two pages of its point
  pub answer : (ks : List ℕ) (p : Point ws ks) (a : At m st root_in held ks) (other after : State) → other.memory ≡ st.memory → size_of other ≡ size_of st
      → page other (tile_at root_in ks).page ≡ page st (tile_at root_in ks).page → page other (tile_at a.image ks).page ≡ page st (tile_at a.image ks).page
      → (old new : List ℕ) (r : Result (Option ℕ) Refusal) → Finds m ks other old r new after
      → (o : Option ℕ) × (r ≡ Ok o) × Place m a.records ks o × (new ≡ page st (tile_at a.image ks).page)
  answer ks p a other after same_memory same_size same_directory same_bucket old new r f =
      let from = f.goes h.mem (made_over m st other h.mem h.made same_memory same_size) p in
      let D = box_around m (tile_at root_in ks) ks in
      let read : DirectoryBytes m other D a.image (page other (tile_at root_in ks).page) =
      subst₂ (λ n bs. DirectoryPage ws ord n D a.image bs) (sym same_size) (sym same_directory) a.read in
      let within = from.sound a.image read in
      let last = within.sound a.records (subst (λ bs. BucketBytes m (box_around m (tile_at a.image ks) ks) a.records bs) (sym same_bucket) a.bucket) in
      (last.0, last.1, last.2, last.3 ∙ same_bucket)
