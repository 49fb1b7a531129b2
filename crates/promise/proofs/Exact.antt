-- Two finds that meet the contract answer alike, over any pages.
use Rattle.std.proofs.Common.{◌≡◌, ℕ, cond, eqb, ◌⊎◌, List, [], ◌∷◌, length, get_or, Some, None, Ok, Err, Option, Result, sym, refl, ap, ◌∙◌, subst, subst₂, inl, inr, arith}
use Rattle.std.proofs.lemmas.Bool.{both_ways, cases_Bool, cases_eq}
use Rattle.boxes.specs.Cuts.{Path}
use Rattle.kinds.specs.Meaning.{Meaning}
use Rattle.images.specs.Directory.{Image, tile_at, DirectoryPage}
use Rattle.images.specs.Memory.{image_of}
use Rattle.boxes.specs.Spaces.{widths_of, order_of}
use Rattle.promise.specs.State.{State, size_of, page, box_around, DirectoryBytes, BucketBytes}
use Rattle.promise.specs.Calls.{Made, Unmade, Finds, FindsFrom, FindsIn}
use Rattle.promise.specs.Refusals.{number}
use Rattle.promise.specs.Runs.{same_numbers}
use Rattle.promise.specs.Exact.{OneAnswer, AgreeAt, TwoPages}
use Rattle.promise.specs.declared.memory.Memory.{Memory}
use Rattle.promise.specs.declared.refusal.Refusal.{Refusal}
use Rattle.promise.specs.declared.refusal.Refusal.TheVariants.{NoSuchPage, WrongStore, NotARecord, BadKeys, BrokenPage, AlreadyHeld, NotHeld, RootFull, StoreFull, ShortBuffer}
use Rattle.promise.proofs.Lists.{same_true, same_from}
use Rattle.promise.proofs.Tests.{tell_point}
use Rattle.promise.proofs.Pages.{one_first}

abbrev Answer : Type 0
Answer = Result (Option ℕ) Refusal

-- answers as numbers and back, to tell them apart
abbrev carried : Refusal → ℕ
carried NoSuchPage = 0
carried WrongStore = 0
carried NotARecord = 0
carried BadKeys = 0
carried (BrokenPage pg) = pg
carried AlreadyHeld = 0
carried NotHeld = 0
carried RootFull = 0
carried StoreFull = 0
carried (ShortBuffer n) = n

abbrev numbered : ℕ → ℕ → Refusal
numbered n x =
    cond (eqb n 1) NoSuchPage (cond (eqb n 2) WrongStore (cond (eqb n 3) NotARecord (cond (eqb n 4) BadKeys (cond (eqb n 5) (BrokenPage x)
    (cond (eqb n 6) AlreadyHeld (cond (eqb n 7) NotHeld (cond (eqb n 8) RootFull (cond (eqb n 9) StoreFull (ShortBuffer x)))))))))

numbered_back : (e : Refusal) → numbered (number e) (carried e) ≡ e
numbered_back NoSuchPage = refl
numbered_back WrongStore = refl
numbered_back NotARecord = refl
numbered_back BadKeys = refl
numbered_back (BrokenPage pg) = refl
numbered_back AlreadyHeld = refl
numbered_back NotHeld = refl
numbered_back RootFull = refl
numbered_back StoreFull = refl
numbered_back (ShortBuffer n) = refl

abbrev code : Answer → List ℕ
code (Ok None) = []
code (Ok (Some j)) = j ∷ []
code (Err e) = number e ∷ carried e ∷ []

abbrev decode : List ℕ → Answer
decode [] = Ok None
decode (j ∷ []) = Ok (Some j)
decode (n ∷ (x ∷ xs)) = Err (numbered n x)

decode_code : (r : Answer) → decode (code r) ≡ r
decode_code (Ok None) = refl
decode_code (Ok (Some j)) = refl
decode_code (Err e) = ap (λ (z : Refusal). Err z) (numbered_back e)

tell_answer : (r s : Answer) → (r ≡ s) ⊎ (r ≡ s → ⊥)
tell_answer r s = elim (cases_Bool (same_numbers (code r) (code s))) [
  | inl e ↦ inl (sym (decode_code r) ∙ ap decode (same_true (code r) (code s) e) ∙ decode_code s)
  | inr e ↦ inr (λ p. both_ways (same_numbers (code r) (code s)) e (same_from (code r) (code s) (ap code p)))
]

tell_list : (xs ys : List ℕ) → (xs ≡ ys) ⊎ (xs ≡ ys → ⊥)
tell_list xs ys = elim (cases_Bool (same_numbers xs ys))
    [ inl e ↦ inl (same_true xs ys e) | inr e ↦ inr (λ p. both_ways (same_numbers xs ys) e (same_from xs ys p)) ]

-- what cannot be denied holds
alike : (r s : Answer) (xs ys : List ℕ) → (((r ≡ s) × (xs ≡ ys) → ⊥) → ⊥) → (r ≡ s) × (xs ≡ ys)
alike r s xs ys w = (
  elim (tell_answer r s) [ inl e ↦ e | inr n ↦ absurd (w (λ q. n q.0)) ],
  elim (tell_list xs ys) [ inl e ↦ e | inr n ↦ absurd (w (λ q. n q.1)) ],
)

module _ (m : Meaning) (st : State) (ks old new new' : List ℕ) (r r' : Answer) where
  one_in : (b : Path) (pg : ℕ) → FindsIn m ks st b pg old r new → FindsIn m ks st b pg old r' new' → (r ≡ r') × (new ≡ new')
  one_in b pg f f' = alike r r' new new' (λ no'.
      let bad : (rs : List (List ℕ)) → BucketBytes m b rs (page st pg) → ⊥ = λ rs k.
      let x = f.sound rs k in
      let y = f'.sound rs k in
      no' (x.1 ∙ ap (λ (o : Option ℕ). Ok o) (one_first (λ j. m.read (get_or rs j []) ≡ Some ks) (length rs) x.0 y.0 x.2 y.2) ∙ sym y.1, x.3 ∙ sym y.3) in
      let x = f.broken bad in
      let y = f'.broken bad in
      no' (x.0 ∙ sym y.0, x.1 ∙ sym y.1))

  one_from : (b : Path) (pg : ℕ) → FindsFrom m ks st b pg old r new → FindsFrom m ks st b pg old r' new' → (r ≡ r') × (new ≡ new')
  one_from b pg f f' = alike r r' new new' (λ no'.
      let bad : (img : Image) → DirectoryBytes m st b img (page st pg) → ⊥ = λ img k.
      no' (one_in (box_around m (tile_at img ks) ks) (tile_at img ks).page (f.sound img k) (f'.sound img k)) in
      let x = f.broken bad in
      let y = f'.broken bad in
      no' (x.0 ∙ sym y.0, x.1 ∙ sym y.1))

-- lists of numbers are equal or not
cases_same : (xs ys : List ℕ) → (xs ≡ ys) ⊎ (xs ≡ ys → ⊥)
cases_same xs ys = elim (cases_Bool (same_numbers xs ys)) [ inl e ↦ inl (same_true xs ys e) | inr n ↦ inr (λ e. absurd (both_ways (same_numbers xs ys) n (same_from xs ys e))) ]

tell_made : (m : Meaning) (st : State) → ((mem : Memory) × Made m st mem) ⊎ Unmade m st
tell_made m st = go st.memory refl
  where
    mine : (mem other : Memory) → st.memory ≡ Some mem → Made m st other → other ≡ mem
    mine mem other e k = let i = k.is in cc

    go : (o : Option Memory) → st.memory ≡ o → ((mem : Memory) × Made m st mem) ⊎ Unmade m st
    go None e = inr (λ mem k. let i = k.is in let z : ◌≡◌ {A = ℕ} 0 1 = cc in omega arith)
    go (Some mem) e = elim (cases_eq mem.pages (size_of st)) [
      | inl p ↦ elim (cases_same (widths_of mem.space) m.widths) [
        | inl w ↦ elim (cases_same (order_of mem.space) m.halvings) [
          | inl v ↦ inl (mem, record { is = e; size = p; widths = w; halvings = v })
          | inr n ↦ inr (λ other k. n (ap (λ (x : Memory). order_of x.space) (sym (mine mem other e k)) ∙ k.halvings))
        ]
        | inr n ↦ inr (λ other k. n (ap (λ (x : Memory). widths_of x.space) (sym (mine mem other e k)) ∙ k.widths))
      ]
      | inr n ↦ inr (λ other k. n (ap (λ (x : Memory). x.pages) (sym (mine mem other e k)) ∙ k.size))
    ]

pub one_answer : OneAnswer
one_answer m st after after' ks old new new' r r' f f' = elim (tell_made m st) [
  | inl k ↦ elim (tell_point m.widths ks) [
    | inl p ↦
        let root = image_of k.0.root in
        one_from m st ks old new new' r r' (box_around m (tile_at root ks) ks) (tile_at root ks).page (f.goes k.0 k.1 p) (f'.goes k.0 k.1 p)
    | inr n ↦ let x = f.bad_keys k.0 k.1 n in let y = f'.bad_keys k.0 k.1 n in (x.0 ∙ sym y.0, x.1 ∙ sym y.1)
  ]
  | inr u ↦ let x = f.unmade u in let y = f'.unmade u in (x.0 ∙ sym y.0, x.1 ∙ sym y.1)
]

-- What a find did over one state it would do over the other.
module _ (m : Meaning) (st other : State) (ks old new : List ℕ) (r : Result (Option ℕ) Refusal) (agree : AgreeAt m st other ks) where
  in_as : (b : Path) (pg : ℕ) → page other pg ≡ page st pg → FindsIn m ks other b pg old r new → FindsIn m ks st b pg old r new
  in_as b pg e f = record {
    broken = λ none. f.broken (λ rs k. none rs (subst (λ (bs : List ℕ). BucketBytes m b rs bs) e k));
    sound = λ rs k. let x = f.sound rs (subst (λ (bs : List ℕ). BucketBytes m b rs bs) (sym e) k) in (x.0, x.1, x.2, x.3 ∙ e);
  }

  bytes_as : (b : Path) (pg : ℕ) (img : Image) → page other pg ≡ page st pg → DirectoryBytes m st b img (page st pg) → DirectoryBytes m other b img (page other pg)
  bytes_as b pg img e k = subst₂ (λ (n : ℕ) (bs : List ℕ). DirectoryPage m.widths m.halvings n b img bs) (sym agree.as_many) (sym e) k

  bytes_back : (b : Path) (pg : ℕ) (img : Image) → page other pg ≡ page st pg → DirectoryBytes m other b img (page other pg) → DirectoryBytes m st b img (page st pg)
  bytes_back b pg img e k = subst₂ (λ (n : ℕ) (bs : List ℕ). DirectoryPage m.widths m.halvings n b img bs) agree.as_many e k

  made_as : (mem : Memory) → Made m st mem → Made m other mem
  made_as mem k = record { is = agree.memory ∙ k.is; size = k.size ∙ sym agree.as_many; widths = k.widths; halvings = k.halvings }

  made_back : (mem : Memory) → Made m other mem → Made m st mem
  made_back mem k = record { is = sym agree.memory ∙ k.is; size = k.size ∙ agree.as_many; widths = k.widths; halvings = k.halvings }

  finds_as : (after : State) → Finds m ks other old r new after → Finds m ks st old r new st
  finds_as after f = record {
    stays = refl;
    unmade = λ u. f.unmade (λ mem k. u mem (made_back mem k));
    bad_keys = λ mem k n. f.bad_keys mem (made_as mem k) n;
    goes = λ mem k p.
        let root = image_of mem.root in
        let b = box_around m (tile_at root ks) ks in
        let pg = (tile_at root ks).page in
        let e = agree.directory_page mem k in
        let from = f.goes mem (made_as mem k) p in
        record {
          broken = λ none. from.broken (λ img d. none img (bytes_back b pg img e d));
          sound = λ img d. in_as (box_around m (tile_at img ks) ks) (tile_at img ks).page (agree.bucket_page mem k img d) (from.sound img (bytes_as b pg img e d));
        };
  }

pub two_pages : TwoPages
two_pages m st other after after' ks old new new' r r' agree f f' = one_answer m st after st ks old new new' r r' f (finds_as m st other ks old new' r' agree after' f')
