-- A page keeps the rules, byte by byte, exactly where it is a bucket page.
use Rattle.std.proofs.Common.{◌≡◌, ℕ, suc, ◌+◌, ◌*◌, ◌<◌, ◌≤◌, List, [], ◌∷◌, map, length, get_or, sym, refl, ap, ◌∙◌, subst, inl, inr, ⊎_elim, arith}
use Rattle.std.specs.List.{range_with_len}
use Rattle.std.proofs.lemmas.List.FromFn.{length-map-range_with_len, get_or-map-range_with_len}
use Rattle.std.proofs.lemmas.List.{get_or_past, length-take}
use Rattle.std.proofs.lemmas.Bool.{cases_lt, cases_order}
use Rattle.boxes.specs.Cuts.{Path}
use Rattle.boxes.specs.GridBoxes.{box_of, lows_of}
use Rattle.boxes.specs.Points.{less, path}
use Rattle.boxes.specs.Spaces.{widths_of, order_of}
use Rattle.boxes.specs.declared.grid_box.GridBox.{GridBox}
use Rattle.kinds.specs.Meaning.{Meaning, Lawful}
use Rattle.buckets.specs.Bucket.{KeysIn, BucketPageIn, IsBucketIn, record_at}
use Rattle.buckets.specs.BucketRules.{BucketRules, count_of}
use Rattle.buckets.proofs.BucketViews.{Bytewise, view, from_view}

path_long : (ws ord ps : List ℕ) → length (path ws ord ps) ≡ length ord
path_long ws [] ps = refl
path_long ws (i ∷ ord) ps = ap suc (path_long (less ws i) ord ps)

-- a box is as long as its level
pub box_long : (g : GridBox) → length (box_of g) ≡ g.level
box_long g =
    let s = g.space.now in
    let way = path (widths_of s) (order_of s) (lows_of g) in
    omega (arith, length-take g.level way, path_long (widths_of s) (order_of s) (lows_of g), g.deep, s.long)

-- the records that stand in the page
abbrev records_of : Meaning → List ℕ → List (List ℕ)
records_of m page = map (record_at m page) (range_with_len 0 (count_of page))

module _ (m : Meaning) (law : Lawful m) (ws ord : List ℕ) (b : Path) (page : List ℕ) (long : length page ≡ 512) where
  module _ (r : BucketRules m (KeysIn ws ord b) (length b) page) where
    abbrev rs : List (List ℕ)
    rs = records_of m page

    many : length rs ≡ count_of page
    many = length-map-range_with_len (record_at m page) 0 (count_of page)

    at : (j : ℕ) → j < length rs → get_or rs j [] ≡ record_at m page j
    at j h = get_or-map-range_with_len (record_at m page) 0 (count_of page) j j [] (omega (arith, many)) (omega arith)

    bytes : Bytewise m (length b) rs page
    bytes = record {
      long = long;
      mark_first = r.header.mark_first;
      mark_second = r.header.mark_second;
      count = sym many;
      named_level = r.header.named_level;
      few = omega (arith, many, r.header.few);
      placed = λ j h. sym (at j h);
      rest = λ k h. ⊎_elim
          (λ lt. r.rest k (subst (λ n. 4 + n * m.size ≤ k) many h) lt)
          (λ ge. get_or_past page k 0 (omega arith))
          (cases_lt k 512);
    }

    twins : (i j : ℕ) → i < length rs → j < length rs → m.read (get_or rs i []) ≡ m.read (get_or rs j []) → i ≡ j
    twins i j hi hj e =
        let f : m.read (record_at m page i) ≡ m.read (record_at m page j) = ap m.read (sym (at i hi)) ∙ e ∙ ap m.read (at j hj) in
        elim (cases_order i j) [
          | inl same ↦ same
          | inr (inl lt) ↦ absurd (r.records.apart i j lt (omega (arith, many)) f)
          | inr (inr gt) ↦ absurd (r.records.apart j i gt (omega (arith, many)) (sym f))
        ]

    pub bucket_from_rules : IsBucketIn m ws ord b page
    bucket_from_rules = (
      rs,
      record {
        holds = from_view m law (length b) rs page bytes;
        records = λ j h. let v = r.records.valid j (omega (arith, many)) in (v.0, ap m.read (at j h) ∙ v.1, v.2);
        apart = twins;
      },
    )

  module _ (us : List (List ℕ)) (p : BucketPageIn m ws ord b us page) where
    v : Bytewise m (length b) us page
    v = view m law (length b) us page p.holds

    pub rules_from_bucket : BucketRules m (KeysIn ws ord b) (length b) page
    rules_from_bucket = record {
      header = record { mark_first = v.mark_first; mark_second = v.mark_second; few = omega (arith, v.count, v.few); named_level = v.named_level };
      records = record {
        valid = λ i h. let lt : i < length us = omega (arith, v.count) in let q = p.records i lt in (q.0, ap m.read (v.placed i lt) ∙ q.1, q.2);
        apart = λ i j h k e.
            let lt : j < length us = omega (arith, v.count) in
            let li : i < length us = omega arith in
            let same = p.apart i j li lt (ap m.read (sym (v.placed i li)) ∙ e ∙ ap m.read (v.placed j lt)) in
            omega arith;
      };
      rest = λ k h _. v.rest k (subst (λ n. 4 + n * m.size ≤ k) v.count h);
    }
