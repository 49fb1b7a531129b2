-- The rows that repeat a point: among readings in order, those whose keys are the keys of the one before.
use Rattle.std.proofs.Common.{◌≡◌, ℕ, suc, ◌+◌, ◌-◌, ◌<◌, ◌≤◌, false, cond, ◌≢◌, ◌⊎◌, List, [], ◌∷◌, length, get_or, set, sym, refl, ap, ◌∙◌, subst, inl, inr, add-one, arith}
use Rattle.std.specs.List.Sorted.{IsPermutation, IsSortedWithin}
use Rattle.std.specs.List.{AllByRecursion}
use Rattle.std.specs.Cmp.{nat_cmp_total, then_total, on_total}
use Rattle.std.proofs.lemmas.List.MinMax.{ranks_by}
use Rattle.std.proofs.ByRecursion.{All-get_or, All-weaker, all_shuffled, has_shuffled}
use Rattle.std.proofs.lemmas.List.{get_or-set_same, get_or-set_other, length-set}
use Rattle.std.proofs.lemmas.List.Sorted.{sorted_far, sum_by-IsPermutation}
use Rattle.std.proofs.lemmas.Bool.{cases_eq, cases_lt, eq-eqb}
use Rattle.boxes.specs.declared.keys.Keys.{Keys}
use Rattle.boxes.specs.declared.space.Space.{Space}
use Rattle.boxes.specs.KeyLists.{keys_of}
use Rattle.boxes.specs.Spaces.{widths_of}
use Rattle.numbers.proofs.Wording.{one_reading}
use Rattle.sheet.specs.declared.verdict.Verdict.{Verdict}
use Rattle.sheet.specs.declared.verdict.Verdict.TheVariants.{Kept, NoPoint, Repeated}
use Rattle.sheet.specs.Readings.{Reading, four, readings_of, no_reading, InRows, Again, Marked}
use Rattle.sheet.specs.Rows.{Gives, RowRead, RowsRead, Becomes, Judged}
use Rattle.sheet.proofs.Readings.{OfRow, four_apart, of_rows, has_row, of_row, one_each, at_least_two, less, rows_rise, squeezed}
use Rattle.std.specs.Cmp.Lexicographic.{lists_total}

-- one reading more: its row is marked, if its keys are those of the one before
module _ (ss : List Reading) (vs after : List Verdict) (i : ℕ) (some : 1 ≤ i) (inv : Marked i ss vs after) where
  abbrev here : Reading
  here = get_or ss i no_reading

  wider : (r : ℕ) → Again i ss r → Again (i + 1) ss r
  wider r a = (a.0, omega arith, a.2, a.3)

  last_again : (r : ℕ) → Again (i + 1) ss r → Again i ss r ⊎ ((here.1 ≡ r) × ((get_or ss (i - 1) no_reading).0 ≡ here.0))
  last_again r a = elim (cases_lt (suc a.0) i) [
    | inl l ↦ inl (a.0, l, a.2, a.3)
    | inr g ↦
        let e : suc a.0 ≡ i = omega arith in
        let f : a.0 ≡ i - 1 = omega arith in
        inr (ap (λ j. (get_or ss j no_reading).1) (sym e) ∙ a.2, ap (λ j. (get_or ss j no_reading).0) (sym f) ∙ a.3 ∙ ap (λ j. (get_or ss j no_reading).0) e)
  ]

  pub mark_more : here.1 < length after → (get_or ss (i - 1) no_reading).0 ≡ here.0 → Marked (i + 1) ss vs (set after here.1 Repeated)
  mark_more l e = (
    length-set after here.1 Repeated ∙ inv.0,
    λ r. elim (cases_eq r here.1) [
      | inl q ↦
          let f : suc (i - 1) ≡ i = omega arith in
          inl ((i - 1, omega arith, ap (λ j. (get_or ss j no_reading).1) f ∙ sym q, e ∙ ap (λ j. (get_or ss j no_reading).0) (sym f)), ap (λ j. get_or (set after here.1 Repeated) j NoPoint) q ∙ get_or-set_same after here.1 Repeated NoPoint l)
      | inr ne ↦
          let other = get_or-set_other after here.1 r Repeated NoPoint ne in
          elim (inv.1 r) [
            | inl a ↦ inl (wider r a.0, other ∙ a.1)
            | inr n ↦ inr ((λ a. elim (last_again r a) [ inl b ↦ n.0 b | inr b ↦ ne (sym b.0) ]), other ∙ n.1)
          ]
    ],
  )

-- the same of the reading y behind x, where n were behind another before
pub mark_behind : (ss rest : List Reading) (first x y : Reading) (vs after : List Verdict) (n m : ℕ) → Marked (n + 1) ss vs after → ss ≡ first ∷ rest → n < length rest → x ≡ get_or ss n no_reading → y ≡ get_or rest n no_reading → m ≡ n + 1
    → InRows (length vs) ss → x.0 ≡ y.0 → Marked (m + 1) ss vs (set after y.1 Repeated)
mark_behind ss rest first x y vs after n m inv e h ex ey em rows q =
    let here : get_or ss (n + 1) no_reading ≡ y = ap (λ (us : List Reading). get_or us (n + 1) no_reading) e ∙ ap (λ i. get_or (first ∷ rest) i no_reading) (add-one n) ∙ sym ey in
    let before : get_or ss (n + 1 - 1) no_reading ≡ x = ap (λ i. get_or ss i no_reading) (omega arith) ∙ sym ex in
    let long : n + 1 < length ss = omega (arith, ap length e) in
    let row = All-get_or (λ (s : Reading). s.1 < length vs) ss (n + 1) no_reading long rows in
    subst (λ k. Marked (k + 1) ss vs (set after y.1 Repeated)) (sym em)
    (subst (λ (s : Reading). Marked (n + 1 + 1) ss vs (set after s.1 Repeated)) here
    (mark_more ss vs after (n + 1) (omega arith) inv (omega (arith, inv.0, row)) (ap (λ (s : Reading). s.0) before ∙ q ∙ ap (λ (s : Reading). s.0) (sym here))))

-- what the marks say of the rows
module _ (s : Space) (rows : List (List ℕ)) (vs : List Verdict) (ss : List Reading) (read : RowsRead s rows vs) (mixed : IsPermutation (readings_of 0 vs) ss) (up : IsSortedWithin less ss 0 (length ss)) where
  abbrev at : ℕ → Reading
  at i = get_or ss i no_reading

  abbrev ws : List ℕ
  ws = widths_of s

  all_of_rows : AllByRecursion (OfRow (λ i. get_or vs i NoPoint) (length vs)) ss
  all_of_rows = all_shuffled (OfRow (λ i. get_or vs i NoPoint) (length vs)) (readings_of 0 vs) ss mixed (of_rows (λ i. get_or vs i NoPoint) (length vs) 0 vs (omega arith) (λ i h. ap (λ j. get_or vs j NoPoint) (omega arith)))

  pub in_rows : InRows (length vs) ss
  in_rows = All-weaker (OfRow (λ i. get_or vs i NoPoint) (length vs)) (λ (x : Reading). x.1 < length vs) (λ x h. h.0) ss all_of_rows

  row_of : (k : ℕ) → k < length ss → OfRow (λ i. get_or vs i NoPoint) (length vs) (at k)
  row_of k h = All-get_or (OfRow (λ i. get_or vs i NoPoint) (length vs)) ss k no_reading h all_of_rows

  place_of : (i : ℕ) (p : Keys) → i < length vs → get_or vs i NoPoint ≡ Kept p → (k : ℕ) × (k < length ss) × (at k ≡ (four (keys_of p), i))
  place_of i p l e =
      let h = has_shuffled (readings_of 0 vs) ss (four (keys_of p), 0 + i) mixed (has_row 0 vs i p l e) in
      (h.0, h.1, h.2 no_reading ∙ ap (λ j. (four (keys_of p), j)) (omega arith))

  far : (i j : ℕ) → i ≤ j → j < length ss → less (at j) (at i) ≡ false
  far i j l h = sorted_far less (ranks_by (then_total (on_total (λ p. p.0) (lists_total nat_cmp_total)) (on_total (λ p. p.1) nat_cmp_total)) (λ x. x)) ss up i j no_reading l h

  -- two readings of one row are one
  apart : (i j : ℕ) → i < j → j < length ss → (at i).1 ≡ (at j).1 → ⊥
  apart i j l h e =
      let r = (at j).1 in
      let first : of_row r (at i) ≡ 1 = ap (λ t. cond t 1 0) (eq-eqb (at i).1 r e) in
      let second : of_row r (at j) ≡ 1 = ap (λ t. cond t 1 0) (eq-eqb (at j).1 r refl) in
      omega (arith, at_least_two (of_row r) ss i j no_reading l h (omega arith) (omega arith), sum_by-IsPermutation (of_row r) (readings_of 0 vs) ss mixed, one_each 0 vs r)

  row_read : (i : ℕ) (v : Verdict) → i < length rows → get_or vs i NoPoint ≡ v → RowRead s (get_or rows i []) v
  row_read i v l e = subst (RowRead s (get_or rows i [])) e (read.1 i l)

  -- a row that is marked repeats a point
  repeats : (i : ℕ) → i < length rows → Again (length ss) ss i → Becomes ws rows i Repeated
  repeats i l a =
      let k = a.0 in
      let one = row_of k (omega (arith, a.1)) in
      let two = row_of (suc k) a.1 in
      let j = (at k).1 in
      let q = one.1.0 in
      let p = two.1.0 in
      let gq = row_read j (Kept q) (omega (arith, read.0, one.0)) one.1.1 in
      let gp = row_read i (Kept p) l (ap (λ r. get_or vs r NoPoint) (sym a.2) ∙ two.1.1) in
      let same : keys_of q ≡ keys_of p = four_apart (keys_of q) (keys_of p) (gq.1.long ∙ sym gp.1.long) (omega (arith, gq.1.long, s.few, s.wide)) (sym one.1.2 ∙ a.3 ∙ two.1.2) in
      let ne : (at k).1 ≢ (at (suc k)).1 = apart k (suc k) (omega arith) a.1 in
      let before : j < i = omega (arith, rows_rise (at k) (at (suc k)) a.3 (far k (suc k) (omega arith) a.1), a.2) in
      (keys_of p, gp, (j, before, subst (Gives ws (get_or rows j [])) same gq))

  -- a row that repeats a point is marked
  marks : (i j : ℕ) (p q : Keys) → i < length vs → j < i → get_or vs i NoPoint ≡ Kept p → get_or vs j NoPoint ≡ Kept q → keys_of q ≡ keys_of p → Again (length ss) ss i
  marks i j p q l m ep eq same =
      let x = place_of j q (omega arith) eq in
      let z = place_of i p l ep in
      let ex : (at x.0).1 ≡ j = ap (λ (r : Reading). r.1) x.2 in
      let ez : (at z.0).1 ≡ i = ap (λ (r : Reading). r.1) z.2 in
      let keys : (at x.0).0 ≡ (at z.0).0 = ap (λ (r : Reading). r.0) x.2 ∙ ap four same ∙ sym (ap (λ (r : Reading). r.0) z.2) in
      let order : x.0 < z.0 = elim (cases_lt x.0 z.0) [
        | inl h ↦ h
        | inr g ↦ absurd (omega (arith, rows_rise (at z.0) (at x.0) (sym keys) (far z.0 x.0 g x.1), ex, ez))
      ] in
      let b : suc (z.0 - 1) ≡ z.0 = omega arith in
      let between = squeezed (at x.0) (at (z.0 - 1)) (at z.0) keys (far x.0 (z.0 - 1) (omega arith) (omega (arith, z.1))) (far (z.0 - 1) z.0 (omega arith) z.1) in
      (z.0 - 1, omega (arith, z.1), ap (λ k. (at k).1) b ∙ ez, between ∙ ap (λ k. (at k).0) (sym b))

  -- a row gives one point
  one_point : (row ks js : List ℕ) → Gives ws row ks → Gives ws row js → ks ≡ js
  one_point row ks js g h = one_reading ks js (sym g.0.0 ∙ h.0.0) g.0.1 h.0.1

  -- a row that is not marked stays
  stays : (i : ℕ) → i < length rows → (Again (length ss) ss i → ⊥) → (v : Verdict) → get_or vs i NoPoint ≡ v → Becomes ws rows i v
  stays i l n (Kept p) e = (row_read i (Kept p) l e, λ j m g. earlier j m g (get_or vs j NoPoint) refl)
    where
      earlier : (j : ℕ) → j < i → Gives ws (get_or rows j []) (keys_of p) → (v : Verdict) → get_or vs j NoPoint ≡ v → ⊥
      earlier j m g (Kept q) f = n (marks i j p q (omega (arith, read.0)) m e f (one_point (get_or rows j []) (keys_of q) (keys_of p) (row_read j (Kept q) (omega arith) f) g))
      earlier j m g NoPoint f = row_read j NoPoint (omega arith) f (keys_of p) g
      earlier j m g Repeated f = row_read j Repeated (omega arith) f
  stays i l n NoPoint e = row_read i NoPoint l e
  stays i l n Repeated e = absurd (row_read i Repeated l e)

  pub judged : (after : List Verdict) → Marked (length ss) ss vs after → Judged ws rows after
  judged after m = (
    m.0 ∙ read.0,
    λ i l. elim (m.1 i) [
      | inl a ↦ subst (Becomes ws rows i) (sym a.1) (repeats i l a.0)
      | inr n ↦ subst (Becomes ws rows i) (sym n.1) (stays i l n.0 (get_or vs i NoPoint) refl)
    ],
  )
