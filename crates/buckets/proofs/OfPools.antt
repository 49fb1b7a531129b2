-- The strings of a pool, taken one after the other.
use Rattle.std.proofs.Common.{◌≡◌, ℕ, zero, suc, ◌+◌, ◌*◌, ◌/◌, ◌%◌, ◌<◌, ◌≤◌, List, [], ◌∷◌, ◌++◌, length, get_or, take, drop, Ok, Err, Result, IsErrAnd, sym, refl, ap, ◌∙◌, subst, inl, inr, append-nil, append_assoc, arith, length-append}
use native.Mathlib.Nat.{mod-add-div, mul-mod_left}
use Rattle.std.proofs.lemmas.List.{take_at, drop_at, drop-drop}
use Rattle.kinds.specs.Meaning.{Meaning, Lawful}
use Rattle.buckets.specs.Bucket.{BucketOf}
use Rattle.buckets.specs.BucketWrites.{Added}
use Rattle.buckets.specs.Pools.{parts, Chosen, Took}
use Rattle.buckets.specs.declared.bucket_faults.NotAdded.{NotAdded}
use Rattle.buckets.specs.declared.bucket_faults.NotAdded.TheVariants.{WrongSize, Full}
use Rattle.buckets.proofs.BucketViews.{view}

module _ (P : List ℕ → Type 0) where
  pub chosen_more : (xs qs : List (List ℕ)) (r : List ℕ) → Chosen P xs qs → P r → Chosen P (xs ++ r ∷ []) (qs ++ r ∷ [])
  chosen_more [] qs r c p = inl (p, ([], ap (λ (us : List (List ℕ)). us ++ r ∷ []) c, refl))
  chosen_more (x ∷ xs) qs r (inl c) p = inl (c.0, (c.1.0 ++ r ∷ [], ap (λ (us : List (List ℕ)). us ++ r ∷ []) c.1.1, chosen_more xs c.1.0 r c.1.2 p))
  chosen_more (x ∷ xs) qs r (inr c) p = inr (c.0, chosen_more xs qs r c.1 p)

  pub chosen_same : (xs qs : List (List ℕ)) (r : List ℕ) → Chosen P xs qs → (P r → ⊥) → Chosen P (xs ++ r ∷ []) qs
  chosen_same [] qs r c n = inr (n, c)
  chosen_same (x ∷ xs) qs r (inl c) n = inl (c.0, (c.1.0, c.1.1, chosen_same xs c.1.0 r c.1.2 n))
  chosen_same (x ∷ xs) qs r (inr c) n = inr (c.0, chosen_same xs qs r c.1 n)

pub parts_long : (n z : ℕ) (pool : List ℕ) → length (parts n z pool) ≡ n
parts_long zero z pool = refl
parts_long (suc n) z pool = ap suc (parts_long n z (drop z pool))

-- each string
pub parts_at : (n z : ℕ) (pool : List ℕ) (i : ℕ) → i < n → get_or (parts n z pool) i [] ≡ take z (drop (i * z) pool)
parts_at zero z pool i l = absurd (omega arith)
parts_at (suc n) z pool zero l = let e : 0 * z ≡ 0 = omega arith in ap (λ k. take z (drop k pool)) (sym e)
parts_at (suc n) z pool (suc i) l =
    let e : z + i * z ≡ suc i * z = omega arith in
    parts_at n z (drop z pool) i (omega arith) ∙ ap (take z) (drop-drop (i * z) z pool ∙ ap (λ k. drop k pool) e)

-- the first string, where it is known
string_first : (n z : ℕ) (r rest : List ℕ) → length r ≡ z → parts (suc n) z (r ++ rest) ≡ r ∷ parts n z rest
string_first n z r rest e = rw (take_at r rest z e, drop_at r rest z e) refl

less_one : (n z : ℕ) (r rest : List ℕ) → 0 < z → length (r ++ rest) ≡ n * z → length r ≡ z → (k : ℕ) × (n ≡ suc k) × (length rest ≡ k * z)
less_one zero z r rest some e sized = absurd (omega (arith, length-append r rest))
less_one (suc n) z r rest some e sized = (n, refl, let s : suc n * z ≡ n * z + z = omega arith in omega (arith, length-append r rest))

no_times : (n z : ℕ) → n * z < z → n ≡ 0
no_times zero z h = refl
no_times (suc n) z h = absurd (let s : suc n * z ≡ n * z + z = omega arith in omega arith)

-- so many whole strings
pub whole_strings : (n z : ℕ) → n % z ≡ 0 → n ≡ n / z * z
whole_strings n z e = let k = mod-add-div n z in let s : z * (n / z) ≡ n / z * z = omega arith in omega arith

pub ragged : (n z : ℕ) → (n % z ≡ 0 → ⊥) → (k : ℕ) → n ≡ k * z → ⊥
ragged n z e k h = e (ap (λ x. x % z) h ∙ mul-mod_left k z)

module _ (m : Meaning) (law : Lawful m) (P : List ℕ → Type 0) (level : ℕ) (bytes bucket : List ℕ) where
  pub took_same : {U : Type 0} (u : U) → (P bytes → ⊥) → Took m P level bytes bucket bucket (Ok u)
  took_same u n xs qs c b = (qs, chosen_same P xs qs bytes c n, b)

  pub took_more : {U : Type 0} (after : List ℕ) (r : Result U NotAdded) → P bytes → length bytes ≡ m.size → Added m bucket bytes after r → Took m P level bytes bucket after r
  took_more after (Ok u) p l a xs qs c b = (qs ++ bytes ∷ [], chosen_more P xs qs bytes c p, a.2 level qs b)
  took_more after (Err WrongSize) p l a xs qs c b = absurd (a.0 l)
  took_more after (Err Full) p l a xs qs c b =
      let full : m.capacity < length (qs ++ bytes ∷ []) = omega (arith, a.1, (view m law level qs bucket b).count, length-append qs (bytes ∷ [])) in
      (qs ++ bytes ∷ [], chosen_more P xs qs bytes c p, (refl, full))

-- The walk over the strings of a pool, before what is left of it: the strings so far, those of them for which P holds, which the bucket has, and how many strings are left.
pub record Walked (m : Meaning) (P : List ℕ → Type 0) (level : ℕ) (pool rest bucket : List ℕ) : Type 0 where
  pub so_far : List (List ℕ)
  pub chosen : List (List ℕ)
  pub left : ℕ
  pub all : parts (length pool / m.size) m.size pool ≡ so_far ++ parts left m.size rest
  pub long : length rest ≡ left * m.size
  pub picked : Chosen P so_far chosen
  pub held : BucketOf m level chosen bucket

module _ (m : Meaning) (law : Lawful m) (P : List ℕ → Type 0) (level : ℕ) (pool : List ℕ) where
  abbrev strings : List (List ℕ)
  strings = parts (length pool / m.size) m.size pool

  pub walk_starts : (rest bucket : List ℕ) → length pool % m.size ≡ 0 → rest ≡ pool → BucketOf m level [] bucket → Walked m P level pool rest bucket
  walk_starts rest bucket whole same empty = record {
    so_far = [];
    chosen = [];
    left = length pool / m.size;
    all = ap (λ bs. parts (length pool / m.size) m.size bs) (sym same);
    long = ap length same ∙ whole_strings (length pool) m.size whole;
    picked = refl;
    held = empty;
  }

  module _ (rest bucket : List ℕ) (w : Walked m P level pool rest bucket) where
    -- all strings have been taken
    pub walk_ends : length rest < m.size → (qs : List (List ℕ)) × Chosen P strings qs × BucketOf m level qs bucket
    walk_ends h =
        let none : w.left ≡ 0 = no_times w.left m.size (omega (arith, w.long)) in
        let whole : strings ≡ w.so_far = w.all ∙ ap (λ n. w.so_far ++ parts n m.size rest) none ∙ append-nil w.so_far in
        (w.chosen, subst (λ (rs : List (List ℕ)). Chosen P rs w.chosen) (sym whole) w.picked, w.held)

    -- the next string
    module _ (r after : List ℕ) (cut : rest ≡ r ++ after) (sized : length r ≡ m.size) where
      abbrev first : List (List ℕ)
      first = w.so_far ++ r ∷ []

      one_less : (n : ℕ) × (w.left ≡ suc n) × (length after ≡ n * m.size)
      one_less = less_one w.left m.size r after (omega (arith, law.least_size)) (ap length (sym cut) ∙ w.long) sized

      further : strings ≡ first ++ parts one_less.0 m.size after
      further =
          w.all
          ∙ ap (λ n. w.so_far ++ parts n m.size rest) one_less.1
          ∙ ap (λ bs. w.so_far ++ parts (suc one_less.0) m.size bs) cut
          ∙ ap (λ (rs : List (List ℕ)). w.so_far ++ rs) (string_first one_less.0 m.size r after sized)
          ∙ sym (append_assoc w.so_far (r ∷ []) (parts one_less.0 m.size after))

      pub walk_goes_on : (bucket' : List ℕ) → ((us : List (List ℕ)) × Chosen P first us × BucketOf m level us bucket') → Walked m P level pool after bucket'
      walk_goes_on bucket' took = record { so_far = first; chosen = took.0; left = one_less.0; all = further; long = one_less.2; picked = took.1; held = took.2 }

      -- already the first strings of the pool are too many
      pub walk_overfull : ((us : List (List ℕ)) × Chosen P first us × (m.capacity < length us))
          → (k : ℕ) × (k ≤ length pool / m.size) × ((qs : List (List ℕ)) × Chosen P (take k strings) qs × (m.capacity < length qs))
      walk_overfull took =
          let later = parts one_less.0 m.size after in
          let are : take (length first) strings ≡ first = ap (take (length first)) further ∙ take_at first later (length first) refl in (
            length first,
            omega (arith, ap length further, length-append first later, parts_long (length pool / m.size) m.size pool),
            (took.0, subst (λ (rs : List (List ℕ)). Chosen P rs took.0) (sym are) took.1, took.2),
          )

pub err_is : {U E : Type 0} (r : Result U E) (e : E) → IsErrAnd r (λ x. x ≡ e) → r ≡ Err e
err_is (Ok u) e h = absurd h
err_is (Err x) e h = ap Err h
