-- The pages and the memory of a new grid.
use Rattle.std.proofs.Common.{◌≡◌, ℕ, zero, suc, ◌<◌, ◌≤◌, List, [], ◌∷◌, length, get_or, take, set, Some, None, Ok, Err, Result, sym, refl, ap, ◌∙◌, inl, inr, arith, length-set, get_or-set_other, get_or-set_same, ltb-true}
use Rattle.std.proofs.lemmas.Bool.{lt-ltb}
use Rattle.boxes.specs.Spaces.{widths_of, order_of}
use Rattle.boxes.specs.declared.space.Space.{Space}
use Rattle.buckets.specs.Bucket.{bucket_layout}
use Rattle.images.specs.Bytes.{joined}
use Rattle.images.specs.Directory.{one_cell, directory_layout, root_layout}
use Rattle.images.specs.Memory.{image_of}
use Rattle.kinds.specs.Meaning.{Meaning, Lawful}
use Rattle.promise.specs.Calls.{Makes}
use Rattle.promise.specs.Fresh.{Fresh, FreshStands, plain}
use Rattle.promise.specs.State.{State, size_of}
use Rattle.promise.specs.declared.memory.Memory.{Memory}
use Rattle.stores.specs.Pages.{Whole, Stored}
use Rattle.stores.specs.declared.NoSuchPage.{NoSuchPage}
use Rattle.grid.specs.Fresh.{FreshMemory, FreshPages}
use Rattle.grid.specs.Writes.{RootWritten}

-- some meaning of a kind
pub some_meaning : Meaning
some_meaning = record { widths = []; halvings = []; size = 3; capacity = 1; read = λ _. None }

-- a write to a page that there is
pub stored_in : {U : Type 0} (ps qs : List (List ℕ)) (p : ℕ) (bytes : List ℕ) (r : Result U NoSuchPage) → p < length ps → Stored ps qs p bytes r → qs ≡ set ps p bytes
stored_in ps qs p bytes (Ok u) l s = s.1
stored_in ps qs p bytes (Err e) l s = absurd (omega (arith, s.0))

take_set_past : {A : Type 0} (n i : ℕ) (xs : List A) (v : A) → n ≤ i → take n (set xs i v) ≡ take n xs
take_set_past zero i xs v l = refl
take_set_past (suc n) i [] v l = refl
take_set_past (suc n) zero (x ∷ xs) v l = absurd (omega arith)
take_set_past {A} (suc n) (suc i) (x ∷ xs) v l = ap (λ (ys : List A). x ∷ ys) (take_set_past n i xs v (omega arith))

pub fresh_pages : (mem : Memory) (ps a b qs : List (List ℕ)) (root directory bucket : List ℕ) → 10 ≤ length ps → RootWritten ps root a → b ≡ set a 8 directory → qs ≡ set b 9 bucket
    → root ≡ root_layout (image_of mem.root) → directory ≡ directory_layout 0 (one_cell mem.space.keys (record { page = 9; level = 0 })) → bucket ≡ bucket_layout 0 [] → FreshPages mem ps qs
fresh_pages mem ps a b qs root directory bucket l w eb eq er ed ek =
    let many_b : length b ≡ length ps = ap length eb ∙ length-set a 8 directory ∙ w.as_many in
    let many : length qs ≡ length ps = ap length eq ∙ length-set b 9 bucket ∙ many_b in
    let at_q : (j : ℕ) → get_or qs j [] ≡ get_or (set b 9 bucket) j [] = λ j. ap (λ (zs : List (List ℕ)). get_or zs j []) eq in
    let at_b : (j : ℕ) → get_or b j [] ≡ get_or (set a 8 directory) j [] = λ j. ap (λ (zs : List (List ℕ)). get_or zs j []) eb in
    let front : take 8 qs ≡ take 8 a =
    ap (λ (zs : List (List ℕ)). take 8 zs) eq ∙ take_set_past 8 9 b bucket (omega arith) ∙ ap (λ (zs : List (List ℕ)). take 8 zs) eb ∙ take_set_past 8 8 a directory (omega arith) in
    record {
      as_many = many;
      root = ap joined front ∙ w.root ∙ er;
      directory = at_q 8 ∙ get_or-set_other b 9 8 bucket [] (λ z. omega arith) ∙ at_b 8 ∙ get_or-set_same a 8 directory [] (omega (arith, w.as_many)) ∙ ed;
      bucket = at_q 9 ∙ get_or-set_same b 9 bucket [] (omega (arith, many_b)) ∙ ek;
      rest = λ j h. at_q j ∙ get_or-set_other b 9 j bucket [] (λ z. omega arith) ∙ at_b j ∙ get_or-set_other a 8 j directory [] (λ z. omega arith) ∙ w.rest j (omega arith);
    }

module _ (m : Meaning) (s : Space) (mem : Memory) (st after : State) (wide : widths_of s ≡ m.widths) (ordered : order_of s ≡ m.halvings) (enough : 10 ≤ size_of st)
    (f : FreshMemory s (size_of st) mem) (p : FreshPages mem st.pages after.pages) (is : after.memory ≡ Some mem) (whole : Whole after.pages) where
  keys : s.keys ≡ length m.widths
  keys = sym s.wide ∙ ap length wide

  mem_keys : mem.space.keys ≡ length m.widths
  mem_keys = ap (λ (u : Space). u.keys) f.same_space ∙ keys

  copied : image_of mem.root ≡ plain m 8
  copied = f.root ∙ ap (λ (k : ℕ). one_cell k (record { page = 8; level = 0 })) keys

  pub fresh : Fresh m after mem
  fresh = record {
    made = record {
      is = is;
      size = f.size ∙ sym p.as_many;
      widths = ap widths_of f.same_space ∙ wide;
      halvings = ap order_of f.same_space ∙ ordered;
    };
    enough = omega (arith, p.as_many);
    whole_pages = whole;
    root = p.root ∙ ap root_layout copied;
    directory = p.directory ∙ ap (λ (k : ℕ). directory_layout 0 (one_cell k (record { page = 9; level = 0 }))) mem_keys;
    bucket = p.bucket;
    copied = copied;
    marks = λ j l u. ltb-true j 10 (sym (f.marks j) ∙ u);
    all_marks = λ j l. f.marks j ∙ lt-ltb j 10 l;
    one_directory = f.one_directory;
    one_leaf = f.one_leaf;
  }

  pub makes : FreshStands → Lawful m → size_of st ≤ 32768 → Makes m st (Ok 10) after
  makes stands law most =
      let h = stands m law after mem fresh in
      record {
        refused = λ w. elim w [ inl l ↦ absurd (omega arith) | inr l ↦ absurd (omega arith) ];
        made = λ _ _. (refl, h.0, p.as_many, p.rest, h.1);
      }
