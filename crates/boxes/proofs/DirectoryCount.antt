-- The directory boxes in a box that passes a limit are those of its halves.
use Rattle.std.proofs.Common.{◌≡◌, ℕ, zero, suc, ◌-◌, ◌*◌, ◌<◌, ◌≤◌, Bool, true, false, cond, ◌&&◌, leb, List, [], ◌∷◌, ◌++◌, map, length, get_or, filter, sym, refl, ap, ◌∙◌, ap₂, inl, inr, append_assoc, append-nil, arith}
use mathlib.Core.Path.{fun_ext}
use Rattle.std.proofs.lemmas.List.Elements.{filter-append}
use Rattle.std.proofs.lemmas.Bool.{and_left, cases_eq, lt-leb}
use Rattle.boxes.specs.Cuts.{Path, half, cuts, around}
use Rattle.boxes.specs.Directories.{distinct, boundaries, cells, limits, directories}
use Rattle.boxes.specs.Fitting.{fits_from, directories_from}
use Rattle.boxes.specs.Points.{lows}
use Rattle.boxes.proofs.HalfLeaves.{both}

-- in the whole space
pub directories_whole : (ws ord : List ℕ) (ls : List Path) → directories ws ord ls ≡ directories_from ws ord (length ord) [] ls
directories_whole ws ord ls = refl

kept_here : (x : Bool) (d : Path) (ls : List Path) → filter (around (x ∷ d)) (map (λ e. x ∷ e) ls) ≡ map (λ e. x ∷ e) (filter (around d) ls)
kept_here x d [] = refl
kept_here true d (e ∷ ls) = go (around d e) (kept_here true d ls)
  where
    go : (t : Bool) → filter (around (true ∷ d)) (map (λ e. true ∷ e) ls) ≡ map (λ e. true ∷ e) (filter (around d) ls)
        → cond t ((true ∷ e) ∷ filter (around (true ∷ d)) (map (λ e. true ∷ e) ls)) (filter (around (true ∷ d)) (map (λ e. true ∷ e) ls)) ≡ map (λ e. true ∷ e) (cond t (e ∷ filter (around d) ls) (filter (around d) ls))
    go true ih = ap (λ us. (true ∷ e) ∷ us) ih
    go false ih = ih
kept_here false d (e ∷ ls) = go (around d e) (kept_here false d ls)
  where
    go : (t : Bool) → filter (around (false ∷ d)) (map (λ e. false ∷ e) ls) ≡ map (λ e. false ∷ e) (filter (around d) ls)
        → cond t ((false ∷ e) ∷ filter (around (false ∷ d)) (map (λ e. false ∷ e) ls)) (filter (around (false ∷ d)) (map (λ e. false ∷ e) ls)) ≡ map (λ e. false ∷ e) (cond t (e ∷ filter (around d) ls) (filter (around d) ls))
    go true ih = ap (λ us. (false ∷ e) ∷ us) ih
    go false ih = ih

kept_true : (d : Path) (ls : List Path) → filter (around (true ∷ d)) (map (λ e. false ∷ e) ls) ≡ []
kept_true d [] = refl
kept_true d (e ∷ ls) = kept_true d ls

kept_false : (d : Path) (ls : List Path) → filter (around (false ∷ d)) (map (λ e. true ∷ e) ls) ≡ []
kept_false d [] = refl
kept_false d (e ∷ ls) = kept_false d ls

kept_lower : (d : Path) (ls us : List Path) → filter (around (false ∷ d)) (both ls us) ≡ map (λ e. false ∷ e) (filter (around d) ls)
kept_lower d ls us = filter-append (around (false ∷ d)) (map (λ e. false ∷ e) ls) (map (λ e. true ∷ e) us) ∙ ap₂ (λ as' bs. as' ++ bs) (kept_here false d ls) (kept_false d us) ∙ append-nil (map (λ e. false ∷ e) (filter (around d) ls))

kept_upper : (d : Path) (ls us : List Path) → filter (around (true ∷ d)) (both ls us) ≡ map (λ e. true ∷ e) (filter (around d) us)
kept_upper d ls us = filter-append (around (true ∷ d)) (map (λ e. false ∷ e) ls) (map (λ e. true ∷ e) us) ∙ ap₂ (λ as' bs. as' ++ bs) (kept_true d ls) (kept_here true d us)

module _ (ws ord : List ℕ) (b : Path) where
  ends_below : (x : Bool) (i : ℕ) (ls : List Path) → map (λ e. get_or (lows ws ord (b ++ e)) i 0) (map (λ e. x ∷ e) ls) ≡ map (λ e. get_or (lows ws ord (half b x ++ e)) i 0) ls
  ends_below x i [] = refl
  ends_below x i (d ∷ ls) = ap₂ (λ (n : ℕ) (us : List ℕ). n ∷ us) (ap (λ q. get_or (lows ws ord q) i 0) (sym (append_assoc b (x ∷ []) d))) (ends_below x i ls)

  fits_half : (x : Bool) (d : Path) (ks ls : List Path) → ks ≡ map (λ e. x ∷ e) (filter (around d) ls)
      → limits 60 80 (length ws) (λ i. length (distinct (map (λ e. get_or (lows ws ord (b ++ e)) i 0) ks))) ≡ fits_from ws ord (half b x) ls d
  fits_half x d ks ls e = ap (limits 60 80 (length ws)) (fun_ext (λ i. ap (λ us. length (distinct us)) (ap (map (λ e. get_or (lows ws ord (b ++ e)) i 0)) e ∙ ends_below x i (filter (around d) ls))))

  -- a box that keeps the limits is a directory box
  pub directories_shut : (n : ℕ) (ls : List Path) → fits_from ws ord b ls [] ≡ true → directories_from ws ord n b ls ≡ [] ∷ []
  directories_shut zero ls e = refl
  directories_shut (suc n) ls e = ap (cuts (suc n) (fits_from ws ord b ls)) e

  -- one that passes them has those of its halves
  pub directories_open : (n : ℕ) (ls us : List Path) → fits_from ws ord b (both ls us) [] ≡ false
      → directories_from ws ord (suc n) b (both ls us) ≡ both (directories_from ws ord n (half b false) ls) (directories_from ws ord n (half b true) us)
  directories_open n ls us e =
      let f = fits_from ws ord b (both ls us) in
      let lower : cuts n (λ d. f (false ∷ d)) (f (false ∷ [])) ≡ directories_from ws ord n (half b false) ls =
      ap (λ h. cuts n h (h [])) (fun_ext (λ d. fits_half false d (filter (around (false ∷ d)) (both ls us)) ls (kept_lower d ls us))) in
      let upper : cuts n (λ d. f (true ∷ d)) (f (true ∷ [])) ≡ directories_from ws ord n (half b true) us =
      ap (λ h. cuts n h (h [])) (fun_ext (λ d. fits_half true d (filter (around (true ∷ d)) (both ls us)) us (kept_upper d ls us))) in
      ap (cuts (suc n) f) e ∙ ap₂ both lower upper

-- the limits look at the keys alone
pub boundaries_same : (k : ℕ) (n m : ℕ → ℕ) → ((i : ℕ) → i < k → n i ≡ m i) → boundaries k n ≡ boundaries k m
boundaries_same zero n m w = refl
boundaries_same (suc k) n m w = omega (arith, w k (omega arith), boundaries_same k n m (λ i h. w i (omega arith)))

pub cells_same : (k : ℕ) (n m : ℕ → ℕ) → ((i : ℕ) → i < k → n i ≡ m i) → cells k n ≡ cells k m
cells_same zero n m w = refl
cells_same (suc k) n m w = ap₂ (λ a b. a * b) (w k (omega arith)) (cells_same k n m (λ i h. w i (omega arith)))

pub limits_same : (x y k : ℕ) (n m : ℕ → ℕ) → ((i : ℕ) → i < k → n i ≡ m i) → limits x y k n ≡ limits x y k m
limits_same x y k n m w = ap₂ (λ a b. leb a x && leb b y) (boundaries_same k n m w) (cells_same k n m w)

boundaries_one : (k : ℕ) (n : ℕ → ℕ) (i : ℕ) → i < k → n i - 1 ≤ boundaries k n
boundaries_one zero n i h = absurd (omega arith)
boundaries_one (suc k) n i h = elim (cases_eq i k) [
  | inl e ↦ rw e (omega arith)
  | inr ne ↦ omega (arith, boundaries_one k n i (omega arith))
]

pub limits_passed : (k : ℕ) (n : ℕ → ℕ) (i : ℕ) → i < k → 61 < n i → limits 60 80 k n ≡ false
limits_passed k n i h many = and_left (leb (boundaries k n) 60) (leb (cells k n) 80) (lt-leb (boundaries k n) 60 (omega (arith, boundaries_one k n i h)))

pub kept_all : (ls : List Path) → filter (around []) ls ≡ ls
kept_all [] = refl
kept_all (e ∷ ls) = ap (λ us. e ∷ us) (kept_all ls)
