-- Fields and strings of fields are told from their bytes.
use Rattle.std.proofs.Common.{◌≡◌, ℕ, ◌*◌, ◌/◌, ◌%◌, List, [], ◌∷◌, ◌++◌, map, length, sym, refl, ◌∙◌, ap₂, append_assoc, arith, length-append}
use mathlib.Core.List.{head-eq_of_cons-eq, tail-eq_of_cons-eq}
use native.Mathlib.Nat.{div-div-eq-div-mul}
use Rattle.std.specs.List.{AllZip}
use Rattle.images.specs.Bytes.{two, four, joined}

-- equal strings, cut after equally many bytes
pub split_at : {A : Type 0} (us vs xs ys : List A) → length us ≡ length vs → us ++ xs ≡ vs ++ ys → (us ≡ vs) × (xs ≡ ys)
split_at [] [] xs ys l e = (refl, e)
split_at [] (v ∷ vs) xs ys l e = absurd (omega arith)
split_at (u ∷ us) [] xs ys l e = absurd (omega arith)
split_at {A} (u ∷ us) (v ∷ vs) xs ys l e =
    let r = split_at us vs xs ys (omega arith) (tail-eq_of_cons-eq e) in
    (ap₂ (λ (z : A) (zs : List A). z ∷ zs) (head-eq_of_cons-eq e) r.0, r.1)

pub two_same : (a b : ℕ) → two a ≡ two b → a ≡ b
two_same a b e =
    let h : a / 256 ≡ b / 256 = cc in
    let l : a % 256 ≡ b % 256 = cc in
    omega arith

last_byte : (a b : ℕ) → a / 256 ≡ b / 256 → a % 256 ≡ b % 256 → a ≡ b
last_byte a b h l = omega arith

pub four_same : (a b : ℕ) → four a ≡ four b → a ≡ b
four_same a b e =
    let h₃ : a / 16777216 ≡ b / 16777216 = cc in
    let h₂ : a / 65536 % 256 ≡ b / 65536 % 256 = cc in
    let h₁ : a / 256 % 256 ≡ b / 256 % 256 = cc in
    let h₀ : a % 256 ≡ b % 256 = cc in
    let k₂ = last_byte (a / 65536) (b / 65536) (div-div-eq-div-mul a 65536 256 ∙ h₃ ∙ sym (div-div-eq-div-mul b 65536 256)) h₂ in
    let k₁ = last_byte (a / 256) (b / 256) (div-div-eq-div-mul a 256 256 ∙ k₂ ∙ sym (div-div-eq-div-mul b 256 256)) h₁ in
    last_byte a b k₁ h₀

-- strings of codes, of which each is as long as its counterpart
pub coded_same : {A : Type 0} (g : A → List ℕ) → ((a b : A) → g a ≡ g b → a ≡ b) → (us vs : List A) → AllZip (λ a b. length (g a) ≡ length (g b)) us vs
    → (xs ys : List ℕ) → joined (map g us) ++ xs ≡ joined (map g vs) ++ ys → (us ≡ vs) × (xs ≡ ys)
coded_same g inj [] [] w xs ys e = (refl, e)
coded_same g inj [] (v ∷ vs) w xs ys e = absurd w
coded_same g inj (u ∷ us) [] w xs ys e = absurd w
coded_same {A} g inj (u ∷ us) (v ∷ vs) w xs ys e =
    let k = split_at (g u) (g v) (joined (map g us) ++ xs) (joined (map g vs) ++ ys) w.0
    (sym (append_assoc (g u) (joined (map g us)) xs) ∙ e ∙ append_assoc (g v) (joined (map g vs)) ys) in
    let r = coded_same g inj us vs w.1 xs ys k.1 in
    (ap₂ (λ (z : A) (zs : List A). z ∷ zs) (inj u v k.0) r.0, r.1)

-- codes of one length
pub each_long : {A : Type 0} (g : A → List ℕ) (z : ℕ) → ((a : A) → length (g a) ≡ z) → (us vs : List A) → length us ≡ length vs → AllZip (λ a b. length (g a) ≡ length (g b)) us vs
each_long g z w [] [] l = tt
each_long g z w [] (v ∷ vs) l = absurd (omega arith)
each_long g z w (u ∷ us) [] l = absurd (omega arith)
each_long g z w (u ∷ us) (v ∷ vs) l = (w u ∙ sym (w v), each_long g z w us vs (omega arith))

pub length_coded : {A : Type 0} (g : A → List ℕ) (z : ℕ) → ((a : A) → length (g a) ≡ z) → (us : List A) → length (joined (map g us)) ≡ z * length us
length_coded g z w [] = omega arith
length_coded g z w (u ∷ us) = omega (arith, length-append (g u) (joined (map g us)), w u, length_coded g z w us)
