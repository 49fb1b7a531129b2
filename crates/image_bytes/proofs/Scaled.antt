-- Scales and the numbers of their ends, side by side.
use Rattle.std.proofs.Common.{◌≡◌, ℕ, zero, suc, ◌+◌, ◌*◌, ◌≤◌, List, [], ◌∷◌, ◌++◌, map, length, get_or, take, drop, sym, refl, ap, ◌∙◌, ap₂, arith, length-append, length-drop}
use Rattle.std.proofs.lemmas.List.{length-take-le, take_at, drop_at, take-take, drop-take, map-append}
use Rattle.images.specs.Bytes.{four, joined}
use Rattle.images.specs.Directory.{Tile, inner, intervals}
use Rattle.images.specs.Memory.{tile}
use Rattle.images.specs.Parts.{parted, total}
use Rattle.images.specs.Tilings.{listed}
use Rattle.images.specs.declared.held_image.Named.{Named}
use Rattle.images.specs.Parts.{product}
use Rattle.image_bytes.proofs.Standing.{take_two, joined_append}

pub lengths_parted : (cs xs : List ℕ) → total cs ≤ length xs → map length (parted cs xs) ≡ cs
lengths_parted [] xs l = refl
lengths_parted (c ∷ cs) xs l =
    ap₂ (λ (n : ℕ) (ns : List ℕ). n ∷ ns) (length-take-le c xs (omega arith)) (lengths_parted cs (drop c xs) (omega (arith, length-drop c xs)))

pub joined_parted : (cs xs : List ℕ) → joined (parted cs xs) ≡ take (total cs) xs
joined_parted [] xs = refl
joined_parted (c ∷ cs) xs = ap (λ (us : List ℕ). take c xs ++ us) (joined_parted cs (drop c xs)) ∙ sym (take_two c (total cs) xs)

pub parted_joined : (es : List (List ℕ)) → parted (map length es) (joined es) ≡ es
parted_joined [] = refl
parted_joined (e ∷ es) =
    ap₂ (λ (u : List ℕ) (us : List (List ℕ)). u ∷ us) (take_at e (joined es) (length e) refl)
    (ap (parted (map length es)) (drop_at e (joined es) (length e) refl) ∙ parted_joined es)

pub parted_front : (cs xs : List ℕ) → parted cs (take (total cs) xs) ≡ parted cs xs
parted_front [] xs = refl
parted_front (c ∷ cs) xs =
    ap₂ (λ (u : List ℕ) (us : List (List ℕ)). u ∷ us) (take-take c (c + total cs) xs (omega arith))
    (ap (parted cs) (drop-take c (total cs) xs) ∙ parted_front cs (drop c xs))

pub total_lengths : (es : List (List ℕ)) → total (map length es) ≡ inner es
total_lengths [] = refl
total_lengths (e ∷ es) = ap (λ n. length e + n) (total_lengths es)

pub cells_lengths : (es : List (List ℕ)) → product (map length es) ≡ intervals es
cells_lengths [] = refl
cells_lengths (e ∷ es) = ap (λ n. suc (length e) * n) (cells_lengths es)

pub length_joined : (es : List (List ℕ)) → length (joined es) ≡ inner es
length_joined [] = refl
length_joined (e ∷ es) = length-append e (joined es) ∙ ap (λ n. length e + n) (length_joined es)

-- the ends of all keys, in bytes
pub ends_joined : (es : List (List ℕ)) → joined (map (λ e. joined (map four e)) es) ≡ joined (map four (joined es))
ends_joined [] = refl
ends_joined (e ∷ es) =
    ap (λ (us : List ℕ). joined (map four e) ++ us) (ends_joined es)
    ∙ sym (joined_append (map four e) (map four (joined es))) ∙ ap joined (sym (map-append four e (joined es)))

-- the cells that an image in memory uses
pub listed_cells : (c : ℕ) (ns : List Named) → c ≤ length ns → listed c (λ m. tile (get_or ns m (record { page = 0; level = 0 }))) ≡ map tile (take c ns)
listed_cells zero ns l = refl
listed_cells (suc c) [] l = absurd (omega arith)
listed_cells (suc c) (n ∷ ns) l = ap (λ (us : List Tile). tile n ∷ us) (listed_cells c ns (omega arith))
