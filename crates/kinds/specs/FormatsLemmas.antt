-- The law of a format's meaning, once for all kinds.
use Rattle.std.specs.Prelude.{◌≡◌, ℕ, zero, suc, ◌+◌, ◌*◌, ◌^◌, ◌<◌, ◌≤◌, Bool, true, false, cond, ◌&&◌, leb, List, [], ◌∷◌, length, Some, None, sum, ◌==◌, nat_le, nat_lt, slice_index, refl}
use Rattle.std.proofs.Common.{ap, subst, arith, lit<, Fits}
use Rattle.std.specs.Int.{w8}
use Rattle.std.proofs.lemmas.Bool.{and_parts, and_from, eqb-true, leb-true, ltb-true, lt-ltb}
use Rattle.std.specs.List.{AllZip}
use Rattle.boxes.specs.Order.{order}
use Rattle.boxes.specs.Points.{Point}
use Rattle.boxes.proofs.Order.{order_names, names_length}
use Rattle.kinds.specs.Fields.{byte, within}
use Rattle.kinds.specs.Formats.{Format, are_bytes, sized, is_record, meaning_of}
use Rattle.kinds.specs.Meaning.{Lawful}

-- bytes, by the test and one by one
pub bytes_tell : (bs : List ℕ) → ((i : ℕ) → Fits w8 (byte bs i)) → are_bytes bs ≡ true
bytes_tell [] h = refl
bytes_tell (b ∷ bs) h = and_from (nat_lt b 256) (are_bytes bs) (lt-ltb b 256 (omega (arith, h 0))) (bytes_tell bs (λ i. h (suc i)))

pub bytes_told : (bs : List ℕ) → are_bytes bs ≡ true → (i : ℕ) → byte bs i < 256
bytes_told [] t i = lit< tt
bytes_told (b ∷ bs) t zero = ltb-true b 256 (and_parts (nat_lt b 256) (are_bytes bs) t).0
bytes_told (b ∷ bs) t (suc i) = bytes_told bs (and_parts (nat_lt b 256) (are_bytes bs) t).1 i

-- What a record of a format is.
record Parts (f : Format) (bs ks : List ℕ) : Type 0 where
  small : (i : ℕ) → byte bs i < 256
  long : length bs ≡ f.size
  accepted : f.accepts bs ≡ true
  same : f.keys bs ≡ ks

cond_some : {X : Type 0} (t : Bool) (x y : X) → cond t (Some x) None ≡ Some y → (t ≡ true) × (x ≡ y)
cond_some true x y e = (refl, cc)
cond_some false x y e = absurd (let z : ◌≡◌ {A = ℕ} 0 1 = cc in omega arith)

parts : (f : Format) (bs ks : List ℕ) → (meaning_of f).read bs ≡ Some ks → Parts f bs ks
parts f bs ks e =
    let p = cond_some (is_record f bs) (f.keys bs) ks e in
    let q = and_parts (sized f.size bs) (f.accepts bs) p.0 in
    let r = and_parts (are_bytes bs) (length bs == f.size) q.0 in
    record { small = bytes_told bs r.0; long = eqb-true (length bs) f.size r.1; accepted = q.1; same = p.1 }

-- Keys that are inside the widths one by one are those of a point.
long_each : (ws ks : List ℕ) → AllZip (λ w k. k < 2 ^ w) ws ks → length ks ≡ length ws
long_each [] [] e = refl
long_each [] (k ∷ ks) e = absurd e
long_each (w ∷ ws) [] e = absurd e
long_each (w ∷ ws) (k ∷ ks) e = ap suc (long_each ws ks e.1)

inside_each : (ws ks : List ℕ) → AllZip (λ w k. k < 2 ^ w) ws ks → (i : ℕ) → i < length ws → slice_index ks i < 2 ^ slice_index ws i
inside_each [] [] e i h = absurd (omega arith)
inside_each [] (k ∷ ks) e i h = absurd e
inside_each (w ∷ ws) [] e i h = absurd e
inside_each (w ∷ ws) (k ∷ ks) e zero h = e.0
inside_each (w ∷ ws) (k ∷ ks) e (suc i) h = inside_each ws ks e.1 i (omega arith)

-- The bounds of the numbers that a format states, as one test.
abbrev pub each_within : List ℕ → Bool
each_within [] = true
each_within (w ∷ ws) = within 1 32 w && each_within ws

abbrev pub in_bounds : Format → Bool
in_bounds f =
    within 1 4 (length f.widths) && each_within f.widths && nat_le (sum f.widths) 60 && within 3 252 f.size && nat_le 1 f.capacity && nat_le (4 + f.capacity * f.size) 512

within_tells : (a b n : ℕ) → within a b n ≡ true → (a ≤ n) × (n ≤ b)
within_tells a b n t = let p = and_parts (nat_le a n) (nat_le n b) t in (leb-true a n p.0, leb-true n b p.1)

each_within_at : (ws : List ℕ) → each_within ws ≡ true → (i : ℕ) → i < length ws → (1 ≤ slice_index ws i) × (slice_index ws i ≤ 32)
each_within_at [] t i h = absurd (omega arith)
each_within_at (w ∷ ws) t zero h = within_tells 1 32 w (and_parts (within 1 32 w) (each_within ws) t).0
each_within_at (w ∷ ws) t (suc i) h = each_within_at ws (and_parts (within 1 32 w) (each_within ws) t).1 i (omega arith)

-- A format's meaning is lawful if its numbers are in bounds, which `refl` shows, and the keys of what it accepts are inside their widths.
pub lawful_of : (f : Format) → in_bounds f ≡ true
    → ((bs : List ℕ) → ((i : ℕ) → byte bs i < 256) → length bs ≡ f.size → f.accepts bs ≡ true → AllZip (λ w k. k < 2 ^ w) f.widths (f.keys bs))
    → Lawful (meaning_of f)
lawful_of f t inside =
    let k = within 1 4 (length f.widths) in
    let w = each_within f.widths in
    let s = leb (sum f.widths) 60 in
    let z = within 3 252 f.size in
    let c = leb 1 f.capacity in
    let r = leb (4 + f.capacity * f.size) 512 in
    let p5 = and_parts (k && w && s && z && c) r t in
    let p4 = and_parts (k && w && s && z) c p5.0 in
    let p3 = and_parts (k && w && s) z p4.0 in
    let p2 = and_parts (k && w) s p3.0 in
    let p1 = and_parts k w p2.0 in
    let keys = within_tells 1 4 (length f.widths) p1.0 in
    let sizes = within_tells 3 252 f.size p3.1 in
    record {
      some_keys = keys.0;
      few_keys = keys.1;
      wide = each_within_at f.widths p1.1;
      in_rounds = refl;
      shallow = omega (arith, names_length f.widths (order f.widths) (order_names f.widths), leb-true (sum f.widths) 60 p2.1);
      least_size = sizes.0;
      most_size = sizes.1;
      some_room = leb-true 1 f.capacity p4.1;
      room = leb-true (4 + f.capacity * f.size) 512 p5.1;
      sized = λ bs ks e. (parts f bs ks e).long;
      keyed = λ bs ks e. let p = parts f bs ks e in
          let each = inside bs p.small p.long p.accepted in
          subst (Point f.widths) p.same (record { long = long_each f.widths (f.keys bs) each; inside = inside_each f.widths (f.keys bs) each });
    }
