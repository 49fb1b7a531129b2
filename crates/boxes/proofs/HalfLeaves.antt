-- The leaf boxes of the points in a box: itself, or those in its halves.
use Rattle.std.proofs.Common.{◌≡◌, ℕ, zero, suc, ◌+◌, ◌-◌, ◌<◌, ◌≤◌, Bool, true, false, ◌&&◌, leb, List, [], ◌∷◌, ◌++◌, map, length, get_or, take, drop, sym, refl, ap, ◌∙◌, subst, ap₂, arith}
use mathlib.Core.Path.{fun_ext}
use Rattle.std.specs.List.{AllByRecursion}
use Rattle.std.proofs.ByRecursion.{All-weaker}
use Rattle.std.proofs.lemmas.List.{drop_more, length-map, take-append-drop}
use Rattle.std.proofs.lemmas.Bool.{le-leb, lt-leb}
use Rattle.boxes.specs.declared.keys.Keys.{Keys}
use Rattle.boxes.specs.declared.space.Space.{Space}
use Rattle.boxes.specs.Cuts.{Path, cuts, around, same}
use Rattle.boxes.specs.KeyLists.{way_of, ways_on, keys_of}
use Rattle.boxes.specs.Leaves.{count, few, leaves, tally}
use Rattle.boxes.specs.Parts.{side, Parted}
use Rattle.boxes.specs.Spaces.{widths_of, order_of}
use Rattle.boxes.specs.Surveys.{leaves_in}
use Rattle.boxes.proofs.Lows.{length_path}
use Rattle.boxes.proofs.Tallies.{same_shuffled, tally_append, tally_map, tally_agree, tally_none}

pub length_way : (s : Space) (p : Keys) → length (way_of s p) ≡ s.depth
length_way s p = length_path (widths_of s) (order_of s) (keys_of p) ∙ s.long

count_all : (hs : List Path) → count [] hs ≡ length hs
count_all [] = refl
count_all (p ∷ hs) = ap suc (count_all hs)

-- boxes in the two halves, as seen from the box
abbrev pub both : List Path → List Path → List Path
both ls us = map (λ d. false ∷ d) ls ++ map (λ d. true ∷ d) us

pub leaves_alone : (n c : ℕ) (hs : List Path) → length hs ≤ c → leaves n c hs ≡ [] ∷ []
leaves_alone zero c hs h = refl
leaves_alone (suc n) c hs h =
    let e : few c hs [] ≡ true = le-leb (count [] hs) c (omega (arith, count_all hs)) in
    subst (λ t. cuts (suc n) (few c hs) t ≡ [] ∷ []) (sym e) refl

-- a box with few points is a leaf box, and so is a box of full level
module _ (s : Space) (l c : ℕ) (ps : List Keys) where
  pub leaf_few : length ps ≤ c → leaves_in s l c ps ≡ [] ∷ []
  leaf_few h = leaves_alone (s.depth - l) c (ways_on s l ps) (omega (arith, length-map ps (λ p. drop l (way_of s p))))

  pub leaf_point : l ≡ s.depth → leaves_in s l c ps ≡ [] ∷ []
  leaf_point e = let z : s.depth - l ≡ 0 = omega arith in ap (λ n. leaves n c (ways_on s l ps)) z

-- points that stand by their halves
pub front_all : (P : Keys → Type 0) (qs : List Keys) (r : ℕ) → ((i : ℕ) (d : Keys) → i < r → P (get_or qs i d)) → r ≤ length qs → AllByRecursion P (take r qs)
front_all P [] zero w h = tt
front_all P [] (suc r) w h = absurd (omega arith)
front_all P (q ∷ qs) zero w h = tt
front_all P (q ∷ qs) (suc r) w h = (w 0 q (omega arith), front_all P qs r (λ i d k. w (suc i) d (omega arith)) (omega arith))

pub back_all : (P : Keys → Type 0) (qs : List Keys) (r : ℕ) → ((i : ℕ) (d : Keys) → r ≤ i → i < length qs → P (get_or qs i d)) → AllByRecursion P (drop r qs)
back_all P [] zero w = tt
back_all P [] (suc r) w = tt
back_all P (q ∷ qs) zero w = (w 0 q (omega arith) (omega arith), back_all P qs zero (λ i d k h. w (suc i) d (omega arith) (omega arith)))
back_all P (q ∷ qs) (suc r) w = back_all P qs r (λ i d k h. w (suc i) d (omega arith) (omega arith))

module _ (s : Space) (l : ℕ) (k : l < s.depth) where
  -- a box in a half, by the side on which a point lies
  around_side : (x : Bool) (d : Path) (p : Keys) → around (x ∷ d) (drop l (way_of s p)) ≡ same x (side s l p) && around d (drop (l + 1) (way_of s p))
  around_side x d p = ap (around (x ∷ d)) (drop_more (way_of s p) l false (omega (arith, length_way s p)))

  on_side : (x : Bool) (d : Path) (p : Keys) → side s l p ≡ x → around (x ∷ d) (drop l (way_of s p)) ≡ around d (drop (l + 1) (way_of s p))
  on_side true d p e = around_side true d p ∙ ap (λ t. same true t && around d (drop (l + 1) (way_of s p))) e
  on_side false d p e = around_side false d p ∙ ap (λ t. same false t && around d (drop (l + 1) (way_of s p))) e

  off_side : (d : Path) (p : Keys) → (side s l p ≡ true → around (false ∷ d) (drop l (way_of s p)) ≡ false) × (side s l p ≡ false → around (true ∷ d) (drop l (way_of s p)) ≡ false)
  off_side d p = (
    λ e. around_side false d p ∙ ap (λ t. same false t && around d (drop (l + 1) (way_of s p))) e,
    λ e. around_side true d p ∙ ap (λ t. same true t && around d (drop (l + 1) (way_of s p))) e,
  )

  module _ (ps qs : List Keys) (r : ℕ) (p : Parted s l ps qs r) where
    lowers : AllByRecursion (λ q. side s l q ≡ false) (take r qs)
    lowers = front_all (λ q. side s l q ≡ false) qs r p.lower p.within

    uppers : AllByRecursion (λ q. side s l q ≡ true) (drop r qs)
    uppers = back_all (λ q. side s l q ≡ true) qs r p.upper

    split_tally : (f : Keys → Bool) → tally f ps ≡ tally f (take r qs) + tally f (drop r qs)
    split_tally f = same_shuffled ps qs p.same_points f ∙ ap (tally f) (sym (take-append-drop r qs)) ∙ tally_append f (take r qs) (drop r qs)

    counted : (m : ℕ) (d : Path) (us : List Keys) → count d (ways_on s m us) ≡ tally (λ q. around d (drop m (way_of s q))) us
    counted m d us = tally_map (around d) (λ q. drop m (way_of s q)) us

    count_lower : (d : Path) → count (false ∷ d) (ways_on s l ps) ≡ count d (ways_on s (l + 1) (take r qs))
    count_lower d =
        omega (
          arith,
          counted l (false ∷ d) ps,
          split_tally (λ q. around (false ∷ d) (drop l (way_of s q))),
          tally_agree (λ q. around (false ∷ d) (drop l (way_of s q))) (λ q. around d (drop (l + 1) (way_of s q))) (take r qs)
              (All-weaker (λ q. side s l q ≡ false) (λ q. around (false ∷ d) (drop l (way_of s q)) ≡ around d (drop (l + 1) (way_of s q))) (on_side false d) (take r qs) lowers),
          tally_none (λ q. around (false ∷ d) (drop l (way_of s q))) (drop r qs)
              (All-weaker (λ q. side s l q ≡ true) (λ q. around (false ∷ d) (drop l (way_of s q)) ≡ false) (λ q. (off_side d q).0) (drop r qs) uppers),
          counted (l + 1) d (take r qs),
        )

    count_upper : (d : Path) → count (true ∷ d) (ways_on s l ps) ≡ count d (ways_on s (l + 1) (drop r qs))
    count_upper d =
        omega (
          arith,
          counted l (true ∷ d) ps,
          split_tally (λ q. around (true ∷ d) (drop l (way_of s q))),
          tally_agree (λ q. around (true ∷ d) (drop l (way_of s q))) (λ q. around d (drop (l + 1) (way_of s q))) (drop r qs)
              (All-weaker (λ q. side s l q ≡ true) (λ q. around (true ∷ d) (drop l (way_of s q)) ≡ around d (drop (l + 1) (way_of s q))) (on_side true d) (drop r qs) uppers),
          tally_none (λ q. around (true ∷ d) (drop l (way_of s q))) (take r qs)
              (All-weaker (λ q. side s l q ≡ false) (λ q. around (true ∷ d) (drop l (way_of s q)) ≡ false) (λ q. (off_side d q).1) (take r qs) lowers),
          counted (l + 1) d (drop r qs),
        )

    -- a box with more points has the leaf boxes in its halves
    pub leaves_parted : (c : ℕ) → c < length ps → leaves_in s l c ps ≡ both (leaves_in s (l + 1) c (take r qs)) (leaves_in s (l + 1) c (drop r qs))
    leaves_parted c h =
        let n = s.depth - (l + 1) in
        let hs = ways_on s l ps in
        let z : s.depth - l ≡ suc n = omega arith in
        let e : few c hs [] ≡ false = lt-leb (count [] hs) c (omega (arith, count_all hs, length-map ps (λ q. drop l (way_of s q)))) in
        let low : cuts n (λ d. few c hs (false ∷ d)) (few c hs (false ∷ [])) ≡ leaves_in s (l + 1) c (take r qs) = ap (λ f. cuts n f (f [])) (fun_ext (λ d. ap (λ m. leb m c) (count_lower d))) in
        let high : cuts n (λ d. few c hs (true ∷ d)) (few c hs (true ∷ [])) ≡ leaves_in s (l + 1) c (drop r qs) = ap (λ f. cuts n f (f [])) (fun_ext (λ d. ap (λ m. leb m c) (count_upper d))) in
        ap (λ m. leaves m c hs) z
        ∙ ap (cuts (suc n) (few c hs)) e
        ∙ ap₂ both low high
