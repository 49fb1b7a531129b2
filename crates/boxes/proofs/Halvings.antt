-- How many boxes there can be, and how halving goes down.
use Rattle.std.proofs.Common.{◌≡◌, ℕ, zero, suc, ◌+◌, ◌-◌, ◌^◌, ◌<◌, ◌≤◌, Bool, true, false, [], ◌∷◌, map, length, ap, arith, pow_pos}
use Rattle.std.proofs.lemmas.List.{length-append, length-map}
use Rattle.boxes.specs.declared.grid_box.GridBox.{GridBox}
use Rattle.boxes.specs.declared.space.Space.{Space}
use Rattle.boxes.specs.Cuts.{Path, half, cuts}
use Rattle.boxes.specs.GridBoxes.{box_of, IsBox}
use Rattle.boxes.proofs.OfBoxes.{box_long}

-- at most as many boxes stop the halving as there are points
pub cuts_bound : (n : ℕ) (s : Path → Bool) (t : Bool) → length (cuts n s t) ≤ 2 ^ n
cuts_bound zero s t = omega arith
cuts_bound (suc n) s true = omega (arith, pow_pos n)
cuts_bound (suc n) s false =
    let a = cuts n (λ b. s (false ∷ b)) (s (false ∷ [])) in
    let d = cuts n (λ b. s (true ∷ b)) (s (true ∷ [])) in
    omega (
      arith,
      cuts_bound n (λ b. s (false ∷ b)) (s (false ∷ [])),
      cuts_bound n (λ b. s (true ∷ b)) (s (true ∷ [])),
      length-append (map (λ b. false ∷ b) a) (map (λ b. true ∷ b) d),
      length-map a (λ b. false ∷ b),
      length-map d (λ b. true ∷ b),
    )

-- a half is one level deeper
pub half_level : (g h : GridBox) (x : Bool) → IsBox g.space.now (half (box_of g) x) h → h.level ≡ g.level + 1
half_level g h x e = omega (arith, box_long h, ap length e.1, length-append (box_of g) (x ∷ []), box_long g)

-- so fewer halvings are left
pub half_falls : (g h : GridBox) (x : Bool) → IsBox g.space.now (half (box_of g) x) h → g.level < g.space.now.depth → h.space.now.depth - h.level < g.space.now.depth - g.level
half_falls g h x b k = omega (arith, ap (λ (u : Space). u.depth) b.0, half_level g h x b)
