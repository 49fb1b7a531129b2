-- Records written side by side.
use Rattle.std.proofs.Common.{◌≡◌, ℕ, suc, ◌+◌, ◌*◌, ◌<◌, ◌≤◌, Bool, true, false, cond, ◌&&◌, List, [], ◌∷◌, ◌++◌, length, get_or, take, drop, filter, Some, None, Option, IfSome, MatchOption, sym, refl, ap, ◌∙◌, subst, ap₂, inl, inr, append_assoc, append-nil, arith, length-append, take-append-drop, length-take}
use Rattle.std.specs.Option.{unwrap_or}
use borrow.Rule.Slice.PartMut.{put_mid}
use Rattle.std.proofs.lemmas.List.Elements.{filter_more}
use Rattle.std.proofs.lemmas.List.{drop-drop, length-take-le}
use Rattle.std.proofs.lemmas.Slice.{take-put_mid, drop-put_mid}
use Rattle.std.proofs.lemmas.Bool.{and_parts}
use Rattle.boxes.specs.Cuts.{Path, In, half, around}
use Rattle.boxes.specs.GridBoxes.{box_of, IsBox}
use Rattle.boxes.specs.Leaves.{tally, Same}
use Rattle.boxes.specs.Points.{path}
use Rattle.boxes.specs.declared.grid_box.GridBox.{GridBox}
use Rattle.boxes.proofs.Distinct.{in_kept}
use Rattle.boxes.proofs.Leaves.{tally_weaker}
use Rattle.boxes.proofs.Lows.{length_path}
use Rattle.boxes.proofs.OfBoxes.{box_long}
use Rattle.boxes.proofs.Tallies.{tally_append}
use Rattle.images.specs.Bytes.{joined}
use Rattle.kinds.specs.Meaning.{Meaning, Lawful}
use Rattle.promise.specs.Calls.{Holds, between, in_range, SideBySide}
use Rattle.promise.specs.Determined.{keys_of}
use Rattle.promise.specs.State.{State}
use Rattle.promise.proofs.Same.{same_in}
use Rattle.grid.specs.Walks.{wanted, OfKind, Written, Chosen, Laid}
use Rattle.grid.proofs.Halved.{tally_halves, tally_all}
use Rattle.grid.proofs.OfWalks.{AsMany}

pub joined_append : (xs ys : List (List ℕ)) → joined (xs ++ ys) ≡ joined xs ++ joined ys
joined_append [] ys = refl
joined_append (x ∷ xs) ys = ap (λ (z : List ℕ). x ++ z) (joined_append xs ys) ∙ sym (append_assoc x (joined xs) (joined ys))

-- nothing is written
pub written_none : (start : ℕ) (old : List ℕ) → Written start [] start old old
written_none start old = (omega arith, sym (append-nil (take start old)), refl)

-- one writing after another
pub written_more : (start middle end : ℕ) (a b old mid new : List ℕ) → Written start a middle old mid → Written middle b end mid new → Written start (a ++ b) end old new
written_more start middle end a b old mid new v w = (
  omega (arith, v.0, w.0, length-append a b),
  w.1 ∙ ap (λ (z : List ℕ). z ++ b) v.1 ∙ append_assoc (take start old) a b,
  w.2 ∙ later mid ∙ ap (drop (length b)) v.2 ∙ sym (later old),
)
  where
    later : (z : List ℕ) → drop end z ≡ drop (length b) (drop middle z)
    later z = ap (λ n. drop n z) w.0 ∙ sym (drop-drop (length b) middle z)

-- bytes written over a part of the buffer
pub written_part : (start k : ℕ) (old bytes part : List ℕ) → start + length bytes ≤ length old → k ≡ length bytes → part ≡ bytes
    → (start + length bytes ≤ length (put_mid start k old part)) × Written start bytes (start + length bytes) old (put_mid start k old part)
written_part start k old bytes part room e p =
    let long : length part ≡ length bytes = ap length p in
    let front = take-put_mid start k old part (start + length bytes) (omega arith) (omega arith) in
    let rest = drop-put_mid start k old part (start + length bytes) (omega arith) (omega arith) (omega arith) in (
      omega (arith, ap length front, length-append (take start old) part, length-take-le start old (omega arith), length-take (start + length bytes) (put_mid start k old part)),
      (refl, front ∙ ap (λ (z : List ℕ). take start old ++ z) p, rest),
    )

-- what is written ends in the buffer, and so does what was written before where nothing is
pub end_within : (o : Option ℕ) (start end : ℕ) (old new : List ℕ) → length new ≡ length old → IfSome o (λ e. e ≤ length new) → end ≡ unwrap_or o start → start ≤ length old → end ≤ length new
end_within None start end old new same h is l = omega arith
end_within (Some e) start end old new same h is l = omega arith

-- where there is room, they are written
pub put_there : (o : Option ℕ) (start : ℕ) (bytes old new : List ℕ) → MatchOption o (length old < start + length bytes) (λ end. Written start bytes end old new)
    → start + length bytes ≤ length old → Written start bytes (unwrap_or o start) old new
put_there None start bytes old new short room = absurd (omega arith)
put_there (Some end) start bytes old new w room = w

-- one record more of a page
module _ (f : List ℕ → Bool) (rs : List (List ℕ)) (i : ℕ) (here : i < length rs) where
  pub more_kept : f (get_or rs i []) ≡ true → joined (filter f (take (i + 1) rs)) ≡ joined (filter f (take i rs)) ++ get_or rs i []
  more_kept e =
      ap joined (filter_more f rs i [] here ∙ ap (λ t. filter f (take i rs) ++ cond t (get_or rs i [] ∷ []) []) e) ∙ joined_append (filter f (take i rs)) (get_or rs i [] ∷ [])
      ∙ ap (λ (z : List ℕ). joined (filter f (take i rs)) ++ z) (append-nil (get_or rs i []))

  pub none_kept : f (get_or rs i []) ≡ false → joined (filter f (take (i + 1) rs)) ≡ joined (filter f (take i rs))
  none_kept e = ap joined (filter_more f rs i [] here ∙ ap (λ t. filter f (take i rs) ++ cond t (get_or rs i [] ∷ []) []) e ∙ append-nil (filter f (take i rs)))

-- from the buffer's start on
pub side_by_side : (rs : List (List ℕ)) (end : ℕ) (old new : List ℕ) → Written 0 (joined rs) end old new → SideBySide rs old new
side_by_side rs end old new w =
    sym (take-append-drop end new) ∙ ap₂ (λ (u v : List ℕ). u ++ v) w.1 (w.2 ∙ ap (λ n. drop n old) (let e : end ≡ length (joined rs) = omega (arith, w.0) in e))

joined_long : (z : ℕ) (rs : List (List ℕ)) → ((r : List ℕ) → In r rs → length r ≡ z) → length (joined rs) ≡ z * length rs
joined_long z [] w = omega arith
joined_long z (r ∷ rs) w = omega (arith, length-append r (joined rs), w r (inl refl), joined_long z rs (λ x i. w x (inr i)))

-- the elements of a list that pass both tests
pub tally_both : {A : Type 0} (f g : A → Bool) (xs : List A) → tally g (filter f xs) ≡ tally (λ x. f x && g x) xs
tally_both f g [] = refl
tally_both f g (x ∷ xs) = go (f x) refl (tally_both f g xs)
  where
    go : (t : Bool) → f x ≡ t → tally g (filter f xs) ≡ tally (λ y. f y && g y) xs → tally g (filter f (x ∷ xs)) ≡ tally (λ y. f y && g y) (x ∷ xs)
    go t e ih = ap (λ s. tally g (cond s (x ∷ filter f xs) (filter f xs))) e ∙ num t ih ∙ sym (ap (λ s. cond (s && g x) (suc (tally (λ y. f y && g y) xs)) (tally (λ y. f y && g y) xs)) e)
      where
        num : (s : Bool) → tally g (filter f xs) ≡ tally (λ y. f y && g y) xs
            → tally g (cond s (x ∷ filter f xs) (filter f xs)) ≡ cond (s && g x) (suc (tally (λ y. f y && g y) xs)) (tally (λ y. f y && g y) xs)
        num true k = ap (λ n. cond (g x) (suc n) n) k
        num false k = k

pub tally_same : {A : Type 0} (f g : A → Bool) → ((x : A) → f x ≡ g x) → (xs : List A) → tally f xs ≡ tally g xs
tally_same f g w [] = refl
tally_same f g w (x ∷ xs) = ap₂ (λ (t : Bool) (n : ℕ). cond t (suc n) n) (w x) (tally_same f g w xs)

pub and_assoc : (x y z : Bool) → ((x && y) && z) ≡ (x && (y && z))
and_assoc true y z = refl
and_assoc false y z = refl

module _ (m : Meaning) (ls hs : List ℕ) where
  -- no record is wanted
  pub chosen_none : (b : Path) (held : List (List ℕ)) → tally (wanted m ls hs b) held ≡ 0 → Chosen m ls hs b held []
  chosen_none b held e f =
      let φ = λ (r : List ℕ). around b (path m.widths m.halvings (keys_of m r)) && (between ls hs (keys_of m r) && f r) in
      let weaker = tally_weaker φ (wanted m ls hs b) (λ r k. (and_parts (wanted m ls hs b r) (f r) (and_assoc (around b (path m.widths m.halvings (keys_of m r))) (between ls hs (keys_of m r)) (f r) ∙ k)).0) held in
      omega (arith, weaker, e)

  -- both halves
  pub chosen_halves : (g lower upper : GridBox) (held rs qs : List (List ℕ)) → OfKind m g.space.now → g.level < g.space.now.depth
      → IsBox g.space.now (half (box_of g) false) lower → IsBox g.space.now (half (box_of g) true) upper
      → Chosen m ls hs (box_of lower) held rs → Chosen m ls hs (box_of upper) held qs → Chosen m ls hs (box_of g) held (rs ++ qs)
  chosen_halves g lower upper held rs qs k l a b v w f =
      let deeper : length (box_of g) < length m.halvings = omega (arith, box_long g, g.space.now.long, ap length k.1) in
      let way = λ (r : List ℕ). path m.widths m.halvings (keys_of m r) in
      let test = λ (r : List ℕ). between ls hs (keys_of m r) && f r in
      let parts = tally_halves way test (box_of g) (λ r. omega (arith, deeper, length_path m.widths m.halvings (keys_of m r))) held in
      tally_append f rs qs ∙ ap₂ ◌+◌ (v f) (w f)
      ∙ ap₂ (λ (u z : Path). tally (λ r. around u (way r) && test r) held + tally (λ r. around z (way r) && test r) held) a.1 b.1 ∙ sym parts

  -- the same, with where they are written
  pub laid_none : (b : Path) (held : List (List ℕ)) (start : ℕ) (old : List ℕ) → tally (wanted m ls hs b) held ≡ 0 → Laid m ls hs b held start start old old
  laid_none b held start old e = ([], chosen_none b held e, λ _. written_none start old)

  pub laid_halves : (g lower upper : GridBox) (held : List (List ℕ)) (start middle end : ℕ) (old mid new : List ℕ) → length mid ≡ length old → OfKind m g.space.now → g.level < g.space.now.depth
      → IsBox g.space.now (half (box_of g) false) lower → IsBox g.space.now (half (box_of g) true) upper
      → Laid m ls hs (box_of lower) held start middle old mid → Laid m ls hs (box_of upper) held middle end mid new → Laid m ls hs (box_of g) held start end old new
  laid_halves g lower upper held start middle end old mid new long k l a b v w = (
    v.0 ++ w.0,
    chosen_halves g lower upper held v.0 w.0 k l a b v.1 w.1,
    λ room.
        let both = joined_append v.0 w.0 in
        let sum = length-append (joined v.0) (joined w.0) in
        let one = v.2 (omega (arith, room, ap length both, sum)) in
        let two = w.2 (omega (arith, room, ap length both, sum, one.0, long)) in
        subst (λ (z : List ℕ). Written start z end old new) (sym both) (written_more start middle end (joined v.0) (joined w.0) old mid new one two),
  )

  -- those wanted of a bucket
  pub chosen_bucket : (b : Path) (rs held : List (List ℕ)) → AsMany m ls hs b rs held → Chosen m ls hs b held (filter (wanted m ls hs b) rs)
  chosen_bucket b rs held many f =
      let φ = λ (r : List ℕ). around b (path m.widths m.halvings (keys_of m r)) && (between ls hs (keys_of m r) && f r) in
      let turn : (r : List ℕ) → (wanted m ls hs b r && f r) ≡ φ r = λ r. and_assoc (around b (path m.widths m.halvings (keys_of m r))) (between ls hs (keys_of m r)) (f r) in
      tally_both (wanted m ls hs b) f rs ∙ tally_same (λ r. wanted m ls hs b r && f r) φ turn rs ∙ many φ (λ r e. (and_parts (wanted m ls hs b r) (f r) (turn r ∙ e)).0)

  -- those of the whole space are those of the range
  module _ (law : Lawful m) (st : State) (held : List (List ℕ)) (h : Holds m st held) (rs : List (List ℕ)) (chosen : Chosen m ls hs [] held rs) where
    pub same_range : Same rs (in_range m ls hs held)
    same_range f = chosen f ∙ sym (tally_both (λ r. between ls hs (keys_of m r)) f held)

    pub range_long : length (joined rs) ≡ m.size * length (in_range m ls hs held)
    range_long =
        let sized : (r : List ℕ) → In r rs → length r ≡ m.size = λ r i.
        let j = (in_kept (λ x. between ls hs (keys_of m x)) r held (same_in rs (in_range m ls hs held) same_range r i)).0 in
        let ks = h.records r j in
        law.sized r ks.0 ks.1 in
        let as_many : length rs ≡ length (in_range m ls hs held) = sym (tally_all rs) ∙ same_range (λ _. true) ∙ tally_all (in_range m ls hs held) in
        joined_long m.size rs sized ∙ ap (λ n. m.size * n) as_many
