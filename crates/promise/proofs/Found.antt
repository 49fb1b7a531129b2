-- What a find answers, and that it rests on two pages.
use Rattle.std.proofs.Common.{◌≡◌, ℕ, List, [], length, get_or, Some, None, Ok, Option, Result, sym, refl, ap, ◌∙◌, subst, inl, inr, arith}
use Rattle.boxes.specs.Cuts.{In}
use Rattle.boxes.specs.Points.{Point}
use Rattle.boxes.specs.Space.{Lies}
use Rattle.kinds.specs.Meaning.{Meaning, Lawful}
use Rattle.images.specs.Directory.{tile_at}
use Rattle.buckets.specs.Bucket.{record_at}
use Rattle.promise.specs.State.{State, page, box_around}
use Rattle.promise.specs.Calls.{Holds, Finds}
use Rattle.promise.specs.Promise.{Found, AlikeAt}
use Rattle.promise.specs.declared.refusal.Refusal.{Refusal}
use Rattle.images.proofs.Scales.{in_get_or, get_or_in}
use Rattle.promise.proofs.Tests.{tell_point}
use Rattle.promise.proofs.Pages.{Below, At, Place, root_in, made_over, at, answer, one_first, keys_are}

module _ (below : Below) (m : Meaning) (law : Lawful m) (st : State) (held : List (List ℕ)) (h : Holds m st held) where
  place_found : (ks : List ℕ) (a : At m st (root_in below m law st held h) held ks) (new : List ℕ) (o : Option ℕ) → Place m a.records ks o → new ≡ page st (tile_at a.image ks).page
      → Found m held ks new (Ok o)
  place_found ks a new None v e = λ k.
      let x = k.0 in
      let i = (a.exact x).1 k.1 (subst (Lies m.widths m.halvings (box_around m (tile_at a.image ks) ks)) (sym (keys_are m x ks k.2)) a.in_leaf) in
      let j = in_get_or x a.records [] i in
      v j.0 j.1 (ap (λ r. m.read r) (sym j.2) ∙ k.2)
  place_found ks a new (Some j) v e =
      let box = box_around m (tile_at a.image ks) ks in
      let p : record_at m new j ≡ get_or a.records j [] =
      ap (λ bs. record_at m bs j) e ∙ below.places m (length box) a.records (page st (tile_at a.image ks).page) j law a.bucket.holds v.0 in
      let i = ((a.exact (get_or a.records j [])).0 (get_or_in a.records j [] v.0)).0 in
      (omega (arith, v.0, a.bucket.holds.few), subst (λ r. In r held) (sym p) i, subst (λ r. m.read r ≡ Some ks) (sym p) v.1)

  pub found : (ks old new : List ℕ) (r : Result (Option ℕ) Refusal) (after : State) → Point m.widths ks → Finds m ks st old r new after → Found m held ks new r
  found ks old new r after p f =
      let a = at below m law st held h ks p in
      let k = answer below m law st held h ks p a st after refl refl refl refl old new r f in
      subst (λ s. Found m held ks new s) (sym k.1) (place_found ks a new k.0 k.2 k.3)

  pub two_pages : (other : State) (ks : List ℕ) → AlikeAt m st other ks
      → (old new new' : List ℕ) (r r' : Result (Option ℕ) Refusal) (after after' : State) → Finds m ks st old r new after → Finds m ks other old r' new' after' → (r ≡ r') × (new ≡ new')
  two_pages other ks alike old new new' r r' after after' f f' = elim (tell_point m.widths ks) [
    | inl p ↦
        let a = at below m law st held h ks p in
        let k = answer below m law st held h ks p a st after refl refl refl refl old new r f in
        let root = root_in below m law st held h in
        let k' = answer below m law st held h ks p a other after' alike.memory alike.as_many
        (alike.directory_page (box_around m (tile_at root ks) ks) (tile_at root ks).page p a.in_directory a.directory)
        (alike.bucket_page (box_around m (tile_at a.image ks) ks) (tile_at a.image ks).page p a.in_leaf a.leaf) old new' r' f' in
        let e = one_first (λ j. m.read (get_or a.records j []) ≡ Some ks) (length a.records) k.0 k'.0 k.2 k'.2 in
        (k.1 ∙ ap (λ (o : Option ℕ). Ok o) e ∙ sym k'.1, k.3 ∙ sym k'.3)
    | inr n ↦
        let k = f.bad_keys h.mem h.made n in
        let k' = f'.bad_keys h.mem (made_over m st other h.mem h.made alike.memory alike.as_many) n in
        (k.0 ∙ sym k'.0, k.1 ∙ sym k'.1)
  ]
