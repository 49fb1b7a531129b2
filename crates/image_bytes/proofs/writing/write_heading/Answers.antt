use Rattle.std.proofs.Common.{◌≡◌, ℕ, suc, ◌+◌, ◌-◌, ◌*◌, ◌<◌, ◌≤◌, List, [], ◌∷◌, ◌++◌, map, length, get_or, take, replicate, sym, ap, ◌∙◌, subst, refl, arith}
use Rattle.std.proofs.lemmas.List.{get_or-take}
use Rattle.images.specs.Bytes.{two, joined}
use Rattle.images.proofs.Bytes.{length_coded}
use Rattle.image_bytes.specs.Fields.{Put, count_bytes}
use Rattle.image_bytes.proofs.Numbers.{count_le, has_front}
use Rattle.image_bytes.proofs.Parsed.{counts_bytes}
use Rattle.image_bytes.proofs.Standing.{put_more}
use Rattle.image_bytes.proofs.writing.write_heading.Goals as goal

pub returns : goal.returns
returns g c =
    let d = c.args.image.now in
    let k = d.keys in
    let cs = take k d.counts in
    let ns = c.map-intervals.result in
    let m₀ = get_or c.args.mark 0 0 in
    let m₁ = get_or c.args.mark 1 0 in
    let C = joined (map count_bytes cs) in
    let zeros : ℕ → List ℕ = λ n. replicate (16 - (4 + 2 * n)) 0 in
    let map_of = c.map-intervals.ensures.items in
    let more : (i : ℕ) → i < 4 → get_or d.counts i 0 ≤ 250 → suc (get_or d.counts i 0) ≡ get_or ns i 0 = λ i l small. let call = (map_of.at i 0 0 l).2 in omega (arith, call) in
    let same : map count_bytes cs ≡ map two (take k ns) =
    counts_bytes k ns d.counts (omega (arith, map_of.long, d.few)) (has_front k d.counts d.wide)
    (λ i l. more i (omega (arith, d.few)) (omega (arith, count_le cs i, get_or-take k d.counts i 0 l, d.room, d.most_ends))) in
    let e : 4 + 2 * k ≡ 4 + length C = ap (λ n. 4 + n) (sym (length_coded count_bytes 2 (λ _. refl) cs ∙ ap (λ n. 2 * n) d.wide)) in
    let counts = subst (λ (us : List (List ℕ)). Put c.put.new.bytes 4 (joined us) c.put_all.new.bytes) (sym same) c.put_all.ensures in
    let behind = put_more c.put.new.bytes c.put_all.new.bytes c.clear.new.bytes 4 (4 + 2 * k) C (zeros k) e counts c.clear.ensures in
    subst (λ (n : ℕ). Put c.args.bytes.now 0 ((m₀ ∷ m₁ ∷ n ∷ c.args.level ∷ []) ++ (C ++ zeros n)) c.clear.new.bytes) (sym d.wide)
    (put_more c.args.bytes.now c.put.new.bytes c.clear.new.bytes 0 4 (m₀ ∷ m₁ ∷ k ∷ c.args.level ∷ []) (C ++ zeros k) refl c.put.ensures behind)
