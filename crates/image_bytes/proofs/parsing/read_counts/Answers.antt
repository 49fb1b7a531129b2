-- Each number of intervals is one more than a count.
use Rattle.std.proofs.Common.{◌≡◌, ℕ, ◌-◌, ◌<◌, List, map, length, get_or, take, sym, refl, subst, arith, eqb-true, rules}
use Rattle.std.proofs.lemmas.List.{length-take-le, get_or-take}
use Rattle.images.specs.Bytes.{two, joined}
use Rattle.image_bytes.specs.Fields.{Stands, count_bytes}
use Rattle.image_bytes.proofs.Parsed.{some_number, counts_bytes, no_count}
use Rattle.image_bytes.proofs.Standing.{code_at}
use Rattle.image_bytes.proofs.parsing.read_counts.Goals as goal

pub returns-then-contains : goal.returns-then-contains
returns-then-contains c = λ cs long all.
    let k = c.args.keys in
    let bs = c.args.bytes.now in
    let ns = c.fields-intervals.result in
    let hit = c.if-contains.ensures.cases in
    let many : length (take k ns) ≡ k = length-take-le k ns (omega (arith, c.fields-intervals.ensures.long, c.requires.keys_bound)) in
    let here = code_at two 2 (λ _. refl) bs 4 (take k ns) hit.0 0 hit.1 c.fields-intervals.ensures.read in
    no_count bs cs k hit.0 (get_or (take k ns) hit.0 0) (omega (arith, hit.1, many)) (eqb-true (get_or (take k ns) hit.0 0) 0 (hit.2 0)) here long all

pub returns : goal.returns
returns c =
    let k = c.args.keys in
    let bs = c.args.bytes.now in
    let ns = c.fields-intervals.result in
    let cs = c.map.result in
    let map_of = c.map.ensures.items in
    let many : length (take k ns) ≡ k = length-take-le k ns (omega (arith, c.fields-intervals.ensures.long, c.requires.keys_bound)) in
    let less : (i : ℕ) → i < 4 → get_or cs i 0 ≡ get_or ns i 0 - 1 = λ i l. let call = (map_of.at i 0 0 l).2 in search rules in
    let same : map count_bytes (take k cs) ≡ map two (take k ns) =
    counts_bytes k ns cs (omega (arith, c.fields-intervals.ensures.long, c.requires.keys_bound)) (omega (arith, map_of.long, c.requires.keys_bound))
    (λ i l.
    let some = some_number (get_or (take k ns) i 0) (c.if-contains.ensures.cases i 0 (omega arith) (omega (arith, many))) in
    let here = get_or-take k ns i 0 l in
    omega (arith, less i (omega (arith, c.requires.keys_bound)), some, here)) in
    record {
      four_keys = map_of.long;
      stand = subst (λ (us : List (List ℕ)). Stands bs 4 (joined us)) (sym same) c.fields-intervals.ensures.read;
    }
