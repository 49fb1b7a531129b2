-- The two tests of the code are those of the statement.
use Rattle.std.proofs.Common.{◌≡◌, ℕ, List, length, Some, None, Decides, Option, sym, ap, ◌∙◌, subst, arith}
use Rattle.boxes.specs.KeyRanges.{lowest_of, highest_of}
use Rattle.boxes.specs.Ranges.{Within}
use Rattle.grid.proofs.OfWalks.{in_both, in_none, of_kind}
use Rattle.grid.proofs.walk.Walk.wants.Goals as goal

pub returns-then-contains : goal.returns-then-contains
returns-then-contains g c ks e =
    let m = g.K.Kind.meaning c.args.self.now.kind.now in
    let law = g.met.K.Kind.lawful c.args.self.now.kind.now in
    let w = c.args.self.now in
    let r = c.args.bytes.now in
    let own : m.read r ≡ Some c.as_slice.result.now = sym c.in-Some.ensures ∙ ap {B = Option (List ℕ)} Some (sym c.as_slice.ensures) in
    in_both m law c.args.self.now.range c.args.self.now.inner (of_kind m w.memory.now.space w.range.space.now w.range_space w.made_for) (of_kind m w.memory.now.space w.inner.space.now w.box_space w.made_for) r c.as_slice.result.now own c.contains.result c.contains-then-contains.result c.if-contains.true c.contains.ensures (subst (λ (us : List ℕ). Decides c.contains-then-contains.result ((length us ≡ length (lowest_of c.args.self.now.range)) × Within (lowest_of c.args.self.now.range) (highest_of c.args.self.now.range) us)) (c.as_slice-then-contains.ensures ∙ sym c.as_slice.ensures) c.contains-then-contains.ensures)

pub returns-else-contains : goal.returns-else-contains
returns-else-contains g c ks e =
    let m = g.K.Kind.meaning c.args.self.now.kind.now in
    let law = g.met.K.Kind.lawful c.args.self.now.kind.now in
    let w = c.args.self.now in
    let r = c.args.bytes.now in
    let own : m.read r ≡ Some c.as_slice.result.now = sym c.in-Some.ensures ∙ ap {B = Option (List ℕ)} Some (sym c.as_slice.ensures) in
    c.if-contains.false ∙ in_none m law c.args.self.now.range c.args.self.now.inner (of_kind m w.memory.now.space w.range.space.now w.range_space w.made_for) (of_kind m w.memory.now.space w.inner.space.now w.box_space w.made_for) r c.as_slice.result.now own c.contains.result c.if-contains.false c.contains.ensures

pub returns-in-None : goal.returns-in-None
returns-in-None g c ks e =
    let m = g.K.Kind.meaning c.args.self.now.kind.now in
    let none : ◌≡◌ {A = Option (List ℕ)} None (Some ks) = c.in-None.ensures ∙ e in
    absurd (let z : ◌≡◌ {A = ℕ} 0 1 = cc in omega arith)
