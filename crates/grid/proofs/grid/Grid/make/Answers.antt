-- The new pages stand for the empty set.
use Rattle.std.proofs.Common.{ℕ, ◌≤◌, Some, refl, subst, arith}
use Rattle.promise.specs.State.{size_of}
use Rattle.grid.specs.Fresh.{FreshMemory}
use Rattle.grid.specs.Grids.{state}
use Rattle.grid.specs.declared.grid.Grid.{Grid}
use Rattle.grid.proofs.OfFresh.{makes}
use Rattle.grid.proofs.grid.Grid.make.Goals as goal

pub returns : goal.returns
returns g c =
    let self = c.args.self.now in
    let m = g.K.Kind.meaning self.kind in
    let law = g.met.K.Kind.lawful self.kind in
    let mem = c.fresh_memory-memory.result in
    let s = c.space.result in
    let st = state (g.S.PageStore.pages c.args.store.now) self in
    let made : Grid g.row.K.Denot = record { kind = self.kind; made = Some mem } in
    let after = state (g.S.PageStore.pages c.write_fresh_pages.new.store) made in
    let counted = c.count-pages.ensures.counted in
    let enough : 10 ≤ size_of st = omega (arith, counted) in
    let most : size_of st ≤ 32768 = omega (arith, counted) in
    let f = subst (λ (n : ℕ). FreshMemory s n mem) counted c.fresh_memory-memory.ensures in
    let k = makes m s mem st after c.space.ensures.widths c.space.ensures.halvings enough f c.write_fresh_pages.ensures refl (g.S.PageStore.whole c.write_fresh_pages.new.store)
    c.fresh_stands.ensures.fresh law most in
    record { makes = k; kind = refl; lasting = λ _. c.every_run.ensures.lasting m law st after k }
