-- Each is put behind those before it.
use Rattle.std.proofs.Common.{ℕ, ◌+◌, ◌*◌, List, refl, ap, ◌∙◌, subst}
use Rattle.image_bytes.specs.Fields.{Put}
use Rattle.image_bytes.proofs.Standing.{put_none, written_more, written_all}
use Rattle.image_bytes.proofs.fields.put_all.Goals as goal

pub loop-i-init : goal.loop-i-init
loop-i-init g c = put_none c.args.bytes.now c.args.at

pub loop-i-preserved : goal.loop-i-preserved
loop-i-preserved g c =
    let i = c.loop-i.i in
    let x = c.index-items-i in
    written_more g.T.Coded.code g.row.N g.met.T.Coded.wide c.args.bytes.now c.loop-i.bytes c.put.new.bytes c.args.at (c.args.at + g.row.N * i) i c.args.items.now x.result c.loop-i-test.true refl c.loop-i.invariant
    (subst (λ (us : List ℕ). Put c.loop-i.bytes (c.args.at + g.row.N * i) us c.put.new.bytes) (c.to_bytes.ensures ∙ ap g.T.Coded.code x.is) c.put.ensures)

pub returns : goal.returns
returns g c = written_all g.T.Coded.code g.row.N g.met.T.Coded.wide c.args.bytes.now c.loop-i.bytes c.args.at c.loop-i.i c.args.items.now c.loop-i-test.false c.loop-i.invariant
