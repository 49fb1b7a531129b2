-- Each is read behind those before it.
use Rattle.std.proofs.Common.{refl, ◌∙◌, arith, length-set}
use Rattle.image_bytes.proofs.Standing.{read_more}
use Rattle.image_bytes.proofs.fields.fields.Goals as goal

pub loop-i-init : goal.loop-i-init
loop-i-init g c = (refl, refl)

pub loop-i-preserved : goal.loop-i-preserved
loop-i-preserved g c =
    let inv = c.loop-i.invariant in
    let i = c.loop-i.i in (
      length-set c.loop-i.item-items i c.field.result ∙ inv.0,
      read_more g.T.Coded.code g.row.N g.met.T.Coded.wide c.args.bytes.now c.args.at i c.loop-i.item-items c.field.result (omega (arith, inv.0)) inv.1 c.field.ensures,
    )
