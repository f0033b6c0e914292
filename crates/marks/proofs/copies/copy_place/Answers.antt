use Rattle.std.proofs.Common.{arith}
use Rattle.marks.proofs.Copying.{stroke_opened, stroke_closed}
use Rattle.marks.proofs.copies.copy_place.Goals as goal
use Rattle.marks.proofs.copies.copy_place.Goals.{then-look, else-look}

pub loop-stroke-preserved : goal.loop-stroke-preserved
loop-stroke-preserved g c =
    let laws = g.B.Sheet.laws in
    let f = g.A.Sheet.shown c.args.from.now in
    let p = c.args.place in
    let k = c.loop-stroke.stroke in
    let inv = c.loop-stroke.invariant in
    elim c.if-look.branch [
      | then-look w ↦ rw w.to-is (stroke_opened laws f inv.1 w.open.ensures.memory p k (omega arith) inv.0 (rw (← c.look.ensures) w.if-look.true) w.open.ensures.pairs)
      | else-look w ↦ rw w.to-is (stroke_closed laws f inv.1 w.close.ensures.memory p k (omega arith) inv.0 (rw (← c.look.ensures) w.if-look.false) w.close.ensures.pairs)
    ]
