use Rattle.std.proofs.Common.{◌∙◌, ◌+◌, arith}
use Rattle.marks.proofs.Copying.{before_all, place_done}
use Rattle.marks.proofs.copies.copy.Goals as goal

pub loop-place-preserved : goal.loop-place-preserved
loop-place-preserved g c =
    let inv = c.loop-place.invariant in
    place_done g.B.Sheet.laws (g.A.Sheet.shown c.args.from.now) inv.1 c.copy_place.ensures.memory c.loop-place.place (omega arith) inv.0 c.copy_place.ensures.pairs

pub returns-2-clause-pairs : goal.returns-2-clause-pairs
returns-2-clause-pairs g c =
    let b = g.B.Sheet in
    let start = c.args.to.now in
    let f = g.A.Sheet.shown c.args.from.now in
    let p = c.loop-place.place in
    let inv = c.loop-place.invariant in
    (place_done b.laws f inv.1 c.copy_place.ensures.memory p (omega arith) inv.0 c.copy_place.ensures.pairs).0
    ∙ before_all (b.places start) f (b.shown start) (p + 1) (omega arith) (b.laws.within start)

pub returns-2-clause-memory : goal.returns-2-clause-memory
returns-2-clause-memory g c =
    let inv = c.loop-place.invariant in
    (place_done g.B.Sheet.laws (g.A.Sheet.shown c.args.from.now) inv.1 c.copy_place.ensures.memory c.loop-place.place (omega arith) inv.0 c.copy_place.ensures.pairs).1
