use Rattle.std.proofs.Common.{arith}
use Rattle.sheet.proofs.Sets.{between_less}
use Rattle.lending.proofs.Closing.{below_less, below_closed, below_passed}
use Rattle.lending.proofs.closings.close_all_but.Goals as goal
use Rattle.lending.proofs.closings.close_all_but.Goals.{then-letter-stroke, else-letter-stroke}

pub loop-letter-preserved : goal.loop-letter-preserved
loop-letter-preserved g c =
    let s = g.S.Sheet in
    let start = c.args.sheet.now in
    let was = c.loop-letter.sheet in
    let p = c.args.place in
    let d = c.args.stroke in
    let k = c.loop-letter.letter in
    let inv = c.loop-letter.invariant in
    elim c.if-letter-stroke.branch [
      | then-letter-stroke w ↦
          rw w.sheet-is (
            below_closed (s.shown start) p d k (omega arith) w.if-letter-stroke.true inv.0 w.close.ensures.pairs,
            s.laws.joins start was w.close.new.self inv.1 w.close.ensures.memory (between_less _ _ _ _ inv.0 (below_less (s.shown start) p d k)),
          )
      | else-letter-stroke w ↦ rw w.sheet-is (below_passed (s.shown start) p d k w.if-letter-stroke.false inv.0, inv.1)
    ]
