use Rattle.std.proofs.Common.{◌-◌, ◌≤◌}
use Rattle.marks.specs.Lives.{sheet_of}
use Rattle.marks.specs.Marks.{SameSheet}
use Rattle.answers.specs.Texts.{HasLines}
use Rattle.answers.proofs.Playing.{Sofar}
use Rattle.answers.proofs.plays.tell_lines.Given as goal

abbrev pub invariant-loop-i : goal.invariant-loop-i
invariant-loop-i g l =
    let h = g.H.Sheet in
    let start = sheet_of l.initial.life in
    record {
      few : l.marks ≤ 8;
      left : HasLines l.rest (l.lines - l.i);
      same : SameSheet h.kept start (sheet_of l.life);
      sofar : Sofar g.S.Scale.ops g.S.Figures.notation g.S.Printed.price_text h.places h.shown l.book start l.places l.text l.fn.told l.rest l.marks l.i (sheet_of l.life) l.told;
    }
