use Rattle.std.proofs.Common.{◌≡◌, ◌+◌, ◌-◌, ◌<◌, length, refl, sym, ap, ◌∙◌, subst, arith}
use Rattle.events.specs.States.{born}
use Rattle.events.specs.Steps.{lent_all}
use Rattle.marks.specs.Lives.{sheet_of}
use Rattle.answers.specs.Texts.{HasLines, line_as}
use Rattle.answers.specs.Offices.{office_lent}
use Rattle.answers.proofs.Lining.{lines_some, lines_left}
use Rattle.answers.proofs.Playing.{none_yet, same_on, line_on, all_told}
use Rattle.answers.proofs.plays.tell_lines.Goals as goal

pub loop-i-init : goal.loop-i-init
loop-i-init g c =
    let h = g.H.Sheet in
    let start = sheet_of c.office_life-life.result in
    let made = c.office_life-life.ensures in
    let all : c.args.lines ≡ c.args.lines - 0 = omega arith in
    record {
      few = omega arith;
      left = subst (HasLines c.args.text.now) all c.requires.lines;
      same = record { number = refl; lender = refl; memory = h.laws.keeps start.below.now };
      sofar = none_yet g.met.S.Scale.lawful g.S.Figures.notation g.S.Printed.price_text h.laws c.args.book.now start c.length-places.result c.args.text.now c.args.told.now (made.born ∙ ap (λ x. born (h.shown x)) (sym made.content));
    }

pub next_line-requires : goal.next_line-requires
next_line-requires g c = lines_some c.loop-i.rest.now (c.args.lines - c.loop-i.i) (omega arith) c.loop-i.invariant.left

pub loop-i-preserved : goal.loop-i-preserved
loop-i-preserved g c =
    let h = g.H.Sheet in
    let laws = g.met.S.Scale.lawful in
    let notation = g.S.Figures.notation in
    let price_text = g.S.Printed.price_text in
    let book = c.args.book.now in
    let start = sheet_of c.office_life-life.result in
    let was = sheet_of c.loop-i.life in
    let now = sheet_of c.tell_line-entry.new.life in
    let n = c.length-places.result in
    let rest = c.loop-i.rest.now in
    let read = c.next_line.result in
    let after = read.2.now in
    let i = c.loop-i.i in
    let inv = c.loop-i.invariant in
    let told = c.tell_line-entry.ensures.told in
    let then = c.tell_line-entry.ensures.sheet in
    let fits : i < length c.loop-i.told = omega (arith, c.loop-i.auto.told, c.requires.room, c.loop-i-test.true) in
    let auto = c.loop-i.auto in
    let boards = c.requires.boards in
    let lends : lent_all (length c.loop-i.inside) (length c.loop-i.outside) (length c.loop-i.choices) ≡ office_lent = λ j. lent_all ((auto.inside ∙ boards.0) j) ((auto.outside ∙ boards.1) j) ((auto.choices ∙ boards.2) j) in
    let left : c.args.lines - i - 1 ≡ c.args.lines - (i + 1) = omega arith in
    record {
      few = c.marks_past-marks.ensures.few;
      left = subst (HasLines after) left (lines_left notation rest (line_as read.1 read.0.now) after (c.args.lines - i) c.next_line.ensures inv.left);
      same = same_on laws notation price_text h.laws book start n c.args.text.now c.args.told.now rest after c.loop-i.marks i was now c.loop-i.told c.tell_line-entry.result inv.same then fits inv.sofar;
      sofar = rw (c.put.ensures, c.marks_past-marks.ensures.past) (line_on laws notation price_text h.laws book start n c.args.text.now c.args.told.now rest after c.loop-i.marks i was now c.loop-i.told c.tell_line-entry.result inv.same then fits inv.sofar read.1 read.0.now _ c.next_line.ensures lends told);
    }

pub returns : goal.returns
returns g c =
    let h = g.H.Sheet in
    let inv = c.loop-i.invariant in
    let made = c.office_life-life.ensures in
    let all : c.loop-i.i ≡ c.args.lines = omega arith in
    let none : c.args.lines - c.loop-i.i ≡ 0 = omega arith in
    all_told g.met.S.Scale.lawful g.S.Figures.notation g.S.Printed.price_text h.laws c.args.book.now (sheet_of c.office_life-life.result) c.length-places.result c.args.text.now c.args.told.now c.args.sheet.now c.loop-i.rest.now c.loop-i.marks c.loop-i.i c.args.lines (sheet_of c.loop-i.life) c.loop-i.told made.content made.number c.length-places.ensures (subst (HasLines c.loop-i.rest.now) none inv.left) all c.requires.room inv.sofar
