use Rattle.std.proofs.Common.{rules}
use Rattle.sheet.specs.CardLaws.{card_laws}
use Rattle.sheet.proofs.Sets.{turned_none}
use Rattle.sheet.proofs.Writes.{write_turns}
use Rattle.sheet.proofs.cards.U8Cell.turn_over.Goals as goal

pub returns-then-in_range : goal.returns-then-in_range
returns-then-in_range c =
    let done = write_turns c.args.card.now c.args.place c.args.stroke (rw (c.in_range.ensures, c.count.ensures) at c.if-in_range.true) in
    record { cell = search rules; pairs = rw c.write.ensures done.1; rest = rw c.write.ensures done.0 }

pub returns-else-in_range-clause-pairs : goal.returns-else-in_range-clause-pairs
returns-else-in_range-clause-pairs c =
    turned_none _ _ _ _ (card_laws.within c.args.card.now c.args.place c.args.stroke) (rw (c.in_range.ensures, c.count.ensures) at c.if-in_range.false)

pub returns-else-in_range-clause-rest : goal.returns-else-in_range-clause-rest
returns-else-in_range-clause-rest c = card_laws.keeps c.args.card.now
