use Rattle.std.proofs.Common.{rules}
use Rattle.sheet.specs.MaskLaws.{mask_laws}
use Rattle.sheet.proofs.Sets.{turned_none}
use Rattle.sheet.proofs.Flips.{flip_turns}
use Rattle.sheet.proofs.masks.U32Cell.turn_over.Goals as goal

pub returns-then-in_range : goal.returns-then-in_range
returns-then-in_range c =
    let done = flip_turns c.args.masks.now c.args.place c.args.stroke (rw (c.in_range.ensures, c.count.ensures) at c.if-in_range.true) in
    record { cell = search rules; pairs = rw c.flip.ensures done.1; rest = rw c.flip.ensures done.0 }

pub returns-else-in_range-clause-pairs : goal.returns-else-in_range-clause-pairs
returns-else-in_range-clause-pairs c =
    turned_none _ _ _ _ (mask_laws.within c.args.masks.now c.args.place c.args.stroke) (rw (c.in_range.ensures, c.count.ensures) at c.if-in_range.false)
