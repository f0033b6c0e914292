use Rattle.sheet.specs.Masks.{mask_places, mask_shown, Rest}
use Rattle.sheet.proofs.Pins.{mask_pins}
use Rattle.sheet.proofs.Flips.{flip_closes}
use Rattle.lending.proofs.Striking.{struck_memory}
use Rattle.lending.proofs.masks.strike_masks.Goals as goal

pub returns-clause-memory : goal.returns-clause-memory
returns-clause-memory c =
    let before = c.args.masks.now in
    let made = c.strike_lent.ensures in
    struck_memory mask_places mask_shown Rest mask_pins before _ _ c.args.place c.args.stroke _ (flip_closes before c.args.place c.args.stroke) made.answer made.after made.rest
