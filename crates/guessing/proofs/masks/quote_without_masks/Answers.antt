use Rattle.sheet.specs.MaskLaws.{mask_laws}
use Rattle.sheet.proofs.Pins.{mask_pins}
use Rattle.guessing.proofs.masks.quote_without_masks.Goals as goal

pub returns-clause-memory : goal.returns-clause-memory
returns-clause-memory g c =
    let before = c.args.masks.now in
    mask_pins before _ before c.quote_without_lent.ensures.rest (mask_laws.keeps before) c.quote_without_lent.ensures.pairs
