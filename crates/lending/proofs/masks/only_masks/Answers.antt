use Rattle.lending.proofs.LentMasks.{mask_only}
use Rattle.lending.proofs.masks.only_masks.Goals as goal

pub returns-clause-memory : goal.returns-clause-memory
returns-clause-memory c = mask_only _ _ _ _ c.only_lent.ensures.rest c.only_lent.ensures.pairs
