use Rattle.lending.proofs.LentCards.{card_only}
use Rattle.lending.proofs.cards.only_card.Goals as goal

pub returns-clause-memory : goal.returns-clause-memory
returns-clause-memory c = card_only _ _ _ _ c.only_lent.ensures.rest c.only_lent.ensures.pairs
