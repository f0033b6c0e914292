use Rattle.lending.proofs.LentCards.{card_exchanged}
use Rattle.lending.proofs.cards.exchange_card.Goals as goal

pub returns-clause-memory : goal.returns-clause-memory
returns-clause-memory c =
    card_exchanged _ _ c.args.place c.args.stroke c.args.other c.exchange_lent.ensures.rest c.exchange_lent.ensures.pairs
