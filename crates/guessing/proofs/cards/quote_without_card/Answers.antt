use Rattle.sheet.specs.CardLaws.{card_laws}
use Rattle.sheet.proofs.Pins.{card_pins}
use Rattle.guessing.proofs.cards.quote_without_card.Goals as goal

pub returns-clause-memory : goal.returns-clause-memory
returns-clause-memory g c =
    let before = c.args.card.now in
    card_pins before _ before c.quote_without_lent.ensures.rest (card_laws.keeps before) c.quote_without_lent.ensures.pairs
