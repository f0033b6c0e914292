use Rattle.sheet.specs.Cards.{card_places, card_shown, CardRest}
use Rattle.sheet.proofs.Pins.{card_pins}
use Rattle.sheet.proofs.Writes.{stop_closes}
use Rattle.lending.proofs.Striking.{struck_memory}
use Rattle.lending.proofs.cards.strike_card.Goals as goal

pub returns-clause-memory : goal.returns-clause-memory
returns-clause-memory c =
    let before = c.args.card.now in
    let made = c.strike_lent.ensures in
    struck_memory card_places card_shown CardRest card_pins before _ _ c.args.place c.args.stroke _ (stop_closes before c.args.place c.args.stroke) made.answer made.after made.rest
