use Rattle.text.proofs.Appending.{alone}
use Rattle.printing.proofs.cards.page_with.Goals as goal

pub returns : goal.returns
returns c = alone c.new-page.ensures c.put.ensures c.requires
