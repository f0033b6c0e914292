use Rattle.answers.proofs.Wording.{no_word}
use Rattle.answers.proofs.words.line_word.Goals as goal

pub returns-in_err-word_of : goal.returns-in_err-word_of
returns-in_err-word_of c = rw c.from_residual.ensures (no_word c.first_word.ensures c.in_err-word_of.ensures)
