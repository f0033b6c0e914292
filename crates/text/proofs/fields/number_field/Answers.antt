use Rattle.text.proofs.Cutting.{no_number}
use Rattle.text.proofs.fields.number_field.Goals as goal

pub returns-in_err-n : goal.returns-in_err-n
returns-in_err-n c = rw c.from_residual-in_err-n.ensures (no_number c.in_ok-word.ensures c.in_err-n.ensures)
