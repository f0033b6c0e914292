use Rattle.std.proofs.Common.{rules}
use Rattle.text.proofs.Letters.{unknown_line}
use Rattle.order.specs.Statements.{order_form}
use Rattle.order.specs.Steps.{said_by}
use Rattle.order.proofs.Spelling.{order_letters}
use Rattle.order.proofs.reading.read_line.Goals as goal

pub returns-in_err-kind : goal.returns-in_err-kind
returns-in_err-kind c = let h = unknown_line order_form said_by c.args.line.now order_letters in search rules
