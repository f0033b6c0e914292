use Rattle.std.proofs.Common.{rules}
use Rattle.text.proofs.Letters.{unknown_line}
use Rattle.book.specs.Statements.{book_form}
use Rattle.book.specs.Lines.{said_by}
use Rattle.book.proofs.Spelling.{book_letters}
use Rattle.book.proofs.lines.read_line.Goals as goal

pub returns-in_err-kind : goal.returns-in_err-kind
returns-in_err-kind c = let h = unknown_line book_form said_by c.args.line.now book_letters (search rules) in search rules
