-- What a line states, of the lines that the code knows. Assumes nothing.
use Rattle.book.specs.declared.lines.Line.{Line}
use Rattle.book.specs.declared.lines.Line.TheVariants as line
use Rattle.book.specs.Statements.{Said, parts, rule, note}
use Rattle.book.specs.Fields.{cut_rule, pair_rule}

-- what the code's line states
abbrev pub said_by : Line → Said
said_by (line.Parts k) = parts k
said_by (line.Cut c) = rule (cut_rule c)
said_by (line.Pair p) = rule (pair_rule p)
said_by (line.Note words) = note words.now
