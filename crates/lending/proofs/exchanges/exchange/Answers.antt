use Rattle.sheet.proofs.Sets.{closed_less, between_less}
use Rattle.lending.proofs.exchanges.exchange.Goals as goal

pub returns-then-was_open-clause-memory : goal.returns-then-was_open-clause-memory
returns-then-was_open-clause-memory g c =
    let s = g.S.Sheet in
    let start = c.args.sheet.now in
    let closed = c.close-was_open.ensures in
    s.laws.joins start c.close-was_open.new.self c.open.new.self closed.memory c.open.ensures.memory (between_less _ _ _ _ closed.pairs (closed_less (s.shown start) c.args.place c.args.stroke))
