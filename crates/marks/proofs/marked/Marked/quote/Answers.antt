use Rattle.std.proofs.Common.{length, refl}
use Rattle.events.specs.declared.Event.TheVariants.{Quote}
use Rattle.events.specs.Steps.{lent_quote}
use Rattle.events.proofs.Living.{as_at_birth}
use Rattle.marks.specs.Marks.{state, setting}
use Rattle.marks.proofs.Calling.{quote_left}
use Rattle.marks.proofs.marked.Marked.quote.Goals as goal

pub returns-clause-step : goal.returns-clause-step
returns-clause-step g c =
    let h = g.H.Sheet in
    let o = g.S.Scale.ops in
    let marked = c.args.self.now in
    let lent = lent_quote (length c.args.inside.now) (length c.args.choices.now) c.args.run.now in
    (quote_left o (setting o h.places c.args.book.now marked) (state h.places h.shown marked) c.args.limit lent c.quote.new.run _ c.quote.result c.quote.ensures.answer, refl)

pub returns-clause-life : goal.returns-clause-life
returns-clause-life g c birth events answers ledger lived =
    let h = g.H.Sheet in
    let o = g.S.Scale.ops in
    let marked = c.args.self.now in
    let now = state h.places h.shown marked in
    let lent = lent_quote (length c.args.inside.now) (length c.args.choices.now) c.args.run.now in
    as_at_birth g.met.S.Scale.lawful (setting o h.places c.args.book.now marked) birth events answers now now ledger lived (Quote c.args.limit) lent _ (returns-clause-step g c)
