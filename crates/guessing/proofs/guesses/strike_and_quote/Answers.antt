use Rattle.std.proofs.Common.{length}
use Rattle.events.specs.Steps.{lent_quote, quote_answer}
use Rattle.marks.specs.Marks.{state, setting}
use Rattle.guessing.proofs.Calling.{quote_struck}
use Rattle.marks.proofs.Keeping.{same_places, same_setting}
use Rattle.guessing.proofs.guesses.strike_and_quote.Goals as goal

pub returns-clause-answer : goal.returns-clause-answer
returns-clause-answer g c =
    let o = g.S.Scale.ops in
    let h = g.H.Sheet in
    let book = c.args.book.now in
    let start = c.args.marked.now in
    let now = c.strike.new.self in
    let lent = lent_quote (length c.args.inside.now) (length c.args.choices.now) c.args.run.now in
    quote_struck o (setting o h.places book start) (setting o h.places book now) (state h.places h.shown start) (state h.places h.shown now) c.args.place c.args.stroke c.args.limit lent (quote_answer c.quote.new.run c.quote.result) c.in_ok-strike.ensures.state (same_setting h.laws start now c.in_ok-strike.ensures.sheet o book) c.quote.ensures.step.0

pub returns-clause-boards : goal.returns-clause-boards
returns-clause-boards g c some =
    let h = g.H.Sheet in
    c.quote.ensures.boards (rw (same_places h.laws c.args.marked.now c.strike.new.self c.in_ok-strike.ensures.sheet) (rw (← c.in_ok-strike.ensures.answer) at some))
