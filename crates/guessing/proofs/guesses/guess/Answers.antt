use Rattle.std.proofs.Common.{length, ap, subst₂}
use Rattle.events.specs.Steps.{lent_quote, quote_answer}
use Rattle.marks.specs.Marks.{sheet_below, sheet_number, state}
use Rattle.guessing.specs.Guesses.{QuoteEndsWithout}
use Rattle.guessing.proofs.Calling.{marked_as, back_again, struck_fewer}
use Rattle.marks.proofs.Keeping.{fewer_same, same_then, same_setting}
use Rattle.guessing.proofs.guesses.guess.Goals as goal

pub returns-clause-answer : goal.returns-clause-answer
returns-clause-answer g c =
    let o = g.S.Scale.ops in
    let h = g.H.Sheet in
    let start = c.args.marked.now in
    let marked = c.mark.new.self in
    let lent = lent_quote (length c.args.inside.now) (length c.args.choices.now) c.args.run.now in
    let mark = marked_as (state h.places h.shown start) (state h.places h.shown marked) (rw c.unwrap-slip.ensures at c.mark.ensures.state) in
    subst₂ (λ w f. QuoteEndsWithout o w f c.args.place c.args.stroke c.args.limit lent (quote_answer c.strike_and_quote-answer.new.run c.strike_and_quote-answer.result)) (same_setting h.laws start marked c.mark.ensures.sheet o c.args.book.now) (ap (λ s. s.shown) mark) c.strike_and_quote-answer.ensures.answer

pub returns-clause-state : goal.returns-clause-state
returns-clause-state g c =
    let h = g.H.Sheet in
    let start = c.args.marked.now in
    let marked = c.mark.new.self in
    let struck = c.strike_and_quote-answer.new.marked in
    let slip = c.unwrap-slip.result in
    back_again (h.places (sheet_below marked)) c.args.place c.args.stroke slip.number slip.level (sheet_number struck) (state h.places h.shown start) (state h.places h.shown marked) (state h.places h.shown struck) _ (rw c.unwrap-slip.ensures at c.mark.ensures.state) c.strike_and_quote-answer.ensures.struck (rw c.unwrap.ensures at c.back.ensures.state)

pub returns-clause-sheet : goal.returns-clause-sheet
returns-clause-sheet g c =
    let h = g.H.Sheet in
    let start = c.args.marked.now in
    let marked = c.mark.new.self in
    let struck = c.strike_and_quote-answer.new.marked in
    let mark = marked_as (state h.places h.shown start) (state h.places h.shown marked) (rw c.unwrap-slip.ensures at c.mark.ensures.state) in
    let fewer = struck_fewer (h.places (sheet_below marked)) (state h.places h.shown marked) (state h.places h.shown struck) c.args.place c.args.stroke c.strike_and_quote-answer.ensures.struck in
    same_then h.laws start marked c.mark.ensures.sheet c.back.new.self (fewer_same (ap (λ s. s.shown) mark)) (same_then h.laws marked struck c.strike_and_quote-answer.ensures.sheet c.back.new.self fewer c.back.ensures.sheet)
