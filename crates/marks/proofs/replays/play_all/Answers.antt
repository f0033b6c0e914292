use Rattle.std.proofs.Common.{◌≡◌, ◌+◌, [], ◌∷◌, ◌++◌, length, sym, ◌∙◌, arith}
use Rattle.std.specs.Prelude.{take}
use Rattle.std.proofs.lemmas.List.{length-take-le, take_more, take_more_set}
use Rattle.events.specs.Searches.{event_searched, prune_searched, quote_searched}
use Rattle.events.specs.Steps.{lent_all}
use Rattle.marks.specs.Lives.{sheet_of}
use Rattle.marks.proofs.Replaying.{still_past, same_through, replayed_quotes, replayed_all, lived_on, idle_on, idle_all}
use Rattle.marks.proofs.replays.play_all.Goals as goal

pub loop-i-preserved : goal.loop-i-preserved
loop-i-preserved g c =
    let laws = g.met.S.Scale.lawful in
    let sheets = g.H.Sheet.laws in
    let book = c.args.book.now in
    let start = sheet_of c.args.life.now in
    let was = sheet_of c.loop-i.life in
    let now = sheet_of c.play-answer.new.self in
    let i = c.loop-i.i in
    let inv = c.loop-i.invariant in
    let lent = lent_all (length c.args.inside.now) (length c.args.outside.now) (length c.args.choices.now) in
    let played = c.play-answer in
    let so_far = take i c.args.events.now in
    let answers = take i c.loop-i.answers in
    let e = c.index-events-i.result in
    let a = played.result in
    let same : length so_far ≡ length answers = length-take-le i c.args.events.now (omega arith) ∙ sym (length-take-le i c.loop-i.answers (omega arith)) in
    let more : take (i + 1) c.args.events.now ≡ so_far ++ e ∷ [] = rw c.index-events-i.is (take_more c.args.events.now i _ c.loop-i-test.true) in
    let longer : take (i + 1) c.put.new.list ≡ answers ++ a ∷ [] = rw c.put.ensures (take_more_set c.loop-i.answers i a (omega arith)) in (
      rw c.put.ensures (still_past c.loop-i.answers c.args.answers.now i a inv.0),
      same_through laws sheets book start was now lent inv.1 played.ensures.sheet so_far answers inv.2.0 inv.2.1,
      (_, lived_on laws sheets book start was now lent inv.1 played.ensures.sheet so_far _ answers _ inv.2.0 e a _ inv.2.1 (cc) played.ensures.step more longer),
      idle_on event_searched c.args.inside.now so_far _ answers _ e a same more longer c.loop-i.inside played.new.inside inv.3 played.ensures.inside,
      idle_on prune_searched c.args.outside.now so_far _ answers _ e a same more longer c.loop-i.outside played.new.outside inv.4 played.ensures.outside,
      idle_on quote_searched c.args.choices.now so_far _ answers _ e a same more longer c.loop-i.choices played.new.choices inv.5 played.ensures.choices,
    )

pub returns-clause-life : goal.returns-clause-life
returns-clause-life g c =
    let inv = c.loop-i.invariant in
    replayed_all g.met.S.Scale.lawful _ _ _ c.args.events.now c.loop-i.answers _ c.loop-i.i inv.2.0 (omega arith) inv.2.1

pub returns-clause-quotes : goal.returns-clause-quotes
returns-clause-quotes g c = replayed_quotes g.met.S.Scale.lawful _ _ _ _ _ (returns-clause-life g c)

pub returns-clause-inside : goal.returns-clause-inside
returns-clause-inside g c = idle_all event_searched c.args.inside.now c.args.events.now c.loop-i.answers c.loop-i.i c.loop-i.inside (omega arith) c.loop-i.invariant.3

pub returns-clause-outside : goal.returns-clause-outside
returns-clause-outside g c = idle_all prune_searched c.args.outside.now c.args.events.now c.loop-i.answers c.loop-i.i c.loop-i.outside (omega arith) c.loop-i.invariant.4

pub returns-clause-choices : goal.returns-clause-choices
returns-clause-choices g c = idle_all quote_searched c.args.choices.now c.args.events.now c.loop-i.answers c.loop-i.i c.loop-i.choices (omega arith) c.loop-i.invariant.5
