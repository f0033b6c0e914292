use Rattle.std.proofs.Common.{◌≡◌, false, length}
use Rattle.std.specs.Prelude.{take, drop}
use Rattle.marks.specs.Lives.{sheet_of}
use Rattle.marks.specs.Marks.{SameSheet, setting, sheet_below, state}
use Rattle.marks.specs.Replays.{each_lent}
use Rattle.events.specs.Steps.{lent_all}
use Rattle.events.specs.Ledgers.{Ledger}
use Rattle.events.specs.Lives.{HasLived}
use Rattle.events.specs.Searches.{any_event, event_searched, prune_searched, quote_searched}
use Rattle.marks.proofs.replays.play_all.Given as goal

abbrev pub invariant-loop-i : goal.invariant-loop-i
invariant-loop-i g l =
    let h = g.H.Sheet in
    let o = g.S.Scale.ops in
    let start = l.initial in
    let birth = sheet_of start.life in
    let lent = lent_all (length start.inside) (length start.outside) (length start.choices) in
    let events = take l.i l.events in
    let answers = take l.i l.answers in
    (drop l.i l.answers ≡ drop l.i start.answers)
    × SameSheet h.kept birth (sheet_of l.life)
    × ((ledger : Ledger g.row.S.Denot) × HasLived o (setting o h.places l.book birth) (h.shown (sheet_below birth)) (each_lent lent events) answers (state h.places h.shown (sheet_of l.life)) ledger)
    × (any_event event_searched events answers ≡ false → l.inside ≡ start.inside)
    × (any_event prune_searched events answers ≡ false → l.outside ≡ start.outside)
    × (any_event quote_searched events answers ≡ false → l.choices ≡ start.choices)
