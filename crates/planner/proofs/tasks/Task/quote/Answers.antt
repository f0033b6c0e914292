use Rattle.std.proofs.Common.{◌≡◌, ◌+◌, arith}
use Rattle.derivations.specs.Ties.{Chosen}
use Rattle.planner.proofs.Indexing.{entries_are}
use Rattle.planner.proofs.Tracing.{chosen_written}
use Rattle.planner.proofs.Searching.{quoted, lawful_within}
use Rattle.planner.proofs.tasks.Task.quote.Goals as goal

pub trace-requires-clause-codes : goal.trace-requires-clause-codes
trace-requires-clause-codes g c =
    let a = c.args in
    let n = g.H.Sheet.places a.self.sheet.now in
    let end : c.new-all.result.before + c.new-all.result.len ≡ n = omega arith in
    rw end (omega (arith, c.requires.choices, entries_are n a.self.parts, c.choose.auto.codes))

pub returns : goal.returns
returns g c =
    let a = c.args in
    let laws = g.met.S.Scale.lawful in
    let W = g.W.Prices.weights a.self.prices.now a.self.rules.now in
    let rules = a.self.rules.now in
    let shown = g.H.Sheet.shown a.self.sheet.now in
    let n = g.H.Sheet.places a.self.sheet.now in
    let none : c.new-all.result.before ≡ 0 = c.new-all.ensures.before in
    let all : c.new-all.result.len ≡ n = omega arith in
    let least = c.in_ok-least.ensures.answer in
    let lawful = lawful_within laws c.in_ok-least.least a.limit c.requires.limit least.1 in
    let named = c.choose.ensures in
    let chosen : Chosen g.S.Scale.ops W rules shown 0 0 n named.0 = rw (none, all) at named.2 in
    let run = chosen_written laws W rules shown n c.new-all.result.before named.0 a.run.now c.trace.new.run none c.requires.run chosen (c.trace.ensures named.0 named.1) in
    quoted laws W rules n shown a.limit a.run.now c.trace.new.run c.in_ok-least.least named.0 chosen run least.0 least.1 lawful
