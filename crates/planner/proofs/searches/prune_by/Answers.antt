use Rattle.std.proofs.Common.{All, ◌≡◌, ℕ, ◌+◌, ◌<◌, true, ◌↔◌, subst}
use Rattle.book.specs.Ranges.{InRange}
use Rattle.sheet.specs.Pairs.{in_range}
use Rattle.derivations.specs.Support.{CutWithin}
use Rattle.derivations.proofs.Running.{least_computed, over_sheet_cheapest}
use Rattle.planner.specs.Boards.{entry_of}
use Rattle.planner.specs.Pushes.{Outside}
use Rattle.planner.proofs.Keeping.{kept_exactly}
use Rattle.planner.proofs.searches.prune_by.Goals as goal

pub returns-clause-answer : goal.returns-clause-answer
returns-clause-answer g c =
    let laws = g.met.S.Scale.lawful in
    let o = g.S.Scale.ops in
    let W = g.W.Prices.weights c.args.prices.now c.args.book.now.rules in
    let rules = c.args.book.now.rules in
    let k = c.args.book.now.parts in
    let n = g.H.Sheet.places c.args.sheet.now in
    let shown = g.H.Sheet.shown c.args.sheet.now in
    let after = g.H.Sheet.shown c.close_all-closed.new.sheet in
    let board = c.fill_outside.new.outside in
    let task = c.new-task.ensures in
    let with = c.new-support.ensures in
    let least = rw (task.rules, task.prices, task.sheet) at c.in_ok-least.ensures.answer in
    let outside : Outside o W rules n shown k board = rw (task.rules, task.prices, task.sheet, task.parts) at c.fill_outside.ensures in
    let ranged : All (InRange k) rules = rw (task.rules, task.parts) at c.new-task.result.ranged in
    let within : (p c : ℕ) → after p c ≡ true → in_range n p c ≡ true = λ p x h. subst (λ m. in_range m p x ≡ true) (g.H.Sheet.laws.lasts c.args.sheet.now c.close_all-closed.new.sheet c.close_all-closed.ensures.memory) (g.H.Sheet.laws.within c.close_all-closed.new.sheet p x h) in
    let left : (before x : ℕ) → before < n → (after (before + 1) x ≡ true) ↔ CutWithin o W rules shown (λ part. entry_of o.barred k board part before 1) before x c.args.limit = rw (with.rules, with.parts, with.prices, with.outside, with.limit) at c.close_all-closed.ensures.left in
    record {
      kept = kept_exactly laws W rules n k shown c.args.limit board after ranged outside c.requires.limit within left;
      cheapest = over_sheet_cheapest laws W rules shown n c.in_ok-least.least least.0;
      value = least_computed laws W rules shown n c.in_ok-least.least least.0;
      within = least.1;
      count = c.close_all-closed.ensures.count;
    }
