use Rattle.std.proofs.Common.{ℕ, inl, arith}
use Rattle.sheet.proofs.Sets.{range_parts}
use Rattle.planner.specs.Boards.{entry_of}
use Rattle.planner.proofs.Counting.{strokes_few}
use Rattle.planner.proofs.Cutting.{gone, before_less, before_few, before_more}
use Rattle.planner.proofs.closing.Support.close_all.Goals as goal

pub loop-before-preserved : goal.loop-before-preserved
loop-before-preserved g c =
    let a = c.args in
    let s = a.self.now in
    let o = g.S.Scale.ops in
    let W = g.W.Prices.weights s.prices.now s.rules.now in
    let f = g.H.Sheet.shown a.sheet.now in
    let out = λ (q : ℕ) (part : ℕ). entry_of o.barred s.parts s.outside.now part q 1 in
    let l = c.loop-before in
    let was = g.H.Sheet.shown l.sheet in
    let next = c.close_at-closed.new.sheet in
    let e = c.close_at-closed.ensures in
    record {
      closing = before_more o W s.rules.now f out s.limit was (g.H.Sheet.shown next) l.before l.closed c.close_at-closed.result l.invariant.closing e.others e.left e.count;
      memory = g.H.Sheet.laws.joins a.sheet.now l.sheet next l.invariant.memory e.memory (λ p d h. inl (before_less o W s.rules.now f out s.limit was l.before l.closed l.invariant.closing (λ q b t. (range_parts (g.H.Sheet.places l.sheet) q b (g.H.Sheet.laws.within l.sheet q b t)).0) p d h));
    }

pub overflow_add-closed : goal.overflow_add-closed
overflow_add-closed g c =
    let s = c.args.self.now in
    let o = g.S.Scale.ops in
    let l = c.loop-before in
    let few = before_few o (g.W.Prices.weights s.prices.now s.rules.now) s.rules.now (g.H.Sheet.shown c.args.sheet.now) (λ q part. entry_of o.barred s.parts s.outside.now part q 1) s.limit (g.H.Sheet.shown l.sheet) l.before l.closed l.invariant.closing in
    let more = strokes_few (gone (g.H.Sheet.shown l.sheet) l.before (g.H.Sheet.shown c.close_at-closed.new.sheet)) 26 in
    omega (arith, few, more, c.close_at-closed.ensures.count, c.loop-before-test.true, c.length-before-end.ensures, g.H.Sheet.laws.few c.args.sheet.now)
