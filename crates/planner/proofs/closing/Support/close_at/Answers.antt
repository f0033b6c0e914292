use Rattle.std.proofs.Common.{◌≡◌, ℕ, ◌+◌, ◌-◌, true, false, sym, ap, ◌∙◌, inl, arith, ◌↔◌, IsTrue, slice_index_or}
use Rattle.derivations.specs.Support.{CutWithin}
use Rattle.planner.specs.Boards.{entry_of}
use Rattle.planner.specs.Counts.{count_strokes}
use Rattle.planner.proofs.Cutting.{gone, closed_less, closed_few, closed_left, closed_shut}
use Rattle.planner.proofs.closing.Support.close_at.Goals as goal
use Rattle.planner.proofs.closing.Support.close_at.Goals.{then-not-cut+then-close, else-not-cut, else-not-cut-via-then-not-cut+else-close, else-not-cut-via-else-not-cut}

pub overflow_add-closed : goal.overflow_add-closed
overflow_add-closed g c =
    let s = c.args.self.now in
    let o = g.S.Scale.ops in
    let l = c.loop-stroke in
    let few = closed_few o (g.W.Prices.weights s.prices.now s.rules.now) s.rules.now (g.H.Sheet.shown c.args.sheet.now) (λ part. entry_of o.barred s.parts s.outside.now part c.args.before 1) c.args.before s.limit (g.H.Sheet.shown l.sheet) l.stroke l.closed l.invariant.closing in
    omega (arith, few, l.auto.stroke-end)

pub loop-stroke-preserved : goal.loop-stroke-preserved
loop-stroke-preserved g c =
    let a = c.args in
    let s = a.self.now in
    let o = g.S.Scale.ops in
    let W = g.W.Prices.weights s.prices.now s.rules.now in
    let f = g.H.Sheet.shown a.sheet.now in
    let out = λ (part : ℕ). entry_of o.barred s.parts s.outside.now part a.before 1 in
    let l = c.loop-stroke in
    let was = g.H.Sheet.shown l.sheet in
    let cut = slice_index_or c.cuts_within-within.result c.from.result false in
    let told : f (a.before + 1) l.stroke ≡ true → IsTrue cut ↔ CutWithin o W s.rules.now f out a.before l.stroke s.limit = rw c.from.ensures (c.cuts_within-within.ensures f l.stroke (omega arith)) in
    let less = closed_less o W s.rules.now f out a.before s.limit was l.stroke l.closed l.invariant.closing in
    elim c.if-not-cut.branch [
      | then-not-cut+then-close w ↦
          rw (w.sheet-is, w.closed-is) (record {
            closing = closed_shut o W s.rules.now f out a.before s.limit was l.stroke l.closed l.auto.stroke l.invariant.closing cut told (g.H.Sheet.shown w.close.new.self) true (l.closed + 1) w.if-not-cut.true (sym w.if-close.true ∙ w.close.ensures.answer) w.close.ensures.pairs (omega arith);
            memory = g.H.Sheet.laws.joins a.sheet.now l.sheet w.close.new.self l.invariant.memory w.close.ensures.memory (λ p d h. inl (less p d h));
          })
      | else-not-cut w ↦
          rw w.closed-is (elim w.else-not-cut.branch [
            | else-not-cut-via-then-not-cut+else-close v ↦
                rw (w.sheet-is, v.sheet-is) (record {
                  closing = closed_shut o W s.rules.now f out a.before s.limit was l.stroke l.closed l.auto.stroke l.invariant.closing cut told (g.H.Sheet.shown v.close.new.self) false l.closed v.if-not-cut.true (sym v.if-close.false ∙ v.close.ensures.answer) v.close.ensures.pairs (omega arith);
                  memory = g.H.Sheet.laws.joins a.sheet.now l.sheet v.close.new.self l.invariant.memory v.close.ensures.memory (λ p d h. inl (less p d h));
                })
            | else-not-cut-via-else-not-cut v ↦
                rw (w.sheet-is, v.sheet-is) (record {
                  closing = closed_left o W s.rules.now f out a.before s.limit was l.stroke l.closed l.auto.stroke l.invariant.closing cut told v.if-not-cut.false;
                  memory = l.invariant.memory;
                })
          ])
    ]

pub returns-clause-count : goal.returns-clause-count
returns-clause-count g c =
    let l = c.loop-stroke in
    let end : l.stroke ≡ 91 = omega (arith, c.loop-stroke-test.false, l.auto.stroke-end) in
    l.invariant.closing.count ∙ ap (λ k. count_strokes (gone (g.H.Sheet.shown c.args.sheet.now) c.args.before (g.H.Sheet.shown l.sheet)) (k - 65)) end
