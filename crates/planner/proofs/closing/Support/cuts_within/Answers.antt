use Rattle.std.proofs.Common.{ℕ, Some, false, true, replicate, sym, ap, ◌∙◌, arith}
use Rattle.std.proofs.lemmas.List.{get_or-replicate, length-replicate, length-set}
use Rattle.planner.specs.Boards.{entry_of}
use Rattle.planner.proofs.Cutting.{seen_none, seen_same, seen_more}
use Rattle.planner.proofs.closing.Support.cuts_within.Goals.{in-Some, in_default}
use Rattle.planner.proofs.closing.Support.cuts_within.Goals as goal

pub loop-rule-init : goal.loop-rule-init
loop-rule-init g c =
    let a = c.args in
    let s = a.self.now in
    (length-replicate 256 false, seen_none g.S.Scale.ops (g.W.Prices.weights s.prices.now s.rules.now) s.rules.now (λ part. entry_of g.S.Scale.ops.barred s.parts s.outside.now part a.before 1) a.before s.limit (replicate 256 false) (λ k low. get_or-replicate 256 k false false low))

pub loop-rule-preserved : goal.loop-rule-preserved
loop-rule-preserved g c =
    let a = c.args in
    let s = a.self.now in
    let o = g.S.Scale.ops in
    let W = g.W.Prices.weights s.prices.now s.rules.now in
    let out = λ (part : ℕ). entry_of o.barred s.parts s.outside.now part a.before 1 in
    let l = c.loop-rule in
    elim c.match-cut_by.branch [
      | in-Some w ↦
          rw w.within-is (length-set l.within _ true ∙ l.invariant.0, seen_more o W s.rules.now out a.before s.limit l.within l.rule w.from.result l.invariant.0 (omega arith) ((c.cut_by.ensures w.from.result).0 (w.in-Some.is ∙ ap Some (sym w.from.ensures))) l.invariant.1)
      | in_default w ↦
          rw w.within-is (l.invariant.0, seen_same o W s.rules.now out a.before s.limit l.within l.rule (λ k cuts. w.in_default.not-Some k ((c.cut_by.ensures k).1 cuts)) l.invariant.1)
    ]
