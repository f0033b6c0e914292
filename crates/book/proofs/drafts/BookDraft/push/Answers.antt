use Rattle.std.proofs.Common.{◌≡◌, true, All, sym, subst}
use Rattle.std.proofs.lemmas.List.Elements.{All-push}
use Rattle.book.specs.Ranges.{InRange, lettered}
use Rattle.book.specs.Statements.{RangedIn}
use Rattle.book.proofs.drafts.BookDraft.push.Goals as goal

pub invariant_of-self-clause-no_rule_before : goal.invariant_of-self-clause-no_rule_before
invariant_of-self-clause-no_rule_before c = λ e. absurd (subst (λ o. RangedIn o c.args.rule) e c.requires.ranged)

pub invariant_of-self-clause-ranged : goal.invariant_of-self-clause-ranged
invariant_of-self-clause-ranged c = λ k e.
    let d = c.args.self.now in
    subst (All (InRange k)) (sym c.push.ensures.items) (All-push (InRange k) d.rules.items c.args.rule (d.ranged k e) (subst (λ o. RangedIn o c.args.rule) e c.requires.ranged))

pub invariant_of-self-clause-lettered : goal.invariant_of-self-clause-lettered
invariant_of-self-clause-lettered c =
    let d = c.args.self.now in
    subst (All (λ v. lettered v.side ≡ true)) (sym c.push.ensures.items) (All-push (λ v. lettered v.side ≡ true) d.rules.items c.args.rule d.lettered c.requires.lettered)
