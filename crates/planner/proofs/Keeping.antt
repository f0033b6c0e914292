-- What is left open where each stroke that no rule cuts within the limit is closed: the strokes that some run within it has.
use Rattle.std.proofs.Common.{All, ◌≡◌, ℕ, ◌+◌, ◌-◌, ◌<◌, true, false, ◌↔◌, List, sym, subst, arith}
use Rattle.scale.specs.Ops.{Ops, Laws}
use Rattle.book.specs.declared.rules.Rule.{Rule}
use Rattle.book.specs.Ranges.{InRange}
use Rattle.sheet.specs.Pairs.{Pairs, in_range}
use Rattle.sheet.proofs.Sets.{range_parts}
use Rattle.derivations.specs.Trees.{Weights, blank}
use Rattle.derivations.specs.Runs.{Supported}
use Rattle.derivations.specs.Support.{CutWithin}
use Rattle.derivations.proofs.Having.{has_parts}
use Rattle.derivations.proofs.Supporting.{support}
use Rattle.planner.specs.Boards.{entry_of}
use Rattle.planner.specs.Pushes.{Outside}
use Rattle.planner.proofs.Naming.{part_within}

module _ {S : Type 0} {o : Ops S} (laws : Laws o) (W : Weights S) (rules : List Rule) (n k : ℕ) (shown : Pairs) (limit : S) (board : List S) where
  supported_by_cuts : All (InRange k) rules → Outside o W rules n shown k board → o.le o.barred limit ≡ false → (before c : ℕ) → before < n → Supported o W rules n shown limit (before + 1) c ↔ CutWithin o W rules shown (λ part. entry_of o.barred k board part before 1) before c limit
  supported_by_cuts ranged outside lawful before c less =
      support laws W rules n shown (λ part. entry_of o.barred k board part before 1) before c limit less lawful
      (λ r part stroke m. outside part before 1 (subst (λ p. p < k) m.for_part (part_within k _ _ (ranged r blank m.listed).0)) (omega arith) (omega arith))

  pub kept_exactly : (after : Pairs) → All (InRange k) rules → Outside o W rules n shown k board → o.le o.barred limit ≡ false → ((p c : ℕ) → after p c ≡ true → in_range n p c ≡ true) → ((before c : ℕ) → before < n → (after (before + 1) c ≡ true) ↔ CutWithin o W rules shown (λ part. entry_of o.barred k board part before 1) before c limit) → (p c : ℕ) → (after p c ≡ true) ↔ Supported o W rules n shown limit p c
  kept_exactly after ranged outside lawful within left p c = (
    λ h.
        let r = range_parts n p c (within p c h) in
        let e : p - 1 + 1 ≡ p = omega (arith, r) in
        let less : p - 1 < n = omega (arith, r) in
        let cut = (left (p - 1) c less).0 (subst (λ q. after q c ≡ true) (sym e) h) in
        subst (λ q. Supported o W rules n shown limit q c) e ((supported_by_cuts ranged outside lawful (p - 1) c less).1 cut),
    λ s.
        let r = has_parts s.0 p c s.2 in
        let e : p - 1 + 1 ≡ p = omega (arith, r) in
        let less : p - 1 < n = omega (arith, r, s.1.is_open.long) in
        let cut = (supported_by_cuts ranged outside lawful (p - 1) c less).0 (subst (λ q. Supported o W rules n shown limit q c) (sym e) s) in
        subst (λ q. after q c ≡ true) e ((left (p - 1) c less).1 cut),
  )
