-- An outside chart before the first push and after the last.
use Rattle.std.proofs.Common.{All, ◌≡◌, ℕ, zero, suc, ◌+◌, ◌-◌, ◌*◌, ◌<◌, ◌≤◌, cond, eqb, ◌⊎◌, List, length, slice_index_or, slice_set, sym, refl, ap, ◌∙◌, subst, inl, inr, arith, length-set, get_or-set_other, get_or-set_same}
use mathlib.Core.Path.{subst₃}
use Rattle.std.proofs.lemmas.Bool.{cases_lt, cases_eq, eq-eqb, ne_eqb}
use Rattle.scale.specs.Ops.{Ops, Laws}
use Rattle.book.specs.Ranges.{InRange}
use Rattle.book.specs.declared.rules.Rule.{Rule}
use Rattle.sheet.specs.Pairs.{Pairs}
use Rattle.derivations.specs.Least.{LeastOf}
use Rattle.derivations.specs.Trees.{Weights}
use Rattle.derivations.specs.Contexts.{LeastAround}
use Rattle.derivations.proofs.Minima.{least_none, least_same}
use Rattle.planner.specs.Boards.{spans_before, entry_index, entry_of}
use Rattle.planner.specs.Charts.{Inside}
use Rattle.planner.specs.Pushes.{Push, to_left, to_right, Lowers, pushed, span_of, Outside, PushedDown, FromSpan}
use Rattle.planner.proofs.Indexing.{number_within, index_in_board, same_index}
use Rattle.planner.proofs.Pushing.{around_by_pushes, around_first, around_others}
use Rattle.planner.proofs.Lowering.{brought}

-- no push comes from past the last span
none_past : (rules : List Rule) (n p b l : ℕ) (x : Push) → Lowers rules n p b l x → span_of x < spans_before n
none_past rules n p b l (to_left r q left right before len m) h = number_within before len n (omega (arith, h.1, h.2)) h.3
none_past rules n p b l (to_right r q left right before len m) h = number_within before len n (omega (arith, h.1, h.2)) h.3

module _ {S : Type 0} {o : Ops S} (laws : Laws o) (W : Weights S) (rules : List Rule) (n k : ℕ) (inside : List S) where
  -- all barred, but part 0 over all the places
  module _ (blank : List S) (some : 1 ≤ n) (some_parts : 1 ≤ k) (room : spans_before n * k ≤ length blank) (barred : (i : ℕ) → slice_index_or blank i o.barred ≡ o.barred) where
    abbrev first : List S
    first = slice_set blank (entry_index k 0 n 0) o.free

    other : (p b l : ℕ) → p < k → 1 ≤ l → ((b ≡ 0) × (l ≡ n) × (p ≡ 0) → ⊥) → entry_of o.barred k first p b l ≡ o.barred
    other p b l hp have apart = get_or-set_other blank (entry_index k 0 n 0) (entry_index k b l p) o.free o.barred (λ e. apart (same_index k b l p 0 n 0 have some hp some_parts e)) ∙ barred (entry_index k b l p)

    top : (p : ℕ) → p < k → (p ≡ 0) ⊎ (p ≡ 0 → ⊥) → entry_of o.barred k first p 0 n ≡ cond (eqb p 0) o.free o.barred
    top p hp (inl e) = rw e (get_or-set_same blank (entry_index k 0 n 0) o.free o.barred (index_in_board k 0 n 0 n (length blank) some_parts some (omega arith) room))
    top p hp (inr ne) = other p 0 n hp some (λ e. ne e.2) ∙ sym (ap (λ t. cond t o.free o.barred) (ne_eqb p 0 ne))

    pub none_pushed : PushedDown o W rules n k inside first (FromSpan (spans_before n))
    none_pushed = record {
      room = let long = length-set blank (entry_index k 0 n 0) o.free in omega arith;
      top = λ p hp. top p hp (cases_eq p 0);
      rest = λ p b l hp have less few.
          let value : entry_of o.barred k first p b l ≡ o.barred = other p b l hp have (λ e. omega (arith, e.1)) in
          subst (LeastOf o (λ x. Lowers rules n p b l x × FromSpan (spans_before n) x) (brought laws W rules n k inside first)) (sym value) (least_none laws (λ x. Lowers rules n p b l x × FromSpan (spans_before n) x) (brought laws W rules n k inside first) (λ x h. omega (arith, h.1, none_past rules n p b l x h.0)));
    }

  -- when all pushes are done, each entry is the least weight around its part
  module _ (shown : Pairs) (outside : List S) (ranged : All (InRange k) rules) (least : Inside o W rules n shown k inside) (d : PushedDown o W rules n k inside outside (FromSpan 0)) where
    whole_entry : (p : ℕ) → p < k → (p ≡ 0) ⊎ (p ≡ 0 → ⊥) → LeastAround o W rules shown n p 0 n (entry_of o.barred k outside p 0 n)
    whole_entry p hp (inl e) =
        let value : entry_of o.barred k outside p 0 n ≡ o.free = d.top p hp ∙ ap (λ t. cond t o.free o.barred) (eq-eqb p 0 e) in
        subst (LeastAround o W rules shown n p 0 n) (sym value) (subst (λ q. LeastAround o W rules shown n q 0 n o.free) (sym e) (around_first rules shown n laws W))
    whole_entry p hp (inr ne) =
        let value : entry_of o.barred k outside p 0 n ≡ o.barred = d.top p hp ∙ ap (λ t. cond t o.free o.barred) (ne_eqb p 0 ne) in
        subst (LeastAround o W rules shown n p 0 n) (sym value) (around_others rules shown n laws W p ne)

    go : (fuel p b l : ℕ) → p < k → 1 ≤ l → b + l ≤ n → n - l < fuel → LeastAround o W rules shown n p b l (entry_of o.barred k outside p b l)
    go zero p b l hp some few h = absurd (omega arith)
    go (suc fuel) p b l hp some few h = elim (cases_lt l n) [
      | inl less ↦
          let out : (q before len : ℕ) → q < k → l < len → before + len ≤ n → LeastAround o W rules shown n q before len (entry_of o.barred k outside q before len) = λ q before len hq lt fits. go fuel q before len hq (omega arith) fits (omega arith) in
          let all = least_same laws (λ x. Lowers rules n p b l x × FromSpan 0 x) (Lowers rules n p b l) (pushed o W (entry_of o.barred k inside) (entry_of o.barred k outside)) (entry_of o.barred k outside p b l) (λ x h. h.0) (λ x h. (h, omega arith)) (d.rest p b l hp some less few) in
          around_by_pushes laws W rules shown n k (entry_of o.barred k inside) (entry_of o.barred k outside) ranged least p b l out (entry_of o.barred k outside p b l) some less all
      | inr le ↦
          let es : n ≡ l = omega arith in
          let eb : 0 ≡ b = omega arith in
          subst₃ (λ x y z. LeastAround o W rules shown n x y z (entry_of o.barred k outside x y z)) refl eb es (whole_entry p hp (cases_eq p 0))
    ]

    pub settled : Outside o W rules n shown k outside
    settled p b l hp some few = go (suc (n - l)) p b l hp some few (omega arith)
