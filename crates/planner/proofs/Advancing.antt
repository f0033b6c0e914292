-- Which pushes are done: split by split, rule by rule, span by span.
use Rattle.std.proofs.Common.{◌≡◌, ℕ, ◌+◌, ◌-◌, ◌<◌, ◌≤◌, ◌⊎◌, List, length, slice_set, sym, refl, ap, ◌∙◌, subst, inl, inr, arith, ◌≢◌, get_or-set_other}
use Rattle.std.proofs.lemmas.Bool.{cases_lt}
use Rattle.scale.specs.Ops.{Ops, Laws, lesser_of}
use Rattle.book.specs.declared.rules.RightSide.TheVariants.{Pair}
use Rattle.book.specs.declared.rules.Rule.{Rule}
use Rattle.derivations.specs.Trees.{Makes, Weights}
use Rattle.derivations.proofs.Deriving.{one_pair}
use Rattle.planner.specs.Boards.{span_number, entry_index, entry_of}
use Rattle.planner.specs.Pushes.{Push, to_left, to_right, Lowers, pushed, rule_of, span_of, split_of, PushedDown, FromRule, FromSplit}
use Rattle.planner.proofs.Indexing.{number_left, number_right, same_index, same_span, index_in_board}
use Rattle.planner.proofs.Lowering.{same_pushes, brings_same, push_one}

module _ (rules : List Rule) (n p b l : ℕ) where
  module _ (before len : ℕ) (some : 1 ≤ len) where
    split_within : (x : Push) → Lowers rules n p b l x → span_of x ≡ span_number before len → split_of x < len
    split_within (to_left r q left right start size m) h e = let same = same_span start size before len (omega (arith, h.1, h.2)) some e in omega (arith, same.1, h.2)
    split_within (to_right r q left right start size m) h e = let same = same_span start size before len (omega (arith, h.1, h.2)) some e in omega (arith, same.1, h.2)

    -- a push of this rule from this span at this split is one of two
    one_of_two : (r q left right m : ℕ) (x : Push) → Makes rules r q (Pair left right) → Lowers rules n p b l x → span_of x ≡ span_number before len → rule_of x ≡ r → split_of x ≡ m → (x ≡ to_left r q left right before len m) ⊎ (x ≡ to_right r q left right before len m)
    one_of_two r q left right m (to_left r' q' left' right' start size m') makes h es er em =
        let parts = one_pair rules r q' q left' right' left right (subst (λ y. Makes rules y q' (Pair left' right')) er h.0) makes in
        let same = same_span start size before len (omega (arith, h.1, h.2)) some es in
        let e0 = same.0 in
        let e1 = same.1 in
        let e2 = parts.0 in
        let e3 = parts.1 in
        let e4 = parts.2 in
        inl cc
    one_of_two r q left right m (to_right r' q' left' right' start size m') makes h es er em =
        let parts = one_pair rules r q' q left' right' left right (subst (λ y. Makes rules y q' (Pair left' right')) er h.0) makes in
        let same = same_span start size before len (omega (arith, h.1, h.2)) some es in
        let e0 = same.0 in
        let e1 = same.1 in
        let e2 = parts.0 in
        let e3 = parts.1 in
        let e4 = parts.2 in
        inr cc

module _ {S : Type 0} {o : Ops S} (laws : Laws o) (W : Weights S) (rules : List Rule) (n k : ℕ) (inside : List S) where
  -- all of its splits
  pub rule_ends : (outside : List S) (before len r m : ℕ) → 1 ≤ len → len ≤ m → PushedDown o W rules n k inside outside (FromSplit (span_number before len) r m) → PushedDown o W rules n k inside outside (FromRule (span_number before len) (r + 1))
  rule_ends outside before len r m some all = same_pushes laws W rules n k inside outside (FromSplit (span_number before len) r m) (FromRule (span_number before len) (r + 1))
      (λ x p b l h. elim [ inl (inl d) ↦ inl d | inl (inr d) ↦ inr (d.0, omega (arith, d.1)) | inr d ↦ inr (d.0, omega (arith, d.1)) ])
      (λ x p b l h. elim [ inl d ↦ inl (inl d) | inr d ↦ go x p b l h d (cases_lt (rule_of x) r) ])
    where
      go : (x : Push) (p b l : ℕ) → Lowers rules n p b l x → (span_of x ≡ span_number before len) × (rule_of x < r + 1) → (rule_of x < r) ⊎ (r ≤ rule_of x) → FromSplit (span_number before len) r m x
      go x p b l h d (inl lt) = inl (inr (d.0, lt))
      go x p b l h d (inr le) = inr (d.0, omega (arith, d.1), omega (arith, split_within rules n p b l before len some x h d.0))

  -- the two pushes of one split
  module _ (outside : List S) (r q left right before len m : ℕ) (makes : Makes rules r q (Pair left right)) (hl : left < k) (hr : right < k) (some : 1 ≤ m) (less : m < len) (few : before + len ≤ n) where
    from : (x : Push) → FromSplit (span_number before len) r m x → span_number before len ≤ span_of x
    from x = elim [ inl (inl d) ↦ omega arith | inl (inr d) ↦ omega (arith, d.0) | inr d ↦ omega (arith, d.0) ]

    to : (x : Push) (p b l : ℕ) → Lowers rules n p b l x → (FromSplit (span_number before len) r m x ⊎ (x ≡ to_left r q left right before len m)) ⊎ (x ≡ to_right r q left right before len m) → FromSplit (span_number before len) r (m + 1) x
    to x p b l h (inl (inl (inl d))) = inl d
    to x p b l h (inl (inl (inr d))) = inr (d.0, d.1, omega (arith, d.2))
    to x p b l h (inl (inr e)) = let z = ap split_of e in inr (ap span_of e, ap rule_of e, omega (arith, z))
    to x p b l h (inr e) = let z = ap split_of e in inr (ap span_of e, ap rule_of e, omega (arith, z))

    last : (x : Push) (p b l : ℕ) → Lowers rules n p b l x → (span_of x ≡ span_number before len) × (rule_of x ≡ r) × (split_of x < m + 1) → (split_of x < m) ⊎ (m ≤ split_of x) → (FromSplit (span_number before len) r m x ⊎ (x ≡ to_left r q left right before len m)) ⊎ (x ≡ to_right r q left right before len m)
    last x p b l h d (inl lt) = inl (inl (inr (d.0, d.1, lt)))
    last x p b l h d (inr le) = elim (one_of_two rules n p b l before len (omega arith) r q left right m x makes h d.0 d.1 (omega (arith, d.2))) [ inl e ↦ inl (inr e) | inr e ↦ inr e ]

    back : (x : Push) (p b l : ℕ) → Lowers rules n p b l x → FromSplit (span_number before len) r (m + 1) x → (FromSplit (span_number before len) r m x ⊎ (x ≡ to_left r q left right before len m)) ⊎ (x ≡ to_right r q left right before len m)
    back x p b l h (inl d) = inl (inl (inl d))
    back x p b l h (inr d) = last x p b l h d (cases_lt (split_of x) m)

    split_more : (u v : S)
        → u ≡ lesser_of o (entry_of o.barred k outside left before m) (pushed o W (entry_of o.barred k inside) (entry_of o.barred k outside) (to_left r q left right before len m))
        → v ≡ lesser_of o (entry_of o.barred k (slice_set outside (entry_index k before m left) u) right (before + m) (len - m)) (pushed o W (entry_of o.barred k inside) (entry_of o.barred k outside) (to_right r q left right before len m))
        → PushedDown o W rules n k inside outside (FromSplit (span_number before len) r m)
        → PushedDown o W rules n k inside (slice_set (slice_set outside (entry_index k before m left) u) (entry_index k (before + m) (len - m) right) v) (FromSplit (span_number before len) r (m + 1))
    split_more u v eu ev d =
        let s = span_number before len in
        let x1 = to_left r q left right before len m in
        let x2 = to_right r q left right before len m in
        let next = slice_set outside (entry_index k before m left) u in
        let D1 : Push → Type 0 = λ x. FromSplit s r m x ⊎ (x ≡ x1) in
        let low1 = number_left before len m some less in
        let low2 = number_right before len m some less in
        let d1 : PushedDown o W rules n k inside next D1 = push_one laws W rules n k inside outside left before m u s hl low1 (FromSplit s r m) x1 some (omega arith) (makes, some, less, few, refl, refl, refl) (omega arith) (λ x p b l h. from x) eu (index_in_board k before m left n (length outside) hl some (omega arith) d.room) d in
        let same = brings_same laws W rules n k inside outside left before m u s hl low1 x2 (omega arith) in
        let ev' : v ≡ lesser_of o (entry_of o.barred k next right (before + m) (len - m)) (pushed o W (entry_of o.barred k inside) (entry_of o.barred k next) x2) = ev ∙ ap (lesser_of o (entry_of o.barred k next right (before + m) (len - m))) (sym same) in
        let d2 = push_one laws W rules n k inside next right (before + m) (len - m) v s hr low2 D1 x2 (omega arith) (omega arith) (makes, some, less, few, refl, refl, refl) (omega arith) (λ x p b l h. elim [ inl d ↦ from x d | inr e ↦ let z = ap span_of e in omega (arith, z) ]) ev' (index_in_board k (before + m) (len - m) right n (length next) hr (omega arith) (omega arith) d1.room) d1 in
        same_pushes laws W rules n k inside (slice_set next (entry_index k (before + m) (len - m) right) v) (λ x. D1 x ⊎ (x ≡ x2)) (FromSplit s r (m + 1)) to back d2

    -- the same, as the code has it: what stands around the span is joined with the rule's price once for all splits
    pub split_code : (outside1 outside2 : List S) (around after beside x y : S)
        → around ≡ o.join (entry_of o.barred k outside q before len) (W r (before + 1) len)
        → beside ≡ entry_of o.barred k inside left before m
        → after ≡ entry_of o.barred k inside right (before + m) (len - m)
        → x ≡ o.join around after
        → y ≡ o.join around beside
        → outside1 ≡ slice_set outside (entry_index k before m left) (lesser_of o (entry_of o.barred k outside left before m) x)
        → outside2 ≡ slice_set outside1 (entry_index k (before + m) (len - m) right) (lesser_of o (entry_of o.barred k outside1 right (before + m) (len - m)) y)
        → PushedDown o W rules n k inside outside (FromSplit (span_number before len) r m)
        → PushedDown o W rules n k inside outside2 (FromSplit (span_number before len) r (m + 1))
    split_code outside1 outside2 around after beside x y e_around e_beside e_after e_x e_y e1 e2 d =
        let with_after = laws.associative (entry_of o.barred k outside q before len) (W r (before + 1) len) after in
        let with_beside = laws.associative (entry_of o.barred k outside q before len) (W r (before + 1) len) beside in
        let cost1 : x ≡ pushed o W (entry_of o.barred k inside) (entry_of o.barred k outside) (to_left r q left right before len m) = cc in
        let cost2 : y ≡ pushed o W (entry_of o.barred k inside) (entry_of o.barred k outside) (to_right r q left right before len m) = cc in
        let low = lesser_of o (entry_of o.barred k outside left before m) x in
        let next = slice_set outside (entry_index k before m left) low in
        let is : outside2 ≡ slice_set next (entry_index k (before + m) (len - m) right) (lesser_of o (entry_of o.barred k next right (before + m) (len - m)) y) = e2 ∙ ap (λ z. slice_set z (entry_index k (before + m) (len - m) right) (lesser_of o (entry_of o.barred k z right (before + m) (len - m)) y)) e1 in
        let done = split_more low (lesser_of o (entry_of o.barred k next right (before + m) (len - m)) y) (ap (lesser_of o (entry_of o.barred k outside left before m)) cost1) (ap (lesser_of o (entry_of o.barred k next right (before + m) (len - m))) cost2) d in
        subst (λ z. PushedDown o W rules n k inside z (FromSplit (span_number before len) r (m + 1))) (sym is) done

    -- and the entries over the span stay as they are
    pub span_kept : (outside1 outside2 : List S) (x y : S) → q < k → outside1 ≡ slice_set outside (entry_index k before m left) x → outside2 ≡ slice_set outside1 (entry_index k (before + m) (len - m) right) y → entry_of o.barred k outside2 q before len ≡ entry_of o.barred k outside q before len
    span_kept outside1 outside2 x y hq e1 e2 =
        let not_left : entry_index k before len q ≢ entry_index k before m left = λ e. (let s = same_index k before len q before m left (omega arith) some hq hl e in omega (arith, s.1)) in
        let not_right : entry_index k before len q ≢ entry_index k (before + m) (len - m) right = λ e. (let s = same_index k before len q (before + m) (len - m) right (omega arith) (omega arith) hq hr e in omega (arith, s.1)) in
        let right_kept : entry_of o.barred k outside2 q before len ≡ entry_of o.barred k outside1 q before len = rw e2 (get_or-set_other outside1 (entry_index k (before + m) (len - m) right) (entry_index k before len q) y o.barred not_right) in
        let left_kept : entry_of o.barred k outside1 q before len ≡ entry_of o.barred k outside q before len = rw e1 (get_or-set_other outside (entry_index k before m left) (entry_index k before len q) x o.barred not_left) in
        right_kept ∙ left_kept
