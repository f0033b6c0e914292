-- A board that is filled span by span.
use Rattle.std.proofs.Common.{◌≡◌, ℕ, ◌+◌, ◌*◌, ◌<◌, ◌≤◌, ◌≢◌, ◌⊎◌, List, length, set, sym, ap, ◌∙◌, subst, inl, inr, arith, get_or-set_other, get_or-set_same}
use Rattle.std.proofs.lemmas.Bool.{cases_lt, cases_order}
use Rattle.scale.specs.Ops.{Ops, Laws, lesser_of}
use Rattle.book.specs.declared.rules.Rule.{Rule}
use Rattle.sheet.specs.Pairs.{Pairs}
use Rattle.derivations.specs.Least.{LeastOf}
use Rattle.derivations.specs.Trees.{rule_at, Weights, weight}
use Rattle.derivations.specs.Costs.{DerivesOver, LeastOver}
use Rattle.derivations.specs.Ties.{first_rule, DerivesByRule}
use Rattle.derivations.proofs.Minima.{least_same, least_either}
use Rattle.derivations.proofs.Deriving.{derives_listed, derives_part}
use Rattle.planner.specs.Boards.{span_number, entry_index, entry_of}
use Rattle.planner.specs.Charts.{Filled, Lowered}
use Rattle.planner.proofs.Indexing.{same_span, index_below, index_in_span}

-- the entries of the first p parts over the span are barred
abbrev pub Barred : {S : Type 0} → Ops S → ℕ → List S → ℕ → ℕ → ℕ → Type 0
Barred o k board before len p = (part : ℕ) → part < p → entry_of o.barred k board part before len ≡ o.barred

pub barred_put : {S : Type 0} (o : Ops S) (k : ℕ) (board : List S) (before len p : ℕ) (c : S) → entry_index k before len p < length board → c ≡ o.barred → Barred o k board before len p → Barred o k (set board (entry_index k before len p) c) before len (p + 1)
barred_put o k board before len p c room e barred q lt = elim (cases_lt q p) [
  | inl less ↦ let other : entry_index k before len q ≢ entry_index k before len p = omega arith in get_or-set_other board (entry_index k before len p) (entry_index k before len q) c o.barred other ∙ barred q less
  | inr ge ↦ let same : q ≡ p = omega arith in rw same (get_or-set_same board (entry_index k before len p) c o.barred room ∙ e)
]

module _ {S : Type 0} {o : Ops S} (laws : Laws o) (W : Weights S) (rules : List Rule) (shown : Pairs) (k : ℕ) where
  -- the smaller spans stay as they are
  pub filled_put : (board : List S) (before len part : ℕ) (c : S) → Filled o W rules shown k board (span_number before len) → Filled o W rules shown k (set board (entry_index k before len part) c) (span_number before len)
  filled_put board before len part c filled q b l hq some less =
      let other : entry_index k b l q ≢ entry_index k before len part = omega (arith, index_below k (span_number b l) (span_number before len) q hq less) in
      rw (get_or-set_other board (entry_index k before len part) (entry_index k b l q) c o.barred other) (filled q b l hq some less)

  -- one rule more
  pub lowered_put : (board : List S) (before len r : ℕ) (a c : S) → (rule_at rules r).part < k → (span_number before len + 1) * k ≤ length board → Lowered o W rules shown k board before len r → LeastOf o (DerivesByRule rules shown (rule_at rules r).part before len r) (weight o W before) a → c ≡ lesser_of o (entry_of o.barred k board (rule_at rules r).part before len) a → Lowered o W rules shown k (set board (entry_index k before len (rule_at rules r).part) c) before len (r + 1)
  lowered_put board before len r a c hp room lowered least e q hq = elim (cases_order q p) [
    | inl same ↦ subst (λ x. LeastOf o (λ t. DerivesOver rules shown x before len t × (first_rule t < r + 1)) (weight o W before) (entry_of o.barred k (set board (entry_index k before len p) c) x before len)) (sym same) here
    | inr (inl less) ↦ there (omega arith) (omega arith)
    | inr (inr more) ↦ there (omega arith) (omega arith)
  ]
    where
      p : ℕ
      p = (rule_at rules r).part

      here : LeastOf o (λ t. DerivesOver rules shown p before len t × (first_rule t < r + 1)) (weight o W before) (entry_of o.barred k (set board (entry_index k before len p) c) p before len)
      here =
          let within : entry_index k before len p < length board = index_in_span k before len p (length board) hp room in
          let both = least_either laws (λ t. DerivesOver rules shown p before len t × (first_rule t < r)) (DerivesByRule rules shown p before len r) (weight o W before) _ a (lowered p hp) least in
          rw (get_or-set_same board (entry_index k before len p) c o.barred within, e)
          (least_same laws (λ t. (DerivesOver rules shown p before len t × (first_rule t < r)) ⊎ DerivesByRule rules shown p before len r t) (λ t. DerivesOver rules shown p before len t × (first_rule t < r + 1)) (weight o W before) _
          (λ t. elim [ inl h ↦ (h.0, omega (arith, h.1)) | inr h ↦ (h.0, omega (arith, h.1)) ])
          (λ t h. elim (cases_lt (first_rule t) r) [ inl lt ↦ inl (h.0, lt) | inr ge ↦ inr (h.0, omega (arith, h.1)) ])
          both)

      there : (q ≡ p → ⊥) → entry_index k before len q ≢ entry_index k before len p → LeastOf o (λ t. DerivesOver rules shown q before len t × (first_rule t < r + 1)) (weight o W before) (entry_of o.barred k (set board (entry_index k before len p) c) q before len)
      there differs other =
          rw (get_or-set_other board (entry_index k before len p) (entry_index k before len q) c o.barred other)
          (least_same laws (λ t. DerivesOver rules shown q before len t × (first_rule t < r)) (λ t. DerivesOver rules shown q before len t × (first_rule t < r + 1)) (weight o W before) _
          (λ t h. (h.0, omega (arith, h.1)))
          (λ t h. elim (cases_lt (first_rule t) r) [
            | inl lt ↦ (h.0, lt)
            | inr ge ↦ let is : first_rule t ≡ r = omega (arith, h.1) in absurd (differs (sym (derives_part rules shown q before len t h.0) ∙ ap (λ x. (rule_at rules x).part) is))
          ])
          (lowered q hq))

  -- all the rules
  pub lowered_all : (board : List S) (before len r : ℕ) → 1 ≤ len → length rules ≤ r → Filled o W rules shown k board (span_number before len) → Lowered o W rules shown k board before len r → Filled o W rules shown k board (span_number before len + 1)
  lowered_all board before len r some all filled lowered q b l hq hl lt = elim (cases_lt (span_number b l) (span_number before len)) [
    | inl less ↦ filled q b l hq hl less
    | inr ge ↦ let s = same_span b l before len hl some (omega arith) in rw (s.0, s.1) here
  ]
    where
      here : LeastOver o W rules shown q before len (entry_of o.barred k board q before len)
      here = least_same laws (λ t. DerivesOver rules shown q before len t × (first_rule t < r)) (DerivesOver rules shown q before len) (weight o W before) _ (λ t h. h.0) (λ t h. (h, omega (arith, derives_listed rules shown q before len t h))) (lowered q hq)
