-- The first split and rule that attain the least weight.
use Rattle.std.proofs.Common.{◌≡◌, ℕ, ◌+◌, ◌<◌, ◌≤◌, ◌⊎◌, true, false, if◌then◌else◌, ◌==◌, List, length, sym, refl, ◌∙◌, inl, inr, arith}
use Rattle.std.proofs.lemmas.Bool.{both_ways, cases_lt, cases_order}
use Rattle.std.proofs.lemmas.Bool.Decides.{nat_tests}
use Rattle.scale.specs.Ops.{Ops, Laws}
use Rattle.book.specs.declared.rules.Rule.{Rule}
use Rattle.sheet.specs.Pairs.{Pairs}
use Rattle.derivations.specs.Least.{LeastOf}
use Rattle.derivations.specs.Trees.{Tree, rule_at, Weights, weight}
use Rattle.derivations.specs.Costs.{DerivesOver, LeastOver}
use Rattle.derivations.specs.Ties.{first_rule, split, NotAfter}
use Rattle.derivations.proofs.Deriving.{derives_listed, derives_part, derives_split}
use Rattle.planner.specs.Boards.{span_number}
use Rattle.planner.specs.Charts.{Filled, Inside}
use Rattle.planner.specs.Codes.{code_of, DerivesBySplit, Picked}
use Rattle.planner.proofs.Indexing.{number_within, number_back}

-- the left half has fewer than m places, or just m and the first rule stands before index r
abbrev pub Seen : ℕ → ℕ → Tree → Type 0
Seen m r t = (split t < m) ⊎ ((split t ≡ m) × (first_rule t < r))

seen_next : (m r : ℕ) (t : Tree) → Seen m (r + 1) t → Seen m r t ⊎ ((split t ≡ m) × (first_rule t ≡ r))
seen_next m r t (inl h) = inl (inl h)
seen_next m r t (inr h) = elim (cases_lt (first_rule t) r) [ inl lt ↦ inl (inr (h.0, lt)) | inr ge ↦ inr (h.0, omega (arith, h.1)) ]

-- no left half is shorter than the first split
none_shorter : (len first m : ℕ) → 1 ≤ len → first ≡ (if len == 1 then 0 else 1) → m < first → (1 < len → 0 < m) → ⊥
none_shorter len first m some e less more = grind (arith, nat_tests)

-- none of the derivations that have been seen is as cheap as the least
abbrev pub Missed : {S : Type 0} → Ops S → Weights S → List Rule → Pairs → ℕ → ℕ → ℕ → S → ℕ → ℕ → Type 0
Missed o W rules shown part before len least m r =
    (u : Tree) → DerivesOver rules shown part before len u → Seen m r u → o.le (weight o W before u) least ≡ true → ⊥

module _ {S : Type 0} {o : Ops S} (laws : Laws o) (W : Weights S) (rules : List Rule) (shown : Pairs) (part before len : ℕ) (least : S) where
  pub missed_first : (first : ℕ) → 1 ≤ len → first ≡ (if len == 1 then 0 else 1) → Missed o W rules shown part before len least first 0
  missed_first first some is u d (inl h) cheap = absurd (none_shorter len first (split u) some is h (derives_split rules shown part before len u d).1)
  missed_first first some is u d (inr h) cheap = absurd (omega (arith, h.1))

  missed_next : (m r : ℕ) → Missed o W rules shown part before len least m r → ((u : Tree) → DerivesBySplit rules shown part before len m r u → o.le (weight o W before u) least ≡ true → ⊥) → Missed o W rules shown part before len least m (r + 1)
  missed_next m r missed here u d s cheap = elim (seen_next m r u s) [
    | inl seen ↦ missed u d seen cheap
    | inr new ↦ here u ((d, new.1), new.0) cheap
  ]

  -- the rule is for another part
  pub missed_other : (m r : ℕ) → ((rule_at rules r).part ≡ part → ⊥) → Missed o W rules shown part before len least m r → Missed o W rules shown part before len least m (r + 1)
  missed_other m r other missed = missed_next m r missed (λ u d cheap. other (rw d.0.1 at (derives_part rules shown part before len u d.0.0)))

  -- or it weighs more
  pub missed_dear : (m r q : ℕ) (c : S) → q ≡ part → LeastOf o (DerivesBySplit rules shown q before len m r) (weight o W before) c → false ≡ o.le c least → Missed o W rules shown part before len least m r → Missed o W rules shown part before len least m (r + 1)
  missed_dear m r q c same l dear missed = missed_next m r missed (λ u d cheap. both_ways _ (sym dear) (laws.transitive c _ least (l.below u (rw same d)) cheap))

  pub missed_round : (m r : ℕ) → length rules ≤ r → Missed o W rules shown part before len least m r → Missed o W rules shown part before len least (m + 1) 0
  missed_round m r all missed u d (inl h) cheap = elim (cases_lt (split u) m) [
    | inl lt ↦ missed u d (inl lt) cheap
    | inr ge ↦ missed u d (inr (omega (arith, h), omega (arith, derives_listed rules shown part before len u d))) cheap
  ]
  missed_round m r all missed u d (inr h) cheap = absurd (omega (arith, h.1))

  first_here : (m r : ℕ) → Missed o W rules shown part before len least m r → (t : Tree) → split t ≡ m → first_rule t ≡ r → (u : Tree) → DerivesOver rules shown part before len u → o.le (weight o W before u) least ≡ true → NotAfter t u
  first_here m r missed t at by u d cheap = elim (cases_order (split u) (split t)) [
    | inl same ↦ elim (cases_lt (first_rule u) (first_rule t)) [
      | inl lt ↦ absurd (missed u d (inr (same ∙ at, omega (arith, lt, by))) cheap)
      | inr ge ↦ inr (sym same, ge)
    ]
    | inr (inl lt) ↦ absurd (missed u d (inl (omega (arith, lt, at))) cheap)
    | inr (inr gt) ↦ inl gt
  ]

  pub picked_here : (m r q : ℕ) (c : S) → LeastOver o W rules shown part before len least → o.le o.barred least ≡ false → q ≡ part → LeastOf o (DerivesBySplit rules shown q before len m r) (weight o W before) c → true ≡ o.le c least → Missed o W rules shown part before len least m r → Picked o W rules shown part before len (code_of m r)
  picked_here m r q c all goes same l cheap missed = elim l.met [
    | inl e ↦ absurd (both_ways _ goes (rw e at (sym cheap)))
    | inr f ↦
        let t = f.0 in
        let d : DerivesBySplit rules shown part before len m r t = rw (← same) f.1 in
        let cheapest : o.le (weight o W before t) least ≡ true = rw f.2 (sym cheap) in (
          t,
          record {
            derives = d.0.0;
            least = λ u e. laws.transitive _ least _ cheapest (all.below u e);
            first = λ u e w. first_here m r missed t d.1 d.0.1 u e (rw w cheapest);
          },
          rw (d.1, d.0.1) refl,
        )
  ]

  -- some split and rule attain it, so one is picked before all are seen
  pub picked_before : (m code : ℕ) → len ≤ m → LeastOver o W rules shown part before len least → o.le o.barred least ≡ false → Missed o W rules shown part before len least m 0 → Picked o W rules shown part before len code
  picked_before m code all l goes missed = elim l.met [
    | inl e ↦ absurd (both_ways _ goes (rw e (laws.reflexive o.barred)))
    | inr f ↦ absurd (missed f.0 f.1 (inl (omega (arith, (derives_split rules shown part before len f.0 f.1).0))) (rw f.2 (laws.reflexive least)))
  ]

module _ {S : Type 0} (o : Ops S) (W : Weights S) (rules : List Rule) (shown : Pairs) (k : ℕ) (board : List S) where
  -- an inside chart is filled up to each span
  pub inside_filled : (n before len : ℕ) → 1 ≤ len → before + len ≤ n → Inside o W rules n shown k board → Filled o W rules shown k board (span_number before len)
  inside_filled n before len some few inside q b l hq hl less =
      inside q b l hq hl (number_back b l n hl (omega (arith, less, number_within before len n some few)))
