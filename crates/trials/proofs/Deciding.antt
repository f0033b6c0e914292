-- A test of each derivation of a part over some places, computed from the rules: it passes exactly where each derivation
-- passes, and where it fails some derivation does.
use Rattle.std.proofs.Common.{◌≡◌, ℕ, zero, suc, ◌+◌, ◌-◌, ◌<◌, ◌≤◌, Bool, true, false, ◌&&◌, ◌==◌, List, length, inl, inr, refl, arith}
use Rattle.std.proofs.lemmas.Bool.{eqb-true, and_parts, and_from, both_ways, eq-eqb, cases_lt}
use Rattle.book.specs.declared.rules.RightSide.{RightSide}
use Rattle.book.specs.declared.rules.RightSide.TheVariants.{Cut, Pair}
use Rattle.book.specs.declared.rules.Rule.{Rule}
use Rattle.sheet.specs.Pairs.{Pairs}
use Rattle.derivations.specs.Trees.{Tree, cut, pair, width, rule_at, Makes}
use Rattle.derivations.specs.Costs.{DerivesOver}
use Rattle.derivations.proofs.Deriving.{width_some, derives_size, derives_none}

-- whether each number below m passes
abbrev pub each_below : (ℕ → Bool) → ℕ → Bool
each_below f zero = true
each_below f (suc m) = each_below f m && f m

-- whether the number r passes the test f, where that is asked; f is computed only then
abbrev pub where_asked : Bool → (ℕ → Bool) → ℕ → Bool
where_asked true f r = f r
where_asked false f r = true

-- whether each derivation by the rule at an index passes, where `smaller` tests those over fewer places
abbrev pub each_by : Pairs → (ℕ → ℕ → ℕ → (Tree → Bool) → Bool) → ℕ → ℕ → RightSide → (Tree → Bool) → ℕ → Bool
each_by shown smaller before len (Cut stroke) test r = where_asked (len == 1 && shown (before + 1) stroke) (λ s. test (cut s)) r
each_by shown smaller before len (Pair left right) test r =
    each_below (λ m. smaller left before (m + 1) (λ a. smaller right (before + (m + 1)) (len - (m + 1)) (λ b. test (pair r a b)))) (len - 1)

-- whether each derivation of the part over the `len` places after the first `before` passes, for `len` up to the fuel
abbrev pub each_derivation : ℕ → List Rule → Pairs → ℕ → ℕ → ℕ → (Tree → Bool) → Bool
each_derivation zero rules shown part before len test = true
each_derivation (suc fuel) rules shown part before len test =
    each_below (λ r. where_asked ((rule_at rules r).part == part) (each_by shown (each_derivation fuel rules shown) before len (rule_at rules r).side test) r) (length rules)

below_passes : (f : ℕ → Bool) (m j : ℕ) → each_below f m ≡ true → j < m → f j ≡ true
below_passes f zero j e h = absurd (omega arith)
below_passes f (suc m) j e h =
    let both = and_parts (each_below f m) (f m) e in
    elim (cases_lt j m) [ inl less ↦ below_passes f m j both.0 less | inr past ↦ let last : j ≡ m = omega arith in rw last both.1 ]

below_fails : (f : ℕ → Bool) (m : ℕ) → each_below f m ≡ false → (j : ℕ) × (j < m) × (f j ≡ false)
below_fails f zero e = absurd (both_ways true e refl)
below_fails f (suc m) e = either (each_below f m) (f m) (below_fails f m) refl e
  where
    either : (a b : Bool) → (a ≡ false → (j : ℕ) × (j < m) × (f j ≡ false)) → f m ≡ b → (a && b) ≡ false → (j : ℕ) × (j < suc m) × (f j ≡ false)
    either a false less k e = (m, omega arith, k)
    either true true less k e = absurd (both_ways true e refl)
    either false true less k e = let t = less refl in (t.0, omega (arith, t.1), t.2)

asked_passes : (asked : Bool) (f : ℕ → Bool) (r : ℕ) → where_asked asked f r ≡ true → asked ≡ true → f r ≡ true
asked_passes true f r e h = e
asked_passes false f r e h = absurd (both_ways false refl h)

asked_fails : (asked : Bool) (f : ℕ → Bool) (r : ℕ) → where_asked asked f r ≡ false → (asked ≡ true) × (f r ≡ false)
asked_fails true f r e = (refl, e)
asked_fails false f r e = absurd (both_ways true e refl)

module _ (rules : List Rule) (shown : Pairs) where
  pub each_passes : (fuel part before len : ℕ) (test : Tree → Bool) → len ≤ fuel → each_derivation fuel rules shown part before len test ≡ true → (t : Tree) → DerivesOver rules shown part before len t → test t ≡ true
  each_passes zero part before len test h e t d = absurd (derives_none rules shown part before t (let none : len ≡ 0 = omega arith in rw none at d))
  each_passes (suc fuel) part before len test h e (cut r) d =
      let here = asked_passes _ _ r (below_passes _ (length rules) r e d.2.listed) (eq-eqb _ _ d.2.for_part) in
      asked_passes _ _ r (rw d.2.by_side at here) (and_from (len == 1) (shown (before + 1) d.1) (eq-eqb len 1 d.0) d.3)
  each_passes (suc fuel) part before len test h e (pair r a b) d =
      let here = asked_passes _ _ r (below_passes _ (length rules) r e d.3.listed) (eq-eqb _ _ d.3.for_part) in
      let some_left = width_some a in
      let some_right = width_some b in
      let all : len ≡ width a + width b = d.0 in
      let wide_left : width a - 1 + 1 ≡ width a = omega arith in
      let wide_right : len - width a ≡ width b = omega arith in
      let split = rw (wide_left, wide_right) at (below_passes _ (len - 1) (width a - 1) (rw d.3.by_side at here) (omega arith)) in
      each_passes fuel d.2 (before + width a) (width b) (λ u. test (pair r a u)) (omega arith) (each_passes fuel d.1 before (width a) (λ t. each_derivation fuel rules shown d.2 (before + width a) (width b) (λ u. test (pair r t u))) (omega arith) split a d.4) b d.5

  -- a derivation of the part over these places that fails the test
  abbrev pub Failing : ℕ → ℕ → ℕ → (Tree → Bool) → Type 0
  Failing part before len test = (t : Tree) × DerivesOver rules shown part before len t × (test t ≡ false)

  failing_by : (smaller : ℕ → ℕ → ℕ → (Tree → Bool) → Bool) → ((part before len : ℕ) (test : Tree → Bool) → smaller part before len test ≡ false → Failing part before len test) → (part before len : ℕ) (test : Tree → Bool) (r : ℕ) (side : RightSide) → Makes rules r part side → each_by shown smaller before len side test r ≡ false → Failing part before len test
  failing_by smaller each part before len test r (Cut stroke) makes e =
      let opened = asked_fails _ _ r e in
      let both = and_parts (len == 1) (shown (before + 1) stroke) opened.0 in
      (cut r, (eqb-true len 1 both.0, stroke, makes, both.1), opened.1)
  failing_by smaller each part before len test r (Pair left right) makes e =
      let m = below_fails _ (len - 1) e in
      let a = each left before (m.0 + 1) _ m.2 in
      let b = each right (before + (m.0 + 1)) (len - (m.0 + 1)) _ a.2 in
      let wide_left : width a.0 ≡ m.0 + 1 = derives_size rules shown left before (m.0 + 1) a.0 a.1 in
      let wide_right : width b.0 ≡ len - (m.0 + 1) = derives_size rules shown right (before + (m.0 + 1)) (len - (m.0 + 1)) b.0 b.1 in
      let all : len ≡ width a.0 + width b.0 = omega (arith, m.1) in
      (pair r a.0 b.0, (all, left, right, makes, rw wide_left a.1, rw (wide_left, wide_right) b.1), b.2)

  pub some_fails : (fuel part before len : ℕ) (test : Tree → Bool) → each_derivation fuel rules shown part before len test ≡ false → Failing part before len test
  some_fails zero part before len test e = absurd (both_ways true e refl)
  some_fails (suc fuel) part before len test e =
      let r = below_fails _ (length rules) e in
      let asked = asked_fails _ _ r.0 r.2 in
      failing_by (each_derivation fuel rules shown) (some_fails fuel) part before len test r.0 (rule_at rules r.0).side (record { listed = r.1; for_part = eqb-true _ part asked.0; by_side = refl }) asked.1
