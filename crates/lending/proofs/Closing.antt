-- The strokes of a place closed one after another, from A on.
use Rattle.std.proofs.Common.{◌≡◌, ℕ, ◌+◌, ◌≤◌, true, false, cond, not, ◌&&◌, eqb, ltb, leb, ap, ◌∙◌, arith}
use mathlib.Core.Path.{fun_ext}
use Rattle.std.proofs.lemmas.Bool.Decides.{nat_tests}
use Rattle.sheet.specs.Pairs.{Pairs, closed_at}
use Rattle.lending.specs.Closings.{only_at}

module _ (f : Pairs) (p c : ℕ) where
  -- f without the strokes of the place from A to below k, but for c
  abbrev pub closed_below : ℕ → Pairs
  closed_below k q d = cond ((eqb q p && not (eqb d c)) && (leb 65 d && ltb d k)) false (f q d)

  pub below_less : (k q d : ℕ) → closed_below k q d ≡ true → f q d ≡ true
  below_less k q d h = grind (arith, nat_tests)

  -- g is closed below k, and h is g after the turn at k
  pub below_closed : (k : ℕ) {g h : Pairs} → 65 ≤ k → (k ≡ c → ⊥) → g ≡ closed_below k → h ≡ closed_at g p k → h ≡ closed_below (k + 1)
  below_closed k past n eg eh = eh ∙ ap (λ s. closed_at s p k) eg ∙ fun_ext (λ q. fun_ext (λ d. grind (arith, nat_tests)))

  pub below_passed : (k : ℕ) {g : Pairs} → k ≡ c → g ≡ closed_below k → g ≡ closed_below (k + 1)
  below_passed k e eg = eg ∙ fun_ext (λ q. fun_ext (λ d. grind (arith, nat_tests)))

  pub only_less : (q d : ℕ) → only_at f p c q d ≡ true → f q d ≡ true
  only_less q d h = grind (arith, nat_tests)

  -- where the place has no open stroke, all but one may be closed with nothing changed
  pub only_none : ((d : ℕ) → f p d ≡ false) → f ≡ only_at f p c
  only_none h = fun_ext (λ q. fun_ext (λ d. let e = h d in grind (arith, nat_tests)))
