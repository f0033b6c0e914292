-- A sheet with fewer open pairs: where each derivation up to some weight runs along those too, the tie rule takes the same one.
use Rattle.std.proofs.Common.{◌≡◌, ℕ, ◌+◌, true, List, inl, inr}
use Rattle.scale.specs.Ops.{Ops, Laws}
use Rattle.book.specs.declared.rules.RightSide.TheVariants.{Pair}
use Rattle.book.specs.declared.rules.Rule.{Rule}
use Rattle.sheet.specs.Pairs.{Pairs}
use Rattle.derivations.specs.Trees.{Tree, cut, pair, width, Makes, Weights, weight}
use Rattle.derivations.specs.Costs.{DerivesOver}
use Rattle.derivations.specs.Ties.{Best, Chosen}
use Rattle.derivations.proofs.Minima.{le_join}
use Rattle.derivations.proofs.Deriving.{derives_size, derives_halves}

module _ {S : Type 0} {o : Ops S} (laws : Laws o) (W : Weights S) (rules : List Rule) (few many : Pairs) (fewer : (p c : ℕ) → few p c ≡ true → many p c ≡ true) where
  pub derives_more : (part before len : ℕ) (t : Tree) → DerivesOver rules few part before len t → DerivesOver rules many part before len t
  derives_more part before len (cut r) d = (d.0, d.1, d.2, fewer (before + 1) d.1 d.3)
  derives_more part before len (pair r a b) d = (d.0, d.1, d.2, d.3, derives_more d.1 before (width a) a d.4, derives_more d.2 (before + width a) (width b) b d.5)

  -- each derivation over the many that weighs no more than c is one over the few
  abbrev pub Tight : ℕ → ℕ → ℕ → S → Type 0
  Tight part before len c = (u : Tree) → DerivesOver rules many part before len u → o.le (weight o W before u) c ≡ true → DerivesOver rules few part before len u

  best_more : (part before len : ℕ) (t : Tree) → Tight part before len (weight o W before t) → Best o W rules few part before len t → Best o W rules many part before len t
  best_more part before len t tight best = record {
    derives = derives_more part before len t best.derives;
    least = λ u d. elim (laws.total (weight o W before t) (weight o W before u)) [ inl h ↦ h | inr h ↦ best.least u (tight u d h) ];
    first = λ u d e. best.first u (tight u d (rw e (laws.reflexive (weight o W before t)))) e;
  }

  best_fewer : (part before len : ℕ) (t : Tree) → Tight part before len (weight o W before t) → Best o W rules many part before len t → Best o W rules few part before len t
  best_fewer part before len t tight best = record {
    derives = tight t best.derives (laws.reflexive (weight o W before t));
    least = λ u d. best.least u (derives_more part before len u d);
    first = λ u d. best.first u (derives_more part before len u d);
  }

  -- a half that weighs no more can stand for a half, and then the whole weighs no more
  module _ (part before len r left right : ℕ) (a b : Tree) (makes : Makes rules r part (Pair left right)) (d : DerivesOver rules many part before len (pair r a b)) (tight : Tight part before len (weight o W before (pair r a b))) where
    tight_left : Tight left before (width a) (weight o W before a)
    tight_left u du h =
        let wide : width u ≡ width a = derives_size rules many left before (width a) u du in
        let halves = derives_halves rules many part before len r part left right a b makes d in
        let whole : DerivesOver rules many part before len (pair r u b) = (rw wide d.0, left, right, makes, rw wide du, rw wide halves.2) in
        let price = W r (before + 1) (width a + width b) in
        let rest = weight o W (before + width a) b in
        let lighter : o.le (weight o W before (pair r u b)) (weight o W before (pair r a b)) ≡ true = rw (wide, weight) (le_join laws price price _ _ (laws.reflexive price) (le_join laws _ _ rest rest h (laws.reflexive rest))) in
        rw wide at (derives_halves rules few part before len r part left right u b makes (tight (pair r u b) whole lighter)).1

    tight_right : Tight right (before + width a) (width b) (weight o W (before + width a) b)
    tight_right u du h =
        let wide : width u ≡ width b = derives_size rules many right (before + width a) (width b) u du in
        let halves = derives_halves rules many part before len r part left right a b makes d in
        let whole : DerivesOver rules many part before len (pair r a u) = (rw wide d.0, left, right, makes, halves.1, rw wide du) in
        let price = W r (before + 1) (width a + width b) in
        let first = weight o W before a in
        let lighter : o.le (weight o W before (pair r a u)) (weight o W before (pair r a b)) ≡ true = rw (wide, weight) (le_join laws price price _ _ (laws.reflexive price) (le_join laws first first _ _ (laws.reflexive first) h)) in
        rw wide at (derives_halves rules few part before len r part left right a u makes (tight (pair r a u) whole lighter)).2

  pub chosen_more : (part before len : ℕ) (t : Tree) → Tight part before len (weight o W before t) → Chosen o W rules few part before len t → Chosen o W rules many part before len t
  chosen_more part before len (cut r) tight c = best_more part before len (cut r) tight c
  chosen_more part before len (pair r a b) tight c =
      let best = best_more part before len (pair r a b) tight c.0 in (
        best,
        c.1,
        c.2,
        c.3,
        chosen_more c.1 before (width a) a (tight_left part before len r c.1 c.2 a b c.3 best.derives tight) c.4,
        chosen_more c.2 (before + width a) (width b) b (tight_right part before len r c.1 c.2 a b c.3 best.derives tight) c.5,
      )

  pub chosen_fewer : (part before len : ℕ) (t : Tree) → Tight part before len (weight o W before t) → Chosen o W rules many part before len t → Chosen o W rules few part before len t
  chosen_fewer part before len (cut r) tight c = best_fewer part before len (cut r) tight c
  chosen_fewer part before len (pair r a b) tight c = (
    best_fewer part before len (pair r a b) tight c.0,
    c.1,
    c.2,
    c.3,
    chosen_fewer c.1 before (width a) a (tight_left part before len r c.1 c.2 a b c.3 c.0.derives tight) c.4,
    chosen_fewer c.2 (before + width a) (width b) b (tight_right part before len r c.1 c.2 a b c.3 c.0.derives tight) c.5,
  )
