-- The open pairs of one sheet made those of another, place after place and stroke after stroke.
use Rattle.std.proofs.Common.{◌≡◌, ℕ, ◌+◌, ◌<◌, ◌≤◌, Bool, true, false, cond, ◌&&◌, ◌⊎◌, eqb, ltb, leb, ap, ap₂, sym, ◌∙◌, arith}
use mathlib.Core.Path.{fun_ext}
use Rattle.std.proofs.lemmas.Bool.Decides.{nat_tests}
use Rattle.sheet.specs.Pairs.{Pairs, in_range, closed_at, opened_at}
use Rattle.sheet.specs.Laws.{Laws}
use Rattle.marks.specs.Copies.{copied, copied_at}

-- what one more test lets pass
between : (a b d e x y : Bool) → (d ≡ true → e ≡ true) → cond (a && (b && d)) x y ≡ true → (y ≡ true) ⊎ (cond (a && (b && e)) x y ≡ true)
between a b d e x y less h = grind arith

-- the pairs f are copied over g, on a sheet of n places
module _ (n : ℕ) (f g : Pairs) where
  -- the strokes of the place p from A to below k are copied
  abbrev pub copied_below : ℕ → ℕ → Pairs
  copied_below p k q c = cond (eqb q p && (leb 65 c && ltb c k)) (copied n f q c) (g q c)

  -- the places below p are copied
  abbrev pub copied_before : ℕ → Pairs
  copied_before p q c = cond (leb 1 q && ltb q p) (copied n f q c) (g q c)

  module _ (p k : ℕ) (past : 65 ≤ k) {t u : Pairs} (et : t ≡ copied_below p k) where
    pub below_opened : {m : ℕ} → m ≡ n → f p k ≡ true → u ≡ opened_at m t p k → u ≡ copied_below p (k + 1)
    below_opened em h eu = eu ∙ ap₂ (λ m s. opened_at m s p k) em et ∙ fun_ext (λ q. fun_ext (λ c. grind (arith, nat_tests)))

    pub below_closed : f p k ≡ false → u ≡ closed_at t p k → u ≡ copied_below p (k + 1)
    below_closed h eu = eu ∙ ap (λ s. closed_at s p k) et ∙ fun_ext (λ q. fun_ext (λ c. grind (arith, nat_tests)))

    -- what is open on the way was open, or is afterwards
    pub below_between : u ≡ copied_below p (k + 1) → (q c : ℕ) → t q c ≡ true → (g q c ≡ true) ⊎ (u q c ≡ true)
    below_between eu q c h =
        let was = ap (λ s. s q c) (sym et) ∙ h in
        rw eu (between (eqb q p) (leb 65 c) (ltb c k) (ltb c (k + 1)) (copied n f q c) (g q c) (λ less. grind (arith, nat_tests)) was)

  module _ (p : ℕ) {t u : Pairs} (et : t ≡ copied_before p) where
    pub before_copied : {m : ℕ} → 1 ≤ p → m ≡ n → u ≡ copied_at m f t p → u ≡ copied_before (p + 1)
    before_copied some em eu = eu ∙ ap₂ (λ m s. copied_at m f s p) em et ∙ fun_ext (λ q. fun_ext (λ c. grind (arith, nat_tests)))

    pub before_between : u ≡ copied_before (p + 1) → (q c : ℕ) → t q c ≡ true → (g q c ≡ true) ⊎ (u q c ≡ true)
    before_between eu q c h =
        let was = ap (λ s. s q c) (sym et) ∙ h in
        rw eu (between true (leb 1 q) (ltb q p) (ltb q (p + 1)) (copied n f q c) (g q c) (λ less. grind (arith, nat_tests)) was)

  pub before_all : (p : ℕ) → n < p → ((q c : ℕ) → g q c ≡ true → in_range n q c ≡ true) → copied_before p ≡ copied n f
  before_all p past within = fun_ext (λ q. fun_ext (λ c. let h = within q c in grind (arith, nat_tests)))

-- the two loops of the copy, on a sheet with its laws
module _ {S : Type 0} {places : S → ℕ} {shown : S → Pairs} {kept : S → S → Type 0} (laws : Laws places shown kept) (f : Pairs) {start was now : S} (keeps : kept start was) (moves : kept was now) where
  abbrev n : ℕ
  n = places start

  same : places was ≡ n
  same = laws.lasts start was keeps

  module _ (p k : ℕ) (past : 65 ≤ k) (et : shown was ≡ copied_below n f (shown start) p k) where
    abbrev StrokeDone : Type 0
    StrokeDone = (shown now ≡ copied_below n f (shown start) p (k + 1)) × kept start now

    stroke_done : shown now ≡ copied_below n f (shown start) p (k + 1) → StrokeDone
    stroke_done eu = (eu, laws.joins start was now keeps moves (below_between n f (shown start) p k past et eu))

    pub stroke_opened : f p k ≡ true → shown now ≡ opened_at (places was) (shown was) p k → StrokeDone
    stroke_opened h eu = stroke_done (below_opened n f (shown start) p k past et same h eu)

    pub stroke_closed : f p k ≡ false → shown now ≡ closed_at (shown was) p k → StrokeDone
    stroke_closed h eu = stroke_done (below_closed n f (shown start) p k past et h eu)

  pub place_done : (p : ℕ) → 1 ≤ p → shown was ≡ copied_before n f (shown start) p → shown now ≡ copied_at (places was) f (shown was) p → (shown now ≡ copied_before n f (shown start) (p + 1)) × kept start now
  place_done p some et eu =
      let done = before_copied n f (shown start) p et some same eu in
      (done, laws.joins start was now keeps moves (before_between n f (shown start) p et done))
