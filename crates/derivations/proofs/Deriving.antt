-- Derivations taken apart: their widths, their first rules and their halves.
use Rattle.std.proofs.Common.{◌≡◌, ℕ, ◌+◌, ◌<◌, List, length, sym, refl, ap, ◌∙◌, arith, length-append}
use Rattle.book.specs.declared.rules.RightSide.{RightSide}
use Rattle.book.specs.declared.rules.RightSide.TheVariants.{Cut, Pair}
use Rattle.book.specs.declared.rules.Rule.{Rule}
use Rattle.sheet.specs.Pairs.{Pairs}
use Rattle.derivations.specs.Trees.{Tree, cut, pair, width, rule_at, Makes, strokes}
use Rattle.derivations.specs.Costs.{DerivesOver}
use Rattle.derivations.specs.Ties.{first_rule, split}

pub width_some : (t : Tree) → 0 < width t
width_some (cut r) = omega arith
width_some (pair r a b) = omega (arith, width_some a)

pub length_strokes : (rules : List Rule) (t : Tree) → length (strokes rules t) ≡ width t
length_strokes rules (cut r) = refl
length_strokes rules (pair r a b) = rw (length-append, length_strokes rules a, length_strokes rules b)

abbrev pub left_of : RightSide → ℕ
left_of (Cut stroke) = 0
left_of (Pair left right) = left

abbrev pub right_of : RightSide → ℕ
right_of (Cut stroke) = 0
right_of (Pair left right) = right

pub cut_not_pair : (rules : List Rule) (r p q stroke left right : ℕ) → Makes rules r p (Cut stroke) → Makes rules r q (Pair left right) → ⊥
cut_not_pair rules r p q stroke left right m k = let e : Cut stroke ≡ Pair left right = sym m.by_side ∙ k.by_side in cc

pub one_cut : (rules : List Rule) (r p q x y : ℕ) → Makes rules r p (Cut x) → Makes rules r q (Cut y) → (p ≡ q) × (x ≡ y)
one_cut rules r p q x y m k = let e : Cut x ≡ Cut y = sym m.by_side ∙ k.by_side in (sym m.for_part ∙ k.for_part, cc)

pub one_pair : (rules : List Rule) (r p q left right left' right' : ℕ) → Makes rules r p (Pair left right) → Makes rules r q (Pair left' right') → (p ≡ q) × (left ≡ left') × (right ≡ right')
one_pair rules r p q left right left' right' m k =
    let e : Pair left right ≡ Pair left' right' = sym m.by_side ∙ k.by_side in
    (sym m.for_part ∙ k.for_part, ap left_of e, ap right_of e)

module _ (rules : List Rule) (shown : Pairs) where
  pub derives_size : (part before len : ℕ) (t : Tree) → DerivesOver rules shown part before len t → width t ≡ len
  derives_size part before len (cut r) d = sym d.0
  derives_size part before len (pair r a b) d = sym d.0

  pub derives_listed : (part before len : ℕ) (t : Tree) → DerivesOver rules shown part before len t → first_rule t < length rules
  derives_listed part before len (cut r) d = d.2.listed
  derives_listed part before len (pair r a b) d = d.3.listed

  pub derives_part : (part before len : ℕ) (t : Tree) → DerivesOver rules shown part before len t → (rule_at rules (first_rule t)).part ≡ part
  derives_part part before len (cut r) d = d.2.for_part
  derives_part part before len (pair r a b) d = d.3.for_part

  -- the left half is not all, and a derivation over two places or more has one
  pub derives_split : (part before len : ℕ) (t : Tree) → DerivesOver rules shown part before len t → (split t < len) × (1 < len → 0 < split t)
  derives_split part before len (cut r) d = (omega (arith, d.0), λ h. absurd (omega (arith, d.0)))
  derives_split part before len (pair r a b) d = (omega (arith, d.0, width_some b), λ h. width_some a)

  -- the halves of a derivation by a pair rule
  pub derives_halves : (part before len r q left right : ℕ) (a b : Tree) → Makes rules r q (Pair left right) → DerivesOver rules shown part before len (pair r a b) → (q ≡ part) × DerivesOver rules shown left before (width a) a × DerivesOver rules shown right (before + width a) (width b) b
  derives_halves part before len r q left right a b makes d =
      let same = one_pair rules r q part left right d.1 d.2 makes d.3 in
      (same.0, rw same.1 d.4, rw same.2 d.5)

  pub derives_none : (part before : ℕ) (t : Tree) → DerivesOver rules shown part before 0 t → ⊥
  derives_none part before t d = omega (arith, width_some t, derives_size part before 0 t d)
