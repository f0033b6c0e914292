-- The tree that a board of choices names, step by step, and the run that is written from it.
use Rattle.std.proofs.Common.{All, ◌≡◌, ℕ, suc, ◌+◌, ◌-◌, ◌/◌, ◌%◌, ◌<◌, ◌≤◌, List, [], ◌∷◌, ◌++◌, length, drop, slice_set, sym, refl, ap, ◌∙◌, arith}
use Rattle.std.proofs.lemmas.Nat.{div-mul-add, mod-mul-add}
use Rattle.std.proofs.lemmas.List.Edits.{sets, sets-eq}
use Rattle.book.specs.declared.rules.RightSide.TheVariants.{Cut, Pair}
use Rattle.book.specs.declared.rules.Rule.{Rule}
use Rattle.book.specs.Ranges.{InRange}
use Rattle.derivations.specs.Trees.{Tree, cut, pair, width, rule_at, blank, strokes, stroke_of}
use Rattle.derivations.specs.Ties.{first_rule, split}
use Rattle.derivations.proofs.Deriving.{width_some, length_strokes, left_of, right_of}
use Rattle.planner.specs.Boards.{entry_of}
use Rattle.planner.specs.Codes.{code_of, Follows}
use Rattle.planner.specs.Writing.{written_at}
use Rattle.planner.proofs.Naming.{halves_within}

pub code_parts : (m r : ℕ) → r < 128 → (code_of m r / 128 ≡ m) × (code_of m r % 128 ≡ r)
code_parts m r low = (div-mul-add m 128 r low, mod-mul-add m 128 r low)

-- the two halves of a tree that is split after m places
pub record Halves (rules : List Rule) (codes : List ℕ) (k left right before len m : ℕ) (t : Tree) : Type 0 where
  pub rule : ℕ
  pub a : Tree
  pub b : Tree
  pub is : t ≡ pair rule a b
  pub wide : width a ≡ m
  pub some : 1 ≤ m
  pub fewer : m < len
  pub part_left : left < k
  pub part_right : right < k
  pub follows_left : Follows rules codes k left before m a
  pub follows_right : Follows rules codes k right (before + m) (len - m) b

module _ (rules : List Rule) (codes : List ℕ) (k part before len code : ℕ) (at : code ≡ entry_of 0 k codes part before len) (few : length rules ≤ 128) where
  pub follows_code : (t : Tree) → Follows rules codes k part before len t → (code / 128 ≡ split t) × (code % 128 ≡ first_rule t) × (first_rule t < length rules)
  follows_code (cut r) f =
      let e : code ≡ code_of 0 r = omega (arith, at, f.1) in
      let c = code_parts 0 r (omega (arith, f.3.listed)) in
      (ap (λ x. x / 128) e ∙ c.0, ap (λ x. x % 128) e ∙ c.1, f.3.listed)
  follows_code (pair r a b) f =
      let e : code ≡ code_of (width a) r = at ∙ f.1 in
      let c = code_parts (width a) r (omega (arith, f.4.listed)) in
      (ap (λ x. x / 128) e ∙ c.0, ap (λ x. x % 128) e ∙ c.1, f.4.listed)

  pub follows_cut : (stroke : ℕ) (xs : List ℕ) → (rule_at rules (code % 128)).side ≡ Cut stroke → (t : Tree) → Follows rules codes k part before len t → slice_set xs before stroke ≡ written_at xs before (strokes rules t)
  follows_cut stroke xs is (cut r) f =
      let side : (rule_at rules r).side ≡ Cut stroke = rw (follows_code (cut r) f).1 at is in
      ap (slice_set xs before) (sym (ap stroke_of side))
  follows_cut stroke xs is (pair r a b) f =
      let side : (rule_at rules r).side ≡ Cut stroke = rw (follows_code (pair r a b) f).1 at is in
      let e : Cut stroke ≡ Pair f.2 f.3 = sym side ∙ f.4.by_side in
      cc

  pub follows_pair : (left right : ℕ) → All (InRange k) rules → (rule_at rules (code % 128)).side ≡ Pair left right → (t : Tree) → Follows rules codes k part before len t → Halves rules codes k left right before len (code / 128) t
  follows_pair left right ranged is (cut r) f =
      let side : (rule_at rules r).side ≡ Pair left right = rw (follows_code (cut r) f).1 at is in
      let e : Pair left right ≡ Cut f.2 = sym side ∙ f.3.by_side in
      cc
  follows_pair left right ranged is (pair r a b) f =
      let c = follows_code (pair r a b) f in
      let side : (rule_at rules r).side ≡ Pair left right = rw c.1 at is in
      let e : Pair f.2 f.3 ≡ Pair left right = sym f.4.by_side ∙ side in
      let wide : width a ≡ code / 128 = sym c.0 in
      let parts = halves_within k (rule_at rules r).part left right (rule_at rules r).side side (ranged r blank f.4.listed).0 in
      let rest : len - code / 128 ≡ width b = omega (arith, f.0, wide) in
      record {
        rule = r;
        a = a;
        b = b;
        is = refl;
        wide = wide;
        some = omega (arith, width_some a, wide);
        fewer = omega (arith, width_some b, wide, f.0);
        part_left = parts.0;
        part_right = parts.1;
        follows_left = rw (← ap left_of e, ← wide) f.5;
        follows_right = rw (← ap right_of e, rest, ← wide) f.6;
      }

written_as : (xs : List ℕ) (i : ℕ) (ys : List ℕ) → written_at xs i ys ≡ sets xs i ys
written_as xs i [] = refl
written_as xs i (y ∷ ys) = let e : i + 1 ≡ suc i = omega arith in rw e (written_as (slice_set xs i y) (suc i) ys)

written_append : (xs : List ℕ) (i : ℕ) (ys zs : List ℕ) → written_at xs i (ys ++ zs) ≡ written_at (written_at xs i ys) (i + length ys) zs
written_append xs i [] zs = let e : i + 0 ≡ i = omega arith in rw e refl
written_append xs i (y ∷ ys) zs = let e : i + suc (length ys) ≡ i + 1 + length ys = omega arith in rw e (written_append (slice_set xs i y) (i + 1) ys zs)

-- from the start on
pub written_first : (xs ys : List ℕ) → length ys ≤ length xs → written_at xs 0 ys ≡ ys ++ drop (length ys) xs
written_first xs ys h = let e : 0 + length ys ≡ length ys = omega arith in rw e at (written_as xs 0 ys ∙ sets-eq ys xs 0 (omega arith))

-- the left half and then the right half
pub halves_written : (rules : List Rule) (codes : List ℕ) (k left right before len m : ℕ) (t : Tree) (xs ys zs : List ℕ) (h : Halves rules codes k left right before len m t) → ys ≡ written_at xs before (strokes rules h.a) → zs ≡ written_at ys (before + m) (strokes rules h.b) → zs ≡ written_at xs before (strokes rules t)
halves_written rules codes k left right before len m t xs ys zs h e f =
    let long : length (strokes rules h.a) ≡ m = length_strokes rules h.a ∙ h.wide in
    let both = written_append xs before (strokes rules h.a) (strokes rules h.b) in
    rw (h.is, both, long, ← e) f
