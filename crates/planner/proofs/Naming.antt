-- The parts that the rules of a book name are parts of it.
use Rattle.std.proofs.Common.{All, ◌≡◌, ℕ, ◌<◌, List, length, arith}
use Rattle.book.specs.Ranges.{InRange, highest}
use Rattle.book.specs.declared.rules.RightSide.{RightSide}
use Rattle.book.specs.declared.rules.RightSide.TheVariants.{Cut, Pair}
use Rattle.book.specs.declared.rules.Rule.{Rule}
use Rattle.derivations.specs.Trees.{blank, rule_at, Makes}

pub part_within : (k part : ℕ) (side : RightSide) → highest part side < k → part < k
part_within k part (Cut stroke) h = h
part_within k part (Pair left right) h = omega arith

pub halves_within : (k part left right : ℕ) (side : RightSide) → side ≡ Pair left right → highest part side < k → (left < k) × (right < k)
halves_within k part left right side is h = let m : highest part (Pair left right) < k = rw is at h in (omega arith, omega arith)

module _ (k : ℕ) (rules : List Rule) (r : ℕ) (ranged : All (InRange k) rules) where
  pub part_named : r < length rules → (rule_at rules r).part < k
  part_named listed = part_within k (rule_at rules r).part (rule_at rules r).side (ranged r blank listed).0

  pub pair_named : (part left right : ℕ) → Makes rules r part (Pair left right) → (part < k) × (left < k) × (right < k)
  pair_named part left right makes =
      let low : highest (rule_at rules r).part (rule_at rules r).side < k = (ranged r blank makes.listed).0 in
      let here : highest part (Pair left right) < k = rw (makes.for_part, makes.by_side) at low in
      (omega arith, omega arith, omega arith)
