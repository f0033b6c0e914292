-- What the numbers and letters of a book may be. Assumes nothing.
use Rattle.std.specs.Prelude.{◌≡◌, ℕ, ◌<◌, ◌≤◌, max, Bool, true, ◌&&◌, List, length, All, nat_le}
use Rattle.book.specs.declared.rules.RightSide.{RightSide}
use Rattle.book.specs.declared.rules.RightSide.TheVariants.{Cut, Pair}
use Rattle.book.specs.declared.rules.Rule.{Rule}

-- the highest part that a rule of this part and right side names
abbrev pub highest : ℕ → RightSide → ℕ
highest part (Cut stroke) = part
highest part (Pair left right) = max part (max left right)

-- a rule's numbers are in the ranges of a book of k parts
abbrev pub InRange : ℕ → Rule → Type 0
InRange k u = (highest u.part u.side < k) × (u.time ≤ 100000) × (u.grade ≤ 254)

-- the stroke of a cut is a capital letter, A to Z
abbrev pub lettered : RightSide → Bool
lettered (Cut stroke) = nat_le 65 stroke && nat_le stroke 90
lettered (Pair left right) = true

-- k parts and these rules make a book
pub record Lawful (k : ℕ) (rules : List Rule) : Type 0 where
  pub some_parts : 1 ≤ k
  pub few_parts : k ≤ 32
  pub some_rules : 1 ≤ length rules
  pub few_rules : length rules ≤ 128
  pub ranged : All (InRange k) rules
  pub lettered_strokes : All (λ u. lettered u.side ≡ true) rules
