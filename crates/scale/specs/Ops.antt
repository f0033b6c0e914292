-- What a scale of prices is: what its calls answer, and the laws that hold of the answers. Assumes nothing.
use Rattle.std.specs.Prelude.{◌≡◌, ℕ, Bool, true, if◌then◌else◌, ◌≢◌, ◌⊎◌}

-- what the calls of a scale answer, over its values S
pub record Ops (S : Type 0) : Type 0 where
  -- true exactly when the first value is not above the second
  pub le : S → S → Bool
  -- the value of both together
  pub join : S → S → S
  -- the value that adds nothing
  pub free : S
  -- the value of what may not be done
  pub barred : S
  -- the value of a time and a grade
  pub price : ℕ → ℕ → S

-- the laws of a scale: these and no others
pub record Laws {S : Type 0} (o : Ops S) : Type 0 where
  -- the order: no value is above itself, and of two values one is not above the other
  pub reflexive : (a : S) → o.le a a ≡ true
  pub transitive : (a b c : S) → o.le a b ≡ true → o.le b c ≡ true → o.le a c ≡ true
  pub total : (a b : S) → (o.le a b ≡ true) ⊎ (o.le b a ≡ true)
  -- two values, each not above the other, are the same
  pub antisymmetric : (a b : S) → o.le a b ≡ true → o.le b a ≡ true → a ≡ b
  -- the join: neither the sequence nor the grouping of what is joined matters, and free adds nothing
  pub commutative : (a b : S) → o.join a b ≡ o.join b a
  pub associative : (a b c : S) → o.join (o.join a b) c ≡ o.join a (o.join b c)
  pub neutral : (a : S) → o.join o.free a ≡ a
  -- to join one value to two others keeps their order
  pub monotone : (a b c : S) → o.le a b ≡ true → o.le (o.join a c) (o.join b c) ≡ true
  -- no value is above barred, and barred joined with any value is barred
  pub top : (a : S) → o.le a o.barred ≡ true
  pub absorbing : (a : S) → o.join o.barred a ≡ o.barred
  -- free is not barred
  pub free_open : o.free ≢ o.barred
  -- the price of time 0 and grade 0 is free
  pub free_price : o.price 0 0 ≡ o.free

-- of two values the one that is not above the other
abbrev pub lesser_of : {S : Type 0} → Ops S → S → S → S
lesser_of o a b = if o.le a b then a else b
