-- The least of the values that some things are given. Assumes nothing.
use Rattle.std.specs.Prelude.{◌≡◌, true, ◌⊎◌}
use Rattle.scale.specs.Ops.{Ops}

-- c is the least of the values that w gives to what passes P, and barred where nothing passes
pub record LeastOf {S X : Type 0} (o : Ops S) (P : X → Type 0) (w : X → S) (c : S) : Type 0 where
  pub below : (x : X) → P x → o.le c (w x) ≡ true
  pub met : (c ≡ o.barred) ⊎ ((x : X) × P x × (w x ≡ c))
