-- Where a byte first stands in a text. Assumes nothing.
use Rattle.std.specs.Prelude.{◌≡◌, ℕ, ◌<◌, ◌≤◌, List, length, take, slice_index}
use Rattle.text.specs.Fields.{Lacks}

-- the first m of bs stands at i, or there is none and i is the length
pub record FirstAt (m : ℕ) (bs : List ℕ) (i : ℕ) : Type 0 where
  pub within : i ≤ length bs
  pub before : Lacks m (take i bs)
  pub here : i < length bs → slice_index bs i ≡ m
