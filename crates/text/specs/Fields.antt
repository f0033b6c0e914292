-- The fields of a line: each after one space, a number in one way only, a stroke as one letter. Assumes nothing.
use Rattle.std.specs.Prelude.{◌≡◌, ℕ, ◌<◌, ◌≤◌, List, [], ◌∷◌, ◌++◌, map, length, decimal, ◌≢◌}
use Rattle.std.specs.List.{flat_map, AllByRecursion}

-- a stroke is a capital letter, A to Z
abbrev pub Stroke : ℕ → Type 0
Stroke s = (65 ≤ s) × (s ≤ 90)

-- a number of a text has at most six digits
abbrev pub Short : ℕ → Type 0
Short n = n < 1000000

-- ds writes n: in base ten, with no leading zero and at most six digits
abbrev pub Writes : List ℕ → ℕ → Type 0
Writes ds n = (decimal n ≡ ds) × Short n

-- no byte of bs is m
abbrev pub Lacks : ℕ → List ℕ → Type 0
Lacks m bs = AllByRecursion (λ b. b ≢ m) bs

-- what may follow bytes that m ends: nothing, or what begins with m
abbrev pub Ended : ℕ → List ℕ → Type 0
Ended m [] = Unit {0}
Ended m (b ∷ bs) = b ≡ m

-- fields, each after a space
unfoldable pub fielded : List (List ℕ) → List ℕ
fielded fs = flat_map (λ f. 32 ∷ f) fs

-- numbers as fields
abbrev pub numbered : List ℕ → List ℕ
numbered ns = fielded (map decimal ns)

-- rest is a space, the field word, and more, which is nothing or goes on with a space
pub record Field (rest word more : List ℕ) : Type 0 where
  pub whole : 32 ∷ (word ++ more) ≡ rest
  pub apart : Lacks 32 word
  pub ended : Ended 32 more

-- the first field of rest writes n
pub record NumberField (rest : List ℕ) (n : ℕ) (more : List ℕ) : Type 0 where
  pub whole : 32 ∷ (decimal n ++ more) ≡ rest
  pub short : Short n
  pub ended : Ended 32 more

-- the first field of rest is the stroke s
pub record StrokeField (rest : List ℕ) (s : ℕ) (more : List ℕ) : Type 0 where
  pub whole : 32 ∷ s ∷ more ≡ rest
  pub stroke : Stroke s
  pub ended : Ended 32 more

-- rest is just this many numbers as fields
pub record Numbered (n : ℕ) (rest : List ℕ) (ns : List ℕ) : Type 0 where
  pub count : length ns ≡ n
  pub whole : numbered ns ≡ rest
  pub short : AllByRecursion Short ns
