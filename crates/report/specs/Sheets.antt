-- A sheet as it is printed: a line for each place with its open strokes. Assumes nothing.
use Rattle.std.specs.Prelude.{ℕ, zero, suc, ◌+◌, cond, List, [], ◌∷◌, ◌++◌, decimal}
use Rattle.sheet.specs.Pairs.{Pairs}

-- the stroke, if it is open at the place
abbrev pub if_open : Pairs → ℕ → ℕ → List ℕ
if_open f p c = cond (f p c) (c ∷ []) []

-- the open ones of the first k letters of the alphabet
abbrev pub open_letters : Pairs → ℕ → ℕ → List ℕ
open_letters f p zero = []
open_letters f p (suc k) = open_letters f p k ++ if_open f p (65 + k)

-- the place's number, a space, and its open strokes
abbrev pub place_line : Pairs → ℕ → List ℕ
place_line f p = decimal p ++ (32 ∷ (open_letters f p 26 ++ 10 ∷ []))

-- the lines of the first n places
abbrev pub sheet_text : Pairs → ℕ → List ℕ
sheet_text f zero = []
sheet_text f (suc n) = sheet_text f n ++ place_line f (suc n)
