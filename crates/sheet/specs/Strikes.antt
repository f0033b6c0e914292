-- What a strike answers. Assumes nothing.
use Rattle.std.specs.Prelude.{ℕ, cond, Ok, Err, Result}
use Rattle.refusal.specs.declared.Refusal.{Refusal}
use Rattle.refusal.specs.declared.Refusal.TheVariants.{NoSuchPlace, NotAStroke, NotOpen}
use Rattle.sheet.specs.Pairs.{Pairs, is_place, is_stroke}

-- a sheet of n places with the open pairs f is struck at the place p with the stroke c
abbrev pub struck : ℕ → Pairs → ℕ → ℕ → Result (Unit {0}) Refusal
struck n f p c =
    cond (is_place n p) (cond (is_stroke c) (cond (f p c) (Ok tt) (Err NotOpen)) (Err NotAStroke)) (Err NoSuchPlace)
