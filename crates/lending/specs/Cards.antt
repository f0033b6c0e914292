-- Cards with all strokes of a place closed but one, and with one exchanged for another. Assumes nothing.
use Rattle.std.specs.Prelude.{ℕ, cond, not, ◌&&◌, List, map, length, ◌==◌, slice_index}
use Rattle.std.specs.List.{range_with_len}
use Rattle.sheet.specs.Pairs.{is_stroke}
use Rattle.sheet.specs.Cards.{card_shown, row, letter, with_byte}

-- byte by byte, a full stop for each stroke of the place p other than c that was open
abbrev pub only_card : List ℕ → ℕ → ℕ → List ℕ
only_card bs p c = map (λ i. cond ((row i == p && not (letter i == c)) && card_shown bs (row i) (letter i)) 46 (slice_index bs i)) (range_with_len 0 (length bs))

-- if c is open at p, a full stop for c and then the letter d, if that is a stroke
abbrev pub exchanged_card : List ℕ → ℕ → ℕ → ℕ → List ℕ
exchanged_card bs p c d =
    cond (card_shown bs p c) (cond (is_stroke d) (with_byte (with_byte bs p c 46) p d d) (with_byte bs p c 46)) bs
