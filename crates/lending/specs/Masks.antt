-- Masks with all strokes of a place closed but one. Assumes nothing.
use Rattle.std.specs.Prelude.{ℕ, ◌-◌, ◌^◌, cond, ◌&&◌, List, slice_index, slice_set}
use Rattle.sheet.specs.Pairs.{is_place, is_stroke}
use Rattle.sheet.specs.Masks.{bit, mask_places, with_lower}

-- the number with no bit of the first 26 but that of the stroke c, if it was set; what stands above them stays
abbrev pub only_mask : ℕ → ℕ → ℕ
only_mask m c = with_lower m (cond (is_stroke c && bit m (c - 65)) (2 ^ (c - 65)) 0)

-- the numbers, where that of the place p has no stroke but c
abbrev pub only_masks : List ℕ → ℕ → ℕ → List ℕ
only_masks ms p c = cond (is_place (mask_places ms) p) (slice_set ms (p - 1) (only_mask (slice_index ms (p - 1)) c)) ms
