-- What a text says of an order, how its reading ends and what it leaves in the sheet's memory. Assumes nothing.
use Rattle.std.specs.Prelude.{◌≡◌, ℕ, ◌-◌, ◌<◌, ◌≤◌, ◌&&◌, ◌⊎◌, List, [], ◌∷◌, map, length, take, Some, Ok, Err, Result, ◌==◌, slice_index_or}
use Rattle.std.specs.List.{list_any}
use Rattle.refusal.specs.declared.Refusal.{Refusal}
use Rattle.refusal.specs.declared.Refusal.TheVariants.{LentTooShort}
use Rattle.refusal.specs.declared.Source.TheVariants as source
use Rattle.refusal.specs.declared.Fault.{Fault}
use Rattle.refusal.specs.Faults.{on_sheet, in_text}
use Rattle.text.specs.Reading.{Listed, stated, Ends}
use Rattle.text.specs.Readings.{FaultOf}
use Rattle.sheet.specs.Pairs.{Pairs, in_range}
use Rattle.sheet.specs.Masks.{mask_shown, with_lower}
use Rattle.order.specs.declared.limits.Limit.{Limit}
use Rattle.order.specs.declared.Order.{Order}
use Rattle.order.specs.Letters.{mask_of}
use Rattle.order.specs.Statements.{limit, place, InRange, Stated, order_form}

-- The text is the line of the limit and then a line for each place with its open letters.
pub record Tells (text : List ℕ) (l : Limit) (places : List (List ℕ)) : Type 0 where
  pub short : length text ≤ 8192
  pub listed : Listed order_form (limit l ∷ map place places) text
  pub ranged : InRange l
  pub few : length places ≤ 16

-- the memory with the places' numbers in the lower bits of its first numbers
abbrev pub filled : List ℕ → List ℕ → List ℕ
filled [] ms = ms
filled (mask ∷ masks) [] = []
filled (mask ∷ masks) (m ∷ ms) = with_lower m mask ∷ filled masks ms

-- the pairs of a place and one of its letters
abbrev pub drawn_pairs : List (List ℕ) → Pairs
drawn_pairs places p c = in_range (length places) p c && list_any (λ l. l == c) (slice_index_or places (p - 1) [])

-- the refusal at a line of an order's text
abbrev pub in_order : Refusal → ℕ → Fault
in_order r number = in_text source.Order r number

-- the sheet's memory has fewer numbers than the order has places
abbrev pub too_short : Fault
too_short = on_sheet LentTooShort

-- what the lines of an order state together
abbrev pub stated_with : Limit → List ℕ → Stated
stated_with l masks = record { limit = Some l; places = masks }

-- r is the order that the text states, whose places fill the memory; or the first refusal with its line; or the memory is
-- too short for the places. A refusal leaves the memory as it was.
abbrev pub Outcome : List ℕ → List ℕ → Result Order Fault → List ℕ → Type 0
Outcome text before (Ok o) after =
    (masks : List ℕ) × Ends order_form text (stated (stated_with o.limit masks)) × (o.places ≡ length masks) × (length masks ≤ length before) × (after ≡ filled masks before)
Outcome text before (Err f) after =
    (FaultOf order_form source.Order text f
    ⊎ ((f ≡ too_short) × ((sum : Stated) × Ends order_form text (stated sum) × (length before < length sum.places))))
    × (after ≡ before)

-- The text tells the order o, whose places stand in the memory: the sheet of its first numbers has their letters open.
pub record Drawn (text before : List ℕ) (o : Order) (after : List ℕ) : Type 0 where
  pub places : List (List ℕ)
  pub tells : Tells text o.limit places
  pub count : o.places ≡ length places
  pub fits : length places ≤ length before
  pub memory : after ≡ filled (map mask_of places) before
  pub pairs : mask_shown (take o.places after) ≡ drawn_pairs places

-- an accepted text tells the order that was read; a refused one tells none, unless the memory is too short for its places
abbrev pub Told : List ℕ → List ℕ → Result Order Fault → List ℕ → Type 0
Told text before (Ok o) after = Drawn text before o after
Told text before (Err f) after = (l : Limit) (places : List (List ℕ)) → Tells text l places → (f ≡ too_short) × (length before < length places)
