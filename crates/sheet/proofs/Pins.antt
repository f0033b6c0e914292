-- The memory of a sheet before and its open pairs after fix its memory after: for whoever lends masks or a card.
use Rattle.std.proofs.Common.{◌≡◌, ℕ, ◌+◌, ◌-◌, ◌<◌, ◌≤◌, Bool, true, cond, not, ◌&&◌, List, length, get_or, sym, ap, ◌∙◌, ⊎_elim, arith, ext_get_or}
use Rattle.std.proofs.lemmas.Bool.{cases_lt}
use Rattle.sheet.specs.Pairs.{in_range}
use Rattle.sheet.specs.Masks.{mask_places, mask_shown, Rest, bit}
use Rattle.sheet.specs.Cards.{card_shown, row, letter, redrawn, CardRest}
use Rattle.sheet.specs.CardLaws.{open_byte}
use Rattle.sheet.proofs.Sets.{range_from}
use Rattle.sheet.proofs.Bits.{bits_same}

and_given : (a b d : Bool) → a ≡ true → (a && b) ≡ (a && d) → b ≡ d
and_given a b d h e = grind arith

pub mask_pins : (ms ns os : List ℕ) → Rest ms ns → Rest ms os → mask_shown ns ≡ mask_shown os → ns ≡ os
mask_pins ms ns os r q e =
    let size : length os ≡ length ns = q.size ∙ sym r.size in
    ext_get_or 0 ns os (sym size) (λ i l.
    ⊎_elim
    (λ (few : i < 24). bits_same 26 (get_or ns i 0) (get_or os i 0) (r.high i ∙ sym (q.high i)) (λ j low.
    let ei : (i + 1) - 1 ≡ i = omega arith in
    let ej : (65 + j) - 65 ≡ j = omega arith in
    let ok = range_from (mask_places ns) (i + 1) (65 + j) (omega arith) (omega arith) (omega arith) (omega arith) in
    and_given (in_range (mask_places ns) (i + 1) (65 + j)) (bit (get_or ns i 0) j) (bit (get_or os i 0) j) ok (rw (size, ei, ej) at (ap (λ f. f (i + 1) (65 + j)) e))))
    (λ (past : 24 ≤ i). r.past i past ∙ sym (q.past i past))
    (cases_lt i 24))

pub card_pins : (bs cs ds : List ℕ) → CardRest bs cs → CardRest bs ds → card_shown cs ≡ card_shown ds → cs ≡ ds
card_pins bs cs ds r q e =
    ext_get_or 0 cs ds (r.size ∙ sym q.size) (λ i _.
    r.bytes i ∙ ap (λ f. redrawn (f (row i) (letter i)) (card_shown bs (row i) (letter i)) (letter i) (get_or bs i 0)) e ∙ sym (q.bytes i))

wiped : (is was : Bool) (c held : ℕ) → (is ≡ true → was ≡ true) → (was ≡ true → held ≡ c) → redrawn is was c held ≡ cond (was && not is) 46 held
wiped is was c held less h = grind arith

-- where pairs were only closed, a byte is a full stop if its pair was closed, and else what it was
pub closed_bytes : (bs cs : List ℕ) → CardRest bs cs → ((q d : ℕ) → card_shown cs q d ≡ true → card_shown bs q d ≡ true) → (i : ℕ) → get_or cs i 0 ≡ cond (card_shown bs (row i) (letter i) && not (card_shown cs (row i) (letter i))) 46 (get_or bs i 0)
closed_bytes bs cs rest less i =
    rest.bytes i ∙ wiped (card_shown cs (row i) (letter i)) (card_shown bs (row i) (letter i)) (letter i) (get_or bs i 0) (less (row i) (letter i)) (open_byte bs i)
