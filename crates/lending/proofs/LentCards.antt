-- What a card holds after code over any sheet: each byte is redrawn as its pair is open and was.
use Rattle.std.proofs.Common.{◌≡◌, ℕ, Bool, true, false, cond, not, ◌&&◌, eqb, List, length, get_or, sym, ap, ◌∙◌, ap₂, ⊎_elim, arith}
use Rattle.std.proofs.lemmas.List.FromFn.{fill_by_all}
use Rattle.std.proofs.lemmas.Bool.Decides.{nat_tests}
use Rattle.std.proofs.lemmas.Bool.{and_parts, and_from, and_left, and_right, cases_Bool, cond-true, cond-false}
use Rattle.sheet.specs.Pairs.{Pairs, in_range, is_place, is_stroke, closed_at, opened_at}
use Rattle.sheet.specs.Cards.{card_places, card_shown, row, letter, with_byte, CardRest}
use Rattle.sheet.specs.CardLaws.{card_laws}
use Rattle.sheet.proofs.Pins.{card_pins, closed_bytes}
use Rattle.sheet.proofs.Sets.{between_less, closed_less, opened_none}
use Rattle.sheet.proofs.Writes.{stop_closes, letter_opens}
use Rattle.lending.specs.Closings.{only_at}
use Rattle.lending.specs.Exchanges.{exchanged}
use Rattle.lending.specs.Cards.{only_card, exchanged_card}
use Rattle.lending.proofs.Closing.{only_less}

newly_shut : (b was : Bool) → (was && not (cond b false was)) ≡ (b && was)
newly_shut b was = grind (arith, nat_tests)

pub card_only : (bs cs : List ℕ) (p c : ℕ) → CardRest bs cs → card_shown cs ≡ only_at (card_shown bs) p c → cs ≡ only_card bs p c
card_only bs cs p c rest e =
    fill_by_all _ cs (length bs) 0 rest.size (λ i _.
    closed_bytes bs cs rest (λ q d h. only_less (card_shown bs) p c q d (ap (λ f. f q d) (sym e) ∙ h)) i
    ∙ ap (λ b. cond b 46 (get_or bs i 0)) (
    ap (λ f. card_shown bs (row i) (letter i) && not (f (row i) (letter i))) e
    ∙ newly_shut (eqb (row i) p && not (eqb (letter i) c)) (card_shown bs (row i) (letter i))))

-- the stroke c of the place p is open, and is written over
module _ (bs : List ℕ) (p c : ℕ) (was : card_shown bs p c ≡ true) where
  abbrev stopped : List ℕ
  stopped = with_byte bs p c 46

  abbrev shut : Pairs
  shut = closed_at (card_shown bs) p c

  stop : CardRest bs stopped × (card_shown stopped ≡ shut)
  stop = stop_closes bs p c was

  same_places : card_places stopped ≡ card_places bs
  same_places = card_laws.lasts bs stopped stop.0

  -- d is a stroke: its letter is written
  exchange_done : (d : ℕ) → is_stroke d ≡ true → CardRest bs (with_byte stopped p d d) × (card_shown (with_byte stopped p d d) ≡ opened_at (card_places bs) shut p d)
  exchange_done d stroke =
      let place = (and_parts (is_place (card_places bs) p) _ (card_laws.within bs p c was)).0 in
      let ok : in_range (card_places stopped) p d ≡ true = rw same_places (and_from (is_place (card_places bs) p) (is_stroke d) place stroke) in
      let opens = letter_opens stopped p d ok in (
        card_laws.joins bs stopped (with_byte stopped p d d) stop.0 opens.0 (between_less _ _ _ _ stop.1 (closed_less (card_shown bs) p c)),
        opens.1 ∙ ap₂ (λ n f. opened_at n f p d) same_places stop.1,
      )

  -- d is no stroke: nothing is opened
  exchange_none : (d : ℕ) → is_stroke d ≡ false → shut ≡ opened_at (card_places bs) shut p d
  exchange_none d out =
      opened_none (card_places bs) shut p d
      (λ h. card_laws.within bs p d (closed_less (card_shown bs) p c p d h))
      (and_left (in_range (card_places bs) p d) _ (and_right (is_place (card_places bs) p) _ out))

pub card_exchanged : (bs cs : List ℕ) (p c d : ℕ) → CardRest bs cs → card_shown cs ≡ exchanged (card_places bs) (card_shown bs) p c d → cs ≡ exchanged_card bs p c d
card_exchanged bs cs p c d rest e =
    ⊎_elim
    (λ (was : card_shown bs p c ≡ true).
    let now = e ∙ cond-true (card_shown bs p c) _ _ was in
    ⊎_elim
    (λ (stroke : is_stroke d ≡ true). let done = exchange_done bs p c was d stroke in card_pins bs cs _ rest done.0 (now ∙ sym done.1) ∙ sym (cond-true (is_stroke d) _ _ stroke))
    (λ (out : is_stroke d ≡ false). let done = stop_closes bs p c was in card_pins bs cs _ rest done.0 (now ∙ sym (exchange_none bs p c was d out) ∙ sym done.1) ∙ sym (cond-false (is_stroke d) _ _ out))
    (cases_Bool (is_stroke d))
    ∙ sym (cond-true (card_shown bs p c) _ _ was))
    (λ (not_open : card_shown bs p c ≡ false). card_pins bs cs bs rest (card_laws.keeps bs) (e ∙ cond-false (card_shown bs p c) _ _ not_open) ∙ sym (cond-false (card_shown bs p c) _ _ not_open))
    (cases_Bool (card_shown bs p c))
