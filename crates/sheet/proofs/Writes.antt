-- A card with one cell written: the pair is open if the byte is its letter, and nothing else changed.
use Rattle.std.proofs.Common.{◌≡◌, ℕ, ◌<◌, ◌≤◌, true, false, cond, eqb, List, length, get_or, sym, refl, ap, ◌∙◌, ⊎_elim, arith}
use mathlib.Core.Path.{fun_ext}
use Rattle.std.proofs.lemmas.List.{length-set, get_or-set_same, get_or-set_other}
use Rattle.std.proofs.lemmas.Bool.{cases_eq, cases_Bool, eq-eqb, ne_eqb, and_right}
use Rattle.sheet.specs.Pairs.{in_range, same_pair, closed_at, opened_at, turned_at}
use Rattle.sheet.specs.Cards.{card_places, card_shown, cell, row, letter, with_byte, redrawn, CardRest}
use Rattle.sheet.specs.CardLaws.{cell_index, byte_same, card_laws}
use Rattle.sheet.proofs.Sets.{range_parts, and_when, turned_closed, turned_opened}

module _ (bs : List ℕ) (p c v : ℕ) (ok : in_range (card_places bs) p c ≡ true) where
  at_pair : (1 ≤ p) × (p ≤ card_places bs) × (65 ≤ c) × (c ≤ 90)
  at_pair = range_parts (card_places bs) p c ok

  write_size : length (with_byte bs p c v) ≡ length bs
  write_size = length-set bs (cell p c) v

  write_here : get_or (with_byte bs p c v) (cell p c) 0 ≡ v
  write_here = let h : cell p c < length bs = omega (arith, at_pair) in get_or-set_same bs (cell p c) v 0 h

  write_there : (i : ℕ) → (i ≡ cell p c → ⊥) → get_or (with_byte bs p c v) i 0 ≡ get_or bs i 0
  write_there i h = get_or-set_other bs (cell p c) i v 0 h

  shown_here : card_shown (with_byte bs p c v) p c ≡ eqb v c
  shown_here = rw (write_size, write_here, ok)

  shown_there : (q d : ℕ) → (in_range (card_places bs) q d ≡ true → cell q d ≡ cell p c → ⊥) → card_shown (with_byte bs p c v) q d ≡ card_shown bs q d
  shown_there q d n =
      rw write_size (and_when (in_range (card_places bs) q d) _ _ (λ r. rw (write_there (cell q d) (n r))))

  write_rest : v ≡ redrawn (eqb v c) (card_shown bs p c) c (get_or bs (cell p c) 0) → CardRest bs (with_byte bs p c v)
  write_rest way = record {
    size = write_size;
    bytes = λ i. ⊎_elim
        (λ (e : i ≡ cell p c).
        let er : row i ≡ p = omega (arith, at_pair, e) in
        let el : letter i ≡ c = omega (arith, at_pair, e) in
        rw (er, el, shown_here, e, write_here) way)
        (λ n. rw (shown_there (row i) (letter i) (λ k e. n (sym (cell_index i) ∙ e)), write_there i n) (byte_same bs i))
        (cases_eq i (cell p c));
  }

  shown_at : (q d : ℕ) → card_shown (with_byte bs p c v) q d ≡ cond (same_pair p c q d) (eqb v c) (card_shown bs q d)
  shown_at q d =
      ⊎_elim
      (λ (e : q ≡ p). ⊎_elim
      (λ (f : d ≡ c). rw (e, f, eq-eqb p p refl, eq-eqb c c refl) shown_here)
      (λ n. rw (e, and_right _ _ (ne_eqb d c n)) (shown_there p d (λ r k. n (omega (arith, at_pair, range_parts (card_places bs) p d r)))))
      (cases_eq d c))
      (λ n. rw (ne_eqb q p n) (shown_there q d (λ r k. n (omega (arith, at_pair, range_parts (card_places bs) q d r)))))
      (cases_eq q p)

  write_shown : card_shown (with_byte bs p c v) ≡ (λ q d. cond (same_pair p c q d) (eqb v c) (card_shown bs q d))
  write_shown = fun_ext (λ q. fun_ext (λ d. shown_at q d))

pub stop_closes : (bs : List ℕ) (p c : ℕ) → card_shown bs p c ≡ true → CardRest bs (with_byte bs p c 46) × (card_shown (with_byte bs p c 46) ≡ closed_at (card_shown bs) p c)
stop_closes bs p c was =
    let ok = card_laws.within bs p c was in
    let h = range_parts (card_places bs) p c ok in
    let no_letter = ne_eqb 46 c (λ e. omega arith) in
    (write_rest bs p c 46 ok (rw (no_letter, was)), write_shown bs p c 46 ok ∙ ap (λ b q d. cond (same_pair p c q d) b (card_shown bs q d)) no_letter)

pub letter_opens : (bs : List ℕ) (p c : ℕ) → in_range (card_places bs) p c ≡ true → CardRest bs (with_byte bs p c c) × (card_shown (with_byte bs p c c) ≡ opened_at (card_places bs) (card_shown bs) p c)
letter_opens bs p c ok =
    let its_own = eq-eqb c c refl in
    (write_rest bs p c c ok (rw its_own), write_shown bs p c c ok ∙ ap (λ b q d. cond (same_pair p c q d) b (card_shown bs q d)) (its_own ∙ sym ok))

pub write_turns : (bs : List ℕ) (p c : ℕ) → in_range (card_places bs) p c ≡ true → CardRest bs (with_byte bs p c (cond (card_shown bs p c) 46 c)) × (card_shown (with_byte bs p c (cond (card_shown bs p c) 46 c)) ≡ turned_at (card_places bs) (card_shown bs) p c)
write_turns bs p c ok =
    ⊎_elim
    (λ (was : card_shown bs p c ≡ true). let done = stop_closes bs p c was in rw was (done.0, done.1 ∙ sym (turned_closed (card_places bs) (card_shown bs) p c was)))
    (λ (was : card_shown bs p c ≡ false). let done = letter_opens bs p c ok in rw was (done.0, done.1 ∙ sym (turned_opened (card_places bs) (card_shown bs) p c was)))
    (cases_Bool (card_shown bs p c))
