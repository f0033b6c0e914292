-- The rows of a card that count, pruned, and the card that holds them. Assumes nothing.
use Rattle.std.proofs.Common.{◌≡◌, ℕ, ◌*◌, ◌/◌, min, List, ◌++◌, length, take, drop, inr, Ok, Err, Result, MatchResult, sym, ap, ◌∙◌, subst, arith}
use Rattle.std.proofs.lemmas.List.{length-take, take-append-drop}
use Rattle.refusal.specs.declared.Fault.{Fault}
use Rattle.text.specs.declared.pages.Page.{Page}
use Rattle.text.specs.Pages.{page_text}
use Rattle.book.specs.declared.books.Book.{Book}
use Rattle.sheet.specs.Cards.{card_places, card_shown, CardRest}
use Rattle.order.specs.declared.limits.Limit.{Limit}
use Rattle.report.specs.Prices.{bound_of}
use Rattle.report.specs.Told.{Tells}
use Rattle.printing.specs.Refusals.{SheetRefused}
use Rattle.printing.specs.Prunes.{PrunedBy, PruneEnds}
use Rattle.printing.specs.Cards.{counted, held, CardPrinted, CardTold, CardRefused}

module _ (card : List ℕ) (k : ℕ) (count : k ≡ min (length card / 27) 16) where
  abbrev rows : List ℕ
  rows = take (27 * k) card

  same_rows : rows ≡ counted card
  same_rows = ap (λ n. take (27 * n) card) count

  -- the pruned rows are as long as the rows were
  long : (after : List ℕ) → CardRest rows after → length after ≡ 27 * k
  long after rest = omega (arith, rest.size, length-take (27 * k) card, count)

  module _ (book order : List ℕ) (b : Book) (l : Limit) (places : List (List ℕ)) (told : Tells book order b l places) (after : List ℕ) (rest : CardRest rows after) where
    rows_printed : (bytes : List ℕ) → bytes ≡ after → PrunedBy (bound_of l).ops (bound_of l).limit b (card_places rows) (card_shown rows) (card_shown after) → CardPrinted (bound_of l).ops (bound_of l).limit b card bytes
    rows_printed bytes e x =
        let printed : CardPrinted (bound_of l).ops (bound_of l).limit b card after = record {
          pruned = subst (λ r. PrunedBy (bound_of l).ops (bound_of l).limit b (card_places r) (card_shown r) (card_shown after)) same_rows x;
          redrawn = subst (λ r. CardRest r after) same_rows rest;
        } in
        subst (CardPrinted (bound_of l).ops (bound_of l).limit b card) (sym e) printed

    -- what becomes of the rows becomes of the card
    pub rows_told : (ended : Result Page Fault) → PruneEnds l b (card_places rows) (card_shown rows) (card_shown after) ended → MatchResult ended (λ page. page_text page ≡ after) (λ _. after ≡ rows) → MatchResult ended (λ page. CardTold book card order (page_text page)) (CardRefused book card order)
    rows_told (Ok page) x e = (b, l, places, told, rows_printed (page_text page) e x)
    rows_told (Err f) x e = inr (inr (b, l, places, told, subst (λ r. SheetRefused (bound_of l).ops (bound_of l).limit b (card_places r) (card_shown r) f) same_rows x))

  -- and the card holds them
  pub rows_held : (after : List ℕ) → CardRest rows after → (ended : Result Page Fault) → MatchResult ended (λ page. page_text page ≡ after) (λ _. after ≡ rows) → MatchResult ended (λ page. after ++ drop (27 * k) card ≡ held (page_text page) card) (λ _. after ++ drop (27 * k) card ≡ card)
  rows_held after rest (Ok page) e = ap (λ n. after ++ drop n card) (sym (long after rest)) ∙ ap (λ bs. held bs card) (sym e)
  rows_held after rest (Err f) e = ap (λ bs. bs ++ drop (27 * k) card) e ∙ take-append-drop (27 * k) card
