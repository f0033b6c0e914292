-- A card that is pruned, and its rows as they are printed. Assumes nothing.
use Rattle.std.specs.Prelude.{◌≡◌, ℕ, ◌*◌, ◌/◌, min, List, ◌++◌, length, take, drop, Option, Some, None}
use Rattle.scale.specs.Ops.{Ops}
use Rattle.refusal.specs.declared.Fault.{Fault}
use Rattle.refusal.specs.declared.Source.{Source}
use Rattle.book.specs.declared.books.Book.{Book}
use Rattle.sheet.specs.Cards.{card_places, card_shown, CardRest}
use Rattle.report.specs.ReportSaid.{ReportSaid}
use Rattle.report.specs.Prices.{bound_of}
use Rattle.report.specs.Told.{Told, FirstRefused}
use Rattle.report.specs.Reports.{Reports}
use Rattle.printing.specs.Refusals.{SheetRefused}
use Rattle.printing.specs.Prunes.{PrunedBy}

-- the rows of a card that count: the first 16 whole ones, 27 bytes each
abbrev pub counted : List ℕ → List ℕ
counted card = take (27 * min (length card / 27) 16) card

-- the card with these bytes in place of its first ones
abbrev pub held : List ℕ → List ℕ → List ℕ
held bytes card = bytes ++ drop (length bytes) card

-- the bytes are the card's rows, pruned within the limit
pub record CardPrinted {S : Type 0} (o : Ops S) (limit : S) (b : Book) (card bytes : List ℕ) : Type 0 where
  pub pruned : PrunedBy o limit b (card_places (counted card)) (card_shown (counted card)) (card_shown bytes)
  -- byte for byte as they were, but for the columns whose strokes are closed
  pub redrawn : CardRest (counted card) bytes

module _ (book card order : List ℕ) where
  -- both texts are told, and the card is pruned within the order's limit
  abbrev pub CardTold : List ℕ → Type 0
  CardTold bytes = Told book order (λ b l places. CardPrinted (bound_of l).ops (bound_of l).limit b card bytes)

  -- a fault of the book, of the order, or of the sheet of the card's rows
  abbrev pub CardRefused : Fault → Type 0
  CardRefused f = FirstRefused book order (λ b l places f. SheetRefused (bound_of l).ops (bound_of l).limit b (card_places (counted card)) (card_shown (counted card)) f) f

  -- what the card holds then: the rows that are printed, and what does not count; where something is refused, what it held
  abbrev pub card_after : List ℕ → Option Source → List ℕ
  card_after bytes None = held bytes card
  card_after bytes (Some s) = card

  -- what is said of a card, and what it holds then
  pub record CardReport (r : ReportSaid) (after : List ℕ) : Type 0 where
    pub says : Reports book order CardTold CardRefused r
    pub holds : after ≡ card_after r.text r.refused
