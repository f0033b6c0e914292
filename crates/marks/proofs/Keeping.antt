-- One marked sheet through several calls. Where each only closes, the sheet is kept by all of them together.
use Rattle.std.proofs.Common.{◌≡◌, ℕ, true, sym, ap, ap₂, ◌∙◌, inl}
use Rattle.scale.specs.Ops.{Ops}
use Rattle.book.specs.declared.books.Book.{Book}
use Rattle.sheet.specs.Pairs.{Pairs}
use Rattle.sheet.specs.Laws.{Laws}
use Rattle.events.specs.Steps.{book_setting}
use Rattle.marks.specs.declared.marked.Marked.{Marked}
use Rattle.marks.specs.Marks.{SameSheet, setting, sheet_below}

-- the second set has no pair that the first has not
abbrev pub Fewer : Pairs → Pairs → Type 0
Fewer f g = (p c : ℕ) → g p c ≡ true → f p c ≡ true

pub fewer_same : {f g : Pairs} → g ≡ f → Fewer f g
fewer_same e p c h = ap (λ s. s p c) (sym e) ∙ h

module _ {H : Type 0} {places : H → ℕ} {shown : H → Pairs} {kept : H → H → Type 0} (laws : Laws places shown kept) (s t : Marked H) (same : SameSheet kept s t) where
  pub same_then : (u : Marked H) → Fewer (shown (sheet_below s)) (shown (sheet_below t)) → SameSheet kept t u → SameSheet kept s u
  same_then u fewer next = record {
    number = next.number ∙ same.number;
    lender = next.lender ∙ same.lender;
    memory = laws.joins (sheet_below s) (sheet_below t) (sheet_below u) same.memory next.memory (λ p c h. inl (fewer p c h));
  }

  pub same_places : places (sheet_below t) ≡ places (sheet_below s)
  same_places = laws.lasts (sheet_below s) (sheet_below t) same.memory

  pub same_setting : {S : Type 0} (o : Ops S) (book : Book) → setting o places book t ≡ setting o places book s
  same_setting o book = ap₂ (book_setting o book) same_places same.number
