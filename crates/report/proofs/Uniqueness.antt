-- What is read of a text, and what a report says of it, is one thing. Assumes nothing.
use Rattle.std.proofs.Common.{◌≡◌, ℕ, ◌⊎◌, List, [], ◌∷◌, ◌++◌, length, Option, Some, None, Err, Result, sym, refl, ap, ◌∙◌, subst, ⊎_elim}
use Rattle.refusal.specs.declared.Source.{Source}
use Rattle.refusal.specs.declared.Source.TheVariants as source
use Rattle.refusal.specs.declared.Fault.{Fault}
use Rattle.refusal.specs.Faults.{fault_line}
use Rattle.text.specs.Lines.{FaultyLine}
use Rattle.text.proofs.Numbering.{line_unique}
use Rattle.book.specs.declared.books.Book.{Book}
use Rattle.book.specs.Texts as books
use Rattle.book.proofs.Telling as book
use Rattle.order.specs.declared.limits.Limit.{Limit}
use Rattle.order.specs.Texts.{drawn_pairs}
use Rattle.order.proofs.Telling as order
use Rattle.report.specs.ReportSaid.{ReportSaid}
use Rattle.report.specs.Reports.{FaultShown, ReportsSo, Reports, book_summary, BookPrinted, BookReport, order_summary, OrderPrinted, OrderReport}
use Rattle.report.specs.Told.{BookRefused, OrderRefused, Tells, Told, FirstRefused}

-- a fault shows one line, and so one text
one_line : (s : Source) (book order : List ℕ) (n : ℕ) (line other : List ℕ) → FaultyLine s book order n line → FaultyLine s book order n other → line ≡ other
one_line source.Sheet book order n line other h k = absurd h
one_line source.Book book order n line other h k = line_unique n book line other h k
one_line source.Order book order n line other h k = line_unique n order line other h k

one_shown : (book order : List ℕ) (f : Fault) (bs cs : List ℕ) → FaultShown book order f bs → FaultShown book order f cs → bs ≡ cs
one_shown book order f bs cs h k =
    ⊎_elim
    (λ (x : (line : List ℕ) × FaultyLine f.source book order f.line line × (bs ≡ (fault_line f ++ 10 ∷ []) ++ (line ++ 10 ∷ []))).
    ⊎_elim
    (λ (y : (line : List ℕ) × FaultyLine f.source book order f.line line × (cs ≡ (fault_line f ++ 10 ∷ []) ++ (line ++ 10 ∷ []))).
    x.2 ∙ ap (λ line. (fault_line f ++ 10 ∷ []) ++ (line ++ 10 ∷ [])) (one_line f.source book order f.line x.0 y.0 x.1 y.1) ∙ sym y.2)
    (λ (y : ((line : List ℕ) → FaultyLine f.source book order f.line line → ⊥) × (cs ≡ fault_line f ++ 10 ∷ [])). absurd (y.0 x.0 x.1))
    k)
    (λ (x : ((line : List ℕ) → FaultyLine f.source book order f.line line → ⊥) × (bs ≡ fault_line f ++ 10 ∷ [])).
    ⊎_elim
    (λ (y : (line : List ℕ) × FaultyLine f.source book order f.line line × (cs ≡ (fault_line f ++ 10 ∷ []) ++ (line ++ 10 ∷ []))). absurd (x.0 y.0 y.1))
    (λ (y : ((line : List ℕ) → FaultyLine f.source book order f.line line → ⊥) × (cs ≡ fault_line f ++ 10 ∷ [])). x.1 ∙ sym y.1)
    k)
    h

-- so a report says one thing, where what is printed is one text, a fault is one, and there are not both
module _ (book order : List ℕ) (Prints : List ℕ → Type 0) (Faulty : Fault → Type 0) (one_text : (bs cs : List ℕ) → Prints bs → Prints cs → bs ≡ cs) (one_fault : (f g : Fault) → Faulty f → Faulty g → f ≡ g) (apart : (bs : List ℕ) (f : Fault) → Prints bs → Faulty f → ⊥) where
  one_so : (t u : List ℕ) (x y : Option Source) → ReportsSo book order Prints Faulty t x → ReportsSo book order Prints Faulty u y → (t ≡ u) × (x ≡ y)
  one_so t u None None h k = (one_text t u h k, refl)
  one_so t u None (Some s) h k = absurd (apart t k.0 h k.1)
  one_so t u (Some s) None h k = absurd (apart u h.0 k h.1)
  one_so t u (Some s) (Some z) h k =
      let e = one_fault h.0 k.0 h.1 k.1 in
      (one_shown book order k.0 t u (subst (λ f. FaultShown book order f t) e h.3) k.3, ap Some (h.2 ∙ ap (λ (f : Fault). f.source) e ∙ sym k.2))

  pub one_report : (r q : ReportSaid) → Reports book order Prints Faulty r → Reports book order Prints Faulty q → r ≡ q
  one_report r q h k = let e = one_so r.text q.text r.refused q.refused h k in (λ i. record { text = e.0 i; refused = e.1 i })

-- a book's text is refused in one way, and not where it tells a book
one_book_refused : (text : List ℕ) (f g : Fault) → BookRefused text f → BookRefused text g → f ≡ g
one_book_refused text f g x y = let e : ◌≡◌ {A = Result Book Fault} (Err f) (Err g) = book.one_outcome text (Err f) (Err g) x y in cc

book_told_refused : (text : List ℕ) (b : Book) (f : Fault) → books.Tells text b → BookRefused text f → ⊥
book_told_refused text b f t x = book.told_by text (Err f) x b t

pub one_book_report : (text : List ℕ) (r q : ReportSaid) → BookReport text r → BookReport text q → r ≡ q
one_book_report text r q h k =
    one_report text [] (BookPrinted text) (BookRefused text)
    (λ bs cs x y. x.2 ∙ ap book_summary (book.one_told text x.0 y.0 x.1 y.1) ∙ sym y.2)
    (one_book_refused text)
    (λ bs f x y. book_told_refused text x.0 f x.1 y)
    r
    q
    h
    k

pub one_order_report : (text : List ℕ) (r q : ReportSaid) → OrderReport text r → OrderReport text q → r ≡ q
one_order_report text r q h k =
    one_report [] text (OrderPrinted text) (OrderRefused text)
    (λ bs cs x y.
    let e = order.one_told text x.0 y.0 x.1 y.1 x.2 y.2 in
    x.3 ∙ (λ i. order_summary (e.0 i) (drawn_pairs (e.1 i)) (length (e.1 i))) ∙ sym y.3)
    (order.one_refused text)
    (λ bs f x y. order.told_refused text x.0 x.1 f x.2 y)
    r
    q
    h
    k

-- both texts tell one book and one order, or are refused in one way
module _ (book_text order_text : List ℕ) where
  pub one_told : (b c : Book) (l m : Limit) (places others : List (List ℕ)) → Tells book_text order_text b l places → Tells book_text order_text c m others → (b ≡ c) × (l ≡ m) × (places ≡ others)
  one_told b c l m places others t u =
      let e = order.one_told order_text l m places others t.of_order u.of_order in
      (book.one_told book_text b c t.of_book u.of_book, e.0, e.1)

  module _ (OfSheet : Book → Limit → List (List ℕ) → Fault → Type 0) where
    abbrev AfterBook : Fault → Type 0
    AfterBook f = (((b : Book) × books.Tells book_text b) × OrderRefused order_text f) ⊎ Told book_text order_text (λ b l places. OfSheet b l places f)

    -- where a book is told, the refusal is not of the book; where an order is told too, it is of the sheet
    past_book : (f : Fault) (b : Book) → books.Tells book_text b → FirstRefused book_text order_text OfSheet f → AfterBook f
    past_book f b t x = ⊎_elim (λ (y : BookRefused book_text f). absurd (book_told_refused book_text b f t y)) (λ (y : AfterBook f). y) x

    pub past_order : (f : Fault) (b : Book) (l : Limit) (places : List (List ℕ)) → Tells book_text order_text b l places → FirstRefused book_text order_text OfSheet f → OfSheet b l places f
    past_order f b l places t x =
        ⊎_elim
        (λ (y : ((c : Book) × books.Tells book_text c) × OrderRefused order_text f). absurd (order.told_refused order_text l places f t.of_order y.1))
        (λ (y : Told book_text order_text (λ b l places. OfSheet b l places f)).
        let e = one_told y.0 b y.1 l y.2 places y.3 t in
        subst (λ c. OfSheet c l places f) e.0 (subst (λ m. OfSheet y.0 m places f) e.1 (subst (λ ps. OfSheet y.0 y.1 ps f) e.2 y.4)))
        (past_book f b t.of_book x)

    pub one_first_refused : ((b : Book) (l : Limit) (places : List (List ℕ)) (f g : Fault) → OfSheet b l places f → OfSheet b l places g → f ≡ g) → (f g : Fault) → FirstRefused book_text order_text OfSheet f → FirstRefused book_text order_text OfSheet g → f ≡ g
    one_first_refused one_of_sheet f g x y =
        ⊎_elim
        (λ (h : BookRefused book_text f).
        ⊎_elim
        (λ (k : BookRefused book_text g). one_book_refused book_text f g h k)
        (⊎_elim
        (λ (k : ((c : Book) × books.Tells book_text c) × OrderRefused order_text g). absurd (book_told_refused book_text k.0.0 f k.0.1 h))
        (λ (k : Told book_text order_text (λ b l places. OfSheet b l places g)). absurd (book_told_refused book_text k.0 f k.3.of_book h)))
        y)
        (⊎_elim
        (λ (h : ((c : Book) × books.Tells book_text c) × OrderRefused order_text f).
        ⊎_elim
        (λ (k : ((c : Book) × books.Tells book_text c) × OrderRefused order_text g). order.one_refused order_text f g h.1 k.1)
        (λ (k : Told book_text order_text (λ b l places. OfSheet b l places g)). absurd (order.told_refused order_text k.1 k.2 f k.3.of_order h.1))
        (past_book g h.0.0 h.0.1 y))
        (λ (h : Told book_text order_text (λ b l places. OfSheet b l places f)). one_of_sheet h.0 h.1 h.2 f g h.4 (past_order g h.0 h.1 h.2 h.3 y)))
        x

    -- a report of what both texts tell says one thing, also where what is printed and refused are apart by what the texts tell
    pub one_report_of_told : (Prints : List ℕ → Book → Limit → List (List ℕ) → Type 0)
        → ((b : Book) (l : Limit) (places : List (List ℕ)) (bs cs : List ℕ) → Prints bs b l places → Prints cs b l places → bs ≡ cs)
        → ((b : Book) (l : Limit) (places : List (List ℕ)) (f g : Fault) → OfSheet b l places f → OfSheet b l places g → f ≡ g)
        → ((b : Book) (l : Limit) (places : List (List ℕ)) → Tells book_text order_text b l places → (bs : List ℕ) (f : Fault) → Prints bs b l places → OfSheet b l places f → ⊥)
        → (r q : ReportSaid)
        → Reports book_text order_text (λ bytes. Told book_text order_text (Prints bytes)) (FirstRefused book_text order_text OfSheet) r
        → Reports book_text order_text (λ bytes. Told book_text order_text (Prints bytes)) (FirstRefused book_text order_text OfSheet) q
        → r ≡ q
    one_report_of_told Prints one_text one_of_sheet apart r q h k =
        one_report book_text order_text (λ bytes. Told book_text order_text (Prints bytes)) (FirstRefused book_text order_text OfSheet)
        (λ bs cs x y.
        let e = one_told x.0 y.0 x.1 y.1 x.2 y.2 x.3 y.3 in
        one_text y.0 y.1 y.2 bs cs (subst (λ b. Prints bs b y.1 y.2) e.0 (subst (λ l. Prints bs x.0 l y.2) e.1 (subst (λ ps. Prints bs x.0 x.1 ps) e.2 x.4))) y.4)
        (one_first_refused one_of_sheet)
        (λ bs f x y. apart x.0 x.1 x.2 x.3 bs f x.4 (past_order f x.0 x.1 x.2 x.3 y))
        r
        q
        h
        k

    pub one_told_report : (Prints : List ℕ → Book → Limit → List (List ℕ) → Type 0)
        → ((b : Book) (l : Limit) (places : List (List ℕ)) (bs cs : List ℕ) → Prints bs b l places → Prints cs b l places → bs ≡ cs)
        → ((b : Book) (l : Limit) (places : List (List ℕ)) (f g : Fault) → OfSheet b l places f → OfSheet b l places g → f ≡ g)
        → ((b : Book) (l : Limit) (places : List (List ℕ)) (bs : List ℕ) (f : Fault) → Prints bs b l places → OfSheet b l places f → ⊥)
        → (r q : ReportSaid)
        → Reports book_text order_text (λ bytes. Told book_text order_text (Prints bytes)) (FirstRefused book_text order_text OfSheet) r
        → Reports book_text order_text (λ bytes. Told book_text order_text (Prints bytes)) (FirstRefused book_text order_text OfSheet) q
        → r ≡ q
    one_told_report Prints one_text one_of_sheet apart r q h k = one_report_of_told Prints one_text one_of_sheet (λ b l places t. apart b l places) r q h k
