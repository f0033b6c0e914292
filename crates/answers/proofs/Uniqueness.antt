-- Events are printed in one way: their text has one list of lines, and these events have one life. So each input has one answer.
-- Assumes nothing.
use Rattle.std.proofs.Common.{◌≡◌, ℕ, ◌++◌, List, length, map, drop, Option, Some, None, Result, Ok, Err, ap, sym, ◌∙◌, subst, arith}
use Rattle.scale.specs.Ops.{Ops, Laws}
use Rattle.scale.specs.TimesLemmas.{time_laws}
use Rattle.scale.specs.GradesLemmas.{grade_laws}
use Rattle.scale.specs.TimeGradesLemmas.{time_grade_laws}
use Rattle.refusal.specs.declared.Source.{Source}
use Rattle.refusal.specs.declared.Fault.{Fault}
use Rattle.book.specs.declared.books.Book.{Book}
use Rattle.sheet.specs.Pairs.{Pairs}
use Rattle.order.specs.declared.limits.Limit.{Limit}
use Rattle.order.specs.declared.limits.Limit.TheVariants as limits
use Rattle.order.specs.Texts.{drawn_pairs}
use Rattle.events.specs.Steps.{book_setting}
use Rattle.events.proofs.Uniqueness.{one_life}
use Rattle.marks.specs.Replays.{Replayed}
use Rattle.report.specs.ReportSaid.{ReportSaid}
use Rattle.report.specs.Prices.{bound_of}
use Rattle.report.specs.Reports.{Reports, ReportsSo}
use Rattle.report.proofs.Uniqueness.{one_report, one_told, past_order, one_first_refused}
use Rattle.answers.specs.Notations.{Notation}
use Rattle.answers.specs.Texts.{EventTextLine, reading_of}
use Rattle.answers.specs.Slips.{office_sheet_number, events_of}
use Rattle.answers.specs.Reports.{paragraphs, printed_lines}
use Rattle.answers.specs.Offices.{notation_of, played_of, EventsPrinted, Heads, EventsTold, ListTooShort, OfficeRefused, OfficeReport}
use Rattle.answers.proofs.Lining.{lines_once, one_lining}

one_print : {S : Type 0} (o : Ops S) → Laws o → (notation : Notation S) (price_text : S → List ℕ) (b : Book) (n : ℕ) (birth : Pairs) (text : List ℕ) (one two : List (List ℕ)) → EventsPrinted o notation price_text b n birth text one → EventsPrinted o notation price_text b n birth text two → one ≡ two
one_print {S} o laws notation price_text b n birth text one two p q =
    let w = book_setting o b n office_sheet_number in
    let lines = one_lining notation text p.lines q.lines p.lined q.lined in
    let lived : Replayed o w birth (played_of q.lines) p.answers p.after = subst (λ (ls : List (EventTextLine S)). Replayed o w birth (played_of ls) p.answers p.after) lines p.replayed in
    let answers = (one_life laws w birth (played_of q.lines) p.answers q.answers lived.state q.replayed.state lived.ledger q.replayed.ledger lived.lived q.replayed.lived).0 in
    p.printed ∙ (λ i. printed_lines 1 (lines i) (paragraphs price_text n (events_of 0 (map reading_of (lines i))) (answers i))) ∙ sym q.printed

-- the head of a list is one, where what is wanted is
one_head : (Wanted : List (List ℕ) → Type 0) → ((one two : List (List ℕ)) → Wanted one → Wanted two → one ≡ two) → (n : ℕ) (old new other : List (List ℕ)) → Heads Wanted n old new → Heads Wanted n old other → new ≡ other
one_head Wanted once n old new other h k =
    h.written ∙ ap (λ ts. ts ++ drop n old) (once h.texts k.texts h.wanted k.wanted) ∙ sym k.written

-- the scale of each limit keeps its laws
laws_of : (l : Limit) → Laws (bound_of l).ops
laws_of (limits.Time t) = time_laws
laws_of (limits.Grade g) = grade_laws
laws_of (limits.Both t g) = time_grade_laws

module _ (book order events : List ℕ) (old : List (List ℕ)) where
  one_events : (b : Book) (l : Limit) (places : List (List ℕ)) (one two : List (List ℕ)) → EventsTold book order events b l places one → EventsTold book order events b l places two → one ≡ two
  one_events b l places one two p q = one_print (bound_of l).ops (laws_of l) (notation_of l) (bound_of l).text b (length places) (drawn_pairs places) events one two p q

  abbrev OfSheet : Book → Limit → List (List ℕ) → Fault → Type 0
  OfSheet b l places f = ListTooShort events (length old) f

  -- both are told
  told_once : (n m : ℕ) (new other : List (List ℕ)) → OfficeReport book order events old (Ok n) new → OfficeReport book order events old (Ok m) other → (n ≡ m) × (new ≡ other)
  told_once n m new other h k =
      let x = h.1 in
      let y = k.1 in
      let count = lines_once events n m h.0 k.0 in
      let e = one_told book order x.0 y.0 x.1 y.1 x.2 y.2 x.3 y.3 in
      let head : Heads (EventsTold book order events y.0 y.1 y.2) m old new = subst (λ b. Heads (EventsTold book order events b y.1 y.2) m old new) e.0 (subst (λ l. Heads (EventsTold book order events x.0 l y.2) m old new) e.1 (subst (λ ps. Heads (EventsTold book order events x.0 x.1 ps) m old new) e.2 (subst (λ c. Heads (EventsTold book order events x.0 x.1 x.2) c old new) count x.4))) in
      (count, one_head (EventsTold book order events y.0 y.1 y.2) (one_events y.0 y.1 y.2) m old new other head y.4)

  -- where they are told, nothing is refused
  told_refused : {A : Type 0} (n : ℕ) (new : List (List ℕ)) (f : Fault) → OfficeReport book order events old (Ok n) new → OfficeRefused book order events (length old) f → A
  told_refused n new f h x =
      let y = h.1 in
      let short = past_order book order OfSheet f y.0 y.1 y.2 y.3 x in
      let count = lines_once events n short.1.0 h.0 short.1.1 in
      absurd (omega (arith, count, short.1.2, y.4.fits))

  fault_of : (text : List ℕ) (s : Option Source) → ReportsSo book order (λ _. ⊥) (OfficeRefused book order events (length old)) text s → (f : Fault) × OfficeRefused book order events (length old) f
  fault_of text None h = absurd h
  fault_of text (Some s) h = (h.0, h.1)

  refused_once : (r q : ReportSaid) → Reports book order (λ _. ⊥) (OfficeRefused book order events (length old)) r → Reports book order (λ _. ⊥) (OfficeRefused book order events (length old)) q → r ≡ q
  refused_once r q h k =
      one_report book order (λ _. ⊥) (OfficeRefused book order events (length old))
      (λ bs cs x y. absurd x)
      (one_first_refused book order OfSheet (λ b l places f g x y. x.0 ∙ sym y.0))
      (λ bs f x y. x)
      r
      q
      h
      k

  -- each input has one answer
  pub one_office_report : (one two : Result ℕ ReportSaid) (new other : List (List ℕ)) → OfficeReport book order events old one new → OfficeReport book order events old two other → (one ≡ two) × (new ≡ other)
  one_office_report (Ok n) (Ok m) new other h k = let e = told_once n m new other h k in (ap Ok e.0, e.1)
  one_office_report (Ok n) (Err r) new other h k = let f = fault_of r.text r.refused k.0 in told_refused n new f.0 h f.1
  one_office_report (Err r) (Ok n) new other h k = let f = fault_of r.text r.refused h.0 in told_refused n other f.0 k f.1
  one_office_report (Err r) (Err q) new other h k = (ap Err (refused_once r q h.0 k.0), h.1 ∙ sym k.1)
