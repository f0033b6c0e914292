-- What is put on a page is what a report says. Assumes nothing.
use Rattle.std.proofs.Common.{◌≡◌, ℕ, List, [], length, take, Some, None, sym, refl, ap, ◌∙◌, subst, arith}
use Rattle.std.proofs.lemmas.List.{length-take}
use Rattle.refusal.specs.declared.Fault.{Fault}
use Rattle.text.specs.declared.pages.Page.{Page}
use Rattle.text.specs.Pages.{page_text, Appended}
use Rattle.text.proofs.Appending.{alone}
use Rattle.book.specs.declared.books.Book.{Book}
use Rattle.book.specs.Texts as books
use Rattle.sheet.specs.Masks.{mask_places, mask_shown}
use Rattle.order.specs.declared.Order.{Order}
use Rattle.order.specs.Texts as orders
use Rattle.order.specs.Texts.{drawn_pairs}
use Rattle.report.specs.ReportSaid.{ReportSaid}
use Rattle.report.specs.Reports.{FaultShown, ReportsSo, Reports, book_summary, BookPrinted, BookReport, order_summary, OrderPrinted, OrderReport}
use Rattle.report.specs.Told.{BookRefused, OrderRefused}
use Rattle.report.proofs.Lengths.{summary_length, order_length}

-- where nothing is refused, and where a fault is shown
module _ (book order : List ℕ) (Prints : List ℕ → Type 0) (Faulty : Fault → Type 0) (r : ReportSaid) where
  pub accepted : r.refused ≡ None → Prints r.text → Reports book order Prints Faulty r
  accepted e x = subst (λ o. ReportsSo book order Prints Faulty r.text o) (sym e) x

  pub refused : (f : Fault) → Faulty f → r.refused ≡ Some f.source → FaultShown book order f r.text → Reports book order Prints Faulty r
  refused f x e shown = subst (λ o. ReportsSo book order Prints Faulty r.text o) (sym e) (f, x, refl, shown)

pub book_reported : (text : List ℕ) (b : Book) (r : ReportSaid) {p q : Page} → books.Tells text b → page_text p ≡ [] → Appended p (book_summary b) q → r.text ≡ page_text q → r.refused ≡ None → BookReport text r
book_reported text b r t e a same none = accepted text [] (BookPrinted text) (BookRefused text) r none (b, t, same ∙ alone e a (summary_length b t.lawful))

pub book_refused : (text : List ℕ) (f : Fault) (r : ReportSaid) → BookRefused text f → FaultShown text [] f r.text → r.refused ≡ Some f.source → BookReport text r
book_refused text f r x shown some = refused text [] (BookPrinted text) (BookRefused text) r f x some shown

pub order_refused : (text : List ℕ) (f : Fault) (r : ReportSaid) → OrderRefused text f → FaultShown [] text f r.text → r.refused ≡ Some f.source → OrderReport text r
order_refused text f r x shown some = refused [] text (OrderPrinted text) (OrderRefused text) r f x some shown

-- the sheet of the first numbers of a memory that an order fills has as many places as the order, and their pairs
pub drawn_count : {text before after masks : List ℕ} {o : Order} (d : orders.Drawn text before o after) → length after ≡ length before → masks ≡ take o.places after → mask_places masks ≡ length d.places
drawn_count {after = after} {o = o} d long e = omega (arith, ap length e, length-take o.places after, d.count, d.fits, d.tells.few)

pub drawn_shown : {text before after masks : List ℕ} {o : Order} (d : orders.Drawn text before o after) → masks ≡ take o.places after → mask_shown masks ≡ drawn_pairs d.places
drawn_shown d e = ap mask_shown e ∙ d.pairs

pub order_reported : {text before after : List ℕ} {o : Order} (d : orders.Drawn text before o after) (r : ReportSaid) (masks : List ℕ) → length after ≡ length before → masks ≡ take o.places after → {p q : Page} → page_text p ≡ [] → Appended p (order_summary o.limit (mask_shown masks) (mask_places masks)) q → r.text ≡ page_text q → r.refused ≡ None → OrderReport text r
order_reported {text = text} {o = o} d r masks long front e a same none =
    let count = drawn_count d long front in
    let shown = drawn_shown d front in
    let printed = alone e a (order_length o.limit (mask_shown masks) (mask_places masks) d.tells.listed.3.spelled (omega (arith, count, d.tells.few))) in
    accepted [] text (OrderPrinted text) (OrderRefused text) r none (o.limit, d.places, d.tells, same ∙ printed ∙ (λ i. order_summary o.limit (shown i) (count i)))
