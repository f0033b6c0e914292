-- What both texts tell, and the events on the sheet that the order draws; or the fault of one of them. Assumes nothing.
use Rattle.std.proofs.Common.{◌≡◌, ℕ, List, length, take, Some, Ok, Err, refl, subst}
use Rattle.refusal.specs.declared.Fault.{Fault}
use Rattle.book.specs.declared.books.Book.{Book}
use Rattle.book.specs.Texts as books
use Rattle.sheet.specs.Masks.{mask_places, mask_shown}
use Rattle.order.specs.declared.Order.{Order}
use Rattle.order.specs.Texts.{drawn_pairs, Drawn}
use Rattle.report.specs.ReportSaid.{ReportSaid}
use Rattle.report.specs.Prices.{bound_of}
use Rattle.report.specs.Reports.{FaultShown}
use Rattle.report.proofs.Reporting.{refused, drawn_count, drawn_shown}
use Rattle.answers.specs.Texts.{HasLines}
use Rattle.answers.specs.Offices.{notation_of, EventsPrinted, Heads, OfficeRefused, OfficeReport}

module _ (book order events : List ℕ) (old : List (List ℕ)) where
  -- a fault is shown, and the list is as it was
  pub fault_told : (r : ReportSaid) (f : Fault) → OfficeRefused book order events (length old) f → r.refused ≡ Some f.source → FaultShown book order f r.text → OfficeReport book order events old (Err r) old
  fault_told r f x some shown = (refused book order (λ _. ⊥) (OfficeRefused book order events (length old)) r f x some shown, refl)

  -- the sheet of the memory's first numbers is that of the order
  pub events_told : (lines : ℕ) (new : List (List ℕ)) (b : Book) → HasLines events lines → books.Tells book b → {before after : List ℕ} {o : Order} (masks : List ℕ) (d : Drawn order before o after) → length after ≡ length before → masks ≡ take o.places after → Heads (EventsPrinted (bound_of o.limit).ops (notation_of o.limit) (bound_of o.limit).text b (mask_places masks) (mask_shown masks) events) lines old new → OfficeReport book order events old (Ok lines) new
  events_told lines new b count of_book {o = o} masks d long front heads =
      let places = drawn_count d long front in
      let shown = drawn_shown d front in
      let bound = bound_of o.limit in
      let here : Heads (EventsPrinted bound.ops (notation_of o.limit) bound.text b (length d.places) (drawn_pairs d.places) events) lines old new = subst (λ f. Heads (EventsPrinted bound.ops (notation_of o.limit) bound.text b (length d.places) f events) lines old new) shown (subst (λ n. Heads (EventsPrinted bound.ops (notation_of o.limit) bound.text b n (mask_shown masks) events) lines old new) places heads) in
      (count, (b, o.limit, d.places, record { of_book = of_book; of_order = d.tells }, here))
