-- A fault on a page, and its line below it. Assumes nothing.
use Rattle.std.proofs.Common.{◌≡◌, ℕ, ◌≤◌, List, [], ◌∷◌, ◌++◌, length, Option, Some, None, MatchOption, inl, inr, ap, ◌∙◌, append-nil, arith, length-append}
use Rattle.std.specs.Borrow.{Bor}
use Rattle.refusal.specs.declared.Fault.{Fault}
use Rattle.refusal.specs.Faults.{fault_line}
use Rattle.text.specs.Lines.{FaultyLine}
use Rattle.text.specs.declared.pages.Page.{Page}
use Rattle.text.specs.Pages.{page_text, Appended}
use Rattle.text.proofs.Appending.{appended_then, alone}
use Rattle.report.specs.ReportSaid.{line_below}
use Rattle.report.specs.Reports.{FaultShown}

module _ (book order : List ℕ) (f : Fault) where
  -- the line that was looked for
  abbrev Looked : Option (Bor (List ℕ)) → Type 0
  Looked o = MatchOption o ((line : List ℕ) → FaultyLine f.source book order f.line line → ⊥) (λ x. FaultyLine f.source book order f.line x.now)

  below : (page : List ℕ) (o : Option (Bor (List ℕ))) → page ≡ fault_line f ++ 10 ∷ [] → Looked o → FaultShown book order f (page ++ line_below o)
  below page (Some line) e x = inl (line.now, x, ap (λ bs. bs ++ (line.now ++ 10 ∷ [])) e)
  below page None e x = inr (x, append-nil page ∙ e)

  pub shown : {p q r : Page} (o : Option (Bor (List ℕ))) → Looked o → page_text p ≡ [] → Appended p (fault_line f) q → length (fault_line f) ≤ 64 → Appended q (10 ∷ []) r → FaultShown book order f (page_text r ++ line_below o)
  shown {r = r} o x e a short b = below (page_text r) o (alone e (appended_then a b) (omega (arith, short, length-append (fault_line f) (10 ∷ [])))) x
