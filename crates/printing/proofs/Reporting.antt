-- How the steps of a program end is what its report says. Assumes nothing.
use Rattle.std.proofs.Common.{◌≡◌, ℕ, List, Ok, Err, Result, MatchResult, sym, ap, ◌∙◌, subst}
use Rattle.refusal.specs.declared.Fault.{Fault}
use Rattle.text.specs.declared.pages.Page.{Page}
use Rattle.text.specs.Pages.{page_text}
use Rattle.report.specs.ReportSaid.{ReportSaid}
use Rattle.report.specs.Reports.{Reports}
use Rattle.report.proofs.Reporting.{accepted, refused}
use Rattle.printing.specs.Ends.{ReportOf}
use Rattle.printing.specs.Quotes.{QuoteTold, QuoteRefused, QuoteReport}
use Rattle.printing.specs.Cards.{held, CardTold, CardRefused, CardReport, card_after}

module _ (book order : List ℕ) where
  reported : (Prints : List ℕ → Type 0) (Faulty : Fault → Type 0) (ended : Result Page Fault) (r : ReportSaid) → MatchResult ended (λ page. Prints (page_text page)) Faulty → ReportOf book order ended r → Reports book order Prints Faulty r
  reported Prints Faulty (Ok page) r x e = accepted book order Prints Faulty r e.1 (subst Prints (sym e.0) x)
  reported Prints Faulty (Err f) r x e = refused book order Prints Faulty r f x e.1 e.0

  pub quote_reported : (ended : Result Page Fault) (r : ReportSaid) → MatchResult ended (λ page. QuoteTold book order (page_text page)) (QuoteRefused book order) → ReportOf book order ended r → QuoteReport book order r
  quote_reported ended r x e = reported (QuoteTold book order) (QuoteRefused book order) ended r x e

  module _ (card after : List ℕ) where
    card_held : (ended : Result Page Fault) (r : ReportSaid) → MatchResult ended (λ page. after ≡ held (page_text page) card) (λ _. after ≡ card) → ReportOf book order ended r → after ≡ card_after book card order r.text r.refused
    card_held (Ok page) r x e = x ∙ ap (λ bs. held bs card) (sym e.0) ∙ ap (card_after book card order r.text) (sym e.1)
    card_held (Err f) r x e = x ∙ ap (card_after book card order r.text) (sym e.1)

    pub card_reported : (ended : Result Page Fault) (r : ReportSaid) → MatchResult ended (λ page. CardTold book card order (page_text page)) (CardRefused book card order) → MatchResult ended (λ page. after ≡ held (page_text page) card) (λ _. after ≡ card) → ReportOf book order ended r → CardReport book card order r after
    card_reported ended r x h e = record {
      says = reported (CardTold book card order) (CardRefused book card order) ended r x e;
      holds = card_held ended r h e;
    }
