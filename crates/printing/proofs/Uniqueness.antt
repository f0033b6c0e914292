-- A quote and a card are printed in one way, and refused in one way, and never both: so a report of them says one thing.
use Rattle.std.proofs.Common.{◌≡◌, ℕ, ◌<◌, false, List, [], length, refl, sym, ap, ◌∙◌, subst, ⊎_elim, arith}
use Rattle.std.proofs.lemmas.Bool.{false≢true}
use Rattle.scale.specs.Ops.{Ops, Laws}
use Rattle.refusal.specs.declared.Refusal.TheVariants.{BadLength, NoRun}
use Rattle.refusal.specs.declared.Fault.{Fault}
use Rattle.refusal.specs.Faults.{on_sheet}
use Rattle.book.specs.declared.books.Book.{Book}
use Rattle.book.specs.BookSaid.{rules_of}
use Rattle.sheet.specs.Pairs.{Pairs}
use Rattle.sheet.specs.Cards.{card_places, card_shown}
use Rattle.sheet.proofs.Pins.{card_pins}
use Rattle.derivations.specs.Trees.{Weights, weights}
use Rattle.derivations.specs.Costs.{cost, has, least_weight}
use Rattle.derivations.specs.Runs.{IsOpen, NoneWithin}
use Rattle.order.specs.declared.limits.Limit.{Limit}
use Rattle.order.specs.Texts.{drawn_pairs}
use Rattle.planner.specs.Outcomes.{PrunedTo, QuotedAs}
use Rattle.planner.proofs.Uniqueness.{one_pruned, one_quoted}
use Rattle.report.specs.ReportSaid.{ReportSaid}
use Rattle.report.specs.Prices.{bound_of}
use Rattle.report.specs.Told.{Tells}
use Rattle.report.proofs.Uniqueness.{one_report_of_told}
use Rattle.printing.specs.Refusals.{SheetRefused}
use Rattle.printing.specs.Quotes.{quote_text, QuotePrinted, QuoteReport}
use Rattle.printing.specs.Cards.{counted, CardPrinted, CardReport, card_after}
use Rattle.printing.proofs.Bounding.{bound_laws, bound_open}

module _ {S : Type 0} (o : Ops S) (limit : S) (b : Book) where
  abbrev W : Weights S
  W = weights o b

  -- a sheet is refused in one way
  one_refused : (n : ℕ) (shown : Pairs) (f g : Fault) → SheetRefused o limit b n shown f → SheetRefused o limit b n shown g → f ≡ g
  one_refused n shown f g x y =
      ⊎_elim
      (λ (h : (n ≡ 0) × (f ≡ on_sheet BadLength)).
      ⊎_elim
      (λ (k : (n ≡ 0) × (g ≡ on_sheet BadLength)). h.1 ∙ sym k.1)
      (λ (k : (0 < n) × (g ≡ on_sheet NoRun) × NoneWithin o W (rules_of b) n shown limit). absurd (omega arith))
      y)
      (λ (h : (0 < n) × (f ≡ on_sheet NoRun) × NoneWithin o W (rules_of b) n shown limit).
      ⊎_elim
      (λ (k : (n ≡ 0) × (g ≡ on_sheet BadLength)). absurd (omega arith))
      (λ (k : (0 < n) × (g ≡ on_sheet NoRun) × NoneWithin o W (rules_of b) n shown limit). h.1 ∙ sym k.1)
      y)
      x

  -- no run without a stroke is lawful
  empty_barred : (run : List ℕ) (n : ℕ) → n ≡ length run → n ≡ 0 → cost o W (rules_of b) run ≡ o.barred
  empty_barred run n long none = let e : length run ≡ 0 = sym long ∙ none in ap (λ m. least_weight m o W (rules_of b) (has run) 0 0 m) e

  -- and none that is pruned within a limit that is not barred
  pruned_apart : o.le o.barred limit ≡ false → (n : ℕ) (before after : Pairs) (least : S) (closed : ℕ) (f : Fault) → PrunedTo o W (rules_of b) n before limit after least closed → SheetRefused o limit b n before f → ⊥
  pruned_apart open_limit n before after least closed f p x =
      let barred : (c : S) → c ≡ o.barred → least ≡ c → ⊥ = λ c e same. false≢true (sym open_limit ∙ ap (λ v. o.le v limit) (sym (same ∙ e)) ∙ p.within) in
      ⊎_elim
      (λ (e : least ≡ o.barred). barred o.barred refl e)
      (λ (m : (run : List ℕ) × IsOpen n before run × (cost o W (rules_of b) run ≡ least)).
      ⊎_elim
      (λ (h : (n ≡ 0) × (f ≡ on_sheet BadLength)). barred _ (empty_barred m.0 n (sym m.1.long) h.0) (sym m.2))
      (λ (h : (0 < n) × (f ≡ on_sheet NoRun) × NoneWithin o W (rules_of b) n before limit). h.2 m.0 (record { is_open = m.1; within = ap (λ v. o.le v limit) m.2 ∙ p.within }))
      x)
      p.cheapest.met

  module _ (laws : Laws o) where
    one_quote_print : (text : S → List ℕ) (n : ℕ) (before : Pairs) (bs cs : List ℕ) → QuotePrinted o text limit b n before bs → QuotePrinted o text limit b n before cs → bs ≡ cs
    one_quote_print text n before bs cs p q =
        let pruned = one_pruned laws W (rules_of b) n before limit p.after q.after p.least q.least p.closed q.closed p.pruned q.pruned in
        let quoted = one_quoted laws W (rules_of b) n q.after limit [] p.run q.run p.cost q.cost (subst (λ (f : Pairs). QuotedAs o W (rules_of b) n f limit [] p.run p.cost) pruned.0 p.quoted) q.quoted in
        p.printed ∙ (λ i. quote_text (text (quoted.1 i)) (quoted.0 i) (pruned.2 i) (pruned.0 i) n) ∙ sym q.printed

    one_card_print : (card bs cs : List ℕ) → CardPrinted o limit b card bs → CardPrinted o limit b card cs → bs ≡ cs
    one_card_print card bs cs p q =
        let rows = counted card in
        let pruned = one_pruned laws W (rules_of b) (card_places rows) (card_shown rows) limit (card_shown bs) (card_shown cs) p.pruned.0 q.pruned.0 p.pruned.1 q.pruned.1 p.pruned.2 q.pruned.2 in
        card_pins rows bs cs p.redrawn q.redrawn pruned.0

module _ (book order : List ℕ) where
  -- the limit of an order that is told is not barred
  told_open : (b : Book) (l : Limit) (places : List (List ℕ)) → Tells book order b l places → (bound_of l).ops.le (bound_of l).ops.barred (bound_of l).limit ≡ false
  told_open b l places t = bound_open l t.of_order.listed.3.spelled t.of_order.ranged

  pub one_quote_report : (r q : ReportSaid) → QuoteReport book order r → QuoteReport book order q → r ≡ q
  one_quote_report r q h k =
      one_report_of_told book order (λ b l places f. SheetRefused (bound_of l).ops (bound_of l).limit b (length places) (drawn_pairs places) f)
      (λ bytes b l places. QuotePrinted (bound_of l).ops (bound_of l).text (bound_of l).limit b (length places) (drawn_pairs places) bytes)
      (λ b l places bs cs x y. one_quote_print (bound_of l).ops (bound_of l).limit b (bound_laws l) (bound_of l).text (length places) (drawn_pairs places) bs cs x y)
      (λ b l places f g x y. one_refused (bound_of l).ops (bound_of l).limit b (length places) (drawn_pairs places) f g x y)
      (λ b l places t bs f x y. pruned_apart (bound_of l).ops (bound_of l).limit b (told_open b l places t) (length places) (drawn_pairs places) x.after x.least x.closed f x.pruned y)
      r
      q
      h
      k

  pub one_card_report : (card : List ℕ) (r q : ReportSaid) (after other : List ℕ) → CardReport book card order r after → CardReport book card order q other → (r ≡ q) × (after ≡ other)
  one_card_report card r q after other h k =
      let rows = counted card in
      let same =
      one_report_of_told book order (λ b l places f. SheetRefused (bound_of l).ops (bound_of l).limit b (card_places rows) (card_shown rows) f)
      (λ bytes b l places. CardPrinted (bound_of l).ops (bound_of l).limit b card bytes)
      (λ b l places bs cs x y. one_card_print (bound_of l).ops (bound_of l).limit b (bound_laws l) card bs cs x y)
      (λ b l places f g x y. one_refused (bound_of l).ops (bound_of l).limit b (card_places rows) (card_shown rows) f g x y)
      (λ b l places t bs f x y. pruned_apart (bound_of l).ops (bound_of l).limit b (told_open b l places t) (card_places rows) (card_shown rows) (card_shown bs) x.pruned.0 x.pruned.1 f x.pruned.2 y)
      r
      q
      h.says
      k.says in (
        same,
        h.holds ∙ ap (λ (s : ReportSaid). card_after book card order s.text s.refused) same ∙ sym k.holds,
      )
