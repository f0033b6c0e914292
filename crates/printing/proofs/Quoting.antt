-- A quote of a pruned sheet, with boards that are long enough and a run of the sheet's length: refused only where the sheet has
-- no place, and else the run alone is written. Assumes nothing.
use Rattle.std.proofs.Common.{◌≡◌, ℕ, ◌<◌, ◌≤◌, false, List, [], length, Ok, Err, inl, ⊎_elim, subst, ◌∙◌, sym}
use Rattle.scale.specs.Ops.{Ops}
use Rattle.refusal.specs.declared.Refusal.{Refusal}
use Rattle.refusal.specs.declared.Refusal.TheVariants.{BadLength, NoRun}
use Rattle.refusal.specs.Faults.{on_sheet}
use Rattle.book.specs.declared.books.Book.{Book}
use Rattle.book.specs.BookSaid.{parts_of, rules_of}
use Rattle.sheet.specs.Pairs.{Pairs}
use Rattle.derivations.specs.Trees.{Weights, weights}
use Rattle.derivations.specs.Runs.{NoneWithin}
use Rattle.planner.specs.Boards.{board_entries}
use Rattle.planner.specs.Outcomes.{Answered, quote_refused, PrunedTo, QuotedAs}
use Rattle.printing.specs.Refusals.{SheetRefused}
use Rattle.printing.proofs.Refusing.{quote_left, refused_left, answered_left}
use Rattle.printing.proofs.Leaving.{run_left, run_alone}

module _ {S : Type 0} (o : Ops S) (b : Book) (n : ℕ) (limit : S) (open_limit : o.le o.barred limit ≡ false) (before after : Pairs) {least : S} {closed : ℕ} (pruned : PrunedTo o (weights o b) (rules_of b) n before limit after least closed) where
  abbrev W : Weights S
  W = weights o b

  -- the sheet has as many places after the prune
  module _ (m : ℕ) (same : m ≡ n) (i j : ℕ) (lent written : List ℕ) (filled : length written ≡ length lent) (room : board_entries n (parts_of b) ≤ i) (room' : board_entries n (parts_of b) ≤ j) (long : length lent ≡ m) where
    room_after : {h : ℕ} → board_entries n (parts_of b) ≤ h → board_entries m (parts_of b) ≤ h
    room_after {h} r = subst (λ p. board_entries p (parts_of b) ≤ h) (sym same) r

    -- what is refused
    pub quote_refuses : (e : Refusal) → Answered (quote_refused o m (parts_of b) limit i j (length lent)) (λ c. QuotedAs o W (rules_of b) m after limit lent written c) (NoneWithin o W (rules_of b) m after limit) (Err e) → SheetRefused o limit b n before (on_sheet e)
    quote_refuses e a =
        ⊎_elim
        (λ (x : (m ≡ 0) × (on_sheet e ≡ on_sheet BadLength)). inl (sym same ∙ x.0, x.1))
        (λ (x : (0 < m) × (on_sheet e ≡ on_sheet NoRun) × NoneWithin o W (rules_of b) m after limit). absurd (run_left o W (rules_of b) n limit before after least closed open_limit pruned (subst (λ p. NoneWithin o W (rules_of b) p after limit) same x.2)))
        (refused_left (NoneWithin o W (rules_of b) m after limit) (λ c. QuotedAs o W (rules_of b) m after limit lent written c) m _ e (quote_left o m (parts_of b) limit open_limit i j (room_after room) (room_after room') (length lent) long) a)

    -- what is answered
    pub quote_answers : (c : S) → Answered (quote_refused o m (parts_of b) limit i j (length lent)) (λ c. QuotedAs o W (rules_of b) m after limit lent written c) (NoneWithin o W (rules_of b) m after limit) (Ok c) → QuotedAs o W (rules_of b) n after limit [] written c
    quote_answers c a =
        let q = answered_left (NoneWithin o W (rules_of b) m after limit) (λ c. QuotedAs o W (rules_of b) m after limit lent written c) m _ c (quote_left o m (parts_of b) limit open_limit i j (room_after room) (room_after room') (length lent) long) a in
        subst (λ p. QuotedAs o W (rules_of b) p after limit [] written c) same (run_alone o W (rules_of b) m limit after lent written c long q)
