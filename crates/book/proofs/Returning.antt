-- What is written reads back the same: the text of a book tells that book. Assumes nothing.
use Rattle.std.proofs.Common.{◌≡◌, ℕ, List, [], ◌∷◌, ◌++◌, map, take, drop, Ok, Result, decimal, sym, refl, ap, ◌∙◌, subst, append_assoc, arith}
use Rattle.std.proofs.Math.Seq.{take-append_seam}
use Rattle.std.specs.List.{flat_map, AllByRecursion}
use Rattle.text.specs.Fields.{fielded, Short, Lacks}
use Rattle.text.specs.Lines.{Starts}
use Rattle.text.proofs.Cutting.{decimal_lacks}
use Rattle.text.proofs.Chaining.{fielded_lacks}
use Rattle.book.specs.declared.rules.RightSide.{RightSide}
use Rattle.book.specs.declared.rules.RightSide.TheVariants.{Cut, Pair}
use Rattle.book.specs.declared.rules.Rule.{Rule}
use Rattle.book.specs.declared.books.Book.{Book}
use Rattle.refusal.specs.declared.Fault.{Fault}
use Rattle.book.specs.Ranges.{Lawful}
use Rattle.book.specs.Statements.{parts, rule, written_rule, rule_text, ShortSide, book_form}
use Rattle.text.specs.Reading.{Listed}
use Rattle.book.specs.Texts.{without_notes, Tells, Outcome}
use Rattle.book.specs.Writing.{ended_line, written, book_text, Wrote, ReadBack}
use Rattle.book.proofs.Telling.{tells_accepted}
use Rattle.book.proofs.Putting.{Fits, all_fit, written_short}

lacks : (n : ℕ) → Short n → Lacks 10 (decimal n)
lacks n h = decimal_lacks 10 n (omega arith) h

rule_lacks : (p : ℕ) (s : RightSide) (t g : ℕ) → Short p → ShortSide s → Short t → Short g → Lacks 10 (written_rule p s t g)
rule_lacks p (Cut s) t g hp h ht hg = (omega arith, fielded_lacks 10 _ (omega arith) (lacks p hp, ((λ e. omega (arith, h.0), tt), (lacks t ht, (lacks g hg, tt)))))
rule_lacks p (Pair l r) t g hp h ht hg = (omega arith, fielded_lacks 10 _ (omega arith) (lacks p hp, (lacks l h.0, (lacks r h.1, (lacks t ht, (lacks g hg, tt))))))

-- a line in front
starts_line : (line after : List ℕ) → Lacks 10 line → Starts ((line ++ 10 ∷ []) ++ after) line after
starts_line line after h = record { whole = sym (append_assoc line (10 ∷ []) after); apart = h }

rules_listed : (k : ℕ) (rules : List Rule) → AllByRecursion (Fits k) rules → Listed book_form (map rule rules) (flat_map (λ u. ended_line (rule u)) rules)
rules_listed k [] h = refl
rules_listed k (u ∷ us) h =
    let s = h.0.1 in
    (rule_text u, _, starts_line (rule_text u) _ (rule_lacks u.part u.side u.time u.grade s.0 s.1 s.2 s.3), record { text = refl; spelled = s }, rules_listed k us h.1)

no_notes : (rules : List Rule) → without_notes (map rule rules) ≡ map rule rules
no_notes [] = refl
no_notes (u ∷ us) = ap (λ l. rule u ∷ l) (no_notes us)

pub written_tells : (k : ℕ) (rules : List Rule) → Lawful k rules → Tells (written k rules) (record { parts = k; rules = rules })
unfolding written
written_tells k rules h =
    let few : Short k = omega (arith, h.few_parts) in
    record {
      short = written_short k rules h;
      lines = parts k ∷ map rule rules;
      listed = (107 ∷ fielded (decimal k ∷ []), _, starts_line _ _ (omega arith, fielded_lacks 10 _ (omega arith) (lacks k few, tt)), record { text = refl; spelled = few }, rules_listed k rules (all_fit k rules h));
      told = ap (λ l. parts k ∷ l) (no_notes rules);
      lawful = h;
    }

-- what a call wrote is the text
pub front : (text before after : List ℕ) (n : ℕ) → Wrote text before (Ok n) after → take n after ≡ text
front text before after n w = rw (w.1, w.0) (take-append_seam text _)

-- the book is written, and read again
pub again_same : (b : Book) → Tells (book_text b) b → (c : Book) (n : ℕ) (before after : List ℕ) → Wrote (book_text b) before (Ok n) after → ((other : Result Book Fault) → Outcome (take n after) other → other ≡ Ok c) → ReadBack b before (Ok c) after
again_same b tells c n before after w only =
    let e : ◌≡◌ {A = Result Book Fault} (Ok b) (Ok c) = only (Ok b) (subst (λ t. Outcome t (Ok b)) (sym (front (book_text b) before after n w)) (tells_accepted _ b tells)) in
    (cc, tells, w.1 ∙ ap (λ m. book_text b ++ drop m before) w.0)
