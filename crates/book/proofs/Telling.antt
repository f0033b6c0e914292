-- What is read is what the text tells: the two ways to say what a book's text means are one. Assumes nothing.
use Rattle.std.proofs.Common.{◌≡◌, ℕ, ◌+◌, ◌≤◌, List, [], ◌∷◌, ◌++◌, map, length, Some, Ok, Err, Result, sym, refl, ap, ◌∙◌, subst, append_assoc, append-nil, arith}
use Rattle.std.specs.List.{AllByRecursion}
use Rattle.std.proofs.lemmas.List.{length_push}
use Rattle.std.proofs.ByRecursion.{All-from_get_or}
use Rattle.refusal.specs.declared.Fault.{Fault}
use Rattle.refusal.specs.declared.Source.TheVariants as source
use Rattle.text.specs.Reading.{Reads, Listed, Accepted}
use Rattle.text.proofs.Standing.{listed}
use Rattle.text.proofs.Answering.{one_answer}
use Rattle.book.specs.declared.rules.RightSide.TheVariants.{Cut}
use Rattle.book.specs.declared.rules.Rule.{Rule}
use Rattle.book.specs.declared.books.Book.{Book}
use Rattle.book.specs.Ranges.{InRange, Lawful}
use Rattle.book.specs.Statements.{Said, parts, rule, note, Stated, book_form}
use Rattle.book.specs.Texts.{without_notes, Tells, stated_in, Outcome, Told}
use Rattle.book.proofs.Spelling.{book_plain}
use Rattle.book.proofs.Standing.{Sound, reads_sound}

-- after the number of parts come the rules
record Then (k : ℕ) (done : List Rule) (ls : List Said) (whole : Stated) : Type 0 where
  todo : List Rule
  parts_same : Some k ≡ whole.parts
  rules_same : done ++ todo ≡ whole.rules
  told : without_notes ls ≡ map rule todo

then_rules : (k : ℕ) (done : List Rule) (ls : List Said) (bs : List ℕ) (whole : Stated) → Reads book_form ls (record { parts = Some k; rules = done }) bs whole [] → Then k done ls whole
then_rules k done [] bs whole h = record { todo = []; parts_same = ap (λ (d : Stated). d.parts) h.0; rules_same = append-nil done ∙ ap (λ (d : Stated). d.rules) h.0; told = refl }
then_rules k done (note w ∷ ls) bs whole h =
    let t = then_rules k done ls h.0 whole h.2 in
    record { todo = t.todo; parts_same = t.parts_same; rules_same = t.rules_same; told = t.told }
then_rules k done (parts n ∷ ls) bs whole h = let e = h.1.passed.0 in let z : ◌≡◌ {A = ℕ} 0 1 = cc in absurd (omega arith)
then_rules k done (rule u ∷ ls) bs whole h =
    let t = then_rules k (done ++ u ∷ []) ls h.0 whole h.2 in
    record { todo = u ∷ t.todo; parts_same = t.parts_same; rules_same = sym (append_assoc done (u ∷ []) t.todo) ∙ t.rules_same; told = ap (λ l. rule u ∷ l) t.told }

first_parts : (ls : List Said) (bs : List ℕ) (k : ℕ) (rules : List Rule) → Reads book_form ls book_form.blank bs (record { parts = Some k; rules = rules }) [] → without_notes ls ≡ parts k ∷ map rule rules
first_parts [] bs k rules h = let e = ap (λ (d : Stated). d.parts) h.0 in let z : ◌≡◌ {A = ℕ} 0 1 = cc in absurd (omega arith)
first_parts (note w ∷ ls) bs k rules h = first_parts ls h.0 k rules h.2
first_parts (parts n ∷ ls) bs k rules h =
    let t = then_rules n [] ls h.0 (record { parts = Some k; rules = rules }) h.2 in
    let e = t.parts_same in
    let same : n ≡ k = cc in
    (λ i. parts (same i) ∷ (t.told ∙ ap (map rule) t.rules_same) i)
first_parts (rule u ∷ ls) bs k rules h = let e = h.1.passed.0 in let z : ◌≡◌ {A = ℕ} 0 1 = cc in absurd (omega arith)

-- and the other way
rules_told : (k : ℕ) (ls : List Said) (done todo : List Rule) (bs : List ℕ) → Listed book_form ls bs → without_notes ls ≡ map rule todo → AllByRecursion (InRange k) todo → length done + length todo ≤ 128 → Reads book_form ls (record { parts = Some k; rules = done }) bs (record { parts = Some k; rules = done ++ todo }) []
rules_told k [] done [] bs h e a n = (ap (λ l. record { parts = Some k; rules = l }) (sym (append-nil done)), h)
rules_told k [] done (v ∷ vs) bs h e a n = let z : ◌≡◌ {A = ℕ} 0 1 = cc in absurd (omega arith)
rules_told k (note w ∷ ls) done todo bs h e a n = (h.1, record { line = h.0; starts = h.2; stated = h.3; passed = tt }, rules_told k ls done todo h.1 h.4 e a n)
rules_told k (parts m ∷ ls) done [] bs h e a n = let z : ◌≡◌ {A = ℕ} 0 1 = cc in absurd (omega arith)
rules_told k (parts m ∷ ls) done (v ∷ vs) bs h e a n = let z : ◌≡◌ {A = ℕ} 0 1 = cc in absurd (omega arith)
rules_told k (rule u ∷ ls) done [] bs h e a n = let z : ◌≡◌ {A = ℕ} 0 1 = cc in absurd (omega arith)
rules_told k (rule u ∷ ls) done (v ∷ vs) bs h e a n =
    let same : v ≡ u = cc in
    let rest : without_notes ls ≡ map rule vs = cc in
    let more = rules_told k ls (done ++ u ∷ []) vs h.1 h.4 rest a.1 (omega (arith, length_push done u)) in (
      h.1,
      record { line = h.0; starts = h.2; stated = h.3; passed = (refl, (subst (InRange k) same a.0, (omega arith, tt))) },
      subst (λ l. Reads book_form ls (record { parts = Some k; rules = done ++ u ∷ [] }) h.1 (record { parts = Some k; rules = l }) []) (append_assoc done (u ∷ []) vs ∙ ap (λ w. done ++ w ∷ vs) (sym same)) more,
    )

parts_told : (k : ℕ) (ls : List Said) (rules : List Rule) (bs : List ℕ) → Lawful k rules → Listed book_form ls bs → without_notes ls ≡ parts k ∷ map rule rules → Reads book_form ls book_form.blank bs (record { parts = Some k; rules = rules }) []
parts_told k [] rules bs w h e = let z : ◌≡◌ {A = ℕ} 0 1 = cc in absurd (omega arith)
parts_told k (note v ∷ ls) rules bs w h e = (h.1, record { line = h.0; starts = h.2; stated = h.3; passed = tt }, parts_told k ls rules h.1 w h.4 e)
parts_told k (parts n ∷ ls) rules bs w h e =
    let same : k ≡ n = cc in
    let rest : without_notes ls ≡ map rule rules = cc in
    let all = All-from_get_or (InRange k) rules (record { part = 0; side = Cut 65; time = 0; grade = 0 }) (λ i m. w.ranged i _ m) in
    let more = rules_told k ls [] rules h.1 h.4 rest all (omega (arith, w.few_rules)) in (
      h.1,
      record { line = h.0; starts = h.2; stated = h.3; passed = (refl, ((omega (arith, w.some_parts), omega (arith, w.few_parts)), tt)) },
      subst (λ m. Reads book_form ls (record { parts = Some m; rules = [] }) h.1 (record { parts = Some k; rules = rules }) []) same more,
    )
parts_told k (rule u ∷ ls) rules bs w h e = let z : ◌≡◌ {A = ℕ} 0 1 = cc in absurd (omega arith)

pub accepted_tells : (text : List ℕ) (k : ℕ) (rules : List Rule) → Accepted book_form text (record { parts = Some k; rules = rules }) → Tells text (record { parts = k; rules = rules })
accepted_tells text k rules a =
    let s : Sound (Some k) rules = reads_sound a.lines book_form.blank text (record { parts = Some k; rules = rules }) [] refl a.reached.reads in
    record {
      short = a.reached.short;
      lines = a.lines;
      listed = listed book_form a.lines book_form.blank text _ a.reached.reads;
      told = first_parts a.lines text k rules a.reached.reads;
      lawful = record { some_parts = s.0; few_parts = s.1; some_rules = a.passed.0; few_rules = s.2; ranged = s.3; lettered_strokes = s.4 };
    }

pub tells_accepted : (text : List ℕ) (b : Book) → Tells text b → Accepted book_form text (stated_in b)
tells_accepted text b t = record {
  lines = t.lines;
  reached = record { short = t.short; reads = parts_told b.parts t.lines b.rules text t.lawful t.listed t.told };
  passed = (t.lawful.some_rules, tt);
}

-- two books of which the same is stated are the same
same_stated : (b c : Book) → stated_in b ≡ stated_in c → b ≡ c
same_stated b c e =
    let k' = ap (λ (d : Stated). d.parts) e in
    let k : b.parts ≡ c.parts = cc in
    let us : b.rules ≡ c.rules = ap (λ (d : Stated). d.rules) e in
    (λ i. record { parts = k i; rules = us i })

-- a text has one outcome
pub one_outcome : (text : List ℕ) (r q : Result Book Fault) → Outcome text r → Outcome text q → r ≡ q
one_outcome text r q o p = one_answer book_form book_plain stated_in same_stated source.Book text r q o p

pub told_by : (text : List ℕ) (r : Result Book Fault) → Outcome text r → Told text r
told_by text (Ok b) o = accepted_tells text b.parts b.rules o
told_by text (Err f) o = λ b t.
    let e : ◌≡◌ {A = Result Book Fault} (Ok b) (Err f) = one_outcome text (Ok b) (Err f) (tells_accepted text b t) o in
    let z : ◌≡◌ {A = ℕ} 0 1 = cc in omega arith

-- a text tells one book
pub one_told : (text : List ℕ) (b c : Book) → Tells text b → Tells text c → b ≡ c
one_told text b c t u =
    let e : ◌≡◌ {A = Result Book Fault} (Ok b) (Ok c) = one_outcome text (Ok b) (Ok c) (tells_accepted text b t) (tells_accepted text c u) in
    cc
