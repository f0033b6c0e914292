-- The lines of a book put on a page one after another; the whole text fits. Assumes nothing.
use Rattle.std.proofs.Common.{◌≡◌, ℕ, ◌+◌, ◌*◌, ◌<◌, ◌≤◌, true, List, [], ◌∷◌, ◌++◌, length, get_or, take, decimal, sym, refl, ap, ◌∙◌, subst, append_assoc, append-nil, arith, length-append}
use Rattle.std.specs.List.{flat_map, AllByRecursion}
use Rattle.std.proofs.lemmas.Bool.Decides.{nat_tests}
use Rattle.std.proofs.lemmas.List.{length_push, take_more, take_all, flat_map_more}
use Rattle.std.proofs.ByRecursion.{All-from_get_or}
use Rattle.text.specs.declared.pages.Page.{Page}
use Rattle.text.specs.Fields.{fielded, Short}
use Rattle.text.specs.Pages.{page_text, Appended}
use Rattle.text.proofs.Chaining.{fielded_short, decimal_short}
use Rattle.text.proofs.Appending.{take_front, appended_then, appended_same}
use Rattle.book.specs.declared.rules.RightSide.{RightSide}
use Rattle.book.specs.declared.rules.RightSide.TheVariants.{Cut, Pair}
use Rattle.book.specs.declared.rules.Rule.{Rule}
use Rattle.book.specs.declared.books.Book.{Book}
use Rattle.book.specs.Ranges.{InRange, lettered, Lawful}
use Rattle.book.specs.Statements.{parts, rule, written_rule, rule_text, ShortSide, Spelled}
use Rattle.book.specs.Writing.{ended_line, written, book_text}

-- a rule of a book is spelled with at most six digits and a capital letter
side_short : (k part : ℕ) (s : RightSide) (t g : ℕ) → k ≤ 32 → InRange k (record { part = part; side = s; time = t; grade = g }) → lettered s ≡ true → Short part × ShortSide s
side_short k part (Cut s) t g few h l = (omega (arith, h.0), (grind (arith, nat_tests), grind (arith, nat_tests)))
side_short k part (Pair a b) t g few h l = (omega (arith, h.0), (omega (arith, h.0), omega (arith, h.0)))

pub rule_spelled : (k : ℕ) (u : Rule) → k ≤ 32 → InRange k u → lettered u.side ≡ true → Spelled (rule u)
rule_spelled k u few h l =
    let s = side_short k u.part u.side u.time u.grade few h l in
    (s.0, s.1, omega (arith, h.1), omega (arith, h.2))

-- what a rule of a book is
abbrev pub Fits : ℕ → Rule → Type 0
Fits k u = InRange k u × Spelled (rule u)

pub all_fit : (k : ℕ) (rules : List Rule) → Lawful k rules → AllByRecursion (Fits k) rules
all_fit k rules h =
    All-from_get_or (Fits k) rules (record { part = 0; side = Cut 65; time = 0; grade = 0 }) (λ i n. (h.ranged i _ n, rule_spelled k _ h.few_parts (h.ranged i _ n) (h.lettered_strokes i _ n)))

-- a book's text is short
side_length : (p : ℕ) (s : RightSide) (t g : ℕ) → Short p → ShortSide s → Short t → Short g → length (written_rule p s t g) ≤ 36
side_length p (Cut s) t g hp h ht hg = omega (arith, fielded_short (decimal p ∷ (s ∷ []) ∷ decimal t ∷ decimal g ∷ []) (decimal_short p hp, (omega arith, (decimal_short t ht, (decimal_short g hg, tt)))))
side_length p (Pair l r) t g hp h ht hg = omega (arith, fielded_short (decimal p ∷ decimal l ∷ decimal r ∷ decimal t ∷ decimal g ∷ []) (decimal_short p hp, (decimal_short l h.0, (decimal_short r h.1, (decimal_short t ht, (decimal_short g hg, tt))))))

rules_length : (k : ℕ) (rules : List Rule) → AllByRecursion (Fits k) rules → length (flat_map (λ u. ended_line (rule u)) rules) ≤ 37 * length rules
rules_length k [] h = omega arith
rules_length k (u ∷ us) h =
    let s = h.0.1 in
    omega (arith, length-append (ended_line (rule u)) (flat_map (λ v. ended_line (rule v)) us), length_push (rule_text u) 10, side_length u.part u.side u.time u.grade s.0 s.1 s.2 s.3, rules_length k us h.1)

pub written_length : (k : ℕ) (rules : List Rule) → Lawful k rules → length (written k rules) ≤ 5000
unfolding written
written_length k rules h =
    let one = fielded_short (decimal k ∷ []) (decimal_short k (omega (arith, h.few_parts)), tt) in
    omega (arith, length-append (ended_line (parts k)) (flat_map (λ u. ended_line (rule u)) rules), length_push (107 ∷ fielded (decimal k ∷ [])) 10, rules_length k rules (all_fit k rules h), h.few_rules)

pub written_short : (k : ℕ) (rules : List Rule) → Lawful k rules → length (written k rules) ≤ 8192
written_short k rules h = omega (arith, written_length k rules h)

-- fields, and then z
abbrev chain : List (List ℕ) → List ℕ → List ℕ
chain [] z = z
chain (f ∷ fs) z = (32 ∷ f) ++ chain fs z

fielded_then : (fs : List (List ℕ)) (z : List ℕ) → chain fs z ≡ fielded fs ++ z
unfolding fielded
fielded_then [] z = refl
fielded_then (f ∷ fs) z = ap (λ l. (32 ∷ f) ++ l) (fielded_then fs z) ∙ sym (append_assoc (32 ∷ f) (fielded fs) z)

-- a rule's line in its pieces, as they are put
cut_pieces : (p s t g : ℕ) → (99 ∷ []) ++ ((32 ∷ decimal p) ++ ((32 ∷ []) ++ ((s ∷ []) ++ ((32 ∷ decimal t) ++ ((32 ∷ decimal g) ++ (10 ∷ [])))))) ≡ written_rule p (Cut s) t g ++ 10 ∷ []
cut_pieces p s t g = ap (λ l. 99 ∷ l) (fielded_then (decimal p ∷ (s ∷ []) ∷ decimal t ∷ decimal g ∷ []) (10 ∷ []))

pair_pieces : (p l r t g : ℕ) → (112 ∷ []) ++ ((32 ∷ decimal p) ++ ((32 ∷ decimal l) ++ ((32 ∷ decimal r) ++ ((32 ∷ decimal t) ++ ((32 ∷ decimal g) ++ (10 ∷ [])))))) ≡ written_rule p (Pair l r) t g ++ 10 ∷ []
pair_pieces p l r t g = ap (λ l. 112 ∷ l) (fielded_then (decimal p ∷ decimal l ∷ decimal r ∷ decimal t ∷ decimal g ∷ []) (10 ∷ []))

pub parts_pieces : (k : ℕ) → (107 ∷ []) ++ ((32 ∷ decimal k) ++ (10 ∷ [])) ≡ written k []
unfolding written
parts_pieces k = ap (λ l. 107 ∷ l) (fielded_then (decimal k ∷ []) (10 ∷ [])) ∙ sym (append-nil (ended_line (parts k)))

module _ (p t g : ℕ) {p₀ p₁ p₂ p₃ p₄ p₅ p₆ p₇ : Page} where
  pub cut_put : (s : RightSide) (stroke : ℕ) → s ≡ Cut stroke → Appended p₀ (99 ∷ []) p₁ → Appended p₁ (32 ∷ decimal p) p₂ → Appended p₂ (32 ∷ []) p₃ → Appended p₃ (stroke ∷ []) p₄ → Appended p₄ (32 ∷ decimal t) p₅ → Appended p₅ (32 ∷ decimal g) p₆ → Appended p₆ (10 ∷ []) p₇ → Appended p₀ (written_rule p s t g ++ 10 ∷ []) p₇
  cut_put s stroke e a b c d f h i =
      appended_same (cut_pieces p stroke t g ∙ ap (λ x. written_rule p x t g ++ 10 ∷ []) (sym e))
      (appended_then a (appended_then b (appended_then c (appended_then d (appended_then f (appended_then h i))))))

  pub pair_put : (s : RightSide) (l r : ℕ) → s ≡ Pair l r → Appended p₀ (112 ∷ []) p₁ → Appended p₁ (32 ∷ decimal p) p₂ → Appended p₂ (32 ∷ decimal l) p₃ → Appended p₃ (32 ∷ decimal r) p₄ → Appended p₄ (32 ∷ decimal t) p₅ → Appended p₅ (32 ∷ decimal g) p₆ → Appended p₆ (10 ∷ []) p₇ → Appended p₀ (written_rule p s t g ++ 10 ∷ []) p₇
  pair_put s l r e a b c d f h i =
      appended_same (pair_pieces p l r t g ∙ ap (λ x. written_rule p x t g ++ 10 ∷ []) (sym e))
      (appended_then a (appended_then b (appended_then c (appended_then d (appended_then f (appended_then h i))))))

-- one rule more
written_more : (k : ℕ) (rules : List Rule) (i : ℕ) (d : Rule) → i < length rules → written k (take i rules) ++ ended_line (rule (get_or rules i d)) ≡ written k (take (i + 1) rules)
unfolding written
written_more k rules i d h = flat_map_more (λ u. ended_line (rule u)) (ended_line (parts k)) (take i rules) (get_or rules i d) ∙ ap (written k) (sym (take_more rules i d h))

-- the page holds the lines of the first i rules, as far as there is room
pub record Filled (k : ℕ) (rules : List Rule) (i : ℕ) (page : Page) : Type 0 where
  pub text : page_text page ≡ take 8192 (written k (take i rules))

pub filled_start : (k : ℕ) (rules : List Rule) {p₀ p₁ p₂ p₃ : Page} → page_text p₀ ≡ [] → Appended p₀ (107 ∷ []) p₁ → Appended p₁ (32 ∷ decimal k) p₂ → Appended p₂ (10 ∷ []) p₃ → Filled k rules 0 p₃
filled_start k rules {p₀} {p₁} {p₂} {p₃} e a b c = record { text = (appended_same (parts_pieces k) (appended_then a (appended_then b c))).grown ∙ ap (λ l. take 8192 (l ++ written k [])) e }

pub filled_more : {k : ℕ} {rules : List Rule} {i : ℕ} {p q : Page} (d : Rule) → Filled k rules i p → i < length rules → Appended p (ended_line (rule (get_or rules i d))) q → Filled k rules (i + 1) q
filled_more {k} {rules} {i} {p} {q} d f h a = record {
  text = a.grown ∙ ap (λ l. take 8192 (l ++ ended_line (rule (get_or rules i d)))) f.text ∙ take_front 8192 (written k (take i rules)) _ ∙ ap (take 8192) (written_more k rules i d h);
}

filled_all : {k : ℕ} {rules : List Rule} {i : ℕ} {p : Page} → Lawful k rules → Filled k rules i p → length rules ≤ i → page_text p ≡ written k rules
filled_all {k} {rules} {i} w f h = f.text ∙ ap (λ l. take 8192 (written k l)) (take_all i rules h) ∙ take_all 8192 (written k rules) (written_short k rules w)

pub filled_at : (b : Book) {rules : List Rule} {i : ℕ} {p : Page} → Lawful b.parts b.rules → Filled b.parts rules i p → rules ≡ b.rules → length rules ≤ i → page_text p ≡ book_text b
filled_at b {rules} {i} {p} w f e h =
    filled_all w (subst (λ l. Filled b.parts l i p) e f) (subst (λ l. length l ≤ i) e h)
