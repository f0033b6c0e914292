-- A line states one thing only: its letter tells the kind, and its fields tell the rest. Assumes nothing.
use Rattle.std.proofs.Common.{◌≡◌, ℕ, List, [], ◌∷◌, get_or, decimal, sym, refl, ap, ◌∙◌, subst, inl, inr, ⊎_elim, arith}
use Rattle.text.specs.Fields.{fielded, Numbered, NumberField, StrokeField, Short, Stroke, Lacks}
use Rattle.text.specs.declared.kinds.Kind.{Kind}
use Rattle.text.specs.declared.kinds.Kind.TheVariants as kind
use Rattle.text.specs.Kinds.{letter_of}
use Rattle.text.specs.Reading.{OneOf, Known}
use Rattle.text.proofs.Letters.{clash}
use Rattle.text.proofs.Endings.{Plain}
use Rattle.text.proofs.Chaining.{fielded_unique, same_number, number_lacks, two_by_two, front_number, front_stroke}
use Rattle.book.specs.declared.rules.RightSide.{RightSide}
use Rattle.book.specs.declared.rules.RightSide.TheVariants.{Cut, Pair}
use Rattle.book.specs.declared.rules.Rule.{Rule}
use Rattle.book.specs.Statements.{Said, parts, rule, note, written_rule, line_text, ShortSide, States, book_form}

stroke_lacks : (s : ℕ) → Stroke s → Lacks 32 (s ∷ [])
stroke_lacks s h = (λ e. omega (arith, h.0), tt)

-- rules with the same text are the same
module _ (p t g q a b : ℕ) (hp : Short p) (ht : Short t) (hg : Short g) (hq : Short q) (ha : Short a) (hb : Short b) where
  rule_once : (s r : RightSide) → ShortSide s → ShortSide r → written_rule p s t g ≡ written_rule q r a b → ◌≡◌ {A = Rule} (record { part = p; side = s; time = t; grade = g }) (record { part = q; side = r; time = a; grade = b })
  rule_once (Cut s) (Cut r) h k e =
      let fields : fielded (decimal p ∷ (s ∷ []) ∷ decimal t ∷ decimal g ∷ []) ≡ fielded (decimal q ∷ (r ∷ []) ∷ decimal a ∷ decimal b ∷ []) = cc in
      let same = fielded_unique _ _ (number_lacks p hp, (stroke_lacks s h, (number_lacks t ht, (number_lacks g hg, tt)))) (number_lacks q hq, (stroke_lacks r k, (number_lacks a ha, (number_lacks b hb, tt)))) fields in
      let e₁ : decimal p ≡ decimal q = cc in
      let e₂ : s ≡ r = cc in
      let e₃ : decimal t ≡ decimal a = cc in
      let e₄ : decimal g ≡ decimal b = cc in
      λ i. record { part = same_number p q hp hq e₁ i; side = Cut (e₂ i); time = same_number t a ht ha e₃ i; grade = same_number g b hg hb e₄ i }
  rule_once (Cut s) (Pair l r) h k e = let z : ◌≡◌ {A = ℕ} 99 112 = cc in absurd (omega arith)
  rule_once (Pair l r) (Cut s) h k e = let z : ◌≡◌ {A = ℕ} 99 112 = cc in absurd (omega arith)
  rule_once (Pair l r) (Pair m s) h k e =
      let fields : fielded (decimal p ∷ decimal l ∷ decimal r ∷ decimal t ∷ decimal g ∷ []) ≡ fielded (decimal q ∷ decimal m ∷ decimal s ∷ decimal a ∷ decimal b ∷ []) = cc in
      let same = fielded_unique _ _ (number_lacks p hp, (number_lacks l h.0, (number_lacks r h.1, (number_lacks t ht, (number_lacks g hg, tt))))) (number_lacks q hq, (number_lacks m k.0, (number_lacks s k.1, (number_lacks a ha, (number_lacks b hb, tt))))) fields in
      let e₁ : decimal p ≡ decimal q = cc in
      let e₂ : decimal l ≡ decimal m = cc in
      let e₃ : decimal r ≡ decimal s = cc in
      let e₄ : decimal t ≡ decimal a = cc in
      let e₅ : decimal g ≡ decimal b = cc in
      λ i. record { part = same_number p q hp hq e₁ i; side = Pair (same_number l m h.0 k.0 e₂ i) (same_number r s h.1 k.1 e₃ i); time = same_number t a ht ha e₄ i; grade = same_number g b hg hb e₅ i }

-- a rule's letter is that of no other line
rule_letter : {A : Type 0} (b p : ℕ) (s : RightSide) (t g : ℕ) {r bs : List ℕ} → (b ≡ 99 → ⊥) → (b ≡ 112 → ⊥) → written_rule p s t g ≡ bs → b ∷ r ≡ bs → A
rule_letter b p (Cut s) t g n m e f = clash b 99 n f e
rule_letter b p (Pair l r) t g n m e f = clash b 112 m f e

states_once : (line : List ℕ) (one two : Said) → States line one → States line two → one ≡ two
states_once line (parts k) (parts n) s t =
    let e = s.text in
    let f = t.text in
    let fields : fielded (decimal k ∷ []) ≡ fielded (decimal n ∷ []) = cc in
    let same = fielded_unique _ _ (number_lacks k s.spelled, tt) (number_lacks n t.spelled, tt) fields in
    let d : decimal k ≡ decimal n = cc in
    ap parts (same_number k n s.spelled t.spelled d)
states_once line (parts k) (rule u) s t = rule_letter 107 u.part u.side u.time u.grade (omega arith) (omega arith) t.text s.text
states_once line (parts k) (note w) s t = clash 107 110 (omega arith) s.text t.text
states_once line (rule u) (parts k) s t = rule_letter 107 u.part u.side u.time u.grade (omega arith) (omega arith) s.text t.text
states_once line (rule u) (rule v) s t =
    let h = s.spelled in
    let k = t.spelled in
    ap rule (rule_once u.part u.time u.grade v.part v.time v.grade h.0 h.2 h.3 k.0 k.2 k.3 u.side v.side h.1 k.1 (s.text ∙ sym t.text))
states_once line (rule u) (note w) s t = rule_letter 110 u.part u.side u.time u.grade (omega arith) (omega arith) s.text t.text
states_once line (note w) (parts k) s t = clash 110 107 (omega arith) s.text t.text
states_once line (note w) (rule u) s t = rule_letter 110 u.part u.side u.time u.grade (omega arith) (omega arith) t.text s.text
states_once line (note w) (note v) s t = let e = s.text in let f = t.text in let same : w ≡ v = cc in ap note same

rule_known : (p : ℕ) (s : RightSide) (t g : ℕ) → Known book_form.letters (written_rule p s t g)
rule_known p (Cut s) t g = inr (inl refl)
rule_known p (Pair l r) t g = inr (inr (inl refl))

said_known : (said : Said) → Known book_form.letters (line_text said)
said_known (parts k) = inl refl
said_known (rule u) = rule_known u.part u.side u.time u.grade
said_known (note w) = inr (inr (inr (inl refl)))

pub book_plain : Plain book_form
book_plain = record { once = states_once; known = λ line said s. subst (Known book_form.letters) s.text (said_known said) }

-- each letter of a book is a kind's
pub book_letters : (b : ℕ) → OneOf book_form.letters b → (k : Kind) × (letter_of k ≡ b)
book_letters b h = ⊎_elim (λ e. (kind.Parts, sym e)) (⊎_elim (λ e. (kind.Cut, sym e)) (⊎_elim (λ e. (kind.Pair, sym e)) (⊎_elim (λ e. (kind.Note, sym e)) (λ f. absurd f)))) h

-- a line by its letter: what it can state
pub no_parts : (rest : List ℕ) → ((ns : List ℕ) → Numbered 1 rest ns → ⊥) → (said : Said) → States (107 ∷ rest) said → ⊥
no_parts rest none (parts k) s = let e = s.text in none (k ∷ []) (record { count = refl; whole = cc; short = (s.spelled, tt) })
no_parts rest none (rule u) s = rule_letter 107 u.part u.side u.time u.grade (omega arith) (omega arith) s.text refl
no_parts rest none (note w) s = clash 110 107 (omega arith) s.text refl

pair_numbers : (rest : List ℕ) → ((ns : List ℕ) → Numbered 5 rest ns → ⊥) → (p : ℕ) (s : RightSide) (t g : ℕ) → Short p → ShortSide s → Short t → Short g → written_rule p s t g ≡ 112 ∷ rest → ⊥
pair_numbers rest none p (Cut s) t g hp h ht hg e = clash 99 112 (omega arith) e refl
pair_numbers rest none p (Pair l r) t g hp h ht hg e = none (p ∷ l ∷ r ∷ t ∷ g ∷ []) (record { count = refl; whole = cc; short = (hp, (h.0, (h.1, (ht, (hg, tt))))) })

pub no_pair : (rest : List ℕ) → ((ns : List ℕ) → Numbered 5 rest ns → ⊥) → (said : Said) → States (112 ∷ rest) said → ⊥
no_pair rest none (parts k) s = clash 107 112 (omega arith) s.text refl
no_pair rest none (rule u) s = let h = s.spelled in pair_numbers rest none u.part u.side u.time u.grade h.0 h.1 h.2 h.3 s.text
no_pair rest none (note w) s = clash 110 112 (omega arith) s.text refl

cut_fields : (rest : List ℕ) → ((p s t g : ℕ) → Short p → Stroke s → Short t → Short g → fielded (decimal p ∷ (s ∷ []) ∷ decimal t ∷ decimal g ∷ []) ≡ rest → ⊥) → (p : ℕ) (s : RightSide) (t g : ℕ) → Short p → ShortSide s → Short t → Short g → written_rule p s t g ≡ 99 ∷ rest → ⊥
cut_fields rest none p (Cut s) t g hp h ht hg e = none p s t g hp h ht hg (cc)
cut_fields rest none p (Pair l r) t g hp h ht hg e = clash 112 99 (omega arith) e refl

pub no_cut : (rest : List ℕ) → ((p s t g : ℕ) → Short p → Stroke s → Short t → Short g → fielded (decimal p ∷ (s ∷ []) ∷ decimal t ∷ decimal g ∷ []) ≡ rest → ⊥) → (said : Said) → States (99 ∷ rest) said → ⊥
no_cut rest none (parts k) s = clash 107 99 (omega arith) s.text refl
no_cut rest none (rule u) s = let h = s.spelled in cut_fields rest none u.part u.side u.time u.grade h.0 h.1 h.2 h.3 s.text
no_cut rest none (note w) s = clash 110 99 (omega arith) s.text refl

pub two_numbers : {rest : List ℕ} (t g : ℕ) → Short t → Short g → fielded (decimal t ∷ decimal g ∷ []) ≡ rest → Numbered 2 rest (t ∷ g ∷ [])
two_numbers t g ht hg e = record { count = refl; whole = e; short = (ht, (hg, tt)) }

pub is_cut : {rest : List ℕ} {p : ℕ} {m₁ : List ℕ} {s : ℕ} {m₂ ns : List ℕ} → NumberField rest p m₁ → StrokeField m₁ s m₂ → Numbered 2 m₂ ns → States (99 ∷ rest) (rule (record { part = p; side = Cut s; time = get_or ns 0 0; grade = get_or ns 1 0 }))
is_cut {rest} {p} {m₁} {s} {m₂} {ns} a b n =
    let m = subst (Numbered 2 m₂) (two_by_two ns n.count) n in
    record { text = ap (λ l. 99 ∷ l) (front_number _ a (front_stroke _ b m.whole)); spelled = (a.short, b.stroke, m.short.0, m.short.1.0) }
