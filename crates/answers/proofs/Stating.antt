-- What follows a word states one thing at the most, and so a line is read in one way. Assumes nothing.
use Rattle.std.proofs.Common.{◌≡◌, ℕ, List, [], ◌∷◌, map, length, decimal, Ok, Err, ⊎_elim, refl, sym, ap, ◌∙◌, subst, arith}
use Rattle.std.specs.List.{AllByRecursion}
use Rattle.std.proofs.lemmas.List.{nil_from_length}
use Rattle.refusal.specs.declared.Refusal.{Refusal}
use Rattle.refusal.specs.declared.Refusal.TheVariants.{UnknownLine, MalformedField}
use Rattle.text.specs.Fields.{fielded, Lacks, Short, NumberField, StrokeField, Numbered}
use Rattle.text.proofs.Chaining.{fielded_unique, same_number, number_lacks, number_first, stroke_first, past_number, past_stroke, front_number, front_stroke}
use Rattle.answers.specs.declared.lines.EventLine.{EventLine}
use Rattle.answers.specs.declared.lines.EventLine.TheVariants.{Strike, Prune, Quote}
use Rattle.answers.specs.declared.words.Word.{Word}
use Rattle.answers.specs.declared.words.Word.TheVariants as word
use Rattle.answers.specs.Words.{Begins}
use Rattle.answers.specs.Notations.{Notation, WritesLimit}
use Rattle.answers.specs.Lines.{StrikeFields, RestStates, States, LineRead, OneReading}
use Rattle.answers.proofs.Wording.{begins_once}

-- the fields of a strike: no place, a place and no stroke, more than both, or just both
pub no_place : {rest : List ℕ} → ((n : ℕ) (more : List ℕ) → NumberField rest n more → ⊥) → (place stroke : ℕ) → StrikeFields rest place stroke → ⊥
no_place none place stroke f = none place _ (number_first place ((stroke ∷ []) ∷ []) f.short f.whole)

pub no_stroke : {rest : List ℕ} {n : ℕ} {more : List ℕ} → NumberField rest n more → ((s : ℕ) (others : List ℕ) → StrokeField more s others → ⊥) → (place stroke : ℕ) → StrikeFields rest place stroke → ⊥
no_stroke t none place stroke f = none stroke _ (stroke_first stroke [] f.is_stroke (past_number t place ((stroke ∷ []) ∷ []) f.short f.whole))

pub more_fields : {rest : List ℕ} {n : ℕ} {more : List ℕ} {s : ℕ} {last : List ℕ} → NumberField rest n more → StrokeField more s last → (length last ≡ 0 → ⊥) → (place stroke : ℕ) → StrikeFields rest place stroke → ⊥
unfolding fielded
more_fields t u some place stroke f =
    some (sym (ap length (past_stroke u stroke [] f.is_stroke (past_number t place ((stroke ∷ []) ∷ []) f.short f.whole))))

pub both_fields : {rest : List ℕ} {n : ℕ} {more : List ℕ} {s : ℕ} {last : List ℕ} → NumberField rest n more → StrokeField more s last → length last ≡ 0 → StrikeFields rest n s
unfolding fielded
both_fields {s = s} {last} t u e = record {
  whole = front_number ((s ∷ []) ∷ []) t (front_stroke [] u (sym (nil_from_length last e)));
  short = t.short;
  is_stroke = u.stroke;
}

strike_once : {rest : List ℕ} (p s q t : ℕ) → StrikeFields rest p s → StrikeFields rest q t → (p ≡ q) × (s ≡ t)
strike_once p s q t f g =
    let e = fielded_unique _ _ (number_lacks p f.short, (((λ k. omega (arith, f.is_stroke.0)), tt), tt)) (number_lacks q g.short, (((λ k. omega (arith, g.is_stroke.0)), tt), tt)) (f.whole ∙ sym g.whole) in
    let d : decimal p ≡ decimal q = cc in
    let c : s ≡ t = cc in
    (same_number p q f.short g.short d, c)

-- numbers as fields
all_lack : (ns : List ℕ) → AllByRecursion Short ns → AllByRecursion (Lacks 32) (map decimal ns)
all_lack [] h = tt
all_lack (n ∷ ns) h = (number_lacks n h.0, all_lack ns h.1)

same_numbers : (ns ms : List ℕ) → AllByRecursion Short ns → AllByRecursion Short ms → map decimal ns ≡ map decimal ms → ns ≡ ms
same_numbers [] [] h k e = refl
same_numbers [] (m ∷ ms) h k e = cc
same_numbers (n ∷ ns) [] h k e = cc
same_numbers (n ∷ ns) (m ∷ ms) h k e =
    let d : decimal n ≡ decimal m = cc in
    let r : map decimal ns ≡ map decimal ms = cc in
    let one = same_number n m h.0 k.0 d in
    let more = same_numbers ns ms h.1 k.1 r in
    λ i. one i ∷ more i

numbered_once : {count : ℕ} {rest : List ℕ} (ns ms : List ℕ) → Numbered count rest ns → Numbered count rest ms → ns ≡ ms
numbered_once ns ms f g =
    same_numbers ns ms f.short g.short (fielded_unique _ _ (all_lack ns f.short) (all_lack ms g.short) (f.whole ∙ sym g.whole))

module _ {S : Type 0} (notation : Notation S) where
  -- what follows the word of a prune or a quote, and writes no limit
  pub no_prune : {rest : List ℕ} → ((limit : S) → WritesLimit notation rest limit → ⊥) → (said : EventLine S) → RestStates notation word.Prune rest said → ⊥
  no_prune none said h = none h.0 h.1

  pub no_quote : {rest : List ℕ} → ((limit : S) → WritesLimit notation rest limit → ⊥) → (said : EventLine S) → RestStates notation word.Quote rest said → ⊥
  no_quote none said h = none h.0 h.1

  writes_once : {rest : List ℕ} (a b : S) → WritesLimit notation rest a → WritesLimit notation rest b → a ≡ b
  writes_once a b f g = f.means ∙ ap notation.limit (numbered_once f.numbers g.numbers f.fields g.fields) ∙ sym g.means

  rest_once : (w : Word) (rest : List ℕ) (one two : EventLine S) → RestStates notation w rest one → RestStates notation w rest two → one ≡ two
  rest_once word.Strike rest one two f g = let e = strike_once f.0 f.1 g.0 g.1 f.2 g.2 in f.3 ∙ (λ i. Strike (e.0 i) (e.1 i)) ∙ sym g.3
  rest_once word.Mark rest one two f g = f.1 ∙ sym g.1
  rest_once word.Keep rest one two f g = f.1 ∙ sym g.1
  rest_once word.Back rest one two f g = f.1 ∙ sym g.1
  rest_once word.Prune rest one two f g = f.2 ∙ ap Prune (writes_once f.0 g.0 f.1 g.1) ∙ sym g.2
  rest_once word.Quote rest one two f g = f.2 ∙ ap Quote (writes_once f.0 g.0 f.1 g.1) ∙ sym g.2

  stated_once : (line : List ℕ) (one two : EventLine S) → States notation line one → States notation line two → one ≡ two
  stated_once line one two s t =
      let e = begins_once s.begins t.begins in
      rest_once t.word t.rest one two (subst (λ w. RestStates notation w t.rest one) e.0 (subst (λ r. RestStates notation s.word r one) e.1 s.stated)) t.stated

  -- what is stated is not refused
  not_refused : {A : Type 0} (line : List ℕ) (said : EventLine S) (r : Refusal) → States notation line said → LineRead notation line (Err r) → A
  not_refused line said r s h =
      absurd (⊎_elim
      (λ (x : ((w : Word) (rest : List ℕ) → Begins line w rest → ⊥) × (r ≡ UnknownLine)). x.0 s.word s.rest s.begins)
      (λ (x : (w : Word) × (rest : List ℕ) × Begins line w rest × ((said : EventLine S) → RestStates notation w rest said → ⊥) × (r ≡ MalformedField)).
      let e = begins_once s.begins x.2 in
      x.3 said (subst (λ w. RestStates notation w x.1 said) e.0 (subst (λ rest. RestStates notation s.word rest said) e.1 s.stated)))
      h)

  refused_once : (line : List ℕ) (r q : Refusal) → LineRead notation line (Err r) → LineRead notation line (Err q) → r ≡ q
  refused_once line r q h k =
      ⊎_elim
      (λ (x : ((w : Word) (rest : List ℕ) → Begins line w rest → ⊥) × (r ≡ UnknownLine)).
      ⊎_elim
      (λ (y : ((w : Word) (rest : List ℕ) → Begins line w rest → ⊥) × (q ≡ UnknownLine)). x.1 ∙ sym y.1)
      (λ (y : (w : Word) × (rest : List ℕ) × Begins line w rest × ((said : EventLine S) → RestStates notation w rest said → ⊥) × (q ≡ MalformedField)). absurd (x.0 y.0 y.1 y.2))
      k)
      (λ (x : (w : Word) × (rest : List ℕ) × Begins line w rest × ((said : EventLine S) → RestStates notation w rest said → ⊥) × (r ≡ MalformedField)).
      ⊎_elim
      (λ (y : ((w : Word) (rest : List ℕ) → Begins line w rest → ⊥) × (q ≡ UnknownLine)). absurd (y.0 x.0 x.1 x.2))
      (λ (y : (w : Word) × (rest : List ℕ) × Begins line w rest × ((said : EventLine S) → RestStates notation w rest said → ⊥) × (q ≡ MalformedField)). x.4 ∙ sym y.4)
      k)
      h

  pub one_reading : OneReading notation
  one_reading line (Ok a) (Ok b) h k = ap Ok (stated_once line a b h k)
  one_reading line (Ok a) (Err r) h k = not_refused line a r h k
  one_reading line (Err r) (Ok b) h k = not_refused line b r k h
  one_reading line (Err r) (Err q) h k = ap Err (refused_once line r q h k)
