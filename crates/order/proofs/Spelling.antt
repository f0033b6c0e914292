-- What a line of an order can state, by its letter. Assumes nothing.
use Rattle.std.proofs.Common.{◌≡◌, ℕ, List, [], ◌∷◌, ◌++◌, length, sym, refl, ap, ◌∙◌, subst, ⊎_elim, arith}
use Rattle.std.proofs.lemmas.List.{nil_from_length}
use Rattle.text.specs.declared.kinds.Kind.{Kind}
use Rattle.text.specs.declared.kinds.Kind.TheVariants as kind
use Rattle.text.specs.Kinds.{letter_of}
use Rattle.text.specs.Fields.{fielded, Field, Numbered}
use Rattle.text.specs.Reading.{OneOf}
use Rattle.text.proofs.Letters.{clash}
use Rattle.text.proofs.Cutting.{field_unique}
use Rattle.order.specs.declared.limits.Limit.TheVariants.{Time, Grade, Both}
use Rattle.order.specs.Letters.{Letters}
use Rattle.order.specs.Statements.{Said, limit, place, States, order_form}
use Rattle.order.proofs.Plain.{letters_lack, limit_letter}

-- each letter of an order's lines is that of a kind
pub order_letters : (b : ℕ) → OneOf order_form.letters b → (k : Kind) × (letter_of k ≡ b)
order_letters b h = ⊎_elim (λ e. (kind.TimeLimit, sym e)) (⊎_elim (λ e. (kind.GradeLimit, sym e)) (⊎_elim (λ e. (kind.BothLimit, sym e)) (⊎_elim (λ e. (kind.Place, sym e)) (λ f. absurd f)))) h

-- a line by its letter: what it can state
pub no_time : (rest : List ℕ) → ((ns : List ℕ) → Numbered 1 rest ns → ⊥) → (said : Said) → States (116 ∷ rest) said → ⊥
no_time rest none (limit (Time t)) s = let e = s.text in none (t ∷ []) (record { count = refl; whole = cc; short = (s.spelled, tt) })
no_time rest none (limit (Grade g)) s = clash 103 116 (omega arith) s.text refl
no_time rest none (limit (Both t g)) s = clash 98 116 (omega arith) s.text refl
no_time rest none (place ls) s = clash 111 116 (omega arith) s.text refl

pub no_grade : (rest : List ℕ) → ((ns : List ℕ) → Numbered 1 rest ns → ⊥) → (said : Said) → States (103 ∷ rest) said → ⊥
no_grade rest none (limit (Time t)) s = clash 116 103 (omega arith) s.text refl
no_grade rest none (limit (Grade g)) s = let e = s.text in none (g ∷ []) (record { count = refl; whole = cc; short = (s.spelled, tt) })
no_grade rest none (limit (Both t g)) s = clash 98 103 (omega arith) s.text refl
no_grade rest none (place ls) s = clash 111 103 (omega arith) s.text refl

pub no_both : (rest : List ℕ) → ((ns : List ℕ) → Numbered 2 rest ns → ⊥) → (said : Said) → States (98 ∷ rest) said → ⊥
no_both rest none (limit (Time t)) s = clash 116 98 (omega arith) s.text refl
no_both rest none (limit (Grade g)) s = clash 103 98 (omega arith) s.text refl
no_both rest none (limit (Both t g)) s = let e = s.text in none (t ∷ g ∷ []) (record { count = refl; whole = cc; short = (s.spelled.0, (s.spelled.1, tt)) })
no_both rest none (place ls) s = clash 111 98 (omega arith) s.text refl

-- a place's line has one field, its letters
place_field : {rest : List ℕ} (ls : List ℕ) → Letters ls → 111 ∷ fielded (ls ∷ []) ≡ 111 ∷ rest → Field rest ls []
unfolding fielded
place_field ls h e = record { whole = cc; apart = letters_lack ls h; ended = tt }

pub no_place : (rest : List ℕ) → ((ls : List ℕ) → Field rest ls [] → Letters ls → ⊥) → (said : Said) → States (111 ∷ rest) said → ⊥
no_place rest none (limit l) s = limit_letter l s.text refl
no_place rest none (place ls) s = none ls (place_field ls s.spelled s.text) s.spelled

-- no field, more than one, or one that is no letters
pub no_field : {rest : List ℕ} → ((x : List ℕ) → 32 ∷ x ≡ rest → ⊥) → (ls : List ℕ) → Field rest ls [] → Letters ls → ⊥
no_field none ls f h = none _ f.whole

pub more_fields : {rest word more : List ℕ} → Field rest word more → (length more ≡ 0 → ⊥) → (ls : List ℕ) → Field rest ls [] → Letters ls → ⊥
more_fields g some ls f h = some (ap length (field_unique g f).1)

pub no_letters : {rest word more : List ℕ} → Field rest word more → (Letters word → ⊥) → (ls : List ℕ) → Field rest ls [] → Letters ls → ⊥
no_letters g none ls f h = none (subst Letters (sym (field_unique g f).0) h)

pub is_place : {rest word more : List ℕ} → Field rest word more → length more ≡ 0 → Letters word → States (111 ∷ rest) (place word)
unfolding fielded
is_place {rest} {word} {more} f e h = record {
  text = ap (λ l. 111 ∷ 32 ∷ (word ++ l)) (sym (nil_from_length more e)) ∙ ap (λ l. 111 ∷ l) f.whole;
  spelled = h;
}
