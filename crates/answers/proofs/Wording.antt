-- A line begins with one word at the most: its first word, up to a space, and that names one event. Assumes nothing.
use Rattle.std.proofs.Common.{◌≡◌, ℕ, ◌==◌, true, if◌then◌else◌, List, [], ◌∷◌, codes, nat_lt, refl, sym, ap, ◌∙◌, arith}
use Rattle.std.specs.List.{list_all}
use Rattle.std.proofs.lemmas.Bool.Decides.{nat_tests}
use Rattle.text.specs.Fields.{Lacks}
use Rattle.text.proofs.Cutting.{span_unique}
use Rattle.answers.specs.declared.words.Word.{Word}
use Rattle.answers.specs.declared.words.Word.TheVariants.{Strike, Mark, Keep, Back, Prune, Quote}
use Rattle.answers.specs.Words.{word_text, FirstWord, Begins}

-- letters above a space lack it
letters_lack : (bs : List ℕ) → list_all (nat_lt 32) bs ≡ true → Lacks 32 bs
letters_lack [] h = tt
letters_lack (b ∷ bs) h = ((λ e. grind (arith, nat_tests)), letters_lack bs (grind (arith, nat_tests)))

words_lack : (w : Word) → Lacks 32 (word_text w)
words_lack Strike = letters_lack (codes "strike") refl
words_lack Mark = letters_lack (codes "mark") refl
words_lack Keep = letters_lack (codes "keep") refl
words_lack Back = letters_lack (codes "back") refl
words_lack Prune = letters_lack (codes "prune") refl
words_lack Quote = letters_lack (codes "quote") refl

-- the word of that first letter: no two begin with the same
abbrev by_letter : List ℕ → Word
by_letter [] = Strike
by_letter (c ∷ cs) =
    if c == 109 then Mark else (if c == 107 then Keep else (if c == 98 then Back else (if c == 112 then Prune else (if c == 113 then Quote else Strike))))

lettered : (w : Word) → by_letter (word_text w) ≡ w
lettered Strike = refl
lettered Mark = refl
lettered Keep = refl
lettered Back = refl
lettered Prune = refl
lettered Quote = refl

word_once : (w v : Word) → word_text w ≡ word_text v → w ≡ v
word_once w v e = sym (lettered w) ∙ ap by_letter e ∙ lettered v

-- the first word of a line
pub first_once : {line word rest : List ℕ} {w : Word} {more : List ℕ} → FirstWord line word rest → Begins line w more → (word_text w ≡ word) × (more ≡ rest)
first_once {word = word} {rest} {w} {more} f b = span_unique 32 (word_text w) more word rest (words_lack w) f.apart b.ended f.ended (b.whole ∙ sym f.whole)

pub begins_once : {line : List ℕ} {w v : Word} {rest more : List ℕ} → Begins line w rest → Begins line v more → (w ≡ v) × (rest ≡ more)
begins_once {w = w} {v} {rest} {more} b c =
    let h = first_once (record { whole = c.whole; apart = words_lack v; ended = c.ended }) b in
    (word_once w v h.0, h.1)

-- a first word that names no event
pub no_word : {line word rest : List ℕ} → FirstWord line word rest → ((w : Word) → word_text w ≡ word → ⊥) → (w : Word) (more : List ℕ) → Begins line w more → ⊥
no_word f none w more b = none w (first_once f b).0
