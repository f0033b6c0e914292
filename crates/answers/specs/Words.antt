-- The words that the lines of events begin with. Assumes nothing.
use Rattle.std.specs.Prelude.{◌≡◌, ℕ, List, ◌++◌, codes}
use Rattle.text.specs.Fields.{Lacks, Ended}
use Rattle.answers.specs.declared.words.Word.{Word}
use Rattle.answers.specs.declared.words.Word.TheVariants.{Strike, Mark, Keep, Back, Prune, Quote}

-- each word as it is written
abbrev pub word_text : Word → List ℕ
word_text Strike = codes "strike"
word_text Mark = codes "mark"
word_text Keep = codes "keep"
word_text Back = codes "back"
word_text Prune = codes "prune"
word_text Quote = codes "quote"

-- the line is its first word and rest, which is nothing or goes on with a space
pub record FirstWord (line word rest : List ℕ) : Type 0 where
  pub whole : word ++ rest ≡ line
  pub apart : Lacks 32 word
  pub ended : Ended 32 rest

-- the line begins with that word, and rest follows it
pub record Begins (line : List ℕ) (w : Word) (rest : List ℕ) : Type 0 where
  pub whole : word_text w ++ rest ≡ line
  pub ended : Ended 32 rest
