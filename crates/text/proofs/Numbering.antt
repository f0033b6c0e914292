-- The lines of a text by their numbers: what follows the first lines is one text only. Assumes nothing.
use Rattle.std.proofs.Common.{◌≡◌, ℕ, zero, suc, ◌+◌, ◌<◌, List, length, sym, refl, ap, ◌∙◌, subst, arith}
use Rattle.text.specs.Fields.{Lacks}
use Rattle.text.specs.Lines.{Starts, After, FirstLine, LineAt}
use Rattle.text.proofs.Cutting.{span_unique, starts_unique, starts_has}

after_next : (n : ℕ) (text rest line next : List ℕ) → After n text rest → Starts rest line next → After (suc n) text next
after_next zero text rest line next h s = (line, next, subst (λ t. Starts t line next) (sym h) s, refl)
after_next (suc n) text rest line next h s = (h.0, h.1, h.2, after_next n h.1 rest line next h.3 s)

-- one line more
pub after_more : (n m : ℕ) (text rest line next : List ℕ) → m ≡ suc n → After n text rest → Starts rest line next → After m text next
after_more n m text rest line next e h s = subst (λ k. After k text next) (sym e) (after_next n text rest line next h s)

-- where the lines end before that number
after_past : (n m : ℕ) (text rest other : List ℕ) → After n text rest → Lacks 10 rest → n < m → After m text other → ⊥
after_past n zero text rest other h l lt g = omega arith
after_past zero (suc m) text rest other h l lt g = starts_has g.2 (subst (Lacks 10) (sym h) l)
after_past (suc n) (suc m) text rest other h l lt g =
    after_past n m g.1 rest other (subst (λ t. After n t rest) (starts_unique h.2 g.2).1 h.3) l (omega arith) g.3

pub after_unique : (n : ℕ) (text rest other : List ℕ) → After n text rest → After n text other → rest ≡ other
after_unique zero text rest other h g = sym h ∙ g
after_unique (suc n) text rest other h g = after_unique n g.1 rest other (subst (λ t. After n t rest) (starts_unique h.2 g.2).1 h.3) g.3

-- no line of a number past the last
pub line_past : (n number : ℕ) (text rest : List ℕ) → After n text rest → Lacks 10 rest → n + 1 < number → (line : List ℕ) → LineAt text number line → ⊥
line_past n zero text rest h l lt line k = k
line_past n (suc m) text rest h l lt line k = after_past n m text rest k.0 h l (omega arith) k.1

-- nor of one just past it
pub line_none : (n number : ℕ) (text rest : List ℕ) → After n text rest → length rest ≡ 0 → number ≡ n + 1 → (line : List ℕ) → LineAt text number line → ⊥
line_none n zero text rest h e q line k = k
line_none n (suc m) text rest h e q line k =
    let same : m ≡ n = omega arith in
    let one : rest ≡ k.0 = after_unique n text rest k.0 h (subst (λ i. After i text k.0) same k.1) in
    omega (arith, k.2.some, ap length one)

-- a number names one line
first_line_unique : {bs a b : List ℕ} → FirstLine bs a → FirstLine bs b → a ≡ b
first_line_unique {a = a} {b = b} f g = (span_unique 10 a f.tail b g.tail f.apart g.apart f.ended g.ended (f.whole ∙ sym g.whole)).0

pub line_unique : (number : ℕ) (text line other : List ℕ) → LineAt text number line → LineAt text number other → line ≡ other
line_unique zero text line other h k = absurd h
line_unique (suc n) text line other h k = first_line_unique (subst (λ rest. FirstLine rest line) (after_unique n text h.0 k.0 h.1 k.1) h.2) k.2
