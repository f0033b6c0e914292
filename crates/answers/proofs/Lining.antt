-- A text is cut into lines in one way, and the lines so far are those of the text. Assumes nothing.
use Rattle.std.proofs.Common.{◌≡◌, ℕ, zero, suc, ◌+◌, ◌-◌, ◌<◌, List, [], ◌∷◌, length, Result, Ok, Err, inl, inr, ⊎_elim, refl, sym, ap, ◌∙◌, subst, arith}
use Rattle.std.proofs.lemmas.List.{nil_from_length}
use Rattle.refusal.specs.declared.Refusal.{Refusal}
use Rattle.refusal.specs.declared.Refusal.TheVariants.{UnknownLine}
use Rattle.text.specs.Fields.{Lacks}
use Rattle.text.specs.Lines.{Starts}
use Rattle.text.proofs.Cutting.{starts_unique, starts_has, starts_shorter}
use Rattle.answers.specs.declared.lines.EventLine.{EventLine}
use Rattle.answers.specs.Notations.{Notation}
use Rattle.answers.specs.Lines.{LineRead}
use Rattle.answers.specs.Texts.{EventTextLine, event, refused, line_as, FirstLineOf, HasLines, FirstRead, Lined, OneLining}
use Rattle.answers.proofs.Stating.{one_reading}

-- the first line is cut off in one way
abbrev Cut : List ℕ → List ℕ → List ℕ → Type 0
Cut text line after = Starts text line after

abbrev Whole : List ℕ → List ℕ → List ℕ → Type 0
Whole text line after = Lacks 10 text × (line ≡ text) × (after ≡ [])

cut_once : (text a z b y : List ℕ) → FirstLineOf text a z → FirstLineOf text b y → (a ≡ b) × (z ≡ y)
cut_once text a z b y f g =
    ⊎_elim
    (λ (s : Cut text a z). ⊎_elim (λ (t : Cut text b y). starts_unique s t) (λ (t : Whole text b y). absurd (starts_has s t.0)) g)
    (λ (s : Whole text a z). ⊎_elim (λ (t : Cut text b y). absurd (starts_has t s.0)) (λ (t : Whole text b y). (s.1 ∙ sym t.1, s.2 ∙ sym t.2)) g)
    f

-- what follows it is shorter, unless the text is empty
pub cut_shorter : (text line after : List ℕ) → 0 < length text → FirstLineOf text line after → length after < length text
cut_shorter text line after some f =
    ⊎_elim (λ (s : Cut text line after). starts_shorter s) (λ (s : Whole text line after). omega (arith, ap length s.2)) f

-- a text has one number of lines
pub lines_once : (text : List ℕ) (n m : ℕ) → HasLines text n → HasLines text m → n ≡ m
lines_once text zero zero h k = refl
lines_once text zero (suc m) h k = absurd (omega (arith, k.0, ap length h))
lines_once text (suc n) zero h k = absurd (omega (arith, h.0, ap length k))
lines_once text (suc n) (suc m) h k =
    let e = (cut_once text h.1.0 h.1.1 k.1.0 k.1.1 h.1.2 k.1.2).1 in
    ap suc (lines_once k.1.1 n m (subst (λ t. HasLines t n) e h.1.3) k.1.3)

-- a text with a line is not empty
pub lines_some : (text : List ℕ) (n : ℕ) → 0 < n → HasLines text n → 0 < length text
lines_some text zero h k = absurd (omega arith)
lines_some text (suc n) h k = k.0

-- one line more is counted
pub counted_more : (text rest line after : List ℕ) (count : ℕ) → 0 < length rest → FirstLineOf rest line after → ((n : ℕ) → HasLines rest n → HasLines text (count + n)) → (n : ℕ) → HasLines after n → HasLines text (count + 1 + n)
counted_more text rest line after count some cut counted n h =
    let e : count + suc n ≡ count + 1 + n = omega arith in
    subst (HasLines text) e (counted (suc n) (some, (line, after, cut, h)))

-- where none is left, all are counted
pub counted_all : (text rest : List ℕ) (count : ℕ) → length rest ≡ 0 → ((n : ℕ) → HasLines rest n → HasLines text (count + n)) → HasLines text count
counted_all text rest count none counted =
    let all : count + 0 ≡ count = omega arith in
    subst (HasLines text) all (counted 0 (nil_from_length rest none))

module _ {S : Type 0} (notation : Notation S) where
  -- the first line as it is read
  pub line_read : (rest line after : List ℕ) (r : Result (EventLine S) Refusal) → Starts rest line after → LineRead notation line r → FirstRead notation rest (line_as r line) after
  line_read rest line after (Ok said) s h = (line, s, h)
  line_read rest line after (Err r) s h = inl (s, h)

  pub last_read : (rest : List ℕ) → 0 < length rest → Lacks 10 rest → FirstRead notation rest (refused UnknownLine rest) []
  last_read rest some lacks = inr (some, lacks, refl, refl, refl)

  abbrev Ended : List ℕ → List ℕ → Refusal → List ℕ → Type 0
  Ended text bytes r after = Starts text bytes after × LineRead notation bytes (Err r)

  abbrev Last : List ℕ → List ℕ → Refusal → List ℕ → Type 0
  Last text bytes r after = (0 < length text) × Lacks 10 text × (bytes ≡ text) × (after ≡ []) × (r ≡ UnknownLine)

  -- what follows the first line is shorter
  pub first_shorter : (text : List ℕ) (l : EventTextLine S) (after : List ℕ) → FirstRead notation text l after → length after < length text
  first_shorter text (event said) after f = starts_shorter f.1
  first_shorter text (refused r bytes) after f =
      ⊎_elim (λ (x : Ended text bytes r after). starts_shorter x.0) (λ (x : Last text bytes r after). omega (arith, x.0, ap length x.3)) f

  -- the first line is cut off where it is read
  first_cut : (text : List ℕ) (l : EventTextLine S) (after : List ℕ) → FirstRead notation text l after → (line : List ℕ) × FirstLineOf text line after
  first_cut text (event said) after f = (f.0, inl f.1)
  first_cut text (refused r bytes) after f =
      (bytes, ⊎_elim (λ (x : Ended text bytes r after). inl x.0) (λ (x : Last text bytes r after). inr (x.1, x.2, x.3)) f)

  -- so many lines are left after it
  pub lines_left : (text : List ℕ) (l : EventTextLine S) (after : List ℕ) (n : ℕ) → FirstRead notation text l after → HasLines text n → HasLines after (n - 1)
  lines_left text l after zero f h = absurd (omega (arith, first_shorter text l after f, ap length h))
  lines_left text l after (suc n) f h =
      let cut = first_cut text l after f in
      let same : n ≡ suc n - 1 = omega arith in
      subst (HasLines after) same (subst (λ t. HasLines t n) (cut_once text h.1.0 h.1.1 cut.0 after h.1.2 cut.1).1 h.1.3)

  -- a text has as many lines as it is cut into
  pub lines_counted : (text : List ℕ) (lines : List (EventTextLine S)) → Lined notation text lines → HasLines text (length lines)
  lines_counted text [] h = h
  lines_counted text (l ∷ lines) h =
      let cut = first_cut text l h.0 h.1 in
      let shorter = first_shorter text l h.0 h.1 in
      (omega arith, (cut.0, h.0, cut.1, lines_counted h.0 lines h.2))

  -- an event and a refusal are not read from the same text
  apart : {A : Type 0} (text : List ℕ) (said : EventLine S) (r : Refusal) (bytes after other : List ℕ) → FirstRead notation text (event said) after → FirstRead notation text (refused r bytes) other → A
  apart text said r bytes after other f g =
      absurd (⊎_elim
      (λ (x : Ended text bytes r other).
      let e = one_reading notation f.0 (Ok said) (Err r) f.2 (subst (λ line. LineRead notation line (Err r)) (sym (starts_unique f.1 x.0).0) x.1) in
      cc)
      (λ (x : Last text bytes r other). starts_has f.1 x.1)
      g)

  refused_once : (text : List ℕ) (r q : Refusal) (b c after other : List ℕ) → FirstRead notation text (refused r b) after → FirstRead notation text (refused q c) other → (◌≡◌ {A = EventTextLine S} (refused r b) (refused q c)) × (after ≡ other)
  refused_once text r q b c after other f g =
      ⊎_elim
      (λ (x : Ended text b r after).
      ⊎_elim
      (λ (y : Ended text c q other).
      let s = starts_unique x.0 y.0 in
      let e = one_reading notation c (Err r) (Err q) (subst (λ line. LineRead notation line (Err r)) s.0 x.1) y.1 in
      let same : r ≡ q = cc in
      ((λ i. refused (same i) (s.0 i)), s.1))
      (λ (y : Last text c q other). absurd (starts_has x.0 y.1))
      g)
      (λ (x : Last text b r after).
      ⊎_elim
      (λ (y : Ended text c q other). absurd (starts_has y.0 x.1))
      (λ (y : Last text c q other).
      let same : r ≡ q = x.4 ∙ sym y.4 in
      let bytes : b ≡ c = x.2 ∙ sym y.2 in
      ((λ i. refused (same i) (bytes i)), x.3 ∙ sym y.3))
      g)
      f

  first_once : (text : List ℕ) (one two : EventTextLine S) (after other : List ℕ) → FirstRead notation text one after → FirstRead notation text two other → (one ≡ two) × (after ≡ other)
  first_once text (event a) (event b) after other f g =
      let s = starts_unique f.1 g.1 in
      let e = one_reading notation g.0 (Ok a) (Ok b) (subst (λ line. LineRead notation line (Ok a)) s.0 f.2) g.2 in
      let same : a ≡ b = cc in
      (ap event same, s.1)
  first_once text (event a) (refused r bytes) after other f g = apart text a r bytes after other f g
  first_once text (refused r bytes) (event b) after other f g = apart text b r bytes other after g f
  first_once text (refused r b) (refused q c) after other f g = refused_once text r q b c after other f g

  pub one_lining : OneLining notation
  one_lining text [] [] h k = refl
  one_lining text [] (l ∷ ls) h k = absurd (omega (arith, first_shorter text l k.0 k.1, ap length h))
  one_lining text (l ∷ ls) [] h k = absurd (omega (arith, first_shorter text l h.0 h.1, ap length k))
  one_lining text (l ∷ ls) (m ∷ ms) h k =
      let e = first_once text l m h.0 k.0 h.1 k.1 in
      let more = one_lining k.0 ls ms (subst (λ t. Lined notation t ls) e.1 h.2) k.2 in
      λ i. e.0 i ∷ more i
