-- Where a text is cut: before the first byte of a kind, and so in one way only. Assumes nothing.
use Rattle.std.proofs.Common.{◌≡◌, ℕ, ◌<◌, List, [], ◌∷◌, ◌++◌, length, decimal, sym, refl, ap, ◌∙◌, subst, arith, length-append}
use Rattle.std.proofs.ByRecursion.{All-from_get_or}
use Rattle.std.proofs.lemmas.Fmt.{decimal_injective}
use Rattle.text.specs.Fields.{Lacks, Field, Ended, NumberField, StrokeField, Stroke, Writes}
use Rattle.text.specs.Lines.{Starts}
use Rattle.text.proofs.Numerals.{writes_digit}

-- a text that lacks m, and what follows it
pub span_unique : (m : ℕ) (a z b y : List ℕ) → Lacks m a → Lacks m b → Ended m z → Ended m y → a ++ z ≡ b ++ y → (a ≡ b) × (z ≡ y)
span_unique m [] z [] y la lb ez ey e = (refl, e)
span_unique m [] [] (b ∷ bs) y la lb ez ey e = let n : ◌≡◌ {A = ℕ} 0 1 = cc in absurd (omega arith)
span_unique m [] (c ∷ z) (b ∷ bs) y la lb ez ey e = absurd (lb.0 (cc))
span_unique m (a ∷ rs) z [] [] la lb ez ey e = let n : ◌≡◌ {A = ℕ} 0 1 = cc in absurd (omega arith)
span_unique m (a ∷ rs) z [] (c ∷ y) la lb ez ey e = absurd (la.0 (cc))
span_unique m (a ∷ rs) z (b ∷ bs) y la lb ez ey e =
    let rest : rs ++ z ≡ bs ++ y = cc in
    let h = span_unique m rs z bs y la.1 lb.1 ez ey rest in
    let first : a ≡ b = cc in
    ((λ i. first i ∷ h.0 i), h.1)

pub field_unique : {rest a z b y : List ℕ} → Field rest a z → Field rest b y → (a ≡ b) × (z ≡ y)
field_unique {rest} {a} {z} {b} {y} f g =
    let p = f.whole in
    let q = g.whole in
    let e : a ++ z ≡ b ++ y = cc in
    span_unique 32 a z b y f.apart g.apart f.ended g.ended e

pub decimal_lacks : (m n : ℕ) → m < 48 → n < 1000000 → Lacks m (decimal n)
decimal_lacks m n low h = All-from_get_or _ (decimal n) 0 (λ i k e. omega (arith, writes_digit (decimal n) n (refl, h) i k))

pub number_field : {rest : List ℕ} {n : ℕ} {more : List ℕ} → NumberField rest n more → Field rest (decimal n) more
number_field {rest} {n} t = record { whole = t.whole; apart = decimal_lacks 32 n (omega arith) t.short; ended = t.ended }

pub number_unique : {rest : List ℕ} {n : ℕ} {more : List ℕ} {m : ℕ} {others : List ℕ} → NumberField rest n more → NumberField rest m others → (n ≡ m) × (more ≡ others)
number_unique {rest} {n} {more} {m} t u =
    let s = field_unique (number_field t) (number_field u) in
    (decimal_injective n m (omega arith) (omega arith) s.0, s.1)

pub stroke_field : {rest : List ℕ} {s : ℕ} {more : List ℕ} → StrokeField rest s more → Field rest (s ∷ []) more
stroke_field t = record { whole = t.whole; apart = (λ e. omega (arith, t.stroke.0), tt); ended = t.ended }

pub stroke_unique : {rest : List ℕ} {s : ℕ} {more : List ℕ} {r : ℕ} {others : List ℕ} → StrokeField rest s more → StrokeField rest r others → (s ≡ r) × (more ≡ others)
stroke_unique {s = s} {r = r} t u =
    let h = field_unique (stroke_field t) (stroke_field u) in
    let e = h.0 in
    let same : s ≡ r = cc in
    (same, h.1)

-- a field that writes no number
pub no_number : {rest word more : List ℕ} → Field rest word more → ((n : ℕ) → Writes word n → ⊥) → (n : ℕ) (others : List ℕ) → NumberField rest n others → ⊥
no_number f none n others t = none n ((field_unique (number_field t) f).0, t.short)

pub no_stroke : {rest word more : List ℕ} → Field rest word more → ((s : ℕ) → s ∷ [] ≡ word → Stroke s → ⊥) → (s : ℕ) (others : List ℕ) → StrokeField rest s others → ⊥
no_stroke f none s others t = none s (field_unique (stroke_field t) f).0 t.stroke

pub starts_shorter : {bs line after : List ℕ} → Starts bs line after → length after < length bs
starts_shorter {bs} {line} {after} s = omega (arith, simp length-append at (ap length s.whole))

pub starts_unique : {bs a z b y : List ℕ} → Starts bs a z → Starts bs b y → (a ≡ b) × (z ≡ y)
starts_unique {bs} {a} {z} {b} {y} s t =
    let h = span_unique 10 a (10 ∷ z) b (10 ∷ y) s.apart t.apart refl refl (s.whole ∙ sym t.whole) in
    let e = h.1 in
    let f : z ≡ y = cc in
    (h.0, f)

has_mark : (m : ℕ) (a z : List ℕ) → Lacks m (a ++ m ∷ z) → ⊥
has_mark m [] z l = l.0 refl
has_mark m (b ∷ a) z l = has_mark m a z l.1

-- a text that a byte 10 ends does not lack it
pub starts_has : {bs line after : List ℕ} → Starts bs line after → Lacks 10 bs → ⊥
starts_has {bs} {line} {after} s l = has_mark 10 line after (subst (Lacks 10) (sym s.whole) l)
