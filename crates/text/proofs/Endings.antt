-- A text is read in one way only: the first line, what it states and the first test that fails are each one. Assumes nothing.
use Rattle.std.proofs.Common.{◌≡◌, ℕ, ◌<◌, List, [], ◌∷◌, ◌++◌, length, Some, None, Option, sym, refl, ap, ◌∙◌, subst, ⊎_elim, arith}
use Rattle.refusal.specs.declared.Refusal.{Refusal}
use Rattle.refusal.specs.declared.Refusal.TheVariants.{TextTooLong, UnknownLine, MalformedField}
use Rattle.text.specs.Fields.{Lacks}
use Rattle.text.specs.Lines.{Starts}
use Rattle.text.specs.Reading.{Test, Passes, Fails, Form, Known, Leads, Reads, Listed, LineRefused, Refused, RefusedAt, Ending, stated, refused, Ends}
use Rattle.text.proofs.Cutting.{starts_unique, starts_has, starts_shorter}

-- a line states one thing at the most, and then its first letter is one of the form's
pub record Plain {Said Sum : Type 0} (form : Form Said Sum) : Type 0 where
  pub once : (line : List ℕ) (one two : Said) → form.states line one → form.states line two → one ≡ two
  pub known : (line : List ℕ) (said : Said) → form.states line said → Known form.letters line

-- a text is read in one way only
abbrev pub OneEnding : {Said Sum : Type 0} → Form Said Sum → Type 0
OneEnding {Sum = Sum} form = (text : List ℕ) (one two : Ending Sum) → Ends form text one → Ends form text two → one ≡ two

pub fails_unique : (ts : List Test) (r q : Refusal) → Fails ts r → Fails ts q → r ≡ q
fails_unique [] r q f g = absurd f
fails_unique (t ∷ ts) r q f g =
    ⊎_elim
    (λ (x : (t.holds → ⊥) × (t.refusal ≡ r)). ⊎_elim (λ (y : (t.holds → ⊥) × (t.refusal ≡ q)). sym x.1 ∙ y.1) (λ (y : t.holds × Fails ts q). absurd (x.0 y.0)) g)
    (λ (x : t.holds × Fails ts r). ⊎_elim (λ (y : (t.holds → ⊥) × (t.refusal ≡ q)). absurd (y.0 x.0)) (λ (y : t.holds × Fails ts q). fails_unique ts r q x.1 y.1) g)
    f

pub passes_fails : (ts : List Test) (r : Refusal) → Passes ts → Fails ts r → ⊥
passes_fails [] r p f = f
passes_fails (t ∷ ts) r p f = ⊎_elim (λ (x : (t.holds → ⊥) × (t.refusal ≡ r)). x.0 p.0) (λ (x : t.holds × Fails ts r). passes_fails ts r p.1 x.1) f

-- no ending is both
pub apart : {Sum : Type 0} (sum : Sum) (r : Refusal) (n : ℕ) → stated sum ≡ refused r n → ⊥
apart sum r n e = let z : ◌≡◌ {A = ℕ} 0 1 = cc in omega arith

module _ {Said Sum : Type 0} (form : Form Said Sum) where
  -- one line more
  pub reads_more : (before : List Said) (sum : Sum) (bs : List ℕ) (whole : Sum) (rest : List ℕ) (said : Said) (after : List ℕ) → Reads form before sum bs whole rest → Leads form whole rest said after → Reads form (before ++ said ∷ []) sum bs (form.adds whole said) after
  reads_more [] sum bs whole rest said after h l =
      (after, subst (λ s. Leads form s bs said after) (sym h.0) (subst (λ b. Leads form whole b said after) (sym h.1) l), (ap (λ s. form.adds s said) h.0, refl))
  reads_more (one ∷ before) sum bs whole rest said after h l = (h.0, h.1, reads_more before _ _ whole rest said after h.2 l)

  module _ (plain : Plain form) where
    -- a line that states something is neither of no known kind nor malformed
    stated_refused : (sum : Sum) (line : List ℕ) (said : Said) (r : Refusal) → form.states line said → LineRefused form sum line r → Fails (form.tests sum said) r
    stated_refused sum line said r s f =
        ⊎_elim
        (λ (x : (Known form.letters line → ⊥) × (UnknownLine ≡ r)). absurd (x.0 (plain.known line said s)))
        (⊎_elim
        (λ (x : Known form.letters line × ((other : Said) → form.states line other → ⊥) × (MalformedField ≡ r)). absurd (x.1 said s))
        (λ (x : (other : Said) × form.states line other × Fails (form.tests sum other) r). subst (λ o. Fails (form.tests sum o) r) (plain.once line x.0 said x.1 s) x.2))
        f

    line_unique : (sum : Sum) (line : List ℕ) (r q : Refusal) → LineRefused form sum line r → LineRefused form sum line q → r ≡ q
    line_unique sum line r q f g =
        ⊎_elim
        (λ (x : (Known form.letters line → ⊥) × (UnknownLine ≡ r)).
        ⊎_elim
        (λ (y : (Known form.letters line → ⊥) × (UnknownLine ≡ q)). sym x.1 ∙ y.1)
        (⊎_elim
        (λ (y : Known form.letters line × ((said : Said) → form.states line said → ⊥) × (MalformedField ≡ q)). absurd (x.0 y.0))
        (λ (y : (said : Said) × form.states line said × Fails (form.tests sum said) q). absurd (x.0 (plain.known line y.0 y.1))))
        g)
        (⊎_elim
        (λ (x : Known form.letters line × ((said : Said) → form.states line said → ⊥) × (MalformedField ≡ r)).
        ⊎_elim
        (λ (y : (Known form.letters line → ⊥) × (UnknownLine ≡ q)). absurd (y.0 x.0))
        (⊎_elim
        (λ (y : Known form.letters line × ((said : Said) → form.states line said → ⊥) × (MalformedField ≡ q)). sym x.2 ∙ y.2)
        (λ (y : (said : Said) × form.states line said × Fails (form.tests sum said) q). absurd (x.1 y.0 y.1)))
        g)
        (λ (x : (said : Said) × form.states line said × Fails (form.tests sum said) r). fails_unique (form.tests sum x.0) r q x.2 (stated_refused sum line x.0 q x.1 g)))
        f

    -- the three ways in which what is left is refused, told apart
    no_line : {bs line after : List ℕ} → Starts bs line after → bs ≡ [] → ⊥
    no_line s e = omega (arith, starts_shorter s, ap length e)

    refused_start : (sum : Sum) (bs line after : List ℕ) (r : Refusal) → Starts bs line after → Refused form sum bs r → LineRefused form sum line r
    refused_start sum bs line after r s f =
        ⊎_elim
        (λ (x : ((0 < length bs) × Lacks 10 bs) × (UnknownLine ≡ r)). absurd (starts_has s x.0.1))
        (⊎_elim
        (λ (x : (other : List ℕ) × (next : List ℕ) × Starts bs other next × LineRefused form sum other r). subst (λ l. LineRefused form sum l r) (starts_unique x.2 s).0 x.3)
        (λ (x : (bs ≡ []) × Fails (form.last_tests sum) r). absurd (no_line s x.0)))
        f

    refused_end : (sum : Sum) (bs : List ℕ) (r : Refusal) → bs ≡ [] → Refused form sum bs r → Fails (form.last_tests sum) r
    refused_end sum bs r e f =
        ⊎_elim
        (λ (x : ((0 < length bs) × Lacks 10 bs) × (UnknownLine ≡ r)). absurd (omega (arith, x.0.0, ap length e)))
        (⊎_elim
        (λ (x : (other : List ℕ) × (next : List ℕ) × Starts bs other next × LineRefused form sum other r). absurd (no_line x.2 e))
        (λ (x : (bs ≡ []) × Fails (form.last_tests sum) r). x.1))
        f

    refused_unended : (sum : Sum) (bs : List ℕ) (r : Refusal) → 0 < length bs → Lacks 10 bs → Refused form sum bs r → UnknownLine ≡ r
    refused_unended sum bs r some l f =
        ⊎_elim
        (λ (x : ((0 < length bs) × Lacks 10 bs) × (UnknownLine ≡ r)). x.1)
        (⊎_elim
        (λ (x : (other : List ℕ) × (next : List ℕ) × Starts bs other next × LineRefused form sum other r). absurd (starts_has x.2 l))
        (λ (x : (bs ≡ []) × Fails (form.last_tests sum) r). absurd (omega (arith, ap length x.0))))
        f

    refused_unique : (sum : Sum) (bs : List ℕ) (r q : Refusal) → Refused form sum bs r → Refused form sum bs q → r ≡ q
    refused_unique sum bs r q f g =
        ⊎_elim
        (λ (x : ((0 < length bs) × Lacks 10 bs) × (UnknownLine ≡ r)). sym x.1 ∙ refused_unended sum bs q x.0.0 x.0.1 g)
        (⊎_elim
        (λ (x : (line : List ℕ) × (after : List ℕ) × Starts bs line after × LineRefused form sum line r). line_unique sum x.0 r q x.3 (refused_start sum bs x.0 x.1 q x.2 g))
        (λ (x : (bs ≡ []) × Fails (form.last_tests sum) r). fails_unique (form.last_tests sum) r q x.1 (refused_end sum bs q x.0 g)))
        f

    leads_refused : (sum : Sum) (bs : List ℕ) (said : Said) (after : List ℕ) (r : Refusal) → Leads form sum bs said after → Refused form sum bs r → ⊥
    leads_refused sum bs said after r l f = passes_fails (form.tests sum said) r l.passed (stated_refused sum l.line said r l.stated (refused_start sum bs l.line after r l.starts f))

    -- lines state one thing
    pub listed_unique : (ls ms : List Said) (text : List ℕ) → Listed form ls text → Listed form ms text → ls ≡ ms
    listed_unique [] [] text h g = refl
    listed_unique [] (m ∷ ms) text h g = absurd (no_line g.2 h)
    listed_unique (l ∷ ls) [] text h g = absurd (no_line h.2 g)
    listed_unique (l ∷ ls) (m ∷ ms) text h g =
        let e = starts_unique h.2 g.2 in
        let same : l ≡ m = plain.once g.0 l m (subst (λ z. form.states z l) e.0 h.3) g.3 in
        let more = listed_unique ls ms g.1 (subst (Listed form ls) e.1 h.4) g.4 in
        (λ i. same i ∷ more i)

    -- a reading stops: at the end with nothing refused, or with a refusal
    abbrev Stops : Option Refusal → Sum → List ℕ → Type 0
    Stops None sum bs = (bs ≡ []) × Passes (form.last_tests sum)
    Stops (Some r) sum bs = Refused form sum bs r

    stops_leads : (x : Option Refusal) (sum : Sum) (bs : List ℕ) (said : Said) (after : List ℕ) → Stops x sum bs → Leads form sum bs said after → ⊥
    stops_leads None sum bs said after s l = no_line l.starts s.0
    stops_leads (Some r) sum bs said after s l = leads_refused sum bs said after r l s

    stops_unique : (x y : Option Refusal) (sum : Sum) (bs : List ℕ) → Stops x sum bs → Stops y sum bs → x ≡ y
    stops_unique None None sum bs s t = refl
    stops_unique None (Some r) sum bs s t = absurd (passes_fails (form.last_tests sum) r s.1 (refused_end sum bs r s.0 t))
    stops_unique (Some r) None sum bs s t = absurd (passes_fails (form.last_tests sum) r t.1 (refused_end sum bs r t.0 s))
    stops_unique (Some r) (Some q) sum bs s t = ap Some (refused_unique sum bs r q s t)

    record Met (before others : List Said) (one two : Sum) (x y : Option Refusal) : Type 0 where
      count : length before ≡ length others
      sums : one ≡ two
      stop : x ≡ y

    stops_at : {sum one : Sum} {bs rest : List ℕ} (x : Option Refusal) → (sum ≡ one) × (bs ≡ rest) → Stops x one rest → Stops x sum bs
    stops_at {sum} {one} {bs} {rest} x e s = subst (λ z. Stops x z bs) (sym e.0) (subst (λ z. Stops x one z) (sym e.1) s)

    -- two readings of a text that both stop
    meet : (before others : List Said) (sum : Sum) (bs : List ℕ) (one two : Sum) (rest left : List ℕ) (x y : Option Refusal) → Reads form before sum bs one rest → Stops x one rest → Reads form others sum bs two left → Stops y two left → Met before others one two x y
    meet [] [] sum bs one two rest left x y h s g t = record { count = refl; sums = sym h.0 ∙ g.0; stop = stops_unique x y sum bs (stops_at x h s) (stops_at y g t) }
    meet [] (m ∷ others) sum bs one two rest left x y h s g t = absurd (stops_leads x sum bs m g.0 (stops_at x h s) g.1)
    meet (l ∷ before) [] sum bs one two rest left x y h s g t = absurd (stops_leads y sum bs l h.0 (stops_at y g t) h.1)
    meet (l ∷ before) (m ∷ others) sum bs one two rest left x y h s g t =
        let e = starts_unique h.1.starts g.1.starts in
        let same : l ≡ m = plain.once g.1.line l m (subst (λ z. form.states z l) e.0 h.1.stated) g.1.stated in
        let h' : Reads form before (form.adds sum m) g.0 one rest = subst (λ z. Reads form before (form.adds sum z) g.0 one rest) same (subst (λ z. Reads form before (form.adds sum l) z one rest) e.1 h.2) in
        let more = meet before others (form.adds sum m) g.0 one two rest left x y h' s g.2 t in
        record { count = omega (arith, more.count); sums = more.sums; stop = more.stop }

    unlike : (r : Refusal) → ◌≡◌ {A = Option Refusal} None (Some r) → ⊥
    unlike r e = let z : ◌≡◌ {A = ℕ} 0 1 = cc in omega arith

    some_same : (r q : Refusal) → ◌≡◌ {A = Option Refusal} (Some r) (Some q) → r ≡ q
    some_same r q e = cc

    accepted_refused : {A : Type 0} (text : List ℕ) (sum : Sum) (r : Refusal) (number : ℕ) → Ends form text (stated sum) → Ends form text (refused r number) → A
    accepted_refused text sum r number a f =
        ⊎_elim
        (λ (x : (8192 < length text) × (TextTooLong ≡ r) × (0 ≡ number)). absurd (omega (arith, x.0, a.reached.short)))
        (λ (x : RefusedAt form text r number). absurd (unlike r (meet a.lines x.before form.blank text sum x.sum [] x.rest None (Some r) a.reached.reads (refl, a.passed) x.reached.reads x.refused).stop))
        f

    pub one_ending : OneEnding form
    one_ending text (stated sum) (stated other) a b =
        ap stated (meet a.lines b.lines form.blank text sum other [] [] None None a.reached.reads (refl, a.passed) b.reached.reads (refl, b.passed)).sums
    one_ending text (stated sum) (refused r number) a b = accepted_refused text sum r number a b
    one_ending text (refused r number) (stated sum) a b = accepted_refused text sum r number b a
    one_ending text (refused r number) (refused q other) a b =
        ⊎_elim
        (λ (x : (8192 < length text) × (TextTooLong ≡ r) × (0 ≡ number)).
        ⊎_elim
        (λ (y : (8192 < length text) × (TextTooLong ≡ q) × (0 ≡ other)). (λ i. refused ((sym x.1 ∙ y.1) i) ((sym x.2 ∙ y.2) i)))
        (λ (y : RefusedAt form text q other). absurd (omega (arith, x.0, y.reached.short)))
        b)
        (λ (x : RefusedAt form text r number).
        ⊎_elim
        (λ (y : (8192 < length text) × (TextTooLong ≡ q) × (0 ≡ other)). absurd (omega (arith, y.0, x.reached.short)))
        (λ (y : RefusedAt form text q other).
        let m = meet x.before y.before form.blank text x.sum y.sum x.rest y.rest (Some r) (Some q) x.reached.reads x.refused y.reached.reads y.refused in
        let e : number ≡ other = omega (arith, x.place, y.place, m.count) in
        (λ i. refused (some_same r q m.stop i) (e i)))
        b)
        a
