-- A line of an order states one thing at the most: its letter tells the kind, and its fields tell the rest. Assumes nothing.
use Rattle.std.proofs.Common.{◌≡◌, ℕ, ◌+◌, ◌<◌, List, [], ◌∷◌, decimal, sym, ap, ◌∙◌, subst, refl, inl, inr, arith}
use Rattle.text.specs.Fields.{fielded, Short, Lacks}
use Rattle.text.specs.Reading.{Known}
use Rattle.text.proofs.Letters.{clash}
use Rattle.text.proofs.Endings.{Plain}
use Rattle.text.proofs.Chaining.{fielded_unique, same_number, number_lacks}
use Rattle.order.specs.declared.limits.Limit.{Limit}
use Rattle.order.specs.declared.limits.Limit.TheVariants.{Time, Grade, Both}
use Rattle.order.specs.Letters.{Rises, Letters}
use Rattle.order.specs.Statements.{Said, limit, place, limit_text, line_text, ShortLimit, States, order_form}

-- letters lack what is below A
pub rises_lack : (m low : ℕ) (ls : List ℕ) → m < low → Rises low ls → Lacks m ls
rises_lack m low [] h r = tt
rises_lack m low (c ∷ cs) h r = ((λ e. omega (arith, r.0)), rises_lack m (c + 1) cs (omega (arith, r.0)) r.2)

pub letters_lack : (ls : List ℕ) → Letters ls → Lacks 32 ls
letters_lack ls h = rises_lack 32 65 ls (omega arith) h.1

-- one number, and two
one_once : (m n : ℕ) → Short m → Short n → fielded (decimal m ∷ []) ≡ fielded (decimal n ∷ []) → m ≡ n
one_once m n h k e =
    let same = fielded_unique _ _ (number_lacks m h, tt) (number_lacks n k, tt) e in
    let d : decimal m ≡ decimal n = cc in
    same_number m n h k d

two_once : (l m a b : ℕ) → Short l → Short m → Short a → Short b → fielded (decimal l ∷ decimal m ∷ []) ≡ fielded (decimal a ∷ decimal b ∷ []) → (l ≡ a) × (m ≡ b)
two_once l m a b hl hm ha hb e =
    let same = fielded_unique _ _ (number_lacks l hl, (number_lacks m hm, tt)) (number_lacks a ha, (number_lacks b hb, tt)) e in
    let d : decimal l ≡ decimal a = cc in
    let f : decimal m ≡ decimal b = cc in
    (same_number l a hl ha d, same_number m b hm hb f)

-- limits with the same text are the same
limit_once : (l m : Limit) → ShortLimit l → ShortLimit m → limit_text l ≡ limit_text m → l ≡ m
limit_once (Time t) (Time u) h k e = ap Time (one_once t u h k (cc))
limit_once (Time t) (Grade g) h k e = clash 116 103 (omega arith) e refl
limit_once (Time t) (Both u g) h k e = clash 116 98 (omega arith) e refl
limit_once (Grade g) (Time t) h k e = clash 103 116 (omega arith) e refl
limit_once (Grade g) (Grade d) h k e = ap Grade (one_once g d h k (cc))
limit_once (Grade g) (Both u d) h k e = clash 103 98 (omega arith) e refl
limit_once (Both t g) (Time u) h k e = clash 98 116 (omega arith) e refl
limit_once (Both t g) (Grade d) h k e = clash 98 103 (omega arith) e refl
limit_once (Both t g) (Both u d) h k e = let s = two_once t g u d h.0 h.1 k.0 k.1 (cc) in (λ i. Both (s.0 i) (s.1 i))

-- a limit's letter is not that of a place
pub limit_letter : {A : Type 0} (l : Limit) {r bs : List ℕ} → limit_text l ≡ bs → 111 ∷ r ≡ bs → A
limit_letter (Time t) e f = clash 116 111 (omega arith) e f
limit_letter (Grade g) e f = clash 103 111 (omega arith) e f
limit_letter (Both t g) e f = clash 98 111 (omega arith) e f

states_once : (line : List ℕ) (one two : Said) → States line one → States line two → one ≡ two
states_once line (limit l) (limit m) s t = ap limit (limit_once l m s.spelled t.spelled (s.text ∙ sym t.text))
states_once line (limit l) (place ls) s t = limit_letter l s.text t.text
states_once line (place ls) (limit m) s t = limit_letter m t.text s.text
states_once line (place ls) (place ms) s t =
    let e = s.text in
    let f = t.text in
    let fields : fielded (ls ∷ []) ≡ fielded (ms ∷ []) = cc in
    let all = fielded_unique _ _ (letters_lack ls s.spelled, tt) (letters_lack ms t.spelled, tt) fields in
    let same : ls ≡ ms = cc in
    ap place same

limit_known : (l : Limit) → Known order_form.letters (limit_text l)
limit_known (Time t) = inl refl
limit_known (Grade g) = inr (inl refl)
limit_known (Both t g) = inr (inr (inl refl))

said_known : (said : Said) → Known order_form.letters (line_text said)
said_known (limit l) = limit_known l
said_known (place ls) = inr (inr (inr (inl refl)))

pub order_plain : Plain order_form
order_plain = record { once = states_once; known = λ line said s. subst (Known order_form.letters) s.text (said_known said) }
