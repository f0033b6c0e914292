-- What is read is what the text tells: the two ways to say what an order's text means are one. Assumes nothing.
use Rattle.std.proofs.Common.{◌≡◌, ℕ, ◌+◌, ◌<◌, ◌≤◌, List, [], ◌∷◌, ◌++◌, map, length, take, Some, Ok, Err, Result, sym, refl, ap, ◌∙◌, subst, ⊎_elim, append_assoc, append-nil, arith}
use Rattle.std.specs.List.{AllByRecursion}
use Rattle.std.proofs.lemmas.List.{length_push, length-map}
use Rattle.refusal.specs.declared.Source.TheVariants as source
use Rattle.refusal.specs.declared.Fault.{Fault}
use Rattle.text.specs.Reading.{Reads, Listed, Accepted, Ending, stated, refused, Ends}
use Rattle.text.specs.Readings.{FaultOf}
use Rattle.text.proofs.Endings.{apart, listed_unique, one_ending}
use Rattle.text.proofs.Standing.{listed}
use Rattle.order.specs.declared.limits.Limit.{Limit}
use Rattle.order.specs.declared.Order.{Order}
use Rattle.order.specs.Letters.{Letters, mask_of}
use Rattle.order.specs.Statements.{Said, limit, place, InRange, Stated, order_form}
use Rattle.sheet.specs.Masks.{mask_shown}
use Rattle.order.specs.Texts.{Tells, filled, drawn_pairs, in_order, too_short, stated_with, Outcome, Drawn, Told}
use Rattle.order.proofs.Plain.{order_plain}
use Rattle.order.proofs.Pairing.{filled_shown}

-- after the limit come the places
record Then (l : Limit) (done : List ℕ) (ls : List Said) (whole : Stated) : Type 0 where
  todo : List (List ℕ)
  limit_same : Some l ≡ whole.limit
  places_same : done ++ map mask_of todo ≡ whole.places
  few : length done + length todo ≤ 16
  told : ls ≡ map place todo

then_places : (l : Limit) (done : List ℕ) (ls : List Said) (bs : List ℕ) (whole : Stated) → length done ≤ 16 → Reads order_form ls (stated_with l done) bs whole [] → Then l done ls whole
then_places l done [] bs whole few h = record { todo = []; limit_same = ap (λ (d : Stated). d.limit) h.0; places_same = append-nil done ∙ ap (λ (d : Stated). d.places) h.0; few = omega arith; told = refl }
then_places l done (limit m ∷ ls) bs whole few h = let e = h.1.passed.0 in let z : ◌≡◌ {A = ℕ} 0 1 = cc in absurd (omega arith)
then_places l done (place letters ∷ ls) bs whole few h =
    let t = then_places l (done ++ mask_of letters ∷ []) ls h.0 whole (omega (arith, length_push done (mask_of letters), h.1.passed.1.0)) h.2 in
    record {
      todo = letters ∷ t.todo;
      limit_same = t.limit_same;
      places_same = sym (append_assoc done (mask_of letters ∷ []) (map mask_of t.todo)) ∙ t.places_same;
      few = omega (arith, t.few, length_push done (mask_of letters));
      told = ap (λ k. place letters ∷ k) t.told;
    }

-- the first line is the limit
record First (l : Limit) (ls : List Said) (masks : List ℕ) : Type 0 where
  places : List (List ℕ)
  ranged : InRange l
  few : length places ≤ 16
  told : ls ≡ limit l ∷ map place places
  masks_same : map mask_of places ≡ masks

first_limit : (ls : List Said) (bs : List ℕ) (l : Limit) (masks : List ℕ) → Reads order_form ls order_form.blank bs (stated_with l masks) [] → First l ls masks
first_limit [] bs l masks h = let e = ap (λ (d : Stated). d.limit) h.0 in let z : ◌≡◌ {A = ℕ} 0 1 = cc in absurd (omega arith)
first_limit (limit m ∷ ls) bs l masks h =
    let t = then_places m [] ls h.0 (stated_with l masks) (omega arith) h.2 in
    let e = t.limit_same in
    let same : m ≡ l = cc in
    record {
      places = t.todo;
      ranged = subst InRange same h.1.passed.1.0;
      few = omega (arith, t.few);
      told = (λ i. limit (same i) ∷ t.told i);
      masks_same = t.places_same;
    }
first_limit (place letters ∷ ls) bs l masks h = let e = h.1.passed.0 in let z : ◌≡◌ {A = ℕ} 0 1 = cc in absurd (omega arith)

-- and the other way
places_told : (l : Limit) (done : List ℕ) (todo : List (List ℕ)) (bs : List ℕ) → Listed order_form (map place todo) bs → length done + length todo ≤ 16 → Reads order_form (map place todo) (stated_with l done) bs (stated_with l (done ++ map mask_of todo)) []
places_told l done [] bs h n = (ap (stated_with l) (sym (append-nil done)), h)
places_told l done (letters ∷ todo) bs h n =
    let more = places_told l (done ++ mask_of letters ∷ []) todo h.1 h.4 (omega (arith, length_push done (mask_of letters))) in (
      h.1,
      record { line = h.0; starts = h.2; stated = h.3; passed = (refl, (omega arith, tt)) },
      subst (λ k. Reads order_form (map place todo) (stated_with l (done ++ mask_of letters ∷ [])) h.1 (stated_with l k) []) (append_assoc done (mask_of letters ∷ []) (map mask_of todo)) more,
    )

pub tells_accepted : (text : List ℕ) (l : Limit) (places : List (List ℕ)) → Tells text l places → Accepted order_form text (stated_with l (map mask_of places))
tells_accepted text l places t =
    let h = t.listed in
    record {
      lines = limit l ∷ map place places;
      reached = record {
        short = t.short;
        reads = (h.1, record { line = h.0; starts = h.2; stated = h.3; passed = (refl, (t.ranged, tt)) }, places_told l [] places h.1 h.4 (omega (arith, t.few)));
      };
      passed = (refl, tt);
    }

-- the places that are told have letters
listed_letters : (places : List (List ℕ)) (bs : List ℕ) → Listed order_form (map place places) bs → AllByRecursion Letters places
listed_letters [] bs h = tt
listed_letters (letters ∷ places) bs h = (h.3.spelled, listed_letters places h.1 h.4)

pub accepted_drawn : (text before : List ℕ) (o : Order) (masks after : List ℕ) → Accepted order_form text (stated_with o.limit masks) → o.places ≡ length masks → length masks ≤ length before → after ≡ filled masks before → Drawn text before o after
accepted_drawn text before o masks after a n fits e =
    let f = first_limit a.lines text o.limit masks a.reached.reads in
    let ls = f.places in
    let lines : Listed order_form (limit o.limit ∷ map place ls) text = subst (λ k. Listed order_form k text) f.told (listed order_form a.lines order_form.blank text _ a.reached.reads) in
    let size : length masks ≡ length ls = ap length (sym f.masks_same) ∙ length-map ls mask_of in
    let memory : after ≡ filled (map mask_of ls) before = e ∙ ap (λ m. filled m before) (sym f.masks_same) in
    record {
      places = ls;
      tells = record { short = a.reached.short; listed = lines; ranged = f.ranged; few = f.few };
      count = n ∙ size;
      fits = omega arith;
      memory = memory;
      pairs = subst (λ m. mask_shown (take o.places m) ≡ drawn_pairs ls) (sym memory) (filled_shown ls before o.places (listed_letters ls lines.1 lines.4) f.few (omega arith) (n ∙ size));
    }

abbrev Short : List ℕ → List ℕ → Fault → Type 0
Short text before f = (f ≡ too_short) × ((sum : Stated) × Ends order_form text (stated sum) × (length before < length sum.places))

one : (text : List ℕ) (x y : Ending Stated) → Ends order_form text x → Ends order_form text y → x ≡ y
one = one_ending order_form order_plain

-- an accepted text is refused only where the memory is too short for its places
accepted_short : (text before : List ℕ) (f : Fault) (after : List ℕ) → Outcome text before (Err f) after → (sum : Stated) → Accepted order_form text sum → (f ≡ too_short) × (length before < length sum.places)
accepted_short text before f after x sum h =
    ⊎_elim
    (λ (y : FaultOf order_form source.Order text f). absurd (apart sum y.0 y.1 (one text (stated sum) (refused y.0 y.1) h y.3)))
    (λ (y : Short text before f).
    let e = one text (stated y.1.0) (stated sum) y.1.1 h in
    let same : y.1.0 ≡ sum = cc in
    (y.0, subst (λ (d : Stated). length before < length d.places) same y.1.2))
    x.0

-- a text is not refused in two ways
pub one_refused : (text : List ℕ) (f g : Fault) → FaultOf order_form source.Order text f → FaultOf order_form source.Order text g → f ≡ g
one_refused text f g x y =
    let e = one text (refused x.0 x.1) (refused y.0 y.1) x.3 y.3 in
    let e₁ : x.0 ≡ y.0 = cc in
    let e₂ : x.1 ≡ y.1 = cc in
    x.2 ∙ (λ i. in_order (e₁ i) (e₂ i)) ∙ sym y.2

-- two orders that the text states are one, and leave one memory
same_order : (text before : List ℕ) (o p : Order) (after left : List ℕ) → Outcome text before (Ok o) after → Outcome text before (Ok p) left → (o ≡ p) × (after ≡ left)
same_order text before o p after left x y =
    let e = one text (stated (stated_with o.limit x.0)) (stated (stated_with p.limit y.0)) x.1 y.1 in
    let same : stated_with o.limit x.0 ≡ stated_with p.limit y.0 = cc in
    let limits' = ap (λ (d : Stated). d.limit) same in
    let limits : o.limit ≡ p.limit = cc in
    let masks : x.0 ≡ y.0 = ap (λ (d : Stated). d.places) same in
    let count : o.places ≡ p.places = x.2 ∙ ap length masks ∙ sym y.2 in
    ((λ i. record { limit = limits i; places = count i }), x.4 ∙ ap (λ m. filled m before) masks ∙ sym y.4)

-- a text that states an order is not refused in a memory that has room for it
never_refused : (text before : List ℕ) (o : Order) (f : Fault) (after left : List ℕ) → Outcome text before (Ok o) after → Outcome text before (Err f) left → ⊥
never_refused text before o f after left x y =
    let short = accepted_short text before f left y (stated_with o.limit x.0) x.1 in
    omega (arith, short.1, x.3)

-- two refusals of the text are one
same_fault : (text before : List ℕ) (f g : Fault) (after left : List ℕ) → Outcome text before (Err f) after → Outcome text before (Err g) left → f ≡ g
same_fault text before f g after left x y =
    ⊎_elim
    (λ (u : FaultOf order_form source.Order text f).
    ⊎_elim
    (λ (v : FaultOf order_form source.Order text g). one_refused text f g u v)
    (λ (v : Short text before g). absurd (apart v.1.0 u.0 u.1 (one text (stated v.1.0) (refused u.0 u.1) v.1.1 u.3)))
    y.0)
    (λ (u : Short text before f). u.0 ∙ sym (accepted_short text before g left y u.1.0 u.1.1).0)
    x.0

-- a text and a memory have one outcome
pub one_outcome : (text before : List ℕ) (r q : Result Order Fault) (after left : List ℕ) → Outcome text before r after → Outcome text before q left → (r ≡ q) × (after ≡ left)
one_outcome text before (Ok o) (Ok p) after left x y = let same = same_order text before o p after left x y in (ap (λ z. Ok z) same.0, same.1)
one_outcome text before (Ok o) (Err g) after left x y = absurd (never_refused text before o g after left x y)
one_outcome text before (Err f) (Ok p) after left x y = absurd (never_refused text before p f left after y x)
one_outcome text before (Err f) (Err g) after left x y = (ap (λ z. Err z) (same_fault text before f g after left x y), x.1 ∙ sym y.1)

pub told_by : (text before : List ℕ) (r : Result Order Fault) (after : List ℕ) → Outcome text before r after → Told text before r after
told_by text before (Ok o) after x = accepted_drawn text before o x.0 after x.1 x.2 x.3 x.4
told_by text before (Err f) after x = λ l places t.
    let a = accepted_short text before f after x (stated_with l (map mask_of places)) (tells_accepted text l places t) in
    (a.0, subst (λ n. length before < n) (length-map places mask_of) a.1)

-- a text tells one order
same_places : (one two : List (List ℕ)) → map place one ≡ map place two → one ≡ two
same_places [] [] e = refl
same_places [] (letters ∷ two) e = let z : ◌≡◌ {A = ℕ} 0 1 = cc in absurd (omega arith)
same_places (letters ∷ one) [] e = let z : ◌≡◌ {A = ℕ} 0 1 = cc in absurd (omega arith)
same_places (letters ∷ one) (others ∷ two) e =
    let first : letters ≡ others = cc in
    let rest : map place one ≡ map place two = cc in
    let more = same_places one two rest in
    (λ i. first i ∷ more i)

pub one_told : (text : List ℕ) (l m : Limit) (places others : List (List ℕ)) → Tells text l places → Tells text m others → (l ≡ m) × (places ≡ others)
one_told text l m places others t u =
    let e = listed_unique order_form order_plain (limit l ∷ map place places) (limit m ∷ map place others) text t.listed u.listed in
    let same : l ≡ m = cc in
    let rest : map place places ≡ map place others = cc in
    (same, same_places places others rest)

-- a text that tells an order is not refused
pub told_refused : (text : List ℕ) (l : Limit) (places : List (List ℕ)) (f : Fault) → Tells text l places → FaultOf order_form source.Order text f → ⊥
told_refused text l places f t x =
    let sum = stated_with l (map mask_of places) in
    apart sum x.0 x.1 (one text (stated sum) (refused x.0 x.1) (tells_accepted text l places t) x.3)
