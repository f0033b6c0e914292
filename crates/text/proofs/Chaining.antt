-- Fields one after another: a text is fields in one way only. Assumes nothing.
use Rattle.std.proofs.Common.{◌≡◌, ℕ, ◌+◌, ◌*◌, ◌<◌, ◌≤◌, List, [], ◌∷◌, ◌++◌, map, length, get_or, take, drop, set, decimal, sym, refl, ap, ◌∙◌, subst, append_assoc, append-nil, arith, length-append, length-take}
use Rattle.std.specs.List.{AllByRecursion}
use Rattle.std.proofs.ByRecursion.{All-append, All-push, All-get_or}
use Rattle.std.proofs.lemmas.List.{nil_from_length, take_all, take_more_set, at_drop_more, at_drop_all}
use Rattle.std.proofs.lemmas.Fmt.{length-decimal-le, decimal_injective}
use Rattle.text.specs.Fields.{Lacks, Ended, NumberField, StrokeField, Numbered, numbered, fielded, Short, Stroke}
use Rattle.text.proofs.Cutting.{span_unique, number_unique, stroke_unique, decimal_lacks}

fielded_ended : (fs : List (List ℕ)) → Ended 32 (fielded fs)
unfolding fielded
fielded_ended [] = tt
fielded_ended (f ∷ fs) = refl

-- fields without spaces are the same where their texts are
pub fielded_unique : (fs gs : List (List ℕ)) → AllByRecursion (Lacks 32) fs → AllByRecursion (Lacks 32) gs → fielded fs ≡ fielded gs → fs ≡ gs
unfolding fielded
fielded_unique [] [] a b e = refl
fielded_unique [] (g ∷ gs) a b e = let n : ◌≡◌ {A = ℕ} 0 1 = cc in absurd (omega arith)
fielded_unique (f ∷ fs) [] a b e = let n : ◌≡◌ {A = ℕ} 0 1 = cc in absurd (omega arith)
fielded_unique (f ∷ fs) (g ∷ gs) a b e =
    let rest : f ++ fielded fs ≡ g ++ fielded gs = cc in
    let h = span_unique 32 f (fielded fs) g (fielded gs) a.0 b.0 (fielded_ended fs) (fielded_ended gs) rest in
    let more = fielded_unique fs gs a.1 b.1 h.1 in
    λ i. h.0 i ∷ more i

-- a text lacks a byte that its fields lack
pub fielded_lacks : (m : ℕ) (fs : List (List ℕ)) → (32 ≡ m → ⊥) → AllByRecursion (Lacks m) fs → Lacks m (fielded fs)
unfolding fielded
fielded_lacks m [] n h = tt
fielded_lacks m (f ∷ fs) n h = (n, All-append _ f (fielded fs) h.0 (fielded_lacks m fs n h.1))

-- short fields make a short text
pub fielded_short : (fs : List (List ℕ)) → AllByRecursion (λ f. length f ≤ 6) fs → length (fielded fs) ≤ 7 * length fs
unfolding fielded
fielded_short [] h = omega arith
fielded_short (f ∷ fs) h = omega (arith, length-append f (fielded fs), h.0, fielded_short fs h.1)

pub decimal_short : (n : ℕ) → Short n → length (decimal n) ≤ 6
decimal_short n h = length-decimal-le 6 n (omega arith) (omega arith) (omega arith)

-- two fields that write the same number
pub same_number : (m n : ℕ) → Short m → Short n → decimal m ≡ decimal n → m ≡ n
same_number m n h k e = decimal_injective m n (omega arith) (omega arith) e

pub number_lacks : (n : ℕ) → Short n → Lacks 32 (decimal n)
number_lacks n h = decimal_lacks 32 n (omega arith) h

-- numbers of a known count, one by one
pub one_by_one : (ns : List ℕ) → length ns ≡ 1 → ns ≡ get_or ns 0 0 ∷ []
one_by_one [] e = absurd (omega arith)
one_by_one (a ∷ []) e = refl
one_by_one (a ∷ b ∷ ns) e = absurd (omega arith)

pub two_by_two : (ns : List ℕ) → length ns ≡ 2 → ns ≡ get_or ns 0 0 ∷ get_or ns 1 0 ∷ []
two_by_two [] e = absurd (omega arith)
two_by_two (a ∷ ns) e = ap (λ l. a ∷ l) (one_by_one ns (omega arith))

-- the first field
pub number_first : {rest : List ℕ} (n : ℕ) (fs : List (List ℕ)) → Short n → fielded (decimal n ∷ fs) ≡ rest → NumberField rest n (fielded fs)
unfolding fielded
number_first n fs h e = record { whole = e; short = h; ended = fielded_ended fs }

pub stroke_first : {rest : List ℕ} (s : ℕ) (fs : List (List ℕ)) → Stroke s → fielded ((s ∷ []) ∷ fs) ≡ rest → StrokeField rest s (fielded fs)
unfolding fielded
stroke_first s fs h e = record { whole = e; stroke = h; ended = fielded_ended fs }

-- and what is left after it
pub past_number : {rest : List ℕ} {n : ℕ} {more : List ℕ} → NumberField rest n more → (m : ℕ) (fs : List (List ℕ)) → Short m → fielded (decimal m ∷ fs) ≡ rest → fielded fs ≡ more
past_number t m fs h e = (number_unique (number_first m fs h e) t).1

pub past_stroke : {rest : List ℕ} {s : ℕ} {more : List ℕ} → StrokeField rest s more → (r : ℕ) (fs : List (List ℕ)) → Stroke r → fielded ((r ∷ []) ∷ fs) ≡ rest → fielded fs ≡ more
past_stroke t r fs h e = (stroke_unique (stroke_first r fs h e) t).1

-- a field put in front
pub front_number : {rest : List ℕ} {n : ℕ} (fs : List (List ℕ)) {more : List ℕ} → NumberField rest n more → fielded fs ≡ more → fielded (decimal n ∷ fs) ≡ rest
unfolding fielded
front_number {n = n} fs t e = ap (λ l. 32 ∷ (decimal n ++ l)) e ∙ t.whole

pub front_stroke : {rest : List ℕ} {s : ℕ} (fs : List (List ℕ)) {more : List ℕ} → StrokeField rest s more → fielded fs ≡ more → fielded ((s ∷ []) ∷ fs) ≡ rest
unfolding fielded
front_stroke {s = s} fs t e = ap (λ l. 32 ∷ s ∷ l) e ∙ t.whole

-- numbers that stand in front of a text of numbers
pub numbers_left : (xs ns : List ℕ) {rest : List ℕ} → AllByRecursion Short xs → AllByRecursion Short ns → (0 < length xs → Ended 32 rest) → length xs ≤ length ns → numbered xs ++ rest ≡ numbered ns → numbered (drop (length xs) ns) ≡ rest
unfolding fielded
numbers_left [] ns a b n h e = sym e
numbers_left (x ∷ xs) [] a b n h e = absurd (omega arith)
numbers_left (x ∷ xs) (m ∷ ns) {rest} a b n h e =
    let one : 32 ∷ (decimal x ++ (numbered xs ++ rest)) ≡ numbered (m ∷ ns) = ap (λ l. 32 ∷ l) (sym (append_assoc (decimal x) (numbered xs) rest)) ∙ e in
    let front : NumberField (numbered (m ∷ ns)) x (numbered xs ++ rest) = record { whole = one; short = a.0; ended = ended xs } in
    numbers_left xs ns a.1 b.1 (λ _. n (omega arith)) (omega arith) (sym (past_number front m (map decimal ns) b.0 refl))
  where
    ended : (ys : List ℕ) → Ended 32 (numbered ys ++ rest)
    ended [] = n (omega arith)
    ended (y ∷ ys) = refl

numbered_push : (xs : List ℕ) (y : ℕ) (more : List ℕ) → numbered (xs ++ y ∷ []) ++ more ≡ numbered xs ++ (32 ∷ (decimal y ++ more))
unfolding fielded
numbered_push [] y more = ap (λ l. 32 ∷ (l ++ more)) (append-nil (decimal y))
numbered_push (x ∷ xs) y more =
    ap (λ l. 32 ∷ l) (append_assoc (decimal x) (numbered (xs ++ y ∷ [])) more ∙ ap (λ l. decimal x ++ l) (numbered_push xs y more) ∙ sym (append_assoc (decimal x) (numbered xs) (32 ∷ (decimal y ++ more))))

-- the first i numbers of found are the first fields of whole, and rest is left
pub record Found (whole found : List ℕ) (i : ℕ) (rest : List ℕ) : Type 0 where
  pub front : numbered (take i found) ++ rest ≡ whole
  pub short : AllByRecursion Short (take i found)
  pub ended : 0 < i → Ended 32 rest

pub found_none : (whole found : List ℕ) → Found whole found 0 whole
unfolding fielded
found_none whole found = record { front = refl; short = tt; ended = λ h. absurd (omega arith) }

pub found_more : {whole found : List ℕ} {i : ℕ} {rest : List ℕ} {n : ℕ} {more : List ℕ} → Found whole found i rest → i < length found → NumberField rest n more → Found whole (set found i n) (i + 1) more
found_more {whole} {found} {i} {rest} {n} {more} f h t =
    let e : take (i + 1) (set found i n) ≡ take i found ++ n ∷ [] = take_more_set found i n h in
    record {
      front = ap (λ l. numbered l ++ more) e ∙ numbered_push (take i found) n more ∙ ap (λ l. numbered (take i found) ++ l) t.whole ∙ f.front;
      short = subst (AllByRecursion Short) (sym e) (All-push Short (take i found) n f.short t.short);
      ended = λ _. t.ended;
    }

-- what is left, if the whole is numbers
found_left : {whole found : List ℕ} {i : ℕ} {rest : List ℕ} → Found whole found i rest → i ≤ length found → {n : ℕ} (ns : List ℕ) → i ≤ length ns → Numbered n whole ns → numbered (drop i ns) ≡ rest
found_left {whole} {found} {i} {rest} f h ns k w =
    let size : length (take i found) ≡ i = length-take i found ∙ omega arith in
    subst (λ j. numbered (drop j ns) ≡ rest) size (numbers_left (take i found) ns f.short w.short (λ p. f.ended (omega arith)) (omega arith) (f.front ∙ sym w.whole))

pub found_stops : {whole found : List ℕ} {i : ℕ} {rest : List ℕ} → Found whole found i rest → i < length found → ((n : ℕ) (more : List ℕ) → NumberField rest n more → ⊥) → {n : ℕ} → length found ≡ n → (ns : List ℕ) → Numbered n whole ns → ⊥
found_stops {whole} {found} {i} {rest} f h none k ns w =
    let c = w.count in
    let e = sym (at_drop_more numbered ns i 0 (omega arith)) ∙ found_left f (omega arith) ns (omega arith) w in
    none (get_or ns i 0) _ (number_first (get_or ns i 0) (map decimal (drop (i + 1) ns)) (All-get_or Short ns i 0 (omega arith) w.short) e)

pub found_over : {whole found : List ℕ} {i : ℕ} {rest : List ℕ} → Found whole found i rest → i ≡ length found → (length rest ≡ 0 → ⊥) → {n : ℕ} → length found ≡ n → (ns : List ℕ) → Numbered n whole ns → ⊥
unfolding fielded
found_over {i = i} f h some k ns w =
    let c = w.count in
    some (ap length (sym (sym (at_drop_all numbered ns i (omega arith)) ∙ found_left f (omega arith) ns (omega arith) w)))

pub found_all : {whole found : List ℕ} {i : ℕ} {rest : List ℕ} {n : ℕ} → Found whole found i rest → length found ≡ n → length found ≤ i → length rest ≡ 0 → Numbered n whole found
found_all {whole} {found} {i} {rest} f k h e =
    let all = take_all i found h in
    record {
      count = k;
      whole = sym (append-nil (numbered found)) ∙ ap (λ l. numbered found ++ l) (sym (nil_from_length rest e)) ∙ ap (λ l. numbered l ++ rest) (sym all) ∙ f.front;
      short = subst (AllByRecursion Short) all f.short;
    }
