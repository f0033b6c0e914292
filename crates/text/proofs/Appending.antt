-- One text put after another, as far as there is room. Assumes nothing.
use Rattle.std.proofs.Common.{◌≡◌, ℕ, zero, suc, ◌+◌, ◌-◌, ◌<◌, ◌≤◌, min, List, [], ◌∷◌, ◌++◌, length, get_or, take, sym, refl, ap, ◌∙◌, subst, append_assoc, append-nil, arith, length-append}
use Rattle.std.proofs.lemmas.List.{take_all, take_more, take_min, take-append-le}
use Rattle.std.proofs.Math.Seq.{take-append-add}
use Rattle.text.specs.declared.pages.Page.{Page}
use Rattle.text.specs.Pages.{page_text, Appended}

-- what is cut off may as well be cut off later
pub take_front : (n : ℕ) (xs ys : List ℕ) → take n (take n xs ++ ys) ≡ take n (xs ++ ys)
take_front zero xs ys = refl
take_front (suc n) [] ys = refl
take_front (suc n) (x ∷ xs) ys = ap (λ l. x ∷ l) (take_front n xs ys)

pub appended_then : {p q r : Page} {bs cs : List ℕ} → Appended p bs q → Appended q cs r → Appended p (bs ++ cs) r
appended_then {p} {q} {r} {bs} {cs} f g = record {
  grown = g.grown ∙ ap (λ l. take 8192 (l ++ cs)) f.grown ∙ take_front 8192 (page_text p ++ bs) cs ∙ ap (take 8192) (append_assoc (page_text p) bs cs);
}

pub appended_same : {p q : Page} {bs cs : List ℕ} → bs ≡ cs → Appended p bs q → Appended p cs q
appended_same {p} {q} e f = subst (λ l. Appended p l q) e f

pub appended_from : {p o q : Page} {bs : List ℕ} → p ≡ o → Appended p bs q → Appended o bs q
appended_from {q = q} {bs = bs} e f = subst (λ o. Appended o bs q) e f

-- nothing more
pub appended_none : (p : Page) → Appended p [] p
appended_none p = record { grown = sym (ap (take 8192) (append-nil (page_text p)) ∙ take_all 8192 (page_text p) p.within) }

-- one byte where there is room, and where there is none
pub byte_put : (xs : List ℕ) (b : ℕ) → length xs < 8192 → xs ++ b ∷ [] ≡ take 8192 (xs ++ b ∷ [])
byte_put xs b h = sym (take_all 8192 _ (omega (arith, length-append xs (b ∷ []))))

pub byte_lost : (xs : List ℕ) (b : ℕ) → length xs ≡ 8192 → xs ≡ take 8192 (xs ++ b ∷ [])
byte_lost xs b h = sym (take-append-le 8192 xs (b ∷ []) (omega arith) ∙ take_all 8192 xs (omega arith))

-- the first bytes of a text, and one more
pub front_put : {p q r : Page} (bs : List ℕ) (i : ℕ) → i < length bs → Appended p (take i bs) q → Appended q (get_or bs i 0 ∷ []) r → Appended p (take (i + 1) bs) r
front_put bs i h f g = appended_same (sym (take_more bs i 0 h)) (appended_then f g)

-- of a text, as many bytes as there is room for
pub bytes_put : (xs bs : List ℕ) (room : ℕ) → length xs ≤ 8192 → room ≡ min (length bs) (8192 - length xs) → xs ++ take room bs ≡ take 8192 (xs ++ bs)
bytes_put xs bs room h least =
    let rest = 8192 - length xs in
    let whole : length xs + rest ≡ 8192 = omega arith in
    let least_of : room ≡ min rest (length bs) = omega arith in
    ap (λ l. xs ++ l) (ap (λ n. take n bs) least_of ∙ take_min rest bs) ∙ sym (take-append-add xs bs rest) ∙ ap (λ n. take n (xs ++ bs)) whole

-- a page with one text alone, which fits
pub alone : {p q : Page} {bs : List ℕ} → page_text p ≡ [] → Appended p bs q → length bs ≤ 8192 → page_text q ≡ bs
alone {bs = bs} e a h = a.grown ∙ ap (λ l. take 8192 (l ++ bs)) e ∙ take_all 8192 bs h
