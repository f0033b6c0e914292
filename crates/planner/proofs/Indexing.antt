-- Where the entries of a board stand: no two share an index, and those of a span come before those of larger ones.
use Rattle.std.proofs.Common.{◌≡◌, ℕ, zero, suc, ◌+◌, ◌-◌, ◌*◌, ◌/◌, ◌<◌, ◌≤◌, sym, refl, ap, ◌∙◌, subst, inl, inr, le_refl, suc-mul, mul_comm, zero-add, mul-add, arith}
use Rattle.std.proofs.lemmas.Bool.{cases_lt, cases_order}
use Rattle.std.proofs.Math.Nat.{add-mul}
use Rattle.std.proofs.lemmas.Nat.{mul-le, mul-add-lt, div-mul-add}
use Rattle.planner.specs.Boards.{board_entries, spans_before, span_number, entry_index}

spans_grow : (j e : ℕ) → spans_before j ≤ spans_before (e + j)
spans_grow j zero = rw (zero-add j) (le_refl _)
spans_grow j (suc e) = let step : spans_before (suc (e + j)) ≡ spans_before (e + j) + suc (e + j) = refl in let same : suc e + j ≡ suc (e + j) = omega arith in rw same (omega (arith, spans_grow j e, step))

pub spans_mono : (i j : ℕ) → i ≤ j → spans_before i ≤ spans_before j
spans_mono i j h = let e : (j - i) + i ≡ j = omega arith in subst (λ x. spans_before i ≤ spans_before x) e (spans_grow i (j - i))

pub spans_next : (j : ℕ) → spans_before (j + 1) ≡ spans_before j + (j + 1)
spans_next j = let e : j + 1 ≡ suc j = omega arith in rw e refl

-- the same, at a place and the one before it
pub spans_last : (j : ℕ) → 1 ≤ j → spans_before j ≡ spans_before (j - 1) + j
spans_last j h = let e : j - 1 + 1 ≡ j = omega arith in ap spans_before (sym e) ∙ spans_next (j - 1) ∙ ap (λ x. spans_before (j - 1) + x) e

spans_twice : (j : ℕ) → 2 * spans_before j ≡ j * (j + 1)
spans_twice zero = refl
spans_twice (suc j) = let e : suc j * (suc j + 1) ≡ j * (j + 1) + (j + 1) + (j + 1) = grow in omega (arith, spans_twice j, e)
  where
    grow : suc j * (suc j + 1) ≡ j * (j + 1) + (j + 1) + (j + 1)
    grow = let a : suc j * (suc j + 1) ≡ j * (suc j + 1) + (suc j + 1) = suc-mul j (suc j + 1) in let b : j * (suc j + 1) ≡ j * (j + 1) + j * 1 = ap (λ x. j * x) same ∙ mul-add j (j + 1) 1 in omega (arith, a, b)
      where
        same : suc j + 1 ≡ (j + 1) + 1
        same = omega arith

pub spans_half : (j : ℕ) → j * (j + 1) / 2 ≡ spans_before j
spans_half j = omega (arith, spans_twice j)

-- a board has an entry for each span and part
pub entries_are : (n k : ℕ) → board_entries n k ≡ spans_before n * k
entries_are n k = ap (λ x. x * k) (spans_half n)

-- the span of `len` places that ends at a place
pub number_ending : (last len : ℕ) → 1 ≤ len → len ≤ last → span_number (last - len) len ≡ spans_before (last - 1) + (len - 1)
number_ending last len some few = let e : last - len + len - 1 ≡ last - 1 = omega arith in ap (λ x. spans_before x + (len - 1)) e

-- the spans that end at a place come before those that end later
pub number_within : (before len n : ℕ) → 1 ≤ len → before + len ≤ n → span_number before len < spans_before n
number_within before len n some few = omega (arith, spans_last (before + len) (omega arith), spans_mono (before + len) n few)

pub number_back : (before len n : ℕ) → 1 ≤ len → span_number before len < spans_before n → before + len ≤ n
number_back before len n some h = elim (cases_lt n (before + len)) [
  | inl more ↦ absurd (omega (arith, spans_mono n (before + len - 1) (omega arith)))
  | inr few ↦ few
]

pub number_left : (before len m : ℕ) → 1 ≤ m → m < len → span_number before m < span_number before len
number_left before len m some less = omega (arith, spans_mono (before + m - 1) (before + len - 1) (omega arith))

pub number_right : (before len m : ℕ) → 1 ≤ m → m < len → span_number (before + m) (len - m) < span_number before len
number_right before len m some less = let e : before + m + (len - m) - 1 ≡ before + len - 1 = omega arith in rw e (omega arith)

same_end : (b l c m : ℕ) → 1 ≤ l → 1 ≤ m → span_number b l ≡ span_number c m → b + l ≡ c + m
same_end b l c m hl hm h = elim (cases_order (b + l) (c + m)) [
  | inl same ↦ same
  | inr (inl lt) ↦ absurd (omega (arith, number_within b l (c + m - 1) hl (omega arith)))
  | inr (inr gt) ↦ absurd (omega (arith, number_within c m (b + l - 1) hm (omega arith)))
]

pub same_span : (b l c m : ℕ) → 1 ≤ l → 1 ≤ m → span_number b l ≡ span_number c m → (b ≡ c) × (l ≡ m)
same_span b l c m hl hm h =
    let end = same_end b l c m hl hm h in
    let sums : spans_before (b + l - 1) ≡ spans_before (c + m - 1) = ap (λ x. spans_before (x - 1)) end in
    omega (arith, h, end, sums)

pub index_below : (k a b p : ℕ) → p < k → a < b → a * k + p < b * k
index_below k a b p h l = omega (arith, mul-add-lt a k p b l h, mul_comm b k)

-- a span's entries stand in a board that has room for it
pub index_in_span : (k before len p size : ℕ) → p < k → (span_number before len + 1) * k ≤ size → entry_index k before len p < size
index_in_span k before len p size h room = omega (arith, index_below k (span_number before len) (span_number before len + 1) p h (omega arith))

pub index_in_board : (k before len p n size : ℕ) → p < k → 1 ≤ len → before + len ≤ n → spans_before n * k ≤ size → entry_index k before len p < size
index_in_board k before len p n size h some few room = omega (arith, index_below k (span_number before len) (spans_before n) p h (number_within before len n some few))

-- so do the entries of a span's left halves
pub index_left : (k before len m p size : ℕ) → p < k → 1 ≤ m → m < len → span_number before len * k ≤ size → entry_index k before m p < size
index_left k before len m p size h some less room = omega (arith, index_below k (span_number before m) (span_number before len) p h (number_left before len m some less))

-- and of its right halves
pub index_right : (k before len m p size : ℕ) → p < k → 1 ≤ m → m < len → span_number before len * k ≤ size → entry_index k (before + m) (len - m) p < size
index_right k before len m p size h some less room = omega (arith, index_below k (span_number (before + m) (len - m)) (span_number before len) p h (number_right before len m some less))

pub rows_within : (a b k : ℕ) → a ≤ b → a * k ≤ b * k
rows_within a b k h = mul-le a k b k h (le_refl k)

-- a board with room for the spans that end at a place or earlier has room for each that ends there
pub column_room : (k last len size : ℕ) → 1 ≤ len → len ≤ last → spans_before last * k ≤ size → (span_number (last - len) len + 1) * k ≤ size
column_room k last len size some few room = omega (arith, rows_within (span_number (last - len) len + 1) (spans_before last) k (omega (arith, number_ending last len some few, spans_last last (omega arith))))

pub columns_room : (k last n size : ℕ) → last ≤ n → board_entries n k ≤ size → spans_before last * k ≤ size
columns_room k last n size few room = omega (arith, entries_are n k, rows_within (spans_before last) (spans_before n) k (spans_mono last n few))

pub same_index : (k b l p c m q : ℕ) → 1 ≤ l → 1 ≤ m → p < k → q < k → entry_index k b l p ≡ entry_index k c m q → (b ≡ c) × (l ≡ m) × (p ≡ q)
same_index k b l p c m q hl hm hp hq h =
    let spans : span_number b l ≡ span_number c m = sym (div-mul-add (span_number b l) k p hp) ∙ ap (λ x. x / k) h ∙ div-mul-add (span_number c m) k q hq in
    let s = same_span b l c m hl hm spans in
    let rows : span_number b l * k ≡ span_number c m * k = ap (λ x. x * k) spans in
    (s.0, s.1, omega (arith, h, rows))

-- the numbers of spans are small
pub number_few : (before len : ℕ) → 1 ≤ len → before + len ≤ 24 → span_number before len < 300
number_few before len some few = let all : spans_before 24 ≡ 300 = refl in omega (arith, all, number_within before len 24 some few)

-- from the left half at one split to that at the next
pub left_next : (k before m p : ℕ) → 1 ≤ m → entry_index k before m p + (before + m + 1) * k ≡ entry_index k before (m + 1) p
left_next k before m p some =
    let next : span_number before (m + 1) ≡ span_number before m + (before + m + 1) = let same : before + (m + 1) - 1 ≡ before + m = omega arith in rw same (omega (arith, spans_last (before + m) (omega arith))) in
    let rows = add-mul (span_number before m) (before + m + 1) k in
    let both : span_number before (m + 1) * k ≡ (span_number before m + (before + m + 1)) * k = ap (λ x. x * k) next in
    omega (arith, rows, both)

-- the right half stands as many rows before the whole span as the left one has places
pub right_back : (k before len m p : ℕ) → m < len → entry_index k (before + m) (len - m) p + m * k ≡ entry_index k before len p
right_back k before len m p less =
    let end : before + m + (len - m) - 1 ≡ before + len - 1 = omega arith in
    let back : span_number before len ≡ span_number (before + m) (len - m) + m = rw end (omega arith) in
    let rows = add-mul (span_number (before + m) (len - m)) m k in
    let both : span_number before len * k ≡ (span_number (before + m) (len - m) + m) * k = ap (λ x. x * k) back in
    omega (arith, rows, both)
