-- Proofs, and nothing that has to be believed: a card has the laws of a sheet.
-- They stand here since the ghost member `laws` of an impl can name its own crate's specs/ and not its proofs/.
use Rattle.std.specs.Prelude.{◌≡◌, ℕ, ◌/◌, min, Bool, true, ◌⊎◌, List, slice_index, refl}
use Rattle.std.proofs.Common.{ap, ◌∙◌, arith}
use Rattle.std.proofs.lemmas.Bool.{and_parts, eqb-true}
use Rattle.sheet.specs.Pairs.{in_range}
use Rattle.sheet.specs.Laws.{Laws}
use Rattle.sheet.specs.Cards.{card_places, card_shown, cell, row, letter, redrawn, CardRest}

-- each index is that of the cell of its row and letter
pub cell_index : (i : ℕ) → cell (row i) (letter i) ≡ i
cell_index i = omega arith

-- an open cell holds its letter
pub open_byte : (bs : List ℕ) (i : ℕ) → card_shown bs (row i) (letter i) ≡ true → slice_index bs i ≡ letter i
open_byte bs i h = eqb-true (slice_index bs i) (letter i) (rw (cell_index i) at (and_parts (in_range (card_places bs) (row i) (letter i)) _ h).1)

unmoved : (b : Bool) (x c : ℕ) → (b ≡ true → x ≡ c) → x ≡ redrawn b b c x
unmoved b x c h = grind arith

-- a byte whose pair is as it was is not redrawn
pub byte_same : (bs : List ℕ) (i : ℕ) → slice_index bs i ≡ redrawn (card_shown bs (row i) (letter i)) (card_shown bs (row i) (letter i)) (letter i) (slice_index bs i)
byte_same bs i = unmoved (card_shown bs (row i) (letter i)) (slice_index bs i) (letter i) (open_byte bs i)

-- a byte x redrawn to y and y to z
twice : (a b d : Bool) (x y z c : ℕ) → y ≡ redrawn b a c x → z ≡ redrawn d b c y → (b ≡ true → (a ≡ true) ⊎ (d ≡ true)) → z ≡ redrawn d a c x
twice a b d x y z c e f m = grind arith

pub card_laws : Laws card_places card_shown CardRest
card_laws = record {
  few = λ bs. omega arith;
  within = λ bs p c h. (and_parts (in_range (card_places bs) p c) _ h).0;
  keeps = λ bs. record { size = refl; bytes = byte_same bs };
  joins = λ bs cs ds r q between. record {
    size = q.size ∙ r.size;
    bytes = λ i. twice (card_shown bs (row i) (letter i)) (card_shown cs (row i) (letter i)) (card_shown ds (row i) (letter i)) (slice_index bs i) (slice_index cs i) (slice_index ds i) (letter i) (r.bytes i) (q.bytes i) (between (row i) (letter i));
  };
  lasts = λ bs cs r. ap (λ n. min (n / 27) 24) r.size;
}
