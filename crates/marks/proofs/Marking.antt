-- A mark set: the masks of the sheet have its open pairs, and stand as the latest.
use Rattle.std.proofs.Common.{◌≡◌, ℕ, ◌<◌, ◌≤◌, true, List, [], ◌∷◌, ◌++◌, length, Ok, refl, arith}
use Rattle.std.specs.Prelude.{reverse}
use mathlib.Core.Path.{fun_ext}
use Rattle.std.proofs.lemmas.List.{reverse-append, length-reverse, length-map}
use Rattle.std.proofs.lemmas.Bool.Decides.{nat_tests}
use Rattle.sheet.specs.Pairs.{Pairs, in_range}
use Rattle.sheet.specs.Masks.{mask_shown}
use Rattle.events.specs.States.{after_mark}
use Rattle.marks.specs.Copies.{copied}
use Rattle.marks.specs.Marks.{saved_by}

-- a copy onto a sheet with places enough is whole
pub copied_whole : (m n : ℕ) (f : Pairs) → m ≤ n → ((p c : ℕ) → f p c ≡ true → in_range m p c ≡ true) → copied n f ≡ f
copied_whole m n f few within = fun_ext (λ p. fun_ext (λ c. let h = within p c in grind (arith, nat_tests)))

pub saved_long : (n : ℕ) (rows : List (List ℕ)) → length (saved_by n rows) ≡ length rows
saved_long n rows = rw (length-map (reverse rows) (λ row. copied n (mask_shown row)), length-reverse rows) refl

pub saved_latest : (n : ℕ) (rows : List (List ℕ)) (row : List ℕ) (f : Pairs) → mask_shown row ≡ f → copied n f ≡ f → saved_by n (rows ++ row ∷ []) ≡ f ∷ saved_by n rows
saved_latest n rows row f e whole = rw (reverse-append rows (row ∷ []), e, whole)

pub marked_state : (n : ℕ) (rows : List (List ℕ)) (row : List ℕ) (f : Pairs) → length rows < 8 → mask_shown row ≡ f → ((p c : ℕ) → f p c ≡ true → in_range n p c ≡ true) → after_mark (record { shown = f; saved = saved_by n rows }) ≡ Ok (record { shown = f; saved = saved_by n (rows ++ row ∷ []) })
marked_state n rows row f room e within =
    rw (saved_latest n rows row f e (copied_whole n n f (omega arith) within)) (grind (arith, nat_tests, saved_long n rows))
