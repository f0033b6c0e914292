-- The numbers of an order's places have 26 bits, and there are at most 16. Assumes nothing.
use Rattle.std.proofs.Common.{ℕ, ◌^◌, ◌<◌, ◌≤◌, List, [], ◌∷◌, length, subst, arith}
use Rattle.std.specs.List.{AllByRecursion}
use Rattle.std.proofs.ByRecursion.{All-push}
use Rattle.std.proofs.lemmas.List.{length_push}
use Rattle.text.specs.Reading.{Passes, Reads, Accepted}
use Rattle.order.specs.Letters.{mask_of}
use Rattle.order.specs.Statements.{Said, limit, place, States, Stated, stated_after, order_tests, order_form}
use Rattle.order.proofs.Lettering.{mask_small}

abbrev pub Small : List ℕ → Type 0
Small masks = AllByRecursion (λ mask. mask < 2 ^ 26) masks

small_after : (sum : Stated) (line : List ℕ) (said : Said) → Small sum.places → States line said → Small (stated_after sum said).places
small_after sum line (limit l) s t = s
small_after sum line (place ls) s t = All-push (λ mask. mask < 2 ^ 26) sum.places (mask_of ls) s (mask_small ls t.spelled)

reads_small : (before : List Said) (sum : Stated) (bs : List ℕ) (whole : Stated) (rest : List ℕ) → Small sum.places → Reads order_form before sum bs whole rest → Small whole.places
reads_small [] sum bs whole rest s h = subst (λ (d : Stated). Small d.places) h.0 s
reads_small (said ∷ before) sum bs whole rest s h = reads_small before (stated_after sum said) h.0 whole rest (small_after sum h.1.line said s h.1.stated) h.2

pub accepted_small : {text : List ℕ} (sum : Stated) → Accepted order_form text sum → Small sum.places
accepted_small {text} sum a = reads_small a.lines order_form.blank text sum [] tt a.reached.reads

few_after : (sum : Stated) (said : Said) → length sum.places ≤ 16 → Passes (order_tests sum said) → length (stated_after sum said).places ≤ 16
few_after sum (limit l) h p = h
few_after sum (place ls) h p = omega (arith, length_push sum.places (mask_of ls), p.1.0)

reads_few : (before : List Said) (sum : Stated) (bs : List ℕ) (whole : Stated) (rest : List ℕ) → length sum.places ≤ 16 → Reads order_form before sum bs whole rest → length whole.places ≤ 16
reads_few [] sum bs whole rest h r = subst (λ (d : Stated). length d.places ≤ 16) r.0 h
reads_few (said ∷ before) sum bs whole rest h r = reads_few before (stated_after sum said) r.0 whole rest (few_after sum said h r.1.passed) r.2

pub accepted_few : {text : List ℕ} (sum : Stated) → Accepted order_form text sum → length sum.places ≤ 16
accepted_few {text} sum a = reads_few a.lines order_form.blank text sum [] (omega arith) a.reached.reads
