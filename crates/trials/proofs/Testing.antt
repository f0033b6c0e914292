-- A test of each row of the table, which computes, and what it shows: a table whose rows pass holds.
use Rattle.std.proofs.Common.{◌≡◌, ℕ, Bool, true, not, ◌&&◌, ◌==◌, List, [], ◌∷◌, sym, nat_eq}
use Rattle.std.specs.List.{list_all}
use Rattle.std.specs.Cmp.Lexicographic.{same_text}
use Rattle.std.proofs.lemmas.Bool.{eqb-true, and_parts, not-true, not-false}
use lib.Pointwise.{pointwise}
use Rattle.scale.specs.Ops.{Ops, Laws}
use Rattle.scale.specs.Times.{time_ops}
use Rattle.scale.specs.TimesLemmas.{time_laws}
use Rattle.scale.specs.Grades.{grade_ops}
use Rattle.scale.specs.GradesLemmas.{grade_laws}
use Rattle.scale.specs.TimeGrades.{time_grade_ops}
use Rattle.scale.specs.TimeGradesLemmas.{time_grade_laws}
use Rattle.book.specs.BookSaid.{parts_of, rules_of}
use Rattle.derivations.specs.Trees.{Tree, strokes, weight, prices}
use Rattle.derivations.specs.Costs.{cost, least_cost}
use Rattle.planner.proofs.Searching.{none_within}
use Rattle.planner.proofs.Uniqueness.{one_pruned, one_quoted}
use Rattle.trials.specs.Jig.{jig, places, sheet}
use Rattle.trials.specs.Trials.{Row, costs, closes, refuses, quotes, Trial, makes_book, by_time, by_grade, by_time_grade, RowHolds, Holds, AllHold}
use Rattle.trials.proofs.Deciding.{each_derivation, some_fails}
use Rattle.trials.proofs.Closing.{left_open, count_closed, least_over, prunes_to}
use Rattle.trials.proofs.Quoting.{is_chosen, quotes_as}
use Rattle.trials.proofs.Ranging.{is_book, lawful_from}

module _ {S : Type 0} (o : Ops S) where
  -- whether two values are each not above the other
  abbrev pub equal : S → S → Bool
  equal a b = o.le a b && o.le b a

  -- whether the derivation spells the run, weighs the price, and is the one that the tie rule takes over the sheet
  abbrev pub writes : List ℕ → S → Tree → Bool
  writes run price t = pointwise nat_eq (strokes jig t) run && (equal (weight o (prices o jig) 0 t) price && is_chosen o (prices o jig) jig sheet 0 0 places t)

  -- the test of a row; that of a quote is whether some derivation over the sheet is the one that writes it
  abbrev pub row_passes : Row S → Bool
  row_passes (costs run price) = equal (cost o (prices o jig) jig run) price
  row_passes (closes limit closed) =
      not (o.le o.barred limit) && (o.le (least_cost o (prices o jig) jig places sheet) limit && closed == count_closed places sheet (left_open o (prices o jig) jig places sheet limit))
  row_passes (refuses limit) = not (o.le o.barred limit) && not (o.le (least_cost o (prices o jig) jig places sheet) limit)
  row_passes (quotes limit run price) =
      not (o.le o.barred limit) && (o.le price limit && (not (o.le o.barred price) && not (each_derivation places jig sheet 0 0 places (λ t. not (writes run price t)))))

-- the test of an example
abbrev pub passes : Trial → Bool
passes (makes_book b) = is_book (parts_of b) (rules_of b)
passes (by_time row) = row_passes time_ops row
passes (by_grade row) = row_passes grade_ops row
passes (by_time_grade row) = row_passes time_grade_ops row

module _ {S : Type 0} {o : Ops S} (laws : Laws o) where
  equal_same : (a b : S) → equal o a b ≡ true → a ≡ b
  equal_same a b h = let both = and_parts (o.le a b) (o.le b a) h in laws.antisymmetric a b both.0 both.1

  row_holds : (row : Row S) → row_passes o row ≡ true → RowHolds o row
  row_holds (costs run price) h = equal_same _ price h
  row_holds (closes limit closed) h =
      let W = prices o jig in
      let left = left_open o W jig places sheet limit in
      let least = least_cost o W jig places sheet in
      let opened = and_parts (not (o.le o.barred limit)) _ h in
      let within = and_parts (o.le least limit) _ opened.1 in
      let it = prunes_to laws W jig places sheet limit closed (not-true _ opened.0) within.0 (eqb-true closed _ within.1) in
      (not-true _ opened.0, (left, least, it), λ after least' other h. (one_pruned laws W jig places sheet limit after left least' least other closed h it).2)
  row_holds (refuses limit) h =
      let opened = and_parts (not (o.le o.barred limit)) _ h in
      let W = prices o jig in
      (not-true _ opened.0, none_within laws W jig places sheet limit _ (least_over laws W jig places sheet limit) (not-true _ opened.1))
  row_holds (quotes limit run price) h = (
    not-true _ (and_parts (not (o.le o.barred limit)) _ h).0,
    λ lent long.
        let W = prices o jig in
        let within = and_parts (o.le price limit) _ (and_parts (not (o.le o.barred limit)) _ h).1 in
        let lawful = and_parts (not (o.le o.barred price)) _ within.1 in
        let t = some_fails jig sheet places 0 0 places (λ t. not (writes o run price t)) (not-true _ lawful.1) in
        let run_is = and_parts (pointwise nat_eq (strokes jig t.0) run) _ (not-false _ t.2) in
        let price_is = and_parts (equal o (weight o W 0 t.0) price) _ run_is.1 in
        let same_run : strokes jig t.0 ≡ run = same_text _ run (sym run_is.0) in
        let same_price : weight o W 0 t.0 ≡ price = equal_same _ price price_is.0 in
        let it = rw (same_run, same_price) at (quotes_as laws W jig sheet places limit t.0 t.1 price_is.1 (rw same_price within.0) (rw same_price (not-true _ lawful.0)) lent long) in
        (it, λ written other q. one_quoted laws W jig places sheet limit lent written run other price q it),
  )

trial_holds : (trial : Trial) → passes trial ≡ true → Holds trial
trial_holds (makes_book b) h = lawful_from (parts_of b) (rules_of b) h
trial_holds (by_time row) h = row_holds time_laws row h
trial_holds (by_grade row) h = row_holds grade_laws row h
trial_holds (by_time_grade row) h = row_holds time_grade_laws row h

pub all_hold : (table : List Trial) → list_all passes table ≡ true → AllHold table
all_hold [] h = tt
all_hold (trial ∷ more) h = let both = and_parts (passes trial) (list_all passes more) h in (trial_holds trial both.0, all_hold more both.1)
