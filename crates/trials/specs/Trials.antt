-- The table of the jig order's examples, and what each of its rows says of the definitions. Assumes nothing.
use Rattle.std.specs.Prelude.{◌≡◌, false, ℕ, List, [], ◌∷◌, length, codes}
use Rattle.scale.specs.declared.prices.times.Time.{Time}
use Rattle.scale.specs.declared.prices.grades.Grade.{Grade}
use Rattle.scale.specs.declared.prices.time_grades.TimeGrade.{TimeGrade}
use Rattle.scale.specs.Ops.{Ops}
use Rattle.scale.specs.Times.{time, time_ops}
use Rattle.scale.specs.Grades.{grade_of, grade_ops}
use Rattle.scale.specs.TimeGrades.{time_grade, time_grade_ops}
use Rattle.book.specs.declared.books.Book.{Book}
use Rattle.book.specs.BookSaid.{parts_of, rules_of}
use Rattle.book.specs.Ranges.{Lawful}
use Rattle.sheet.specs.Pairs.{Pairs}
use Rattle.derivations.specs.Trees.{weights}
use Rattle.derivations.specs.Costs.{cost}
use Rattle.derivations.specs.Runs.{NoneWithin}
use Rattle.planner.specs.Outcomes.{PrunedTo, QuotedAs}
use Rattle.trials.specs.Jig.{jig_book, places, sheet}

-- an example, in the values S of a scale
pub data Row (S : Type 0) : Type 0 where
  -- what the run costs
  costs : (run : List ℕ) → (price : S) → Row S
  -- how many strokes a prune of the sheet within the limit closes
  closes : (limit : S) → (closed : ℕ) → Row S
  -- the sheet has no open run within the limit
  refuses : (limit : S) → Row S
  -- which run a quote of the sheet within the limit writes, and what that costs
  quotes : (limit : S) → (run : List ℕ) → (price : S) → Row S

-- an example: that what is said makes a book; or a row on the scale of time, of grade, or of time and then grade
pub data Trial : Type 0 where
  makes_book : Book → Trial
  by_time : Row Time → Trial
  by_grade : Row Grade → Trial
  by_time_grade : Row TimeGrade → Trial

-- the examples
abbrev pub trials : List Trial
trials =
    makes_book jig_book
    ∷ by_time (costs (codes "S") (time 12))
    ∷ by_time (costs (codes "JSK") (time 45))
    ∷ by_time (costs (codes "JMK") (time 63))
    ∷ by_time (closes (time 54) 0)
    ∷ by_time (closes (time 53) 1)
    ∷ by_time (closes (time 44) 3)
    ∷ by_time (closes (time 36) 3)
    ∷ by_time (refuses (time 35))
    ∷ by_grade (quotes (grade_of 2) (codes "SSS") (grade_of 2))
    ∷ by_grade (closes (grade_of 2) 1)
    ∷ by_grade (refuses (grade_of 1))
    ∷ by_grade (closes (grade_of 4) 0)
    ∷ by_time_grade (closes (time_grade 45 2) 1)
    ∷ by_time_grade (closes (time_grade 45 1) 3)
    ∷ []

module _ {S : Type 0} (o : Ops S) where
  -- what a prune of the sheet within the limit comes to
  abbrev pub JigPruned : (limit : S) → Pairs → S → ℕ → Type 0
  JigPruned limit after least closed = PrunedTo o (weights o jig_book) (rules_of jig_book) places sheet limit after least closed

  -- what a quote of the sheet within the limit comes to, where the list `lent` was lent
  abbrev pub JigQuoted : (limit : S) → (lent written : List ℕ) → S → Type 0
  JigQuoted limit lent written price = QuotedAs o (weights o jig_book) (rules_of jig_book) places sheet limit lent written price

  -- what a row says; a prune or a quote comes to that and to nothing else, whichever list of three bytes is lent. No limit is
  -- barred, so a row that refuses does so for want of a run
  abbrev pub RowHolds : Row S → Type 0
  RowHolds (costs run price) = cost o (weights o jig_book) (rules_of jig_book) run ≡ price
  RowHolds (closes limit closed) =
      (o.le o.barred limit ≡ false)
      × ((after : Pairs) × (least : S) × JigPruned limit after least closed)
      × ((after : Pairs) (least : S) (other : ℕ) → JigPruned limit after least other → other ≡ closed)
  RowHolds (refuses limit) = (o.le o.barred limit ≡ false) × NoneWithin o (weights o jig_book) (rules_of jig_book) places sheet limit
  RowHolds (quotes limit run price) =
      (o.le o.barred limit ≡ false)
      × ((lent : List ℕ) → length lent ≡ places → JigQuoted limit lent run price × ((written : List ℕ) (other : S) → JigQuoted limit lent written other → (written ≡ run) × (other ≡ price)))

-- what an example says, of the operations of its scale
abbrev pub Holds : Trial → Type 0
Holds (makes_book b) = Lawful (parts_of b) (rules_of b)
Holds (by_time row) = RowHolds time_ops row
Holds (by_grade row) = RowHolds grade_ops row
Holds (by_time_grade row) = RowHolds time_grade_ops row

-- each of the examples holds
abbrev pub AllHold : List Trial → Type 0
AllHold [] = Unit {0}
AllHold (trial ∷ more) = Holds trial × AllHold more

-- each example of the table holds
abbrev pub TrialsHold : Type 0
TrialsHold = AllHold trials
