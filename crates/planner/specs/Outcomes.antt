-- What the calls of the planner answer: the tests before the search, in their order, and what an answer means. Assumes nothing.
use Rattle.std.specs.Prelude.{◌≡◌, ℕ, true, false, not, ◌&&◌, ◌||◌, ◌↔◌, Option, Some, None, Result, Ok, Err, List, ◌++◌, length, drop, nat_lt, if◌then◌else◌, ◌==◌}
use Rattle.std.specs.List.{list_all}
use Rattle.scale.specs.Ops.{Ops}
use Rattle.refusal.specs.declared.Refusal.{Refusal}
use Rattle.refusal.specs.declared.Refusal.TheVariants.{NotAStroke, BadLength, LimitBarred, BoardTooShort, LentTooShort, NoRun}
use Rattle.book.specs.declared.rules.Rule.{Rule}
use Rattle.book.specs.declared.books.Book.{Book}
use Rattle.book.specs.BookSaid.{rules_of}
use Rattle.sheet.specs.Pairs.{Pairs, is_stroke}
use Rattle.derivations.specs.Trees.{Tree, strokes, Weights, weights}
use Rattle.derivations.specs.Costs.{cost, least_cost}
use Rattle.derivations.specs.Runs.{IsOpen, Supported, Cheapest}
use Rattle.derivations.specs.Ties.{Chosen}
use Rattle.planner.specs.Boards.{board_entries}
use Rattle.planner.specs.Counts.{count_pairs}

-- the first test that fails decides; where none fails, an answer has what is wanted of it, and a refusal is 10 and there is no run
abbrev pub Answered : {A : Type 0} → Option Refusal → (A → Type 0) → Type 0 → Result A Refusal → Type 0
Answered (Some e) Wanted NoneIs result = result ≡ Err e
Answered None Wanted NoneIs (Ok a) = Wanted a
Answered None Wanted NoneIs (Err e) = (e ≡ NoRun) × NoneIs

-- what the checks before a search answer
abbrev pub passed : Option Refusal → Result (Unit {0}) Refusal
passed (Some e) = Err e
passed None = Ok tt

-- the first test that the price of a run fails, with a book of k parts and a board with `room`
abbrev pub price_refused : ℕ → List ℕ → ℕ → Option Refusal
price_refused k run room =
    if length run == 0 || nat_lt 24 (length run) then Some BadLength else (
    if not (list_all is_stroke run) then Some NotAStroke else (
    if nat_lt room (board_entries (length run) k) then Some BoardTooShort else None))

-- a cost, or refusal 10 where it is barred
abbrev pub unless_barred : {S : Type 0} → Ops S → S → Result S Refusal
unless_barred o c = if o.le o.barred c then Err NoRun else Ok c

-- what a price answers: the cost of the run by the book, where no test fails and the run is lawful
abbrev pub priced : {S : Type 0} → Ops S → Book → Option Refusal → List ℕ → Result S Refusal
priced o book (Some e) run = Err e
priced o book None run = unless_barred o (cost o (weights o book) (rules_of book) run)

-- the first test that a prune fails, of a sheet of n places, with a book of k parts and boards with `room`
abbrev pub prune_refused : {S : Type 0} → Ops S → ℕ → ℕ → S → ℕ → ℕ → Option Refusal
prune_refused o n k limit inside outside =
    if n == 0 then Some BadLength else (
    if o.le o.barred limit then Some LimitBarred else (
    if nat_lt inside (board_entries n k) || nat_lt outside (board_entries n k) then Some BoardTooShort else None))

-- the first test that a quote fails, where a run of so many bytes is lent besides
abbrev pub quote_refused : {S : Type 0} → Ops S → ℕ → ℕ → S → ℕ → ℕ → ℕ → Option Refusal
quote_refused o n k limit inside choices run =
    if n == 0 then Some BadLength else (
    if o.le o.barred limit then Some LimitBarred else (
    if nat_lt inside (board_entries n k) || nat_lt choices (board_entries n k) then Some BoardTooShort else (
    if nat_lt run n then Some LentTooShort else None)))

-- an accepted prune leaves the open pairs `after`, and answers `least` and `closed`
pub record PrunedTo {S : Type 0} (o : Ops S) (W : Weights S) (rules : List Rule) (n : ℕ) (before : Pairs) (limit : S) (after : Pairs) (least : S) (closed : ℕ) : Type 0 where
  -- a stroke is left open exactly where some run over the strokes open before, within the limit, has it
  pub kept : (p c : ℕ) → (after p c ≡ true) ↔ Supported o W rules n before limit p c
  -- `least` is what the cheapest open run costs, as it is computed, and is within the limit
  pub cheapest : Cheapest o W rules n before least
  pub value : least ≡ least_cost o W rules n before
  pub within : o.le least limit ≡ true
  -- `closed` is the number of pairs that were open and are closed
  pub count : closed ≡ count_pairs n (λ p c. before p c && not (after p c))

-- an accepted quote writes the run into what was lent, and answers its cost
pub record QuotedAs {S : Type 0} (o : Ops S) (W : Weights S) (rules : List Rule) (n : ℕ) (shown : Pairs) (limit : S) (lent written : List ℕ) (price : S) : Type 0 where
  pub tree : Tree
  -- the tie rule takes this derivation
  pub chosen : Chosen o W rules shown 0 0 n tree
  -- its strokes are the run: the first n bytes of what was lent, of which the rest is as it was
  pub run : written ≡ strokes rules tree ++ drop n lent
  -- the run is open, and its cost is the answer, within the limit and not barred
  pub is_open : IsOpen n shown (strokes rules tree)
  pub costs : price ≡ cost o W rules (strokes rules tree)
  pub within : o.le price limit ≡ true
  pub lawful : o.le o.barred price ≡ false
  -- no open run costs less
  pub cheapest : (other : List ℕ) → IsOpen n shown other → o.le price (cost o W rules other) ≡ true

-- a prune ends in one way
abbrev pub OnePruned : {S : Type 0} → Ops S → Type 0
OnePruned {S} o =
    (W : Weights S) (rules : List Rule) (n : ℕ) (before : Pairs) (limit : S) (after after' : Pairs) (least least' : S) (closed closed' : ℕ)
    → PrunedTo o W rules n before limit after least closed
    → PrunedTo o W rules n before limit after' least' closed'
    → (after ≡ after') × (least ≡ least') × (closed ≡ closed')

-- a quote ends in one way
abbrev pub OneQuoted : {S : Type 0} → Ops S → Type 0
OneQuoted {S} o =
    (W : Weights S) (rules : List Rule) (n : ℕ) (shown : Pairs) (limit : S) (lent written written' : List ℕ) (price price' : S)
    → QuotedAs o W rules n shown limit lent written price
    → QuotedAs o W rules n shown limit lent written' price'
    → (written ≡ written') × (price ≡ price')
