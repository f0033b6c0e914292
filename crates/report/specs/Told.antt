-- What a book's text and an order's text tell together, or which of the two is refused first. Assumes nothing.
use Rattle.std.specs.Prelude.{ℕ, ◌⊎◌, List, Err}
use Rattle.refusal.specs.declared.Source.TheVariants as source
use Rattle.refusal.specs.declared.Fault.{Fault}
use Rattle.text.specs.Readings.{FaultOf}
use Rattle.book.specs.declared.books.Book.{Book}
use Rattle.book.specs.Texts as books
use Rattle.order.specs.declared.limits.Limit.{Limit}
use Rattle.order.specs.Statements.{order_form}
use Rattle.order.specs.Texts as orders

-- the text is refused, and f is its first refusal, with the line
abbrev pub BookRefused : List ℕ → Fault → Type 0
BookRefused text f = books.Outcome text (Err f)

abbrev pub OrderRefused : List ℕ → Fault → Type 0
OrderRefused text f = FaultOf order_form source.Order text f

module _ (book order : List ℕ) where
  -- the one text tells this book, and the other an order of this limit and these places
  pub record Tells (b : Book) (l : Limit) (places : List (List ℕ)) : Type 0 where
    pub of_book : books.Tells book b
    pub of_order : orders.Tells order l places

  -- both texts are told, and what they tell is as wanted
  abbrev pub Told : (Book → Limit → List (List ℕ) → Type 0) → Type 0
  Told Wanted = (b : Book) × (l : Limit) × (places : List (List ℕ)) × Tells b l places × Wanted b l places

  -- the book is refused; else the order is; else what both tell is
  abbrev pub FirstRefused : (Book → Limit → List (List ℕ) → Fault → Type 0) → Fault → Type 0
  FirstRefused OfSheet f =
      BookRefused book f
      ⊎ ((((b : Book) × books.Tells book b) × OrderRefused order f)
      ⊎ Told (λ b l places. OfSheet b l places f))
