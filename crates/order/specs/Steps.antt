-- What the steps of the reader do: one line read, one line added to what stands. Assumes nothing.
use Rattle.std.specs.Prelude.{◌≡◌, Ok, Err, Result}
use Rattle.refusal.specs.declared.Refusal.{Refusal}
use Rattle.text.specs.Reading.{Passes, Fails}
use Rattle.order.specs.declared.limits.Limit.TheVariants as limits
use Rattle.order.specs.declared.reading.Line.{Line}
use Rattle.order.specs.declared.reading.Line.TheVariants as line
use Rattle.order.specs.declared.reading.OrderDraft.{OrderDraft}
use Rattle.order.specs.declared.reading.WholeOrder.{WholeOrder}
use Rattle.order.specs.Statements.{Said, limit, place, Stated, stated_after, order_tests}
use Rattle.order.specs.Texts.{stated_with}

-- what the code's line states
abbrev pub said_by : Line → Said
said_by (line.Time time) = limit (limits.Time time)
said_by (line.Grade grade) = limit (limits.Grade grade)
said_by (line.Both time grade) = limit (limits.Both time grade)
said_by (line.Place letters) = place letters.now

-- what the draft's lines state together
abbrev pub stated_by : OrderDraft → Stated
stated_by d = record { limit = d.limit; places = d.masks.items }

-- what the whole text states
abbrev pub whole_stated : WholeOrder → Stated
whole_stated w = stated_with w.limit w.masks.items

-- d takes the statement and becomes e, or is refused for the first test that fails and states what it stated
abbrev pub Adds : OrderDraft → Said → Result (Unit {0}) Refusal → OrderDraft → Type 0
Adds d said (Ok _) e = Passes (order_tests (stated_by d) said) × (stated_by e ≡ stated_after (stated_by d) said)
Adds d said (Err r) e = Fails (order_tests (stated_by d) said) r × (stated_by e ≡ stated_by d)
