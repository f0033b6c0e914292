-- The number of each refusal. Assumes nothing.
use Rattle.std.specs.Prelude.{ℕ}
use Rattle.refusal.specs.declared.Refusal.{Refusal}
use Rattle.refusal.specs.declared.Refusal.TheVariants.{NoSuchPlace, NotAStroke, NotOpen, MarksFull, WrongSlip, BadLength, LimitBarred, BoardTooShort, LentTooShort, NoRun, TextTooLong, UnknownLine, MalformedField, PartsMisplaced, OutOfRange, TooManyRules, NoRule, LimitMisplaced, TooManyPlaces}

-- 1 to 19 are the numbers of the workshop
abbrev pub number_of : Refusal → ℕ
number_of NoSuchPlace = 1
number_of NotAStroke = 2
number_of NotOpen = 3
number_of MarksFull = 4
number_of WrongSlip = 5
number_of BadLength = 6
number_of LimitBarred = 7
number_of BoardTooShort = 8
number_of LentTooShort = 9
number_of NoRun = 10
number_of TextTooLong = 11
number_of UnknownLine = 12
number_of MalformedField = 13
number_of PartsMisplaced = 14
number_of OutOfRange = 15
number_of TooManyRules = 16
number_of NoRule = 17
number_of LimitMisplaced = 18
number_of TooManyPlaces = 19
