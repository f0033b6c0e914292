-- The layer that a refusal belongs to: the sheet's for 1 to 10, the reader's for
-- 11 to 13, and from 14 on that of the text which was read. Assumes nothing.
use Rattle.std.specs.Prelude.{ℕ, List, codes}
use Rattle.refusal.specs.declared.Refusal.{Refusal}
use Rattle.refusal.specs.declared.Refusal.TheVariants.{NoSuchPlace, NotAStroke, NotOpen, MarksFull, WrongSlip, BadLength, LimitBarred, BoardTooShort, LentTooShort, NoRun, TextTooLong, UnknownLine, MalformedField, PartsMisplaced, OutOfRange, TooManyRules, NoRule, LimitMisplaced, TooManyPlaces}
use Rattle.refusal.specs.declared.Source.{Source}
use Rattle.refusal.specs.declared.Source.TheVariants as source
use Rattle.refusal.specs.declared.Layer.{Layer}
use Rattle.refusal.specs.declared.Layer.TheVariants as layer

-- the layer of what was read
abbrev pub source_layer : Source → Layer
source_layer source.Sheet = layer.Sheet
source_layer source.Book = layer.Book
source_layer source.Order = layer.Order

-- the layer of a refusal: the sheet's for 1 to 10, the reader's for 11 to 13, and from 14 on that of
-- what was read
abbrev pub layer_of : Refusal → Source → Layer
layer_of NoSuchPlace s = layer.Sheet
layer_of NotAStroke s = layer.Sheet
layer_of NotOpen s = layer.Sheet
layer_of MarksFull s = layer.Sheet
layer_of WrongSlip s = layer.Sheet
layer_of BadLength s = layer.Sheet
layer_of LimitBarred s = layer.Sheet
layer_of BoardTooShort s = layer.Sheet
layer_of LentTooShort s = layer.Sheet
layer_of NoRun s = layer.Sheet
layer_of TextTooLong s = layer.Reader
layer_of UnknownLine s = layer.Reader
layer_of MalformedField s = layer.Reader
layer_of PartsMisplaced s = source_layer s
layer_of OutOfRange s = source_layer s
layer_of TooManyRules s = source_layer s
layer_of NoRule s = source_layer s
layer_of LimitMisplaced s = source_layer s
layer_of TooManyPlaces s = source_layer s

-- the layer as it is printed
abbrev pub layer_name : Layer → List ℕ
layer_name layer.Sheet = codes "sheet"
layer_name layer.Reader = codes "reader"
layer_name layer.Book = codes "book"
layer_name layer.Order = codes "order"
