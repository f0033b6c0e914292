-- Whether a number of parts and some rules make a book, by a test of each number and letter, which computes.
use Rattle.std.proofs.Common.{◌≡◌, ℕ, ◌<◌, Bool, true, ◌&&◌, List, length, nat_lt, nat_le, slice_index_or}
use Rattle.std.specs.List.{list_all}
use Rattle.std.proofs.lemmas.List.Sums.{AllPass-from_list_all}
use Rattle.std.proofs.lemmas.Bool.{and_parts, ltb-true, leb-true}
use Rattle.book.specs.declared.rules.Rule.{Rule}
use Rattle.book.specs.Ranges.{highest, InRange, lettered, Lawful}

-- whether the rule's numbers are in the ranges of a book of k parts, and its stroke is a letter
abbrev pub in_book : ℕ → Rule → Bool
in_book k u = lettered u.side && (nat_lt (highest u.part u.side) k && (nat_le u.time 100000 && nat_le u.grade 254))

-- whether there are as many parts and rules as a book may have, and each rule is so
abbrev pub is_book : ℕ → List Rule → Bool
is_book k rules = nat_le 1 k && (nat_le k 32 && (nat_le 1 (length rules) && (nat_le (length rules) 128 && list_all (in_book k) rules)))

in_book_range : (k : ℕ) (u : Rule) → in_book k u ≡ true → InRange k u × (lettered u.side ≡ true)
in_book_range k u h =
    let letter = and_parts (lettered u.side) _ h in
    let part = and_parts (nat_lt (highest u.part u.side) k) _ letter.1 in
    let rest = and_parts (nat_le u.time 100000) _ part.1 in
    ((ltb-true _ k part.0, leb-true _ 100000 rest.0, leb-true _ 254 rest.1), letter.0)

pub lawful_from : (k : ℕ) (rules : List Rule) → is_book k rules ≡ true → Lawful k rules
lawful_from k rules h =
    let some_parts = and_parts (nat_le 1 k) _ h in
    let few_parts = and_parts (nat_le k 32) _ some_parts.1 in
    let some_rules = and_parts (nat_le 1 (length rules)) _ few_parts.1 in
    let few_rules = and_parts (nat_le (length rules) 128) _ some_rules.1 in
    let each = λ (i : ℕ) (d : Rule) (less : i < length rules). in_book_range k (slice_index_or rules i d) (AllPass-from_list_all (in_book k) rules few_rules.1 i d less) in
    record {
      some_parts = leb-true 1 k some_parts.0;
      few_parts = leb-true k 32 few_parts.0;
      some_rules = leb-true 1 _ some_rules.0;
      few_rules = leb-true _ 128 few_rules.0;
      ranged = λ i d less. (each i d less).0;
      lettered_strokes = λ i d less. (each i d less).1;
    }
