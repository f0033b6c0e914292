-- The loop that writes the codes: codes that come to name each part that is still owed name the whole. In any order, since a part over
-- a span has one right code: where it stands, no other is written.
use Rattle.std.proofs.Common.{◌≡◌, ℕ, ◌+◌, ◌-◌, ◌*◌, ◌/◌, ◌%◌, ◌<◌, ◌≤◌, Some, false, List, [], ◌∷◌, ◌++◌, length, slice_set, refl, ◌∙◌, inl, inr, arith, get_or-set_same, get_or-set_other}
use Rattle.std.specs.List.{All, sum_by}
use Rattle.std.proofs.lemmas.Bool.{cases_eq}
use Rattle.std.proofs.lemmas.List.{length-append}
use Rattle.std.proofs.lemmas.List.Elements.{All-head, All-nil, All-push, All-pop}
use Rattle.std.proofs.lemmas.List.Sums.{sum_by-cons, sum_by_push}
use Rattle.scale.specs.Ops.{Ops, Laws}
use Rattle.book.specs.Ranges.{InRange}
use Rattle.book.specs.declared.rules.RightSide.TheVariants.{Cut, Pair}
use Rattle.book.specs.declared.rules.Rule.{Rule}
use Rattle.sheet.specs.Pairs.{Pairs}
use Rattle.derivations.specs.Trees.{rule_at, Weights}
use Rattle.derivations.proofs.Choosing.{best_same}
use Rattle.planner.specs.declared.choices.Owed.{Owed}
use Rattle.planner.specs.Boards.{board_entries, entry_index, entry_of}
use Rattle.planner.specs.Charts.{Inside}
use Rattle.planner.specs.Codes.{NamesChosen, Picked}
use Rattle.planner.proofs.Indexing.{entries_are, index_in_board, same_index}
use Rattle.planner.proofs.Tracing.{BestHalves, best_halves, names_cut, names_pair}

-- how many places the entries have together
abbrev places_owed : List Owed → ℕ
places_owed owed = sum_by (λ x. x.span.len) owed

-- how many turns of the loop they take at most: as many as their derivations have uses of rules
abbrev pub turns : List Owed → ℕ
turns owed = 2 * places_owed owed - length owed

owed_few : (owed : List Owed) → length owed ≤ places_owed owed
owed_few [] = omega arith
owed_few (x ∷ xs) = omega (arith, sum_by-cons (λ (y : Owed). y.span.len) x xs, owed_few xs, x.span.some)

owed_last : (rest : List Owed) (x : Owed) → (places_owed (rest ++ x ∷ []) ≡ places_owed rest + x.span.len) × (length (rest ++ x ∷ []) ≡ length rest + 1)
owed_last rest x = (sum_by_push (λ (y : Owed). y.span.len) rest x, length-append rest (x ∷ []))

pub turns_cut : (rest : List Owed) (x : Owed) → turns rest < turns (rest ++ x ∷ [])
turns_cut rest x = omega (arith, owed_few rest, owed_last rest x, x.span.some)

pub turns_pair : (rest : List Owed) (x a b : Owed) → a.span.len + b.span.len ≡ x.span.len → turns ((rest ++ a ∷ []) ++ b ∷ []) < turns (rest ++ x ∷ [])
turns_pair rest x a b e = omega (arith, e, owed_few rest, owed_last rest x, owed_last rest a, owed_last (rest ++ a ∷ []) b, a.span.some, b.span.some)

-- the code of a part over a span is one
one_picked : {S : Type 0} {o : Ops S} (laws : Laws o) (W : Weights S) (rules : List Rule) (shown : Pairs) (part before len c d : ℕ) → Picked o W rules shown part before len c → Picked o W rules shown part before len d → c ≡ d
one_picked laws W rules shown part before len c d (t, best, is) (u, other, same) =
    let e = best_same laws W rules shown part before len t u best other in
    omega (arith, is, same, e.0, e.1)

-- an entry is for one of k parts, at the first n places, and has a derivation
pub record Ready {S : Type 0} (o : Ops S) (k n : ℕ) (board : List S) (x : Owed) : Type 0 where
  pub part : x.part < k
  pub few : x.span.before + x.span.len ≤ n
  pub lawful : o.le o.barred (entry_of o.barred k board x.part x.span.before x.span.len) ≡ false

module _ {S : Type 0} (o : Ops S) (W : Weights S) (rules : List Rule) (shown : Pairs) (k : ℕ) where
  -- the codes name the derivation of an entry
  abbrev Named : List ℕ → Owed → Type 0
  Named codes x = NamesChosen o W rules shown k codes x.part x.span.before x.span.len

  -- a code that is right is the same in both
  abbrev Kept : List ℕ → List ℕ → Type 0
  Kept codes other =
      (q b l : ℕ) → q < k → 1 ≤ l → Picked o W rules shown q b l (entry_of 0 k codes q b l) → entry_of 0 k other q b l ≡ entry_of 0 k codes q b l

  -- codes that keep what is right, and name what is owed, name the part over the span
  abbrev Owes : List ℕ → List Owed → ℕ → ℕ → ℕ → Type 0
  Owes codes owed part before len =
      (other : List ℕ) → Kept codes other → All (Named other) owed → NamesChosen o W rules shown k other part before len

  -- what the loop keeps, for the part over the span
  pub record Owing (n : ℕ) (board : List S) (part before len : ℕ) (codes : List ℕ) (owed : List Owed) : Type 0 where
    pub ready : All (Ready o k n board) owed
    pub few : places_owed owed ≤ 24
    pub owes : Owes codes owed part before len

module _ {S : Type 0} {o : Ops S} {W : Weights S} {rules : List Rule} {shown : Pairs} {k n : ℕ} {board : List S} {codes : List ℕ} where
  pub owing_first : (x : Owed) → Ready o k n board x → Owing o W rules shown k n board x.part x.span.before x.span.len codes (x ∷ [])
  owing_first x ready = record {
    ready = All-push (Ready o k n board) [] x (All-nil (Ready o k n board)) ready;
    few = omega (arith, x.span.few, owed_last [] x);
    owes = λ other kept named. All-head (Named o W rules shown k other) x [] named;
  }

  module _ {part before len : ℕ} (rest : List Owed) (x : Owed) (owing : Owing o W rules shown k n board part before len codes (rest ++ x ∷ [])) where
    ready : All (Ready o k n board) rest × Ready o k n board x
    ready = All-pop (Ready o k n board) _ rest (Some x) refl owing.ready

    pub owing_few : length rest + x.span.len ≤ 24
    owing_few = omega (arith, owing.few, owed_few rest, owed_last rest x)

    module _ (room : board_entries n k ≤ length codes) where
      pub owing_room : entry_index k x.span.before x.span.len x.part < length codes
      owing_room = index_in_board k x.span.before x.span.len x.part n (length codes) ready.1.part x.span.some ready.1.few (omega (arith, room, entries_are n k))

      module _ (laws : Laws o) {code : ℕ} (picked : Picked o W rules shown x.part x.span.before x.span.len code) where
        abbrev written : List ℕ
        written = slice_set codes (entry_index k x.span.before x.span.len x.part) code

        coded : entry_of 0 k written x.part x.span.before x.span.len ≡ code
        coded = get_or-set_same codes (entry_index k x.span.before x.span.len x.part) code 0 owing_room

        written_kept : Kept o W rules shown k codes written
        written_kept q b l hq hl was = elim (cases_eq (entry_index k b l q) (entry_index k x.span.before x.span.len x.part)) [
          | inl same ↦
              let s = same_index k b l q x.span.before x.span.len x.part hl x.span.some hq ready.1.part same in
              rw (s.0, s.1, s.2) (coded ∙ one_picked laws W rules shown x.part x.span.before x.span.len code _ picked (rw (s.0, s.1, s.2) at was))
          | inr apart ↦ get_or-set_other codes (entry_index k x.span.before x.span.len x.part) (entry_index k b l q) code 0 apart
        ]

        -- what is owed after the code of the last entry is written names that entry
        owes_written : (later : List Owed) → ((other : List ℕ) → entry_of 0 k other x.part x.span.before x.span.len ≡ code → All (Named o W rules shown k other) later → All (Named o W rules shown k other) rest × Named o W rules shown k other x) → Owes o W rules shown k written later part before len
        owes_written later names other kept named =
            let at : entry_of 0 k other x.part x.span.before x.span.len ≡ code = kept x.part x.span.before x.span.len ready.1.part x.span.some (rw coded picked) ∙ coded in
            let all = names other at named in
            owing.owes other (λ q b l hq hl was. let same = written_kept q b l hq hl was in kept q b l hq hl (rw same was) ∙ same) (All-push (Named o W rules shown k other) rest x all.0 all.1)

        module _ (inside : Inside o W rules n shown k board) (ranged : All (InRange k) rules) (short : length rules ≤ 128) where
          pub owing_cut : (stroke : ℕ) → (rule_at rules (code % 128)).side ≡ Cut stroke → Owing o W rules shown k n board part before len written rest
          owing_cut stroke side = record {
            ready = ready.0;
            few = omega (arith, owing.few, owed_last rest x);
            owes = owes_written rest (λ other at named. (named, names_cut laws W rules shown k n board inside ranged short x.part x.span.before x.span.len code other stroke at picked side));
          }

          pub owing_halves : (left right : ℕ) → (rule_at rules (code % 128)).side ≡ Pair left right → BestHalves laws W rules shown k board x.part x.span.before x.span.len code left right (code / 128)
          owing_halves left right side = best_halves laws W rules shown k n board inside ranged short x.part x.span.before x.span.len code left right ready.1.part x.span.some ready.1.few ready.1.lawful picked side

          pub owing_pair : (a b : Owed) → BestHalves laws W rules shown k board x.part x.span.before x.span.len code a.part b.part a.span.len → a.span.before ≡ x.span.before → b.span.before ≡ x.span.before + a.span.len → b.span.len ≡ x.span.len - a.span.len → Owing o W rules shown k n board part before len written ((rest ++ a ∷ []) ++ b ∷ [])
          owing_pair a b h at after wide = record {
            ready = All-push (Ready o k n board) _ b (All-push (Ready o k n board) rest a ready.0 left_ready) right_ready;
            few = omega (arith, owing.few, h.fewer, wide, owed_last rest x, owed_last rest a, owed_last (rest ++ a ∷ []) b);
            owes = owes_written _ named;
          }
            where
              left_ready : Ready o k n board a
              left_ready = record { part = h.part_left; few = omega (arith, ready.1.few, h.fewer); lawful = rw at h.lawful_left }

              right_ready : Ready o k n board b
              right_ready = record { part = h.part_right; few = omega (arith, ready.1.few, h.fewer); lawful = rw (after, wide) h.lawful_right }

              named : (other : List ℕ) → entry_of 0 k other x.part x.span.before x.span.len ≡ code → All (Named o W rules shown k other) ((rest ++ a ∷ []) ++ b ∷ []) → All (Named o W rules shown k other) rest × Named o W rules shown k other x
              named other here names =
                  let of_b = All-pop (Named o W rules shown k other) _ (rest ++ a ∷ []) (Some b) refl names in
                  let of_a = All-pop (Named o W rules shown k other) _ rest (Some a) refl of_b.0 in
                  (of_a.0, names_pair laws W rules shown k n board inside ranged short x.part x.span.before x.span.len code other a.part b.part a.span.len here h (rw at at of_a.1) (rw (after, wide) at of_b.1))
