-- The lines that are played so far, and one more: what is told of them is what is printed of them. Assumes nothing.
use Rattle.std.proofs.Common.{◌≡◌, ℕ, ◌+◌, ◌<◌, ◌≤◌, List, [], ◌∷◌, ◌++◌, map, length, take, drop, Result, Ok, Err, MatchResult, refl, sym, ap, ◌∙◌, subst, subst₂, append_assoc, append-nil, arith}
use Rattle.std.specs.Prelude.{slice_set, is_ok}
use Rattle.std.proofs.lemmas.List.{take_more_set, take-append-drop, length-take-le, length-set}
use Rattle.scale.specs.Ops.{Ops, Laws}
use Rattle.refusal.specs.declared.Refusal.{Refusal}
use Rattle.book.specs.declared.books.Book.{Book}
use Rattle.sheet.specs.Pairs.{Pairs}
use Rattle.sheet.specs.Laws.{Laws as SheetLaws}
use Rattle.events.specs.declared.Event.{Event}
use Rattle.events.specs.declared.Accepted.{Accepted}
use Rattle.events.specs.States.{born}
use Rattle.events.specs.Steps.{Lent, Step, book_setting}
use Rattle.events.specs.Ledgers.{Ledger, ledger_at_birth, enter}
use Rattle.events.specs.Lives.{HasLived}
use Rattle.marks.specs.declared.marked.Marked.{Marked}
use Rattle.marks.specs.Marks.{SameSheet, sheet_below, sheet_number, setting, state}
use Rattle.marks.specs.Replays.{Replayed, each_lent}
use Rattle.marks.proofs.Replaying.{still_past, same_through, lived_on, replayed_quotes}
use Rattle.answers.specs.declared.lines.EventLine.{EventLine}
use Rattle.answers.specs.Notations.{Notation}
use Rattle.answers.specs.Texts.{EventTextLine, event, refused, line_as, reading_of, FirstRead, Lined}
use Rattle.answers.specs.Slips.{office_sheet_number, event_of, marks_after, events_of}
use Rattle.answers.specs.Counts.{marks_left}
use Rattle.answers.specs.Paragraphs.{answer_text}
use Rattle.answers.specs.Reports.{paragraphs, refused_line_text, printed_lines}
use Rattle.answers.specs.Offices.{office_lent, played_of, EventsPrinted, Heads}

-- so many lines of the text are played on the marked sheet and told to a list, from its birth, and `rest` is left of the text
pub record Sofar {S H : Type 0} (o : Ops S) (notation : Notation S) (price_text : S → List ℕ) (places : H → ℕ) (shown : H → Pairs) (book : Book) (start : Marked H) (n : ℕ) (text : List ℕ) (old : List (List ℕ)) (rest : List ℕ) (marks i : ℕ) (now : Marked H) (new : List (List ℕ)) : Type 0 where
  pub done : List (EventTextLine S)
  pub events : List (Event S)
  pub answers : List (Result (Accepted S) Refusal)
  pub ledger : Ledger S
  pub goes : (lines : List (EventTextLine S)) → Lined notation rest lines → Lined notation text (done ++ lines)
  pub named : (lines : List (EventTextLine S)) → events_of 0 (map reading_of (done ++ lines)) ≡ events ++ events_of marks (map reading_of lines)
  pub told : (lines : List (EventTextLine S)) (es : List (Event S)) (later : List (Result (Accepted S) Refusal)) → printed_lines 1 (done ++ lines) (paragraphs price_text n (events ++ es) (answers ++ later)) ≡ take i new ++ printed_lines (i + 1) lines (paragraphs price_text n es later)
  pub lived : HasLived o (setting o places book start) (shown (sheet_below start)) (each_lent office_lent events) answers (state places shown now) ledger
  pub kept : drop i new ≡ drop i old
  pub long : length new ≡ length old

module _ {S H : Type 0} {o : Ops S} (laws : Laws o) (notation : Notation S) (price_text : S → List ℕ) {places : H → ℕ} {shown : H → Pairs} {kept : H → H → Type 0} (sheets : SheetLaws places shown kept) (book : Book) (start : Marked H) (n : ℕ) (text : List ℕ) (old : List (List ℕ)) where
  abbrev So : List ℕ → ℕ → ℕ → Marked H → List (List ℕ) → Type 0
  So rest marks i now new = Sofar o notation price_text places shown book start n text old rest marks i now new

  -- at its birth nothing is
  pub none_yet : state places shown start ≡ born (shown (sheet_below start)) → So text 0 0 start old
  none_yet birth = record {
    done = [];
    events = [];
    answers = [];
    ledger = ledger_at_birth;
    goes = λ lines h. h;
    named = λ lines. refl;
    told = λ lines es later. refl;
    lived = (birth, refl);
    kept = refl;
    long = refl;
  }

  module _ (rest after : List ℕ) (marks i : ℕ) (was now : Marked H) (list : List (List ℕ)) (entry : List ℕ) (same : SameSheet kept start was) (then : SameSheet kept was now) (fits : i < length list) (s : So rest marks i was list) where
    -- the sheet is the same through one more
    pub same_on : SameSheet kept start now
    same_on = same_through laws sheets book start was now office_lent same then s.events s.answers s.ledger s.lived

    -- the entry is the first of what is left to be told
    joined : (xs ys : List (List ℕ)) → xs ≡ entry ∷ ys → take i list ++ xs ≡ take (i + 1) (slice_set list i entry) ++ ys
    joined xs ys e = ap (λ l. take i list ++ l) e ∙ sym (append_assoc (take i list) (entry ∷ []) ys) ∙ ap (λ l. l ++ ys) (sym (take_more_set list i entry fits))

    -- an event more
    event_on : (said : EventLine S) (answer : Result (Accepted S) Refusal) (lent : Lent) → FirstRead notation rest (event said) after → lent ≡ office_lent → Step o (setting o places book was) (state places shown was) (event_of marks said) lent answer (state places shown now) → entry ≡ answer_text price_text n (event_of marks said) answer → So after (marks_after marks said) (i + 1) now (slice_set list i entry)
    event_on said answer lent f lends step e =
        let ev = event_of marks said in
        record {
          done = s.done ++ event said ∷ [];
          events = s.events ++ ev ∷ [];
          answers = s.answers ++ answer ∷ [];
          ledger = enter s.ledger ev (is_ok answer);
          goes = λ lines h. subst (Lined notation text) (sym (append_assoc s.done (event said ∷ []) lines)) (s.goes (event said ∷ lines) (after, f, h));
          named = λ lines. ap (λ ls. events_of 0 (map reading_of ls)) (append_assoc s.done (event said ∷ []) lines) ∙ s.named (event said ∷ lines) ∙ sym (append_assoc s.events (ev ∷ []) (events_of (marks_after marks said) (map reading_of lines)));
          told = λ lines es later.
              (λ j. printed_lines 1 (append_assoc s.done (event said ∷ []) lines j) (paragraphs price_text n (append_assoc s.events (ev ∷ []) es j) (append_assoc s.answers (answer ∷ []) later j)))
              ∙ s.told (event said ∷ lines) (ev ∷ es) (answer ∷ later)
              ∙ joined _ _ (ap (λ p. p ∷ printed_lines (i + 1 + 1) lines (paragraphs price_text n es later)) (sym e));
          lived = lived_on laws sheets book start was now office_lent same then s.events (s.events ++ ev ∷ []) s.answers (s.answers ++ answer ∷ []) s.ledger ev answer lent s.lived lends step refl refl;
          kept = still_past list old i entry s.kept;
          long = length-set list i entry ∙ s.long;
        }

    -- a refused line more
    refused_on : (r : Refusal) (bytes : List ℕ) → FirstRead notation rest (refused r bytes) after → now ≡ was → entry ≡ refused_line_text r (i + 1) bytes → So after marks (i + 1) now (slice_set list i entry)
    refused_on r bytes f stays e = record {
      done = s.done ++ refused r bytes ∷ [];
      events = s.events;
      answers = s.answers;
      ledger = s.ledger;
      goes = λ lines h. subst (Lined notation text) (sym (append_assoc s.done (refused r bytes ∷ []) lines)) (s.goes (refused r bytes ∷ lines) (after, f, h));
      named = λ lines. ap (λ ls. events_of 0 (map reading_of ls)) (append_assoc s.done (refused r bytes ∷ []) lines) ∙ s.named (refused r bytes ∷ lines);
      told = λ lines es later.
          ap (λ ls. printed_lines 1 ls (paragraphs price_text n (s.events ++ es) (s.answers ++ later))) (append_assoc s.done (refused r bytes ∷ []) lines)
          ∙ s.told (refused r bytes ∷ lines) es later
          ∙ joined _ _ (ap (λ p. p ∷ printed_lines (i + 1 + 1) lines (paragraphs price_text n es later)) (sym e));
      lived = subst (λ (m : Marked H). HasLived o (setting o places book start) (shown (sheet_below start)) (each_lent office_lent s.events) s.answers (state places shown m) s.ledger) (sym stays) s.lived;
      kept = still_past list old i entry s.kept;
      long = length-set list i entry ∙ s.long;
    }

    -- a line more, as it is read
    pub line_on : (reading : Result (EventLine S) Refusal) (bytes : List ℕ) (lent : Lent) → FirstRead notation rest (line_as reading bytes) after → lent ≡ office_lent → MatchResult reading (λ said. (answer : Result (Accepted S) Refusal) × Step o (setting o places book was) (state places shown was) (event_of marks said) lent answer (state places shown now) × (entry ≡ answer_text price_text n (event_of marks said) answer)) (λ r. (now ≡ was) × (entry ≡ refused_line_text r (i + 1) bytes)) → So after (marks_left marks (reading ∷ [])) (i + 1) now (slice_set list i entry)
    line_on (Ok said) bytes lent f lends m = event_on said m.0 lent f lends m.1 m.2
    line_on (Err r) bytes lent f lends m = refused_on r bytes f m.0 m.1

  -- all lines
  pub all_told : (sheet : H) (rest : List ℕ) (marks i lines : ℕ) (now : Marked H) (new : List (List ℕ)) → sheet_below start ≡ sheet → sheet_number start ≡ office_sheet_number → n ≡ places sheet → rest ≡ [] → i ≡ lines → lines ≤ length old → So rest marks i now new → Heads (EventsPrinted o notation price_text book (places sheet) (shown sheet) text) lines old new
  all_told sheet rest marks i lines now new below number same none all fits so =
      let s : So rest marks lines now new = subst (λ k. So rest marks k now new) all so in
      let e : events_of 0 (map reading_of (s.done ++ [])) ≡ s.events = s.named [] ∙ append-nil s.events in
      let w = book_setting o book (places sheet) office_sheet_number in
      let here : HasLived o w (shown sheet) (each_lent office_lent s.events) s.answers (state places shown now) s.ledger = subst₂ (λ (x : H) (k : ℕ). HasLived o (book_setting o book (places x) k) (shown x) (each_lent office_lent s.events) s.answers (state places shown now) s.ledger) below number s.lived in
      let replayed : Replayed o w (shown sheet) (played_of (s.done ++ [])) s.answers (shown (sheet_below now)) = record {
        state = state places shown now;
        ledger = s.ledger;
        lived = subst (λ (es : List (Event S)). HasLived o w (shown sheet) (each_lent office_lent es) s.answers (state places shown now) s.ledger) (sym e) here;
        left = refl;
      } in
      record {
        texts = take lines new;
        wanted = record {
          lines = s.done ++ [];
          lined = s.goes [] none;
          answers = s.answers;
          after = shown (sheet_below now);
          replayed = replayed;
          quotes = replayed_quotes laws w (shown sheet) (shown (sheet_below now)) (played_of (s.done ++ [])) s.answers replayed;
          printed = sym (append-nil (take lines new)) ∙ sym (s.told [] [] []) ∙ (λ j. printed_lines 1 (s.done ++ []) (paragraphs price_text (same j) ((append-nil s.events ∙ sym e) j) (append-nil s.answers j)));
        };
        count = length-take-le lines new (omega (arith, s.long));
        fits = fits;
        written = sym (take-append-drop lines new) ∙ ap (λ d. take lines new ++ d) s.kept;
      }
