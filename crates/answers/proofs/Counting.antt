-- An event ends a mark, sets one or leaves the marks alone, and so they are counted as they stand. Assumes nothing.
use Rattle.std.proofs.Common.{◌≡◌, ℕ, ◌+◌, ◌-◌, ◌≤◌, min, Bool, true, false, if◌then◌else◌, List, [], ◌∷◌, length, Result, Ok, Err, OnErr, refl, sym, ap, ◌∙◌, subst, arith}
use Rattle.std.proofs.lemmas.Bool.Decides.{nat_tests}
use Rattle.scale.specs.Ops.{Ops}
use Rattle.refusal.specs.declared.Refusal.{Refusal}
use Rattle.refusal.specs.declared.Refusal.TheVariants.{MarksFull, WrongSlip}
use Rattle.derivations.specs.Runs.{NoneWithin}
use Rattle.sheet.specs.Strikes.{struck}
use Rattle.sheet.specs.Pairs.{closed_at}
use Rattle.planner.specs.Outcomes.{Answered, prune_refused}
use Rattle.events.specs.declared.Accepted.{Accepted}
use Rattle.events.specs.declared.Accepted.TheVariants.{Done, Marked, Pruned, Quoted}
use Rattle.events.specs.States.{State, left_by, earlier, latest, fits}
use Rattle.events.specs.Steps.{Setting, Lent, Leaves, Prunes, Step}
use Rattle.events.specs.Ledgers.{Ledger}
use Rattle.events.specs.Lives.{Lives}
use Rattle.events.proofs.Answering.{answered_ok}
use Rattle.marks.specs.Replays.{each_lent}
use Rattle.answers.specs.declared.lines.EventLine.{EventLine}
use Rattle.answers.specs.declared.lines.EventLine.TheVariants.{Strike, Mark, Keep, Back, Prune, Quote}
use Rattle.answers.specs.Slips.{office_sheet_number, event_of, marks_after, events_of}
use Rattle.answers.specs.Counts.{marks_left, MarksCounted}

fewer : {A : Type 0} (xs : List A) → length (earlier xs) ≡ length xs - 1
fewer [] = refl
fewer (x ∷ xs) = omega arith

module _ {S : Type 0} (s next : State) (answer : Result (Accepted S) Refusal) where
  -- where the marks are left alone
  same_marks : (said : Accepted S) (r : Result (Unit {0}) Refusal) (after : State) → after.saved ≡ s.saved → Leaves said (left_by r after) s answer next → length next.saved ≡ length s.saved
  same_marks said (Ok x) after e l = ap (λ (st : State). length st.saved) l.1 ∙ ap length e
  same_marks said (Err r) after e l = ap (λ (st : State). length st.saved) l.1

  -- where one may be set, and where one may be ended
  one_set : (said : Accepted S) (b : Bool) (after : State) → length after.saved ≡ length s.saved + 1 → (b ≡ true → length s.saved + 1 ≤ 8) → (b ≡ false → 8 ≤ length s.saved) → length s.saved ≤ 8 → Leaves said (if b then Ok after else Err MarksFull) s answer next → length next.saved ≡ min (length s.saved + 1) 8
  one_set said true after e room full few l = omega (arith, ap (λ (st : State). length st.saved) l.1, e, room refl)
  one_set said false after e room full few l = omega (arith, ap (λ (st : State). length st.saved) l.1, full refl)

  one_ended : (said : Accepted S) (b : Bool) (after : State) → length after.saved ≡ length s.saved - 1 → (b ≡ false → length s.saved ≡ 0) → Leaves said (if b then Ok after else Err WrongSlip) s answer next → length next.saved ≡ length s.saved - 1
  one_ended said true after e none l = ap (λ (st : State). length st.saved) l.1 ∙ e
  one_ended said false after e none l = omega (arith, ap (λ (st : State). length st.saved) l.1, none refl)

-- a slip of the office's sheet and of as many marks as stand fits, unless none stands
slip_fits : (number marks : ℕ) → number ≡ office_sheet_number → fits number marks office_sheet_number marks ≡ false → marks ≡ 0
slip_fits number marks e h = grind (arith, nat_tests)

module _ {S : Type 0} (o : Ops S) (w : Setting S) (one : w.number ≡ office_sheet_number) (lent : Lent) where
  pruned_marks : (s next : State) (limit : S) (a : Accepted S) → Prunes o w s limit next a → next.saved ≡ s.saved
  pruned_marks s next limit (Pruned p) h = h.1
  pruned_marks s next limit Done h = absurd h
  pruned_marks s next limit (Marked level) h = absurd h
  pruned_marks s next limit (Quoted cost run) h = absurd h

  after_prune : (s next : State) (limit : S) (answer : Result (Accepted S) Refusal) → Answered (prune_refused o w.places w.parts limit lent.inside lent.outside) (Prunes o w s limit next) (NoneWithin o w.weights w.rules w.places s.shown limit) answer × OnErr answer (next ≡ s) → length next.saved ≡ length s.saved
  after_prune s next limit (Ok a) h = ap length (pruned_marks s next limit a (answered_ok (prune_refused o w.places w.parts limit lent.inside lent.outside) (Prunes o w s limit next) (NoneWithin o w.weights w.rules w.places s.shown limit) a h.0))
  after_prune s next limit (Err e) h = ap (λ (st : State). length st.saved) h.1

  step_counted : (said : EventLine S) (s next : State) (answer : Result (Accepted S) Refusal) → length s.saved ≤ 8 → Step o w s (event_of (length s.saved) said) lent answer next → length next.saved ≡ marks_after (length s.saved) said
  step_counted (Strike place stroke) s next answer few l = same_marks s next answer Done (struck w.places s.shown place stroke) (record { shown = closed_at s.shown place stroke; saved = s.saved }) refl l
  step_counted Mark s next answer few l = one_set s next answer (Marked (length s.saved + 1)) _ (record { shown = s.shown; saved = s.shown ∷ s.saved }) (omega arith) (λ h. grind (arith, nat_tests)) (λ h. grind (arith, nat_tests)) few l
  step_counted Keep s next answer few l = one_ended s next answer Done _ (record { shown = s.shown; saved = earlier s.saved }) (fewer s.saved) (slip_fits w.number (length s.saved) one) l
  step_counted Back s next answer few l = one_ended s next answer Done _ (record { shown = latest s.shown s.saved; saved = earlier s.saved }) (fewer s.saved) (slip_fits w.number (length s.saved) one) l
  step_counted (Prune limit) s next answer few l = after_prune s next limit answer l
  step_counted (Quote limit) s next answer few l = ap (λ (st : State). length st.saved) l.1

  few_marks : (marks : ℕ) (said : EventLine S) → marks ≤ 8 → marks_after marks said ≤ 8
  few_marks marks (Strike place stroke) h = h
  few_marks marks Mark h = omega arith
  few_marks marks Keep h = omega arith
  few_marks marks Back h = omega arith
  few_marks marks (Prune limit) h = h
  few_marks marks (Quote limit) h = h

  counted : (readings : List (Result (EventLine S) Refusal)) (marks : ℕ) (s t : State) (g h : Ledger S) (answers : List (Result (Accepted S) Refusal)) → length s.saved ≡ marks → marks ≤ 8 → Lives o w s g (each_lent lent (events_of marks readings)) answers t h → length t.saved ≡ marks_left marks readings
  counted [] marks s t g h [] e few l = ap (λ (st : State). length st.saved) l.0 ∙ e
  counted [] marks s t g h (a ∷ answers) e few l = absurd l
  counted (Err r ∷ more) marks s t g h answers e few l = counted more marks s t g h answers e few l
  counted (Ok said ∷ more) marks s t g h [] e few l = absurd l
  counted (Ok said ∷ more) marks s t g h (a ∷ answers) e few l =
      let step = subst (λ m. Step o w s (event_of m said) lent a l.0) (sym e) l.1 in
      let next = step_counted said s l.0 a (omega (arith, e)) step ∙ ap (λ m. marks_after m said) e in
      counted more (marks_after marks said) l.0 t _ h answers next (few_marks marks said few) l.2

pub marks_counted : {S : Type 0} (o : Ops S) → MarksCounted o
marks_counted o w birth readings lent answers s g one l = counted o w one lent readings 0 _ s _ g answers refl (omega arith) l
