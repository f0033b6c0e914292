-- Each event ends in one way, and so a life is lived in one way.
use Rattle.std.proofs.Common.{◌+◌, ◌≡◌, ℕ, false, List, [], ◌∷◌, sym, refl, ◌∙◌, length, ap₂, inl, inr, arith}
use Rattle.std.specs.Prelude.{Option, None, Result, Ok, Err, OnErr, is_ok}
use Rattle.std.proofs.lemmas.Bool.{both_ways}
use Rattle.scale.specs.Ops.{Ops, Laws}
use Rattle.refusal.specs.declared.Refusal.{Refusal}
use Rattle.sheet.specs.Pairs.{Pairs}
use Rattle.derivations.specs.Trees.{strokes}
use Rattle.derivations.specs.Runs.{NoneWithin}
use Rattle.planner.specs.Outcomes.{Answered, prune_refused, quote_refused}
use Rattle.planner.proofs.Uniqueness.{one_pruned, one_quoted}
use Rattle.events.specs.declared.Event.{Event}
use Rattle.events.specs.declared.Event.TheVariants.{Strike, Mark, Keep, Back, Prune, Quote}
use Rattle.events.specs.declared.Accepted.{Accepted}
use Rattle.events.specs.declared.Accepted.TheVariants.{Done, Marked, Pruned, Quoted}
use Rattle.events.specs.States.{State, born, after_strike, after_mark, after_keep, after_back}
use Rattle.events.specs.Steps.{Setting, Lent, Leaves, Prunes, Quotes, QuoteEnds, Step}
use Rattle.events.specs.Ledgers.{Ledger, ledger_at_birth, enter}
use Rattle.events.specs.Lives.{Lives, OneLife}
use Rattle.events.proofs.Answering.{answered_ok, answered_one}

-- a prune that passes its tests has a limit that is not barred
prune_limit_open : {S : Type 0} (o : Ops S) (n k : ℕ) (limit : S) (inside outside : ℕ) → prune_refused o n k limit inside outside ≡ None → o.le o.barred limit ≡ false
prune_limit_open o n k limit inside outside h = grind arith

module _ {S : Type 0} {o : Ops S} (laws : Laws o) (w : Setting S) where
  one_left : (x : Accepted S) (r : Result State Refusal) (s next next' : State) (a b : Result (Accepted S) Refusal) → Leaves x r s a next → Leaves x r s b next' → (a ≡ b) × (next ≡ next')
  one_left x (Ok after) s next next' a b h k = (h.0 ∙ sym k.0, h.1 ∙ sym k.1)
  one_left x (Err e) s next next' a b h k = (h.0 ∙ sym k.0, h.1 ∙ sym k.1)

  -- a prune or a quote, asked in this state
  module _ (s : State) (limit : S) where
    abbrev None_is : Type 0
    None_is = NoneWithin o w.weights w.rules w.places s.shown limit

    -- one that is accepted has an open run within its limit
    prunes_some : (next : State) (x : Accepted S) → o.le o.barred limit ≡ false → Prunes o w s limit next x → None_is → ⊥
    prunes_some next (Pruned p) opened h none = elim h.0.cheapest.met [
      | inl e ↦ both_ways _ opened (rw e at h.0.within)
      | inr r ↦ none r.0 (record { is_open = r.1; within = rw r.2 h.0.within })
    ]
    prunes_some next Done opened h none = h
    prunes_some next (Marked level) opened h none = h
    prunes_some next (Quoted cost run) opened h none = h

    one_prune : (next next' : State) (x y : Accepted S) → Prunes o w s limit next x → Prunes o w s limit next' y → (x ≡ y) × (next ≡ next')
    one_prune next next' (Pruned p) (Pruned q) h k =
        let one = one_pruned laws w.weights w.rules w.places s.shown limit next.shown next'.shown p.least q.least p.closed q.closed h.0 k.0 in
        (ap₂ (λ (x : S) (y : ℕ). Pruned (record { least = x; closed = y })) one.1 one.2, ap₂ (λ (x : Pairs) (y : List Pairs). record { shown = x; saved = y }) one.0 (h.1 ∙ sym k.1))
    one_prune next next' (Pruned p) Done h k = absurd k
    one_prune next next' (Pruned p) (Marked level) h k = absurd k
    one_prune next next' (Pruned p) (Quoted c run) h k = absurd k
    one_prune next next' Done y h k = absurd h
    one_prune next next' (Marked level) y h k = absurd h
    one_prune next next' (Quoted c run) y h k = absurd h

    quotes_some : (lent : Lent) (x : Accepted S) → Quotes o w s.shown limit lent x → None_is → ⊥
    quotes_some lent (Quoted cost run) q none = none (strokes w.rules q.tree) (record { is_open = q.is_open; within = rw q.costs at q.within })
    quotes_some lent Done q none = q
    quotes_some lent (Marked level) q none = q
    quotes_some lent (Pruned p) q none = q

    one_quote : (lent : Lent) (x y : Accepted S) → Quotes o w s.shown limit lent x → Quotes o w s.shown limit lent y → x ≡ y
    one_quote lent (Quoted c run) (Quoted d other) h k =
        let one = one_quoted laws w.weights w.rules w.places s.shown limit lent.run run other c d h k in
        cc
    one_quote lent (Quoted c run) Done h k = absurd k
    one_quote lent (Quoted c run) (Marked level) h k = absurd k
    one_quote lent (Quoted c run) (Pruned q) h k = absurd k
    one_quote lent Done y h k = absurd h
    one_quote lent (Marked level) y h k = absurd h
    one_quote lent (Pruned p) y h k = absurd h

    one_next : (r : Option Refusal) (next next' : State) (a b : Result (Accepted S) Refusal) → a ≡ b → Answered r (Prunes o w s limit next) None_is a → Answered r (Prunes o w s limit next') None_is b → OnErr a (next ≡ s) → OnErr b (next' ≡ s) → next ≡ next'
    one_next r next next' (Ok x) (Ok y) same h k kept kept' = (one_prune next next' x y (answered_ok r _ _ x h) (answered_ok r _ _ y k)).1
    one_next r next next' (Err e) (Err f) same h k kept kept' = kept ∙ sym kept'
    one_next r next next' (Ok x) (Err f) same h k kept kept' = absurd cc
    one_next r next next' (Err e) (Ok y) same h k kept kept' = absurd cc

  one_step : (s next next' : State) (e : Event S) (lent : Lent) (a b : Result (Accepted S) Refusal) → Step o w s e lent a next → Step o w s e lent b next' → (a ≡ b) × (next ≡ next')
  one_step s next next' (Strike place stroke) lent a b h k = one_left Done (after_strike w.places s place stroke) s next next' a b h k
  one_step s next next' Mark lent a b h k = one_left (Marked (length s.saved + 1)) (after_mark s) s next next' a b h k
  one_step s next next' (Keep number level) lent a b h k = one_left Done (after_keep w.number s number level) s next next' a b h k
  one_step s next next' (Back number level) lent a b h k = one_left Done (after_back w.number s number level) s next next' a b h k
  one_step s next next' (Prune limit) lent a b h k =
      let r = prune_refused o w.places w.parts limit lent.inside lent.outside in
      let opened = prune_limit_open o w.places w.parts limit lent.inside lent.outside in
      let same = answered_one r _ _ _ (λ e x. prunes_some s limit next x (opened e)) (λ e x. prunes_some s limit next' x (opened e)) (λ x y p q. (one_prune s limit next next' x y p q).0) a b h.0 k.0 in
      (same, one_next s limit r next next' a b same h.0 k.0 h.1 k.1)
  one_step s next next' (Quote limit) lent a b h k =
      let r = quote_refused o w.places w.parts limit lent.inside lent.choices (length lent.run) in
      (answered_one r _ _ _ (λ e. quotes_some s limit lent) (λ e. quotes_some s limit lent) (one_quote s limit lent) a b h.0 k.0, h.1 ∙ sym k.1)

  one_lived : (s t t' : State) (g h h' : Ledger S) (events : List (Event S × Lent)) (answers others : List (Result (Accepted S) Refusal)) → Lives o w s g events answers t h → Lives o w s g events others t' h' → (answers ≡ others) × (t ≡ t') × (h ≡ h')
  one_lived s t t' g h h' [] [] [] l m = (refl, l.0 ∙ sym m.0, l.1 ∙ sym m.1)
  one_lived s t t' g h h' [] (a ∷ rest) others l m = absurd l
  one_lived s t t' g h h' [] [] (b ∷ rest') l m = absurd m
  one_lived s t t' g h h' (e ∷ es) [] others l m = absurd l
  one_lived s t t' g h h' (e ∷ es) (a ∷ rest) [] l m = absurd m
  one_lived s t t' g h h' (e ∷ es) (a ∷ rest) (b ∷ rest') l m =
      let one = one_step s l.0 m.0 e.0 e.1 a b l.1 m.1 in
      let after = one_lived l.0 t t' (enter g e.0 (is_ok a)) h h' es rest rest' l.2 (rw (one.0, one.1) m.2) in
      (cc, after.1, after.2)

pub one_life : {S : Type 0} {o : Ops S} → Laws o → OneLife o
one_life laws w birth events answers answers' s s' g g' l m = one_lived laws w (born birth) s s' ledger_at_birth g g' events answers answers' l m

-- a quote on these open pairs ends in one way
pub one_end : {S : Type 0} {o : Ops S} (laws : Laws o) (w : Setting S) (shown : Pairs) (limit : S) (lent : Lent) (a b : Result (Accepted S) Refusal) → QuoteEnds o w shown limit lent a → QuoteEnds o w shown limit lent b → a ≡ b
one_end {S} laws w shown limit lent a b h k =
    (one_step laws w (born shown) (born shown) (born shown) (Quote limit) lent a b (h, refl) (k, refl)).0
