-- The strokes of a sheet that some rule cuts within the limit.
use Rattle.std.proofs.Common.{◌≡◌, ℕ, ◌+◌, ◌-◌, ◌*◌, ◌<◌, ◌≤◌, ◌↔◌, Bool, true, false, cond, not, ◌&&◌, IsTrue, List, length, sym, ap, ◌∙◌, inl, inr, arith, slice_index_or, slice_set, get_or-set_other, get_or-set_same}
use Rattle.std.proofs.lemmas.Bool.{both_ways, cases_lt, cases_eq}
use Rattle.std.proofs.lemmas.Bool.Decides.{nat_tests}
use Rattle.scale.specs.Ops.{Ops}
use Rattle.book.specs.declared.rules.RightSide.TheVariants.{Cut}
use Rattle.book.specs.declared.rules.Rule.{Rule}
use Rattle.sheet.specs.Pairs.{Pairs, closed_at}
use Rattle.derivations.specs.Support.{CutWithin}
use Rattle.derivations.specs.Trees.{Makes, Weights, stroke_of}
use Rattle.planner.specs.Counts.{count_strokes, count_pairs}
use Rattle.planner.proofs.Counting.{strokes_few, strokes_same, strokes_more, pairs_few, pairs_same, pairs_more}

-- the rule at index r cuts the stroke c within the limit
abbrev pub CutBy : {S : Type 0} → Ops S → Weights S → List Rule → (ℕ → S) → ℕ → ℕ → S → ℕ → Type 0
CutBy o W rules out before c limit r = (part : ℕ) × Makes rules r part (Cut c) × (o.le (o.join (out part) (W r (before + 1) 1)) limit ≡ true)

module _ {S : Type 0} (o : Ops S) (W : Weights S) (rules : List Rule) (out : ℕ → S) (before : ℕ) (limit : S) where
  -- the table has the bytes of the strokes that some rule before index r cuts so, and no others
  abbrev pub Seen : List Bool → ℕ → Type 0
  Seen table r =
      (c : ℕ) → c < 256 → (slice_index_or table c false ≡ true) ↔ ((j : ℕ) × (j < r) × CutBy o W rules out before c limit j)

  pub seen_none : (table : List Bool) → ((c : ℕ) → c < 256 → slice_index_or table c false ≡ false) → Seen table 0
  seen_none table none c low = ((λ t. absurd (both_ways _ (none c low) t)), (λ w. absurd (omega (arith, w.1))))

  -- the rule at index r cuts no stroke so
  pub seen_same : (table : List Bool) (r : ℕ) → ((c : ℕ) → CutBy o W rules out before c limit r → ⊥) → Seen table r → Seen table (r + 1)
  seen_same table r none seen c low = (
    (λ t. let w = (seen c low).0 t in (w.0, omega (arith, w.1), w.2)),
    (λ w. elim (cases_lt w.0 r) [
      | inl less ↦ (seen c low).1 (w.0, less, w.2)
      | inr more ↦ let e : w.0 ≡ r = omega (arith, w.1) in absurd (none c (rw e at w.2))
    ]),
  )

  -- or it cuts the stroke s
  pub seen_more : (table : List Bool) (r s : ℕ) → length table ≡ 256 → s < 256 → CutBy o W rules out before s limit r → Seen table r → Seen (slice_set table s true) (r + 1)
  seen_more table r s long byte cuts seen c low = elim (cases_eq c s) [
    | inl e ↦
        rw e ((λ t. (r, omega arith, cuts)), (λ w. get_or-set_same table s true false (omega (arith, long))))
    | inr ne ↦
        let other = get_or-set_other table s c true false ne in (
          (λ t. let w = (seen c low).0 (sym other ∙ t) in (w.0, omega (arith, w.1), w.2)),
          (λ w. other ∙ elim (cases_lt w.0 r) [
            | inl less ↦ (seen c low).1 (w.0, less, w.2)
            | inr more ↦
                let at : w.0 ≡ r = omega (arith, w.1) in
                let here : CutBy o W rules out before c limit r = rw at at w.2 in
                let same : Cut c ≡ Cut s = sym here.1.by_side ∙ cuts.1.by_side in
                absurd (ne (ap stroke_of same))
          ]),
        )
  ]

-- the strokes of the place after the first `before` that f has and g has not
abbrev pub gone : Pairs → ℕ → Pairs → ℕ → Bool
gone f before g c = f (before + 1) c && not (g (before + 1) c)

-- the strokes of one place of a sheet with the open pairs f are closed, from A to before k, but for those that some rule cuts
module _ {S : Type 0} (o : Ops S) (W : Weights S) (rules : List Rule) (f : Pairs) (out : ℕ → S) (before : ℕ) (limit : S) where
  pub record Closed (g : Pairs) (k closed : ℕ) : Type 0 where
    pub others : (p c : ℕ) → (p ≡ before + 1 → ⊥) → g p c ≡ f p c
    pub later : (c : ℕ) → k ≤ c → g (before + 1) c ≡ f (before + 1) c
    pub done : (c : ℕ) → c < k → (g (before + 1) c ≡ true) ↔ CutWithin o W rules f out before c limit
    pub count : closed ≡ count_strokes (gone f before g) (k - 65)

  pub closed_less : (g : Pairs) (k closed : ℕ) → Closed g k closed → (p c : ℕ) → g p c ≡ true → f p c ≡ true
  closed_less g k closed l p c h = elim (cases_eq p (before + 1)) [
    | inl e ↦ rw e (elim (cases_lt c k) [ inl less ↦ ((l.done c less).0 (rw e at h)).opened | inr more ↦ sym (l.later c more) ∙ (rw e at h) ])
    | inr ne ↦ sym (l.others p c ne) ∙ h
  ]

  pub closed_few : (g : Pairs) (k closed : ℕ) → Closed g k closed → closed ≤ k - 65
  closed_few g k closed l = omega (arith, l.count, strokes_few (gone f before g) (k - 65))

  module _ (g : Pairs) (k closed : ℕ) (from : 65 ≤ k) (l : Closed g k closed) (b : Bool) (told : f (before + 1) k ≡ true → IsTrue b ↔ CutWithin o W rules f out before k limit) where
    -- some rule cuts the stroke
    pub closed_left : b ≡ true → Closed g (k + 1) closed
    closed_left t = record {
      others = l.others;
      later = λ c h. l.later c (omega arith);
      done = λ c h. elim (cases_lt c k) [
        | inl less ↦ l.done c less
        | inr more ↦ let e : c ≡ k = omega arith in rw e ((λ s. (told (sym (l.later k (omega arith)) ∙ s)).0 t), λ w. l.later k (omega arith) ∙ w.opened)
      ];
      count =
          let same = l.later k (omega arith) in
          let none : gone f before g k ≡ false = grind arith in
          l.count ∙ sym (strokes_more (gone f before g) k from ∙ ap (λ x. count_strokes (gone f before g) (k - 65) + cond x 1 0) none ∙ (omega arith));
    }

    -- no rule cuts it
    pub closed_shut : (h : Pairs) (r : Bool) (closed' : ℕ) → b ≡ false → r ≡ g (before + 1) k → h ≡ closed_at g (before + 1) k → closed' ≡ closed + cond r 1 0 → Closed h (k + 1) closed'
    closed_shut h r closed' t answer pairs more = record {
      others = λ p c apart. away p c (λ e. apart e.0) ∙ l.others p c apart;
      later = λ c past. away (before + 1) c (λ e. omega (arith, e.1)) ∙ l.later c (omega arith);
      done = λ c low. elim (cases_lt c k) [
        | inl less ↦ let same = away (before + 1) c (λ e. omega (arith, e.1)) in (λ s. (l.done c less).0 (sym same ∙ s), λ w. same ∙ (l.done c less).1 w)
        | inr past ↦ let e : c ≡ k = omega arith in rw e ((λ s. absurd (both_ways _ here s)), λ w. absurd (both_ways b t ((told w.opened).1 w)))
      ];
      count =
          let same = l.later k (omega arith) in
          let last : gone f before h k ≡ r = grind arith in
          let rest = strokes_same (gone f before g) (gone f before h) (k - 65) (λ c low high. ap (λ x. f (before + 1) c && not x) (sym (away (before + 1) c (λ e. omega (arith, e.1))))) in
          more ∙ ap (λ x. x + cond r 1 0) (l.count ∙ rest) ∙ ap (λ x. count_strokes (gone f before h) (k - 65) + cond x 1 0) (sym last) ∙ sym (strokes_more (gone f before h) k from);
    }
      where
        away : (p c : ℕ) → ((p ≡ before + 1) × (c ≡ k) → ⊥) → h p c ≡ g p c
        away p c apart = ap (λ s. s p c) pairs ∙ grind (arith, nat_tests)

        here : h (before + 1) k ≡ false
        here = ap (λ s. s (before + 1) k) pairs ∙ grind (arith, nat_tests)

-- and so are those of the first places of the sheet
module _ {S : Type 0} (o : Ops S) (W : Weights S) (rules : List Rule) (f : Pairs) (out : ℕ → ℕ → S) (limit : S) where
  pub record ClosedBefore (g : Pairs) (b closed : ℕ) : Type 0 where
    pub later : (p c : ℕ) → b < p → g p c ≡ f p c
    pub done : (q c : ℕ) → q < b → (g (q + 1) c ≡ true) ↔ CutWithin o W rules f (out q) q c limit
    pub count : closed ≡ count_pairs b (λ p c. f p c && not (g p c))

  pub before_less : (g : Pairs) (b closed : ℕ) → ClosedBefore g b closed → ((p c : ℕ) → g p c ≡ true → 1 ≤ p) → (p c : ℕ) → g p c ≡ true → f p c ≡ true
  before_less g b closed l low p c h = elim (cases_lt b p) [
    | inl past ↦ sym (l.later p c past) ∙ h
    | inr less ↦
        let some = low p c h in
        let e : p - 1 + 1 ≡ p = omega arith in
        rw e at ((l.done (p - 1) c (omega arith)).0 (rw (← e) at h)).opened
  ]

  pub before_few : (g : Pairs) (b closed : ℕ) → ClosedBefore g b closed → closed ≤ b * 26
  before_few g b closed l = omega (arith, l.count, pairs_few b (λ p c. f p c && not (g p c)))

  recut : (g h : Pairs) (b c : ℕ) → (g (b + 1) c ≡ true → h (b + 1) c ≡ true) → CutWithin o W rules g (out b) b c limit → CutWithin o W rules h (out b) b c limit
  recut g h b c more w = record { rule = w.rule; part = w.part; cuts = w.cuts; opened = more w.opened; within = w.within }

  pub before_more : (g h : Pairs) (b closed more : ℕ) → ClosedBefore g b closed → ((p c : ℕ) → (p ≡ b + 1 → ⊥) → h p c ≡ g p c) → ((c : ℕ) → (h (b + 1) c ≡ true) ↔ CutWithin o W rules g (out b) b c limit) → more ≡ count_strokes (gone g b h) 26 → ClosedBefore h (b + 1) (closed + more)
  before_more g h b closed more l others left counted = record {
    later = λ p c past. others p c (λ e. omega (arith, e)) ∙ l.later p c (omega arith);
    done = λ q c low. elim (cases_lt q b) [
      | inl less ↦ let same = others (q + 1) c (λ e. omega (arith, e)) in (λ s. (l.done q c less).0 (sym same ∙ s), λ w. same ∙ (l.done q c less).1 w)
      | inr past ↦
          let e : q ≡ b = omega arith in
          let same = l.later (b + 1) c (omega arith) in
          rw e ((λ s. recut g f b c (λ t. sym same ∙ t) ((left c).0 s), λ w. (left c).1 (recut f g b c (λ t. same ∙ t) w)))
    ];
    count =
        let rest = pairs_same b (λ p c. f p c && not (g p c)) (λ p c. f p c && not (h p c)) (λ p c low high. ap (λ x. f p c && not x) (sym (others p c (λ e. omega (arith, e))))) in
        let last = strokes_same (gone g b h) (gone f b h) 26 (λ c low high. ap (λ x. x && not (h (b + 1) c)) (l.later (b + 1) c (omega arith))) in
        omega (arith, l.count, rest, counted, last, pairs_more b (λ p c. f p c && not (h p c)));
  }
