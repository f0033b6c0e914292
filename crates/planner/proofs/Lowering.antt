-- One push more: the entries stay the least of what was brought to them.
use Rattle.std.proofs.Common.{◌≡◌, ℕ, ◌+◌, ◌-◌, ◌<◌, ◌≤◌, ◌≢◌, ◌⊎◌, List, length, slice_set, sym, refl, ap, ◌∙◌, subst, inl, inr, arith, length-set, get_or-set_other, get_or-set_same}
use mathlib.Core.Path.{subst₃}
use Rattle.std.proofs.lemmas.Bool.{cases_eq}
use Rattle.scale.specs.Ops.{Ops, Laws, lesser_of}
use Rattle.book.specs.declared.rules.Rule.{Rule}
use Rattle.derivations.specs.Least.{LeastOf}
use Rattle.derivations.specs.Trees.{Weights}
use Rattle.derivations.proofs.Minima.{least_one, least_same, least_either, least_costs}
use Rattle.planner.specs.Boards.{span_number, entry_index, entry_of}
use Rattle.planner.specs.Pushes.{Push, to_left, to_right, Lowers, pushed, span_of, PushedDown}
use Rattle.planner.proofs.Indexing.{index_below, same_index}

module _ (rules : List Rule) (n : ℕ) where
  one_target : (x : Push) (p b l q c m : ℕ) → Lowers rules n p b l x → Lowers rules n q c m x → (p ≡ q) × (b ≡ c) × (l ≡ m)
  one_target (to_left r part left right before len at) p b l q c m h g = (sym h.4 ∙ g.4, sym h.5 ∙ g.5, sym h.6 ∙ g.6)
  one_target (to_right r part left right before len at) p b l q c m h g = (sym h.4 ∙ g.4, sym h.5 ∙ g.5, sym h.6 ∙ g.6)

module _ {S : Type 0} {o : Ops S} (laws : Laws o) (W : Weights S) (rules : List Rule) (n k : ℕ) (inside : List S) where
  abbrev pub brought : List S → Push → S
  brought outside = pushed o W (entry_of o.barred k inside) (entry_of o.barred k outside)

  -- the same pushes, told otherwise
  pub same_pushes : (outside : List S) (D E : Push → Type 0) → ((x : Push) (p b l : ℕ) → Lowers rules n p b l x → D x → E x) → ((x : Push) (p b l : ℕ) → Lowers rules n p b l x → E x → D x) → PushedDown o W rules n k inside outside D → PushedDown o W rules n k inside outside E
  same_pushes outside D E to from d = record {
    room = d.room;
    top = d.top;
    rest = λ p b l hp some less few. least_same laws (λ x. Lowers rules n p b l x × D x) (λ x. Lowers rules n p b l x × E x) (brought outside) (entry_of o.barred k outside p b l) (λ x h. (h.0, to x p b l h.0 h.1)) (λ x h. (h.0, from x p b l h.0 h.1)) (d.rest p b l hp some less few);
  }

  -- an entry of a span before number s is written
  module _ (outside : List S) (part start size : ℕ) (c : S) (s : ℕ) (named : part < k) (earlier : span_number start size < s) where
    abbrev written : List S
    written = slice_set outside (entry_index k start size part) c

    apart : (q before len : ℕ) → s ≤ span_number before len → entry_index k before len q ≢ entry_index k start size part
    apart q before len later = let low = index_below k (span_number start size) (span_number before len) part named (omega arith) in omega (arith, low)

    -- a push from a later span brings what it brought
    pub brings_same : (x : Push) → s ≤ span_of x → brought written x ≡ brought outside x
    brings_same (to_left r q left right before len m) later = ap (λ y. o.join y (o.join (W r (before + 1) len) (entry_of o.barred k inside right (before + m) (len - m)))) (get_or-set_other outside (entry_index k start size part) (entry_index k before len q) c o.barred (apart q before len later))
    brings_same (to_right r q left right before len m) later = ap (λ y. o.join y (o.join (W r (before + 1) len) (entry_of o.barred k inside left before m))) (get_or-set_other outside (entry_index k start size part) (entry_index k before len q) c o.barred (apart q before len later))

    module _ (D : Push → Type 0) (x₀ : Push) (some₀ : 1 ≤ size) (less₀ : size < n) (target : Lowers rules n part start size x₀) (from₀ : s ≤ span_of x₀) (from : (x : Push) (p b l : ℕ) → Lowers rules n p b l x → D x → s ≤ span_of x) (is : c ≡ lesser_of o (entry_of o.barred k outside part start size) (brought outside x₀)) (room : entry_index k start size part < length outside) where
      -- the entry that is lowered
      here : LeastOf o (λ x. Lowers rules n part start size x × D x) (brought outside) (entry_of o.barred k outside part start size) → LeastOf o (λ x. Lowers rules n part start size x × (D x ⊎ (x ≡ x₀))) (brought written) (entry_of o.barred k written part start size)
      here l =
          let old = least_costs laws (λ x. Lowers rules n part start size x × D x) (brought outside) (brought written) (entry_of o.barred k outside part start size) (λ x h. brings_same x (from x part start size h.0 h.1)) l in
          let this = least_one laws (λ x. Lowers rules n part start size x × (x ≡ x₀)) (brought written) x₀ (target, refl) (λ x h. ap (brought written) h.1) in
          let both = least_either laws (λ x. Lowers rules n part start size x × D x) (λ x. Lowers rules n part start size x × (x ≡ x₀)) (brought written) (entry_of o.barred k outside part start size) (brought written x₀) old this in
          let all = least_same laws (λ x. (Lowers rules n part start size x × D x) ⊎ (Lowers rules n part start size x × (x ≡ x₀))) (λ x. Lowers rules n part start size x × (D x ⊎ (x ≡ x₀))) (brought written) (lesser_of o (entry_of o.barred k outside part start size) (brought written x₀)) (λ x. elim [ inl h ↦ (h.0, inl h.1) | inr h ↦ (h.0, inr h.1) ]) (λ x h. elim h.1 [ inl d ↦ inl (h.0, d) | inr e ↦ inr (h.0, e) ]) both in
          let value : entry_of o.barred k written part start size ≡ lesser_of o (entry_of o.barred k outside part start size) (brought written x₀) = get_or-set_same outside (entry_index k start size part) c o.barred room ∙ is ∙ ap (lesser_of o (entry_of o.barred k outside part start size)) (sym (brings_same x₀ from₀)) in
          subst (LeastOf o (λ x. Lowers rules n part start size x × (D x ⊎ (x ≡ x₀))) (brought written)) (sym value) all

      -- any other entry
      there : (p b l : ℕ) → entry_index k b l p ≢ entry_index k start size part → LeastOf o (λ x. Lowers rules n p b l x × D x) (brought outside) (entry_of o.barred k outside p b l) → LeastOf o (λ x. Lowers rules n p b l x × (D x ⊎ (x ≡ x₀))) (brought written) (entry_of o.barred k written p b l)
      there p b l other h =
          let old = least_costs laws (λ x. Lowers rules n p b l x × D x) (brought outside) (brought written) (entry_of o.barred k outside p b l) (λ x h. brings_same x (from x p b l h.0 h.1)) h in
          let all = least_same laws (λ x. Lowers rules n p b l x × D x) (λ x. Lowers rules n p b l x × (D x ⊎ (x ≡ x₀))) (brought written) (entry_of o.barred k outside p b l) (λ x h. (h.0, inl h.1)) (λ x h. elim h.1 [ inl d ↦ (h.0, d) | inr e ↦ let t = one_target rules n x₀ p b l part start size (subst (Lowers rules n p b l) e h.0) target in absurd (other (let e0 = t.0 in let e1 = t.1 in let e2 = t.2 in cc)) ]) old in
          subst (LeastOf o (λ x. Lowers rules n p b l x × (D x ⊎ (x ≡ x₀))) (brought written)) (sym (get_or-set_other outside (entry_index k start size part) (entry_index k b l p) c o.barred other)) all

      pub push_one : PushedDown o W rules n k inside outside D → PushedDown o W rules n k inside written (λ x. D x ⊎ (x ≡ x₀))
      push_one d = record {
        room = let long = length-set outside (entry_index k start size part) c in let was = d.room in omega arith;
        top = λ p hp. get_or-set_other outside (entry_index k start size part) (entry_index k 0 n p) c o.barred (λ e. omega (arith, (same_index k 0 n p start size part (omega arith) some₀ hp named e).1)) ∙ d.top p hp;
        rest = λ p b l hp some less few. elim (cases_eq (entry_index k b l p) (entry_index k start size part)) [
          | inl e ↦
              let same = same_index k b l p start size part some some₀ hp named e in
              subst₃ (λ a b d. LeastOf o (λ x. Lowers rules n a b d x × (D x ⊎ (x ≡ x₀))) (brought written) (entry_of o.barred k written a b d)) (sym same.2) (sym same.0) (sym same.1) (here (subst₃ (λ a b d. LeastOf o (λ x. Lowers rules n a b d x × D x) (brought outside) (entry_of o.barred k outside a b d)) same.2 same.0 same.1 (d.rest p b l hp some less few)))
          | inr ne ↦ there p b l ne (d.rest p b l hp some less few)
        ];
      }
