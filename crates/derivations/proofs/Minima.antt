-- The calculus of the least: of none, of one, of either, of both, and of one more.
use Rattle.std.proofs.Common.{◌≡◌, ℕ, ◌+◌, ◌<◌, ◌≤◌, Bool, true, false, cond, ◌⊎◌, sym, refl, ap, ◌∙◌, subst, inl, inr, arith}
use Rattle.std.proofs.lemmas.Bool.{both_ways, cases_lt}
use Rattle.scale.specs.Ops.{Ops, Laws, lesser_of}
use Rattle.derivations.specs.Least.{LeastOf}

-- what passes one of the tests R 0 .. R (m - 1)
abbrev pub Under : {X : Type 0} → ℕ → (ℕ → X → Type 0) → X → Type 0
Under m R x = (j : ℕ) × (j < m) × R j x

-- it passes an earlier test or the last
under_next : {X : Type 0} (R : ℕ → X → Type 0) (m : ℕ) (x : X) → Under (m + 1) R x → Under m R x ⊎ R m x
under_next R m x u = elim (cases_lt u.0 m) [
  | inl less ↦ inl (u.0, less, u.2)
  | inr more ↦ let last : u.0 ≡ m = omega (arith, u.1) in inr (rw last at u.2)
]

module _ {S : Type 0} {o : Ops S} (laws : Laws o) where
  pub le_join : (a b c d : S) → o.le a b ≡ true → o.le c d ≡ true → o.le (o.join a c) (o.join b d) ≡ true
  le_join a b c d h k =
      let left = laws.monotone a b c h in
      let right : o.le (o.join b c) (o.join b d) ≡ true = rw (laws.commutative b c, laws.commutative b d) (laws.monotone c d b k) in
      laws.transitive _ _ _ left right

  pub absorbs_right : (a : S) → o.join a o.barred ≡ o.barred
  absorbs_right a = laws.commutative a o.barred ∙ laws.absorbing a

  lesser_left : (a b : S) → o.le (lesser_of o a b) a ≡ true
  lesser_left a b = go (o.le a b) refl
    where
      go : (t : Bool) → o.le a b ≡ t → o.le (cond t a b) a ≡ true
      go true e = laws.reflexive a
      go false e = elim (laws.total a b) [ inl h ↦ absurd (both_ways _ e h) | inr h ↦ h ]

  lesser_right : (a b : S) → o.le (lesser_of o a b) b ≡ true
  lesser_right a b = go (o.le a b) refl
    where
      go : (t : Bool) → o.le a b ≡ t → o.le (cond t a b) b ≡ true
      go true e = e
      go false e = laws.reflexive b

  lesser_one : (a b : S) → (lesser_of o a b ≡ a) ⊎ (lesser_of o a b ≡ b)
  lesser_one a b = elim (o.le a b) as (λ t. (cond t a b ≡ a) ⊎ (cond t a b ≡ b)) [ true ↦ inl refl | false ↦ inr refl ]

  module _ {X : Type 0} where
    pub least_none : (P : X → Type 0) (w : X → S) → ((x : X) → P x → ⊥) → LeastOf o P w o.barred
    least_none P w none = record { below = λ x h. absurd (none x h); met = inl refl }

    -- exactly one passes
    pub least_one : (P : X → Type 0) (w : X → S) (x : X) → P x → ((y : X) → P y → w y ≡ w x) → LeastOf o P w (w x)
    least_one P w x px only = record { below = λ y h. rw (only y h) (laws.reflexive (w x)); met = inr (x, px, refl) }

    pub least_same : (P Q : X → Type 0) (w : X → S) (c : S) → ((x : X) → P x → Q x) → ((x : X) → Q x → P x) → LeastOf o P w c → LeastOf o Q w c
    least_same P Q w c to from l = record {
      below = λ x h. l.below x (from x h);
      met = elim l.met [ inl e ↦ inl e | inr t ↦ inr (t.0, to t.0 t.1, t.2) ];
    }

    pub least_either : (P Q : X → Type 0) (w : X → S) (a b : S) → LeastOf o P w a → LeastOf o Q w b → LeastOf o (λ x. P x ⊎ Q x) w (lesser_of o a b)
    least_either P Q w a b l m = record {
      below = λ x. elim [
        | inl h ↦ laws.transitive _ a _ (lesser_left a b) (l.below x h)
        | inr h ↦ laws.transitive _ b _ (lesser_right a b) (m.below x h)
      ];
      met = elim (lesser_one a b) [
        | inl e ↦ elim l.met [ inl f ↦ inl (e ∙ f) | inr t ↦ inr (t.0, inl t.1, t.2 ∙ sym e) ]
        | inr e ↦ elim m.met [ inl f ↦ inl (e ∙ f) | inr t ↦ inr (t.0, inr t.1, t.2 ∙ sym e) ]
      ];
    }

    -- the least of what is always paid besides
    pub least_plus : (P : X → Type 0) (w : X → S) (v c : S) → LeastOf o P w c → LeastOf o P (λ x. o.join v (w x)) (o.join v c)
    least_plus P w v c l = record {
      below = λ x h. le_join v v c (w x) (laws.reflexive v) (l.below x h);
      met = elim l.met [ inl e ↦ inl (ap (o.join v) e ∙ absorbs_right v) | inr t ↦ inr (t.0, t.1, ap (o.join v) t.2) ];
    }

  -- the least of a sum is the sum of the least
  pub least_both : {X Y : Type 0} (P : X → Type 0) (Q : Y → Type 0) (w : X → S) (v : Y → S) (a b : S) → LeastOf o P w a → LeastOf o Q v b → LeastOf o (λ (z : X × Y). P z.0 × Q z.1) (λ z. o.join (w z.0) (v z.1)) (o.join a b)
  least_both P Q w v a b l m = record {
    below = λ z h. le_join a (w z.0) b (v z.1) (l.below z.0 h.0) (m.below z.1 h.1);
    met = elim l.met [
      | inl e ↦ inl (ap (λ c. o.join c b) e ∙ laws.absorbing b)
      | inr t ↦ elim m.met [
        | inl e ↦ inl (ap (o.join a) e ∙ absorbs_right a)
        | inr u ↦ inr ((t.0, u.0), (t.1, u.1), ap (λ c. o.join c (v u.0)) t.2 ∙ ap (o.join a) u.2)
      ]
    ];
  }

  -- the same costs, given to other things
  pub least_through : {X Y : Type 0} (P : X → Type 0) (Q : Y → Type 0) (w : X → S) (v : Y → S) (c : S) → ((x : X) → P x → (y : Y) × Q y × (v y ≡ w x)) → ((y : Y) → Q y → (x : X) × P x × (w x ≡ v y)) → LeastOf o P w c → LeastOf o Q v c
  least_through P Q w v c to from l = record {
    below = λ y h. let f = from y h in rw f.2 at (l.below f.0 f.1);
    met = elim l.met [ inl e ↦ inl e | inr t ↦ let g = to t.0 t.1 in inr (g.0, g.1, g.2 ∙ t.2) ];
  }

  -- one more number
  pub least_count : (w : ℕ → S) (m : ℕ) (a c : S) → LeastOf o (λ j. j < m) w a → c ≡ lesser_of o a (w m) → LeastOf o (λ j. j < m + 1) w c
  least_count w m a c l e =
      let one : LeastOf o (λ j. j ≡ m) w (w m) = least_one (λ j. j ≡ m) w m refl (λ j h. ap w h) in
      let both = least_either (λ j. j < m) (λ j. j ≡ m) w a (w m) l one in
      let more : LeastOf o (λ j. j < m + 1) w (lesser_of o a (w m)) = least_same (λ j. (j < m) ⊎ (j ≡ m)) (λ j. j < m + 1) w (lesser_of o a (w m)) (λ j. elim [ inl h ↦ omega arith | inr h ↦ omega arith ]) (λ j h. last j h (cases_lt j m)) both in
      rw e more
    where
      last : (j : ℕ) → j < m + 1 → (j < m) ⊎ (m ≤ j) → (j < m) ⊎ (j ≡ m)
      last j h (inl lt) = inl lt
      last j h (inr le) = inr (omega arith)

  -- the least of the least
  pub least_union : {X : Type 0} (R : ℕ → X → Type 0) (w : X → S) (f : ℕ → S) (m : ℕ) (c : S) → LeastOf o (λ j. j < m) f c → ((j : ℕ) → j < m → LeastOf o (R j) w (f j)) → LeastOf o (Under m R) w c
  least_union R w f m c l each = record {
    below = λ x u. laws.transitive c (f u.0) (w x) (l.below u.0 u.1) ((each u.0 u.1).below x u.2);
    met = elim l.met [
      | inl e ↦ inl e
      | inr t ↦ elim (each t.0 t.1).met [ inl e ↦ inl (sym t.2 ∙ e) | inr u ↦ inr (u.0, (t.0, t.1, u.1), u.2 ∙ t.2) ]
    ];
  }

  -- one test more
  pub least_next : {X : Type 0} (R : ℕ → X → Type 0) (w : X → S) (m : ℕ) (a b : S) → LeastOf o (Under m R) w a → LeastOf o (R m) w b → LeastOf o (Under (m + 1) R) w (lesser_of o a b)
  least_next R w m a b l last =
      least_same (λ x. Under m R x ⊎ R m x) (Under (m + 1) R) w (lesser_of o a b)
      (λ x. elim [ inl u ↦ (u.0, omega (arith, u.1), u.2) | inr h ↦ (m, omega arith, h) ])
      (under_next R m)
      (least_either (Under m R) (R m) w a b l last)

  -- other costs, that are the same where the test passes
  pub least_costs : {X : Type 0} (P : X → Type 0) (w v : X → S) (c : S) → ((x : X) → P x → v x ≡ w x) → LeastOf o P w c → LeastOf o P v c
  least_costs P w v c same l = least_through P P w v c (λ x h. (x, h, same x h)) (λ x h. (x, h, sym (same x h))) l

  pub least_till : (w : ℕ → S) (m n : ℕ) (c : S) → m ≡ n → LeastOf o (λ j. j < m) w c → LeastOf o (λ j. j < n) w c
  least_till w m n c e l = subst (λ x. LeastOf o (λ j. j < x) w c) e l

  -- the least is one value
  pub least_unique : {X : Type 0} (P : X → Type 0) (w : X → S) (a b : S) → LeastOf o P w a → LeastOf o P w b → a ≡ b
  least_unique P w a b l m = laws.antisymmetric a b (under a b l m) (under b a m l)
    where
      under : (a b : S) → LeastOf o P w a → LeastOf o P w b → o.le a b ≡ true
      under a b l m = elim m.met [ inl e ↦ rw e (laws.top a) | inr t ↦ rw t.2 at (l.below t.0 t.1) ]
