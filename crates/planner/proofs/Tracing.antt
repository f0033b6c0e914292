-- The codes that are chosen name the derivation that the tie rule takes.
use Rattle.std.proofs.Common.{All, ◌≡◌, ℕ, ◌+◌, ◌-◌, ◌/◌, ◌%◌, ◌<◌, ◌≤◌, true, false, List, ◌++◌, length, drop, sym, refl, ap, ◌∙◌, inl, inr, arith}
use Rattle.std.proofs.lemmas.Bool.{both_ways, false_from_ne_true}
use Rattle.scale.specs.Ops.{Ops, Laws}
use Rattle.book.specs.Ranges.{InRange}
use Rattle.book.specs.declared.rules.RightSide.TheVariants.{Cut, Pair}
use Rattle.book.specs.declared.rules.Rule.{Rule}
use Rattle.sheet.specs.Pairs.{Pairs}
use Rattle.derivations.specs.Trees.{Tree, cut, pair, width, rule_at, blank, Makes, strokes, Weights, weight}
use Rattle.derivations.specs.Costs.{DerivesOver}
use Rattle.derivations.specs.Ties.{first_rule, split, NotAfter, Best, Chosen}
use Rattle.derivations.proofs.Minima.{le_join, absorbs_right}
use Rattle.derivations.proofs.Deriving.{width_some, length_strokes, derives_size, left_of, right_of}
use Rattle.derivations.proofs.Choosing.{chosen_best, best_weighs}
use Rattle.planner.specs.Boards.{entry_of}
use Rattle.planner.specs.Charts.{Inside}
use Rattle.planner.specs.Codes.{code_of, Follows, NamesChosen, Picked}
use Rattle.planner.specs.Writing.{written_at}
use Rattle.planner.proofs.Naming.{halves_within}
use Rattle.planner.proofs.Following.{code_parts, written_first}

module _ {S : Type 0} {o : Ops S} (laws : Laws o) where
  -- what is joined is barred only where the whole is
  open_halves : (a b c : S) → o.le o.barred (o.join a (o.join b c)) ≡ false → (o.le o.barred b ≡ false) × (o.le o.barred c ≡ false)
  open_halves a b c goes = (
    false_from_ne_true _ (λ h. closed (rw (laws.antisymmetric b o.barred (laws.top b) h, laws.absorbing c) (absorbs_right laws a))),
    false_from_ne_true _ (λ h. closed (rw (laws.antisymmetric c o.barred (laws.top c) h, absorbs_right laws b) (absorbs_right laws a))),
  )
    where
      closed : o.join a (o.join b c) ≡ o.barred → ⊥
      closed e = both_ways _ goes (rw e (laws.reflexive o.barred))

  open_below : (c x : S) → o.le c x ≡ true → o.le o.barred x ≡ false → o.le o.barred c ≡ false
  open_below c x h goes = false_from_ne_true _ (λ k. both_ways _ goes (laws.transitive o.barred c x k h))

  module _ (W : Weights S) (rules : List Rule) (shown : Pairs) where
    -- a derivation that is no dearer, by the same split and first rule, leads too
    leads_moved : (part before len : ℕ) (t u : Tree) → Best o W rules shown part before len t → DerivesOver rules shown part before len u → o.le (weight o W before u) (weight o W before t) ≡ true → split u ≡ split t → first_rule u ≡ first_rule t → Best o W rules shown part before len u
    leads_moved part before len t u leads d cheap at by = record {
      derives = d;
      least = λ v e. laws.transitive _ _ _ cheap (leads.least v e);
      first = λ v e w. moved v (leads.first v e (w ∙ laws.antisymmetric _ _ cheap (leads.least u d)));
    }
      where
        moved : (v : Tree) → NotAfter t v → NotAfter u v
        moved v (inl h) = inl (omega (arith, h, at))
        moved v (inr h) = inr (at ∙ h.0, omega (arith, h.1, by))

    -- its strokes are written over the first n of a list
    pub chosen_written : (n before : ℕ) (t : Tree) (xs ys : List ℕ) → before ≡ 0 → n ≤ length xs → Chosen o W rules shown 0 0 n t → ys ≡ written_at xs before (strokes rules t) → ys ≡ strokes rules t ++ drop n xs
    chosen_written n before t xs ys none room chosen written =
        let leads = chosen_best laws W rules shown 0 0 n t chosen in
        let long : length (strokes rules t) ≡ n = length_strokes rules t ∙ derives_size rules shown 0 0 n t leads.derives in
        rw none at written ∙ rw long at (written_first xs (strokes rules t) (omega (arith, long)))

    module _ (k : ℕ) (codes : List ℕ) where
      -- with the halves that the codes name, for those of a derivation that leads
      found_pair : (part before len r left right : ℕ) (a b : Tree) → Best o W rules shown part before len (pair r a b) → entry_of 0 k codes part before len ≡ code_of (width a) r → len ≡ width a + width b → Makes rules r part (Pair left right) → DerivesOver rules shown left before (width a) a → DerivesOver rules shown right (before + width a) (width b) b → NamesChosen o W rules shown k codes left before (width a) → NamesChosen o W rules shown k codes right (before + width a) (width b) → NamesChosen o W rules shown k codes part before len
      found_pair part before len r left right a b leads code size makes da db fa fb =
          let x = fa.0 in
          let y = fb.0 in
          let lx = chosen_best laws W rules shown left before (width a) x fa.2 in
          let ly = chosen_best laws W rules shown right (before + width a) (width b) y fb.2 in
          let wx : width x ≡ width a = derives_size rules shown left before (width a) x lx.derives in
          let wy : width y ≡ width b = derives_size rules shown right (before + width a) (width b) y ly.derives in
          let cheap : o.le (weight o W before (pair r x y)) (weight o W before (pair r a b)) ≡ true = rw (wx, wy, weight) (le_join laws _ _ _ _ (laws.reflexive _) (le_join laws _ _ _ _ (lx.least a da) (ly.least b db))) in
          let dx : DerivesOver rules shown left before (width x) x = rw wx lx.derives in
          let dy : DerivesOver rules shown right (before + width x) (width y) y = rw (wx, wy) ly.derives in
          let whole : len ≡ width x + width y = rw (wx, wy) size in
          let moved = leads_moved part before len (pair r a b) (pair r x y) leads (whole, left, right, makes, dx, dy) cheap wx refl in
          let named : entry_of 0 k codes part before len ≡ code_of (width x) r = rw wx code in
          let fx : Follows rules codes k left before (width x) x = rw wx fa.1 in
          let fy : Follows rules codes k right (before + width x) (width y) y = rw (wx, wy) fb.1 in
          let cx : Chosen o W rules shown left before (width x) x = rw wx fa.2 in
          let cy : Chosen o W rules shown right (before + width x) (width y) y = rw (wx, wy) fb.2 in
          (pair r x y, (whole, named, left, right, makes, fx, fy), (moved, left, right, makes, cx, cy))

    -- the halves of a best derivation whose first rule pairs two parts
    pub record BestHalves (k : ℕ) (board : List S) (part before len code left right m : ℕ) : Type 0 where
      pub rule : ℕ
      pub a : Tree
      pub b : Tree
      pub best : Best o W rules shown part before len (pair rule a b)
      pub coded : code ≡ code_of (width a) rule
      pub size : len ≡ width a + width b
      pub makes : Makes rules rule part (Pair left right)
      pub over_left : DerivesOver rules shown left before (width a) a
      pub over_right : DerivesOver rules shown right (before + width a) (width b) b
      pub wide : width a ≡ m
      pub rest : width b ≡ len - m
      pub some : 1 ≤ m
      pub fewer : m < len
      pub part_left : left < k
      pub part_right : right < k
      pub lawful_left : o.le o.barred (entry_of o.barred k board left before m) ≡ false
      pub lawful_right : o.le o.barred (entry_of o.barred k board right (before + m) (len - m)) ≡ false

    module _ (k n : ℕ) (board : List S) (inside : Inside o W rules n shown k board) (ranged : All (InRange k) rules) (short : length rules ≤ 128) (part before len code : ℕ) where
      pub best_halves : (left right : ℕ) → part < k → 1 ≤ len → before + len ≤ n → o.le o.barred (entry_of o.barred k board part before len) ≡ false → Picked o W rules shown part before len code → (rule_at rules (code % 128)).side ≡ Pair left right → BestHalves k board part before len code left right (code / 128)
      best_halves left right hp some few goes (cut r, leads, is) side =
          let d = leads.derives in
          let listed : r < length rules = d.2.listed in
          let c = code_parts 0 r (omega arith) in
          let at : code % 128 ≡ r = ap (λ x. x % 128) is ∙ c.1 in
          let e : Pair left right ≡ Cut d.1 = sym (rw at at side) ∙ d.2.by_side in
          cc
      best_halves left right hp some few goes (pair r a b, leads, is) side =
          let d = leads.derives in
          let c = code_parts (width a) r (omega (arith, d.3.listed)) in
          let at : code % 128 ≡ r = ap (λ x. x % 128) is ∙ c.1 in
          let w : code / 128 ≡ width a = ap (λ x. x / 128) is ∙ c.0 in
          let e : Pair d.1 d.2 ≡ Pair left right = sym d.3.by_side ∙ rw at at side in
          let to_left : d.1 ≡ left = ap left_of e in
          let to_right : d.2 ≡ right = ap right_of e in
          let parts = halves_within k (rule_at rules r).part d.1 d.2 (rule_at rules r).side d.3.by_side (ranged r blank d.3.listed).0 in
          let sa = width_some a in
          let sb = width_some b in
          let weighs = best_weighs laws W rules shown part before len (pair r a b) _ leads (inside part before len hp some few) in
          let halves = open_halves _ (weight o W before a) (weight o W (before + width a) b) (rw (← weighs) at goes) in
          let end : before + width a + width b ≤ n = omega (arith, d.0) in
          let goes_left = open_below _ _ ((inside d.1 before (width a) parts.0 sa (omega (arith, end))).below a d.4) halves.0 in
          let goes_right = open_below _ _ ((inside d.2 (before + width a) (width b) parts.1 sb end).below b d.5) halves.1 in
          let others : len - width a ≡ width b = omega (arith, d.0) in
          record {
            rule = r;
            a = a;
            b = b;
            best = leads;
            coded = is;
            size = d.0;
            makes = rw (← to_left, ← to_right) d.3;
            over_left = rw (← to_left) d.4;
            over_right = rw (← to_right) d.5;
            wide = sym w;
            rest = rw w (sym others);
            some = omega (arith, w, sa);
            fewer = omega (arith, w, sb, d.0);
            part_left = rw (← to_left) parts.0;
            part_right = rw (← to_right) parts.1;
            lawful_left = rw (← to_left, w) goes_left;
            lawful_right = rw (← to_right, w, others) goes_right;
          }

      -- the code of a cut
      pub names_cut : (codes : List ℕ) (stroke : ℕ) → entry_of 0 k codes part before len ≡ code → Picked o W rules shown part before len code → (rule_at rules (code % 128)).side ≡ Cut stroke → NamesChosen o W rules shown k codes part before len
      names_cut codes stroke at (cut r, leads, is) side =
          let d = leads.derives in
          (cut r, (d.0, omega (arith, at, is), d.1, d.2), leads)
      names_cut codes stroke at (pair r a b, leads, is) side =
          let d = leads.derives in
          let c = code_parts (width a) r (omega (arith, d.3.listed)) in
          let by : code % 128 ≡ r = ap (λ x. x % 128) is ∙ c.1 in
          let e : Cut stroke ≡ Pair d.1 d.2 = sym (rw by at side) ∙ d.3.by_side in
          cc

      -- and of a pair, where the codes name its halves
      pub names_pair : (codes : List ℕ) (left right m : ℕ) → entry_of 0 k codes part before len ≡ code → (h : BestHalves k board part before len code left right m) → NamesChosen o W rules shown k codes left before m → NamesChosen o W rules shown k codes right (before + m) (len - m) → NamesChosen o W rules shown k codes part before len
      names_pair codes left right m at h fa fb =
          found_pair k codes part before len h.rule left right h.a h.b h.best (at ∙ h.coded) h.size h.makes h.over_left h.over_right (rw h.wide fa) (rw (h.wide, h.rest) fb)
