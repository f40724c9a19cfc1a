-- What one insertion, one replacement and one removal make of the cells and the keys of the empty ones.
use Rattle.std.proofs.Common.{◌≡◌, refl, sym, ap, subst, ◌∙◌, arith, set}
use Rattle.std.specs.Prelude.{ℕ, ◌≢◌, zero, suc, ◌≤◌, ◌<◌, ◌+◌, ◌==◌, cond, Bool, true, false, List, [], ◌∷◌, ◌++◌, length, Option, Some, None, is_some}
use Rattle.std.proofs.lemmas.Bool.{eqb-true, eqb-false, eq-eqb}
use Rattle.std.proofs.lemmas.List.{length-set, length-append}
use Rattle.std.proofs.lemmas.List.Sums.{sum_by-set, sum_by-append}
use Rattle.frame_stack.specs.Cells.{cell_at, taken, IsInserted}
use Rattle.frame_stack.specs.Vacancy.{times, free_at, AreVacant}

pub times_push : (k x : ℕ) (xs : List ℕ) → times k (xs ++ x ∷ []) ≡ times k xs + cond (k == x) 1 0
times_push k x [] = omega (arith)
times_push k x (y ∷ ys) = let ih = times_push k x ys in omega (arith, ih)

same : (k : ℕ) → ◌≡◌ {A = ℕ} (cond (k == k) 1 0) 1
same k = ap (λ b. cond b 1 0) (eq-eqb k k refl)

module _ {T : Type 0} where
  free_small : (cells : List (Option T)) (k : ℕ) → free_at cells k ≤ 1
  free_small [] k = omega (arith)
  free_small (Some v ∷ cells) zero = omega (arith)
  free_small (None ∷ cells) zero = omega (arith)
  free_small (cell ∷ cells) (suc k) = free_small cells k

  free_within : (cells : List (Option T)) (k : ℕ) → free_at cells k ≡ 1 → k < length cells
  free_within [] k h = absurd (omega (arith, h))
  free_within (cell ∷ cells) zero h = omega (arith)
  free_within (cell ∷ cells) (suc k) h = let ih = free_within cells k h in omega (arith, ih)

  free_none : (cells : List (Option T)) (k : ℕ) → free_at cells k ≡ 1 → cell_at cells k ≡ None
  free_none [] k h = refl
  free_none (None ∷ cells) zero h = refl
  free_none (Some v ∷ cells) zero h = absurd (omega (arith, h))
  free_none (cell ∷ cells) (suc k) h = free_none cells k h

  pub some_within : (cells : List (Option T)) (k : ℕ) (v : T) → cell_at cells k ≡ Some v → k < length cells
  some_within [] k v h = absurd cc
  some_within (cell ∷ cells) zero v h = omega (arith)
  some_within (cell ∷ cells) (suc k) v h = let ih = some_within cells k v h in omega (arith, ih)

  free_set_same : (cells : List (Option T)) (k : ℕ) (c : Option T) → k < length cells → free_at (set cells k c) k ≡ cond (is_some c) 0 1
  free_set_same [] k c h = absurd (omega (arith, h))
  free_set_same (cell ∷ cells) zero c h = refl
  free_set_same (cell ∷ cells) (suc k) c h = free_set_same cells k c (omega (arith, h))

  free_set_other : (cells : List (Option T)) (k j : ℕ) (c : Option T) → j ≢ k → free_at (set cells k c) j ≡ free_at cells j
  free_set_other [] k j c h = refl
  free_set_other (cell ∷ cells) zero zero c h = absurd (h refl)
  free_set_other (cell ∷ cells) zero (suc j) c h = refl
  free_set_other (cell ∷ cells) (suc k) zero c h = refl
  free_set_other (cell ∷ cells) (suc k) (suc j) c h = free_set_other cells k j c (λ e. h (ap suc e))

  free_set : (cells : List (Option T)) (k j : ℕ) (c : Option T) → k < length cells → free_at (set cells k c) j ≡ cond (j == k) (cond (is_some c) 0 1) (free_at cells j)
  free_set cells k j c h = by_case (j == k) refl where
    by_case : (b : Bool) → (j == k) ≡ b → free_at (set cells k c) j ≡ cond b (cond (is_some c) 0 1) (free_at cells j)
    by_case true e = ap (λ n. free_at (set cells k c) n) (eqb-true j k e) ∙ free_set_same cells k c h
    by_case false e = free_set_other cells k j c (eqb-false j k e)

  free_push : (cells : List (Option T)) (j : ℕ) (v : T) → free_at (cells ++ Some v ∷ []) j ≡ free_at cells j
  free_push [] zero v = refl
  free_push [] (suc j) v = refl
  free_push (cell ∷ cells) zero v = refl
  free_push (cell ∷ cells) (suc j) v = free_push cells j v

  -- a taken cell is not free
  free_taken : (cells : List (Option T)) (k : ℕ) (v : T) → cell_at cells k ≡ Some v → free_at cells k ≡ 0
  free_taken [] k v h = refl
  free_taken (Some w ∷ cells) zero v h = refl
  free_taken (None ∷ cells) zero v h = absurd cc
  free_taken (cell ∷ cells) (suc k) v h = free_taken cells k v h

  abbrev pub one : Option T → ℕ
  one o = cond (is_some o) 1 0

  pub taken_set : (cells : List (Option T)) (k : ℕ) (c : Option T) → k < length cells → taken (set cells k c) + one (cell_at cells k) ≡ taken cells + one c
  taken_set cells k c h = sum_by-set (λ o. cond (is_some o) 1 0) cells k c None h

  pub taken_push : (cells : List (Option T)) (v : T) → taken (cells ++ Some v ∷ []) ≡ taken cells + 1
  taken_push cells v = sum_by-append (λ o. cond (is_some o) 1 0) cells (Some v ∷ [])

  pub replaced : (cells : List (Option T)) (vacant : List ℕ) (room k : ℕ) (v w : T) → cell_at cells k ≡ Some v → AreVacant cells vacant room → AreVacant (set cells k (Some w)) vacant room
  replaced cells vacant room k v w is a =
      let lt = some_within cells k v is in
      let t : taken (set cells k (Some w)) + 1 ≡ taken cells + 1 = subst (λ o. taken (set cells k (Some w)) + one o ≡ taken cells + 1) is (taken_set cells k (Some w) lt) in
      let l = length-set cells k (Some w) in
      record {
        listed = λ j. a.listed j ∙ sym (free_set cells k j (Some w) lt ∙ stays j (free_taken cells k v is));
        counted = let c = a.counted in omega (arith, c, t, l);
        roomy = let r = a.roomy in omega (arith, r, l);
      } where
        stays : (j : ℕ) → free_at cells k ≡ 0 → cond (j == k) 0 (free_at cells j) ≡ free_at cells j
        stays j f = by_case (j == k) refl f where
          by_case : (b : Bool) → (j == k) ≡ b → free_at cells k ≡ 0 → cond b 0 (free_at cells j) ≡ free_at cells j
          by_case true e f = sym (ap (free_at cells) (eqb-true j k e) ∙ f)
          by_case false e f = refl

  pub filled_facts : (cells : List (Option T)) (vacant rest : List ℕ) (room k : ℕ) → vacant ≡ rest ++ k ∷ [] → AreVacant cells vacant room → (k < length cells) × (cell_at cells k ≡ None)
  filled_facts cells vacant rest room k is a =
      let f : free_at cells k ≡ 1 = (let p = times_push k k rest in let s = same k in let l : times k (rest ++ k ∷ []) ≡ free_at cells k = sym (ap (times k) is) ∙ a.listed k in let m = free_small cells k in omega (arith, p, s, l, m)) in
      (free_within cells k f, free_none cells k f)

  pub filled : (cells : List (Option T)) (vacant rest : List ℕ) (room k : ℕ) (v : T) → vacant ≡ rest ++ k ∷ [] → AreVacant cells vacant room → AreVacant (set cells k (Some v)) rest room
  filled cells vacant rest room k v is a =
      let facts = filled_facts cells vacant rest room k is a in
      let t : taken (set cells k (Some v)) + 0 ≡ taken cells + 1 = subst (λ o. taken (set cells k (Some v)) + one o ≡ taken cells + 1) facts.1 (taken_set cells k (Some v) facts.0) in
      let l = length-set cells k (Some v) in
      let n : length vacant ≡ length rest + 1 = ap length is ∙ length-append rest (k ∷ []) in
      record {
        listed = λ j. sym (free_set cells k j (Some v) facts.0 ∙ fewer j);
        counted = let c = a.counted in omega (arith, c, t, l, n);
        roomy = let r = a.roomy in omega (arith, r, l);
      } where
        fewer : (j : ℕ) → cond (j == k) 0 (free_at cells j) ≡ times j rest
        fewer j = by_case (j == k) refl where
          by_case : (b : Bool) → (j == k) ≡ b → cond b 0 (free_at cells j) ≡ times j rest
          by_case true e = let p : times j (rest ++ k ∷ []) ≡ times j rest + 1 = subst (λ b. times j (rest ++ k ∷ []) ≡ times j rest + cond b 1 0) e (times_push j k rest) in let l : times j (rest ++ k ∷ []) ≡ free_at cells j = sym (ap (times j) is) ∙ a.listed j in let m = free_small cells j in omega (arith, p, l, m)
          by_case false e = let p : times j (rest ++ k ∷ []) ≡ times j rest + 0 = subst (λ b. times j (rest ++ k ∷ []) ≡ times j rest + cond b 1 0) e (times_push j k rest) in let l : times j (rest ++ k ∷ []) ≡ free_at cells j = sym (ap (times j) is) ∙ a.listed j in omega (arith, p, l)

  pub grown : (cells cells2 : List (Option T)) (vacant vacant2 : List ℕ) (room more : ℕ) (v : T) → AreVacant cells vacant room → length vacant ≡ 0 → length vacant2 ≡ 0 → length cells + 1 ≤ more → cells2 ≡ cells ++ Some v ∷ [] → AreVacant cells2 vacant2 more
  grown cells cells2 vacant vacant2 room more v a none none2 h is = subst (λ cs. AreVacant cs vacant2 more) (sym is) (
      let t = taken_push cells v in
      let l = length-append cells (Some v ∷ []) in
      record {
        listed = λ j. ap (times j) (empty vacant2 none2 ∙ sym (empty vacant none)) ∙ a.listed j ∙ sym (free_push cells j v);
        counted = let c = a.counted in omega (arith, c, t, l, none, none2);
        roomy = omega (arith, h, l);
      }) where
        empty : (xs : List ℕ) → length xs ≡ 0 → xs ≡ []
        empty [] e = refl
        empty (x ∷ xs) e = absurd (omega (arith, e))

  pub emptied : (cells : List (Option T)) (vacant : List ℕ) (room k : ℕ) (v : T) → cell_at cells k ≡ Some v → AreVacant cells vacant room → AreVacant (set cells k None) (vacant ++ k ∷ []) room
  emptied cells vacant room k v is a =
      let lt = some_within cells k v is in
      let t : taken (set cells k None) + 1 ≡ taken cells + 0 = subst (λ o. taken (set cells k None) + one o ≡ taken cells + 0) is (taken_set cells k None lt) in
      let l = length-set cells k None in
      let n = length-append vacant (k ∷ []) in
      record {
        listed = λ j. sym (free_set cells k j None lt ∙ more j (free_taken cells k v is));
        counted = let c = a.counted in omega (arith, c, t, l, n);
        roomy = let r = a.roomy in omega (arith, r, l);
      } where
        more : (j : ℕ) → free_at cells k ≡ 0 → cond (j == k) 1 (free_at cells j) ≡ times j (vacant ++ k ∷ [])
        more j f = by_case (j == k) refl where
          by_case : (b : Bool) → (j == k) ≡ b → cond b 1 (free_at cells j) ≡ times j (vacant ++ k ∷ [])
          by_case true e = let p : times j (vacant ++ k ∷ []) ≡ times j vacant + 1 = subst (λ b. times j (vacant ++ k ∷ []) ≡ times j vacant + cond b 1 0) e (times_push j k vacant) in let l = a.listed j in let z : free_at cells j ≡ 0 = ap (free_at cells) (eqb-true j k e) ∙ f in omega (arith, p, l, z)
          by_case false e = let p : times j (vacant ++ k ∷ []) ≡ times j vacant + 0 = subst (λ b. times j (vacant ++ k ∷ []) ≡ times j vacant + cond b 1 0) e (times_push j k vacant) in let l = a.listed j in omega (arith, p, l)

  -- an empty cell is filled in place
  pub placed : (cells : List (Option T)) (k : ℕ) (v : T) → k < length cells → cell_at cells k ≡ None → IsInserted cells (set cells k (Some v)) k v
  placed cells k v lt none = record {
    vacant = none;
    within = omega (arith, lt);
    full = λ e. absurd (omega (arith, lt, e));
    put = sym (ap (λ b. cond b (cells ++ Some v ∷ []) (set cells k (Some v))) (not_last (k == length cells) refl));
  } where
    not_last : (b : Bool) → (k == length cells) ≡ b → (k == length cells) ≡ false
    not_last true e = absurd (let same = eqb-true k (length cells) e in omega (arith, lt, same))
    not_last false e = e
