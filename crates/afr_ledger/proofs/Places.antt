-- What one change more, or one less, makes of the changes that are entered at cells.
use Rattle.std.proofs.Common.{◌≡◌, ℕ, Bool, true, false, ◌&&◌, ◌||◌, ◌==◌, cond, List, [], ◌∷◌, Option, Some, None, refl, sym, ap, ◌∙◌, arith, subst}
use Rattle.std.specs.List.{list_any}
use Rattle.std.specs.declared.cmp.Ordering.{Ordering}
use Rattle.std.specs.Ordering.{is_eq, nat_cmp}
use Rattle.std.specs.Cmp.{IsTotalOrder, eq_by_cmp_equiv}
use Rattle.std.specs.BTreeMap.{BTreeMap}
use Rattle.std.proofs.lemmas.Bool.{and_parts}
use Rattle.afr_ledger.specs.declared.place.Place.{Place}
use Rattle.afr_ledger.specs.declared.unsettled.Unsettled.{Unsettled}
use Rattle.afr_ledger.specs.Changes.{numbered, covers, touches, touches_any, touching}
use Rattle.afr_ledger.specs.code.Places.{is_number, owner, touched}

at_is : (a b : ℕ) → is_eq (nat_cmp a b) ≡ (a == b)
at_is a b = grind arith

itself : (n : ℕ) → (n == n) ≡ true
itself n = grind arith

eq_is : (a b : ℕ) → (a == b) ≡ true → a ≡ b
eq_is a b h = grind (arith, h)

or_true : (b : Bool) → (b || true) ≡ true
or_true true = refl
or_true false = refl

decided : (b : Bool) → (b ≡ true → ⊥) → b ≡ false
decided true h = absurd (h refl)
decided false h = refl

none_if : (o : Option ℕ) → ((k : ℕ) → o ≡ Some k → ⊥) → o ≡ None
none_if None h = refl
none_if (Some k) h = absurd (h k refl)

number_is : (n : ℕ) (o : Option ℕ) → is_number n o ≡ true → o ≡ Some n
number_is n None h = absurd cc
number_is n (Some m) h = ap Some (eq_is m n h)

-- two numbers that are both the one there
pub one_number : (n m : ℕ) (o : Option ℕ) → is_number n o ≡ true → is_number m o ≡ true → n ≡ m
one_number n m o h k = let p : ◌≡◌ {A = Option ℕ} (Some n) (Some m) = sym (number_is n o h) ∙ number_is m o k in cc

module _ {C : Type 0} (cmp : C → C → Ordering) (o : IsTotalOrder cmp) where
  same_cells : (c cell : C) (ds : List C) → is_eq (cmp c cell) ≡ true → list_any (λ d. is_eq (cmp d c)) ds ≡ list_any (λ d. is_eq (cmp d cell)) ds
  same_cells c cell [] h = refl
  same_cells c cell (d ∷ ds) h =
      let E = eq_by_cmp_equiv o in
      ap (λ (b : Bool). b || list_any (λ x. is_eq (cmp x c)) ds) (E.symm d c ∙ E.congr c cell d h ∙ E.symm cell d)
      ∙ ap (λ (b : Bool). is_eq (cmp d cell) || b) (same_cells c cell ds h)

  -- a change that touches a cell among some touches one of them
  shares_in : (set : ℕ) (cell : C) (v : Unsettled C) (cells : List C) → list_any (λ c. is_eq (cmp c cell)) cells ≡ true → touches cmp set cell v ≡ true → touches_any cmp set cells v ≡ true
  shares_in set cell v [] h t = absurd cc
  shares_in set cell v (c ∷ cells) h t = elim (is_eq (cmp c cell)) as (λ (b : Bool). is_eq (cmp c cell) ≡ b → (b || list_any (λ x. is_eq (cmp x cell)) cells) ≡ true → (touches cmp set c v || touches_any cmp set cells v) ≡ true) [
    | true ↦ λ e k. ap (λ (b : Bool). b || touches_any cmp set cells v) (ap (λ (b : Bool). (v.set == set) && b) (same_cells c cell v.cells e) ∙ t)
    | false ↦ λ e k. ap (λ (b : Bool). touches cmp set c v || b) (shares_in set cell v cells k t) ∙ or_true (touches cmp set c v)
  ] refl h

  shares : (set : ℕ) (cells : List C) (s : ℕ) (cell : C) (v : Unsettled C) → covers cmp set cells s cell ≡ true → touches cmp s cell v ≡ true → touches_any cmp set cells v ≡ true
  shares set cells s cell v h t =
      let p = and_parts (set == s) (list_any (λ c. is_eq (cmp c cell)) cells) h in
      shares_in set cell v cells p.1 (subst (λ (j : ℕ). touches cmp j cell v ≡ true) (sym (eq_is set s p.0)) t)

  -- where no change touches one of some cells, each that is found touches none of them
  none_shares : (set : ℕ) (cells : List C) (us : List (ℕ × Unsettled C)) (m : ℕ) (v : Unsettled C) → touching cmp set cells us ≡ None → numbered m us ≡ Some v → touches_any cmp set cells v ≡ false
  none_shares set cells [] m v none is = absurd cc
  none_shares set cells (e ∷ us) m v none is = elim (touches_any cmp set cells e.1) as (λ (b : Bool). touches_any cmp set cells e.1 ≡ b → cond b (Some e.0) (touching cmp set cells us) ≡ None → touches_any cmp set cells v ≡ false) [
    | true ↦ λ t k. absurd cc
    | false ↦ λ t k. elim (is_eq (nat_cmp m e.0)) as (λ (b : Bool). cond b (Some e.1) (numbered m us) ≡ Some v → touches_any cmp set cells v ≡ false) [
      | true ↦ λ g. (let w : e.1 ≡ v = cc in subst (λ (x : Unsettled C). touches_any cmp set cells x ≡ false) w t)
      | false ↦ λ g. none_shares set cells us m v k g
    ] is
  ] refl none

  untouched_by : (set : ℕ) (cells : List C) (us : List (ℕ × Unsettled C)) (m s : ℕ) (cell : C) (f : Option (Unsettled C)) → touching cmp set cells us ≡ None → covers cmp set cells s cell ≡ true → numbered m us ≡ f → touched cmp s cell f ≡ false
  untouched_by set cells us m s cell None none h is = refl
  untouched_by set cells us m s cell (Some v) none h is =
      decided (touches cmp s cell v) (λ t. absurd (let e : true ≡ false = sym (shares set cells s cell v h t) ∙ none_shares set cells us m v none is in cc))

  -- a cell that some cells cover, of which no change touches one, is touched by none
  untouched : (set : ℕ) (cells : List C) (us : List (ℕ × Unsettled C)) (m s : ℕ) (cell : C) → touching cmp set cells us ≡ None → covers cmp set cells s cell ≡ true → touched cmp s cell (numbered m us) ≡ false
  untouched set cells us m s cell none h = untouched_by set cells us m s cell (numbered m us) none h refl

  abbrev pub AreEntered : List (ℕ × Unsettled C) → BTreeMap (Place C) ℕ → Type 0
  AreEntered us places = (n s : ℕ) (cell : C) → is_number n (owner cmp places s cell) ≡ touched cmp s cell (numbered n us)

  -- nothing is entered where no change touches
  pub free : (set : ℕ) (cells : List C) (us : List (ℕ × Unsettled C)) (places : BTreeMap (Place C) ℕ) → AreEntered us places → touching cmp set cells us ≡ None → (s : ℕ) (cell : C) → covers cmp set cells s cell ≡ true → owner cmp places s cell ≡ None
  free set cells us places e none s cell h =
      none_if (owner cmp places s cell) (λ k is. absurd (let t : true ≡ false = sym (itself k) ∙ sym (ap (is_number k) is) ∙ e k s cell ∙ untouched set cells us k s cell none h in cc))

  module _ (us fs : List (ℕ × Unsettled C)) (old new : BTreeMap (Place C) ℕ) (n : ℕ) (u : Unsettled C) (e : AreEntered us old) where
    more_at : (m s : ℕ) (cell : C) (a b : Bool) → numbered n us ≡ None → touching cmp u.set u.cells us ≡ None → covers cmp u.set u.cells s cell ≡ a → is_eq (nat_cmp n m) ≡ b → is_number m (cond a (Some n) (owner cmp old s cell)) ≡ touched cmp s cell (cond b (Some u) (numbered m us))
    more_at m s cell true true absent none h g = sym (at_is n m) ∙ g ∙ sym h
    more_at m s cell true false absent none h g = sym (at_is n m) ∙ g ∙ sym (untouched u.set u.cells us m s cell none h)
    more_at m s cell false true absent none h g =
        let k : n ≡ m = eq_is n m (sym (at_is n m) ∙ g) in
        e m s cell ∙ ap (touched cmp s cell) (subst (λ (j : ℕ). numbered j us ≡ None) k absent) ∙ sym h
    more_at m s cell false false absent none h g = e m s cell

    pub entered_more : numbered n us ≡ None → touching cmp u.set u.cells us ≡ None → ((s : ℕ) (c : C) → owner cmp new s c ≡ cond (covers cmp u.set u.cells s c) (Some n) (owner cmp old s c)) → ((m : ℕ) → numbered m fs ≡ cond (is_eq (nat_cmp n m)) (Some u) (numbered m us)) → AreEntered fs new
    entered_more absent none puts nums m s cell =
        ap (is_number m) (puts s cell) ∙ more_at m s cell (covers cmp u.set u.cells s cell) (is_eq (nat_cmp n m)) absent none refl refl ∙ sym (ap (touched cmp s cell) (nums m))

    less_at : (m s : ℕ) (cell : C) (a b : Bool) → numbered n us ≡ Some u → covers cmp u.set u.cells s cell ≡ a → is_eq (nat_cmp n m) ≡ b → is_number m (cond a None (owner cmp old s cell)) ≡ touched cmp s cell (cond b None (numbered m us))
    less_at m s cell true true there h g = refl
    less_at m s cell true false there h g =
        sym (decided (touched cmp s cell (numbered m us)) (λ t.
        let k : n ≡ m = one_number n m (owner cmp old s cell) (e n s cell ∙ ap (touched cmp s cell) there ∙ h) (e m s cell ∙ t) in
        absurd (let f : true ≡ false = sym (itself n) ∙ ap (λ (j : ℕ). n == j) k ∙ sym (at_is n m) ∙ g in cc)))
    less_at m s cell false true there h g =
        let k : n ≡ m = eq_is n m (sym (at_is n m) ∙ g) in
        e m s cell ∙ ap (touched cmp s cell) (subst (λ (j : ℕ). numbered j us ≡ Some u) k there) ∙ h
    less_at m s cell false false there h g = e m s cell

    pub entered_less : numbered n us ≡ Some u → ((s : ℕ) (c : C) → owner cmp new s c ≡ cond (covers cmp u.set u.cells s c) None (owner cmp old s c)) → ((m : ℕ) → numbered m fs ≡ cond (is_eq (nat_cmp n m)) None (numbered m us)) → AreEntered fs new
    entered_less there takes nums m s cell =
        ap (is_number m) (takes s cell) ∙ less_at m s cell (covers cmp u.set u.cells s cell) (is_eq (nat_cmp n m)) there refl refl ∙ sym (ap (touched cmp s cell) (nums m))

  back_at : (a : Bool) (n : ℕ) (x : Option ℕ) → (a ≡ true → x ≡ None) → cond a None (cond a (Some n) x) ≡ x
  back_at true n x h = sym (h refl)
  back_at false n x h = refl

  -- a change that was entered, and taken away again
  pub entered_back : (us fs : List (ℕ × Unsettled C)) (old mid new : BTreeMap (Place C) ℕ) (n : ℕ) (u v : Unsettled C) → AreEntered us old → touching cmp u.set u.cells us ≡ None → v ≡ u → fs ≡ us → ((s : ℕ) (c : C) → owner cmp mid s c ≡ cond (covers cmp u.set u.cells s c) (Some n) (owner cmp old s c)) → ((s : ℕ) (c : C) → owner cmp new s c ≡ cond (covers cmp v.set v.cells s c) None (owner cmp mid s c)) → AreEntered fs new
  entered_back us fs old mid new n u v e none same unchanged puts takes m s cell =
      let back : owner cmp new s cell ≡ owner cmp old s cell =
      takes s cell
      ∙ ap (λ (x : Unsettled C). cond (covers cmp x.set x.cells s cell) None (owner cmp mid s cell)) same
      ∙ ap (λ (x : Option ℕ). cond (covers cmp u.set u.cells s cell) None x) (puts s cell)
      ∙ back_at (covers cmp u.set u.cells s cell) n (owner cmp old s cell) (free u.set u.cells us old e none s cell) in
      ap (is_number m) back ∙ e m s cell ∙ ap (λ (l : List (ℕ × Unsettled C)). touched cmp s cell (numbered m l)) (sym unchanged)

  -- nothing was entered in the end
  pub entered_same : (us fs : List (ℕ × Unsettled C)) (old new : BTreeMap (Place C) ℕ) → AreEntered us old → fs ≡ us → ((s : ℕ) (c : C) → owner cmp new s c ≡ owner cmp old s c) → AreEntered fs new
  entered_same us fs old new e unchanged is m s cell =
      ap (is_number m) (is s cell) ∙ e m s cell ∙ ap (λ (l : List (ℕ × Unsettled C)). touched cmp s cell (numbered m l)) (sym unchanged)
