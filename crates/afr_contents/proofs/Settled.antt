-- Which changes of a cell are adopted after a step, and what is settled there.
use Rattle.std.proofs.Common.{◌≡◌, ◌∙◌, ℕ, ◌≤◌, ◌<◌, Bool, true, false, refl, sym, ap, subst, ◌⊎◌, inl, inr, arith, Option, Some, None}
use Rattle.std.specs.Prelude.{[], ◌∷◌, ◌≢◌, ◌&&◌}
use Rattle.fop_types.specs.StoreOps.{Contents, needs, births, contents_after}
use Rattle.fop_types.specs.declared.cells.Cell.{Cell}
use Rattle.fop_types.specs.declared.contents.Content.{Content}
use Rattle.fop_types.specs.declared.store_ops.StoreOp.{StoreOp}
use Rattle.afr_machine.specs.Replicas.{Size, with_at}
use Rattle.afr_machine.specs.Touching.{has_cell}
use Rattle.afr_machine.specs.Changes.{Change, Verdict, is_unsettled, is_adopted, is_adopted_on, verdict_of}
use Rattle.afr_machine.specs.States.{State}
use Rattle.afr_machine.specs.Steps.{Step, Allowed, MayDecide, after, IsReached, decided_by, decided, deciding}
use Rattle.afr_machine.proofs.Tables.{at_same}
use Rattle.afr_laws.specs.OwnChanges.{was_unsettled}
use Rattle.afr_laws.specs.OneBirth.{AreBorn}
use Rattle.afr_laws.proofs.Bools.{is_or_not, both_left, both_right}
use Rattle.afr_laws.proofs.Births.Born.{births_born}
use Rattle.afr_laws.proofs.Births.Steps.{every_cell_is_born_once}
use Rattle.afr_laws.proofs.Copies.Asks.{sent_is, share_at}
use Rattle.afr_laws.proofs.Drawn.{changes_are_drawn}
use Rattle.afr_laws.proofs.Newest.Steps.{numbers_rise}
use Rattle.afr_laws.proofs.OwnChanges.Steps.{changes_are_own}
use Rattle.afr_soundness.proofs.ChangeMoves.{ChangeMove, change_moves}
use Rattle.afr_soundness.proofs.States.{drawn_goes}
use Rattle.afr_soundness.proofs.Unsettled.{becomes_own, is_drawn, is_some_change}
use Rattle.afr_contents.specs.Adopted.{adopted_below, adopted_on, first_of, settled}
use Rattle.afr_contents.proofs.Lists.{below_same, below_more, below_adds}
use Rattle.afr_contents.proofs.Ops.{first_has, after_births_on, contents_on, left_alone, born_settled}
use Rattle.afr_contents.proofs.Contents.{ContentsMove, contents_move}

was_adopted : (v : Verdict) → is_adopted v ≡ true → was_unsettled v ≡ true
was_adopted Verdict.Adopted h = refl
was_adopted Verdict.Undrawn h = absurd (let e : false ≡ true = h in cc)
was_adopted Verdict.Drawn h = absurd (let e : false ≡ true = h in cc)
was_adopted Verdict.Unsettled h = absurd (let e : false ≡ true = h in cc)
was_adopted Verdict.Dropped h = absurd (let e : false ≡ true = h in cc)

unsettled_not : (v : Verdict) → is_unsettled v ≡ true → is_adopted v ≡ false
unsettled_not Verdict.Unsettled h = refl
unsettled_not Verdict.Undrawn h = refl
unsettled_not Verdict.Drawn h = refl
unsettled_not Verdict.Adopted h = absurd (let e : false ≡ true = h in cc)
unsettled_not Verdict.Dropped h = absurd (let e : false ≡ true = h in cc)

pub unsettled_not_on : (c : Change) (cell : Cell) → is_unsettled c.verdict ≡ true → is_adopted_on c cell ≡ false
unsettled_not_on c cell h = ap (λ b. b && has_cell c.cells cell) (unsettled_not c.verdict h)

pairs : (v u : ℕ) (a b : Bool) → ◌≡◌ {A = Option (ℕ × Bool)} (Some (v, a)) (Some (u, b)) → ◌≡◌ {A = ℕ × Bool} (v, a) (u, b)
pairs v u a b e = cc

same_steps : (s t : ℕ) → Step.Decides s ≡ Step.Decides t → s ≡ t
same_steps s t e = cc

module _ (size : Size) (m : State) (r : IsReached size m) (step : Step) (allowed : Allowed size m step) where
  abbrev new : State
  new = after size m step

  -- the step decides the unsettled change
  pub record Deciding (u : ℕ) : Type 0 where
    pub txn : ℕ
    pub step_is : step ≡ Step.Decides txn
    pub may : MayDecide size m txn
    pub at : u ≡ may.change
    pub unsettled : is_unsettled (m.changes u).verdict ≡ true

  -- and there is one such change at most
  pub decides_one : (u v : ℕ) → Deciding u → Deciding v → u ≡ v
  decides_one u v a b = a.at ∙ one ∙ sym b.at where
    txns : a.txn ≡ b.txn
    txns = same_steps a.txn b.txn (sym a.step_is ∙ b.step_is)

    one : a.may.change ≡ b.may.change
    one = ap (λ q. q.0) (pairs a.may.change b.may.change a.may.adopts b.may.adopts (sym a.may.decision ∙ ap (λ i. decided_by (m.txns i).stage) txns ∙ b.may.decision))

  -- which is that of the step, and decided as it says
  pub decides_that : (u : ℕ) → Deciding u → (t : ℕ) (h : MayDecide size m t) → step ≡ Step.Decides t → u ≡ h.change
  decides_that u a t h is = a.at ∙ ap (λ q. q.0) (pairs a.may.change h.change a.may.adopts h.adopts (sym a.may.decision ∙ ap (λ i. decided_by (m.txns i).stage) (same_steps a.txn t (sym a.step_is ∙ is)) ∙ h.decision))

  pub decides_alike : (u v : ℕ) (a : Deciding u) (b : Deciding v) → a.may.adopts ≡ true → b.may.adopts ≡ true
  decides_alike u v a b adopts =
      sym (ap (λ q. q.1) (pairs a.may.change b.may.change a.may.adopts b.may.adopts (sym a.may.decision ∙ ap (λ i. decided_by (m.txns i).stage) (same_steps a.txn b.txn (sym a.step_is ∙ b.step_is)) ∙ b.may.decision))) ∙ adopts

  -- a change of the cell that is adopted now
  pub record Adopting (cell : Cell) (u : ℕ) : Type 0 where
    pub decision : Deciding u
    pub adopts : decision.may.adopts ≡ true
    pub touches : has_cell (m.changes u).cells cell ≡ true

  undrawn_not : (c : Change) (cell : Cell) → c.verdict ≡ Verdict.Undrawn → is_adopted_on c cell ≡ false
  undrawn_not c cell e = ap (λ v. is_adopted v && has_cell c.cells cell) e

  on_or_adopts : (cell : Cell) (u : ℕ) → (is_adopted_on (new.changes u) cell ≡ is_adopted_on (m.changes u) cell) ⊎ Adopting cell u
  on_or_adopts cell u = by_case (change_moves size m step allowed u) where
    by_case : ChangeMove size m step u (new.changes u) → (is_adopted_on (new.changes u) cell ≡ is_adopted_on (m.changes u) cell) ⊎ Adopting cell u
    by_case (ChangeMove.Same is) = inl (ap (λ (c : Change). is_adopted_on c cell) is)
    by_case (ChangeMove.Marks t step_is h at is) = inl (ap (λ (c : Change). is_adopted_on c cell) is ∙ sym (undrawn_not (m.changes u) cell ((changes_are_drawn size m r).beyond u (omega (arith, at)))))
    by_case (ChangeMove.Unsettles t step_is h at is) =
        let drawn : (m.changes u).verdict ≡ Verdict.Drawn = ap (λ n. (m.changes n).verdict) at ∙ (becomes_own size m r step allowed t h).1.1 in
        inl (ap (λ (c : Change). is_adopted_on c cell) is ∙ sym (ap (λ v. is_adopted v && has_cell (m.changes u).cells cell) drawn))
    by_case (ChangeMove.Applies k by v op answer step_is handed stage is) = inl (ap (λ (c : Change). is_adopted_on c cell) is)
    by_case (ChangeMove.Decides t step_is h at unsettled is) = by_verdict (is_or_not h.adopts) (is_or_not (has_cell (m.changes u).cells cell)) where
      then_is : (b c : Bool) → h.adopts ≡ b → has_cell (m.changes u).cells cell ≡ c → is_adopted_on (new.changes u) cell ≡ (is_adopted (verdict_of b) && c)
      then_is b c e f = ap (λ (x : Change). is_adopted_on x cell) is ∙ ap (λ b. is_adopted (verdict_of b) && has_cell (m.changes u).cells cell) e ∙ ap (λ c. is_adopted (verdict_of b) && c) f

      by_verdict : (h.adopts ≡ true) ⊎ (h.adopts ≡ false) → (has_cell (m.changes u).cells cell ≡ true) ⊎ (has_cell (m.changes u).cells cell ≡ false) → (is_adopted_on (new.changes u) cell ≡ is_adopted_on (m.changes u) cell) ⊎ Adopting cell u
      by_verdict (inl does) (inl there) = inr (record { decision = record { txn = t; step_is = step_is; may = h; at = at; unsettled = unsettled }; adopts = does; touches = there })
      by_verdict (inl does) (inr other) = inl (then_is true false does other ∙ sym (unsettled_not_on (m.changes u) cell unsettled))
      by_verdict (inr drops) (inl there) = inl (then_is false true drops there ∙ sym (unsettled_not_on (m.changes u) cell unsettled))
      by_verdict (inr drops) (inr other) = inl (then_is false false drops other ∙ sym (unsettled_not_on (m.changes u) cell unsettled))

  -- what the decision makes of the change, and of what is adopted
  pub adopted_now : (cell : Cell) (u : ℕ) → Adopting cell u → (new.changes u ≡ record (m.changes u) { verdict = Verdict.Adopted }) × (new.adopted ≡ contents_after m.adopted (m.changes u).op)
  adopted_now cell u a = (
    ap (λ (x : State). x.changes u) is ∙ ap (with_at m.changes v (record (m.changes v) { verdict = Verdict.Adopted })) a.decision.at ∙ at_same m.changes v (record (m.changes v) { verdict = Verdict.Adopted }) ∙ ap (λ n. record (m.changes n) { verdict = Verdict.Adopted }) (sym a.decision.at),
    ap (λ (x : State). x.adopted) is ∙ ap (λ n. contents_after m.adopted (m.changes n).op) (sym a.decision.at),
  ) where
    v : ℕ
    v = a.decision.may.change

    is : new ≡ deciding m v true true
    is =
        ap (after size m) a.decision.step_is ∙ ap (decided m) a.decision.may.decision ∙ ap (λ b. deciding m v b (is_unsettled (m.changes v).verdict)) a.adopts
        ∙ ap (deciding m v true) (ap (λ n. is_unsettled (m.changes n).verdict) (sym a.decision.at) ∙ a.decision.unsettled)

  -- ---- the list

  fresh_beyond : (cell : Cell) (u : ℕ) → m.drawn < u → is_adopted_on (new.changes u) cell ≡ false
  fresh_beyond cell u more = by_case (on_or_adopts cell u) where
    by_case : (is_adopted_on (new.changes u) cell ≡ is_adopted_on (m.changes u) cell) ⊎ Adopting cell u → is_adopted_on (new.changes u) cell ≡ false
    by_case (inl same) = same ∙ undrawn_not (m.changes u) cell ((changes_are_drawn size m r).beyond u more)
    by_case (inr a) = absurd (let low = is_drawn size m r u a.decision.unsettled in omega (arith, low, more))

  up_to_drawn : (cell : Cell) → adopted_on new cell ≡ adopted_below new.changes m.drawn cell
  up_to_drawn cell = below_more cell new.changes m.drawn new.drawn (drawn_goes size m step allowed) (fresh_beyond cell)

  pub on_stays : (cell : Cell) → ((u : ℕ) → Adopting cell u → ⊥) → adopted_on new cell ≡ adopted_on m cell
  on_stays cell none = up_to_drawn cell ∙ below_same cell m.changes new.changes m.drawn (λ u low. by_case u (on_or_adopts cell u)) where
    by_case : (u : ℕ) → (is_adopted_on (new.changes u) cell ≡ is_adopted_on (m.changes u) cell) ⊎ Adopting cell u → is_adopted_on (new.changes u) cell ≡ is_adopted_on (m.changes u) cell
    by_case u (inl same) = same
    by_case u (inr a) = absurd (none u a)

  pub on_adds : (cell : Cell) (u : ℕ) → Adopting cell u → adopted_on new cell ≡ u ∷ adopted_on m cell
  on_adds cell u a = up_to_drawn cell ∙ below_adds cell m.changes new.changes u m.drawn one (is_drawn size m r u a.decision.unsettled) now then_not others less where
    one : 1 ≤ u
    one = is_some_change size m r u (cell ∷ []) (share_at (m.changes u).cells (cell ∷ []) cell a.touches (first_has cell []))

    then_not : is_adopted_on (m.changes u) cell ≡ false
    then_not = unsettled_not_on (m.changes u) cell a.decision.unsettled

    now : is_adopted_on (new.changes u) cell ≡ true
    now = ap (λ (x : Change). is_adopted_on x cell) (adopted_now cell u a).0 ∙ a.touches

    others : (v : ℕ) → v ≢ u → is_adopted_on (new.changes v) cell ≡ is_adopted_on (m.changes v) cell
    others v ne = by_case (on_or_adopts cell v) where
      by_case : (is_adopted_on (new.changes v) cell ≡ is_adopted_on (m.changes v) cell) ⊎ Adopting cell v → is_adopted_on (new.changes v) cell ≡ is_adopted_on (m.changes v) cell
      by_case (inl same) = same
      by_case (inr b) = absurd (ne (decides_one v u b.decision a.decision))

    less : (v : ℕ) → is_adopted_on (m.changes v) cell ≡ true → v ≤ u
    less v h = (numbers_rise size m r).unsettled u v a.decision.unsettled (was_adopted (m.changes v).verdict (both_left (is_adopted (m.changes v).verdict) (has_cell (m.changes v).cells cell) h))
        (share_at (m.changes v).cells (m.changes u).cells cell (both_right (is_adopted (m.changes v).verdict) (has_cell (m.changes v).cells cell) h) a.touches)

  -- ---- what is settled

  more : (x born later : Option Content) (c : Content) → ((y : Content) → born ≡ Some y → later ≡ Some y) → first_of x born ≡ Some c → first_of x later ≡ Some c
  more None born later c keeps h = keeps c h
  more (Some x) born later c keeps h = h

  pub settled_stays : (cell : Cell) (content : Content) → ((u : ℕ) → Adopting cell u → ⊥) → settled m cell ≡ Some content → settled new cell ≡ Some content
  settled_stays cell content none h = by_case (contents_move size m step allowed) where
    kept : first_of (m.adopted cell) (new.born cell) ≡ Some content
    kept = more (m.adopted cell) (m.born cell) (new.born cell) content (λ y is. (every_cell_is_born_once size m r).stays step allowed cell y is) h

    by_case : ContentsMove size m step new → settled new cell ≡ Some content
    by_case (ContentsMove.Same a b) = ap (λ (f : Contents). first_of (f cell) (new.born cell)) a ∙ kept
    by_case (ContentsMove.Unsettles op first a b) = ap (λ (f : Contents). first_of (f cell) (new.born cell)) a ∙ kept
    by_case (ContentsMove.Bears op first a b) =
        ap (λ (f : Contents). first_of (f cell) (new.born cell)) a ∙ ap (λ x. first_of x (new.born cell)) (after_births_on (births op) m.adopted cell)
        ∙ born_settled new.born cell (births op) (m.adopted cell) (subst (λ (f : Contents). AreBorn f (births op)) (sym b) (births_born m.born op first)) ∙ kept
    by_case (ContentsMove.Adopts t step_is may unsettled adopts a b) =
        ap (λ (f : Contents). first_of (f cell) (new.born cell)) a ∙ ap (λ x. first_of x (new.born cell)) (contents_on m.adopted op cell ∙ left_alone m.adopted op cell outside)
        ∙ born_settled new.born cell (births op) (m.adopted cell) (subst (λ (f : Contents). AreBorn f (births op)) (sym b) ((every_cell_is_born_once size m r).one.changes may.change (sent_is (m.changes may.change).verdict unsettled))) ∙ kept
      where
        op : StoreOp
        op = (m.changes may.change).op

        outside : has_cell (needs (m.changes may.change).op) cell ≡ false
        outside = ap (λ cs. has_cell cs cell) (sym ((changes_are_own size m r).fit.needs_are may.change)) ∙ by_cell (is_or_not (has_cell (m.changes may.change).cells cell)) where
          by_cell : (has_cell (m.changes may.change).cells cell ≡ true) ⊎ (has_cell (m.changes may.change).cells cell ≡ false) → has_cell (m.changes may.change).cells cell ≡ false
          by_cell (inl there) = absurd (none may.change (record { decision = record { txn = t; step_is = step_is; may = may; at = refl; unsettled = unsettled }; adopts = adopts; touches = there }))
          by_cell (inr other) = other
