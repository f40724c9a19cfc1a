-- An unsettled change is in the copies of all of its cells, or of none: each step but a replacement.
use Rattle.std.proofs.Common.{◌≡◌, ◌∙◌, ℕ, ◌+◌, Bool, true, false, refl, sym, ap, subst, ◌⊎◌, inl, inr, Option, Some, None, is_some}
use Rattle.std.specs.Prelude.{if◌then◌else◌, List, ◌∷◌, ◌||◌, ◌≢◌}
use Rattle.std.proofs.lemmas.Bool.{cases_eq, eq-eqb, ne_eqb}
use Rattle.fop_types.specs.StoreOps.{needs, fits, content_after}
use Rattle.fop_types.specs.declared.cells.Cell.{Cell}
use Rattle.fop_types.specs.declared.contents.Content.{Content}
use Rattle.fop_types.specs.declared.jobs.Job.{Job}
use Rattle.fop_types.specs.declared.jobs.Job.TheVariants as job
use Rattle.fop_types.specs.declared.store_ops.StoreOp.{StoreOp}
use Rattle.afr_machine.specs.Replicas.{Size}
use Rattle.afr_machine.specs.Touching.{has_cell}
use Rattle.afr_machine.specs.Copies.{Copy, Kept, Store, content_of, contents_of, changes_of, has_change, mark_of, post_of, settle_of, clear_of, on_cells, changes_after, copy_with, op_of}
use Rattle.afr_machine.specs.Requests.{Ask, Input}
use Rattle.afr_machine.specs.Requests.Ask.{Mark, Op, Post, Replace, Clear, Settle}
use Rattle.afr_machine.specs.Bricks.{Brick, stored_by}
use Rattle.afr_machine.specs.Changes.{Change, is_unsettled}
use Rattle.afr_machine.specs.Transactions.Stage.{Marking}
use Rattle.afr_machine.specs.States.{State}
use Rattle.afr_machine.specs.Answering.{without_first_output}
use Rattle.afr_machine.specs.Turns.{Turn, after_turn, drawing}
use Rattle.afr_machine.specs.Steps.{Step, MayUnsettle, Allowed, after, IsReached, unsettling, decided_by}
use Rattle.afr_machine.specs.Moves.{IsTaken, BrickMove}
use Rattle.afr_machine.specs.Moves.BrickMove.{Stays, Takes, Hands, Serves, Refuses, GivesUp, Steers}
use Rattle.afr_machine.proofs.BrickMoves.{bricks_move}
use Rattle.afr_laws.specs.Senders.{EachInput}
use Rattle.afr_laws.specs.OwnChanges.{ChangesFit}
use Rattle.afr_laws.specs.Copies.{IsOpOf, Carries}
use Rattle.afr_laws.specs.Numbers.{applied}
use Rattle.afr_laws.specs.HeldWhole.{HeldWhole, replaces, NextIsNoCopy, StepsKeepHeldWhole}
use Rattle.afr_laws.proofs.Carry.{at_case}
use Rattle.afr_laws.proofs.Newest.Stays.{TableStays, table_stays, turn_changes, front_stays, decided_stays}
use Rattle.afr_laws.proofs.Copies.Contents.{needed_present, content_stays}
use Rattle.afr_laws.proofs.Copies.Served.{served_store, steered_store}
use Rattle.afr_laws.proofs.Copies.Follows.{keeps_numbers}

-- ---- one cell

has_now : (u : ℕ) (us : List ℕ) → has_change (u ∷ us) u ≡ true
has_now u us = ap (λ b. b || has_change us u) (eq-eqb u u refl)

some_content : (copy : Option Copy) → is_some (content_of copy) ≡ is_some copy
some_content None = refl
some_content (Some copy) = refl

-- another op leaves whether the copy has the change
other_op : (u v : ℕ) → u ≢ v → (copy : Option Copy) (altered : Bool) (content : Option Content) → (is_some copy ≡ true → is_some content ≡ true) → has_change (changes_of (copy_with (changes_after altered v copy) content)) u ≡ has_change (changes_of copy) u
other_op u v ne None true None stays = refl
other_op u v ne None false None stays = refl
other_op u v ne None true (Some content) stays = refl
other_op u v ne None false (Some content) stays = refl
other_op u v ne (Some copy) altered None stays = absurd (let no : false ≡ true = stays refl in cc)
other_op u v ne (Some copy) true (Some content) stays = ap (λ b. b || has_change copy.changes u) (ne_eqb u v ne)
other_op u v ne (Some copy) false (Some content) stays = refl

-- its own op puts it in
own_op : (u : ℕ) (copy : Option Copy) (content : Option Content) → is_some copy ≡ true → is_some content ≡ true → has_change (changes_of (copy_with (changes_after true u copy) content)) u ≡ true
own_op u None content some stays = absurd cc
own_op u (Some copy) None some stays = absurd cc
own_op u (Some copy) (Some content) some stays = has_now u copy.changes

module _ (u : ℕ) (cells : List Cell) (store : Store) (whole : (c d : Cell) → has_cell cells c ≡ true → has_cell cells d ≡ true → has_change (changes_of (store c).copy) u ≡ has_change (changes_of (store d).copy) u) where
  abbrev Has : Kept → Bool
  Has kept = has_change (changes_of kept.copy) u

  on_same : (others : List Cell) (f : Kept → Kept) → ((kept : Kept) → Has (f kept) ≡ Has kept) → (c : Cell) → Has (on_cells others f store c) ≡ Has (store c)
  on_same others f same c = by_case (has_cell others c) where
    by_case : (b : Bool) → Has (if b then f (store c) else store c) ≡ Has (store c)
    by_case true = same (store c)
    by_case false = refl

  all_same : (new : Store) → ((c : Cell) → Has (new c) ≡ Has (store c)) → (c d : Cell) → has_cell cells c ≡ true → has_cell cells d ≡ true → Has (new c) ≡ Has (new d)
  all_same new same c d x y = same c ∙ whole c d x y ∙ sym (same d)

  op_whole : (v : ℕ) (op : StoreOp) → (u ≡ v → needs op ≡ cells) → (c d : Cell) → has_cell cells c ≡ true → has_cell cells d ≡ true → Has (stored_by (Op v op) store c) ≡ Has (stored_by (Op v op) store d)
  op_whole v op own c d x y = by_case (fits (contents_of store) op) refl where
    there : (e : Cell) → fits (contents_of store) op ≡ true → u ≡ v → has_cell cells e ≡ true → Has (op_of (contents_of store) v op e (store e)) ≡ true
    there e f same h =
        let need : has_cell (needs op) e ≡ true = ap (λ cs. has_cell cs e) (own same) ∙ h in
        let some : is_some (store e).copy ≡ true = sym (some_content (store e).copy) ∙ needed_present (contents_of store) op e f need in
        let after_some : is_some (content_after (contents_of store) op e) ≡ true = content_stays (contents_of store) op e (some_content (store e).copy ∙ some) in
        subst (λ b. has_change (changes_of (copy_with (changes_after b v (store e).copy) (content_after (contents_of store) op e))) u ≡ true) (sym need)
        (subst (λ n. has_change (changes_of (copy_with (changes_after true n (store e).copy) (content_after (contents_of store) op e))) u ≡ true) same (own_op u (store e).copy (content_after (contents_of store) op e) some after_some))

    apart : (e : Cell) → u ≢ v → Has (op_of (contents_of store) v op e (store e)) ≡ Has (store e)
    apart e ne = other_op u v ne (store e).copy (has_cell (needs op) e) (content_after (contents_of store) op e) (λ h. content_stays (contents_of store) op e (some_content (store e).copy ∙ h))

    fitting : fits (contents_of store) op ≡ true → (u ≡ v) ⊎ (u ≢ v) → Has (op_of (contents_of store) v op c (store c)) ≡ Has (op_of (contents_of store) v op d (store d))
    fitting f (inl same) = there c f same x ∙ sym (there d f same y)
    fitting f (inr ne) = apart c ne ∙ whole c d x y ∙ sym (apart d ne)

    by_case : (b : Bool) → fits (contents_of store) op ≡ b → Has (if b then op_of (contents_of store) v op c (store c) else store c) ≡ Has (if b then op_of (contents_of store) v op d (store d) else store d)
    by_case true f = fitting f (cases_eq u v)
    by_case false f = whole c d x y

  stored_whole : (ask : Ask) → replaces ask ≡ false → ((v : ℕ) (op : StoreOp) → ask ≡ Op v op → u ≡ v → needs op ≡ cells) → (c d : Cell) → has_cell cells c ≡ true → has_cell cells d ≡ true → Has (stored_by ask store c) ≡ Has (stored_by ask store d)
  stored_whole (Mark v others) r own = all_same (on_cells others mark_of store) (on_same others mark_of (λ kept. refl))
  stored_whole (Op v op) r own = op_whole v op (own v op refl)
  stored_whole (Post v others accused) r own = all_same (on_cells others (post_of accused) store) (on_same others (post_of accused) (λ kept. refl))
  stored_whole (Replace at found) r own = absurd cc
  stored_whole (Clear others who) r own = all_same (on_cells others (clear_of who) store) (on_same others (clear_of who) (λ kept. refl))
  stored_whole (Settle v others accused) r own = all_same (on_cells others (settle_of accused) store) (on_same others (settle_of accused) (λ kept. refl))
  stored_whole other r own = whole

-- ---- one brick

module _ (changes : ℕ → Change) (fit : ChangesFit changes) (u : ℕ) where
  abbrev pub Whole : Store → Type 0
  Whole store = (c d : Cell) → has_cell (changes u).cells c ≡ true → has_cell (changes u).cells d ≡ true → has_change (changes_of (store c).copy) u ≡ has_change (changes_of (store d).copy) u

  own_needs : (v : ℕ) (op : StoreOp) → IsOpOf changes v op → u ≡ v → needs op ≡ (changes u).cells
  own_needs v op (inl birth) same = birth.1 ∙ sym (ap (λ n. (changes n).cells) (same ∙ birth.0) ∙ fit.none)
  own_needs v op (inr sent) same = ap needs sent.1 ∙ sym (fit.needs_are v) ∙ ap (λ n. (changes n).cells) (sym same)

  pub move_whole : (may : List Input → Type 0) (old new : Brick) → BrickMove may old new → EachInput (λ by ask. Carries changes ask) old.line → NextIsNoCopy old.line → Whole old.store → Whole new.store
  move_whole may old new (Stays is) carries none w = subst (λ (b : Brick). Whole b.store) (sym is) w
  move_whole may old new (Takes inputs its is) carries none w = subst (λ (b : Brick). Whole b.store) (sym is) w
  move_whole may old new (Hands first rest front is) carries none w = subst (λ (b : Brick). Whole b.store) (sym is) w
  move_whole may old new (Refuses by ask answer rest front refusable refusal is) carries none w = subst (λ (b : Brick). Whole b.store) (sym is) w
  move_whole may old new (GivesUp by ask rest front served is) carries none w = subst (λ (b : Brick). Whole b.store) (sym is) w
  move_whole may old new (Steers control rest front is) carries none w = subst (λ (b : Brick). Whole b.store) (sym is) (subst Whole (sym (steered_store control (record old { line = rest }))) w)
  move_whole may old new (Serves by ask rest front served is) carries none w =
      let c : Carries changes ask = (subst (EachInput (λ by a. Carries changes a)) front carries).0 in
      let r : replaces ask ≡ false = subst NextIsNoCopy front none in
      subst (λ (b : Brick). Whole b.store) (sym is)
      (subst Whole (sym (served_store old.power by ask (record old { line = rest }))) (stored_whole u (changes u).cells old.store w ask r (λ v op e same. own_needs v op (subst (Carries changes) e c) same)))

-- ---- which changes are unsettled

abbrev UnsettledBack : (ℕ → Change) → (ℕ → Change) → Type 0
UnsettledBack old new = (u : ℕ) → is_unsettled (new u).verdict ≡ true → (is_unsettled (old u).verdict ≡ true) × ((new u).cells ≡ (old u).cells)

stays_back : (old new : ℕ → Change) → TableStays old new → UnsettledBack old new
stays_back old new s u h = (s.unsettled u h, s.cells u)

draws_back : (m : State) (t : ℕ) (own : Job) → UnsettledBack m.changes (drawing m t own).changes
draws_back m t (job.Change cells fd op effect) = λ u. at_case (λ n (c : Change). is_unsettled c.verdict ≡ true → (is_unsettled (m.changes n).verdict ≡ true) × (c.cells ≡ (m.changes n).cells)) m.changes (m.drawn + 1) _ (λ h. absurd cc) u (λ ne h. (h, refl))
draws_back m t other = λ u h. (h, refl)

turns_back : (size : Size) (m : State) (t : ℕ) (turn : Turn) → UnsettledBack m.changes (after_turn size m t turn).changes
turns_back size m t Turn.Marks = draws_back m t (m.txns t).job
turns_back size m t turn = stays_back m.changes _ (subst (TableStays m.changes) (sym (turn_changes size m t turn refl)) (table_stays m.changes))

module _ (size : Size) (m : State) (reached : IsReached size m) (none : (k : ℕ) → NextIsNoCopy (m.bricks k).line) (w : HeldWhole m) where
  -- a change that was unsettled before
  before_whole : (step : Step) → Allowed size m step → (u k : ℕ) → is_unsettled (m.changes u).verdict ≡ true → (c d : Cell) → has_cell (m.changes u).cells c ≡ true → has_cell (m.changes u).cells d ≡ true → has_change (applied (after size m step) k c) u ≡ has_change (applied (after size m step) k d) u
  before_whole step h u k is =
      let n = keeps_numbers size m reached in
      move_whole m.changes n.own.fit u (IsTaken m step k) (m.bricks k) ((after size m step).bricks k) (bricks_move size m step h k) (n.copies.bricks k).line (none k) (λ c d x y. w u k c d is x y)

  carried : (step : Step) → Allowed size m step → UnsettledBack m.changes (after size m step).changes → HeldWhole (after size m step)
  carried step h back u k c d is x y = let b = back u is in before_whole step h u k b.0 c d (ap (λ cs. has_cell cs c) (sym b.1) ∙ x) (ap (λ cs. has_cell cs d) (sym b.1) ∙ y)

  -- a change that becomes unsettled is in no copy
  unsettles : (t : ℕ) → (h : MayUnsettle size m t) → (u k : ℕ) (c d : Cell) → is_unsettled ((unsettling m t (Marking h.change)).changes u).verdict ≡ true → has_cell ((unsettling m t (Marking h.change)).changes u).cells c ≡ true → has_cell ((unsettling m t (Marking h.change)).changes u).cells d ≡ true → has_change (applied m k c) u ≡ has_change (applied m k d) u
  unsettles t h u k c d =
      at_case (λ n (x : Change). is_unsettled x.verdict ≡ true → has_cell x.cells c ≡ true → has_cell x.cells d ≡ true → has_change (applied m k c) n ≡ has_change (applied m k d) n) m.changes h.change _
      (λ is x y. let n = (keeps_numbers size m reached).marked t h.change k in (n c h.turn).0 ∙ sym (n d h.turn).0) u (λ ne is x y. w u k c d is x y)

  step_whole : (step : Step) → Allowed size m step → HeldWhole (after size m step)
  step_whole (Step.Turns t turn) h = carried (Step.Turns t turn) h (turns_back size m t turn)
  step_whole (Step.HandsIn k) h = carried (Step.HandsIn k) h (stays_back m.changes _ (front_stays (without_first_output m k) k (m.bricks k).outputs).0)
  step_whole (Step.Unsettles t) h = subst (λ s. HeldWhole (unsettling m t s)) (sym h.turn) (unsettles t h)
  step_whole (Step.Decides t) h = carried (Step.Decides t) h (stays_back m.changes _ (decided_stays m (decided_by (m.txns t).stage)))
  step_whole other h = carried other h (stays_back m.changes m.changes (table_stays m.changes))

pub steps_keep_whole : StepsKeepHeldWhole
steps_keep_whole size m step reached h none w = step_whole size m reached none w step h
