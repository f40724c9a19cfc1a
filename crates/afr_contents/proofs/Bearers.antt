-- Who has an unsettled change has the cells to which it gives birth; so each cell to which an adopted change gave birth has a copy
-- somewhere, over every list of steps.
use Rattle.std.proofs.Common.{◌≡◌, ◌∙◌, ℕ, ◌≤◌, ◌<◌, Bool, true, false, refl, sym, ap, subst, ◌⊎◌, inl, inr, arith, Option, Some, None}
use Rattle.std.specs.Prelude.{List, ◌∷◌, ◌==◌, is_some, if◌then◌else◌}
use Rattle.std.proofs.lemmas.Bool.{eqb-true}
use Rattle.fop_types.specs.Jobs.{cells_of}
use Rattle.fop_types.specs.StoreOps.{Contents, needs, births, fits, edits, edited_on, content_after}
use Rattle.fop_types.specs.declared.cells.Cell.{Cell}
use Rattle.fop_types.specs.declared.contents.Content.{Content}
use Rattle.fop_types.specs.declared.store_ops.StoreOp.{StoreOp}
use Rattle.afr_machine.specs.Replicas.{Size, IsSize}
use Rattle.afr_machine.specs.Touching.{has_cell}
use Rattle.afr_machine.specs.Copies.{Copy, Kept, Store, contents_of, changes_of, has_change, on_cells, mark_of, post_of, settle_of, clear_of, changes_after, copy_with, op_of}
use Rattle.afr_machine.specs.Requests.{Sender, Ask, Input}
use Rattle.afr_machine.specs.Requests.Ask.{Mark, Op, Post, Replace, Clear, Settle}
use Rattle.afr_machine.specs.Requests.Input.{Asked}
use Rattle.afr_machine.specs.Bricks.{Brick, stored_by}
use Rattle.afr_machine.specs.Changes.{Change, Verdict, is_unsettled, verdict_of}
use Rattle.afr_machine.specs.Changes.Verdict.{Adopted}
use Rattle.afr_machine.specs.States.{State}
use Rattle.afr_machine.specs.Steps.{Step, Allowed, MayDecide, after, IsReached}
use Rattle.afr_machine.specs.Moves.{BrickMove, IsTaken}
use Rattle.afr_machine.specs.Moves.BrickMove.{Stays, Takes, Hands, Serves, Refuses, GivesUp, Steers}
use Rattle.afr_machine.proofs.BrickMoves.{bricks_move}
use Rattle.afr_laws.specs.Senders.{EachInput}
use Rattle.afr_laws.specs.Copies.{Carries, IsOpOf}
use Rattle.afr_laws.specs.Numbers.{applied}
use Rattle.afr_laws.proofs.Bools.{apart_bools, either_way}
use Rattle.afr_laws.proofs.Copies.Served.{served_store, steered_store}
use Rattle.afr_laws.proofs.Copies.Steps.{copies_are_of_changes}
use Rattle.afr_laws.proofs.LastPhase.Moves.{move_present}
use Rattle.afr_laws.proofs.OwnChanges.Steps.{changes_are_own}
use Rattle.afr_soundness.specs.CopyApart.{IsCopyApart}
use Rattle.afr_soundness.specs.Guarded.{OneIsFreeOn}
use Rattle.afr_soundness.specs.Replaced.{HasCopy}
use Rattle.afr_soundness.proofs.ChangeMoves.{ChangeMove, change_moves, cells_stay}
use Rattle.afr_soundness.proofs.CopyApart.Steps.{nowhere, keeps_copies_apart}
use Rattle.afr_soundness.proofs.Deciding.Whose.{unsettled_was}
use Rattle.afr_soundness.proofs.Guarded.{leaves_one_free}
use Rattle.afr_soundness.proofs.Unsettled.{UnsettledFrom, unsettled_from, drawn_from}
use Rattle.afr_soundness.proofs.Whole.{replaced_same}
use Rattle.afr_decisions.proofs.Cells.{SomeCell, sent_has_cell}
use Rattle.afr_contents.specs.Firm.{HoldersHaveBorn, EveryHolderHasBorn, EveryAdoptedBears}
use Rattle.afr_contents.specs.Spread.{HasAsDecided, IsAccusedOnEach}
use Rattle.afr_contents.proofs.Aspects.{holds_own, adopted_of_aspect}
use Rattle.afr_contents.proofs.Born.{births_have, fits_born}
use Rattle.afr_contents.proofs.Found.{not_accused}
use Rattle.afr_contents.proofs.OfAdopted.{adopted_stays}
use Rattle.afr_contents.proofs.Ops.{contents_on}
use Rattle.afr_contents.proofs.Settled.{adopted_now}
use Rattle.afr_contents.proofs.Spread.{decisions_spread}

-- ---- a copy that has the change after a request had it before, or the request is its op

module _ (u v : ℕ) where
  from_copy : (altered : Bool) (copy : Option Copy) (content : Option Content) → has_change (changes_of (copy_with (changes_after altered v copy) content)) u ≡ true → (has_change (changes_of copy) u ≡ true) ⊎ (u ≡ v)
  from_copy altered copy None h = absurd (let no : false ≡ true = h in cc)
  from_copy altered None (Some content) h = absurd (let no : false ≡ true = h in cc)
  from_copy false (Some copy) (Some content) h = inl h
  from_copy true (Some copy) (Some content) h = by_case (either_way (u == v) (has_change copy.changes u) h) where
    by_case : ((u == v) ≡ true) ⊎ (has_change copy.changes u ≡ true) → (has_change copy.changes u ≡ true) ⊎ (u ≡ v)
    by_case (inl same) = inr (eqb-true u v same)
    by_case (inr before) = inl before

module _ (store : Store) (cell : Cell) (u : ℕ) where
  counted_had : (cells : List Cell) (change : Kept → Kept) → ((kept : Kept) → (change kept).copy ≡ kept.copy) → has_change (changes_of (on_cells cells change store cell).copy) u ≡ true → has_change (changes_of (store cell).copy) u ≡ true
  counted_had cells change keeps h = by_case (has_cell cells cell) h where
    by_case : (b : Bool) → has_change (changes_of (if b then change (store cell) else store cell).copy) u ≡ true → has_change (changes_of (store cell).copy) u ≡ true
    by_case true e = sym (ap (λ c. has_change (changes_of c) u) (keeps (store cell))) ∙ e
    by_case false e = e

  op_had : (v : ℕ) (op : StoreOp) → has_change (changes_of (stored_by (Op v op) store cell).copy) u ≡ true → (has_change (changes_of (store cell).copy) u ≡ true) ⊎ ((u ≡ v) × (fits (contents_of store) op ≡ true))
  op_had v op h = by_fit (fits (contents_of store) op) refl h where
    fitting : fits (contents_of store) op ≡ true → (has_change (changes_of (store cell).copy) u ≡ true) ⊎ (u ≡ v) → (has_change (changes_of (store cell).copy) u ≡ true) ⊎ ((u ≡ v) × (fits (contents_of store) op ≡ true))
    fitting fit (inl before) = inl before
    fitting fit (inr same) = inr (same, fit)

    by_fit : (b : Bool) → fits (contents_of store) op ≡ b → has_change (changes_of (if b then op_of (contents_of store) v op cell (store cell) else store cell).copy) u ≡ true →
        (has_change (changes_of (store cell).copy) u ≡ true) ⊎ ((u ≡ v) × (fits (contents_of store) op ≡ true))
    by_fit false none e = inl e
    by_fit true fit e = fitting fit (from_copy u v (has_cell (needs op) cell) (store cell).copy (content_after (contents_of store) op cell) e)

-- ---- one step

module _ (size : Size) (m : State) (r : IsReached size m) (step : Step) (allowed : Allowed size m step) where
  abbrev new : State
  new = after size m step

  copy_stays : (k : ℕ) (cell : Cell) → HasCopy m k cell → HasCopy new k cell
  copy_stays k cell h = move_present (IsTaken m step k) (m.bricks k) (new.bricks k) cell (bricks_move size m step allowed k) h

  op_stays : (u : ℕ) → u ≤ m.drawn → (new.changes u).op ≡ (m.changes u).op
  op_stays u drawn = by_case (change_moves size m step allowed u) where
    by_case : ChangeMove size m step u (new.changes u) → (new.changes u).op ≡ (m.changes u).op
    by_case (ChangeMove.Same is) = ap (λ (c : Change). c.op) is
    by_case (ChangeMove.Marks t step_is h at is) = absurd (omega (arith, at, drawn))
    by_case (ChangeMove.Unsettles t step_is h at is) = ap (λ (c : Change). c.op) is
    by_case (ChangeMove.Applies k by v op answer step_is handed stage is) = ap (λ (c : Change). c.op) is
    by_case (ChangeMove.Decides t step_is h at unsettled is) = ap (λ (c : Change). c.op) is

  module _ (was : HoldersHaveBorn m) (u k : ℕ) (cell born : Cell) where
    module _ (unsettled : is_unsettled (m.changes u).verdict ≡ true) (has : has_cell (m.changes u).cells cell ≡ true) (bears : has_cell (cells_of (births (m.changes u).op)) born ≡ true) where
      old : has_change (applied m k cell) u ≡ true → HasCopy new k born
      old holds = copy_stays k born (was u k cell born unsettled has holds bears)

      -- its op is served now
      brings : (op : StoreOp) → IsOpOf m.changes u op → fits (contents_of (m.bricks k).store) op ≡ true → (new.bricks k).store ≡ stored_by (Op u op) (m.bricks k).store → HasCopy new k born
      brings op (inl none) fitting stored =
          absurd (let no : false ≡ true = sym (ap (λ cs. has_cell cs cell) ((changes_are_own size m r).fit.none)) ∙ sym (ap (λ n. has_cell (m.changes n).cells cell) none.0) ∙ has in cc)
      brings op (inr own) fitting stored =
          ap (λ (st : Store). is_some (st born).copy) stored ∙ fits_born u op (m.bricks k).store fitting born (ap (λ o. has_cell (cells_of (births o)) born) own.1 ∙ bears)

      served : (by : Sender) (ask : Ask) (rest : List Input) → (m.bricks k).line ≡ Asked by ask ∷ rest → (new.bricks k).store ≡ stored_by ask (m.bricks k).store → has_change (changes_of (stored_by ask (m.bricks k).store cell).copy) u ≡ true → HasCopy new k born
      served by (Replace at found) rest front stored h =
          old (sym (replaced_same m u k unsettled at found (subst (EachInput (λ by ask. IsCopyApart m k ask)) front ((keeps_copies_apart size m r).replaces k)).0 cell has) ∙ h)
      served by (Op v op) rest front stored h = by_case (op_had (m.bricks k).store cell u v op h) where
        carries : IsOpOf m.changes v op
        carries = (subst (EachInput (λ by ask. Carries m.changes ask)) front ((copies_are_of_changes size m r).bricks k).line).0

        by_case : (has_change (changes_of ((m.bricks k).store cell).copy) u ≡ true) ⊎ ((u ≡ v) × (fits (contents_of (m.bricks k).store) op ≡ true)) → HasCopy new k born
        by_case (inl before) = old before
        by_case (inr now) = brings op (subst (λ n. IsOpOf m.changes n op) (sym now.0) carries) now.1 (stored ∙ ap (λ n. stored_by (Op n op) (m.bricks k).store) (sym now.0))
      served by (Mark v cells) rest front stored h = old (counted_had (m.bricks k).store cell u cells mark_of (λ kept. refl) h)
      served by (Post v cells accused) rest front stored h = old (counted_had (m.bricks k).store cell u cells (post_of accused) (λ kept. refl) h)
      served by (Clear cells who) rest front stored h = old (counted_had (m.bricks k).store cell u cells (clear_of who) (λ kept. refl) h)
      served by (Settle v cells accused) rest front stored h = old (counted_had (m.bricks k).store cell u cells (settle_of accused) (λ kept. refl) h)
      served by other rest front stored h = old h

      kept : (b : Brick) → new.bricks k ≡ b → b.store ≡ (m.bricks k).store → has_change (applied new k cell) u ≡ true → HasCopy new k born
      kept b is same h = old (sym (ap (λ (st : Store). has_change (changes_of (st cell).copy) u) (ap (λ (x : Brick). x.store) is ∙ same)) ∙ h)

      moved : has_change (applied new k cell) u ≡ true → BrickMove (IsTaken m step k) (m.bricks k) (new.bricks k) → HasCopy new k born
      moved h (Serves by ask rest front would is) =
          let stored = ap (λ (b : Brick). b.store) is ∙ served_store (m.bricks k).power by ask (record (m.bricks k) { line = rest }) in
          served by ask rest front stored (sym (ap (λ (st : Store). has_change (changes_of (st cell).copy) u) stored) ∙ h)
      moved h (Stays is) = kept _ is refl h
      moved h (Takes inputs its is) = kept _ is refl h
      moved h (Hands first rest front is) = kept _ is refl h
      moved h (Refuses by ask answer rest front may_be refusal is) = kept _ is refl h
      moved h (GivesUp by ask rest front would is) = kept _ is refl h
      moved h (Steers control rest front is) = kept _ is (steered_store control (record (m.bricks k) { line = rest })) h

    held_after : UnsettledFrom size m r step allowed u → has_cell (new.changes u).cells cell ≡ true → has_change (applied new k cell) u ≡ true → has_cell (cells_of (births (new.changes u).op)) born ≡ true → HasCopy new k born
    held_after (UnsettledFrom.Becomes t step_is h at) has holds bears = apart_bools holds ((nowhere size m r step allowed t u step_is h at k).copies cell has)
    held_after (UnsettledFrom.Was unsettled) has holds bears =
        let drawn = drawn_from size m r step allowed u (UnsettledFrom.Was unsettled) in
        moved unsettled (sym (ap (λ cs. has_cell cs cell) (cells_stay size m step allowed u drawn)) ∙ has) (sym (ap (λ o. has_cell (cells_of (births o)) born) (op_stays u drawn)) ∙ bears) holds (bricks_move size m step allowed k)

pub holders_have_born : EveryHolderHasBorn
holders_have_born size m IsReached.Start u k cell born unsettled has holds bears = absurd (let no : false ≡ true = unsettled in cc)
holders_have_born size m (IsReached.Further old step reached allowed) u k cell born unsettled has holds bears =
    held_after size old reached step allowed (holders_have_born size old reached) u k cell born (unsettled_from size old reached step allowed u unsettled) has holds bears

-- ---- changes that are adopted

-- a content is adopted, and a copy is there
record IsThere (size : Size) (m : State) (cell : Cell) : Type 0 where
  adopted : is_some (m.adopted cell) ≡ true
  replica : ℕ
  low : replica < size.replicas
  copy : HasCopy m replica cell

adopts_only : (b : Bool) → verdict_of b ≡ Adopted → b ≡ true
adopts_only true h = refl
adopts_only false h = absurd (let no : Verdict.Dropped ≡ Adopted = h in cc)

module _ (size : Size) (m : State) (is : IsSize size) (r : IsReached size m) (step : Step) (allowed : Allowed size m step) (u : ℕ) (cell : Cell) where
  abbrev now : State
  now = after size m step

  stays : IsThere size m cell → IsThere size now cell
  stays h = record { adopted = adopted_stays size m step allowed cell h.adopted; replica = h.replica; low = h.low; copy = copy_stays size m r step allowed h.replica cell h.copy }

  module _ (t : ℕ) (step_is : step ≡ Step.Decides t) (h : MayDecide size m t) (at : u ≡ h.change) (unsettled : is_unsettled (m.changes u).verdict ≡ true) (adopts : h.adopts ≡ true) (bears : has_cell (cells_of (births (m.changes u).op)) cell ≡ true) where
    free : OneIsFreeOn size m (m.changes u).cells
    free = (leaves_one_free size m is r).unsettled u unsettled

    some : SomeCell (m.changes u).cells
    some = sent_has_cell size m r u (unsettled_was (m.changes u).verdict unsettled)

    holds : HasAsDecided m h.change h.adopts free.replica ⊎ IsAccusedOnEach size m h.change free.replica → has_change (applied m free.replica some.cell) u ≡ true
    holds (inl has) = ap (has_change (applied m free.replica some.cell)) at ∙ has some.cell (sym (ap (λ n. has_cell (m.changes n).cells some.cell) at) ∙ some.has) ∙ adopts
    holds (inr accused) = absurd (not_accused size m some.cell free.replica (free.free some.cell some.has) (accused some.cell (sym (ap (λ n. has_cell (m.changes n).cells some.cell) at) ∙ some.has)))

    adopts_now : IsThere size now cell
    adopts_now = record {
      adopted =
          ap (λ (f : Contents). is_some (f cell)) (adopted_now size m r step allowed some.cell u (record { decision = record { txn = t; step_is = step_is; may = h; at = at; unsettled = unsettled }; adopts = adopts; touches = some.has })).1
          ∙ ap is_some (contents_on m.adopted (m.changes u).op cell) ∙ births_have cell (births (m.changes u).op) (edited_on cell (m.adopted cell) (edits m.adopted (m.changes u).op)) bears;
      replica = free.replica;
      low = free.low;
      copy = copy_stays size m r step allowed free.replica cell
          (holders_have_born size m r u free.replica some.cell cell unsettled some.has (holds (decisions_spread size m r t h (sym (ap (λ n. is_unsettled (m.changes n).verdict) at) ∙ unsettled) free.replica free.low)) bears);
    }

  module _ (was : (m.changes u).verdict ≡ Adopted → has_cell (cells_of (births (m.changes u).op)) cell ≡ true → IsThere size m cell) (adopted : (now.changes u).verdict ≡ Adopted) (bears : has_cell (cells_of (births (now.changes u).op)) cell ≡ true) where
    as_before : (c : Change) → now.changes u ≡ c → c.verdict ≡ (m.changes u).verdict → c.op ≡ (m.changes u).op → IsThere size now cell
    as_before c is verdict op = stays (was (sym (ap (λ (x : Change). x.verdict) is ∙ verdict) ∙ adopted) (sym (ap (λ o. has_cell (cells_of (births o)) cell) (ap (λ (x : Change). x.op) is ∙ op)) ∙ bears))

    there_by : ChangeMove size m step u (now.changes u) → IsThere size now cell
    there_by (ChangeMove.Same is) = as_before _ is refl refl
    there_by (ChangeMove.Applies k by v op answer step_is handed stage is) = as_before _ is refl refl
    there_by (ChangeMove.Marks t step_is h at is) = absurd (let no : Verdict.Drawn ≡ Adopted = sym (ap (λ (x : Change). x.verdict) is) ∙ adopted in cc)
    there_by (ChangeMove.Unsettles t step_is h at is) = absurd (let no : Verdict.Unsettled ≡ Adopted = sym (ap (λ (x : Change). x.verdict) is) ∙ adopted in cc)
    there_by (ChangeMove.Decides t step_is h at unsettled is) =
        adopts_now t step_is h at unsettled (adopts_only h.adopts (sym (ap (λ (x : Change). x.verdict) is) ∙ adopted)) (sym (ap (λ (x : Change). has_cell (cells_of (births x.op)) cell) is) ∙ bears)

there : (size : Size) (m : State) → IsSize size → IsReached size m → (u : ℕ) (cell : Cell) → (m.changes u).verdict ≡ Adopted → has_cell (cells_of (births (m.changes u).op)) cell ≡ true → IsThere size m cell
there size m is IsReached.Start u cell adopted bears = absurd (let no : Verdict.Undrawn ≡ Adopted = adopted in cc)
there size m is (IsReached.Further before step reached allowed) u cell adopted bears =
    there_by size before is reached step allowed u cell (λ a b. there size before is reached u cell a b) adopted bears (change_moves size before step allowed u)

pub adopted_bears : EveryAdoptedBears
adopted_bears size m is r u cell adopted bears =
    let t = there size m is r u cell adopted bears in
    record { adopted = holds_own cell (m.adopted cell) (adopted_of_aspect size m r cell) t.adopted; replica = t.replica; low = t.low; copy = t.copy }
