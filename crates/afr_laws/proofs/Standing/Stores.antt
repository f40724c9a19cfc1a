-- What a request leaves of a row whose cell it does not alter; and the grants that a brick's move adds show its rows.
use Rattle.std.proofs.Common.{◌≡◌, ◌∙◌, ℕ, Bool, true, false, refl, sym, ap, ◌⊎◌, inl, inr, Option, Some, None, is_some, is_none}
use Rattle.std.specs.Prelude.{if◌then◌else◌, List, [], ◌∷◌, ◌++◌, ◌||◌, ◌&&◌, not}
use Rattle.fop_types.specs.StoreOps.{needs, births, fits, content_after}
use Rattle.fop_types.specs.Jobs.{cells_of}
use Rattle.fop_types.specs.declared.cells.Cell.{Cell}
use Rattle.fop_types.specs.declared.contents.Content.{Content}
use Rattle.fop_types.specs.declared.contents.Row.{Row}
use Rattle.fop_types.specs.declared.store_ops.StoreOp.{StoreOp}
use Rattle.afr_machine.specs.Replicas.{with_at}
use Rattle.afr_machine.specs.Touching.{is_cell, has_cell, share}
use Rattle.afr_machine.specs.Copies.{Copy, Kept, Store, contents_of, content_of, row_of, rows_of, on_cells, mark_of, post_of, settle_of, clear_of, changes_after, copy_with, sets_last, op_of, after_op}
use Rattle.afr_machine.specs.Requests.{Sender, Ask, Control, Answer, Output}
use Rattle.afr_machine.specs.Requests.Ask.{Lock, Unlock, Mark, Op, Post, Replace, Clear, Settle}
use Rattle.afr_machine.specs.Requests.Answer.{Done, Rows, Gone}
use Rattle.afr_machine.specs.Requests.Output.{Answered, Closed, Opened, Connected}
use Rattle.afr_machine.specs.Locks.{BrickLock, conflicts_among, those, is_of_txn, is_of_graph, granted_in_order}
use Rattle.afr_machine.specs.Bricks.{Brick, Power, stored_by, answer_of, grants_of, gones_of, locked, without_graph, served_up, served_by, is_up, steered}
use Rattle.afr_machine.specs.Bricks.Power.{IsUp, IsDown}
use Rattle.afr_laws.specs.Grants.{lock_granted}
use Rattle.afr_laws.specs.Apart.{IsGranting}
use Rattle.afr_laws.specs.Covered.{cells_asked, alters}
use Rattle.afr_laws.specs.Standing.{StillShows, IsShowing}
use Rattle.afr_laws.proofs.Bools.{or_right, is_or_not, apart_bools}
use Rattle.afr_laws.proofs.Holding.{gone_grants_none}
use Rattle.afr_laws.proofs.Copies.Contents.{content_stays}
use Rattle.afr_laws.proofs.Copies.Asks.{share_at}

-- ---- rows

pub same_row : (shown now : Row) → now ≡ shown → StillShows shown now
same_row shown now is = record { counters = ap (λ (r : Row). r.pending) is; present = λ p. ap (λ (r : Row). r.present) is ∙ p; last = λ p. ap (λ (r : Row). r.last) is }

pub later_row : (shown now later : Row) → StillShows shown now → StillShows now later → StillShows shown later
later_row shown now later n l = record { counters = l.counters ∙ n.counters; present = λ p. l.present (n.present p); last = λ p. l.last (n.present p) ∙ n.last p }

-- ---- one request

pub some_content : (copy : Option Copy) → is_some copy ≡ true → is_some (content_of copy) ≡ true
some_content (Some copy) h = refl
some_content None h = absurd cc

pub some_copy : (changes : List ℕ) (content : Option Content) → is_some content ≡ true → is_some (copy_with changes content) ≡ true
some_copy changes (Some content) h = refl
some_copy changes None h = absurd cc

module _ (store : Store) (cell : Cell) where
  abbrev kept : Kept
  kept = store cell

  counted : (cells : List Cell) (change : Kept → Kept) → has_cell cells cell ≡ false → StillShows (rows_of store cell) (rows_of (on_cells cells change store) cell)
  counted cells change none = same_row _ _ (ap (λ b. row_of (if b then change (store cell) else store cell)) none)

  not_none : (copy : Option Copy) → is_some copy ≡ true → is_none copy ≡ false
  not_none (Some copy) h = refl
  not_none None h = absurd cc

  op_still : (u : ℕ) (op : StoreOp) → has_cell (needs op) cell ≡ false → StillShows (rows_of store cell) (rows_of (after_op u op store) cell)
  op_still u op none = by_case (fits (contents_of store) op) where
    last_stays : is_some (store cell).copy ≡ true → sets_last op cell (store cell).copy ≡ false
    last_stays some = ap (λ b. b || (is_none (store cell).copy && has_cell (cells_of (births op)) cell)) none ∙ ap (λ b. b && has_cell (cells_of (births op)) cell) (not_none (store cell).copy some)

    applied : StillShows (rows_of store cell) (row_of (op_of (contents_of store) u op cell (store cell)))
    applied = record {
      counters = refl;
      present = λ some. some_copy (changes_after (has_cell (needs op) cell) u (store cell).copy) (content_after (contents_of store) op cell) (content_stays (contents_of store) op cell (some_content (store cell).copy some));
      last = λ some. ap (λ b. if b then u else (store cell).last) (last_stays some);
    }

    by_case : (b : Bool) → StillShows (rows_of store cell) (row_of (if b then op_of (contents_of store) u op cell (store cell) else store cell))
    by_case true = applied
    by_case false = same_row _ _ refl

  -- a request that does not alter the cell leaves its row
  pub stored_still : (ask : Ask) → (alters ask ≡ true → has_cell (cells_asked ask) cell ≡ false) → StillShows (rows_of store cell) (rows_of (stored_by ask store) cell)
  stored_still (Mark u cells) none = counted cells mark_of (none refl)
  stored_still (Op u op) none = op_still u op (none refl)
  stored_still (Post u cells accused) none = counted cells (post_of accused) (none refl)
  stored_still (Replace other found) none = same_row _ _ (ap (λ b. row_of (if b then record (store cell) { copy = Some found.copy; last = found.last } else store cell)) (sym (or_right (is_cell cell other)) ∙ none refl))
  stored_still (Clear cells who) none = counted cells (clear_of who) (none refl)
  stored_still (Settle u cells accused) none = counted cells (settle_of accused) (none refl)
  stored_still other none = same_row _ _ refl

-- a cell of one of two lists that have none in common
pub share_none_at : (xs ys : List Cell) (cell : Cell) → share xs ys ≡ false → has_cell xs cell ≡ true → has_cell ys cell ≡ false
share_none_at xs ys cell apart h = by_case (is_or_not (has_cell ys cell)) where
  by_case : (has_cell ys cell ≡ true) ⊎ (has_cell ys cell ≡ false) → has_cell ys cell ≡ false
  by_case (inl has) = apart_bools (share_at xs ys cell h has) apart
  by_case (inr lacks) = lacks

-- ---- grants that are added

-- what is shown was shown before, or are the rows as they are
abbrev pub ShownBack : BrickLock → (Cell → Row) → Store → List Output → List Output → Type 0
ShownBack lock rows store old new = IsShowing lock rows new → IsShowing lock rows old ⊎ (rows ≡ rows_of store)

pub showing_grants : (lock : BrickLock) (rows : Cell → Row) (os : List Output) → IsShowing lock rows os → IsGranting lock os
showing_grants lock rows [] h = h
showing_grants lock rows (Answered by ask answer ∷ os) (inl h) = inl h.0
showing_grants lock rows (Answered by ask answer ∷ os) (inr h) = inr (showing_grants lock rows os h)
showing_grants lock rows (Closed ∷ os) h = h
showing_grants lock rows (Opened ∷ os) h = showing_grants lock rows os h
showing_grants lock rows (Connected graph ∷ os) h = showing_grants lock rows os h

module _ (lock : BrickLock) (rows : Cell → Row) where
  split : (xs ys : List Output) → IsShowing lock rows (xs ++ ys) → IsShowing lock rows xs ⊎ IsShowing lock rows ys
  split [] ys h = inr h
  split (Answered by ask answer ∷ xs) ys (inl h) = inl (inl h)
  split (Answered by ask answer ∷ xs) ys (inr h) = more (split xs ys h) where
    more : IsShowing lock rows xs ⊎ IsShowing lock rows ys → IsShowing lock rows (Answered by ask answer ∷ xs) ⊎ IsShowing lock rows ys
    more (inl l) = inl (inr l)
    more (inr r) = inr r
  split (Closed ∷ xs) ys h = absurd h
  split (Opened ∷ xs) ys h = split xs ys h
  split (Connected graph ∷ xs) ys h = split xs ys h

  added : (store : Store) (xs ys : List Output) → (IsShowing lock rows ys → rows ≡ rows_of store) → ShownBack lock rows store xs (xs ++ ys)
  added store xs ys now h = by_case (split xs ys h) where
    by_case : IsShowing lock rows xs ⊎ IsShowing lock rows ys → IsShowing lock rows xs ⊎ (rows ≡ rows_of store)
    by_case (inl old) = inl old
    by_case (inr new) = inr (now new)

  grants_now : (store : Store) (ls : List BrickLock) → IsShowing lock rows (grants_of store ls) → rows ≡ rows_of store
  grants_now store [] h = absurd h
  grants_now store (l ∷ ls) (inl h) = rows_are h.1 where
    rows_are : Rows (rows_of store) ≡ Rows rows → rows ≡ rows_of store
    rows_are e = cc
  grants_now store (l ∷ ls) (inr h) = grants_now store ls h

  gones_none : (store : Store) (ls : List BrickLock) → IsShowing lock rows (gones_of ls) → rows ≡ rows_of store
  gones_none store [] h = absurd h
  gones_none store (l ∷ ls) (inl h) = absurd (no h.1) where
    no : Gone ≡ Rows rows → ⊥
    no e = absurd cc
  gones_none store (l ∷ ls) (inr h) = gones_none store ls h

  ungranted : (by : Sender) (ask : Ask) (answer : Answer) → lock_granted by ask answer ≡ None → IsShowing lock rows (Answered by ask answer ∷ []) → ⊥
  ungranted by ask answer none (inl h) = absurd (let no : None ≡ Some lock = sym none ∙ h.0 in cc)
  ungranted by ask answer none (inr h) = h

  pub answering_shown : (store : Store) (os : List Output) (by : Sender) (ask : Ask) (answer : Answer) → lock_granted by ask answer ≡ None → ShownBack lock rows store os (os ++ Answered by ask answer ∷ [])
  answering_shown store os by ask answer none = added store os (Answered by ask answer ∷ []) (λ h. absurd (ungranted by ask answer none h))

  module _ (b : Brick) where
    locked_shown : (l : BrickLock) → ShownBack lock rows b.store b.outputs (locked l b).outputs
    locked_shown l = by_case (conflicts_among (b.held ++ b.waiting) l) where
      by_case : (c : Bool) → ShownBack lock rows b.store b.outputs (if c then record b { waiting = b.waiting ++ l ∷ [] } else record b { held = b.held ++ l ∷ []; outputs = b.outputs ++ grants_of b.store (l ∷ []) }).outputs
      by_case true h = inl h
      by_case false h = added b.store b.outputs (grants_of b.store (l ∷ [])) (grants_now b.store (l ∷ [])) h

    after_gone : (first : List Output) (ls : List BrickLock) → (IsShowing lock rows first → rows ≡ rows_of b.store) → IsShowing lock rows (first ++ grants_of b.store ls) → rows ≡ rows_of b.store
    after_gone first ls none h = by_case (split first (grants_of b.store ls) h) where
      by_case : IsShowing lock rows first ⊎ IsShowing lock rows (grants_of b.store ls) → rows ≡ rows_of b.store
      by_case (inl f) = none f
      by_case (inr g) = grants_now b.store ls g

    unlocked_shown : (by : Sender) → ShownBack lock rows b.store b.outputs (served_up by Unlock b).outputs
    unlocked_shown by =
        let q = granted_in_order (those (λ l. not (is_of_txn by.txn l)) b.held) [] b.waiting in
        added b.store b.outputs ((Answered by Unlock Done ∷ []) ++ grants_of b.store q.granted) (after_gone (Answered by Unlock Done ∷ []) q.granted (λ f. absurd (ungranted by Unlock Done refl f)))

    -- the store is that after the request; a lock or unlock leaves it
    served_up_shown : (by : Sender) (ask : Ask) → ShownBack lock rows (stored_by ask b.store) b.outputs (served_up by ask b).outputs
    served_up_shown by (Lock shared cells) = locked_shown (record { by = by; shared = shared; cells = cells })
    served_up_shown by Unlock = unlocked_shown by
    served_up_shown by other = answering_shown (stored_by other b.store) b.outputs by other (answer_of other b.store) refl

    pub served_shown : (power : Power) (by : Sender) (ask : Ask) → ShownBack lock rows (stored_by ask b.store) b.outputs (served_by power by ask b).outputs
    served_shown IsUp by ask = served_up_shown by ask
    served_shown (IsDown late were) by ask = answering_shown (stored_by ask b.store) b.outputs by ask Gone (gone_grants_none by ask)

    dropped_shown : (g : ℕ) → ShownBack lock rows b.store b.outputs (without_graph g b).outputs
    dropped_shown g =
        let gone = those (is_of_graph g) b.waiting in
        let q = granted_in_order (those (λ l. not (is_of_graph g l)) b.held) [] (those (λ l. not (is_of_graph g l)) b.waiting) in
        added b.store b.outputs (gones_of gone ++ grants_of b.store q.granted) (after_gone (gones_of gone) q.granted (gones_none b.store gone))

    then_notice : (os : List Output) (o : Output) → (IsShowing lock rows (o ∷ []) → ⊥) → ShownBack lock rows b.store b.outputs os → ShownBack lock rows b.store b.outputs (os ++ o ∷ [])
    then_notice os o none back h = by_case (split os (o ∷ []) h) where
      by_case : IsShowing lock rows os ⊎ IsShowing lock rows (o ∷ []) → IsShowing lock rows b.outputs ⊎ (rows ≡ rows_of b.store)
      by_case (inl old) = back old
      by_case (inr new) = absurd (none new)

    pub steered_shown : (control : Control) → ShownBack lock rows b.store b.outputs (steered control b).outputs
    steered_shown (Control.Down late) = added b.store b.outputs (Closed ∷ gones_of b.waiting) (λ h. absurd h)
    steered_shown Control.Up = then_notice b.outputs Opened (λ h. h) (λ h. inl h)
    steered_shown (Control.Connect g) = by_case (is_up b.power) where
      by_case : (u : Bool) → ShownBack lock rows b.store b.outputs (if u then (let c = without_graph g b in record c { connected = with_at c.connected g true; outputs = c.outputs ++ Connected g ∷ [] }) else b).outputs
      by_case true h = then_notice (without_graph g b).outputs (Connected g) (λ e. e) (dropped_shown g) h
      by_case false h = inl h
    steered_shown (Control.Disconnect g) = dropped_shown g
