-- What a job knows of its replicas after a turn, and who is out, was so before or came with what was handed in.
use Rattle.std.proofs.Common.{◌≡◌, ◌≢◌, ◌∙◌, ℕ, zero, suc, ◌+◌, ◌<◌, ◌==◌, ◌⊎◌, inl, inr, Bool, true, false, not, cond, nat_lt, List, [], ◌∷◌, ◌++◌, Option, Some, None, is_some, refl, sym, ap, subst, arith}
use Rattle.std.specs.Prelude.{length, slice_get, slice_index, slice_index_or, slice_set}
use Rattle.std.proofs.lemmas.Bool.{cond_both, cases_eq, eqb-true, true≢false}
use Rattle.fop_types.specs.declared.cells.Cell.{Cell}
use Rattle.fop_types.specs.declared.contents.Content.{Content}
use Rattle.fop_types.specs.declared.contents.Mask.{Mask}
use Rattle.fop_types.specs.declared.contents.Row.{Row}
use Rattle.fop_types.specs.declared.copy_jobs.CopyDone.{CopyDone}
use Rattle.fop_types.specs.declared.copy_jobs.CopyRecord.{CopyRecord}
use Rattle.fop_types.specs.declared.copy_jobs.Out.{Out}
use Rattle.fop_types.specs.declared.messages.BrickRep.{BrickRep}
use Rattle.fop_types.specs.declared.messages.BrickRep.TheVariants as rep
use Rattle.fop_types.specs.declared.messages.DoneArm.TheVariants as arm
use Rattle.afr_ledger.specs.Ledger.{State}
use Rattle.afr_phases.specs.declared.locks.Locks.{Locks}
use Rattle.afr_phases.specs.declared.outs.Outs.{Outs}
use Rattle.afr_phases.specs.Answers.{is_fault, is_plain_done, rows_in, content_in, cells_in}
use Rattle.afr_phases.specs.Flags.{flag, no_flags}
use Rattle.afr_phases.specs.Locks.{no_locks, granted}
use Rattle.afr_phases.specs.Outs.{is_out, is_short, left}
use Rattle.afr_phases.specs.Shown.{nothing_shown, with_rows}
use Rattle.afr_phases.specs.Waves.{is_over, taken}
use Rattle.afr_phases.proofs.LostSince.{left_from}
use Rattle.afr_phases.proofs.Stays.{five_heard}
use Rattle.afr_phases.proofs.Tracked.{left_places, left_same}
use Rattle.afr_transaction.specs.declared.need.Need.{Need}
use Rattle.afr_transaction.specs.declared.phase.Phase.{Phase}
use Rattle.afr_transaction.specs.declared.phase.Phase.TheVariants as phase
use Rattle.afr_transaction.specs.declared.phase.Then.TheVariants as next
use Rattle.afr_transaction.specs.declared.txn.Txn.{Txn}
use Rattle.afr_transaction.specs.Answers.{answered_in, aspect_at, copied_in, birth_answered, hearing, list_answered, list_taken, lock_on, mark_answered, open_answered, post_answered, settle_answered, unlock_answered, waiting, write_answered}
use Rattle.afr_transaction.specs.Copied.{copy_next}
use Rattle.afr_transaction.specs.Copies.{is_left, with_out, with_outs}
use Rattle.afr_transaction.specs.Listing.{with_cells}
use Rattle.afr_transaction.specs.Locked.{fail, lock_taken, unlock}
use Rattle.afr_transaction.specs.Polls.{list_ended}
use Rattle.afr_transaction.specs.Reads.{fetch_taken}
use Rattle.afr_transaction.specs.Requests.{HasGranted}
use Rattle.afr_transaction.specs.Shapes.{are_copies, suits}
use Rattle.afr_transaction.specs.Txns.{is_heal, kept}
use Rattle.afr_transaction.proofs.TurnsCopies.{outs_five}
use Rattle.txn_laws.specs.Granted.{IsLocking, KnowsNone, rows_by, is_as_asked, SendsNone, SendsSome, CoversIn, HasRows, Follows}
use Rattle.txn_laws.specs.Outs.{IsSame, IsAmong, IsLostAs, LostLock, WasLost}
use Rattle.txn_laws.specs.Own.{IsSameJob}
use Rattle.txn_laws.proofs.LostBy.{set_at, left_at, left_stays, none_there, Lost, Covers}
use Rattle.txn_laws.proofs.Noted.{After, AfterWith, bearing_after, fail_after, fetch_after, listing_after, lock_on_after, marking_after, noted_after, opening_after, posting_after, releasing_after, settling_after, waits_after, writing_after}

-- ---- lists

set_flag : (xs : List Bool) (i j : ℕ) (b : Bool) → flag (slice_set xs i b) j ≡ true → (flag xs j ≡ true) ⊎ ((j ≡ i) × (b ≡ true))
set_flag [] i j b h = inl h
set_flag (x ∷ xs) zero zero b h = inr (refl, h)
set_flag (x ∷ xs) zero (suc j) b h = inl h
set_flag (x ∷ xs) (suc i) zero b h = inl h
set_flag (x ∷ xs) (suc i) (suc j) b h = by (set_flag xs i j b h) where
  by : (flag xs j ≡ true) ⊎ ((j ≡ i) × (b ≡ true)) → (flag xs j ≡ true) ⊎ ((suc j ≡ suc i) × (b ≡ true))
  by (inl there) = inl there
  by (inr e) = inr (ap suc e.0, e.1)

pub set_length : {A : Type 0} (xs : List A) (i : ℕ) (x : A) → length (slice_set xs i x) ≡ length xs
set_length [] i x = refl
set_length (y ∷ ys) zero x = refl
set_length (y ∷ ys) (suc i) x = ap suc (set_length ys i x)

set_here : {A : Type 0} (xs : List (Option A)) (i : ℕ) (x : A) → i < length xs → slice_index_or (slice_set xs i (Some x)) i None ≡ Some x
set_here [] i x low = absurd (omega arith)
set_here (y ∷ ys) zero x low = refl
set_here (y ∷ ys) (suc i) x low = set_here ys i x (omega arith)

set_there : {A : Type 0} (xs : List (Option A)) (i j : ℕ) (x : A) → j ≢ i → slice_index_or (slice_set xs i (Some x)) j None ≡ slice_index_or xs j None
set_there [] i j x apart = refl
set_there (y ∷ ys) zero zero x apart = absurd (apart refl)
set_there (y ∷ ys) zero (suc j) x apart = refl
set_there (y ∷ ys) (suc i) zero x apart = refl
set_there (y ∷ ys) (suc i) (suc j) x apart = set_there ys i j x (λ e. apart (ap suc e))

-- the rows of a lock are one for each cell
rows_count : (r : BrickRep) (count : ℕ) (rows : List Row) → rows_in r count ≡ Some rows → length rows ≡ count
rows_count (rep.Done arm.Nothing) count rows h = absurd cc
rows_count (rep.Done (arm.Rows more)) count rows h = by h where
  by : cond (length more == count) (Some more) None ≡ Some rows → length rows ≡ count
  by = cond_both (length more == count) (Some more) None (λ (o : Option (List Row)). o ≡ Some rows → length rows ≡ count)
      (λ e i. let same : more ≡ rows = cc in ap length (sym same) ∙ eqb-true (length more) count e) (λ e i. absurd cc)
rows_count (rep.Done (arm.Content content number)) count rows h = absurd cc
rows_count (rep.Done (arm.Cells cells)) count rows h = absurd cc
rows_count rep.Gone count rows h = absurd cc
rows_count rep.Fault count rows h = absurd cc
rows_count rep.Unfit count rows h = absurd cc
rows_count rep.BadFd count rows h = absurd cc

-- ---- what is known after a turn that goes on from these

-- five places each, and each that has granted its lock has shown its rows
pub record HasAll (b : Txn) : Type 0 where
  pub outs_places : length b.outs.at ≡ 5
  pub locks_places : length b.locks.at ≡ 5
  pub rows_places : length b.shown.rows ≡ 5
  pub rows : (j : ℕ) → HasGranted b j → HasRows b j

module _ (P T : Type 0) (live : Mask) (last : List ℕ) (b : Txn) (t : Txn × Need) (l : After P T live last b t) where
  pub own_after : IsSameJob b t.0
  own_after = record { set = l.set_is; size = l.size_is; bricks = l.bricks_is; call = l.call_is; job = l.job_is }

  pub grants_after : (j connection : ℕ) → slice_index_or t.0.locks.at j None ≡ Some connection → slice_index_or b.locks.at j None ≡ Some connection
  grants_after j connection h = by l.known where
    by : ((t.0.locks ≡ b.locks) × ((t.0.shown.rows ≡ b.shown.rows) × (t.0.cells ≡ b.cells))) ⊎ ((t.0.locks ≡ no_locks) × (t.0.shown.rows ≡ nothing_shown.rows)) → slice_index_or b.locks.at j None ≡ Some connection
    by (inl e) = rw (← e.0) h
    by (inr e) = absurd (none_there j connection (ap (λ (x : Locks). slice_index_or x.at j None) (sym e.0) ∙ h))

  pub rows_after : (j : ℕ) (rows : List Row) → rows_by t.0.shown j ≡ Some rows → rows_by b.shown j ≡ Some rows
  rows_after j rows h = by l.known where
    by : ((t.0.locks ≡ b.locks) × ((t.0.shown.rows ≡ b.shown.rows) × (t.0.cells ≡ b.cells))) ⊎ ((t.0.locks ≡ no_locks) × (t.0.shown.rows ≡ nothing_shown.rows)) → rows_by b.shown j ≡ Some rows
    by (inl e) = rw (← e.1.0) h
    by (inr e) = absurd (none_there j rows (ap (λ (x : List (Option (List Row))). slice_index_or x j None) (sym e.1) ∙ h))

  none_flag : (j : ℕ) → flag (false ∷ false ∷ false ∷ false ∷ false ∷ []) j ≡ false
  none_flag zero = refl
  none_flag (suc zero) = refl
  none_flag (suc (suc zero)) = refl
  none_flag (suc (suc (suc zero))) = refl
  none_flag (suc (suc (suc (suc zero)))) = refl
  none_flag (suc (suc (suc (suc (suc j))))) = refl

  pub confirmed_after : (j : ℕ) → flag t.0.wave.confirmed j ≡ true → SendsNone t.1 × (flag b.wave.confirmed j ≡ true)
  confirmed_after j h = by l.waits where
    by : ((t.0.wave ≡ b.wave) × SendsNone t.1) ⊎ ((t.0.wave.confirmed ≡ no_flags) × SendsSome t.1) → SendsNone t.1 × (flag b.wave.confirmed j ≡ true)
    by (inl e) = (e.1, rw (← e.0) h)
    by (inr e) = absurd (true≢false (sym h ∙ ap (λ (f : List Bool). flag f j) e.0 ∙ none_flag j))

  pub follows_after : P → HasAll b → Follows t.0
  follows_after p all = by l.known where
    by : ((t.0.locks ≡ b.locks) × ((t.0.shown.rows ≡ b.shown.rows) × (t.0.cells ≡ b.cells))) ⊎ ((t.0.locks ≡ no_locks) × (t.0.shown.rows ≡ nothing_shown.rows)) → Follows t.0
    by (inl e) = record {
      locks_places = rw e.0 all.locks_places;
      rows_places = rw e.1.0 all.rows_places;
      asked = l.covers p;
      rows = λ j g. let r = all.rows j (rw (← e.0) g) in record { rows = r.rows; shown = rw e.1.0 r.shown; one_each = rw e.1.1 r.one_each };
    }
    by (inr e) = record { locks_places = ap (λ (x : Locks). length x.at) e.0; rows_places = ap (λ (x : List (Option (List Row))). length x) e.1; asked = l.covers p; rows = λ j g. absurd (ungranted j (ap (λ (x : Locks). is_some (slice_index_or x.at j None)) (sym e.0) ∙ g)) } where
      ungranted : (j : ℕ) → is_some (slice_index_or no_locks.at j None) ≡ true → ⊥
      ungranted j g = from (slice_index_or no_locks.at j None) refl g where
        from : (o : Option ℕ) → slice_index_or no_locks.at j None ≡ o → is_some o ≡ true → ⊥
        from None at h = true≢false (sym h)
        from (Some c) at h = none_there j c at

  pub anew_after : (at : ℕ) → t.0.phase ≡ phase.Locking at → T ⊎ KnowsNone t.0
  anew_after at e = by (l.anew at e) where
    by : T ⊎ ((t.0.locks ≡ no_locks) × (t.0.shown.rows ≡ nothing_shown.rows)) → T ⊎ KnowsNone t.0
    by (inl on) = inl on
    by (inr none) = inr (record {
      locks = λ j connection h. none_there j connection (ap (λ (x : Locks). slice_index_or x.at j None) (sym none.0) ∙ h);
      rows = λ j rows h. none_there j rows (ap (λ (x : List (Option (List Row))). slice_index_or x j None) (sym none.1) ∙ h);
    })

-- ---- answers

-- what each phase knows before, for the claims that need it: who is asked for a lock comes next
pub record Given (txn : Txn) (k : ℕ) (p : Phase) : Type 0 where
  pub low : k < 5
  pub fits : suits p txn ≡ true
  pub all : HasAll txn
  pub asked : (at : ℕ) → p ≡ phase.Locking at → (at ≡ k) × ((j : ℕ) → j < at → (is_out txn.outs j ≡ true) ⊎ HasGranted txn j)

module _ (P : Type 0) (live : Mask) (last : List ℕ) (txn : Txn) (k mark : ℕ) (r : BrickRep) (p : Phase) where
  abbrev asked : Bool
  asked = is_as_asked p txn.cells r

  pub record OutBy (j : ℕ) (out : Out) : Type 0 where
    pub replica : j ≡ k
    pub out_is : out ≡ record { replica = k; fault = is_fault r; mark = mark }
    pub other : asked ≡ false

  pub record GrantBy (j connection : ℕ) : Type 0 where
    pub replica : j ≡ k
    pub at : ℕ
    pub phase_is : p ≡ phase.Locking at
    pub as_asked : asked ≡ true
    pub connection_is : connection ≡ slice_index last k

  pub record RowsBy (j : ℕ) (rows : List Row) : Type 0 where
    pub replica : j ≡ k
    pub at : ℕ
    pub phase_is : p ≡ phase.Locking at
    pub rows_are : rows_in r (length txn.cells) ≡ Some rows

  -- a job that has taken the answer
  pub record Based (b : Txn) : Type 0 where
    pub own : IsSameJob txn b
    pub outs : (j : ℕ) (out : Out) → slice_index_or b.outs.at j None ≡ Some out → (slice_index_or txn.outs.at j None ≡ Some out) ⊎ OutBy j out
    pub grants : (j connection : ℕ) → slice_index_or b.locks.at j None ≡ Some connection → (slice_index_or txn.locks.at j None ≡ Some connection) ⊎ GrantBy j connection
    pub rows : (j : ℕ) (rows : List Row) → rows_by b.shown j ≡ Some rows → (rows_by txn.shown j ≡ Some rows) ⊎ RowsBy j rows
    pub confirmed : (j : ℕ) → flag b.wave.confirmed j ≡ true → (flag txn.wave.confirmed j ≡ true) ⊎ ((j ≡ k) × (asked ≡ true))
    pub was : (j : ℕ) → WasLost b.locks live last j → WasLost txn.locks live last j
    pub wave_is : P → b.wave ≡ taken txn.wave k asked
    pub all : P → HasAll b

  -- and after its turn
  pub record HandedIn (a : Txn) (turned : Need) : Type 0 where
    pub own : IsSameJob txn a
    pub outs : (j : ℕ) (out : Out) → slice_index_or a.outs.at j None ≡ Some out → (slice_index_or txn.outs.at j None ≡ Some out) ⊎ (OutBy j out ⊎ (IsLostAs last j out × (P → WasLost txn.locks live last j)))
    pub grants : (j connection : ℕ) → slice_index_or a.locks.at j None ≡ Some connection → (slice_index_or txn.locks.at j None ≡ Some connection) ⊎ GrantBy j connection
    pub rows : (j : ℕ) (rows : List Row) → rows_by a.shown j ≡ Some rows → (rows_by txn.shown j ≡ Some rows) ⊎ RowsBy j rows
    pub confirmed : (j : ℕ) → flag a.wave.confirmed j ≡ true → SendsNone turned × ((flag txn.wave.confirmed j ≡ true) ⊎ ((j ≡ k) × (asked ≡ true)))
    pub wave : P → ((a.wave ≡ taken txn.wave k asked) × SendsNone turned) ⊎ ((a.wave.confirmed ≡ no_flags) × SendsSome turned)
    pub follows : P → Follows a
    pub anew : (at : ℕ) → a.phase ≡ phase.Locking at → IsLocking p ⊎ KnowsNone a

  from_base : (b : Txn) → Based b → (t : Txn × Need) → After P (IsLocking p) live last b t → HandedIn t.0 t.1
  from_base b base t l = record {
    own = let o = own_after P (IsLocking p) live last b t l in record { set = o.set ∙ base.own.set; size = o.size ∙ base.own.size; bricks = o.bricks ∙ base.own.bricks; call = o.call ∙ base.own.call; job = o.job ∙ base.own.job };
    outs = λ j out h. by j out (l.since.from j out h);
    grants = λ j connection h. base.grants j connection (grants_after P (IsLocking p) live last b t l j connection h);
    rows = λ j rows h. base.rows j rows (rows_after P (IsLocking p) live last b t l j rows h);
    confirmed = λ j h. let c = confirmed_after P (IsLocking p) live last b t l j h in (c.0, base.confirmed j c.1);
    wave = λ q. wave_by q l.waits;
    follows = λ q. follows_after P (IsLocking p) live last b t l q (base.all q);
    anew = anew_after P (IsLocking p) live last b t l;
  } where
    wave_by : P → ((t.0.wave ≡ b.wave) × SendsNone t.1) ⊎ ((t.0.wave.confirmed ≡ no_flags) × SendsSome t.1) → ((t.0.wave ≡ taken txn.wave k asked) × SendsNone t.1) ⊎ ((t.0.wave.confirmed ≡ no_flags) × SendsSome t.1)
    wave_by q (inl e) = inl (e.0 ∙ base.wave_is q, e.1)
    wave_by q (inr e) = inr e

    before : (j : ℕ) (out : Out) → (slice_index_or txn.outs.at j None ≡ Some out) ⊎ OutBy j out → (slice_index_or txn.outs.at j None ≡ Some out) ⊎ (OutBy j out ⊎ (IsLostAs last j out × (P → WasLost txn.locks live last j)))
    before j out (inl there) = inl there
    before j out (inr is) = inr (inl is)

    by : (j : ℕ) (out : Out) → (slice_index_or b.outs.at j None ≡ Some out) ⊎ Lost P live last b.locks j out → (slice_index_or txn.outs.at j None ≡ Some out) ⊎ (OutBy j out ⊎ (IsLostAs last j out × (P → WasLost txn.locks live last j)))
    by j out (inl there) = before j out (base.outs j out there)
    by j out (inr lost) = inr (inr (record { is = lost.is; replica = lost.replica }, λ q. base.was j (lost.why q)))

  module _ (given : P → Given txn k p) where
    -- as asked
    kept_base : asked ≡ true → Based (record txn { wave = taken txn.wave k true })
    kept_base is = record {
      own = record { set = refl; size = refl; bricks = refl; call = refl; job = refl };
      outs = λ j out h. inl h;
      grants = λ j connection h. inl h;
      rows = λ j rows h. inl h;
      confirmed = λ j h. by j (set_flag txn.wave.confirmed k j true h);
      was = λ j h. h;
      wave_is = λ q. ap (taken txn.wave k) (sym is);
      all = λ q. let a = (given q).all in record { outs_places = a.outs_places; locks_places = a.locks_places; rows_places = a.rows_places; rows = λ j g. let s = a.rows j g in record { rows = s.rows; shown = s.shown; one_each = s.one_each } };
    } where
      by : (j : ℕ) → (flag txn.wave.confirmed j ≡ true) ⊎ ((j ≡ k) × (true ≡ true)) → (flag txn.wave.confirmed j ≡ true) ⊎ ((j ≡ k) × (asked ≡ true))
      by j (inl there) = inl there
      by j (inr e) = inr (e.0, is)

    -- not as asked
    pub left_base : asked ≡ false → Based (record txn { outs = left txn.outs k (is_fault r) mark; wave = taken txn.wave k false })
    left_base other = record {
      own = record { set = refl; size = refl; bricks = refl; call = refl; job = refl };
      outs = λ j out h. by j out (left_at txn.outs k mark (is_fault r) j out h);
      grants = λ j connection h. inl h;
      rows = λ j rows h. inl h;
      confirmed = λ j h. inl h;
      was = λ j h. h;
      wave_is = λ q. ap (taken txn.wave k) (sym other);
      all = λ q. let a = (given q).all in record { outs_places = left_places txn.outs k mark (is_fault r) a.outs_places; locks_places = a.locks_places; rows_places = a.rows_places; rows = λ j g. let s = a.rows j g in record { rows = s.rows; shown = s.shown; one_each = s.one_each } };
    } where
      by : (j : ℕ) (out : Out) → (slice_index_or txn.outs.at j None ≡ Some out) ⊎ ((is_out txn.outs k ≡ false) × ((j ≡ k) × (record { replica = k; fault = is_fault r; mark = mark } ≡ out)))
          → (slice_index_or txn.outs.at j None ≡ Some out) ⊎ OutBy j out
      by j out (inl there) = inl there
      by j out (inr e) = inr (record { replica = e.1.0; out_is = sym e.1.1; other = other })

    base_by : (c : Bool) → asked ≡ c → Based (record txn { outs = cond c txn.outs (left txn.outs k (is_fault r) mark); wave = taken txn.wave k c })
    base_by true is = kept_base is
    base_by false other = left_base other

    -- a lock that is granted
    pub grant_base : (at : ℕ) (more : List Row) → p ≡ phase.Locking at → rows_in r (length txn.cells) ≡ Some more → asked ≡ true
        → Based (record txn { locks = granted txn.locks k (slice_index last k); shown = with_rows txn.shown k more; wave = taken txn.wave k true })
    grant_base at more phase_is rows_are is = record {
      own = record { set = refl; size = refl; bricks = refl; call = refl; job = refl };
      outs = λ j out h. inl h;
      grants = λ j connection h. grant_by j connection (set_at txn.locks.at k j (slice_index last k) connection h);
      rows = λ j rows h. rows_by_it j rows (set_at txn.shown.rows k j more rows h);
      confirmed = λ j h. by j (set_flag txn.wave.confirmed k j true h);
      was = λ j h. was_by j h;
      wave_is = λ q. ap (taken txn.wave k) (sym is);
      all = λ q. all_by q;
    } where
      grant_by : (j connection : ℕ) → (slice_index_or txn.locks.at j None ≡ Some connection) ⊎ ((j ≡ k) × (slice_index last k ≡ connection)) → (slice_index_or txn.locks.at j None ≡ Some connection) ⊎ GrantBy j connection
      grant_by j connection (inl there) = inl there
      grant_by j connection (inr e) = inr (record { replica = e.0; at = at; phase_is = phase_is; as_asked = is; connection_is = sym e.1 })

      rows_by_it : (j : ℕ) (rows : List Row) → (slice_index_or txn.shown.rows j None ≡ Some rows) ⊎ ((j ≡ k) × (more ≡ rows)) → (rows_by txn.shown j ≡ Some rows) ⊎ RowsBy j rows
      rows_by_it j rows (inl there) = inl there
      rows_by_it j rows (inr e) = inr (record { replica = e.0; at = at; phase_is = phase_is; rows_are = rows_are ∙ ap (λ (l : List Row). Some l) e.1 })

      by : (j : ℕ) → (flag txn.wave.confirmed j ≡ true) ⊎ ((j ≡ k) × (true ≡ true)) → (flag txn.wave.confirmed j ≡ true) ⊎ ((j ≡ k) × (asked ≡ true))
      by j (inl there) = inl there
      by j (inr e) = inr (e.0, is)

      lost_by : (j : ℕ) (h : LostLock (granted txn.locks k (slice_index last k)) last j) → (slice_index_or txn.locks.at j None ≡ Some h.connection) ⊎ ((j ≡ k) × (slice_index last k ≡ h.connection)) → WasLost txn.locks live last j
      lost_by j h (inl there) = inr (record { connection = h.connection; granted = there; other = h.other })
      lost_by j h (inr e) = absurd (h.other (ap (slice_index last) e.0 ∙ e.1))

      was_by : (j : ℕ) → WasLost (granted txn.locks k (slice_index last k)) live last j → WasLost txn.locks live last j
      was_by j (inl closed) = inl closed
      was_by j (inr h) = lost_by j h (set_at txn.locks.at k j (slice_index last k) h.connection h.granted)

      all_by : P → HasAll (record txn { locks = granted txn.locks k (slice_index last k); shown = with_rows txn.shown k more; wave = taken txn.wave k true })
      all_by q = record {
        outs_places = (given q).all.outs_places;
        locks_places = set_length txn.locks.at k (Some (slice_index last k)) ∙ (given q).all.locks_places;
        rows_places = set_length txn.shown.rows k (Some more) ∙ (given q).all.rows_places;
        rows = λ j g. has j (cases_eq j k) g;
      } where
        low_rows : k < length txn.shown.rows
        low_rows = rw (given q).all.rows_places (given q).low

        has : (j : ℕ) → (j ≡ k) ⊎ (j ≢ k) → is_some (slice_index_or (slice_set txn.locks.at k (Some (slice_index last k))) j None) ≡ true
            → HasRows (record txn { locks = granted txn.locks k (slice_index last k); shown = with_rows txn.shown k more; wave = taken txn.wave k true }) j
        has j (inl same) g = record { rows = more; shown = subst (λ (m : ℕ). slice_index_or (slice_set txn.shown.rows k (Some more)) m None ≡ Some more) (sym same) (set_here txn.shown.rows k more low_rows); one_each = rows_count r (length txn.cells) more rows_are }
        has j (inr apart) g =
            let s = (given q).all.rows j (ap is_some (sym (set_there txn.locks.at k j (slice_index last k) apart)) ∙ g) in
            record { rows = s.rows; shown = set_there txn.shown.rows k j more apart ∙ s.shown; one_each = s.one_each }

-- ---- by the phase

module _ (P : Type 0) (live : Mask) (last : List ℕ) (txn : Txn) (k mark : ℕ) (r : BrickRep) (ledger : State Cell) where
  abbrev By : Phase → Txn × Need → Type 0
  By p t = HandedIn P live last txn k mark r p t.0 t.1

  abbrev ByWith : Phase → Txn × (Need × State Cell) → Type 0
  ByWith p t = HandedIn P live last txn k mark r p t.0 t.1.0

  heard : (p : Phase) → (P → Given txn k p) → is_as_asked p txn.cells r ≡ is_plain_done r → (t : Txn × Need) → After P (IsLocking p) live last (hearing txn k r mark) t → By p t
  heard p given e t l = from_base P live last txn k mark r p (hearing txn k r mark) (base_by P live last txn k mark r p given (is_plain_done r) e) t l

  heard_with : (p : Phase) → (P → Given txn k p) → is_as_asked p txn.cells r ≡ is_plain_done r → (t : Txn × (Need × State Cell)) → AfterWith P (IsLocking p) live last (hearing txn k r mark) t → ByWith p t
  heard_with p given e t l = heard p given e (t.0, t.1.0) l

  -- nothing is taken
  self : (p : Phase) → (P → Given txn k p) → suits p txn ≡ false → (t : Txn × Need) → After P (IsLocking p) live last txn t → By p t
  self p given unfit t l =
      from_base P live last txn k mark r p txn (record {
        own = record { set = refl; size = refl; bricks = refl; call = refl; job = refl };
        outs = λ j out h. inl h;
        grants = λ j connection h. inl h;
        rows = λ j rows h. inl h;
        confirmed = λ j h. inl h;
        was = λ j h. h;
        wave_is = λ q. absurd (true≢false (sym (given q).fits ∙ unfit));
        all = λ q. (given q).all;
      }) t l

  -- a lock
  abbrev gone : Txn
  gone = record txn { outs = left txn.outs k (is_fault r) mark; wave = taken txn.wave k false }

  abbrev held : List Row → Txn
  held more = record txn { locks = granted txn.locks k (slice_index last k); shown = with_rows txn.shown k more; wave = taken txn.wave k true }

  gone_five : (p : Phase) → (P → Given txn k p) → P → length (left txn.outs k (is_fault r) mark).at ≡ 5
  gone_five p given q = left_places txn.outs k mark (is_fault r) (given q).all.outs_places

  heard_five : (p : Phase) → (P → Given txn k p) → P → length (hearing txn k r mark).outs.at ≡ 5
  heard_five p given q = five_heard txn.size.n txn.outs k mark r (given q).all.outs_places

  gone_covers : (at : ℕ) → (P → Given txn k (phase.Locking at)) → P → Covers P live last txn.locks (left txn.outs k (is_fault r) mark) (k + 1)
  gone_covers at given q j low = by (cases_eq j k) where
    low_outs : k < length txn.outs.at
    low_outs = rw (given q).all.outs_places (given q).low

    before : (is_out txn.outs j ≡ true) ⊎ HasGranted txn j → (is_out (left txn.outs k (is_fault r) mark) j ≡ true) ⊎ HasGranted txn j
    before (inl out) = inl (left_stays txn.outs k mark j (is_fault r) out)
    before (inr g) = inr g

    by : (j ≡ k) ⊎ (j ≢ k) → (is_out (left txn.outs k (is_fault r) mark) j ≡ true) ⊎ HasGranted txn j
    by (inl same) = inl (subst (λ (m : ℕ). is_out (left txn.outs k (is_fault r) mark) m ≡ true) (sym same) (left_same txn.outs k mark (is_fault r) low_outs))
    by (inr apart) = let a = (given q).asked at refl in let same : at ≡ k = a.0 in before (a.1 j (omega arith))

  held_covers : (at : ℕ) → (P → Given txn k (phase.Locking at)) → P → Covers P live last (granted txn.locks k (slice_index last k)) txn.outs (k + 1)
  held_covers at given q j low = by (cases_eq j k) where
    low_locks : k < length txn.locks.at
    low_locks = rw (given q).all.locks_places (given q).low

    by : (j ≡ k) ⊎ (j ≢ k) → (is_out txn.outs j ≡ true) ⊎ (is_some (slice_index_or (slice_set txn.locks.at k (Some (slice_index last k))) j None) ≡ true)
    by (inl same) = inr (subst (λ (m : ℕ). is_some (slice_index_or (slice_set txn.locks.at k (Some (slice_index last k))) m None) ≡ true) (sym same) (ap is_some (set_here txn.locks.at k (slice_index last k) low_locks)))
    by (inr apart) = let a = (given q).asked at refl in let same : at ≡ k = a.0 in before (a.1 j (omega arith)) where
      before : (is_out txn.outs j ≡ true) ⊎ HasGranted txn j → (is_out txn.outs j ≡ true) ⊎ (is_some (slice_index_or (slice_set txn.locks.at k (Some (slice_index last k))) j None) ≡ true)
      before (inl out) = inl out
      before (inr g) = inr (ap is_some (set_there txn.locks.at k j (slice_index last k) apart) ∙ g)

  locked : (at : ℕ) → (P → Given txn k (phase.Locking at)) → (o : Option (List Row)) → rows_in r (length txn.cells) ≡ o → ByWith (phase.Locking at) (lock_on (lock_taken txn k o (is_fault r) mark last) (k + 1) ledger live last)
  locked at given None e =
      from_base P live last txn k mark r (phase.Locking at) gone (left_base P live last txn k mark r (phase.Locking at) given (ap is_some e))
      ((lock_on gone (k + 1) ledger live last).0, (lock_on gone (k + 1) ledger live last).1.0) (lock_on_after P (Unit {0}) live last gone (k + 1) ledger (gone_five (phase.Locking at) given) (gone_covers at given) tt)
  locked at given (Some more) e =
      from_base P live last txn k mark r (phase.Locking at) (held more) (grant_base P live last txn k mark r (phase.Locking at) given at more refl e (ap is_some e))
      ((lock_on (held more) (k + 1) ledger live last).0, (lock_on (held more) (k + 1) ledger live last).1.0)
      (lock_on_after P (Unit {0}) live last (held more) (k + 1) ledger (λ q. (given q).all.outs_places) (held_covers at given) tt)

  -- a content
  fetched : (place from : ℕ) (contents : List (Option Content)) → (P → Given txn k (phase.Fetching place from contents)) → (o : Option (Content × ℕ)) → content_in r (aspect_at (slice_get txn.cells (length contents))) ≡ o
      → By (phase.Fetching place from contents) (fetch_taken txn place k contents o (is_fault r) mark ledger live last)
  fetched place from contents given (Some content) e =
      from_base P live last txn k mark r (phase.Fetching place from contents) (record txn { wave = taken txn.wave k true }) (kept_base P live last txn k mark r (phase.Fetching place from contents) given (ap is_some e))
      (fetch_taken txn place k contents (Some content) (is_fault r) mark ledger live last)
      (fetch_after P ⊥ live last (record txn { wave = taken txn.wave k true }) ledger (λ q. (given q).all.outs_places) place (contents ++ Some content.0 ∷ []))
  fetched place from contents given None e =
      from_base P live last txn k mark r (phase.Fetching place from contents) gone (left_base P live last txn k mark r (phase.Fetching place from contents) given (ap is_some e))
      (fetch_taken txn place k contents None (is_fault r) mark ledger live last)
      (cond_both (is_short gone.outs txn.size.n txn.size.q) _ _ (After P ⊥ live last gone) (λ s. fail_after P ⊥ live last gone ledger (gone_five (phase.Fetching place from contents) given))
      (λ s. fetch_after P ⊥ live last gone ledger (gone_five (phase.Fetching place from contents) given) place contents))

  -- a list
  listed : (all : List Cell) → (P → Given txn k (phase.Listing all)) → By (phase.Listing all) (list_answered txn k r mark all)
  listed all given = by (cells_in r) refl where
    by : (o : Option (List Cell)) → cells_in r ≡ o → By (phase.Listing all) (cond (not (is_over (list_taken txn k o (is_fault r) mark all).0.wave))
        (waiting (list_taken txn k o (is_fault r) mark all).0 (phase.Listing (list_taken txn k o (is_fault r) mark all).1))
        (list_ended (list_taken txn k o (is_fault r) mark all).0 (list_taken txn k o (is_fault r) mark all).1))
    by None e =
        from_base P live last txn k mark r (phase.Listing all) gone (left_base P live last txn k mark r (phase.Listing all) given (ap is_some e))
        (cond (not (is_over gone.wave)) (waiting gone (phase.Listing all)) (list_ended gone all)) (listing_after P ⊥ live last gone ledger (gone_five (phase.Listing all) given) all)
    by (Some cells) e =
        let some : Txn = record txn { wave = taken txn.wave k true } in
        from_base P live last txn k mark r (phase.Listing all) some (kept_base P live last txn k mark r (phase.Listing all) given (ap is_some e))
        (cond (not (is_over some.wave)) (waiting some (phase.Listing (with_cells all cells))) (list_ended some (with_cells all cells)))
        (listing_after P ⊥ live last some ledger (λ q. (given q).all.outs_places) (with_cells all cells))

  pub phase_handed : (p : Phase) → (P → Given txn k p) → ByWith p (answered_in p txn k r mark ledger live last)
  phase_handed (phase.Locking at) given = locked at given (rows_in r (length txn.cells)) refl
  phase_handed (phase.Unlocking after) given =
      heard (phase.Unlocking after) given refl (unlock_answered (hearing txn k r mark) after ledger live last) (releasing_after P ⊥ live last (hearing txn k r mark) ledger (heard_five (phase.Unlocking after) given) after)
  phase_handed (phase.Fetching place from contents) given = fetched place from contents given (content_in r (aspect_at (slice_get txn.cells (length contents)))) refl
  phase_handed (phase.Copying sinks parts) given = self (phase.Copying sinks parts) given refl (waiting txn (phase.Copying sinks parts)) (waits_after P ⊥ live last txn (phase.Copying sinks parts) (λ q. tt) (λ at e. absurd cc))
  phase_handed (phase.Marking change) given =
      heard_with (phase.Marking change) given refl (mark_answered (hearing txn k r mark) change ledger live last) (marking_after P ⊥ live last (hearing txn k r mark) ledger (heard_five (phase.Marking change) given) change)
  phase_handed (phase.Writing change) given =
      heard (phase.Writing change) given refl (write_answered (hearing txn k r mark) change ledger live last) (writing_after P ⊥ live last (hearing txn k r mark) ledger (heard_five (phase.Writing change) given) change)
  phase_handed (phase.Posting change adopted) given =
      heard_with (phase.Posting change adopted) given refl (post_answered (hearing txn k r mark) change adopted ledger live last) (posting_after P ⊥ live last (hearing txn k r mark) ledger (heard_five (phase.Posting change adopted) given) change adopted)
  phase_handed (phase.Settling verdict) given =
      heard_with (phase.Settling verdict) given refl (settle_answered (hearing txn k r mark) verdict ledger live last) (settling_after P ⊥ live last (hearing txn k r mark) (heard_five (phase.Settling verdict) given) verdict ledger)
  phase_handed phase.Bearing given = heard phase.Bearing given refl (birth_answered (hearing txn k r mark) ledger live last) (bearing_after P ⊥ live last (hearing txn k r mark) ledger (heard_five phase.Bearing given))
  phase_handed phase.Opening given = heard phase.Opening given refl (open_answered (hearing txn k r mark)) (opening_after P ⊥ live last (hearing txn k r mark) ledger (heard_five phase.Opening given))
  phase_handed (phase.Listing all) given = listed all given
  phase_handed phase.Over given = self phase.Over given refl (waiting txn phase.Over) (waits_after P ⊥ live last txn phase.Over (λ q. tt) (λ at e. absurd cc))

-- ---- copies

one_out : (n : ℕ) (outs : Outs) (one : Out) (j : ℕ) (out : Out) → slice_index_or (with_out n outs one).at j None ≡ Some out → (slice_index_or outs.at j None ≡ Some out) ⊎ IsSame out one
one_out n outs one j out =
    cond_both (nat_lt one.replica n) (left outs one.replica one.fault one.mark) outs (λ (o : Outs). slice_index_or o.at j None ≡ Some out → (slice_index_or outs.at j None ≡ Some out) ⊎ IsSame out one)
    (λ e h. by (left_from outs one.replica one.mark one.fault j out h)) (λ e h. inl h)
  where
    by : (slice_index_or outs.at j None ≡ Some out) ⊎ (out ≡ record { replica = one.replica; fault = one.fault; mark = one.mark }) → (slice_index_or outs.at j None ≡ Some out) ⊎ IsSame out one
    by (inl there) = inl there
    by (inr e) = inr (record { replica = ap (λ (o : Out). o.replica) e; fault = ap (λ (o : Out). o.fault) e; mark = ap (λ (o : Out). o.mark) e })

all_outs : (n : ℕ) (outs : Outs) (list : List Out) (j : ℕ) (out : Out) → slice_index_or (with_outs n outs list).at j None ≡ Some out → (slice_index_or outs.at j None ≡ Some out) ⊎ IsAmong out list
all_outs n outs [] j out h = inl h
all_outs n outs (one ∷ list) j out h = by (all_outs n (with_out n outs one) list j out h) where
  here : (slice_index_or outs.at j None ≡ Some out) ⊎ IsSame out one → (slice_index_or outs.at j None ≡ Some out) ⊎ IsAmong out (one ∷ list)
  here (inl there) = inl there
  here (inr is) = inr (inl is)

  by : (slice_index_or (with_out n outs one).at j None ≡ Some out) ⊎ IsAmong out list → (slice_index_or outs.at j None ≡ Some out) ⊎ IsAmong out (one ∷ list)
  by (inl there) = here (one_out n outs one j out there)
  by (inr among) = inr (inr among)

module _ (P : Type 0) (live : Mask) (last : List ℕ) (txn : Txn) (done : CopyDone) where
  pub record CopyHanded (T : Type 0) (a : Txn) (turned : Need) : Type 0 where
    pub own : IsSameJob txn a
    pub outs : (j : ℕ) (out : Out) → slice_index_or a.outs.at j None ≡ Some out → (slice_index_or txn.outs.at j None ≡ Some out) ⊎ (IsAmong out done.outs ⊎ (IsLostAs last j out × (P → WasLost txn.locks live last j)))
    pub grants : (j connection : ℕ) → slice_index_or a.locks.at j None ≡ Some connection → slice_index_or txn.locks.at j None ≡ Some connection
    pub rows : (j : ℕ) (rows : List Row) → rows_by a.shown j ≡ Some rows → rows_by txn.shown j ≡ Some rows
    pub confirmed : (j : ℕ) → flag a.wave.confirmed j ≡ true → SendsNone turned × (flag txn.wave.confirmed j ≡ true)
    pub wave : ((a.wave ≡ txn.wave) × SendsNone turned) ⊎ ((a.wave.confirmed ≡ no_flags) × SendsSome turned)
    pub follows : P → Follows a
    pub anew : (at : ℕ) → a.phase ≡ phase.Locking at → T ⊎ KnowsNone a

  from_copy : (T : Type 0) (outs : Outs) (records : List CopyRecord) → ((j : ℕ) (out : Out) → slice_index_or outs.at j None ≡ Some out → (slice_index_or txn.outs.at j None ≡ Some out) ⊎ IsAmong out done.outs)
      → (P → HasAll txn) → (P → length outs.at ≡ 5) → (t : Txn × Need) → After P T live last (record txn { outs = outs; records = records }) t → CopyHanded T t.0 t.1
  from_copy T outs records base all five t l = record {
    own = let o = own_after P T live last (record txn { outs = outs; records = records }) t l in record { set = o.set; size = o.size; bricks = o.bricks; call = o.call; job = o.job };
    outs = λ j out h. by j out (l.since.from j out h);
    grants = λ j connection h. grants_after P T live last (record txn { outs = outs; records = records }) t l j connection h;
    rows = λ j rows h. rows_after P T live last (record txn { outs = outs; records = records }) t l j rows h;
    confirmed = λ j h. confirmed_after P T live last (record txn { outs = outs; records = records }) t l j h;
    wave = l.waits;
    anew = anew_after P T live last (record txn { outs = outs; records = records }) t l;
    follows = λ q. follows_after P T live last (record txn { outs = outs; records = records }) t l q (has q);
  } where
    has : P → HasAll (record txn { outs = outs; records = records })
    has q = let a = all q in record { outs_places = five q; locks_places = a.locks_places; rows_places = a.rows_places; rows = λ j g. let s = a.rows j g in record { rows = s.rows; shown = s.shown; one_each = s.one_each } }

    before : (j : ℕ) (out : Out) → (slice_index_or txn.outs.at j None ≡ Some out) ⊎ IsAmong out done.outs → (slice_index_or txn.outs.at j None ≡ Some out) ⊎ (IsAmong out done.outs ⊎ (IsLostAs last j out × (P → WasLost txn.locks live last j)))
    before j out (inl there) = inl there
    before j out (inr among) = inr (inl among)

    by : (j : ℕ) (out : Out) → (slice_index_or outs.at j None ≡ Some out) ⊎ Lost P live last txn.locks j out → (slice_index_or txn.outs.at j None ≡ Some out) ⊎ (IsAmong out done.outs ⊎ (IsLostAs last j out × (P → WasLost txn.locks live last j)))
    by j out (inl there) = before j out (base j out there)
    by j out (inr lost) = inr (inr (record { is = lost.is; replica = lost.replica }, lost.why))

  unmoved : (p : Phase) → (P → HasAll txn) → (P → CoversIn p (record txn { phase = p })) → CopyHanded (IsLocking p) (waiting txn p).0 (waiting txn p).1
  unmoved p all covers = from_copy (IsLocking p) txn.outs txn.records (λ j out h. inl h) all (λ q. (all q).outs_places) (waiting txn p) (waits_after P (IsLocking p) live last txn p covers (λ at e. inl (subst IsLocking (sym e) tt)))

  abbrev CopyWith : Phase → Txn × (Need × State Cell) → Type 0
  CopyWith p t = CopyHanded (IsLocking p) t.0 t.1.0

  pub copy_handed : (p : Phase) (ledger : State Cell) → (P → HasAll txn) → (P → are_copies p ≡ true) → CopyWith p (copied_in p txn done ledger live last)
  copy_handed (phase.Copying sinks parts) ledger all fits =
      cond_both (is_heal txn.job) (record txn { outs = with_outs txn.size.n txn.outs done.outs; records = txn.records ++ done.records }) (record txn { outs = with_outs txn.size.n txn.outs done.outs })
      (λ (after : Txn). CopyWith (phase.Copying sinks parts) (cond (is_short after.outs after.size.n after.size.q) (kept (fail after ledger live last) ledger) (cond (is_left after sinks done.current) (kept (unlock after next.Again ledger live last) ledger) (copy_next after parts ledger live last))))
      (λ e. done_by (txn.records ++ done.records)) (λ e. done_by txn.records)
    where
      five : P → length (with_outs txn.size.n txn.outs done.outs).at ≡ 5
      five q = outs_five txn.size.n txn.outs done.outs (all q).outs_places

      done_by : (records : List CopyRecord) → CopyWith (phase.Copying sinks parts) (cond (is_short (with_outs txn.size.n txn.outs done.outs) txn.size.n txn.size.q) (kept (fail (record txn { outs = with_outs txn.size.n txn.outs done.outs; records = records }) ledger live last) ledger)
          (cond (is_left (record txn { outs = with_outs txn.size.n txn.outs done.outs; records = records }) sinks done.current) (kept (unlock (record txn { outs = with_outs txn.size.n txn.outs done.outs; records = records }) next.Again ledger live last) ledger)
          (copy_next (record txn { outs = with_outs txn.size.n txn.outs done.outs; records = records }) parts ledger live last)))
      done_by records =
          from_copy ⊥ (with_outs txn.size.n txn.outs done.outs) records (λ j out h. all_outs txn.size.n txn.outs done.outs j out h) all five _
          (noted_after P ⊥ live last (record txn { outs = with_outs txn.size.n txn.outs done.outs; records = records }) sinks parts done.current ledger five)
  copy_handed (phase.Locking at) ledger all fits = unmoved (phase.Locking at) all (λ q. absurd (true≢false (sym (fits q))))
  copy_handed (phase.Unlocking after) ledger all fits = unmoved (phase.Unlocking after) all (λ q. tt)
  copy_handed (phase.Fetching place from contents) ledger all fits = unmoved (phase.Fetching place from contents) all (λ q. tt)
  copy_handed (phase.Marking change) ledger all fits = unmoved (phase.Marking change) all (λ q. tt)
  copy_handed (phase.Writing change) ledger all fits = unmoved (phase.Writing change) all (λ q. tt)
  copy_handed (phase.Posting change adopted) ledger all fits = unmoved (phase.Posting change adopted) all (λ q. tt)
  copy_handed (phase.Settling verdict) ledger all fits = unmoved (phase.Settling verdict) all (λ q. tt)
  copy_handed phase.Bearing ledger all fits = unmoved phase.Bearing all (λ q. tt)
  copy_handed phase.Opening ledger all fits = unmoved phase.Opening all (λ q. tt)
  copy_handed (phase.Listing all_cells) ledger all fits = unmoved (phase.Listing all_cells) all (λ q. tt)
  copy_handed phase.Over ledger all fits = unmoved phase.Over all (λ q. tt)
