-- The objects that were made: by one change each; all names on the sets, and all objects that calls know, are of such objects.
use Rattle.std.proofs.Common.{◌≡◌, ◌∙◌, ℕ, ◌+◌, ◌⊎◌, inl, inr, Bool, true, false, refl, sym, ap, subst, List, [], ◌∷◌, Option, Some, None, if◌then◌else◌, Result, Ok}
use Rattle.std.specs.Prelude.{◌≢◌}
use Rattle.std.specs.Ordering.{is_eq}
use Rattle.afr_machine.specs.Changes.Verdict.{Undrawn, Unsettled, Adopted, Dropped}
use Rattle.afr_machine.specs.Copies.{root_alone, contents_of}
use Rattle.afr_machine.specs.Replicas.{with_at}
use Rattle.afr_machine.specs.Touching.{is_cell}
use Rattle.afr_machine.proofs.Tables.{at_same, at_other}
use Rattle.dht_fops.specs.Answers.{AreMade}
use Rattle.dht_fops.specs.Courses.{Course}
use Rattle.dht_fops.specs.Handed.{Handed, Event, Saw, IsNamesOf}
use Rattle.dht_fops.specs.Handed.Event.{Replied, Held}
use Rattle.dht_fops.specs.Shown.{Homes}
use Rattle.dht_fops.specs.Standing.{IsMade}
use Rattle.dht_linkto.specs.DirNames.{names_job, names_shown, names_in, first_content}
use Rattle.dht_linkto.specs.declared.names.DirNames.{DirNames}
use Rattle.fop_types.specs.Bounds.{Each}
use Rattle.fop_types.specs.Cells.{root, meta_cell, names_cell}
use Rattle.fop_types.specs.Names.{is_link}
use Rattle.fop_types.specs.Orders.{gfid_cmp}
use Rattle.fop_types.specs.StoreOps.{Contents, items_of, after_births}
use Rattle.fop_types.specs.declared.answers.FopAnswer.{FopAnswer}
use Rattle.fop_types.specs.declared.answers.FopAnswer.TheVariants as fop_answer
use Rattle.fop_types.specs.declared.answers.IoError.{IoError}
use Rattle.fop_types.specs.declared.cells.Cell.{Cell}
use Rattle.fop_types.specs.declared.cells.Gfid.{Gfid}
use Rattle.fop_types.specs.declared.cells.Kind.{Kind}
use Rattle.fop_types.specs.declared.cells.Kind.TheVariants as kind
use Rattle.fop_types.specs.declared.contents.Content.{Content}
use Rattle.fop_types.specs.declared.contents.Item.{Item}
use Rattle.fop_types.specs.declared.contents.Span.{Span}
use Rattle.fop_types.specs.declared.fops.Fop.{Fop}
use Rattle.fop_types.specs.declared.fops.Fop.TheVariants as fop
use Rattle.fop_types.specs.declared.fops.Object.{Object}
use Rattle.fop_types.specs.declared.history.Entry.{Entry}
use Rattle.fop_types.specs.declared.jobs.Job.{Job}
use Rattle.fop_types.specs.declared.jobs.Job.TheVariants as job
use Rattle.fop_types.specs.declared.jobs.SetReply.{SetReply}
use Rattle.fop_types.specs.declared.jobs.SetReply.TheVariants as reply
use Rattle.fop_types.specs.declared.store_ops.StoreOp.{StoreOp}
use Rattle.fop_types.specs.declared.store_ops.StoreOp.TheVariants as op
use Rattle.mount_laws.specs.Effects.{IsOnFirst, IsOfLink, IsOwnEffect}
use Rattle.mount_laws.specs.Guards.{Allowed, IsReached, IsKnown, objects_of, IsReply, IsShown, AreShown, IsOpen, IsBirth}
use Rattle.mount_laws.specs.Guards.IsReply.{Shows, Enters, Fails, Opens}
use Rattle.mount_laws.specs.Objects.{volumes, IsMadeBy, MadeByChange, IsMadeOn, IsNameMade, AreNamesMade, NamesAreMade, item_added, added_by, contents_read, IsEventMade, AreEventsMade, IsRunMade, HandedIsMade, ObjectsMade}
use Rattle.mount_laws.specs.Runs.{Run}
use Rattle.mount_laws.specs.Runs.Stage.{Bearing}
use Rattle.mount_laws.specs.States.{State, Change, Runs, start}
use Rattle.mount_laws.specs.Steps.{Step, Task, after, is_lookup, change_by, births_by, by_effect, kinds_after, homes_after, with_kind, with_home, object_in, applied}
use Rattle.mount_laws.specs.Within.{SawObject, IsAddOf, WasAdded, AnswersWithin}
use Rattle.mount_laws.proofs.Beside.{each_map, each_append, each_beside, one_job}
use Rattle.mount_laws.proofs.Beyond.{each_known, answer_within, in_its_graph}
use Rattle.mount_laws.proofs.Drawing.{drawn_apart, adds_drawn}
use Rattle.mount_laws.proofs.Entering.{effect_own, parts_in_order}
use Rattle.mount_laws.proofs.Firm.{jobs_have_none}
use Rattle.mount_laws.proofs.Held.{jobs_asked}
use Rattle.mount_laws.proofs.Items.{found_is, applied_all, births_all}
use Rattle.mount_laws.proofs.Moving.{RunMove, run_moves, quiet, run_case, stop_case}
use Rattle.mount_laws.proofs.Moving.RunMove.{Stays, Begins, Settles, EndsSettling, BeginsChange, Decides, SendsBirths, ConfirmsBirths, HandsIn, Extends, Releases}
use Rattle.mount_laws.proofs.Releasing.{gfids_are, gfid_itself}
use Rattle.mount_laws.proofs.Tables.{at_case}

-- ---- the changes that made objects

made_still : (changes : ℕ → Change) (homes : Homes) (u : ℕ) (new : Change) → (changes u).verdict ≢ Adopted → (gfid : Gfid) (k : Kind) → IsMadeBy changes homes gfid k → IsMadeBy (with_at changes u new) homes gfid k
made_still changes homes u new unadopted gfid k a =
    let same : with_at changes u new a.change ≡ changes a.change = at_other changes u new a.change other in
    record {
      change = a.change;
      adopted = ap (λ (x : Change). x.verdict) same ∙ a.adopted;
      entry = a.entry;
      effect = ap (λ (x : Change). x.effect) same ∙ a.effect;
      parent = a.parent;
      item = a.item;
      mode = a.mode;
      span = a.span;
      op_is = ap (λ (x : Change). x.op) same ∙ a.op_is;
      gfid_is = a.gfid_is;
      kind_is = a.kind_is;
      home_is = a.home_is ∙ sym (ap (λ (x : Change). x.set) same);
    }
  where
    other : a.change ≢ u
    other e = unadopted (subst (λ (i : ℕ). (changes i).verdict ≡ Adopted) e a.adopted)

abbrev MadeIn : (ℕ → Change) → (Gfid → Option Kind) → Homes → Type 0
MadeIn changes kinds homes = (gfid : Gfid) (k : Kind) → kinds gfid ≡ Some k → ((gfid ≡ root) × (k ≡ kind.Dir)) ⊎ IsMadeBy changes homes gfid k

still_made : (changes : ℕ → Change) (kinds : Gfid → Option Kind) (homes : Homes) (u : ℕ) (new : Change) → (changes u).verdict ≢ Adopted → MadeIn changes kinds homes → MadeIn (with_at changes u new) kinds homes
still_made changes kinds homes u new unadopted a gfid k e = by_case (a gfid k e)
  where
    by_case : ((gfid ≡ root) × (k ≡ kind.Dir)) ⊎ IsMadeBy changes homes gfid k → ((gfid ≡ root) × (k ≡ kind.Dir)) ⊎ IsMadeBy (with_at changes u new) homes gfid k
    by_case (inl r) = inl r
    by_case (inr b) = inr (made_still changes homes u new unadopted gfid k b)

abbrev entry_of : ℕ → ℕ → Entry
entry_of call part = record { call = call; part = part }

entries_are : (one other : Entry) → one.call ≡ other.call → one.part ≡ other.part → one ≡ other
entries_are one other e f = ap (λ (c : ℕ). entry_of c one.part) e ∙ ap (λ (p : ℕ). entry_of other.call p) f

-- an unsettled change adds an object that was not made before
fresh : (first : List (List ℕ)) (m : State) → IsReached first m → MadeByChange m → (u : ℕ) (entry : Entry) (parent : Gfid) (item : Item) (mode : ℕ) (span : Option Span) → (m.changes u).verdict ≡ Unsettled → (m.changes u).effect ≡ Some entry
    → (m.changes u).op ≡ op.AddName parent item mode span → m.kinds item.gfid ≡ None
fresh first m reached a u entry parent item mode span was effect is = by_kind (m.kinds item.gfid) refl
  where
    drawn : (m.changes u).verdict ≢ Undrawn
    drawn e = let clash : Unsettled ≡ Undrawn = sym was ∙ e in absurd cc

    mine : ((m.calls (m.changes u).by).drawn ≡ Some item.gfid) × ((entry.part ≡ 1) × (entry.call ≡ (m.changes u).by))
    mine = adds_drawn first m reached u entry parent item mode span drawn effect is

    twice : (k : Kind) → IsMadeBy m.changes m.homes item.gfid k → ⊥
    twice k b =
        let began : (m.changes b.change).verdict ≢ Undrawn = λ e. (let clash : Adopted ≡ Undrawn = sym b.adopted ∙ e in absurd cc) in
        let theirs = adds_drawn first m reached b.change b.entry b.parent b.item b.mode b.span began b.effect b.op_is in
        let call : (m.changes u).by ≡ (m.changes b.change).by = (drawn_apart first m reached).apart (m.changes u).by (m.changes b.change).by item.gfid mine.0 (theirs.0 ∙ ap (λ (g : Gfid). Some g) b.gfid_is) in
        let same : entry ≡ b.entry = entries_are entry b.entry (mine.1.1 ∙ call ∙ sym theirs.1.1) (mine.1.0 ∙ sym theirs.1.0) in
        let one : u ≡ b.change = (parts_in_order first m reached).once u b.change entry (record { begun = drawn; effect = effect }) (record { begun = began; effect = b.effect ∙ ap (λ (x : Entry). Some x) (sym same) }) in
        let clash : Unsettled ≡ Adopted = sym was ∙ ap (λ (i : ℕ). (m.changes i).verdict) one ∙ b.adopted in absurd cc

    by_made : (k : Kind) → ((item.gfid ≡ root) × (k ≡ kind.Dir)) ⊎ IsMadeBy m.changes m.homes item.gfid k → ⊥
    by_made k (inl r) = (drawn_apart first m reached).no_root (m.changes u).by item.gfid mine.0 r.0
    by_made k (inr b) = twice k b

    by_kind : (k : Option Kind) → m.kinds item.gfid ≡ k → k ≡ None
    by_kind None e = refl
    by_kind (Some k) e = absurd (by_made k (a item.gfid k e))

-- ---- what was made stays

abbrev pub Grows : (Gfid → Option Kind) → Homes → (Gfid → Option Kind) → Homes → Type 0
Grows kinds homes new_kinds new_homes = (set : ℕ) (gfid : Gfid) (k : Kind) → IsMadeOn kinds homes set gfid k → IsMadeOn new_kinds new_homes set gfid k

named_grows : (kinds : Gfid → Option Kind) (homes : Homes) (gfid : Gfid) (k : Kind) (set : ℕ) → kinds gfid ≡ None → Grows kinds homes (with_kind kinds gfid k) (with_home homes gfid set)
named_grows kinds homes gfid k set free s g one made = by_case (is_eq (gfid_cmp g gfid)) refl
  where
    by_case : (b : Bool) → is_eq (gfid_cmp g gfid) ≡ b → ((if b then Some k else kinds g) ≡ Some one) × (one ≡ kind.File → (if b then set else homes g) ≡ s)
    by_case true e = let clash : ◌≡◌ {A = Option Kind} None (Some one) = sym free ∙ sym (ap kinds (gfids_are g gfid e)) ∙ made.0 in absurd cc
    by_case false e = made

adopted_grows : (first : List (List ℕ)) (m : State) → IsReached first m → MadeByChange m → (u : ℕ) → (m.changes u).verdict ≡ Unsettled
    → Grows m.kinds m.homes (by_effect (m.changes u).effect m.kinds (kinds_after m.kinds (m.changes u).op)) (by_effect (m.changes u).effect m.homes (homes_after m.homes (m.changes u).set (m.changes u).op))
adopted_grows first m reached a u was = of_effect (m.changes u).effect refl
  where
    of_op : (entry : Entry) → (m.changes u).effect ≡ Some entry → (o : StoreOp) → (m.changes u).op ≡ o → Grows m.kinds m.homes (kinds_after m.kinds o) (homes_after m.homes (m.changes u).set o)
    of_op entry effect (op.AddName parent item mode span) is = named_grows m.kinds m.homes item.gfid item.kind (m.changes u).set (fresh first m reached a u entry parent item mode span was effect is)
    of_op entry effect (op.Write gfid offset bytes) is = λ set g k made. made
    of_op entry effect (op.Truncate gfid size) is = λ set g k made. made
    of_op entry effect (op.SetMode gfid mode) is = λ set g k made. made
    of_op entry effect (op.SetAttr gfid attr) is = λ set g k made. made
    of_op entry effect (op.DelAttr gfid name) is = λ set g k made. made
    of_op entry effect (op.DropName parent name) is = λ set g k made. made
    of_op entry effect (op.DropDir parent name gfid) is = λ set g k made. made
    of_op entry effect (op.Move parent name target new_name) is = λ set g k made. made
    of_op entry effect (op.MakeCopy gfid span) is = λ set g k made. made

    of_effect : (effect : Option Entry) → (m.changes u).effect ≡ effect → Grows m.kinds m.homes (by_effect effect m.kinds (kinds_after m.kinds (m.changes u).op)) (by_effect effect m.homes (homes_after m.homes (m.changes u).set (m.changes u).op))
    of_effect None e = λ set g k made. made
    of_effect (Some entry) e = of_op entry e (m.changes u).op refl

-- ---- a change is adopted

adopted_made : (first : List (List ℕ)) (m : State) → IsReached first m → MadeByChange m → (u : ℕ) → (m.changes u).verdict ≡ Unsettled
    → MadeIn (with_at m.changes u (record (m.changes u) { verdict = Adopted })) (by_effect (m.changes u).effect m.kinds (kinds_after m.kinds (m.changes u).op)) (by_effect (m.changes u).effect m.homes (homes_after m.homes (m.changes u).set (m.changes u).op))
adopted_made first m reached a u was = of_effect (m.changes u).effect refl
  where
    new : Change
    new = record (m.changes u) { verdict = Adopted }

    unadopted : (m.changes u).verdict ≢ Adopted
    unadopted e = let clash : Unsettled ≡ Adopted = sym was ∙ e in absurd cc

    old : MadeIn (with_at m.changes u new) m.kinds m.homes
    old = still_made m.changes m.kinds m.homes u new unadopted a

    of_op : (entry : Entry) → (m.changes u).effect ≡ Some entry → (o : StoreOp) → (m.changes u).op ≡ o → MadeIn (with_at m.changes u new) (kinds_after m.kinds o) (homes_after m.homes (m.changes u).set o)
    of_op entry effect (op.AddName parent item mode span) is = λ gfid k. by_case gfid k (is_eq (gfid_cmp gfid item.gfid)) refl
      where
        same : with_at m.changes u new u ≡ new
        same = at_same m.changes u new

        -- with this home, whatever the table says elsewhere
        by_old : (gfid : Gfid) (k : Kind) → is_eq (gfid_cmp gfid item.gfid) ≡ false → ((gfid ≡ root) × (k ≡ kind.Dir)) ⊎ IsMadeBy (with_at m.changes u new) m.homes gfid k → ((gfid ≡ root) × (k ≡ kind.Dir)) ⊎ IsMadeBy (with_at m.changes u new) (with_home m.homes item.gfid (m.changes u).set) gfid k
        by_old gfid k other (inl r) = inl r
        by_old gfid k other (inr b) = inr (record {
          change = b.change;
          adopted = b.adopted;
          entry = b.entry;
          effect = b.effect;
          parent = b.parent;
          item = b.item;
          mode = b.mode;
          span = b.span;
          op_is = b.op_is;
          gfid_is = b.gfid_is;
          kind_is = b.kind_is;
          home_is = ap (λ (x : Bool). if x then (m.changes u).set else m.homes gfid) other ∙ b.home_is;
        })

        by_case : (gfid : Gfid) (k : Kind) (b : Bool) → is_eq (gfid_cmp gfid item.gfid) ≡ b → (if b then Some item.kind else m.kinds gfid) ≡ Some k → ((gfid ≡ root) × (k ≡ kind.Dir)) ⊎ IsMadeBy (with_at m.changes u new) (with_home m.homes item.gfid (m.changes u).set) gfid k
        by_case gfid k true e f = inr (record {
          change = u;
          adopted = ap (λ (x : Change). x.verdict) same;
          entry = entry;
          effect = ap (λ (x : Change). x.effect) same ∙ effect;
          parent = parent;
          item = item;
          mode = mode;
          span = span;
          op_is = ap (λ (x : Change). x.op) same ∙ is;
          gfid_is = sym (gfids_are gfid item.gfid e);
          kind_is = unwrap item.kind k f;
          home_is = ap (λ (x : Bool). if x then (m.changes u).set else m.homes gfid) e ∙ sym (ap (λ (x : Change). x.set) same);
        })
          where
            unwrap : (x y : Kind) → ◌≡◌ {A = Option Kind} (Some x) (Some y) → x ≡ y
            unwrap x y e = cc
        by_case gfid k false e f = by_old gfid k e (old gfid k f)
    of_op entry effect (op.Write gfid offset bytes) is = old
    of_op entry effect (op.Truncate gfid size) is = old
    of_op entry effect (op.SetMode gfid mode) is = old
    of_op entry effect (op.SetAttr gfid attr) is = old
    of_op entry effect (op.DelAttr gfid name) is = old
    of_op entry effect (op.DropName parent name) is = old
    of_op entry effect (op.DropDir parent name gfid) is = old
    of_op entry effect (op.Move parent name target new_name) is = old
    of_op entry effect (op.MakeCopy gfid span) is = old

    of_effect : (effect : Option Entry) → (m.changes u).effect ≡ effect
        → MadeIn (with_at m.changes u new) (by_effect effect m.kinds (kinds_after m.kinds (m.changes u).op)) (by_effect effect m.homes (homes_after m.homes (m.changes u).set (m.changes u).op))
    of_effect None e = old
    of_effect (Some entry) e = of_op entry e (m.changes u).op refl

step_made : (first : List (List ℕ)) (m : State) (step : Step) → IsReached first m → Allowed m step → MadeByChange m → MadeByChange (after m step)
step_made first m (Step.Settles t u true) reached h a = adopted_made first m reached a u h.unsettled.verdict
step_made first m (Step.Settles t u false) reached h a = still_made m.changes m.kinds m.homes u (record (m.changes u) { verdict = Dropped }) (λ e. let clash : Unsettled ≡ Adopted = sym h.unsettled.verdict ∙ e in absurd cc) a
step_made first m (Step.Decides t u) reached h a = adopted_made first m reached a u h.unsettled
step_made first m (Step.BeginsChange t u) reached h a = still_made m.changes m.kinds m.homes u (change_by t.call t.set t.job) (λ e. let clash : Undrawn ≡ Adopted = sym h.fresh ∙ e in absurd cc) a
step_made first m (Step.Submits draws) reached h a = a
step_made first m (Step.Concludes c) reached h a = a
step_made first m (Step.Switches names) reached h a = a
step_made first m (Step.Begins c f kept) reached h a = a
step_made first m (Step.EndsSettling t) reached h a = a
step_made first m (Step.SendsBirths t) reached h a = a
step_made first m (Step.ConfirmsBirths t) reached h a = a
step_made first m (Step.HandsIn t shown) reached h a = a
step_made first m (Step.Extends c run dir next) reached h a = a
step_made first m (Step.Releases c run gfid) reached h a = a
step_made first m (Step.Learns c run dir spans) reached h a = a
step_made first m (Step.Answers c run answer place) reached h a = a
step_made first m (Step.AnswersAbove c run answer) reached h a = a

pub made_by_change : (first : List (List ℕ)) (m : State) → IsReached first m → MadeByChange m
made_by_change first _ (IsReached.Start planned) = λ gfid k e. root_made gfid k (is_eq (gfid_cmp gfid root)) refl e
  where
    unwrap : (x y : Kind) → ◌≡◌ {A = Option Kind} (Some x) (Some y) → x ≡ y
    unwrap x y e = cc

    root_made : (gfid : Gfid) (k : Kind) (b : Bool) → is_eq (gfid_cmp gfid root) ≡ b → (if b then Some kind.Dir else None) ≡ Some k → ((gfid ≡ root) × (k ≡ kind.Dir)) ⊎ IsMadeBy (start first).changes (start first).homes gfid k
    root_made gfid k true e f = inl (gfids_are gfid root e, sym (unwrap kind.Dir k f))
    root_made gfid k false e f = absurd cc
made_by_change first _ (IsReached.Further old step reached allowed) = step_made first old step reached allowed (made_by_change first old reached)

-- what was made before a step is made after it
pub step_grows : (first : List (List ℕ)) (m : State) (step : Step) → IsReached first m → Allowed m step → Grows m.kinds m.homes (after m step).kinds (after m step).homes
step_grows first m (Step.Settles t u true) reached h = adopted_grows first m reached (made_by_change first m reached) u h.unsettled.verdict
step_grows first m (Step.Decides t u) reached h = adopted_grows first m reached (made_by_change first m reached) u h.unsettled
step_grows first m (Step.Settles t u false) reached h = λ set gfid k made. made
step_grows first m (Step.BeginsChange t u) reached h = λ set gfid k made. made
step_grows first m (Step.Submits draws) reached h = λ set gfid k made. made
step_grows first m (Step.Concludes c) reached h = λ set gfid k made. made
step_grows first m (Step.Switches names) reached h = λ set gfid k made. made
step_grows first m (Step.Begins c f kept) reached h = λ set gfid k made. made
step_grows first m (Step.EndsSettling t) reached h = λ set gfid k made. made
step_grows first m (Step.SendsBirths t) reached h = λ set gfid k made. made
step_grows first m (Step.ConfirmsBirths t) reached h = λ set gfid k made. made
step_grows first m (Step.HandsIn t shown) reached h = λ set gfid k made. made
step_grows first m (Step.Extends c run dir next) reached h = λ set gfid k made. made
step_grows first m (Step.Releases c run gfid) reached h = λ set g k made. made
step_grows first m (Step.Learns c run dir spans) reached h = λ set gfid k made. made
step_grows first m (Step.Answers c run answer place) reached h = λ set gfid k made. made
step_grows first m (Step.AnswersAbove c run answer) reached h = λ set gfid k made. made

-- ---- names

names_grow : (kinds : Gfid → Option Kind) (homes : Homes) (new_kinds : Gfid → Option Kind) (new_homes : Homes) → Grows kinds homes new_kinds new_homes → (set : ℕ) (items : List Item) → AreNamesMade kinds homes set items → AreNamesMade new_kinds new_homes set items
names_grow kinds homes new_kinds new_homes grows set items a =
    each_map (λ (item : Item). IsNameMade kinds homes set item) (λ (item : Item). IsNameMade new_kinds new_homes set item) items (λ item made real. (grows set item.gfid item.kind (made real).0, (made real).1)) a

-- the item that a change adds
abbrev NewKinds : State → ℕ → Gfid → Option Kind
NewKinds m u = by_effect (m.changes u).effect m.kinds (kinds_after m.kinds (m.changes u).op)

abbrev NewHomes : State → ℕ → Homes
NewHomes m u = by_effect (m.changes u).effect m.homes (homes_after m.homes (m.changes u).set (m.changes u).op)

new_name : (m : State) (u : ℕ) (entry : Entry) (parent : Gfid) (item : Item) (mode : ℕ) (span : Option Span) → (m.changes u).effect ≡ Some entry → (m.changes u).op ≡ op.AddName parent item mode span → (item.kind ≡ kind.Dir → (m.changes u).set ≡ 0)
    → IsNameMade (NewKinds m u) (NewHomes m u) (m.changes u).set item
new_name m u entry parent item mode span effect is on_first =
    subst (λ (e : Option Entry). IsNameMade (by_effect e m.kinds (kinds_after m.kinds (m.changes u).op)) (by_effect e m.homes (homes_after m.homes (m.changes u).set (m.changes u).op)) (m.changes u).set item) (sym effect)
    (subst (λ (o : StoreOp). IsNameMade (kinds_after m.kinds o) (homes_after m.homes (m.changes u).set o) (m.changes u).set item) (sym is)
    (λ real. ((ap (λ (b : Bool). if b then Some item.kind else m.kinds item.gfid) (gfid_itself item.gfid), λ file. ap (λ (b : Bool). if b then (m.changes u).set else m.homes item.gfid) (gfid_itself item.gfid)), on_first)))

-- a change that is adopted adds a link, or a name of the object that it makes
adds_made : (first : List (List ℕ)) (m : State) → IsReached first m → (u : ℕ) → (m.changes u).verdict ≡ Unsettled → (parent : Gfid) (item : Item) (mode : ℕ) (span : Option Span) → (m.changes u).op ≡ op.AddName parent item mode span → IsNameMade (NewKinds m u) (NewHomes m u) (m.changes u).set item
adds_made first m reached u was parent item mode span is = of_effect (m.changes u).effect refl (effect_own first m reached u (λ e. let clash : Unsettled ≡ Undrawn = sym was ∙ e in absurd cc))
  where
    of_effect : (effect : Option Entry) → (m.changes u).effect ≡ effect → IsOwnEffect m.began (m.changes u) effect → IsNameMade (NewKinds m u) (NewHomes m u) (m.changes u).set item
    of_effect None e own = λ real. let clash : true ≡ false = sym (subst IsOfLink is own) ∙ real in absurd cc
    of_effect (Some entry) e own = new_name m u entry parent item mode span e is (subst (λ (o : StoreOp). IsOnFirst (m.changes u).set o) is own.on_first)

adopted_names : (first : List (List ℕ)) (m : State) → IsReached first m → (u : ℕ) → (m.changes u).verdict ≡ Unsettled → NamesAreMade m
    → (set : ℕ) (cell : Cell) → AreNamesMade (NewKinds m u) (NewHomes m u) set (items_of (with_at m.adopted (m.changes u).set (applied (m.adopted (m.changes u).set) (m.changes u).op) set cell))
adopted_names first m reached u was a set =
    at_case (λ i (one : Contents). (cell : Cell) → AreNamesMade (NewKinds m u) (NewHomes m u) i (items_of (one cell))) m.adopted (m.changes u).set (applied (m.adopted (m.changes u).set) (m.changes u).op)
    (applied_all (IsNameMade (NewKinds m u) (NewHomes m u) (m.changes u).set) (m.adopted (m.changes u).set) (m.changes u).op (λ item name made. made) (λ parent item mode span is. adds_made first m reached u was parent item mode span is)
    (λ cell. grown (m.changes u).set (m.adopted (m.changes u).set cell) (a (m.changes u).set cell))) set (λ differ cell. grown set (m.adopted set cell) (a set cell))
  where
    grown : (s : ℕ) (content : Option Content) → AreNamesMade m.kinds m.homes s (items_of content) → AreNamesMade (NewKinds m u) (NewHomes m u) s (items_of content)
    grown s content k = names_grow m.kinds m.homes (NewKinds m u) (NewHomes m u) (adopted_grows first m reached (made_by_change first m reached) u was) s (items_of content) k

step_names : (first : List (List ℕ)) (m : State) (step : Step) → IsReached first m → Allowed m step → NamesAreMade m → NamesAreMade (after m step)
step_names first m (Step.Settles t u true) reached h a = adopted_names first m reached u h.unsettled.verdict a
step_names first m (Step.Decides t u) reached h a = adopted_names first m reached u h.unsettled a
step_names first m (Step.SendsBirths t) reached h a = λ set.
    at_case (λ i (one : Contents). (cell : Cell) → AreNamesMade m.kinds m.homes i (items_of (one cell))) m.adopted t.set (after_births (m.adopted t.set) (births_by t.job))
    (births_all (IsNameMade m.kinds m.homes t.set) (births_by t.job) (m.adopted t.set) (jobs_have_none t.job) (a t.set)) set (λ differ. a set)
step_names first m (Step.Settles t u false) reached h a = a
step_names first m (Step.BeginsChange t u) reached h a = a
step_names first m (Step.Submits draws) reached h a = a
step_names first m (Step.Concludes c) reached h a = a
step_names first m (Step.Switches names) reached h a = a
step_names first m (Step.Begins c f kept) reached h a = a
step_names first m (Step.EndsSettling t) reached h a = a
step_names first m (Step.ConfirmsBirths t) reached h a = a
step_names first m (Step.HandsIn t shown) reached h a = a
step_names first m (Step.Extends c run dir next) reached h a = a
step_names first m (Step.Releases c run gfid) reached h a = a
step_names first m (Step.Learns c run dir spans) reached h a = a
step_names first m (Step.Answers c run answer place) reached h a = a
step_names first m (Step.AnswersAbove c run answer) reached h a = a

pub names_made : (first : List (List ℕ)) (m : State) → IsReached first m → NamesAreMade m
names_made first _ (IsReached.Start planned) = λ set cell. subst (λ (items : List Item). AreNamesMade (start first).kinds (start first).homes set items) (sym (none cell)) tt
  where
    none : (cell : Cell) → items_of (contents_of root_alone cell) ≡ []
    none cell = by_meta (is_cell cell (meta_cell root)) refl
      where
        by_names : (x : Bool) → is_cell cell (meta_cell root) ≡ false → is_cell cell (names_cell root) ≡ x → items_of (contents_of root_alone cell) ≡ []
        by_names true e f = rw (e, f) refl
        by_names false e f = rw (e, f) refl

        by_meta : (x : Bool) → is_cell cell (meta_cell root) ≡ x → items_of (contents_of root_alone cell) ≡ []
        by_meta true e = rw e refl
        by_meta false e = by_names (is_cell cell (names_cell root)) e refl
names_made first _ (IsReached.Further old step reached allowed) = step_names first old step reached allowed (names_made first old reached)

-- ---- births are of birth jobs

abbrev BearsAt : Run → Type 0
BearsAt run = (set : ℕ) (asked : Job) (next : SetReply → Course) → run.stage ≡ Bearing → run.course ≡ Course.Asks set asked next → IsBirth asked

move_bears : (m : State) → ((c : ℕ) (run : Run) → Runs m c run → BearsAt run) → (c : ℕ) (run : Run) → RunMove m c run → BearsAt run
move_bears m a _ _ (Stays c run runs) = a c run runs
move_bears m a _ _ (Begins c f kept h) = λ set asked next e. absurd cc
move_bears m a _ _ (Settles t u adopts h) = a t.call t.run h.under_way.runs
move_bears m a _ _ (EndsSettling t h) = λ set asked next e. absurd cc
move_bears m a _ _ (BeginsChange t u h) = λ set asked next e. absurd cc
move_bears m a _ _ (Decides t u h) = λ set asked next e. absurd cc
move_bears m a _ _ (SendsBirths t h) = λ set asked next e f. subst IsBirth (one_job t.run.course t.set set t.job asked t.next next h.under_way.asks f).job_is h.is_birth
move_bears m a _ _ (ConfirmsBirths t h) = λ set asked next e. absurd cc
move_bears m a _ _ (HandsIn t shown h) = λ set asked next e. absurd cc
move_bears m a _ _ (Extends c run dir next h) = λ set asked later e. absurd cc
move_bears m a _ _ (Releases c run gfid h) = a c run h.runs

pub bearing_is_birth : (first : List (List ℕ)) (m : State) → IsReached first m → (c : ℕ) (run : Run) → Runs m c run → BearsAt run
bearing_is_birth first _ (IsReached.Start planned) = λ c run runs. absurd cc
bearing_is_birth first _ (IsReached.Further old step reached allowed) = λ c run runs. move_bears old (bearing_is_birth first old reached) c run (run_moves old step allowed c run runs)

-- ---- what was handed in

events_grow : (kinds : Gfid → Option Kind) (homes : Homes) (new_kinds : Gfid → Option Kind) (new_homes : Homes) → Grows kinds homes new_kinds new_homes → (handed : Handed) → AreEventsMade kinds homes handed → AreEventsMade new_kinds new_homes handed
events_grow kinds homes new_kinds new_homes grows [] a = tt
events_grow kinds homes new_kinds new_homes grows (Held dir ∷ handed) a = (tt, events_grow kinds homes new_kinds new_homes grows handed a.1)
events_grow kinds homes new_kinds new_homes grows (Replied set asked shown ∷ handed) a = (
  (
    each_map (λ (content : Option Content). AreNamesMade kinds homes set (items_of content)) (λ (content : Option Content). AreNamesMade new_kinds new_homes set (items_of content)) (contents_read asked shown)
        (λ content k. names_grow kinds homes new_kinds new_homes grows set (items_of content) k) a.0.0,
    λ ok. names_grow kinds homes new_kinds new_homes grows set (added_by asked) (a.0.1 ok),
  ),
  events_grow kinds homes new_kinds new_homes grows handed a.1,
)

run_grows : (kinds : Gfid → Option Kind) (homes : Homes) (new_kinds : Gfid → Option Kind) (new_homes : Homes) → Grows kinds homes new_kinds new_homes → (run : Run) → IsRunMade kinds homes run → IsRunMade new_kinds new_homes run
run_grows kinds homes new_kinds new_homes grows run a = (
  events_grow kinds homes new_kinds new_homes grows run.handed a.0,
  λ number set asked next e f. names_grow kinds homes new_kinds new_homes grows set (added_by asked) (a.1 number set asked next e f),
)

birth_adds : (set : ℕ) (asked : Job) → IsBirth asked → added_by asked ≡ []
birth_adds set (job.Birth cells o) is = refl
birth_adds set (job.Read cells fd dir) is = absurd is
birth_adds set (job.Change cells fd o effect) is = absurd is
birth_adds set (job.Open fd gfid) is = absurd is
birth_adds set job.Index is = absurd is
birth_adds set (job.Heal cell) is = absurd is

-- the job's own change makes what it adds
job_made : (first : List (List ℕ)) (m : State) → IsReached first m → (t : Task) (u : ℕ) → (m.changes u).verdict ≡ Unsettled → m.changes u ≡ change_by t.call t.set t.job → AreNamesMade (NewKinds m u) (NewHomes m u) t.set (added_by t.job)
job_made first m reached t u was is = of_job t.job is
  where
    of_op : (cells : List Cell) (fd : ℕ) (entry : Entry) (o : StoreOp) → m.changes u ≡ change_by t.call t.set (job.Change cells fd o (Some entry)) → AreNamesMade (NewKinds m u) (NewHomes m u) t.set (item_added o)
    of_op cells fd entry (op.AddName parent item mode span) e =
        (subst (λ (s : ℕ). IsNameMade (NewKinds m u) (NewHomes m u) s item) (ap (λ (x : Change). x.set) e) (adds_made first m reached u was parent item mode span (ap (λ (x : Change). x.op) e)), tt)
    of_op cells fd entry (op.Write gfid offset bytes) e = tt
    of_op cells fd entry (op.Truncate gfid size) e = tt
    of_op cells fd entry (op.SetMode gfid mode) e = tt
    of_op cells fd entry (op.SetAttr gfid attr) e = tt
    of_op cells fd entry (op.DelAttr gfid name) e = tt
    of_op cells fd entry (op.DropName parent name) e = tt
    of_op cells fd entry (op.DropDir parent name gfid) e = tt
    of_op cells fd entry (op.Move parent name target new_name) e = tt
    of_op cells fd entry (op.MakeCopy gfid span) e = tt

    of_job : (asked : Job) → m.changes u ≡ change_by t.call t.set asked → AreNamesMade (NewKinds m u) (NewHomes m u) t.set (added_by asked)
    of_job (job.Change cells fd o (Some entry)) e = of_op cells fd entry o e
    of_job (job.Change cells fd o None) e = tt
    of_job (job.Read cells fd dir) e = tt
    of_job (job.Birth cells o) e = tt
    of_job (job.Open fd gfid) e = tt
    of_job job.Index e = tt
    of_job (job.Heal cell) e = tt

-- what a reply shows
module _ (m : State) (names : NamesAreMade m) where
  shown_made : (set : ℕ) (dir : Bool) (cells : List Cell) (contents : List (Option Content)) → AreShown m set dir cells contents → Each (λ (content : Option Content). AreNamesMade m.kinds m.homes set (items_of content)) contents
  shown_made set dir [] [] s = tt
  shown_made set dir [] (content ∷ contents) s = absurd s
  shown_made set dir (cell ∷ cells) [] s = absurd s
  shown_made set dir (cell ∷ cells) (content ∷ contents) s = (one s.0, shown_made set dir cells contents s.1)
    where
      one : IsShown m set dir cell content → AreNamesMade m.kinds m.homes set (items_of content)
      one (inl e) = subst (λ (c : Option Content). AreNamesMade m.kinds m.homes set (items_of c)) e (names set cell)
      one (inr l) = subst (λ (c : Option Content). AreNamesMade m.kinds m.homes set (items_of c)) (sym l.nothing) tt

  reply_made : (t : Task) (shown : SetReply) → IsReply m t shown → IsRunMade m.kinds m.homes t.run → t.run.course ≡ Course.Asks t.set t.job t.next → IsEventMade m.kinds m.homes (Replied t.set t.job shown)
  reply_made t _ (Shows cells fd dir contents place is stage seen) a asks =
      subst (λ (asked : Job). IsEventMade m.kinds m.homes (Replied t.set asked (reply.Contents contents place))) (sym is) (shown_made t.set dir cells contents seen, λ ok. tt)
  reply_made t _ (Enters number stage) a asks = (nothing t.job, λ ok. a.1 number t.set t.job t.next stage asks)
    where
      nothing : (asked : Job) → Each (λ (content : Option Content). AreNamesMade m.kinds m.homes t.set (items_of content)) (contents_read asked (reply.Decided number))
      nothing (job.Read cells fd dir) = tt
      nothing (job.Change cells fd o effect) = tt
      nothing (job.Birth cells o) = tt
      nothing (job.Open fd gfid) = tt
      nothing job.Index = tt
      nothing (job.Heal cell) = tt
  reply_made t _ (Fails error stage) a asks = (nothing t.job, λ ok. absurd ok)
    where
      nothing : (asked : Job) → Each (λ (content : Option Content). AreNamesMade m.kinds m.homes t.set (items_of content)) (contents_read asked (reply.Io error))
      nothing (job.Read cells fd dir) = tt
      nothing (job.Change cells fd o effect) = tt
      nothing (job.Birth cells o) = tt
      nothing (job.Open fd gfid) = tt
      nothing job.Index = tt
      nothing (job.Heal cell) = tt
  reply_made t shown (Opens _ is) a asks = of_open t.job is
    where
      of_open : (asked : Job) → IsOpen asked → IsEventMade m.kinds m.homes (Replied t.set asked shown)
      of_open (job.Open fd gfid) is = (tt, λ ok. tt)
      of_open (job.Read cells fd dir) is = absurd is
      of_open (job.Change cells fd o effect) is = absurd is
      of_open (job.Birth cells o) is = absurd is
      of_open job.Index is = absurd is
      of_open (job.Heal cell) is = absurd is

step_handed : (first : List (List ℕ)) (m : State) (step : Step) → IsReached first m → Allowed m step → HandedIsMade m → HandedIsMade (after m step)
step_handed first m (Step.Submits draws) reached h a = stop_case (λ c (run : Run). IsRunMade m.kinds m.homes run) m.calls (m.submitted + 1) _ (λ run e. absurd cc) a
step_handed first m (Step.Concludes c) reached h a = stop_case (λ d (run : Run). IsRunMade m.kinds m.homes run) m.calls c _ (λ run e. absurd cc) a
step_handed first m (Step.Switches names) reached h a = a
step_handed first m (Step.Begins c f kept) reached h a = run_case (λ d (run : Run). IsRunMade m.kinds m.homes run) m.calls c _ (tt, λ number set asked next e. absurd cc) (λ i other differ e. a i other e)
step_handed first m (Step.Settles t u true) reached h a =
    run_case (λ d (run : Run). IsRunMade (NewKinds m u) (NewHomes m u) run) m.calls t.call _ (grown t.run (a t.call t.run h.under_way.runs)) (λ i other differ e. grown other (a i other e))
  where
    grown : (run : Run) → IsRunMade m.kinds m.homes run → IsRunMade (NewKinds m u) (NewHomes m u) run
    grown run k = run_grows m.kinds m.homes (NewKinds m u) (NewHomes m u) (adopted_grows first m reached (made_by_change first m reached) u h.unsettled.verdict) run k
step_handed first m (Step.Settles t u false) reached h a = run_case (λ d (run : Run). IsRunMade m.kinds m.homes run) m.calls t.call _ (a t.call t.run h.under_way.runs) (λ i other differ e. a i other e)
step_handed first m (Step.EndsSettling t) reached h a = run_case (λ d (run : Run). IsRunMade m.kinds m.homes run) m.calls t.call _ ((a t.call t.run h.under_way.runs).0, λ number set asked next e. absurd cc) (λ i other differ e. a i other e)
step_handed first m (Step.BeginsChange t u) reached h a = run_case (λ d (run : Run). IsRunMade m.kinds m.homes run) m.calls t.call _ ((a t.call t.run h.under_way.runs).0, λ number set asked next e. absurd cc) (λ i other differ e. a i other e)
step_handed first m (Step.Decides t u) reached h a =
    run_case (λ d (run : Run). IsRunMade (NewKinds m u) (NewHomes m u) run) m.calls t.call _ (
      (grown t.run (a t.call t.run h.under_way.runs)).0,
      λ number set asked next e f. let same = one_job t.run.course t.set set t.job asked t.next next h.under_way.asks f in
          subst (λ (s : ℕ). AreNamesMade (NewKinds m u) (NewHomes m u) s (added_by asked)) same.set_is (subst (λ (j : Job). AreNamesMade (NewKinds m u) (NewHomes m u) t.set (added_by j)) same.job_is (job_made first m reached t u h.unsettled running)),
    )
    (λ i other differ e. grown other (a i other e))
  where
    running : m.changes u ≡ change_by t.call t.set t.job
    running = (((each_beside first m reached).running t.call t.run h.under_way.runs u).running_is_unsettled h.turn).asked t.set t.job t.next h.under_way.asks

    grown : (run : Run) → IsRunMade m.kinds m.homes run → IsRunMade (NewKinds m u) (NewHomes m u) run
    grown run k = run_grows m.kinds m.homes (NewKinds m u) (NewHomes m u) (adopted_grows first m reached (made_by_change first m reached) u h.unsettled) run k
step_handed first m (Step.SendsBirths t) reached h a = run_case (λ d (run : Run). IsRunMade m.kinds m.homes run) m.calls t.call _ ((a t.call t.run h.under_way.runs).0, λ number set asked next e. absurd cc) (λ i other differ e. a i other e)
step_handed first m (Step.ConfirmsBirths t) reached h a =
    run_case (λ d (run : Run). IsRunMade m.kinds m.homes run) m.calls t.call _ (
      (a t.call t.run h.under_way.runs).0,
      λ number set asked next e f. subst (λ (items : List Item). AreNamesMade m.kinds m.homes set items) (sym (birth_adds set asked (bearing_is_birth first m reached t.call t.run h.under_way.runs set asked next h.turn f))) tt,
    )
    (λ i other differ e. a i other e)
step_handed first m (Step.HandsIn t shown) reached h a =
    run_case (λ d (run : Run). IsRunMade m.kinds m.homes run) m.calls t.call _
    ((reply_made m (names_made first m reached) t shown h.is_reply (a t.call t.run h.under_way.runs) h.under_way.asks, (a t.call t.run h.under_way.runs).0), λ number set asked next e. absurd cc) (λ i other differ e. a i other e)
step_handed first m (Step.Extends c run dir next) reached h a = run_case (λ d (one : Run). IsRunMade m.kinds m.homes one) m.calls c _ ((tt, (a c run h.runs).0), λ number set asked later e. absurd cc) (λ i other differ e. a i other e)
step_handed first m (Step.Releases c run gfid) reached h a = run_case (λ d (one : Run). IsRunMade m.kinds m.homes one) m.calls c _ (a c run h.runs) (λ i other differ e. a i other e)
step_handed first m (Step.Learns c run dir spans) reached h a = a
step_handed first m (Step.Answers c run answer place) reached h a = stop_case (λ d (one : Run). IsRunMade m.kinds m.homes one) m.calls c _ (λ other e. quiet (is_lookup run.fop) answer other e) a
step_handed first m (Step.AnswersAbove c run answer) reached h a = stop_case (λ d (one : Run). IsRunMade m.kinds m.homes one) m.calls c _ (λ other e. quiet (is_lookup run.fop) (fop_answer.Call answer) other e) a

pub handed_made : (first : List (List ℕ)) (m : State) → IsReached first m → HandedIsMade m
handed_made first _ (IsReached.Start planned) = λ c run runs. absurd cc
handed_made first _ (IsReached.Further old step reached allowed) = step_handed first old step reached allowed (handed_made first old reached)

-- ---- objects that calls know

abbrev IsObjectMade : State → Object → Type 0
IsObjectMade m object = IsMade (volumes m) object

object_grows : (m n : State) → Grows m.kinds m.homes n.kinds n.homes → (object : Object) → IsObjectMade m object → IsObjectMade n object
object_grows m n grows object a = let made = grows object.set object.gfid object.kind (a.kind_is, a.home_is) in record { no_link = a.no_link; kind_is = made.0; home_is = made.1 }

fop_grows : (m n : State) → Grows m.kinds m.homes n.kinds n.homes → (f : Fop) → AreMade (volumes m) f → AreMade (volumes n) f
fop_grows m n grows (fop.Lookup parent name) a = object_grows m n grows parent a
fop_grows m n grows (fop.Mkdir parent name mode drawn) a = object_grows m n grows parent a
fop_grows m n grows (fop.Rmdir parent name) a = object_grows m n grows parent a
fop_grows m n grows (fop.Create fd parent name mode drawn) a = object_grows m n grows parent a
fop_grows m n grows (fop.Unlink parent name) a = object_grows m n grows parent a
fop_grows m n grows (fop.Rename parent name target new_name) a = (object_grows m n grows parent a.0, object_grows m n grows target a.1)
fop_grows m n grows (fop.Open fd object) a = object_grows m n grows object a
fop_grows m n grows (fop.Stat object) a = object_grows m n grows object a
fop_grows m n grows (fop.List object) a = object_grows m n grows object a
fop_grows m n grows (fop.Chmod object mode) a = object_grows m n grows object a
fop_grows m n grows (fop.Truncate object size) a = object_grows m n grows object a
fop_grows m n grows (fop.SetAttr object attr) a = object_grows m n grows object a
fop_grows m n grows (fop.GetAttr object name) a = object_grows m n grows object a
fop_grows m n grows (fop.DelAttr object name) a = object_grows m n grows object a
fop_grows m n grows (fop.Read fd object offset count) a = object_grows m n grows object a
fop_grows m n grows (fop.Write fd object offset bytes) a = object_grows m n grows object a
fop_grows m n grows (fop.Migrate fds) a = tt
fop_grows m n grows (fop.Heal count) a = tt

-- the objects that a fop names are among those that are known
known_fop : (m : State) → Each (IsObjectMade m) m.known → (f : Fop) → Each (IsKnown m.known) (objects_of f) → AreMade (volumes m) f
known_fop m a (fop.Lookup parent name) k = each_known (IsObjectMade m) m.known parent a k.0
known_fop m a (fop.Mkdir parent name mode drawn) k = each_known (IsObjectMade m) m.known parent a k.0
known_fop m a (fop.Rmdir parent name) k = each_known (IsObjectMade m) m.known parent a k.0
known_fop m a (fop.Create fd parent name mode drawn) k = each_known (IsObjectMade m) m.known parent a k.0
known_fop m a (fop.Unlink parent name) k = each_known (IsObjectMade m) m.known parent a k.0
known_fop m a (fop.Rename parent name target new_name) k = (each_known (IsObjectMade m) m.known parent a k.0, each_known (IsObjectMade m) m.known target a k.1.0)
known_fop m a (fop.Open fd object) k = each_known (IsObjectMade m) m.known object a k.0
known_fop m a (fop.Stat object) k = each_known (IsObjectMade m) m.known object a k.0
known_fop m a (fop.List object) k = each_known (IsObjectMade m) m.known object a k.0
known_fop m a (fop.Chmod object mode) k = each_known (IsObjectMade m) m.known object a k.0
known_fop m a (fop.Truncate object size) k = each_known (IsObjectMade m) m.known object a k.0
known_fop m a (fop.SetAttr object attr) k = each_known (IsObjectMade m) m.known object a k.0
known_fop m a (fop.GetAttr object name) k = each_known (IsObjectMade m) m.known object a k.0
known_fop m a (fop.DelAttr object name) k = each_known (IsObjectMade m) m.known object a k.0
known_fop m a (fop.Read fd object offset count) k = each_known (IsObjectMade m) m.known object a k.0
known_fop m a (fop.Write fd object offset bytes) k = each_known (IsObjectMade m) m.known object a k.0
known_fop m a (fop.Migrate fds) k = tt
known_fop m a (fop.Heal count) k = tt

move_fops : (m : State) → ObjectsMade m → (c : ℕ) (run : Run) → RunMove m c run → AreMade (volumes m) run.fop
move_fops m a _ _ (Stays c run runs) = a.fops c run runs
move_fops m a _ _ (Begins c f kept h) = known_fop m a.known f h.known
move_fops m a _ _ (Settles t u adopts h) = a.fops t.call t.run h.under_way.runs
move_fops m a _ _ (EndsSettling t h) = a.fops t.call t.run h.under_way.runs
move_fops m a _ _ (BeginsChange t u h) = a.fops t.call t.run h.under_way.runs
move_fops m a _ _ (Decides t u h) = a.fops t.call t.run h.under_way.runs
move_fops m a _ _ (SendsBirths t h) = a.fops t.call t.run h.under_way.runs
move_fops m a _ _ (ConfirmsBirths t h) = a.fops t.call t.run h.under_way.runs
move_fops m a _ _ (HandsIn t shown h) = a.fops t.call t.run h.under_way.runs
move_fops m a _ _ (Extends c run dir next h) = a.fops c run h.runs
move_fops m a _ _ (Releases c run gfid h) = a.fops c run h.runs

-- what an answer names was shown, or was made by the fop
module _ (kinds : Gfid → Option Kind) (homes : Homes) where
  none_of : (set : ℕ) (shown : DirNames) → ◌≡◌ {A = Result DirNames IoError} (Ok (names_shown None 0)) (Ok shown) → AreNamesMade kinds homes set shown.items
  none_of set shown e = subst (λ (d : DirNames). AreNamesMade kinds homes set d.items) (unwrap (names_shown None 0) shown e) tt
    where
      unwrap : (x y : DirNames) → ◌≡◌ {A = Result DirNames IoError} (Ok x) (Ok y) → x ≡ y
      unwrap x y e = cc

  names_of_reply : (set : ℕ) (dir : Gfid) (one : SetReply) (shown : DirNames) → names_in one ≡ Ok shown → Each (λ (content : Option Content). AreNamesMade kinds homes set (items_of content)) (contents_read (names_job dir) one) → AreNamesMade kinds homes set shown.items
  names_of_reply set dir (reply.Contents contents place) shown e a = subst (λ (d : DirNames). AreNamesMade kinds homes set d.items) (unwrap (names_shown (first_content contents) place) shown e) (first contents a)
    where
      unwrap : (x y : DirNames) → ◌≡◌ {A = Result DirNames IoError} (Ok x) (Ok y) → x ≡ y
      unwrap x y e = cc

      first : (all : List (Option Content)) → Each (λ (content : Option Content). AreNamesMade kinds homes set (items_of content)) all → AreNamesMade kinds homes set (items_of (first_content all))
      first [] k = tt
      first (content ∷ all) k = k.0
  names_of_reply set dir (reply.Decided number) shown e a = none_of set shown e
  names_of_reply set dir reply.Opened shown e a = none_of set shown e
  names_of_reply set dir (reply.Listed cells answered short) shown e a = none_of set shown e
  names_of_reply set dir (reply.Healed records) shown e a = none_of set shown e
  names_of_reply set dir (reply.Skipped cause) shown e a = none_of set shown e
  names_of_reply set dir (reply.Io error) shown e a = absurd cc

  saw_made : (handed : Handed) (dir : Gfid) (set : ℕ) (shown : DirNames) → AreEventsMade kinds homes handed → Saw handed dir set shown → AreNamesMade kinds homes set shown.items
  saw_made [] dir set shown a s = absurd s
  saw_made (event ∷ handed) dir set shown a (inr s) = saw_made handed dir set shown a.1 s
  saw_made (event ∷ handed) dir set shown a (inl s) = one event a.0 s
    where
      one : (e : Event) → IsEventMade kinds homes e → IsNamesOf e dir set shown → AreNamesMade kinds homes set shown.items
      one (Replied other asked answer) k s =
          names_of_reply set dir answer shown s.2
          (subst (λ (x : ℕ). Each (λ (content : Option Content). AreNamesMade kinds homes x (items_of content)) (contents_read (names_job dir) answer)) s.0
          (subst (λ (j : Job). Each (λ (content : Option Content). AreNamesMade kinds homes other (items_of content)) (contents_read j answer)) s.1 k.0))
      one (Held other) k s = absurd s

  pub record IsFoundMade (set : ℕ) (gfid : Gfid) (k : Kind) : Type 0 where
    pub no_link : is_link k ≡ false
    pub made : IsMadeOn kinds homes set gfid k

  item_made : (set : ℕ) (item : Item) (gfid : Gfid) (k : Kind) → IsNameMade kinds homes set item → is_link item.kind ≡ false → item.gfid ≡ gfid → item.kind ≡ k → IsFoundMade set gfid k
  item_made set item gfid k made real gfid_is kind_is = record {
    no_link = subst (λ (x : Kind). is_link x ≡ false) kind_is real;
    made = subst (λ (x : Kind). IsMadeOn kinds homes set gfid x) kind_is (subst (λ (g : Gfid). IsMadeOn kinds homes set g item.kind) gfid_is (made real).0);
  }

  added_made : (handed : Handed) (set : ℕ) (gfid : Gfid) (k : Kind) → AreEventsMade kinds homes handed → WasAdded handed set gfid k → IsFoundMade set gfid k
  added_made [] set gfid k a w = absurd w
  added_made (event ∷ handed) set gfid k a (inr w) = added_made handed set gfid k a.1 w
  added_made (event ∷ handed) set gfid k a (inl w) = one event a.0 w
    where
      one : (e : Event) → IsEventMade kinds homes e → IsAddOf e set gfid k → IsFoundMade set gfid k
      one (Replied other asked answer) made w =
          let names : AreNamesMade kinds homes other (w.1.1.item ∷ []) = subst (λ (items : List Item). AreNamesMade kinds homes other items) w.1.1.added (made.1 w.1.0) in
          subst (λ (s : ℕ). IsFoundMade s gfid k) w.0 (item_made other w.1.1.item gfid k names.0 w.1.1.no_link w.1.1.gfid_is w.1.1.kind_is)
      one (Held dir) made w = absurd w

  pub found_made : (handed : Handed) (set : ℕ) (gfid : Gfid) (k : Kind) → AreEventsMade kinds homes handed → SawObject handed set gfid k ⊎ WasAdded handed set gfid k → IsFoundMade set gfid k
  found_made handed set gfid k a (inl s) =
      item_made set s.saw.item gfid k (found_is (λ (item : Item). IsNameMade kinds homes set item) s.saw.shown.items s.name s.saw.item (saw_made handed s.dir set s.saw.shown a s.saw.saw) s.saw.named) s.saw.is_object s.saw.gfid_is s.saw.kind_is
  found_made handed set gfid k a (inr w) = added_made handed set gfid k a w

answer_made : (m : State) (run : Run) (answer : FopAnswer) (place : Option ℕ) → AreEventsMade m.kinds m.homes run.handed → AnswersWithin run.volume.sets run.handed answer place → Each (IsObjectMade m) (object_in answer)
answer_made m run (fop_answer.Found set gfid k) place a w =
    let made = found_made m.kinds m.homes run.handed set gfid k a w.1 in
    (record { no_link = made.no_link; kind_is = made.made.0; home_is = made.made.1 }, tt)
answer_made m run (fop_answer.Call answer) place a w = tt

step_known : (first : List (List ℕ)) (m : State) (step : Step) → IsReached first m → Allowed m step → Each (IsObjectMade m) m.known → Each (IsObjectMade m) (after m step).known
step_known first m (Step.Answers c run answer place) reached h a =
    each_append (IsObjectMade m) (object_in answer) m.known
    (answer_made m run answer place (handed_made first m reached c run h.runs).0 (answer_within m (jobs_asked first m reached) (in_its_graph first m reached) c run h.runs answer place h.ends)) a
step_known first m (Step.AnswersAbove c run answer) reached h a = a
step_known first m (Step.Settles t u true) reached h a = a
step_known first m (Step.Settles t u false) reached h a = a
step_known first m (Step.Decides t u) reached h a = a
step_known first m (Step.BeginsChange t u) reached h a = a
step_known first m (Step.Submits draws) reached h a = a
step_known first m (Step.Concludes c) reached h a = a
step_known first m (Step.Switches names) reached h a = a
step_known first m (Step.Begins c f kept) reached h a = a
step_known first m (Step.EndsSettling t) reached h a = a
step_known first m (Step.SendsBirths t) reached h a = a
step_known first m (Step.ConfirmsBirths t) reached h a = a
step_known first m (Step.HandsIn t shown) reached h a = a
step_known first m (Step.Extends c run dir next) reached h a = a
step_known first m (Step.Releases c run gfid) reached h a = a
step_known first m (Step.Learns c run dir spans) reached h a = a

pub objects_made : (first : List (List ℕ)) (m : State) → IsReached first m → ObjectsMade m
objects_made first _ (IsReached.Start planned) = record { known = (record { no_link = refl; kind_is = ap (λ (b : Bool). if b then Some kind.Dir else None) (gfid_itself root); home_is = λ file. absurd cc }, tt); fops = λ c run runs. absurd cc }
objects_made first _ (IsReached.Further old step reached allowed) =
    let a = objects_made first old reached in
    let grows = step_grows first old step reached allowed in
    record {
      known = each_map (IsObjectMade old) (IsObjectMade (after old step)) (after old step).known (λ object k. object_grows old (after old step) grows object k) (step_known first old step reached allowed a.known);
      fops = λ c run runs. fop_grows old (after old step) grows run.fop (move_fops old a c run (run_moves old step allowed c run runs));
    }
