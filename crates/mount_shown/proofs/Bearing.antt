-- A birth that is sent fits, and is apart from every unsettled change.
use Rattle.std.proofs.Common.{◌≡◌, ◌≢◌, ◌⊎◌, inl, inr, ◌∙◌, ℕ, ◌<◌, true, false, List, Option, Some, None, refl, sym, ap, subst, arith}
use Rattle.afr_machine.specs.Changes.Verdict.{Undrawn, Unsettled, Adopted}
use Rattle.dht_fops.specs.Answers.{AreMade}
use Rattle.dht_fops.specs.Courses.{Course}
use Rattle.dht_fops.specs.Standing.{Volumes}
use Rattle.fop_types.specs.Names.{is_link}
use Rattle.fop_types.specs.StoreOps.{born}
use Rattle.fop_types.specs.declared.cells.Cell.{Cell}
use Rattle.fop_types.specs.declared.cells.Gfid.{Gfid}
use Rattle.fop_types.specs.declared.cells.Kind.{Kind}
use Rattle.fop_types.specs.declared.cells.Kind.TheVariants as kind
use Rattle.fop_types.specs.declared.contents.Item.{Item}
use Rattle.fop_types.specs.declared.contents.Span.{Span}
use Rattle.fop_types.specs.declared.fops.Fop.{Fop}
use Rattle.fop_types.specs.declared.fops.Fop.TheVariants as fop
use Rattle.fop_types.specs.declared.history.Entry.{Entry}
use Rattle.fop_types.specs.declared.jobs.Job.{Job}
use Rattle.fop_types.specs.declared.jobs.Job.TheVariants as job
use Rattle.fop_types.specs.declared.jobs.SetReply.{SetReply}
use Rattle.fop_types.specs.declared.store_ops.StoreOp.{StoreOp}
use Rattle.fop_types.specs.declared.store_ops.StoreOp.TheVariants as op
use Rattle.mount_files.specs.Pairs.{AreApart, Bears, BirthsOf}
use Rattle.mount_files.specs.Showing.{Stands, IsUnshown, IsPlaced}
use Rattle.mount_laws.specs.Effects.{IsOwnEffect, IsOfLink, IsJobOf, WasReplied}
use Rattle.mount_laws.specs.Guards.{Allowed, IsReached, IsBirth, DrawsOwn}
use Rattle.mount_laws.specs.Holding.{IsHeldFor, IsBornBy, IsCopyOf}
use Rattle.mount_laws.specs.Objects.{volumes}
use Rattle.mount_laws.specs.States.{State, set_count}
use Rattle.mount_laws.specs.Steps.{Step, Task, after, sending_births}
use Rattle.mount_laws.specs.Within.{IsWithin}
use Rattle.mount_laws.proofs.Beyond.{in_its_graph, job_within}
use Rattle.mount_laws.proofs.Drawing.{drawn_apart, began_in, adds_drawn}
use Rattle.mount_laws.proofs.Entering.{began_is, effect_own, own_of_run}
use Rattle.mount_laws.proofs.Held.{holds_cover, jobs_asked}
use Rattle.mount_laws.proofs.Making.{objects_made}
use Rattle.mount_shown.proofs.Deciding.{born_stands}
use Rattle.mount_shown.proofs.Jobs.{goes_on, replied_adopted, sets_within}
use Rattle.mount_shown.proofs.Stepping.{sent_are}
use Rattle.mount_shown.specs.Bridge.{op_of, birth_on}
use Rattle.mount_shown.specs.Pending.{FilesStand, KeepsFiles}

-- ---- changes that give birth

-- the op adds a file's or a directory's name, of this object
pub record IsAddOf (o : StoreOp) (gfid : Gfid) : Type 0 where
  pub parent : Gfid
  pub item : Item
  pub mode : ℕ
  pub span : Option Span
  pub op_is : o ≡ op.AddName parent item mode span
  pub gfid_is : item.gfid ≡ gfid
  pub no_link : is_link item.kind ≡ false

-- the op makes a copy
pub record IsCopying (o : StoreOp) : Type 0 where
  pub gfid : Gfid
  pub span : Option Span
  pub op_is : o ≡ op.MakeCopy gfid span

twice : (a b g : Gfid) → (a ≡ g) ⊎ ((b ≡ g) ⊎ ⊥) → a ≡ b → a ≡ g
twice a b g (inl e) same = e
twice a b g (inr (inl e)) same = same ∙ e
twice a b g (inr (inr x)) same = absurd x

add_bears : (parent : Gfid) (item : Item) (mode : ℕ) (span : Option Span) (g : Gfid) (k : Kind) → item.kind ≡ k → Bears (op.AddName parent item mode span) g → IsAddOf (op.AddName parent item mode span) g
add_bears parent item mode span g k e b = by_kind k e
  where
    is : (one : Kind) → item.kind ≡ one → is_link one ≡ false → item.gfid ≡ g → IsAddOf (op.AddName parent item mode span) g
    is one same no_link gfid_is = record { parent = parent; item = item; mode = mode; span = span; op_is = refl; gfid_is = gfid_is; no_link = ap is_link same ∙ no_link }

    by_kind : (one : Kind) → item.kind ≡ one → IsAddOf (op.AddName parent item mode span) g
    by_kind kind.File same = is kind.File same refl (twice item.gfid item.gfid g (subst (λ (x : Kind). BirthsOf (born x item.gfid mode span) g) same b) refl)
    by_kind kind.Dir same = is kind.Dir same refl (twice item.gfid item.gfid g (subst (λ (x : Kind). BirthsOf (born x item.gfid mode span) g) same b) refl)
    by_kind kind.Link same = absurd (subst (λ (x : Kind). BirthsOf (born x item.gfid mode span) g) same b)

bears_is : (o : StoreOp) (g : Gfid) → Bears o g → IsAddOf o g ⊎ IsCopying o
bears_is (op.AddName parent item mode span) g b = inl (add_bears parent item mode span g item.kind refl b)
bears_is (op.MakeCopy gfid span) g b = inr (record { gfid = gfid; span = span; op_is = refl })
bears_is (op.Write gfid offset bytes) g b = absurd b
bears_is (op.Truncate gfid size) g b = absurd b
bears_is (op.SetMode gfid mode) g b = absurd b
bears_is (op.SetAttr gfid attr) g b = absurd b
bears_is (op.DelAttr gfid name) g b = absurd b
bears_is (op.DropName parent name) g b = absurd b
bears_is (op.DropDir parent name gfid) g b = absurd b
bears_is (op.Move parent name target new_name) g b = absurd b

copy_of : (gfid : Gfid) (o : StoreOp) → IsCopyOf gfid o → IsCopying o
copy_of gfid (op.MakeCopy other span) is = record { gfid = other; span = span; op_is = refl }
copy_of gfid (op.AddName parent item mode span) is = absurd is
copy_of gfid (op.Write g offset bytes) is = absurd is
copy_of gfid (op.Truncate g size) is = absurd is
copy_of gfid (op.SetMode g mode) is = absurd is
copy_of gfid (op.SetAttr g attr) is = absurd is
copy_of gfid (op.DelAttr g name) is = absurd is
copy_of gfid (op.DropName parent name) is = absurd is
copy_of gfid (op.DropDir parent name g) is = absurd is
copy_of gfid (op.Move parent name target new_name) is = absurd is

-- an unsettled change gives birth to an object that it makes, and that was not made before
pub record IsPendingAdd (m : State) (w : ℕ) (gfid : Gfid) : Type 0 where
  pub entry : Entry
  pub effect : (m.changes w).effect ≡ Some entry
  pub add : IsAddOf (m.changes w).op gfid
  pub unmade : m.kinds gfid ≡ None

pub pending_add : (first : List (List ℕ)) (m : State) → IsReached first m → KeepsFiles m → (w : ℕ) → (m.changes w).verdict ≡ Unsettled → (gfid : Gfid) → Bears (m.changes w).op gfid → IsPendingAdd m w gfid
pending_add first m reached a w was gfid b = by_effect (m.changes w).effect refl (bears_is (m.changes w).op gfid b)
  where
    drawn : (m.changes w).verdict ≢ Undrawn
    drawn e = let clash : Unsettled ≡ Undrawn = sym was ∙ e in absurd cc

    own : IsOwnEffect m.began (m.changes w) (m.changes w).effect
    own = effect_own first m reached w drawn

    stands : Stands (volumes m) (m.changes w).set (m.changes w).op (m.changes w).effect
    stands = (a.alone w was).stands

    by_effect : (effect : Option Entry) → (m.changes w).effect ≡ effect → IsAddOf (m.changes w).op gfid ⊎ IsCopying (m.changes w).op → IsPendingAdd m w gfid
    by_effect None e (inl k) =
        let link = (subst (λ (o : StoreOp). IsUnshown (volumes m) (m.changes w).set o) k.op_is (subst (λ (x : Option Entry). Stands (volumes m) (m.changes w).set (m.changes w).op x) e stands)).0 in
        let clash : true ≡ false = sym (ap is_link link) ∙ k.no_link in absurd cc
    by_effect None e (inr k) = absurd (subst (λ (o : StoreOp). IsOfLink o) k.op_is (subst (λ (x : Option Entry). IsOwnEffect m.began (m.changes w) x) e own))
    by_effect (Some entry) e (inl k) =
        record {
          entry = entry;
          effect = e;
          add = k;
          unmade = subst (λ (g : Gfid). m.kinds g ≡ None) k.gfid_is (subst (λ (o : StoreOp). IsPlaced (volumes m) (m.changes w).set o) k.op_is (subst (λ (x : Option Entry). Stands (volumes m) (m.changes w).set (m.changes w).op x) e stands).1).unmade;
        }
    by_effect (Some entry) e (inr k) = absurd (subst (λ (o : StoreOp). IsPlaced (volumes m) (m.changes w).set o) k.op_is (subst (λ (x : Option Entry). Stands (volumes m) (m.changes w).set (m.changes w).op x) e stands).1)

-- ---- births alone

module _ (first : List (List ℕ)) (m : State) (reached : IsReached first m) (t : Task) (h : Allowed m (Step.SendsBirths t)) (a : KeepsFiles m) where
  -- an unsettled change of the call's own makes no object while it asks for births
  own_no : (w : ℕ) (gfid : Gfid) → (m.changes w).verdict ≡ Unsettled → (k : IsPendingAdd m w gfid) → (m.changes w).by ≡ t.call → IsBirth t.job → ⊥
  own_no w gfid was k by birth =
      by_case (own_of_run first m reached t.call t.run h.under_way.runs w k.entry by (record { begun = λ e. let clash : Unsettled ≡ Undrawn = sym was ∙ e in absurd cc; effect = k.effect }))
    where
      no_change : (asked : Job) (cells : List Cell) (fd : ℕ) (o : StoreOp) (one other : ℕ) (next later : SetReply → Course) → IsBirth asked → Course.Asks one asked next ≡ Course.Asks other (job.Change cells fd o (Some k.entry)) later → ⊥
      no_change (job.Birth bs b) cells fd o one other next later is e = absurd cc
      no_change (job.Read cs f d) cells fd o one other next later is e = is
      no_change (job.Change cs f b x) cells fd o one other next later is e = is
      no_change (job.Open f g) cells fd o one other next later is e = is
      no_change job.Index cells fd o one other next later is e = is
      no_change (job.Heal x) cells fd o one other next later is e = is

      by_case : WasReplied t.run.handed k.entry (m.changes w).verdict ⊎ IsJobOf t.run w k.entry (m.changes w).verdict → ⊥
      by_case (inl r) =
          let done = replied_adopted t.run.fop t.run.handed k.entry (m.changes w).verdict (goes_on first m reached t.call t.run h.under_way.runs t.set t.job t.next h.under_way.asks).0 r in
          let clash : Unsettled ≡ Adopted = sym was ∙ done in absurd cc
      by_case (inr j) = no_change t.job j.cells j.fd j.op t.set j.set t.next j.next birth (sym h.under_way.asks ∙ j.asks)

  -- nobody makes the object now
  not_made : (gfid : Gfid) (span : Option Span) → IsBirth t.job → IsBornBy t.run.fop (op.MakeCopy gfid span) → (w : ℕ) → (m.changes w).verdict ≡ Unsettled → IsPendingAdd m w gfid → ⊥
  not_made gfid span birth by w was k = by_fop t.run.fop by ((objects_made first m reached).fops t.call t.run h.under_way.runs) ((began_in first m reached).draws t.call t.run.fop (began_is first m reached t.call t.run h.under_way.runs))
    where
      drawn : (m.changes w).verdict ≢ Undrawn
      drawn e = let clash : Unsettled ≡ Undrawn = sym was ∙ e in absurd cc

      by_fop : (f : Fop) → IsBornBy f (op.MakeCopy gfid span) → AreMade (volumes m) f → DrawsOwn (m.calls t.call).drawn f → ⊥
      by_fop (fop.Mkdir parent name mode own) is made draws =
          let theirs = (adds_drawn first m reached w k.entry k.add.parent k.add.item k.add.mode k.add.span drawn k.effect k.add.op_is).0 in
          let call : (m.changes w).by ≡ t.call = (drawn_apart first m reached).apart (m.changes w).by t.call gfid (theirs ∙ ap (λ (g : Gfid). Some g) k.add.gfid_is) (draws ∙ ap (λ (g : Gfid). Some g) (sym is)) in
          own_no w gfid was k call birth
      by_fop (fop.Rename parent name target new_name) is made draws =
          let there : m.kinds target.gfid ≡ Some target.kind = made.1.kind_is in
          let none : m.kinds target.gfid ≡ None = subst (λ (g : Gfid). m.kinds g ≡ None) is.0 k.unmade in
          absurd cc
      by_fop (fop.Lookup parent name) is made draws = is
      by_fop (fop.Rmdir parent name) is made draws = is
      by_fop (fop.Create fd parent name mode own) is made draws = is
      by_fop (fop.Unlink parent name) is made draws = is
      by_fop (fop.Open fd object) is made draws = is
      by_fop (fop.Stat object) is made draws = is
      by_fop (fop.List object) is made draws = is
      by_fop (fop.Chmod object mode) is made draws = is
      by_fop (fop.Truncate object size) is made draws = is
      by_fop (fop.SetAttr object attr) is made draws = is
      by_fop (fop.GetAttr object name) is made draws = is
      by_fop (fop.DelAttr object name) is made draws = is
      by_fop (fop.Read fd object offset count) is made draws = is
      by_fop (fop.Write fd object offset bytes) is made draws = is
      by_fop (fop.Migrate fds) is made draws = is
      by_fop (fop.Heal count) is made draws = is

  copy_apart : (gfid : Gfid) (span : Option Span) → IsBirth t.job → IsBornBy t.run.fop (op.MakeCopy gfid span) → (w : ℕ) → (m.changes w).verdict ≡ Unsettled → AreApart (birth_on t.set (op.MakeCopy gfid span)) (op_of (m.changes w))
  copy_apart gfid span birth by w was = record {
    names = λ dir name x y. absurd x;
    inside = λ dir name x y. absurd x;
    outside = λ dir name x y. absurd y;
    born = λ g x y. not_made gfid span birth by w was (subst (λ (one : Gfid). IsPendingAdd m w one) (sym (twice gfid gfid g x refl)) (pending_add first m reached a w was g y));
    cells = λ e cell x y. absurd x;
  }

  copy_stands : (cells : List Cell) (gfid : Gfid) (span : Option Span) → t.job ≡ job.Birth cells (op.MakeCopy gfid span) → IsBornBy t.run.fop (op.MakeCopy gfid span) → FilesStand (volumes (sending_births m t)) (set_count m) m.changes
  copy_stands cells gfid span e by =
      subst (λ (s : Volumes). FilesStand s (set_count m) m.changes) (sym (sent_are m t (job.Birth cells (op.MakeCopy gfid span)) e))
      (born_stands (volumes m) (set_count m) m.changes a (birth_on t.set (op.MakeCopy gfid span)) (record { on_set = low; fits_set = refl; stands = tt }) (copy_apart gfid span (subst (λ (x : Job). IsBirth x) (sym e) tt) by))
    where
      low : t.set < set_count m
      low =
          let within : t.set < t.run.volume.sets = subst (λ (x : Job). IsWithin t.run.volume.sets t.run.handed t.set x) e (job_within m (jobs_asked first m reached) (in_its_graph first m reached) t.call t.run h.under_way.runs t.set t.job t.next h.under_way.asks) in
          let most = sets_within first m reached t.call t.run h.under_way.runs in omega (arith, within, most)

-- a birth is of a copy
pub copying : (f : Fop) (o : StoreOp) → IsBornBy f o → IsCopying o
copying (fop.Mkdir parent name mode drawn) o is = copy_of drawn o is
copying (fop.Rename parent name target new_name) o is = copy_of target.gfid o is.0
copying (fop.Lookup parent name) o is = absurd is
copying (fop.Rmdir parent name) o is = absurd is
copying (fop.Create fd parent name mode own) o is = absurd is
copying (fop.Unlink parent name) o is = absurd is
copying (fop.Open fd object) o is = absurd is
copying (fop.Stat object) o is = absurd is
copying (fop.List object) o is = absurd is
copying (fop.Chmod object mode) o is = absurd is
copying (fop.Truncate object size) o is = absurd is
copying (fop.SetAttr object attr) o is = absurd is
copying (fop.GetAttr object name) o is = absurd is
copying (fop.DelAttr object name) o is = absurd is
copying (fop.Read fd object offset count) o is = absurd is
copying (fop.Write fd object offset bytes) o is = absurd is
copying (fop.Migrate fds) o is = absurd is
copying (fop.Heal count) o is = absurd is

pub births_stand : (first : List (List ℕ)) (m : State) → IsReached first m → (t : Task) → Allowed m (Step.SendsBirths t) → KeepsFiles m → KeepsFiles (after m (Step.SendsBirths t))
births_stand first m reached t h a = by_job t.job refl h.is_birth ((holds_cover first m reached).asked t.call t.run t.set t.job t.next h.under_way.runs h.under_way.asks)
  where
    by_job : (asked : Job) → t.job ≡ asked → IsBirth asked → IsHeldFor t.run.holds t.run.fop asked → FilesStand (volumes (sending_births m t)) (set_count m) m.changes
    by_job (job.Birth cells o) e is k =
        let copy = copying t.run.fop o k.1.1 in
        copy_stands first m reached t h a cells copy.gfid copy.span (e ∙ ap (λ (x : StoreOp). job.Birth cells x) copy.op_is) (subst (λ (x : StoreOp). IsBornBy t.run.fop x) copy.op_is k.1.1)
    by_job (job.Read cells fd dir) e is k = absurd is
    by_job (job.Change cells fd o effect) e is k = absurd is
    by_job (job.Open fd gfid) e is k = absurd is
    by_job job.Index e is k = absurd is
    by_job (job.Heal cell) e is k = absurd is
