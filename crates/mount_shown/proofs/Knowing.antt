-- What a fop knows of names before its first change.
use Rattle.std.proofs.Common.{◌≡◌, ◌⊎◌, inl, inr, ◌∙◌, ℕ, ◌<◌, false, refl, ap, List, Some}
use Rattle.afr_machine.specs.Changes.Verdict.{Undrawn, Unsettled}
use Rattle.dht_fops.specs.Handed.{SawName, SawNowhere}
use Rattle.fop_types.specs.Names.{item_named}
use Rattle.fop_types.specs.StoreOps.{is_taken, item_in}
use Rattle.fop_types.specs.declared.cells.Gfid.{Gfid}
use Rattle.fop_types.specs.declared.cells.Kind.{Kind}
use Rattle.fop_types.specs.declared.cells.Kind.TheVariants as kind
use Rattle.fop_types.specs.declared.contents.Item.{Item}
use Rattle.mount_files.proofs.Sentences.{name_here, name_nowhere}
use Rattle.mount_files.specs.Pairs.{Touches, Removes}
use Rattle.mount_files.specs.Seen.{IsNowhere}
use Rattle.mount_laws.specs.Guards.{IsReached}
use Rattle.mount_laws.specs.Objects.{volumes}
use Rattle.mount_laws.specs.Runs.{Run, Stage}
use Rattle.mount_laws.specs.Runs.Stage.{Waiting, Settled, Changing, Bearing, Decided}
use Rattle.mount_laws.specs.States.{State}
use Rattle.mount_shown.proofs.Asked.{HasChanged, none_begun}
use Rattle.mount_shown.proofs.Founding.{flat_run, fits_run, names_are, nobody_on}
use Rattle.mount_shown.proofs.Names.{untaken_no}
use Rattle.mount_shown.specs.Bridge.{op_of}
use Rattle.mount_shown.specs.Known.{HasNotBegun, IsUnchanged, IsKnownHere, IsKnownNowhere, CallsKnowHere, CallsKnowNowhere}
use Rattle.mount_shown.specs.Pending.{KeepsFiles}

not_begun : (stage : Stage) → HasNotBegun stage → HasChanged stage → ⊥
not_begun Waiting a b = b
not_begun (Settled place) a b = b
not_begun (Changing u) a b = a
not_begun Bearing a b = b
not_begun (Decided number) a b = a

module _ (first : List (List ℕ)) (m : State) (reached : IsReached first m) (a : KeepsFiles m) (c : ℕ) (run : Run) (before : IsUnchanged m c run) where
  pub none_yet : (u : ℕ) → (m.changes u).by ≡ c → (m.changes u).verdict ≡ Undrawn
  none_yet = none_begun first m reached c run before.runs before.none (λ k. not_begun run.stage before.stage k.changed)

  here_known : (dir : Gfid) (name : List ℕ) (set : ℕ) (gfid : Gfid) (k : Kind) → m.kinds dir ≡ Some kind.Dir → SawName run.handed dir name set gfid k → IsKnownHere m dir name gfid k
  here_known dir name set gfid k made saw =
      let item_is : item_in (m.adopted set) dir name ≡ Some saw.item = ap (λ (items : List Item). item_named items name) (names_are first m reached a c run before.runs none_yet dir set saw.shown saw.saw).items ∙ saw.named in
      let at = name_here (volumes m) run.volume.sets set dir name saw.item (flat_run first m reached a c run before.runs) made item_is saw.is_object in
      record {
        item = saw.item;
        shown = at.shown;
        gfid_is = saw.gfid_is;
        kind_is = saw.kind_is;
        untouched = λ w was t.
            (let on = at.touched (op_of (m.changes w)) (fits_run first m reached a c run before.runs w was) t in
            nobody_on first m reached a c run before.runs none_yet dir set saw.shown saw.saw w was on.0 on.1);
        kept = record { kept = at.kept; stays = λ w was r. at.stays (op_of (m.changes w)) (fits_run first m reached a c run before.runs w was) r };
      }

  nowhere_known : (dir : Gfid) (name : List ℕ) → m.kinds dir ≡ Some kind.Dir → SawNowhere run.volume.sets run.handed dir name → IsKnownNowhere m dir name
  nowhere_known dir name made saw =
      let none = name_nowhere (volumes m) run.volume.sets dir name (flat_run first m reached a c run before.runs) made untaken in
      record {
        absent = none.absent;
        untouched = λ w other was t. off none w other was (inl t);
        stays = λ w was r. off none w name was (inr r);
      }
    where
      untaken : (set : ℕ) → set < run.volume.sets → is_taken (item_in (m.adopted set) dir name) ≡ false
      untaken set k =
          let s = saw set k in
          ap (λ (items : List Item). is_taken (item_named items name)) (names_are first m reached a c run before.runs none_yet dir set s.shown s.saw).items ∙ untaken_no (item_named s.shown.items name) s.none

      off : IsNowhere (volumes m) run.volume.sets dir name → (w : ℕ) (other : List ℕ) → (m.changes w).verdict ≡ Unsettled → Touches (m.changes w).op (m.changes w).effect dir other ⊎ Removes (m.changes w).op dir → ⊥
      off none w other was t =
          let need = none.needed (op_of (m.changes w)) other (fits_run first m reached a c run before.runs w was) t in
          let s = saw (m.changes w).set need.0 in
          nobody_on first m reached a c run before.runs none_yet dir (m.changes w).set s.shown s.saw w was refl need.1

pub calls_here : CallsKnowHere
calls_here first m reached a c run before dir name set gfid k made saw = here_known first m reached a c run before dir name set gfid k made saw

pub calls_nowhere : CallsKnowNowhere
calls_nowhere first m reached a c run before dir name made saw = nowhere_known first m reached a c run before dir name made saw
