-- Changes that rest on names that were read: by later events, too; one entry, and those so far.
use Rattle.std.proofs.Common.{◌≡◌, refl, sym, ap, subst, ◌∙◌, arith}
use Rattle.std.specs.Prelude.{ℕ, ◌≤◌, ◌+◌, List, [], ◌∷◌, ◌++◌, Option, None, Some, get_or, length, slice_get, IfSome}
use Rattle.std.proofs.lemmas.List.{length_push}
use Rattle.std.proofs.lemmas.Option.{slice_get_within, slice_get-get_or}
use Rattle.fop_types.specs.Calls.{Submission, call_numbered, looked_up}
use Rattle.fop_types.specs.declared.calls.Call.{Call}
use Rattle.fop_types.specs.declared.cells.Gfid.{Gfid}
use Rattle.fop_types.specs.declared.flat.FlatOp.{FlatOp}
use Rattle.fop_types.specs.declared.flat.FlatOp.TheVariants as flat
use Rattle.fop_types.specs.declared.fops.Object.{Object}
use Rattle.fop_types.specs.declared.history.Entry.{Entry}
use Rattle.graph_build.specs.declared.plans.Plan.{Plan}
use Rattle.script_lang.specs.declared.scripts.Script.{Script}
use Rattle.brick_machine.specs.Journal.{Journal}
use Rattle.mount_log.proofs.Items.{some_is}
use Rattle.mount_log.specs.Submissions.{submissions_of}
use Rattle.mount_log.specs.declared.logs.Log.{Log}
use Rattle.mount_log.proofs.Lists.{each_push}
use Rattle.change_audit.proofs.Marking.{mark_first, none_well}
use Rattle.change_audit.specs.Acknowledged.{mark_of, AreMarked}
use Rattle.change_audit.specs.Claims.{KeepClaims}
use Rattle.call_fops.specs.Walks.{second_path, root_object}
use Rattle.dht_fops.specs.Objects.{home}
use Rattle.read_audit.proofs.Apart.{one_entry}
use Rattle.read_audit.proofs.Later.{step_later, leads_later, reaches_later, nowhere_later}
use Rattle.read_audit.specs.Names.{IsStep, LeadsTo}
use Rattle.read_audit.specs.Taken.{worked_on, changed_by, moved_into, path_for, Reaches, IsNameTaken, IsTaken, IsAtHome, IsFreed, HasRoom, RestsOnNames, EntriesRestOnNames}
use Rattle.read_audit.specs.Taken.IsFreed.{Unlinked, Replaced, Unused}
use Rattle.read_audit.specs.Taking.{key_of, IsSetClaimed, RestsForCall, RestsInTime, EntryRests, FirstRest}
use Rattle.read_audit.specs.declared.operations.TakenFrom.{TakenFrom}

module _ (script : Script) (plans : List Plan) (log : Log) (bricks : List Journal) where
  -- ---- what was read by an event was read by each later one

  module _ (call number later : ℕ) (le : number ≤ later) where
    name_later : (dir : Gfid) (name : List ℕ) (from : Option ℕ) → IsNameTaken script plans log bricks call number dir name from → IsNameTaken script plans log bricks call later dir name from
    name_later dir name from taken = record { object = taken.object; read = step_later script plans log bricks call number later le dir name taken.object taken.read; from_is = taken.from_is }

    taken_later : (operation : FlatOp) (from : Option ℕ) → IsTaken script plans log bricks call number operation from → IsTaken script plans log bricks call later operation from
    taken_later (flat.Rmdir parent name) from taken = name_later parent name from taken
    taken_later (flat.Unlink parent name) from taken = name_later parent name from taken
    taken_later (flat.Rename parent name target new_name) from taken = name_later parent name from taken
    taken_later (flat.Lookup parent name) from taken = tt
    taken_later (flat.Mkdir parent name mode drawn) from taken = tt
    taken_later (flat.Create parent name mode drawn) from taken = tt
    taken_later (flat.Open gfid) from taken = tt
    taken_later (flat.Stat gfid) from taken = tt
    taken_later (flat.List gfid) from taken = tt
    taken_later (flat.Chmod gfid mode) from taken = tt
    taken_later (flat.Truncate gfid size) from taken = tt
    taken_later (flat.SetAttr gfid attr) from taken = tt
    taken_later (flat.GetAttr gfid name) from taken = tt
    taken_later (flat.DelAttr gfid name) from taken = tt
    taken_later (flat.Read gfid offset count) from taken = tt
    taken_later (flat.Write gfid offset bytes) from taken = tt

    home_later : (path : List (List ℕ)) (from : Option ℕ) (to : Option Gfid) → IfSome to (IsAtHome script plans log bricks call number path from) → IfSome to (IsAtHome script plans log bricks call later path from)
    home_later path from None is = tt
    home_later path from (Some gfid) is = record { object = is.object; leads = leads_later script plans log bricks call number later le path _ is.object is.leads; is = is.is }

    freed_later : (ops : List FlatOp) (from : Option ℕ) (dir : Gfid) (name : List ℕ) → IsFreed script plans log bricks ops call number from dir name → IsFreed script plans log bricks ops call later from dir name
    freed_later ops from dir name (Unlinked is) = Unlinked is
    freed_later ops from dir name (Replaced is) = Replaced (name_later dir name from is)
    freed_later ops from dir name (Unused is) = Unused (nowhere_later script plans log bricks call number later le dir name is)

    room_later : (ops : List FlatOp) (operation : FlatOp) (from : Option ℕ) → HasRoom script plans log bricks ops call number operation from → HasRoom script plans log bricks ops call later operation from
    room_later ops (flat.Rename parent name target new_name) from is = freed_later ops from target new_name is
    room_later ops (flat.Rmdir parent name) from is = tt
    room_later ops (flat.Unlink parent name) from is = tt
    room_later ops (flat.Lookup parent name) from is = tt
    room_later ops (flat.Mkdir parent name mode drawn) from is = tt
    room_later ops (flat.Create parent name mode drawn) from is = tt
    room_later ops (flat.Open gfid) from is = tt
    room_later ops (flat.Stat gfid) from is = tt
    room_later ops (flat.List gfid) from is = tt
    room_later ops (flat.Chmod gfid mode) from is = tt
    room_later ops (flat.Truncate gfid size) from is = tt
    room_later ops (flat.SetAttr gfid attr) from is = tt
    room_later ops (flat.GetAttr gfid name) from is = tt
    room_later ops (flat.DelAttr gfid name) from is = tt
    room_later ops (flat.Read gfid offset count) from is = tt
    room_later ops (flat.Write gfid offset bytes) from is = tt

    rests_later : (ops : List FlatOp) (c : Call) (operation : FlatOp) (from : Option ℕ) → RestsOnNames script plans log bricks ops call number c operation from → RestsOnNames script plans log bricks ops call later c operation from
    rests_later ops c operation from rests = record {
      works = reaches_later script plans log bricks call number later le (path_for c operation) (worked_on operation) rests.works;
      moves = reaches_later script plans log bricks call number later le (second_path (looked_up c)) (moved_into operation) rests.moves;
      takes = taken_later operation from rests.takes;
      changes = home_later (path_for c operation) from (changed_by operation) rests.changes;
      room = room_later ops operation from rests.room;
    }

  -- ---- one operation

  -- one that changes an object makes, drops and moves no name
  changes_alone : (ops : List FlatOp) (call number : ℕ) (operation : FlatOp) (gfid : Gfid) (from : Option ℕ) → changed_by operation ≡ Some gfid
      → (worked_on operation ≡ Some gfid) × (moved_into operation ≡ None) × IsTaken script plans log bricks call number operation from × HasRoom script plans log bricks ops call number operation from
  changes_alone ops call number (flat.Chmod g mode) gfid from is = (is, refl, tt, tt)
  changes_alone ops call number (flat.Truncate g size) gfid from is = (is, refl, tt, tt)
  changes_alone ops call number (flat.SetAttr g attr) gfid from is = (is, refl, tt, tt)
  changes_alone ops call number (flat.DelAttr g name) gfid from is = (is, refl, tt, tt)
  changes_alone ops call number (flat.Rmdir parent name) gfid from is = absurd cc
  changes_alone ops call number (flat.Unlink parent name) gfid from is = absurd cc
  changes_alone ops call number (flat.Rename parent name target new_name) gfid from is = absurd cc
  changes_alone ops call number (flat.Lookup parent name) gfid from is = absurd cc
  changes_alone ops call number (flat.Mkdir parent name mode drawn) gfid from is = absurd cc
  changes_alone ops call number (flat.Create parent name mode drawn) gfid from is = absurd cc
  changes_alone ops call number (flat.Open g) gfid from is = absurd cc
  changes_alone ops call number (flat.Stat g) gfid from is = absurd cc
  changes_alone ops call number (flat.List g) gfid from is = absurd cc
  changes_alone ops call number (flat.GetAttr g name) gfid from is = absurd cc
  changes_alone ops call number (flat.Read g offset count) gfid from is = absurd cc
  changes_alone ops call number (flat.Write g offset bytes) gfid from is = absurd cc

  pub object_is : (ops : List FlatOp) (call number : ℕ) (c : Call) (operation : FlatOp) (gfid : Gfid) (path : List (List ℕ)) (found : Option Object) (object : Object) (set : ℕ) → changed_by operation ≡ Some gfid → path ≡ path_for c operation
      → found ≡ Some object → IfSome found (λ o. LeadsTo script plans log bricks call number path root_object o) → object.gfid ≡ gfid → set ≡ home object → RestsOnNames script plans log bricks ops call number c operation (Some set)
  object_is ops call number c operation gfid path found object set changed path_is is leads same set_is = record {
    works = subst (λ (o : Option Gfid). Reaches script plans log bricks call number (path_for c operation) o) (sym alone.0) (record { object = object; leads = own; is = same });
    moves = subst (λ (o : Option Gfid). Reaches script plans log bricks call number (second_path (looked_up c)) o) (sym alone.1) tt;
    takes = alone.2;
    changes = subst (λ (o : Option Gfid). IfSome o (IsAtHome script plans log bricks call number (path_for c operation) (Some set))) (sym changed) (record { object = object; leads = own; is = (same, ap Some set_is) });
    room = alone.3;
  } where
    own : LeadsTo script plans log bricks call number (path_for c operation) root_object object
    own =
        subst (λ (p : List (List ℕ)). LeadsTo script plans log bricks call number p root_object object) path_is
        (subst (λ (f : Option Object). IfSome f (λ o. LeadsTo script plans log bricks call number path root_object o)) is leads)

    alone : (worked_on operation ≡ Some gfid) × (moved_into operation ≡ None) × IsTaken script plans log bricks call number operation (Some set) × HasRoom script plans log bricks ops call number operation (Some set)
    alone = changes_alone ops call number operation gfid (Some set) changed

  pub names_are : (ops : List FlatOp) (call number : ℕ) (c : Call) (operation : FlatOp) (found : Option TakenFrom) (from : TakenFrom) → changed_by operation ≡ None
      → Reaches script plans log bricks call number (path_for c operation) (worked_on operation) → Reaches script plans log bricks call number (second_path (looked_up c)) (moved_into operation)
      → found ≡ Some from → IfSome found (λ f. IsTaken script plans log bricks call number operation f.set) → HasRoom script plans log bricks ops call number operation from.set
      → RestsOnNames script plans log bricks ops call number c operation from.set
  names_are ops call number c operation found from unchanged works moves is takes room = record {
    works = works;
    moves = moves;
    takes = subst (λ (f : Option TakenFrom). IfSome f (λ x. IsTaken script plans log bricks call number operation x.set)) is takes;
    changes = subst (λ (o : Option Gfid). IfSome o (IsAtHome script plans log bricks call number (path_for c operation) from.set)) (sym unchanged) tt;
    room = room;
  }

  -- ---- what an operation names

  pub reaches_by : (call number : ℕ) (path own : List (List ℕ)) (to object : Option Gfid) → path ≡ own → to ≡ object → Reaches script plans log bricks call number path to → Reaches script plans log bricks call number own object
  reaches_by call number path own to object path_is to_is reaches =
      subst (λ (o : Option Gfid). Reaches script plans log bricks call number own o) to_is (subst (λ (p : List (List ℕ)). Reaches script plans log bricks call number p to) path_is reaches)

  pub name_is : (call number : ℕ) (dir : Gfid) (name : List ℕ) (found : Option Object) (object : Object) → found ≡ Some object → IfSome found (λ to. IsStep script plans log bricks call number dir name to)
      → IsNameTaken script plans log bricks call number dir name (Some object.set)
  name_is call number dir name found object is step = record {
    object = object;
    read = subst (λ (f : Option Object). IfSome f (λ to. IsStep script plans log bricks call number dir name to)) is step;
    from_is = refl;
  }

  pub name_on : (call number : ℕ) (dir : Gfid) (name : List ℕ) (found : Option Object) (object : Object) (set : ℕ) → found ≡ Some object → IfSome found (λ to. IsStep script plans log bricks call number dir name to) → object.set ≡ set
      → IsNameTaken script plans log bricks call number dir name (Some set)
  name_on call number dir name found object set is step same = subst (λ (s : ℕ). IsNameTaken script plans log bricks call number dir name (Some s)) same (name_is call number dir name found object is step)

  -- ---- one entry

  pub rests_for : (ops : List FlatOp) (calls : List Submission) (call number : ℕ) (made : Submission) (operation : FlatOp) (found : Option ℕ) → calls ≡ submissions_of script log → Some made ≡ call_numbered calls call
      → RestsOnNames script plans log bricks ops call number made.call operation found → RestsForCall script plans log bricks ops call number operation found
  rests_for ops calls call number made operation found are asked rests other is =
      subst (λ (s : Submission). RestsOnNames script plans log bricks ops call number s.call operation found)
      (some_is made other (asked ∙ ap (λ (l : List Submission). call_numbered l call) are ∙ is)) rests

  pub not_due : (ops : List FlatOp) (marks : List (Option ℕ)) (call : ℕ) (operation : FlatOp) (from : Option ℕ) → AreMarked log.replies marks → mark_of marks call ≡ None → RestsInTime script plans log bricks ops call operation from
  not_due ops marks call operation from are none number well = absurd (none_well log marks call number are none well)

  pub in_time : (ops : List FlatOp) (marks : List (Option ℕ)) (call mark : ℕ) (operation : FlatOp) (from : Option ℕ) → AreMarked log.replies marks → mark_of marks call ≡ Some mark
      → RestsForCall script plans log bricks ops call mark operation from → RestsInTime script plans log bricks ops call operation from
  in_time ops marks call mark operation from are there rests number well made is =
      rests_later call mark number (mark_first log marks call mark number are there well) ops made.call operation from (rests made is)

  pub entry_is : (ops : List FlatOp) (k : ℕ) (entry : Entry) (operation : FlatOp) (from : Option ℕ) → Some entry ≡ slice_get log.history k → Some operation ≡ slice_get ops k
      → RestsInTime script plans log bricks ops entry.call operation from → EntryRests script plans log bricks ops k from
  entry_is ops k entry operation from here op_here rests other made there op_there =
      subst (λ (e : Entry). RestsInTime script plans log bricks ops e.call made from) (some_is entry other (here ∙ there))
      (subst (λ (o : FlatOp). RestsInTime script plans log bricks ops entry.call o from) (some_is operation made (op_here ∙ op_there)) rests)

  -- ---- the entries before a place

  pub none_rest : (ops : List FlatOp) (claims : List (ℕ × ℕ)) (sets : List (Option ℕ)) → sets ≡ [] → FirstRest script plans log bricks ops claims 0 sets
  none_rest ops claims sets none = subst (λ (l : List (Option ℕ)). FirstRest script plans log bricks ops claims 0 l) (sym none) (record { long = refl; each = λ k set there. absurd cc; own = λ k set there. absurd cc })

  pub rest_next : (ops : List FlatOp) (before after : List (ℕ × ℕ)) (n : ℕ) (sets more : List (Option ℕ)) (found : Option TakenFrom) (from : TakenFrom) → KeepClaims before after → more ≡ sets ++ from.set ∷ [] → found ≡ Some from
      → IfSome found (λ f. EntryRests script plans log bricks ops n f.set) → IfSome found (λ f. IsSetClaimed log after n f.set) → FirstRest script plans log bricks ops before n sets → FirstRest script plans log bricks ops after (n + 1) more
  rest_next ops before after n sets more found from keep is there rests claimed so_far = record {
    long = ap length is ∙ length_push sets from.set ∙ ap (λ (m : ℕ). m + 1) so_far.long;
    each =
        subst (λ (l : List (Option ℕ)). (k : ℕ) (s : Option ℕ) → slice_get l k ≡ Some s → EntryRests script plans log bricks ops k s) (sym is)
        (each_push (λ (k : ℕ) (s : Option ℕ). EntryRests script plans log bricks ops k s) sets from.set own_rests so_far.each);
    own =
        subst (λ (l : List (Option ℕ)). (k : ℕ) (s : Option ℕ) → slice_get l k ≡ Some s → IsSetClaimed log after k s) (sym is)
        (each_push (λ (k : ℕ) (s : Option ℕ). IsSetClaimed log after k s) sets from.set own_set (λ k s at entry one here one_is. keep (key_of entry.call one) k (so_far.own k s at entry one here one_is)));
  } where
    own_rests : EntryRests script plans log bricks ops (length sets) from.set
    own_rests =
        subst (λ (m : ℕ). EntryRests script plans log bricks ops m from.set) (sym so_far.long)
        (subst (λ (f : Option TakenFrom). IfSome f (λ x. EntryRests script plans log bricks ops n x.set)) there rests)

    own_set : IsSetClaimed log after (length sets) from.set
    own_set =
        subst (λ (m : ℕ). IsSetClaimed log after m from.set) (sym so_far.long)
        (subst (λ (f : Option TakenFrom). IfSome f (λ x. IsSetClaimed log after n x.set)) there claimed)

  -- an entry's set is among those that were found
  set_there : (n k : ℕ) (sets : List (Option ℕ)) (entry : Entry) → length log.history ≤ n → length sets ≡ n → slice_get log.history k ≡ Some entry → slice_get sets k ≡ Some (get_or sets k None)
  set_there n k sets entry le long there = let lt = slice_get_within log.history k entry there in slice_get-get_or sets k None (omega (arith, lt, le, long))

  pub all_rest : (ops : List FlatOp) (claims : List (ℕ × ℕ)) (n : ℕ) (sets all : List (Option ℕ)) → length log.history ≤ n → all ≡ sets → FirstRest script plans log bricks ops claims n sets → EntriesRestOnNames script plans log bricks ops all
  all_rest ops claims n sets all le is rest =
      subst (λ (l : List (Option ℕ)). EntriesRestOnNames script plans log bricks ops l) (sym is) (record {
        each = λ k number entry operation made there op_there asked well. rest.each k (get_or sets k None) (set_there n k sets entry le rest.long there) entry operation there op_there number well made asked;
        apart = λ j k set one other first second same first_set second_set.
            one_entry claims j k set one other same (rest.own j (get_or sets j None) (set_there n j sets one le rest.long first) one set first first_set)
            (rest.own k (get_or sets k None) (set_there n k sets other le rest.long second) other set second second_set);
      })
