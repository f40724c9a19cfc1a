-- Every fop answers as the flat file system does.
use Rattle.std.proofs.Common.{◌≡◌, ◌∙◌, ℕ, ◌+◌, ◌-◌, ◌≤◌, true, false, List, [], ◌∷◌, Option, Some, None, refl, ap, sym, subst, arith}
use Rattle.std.specs.List.{range_with_len}
use Rattle.dht_linkto.specs.declared.names.DirNames.{DirNames}
use Rattle.dht_laws.proofs.FlatFiles.{opens_flat, stats_flat, gets_flat, dels_flat, reads_flat, truncates_flat, writes_flat, object_made, mode_fits, attr_fits}
use Rattle.dht_laws.proofs.FlatGoing.{GoesFlat, names_flat, change_flat, if_flat, on_name_flat}
use Rattle.dht_laws.proofs.FlatNames.{lookup_on, lookup_flat, mkdir_on, mkdir_flat, create_on, create_flat, unlink_on, unlink_flat}
use Rattle.dht_laws.proofs.FlatObjects.{IsFile, IsDirectory, made_file, made_directory, names_in_all, saw_agrees, gone_flat}
use Rattle.dht_laws.proofs.FlatRenames.{renames_flat}
use Rattle.dht_laws.proofs.FlatRmdir.{rmdir_on, rmdir_flat}
use Rattle.dht_fops.specs.Answers.{AnswersAsFlat, FopsAnswerAsFlat}
use Rattle.dht_fops.proofs.Sets.{sets_step}
use Rattle.dht_fops.specs.Entries.{lists_from}
use Rattle.dht_fops.specs.Fops.{lists}
use Rattle.dht_fops.specs.Handed.{Handed, Saw}
use Rattle.dht_fops.specs.Handed.Event.{Replied}
use Rattle.dht_fops.specs.Internal.{opens_again, heals, indexes, with_cells, cells_in}
use Rattle.dht_fops.specs.Merges.{merged, real_items}
use Rattle.dht_fops.specs.Objects.{home}
use Rattle.dht_fops.specs.Shown.{names_over}
use Rattle.dht_fops.specs.Standing.{Volumes, AreSound, StillShown}
use Rattle.dht_fops.specs.Volumes.{sets_from}
use Rattle.dht_fops.specs.declared.volume.Volume.{Volume}
use Rattle.fop_types.specs.Cells.{names_cell}
use Rattle.fop_types.specs.Flat.{flat, refused}
use Rattle.fop_types.specs.Flat.Outcome.{Answers}
use Rattle.fop_types.specs.Names.{is_directory}
use Rattle.fop_types.specs.StoreOps.{is_removed}
use Rattle.fop_types.specs.declared.answers.Answer.TheVariants as answer
use Rattle.fop_types.specs.declared.answers.AppError.TheVariants.{Enoent, Enotdir}
use Rattle.fop_types.specs.declared.answers.FopAnswer.TheVariants as fop_answer
use Rattle.fop_types.specs.declared.cells.Cell.{Cell}
use Rattle.fop_types.specs.declared.contents.Item.{Item}
use Rattle.fop_types.specs.declared.flat.FlatAnswer.TheVariants as flat_answer
use Rattle.fop_types.specs.declared.flat.FlatOp.TheVariants as op
use Rattle.fop_types.specs.declared.fops.Fop.TheVariants as fop
use Rattle.fop_types.specs.declared.fops.Object.{Object}
use Rattle.fop_types.specs.declared.fops.OpenFd.{OpenFd}
use Rattle.fop_types.specs.declared.jobs.Job.TheVariants as job

-- ---- list

-- the names so far and those that are still to be read are all names; the first set shows that the directory was not removed
pub record HasListed (n : ℕ) (object : Object) (sets : List ℕ) (names : List Item) (handed : Handed) : Type 0 where
  pub all : (s : Volumes) → AreSound s n → StillShown s.contents handed → names_over s.contents object.gfid sets names ≡ names_in_all s n object.gfid
  pub kept : (s : Volumes) → AreSound s n → StillShown s.contents handed → is_removed (s.contents 0 (names_cell object.gfid)) ≡ false

list_gone : (s : Volumes) (n : ℕ) (object : Object) → IsDirectory s n object.gfid → is_removed (s.contents 0 (names_cell object.gfid)) ≡ true → flat s.files (op.List object.gfid) ≡ refused Enoent
list_gone s n object d e = rw (d.object_is, e) refl

list_all_names : (s : Volumes) (n : ℕ) (object : Object) → IsDirectory s n object.gfid → is_removed (s.contents 0 (names_cell object.gfid)) ≡ false → flat s.files (op.List object.gfid) ≡ Answers (flat_answer.Call (answer.List (names_in_all s n object.gfid)))
list_all_names s n object d e = rw (d.object_is, e) refl

-- a set that showed the directory removed
gone_says : (n : ℕ) (object : Object) (handed : Handed) (set : ℕ) (shown : DirNames) → is_directory object.kind ≡ true → Saw handed object.gfid set shown → shown.removed ≡ true
    → AnswersAsFlat n (fop.List object) handed (fop_answer.Call (answer.App Enoent)) None
gone_says n object handed set shown dir saw gone none s a m still = list_gone s n object (made_directory s n object a m dir) (gone_flat s n handed object.gfid set shown a still saw gone)

-- one more set
listed_more : (n : ℕ) (object : Object) (set : ℕ) (sets : List ℕ) (names : List Item) (before later : Handed) (shown : DirNames) → ((s : Volumes) → StillShown s.contents later → StillShown s.contents before) → Saw later object.gfid set shown
    → ((s : Volumes) → AreSound s n → StillShown s.contents before → names_over s.contents object.gfid (set ∷ sets) names ≡ names_in_all s n object.gfid)
    → (s : Volumes) → AreSound s n → StillShown s.contents later → names_over s.contents object.gfid sets (merged names (real_items shown.items)) ≡ names_in_all s n object.gfid
listed_more n object set sets names before later shown l saw all s a still =
    let agrees = saw_agrees s later object.gfid set shown saw still in
    ap (λ (items : List Item). names_over s.contents object.gfid sets (merged names (real_items items))) agrees.items ∙ all s a (l s still)

lists_go : (n : ℕ) (object : Object) (sets : List ℕ) (names : List Item) (place : Option ℕ) (handed : Handed) → is_directory object.kind ≡ true → HasListed n object sets names handed
    → GoesFlat n (fop.List object) handed (lists_from object.gfid sets names place)
lists_go n object [] names place handed dir h =
    λ none s a m still. list_all_names s n object (made_directory s n object a m dir) (h.kept s a still) ∙ ap (λ (items : List Item). Answers (flat_answer.Call (answer.List items))) (sym (h.all s a still))
lists_go n object (set ∷ sets) names place handed dir h =
    names_flat n (fop.List object) handed set object.gfid _
    (λ later shown l saw. if_flat n (fop.List object) later _ _ shown.removed
    (λ gone. gone_says n object later set shown dir saw gone)
    (λ kept. lists_go n object sets (merged names (real_items shown.items)) (Some shown.place) later dir
    (record {
      all = listed_more n object set sets names handed later shown (λ s still. l.still s.contents still) saw h.all;
      kept = λ s a still. h.kept s a (l.still s.contents still);
    })))

lists_flat : (v : Volume) (object : Object) → 1 ≤ v.sets → GoesFlat v.sets (fop.List object) [] (lists v object)
lists_flat v object some =
    if_flat v.sets (fop.List object) [] _ _ (is_directory object.kind)
    (λ dir. subst (λ (sets : List ℕ). GoesFlat v.sets (fop.List object) [] (lists_from object.gfid sets [] None)) (sym (sets_step 0 v.sets some)) (first dir))
    (λ file none s a m still. of_file s (made_file s v.sets object a m file))
  where
    all_sets : v.sets - 0 ≡ v.sets
    all_sets = omega arith

    of_file : (s : Volumes) → IsFile s object.gfid → flat s.files (op.List object.gfid) ≡ refused Enotdir
    of_file s f = rw f.object_is refl

    first : is_directory object.kind ≡ true → GoesFlat v.sets (fop.List object) [] (lists_from object.gfid (0 ∷ range_with_len (0 + 1) (v.sets - (0 + 1))) [] None)
    first dir =
        names_flat v.sets (fop.List object) [] 0 object.gfid _
        (λ later shown l saw. if_flat v.sets (fop.List object) later _ _ shown.removed
        (λ gone. gone_says v.sets object later 0 shown dir saw gone)
        (λ kept. lists_go v.sets object (range_with_len (0 + 1) (v.sets - (0 + 1))) (merged [] (real_items shown.items)) (Some shown.place) later dir
        (record {
          all = listed_more v.sets object 0 (range_with_len (0 + 1) (v.sets - (0 + 1))) [] [] later shown (λ s still. tt) saw
              (λ s a still. ap (λ (sets : List ℕ). names_over s.contents object.gfid sets []) (sym (sets_step 0 v.sets some)) ∙ ap (λ (count : ℕ). names_over s.contents object.gfid (range_with_len 0 count) []) all_sets);
          kept = λ s a still. sym (saw_agrees s later object.gfid 0 shown saw still).removed ∙ kept;
        })))

-- ---- fops of the mount itself

opens_again_flat : (n : ℕ) (all fds : List OpenFd) (handed : Handed) → GoesFlat n (fop.Migrate all) handed (opens_again fds)
opens_again_flat n all [] handed = λ none s a m still. tt
opens_again_flat n all (one ∷ fds) handed = (tt, λ reply. opens_again_flat n all fds (Replied one.set (job.Open one.fd one.gfid) reply ∷ handed))

heals_flat : (n count : ℕ) (cells : List (ℕ × Cell)) (handed : Handed) → GoesFlat n (fop.Heal count) handed (heals cells)
heals_flat n count [] handed = λ none s a m still. tt
heals_flat n count (one ∷ cells) handed = (tt, λ reply. heals_flat n count cells (Replied one.0 (job.Heal one.1) reply ∷ handed))

indexes_flat : (n count : ℕ) (sets : List ℕ) (cells : List (ℕ × Cell)) (handed : Handed) → GoesFlat n (fop.Heal count) handed (indexes count sets cells)
indexes_flat n count [] cells handed = heals_flat n count cells handed
indexes_flat n count (set ∷ sets) cells handed = (tt, λ reply. indexes_flat n count sets (with_cells cells count set (cells_in reply)) (Replied set job.Index reply ∷ handed))

-- ---- all

pub answers_as_flat : FopsAnswerAsFlat
answers_as_flat v names kept (fop.Lookup parent name) some within e on = on_name_flat v (fop.Lookup parent name) names kept parent name _ some within e (lookup_on parent name).on (λ dir short hashed handed h. lookup_flat v.sets parent name handed (omega arith) dir short)
answers_as_flat v names kept (fop.Mkdir parent name mode drawn) some within e on =
    on_name_flat v (fop.Mkdir parent name mode drawn) names kept parent name _ some within e (mkdir_on parent name mode drawn).on (λ dir short hashed handed h. mkdir_flat v parent name mode drawn handed (omega arith) dir short)
answers_as_flat v names kept (fop.Rmdir parent name) some within e on =
    on_name_flat v (fop.Rmdir parent name) names kept parent name _ some within e (rmdir_on parent name).on (λ dir short hashed handed h. rmdir_flat v parent name handed (omega arith) dir short)
answers_as_flat v names kept (fop.Create fd parent name mode drawn) some within e on =
    on_name_flat v (fop.Create fd parent name mode drawn) names kept parent name _ some within e (create_on fd parent name mode drawn).on (λ dir short hashed handed h. create_flat v fd parent name mode drawn hashed handed (omega arith) dir short)
answers_as_flat v names kept (fop.Unlink parent name) some within e on =
    on_name_flat v (fop.Unlink parent name) names kept parent name _ some within e (unlink_on parent name).on (λ dir short hashed handed h. unlink_flat v parent name hashed handed (omega arith) dir short)
answers_as_flat v names kept (fop.Rename parent name target new_name) some within e on = renames_flat v names kept parent name target new_name some within e
answers_as_flat v names kept (fop.Open fd object) some within e on = opens_flat v.sets object fd
answers_as_flat v names kept (fop.Stat object) some within e on = stats_flat v.sets object
answers_as_flat v names kept (fop.List object) some within e on = lists_flat v object (omega arith)
answers_as_flat v names kept (fop.Chmod object mode) some within e on = change_flat v.sets (fop.Chmod object mode) [] (home object) _ 0 _ _ _ (λ s a m still. mode_fits s object mode (object_made s v.sets object a m (is_directory object.kind) refl))
answers_as_flat v names kept (fop.Truncate object size) some within e on = truncates_flat v object size
answers_as_flat v names kept (fop.SetAttr object attr) some within e on = change_flat v.sets (fop.SetAttr object attr) [] (home object) _ 0 _ _ _ (λ s a m still. attr_fits s object attr (object_made s v.sets object a m (is_directory object.kind) refl))
answers_as_flat v names kept (fop.GetAttr object name) some within e on = gets_flat v.sets object name
answers_as_flat v names kept (fop.DelAttr object name) some within e on = dels_flat v object name
answers_as_flat v names kept (fop.Read fd object offset count) some within e on = reads_flat v.sets object fd offset count
answers_as_flat v names kept (fop.Write fd object offset bytes) some within e on = writes_flat v object fd offset bytes
answers_as_flat v names kept (fop.Migrate fds) some within e on = opens_again_flat v.sets fds fds []
answers_as_flat v names kept (fop.Heal count) some within e on = indexes_flat v.sets count (sets_from v 0) [] []
