-- A rename answers as the flat file system does, up to its first change.
use Rattle.std.proofs.Common.{◌≡◌, ◌∙◌, ℕ, ◌<◌, ◌≤◌, ◌==◌, true, false, List, [], Option, Some, None, IfSome, length, nat_eq, nat_lt, refl, ap, subst, arith}
use Rattle.std.proofs.lemmas.Bool.{and_parts}
use Rattle.std.specs.Cmp.Lexicographic.{pointwise}
use Rattle.std.specs.Ordering.{is_eq}
use Rattle.std.specs.Prelude.{slice_index_or}
use Rattle.dht_linkto.specs.Search.{hashed_set}
use Rattle.dht_linkto.specs.declared.found.Found.{Found}
use Rattle.dht_linkto.specs.declared.found.Found.TheVariants as found
use Rattle.dht_fops.proofs.AskFops.{second_below}
use Rattle.dht_fops.proofs.AskRenames.{file_by}
use Rattle.dht_laws.proofs.FlatGoing.{GoesFlat, IsOnName, io_goes, if_flat, looks_flat, named_flat}
use Rattle.dht_laws.proofs.FlatMoves.{changes_flat, Names, the_fop, rename_on, at_target, of_directory, SawOld, old_later, old_there, rename_flat, target_app, Old, source_of, IsOther, move_to_free, move_to_file, drop_file, first_fits}
use Rattle.dht_laws.proofs.FlatNames.{EndsFlat, found_app, absent_app}
use Rattle.dht_laws.proofs.FlatObjects.{made_file, made_directory, names_in_all, there_flat, gone_flat, name_checked, name_gone, name_long, name_in_file, dir_kind, names_at_is}
use Rattle.dht_fops.proofs.Handing.{Later}
use Rattle.dht_fops.proofs.Known.{hashed_below, known_below}
use Rattle.dht_fops.proofs.Looking.{Reading, IsFoundIn, looks_in_goes, finds_go}
use Rattle.dht_laws.proofs.ShownNames.{equal_by, same_name}
use Rattle.dht_fops.specs.Answers.{AnswersAsFlat, FitsFlat}
use Rattle.dht_fops.specs.Fops.{renames}
use Rattle.dht_fops.specs.Handed.{Handed, AnyHold}
use Rattle.dht_fops.specs.Renames.{other_set, target_found, target_ending, renames_file, source_found, second_set}
use Rattle.dht_fops.specs.Volumes.{Kept, known_set}
use Rattle.dht_laws.proofs.Arguments.{Renaming, Seen}
use Rattle.dht_fops.specs.declared.volume.Volume.{Volume}
use Rattle.fop_types.proofs.MapLemmas.{gfid_exact}
use Rattle.fop_types.specs.Cells.{names_cell}
use Rattle.fop_types.specs.Files.{Files, names_at}
use Rattle.fop_types.specs.Flat.{refused}
use Rattle.fop_types.specs.Flat.Outcome.{Answers}
use Rattle.fop_types.specs.Limits.{max_item_name}
use Rattle.fop_types.specs.Names.{item_named, is_directory, is_same_name}
use Rattle.fop_types.specs.Orders.{gfid_cmp}
use Rattle.fop_types.specs.StoreOps.{is_removed}
use Rattle.fop_types.specs.declared.answers.Answer.TheVariants as answer
use Rattle.fop_types.specs.declared.answers.AppError.TheVariants.{Enoent, Enotdir, Enametoolong, Eisdir, Eopnotsupp}
use Rattle.fop_types.specs.declared.answers.FopAnswer.TheVariants as fop_answer
use Rattle.fop_types.specs.declared.cells.Gfid.{Gfid}
use Rattle.fop_types.specs.declared.cells.Kind.{Kind}
use Rattle.fop_types.specs.declared.cells.Kind.TheVariants as kind
use Rattle.fop_types.specs.declared.contents.Item.{Item}
use Rattle.fop_types.specs.declared.flat.FlatAnswer.TheVariants as flat_answer
use Rattle.fop_types.specs.declared.fops.Fop.TheVariants as fop
use Rattle.fop_types.specs.declared.fops.Object.{Object}

-- ---- the look at the new name

target_reads : (n : ℕ) (r : Names n) (handed : Handed) → SawOld n r handed → is_directory r.target.kind ≡ true → nat_lt 255 (length r.new_name) ≡ false → Reading (FitsFlat n (the_fop n r)) AnyHold (AnswersAsFlat n (the_fop n r)) n handed r.target.gfid
target_reads n r handed o dir short = record {
  names = λ later set l i. tt;
  spans = λ later set l i. tt;
  fails = λ later error. io_goes n (the_fop n r) later error;
  removed = λ later set shown l i saw gone. target_app n r later Enoent (old_later n r handed later l o)
      (λ s a m still outcome is item. name_gone s n r.target.gfid r.new_name (outcome item) (made_directory s n r.target a m dir) short (gone_flat s n later r.target.gfid set shown a still saw gone));
}

is_directory_of : (files : Files) (parent : Gfid) (name : List ℕ) (target : Gfid) (new_name : List ℕ) (item other : Item) (k : Kind) → is_directory k ≡ true → other.kind ≡ k → item_named (names_at files target) new_name ≡ Some other
    → at_target files parent name target new_name item ≡ refused Eisdir
is_directory_of files parent name target new_name item other k d e named = rw (named, e, dir_kind k d) refl

target_ends : (n : ℕ) (v : Volume) (r : Names n) (handed : Handed) (old : Old) (names : List (List ℕ)) (hashed : ℕ) → SawOld n r handed → is_directory r.target.kind ≡ true → nat_lt 255 (length r.new_name) ≡ false → IsOther n r → 1 ≤ n
    → EndsFlat n (the_fop n r) handed r.target.gfid r.new_name (target_ending v (source_of n r old) r.target.gfid r.new_name names hashed)
target_ends n v r handed old names hashed o dir short other some = λ result seen later l f. by_found later result seen l f
  where
    to : Renaming
    to = record { source = source_of n r old; target = r.target.gfid; new_name = r.new_name; hashed = hashed; set_name = slice_index_or names old.set [] }

    by_found : (later : Handed) (result : Found) (seen : Seen) → Later handed later → IsFoundIn n later r.target.gfid r.new_name result → GoesFlat n (the_fop n r) later (target_found v to result seen)
    by_found later (found.Item set gfid k) seen l f =
        if_flat n (the_fop n r) later _ _ (is_directory k)
        (λ d. target_app n r later Eisdir (old_later n r handed later l o)
        (λ s a m still outcome is item.
        let there = there_flat s n later r.target.gfid r.new_name set gfid k a still f.0 f.1 in
        let inner = made_directory s n r.target a m dir in
        name_checked s n r.target.gfid r.new_name (outcome item) inner short there.kept
        ∙ is item ∙ is_directory_of s.files r.parent.gfid r.name r.target.gfid r.new_name item there.item k d there.kind_is (ap (λ (all : List Item). item_named all r.new_name) (names_at_is s n r.target.gfid inner) ∙ there.named)))
        (λ file. changes_flat n (the_fop n r) v to (other_set set old.set) seen.copy later
        (first_fits n r later to set (set == old.set) (move_to_file n r later set gfid k (old_later n r handed later l o) dir short other f.0 f.1 file) (drop_file n r later set gfid k dir short f.0 f.1 file)))
    by_found later found.Absent seen l f = changes_flat n (the_fop n r) v to None seen.copy later (move_to_free n r later (old_later n r handed later l o) dir short other some f)
    by_found later (found.Io error) seen l f = io_goes n (the_fop n r) later error

-- ---- a name that is renamed to itself

pub is_eq_equal : (a b : Gfid) → is_eq (gfid_cmp a b) ≡ true → a ≡ b
is_eq_equal a b e = gfid_exact a b (equal_by (gfid_cmp a b) e)

same_done : (n : ℕ) (r : Names n) (handed : Handed) → SawOld n r handed → is_directory r.target.kind ≡ true → nat_lt 255 (length r.new_name) ≡ false
    → is_same_name r.parent.gfid r.name r.target.gfid r.new_name ≡ true → AnswersAsFlat n (the_fop n r) handed (fop_answer.Call answer.Done) None
same_done n r handed o dir short same none s a m still =
    let there = old_there n r handed s a still o in
    let inner = made_directory s n r.target a m.1 dir in
    let parts = and_parts (is_eq (gfid_cmp r.parent.gfid r.target.gfid)) (pointwise nat_eq r.name r.new_name) same in
    let one = is_eq_equal r.parent.gfid r.target.gfid parts.0 in
    let names = same_name r.name r.new_name parts.1 in
    let kept = subst (λ (g : Gfid). is_removed (s.contents 0 (names_cell g)) ≡ false) one there.kept in
    let there_too : item_named (names_at s.files r.target.gfid) r.new_name ≡ Some there.item =
    ap (λ (all : List Item). item_named all r.new_name) (names_at_is s n r.target.gfid inner) ∙ subst (λ (g : Gfid). item_named (names_in_all s n g) r.new_name ≡ Some there.item) one (subst (λ (m : List ℕ). item_named (names_in_all s n r.parent.gfid) m ≡ Some there.item) names there.named) in
    rename_flat n r handed s a m.0 still o there
    ∙ name_checked s n r.target.gfid r.new_name (at_target s.files r.parent.gfid r.name r.target.gfid r.new_name there.item) inner short kept
    ∙ replaced there.item there_too there.kind_is
  where
    replaced : (item : Item) → item_named (names_at s.files r.target.gfid) r.new_name ≡ Some item → item.kind ≡ kind.File → at_target s.files r.parent.gfid r.name r.target.gfid r.new_name item ≡ Answers (flat_answer.Call answer.Done)
    replaced item named e = rw (named, e, same) refl

-- ---- the look at the old name

renames_file_flat : (n : ℕ) (v : Volume) (r : Names n) (handed : Handed) (old : Old) (names : List (List ℕ)) (second : Option ℕ) (place : ℕ) → length names ≡ n → 1 ≤ n
    → IfSome second (λ set. set < n) → SawOld n r handed → GoesFlat n (the_fop n r) handed (renames_file v (source_of n r old) r.target r.new_name names second place)
renames_file_flat n v r handed old names second place e some known o =
    if_flat n (the_fop n r) handed _ _ (is_directory r.target.kind)
    (λ dir. if_flat n (the_fop n r) handed _ _ (nat_lt max_item_name (length r.new_name))
    (λ long. target_app n r handed Enametoolong o (λ s a m still outcome is item. name_long s n r.target.gfid r.new_name (outcome item) (made_directory s n r.target a m dir) long))
    (λ short. if_flat n (the_fop n r) handed _ _ (is_same_name r.parent.gfid r.name r.target.gfid r.new_name)
    (λ same. same_done n r handed o dir short same)
    (λ other. finds_go (FitsFlat n (the_fop n r)) AnyHold (AnswersAsFlat n (the_fop n r)) n (length names) r.target.gfid second _ _ handed e (target_reads n r handed o dir short) known
    (λ set i. looks_in_goes (FitsFlat n (the_fop n r)) AnyHold (AnswersAsFlat n (the_fop n r)) n r.target.gfid r.new_name names old.set (target_ending v (source_of n r old) r.target.gfid r.new_name names) set handed e i (target_reads n r handed o dir short)
    (target_ends n v r handed old names set o dir short other some))
    (λ whole later w l. looks_in_goes (FitsFlat n (the_fop n r)) AnyHold (AnswersAsFlat n (the_fop n r)) n r.target.gfid r.new_name names old.set (target_ending v (source_of n r old) r.target.gfid r.new_name names) (hashed_set whole r.new_name) later e
    (hashed_below n whole r.new_name w some) (target_reads n r later (old_later n r handed later l o) dir short) (target_ends n v r later old names (hashed_set whole r.new_name) (old_later n r handed later l o) dir short other some)))))
    (λ file. target_app n r handed Enotdir o (λ s a m still outcome is item. name_in_file s r.target.gfid r.new_name (outcome item) (made_file s n r.target a m file)))

source_flat : (n : ℕ) (v : Volume) (r : Names n) (handed : Handed) (names : List (List ℕ)) (second : Option ℕ) (hashed : ℕ) → length names ≡ n → 1 ≤ n → IfSome second (λ set. set < n)
    → EndsFlat n (the_fop n r) handed r.parent.gfid r.name (source_found v r.parent.gfid r.name names r.target r.new_name second hashed)
source_flat n v r handed names second hashed e some known = λ result seen later l f. by_found later result seen f
  where
    by_found : (later : Handed) (result : Found) (seen : Seen) → IsFoundIn n later r.parent.gfid r.name result
        → GoesFlat n (the_fop n r) later (source_found v r.parent.gfid r.name names r.target r.new_name second hashed result seen)
    by_found later (found.Item set gfid k) seen f =
        if_flat n (the_fop n r) later _ _ (is_directory k)
        (λ d. found_app n (the_fop n r) r.parent r.name later set gfid k Eopnotsupp (rename_on r.parent r.name r.target r.new_name) r.dir r.short f.0 f.1 (λ files item q. of_directory files r.parent.gfid r.name r.target.gfid r.new_name item k d q))
        (λ file. let saw = file_by later r.parent.gfid r.name set gfid k f.1 file in
        renames_file_flat n v r later (record { hashed = hashed; has_link = seen.has_link; set = set; gfid = gfid }) names second seen.place e some known (record { set = set; within = f.0; gfid = saw.gfid; saw = saw.saw }))
    by_found later found.Absent seen f = absent_app n (the_fop n r) r.parent r.name later Enoent (rename_on r.parent r.name r.target r.new_name) r.dir r.short some f (λ files. refl)
    by_found later (found.Io error) seen f = io_goes n (the_fop n r) later error

pub renames_flat : (v : Volume) (names : List (List ℕ)) (kept : Kept) (parent : Object) (name : List ℕ) (target : Object) (new_name : List ℕ) → 1 ≤ v.root_sets → v.root_sets ≤ v.sets → length names ≡ v.sets
    → GoesFlat v.sets (fop.Rename parent name target new_name) [] (renames v names kept parent name target new_name)
renames_flat v names kept parent name target new_name some within e =
    named_flat v.sets (fop.Rename parent name target new_name) parent name _ on
    (λ dir short. finds_go (FitsFlat v.sets (fop.Rename parent name target new_name)) AnyHold (AnswersAsFlat v.sets (fop.Rename parent name target new_name)) v.sets (length names) parent.gfid (known_set v kept parent.gfid name) _ _ [] e (reads dir short []) (known_below v kept parent.gfid name some within)
    (λ set i. looks_in_goes (FitsFlat v.sets (fop.Rename parent name target new_name)) AnyHold (AnswersAsFlat v.sets (fop.Rename parent name target new_name)) v.sets parent.gfid name names 0 (source_found v parent.gfid name names target new_name (known_set v kept target.gfid new_name)) set [] e i (reads dir short [])
    (source_flat v.sets v (all dir short) [] names (known_set v kept target.gfid new_name) set e (omega arith) (known_below v kept target.gfid new_name some within)))
    (λ whole later w l. looks_in_goes (FitsFlat v.sets (fop.Rename parent name target new_name)) AnyHold (AnswersAsFlat v.sets (fop.Rename parent name target new_name)) v.sets parent.gfid name names 0 (source_found v parent.gfid name names target new_name (second_set parent.gfid target.gfid new_name (known_set v kept target.gfid new_name) whole)) (hashed_set whole name) later e (hashed_below v.sets whole name w (omega arith)) (reads dir short later)
    (source_flat v.sets v (all dir short) later names (second_set parent.gfid target.gfid new_name (known_set v kept target.gfid new_name) whole) (hashed_set whole name) e (omega arith)
    (second_below v.sets parent.gfid target.gfid new_name (known_set v kept target.gfid new_name) whole (omega arith) w (known_below v kept target.gfid new_name some within)))))
  where
    on : IsOnName (fop.Rename parent name target new_name) parent name
    on = (rename_on parent name target new_name).on

    reads : is_directory parent.kind ≡ true → nat_lt max_item_name (length name) ≡ false → (handed : Handed) → Reading (FitsFlat v.sets (fop.Rename parent name target new_name)) AnyHold (AnswersAsFlat v.sets (fop.Rename parent name target new_name)) v.sets handed parent.gfid
    reads dir short handed = looks_flat v.sets (fop.Rename parent name target new_name) parent name handed on dir short

    all : is_directory parent.kind ≡ true → nat_lt max_item_name (length name) ≡ false → Names v.sets
    all dir short = record { parent = parent; name = name; target = target; new_name = new_name; dir = dir; short = short }
