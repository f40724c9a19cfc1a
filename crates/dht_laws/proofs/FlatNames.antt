-- The fops on a name of a directory answer as the flat file system does.
use Rattle.std.proofs.Common.{◌≡◌, ◌∙◌, ℕ, ◌<◌, ◌≤◌, true, false, List, [], ◌∷◌, Option, Some, None, length, nat_lt, refl, ap, sym}
use Rattle.dht_linkto.specs.declared.found.Found.{Found}
use Rattle.dht_linkto.specs.declared.found.Found.TheVariants as found
use Rattle.dht_laws.proofs.FlatGoing.{GoesFlat, IsOnName, io_goes, number_flat, change_flat, if_flat, app_says, found_says}
use Rattle.dht_laws.proofs.FlatObjects.{names_at_is, IsDirectory, IsThere, made_directory, name_checked, nowhere_flat, there_flat, saw_agrees, dir_kind}
use Rattle.dht_fops.proofs.Handing.{Later, later_same, later_then, nowhere_later}
use Rattle.dht_fops.proofs.Looking.{EndsRight, IsFoundIn}
use Rattle.dht_fops.specs.Answers.{AnswersAsFlat, FitsFlat, AreMade, IsAccepted}
use Rattle.dht_fops.specs.Courses.{Course}
use Rattle.dht_fops.specs.Entries.{lookup_found, births_from, mkdir_found, create_found, unlink_found}
use Rattle.dht_fops.specs.Handed.{Handed, SawName, SawNowhere, AnyHold}
use Rattle.dht_fops.specs.Standing.{Volumes, AreSound, StillShown}
use Rattle.dht_fops.specs.Volumes.{sets_from}
use Rattle.dht_laws.proofs.Arguments.{Seen}
use Rattle.dht_fops.specs.declared.volume.Volume.{Volume}
use Rattle.fop_types.specs.Cells.{names_cell}
use Rattle.fop_types.specs.Files.{Files, names_at, new_directory, new_file}
use Rattle.fop_types.specs.Flat.{Outcome, flat, refused, lookup_outcome, where_free, done, with_new, item_of, without_name, unlink_outcome}
use Rattle.fop_types.specs.Flat.Outcome.{Answers, Changes}
use Rattle.fop_types.specs.Names.{item_named, is_directory}
use Rattle.fop_types.specs.StoreOps.{is_removed}
use Rattle.fop_types.specs.declared.answers.Answer.TheVariants as answer
use Rattle.fop_types.specs.declared.answers.AppError.{AppError}
use Rattle.fop_types.specs.declared.answers.FopAnswer.TheVariants as fop_answer
use Rattle.fop_types.specs.declared.answers.AppError.TheVariants.{Enoent, Eexist, Eisdir}
use Rattle.fop_types.specs.declared.cells.Gfid.{Gfid}
use Rattle.fop_types.specs.declared.cells.Kind.{Kind}
use Rattle.fop_types.specs.declared.cells.Kind.TheVariants as kind
use Rattle.fop_types.specs.declared.contents.Item.{Item}
use Rattle.fop_types.specs.declared.flat.FlatAnswer.{FlatAnswer}
use Rattle.fop_types.specs.declared.flat.FlatAnswer.TheVariants as flat_answer
use Rattle.fop_types.specs.declared.flat.FlatOp.TheVariants as op
use Rattle.fop_types.specs.declared.fops.Fop.{Fop}
use Rattle.fop_types.specs.declared.fops.Fop.TheVariants as fop
use Rattle.fop_types.specs.declared.fops.Object.{Object}

-- ---- what the flat file system comes to, by what was found

abbrev pub ByItem : Type 0
ByItem = Files → Option Item → Outcome

-- the operation looks for the name, and goes by its item
pub record IsByItem (f : Fop) (parent : Object) (name : List ℕ) : Type 0 where
  pub on : IsOnName f parent name
  pub by_item : ByItem
  pub outcome_is : (files : Files) → on.outcome files ≡ by_item files (item_named (names_at files parent.gfid) name)

pub found_flat : (n : ℕ) (f : Fop) (parent : Object) (name : List ℕ) (handed : Handed) (set : ℕ) (gfid : Gfid) (kind : Kind) (s : Volumes) (i : IsByItem f parent name) → is_directory parent.kind ≡ true → nat_lt 255 (length name) ≡ false
    → AreSound s n → IsDirectory s n parent.gfid → (there : IsThere s n parent.gfid name gfid kind) → flat s.files i.on.op ≡ i.by_item s.files (Some there.item)
found_flat n f parent name handed set gfid kind s i dir short a d there =
    i.on.flat_is s.files ∙ name_checked s n parent.gfid name (i.on.outcome s.files) d short there.kept ∙ i.outcome_is s.files
    ∙ ap (λ (item : Option Item). i.by_item s.files item) (ap (λ (names : List Item). item_named names name) (names_at_is s n parent.gfid d) ∙ there.named)

pub absent_flat : (n : ℕ) (f : Fop) (parent : Object) (name : List ℕ) (handed : Handed) (s : Volumes) (i : IsByItem f parent name) → 1 ≤ n → nat_lt 255 (length name) ≡ false
    → AreSound s n → IsDirectory s n parent.gfid → StillShown s.contents handed → SawNowhere n handed parent.gfid name → flat s.files i.on.op ≡ i.by_item s.files None
absent_flat n f parent name handed s i some short a d still saw =
    let first = saw 0 some in
    let agrees = saw_agrees s handed parent.gfid 0 first.shown first.saw still in
    let kept : is_removed (s.contents 0 (names_cell parent.gfid)) ≡ false = sym agrees.removed ∙ first.kept in
    i.on.flat_is s.files ∙ name_checked s n parent.gfid name (i.on.outcome s.files) d short kept ∙ i.outcome_is s.files
    ∙ ap (λ (item : Option Item). i.by_item s.files item) (ap (λ (names : List Item). item_named names name) (names_at_is s n parent.gfid d) ∙ nowhere_flat s n handed parent.gfid name a still saw)

-- an answer by the item that was found, and by its absence
pub found_app : (n : ℕ) (f : Fop) (parent : Object) (name : List ℕ) (later : Handed) (set : ℕ) (gfid : Gfid) (k : Kind) (error : AppError) (i : IsByItem f parent name)
    → is_directory parent.kind ≡ true → nat_lt 255 (length name) ≡ false → set < n → SawName later parent.gfid name set gfid k → ((files : Files) (item : Item) → item.kind ≡ k → i.by_item files (Some item) ≡ refused error)
    → AnswersAsFlat n f later (fop_answer.Call (answer.App error)) None
found_app n f parent name later set gfid k error i dir short h saw refuses none s a m still =
    let d = made_directory s n parent a (i.on.made s m) dir in
    let there = there_flat s n later parent.gfid name set gfid k a still h saw in
    app_says f i.on.op s.files error i.on.op_is (found_flat n f parent name later set gfid k s i dir short a d there ∙ refuses s.files there.item there.kind_is)

pub absent_app : (n : ℕ) (f : Fop) (parent : Object) (name : List ℕ) (later : Handed) (error : AppError) (i : IsByItem f parent name)
    → is_directory parent.kind ≡ true → nat_lt 255 (length name) ≡ false → 1 ≤ n → SawNowhere n later parent.gfid name → ((files : Files) → i.by_item files None ≡ refused error)
    → AnswersAsFlat n f later (fop_answer.Call (answer.App error)) None
absent_app n f parent name later error i dir short some saw refuses none s a m still =
    let d = made_directory s n parent a (i.on.made s m) dir in
    app_says f i.on.op s.files error i.on.op_is (absent_flat n f parent name later s i some short a d still saw ∙ refuses s.files)

-- ---- lookup

abbrev pub EndsFlat : ℕ → Fop → Handed → Gfid → List ℕ → (Found → Seen → Course) → Type 0
EndsFlat n f handed dir name ending = EndsRight (FitsFlat n f) AnyHold (AnswersAsFlat n f) n handed dir name ending

lookup_item : (item : Item) (gfid : Gfid) (k : Kind) → item.gfid ≡ gfid → item.kind ≡ k → lookup_outcome (Some item) ≡ Answers (flat_answer.Found gfid k)
lookup_item item gfid k e d = rw (e, d) refl

abbrev pub lookup_on : (parent : Object) (name : List ℕ) → IsByItem (fop.Lookup parent name) parent name
lookup_on parent name = record {
  on = record { op = op.Lookup parent.gfid name; op_is = refl; outcome = λ files. lookup_outcome (item_named (names_at files parent.gfid) name); flat_is = λ files. refl; made = λ s m. m };
  by_item = λ files item. lookup_outcome item;
  outcome_is = λ files. refl;
}

pub lookup_flat : (n : ℕ) (parent : Object) (name : List ℕ) (handed : Handed) → 1 ≤ n → is_directory parent.kind ≡ true → nat_lt 255 (length name) ≡ false
    → EndsFlat n (fop.Lookup parent name) handed parent.gfid name lookup_found
lookup_flat n parent name handed some dir short = λ result seen later l f. by_found later result seen f
  where
    by_found : (later : Handed) (result : Found) (seen : Seen) → IsFoundIn n later parent.gfid name result → GoesFlat n (fop.Lookup parent name) later (lookup_found result seen)
    by_found later (found.Item set gfid k) seen f =
        λ none s a m still. let d = made_directory s n parent a m dir in
        let there = there_flat s n later parent.gfid name set gfid k a still f.0 f.1 in
        found_says (fop.Lookup parent name) (lookup_on parent name).on.op s.files set gfid k refl (found_flat n (fop.Lookup parent name) parent name later set gfid k s (lookup_on parent name) dir short a d there ∙ lookup_item there.item gfid k there.gfid_is there.kind_is)
    by_found later found.Absent seen f = absent_app n (fop.Lookup parent name) parent name later Enoent (lookup_on parent name) dir short some f (λ files. refl)
    by_found later (found.Io error) seen f = io_goes n (fop.Lookup parent name) later error

-- ---- mkdir and create

-- where no set shows the name, the flat file system accepts a new one
new_fits : (n : ℕ) (f : Fop) (parent : Object) (name : List ℕ) (later : Handed) (i : IsByItem f parent name) (answer : Files → FlatAnswer) (after : Files → Files) → is_directory parent.kind ≡ true → nat_lt 255 (length name) ≡ false → 1 ≤ n
    → SawNowhere n later parent.gfid name → ((files : Files) → i.by_item files None ≡ Changes (answer files) (after files)) → (s : Volumes) → AreSound s n → AreMade s f → StillShown s.contents later → IsAccepted s.files i.on.op
new_fits n f parent name later i answer after dir short some saw accepts s a m still =
    let d = made_directory s n parent a (i.on.made s m) dir in
    record { answer = answer s.files; after = after s.files; accepted = absent_flat n f parent name later s i some short a d still saw ∙ accepts s.files }

births_flat : (v : Volume) (f : Fop) (parent : Gfid) (name : List ℕ) (mode : ℕ) (drawn : Gfid) (sets : List ℕ) (handed : Handed)
    → ((later : Handed) → Later handed later → (s : Volumes) → AreSound s v.sets → AreMade s f → StillShown s.contents later → IsAccepted s.files (op.Mkdir parent name mode drawn)) → GoesFlat v.sets f handed (births_from v parent name mode drawn sets)
births_flat v f parent name mode drawn [] handed fits = change_flat v.sets f handed 0 _ 0 _ _ _ (fits handed (later_same handed))
births_flat v f parent name mode drawn (set ∷ sets) handed fits =
    number_flat v.sets f handed set _ _ tt (λ later number l. births_flat v f parent name mode drawn sets later (λ last m. fits last (later_then handed later last l m)))

abbrev pub mkdir_on : (parent : Object) (name : List ℕ) (mode : ℕ) (drawn : Gfid) → IsByItem (fop.Mkdir parent name mode drawn) parent name
mkdir_on parent name mode drawn = record {
  on = record {
    op = op.Mkdir parent.gfid name mode drawn;
    op_is = refl;
    outcome = λ files. where_free (item_named (names_at files parent.gfid) name) (done (with_new files parent.gfid (item_of name drawn kind.Dir) (new_directory mode)));
    flat_is = λ files. refl;
    made = λ s m. m;
  };
  by_item = λ files item. where_free item (done (with_new files parent.gfid (item_of name drawn kind.Dir) (new_directory mode)));
  outcome_is = λ files. refl;
}

pub mkdir_flat : (v : Volume) (parent : Object) (name : List ℕ) (mode : ℕ) (drawn : Gfid) (handed : Handed) → 1 ≤ v.sets → is_directory parent.kind ≡ true → nat_lt 255 (length name) ≡ false
    → EndsFlat v.sets (fop.Mkdir parent name mode drawn) handed parent.gfid name (mkdir_found v parent.gfid name mode drawn)
mkdir_flat v parent name mode drawn handed some dir short = λ result seen later l f. by_found later result seen f
  where
    by_found : (later : Handed) (result : Found) (seen : Seen) → IsFoundIn v.sets later parent.gfid name result → GoesFlat v.sets (fop.Mkdir parent name mode drawn) later (mkdir_found v parent.gfid name mode drawn result seen)
    by_found later (found.Item set gfid k) seen f = found_app v.sets (fop.Mkdir parent name mode drawn) parent name later set gfid k Eexist (mkdir_on parent name mode drawn) dir short f.0 f.1 (λ files item e. refl)
    by_found later found.Absent seen f = births_flat v (fop.Mkdir parent name mode drawn) parent.gfid name mode drawn (sets_from v 1) later
        (λ last m. new_fits v.sets (fop.Mkdir parent name mode drawn) parent name last (mkdir_on parent name mode drawn) (λ files. flat_answer.Call answer.Done) (λ files. with_new files parent.gfid (item_of name drawn kind.Dir) (new_directory mode))
        dir short some (nowhere_later v.sets later last parent.gfid name m f) (λ files. refl))
    by_found later (found.Io error) seen f = io_goes v.sets (fop.Mkdir parent name mode drawn) later error

abbrev pub create_on : (fd : ℕ) (parent : Object) (name : List ℕ) (mode : ℕ) (drawn : Gfid) → IsByItem (fop.Create fd parent name mode drawn) parent name
create_on fd parent name mode drawn = record {
  on = record {
    op = op.Create parent.gfid name mode drawn;
    op_is = refl;
    outcome = λ files. where_free (item_named (names_at files parent.gfid) name) (done (with_new files parent.gfid (item_of name drawn kind.File) (new_file mode)));
    flat_is = λ files. refl;
    made = λ s m. m;
  };
  by_item = λ files item. where_free item (done (with_new files parent.gfid (item_of name drawn kind.File) (new_file mode)));
  outcome_is = λ files. refl;
}

pub create_flat : (v : Volume) (fd : ℕ) (parent : Object) (name : List ℕ) (mode : ℕ) (drawn : Gfid) (hashed : ℕ) (handed : Handed) → 1 ≤ v.sets → is_directory parent.kind ≡ true → nat_lt 255 (length name) ≡ false
    → EndsFlat v.sets (fop.Create fd parent name mode drawn) handed parent.gfid name (create_found v parent.gfid name mode drawn hashed)
create_flat v fd parent name mode drawn hashed handed some dir short = λ result seen later l f. by_found later result seen f
  where
    by_found : (later : Handed) (result : Found) (seen : Seen) → IsFoundIn v.sets later parent.gfid name result
        → GoesFlat v.sets (fop.Create fd parent name mode drawn) later (create_found v parent.gfid name mode drawn hashed result seen)
    by_found later (found.Item set gfid k) seen f = found_app v.sets (fop.Create fd parent name mode drawn) parent name later set gfid k Eexist (create_on fd parent name mode drawn) dir short f.0 f.1 (λ files item e. refl)
    by_found later found.Absent seen f = change_flat v.sets (fop.Create fd parent name mode drawn) later hashed _ 0 _ _ _
        (new_fits v.sets (fop.Create fd parent name mode drawn) parent name later (create_on fd parent name mode drawn) (λ files. flat_answer.Call answer.Done) (λ files. with_new files parent.gfid (item_of name drawn kind.File) (new_file mode))
        dir short some f (λ files. refl))
    by_found later (found.Io error) seen f = io_goes v.sets (fop.Create fd parent name mode drawn) later error

-- ---- unlink

pub unlink_file : (files : Files) (parent : Gfid) (name : List ℕ) (item : Item) (k : Kind) → is_directory k ≡ false → item.kind ≡ k → unlink_outcome files parent name (Some item) ≡ done (without_name files parent name)
unlink_file files parent name item kind.File d e = rw e refl
unlink_file files parent name item kind.Dir d e = absurd cc
unlink_file files parent name item kind.Link d e = rw e refl

unlink_dir : (files : Files) (parent : Gfid) (name : List ℕ) (item : Item) (k : Kind) → is_directory k ≡ true → item.kind ≡ k → unlink_outcome files parent name (Some item) ≡ refused Eisdir
unlink_dir files parent name item k d e = rw (e, dir_kind k d) refl

abbrev pub unlink_on : (parent : Object) (name : List ℕ) → IsByItem (fop.Unlink parent name) parent name
unlink_on parent name = record {
  on = record { op = op.Unlink parent.gfid name; op_is = refl; outcome = λ files. unlink_outcome files parent.gfid name (item_named (names_at files parent.gfid) name); flat_is = λ files. refl; made = λ s m. m };
  by_item = λ files item. unlink_outcome files parent.gfid name item;
  outcome_is = λ files. refl;
}

pub unlink_flat : (v : Volume) (parent : Object) (name : List ℕ) (hashed : ℕ) (handed : Handed) → 1 ≤ v.sets → is_directory parent.kind ≡ true → nat_lt 255 (length name) ≡ false
    → EndsFlat v.sets (fop.Unlink parent name) handed parent.gfid name (unlink_found v parent.gfid name hashed)
unlink_flat v parent name hashed handed some dir short = λ result seen later l f. by_found later result seen f
  where
    by_found : (later : Handed) (result : Found) (seen : Seen) → IsFoundIn v.sets later parent.gfid name result → GoesFlat v.sets (fop.Unlink parent name) later (unlink_found v parent.gfid name hashed result seen)
    by_found later (found.Item set gfid k) seen f =
        if_flat v.sets (fop.Unlink parent name) later _ _ (is_directory k)
        (λ d. found_app v.sets (fop.Unlink parent name) parent name later set gfid k Eisdir (unlink_on parent name) dir short f.0 f.1 (λ files item e. unlink_dir files parent.gfid name item k d e))
        (λ file. change_flat v.sets (fop.Unlink parent name) later set _ 0 _ _ _
        (λ s a m still.
        let d = made_directory s v.sets parent a m dir in
        let there = there_flat s v.sets later parent.gfid name set gfid k a still f.0 f.1 in
        record {
          answer = flat_answer.Call answer.Done;
          after = without_name s.files parent.gfid name;
          accepted = found_flat v.sets (fop.Unlink parent name) parent name later set gfid k s (unlink_on parent name) dir short a d there ∙ unlink_file s.files parent.gfid name there.item k file there.kind_is;
        }))
    by_found later found.Absent seen f = absent_app v.sets (fop.Unlink parent name) parent name later Enoent (unlink_on parent name) dir short some f (λ files. refl)
    by_found later (found.Io error) seen f = io_goes v.sets (fop.Unlink parent name) later error
