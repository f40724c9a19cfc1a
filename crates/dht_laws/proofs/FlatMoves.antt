-- The changes of a rename: the first is one that the flat file system accepts.
use Rattle.std.proofs.Common.{◌≡◌, ◌∙◌, ℕ, ◌<◌, ◌≤◌, Bool, true, false, List, Option, Some, None, if◌then◌else◌, length, nat_lt, refl, ap, sym}
use Rattle.dht_laws.proofs.FlatGoing.{GoesFlat, names_flat, number_flat, change_flat, app_says}
use Rattle.dht_laws.proofs.FlatNames.{IsByItem, found_flat, unlink_file}
use Rattle.dht_laws.proofs.FlatObjects.{IsThere, made_directory, there_flat, nowhere_flat, saw_agrees, name_checked, dir_kind, names_at_is}
use Rattle.dht_fops.proofs.Handing.{Later, later_same, later_then, name_later}
use Rattle.dht_fops.specs.Answers.{AnswersAsFlat, AreMade, IsAccepted}
use Rattle.dht_fops.specs.Handed.{Handed, SawName, SawNowhere}
use Rattle.dht_fops.specs.Renames.{moves, bears, replaces, changes_names, source_at}
use Rattle.dht_fops.specs.Standing.{Volumes, AreSound, IsMade, StillShown}
use Rattle.dht_laws.proofs.Arguments.{Renaming, Source}
use Rattle.dht_fops.specs.declared.volume.Volume.{Volume}
use Rattle.fop_types.specs.Cells.{names_cell}
use Rattle.fop_types.specs.Files.{Files, object_at, names_at}
use Rattle.fop_types.specs.Flat.{Outcome, flat, entry_error, checked, refused, done, where_replaceable, rename_outcome, with_name, without_name, renamed, unlink_outcome}
use Rattle.fop_types.specs.Flat.Outcome.{Answers}
use Rattle.fop_types.specs.Names.{item_named, is_directory, is_same_name}
use Rattle.fop_types.specs.StoreOps.{is_removed}
use Rattle.fop_types.specs.declared.answers.Answer.TheVariants as answer
use Rattle.fop_types.specs.declared.answers.AppError.{AppError}
use Rattle.fop_types.specs.declared.answers.AppError.TheVariants.{Eopnotsupp}
use Rattle.fop_types.specs.declared.answers.FopAnswer.TheVariants as fop_answer
use Rattle.fop_types.specs.declared.cells.Gfid.{Gfid}
use Rattle.fop_types.specs.declared.cells.Kind.{Kind}
use Rattle.fop_types.specs.declared.cells.Kind.TheVariants as kind
use Rattle.fop_types.specs.declared.contents.Item.{Item}
use Rattle.fop_types.specs.declared.flat.FlatAnswer.TheVariants as flat_answer
use Rattle.fop_types.specs.declared.flat.FlatOp.TheVariants as op
use Rattle.fop_types.specs.declared.fops.Fop.{Fop}
use Rattle.fop_types.specs.declared.fops.Fop.TheVariants as fop
use Rattle.fop_types.specs.declared.fops.Object.{Object}

-- ---- the changes

-- the move is accepted, from here on
abbrev pub MovesFit : ℕ → Fop → Renaming → Handed → Type 0
MovesFit n f r handed = (later : Handed) → Later handed later → (s : Volumes) → AreSound s n → AreMade s f → StillShown s.contents later → IsAccepted s.files (op.Rename r.source.parent r.source.name r.target r.new_name)

-- and so is the unlink of a file that is replaced
abbrev pub DropFits : ℕ → Fop → Renaming → Handed → Type 0
DropFits n f r handed = (later : Handed) → Later handed later → (s : Volumes) → AreSound s n → AreMade s f → StillShown s.contents later → IsAccepted s.files (op.Unlink r.target r.new_name)

abbrev pub FirstFits : ℕ → Fop → Renaming → Handed → Option ℕ → Type 0
FirstFits n f r handed None = MovesFit n f r handed
FirstFits n f r handed (Some set) = DropFits n f r handed

pub first_later : (n : ℕ) (f : Fop) (r : Renaming) (a b : Handed) (replaced : Option ℕ) → Later a b → FirstFits n f r a replaced → FirstFits n f r b replaced
first_later n f r a b None l fits = λ later m. fits later (later_then a b later l m)
first_later n f r a b (Some set) l fits = λ later m. fits later (later_then a b later l m)

pub moves_flat : (n : ℕ) (f : Fop) (v : Volume) (r : Renaming) (handed : Handed) → MovesFit n f r handed → GoesFlat n f handed (moves v r)
moves_flat n f v r handed fits = change_flat n f handed r.source.set _ 0 _ _ _ (fits handed (later_same handed))

pub bears_flat : (n : ℕ) (f : Fop) (v : Volume) (r : Renaming) (copy : Bool) (handed : Handed) → MovesFit n f r handed → GoesFlat n f handed (bears v r copy)
bears_flat n f v r true handed fits = moves_flat n f v r handed fits
bears_flat n f v r false handed fits = number_flat n f handed r.source.set _ _ tt (λ later number l. moves_flat n f v r later (λ last m. fits last (later_then handed later last l m)))

pub replaces_flat : (n : ℕ) (f : Fop) (v : Volume) (r : Renaming) (replaced : Option ℕ) (copy : Bool) (handed : Handed) → FirstFits n f r handed replaced → GoesFlat n f handed (replaces v r replaced copy)
replaces_flat n f v r None copy handed fits = bears_flat n f v r copy handed fits
replaces_flat n f v r (Some set) copy handed fits = change_flat n f handed set _ 0 _ _ _ (fits handed (later_same handed))

pub changes_flat : (n : ℕ) (f : Fop) (v : Volume) (r : Renaming) (replaced : Option ℕ) (copy : Option Bool) (handed : Handed) → FirstFits n f r handed replaced → GoesFlat n f handed (changes_names v r replaced copy)
changes_flat n f v r replaced (Some copy) handed fits = replaces_flat n f v r replaced copy handed fits
changes_flat n f v r replaced None handed fits =
    names_flat n f handed r.source.set r.target _ (λ later shown l saw. replaces_flat n f v r replaced shown.has_copy later (first_later n f r handed later replaced l fits))

-- ---- the flat rename, once a file of the old name was seen

-- the names and directories of a rename, of which the first are in order
pub record Names (n : ℕ) : Type 0 where
  pub parent : Object
  pub name : List ℕ
  pub target : Object
  pub new_name : List ℕ
  pub dir : is_directory parent.kind ≡ true
  pub short : nat_lt 255 (length name) ≡ false

abbrev pub the_fop : (n : ℕ) → Names n → Fop
the_fop n r = fop.Rename r.parent r.name r.target r.new_name

abbrev pub rename_on : (parent : Object) (name : List ℕ) (target : Object) (new_name : List ℕ) → IsByItem (fop.Rename parent name target new_name) parent name
rename_on parent name target new_name = record {
  on = record {
    op = op.Rename parent.gfid name target.gfid new_name;
    op_is = refl;
    outcome = λ files. rename_outcome files parent.gfid name target.gfid new_name (item_named (names_at files parent.gfid) name);
    flat_is = λ files. refl;
    made = λ s m. m.0;
  };
  by_item = λ files item. rename_outcome files parent.gfid name target.gfid new_name item;
  outcome_is = λ files. refl;
}

-- what is left to look at: the new name's directory, and the new name
abbrev pub at_target : Files → Gfid → List ℕ → Gfid → List ℕ → Item → Outcome
at_target files parent name target new_name item =
    where_replaceable (item_named (names_at files target) new_name)
    (if is_same_name parent name target new_name then Answers (flat_answer.Call answer.Done) else done (with_name (without_name files parent name) target (renamed item new_name)))

pub of_file : (files : Files) (parent : Gfid) (name : List ℕ) (target : Gfid) (new_name : List ℕ) (item : Item) → item.kind ≡ kind.File
    → rename_outcome files parent name target new_name (Some item) ≡ checked (entry_error (object_at files target) new_name) (at_target files parent name target new_name item)
of_file files parent name target new_name item e = rw e refl

pub of_directory : (files : Files) (parent : Gfid) (name : List ℕ) (target : Gfid) (new_name : List ℕ) (item : Item) (k : Kind) → is_directory k ≡ true → item.kind ≡ k
    → rename_outcome files parent name target new_name (Some item) ≡ refused Eopnotsupp
of_directory files parent name target new_name item k d e = rw (e, dir_kind k d) refl

-- the file that was seen under the old name
pub record SawOld (n : ℕ) (r : Names n) (handed : Handed) : Type 0 where
  pub set : ℕ
  pub within : set < n
  pub gfid : Gfid
  pub saw : SawName handed r.parent.gfid r.name set gfid kind.File

pub old_later : (n : ℕ) (r : Names n) (a b : Handed) → Later a b → SawOld n r a → SawOld n r b
old_later n r a b l o = record { set = o.set; within = o.within; gfid = o.gfid; saw = name_later a b r.parent.gfid r.name o.set o.gfid kind.File l o.saw }

-- the old name is there
pub old_there : (n : ℕ) (r : Names n) (handed : Handed) (s : Volumes) → AreSound s n → StillShown s.contents handed → (o : SawOld n r handed) → IsThere s n r.parent.gfid r.name o.gfid kind.File
old_there n r handed s a still o = there_flat s n handed r.parent.gfid r.name o.set o.gfid kind.File a still o.within o.saw

pub rename_flat : (n : ℕ) (r : Names n) (handed : Handed) (s : Volumes) → AreSound s n → IsMade s r.parent → StillShown s.contents handed → (o : SawOld n r handed) → (there : IsThere s n r.parent.gfid r.name o.gfid kind.File)
    → flat s.files (op.Rename r.parent.gfid r.name r.target.gfid r.new_name)
    ≡ checked (entry_error (object_at s.files r.target.gfid) r.new_name) (at_target s.files r.parent.gfid r.name r.target.gfid r.new_name there.item)
rename_flat n r handed s a m still o there =
    found_flat n (the_fop n r) r.parent r.name handed o.set o.gfid kind.File s (rename_on r.parent r.name r.target r.new_name) r.dir r.short a (made_directory s n r.parent a m r.dir) there
    ∙ of_file s.files r.parent.gfid r.name r.target.gfid r.new_name there.item there.kind_is

-- an error of the new name's directory, or of the new name
pub target_app : (n : ℕ) (r : Names n) (handed : Handed) (error : AppError) → SawOld n r handed
    → ((s : Volumes) → AreSound s n → IsMade s r.target → StillShown s.contents handed → (outcome : Item → Outcome) → ((item : Item) → outcome item ≡ at_target s.files r.parent.gfid r.name r.target.gfid r.new_name item)
    → (item : Item) → checked (entry_error (object_at s.files r.target.gfid) r.new_name) (outcome item) ≡ refused error)
    → AnswersAsFlat n (the_fop n r) handed (fop_answer.Call (answer.App error)) None
target_app n r handed error o refuses none s a m still =
    let there = old_there n r handed s a still o in
    app_says (the_fop n r) (op.Rename r.parent.gfid r.name r.target.gfid r.new_name) s.files error refl
    (rename_flat n r handed s a m.0 still o there ∙ refuses s a m.1 still (at_target s.files r.parent.gfid r.name r.target.gfid r.new_name) (λ item. refl) there.item)

-- ---- the changes are accepted

-- the file that is renamed, with the set to which its old name belongs
pub record Old : Type 0 where
  pub hashed : ℕ
  pub has_link : Bool
  pub set : ℕ
  pub gfid : Gfid

abbrev pub source_of : (n : ℕ) → Names n → Old → Source
source_of n r old = source_at r.parent.gfid r.name old.hashed old.has_link old.set old.gfid

abbrev pub IsOther : (n : ℕ) → Names n → Type 0
IsOther n r = is_same_name r.parent.gfid r.name r.target.gfid r.new_name ≡ false

pub free_target : (files : Files) (parent : Gfid) (name : List ℕ) (target : Gfid) (new_name : List ℕ) (item : Item) → item_named (names_at files target) new_name ≡ None → is_same_name parent name target new_name ≡ false
    → at_target files parent name target new_name item ≡ done (with_name (without_name files parent name) target (renamed item new_name))
free_target files parent name target new_name item named other = rw (named, other) refl

pub file_target : (files : Files) (parent : Gfid) (name : List ℕ) (target : Gfid) (new_name : List ℕ) (item there : Item) (k : Kind) → is_directory k ≡ false → there.kind ≡ k → item_named (names_at files target) new_name ≡ Some there
    → is_same_name parent name target new_name ≡ false → at_target files parent name target new_name item ≡ done (with_name (without_name files parent name) target (renamed item new_name))
file_target files parent name target new_name item there kind.File d e named other = rw (named, e, other) refl
file_target files parent name target new_name item there kind.Dir d e named other = absurd cc
file_target files parent name target new_name item there kind.Link d e named other = rw (named, e, other) refl

-- the move, where the target is in order
pub move_fits : (n : ℕ) (r : Names n) (handed : Handed) (s : Volumes) → AreSound s n → AreMade s (the_fop n r) → StillShown s.contents handed → SawOld n r handed → is_directory r.target.kind ≡ true → nat_lt 255 (length r.new_name) ≡ false
    → is_removed (s.contents 0 (names_cell r.target.gfid)) ≡ false
    → ((item : Item) → at_target s.files r.parent.gfid r.name r.target.gfid r.new_name item ≡ done (with_name (without_name s.files r.parent.gfid r.name) r.target.gfid (renamed item r.new_name)))
    → IsAccepted s.files (op.Rename r.parent.gfid r.name r.target.gfid r.new_name)
move_fits n r handed s a m still o dir short kept free =
    let there = old_there n r handed s a still o in
    record {
      answer = flat_answer.Call answer.Done;
      after = with_name (without_name s.files r.parent.gfid r.name) r.target.gfid (renamed there.item r.new_name);
      accepted = rename_flat n r handed s a m.0 still o there
          ∙ name_checked s n r.target.gfid r.new_name (at_target s.files r.parent.gfid r.name r.target.gfid r.new_name there.item) (made_directory s n r.target a m.1 dir) short kept ∙ free there.item;
    }

pub move_to_free : (n : ℕ) (r : Names n) (handed : Handed) → SawOld n r handed → is_directory r.target.kind ≡ true → nat_lt 255 (length r.new_name) ≡ false → IsOther n r → 1 ≤ n → SawNowhere n handed r.target.gfid r.new_name
    → (later : Handed) → Later handed later → (s : Volumes) → AreSound s n → AreMade s (the_fop n r) → StillShown s.contents later → IsAccepted s.files (op.Rename r.parent.gfid r.name r.target.gfid r.new_name)
move_to_free n r handed o dir short other some saw later l s a m still =
    let inner = made_directory s n r.target a m.1 dir in
    let first = saw 0 some in
    let agrees = saw_agrees s handed r.target.gfid 0 first.shown first.saw (l.still s.contents still) in
    let free : item_named (names_at s.files r.target.gfid) r.new_name ≡ None =
    ap (λ (all : List Item). item_named all r.new_name) (names_at_is s n r.target.gfid inner) ∙ nowhere_flat s n handed r.target.gfid r.new_name a (l.still s.contents still) saw in
    move_fits n r later s a m still (old_later n r handed later l o) dir short (sym agrees.removed ∙ first.kept)
    (λ item. free_target s.files r.parent.gfid r.name r.target.gfid r.new_name item free other)

pub move_to_file : (n : ℕ) (r : Names n) (handed : Handed) (set : ℕ) (gfid : Gfid) (k : Kind) → SawOld n r handed → is_directory r.target.kind ≡ true → nat_lt 255 (length r.new_name) ≡ false → IsOther n r → set < n
    → SawName handed r.target.gfid r.new_name set gfid k → is_directory k ≡ false
    → (later : Handed) → Later handed later → (s : Volumes) → AreSound s n → AreMade s (the_fop n r) → StillShown s.contents later → IsAccepted s.files (op.Rename r.parent.gfid r.name r.target.gfid r.new_name)
move_to_file n r handed set gfid k o dir short other h saw file later l s a m still =
    let inner = made_directory s n r.target a m.1 dir in
    let there = there_flat s n handed r.target.gfid r.new_name set gfid k a (l.still s.contents still) h saw in
    let named : item_named (names_at s.files r.target.gfid) r.new_name ≡ Some there.item = ap (λ (all : List Item). item_named all r.new_name) (names_at_is s n r.target.gfid inner) ∙ there.named in
    move_fits n r later s a m still (old_later n r handed later l o) dir short there.kept
    (λ item. file_target s.files r.parent.gfid r.name r.target.gfid r.new_name item there.item k file there.kind_is named other)

pub drop_file : (n : ℕ) (r : Names n) (handed : Handed) (set : ℕ) (gfid : Gfid) (k : Kind) → is_directory r.target.kind ≡ true → nat_lt 255 (length r.new_name) ≡ false → set < n → SawName handed r.target.gfid r.new_name set gfid k
    → is_directory k ≡ false → (later : Handed) → Later handed later → (s : Volumes) → AreSound s n → AreMade s (the_fop n r) → StillShown s.contents later → IsAccepted s.files (op.Unlink r.target.gfid r.new_name)
drop_file n r handed set gfid k dir short h saw file later l s a m still =
    let inner = made_directory s n r.target a m.1 dir in
    let there = there_flat s n handed r.target.gfid r.new_name set gfid k a (l.still s.contents still) h saw in
    let named : item_named (names_at s.files r.target.gfid) r.new_name ≡ Some there.item = ap (λ (all : List Item). item_named all r.new_name) (names_at_is s n r.target.gfid inner) ∙ there.named in
    record {
      answer = flat_answer.Call answer.Done;
      after = without_name s.files r.target.gfid r.new_name;
      accepted = name_checked s n r.target.gfid r.new_name (unlink_outcome s.files r.target.gfid r.new_name (item_named (names_at s.files r.target.gfid) r.new_name)) inner short there.kept
          ∙ ap (λ (item : Option Item). unlink_outcome s.files r.target.gfid r.new_name item) named ∙ unlink_file s.files r.target.gfid r.new_name there.item k file there.kind_is;
    }

-- the first change of a rename to the name of a file
pub first_fits : (n : ℕ) (r : Names n) (handed : Handed) (to : Renaming) (set : ℕ) (b : Bool) → MovesFit n (the_fop n r) to handed → DropFits n (the_fop n r) to handed → FirstFits n (the_fop n r) to handed (if b then None else Some set)
first_fits n r handed to set true move drop = move
first_fits n r handed to set false move drop = drop
