-- How the answers of a fop are compared with the flat file system's: reads, changes, and looks at a name.
use Rattle.std.proofs.Common.{◌≡◌, ◌∙◌, ℕ, ◌<◌, ◌≤◌, inl, Bool, true, false, List, [], ◌∷◌, Option, Some, None, Result, Ok, Err, if◌then◌else◌, length, nat_lt, refl, arith}
use Rattle.dht_linkto.specs.DirNames.{names_job, names_in}
use Rattle.dht_linkto.specs.Search.{hashed_set}
use Rattle.dht_linkto.specs.declared.names.DirNames.{DirNames}
use Rattle.dht_laws.proofs.FlatObjects.{made_file, made_directory, gone_flat, name_gone, name_long, name_in_file}
use Rattle.dht_fops.proofs.Handing.{Later, later_push}
use Rattle.dht_fops.proofs.Known.{hashed_below, known_below}
use Rattle.dht_fops.proofs.Looking.{EndsRight, Reading, looks_in_goes, finds_go}
use Rattle.dht_fops.specs.Answers.{AnswersAsFlat, FitsFlat, Accepts, change_of, SaysFlat, AreMade, flat_op}
use Rattle.dht_fops.specs.Courses.{Course, on_names, after_names, after_read, on_number, after_change, number_in, changes}
use Rattle.dht_fops.specs.Courses.Course.{Asks, Extends, Ends}
use Rattle.dht_fops.specs.Fops.{on_name}
use Rattle.dht_fops.specs.Handed.{Handed, Always, Saw, AnyHold}
use Rattle.dht_fops.specs.Handed.Event.{Replied, Held}
use Rattle.dht_fops.specs.Looks.{Ending, where_named}
use Rattle.dht_fops.specs.Standing.{Volumes, AreSound, IsMade, StillShown, HaveNoEffect}
use Rattle.dht_fops.specs.Volumes.{Kept, known_set}
use Rattle.dht_fops.specs.declared.volume.Volume.{Volume}
use Rattle.fop_types.specs.Files.{Files, object_at}
use Rattle.fop_types.specs.Flat.{Outcome, flat, entry_error, checked, refused}
use Rattle.fop_types.specs.Flat.Outcome.{Answers}
use Rattle.fop_types.specs.Limits.{max_item_name}
use Rattle.fop_types.specs.Names.{is_directory}
use Rattle.fop_types.specs.declared.answers.Answer.TheVariants as answer
use Rattle.fop_types.specs.declared.answers.AppError.{AppError}
use Rattle.fop_types.specs.declared.answers.AppError.TheVariants.{Enoent, Enotdir, Enametoolong}
use Rattle.fop_types.specs.declared.answers.FopAnswer.TheVariants as fop_answer
use Rattle.fop_types.specs.declared.answers.IoError.{IoError}
use Rattle.fop_types.specs.declared.cells.Cell.{Cell}
use Rattle.fop_types.specs.declared.cells.Gfid.{Gfid}
use Rattle.fop_types.specs.declared.cells.Kind.{Kind}
use Rattle.fop_types.specs.declared.contents.Content.{Content}
use Rattle.fop_types.specs.declared.flat.FlatAnswer.TheVariants as flat_answer
use Rattle.fop_types.specs.declared.flat.FlatOp.{FlatOp}
use Rattle.fop_types.specs.declared.fops.Fop.{Fop}
use Rattle.fop_types.specs.declared.fops.Object.{Object}
use Rattle.fop_types.specs.declared.history.Entry.{Entry}
use Rattle.fop_types.specs.declared.jobs.Job.{Job}
use Rattle.fop_types.specs.declared.jobs.Job.TheVariants as job
use Rattle.fop_types.specs.declared.jobs.SetReply.{SetReply}
use Rattle.fop_types.specs.declared.jobs.SetReply.TheVariants as reply
use Rattle.fop_types.specs.declared.store_ops.StoreOp.{StoreOp}

-- the fop goes on with answers of the flat file system
abbrev pub GoesFlat : ℕ → Fop → Handed → Course → Type 0
GoesFlat n f handed course = Always (FitsFlat n f) AnyHold (AnswersAsFlat n f) handed course

-- ---- answers

io_says : (files : Files) (o : Option FlatOp) (error : IoError) → SaysFlat files o (fop_answer.Call (answer.Io error))
io_says files None error = tt
io_says files (Some o) error = tt

pub io_goes : (n : ℕ) (f : Fop) (handed : Handed) (error : IoError) → AnswersAsFlat n f handed (fop_answer.Call (answer.Io error)) None
io_goes n f handed error = λ none s a m still. io_says s.files (flat_op f) error

-- once a change with an effect was asked, or a reply was none to its job, nothing more is said
no_more : (n : ℕ) (f : Fop) (handed : Handed) (set : ℕ) (j : Job) → (HaveNoEffect handed → (s : Volumes) → StillShown s.contents handed → ⊥) → FitsFlat n f handed set j
no_more n f handed set (job.Change cells fd o (Some entry)) never = λ none s sound made still. absurd (never none s still)
no_more n f handed set (job.Change cells fd o None) never = tt
no_more n f handed set (job.Read cells fd dir) never = tt
no_more n f handed set (job.Birth cells o) never = tt
no_more n f handed set (job.Open fd gfid) never = tt
no_more n f handed set job.Index never = tt
no_more n f handed set (job.Heal cell) never = tt

pub says_no_more : (n : ℕ) (f : Fop) (handed : Handed) (c : Course) → (HaveNoEffect handed → (s : Volumes) → StillShown s.contents handed → ⊥) → GoesFlat n f handed c
says_no_more n f handed (Asks set j next) never = (no_more n f handed set j never, λ reply. says_no_more n f (Replied set j reply ∷ handed) (next reply) (λ none s still. never none.1 s still.1))
says_no_more n f handed (Extends dir next) never = (tt, says_no_more n f (Held dir ∷ handed) next (λ none s still. never none.1 s still.1))
says_no_more n f handed (Ends a place) never = λ none s sound made still. absurd (never none s still)

-- ---- jobs

pub read_flat : (n : ℕ) (f : Fop) (handed : Handed) (set : ℕ) (cells : List Cell) (fd : ℕ) (dir : Bool) (next : List (Option Content) → ℕ → Course)
    → ((contents : List (Option Content)) (place : ℕ) → GoesFlat n f (Replied set (job.Read cells fd dir) (reply.Contents contents place) ∷ handed) (next contents place))
    → GoesFlat n f handed (Asks set (job.Read cells fd dir) (after_read next))
read_flat n f handed set cells fd dir next k = (tt, by_reply)
  where
    by_reply : (r : SetReply) → GoesFlat n f (Replied set (job.Read cells fd dir) r ∷ handed) (after_read next r)
    by_reply (reply.Contents contents place) = k contents place
    by_reply (reply.Decided number) = says_no_more n f (Replied set (job.Read cells fd dir) (reply.Decided number) ∷ handed) (next [] 0) (λ none s still. still.0)
    by_reply reply.Opened = says_no_more n f (Replied set (job.Read cells fd dir) reply.Opened ∷ handed) (next [] 0) (λ none s still. still.0)
    by_reply (reply.Listed found answered short) = says_no_more n f (Replied set (job.Read cells fd dir) (reply.Listed found answered short) ∷ handed) (next [] 0) (λ none s still. still.0)
    by_reply (reply.Healed records) = says_no_more n f (Replied set (job.Read cells fd dir) (reply.Healed records) ∷ handed) (next [] 0) (λ none s still. still.0)
    by_reply (reply.Skipped cause) = says_no_more n f (Replied set (job.Read cells fd dir) (reply.Skipped cause) ∷ handed) (next [] 0) (λ none s still. still.0)
    by_reply (reply.Io error) = io_goes n f (Replied set (job.Read cells fd dir) (reply.Io error) ∷ handed) error

names_lead : (n : ℕ) (f : Fop) (handed : Handed) (next : DirNames → Course) (read : Result DirNames IoError) → ((shown : DirNames) → read ≡ Ok shown → GoesFlat n f handed (next shown)) → GoesFlat n f handed (on_names next read)
names_lead n f handed next (Ok shown) k = k shown refl
names_lead n f handed next (Err error) k = io_goes n f handed error

pub names_flat : (n : ℕ) (f : Fop) (handed : Handed) (set : ℕ) (dir : Gfid) (next : DirNames → Course)
    → ((later : Handed) (shown : DirNames) → Later handed later → Saw later dir set shown → GoesFlat n f later (next shown)) → GoesFlat n f handed (Asks set (names_job dir) (after_names next))
names_flat n f handed set dir next k = (
  tt,
  λ reply. names_lead n f (Replied set (names_job dir) reply ∷ handed) next (names_in reply)
      (λ shown e. k (Replied set (names_job dir) reply ∷ handed) shown (later_push (Replied set (names_job dir) reply) handed) (inl (refl, refl, e))),
)

number_lead : (n : ℕ) (f : Fop) (handed : Handed) (next : Option ℕ → Course) (read : Result (Option ℕ) IoError) → ((number : Option ℕ) → GoesFlat n f handed (next number)) → GoesFlat n f handed (on_number next read)
number_lead n f handed next (Ok number) k = k number
number_lead n f handed next (Err error) k = io_goes n f handed error

pub number_flat : (n : ℕ) (f : Fop) (handed : Handed) (set : ℕ) (job : Job) (next : Option ℕ → Course) → FitsFlat n f handed set job → ((later : Handed) (number : Option ℕ) → Later handed later → GoesFlat n f later (next number))
    → GoesFlat n f handed (Asks set job (after_change next))
number_flat n f handed set job next fits k =
    (fits, λ reply. number_lead n f (Replied set job reply ∷ handed) next (number_in reply) (λ number. k (Replied set job reply ∷ handed) number (later_push (Replied set job reply) handed)))

-- after a change with an effect
pub change_flat : (n : ℕ) (f : Fop) (handed : Handed) (set : ℕ) (cells : List Cell) (fd : ℕ) (op : StoreOp) (entry : Entry) (next : Option ℕ → Course)
    → ((s : Volumes) → AreSound s n → AreMade s f → StillShown s.contents handed → Accepts s.files (change_of op)) → GoesFlat n f handed (changes set cells fd op (Some entry) next)
change_flat n f handed set cells fd op entry next fits =
    (λ none. fits, λ reply. says_no_more n f (Replied set (job.Change cells fd op (Some entry)) reply ∷ handed) (after_change next reply) (λ none s still. none.0))

pub if_flat : (n : ℕ) (f : Fop) (handed : Handed) (one other : Course) (b : Bool) → (b ≡ true → GoesFlat n f handed one) → (b ≡ false → GoesFlat n f handed other) → GoesFlat n f handed (if b then one else other)
if_flat n f handed one other true y k = y refl
if_flat n f handed one other false y k = k refl

-- ---- fops on a name

-- the operation of a fop on a name of a directory
pub record IsOnName (f : Fop) (parent : Object) (name : List ℕ) : Type 0 where
  pub op : FlatOp
  pub op_is : flat_op f ≡ Some op
  pub outcome : Files → Outcome
  pub flat_is : (files : Files) → flat files op ≡ checked (entry_error (object_at files parent.gfid) name) (outcome files)
  pub made : (s : Volumes) → AreMade s f → IsMade s parent

pub app_says : (f : Fop) (op : FlatOp) (files : Files) (error : AppError) → flat_op f ≡ Some op → flat files op ≡ refused error → SaysFlat files (flat_op f) (fop_answer.Call (answer.App error))
app_says f op files error e h = rw e h

pub found_says : (f : Fop) (op : FlatOp) (files : Files) (set : ℕ) (gfid : Gfid) (kind : Kind) → flat_op f ≡ Some op → flat files op ≡ Answers (flat_answer.Found gfid kind) → SaysFlat files (flat_op f) (fop_answer.Found set gfid kind)
found_says f op files set gfid kind e h = rw e h

pub looks_flat : (n : ℕ) (f : Fop) (parent : Object) (name : List ℕ) (handed : Handed) → IsOnName f parent name → is_directory parent.kind ≡ true → nat_lt max_item_name (length name) ≡ false
    → Reading (FitsFlat n f) AnyHold (AnswersAsFlat n f) n handed parent.gfid
looks_flat n f parent name handed on dir short = record {
  names = λ later set l i. tt;
  spans = λ later set l i. tt;
  fails = λ later error. io_goes n f later error;
  removed = λ later set shown l i saw gone none s a m still.
      app_says f on.op s.files Enoent on.op_is
      (on.flat_is s.files ∙ name_gone s n parent.gfid name (on.outcome s.files) (made_directory s n parent a (on.made s m) dir) short (gone_flat s n later parent.gfid set shown a still saw gone));
}

pub named_flat : (n : ℕ) (f : Fop) (parent : Object) (name : List ℕ) (next : Course) → IsOnName f parent name
    → (is_directory parent.kind ≡ true → nat_lt max_item_name (length name) ≡ false → GoesFlat n f [] next) → GoesFlat n f [] (where_named parent name None next)
named_flat n f parent name next on k =
    if_flat n f [] _ _ (is_directory parent.kind)
    (λ dir. if_flat n f [] _ _ (nat_lt max_item_name (length name))
    (λ long none s a m still. app_says f on.op s.files Enametoolong on.op_is (on.flat_is s.files ∙ name_long s n parent.gfid name (on.outcome s.files) (made_directory s n parent a (on.made s m) dir) long))
    (λ short. k dir short))
    (λ file none s a m still. app_says f on.op s.files Enotdir on.op_is (on.flat_is s.files ∙ name_in_file s parent.gfid name (on.outcome s.files) (made_file s n parent a (on.made s m) file)))

pub on_name_flat : (v : Volume) (f : Fop) (names : List (List ℕ)) (kept : Kept) (parent : Object) (name : List ℕ) (ending : ℕ → Ending) → 1 ≤ v.root_sets → v.root_sets ≤ v.sets → length names ≡ v.sets
    → IsOnName f parent name
    → (is_directory parent.kind ≡ true → nat_lt max_item_name (length name) ≡ false → (hashed : ℕ) (handed : Handed) → hashed < v.sets → EndsRight (FitsFlat v.sets f) AnyHold (AnswersAsFlat v.sets f) v.sets handed parent.gfid name (ending hashed))
    → GoesFlat v.sets f [] (on_name v names kept parent name ending)
on_name_flat v f names kept parent name ending some within e on ends =
    named_flat v.sets f parent name _ on
    (λ dir short. finds_go (FitsFlat v.sets f) AnyHold (AnswersAsFlat v.sets f) v.sets (length names) parent.gfid (known_set v kept parent.gfid name) _ _ [] e (looks_flat v.sets f parent name [] on dir short) (known_below v kept parent.gfid name some within)
    (λ set i. looks_in_goes (FitsFlat v.sets f) AnyHold (AnswersAsFlat v.sets f) v.sets parent.gfid name names 0 ending set [] e i (looks_flat v.sets f parent name [] on dir short) (ends dir short set [] i))
    (λ whole later w l. looks_in_goes (FitsFlat v.sets f) AnyHold (AnswersAsFlat v.sets f) v.sets parent.gfid name names 0 ending (hashed_set whole name) later e (hashed_below v.sets whole name w (omega arith)) (looks_flat v.sets f parent name later on dir short)
    (ends dir short _ later (hashed_below v.sets whole name w (omega arith)))))
