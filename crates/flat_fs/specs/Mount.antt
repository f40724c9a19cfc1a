-- A mount on the flat file system alone, with one call at work at a time: each call is answered at once, or by its
-- lookups and its last operation on the files as they are.
use Rattle.std.specs.Prelude.{◌≡◌, ℕ, ◌+◌, Bool, List, [], ◌∷◌, ◌++◌, Option, Some, None, length, replicate, get_or, slice_set, refl}
use Rattle.std.specs.Coded.{Coded, code_by, coded×, coded_ℕ, coded_bool, coded_list}
use Rattle.flat_fs.specs.Codes.{files_code, descriptors_code}
use Rattle.std.specs.FinMap.{empty}
use Rattle.fop_types.specs.Calls.{Submission, Descriptors, makes, looked_up, at_once, last_op, after_answer}
use Rattle.fop_types.specs.Cells.{root}
use Rattle.fop_types.specs.Files.{Files, first_files}
use Rattle.fop_types.specs.Flat.{flat_answer, flat_after}
use Rattle.fop_types.specs.History.{Walk, walk_path, after_path}
use Rattle.fop_types.specs.History.Walk.{Reached, Stopped, Short}
use Rattle.fop_types.specs.declared.answers.Answer.{Answer}
use Rattle.fop_types.specs.declared.answers.Answer.TheVariants as answers
use Rattle.fop_types.specs.declared.calls.Call.{Call}
use Rattle.fop_types.specs.declared.calls.Call.TheVariants as call
use Rattle.fop_types.specs.declared.cells.Gfid.{Gfid}
use Rattle.fop_types.specs.declared.flat.FlatAnswer.{FlatAnswer}
use Rattle.fop_types.specs.declared.flat.FlatAnswer.TheVariants as flat_answers
use Rattle.fop_types.specs.declared.flat.FlatOp.{FlatOp}

-- the files, the open descriptors of each session, and the number of mkdir and create calls so far, however answered
pub record Mount : Type 0 where
  pub files : Files
  pub sessions : List Descriptors
  pub made : ℕ

-- a mount, and whether a call has run out of memory, after which no other is served
pub record State : Type 0 where
  pub mount : Mount
  pub spent : Bool

abbrev pub mount_code : Coded Mount
mount_code =
    code_by (Files × (List Descriptors × ℕ)) (coded× files_code (coded× (coded_list descriptors_code) coded_ℕ))
    (λ m. (m.files, (m.sessions, m.made))) (λ p. record { files = p.0; sessions = p.1.0; made = p.1.1 }) (λ _. refl)

abbrev pub state_code : Coded State
state_code = code_by (Mount × Bool) (coded× mount_code coded_bool) (λ s. (s.mount, s.spent)) (λ p. record { mount = p.0; spent = p.1 }) (λ _. refl)

abbrev pub fds_of : Mount → ℕ → Descriptors
fds_of mount session = get_or mount.sessions session empty

-- the root alone, and 256 sessions without descriptors
abbrev pub first_mount : Mount
first_mount = record { files = first_files; sessions = replicate 256 empty; made = 0 }

-- ---- lookups, all on the same files

abbrev pub path_walk : Files → List (List ℕ) → Walk
path_walk files path = walk_path (λ _. files) path root (replicate (length path) 0)

abbrev pub paths_walk : Files → List (List (List ℕ)) → Walk
paths_walk files [] = Reached [] []
paths_walk files (path ∷ paths) = after_path (path_walk files path) (λ _. paths_walk files paths)

-- ---- one call

-- what a call comes to: its answer, the files after it, and the file of the descriptor that it opens, if it does
pub record Served : Type 0 where
  pub answer : Answer
  pub files : Files
  pub file : Gfid

abbrev pub unchanged : Files → Answer → Served
unchanged files answer = record { answer = answer; files = files; file = root }

-- a last operation is no lookup
abbrev pub call_answer : FlatAnswer → Answer
call_answer (flat_answers.Found gfid kind) = answers.Done
call_answer (flat_answers.Call answer) = answer

abbrev pub first_of : List Gfid → Gfid
first_of [] = root
first_of (gfid ∷ gfids) = gfid

-- what a create made, or an open found
abbrev pub file_given : Call → List Gfid → Gfid → Gfid
file_given (call.Create fd path mode) found drawn = drawn
file_given (call.Open fd path) found drawn = first_of found
file_given other found drawn = root

abbrev pub by_op : Files → Gfid → Option FlatOp → Served
by_op files file None = unchanged files answers.Done
by_op files file (Some op) = record { answer = call_answer (flat_answer files op); files = flat_after files op; file = file }

abbrev pub by_walk : Files → Descriptors → Gfid → Call → Walk → Served
by_walk files fds drawn c (Reached found places) = by_op files (file_given c found drawn) (last_op c found drawn fds)
by_walk files fds drawn c (Stopped error places) = unchanged files (answers.App error)
by_walk files fds drawn c Short = unchanged files answers.Done

abbrev pub by_once : Files → Descriptors → Gfid → Call → Option Answer → Served
by_once files fds drawn c (Some answer) = unchanged files answer
by_once files fds drawn c None = by_walk files fds drawn c (paths_walk files (looked_up c))

abbrev pub served : Files → Descriptors → Gfid → Call → Served
served files fds drawn c = by_once files fds drawn c (at_once fds c)

-- the gfid that the next call draws
abbrev pub drawn_next : Mount → Call → Gfid
drawn_next mount c = record { hi = 0; lo = 1 + (mount.made + makes c) }

abbrev pub call_served : Mount → Submission → Served
call_served mount s = served mount.files (fds_of mount s.session) (drawn_next mount s.call) s.call

-- the mount after a call of a session, and its answer
abbrev pub after_served : Mount → Submission → Served → Mount
after_served mount s by = record {
  files = by.files;
  sessions = slice_set mount.sessions s.session (after_answer (fds_of mount s.session) s.call by.file by.answer);
  made = mount.made + makes s.call;
}

abbrev pub after_call : Mount → Submission → Mount
after_call mount s = after_served mount s (call_served mount s)

abbrev pub answer_to : Mount → Submission → Answer
answer_to mount s = (call_served mount s).answer

-- the mount after calls, one after another, and their answers
abbrev pub after_calls : Mount → List Submission → Mount
after_calls mount [] = mount
after_calls mount (s ∷ calls) = after_calls (after_call mount s) calls

abbrev pub answers_to : Mount → List Submission → List Answer
answers_to mount [] = []
answers_to mount (s ∷ calls) = answer_to mount s ∷ answers_to (after_call mount s) calls

-- calls one after another are served as one more call after the others
pub record RunsInOrder : Type 0 where
  pub mount : (start : Mount) (calls : List Submission) (s : Submission) → after_calls start (calls ++ s ∷ []) ≡ after_call (after_calls start calls) s
  pub answers : (start : Mount) (calls : List Submission) (s : Submission)
      → answers_to start (calls ++ s ∷ []) ≡ answers_to start calls ++ answer_to (after_calls start calls) s ∷ []
