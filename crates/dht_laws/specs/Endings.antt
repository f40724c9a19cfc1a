-- What a fop answers once it has changed the file system, and where a job failed. A fop is done by one change, its own
-- operation; a rename may drop a file of the new name before. Changes of links come after it and change no answer.
-- (POSIX.1-2017: a file operation has its effect and succeeds, or fails. That an I/O error is the failed job's is ours.)
use Rattle.std.specs.Prelude.{◌≡◌, ◌≢◌, ℕ, List, [], ◌∷◌, length, Option, Some, None}
use Rattle.dht_fops.specs.Answers.{flat_op, change_of}
use Rattle.dht_fops.specs.Courses.{number_in}
use Rattle.dht_fops.specs.Fops.{fop_course}
use Rattle.dht_fops.specs.Handed.{Handed, Event, Always, AnyHold}
use Rattle.dht_fops.specs.Handed.Event.{Replied, Held}
use Rattle.dht_laws.specs.Places.{place_made}
use Rattle.dht_fops.specs.Volumes.{Kept}
use Rattle.dht_fops.specs.declared.volume.Volume.{Volume}
use Rattle.fop_types.specs.Files.{Files}
use Rattle.fop_types.specs.Flat.{flat}
use Rattle.fop_types.specs.Flat.Outcome.{Changes}
use Rattle.fop_types.specs.declared.answers.Answer.{Answer}
use Rattle.fop_types.specs.declared.answers.Answer.TheVariants as answer
use Rattle.fop_types.specs.declared.answers.FopAnswer.{FopAnswer}
use Rattle.fop_types.specs.declared.answers.FopAnswer.TheVariants as fop_answer
use Rattle.fop_types.specs.declared.answers.IoError.{IoError}
use Rattle.fop_types.specs.declared.cells.Gfid.{Gfid}
use Rattle.fop_types.specs.declared.cells.Kind.{Kind}
use Rattle.fop_types.specs.declared.cells.Kind.TheVariants as kind
use Rattle.fop_types.specs.declared.flat.FlatAnswer.{FlatAnswer}
use Rattle.fop_types.specs.declared.flat.FlatAnswer.TheVariants as flat_answer
use Rattle.fop_types.specs.declared.flat.FlatOp.{FlatOp}
use Rattle.fop_types.specs.declared.fops.Fop.{Fop}
use Rattle.fop_types.specs.declared.fops.Fop.TheVariants as fop
use Rattle.fop_types.specs.declared.jobs.Job.{Job}
use Rattle.fop_types.specs.declared.jobs.Job.TheVariants as job
use Rattle.fop_types.specs.declared.jobs.SetReply.{SetReply}
use Rattle.fop_types.specs.declared.jobs.SetReply.TheVariants as reply
use Rattle.fop_types.specs.declared.store_ops.StoreOp.{StoreOp}
use Rattle.fop_types.specs.declared.store_ops.StoreOp.TheVariants as op

-- ---- jobs that failed

abbrev pub error_in : SetReply → Option IoError
error_in (reply.Contents contents place) = None
error_in (reply.Decided number) = None
error_in reply.Opened = None
error_in (reply.Listed cells answered short) = None
error_in (reply.Healed records) = None
error_in (reply.Skipped cause) = None
error_in (reply.Io error) = Some error

-- an open needs its descriptor; where descriptors are opened again, an error of one stops none of the others
abbrev pub open_fault : Fop → SetReply → Option IoError
open_fault (fop.Open fd object) said = error_in said
open_fault other said = None

-- the I/O error of a job that the fop needs; a change of a link, and the parts of a heal, are not needed
abbrev pub fault_in : Fop → Event → Option IoError
fault_in f (Held dir) = None
fault_in f (Replied set (job.Read cells fd dir) said) = error_in said
fault_in f (Replied set (job.Change cells fd o (Some entry)) said) = error_in said
fault_in f (Replied set (job.Change cells fd o None) said) = None
fault_in f (Replied set (job.Birth cells o) said) = error_in said
fault_in f (Replied set (job.Open fd gfid) said) = open_fault f said
fault_in f (Replied set job.Index said) = None
fault_in f (Replied set (job.Heal cell) said) = None

abbrev pub HaveNoFault : Fop → Handed → Type 0
HaveNoFault f [] = Unit {0}
HaveNoFault f (event ∷ handed) = (fault_in f event ≡ None) × HaveNoFault f handed

-- ---- changes with an effect

-- a change with an effect: its set, and the number of its entry
pub record Made : Type 0 where
  pub set : ℕ
  pub change : StoreOp
  pub number : Option ℕ

abbrev pub made_of : ℕ → StoreOp → Option ℕ → Made
made_of set o number = record { set = set; change = o; number = number }

abbrev pub made_by : Event → Option Made → Option Made
made_by (Held dir) before = before
made_by (Replied set (job.Read cells fd dir) said) before = before
made_by (Replied set (job.Change cells fd o (Some entry)) said) before = Some (made_of set o (place_made (number_in said)))
made_by (Replied set (job.Change cells fd o None) said) before = before
made_by (Replied set (job.Birth cells o) said) before = before
made_by (Replied set (job.Open fd gfid) said) before = before
made_by (Replied set job.Index said) before = before
made_by (Replied set (job.Heal cell) said) before = before

-- the latest change with an effect
abbrev pub last_made : Handed → Option Made
last_made [] = None
last_made (event ∷ handed) = made_by event (last_made handed)

-- it is the fop's own operation
abbrev pub IsOwnMade : Fop → Option Made → Type 0
IsOwnMade f None = ⊥
IsOwnMade f (Some made) = change_of made.change ≡ flat_op f

-- the fop's own operation was not made: no change with an effect, or the drop of a file of a rename's new name
abbrev pub IsNotMade : Fop → Option Made → Type 0
IsNotMade f None = Unit {0}
IsNotMade f (Some made) = change_of made.change ≢ flat_op f

-- ---- jobs

-- a link is changed after the fop's own operation, and all else is asked before
abbrev pub IsInOrder : Fop → Option Made → Job → Type 0
IsInOrder f made (job.Read cells fd dir) = IsNotMade f made
IsInOrder f made (job.Change cells fd o (Some entry)) = IsNotMade f made
IsInOrder f made (job.Change cells fd o None) = IsOwnMade f made
IsInOrder f made (job.Birth cells o) = IsNotMade f made
IsInOrder f made (job.Open fd gfid) = IsNotMade f made
IsInOrder f made job.Index = IsNotMade f made
IsInOrder f made (job.Heal cell) = IsNotMade f made

-- no job follows one that the fop needs and that failed
abbrev pub GoesOn : Fop → Handed → ℕ → Job → Type 0
GoesOn f handed set j = HaveNoFault f handed × IsInOrder f (last_made handed) j

-- ---- answers

-- what answers a change: a new file is found on its set, and a write counts its bytes
abbrev pub added_answer : ℕ → Gfid → Kind → FopAnswer
added_answer set gfid kind.File = fop_answer.Found set gfid kind.File
added_answer set gfid kind.Dir = fop_answer.Call answer.Done
added_answer set gfid kind.Link = fop_answer.Call answer.Done

abbrev pub answer_to : ℕ → StoreOp → FopAnswer
answer_to set (op.AddName parent item mode span) = added_answer set item.gfid item.kind
answer_to set (op.DropName parent name) = fop_answer.Call answer.Done
answer_to set (op.DropDir parent name gfid) = fop_answer.Call answer.Done
answer_to set (op.Move parent name target new_name) = fop_answer.Call answer.Done
answer_to set (op.Write gfid offset bytes) = fop_answer.Call (answer.Count (length bytes))
answer_to set (op.Truncate gfid size) = fop_answer.Call answer.Done
answer_to set (op.SetMode gfid mode) = fop_answer.Call answer.Done
answer_to set (op.SetAttr gfid attr) = fop_answer.Call answer.Done
answer_to set (op.DelAttr gfid name) = fop_answer.Call answer.Done
answer_to set (op.MakeCopy gfid span) = fop_answer.Call answer.Done

abbrev pub IsNoIoError : Answer → Type 0
IsNoIoError answer.Done = Unit {0}
IsNoIoError (answer.Count n) = Unit {0}
IsNoIoError (answer.Bytes bytes) = Unit {0}
IsNoIoError (answer.Stat kind mode size) = Unit {0}
IsNoIoError (answer.List items) = Unit {0}
IsNoIoError (answer.App error) = Unit {0}
IsNoIoError (answer.Io error) = ⊥

abbrev pub IsNoFailure : FopAnswer → Type 0
IsNoFailure (fop_answer.Found set gfid kind) = Unit {0}
IsNoFailure (fop_answer.Call a) = IsNoIoError a

-- the fop's own operation is the latest change with an effect, and is answered with the number of its entry
pub record IsAnswered (f : Fop) (made : Made) (a : FopAnswer) (place : Option ℕ) : Type 0 where
  pub own : change_of made.change ≡ flat_op f
  pub answer_is : a ≡ answer_to made.set made.change
  pub place_is : place ≡ made.number

abbrev pub AnswersMade : Fop → Option Made → FopAnswer → Option ℕ → Type 0
AnswersMade f None a place = Unit {0}
AnswersMade f (Some made) a place = IsAnswered f made a place

-- by the I/O error of the latest job, if the fop needs it
abbrev pub EndsBy : Fop → Option IoError → Option Made → FopAnswer → Option ℕ → Type 0
EndsBy f None made a place = IsNoFailure a × AnswersMade f made a place
EndsBy f (Some error) made a place = (a ≡ fop_answer.Call (answer.Io error)) × (place ≡ None)

-- Where the latest job failed and the fop needs it, its I/O error is the answer. Else no I/O error is answered; and after a
-- change with an effect the answer is that to the fop's own operation, which is the latest such change.
abbrev pub EndsWith : Fop → Handed → FopAnswer → Option ℕ → Type 0
EndsWith f [] a place = IsNoFailure a
EndsWith f (event ∷ handed) a place = HaveNoFault f handed × EndsBy f (fault_in f event) (last_made (event ∷ handed)) a place

-- Each fop goes on and ends so, whatever the volume, the replies and the fop's values are.
abbrev pub FopsAnswerChanges : Type 0
FopsAnswerChanges = (v : Volume) (names : List (List ℕ)) (kept : Kept) (f : Fop) → Always (GoesOn f) AnyHold (EndsWith f) [] (fop_course v names kept f)

-- ---- as the flat file system

-- the answer of a call: a create is done where its file is found
abbrev pub call_answer : FopAnswer → Answer
call_answer (fop_answer.Found set gfid kind) = answer.Done
call_answer (fop_answer.Call a) = a

-- Where the flat file system accepts the operation of a change, its answer is that to the change.
abbrev pub FlatAnswersChanges : Type 0
FlatAnswersChanges = (files after : Files) (set : ℕ) (o : StoreOp) (one : FlatOp) (a : FlatAnswer) → change_of o ≡ Some one → flat files one ≡ Changes a after → a ≡ flat_answer.Call (call_answer (answer_to set o))
