-- The course of a fop: what it asks of sets and how it is answered, as a function of what it is handed in. A fop asks
-- for one job at a time; a reply to the job leads on. An rmdir waits once for its hold to be extended by a directory.
-- The number at the end is the fop's place: the number of its own entry in the history, or the length of the history at
-- its last lock; none where no lock was needed, or where an I/O error is the answer.
use Rattle.std.specs.Prelude.{ℕ, List, [], Option, None, Result, Ok, Err}
use Rattle.dht_linkto.specs.DirNames.{names_in}
use Rattle.dht_linkto.specs.declared.names.DirNames.{DirNames}
use Rattle.fop_types.specs.declared.answers.Answer.{Answer}
use Rattle.fop_types.specs.declared.answers.Answer.TheVariants as answer
use Rattle.fop_types.specs.declared.answers.AppError.{AppError}
use Rattle.fop_types.specs.declared.answers.FopAnswer.{FopAnswer}
use Rattle.fop_types.specs.declared.answers.FopAnswer.TheVariants.{Call}
use Rattle.fop_types.specs.declared.answers.IoError.{IoError}
use Rattle.fop_types.specs.declared.cells.Cell.{Cell}
use Rattle.fop_types.specs.declared.cells.Gfid.{Gfid}
use Rattle.fop_types.specs.declared.contents.Content.{Content}
use Rattle.fop_types.specs.declared.history.Entry.{Entry}
use Rattle.fop_types.specs.declared.jobs.Job.{Job}
use Rattle.fop_types.specs.declared.jobs.Job.TheVariants as job
use Rattle.fop_types.specs.declared.jobs.SetReply.{SetReply}
use Rattle.fop_types.specs.declared.jobs.SetReply.TheVariants as reply
use Rattle.fop_types.specs.declared.store_ops.StoreOp.{StoreOp}

pub data Course : Type 0 where
  Asks : (set : ℕ) → (job : Job) → (next : SetReply → Course) → Course
  Extends : (dir : Gfid) → (next : Course) → Course
  Ends : (answer : FopAnswer) → (place : Option ℕ) → Course

-- ---- ends

abbrev pub answers : Answer → Option ℕ → Course
answers a place = Ends (Call a) place

abbrev pub refuses : AppError → Option ℕ → Course
refuses error place = answers (answer.App error) place

-- an I/O error has no place
abbrev pub fails : IoError → Course
fails error = answers (answer.Io error) None

-- ---- what a reply leads to

-- the contents that a read gave, and its place
abbrev pub contents_in : SetReply → Result (List (Option Content) × ℕ) IoError
contents_in (reply.Contents contents place) = Ok (contents, place)
contents_in (reply.Decided number) = Ok ([], 0)
contents_in reply.Opened = Ok ([], 0)
contents_in (reply.Listed cells answered short) = Ok ([], 0)
contents_in (reply.Healed records) = Ok ([], 0)
contents_in (reply.Skipped cause) = Ok ([], 0)
contents_in (reply.Io error) = Err error

abbrev pub on_contents : (List (Option Content) → ℕ → Course) → Result (List (Option Content) × ℕ) IoError → Course
on_contents next (Ok read) = next read.0 read.1
on_contents next (Err error) = fails error

abbrev pub after_read : (List (Option Content) → ℕ → Course) → SetReply → Course
after_read next reply = on_contents next (contents_in reply)

abbrev pub on_names : (DirNames → Course) → Result DirNames IoError → Course
on_names next (Ok shown) = next shown
on_names next (Err error) = fails error

abbrev pub after_names : (DirNames → Course) → SetReply → Course
after_names next reply = on_names next (names_in reply)

-- the number of the entry that a change made, if it has an effect
abbrev pub number_in : SetReply → Result (Option ℕ) IoError
number_in (reply.Contents contents place) = Ok None
number_in (reply.Decided number) = Ok number
number_in reply.Opened = Ok None
number_in (reply.Listed cells answered short) = Ok None
number_in (reply.Healed records) = Ok None
number_in (reply.Skipped cause) = Ok None
number_in (reply.Io error) = Err error

abbrev pub on_number : (Option ℕ → Course) → Result (Option ℕ) IoError → Course
on_number next (Ok number) = next number
on_number next (Err error) = fails error

abbrev pub after_change : (Option ℕ → Course) → SetReply → Course
after_change next reply = on_number next (number_in reply)

-- whatever the reply
abbrev pub after_any : Course → SetReply → Course
after_any next reply = next

-- ---- jobs

abbrev pub changes : ℕ → List Cell → ℕ → StoreOp → Option Entry → (Option ℕ → Course) → Course
changes set cells fd op effect next = Asks set (job.Change cells fd op effect) (after_change next)
