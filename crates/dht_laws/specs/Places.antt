-- Where the place of an answer comes from, and an I/O error: both from the replies alone.
use Rattle.std.specs.Prelude.{◌≡◌, ℕ, List, [], ◌∷◌, Option, Some, None, Result, Ok, Err}
use Rattle.dht_fops.specs.Courses.{contents_in, number_in}
use Rattle.dht_fops.specs.Fops.{fop_course}
use Rattle.dht_fops.specs.Handed.{Handed, Event, Always, AnyJob, AnyHold}
use Rattle.dht_fops.specs.Handed.Event.{Replied, Held}
use Rattle.dht_fops.specs.Volumes.{Kept}
use Rattle.dht_fops.specs.declared.volume.Volume.{Volume}
use Rattle.fop_types.specs.declared.answers.Answer.{Answer}
use Rattle.fop_types.specs.declared.answers.Answer.TheVariants as answer
use Rattle.fop_types.specs.declared.answers.FopAnswer.{FopAnswer}
use Rattle.fop_types.specs.declared.answers.FopAnswer.TheVariants as fop_answer
use Rattle.fop_types.specs.declared.answers.IoError.{IoError}
use Rattle.fop_types.specs.declared.contents.Content.{Content}
use Rattle.fop_types.specs.declared.fops.Fop.{Fop}
use Rattle.fop_types.specs.declared.jobs.Job.TheVariants as job
use Rattle.fop_types.specs.declared.jobs.SetReply.TheVariants as reply

-- the length of the history at the lock of a read
abbrev pub place_read : Result (List (Option Content) × ℕ) IoError → Option ℕ
place_read (Ok read) = Some read.1
place_read (Err error) = None

-- the number of the entry that a change made
abbrev pub place_made : Result (Option ℕ) IoError → Option ℕ
place_made (Ok number) = number
place_made (Err error) = None

-- after a read, its place; after a change with an effect, its entry's number; what else was handed in leaves the place
abbrev pub place_after : Event → Option ℕ → Option ℕ
place_after (Held dir) before = before
place_after (Replied set (job.Read cells fd dir) reply) before = place_read (contents_in reply)
place_after (Replied set (job.Change cells fd op (Some entry)) reply) before = place_made (number_in reply)
place_after (Replied set (job.Change cells fd op None) reply) before = before
place_after (Replied set (job.Birth cells op) reply) before = before
place_after (Replied set (job.Open fd gfid) reply) before = before
place_after (Replied set job.Index reply) before = before
place_after (Replied set (job.Heal cell) reply) before = before

-- the place of the latest read or change with an effect
abbrev pub last_place : Handed → Option ℕ
last_place [] = None
last_place (event ∷ handed) = place_after event (last_place handed)

abbrev pub IsErrorIn : Event → IoError → Type 0
IsErrorIn (Held dir) error = ⊥
IsErrorIn (Replied set job said) error = said ≡ reply.Io error

-- the latest reply is this I/O error, from the set that was asked
abbrev pub EndsInError : Handed → IoError → Type 0
EndsInError [] error = ⊥
EndsInError (event ∷ handed) error = IsErrorIn event error

-- An answer is placed at the latest read or change with an effect; where none was needed, and for an I/O error, which is
-- that of the latest reply, it has no place.
abbrev pub IsPlacedAs : Answer → Handed → Option ℕ → Type 0
IsPlacedAs answer.Done handed place = place ≡ last_place handed
IsPlacedAs (answer.Count n) handed place = place ≡ last_place handed
IsPlacedAs (answer.Bytes bytes) handed place = place ≡ last_place handed
IsPlacedAs (answer.Stat kind mode size) handed place = place ≡ last_place handed
IsPlacedAs (answer.List items) handed place = place ≡ last_place handed
IsPlacedAs (answer.App error) handed place = place ≡ last_place handed
IsPlacedAs (answer.Io error) handed place = (place ≡ None) × EndsInError handed error

abbrev pub IsPlaced : Handed → FopAnswer → Option ℕ → Type 0
IsPlaced handed (fop_answer.Found set gfid kind) place = place ≡ last_place handed
IsPlaced handed (fop_answer.Call a) place = IsPlacedAs a handed place

-- Each answer of a fop is placed so, whatever the volume, the replies and the fop's values are.
abbrev pub FopsPlaceAnswers : Type 0
FopsPlaceAnswers = (v : Volume) (names : List (List ℕ)) (kept : Kept) (f : Fop) → Always AnyJob AnyHold IsPlaced [] (fop_course v names kept f)
