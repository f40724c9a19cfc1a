-- What a directory's copy on one set shows of its names.
use Rattle.std.specs.Prelude.{ℕ, true, List, [], ◌∷◌, Option, None, Result, Ok, Err, is_some}
use Rattle.fop_types.specs.Cells.{names_cell}
use Rattle.fop_types.specs.StoreOps.{items_of, is_removed}
use Rattle.fop_types.specs.declared.answers.IoError.{IoError}
use Rattle.fop_types.specs.declared.cells.Gfid.{Gfid}
use Rattle.fop_types.specs.declared.contents.Content.{Content}
use Rattle.fop_types.specs.declared.jobs.Job.{Job}
use Rattle.fop_types.specs.declared.jobs.Job.TheVariants as job
use Rattle.fop_types.specs.declared.jobs.SetReply.{SetReply}
use Rattle.fop_types.specs.declared.jobs.SetReply.TheVariants as reply
use Rattle.dht_linkto.specs.declared.names.DirNames.{DirNames}

-- the job that reads a directory's names on a set
abbrev pub names_job : Gfid → Job
names_job dir = job.Read (names_cell dir ∷ []) 0 true

-- a set without a copy shows no names
abbrev pub names_shown : Option Content → ℕ → DirNames
names_shown content place = record {
  has_copy = is_some content;
  removed = is_removed content;
  items = items_of content;
  place = place;
}

abbrev pub first_content : List (Option Content) → Option Content
first_content [] = None
first_content (content ∷ contents) = content

-- what the reply shows; one that is no answer to this job, which no set gives, shows no copy
abbrev pub names_in : SetReply → Result DirNames IoError
names_in (reply.Contents contents place) = Ok (names_shown (first_content contents) place)
names_in (reply.Decided number) = Ok (names_shown None 0)
names_in reply.Opened = Ok (names_shown None 0)
names_in (reply.Listed cells answered short) = Ok (names_shown None 0)
names_in (reply.Healed records) = Ok (names_shown None 0)
names_in (reply.Skipped cause) = Ok (names_shown None 0)
names_in (reply.Io error) = Err error
