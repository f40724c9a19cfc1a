-- A fop of a call under way: how it stands to what it was handed in, how far its job is, and what it has seen since it
-- began. Ours.
use Rattle.std.specs.Prelude.{ℕ, false, List, [], ◌∷◌, Option, if◌then◌else◌}
use Rattle.std.specs.Ordering.{is_eq}
use Rattle.dht_fops.specs.Courses.{Course}
use Rattle.dht_fops.specs.Courses.Course.{Asks, Extends}
use Rattle.dht_fops.specs.Fops.{fop_course}
use Rattle.dht_fops.specs.Handed.{Handed}
use Rattle.dht_fops.specs.Handed.Event.{Replied, Held}
use Rattle.dht_fops.specs.Volumes.{Kept}
use Rattle.dht_fops.specs.declared.volume.Volume.{Volume}
use Rattle.fop_types.specs.Orders.{gfid_cmp}
use Rattle.fop_types.specs.declared.cells.Cell.{Cell}
use Rattle.fop_types.specs.declared.cells.Gfid.{Gfid}
use Rattle.fop_types.specs.declared.contents.Content.{Content}
use Rattle.fop_types.specs.declared.fops.Fop.{Fop}
use Rattle.fop_types.specs.declared.jobs.Job.{Job}
use Rattle.fop_types.specs.declared.jobs.SetReply.{SetReply}
use Rattle.mount_laws.specs.Holds.{Hold, holds_of, holds_without}

-- ---- what was handed in

-- the replies and extensions lead from the first course to the second
pub data Leads (first : Course) : Handed → Course → Type 0 where
  Begun : Leads first [] first
  Answered : (handed : Handed) → (set : ℕ) → (job : Job) → (next : SetReply → Course) → (reply : SetReply) →
      Leads first handed (Asks set job next) → Leads first (Replied set job reply ∷ handed) (next reply)
  Extended : (handed : Handed) → (dir : Gfid) → (next : Course) → Leads first handed (Extends dir next) → Leads first (Held dir ∷ handed) next

-- ---- the job that the course asks for

-- `Waiting`: the job settles the unsettled changes on its cells, if it has any. `Settled`: none was left on them at this
-- length of the history. `Changing`: its change of this number became unsettled. `Bearing`: its births were sent.
-- `Decided`: its change was adopted, with the number of its entry if it has an effect, or a quorum confirmed its births.
pub data Stage : Type 0 where
  Waiting : Stage
  Settled : (place : ℕ) → Stage
  Changing : (u : ℕ) → Stage
  Bearing : Stage
  Decided : (number : Option ℕ) → Stage

-- a job of this fop whose settling has ended
pub record SettledJob : Type 0 where
  pub set : ℕ
  pub cells : List Cell

-- what the fop has read of a cell, with the fop's own changes since
pub record Sight : Type 0 where
  pub set : ℕ
  pub cell : Cell
  pub content : Option Content

-- `names` are the names of the sets of the call's graph, `kept` the layouts that the graph had read when the fop began, and
-- `holds` what the call holds now
pub record Run : Type 0 where
  pub fop : Fop
  pub volume : Volume
  pub names : List (List ℕ)
  pub kept : Kept
  pub holds : List Hold
  pub handed : Handed
  pub course : Course
  pub stage : Stage
  pub settled : List SettledJob
  pub saw : List Sight

abbrev pub first_course : Run → Course
first_course run = fop_course run.volume run.names run.kept run.fop

abbrev pub begun : Fop → Volume → List (List ℕ) → Kept → Run
begun fop volume names kept = record {
  fop = fop;
  volume = volume;
  names = names;
  kept = kept;
  holds = holds_of fop;
  handed = [];
  course = fop_course volume names kept fop;
  stage = Waiting;
  settled = [];
  saw = [];
}

-- it goes on with one more event
abbrev pub going_on : Run → Handed → Course → List Sight → Run
going_on run handed next saw = record run { handed = handed; course = next; stage = Waiting; saw = saw }

-- its hold is extended by a directory
abbrev pub held_longer : Run → Gfid → Run
held_longer run dir = record run { holds = record { gfid = dir; shared = false } ∷ run.holds }

-- ---- an object that the fop needs no more

abbrev pub cells_without : Gfid → List Cell → List Cell
cells_without gfid [] = []
cells_without gfid (cell ∷ cells) = if is_eq (gfid_cmp cell.gfid gfid) then cells_without gfid cells else cell ∷ cells_without gfid cells

abbrev pub jobs_without : Gfid → List SettledJob → List SettledJob
jobs_without gfid [] = []
jobs_without gfid (done ∷ jobs) = record done { cells = cells_without gfid done.cells } ∷ jobs_without gfid jobs

abbrev pub sights_without : Gfid → List Sight → List Sight
sights_without gfid [] = []
sights_without gfid (sight ∷ saw) = if is_eq (gfid_cmp sight.cell.gfid gfid) then sights_without gfid saw else sight ∷ sights_without gfid saw

-- its hold is released, and with it goes what is known of its cells
abbrev pub released : Run → Gfid → Run
released run gfid = record run { holds = holds_without gfid run.holds; settled = jobs_without gfid run.settled; saw = sights_without gfid run.saw }
