-- The distribute node: a fop over the sets, one job at a time. A fop under way is known by its course; what the node makes
-- of it is a function of what the fop gives next.
use Rattle.std.specs.Prelude.{◌≡◌, ℕ, ◌-◌, ◌&&◌, nat_le, nat_lt, Bool, true, false, List, [], ◌∷◌, ◌++◌, length, drop, Option, Some, None, if◌then◌else◌}
use Rattle.std.specs.BTreeMap.{insert_entry}
use Rattle.dht_fops.specs.Fops.{fop_course}
use Rattle.dht_fops.specs.code.Fops.{volume_of, course_on, goes_on_with, goes_held_with, learnt_with, asked_of}
use Rattle.dht_fops.specs.Volumes.{Kept}
use Rattle.dht_fops.specs.declared.dht_fop.DhtFop.{DhtFop}
use Rattle.dht_fops.specs.declared.layouts.Layout.{Layout}
use Rattle.dht_fops.specs.declared.step.DhtNext.{DhtNext}
use Rattle.dht_fops.specs.declared.step.DhtNext.TheVariants as next
use Rattle.fop_types.specs.Bounds.{Each}
use Rattle.fop_types.specs.Jobs.{IsJob}
use Rattle.fop_types.specs.Orders.{gfid_cmp}
use Rattle.fop_types.specs.declared.answers.Answer.TheVariants as answer
use Rattle.fop_types.specs.declared.answers.FopAnswer.TheVariants as fop_answer
use Rattle.fop_types.specs.declared.answers.IoError.TheVariants as io
use Rattle.fop_types.specs.declared.cells.Gfid.{Gfid}
use Rattle.fop_types.specs.declared.fops.Fop.{Fop}
use Rattle.fop_types.specs.declared.fops.Fop.TheVariants as fops
use Rattle.fop_types.specs.declared.fops.OpenFd.{OpenFd}
use Rattle.fop_types.specs.declared.jobs.Job.{Job}
use Rattle.fop_types.specs.declared.jobs.SetReply.{SetReply}
use Rattle.xlator_law.specs.declared.step.Step.{Step}
use Rattle.xlator_law.specs.declared.winds.Entry.{Entry}
use Rattle.graph_items.specs.declared.items.Down.{Down}
use Rattle.graph_items.specs.declared.items.Down.TheVariants as down
use Rattle.graph_items.specs.declared.items.Up.{Up}
use Rattle.graph_items.specs.declared.items.Up.TheVariants as up
use Rattle.graph_nodes.specs.declared.context.Context.{Context}
use Rattle.graph_nodes.specs.declared.locals.Local.{Local}
use Rattle.graph_nodes.specs.declared.locals.Local.TheVariants as local
use Rattle.graph_nodes.specs.declared.locals.FopState.{FopState}
use Rattle.graph_nodes.specs.declared.kinds.Distribute.{Distribute}
use Rattle.graph_nodes.specs.Costs.{fop_units, jobs_for}
use Rattle.graph_nodes.specs.Moves.{Move, IsMove, to_child}
use Rattle.graph_nodes.specs.Moves.Move.{Waits, Back}

-- the answer where a fop can't be run: that of a set without a quorum
abbrev pub refused : Move
refused = Back (up.Answer (fop_answer.Call (answer.Io (io.Quorum 0 []))) None)

-- ---- what a fop gives next

-- a job is asked of a set that there is, as long as the fop has one left
abbrev pub asked_move : ℕ → FopState → ℕ → Job → Move
asked_move sets frame set job =
    if nat_lt set sets && nat_lt 0 frame.jobs
    then to_child set (down.Job job) (local.Distribute (record frame { jobs = frame.jobs - 1 }))
    else refused

-- a fop asks for one job at a time
abbrev pub first_asked : ℕ → FopState → List (ℕ × Job) → Move
first_asked sets frame [] = refused
first_asked sets frame (one ∷ jobs) = asked_move sets frame one.0 one.1

abbrev pub move_of : ℕ → FopState → DhtNext → Move
move_of sets frame (next.Jobs jobs) = first_asked sets frame jobs
move_of sets frame (next.Hold dir) = Waits (local.Distribute frame)
move_of sets frame (next.Done answer place) = Back (up.Answer answer place)

-- the mount is asked to extend the call's hold
abbrev pub waiting : Context → Entry → Gfid → Context
waiting cx entry dir = record cx { holds = cx.holds ++ record { call = entry.call; frame = entry.frame; gfid = dir } ∷ [] }

abbrev pub with_hold : Context → Entry → DhtNext → Context
with_hold cx entry (next.Jobs jobs) = cx
with_hold cx entry (next.Hold dir) = waiting cx entry dir
with_hold cx entry (next.Done answer place) = cx

-- the step is what the fop gives next, and the context has what it asks for
pub record Gives (sets : ℕ) (frame : FopState) (n : DhtNext) (old : Context) (step : Step Down Up Local) (new : Context) : Type 0 where
  pub move : IsMove (move_of sets frame n) step
  pub cx : new ≡ with_hold old frame.entry n

-- each job has values within their bounds
abbrev pub AreJobs : List (ℕ × Job) → Type 0
AreJobs jobs = Each (λ (asked : ℕ × Job). IsJob asked.1) jobs

-- ---- a fop begins

-- whether the sets that a fop names are among so many
abbrev pub are_below : ℕ → List OpenFd → Bool
are_below sets [] = true
are_below sets (f ∷ fs) = nat_lt f.set sets && are_below sets fs

abbrev pub names_sets : ℕ → Fop → Bool
names_sets sets (fops.Lookup parent name) = true
names_sets sets (fops.Mkdir parent name mode drawn) = true
names_sets sets (fops.Rmdir parent name) = true
names_sets sets (fops.Create fd parent name mode drawn) = true
names_sets sets (fops.Unlink parent name) = true
names_sets sets (fops.Rename parent name target new_name) = true
names_sets sets (fops.Open fd object) = nat_lt object.set sets
names_sets sets (fops.Stat object) = nat_lt object.set sets
names_sets sets (fops.List object) = true
names_sets sets (fops.Chmod object mode) = nat_lt object.set sets
names_sets sets (fops.Truncate object size) = nat_lt object.set sets
names_sets sets (fops.SetAttr object attr) = nat_lt object.set sets
names_sets sets (fops.GetAttr object name) = nat_lt object.set sets
names_sets sets (fops.DelAttr object name) = nat_lt object.set sets
names_sets sets (fops.Read fd object offset count) = nat_lt object.set sets
names_sets sets (fops.Write fd object offset bytes) = nat_lt object.set sets
names_sets sets (fops.Migrate fds) = are_below sets fds
names_sets sets (fops.Heal count) = true

-- how many sets the first graph has is a number of sets of this node, and so are the sets that the fop names
abbrev pub may_begin : Distribute → ℕ → Fop → Bool
may_begin node root_sets f = (nat_le 1 root_sets && nat_le root_sets node.sets) && names_sets node.sets f

pub record IsFopBegun (node : Distribute) (cx : Context) (entry : Entry) (f : Fop) (step : Step Down Up Local) (cx_new : Context) : Type 0 where
  pub fop : DhtFop
  pub next : DhtNext
  pub course : course_on fop next ≡ fop_course (volume_of entry.call node.sets cx.root_sets) node.names node.kept.entries f
  pub learnt : fop.learnt ≡ []
  pub asked : fop.asked ≡ asked_of next
  pub gives : Gives node.sets (record { entry = entry; fop = fop; learnt = 0; jobs = jobs_for node.sets (fop_units node.sets f) }) next cx step cx_new

-- the fop is refused, and nothing changes
pub record IsRefused (cx : Context) (step : Step Down Up Local) (cx_new : Context) : Type 0 where
  pub move : IsMove refused step
  pub cx_is : cx_new ≡ cx

abbrev pub BeginsBy : Bool → Distribute → Context → Entry → Fop → Step Down Up Local → Context → Type 0
BeginsBy true node cx entry f step cx_new = IsFopBegun node cx entry f step cx_new
BeginsBy false node cx entry f step cx_new = IsRefused cx step cx_new

abbrev pub Begins : Distribute → Context → Entry → Fop → Step Down Up Local → Context → Type 0
Begins node cx entry f step cx_new = BeginsBy (may_begin node cx.root_sets f) node cx entry f step cx_new

abbrev pub IsBegun : Distribute → Context → Entry → Down → Step Down Up Local → Context → Type 0
IsBegun node cx entry (down.Fop f) step cx_new = Begins node cx entry f step cx_new
IsBegun node cx entry (down.Job j) step cx_new = IsRefused cx step cx_new
IsBegun node cx entry (down.Request r) step cx_new = IsRefused cx step cx_new

-- ---- a fop goes on

-- the layouts that are kept once these were read: the last one of each directory
abbrev pub kept_with : Kept → List Layout → Kept
kept_with kept [] = kept
kept_with kept (layout ∷ layouts) = kept_with (insert_entry gfid_cmp kept layout.dir layout.spans) layouts

-- the node keeps these layouts, and is else the same
pub record IsKept (entries : Kept) (old new : Distribute) : Type 0 where
  pub names : new.names ≡ old.names
  pub sets : new.sets ≡ old.sets
  pub kept : new.kept.entries ≡ entries

-- the fop takes a set's reply, and the node keeps the layouts that it has read since
pub record TakesReply (old : Distribute) (cx : Context) (frame : FopState) (reply : SetReply) (step : Step Down Up Local) (new : Distribute) (cx_new : Context) : Type 0 where
  pub fop : DhtFop
  pub next : DhtNext
  pub course : course_on fop next ≡ goes_on_with frame.fop reply
  pub learnt : fop.learnt ≡ learnt_with frame.fop reply
  pub asked : fop.asked ≡ asked_of next
  pub gives : Gives old.sets (record frame { fop = fop; learnt = length fop.learnt }) next cx step cx_new
  pub kept : IsKept (kept_with old.kept.entries (drop frame.learnt fop.learnt)) old new

pub record StaysRefused (old : Distribute) (cx : Context) (step : Step Down Up Local) (new : Distribute) (cx_new : Context) : Type 0 where
  pub refused_is : IsRefused cx step cx_new
  pub node : new ≡ old

abbrev pub OnReply : Option ℕ → Distribute → Context → FopState → SetReply → Step Down Up Local → Distribute → Context → Type 0
OnReply (Some set) old cx frame reply step new cx_new = TakesReply old cx frame reply step new cx_new
OnReply None old cx frame reply step new cx_new = StaysRefused old cx step new cx_new

abbrev pub GoesOn : Distribute → Context → FopState → Up → Step Down Up Local → Distribute → Context → Type 0
GoesOn old cx frame (up.Set reply) step new cx_new = OnReply frame.fop.asked old cx frame reply step new cx_new
GoesOn old cx frame (up.Answer answer place) step new cx_new = StaysRefused old cx step new cx_new
GoesOn old cx frame (up.Brick said) step new cx_new = StaysRefused old cx step new cx_new

-- the call's hold was extended
pub record IsHeld (node : Distribute) (cx : Context) (frame : FopState) (step : Step Down Up Local) (cx_new : Context) : Type 0 where
  pub fop : DhtFop
  pub next : DhtNext
  pub course : course_on fop next ≡ goes_held_with frame.fop
  pub learnt : fop.learnt ≡ frame.fop.learnt
  pub asked : fop.asked ≡ asked_of next
  pub gives : Gives node.sets (record frame { fop = fop }) next cx step cx_new

-- a frame that waits for no hold is refused
abbrev pub OnExtended : Option ℕ → Distribute → Context → FopState → Step Down Up Local → Context → Type 0
OnExtended None node cx frame step cx_new = IsHeld node cx frame step cx_new
OnExtended (Some set) node cx frame step cx_new = IsRefused cx step cx_new
