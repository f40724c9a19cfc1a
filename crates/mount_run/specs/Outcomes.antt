-- When each status of the top calls comes, and what was written. Where the source and the sink show their bytes, the text is
-- what was read and the bytes written are named.
use Rattle.std.specs.Prelude.{◌≡◌, ◌⊎◌, ℕ, List, Option, Some, None, Ok}
use Rattle.std.specs.Io.KnownBytes.{Appends}
use Rattle.xl_base.specs.Writes.{WrotePrefix}
use Rattle.hub_calls.specs.declared.racks.Rack.{Rack}
use Rattle.script_commands.specs.Plans.{accepted}
use Rattle.script_commands.specs.Readings.{IsRead}
use Rattle.script_commands.specs.declared.commands.Command.{Command}
use Rattle.script_commands.specs.declared.commands.Command.TheVariants.{Check, Run, Mount, Generate, Replay}
use Rattle.script_commands.specs.declared.plans.Accepted.{Accepted}
use Rattle.run_judge.specs.Headline.{Headline}
use Rattle.run_commands.specs.CarriedOut.{Checked, CheckedUnwritten, Generated, GeneratedUnwritten, Judged, JudgedUnwritten, Refused, RefusedUnwritten, RefusedLine, RefusedLineUnwritten, WindsRanOut}
use Rattle.run_commands.specs.Seeds.{IsSeeded}
use Rattle.run_commands.specs.Written.{empty_rack}

-- ---- a run

-- nothing was written, and the rack is empty
pub record IsHeldBack (taken taken_after : Option (List ℕ)) (rack : Rack) : Type 0 where
  pub nothing : taken_after ≡ taken
  pub empty : rack ≡ empty_rack

-- the text is accepted, and what its run left was held back
pub record RunHeldBack (known taken taken_after : Option (List ℕ)) (rack : Rack) : Type 0 where
  pub text : List ℕ
  pub read : Accepted
  pub is_text : IsRead known text
  pub accepted_as : accepted text ≡ Ok read
  pub held_back : IsHeldBack taken taken_after rack

-- a script was run, and its whole report was written
pub record Ran (known taken taken_after : Option (List ℕ)) (rack : Rack) : Type 0 where
  pub text : List ℕ
  pub report : List ℕ
  pub read : IsRead known text
  pub headline : Headline text report rack.log rack.bricks
  pub wrote : Appends taken taken_after report

-- so by the schedule of a seed, which has left the log and the bricks
pub record RanBySeed (seed : ℕ) (known taken taken_after : Option (List ℕ)) (rack : Rack) : Type 0 where
  pub text : List ℕ
  pub report : List ℕ
  pub read : IsRead known text
  pub headline : Headline text report rack.log rack.bricks
  pub wrote : Appends taken taken_after report
  pub seeded : IsSeeded seed headline.read.script headline.read.plans rack

-- what each command did, where it ended well
abbrev pub Succeeded : Option Command → Option (List ℕ) → Option (List ℕ) → Option (List ℕ) → Rack → Type 0
Succeeded None known taken taken_after rack = ⊥
Succeeded (Some Check) known taken taken_after rack = Checked known taken taken_after rack
Succeeded (Some (Run seed)) known taken taken_after rack = RanBySeed seed known taken taken_after rack
Succeeded (Some (Mount workers)) known taken taken_after rack = Ran known taken taken_after rack
Succeeded (Some (Generate number)) known taken taken_after rack = Generated number taken taken_after rack
Succeeded (Some Replay) known taken taken_after rack = Judged 0 known taken taken_after rack

-- a replay judges a report unlawful; what a run left is held back where it fails an audit. Of `gen` it may be
-- instead that the generated text is too long or refused; that it never is, is not proved.
abbrev pub IsUnlawful : Option Command → Option (List ℕ) → Option (List ℕ) → Option (List ℕ) → Rack → Type 0
IsUnlawful None known taken taken_after rack = ⊥
IsUnlawful (Some Check) known taken taken_after rack = ⊥
IsUnlawful (Some (Run seed)) known taken taken_after rack = RunHeldBack known taken taken_after rack
IsUnlawful (Some (Mount workers)) known taken taken_after rack = RunHeldBack known taken taken_after rack
IsUnlawful (Some (Generate number)) known taken taken_after rack = IsHeldBack taken taken_after rack
IsUnlawful (Some Replay) known taken taken_after rack = Judged 6 known taken taken_after rack

-- ---- refusals

-- no generated script is refused
abbrev pub RefusedBy : Option Command → Option (List ℕ) → Option (List ℕ) → Option (List ℕ) → Rack → Type 0
RefusedBy None known taken taken_after rack = ⊥
RefusedBy (Some Check) known taken taken_after rack = Refused known taken taken_after rack
RefusedBy (Some (Run seed)) known taken taken_after rack = Refused known taken taken_after rack
RefusedBy (Some (Mount workers)) known taken taken_after rack = Refused known taken taken_after rack
RefusedBy (Some (Generate number)) known taken taken_after rack = ⊥
RefusedBy (Some Replay) known taken taken_after rack = RefusedLine known taken taken_after rack

-- ---- out of winds

-- only a run needs winds, and of a generated one the text is the program's own
abbrev pub RanOutOfWinds : Option Command → Option (List ℕ) → Rack → Type 0
RanOutOfWinds None known rack = ⊥
RanOutOfWinds (Some Check) known rack = ⊥
RanOutOfWinds (Some (Run seed)) known rack = WindsRanOut known rack
RanOutOfWinds (Some (Mount workers)) known rack = WindsRanOut known rack
RanOutOfWinds (Some (Generate number)) known rack = WindsRanOut None rack
RanOutOfWinds (Some Replay) known rack = ⊥

-- ---- a sink that failed: a prefix of what is to be written was, and not all of it

pub record RanUnwritten (known taken taken_after : Option (List ℕ)) (rack : Rack) : Type 0 where
  pub text : List ℕ
  pub report : List ℕ
  pub read : IsRead known text
  pub headline : Headline text report rack.log rack.bricks
  pub wrote : WrotePrefix taken taken_after report

pub record RanBySeedUnwritten (seed : ℕ) (known taken taken_after : Option (List ℕ)) (rack : Rack) : Type 0 where
  pub text : List ℕ
  pub report : List ℕ
  pub read : IsRead known text
  pub headline : Headline text report rack.log rack.bricks
  pub wrote : WrotePrefix taken taken_after report
  pub seeded : IsSeeded seed headline.read.script headline.read.plans rack

abbrev pub Unwritten : Option Command → Option (List ℕ) → Option (List ℕ) → Option (List ℕ) → Rack → Type 0
Unwritten None known taken taken_after rack = ⊥
Unwritten (Some Check) known taken taken_after rack = CheckedUnwritten known taken taken_after rack ⊎ RefusedUnwritten known taken taken_after rack
Unwritten (Some (Run seed)) known taken taken_after rack = RanBySeedUnwritten seed known taken taken_after rack ⊎ RefusedUnwritten known taken taken_after rack
Unwritten (Some (Mount workers)) known taken taken_after rack = RanUnwritten known taken taken_after rack ⊎ RefusedUnwritten known taken taken_after rack
Unwritten (Some (Generate number)) known taken taken_after rack = GeneratedUnwritten number taken taken_after rack
Unwritten (Some Replay) known taken taken_after rack = JudgedUnwritten known taken taken_after rack ⊎ RefusedLineUnwritten known taken taken_after rack
