-- The phases in which calls are submitted and answered, and that those of a session are so one at a time.
use Rattle.std.specs.Prelude.{◌≡◌, ℕ, ◌+◌, ◌-◌, ◌<◌, ◌≤◌, List, Some, length, slice_get}
use Rattle.script_lang.specs.declared.scripts.Script.{Script}
use Rattle.mount_log.specs.Turns.{IsRepliedBy, AreAlone}
use Rattle.mount_log.specs.declared.logs.Log.{Log}
use Rattle.mount_log.specs.declared.logs.ReplyLine.{ReplyLine}
use Rattle.log_audit.specs.Called.{AreCalls, call_by}
use Rattle.log_audit.specs.declared.calls_made.CallMade.{CallMade}
use Rattle.run_audit.specs.Noted.{ended_at, IsWithin}

abbrev pub AreInPhases : List ℕ → ℕ → List CallMade → Type 0
AreInPhases ended last calls = (n : ℕ) (call : CallMade) → slice_get calls n ≡ Some call → IsWithin ended last call.phase call.event

pub record IsAnsweredIn (calls : List CallMade) (ended : List ℕ) (last : ℕ) (reply : ReplyLine) : Type 0 where
  pub call : CallMade
  pub there : call_by calls reply.call ≡ Some call
  pub until : reply.event ≤ ended_at ended last call.phase

abbrev pub AreAnsweredIn : List CallMade → List ℕ → ℕ → List ReplyLine → Type 0
AreAnsweredIn calls ended last replies = (k : ℕ) (reply : ReplyLine) → slice_get replies k ≡ Some reply → IsAnsweredIn calls ended last reply

-- replies are to calls that are numbered from 1, no two to the same
pub record AreSingle (replies : List ReplyLine) : Type 0 where
  pub from_one : (k : ℕ) (reply : ReplyLine) → slice_get replies k ≡ Some reply → 1 ≤ reply.call
  pub once : (j k : ℕ) (a b : ReplyLine) → slice_get replies j ≡ Some a → slice_get replies k ≡ Some b → a.call ≡ b.call → j ≡ k

-- the place of each reply to one of so many calls is at the place of its call
abbrev pub ArePlaces : List ReplyLine → List ℕ → Type 0
ArePlaces replies places = (m k : ℕ) (reply : ReplyLine) → m < length places → slice_get replies k ≡ Some reply → reply.call ≡ m + 1 → slice_get places m ≡ Some k

-- among the first n calls, those of a session have a reply by an event
abbrev pub AreReplied : Log → List CallMade → ℕ → ℕ → ℕ → Type 0
AreReplied log calls session n number = (m : ℕ) (call : CallMade) → m < n → slice_get calls m ≡ Some call → call.session ≡ session → IsRepliedBy log (m + 1) number

-- each call finds the earlier ones of its session replied to
abbrev pub AreOneByOne : Log → List CallMade → Type 0
AreOneByOne log calls = (n : ℕ) (call : CallMade) → slice_get calls n ≡ Some call → AreReplied log calls call.session n (call.event - 1)

-- the calls are submitted one at a time, and answered in their phases
pub record HaveCalls (script : Script) (log : Log) (ended : List ℕ) (last : ℕ) : Type 0 where
  pub calls : List CallMade
  pub are : AreCalls script log calls
  pub alone : AreAlone log
  pub submitted : AreInPhases ended last calls
  pub answered : AreAnsweredIn calls ended last log.replies
