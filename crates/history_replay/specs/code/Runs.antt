-- The claims of a whole trace, call by call, and the run of the flat file system that bears them out.
use Rattle.std.specs.Prelude.{◌≡◌, ℕ, ◌+◌, ◌-◌, ◌<◌, ◌≤◌, ◌==◌, ◌&&◌, nat_lt, nat_le, Bool, true, false, List, [], ◌∷◌, ◌++◌, length, Option, Some, None, get_or, slice_get, replicate, if◌then◌else◌, MatchBool}
use Rattle.std.specs.FinMap.{empty}
use Rattle.std.specs.List.{slice_set}
use Rattle.fop_types.specs.Calls.{Submission, Descriptors, after_answer, looked_up, lookups, makes, last_part_number}
use Rattle.fop_types.specs.Files.{Files, first_files}
use Rattle.fop_types.specs.Flat.{flat, flat_answer, flat_after, IsChange}
use Rattle.fop_types.specs.History.{Reply, fs_after}
use Rattle.fop_types.specs.declared.answers.Answer.{Answer}
use Rattle.fop_types.specs.declared.flat.FlatOp.{FlatOp}
use Rattle.fop_types.specs.declared.flat.FlatOp.TheVariants.{Lookup}
use Rattle.fop_types.specs.declared.history.Entry.{Entry}
use Rattle.history_replay.specs.Traces.{Trace}
use Rattle.history_replay.specs.code.Cases.{Case, case_claims, file_given, are_between}
use Rattle.history_replay.specs.code.Claims.{IsFound, IsReplied, IsRepliedIf, IsEntered, IsHeld, AreHeld}
use Rattle.history_replay.specs.declared.claims.Claim.{Claim}
use Rattle.history_replay.specs.declared.claims.Claim.TheVariants as claim
use Rattle.history_replay.specs.declared.findings.Findings.{Findings}
use Rattle.history_replay.specs.declared.progress.Progress.{Progress as Kept}
use Rattle.history_replay.specs.declared.steps.Change.{Change}
use Rattle.history_replay.specs.declared.steps.Pass.{Pass}
use Rattle.history_replay.specs.declared.steps.Pass.TheVariants as passed
use Rattle.history_replay.specs.declared.steps.Run.{Run}
use Rattle.history_replay.specs.declared.steps.Step.{Step}

-- ---- the case of a call

abbrev pub places_in : Option Reply → List ℕ
places_in None = []
places_in (Some r) = r.places

abbrev pub answer_in : ℕ → Option Reply → Option (ℕ × Answer)
answer_in k None = None
answer_in k (Some r) = Some (k, r.answer)

-- the places of a reply, and its answer, by its index
abbrev pub places_by : List Reply → Option ℕ → List ℕ
places_by replies None = []
places_by replies (Some k) = places_in (slice_get replies k)

abbrev pub answer_by : List Reply → Option ℕ → Option (ℕ × Answer)
answer_by replies None = None
answer_by replies (Some k) = answer_in k (slice_get replies k)

-- the index of the reply to the call at an index
abbrev pub reply_at : Findings → ℕ → Option ℕ
reply_at f at = get_or f.replied at None

-- the call at an index; `count` is how many calls have their replies looked at, and `made` how many objects calls asked for, up
-- to this one
abbrev pub case_of : Trace → Findings → ℕ → ℕ → Submission → ℕ → Case
case_of t f count at s made = record {
  call = s.call;
  lookups = lookups (looked_up s.call);
  places = places_by t.replies (reply_at f at);
  found = get_or f.found at [];
  drawn = record { hi = 0; lo = 1 + made };
  submitted = get_or t.submitted at 0;
  seen = get_or f.seen at 0;
  first = get_or f.first at None;
  last = get_or f.last at None;
  reply = if nat_lt at count then answer_by t.replies (reply_at f at) else None;
}

-- ---- call by call

-- so far: the number of calls, the descriptors of each session, how many replies are not behind those of each session's
-- calls, how many objects were asked for, and the claims
pub record Progress : Type 0 where
  pub at : ℕ
  pub fds : List Descriptors
  pub bounds : List ℕ
  pub made : ℕ
  pub claims : List Claim

abbrev pub fits_reply : Trace → ℕ → ℕ → ℕ → Option Reply → Bool
fits_reply t at bound k None = false
fits_reply t at bound k (Some r) =
    (r.call == at + 1) && (nat_le bound k
    && (are_between r.places (get_or t.since at 0) (get_or t.until at 0) && nat_le (get_or t.until at 0) (length t.history)))

-- a reply is that of the call, is behind those of the session's calls before it, and has its places between the bounds
abbrev pub fits : Trace → ℕ → ℕ → Option ℕ → Bool
fits t at bound None = true
fits t at bound (Some k) = fits_reply t at bound k (slice_get t.replies k)

abbrev pub fds_after : List Descriptors → ℕ → Case → Option (ℕ × Answer) → List Descriptors
fds_after fds session c None = fds
fds_after fds session c (Some (k, answer)) =
    slice_set fds session (after_answer (get_or fds session empty) c.call (file_given c) answer)

abbrev pub bounds_after : List ℕ → ℕ → Option ℕ → List ℕ
bounds_after bounds session None = bounds
bounds_after bounds session (Some k) = slice_set bounds session (k + 1)

-- after a call with these claims, `made` objects being asked for up to it
abbrev pub after_claims : Trace → Findings → Progress → Submission → ℕ → Case → Option (List Claim) → Option Progress
after_claims t f p s made c None = None
after_claims t f p s made c (Some claims) = Some (record {
  at = p.at + 1;
  fds = fds_after p.fds s.session c (answer_by t.replies (reply_at f p.at));
  bounds = bounds_after p.bounds s.session (reply_at f p.at);
  made = made;
  claims = p.claims ++ claims;
})

abbrev pub after_case : Trace → Findings → Progress → Submission → Case → Option (List Claim) → Option Progress
after_case t f p s c claims = after_claims t f p s (p.made + makes s.call) c claims

abbrev pub has_session : Progress → ℕ → Bool
has_session p session = nat_lt session (length p.fds) && nat_lt session (length p.bounds)

abbrev pub fits_by : Trace → Findings → ℕ → Progress → Submission → Bool
fits_by t f count p s = if nat_lt p.at count then fits t p.at (get_or p.bounds s.session 0) (reply_at f p.at) else true

abbrev pub fits_at : Trace → Findings → ℕ → Progress → Submission → Bool
fits_at t f count p s = has_session p s.session && fits_by t f count p s

abbrev pub after_submission : Trace → Findings → ℕ → Progress → Submission → Case → Option Progress
after_submission t f count p s c =
    if fits_at t f count p s then after_case t f p s c (case_claims c (get_or p.fds s.session empty)) else None

abbrev pub after_call : Trace → Findings → ℕ → Progress → Submission → Option Progress
after_call t f count p s = after_submission t f count p s (case_of t f count p.at s (p.made + makes s.call))

abbrev pub after_calls : Trace → Findings → ℕ → Option Progress → List Submission → Option Progress
after_calls t f count None calls = None
after_calls t f count (Some p) [] = Some p
after_calls t f count (Some p) (s ∷ calls) = after_calls t f count (after_call t f count p s) calls

abbrev pub begun : Progress
begun = record { at = 0; fds = replicate 256 empty; bounds = replicate 256 0; made = 0; claims = [] }

-- the claims of all calls
pub record AreClaimsOf (t : Trace) (f : Findings) (count : ℕ) (claims : List Claim) : Type 0 where
  pub end : Progress
  pub reached : after_calls t f count (Some begun) t.calls ≡ Some end
  pub claims_are : end.claims ≡ claims

-- the state that the code keeps
abbrev pub state_of : Kept → Progress
state_of p = record { at = p.at; fds = p.fds.items; bounds = p.bounds.items; made = p.made; claims = p.claims }

-- what a function that may go on says of where it is
abbrev pub GoesTo : Bool → Progress → Option Progress → Type 0
GoesTo did p None = did ≡ false
GoesTo did p (Some q) = (did ≡ true) × (p ≡ q)

-- ---- indices

-- where an entry of a call is to be found
abbrev pub index_by : Findings → ℕ → Entry → Option Submission → Option ℕ
index_by f at e None = None
index_by f at e (Some s) =
    if e.part == last_part_number s.call then get_or f.last at None else (if e.part == 1 then get_or f.first at None else None)

pub record IsEntryFound (t : Trace) (f : Findings) (index : ℕ) (e : Entry) : Type 0 where
  pub from_one : 0 < e.call
  pub found : index_by f (e.call - 1) e (slice_get t.calls (e.call - 1)) ≡ Some index

pub record IsReplyFound (t : Trace) (f : Findings) (index call : ℕ) : Type 0 where
  pub from_one : 0 < call
  pub within : call ≤ length t.calls
  pub found : reply_at f (call - 1) ≡ Some index

-- the last part of a call, if it is said to have one, is in the history
abbrev pub IsLastOf : Trace → ℕ → Submission → Option ℕ → Type 0
IsLastOf t at s None = Unit {0}
IsLastOf t at s (Some index) = slice_get t.history index ≡ Some (record { call = at + 1; part = last_part_number s.call })

abbrev pub AreRepliesFound : Trace → Findings → Type 0
AreRepliesFound t f = (k : ℕ) (r : Reply) → slice_get t.replies k ≡ Some r → IsReplyFound t f k r.call

abbrev pub AreEntriesFound : Trace → Findings → Type 0
AreEntriesFound t f = (i : ℕ) (e : Entry) → slice_get t.history i ≡ Some e → IsEntryFound t f i e

abbrev pub AreLasts : Trace → Findings → Type 0
AreLasts t f = (at : ℕ) (s : Submission) → slice_get t.calls at ≡ Some s → IsLastOf t at s (get_or f.last at None)

-- each reply and each entry is found by its call
pub record AreIndexed (t : Trace) (f : Findings) : Type 0 where
  pub replies : AreRepliesFound t f
  pub entries : AreEntriesFound t f
  pub lasts : AreLasts t f

-- ---- the run

-- a claim about the files at a place, which are these
abbrev pub IsHeldOn : Files → ℕ → List Reply → Claim → Type 0
IsHeldOn files at replies (claim.Finds place parent name found) = (place ≡ at) × IsFound found (flat_answer files (Lookup parent name))
IsHeldOn files at replies (claim.Answers place op reply) = (place ≡ at) × IsReplied replies reply (flat_answer files op)
IsHeldOn files at replies (claim.Accepts place op) = (place ≡ at) × IsChange (flat files op)
IsHeldOn files at replies (claim.Says reply answer) = ⊥
IsHeldOn files at replies (claim.Enters index op reply) = ⊥

abbrev pub AreHeldOn : Files → ℕ → List Reply → List Claim → Type 0
AreHeldOn files at replies [] = Unit {0}
AreHeldOn files at replies (c ∷ claims) = IsHeldOn files at replies c × AreHeldOn files at replies claims

pub record IsDone (files : Files) (replies : List Reply) (change : Change) : Type 0 where
  pub accepted : IsChange (flat files change.op)
  pub answered : IsRepliedIf replies change.reply (flat_answer files change.op)

-- The steps from a place on: at each the claims hold on the files as they are, and then the entry's change is made. The last
-- step, and no other, has no entry.
abbrev pub RunsBy : Option Change → Files → List Reply → List Step → (Files → Type 0) → Type 0
RunsBy None files replies steps more = steps ≡ []
RunsBy (Some change) files replies steps more = IsDone files replies change × more (flat_after files change.op)

abbrev pub Runs : Files → ℕ → List Reply → List Step → Type 0
Runs files at replies [] = ⊥
Runs files at replies (step ∷ steps) =
    AreHeldOn files at replies step.claims × RunsBy step.change files replies steps (λ after. Runs after (at + 1) replies steps)

-- how a step passes: without a change it is the last one; with one the others follow on the files after it
abbrev pub Passes : Pass → Files → Files → ℕ → List Reply → Step → Type 0
Passes passed.Fails before after at replies step = Unit {0}
Passes passed.Ends before after at replies step = Runs before at replies (step ∷ [])
Passes passed.GoesOn before after at replies step = (rest : List Step) → Runs after (at + 1) replies rest → Runs before at replies (step ∷ rest)

-- how a change passes, on the files before and after it
abbrev pub IsMadeBy : Option Change → Files → Files → List Reply → Type 0
IsMadeBy None before after replies = ⊥
IsMadeBy (Some change) before after replies = IsDone before replies change × (after ≡ flat_after before change.op)

abbrev pub PassesBy : Pass → Files → Files → List Reply → Option Change → Type 0
PassesBy passed.Fails before after replies change = Unit {0}
PassesBy passed.Ends before after replies change = change ≡ None
PassesBy passed.GoesOn before after replies change = IsMadeBy change before after replies

-- the operations of the steps' entries
abbrev pub with_op : Option Change → List FlatOp → List FlatOp
with_op None ops = ops
with_op (Some change) ops = change.op ∷ ops

abbrev pub ops_of : List Step → List FlatOp
ops_of [] = []
ops_of (step ∷ steps) = with_op step.change (ops_of steps)

-- steps that lead to others
abbrev pub LeadsOn : Files → ℕ → List Reply → List Step → Type 0
LeadsOn files at replies passed = (rest : List Step) → Runs files at replies rest → Runs first_files 0 replies (passed ++ rest)

-- a run that took these steps is at its end, or can go on; its operations are theirs
pub record HasRun (run : Run) (replies : List Reply) (passed : List Step) : Type 0 where
  pub so_far : MatchBool run.ended (Runs first_files 0 replies passed) (LeadsOn run.files run.at replies passed)
  pub ops_are : run.ops ≡ ops_of passed

abbrev pub Takes : Run → Run → List Reply → Step → Type 0
Takes before after replies step = (passed : List Step) → HasRun before replies passed → HasRun after replies (passed ++ step ∷ [])

-- the steps run, with these operations
pub record RunsWith (replies : List Reply) (steps : List Step) (ops : List FlatOp) : Type 0 where
  pub runs : Runs first_files 0 replies steps
  pub ops_are : ops ≡ ops_of steps

-- ---- steps that are borne out by operations

abbrev pub IsChangeHeld : List FlatOp → List Reply → ℕ → Option Change → Type 0
IsChangeHeld ops replies at None = Unit {0}
IsChangeHeld ops replies at (Some change) = IsEntered ops replies at change.op change.reply

pub record IsStepHeld (ops : List FlatOp) (replies : List Reply) (at : ℕ) (step : Step) : Type 0 where
  pub claims : AreHeldOn (fs_after ops at) at replies step.claims
  pub change : IsChangeHeld ops replies at step.change

abbrev pub AreBorne : List FlatOp → List Reply → List Step → Type 0
AreBorne ops replies steps = (at : ℕ) (step : Step) → slice_get steps at ≡ Some step → IsStepHeld ops replies at step

abbrev pub with_claim : Step → Claim → Step
with_claim step c = record step { claims = step.claims ++ c ∷ [] }

abbrev pub with_change : Step → Change → Step
with_change step change = record step { change = Some change }

-- a claim was put to the others
abbrev pub PutsClaim : List Step → List Step → ℕ → Claim → Type 0
PutsClaim before after place c =
    (ops : List FlatOp) (replies : List Reply) → AreBorne ops replies after → AreBorne ops replies before × IsHeldOn (fs_after ops place) place replies c

abbrev pub PutsChange : List Step → List Step → ℕ → Change → Type 0
PutsChange before after index change =
    (ops : List FlatOp) (replies : List Reply) → AreBorne ops replies after
    → AreBorne ops replies before × IsEntered ops replies index change.op change.reply

abbrev pub Puts : List Reply → List Step → List Step → Claim → Type 0
Puts replies before after c =
    (ops : List FlatOp) → AreBorne ops replies after → AreBorne ops replies before × IsHeld ops replies c

-- operations that bear the steps out bear the claims out; there is a step for each entry, and one more
pub record ArePut (replies : List Reply) (entries : ℕ) (claims : List Claim) (steps : List Step) : Type 0 where
  pub count : length steps ≡ entries + 1
  pub held : (ops : List FlatOp) → AreBorne ops replies steps → AreHeld ops replies claims

-- the claims hold with these operations, one for each entry
pub record Bears (replies : List Reply) (entries : ℕ) (claims : List Claim) (ops : List FlatOp) : Type 0 where
  pub as_many : length ops ≡ entries
  pub held : AreHeld ops replies claims
