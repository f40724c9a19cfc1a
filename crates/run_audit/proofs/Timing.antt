-- The moments of controls, from what an audit finds.
use Rattle.std.proofs.Common.{◌≡◌, refl, sym, ap, subst, ◌∙◌, arith, inl, inr}
use Rattle.std.specs.Prelude.{ℕ, ◌+◌, ◌-◌, ◌<◌, ◌≤◌, ◌⊎◌, false, is_some, List, Option, Some, None, length, slice_get, take}
use Rattle.std.proofs.lemmas.Option.{slice_get_within}
use Rattle.fop_types.specs.declared.messages.Proc.{Proc}
use Rattle.script_lang.specs.declared.scripts.ControlLine.{ControlLine}
use Rattle.script_lang.specs.declared.scripts.Phase.{Phase}
use Rattle.script_lang.specs.declared.scripts.Script.{Script}
use Rattle.script_lang.specs.declared.scripts.When.{When}
use Rattle.script_lang.specs.declared.scripts.When.TheVariants as moment
use Rattle.mount_log.proofs.Items.{some_is}
use Rattle.mount_log.specs.Arms.{requests_since, IsNth}
use Rattle.mount_log.specs.Controls.{control_in, control_at, IsRequestOf, HasNotCome, IsFollowing, HasCome, IsFirstLeft, IsTimely, Now, Come, Left}
use Rattle.mount_log.specs.Phases.{Course, begun_at}
use Rattle.mount_log.specs.Submissions.{count_below}
use Rattle.mount_log.specs.Procedures.{rank_in, proc_in}
use Rattle.mount_log.specs.declared.logs.Log.{Log}
use Rattle.mount_log.specs.declared.logs.SentLine.{SentLine}
use Rattle.run_audit.specs.Controlled.{IsFound, ArePhasesCarried, AreTables}
use Rattle.run_audit.specs.Counting.{AreNumbers, IsSettled}
use Rattle.run_audit.specs.Noted.{among, event_in, how_at, carried_at, course_of, begun, IsWithin}
use Rattle.run_audit.specs.Timed.{IsOther, IsAfter, AreEarlier, IsRequestNoted, AreRequestsNoted}
use Rattle.run_audit.specs.declared.carried.SentTables.{SentTables}
use Rattle.run_audit.specs.declared.numbers.Numbers.{Numbers}
use Rattle.run_audit.specs.declared.run_notes.Carried.{Carried}
use Rattle.run_audit.specs.declared.run_notes.ControlAt.{ControlAt}
use Rattle.run_audit.specs.declared.run_notes.RunNotes.{RunNotes}
use Rattle.run_audit.proofs.Controlling.{IsRank, rank_by_proc}
use Rattle.run_audit.proofs.Settling.{as_many, nothing_else}
use Rattle.run_audit.proofs.OneByOne.{HasItem, has_item}

-- a line that is counted in its phase
pub nth_is : (log : Log) (notes : RunNotes) (tables : SentTables) → AreTables notes.ended log tables → (phase place count : ℕ) (p : Proc) (line : SentLine) → slice_get log.sent place ≡ Some line
    → proc_in line.bytes ≡ Some p → IsWithin notes.ended (length log.events) phase line.event → slice_get tables.nth.items place ≡ Some count → IsNth log (begun notes.ended (length log.events) phase) place count
nth_is log notes tables are phase place count p line there is within nth = record {
  line = line;
  there = there;
  rank = ranked.rank;
  rank_is = ranked.is;
  count_is = are.nth place count nth line there phase ranked.rank within ranked.is;
} where
  ranked : IsRank (rank_in line.bytes)
  ranked = rank_by_proc (rank_in line.bytes) p is

pub following : (script : Script) (notes : RunNotes) (last phase number : ℕ) (at : ControlAt) (control : ControlLine) → at.phase ≡ phase → carried_at notes.carried at.phase at.at ≡ number
    → control_at script at.phase at.at ≡ Some control → IsAfter control → IsFollowing script (course_of notes last) phase number
following script notes last phase number at control e n there after = record {
  at = at.at;
  control = control;
  brick = after.brick;
  proc = after.proc;
  count = after.count;
  there = subst (λ (p : ℕ). control_at script p at.at ≡ Some control) e there;
  when_is = after.when_is;
  number_is = subst (λ (p : ℕ). carried_at notes.carried p at.at ≡ number) e n;
}

pub first_left : (script : Script) (log : Log) (numbers : Numbers) (notes : RunNotes) → AreNumbers log numbers → (phase at number : ℕ) (here : Phase) (carried : List Carried)
    → IsSettled script numbers phase (number - 1) → slice_get script.phases phase ≡ Some here → carried ≡ among (slice_get notes.carried phase) → AreEarlier here.controls carried at number (length here.controls)
    → IsFirstLeft script log (course_of notes (length log.events)) phase at number
first_left script log numbers notes are phase at number here carried settled is among_is earlier = record {
  nothing_else = nothing_else log numbers are script phase (number - 1) settled;
  first = first;
} where
  first : (j : ℕ) (c : ControlLine) → control_at script phase j ≡ Some c → (j < at) ⊎ (c.when ≡ moment.Now) → carried_at notes.carried phase j < number
  first j c there which =
      let own : slice_get here.controls j ≡ Some c = sym (ap (λ (o : Option Phase). control_in o j) is) ∙ there in
      subst (λ (l : List Carried). event_in (slice_get l j) < number) among_is (earlier j c (slice_get_within here.controls j c own) own which)

-- ---- the other way round

module _ (log : Log) (notes : RunNotes) (tables : SentTables) (are : AreTables notes.ended log tables) (phase place count : ℕ) (line : SentLine) (there : slice_get log.sent place ≡ Some line) (within : IsWithin notes.ended (length log.events) phase line.event) where
  found : HasItem tables.nth.items place
  found = has_item tables.nth.items place (let m = are.many in let w = slice_get_within log.sent place line there in omega (arith, m, w))

  -- the request of a number is counted so
  pub nth_there : IsNth log (begun notes.ended (length log.events) phase) place count → slice_get tables.nth.items place ≡ Some count
  nth_there is =
      let own : is.line ≡ line = some_is is.line line (sym is.there ∙ there) in
      let counted : requests_since (begun notes.ended (length log.events) phase) line.brick is.rank (take (place + 1) log.sent) ≡ found.item =
      are.nth place found.item found.there line there phase is.rank within (subst (λ (l : SentLine). rank_in l.bytes ≡ Some is.rank) own is.rank_is) in
      let asked : requests_since (begun notes.ended (length log.events) phase) line.brick is.rank (take (place + 1) log.sent) ≡ count =
      subst (λ (l : SentLine). requests_since (begun notes.ended (length log.events) phase) l.brick is.rank (take (place + 1) log.sent) ≡ count) own is.count_is in
      found.there ∙ ap Some (sym counted ∙ asked)

  -- a request that is not the one of this number is counted as another
  pub other_there : (brick number : ℕ) (p : Proc) → line.brick ≡ brick → proc_in line.bytes ≡ Some p → line.event < number
      → (IsRequestOf log (begun notes.ended (length log.events) phase) place brick p count line → number ≤ line.event) → IsOther tables.nth.items place count
  other_there brick number p same proc early none = record {
    number = found.item;
    there = found.there;
    differs = λ e. absurd (let n = none (record { there = there; same_brick = same; is_request = proc; behind = within.behind; nth = nth_is log notes tables are phase place count p line there proc within (found.there ∙ ap Some e) }) in omega (arith, n, early));
  }

-- the line of a request that has come is in the phase
pub come_within : (ended : List ℕ) (last phase number event : ℕ) → IsWithin ended last phase number → begun ended last phase < event → event < number → IsWithin ended last phase event
come_within ended last phase number event within behind early = record { behind = behind; until = let u = within.until in omega (arith, u, early) }

pub earlier_by : (script : Script) (log : Log) (notes : RunNotes) (phase at number : ℕ) (here : Phase) (carried : List Carried) → slice_get script.phases phase ≡ Some here → carried ≡ among (slice_get notes.carried phase)
    → IsFirstLeft script log (course_of notes (length log.events)) phase at number → AreEarlier here.controls carried at number (length here.controls)
earlier_by script log notes phase at number here carried is among_is left j c lt there which =
    subst (λ (l : List Carried). event_in (slice_get l j) < number) (sym among_is) (left.first j c (ap (λ (o : Option Phase). control_in o j) is ∙ there) which)

-- ---- the moment of a control, by its kind

abbrev NotComeFor : Log → ℕ → ℕ → When → Type 0
NotComeFor log since number moment.Now = Unit {0}
NotComeFor log since number (moment.Before brick p count) = HasNotCome log since number brick p count
NotComeFor log since number (moment.After brick p count) = HasNotCome log since number brick p count

abbrev ComeFor : Script → Log → Course → ℕ → ℕ → When → Type 0
ComeFor script log course phase number moment.Now = Unit {0}
ComeFor script log course phase number (moment.Before brick p count) = HasCome script log course phase number brick p count
ComeFor script log course phase number (moment.After brick p count) = HasCome script log course phase number brick p count

module _ (script : Script) (log : Log) (course : Course) (phase at number : ℕ) (c : ControlLine) where
  pub now_by : (numbers : Numbers) → AreNumbers log numbers → c.when ≡ moment.Now → IsTimely script log course phase at number c → count_below number numbers.internal ≡ count_below number numbers.answered
  now_by numbers are now (Now is counts) = as_many number _ _ numbers.internal numbers.answered (sym are.internal) (sym are.answered) counts
  now_by numbers are now (Come brick count p is come) = absurd (let x : moment.After brick p count ≡ moment.Now = sym is ∙ now in cc)
  now_by numbers are now (Left brick count p (inl is) none first) = absurd (let x : moment.Before brick p count ≡ moment.Now = sym is ∙ now in cc)
  now_by numbers are now (Left brick count p (inr is) none first) = absurd (let x : moment.After brick p count ≡ moment.Now = sym is ∙ now in cc)

  pub before_by : (brick count : ℕ) (p : Proc) → c.when ≡ moment.Before brick p count → IsTimely script log course phase at number c
      → HasNotCome log (begun_at course.ended_at phase) number brick p count × IsFirstLeft script log course phase at number
  before_by brick count p when_is (Now is counts) = absurd (let x : moment.Before brick p count ≡ moment.Now = sym when_is ∙ is in cc)
  before_by brick count p when_is (Come b n q is come) = absurd (let x : moment.Before brick p count ≡ moment.After b q n = sym when_is ∙ is in cc)
  before_by brick count p when_is (Left b n q (inl is) none first) = (subst (λ (w : When). NotComeFor log (begun_at course.ended_at phase) number w) (sym is ∙ when_is) none, first)
  before_by brick count p when_is (Left b n q (inr is) none first) = absurd (let x : moment.Before brick p count ≡ moment.After b q n = sym when_is ∙ is in cc)

  -- of one that follows a request, which has not come
  pub after_by : (brick count : ℕ) (p : Proc) → c.when ≡ moment.After brick p count → (HasCome script log course phase number brick p count → ⊥) → IsTimely script log course phase at number c
      → HasNotCome log (begun_at course.ended_at phase) number brick p count × IsFirstLeft script log course phase at number
  after_by brick count p when_is not_yet (Now is counts) = absurd (let x : moment.After brick p count ≡ moment.Now = sym when_is ∙ is in cc)
  after_by brick count p when_is not_yet (Come b n q is come) = absurd (not_yet (subst (λ (w : When). ComeFor script log course phase number w) (sym is ∙ when_is) come))
  after_by brick count p when_is not_yet (Left b n q (inl is) none first) = absurd (let x : moment.After brick p count ≡ moment.Before b q n = sym when_is ∙ is in cc)
  after_by brick count p when_is not_yet (Left b n q (inr is) none first) = (subst (λ (w : When). NotComeFor log (begun_at course.ended_at phase) number w) (sym is ∙ when_is) none, first)

-- ---- the controls of a phase

pub not_some : (o : Option ℕ) → is_some o ≡ false → o ≡ None
not_some None e = refl
not_some (Some n) e = absurd cc

-- how a control of a phase was carried out, that all were
pub record IsReady (script : Script) (log : Log) (notes : RunNotes) (phase at : ℕ) (c : ControlLine) : Type 0 where
  pub how : Carried
  pub is : how_at notes.carried phase at ≡ Some how
  pub within : IsWithin notes.ended (length log.events) phase how.event
  pub noted : how.sent ≡ None → IsRequestNoted script log (course_of notes (length log.events)) phase how.event c how.request

pub ready : (script : Script) (log : Log) (tables : SentTables) (notes : RunNotes) → ArePhasesCarried script log tables notes → AreRequestsNoted script log notes → (phase at : ℕ) (here : Phase) (c : ControlLine)
    → slice_get script.phases phase ≡ Some here → slice_get here.controls at ≡ Some c → IsReady script log notes phase at c
ready script log tables notes carried requests phase at here c is there = by (how_at notes.carried phase at) refl ((carried phase here is).each at c there) where
  by : (o : Option Carried) → how_at notes.carried phase at ≡ o → IsFound log tables notes phase at c o → IsReady script log notes phase at c
  by None e none = absurd none
  by (Some how) e own = record { how = how; is = e; within = own.within; noted = requests phase at c how (ap (λ (o : Option Phase). control_in o at) is ∙ there) e }
