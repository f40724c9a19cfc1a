-- What is said of a trace by lists of lengths, one for each call, said of its log.
use Rattle.std.proofs.Common.{◌≡◌, refl, sym, ap, subst, ◌∙◌, ℕ, ◌+◌, ◌-◌, ◌<◌, ◌==◌, zero, suc, List, [], ◌∷◌, length, map, get_or, arith}
use Rattle.std.specs.Prelude.{Bool, true, false, Option, Some, None, IfSome, slice_get, if◌then◌else◌}
use Rattle.std.proofs.lemmas.Option.{slice_get_within}
use Rattle.fop_types.specs.Calls.{Submission, call_numbered}
use Rattle.fop_types.specs.History.{Reply, IsLegalEntry, IsLegalHistory}
use Rattle.fop_types.specs.Replies.{IsLawfulReply, AreLawfulReplies}
use Rattle.fop_types.specs.declared.flat.FlatOp.{FlatOp}
use Rattle.fop_types.specs.declared.history.Entry.{Entry}
use Rattle.script_lang.specs.declared.scripts.Script.{Script}
use Rattle.mount_log.specs.Submissions.{submissions_of, replies_of, count_below, submit_event, event_of_reply, length_since, length_until}
use Rattle.mount_log.specs.declared.logs.HubEvent.{HubEvent}
use Rattle.mount_log.specs.declared.logs.HubEvent.TheVariants as logged
use Rattle.mount_log.specs.declared.logs.Log.{Log}
use Rattle.history_replay.specs.Traces.{Trace, of_call, IsLawfulWith}
use Rattle.log_calls.specs.Events.{submit_events}
use Rattle.log_replay.specs.Events.{HasReplyEvents}
use Rattle.log_replay.specs.Judged.{IsOneFileSystem}
use Rattle.log_replay.specs.Lengths.{trace_of, HasLengths}

-- ---- numbers by call that agree where there is a call

abbrev AgreeOn : List Submission → (ℕ → ℕ) → (ℕ → ℕ) → Type 0
AgreeOn calls f g = (number : ℕ) (s : Submission) → call_numbered calls number ≡ Some s → f number ≡ g number

legal_same : (calls : List Submission) (replies : List Reply) (f g : ℕ → ℕ) (places : ℕ → List ℕ) (ops : List FlatOp) (history : List Entry) → AgreeOn calls f g
    → IsLegalHistory calls replies f places ops history → IsLegalHistory calls replies g places ops history
legal_same calls replies f g places ops history same h = record {
  as_many = h.as_many;
  distinct = h.distinct;
  legal = λ index entry there. let e = h.legal index entry there in
      subst (λ (n : ℕ). IsLegalEntry calls replies n places ops index entry) (same entry.call e.submission e.asked) e;
  in_order = h.in_order;
  written = h.written;
}

lawful_same : (calls : List Submission) (replies : List Reply) (f g u v : ℕ → ℕ) (ops : List FlatOp) (history : List Entry) (answered : ℕ → ℕ) → AgreeOn calls f g → AgreeOn calls u v
    → AreLawfulReplies calls replies ops history f u answered → AreLawfulReplies calls replies ops history g v answered
lawful_same calls replies f g u v ops history answered same_since same_until h = record {
  once = h.once;
  in_order = h.in_order;
  each = λ k r there. let l = h.each k r there in
      subst (λ (n : ℕ). IsLawfulReply calls replies ops history (g r.call) n (answered r.call) r) (same_until r.call l.submission l.asked)
      (subst (λ (n : ℕ). IsLawfulReply calls replies ops history n (u r.call) (answered r.call) r) (same_since r.call l.submission l.asked) l);
}

-- ---- the index of a call

abbrev IndexOf : List Submission → ℕ → Type 0
IndexOf calls number = (k : ℕ) × (number ≡ suc k) × (k < length calls)

index_of : (calls : List Submission) (number : ℕ) (s : Submission) → call_numbered calls number ≡ Some s → IndexOf calls number
index_of calls zero s there = absurd cc
index_of calls (suc k) s there = by (suc k == 0) refl there where
  by : (b : Bool) → (suc k == 0) ≡ b → (if b then None else slice_get calls (suc k - 1)) ≡ Some s → IndexOf calls (suc k)
  by true none is = absurd cc
  by false one is =
      let same : suc k - 1 ≡ k = omega arith in
      let at : slice_get calls k ≡ Some s = ap (slice_get calls) (sym same) ∙ is in
      (k, refl, slice_get_within calls k s at)

get_map : (f : ℕ → ℕ) (xs : List ℕ) (k : ℕ) → k < length xs → get_or (map f xs) k 0 ≡ f (get_or xs k 0)
get_map f [] k l = absurd (omega (arith, l))
get_map f (x ∷ xs) zero l = refl
get_map f (x ∷ xs) (suc k) l = get_map f xs k (omega (arith, l))

-- ---- submissions

numbered_event : (last : ℕ) (es : List HubEvent) (k : ℕ) → k < length (submit_events last es) → submit_event last es (suc k) ≡ get_or (submit_events last es) k 0
numbered_event last [] k l = absurd (omega (arith, l))
numbered_event last (logged.Submit session line ∷ es) zero l = refl
numbered_event last (logged.Submit session line ∷ es) (suc k) l = numbered_event (last + 1) es k (omega (arith, l))
numbered_event last (logged.Arrive brick bytes ∷ es) k l = numbered_event (last + 1) es k l
numbered_event last (logged.Run graph task ∷ es) k l = numbered_event (last + 1) es k l
numbered_event last (logged.Act a ∷ es) k l = numbered_event (last + 1) es k l
numbered_event last (logged.Arm brick p count a ∷ es) k l = numbered_event (last + 1) es k l

since_agrees : (log : Log) (calls : List Submission) (events since : List ℕ) → events ≡ submit_events 0 log.events → length events ≡ length calls
    → since ≡ map (λ n. count_below (n + 0) log.entered) events → AgreeOn calls (of_call since) (length_since log)
since_agrees log calls events since events_are long since_is number s there =
    let at = index_of calls number s there in
    let within : at.0 < length events = let l = at.2 in omega (arith, long, l) in
    let place : number - 1 ≡ at.0 = let n = at.1 in omega (arith, n) in
    let event : get_or events at.0 0 + 0 ≡ submit_event 0 log.events (suc at.0) =
    let zero_more : get_or events at.0 0 + 0 ≡ get_or events at.0 0 = omega arith in
    zero_more ∙ ap (λ (l : List ℕ). get_or l at.0 0) events_are ∙ sym (numbered_event 0 log.events at.0 (subst (λ (l : List ℕ). at.0 < length l) events_are within)) in
    ap (λ (n : ℕ). get_or since n 0) place ∙ ap (λ (l : List ℕ). get_or l at.0 0) since_is ∙ get_map (λ n. count_below (n + 0) log.entered) events at.0 within
    ∙ ap (λ (n : ℕ). count_below n log.entered) event ∙ ap (λ (n : ℕ). count_below (submit_event 0 log.events n) log.entered) (sym at.1)

until_agrees : (log : Log) (calls : List Submission) (events until : List ℕ) → HasReplyEvents (length calls) log.replies events
    → until ≡ map (λ n. count_below (n + 1) log.entered) events → AgreeOn calls (of_call until) (length_until log)
until_agrees log calls events until h until_is number s there =
    let at = index_of calls number s there in
    let within : at.0 < length events = let l = at.2 in let long = h.long in omega (arith, long, l) in
    let place : number - 1 ≡ at.0 = let n = at.1 in omega (arith, n) in
    let up : at.0 + 1 ≡ number = let n = at.1 in omega (arith, n) in
    ap (λ (n : ℕ). get_or until n 0) place ∙ ap (λ (l : List ℕ). get_or l at.0 0) until_is ∙ get_map (λ n. count_below (n + 1) log.entered) events at.0 within
    ∙ ap (λ (n : ℕ). count_below (n + 1) log.entered) (h.each at.0 at.2) ∙ ap (λ (n : ℕ). count_below (event_of_reply log.replies n + 1) log.entered) up

-- ---- the log

one_file_system : (script : Script) (log : Log) (t : Trace) (ops : List FlatOp) (events answered : List ℕ) → t.calls ≡ submissions_of script log → t.replies ≡ replies_of log
    → t.history ≡ log.history → events ≡ submit_events 0 log.events → length events ≡ length t.calls → HasReplyEvents (length t.calls) log.replies answered
    → t.submitted ≡ t.since → t.since ≡ map (λ n. count_below (n + 0) log.entered) events → t.until ≡ map (λ n. count_below (n + 1) log.entered) answered
    → length log.entered ≡ length log.history → IsLawfulWith t ops → IsOneFileSystem script log ops
one_file_system script log t ops events answered calls_are replies_are history_is events_are long replied submitted_is since_is until_is entered lawful =
    let submitted = since_agrees log t.calls events t.submitted events_are long (submitted_is ∙ since_is) in
    let since = since_agrees log t.calls events t.since events_are long since_is in
    let until = until_agrees log t.calls answered t.until replied until_is in
    let legal : IsLegalHistory t.calls t.replies (length_since log) lawful.places ops t.history =
    legal_same t.calls t.replies (of_call t.submitted) (length_since log) lawful.places ops t.history submitted lawful.legal in
    let replies : AreLawfulReplies t.calls t.replies ops t.history (length_since log) (length_until log) (λ number. length (lawful.places number)) =
    lawful_same t.calls t.replies (of_call t.since) (length_since log) (of_call t.until) (length_until log) ops t.history (λ number. length (lawful.places number)) since until lawful.lawful in
    record {
      places = lawful.places;
      legal = subst (λ (l : List Entry). IsLegalHistory (submissions_of script log) (replies_of log) (length_since log) lawful.places ops l) history_is
          (subst (λ (r : List Reply). IsLegalHistory (submissions_of script log) r (length_since log) lawful.places ops t.history) replies_are
          (subst (λ (c : List Submission). IsLegalHistory c t.replies (length_since log) lawful.places ops t.history) calls_are legal));
      lawful = subst (λ (l : List Entry). AreLawfulReplies (submissions_of script log) (replies_of log) ops l (length_since log) (length_until log) (λ number. length (lawful.places number))) history_is
          (subst (λ (r : List Reply). AreLawfulReplies (submissions_of script log) r ops t.history (length_since log) (length_until log) (λ number. length (lawful.places number))) replies_are
          (subst (λ (c : List Submission). AreLawfulReplies c t.replies ops t.history (length_since log) (length_until log) (λ number. length (lawful.places number))) calls_are replies));
      entered = entered;
    }

pub one_if : (script : Script) (log : Log) (calls : List Submission) (events since until : List ℕ) (o : Option (List FlatOp)) → calls ≡ submissions_of script log
    → events ≡ submit_events 0 log.events → length events ≡ length calls → HasLengths log events (length calls) since until → length log.entered ≡ length log.history
    → IfSome o (λ ops. IsLawfulWith (trace_of log calls since until) ops) → IfSome o (λ ops. IsOneFileSystem script log ops)
one_if script log calls events since until None calls_are events_are long lengths entered lawful = tt
one_if script log calls events since until (Some ops) calls_are events_are long lengths entered lawful =
    one_file_system script log (trace_of log calls since until) ops events lengths.answered calls_are refl refl events_are long lengths.replied refl lengths.since_are lengths.until_are entered lawful
