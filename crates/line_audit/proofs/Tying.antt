-- The ties of a log, from what an audit finds.
use Rattle.std.proofs.Common.{◌≡◌, refl, sym, ap, subst, ◌∙◌, arith}
use Rattle.std.specs.Prelude.{ℕ, zero, suc, ◌<◌, ◌≤◌, ◌+◌, ◌-◌, List, Some, length, slice_get, take}
use Rattle.fop_types.specs.declared.messages.Input.{Input}
use Rattle.fop_types.specs.declared.messages.Input.TheVariants.{Request}
use Rattle.wire_messages.specs.Messages.{input_in}
use Rattle.wire_messages.specs.declared.messages.Message.{Message}
use Rattle.wire_messages.specs.declared.messages.Message.TheVariants.{Whole, Wrong}
use Rattle.script_lang.specs.declared.scripts.Script.{Script}
use Rattle.mount_log.specs.Connections.{graph_of_call}
use Rattle.mount_log.specs.Follows.{IsEvent}
use Rattle.mount_log.specs.Graphs.{switches_in}
use Rattle.mount_log.specs.Submissions.{submitted_at}
use Rattle.mount_log.specs.Ties.{IsReplyTied, IsWindOfCall, IsWindTied, AreTied}
use Rattle.mount_log.specs.declared.logs.HubEvent.TheVariants as logged
use Rattle.mount_log.specs.declared.logs.Log.{Log}
use Rattle.mount_log.specs.declared.logs.ReplyLine.{ReplyLine}
use Rattle.mount_log.specs.declared.logs.WindLine.{WindLine}
use Rattle.line_audit.specs.Ended.{IsEnded}
use Rattle.log_audit.specs.Called.{IsCallAt, AreCalls, call_by}
use Rattle.mount_log.specs.Switches.{IsCounted}
use Rattle.line_audit.specs.Tied.{IsReplyFound, IsWindOf, IsWindFound, IsTied, AreLinesTied, request_at, open_at}
use Rattle.log_audit.specs.declared.calls_made.CallMade.{CallMade}
use Rattle.mount_log.specs.declared.switches.Switched.{Switched}
use Rattle.line_audit.specs.declared.tied_requests.SentFor.{SentFor}
use Rattle.mount_log.proofs.Lists.{each_next}
use Rattle.log_audit.proofs.Calling.{by_number, event_is}

-- ---- a line more

pub reply_next : (log : Log) (calls : List CallMade) (n : ℕ) (r : ReplyLine) → slice_get log.replies n ≡ Some r → IsReplyFound log calls r
    → ((k : ℕ) (y : ReplyLine) → k < n → slice_get log.replies k ≡ Some y → IsReplyFound log calls y) → (k : ℕ) (y : ReplyLine) → k < n + 1 → slice_get log.replies k ≡ Some y → IsReplyFound log calls y
reply_next log calls n r there own before = each_next (λ (k : ℕ) (y : ReplyLine). IsReplyFound log calls y) log.replies n r there own before

pub wind_next : (log : Log) (calls : List CallMade) (n : ℕ) (line : WindLine) (passed : Switched) → slice_get log.winds n ≡ Some line → IsCounted log.events passed → passed.next ≡ line.event → line.graph ≤ passed.count + 1
    → IsWindOf log calls line → ((k : ℕ) (y : WindLine) → k < n → slice_get log.winds k ≡ Some y → IsWindFound log calls y)
    → (k : ℕ) (y : WindLine) → k < n + 1 → slice_get log.winds k ≡ Some y → IsWindFound log calls y
wind_next log calls n line passed there counted next made own before = each_next (λ (k : ℕ) (y : WindLine). IsWindFound log calls y) log.winds n line there found before where
  found : IsWindFound log calls line
  found = record {
    made =
        let c : passed.count ≡ length (switches_in (take line.event log.events)) = counted.count ∙ ap (λ (m : ℕ). length (switches_in (take m log.events))) next in
        omega (arith, made, c);
    of_call = own;
  }

-- ---- all

module _ (script : Script) (log : Log) (calls : List CallMade) (are : AreCalls script log calls) where
  module _ (number : ℕ) (call : CallMade) (there : call_by calls number ≡ Some call) where
    own : IsCallAt script log (number - 1) call
    own = are.each (number - 1) call (by_number calls number call there).there

    event : submitted_at log number ≡ call.event
    event = event_is script log calls number call are (by_number calls number call there)

    place : submitted_at log number - 1 ≡ own.place
    place = let e = event in let p = own.event_is in omega (arith, e, p)

    submitted : (session line : ℕ) → call.session ≡ session → call.line ≡ line → IsEvent log (submitted_at log number) (logged.Submit session line)
    submitted session line s l = record {
      from_one = let e = event in let p = own.event_is in omega (arith, e, p);
      there = ap (slice_get log.events) place ∙ own.there ∙ ap (λ (n : ℕ). Some (logged.Submit n call.line)) s ∙ ap (λ (n : ℕ). Some (logged.Submit session n)) l;
    }

    graph : graph_of_call log number ≡ 1 + call.switches
    graph = ap (λ (n : ℕ). 1 + length (switches_in (take n log.events))) place ∙ ap (λ (n : ℕ). 1 + n) (sym own.switches_are)

  reply_tied : (reply : ReplyLine) → IsReplyFound log calls reply → IsReplyTied log reply
  reply_tied reply found = record {
    submitted = submitted reply.call found.of_call.call found.of_call.there reply.session reply.line found.of_call.session_is found.of_call.line_is;
    later = let e = event reply.call found.of_call.call found.of_call.there in let l = found.of_call.later in omega (arith, e, l);
    answered = found.answered;
  }

  wind_tied : (line : WindLine) → IsWindFound log calls line → IsWindTied log line
  wind_tied line found = record { made = found.made; of_call = λ one. of_call one } where
    of_call : 1 ≤ line.call → IsWindOfCall log line
    of_call one = record {
      later = let c = found.of_call one in let e = event line.call c.call c.there in let l = c.later in omega (arith, e, l);
      earlier = let c = found.of_call one in c.earlier;
      graph_is = let c = found.of_call one in let g = graph line.call c.call c.there in let i = c.graph_is in omega (arith, g, i);
    }

  pub tied : AreLinesTied log calls → AreTied log
  tied lines = record {
    numbers = lines.numbers;
    replies = λ k reply is. reply_tied reply (lines.replies k reply is);
    winds = λ k line is. wind_tied line (lines.winds k line is);
    requests = record {
      request_at = request_at lines.all;
      open_at = open_at lines.all;
      each = λ k number graph line request there read. subst (λ (m : Message Input). IsTied log lines.all k line.event m) read (lines.requests k line there);
    };
    ends = λ k number graph line request there read. subst (λ (m : Message Input). IsEnded log line.brick m) read (lines.ends k line there);
  }
