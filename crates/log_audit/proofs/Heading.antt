-- What arrives is timely by its head.
use Rattle.std.proofs.Common.{◌≡◌, ℕ, zero, suc, List, [], ◌∷◌, None, sym, ap, subst, ◌∙◌, arith}
use Rattle.std.specs.Prelude.{◌<◌, ◌≤◌, length, slice_get}
use Rattle.std.specs.Option.{option_map}
use Rattle.mount_log.proofs.Heading.{head_there}
use Rattle.fop_types.specs.declared.messages.Output.{Output}
use Rattle.wire_messages.specs.declared.messages.Message.{Message}
use Rattle.wire_messages.specs.declared.messages.Message.TheVariants.{Whole, Wrong}
use Rattle.wire_messages.specs.Messages.{output_in}
use Rattle.mount_log.specs.Arrivals.{sent_before}
use Rattle.mount_log.specs.declared.logs.HubEvent.{HubEvent}
use Rattle.mount_log.specs.declared.logs.HubEvent.TheVariants as logged
use Rattle.mount_log.specs.declared.logs.SentLine.{SentLine}
use Rattle.mount_log.specs.declared.heads.Head.{Head}
use Rattle.log_audit.specs.Arriving.{CountsAtMost, IsTimely}
use Rattle.mount_log.specs.Heads.{head_in, head_of, heads_of}

-- what arrives in an event is timely, where no more inputs are counted by its head than were sent before
counts_by_head : (m : Message Output) (h : Head) (many bound : ℕ) → h ≡ head_in m → h.taken ≤ many → many ≤ bound → CountsAtMost m bound
counts_by_head (Whole output) h many bound is few below = let taken : h.taken ≡ output.taken = ap (λ (x : Head). x.taken) is in omega (arith, taken, few, below)
counts_by_head (Wrong place) h many bound is few below = tt

pub timely_by_head : (brick many : ℕ) (e : HubEvent) (h : Head) → h ≡ head_of e → h.taken ≤ many
    → (sent : List SentLine) (number : ℕ) → many ≤ sent_before number brick sent → IsTimely brick sent number e
timely_by_head brick many (logged.Arrive from bytes) h is few sent number below = λ same. counts_by_head (output_in bytes) h many (sent_before number brick sent) is few below
timely_by_head brick many (logged.Submit session line) h is few sent number below = tt
timely_by_head brick many (logged.Run graph task) h is few sent number below = tt
timely_by_head brick many (logged.Act a) h is few sent number below = tt
timely_by_head brick many (logged.Arm at p count a) h is few sent number below = tt

-- ---- and no more are counted by it, where it is timely

none_more : (m : Message Output) (h : Head) (many bound : ℕ) → h ≡ head_in m → bound ≤ many → CountsAtMost m bound → h.taken ≤ many
none_more (Whole output) h many bound is below few = let taken : h.taken ≡ output.taken = ap (λ (x : Head). x.taken) is in omega (arith, taken, few, below)
none_more (Wrong place) h many bound is below few = let taken : h.taken ≡ 0 = ap (λ (x : Head). x.taken) is in omega (arith, taken)

pub head_is_timely : (brick many from : ℕ) (bytes : List ℕ) (e : HubEvent) (h : Head) → e ≡ logged.Arrive from bytes → from ≡ brick → h ≡ head_of e
    → (sent : List SentLine) (number : ℕ) → sent_before number brick sent ≤ many → IsTimely brick sent number e → h.taken ≤ many
head_is_timely brick many from bytes e h e_is same is sent number below timely =
    let t : IsTimely brick sent number (logged.Arrive from bytes) = subst (λ (x : HubEvent). IsTimely brick sent number x) e_is timely in
    none_more (output_in bytes) h many (sent_before number brick sent) (is ∙ ap head_of e_is) below (t same)

-- each event has a head
pub head_for_each : (heads : List Head) (events : List HubEvent) (k : ℕ) → heads ≡ heads_of events → k < length events → slice_get heads k ≡ None → ⊥
head_for_each heads events k are lt none = by events k lt (sym (head_there heads events k are) ∙ none) where
  by : (es : List HubEvent) (n : ℕ) → n < length es → option_map head_of (slice_get es n) ≡ None → ⊥
  by [] n lt is = absurd (omega (arith, lt))
  by (e ∷ es) zero lt is = absurd cc
  by (e ∷ es) (suc n) lt is = by es n (omega (arith, lt)) is
