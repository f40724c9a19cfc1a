-- A sink that confirms a replacement: its transaction uses it, before the step and after it.
use Rattle.std.proofs.Common.{◌≡◌, ◌∙◌, ℕ, true, refl, sym, ap, subst}
use Rattle.std.specs.Prelude.{if◌then◌else◌}
use Rattle.fop_types.specs.declared.cells.Cell.{Cell}
use Rattle.afr_machine.specs.Replicas.{Replicas, Size}
use Rattle.afr_machine.specs.Copies.{Fetched}
use Rattle.afr_machine.specs.Requests.{Sender, Answer}
use Rattle.afr_machine.specs.Requests.Ask.{Replace, OpenFirst}
use Rattle.afr_machine.specs.Transactions.{CopyRun, Stage, Txn}
use Rattle.afr_machine.specs.Transactions.Stage.{Copying}
use Rattle.afr_machine.specs.States.{State, Link, is_current, phase_of}
use Rattle.afr_machine.specs.Answering.{with_replaced, replacing, taking, missing, hearing, at_rest, replied, without_first_output}
use Rattle.afr_machine.specs.Turns.{open_grants}
use Rattle.afr_machine.specs.Steps.{Step, Allowed, after, IsReached, take_in_front}
use Rattle.afr_machine.proofs.Tables.{at_same}
use Rattle.afr_machine.proofs.Keeping.{replied_beside}
use Rattle.afr_laws.specs.Asking.{IsReplacing}
use Rattle.afr_laws.specs.Fresh.{is_behind}
use Rattle.afr_laws.proofs.Bools.{apart_bools, both}
use Rattle.afr_laws.proofs.Heard.{Heard, replied_txns}
use Rattle.afr_laws.proofs.Fresh.Steps.{step_phases}
use Rattle.afr_laws.proofs.Fresh.Known.{phases_are_known}
use Rattle.afr_laws.proofs.Overtaken.Steps.{HasOpen, has_open, opens}
use Rattle.afr_soundness.specs.Takers.{IsMemberOf}
use Rattle.afr_soundness.proofs.PhaseMoves.{IsHandedIn}
use Rattle.afr_soundness.proofs.Takers.Asked.{asked_are_members}
use Rattle.afr_decisions.proofs.Noted.{handed_waits, handed_asked}
use Rattle.afr_decisions.proofs.Handed.{handed_open}
use Rattle.afr_contents.specs.Coming.{IsUsed}
use Rattle.afr_contents.proofs.Naming.{ConfirmsNow}

pub record IsRunOf (stage : Stage) : Type 0 where
  pub run : CopyRun
  pub is : stage ≡ Copying run

replacing_copies : (stage : Stage) (k : ℕ) (cell : Cell) (found : Fetched) → IsReplacing stage k cell found → IsRunOf stage
replacing_copies (Copying run) k cell found h = record { run = run; is = refl }
replacing_copies other k cell found h = absurd h

module _ (size : Size) (m : State) (r : IsReached size m) (k : ℕ) (by : Sender) (at : Cell) (found : Fetched) (answer : Answer) (h : IsHandedIn m k by (Replace at found) answer) where
  abbrev new : State
  new = after size m (Step.HandsIn k)

  pub copies : IsRunOf (m.txns by.txn).stage
  copies = replacing_copies (m.txns by.txn).stage k at found (handed_asked size m r k by (Replace at found) answer h)

  behind : is_behind (m.txns by.txn).stage ≡ true
  behind = ap is_behind copies.is

  member : IsMemberOf (phase_of m by.txn) (m.txns by.txn) k
  member = asked_are_members size m r by.txn k behind (handed_waits size m r k by (Replace at found) answer h)

  handed_new : new ≡ replied (without_first_output m k) k by (Replace at found) answer
  handed_new =
      ap (λ os. take_in_front (without_first_output m k) k os) h.front
      ∙ ap (λ b. if b then replied (without_first_output m k) k by (Replace at found) answer else without_first_output m k) h.current

  heard : (y : Txn) → Heard (m.txns by.txn) y k by.connection (Replace at found) answer → y ≡ hearing (at_rest (m.txns by.txn) k) k by.connection (Replace at found) answer
  heard y (Heard.Took plain waits same is) = is
  heard y (Heard.Passed plain passes is) = apart_bools h.awaited passes
  heard y (Heard.OpenDone opens is) = absurd (let no : Replace at found ≡ OpenFirst = opens in cc)
  heard y (Heard.OpenMissed opens is) = absurd (let no : Replace at found ≡ OpenFirst = opens in cc)

  pub replaced_txn : new.txns by.txn ≡ record (at_rest (m.txns by.txn) k) { stage = Copying (record copies.run { replaced = with_replaced copies.run.replaced k at }) }
  replaced_txn =
      let p = replied_txns (without_first_output m k) k by (Replace at found) answer in
      ap (λ (x : State). x.txns by.txn) handed_new ∙ ap (λ (f : ℕ → Txn). f by.txn) p.is ∙ at_same m.txns by.txn p.after ∙ heard p.after p.heard
      ∙ ap (λ b. if b then taking (at_rest (m.txns by.txn) k) k by.connection (Replace at found) answer else missing (at_rest (m.txns by.txn) k) k) h.wanted
      ∙ ap (λ s. replacing (at_rest (m.txns by.txn) k) s k at) copies.is

  same_links : new.links ≡ m.links
  same_links = ap (λ (x : State). x.links) handed_new ∙ (replied_beside (without_first_output m k) k by (Replace at found) answer).links

  pub confirmed_used : IsUsed new by.txn k
  confirmed_used = record { not_out = ap (λ (x : Txn). x.out k) replaced_txn ∙ member.not_out; held = both ((phase_of new by.txn).reached k) (open_grants new by.txn k) reached granted } where
    o : HasOpen m by.txn k
    o = has_open m by.txn k (handed_open size m r k by (Replace at found) answer h behind)

    reached : (phase_of new by.txn).reached k ≡ true
    reached =
        ap (λ p. (new.phases p).reached k) (ap (λ (x : Txn). x.phase) replaced_txn)
        ∙ ap (λ (f : Replicas). f k) ((step_phases size m (Step.HandsIn k)).reached (m.txns by.txn).phase (phases_are_known size m r by.txn).low) ∙ member.reached

    granted : open_grants new by.txn k ≡ true
    granted = opens (after size m (Step.HandsIn k)) by.txn k (record {
      grant = o.grant;
      granted = ap (λ (x : Txn). x.grants k) replaced_txn ∙ o.granted;
      current = ap (λ (f : ℕ → ℕ → Link). is_current (f k (new.txns by.txn).graph) o.grant.connection) same_links ∙ ap (λ g. is_current (m.links k g) o.grant.connection) (ap (λ (x : Txn). x.graph) replaced_txn) ∙ o.current;
    })

-- a sink that may be named from now on
module _ (size : Size) (m : State) (r : IsReached size m) (step : Step) (allowed : Allowed size m step) (t i : ℕ) (cell : Cell) (c : ConfirmsNow size m r step allowed t i cell) where
  pub now_used : IsUsed (after size m step) t i
  now_used = subst (λ st. IsUsed (after size m st) t i) (sym c.step_is) (subst (λ n. IsUsed (after size m (Step.HandsIn i)) n i) c.txn (confirmed_used size m r i c.by c.at c.found c.answer c.handed))
