-- The turns of a transaction keep its bounds, by its laws, and leave few cells to each unsettled change.
use Rattle.std.proofs.Common.{◌≡◌, ◌⊎◌, inl, inr, ℕ, Bool, true, List, [], ◌∷◌, Option, Some, None, Result, Ok, Err, IfOk, OnErr, sym, subst}
use Rattle.std.proofs.lemmas.Bool.{cond_both}
use Rattle.fop_types.specs.Bounds.{Each, IsReq, IsRep, IsUnit}
use Rattle.fop_types.specs.Jobs.{IsJob}
use Rattle.fop_types.specs.declared.cells.Cell.{Cell}
use Rattle.fop_types.specs.declared.contents.Mask.{Mask}
use Rattle.fop_types.specs.declared.copy_jobs.CopyDone.{CopyDone}
use Rattle.fop_types.specs.declared.jobs.Job.{Job}
use Rattle.fop_types.specs.declared.jobs.SetPlan.{SetPlan}
use Rattle.fop_types.specs.declared.messages.BrickRep.{BrickRep}
use Rattle.fop_types.specs.declared.messages.BrickReq.{BrickReq}
use Rattle.afr_ledger.specs.Ledger.{State}
use Rattle.afr_ledger.specs.Changes.{numbered}
use Rattle.afr_ledger.specs.declared.unsettled.Unsettled.{Unsettled}
use Rattle.afr_phases.specs.Waves.{is_asked}
use Rattle.afr_transaction.specs.Answers.{answered, copied, IsLeftIn}
use Rattle.afr_transaction.specs.Begins.{IsBegun}
use Rattle.afr_transaction.specs.Changes.{decides, adopted_by, post_decided}
use Rattle.afr_transaction.specs.Encodings.{HaveFew, HasBounds, Bounds, BeginsBound, AnswersBound, CopiesBound, AnswersLeaveFew, CopiesLeaveFew, RequestsAreEncoded}
use Rattle.afr_transaction.specs.Replies.{RepliesFit, BeginsReply, AnswersReply, CopiesReply}
use Rattle.afr_transaction.specs.Requests.{Sends, BeginsSend, AnswersSend, CopiesSend, IsOfPhase}
use Rattle.afr_transaction.specs.Settles.{verdict_by, settle_decided}
use Rattle.afr_transaction.specs.Shapes.{is_asking, is_copying}
use Rattle.afr_transaction.specs.declared.need.Need.{Need}
use Rattle.afr_transaction.specs.declared.need.Need.TheVariants as need
use Rattle.afr_transaction.specs.declared.phase.Adopted.{Adopted}
use Rattle.afr_transaction.specs.declared.phase.Phase.{Phase}
use Rattle.afr_transaction.specs.declared.phase.Phase.TheVariants as phase
use Rattle.afr_transaction.specs.declared.phase.Verdict.{Verdict}
use Rattle.afr_transaction.specs.declared.txn.Txn.{Txn}
use Rattle.afr_transaction.proofs.FewCells.{few_without}
use Rattle.graph_nodes.specs.Kept.{IsTxnKept}
use Rattle.graph_nodes.specs.Replicate.{AreEncoded}
use Rattle.graph_nodes.specs.Turns.{IsTxnTurn}

-- what is of the phase has an encoding
encoded_all : (requests : RequestsAreEncoded) (txn : Txn) (list : List (ℕ × BrickReq)) → HasBounds txn → Each (λ (r : ℕ × BrickReq). IsOfPhase txn.phase txn r.0 r.1) list → AreEncoded list
encoded_all requests txn [] b h = tt
encoded_all requests txn (r ∷ rs) b h = (requests txn r.0 r.1 b h.0, encoded_all requests txn rs b h.1)

turn : (requests : RequestsAreEncoded) (txn : Txn) (n : Need) → Sends txn n → Bounds txn n → RepliesFit txn n → IsTxnTurn txn n
turn requests txn (need.Send list) s b r = (record { keeps = s.0; bounds = b.0; answers = r.0 }, encoded_all requests txn list b.0 s.1)
turn requests txn (need.Copy copy rows) s b r = (record { keeps = s.0; bounds = b.0; answers = r.0 }, b.1.few)
turn requests txn (need.Reply reply) s b r = r.1
turn requests txn need.Wait s b r = record { keeps = s; bounds = b.0; answers = r.0 }

pub begun_turn : (sends : BeginsSend) (bounds : BeginsBound) (replies : BeginsReply) (requests : RequestsAreEncoded)
    (set : SetPlan) (call : ℕ) (job : Job) (ledger : State Cell) (live : Mask) (last : List ℕ) (txn : Txn) (n : Need)
    → IsBegun txn n set call job ledger live last → IsJob job → IsUnit call → HaveFew ledger → IsTxnTurn txn n
begun_turn sends bounds replies requests set call job ledger live last txn n begun j c few =
    subst (λ (t : Txn × Need). IsTxnTurn t.0 t.1) (sym begun.turn)
    (turn requests _ _ (sends begun.size set call job ledger live last) (bounds begun.size set call job ledger live last j c few) (replies begun.size set call job ledger live last))

pub answer_turn : (sends : AnswersSend) (bounds : AnswersBound) (replies : AnswersReply) (requests : RequestsAreEncoded)
    (old : Txn) (k mark : ℕ) (rep : BrickRep) (ledger ledger_new : State Cell) (live : Mask) (last : List ℕ) (txn : Txn) (n : Need)
    → ◌≡◌ {A = Txn × (Need × State Cell)} (txn, (n, ledger_new)) (answered old k rep mark ledger live last)
    → is_asking old ≡ true → is_asked old.wave k ≡ true → IsTxnKept old → IsRep true rep → HaveFew ledger → IsTxnTurn txn n
answer_turn sends bounds replies requests old k mark rep ledger ledger_new live last txn n is asking asked kept encoded few =
    subst (λ (t : Txn × (Need × State Cell)). IsTxnTurn t.0 t.1.0) (sym is)
    (turn requests _ _ (sends old k mark rep ledger live last asking kept.keeps asked) (bounds old k mark rep ledger live last kept.bounds few) (replies old k mark rep ledger live last kept.answers encoded))

pub copied_turn : (sends : CopiesSend) (bounds : CopiesBound) (replies : CopiesReply) (requests : RequestsAreEncoded)
    (old : Txn) (done : CopyDone) (ledger ledger_new : State Cell) (live : Mask) (last : List ℕ) (txn : Txn) (n : Need)
    → ◌≡◌ {A = Txn × (Need × State Cell)} (txn, (n, ledger_new)) (copied old done ledger live last)
    → is_copying old ≡ true → IsTxnKept old → HaveFew ledger → IsTxnTurn txn n
copied_turn sends bounds replies requests old done ledger ledger_new live last txn n is copying kept few =
    subst (λ (t : Txn × (Need × State Cell)). IsTxnTurn t.0 t.1.0) (sym is)
    (turn requests _ _ (sends old done ledger live last copying kept.keeps) (bounds old done ledger live last kept.bounds few) (replies old done ledger live last kept.answers))

-- ---- the ledger

pub few_after : (leaves : AnswersLeaveFew) (old : Txn) (k mark : ℕ) (rep : BrickRep) (ledger ledger_new : State Cell) (live : Mask) (last : List ℕ) (txn : Txn) (n : Need)
    → ◌≡◌ {A = Txn × (Need × State Cell)} (txn, (n, ledger_new)) (answered old k rep mark ledger live last)
    → is_asking old ≡ true → IsTxnKept old → HaveFew ledger → HaveFew ledger_new
few_after leaves old k mark rep ledger ledger_new live last txn n is asking kept few =
    subst (λ (t : Txn × (Need × State Cell)). HaveFew t.1.1) (sym is) (leaves old k mark rep ledger live last asking kept.bounds few)

pub few_copied : (leaves : CopiesLeaveFew) (old : Txn) (done : CopyDone) (ledger ledger_new : State Cell) (live : Mask) (last : List ℕ) (txn : Txn) (n : Need)
    → ◌≡◌ {A = Txn × (Need × State Cell)} (txn, (n, ledger_new)) (copied old done ledger live last) → HaveFew ledger → HaveFew ledger_new
few_copied leaves old done ledger ledger_new live last txn n is few =
    subst (λ (t : Txn × (Need × State Cell)). HaveFew t.1.1) (sym is) (leaves old done ledger live last few)

-- where the memory ran out: as it was, or with a decision
module _ (txn : Txn) (before : State Cell) (few : HaveFew before) where
  adopted_few : (u : Option (Unsettled Cell)) (change : ℕ) → HaveFew (adopted_by u txn change before).1
  adopted_few None change = few
  adopted_few (Some u) change = few_without change before.unsettled few

  post_few : (change : ℕ) (adopted : Option Adopted) → HaveFew (post_decided txn change adopted before).1
  post_few change (Some adopted) = few
  post_few change None =
      cond_both (decides txn before) _ _ (λ (d : Option Adopted × State Cell). HaveFew d.1)
      (λ h. adopted_few (numbered change before.unsettled) change) (λ e. few)

  verdict_few : (u : Option (Unsettled Cell)) (change : ℕ) (held : Bool) → HaveFew (verdict_by u change held before)
  verdict_few None change held = few
  verdict_few (Some u) change held = few_without change before.unsettled few

  settle_few : (verdict : Verdict) → HaveFew (settle_decided txn verdict before).1
  settle_few verdict =
      cond_both verdict.decided _ _ (λ (d : Bool × State Cell). HaveFew d.1) (λ e. few)
      (λ e. cond_both (decides txn before) _ _ (λ (d : Bool × State Cell). HaveFew d.1) (λ h. verdict_few (numbered verdict.change before.unsettled) verdict.change verdict.held) (λ h. few))

  either : (made after : State Cell) → HaveFew made → (after ≡ before) ⊎ (after ≡ made) → HaveFew after
  either made after fits (inl e) = subst HaveFew (sym e) few
  either made after fits (inr e) = subst HaveFew (sym e) fits

  left_in : (p : Phase) (after : State Cell) → IsLeftIn p txn before after → HaveFew after
  left_in (phase.Posting change adopted) after h = either (post_decided txn change adopted before).1 after (post_few change adopted) h
  left_in (phase.Settling verdict) after h = either (settle_decided txn verdict before).1 after (settle_few verdict) h
  left_in (phase.Locking at) after h = subst HaveFew (sym h) few
  left_in (phase.Unlocking how) after h = subst HaveFew (sym h) few
  left_in (phase.Fetching place from contents) after h = subst HaveFew (sym h) few
  left_in (phase.Copying sinks parts) after h = subst HaveFew (sym h) few
  left_in (phase.Marking change) after h = subst HaveFew (sym h) few
  left_in (phase.Writing change) after h = subst HaveFew (sym h) few
  left_in phase.Bearing after h = subst HaveFew (sym h) few
  left_in phase.Opening after h = subst HaveFew (sym h) few
  left_in (phase.Listing all) after h = subst HaveFew (sym h) few
  left_in phase.Over after h = subst HaveFew (sym h) few

pub few_left : (p : Phase) (txn : Txn) (before after : State Cell) → HaveFew before → IsLeftIn p txn before after → HaveFew after
few_left p txn before after few h = left_in txn before few p after h

-- so they are few after a turn, whether or not the memory ran out
pub few_either : {T E : Type 0} (r : Result T E) (P : T → Type 0) (Q : Type 0) (s : State Cell) → ((x : T) → P x → HaveFew s) → (Q → HaveFew s) → IfOk r P → OnErr r Q → HaveFew s
few_either (Ok x) P Q s f g h e = f x h
few_either (Err y) P Q s f g h e = g e
