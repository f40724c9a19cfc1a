-- A change is decided exactly with the q-th confirmation of its post or its settle, in the turn of that answer.
use Rattle.std.specs.Prelude.{◌≡◌, ℕ, ◌+◌, ◌≤◌, ◌<◌, ◌⊎◌, Bool, true, false, length, List, Option, Some, None}
use Rattle.fop_types.specs.declared.cells.Cell.{Cell}
use Rattle.fop_types.specs.declared.contents.Mask.{Mask}
use Rattle.fop_types.specs.declared.history.Entry.{Entry}
use Rattle.fop_types.specs.declared.copy_jobs.CopyDone.{CopyDone}
use Rattle.fop_types.specs.declared.jobs.SetReply.TheVariants as reply
use Rattle.fop_types.specs.declared.messages.BrickRep.{BrickRep}
use Rattle.afr_ledger.specs.Changes.{numbered}
use Rattle.afr_ledger.specs.Ledger.{State, decided, entry_number, with_number}
use Rattle.afr_ledger.specs.declared.unsettled.Unsettled.{Unsettled}
use Rattle.afr_phases.specs.declared.wave.Wave.{Wave}
use Rattle.afr_phases.specs.Answers.{is_plain_done}
use Rattle.afr_phases.specs.Waves.{confirmations, is_over, taken}
use Rattle.afr_transaction.specs.declared.need.Need.{Need}
use Rattle.afr_transaction.specs.declared.phase.Adopted.{Adopted}
use Rattle.afr_transaction.specs.declared.phase.Phase.TheVariants as phase
use Rattle.afr_transaction.specs.declared.phase.Verdict.{Verdict}
use Rattle.afr_transaction.specs.declared.txn.Txn.{Txn}
use Rattle.afr_transaction.specs.Answers.{answered, copied}
use Rattle.afr_transaction.specs.Causes.{reply_of}
use Rattle.afr_transaction.specs.Changes.{effect_of, entry_from, post_decided}
use Rattle.afr_transaction.specs.Settles.{settle_decided}
use Rattle.afr_transaction.specs.Shapes.{is_asking}
use Rattle.txn_laws.specs.Granted.{SendsSome}

-- ---- in a turn

-- The turn of an answer to a post: as long as others are asked still, the phase goes on with what is decided by then. Once all
-- have answered, a change that is decided is answered as such.
abbrev pub PostGoesOn : ℕ → Option Adopted → Bool → Txn × (Need × State Cell) → Type 0
PostGoesOn change adopted over t = over ≡ false → t.0.phase ≡ phase.Posting change adopted

abbrev pub IsNoted : ℕ → Adopted → Bool → Txn × (Need × State Cell) → Type 0
IsNoted change adopted over t = PostGoesOn change (Some adopted) over t × (over ≡ true → reply_of t.0 t.1.0 ≡ Some (reply.Decided adopted.entry))

-- A post whose change, with this effect, is not decided yet; `wave` has the confirmations with this answer, and q are a quorum. Below the quorum, and where the history
-- is full, the ledger stays. With the quorum the change, where it is unsettled, is adopted in this turn; where another
-- transaction has settled it, it is answered with its entry in the history, if it is there.
pub record PostTurn (q : ℕ) (effect : Option Entry) (change : ℕ) (ledger : State Cell) (wave : Wave) (t : Txn × (Need × State Cell)) : Type 0 where
  pub before : confirmations wave < q → (t.1.1 ≡ ledger) × PostGoesOn change None (is_over wave) t
  pub full : 4294967295 ≤ length ledger.history → (t.1.1 ≡ ledger) × PostGoesOn change None (is_over wave) t
  pub reached : q ≤ confirmations wave → length ledger.history < 4294967295 → (u : Unsettled Cell) → numbered change ledger.unsettled ≡ Some u
      → (t.1.1 ≡ decided ledger change true) × IsNoted change (record { entry = entry_number ledger.history u.effect }) (is_over wave) t
  pub settled : q ≤ confirmations wave → length ledger.history < 4294967295 → numbered change ledger.unsettled ≡ None
      → (t.1.1 ≡ ledger) × IsNoted change (record { entry = entry_from 1 ledger.history effect }) (is_over wave) t

-- The turn of an answer to a settle: as long as others are asked still, the phase goes on with what is decided by then.
abbrev pub SettleGoesOn : Verdict → Bool → Bool → Txn × (Need × State Cell) → Type 0
SettleGoesOn verdict decided over t = over ≡ false → t.0.phase ≡ phase.Settling (record verdict { decided = decided })

-- a settle whose change is not decided yet: the same, with its verdict
pub record SettleTurn (q : ℕ) (verdict : Verdict) (ledger : State Cell) (wave : Wave) (t : Txn × (Need × State Cell)) : Type 0 where
  pub before : confirmations wave < q → (t.1.1 ≡ ledger) × SettleGoesOn verdict false (is_over wave) t
  pub full : 4294967295 ≤ length ledger.history → (t.1.1 ≡ ledger) × SettleGoesOn verdict false (is_over wave) t
  pub reached : q ≤ confirmations wave → length ledger.history < 4294967295 → (u : Unsettled Cell) → numbered verdict.change ledger.unsettled ≡ Some u
      → (t.1.1 ≡ decided ledger verdict.change verdict.held) × SettleGoesOn verdict true (is_over wave) t
  pub settled : q ≤ confirmations wave → length ledger.history < 4294967295 → numbered verdict.change ledger.unsettled ≡ None
      → (t.1.1 ≡ ledger) × SettleGoesOn verdict true (is_over wave) t

-- ---- the laws

abbrev pub PostsDecideInTurns : Type 0
PostsDecideInTurns = (txn : Txn) (k mark change : ℕ) (rep : BrickRep) (ledger : State Cell) (live : Mask) (last : List ℕ)
    → txn.phase ≡ phase.Posting change None
    → PostTurn txn.size.q (effect_of txn.job) change ledger (taken txn.wave k (is_plain_done rep)) (answered txn k rep mark ledger live last)

abbrev pub SettlesDecideInTurns : Type 0
SettlesDecideInTurns = (txn : Txn) (k mark : ℕ) (verdict : Verdict) (rep : BrickRep) (ledger : State Cell) (live : Mask) (last : List ℕ)
    → is_asking txn ≡ true → txn.phase ≡ phase.Settling verdict → verdict.decided ≡ false
    → SettleTurn txn.size.q verdict ledger (taken txn.wave k (is_plain_done rep)) (answered txn k rep mark ledger live last)

-- what is decided stays decided, in each turn after that
abbrev pub PostsStayDecided : Type 0
PostsStayDecided = (txn : Txn) (k mark change : ℕ) (adopted : Adopted) (rep : BrickRep) (ledger : State Cell) (live : Mask) (last : List ℕ)
    → txn.phase ≡ phase.Posting change (Some adopted)
    → ((answered txn k rep mark ledger live last).1.1 ≡ ledger)
    × IsNoted change adopted (is_over (taken txn.wave k (is_plain_done rep))) (answered txn k rep mark ledger live last)

abbrev pub SettlesStayDecided : Type 0
SettlesStayDecided = (txn : Txn) (k mark : ℕ) (verdict : Verdict) (rep : BrickRep) (ledger : State Cell) (live : Mask) (last : List ℕ)
    → is_asking txn ≡ true → txn.phase ≡ phase.Settling verdict → verdict.decided ≡ true
    → ((answered txn k rep mark ledger live last).1.1 ≡ ledger)
    × SettleGoesOn verdict true (is_over (taken txn.wave k (is_plain_done rep))) (answered txn k rep mark ledger live last)

-- a turn draws no number, or the next one, and sends the mark of its change with it
abbrev pub DrawsToMark : State Cell → Txn × (Need × State Cell) → Type 0
DrawsToMark ledger t = (t.1.1.drawn ≡ ledger.drawn) ⊎ ((t.1.1 ≡ with_number ledger) × ((t.0.phase ≡ phase.Marking (ledger.drawn + 1)) × SendsSome t.1.0))

abbrev pub AnswersDrawToMark : Type 0
AnswersDrawToMark = (txn : Txn) (k mark : ℕ) (rep : BrickRep) (ledger : State Cell) (live : Mask) (last : List ℕ)
    → is_asking txn ≡ true → DrawsToMark ledger (answered txn k rep mark ledger live last)

abbrev pub CopiesDrawToMark : Type 0
CopiesDrawToMark = (txn : Txn) (done : CopyDone) (ledger : State Cell) (live : Mask) (last : List ℕ)
    → DrawsToMark ledger (copied txn done ledger live last)

-- ---- what the turns decide by

-- a post that is not decided yet: with fewer confirmations than the quorum, or a full history, the ledger stays; with
-- the quorum the change, where it is unsettled, is adopted
pub record PostsDecide (txn : Txn) (change : ℕ) (ledger : State Cell) : Type 0 where
  pub before : confirmations txn.wave < txn.size.q → ◌≡◌ {A = Option Adopted × State Cell} (post_decided txn change None ledger) (None, ledger)
  pub full : 4294967295 ≤ length ledger.history → ◌≡◌ {A = Option Adopted × State Cell} (post_decided txn change None ledger) (None, ledger)
  pub reached : txn.size.q ≤ confirmations txn.wave → length ledger.history < 4294967295 → (u : Unsettled Cell) → numbered change ledger.unsettled ≡ Some u
      → (post_decided txn change None ledger).1 ≡ decided ledger change true
  pub after : (adopted : Adopted) → ◌≡◌ {A = Option Adopted × State Cell} (post_decided txn change (Some adopted) ledger) (Some adopted, ledger)

-- a settle: the same, with its verdict
pub record SettlesDecide (txn : Txn) (verdict : Verdict) (ledger : State Cell) : Type 0 where
  pub before : verdict.decided ≡ false → confirmations txn.wave < txn.size.q → ◌≡◌ {A = Bool × State Cell} (settle_decided txn verdict ledger) (false, ledger)
  pub full : verdict.decided ≡ false → 4294967295 ≤ length ledger.history → ◌≡◌ {A = Bool × State Cell} (settle_decided txn verdict ledger) (false, ledger)
  pub reached : verdict.decided ≡ false → txn.size.q ≤ confirmations txn.wave → length ledger.history < 4294967295 → (u : Unsettled Cell) → numbered verdict.change ledger.unsettled ≡ Some u
      → ◌≡◌ {A = Bool × State Cell} (settle_decided txn verdict ledger) (true, decided ledger verdict.change verdict.held)
  pub after : verdict.decided ≡ true → ◌≡◌ {A = Bool × State Cell} (settle_decided txn verdict ledger) (true, ledger)

abbrev pub DecidesAtQuorum : Type 0
DecidesAtQuorum = (txn : Txn) (change : ℕ) (verdict : Verdict) (ledger : State Cell) → PostsDecide txn change ledger × SettlesDecide txn verdict ledger
