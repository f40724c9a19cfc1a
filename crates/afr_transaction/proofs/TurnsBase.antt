-- Turns that ask, and turns that reply.
use Rattle.std.proofs.Common.{◌≡◌, ◌∙◌, ℕ, suc, ◌+◌, ◌<◌, ◌≤◌, Bool, true, false, ◌&&◌, ◌==◌, not, nat_lt, length, cond, List, Option, Some, None, is_none, refl, sym, ap, subst, arith}
use Rattle.std.proofs.lemmas.Bool.{and_from, and_parts, ltb-true, eqb-true, eq-eqb}
use Rattle.fop_types.specs.declared.jobs.SetReply.{SetReply}
use Rattle.fop_types.specs.declared.messages.BrickReq.{BrickReq}
use Rattle.afr_ledger.specs.Ledger.{State}
use Rattle.afr_phases.specs.Asked.{is_only, is_waiting, are_granted_within}
use Rattle.afr_phases.specs.Flags.{flag, flags_by, mask_of, outside}
use Rattle.afr_phases.specs.Outs.{is_out, is_short}
use Rattle.afr_phases.specs.Waves.{is_over, sent_to}
use Rattle.afr_phases.proofs.Asked.{only_has, sent_each, each_sent, waiting_for}
use Rattle.afr_phases.proofs.Grants.{some_used}
use Rattle.afr_phases.proofs.Bits.{named}
use Rattle.afr_phases.proofs.Tracked.{flag_by}
use Rattle.afr_phases.proofs.Truths.{flags_at, below_five, flags_have}
use Rattle.fop_types.specs.declared.cells.Cell.{Cell}
use Rattle.afr_transaction.specs.declared.need.Need.{Need}
use Rattle.afr_transaction.specs.declared.phase.Phase.{Phase}
use Rattle.afr_transaction.specs.declared.size.Size.{Size}
use Rattle.afr_transaction.specs.declared.txn.Txn.{Txn}
use Rattle.afr_transaction.specs.Requests.{HasGranted, AccusesBut, IsOfPhase, HoldsLocks, KeepsIn, Sends}
use Rattle.afr_transaction.specs.Shapes.{suits, GoesOn}
use Rattle.afr_transaction.specs.Txns.{only, alive, asking, over}

-- a turn that goes on, and sends what its phase asks for where G is known; and one with its ledger
abbrev pub On : Type 0 → Size → Txn × Need → Type 0
On G size t = GoesOn size t.0 t.1 × (G → Sends t.0 t.1)

abbrev pub OnWith : Type 0 → Size → Txn × (Need × State Cell) → Type 0
OnWith G size t = GoesOn size t.0 t.1.0 × (G → Sends t.0 t.1.0)

-- nobody is asked, only replicas of the set have granted locks, and there are five places
abbrev pub IsStill : Type 0 → Txn → Type 0
IsStill G txn = (is_over txn.wave ≡ true) × ((are_granted_within txn.size.n txn.locks ≡ true) × (G → length txn.outs.at ≡ 5))

-- ---- who is asked

pub alive_low : (txn : Txn) (k : ℕ) → flag (alive txn) k ≡ true → k < txn.size.n
alive_low txn k h =
    ltb-true k txn.size.n (and_parts (nat_lt k txn.size.n) (not (is_out txn.outs k)) (flags_at (λ j. nat_lt j txn.size.n && not (is_out txn.outs j)) k h)).0

pub quorum_some : (size : Size) → 1 ≤ size.q
quorum_some size = omega (arith, size.odd, size.quorum)

-- somebody is used, where not too many are out
pub someone : (txn : Txn) → is_short txn.outs txn.size.n txn.size.q ≡ false → (k : ℕ) × (flag (alive txn) k ≡ true)
someone txn enough = some_used txn.outs txn.size.n txn.size.q (quorum_some txn.size) txn.size.few enough

module _ (G : Type 0) (txn : Txn) (req : BrickReq) (phase : Phase) (locks : are_granted_within txn.size.n txn.locks ≡ true) (five : G → length txn.outs.at ≡ 5) where
  -- the transaction once these are asked
  abbrev pub asked : List Bool → Txn
  asked to = record txn { wave = sent_to to; phase = phase }

  pub asks : (p : ℕ → Bool) (k : ℕ) → flag (flags_by p) k ≡ true → ((j : ℕ) → flag (flags_by p) j ≡ true → j < txn.size.n)
      → suits phase (asked (flags_by p)) ≡ true → (G → KeepsIn phase (asked (flags_by p))) → (G → (j : ℕ) → flag (flags_by p) j ≡ true → IsOfPhase phase (asked (flags_by p)) j req)
      → On G txn.size (asking txn (flags_by p) req phase)
  asks p k some low fits keeps each = (
    (
      refl,
      (
        and_from (is_waiting txn.size.n (sent_to (flags_by p))) (are_granted_within txn.size.n txn.locks && suits phase (asked (flags_by p)))
            (waiting_for txn.size.n k (flags_by p) (below_five p k some) some low)
            (and_from (are_granted_within txn.size.n txn.locks) (suits phase (asked (flags_by p))) locks fits),
        sent_each p req,
      ),
    ),
    λ g. (record { places = five g; locks = keeps g }, each_sent (λ j r. IsOfPhase phase (asked (flags_by p)) j r) (flags_by p) req (each g)),
  )

  pub asks_alive : (k : ℕ) → flag (alive txn) k ≡ true → suits phase (asked (alive txn)) ≡ true → (G → KeepsIn phase (asked (alive txn)))
      → (G → (j : ℕ) → flag (alive txn) j ≡ true → IsOfPhase phase (asked (alive txn)) j req) → On G txn.size (asking txn (alive txn) req phase)
  asks_alive k some fits keeps each = asks (λ j. nat_lt j txn.size.n && not (is_out txn.outs j)) k some (alive_low txn) fits keeps each

  pub asks_only : (k : ℕ) → k < txn.size.n → suits phase (asked (only k)) ≡ true → (G → KeepsIn phase (asked (only k))) → (G → IsOfPhase phase (asked (only k)) k req)
      → On G txn.size (asking txn (only k) req phase)
  asks_only k low fits keeps one =
      let five : k < 5 = omega (arith, txn.size.few) in
      asks (λ j. j == k) k (flags_have (λ j. j == k) k five (eq-eqb k k refl))
      (λ j h. let same : j ≡ k = eqb-true j k (flags_at (λ i. i == k) j h) in omega arith) fits keeps
      (λ g j h. subst (λ (i : ℕ). IsOfPhase phase (asked (only k)) i req) (sym (eqb-true j k (flags_at (λ i. i == k) j h))) (one g))

pub only_alone : (k : ℕ) → is_only k (only k) ≡ true
only_alone k = only_has k (only k) (λ j h. eqb-true j k (flags_at (λ i. i == k) j h))

-- a mask of those outside accuses exactly these
pub accuses : (n : ℕ) (flags : List Bool) → AccusesBut (mask_of (outside n flags)) n flags
accuses n flags k low = named (outside n flags) k low ∙ flag_by (λ i. nat_lt i n && not (flag flags i)) k low

-- ---- the reply

pub over_on : (G : Type 0) (txn : Txn) (reply : SetReply) → is_over txn.wave ≡ true → On G txn.size (over txn reply)
over_on G txn reply still = ((refl, still), λ g. tt)
