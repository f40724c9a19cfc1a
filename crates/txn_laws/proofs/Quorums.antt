-- A change is decided exactly with the q-th confirmation.
use Rattle.std.proofs.Common.{◌≡◌, ◌∙◌, ℕ, ◌<◌, ◌≤◌, Bool, true, false, ◌&&◌, not, nat_le, nat_lt, cond, length, List, Option, Some, None, is_none, is_some, refl, sym, ap, subst, arith}
use Rattle.std.proofs.lemmas.Bool.{cond_both, and_parts, true≢false}
use Rattle.std.proofs.lemmas.Bool.Decides.{nat_tests}
use Rattle.fop_types.specs.declared.cells.Cell.{Cell}
use Rattle.fop_types.specs.declared.contents.Mask.{Mask}
use Rattle.fop_types.specs.declared.jobs.SetReply.{SetReply}
use Rattle.fop_types.specs.declared.jobs.SetReply.TheVariants as reply
use Rattle.fop_types.specs.declared.messages.BrickRep.{BrickRep}
use Rattle.afr_ledger.specs.Changes.{numbered}
use Rattle.afr_ledger.specs.Ledger.{State, decided}
use Rattle.afr_ledger.specs.declared.unsettled.Unsettled.{Unsettled}
use Rattle.afr_phases.specs.Answers.{is_plain_done}
use Rattle.afr_phases.specs.Asked.{is_waiting, are_granted_within}
use Rattle.afr_phases.specs.Flags.{lowest}
use Rattle.afr_phases.specs.Locks.{standing}
use Rattle.afr_phases.specs.Waves.{confirmations, is_over, taken}
use Rattle.afr_transaction.specs.declared.need.Need.{Need}
use Rattle.afr_transaction.specs.declared.phase.Adopted.{Adopted}
use Rattle.afr_transaction.specs.declared.phase.Part.{Part}
use Rattle.afr_transaction.specs.declared.phase.Phase.{Phase}
use Rattle.afr_transaction.specs.declared.phase.Phase.TheVariants as phase
use Rattle.afr_transaction.specs.declared.phase.Then.TheVariants as next
use Rattle.afr_transaction.specs.declared.phase.Verdict.{Verdict}
use Rattle.afr_transaction.specs.declared.txn.Txn.{Txn}
use Rattle.afr_transaction.specs.Answers.{answered_in, hearing, idle, post_answered, post_ended, settle_answered, settle_ended, waiting}
use Rattle.afr_transaction.specs.Causes.{reply_of}
use Rattle.afr_transaction.specs.Changes.{decides, adopted_by, effect_of, post_decided}
use Rattle.afr_transaction.specs.Copied.{copied_all, copy_by}
use Rattle.afr_transaction.specs.Copies.{has_source, next_part}
use Rattle.afr_transaction.specs.Locked.{unlock}
use Rattle.afr_transaction.specs.Settles.{verdict_by, settle_decided, settle_parts}
use Rattle.afr_transaction.specs.Shapes.{is_asking, suits}
use Rattle.afr_transaction.specs.Txns.{kept}
use Rattle.txn_laws.specs.Laws.{PostGoesOn, IsNoted, PostTurn, SettleGoesOn, SettleTurn, PostsDecideInTurns, SettlesDecideInTurns, PostsStayDecided, SettlesStayDecided, PostsDecide, SettlesDecide}

below : (a b : ℕ) → b < a → nat_le a b ≡ false
below a b h = grind (arith, nat_tests, h)

reached_is : (a b : ℕ) → a ≤ b → nat_le a b ≡ true
reached_is a b h = grind (arith, nat_tests, h)

has_place : (n : ℕ) → n < 4294967295 → nat_lt n 4294967295 ≡ true
has_place n h = grind (arith, nat_tests, h)

has_none : (n : ℕ) → 4294967295 ≤ n → nat_lt n 4294967295 ≡ false
has_none n h = grind (arith, nat_tests, h)

and_none : (b c : Bool) → c ≡ false → (b && c) ≡ false
and_none true c h = h
and_none false c h = refl

undecided : (txn : Txn) (ledger : State Cell) → 4294967295 ≤ length ledger.history → decides txn ledger ≡ false
undecided txn ledger full = and_none _ _ (has_none (length ledger.history) full)

posts : (txn : Txn) (change : ℕ) (ledger : State Cell) → PostsDecide txn change ledger
posts txn change ledger = record {
  before = λ few. rw (below txn.size.q (confirmations txn.wave) few) refl;
  full = λ full. rw (undecided txn ledger full) refl;
  reached = λ enough room u there. rw (reached_is txn.size.q (confirmations txn.wave) enough, has_place (length ledger.history) room) (ap (λ (v : Option (Unsettled Cell)). (adopted_by v txn change ledger).1) there);
  after = λ adopted. refl;
}

settles_by : (txn : Txn) (verdict : Verdict) (ledger : State Cell) → SettlesDecide txn verdict ledger
settles_by txn verdict ledger = record {
  before = λ yet few. rw (yet, below txn.size.q (confirmations txn.wave) few) refl;
  full = λ yet full. rw (yet, undecided txn ledger full) refl;
  reached = λ yet enough room u there. rw (yet, reached_is txn.size.q (confirmations txn.wave) enough, has_place (length ledger.history) room) (ap (λ (v : Option (Unsettled Cell)). (true, verdict_by v verdict.change verdict.held ledger)) there);
  after = λ done. rw done refl;
}

pub at_quorum : (txn : Txn) (change : ℕ) (verdict : Verdict) (ledger : State Cell) → PostsDecide txn change ledger × SettlesDecide txn verdict ledger
at_quorum txn change verdict ledger = (posts txn change ledger, settles_by txn verdict ledger)

-- ---- in the turns

reply_given : (txn : Txn) (r : SetReply) (ledger : State Cell) (live : Mask) (last : List ℕ) → reply_of (unlock txn (next.Answer r) ledger live last).0 (unlock txn (next.Answer r) ledger live last).1 ≡ Some r
reply_given txn r ledger live last =
    cond_both (is_none (lowest (standing txn.locks live last))) _ _ (λ (t : Txn × Need). reply_of t.0 t.1 ≡ Some r) (λ e. refl) (λ e. refl)

-- the turn of a post, `over` where all have answered
module _ (txn : Txn) (change : ℕ) (live : Mask) (last : List ℕ) where
  abbrev post_step : Bool → Option Adopted → State Cell → Txn × (Need × State Cell)
  post_step over adopted after = cond over (kept (post_ended txn adopted after live last) after) (kept (waiting txn (phase.Posting change adopted)) after)

  step_leaves : (over : Bool) (adopted : Option Adopted) (after : State Cell) → (post_step over adopted after).1.1 ≡ after
  step_leaves true adopted after = refl
  step_leaves false adopted after = refl

  step_goes_on : (over : Bool) (adopted : Option Adopted) (after : State Cell) → PostGoesOn change adopted over (post_step over adopted after)
  step_goes_on true adopted after e = absurd (true≢false e)
  step_goes_on false adopted after e = refl

  step_replies : (over : Bool) (adopted : Adopted) (after : State Cell) → over ≡ true → reply_of (post_step over (Some adopted) after).0 (post_step over (Some adopted) after).1.0 ≡ Some (reply.Decided adopted.entry)
  step_replies true adopted after e = reply_given txn (reply.Decided adopted.entry) after live last
  step_replies false adopted after e = absurd (true≢false (sym e))

  -- by what the post decides
  open_post : (over : Bool) (ledger : State Cell) (d : Option Adopted × State Cell) → ◌≡◌ {A = Option Adopted × State Cell} d (None, ledger)
      → ((post_step over d.0 d.1).1.1 ≡ ledger) × PostGoesOn change None over (post_step over d.0 d.1)
  open_post over ledger d e =
      subst (λ (x : Option Adopted × State Cell). ((post_step over x.0 x.1).1.1 ≡ ledger) × PostGoesOn change None over (post_step over x.0 x.1)) (sym e)
      (step_leaves over None ledger, step_goes_on over None ledger)

  noted_post : (over : Bool) (adopted : Adopted) (after : State Cell) (d : Option Adopted × State Cell) → ◌≡◌ {A = Option Adopted × State Cell} d (Some adopted, after)
      → ((post_step over d.0 d.1).1.1 ≡ after) × IsNoted change adopted over (post_step over d.0 d.1)
  noted_post over adopted after d e =
      subst (λ (x : Option Adopted × State Cell). ((post_step over x.0 x.1).1.1 ≡ after) × IsNoted change adopted over (post_step over x.0 x.1)) (sym e)
      (step_leaves over (Some adopted) after, (step_goes_on over (Some adopted) after, step_replies over adopted after))

  post_reached : (ledger : State Cell) → txn.size.q ≤ confirmations txn.wave → length ledger.history < 4294967295 → (o : Option (Unsettled Cell)) → numbered change ledger.unsettled ≡ o
      → ◌≡◌ {A = Option Adopted × State Cell} (post_decided txn change None ledger) (Some (adopted_by o txn change ledger).0, (adopted_by o txn change ledger).1)
  post_reached ledger enough room o there =
      rw (reached_is txn.size.q (confirmations txn.wave) enough, has_place (length ledger.history) room)
      (ap (λ (v : Option (Unsettled Cell)). (Some (adopted_by v txn change ledger).0, (adopted_by v txn change ledger).1)) there)

  post_turn : (ledger : State Cell) → PostTurn txn.size.q (effect_of txn.job) change ledger txn.wave (post_answered txn change None ledger live last)
  post_turn ledger = record {
    before = λ few. open_post (is_over txn.wave) ledger (post_decided txn change None ledger) ((posts txn change ledger).before few);
    full = λ full. open_post (is_over txn.wave) ledger (post_decided txn change None ledger) ((posts txn change ledger).full full);
    reached = λ enough room u there. noted_post (is_over txn.wave) (adopted_by (Some u) txn change ledger).0 (decided ledger change true) (post_decided txn change None ledger) (post_reached ledger enough room (Some u) there);
    settled = λ enough room there. noted_post (is_over txn.wave) (adopted_by None txn change ledger).0 ledger (post_decided txn change None ledger) (post_reached ledger enough room None there);
  }

-- the turn of a settle
module _ (txn : Txn) (live : Mask) (last : List ℕ) (settles : is_some txn.settles ≡ true) where
  -- its copies draw no number
  all_leave : (ledger : State Cell) → (copied_all txn ledger live last).1.1 ≡ ledger
  all_leave ledger = cond_both (is_some txn.settles) _ _ (λ (t : Txn × (Need × State Cell)). t.1.1 ≡ ledger) (λ e. refl) (λ e. absurd (true≢false (sym settles ∙ e)))

  part_leaves : (ledger : State Cell) (t : Option Part × List Part) → (copy_by txn t ledger live last).1.1 ≡ ledger
  part_leaves ledger (None, parts) = all_leave ledger
  part_leaves ledger (Some part, parts) = cond_both (has_source txn part) _ _ (λ (t : Txn × (Need × State Cell)). t.1.1 ≡ ledger) (λ e. refl) (λ e. refl)

  pub ended_leaves : (group : List Bool) (done : Bool) (after : State Cell) → (settle_ended txn group done after live last).1.1 ≡ after
  ended_leaves group true after = part_leaves after (next_part txn (settle_parts txn group))
  ended_leaves group false after = refl

  abbrev settle_on : Verdict → Bool → Bool → State Cell → Txn × (Need × State Cell)
  settle_on verdict over done after =
      cond (not over) (kept (waiting txn (phase.Settling (record verdict { decided = done }))) after) (settle_ended txn verdict.group done after live last)

  on_leaves : (verdict : Verdict) (over done : Bool) (after : State Cell) → ((settle_on verdict over done after).1.1 ≡ after) × SettleGoesOn verdict done over (settle_on verdict over done after)
  on_leaves verdict true done after = (ended_leaves verdict.group done after, λ e. absurd (true≢false e))
  on_leaves verdict false done after = (refl, λ e. refl)

  by_decision : (verdict : Verdict) (over done : Bool) (after : State Cell) (d : Bool × State Cell) → ◌≡◌ {A = Bool × State Cell} d (done, after)
      → ((settle_on verdict over d.0 d.1).1.1 ≡ after) × SettleGoesOn verdict done over (settle_on verdict over d.0 d.1)
  by_decision verdict over done after d e =
      subst (λ (x : Bool × State Cell). ((settle_on verdict over x.0 x.1).1.1 ≡ after) × SettleGoesOn verdict done over (settle_on verdict over x.0 x.1)) (sym e) (on_leaves verdict over done after)

  settle_reached : (verdict : Verdict) (ledger : State Cell) → verdict.decided ≡ false → txn.size.q ≤ confirmations txn.wave → length ledger.history < 4294967295 → (o : Option (Unsettled Cell)) → numbered verdict.change ledger.unsettled ≡ o
      → ◌≡◌ {A = Bool × State Cell} (settle_decided txn verdict ledger) (true, verdict_by o verdict.change verdict.held ledger)
  settle_reached verdict ledger yet enough room o there =
      rw (yet, reached_is txn.size.q (confirmations txn.wave) enough, has_place (length ledger.history) room) (ap (λ (v : Option (Unsettled Cell)). (true, verdict_by v verdict.change verdict.held ledger)) there)

  settle_turn : (verdict : Verdict) (ledger : State Cell) → verdict.decided ≡ false → SettleTurn txn.size.q verdict ledger txn.wave (settle_answered txn verdict ledger live last)
  settle_turn verdict ledger yet = record {
    before = λ few. by_decision verdict (is_over txn.wave) false ledger (settle_decided txn verdict ledger) ((settles_by txn verdict ledger).before yet few);
    full = λ full. by_decision verdict (is_over txn.wave) false ledger (settle_decided txn verdict ledger) ((settles_by txn verdict ledger).full yet full);
    reached = λ enough room u there. by_decision verdict (is_over txn.wave) true (decided ledger verdict.change verdict.held) (settle_decided txn verdict ledger) (settle_reached verdict ledger yet enough room (Some u) there);
    settled = λ enough room there. by_decision verdict (is_over txn.wave) true ledger (settle_decided txn verdict ledger) (settle_reached verdict ledger yet enough room None there);
  }

  settle_stays : (verdict : Verdict) (ledger : State Cell) → verdict.decided ≡ true → ((settle_answered txn verdict ledger live last).1.1 ≡ ledger) × SettleGoesOn verdict true (is_over txn.wave) (settle_answered txn verdict ledger live last)
  settle_stays verdict ledger done = by_decision verdict (is_over txn.wave) true ledger (settle_decided txn verdict ledger) ((settles_by txn verdict ledger).after done)

-- ---- the laws

module _ (txn : Txn) (k mark : ℕ) (rep : BrickRep) (ledger : State Cell) (live : Mask) (last : List ℕ) where
  abbrev turn_in : Phase → Txn × (Need × State Cell)
  turn_in p = answered_in p (idle txn) k rep mark ledger live last

  -- a transaction that asks for the settle of a change settles one
  settling_one : (verdict : Verdict) → is_asking txn ≡ true → txn.phase ≡ phase.Settling verdict → is_some txn.settles ≡ true
  settling_one verdict asking is =
      let a = and_parts (is_waiting txn.size.n txn.wave) (are_granted_within txn.size.n txn.locks && suits txn.phase txn) asking in
      let b = and_parts (are_granted_within txn.size.n txn.locks) (suits txn.phase txn) a.1 in
      (and_parts (is_some txn.settles) _ (subst (λ (p : Phase). suits p txn ≡ true) is b.1)).0

pub posts_in_turns : PostsDecideInTurns
posts_in_turns txn k mark change rep ledger live last is =
    subst (λ (p : Phase). PostTurn txn.size.q (effect_of txn.job) change ledger (taken txn.wave k (is_plain_done rep)) (turn_in txn k mark rep ledger live last p)) (sym is)
    (post_turn (hearing (idle txn) k rep mark) change live last ledger)

pub settles_in_turns : SettlesDecideInTurns
settles_in_turns txn k mark verdict rep ledger live last asking is yet =
    subst (λ (p : Phase). SettleTurn txn.size.q verdict ledger (taken txn.wave k (is_plain_done rep)) (turn_in txn k mark rep ledger live last p)) (sym is)
    (settle_turn (hearing (idle txn) k rep mark) live last (settling_one txn k mark rep ledger live last verdict asking is) verdict ledger yet)

pub posts_stay : PostsStayDecided
posts_stay txn k mark change adopted rep ledger live last is =
    subst (λ (p : Phase). ((turn_in txn k mark rep ledger live last p).1.1 ≡ ledger) × IsNoted change adopted (is_over (taken txn.wave k (is_plain_done rep))) (turn_in txn k mark rep ledger live last p)) (sym is)
    (noted_post (hearing (idle txn) k rep mark) change live last (is_over (taken txn.wave k (is_plain_done rep))) adopted ledger (Some adopted, ledger) refl)

pub settles_stay : SettlesStayDecided
settles_stay txn k mark verdict rep ledger live last asking is done =
    subst (λ (p : Phase). ((turn_in txn k mark rep ledger live last p).1.1 ≡ ledger) × SettleGoesOn verdict true (is_over (taken txn.wave k (is_plain_done rep))) (turn_in txn k mark rep ledger live last p)) (sym is)
    (settle_stays (hearing (idle txn) k rep mark) live last (settling_one txn k mark rep ledger live last verdict asking is) verdict ledger done)
