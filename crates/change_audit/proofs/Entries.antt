-- The entries of the history so far, with their changes.
use Rattle.std.proofs.Common.{◌≡◌, ap, subst, ◌∙◌, arith}
use Rattle.std.specs.Prelude.{ℕ, ◌<◌, ◌≤◌, ◌+◌, List, Option, None, Some, get_or, length, slice_get}
use Rattle.std.proofs.lemmas.Option.{slice_get_within}
use Rattle.fop_types.specs.declared.flat.FlatOp.{FlatOp}
use Rattle.fop_types.specs.declared.history.Entry.{Entry}
use Rattle.graph_build.specs.declared.plans.Plan.{Plan}
use Rattle.script_lang.specs.declared.scripts.Script.{Script}
use Rattle.brick_machine.specs.Journal.{Journal}
use Rattle.mount_log.proofs.Items.{some_is}
use Rattle.mount_log.specs.Connections.{graph_of_call}
use Rattle.mount_log.specs.declared.logs.Log.{Log}
use Rattle.change_audit.specs.Acknowledged.{mark_of, AreMarked}
use Rattle.change_audit.specs.Borne.{IsBorne, AreBorne}
use Rattle.change_audit.specs.Claims.{KeepClaims, entry_by, place_or_first}
use Rattle.change_audit.specs.Entries.{IsClaimed, IsClaimedInTime, IsEntryClaimed}
use Rattle.change_audit.proofs.Bearing.{bearers_later}
use Rattle.change_audit.proofs.Items.{each_more}
use Rattle.change_audit.proofs.Marking.{mark_first, none_well}

module _ (script : Script) (plans : List Plan) (log : Log) (bricks : List Journal) (ops : List FlatOp) where
  -- ---- one entry

  -- what is borne by an event is so by each later one
  borne_later : (call change number later : ℕ) (operation : FlatOp) (from : Option ℕ) → number ≤ later → IsBorne script plans log bricks ops call change number operation from
      → IsBorne script plans log bricks ops call change later operation from
  borne_later call change number later operation from le is = let by = is.quorum in record {
    set = is.set;
    plan = is.plan;
    plan_is = is.plan_is;
    placed = is.placed;
    taken = is.taken;
    op = is.op;
    op_is = is.op_is;
    bearers = is.bearers;
    quorum = record {
      differ = by.differ;
      enough = by.enough;
      each = bearers_later log bricks is.plan call (graph_of_call log call) change number later le is.op is.bearers by.each;
    };
  }

  pub not_due : (marks : List (Option ℕ)) (claims : List (ℕ × ℕ)) (k call : ℕ) (operation : FlatOp) (from : Option ℕ) → AreMarked log.replies marks → mark_of marks call ≡ None
      → IsClaimedInTime script plans log bricks ops claims k call operation from
  not_due marks claims k call operation from are none number well = absurd (none_well log marks call number are none well)

  pub claimed_in_time : (marks : List (Option ℕ)) (claims : List (ℕ × ℕ)) (k call mark : ℕ) (operation : FlatOp) (from : Option ℕ) → AreMarked log.replies marks → mark_of marks call ≡ Some mark
      → IsClaimed script plans log bricks ops claims k call mark operation from → IsClaimedInTime script plans log bricks ops claims k call operation from
  claimed_in_time marks claims k call mark operation from are there is number well = record {
    change = is.change;
    claimed = is.claimed;
    borne = borne_later call is.change mark number operation from (mark_first log marks call mark number are there well) is.borne;
  }

  pub entry_claimed : (from : List (Option ℕ)) (claims : List (ℕ × ℕ)) (k : ℕ) (entry : Entry) (operation : FlatOp) (set : Option ℕ) → Some entry ≡ slice_get log.history k → Some operation ≡ slice_get ops k → set ≡ get_or from k None
      → IsClaimedInTime script plans log bricks ops claims k entry.call operation set → (other : Entry) → slice_get log.history k ≡ Some other → IsEntryClaimed script plans log bricks ops from claims k other
  entry_claimed from claims k entry operation set here op_here set_is claimed other there made op_there =
      subst (λ (e : Entry). IsClaimedInTime script plans log bricks ops claims k e.call made (get_or from k None)) (some_is entry other (here ∙ there))
      (subst (λ (o : FlatOp). IsClaimedInTime script plans log bricks ops claims k entry.call o (get_or from k None)) (some_is operation made (op_here ∙ op_there))
      (subst (λ (s : Option ℕ). IsClaimedInTime script plans log bricks ops claims k entry.call operation s) set_is claimed))

  -- ---- the entries before a place

  -- an entry keeps its change
  claim_kept : (before after : List (ℕ × ℕ)) (k call : ℕ) (operation : FlatOp) (from : Option ℕ) → KeepClaims before after → IsClaimedInTime script plans log bricks ops before k call operation from
      → IsClaimedInTime script plans log bricks ops after k call operation from
  claim_kept before after k call operation from keep due number well = let is = due number well in record { change = is.change; claimed = keep is.change k is.claimed; borne = is.borne }

  abbrev AreClaimedTo : List (Option ℕ) → ℕ → List (ℕ × ℕ) → Type 0
  AreClaimedTo from n claims = (j : ℕ) (entry : Entry) → j < n → slice_get log.history j ≡ Some entry → IsEntryClaimed script plans log bricks ops from claims j entry

  pub claimed_next : (from : List (Option ℕ)) (n : ℕ) (before after : List (ℕ × ℕ)) → KeepClaims before after
      → ((entry : Entry) → slice_get log.history n ≡ Some entry → IsEntryClaimed script plans log bricks ops from after n entry) → AreClaimedTo from n before → AreClaimedTo from (n + 1) after
  claimed_next from n before after keep own so_far =
      each_more (λ (j : ℕ) (e : Entry). IsEntryClaimed script plans log bricks ops from after j e) log.history n own
      (λ j e below there operation op_there. claim_kept before after j e.call operation (get_or from j None) keep (so_far j e below there operation op_there))

  pub all_claimed : (from : List (Option ℕ)) (n : ℕ) (claims : List (ℕ × ℕ)) → length log.history ≤ n → AreClaimedTo from n claims → AreBorne script plans log bricks ops from
  all_claimed from n claims le are = record {
    entry_of = entry_by claims;
    each = λ k number entry operation there op_there well.
        let lt = slice_get_within log.history k entry there in let has = are k entry (omega (arith, lt, le)) there operation op_there number well in
        record { change = has.change; own = ap place_or_first has.claimed; borne = has.borne };
  }
