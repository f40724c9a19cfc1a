-- What a guarded set keeps, gathered.
use Rattle.std.proofs.Common.{◌≡◌, ◌∙◌, ℕ, Bool, true, false, refl, sym, ◌⊎◌, inl, inr}
use Rattle.std.specs.Prelude.{◌==◌}
use Rattle.std.proofs.lemmas.Bool.{eqb-true}
use Rattle.afr_machine.specs.Replicas.{Size}
use Rattle.afr_machine.specs.Requests.{Ask}
use Rattle.afr_machine.specs.Requests.Ask.{Lock, Unlock, Mark, Op, Post, Fetch, Replace, Clear, Settle, Index, Open, Release, OpenFirst}
use Rattle.afr_machine.specs.States.{State, is_current, link_of}
use Rattle.afr_machine.specs.Sending.{HasGrant, MayAsk}
use Rattle.afr_machine.specs.Steps.{IsReached}
use Rattle.afr_laws.specs.Covered.{needs_lock}
use Rattle.afr_laws.proofs.Bools.{both_right}
use Rattle.afr_laws.proofs.Flying.{on_their_way}
use Rattle.afr_laws.proofs.Guarded.{keeps_lines}
use Rattle.afr_laws.proofs.Covered.Lines.{lines_are_covered}
use Rattle.afr_soundness.proofs.Takers.Asked.{asked_are_members}
use Rattle.afr_soundness.proofs.Deciding.Whose.{decides_exactly}
use Rattle.afr_soundness.proofs.Free.{keeps_free}
use Rattle.afr_soundness.proofs.Unsettled.{unsettled_is_alone}
use Rattle.afr_soundness.proofs.Guarded.{leaves_one_free}
use Rattle.afr_decisions.specs.Guarded.{GoesOnGrant, EveryStateIsGuarded}
use Rattle.afr_decisions.proofs.Stands.{decisions_stand}

module _ (size : Size) (m : State) (t k : ℕ) where
  goes_on : HasGrant m t k → GoesOnGrant m t k
  goes_on g = record {
    grant = g.grant;
    granted = g.granted;
    open_still = g.still_open;
    same = sym (eqb-true g.grant.connection (link_of m t k).last (both_right (link_of m t k).is_open (g.grant.connection == (link_of m t k).last) g.still_open));
  }

  asked_on_grant : (ask : Ask) → MayAsk size m t k ask → needs_lock ask ≡ true → GoesOnGrant m t k
  asked_on_grant (Mark u cells) h needs = goes_on h.next.member.grant
  asked_on_grant (Op u op) (inl h) needs = goes_on h.next.member.grant
  asked_on_grant (Op u op) (inr h) needs = goes_on h.next.member.grant
  asked_on_grant (Post u cells accused) h needs = goes_on h.next.member.grant
  asked_on_grant (Fetch cell) (inl h) needs = goes_on h.member.grant
  asked_on_grant (Fetch cell) (inr h) needs = goes_on h.member.grant
  asked_on_grant (Replace cell found) h needs = goes_on h.member.grant
  asked_on_grant (Clear cells who) h needs = goes_on h.next.member.grant
  asked_on_grant (Settle u cells accused) h needs = goes_on h.next.member.grant
  asked_on_grant Release h needs = absurd h
  asked_on_grant OpenFirst h needs = absurd h
  asked_on_grant other h needs = absurd (let e : false ≡ true = needs in cc)

pub is_guarded : EveryStateIsGuarded
is_guarded size m is r =
    let free = leaves_one_free size m is r in
    let alone = unsettled_is_alone size m r in
    record {
      one_unsettled = alone.one;
      unsettled_has_free = free.unsettled;
      present_has_free = free.present;
      sent_on_grant = record {
        sent = λ t k first ask allowed needs. asked_on_grant size m t k ask allowed.0 needs;
        asked = asked_are_members size m r;
        known = on_their_way size m r;
        covered = lines_are_covered size m r;
      };
      sole_locks_apart = (keeps_lines size m r).grants_apart;
      last_phase_free = (keeps_free size m is r).last;
      decisions_stand = decisions_stand size m is r;
      accuses_outsiders = decides_exactly size m r;
      no_other_unsettled = alone.no_other;
    }
