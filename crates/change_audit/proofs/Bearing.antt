-- The bricks that bear a change.
use Rattle.std.proofs.Common.{◌≡◌, sym, subst, arith}
use Rattle.std.specs.Prelude.{ℕ, ◌<◌, ◌≤◌, ◌+◌, ◌==◌, false, List, [], ◌∷◌, length, map, Contains}
use Rattle.std.specs.List.{AllByRecursion, IsDistinct}
use Rattle.std.proofs.lemmas.Bool.{eqb-true, false_from_ne_true}
use Rattle.fop_types.specs.declared.flat.FlatOp.{FlatOp}
use Rattle.fop_types.specs.declared.jobs.SetPlan.{SetPlan}
use Rattle.fop_types.specs.declared.messages.BrickReq.TheVariants.{Op}
use Rattle.fop_types.specs.declared.store_ops.StoreOp.{StoreOp}
use Rattle.brick_machine.specs.Journal.{Journal}
use Rattle.mount_log.specs.declared.logs.Log.{Log}
use Rattle.change_audit.specs.Borne.{IsBearer}
use Rattle.change_audit.specs.Bearing.{brick_of, RisesFrom, IsMaking, IsInOrder, IsSaidBorne, IsSaidBearer, HasBearers}
use Rattle.change_audit.specs.Served.{IsOpText, IsServed, IsPosted}
use Rattle.change_audit.specs.declared.answers.Bearer.{Bearer}
use Rattle.change_audit.proofs.Items.{all_mapped}

-- ---- numbers that rise

apart_from : (n least : ℕ) (numbers : List ℕ) → n < least → RisesFrom least numbers → AllByRecursion (λ y. (n == y) ≡ false) numbers
apart_from n least [] lt rises = tt
apart_from n least (x ∷ numbers) lt rises =
    let le = rises.0 in (
      false_from_ne_true (n == x) (λ e. let same = eqb-true n x e in absurd (omega (arith, same, lt, le))),
      apart_from n (x + 1) numbers (omega (arith, lt, le)) rises.1,
    )

pub distinct : (least : ℕ) (numbers : List ℕ) → RisesFrom least numbers → IsDistinct ◌==◌ numbers
unfolding IsDistinct
distinct least [] rises = tt
distinct least (x ∷ numbers) rises = (apart_from x (x + 1) numbers (omega arith) rises.1, distinct (x + 1) numbers rises.1)

-- ---- a bearer

module _ (log : Log) (bricks : List Journal) (call graph change number : ℕ) (text : List ℕ) where
  pub borne_by : (bearer : Bearer) → IsInOrder bearer number → IsServed log bricks bearer.brick bearer.op call text → IsPosted log bricks bearer.brick bearer.post call graph change bearer.op.event
      → IsSaidBorne log bricks call graph change number text bearer.brick
  borne_by bearer order served posted o has =
      let op = served graph (Op change has.fd o) has.is in
      let op_counted = op.counted in
      let post_counted = posted.counted in
      let lt = order.served in
      record {
        fd = has.fd;
        op_wind = op.wind;
        op_event = bearer.op.event;
        op_done = op.done;
        op_of_call = op.of_call;
        cells = posted.cells;
        mask = posted.mask;
        post_wind = posted.wind;
        post_event = bearer.post.event;
        post_done = posted.done;
        post_of_call = posted.of_call;
        served_later = omega (arith, op_counted, post_counted, lt);
        arrived_later = order.arrived;
        in_time = order.in_time;
      }

module _ (log : Log) (bricks : List Journal) (plan : SetPlan) (call graph change number : ℕ) (text : List ℕ) where
  pub bearer_is : (bearer : Bearer) → Contains plan.bricks bearer.brick → IsSaidBorne log bricks call graph change number text bearer.brick → IsSaidBearer log bricks plan call graph change number text bearer
  bearer_is bearer member borne o has = record { member = member; borne = borne o has }

  pub have_bearers : (operation : FlatOp) (behind : List ℕ) (bearers : List Bearer) → IsDistinct ◌==◌ (map brick_of bearers) → plan.q ≤ length (map brick_of bearers) → IsMaking graph change operation behind
      → text ≡ behind → AllByRecursion (IsSaidBearer log bricks plan call graph change number text) bearers → HasBearers log bricks plan call graph change number operation
  have_bearers operation behind bearers differ enough making same all =
      let has : IsOpText graph change making.op text = subst (IsOpText graph change making.op) (sym same) making.has_text in
      record {
        op = making.op;
        op_is = making.op_is;
        bearers = map brick_of bearers;
        quorum = record {
          differ = differ;
          enough = enough;
          each =
              all_mapped brick_of (IsSaidBearer log bricks plan call graph change number text) (IsBearer log bricks plan call graph change number making.op)
              (λ b said. said making.op has) bearers all;
        };
      }

-- ---- by a later event

module _ (log : Log) (bricks : List Journal) (plan : SetPlan) (call graph change number later : ℕ) (le : number ≤ later) (o : StoreOp) where
  bearer_later : (brick : ℕ) → IsBearer log bricks plan call graph change number o brick → IsBearer log bricks plan call graph change later o brick
  bearer_later brick bearer =
      let b = bearer.borne in
      let lt = b.in_time in
      record {
        member = bearer.member;
        borne = record {
          fd = b.fd;
          op_wind = b.op_wind;
          op_event = b.op_event;
          op_done = b.op_done;
          op_of_call = b.op_of_call;
          cells = b.cells;
          mask = b.mask;
          post_wind = b.post_wind;
          post_event = b.post_event;
          post_done = b.post_done;
          post_of_call = b.post_of_call;
          served_later = b.served_later;
          arrived_later = b.arrived_later;
          in_time = omega (arith, lt, le);
        };
      }

  pub bearers_later : (bearers : List ℕ) → AllByRecursion (IsBearer log bricks plan call graph change number o) bearers → AllByRecursion (IsBearer log bricks plan call graph change later o) bearers
  bearers_later [] all = tt
  bearers_later (b ∷ bearers) all = (bearer_later b all.0, bearers_later bearers all.1)
