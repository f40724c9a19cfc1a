-- Paths that lead to an object of which what an answer shows holds.
use Rattle.std.proofs.Common.{◌≡◌, subst}
use Rattle.std.specs.Prelude.{ℕ, List, Option, Some, IfSome}
use Rattle.call_fops.specs.Walks.{first_path, second_path, root_object}
use Rattle.fop_types.specs.Calls.{looked_up}
use Rattle.fop_types.specs.declared.answers.Answer.{Answer}
use Rattle.fop_types.specs.declared.calls.Call.{Call}
use Rattle.fop_types.specs.declared.fops.Object.{Object}
use Rattle.graph_build.specs.declared.plans.Plan.{Plan}
use Rattle.script_lang.specs.declared.scripts.Script.{Script}
use Rattle.brick_machine.specs.Journal.{Journal}
use Rattle.mount_log.specs.declared.logs.Log.{Log}
use Rattle.read_audit.specs.Names.{LeadsTo, LeadsToOne, IsOf, IsNamed}
use Rattle.read_audit.specs.Read.{asked_by}

module _ (script : Script) (plans : List Plan) (log : Log) (bricks : List Journal) (call number : ℕ) where
  pub leads_to_one : (path : List (List ℕ)) (P : Object → Type 0) (found : Option Object) (object : Object) → found ≡ Some object → IfSome found (λ o. LeadsTo script plans log bricks call number path root_object o) → P object
      → LeadsToOne script plans log bricks call number path P
  leads_to_one path P found object is leads holds = record {
    object = object;
    leads = subst (λ (f : Option Object). IfSome f (λ o. LeadsTo script plans log bricks call number path root_object o)) is leads;
    is = holds;
  }

  pub named_is : (c : Call) (a : Answer) (path other : List (List ℕ)) → path ≡ first_path (looked_up c) → other ≡ second_path (looked_up c)
      → LeadsToOne script plans log bricks call number path (λ object. IsOf script plans log bricks call number object (asked_by c) a) → LeadsToOne script plans log bricks call number other (λ object. Unit {0})
      → IsNamed script plans log bricks call number c a
  named_is c a path other first_is second_is first second = record {
    first = subst (λ (p : List (List ℕ)). LeadsToOne script plans log bricks call number p (λ object. IsOf script plans log bricks call number object (asked_by c) a)) first_is first;
    second = subst (λ (p : List (List ℕ)). LeadsToOne script plans log bricks call number p (λ object. Unit {0})) second_is second;
  }
