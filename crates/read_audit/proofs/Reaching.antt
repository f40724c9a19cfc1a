-- Objects that the first names of a path lead to.
use Rattle.std.proofs.Common.{◌≡◌, refl, sym, ap, subst, ◌∙◌, get_or}
use Rattle.std.specs.Prelude.{ℕ, zero, suc, ◌+◌, ◌<◌, List, [], ◌∷◌, ◌++◌, Option, Some, length, take, slice_get, IfSome}
use Rattle.std.specs.List.{AllByRecursion}
use Rattle.std.proofs.lemmas.List.{take_more}
use Rattle.call_fops.specs.Walks.{root_object}
use Rattle.fop_types.specs.declared.fops.Object.{Object}
use Rattle.graph_build.specs.declared.plans.Plan.{Plan}
use Rattle.script_lang.specs.declared.scripts.Script.{Script}
use Rattle.brick_machine.specs.Journal.{Journal}
use Rattle.mount_log.proofs.Items.{some_is}
use Rattle.mount_log.specs.declared.logs.Log.{Log}
use Rattle.change_audit.proofs.Items.{all_push}
use Rattle.read_audit.specs.Erring.{IsReached}
use Rattle.read_audit.specs.Errors.{LeadsUpTo}
use Rattle.read_audit.specs.Names.{IsStep, LeadsTo}
use Rattle.read_audit.specs.declared.reached.Reached.{Reached}

-- ---- lists

all_at : {X : Type 0} (P : X → Type 0) (xs : List X) (k : ℕ) (x : X) → slice_get xs k ≡ Some x → AllByRecursion P xs → P x
all_at P [] k x there all = absurd cc
all_at P (y ∷ xs) zero x there all = subst P (some_is y x there) all.0
all_at P (y ∷ xs) (suc k) x there all = all_at P xs k x there all.1

module _ (script : Script) (plans : List Plan) (log : Log) (bricks : List Journal) (call number : ℕ) where
  -- ---- one name more

  leads_push : (names : List (List ℕ)) (from mid to : Object) (name : List ℕ) → LeadsTo script plans log bricks call number names from mid → IsStep script plans log bricks call number mid.gfid name to
      → LeadsTo script plans log bricks call number (names ++ name ∷ []) from to
  leads_push [] from mid to name leads step = record { object = to; step = subst (λ (o : Object). IsStep script plans log bricks call number o.gfid name to) (sym leads) step; rest = refl }
  leads_push (first ∷ names) from mid to name leads step = record { object = leads.object; step = leads.step; rest = leads_push names leads.object mid to name leads.rest step }

  pub reached_next : (path : List (List ℕ)) (from next : Reached) (name : List ℕ) (object : Object) (found : Option Object) (all more : List Reached) → from.many < length path → name ≡ get_or path from.many name → found ≡ Some object
      → IfSome found (λ to. IsStep script plans log bricks call number from.object.gfid name to) → next ≡ record { many = from.many + 1; object = object } → more ≡ all ++ next ∷ []
      → IsReached script plans log bricks call number path from → AllByRecursion (IsReached script plans log bricks call number path) all → AllByRecursion (IsReached script plans log bricks call number path) more
  reached_next path from next name object found all more lt read is step next_is more_is leads so_far =
      subst (AllByRecursion (IsReached script plans log bricks call number path)) (sym more_is) (all_push (IsReached script plans log bricks call number path) all next so_far own) where
        longer : take (from.many + 1) path ≡ take from.many path ++ name ∷ []
        longer = take_more path from.many name lt ∙ ap (λ (n : List ℕ). take from.many path ++ n ∷ []) (sym read)

        led : LeadsTo script plans log bricks call number (take (from.many + 1) path) root_object object
        led =
            subst (λ (l : List (List ℕ)). LeadsTo script plans log bricks call number l root_object object) (sym longer)
            (leads_push (take from.many path) root_object from.object object name leads (subst (λ (f : Option Object). IfSome f (λ to. IsStep script plans log bricks call number from.object.gfid name to)) is step))

        own : IsReached script plans log bricks call number path next
        own = subst (λ (r : Reached). IsReached script plans log bricks call number path r) (sym next_is) led

  pub reached_is : (path : List (List ℕ)) (all slice : List Reached) (k : ℕ) (found : Option Reached) (reached : Reached) → slice ≡ all → found ≡ slice_get slice k → found ≡ Some reached → AllByRecursion (IsReached script plans log bricks call number path) all
      → IsReached script plans log bricks call number path reached
  reached_is path all slice k found reached same there is so_far = all_at (IsReached script plans log bricks call number path) all k reached (sym (there ∙ ap (λ (l : List Reached). slice_get l k) same) ∙ is) so_far

  pub none_reached : (path : List (List ℕ)) (first : Reached) (none all : List Reached) (root : Object) → root ≡ root_object → first ≡ record { many = 0; object = root } → none ≡ [] → all ≡ none ++ first ∷ [] → AllByRecursion (IsReached script plans log bricks call number path) all
  none_reached path first none all root root_is is none_is all_is =
      subst (AllByRecursion (IsReached script plans log bricks call number path)) (sym (all_is ∙ ap (λ (l : List Reached). l ++ first ∷ []) none_is))
      (subst (λ (r : Reached). IsReached script plans log bricks call number path r) (sym is) (sym root_is), tt)

  -- ---- where an error rests

  pub leads_up : (path : List (List ℕ)) (P : Option (List ℕ) → Object → Type 0) (reached : Reached) (next : Option (List ℕ)) → next ≡ slice_get path reached.many → IsReached script plans log bricks call number path reached → P next reached.object
      → LeadsUpTo script plans log bricks call number path P
  leads_up path P reached next is leads holds = record {
    many = reached.many;
    object = reached.object;
    leads = leads;
    is = subst (λ (n : Option (List ℕ)). P n reached.object) is holds;
  }
