-- Where an item is among those that are due.
use Rattle.std.proofs.Common.{◌≡◌, inl, inr, refl, sym, ap, ◌∙◌, arith}
use Rattle.std.proofs.lemmas.Bool.{cases_eq}
use Rattle.std.specs.Prelude.{ℕ, zero, suc, ◌<◌, ◌≤◌, ◌-◌, min, List, [], ◌∷◌, ◌++◌, map, length, slice_get, Option, None, Some}
use Rattle.script_lang.specs.declared.scripts.Action.{Action}
use Rattle.hub_tables.specs.PhaseControls.{act_by}
use Rattle.hub_tables.specs.declared.actions.Due.{Due}
use Rattle.hub_tables.specs.declared.actions.Due.TheVariants as due
use Rattle.hub_tables.specs.Agendas.{AgendaState, plain_due}
use Rattle.hub_calls.specs.Dues.{due_task, due_control, dues}

module _ {A B : Type 0} (f : A → B) where
  found : (xs : List A) (rest : List B) (k : ℕ) (x : A) → slice_get xs k ≡ Some x → slice_get (map f xs ++ rest) k ≡ Some (f x)
  found [] rest k x is = absurd cc
  found (y ∷ ys) rest zero x is = let e : y ≡ x = cc in ap (λ (z : A). Some (f z)) e
  found (y ∷ ys) rest (suc k) x is = found ys rest k x is

  past : (xs : List A) (rest : List B) (k : ℕ) → slice_get xs k ≡ None → (length xs ≤ k) × (slice_get (map f xs ++ rest) k ≡ slice_get rest (k - length xs))
  past [] rest k none = (omega arith, ap (slice_get rest) (omega arith))
  past (y ∷ ys) rest zero none = absurd cc
  past (y ∷ ys) rest (suc k) none =
      let more = past ys rest k none in
      let left : k - length ys ≡ suc k - suc (length ys) = omega arith in
      (omega (arith, more.0), more.1 ∙ ap (slice_get rest) left)

first_control : (plain : Option Action) → act_by plain ≡ slice_get (due_control plain) 0
first_control None = refl
first_control (Some a) = refl

one_control : (plain : Option Action) (k : ℕ) → 0 < k → None ≡ slice_get (due_control plain) k
one_control None k some = refl
one_control (Some a) zero some = absurd (omega arith)
one_control (Some a) (suc k) some = refl

module _ (agenda : AgendaState) (ready : List (ℕ × ℕ)) (ns : List ℕ) (k : ℕ) (submits : ns ≡ agenda.progress.ready) where
  abbrev tasks : List Due
  tasks = map due_task ready ++ due_control (plain_due agenda)

  pub of_submits : (session : ℕ) → slice_get ns k ≡ Some session → Some (due.Submit session) ≡ slice_get (dues agenda ready) k
  unfolding dues
  of_submits session is = sym (found due.Submit agenda.progress.ready tasks k session (ap (λ (l : List ℕ). slice_get l k) (sym submits) ∙ is))

  module _ (many : ℕ) (none : slice_get ns k ≡ None) (long : many ≡ length ns) where
    behind : slice_get (dues agenda ready) k ≡ slice_get tasks (k - many)
    unfolding dues
    behind =
        let after = past due.Submit agenda.progress.ready tasks k (ap (λ (l : List ℕ). slice_get l k) (sym submits) ∙ none) in
        let count : length agenda.progress.ready ≡ many = ap length (sym submits) ∙ sym long in
        after.1 ∙ ap (λ (n : ℕ). slice_get tasks (k - n)) count

    pub of_tasks : (graph task : ℕ) → slice_get ready (k - many) ≡ Some (graph, task) → Some (due.Run graph task) ≡ slice_get (dues agenda ready) k
    of_tasks graph task is = sym (behind ∙ found due_task ready (due_control (plain_due agenda)) (k - many) (graph, task) is)

    module _ (no_task : slice_get ready (k - many) ≡ None) (low : k ≤ 4294967295) where
      pub of_control : k - many ≡ min (length ready) 4294967295 → act_by (plain_due agenda) ≡ slice_get (dues agenda ready) k
      of_control last =
          let after = past due_task ready (due_control (plain_due agenda)) (k - many) no_task in
          let zero_left : 0 ≡ k - many - length ready = omega (arith, after.0, low, last) in
          first_control (plain_due agenda) ∙ ap (slice_get (due_control (plain_due agenda))) zero_left ∙ sym (behind ∙ after.1)

      pub past_dues : (k - many ≡ min (length ready) 4294967295 → ⊥) → None ≡ slice_get (dues agenda ready) k
      past_dues apart =
          let after = past due_task ready (due_control (plain_due agenda)) (k - many) no_task in
          let same : min (length ready) 4294967295 ≡ length ready = omega (arith, after.0, low) in
          let some : 0 < k - many - length ready = elim (cases_eq (k - many) (length ready)) [
            | inl e ↦ absurd (apart (e ∙ sym same))
            | inr d ↦ omega (arith, after.0, d)
          ] in
          one_control (plain_due agenda) (k - many - length ready) some ∙ sym (behind ∙ after.1)
