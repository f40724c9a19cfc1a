-- Outputs by the number of inputs up to them.
use Rattle.std.proofs.Common.{◌≡◌, ◌∙◌, ◌≤◌, ◌<◌, ◌++◌, ◌∷◌, ◌+◌, ◌-◌, [], ℕ, zero, suc, Bool, true, false, List, map, length, take, refl, sym, ap, arith}
use Rattle.std.specs.Prelude.{nat_le, cond}
use Rattle.std.specs.List.{filter}
use Rattle.std.proofs.lemmas.Bool.{leb-true, leb-false}
use Rattle.fop_types.specs.declared.messages.OutKind.{OutKind}
use Rattle.fop_types.specs.declared.messages.OutKind.TheVariants.{Malformed}
use Rattle.fop_types.specs.declared.messages.Input.{Input}
use Rattle.fop_types.specs.declared.messages.Output.{Output}
use Rattle.wire_messages.specs.Messages.{input_in}
use Rattle.wire_messages.specs.declared.messages.Message.{Message}
use Rattle.wire_messages.specs.declared.messages.Message.TheVariants.{Whole, Wrong}
use Rattle.brick_locks.proofs.Apart.{held_apart}
use Rattle.brick_machine.specs.State.{start}
use Rattle.brick_machine.specs.Machine.{served, with_taken, state_from, outputs_from, state_of, outputs_of}
use Rattle.brick_machine.specs.Laws.{OutputsStay, RisesFrom, TakenNeverFalls, OutputsByTaken, HeldApart, WrongBytesChangeNothing}
use Rattle.brick_machine.specs.declared.state.State.{State}
use Rattle.brick_machine.proofs.Runs.{outputs_from_append, state_of_push, outputs_of_push}

take_all_of : {X : Type 0} (xs ys : List X) → take (length xs) (xs ++ ys) ≡ xs
take_all_of [] ys = refl
take_all_of (x ∷ xs) ys = ap (λ (l : List _). x ∷ l) (take_all_of xs ys)

pub outputs_stay : OutputsStay
outputs_stay xs ys =
    ap (λ (l : List Output). take (length (outputs_of xs)) l) (outputs_from_append start 0 xs ys)
    ∙ take_all_of (outputs_of xs) (outputs_from (state_of xs) (0 + length xs) ys)

-- ---- the number never falls

rises_front : (least taken : ℕ) (kinds : List OutKind) (rest : List Output) → least ≤ taken → ((m : ℕ) → m ≤ taken → RisesFrom m rest) → RisesFrom least (with_taken taken kinds ++ rest)
rises_front least taken [] rest low later = later least low
rises_front least taken (k ∷ kinds) rest low later = (low, rises_front taken taken kinds rest (omega arith) later)

rises : (s : State) (before : ℕ) (xs : List (List ℕ)) (least : ℕ) → least ≤ before + 1 → RisesFrom least (outputs_from s before xs)
rises s before [] least low = tt
rises s before (x ∷ xs) least low =
    rises_front least (before + 1) (served s (input_in x)).outs (outputs_from (served s (input_in x)).state (before + 1) xs) low
    (λ m h. rises (served s (input_in x)).state (before + 1) xs m (omega (arith, h)))

pub taken_rises : TakenNeverFalls
taken_rises journal = rises start 0 journal 1 (omega arith)

-- ---- the outputs of the first inputs

module _ (n : ℕ) where
  abbrev by_n : Output → Bool
  by_n o = nat_le o.taken n

  passed : (taken : ℕ) (kinds : List OutKind) (rest : List Output) → nat_le taken n ≡ true → filter by_n (with_taken taken kinds ++ rest) ≡ with_taken taken kinds ++ filter by_n rest
  passed taken [] rest h = refl
  passed taken (k ∷ kinds) rest h = rw h (ap (λ (l : List Output). record { taken = taken; kind = k } ∷ l) (passed taken kinds rest h))

  held_back : (taken : ℕ) (kinds : List OutKind) (rest : List Output) → nat_le taken n ≡ false → filter by_n (with_taken taken kinds ++ rest) ≡ filter by_n rest
  held_back taken [] rest h = refl
  held_back taken (k ∷ kinds) rest h = rw h (held_back taken kinds rest h)

  none_more : (s : State) (before : ℕ) (xs : List (List ℕ)) → n ≤ before → filter by_n (outputs_from s before xs) ≡ []
  none_more s before [] late = refl
  none_more s before (x ∷ xs) late = by_test (none_more (served s (input_in x)).state (before + 1) xs (omega (arith, late))) (nat_le (before + 1) n) refl
    where
      by_test : filter by_n (outputs_from (served s (input_in x)).state (before + 1) xs) ≡ [] → (b : Bool) → nat_le (before + 1) n ≡ b → filter by_n (outputs_from s before (x ∷ xs)) ≡ []
      by_test later true h = absurd (omega (arith, late, leb-true (before + 1) n h))
      by_test later false h = held_back (before + 1) (served s (input_in x)).outs (outputs_from (served s (input_in x)).state (before + 1) xs) h ∙ later

  take_none : (k : ℕ) → ◌≡◌ {A = List (List ℕ)} (take k []) []
  take_none zero = refl
  take_none (suc k) = refl

  first_ones : (s : State) (before : ℕ) (xs : List (List ℕ)) → outputs_from s before (take (n - before) xs) ≡ filter by_n (outputs_from s before xs)
  first_ones s before [] = ap (λ (l : List (List ℕ)). outputs_from s before l) (take_none (n - before))
  first_ones s before (x ∷ xs) = by_test (first_ones (served s (input_in x)).state (before + 1) xs) (nat_le (before + 1) n) refl
    where
      next : State
      next = (served s (input_in x)).state

      by_test : outputs_from next (before + 1) (take (n - (before + 1)) xs) ≡ filter by_n (outputs_from next (before + 1) xs)
          → (b : Bool) → nat_le (before + 1) n ≡ b → outputs_from s before (take (n - before) (x ∷ xs)) ≡ filter by_n (outputs_from s before (x ∷ xs))
      by_test later true h =
          let fits : before + 1 ≤ n = leb-true (before + 1) n h in
          let one : n - before ≡ suc (n - (before + 1)) = omega (arith, fits) in
          ap (λ (k : ℕ). outputs_from s before (take k (x ∷ xs))) one
          ∙ ap (λ (l : List Output). with_taken (before + 1) (served s (input_in x)).outs ++ l) later
          ∙ sym (passed (before + 1) (served s (input_in x)).outs (outputs_from next (before + 1) xs) h)
      by_test later false h =
          let none : n - before ≡ 0 = omega (arith, leb-false (before + 1) n h) in
          ap (λ (k : ℕ). outputs_from s before (take k (x ∷ xs))) none
          ∙ sym (held_back (before + 1) (served s (input_in x)).outs (outputs_from next (before + 1) xs) h ∙ none_more next (before + 1) xs (omega (arith, leb-false (before + 1) n h)))

pub outputs_by_taken : OutputsByTaken
outputs_by_taken journal n =
    let all : n ≡ n - 0 = omega arith in
    ap (λ (k : ℕ). outputs_of (take k journal)) all ∙ first_ones n start 0 journal

pub locks_apart : HeldApart
locks_apart journal = held_apart (state_of journal).locks

pub wrong_bytes : WrongBytesChangeNothing
wrong_bytes journal bytes place wrong = (
  state_of_push journal bytes ∙ ap (λ (m : Message Input). (served (state_of journal) m).state) wrong,
  outputs_of_push journal bytes ∙ ap (λ (m : Message Input). outputs_of journal ++ with_taken (length journal + 1) (served (state_of journal) m).outs) wrong,
)
