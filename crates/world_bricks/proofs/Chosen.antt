-- Where an item is in a list of several parts.
use Rattle.std.proofs.Common.{◌≡◌, refl, sym, ap, ◌∙◌, arith}
use Rattle.std.specs.Prelude.{ℕ, zero, suc, ◌<◌, ◌≤◌, ◌+◌, ◌-◌, List, [], ◌∷◌, ◌++◌, length, map, slice_get, Option, None, Some}
use Rattle.std.specs.List.{range_with_len}
use Rattle.std.proofs.lemmas.List.{length-append}
use Rattle.std.proofs.lemmas.List.FromFn.{length-range_with_len}
use Rattle.script_lang.specs.declared.scripts.Action.{Action}
use Rattle.world_bricks.specs.Choices.{submit_of, arrive_of, serve_of, task_of, act_of, choices}
use Rattle.world_bricks.specs.declared.enabled.Choice.{Choice}
use Rattle.world_bricks.specs.declared.enabled.Choice.TheVariants as choice
use Rattle.world_bricks.specs.declared.enabled.Enabled.{Enabled}
use Rattle.world_bricks.specs.declared.events.Event.TheVariants as event
use Rattle.hub_tables.specs.SmallSets.{numbers}

module _ {X : Type 0} where
  past : (xs ys : List X) (n k : ℕ) → length xs ≡ n → n ≤ k → slice_get (xs ++ ys) k ≡ slice_get ys (k - n)
  past [] ys n k long le = let e : k ≡ k - n = let z = long in omega (arith, z) in ap (slice_get ys) e
  past (x ∷ xs) ys n zero long le = absurd (let z : suc (length xs) ≡ n = long in omega (arith, z, le))
  past (x ∷ xs) ys n (suc k) long le =
      let z : suc (length xs) ≡ n = long in let e : k - length xs ≡ suc k - n = omega (arith, z) in
      past xs ys (length xs) k refl (omega (arith, z, le)) ∙ ap (slice_get ys) e

  within : (xs ys : List X) (k : ℕ) → k < length xs → slice_get (xs ++ ys) k ≡ slice_get xs k
  within [] ys k lt = absurd (omega (arith, lt))
  within (x ∷ xs) ys zero lt = refl
  within (x ∷ xs) ys (suc k) lt = within xs ys k (omega (arith, lt))

  beyond : (xs : List X) (k : ℕ) → length xs ≤ k → slice_get xs k ≡ None
  beyond [] k le = refl
  beyond (x ∷ xs) zero le = absurd (omega (arith, le))
  beyond (x ∷ xs) (suc k) le = beyond xs k (omega (arith, le))

long_map : {A B : Type 0} (f : A → B) (xs : List A) → length (map f xs) ≡ length xs
long_map f [] = refl
long_map f (x ∷ xs) = ap suc (long_map f xs)

task_at : (from n k : ℕ) → k < n → slice_get (map task_of (range_with_len from n)) k ≡ Some (choice.Task (from + k))
task_at from zero k lt = absurd (omega (arith, lt))
task_at from (suc n) zero lt = let e : from ≡ from + 0 = omega arith in ap (λ (t : ℕ). Some (choice.Task t)) e
task_at from (suc n) (suc k) lt =
    let e : from + 1 + k ≡ from + suc k = omega arith in
    task_at (from + 1) n k (omega (arith, lt)) ∙ ap (λ (t : ℕ). Some (choice.Task t)) e

long_tasks : (n : ℕ) → length (map task_of (range_with_len 0 n)) ≡ n
long_tasks n = long_map task_of (range_with_len 0 n) ∙ length-range_with_len 0 n

few_acts : (o : Option Action) → length (act_of o) ≤ 1
few_acts None = omega arith
few_acts (Some a) = omega arith

module _ (e : Enabled) (a b c at : ℕ) (la : a ≡ length (numbers e.submits)) (lb : b ≡ length (numbers e.arriving)) (lc : c ≡ length (numbers e.serving)) where
  pub rest : a ≤ at → b ≤ at - a → c ≤ at - a - b → slice_get (choices e) at ≡ slice_get (map task_of (range_with_len 0 e.tasks) ++ act_of e.plain) (at - a - b - c)
  rest p q r =
      past (map submit_of (numbers e.submits)) _ a at (long_map submit_of (numbers e.submits) ∙ sym la) p
      ∙ past (map arrive_of (numbers e.arriving)) _ b (at - a) (long_map arrive_of (numbers e.arriving) ∙ sym lb) q
      ∙ past (map serve_of (numbers e.serving)) _ c (at - a - b) (long_map serve_of (numbers e.serving) ∙ sym lc) r

  pub task : a ≤ at → b ≤ at - a → c ≤ at - a - b → at - a - b - c < e.tasks → Some (choice.Task (at - a - b - c)) ≡ slice_get (choices e) at
  task p q r lt =
      sym (rest p q r ∙ within (map task_of (range_with_len 0 e.tasks)) (act_of e.plain) (at - a - b - c) (let l = long_tasks e.tasks in omega (arith, l, lt)) ∙ task_at 0 e.tasks (at - a - b - c) lt ∙ ap (λ (t : ℕ). Some (choice.Task t)) (let n = at - a - b - c in let z : 0 + n ≡ n = omega arith in z))

  pub none : a ≤ at → b ≤ at - a → c ≤ at - a - b → e.tasks < at - a - b - c → None ≡ slice_get (choices e) at
  none p q r lt =
      sym (rest p q r ∙ beyond (map task_of (range_with_len 0 e.tasks) ++ act_of e.plain) (at - a - b - c)
      (let l = long_tasks e.tasks in let f = few_acts e.plain in let n = length-append (map task_of (range_with_len 0 e.tasks)) (act_of e.plain) in omega (arith, l, f, n, lt)))

  pub last : a ≤ at → b ≤ at - a → c ≤ at - a - b → at - a - b - c ≡ e.tasks → slice_get (act_of e.plain) 0 ≡ slice_get (choices e) at
  last p q r is =
      let z : 0 ≡ at - a - b - c - e.tasks = omega (arith, is) in
      ap (slice_get (act_of e.plain)) z ∙ sym (rest p q r ∙ past (map task_of (range_with_len 0 e.tasks)) (act_of e.plain) e.tasks (at - a - b - c) (long_tasks e.tasks) (omega (arith, is)))

pub counted : (e : Enabled) (a b c : ℕ) → a ≡ length (numbers e.submits) → b ≡ length (numbers e.arriving) → c ≡ length (numbers e.serving)
    → length (choices e) ≡ a + b + c + e.tasks + length (act_of e.plain)
counted e a b c la lb lc =
    let s = long_map submit_of (numbers e.submits) in let r = long_map arrive_of (numbers e.arriving) in let v = long_map serve_of (numbers e.serving) in let t = long_tasks e.tasks in
    let n1 = length-append (map task_of (range_with_len 0 e.tasks)) (act_of e.plain) in
    let n2 = length-append (map serve_of (numbers e.serving)) (map task_of (range_with_len 0 e.tasks) ++ act_of e.plain) in
    let n3 = length-append (map arrive_of (numbers e.arriving)) (map serve_of (numbers e.serving) ++ (map task_of (range_with_len 0 e.tasks) ++ act_of e.plain)) in
    let n4 = length-append (map submit_of (numbers e.submits)) (map arrive_of (numbers e.arriving) ++ (map serve_of (numbers e.serving) ++ (map task_of (range_with_len 0 e.tasks) ++ act_of e.plain))) in
    omega (arith, la, lb, lc, s, r, v, t, n1, n2, n3, n4)
