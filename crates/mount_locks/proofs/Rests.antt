-- One step of a walk over the rest of a list, and what becomes of a turn.
use Rattle.std.proofs.Common.{◌≡◌, ℕ, ◌+◌, ◌<◌, Bool, true, false, not, ◌&&◌, ◌||◌, cond, List, Option, Some, None, refl, sym, ap, ◌∙◌, arith, drop, length, get_or}
use Rattle.std.proofs.lemmas.List.{drop_more}
use Rattle.std.specs.List.{list_any}
use Rattle.std.specs.Ordering.{nat_cmp, is_eq}
use Rattle.fop_types.specs.declared.cells.Gfid.{Gfid}
use Rattle.queue_index.specs.declared.key.Key.{Key}
use Rattle.queue_index.specs.Queue.{item_at, numbers, changed_at, touches, touching_from, passes, is_at_number}
use Rattle.queue_index.proofs.Entries.{founds}
use Rattle.queue_index.proofs.Touching.{numbers_start}
use Rattle.mount_locks.specs.declared.request.Request.{Request}
use Rattle.mount_locks.specs.Rule.{request_of}
use Rattle.mount_locks.specs.Keys.{gfid_key, keys_of, marked}
use Rattle.mount_locks.specs.Walks.{bars, is_on, meets, is_blocked, is_kept, AreUnpassed, is_due, turn_of, call_of}
use Rattle.queue_index.proofs.Lists.{none}
use Rattle.mount_locks.proofs.Touches.{bars_by, on_modes, any_meets}
use Rattle.queue_index.proofs.Numbers.{Rise, any_numbers}
use Rattle.mount_locks.proofs.Passed.{kept_is}

-- ---- a walk from one number of a key to the next
pub bars_start : (k : Key) (together : Bool) (call n : ℕ) (es : List (ℕ × Request)) → Rise es → list_any (is_at_number (bars together call n) es) (numbers (touching_from keys_of k 0 es)) ≡ list_any (bars_by k together call n) es
bars_start k together call n es s = ap (list_any (is_at_number (bars together call n) es)) (numbers_start keys_of k es) ∙ any_numbers (bars together call n) (λ e. touches keys_of k e.1) es es (founds es s)

-- ---- a turn
pub kept_on : (b : Bool) (l : List Gfid) (r : Request) (n : ℕ) (es : List (ℕ × Request)) → AreUnpassed es → Some r ≡ item_at n es → r.granted ≡ false → l ≡ r.gfids → b ≡ is_kept es n (request_of r.call l r.shared) → b ≡ is_blocked es n r
kept_on b l r n es unpassed is waits same e = e ∙ ap (λ (x : List Gfid). is_kept es n (request_of r.call x r.shared)) same ∙ kept_is es n r unpassed (sym is) waits

off_too : (g b : Bool) → b ≡ true → (not g && not b) ≡ false
off_too true b h = refl
off_too false true h = refl
off_too false false h = absurd cc

on_if : (g b : Bool) → g ≡ false → b ≡ false → (not g && not b) ≡ true
on_if true b g h = absurd cc
on_if false true g h = absurd cc
on_if false false g h = refl

call_off : (es : List (ℕ × Request)) (n : ℕ) (o : Option Request) (r : Request) → Some r ≡ o → is_due es n r ≡ false → None ≡ call_of es n o
call_off es n o r is off = sym (ap (λ (x : Option Request). call_of es n x) (sym is) ∙ ap (λ (b : Bool). cond b (Some r.call) None) off)

pub call_blocked : (es : List (ℕ × Request)) (n : ℕ) (o : Option Request) (r : Request) → Some r ≡ o → is_blocked es n r ≡ true → None ≡ call_of es n o
call_blocked es n o r is on = call_off es n o r is (off_too r.granted (is_blocked es n r) on)

pub call_due : (es : List (ℕ × Request)) (n : ℕ) (o : Option Request) (r : Request) → Some r ≡ o → r.granted ≡ false → is_blocked es n r ≡ false → Some r.call ≡ call_of es n o
call_due es n o r is waits free = sym (ap (λ (x : Option Request). call_of es n x) (sym is) ∙ ap (λ (b : Bool). cond b (Some r.call) None) (on_if r.granted (is_blocked es n r) waits free))

pub some_turn : (es : List (ℕ × Request)) (n call : ℕ) (o : Option Request) → Some call ≡ call_of es n o → changed_at marked n es ≡ turn_of es n o
some_turn es n call None h = absurd cc
some_turn es n call (Some r) h = at_one (is_due es n r) h
  where
    at_one : (b : Bool) → Some call ≡ cond b (Some r.call) None → changed_at marked n es ≡ cond b (changed_at marked n es) es
    at_one true h = refl
    at_one false h = absurd cc
