-- Where the requests of a call leave: only those that conflict with one of them can be granted.
use Rattle.std.proofs.Common.{◌≡◌, ℕ, Bool, true, false, not, ◌&&◌, ◌||◌, ◌==◌, nat_lt, cond, List, [], ◌∷◌, Option, Some, None, refl, sym, ap, ◌∙◌, subst, length, arith}
use Rattle.std.specs.List.{list_any, filter, AllByRecursion}
use Rattle.std.specs.Ordering.{nat_cmp, is_eq}
use Rattle.std.specs.BTreeSet as sorted
use Rattle.std.specs.BTreeSet.{BTreeSet}
use Rattle.queue_index.specs.declared.key.Key.{Key}
use Rattle.queue_index.specs.Queue.{item_at, items, numbers, touches, touching, passes, is_at_number}
use Rattle.queue_index.proofs.Entries.{founds, found_in}
use Rattle.mount_locks.specs.declared.request.Request.{Request}
use Rattle.mount_locks.specs.Keys.{call_key, keys_of}
use Rattle.mount_locks.specs.Rule.{held, waiting, without, GrantPass, grant_in_order, released, AreApart}
use Rattle.mount_locks.specs.Walks.{grant_pass, blocks, AreBlocked, AreUnpassed, IsSettled, turns, calls_of}
use Rattle.queue_index.specs.Rivals.{is_rival, conflicts as by_keys}
use Rattle.queue_index.proofs.Lists.{any_rest, none, or_false, filter_map_is, all_filter, all_pass}
use Rattle.mount_locks.proofs.Apart.{apart_fewer, apart_released}
use Rattle.mount_locks.proofs.Touches.{touches_call, no_conflict, keys_meet}
use Rattle.queue_index.proofs.Numbers.{Rise, was_there, number_in, fewer_rise, set_is}
use Rattle.mount_locks.proofs.Numbered.{filter_numbers}
use Rattle.mount_locks.proofs.Counts.{all_granted}
use Rattle.mount_locks.proofs.Turns.{walked}
use Rattle.mount_locks.proofs.Blocked.{AreBlockedBut, skip, ends}
use Rattle.mount_locks.proofs.Passed.{left_unpassed}

-- ---- who stays
abbrev pub stays : Key → ℕ × Request → Bool
stays k e = not (touches keys_of k e.1)

items_left : (k : Key) (es : List (ℕ × Request)) → items (filter (stays k) es) ≡ filter (λ r. not (touches keys_of k r)) (items es)
items_left k es = sym (filter_map_is (λ r. not (touches keys_of k r)) (λ e. e.1) es)

call_stays : (call : ℕ) (k : Key) → k ≡ call_key call → ◌≡◌ {A = Request → Bool} (λ r. not (touches keys_of k r)) (λ r. not (r.call == call))
call_stays call k is = λ i r. (ap (λ (j : Key). not (touches keys_of j r)) is ∙ ap not (touches_call call r)) i

pub without_is : (call : ℕ) (k : Key) (es fs : List (ℕ × Request)) → k ≡ call_key call → fs ≡ filter (stays k) es → items fs ≡ without call (items es)
without_is call k es fs key left = ap (λ (l : List (ℕ × Request)). items l) left ∙ items_left k es ∙ ap (λ (t : Request → Bool). filter t (items es)) (call_stays call k key)

passed : (t : Request → Bool) (es : List (ℕ × Request)) (n : ℕ) (r : Request) → item_at n (filter (λ e. t e.1) es) ≡ Some r → t r ≡ true
passed t es n r is = found_in (λ m x. t x ≡ true) n r (filter (λ e. t e.1) es) (all_pass (λ (e : ℕ × Request). t e.1) es) is

-- ---- who is blocked still
rival_none : (n : ℕ) (r : Request) (es : List (ℕ × Request)) → list_any (λ x. by_keys keys_of x r) (items es) ≡ false → list_any (blocks n r) es ≡ false
rival_none n r [] h = refl
rival_none n r (e ∷ es) h =
    let two = or_false (by_keys keys_of e.1 r) (list_any (λ x. by_keys keys_of x r) (items es)) h in
    ap (λ (b : Bool). (b && (nat_lt e.0 n || e.1.granted)) || list_any (blocks n r) es) (no_conflict e.1 r (sym (keys_meet e.1 r) ∙ two.0)) ∙ rival_none n r es two.1

left_blocked : (k : Key) (es : List (ℕ × Request)) → Rise es → AreBlocked es → AreBlockedBut (is_at_number (λ _. is_rival keys_of k es) es) (filter (stays k) es)
left_blocked k es s blocked = λ n r is waits out.
    let back = was_there (stays k) es n r s is in
    let apart : is_rival keys_of k es r ≡ false = sym (ap (λ (o : Option Request). passes (λ _. is_rival keys_of k es) n o) back) ∙ out in
    any_rest (blocks n r) (λ e. touches keys_of k e.1) es (blocked n r back waits) (rival_none n r (touching keys_of k es) apart)

-- a number that is gone has no turn
gone_idle : (k : Key) (es : List (ℕ × Request)) → Rise es → AreBlockedBut (is_at_number (λ _ r. not (touches keys_of k r)) es) (filter (stays k) es)
gone_idle k es s = λ n r is waits out.
    let kept : is_at_number (λ _ r. not (touches keys_of k r)) es n ≡ true = ap (λ (o : Option Request). passes (λ _ r. not (touches keys_of k r)) n o) (was_there (stays k) es n r s is) ∙ passed (λ r. not (touches keys_of k r)) es n r is in
    let no : true ≡ false = sym kept ∙ out in
    absurd cc

-- ---- a release
record IsLeft (call : ℕ) (es fs : List (ℕ × Request)) (ks : List ℕ) : Type 0 where
  pub turned : grant_pass (items (turns fs ks)) (calls_of fs ks) ≡ released call (items es)
  pub blocked : AreBlocked (turns fs ks)

turned_by : (es fs : List (ℕ × Request)) (ns ms ks : List ℕ) → (turns fs ns ≡ turns fs ms) × (calls_of fs ns ≡ calls_of fs ms) → (turns fs ns ≡ turns fs ks) × (calls_of fs ns ≡ calls_of fs ks) → grant_pass (items (turns fs ms)) (calls_of fs ms) ≡ grant_pass (items (turns fs ks)) (calls_of fs ks)
turned_by es fs ns ms ks a b =
    ap (λ (l : List (ℕ × Request)). grant_pass (items l) (calls_of fs ms)) (sym a.0 ∙ b.0)
    ∙ ap (λ (c : List ℕ). grant_pass (items (turns fs ks)) c) (sym a.1 ∙ b.1)

left_is : (call : ℕ) (k : Key) (es : List (ℕ × Request)) (ks : List ℕ) → k ≡ call_key call → Rise es → AreBlocked es → ks ≡ numbers (filter (λ e. is_rival keys_of k es e.1) es) → IsLeft call es (filter (stays k) es) ks
left_is call k es ks key s blocked found =
    let fs = filter (stays k) es in
    let rest = left_blocked k es s blocked in
    let one = skip (numbers es) (is_at_number (λ _ r. not (touches keys_of k r)) es) fs (gone_idle k es s) in
    let all : filter (is_at_number (λ _ r. not (touches keys_of k r)) es) (numbers es) ≡ numbers fs = filter_numbers (λ _ r. not (touches keys_of k r)) es es (founds es s) in
    let two = skip (numbers es) (is_at_number (λ _. is_rival keys_of k es) es) fs rest in
    let some : filter (is_at_number (λ _. is_rival keys_of k es) es) (numbers es) ≡ ks = filter_numbers (λ _. is_rival keys_of k es) es es (founds es s) ∙ sym found in
    let to_all = subst (λ (l : List ℕ). (turns fs (numbers es) ≡ turns fs l) × (calls_of fs (numbers es) ≡ calls_of fs l)) all one in
    let to_some = subst (λ (l : List ℕ). (turns fs (numbers es) ≡ turns fs l) × (calls_of fs (numbers es) ≡ calls_of fs l)) some two in
    let order : released call (items es) ≡ grant_pass (items (turns fs (numbers fs))) (calls_of fs (numbers fs)) = ap (λ (q : List Request). grant_in_order (grant_pass [] []) q) (sym (without_is call k es fs key refl)) ∙ walked fs [] [] (fewer_rise (stays k) es s) in
    record {
      turned = sym (order ∙ turned_by es fs (numbers es) (numbers fs) ks to_all to_some);
      blocked = ends ks fs (λ n r is waits out. rest n r is waits (sym (number_in (λ e. is_rival keys_of k es e.1) n es s) ∙ ap (list_any (λ m. is_eq (nat_cmp n m))) (sym found) ∙ out));
    }

pub record IsReleased (call : ℕ) (es gs : List (ℕ × Request)) (calls : List ℕ) : Type 0 where
  pub queue : items gs ≡ (released call (items es)).queue
  pub calls_are : calls ≡ (released call (items es)).calls
  pub settled : IsSettled gs

pub released_is : (call : ℕ) (k l : Key) (es seen fs gs : List (ℕ × Request)) (found calls : List ℕ) → k ≡ call_key call → l ≡ call_key call → Rise es → IsSettled es → seen ≡ es → found ≡ numbers (filter (λ e. is_rival keys_of k seen e.1) seen) → fs ≡ filter (stays l) es → gs ≡ turns fs found → calls ≡ calls_of fs found → AreUnpassed gs → IsReleased call es gs calls
released_is call k l es seen fs gs found calls key again s settled same_seen has left turned called unpassed =
    let out = left_is call k es found key s settled.blocked (has ∙ ap (λ (l : List (ℕ × Request)). numbers (filter (λ e. is_rival keys_of k l e.1) l)) same_seen) in
    let same : fs ≡ filter (stays k) es = left ∙ ap (λ (j : Key). filter (stays j) es) (again ∙ sym key) in
    let queue_is : gs ≡ turns (filter (stays k) es) found = turned ∙ ap (λ (f : List (ℕ × Request)). turns f found) same in
    let queue_items : items gs ≡ (released call (items es)).queue = ap (λ (f : List (ℕ × Request)). items f) queue_is ∙ ap (λ (t : GrantPass). t.queue) out.turned in
    record {
      queue = queue_items;
      calls_are = called ∙ ap (λ (f : List (ℕ × Request)). calls_of f found) same ∙ ap (λ (t : GrantPass). t.calls) out.turned;
      settled = record {
        apart = subst (λ (q : List Request). AreApart (held q)) (sym queue_items) (apart_released call (items es) settled.apart);
        blocked = subst (λ (f : List (ℕ × Request)). AreBlocked f) (sym queue_is) out.blocked;
        unpassed = unpassed;
      };
    }

-- ---- a release where nobody waits
not_both : (r : Request) → r.granted ≡ true → r.granted ≡ false → ⊥
not_both r a b = let t : true ≡ false = sym a ∙ b in absurd cc

empty_if : (n : ℕ) (b : Bool) → b ≡ not (n == 0) → b ≡ false → n ≡ 0
empty_if n b is off = let t : not (n == 0) ≡ false = sym is ∙ off in grind (arith, t)

pub done_settled : (k : Key) (es fs : List (ℕ × Request)) (b : Bool) → Rise es → fs ≡ filter (stays k) es → b ≡ not (length (waiting (items es)) == 0) → b ≡ false → IsSettled es → IsSettled fs
done_settled k es fs b s left is off settled =
    let granted = all_granted es (empty_if (length (waiting (items es))) b is off) in
    subst (λ (l : List (ℕ × Request)). IsSettled l) (sym left) (record {
      apart = subst (λ (q : List Request). AreApart (held q)) (sym (items_left k es)) (apart_fewer (λ r. not (touches keys_of k r)) (items es) settled.apart);
      blocked = λ n r is waits. absurd (not_both r (found_in (λ m x. x.granted ≡ true) n r (filter (stays k) es) (all_filter (λ (e : ℕ × Request). e.1.granted ≡ true) (stays k) es granted) is) waits);
      unpassed = left_unpassed (stays k) es (filter (stays k) es) s settled.unpassed refl;
    })
