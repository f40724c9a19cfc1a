-- Each request that waits conflicts with a hold, or with one before it that waits.
use Rattle.std.proofs.Common.{◌≡◌, ℕ, Bool, true, false, not, cond, List, [], ◌∷◌, ◌++◌, refl, sym, ap, ◌∙◌, subst}
use Rattle.std.specs.List.{filter}
use Rattle.queue_index.specs.Queue.{items}
use Rattle.queue_index.proofs.Lists.{filter-append}
use Rattle.queue_index.proofs.Numbers.{Rise}
use Rattle.mount_locks.specs.declared.request.Request.{Request}
use Rattle.mount_locks.specs.Rule.{held, waiting, any_conflicts, granted_now, WaitersAreBlocked}
use Rattle.mount_locks.specs.Walks.{AreBlocked}
use Rattle.mount_locks.proofs.Apart.{free_is}
use Rattle.mount_locks.proofs.Turns.{blocked_here, there, items_middle}

held_middle : (earlier later : List Request) (r : Request) → r.granted ≡ false → held (earlier ++ r ∷ later) ≡ held earlier ++ held later
held_middle earlier later r waits = filter-append (λ (a : Request). a.granted) earlier (r ∷ later) ∙ ap (λ (b : Bool). held earlier ++ cond b (r ∷ held later) (held later)) waits

at_entry : (pre : List (ℕ × Request)) (e : ℕ × Request) (post : List (ℕ × Request)) → Rise (pre ++ e ∷ post) → AreBlocked (pre ++ e ∷ post) → e.1.granted ≡ false → granted_now (held (items (pre ++ e ∷ post))) (waiting (items pre)) e.1 ≡ false
at_entry pre e post s blocked waits =
    ap (λ (q : List Request). granted_now (held q) (waiting (items pre)) e.1) (items_middle pre e post)
    ∙ ap (λ (h : List Request). granted_now h (waiting (items pre)) e.1) (held_middle (items pre) (items post) e.1 waits)
    ∙ free_is (items pre) (items post) e.1
    ∙ ap not (sym (blocked_here pre e post s) ∙ blocked e.0 e.1 (there pre e post s) waits)

-- the entries of a queue that is split at a request
record IsSplit (es : List (ℕ × Request)) (earlier : List Request) (r : Request) : Type 0 where
  pub pre : List (ℕ × Request)
  pub entry : ℕ × Request
  pub post : List (ℕ × Request)
  pub whole : es ≡ pre ++ entry ∷ post
  pub before : items pre ≡ earlier
  pub here : entry.1 ≡ r

split : (es : List (ℕ × Request)) (earlier : List Request) (r : Request) (later : List Request) → items es ≡ earlier ++ r ∷ later → IsSplit es earlier r
split [] [] r later is = absurd cc
split [] (x ∷ earlier) r later is = absurd cc
split (e ∷ es) [] r later is = let v : e.1 ≡ r = cc in record { pre = []; entry = e; post = es; whole = refl; before = refl; here = v }
split (e ∷ es) (x ∷ earlier) r later is =
    let v : e.1 ≡ x = cc in
    let rest : items es ≡ earlier ++ r ∷ later = cc in
    let two = split es earlier r later rest in
    record {
      pre = e ∷ two.pre;
      entry = two.entry;
      post = two.post;
      whole = ap (λ (l : List (ℕ × Request)). e ∷ l) two.whole;
      before = ap (λ (l : List Request). e.1 ∷ l) two.before ∙ ap (λ (y : Request). y ∷ earlier) v;
      here = two.here;
    }

pub waiters_blocked : (es : List (ℕ × Request)) → Rise es → AreBlocked es → WaitersAreBlocked (items es)
waiters_blocked es s blocked = λ earlier r later is waits.
    let two = split es earlier r later is in
    ap (λ (l : List (ℕ × Request)). granted_now (held (items l)) (waiting earlier) r) two.whole
    ∙ ap (λ (q : List Request). granted_now (held (items (two.pre ++ two.entry ∷ two.post))) (waiting q) r) (sym two.before)
    ∙ ap (λ (y : Request). granted_now (held (items (two.pre ++ two.entry ∷ two.post))) (waiting (items two.pre)) y) (sym two.here)
    ∙ at_entry two.pre two.entry two.post (subst (λ (l : List (ℕ × Request)). Rise l) two.whole s) (subst (λ (l : List (ℕ × Request)). AreBlocked l) two.whole blocked) (ap (λ (y : Request). y.granted) two.here ∙ waits)
