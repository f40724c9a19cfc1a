-- The turns of all requests, by their numbers, are those that are given in queue order.
use Rattle.std.proofs.Common.{◌≡◌, ℕ, ◌<◌, Bool, true, false, not, ◌&&◌, ◌||◌, nat_lt, cond, List, [], ◌∷◌, ◌++◌, Option, Some, None, refl, sym, ap, ◌∙◌, arith, subst, append_assoc, lt-ltb, le-ltb}
use Rattle.std.specs.List.{AllByRecursion}
use Rattle.std.specs.Ordering.{nat_cmp}
use Rattle.std.specs.List.Sorted.{IsStrictlySortedBy}
use Rattle.queue_index.specs.Queue.{item_at, items, numbers, changed_at, passes, is_at_number}
use Rattle.queue_index.proofs.Entries.{founds}
use Rattle.mount_locks.specs.declared.request.Request.{Request}
use Rattle.mount_locks.specs.Keys.{marked}
use Rattle.mount_locks.specs.Rule.{held, waiting, shares, conflicts, any_conflicts, granted_now, GrantPass, turn, grant_in_order}
use Rattle.mount_locks.specs.Walks.{grant_pass, blocks, is_blocked, is_due, turn_of, turn_at, call_of, call_at, with_call, turns, calls_of}
use Rattle.queue_index.proofs.Lists.{any-append, any_cond, and_true, nil_end, all_middle}
use Rattle.mount_locks.proofs.Apart.{free_is}
use Rattle.queue_index.proofs.Numbers.{Rise}
use Rattle.mount_locks.proofs.Numbered.{all_below, all_above, changed_middle, keys_middle, equal_itself}

-- ---- what blocks a request at its place
below_blocks : (n : ℕ) (r : Request) (es : List (ℕ × Request)) → AllByRecursion (λ e. e.0 < n) es → is_blocked es n r ≡ any_conflicts (items es) r
below_blocks n r [] h = refl
below_blocks n r (e ∷ es) h =
    ap (λ (b : Bool). (conflicts e.1 r && (b || e.1.granted)) || is_blocked es n r) (lt-ltb e.0 n h.0)
    ∙ ap (λ (b : Bool). b || is_blocked es n r) (and_true (conflicts e.1 r))
    ∙ ap (λ (b : Bool). conflicts e.1 r || b) (below_blocks n r es h.1)

granted_too : (c g a : Bool) → ((c && g) || a) ≡ cond g (c || a) a
granted_too true true a = refl
granted_too true false a = refl
granted_too false true a = refl
granted_too false false a = refl

above_blocks : (n : ℕ) (r : Request) (es : List (ℕ × Request)) → AllByRecursion (λ e. n < e.0) es → is_blocked es n r ≡ any_conflicts (held (items es)) r
above_blocks n r [] h = refl
above_blocks n r (e ∷ es) h =
    let late : nat_lt e.0 n ≡ false = le-ltb e.0 n (let l = h.0 in omega (arith, l)) in
    ap (λ (b : Bool). (conflicts e.1 r && (b || e.1.granted)) || is_blocked es n r) late
    ∙ ap (λ (b : Bool). (conflicts e.1 r && e.1.granted) || b) (above_blocks n r es h.1)
    ∙ granted_too (conflicts e.1 r) e.1.granted (any_conflicts (held (items es)) r)
    ∙ sym (any_cond (λ a. conflicts a r) e.1.granted e.1 (held (items es)))

not_itself : (n : ℕ) (r : Request) → blocks n r (n, r) ≡ false
not_itself n r = ap (λ (b : Bool). (not b && (not (r.shared && r.shared) && shares r.gfids r.gfids)) && (nat_lt n n || r.granted)) (equal_itself r.call)

pub blocked_here : (pre : List (ℕ × Request)) (e : ℕ × Request) (post : List (ℕ × Request)) → Rise (pre ++ e ∷ post) → is_blocked (pre ++ e ∷ post) e.0 e.1 ≡ (any_conflicts (items pre) e.1 || any_conflicts (held (items post)) e.1)
blocked_here pre e post s =
    any-append (blocks e.0 e.1) pre (e ∷ post)
    ∙ ap (λ (b : Bool). is_blocked pre e.0 e.1 || (b || is_blocked post e.0 e.1)) (not_itself e.0 e.1)
    ∙ ap (λ (b : Bool). b || is_blocked post e.0 e.1) (below_blocks e.0 e.1 pre (all_below pre e post s))
    ∙ ap (λ (b : Bool). any_conflicts (items pre) e.1 || b) (above_blocks e.0 e.1 post (all_above pre e post s))

-- ---- one turn
pub there : (pre : List (ℕ × Request)) (e : ℕ × Request) (post : List (ℕ × Request)) → Rise (pre ++ e ∷ post) → item_at e.0 (pre ++ e ∷ post) ≡ Some e.1
there pre e post s = all_middle (λ (d : ℕ × Request). item_at d.0 (pre ++ e ∷ post) ≡ Some d.1) pre e post (founds (pre ++ e ∷ post) s)

-- the test of a turn
abbrev pub is_turn : List (ℕ × Request) → Request → List (ℕ × Request) → Bool
is_turn pre r post = not r.granted && granted_now (held (items pre) ++ held (items post)) (waiting (items pre)) r

pub due_is : (pre : List (ℕ × Request)) (e : ℕ × Request) (post : List (ℕ × Request)) → Rise (pre ++ e ∷ post) → is_due (pre ++ e ∷ post) e.0 e.1 ≡ is_turn pre e.1 post
due_is pre e post s = ap (λ (b : Bool). not e.1.granted && not b) (blocked_here pre e post s) ∙ ap (λ (b : Bool). not e.1.granted && b) (sym (free_is (items pre) (items post) e.1))

pub due_at : (pre : List (ℕ × Request)) (e : ℕ × Request) (post : List (ℕ × Request)) → Rise (pre ++ e ∷ post) → is_at_number (is_due (pre ++ e ∷ post)) (pre ++ e ∷ post) e.0 ≡ is_turn pre e.1 post
due_at pre e post s = ap (λ (o : Option Request). passes (is_due (pre ++ e ∷ post)) e.0 o) (there pre e post s) ∙ due_is pre e post s

pub turn_here : (pre : List (ℕ × Request)) (e : ℕ × Request) (post : List (ℕ × Request)) → Rise (pre ++ e ∷ post) → turn_at (pre ++ e ∷ post) e.0 ≡ cond (is_turn pre e.1 post) (pre ++ (e.0, marked e.1) ∷ post) (pre ++ e ∷ post)
turn_here pre e post s =
    ap (λ (o : Option Request). turn_of (pre ++ e ∷ post) e.0 o) (there pre e post s)
    ∙ ap (λ (b : Bool). cond b (changed_at marked e.0 (pre ++ e ∷ post)) (pre ++ e ∷ post)) (due_is pre e post s)
    ∙ ap (λ (l : List (ℕ × Request)). cond (is_turn pre e.1 post) l (pre ++ e ∷ post)) (changed_middle e.0 e.1 pre post (all_below pre e post s) (all_above pre e post s))

pub call_here : (pre : List (ℕ × Request)) (e : ℕ × Request) (post : List (ℕ × Request)) → Rise (pre ++ e ∷ post) → call_at (pre ++ e ∷ post) e.0 ≡ cond (is_turn pre e.1 post) (Some e.1.call) None
call_here pre e post s =
    ap (λ (o : Option Request). call_of (pre ++ e ∷ post) e.0 o) (there pre e post s)
    ∙ ap (λ (b : Bool). cond b (Some e.1.call) None) (due_is pre e post s)

pub items_middle : (pre : List (ℕ × Request)) (e : ℕ × Request) (post : List (ℕ × Request)) → items (pre ++ e ∷ post) ≡ items pre ++ e.1 ∷ items post
items_middle [] e post = refl
items_middle (d ∷ pre) e post = ap (λ (l : List Request). d.1 ∷ l) (items_middle pre e post)

-- the queue after a turn
pub queue_here : (pre : List (ℕ × Request)) (e : ℕ × Request) (post : List (ℕ × Request)) (calls : List ℕ) → Rise (pre ++ e ∷ post) → items (turn_at (pre ++ e ∷ post) e.0) ≡ (turn (grant_pass (items pre) calls) e.1 (items post)).queue ++ items post
queue_here pre e post calls s = ap (λ (l : List (ℕ × Request)). items l) (turn_here pre e post s) ∙ at_one (is_turn pre e.1 post)
  where
    at_one : (b : Bool) → items (cond b (pre ++ (e.0, marked e.1) ∷ post) (pre ++ e ∷ post)) ≡ (cond {A = GrantPass} b (grant_pass (items pre ++ marked e.1 ∷ []) (calls ++ e.1.call ∷ [])) (grant_pass (items pre ++ e.1 ∷ []) calls)).queue ++ items post
    at_one true = items_middle pre (e.0, marked e.1) post ∙ sym (append_assoc (items pre) (marked e.1 ∷ []) (items post))
    at_one false = items_middle pre e post ∙ sym (append_assoc (items pre) (e.1 ∷ []) (items post))

-- ---- all turns
items_last : (pre : List (ℕ × Request)) (e : ℕ × Request) → items (pre ++ e ∷ []) ≡ items pre ++ e.1 ∷ []
items_last pre e = items_middle pre e []

one_on : (pre : List (ℕ × Request)) (e : ℕ × Request) (post : List (ℕ × Request)) (before after calls : List ℕ) (fs : List (ℕ × Request)) → Rise (pre ++ e ∷ post)
    → ((p : List (ℕ × Request)) (c : List ℕ) → Rise (p ++ post) → grant_in_order (grant_pass (items p) c) (items post) ≡ grant_pass (items (turns (p ++ post) (numbers post))) (c ++ calls_of (p ++ post) (numbers post)))
    → fs ≡ pre ++ e ∷ post → after ≡ before ++ calls
    → grant_in_order (grant_pass (items pre ++ e.1 ∷ []) after) (items post) ≡ grant_pass (items (turns fs (numbers post))) (before ++ (calls ++ calls_of fs (numbers post)))
one_on pre e post before after calls fs s on is called =
    let assoc = append_assoc pre (e ∷ []) post in
    ap (λ (q : List Request). grant_in_order (grant_pass q after) (items post)) (sym (items_last pre e))
    ∙ on (pre ++ e ∷ []) after (subst (λ (l : List (ℕ × Request)). Rise l) (sym assoc) s)
    ∙ ap (λ (l : List (ℕ × Request)). grant_pass (items (turns l (numbers post))) (after ++ calls_of l (numbers post))) (assoc ∙ sym is)
    ∙ ap (λ (c : List ℕ). grant_pass (items (turns fs (numbers post))) (c ++ calls_of fs (numbers post))) called
    ∙ ap (λ (c : List ℕ). grant_pass (items (turns fs (numbers post))) c) (append_assoc before calls (calls_of fs (numbers post)))

pub walked : (post pre : List (ℕ × Request)) (calls : List ℕ) → Rise (pre ++ post) → grant_in_order (grant_pass (items pre) calls) (items post) ≡ grant_pass (items (turns (pre ++ post) (numbers post))) (calls ++ calls_of (pre ++ post) (numbers post))
walked [] pre calls s = ap (λ (l : List (ℕ × Request)). grant_pass (items l) calls) (sym (nil_end pre)) ∙ ap (λ (c : List ℕ). grant_pass (items (pre ++ [])) c) (sym (nil_end calls))
walked (e ∷ post) pre calls s = at_one (is_turn pre e.1 post) (turn_at (pre ++ e ∷ post) e.0) (call_at (pre ++ e ∷ post) e.0) (turn_here pre e post s) (call_here pre e post s) (λ p c t. walked post p c t)
  where
    at_one : (b : Bool) (fs : List (ℕ × Request)) (o : Option ℕ) → fs ≡ cond b (pre ++ (e.0, marked e.1) ∷ post) (pre ++ e ∷ post) → o ≡ cond b (Some e.1.call) None
        → ((p : List (ℕ × Request)) (c : List ℕ) → Rise (p ++ post) → grant_in_order (grant_pass (items p) c) (items post) ≡ grant_pass (items (turns (p ++ post) (numbers post))) (c ++ calls_of (p ++ post) (numbers post)))
        → grant_in_order (cond {A = GrantPass} b (grant_pass (items pre ++ marked e.1 ∷ []) (calls ++ e.1.call ∷ [])) (grant_pass (items pre ++ e.1 ∷ []) calls)) (items post) ≡ grant_pass (items (turns fs (numbers post))) (calls ++ with_call o (calls_of fs (numbers post)))
    at_one true fs o is called on =
        one_on pre (e.0, marked e.1) post calls (calls ++ e.1.call ∷ []) (e.1.call ∷ []) fs (subst (λ (l : List ℕ). IsStrictlySortedBy nat_cmp l) (keys_middle pre post e.0 e.1 (marked e.1)) s) on is refl
        ∙ ap (λ (c : Option ℕ). grant_pass (items (turns fs (numbers post))) (calls ++ with_call c (calls_of fs (numbers post)))) (sym called)
    at_one false fs o is called on =
        one_on pre e post calls calls [] fs s on is (sym (nil_end calls))
        ∙ ap (λ (c : Option ℕ). grant_pass (items (turns fs (numbers post))) (calls ++ with_call c (calls_of fs (numbers post)))) (sym called)
