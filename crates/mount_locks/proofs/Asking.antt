-- A request that is put in at an end and has its first turn.
use Rattle.std.proofs.Common.{◌≡◌, ℕ, Bool, true, false, not, ◌&&◌, ◌||◌, cond, List, [], ◌∷◌, ◌++◌, Some, refl, sym, ap, ◌∙◌, subst}
use Rattle.std.specs.List.{list_any}
use Rattle.std.specs.Ordering.{nat_cmp, is_eq}
use Rattle.fop_types.specs.declared.cells.Gfid.{Gfid}
use Rattle.queue_index.specs.Queue.{item_at, items, is_at_number, with_free_end, with_free_front}
use Rattle.mount_locks.specs.declared.request.Request.{Request}
use Rattle.mount_locks.specs.declared.request.Held.{Held}
use Rattle.mount_locks.specs.Rule.{held, waiting, conflicts, granted_now, request_of, extension_of, answer, GrantPass, turn, asked, extended, AreApart}
use Rattle.mount_locks.specs.Walks.{grant_pass, blocks, AreBlocked, AreUnpassed, IsSettled, is_due, turn_at}
use Rattle.queue_index.proofs.Lists.{any-append, or_false, or_true, nil_end}
use Rattle.mount_locks.proofs.Apart.{apart_turn, apart_waiting}
use Rattle.queue_index.proofs.Numbers.{Rise}
use Rattle.queue_index.proofs.Renumbered.{same_entry, items_free_end, items_free_front, free_end_rises, free_front_rises}
use Rattle.mount_locks.proofs.Numbered.{all_below}
use Rattle.mount_locks.proofs.Turns.{queue_here, due_at}
use Rattle.mount_locks.proofs.Blocked.{AreBlockedBut, is_among, ends}
use Rattle.mount_locks.proofs.Passed.{at_end, end_unpassed, front_unpassed}

-- what the request makes of the queue: what is asked, and the answer
pub record IsIn (queue : List Request) (granted : Bool) (gs : List (ℕ × Request)) (reply : Held) : Type 0 where
  pub queue_is : items gs ≡ queue
  pub answer_is : reply ≡ answer granted
  pub settled : IsSettled gs

one_number : (n m : ℕ) → is_among (m ∷ []) n ≡ false → is_eq (nat_cmp n m) ≡ false
one_number n m h = (or_false (is_eq (nat_cmp n m)) false h).0

settled_here : (pre : List (ℕ × Request)) (n : ℕ) (r : Request) (post : List (ℕ × Request)) → r.granted ≡ false → Rise (pre ++ (n, r) ∷ post) → AreApart (held (items pre ++ items post)) → AreBlockedBut (is_among (n ∷ [])) (pre ++ (n, r) ∷ post) → AreUnpassed (turn_at (pre ++ (n, r) ∷ post) n) → IsSettled (turn_at (pre ++ (n, r) ∷ post) n)
settled_here pre n r post waits s apart rest unpassed = record {
  apart = subst (λ (q : List Request). AreApart (held q)) (sym (queue_here pre (n, r) post [] s)) (apart_turn (grant_pass (items pre) []) r (items post) (apart_waiting (items pre) (items post) r waits apart));
  blocked = ends (n ∷ []) (pre ++ (n, r) ∷ post) rest;
  unpassed = unpassed;
}

-- ---- at the end
end_blocked : (es : List (ℕ × Request)) (n : ℕ) (x : Request) → AreBlocked es → AreBlockedBut (is_among (n ∷ [])) (es ++ (n, x) ∷ [])
end_blocked es n x h = λ m r is waits out.
    any-append (blocks m r) es ((n, x) ∷ [])
    ∙ ap (λ (b : Bool). b || list_any (blocks m r) ((n, x) ∷ [])) (h m r (sym (at_end m n x es (one_number m n out)) ∙ is) waits)

pick_last : (g : Bool) (q : List Request) (r : Request) (c d : List ℕ) → (cond {A = GrantPass} g (grant_pass (q ++ record r { granted = true } ∷ []) c) (grant_pass (q ++ record r { granted = false } ∷ []) d)).queue ≡ q ++ record r { granted = g } ∷ []
pick_last true q r c d = refl
pick_last false q r c d = refl

asked_is : (q : List Request) (call : ℕ) (gs : List Gfid) (together : Bool) → (turn (grant_pass q []) (request_of call gs together) []).queue ++ [] ≡ asked q (request_of call gs together)
asked_is q call gs together =
    let r = request_of call gs together in
    let test : granted_now (held q ++ []) (waiting q) r ≡ granted_now (held q) (waiting q) r = ap (λ (l : List Request). granted_now l (waiting q) r) (nil_end (held q)) in
    nil_end (turn (grant_pass q []) r []).queue
    ∙ pick_last (granted_now (held q ++ []) (waiting q) r) q r (call ∷ []) []
    ∙ ap (λ (g : Bool). q ++ record r { granted = g } ∷ []) test

asked_at : (es fs gs : List (ℕ × Request)) (n call : ℕ) (own ids : List Gfid) (together : Bool) (reply : Held) → own ≡ ids → fs ≡ es ++ (n, request_of call own together) ∷ [] → Rise fs → IsSettled es → gs ≡ turn_at fs n → reply ≡ answer (is_at_number (is_due fs) fs n) → AreUnpassed gs → IsIn (asked (items es) (request_of call ids together)) (granted_now (held (items es)) (waiting (items es)) (request_of call ids together)) gs reply
asked_at es fs gs n call own ids together reply same added s settled turned held_is unpassed =
    let r = request_of call ids together in
    let is : fs ≡ es ++ (n, r) ∷ [] = added ∙ ap (λ (l : List Gfid). es ++ (n, request_of call l together) ∷ []) same in
    let t : Rise (es ++ (n, r) ∷ []) = subst (λ (l : List (ℕ × Request)). Rise l) is s in
    let end : gs ≡ turn_at (es ++ (n, r) ∷ []) n = turned ∙ ap (λ (l : List (ℕ × Request)). turn_at l n) is in
    record {
      queue_is = ap (λ (l : List (ℕ × Request)). items l) end ∙ queue_here es (n, r) [] [] t ∙ asked_is (items es) call ids together;
      answer_is = held_is ∙ ap (λ (l : List (ℕ × Request)). answer (is_at_number (is_due l) l n)) is ∙ ap answer (due_at es (n, r) [] t) ∙ ap (λ (l : List Request). answer (granted_now l (waiting (items es)) r)) (nil_end (held (items es)));
      settled = subst (λ (l : List (ℕ × Request)). IsSettled l) (sym end) (settled_here es n r [] refl t (subst (λ (l : List Request). AreApart (held l)) (sym (nil_end (items es))) settled.apart) (end_blocked es n r settled.blocked) (subst (λ (l : List (ℕ × Request)). AreUnpassed l) end unpassed));
    }

end_waits_at : (es fs : List (ℕ × Request)) (n : ℕ) (x : Request) → x.granted ≡ false → fs ≡ es ++ (n, x) ∷ [] → Rise fs → IsSettled es → AreUnpassed fs
end_waits_at es fs n x waits is s settled = end_unpassed es fs n x waits is (all_below es (n, x) [] (subst (λ (l : List (ℕ × Request)). Rise l) is s)) settled.unpassed

-- ---- at the front
front_blocked : (es : List (ℕ × Request)) (n : ℕ) (x : Request) → AreBlocked es → AreBlockedBut (is_among (n ∷ [])) ((n, x) ∷ es)
front_blocked es n x h = λ m r is waits out.
    let old : item_at m es ≡ Some r = sym (ap (λ (b : Bool). cond b (Some x) (item_at m es)) (one_number m n out)) ∙ is in
    ap (λ (b : Bool). blocks m r (n, x) || b) (h m r old waits) ∙ or_true (blocks m r (n, x))

pick_first : (g : Bool) (q : List Request) (r : Request) (c d : List ℕ) → (cond {A = GrantPass} g (grant_pass (record r { granted = true } ∷ []) c) (grant_pass (record r { granted = false } ∷ []) d)).queue ++ q ≡ record r { granted = g } ∷ q
pick_first true q r c d = refl
pick_first false q r c d = refl

extended_at : (es fs gs : List (ℕ × Request)) (n call : ℕ) (own ids : List Gfid) (reply : Held) → own ≡ ids → fs ≡ (n, extension_of call own) ∷ es → Rise fs → IsSettled es → gs ≡ turn_at fs n → reply ≡ answer (is_at_number (is_due fs) fs n) → AreUnpassed gs → IsIn (extended (items es) (extension_of call ids)) (granted_now (held (items es)) [] (extension_of call ids)) gs reply
extended_at es fs gs n call own ids reply same added s settled turned held_is unpassed =
    let r = extension_of call ids in
    let is : fs ≡ (n, r) ∷ es = added ∙ ap (λ (l : List Gfid). (n, extension_of call l) ∷ es) same in
    let t : Rise ((n, r) ∷ es) = subst (λ (l : List (ℕ × Request)). Rise l) is s in
    let end : gs ≡ turn_at ((n, r) ∷ es) n = turned ∙ ap (λ (l : List (ℕ × Request)). turn_at l n) is in
    record {
      queue_is = ap (λ (l : List (ℕ × Request)). items l) end ∙ queue_here [] (n, r) es [] t ∙ pick_first (granted_now (held (items es)) [] r) (items es) r (call ∷ []) [];
      answer_is = held_is ∙ ap (λ (l : List (ℕ × Request)). answer (is_at_number (is_due l) l n)) is ∙ ap answer (due_at [] (n, r) es t);
      settled = subst (λ (l : List (ℕ × Request)). IsSettled l) (sym end) (settled_here [] n r es refl t settled.apart (front_blocked es n r settled.blocked) (subst (λ (l : List (ℕ × Request)). AreUnpassed l) end unpassed));
    }

-- ---- with fresh numbers, where those at that end are used up
fresh_settled : (es fs : List (ℕ × Request)) → Rise es → Rise fs → items es ≡ items fs → IsSettled es → IsSettled fs
fresh_settled es fs s t same settled = record {
  apart = subst (λ (q : List Request). AreApart (held q)) same settled.apart;
  blocked = λ n r is waits. let two = same_entry es fs s t same n r is in sym (two.alike (λ before x y. conflicts x y && (before || x.granted))) ∙ settled.blocked two.number r two.there waits;
  unpassed = λ n r is waits shared. let two = same_entry es fs s t same n r is in sym (two.alike (λ before x y. conflicts x y && (not before && x.granted))) ∙ settled.unpassed two.number r two.there waits shared;
}

end_settled : (es : List (ℕ × Request)) → Rise es → IsSettled es → IsSettled (with_free_end es)
end_settled es s = fresh_settled es (with_free_end es) s (free_end_rises es s) (sym (items_free_end es))

front_settled : (es : List (ℕ × Request)) → Rise es → IsSettled es → IsSettled (with_free_front es)
front_settled es s = fresh_settled es (with_free_front es) s (free_front_rises es s) (sym (items_free_front es))

pub asked_in : (es fs gs : List (ℕ × Request)) (n call : ℕ) (own ids : List Gfid) (together : Bool) (reply : Held) → Rise es → own ≡ ids → fs ≡ with_free_end es ++ (n, request_of call own together) ∷ [] → Rise fs → IsSettled es → gs ≡ turn_at fs n → reply ≡ answer (is_at_number (is_due fs) fs n) → AreUnpassed gs → IsIn (asked (items es) (request_of call ids together)) (granted_now (held (items es)) (waiting (items es)) (request_of call ids together)) gs reply
asked_in es fs gs n call own ids together reply before same added s settled turned held_is unpassed =
    subst (λ (q : List Request). IsIn (asked q (request_of call ids together)) (granted_now (held q) (waiting q) (request_of call ids together)) gs reply) (items_free_end es)
    (asked_at (with_free_end es) fs gs n call own ids together reply same added s (end_settled es before settled) turned held_is unpassed)

pub end_waits : (es fs : List (ℕ × Request)) (n : ℕ) (x : Request) → Rise es → x.granted ≡ false → fs ≡ with_free_end es ++ (n, x) ∷ [] → Rise fs → IsSettled es → AreUnpassed fs
end_waits es fs n x before waits is s settled = end_waits_at (with_free_end es) fs n x waits is s (end_settled es before settled)

pub extended_in : (es fs gs : List (ℕ × Request)) (n call : ℕ) (own ids : List Gfid) (reply : Held) → Rise es → own ≡ ids → fs ≡ (n, extension_of call own) ∷ with_free_front es → Rise fs → IsSettled es → gs ≡ turn_at fs n → reply ≡ answer (is_at_number (is_due fs) fs n) → AreUnpassed gs → IsIn (extended (items es) (extension_of call ids)) (granted_now (held (items es)) [] (extension_of call ids)) gs reply
extended_in es fs gs n call own ids reply before same added s settled turned held_is unpassed =
    subst (λ (q : List Request). IsIn (extended q (extension_of call ids)) (granted_now (held q) [] (extension_of call ids)) gs reply) (items_free_front es)
    (extended_at (with_free_front es) fs gs n call own ids reply same added s (front_settled es before settled) turned held_is unpassed)

pub front_waits : (es fs : List (ℕ × Request)) (n : ℕ) (x : Request) → Rise es → x.granted ≡ false → x.shared ≡ false → fs ≡ (n, x) ∷ with_free_front es → IsSettled es → AreUnpassed fs
front_waits es fs n x before waits alone is settled = front_unpassed (with_free_front es) fs n x waits alone is (front_settled es before settled).unpassed
