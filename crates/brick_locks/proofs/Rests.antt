-- One step of a walk over the rest of a list.
use Rattle.std.proofs.Common.{◌≡◌, ℕ, ◌+◌, ◌<◌, ◌≤◌, Bool, true, false, not, ◌&&◌, ◌||◌, ◌==◌, cond, List, [], ◌∷◌, Option, Some, None, refl, sym, ap, ◌∙◌, arith, drop, length, get_or, ◌++◌, append_assoc}
use Rattle.std.proofs.lemmas.List.{drop_more, drop_all}
use Rattle.std.proofs.lemmas.List.Elements.{filter_agree}
use Rattle.std.specs.List.{list_any, filter}
use Rattle.std.specs.Ordering.{nat_cmp, is_eq}
use Rattle.fop_types.specs.declared.cells.Cell.{Cell}
use Rattle.queue_index.specs.declared.key.Key.{Key}
use Rattle.queue_index.specs.Queue.{item_at, numbers, without, touches, touching, passes, is_at_number}
use Rattle.queue_index.proofs.Entries.{at_is}
use Rattle.brick_locks.specs.declared.request.Request.{Request}
use Rattle.brick_locks.specs.declared.owner.Owner.{Owner}
use Rattle.brick_locks.specs.Locks.{has_cell, is_kept_by}
use Rattle.brick_locks.specs.Keys.{cell_key, keys_of}
use Rattle.brick_locks.specs.Walks.{bars, meets, owner_if, owner_at, with_owner, picked}
use Rattle.queue_index.proofs.Lists.{none, any_and, filter_filter, filter_all}
use Rattle.brick_locks.proofs.Touches.{bars_is}

-- one that does not pass
pub any_skip : {X : Type 0} (p : X → Bool) (xs : List X) (i : ℕ) (d : X) (w : Bool) → i < length xs → p (get_or xs i d) ≡ false → list_any p (drop i xs) ≡ w → list_any p (drop (i + 1) xs) ≡ w
any_skip p xs i d w fits off so_far = sym (ap (list_any p) (drop_more xs i d fits) ∙ ap (λ (b : Bool). b || list_any p (drop (i + 1) xs)) off) ∙ so_far

-- ---- requests taken out, one by one
eq_turn : (a b : ℕ) → is_eq (nat_cmp a b) ≡ is_eq (nat_cmp b a)
eq_turn a b = grind (arith)

not_or : (a b : Bool) → (not a && not b) ≡ not (a || b)
not_or true b = refl
not_or false b = refl

pub take_rest : (xs : List ℕ) (i d : ℕ) (q r w : List (ℕ × Request)) → i < length xs → r ≡ without (get_or xs i d) q → filter (λ e. not (list_any (λ n. is_eq (nat_cmp e.0 n)) (drop i xs))) q ≡ w → filter (λ e. not (list_any (λ n. is_eq (nat_cmp e.0 n)) (drop (i + 1) xs))) r ≡ w
take_rest xs i d q r w fits is so_far =
    ap (λ (l : List (ℕ × Request)). filter (λ e. not (list_any (λ n. is_eq (nat_cmp e.0 n)) (drop (i + 1) xs))) l) is
    ∙ filter_filter (λ e. not (list_any (λ n. is_eq (nat_cmp e.0 n)) (drop (i + 1) xs))) (λ e. not (get_or xs i d == e.0)) q
    ∙ filter_agree (λ e. not (get_or xs i d == e.0) && not (list_any (λ n. is_eq (nat_cmp e.0 n)) (drop (i + 1) xs))) (λ e. not (list_any (λ n. is_eq (nat_cmp e.0 n)) (drop i xs))) (λ e. not_or (get_or xs i d == e.0) (list_any (λ n. is_eq (nat_cmp e.0 n)) (drop (i + 1) xs)) ∙ ap (λ (b : Bool). not (b || list_any (λ n. is_eq (nat_cmp e.0 n)) (drop (i + 1) xs))) (sym (at_is (get_or xs i d) e.0) ∙ eq_turn (get_or xs i d) e.0) ∙ sym (ap (λ (l : List ℕ). not (list_any (λ n. is_eq (nat_cmp e.0 n)) l)) (drop_more xs i d fits))) q
    ∙ so_far

pub none_left : (q w : List (ℕ × Request)) (xs : List ℕ) (i : ℕ) → length xs ≤ i → filter (λ e. not (list_any (λ n. is_eq (nat_cmp e.0 n)) (drop i xs))) q ≡ w → q ≡ w
none_left q w xs i past so_far = sym (ap (λ (l : List ℕ). filter (λ e. not (list_any (λ n. is_eq (nat_cmp e.0 n)) l)) q) (drop_all i xs past) ∙ filter_all q) ∙ so_far

-- one that passes
pub any_hit : {X : Type 0} (p : X → Bool) (xs : List X) (i : ℕ) (d : X) (w : Bool) → i < length xs → p (get_or xs i d) ≡ true → list_any p (drop i xs) ≡ w → true ≡ w
any_hit p xs i d w fits hit so_far = sym (ap (list_any p) (drop_more xs i d fits) ∙ ap (λ (b : Bool). b || list_any p (drop (i + 1) xs)) hit) ∙ so_far

-- ---- the owners that are picked
pub kept_is : (b : Bool) (l : List Cell) (r : Request) (rs : List Request) → l ≡ r.cells → b ≡ list_any (meets l r.shared) rs → b ≡ is_kept_by rs r
kept_is b l r rs is e = e ∙ ap (λ (x : List Cell). list_any (meets x r.shared) rs) is

pub owner_yes : (p : ℕ → Request → Bool) (n : ℕ) (o : Option Request) (r : Request) → Some r ≡ o → p n r ≡ true → Some r.owner ≡ owner_if p n o
owner_yes p n o r is on = sym (ap (λ (x : Option Request). owner_if p n x) (sym is) ∙ ap (λ (b : Bool). cond b (Some r.owner) None) on)

pub owner_no : (p : ℕ → Request → Bool) (n : ℕ) (o : Option Request) (r : Request) → Some r ≡ o → p n r ≡ false → None ≡ owner_if p n o
owner_no p n o r is off = sym (ap (λ (x : Option Request). owner_if p n x) (sym is) ∙ ap (λ (b : Bool). cond b (Some r.owner) None) off)

pub picked_more : (p : ℕ → Request → Bool) (es : List (ℕ × Request)) (ns : List ℕ) (i d : ℕ) (x : Owner) (os now w : List Owner) → i < length ns → Some x ≡ owner_at p es (get_or ns i d) → now ≡ os ++ x ∷ [] → os ++ picked p es (drop i ns) ≡ w → now ++ picked p es (drop (i + 1) ns) ≡ w
picked_more p es ns i d x os now w fits is pushed so_far =
    ap (λ (l : List Owner). l ++ picked p es (drop (i + 1) ns)) pushed
    ∙ append_assoc os (x ∷ []) (picked p es (drop (i + 1) ns))
    ∙ sym (ap (λ (l : List ℕ). os ++ picked p es l) (drop_more ns i d fits) ∙ ap (λ (o : Option Owner). os ++ with_owner o (picked p es (drop (i + 1) ns))) (sym is))
    ∙ so_far

pub picked_skip : (p : ℕ → Request → Bool) (es : List (ℕ × Request)) (ns : List ℕ) (i d : ℕ) (os w : List Owner) → i < length ns → None ≡ owner_at p es (get_or ns i d) → os ++ picked p es (drop i ns) ≡ w → os ++ picked p es (drop (i + 1) ns) ≡ w
picked_skip p es ns i d os w fits is so_far = sym (ap (λ (l : List ℕ). os ++ picked p es l) (drop_more ns i d fits) ∙ ap (λ (o : Option Owner). os ++ with_owner o (picked p es (drop (i + 1) ns))) (sym is)) ∙ so_far
