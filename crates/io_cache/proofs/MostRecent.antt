-- The held pages are the first in the order of last use, also after drops: by induction over the events.
use Rattle.std.proofs.Common.{◌≡◌, ℕ, suc, length, arith, Bool, true, false, not, cond, List, [], ◌∷◌, ◌++◌, take, drop, map, append_assoc, append-nil, take-append-drop, refl, sym, ap, ◌∙◌, subst}
use Rattle.std.specs.List.{filter, IsDistinct}
use Rattle.std.specs.Map.{remove_entry}
use Rattle.std.proofs.lemmas.List.{take_all}
use Rattle.std.proofs.lemmas.Map.Keys.{IsDistinct-head, IsDistinct-tail, IsDistinct-cons}
use Rattle.fop_types.specs.declared.cells.Gfid.{Gfid}
use Rattle.io_cache.specs.declared.page_key.PageKey.{PageKey}
use Rattle.io_cache.specs.Pages.{Held, is_of, is_page, key}
use Rattle.io_cache.specs.Uses.{Use, Event, page_of, others, after_use, after_event, after_events, order_after, IsUse, IsEvent, AreEvents, IsPrefix, pages_of, HoldsMostRecent}
use Rattle.io_cache.specs.Uses.Use.{Put, Hit}
use Rattle.io_cache.specs.Uses.Event.{Used, Dropped, Cleared}
use Rattle.io_cache.proofs.LastUsed.{Once, Lacks, once_nil, once_take, once_first, pages_taken, removed_is, promoted_is}

filter_append : (p : PageKey → Bool) (xs ys : List PageKey) → filter p (xs ++ ys) ≡ filter p xs ++ filter p ys
filter_append p [] ys = refl
filter_append p (x ∷ xs) ys = elim (p x) as (λ (b : Bool). cond b (x ∷ filter p (xs ++ ys)) (filter p (xs ++ ys)) ≡ cond b (x ∷ filter p xs) (filter p xs) ++ filter p ys) [
  | true ↦ ap (λ (l : List PageKey). x ∷ l) (filter_append p xs ys)
  | false ↦ filter_append p xs ys
]

lacks_filter : (k : PageKey) (p : PageKey → Bool) (ks : List PageKey) → Lacks k ks → Lacks k (filter p ks)
lacks_filter k p [] h = tt
lacks_filter k p (x ∷ ks) h = elim (p x) as (λ (b : Bool). Lacks k (cond b (x ∷ filter p ks) (filter p ks))) [ true ↦ (h.0, lacks_filter k p ks h.1) | false ↦ lacks_filter k p ks h.1 ]

once_filter : (p : PageKey → Bool) (ks : List PageKey) → Once ks → Once (filter p ks)
once_filter p [] h = once_nil
once_filter p (x ∷ ks) h = elim (p x) as (λ (b : Bool). Once (cond b (x ∷ filter p ks) (filter p ks))) [
  | true ↦ IsDistinct-cons _ x (filter p ks) (lacks_filter x p ks (IsDistinct-head _ x ks h)) (once_filter p ks (IsDistinct-tail _ x ks h))
  | false ↦ once_filter p ks (IsDistinct-tail _ x ks h)
]

-- the pages that a drop leaves
pages_left : (g : Gfid) (es : List (PageKey × List ℕ)) → map (λ p. p.0) (filter (λ p. not (is_of g p.0)) es) ≡ filter (λ k. not (is_of g k)) (map (λ p. p.0) es)
pages_left g [] = refl
pages_left g (e ∷ es) = elim (not (is_of g e.0)) as (λ (b : Bool). map (λ p. p.0) (cond b (e ∷ filter (λ p. not (is_of g p.0)) es) (filter (λ p. not (is_of g p.0)) es)) ≡ cond b (e.0 ∷ filter (λ k. not (is_of g k)) (map (λ p. p.0) es)) (filter (λ k. not (is_of g k)) (map (λ p. p.0) es))) [
  | true ↦ ap (λ (l : List PageKey). e.0 ∷ l) (pages_left g es)
  | false ↦ pages_left g es
]

prefix_is : (held new all : List PageKey) → new ≡ held → IsPrefix held all → IsPrefix new all
prefix_is held new all e h = subst (λ (l : List PageKey). IsPrefix l all) (sym e) h

prefix_take : (n : ℕ) (ks all : List PageKey) → IsPrefix ks all → IsPrefix (take n ks) all
prefix_take n ks all h = record {
  rest = drop n ks ++ h.rest;
  whole = h.whole ∙ ap (λ (l : List PageKey). l ++ h.rest) (sym (take-append-drop n ks)) ∙ append_assoc (take n ks) (drop n ks) h.rest;
}

prefix_filter : (p : PageKey → Bool) (held all : List PageKey) → IsPrefix held all → IsPrefix (filter p held) (filter p all)
prefix_filter p held all h = record { rest = filter p h.rest; whole = ap (filter p) h.whole ∙ filter_append p held h.rest }

prefix_first : (k : PageKey) (held all : List PageKey) → IsPrefix held all → IsPrefix (k ∷ others k held) (k ∷ others k all)
prefix_first k held all h = let o = prefix_filter (λ j. not (is_page k.gfid k.page j)) held all h in record { rest = o.rest; whole = ap (λ (l : List PageKey). k ∷ l) o.whole }

-- the pages after one use
used_pages : (u : Use) (c : Held) → IsUse u c → Once (pages_of c) → (n : ℕ) × (pages_of (after_use u c) ≡ take n (page_of u ∷ others (page_of u) (pages_of c)))
used_pages (Put g n bytes) c fair once =
    (c.capacity, pages_taken c.capacity ((key g n, bytes) ∷ remove_entry (is_page g n) c.pages) ∙ ap (λ (l : List PageKey). take c.capacity (key g n ∷ l)) (removed_is g n c.pages once))
used_pages (Hit g n) c fair once =
    (suc (length (others (key g n) (pages_of c))), promoted_is g n c.pages fair ∙ ap (λ (l : List PageKey). key g n ∷ l) (removed_is g n c.pages once ∙ sym (take_all (length (others (key g n) (pages_of c))) (others (key g n) (pages_of c)) (omega arith))))

one_event : (e : Event) (c : Held) (ks : List PageKey) → IsEvent e c → Once (pages_of c) → IsPrefix (pages_of c) ks → Once (pages_of (after_event e c)) × IsPrefix (pages_of (after_event e c)) (order_after (e ∷ []) ks)
one_event (Used u) c ks fair once is =
    let used = used_pages u c fair once in
    let first = page_of u ∷ others (page_of u) (pages_of c) in (
      subst (λ (l : List PageKey). Once l) (sym used.1) (once_take used.0 first (once_first (page_of u) (pages_of c) once)),
      prefix_is (take used.0 first) (pages_of (after_use u c)) (page_of u ∷ others (page_of u) ks) used.1 (prefix_take used.0 first (page_of u ∷ others (page_of u) ks) (prefix_first (page_of u) (pages_of c) ks is)),
    )
one_event (Dropped g) c ks fair once is = (
  subst (λ (l : List PageKey). Once l) (sym (pages_left g c.pages)) (once_filter (λ k. not (is_of g k)) (pages_of c) once),
  prefix_is (filter (λ k. not (is_of g k)) (pages_of c)) _ (filter (λ k. not (is_of g k)) ks) (pages_left g c.pages) (prefix_filter (λ k. not (is_of g k)) (pages_of c) ks is),
)
one_event Cleared c ks fair once is = (once_nil, record { rest = []; whole = refl })

all_events : (es : List Event) (c : Held) (ks : List PageKey) → AreEvents es c → Once (pages_of c) → IsPrefix (pages_of c) ks → IsPrefix (pages_of (after_events es c)) (order_after es ks)
all_events [] c ks fair once is = is
all_events (Used u ∷ es) c ks fair once is = let one = one_event (Used u) c ks fair.0 once is in all_events es (after_use u c) (page_of u ∷ others (page_of u) ks) fair.1 one.0 one.1
all_events (Dropped g ∷ es) c ks fair once is = let one = one_event (Dropped g) c ks fair.0 once is in all_events es (after_event (Dropped g) c) (filter (λ k. not (is_of g k)) ks) fair.1 one.0 one.1
all_events (Cleared ∷ es) c ks fair once is = let one = one_event Cleared c ks fair.0 once is in all_events es (after_event Cleared c) [] fair.1 one.0 one.1

pub most_recent : (c : Held) → IsDistinct (λ (a b : PageKey). is_page a.gfid a.page b) (pages_of c) → HoldsMostRecent c
most_recent c once es fair = all_events es c (pages_of c) fair once (record { rest = []; whole = sym (append-nil (pages_of c)) })
