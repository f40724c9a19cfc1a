-- What a request has: its call's key, and those of its gfids.
use Rattle.std.proofs.Common.{◌≡◌, ℕ, Bool, true, false, not, ◌&&◌, ◌||◌, ◌==◌, nat_lt, List, [], ◌∷◌, refl, sym, ap, ◌∙◌, map}
use Rattle.std.specs.List.{list_any}
use Rattle.fop_types.specs.declared.cells.Gfid.{Gfid}
use Rattle.queue_index.specs.declared.key.Key.{Key}
use Rattle.queue_index.specs.Places.{is_key, has_key}
use Rattle.queue_index.specs.Queue.{touches}
use Rattle.queue_index.specs.Rivals.{meets_key, conflicts as by_keys}
use Rattle.mount_locks.specs.declared.request.Request.{Request}
use Rattle.mount_locks.specs.Rule.{is_gfid, names, shares, conflicts, request_of}
use Rattle.mount_locks.specs.Keys.{call_key, gfid_key, mode_of, keys_of}
use Rattle.mount_locks.specs.Walks.{bars, is_on, meets, keeps, is_kept}
use Rattle.queue_index.proofs.Lists.{any_same, any_or, any_and, any_when, any_swap, any_map, and_flip, and_true}
use Rattle.mount_locks.proofs.Apart.{eq_flip, gfid_flip, shares_flip}

-- ---- the two sorts of keys never meet
or_nothing : (a : Bool) → (a || false) ≡ a
or_nothing true = refl
or_nothing false = refl

call_gfids : (call : ℕ) (together : Bool) (gs : List Gfid) → has_key (call_key call) (map (λ g. gfid_key g together) gs) ≡ false
call_gfids call together [] = refl
call_gfids call together (g ∷ gs) = call_gfids call together gs

pub touches_call : (call : ℕ) (r : Request) → touches keys_of (call_key call) r ≡ (r.call == call)
touches_call call r =
    ap (λ (b : Bool). is_key (call_key call) (call_key r.call) || b) (call_gfids call r.shared r.gfids)
    ∙ or_nothing (is_key (call_key call) (call_key r.call))
    ∙ and_true (call == r.call)
    ∙ eq_flip call r.call

abbrev pub same_mode : Bool → Bool → Bool
same_mode a b = mode_of a == mode_of b

and_move : (h l m : Bool) → (h && (l && m)) ≡ ((h && l) && m)
and_move true l m = refl
and_move false l m = refl

gfid_gfids : (g : Gfid) (a b : Bool) (gs : List Gfid) → has_key (gfid_key g a) (map (λ d. gfid_key d b) gs) ≡ (names gs g && same_mode a b)
gfid_gfids g a b gs =
    any_map (is_key (gfid_key g a)) (λ d. gfid_key d b) gs
    ∙ any_same (λ d. is_key (gfid_key g a) (gfid_key d b)) (λ d. is_gfid d g && same_mode a b) gs (λ d. and_move (g.hi == d.hi) (g.lo == d.lo) (same_mode a b) ∙ ap (λ (t : Bool). t && same_mode a b) (gfid_flip g d))
    ∙ any_and (λ d. is_gfid d g) (same_mode a b) gs

pub touches_gfid : (g : Gfid) (a : Bool) (r : Request) → touches keys_of (gfid_key g a) r ≡ (names r.gfids g && same_mode a r.shared)
touches_gfid g a r = gfid_gfids g a r.shared r.gfids

-- ---- the exclusive ones, and the shared ones where an exclusive one asks
two_modes : (h together s : Bool) → ((h && same_mode false s) || (not together && (h && same_mode true s))) ≡ (h && not (together && s))
two_modes true true true = refl
two_modes true true false = refl
two_modes true false true = refl
two_modes true false false = refl
two_modes false true s = refl
two_modes false false s = refl

pub on_modes : (g : Gfid) (together : Bool) (s : Request) → (touches keys_of (gfid_key g false) s || (not together && touches keys_of (gfid_key g true) s)) ≡ is_on g together s
on_modes g together s =
    ap (λ (b : Bool). b || (not together && touches keys_of (gfid_key g true) s)) (touches_gfid g false s)
    ∙ ap (λ (b : Bool). (names s.gfids g && same_mode false s.shared) || (not together && b)) (touches_gfid g true s)
    ∙ two_modes (names s.gfids g) together s.shared

and_over : (a n b x : Bool) → ((a || (n && b)) && x) ≡ ((a && x) || (n && (b && x)))
and_over true true true true = refl
and_over true true true false = refl
and_over true true false true = refl
and_over true true false false = refl
and_over true false b true = refl
and_over true false b false = refl
and_over false true b x = refl
and_over false false b x = refl

-- a request that has a key, and bars
abbrev pub bars_by : Key → Bool → ℕ → ℕ → ℕ × Request → Bool
bars_by k together call n e = touches keys_of k e.1 && bars together call n e.0 e.1

any_on : (g : Gfid) (together : Bool) (call n : ℕ) (es : List (ℕ × Request)) → list_any (λ e. is_on g together e.1 && bars together call n e.0 e.1) es ≡ (list_any (bars_by (gfid_key g false) together call n) es || (not together && list_any (bars_by (gfid_key g true) together call n) es))
any_on g together call n es =
    any_same (λ e. is_on g together e.1 && bars together call n e.0 e.1) (λ e. bars_by (gfid_key g false) together call n e || (not together && bars_by (gfid_key g true) together call n e)) es (λ e. ap (λ (b : Bool). b && bars together call n e.0 e.1) (sym (on_modes g together e.1)) ∙ and_over (touches keys_of (gfid_key g false) e.1) (not together) (touches keys_of (gfid_key g true) e.1) (bars together call n e.0 e.1))
    ∙ any_or (bars_by (gfid_key g false) together call n) (λ e. not together && bars_by (gfid_key g true) together call n e) es
    ∙ ap (λ (b : Bool). list_any (bars_by (gfid_key g false) together call n) es || b) (any_when (not together) (bars_by (gfid_key g true) together call n) es)

pub barred_exclusive : (g : Gfid) (together : Bool) (call n : ℕ) (k : Key) (es : List (ℕ × Request)) → k ≡ gfid_key g false → true ≡ list_any (bars_by k together call n) es → true ≡ list_any (λ e. is_on g together e.1 && bars together call n e.0 e.1) es
barred_exclusive g together call n k es is h = sym (any_on g together call n es ∙ ap (λ (b : Bool). b || (not together && list_any (bars_by (gfid_key g true) together call n) es)) (ap (λ (t : Key). list_any (bars_by t together call n) es) (sym is) ∙ sym h))

pub barred_none : (g : Gfid) (together : Bool) (call n : ℕ) (k : Key) (es : List (ℕ × Request)) → k ≡ gfid_key g false → false ≡ list_any (bars_by k together call n) es → together ≡ true → false ≡ list_any (λ e. is_on g together e.1 && bars together call n e.0 e.1) es
barred_none g together call n k es is h t =
    sym (any_on g together call n es
    ∙ ap (λ (b : Bool). b || (not together && list_any (bars_by (gfid_key g true) together call n) es)) (ap (λ (t : Key). list_any (bars_by t together call n) es) (sym is) ∙ sym h)
    ∙ ap (λ (b : Bool). not b && list_any (bars_by (gfid_key g true) together call n) es) t)

pub barred_shared : (g : Gfid) (together : Bool) (call n : ℕ) (b : Bool) (k l : Key) (es : List (ℕ × Request)) → k ≡ gfid_key g false → l ≡ gfid_key g true → false ≡ list_any (bars_by k together call n) es → together ≡ false → b ≡ list_any (bars_by l together call n) es → b ≡ list_any (λ e. is_on g together e.1 && bars together call n e.0 e.1) es
barred_shared g together call n b k l es is js h t e =
    e ∙ ap (λ (t : Key). list_any (bars_by t together call n) es) js ∙
    sym (any_on g together call n es
    ∙ ap (λ (b : Bool). b || (not together && list_any (bars_by (gfid_key g true) together call n) es)) (ap (λ (t : Key). list_any (bars_by t together call n) es) (sym is) ∙ sym h)
    ∙ ap (λ (b : Bool). not b && list_any (bars_by (gfid_key g true) together call n) es) t)

-- ---- on several gfids
bools : (c h s t x : Bool) → s ≡ t → ((h && not s) && (not c && x)) ≡ ((not c && (not t && h)) && x)
bools true true true t x e = refl
bools true true false t x e = refl
bools true false s t x e = refl
bools false true true true x e = refl
bools false true true false x e = absurd cc
bools false true false true x e = absurd cc
bools false true false false x e = refl
bools false false s true x e = refl
bools false false s false x e = refl

one_keeps : (call : ℕ) (gs : List Gfid) (together : Bool) (n : ℕ) (e : ℕ × Request) → list_any (λ g. is_on g together e.1 && bars together call n e.0 e.1) gs ≡ keeps n (request_of call gs together) e
one_keeps call gs together n e =
    any_and (λ g. is_on g together e.1) (bars together call n e.0 e.1) gs
    ∙ ap (λ (b : Bool). b && bars together call n e.0 e.1) (any_and (names e.1.gfids) (not (together && e.1.shared)) gs)
    ∙ bools (e.1.call == call) (shares e.1.gfids gs) (together && e.1.shared) (e.1.shared && together) (nat_lt e.0 n || (not together && e.1.granted)) (and_flip together e.1.shared)

pub any_keeps : (call : ℕ) (gs : List Gfid) (together : Bool) (n : ℕ) (es : List (ℕ × Request)) → list_any (λ g. list_any (λ e. is_on g together e.1 && bars together call n e.0 e.1) es) gs ≡ is_kept es n (request_of call gs together)
any_keeps call gs together n es =
    any_swap (λ g e. is_on g together e.1 && bars together call n e.0 e.1) gs es
    ∙ any_same (λ e. list_any (λ g. is_on g together e.1 && bars together call n e.0 e.1) gs) (keeps n (request_of call gs together)) es (one_keeps call gs together n)

-- ---- what conflicts meets
meet_bools : (c n s : Bool) → (s && not n) ≡ false → (not c && (not n && s)) ≡ false
meet_bools true n s h = refl
meet_bools false true s h = refl
meet_bools false false true h = h
meet_bools false false false h = refl

pub no_conflict : (e r : Request) → meets e.gfids e.shared r ≡ false → conflicts e r ≡ false
no_conflict e r h = meet_bools (e.call == r.call) (e.shared && r.shared) (shares e.gfids r.gfids) (ap (λ (b : Bool). b && not (e.shared && r.shared)) (shares_flip e.gfids r.gfids) ∙ h)

pub any_meets : (gs : List Gfid) (together : Bool) (s : Request) → list_any (λ g. is_on g together s) gs ≡ meets gs together s
any_meets gs together s = any_and (names s.gfids) (not (together && s.shared)) gs

-- ---- two requests conflict by their keys where they meet
on_mode : (b : Bool) (g : Gfid) (s : Request) → meets_key keys_of (gfid_key g b) s ≡ is_on g b s
on_mode true g s = on_modes g true s
on_mode false g s = ap (λ (x : Bool). touches keys_of (gfid_key g false) s || x) (or_nothing (touches keys_of (gfid_key g true) s)) ∙ on_modes g false s

pub keys_meet : (r s : Request) → by_keys keys_of r s ≡ meets r.gfids r.shared s
keys_meet r s =
    any_map (λ k. meets_key keys_of k s) (λ g. gfid_key g r.shared) r.gfids
    ∙ any_same (λ g. meets_key keys_of (gfid_key g r.shared) s) (λ g. is_on g r.shared s) r.gfids (λ g. on_mode r.shared g s)
    ∙ any_meets r.gfids r.shared s
