-- Holds stay apart: what is granted conflicts with none that is granted.
use Rattle.std.proofs.Common.{◌≡◌, refl, sym, ap, ◌∙◌, ℕ, Bool, true, false, not, ◌&&◌, ◌||◌, ◌==◌, cond, List, [], ◌∷◌, ◌++◌, subst}
use Rattle.std.specs.List.{filter}
use Rattle.std.specs.Cmp.{nat_eq_equiv}
use Rattle.fop_types.specs.declared.cells.Gfid.{Gfid}
use Rattle.mount_locks.specs.declared.request.Request.{Request}
use Rattle.mount_locks.specs.Rule.{held, waiting, is_gfid, names, shares, conflicts, any_conflicts, granted_now, without, GrantPass, turn, grant_in_order, released, AreApart}
use Rattle.queue_index.proofs.Lists.{any-append, any_same, any_or, none, and_flip, or_false, not_false, any_cond, any_left, filter-append, filter_swap, nil_end, joined}

-- ---- to conflict goes both ways
pub eq_flip : (a b : ℕ) → (a == b) ≡ (b == a)
eq_flip a b = nat_eq_equiv.symm a b

pub gfid_flip : (a b : Gfid) → is_gfid a b ≡ is_gfid b a
gfid_flip a b = ap (λ t. t && (a.lo == b.lo)) (eq_flip a.hi b.hi) ∙ ap (λ t. (b.hi == a.hi) && t) (eq_flip a.lo b.lo)

pub shares_flip : (a b : List Gfid) → shares a b ≡ shares b a
shares_flip [] b = none b
shares_flip (x ∷ xs) b =
    any_or (is_gfid x) (names xs) b
    ∙ ap (λ t. t || shares xs b) (any_same (is_gfid x) (λ y. is_gfid y x) b (gfid_flip x))
    ∙ ap (λ t. names b x || t) (shares_flip xs b)

pub conflicts_flip : (a b : Request) → conflicts a b ≡ conflicts b a
conflicts_flip a b =
    ap (λ t. not t && (not (a.shared && b.shared) && shares a.gfids b.gfids)) (eq_flip a.call b.call)
    ∙ ap (λ t. not (b.call == a.call) && (not t && shares a.gfids b.gfids)) (and_flip a.shared b.shared)
    ∙ ap (λ t. not (b.call == a.call) && (not (b.shared && a.shared) && t)) (shares_flip a.gfids b.gfids)

-- ---- one more among requests that are apart
still_free : (xs ys : List Request) (r x : Request) → conflicts r x ≡ false → any_conflicts (xs ++ ys) x ≡ false → any_conflicts (xs ++ r ∷ ys) x ≡ false
still_free xs ys r x both_ways free =
    any-append (λ a. conflicts a x) xs (r ∷ ys)
    ∙ ap (λ t. any_conflicts xs x || (t || any_conflicts ys x)) both_ways
    ∙ sym (any-append (λ a. conflicts a x) xs ys)
    ∙ free

apart_insert : (xs ys : List Request) (r : Request) → AreApart (xs ++ ys) → any_conflicts (xs ++ ys) r ≡ false → AreApart (xs ++ r ∷ ys)
apart_insert [] ys r apart free = (free, apart)
apart_insert (x ∷ xs) ys r apart free =
    let two = or_false (conflicts x r) (any_conflicts (xs ++ ys) r) free in
    (still_free xs ys r x (conflicts_flip r x ∙ two.0) apart.0, apart_insert xs ys r apart.1 two.1)

or_turn : (a b c : Bool) → ((a || b) || c) ≡ ((a || c) || b)
or_turn true b c = refl
or_turn false true true = refl
or_turn false true false = refl
or_turn false false true = refl
or_turn false false false = refl

first_of : (a b : Bool) → (not a && b) ≡ true → a ≡ false
first_of true b h = absurd cc
first_of false b h = refl

second_of : (a b : Bool) → (not a && b) ≡ true → b ≡ true
second_of true b h = absurd cc
second_of false b h = h

-- ---- the rule
or_all : (p c : Bool) (a b : Bool) → (cond p (c || a) a || cond (not p) (c || b) b) ≡ (c || (a || b))
or_all true true a b = refl
or_all true false a b = refl
or_all false true true b = refl
or_all false true false b = refl
or_all false false a b = refl

pub any_split : (q : List Request) (r : Request) → (any_conflicts (held q) r || any_conflicts (waiting q) r) ≡ any_conflicts q r
any_split [] r = refl
any_split (x ∷ xs) r =
    ap (λ t. t || any_conflicts (waiting (x ∷ xs)) r) (any_cond (λ a. conflicts a r) x.granted x (held xs))
    ∙ ap (λ t. cond x.granted (conflicts x r || any_conflicts (held xs) r) (any_conflicts (held xs) r) || t) (any_cond (λ a. conflicts a r) (not x.granted) x (waiting xs))
    ∙ or_all x.granted (conflicts x r) (any_conflicts (held xs) r) (any_conflicts (waiting xs) r)
    ∙ ap (λ t. conflicts x r || t) (any_split xs r)

-- fewer requests
apart_left : (q : Request → Bool) (xs : List Request) → AreApart xs → AreApart (filter q xs)
apart_left q [] apart = tt
apart_left q (x ∷ xs) apart =
    elim (q x) as (λ b. AreApart (cond b (x ∷ filter q xs) (filter q xs))) [
      | true ↦ (any_left (λ a. conflicts a x) q xs apart.0, apart_left q xs apart.1)
      | false ↦ apart_left q xs apart.1
    ]

pub apart_fewer : (t : Request → Bool) (q : List Request) → AreApart (held q) → AreApart (held (filter t q))
apart_fewer t q apart = rw (filter_swap (λ (a : Request). a.granted) t q) (apart_left t (held q) apart)

-- ---- the turns
pub free_is : (earlier later : List Request) (r : Request) → granted_now (held earlier ++ held later) (waiting earlier) r ≡ not (any_conflicts earlier r || any_conflicts (held later) r)
free_is earlier later r =
    ap not (
    ap (λ t. t || any_conflicts (waiting earlier) r) (any-append (λ a. conflicts a r) (held earlier) (held later))
    ∙ or_turn (any_conflicts (held earlier) r) (any_conflicts (held later) r) (any_conflicts (waiting earlier) r)
    ∙ ap (λ t. t || any_conflicts (held later) r) (any_split earlier r))

free_of_held : (a b : List Request) (r : Request) → granted_now a b r ≡ true → any_conflicts a r ≡ false
free_of_held a b r h = (or_false _ _ (not_false _ h)).0

old_apart : (earlier later : List Request) (r : Request) → r.granted ≡ false → AreApart (held (earlier ++ r ∷ later)) → AreApart (held earlier ++ held later)
old_apart earlier later r waits apart =
    let split = filter-append (λ (a : Request). a.granted) earlier (r ∷ later) in
    subst (λ (t : List Request). AreApart t) (split ∙ ap (λ b. held earlier ++ cond b (r ∷ held later) (held later)) waits) apart

pub apart_turn : (before : GrantPass) (r : Request) (after : List Request) → AreApart (held (before.queue ++ r ∷ after)) → AreApart (held ((turn before r after).queue ++ after))
apart_turn before r after apart =
    elim (not r.granted && granted_now (held before.queue ++ held after) (waiting before.queue) r) as (λ b.
    (not r.granted && granted_now (held before.queue ++ held after) (waiting before.queue) r) ≡ b
    → AreApart (held ((cond {A = GrantPass} b (record { queue = before.queue ++ record r { granted = true } ∷ []; calls = before.calls ++ r.call ∷ [] }) (record { queue = before.queue ++ r ∷ []; calls = before.calls })).queue ++ after))) [
      | true ↦ λ e.
          rw (joined before.queue (record r { granted = true }) after) (rw (filter-append (λ (a : Request). a.granted) before.queue (record r { granted = true } ∷ after))
          (apart_insert (held before.queue) (held after) (record r { granted = true })
          (old_apart before.queue after r (first_of r.granted _ e) apart)
          (free_of_held (held before.queue ++ held after) (waiting before.queue) r (second_of r.granted _ e))))
      | false ↦ λ e. rw (joined before.queue r after) apart
    ] refl

-- one more that waits
pub apart_waiting : (earlier later : List Request) (r : Request) → r.granted ≡ false → AreApart (held (earlier ++ later)) → AreApart (held (earlier ++ r ∷ later))
apart_waiting earlier later r waits apart =
    let split = filter-append (λ (a : Request). a.granted) earlier (r ∷ later) in
    subst (λ (t : List Request). AreApart t) (filter-append (λ (a : Request). a.granted) earlier later ∙ sym (split ∙ ap (λ b. held earlier ++ cond b (r ∷ held later) (held later)) waits)) apart

pub apart_turned : (after : List Request) (before : GrantPass) → AreApart (held (before.queue ++ after)) → AreApart (held (grant_in_order before after).queue)
apart_turned [] before apart = subst (λ (q : List Request). AreApart (held q)) (nil_end before.queue) apart
apart_turned (r ∷ after) before apart = apart_turned after (turn before r after) (apart_turn before r after apart)

pub apart_released : (c : ℕ) (q : List Request) → AreApart (held q) → AreApart (held (released c q).queue)
apart_released c q apart = apart_turned (without c q) (record { queue = []; calls = [] }) (apart_fewer (λ (a : Request). not (a.call == c)) q apart)
