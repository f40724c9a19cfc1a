-- Who holds once some requests have left: those that held and stay, and those that were freed.
use Rattle.std.proofs.Common.{◌≡◌, ℕ, Bool, true, false, not, ◌&&◌, ◌||◌, ◌==◌, cond, List, [], ◌∷◌, ◌++◌, refl, sym, ap, ◌∙◌, arith, subst}
use Rattle.std.specs.List.{list_any, filter}
use Rattle.std.proofs.lemmas.Bool.{and_parts}
use Rattle.queue_index.proofs.Lists.{any_left, any_cond, any_filter, any_same, any_and, any_map, and_true, or_true, both_same, nil_end, filter-append}
use Rattle.brick_locks.specs.declared.owner.Owner.{Owner}
use Rattle.brick_locks.specs.declared.request.Request.{Request}
use Rattle.brick_locks.specs.Locks.{conflicts, is_kept_by, is_of, held, held_after, freed, freed_after, owners, holds}
use Rattle.brick_locks.specs.Leaving.{other_owner, other_graph, released, freed_by, is_owner, is_among, HoldersAre}

-- ---- one request more
last_stays : (stays : Request → Bool) (before : List Request) (r : Request) → stays r ≡ true → filter stays (before ++ r ∷ []) ≡ filter stays before ++ r ∷ []
last_stays stays before r is = filter-append stays before (r ∷ []) ∙ ap (λ (b : Bool). filter stays before ++ cond b (r ∷ []) []) is

last_leaves : (stays : Request → Bool) (before : List Request) (r : Request) → stays r ≡ false → filter stays (before ++ r ∷ []) ≡ filter stays before
last_leaves stays before r is = filter-append stays before (r ∷ []) ∙ ap (λ (b : Bool). filter stays before ++ cond b (r ∷ []) []) is ∙ nil_end (filter stays before)

one_held : (p : Request → Bool) (kept : Bool) (r : Request) (rs : List Request) → list_any p (cond kept rs (r ∷ rs)) ≡ cond kept (list_any p rs) (p r || list_any p rs)
one_held p true r rs = refl
one_held p false r rs = refl

one_stays : (p stays : Request → Bool) (kept : Bool) (r : Request) (rs : List Request) → list_any p (filter stays (cond kept rs (r ∷ rs))) ≡ cond kept (list_any p (filter stays rs)) (cond (stays r) (p r || list_any p (filter stays rs)) (list_any p (filter stays rs)))
one_stays p stays true r rs = refl
one_stays p stays false r rs = any_cond p (stays r) r (filter stays rs)

-- x is one that stays, a those that held and stay, c those that are freed; k and l whether x waited and waits
parts : (x a c k l : Bool) → (k ≡ false → l ≡ false) → cond l (a || c) (x || (a || c)) ≡ (cond k a (x || a) || cond (k && not l) (x || c) c)
parts x a c true true h = refl
parts true a c true false h = sym (or_true a)
parts false a c true false h = refl
parts x a c false true h = absurd (let t = h refl in cc)
parts true a c false false h = refl
parts false a c false false h = refl

abbrev any_of : Owner → List Request → Bool
any_of o rs = list_any (is_of o) rs

abbrev IsSplit : Owner → (Request → Bool) → List Request → List Request → Type 0
IsSplit o stays before rs = any_of o (held_after (filter stays before) (filter stays rs)) ≡ (any_of o (filter stays (held_after before rs)) || any_of o (freed_after stays before rs))

one_split : (o : Owner) (stays : Request → Bool) (before : List Request) (r : Request) (rest was more : List Request) → any_of o (held_after (filter stays (before ++ r ∷ [])) rest) ≡ (any_of o (filter stays was) || any_of o more) → (s : Bool) → stays r ≡ s → any_of o (held_after (filter stays before) (cond s (r ∷ rest) rest)) ≡ (cond (is_kept_by before r) (any_of o (filter stays was)) (cond s (is_of o r || any_of o (filter stays was)) (any_of o (filter stays was))) || cond (s && (is_kept_by before r && not (is_kept_by (filter stays before) r))) (is_of o r || any_of o more) (any_of o more))
one_split o stays before r rest was more so_far true t =
    one_held (is_of o) (is_kept_by (filter stays before) r) r (held_after (filter stays before ++ r ∷ []) rest)
    ∙ ap (λ (b : Bool). cond (is_kept_by (filter stays before) r) b (is_of o r || b)) (ap (λ (l : List Request). any_of o (held_after l rest)) (sym (last_stays stays before r t)) ∙ so_far)
    ∙ parts (is_of o r) (any_of o (filter stays was)) (any_of o more) (is_kept_by before r) (is_kept_by (filter stays before) r) (any_left (conflicts r) stays before)
one_split o stays before r rest was more so_far false t =
    ap (λ (l : List Request). any_of o (held_after l rest)) (sym (last_leaves stays before r t))
    ∙ so_far
    ∙ sym (ap (λ (b : Bool). b || any_of o more) (both_same (is_kept_by before r) (any_of o (filter stays was))))

split : (o : Owner) (stays : Request → Bool) (rs before : List Request) → IsSplit o stays before rs
split o stays [] before = refl
split o stays (r ∷ rs) before =
    let was = held_after (before ++ r ∷ []) rs in
    let more = freed_after stays (before ++ r ∷ []) rs in
    one_split o stays before r (filter stays rs) was more (split o stays rs (before ++ r ∷ [])) (stays r) refl
    ∙ sym (
    ap (λ (b : Bool). b || any_of o (freed_after stays before (r ∷ rs))) (one_stays (is_of o) stays (is_kept_by before r) r was)
    ∙ ap (λ (b : Bool). cond (is_kept_by before r) (any_of o (filter stays was)) (cond (stays r) (is_of o r || any_of o (filter stays was)) (any_of o (filter stays was))) || b) (any_cond (is_of o) (stays r && (is_kept_by before r && not (is_kept_by (filter stays before) r))) r more))

-- ---- the two ways in which requests leave
same_number : (a b : ℕ) → (a == b) ≡ true → a ≡ b
same_number a b h = grind (arith, h)

both_ways : (x s b : Bool) → (x ≡ true → s ≡ b) → (s && x) ≡ (x && b)
both_ways true s b h = and_true s ∙ h refl
both_ways false true b h = refl
both_ways false false b h = refl

stays_of : (o : Owner) (b : Bool) (stays : Request → Bool) (rs : List Request) → ((r : Request) → is_of o r ≡ true → stays r ≡ b) → any_of o (filter stays rs) ≡ (any_of o rs && b)
stays_of o b stays rs same =
    any_filter (is_of o) stays rs
    ∙ any_same (λ r. stays r && is_of o r) (λ r. is_of o r && b) rs (λ r. both_ways (is_of o r) (stays r) b (same r))
    ∙ any_and (is_of o) b rs

holders_left : (leaves : Owner → Bool) (stays : Request → Bool) (rs : List Request) → ((o : Owner) (r : Request) → is_of o r ≡ true → stays r ≡ not (leaves o)) → HoldersAre leaves rs (owners (freed stays rs)) (filter stays rs)
holders_left leaves stays rs same = λ o.
    split o stays rs []
    ∙ ap (λ (b : Bool). b || any_of o (freed stays rs)) (stays_of o (not (leaves o)) stays (held rs) (same o))
    ∙ ap (λ (b : Bool). (holds o rs && not (leaves o)) || b) (sym (any_map (is_owner o) (λ (r : Request). r.owner) (freed stays rs)))

graph_of : (g : ℕ) (o : Owner) (r : Request) → is_of o r ≡ true → other_graph g r ≡ not (g == o.graph)
graph_of g o r h = ap (λ (n : ℕ). not (g == n)) (sym (same_number o.graph r.owner.graph (and_parts (o.graph == r.owner.graph) (o.call == r.owner.call) h).0))

owner_of : (owner o : Owner) (r : Request) → is_of o r ≡ true → other_owner owner r ≡ not (is_owner owner o)
owner_of owner o r h =
    let two = and_parts (o.graph == r.owner.graph) (o.call == r.owner.call) h in
    ap (λ (n : ℕ). not ((owner.graph == n) && (owner.call == r.owner.call))) (sym (same_number o.graph r.owner.graph two.0))
    ∙ ap (λ (n : ℕ). not ((owner.graph == o.graph) && (owner.call == n))) (sym (same_number o.call r.owner.call two.1))

pub graph_holders : (g : ℕ) (old new : List Request) (granted : List Owner) → new ≡ filter (other_graph g) old → granted ≡ owners (freed (other_graph g) old) → HoldersAre (λ o. g == o.graph) old granted new
graph_holders g old new granted left freed_is = λ o.
    ap (λ (l : List Request). holds o l) left
    ∙ holders_left (λ p. g == p.graph) (other_graph g) old (graph_of g) o
    ∙ ap (λ (l : List Owner). (holds o old && not (g == o.graph)) || is_among o l) (sym freed_is)

held_by : (owner o : Owner) (rs : List Request) → is_owner owner o ≡ true → holds o rs ≡ holds owner rs
held_by owner o rs h =
    let two = and_parts (owner.graph == o.graph) (owner.call == o.call) h in
    any_same (is_of o) (is_of owner) (held rs) (λ r.
    ap (λ (n : ℕ). (n == r.owner.graph) && (o.call == r.owner.call)) (sym (same_number owner.graph o.graph two.0))
    ∙ ap (λ (n : ℕ). (owner.graph == r.owner.graph) && (n == r.owner.call)) (sym (same_number owner.call o.call two.1)))

unheld : (h w : Bool) → (w ≡ true → h ≡ false) → h ≡ ((h && not w) || false)
unheld true true k = absurd (let t = k refl in cc)
unheld true false k = refl
unheld false w k = refl

released_holders : (owner : Owner) (old : List Request) → HoldersAre (is_owner owner) old (freed_by owner old) (released owner old)
released_holders owner old = at_one (holds owner old) refl
  where
    at_one : (b : Bool) → holds owner old ≡ b → HoldersAre (is_owner owner) old (cond b (owners (freed (other_owner owner) old)) []) (cond b (filter (other_owner owner) old) old)
    at_one true t = holders_left (is_owner owner) (other_owner owner) old (owner_of owner)
    at_one false t = λ o. unheld (holds o old) (is_owner owner o) (λ same. held_by owner o old same ∙ t)

pub release_holders : (owner : Owner) (old new : List Request) (granted : List Owner) → new ≡ released owner old → granted ≡ freed_by owner old → HoldersAre (is_owner owner) old granted new
release_holders owner old new granted left freed_is = λ o.
    ap (λ (l : List Request). holds o l) left
    ∙ released_holders owner old o
    ∙ ap (λ (l : List Owner). (holds o old && not (is_owner owner o)) || is_among o l) (sym freed_is)
