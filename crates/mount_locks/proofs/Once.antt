-- No call has asked twice, and each extension is of a call that holds: what each call of the table keeps.
use Rattle.std.proofs.Common.{◌≡◌, ℕ, Bool, true, false, not, ◌&&◌, ◌||◌, ◌==◌, cond, List, [], ◌∷◌, ◌++◌, refl, sym, ap, ◌∙◌, arith, subst}
use Rattle.std.specs.List.{list_any, filter, AllByRecursion}
use Rattle.queue_index.proofs.Lists.{any-append, any_left, or_false, or_true, nil_end, joined}
use Rattle.mount_locks.specs.declared.request.Request.{Request}
use Rattle.mount_locks.specs.Keys.{marked}
use Rattle.mount_locks.specs.Rule.{held, waiting, granted_now, without, GrantPass, turn, grant_in_order, released, asked, extended, is_known, has_asked, is_holding, AsksDiffer, ExtensionsFirst, AskOnce}

-- each extension is of a call that holds in a queue
abbrev AreOfHolders : List Request → List Request → Type 0
AreOfHolders queue rs = AllByRecursion (λ r. r.extends ≡ true → is_holding r.call queue ≡ true) rs

-- ---- truth values
left_false : (b c : Bool) → b ≡ false → (b && c) ≡ false
left_false b c h = ap (λ (x : Bool). x && c) h

other_call : (a b c : ℕ) → (a == c) ≡ false → (b == c) ≡ true → (b == a) ≡ false
other_call a b c apart same = grind (arith, apart, same)

-- ---- a request that is put in last, of a call that is not known
asked_last : (c : ℕ) (x : Request) (rs : List Request) → has_asked c rs ≡ false → (c == x.call) ≡ false → has_asked c (rs ++ x ∷ []) ≡ false
asked_last c x rs none apart =
    let off : (x.call == c) ≡ false = grind (arith, apart) in
    any-append (λ r. (r.call == c) && not r.extends) rs (x ∷ [])
    ∙ ap (λ (b : Bool). b || (((x.call == c) && not x.extends) || false)) none
    ∙ ap (λ (b : Bool). b || false) (left_false (x.call == c) (not x.extends) off)

differ_last : (x : Request) (rs : List Request) → is_known x.call rs ≡ false → AsksDiffer rs → AsksDiffer (rs ++ x ∷ [])
differ_last x [] none h = (λ _. refl, tt)
differ_last x (r ∷ rs) none h =
    let two = or_false (r.call == x.call) (is_known x.call rs) none in
    (λ own. asked_last r.call x rs (h.0 own) two.0, differ_last x rs two.1 h.1)

holding_last : (c : ℕ) (x : Request) (rs : List Request) → is_holding c rs ≡ true → is_holding c (rs ++ x ∷ []) ≡ true
holding_last c x rs h = any-append (λ r. (r.call == c) && (r.granted && not r.extends)) rs (x ∷ []) ∙ ap (λ (b : Bool). b || list_any (λ r. (r.call == c) && (r.granted && not r.extends)) (x ∷ [])) h

holders_last : (queue rs : List Request) (x : Request) → x.extends ≡ false → AreOfHolders queue rs → AreOfHolders (queue ++ x ∷ []) (rs ++ x ∷ [])
holders_last queue [] x own h = (λ ext. absurd (let t : true ≡ false = sym ext ∙ own in cc), tt)
holders_last queue (r ∷ rs) x own h = (λ ext. holding_last r.call x queue (h.0 ext), holders_last queue rs x own h.1)

none_last : (x : Request) (rs : List Request) → x.extends ≡ false → list_any (λ s. s.extends) rs ≡ false → list_any (λ s. s.extends) (rs ++ x ∷ []) ≡ false
none_last x rs own h = any-append (λ s. s.extends) rs (x ∷ []) ∙ ap (λ (b : Bool). b || (x.extends || false)) h ∙ ap (λ (b : Bool). b || false) own

first_last : (x : Request) (rs : List Request) → x.extends ≡ false → ExtensionsFirst rs → ExtensionsFirst (rs ++ x ∷ [])
first_last x [] own h = (λ _. refl, tt)
first_last x (r ∷ rs) own h = (λ is. none_last x rs own (h.0 is), first_last x rs own h.1)

once_last : (x : Request) (q : List Request) → x.extends ≡ false → is_known x.call q ≡ false → AskOnce q → AskOnce (q ++ x ∷ [])
once_last x q own none o = record {
  once = differ_last x q none o.once;
  holding = holders_last q q x own o.holding;
  first = first_last x q own o.first;
}

-- ---- an extension that is put in first
holders_first : (queue rs : List Request) (x : Request) → AreOfHolders queue rs → AreOfHolders (x ∷ queue) rs
holders_first queue [] x h = tt
holders_first queue (r ∷ rs) x h = (
  λ ext. ap (λ (b : Bool). ((x.call == r.call) && (x.granted && not x.extends)) || b) (h.0 ext) ∙ or_true ((x.call == r.call) && (x.granted && not x.extends)),
  holders_first queue rs x h.1,
)

once_first : (x : Request) (q : List Request) → x.extends ≡ true → is_holding x.call q ≡ true → AskOnce q → AskOnce (x ∷ q)
once_first x q ext there o = record {
  once = (λ own. absurd (let t : true ≡ false = sym ext ∙ own in cc), o.once);
  holding = (
    λ _. ap (λ (b : Bool). ((x.call == x.call) && (x.granted && not x.extends)) || b) there ∙ or_true ((x.call == x.call) && (x.granted && not x.extends)),
    holders_first q q x o.holding,
  );
  first = (λ own. absurd (let t : true ≡ false = sym ext ∙ own in cc), o.first);
}

-- ---- the requests but those of a call
differ_fewer : (t : Request → Bool) (rs : List Request) → AsksDiffer rs → AsksDiffer (filter t rs)
differ_fewer t [] h = tt
differ_fewer t (r ∷ rs) h = elim (t r) as (λ (b : Bool). AsksDiffer (cond b (r ∷ filter t rs) (filter t rs))) [
  | true ↦ (λ own. any_left (λ s. (s.call == r.call) && not s.extends) t rs (h.0 own), differ_fewer t rs h.1)
  | false ↦ differ_fewer t rs h.1
]

first_fewer : (t : Request → Bool) (rs : List Request) → ExtensionsFirst rs → ExtensionsFirst (filter t rs)
first_fewer t [] h = tt
first_fewer t (r ∷ rs) h = elim (t r) as (λ (b : Bool). ExtensionsFirst (cond b (r ∷ filter t rs) (filter t rs))) [
  | true ↦ (λ own. any_left (λ s. s.extends) t rs (h.0 own), first_fewer t rs h.1)
  | false ↦ first_fewer t rs h.1
]

-- a call that holds still does when another is released
holding_left : (x c : ℕ) (rs : List Request) → (x == c) ≡ false → is_holding x rs ≡ true → is_holding x (without c rs) ≡ true
holding_left x c [] apart is = is
holding_left x c (r ∷ rs) apart is = at_one (r.call == c) refl is (λ t. holding_left x c rs apart t)
  where
    at_two : (b : Bool) → (b || is_holding x rs) ≡ true → (is_holding x rs ≡ true → is_holding x (without c rs) ≡ true) → (b || is_holding x (without c rs)) ≡ true
    at_two true one on = refl
    at_two false one on = on one

    at_one : (b : Bool) → (r.call == c) ≡ b → is_holding x (r ∷ rs) ≡ true → (is_holding x rs ≡ true → is_holding x (without c rs) ≡ true) → is_holding x (cond (not b) (r ∷ without c rs) (without c rs)) ≡ true
    at_one true t one on = on (sym (ap (λ (b : Bool). b || is_holding x rs) (left_false (r.call == x) (r.granted && not r.extends) (other_call x r.call c apart t))) ∙ one)
    at_one false t one on = at_two ((r.call == x) && (r.granted && not r.extends)) one on

holders_left : (c : ℕ) (queue rs : List Request) → AreOfHolders queue rs → AreOfHolders (without c queue) (without c rs)
holders_left c queue [] h = tt
holders_left c queue (r ∷ rs) h = at_one (r.call == c) refl (holders_left c queue rs h.1)
  where
    at_one : (b : Bool) → (r.call == c) ≡ b → AreOfHolders (without c queue) (without c rs) → AreOfHolders (without c queue) (cond (not b) (r ∷ without c rs) (without c rs))
    at_one true t on = on
    at_one false t on = (λ ext. holding_left r.call c queue t (h.0 ext), on)

once_without : (c : ℕ) (q : List Request) → AskOnce q → AskOnce (without c q)
once_without c q o = record {
  once = differ_fewer (λ r. not (r.call == c)) q o.once;
  holding = holders_left c q q o.holding;
  first = first_fewer (λ r. not (r.call == c)) q o.first;
}

-- ---- one request granted
same_marked : (p : Request → Bool) (pre : List Request) (r : Request) (post : List Request) → p (marked r) ≡ p r → list_any p (pre ++ marked r ∷ post) ≡ list_any p (pre ++ r ∷ post)
same_marked p [] r post same = ap (λ (b : Bool). b || list_any p post) same
same_marked p (x ∷ pre) r post same = ap (λ (b : Bool). p x || b) (same_marked p pre r post same)

differ_marked : (pre : List Request) (r : Request) (post : List Request) → AsksDiffer (pre ++ r ∷ post) → AsksDiffer (pre ++ marked r ∷ post)
differ_marked [] r post h = h
differ_marked (x ∷ pre) r post h = (λ own. same_marked (λ s. (s.call == x.call) && not s.extends) pre r post refl ∙ h.0 own, differ_marked pre r post h.1)

first_marked : (pre : List Request) (r : Request) (post : List Request) → ExtensionsFirst (pre ++ r ∷ post) → ExtensionsFirst (pre ++ marked r ∷ post)
first_marked [] r post h = h
first_marked (x ∷ pre) r post h = (λ own. same_marked (λ s. s.extends) pre r post refl ∙ h.0 own, first_marked pre r post h.1)

granted_too : (a g e b : Bool) → ((a && (g && e)) || b) ≡ true → ((a && (true && e)) || b) ≡ true
granted_too true true e b h = h
granted_too true false e true h = or_true e
granted_too true false e false h = absurd cc
granted_too false g e b h = h

more_holds : (b c d : Bool) → (b || c) ≡ true → (c ≡ true → d ≡ true) → (b || d) ≡ true
more_holds true c d h k = refl
more_holds false c d h k = k h

holding_marked : (c : ℕ) (pre : List Request) (r : Request) (post : List Request) → is_holding c (pre ++ r ∷ post) ≡ true → is_holding c (pre ++ marked r ∷ post) ≡ true
holding_marked c [] r post h = granted_too (r.call == c) r.granted (not r.extends) (is_holding c post) h
holding_marked c (x ∷ pre) r post h = more_holds ((x.call == c) && (x.granted && not x.extends)) (is_holding c (pre ++ r ∷ post)) (is_holding c (pre ++ marked r ∷ post)) h (holding_marked c pre r post)

holders_there : (old new rs : List Request) → ((c : ℕ) → is_holding c old ≡ true → is_holding c new ≡ true) → AreOfHolders old rs → AreOfHolders new rs
holders_there old new [] more h = tt
holders_there old new (r ∷ rs) more h = (λ ext. more r.call (h.0 ext), holders_there old new rs more h.1)

holders_marked : (queue pre : List Request) (r : Request) (post : List Request) → AreOfHolders queue (pre ++ r ∷ post) → AreOfHolders queue (pre ++ marked r ∷ post)
holders_marked queue [] r post h = h
holders_marked queue (x ∷ pre) r post h = (h.0, holders_marked queue pre r post h.1)

once_marked : (pre : List Request) (r : Request) (post : List Request) → AskOnce (pre ++ r ∷ post) → AskOnce (pre ++ marked r ∷ post)
once_marked pre r post o = record {
  once = differ_marked pre r post o.once;
  holding = holders_there (pre ++ r ∷ post) (pre ++ marked r ∷ post) (pre ++ marked r ∷ post) (λ c. holding_marked c pre r post) (holders_marked (pre ++ r ∷ post) pre r post o.holding);
  first = first_marked pre r post o.first;
}

once_turn : (before : GrantPass) (r : Request) (after : List Request) → AskOnce (before.queue ++ r ∷ after) → AskOnce ((turn before r after).queue ++ after)
once_turn before r after o = at_one (not r.granted && granted_now (held before.queue ++ held after) (waiting before.queue) r)
  where
    at_one : (b : Bool) → AskOnce ((cond {A = GrantPass} b (record { queue = before.queue ++ marked r ∷ []; calls = before.calls ++ r.call ∷ [] }) (record { queue = before.queue ++ r ∷ []; calls = before.calls })).queue ++ after)
    at_one true = subst (λ (l : List Request). AskOnce l) (sym (joined before.queue (marked r) after)) (once_marked before.queue r after o)
    at_one false = subst (λ (l : List Request). AskOnce l) (sym (joined before.queue r after)) o

once_granted : (after : List Request) (before : GrantPass) → AskOnce (before.queue ++ after) → AskOnce (grant_in_order before after).queue
once_granted [] before o = subst (λ (l : List Request). AskOnce l) (nil_end before.queue) o
once_granted (r ∷ after) before o = once_granted after (turn before r after) (once_turn before r after o)

-- ---- the four calls
pub ask_once : (q new : List Request) (r : Request) → r.extends ≡ false → new ≡ asked q r → is_known r.call q ≡ false → AskOnce q → AskOnce new
ask_once q new r own is fresh o = subst (λ (l : List Request). AskOnce l) (sym is) (once_last (record r { granted = granted_now (held q) (waiting q) r }) q own fresh o)

pub extend_once : (q new : List Request) (r : Request) → r.extends ≡ true → new ≡ extended q r → is_holding r.call q ≡ true → AskOnce q → AskOnce new
extend_once q new r ext is there o = subst (λ (l : List Request). AskOnce l) (sym is) (once_first (record r { granted = granted_now (held q) [] r }) q ext there o)

pub release_once : (c : ℕ) (q new : List Request) → new ≡ (released c q).queue → AskOnce q → AskOnce new
release_once c q new is o = subst (λ (l : List Request). AskOnce l) (sym is) (once_granted (without c q) (record { queue = []; calls = [] }) (once_without c q o))

pub without_once : (c : ℕ) (q new : List Request) → new ≡ without c q → AskOnce q → AskOnce new
without_once c q new is o = subst (λ (l : List Request). AskOnce l) (sym is) (once_without c q o)
