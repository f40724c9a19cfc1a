-- What waits and is blocked stays so whatever is granted, so its turn may be left out.
use Rattle.std.proofs.Common.{◌≡◌, ℕ, Bool, true, false, not, ◌&&◌, ◌||◌, ◌==◌, nat_lt, cond, List, [], ◌∷◌, Option, Some, None, refl, sym, ap, ◌∙◌, subst}
use Rattle.std.specs.List.{list_any, filter}
use Rattle.std.specs.Ordering.{nat_cmp, is_eq}
use Rattle.queue_index.specs.Queue.{item_at, changed_at}
use Rattle.queue_index.proofs.Entries.{at_is}
use Rattle.mount_locks.specs.declared.request.Request.{Request}
use Rattle.mount_locks.specs.Keys.{marked}
use Rattle.mount_locks.specs.Rule.{conflicts}
use Rattle.mount_locks.specs.Walks.{blocks, is_blocked, AreBlocked, is_due, turn_of, turn_at, call_of, call_at, with_call, turns, calls_of}
use Rattle.queue_index.proofs.Lists.{decided}
use Rattle.mount_locks.proofs.Apart.{eq_flip}
use Rattle.queue_index.proofs.Numbers.{number_is}

-- each request that waits is blocked, but those of some numbers
abbrev pub AreBlockedBut : (ℕ → Bool) → List (ℕ × Request) → Type 0
AreBlockedBut but es = (n : ℕ) (r : Request) → item_at n es ≡ Some r → r.granted ≡ false → but n ≡ false → is_blocked es n r ≡ true

abbrev pub is_among : List ℕ → ℕ → Bool
is_among ns n = list_any (λ m. is_eq (nat_cmp n m)) ns

-- ---- one is granted
not_granted : (b : Bool) (x r : Request) (o : Option Request) → cond b (Some (marked x)) o ≡ Some r → r.granted ≡ false → (b ≡ false) × (o ≡ Some r)
not_granted true x r o is waits = absurd (let v : marked x ≡ r = cc in let t : true ≡ false = ap (λ (y : Request). y.granted) v ∙ waits in cc)
not_granted false x r o is waits = (refl, is)

other_number : (n m k : ℕ) → is_eq (nat_cmp n k) ≡ true → (m == k) ≡ false → is_eq (nat_cmp n m) ≡ false
other_number n m k here apart = at_is n m ∙ eq_flip n m ∙ ap (λ (j : ℕ). m == j) (number_is n k here) ∙ apart

pub unchanged : (m n : ℕ) (r : Request) (es : List (ℕ × Request)) → item_at n (changed_at marked m es) ≡ Some r → r.granted ≡ false → (item_at n es ≡ Some r) × (is_eq (nat_cmp n m) ≡ false)
unchanged m n r [] is waits = absurd cc
unchanged m n r (e ∷ es) is waits = at_one (m == e.0) refl is (λ h. unchanged m n r es h waits)
  where
    at_two : (b : Bool) → is_eq (nat_cmp n e.0) ≡ b → (m == e.0) ≡ false → cond b (Some e.1) (item_at n (changed_at marked m es)) ≡ Some r → (item_at n (changed_at marked m es) ≡ Some r → (item_at n es ≡ Some r) × (is_eq (nat_cmp n m) ≡ false)) → (cond b (Some e.1) (item_at n es) ≡ Some r) × (is_eq (nat_cmp n m) ≡ false)
    at_two true t apart h on = (h, other_number n m e.0 t apart)
    at_two false t apart h on = on h

    at_one : (a : Bool) → (m == e.0) ≡ a → item_at n (cond {A = ℕ × Request} a (e.0, marked e.1) e ∷ changed_at marked m es) ≡ Some r → (item_at n (changed_at marked m es) ≡ Some r → (item_at n es ≡ Some r) × (is_eq (nat_cmp n m) ≡ false)) → (item_at n (e ∷ es) ≡ Some r) × (is_eq (nat_cmp n m) ≡ false)
    at_one true t h on =
        let off = not_granted (is_eq (nat_cmp n e.0)) e.1 r (item_at n (changed_at marked m es)) h waits in
        let rest = on off.1 in
        (ap (λ (b : Bool). cond b (Some e.1) (item_at n es)) off.0 ∙ rest.0, rest.1)
    at_one false t h on = at_two (is_eq (nat_cmp n e.0)) refl t h on

more_granted : (c l g a b : Bool) → ((c && (l || g)) || a) ≡ true → (a ≡ true → b ≡ true) → ((c && (l || true)) || b) ≡ true
more_granted true true g a b h k = refl
more_granted true false g a b h k = refl
more_granted false l g a b h k = k h

same_granted : (x a b : Bool) → (x || a) ≡ true → (a ≡ true → b ≡ true) → (x || b) ≡ true
same_granted true a b h k = refl
same_granted false a b h k = k h

pub grown : (m n : ℕ) (r : Request) (es : List (ℕ × Request)) → is_blocked es n r ≡ true → is_blocked (changed_at marked m es) n r ≡ true
grown m n r [] h = h
grown m n r (e ∷ es) h = at_one (m == e.0) (λ t. grown m n r es t)
  where
    at_one : (a : Bool) → (is_blocked es n r ≡ true → is_blocked (changed_at marked m es) n r ≡ true) → (blocks n r (cond {A = ℕ × Request} a (e.0, marked e.1) e) || is_blocked (changed_at marked m es) n r) ≡ true
    at_one true on = more_granted (conflicts e.1 r) (nat_lt e.0 n) e.1.granted (is_blocked es n r) (is_blocked (changed_at marked m es) n r) h on
    at_one false on = same_granted (blocks n r e) (is_blocked es n r) (is_blocked (changed_at marked m es) n r) h on

pub marked_keeps : (but : ℕ → Bool) (m : ℕ) (es : List (ℕ × Request)) → AreBlockedBut but es → AreBlockedBut but (changed_at marked m es)
marked_keeps but m es h = λ n r is waits out. let back = unchanged m n r es is waits in grown m n r es (h n r back.0 waits out)

pub turn_keeps : (but : ℕ → Bool) (m : ℕ) (es : List (ℕ × Request)) → AreBlockedBut but es → AreBlockedBut but (turn_at es m)
turn_keeps but m es h = at_one (item_at m es)
  where
    at_two : (b : Bool) → AreBlockedBut but (cond b (changed_at marked m es) es)
    at_two true = marked_keeps but m es h
    at_two false = h

    at_one : (o : Option Request) → AreBlockedBut but (turn_of es m o)
    at_one None = h
    at_one (Some x) = at_two (is_due es m x)

-- ---- a turn that changes nothing
not_due : (g b : Bool) → (g ≡ false → b ≡ true) → (not g && not b) ≡ false
not_due true b h = refl
not_due false true h = refl
not_due false false h = absurd (let t = h refl in cc)

pub idle : (but : ℕ → Bool) (n : ℕ) (es : List (ℕ × Request)) → AreBlockedBut but es → but n ≡ false → (turn_at es n ≡ es) × (call_at es n ≡ None)
idle but n es h out = at_one (item_at n es) refl
  where
    at_one : (o : Option Request) → item_at n es ≡ o → (turn_of es n o ≡ es) × (call_of es n o ≡ None)
    at_one None t = (refl, refl)
    at_one (Some r) t =
        let off : is_due es n r ≡ false = not_due r.granted (is_blocked es n r) (λ waits. h n r t waits out) in
        (ap (λ (b : Bool). cond b (changed_at marked n es) es) off, ap (λ (b : Bool). cond b (Some r.call) None) off)

abbrev pub AreSame : List (ℕ × Request) → List ℕ → List ℕ → Type 0
AreSame es ns ms = (turns es ns ≡ turns es ms) × (calls_of es ns ≡ calls_of es ms)

pub skip : (ns : List ℕ) (but : ℕ → Bool) (es : List (ℕ × Request)) → AreBlockedBut but es → AreSame es ns (filter but ns)
skip [] but es h = (refl, refl)
skip (n ∷ ns) but es h = at_one (but n) refl (λ fs t. skip ns but fs t)
  where
    at_one : (b : Bool) → but n ≡ b → ((fs : List (ℕ × Request)) → AreBlockedBut but fs → AreSame fs ns (filter but ns)) → AreSame es (n ∷ ns) (cond b (n ∷ filter but ns) (filter but ns))
    at_one true t on =
        let rest = on (turn_at es n) (turn_keeps but n es h) in
        (rest.0, ap (λ (l : List ℕ). with_call (call_at es n) l) rest.1)
    at_one false t on =
        let still = idle but n es h t in
        let rest = on es h in (
          ap (λ (l : List (ℕ × Request)). turns l ns) still.0 ∙ rest.0,
          ap (λ (l : List (ℕ × Request)). with_call (call_at es n) (calls_of l ns)) still.0 ∙ ap (λ (o : Option ℕ). with_call o (calls_of es ns)) still.1 ∙ rest.1,
        )

-- ---- after the turns of those that were not, all are blocked
was_due : (g b : Bool) → g ≡ false → (not g && not b) ≡ false → b ≡ true
was_due true b g h = absurd cc
was_due false true g h = refl
was_due false false g h = absurd cc

some_is : (x r : Request) (o : Option Request) → o ≡ Some x → o ≡ Some r → x ≡ r
some_is x r o a b = let t : ◌≡◌ {A = Option Request} (Some x) (Some r) = sym a ∙ b in cc

none_is : (r : Request) (o : Option Request) → o ≡ None → o ≡ Some r → ⊥
none_is r o a b = let t : ◌≡◌ {A = Option Request} None (Some r) = sym a ∙ b in absurd cc

next : (m : ℕ) (ns : List ℕ) (es : List (ℕ × Request)) → AreBlockedBut (is_among (m ∷ ns)) es → AreBlockedBut (is_among ns) (turn_at es m)
next m ns es h = at_one (item_at m es) refl
  where
    here : (n : ℕ) (r : Request) → item_at n es ≡ Some r → is_eq (nat_cmp n m) ≡ true → item_at m es ≡ Some r
    here n r is t = subst (λ (j : ℕ). item_at j es ≡ Some r) (number_is n m t) is

    outside : (n : ℕ) → is_eq (nat_cmp n m) ≡ false → is_among ns n ≡ false → is_among (m ∷ ns) n ≡ false
    outside n apart out = ap (λ (b : Bool). b || is_among ns n) apart ∙ out

    at_three : (x : Request) → item_at m es ≡ Some x → is_due es m x ≡ false → (n : ℕ) (r : Request) → item_at n es ≡ Some r → r.granted ≡ false → is_among ns n ≡ false → (b : Bool) → is_eq (nat_cmp n m) ≡ b → is_blocked es n r ≡ true
    at_three x t off n r is waits out true u =
        let same : x ≡ r = some_is x r (item_at m es) t (here n r is u) in
        let blocked : is_blocked es m r ≡ true = was_due r.granted (is_blocked es m r) waits (subst (λ (y : Request). is_due es m y ≡ false) same off) in
        subst (λ (j : ℕ). is_blocked es j r ≡ true) (sym (number_is n m u)) blocked
    at_three x t off n r is waits out false u = h n r is waits (outside n u out)

    at_two : (x : Request) → item_at m es ≡ Some x → (b : Bool) → is_due es m x ≡ b → AreBlockedBut (is_among ns) (cond b (changed_at marked m es) es)
    at_two x t true off = λ n r is waits out. let back = unchanged m n r es is waits in grown m n r es (h n r back.0 waits (outside n back.1 out))
    at_two x t false off = λ n r is waits out. at_three x t off n r is waits out (is_eq (nat_cmp n m)) refl

    at_one : (o : Option Request) → item_at m es ≡ o → AreBlockedBut (is_among ns) (turn_of es m o)
    at_one None t = λ n r is waits out. h n r is waits (outside n (decided (is_eq (nat_cmp n m)) (λ u. none_is r (item_at m es) t (here n r is u))) out)
    at_one (Some x) t = at_two x t (is_due es m x) refl

pub ends : (ns : List ℕ) (es : List (ℕ × Request)) → AreBlockedBut (is_among ns) es → AreBlocked (turns es ns)
ends [] es h = λ n r is waits. h n r is waits refl
ends (m ∷ ns) es h = ends ns (turn_at es m) (next m ns es h)
