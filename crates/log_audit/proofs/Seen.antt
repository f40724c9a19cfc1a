-- Calls that have a reply, with one reply more.
use Rattle.std.proofs.Common.{◌≡◌, refl, sym, ap, subst, ◌∙◌, arith, get_or}
use Rattle.std.specs.Prelude.{ℕ, zero, suc, ◌≢◌, ◌<◌, ◌≤◌, ◌+◌, ◌==◌, nat_lt, Bool, true, false, List, [], ◌∷◌, ◌++◌, Option, None, Some, length, take, replicate, slice_get, slice_set, if◌then◌else◌}
use Rattle.std.proofs.lemmas.Bool.{eqb-true, eqb-false, eq-eqb, ne_eqb, ltb-true, ltb-false}
use Rattle.std.proofs.lemmas.List.{take_more, take_all, length-set, length-replicate}
use Rattle.std.proofs.lemmas.Option.{slice_get_within, slice_get-get_or}
use Rattle.mount_log.proofs.Items.{some_is, at_set, beside_set}
use Rattle.mount_log.specs.Follows.{replies_to}
use Rattle.mount_log.specs.declared.logs.ReplyLine.{ReplyLine}
use Rattle.log_audit.proofs.Prefixes.{is_there}
use Rattle.log_audit.specs.Replied.{HaveOne, AreSeen, IsUnseen, Sees, all_seen}

abbrev one : Bool → ℕ
one b = if b then 1 else 0

replies_push : (number : ℕ) (rs : List ReplyLine) (r : ReplyLine) → replies_to number (rs ++ r ∷ []) ≡ replies_to number rs + one (r.call == number)
replies_push number [] r = let n = one (r.call == number) in let z : n + 0 ≡ 0 + n = omega arith in z
replies_push number (x ∷ rs) r = let ih = replies_push number rs r in omega (arith, ih)

module _ (calls : ℕ) (rs : List ReplyLine) (r : ReplyLine) (old new : List Bool) (seen : AreSeen calls rs old) (sees : Sees old r.call new) where
  by_index : (index : ℕ) (b : Bool) → slice_get (slice_set old sees.index true) index ≡ Some b → (t : Bool) → (index == sees.index) ≡ t → replies_to (index + 1) (rs ++ r ∷ []) ≡ one b
  by_index index b is true e =
      let s : index ≡ sees.index = eqb-true index sees.index e in
      let lt : sees.index < length old = slice_get_within old sees.index false sees.before in
      let b_is : true ≡ b = some_is true b (sym (at_set old sees.index true lt) ∙ ap (slice_get (slice_set old sees.index true)) (sym s) ∙ is) in
      let none : replies_to (index + 1) rs ≡ 0 = seen.each index false (ap (slice_get old) s ∙ sees.before) in
      let c = sees.call_is in let its : (r.call == index + 1) ≡ true = eq-eqb r.call (index + 1) (omega (arith, c, s)) in
      let p : replies_to (index + 1) (rs ++ r ∷ []) ≡ replies_to (index + 1) rs + 1 = replies_push (index + 1) rs r ∙ ap (λ (t : Bool). replies_to (index + 1) rs + one t) its in
      let v : replies_to (index + 1) (rs ++ r ∷ []) ≡ 1 = omega (arith, p, none) in
      v ∙ ap one b_is
  by_index index b is false e =
      let ne : index ≢ sees.index = eqb-false index sees.index e in
      let c = sees.call_is in let other : (r.call == index + 1) ≡ false = ne_eqb r.call (index + 1) (λ f. ne (omega (arith, c, f))) in
      let p : replies_to (index + 1) (rs ++ r ∷ []) ≡ replies_to (index + 1) rs + 0 = replies_push (index + 1) rs r ∙ ap (λ (t : Bool). replies_to (index + 1) rs + one t) other in
      let v : replies_to (index + 1) (rs ++ r ∷ []) ≡ replies_to (index + 1) rs = omega (arith, p) in
      v ∙ seen.each index b (sym (beside_set old sees.index index true ne) ∙ is)

  one_seen : AreSeen calls (rs ++ r ∷ []) new
  one_seen = record {
    long = ap length sees.after ∙ length-set old sees.index true ∙ seen.long;
    each = λ index b is. by_index index b (ap (λ (l : List Bool). slice_get l index) (sym sees.after) ∙ is) (index == sees.index) refl;
  }

-- where no call was seen
all_false : (n index : ℕ) (b : Bool) → slice_get (replicate n false) index ≡ Some b → false ≡ b
all_false zero index b is = absurd cc
all_false (suc n) zero b is = some_is false b is
all_false (suc n) (suc index) b is = all_false n index b is

pub none_seen : (n : ℕ) (seen : List Bool) → seen ≡ replicate n false → AreSeen n [] seen
none_seen n seen are = subst (AreSeen n []) (sym are) (record { long = length-replicate n false; each = λ index b is. ap one (all_false n index b is) })

pub next_seen : (calls : ℕ) (replies : List ReplyLine) (i : ℕ) (r : ReplyLine) (old new : List Bool) → i < length replies → r ≡ get_or replies i r → AreSeen calls (take i replies) old → Sees old r.call new
    → AreSeen calls (take (i + 1) replies) new
next_seen calls replies i r old new lt is seen sees =
    let more = take_more replies i r lt ∙ ap (λ (x : ReplyLine). take i replies ++ x ∷ []) (sym is) in
    subst (λ (l : List ReplyLine). AreSeen calls l new) (sym more) (one_seen calls (take i replies) r old new seen sees)

both_seen : (b c : Bool) → (if b then c else false) ≡ true → (b ≡ true) × (c ≡ true)
both_seen true c e = (refl, e)
both_seen false c e = absurd cc

each_seen : (seen : List Bool) (index : ℕ) → index < length seen → all_seen seen ≡ true → slice_get seen index ≡ Some true
each_seen [] index lt e = absurd (omega (arith, lt))
each_seen (b ∷ seen) zero lt e = ap Some (both_seen b (all_seen seen) e).0
each_seen (b ∷ seen) (suc index) lt e = each_seen seen index (omega (arith, lt)) (both_seen b (all_seen seen) e).1

pub have_one : (calls : ℕ) (replies : List ReplyLine) (i : ℕ) (seen : List Bool) → length replies ≡ calls → length replies ≤ i → AreSeen calls (take i replies) seen → all_seen seen ≡ true → HaveOne calls replies
have_one calls replies i seen many le are all = record { many = many; each = at } where
  whole : AreSeen calls replies seen
  whole = subst (λ (l : List ReplyLine). AreSeen calls l seen) (take_all i replies le) are

  at : (number : ℕ) → 1 ≤ number → number ≤ calls → replies_to number replies ≡ 1
  at zero low high = absurd (omega (arith, low))
  at (suc index) low high =
      let long = whole.long in let n : index + 1 ≡ suc index = omega arith in
      ap (λ (k : ℕ). replies_to k replies) (sym n) ∙ whole.each index true (each_seen seen index (omega (arith, long, high)) all)

-- ---- where each of so many calls has one reply, there is no other

-- how many replies there are to the first calls, and whether one is among them
abbrev replies_up_to : ℕ → List ReplyLine → ℕ
replies_up_to zero rs = 0
replies_up_to (suc n) rs = replies_to (suc n) rs + replies_up_to n rs

abbrev is_up_to : ℕ → ReplyLine → ℕ
is_up_to zero r = 0
is_up_to (suc n) r = one (r.call == suc n) + is_up_to n r

none_up_to : (n : ℕ) → replies_up_to n [] ≡ 0
none_up_to zero = refl
none_up_to (suc n) = let ih = none_up_to n in omega (arith, ih)

up_to_more : (n : ℕ) (r : ReplyLine) (rs : List ReplyLine) → replies_up_to n (r ∷ rs) ≡ is_up_to n r + replies_up_to n rs
up_to_more zero r rs = refl
up_to_more (suc n) r rs = let ih = up_to_more n r rs in omega (arith, ih)

is_zero : (n : ℕ) (r : ReplyLine) → r.call ≡ 0 → is_up_to n r ≡ 0
is_zero zero r e = refl
is_zero (suc n) r e = let ih = is_zero n r e in let other = ap one (ne_eqb r.call (suc n) (λ f. absurd (omega (arith, e, f)))) in omega (arith, ih, other)

is_later : (n : ℕ) (r : ReplyLine) → n < r.call → is_up_to n r ≡ 0
is_later zero r lt = refl
is_later (suc n) r lt = let ih = is_later n r (omega (arith, lt)) in let other = ap one (ne_eqb r.call (suc n) (λ f. absurd (omega (arith, lt, f)))) in omega (arith, ih, other)

is_once : (n : ℕ) (r : ReplyLine) → is_up_to n r ≤ 1
is_once zero r = omega arith
is_once (suc n) r = by (is_once n r) (r.call == suc n) refl where
  by : is_up_to n r ≤ 1 → (b : Bool) → (r.call == suc n) ≡ b → one (r.call == suc n) + is_up_to n r ≤ 1
  by ih true e = let s = eqb-true r.call (suc n) e in let z = is_later n r (omega (arith, s)) in let o = ap one e in omega (arith, z, o)
  by ih false e = let o = ap one e in omega (arith, ih, o)

few_up_to : (n : ℕ) (rs : List ReplyLine) → replies_up_to n rs ≤ length rs
few_up_to n [] = let z = none_up_to n in omega (arith, z)
few_up_to n (r ∷ rs) = let ih = few_up_to n rs in let m = up_to_more n r rs in let o = is_once n r in omega (arith, ih, m, o)

fewer_up_to : (n : ℕ) (rs : List ReplyLine) (i : ℕ) (r : ReplyLine) → slice_get rs i ≡ Some r → is_up_to n r ≡ 0 → replies_up_to n rs < length rs
fewer_up_to n [] i r there none = absurd cc
fewer_up_to n (x ∷ rs) zero r there none =
    let z : is_up_to n x ≡ 0 = ap (is_up_to n) (some_is x r there) ∙ none in let ih = few_up_to n rs in let m = up_to_more n x rs in omega (arith, ih, m, z)
fewer_up_to n (x ∷ rs) (suc i) r there none = let ih = fewer_up_to n rs i r there none in let m = up_to_more n x rs in let o = is_once n x in omega (arith, ih, m, o)

each_once : (n : ℕ) (rs : List ReplyLine) → ((number : ℕ) → 1 ≤ number → number ≤ n → replies_to number rs ≡ 1) → replies_up_to n rs ≡ n
each_once zero rs one_each = refl
each_once (suc n) rs one_each = let ih = each_once n rs (λ number low high. one_each number low (omega (arith, high))) in let o = one_each (suc n) (omega arith) (omega arith) in omega (arith, ih, o)

no_other : (calls : ℕ) (rs : List ReplyLine) (i : ℕ) (r : ReplyLine) → HaveOne calls rs → slice_get rs i ≡ Some r → is_up_to calls r ≡ 0 → ⊥
no_other calls rs i r have there none = let all = each_once calls rs have.each in let few = fewer_up_to calls rs i r there none in let many = have.many in absurd (omega (arith, all, few, many))

-- ---- and none is seen twice

fewer_at_first : (number i : ℕ) (rs : List ReplyLine) → replies_to number (take i rs) ≤ replies_to number rs
fewer_at_first number zero rs = omega arith
fewer_at_first number (suc i) [] = omega arith
fewer_at_first number (suc i) (r ∷ rs) = let ih = fewer_at_first number i rs in omega (arith, ih)

module _ (calls : ℕ) (rs : List ReplyLine) (i : ℕ) (r : ReplyLine) (seen : List Bool) (lt : i < length rs) (is : r ≡ get_or rs i r) (are : AreSeen calls (take i rs) seen) (have : HaveOne calls rs) where
  there : slice_get rs i ≡ Some r
  there = slice_get-get_or rs i r lt ∙ ap Some (sym is)

  twice : (index : ℕ) → r.call ≡ suc index → slice_get seen index ≡ Some true → ⊥
  twice index call was =
      let within = slice_get_within seen index true was in let long = are.long in
      let before : replies_to (index + 1) (take i rs) ≡ 1 = are.each index true was in
      let its = ap one (eq-eqb r.call (index + 1) (omega (arith, call))) in
      let more : replies_to (index + 1) (take (i + 1) rs) ≡ replies_to (index + 1) (take i rs) + one (r.call == index + 1) =
      ap (replies_to (index + 1)) (take_more rs i r lt ∙ ap (λ (x : ReplyLine). take i rs ++ x ∷ []) (sym is)) ∙ replies_push (index + 1) (take i rs) r in
      let few = fewer_at_first (index + 1) (i + 1) rs in
      let all = have.each (index + 1) (omega arith) (omega (arith, within, long)) in
      absurd (omega (arith, before, its, more, few, all))

  by_place : (index : ℕ) → r.call ≡ suc index → index < length seen → (o : Option Bool) → slice_get seen index ≡ o → IsUnseen seen r.call
  by_place index call within None none = absurd (is_there seen index within none)
  by_place index call within (Some true) was = absurd (twice index call was)
  by_place index call within (Some false) was = record { index = index; call_is = call; unseen = was }

  by_call : (n : ℕ) → r.call ≡ n → IsUnseen seen r.call
  by_call zero call = absurd (no_other calls rs i r have there (is_zero calls r call))
  by_call (suc index) call = by_place index call (elim_within (nat_lt index (length seen)) refl) (slice_get seen index) refl where
    elim_within : (b : Bool) → nat_lt index (length seen) ≡ b → index < length seen
    elim_within true e = ltb-true index (length seen) e
    elim_within false e = let le = ltb-false index (length seen) e in let long = are.long in absurd (no_other calls rs i r have there (is_later calls r (omega (arith, le, long, call))))

  pub unseen_next : IsUnseen seen r.call
  unseen_next = by_call r.call refl

-- at the end each was seen
all_true : (seen : List Bool) → ((index : ℕ) (b : Bool) → slice_get seen index ≡ Some b → b ≡ true) → all_seen seen ≡ true
all_true [] each = refl
all_true (b ∷ seen) each = ap (λ (c : Bool). if c then all_seen seen else false) (each 0 b refl) ∙ all_true seen (λ index c is. each (suc index) c is)

one_is : (b : Bool) → one b ≡ 1 → b ≡ true
one_is true e = refl
one_is false e = absurd cc

pub all_are_seen : (calls : ℕ) (replies : List ReplyLine) (i : ℕ) (seen : List Bool) → length replies ≤ i → AreSeen calls (take i replies) seen → HaveOne calls replies → all_seen seen ≡ true
all_are_seen calls replies i seen le are have = all_true seen at where
  whole : AreSeen calls replies seen
  whole = subst (λ (l : List ReplyLine). AreSeen calls l seen) (take_all i replies le) are

  at : (index : ℕ) (b : Bool) → slice_get seen index ≡ Some b → b ≡ true
  at index b is =
      let within = slice_get_within seen index b is in let long = whole.long in
      one_is b (sym (whole.each index b is) ∙ have.each (index + 1) (omega arith) (omega (arith, within, long)))
