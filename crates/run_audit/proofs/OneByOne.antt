-- Sessions submit one call at a time, from the calls that were found.
use Rattle.std.proofs.Common.{◌≡◌, refl, sym, ap, subst, ◌∙◌, arith}
use Rattle.std.specs.Prelude.{ℕ, zero, suc, ◌<◌, ◌≤◌, ◌+◌, ◌-◌, nat_lt, Bool, true, false, List, [], ◌∷◌, Some, length, slice_get, slice_set, slice_index_or, take}
use Rattle.script_lang.specs.declared.scripts.Script.{Script}
use Rattle.std.proofs.lemmas.Bool.{ltb-true, ltb-false}
use Rattle.std.proofs.lemmas.List.{length-set}
use Rattle.std.proofs.lemmas.Option.{slice_get_within}
use Rattle.mount_log.proofs.Items.{some_is, at_set, beside_set}
use Rattle.mount_log.specs.Logs.{submits_in, is_submit}
use Rattle.mount_log.specs.Turns.{IsRepliedBy, AreAlone}
use Rattle.mount_log.specs.declared.logs.HubEvent.{HubEvent}
use Rattle.mount_log.specs.declared.logs.HubEvent.TheVariants as logged
use Rattle.mount_log.specs.declared.logs.Log.{Log}
use Rattle.mount_log.specs.declared.logs.ReplyLine.{ReplyLine}
use Rattle.log_audit.specs.Called.{IsCallAt, AreCalls}
use Rattle.run_audit.specs.CallPhases.{AreSingle, ArePlaces, AreOneByOne}
use Rattle.log_audit.specs.declared.calls_made.CallMade.{CallMade}
use Rattle.log_audit.proofs.Calling.{counted, same_place}

pub record HasItem {X : Type 0} (xs : List X) (n : ℕ) : Type 0 where
  pub item : X
  pub there : slice_get xs n ≡ Some item

pub has_item : {X : Type 0} → (xs : List X) (n : ℕ) → n < length xs → HasItem xs n
has_item [] n lt = absurd (omega (arith, lt))
has_item (x ∷ xs) zero lt = record { item = x; there = refl }
has_item (x ∷ xs) (suc n) lt = let rest = has_item xs n (omega (arith, lt)) in record { item = rest.item; there = rest.there }

-- a submission before another has fewer before it
submits_below : (es : List HubEvent) (j k session line : ℕ) → slice_get es j ≡ Some (logged.Submit session line) → j < k → submits_in (take j es) < submits_in (take k es)
submits_below [] j k session line is lt = absurd cc
submits_below (e ∷ es) j zero session line is lt = absurd (omega (arith, lt))
submits_below (logged.Submit a b ∷ es) zero (suc k) session line is lt = omega arith
submits_below (e ∷ es) (suc j) (suc k) session line is lt = let ih = submits_below es j k session line is (omega (arith, lt)) in omega (arith, ih)
submits_below (logged.Arrive a b ∷ es) zero (suc k) session line is lt = absurd cc
submits_below (logged.Run a b ∷ es) zero (suc k) session line is lt = absurd cc
submits_below (logged.Act a ∷ es) zero (suc k) session line is lt = absurd cc
submits_below (logged.Arm a p c d ∷ es) zero (suc k) session line is lt = absurd cc

-- of two submissions the one with fewer before it is earlier
earlier_place : (es : List HubEvent) (j k s l t m : ℕ) → slice_get es j ≡ Some (logged.Submit s l) → slice_get es k ≡ Some (logged.Submit t m) → submits_in (take j es) < submits_in (take k es) → j < k
earlier_place es j k s l t m a b lt = by (nat_lt j k) refl where
  past : k ≤ j → (c : Bool) → nat_lt k j ≡ c → j < k
  past le true e = let more = submits_below es k j t m b (ltb-true k j e) in absurd (omega (arith, lt, more))
  past le false e =
      let ge = ltb-false k j e in let same : j ≡ k = omega (arith, le, ge) in
      let as_many : submits_in (take j es) ≡ submits_in (take k es) = ap (λ (n : ℕ). submits_in (take n es)) same in
      absurd (omega (arith, lt, as_many))

  by : (c : Bool) → nat_lt j k ≡ c → j < k
  by true e = ltb-true j k e
  by false e = past (ltb-false j k e) (nat_lt k j) refl

session_is : (a b c d : ℕ) → logged.Submit a b ≡ logged.Submit c d → a ≡ c
session_is a b c d e = cc

-- the call that is submitted at a place
record IsSubmitted (script : Script) (log : Log) (calls : List CallMade) (k session : ℕ) : Type 0 where
  pub call : CallMade
  pub there : slice_get calls (submits_in (take k log.events)) ≡ Some call
  pub event_is : call.event ≡ k + 1
  pub session_is : call.session ≡ session

module _ (script : Script) (log : Log) (calls : List CallMade) (are : AreCalls script log calls) where
  call_at : (k session line : ℕ) → slice_get log.events k ≡ Some (logged.Submit session line) → IsSubmitted script log calls k session
  call_at k session line is = record { call = found.item; there = found.there; event_is = own.event_is ∙ ap (λ (n : ℕ). n + 1) same; session_is = session_is found.item.session found.item.line session line e } where
    few : submits_in (take k log.events) < length calls
    few = let c = counted log.events k session line is in let m = are.many in omega (arith, c, m)

    found : HasItem calls (submits_in (take k log.events))
    found = has_item calls (submits_in (take k log.events)) few

    own : IsCallAt script log (submits_in (take k log.events)) found.item
    own = are.each (submits_in (take k log.events)) found.item found.there

    same : own.place ≡ k
    same = same_place log.events own.place k found.item.session found.item.line session line own.there is own.number_is

    e : logged.Submit found.item.session found.item.line ≡ logged.Submit session line
    e = some_is (logged.Submit found.item.session found.item.line) (logged.Submit session line) (sym own.there ∙ ap (slice_get log.events) same ∙ is)

  pub alone : AreOneByOne log calls → AreAlone log
  alone each j k session earlier line lt first second =
      let a = call_at j session earlier first in let b = call_at k session line second in
      let number = b.event_is in let n : b.call.event - 1 ≡ k = omega (arith, number) in
      subst (λ (m : ℕ). IsRepliedBy log (submits_in (take j log.events) + 1) m) n
      (each (submits_in (take k log.events)) b.call b.there (submits_in (take j log.events)) a.call (submits_below log.events j k session earlier first lt) a.there (a.session_is ∙ sym b.session_is))

  -- a call of a session finds the earlier ones replied to
  pub one_by_one : AreAlone log → AreOneByOne log calls
  one_by_one are_alone n call there m earlier lt found same =
      let a = are.each m earlier found in let b = are.each n call there in
      let p = a.number_is in let q = b.number_is in let number = b.event_is in
      let before = earlier_place log.events a.place b.place earlier.session earlier.line call.session call.line a.there b.there (omega (arith, p, q, lt)) in
      let is_by : b.place ≡ call.event - 1 = omega (arith, number) in
      let here : slice_get log.events b.place ≡ Some (logged.Submit earlier.session call.line) =
      subst (λ (s : ℕ). slice_get log.events b.place ≡ Some (logged.Submit s call.line)) (sym same) b.there in
      subst (λ (k : ℕ). IsRepliedBy log (m + 1) k) is_by
      (subst (λ (k : ℕ). IsRepliedBy log (k + 1) b.place) p (are_alone a.place b.place earlier.session earlier.line call.line before a.there here))

-- ---- the places of replies

-- the place of each of the first n replies is at the place of its call
abbrev pub ArePlacesTo : ℕ → List ReplyLine → List ℕ → Type 0
ArePlacesTo n replies places = (m k : ℕ) (reply : ReplyLine) → m < length places → k < n → slice_get replies k ≡ Some reply → reply.call ≡ m + 1 → slice_get places m ≡ Some k

module _ (replies : List ReplyLine) (k : ℕ) (reply : ReplyLine) (old : List ℕ) (there : slice_get replies k ≡ Some reply) (single : AreSingle replies) (before : ArePlacesTo k replies old) where
  -- the reply is to a call of those
  pub place_more : ArePlacesTo (k + 1) replies (slice_set old (reply.call - 1) k)
  place_more m i r low lt is call = by (nat_lt i k) refl where
    few : m < length old
    few = let s = length-set old (reply.call - 1) k in omega (arith, low, s)

    by : (t : Bool) → nat_lt i k ≡ t → slice_get (slice_set old (reply.call - 1) k) m ≡ Some i
    by true e = beside_set old (reply.call - 1) m k (λ same. absurd (let one = single.from_one k reply there in let j = single.once i k r reply is there (omega (arith, call, same, one)) in let l = ltb-true i k e in omega (arith, j, l)))
        ∙ before m i r few (ltb-true i k e) is call
    by false e =
        let le = ltb-false i k e in let same : i ≡ k = omega (arith, lt, le) in
        let own : r ≡ reply = some_is r reply (sym is ∙ ap (slice_get replies) same ∙ there) in
        let at : reply.call - 1 ≡ m = (let c = ap (λ (x : ReplyLine). x.call) own in omega (arith, c, call)) in
        subst (λ (n : ℕ). slice_get (slice_set old n k) m ≡ Some i) (sym at) (at_set old m k few ∙ ap Some (sym same))

  -- or to none
  pub place_none : length old ≤ reply.call - 1 → ArePlacesTo (k + 1) replies old
  place_none past m i r low lt is call = by (nat_lt i k) refl where
    by : (t : Bool) → nat_lt i k ≡ t → slice_get old m ≡ Some i
    by true e = before m i r low (ltb-true i k e) is call
    by false e =
        let le = ltb-false i k e in let same : i ≡ k = omega (arith, lt, le) in
        let own : r ≡ reply = some_is r reply (sym is ∙ ap (slice_get replies) same ∙ there) in
        absurd (let c = ap (λ (x : ReplyLine). x.call) own in omega (arith, c, call, low, past))

pub none_placed : (replies : List ReplyLine) (places : List ℕ) → ArePlacesTo 0 replies places
none_placed replies places m k r low lt is call = absurd (omega (arith, lt))

pub all_placed : (replies : List ReplyLine) (k : ℕ) (places : List ℕ) → length replies ≤ k → ArePlacesTo k replies places → ArePlaces replies places
all_placed replies k places past to m i r low is call = to m i r low (let lt = slice_get_within replies i r is in omega (arith, lt, past)) is call

-- the place of a reply is read
pub place_is : (places : List ℕ) (m k place : ℕ) → slice_get places m ≡ Some k → place ≡ slice_index_or places m 0 → place ≡ k
place_is places m k place there is = is ∙ by places m there where
  by : (xs : List ℕ) (n : ℕ) → slice_get xs n ≡ Some k → slice_index_or xs n 0 ≡ k
  by [] n e = absurd cc
  by (x ∷ xs) zero e = some_is x k e
  by (x ∷ xs) (suc n) e = by xs n e
