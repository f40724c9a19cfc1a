-- The locks of each call, with one more; and the order of a lock phase.
use Rattle.std.proofs.Common.{◌≡◌, refl, sym, ap, subst, ◌∙◌, arith, inl, inr, length-set}
use Rattle.std.specs.Prelude.{ℕ, zero, suc, ◌<◌, ◌⊎◌, Bool, List, [], ◌∷◌, ◌++◌, Some, Contains, length, map, slice_get, slice_index_or, slice_set}
use Rattle.std.specs.List.{AllByRecursion}
use Rattle.std.proofs.lemmas.Bool.{cases_eq}
use Rattle.std.proofs.lemmas.List.{map-set, get_or-set_same, get_or-set_other, get_or-map, length-map}
use Rattle.std.proofs.lemmas.List.Elements.{Contains-append_left, Contains-push, Contains-push_cases}
use Rattle.fop_types.specs.declared.cells.Cell.{Cell}
use Rattle.fop_types.specs.declared.jobs.SetPlan.{SetPlan}
use Rattle.fop_types.specs.declared.messages.BrickReq.{BrickReq}
use Rattle.fop_types.specs.declared.messages.BrickReq.TheVariants as req
use Rattle.fop_types.specs.declared.messages.Input.{Input}
use Rattle.fop_types.specs.declared.messages.Input.TheVariants as input
use Rattle.wire_messages.specs.Messages.{input_in}
use Rattle.wire_messages.specs.declared.messages.Message.{Message}
use Rattle.wire_messages.specs.declared.messages.Message.TheVariants.{Whole, Wrong}
use Rattle.mount_log.proofs.Items.{some_is}
use Rattle.mount_log.specs.Locks.{IsLock, IsAsked, IsLastPhase}
use Rattle.mount_log.specs.declared.logs.Log.{Log}
use Rattle.mount_log.specs.declared.logs.SentLine.{SentLine}
use Rattle.error_audit.specs.LockTable.{locks_at, lock_in, HasLock, IsAdded, IsLockIn, AreFrom, AreKept, IsRequestNoted, IsInputNoted, IsNoted, IsLineNoted, HaveLocks, IsOfCall, AreOfCalls, IsBehind, IsFollowed, IsLockOf, IsLockOn}
use Rattle.error_audit.specs.declared.locks.LockAt.{LockAt}
use Rattle.error_audit.proofs.Different.{behind}

-- ---- a lock

pub lock_there : (log : Log) (call at brick wind : ℕ) (cells : List Cell) (line : SentLine) → slice_get log.sent at ≡ Some line → line.brick ≡ brick → IsLockOn call wind cells (input_in line.bytes) → IsLock log call at brick wind cells
lock_there log call at brick wind cells line there brick_is on = by (input_in line.bytes) refl on where
  by : (m : Message Input) → input_in line.bytes ≡ m → IsLockOn call wind cells m → IsLock log call at brick wind cells
  by (Whole x) e l = record { line = line; there = there; brick_is = brick_is; graph = l.graph; shared = l.shared; read = e ∙ ap Whole l.is }
  by (Wrong place) e l = absurd l

-- and the other way
request_of : (v w g h : ℕ) (r s : BrickReq) → input.Request v g r ≡ input.Request w h s → r ≡ s
request_of v w g h r s e = cc

pub lock_is : (call wind number graph : ℕ) (cells : List Cell) (r : BrickReq) (x : Input) → x ≡ input.Request number graph r → IsLockOf call wind cells x → IsLockOf call number cells (input.Request number graph r)
lock_is call wind number graph cells r x is l =
    record { graph = graph; shared = l.shared; is = ap (input.Request number graph) (request_of number wind graph l.graph r (req.Lock call l.shared cells) (sym is ∙ l.is)) }

pub lock_read : (log : Log) (call at brick wind : ℕ) (cells : List Cell) (line : SentLine) → slice_get log.sent at ≡ Some line → IsLock log call at brick wind cells → (line.brick ≡ brick) × IsLockOn call wind cells (input_in line.bytes)
lock_read log call at brick wind cells line there l =
    subst (λ (x : SentLine). (x.brick ≡ brick) × IsLockOn call wind cells (input_in x.bytes)) (some_is l.line line (sym l.there ∙ there))
    (l.brick_is, subst (IsLockOn call wind cells) (sym l.read) (record { graph = l.graph; shared = l.shared; is = refl }))

-- ---- one more

module _ {V : Type 0} (f : V → List LockAt) (qs : List V) (before q : V) (call : ℕ) (lock : LockAt) (low : call < length qs) (is : before ≡ slice_index_or qs call before) (pushed : f q ≡ f before ++ lock ∷ []) where
  abbrev new : List (List LockAt)
  new = map f (slice_set qs call q)

  set_is : (c : ℕ) → locks_at new c ≡ slice_index_or (slice_set (map f qs) call (f q)) c []
  set_is c = ap (λ (l : List (List LockAt)). locks_at l c) (map-set f qs call q)

  own : locks_at new call ≡ f before ++ lock ∷ []
  own = set_is call ∙ get_or-set_same (map f qs) call (f q) [] (omega (arith, length-map qs f, low)) ∙ pushed

  old : locks_at (map f qs) call ≡ f before
  old = get_or-map f qs call before [] low ∙ ap f (sym is)

  pub put_there : Contains (locks_at new call) lock
  put_there = subst (λ (l : List LockAt). Contains l lock) (sym own) (Contains-push (f before) lock)

  stays : (c : ℕ) (other : LockAt) → Contains (locks_at (map f qs) c) other → Contains (locks_at new c) other
  stays c other there = by (cases_eq call c) where
    by : (call ≡ c) ⊎ (call ≡ c → ⊥) → Contains (locks_at new c) other
    by (inl e) =
        let at_call : Contains (locks_at (map f qs) call) other = subst (λ (n : ℕ). Contains (locks_at (map f qs) n) other) (sym e) there in
        subst (λ (n : ℕ). Contains (locks_at new n) other) e
        (subst (λ (l : List LockAt). Contains l other) (sym own) (Contains-append_left (f before) (lock ∷ []) other (subst (λ (l : List LockAt). Contains l other) old at_call)))
    by (inr d) = subst (λ (l : List LockAt). Contains l other) (sym (set_is c ∙ get_or-set_other (map f qs) call c (f q) [] (λ e. d (sym e)))) there

  pub put_kept : AreKept (map f qs) new
  put_kept = record { many = length-map (slice_set qs call q) f ∙ length-set qs call q ∙ sym (length-map qs f); kept = stays }

  pub put_only : IsAdded (map f qs) call lock new
  put_only c other there = by (cases_eq call c) where
    by : (call ≡ c) ⊎ (call ≡ c → ⊥) → Contains (locks_at (map f qs) c) other ⊎ ((c ≡ call) × (other ≡ lock))
    by (inl e) =
        let at_call : Contains (f before ++ lock ∷ []) other = subst (λ (l : List LockAt). Contains l other) own (subst (λ (n : ℕ). Contains (locks_at new n) other) (sym e) there) in
        first (Contains-push_cases (f before) lock other at_call) where
          first : Contains (f before) other ⊎ (lock ≡ other) → Contains (locks_at (map f qs) c) other ⊎ ((c ≡ call) × (other ≡ lock))
          first (inl was) = inl (subst (λ (n : ℕ). Contains (locks_at (map f qs) n) other) e (subst (λ (l : List LockAt). Contains l other) (sym old) was))
          first (inr same) = inr (sym e, sym same)
    by (inr d) = inl (subst (λ (l : List LockAt). Contains l other) (set_is c ∙ get_or-set_other (map f qs) call c (f q) [] (λ e. d (sym e))) there)

-- one empty list more
pub empty_more : {V : Type 0} (f : V → List LockAt) (qs : List V) (q : V) → f q ≡ [] → ((call : ℕ) → locks_at (map f qs) call ≡ []) → (call : ℕ) → locks_at (map f (qs ++ q ∷ [])) call ≡ []
empty_more f [] q none are zero = none
empty_more f [] q none are (suc call) = refl
empty_more f (x ∷ qs) q none are zero = are 0
empty_more f (x ∷ qs) q none are (suc call) = empty_more f qs q none (λ n. are (suc n)) call

-- ---- what is in the lists

pub from_request : (old more : List (List LockAt)) (lock : LockAt) (r : BrickReq) (call : ℕ) (shared : Bool) (cells : List Cell) → r ≡ req.Lock call shared cells → IsAdded old call lock more
    → (wind graph : ℕ) → AreFrom old more lock (Whole (input.Request wind graph r))
from_request old more lock r call shared cells is added wind graph c noted there = by (added c noted there) where
  by : Contains (locks_at old c) noted ⊎ ((c ≡ call) × (noted ≡ lock)) → Contains (locks_at old c) noted ⊎ IsLockIn c lock noted (Whole (input.Request wind graph r))
  by (inl was) = inl was
  by (inr (own, same)) =
      inr (record { same = same; wind = wind; cells = cells; on = record { graph = graph; shared = shared; is = ap (input.Request wind graph) (is ∙ ap (λ (n : ℕ). req.Lock n shared cells) (sym own)) } })

pub of_calls : (log : Log) (old more : List (List LockAt)) (at : ℕ) (line : SentLine) → slice_get log.sent at ≡ Some line → AreOfCalls log old → AreFrom old more (lock_in at line) (input_in line.bytes) → AreOfCalls log more
of_calls log old more at line there are from call noted among = by (from call noted among) where
  by : Contains (locks_at old call) noted ⊎ IsLockIn call (lock_in at line) noted (input_in line.bytes) → IsOfCall log call noted
  by (inl was) = are call noted was
  by (inr l) = subst (IsOfCall log call) (sym l.same) (record { wind = l.wind; cells = l.cells; sent = lock_there log call at line.brick l.wind l.cells line there refl l.on })

pub none_of_calls : (log : Log) (lists : List (List LockAt)) → ((call : ℕ) → locks_at lists call ≡ []) → AreOfCalls log lists
none_of_calls log lists none call noted among = absurd (let (k, lt, is) = subst (λ (l : List LockAt). Contains l noted) (none call) among in omega (arith, lt))

-- ---- what was noted stays

module _ (old new : List (List LockAt)) (kept : AreKept old new) (lock : LockAt) where
  has_still : (call : ℕ) → HasLock old call lock → HasLock new call lock
  has_still call has low = kept.kept call lock (has (subst (λ (n : ℕ). call < n) kept.many low))

  request_still : (r : BrickReq) → IsRequestNoted old lock r → IsRequestNoted new lock r
  request_still (req.Lock call shared cells) has = has_still call has
  request_still (req.Unlock call) has = has
  request_still (req.Mark change cells) has = has
  request_still (req.Op change fd op) has = has
  request_still (req.Post change cells mask) has = has
  request_still (req.Fetch fd cell) has = has
  request_still (req.Replace cell last content) has = has
  request_still (req.Clear cells mask) has = has
  request_still (req.Settle cells mask) has = has
  request_still req.Index has = has
  request_still (req.Open fd gfid) has = has
  request_still (req.Release fd) has = has

  input_still : (x : Input) → IsInputNoted old lock x → IsInputNoted new lock x
  input_still (input.Request wind graph r) has = request_still r has
  input_still (input.Connect graph version) has = has
  input_still (input.Disconnect graph) has = has
  input_still (input.Down serve) has = has
  input_still input.Up has = has
  input_still (input.FaultAt p number) has = has

  pub noted_still : (m : Message Input) → IsNoted old lock m → IsNoted new lock m
  noted_still (Whole x) has = input_still x has
  noted_still (Wrong place) has = has

-- ---- all

pub all_kept : (lists : List (List LockAt)) → AreKept lists lists
all_kept lists = record { many = refl; kept = λ call lock there. there }

pub locks_there : (log : Log) (lists : List (List LockAt)) → ((k : ℕ) (line : SentLine) → slice_get log.sent k ≡ Some line → IsLineNoted lists k line) → HaveLocks log lists
locks_there log lists all call at brick wind cells l =
    let noted : IsNoted lists (record { at = at; brick = l.line.brick }) (Whole (input.Request wind l.graph (req.Lock call l.shared cells))) =
    subst (IsNoted lists (record { at = at; brick = l.line.brick })) l.read (all at l.line l.there) in
    subst (λ (b : ℕ). HasLock lists call (record { at = at; brick = b })) l.brick_is noted

-- ---- the order

module _ {X : Type 0} (P : X → Type 0) where
  pub all_in : (xs : List X) (x : X) → AllByRecursion P xs → Contains xs x → P x
  all_in [] x all (k, lt, is) = absurd (omega (arith, lt))
  all_in (y ∷ xs) x all (zero, lt, is) = subst P is all.0
  all_in (y ∷ xs) x all (suc k, lt, is) = all_in xs x all.1 (k, omega (arith, lt), is)

pub in_order : (log : Log) (plan : SetPlan) (lists : List (List LockAt)) (call from : ℕ) (own : List LockAt) → HaveLocks log lists → call < length lists → own ≡ locks_at lists call → AllByRecursion (IsFollowed plan from own) own
    → IsLastPhase log plan call from
in_order log plan lists call from own have low is followed i k low_replica high_replica le lt one other =
    let at : (n replica : ℕ) (a : IsAsked log plan call n replica) → Contains own (record { at = n; brick = a.brick }) =
    λ n replica a. subst (λ (l : List LockAt). Contains l (record { at = n; brick = a.brick })) (sym is) (have call n a.brick a.wind a.cells a.lock low) in
    let behind : AllByRecursion (IsBehind plan (record { at = i; brick = one.brick })) own = all_in (IsFollowed plan from own) own (record { at = i; brick = one.brick }) followed (at i low_replica one) le in
    all_in (IsBehind plan (record { at = i; brick = one.brick })) own (record { at = k; brick = other.brick }) behind (at k high_replica other) lt low_replica high_replica one.brick_is other.brick_is

all_from : {X : Type 0} (P : X → Type 0) (xs : List X) → ((x : X) → Contains xs x → P x) → AllByRecursion P xs
all_from P [] each = record {}
all_from P (y ∷ xs) each = (each y (0, omega arith, refl), all_from P xs (λ x among. each x (behind y xs x among)))

-- and the other way, where the lists have nothing else
pub in_last_phase : (log : Log) (plan : SetPlan) (lists : List (List LockAt)) (call from : ℕ) (own : List LockAt) → AreOfCalls log lists → own ≡ locks_at lists call → IsLastPhase log plan call from → AllByRecursion (IsFollowed plan from own) own
in_last_phase log plan lists call from own are is last =
    let asked : (l : LockAt) → Contains own l → (replica : ℕ) → slice_get plan.bricks replica ≡ Some l.brick → IsAsked log plan call l.at replica =
    λ l among replica there.
    let o = are call l (subst (λ (q : List LockAt). Contains q l) is among) in record { brick = l.brick; brick_is = there; wind = o.wind; cells = o.cells; lock = o.sent } in
    all_from (IsFollowed plan from own) own
    (λ one one_in le. all_from (IsBehind plan one) own (λ other other_in lt low high at_low at_high. last one.at other.at low high le lt (asked one one_in low at_low) (asked other other_in high at_high)))

-- the same lists, as they are read
pub same_locks : {V : Type 0} (log : Log) (f : V → List LockAt) (qs rs : List V) → rs ≡ qs → HaveLocks log (map f qs) → HaveLocks log (map f rs)
same_locks {V = V} log f qs rs same have = subst (λ (l : List V). HaveLocks log (map f l)) (sym same) have
