-- The descriptors of a session, call by call.
use Rattle.std.proofs.Common.{◌≡◌, ◌≢◌, ◌∷◌, ◌++◌, refl, sym, ap, subst, ◌∙◌, ℕ, ◌+◌, ◌-◌, ◌<◌, ◌≤◌, ◌==◌, suc, zero, List, [], length, take, true≢false, arith}
use Rattle.std.specs.Prelude.{Bool, true, false, ◌&&◌, nat_eq, nat_lt, Option, Some, None, slice_get, if◌then◌else◌}
use Rattle.std.proofs.lemmas.Bool.{and_parts, and_left, eqb-true, ltb-true, ltb-false, eq-eqb, lt-ltb, false_from_ne_true}
use Rattle.fop_types.specs.Calls.{Submission, Descriptors, call_numbered, after_answer}
use Rattle.fop_types.specs.History.{Reply, file_of, after_reply_of, after_replies}
use Rattle.fop_types.specs.declared.flat.FlatOp.{FlatOp}

module _ (calls : List Submission) (ops : List FlatOp) (session : ℕ) where
  abbrev pub Skips : ℕ → Reply → Type 0
  Skips number r = (s : Submission) → call_numbered calls r.call ≡ Some s → s.session ≡ session → r.call < number → ⊥

  not_counted : (s : Submission) (number call : ℕ) → (s.session ≡ session → call < number → ⊥) → (nat_eq s.session session && nat_lt call number) ≡ false
  not_counted s number call differs =
      false_from_ne_true (nat_eq s.session session && nat_lt call number)
      (λ holds. let parts = and_parts (nat_eq s.session session) (nat_lt call number) holds in
      differs (eqb-true s.session session parts.0) (ltb-true call number parts.1))

  skip_by : (number : ℕ) (fds : Descriptors) (r : Reply) (o : Option Submission) → call_numbered calls r.call ≡ o → Skips number r
      → after_reply_of calls ops session number fds r o ≡ fds
  skip_by number fds r None is differs = refl
  skip_by number fds r (Some s) is differs = rw (not_counted s number r.call (λ same less. differs s is same less)) refl

  abbrev pub AllSkip : ℕ → List Reply → Type 0
  AllSkip number rs = (k : ℕ) (r : Reply) → slice_get rs k ≡ Some r → Skips number r

  pub skip_all : (number : ℕ) (fds : Descriptors) (rs : List Reply) → AllSkip number rs → after_replies calls ops session number fds rs ≡ fds
  skip_all number fds [] differs = refl
  skip_all number fds (r ∷ rs) differs =
      ap (λ (d : Descriptors). after_replies calls ops session number d rs) (skip_by number fds r (call_numbered calls r.call) refl (differs 0 r refl))
      ∙ skip_all number fds rs (λ k x is. differs (suc k) x is)

  -- no reply of the session is to the call of this number
  abbrev pub IsNot : ℕ → Reply → Type 0
  IsNot number r = (s : Submission) → call_numbered calls r.call ≡ Some s → s.session ≡ session → r.call ≡ number → ⊥

  same_test : (call number : ℕ) → (call ≡ number → ⊥) → nat_lt call (number + 1) ≡ nat_lt call number
  same_test call number differs = by_less (nat_lt call number) refl where
    by_less : (b : Bool) → nat_lt call number ≡ b → nat_lt call (number + 1) ≡ nat_lt call number
    by_less true less = let l = ltb-true call number less in lt-ltb call (number + 1) (omega (arith, l)) ∙ sym less
    by_less false less =
        false_from_ne_true (nat_lt call (number + 1)) (λ holds.
        let upper = ltb-true call (number + 1) holds in let lower = ltb-false call number less in differs (omega (arith, upper, lower)))
        ∙ sym less

  same_by : (number : ℕ) (fds : Descriptors) (r : Reply) (o : Option Submission) → call_numbered calls r.call ≡ o → IsNot number r
      → after_reply_of calls ops session (number + 1) fds r o ≡ after_reply_of calls ops session number fds r o
  same_by number fds r None is differs = refl
  same_by number fds r (Some s) is differs = by_session (nat_eq s.session session) refl where
    by_session : (b : Bool) → nat_eq s.session session ≡ b
        → after_reply_of calls ops session (number + 1) fds r (Some s) ≡ after_reply_of calls ops session number fds r (Some s)
    by_session true same = rw (same_test r.call number (differs s is (eqb-true s.session session same))) refl
    by_session false other =
        rw (and_left (nat_eq s.session session) (nat_lt r.call (number + 1)) other)
        (rw (and_left (nat_eq s.session session) (nat_lt r.call number) other) refl)

  -- a call more, of another session or without a reply
  pub same_all : (number : ℕ) (fds : Descriptors) (rs : List Reply) → ((k : ℕ) (r : Reply) → slice_get rs k ≡ Some r → IsNot number r)
      → after_replies calls ops session (number + 1) fds rs ≡ after_replies calls ops session number fds rs
  same_all number fds [] differs = refl
  same_all number fds (r ∷ rs) differs =
      ap (λ (d : Descriptors). after_replies calls ops session (number + 1) d rs) (same_by number fds r (call_numbered calls r.call) refl (differs 0 r refl))
      ∙ same_all number (after_reply_of calls ops session number fds r (call_numbered calls r.call)) rs (λ k x is. differs (suc k) x is)

  taken : (number : ℕ) (fds : Descriptors) (r : Reply) (s : Submission) (o : Option Submission) → o ≡ Some s → s.session ≡ session → r.call < number
      → after_reply_of calls ops session number fds r o ≡ after_answer fds s.call (file_of calls ops s.call r) r.answer
  taken number fds r s o is same less = rw is (rw (eq-eqb s.session session same) (rw (lt-ltb r.call number less) refl))

  -- a call more, with its reply, behind which all replies of the session are to later calls
  pub next_all : (number : ℕ) (fds : Descriptors) (rs : List Reply) (k : ℕ) (r : Reply) (s : Submission) → slice_get rs k ≡ Some r → r.call ≡ number
      → call_numbered calls r.call ≡ Some s → s.session ≡ session
      → ((j : ℕ) (x : Reply) → j < k → slice_get rs j ≡ Some x → IsNot number x)
      → ((j : ℕ) (x : Reply) → k < j → slice_get rs j ≡ Some x → Skips (number + 1) x)
      → after_replies calls ops session (number + 1) fds rs
      ≡ after_answer (after_replies calls ops session number fds rs) s.call (file_of calls ops s.call r) r.answer
  next_all number fds [] k r s is n called same before behind = absurd cc
  next_all number fds (first ∷ rs) zero r s is n called same before behind =
      let first_is : first ≡ r = cc in
      let less : r.call < number + 1 = omega (arith, n) in
      let not_less : (nat_eq s.session session && nat_lt r.call number) ≡ false = not_counted s number r.call (λ e l. omega (arith, n, l)) in
      let now : after_reply_of calls ops session (number + 1) fds first (call_numbered calls first.call) ≡ after_answer fds s.call (file_of calls ops s.call r) r.answer =
      ap (λ (x : Reply). after_reply_of calls ops session (number + 1) fds x (call_numbered calls x.call)) first_is ∙ taken (number + 1) fds r s (call_numbered calls r.call) called same less in
      let earlier : after_reply_of calls ops session number fds first (call_numbered calls first.call) ≡ fds =
      ap (λ (x : Reply). after_reply_of calls ops session number fds x (call_numbered calls x.call)) first_is
      ∙ ap (after_reply_of calls ops session number fds r) called ∙ rw not_less refl in
      ap (λ (d : Descriptors). after_replies calls ops session (number + 1) d rs) now
      ∙ skip_all (number + 1) (after_answer fds s.call (file_of calls ops s.call r) r.answer) rs (λ j x there. behind (suc j) x (omega arith) there)
      ∙ ap (λ (d : Descriptors). after_answer d s.call (file_of calls ops s.call r) r.answer)
      (sym (skip_all number fds rs (λ j x there a c e l. behind (suc j) x (omega arith) there a c e (omega (arith, l))))
      ∙ ap (λ (d : Descriptors). after_replies calls ops session number d rs) (sym earlier))
  next_all number fds (first ∷ rs) (suc k) r s is n called same before behind =
      ap (λ (d : Descriptors). after_replies calls ops session (number + 1) d rs) (same_by number fds first (call_numbered calls first.call) refl (before 0 first (omega arith) refl))
      ∙ next_all number (after_reply_of calls ops session number fds first (call_numbered calls first.call)) rs k r s is n called same
      (λ j x less there. before (suc j) x (omega (arith, less)) there) (λ j x less there. behind (suc j) x (omega (arith, less)) there)
