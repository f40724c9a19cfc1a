-- The bounds of what the words of controls give.
use Rattle.std.proofs.Common.{◌≡◌, ℕ, suc, ◌<◌, ◌≤◌, Bool, true, false, cond, ◌||◌, List, [], ◌∷◌, length, codes, Option, Some, None, Result, Ok, Err, refl, sym, subst, ◌∙◌, arith}
use Rattle.std.specs.Option.{option_map}
use Rattle.std.specs.Cmp.{first_so, second_so}
use Rattle.volfile.specs.TextLines.{is_text, is_name}
use Rattle.volfile.proofs.Places.{same_word}
use Rattle.volfile.proofs.WellRead.{ok_same}
use Rattle.fop_types.specs.declared.messages.Proc.{Proc}
use Rattle.fop_types.specs.declared.messages.Proc.TheVariants.{Lock, Unlock, Mark, Op, Post, Fetch, Replace, Clear, Settle, Index, Open, Release}
use Rattle.script_lang.specs.WordForms.{number_at, proc_at, place_of}
use Rattle.script_lang.specs.ControlText.{both, mapped, formed, defined, brick_at, volfile_at, nth_at, served_at, fault_proc_at, nth_request_at, action_of_one, action_of_two, action_of_three, action_at, request_at, may_stand_before, kept_before, before_at, after_at, control_at}
use Rattle.script_lang.specs.Accepted.{IsNth, IsWhen, IsAction, IsBefore, Allows}
use Rattle.script_lang.specs.declared.errors.ScriptKind.{ScriptKind}
use Rattle.script_lang.specs.declared.scripts.Action.{Action}
use Rattle.script_lang.specs.declared.scripts.Action.TheVariants.{Up, Cut, Heal, Switch}
use Rattle.script_lang.specs.declared.scripts.When.{When}
use Rattle.volfile.specs.declared.brick_lines.BrickLine.{BrickLine}
use Rattle.script_lang.specs.declared.scripts.NamedVolfile.{NamedVolfile}
use Rattle.script_lang.proofs.Gives.{Gives, Finds, gives, refuses, finds, none, either, past, only_if, one_of, found_if}
use Rattle.script_lang.proofs.WordBounds.{number_found}

-- ---- two readings, and one that is made into another
mapped_given : {A B : Type 0} {P : A → Type 0} {Q : B → Type 0} (f : A → B) (r : Result A ScriptKind) → Gives P r → ((a : A) → P a → Q (f a)) → Gives Q (mapped f r)
mapped_given f (Ok a) h leads = gives _ (leads a h.holds)
mapped_given f (Err kind) h leads = refuses kind

both_given : {A B : Type 0} {P : A → Type 0} {Q : B → Type 0} (a : Result A ScriptKind) (b : Result B ScriptKind) → Gives P a → Gives Q b → Gives (λ p. P p.0 × Q p.1) (both a b)
both_given (Ok a) (Ok b) h k = gives _ (h.holds, k.holds)
both_given (Ok a) (Err kind) h k = refuses kind
both_given (Err kind) (Ok b) h k = refuses kind
both_given (Err kind) (Err other) h k = refuses _

-- what gives a value gives that one
itself : {A : Type 0} (r : Result A ScriptKind) → Gives (λ a. r ≡ Ok a) r
itself (Ok a) = gives a refl
itself (Err kind) = refuses kind

also : {A : Type 0} {P Q : A → Type 0} (r : Result A ScriptKind) → Gives P r → Gives Q r → Gives (λ a. P a × Q a) r
also (Ok a) h k = gives a (h.holds, k.holds)
also (Err kind) h k = refuses kind

formed_given : {A : Type 0} {P : A → Type 0} (o : Option A) → Finds P o → Gives P (formed o)
formed_given None h = refuses _
formed_given (Some a) h = gives a h.holds

-- ---- names that were defined
moved : (n : ℕ) (o : Option ℕ) → Finds (λ k. k < n) o → Finds (λ k. k < suc n) (option_map suc o)
moved n None h = none
moved n (Some k) h = finds (suc k) (omega (arith, h.holds))

pub place_found : {A : Type 0} (test : A → Bool) (xs : List A) → Finds (λ k. k < length xs) (place_of test xs)
place_found test [] = none
place_found test (x ∷ xs) = one_of (test x) _ _ (finds 0 (omega arith)) (moved (length xs) (place_of test xs) (place_found test xs))

defined_given : (n : ℕ) (o : Option ℕ) → Finds (λ k. k < n) o → Gives (λ k. k < n) (defined o)
defined_given n None h = refuses _
defined_given n (Some k) h = gives k h.holds

brick_given : (bricks : List BrickLine) (word : List ℕ) → Gives (λ b. b < length bricks) (brick_at bricks word)
brick_given bricks word = only_if (is_name word) _ _ (λ is. defined_given (length bricks) _ (place_found (λ b. is_text b.name word) bricks))

pub volfile_given : (volfiles : List NamedVolfile) (word : List ℕ) → Gives (λ v. v < length volfiles) (volfile_at volfiles word)
volfile_given volfiles word = only_if (is_name word) _ _ (λ is. defined_given (length volfiles) _ (place_found (λ v. is_text v.name word) volfiles))

-- ---- requests
nth_given : (word : List ℕ) → Gives IsNth (nth_at word)
nth_given word = formed_given (number_at 1 65535 word) (number_found 1 65535 word)

served_given : (word : List ℕ) → Gives (λ n. n ≤ 65535) (served_at word)
served_given word = upper (number_at 0 65535 word) (number_found 0 65535 word)
  where
    upper : (o : Option ℕ) → Finds (λ k. (0 ≤ k) × (k ≤ 65535)) o → Gives (λ n. n ≤ 65535) (formed o)
    upper None h = refuses _
    upper (Some n) h = gives n h.holds.1

abbrev IsNoUnlock : Proc → Type 0
IsNoUnlock proc = proc ≡ Unlock → ⊥

skipped : {A : Type 0} {P : A → Type 0} (b : Bool) (x y : Option A) → b ≡ false → Finds P y → Finds P (cond b x y)
skipped true x y off h = absurd cc
skipped false x y off h = h

proc_found : (word : List ℕ) → is_text word (codes "unlock") ≡ false → Finds IsNoUnlock (proc_at word)
proc_found word off =
    one_of (is_text word (codes "lock")) _ _ (finds Lock (λ e. absurd cc))
    (skipped (is_text word (codes "unlock")) _ _ off
    (one_of (is_text word (codes "mark")) _ _ (finds Mark (λ e. absurd cc))
    (one_of (is_text word (codes "op")) _ _ (finds Op (λ e. absurd cc))
    (one_of (is_text word (codes "post")) _ _ (finds Post (λ e. absurd cc))
    (one_of (is_text word (codes "fetch")) _ _ (finds Fetch (λ e. absurd cc))
    (one_of (is_text word (codes "replace")) _ _ (finds Replace (λ e. absurd cc))
    (one_of (is_text word (codes "clear")) _ _ (finds Clear (λ e. absurd cc))
    (one_of (is_text word (codes "settle")) _ _ (finds Settle (λ e. absurd cc))
    (one_of (is_text word (codes "index")) _ _ (finds Index (λ e. absurd cc))
    (one_of (is_text word (codes "open")) _ _ (finds Open (λ e. absurd cc))
    (found_if (is_text word (codes "release")) _ (λ is. finds Release (λ e. absurd cc)))))))))))))

fault_proc_given : (word : List ℕ) → Gives IsNoUnlock (fault_proc_at word)
fault_proc_given word = past (is_text word (codes "unlock")) _ _ (λ off. formed_given (proc_at word) (proc_found word off))

any_proc : (o : Option Proc) → Gives (λ p. Unit {0}) (formed o)
any_proc None = refuses _
any_proc (Some p) = gives p tt

nth_request_given : (P : Proc → Type 0) (proc : Result Proc ScriptKind) (word : List ℕ) → Gives P proc → Gives (λ r. P r.proc × IsNth r.nth) (nth_request_at proc word)
nth_request_given P proc word h = mapped_given _ _ (both_given proc (nth_at word) h (nth_given word)) (λ p k. k)

request_given : (bricks : List BrickLine) (brick proc nth : List ℕ) → Gives (λ r. (r.brick < length bricks) × IsNth r.nth × (brick_at bricks brick ≡ Ok r.brick)) (request_at bricks brick proc nth)
request_given bricks brick proc nth =
    mapped_given _ _ (both_given _ _ (also (brick_at bricks brick) (brick_given bricks brick) (itself (brick_at bricks brick))) (nth_request_given (λ p. Unit {0}) _ nth (any_proc (proc_at proc))))
    (λ p k. (k.0.0, k.1.1, k.0.1))

-- ---- actions
module _ (bricks : List BrickLine) (volfiles : List NamedVolfile) where
  abbrev Fits : Action → Type 0
  Fits = IsAction (length bricks) (length volfiles)

  one_given : (word a : List ℕ) → Gives Fits (action_of_one bricks volfiles word a)
  one_given word a =
      either (is_text word (codes "up")) _ _ (mapped_given Up _ (brick_given bricks a) (λ b k. k))
      (either (is_text word (codes "cut")) _ _ (mapped_given Cut _ (brick_given bricks a) (λ b k. k))
      (only_if (is_text word (codes "switch")) _ _ (λ is. mapped_given Switch _ (volfile_given volfiles a) (λ v k. k))))

  two_given : (word a b : List ℕ) → Gives Fits (action_of_two bricks word a b)
  two_given word a b = only_if (is_text word (codes "down")) _ _ (λ is. mapped_given _ _ (both_given _ _ (brick_given bricks a) (served_given b)) (λ p k. k))

  three_given : (word a b c : List ℕ) → Gives Fits (action_of_three bricks word a b c)
  three_given word a b c =
      only_if (is_text word (codes "fault")) _ _ (λ is.
      mapped_given _ _ (both_given _ _ (brick_given bricks a) (nth_request_given IsNoUnlock _ c (fault_proc_given b))) (λ p k. (k.0, k.1.1, k.1.0)))

  action_given : (word : List ℕ) (rest : List (List ℕ)) → Gives Fits (action_at bricks volfiles word rest)
  action_given word [] = only_if (is_text word (codes "heal")) _ _ (λ is. gives Heal tt)
  action_given word (a ∷ []) = one_given word a
  action_given word (a ∷ b ∷ []) = two_given word a b
  action_given word (a ∷ b ∷ c ∷ []) = three_given word a b c
  action_given word (a ∷ b ∷ c ∷ d ∷ more) = refuses _

  kept_given : {P : Action → Type 0} (may : Bool) (action : Result Action ScriptKind) → (may ≡ true → Gives P action) → Gives P (kept_before may action)
  kept_given true action h = h refl
  kept_given false (Ok action) h = refuses _
  kept_given false (Err kind) h = refuses _

  -- ---- `down` and `fault` of the brick that a word names
  abbrev OfBrick : List ℕ → Action → Type 0
  OfBrick word action = (b : ℕ) → brick_at bricks word ≡ Ok b → IsBefore b action

  any_given : {A : Type 0} (r : Result A ScriptKind) → Gives (λ a. Unit {0}) r
  any_given (Ok a) = gives a tt
  any_given (Err kind) = refuses kind

  down_given : (a : List ℕ) (more : List (List ℕ)) → Gives (OfBrick a) (action_at bricks volfiles (codes "down") (a ∷ more))
  down_given a [] = refuses _
  down_given a (b ∷ []) = mapped_given _ _ (both_given _ _ (itself (brick_at bricks a)) (any_given (served_at b))) (λ p k n e. ok_same p.0 n (sym k.0 ∙ e))
  down_given a (b ∷ c ∷ []) = refuses _
  down_given a (b ∷ c ∷ d ∷ more) = refuses _

  fault_given : (a : List ℕ) (more : List (List ℕ)) → Gives (OfBrick a) (action_at bricks volfiles (codes "fault") (a ∷ more))
  fault_given a [] = refuses _
  fault_given a (b ∷ []) = refuses _
  fault_given a (b ∷ c ∷ []) = mapped_given _ _ (both_given _ _ (itself (brick_at bricks a)) (any_given (nth_request_at (fault_proc_at b) c))) (λ p k n e. ok_same p.0 n (sym k.0 ∙ e))
  fault_given a (b ∷ c ∷ d ∷ more) = refuses _

  same_brick : (word a : List ℕ) (more : List (List ℕ)) → (is_text word (codes "down") || is_text word (codes "fault")) ≡ true → Gives (OfBrick a) (action_at bricks volfiles word (a ∷ more))
  same_brick word a more e = by_word (is_text word (codes "down")) (is_text word (codes "fault")) refl refl e
    where
      by_word : (d f : Bool) → is_text word (codes "down") ≡ d → is_text word (codes "fault") ≡ f → (d || f) ≡ true → Gives (OfBrick a) (action_at bricks volfiles word (a ∷ more))
      by_word true f is so h = subst (λ w. Gives (OfBrick a) (action_at bricks volfiles w (a ∷ more))) (sym (same_word word (codes "down") is)) (down_given a more)
      by_word false true is so h = subst (λ w. Gives (OfBrick a) (action_at bricks volfiles w (a ∷ more))) (sym (same_word word (codes "fault") so)) (fault_given a more)
      by_word false false is so h = absurd cc

  of_brick : (brick word : List ℕ) (more : List (List ℕ)) → may_stand_before brick word more ≡ true → Gives (OfBrick brick) (action_at bricks volfiles word more)
  of_brick brick word [] e = absurd cc
  of_brick brick word (a ∷ more) e =
      let same : a ≡ brick = same_word a brick (second_so (is_text word (codes "down") || is_text word (codes "fault")) (is_text a brick) e) in
      subst (λ w. Gives (OfBrick w) (action_at bricks volfiles word (a ∷ more))) same (same_brick word a more (first_so (is_text word (codes "down") || is_text word (codes "fault")) (is_text a brick) e))

  abbrev pub BothFit : When × Action → Type 0
  BothFit said = IsWhen (length bricks) said.0 × Fits said.1 × Allows said.0 said.1

  before_given : (words : List (List ℕ)) → Gives BothFit (before_at bricks volfiles words)
  before_given [] = refuses _
  before_given (brick ∷ []) = refuses _
  before_given (brick ∷ proc ∷ []) = refuses _
  before_given (brick ∷ proc ∷ nth ∷ []) = refuses _
  before_given (brick ∷ proc ∷ nth ∷ word ∷ more) =
      mapped_given _ _
      (both_given _ _ (request_given bricks brick proc nth)
      (kept_given (may_stand_before brick word more) _ (λ may. also (action_at bricks volfiles word more) (action_given word more) (of_brick brick word more may))))
      (λ p k. ((k.0.0, k.0.1), k.1.0, k.1.1 p.0.brick k.0.2))

  after_given : (words : List (List ℕ)) → Gives BothFit (after_at bricks volfiles words)
  after_given [] = refuses _
  after_given (brick ∷ []) = refuses _
  after_given (brick ∷ proc ∷ []) = refuses _
  after_given (brick ∷ proc ∷ nth ∷ []) = refuses _
  after_given (brick ∷ proc ∷ nth ∷ word ∷ more) = mapped_given _ _ (both_given _ _ (request_given bricks brick proc nth) (action_given word more)) (λ p k. ((k.0.0, k.0.1), k.1, tt))

  pub control_given : (words : List (List ℕ)) → Gives BothFit (control_at bricks volfiles words)
  control_given [] = refuses _
  control_given (word ∷ more) =
      either (is_text word (codes "before")) _ _ (before_given more)
      (either (is_text word (codes "after")) _ _ (after_given more) (mapped_given _ _ (action_given word more) (λ action k. (tt, k, tt))))
