-- A script that the grammar accepts keeps to its limits: what was read so far does, line by line.
use Rattle.std.proofs.Common.{◌≡◌, ℕ, ◌+◌, ◌<◌, ◌≤◌, ◌==◌, Bool, true, false, cond, not, ◌&&◌, ◌||◌, leb, List, [], ◌∷◌, ◌++◌, append_assoc, append-nil, length, codes, Option, Some, None, Result, Ok, Err, refl, sym, ap, subst, ◌∙◌, arith}
use Rattle.std.specs.Prelude.{⊤, is_some, suc}
use Rattle.std.specs.Option.{option_map}
use Rattle.std.specs.List.{AllByRecursion, IsDistinct, list_any}
use Rattle.std.specs.Cmp.{first_so, second_so}
use Rattle.std.proofs.lemmas.Bool.{leb-false}
use Rattle.std.proofs.lemmas.Bool.Decides.{nat_tests}
use Rattle.std.proofs.lemmas.List.{length_push}
use Rattle.volfile.specs.TextLines.{lines_of, line_after, words_of, is_text, is_name, is_visible_word}
use Rattle.volfile.specs.VolfileText.{Reading as VolReading, line_read as vol_line_read}
use Rattle.volfile.specs.Volumes.{IsRead, AreVolumes}
use Rattle.volfile.proofs.WellRead.{line_kept, suc_some, not_false}
use Rattle.volfile.proofs.Whole.{volfile_whole}
use Rattle.volfile.specs.declared.errors.VolKind.{VolKind}
use Rattle.volfile.specs.declared.volumes.Volume.{Volume}
use Rattle.fop_types.specs.Bounds.{IsCall}
use Rattle.fop_types.specs.declared.calls.Call.{Call}
use Rattle.script_lang.specs.WordForms.{place_of}
use Rattle.script_lang.specs.CallText.{call_at}
use Rattle.script_lang.specs.ControlText.{volfile_at, control_at}
use Rattle.script_lang.specs.StatementText.{is_brick_used, brick_added, brick_read, is_volfile, volfile_named, volfile_begun, started, start_read, phases_with, phases_read, phase_begun, with_call, call_added, call_said, call_read, is_great_action, control_added, control_read, said_of_volfiles, said_in_phases, said_in, statement}
use Rattle.script_lang.specs.ScriptText.{nothing_said, line_refusal, unless_refused, said_if_plain, volfile_goes_on, inner_line_read, volfile_ended, end_read, volfile_line_read, line_read, has_start, text_ended, read_on, lines_read}
use Rattle.script_lang.specs.Accepted.{IsControl, great_count, IsPhase, calls_of, with_mention, mentioned, AreNumbered, has_name, has_place, IsBrickLine, AreBricks, IsVolfileLine, AreVolfiles, AreSessions, IsAccepted, AcceptedKeepLimits}
use Rattle.script_lang.specs.declared.errors.ScriptKind.{ScriptKind}
use Rattle.script_lang.specs.declared.drafts.Draft.{Draft}
use Rattle.script_lang.specs.declared.drafts.Part.{Part}
use Rattle.script_lang.specs.declared.drafts.Part.TheVariants as part
use Rattle.script_lang.specs.declared.drafts.Reading.{Reading}
use Rattle.script_lang.specs.declared.drafts.Reading.TheVariants.{InScript, InVolfile}
use Rattle.script_lang.specs.declared.scripts.Action.{Action}
use Rattle.script_lang.specs.declared.scripts.When.{When}
use Rattle.volfile.specs.declared.brick_lines.BrickLine.{BrickLine}
use Rattle.script_lang.specs.declared.scripts.NamedVolfile.{NamedVolfile}
use Rattle.script_lang.specs.declared.scripts.CallLine.{CallLine}
use Rattle.script_lang.specs.declared.scripts.ControlLine.{ControlLine}
use Rattle.script_lang.specs.declared.scripts.Phase.{Phase}
use Rattle.script_lang.proofs.Gives.{Gives, Finds, gives, refuses, either, past, past_or, only_if}
use Rattle.script_lang.proofs.LineNumbers.{LinesUpTo, nothing_lined, line_lined, after_few}
use Rattle.script_lang.proofs.WordBounds.{call_given}
use Rattle.script_lang.proofs.ControlBounds.{place_found, volfile_given, BothFit, control_given}

-- ---- one more in a list
all_push : {A : Type 0} (P : A → Type 0) (xs : List A) (y : A) → AllByRecursion P xs → P y → AllByRecursion P (xs ++ y ∷ [])
all_push P [] y all one = (one, tt)
all_push P (x ∷ xs) y all one = (all.0, all_push P xs y all.1 one)

all_but_last : {A : Type 0} (P : A → Type 0) (xs : List A) (y : A) → AllByRecursion P (xs ++ y ∷ []) → AllByRecursion P xs × P y
all_but_last P [] y all = (tt, all.0)
all_but_last P (x ∷ xs) y all = let rest = all_but_last P xs y all.1 in ((all.0, rest.0), rest.1)

distinct_push : {A : Type 0} (e : A → A → Bool) (xs : List A) (y : A) → IsDistinct e xs → AllByRecursion (λ x. e x y ≡ false) xs → IsDistinct e (xs ++ y ∷ [])
unfolding IsDistinct
distinct_push e [] y apart new = (tt, tt)
distinct_push e (x ∷ xs) y apart new = (all_push (λ z. e x z ≡ false) xs y apart.0 new.0, distinct_push e xs y apart.1 new.1)

or_off : (a b : Bool) → (a || b) ≡ false → (a ≡ false) × (b ≡ false)
or_off true b e = absurd cc
or_off false b e = (refl, e)

none_used : {A : Type 0} (p q : A → Bool) (xs : List A) → list_any (λ x. p x || q x) xs ≡ false → AllByRecursion (λ x. p x ≡ false) xs × AllByRecursion (λ x. q x ≡ false) xs
none_used p q [] e = (tt, tt)
none_used p q (x ∷ xs) e =
    let parts = or_off (p x || q x) (list_any (λ y. p y || q y) xs) e in
    let here = or_off (p x) (q x) parts.0 in
    let rest = none_used p q xs parts.1 in ((here.0, rest.0), (here.1, rest.1))

none_first : (b : Bool) (o : Option ℕ) → cond b (Some 0) (option_map suc o) ≡ None → (b ≡ false) × (o ≡ None)
none_first true o e = absurd cc
none_first false None e = (refl, refl)
none_first false (Some n) e = absurd cc

none_named : {A : Type 0} (test : A → Bool) (xs : List A) → place_of test xs ≡ None → AllByRecursion (λ x. test x ≡ false) xs
none_named test [] e = tt
none_named test (x ∷ xs) e = let parts = none_first (test x) (place_of test xs) e in (parts.0, none_named test xs parts.1)

-- ---- calls and controls
calls_push : (ps : List Phase) (p : Phase) → calls_of (ps ++ p ∷ []) ≡ calls_of ps ++ p.calls
calls_push [] p = append-nil p.calls
calls_push (q ∷ ps) p = ap (λ l. q.calls ++ l) (calls_push ps p) ∙ sym (append_assoc q.calls (calls_of ps) p.calls)

calls_more : (ps : List Phase) (calls : List CallLine) (controls : List ControlLine) (line : CallLine)
    → calls_of (ps ++ record { calls = calls ++ line ∷ []; controls = controls } ∷ []) ≡ calls_of (ps ++ record { calls = calls; controls = controls } ∷ []) ++ line ∷ []
calls_more ps calls controls line =
    calls_push ps (record { calls = calls ++ line ∷ []; controls = controls }) ∙ sym (append_assoc (calls_of ps) calls (line ∷ []))
    ∙ ap (λ l. l ++ line ∷ []) (sym (calls_push ps (record { calls = calls; controls = controls })))

numbered_push : (count : ℕ) (xs : List CallLine) (line : CallLine) → AreNumbered count xs → line.session ≤ mentioned count xs → AreNumbered count (xs ++ line ∷ [])
numbered_push count [] line all low = (low, tt)
numbered_push count (x ∷ xs) line all low = (all.0, numbered_push (with_mention count x.session) xs line all.1 low)

mentioned_push : (count : ℕ) (xs : List CallLine) (line : CallLine) → mentioned count (xs ++ line ∷ []) ≡ with_mention (mentioned count xs) line.session
mentioned_push count [] line = refl
mentioned_push count (x ∷ xs) line = mentioned_push (with_mention count x.session) xs line

known_session : (count session : ℕ) → session < count → with_mention count session ≡ count
known_session count session low = let off : (session == count) ≡ false = grind (arith, nat_tests) in ap (λ b. cond b (count + 1) count) off

new_session : (count session : ℕ) → session ≡ count → with_mention count session ≡ count + 1
new_session count session is = let on : (session == count) ≡ true = grind (arith, nat_tests) in ap (λ b. cond b (count + 1) count) on

great_push : (lines : List ControlLine) (line : ControlLine) → great_count (lines ++ line ∷ []) ≡ great_count lines + great_count (line ∷ [])
great_push [] line = omega arith
great_push (l ∷ lines) line = by_test (is_great_action l.action) (great_push lines line)
  where
    by_test : (b : Bool) → great_count (lines ++ line ∷ []) ≡ great_count lines + great_count (line ∷ [])
        → cond b (great_count (lines ++ line ∷ []) + 1) (great_count (lines ++ line ∷ [])) ≡ cond b (great_count lines + 1) (great_count lines) + great_count (line ∷ [])
    by_test true e = omega (arith, e)
    by_test false e = e

-- ---- what was read so far
abbrev StartFits : Part → ℕ → ℕ → Type 0
StartFits part.Bricks start volfiles = ⊤
StartFits part.Volfiles start volfiles = ⊤
StartFits part.Start start volfiles = start < volfiles
StartFits part.Phases start volfiles = start < volfiles

abbrev IsBegun : Part → List Phase → Type 0
IsBegun part.Bricks phases = phases ≡ []
IsBegun part.Volfiles phases = phases ≡ []
IsBegun part.Start phases = ⊤
IsBegun part.Phases phases = ⊤

-- in this part of the script
pub record KeepsIn (p : Part) (d : Draft) : Type 0 where
  pub bricks : AreBricks d.bricks
  pub volfiles : AreVolfiles d.volfiles
  pub start : StartFits p d.start (length d.volfiles)
  pub begun : IsBegun p d.phases
  pub sessions : AreSessions d.sessions (calls_of (phases_with p d.phases d.calls d.controls))
  pub few_phases : length (phases_with p d.phases d.calls d.controls) ≤ 4096
  pub counted : length (calls_of (phases_with p d.phases d.calls d.controls)) ≡ d.call_count
  pub few_calls : d.call_count ≤ 4096
  pub phases : AllByRecursion (IsPhase (length d.bricks) (length d.volfiles)) (phases_with p d.phases d.calls d.controls)
  pub great : d.is_great ≡ false → great_count d.controls ≡ 0

abbrev Keeps : Draft → Type 0
Keeps d = KeepsIn d.part d

pub record KeepsInside (d : Draft) (name : List ℕ) (r : VolReading) : Type 0 where
  pub draft : Keeps d
  pub in_volfiles : d.part ≡ part.Volfiles
  pub named : is_name name ≡ true
  pub fresh : AllByRecursion (λ v. is_text v.name name ≡ false) d.volfiles
  pub room : length d.volfiles < 16
  pub read : IsRead r

abbrev pub KeepsReading : Reading → Type 0
KeepsReading (InScript d) = Keeps d
KeepsReading (InVolfile d name r) = KeepsInside d name r

as_volfiles : (d : Draft) → KeepsIn part.Bricks d → KeepsIn part.Volfiles d
as_volfiles d h =
    record { bricks = h.bricks; volfiles = h.volfiles; start = tt; begun = h.begun; sessions = h.sessions; few_phases = h.few_phases; counted = h.counted; few_calls = h.few_calls; phases = h.phases; great = h.great }

no_phases : (P : Phase → Type 0) (phases : List Phase) → phases ≡ [] → AllByRecursion P phases
no_phases P phases none = subst (AllByRecursion P) (sym none) tt

-- ---- bricks
brick_more : (d : Draft) (name host path : List ℕ) → d.part ≡ part.Bricks → KeepsIn part.Bricks d → not (is_name name && is_visible_word host && is_visible_word path) ≡ false
    → is_brick_used d.bricks name host path ≡ false → leb 60 (length d.bricks) ≡ false → Keeps (record d { bricks = d.bricks ++ record { name = name; host = host; path = path } ∷ [] })
brick_more d name host path is h form new room =
    let brick : BrickLine = record { name = name; host = host; path = path } in
    let words : (is_name name && is_visible_word host && is_visible_word path) ≡ true = not_false _ form in
    let hosts : (is_name name && is_visible_word host) ≡ true = first_so (is_name name && is_visible_word host) (is_visible_word path) words in
    let apart = none_used (λ b. has_name b brick) (λ b. has_place b brick) d.bricks new in
    let low : length d.bricks < 60 = leb-false 60 (length d.bricks) room in
    let push : length (d.bricks ++ brick ∷ []) ≡ length d.bricks + 1 = length_push d.bricks brick in
    subst (λ p. KeepsIn p (record d { bricks = d.bricks ++ brick ∷ [] })) (sym is) (record {
      bricks = record {
        few = omega (arith, push, low);
        forms = all_push IsBrickLine d.bricks brick h.bricks.forms (record {
          name = first_so (is_name name) (is_visible_word host) hosts;
          host = second_so (is_name name) (is_visible_word host) hosts;
          path = second_so (is_name name && is_visible_word host) (is_visible_word path) words;
        });
        names = distinct_push has_name d.bricks brick h.bricks.names apart.0;
        places = distinct_push has_place d.bricks brick h.bricks.places apart.1;
      };
      volfiles = h.volfiles;
      start = tt;
      begun = h.begun;
      sessions = h.sessions;
      few_phases = h.few_phases;
      counted = h.counted;
      few_calls = h.few_calls;
      phases = no_phases _ d.phases h.begun;
      great = h.great;
    })

brick_added_keeps : (d : Draft) (name host path : List ℕ) → d.part ≡ part.Bricks → KeepsIn part.Bricks d → Gives KeepsReading (brick_added d name host path)
unfolding brick_added
brick_added_keeps d name host path is h =
    past (not (is_name name && is_visible_word host && is_visible_word path)) _ _ (λ form.
    past (is_brick_used d.bricks name host path) _ _ (λ new. past (leb 60 (length d.bricks)) _ _ (λ room. gives _ (brick_more d name host path is h form new room))))

brick_keeps : (d : Draft) (words : List (List ℕ)) → d.part ≡ part.Bricks → KeepsIn part.Bricks d → Gives KeepsReading (brick_read d words)
brick_keeps d [] is h = refuses _
brick_keeps d (a ∷ []) is h = refuses _
brick_keeps d (a ∷ b ∷ []) is h = refuses _
brick_keeps d (a ∷ b ∷ c ∷ []) is h = brick_added_keeps d a b c is h
brick_keeps d (a ∷ b ∷ c ∷ e ∷ more) is h = refuses _

-- ---- volfiles and the start
not_some : {A : Type 0} (o : Option A) → is_some o ≡ false → o ≡ None
not_some None e = refl
not_some (Some a) e = absurd cc

volfile_named_keeps : (d : Draft) (name : List ℕ) → KeepsIn part.Volfiles d → Gives KeepsReading (volfile_named d name)
volfile_named_keeps d name h =
    past (not (is_name name)) _ _ (λ named.
    past (is_volfile d.volfiles name) _ _ (λ new.
    past (leb 16 (length d.volfiles)) _ _ (λ room.
    gives _ (record {
      draft = record { bricks = h.bricks; volfiles = h.volfiles; start = tt; begun = h.begun; sessions = h.sessions; few_phases = h.few_phases; counted = h.counted; few_calls = h.few_calls; phases = h.phases; great = h.great };
      in_volfiles = refl;
      named = not_false (is_name name) named;
      fresh = none_named (λ v. is_text v.name name) d.volfiles (not_some _ new);
      room = leb-false 16 (length d.volfiles) room;
      read = record { volumes = tt; block = tt };
    }))))

volfile_keeps : (d : Draft) (words : List (List ℕ)) → KeepsIn part.Volfiles d → Gives KeepsReading (volfile_begun d words)
volfile_keeps d [] h = refuses _
volfile_keeps d (name ∷ []) h = volfile_named_keeps d name h
volfile_keeps d (name ∷ more ∷ rest) h = refuses _

started_keeps : (d : Draft) (volfile : Result ℕ ScriptKind) → KeepsIn part.Volfiles d → Gives (λ v. v < length d.volfiles) volfile → Gives KeepsReading (started d volfile)
started_keeps d (Err kind) h k = refuses kind
started_keeps d (Ok volfile) h k =
    gives _ (record { bricks = h.bricks; volfiles = h.volfiles; start = k.holds; begun = tt; sessions = h.sessions; few_phases = h.few_phases; counted = h.counted; few_calls = h.few_calls; phases = h.phases; great = h.great })

start_keeps : (d : Draft) (words : List (List ℕ)) → KeepsIn part.Volfiles d → Gives KeepsReading (start_read d words)
start_keeps d [] h = refuses _
start_keeps d (name ∷ []) h = started_keeps d (volfile_at d.volfiles name) h (volfile_given d.volfiles name)
start_keeps d (name ∷ more ∷ rest) h = refuses _

definitions_keep : (d : Draft) (word : List ℕ) (rest : List (List ℕ)) → KeepsIn part.Volfiles d → Gives KeepsReading (said_of_volfiles d word rest)
definitions_keep d word rest h = either (is_text word (codes "volfile")) _ _ (volfile_keeps d rest h) (either (is_text word (codes "start")) _ _ (start_keeps d rest h) (refuses _))

-- ---- phases
empty : Phase
empty = record { calls = []; controls = [] }

phase_more : (p : Part) (d : Draft) → StartFits p d.start (length d.volfiles) → StartFits part.Phases d.start (length d.volfiles) → d.part ≡ p → KeepsIn p d → leb 4096 (length (phases_read d)) ≡ false
    → KeepsIn part.Phases (record d { part = part.Phases; phases = phases_read d; calls = []; controls = []; is_great = false })
phase_more p d fits start is k room =
    let h : KeepsIn d.part d = subst (λ q. KeepsIn q d) (sym is) k in
    let none : calls_of (phases_read d ++ record { calls = []; controls = [] } ∷ []) ≡ calls_of (phases_read d) = calls_push (phases_read d) (record { calls = []; controls = [] }) ∙ append-nil (calls_of (phases_read d)) in
    let low : length (phases_read d) < 4096 = leb-false 4096 (length (phases_read d)) room in
    let push : length (phases_read d ++ record { calls = []; controls = [] } ∷ []) ≡ length (phases_read d) + 1 = length_push (phases_read d) (record { calls = []; controls = [] }) in
    record {
      bricks = h.bricks;
      volfiles = h.volfiles;
      start = start;
      begun = tt;
      sessions = subst (AreSessions d.sessions) (sym none) h.sessions;
      few_phases = omega (arith, push, low);
      counted = ap (λ l. length l) none ∙ h.counted;
      few_calls = h.few_calls;
      phases = all_push (IsPhase (length d.bricks) (length d.volfiles)) (phases_read d) (record { calls = []; controls = [] }) h.phases (record { calls = tt; controls = tt; one_great = omega arith });
      great = λ e. refl;
    }

phase_keeps : (p : Part) (d : Draft) (words : List (List ℕ)) → StartFits p d.start (length d.volfiles) → StartFits part.Phases d.start (length d.volfiles) → d.part ≡ p → KeepsIn p d
    → Gives KeepsReading (phase_begun d words)
phase_keeps p d [] fits start is h = past (leb 4096 (length (phases_read d))) _ _ (λ room. gives _ (phase_more p d fits start is h room))
phase_keeps p d (more ∷ rest) fits start is h = refuses _

-- ---- calls
call_more : (d : Draft) (sessions : List (List ℕ)) (number session : ℕ) (call : Call) → d.part ≡ part.Phases → KeepsIn part.Phases d → IsCall call → d.call_count < 4096
    → AreSessions sessions (calls_of (d.phases ++ record { calls = d.calls; controls = d.controls } ∷ []) ++ record { line = number; session = session; call = call } ∷ [])
    → Keeps (with_call (record d { sessions = sessions }) number session call)
call_more d sessions number session call is h bounds low named =
    let line : CallLine = record { line = number; session = session; call = call } in
    let now : Phase = record { calls = d.calls; controls = d.controls } in
    let more = calls_more d.phases d.calls d.controls line in
    let parts = all_but_last (IsPhase (length d.bricks) (length d.volfiles)) d.phases now h.phases in
    let push : length (calls_of (d.phases ++ now ∷ []) ++ line ∷ []) ≡ length (calls_of (d.phases ++ now ∷ [])) + 1 = length_push (calls_of (d.phases ++ now ∷ [])) line in
    let was : length (d.phases ++ now ∷ []) ≡ length d.phases + 1 = length_push d.phases now in
    let will : length (d.phases ++ record { calls = d.calls ++ line ∷ []; controls = d.controls } ∷ []) ≡ length d.phases + 1 = length_push d.phases _ in
    subst (λ p. KeepsIn p (with_call (record d { sessions = sessions }) number session call)) (sym is) (record {
      bricks = h.bricks;
      volfiles = h.volfiles;
      start = h.start;
      begun = tt;
      sessions = subst (AreSessions sessions) (sym more) named;
      few_phases = omega (arith, was, will, h.few_phases);
      counted = ap (λ l. length l) more ∙ push ∙ ap (λ n. n + 1) h.counted;
      few_calls = omega (arith, low);
      phases = all_push (IsPhase (length d.bricks) (length d.volfiles)) d.phases _ parts.0 (record {
        calls = all_push (λ l. IsCall l.call) d.calls line parts.1.calls bounds;
        controls = parts.1.controls;
        one_great = parts.1.one_great;
      });
      great = h.great;
    })

known_keeps : (d : Draft) (number session : ℕ) (call : Call) → d.part ≡ part.Phases → KeepsIn part.Phases d → IsCall call → session < length d.sessions → d.call_count < 4096
    → Keeps (with_call d number session call)
known_keeps d number session call is h bounds known low =
    let line : CallLine = record { line = number; session = session; call = call } in
    let calls = calls_of (d.phases ++ record { calls = d.calls; controls = d.controls } ∷ []) in
    let s = h.sessions in
    call_more d d.sessions number session call is h bounds low (record {
      few = s.few;
      forms = s.forms;
      names = s.names;
      numbered = numbered_push 0 calls line s.numbered (omega (arith, s.all, known));
      all = mentioned_push 0 calls line ∙ known_session (mentioned 0 calls) session (omega (arith, s.all, known)) ∙ s.all;
    })

new_keeps : (d : Draft) (number : ℕ) (name : List ℕ) (call : Call) → d.part ≡ part.Phases → KeepsIn part.Phases d → IsCall call → is_name name ≡ true
    → AllByRecursion (λ s. is_text s name ≡ false) d.sessions → length d.sessions < 64 → d.call_count < 4096
    → Keeps (with_call (record d { sessions = d.sessions ++ name ∷ [] }) number (length d.sessions) call)
new_keeps d number name call is h bounds named new room low =
    let line : CallLine = record { line = number; session = length d.sessions; call = call } in
    let calls = calls_of (d.phases ++ record { calls = d.calls; controls = d.controls } ∷ []) in
    let s = h.sessions in
    let push : length (d.sessions ++ name ∷ []) ≡ length d.sessions + 1 = length_push d.sessions name in
    call_more d (d.sessions ++ name ∷ []) number (length d.sessions) call is h bounds low (record {
      few = omega (arith, push, room);
      forms = all_push (λ w. is_name w ≡ true) d.sessions name s.forms named;
      names = distinct_push is_text d.sessions name s.names new;
      numbered = numbered_push 0 calls line s.numbered (omega (arith, s.all));
      all = mentioned_push 0 calls line ∙ new_session (mentioned 0 calls) (length d.sessions) (sym s.all) ∙ ap (λ n. n + 1) s.all ∙ sym push;
    })

call_added_keeps : (d : Draft) (number : ℕ) (name : List ℕ) (place : Option ℕ) (call : Call) → d.part ≡ part.Phases → KeepsIn part.Phases d → IsCall call → is_name name ≡ true
    → place_of (λ s. is_text s name) d.sessions ≡ place → Gives KeepsReading (call_added d number name place call)
call_added_keeps d number name None call is h bounds named at =
    past_or (leb 4096 d.call_count) (leb 64 (length d.sessions)) _ _ (λ low room.
    gives _ (new_keeps d number name call is h bounds named (none_named (λ s. is_text s name) d.sessions at) (leb-false 64 (length d.sessions) room) (leb-false 4096 d.call_count low)))
call_added_keeps d number name (Some session) call is h bounds named at =
    let known : session < length d.sessions = (subst (Finds (λ k. k < length d.sessions)) at (place_found (λ s. is_text s name) d.sessions)).holds in
    past (leb 4096 d.call_count) _ _ (λ low. gives _ (known_keeps d number session call is h bounds known (leb-false 4096 d.call_count low)))

call_said_keeps : (d : Draft) (number : ℕ) (name : List ℕ) (said : Result Call ScriptKind) → d.part ≡ part.Phases → KeepsIn part.Phases d → Gives IsCall said
    → Gives KeepsReading (call_said d number name said)
call_said_keeps d number name (Err kind) is h bounds = refuses kind
call_said_keeps d number name (Ok call) is h bounds = only_if (is_name name) _ _ (λ named. call_added_keeps d number name _ call is h bounds.holds named refl)

call_keeps : (d : Draft) (number : ℕ) (words : List (List ℕ)) → d.part ≡ part.Phases → KeepsIn part.Phases d → Gives KeepsReading (call_read d number words)
call_keeps d number [] is h = refuses _
call_keeps d number (session ∷ []) is h = refuses _
call_keeps d number (session ∷ word ∷ rest) is h = call_said_keeps d number session (call_at word rest) is h (call_given word rest)

-- ---- controls
great_more : (great was : Bool) (count : ℕ) → (great && was) ≡ false → (was ≡ false → count ≡ 0) → count ≤ 1 → count + cond great (0 + 1) 0 ≤ 1
great_more true true count one none few = absurd cc
great_more true false count one none few = let no : count ≡ 0 = none refl in omega (arith, no)
great_more false was count one none few = omega (arith, few)

great_after : (great was : Bool) (count : ℕ) → (was ≡ false → count ≡ 0) → (was || great) ≡ false → count + cond great (0 + 1) 0 ≡ 0
great_after true true count none off = absurd cc
great_after true false count none off = absurd cc
great_after false true count none off = absurd cc
great_after false false count none off = let no : count ≡ 0 = none refl in omega (arith, no)

control_more : (d : Draft) (number : ℕ) (when : When) (action : Action) → d.part ≡ part.Phases → KeepsIn part.Phases d → BothFit d.bricks d.volfiles (when, action)
    → (is_great_action action && d.is_great) ≡ false
    → Keeps (record d { controls = d.controls ++ record { line = number; when = when; action = action } ∷ []; is_great = d.is_great || is_great_action action })
control_more d number when action is h fits one =
    let line : ControlLine = record { line = number; when = when; action = action } in
    let now : Phase = record { calls = d.calls; controls = d.controls } in
    let then : Phase = record { calls = d.calls; controls = d.controls ++ line ∷ [] } in
    let same : calls_of (d.phases ++ then ∷ []) ≡ calls_of (d.phases ++ now ∷ []) = calls_push d.phases then ∙ sym (calls_push d.phases now) in
    let parts = all_but_last (IsPhase (length d.bricks) (length d.volfiles)) d.phases now h.phases in
    let was : length (d.phases ++ now ∷ []) ≡ length d.phases + 1 = length_push d.phases now in
    let will : length (d.phases ++ then ∷ []) ≡ length d.phases + 1 = length_push d.phases then in
    let e : Draft = record d { controls = d.controls ++ line ∷ []; is_great = d.is_great || is_great_action action } in
    subst (λ p. KeepsIn p e) (sym is) (record {
      bricks = h.bricks;
      volfiles = h.volfiles;
      start = h.start;
      begun = tt;
      sessions = subst (AreSessions d.sessions) (sym same) h.sessions;
      few_phases = omega (arith, was, will, h.few_phases);
      counted = ap (λ l. length l) same ∙ h.counted;
      few_calls = h.few_calls;
      phases = all_push (IsPhase (length d.bricks) (length d.volfiles)) d.phases then parts.0 (record {
        calls = parts.1.calls;
        controls = all_push (IsControl (length d.bricks) (length d.volfiles)) d.controls line parts.1.controls (record { when = fits.0; action = fits.1; allowed = fits.2 });
        one_great = subst (λ n. n ≤ 1) (sym (great_push d.controls line)) (great_more (is_great_action action) d.is_great (great_count d.controls) one h.great parts.1.one_great);
      });
      great = λ off. great_push d.controls line ∙ great_after (is_great_action action) d.is_great (great_count d.controls) h.great off;
    })

control_added_keeps : (d : Draft) (number : ℕ) (said : Result (When × Action) ScriptKind) → d.part ≡ part.Phases → KeepsIn part.Phases d → Gives (BothFit d.bricks d.volfiles) said
    → Gives KeepsReading (control_added d number said)
control_added_keeps d number (Err kind) is h fits = refuses kind
control_added_keeps d number (Ok said) is h fits = past (is_great_action said.1 && d.is_great) _ _ (λ one. gives _ (control_more d number said.0 said.1 is h fits.holds one))

control_keeps : (d : Draft) (number : ℕ) (words : List (List ℕ)) → d.part ≡ part.Phases → KeepsIn part.Phases d → Gives KeepsReading (control_read d number words)
control_keeps d number words is h = control_added_keeps d number (control_at d.bricks d.volfiles words) is h (control_given d.bricks d.volfiles words)

-- ---- statements
phases_keep : (d : Draft) (number : ℕ) (word : List ℕ) (rest : List (List ℕ)) → d.part ≡ part.Phases → KeepsIn part.Phases d → Gives KeepsReading (said_in_phases d number word rest)
phases_keep d number word rest is h =
    either (is_text word (codes "phase")) _ _ (phase_keeps part.Phases d rest h.start h.start is h)
    (either (is_text word (codes "do")) _ _ (call_keeps d number rest is h) (either (is_text word (codes "control")) _ _ (control_keeps d number rest is h) (refuses _)))

said_keeps : (p : Part) (d : Draft) (number : ℕ) (word : List ℕ) (rest : List (List ℕ)) → d.part ≡ p → KeepsIn p d → Gives KeepsReading (said_in p d number word rest)
said_keeps part.Bricks d number word rest is h = either (is_text word (codes "brick")) _ _ (brick_keeps d rest is h) (definitions_keep d word rest (as_volfiles d h))
said_keeps part.Volfiles d number word rest is h = definitions_keep d word rest h
said_keeps part.Start d number word rest is h = either (is_text word (codes "phase")) _ _ (phase_keeps part.Start d rest h.start h.start is h) (refuses _)
said_keeps part.Phases d number word rest is h = phases_keep d number word rest is h

statement_keeps : (d : Draft) (number : ℕ) (words : List (List ℕ)) → Keeps d → Gives KeepsReading (statement d number words)
statement_keeps d number [] h = gives _ h
statement_keeps d number (word ∷ rest) h = said_keeps d.part d number word rest refl h

plain_keeps : (line : List ℕ) (said : Result Reading ScriptKind) → Gives KeepsReading said → Gives KeepsReading (said_if_plain line said)
plain_keeps line said h = unless (line_refusal line)
  where
    unless : (kind : Option ScriptKind) → Gives KeepsReading (unless_refused kind said)
    unless None = h
    unless (Some kind) = refuses kind

-- ---- lines of a volfile
inside_keeps : (d : Draft) (name : List ℕ) (r s : VolReading) → KeepsInside d name r → IsRead s → KeepsInside d name s
inside_keeps d name r s h read = record { draft = h.draft; in_volfiles = h.in_volfiles; named = h.named; fresh = h.fresh; room = h.room; read = read }

goes_on_keeps : (d : Draft) (name : List ℕ) (r : VolReading) (read : Result VolReading VolKind) → KeepsInside d name r → ((s : VolReading) → read ≡ Ok s → IsRead s) → Gives KeepsReading (volfile_goes_on d name read)
goes_on_keeps d name r (Ok s) h kept = gives _ (inside_keeps d name r s h (kept s refl))
goes_on_keeps d name r (Err kind) h kept = refuses _

inner_keeps : (d : Draft) (name : List ℕ) (r : VolReading) (number : ℕ) (line : List ℕ) → KeepsInside d name r → Gives KeepsReading (inner_line_read d name r number line)
inner_keeps d name r number line h = either _ _ _ (refuses _) (goes_on_keeps d name r (vol_line_read r number line) h (λ s is. line_kept r number line s h.read is))

volfile_more : (d : Draft) (name : List ℕ) (r : VolReading) (v : Volume) (vs : List Volume) → KeepsInside d name r → AreVolumes [] (v ∷ vs)
    → Keeps (record d { volfiles = d.volfiles ++ record { name = name; volfile = record { volumes = v ∷ vs } } ∷ [] })
volfile_more d name r v vs k each =
    let volfile : NamedVolfile = record { name = name; volfile = record { volumes = v ∷ vs } } in
    let h : KeepsIn part.Volfiles d = subst (λ p. KeepsIn p d) k.in_volfiles k.draft in
    let push : length (d.volfiles ++ volfile ∷ []) ≡ length d.volfiles + 1 = length_push d.volfiles volfile in
    subst (λ p. KeepsIn p (record d { volfiles = d.volfiles ++ volfile ∷ [] })) (sym k.in_volfiles) (record {
      bricks = h.bricks;
      volfiles = record {
        few = omega (arith, push, k.room);
        forms = all_push IsVolfileLine d.volfiles volfile h.volfiles.forms (record { name = k.named; volfile = volfile_whole (record { volumes = v ∷ vs }) (record { each = each; some = suc_some (length vs) }) });
        names = distinct_push (λ a b. is_text a.name b.name) d.volfiles volfile h.volfiles.names k.fresh;
      };
      start = tt;
      begun = h.begun;
      sessions = h.sessions;
      few_phases = h.few_phases;
      counted = h.counted;
      few_calls = h.few_calls;
      phases = no_phases _ d.phases h.begun;
      great = h.great;
    })

ended_keeps : (d : Draft) (name : List ℕ) (r : VolReading) (block : Option Volume) (volumes : List Volume) → KeepsInside d name r → AreVolumes [] volumes → Gives KeepsReading (volfile_ended d name block volumes)
ended_keeps d name r (Some block) volumes h each = refuses _
ended_keeps d name r None [] h each = refuses _
ended_keeps d name r None (v ∷ vs) h each = gives _ (volfile_more d name r v vs h each)

end_keeps : (d : Draft) (name : List ℕ) (r : VolReading) (words : List (List ℕ)) → KeepsInside d name r → Gives KeepsReading (end_read d name r words)
end_keeps d name r [] h = ended_keeps d name r r.block r.volumes h h.read.volumes
end_keeps d name r (more ∷ rest) h = refuses _

volfile_line_keeps : (d : Draft) (name : List ℕ) (r : VolReading) (number : ℕ) (line : List ℕ) (words : List (List ℕ)) → KeepsInside d name r → Gives KeepsReading (volfile_line_read d name r number line words)
volfile_line_keeps d name r number line [] h = inner_keeps d name r number line h
volfile_line_keeps d name r number line (word ∷ rest) h = either _ _ _ (plain_keeps line _ (end_keeps d name r rest h)) (inner_keeps d name r number line h)

-- ---- the whole text
pub line_keeps : (r : Reading) (number : ℕ) (line : List ℕ) → KeepsReading r → Gives KeepsReading (line_read r number line)
line_keeps (InScript d) number line h = either _ _ _ (either _ _ _ (refuses _) (gives _ h)) (plain_keeps line _ (statement_keeps d number (words_of line) h))
line_keeps (InVolfile d name r) number line h = volfile_line_keeps d name r number line (words_of line) h

started_fits : (p : Part) (start volfiles : ℕ) → has_start p ≡ true → StartFits p start volfiles → start < volfiles
started_fits part.Bricks start volfiles is fits = absurd cc
started_fits part.Volfiles start volfiles is fits = absurd cc
started_fits part.Start start volfiles is fits = fits
started_fits part.Phases start volfiles is fits = fits

text_keeps : (r : Reading) (number : ℕ) → KeepsReading r → LinesUpTo number r → Gives IsAccepted (text_ended r number)
text_keeps (InVolfile d name r) number h lines = refuses _
text_keeps (InScript d) number h lines =
    only_if (has_start d.part) _ _ (λ is.
    gives _ (record {
      bricks = h.bricks;
      volfiles = h.volfiles;
      start = started_fits d.part d.start (length d.volfiles) is h.start;
      sessions = h.sessions;
      few_phases = h.few_phases;
      few_calls = omega (arith, h.counted, h.few_calls);
      phases = h.phases;
      lines = lines.lined;
    }))

pub nothing_keeps : KeepsReading nothing_said
unfolding IsDistinct
nothing_keeps =
    record {
      bricks = record { few = omega arith; forms = tt; names = tt; places = tt };
      volfiles = record { few = omega arith; forms = tt; names = tt };
      start = tt;
      begun = refl;
      sessions = record { few = omega arith; forms = tt; names = tt; numbered = tt; all = refl };
      few_phases = omega arith;
      counted = refl;
      few_calls = omega arith;
      phases = tt;
      great = λ e. refl;
    }

lines_keep : (lines : List (List ℕ)) (r : Reading) (number : ℕ) → number ≤ 4294967295 → KeepsReading r → LinesUpTo number r → Gives IsAccepted (lines_read lines r number)
lines_keep [] r number few h lined = text_keeps r number h lined
lines_keep (line ∷ lines) r number few h lined =
    on (line_read r (line_after number) line) (line_keeps r (line_after number) line h) (line_lined number r line few lined) (λ s k l. lines_keep lines s (line_after number) (after_few number few) k l)
  where
    on : (x : Result Reading ScriptKind) → Gives KeepsReading x → Gives (LinesUpTo (line_after number)) x
        → ((s : Reading) → KeepsReading s → LinesUpTo (line_after number) s → Gives IsAccepted (lines_read lines s (line_after number)))
        → Gives IsAccepted (read_on x (line_after number) (λ s. lines_read lines s (line_after number)))
    on (Ok s) k l more = more s k.holds l.holds
    on (Err kind) k l more = refuses _

pub accepted_keeps : AcceptedKeepLimits
accepted_keeps text script is = (subst (Gives IsAccepted) is (lines_keep (lines_of text) nothing_said 0 (omega arith) nothing_keeps nothing_lined)).holds

-- ---- for the loop over lines
pub next_keeps : (r s : Reading) (number : ℕ) (line : List ℕ) → KeepsReading r → line_read r number line ≡ Ok s → KeepsReading s
next_keeps r s number line h took = (subst (Gives KeepsReading) took (line_keeps r number line h)).holds
