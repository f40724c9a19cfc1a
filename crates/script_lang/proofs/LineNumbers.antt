-- The line numbers of what was read rise, and none is above that of the line that was read last.
use Rattle.std.proofs.Common.{inl, inr, ◌≡◌, ℕ, ◌+◌, ◌<◌, ◌≤◌, leb, List, [], ◌∷◌, ◌++◌, max, map, length, codes, Option, Some, None, Result, Ok, Err, refl, sym, subst, arith}
use Rattle.std.specs.Prelude.{◌⊎◌, not, ◌&&◌, ◌||◌}
use Rattle.std.proofs.lemmas.Bool.{cases_lt}
use Rattle.std.proofs.lemmas.Bool.Decides.{nat_tests}
use Rattle.volfile.specs.TextLines.{line_after, words_of, is_text, is_name, is_visible_word}
use Rattle.volfile.specs.VolfileText.{Reading as VolReading, line_read as vol_line_read}
use Rattle.volfile.specs.declared.errors.VolKind.{VolKind}
use Rattle.volfile.specs.declared.volumes.Volume.{Volume}
use Rattle.fop_types.specs.declared.calls.Call.{Call}
use Rattle.script_lang.specs.CallText.{call_at}
use Rattle.script_lang.specs.ControlText.{volfile_at, control_at}
use Rattle.script_lang.specs.StatementText.{is_brick_used, brick_added, brick_read, is_volfile, volfile_begun, started, start_read, phases_with, phases_read, phase_begun, with_call, call_added, call_said, call_read, is_great_action, control_added, said_of_volfiles, said_in_phases, said_in, statement}
use Rattle.script_lang.specs.ScriptText.{nothing_said, line_refusal, unless_refused, said_if_plain, volfile_goes_on, inner_line_read, volfile_ended, end_read, volfile_line_read, line_read}
use Rattle.script_lang.specs.Accepted.{IsBehind, AreRising, last_of, last_in, AreLined}
use Rattle.script_lang.specs.declared.errors.ScriptKind.{ScriptKind}
use Rattle.script_lang.specs.declared.drafts.Draft.{Draft}
use Rattle.script_lang.specs.declared.drafts.Part.{Part}
use Rattle.script_lang.specs.declared.drafts.Part.TheVariants as part
use Rattle.script_lang.specs.declared.drafts.Reading.{Reading}
use Rattle.script_lang.specs.declared.drafts.Reading.TheVariants.{InScript, InVolfile}
use Rattle.script_lang.specs.declared.scripts.Action.{Action}
use Rattle.script_lang.specs.declared.scripts.When.{When}
use Rattle.script_lang.specs.declared.scripts.CallLine.{CallLine}
use Rattle.script_lang.specs.declared.scripts.ControlLine.{ControlLine}
use Rattle.script_lang.specs.declared.scripts.Phase.{Phase}
use Rattle.script_lang.proofs.Gives.{Gives, gives, refuses, either, past, past_or, only_if}

-- ---- one more in a list
-- the last line of phases
abbrev pub end_of : ℕ → List Phase → ℕ
end_of last [] = last
end_of last (p ∷ phases) = end_of (last_in last p) phases

rising_push : {A : Type 0} (line_of : A → ℕ) (last : ℕ) (xs : List A) (x : A) → AreRising last (map line_of xs) → IsBehind (last_of last (map line_of xs)) (line_of x) → AreRising last (map line_of (xs ++ x ∷ []))
rising_push line_of last [] x rising behind = (behind, tt)
rising_push line_of last (y ∷ xs) x rising behind = (rising.0, rising_push line_of (line_of y) xs x rising.1 behind)

last_push : {A : Type 0} (line_of : A → ℕ) (last : ℕ) (xs : List A) (x : A) → last_of last (map line_of (xs ++ x ∷ [])) ≡ line_of x
last_push line_of last [] x = refl
last_push line_of last (y ∷ xs) x = last_push line_of (line_of y) xs x

pub record Ends (last : ℕ) (phases : List Phase) (p : Phase) : Type 0 where
  pub before : AreLined last phases
  pub calls : AreRising (end_of last phases) (map (λ (c : CallLine). c.line) p.calls)
  pub controls : AreRising (end_of last phases) (map (λ (c : ControlLine). c.line) p.controls)

lined_parts : (last : ℕ) (phases : List Phase) (p : Phase) → AreLined last (phases ++ p ∷ []) → Ends last phases p
lined_parts last [] p h = record { before = tt; calls = h.0; controls = h.1 }
lined_parts last (q ∷ phases) p h = let rest = lined_parts (last_in last q) phases p h.2 in record { before = (h.0, h.1, rest.before); calls = rest.calls; controls = rest.controls }

lined_push : (last : ℕ) (phases : List Phase) (p : Phase) → Ends last phases p → AreLined last (phases ++ p ∷ [])
lined_push last [] p e = (e.calls, e.controls, tt)
lined_push last (q ∷ phases) p e =
    (e.before.0, e.before.1, lined_push (last_in last q) phases p (record { before = e.before.2; calls = e.calls; controls = e.controls }))

end_push : (last : ℕ) (phases : List Phase) (p : Phase) → end_of last (phases ++ p ∷ []) ≡ last_in (end_of last phases) p
end_push last [] p = refl
end_push last (q ∷ phases) p = end_push (last_in last q) phases p

-- ---- what was read up to a line
pub record Lined (number : ℕ) (phases : List Phase) : Type 0 where
  pub lined : AreLined 0 phases
  pub upto : end_of 0 phases ≤ number

abbrev pub LinesUpTo : ℕ → Reading → Type 0
LinesUpTo number (InScript d) = Lined number (phases_read d)
LinesUpTo number (InVolfile d name r) = Lined number (phases_read d)

abbrev InPart : ℕ → Part → Draft → Type 0
InPart number p d = Lined number (phases_with p d.phases d.calls d.controls)

pub nothing_lined : LinesUpTo 0 nothing_said
nothing_lined = record { lined = tt; upto = omega arith }

module _ (n number : ℕ) (more : n ≤ number) (behind : (k : ℕ) → k ≤ n → IsBehind k number) where
  later : (phases : List Phase) → Lined n phases → Lined number phases
  later phases h = record { lined = h.lined; upto = omega (arith, h.upto, more) }

  brick_added_lined : (d : Draft) (name host path : List ℕ) → Lined n (phases_read d) → Gives (LinesUpTo number) (brick_added d name host path)
  unfolding brick_added
  brick_added_lined d name host path h =
      past (not (is_name name && is_visible_word host && is_visible_word path)) _ _ (λ form.
      past (is_brick_used d.bricks name host path) _ _ (λ new. past (leb 60 (length d.bricks)) _ _ (λ room. gives _ (later (phases_read d) h))))

  brick_lined : (d : Draft) (words : List (List ℕ)) → Lined n (phases_read d) → Gives (LinesUpTo number) (brick_read d words)
  brick_lined d [] h = refuses _
  brick_lined d (a ∷ []) h = refuses _
  brick_lined d (a ∷ b ∷ []) h = refuses _
  brick_lined d (a ∷ b ∷ c ∷ []) h = brick_added_lined d a b c h
  brick_lined d (a ∷ b ∷ c ∷ e ∷ rest) h = refuses _

  volfile_lined : (d : Draft) (words : List (List ℕ)) → Lined n d.phases → Gives (LinesUpTo number) (volfile_begun d words)
  volfile_lined d [] h = refuses _
  volfile_lined d (name ∷ []) h =
      past (not (is_name name)) _ _ (λ named. past (is_volfile d.volfiles name) _ _ (λ new. past (leb 16 (length d.volfiles)) _ _ (λ room. gives _ (later d.phases h))))
  volfile_lined d (name ∷ next ∷ rest) h = refuses _

  started_lined : (d : Draft) (volfile : Result ℕ ScriptKind) → Lined n d.phases → Gives (LinesUpTo number) (started d volfile)
  started_lined d (Err kind) h = refuses kind
  started_lined d (Ok volfile) h = gives _ (later d.phases h)

  start_lined : (d : Draft) (words : List (List ℕ)) → Lined n d.phases → Gives (LinesUpTo number) (start_read d words)
  start_lined d [] h = refuses _
  start_lined d (name ∷ []) h = started_lined d (volfile_at d.volfiles name) h
  start_lined d (name ∷ next ∷ rest) h = refuses _

  definitions_lined : (d : Draft) (word : List ℕ) (rest : List (List ℕ)) → Lined n d.phases → Gives (LinesUpTo number) (said_of_volfiles d word rest)
  definitions_lined d word rest h = either (is_text word (codes "volfile")) _ _ (volfile_lined d rest h) (either (is_text word (codes "start")) _ _ (start_lined d rest h) (refuses _))

  phase_lined : (d : Draft) (words : List (List ℕ)) → Lined n (phases_read d) → Gives (LinesUpTo number) (phase_begun d words)
  phase_lined d [] h =
      past (leb 4096 (length (phases_read d))) _ _ (λ room.
      let phase : Phase = record { calls = []; controls = [] } in
      let end : end_of 0 (phases_read d ++ phase ∷ []) ≡ max (end_of 0 (phases_read d)) (end_of 0 (phases_read d)) = end_push 0 (phases_read d) phase in
      gives _ (record { lined = lined_push 0 (phases_read d) phase (record { before = h.lined; calls = tt; controls = tt }); upto = omega (arith, end, h.upto, more) }))
  phase_lined d (next ∷ rest) h = refuses _

  -- ---- calls and controls
  call_more : (d : Draft) (sessions : List (List ℕ)) (session : ℕ) (call : Call) → d.part ≡ part.Phases → InPart n part.Phases d → LinesUpTo number (InScript (with_call (record d { sessions = sessions }) number session call))
  call_more d sessions session call is h =
      let line : CallLine = record { line = number; session = session; call = call } in
      let now : Phase = record { calls = d.calls; controls = d.controls } in
      let then : Phase = record { calls = d.calls ++ line ∷ []; controls = d.controls } in
      let e = lined_parts 0 d.phases now h.lined in
      let was : end_of 0 (d.phases ++ now ∷ []) ≡ max (last_of (end_of 0 d.phases) (map (λ (c : CallLine). c.line) d.calls)) (last_of (end_of 0 d.phases) (map (λ (c : ControlLine). c.line) d.controls)) = end_push 0 d.phases now in
      let will : end_of 0 (d.phases ++ then ∷ []) ≡ max (last_of (end_of 0 d.phases) (map (λ (c : CallLine). c.line) (d.calls ++ line ∷ []))) (last_of (end_of 0 d.phases) (map (λ (c : ControlLine). c.line) d.controls)) = end_push 0 d.phases then in
      let last : last_of (end_of 0 d.phases) (map (λ (c : CallLine). c.line) (d.calls ++ line ∷ [])) ≡ number = last_push (λ (c : CallLine). c.line) (end_of 0 d.phases) d.calls line in
      let low : last_of (end_of 0 d.phases) (map (λ (c : CallLine). c.line) d.calls) ≤ n = omega (arith, was, h.upto) in
      subst (λ p. InPart number p (with_call (record d { sessions = sessions }) number session call)) (sym is) (record {
        lined = lined_push 0 d.phases then (record { before = e.before; calls = rising_push (λ (c : CallLine). c.line) (end_of 0 d.phases) d.calls line e.calls (behind _ low); controls = e.controls });
        upto = omega (arith, was, will, last, h.upto, more);
      })

  call_added_lined : (d : Draft) (name : List ℕ) (place : Option ℕ) (call : Call) → d.part ≡ part.Phases → InPart n part.Phases d → Gives (LinesUpTo number) (call_added d number name place call)
  call_added_lined d name None call is h = past_or (leb 4096 d.call_count) (leb 64 (length d.sessions)) _ _ (λ low room. gives _ (call_more d (d.sessions ++ name ∷ []) (length d.sessions) call is h))
  call_added_lined d name (Some session) call is h = past (leb 4096 d.call_count) _ _ (λ low. gives _ (call_more d d.sessions session call is h))

  call_said_lined : (d : Draft) (name : List ℕ) (said : Result Call ScriptKind) → d.part ≡ part.Phases → InPart n part.Phases d → Gives (LinesUpTo number) (call_said d number name said)
  call_said_lined d name (Err kind) is h = refuses kind
  call_said_lined d name (Ok call) is h = only_if (is_name name) _ _ (λ named. call_added_lined d name _ call is h)

  call_lined : (d : Draft) (words : List (List ℕ)) → d.part ≡ part.Phases → InPart n part.Phases d → Gives (LinesUpTo number) (call_read d number words)
  call_lined d [] is h = refuses _
  call_lined d (session ∷ []) is h = refuses _
  call_lined d (session ∷ word ∷ rest) is h = call_said_lined d session (call_at word rest) is h

  control_more : (d : Draft) (when : When) (action : Action) → d.part ≡ part.Phases → InPart n part.Phases d
      → LinesUpTo number (InScript (record d { controls = d.controls ++ record { line = number; when = when; action = action } ∷ []; is_great = d.is_great || is_great_action action }))
  control_more d when action is h =
      let line : ControlLine = record { line = number; when = when; action = action } in
      let now : Phase = record { calls = d.calls; controls = d.controls } in
      let then : Phase = record { calls = d.calls; controls = d.controls ++ line ∷ [] } in
      let e = lined_parts 0 d.phases now h.lined in
      let was : end_of 0 (d.phases ++ now ∷ []) ≡ max (last_of (end_of 0 d.phases) (map (λ (c : CallLine). c.line) d.calls)) (last_of (end_of 0 d.phases) (map (λ (c : ControlLine). c.line) d.controls)) = end_push 0 d.phases now in
      let will : end_of 0 (d.phases ++ then ∷ []) ≡ max (last_of (end_of 0 d.phases) (map (λ (c : CallLine). c.line) d.calls)) (last_of (end_of 0 d.phases) (map (λ (c : ControlLine). c.line) (d.controls ++ line ∷ []))) = end_push 0 d.phases then in
      let last : last_of (end_of 0 d.phases) (map (λ (c : ControlLine). c.line) (d.controls ++ line ∷ [])) ≡ number = last_push (λ (c : ControlLine). c.line) (end_of 0 d.phases) d.controls line in
      let low : last_of (end_of 0 d.phases) (map (λ (c : ControlLine). c.line) d.controls) ≤ n = omega (arith, was, h.upto) in
      subst (λ p. InPart number p (record d { controls = d.controls ++ line ∷ []; is_great = d.is_great || is_great_action action })) (sym is) (record {
        lined = lined_push 0 d.phases then (record { before = e.before; calls = e.calls; controls = rising_push (λ (c : ControlLine). c.line) (end_of 0 d.phases) d.controls line e.controls (behind _ low) });
        upto = omega (arith, was, will, last, h.upto, more);
      })

  control_lined : (d : Draft) (said : Result (When × Action) ScriptKind) → d.part ≡ part.Phases → InPart n part.Phases d → Gives (LinesUpTo number) (control_added d number said)
  control_lined d (Err kind) is h = refuses kind
  control_lined d (Ok said) is h = past (is_great_action said.1 && d.is_great) _ _ (λ one. gives _ (control_more d said.0 said.1 is h))

  -- ---- statements
  phases_lined : (d : Draft) (word : List ℕ) (rest : List (List ℕ)) → d.part ≡ part.Phases → InPart n part.Phases d → Gives (LinesUpTo number) (said_in_phases d number word rest)
  phases_lined d word rest is h =
      either (is_text word (codes "phase")) _ _ (phase_lined d rest (subst (λ p. InPart n p d) (sym is) h))
      (either (is_text word (codes "do")) _ _ (call_lined d rest is h) (either (is_text word (codes "control")) _ _ (control_lined d (control_at d.bricks d.volfiles rest) is h) (refuses _)))

  said_lined : (p : Part) (d : Draft) (word : List ℕ) (rest : List (List ℕ)) → d.part ≡ p → InPart n p d → Gives (LinesUpTo number) (said_in p d number word rest)
  said_lined part.Bricks d word rest is h = either (is_text word (codes "brick")) _ _ (brick_lined d rest (subst (λ p. InPart n p d) (sym is) h)) (definitions_lined d word rest h)
  said_lined part.Volfiles d word rest is h = definitions_lined d word rest h
  said_lined part.Start d word rest is h = either (is_text word (codes "phase")) _ _ (phase_lined d rest (subst (λ p. InPart n p d) (sym is) h)) (refuses _)
  said_lined part.Phases d word rest is h = phases_lined d word rest is h

  statement_lined : (d : Draft) (words : List (List ℕ)) → Lined n (phases_read d) → Gives (LinesUpTo number) (statement d number words)
  statement_lined d [] h = gives _ (later (phases_read d) h)
  statement_lined d (word ∷ rest) h = said_lined d.part d word rest refl h

  plain_lined : (line : List ℕ) (said : Result Reading ScriptKind) → Gives (LinesUpTo number) said → Gives (LinesUpTo number) (said_if_plain line said)
  plain_lined line said h = unless (line_refusal line)
    where
      unless : (kind : Option ScriptKind) → Gives (LinesUpTo number) (unless_refused kind said)
      unless None = h
      unless (Some kind) = refuses kind

  -- ---- lines of a volfile
  goes_on_lined : (d : Draft) (name : List ℕ) (read : Result VolReading VolKind) → Lined n (phases_read d) → Gives (LinesUpTo number) (volfile_goes_on d name read)
  goes_on_lined d name (Ok r) h = gives _ (later (phases_read d) h)
  goes_on_lined d name (Err kind) h = refuses _

  inner_lined : (d : Draft) (name : List ℕ) (r : VolReading) (line : List ℕ) → Lined n (phases_read d) → Gives (LinesUpTo number) (inner_line_read d name r number line)
  inner_lined d name r line h = either _ _ _ (refuses _) (goes_on_lined d name (vol_line_read r number line) h)

  ended_lined : (d : Draft) (name : List ℕ) (block : Option Volume) (volumes : List Volume) → Lined n (phases_read d) → Gives (LinesUpTo number) (volfile_ended d name block volumes)
  ended_lined d name (Some block) volumes h = refuses _
  ended_lined d name None [] h = refuses _
  ended_lined d name None (v ∷ vs) h = gives _ (later (phases_read d) h)

  end_lined : (d : Draft) (name : List ℕ) (r : VolReading) (words : List (List ℕ)) → Lined n (phases_read d) → Gives (LinesUpTo number) (end_read d name r words)
  end_lined d name r [] h = ended_lined d name r.block r.volumes h
  end_lined d name r (next ∷ rest) h = refuses _

  volfile_line_lined : (d : Draft) (name : List ℕ) (r : VolReading) (line : List ℕ) (words : List (List ℕ)) → Lined n (phases_read d) → Gives (LinesUpTo number) (volfile_line_read d name r number line words)
  volfile_line_lined d name r line [] h = inner_lined d name r line h
  volfile_line_lined d name r line (word ∷ rest) h = either _ _ _ (plain_lined line _ (end_lined d name r rest h)) (inner_lined d name r line h)

  one_line_lined : (r : Reading) (line : List ℕ) → LinesUpTo n r → Gives (LinesUpTo number) (line_read r number line)
  one_line_lined (InScript d) line h = either _ _ _ (either _ _ _ (refuses _) (gives _ (later (phases_read d) h))) (plain_lined line _ (statement_lined d (words_of line) h))
  one_line_lined (InVolfile d name r) line h = volfile_line_lined d name r line (words_of line) h

-- a line's number, where numbers up to the last that 32 bits can hold were given
after_grows : (n : ℕ) → n ≤ 4294967295 → n ≤ line_after n
after_grows n few = grind (arith, nat_tests)

after_behind : (n k : ℕ) → n ≤ 4294967295 → k ≤ n → IsBehind k (line_after n)
after_behind n k few low = by_test (cases_lt n 4294967295)
  where
    by_test : (n < 4294967295) ⊎ (4294967295 ≤ n) → IsBehind k (line_after n)
    by_test (inl less) = let next : line_after n ≡ n + 1 = grind (arith, nat_tests) in inl (omega (arith, next, low))
    by_test (inr most) = let same : line_after n ≡ 4294967295 = grind (arith, nat_tests) in inr same

pub after_few : (n : ℕ) → n ≤ 4294967295 → line_after n ≤ 4294967295
after_few n few = grind (arith, nat_tests)

pub line_lined : (n : ℕ) (r : Reading) (line : List ℕ) → n ≤ 4294967295 → LinesUpTo n r → Gives (LinesUpTo (line_after n)) (line_read r (line_after n) line)
line_lined n r line few h = one_line_lined n (line_after n) (after_grows n few) (λ k low. after_behind n k few low) r line h
