-- What goes out, one input after another.
use Rattle.std.proofs.Common.{◌≡◌, ℕ, zero, suc, ◌+◌, ◌||◌, ◌++◌, Bool, true, false, List, [], ◌∷◌, Option, Some, None, is_some, length, refl, sym, ap, ◌∙◌, arith, append-nil, append_assoc, if◌then◌else◌}
use Rattle.fop_types.specs.declared.messages.Input.TheVariants as input
use Rattle.fop_types.specs.declared.messages.Proc.{Proc}
use Rattle.wire_xdr.specs.WireText.{input_text}
use Rattle.wire_xdr.specs.Xdr.{unit}
use Rattle.mount_log.specs.Procedures.{rank_in}
use Rattle.mount_log.specs.declared.logs.SentLine.{SentLine}
use Rattle.script_lang.specs.declared.scripts.Action.{Action}
use Rattle.script_lang.specs.declared.scripts.Action.TheVariants as action
use Rattle.hub_tables.specs.PhaseControls.{ControlsState, next_count, with_count, armed_at, next_armed, drop_armed, drop_of, without_armed, first_of_request, action_of, with_sent}
use Rattle.hub_tables.specs.Arming.{is_armable}
use Rattle.hub_tables.specs.Agendas.{AgendaState, without_armed_of, controls_by, controls_after, armed_line, with_armed_line, armed_lines, lines_before, outgoing, is_kind, is_owed_for, owed_by, with_sends}
use Rattle.hub_tables.specs.declared.controls.Armed.{Armed}
use Rattle.hub_tables.specs.declared.controls.Rank.{Rank}
use Rattle.hub_tables.specs.declared.requests.Nth.{Nth}
use Rattle.hub_tables.proofs.Ranks.{found_there}

-- ---- one line more

owed_push : (lines : List SentLine) (line : SentLine) → owed_by (lines ++ line ∷ []) ≡ owed_by lines + (if is_owed_for line.bytes then 1 else 0)
owed_push [] line = omega arith
owed_push (x ∷ lines) line = omega (arith, owed_push lines line)

controls_push : (lines : List SentLine) (line : SentLine) (c : ControlsState) → controls_after c (lines ++ line ∷ []) ≡ controls_by (controls_after c lines) line.brick (rank_in line.bytes)
controls_push [] line c = refl
controls_push (x ∷ lines) line c = controls_push lines line (controls_by c x.brick (rank_in x.bytes))

one_if : (b : Bool) → b ≡ true → ◌≡◌ {A = ℕ} (if b then 1 else 0) 1
one_if true is = refl
one_if false is = absurd cc

none_if : (b : Bool) → b ≡ false → ◌≡◌ {A = ℕ} (if b then 1 else 0) 0
none_if true is = absurd cc
none_if false is = refl

module _ (lines : List SentLine) (line : SentLine) where
  pub request_owed : (p : ℕ) → rank_in line.bytes ≡ Some p → owed_by (lines ++ line ∷ []) ≡ owed_by lines + 1
  request_owed p is =
      let owed : is_owed_for line.bytes ≡ true = ap (λ (r : Option ℕ). is_some r || (is_kind 1 line.bytes || is_kind 2 line.bytes)) is in
      owed_push lines line ∙ ap (λ (n : ℕ). owed_by lines + n) (one_if (is_owed_for line.bytes) owed)

  other_is : rank_in line.bytes ≡ None → is_owed_for line.bytes ≡ (is_kind 1 line.bytes || is_kind 2 line.bytes)
  other_is is = ap (λ (r : Option ℕ). is_some r || (is_kind 1 line.bytes || is_kind 2 line.bytes)) is

  pub other_owed : rank_in line.bytes ≡ None → (is_kind 1 line.bytes || is_kind 2 line.bytes) ≡ true → owed_by (lines ++ line ∷ []) ≡ owed_by lines + 1
  other_owed is owed = owed_push lines line ∙ ap (λ (n : ℕ). owed_by lines + n) (one_if (is_owed_for line.bytes) (other_is is ∙ owed))

  pub other_not_owed : rank_in line.bytes ≡ None → (is_kind 1 line.bytes || is_kind 2 line.bytes) ≡ false → owed_by (lines ++ line ∷ []) ≡ owed_by lines
  other_not_owed is not_owed = omega (arith, owed_push lines line, none_if (is_owed_for line.bytes) (other_is is ∙ not_owed))

  pub other_sent : rank_in line.bytes ≡ None → (c : ControlsState) → controls_after c (lines ++ line ∷ []) ≡ controls_after c lines
  other_sent is c = controls_push lines line c ∙ ap (controls_by (controls_after c lines) line.brick) is

  -- a request goes behind what is armed for it
  pub request_sent : (p : ℕ) (n : Nth) (old after : ControlsState) (c : ControlsState) → rank_in line.bytes ≡ Some p → n ≡ record { brick = line.brick; proc = p; count = next_count old line.brick p }
      → after ≡ with_sent (without_armed_of (with_count old line.brick p) n (length old.armed)) n → controls_after c lines ≡ old → controls_after c (lines ++ line ∷ []) ≡ after
  request_sent p n old after c is n_is after_is so_far =
      controls_push lines line c
      ∙ ap (controls_by (controls_after c lines) line.brick) is
      ∙ ap (λ (o : ControlsState). controls_by o line.brick (Some p)) so_far
      ∙ ap (λ (m : Nth). with_sent (without_armed_of (with_count old line.brick p) m (length old.armed)) m) (sym n_is)
      ∙ sym after_is

-- ---- what is armed

down_rank : (serve : ℕ) → rank_in (input_text (input.Down serve)) ≡ None
unfolding unit
down_rank serve = refl

down_kind : (serve : ℕ) → (is_kind 1 (input_text (input.Down serve)) || is_kind 2 (input_text (input.Down serve))) ≡ true
unfolding unit
down_kind serve = refl

fault_rank : (p : Proc) (number : ℕ) → rank_in (input_text (input.FaultAt p number)) ≡ None
unfolding unit
fault_rank p number = refl

fault_kind : (p : Proc) (number : ℕ) → (is_kind 1 (input_text (input.FaultAt p number)) || is_kind 2 (input_text (input.FaultAt p number))) ≡ false
unfolding unit
fault_kind p number = refl

module _ (lines : List SentLine) (event brick : ℕ) where
  abbrev down : ℕ → SentLine
  down serve = record { event = event; brick = brick; bytes = input_text (input.Down serve) }

  abbrev fault : Proc → ℕ → SentLine
  fault p number = record { event = event; brick = brick; bytes = input_text (input.FaultAt p number) }

  pub down_owed : (serve : ℕ) → owed_by (lines ++ down serve ∷ []) ≡ owed_by lines + 1
  down_owed serve = other_owed lines (down serve) (down_rank serve) (down_kind serve)

  pub down_alone : (serve : ℕ) (c : ControlsState) → controls_after c (lines ++ down serve ∷ []) ≡ controls_after c lines
  down_alone serve c = other_sent lines (down serve) (down_rank serve) c

  pub fault_owed : (p : Proc) (number : ℕ) → owed_by (lines ++ fault p number ∷ []) ≡ owed_by lines
  fault_owed p number = other_not_owed lines (fault p number) (fault_rank p number) (fault_kind p number)

  pub fault_alone : (p : Proc) (number : ℕ) (c : ControlsState) → controls_after c (lines ++ fault p number ∷ []) ≡ controls_after c lines
  fault_alone p number c = other_sent lines (fault p number) (fault_rank p number) c

-- ---- the actions that are armed for a request are taken

some_armed : (c : ControlsState) (request : Nth) (r : Option Armed) → next_armed c request ≡ r → is_some (action_of r) ≡ true → is_some (next_armed c request) ≡ true
some_armed c request None is some = absurd cc
some_armed c request (Some a) is some = ap is_some is

-- one is taken, and then the others
pub one_taken : (c : ControlsState) (request : Nth) (a : Action) (more left : ℕ) → action_of (next_armed c request) ≡ Some a → left ≡ suc more
    → without_armed_of c request left ≡ without_armed_of (without_armed c request) request more
one_taken c request a more left is long =
    let some : is_some (next_armed c request) ≡ true = some_armed c request (next_armed c request) refl (ap is_some is) in
    ap (without_armed_of c request) long ∙ ap (λ (b : Bool). if b then without_armed_of (without_armed c request) request more else c) some

none_armed : (c : ControlsState) (request : Nth) (r : Option Armed) → next_armed c request ≡ r → action_of r ≡ None → next_armed c request ≡ None
none_armed c request None is none = is
none_armed c request (Some a) is none = absurd cc

-- where none is armed, none is taken
pub none_taken : (c : ControlsState) (request : Nth) → action_of (next_armed c request) ≡ None → without_armed c request ≡ c
none_taken c request is = by (first_of_request c.armed request) refl where
  none : next_armed c request ≡ None
  none = none_armed c request (next_armed c request) refl is

  by : (r : Option Rank) → first_of_request c.armed request ≡ r → without_armed c request ≡ c
  by None first = ap (λ (a : Option Armed). drop_of (drop_armed c (first_of_request c.armed request)) a) none ∙ ap (drop_armed c) first
  by (Some r) first =
      let there : is_some (armed_at c (Some r)) ≡ true = (found_there request c.armed r first).1 in
      absurd (let t : true ≡ false = sym there ∙ ap is_some (sym (ap (armed_at c) first) ∙ none) in cc)

pub ends_taken : (c : ControlsState) (request : Nth) (left : ℕ) → action_of (next_armed c request) ≡ None → without_armed_of c request left ≡ c
ends_taken c request zero is = refl
ends_taken c request (suc more) is = ap (λ (r : Option Armed). if is_some r then without_armed_of (without_armed c request) request more else c) (none_armed c request (next_armed c request) refl is)

-- where none is armed any more, all that were are taken
pub all_taken : (start c after : ControlsState) (request : Nth) (left many : ℕ) → action_of (next_armed c request) ≡ None → after ≡ without_armed c request → without_armed_of c request left ≡ without_armed_of start request many
    → after ≡ without_armed_of start request many
all_taken start c after request left many is after_is so_far = after_is ∙ none_taken c request is ∙ sym (ends_taken c request left is) ∙ so_far

pub same_but : (start now : AgendaState) (x y : ControlsState) → now ≡ record start { owed = now.owed; controls = now.controls } → x ≡ y → record now { controls = x } ≡ record start { owed = now.owed; controls = y }
same_but start now x y kept is = ap (λ (a : AgendaState). record a { controls = x }) kept ∙ ap (λ (c : ControlsState). record start { owed = now.owed; controls = c }) is

-- ---- the inputs that go out

pub no_line : {T : Type 0} (lines new : List T) → new ≡ lines → new ≡ lines ++ []
no_line lines new same = same ∙ sym (append-nil lines)

pub fault_line : (lines new : List SentLine) (event brick : ℕ) (p : Proc) (number : ℕ) → is_armable brick (action.Fault brick p number) ≡ true → new ≡ lines ++ fault lines event brick p number ∷ [] → new ≡ lines ++ armed_line event (action.Fault brick p number)
fault_line lines new event brick p number may is = is ∙ ap (λ (b : Bool). lines ++ (if b then fault lines event brick p number ∷ [] else [])) (sym may)

pub no_fault_line : (lines new : List SentLine) (event brick : ℕ) (p : Proc) (number : ℕ) → is_armable brick (action.Fault brick p number) ≡ false → new ≡ lines → new ≡ lines ++ armed_line event (action.Fault brick p number)
no_fault_line lines new event brick p number may same = no_line lines new same ∙ ap (λ (b : Bool). lines ++ (if b then fault lines event brick p number ∷ [] else [])) (sym may)

armed_first : (event : ℕ) (r : Option Armed) (a : Action) (rest : List SentLine) → action_of r ≡ Some a → with_armed_line event r rest ≡ armed_line event a ++ rest
armed_first event None a rest is = absurd cc
armed_first event (Some x) a rest is = let e : x.action ≡ a = cc in ap (λ (y : Action). armed_line event y ++ rest) e

armed_none : (event : ℕ) (r : Option Armed) (rest : List SentLine) → action_of r ≡ None → with_armed_line event r rest ≡ []
armed_none event None rest is = refl
armed_none event (Some x) rest is = absurd cc

-- an armed action has gone out, and then the others
pub one_line : (event : ℕ) (request : Nth) (before now after all : List SentLine) (c : ControlsState) (a : Action) (more left : ℕ) → action_of (next_armed c request) ≡ Some a → left ≡ suc more → after ≡ now ++ armed_line event a
    → now ++ armed_lines event c request left ≡ all → after ++ armed_lines event (without_armed c request) request more ≡ all
one_line event request before now after all c a more left is long gone so_far =
    ap (λ (l : List SentLine). l ++ armed_lines event (without_armed c request) request more) gone
    ∙ append_assoc now (armed_line event a) (armed_lines event (without_armed c request) request more)
    ∙ ap (λ (l : List SentLine). now ++ l) (sym (ap (armed_lines event c request) long ∙ armed_first event (next_armed c request) a (armed_lines event (without_armed c request) request more) is))
    ∙ so_far

-- where none is armed any more, all have gone out
pub no_more_lines : (event : ℕ) (request : Nth) (now all : List SentLine) (c : ControlsState) (left : ℕ) → action_of (next_armed c request) ≡ None → now ++ armed_lines event c request left ≡ all → now ≡ all
no_more_lines event request now all c zero is so_far = sym (append-nil now) ∙ so_far
no_more_lines event request now all c (suc left) is so_far =
    sym (append-nil now) ∙ ap (λ (l : List SentLine). now ++ l) (sym (armed_none event (next_armed c request) (armed_lines event (without_armed c request) request left) is)) ∙ so_far

outgoing_push : (xs : List SentLine) (x : SentLine) (c : ControlsState) → outgoing c (xs ++ x ∷ []) ≡ outgoing c xs ++ (lines_before (controls_after c xs) x (rank_in x.bytes) ++ x ∷ [])
outgoing_push [] x c = refl
outgoing_push (y ∷ ys) x c =
    let before : List SentLine = lines_before c y (rank_in y.bytes) in
    let next : ControlsState = controls_by c y.brick (rank_in y.bytes) in
    ap (λ (l : List SentLine). before ++ y ∷ l) (outgoing_push ys x next)
    ∙ sym (append_assoc before (y ∷ outgoing next ys) (lines_before (controls_after next ys) x (rank_in x.bytes) ++ x ∷ []))

pub next_lines : (lines now after sent : List SentLine) (line : SentLine) (old c : ControlsState) → now ≡ lines ++ outgoing old sent → c ≡ controls_after old sent → after ≡ now ++ (lines_before c line (rank_in line.bytes) ++ line ∷ [])
    → after ≡ lines ++ outgoing old (sent ++ line ∷ [])
next_lines lines now after sent line old c so_far is gone =
    gone
    ∙ ap (λ (l : List SentLine). l ++ (lines_before c line (rank_in line.bytes) ++ line ∷ [])) so_far
    ∙ append_assoc lines (outgoing old sent) (lines_before c line (rank_in line.bytes) ++ line ∷ [])
    ∙ ap (λ (d : ControlsState). lines ++ (outgoing old sent ++ (lines_before d line (rank_in line.bytes) ++ line ∷ []))) is
    ∙ ap (λ (l : List SentLine). lines ++ l) (sym (outgoing_push sent line old))

pub next_controls : (sent : List SentLine) (line : SentLine) (old c after : ControlsState) → c ≡ controls_after old sent → after ≡ controls_by c line.brick (rank_in line.bytes) → after ≡ controls_after old (sent ++ line ∷ [])
next_controls sent line old c after so_far is = is ∙ ap (λ (d : ControlsState). controls_by d line.brick (rank_in line.bytes)) so_far ∙ sym (controls_push sent line old)

-- ---- all

pub all_sent : (old new : AgendaState) (lines : List SentLine) → new ≡ record old { owed = new.owed; controls = new.controls } → new.owed + owed_by [] ≡ old.owed + owed_by lines
    → ((c : ControlsState) → controls_after c [] ≡ old.controls → controls_after c lines ≡ new.controls) → new ≡ with_sends old lines
all_sent old new lines same owed controls =
    same
    ∙ ap (λ (n : ℕ). record old { owed = n; controls = new.controls }) (omega (arith, owed))
    ∙ ap (λ (c : ControlsState). record old { owed = old.owed + owed_by lines; controls = c }) (sym (controls old.controls refl))
