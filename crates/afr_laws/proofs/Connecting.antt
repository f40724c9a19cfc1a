-- Requests of the open connection stand behind the last control of their graph.
use Rattle.std.proofs.Common.{◌≡◌, ◌∙◌, ℕ, Bool, true, false, refl, sym, ap, subst}
use Rattle.std.specs.Prelude.{if◌then◌else◌, List, [], ◌∷◌, ◌++◌, ◌||◌, ◌==◌, not}
use Rattle.std.proofs.lemmas.Bool.{eq-eqb}
use Rattle.afr_machine.specs.Replicas.{with_at}
use Rattle.afr_machine.specs.Requests.Ask.{Lock}
use Rattle.afr_machine.specs.Requests.{Sender, Ask, Control, Input, Output}
use Rattle.afr_machine.specs.Requests.Input.{Asked, Steered}
use Rattle.afr_machine.specs.Requests.Answer.{Gone}
use Rattle.afr_machine.specs.Requests.Output.{Answered, Closed, Opened, Connected}
use Rattle.afr_machine.specs.Locks.{BrickLock, conflicts_among}
use Rattle.afr_machine.specs.Bricks.{Brick, Power, grants_of, locked, without_graph, served_up, served_by, less_late, is_up, steered}
use Rattle.afr_machine.specs.Bricks.Power.{IsUp, IsDown}
use Rattle.afr_machine.specs.States.{Link}
use Rattle.afr_machine.specs.Moves.{BrickMove}
use Rattle.afr_machine.specs.Moves.BrickMove.{Stays, Takes, Hands, Serves, Refuses, GivesUp, Steers}
use Rattle.afr_laws.specs.Senders.{EachInput, EachOutput, EachAt, Each}
use Rattle.afr_laws.specs.Connections.{is_control_of, has_control, IsOrdered, IsEarlier, ConnectsFirst}
use Rattle.afr_laws.proofs.Senders.{answering_each, served_each, steered_each}

pub or_true : (a b : Bool) → b ≡ true → (a || b) ≡ true
or_true true b e = refl
or_true false b e = e

or_assoc : (a b c : Bool) → ((a || b) || c) ≡ (a || (b || c))
or_assoc true b c = refl
or_assoc false b c = refl

pub has_append : (g : ℕ) (xs ys : List Input) → has_control g (xs ++ ys) ≡ (has_control g xs || has_control g ys)
has_append g [] ys = refl
has_append g (Asked by ask ∷ xs) ys = has_append g xs ys
has_append g (Steered control ∷ xs) ys = ap (λ b. is_control_of g control || b) (has_append g xs ys) ∙ sym (or_assoc (is_control_of g control) (has_control g xs) (has_control g ys))

or_none : (b : Bool) → (b || false) ≡ b
or_none true = refl
or_none false = refl

-- inputs without a control of the graph at the end of a line
ordered_more : (g : ℕ) (link : Link) (xs ys : List Input) → has_control g ys ≡ false → IsOrdered g link ys → IsOrdered g link xs → IsOrdered g link (xs ++ ys)
ordered_more g link [] ys none q p = q
ordered_more g link (Asked by ask ∷ xs) ys none q p = (λ of. p.0 of ∙ ap not (sym (has_append g xs ys ∙ ap (λ b. has_control g xs || b) none ∙ or_none (has_control g xs))), ordered_more g link xs ys none q p.1)
ordered_more g link (Steered control ∷ xs) ys none q p = ordered_more g link xs ys none q p

-- ---- one move, the connection as it is

module _ (g : ℕ) (link : Link) where
  of_places : (b : Brick) → IsOrdered g link b.line → (has_control g b.line ≡ true → EachAt (IsEarlier g link) (λ is. Unit {0}) b) → ConnectsFirst g link b
  of_places b line places = record { line = line; held = λ h. (places h).held; waiting = λ h. (places h).waiting; outputs = λ h. (places h).outputs }

  places_of : (b : Brick) → ConnectsFirst g link b → has_control g b.line ≡ true → EachAt (IsEarlier g link) (λ is. Unit {0}) b
  places_of b c h = record { held = c.held h; waiting = c.waiting h; line = tt; outputs = c.outputs h }

  -- at the front of the line, with a control behind it
  front_earlier : (by : Sender) (ask : Ask) (rest : List Input) → IsOrdered g link (Asked by ask ∷ rest) → has_control g rest ≡ true → IsEarlier g link by ask
  front_earlier by ask rest p h of = p.0 of ∙ ap not h

  module _ (old new : Brick) (by : Sender) (ask : Ask) (rest : List Input) (front : old.line ≡ Asked by ask ∷ rest) (c : ConnectsFirst g link old) where
    lined : IsOrdered g link (Asked by ask ∷ rest)
    lined = subst (IsOrdered g link) front c.line

    before : has_control g rest ≡ true → EachAt (IsEarlier g link) (λ is. Unit {0}) (record old { line = rest })
    before h = let p = places_of old c (ap (has_control g) front ∙ h) in record { held = p.held; waiting = p.waiting; line = tt; outputs = p.outputs }

    -- what the front becomes leaves the rest of the line, and puts its sender in another place
    worked : (rest_is : new.line ≡ rest) → ((EachAt (IsEarlier g link) (λ is. Unit {0}) (record old { line = rest })) → IsEarlier g link by ask → EachAt (IsEarlier g link) (λ is. Unit {0}) new) → ConnectsFirst g link new
    worked rest_is places = of_places new (subst (IsOrdered g link) (sym rest_is) lined.1) (λ h. let h' = sym (ap (has_control g) rest_is) ∙ h in places (before h') (front_earlier by ask rest lined h'))

-- ---- the rest of the line stays

pub steered_line : (control : Control) (b : Brick) → (steered control b).line ≡ b.line
steered_line (Control.Down late) b = refl
steered_line Control.Up b = refl
steered_line (Control.Connect h) b = by_case (is_up b.power) where
  by_case : (u : Bool) → (if u then (let c = without_graph h b in record c { connected = with_at c.connected h true; outputs = c.outputs ++ Connected h ∷ [] }) else b).line ≡ b.line
  by_case true = refl
  by_case false = refl
steered_line (Control.Disconnect h) b = refl

locked_line : (lock : BrickLock) (b : Brick) → (locked lock b).line ≡ b.line
locked_line lock b = by_case (conflicts_among (b.held ++ b.waiting) lock) where
  by_case : (c : Bool) → (if c then record b { waiting = b.waiting ++ lock ∷ [] } else record b { held = b.held ++ lock ∷ []; outputs = b.outputs ++ grants_of b.store (lock ∷ []) }).line ≡ b.line
  by_case true = refl
  by_case false = refl

served_up_line : (by : Sender) (ask : Ask) (b : Brick) → (served_up by ask b).line ≡ b.line
served_up_line by (Lock shared cells) b = locked_line (record { by = by; shared = shared; cells = cells }) b
served_up_line by other b = refl

pub served_line : (power : Power) (by : Sender) (ask : Ask) (b : Brick) → (served_by power by ask b).line ≡ b.line
served_line IsUp by ask b = served_up_line by ask b
served_line (IsDown late were) by ask b = refl

-- ---- each move

module _ (g : ℕ) (link : Link) (may : List Input → Type 0) (old new : Brick) (c : ConnectsFirst g link old)
    (inputs_are : (inputs : List Input) → may inputs → (has_control g inputs ≡ false) × IsOrdered g link inputs) where
  pub move_connects : BrickMove may old new → ConnectsFirst g link new
  move_connects (Stays is) = subst (ConnectsFirst g link) (sym is) c
  move_connects (Takes inputs its is) =
      let i = inputs_are inputs its in
      let same : has_control g (old.line ++ inputs) ≡ has_control g old.line = has_append g old.line inputs ∙ ap (λ b. has_control g old.line || b) i.0 ∙ or_none (has_control g old.line) in
      subst (ConnectsFirst g link) (sym is)
      (record { line = ordered_more g link old.line inputs i.0 i.1 c.line; held = λ h. c.held (sym same ∙ h); waiting = λ h. c.waiting (sym same ∙ h); outputs = λ h. c.outputs (sym same ∙ h) })
  move_connects (Hands first rest front is) =
      subst (ConnectsFirst g link) (sym is) (record { line = c.line; held = c.held; waiting = c.waiting; outputs = λ h. tail first rest (subst (EachOutput (IsEarlier g link)) front (c.outputs h)) })
    where
      tail : (o : Output) (os : List Output) → EachOutput (IsEarlier g link) (o ∷ os) → EachOutput (IsEarlier g link) os
      tail (Answered by ask answer) os p = p.1
      tail Closed os p = p
      tail Opened os p = p
      tail (Connected graph) os p = p
  move_connects (Serves by ask rest front served is) =
      worked g link old new by ask rest front c (ap (λ (b : Brick). b.line) is ∙ served_line old.power by ask (record old { line = rest }))
      (λ places earlier. subst (EachAt (IsEarlier g link) (λ is. Unit {0})) (sym is) (served_each (IsEarlier g link) (λ is. Unit {0}) old.power by ask (record old { line = rest }) earlier places))
  move_connects (Refuses by ask answer rest front refusable refusal is) =
      worked g link old new by ask rest front c (ap (λ (b : Brick). b.line) is)
      (λ places earlier. subst (EachAt (IsEarlier g link) (λ is. Unit {0})) (sym is) (answering_each (IsEarlier g link) (λ is. Unit {0}) by ask answer (record old { line = rest; power = less_late old.power }) earlier (record { held = places.held; waiting = places.waiting; line = tt; outputs = places.outputs })))
  move_connects (GivesUp by ask rest front served is) =
      worked g link old new by ask rest front c (ap (λ (b : Brick). b.line) is)
      (λ places earlier. subst (EachAt (IsEarlier g link) (λ is. Unit {0})) (sym is) (answering_each (IsEarlier g link) (λ is. Unit {0}) by ask Gone (record old { line = rest }) earlier places))
  move_connects (Steers control rest front is) =
      let line_is : new.line ≡ rest = ap (λ (b : Brick). b.line) is ∙ steered_line control (record old { line = rest }) in
      of_places g link new (subst (IsOrdered g link) (sym line_is) (subst (IsOrdered g link) front c.line))
      (λ h.
      let h' : has_control g rest ≡ true = sym (ap (has_control g) line_is) ∙ h in
      let p = places_of g link old c (ap (has_control g) front ∙ or_true (is_control_of g control) (has_control g rest) h') in
      subst (EachAt (IsEarlier g link) (λ is. Unit {0})) (sym is) (steered_each (IsEarlier g link) (λ is. Unit {0}) control (record old { line = rest }) (record { held = p.held; waiting = p.waiting; line = tt; outputs = p.outputs })))

-- ---- a connection that has just been opened

all_earlier : (g : ℕ) (link : Link) (line : List Input) → EachInput (IsEarlier g link) line → IsOrdered g link (line ++ Steered (Control.Connect g) ∷ [])
all_earlier g link [] p = tt
all_earlier g link (Asked by ask ∷ is) p =
    (λ of. p.0 of ∙ ap not (sym (has_append g is (Steered (Control.Connect g) ∷ []) ∙ or_true (has_control g is) ((g == g) || false) (or_none (g == g) ∙ eq-eqb g g refl))), all_earlier g link is p.1)
all_earlier g link (Steered control ∷ is) p = all_earlier g link is p

pub opened_connects : (g : ℕ) (link : Link) (b : Brick) → Each (IsEarlier g link) b → ConnectsFirst g link (record b { line = b.line ++ Steered (Control.Connect g) ∷ [] })
opened_connects g link b e = record { line = all_earlier g link b.line e.line; held = λ h. e.held; waiting = λ h. e.waiting; outputs = λ h. e.outputs }
