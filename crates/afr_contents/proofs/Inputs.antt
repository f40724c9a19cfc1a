-- What holds of each request in a line.
use Rattle.std.proofs.Common.{sym, subst}
use Rattle.std.specs.Prelude.{List, [], ◌∷◌}
use Rattle.afr_machine.specs.Requests.{Sender, Ask, Input}
use Rattle.afr_machine.specs.Requests.Input.{Asked, Steered}
use Rattle.afr_machine.specs.Bricks.{Brick}
use Rattle.afr_machine.specs.Moves.{BrickMove}
use Rattle.afr_machine.specs.Moves.BrickMove.{Stays, Takes, Hands, Serves, Refuses, GivesUp, Steers}
use Rattle.afr_laws.specs.Senders.{EachInput}
use Rattle.afr_laws.proofs.Connecting.{served_line, steered_line}
use Rattle.afr_laws.proofs.Senders.{inputs_append}
use Rattle.afr_soundness.proofs.Copied.Lines.{each_both}

pub each_all : {A : Type 0} → (P : A → Sender → Ask → Type 0) → (line : List Input) → ((x : A) → EachInput (P x) line) → EachInput (λ by ask. (x : A) → P x by ask) line
each_all P [] h = tt
each_all P (Asked by ask ∷ is) h = (λ x. (h x).0, each_all P is (λ x. (h x).1))
each_all P (Steered control ∷ is) h = each_all P is h

pub each_so : (P : Sender → Ask → Type 0) → ((by : Sender) (ask : Ask) → P by ask) → (line : List Input) → EachInput P line
each_so P f [] = tt
each_so P f (Asked by ask ∷ is) = (f by ask, each_so P f is)
each_so P f (Steered control ∷ is) = each_so P f is

abbrev pub Both : (Sender → Ask → Type 0) → (Sender → Ask → Type 0) → Sender → Ask → Type 0
Both P Q by ask = P by ask × Q by ask

pub both_each : (P Q : Sender → Ask → Type 0) (line : List Input) → EachInput P line → EachInput Q line → EachInput (Both P Q) line
both_each P Q line p q = each_both P Q (Both P Q) (λ by ask a b. (a, b)) line p q

-- the line after a move
pub line_each : (P : Sender → Ask → Type 0) (may : List Input → Type 0) (old new : Brick) → BrickMove may old new → ((inputs : List Input) → may inputs → EachInput P inputs) → EachInput P old.line → EachInput P new.line
line_each P may old new (Stays is) taken h = subst (λ (b : Brick). EachInput P b.line) (sym is) h
line_each P may old new (Takes inputs its is) taken h = subst (λ (b : Brick). EachInput P b.line) (sym is) (inputs_append P old.line inputs h (taken inputs its))
line_each P may old new (Hands first rest front is) taken h = subst (λ (b : Brick). EachInput P b.line) (sym is) h
line_each P may old new (Serves by ask rest front would is) taken h = subst (λ (b : Brick). EachInput P b.line) (sym is) (subst (EachInput P) (sym (served_line old.power by ask (record old { line = rest }))) (subst (EachInput P) front h).1)
line_each P may old new (Refuses by ask answer rest front may_be refusal is) taken h = subst (λ (b : Brick). EachInput P b.line) (sym is) (subst (EachInput P) front h).1
line_each P may old new (GivesUp by ask rest front would is) taken h = subst (λ (b : Brick). EachInput P b.line) (sym is) (subst (EachInput P) front h).1
line_each P may old new (Steers control rest front is) taken h = subst (λ (b : Brick). EachInput P b.line) (sym is) (subst (EachInput P) (sym (steered_line control (record old { line = rest }))) (subst (EachInput P) front h))
