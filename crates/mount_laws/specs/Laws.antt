-- What every state of the mount keeps that allowed steps lead to. Ours.
use Rattle.std.specs.Prelude.{ℕ, List}
use Rattle.mount_laws.specs.Answering.{AnsweredByEntry}
use Rattle.mount_laws.specs.Births.{OneBirth, UnconfirmedIsBorn, DrawnIsFree, CopiesStand}
use Rattle.mount_laws.specs.Effects.{EffectIsOwn, PartsInOrder, EnteredOnce, AdoptedIsEntered}
use Rattle.mount_laws.specs.Graphs.{BeyondOld, InItsGraph}
use Rattle.mount_laws.specs.Guards.{IsReached}
use Rattle.mount_laws.specs.Holding.{HoldsApart, HoldsOwn, JobAsked, HoldCovers}
use Rattle.mount_laws.specs.Homes.{JobHome, ChangedAtHome}
use Rattle.mount_laws.specs.Layouts.{LayoutStands}
use Rattle.mount_laws.specs.Objects.{DrawnApart, MadeByChange, NamesAreMade, HandedIsMade, ObjectsMade}
use Rattle.mount_laws.specs.Places.{PlacesFixed}
use Rattle.mount_laws.specs.Seeing.{SettledIsListed, SawStill}
use Rattle.mount_laws.specs.Settling.{OneUnsettled, EachStandsBeside, RunningIsAlone, OwnDecided, SettlingEnds, BirthsApart, ReadIsAdopted, AreWhole, TouchedIsFirm, FirmIsPresent}
use Rattle.mount_laws.specs.States.{State}

-- of every mount, whatever the sets of its first graph
abbrev pub EveryState : (State → Type 0) → Type 0
EveryState Fact = (first : List (List ℕ)) (m : State) → IsReached first m → Fact m

pub record KeepsHolds (m : State) : Type 0 where
  pub apart : HoldsApart m
  pub own : HoldsOwn m
  pub asked : JobAsked m
  pub covers : HoldCovers m

pub record KeepsSettled (m : State) : Type 0 where
  pub beside : EachStandsBeside m
  pub one : OneUnsettled m
  pub alone : RunningIsAlone m
  pub own : OwnDecided m
  pub ends : SettlingEnds m
  pub births : BirthsApart m

pub record KeepsSights (m : State) : Type 0 where
  pub saw : SawStill m
  pub adopted : ReadIsAdopted m
  pub rested : SettledIsListed m
  pub whole : AreWhole m
  pub firm : TouchedIsFirm m

pub record KeepsGraphs (m : State) : Type 0 where
  pub in_its_graph : InItsGraph m
  pub beyond : BeyondOld m

pub record KeepsEffects (m : State) : Type 0 where
  pub own : EffectIsOwn m
  pub order : PartsInOrder m
  pub entered : EnteredOnce m
  pub adopted : AdoptedIsEntered m

pub record KeepsObjects (m : State) : Type 0 where
  pub drawn : DrawnApart m
  pub made : MadeByChange m
  pub names : NamesAreMade m
  pub handed : HandedIsMade m
  pub objects : ObjectsMade m

pub record KeepsHomes (m : State) : Type 0 where
  pub jobs : JobHome m
  pub changes : ChangedAtHome m

pub record KeepsAnswers (m : State) : Type 0 where
  pub changed : AnsweredByEntry m
  pub places : PlacesFixed m

pub record KeepsBirths (m : State) : Type 0 where
  pub drawn : DrawnIsFree m
  pub once : OneBirth m
  pub unconfirmed : UnconfirmedIsBorn m
  pub copies : CopiesStand m

abbrev pub EveryStateKeepsHolds : Type 0
EveryStateKeepsHolds = EveryState KeepsHolds

abbrev pub EveryStateKeepsSettled : Type 0
EveryStateKeepsSettled = EveryState KeepsSettled

abbrev pub EveryStateKeepsSights : Type 0
EveryStateKeepsSights = EveryState KeepsSights

abbrev pub EveryStateKeepsGraphs : Type 0
EveryStateKeepsGraphs = EveryState KeepsGraphs

abbrev pub EveryStateKeepsEffects : Type 0
EveryStateKeepsEffects = EveryState KeepsEffects

abbrev pub EveryStateKeepsObjects : Type 0
EveryStateKeepsObjects = EveryState KeepsObjects

abbrev pub EveryStateKeepsPresence : Type 0
EveryStateKeepsPresence = EveryState FirmIsPresent

abbrev pub EveryStateKeepsHomes : Type 0
EveryStateKeepsHomes = EveryState KeepsHomes

abbrev pub EveryStateKeepsAnswers : Type 0
EveryStateKeepsAnswers = EveryState KeepsAnswers

abbrev pub EveryStateKeepsBirths : Type 0
EveryStateKeepsBirths = EveryState KeepsBirths

abbrev pub EveryStateKeepsLayouts : Type 0
EveryStateKeepsLayouts = EveryState LayoutStands
