-- For which request a transaction waits: the one that its stage sends. Ours.
use Rattle.std.specs.Prelude.{◌≡◌, ◌⊎◌, ℕ, ◌<◌, true, List, [], ◌∷◌}
use Rattle.afr_machine.specs.Replicas.{Size}
use Rattle.afr_machine.specs.Requests.{Ask}
use Rattle.afr_machine.specs.Requests.Ask.{Lock, Unlock, Mark, Op, Post, Fetch, Replace, Clear, Settle, Index, Open, Release, OpenFirst}
use Rattle.afr_machine.specs.Transactions.{Stage, Txn}
use Rattle.afr_machine.specs.Transactions.Stage.{Over, Choosing, Locking, Locked, Marking, Applying, Posting, Settling, Bearing, Copying, Polling, Unlocking}
use Rattle.afr_machine.specs.States.{State}

abbrev pub IsCopying : Stage → Type 0
IsCopying (Copying run) = Unit {0}
IsCopying other = ⊥

abbrev pub IsSettling : ℕ → Stage → Type 0
IsSettling u (Settling change group adopts) = change ≡ u
IsSettling u other = ⊥

-- the request is one that this stage sends to the brick
abbrev pub Fits : Ask → Stage → ℕ → Type 0
Fits (Lock shared cells) stage k = stage ≡ Locking cells shared k
Fits Unlock stage k = stage ≡ Unlocking
Fits (Mark change cells) stage k = stage ≡ Marking change
Fits (Op change op) stage k = (stage ≡ Applying change) ⊎ (stage ≡ Bearing)
Fits (Post change cells accused) stage k = stage ≡ Posting change
Fits (Fetch cell) stage k = (stage ≡ Locked) ⊎ IsCopying stage
Fits (Replace cell found) stage k = IsCopying stage
Fits (Clear cells who) stage k = IsCopying stage
Fits (Settle change cells accused) stage k = IsSettling change stage
Fits Index stage k = stage ≡ Polling
Fits Open stage k = stage ≡ Polling
Fits Release stage k = ⊥
Fits OpenFirst stage k = ⊥

-- the last of the requests on their way fits; where none is, the connection has ended
abbrev pub LastFits : List Ask → Stage → ℕ → Type 0
LastFits [] stage k = Unit {0}
LastFits (ask ∷ []) stage k = Fits ask stage k
LastFits (ask ∷ (other ∷ others)) stage k = LastFits (other ∷ others) stage k

-- a stage in which an answer of this brick may be missing
abbrev pub MayWait : Stage → ℕ → Type 0
MayWait Over k = ⊥
MayWait Choosing k = ⊥
MayWait (Locking cells shared next) k = k ≡ next
MayWait other k = Unit {0}

pub record WaitsFor (size : Size) (x : Txn) (k : ℕ) : Type 0 where
  pub replica : k < size.replicas
  pub stage : MayWait x.stage k
  pub last : LastFits (x.flying k) x.stage k

abbrev pub WaitsFit : Size → Txn → Type 0
WaitsFit size x = (k : ℕ) → x.waits k ≡ true → WaitsFor size x k

abbrev pub EachWaitsFit : Size → State → Type 0
EachWaitsFit size m = (t : ℕ) → WaitsFit size (m.txns t)
