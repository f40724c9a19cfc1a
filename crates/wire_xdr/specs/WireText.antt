-- The encoding of a brick's inputs and outputs, one for each value, as a union by the kind; which values
-- have one; and what a decoder may answer of some bytes.
use Rattle.std.specs.Prelude.{◌≡◌, ◌≢◌, ℕ, ◌≤◌, ◌⊎◌, Bool, true, false, List, [], ◌++◌, length, drop, Result, IfOk}
use Rattle.fop_types.specs.declared.messages.Proc.{Proc}
use Rattle.fop_types.specs.declared.messages.Proc.TheVariants as proc
use Rattle.fop_types.specs.declared.messages.Input.{Input}
use Rattle.fop_types.specs.declared.messages.Input.TheVariants as input
use Rattle.fop_types.specs.declared.messages.OutKind.{OutKind}
use Rattle.fop_types.specs.declared.messages.OutKind.TheVariants as out
use Rattle.fop_types.specs.declared.messages.Output.{Output}
use Rattle.wire_xdr.specs.declared.decoded.Decoded.{Decoded}
use Rattle.wire_xdr.specs.declared.decoded.Decoded.TheVariants.{Front, Bad}
use Rattle.wire_xdr.specs.Xdr.{unit, hyper, IsUnit, IsHyper}
use Rattle.wire_xdr.specs.MessageText.{req_text, IsReq, rep_text, IsRep}
use Rattle.wire_xdr.specs.Places.{StopsAt, EndsAt}

abbrev pub proc_number : Proc → ℕ
proc_number proc.Lock = 1
proc_number proc.Unlock = 2
proc_number proc.Mark = 3
proc_number proc.Op = 4
proc_number proc.Post = 5
proc_number proc.Fetch = 6
proc_number proc.Replace = 7
proc_number proc.Clear = 8
proc_number proc.Settle = 9
proc_number proc.Index = 10
proc_number proc.Open = 11
proc_number proc.Release = 12

abbrev pub input_kind : Input → ℕ
input_kind (input.Request wind graph req) = 0
input_kind (input.Down serve) = 1
input_kind input.Up = 2
input_kind (input.Connect graph version) = 3
input_kind (input.Disconnect graph) = 4
input_kind (input.FaultAt p number) = 5

abbrev pub input_arm : Input → List ℕ
input_arm (input.Request wind graph req) = hyper wind ++ (unit graph ++ req_text req)
input_arm (input.Down serve) = unit serve
input_arm input.Up = []
input_arm (input.Connect graph version) = unit graph ++ unit version
input_arm (input.Disconnect graph) = unit graph
input_arm (input.FaultAt p number) = unit (proc_number p) ++ unit number

abbrev pub input_text : Input → List ℕ
input_text x = unit (input_kind x) ++ input_arm x

abbrev pub IsInputOf : Bool → Input → Type 0
IsInputOf strict (input.Request wind graph req) = IsHyper wind × IsUnit graph × IsReq strict req
IsInputOf strict (input.Down serve) = IsUnit serve
IsInputOf strict input.Up = Unit {0}
IsInputOf strict (input.Connect graph version) = IsUnit graph × (version ≡ 1)
IsInputOf strict (input.Disconnect graph) = IsUnit graph
IsInputOf strict (input.FaultAt p number) = (proc_number p ≢ 2) × (1 ≤ number) × IsUnit number

-- an input that has an encoding
abbrev pub IsInput : Input → Type 0
IsInput x = IsInputOf true x

abbrev pub out_number : OutKind → ℕ
out_number (out.Reply wind rep) = 0
out_number out.Closed = 1
out_number out.Opened = 2
out_number (out.Connected graph version) = 3
out_number (out.Malformed place) = 4

abbrev pub out_arm : OutKind → List ℕ
out_arm (out.Reply wind rep) = hyper wind ++ rep_text rep
out_arm out.Closed = []
out_arm out.Opened = []
out_arm (out.Connected graph version) = unit graph ++ unit version
out_arm (out.Malformed place) = unit place

abbrev pub out_text : OutKind → List ℕ
out_text k = unit (out_number k) ++ out_arm k

abbrev pub IsOutKind : Bool → OutKind → Type 0
IsOutKind strict (out.Reply wind rep) = IsHyper wind × IsRep strict rep
IsOutKind strict out.Closed = Unit {0}
IsOutKind strict out.Opened = Unit {0}
IsOutKind strict (out.Connected graph version) = IsUnit graph × IsUnit version
IsOutKind strict (out.Malformed place) = IsUnit place

abbrev pub output_text : Output → List ℕ
output_text x = hyper x.taken ++ out_text x.kind

abbrev pub IsOutputOf : Bool → Output → Type 0
IsOutputOf strict x = IsHyper x.taken × IsOutKind strict x.kind

-- an output that has an encoding
abbrev pub IsOutput : Output → Type 0
IsOutput x = IsOutputOf true x

-- the bytes begin with the encoding of the value, which is `used` bytes long, and with no other encoding
pub record IsFront {A : Type 0} (Legal : A → Type 0) (text : A → List ℕ) (bytes : List ℕ) (value : A) (used : ℕ) : Type 0 where
  pub legal : Legal value
  pub encoded : bytes ≡ text value ++ drop used bytes
  pub used_is : used ≡ length (text value)
  pub only : (x : A) (rest : List ℕ) → Legal x → bytes ≡ text x ++ rest → x ≡ value

-- no encoding begins the bytes, and the place is where they stop being one
pub record IsBad {A : Type 0} (Legal Loose : A → Type 0) (text : A → List ℕ) (bytes : List ℕ) (place : ℕ) : Type 0 where
  pub none : (x : A) (rest : List ℕ) → Legal x → bytes ≢ text x ++ rest
  pub place_is : StopsAt Legal Loose text bytes place ⊎ EndsAt Loose text bytes place

-- what a decoder answers: Front where an encoding begins the bytes, and else Bad
abbrev pub IsDecoded : {A : Type 0} → (Bool → A → Type 0) → (A → List ℕ) → List ℕ → Decoded A → Type 0
IsDecoded Is text bytes (Front value used) = IsFront (Is true) text bytes value used
IsDecoded Is text bytes (Bad error) = IsBad (Is true) (Is false) text bytes error.place
