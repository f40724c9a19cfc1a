-- What bytes are as one message, as a function of the bytes; and what that says of the bytes.
use Rattle.std.specs.Prelude.{◌≡◌, ◌≢◌, ℕ, ◌≤◌, ◌==◌, ◌⊎◌, Bool, true, false, List, ◌++◌, length, if◌then◌else◌}
use Rattle.fop_types.specs.declared.messages.Input.{Input}
use Rattle.fop_types.specs.declared.messages.Output.{Output}
use Rattle.wire_xdr.specs.declared.decoded.Decoded.{Decoded}
use Rattle.wire_xdr.specs.declared.decoded.Decoded.TheVariants.{Front, Bad}
use Rattle.wire_xdr.specs.code.Decoding.{decoded_by}
use Rattle.wire_xdr.specs.Places.{StopsAt, EndsAt}
use Rattle.wire_xdr.specs.code.MessageParsers.{input_at, output_at}
use Rattle.wire_xdr.specs.WireText.{input_text, IsInput, output_text, IsOutput}
use Rattle.wire_messages.specs.declared.messages.Message.{Message}
use Rattle.wire_messages.specs.declared.messages.Message.TheVariants.{Whole, Wrong}

-- a value that begins this many bytes is the whole of them where its encoding is as long as they are; else
-- they stop being a message where it ends
abbrev pub message_of : {A : Type 0} → ℕ → Decoded A → Message A
message_of whole (Front value used) = if used == whole then Whole value else Wrong used
message_of whole (Bad error) = Wrong error.place

-- the input or the output that the bytes are
unfoldable pub input_in : List ℕ → Message Input
input_in bytes = message_of (length bytes) (decoded_by (length bytes) (input_at bytes))

unfoldable pub output_in : List ℕ → Message Output
output_in bytes = message_of (length bytes) (decoded_by (length bytes) (output_at bytes))

-- the place is the end of an encoding that has bytes after it
pub record GoesOnAt {A : Type 0} (Legal : A → Type 0) (text : A → List ℕ) (bytes : List ℕ) (place : ℕ) : Type 0 where
  pub value : A
  pub legal : Legal value
  pub after : List ℕ
  pub is : bytes ≡ text value ++ after
  pub more : 1 ≤ length after
  pub place_is : length (text value) ≡ place

-- the bytes are no encoding, and the place is where they stop being one
pub record IsWrong {A : Type 0} (Legal Loose : A → Type 0) (text : A → List ℕ) (bytes : List ℕ) (place : ℕ) : Type 0 where
  pub none : (x : A) → Legal x → bytes ≢ text x
  pub place_is : (StopsAt Legal Loose text bytes place ⊎ EndsAt Loose text bytes place) ⊎ GoesOnAt Legal text bytes place

-- what an answer says of the bytes: they are the encoding of its value, or none
abbrev pub IsSaid : {A : Type 0} → (Bool → A → Type 0) → (A → List ℕ) → List ℕ → Message A → Type 0
IsSaid Is text bytes (Whole value) = Is true value × (bytes ≡ text value)
IsSaid Is text bytes (Wrong place) = IsWrong (Is true) (Is false) text bytes place

-- each value that has an encoding is read back from it, and what is read as a value is its encoding
abbrev pub IsReadBack : {A : Type 0} → (A → Type 0) → (A → List ℕ) → (List ℕ → Message A) → Type 0
IsReadBack {A = A} Legal text read =
    ((x : A) → Legal x → read (text x) ≡ Whole x) × ((bytes : List ℕ) (x : A) → read bytes ≡ Whole x → Legal x × (bytes ≡ text x))

abbrev pub MessagesReadBack : Type 0
MessagesReadBack = IsReadBack IsInput input_text input_in × IsReadBack IsOutput output_text output_in
