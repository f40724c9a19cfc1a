-- Where bytes stop being a message: at the first unit that continues no encoding of the units before it,
-- or, where the bytes end before that, at their end. The units before the place begin the encoding of a value
-- that is `Loose`: it has an encoding, but for the order of the names in its lists, which is open.
use Rattle.std.specs.Prelude.{◌≡◌, ℕ, ◌+◌, ◌<◌, ◌⊎◌, List, ◌++◌, length}
use Rattle.wire_xdr.specs.Xdr.{IsWhole}

-- some encoding begins with these bytes
pub record Starts {A : Type 0} (Legal : A → Type 0) (text : A → List ℕ) (prefix : List ℕ) : Type 0 where
  pub value : A
  pub legal : Legal value
  pub tail : List ℕ
  pub is : text value ≡ prefix ++ tail

-- the whole units before the place begin an encoding, and with the unit at the place they begin none
pub record StopsAt {A : Type 0} (Legal Loose : A → Type 0) (text : A → List ℕ) (bytes : List ℕ) (place : ℕ) : Type 0 where
  pub prefix : List ℕ
  pub quad : List ℕ
  pub after : List ℕ
  pub is : bytes ≡ prefix ++ (quad ++ after)
  pub place_is : length prefix ≡ place
  pub one_unit : length quad ≡ 4
  pub whole : IsWhole prefix
  pub starts : Starts Loose text prefix
  pub stops : Starts Legal text (prefix ++ quad) → ⊥

-- all whole units of the bytes begin an encoding, and the place is the length
pub record EndsAt {A : Type 0} (Loose : A → Type 0) (text : A → List ℕ) (bytes : List ℕ) (place : ℕ) : Type 0 where
  pub prefix : List ℕ
  pub cut : List ℕ
  pub is : bytes ≡ prefix ++ cut
  pub place_is : length bytes ≡ place
  pub few : length cut < 4
  pub whole : IsWhole prefix
  pub starts : Starts Loose text prefix
