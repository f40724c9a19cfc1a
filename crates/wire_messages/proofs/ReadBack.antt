-- An encoding is read as its value alone, and what is read as a value is its encoding.
use Rattle.std.proofs.Common.{inl, inr, ◌≡◌, ◌≢◌, ◌<◌, ◌≤◌, ◌∷◌, ◌∙◌, ◌++◌, ◌+◌, ◌-◌, ◌^◌, ◌==◌, min, ℕ, Bool, true, false, true≢false, sym, refl, ap, subst, List, [], length, drop, arith, append-nil, length-append, Result, Ok, Err, if◌then◌else◌}
use Rattle.std.proofs.lemmas.Bool.{eqb-true, eqb-false, eq-eqb}
use Rattle.std.proofs.lemmas.List.{nil_from_length}
use Rattle.fop_types.specs.declared.messages.Input.{Input}
use Rattle.fop_types.specs.declared.messages.Output.{Output}
use Rattle.wire_xdr.specs.declared.decode.faults.Fault.{Fault}
use Rattle.wire_xdr.specs.declared.decode.faults.Fault.TheVariants as fault
use Rattle.wire_xdr.specs.declared.decoded.Decoded.{Decoded}
use Rattle.wire_xdr.specs.declared.decoded.Decoded.TheVariants.{Front, Bad}
use Rattle.wire_xdr.specs.code.Decoding.{decoded_by}
use Rattle.wire_xdr.specs.code.Parsers.{Parser}
use Rattle.wire_xdr.specs.code.MessageParsers.{input_at, output_at}
use Rattle.wire_xdr.specs.WireText.{input_text, IsInputOf, IsInput, output_text, IsOutputOf, IsOutput, IsDecoded}
use Rattle.wire_xdr.proofs.Laws.{IsLaw}
use Rattle.wire_xdr.proofs.QuadLaws.{Says}
use Rattle.wire_xdr.proofs.InputLaws.{input_law}
use Rattle.wire_xdr.proofs.ReplyLaws.{output_law}
use Rattle.wire_messages.specs.declared.messages.Message.{Message}
use Rattle.wire_messages.specs.declared.messages.Message.TheVariants.{Whole, Wrong}
use Rattle.wire_messages.specs.Messages.{message_of, input_in, output_in, IsSaid, MessagesReadBack}

abbrev is_whole : {A : Type 0} → Message A → Bool
is_whole (Whole x) = true
is_whole (Wrong place) = false

abbrev value_or : {A : Type 0} → A → Message A → A
value_or x (Whole y) = y
value_or x (Wrong place) = x

whole_of : {A : Type 0} (n used : ℕ) (x : A) → used ≡ n → message_of n (Front x used) ≡ Whole x
whole_of n used x same = ap (λ (b : Bool). if b then Whole x else Wrong used) (eq-eqb used n same)

whole_at : {A : Type 0} (n used : ℕ) (x y : A) → message_of n (Front y used) ≡ Whole x → (used ≡ n) × (y ≡ x)
whole_at n used x y is = by_case (used == n) refl
  where
    by_case : (b : Bool) → (used == n) ≡ b → (used ≡ n) × (y ≡ x)
    by_case true e =
        let made : Whole y ≡ Whole x = sym (ap (λ (c : Bool). if c then Whole y else Wrong used) e) ∙ is in
        (eqb-true used n e, ap (value_or x) made)
    by_case false e =
        let made : Wrong used ≡ Whole x = sym (ap (λ (c : Bool). if c then Whole y else Wrong used) e) ∙ is in
        absurd (true≢false (sym (ap is_whole made)))

module _ {A : Type 0} (F : Bool → A → Type 0) (text : A → List ℕ) (m : ℕ) (read : Parser A) (law : IsLaw m (Says F text) read) (small : m < 2 ^ 32) where
  read_back : (x : A) → F true x → message_of (length (text x)) (decoded_by (length (text x)) (read (text x))) ≡ Whole x
  read_back x legal =
      let said : Says F text true x (text x) = record { legal = legal; is = refl } in
      let took : read (text x) ≡ Ok (x, []) = ap read (sym (append-nil (text x))) ∙ law.takes x (text x) [] said in
      let fits : length (text x) ≤ m = law.fits x (text x) (law.loose x (text x) said) in
      let used : min (length (text x) - 0) 4294967295 ≡ length (text x) = omega (arith, fits, small) in
      ap (λ (r : Result (A × List ℕ) Fault). message_of (length (text x)) (decoded_by (length (text x)) r)) took
      ∙ whole_of (length (text x)) (min (length (text x) - 0) 4294967295) x used

  encoded_by : (bytes : List ℕ) (x : A) (r : Result (A × List ℕ) Fault) → read bytes ≡ r → message_of (length bytes) (decoded_by (length bytes) r) ≡ Whole x → F true x × (bytes ≡ text x)
  encoded_by bytes x (Ok (y, rest)) e is =
      let w = whole_at (length bytes) (min (length bytes - length rest) 4294967295) x y is in
      let a = law.again bytes rest y e in
      let s : length bytes ≡ length a.text + length rest = ap length a.is ∙ length-append a.text rest in
      let fits : length a.text ≤ m = law.fits y a.text (law.loose y a.text a.said) in
      let none : rest ≡ [] = nil_from_length rest (omega (arith, w.0, s, fits, small)) in
      let encoded : bytes ≡ text y = a.is ∙ ap (λ (l : List ℕ). a.text ++ l) none ∙ append-nil a.text ∙ a.said.is in
      (subst (F true) w.1 a.said.legal, encoded ∙ ap text w.1)
  encoded_by bytes x (Err (fault.Wrong left)) e is = absurd (true≢false (sym (ap is_whole is)))
  encoded_by bytes x (Err fault.Short) e is = absurd (true≢false (sym (ap is_whole is)))
  encoded_by bytes x (Err (fault.Memory error)) e is = absurd (true≢false (sym (ap is_whole is)))

  encoded : (bytes : List ℕ) (x : A) → message_of (length bytes) (decoded_by (length bytes) (read bytes)) ≡ Whole x → F true x × (bytes ≡ text x)
  encoded bytes x is = encoded_by bytes x (read bytes) refl is

-- the two kinds of message
pub input_read_back : (x : Input) → IsInput x → input_in (input_text x) ≡ Whole x
unfolding input_in
input_read_back x legal = read_back IsInputOf input_text 500000004 input_at input_law (omega arith) x legal

pub input_is_encoded : (bytes : List ℕ) (x : Input) → input_in bytes ≡ Whole x → IsInput x × (bytes ≡ input_text x)
unfolding input_in
input_is_encoded bytes x is = encoded IsInputOf input_text 500000004 input_at input_law (omega arith) bytes x is

pub output_read_back : (x : Output) → IsOutput x → output_in (output_text x) ≡ Whole x
unfolding output_in
output_read_back x legal = read_back IsOutputOf output_text 600000012 output_at output_law (omega arith) x legal

pub output_is_encoded : (bytes : List ℕ) (x : Output) → output_in bytes ≡ Whole x → IsOutput x × (bytes ≡ output_text x)
unfolding output_in
output_is_encoded bytes x is = encoded IsOutputOf output_text 600000012 output_at output_law (omega arith) bytes x is

pub messages_are_read_back : MessagesReadBack
messages_are_read_back = ((input_read_back, input_is_encoded), (output_read_back, output_is_encoded))

-- what a decoder's answer says of all the bytes
longer : {A : Type 0} (text : A → List ℕ) (bytes : List ℕ) (value : A) (used : ℕ) → bytes ≡ text value ++ drop used bytes → used ≡ length (text value) → used ≢ length bytes → 1 ≤ length (drop used bytes)
longer text bytes value used is size other = by_length (drop used bytes) is
  where
    by_length : (rest : List ℕ) → bytes ≡ text value ++ rest → 1 ≤ length rest
    by_length [] e = absurd (other (size ∙ sym (ap length (e ∙ append-nil (text value)))))
    by_length (b ∷ rest) e = omega arith

pub message_says : {A : Type 0} (Is : Bool → A → Type 0) (text : A → List ℕ) (bytes : List ℕ) (d : Decoded A) → IsDecoded Is text bytes d → IsSaid Is text bytes (message_of (length bytes) d)
message_says Is text bytes (Front value used) f = by_case (used == length bytes) refl
  where
    by_case : (b : Bool) → (used == length bytes) ≡ b → IsSaid Is text bytes (message_of (length bytes) (Front value used))
    by_case true e =
        let all : drop used bytes ≡ [] = none_after (drop used bytes) f.encoded in
        rw e (f.legal, f.encoded ∙ ap (λ (l : List ℕ). text value ++ l) all ∙ append-nil (text value))
      where
        none_after : (rest : List ℕ) → bytes ≡ text value ++ rest → rest ≡ []
        none_after rest is =
            let s : length bytes ≡ length (text value) + length rest = ap length is ∙ length-append (text value) rest in
            nil_from_length rest (omega (arith, s, eqb-true used (length bytes) e, f.used_is))
    by_case false e =
        let other : used ≢ length bytes = eqb-false used (length bytes) e in
        rw e (record {
          none = λ x h is. other (f.used_is ∙ ap (λ (y : _). length (text y)) (sym (f.only x [] h (is ∙ sym (append-nil (text x))))) ∙ sym (ap length is));
          place_is = inr (record { value = value; legal = f.legal; after = drop used bytes; is = f.encoded; more = longer text bytes value used f.encoded f.used_is other; place_is = sym f.used_is });
        })
message_says Is text bytes (Bad error) f = record { none = λ x h is. f.none x [] h (is ∙ sym (append-nil (text x))); place_is = inl f.place_is }
