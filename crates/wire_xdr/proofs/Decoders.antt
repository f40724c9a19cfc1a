-- What a decoder answers, from what its reader gives.
use Rattle.std.proofs.Common.{inl, inr, ◌≡◌, ◌≢◌, ◌<◌, ◌≤◌, ◌∷◌, ◌∙◌, ◌++◌, ◌+◌, ◌-◌, ◌^◌, ◌⊎◌, min, ℕ, suc, zero, Bool, true, false, sym, refl, ap, ap₂, subst, List, [], length, drop, arith, append_assoc, append-nil, length-append, Result, Ok, Err, Bor}
use Rattle.fop_types.specs.declared.messages.Input.{Input}
use Rattle.fop_types.specs.declared.messages.Output.{Output}
use Rattle.wire_xdr.specs.declared.decode.faults.Fault.{Fault}
use Rattle.wire_xdr.specs.declared.decode.faults.Fault.TheVariants.{Wrong, Short, Memory}
use Rattle.wire_xdr.specs.Xdr.{IsWhole}
use Rattle.wire_xdr.specs.code.Parsers.{Parser, Gives}
use Rattle.wire_xdr.specs.Places.{Starts, StopsAt, EndsAt}
use Rattle.wire_xdr.specs.declared.decoded.Decoded.{Decoded}
use Rattle.wire_xdr.specs.declared.decoded.Decoded.TheVariants.{Front, Bad}
use Rattle.wire_xdr.specs.code.Decoding.{decoded_by}
use Rattle.wire_xdr.specs.WireText.{input_text, IsInputOf, output_text, IsOutputOf, IsFront, IsBad}
use Rattle.wire_xdr.specs.code.MessageParsers.{input_at, output_at}
use Rattle.wire_xdr.proofs.Lists.{heads}
use Rattle.wire_xdr.proofs.Laws.{Begins, IsLaw, no_value, no_fault, same_value}
use Rattle.wire_xdr.proofs.QuadLaws.{Says}
use Rattle.wire_xdr.proofs.InputLaws.{input_law}
use Rattle.wire_xdr.proofs.ReplyLaws.{output_law}

drop_prefix : (t rest : List ℕ) → drop (length t) (t ++ rest) ≡ rest
drop_prefix [] rest = refl
drop_prefix (b ∷ t) rest = drop_prefix t rest

starts_of : {A : Type 0} {F : Bool → A → Type 0} {text : A → List ℕ} (o : Bool) (prefix : List ℕ) → Begins (Says F text o) prefix → Starts (F o) text prefix
starts_of o prefix b = record { value = b.value; legal = b.said.legal; tail = b.tail; is = sym b.said.is ∙ b.is }

begins_of : {A : Type 0} {F : Bool → A → Type 0} {text : A → List ℕ} (o : Bool) (prefix : List ℕ) → Starts (F o) text prefix → Begins (Says F text o) prefix
begins_of {text = text} o prefix b = record { value = b.value; text = text b.value; said = record { legal = b.legal; is = refl }; tail = b.tail; is = b.is }

prefix_fits : {A : Type 0} {F : Bool → A → Type 0} {text : A → List ℕ} {m : ℕ} {read : Parser A} → IsLaw m (Says F text) read → (prefix : List ℕ) → Begins (Says F text false) prefix → length prefix ≤ m
prefix_fits law prefix b =
    let s : length b.text ≡ length prefix + length b.tail = ap length b.is ∙ length-append prefix b.tail in
    omega (arith, s, law.fits b.value b.text b.said)

pub front_of : {A : Type 0} (F : Bool → A → Type 0) (text : A → List ℕ) (m : ℕ) (read : Parser A) → IsLaw m (Says F text) read → m < 2 ^ 32
    → (bytes rest : List ℕ) (x : A) (n : ℕ) → read bytes ≡ Ok (x, rest) → n ≡ min (length bytes - length rest) 4294967295 → IsFront (F true) text bytes x n
front_of F text m read law small bytes rest x n e size =
    let a = law.again bytes rest x e in
    let is : bytes ≡ text x ++ rest = a.is ∙ ap (λ (l : List ℕ). l ++ rest) a.said.is in
    let s : length bytes ≡ length (text x) + length rest = ap length is ∙ length-append (text x) rest in
    let f = law.fits x a.text (law.loose x a.text a.said) in
    let g : length a.text ≡ length (text x) = ap length a.said.is in
    let used : n ≡ length (text x) = omega (arith, size, s, f, g, small) in
    record {
      legal = a.said.legal;
      used_is = used;
      only = λ y more h k. (same_value y x more rest (sym (law.takes y (text y) more (record { legal = h; is = refl })) ∙ ap read (sym k) ∙ e)).0;
      encoded = is ∙ ap (λ (l : List ℕ). text x ++ l) (sym (ap (λ (k : ℕ). drop k bytes) used ∙ ap (drop (length (text x))) is ∙ drop_prefix (text x) rest));
    }

none_of : {A : Type 0} (F : Bool → A → Type 0) (text : A → List ℕ) (m : ℕ) (read : Parser A) → IsLaw m (Says F text) read → (bytes : List ℕ) (f : Fault) → read bytes ≡ Err f
    → (x : A) (rest : List ℕ) → F true x → bytes ≢ text x ++ rest
none_of F text m read law bytes f e x rest legal = λ is. no_value _ _ (sym (law.takes x (text x) rest (record { legal = legal; is = refl })) ∙ ap read (sym is) ∙ e)

pub wrong_of : {A : Type 0} (F : Bool → A → Type 0) (text : A → List ℕ) (m : ℕ) (read : Parser A) → IsLaw m (Says F text) read → m < 2 ^ 32
    → (bytes : List ℕ) (left n : ℕ) → read bytes ≡ Err (Wrong left) → n ≡ min (length bytes - left) 4294967295 → IsBad (F true) (F false) text bytes n
wrong_of F text m read law small bytes left n e size =
    let w = law.wrong bytes left e in
    let s : length bytes ≡ length w.prefix + (length w.quad + length w.later) = ap length w.is ∙ length-append w.prefix (w.quad ++ w.later) ∙ ap (λ (k : ℕ). length w.prefix + k) (length-append w.quad w.later) in
    let b = prefix_fits law w.prefix w.starts in
    record {
      none = none_of F text m read law bytes (Wrong left) e;
      place_is = inl (record {
        prefix = w.prefix;
        quad = w.quad;
        after = w.later;
        is = w.is;
        place_is = omega (arith, s, w.left_is, w.one_unit, size, b, small);
        one_unit = w.one_unit;
        whole = w.whole;
        starts = starts_of false w.prefix w.starts;
        stops = λ t. w.stops (begins_of true (w.prefix ++ w.quad) t);
      });
    }

pub short_of : {A : Type 0} (F : Bool → A → Type 0) (text : A → List ℕ) (m : ℕ) (read : Parser A) → IsLaw m (Says F text) read → m + 4 < 2 ^ 32
    → (bytes : List ℕ) (n : ℕ) → read bytes ≡ Err Short → n ≡ min (length bytes - 0) 4294967295 → IsBad (F true) (F false) text bytes n
short_of F text m read law small bytes n e size =
    let c = law.short bytes e in
    let s : length bytes ≡ length c.prefix + length c.cut = ap length c.is ∙ length-append c.prefix c.cut in
    let b = prefix_fits law c.prefix c.starts in
    record {
      none = none_of F text m read law bytes Short e;
      place_is = inr (record { prefix = c.prefix; cut = c.cut; is = c.is; place_is = omega (arith, s, c.few, size, b, small); few = c.few; whole = c.whole; starts = starts_of false c.prefix c.starts });
    }

pub gives_wrong : (A : Type 0) (f : Fault) (reading : Result (A × List ℕ) Fault) (left : ℕ) → Gives {X = A × Bor (List ℕ)} {A = A} (λ (x : A × Bor (List ℕ)). (x.0, x.1.now)) (Err f) reading
    → f ≡ Wrong left → reading ≡ Err (Wrong left)
gives_wrong A f reading left h e = subst (λ (g : Fault). Gives {X = A × Bor (List ℕ)} {A = A} (λ (x : A × Bor (List ℕ)). (x.0, x.1.now)) (Err g) reading) e h

pub gives_short : (A : Type 0) (f : Fault) (reading : Result (A × List ℕ) Fault) → Gives {X = A × Bor (List ℕ)} {A = A} (λ (x : A × Bor (List ℕ)). (x.0, x.1.now)) (Err f) reading
    → f ≡ Short → reading ≡ Err Short
gives_short A f reading h e = subst (λ (g : Fault). Gives {X = A × Bor (List ℕ)} {A = A} (λ (x : A × Bor (List ℕ)). (x.0, x.1.now)) (Err g) reading) e h

-- the answer as a function of the reading
pub decoded_front : {A : Type 0} (whole : ℕ) (x : A) (rest : List ℕ) (n : ℕ) (reading : Result (A × List ℕ) Fault) → reading ≡ Ok (x, rest) → n ≡ min (whole - length rest) 4294967295 → Front x n ≡ decoded_by whole reading
decoded_front whole x rest n reading e size = ap (λ (k : ℕ). Front x k) size ∙ sym (ap (λ (r : Result (_ × List ℕ) Fault). decoded_by whole r) e)

pub decoded_wrong : (A : Type 0) (whole left n : ℕ) (reading : Result (A × List ℕ) Fault) → reading ≡ Err (Wrong left) → n ≡ min (whole - left) 4294967295 → ◌≡◌ {A = Decoded A} (Bad (record { place = n })) (decoded_by whole reading)
decoded_wrong A whole left n reading e size = ap (λ (k : ℕ). Bad (record { place = k })) size ∙ sym (ap (λ (r : Result (A × List ℕ) Fault). decoded_by whole r) e)

pub decoded_short : (A : Type 0) (whole n : ℕ) (reading : Result (A × List ℕ) Fault) → reading ≡ Err Short → n ≡ min (whole - 0) 4294967295 → ◌≡◌ {A = Decoded A} (Bad (record { place = n })) (decoded_by whole reading)
decoded_short A whole n reading e size = ap (λ (k : ℕ). Bad (record { place = k })) size ∙ sym (ap (λ (r : Result (A × List ℕ) Fault). decoded_by whole r) e)

-- the two kinds of message
pub input_front : (bytes rest : List ℕ) (x : Input) (n : ℕ) → input_at bytes ≡ Ok (x, rest) → n ≡ min (length bytes - length rest) 4294967295 → IsFront (IsInputOf true) input_text bytes x n
input_front = front_of IsInputOf input_text 500000004 input_at input_law (omega arith)

pub input_wrong : (bytes : List ℕ) (left n : ℕ) → input_at bytes ≡ Err (Wrong left) → n ≡ min (length bytes - left) 4294967295 → IsBad (IsInputOf true) (IsInputOf false) input_text bytes n
input_wrong = wrong_of IsInputOf input_text 500000004 input_at input_law (omega arith)

pub input_short : (bytes : List ℕ) (n : ℕ) → input_at bytes ≡ Err Short → n ≡ min (length bytes - 0) 4294967295 → IsBad (IsInputOf true) (IsInputOf false) input_text bytes n
input_short = short_of IsInputOf input_text 500000004 input_at input_law (omega arith)

pub output_front : (bytes rest : List ℕ) (x : Output) (n : ℕ) → output_at bytes ≡ Ok (x, rest) → n ≡ min (length bytes - length rest) 4294967295 → IsFront (IsOutputOf true) output_text bytes x n
output_front = front_of IsOutputOf output_text 600000012 output_at output_law (omega arith)

pub output_wrong : (bytes : List ℕ) (left n : ℕ) → output_at bytes ≡ Err (Wrong left) → n ≡ min (length bytes - left) 4294967295 → IsBad (IsOutputOf true) (IsOutputOf false) output_text bytes n
output_wrong = wrong_of IsOutputOf output_text 600000012 output_at output_law (omega arith)

pub output_short : (bytes : List ℕ) (n : ℕ) → output_at bytes ≡ Err Short → n ≡ min (length bytes - 0) 4294967295 → IsBad (IsOutputOf true) (IsOutputOf false) output_text bytes n
output_short = short_of IsOutputOf output_text 600000012 output_at output_law (omega arith)
