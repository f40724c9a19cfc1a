-- Four bytes, a unit and a hyper are read exactly.
use Rattle.std.proofs.Common.{inl, inr, ◌≡◌, ◌<◌, ◌≤◌, ◌∷◌, ◌∙◌, ◌++◌, ◌⊎◌, ◌+◌, ◌*◌, ◌/◌, ◌%◌, ◌^◌, ℕ, suc, zero, Bool, true, false, sym, refl, ap, ap₂, subst, List, [], length, arith, append_assoc, append-nil, length-append, Result, Ok, Err, ◌&&◌, le_of_eq, le_refl, if◌then◌else◌, true≢false}
use Rattle.std.specs.Prelude.{nat_lt, nat_le}
use Rattle.std.specs.List.{list_all}
use Rattle.byteorder.specs.Endian.{big_number, big_bytes}
use Rattle.wire_xdr.specs.declared.decode.faults.Fault.{Fault}
use Rattle.wire_xdr.specs.declared.decode.faults.Fault.TheVariants.{Wrong, Short, Memory}
use Rattle.wire_xdr.specs.Xdr.{unit, IsWhole}
use Rattle.wire_xdr.specs.Limits.{is_between}
use Rattle.wire_xdr.specs.code.Parsers.{Parser, after, chain, done, one, quad_of, quad_where, unit_where, is_byte, between_at}
use Rattle.wire_xdr.proofs.Lists.{heads, tails, cancel}
use Rattle.wire_xdr.proofs.Laws.{Encoded, Begins, WrongFrom, CutIn, IsLaw, Then, Nothing, chain_law, done_law, restated, no_value, no_fault, same_value, wrong_is}
use Rattle.wire_xdr.proofs.UnitParsers.{between_holds, between_true}

-- an encoding of one value in one way
pub record Says {A : Type 0} (F : Bool → A → Type 0) (text : A → List ℕ) (o : Bool) (x : A) (t : List ℕ) : Type 0 where
  pub legal : F o x
  pub is : t ≡ text x

abbrev pub pick : {A : Type 0} → A → A → Bool → A
pick x y true = x
pick x y false = y

pub record IsQuad (fits loose : List ℕ → Bool) (o : Bool) (q : List ℕ) : Type 0 where
  pub size : length q ≡ 4
  pub passes : pick fits loose o q ≡ true

abbrev pub same : List ℕ → List ℕ
same q = q

quad_takes : (fits : List ℕ → Bool) (q rest : List ℕ) → length q ≡ 4 → fits q ≡ true → quad_where fits (q ++ rest) ≡ Ok (q, rest)
quad_takes fits [] rest size h = absurd (omega (arith, size))
quad_takes fits (a ∷ []) rest size h = absurd (omega (arith, size))
quad_takes fits (a ∷ b ∷ []) rest size h = absurd (omega (arith, size))
quad_takes fits (a ∷ b ∷ c ∷ []) rest size h = absurd (omega (arith, size))
quad_takes fits (a ∷ b ∷ c ∷ d ∷ []) rest size h = rw h refl
quad_takes fits (a ∷ b ∷ c ∷ d ∷ e ∷ more) rest size h = absurd (omega (arith, size))

abbrev answer : Bool → List ℕ → List ℕ → Result (List ℕ × List ℕ) Fault
answer t quad rest = if t then Ok (quad, rest) else Err (Wrong (4 + length rest))

quad_again_by : (fits loose : List ℕ → Bool) (a b c d : ℕ) (bytes rest x : List ℕ) (t : Bool) → fits (a ∷ b ∷ c ∷ d ∷ []) ≡ t
    → answer t (a ∷ b ∷ c ∷ d ∷ []) bytes ≡ Ok (x, rest)
    → Encoded (Says (IsQuad fits loose) same true) x (a ∷ b ∷ c ∷ d ∷ bytes) rest
quad_again_by fits loose a b c d bytes rest x true is e =
    let p : ◌≡◌ {A = List ℕ × List ℕ} (a ∷ b ∷ c ∷ d ∷ [], bytes) (x, rest) = cc in
    let px : a ∷ b ∷ c ∷ d ∷ [] ≡ x = ap (λ (r : List ℕ × List ℕ). r.0) p in
    let pr : bytes ≡ rest = ap (λ (r : List ℕ × List ℕ). r.1) p in
    record { text = x; said = record { legal = record { size = ap length (sym px); passes = ap fits (sym px) ∙ is }; is = refl }; is = ap₂ (λ (l r : List ℕ). l ++ r) px pr }
quad_again_by fits loose a b c d bytes rest x false is e = absurd (no_fault _ _ e)

quad_again : (fits loose : List ℕ → Bool) (bytes rest x : List ℕ) → quad_where fits bytes ≡ Ok (x, rest) → Encoded (Says (IsQuad fits loose) same true) x bytes rest
quad_again fits loose [] rest x e = absurd (no_fault _ _ e)
quad_again fits loose (a ∷ []) rest x e = absurd (no_fault _ _ e)
quad_again fits loose (a ∷ b ∷ []) rest x e = absurd (no_fault _ _ e)
quad_again fits loose (a ∷ b ∷ c ∷ []) rest x e = absurd (no_fault _ _ e)
quad_again fits loose (a ∷ b ∷ c ∷ d ∷ bytes) rest x e = quad_again_by fits loose a b c d bytes rest x (fits (a ∷ b ∷ c ∷ d ∷ [])) refl e

only_quad : (a b c d : ℕ) (x tail : List ℕ) → length x ≡ 4 → x ≡ (a ∷ b ∷ c ∷ d ∷ []) ++ tail → x ≡ a ∷ b ∷ c ∷ d ∷ []
only_quad a b c d x [] size e = e
only_quad a b c d x (y ∷ tail) size e =
    let s : length x ≡ suc (suc (suc (suc (suc (length tail))))) = ap length e in absurd (omega (arith, size, s))

quad_wrong_by : (fits loose : List ℕ → Bool) (q0 : List ℕ) → IsQuad fits loose false q0 → (a b c d : ℕ) (bytes : List ℕ) (left : ℕ) (t : Bool) → fits (a ∷ b ∷ c ∷ d ∷ []) ≡ t
    → answer t (a ∷ b ∷ c ∷ d ∷ []) bytes ≡ Err (Wrong left)
    → WrongFrom (Says (IsQuad fits loose) same) (a ∷ b ∷ c ∷ d ∷ bytes) left
quad_wrong_by fits loose q0 h0 a b c d bytes left true is e = absurd (no_value _ _ e)
quad_wrong_by fits loose q0 h0 a b c d bytes left false is e =
    let p : 4 + length bytes ≡ left = wrong_is {X = List ℕ × List ℕ} _ _ e in
    record {
      prefix = [];
      quad = a ∷ b ∷ c ∷ d ∷ [];
      later = bytes;
      is = refl;
      left_is = p;
      one_unit = refl;
      whole = tt;
      starts = record { value = q0; text = q0; said = record { legal = h0; is = refl }; tail = q0; is = refl };
      stops = λ s. let x : s.value ≡ a ∷ b ∷ c ∷ d ∷ [] = only_quad a b c d s.value s.tail s.said.legal.size (sym s.said.is ∙ s.is) in
          true≢false (sym s.said.legal.passes ∙ ap fits x ∙ is);
    }

quad_wrong : (fits loose : List ℕ → Bool) (q0 : List ℕ) → IsQuad fits loose false q0 → (bytes : List ℕ) (left : ℕ) → quad_where fits bytes ≡ Err (Wrong left)
    → WrongFrom (Says (IsQuad fits loose) same) bytes left
quad_wrong fits loose q0 h0 [] left e = absurd cc
quad_wrong fits loose q0 h0 (a ∷ []) left e = absurd cc
quad_wrong fits loose q0 h0 (a ∷ b ∷ []) left e = absurd cc
quad_wrong fits loose q0 h0 (a ∷ b ∷ c ∷ []) left e = absurd cc
quad_wrong fits loose q0 h0 (a ∷ b ∷ c ∷ d ∷ bytes) left e = quad_wrong_by fits loose q0 h0 a b c d bytes left (fits (a ∷ b ∷ c ∷ d ∷ [])) refl e

all_cut : (fits loose : List ℕ → Bool) (q0 : List ℕ) → IsQuad fits loose false q0 → (bytes : List ℕ) → length bytes < 4 → CutIn (Says (IsQuad fits loose) same) bytes
all_cut fits loose q0 h0 bytes few = record {
  prefix = [];
  cut = bytes;
  is = refl;
  few = few;
  whole = tt;
  starts = record { value = q0; text = q0; said = record { legal = h0; is = refl }; tail = q0; is = refl };
}

quad_short_by : (fits : List ℕ → Bool) (a b c d : ℕ) (bytes : List ℕ) (t : Bool) → answer t (a ∷ b ∷ c ∷ d ∷ []) bytes ≡ Err Short → ⊥
quad_short_by fits a b c d bytes true e = no_value _ _ e
quad_short_by fits a b c d bytes false e = absurd cc

quad_cut : (fits loose : List ℕ → Bool) (q0 : List ℕ) → IsQuad fits loose false q0 → (bytes : List ℕ) → quad_where fits bytes ≡ Err Short → CutIn (Says (IsQuad fits loose) same) bytes
quad_cut fits loose q0 h0 [] e = all_cut fits loose q0 h0 [] (omega arith)
quad_cut fits loose q0 h0 (a ∷ []) e = all_cut fits loose q0 h0 (a ∷ []) (omega arith)
quad_cut fits loose q0 h0 (a ∷ b ∷ []) e = all_cut fits loose q0 h0 (a ∷ b ∷ []) (omega arith)
quad_cut fits loose q0 h0 (a ∷ b ∷ c ∷ []) e = all_cut fits loose q0 h0 (a ∷ b ∷ c ∷ []) (omega arith)
quad_cut fits loose q0 h0 (a ∷ b ∷ c ∷ d ∷ bytes) e = absurd (quad_short_by fits a b c d bytes (fits (a ∷ b ∷ c ∷ d ∷ [])) e)

pub whole_quad : (q : List ℕ) → length q ≡ 4 → IsWhole q
whole_quad [] size = absurd (omega (arith, size))
whole_quad (a ∷ []) size = absurd (omega (arith, size))
whole_quad (a ∷ b ∷ []) size = absurd (omega (arith, size))
whole_quad (a ∷ b ∷ c ∷ []) size = absurd (omega (arith, size))
whole_quad (a ∷ b ∷ c ∷ d ∷ []) size = tt
whole_quad (a ∷ b ∷ c ∷ d ∷ e ∷ more) size = absurd (omega (arith, size))

pub quad_law : (fits loose : List ℕ → Bool) (q0 : List ℕ) → ((q : List ℕ) → fits q ≡ true → loose q ≡ true) → IsQuad fits loose false q0 → IsLaw 4 (Says (IsQuad fits loose) same) (quad_where fits)
quad_law fits loose q0 looser h0 = record {
  takes = λ x t rest h. ap (λ (l : List ℕ). quad_where fits (l ++ rest)) h.is ∙ quad_takes fits x rest h.legal.size h.legal.passes;
  again = λ bytes rest x e. quad_again fits loose bytes rest x e;
  wrong = λ bytes left e. quad_wrong fits loose q0 h0 bytes left e;
  short = λ bytes e. quad_cut fits loose q0 h0 bytes e;
  loose = λ x t h. record { legal = record { size = h.legal.size; passes = looser x h.legal.passes }; is = h.is };
  whole = λ x t h. subst IsWhole (sym h.is) (whole_quad x h.legal.size);
  fits = λ x t h. le_of_eq (ap length h.is ∙ h.legal.size);
  example = q0;
  encoding = q0;
  some = record { legal = h0; is = refl };
}

-- the bytes of a unit are those of its number, and the other way round
unit_bytes : (a b c d n : ℕ) → a < 256 → b < 256 → c < 256 → d < 256 → n ≡ big_number 4 (a ∷ b ∷ c ∷ d ∷ []) → unit n ≡ a ∷ b ∷ c ∷ d ∷ []
unfolding unit
unit_bytes a b c d n ha hb hc hd e =
    let p0 : n / 16777216 % 256 ≡ a = omega (arith, e, ha, hb, hc, hd) in
    let p1 : n / 65536 % 256 ≡ b = omega (arith, e, ha, hb, hc, hd) in
    let p2 : n / 256 % 256 ≡ c = omega (arith, e, ha, hb, hc, hd) in
    let p3 : n % 256 ≡ d = omega (arith, e, ha, hb, hc, hd) in
    rw (p0, p1, p2, p3) refl

pub unit_size : (n : ℕ) → length (unit n) ≡ 4
unfolding unit
unit_size n = refl

pub unit_number : (n : ℕ) → n < 2 ^ 32 → big_number 4 (unit n) ≡ n
unfolding unit
unit_number n h = omega (arith, h)

lt_256 : (n : ℕ) → nat_lt (n % 256) 256 ≡ true
lt_256 n = let h : n % 256 < 256 = omega arith in grind (arith, h)

pub unit_are_bytes : (n : ℕ) → list_all is_byte (unit n) ≡ true
unfolding unit
unit_are_bytes n = rw (lt_256 (n / 16777216), lt_256 (n / 65536), lt_256 (n / 256), lt_256 n) refl

pub and_true : (p q : Bool) → (p && q) ≡ true → (p ≡ true) × (q ≡ true)
and_true true true e = (refl, refl)
and_true true false e = absurd cc
and_true false q e = absurd cc

byte_holds : (b : ℕ) → nat_lt b 256 ≡ true → b < 256
byte_holds b h = grind (arith, h)

bytes_unit : (q : List ℕ) → length q ≡ 4 → list_all is_byte q ≡ true → unit (big_number 4 q) ≡ q
bytes_unit [] size h = absurd (omega (arith, size))
bytes_unit (a ∷ []) size h = absurd (omega (arith, size))
bytes_unit (a ∷ b ∷ []) size h = absurd (omega (arith, size))
bytes_unit (a ∷ b ∷ c ∷ []) size h = absurd (omega (arith, size))
bytes_unit (a ∷ b ∷ c ∷ d ∷ []) size h =
    let ha = and_true (nat_lt a 256) _ h in let hb = and_true (nat_lt b 256) _ ha.1 in let hc = and_true (nat_lt c 256) _ hb.1 in let hd = and_true (nat_lt d 256) _ hc.1 in
    unit_bytes a b c d _ (byte_holds a ha.0) (byte_holds b hb.0) (byte_holds c hc.0) (byte_holds d hd.0) refl
bytes_unit (a ∷ b ∷ c ∷ d ∷ e ∷ more) size h = absurd (omega (arith, size))

number_bound : (q : List ℕ) → length q ≡ 4 → list_all is_byte q ≡ true → big_number 4 q < 2 ^ 32
number_bound [] size h = absurd (omega (arith, size))
number_bound (a ∷ []) size h = absurd (omega (arith, size))
number_bound (a ∷ b ∷ []) size h = absurd (omega (arith, size))
number_bound (a ∷ b ∷ c ∷ []) size h = absurd (omega (arith, size))
number_bound (a ∷ b ∷ c ∷ d ∷ []) size h =
    let ha = and_true (nat_lt a 256) _ h in let hb = and_true (nat_lt b 256) _ ha.1 in let hc = and_true (nat_lt c 256) _ hb.1 in let hd = and_true (nat_lt d 256) _ hc.1 in
    omega (arith, byte_holds a ha.0, byte_holds b hb.0, byte_holds c hc.0, byte_holds d hd.0)
number_bound (a ∷ b ∷ c ∷ d ∷ e ∷ more) size h = absurd (omega (arith, size))

pub record IsTested (fits : ℕ → Bool) (o : Bool) (n : ℕ) : Type 0 where
  pub passes : fits n ≡ true
  pub bound : n < 2 ^ 32

abbrev quad_fits : (ℕ → Bool) → List ℕ → Bool
quad_fits fits q = list_all is_byte q && fits (big_number 4 q)

pub unit_law : (fits : ℕ → Bool) (n0 : ℕ) → fits n0 ≡ true → n0 < 2 ^ 32 → IsLaw 4 (Says (IsTested fits) unit) (unit_where fits)
unfolding unit_where
unit_law fits n0 h0 small0 =
    restated into from (chain_law (quad_law (quad_fits fits) (quad_fits fits) (unit n0) (λ q h. h) record { size = unit_size n0; passes = ap₂ (λ (p q : Bool). p && q) (unit_are_bytes n0) (ap fits (unit_number n0 small0) ∙ h0) })
    (λ q t h. done_law (big_number 4 q)))
  where
    picked : (o : Bool) (q : List ℕ) → pick (quad_fits fits) (quad_fits fits) o q ≡ true → quad_fits fits q ≡ true
    picked true q h = h
    picked false q h = h

    unpicked : (o : Bool) (q : List ℕ) → quad_fits fits q ≡ true → pick (quad_fits fits) (quad_fits fits) o q ≡ true
    unpicked true q h = h
    unpicked false q h = h

    into : (o : Bool) (n : ℕ) (t : List ℕ) → Then (Says (IsQuad (quad_fits fits) (quad_fits fits)) same) (λ (q : List ℕ). Nothing (big_number 4 q)) o n t → Says (IsTested fits) unit o n t
    into o n t h =
        let two = and_true (list_all is_byte h.first) (fits (big_number 4 h.first)) (picked o h.first h.said.legal.passes) in
        record {
          legal = record { passes = ap fits h.rest.value ∙ two.1; bound = subst (λ (k : ℕ). k < 2 ^ 32) (sym h.rest.value) (number_bound h.first h.said.legal.size two.0) };
          is = h.is ∙ ap₂ (λ (x y : List ℕ). x ++ y) h.said.is h.rest.is ∙ append-nil h.first ∙ sym (bytes_unit h.first h.said.legal.size two.0) ∙ ap unit (sym h.rest.value);
        }

    from : (o : Bool) (n : ℕ) (t : List ℕ) → Says (IsTested fits) unit o n t → Then (Says (IsQuad (quad_fits fits) (quad_fits fits)) same) (λ (q : List ℕ). Nothing (big_number 4 q)) o n t
    from o n t h = record {
      first = unit n;
      prefix = unit n;
      back = [];
      is = h.is ∙ sym (append-nil (unit n));
      rest = record { value = sym (unit_number n h.legal.bound); is = refl };
      said = record { is = refl; legal = record { size = unit_size n; passes = unpicked o (unit n) (ap₂ (λ (p q : Bool). p && q) (unit_are_bytes n) (ap fits (unit_number n h.legal.bound) ∙ h.legal.passes)) } };
    }

pub record IsBetween (least most : ℕ) (o : Bool) (n : ℕ) : Type 0 where
  pub low : least ≤ n
  pub high : n ≤ most

pub relegal : {A : Type 0} {F G : Bool → A → Type 0} {text : A → List ℕ} {m : ℕ} {read : Parser A} → ((o : Bool) (x : A) → F o x → G o x) → ((o : Bool) (x : A) → G o x → F o x)
    → IsLaw m (Says F text) read → IsLaw m (Says G text) read
relegal into from law = restated (λ o x t h. record { legal = into o x h.legal; is = h.is }) (λ o x t h. record { legal = from o x h.legal; is = h.is }) law

pub between_law : (least most : ℕ) → least ≤ most → most < 2 ^ 32 → IsLaw 4 (Says (IsBetween least most) unit) (between_at least most)
between_law least most some small =
    relegal (λ o n h. let b = between_holds least most n h.passes in record { low = b.0; high = b.1 })
    (λ o n h. record { passes = between_true least most n h.low h.high; bound = omega (arith, h.high, small) })
    (unit_law (is_between least most) least (between_true least most least (le_refl least) some) (omega (arith, some, small)))
