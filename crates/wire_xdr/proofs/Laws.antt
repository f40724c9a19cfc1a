-- What makes a reader exact: it takes each encoding, gives only what was encoded, stops at the first unit
-- that continues none, and says that the bytes end only where they could go on. `S true` are the
-- encodings, `S false` those that a stop is compared with; every encoding is one of these.
use Rattle.std.proofs.Common.{inl, inr, ◌≡◌, ◌<◌, ◌≤◌, ◌∷◌, ◌∙◌, ◌++◌, ◌⊎◌, ◌+◌, ℕ, suc, zero, Bool, true, false, sym, refl, ap, ap₂, subst, List, [], length, arith, append_assoc, append-nil, length-append, Result, Ok, Err, le_trans, le_of_eq}
use Rattle.wire_xdr.specs.declared.decode.faults.Fault.{Fault}
use Rattle.wire_xdr.specs.declared.decode.faults.Fault.TheVariants.{Wrong, Short, Memory}
use Rattle.wire_xdr.specs.Xdr.{IsWhole}
use Rattle.wire_xdr.specs.code.Parsers.{Parser, after, chain, done}
use Rattle.wire_xdr.proofs.Lists.{Longer, cancel, compare, whole_append}

pub record Encoded {A : Type 0} (S : A → List ℕ → Type 0) (x : A) (bytes rest : List ℕ) : Type 0 where
  pub text : List ℕ
  pub said : S x text
  pub is : bytes ≡ text ++ rest

pub record Begins {A : Type 0} (S : A → List ℕ → Type 0) (prefix : List ℕ) : Type 0 where
  pub value : A
  pub text : List ℕ
  pub said : S value text
  pub tail : List ℕ
  pub is : text ≡ prefix ++ tail

pub record WrongFrom {A : Type 0} (S : Bool → A → List ℕ → Type 0) (bytes : List ℕ) (left : ℕ) : Type 0 where
  pub prefix : List ℕ
  pub quad : List ℕ
  pub later : List ℕ
  pub is : bytes ≡ prefix ++ (quad ++ later)
  pub left_is : 4 + length later ≡ left
  pub one_unit : length quad ≡ 4
  pub whole : IsWhole prefix
  pub starts : Begins (S false) prefix
  pub stops : Begins (S true) (prefix ++ quad) → ⊥

pub record CutIn {A : Type 0} (S : Bool → A → List ℕ → Type 0) (bytes : List ℕ) : Type 0 where
  pub prefix : List ℕ
  pub cut : List ℕ
  pub is : bytes ≡ prefix ++ cut
  pub few : length cut < 4
  pub whole : IsWhole prefix
  pub starts : Begins (S false) prefix

pub record IsLaw {A : Type 0} (most : ℕ) (S : Bool → A → List ℕ → Type 0) (read : Parser A) : Type 0 where
  pub takes : (x : A) (text rest : List ℕ) → S true x text → read (text ++ rest) ≡ Ok (x, rest)
  pub again : (bytes rest : List ℕ) (x : A) → read bytes ≡ Ok (x, rest) → Encoded (S true) x bytes rest
  pub wrong : (bytes : List ℕ) (left : ℕ) → read bytes ≡ Err (Wrong left) → WrongFrom S bytes left
  pub short : (bytes : List ℕ) → read bytes ≡ Err Short → CutIn S bytes
  pub loose : (x : A) (text : List ℕ) → S true x text → S false x text
  pub whole : (x : A) (text : List ℕ) → S false x text → IsWhole text
  pub fits : (x : A) (text : List ℕ) → S false x text → length text ≤ most
  pub example : A
  pub encoding : List ℕ
  pub some : S false example encoding

-- one part and then another
pub record Then {A B : Type 0} (SA : Bool → A → List ℕ → Type 0) (SB : A → Bool → B → List ℕ → Type 0) (o : Bool) (y : B) (text : List ℕ) : Type 0 where
  pub first : A
  pub prefix : List ℕ
  pub back : List ℕ
  pub said : SA o first prefix
  pub rest : SB first o y back
  pub is : text ≡ prefix ++ back

pub wrong_is : {X : Type 0} (m n : ℕ) → ◌≡◌ {A = Result X Fault} (Err (Wrong m)) (Err (Wrong n)) → m ≡ n
wrong_is m n e = cc

pub no_value : {X : Type 0} (x : X) (f : Fault) → ◌≡◌ {A = Result X Fault} (Ok x) (Err f) → ⊥
no_value x f e = absurd cc

pub no_fault : {X : Type 0} (x : X) (f : Fault) → ◌≡◌ {A = Result X Fault} (Err f) (Ok x) → ⊥
no_fault x f e = absurd cc

pub fault_moves : {X Y : Type 0} (f g : Fault) → ◌≡◌ {A = Result X Fault} (Err f) (Err g) → ◌≡◌ {A = Result Y Fault} (Err f) (Err g)
fault_moves f g e = let p : f ≡ g = cc in ap Err p

pub same_value : {A : Type 0} (x y : A) (xs ys : List ℕ) → ◌≡◌ {A = Result (A × List ℕ) Fault} (Ok (x, xs)) (Ok (y, ys)) → (x ≡ y) × (xs ≡ ys)
same_value {A = A} x y xs ys e = let p : ◌≡◌ {A = A × List ℕ} (x, xs) (y, ys) = cc in (ap (λ (q : A × List ℕ). q.0) p, ap (λ (q : A × List ℕ). q.1) p)

chain_takes : {A B : Type 0} {mA mB : ℕ} {SA : Bool → A → List ℕ → Type 0} {SB : A → Bool → B → List ℕ → Type 0} {rA : Parser A} {rB : A → Parser B}
    → IsLaw mA SA rA → ((a : A) (t : List ℕ) → SA false a t → IsLaw mB (SB a) (rB a))
    → (y : B) (text rest : List ℕ) → Then SA SB true y text → chain rA rB (text ++ rest) ≡ Ok (y, rest)
chain_takes {rA = rA} {rB = rB} la lb y text rest h =
    let seen : text ++ rest ≡ h.prefix ++ (h.back ++ rest) = ap (λ (l : List ℕ). l ++ rest) h.is ∙ append_assoc h.prefix h.back rest in
    ap (λ (l : List ℕ). after rB (rA l)) seen
    ∙ ap (after rB) (la.takes h.first h.prefix (h.back ++ rest) h.said)
    ∙ (lb h.first h.prefix (la.loose h.first h.prefix h.said)).takes y h.back rest h.rest

chain_again_at : {A B : Type 0} {mA mB : ℕ} {SA : Bool → A → List ℕ → Type 0} {SB : A → Bool → B → List ℕ → Type 0} {rA : Parser A} {rB : A → Parser B}
    → IsLaw mA SA rA → ((a : A) (t : List ℕ) → SA false a t → IsLaw mB (SB a) (rB a))
    → (bytes rest : List ℕ) (y : B) (r : Result (A × List ℕ) Fault) → rA bytes ≡ r → after rB r ≡ Ok (y, rest) → Encoded (Then SA SB true) y bytes rest
chain_again_at la lb bytes rest y (Err f) e h = absurd (no_fault (y, rest) f h)
chain_again_at la lb bytes rest y (Ok p) e h =
    let a = la.again bytes p.1 p.0 e in
    let b = (lb p.0 a.text (la.loose p.0 a.text a.said)).again p.1 rest y h in
    record {
      text = a.text ++ b.text;
      said = record { first = p.0; prefix = a.text; back = b.text; said = a.said; rest = b.said; is = refl };
      is = a.is ∙ ap (λ (l : List ℕ). a.text ++ l) b.is ∙ sym (append_assoc a.text b.text rest);
    }

chain_wrong_first : {A B : Type 0} {mA mB : ℕ} {SA : Bool → A → List ℕ → Type 0} {SB : A → Bool → B → List ℕ → Type 0} {rA : Parser A} {rB : A → Parser B}
    → IsLaw mA SA rA → ((a : A) (t : List ℕ) → SA false a t → IsLaw mB (SB a) (rB a))
    → (bytes : List ℕ) (left : ℕ) → rA bytes ≡ Err (Wrong left) → WrongFrom SA bytes left → WrongFrom (Then SA SB) bytes left
chain_wrong_first {SA = SA} {SB = SB} {rA = rA} la lb bytes left e w =
    let s = w.starts in
    let b = lb s.value s.text s.said in
    record {
      prefix = w.prefix;
      quad = w.quad;
      later = w.later;
      is = w.is;
      left_is = w.left_is;
      one_unit = w.one_unit;
      whole = w.whole;
      starts = record {
        value = b.example;
        text = s.text ++ b.encoding;
        said = record { first = s.value; prefix = s.text; back = b.encoding; said = s.said; rest = b.some; is = refl };
        tail = s.tail ++ b.encoding;
        is = ap (λ (l : List ℕ). l ++ b.encoding) s.is ∙ append_assoc w.prefix s.tail b.encoding;
      };
      stops = λ t. stops_at t (compare t.said.prefix t.said.back (w.prefix ++ w.quad) t.tail (sym t.said.is ∙ t.is));
    }
  where
    stops_at : (t : Begins (Then SA SB true) (w.prefix ++ w.quad)) → Longer t.said.prefix (w.prefix ++ w.quad) ⊎ Longer (w.prefix ++ w.quad) t.said.prefix → ⊥
    stops_at t (inl l) = w.stops (record { value = t.said.first; text = t.said.prefix; said = t.said.said; tail = l.more; is = l.is })
    stops_at t (inr l) =
        let whole_bytes : bytes ≡ t.said.prefix ++ (l.more ++ w.later) =
        w.is ∙ sym (append_assoc w.prefix w.quad w.later) ∙ ap (λ (x : List ℕ). x ++ w.later) l.is ∙ append_assoc t.said.prefix l.more w.later in
        no_value _ _ (sym (la.takes t.said.first t.said.prefix (l.more ++ w.later) t.said.said) ∙ ap rA (sym whole_bytes) ∙ e)

chain_wrong_second : {A B : Type 0} {mA mB : ℕ} {SA : Bool → A → List ℕ → Type 0} {SB : A → Bool → B → List ℕ → Type 0} {rA : Parser A} {rB : A → Parser B}
    → IsLaw mA SA rA → ((a : A) (t : List ℕ) → SA false a t → IsLaw mB (SB a) (rB a))
    → (bytes mid : List ℕ) (left : ℕ) (x : A) → Encoded (SA true) x bytes mid → WrongFrom (SB x) mid left → WrongFrom (Then SA SB) bytes left
chain_wrong_second {A = A} {B = B} {SA = SA} {SB = SB} {rA = rA} la lb bytes mid left x a w =
    let s = w.starts in
    record {
      prefix = a.text ++ w.prefix;
      quad = w.quad;
      later = w.later;
      is = a.is ∙ ap (λ (l : List ℕ). a.text ++ l) w.is ∙ sym (append_assoc a.text w.prefix (w.quad ++ w.later));
      left_is = w.left_is;
      one_unit = w.one_unit;
      whole = whole_append a.text w.prefix (la.whole x a.text (la.loose x a.text a.said)) w.whole;
      starts = record {
        value = s.value;
        text = a.text ++ s.text;
        said = record { first = x; prefix = a.text; back = s.text; said = la.loose x a.text a.said; rest = s.said; is = refl };
        tail = s.tail;
        is = ap (λ (l : List ℕ). a.text ++ l) s.is ∙ sym (append_assoc a.text w.prefix s.tail);
      };
      stops = λ t. stops_at t (compare t.said.prefix t.said.back ((a.text ++ w.prefix) ++ w.quad) t.tail (sym t.said.is ∙ t.is));
    }
  where
    regroup : (l : List ℕ) → ((a.text ++ w.prefix) ++ w.quad) ++ l ≡ a.text ++ ((w.prefix ++ w.quad) ++ l)
    regroup l = ap (λ (k : List ℕ). k ++ l) (append_assoc a.text w.prefix w.quad) ∙ append_assoc a.text (w.prefix ++ w.quad) l

    too_long : (more : List ℕ) → [] ≡ (w.prefix ++ w.quad) ++ more → ⊥
    too_long more e =
        let sizes : 0 ≡ (length w.prefix + length w.quad) + length more = ap length e ∙ length-append (w.prefix ++ w.quad) more ∙ ap (λ (n : ℕ). n + length more) (length-append w.prefix w.quad) in
        omega (arith, sizes, w.one_unit)

    same_first : (y : A) (b : B) (back more tail : List ℕ) → x ≡ y → w.prefix ++ w.quad ≡ more → SB y true b back → back ≡ more ++ tail → ⊥
    same_first y b back more tail same mores said e =
        w.stops (record { value = b; text = back; said = subst (λ (z : A). SB z true b back) (sym same) said; tail = tail; is = e ∙ ap (λ (l : List ℕ). l ++ tail) (sym mores) })

    stops_at : (t : Begins (Then SA SB true) ((a.text ++ w.prefix) ++ w.quad)) → Longer t.said.prefix ((a.text ++ w.prefix) ++ w.quad) ⊎ Longer ((a.text ++ w.prefix) ++ w.quad) t.said.prefix → ⊥
    stops_at t (inl l) =
        let two = same_value t.said.first x [] ((w.prefix ++ w.quad) ++ l.more)
        (sym (la.takes t.said.first t.said.prefix [] t.said.said) ∙ ap rA (append-nil t.said.prefix ∙ l.is ∙ regroup l.more) ∙ la.takes x a.text ((w.prefix ++ w.quad) ++ l.more) a.said) in
        too_long l.more two.1
    stops_at t (inr l) =
        let two = same_value x t.said.first (w.prefix ++ w.quad) l.more
        (sym (la.takes x a.text (w.prefix ++ w.quad) a.said) ∙ ap rA (sym (append_assoc a.text w.prefix w.quad) ∙ l.is) ∙ la.takes t.said.first t.said.prefix l.more t.said.said) in
        let backs : t.said.back ≡ l.more ++ t.tail = cancel t.said.prefix t.said.back (l.more ++ t.tail)
        (sym t.said.is ∙ t.is ∙ ap (λ (k : List ℕ). k ++ t.tail) l.is ∙ append_assoc t.said.prefix l.more t.tail) in
        same_first t.said.first t.value t.said.back l.more t.tail two.0 two.1 t.said.rest backs

chain_wrong_at : {A B : Type 0} {mA mB : ℕ} {SA : Bool → A → List ℕ → Type 0} {SB : A → Bool → B → List ℕ → Type 0} {rA : Parser A} {rB : A → Parser B}
    → IsLaw mA SA rA → ((a : A) (t : List ℕ) → SA false a t → IsLaw mB (SB a) (rB a))
    → (bytes : List ℕ) (left : ℕ) (r : Result (A × List ℕ) Fault) → rA bytes ≡ r → after rB r ≡ Err (Wrong left) → WrongFrom (Then SA SB) bytes left
chain_wrong_at {B = B} {rA = rA} la lb bytes left (Err f) e h =
    let same : rA bytes ≡ Err (Wrong left) = e ∙ fault_moves f (Wrong left) h in chain_wrong_first la lb bytes left same (la.wrong bytes left same)
chain_wrong_at la lb bytes left (Ok p) e h =
    let a = la.again bytes p.1 p.0 e in
    chain_wrong_second la lb bytes p.1 left p.0 a ((lb p.0 a.text (la.loose p.0 a.text a.said)).wrong p.1 left h)

chain_short_at : {A B : Type 0} {mA mB : ℕ} {SA : Bool → A → List ℕ → Type 0} {SB : A → Bool → B → List ℕ → Type 0} {rA : Parser A} {rB : A → Parser B}
    → IsLaw mA SA rA → ((a : A) (t : List ℕ) → SA false a t → IsLaw mB (SB a) (rB a))
    → (bytes : List ℕ) (r : Result (A × List ℕ) Fault) → rA bytes ≡ r → after rB r ≡ Err Short → CutIn (Then SA SB) bytes
chain_short_at {B = B} {rA = rA} la lb bytes (Err f) e h =
    let c = la.short bytes (e ∙ fault_moves f Short h) in
    let s = c.starts in
    let b = lb s.value s.text s.said in
    record {
      prefix = c.prefix;
      cut = c.cut;
      is = c.is;
      few = c.few;
      whole = c.whole;
      starts = record {
        value = b.example;
        text = s.text ++ b.encoding;
        said = record { first = s.value; prefix = s.text; back = b.encoding; said = s.said; rest = b.some; is = refl };
        tail = s.tail ++ b.encoding;
        is = ap (λ (l : List ℕ). l ++ b.encoding) s.is ∙ append_assoc c.prefix s.tail b.encoding;
      };
    }
chain_short_at la lb bytes (Ok p) e h =
    let a = la.again bytes p.1 p.0 e in
    let c = (lb p.0 a.text (la.loose p.0 a.text a.said)).short p.1 h in
    let s = c.starts in
    record {
      prefix = a.text ++ c.prefix;
      cut = c.cut;
      is = a.is ∙ ap (λ (l : List ℕ). a.text ++ l) c.is ∙ sym (append_assoc a.text c.prefix c.cut);
      few = c.few;
      whole = whole_append a.text c.prefix (la.whole p.0 a.text (la.loose p.0 a.text a.said)) c.whole;
      starts = record {
        value = s.value;
        text = a.text ++ s.text;
        said = record { first = p.0; prefix = a.text; back = s.text; said = la.loose p.0 a.text a.said; rest = s.said; is = refl };
        tail = s.tail;
        is = ap (λ (l : List ℕ). a.text ++ l) s.is ∙ sym (append_assoc a.text c.prefix s.tail);
      };
    }

pub chain_law : {A B : Type 0} {mA mB : ℕ} {SA : Bool → A → List ℕ → Type 0} {SB : A → Bool → B → List ℕ → Type 0} {rA : Parser A} {rB : A → Parser B}
    → IsLaw mA SA rA → ((a : A) (t : List ℕ) → SA false a t → IsLaw mB (SB a) (rB a)) → IsLaw (mA + mB) (Then SA SB) (chain rA rB)
chain_law {mA = mA} {mB = mB} {SA = SA} {SB = SB} {rA = rA} {rB = rB} la lb =
    let rest = lb la.example la.encoding la.some in
    record {
      takes = chain_takes la lb;
      again = λ bytes rest y e. chain_again_at la lb bytes rest y (rA bytes) refl e;
      wrong = λ bytes left e. chain_wrong_at la lb bytes left (rA bytes) refl e;
      short = λ bytes e. chain_short_at la lb bytes (rA bytes) refl e;
      loose = λ y t h. record {
        first = h.first;
        prefix = h.prefix;
        back = h.back;
        said = la.loose h.first h.prefix h.said;
        is = h.is;
        rest = (lb h.first h.prefix (la.loose h.first h.prefix h.said)).loose y h.back h.rest;
      };
      whole = λ y t h. subst IsWhole (sym h.is) (whole_append h.prefix h.back (la.whole h.first h.prefix h.said) ((lb h.first h.prefix h.said).whole y h.back h.rest));
      fits = λ y t h. fits_at y t h;
      example = rest.example;
      encoding = la.encoding ++ rest.encoding;
      some = record { first = la.example; prefix = la.encoding; back = rest.encoding; said = la.some; rest = rest.some; is = refl };
    }
  where
    fits_at : (y : _) (t : List ℕ) → Then SA SB false y t → length t ≤ mA + mB
    fits_at y t h =
        let sizes : length t ≡ length h.prefix + length h.back = ap length h.is ∙ length-append h.prefix h.back in
        omega (arith, sizes, la.fits h.first h.prefix h.said, (lb h.first h.prefix h.said).fits y h.back h.rest)

-- the same reader with its encodings in other words
pub restated : {A : Type 0} {most : ℕ} {S R : Bool → A → List ℕ → Type 0} {read : Parser A}
    → ((o : Bool) (x : A) (t : List ℕ) → S o x t → R o x t) → ((o : Bool) (x : A) (t : List ℕ) → R o x t → S o x t) → IsLaw most S read → IsLaw most R read
restated {S = S} {R = R} into from law = record {
  takes = λ x t rest h. law.takes x t rest (from true x t h);
  again = λ bytes rest x e. let a = law.again bytes rest x e in record { text = a.text; said = into true x a.text a.said; is = a.is };
  wrong = λ bytes left e. let w = law.wrong bytes left e in
      record {
        prefix = w.prefix;
        quad = w.quad;
        later = w.later;
        is = w.is;
        left_is = w.left_is;
        one_unit = w.one_unit;
        whole = w.whole;
        starts = begin_into w.starts;
        stops = λ t. w.stops (record { value = t.value; text = t.text; said = from true t.value t.text t.said; tail = t.tail; is = t.is });
      };
  short = λ bytes e. let c = law.short bytes e in record { prefix = c.prefix; cut = c.cut; is = c.is; few = c.few; whole = c.whole; starts = begin_into c.starts };
  loose = λ x t h. into false x t (law.loose x t (from true x t h));
  whole = λ x t h. law.whole x t (from false x t h);
  fits = λ x t h. law.fits x t (from false x t h);
  example = law.example;
  encoding = law.encoding;
  some = into false law.example law.encoding law.some;
}
  where
    begin_into : {prefix : List ℕ} → Begins (S false) prefix → Begins (R false) prefix
    begin_into b = record { value = b.value; text = b.text; said = into false b.value b.text b.said; tail = b.tail; is = b.is }

pub weaker : {A : Type 0} {S : Bool → A → List ℕ → Type 0} {read : Parser A} (m n : ℕ) → m ≤ n → IsLaw m S read → IsLaw n S read
weaker m n more law = record {
  takes = law.takes;
  again = law.again;
  wrong = law.wrong;
  short = law.short;
  loose = law.loose;
  whole = law.whole;
  fits = λ x t h. le_trans (law.fits x t h) more;
  example = law.example;
  encoding = law.encoding;
  some = law.some;
}

-- nothing is read
pub record Nothing {A : Type 0} (x : A) (o : Bool) (y : A) (text : List ℕ) : Type 0 where
  pub value : y ≡ x
  pub is : text ≡ []

pub done_law : {A : Type 0} (x : A) → IsLaw 0 (Nothing x) (done x)
done_law {A = A} x = record {
  takes = λ y t rest h. ap (λ (l : List ℕ). Ok (x, l ++ rest)) h.is ∙ ap (λ (z : A). Ok (z, rest)) (sym h.value);
  again = λ bytes rest y e. let p = same_value x y bytes rest e in record { text = []; said = record { value = sym p.0; is = refl }; is = p.1 };
  wrong = λ bytes left e. absurd (no_value _ _ e);
  short = λ bytes e. absurd (no_value _ _ e);
  loose = λ y t h. record { value = h.value; is = h.is };
  whole = λ y t h. subst IsWhole (sym h.is) tt;
  fits = λ y t h. le_of_eq (ap length h.is);
  example = x;
  encoding = [];
  some = record { value = refl; is = refl };
}
