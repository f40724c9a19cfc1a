-- Fields one after the other, unions by a number and lists are read exactly where their parts are.
use Rattle.std.proofs.Common.{◌≡◌, ◌<◌, ◌≤◌, ◌∷◌, ◌∙◌, ◌++◌, ◌+◌, ◌*◌, ◌^◌, ℕ, suc, zero, Bool, true, false, sym, refl, ap, ap₂, subst, List, [], length, arith, append_assoc, append-nil, Option, Some, None, Result, Ok, Err, le_of_eq}
use Rattle.wire_xdr.specs.Xdr.{unit, texts, list}
use Rattle.wire_xdr.specs.Order.{Each, Follows, RisesFrom}
use Rattle.std.specs.declared.cmp.Ordering.{Ordering}
use Rattle.wire_xdr.specs.code.Parsers.{Parser, chain, done, one, two, three, four, between_at, items_at, list_at}
use Rattle.wire_xdr.proofs.Laws.{IsLaw, Then, Nothing, chain_law, done_law, restated, weaker}
use Rattle.wire_xdr.proofs.QuadLaws.{Says, IsBetween, between_law, relegal}

pub record Made1 {A D : Type 0} (FA : Bool → A → Type 0) (make : A → D) (o : Bool) (y : D) : Type 0 where
  pub a : A
  pub said_a : FA o a
  pub made : y ≡ make a

pub record Made2 {A B D : Type 0} (FA : Bool → A → Type 0) (FB : A → Bool → B → Type 0) (make : A → B → D) (o : Bool) (y : D) : Type 0 where
  pub a : A
  pub b : B
  pub said_a : FA o a
  pub said_b : FB a o b
  pub made : y ≡ make a b

pub record Made3 {A B C D : Type 0} (FA : Bool → A → Type 0) (FB : A → Bool → B → Type 0) (FC : A → B → Bool → C → Type 0) (make : A → B → C → D) (o : Bool) (y : D) : Type 0 where
  pub a : A
  pub b : B
  pub c : C
  pub said_a : FA o a
  pub said_b : FB a o b
  pub said_c : FC a b o c
  pub made : y ≡ make a b c

pub record Made4 {A B C E D : Type 0} (FA : Bool → A → Type 0) (FB : A → Bool → B → Type 0) (FC : A → B → Bool → C → Type 0) (FE : A → B → C → Bool → E → Type 0) (make : A → B → C → E → D) (o : Bool) (y : D) : Type 0 where
  pub a : A
  pub b : B
  pub c : C
  pub e : E
  pub said_a : FA o a
  pub said_b : FB a o b
  pub said_c : FC a b o c
  pub said_e : FE a b c o e
  pub made : y ≡ make a b c e

pub one_law : {A D : Type 0} {m : ℕ} {FA : Bool → A → Type 0} {tA : A → List ℕ} {rA : Parser A} (make : A → D) (text : D → List ℕ) → ((o : Bool) (a : A) → FA o a → text (make a) ≡ tA a)
    → IsLaw m (Says FA tA) rA → IsLaw m (Says (Made1 FA make) text) (one make rA)
one_law {A = A} {D = D} {m = m} {FA = FA} {tA = tA} make text joins la = weaker (m + 0) m (omega arith) (restated into from (chain_law la (λ a t h. done_law (make a))))
  where
    into : (o : Bool) (y : D) (t : List ℕ) → Then (Says FA tA) (λ (a : A). Nothing (make a)) o y t → Says (Made1 FA make) text o y t
    into o y t h = record {
      legal = record { a = h.first; said_a = h.said.legal; made = h.rest.value };
      is = h.is ∙ ap₂ (λ (x z : List ℕ). x ++ z) h.said.is h.rest.is ∙ append-nil (tA h.first) ∙ sym (joins o h.first h.said.legal) ∙ ap text (sym h.rest.value);
    }

    from : (o : Bool) (y : D) (t : List ℕ) → Says (Made1 FA make) text o y t → Then (Says FA tA) (λ (a : A). Nothing (make a)) o y t
    from o y t h = let l = h.legal in record {
      first = l.a;
      prefix = tA l.a;
      back = [];
      said = record { legal = l.said_a; is = refl };
      rest = record { value = l.made; is = refl };
      is = h.is ∙ ap text l.made ∙ joins o l.a l.said_a ∙ sym (append-nil (tA l.a));
    }

pub two_law : {A B D : Type 0} {mA mB : ℕ} {FA : Bool → A → Type 0} {FB : A → Bool → B → Type 0} {tA : A → List ℕ} {tB : B → List ℕ} {rA : Parser A} {rB : A → Parser B}
    (make : A → B → D) (text : D → List ℕ) → ((o : Bool) (a : A) (b : B) → FA o a → FB a o b → text (make a b) ≡ tA a ++ tB b)
    → IsLaw mA (Says FA tA) rA → ((a : A) → FA false a → IsLaw mB (Says (FB a) tB) (rB a)) → IsLaw (mA + mB) (Says (Made2 FA FB make) text) (two make rA rB)
two_law {A = A} {B = B} {D = D} {mA = mA} {mB = mB} {FA = FA} {FB = FB} {tA = tA} {tB = tB} make text joins la lb =
    weaker (mA + (mB + 0)) (mA + mB) (omega arith) (restated into from (chain_law la (λ a t h. chain_law (lb a h.legal) (λ b s k. done_law (make a b)))))
  where
    into : (o : Bool) (y : D) (t : List ℕ) → Then (Says FA tA) (λ (a : A). Then (Says (FB a) tB) (λ (b : B). Nothing (make a b))) o y t → Says (Made2 FA FB make) text o y t
    into o y t h = let r = h.rest in
        record {
          legal = record { a = h.first; b = r.first; said_a = h.said.legal; said_b = r.said.legal; made = r.rest.value };
          is = h.is ∙ ap₂ (λ (x z : List ℕ). x ++ z) h.said.is (r.is ∙ ap₂ (λ (x z : List ℕ). x ++ z) r.said.is r.rest.is ∙ append-nil (tB r.first)) ∙ sym (joins o h.first r.first h.said.legal r.said.legal) ∙ ap text (sym r.rest.value);
        }

    from : (o : Bool) (y : D) (t : List ℕ) → Says (Made2 FA FB make) text o y t → Then (Says FA tA) (λ (a : A). Then (Says (FB a) tB) (λ (b : B). Nothing (make a b))) o y t
    from o y t h = let l = h.legal in
        record {
          first = l.a;
          prefix = tA l.a;
          back = tB l.b;
          said = record { legal = l.said_a; is = refl };
          rest = record { first = l.b; prefix = tB l.b; back = []; said = record { legal = l.said_b; is = refl }; rest = record { value = l.made; is = refl }; is = sym (append-nil (tB l.b)) };
          is = h.is ∙ ap text l.made ∙ joins o l.a l.b l.said_a l.said_b;
        }

pub three_law : {A B C D : Type 0} {mA mB mC : ℕ} {FA : Bool → A → Type 0} {FB : A → Bool → B → Type 0} {FC : A → B → Bool → C → Type 0} {tA : A → List ℕ} {tB : B → List ℕ} {tC : C → List ℕ}
    {rA : Parser A} {rB : A → Parser B} {rC : A → B → Parser C} (make : A → B → C → D) (text : D → List ℕ) → ((o : Bool) (a : A) (b : B) (c : C) → FA o a → FB a o b → FC a b o c → text (make a b c) ≡ tA a ++ (tB b ++ tC c))
    → IsLaw mA (Says FA tA) rA → ((a : A) → FA false a → IsLaw mB (Says (FB a) tB) (rB a)) → ((a : A) (b : B) → FA false a → FB a false b → IsLaw mC (Says (FC a b) tC) (rC a b))
    → IsLaw (mA + (mB + mC)) (Says (Made3 FA FB FC make) text) (three make rA rB rC)
three_law {A = A} {B = B} {C = C} {D = D} {FA = FA} {FB = FB} {FC = FC} {tA = tA} {tB = tB} {tC = tC} make text joins la lb lc =
    relegal into from (two_law {B = B × C} {tB = λ (p : B × C). tB p.0 ++ tC p.1} (λ (a : A) (p : B × C). make a p.0 p.1) text joined la
    (λ a h. two_law (λ (b : B) (c : C). (b, c)) (λ (p : B × C). tB p.0 ++ tC p.1) (λ o b c k l. refl) (lb a h) (λ b k. lc a b h k)))
  where
    joined : (o : Bool) (a : A) (p : B × C) → FA o a → Made2 (FB a) (FC a) (λ (b : B) (c : C). (b, c)) o p → text (make a p.0 p.1) ≡ tA a ++ (tB p.0 ++ tC p.1)
    joined o a p x k = ap (λ (q : B × C). text (make a q.0 q.1)) k.made ∙ joins o a k.a k.b x k.said_a k.said_b ∙ ap (λ (q : B × C). tA a ++ (tB q.0 ++ tC q.1)) (sym k.made)

    into : (o : Bool) (y : D) → Made2 FA (λ (a : A). Made2 (FB a) (FC a) (λ (b : B) (c : C). (b, c))) (λ (a : A) (p : B × C). make a p.0 p.1) o y → Made3 FA FB FC make o y
    into o y h = let k = h.said_b in
        record { a = h.a; b = k.a; c = k.b; said_a = h.said_a; said_b = k.said_a; said_c = k.said_b; made = h.made ∙ ap (λ (p : B × C). make h.a p.0 p.1) k.made }

    from : (o : Bool) (y : D) → Made3 FA FB FC make o y → Made2 FA (λ (a : A). Made2 (FB a) (FC a) (λ (b : B) (c : C). (b, c))) (λ (a : A) (p : B × C). make a p.0 p.1) o y
    from o y h = record { a = h.a; b = (h.b, h.c); said_a = h.said_a; said_b = record { a = h.b; b = h.c; said_a = h.said_b; said_b = h.said_c; made = refl }; made = h.made }

pub four_law : {A B C E D : Type 0} {mA mB mC mE : ℕ} {FA : Bool → A → Type 0} {FB : A → Bool → B → Type 0} {FC : A → B → Bool → C → Type 0} {FE : A → B → C → Bool → E → Type 0}
    {tA : A → List ℕ} {tB : B → List ℕ} {tC : C → List ℕ} {tE : E → List ℕ} {rA : Parser A} {rB : A → Parser B} {rC : A → B → Parser C} {rE : A → B → C → Parser E}
    (make : A → B → C → E → D) (text : D → List ℕ) → ((a : A) (b : B) (c : C) (e : E) → text (make a b c e) ≡ tA a ++ (tB b ++ (tC c ++ tE e)))
    → IsLaw mA (Says FA tA) rA → ((a : A) → FA false a → IsLaw mB (Says (FB a) tB) (rB a)) → ((a : A) (b : B) → FA false a → FB a false b → IsLaw mC (Says (FC a b) tC) (rC a b))
    → ((a : A) (b : B) (c : C) → FA false a → FB a false b → FC a b false c → IsLaw mE (Says (FE a b c) tE) (rE a b c))
    → IsLaw (mA + (mB + (mC + mE))) (Says (Made4 FA FB FC FE make) text) (four make rA rB rC rE)
four_law {A = A} {B = B} {C = C} {E = E} {D = D} {FA = FA} {FB = FB} {FC = FC} {FE = FE} {tB = tB} {tC = tC} {tE = tE} make text joins la lb lc le =
    relegal into from (two_law {B = B × C × E} {tB = λ (p : B × C × E). tB p.0 ++ (tC p.1 ++ tE p.2)} (λ (a : A) (p : B × C × E). make a p.0 p.1 p.2) text (λ o a p k l. joins a p.0 p.1 p.2) la
    (λ a h. three_law (λ (b : B) (c : C) (e : E). (b, c, e)) (λ (p : B × C × E). tB p.0 ++ (tC p.1 ++ tE p.2)) (λ o b c e k l m. refl) (lb a h) (λ b k. lc a b h k) (λ b c k l. le a b c h k l)))
  where
    into : (o : Bool) (y : D) → Made2 FA (λ (a : A). Made3 (FB a) (FC a) (FE a) (λ (b : B) (c : C) (e : E). (b, c, e))) (λ (a : A) (p : B × C × E). make a p.0 p.1 p.2) o y → Made4 FA FB FC FE make o y
    into o y h = let k = h.said_b in
        record { a = h.a; b = k.a; c = k.b; e = k.c; said_a = h.said_a; said_b = k.said_a; said_c = k.said_b; said_e = k.said_c; made = h.made ∙ ap (λ (p : B × C × E). make h.a p.0 p.1 p.2) k.made }

    from : (o : Bool) (y : D) → Made4 FA FB FC FE make o y → Made2 FA (λ (a : A). Made3 (FB a) (FC a) (FE a) (λ (b : B) (c : C) (e : E). (b, c, e))) (λ (a : A) (p : B × C × E). make a p.0 p.1 p.2) o y
    from o y h = record {
      a = h.a;
      b = (h.b, h.c, h.e);
      said_a = h.said_a;
      made = h.made;
      said_b = record { a = h.b; b = h.c; c = h.e; said_a = h.said_b; said_b = h.said_c; said_c = h.said_e; made = refl };
    }

-- a union: a number and the arm that it names
pub record Keyed {D : Type 0} (G : Bool → ℕ → Type 0) (F : ℕ → Bool → D → Type 0) (o : Bool) (y : D) : Type 0 where
  pub number : ℕ
  pub named : G o number
  pub arm : F number o y

pub keyed_law : {D : Type 0} {m : ℕ} {G : Bool → ℕ → Type 0} {F : ℕ → Bool → D → Type 0} {rA : Parser ℕ} {rB : ℕ → Parser D} (key : D → ℕ) (text : D → List ℕ)
    → ((k : ℕ) (o : Bool) (y : D) → F k o y → key y ≡ k) → IsLaw 4 (Says G unit) rA → ((k : ℕ) → G false k → IsLaw m (Says (F k) text) (rB k))
    → IsLaw (4 + m) (Says (Keyed G F) (λ (y : D). unit (key y) ++ text y)) (chain rA rB)
keyed_law {D = D} {G = G} {F = F} key text keys la lb = restated into from (chain_law la (λ k t h. lb k h.legal))
  where
    into : (o : Bool) (y : D) (t : List ℕ) → Then (Says G unit) (λ (k : ℕ). Says (F k) text) o y t → Says (Keyed G F) (λ (z : D). unit (key z) ++ text z) o y t
    into o y t h = record {
      legal = record { number = h.first; named = h.said.legal; arm = h.rest.legal };
      is = h.is ∙ ap₂ (λ (x z : List ℕ). x ++ z) (h.said.is ∙ ap unit (sym (keys h.first o y h.rest.legal))) h.rest.is;
    }

    from : (o : Bool) (y : D) (t : List ℕ) → Says (Keyed G F) (λ (z : D). unit (key z) ++ text z) o y t → Then (Says G unit) (λ (k : ℕ). Says (F k) text) o y t
    from o y t h = let l = h.legal in record {
      first = l.number;
      prefix = unit l.number;
      back = text y;
      said = record { legal = l.named; is = refl };
      rest = record { legal = l.arm; is = refl };
      is = h.is ∙ ap (λ (k : ℕ). unit k ++ text y) (keys l.number o y l.arm);
    }

-- nothing but a constant
pub record IsValue {D : Type 0} (x : D) (o : Bool) (y : D) : Type 0 where
  pub made : y ≡ x

pub value_law : {D : Type 0} (x : D) (text : D → List ℕ) → text x ≡ [] → IsLaw 0 (Says (IsValue x) text) (done x)
value_law {D = D} x text none = restated (λ o y t h. record { legal = record { made = h.value }; is = h.is ∙ sym none ∙ ap text (sym h.value) })
    (λ o y t h. record { value = h.legal.made; is = h.is ∙ ap text h.legal.made ∙ none }) (done_law x)

-- the items of a list
abbrev pub Items : {A : Type 0} → (Option A → ℕ → Bool → A → Type 0) → Option A → ℕ → Bool → List A → Type 0
Items F e zero o xs = IsValue [] o xs
Items F e (suc n) o xs = Made2 (F e n) (λ (x : _). Items F (Some x) n) (λ (x : _) (ys : List _). x ∷ ys) o xs

abbrev pub total : ℕ → ℕ → ℕ
total m zero = 0
total m (suc n) = m + total m n

pub items_law : {A : Type 0} {m : ℕ} (item : Option A → ℕ → Parser A) (F : Option A → ℕ → Bool → A → Type 0) (text : A → List ℕ) (Room : Option A → ℕ → Type 0)
    → ((e : Option A) (n : ℕ) → Room e (suc n) → IsLaw m (Says (F e n) text) (item e n)) → ((e : Option A) (n : ℕ) (x : A) → Room e (suc n) → F e n false x → Room (Some x) n)
    → (n : ℕ) (e : Option A) → Room e n → IsLaw (total m n) (Says (Items F e n) (texts text)) (items_at item e n)
items_law item F text Room each next zero e room = value_law [] (texts text) refl
items_law item F text Room each next (suc n) e room =
    two_law (λ (x : _) (ys : List _). x ∷ ys) (texts text) (λ o x ys k l. refl) (each e n room) (λ x h. items_law item F text Room each next n (Some x) (next e n x room h))

items_length : {A : Type 0} (F : Option A → ℕ → Bool → A → Type 0) (n : ℕ) (e : Option A) (o : Bool) (xs : List A) → Items F e n o xs → length xs ≡ n
items_length F zero e o xs h = ap length h.made
items_length F (suc n) e o xs h = ap length h.made ∙ ap suc (items_length F n (Some h.a) o h.b h.said_b)

pub list_law : {A : Type 0} {m : ℕ} (item : Option A → ℕ → Parser A) (F : Option A → ℕ → Bool → A → Type 0) (text : A → List ℕ) (Room : Option A → ℕ → Type 0)
    → ((e : Option A) (n : ℕ) → Room e (suc n) → IsLaw m (Says (F e n) text) (item e n)) → ((e : Option A) (n : ℕ) (x : A) → Room e (suc n) → F e n false x → Room (Some x) n)
    → (least most big : ℕ) → least ≤ most → most < 2 ^ 32 → ((k : ℕ) → k ≤ most → total m k ≤ big) → ((k : ℕ) → k ≤ most → Room None k)
    → IsLaw (4 + big) (Says (Keyed (IsBetween least most) (Items F None)) (list text)) (list_at item least most)
list_law {m = m} item F text Room each next least most big some small fits room =
    keyed_law length (texts text) (λ k o xs h. items_length F k None o xs h) (between_law least most some small)
    (λ k h. weaker (total m k) big (fits k h.high) (items_law item F text Room each next k None (room k h.high)))

-- such a list in the words of its legality
pub items_into : {A : Type 0} (F : Option A → ℕ → Bool → A → Type 0) (P : A → Type 0) (compare : A → A → Ordering) → ((e : Option A) (n : ℕ) (o : Bool) (x : A) → F e n o x → P x × Follows compare o e x)
    → (n : ℕ) (e : Option A) (o : Bool) (xs : List A) → Items F e n o xs → (length xs ≡ n) × Each P xs × RisesFrom compare o e xs
items_into F P compare into zero e o xs h = subst (λ (l : List _). (length l ≡ 0) × Each P l × RisesFrom compare o e l) (sym h.made) (refl, tt, tt)
items_into F P compare into (suc n) e o xs h =
    let r = items_into F P compare into n (Some h.a) o h.b h.said_b in let f = into e n o h.a h.said_a in
    subst (λ (l : List _). (length l ≡ suc n) × Each P l × RisesFrom compare o e l) (sym h.made) (ap suc r.0, (f.0, r.1), (f.1, r.2))

pub items_from : {A : Type 0} (F : Option A → ℕ → Bool → A → Type 0) (P : A → Type 0) (compare : A → A → Ordering) → ((e : Option A) (n : ℕ) (o : Bool) (x : A) → P x → Follows compare o e x → F e n o x)
    → (n : ℕ) (e : Option A) (o : Bool) (xs : List A) → length xs ≡ n → Each P xs → RisesFrom compare o e xs → Items F e n o xs
items_from F P compare from zero e o [] size each rises = record { made = refl }
items_from F P compare from zero e o (x ∷ xs) size each rises = absurd (omega (arith, size))
items_from F P compare from (suc n) e o [] size each rises = absurd (omega (arith, size))
items_from F P compare from (suc n) e o (x ∷ xs) size each rises =
    record { a = x; b = xs; said_a = from e n o x each.0 rises.0; said_b = items_from F P compare from n (Some x) o xs (omega (arith, size)) each.1 rises.1; made = refl }
