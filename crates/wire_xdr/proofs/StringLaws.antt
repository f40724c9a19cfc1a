-- Strings with their padding are read exactly, four bytes at a time.
use Rattle.std.proofs.Common.{◌≡◌, ◌<◌, ◌≤◌, ◌∷◌, ◌∙◌, ◌++◌, ◌+◌, ◌*◌, ◌^◌, ℕ, suc, zero, Bool, true, false, not, ◌&&◌, ◌||◌, sym, refl, ap, ap₂, subst, List, [], length, take, drop, replicate, arith, append_assoc, append-nil, length-append, Option, Some, None, nat_lt, nat_eq, ◌==◌, if◌then◌else◌}
use Rattle.std.specs.List.{list_all}
use Rattle.std.specs.declared.cmp.Ordering.{Ordering}
use Rattle.std.specs.declared.cmp.Ordering.TheVariants.{Less, Equal, Greater}
use Rattle.std.specs.Ordering.{nat_cmp, is_lt}
use Rattle.std.specs.Cmp.Lexicographic.{slice_cmp}
use Rattle.wire_xdr.specs.Xdr.{unit, padding, padded, opaque}
use Rattle.wire_xdr.specs.code.Parsers.{Parser, chain, done, two, quad_where, is_less, left_of, is_free, is_greater, is_zero, is_inner_quad, is_last_quad, end_at, string_at, opaque_at, bytes_at, any_byte}
use Rattle.wire_xdr.proofs.Names.{greater_by}
use Rattle.wire_xdr.proofs.Laws.{IsLaw, Then, Nothing, chain_law, done_law, restated, weaker}
use Rattle.wire_xdr.proofs.QuadLaws.{Says, pick, IsQuad, same, quad_law, IsBetween, between_law, relegal, and_true}
use Rattle.wire_xdr.proofs.FieldLaws.{Keyed, keyed_law}

pub record IsStr (class : ℕ → Bool) (n : ℕ) (e : Option (List ℕ)) (x : List ℕ) : Type 0 where
  pub size : length x ≡ n
  pub passes : list_all class x ≡ true
  pub above : is_greater e x ≡ true

abbrev pub IsString : (ℕ → Bool) → ℕ → Option (List ℕ) → Bool → List ℕ → Type 0
IsString class n e o x = IsStr class n (pick e None o) x

both_true : (p q : Bool) → p ≡ true → q ≡ true → (p && q) ≡ true
both_true p q hp hq = ap₂ (λ (a b : Bool). a && b) hp hq

zeros_four : (n : ℕ) (q : List ℕ) → 1 ≤ n → n ≤ 4 → length q ≡ 4 → list_all is_zero (drop n q) ≡ true → (length (take n q) ≡ n) × (padded (take n q) ≡ q)
zeros_four zero q some few size h = absurd (omega (arith, some))
zeros_four (suc zero) (a ∷ b ∷ c ∷ d ∷ []) some few size h =
    let hb = and_true (is_zero b) _ h in let hc = and_true (is_zero c) _ hb.1 in let hd = and_true (is_zero d) _ hc.1 in
    (refl, ap₂ (λ (x : ℕ) (l : List ℕ). a ∷ x ∷ l) (zero_is b hb.0) (ap₂ (λ (x y : ℕ). x ∷ y ∷ []) (zero_is c hc.0) (zero_is d hd.0)))
  where
    zero_is : (x : ℕ) → is_zero x ≡ true → 0 ≡ x
    zero_is x e = grind (arith, e)
zeros_four (suc (suc zero)) (a ∷ b ∷ c ∷ d ∷ []) some few size h =
    let hc = and_true (is_zero c) _ h in let hd = and_true (is_zero d) _ hc.1 in
    (refl, ap₂ (λ (x y : ℕ). a ∷ b ∷ x ∷ y ∷ []) (zero_is c hc.0) (zero_is d hd.0))
  where
    zero_is : (x : ℕ) → is_zero x ≡ true → 0 ≡ x
    zero_is x e = grind (arith, e)
zeros_four (suc (suc (suc zero))) (a ∷ b ∷ c ∷ d ∷ []) some few size h =
    let hd = and_true (is_zero d) _ h in (refl, ap (λ (x : ℕ). a ∷ b ∷ c ∷ x ∷ []) (zero_is d hd.0))
  where
    zero_is : (x : ℕ) → is_zero x ≡ true → 0 ≡ x
    zero_is x e = grind (arith, e)
zeros_four (suc (suc (suc (suc zero)))) (a ∷ b ∷ c ∷ d ∷ []) some few size h = (refl, refl)
zeros_four (suc (suc (suc (suc (suc n))))) q some few size h = absurd (omega (arith, few))
zeros_four (suc n) [] some few size h = absurd (omega (arith, size))
zeros_four (suc n) (a ∷ []) some few size h = absurd (omega (arith, size))
zeros_four (suc n) (a ∷ b ∷ []) some few size h = absurd (omega (arith, size))
zeros_four (suc n) (a ∷ b ∷ c ∷ []) some few size h = absurd (omega (arith, size))
zeros_four (suc n) (a ∷ b ∷ c ∷ d ∷ e ∷ more) some few size h = absurd (omega (arith, size))

pub record Padded (n : ℕ) (x : List ℕ) : Type 0 where
  pub size : length (padded x) ≡ 4
  pub prefix : take n (padded x) ≡ x
  pub zeros : list_all is_zero (drop n (padded x)) ≡ true

four_padded : (n : ℕ) (x : List ℕ) → 1 ≤ n → n ≤ 4 → length x ≡ n → Padded n x
four_padded zero x some few size = absurd (omega (arith, some))
four_padded (suc zero) (a ∷ []) some few size = record { size = refl; prefix = refl; zeros = refl }
four_padded (suc (suc zero)) (a ∷ b ∷ []) some few size = record { size = refl; prefix = refl; zeros = refl }
four_padded (suc (suc (suc zero))) (a ∷ b ∷ c ∷ []) some few size = record { size = refl; prefix = refl; zeros = refl }
four_padded (suc (suc (suc (suc zero)))) (a ∷ b ∷ c ∷ d ∷ []) some few size = record { size = refl; prefix = refl; zeros = refl }
four_padded (suc (suc (suc (suc (suc n))))) x some few size = absurd (omega (arith, few))
four_padded (suc n) [] some few size = absurd (omega (arith, size))
four_padded (suc zero) (a ∷ b ∷ x) some few size = absurd (omega (arith, size))
four_padded (suc (suc n)) (a ∷ []) some few size = absurd (omega (arith, size))
four_padded (suc (suc zero)) (a ∷ b ∷ c ∷ x) some few size = absurd (omega (arith, size))
four_padded (suc (suc (suc n))) (a ∷ b ∷ []) some few size = absurd (omega (arith, size))
four_padded (suc (suc (suc zero))) (a ∷ b ∷ c ∷ d ∷ x) some few size = absurd (omega (arith, size))
four_padded (suc (suc (suc (suc n)))) (a ∷ b ∷ c ∷ []) some few size = absurd (omega (arith, size))
four_padded (suc (suc (suc (suc zero)))) (a ∷ b ∷ c ∷ d ∷ f ∷ x) some few size = absurd (omega (arith, size))

picked : {A B : Type 0} (f : A → B → Bool) (x y : A) (o : Bool) (b : B) → pick (f x) (f y) o b ≡ f (pick x y o) b
picked f x y true b = refl
picked f x y false b = refl

repeated : (class : ℕ → Bool) (c0 : ℕ) → class c0 ≡ true → (n : ℕ) → (length (replicate n c0) ≡ n) × (list_all class (replicate n c0) ≡ true)
repeated class c0 h zero = (refl, refl)
repeated class c0 h (suc n) = let r = repeated class c0 h n in (ap suc r.0, both_true (class c0) (list_all class (replicate n c0)) h r.1)

well_ends : (class : ℕ → Bool) (e : Option (List ℕ)) (n : ℕ) (x : List ℕ) → 1 ≤ n → n ≤ 4 → IsStr class n e x → is_last_quad class e n (padded x) ≡ true
well_ends class e n x some few h =
    let p = four_padded n x some few h.size in
    both_true _ (list_all is_zero (drop n (padded x)))
    (both_true (list_all class (take n (padded x))) (is_greater e (take n (padded x))) (ap (list_all class) p.prefix ∙ h.passes) (ap (is_greater e) p.prefix ∙ h.above)) p.zeros

ends_well_is : (class : ℕ → Bool) (e : Option (List ℕ)) (n : ℕ) (q : List ℕ) → 1 ≤ n → n ≤ 4 → length q ≡ 4 → is_last_quad class e n q ≡ true → IsStr class n e (take n q) × (padded (take n q) ≡ q)
ends_well_is class e n q some few size h =
    let a = and_true (list_all class (take n q) && is_greater e (take n q)) (list_all is_zero (drop n q)) h in
    let b = and_true (list_all class (take n q)) (is_greater e (take n q)) a.0 in
    let z = zeros_four n q some few size a.1 in
    (record { size = z.0; passes = b.0; above = b.1 }, z.1)

end_law : (class : ℕ → Bool) (c0 : ℕ) → class c0 ≡ true → (e : Option (List ℕ)) (n : ℕ) → 1 ≤ n → n ≤ 4 → IsLaw 4 (Says (IsString class n e) padded) (end_at class e n)
end_law class c0 h0 e n some few =
    restated into from (chain_law (quad_law (is_last_quad class e n) (is_last_quad class None n) (padded (replicate n c0)) looser
    (record { size = (four_padded n (replicate n c0) some few (repeated class c0 h0 n).0).size; passes = well_ends class None n (replicate n c0) some few example })) (λ q t h. done_law (take n q)))
  where
    example : IsStr class n None (replicate n c0)
    example = let r = repeated class c0 h0 n in record { size = r.0; passes = r.1; above = refl }

    looser : (q : List ℕ) → is_last_quad class e n q ≡ true → is_last_quad class None n q ≡ true
    looser q h =
        let a = and_true (list_all class (take n q) && is_greater e (take n q)) (list_all is_zero (drop n q)) h in
        let b = and_true (list_all class (take n q)) (is_greater e (take n q)) a.0 in
        both_true _ (list_all is_zero (drop n q)) (both_true (list_all class (take n q)) true b.0 refl) a.1

    into : (o : Bool) (x : List ℕ) (t : List ℕ) → Then (Says (IsQuad (is_last_quad class e n) (is_last_quad class None n)) same) (λ (q : List ℕ). Nothing (take n q)) o x t → Says (IsString class n e) padded o x t
    into o x t h =
        let q = h.first in
        let w = ends_well_is class (pick e None o) n q some few h.said.legal.size (sym (picked (λ (y : Option (List ℕ)) (l : List ℕ). is_last_quad class y n l) e None o q) ∙ h.said.legal.passes) in
        record {
          legal = subst (λ (l : List ℕ). IsString class n e o l) (sym h.rest.value) w.0;
          is = h.is ∙ ap₂ (λ (y z : List ℕ). y ++ z) h.said.is h.rest.is ∙ append-nil q ∙ sym w.1 ∙ ap padded (sym h.rest.value);
        }

    from : (o : Bool) (x : List ℕ) (t : List ℕ) → Says (IsString class n e) padded o x t → Then (Says (IsQuad (is_last_quad class e n) (is_last_quad class None n)) same) (λ (q : List ℕ). Nothing (take n q)) o x t
    from o x t h = let p = four_padded n x some few h.legal.size in
        record {
          first = padded x;
          prefix = padded x;
          back = [];
          is = h.is ∙ sym (append-nil (padded x));
          rest = record { value = sym p.prefix; is = refl };
          said = record { is = refl; legal = record { size = p.size; passes = picked (λ (y : Option (List ℕ)) (l : List ℕ). is_last_quad class y n l) e None o (padded x) ∙ well_ends class (pick e None o) n x some few h.legal } };
        }

-- bytes that follow one another, compared with an earlier name
step_eq : (t : Bool) (r l : Bool) → (if t then r || l else false) ≡ ((if t then r else false) || (if t then l else false))
step_eq true r l = refl
step_eq false r l = refl

less_parts : (e : Option (List ℕ)) (q x : List ℕ) → is_less e (q ++ x) ≡ (is_less e q || is_less (left_of e q) x)
less_parts None q x = refl
less_parts (Some e) [] x = refl_less e x
  where
    refl_less : (f y : List ℕ) → is_less (Some f) y ≡ (is_less (Some f) [] || is_less (left_of (Some f) []) y)
    refl_less [] y = refl
    refl_less (f ∷ fs) y = refl
less_parts (Some []) (b ∷ q) x = refl
less_parts (Some (f ∷ e)) (b ∷ q) x = at (b == f) (less_parts (Some e) q x)
  where
    at : (t : Bool) → is_less (Some e) (q ++ x) ≡ (is_less (Some e) q || is_less (left_of (Some e) q) x)
        → (if t then is_less (Some e) (q ++ x) else nat_lt b f) ≡ ((if t then is_less (Some e) q else nat_lt b f) || is_less (if t then left_of (Some e) q else None) x)
    at true h = h
    at false h = or_none (nat_lt b f)
      where
        or_none : (s : Bool) → s ≡ (s || false)
        or_none true = refl
        or_none false = refl

left_parts : (e : Option (List ℕ)) (q x : List ℕ) → left_of e (q ++ x) ≡ left_of (left_of e q) x
left_parts None q x = refl
left_parts (Some e) [] x = refl
left_parts (Some []) (b ∷ q) x = refl
left_parts (Some (f ∷ e)) (b ∷ q) x = at (b == f) (left_parts (Some e) q x)
  where
    at : (t : Bool) → left_of (Some e) (q ++ x) ≡ left_of (left_of (Some e) q) x → (if t then left_of (Some e) (q ++ x) else None) ≡ left_of (if t then left_of (Some e) q else None) x
    at true h = h
    at false h = refl

greater_parts : (e : Option (List ℕ)) (q x : List ℕ) → is_greater e (q ++ x) ≡ (not (is_less e q) && is_greater (left_of e q) x)
greater_parts e q x =
    ap₂ (λ (s : Bool) (l : Option (List ℕ)). not s && is_free l) (less_parts e q x) (left_parts e q x)
    ∙ sorted (is_less e q) (is_less (left_of e q) x) (is_free (left_of (left_of e q) x))
  where
    sorted : (a b c : Bool) → (not (a || b) && c) ≡ (not a && (not b && c))
    sorted true b c = refl
    sorted false b c = refl

all_parts : (class : ℕ → Bool) (q x : List ℕ) → list_all class (q ++ x) ≡ (list_all class q && list_all class x)
all_parts class [] x = refl
all_parts class (b ∷ q) x = at (class b) (all_parts class q x)
  where
    at : (t : Bool) → list_all class (q ++ x) ≡ (list_all class q && list_all class x) → (t && list_all class (q ++ x)) ≡ ((t && list_all class q) && list_all class x)
    at true h = h
    at false h = refl

padded_quad : (q x : List ℕ) → length q ≡ 4 → padded (q ++ x) ≡ q ++ padded x
padded_quad [] x size = absurd (omega (arith, size))
padded_quad (a ∷ []) x size = absurd (omega (arith, size))
padded_quad (a ∷ b ∷ []) x size = absurd (omega (arith, size))
padded_quad (a ∷ b ∷ c ∷ []) x size = absurd (omega (arith, size))
padded_quad (a ∷ b ∷ c ∷ d ∷ []) x size = refl
padded_quad (a ∷ b ∷ c ∷ d ∷ e ∷ more) x size = absurd (omega (arith, size))

pub record Parted (x : List ℕ) (n : ℕ) : Type 0 where
  pub quad : List ℕ
  pub later : List ℕ
  pub is : x ≡ quad ++ later
  pub size : length quad ≡ 4
  pub left : length later ≡ n

parted : (x : List ℕ) (n : ℕ) → length x ≡ suc (suc (suc (suc n))) → Parted x n
parted [] n size = absurd (omega (arith, size))
parted (a ∷ []) n size = absurd (omega (arith, size))
parted (a ∷ b ∷ []) n size = absurd (omega (arith, size))
parted (a ∷ b ∷ c ∷ []) n size = absurd (omega (arith, size))
parted (a ∷ b ∷ c ∷ d ∷ x) n size = record { quad = a ∷ b ∷ c ∷ d ∷ []; later = x; is = refl; size = refl; left = omega (arith, size) }

long_law : (class : ℕ → Bool) (c0 : ℕ) → class c0 ≡ true → (e : Option (List ℕ)) (n m : ℕ) → ((f : Option (List ℕ)) → IsLaw m (Says (IsString class (suc n) f) padded) (string_at class f (suc n)))
    → IsLaw (4 + (m + 0)) (Says (IsString class (suc (suc (suc (suc (suc n))))) e) padded) (string_at class e (suc (suc (suc (suc (suc n))))))
long_law class c0 h0 e n m later =
    restated into from (chain_law (quad_law (is_inner_quad class e) (is_inner_quad class None) (c0 ∷ c0 ∷ c0 ∷ c0 ∷ []) looser (record { size = refl; passes = both_true (list_all class (c0 ∷ c0 ∷ c0 ∷ c0 ∷ [])) true (repeated class c0 h0 4).1 refl }))
    (λ q t h. chain_law (later (left_of e q)) (λ x s k. done_law (q ++ x))))
  where
    looser : (q : List ℕ) → is_inner_quad class e q ≡ true → is_inner_quad class None q ≡ true
    looser q h = both_true (list_all class q) true (and_true (list_all class q) (not (is_less e q)) h).0 refl

    left_pick : (o : Bool) (q : List ℕ) → pick (left_of e q) None o ≡ left_of (pick e None o) q
    left_pick true q = refl
    left_pick false q = refl

    into : (o : Bool) (x t : List ℕ) → Then (Says (IsQuad (is_inner_quad class e) (is_inner_quad class None)) same) (λ (q : List ℕ). Then (Says (IsString class (suc n) (left_of e q)) padded) (λ (y : List ℕ). Nothing (q ++ y))) o x t
        → Says (IsString class (suc (suc (suc (suc (suc n))))) e) padded o x t
    into o x t h =
        let q = h.first in let y = h.rest.first in let l = h.rest.said.legal in
        let g = and_true (list_all class q) (not (is_less (pick e None o) q)) (sym (picked (λ (f : Option (List ℕ)) (k : List ℕ). is_inner_quad class f k) e None o q) ∙ h.said.legal.passes) in
        let w : IsStr class (suc (suc (suc (suc (suc n))))) (pick e None o) (q ++ y) =
        record {
          size = length-append q y ∙ ap₂ (λ (a b : ℕ). a + b) h.said.legal.size l.size ∙ four_more n;
          passes = all_parts class q y ∙ both_true (list_all class q) (list_all class y) g.0 l.passes;
          above = greater_parts (pick e None o) q y ∙ both_true (not (is_less (pick e None o) q)) (is_greater (left_of (pick e None o) q) y) g.1 (ap (λ (f : Option (List ℕ)). is_greater f y) (sym (left_pick o q)) ∙ l.above);
        } in
        record {
          legal = subst (λ (k : List ℕ). IsString class (suc (suc (suc (suc (suc n))))) e o k) (sym h.rest.rest.value) w;
          is = h.is ∙ ap₂ (λ (a b : List ℕ). a ++ b) h.said.is (h.rest.is ∙ ap₂ (λ (a b : List ℕ). a ++ b) h.rest.said.is h.rest.rest.is ∙ append-nil (padded y)) ∙ sym (padded_quad q y h.said.legal.size) ∙ ap padded (sym h.rest.rest.value);
        }
      where
        four_more : (k : ℕ) → 4 + suc k ≡ suc (suc (suc (suc (suc k))))
        four_more k = omega arith

    from : (o : Bool) (x t : List ℕ) → Says (IsString class (suc (suc (suc (suc (suc n))))) e) padded o x t
        → Then (Says (IsQuad (is_inner_quad class e) (is_inner_quad class None)) same) (λ (q : List ℕ). Then (Says (IsString class (suc n) (left_of e q)) padded) (λ (y : List ℕ). Nothing (q ++ y))) o x t
    from o x t h =
        let p = parted x (suc n) h.legal.size in
        let c = and_true (list_all class p.quad) (list_all class p.later) (sym (all_parts class p.quad p.later) ∙ ap (list_all class) (sym p.is) ∙ h.legal.passes) in
        let g = and_true (not (is_less (pick e None o) p.quad)) (is_greater (left_of (pick e None o) p.quad) p.later) (sym (greater_parts (pick e None o) p.quad p.later) ∙ ap (is_greater (pick e None o)) (sym p.is) ∙ h.legal.above) in
        record {
          first = p.quad;
          prefix = p.quad;
          back = padded p.later;
          said = record { is = refl; legal = record { size = p.size; passes = picked (λ (f : Option (List ℕ)) (k : List ℕ). is_inner_quad class f k) e None o p.quad ∙ both_true (list_all class p.quad) (not (is_less (pick e None o) p.quad)) c.0 g.0 } };
          rest = record {
            first = p.later;
            prefix = padded p.later;
            back = [];
            is = sym (append-nil (padded p.later));
            rest = record { value = p.is; is = refl };
            said = record { is = refl; legal = record { size = p.left; passes = c.1; above = ap (λ (f : Option (List ℕ)). is_greater f p.later) (left_pick o p.quad) ∙ g.1 } };
          };
          is = h.is ∙ ap padded p.is ∙ padded_quad p.quad p.later p.size;
        }

pub string_law : (class : ℕ → Bool) (c0 : ℕ) → class c0 ≡ true → (n : ℕ) (e : Option (List ℕ)) → 1 ≤ n → IsLaw (4 * n) (Says (IsString class n e) padded) (string_at class e n)
string_law class c0 h zero e some = absurd (omega (arith, some))
string_law class c0 h (suc zero) e some = end_law class c0 h e 1 (omega arith) (omega arith)
string_law class c0 h (suc (suc zero)) e some = weaker 4 8 (omega arith) (end_law class c0 h e 2 (omega arith) (omega arith))
string_law class c0 h (suc (suc (suc zero))) e some = weaker 4 12 (omega arith) (end_law class c0 h e 3 (omega arith) (omega arith))
string_law class c0 h (suc (suc (suc (suc zero)))) e some = weaker 4 16 (omega arith) (end_law class c0 h e 4 (omega arith) (omega arith))
string_law class c0 h (suc (suc (suc (suc (suc n))))) e some =
    weaker (4 + (4 * suc n + 0)) (4 * suc (suc (suc (suc (suc n))))) (omega arith) (long_law class c0 h e n (4 * suc n) (λ f. string_law class c0 h (suc n) f (omega arith)))

pub empty_law : (class : ℕ → Bool) → IsLaw 0 (Says (IsString class 0 None) padded) (string_at class None 0)
empty_law class = restated into from (done_law [])
  where
    none_above : (o : Bool) → is_greater (pick None None o) [] ≡ true
    none_above true = refl
    none_above false = refl

    into : (o : Bool) (x t : List ℕ) → Nothing [] o x t → Says (IsString class 0 None) padded o x t
    into o x t h = record { legal = subst (λ (l : List ℕ). IsString class 0 None o l) (sym h.value) (record { size = refl; passes = refl; above = none_above o }); is = h.is ∙ ap padded (sym h.value) }

    no_items : (x : List ℕ) → length x ≡ 0 → x ≡ []
    no_items [] e = refl
    no_items (b ∷ x) e = absurd (omega (arith, e))

    from : (o : Bool) (x t : List ℕ) → Says (IsString class 0 None) padded o x t → Nothing [] o x t
    from o x t h = let z = no_items x h.legal.size in record { value = z; is = h.is ∙ ap padded z }

-- a name of bounded length, of a class, after an earlier one
pub record IsName (class : ℕ → Bool) (least most : ℕ) (e : Option (List ℕ)) (o : Bool) (x : List ℕ) : Type 0 where
  pub low : least ≤ length x
  pub high : length x ≤ most
  pub passes : list_all class x ≡ true
  pub above : is_greater (pick e None o) x ≡ true

name_relegal : {class : ℕ → Bool} {least most : ℕ} {e : Option (List ℕ)} {m : ℕ} {read : Parser (List ℕ)} → IsLaw m (Says (Keyed (IsBetween least most) (λ (k : ℕ). IsString class k e)) opaque) read → IsLaw m (Says (IsName class least most e) opaque) read
name_relegal {class = class} {least = least} {most = most} {e = e} law =
    relegal {F = Keyed (IsBetween least most) (λ (k : ℕ). IsString class k e)} (λ o x h. record { low = subst (λ (k : ℕ). least ≤ k) (sym h.arm.size) h.named.low; high = subst (λ (k : ℕ). k ≤ most) (sym h.arm.size) h.named.high; passes = h.arm.passes; above = h.arm.above })
    (λ o x h. record { number = length x; named = record { low = h.low; high = h.high }; arm = record { size = refl; passes = h.passes; above = h.above } }) law

pub name_law : (class : ℕ → Bool) (c0 : ℕ) → class c0 ≡ true → (e : Option (List ℕ)) (least most : ℕ) → 1 ≤ least → least ≤ most → most < 2 ^ 32
    → IsLaw (4 + 4 * most) (Says (IsName class least most e) opaque) (opaque_at class e least most)
name_law class c0 h e least most some more small =
    name_relegal (keyed_law length padded (λ k o x p. p.size) (between_law least most more small)
    (λ k p. weaker (4 * k) (4 * most) (omega (arith, p.high)) (string_law class c0 h k e (omega (arith, some, p.low)))))

pub bytes_law : (most : ℕ) → most < 2 ^ 32 → IsLaw (4 + 4 * most) (Says (IsName any_byte 0 most None) opaque) (bytes_at most)
bytes_law most small =
    name_relegal (keyed_law length padded (λ k o x p. p.size) (between_law 0 most (omega arith) small) (λ k p. weaker (4 * k) (4 * most) (omega (arith, p.high)) (any k)))
  where
    any : (k : ℕ) → IsLaw (4 * k) (Says (IsString any_byte k None) padded) (string_at any_byte None k)
    any zero = empty_law any_byte
    any (suc k) = string_law any_byte 0 refl (suc k) None (omega arith)
