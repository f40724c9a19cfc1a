-- A string is read four bytes at a time.
use Rattle.std.proofs.Common.{inl, inr, ◌≡◌, ◌<◌, ◌≤◌, ◌∷◌, ◌∙◌, ◌++◌, ◌⊎◌, ◌+◌, ◌-◌, ℕ, suc, zero, Bool, true, false, not, sym, refl, ap, ap₂, subst, List, [], length, take, drop, arith, Option, Some, None, Result, Ok, Err, if◌then◌else◌}
use Rattle.wire_xdr.specs.declared.decode.faults.Fault.{Fault}
use Rattle.wire_xdr.specs.declared.decode.faults.Fault.TheVariants.{Wrong, Short, Memory}
use Rattle.wire_xdr.specs.code.Parsers.{Parser, Gives, after, chain, done, one, two, quad_of, quad_where, left_of, is_inner_quad, is_last_quad, end_at, string_at}

pub quad_passes : (fits : List ℕ → Bool) (bytes : List ℕ) → 4 ≤ length bytes → fits (take 4 bytes) ≡ true → quad_where fits bytes ≡ Ok (take 4 bytes, drop 4 bytes)
quad_passes fits [] enough h = absurd (omega (arith, enough))
quad_passes fits (a ∷ []) enough h = absurd (omega (arith, enough))
quad_passes fits (a ∷ b ∷ []) enough h = absurd (omega (arith, enough))
quad_passes fits (a ∷ b ∷ c ∷ []) enough h = absurd (omega (arith, enough))
quad_passes fits (a ∷ b ∷ c ∷ d ∷ rest) enough h = rw h refl

pub quad_fails : (fits : List ℕ → Bool) (bytes : List ℕ) → 4 ≤ length bytes → fits (take 4 bytes) ≡ false → quad_where fits bytes ≡ Err (Wrong (length bytes))
quad_fails fits [] enough h = absurd (omega (arith, enough))
quad_fails fits (a ∷ []) enough h = absurd (omega (arith, enough))
quad_fails fits (a ∷ b ∷ []) enough h = absurd (omega (arith, enough))
quad_fails fits (a ∷ b ∷ c ∷ []) enough h = absurd (omega (arith, enough))
quad_fails fits (a ∷ b ∷ c ∷ d ∷ rest) enough h =
    let size : 4 + length rest ≡ length (a ∷ b ∷ c ∷ d ∷ rest) = omega arith in
    rw h (ap (λ (n : ℕ). Err (Wrong n)) size)

pub quad_short : (fits : List ℕ → Bool) (bytes : List ℕ) → length bytes < 4 → quad_where fits bytes ≡ Err Short
quad_short fits [] few = refl
quad_short fits (a ∷ []) few = refl
quad_short fits (a ∷ b ∷ []) few = refl
quad_short fits (a ∷ b ∷ c ∷ []) few = refl
quad_short fits (a ∷ b ∷ c ∷ d ∷ rest) few = absurd (omega (arith, few))

pub end_of : (class : ℕ → Bool) (earlier : Option (List ℕ)) (n : ℕ) (bytes : List ℕ) → 1 ≤ n → n ≤ 4 → string_at class earlier n bytes ≡ end_at class earlier n bytes
end_of class earlier zero bytes some few = absurd (omega (arith, some))
end_of class earlier (suc zero) bytes some few = refl
end_of class earlier (suc (suc zero)) bytes some few = refl
end_of class earlier (suc (suc (suc zero))) bytes some few = refl
end_of class earlier (suc (suc (suc (suc zero)))) bytes some few = refl
end_of class earlier (suc (suc (suc (suc (suc n))))) bytes some few = absurd (omega (arith, few))

pub take_prefix : (n : ℕ) (xs : List ℕ) (m : ℕ) → n ≤ m → take n (take m xs) ≡ take n xs
take_prefix zero xs m h = refl
take_prefix (suc n) xs zero h = absurd (omega (arith, h))
take_prefix (suc n) [] (suc m) h = refl
take_prefix (suc n) (x ∷ xs) (suc m) h = ap (λ (l : List ℕ). x ∷ l) (take_prefix n xs m (omega (arith, h)))

take_nothing : (k : ℕ) → ◌≡◌ {A = List ℕ} (take k []) []
take_nothing zero = refl
take_nothing (suc k) = refl

pub take_parts : (m n : ℕ) (xs : List ℕ) → take m xs ++ take n (drop m xs) ≡ take (m + n) xs
take_parts zero n xs = let e : 0 + n ≡ n = omega arith in rw e refl
take_parts (suc m) n [] = let e : suc m + n ≡ suc (m + n) = omega arith in rw e (take_nothing n)
take_parts (suc m) n (x ∷ xs) = let e : suc m + n ≡ suc (m + n) = omega arith in rw e (ap (λ (l : List ℕ). x ∷ l) (take_parts m n xs))

pub end_passes : (class : ℕ → Bool) (earlier : Option (List ℕ)) (n : ℕ) (bytes : List ℕ) → 1 ≤ n → n ≤ 4 → 4 ≤ length bytes
    → is_last_quad class earlier n (take 4 bytes) ≡ true → string_at class earlier n bytes ≡ Ok (take n bytes, drop 4 bytes)
end_passes class earlier n bytes some few enough h =
    end_of class earlier n bytes some few ∙ ap (after (λ (q : List ℕ). done (take n q))) (quad_passes (is_last_quad class earlier n) bytes enough h)
    ∙ ap (λ (l : List ℕ). Ok (l, drop 4 bytes)) (take_prefix n bytes 4 few)

pub end_fails : (class : ℕ → Bool) (earlier : Option (List ℕ)) (n : ℕ) (bytes : List ℕ) → 1 ≤ n → n ≤ 4 → 4 ≤ length bytes
    → is_last_quad class earlier n (take 4 bytes) ≡ false → string_at class earlier n bytes ≡ Err (Wrong (length bytes))
end_fails class earlier n bytes some few enough h =
    end_of class earlier n bytes some few ∙ ap (after (λ (q : List ℕ). done (take n q))) (quad_fails (is_last_quad class earlier n) bytes enough h)

pub string_more : (class : ℕ → Bool) (earlier : Option (List ℕ)) (n : ℕ) (bytes : List ℕ) → 4 < n
    → string_at class earlier n bytes ≡ two (λ (quad : List ℕ) (xs : List ℕ). quad ++ xs) (quad_where (is_inner_quad class earlier)) (λ (quad : List ℕ). string_at class (left_of earlier quad) (n - 4)) bytes
string_more class earlier zero bytes h = absurd (omega (arith, h))
string_more class earlier (suc zero) bytes h = absurd (omega (arith, h))
string_more class earlier (suc (suc zero)) bytes h = absurd (omega (arith, h))
string_more class earlier (suc (suc (suc zero))) bytes h = absurd (omega (arith, h))
string_more class earlier (suc (suc (suc (suc zero)))) bytes h = absurd (omega (arith, h))
string_more class earlier (suc (suc (suc (suc (suc n))))) bytes h =
    let e : suc (suc (suc (suc (suc n)))) - 4 ≡ suc n = omega arith in rw e refl

pub string_short : (class : ℕ → Bool) (earlier : Option (List ℕ)) (n : ℕ) (bytes : List ℕ) → 1 ≤ n → length bytes < 4 → string_at class earlier n bytes ≡ Err Short
string_short class earlier zero bytes some few = absurd (omega (arith, some))
string_short class earlier (suc zero) bytes some few = ap (after (λ (q : List ℕ). done (take 1 q))) (quad_short (is_last_quad class earlier 1) bytes few)
string_short class earlier (suc (suc zero)) bytes some few = ap (after (λ (q : List ℕ). done (take 2 q))) (quad_short (is_last_quad class earlier 2) bytes few)
string_short class earlier (suc (suc (suc zero))) bytes some few = ap (after (λ (q : List ℕ). done (take 3 q))) (quad_short (is_last_quad class earlier 3) bytes few)
string_short class earlier (suc (suc (suc (suc zero)))) bytes some few = ap (after (λ (q : List ℕ). done (take 4 q))) (quad_short (is_last_quad class earlier 4) bytes few)
string_short class earlier (suc (suc (suc (suc (suc n))))) bytes some few =
    ap (after (λ (quad : List ℕ). chain (string_at class (left_of earlier quad) (suc n)) (λ (xs : List ℕ). done (quad ++ xs)))) (quad_short (is_inner_quad class earlier) bytes few)

pub string_goes : (class : ℕ → Bool) (earlier : Option (List ℕ)) (n : ℕ) (bytes : List ℕ) → 4 < n → 4 ≤ length bytes → is_inner_quad class earlier (take 4 bytes) ≡ true
    → string_at class earlier n bytes ≡ after (λ (xs : List ℕ). done (take 4 bytes ++ xs)) (string_at class (left_of earlier (take 4 bytes)) (n - 4) (drop 4 bytes))
string_goes class earlier n bytes long enough h =
    string_more class earlier n bytes long
    ∙ ap (after (λ (quad : List ℕ). chain (string_at class (left_of earlier quad) (n - 4)) (λ (xs : List ℕ). done (quad ++ xs)))) (quad_passes (is_inner_quad class earlier) bytes enough h)

pub string_goes_ok : (class : ℕ → Bool) (earlier : Option (List ℕ)) (n : ℕ) (bytes rest : List ℕ) → 4 < n → 4 ≤ length bytes → is_inner_quad class earlier (take 4 bytes) ≡ true
    → string_at class (left_of earlier (take 4 bytes)) (n - 4) (drop 4 bytes) ≡ Ok (take (n - 4) (drop 4 bytes), rest)
    → string_at class earlier n bytes ≡ Ok (take n bytes, rest)
string_goes_ok class earlier n bytes rest long enough h e =
    let size : 4 + (n - 4) ≡ n = omega arith in
    string_goes class earlier n bytes long enough h ∙ ap (after (λ (xs : List ℕ). done (take 4 bytes ++ xs))) e
    ∙ ap (λ (l : List ℕ). Ok (l, rest)) (take_parts 4 (n - 4) bytes ∙ ap (λ (k : ℕ). take k bytes) size)

pub string_goes_err : (class : ℕ → Bool) (earlier : Option (List ℕ)) (n : ℕ) (bytes : List ℕ) (f : Fault) → 4 < n → 4 ≤ length bytes → is_inner_quad class earlier (take 4 bytes) ≡ true
    → string_at class (left_of earlier (take 4 bytes)) (n - 4) (drop 4 bytes) ≡ Err f → string_at class earlier n bytes ≡ Err f
string_goes_err class earlier n bytes f long enough h e = string_goes class earlier n bytes long enough h ∙ ap (after (λ (xs : List ℕ). done (take 4 bytes ++ xs))) e

pub string_stops : (class : ℕ → Bool) (earlier : Option (List ℕ)) (n : ℕ) (bytes : List ℕ) → 4 < n → 4 ≤ length bytes → is_inner_quad class earlier (take 4 bytes) ≡ false
    → string_at class earlier n bytes ≡ Err (Wrong (length bytes))
string_stops class earlier n bytes long enough h =
    string_more class earlier n bytes long
    ∙ ap (after (λ (quad : List ℕ). chain (string_at class (left_of earlier quad) (n - 4)) (λ (xs : List ℕ). done (quad ++ xs)))) (quad_fails (is_inner_quad class earlier) bytes enough h)

-- the same for the two parts of the bytes
pub at_end_passes : (class : ℕ → Bool) (earlier : Option (List ℕ)) (n : ℕ) (bytes quad rest : List ℕ) → quad ≡ take 4 bytes → rest ≡ drop 4 bytes → 1 ≤ n → n ≤ 4 → 4 ≤ length bytes
    → is_last_quad class earlier n quad ≡ true → string_at class earlier n bytes ≡ Ok (take n bytes, rest)
at_end_passes class earlier n bytes quad rest eq er some few enough h =
    end_passes class earlier n bytes some few enough (ap (is_last_quad class earlier n) (sym eq) ∙ h) ∙ ap (λ (l : List ℕ). Ok (take n bytes, l)) (sym er)

pub at_end_fails : (class : ℕ → Bool) (earlier : Option (List ℕ)) (n : ℕ) (bytes quad : List ℕ) → quad ≡ take 4 bytes → 1 ≤ n → n ≤ 4 → 4 ≤ length bytes
    → is_last_quad class earlier n quad ≡ false → string_at class earlier n bytes ≡ Err (Wrong (length bytes))
at_end_fails class earlier n bytes quad eq some few enough h = end_fails class earlier n bytes some few enough (ap (is_last_quad class earlier n) (sym eq) ∙ h)

pub goes_ok : (class : ℕ → Bool) (earlier : Option (List ℕ)) (n : ℕ) (bytes quad mid rest : List ℕ) (left : Option (List ℕ)) → quad ≡ take 4 bytes → mid ≡ drop 4 bytes → left ≡ left_of earlier quad → 4 < n → 4 ≤ length bytes
    → is_inner_quad class earlier quad ≡ true → string_at class left (n - 4) mid ≡ Ok (take (n - 4) mid, rest) → string_at class earlier n bytes ≡ Ok (take n bytes, rest)
goes_ok class earlier n bytes quad mid rest left eq em el long enough h e =
    string_goes_ok class earlier n bytes rest long enough (ap (is_inner_quad class earlier) (sym eq) ∙ h)
    (ap₂ (λ (l : Option (List ℕ)) (m : List ℕ). string_at class l (n - 4) m) (ap (left_of earlier) (sym eq) ∙ sym el) (sym em) ∙ e ∙ ap (λ (m : List ℕ). Ok (take (n - 4) m, rest)) em)

pub goes_err : (class : ℕ → Bool) (earlier : Option (List ℕ)) (n : ℕ) (bytes quad mid : List ℕ) (left : Option (List ℕ)) (f : Fault) → quad ≡ take 4 bytes → mid ≡ drop 4 bytes → left ≡ left_of earlier quad → 4 < n → 4 ≤ length bytes
    → is_inner_quad class earlier quad ≡ true → string_at class left (n - 4) mid ≡ Err f → string_at class earlier n bytes ≡ Err f
goes_err class earlier n bytes quad mid left f eq em el long enough h e =
    string_goes_err class earlier n bytes f long enough (ap (is_inner_quad class earlier) (sym eq) ∙ h)
    (ap₂ (λ (l : Option (List ℕ)) (m : List ℕ). string_at class l (n - 4) m) (ap (left_of earlier) (sym eq) ∙ sym el) (sym em) ∙ e)

pub goes_stop : (class : ℕ → Bool) (earlier : Option (List ℕ)) (n : ℕ) (bytes quad : List ℕ) → quad ≡ take 4 bytes → 4 < n → 4 ≤ length bytes
    → is_inner_quad class earlier quad ≡ false → string_at class earlier n bytes ≡ Err (Wrong (length bytes))
goes_stop class earlier n bytes quad eq long enough h = string_stops class earlier n bytes long enough (ap (is_inner_quad class earlier) (sym eq) ∙ h)

pub goes_gives : {X : Type 0} (now : X → List ℕ) (r : Result X Fault) (class : ℕ → Bool) (earlier : Option (List ℕ)) (n : ℕ) (bytes quad mid : List ℕ) (left : Option (List ℕ))
    → quad ≡ take 4 bytes → mid ≡ drop 4 bytes → left ≡ left_of earlier quad → 4 < n → 4 ≤ length bytes → is_inner_quad class earlier quad ≡ true
    → Gives {A = List ℕ} (λ (x : X). (take (n - 4) mid, now x)) r (string_at class left (n - 4) mid) → Gives {A = List ℕ} (λ (x : X). (take n bytes, now x)) r (string_at class earlier n bytes)
goes_gives now (Ok x) class earlier n bytes quad mid left eq em el long enough h e = goes_ok class earlier n bytes quad mid (now x) left eq em el long enough h e
goes_gives now (Err (Wrong l)) class earlier n bytes quad mid left eq em el long enough h e = goes_err class earlier n bytes quad mid left (Wrong l) eq em el long enough h e
goes_gives now (Err Short) class earlier n bytes quad mid left eq em el long enough h e = goes_err class earlier n bytes quad mid left Short eq em el long enough h e
goes_gives now (Err (Memory error)) class earlier n bytes quad mid left eq em el long enough h e = tt

-- what a string's reader gives is as long as was asked
length_joined : (a b c d : ℕ) (xs : List ℕ) (n : ℕ) → length xs ≡ suc n → length ((a ∷ b ∷ c ∷ d ∷ []) ++ xs) ≡ suc (suc (suc (suc (suc n))))
length_joined a b c d xs n h = ap (λ (k : ℕ). suc (suc (suc (suc k)))) h

end_length : (class : ℕ → Bool) (earlier : Option (List ℕ)) (n : ℕ) (bytes x rest : List ℕ) → n ≤ 4 → end_at class earlier n bytes ≡ Ok (x, rest) → length x ≡ n
end_length class earlier n [] x rest few e = absurd cc
end_length class earlier n (a ∷ []) x rest few e = absurd cc
end_length class earlier n (a ∷ b ∷ []) x rest few e = absurd cc
end_length class earlier n (a ∷ b ∷ c ∷ []) x rest few e = absurd cc
end_length class earlier n (a ∷ b ∷ c ∷ d ∷ bytes) x rest few e = at (is_last_quad class earlier n (a ∷ b ∷ c ∷ d ∷ [])) e
  where
    taken : (k : ℕ) → k ≤ 4 → length (take k (a ∷ b ∷ c ∷ d ∷ [])) ≡ k
    taken zero h = refl
    taken (suc zero) h = refl
    taken (suc (suc zero)) h = refl
    taken (suc (suc (suc zero))) h = refl
    taken (suc (suc (suc (suc zero)))) h = refl
    taken (suc (suc (suc (suc (suc k))))) h = absurd (omega (arith, h))

    at : (t : Bool) → after (λ (q : List ℕ). done (take n q)) (if t then Ok (a ∷ b ∷ c ∷ d ∷ [], bytes) else Err (Wrong (4 + length bytes))) ≡ Ok (x, rest) → length x ≡ n
    at true h = let p : ◌≡◌ {A = List ℕ × List ℕ} (take n (a ∷ b ∷ c ∷ d ∷ []), bytes) (x, rest) = cc in ap (λ (q : List ℕ × List ℕ). length q.0) (sym p) ∙ taken n few
    at false h = absurd cc

pub string_length : (class : ℕ → Bool) (earlier : Option (List ℕ)) (n : ℕ) (bytes x rest : List ℕ) → string_at class earlier n bytes ≡ Ok (x, rest) → length x ≡ n
string_length class earlier zero bytes x rest e = let p : ◌≡◌ {A = List ℕ × List ℕ} ([], bytes) (x, rest) = cc in ap (λ (q : List ℕ × List ℕ). length q.0) (sym p)
string_length class earlier (suc zero) bytes x rest e = end_length class earlier 1 bytes x rest (omega arith) e
string_length class earlier (suc (suc zero)) bytes x rest e = end_length class earlier 2 bytes x rest (omega arith) e
string_length class earlier (suc (suc (suc zero))) bytes x rest e = end_length class earlier 3 bytes x rest (omega arith) e
string_length class earlier (suc (suc (suc (suc zero)))) bytes x rest e = end_length class earlier 4 bytes x rest (omega arith) e
string_length class earlier (suc (suc (suc (suc (suc n))))) [] x rest e = absurd cc
string_length class earlier (suc (suc (suc (suc (suc n))))) (a ∷ []) x rest e = absurd cc
string_length class earlier (suc (suc (suc (suc (suc n))))) (a ∷ b ∷ []) x rest e = absurd cc
string_length class earlier (suc (suc (suc (suc (suc n))))) (a ∷ b ∷ c ∷ []) x rest e = absurd cc
string_length class earlier (suc (suc (suc (suc (suc n))))) (a ∷ b ∷ c ∷ d ∷ bytes) x rest e =
    at (string_length class (left_of earlier (a ∷ b ∷ c ∷ d ∷ [])) (suc n) bytes) (is_inner_quad class earlier (a ∷ b ∷ c ∷ d ∷ [])) e
  where
    inner : ((y r : List ℕ) → string_at class (left_of earlier (a ∷ b ∷ c ∷ d ∷ [])) (suc n) bytes ≡ Ok (y, r) → length y ≡ suc n)
        → (s : Result (List ℕ × List ℕ) Fault) → string_at class (left_of earlier (a ∷ b ∷ c ∷ d ∷ [])) (suc n) bytes ≡ s
        → after (λ (xs : List ℕ). done ((a ∷ b ∷ c ∷ d ∷ []) ++ xs)) s ≡ Ok (x, rest) → length x ≡ suc (suc (suc (suc (suc n))))
    inner later (Ok p) is h =
        let q : ◌≡◌ {A = List ℕ × List ℕ} ((a ∷ b ∷ c ∷ d ∷ []) ++ p.0, p.1) (x, rest) = cc in
        ap (λ (r : List ℕ × List ℕ). length r.0) (sym q) ∙ length_joined a b c d p.0 n (later p.0 p.1 is)
    inner later (Err f) is h = absurd cc

    at : ((y r : List ℕ) → string_at class (left_of earlier (a ∷ b ∷ c ∷ d ∷ [])) (suc n) bytes ≡ Ok (y, r) → length y ≡ suc n)
        → (t : Bool) → after (λ (q : List ℕ). chain (string_at class (left_of earlier q) (suc n)) (λ (xs : List ℕ). done (q ++ xs))) (if t then Ok (a ∷ b ∷ c ∷ d ∷ [], bytes) else Err (Wrong (4 + length bytes))) ≡ Ok (x, rest)
        → length x ≡ suc (suc (suc (suc (suc n))))
    at later true h = inner later (string_at class (left_of earlier (a ∷ b ∷ c ∷ d ∷ [])) (suc n) bytes) refl h
    at later false h = absurd cc
