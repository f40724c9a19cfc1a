-- Bytes of any kind are read at once: only their padding can be wrong.
use Rattle.std.proofs.Common.{inl, inr, ◌≡◌, ◌<◌, ◌≤◌, ◌∷◌, ◌∙◌, ◌++◌, ◌⊎◌, ◌+◌, ◌-◌, ◌*◌, ◌/◌, ℕ, suc, zero, Bool, true, false, not, sym, refl, ap, ap₂, subst, List, [], length, take, drop, arith, Option, Some, None, Result, Ok, Err, ◌&&◌, if◌then◌else◌}
use Rattle.std.specs.List.{list_all}
use Rattle.wire_xdr.specs.declared.decode.faults.Fault.{Fault}
use Rattle.wire_xdr.specs.declared.decode.faults.Fault.TheVariants.{Wrong, Short, Memory}
use Rattle.wire_xdr.specs.code.Parsers.{Parser, after, chain, done, one, two, quad_of, quad_where, left_of, is_inner_quad, is_last_quad, end_at, string_at, any_byte, is_zero}
use Rattle.wire_xdr.proofs.StringParsers.{string_short, take_prefix}

any_all : (xs : List ℕ) → list_all any_byte xs ≡ true
any_all [] = refl
any_all (x ∷ xs) = any_all xs

goes_any : (quad : List ℕ) → is_inner_quad any_byte None quad ≡ true
goes_any quad = rw (any_all quad) refl

ends_any : (n : ℕ) (quad : List ℕ) → is_last_quad any_byte None n quad ≡ list_all is_zero (drop n quad)
ends_any n quad = rw (any_all (take n quad)) refl

-- the bytes with their padding
abbrev pub padded_len : ℕ → ℕ
padded_len n = (n + 3) / 4 * 4

-- what the code answers
abbrev pub parted : ℕ → List ℕ → Result (List ℕ × List ℕ) Fault
parted n bytes = if list_all is_zero (drop n (take (padded_len n) bytes)) then Ok (take n bytes, drop (padded_len n) bytes) else Err (Wrong (length (drop (padded_len n) bytes) + 4))

end_parted : (n : ℕ) (bytes : List ℕ) → padded_len n ≡ 4 → 4 ≤ length bytes → (q : Bool) → list_all is_zero (drop n (take 4 bytes)) ≡ q → end_at any_byte None n bytes ≡ parted n bytes
end_parted n [] r enough q e = absurd (omega (arith, enough))
end_parted n (a ∷ []) r enough q e = absurd (omega (arith, enough))
end_parted n (a ∷ b ∷ []) r enough q e = absurd (omega (arith, enough))
end_parted n (a ∷ b ∷ c ∷ []) r enough q e = absurd (omega (arith, enough))
end_parted zero (a ∷ b ∷ c ∷ d ∷ rest) r enough q e = absurd (omega (arith, r))
end_parted (suc zero) (a ∷ b ∷ c ∷ d ∷ rest) r enough true e = rw e refl
end_parted (suc zero) (a ∷ b ∷ c ∷ d ∷ rest) r enough false e = let s : 4 + length rest ≡ length rest + 4 = omega arith in rw (e, s) refl
end_parted (suc (suc zero)) (a ∷ b ∷ c ∷ d ∷ rest) r enough true e = rw e refl
end_parted (suc (suc zero)) (a ∷ b ∷ c ∷ d ∷ rest) r enough false e = let s : 4 + length rest ≡ length rest + 4 = omega arith in rw (e, s) refl
end_parted (suc (suc (suc zero))) (a ∷ b ∷ c ∷ d ∷ rest) r enough true e = rw e refl
end_parted (suc (suc (suc zero))) (a ∷ b ∷ c ∷ d ∷ rest) r enough false e = let s : 4 + length rest ≡ length rest + 4 = omega arith in rw (e, s) refl
end_parted (suc (suc (suc (suc zero)))) (a ∷ b ∷ c ∷ d ∷ rest) r enough q e = refl
end_parted (suc (suc (suc (suc (suc n))))) (a ∷ b ∷ c ∷ d ∷ rest) r enough q e = absurd (omega (arith, r))

step_len : (n : ℕ) → padded_len (4 + n) ≡ 4 + padded_len n
step_len n = omega arith

with_quad : (a b c d n : ℕ) (rest : List ℕ) (q : Bool) → list_all is_zero (drop n (take (padded_len n) rest)) ≡ q
    → after (λ (xs : List ℕ). done ((a ∷ b ∷ c ∷ d ∷ []) ++ xs)) (parted n rest) ≡ parted (suc (suc (suc (suc n)))) (a ∷ b ∷ c ∷ d ∷ rest)
with_quad a b c d n rest true e =
    let r : padded_len (suc (suc (suc (suc n)))) ≡ suc (suc (suc (suc (padded_len n)))) = omega arith in rw (r, e) refl
with_quad a b c d n rest false e =
    let r : padded_len (suc (suc (suc (suc n)))) ≡ suc (suc (suc (suc (padded_len n)))) = omega arith in rw (r, e) refl

pub string_parted : (n : ℕ) (bytes : List ℕ) → padded_len n ≤ length bytes → string_at any_byte None n bytes ≡ parted n bytes
string_parted zero bytes enough = refl
string_parted (suc zero) bytes enough = end_parted 1 bytes refl enough _ refl
string_parted (suc (suc zero)) bytes enough = end_parted 2 bytes refl enough _ refl
string_parted (suc (suc (suc zero))) bytes enough = end_parted 3 bytes refl enough _ refl
string_parted (suc (suc (suc (suc zero)))) bytes enough = end_parted 4 bytes refl enough _ refl
string_parted (suc (suc (suc (suc (suc n))))) [] enough = absurd (omega (arith, enough))
string_parted (suc (suc (suc (suc (suc n))))) (a ∷ []) enough = absurd (omega (arith, enough))
string_parted (suc (suc (suc (suc (suc n))))) (a ∷ b ∷ []) enough = absurd (omega (arith, enough))
string_parted (suc (suc (suc (suc (suc n))))) (a ∷ b ∷ c ∷ []) enough = absurd (omega (arith, enough))
string_parted (suc (suc (suc (suc (suc n))))) (a ∷ b ∷ c ∷ d ∷ rest) enough =
    ap (after (λ (xs : List ℕ). done ((a ∷ b ∷ c ∷ d ∷ []) ++ xs))) (string_parted (suc n) rest (omega (arith, enough)))
    ∙ with_quad a b c d (suc n) rest _ refl

pub payload_short : (n : ℕ) (bytes : List ℕ) → length bytes < padded_len n → string_at any_byte None n bytes ≡ Err Short
payload_short zero bytes few = absurd (omega (arith, few))
payload_short (suc zero) bytes few = string_short any_byte None 1 bytes (omega arith) (omega (arith, few))
payload_short (suc (suc zero)) bytes few = string_short any_byte None 2 bytes (omega arith) (omega (arith, few))
payload_short (suc (suc (suc zero))) bytes few = string_short any_byte None 3 bytes (omega arith) (omega (arith, few))
payload_short (suc (suc (suc (suc zero)))) bytes few = string_short any_byte None 4 bytes (omega arith) (omega (arith, few))
payload_short (suc (suc (suc (suc (suc n))))) [] few = refl
payload_short (suc (suc (suc (suc (suc n))))) (a ∷ []) few = refl
payload_short (suc (suc (suc (suc (suc n))))) (a ∷ b ∷ []) few = refl
payload_short (suc (suc (suc (suc (suc n))))) (a ∷ b ∷ c ∷ []) few = refl
payload_short (suc (suc (suc (suc (suc n))))) (a ∷ b ∷ c ∷ d ∷ rest) few =
    ap (after (λ (xs : List ℕ). done ((a ∷ b ∷ c ∷ d ∷ []) ++ xs))) (payload_short (suc n) rest (omega (arith, few)))

pub payload_passes : (n : ℕ) (bytes prefix rest value padding : List ℕ) → padded_len n ≤ length bytes → n ≤ padded_len n → prefix ≡ take (padded_len n) bytes → rest ≡ drop (padded_len n) bytes
    → value ≡ take n prefix → padding ≡ drop n prefix → list_all is_zero padding ≡ true → string_at any_byte None n bytes ≡ Ok (value, rest)
payload_passes n bytes prefix rest value padding enough larger ef er ev ep h =
    let p : list_all is_zero (drop n (take (padded_len n) bytes)) ≡ true = ap (λ (l : List ℕ). list_all is_zero (drop n l)) (sym ef) ∙ ap (list_all is_zero) (sym ep) ∙ h in
    let v : take n bytes ≡ value = sym (ev ∙ ap (take n) ef ∙ take_prefix n bytes (padded_len n) larger) in
    string_parted n bytes enough ∙ ap (λ (q : Bool). if q then Ok (take n bytes, drop (padded_len n) bytes) else Err (Wrong (length (drop (padded_len n) bytes) + 4))) p
    ∙ ap₂ (λ (x : List ℕ) (y : List ℕ). Ok (x, y)) v (sym er)

pub payload_fails : (n : ℕ) (bytes prefix rest padding : List ℕ) → padded_len n ≤ length bytes → prefix ≡ take (padded_len n) bytes → rest ≡ drop (padded_len n) bytes
    → padding ≡ drop n prefix → list_all is_zero padding ≡ false → string_at any_byte None n bytes ≡ Err (Wrong (length rest + 4))
payload_fails n bytes prefix rest padding enough ef er ep h =
    let p : list_all is_zero (drop n (take (padded_len n) bytes)) ≡ false = ap (λ (l : List ℕ). list_all is_zero (drop n l)) (sym ef) ∙ ap (list_all is_zero) (sym ep) ∙ h in
    string_parted n bytes enough ∙ ap (λ (q : Bool). if q then Ok (take n bytes, drop (padded_len n) bytes) else Err (Wrong (length (drop (padded_len n) bytes) + 4))) p
    ∙ ap (λ (l : List ℕ). Err (Wrong (length l + 4))) (sym er)
