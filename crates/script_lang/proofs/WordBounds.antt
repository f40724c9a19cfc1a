-- The bounds of what the words of calls and controls give.
use Rattle.std.proofs.Common.{◌≡◌, ℕ, ◌<◌, ◌≤◌, ◌==◌, true, ◌&&◌, leb, List, [], ◌∷◌, length, take, drop, codes, Option, Some, None, subst, sym, arith}
use Rattle.std.specs.Cmp.{first_so, second_so}
use Rattle.std.specs.List.{list_all}
use Rattle.std.proofs.lemmas.Bool.{leb-true}
use Rattle.std.proofs.lemmas.List.{length-replicate}
use Rattle.xl_base.specs.Words.{decimal_of, hex_of}
use Rattle.volfile.specs.TextLines.{front_len, is_text, parts_between}
use Rattle.volfile.proofs.Places.{same_word}
use Rattle.fop_types.specs.Bounds.{Each, is_component, IsComponent, IsPath, IsMode, IsUnit, IsUserAttrName, IsSessionFd, IsCall}
use Rattle.fop_types.specs.declared.calls.Call.{Call}
use Rattle.fop_types.specs.declared.calls.Call.TheVariants as call
use Rattle.script_lang.specs.WordForms.{begins, is_slash, path_with, path_at, is_octal, octal_after, nine_bits, mode_at, within, number_at, fd_at, at_most, visible_bytes, copies_of, repeated_at, data_at, attr_at}
use Rattle.script_lang.specs.CallText.{made1, made2, made3, misfit, call_of_one, call_of_path, call_of_two, set_attr, call_of_three, call_at}
use Rattle.script_lang.proofs.Gives.{Gives, Finds, gives, refuses, finds, none, either, one_of, found_if}

-- ---- words
components : (parts : List (List ℕ)) → list_all is_component parts ≡ true → Each IsComponent parts
components [] h = tt
components (part ∷ parts) h = (first_so (is_component part) (list_all is_component parts) h, components parts (second_so (is_component part) (list_all is_component parts) h))

path_with_found : (parts : List (List ℕ)) → Finds IsPath (path_with parts)
path_with_found parts = found_if (list_all is_component parts) _ (λ is. finds _ (components parts is))

pub path_found : (word : List ℕ) → Finds IsPath (path_at word)
path_found word =
    one_of (is_text word (codes "/")) _ _ (finds _ tt) (found_if (begins word (codes "/")) _ (λ is. path_with_found (parts_between is_slash (drop 1 word))))

nine_found : (n : ℕ) → Finds IsMode (nine_bits n)
nine_found n = found_if (leb n 511) _ (λ is. finds n (leb-true n 511 is))

pub mode_found : (word : List ℕ) → Finds IsMode (mode_at word)
mode_found word = found_if (leb 1 (length word) && leb (length word) 4 && list_all is_octal word) _ (λ is. nine_found (octal_after 0 word))

within_found : (low high : ℕ) (n : Option ℕ) → Finds (λ k. (low ≤ k) × (k ≤ high)) (within low high n)
within_found low high None = none
within_found low high (Some n) = found_if (leb low n && leb n high) _ (λ is. finds n (leb-true low n (first_so (leb low n) (leb n high) is), leb-true n high (second_so (leb low n) (leb n high) is)))

pub number_found : (low high : ℕ) (word : List ℕ) → Finds (λ k. (low ≤ k) × (k ≤ high)) (number_at low high word)
number_found low high word = within_found low high (decimal_of word)

fitted : {A : Type 0} {P Q : A → Type 0} (o : Option A) → ((a : A) → P a → Q a) → Finds P o → Finds Q o
fitted None leads h = none
fitted (Some a) leads h = finds a (leads a h.holds)

pub fd_found : (word : List ℕ) → Finds IsSessionFd (fd_at word)
fd_found word = fitted (number_at 0 255 word) (λ fd h. h.1) (number_found 0 255 word)

pub size_found : (word : List ℕ) → Finds IsUnit (number_at 0 4294967295 word)
size_found word = fitted (number_at 0 4294967295 word) (λ n h. let low : n < 4294967296 = omega (arith, h.1) in low) (number_found 0 4294967295 word)

pub count_found : (word : List ℕ) → Finds (λ n. n ≤ 65536) (number_at 0 65536 word)
count_found word = fitted (number_at 0 65536 word) (λ n h. h.1) (number_found 0 65536 word)

at_most_found : (limit : ℕ) (o : Option (List ℕ)) → Finds (λ bs. length bs ≤ limit) (at_most limit o)
at_most_found limit None = none
at_most_found limit (Some bytes) = found_if (leb (length bytes) limit) _ (λ is. finds bytes (leb-true (length bytes) limit is))

copies_found : (limit : ℕ) (count byte : Option ℕ) → Finds (λ n. n ≤ limit) count → Finds (λ bs. length bs ≤ limit) (copies_of count byte)
copies_found limit None byte h = none
copies_found limit (Some n) None h = none
copies_found limit (Some n) (Some byte) h = finds _ (subst (λ k. k ≤ limit) (sym (length-replicate n byte)) h.holds)

upper_found : (limit : ℕ) (word : List ℕ) → Finds (λ n. n ≤ limit) (number_at 0 limit word)
upper_found limit word = fitted (number_at 0 limit word) (λ n h. h.1) (number_found 0 limit word)

repeated_found : (limit : ℕ) (rest : List ℕ) → Finds (λ bs. length bs ≤ limit) (repeated_at limit rest)
repeated_found limit rest = copies_found limit _ _ (upper_found limit (take (front_len (λ b. b == 58) rest) rest))

pub data_found : (limit : ℕ) (word : List ℕ) → Finds (λ bs. length bs ≤ limit) (data_at limit word)
data_found limit word =
    one_of (begins word (codes "t:")) _ _ (at_most_found limit (visible_bytes (drop 2 word)))
    (one_of (begins word (codes "x:")) _ _ (at_most_found limit (hex_of (drop 2 word)))
    (one_of (begins word (codes "z:")) _ _ (copies_found limit (number_at 0 limit (drop 2 word)) (Some 0) (upper_found limit (drop 2 word)))
    (found_if (begins word (codes "r:")) _ (λ is. repeated_found limit (drop 2 word)))))

pub attr_found : (word : List ℕ) → Finds IsUserAttrName (attr_at word)
attr_found word =
    found_if (begins word (codes "user.") && leb 6 (length word) && leb (length word) 64) _ (λ is.
    let two : (begins word (codes "user.") && leb 6 (length word)) ≡ true = first_so (begins word (codes "user.") && leb 6 (length word)) (leb (length word) 64) is in
    let prefix : codes "user." ≡ take 5 word = same_word (codes "user.") (take 5 word) (first_so (begins word (codes "user.")) (leb 6 (length word)) two) in
    let least = leb-true 6 (length word) (second_so (begins word (codes "user.")) (leb 6 (length word)) two) in
    let most = leb-true (length word) 64 (second_so (begins word (codes "user.") && leb 6 (length word)) (leb (length word) 64) is) in
    finds word ((least, most), sym prefix))

-- ---- calls
one : {A : Type 0} (P : A → Type 0) (f : A → Call) (a : Option A) → Finds P a → ((x : A) → P x → IsCall (f x)) → Gives IsCall (made1 f a)
one P f None h leads = refuses _
one P f (Some a) h leads = gives _ (leads a h.holds)

two : {A B : Type 0} (P : A → Type 0) (Q : B → Type 0) (f : A → B → Call) (a : Option A) (b : Option B) → Finds P a → Finds Q b → ((x : A) (y : B) → P x → Q y → IsCall (f x y)) → Gives IsCall (made2 f a b)
two P Q f None b h k leads = refuses _
two P Q f (Some a) None h k leads = refuses _
two P Q f (Some a) (Some b) h k leads = gives _ (leads a b h.holds k.holds)

three : {A B C : Type 0} (P : A → Type 0) (Q : B → Type 0) (R : C → Type 0) (f : A → B → C → Call) (a : Option A) (b : Option B) (c : Option C) → Finds P a → Finds Q b → Finds R c
    → ((x : A) (y : B) (z : C) → P x → Q y → R z → IsCall (f x y z)) → Gives IsCall (made3 f a b c)
three P Q R f None b c h k l leads = refuses _
three P Q R f (Some a) None c h k l leads = refuses _
three P Q R f (Some a) (Some b) None h k l leads = refuses _
three P Q R f (Some a) (Some b) (Some c) h k l leads = gives _ (leads a b c h.holds k.holds l.holds)

one_given : (word a : List ℕ) → Gives IsCall (call_of_one word a)
one_given word a =
    let path = path_found a in
    either (is_text word (codes "rmdir")) _ _ (one IsPath call.Rmdir _ path (λ x h. h))
    (either (is_text word (codes "unlink")) _ _ (one IsPath call.Unlink _ path (λ x h. h))
    (either (is_text word (codes "stat")) _ _ (one IsPath call.Stat _ path (λ x h. h))
    (either (is_text word (codes "list")) _ _ (one IsPath call.List _ path (λ x h. h))
    (either (is_text word (codes "close")) _ _ (one IsSessionFd call.Close _ (fd_found a) (λ x h. h)) (refuses (misfit word))))))

path_given : (word a b : List ℕ) → Gives IsCall (call_of_path word a b)
path_given word a b =
    let path = path_found a in
    either (is_text word (codes "mkdir")) _ _ (two IsPath IsMode call.Mkdir _ _ path (mode_found b) (λ x y h k. (h, k)))
    (either (is_text word (codes "rename")) _ _ (two IsPath IsPath call.Rename _ _ path (path_found b) (λ x y h k. (h, k)))
    (either (is_text word (codes "chmod")) _ _ (two IsPath IsMode call.Chmod _ _ path (mode_found b) (λ x y h k. (h, k)))
    (either (is_text word (codes "truncate")) _ _ (two IsPath IsUnit call.Truncate _ _ path (size_found b) (λ x y h k. (h, k)))
    (either (is_text word (codes "getattr")) _ _ (two IsPath IsUserAttrName call.GetAttr _ _ path (attr_found b) (λ x y h k. (h, k)))
    (either (is_text word (codes "delattr")) _ _ (two IsPath IsUserAttrName call.DelAttr _ _ path (attr_found b) (λ x y h k. (h, k))) (refuses (misfit word)))))))

two_given : (word a b : List ℕ) → Gives IsCall (call_of_two word a b)
two_given word a b =
    let fd = fd_found a in
    either (is_text word (codes "open")) _ _ (two IsSessionFd IsPath call.Open _ _ fd (path_found b) (λ x y h k. (h, k)))
    (either (is_text word (codes "read")) _ _ (two IsSessionFd (λ n. n ≤ 65536) call.Read _ _ fd (count_found b) (λ x y h k. (h, k)))
    (either (is_text word (codes "write")) _ _ (two IsSessionFd (λ bs. length bs ≤ 65536) call.Write _ _ fd (data_found 65536 b) (λ x y h k. (h, k)))
    (either (is_text word (codes "seek")) _ _ (two IsSessionFd IsUnit call.Seek _ _ fd (size_found b) (λ x y h k. (h, k))) (path_given word a b))))

three_given : (word a b c : List ℕ) → Gives IsCall (call_of_three word a b c)
three_given word a b c =
    either (is_text word (codes "create")) _ _ (three IsSessionFd IsPath IsMode call.Create _ _ _ (fd_found a) (path_found b) (mode_found c) (λ x y z h k l. (h, k, l)))
    (either (is_text word (codes "setattr")) _ _ (three IsPath IsUserAttrName (λ bs. length bs ≤ 1024) set_attr _ _ _ (path_found a) (attr_found b) (data_found 1024 c) (λ x y z h k l. (h, (k, l)))) (refuses (misfit word)))

pub call_given : (word : List ℕ) (rest : List (List ℕ)) → Gives IsCall (call_at word rest)
call_given word [] = refuses (misfit word)
call_given word (a ∷ []) = one_given word a
call_given word (a ∷ b ∷ []) = two_given word a b
call_given word (a ∷ b ∷ c ∷ []) = three_given word a b c
call_given word (a ∷ b ∷ c ∷ d ∷ more) = refuses (misfit word)
