-- Look-ups on the same files, one after another, and answers at once, by the cases of the code.
use Rattle.std.proofs.Common.{◌≡◌, ◌∷◌, sym, refl, ap, ◌∙◌, ℕ, ◌+◌, ◌-◌, ◌<◌, ◌==◌, suc, List, [], length, take, drop, get_or, replicate, drop-cons, arith}
use Rattle.std.proofs.Math.Seq.{drop-length}
use Rattle.std.specs.Prelude.{Some, None, Ok, Err, if◌then◌else◌}
use Rattle.std.proofs.Math.Dec.{eqb-suc-zero}
use Rattle.fop_types.specs.Calls.{Descriptors, of_root, error}
use Rattle.fop_types.specs.Files.{Files}
use Rattle.fop_types.specs.Flat.{flat_answer}
use Rattle.fop_types.specs.History.{Walk, walk_path, after_lookup, after_path, with_found}
use Rattle.fop_types.specs.History.Walk.{Reached, Stopped, Short}
use Rattle.fop_types.specs.Cells.{root}
use Rattle.fop_types.specs.Paths.{parent_parts}
use Rattle.fop_types.specs.declared.answers.AppError.{AppError}
use Rattle.fop_types.specs.declared.answers.Answer.TheVariants as answers
use Rattle.fop_types.specs.declared.calls.Call.{Call}
use Rattle.fop_types.specs.declared.cells.Gfid.{Gfid}
use Rattle.fop_types.specs.declared.flat.FlatAnswer.{FlatAnswer}
use Rattle.fop_types.specs.declared.flat.FlatAnswer.TheVariants as flat_answers
use Rattle.fop_types.specs.declared.flat.FlatOp.TheVariants.{Lookup}
use Rattle.flat_fs.specs.Mount.{unchanged, by_walk, path_walk}
use Rattle.flat_fs.specs.Walks.{found_in, stopped_by}

pub of_root_is : (parts : List (List ℕ)) (e : AppError) → of_root parts e ≡ (if length parts == 0 then error e else None)
of_root_is [] e = refl
of_root_is (part ∷ parts) e = rw (eqb-suc-zero (length parts)) refl

pub parent_is : (parts : List (List ℕ)) → take (length parts - 1) parts ≡ parent_parts parts
parent_is [] = refl
parent_is (part ∷ []) = refl
parent_is (part ∷ other ∷ parts) =
    let long : length (part ∷ other ∷ parts) - 1 ≡ suc (length (other ∷ parts) - 1) = omega arith in
    ap (λ (n : ℕ). take n (part ∷ other ∷ parts)) long ∙ ap (λ (l : List (List ℕ)). part ∷ l) (parent_is (other ∷ parts))

-- ---- one look-up, and a path of them

after_found : (a : FlatAnswer) (gfid : Gfid) (places : List ℕ) (more : Gfid → Walk) → found_in a ≡ Some (Ok gfid) → after_lookup a places more ≡ more gfid
after_found (flat_answers.Found found kind) gfid places more h = let same : found ≡ gfid = cc in ap more same
after_found (flat_answers.Call (answers.App e)) gfid places more h = absurd cc
after_found (flat_answers.Call answers.Done) gfid places more h = absurd cc
after_found (flat_answers.Call (answers.Count n)) gfid places more h = absurd cc
after_found (flat_answers.Call (answers.Bytes bytes)) gfid places more h = absurd cc
after_found (flat_answers.Call (answers.Stat kind mode size)) gfid places more h = absurd cc
after_found (flat_answers.Call (answers.List items)) gfid places more h = absurd cc
after_found (flat_answers.Call (answers.Io e)) gfid places more h = absurd cc

after_error : (a : FlatAnswer) (e : AppError) (places : List ℕ) (more : Gfid → Walk) → found_in a ≡ Some (Err e) → stopped_by (after_lookup a places more) ≡ Some e
after_error (flat_answers.Found found kind) e places more h = absurd cc
after_error (flat_answers.Call (answers.App error)) e places more h = cc
after_error (flat_answers.Call answers.Done) e places more h = absurd cc
after_error (flat_answers.Call (answers.Count n)) e places more h = absurd cc
after_error (flat_answers.Call (answers.Bytes bytes)) e places more h = absurd cc
after_error (flat_answers.Call (answers.Stat kind mode size)) e places more h = absurd cc
after_error (flat_answers.Call (answers.List items)) e places more h = absurd cc
after_error (flat_answers.Call (answers.Io io)) e places more h = absurd cc

-- the look-ups that are left at a place of a path
abbrev pub rest_walk : Files → List (List ℕ) → ℕ → Gfid → Walk
rest_walk files path i at = walk_path (λ _. files) (drop i path) at (replicate (length path - i) 0)

abbrev one_walk : Files → List (List ℕ) → ℕ → Gfid → List ℕ → Walk
one_walk files path i at name =
    after_lookup (flat_answer files (Lookup at name)) (replicate (length path - suc i) 0)
    (λ found. walk_path (λ _. files) (drop (suc i) path) found (replicate (length path - suc i) 0))

one_lookup : (files : Files) (path : List (List ℕ)) (i : ℕ) (at : Gfid) (name : List ℕ) → i < length path → name ≡ get_or path i name
    → rest_walk files path i at ≡ one_walk files path i at name
one_lookup files path i at name fits is =
    let parts : drop i path ≡ name ∷ drop (suc i) path = drop-cons path i name fits ∙ ap (λ (n : List ℕ). n ∷ drop (suc i) path) (sym is) in
    let left : length path - i ≡ suc (length path - suc i) = omega arith in
    ap (λ (l : List (List ℕ)). walk_path (λ _. files) l at (replicate (length path - i) 0)) parts
    ∙ ap (λ (n : ℕ). walk_path (λ _. files) (name ∷ drop (suc i) path) at (replicate n 0)) left

pub found_next : (files : Files) (path : List (List ℕ)) (i : ℕ) (at next : Gfid) (name : List ℕ) → i < length path → name ≡ get_or path i name
    → found_in (flat_answer files (Lookup at name)) ≡ Some (Ok next) → rest_walk files path i at ≡ path_walk files path
    → rest_walk files path (i + 1) next ≡ path_walk files path
found_next files path i at next name fits is found so_far =
    let one : i + 1 ≡ suc i = omega arith in
    ap (λ (n : ℕ). rest_walk files path n next) one
    ∙ sym (one_lookup files path i at name fits is
    ∙ after_found (flat_answer files (Lookup at name)) next _ (λ f. walk_path (λ _. files) (drop (suc i) path) f (replicate (length path - suc i) 0)) found)
    ∙ so_far

pub not_found : (files : Files) (path : List (List ℕ)) (i : ℕ) (at : Gfid) (name : List ℕ) (e : AppError) → i < length path → name ≡ get_or path i name
    → found_in (flat_answer files (Lookup at name)) ≡ Some (Err e) → rest_walk files path i at ≡ path_walk files path
    → stopped_by (path_walk files path) ≡ Some e
not_found files path i at name e fits is error so_far =
    ap stopped_by (sym so_far ∙ one_lookup files path i at name fits is)
    ∙ after_error (flat_answer files (Lookup at name)) e _ (λ f. walk_path (λ _. files) (drop (suc i) path) f (replicate (length path - suc i) 0)) error

pub at_start : (files : Files) (path : List (List ℕ)) → rest_walk files path 0 root ≡ path_walk files path
at_start files path = let all : length path - 0 ≡ length path = omega arith in ap (λ (n : ℕ). walk_path (λ _. files) path root (replicate n 0)) all

pub all_found : (files : Files) (path : List (List ℕ)) (i : ℕ) (at : Gfid) → i ≡ length path → rest_walk files path i at ≡ path_walk files path
    → path_walk files path ≡ Reached (at ∷ []) []
all_found files path i at end so_far =
    let none : drop i path ≡ [] = ap (λ (n : ℕ). drop n path) end ∙ drop-length path in
    let zero_left : length path - i ≡ 0 = omega arith in
    sym so_far ∙ ap (λ (l : List (List ℕ)). walk_path (λ _. files) l at (replicate (length path - i) 0)) none
    ∙ ap (λ (n : ℕ). walk_path (λ _. files) [] at (replicate n 0)) zero_left

-- ---- where a look-up is answered by an error

pub stopped_here : (w : Walk) (more : List ℕ → Walk) (e : AppError) → stopped_by w ≡ Some e → stopped_by (after_path w more) ≡ Some e
stopped_here (Reached found places) more e h = absurd cc
stopped_here (Stopped error places) more e h = h
stopped_here Short more e h = absurd cc

pub stopped_later : (found : List Gfid) (w : Walk) (e : AppError) → stopped_by w ≡ Some e → stopped_by (with_found found w) ≡ Some e
stopped_later found (Reached others places) e h = absurd cc
stopped_later found (Stopped error places) e h = h
stopped_later found Short e h = absurd cc

pub by_stop : (files : Files) (fds : Descriptors) (drawn : Gfid) (c : Call) (w : Walk) (e : AppError) → stopped_by w ≡ Some e
    → by_walk files fds drawn c w ≡ unchanged files (answers.App e)
by_stop files fds drawn c (Reached found places) e h = absurd cc
by_stop files fds drawn c (Stopped error places) e h = let same : error ≡ e = cc in ap (λ (x : AppError). unchanged files (answers.App x)) same
by_stop files fds drawn c Short e h = absurd cc
