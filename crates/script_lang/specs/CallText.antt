-- The calls of a script: the words of a call give it, or the kind of refusal. A call has its own number of
-- words, and each word the form of its place.
use Rattle.std.specs.Prelude.{ℕ, ◌||◌, Bool, if◌then◌else◌, List, [], ◌∷◌, codes, Option, Some, None, Result, Ok, Err}
use Rattle.volfile.specs.TextLines.{is_text}
use Rattle.fop_types.specs.declared.calls.Path.{Path}
use Rattle.fop_types.specs.declared.calls.Call.{Call}
use Rattle.fop_types.specs.declared.calls.Call.TheVariants as call
use Rattle.script_lang.specs.WordForms.{path_at, mode_at, number_at, fd_at, data_at, attr_at}
use Rattle.script_lang.specs.declared.errors.ScriptKind.{ScriptKind}
use Rattle.script_lang.specs.declared.errors.ScriptKind.TheVariants.{WordCount, BadWord}

-- a call of one, two or three words that must all have their form
abbrev pub made1 : {A : Type 0} → (A → Call) → Option A → Result Call ScriptKind
made1 f None = Err BadWord
made1 f (Some a) = Ok (f a)

abbrev pub made2 : {A B : Type 0} → (A → B → Call) → Option A → Option B → Result Call ScriptKind
made2 f None b = Err BadWord
made2 f (Some a) None = Err BadWord
made2 f (Some a) (Some b) = Ok (f a b)

abbrev pub made3 : {A B C : Type 0} → (A → B → C → Call) → Option A → Option B → Option C → Result Call ScriptKind
made3 f None b c = Err BadWord
made3 f (Some a) None c = Err BadWord
made3 f (Some a) (Some b) None = Err BadWord
made3 f (Some a) (Some b) (Some c) = Ok (f a b c)

-- the calls with one word, with two and with three
abbrev pub takes_one : List ℕ → Bool
takes_one word = is_text word (codes "rmdir") || is_text word (codes "unlink") || is_text word (codes "stat") || is_text word (codes "list") || is_text word (codes "close")

abbrev pub takes_two : List ℕ → Bool
takes_two word =
    is_text word (codes "mkdir") || is_text word (codes "rename") || is_text word (codes "open") || is_text word (codes "chmod") || is_text word (codes "truncate")
    || is_text word (codes "getattr") || is_text word (codes "delattr") || is_text word (codes "read") || is_text word (codes "write") || is_text word (codes "seek")

abbrev pub takes_three : List ℕ → Bool
takes_three word = is_text word (codes "create") || is_text word (codes "setattr")

-- words that are no call: a call's name has another number of words
abbrev pub misfit : List ℕ → ScriptKind
misfit word = if takes_one word || takes_two word || takes_three word then WordCount else BadWord

abbrev pub call_of_one : List ℕ → List ℕ → Result Call ScriptKind
call_of_one word a =
    if is_text word (codes "rmdir") then made1 call.Rmdir (path_at a)
    else if is_text word (codes "unlink") then made1 call.Unlink (path_at a)
    else if is_text word (codes "stat") then made1 call.Stat (path_at a)
    else if is_text word (codes "list") then made1 call.List (path_at a)
    else if is_text word (codes "close") then made1 call.Close (fd_at a)
    else Err (misfit word)

-- those of two words that begin with a path
abbrev pub call_of_path : List ℕ → List ℕ → List ℕ → Result Call ScriptKind
call_of_path word a b =
    if is_text word (codes "mkdir") then made2 call.Mkdir (path_at a) (mode_at b)
    else if is_text word (codes "rename") then made2 call.Rename (path_at a) (path_at b)
    else if is_text word (codes "chmod") then made2 call.Chmod (path_at a) (mode_at b)
    else if is_text word (codes "truncate") then made2 call.Truncate (path_at a) (number_at 0 4294967295 b)
    else if is_text word (codes "getattr") then made2 call.GetAttr (path_at a) (attr_at b)
    else if is_text word (codes "delattr") then made2 call.DelAttr (path_at a) (attr_at b)
    else Err (misfit word)

-- the others of two words begin with a descriptor
abbrev pub call_of_two : List ℕ → List ℕ → List ℕ → Result Call ScriptKind
call_of_two word a b =
    if is_text word (codes "open") then made2 call.Open (fd_at a) (path_at b)
    else if is_text word (codes "read") then made2 call.Read (fd_at a) (number_at 0 65536 b)
    else if is_text word (codes "write") then made2 call.Write (fd_at a) (data_at 65536 b)
    else if is_text word (codes "seek") then made2 call.Seek (fd_at a) (number_at 0 4294967295 b)
    else call_of_path word a b

abbrev pub set_attr : Path → List ℕ → List ℕ → Call
set_attr path name value = call.SetAttr path (record { name = name; value = value })

abbrev pub call_of_three : List ℕ → List ℕ → List ℕ → List ℕ → Result Call ScriptKind
call_of_three word a b c =
    if is_text word (codes "create") then made3 call.Create (fd_at a) (path_at b) (mode_at c)
    else if is_text word (codes "setattr") then made3 set_attr (path_at a) (attr_at b) (data_at 1024 c)
    else Err (misfit word)

-- the call that a word and the words behind it make
abbrev pub call_at : List ℕ → List (List ℕ) → Result Call ScriptKind
call_at word [] = Err (misfit word)
call_at word (a ∷ []) = call_of_one word a
call_at word (a ∷ b ∷ []) = call_of_two word a b
call_at word (a ∷ b ∷ c ∷ []) = call_of_three word a b c
call_at word (a ∷ b ∷ c ∷ d ∷ more) = Err (misfit word)
