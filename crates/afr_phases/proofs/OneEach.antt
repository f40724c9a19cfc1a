-- One request to each of five replicas, one after another.
use Rattle.std.proofs.Common.{◌≡◌, ◌∙◌, ℕ, Bool, true, false, List, [], ◌∷◌, ◌++◌, if◌then◌else◌, refl, sym, ap}
use Rattle.std.proofs.lemmas.List.{append_assoc, append-nil}
use Rattle.fop_types.specs.declared.messages.BrickReq.{BrickReq}
use Rattle.afr_phases.specs.Flags.{flag}
use Rattle.afr_phases.specs.Sending.{sends, one_if}

abbrev Requests : Type 0
Requests = List (ℕ × BrickReq)

pub nobody_more : (k : ℕ) (req : BrickReq) (asked : Bool) (list : Requests) → asked ≡ false → list ≡ list ++ one_if asked k req
nobody_more k req true list e = absurd cc
nobody_more k req false list e = sym (append-nil list)

one_then : (asked : Bool) (k : ℕ) (req : BrickReq) (rest : Requests) → one_if asked k req ++ rest ≡ (if asked then (k, req) ∷ rest else rest)
one_then true k req rest = refl
one_then false k req rest = refl

one_alone : (asked : Bool) (k : ℕ) (req : BrickReq) → one_if asked k req ≡ (if asked then (k, req) ∷ [] else [])
one_alone true k req = refl
one_alone false k req = refl

-- from the end
rest_of : (k : ℕ) (req : BrickReq) (asked : Bool) (before after rest : Requests) → after ≡ before ++ one_if asked k req → after ++ rest ≡ before ++ (if asked then (k, req) ∷ rest else rest)
rest_of k req asked before after rest e =
    ap (λ (list : Requests). list ++ rest) e ∙ append_assoc before (one_if asked k req) rest ∙ ap (λ (list : Requests). before ++ list) (one_then asked k req rest)

-- the requests from the k-th replica on
abbrev from_four : List Bool → BrickReq → Requests
from_four to req = if flag to 4 then (4, req) ∷ [] else []

abbrev from_three : List Bool → BrickReq → Requests
from_three to req = if flag to 3 then (3, req) ∷ from_four to req else from_four to req

abbrev from_two : List Bool → BrickReq → Requests
from_two to req = if flag to 2 then (2, req) ∷ from_three to req else from_three to req

abbrev from_one : List Bool → BrickReq → Requests
from_one to req = if flag to 1 then (1, req) ∷ from_two to req else from_two to req

pub five_asked : (to : List Bool) (req : BrickReq) (list a b c d e : Requests) → a ≡ (list ++ []) ++ one_if (flag to 0) 0 req → b ≡ a ++ one_if (flag to 1) 1 req → c ≡ b ++ one_if (flag to 2) 2 req → d ≡ c ++ one_if (flag to 3) 3 req → e ≡ d ++ one_if (flag to 4) 4 req
    → e ≡ list ++ sends to req
five_asked to req list a b c d e u v w x y =
    let four : e ≡ d ++ from_four to req = y ∙ ap (λ (more : Requests). d ++ more) (one_alone (flag to 4) 4 req) in
    let three : d ++ from_four to req ≡ c ++ from_three to req = rest_of 3 req (flag to 3) c d (from_four to req) x in
    let two : c ++ from_three to req ≡ b ++ from_two to req = rest_of 2 req (flag to 2) b c (from_three to req) w in
    let one : b ++ from_two to req ≡ a ++ from_one to req = rest_of 1 req (flag to 1) a b (from_two to req) v in
    let first : a ≡ list ++ one_if (flag to 0) 0 req = u ∙ ap (λ (all : Requests). all ++ one_if (flag to 0) 0 req) (append-nil list) in
    let none : a ++ from_one to req ≡ list ++ sends to req = rest_of 0 req (flag to 0) list a (from_one to req) first in
    four ∙ (three ∙ (two ∙ (one ∙ none)))

pub none_before : (a b c : Requests) → b ≡ a ++ c → a ≡ [] → b ≡ c
none_before a b c e none = e ∙ ap (λ (list : Requests). list ++ c) none
