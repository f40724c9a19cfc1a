-- The search for an entry in the history.
use Rattle.std.proofs.Common.{◌≡◌, ℕ, ◌+◌, ◌<◌, Bool, true, false, cond, List, [], ◌∷◌, Option, Some, refl, sym, ap, ◌∙◌, length, get_or, drop, arith}
use Rattle.std.proofs.lemmas.List.{at_drop_more}
use Rattle.fop_types.specs.declared.history.Entry.{Entry}
use Rattle.afr_transaction.specs.Changes.{same_entry, entry_from}

-- an entry that is not the one is passed over
pub passed : (history : List Entry) (i number : ℕ) (d : Entry) (effect : Option Entry) (same : Bool) → i < length history → same ≡ same_entry (get_or history i d) effect → same ≡ false → entry_from (number + 1) (drop (i + 1) history) effect ≡ entry_from number (drop i history) effect
passed history i number d effect same fits is other =
    sym (at_drop_more (λ (es : List Entry). entry_from number es effect) history i d fits
    ∙ ap (λ (b : Bool). cond b (Some number) (entry_from (number + 1) (drop (i + 1) history) effect)) (sym is ∙ other))
