-- Marks with one more, and marks of the replies so far, with the next.
use Rattle.std.proofs.Common.{◌≡◌, ◌≢◌, refl, sym, ap, subst, ◌∙◌, arith, get_or, inl, inr}
use Rattle.std.specs.Prelude.{ℕ, ◌<◌, ◌≤◌, ◌+◌, ◌⊎◌, true, List, [], ◌∷◌, ◌++◌, Option, None, Some, length, slice_get, slice_set}
use Rattle.std.proofs.lemmas.Bool.{cases_eq}
use Rattle.std.proofs.lemmas.Option.{slice_get_within, slice_get-get_or}
use Rattle.fop_types.specs.Replies.{is_ok}
use Rattle.mount_log.proofs.Items.{some_is, at_set, beside_set}
use Rattle.mount_log.proofs.Lists.{each_push}
use Rattle.mount_log.specs.declared.logs.Log.{Log}
use Rattle.mount_log.specs.declared.logs.ReplyLine.{ReplyLine}
use Rattle.change_audit.specs.Acknowledged.{mark_or_none, mark_of, IsMarkBy, IsMarkedBy, IsMarked, AreMarked, AreMarkedTo, KeepMarks, IsNoEarlier, AreUnmarked, IsAnsweredWell, AreOfReplies, MarksOnly, MarksReply, HasCallFrom}
use Rattle.change_audit.specs.Borne.{IsAcknowledged}
use Rattle.change_audit.specs.Entries.{AreNotMarked, NoneIsDue}
use Rattle.change_audit.proofs.Items.{each_more, item_is}

-- ---- one mark more

module _ (marks : List (Option ℕ)) (call number : ℕ) (within : call < length marks) where
  pub set_there : IsMarkedBy (slice_set marks call (Some number)) call number
  set_there = record { number = number; is = ap mark_or_none (at_set marks call (Some number) within); by = omega arith }

  -- what was marked stays so, if the call's mark was of no earlier event
  pub set_keeps : IsNoEarlier (mark_of marks call) number → KeepMarks marks (slice_set marks call (Some number))
  set_keeps no_earlier other bound marked = by (cases_eq other call) where
    by : (other ≡ call) ⊎ (other ≡ call → ⊥) → IsMarkedBy (slice_set marks call (Some number)) other bound
    by (inl same) =
        let old = subst (λ (n : ℕ). IsMarkedBy marks n bound) same marked in
        let first = no_earlier old.number old.is in
        let le = old.by in
        subst (λ (n : ℕ). IsMarkedBy (slice_set marks call (Some number)) n bound) (sym same) (record { number = number; is = ap mark_or_none (at_set marks call (Some number) within); by = omega (arith, first, le) })
    by (inr apart) = record { number = marked.number; is = ap mark_or_none (beside_set marks call other (Some number) apart) ∙ marked.is; by = marked.by }

  -- and no other call is marked
  pub set_only : MarksOnly marks (slice_set marks call (Some number)) call number
  set_only c n there = by (cases_eq c call) where
    by : (c ≡ call) ⊎ (c ≡ call → ⊥) → (mark_of marks c ≡ Some n) ⊎ ((c ≡ call) × (n ≡ number))
    by (inl same) =
        let own : mark_of (slice_set marks call (Some number)) call ≡ Some n = subst (λ (m : ℕ). mark_of (slice_set marks call (Some number)) m ≡ Some n) same there in
        inr (same, some_is n number (sym own ∙ ap mark_or_none (at_set marks call (Some number) within)))
    by (inr apart) = inl (sym (ap mark_or_none (beside_set marks call c (Some number) apart)) ∙ there)

pub marks_same : (marks : List (Option ℕ)) (call number : ℕ) → MarksOnly marks marks call number
marks_same marks call number c n there = inl there

pub reply_same : (marks : List (Option ℕ)) (reply : ReplyLine) → MarksReply marks marks reply
reply_same marks reply c n there = inl there

pub reply_only : (before after : List (Option ℕ)) (reply : ReplyLine) → is_ok reply.answer ≡ true → MarksOnly before after reply.call reply.event → MarksReply before after reply
reply_only before after reply well only c n there = by (only c n there) where
  by : (mark_of before c ≡ Some n) ⊎ ((c ≡ reply.call) × (n ≡ reply.event)) → (mark_of before c ≡ Some n) ⊎ ((c ≡ reply.call) × (n ≡ reply.event) × (is_ok reply.answer ≡ true))
  by (inl old) = inl old
  by (inr new) = inr (new.0, new.1, well)

pub none_more : (marks : List (Option ℕ)) → AreUnmarked marks → AreUnmarked (marks ++ None ∷ [])
none_more marks none = each_push (λ (k : ℕ) (m : Option ℕ). m ≡ None) marks None refl none

pub marks_kept : (marks : List (Option ℕ)) → KeepMarks marks marks
marks_kept marks call bound marked = marked

-- ---- the replies so far

pub marked_next : (replies : List ReplyLine) (i : ℕ) (reply : ReplyLine) (before after : List (Option ℕ)) → i < length replies → reply ≡ get_or replies i reply → KeepMarks before after → IsMarked after reply
    → AreMarkedTo i replies before → AreMarkedTo (i + 1) replies after
marked_next replies i reply before after lt is keep marked so_far =
    each_more (λ (k : ℕ) (r : ReplyLine). IsMarked after r) replies i (λ r there. subst (λ (x : ReplyLine). IsMarked after x) (item_is replies i reply r lt is there) marked)
    (λ k r below there well. keep r.call r.event (so_far k r below there well))

pub marked_all : (replies : List ReplyLine) (i : ℕ) (marks : List (Option ℕ)) → length replies ≤ i → AreMarkedTo i replies marks → AreMarked replies marks
marked_all replies i marks le so_far k reply there = let lt = slice_get_within replies k reply there in so_far k reply (omega (arith, lt, le)) there

-- a call that was answered well is marked
pub marked_well : (log : Log) (marks : List (Option ℕ)) (call number : ℕ) → AreMarked log.replies marks → IsAcknowledged log call number → IsMarkedBy marks call number
marked_well log marks call number are well =
    subst (λ (n : ℕ). IsMarkedBy marks n number) well.call_is
    (subst (λ (n : ℕ). IsMarkedBy marks well.reply.call n) well.event_is (are well.place well.reply well.there well.well))

none_marked : (mark : Option ℕ) (bound : ℕ) → mark ≡ None → IsMarkBy mark bound → ⊥
none_marked None bound is marked = let there = marked.is in absurd cc
none_marked (Some number) bound is marked = absurd cc

-- a call without a mark was not answered well
pub none_well : (log : Log) (marks : List (Option ℕ)) (call number : ℕ) → AreMarked log.replies marks → mark_of marks call ≡ None → IsAcknowledged log call number → ⊥
none_well log marks call number are none well = none_marked (mark_of marks call) number none (marked_well log marks call number are well)

-- the mark of a call is not behind any event in which it was answered well
pub mark_first : (log : Log) (marks : List (Option ℕ)) (call mark number : ℕ) → AreMarked log.replies marks → mark_of marks call ≡ Some mark → IsAcknowledged log call number → mark ≤ number
mark_first log marks call mark number are there well =
    let marked = marked_well log marks call number are well in
    let le = marked.by in
    let same = some_is mark marked.number (sym there ∙ marked.is) in
    omega (arith, le, same)

-- ---- the replies that the marks are of

unmarked : (o : Option (Option ℕ)) (n : ℕ) → ((mark : Option ℕ) → o ≡ Some mark → mark ≡ None) → mark_or_none o ≡ Some n → ⊥
unmarked None n none is = absurd cc
unmarked (Some mark) n none is = let no = none mark refl in absurd cc

pub none_of_replies : (replies : List ReplyLine) (marks : List (Option ℕ)) → AreUnmarked marks → AreOfReplies replies marks
none_of_replies replies marks none call number there = absurd (unmarked (slice_get marks call) number (none call) there)

-- a reply that was read is at its place
there_is : (replies : List ReplyLine) (i : ℕ) (reply : ReplyLine) → i < length replies → reply ≡ get_or replies i reply → slice_get replies i ≡ Some reply
there_is replies i reply lt is = slice_get-get_or replies i reply lt ∙ sym (ap Some is)

pub of_replies_next : (replies : List ReplyLine) (i : ℕ) (reply : ReplyLine) (before after : List (Option ℕ)) → i < length replies → reply ≡ get_or replies i reply → MarksReply before after reply
    → AreOfReplies replies before → AreOfReplies replies after
of_replies_next replies i reply before after lt is only so_far call number there = by (only call number there) where
  by : (mark_of before call ≡ Some number) ⊎ ((call ≡ reply.call) × (number ≡ reply.event) × (is_ok reply.answer ≡ true)) → IsAnsweredWell replies call number
  by (inl old) = so_far call number old
  by (inr new) = record { place = i; reply = reply; there = there_is replies i reply lt is; call_is = sym new.0; well = new.2; event_is = sym new.1 }

pub call_beyond : (replies : List ReplyLine) (i bound : ℕ) (reply : ReplyLine) (marks : List (Option ℕ)) → i < length replies → reply ≡ get_or replies i reply → length marks ≡ bound → length marks ≤ reply.call → HasCallFrom replies bound
call_beyond replies i bound reply marks lt is long le = record { place = i; reply = reply; there = there_is replies i reply lt is; beyond = omega (arith, long, le) }

pub call_from : (replies : List ReplyLine) (bound least : ℕ) → least ≤ bound → HasCallFrom replies bound → HasCallFrom replies least
call_from replies bound least le has = let beyond = has.beyond in record { place = has.place; reply = has.reply; there = has.there; beyond = omega (arith, le, beyond) }

no_mark : (mark : Option ℕ) → ((number : ℕ) → mark ≡ Some number → ⊥) → mark ≡ None
no_mark None none = refl
no_mark (Some number) none = absurd (none number refl)

-- where no entry is due, none has a marked call
pub not_marked : (log : Log) (marks : List (Option ℕ)) → AreOfReplies log.replies marks → NoneIsDue log → AreNotMarked log.history marks
not_marked log marks own none k entry there = no_mark (mark_of marks entry.call) (λ number marked.
    let well = own entry.call number marked in
    none.none k number entry there (record { place = well.place; reply = well.reply; there = well.there; call_is = well.call_is; well = well.well; event_is = well.event_is }))
