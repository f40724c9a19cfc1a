-- The lines of an event get its number, and what goes out in it has that too.
use Rattle.std.proofs.Common.{◌≡◌, ℕ, zero, suc, ◌+◌, ◌<◌, ◌++◌, drop, append_assoc, Bool, true, false, List, [], ◌∷◌, Option, Some, None, length, Result, Ok, Err, OnOk, refl, sym, ap, ◌∙◌, subst, if◌then◌else◌, arith, length-append}
use Rattle.std.proofs.lemmas.List.{length-map}
use Rattle.std.proofs.lemmas.List.Elements.{recursion_from_All, All-from_recursion, All-map, All-append, All-nil}
use Rattle.std.specs.List.{All, AllByRecursion}
use Rattle.fop_types.specs.declared.messages.Input.TheVariants as input
use Rattle.wire_xdr.specs.WireText.{input_text}
use Rattle.mount_log.specs.Logs.{empty_log, same_number, with_lines}
use Rattle.mount_log.specs.Procedures.{rank_in}
use Rattle.mount_log.specs.declared.logs.Log.{Log}
use Rattle.mount_log.specs.declared.logs.ReplyLine.{ReplyLine}
use Rattle.mount_log.specs.declared.logs.SentLine.{SentLine}
use Rattle.mount_log.specs.declared.logs.WindLine.{WindLine}
use Rattle.script_lang.specs.declared.scripts.Action.{Action}
use Rattle.script_lang.specs.declared.scripts.Action.TheVariants as action
use Rattle.hub_tables.specs.Agendas.{controls_by, armed_line, with_armed_line, armed_lines, lines_before, outgoing}
use Rattle.hub_tables.specs.Arming.{is_armable}
use Rattle.hub_tables.specs.PhaseControls.{ControlsState, next_count, with_count, next_armed, without_armed}
use Rattle.hub_tables.specs.declared.controls.Armed.{Armed}
use Rattle.hub_tables.specs.declared.requests.Nth.{Nth}
use Rattle.hub_calls.specs.EventNumbers.{AreOfEvent, HaveEvents, sent_in, reply_in, wind_in, numbered, going_out}

-- ---- the lines get their number

rest_numbered : {T : Type 0} (n : ℕ) (items : List T) (k : ℕ) → k < length items → same_number n (drop k items) ≡ n ∷ same_number n (drop (k + 1) items)
rest_numbered n [] k below = let no : ⊥ = omega arith in absurd no
rest_numbered n (x ∷ xs) zero below = refl
rest_numbered n (x ∷ xs) (suc k) below = let one : suc k + 1 ≡ suc (k + 1) = omega arith in rw one (rest_numbered n xs k (omega arith))

-- one number more of those of all items
pub one_number_more : {T : Type 0} (n : ℕ) (numbers : List ℕ) (items : List T) (k : ℕ) → k < length items → numbers ++ same_number n (drop k items) ≡ same_number n items → (numbers ++ n ∷ []) ++ same_number n (drop (k + 1) items) ≡ same_number n items
one_number_more n numbers items k below so_far =
    append_assoc numbers (n ∷ []) (same_number n (drop (k + 1) items))
    ∙ ap (λ (ns : List ℕ). numbers ++ ns) (sym (rest_numbered n items k below))
    ∙ so_far

-- lines that were numbered have their number
pub numbered_are : (number : ℕ) (lines : Log) → AreOfEvent number (numbered number lines)
unfolding numbered
numbered_are number lines = record {
  sent = All-map (λ (line : SentLine). line.event ≡ number) (sent_in number) lines.sent (λ k d lt. refl);
  replies = All-map (λ (line : ReplyLine). line.event ≡ number) (reply_in number) lines.replies (λ k d lt. refl);
  entered = All-map (λ (n : ℕ). n ≡ number) (λ _. number) lines.history (λ k d lt. refl);
  answered = All-map (λ (n : ℕ). n ≡ number) (λ _. number) lines.answered (λ k d lt. refl);
  winds = All-map (λ (line : WindLine). line.event ≡ number) (wind_in number) lines.winds (λ k d lt. refl);
  copied = All-map (λ (n : ℕ). n ≡ number) (λ _. number) lines.copies (λ k d lt. refl);
  skipped = All-map (λ (n : ℕ). n ≡ number) (λ _. number) lines.skips (λ k d lt. refl);
  each = record { entries = length-map lines.history (λ _. number); copies = length-map lines.copies (λ _. number); skips = length-map lines.skips (λ _. number) };
}

-- no lines have any number
pub none_of_event : (number : ℕ) → AreOfEvent number empty_log
none_of_event number = record {
  sent = All-nil (λ (line : SentLine). line.event ≡ number);
  replies = All-nil (λ (line : ReplyLine). line.event ≡ number);
  entered = All-nil (λ (n : ℕ). n ≡ number);
  answered = All-nil (λ (n : ℕ). n ≡ number);
  winds = All-nil (λ (line : WindLine). line.event ≡ number);
  copied = All-nil (λ (n : ℕ). n ≡ number);
  skipped = All-nil (λ (n : ℕ). n ≡ number);
  each = record { entries = refl; copies = refl; skips = refl };
}

-- lines with their events behind others
as_long : {X Y : Type 0} (ms ns : List X) (xs ys : List Y) → length ms ≡ length xs → length ns ≡ length ys → length (ms ++ ns) ≡ length (xs ++ ys)
as_long ms ns xs ys first more = length-append ms ns ∙ omega (arith, length-append xs ys)

pub both_have : (old lines : Log) → HaveEvents old → HaveEvents lines → HaveEvents (with_lines old lines)
both_have old lines before are = record {
  entries = as_long old.entered lines.entered old.history lines.history before.entries are.entries;
  copies = as_long old.copied lines.copied old.copies lines.copies before.copies are.copies;
  skips = as_long old.skipped lines.skipped old.skips lines.skips before.skips are.skips;
}

-- lines of an event behind others of the same
pub both_of_event : (number : ℕ) (old new lines : Log) → AreOfEvent number lines → new ≡ with_lines old (record lines { events = [] }) → AreOfEvent number old → AreOfEvent number new
both_of_event number old new lines are added before = subst (λ (l : Log). AreOfEvent number l) (sym added) (record {
  sent = All-append (λ (line : SentLine). line.event ≡ number) old.sent lines.sent before.sent are.sent;
  replies = All-append (λ (line : ReplyLine). line.event ≡ number) old.replies lines.replies before.replies are.replies;
  entered = All-append (λ (n : ℕ). n ≡ number) old.entered lines.entered before.entered are.entered;
  answered = All-append (λ (n : ℕ). n ≡ number) old.answered lines.answered before.answered are.answered;
  winds = All-append (λ (line : WindLine). line.event ≡ number) old.winds lines.winds before.winds are.winds;
  copied = All-append (λ (n : ℕ). n ≡ number) old.copied lines.copied before.copied are.copied;
  skipped = All-append (λ (n : ℕ). n ≡ number) old.skipped lines.skipped before.skipped are.skipped;
  each = both_have old (record lines { events = [] }) before.each (record { entries = are.each.entries; copies = are.each.copies; skips = are.each.skips });
})

-- ---- what goes out

pub in_any_case : {T E A : Type 0} (r : Result T E) → A → OnOk r A
in_any_case (Ok x) h = h
in_any_case (Err e) h = tt

abbrev AreAll : ℕ → List SentLine → Type 0
AreAll n lines = AllByRecursion (λ (line : SentLine). line.event ≡ n) lines

both : (n : ℕ) (xs ys : List SentLine) → AreAll n xs → AreAll n ys → AreAll n (xs ++ ys)
both n [] ys first then_all = then_all
both n (x ∷ xs) ys first then_all = (first.0, both n xs ys first.1 then_all)

-- ---- what is armed

armed_is : (n : ℕ) (a : Action) → AreAll n (armed_line n a)
armed_is n (action.Down brick serve) = (refl, tt)
armed_is n (action.Fault brick p number) = by (is_armable brick (action.Fault brick p number)) where
  by : (b : Bool) → AreAll n (if b then record { event = n; brick = brick; bytes = input_text (input.FaultAt p number) } ∷ [] else [])
  by true = (refl, tt)
  by false = tt
armed_is n (action.Up brick) = tt
armed_is n (action.Cut brick) = tt
armed_is n action.Heal = tt
armed_is n (action.Switch volfile) = tt

with_rest : (n : ℕ) (armed : Option Armed) (rest : List SentLine) → AreAll n rest → AreAll n (with_armed_line n armed rest)
with_rest n None rest all = tt
with_rest n (Some armed) rest all = both n (armed_line n armed.action) rest (armed_is n armed.action) all

armed_are : (n : ℕ) (c : ControlsState) (request : Nth) (most : ℕ) → AreAll n (armed_lines n c request most)
armed_are n c request zero = tt
armed_are n c request (suc more) = with_rest n (next_armed c request) (armed_lines n (without_armed c request) request more) (armed_are n (without_armed c request) request more)

-- ---- what goes out

before_are : (n : ℕ) (c : ControlsState) (line : SentLine) (p : Option ℕ) → line.event ≡ n → AreAll n (lines_before c line p)
before_are n c line None is = tt
before_are n c line (Some p) is =
    let request : Nth = record { brick = line.brick; proc = p; count = next_count c line.brick p } in
    subst (λ (e : ℕ). AreAll n (armed_lines e (with_count c line.brick p) request (length c.armed))) (sym is) (armed_are n (with_count c line.brick p) request (length c.armed))

all_are : (n : ℕ) (c : ControlsState) (lines : List SentLine) → AreAll n lines → AreAll n (outgoing c lines)
all_are n c [] all = tt
all_are n c (line ∷ lines) all =
    both n (lines_before c line (rank_in line.bytes)) (line ∷ outgoing (controls_by c line.brick (rank_in line.bytes)) lines)
    (before_are n c line (rank_in line.bytes) all.0) (all.0, all_are n (controls_by c line.brick (rank_in line.bytes)) lines all.1)

-- the lines of an event have its number also where what is armed goes out among them
pub sent_of_event : (c : ControlsState) (lines : Log) (sent : List SentLine) → sent ≡ outgoing c lines.sent → (n : ℕ) → AreOfEvent n lines → AreOfEvent n (record lines { sent = sent })
sent_of_event c lines sent is n are = record {
  sent = subst (λ (ls : List SentLine). All (λ (line : SentLine). line.event ≡ n) ls) (sym is)
      (All-from_recursion (λ (line : SentLine). line.event ≡ n) (outgoing c lines.sent) (all_are n c lines.sent (recursion_from_All (λ (line : SentLine). line.event ≡ n) lines.sent are.sent)));
  replies = are.replies;
  entered = are.entered;
  answered = are.answered;
  winds = are.winds;
  copied = are.copied;
  skipped = are.skipped;
  each = record { entries = are.each.entries; copies = are.each.copies; skips = are.each.skips };
}

-- the lines, which have their number, with what goes out for what was sent
pub lines_out : (c : ControlsState) (number n : ℕ) (old lines after : Log) → number ≡ n → lines ≡ numbered number old → after.sent ≡ outgoing c lines.sent → after ≡ record lines { sent = after.sent } → after ≡ going_out c (numbered n old)
unfolding going_out
lines_out c number n old lines after is are sent same =
    same ∙ ap (λ (ls : List SentLine). record lines { sent = ls }) sent ∙ ap (λ (l : Log). going_out c l) are ∙ ap (λ (k : ℕ). going_out c (numbered k old)) is
