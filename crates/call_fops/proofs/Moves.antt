-- What each move makes of a session's descriptors, and that it is what the answer makes of them.
use Rattle.std.proofs.Common.{◌≡◌, ◌≢◌, ◌∷◌, ◌⊎◌, inl, inr, refl, sym, ap, subst, ◌∙◌, ℕ, ◌+◌, ◌==◌, List, [], length}
use Rattle.std.specs.Prelude.{Bool, true, false, cond, Option, Some, None}
use Rattle.std.specs.Option.{option_map}
use Rattle.std.specs.FinMap as fin
use Rattle.std.specs.FinMap.{nat_cmp-IsAntisymmetric}
use Rattle.std.specs.Ordering.{nat_cmp, is_eq, eq_by_cmp}
use Rattle.std.specs.Cmp.{nat_cmp_total}
use Rattle.std.proofs.lemmas.Bool.{eq-eqb}
use Rattle.std.proofs.lemmas.Bool.Decides.{eqb_tells}
use Rattle.std.proofs.Math.Dec.{eqb}
use Rattle.fop_types.specs.Calls.{Descriptor, Descriptors, with_open, moved_by, moved_to, where_done, after_read, after_write, after_seek, after_answer, at_once, of_root, or_else, where_open, where_closed}
use Rattle.fop_types.specs.Replies.{is_ok}
use Rattle.fop_types.specs.declared.answers.Answer.{Answer}
use Rattle.fop_types.specs.declared.answers.Answer.TheVariants as answers
use Rattle.fop_types.specs.declared.answers.AppError.{AppError}
use Rattle.fop_types.specs.declared.answers.AppError.TheVariants.{Eexist}
use Rattle.fop_types.specs.declared.answers.FopAnswer.{FopAnswer}
use Rattle.fop_types.specs.declared.answers.FopAnswer.TheVariants as fop_answer
use Rattle.fop_types.specs.declared.calls.Path.{Path}
use Rattle.fop_types.specs.declared.calls.Call.{Call}
use Rattle.fop_types.specs.declared.calls.Call.TheVariants as call
use Rattle.fop_types.specs.declared.cells.Gfid.{Gfid}
use Rattle.fop_types.specs.declared.fops.Object.{Object}
use Rattle.fd_table.specs.Fds.{Fds, fd_cmp, fd_key, fd_at, opened_at, with_fd, without_fd, with_offset, put_back}
use Rattle.fd_table.specs.declared.fd.Fd.{Fd}
use Rattle.fd_table.proofs.Keys.{fd_total}
use Rattle.call_fops.specs.Answered.{after_by, move_at_once, move_found, move_answered, by_bytes, by_count, to_count}
use Rattle.call_fops.specs.Descriptors.{descriptor_of, fds_of, fds_after}
use Rattle.call_fops.specs.Follow.{file_given, AnswersInForm, IsInForm, DescriptorsFollow}
use Rattle.call_fops.specs.Walks.{Walked, next_name}
use Rattle.call_fops.specs.declared.replies.After.{After}
use Rattle.call_fops.specs.declared.replies.After.TheVariants.{GoesOn, Replies}
use Rattle.call_fops.specs.declared.replies.CallReply.{CallReply}
use Rattle.call_fops.specs.declared.replies.FdMove.{FdMove}
use Rattle.call_fops.specs.declared.replies.FdMove.TheVariants as move
use Rattle.call_fops.proofs.Descriptors.{get_fds_of, same_key}

-- ---- one descriptor that is put or taken

own_key : (s fd q : ℕ) → eq_by_cmp fd_cmp (fd_key s q) (fd_key s fd) ≡ eq_by_cmp nat_cmp q fd
own_key s fd q = same_key s q (fd_key s fd) ∙ ap (λ (b : Bool). cond b (is_eq (nat_cmp q fd)) false) (eq-eqb s s refl)

apart_by : (s t : ℕ) → s ≢ t → ((eqb s t ≡ true) × (s ≡ t)) ⊎ ((eqb s t ≡ false) × (s ≢ t)) → (s == t) ≡ false
apart_by s t h (inl e) = absurd (h e.1)
apart_by s t h (inr e) = e.0

other_key : (s t fd q : ℕ) → s ≢ t → eq_by_cmp fd_cmp (fd_key t q) (fd_key s fd) ≡ false
other_key s t fd q h = same_key t q (fd_key s fd) ∙ ap (λ (b : Bool). cond b (is_eq (nat_cmp q fd)) false) (apart_by s t h (eqb_tells s t))

map_cond : (b : Bool) (x y : Option Fd) → option_map descriptor_of (cond b x y) ≡ cond b (option_map descriptor_of x) (option_map descriptor_of y)
map_cond true x y = refl
map_cond false x y = refl

same_fds : (m n : Descriptors) → ((q : ℕ) → fin.get m q ≡ fin.get n q) → m ≡ n
same_fds m n h = fin.same_map nat_cmp_total nat_cmp-IsAntisymmetric m n h

-- a look-up in a session's descriptors after one entry of the table was changed to x
look_own : (fds changed : Fds) (s fd q : ℕ) (x : Option Fd)
    → fd_at changed s q ≡ cond (eq_by_cmp fd_cmp (fd_key s q) (fd_key s fd)) x (fd_at fds s q)
    → fin.get (fds_of changed s) q ≡ cond (eq_by_cmp nat_cmp q fd) (option_map descriptor_of x) (fin.get (fds_of fds s) q)
look_own fds changed s fd q x is =
    get_fds_of changed s q ∙ ap (option_map descriptor_of) is
    ∙ ap (λ (b : Bool). option_map descriptor_of (cond b x (fd_at fds s q))) (own_key s fd q)
    ∙ map_cond (eq_by_cmp nat_cmp q fd) x (fd_at fds s q)
    ∙ ap (cond (eq_by_cmp nat_cmp q fd) (option_map descriptor_of x)) (sym (get_fds_of fds s q))

look_other : (fds changed : Fds) (s t fd q : ℕ) (x : Option Fd) → s ≢ t
    → fd_at changed t q ≡ cond (eq_by_cmp fd_cmp (fd_key t q) (fd_key s fd)) x (fd_at fds t q)
    → fin.get (fds_of changed t) q ≡ fin.get (fds_of fds t) q
look_other fds changed s t fd q x h is =
    get_fds_of changed t q ∙ ap (option_map descriptor_of) (is ∙ ap (λ (b : Bool). cond b x (fd_at fds t q)) (other_key s t fd q h))
    ∙ sym (get_fds_of fds t q)

put_own : (fds : Fds) (s fd : ℕ) (d : Fd) → fds_of (with_fd fds s fd d) s ≡ fin.insert (fds_of fds s) fd (descriptor_of d)
put_own fds s fd d = same_fds (fds_of (with_fd fds s fd d) s) (fin.insert (fds_of fds s) fd (descriptor_of d)) (λ q.
    look_own fds (with_fd fds s fd d) s fd q (Some d) (fin.get-insert fd_total fds (fd_key s fd) d (fd_key s q))
    ∙ sym (fin.get-insert nat_cmp_total (fds_of fds s) fd (descriptor_of d) q))

put_other : (fds : Fds) (s t fd : ℕ) (d : Fd) → s ≢ t → fds_of (with_fd fds s fd d) t ≡ fds_of fds t
put_other fds s t fd d h = same_fds (fds_of (with_fd fds s fd d) t) (fds_of fds t) (λ q.
    look_other fds (with_fd fds s fd d) s t fd q (Some d) h (fin.get-insert fd_total fds (fd_key s fd) d (fd_key t q)))

drop_own : (fds : Fds) (s fd : ℕ) → fds_of (without_fd fds s fd) s ≡ fin.remove (fds_of fds s) fd
drop_own fds s fd = same_fds (fds_of (without_fd fds s fd) s) (fin.remove (fds_of fds s) fd) (λ q.
    look_own fds (without_fd fds s fd) s fd q None (fin.get-remove fd_total fds (fd_key s fd) (fd_key s q))
    ∙ sym (fin.get-remove nat_cmp_total (fds_of fds s) fd q))

drop_other : (fds : Fds) (s t fd : ℕ) → s ≢ t → fds_of (without_fd fds s fd) t ≡ fds_of fds t
drop_other fds s t fd h = same_fds (fds_of (without_fd fds s fd) t) (fds_of fds t) (λ q.
    look_other fds (without_fd fds s fd) s t fd q None h (fin.get-remove fd_total fds (fd_key s fd) (fd_key t q)))

-- ---- offsets

by_own : (fds : Fds) (s fd count : ℕ) (o : Option Fd) → fds_of (put_back fds s fd o (λ at. at + count)) s ≡ moved_by (fds_of fds s) fd count (option_map descriptor_of o)
by_own fds s fd count None = refl
by_own fds s fd count (Some d) = put_own fds s fd (record d { offset = d.offset + count })

advanced : (fds : Fds) (s fd count : ℕ) → fds_of (with_offset fds s fd (λ at. at + count)) s ≡ moved_by (fds_of fds s) fd count (fin.get (fds_of fds s) fd)
advanced fds s fd count = by_own fds s fd count (fd_at fds s fd) ∙ ap (moved_by (fds_of fds s) fd count) (sym (get_fds_of fds s fd))

to_own : (fds : Fds) (s fd offset : ℕ) (o : Option Fd) → fds_of (put_back fds s fd o (λ _. offset)) s ≡ moved_to (fds_of fds s) fd offset (option_map descriptor_of o)
to_own fds s fd offset None = refl
to_own fds s fd offset (Some d) = put_own fds s fd (record d { offset = offset })

sought : (fds : Fds) (s fd offset : ℕ) → fds_of (with_offset fds s fd (λ _. offset)) s ≡ moved_to (fds_of fds s) fd offset (fin.get (fds_of fds s) fd)
sought fds s fd offset = to_own fds s fd offset (fd_at fds s fd) ∙ ap (moved_to (fds_of fds s) fd offset) (sym (get_fds_of fds s fd))

back_other : (fds : Fds) (s t fd : ℕ) (o : Option Fd) (to : ℕ → ℕ) → s ≢ t → fds_of (put_back fds s fd o to) t ≡ fds_of fds t
back_other fds s t fd None to h = refl
back_other fds s t fd (Some d) to h = put_other fds s t fd (record d { offset = to d.offset }) h

others : (fds : Fds) (session other : ℕ) (m : FdMove) → session ≢ other → fds_of (fds_after fds session m) other ≡ fds_of fds other
others fds session other move.Stays h = refl
others fds session other (move.Opens fd gfid set) h = put_other fds session other fd (opened_at gfid set) h
others fds session other (move.Advances fd count) h = back_other fds session other fd (fd_at fds session fd) (λ at. at + count) h
others fds session other (move.Seeks fd offset) h = back_other fds session other fd (fd_at fds session fd) (λ _. offset) h
others fds session other (move.Closes fd) h = drop_other fds session other fd h

-- ---- an error changes nothing

done_fails : (a : Answer) (x y : Descriptors) → is_ok a ≡ false → where_done a x y ≡ y
done_fails answers.Done x y h = absurd cc
done_fails (answers.Count count) x y h = refl
done_fails (answers.Bytes bytes) x y h = refl
done_fails (answers.Stat kind mode size) x y h = refl
done_fails (answers.List items) x y h = refl
done_fails (answers.App error) x y h = refl
done_fails (answers.Io error) x y h = refl

read_fails : (a : Answer) (fds : Descriptors) (fd : ℕ) → is_ok a ≡ false → after_read a fds fd ≡ fds
read_fails answers.Done fds fd h = refl
read_fails (answers.Count count) fds fd h = refl
read_fails (answers.Bytes bytes) fds fd h = absurd cc
read_fails (answers.Stat kind mode size) fds fd h = refl
read_fails (answers.List items) fds fd h = refl
read_fails (answers.App error) fds fd h = refl
read_fails (answers.Io error) fds fd h = refl

write_fails : (a : Answer) (fds : Descriptors) (fd : ℕ) → is_ok a ≡ false → after_write a fds fd ≡ fds
write_fails answers.Done fds fd h = refl
write_fails (answers.Count count) fds fd h = absurd cc
write_fails (answers.Bytes bytes) fds fd h = refl
write_fails (answers.Stat kind mode size) fds fd h = refl
write_fails (answers.List items) fds fd h = refl
write_fails (answers.App error) fds fd h = refl
write_fails (answers.Io error) fds fd h = refl

seek_fails : (a : Answer) (fds : Descriptors) (fd : ℕ) → is_ok a ≡ false → after_seek a fds fd ≡ fds
seek_fails answers.Done fds fd h = refl
seek_fails (answers.Count count) fds fd h = absurd cc
seek_fails (answers.Bytes bytes) fds fd h = refl
seek_fails (answers.Stat kind mode size) fds fd h = refl
seek_fails (answers.List items) fds fd h = refl
seek_fails (answers.App error) fds fd h = refl
seek_fails (answers.Io error) fds fd h = refl

fails : (fds : Descriptors) (c : Call) (file : Gfid) (a : Answer) → is_ok a ≡ false → after_answer fds c file a ≡ fds
fails fds (call.Mkdir path mode) file a h = refl
fails fds (call.Rmdir path) file a h = refl
fails fds (call.Create fd path mode) file a h = done_fails a (with_open fds fd file) fds h
fails fds (call.Unlink path) file a h = refl
fails fds (call.Rename path target) file a h = refl
fails fds (call.Open fd path) file a h = done_fails a (with_open fds fd file) fds h
fails fds (call.Stat path) file a h = refl
fails fds (call.List path) file a h = refl
fails fds (call.Chmod path mode) file a h = refl
fails fds (call.Truncate path size) file a h = refl
fails fds (call.SetAttr path attr) file a h = refl
fails fds (call.GetAttr path name) file a h = refl
fails fds (call.DelAttr path name) file a h = refl
fails fds (call.Read fd count) file a h = read_fails a fds fd h
fails fds (call.Write fd bytes) file a h = write_fails a fds fd h
fails fds (call.Seek fd offset) file a h = seek_fails a fds fd h
fails fds (call.Close fd) file a h = done_fails a (fin.remove fds fd) fds h

-- ---- at once

abbrev OnlyErrors : Option Answer → Type 0
OnlyErrors o = (a : Answer) → o ≡ Some a → is_ok a ≡ false

abbrev answer_or : Answer → Option Answer → Answer
answer_or d None = d
answer_or d (Some a) = a

just_error : (e : AppError) → OnlyErrors (Some (answers.App e))
just_error e a is = ap (λ (o : Option Answer). is_ok (answer_or a o)) (sym is)

no_answer : OnlyErrors None
no_answer a is = absurd cc

root_errors : (parts : List (List ℕ)) (e : AppError) → OnlyErrors (of_root parts e)
root_errors [] e = just_error e
root_errors (part ∷ parts) e = no_answer

open_errors : (o : Option Descriptor) → OnlyErrors (where_open o)
open_errors None a is = absurd cc
open_errors (Some d) a is = ap (λ (o : Option Answer). is_ok (answer_or a o)) (sym is)

closed_errors : (o : Option Descriptor) → OnlyErrors (where_closed o)
closed_errors None a is = ap (λ (o : Option Answer). is_ok (answer_or a o)) (sym is)
closed_errors (Some d) a is = absurd cc

either_errors : (x y : Option Answer) → OnlyErrors x → OnlyErrors y → OnlyErrors (or_else x y)
either_errors None y h i = i
either_errors (Some a) y h i = h

seek_follows : (fds : Fds) (s fd : ℕ) (a : Answer) → fds_of (fds_after fds s (to_count fd a)) s ≡ after_seek a (fds_of fds s) fd
seek_follows fds s fd answers.Done = refl
seek_follows fds s fd (answers.Count count) = sought fds s fd count
seek_follows fds s fd (answers.Bytes bytes) = refl
seek_follows fds s fd (answers.Stat kind mode size) = refl
seek_follows fds s fd (answers.List items) = refl
seek_follows fds s fd (answers.App error) = refl
seek_follows fds s fd (answers.Io error) = refl

close_follows : (fds : Fds) (s fd : ℕ) (file : Gfid) (a : Answer) → fds_of (fds_after fds s (move_at_once (call.Close fd) a)) s ≡ after_answer (fds_of fds s) (call.Close fd) file a
close_follows fds s fd file answers.Done = drop_own fds s fd
close_follows fds s fd file (answers.Count count) = refl
close_follows fds s fd file (answers.Bytes bytes) = refl
close_follows fds s fd file (answers.Stat kind mode size) = refl
close_follows fds s fd file (answers.List items) = refl
close_follows fds s fd file (answers.App error) = refl
close_follows fds s fd file (answers.Io error) = refl

once_follows : (fds : Fds) (s : ℕ) (c : Call) (file : Gfid) (a : Answer) → at_once (fds_of fds s) c ≡ Some a
    → fds_of (fds_after fds s (move_at_once c a)) s ≡ after_answer (fds_of fds s) c file a
once_follows fds s (call.Mkdir path mode) file a is = refl
once_follows fds s (call.Rmdir path) file a is = refl
once_follows fds s (call.Create fd path mode) file a is = sym (fails (fds_of fds s) (call.Create fd path mode) file a (either_errors (where_open (fin.get (fds_of fds s) fd)) (of_root path.parts Eexist) (open_errors (fin.get (fds_of fds s) fd)) (root_errors path.parts Eexist) a is))
once_follows fds s (call.Unlink path) file a is = refl
once_follows fds s (call.Rename path target) file a is = refl
once_follows fds s (call.Open fd path) file a is = sym (fails (fds_of fds s) (call.Open fd path) file a (open_errors (fin.get (fds_of fds s) fd) a is))
once_follows fds s (call.Stat path) file a is = refl
once_follows fds s (call.List path) file a is = refl
once_follows fds s (call.Chmod path mode) file a is = refl
once_follows fds s (call.Truncate path size) file a is = refl
once_follows fds s (call.SetAttr path attr) file a is = refl
once_follows fds s (call.GetAttr path name) file a is = refl
once_follows fds s (call.DelAttr path name) file a is = refl
once_follows fds s (call.Read fd count) file a is = sym (fails (fds_of fds s) (call.Read fd count) file a (closed_errors (fin.get (fds_of fds s) fd) a is))
once_follows fds s (call.Write fd bytes) file a is = sym (fails (fds_of fds s) (call.Write fd bytes) file a (closed_errors (fin.get (fds_of fds s) fd) a is))
once_follows fds s (call.Seek fd offset) file a is = seek_follows fds s fd a
once_follows fds s (call.Close fd) file a is = close_follows fds s fd file a

abbrev reply_or : CallReply → Option CallReply → CallReply
reply_or d None = d
reply_or d (Some reply) = reply

once_by : (fds : Fds) (s : ℕ) (c : Call) (file : Gfid) (o : Option Answer) (reply : CallReply) → at_once (fds_of fds s) c ≡ o
    → option_map (λ (a : Answer). record { answer = a; fd = move_at_once c a }) o ≡ Some reply
    → fds_of (fds_after fds s reply.fd) s ≡ after_answer (fds_of fds s) c file reply.answer
once_by fds s c file None reply is e = absurd cc
once_by fds s c file (Some a) reply is e =
    subst (λ (r : CallReply). fds_of (fds_after fds s r.fd) s ≡ after_answer (fds_of fds s) c file r.answer) (ap (reply_or reply) e) (once_follows fds s c file a is)

-- ---- after a fop

not_done : (a : Answer) (x y : Descriptors) → a ≢ answers.Done → where_done a x y ≡ y
not_done answers.Done x y h = absurd (h refl)
not_done (answers.Count count) x y h = refl
not_done (answers.Bytes bytes) x y h = refl
not_done (answers.Stat kind mode size) x y h = refl
not_done (answers.List items) x y h = refl
not_done (answers.App error) x y h = refl
not_done (answers.Io error) x y h = refl

open_follows : (fds : Fds) (s fd : ℕ) (object : Object) (a : Answer) (file : Gfid) (path : Path) → file ≡ object.gfid
    → fds_of (fds_after fds s (move_answered (call.Open fd path) object a)) s ≡ where_done a (with_open (fds_of fds s) fd file) (fds_of fds s)
open_follows fds s fd object answers.Done file path is = put_own fds s fd (opened_at object.gfid object.set) ∙ ap (with_open (fds_of fds s) fd) (sym is)
open_follows fds s fd object (answers.Count count) file path is = refl
open_follows fds s fd object (answers.Bytes bytes) file path is = refl
open_follows fds s fd object (answers.Stat kind mode size) file path is = refl
open_follows fds s fd object (answers.List items) file path is = refl
open_follows fds s fd object (answers.App error) file path is = refl
open_follows fds s fd object (answers.Io error) file path is = refl

read_follows : (fds : Fds) (s fd : ℕ) (a : Answer) → fds_of (fds_after fds s (by_bytes fd a)) s ≡ after_read a (fds_of fds s) fd
read_follows fds s fd answers.Done = refl
read_follows fds s fd (answers.Count count) = refl
read_follows fds s fd (answers.Bytes bytes) = advanced fds s fd (length bytes)
read_follows fds s fd (answers.Stat kind mode size) = refl
read_follows fds s fd (answers.List items) = refl
read_follows fds s fd (answers.App error) = refl
read_follows fds s fd (answers.Io error) = refl

write_follows : (fds : Fds) (s fd : ℕ) (a : Answer) → fds_of (fds_after fds s (by_count fd a)) s ≡ after_write a (fds_of fds s) fd
write_follows fds s fd answers.Done = refl
write_follows fds s fd (answers.Count count) = advanced fds s fd count
write_follows fds s fd (answers.Bytes bytes) = refl
write_follows fds s fd (answers.Stat kind mode size) = refl
write_follows fds s fd (answers.List items) = refl
write_follows fds s fd (answers.App error) = refl
write_follows fds s fd (answers.Io error) = refl

abbrev reply_in : CallReply → After → CallReply
reply_in d (GoesOn object) = d
reply_in d (Replies reply) = reply

abbrev Follows : Fds → ℕ → Call → Gfid → CallReply → Type 0
Follows fds s c file reply = fds_of (fds_after fds s reply.fd) s ≡ after_answer (fds_of fds s) c file reply.answer

called_follows : (fds : Fds) (s : ℕ) (c : Call) (w : Walked) (drawn : Gfid) (a : Answer) → AnswersInForm c drawn (fop_answer.Call a)
    → Follows fds s c (file_given c drawn w) (record { answer = a; fd = move_answered c w.first.at a })
called_follows fds s (call.Mkdir path mode) w drawn a h = refl
called_follows fds s (call.Rmdir path) w drawn a h = refl
called_follows fds s (call.Create fd path mode) w drawn a h = sym (not_done a (with_open (fds_of fds s) fd drawn) (fds_of fds s) h)
called_follows fds s (call.Unlink path) w drawn a h = refl
called_follows fds s (call.Rename path target) w drawn a h = refl
called_follows fds s (call.Open fd path) w drawn a h = open_follows fds s fd w.first.at a w.first.at.gfid path refl
called_follows fds s (call.Stat path) w drawn a h = refl
called_follows fds s (call.List path) w drawn a h = refl
called_follows fds s (call.Chmod path mode) w drawn a h = refl
called_follows fds s (call.Truncate path size) w drawn a h = refl
called_follows fds s (call.SetAttr path attr) w drawn a h = refl
called_follows fds s (call.GetAttr path name) w drawn a h = refl
called_follows fds s (call.DelAttr path name) w drawn a h = refl
called_follows fds s (call.Read fd count) w drawn a h = read_follows fds s fd a
called_follows fds s (call.Write fd bytes) w drawn a h = write_follows fds s fd a
called_follows fds s (call.Seek fd offset) w drawn a h = absurd h
called_follows fds s (call.Close fd) w drawn a h = absurd h

found_follows : (fds : Fds) (s : ℕ) (c : Call) (w : Walked) (drawn : Gfid) (object : Object) → AnswersInForm c drawn (fop_answer.Found object.set object.gfid object.kind)
    → Follows fds s c (file_given c drawn w) (record { answer = answers.Done; fd = move_found c object })
found_follows fds s (call.Mkdir path mode) w drawn object h = absurd h
found_follows fds s (call.Rmdir path) w drawn object h = absurd h
found_follows fds s (call.Create fd path mode) w drawn object h = put_own fds s fd (opened_at object.gfid object.set) ∙ ap (with_open (fds_of fds s) fd) h
found_follows fds s (call.Unlink path) w drawn object h = absurd h
found_follows fds s (call.Rename path target) w drawn object h = absurd h
found_follows fds s (call.Open fd path) w drawn object h = absurd h
found_follows fds s (call.Stat path) w drawn object h = absurd h
found_follows fds s (call.List path) w drawn object h = absurd h
found_follows fds s (call.Chmod path mode) w drawn object h = absurd h
found_follows fds s (call.Truncate path size) w drawn object h = absurd h
found_follows fds s (call.SetAttr path attr) w drawn object h = absurd h
found_follows fds s (call.GetAttr path name) w drawn object h = absurd h
found_follows fds s (call.DelAttr path name) w drawn object h = absurd h
found_follows fds s (call.Read fd count) w drawn object h = absurd h
found_follows fds s (call.Write fd bytes) w drawn object h = absurd h
found_follows fds s (call.Seek fd offset) w drawn object h = absurd h
found_follows fds s (call.Close fd) w drawn object h = absurd h

after_follows : (fds : Fds) (s : ℕ) (c : Call) (w : Walked) (drawn : Gfid) (o : Option (List ℕ)) (a : FopAnswer) (reply : CallReply)
    → IsInForm o c drawn a → after_by o c w.first.at a ≡ Replies reply → Follows fds s c (file_given c drawn w) reply
after_follows fds s c w drawn (Some name) (fop_answer.Found set gfid kind) reply h e = absurd cc
after_follows fds s c w drawn (Some name) (fop_answer.Call a) reply h e =
    subst (Follows fds s c (file_given c drawn w)) (ap (reply_in reply) e) (sym (fails (fds_of fds s) c (file_given c drawn w) a h))
after_follows fds s c w drawn None (fop_answer.Found set gfid kind) reply h e =
    subst (Follows fds s c (file_given c drawn w)) (ap (reply_in reply) e) (found_follows fds s c w drawn (record { gfid = gfid; kind = kind; set = set }) h)
after_follows fds s c w drawn None (fop_answer.Call a) reply h e =
    subst (Follows fds s c (file_given c drawn w)) (ap (reply_in reply) e) (called_follows fds s c w drawn a h)

pub descriptors_follow : DescriptorsFollow
descriptors_follow = record {
  at_once = λ fds session c file reply is. once_by fds session c file (at_once (fds_of fds session) c) reply refl is;
  answered = λ fds session c w drawn a reply h e. after_follows fds session c w drawn (next_name c w) a reply h e;
  others = others;
}
