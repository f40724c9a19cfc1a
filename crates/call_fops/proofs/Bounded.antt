-- The fops of a call: that there is one, the objects that it names, and its bounds.
use Rattle.std.proofs.Common.{◌≡◌, ◌∷◌, inl, inr, refl, sym, ap, subst, ◌∙◌, ℕ, ◌≤◌, zero, suc, List, [], length, slice_get, arith}
use Rattle.std.specs.Prelude.{Bool, true, false, Option, Some, None, IfSome, IsSome, nat_lt, if◌then◌else◌}
use Rattle.std.specs.Option.{option_map, option_or}
use Rattle.std.specs.FinMap as fin
use Rattle.fop_types.specs.Bounds.{Each, IsCall, IsComponent, IsFop, IsGfid, IsObject, IsOpenFd, IsSessionFd}
use Rattle.fop_types.specs.Calls.{Descriptor, at_once, looked_up, of_root, or_else, where_open, where_closed, seek_answer, close_answer, on_open, error}
use Rattle.fop_types.specs.FileBytes.{file_limit}
use Rattle.fop_types.specs.Limits.{max_data}
use Rattle.fop_types.specs.Paths.{last_part, parent_parts}
use Rattle.fop_types.specs.declared.answers.Answer.{Answer}
use Rattle.fop_types.specs.declared.answers.Answer.TheVariants as answers
use Rattle.fop_types.specs.declared.answers.AppError.{AppError}
use Rattle.fop_types.specs.declared.answers.AppError.TheVariants.{Eexist, Ebusy, Eisdir, Einval, Eopnotsupp}
use Rattle.fop_types.specs.declared.calls.Call.{Call}
use Rattle.fop_types.specs.declared.calls.Call.TheVariants as call
use Rattle.fop_types.specs.declared.cells.Gfid.{Gfid}
use Rattle.fop_types.specs.declared.flat.FlatOp.{FlatOp}
use Rattle.fop_types.specs.declared.flat.FlatOp.TheVariants as op
use Rattle.fop_types.specs.declared.fops.Fop.{Fop}
use Rattle.fop_types.specs.declared.fops.Object.{Object}
use Rattle.fd_table.specs.Fds.{Fds, fd_at}
use Rattle.fd_table.specs.declared.fd.Fd.{Fd}
use Rattle.call_fops.specs.Asked.{brick_fd, file_or, file_object, fop_asking, fop_by, last_fop}
use Rattle.call_fops.specs.Bounded.{OnKnown, IsKnown, NamesOn, FopsAreBounded}
use Rattle.call_fops.specs.Descriptors.{descriptor_of, fds_of}
use Rattle.call_fops.specs.Walks.{Walked, first_path, second_path, on_first, on_second, next_name, next_parent, parent_by}
use Rattle.call_fops.proofs.Descriptors.{get_fds_of}

-- ---- there is one

no_none : (a : Answer) → ◌≡◌ {A = Option Answer} (Some a) None → ⊥
no_none a is = absurd cc

is_open : (o : Option Descriptor) (f : Descriptor → FlatOp) (asks : FlatOp → Fop) → where_closed o ≡ None → IsSome (option_map asks (on_open o f))
is_open None f asks is = absurd cc
is_open (Some d) f asks is = refl

seek_answers : (o : Option Descriptor) (offset : ℕ) (b : Bool) → nat_lt file_limit offset ≡ b → seek_answer o offset ≡ None → ⊥
seek_answers None offset b lt is = absurd cc
seek_answers (Some d) offset true lt is =
    let e : ◌≡◌ {A = Option Answer} (Some (answers.App Einval)) None = sym (ap (λ (x : Bool). if x then error Einval else Some (answers.Count offset)) lt) ∙ is in absurd cc
seek_answers (Some d) offset false lt is =
    let e : ◌≡◌ {A = Option Answer} (Some (answers.Count offset)) None = sym (ap (λ (x : Bool). if x then error Einval else Some (answers.Count offset)) lt) ∙ is in absurd cc

close_answers : (o : Option Descriptor) → close_answer o ≡ None → ⊥
close_answers None is = absurd cc
close_answers (Some d) is = absurd cc

last_sent : (c : Call) (w : Walked) (session : ℕ) (drawn : Gfid) (fds : Fds) → at_once (fds_of fds session) c ≡ None → IsSome (last_fop c w session drawn fds)
last_sent (call.Mkdir path mode) w session drawn fds is = refl
last_sent (call.Rmdir path) w session drawn fds is = refl
last_sent (call.Create fd path mode) w session drawn fds is = refl
last_sent (call.Unlink path) w session drawn fds is = refl
last_sent (call.Rename path target) w session drawn fds is = refl
last_sent (call.Open fd path) w session drawn fds is = refl
last_sent (call.Stat path) w session drawn fds is = refl
last_sent (call.List path) w session drawn fds is = refl
last_sent (call.Chmod path mode) w session drawn fds is = refl
last_sent (call.Truncate path size) w session drawn fds is = refl
last_sent (call.SetAttr path attr) w session drawn fds is = refl
last_sent (call.GetAttr path name) w session drawn fds is = refl
last_sent (call.DelAttr path name) w session drawn fds is = refl
last_sent (call.Read fd count) w session drawn fds is = is_open (fin.get (fds_of fds session) fd) (λ d. op.Read d.file d.offset count) (fop_asking (file_or w.first.at (fd_at fds session fd)) w.second.at (brick_fd session fd)) is
last_sent (call.Write fd bytes) w session drawn fds is = is_open (fin.get (fds_of fds session) fd) (λ d. op.Write d.file d.offset bytes) (fop_asking (file_or w.first.at (fd_at fds session fd)) w.second.at (brick_fd session fd)) is
last_sent (call.Seek fd offset) w session drawn fds is = absurd (seek_answers (fin.get (fds_of fds session) fd) offset (nat_lt file_limit offset) refl is)
last_sent (call.Close fd) w session drawn fds is = absurd (close_answers (fin.get (fds_of fds session) fd) is)

sent_by : (o : Option (List ℕ)) (parent : Object) (last : Option Fop) → IsSome last → IsSome (fop_by o parent last)
sent_by (Some name) parent last h = refl
sent_by None parent last h = h

-- ---- the objects that it names

module _ (P : Object → Type 0) where
  parent_known : (o : Option (List ℕ)) (w : Walked) (fds : Fds) (session : ℕ) → OnKnown P w fds session → P (parent_by o w)
  parent_known (Some name) w fds session k = k.first
  parent_known None w fds session k = k.second

  read_known : (one other : Object) (n count : ℕ) (o : Option Fd) (g : Option Descriptor) → g ≡ option_map descriptor_of o → IfSome o (λ d. P (file_object d))
      → IfSome (option_map (fop_asking (file_or one o) other n) (on_open g (λ d. op.Read d.file d.offset count))) (NamesOn P)
  read_known one other n count None g is h =
      subst (λ (x : Option Descriptor). IfSome (option_map (fop_asking (file_or one None) other n) (on_open x (λ d. op.Read d.file d.offset count))) (NamesOn P)) (sym is) tt
  read_known one other n count (Some d) g is h =
      subst (λ (x : Option Descriptor). IfSome (option_map (fop_asking (file_or one (Some d)) other n) (on_open x (λ d. op.Read d.file d.offset count))) (NamesOn P)) (sym is) (h, tt)

  write_known : (one other : Object) (n : ℕ) (bytes : List ℕ) (o : Option Fd) (g : Option Descriptor) → g ≡ option_map descriptor_of o → IfSome o (λ d. P (file_object d))
      → IfSome (option_map (fop_asking (file_or one o) other n) (on_open g (λ d. op.Write d.file d.offset bytes))) (NamesOn P)
  write_known one other n bytes None g is h =
      subst (λ (x : Option Descriptor). IfSome (option_map (fop_asking (file_or one None) other n) (on_open x (λ d. op.Write d.file d.offset bytes))) (NamesOn P)) (sym is) tt
  write_known one other n bytes (Some d) g is h =
      subst (λ (x : Option Descriptor). IfSome (option_map (fop_asking (file_or one (Some d)) other n) (on_open x (λ d. op.Write d.file d.offset bytes))) (NamesOn P)) (sym is) (h, tt)

  last_known : (c : Call) (w : Walked) (session : ℕ) (drawn : Gfid) (fds : Fds) → OnKnown P w fds session → IfSome (last_fop c w session drawn fds) (NamesOn P)
  last_known (call.Mkdir path mode) w session drawn fds k = (k.first, tt)
  last_known (call.Rmdir path) w session drawn fds k = (k.first, tt)
  last_known (call.Create fd path mode) w session drawn fds k = (k.first, tt)
  last_known (call.Unlink path) w session drawn fds k = (k.first, tt)
  last_known (call.Rename path target) w session drawn fds k = (k.first, k.second)
  last_known (call.Open fd path) w session drawn fds k = (k.first, tt)
  last_known (call.Stat path) w session drawn fds k = (k.first, tt)
  last_known (call.List path) w session drawn fds k = (k.first, tt)
  last_known (call.Chmod path mode) w session drawn fds k = (k.first, tt)
  last_known (call.Truncate path size) w session drawn fds k = (k.first, tt)
  last_known (call.SetAttr path attr) w session drawn fds k = (k.first, tt)
  last_known (call.GetAttr path name) w session drawn fds k = (k.first, tt)
  last_known (call.DelAttr path name) w session drawn fds k = (k.first, tt)
  last_known (call.Read fd count) w session drawn fds k = read_known w.first.at w.second.at (brick_fd session fd) count (fd_at fds session fd) (fin.get (fds_of fds session) fd) (get_fds_of fds session fd) (k.files fd)
  last_known (call.Write fd bytes) w session drawn fds k = write_known w.first.at w.second.at (brick_fd session fd) bytes (fd_at fds session fd) (fin.get (fds_of fds session) fd) (get_fds_of fds session fd) (k.files fd)
  last_known (call.Seek fd offset) w session drawn fds k = tt
  last_known (call.Close fd) w session drawn fds k = tt

  known_by : (o : Option (List ℕ)) (parent : Object) (last : Option Fop) → P parent → IfSome last (NamesOn P) → IfSome (fop_by o parent last) (NamesOn P)
  known_by (Some name) parent last h k = (h, tt)
  known_by None parent last h k = k

file_known : (w : Walked) (fds : Fds) (session fd : ℕ) (o : Option Fd) → fd_at fds session fd ≡ o → IfSome o (λ d. IsKnown w fds session (file_object d))
file_known w fds session fd None is = tt
file_known w fds session fd (Some d) is = inr (inr (record { fd = fd; descriptor = d; opened = is; file = refl }))

all_known : (w : Walked) (fds : Fds) (session : ℕ) → OnKnown (IsKnown w fds session) w fds session
all_known w fds session = record { first = inl refl; second = inr (inl refl); files = λ fd. file_known w fds session fd (fd_at fds session fd) refl }

-- ---- its bounds

each_parent : (P : List ℕ → Type 0) (parts : List (List ℕ)) → Each P parts → Each P (parent_parts parts)
each_parent P [] h = tt
each_parent P (x ∷ []) h = tt
each_parent P (x ∷ y ∷ parts) h = (h.0, each_parent P (y ∷ parts) h.1)

root_answered : (e : AppError) → of_root [] e ≡ None → ⊥
root_answered e is = absurd cc

each_last : (parts : List (List ℕ)) (e : AppError) → Each IsComponent parts → of_root parts e ≡ None → IsComponent (last_part parts)
each_last [] e h is = absurd (root_answered e is)
each_last (x ∷ []) e h is = h.0
each_last (x ∷ y ∷ parts) e h is = each_last (y ∷ parts) e h.1 refl

each_at : (path : List (List ℕ)) (i : ℕ) (name : List ℕ) → Each IsComponent path → slice_get path i ≡ Some name → IsComponent name
each_at [] i name h is = absurd cc
each_at (x ∷ path) zero name h is = let same : x ≡ name = cc in subst IsComponent same h.0
each_at (x ∷ path) (suc i) name h is = each_at path i name h.1 is

abbrev AreNames : List (List (List ℕ)) → Type 0
AreNames paths = Each IsComponent (first_path paths) × Each IsComponent (second_path paths)

call_names : (c : Call) → IsCall c → AreNames (looked_up c)
call_names (call.Mkdir path mode) h = (each_parent IsComponent path.parts h.0, tt)
call_names (call.Rmdir path) h = (each_parent IsComponent path.parts h, tt)
call_names (call.Create fd path mode) h = (each_parent IsComponent path.parts h.1, tt)
call_names (call.Unlink path) h = (each_parent IsComponent path.parts h, tt)
call_names (call.Rename path target) h = (each_parent IsComponent path.parts h.0, each_parent IsComponent target.parts h.1)
call_names (call.Open fd path) h = (h.1, tt)
call_names (call.Stat path) h = (h, tt)
call_names (call.List path) h = (h, tt)
call_names (call.Chmod path mode) h = (h.0, tt)
call_names (call.Truncate path size) h = (h.0, tt)
call_names (call.SetAttr path attr) h = (h.0, tt)
call_names (call.GetAttr path name) h = (h.0, tt)
call_names (call.DelAttr path name) h = (h.0, tt)
call_names (call.Read fd count) h = (tt, tt)
call_names (call.Write fd bytes) h = (tt, tt)
call_names (call.Seek fd offset) h = (tt, tt)
call_names (call.Close fd) h = (tt, tt)

next_is_name : (p q : List (List ℕ)) (i j : ℕ) (name : List ℕ) (one two : Option (List ℕ)) → slice_get p i ≡ one → slice_get q j ≡ two → option_or one two ≡ Some name
    → Each IsComponent p → Each IsComponent q → IsComponent name
next_is_name p q i j name (Some x) two e f is g h = each_at p i name g (e ∙ is)
next_is_name p q i j name None two e f is g h = each_at q j name h (f ∙ is)

first_none : (x y : Option Answer) → or_else x y ≡ None → x ≡ None
first_none None y is = refl
first_none (Some a) y is = absurd (no_none a is)

second_none : (x y : Option Answer) → or_else x y ≡ None → y ≡ None
second_none None y is = is
second_none (Some a) y is = absurd (no_none a is)

fd_bounds : (session fd : ℕ) → session ≤ 255 → IsSessionFd fd → IsOpenFd (brick_fd session fd)
fd_bounds session fd low few = (omega arith, omega arith)

read_bounded : (one other : Object) (n count : ℕ) (o : Option Fd) (g : Option Descriptor) → g ≡ option_map descriptor_of o
    → IsOpenFd n → IfSome o (λ d. IsObject (file_object d)) → IfSome o (λ d. d.offset ≤ max_data) → count ≤ max_data
    → IfSome (option_map (fop_asking (file_or one o) other n) (on_open g (λ d. op.Read d.file d.offset count))) IsFop
read_bounded one other n count None g is fd h low few =
    subst (λ (x : Option Descriptor). IfSome (option_map (fop_asking (file_or one None) other n) (on_open x (λ d. op.Read d.file d.offset count))) IsFop) (sym is) tt
read_bounded one other n count (Some d) g is fd h low few =
    subst (λ (x : Option Descriptor). IfSome (option_map (fop_asking (file_or one (Some d)) other n) (on_open x (λ d. op.Read d.file d.offset count))) IsFop) (sym is) (fd, h, low, few)

write_bounded : (one other : Object) (n : ℕ) (bytes : List ℕ) (o : Option Fd) (g : Option Descriptor) → g ≡ option_map descriptor_of o
    → IsOpenFd n → IfSome o (λ d. IsObject (file_object d)) → IfSome o (λ d. d.offset ≤ max_data) → length bytes ≤ max_data
    → IfSome (option_map (fop_asking (file_or one o) other n) (on_open g (λ d. op.Write d.file d.offset bytes))) IsFop
write_bounded one other n bytes None g is fd h low few =
    subst (λ (x : Option Descriptor). IfSome (option_map (fop_asking (file_or one None) other n) (on_open x (λ d. op.Write d.file d.offset bytes))) IsFop) (sym is) tt
write_bounded one other n bytes (Some d) g is fd h low few =
    subst (λ (x : Option Descriptor). IfSome (option_map (fop_asking (file_or one (Some d)) other n) (on_open x (λ d. op.Write d.file d.offset bytes))) IsFop) (sym is) (fd, h, low, few)

last_bounded : (c : Call) (w : Walked) (session : ℕ) (drawn : Gfid) (fds : Fds) → at_once (fds_of fds session) c ≡ None → IsCall c → session ≤ 255 → IsGfid drawn
    → OnKnown IsObject w fds session → ((fd : ℕ) → IfSome (fd_at fds session fd) (λ d. d.offset ≤ max_data)) → IfSome (last_fop c w session drawn fds) IsFop
last_bounded (call.Mkdir path mode) w session drawn fds is h low g k o = (k.first, each_last path.parts Eexist h.0 is, h.1, g)
last_bounded (call.Rmdir path) w session drawn fds is h low g k o = (k.first, each_last path.parts Ebusy h is)
last_bounded (call.Create fd path mode) w session drawn fds is h low g k o = (fd_bounds session fd low h.0, k.first, each_last path.parts Eexist h.1 (second_none (where_open (fin.get (fds_of fds session) fd)) (of_root path.parts Eexist) is), h.2, g)
last_bounded (call.Unlink path) w session drawn fds is h low g k o = (k.first, each_last path.parts Eisdir h is)
last_bounded (call.Rename path target) w session drawn fds is h low g k o = (k.first, each_last path.parts Eopnotsupp h.0 (first_none (of_root path.parts Eopnotsupp) (of_root target.parts Eisdir) is), k.second, each_last target.parts Eisdir h.1 (second_none (of_root path.parts Eopnotsupp) (of_root target.parts Eisdir) is))
last_bounded (call.Open fd path) w session drawn fds is h low g k o = (fd_bounds session fd low h.0, k.first)
last_bounded (call.Stat path) w session drawn fds is h low g k o = k.first
last_bounded (call.List path) w session drawn fds is h low g k o = k.first
last_bounded (call.Chmod path mode) w session drawn fds is h low g k o = (k.first, h.1)
last_bounded (call.Truncate path size) w session drawn fds is h low g k o = (k.first, h.1)
last_bounded (call.SetAttr path attr) w session drawn fds is h low g k o = (k.first, h.1)
last_bounded (call.GetAttr path name) w session drawn fds is h low g k o = (k.first, h.1)
last_bounded (call.DelAttr path name) w session drawn fds is h low g k o = (k.first, h.1)
last_bounded (call.Read fd count) w session drawn fds is h low g k o = read_bounded w.first.at w.second.at (brick_fd session fd) count (fd_at fds session fd) (fin.get (fds_of fds session) fd) (get_fds_of fds session fd) (fd_bounds session fd low h.0) (k.files fd) (o fd) h.1
last_bounded (call.Write fd bytes) w session drawn fds is h low g k o = write_bounded w.first.at w.second.at (brick_fd session fd) bytes (fd_at fds session fd) (fin.get (fds_of fds session) fd) (get_fds_of fds session fd) (fd_bounds session fd low h.0) (k.files fd) (o fd) h.1
last_bounded (call.Seek fd offset) w session drawn fds is h low g k o = tt
last_bounded (call.Close fd) w session drawn fds is h low g k o = tt

bounded_by : (o : Option (List ℕ)) (parent : Object) (last : Option Fop) → IsObject parent → ((name : List ℕ) → o ≡ Some name → IsComponent name) → IfSome last IsFop
    → IfSome (fop_by o parent last) IsFop
bounded_by (Some name) parent last h n k = (h, n name refl)
bounded_by None parent last h n k = k

pub fops_are_bounded : FopsAreBounded
fops_are_bounded = record {
  sent = λ c w session drawn fds is. sent_by (next_name c w) (next_parent c w) (last_fop c w session drawn fds) (last_sent c w session drawn fds is);
  known = λ c w session drawn fds.
      let k = all_known w fds session in
      known_by (IsKnown w fds session) (next_name c w) (next_parent c w) (last_fop c w session drawn fds)
      (parent_known (IsKnown w fds session) (on_first c w) w fds session k) (last_known (IsKnown w fds session) c w session drawn fds k);
  bounded = λ c w session drawn fds is h low g k o.
      bounded_by (next_name c w) (next_parent c w) (last_fop c w session drawn fds) (parent_known IsObject (on_first c w) w fds session k)
      (λ name e. next_is_name (first_path (looked_up c)) (second_path (looked_up c)) w.first.found w.second.found name (on_first c w) (on_second c w) refl refl e
      (call_names c h).0 (call_names c h).1)
      (last_bounded c w session drawn fds is h low g k o);
}
