-- What the sets' contents say of the flat file system: a file's bytes and metadata, a directory's metadata and names, and
-- what a read of a directory's names showed.
use Rattle.std.proofs.Common.{◌≡◌, ◌∙◌, ℕ, ◌+◌, ◌<◌, ◌≤◌, ◌==◌, inl, inr, Bool, true, false, List, [], ◌∷◌, Option, Some, None, Result, Ok, Err, zero, suc, not, if◌then◌else◌, length, nat_lt, refl, ap, sym, subst, arith}
use Rattle.std.proofs.lemmas.Bool.{eqb-false}
use Rattle.std.specs.List.{range_with_len}
use Rattle.dht_linkto.specs.DirNames.{names_job, names_in, names_shown}
use Rattle.dht_linkto.specs.Known.{is_no_object}
use Rattle.dht_linkto.specs.declared.names.DirNames.{DirNames}
use Rattle.dht_laws.proofs.ShownNames.{real_of, real_named, real_in, over_none, over_one}
use Rattle.dht_fops.specs.Handed.{Handed, Saw, SawName, SawNowhere}
use Rattle.dht_fops.specs.Handed.Event.{Replied, Held}
use Rattle.dht_fops.specs.Shown.{names_over, object_shown}
use Rattle.dht_fops.specs.Standing.{Volumes, AreSound, IsMade, HasContent, StillShown, StillIs, StillReads}
use Rattle.fop_types.specs.Cells.{data_cell, meta_cell, names_cell}
use Rattle.fop_types.specs.Files.{object_at, names_at, names_of}
use Rattle.fop_types.specs.Flat.{Outcome, entry_error, checked, refused}
use Rattle.fop_types.specs.Jobs.{may_lack}
use Rattle.fop_types.specs.Limits.{max_item_name}
use Rattle.fop_types.specs.Names.{item_named, is_link, is_directory}
use Rattle.fop_types.specs.StoreOps.{Contents, items_of, is_removed, is_taken, item_in, holds_bytes, holds_meta}
use Rattle.fop_types.specs.declared.answers.AppError.TheVariants.{Enoent, Enotdir, Enametoolong}
use Rattle.fop_types.specs.declared.answers.IoError.{IoError}
use Rattle.fop_types.specs.declared.cells.Gfid.{Gfid}
use Rattle.fop_types.specs.declared.cells.Kind.{Kind}
use Rattle.fop_types.specs.declared.cells.Kind.TheVariants as kind
use Rattle.fop_types.specs.declared.contents.Attr.{Attr}
use Rattle.fop_types.specs.declared.contents.Content.{Content}
use Rattle.fop_types.specs.declared.contents.Content.TheVariants.{Bytes, Meta, Names}
use Rattle.fop_types.specs.declared.contents.Item.{Item}
use Rattle.fop_types.specs.declared.contents.Span.{Span}
use Rattle.fop_types.specs.declared.flat.FlatObject.{FlatObject}
use Rattle.fop_types.specs.declared.flat.FlatObject.TheVariants.{File, Directory}
use Rattle.fop_types.specs.declared.fops.Object.{Object}
use Rattle.fop_types.specs.declared.jobs.Job.{Job}
use Rattle.fop_types.specs.declared.jobs.SetReply.{SetReply}
use Rattle.fop_types.specs.declared.jobs.SetReply.TheVariants as reply

-- ---- objects

pub record IsMeta (content : Option Content) : Type 0 where
  pub mode : ℕ
  pub attrs : List Attr
  pub span : Option Span
  pub content_is : content ≡ Some (Meta mode attrs span)

pub meta_is : (content : Option Content) → holds_meta content ≡ true → IsMeta content
meta_is None e = absurd cc
meta_is (Some (Bytes bytes)) e = absurd cc
meta_is (Some (Meta mode attrs span)) e = record { mode = mode; attrs = attrs; span = span; content_is = refl }
meta_is (Some (Names removed items)) e = absurd cc

pub record HasBytes (content : Option Content) : Type 0 where
  pub bytes : List ℕ
  pub content_is : content ≡ Some (Bytes bytes)

pub bytes_are : (content : Option Content) → holds_bytes content ≡ true → HasBytes content
bytes_are None e = absurd cc
bytes_are (Some (Bytes bytes)) e = record { bytes = bytes; content_is = refl }
bytes_are (Some (Meta mode attrs span)) e = absurd cc
bytes_are (Some (Names removed items)) e = absurd cc

-- a file that was made
pub record IsFile (s : Volumes) (gfid : Gfid) : Type 0 where
  pub bytes : List ℕ
  pub mode : ℕ
  pub attrs : List Attr
  pub span : Option Span
  pub data_is : s.contents (s.homes gfid) (data_cell gfid) ≡ Some (Bytes bytes)
  pub meta_is : s.contents (s.homes gfid) (meta_cell gfid) ≡ Some (Meta mode attrs span)
  pub object_is : object_at s.files gfid ≡ Some (File bytes mode attrs)

file_object : (s : Volumes) (count : ℕ) (gfid : Gfid) (k : Option Kind) (o : Option FlatObject) (bytes : List ℕ) (mode : ℕ) (attrs : List Attr) (span : Option Span) → o ≡ object_shown s.contents s.homes count gfid k → k ≡ Some kind.File
    → s.contents (s.homes gfid) (data_cell gfid) ≡ Some (Bytes bytes) → s.contents (s.homes gfid) (meta_cell gfid) ≡ Some (Meta mode attrs span) → o ≡ Some (File bytes mode attrs)
file_object s count gfid k o bytes mode attrs span h e d m = rw (h, e, d, m) refl

pub file_made : (s : Volumes) (count : ℕ) (gfid : Gfid) → AreSound s count → s.kinds gfid ≡ Some kind.File → IsFile s gfid
file_made s count gfid a e =
    let held = bytes_are (s.contents (s.homes gfid) (data_cell gfid)) (a.datas gfid e) in
    let meta = meta_is (s.contents (s.homes gfid) (meta_cell gfid)) (a.metas gfid e) in
    record {
      bytes = held.bytes;
      mode = meta.mode;
      attrs = meta.attrs;
      span = meta.span;
      data_is = held.content_is;
      meta_is = meta.content_is;
      object_is = file_object s count gfid (s.kinds gfid) (object_at s.files gfid) held.bytes meta.mode meta.attrs meta.span (a.shows.object gfid) e held.content_is meta.content_is;
    }

abbrev pub names_in_all : Volumes → ℕ → Gfid → List Item
names_in_all s count gfid = names_over s.contents gfid (range_with_len 0 count) []

-- a directory that was made
pub record IsDirectory (s : Volumes) (count : ℕ) (gfid : Gfid) : Type 0 where
  pub mode : ℕ
  pub attrs : List Attr
  pub span : Option Span
  pub meta_is : s.contents 0 (meta_cell gfid) ≡ Some (Meta mode attrs span)
  pub object_is : object_at s.files gfid ≡ Some (Directory (names_in_all s count gfid) mode attrs (is_removed (s.contents 0 (names_cell gfid))))

directory_object : (s : Volumes) (count : ℕ) (gfid : Gfid) (k : Option Kind) (o : Option FlatObject) (mode : ℕ) (attrs : List Attr) (span : Option Span) → o ≡ object_shown s.contents s.homes count gfid k → k ≡ Some kind.Dir
    → s.contents 0 (meta_cell gfid) ≡ Some (Meta mode attrs span) → o ≡ Some (Directory (names_in_all s count gfid) mode attrs (is_removed (s.contents 0 (names_cell gfid))))
directory_object s count gfid k o mode attrs span h e m = rw (h, e, m) refl

pub directory_made : (s : Volumes) (count : ℕ) (gfid : Gfid) → AreSound s count → s.kinds gfid ≡ Some kind.Dir → IsDirectory s count gfid
directory_made s count gfid a e =
    let meta = meta_is (s.contents 0 (meta_cell gfid)) (a.directories gfid e) in
    record {
      mode = meta.mode;
      attrs = meta.attrs;
      span = meta.span;
      meta_is = meta.content_is;
      object_is = directory_object s count gfid (s.kinds gfid) (object_at s.files gfid) meta.mode meta.attrs meta.span (a.shows.object gfid) e meta.content_is;
    }

pub names_at_is : (s : Volumes) (count : ℕ) (dir : Gfid) → IsDirectory s count dir → names_at s.files dir ≡ names_in_all s count dir
names_at_is s count dir d = ap names_of d.object_is

-- an object that is no directory is a file
pub kind_by : (k : Kind) → is_link k ≡ false → is_directory k ≡ false → k ≡ kind.File
kind_by kind.File l d = refl
kind_by kind.Dir l d = absurd cc
kind_by kind.Link l d = absurd cc

pub dir_kind : (k : Kind) → is_directory k ≡ true → k ≡ kind.Dir
dir_kind kind.File d = absurd cc
dir_kind kind.Dir d = refl
dir_kind kind.Link d = absurd cc

pub made_file : (s : Volumes) (count : ℕ) (object : Object) → AreSound s count → IsMade s object → is_directory object.kind ≡ false → IsFile s object.gfid
made_file s count object a m d = file_made s count object.gfid a (m.kind_is ∙ ap (λ (k : Kind). Some k) (kind_by object.kind m.no_link d))

pub made_directory : (s : Volumes) (count : ℕ) (object : Object) → AreSound s count → IsMade s object → is_directory object.kind ≡ true → IsDirectory s count object.gfid
made_directory s count object a m d = directory_made s count object.gfid a (m.kind_is ∙ ap (λ (k : Kind). Some k) (dir_kind object.kind d))

-- ---- what was read of names

pub record Agrees (contents : Contents) (dir : Gfid) (shown : DirNames) : Type 0 where
  pub items : shown.items ≡ items_of (contents (names_cell dir))
  pub removed : shown.removed ≡ is_removed (contents (names_cell dir))

pub record ShowsSame (shown now : Option Content) : Type 0 where
  pub items : items_of shown ≡ items_of now
  pub removed : is_removed shown ≡ is_removed now

same_shown : (shown now : Option Content) → now ≡ shown → ShowsSame shown now
same_shown shown now e = record { items = sym (ap items_of e); removed = sym (ap is_removed e) }

-- also where a copy was born since
shows_same : (may_lack : Bool) (shown now : Option Content) → HasContent may_lack now shown → ShowsSame shown now
shows_same false shown now e = same_shown shown now e
shows_same true None now none = record { items = sym none.items; removed = sym none.kept }
shows_same true (Some content) now e = same_shown (Some content) now e

reply_agrees : (may_lack : Bool) (contents : Contents) (dir : Gfid) (r : SetReply) (shown : DirNames) → StillReads may_lack contents (names_cell dir ∷ []) r → names_in r ≡ Ok shown → Agrees contents dir shown
reply_agrees may_lack contents dir (reply.Contents [] place) shown h e = absurd h
reply_agrees may_lack contents dir (reply.Contents (content ∷ more) place) shown h e =
    let same : names_shown content place ≡ shown = same_of (names_shown content place) shown e in
    let here = shows_same may_lack content (contents (names_cell dir)) h.0 in
    record {
      items = sym (ap (λ (d : DirNames). d.items) same) ∙ here.items;
      removed = sym (ap (λ (d : DirNames). d.removed) same) ∙ here.removed;
    }
  where
    same_of : (one two : DirNames) → ◌≡◌ {A = Result DirNames IoError} (Ok one) (Ok two) → one ≡ two
    same_of one two f = cc
reply_agrees may_lack contents dir (reply.Decided number) shown h e = absurd h
reply_agrees may_lack contents dir reply.Opened shown h e = absurd h
reply_agrees may_lack contents dir (reply.Listed cells answered short) shown h e = absurd h
reply_agrees may_lack contents dir (reply.Healed records) shown h e = absurd h
reply_agrees may_lack contents dir (reply.Skipped cause) shown h e = absurd h
reply_agrees may_lack contents dir (reply.Io error) shown h e = absurd (let wrong : ◌≡◌ {A = Result DirNames IoError} (Err error) (Ok shown) = e in cc)

pub saw_agrees : (s : Volumes) (handed : Handed) (dir : Gfid) (set : ℕ) (shown : DirNames) → Saw handed dir set shown → StillShown s.contents handed → Agrees (s.contents set) dir shown
saw_agrees s [] dir set shown saw still = absurd saw
saw_agrees s (Replied one job reply ∷ handed) dir set shown (inl n) still =
    let reads : StillIs s.contents (Replied one (names_job dir) reply) = subst (λ (j : Job). StillIs s.contents (Replied one j reply)) n.1 still.0 in
    subst (λ (at : ℕ). Agrees (s.contents at) dir shown) n.0 (reply_agrees (may_lack one true) (s.contents one) dir reply shown reads n.2)
saw_agrees s (Held held ∷ handed) dir set shown (inl n) still = absurd n
saw_agrees s (event ∷ handed) dir set shown (inr saw) still = saw_agrees s handed dir set shown saw still.1

-- ---- one name

abbrev pub item_at : Volumes → Gfid → List ℕ → ℕ → Option Item
item_at s dir name set = item_in (s.contents set) dir name

real_is : (s : Volumes) (count : ℕ) (dir : Gfid) (name : List ℕ) (set : ℕ) → AreSound s count → real_in s.contents dir name set ≡ real_of (item_at s dir name set)
real_is s count dir name set a = real_named (items_of (s.contents set (names_cell dir))) name (a.once dir set)

taken_by : (item : Option Item) → is_taken item ≡ false → real_of item ≡ None
taken_by None e = refl
taken_by (Some item) e = by_link (is_link item.kind) e
  where
    by_link : (b : Bool) → not b ≡ false → (if b then None else Some item) ≡ None
    by_link true f = refl
    by_link false f = absurd cc

none_taken : (item : Option Item) → is_no_object item ≡ true → is_taken item ≡ false
none_taken None e = refl
none_taken (Some item) e = rw e refl

-- where no set shows a file or directory of the name, the flat file system has none
pub nowhere_flat : (s : Volumes) (count : ℕ) (handed : Handed) (dir : Gfid) (name : List ℕ) → AreSound s count → StillShown s.contents handed → SawNowhere count handed dir name → item_named (names_in_all s count dir) name ≡ None
nowhere_flat s count handed dir name a still saw = over_none s.contents dir name count 0 [] none
  where
    none : (set : ℕ) → 0 ≤ set → set < 0 + count → real_in s.contents dir name set ≡ None
    none set low high =
        let one = saw set (omega arith) in
        let agrees = saw_agrees s handed dir set one.shown one.saw still in
        let absent : is_no_object (item_at s dir name set) ≡ true = subst (λ (items : List Item). is_no_object (item_named items name) ≡ true) agrees.items one.none in
        real_is s count dir name set a ∙ taken_by (item_at s dir name set) (none_taken (item_at s dir name set) absent)

-- a name that was seen
pub record IsThere (s : Volumes) (count : ℕ) (dir : Gfid) (name : List ℕ) (gfid : Gfid) (kind : Kind) : Type 0 where
  pub item : Item
  pub named : item_named (names_in_all s count dir) name ≡ Some item
  pub gfid_is : item.gfid ≡ gfid
  pub kind_is : item.kind ≡ kind
  pub kept : is_removed (s.contents 0 (names_cell dir)) ≡ false
  pub made : s.kinds gfid ≡ Some kind

item_taken : (item : Item) → is_link item.kind ≡ false → is_taken (Some item) ≡ true
item_taken item e = rw e refl

item_real : (item : Item) → is_link item.kind ≡ false → real_of (Some item) ≡ Some item
item_real item e = rw e refl

pub there_flat : (s : Volumes) (count : ℕ) (handed : Handed) (dir : Gfid) (name : List ℕ) (set : ℕ) (gfid : Gfid) (kind : Kind) → AreSound s count → StillShown s.contents handed → set < count
    → SawName handed dir name set gfid kind → IsThere s count dir name gfid kind
there_flat s count handed dir name set gfid kind a still h saw =
    let agrees = saw_agrees s handed dir set saw.shown saw.saw still in
    let here : item_at s dir name set ≡ Some saw.item = subst (λ (items : List Item). item_named items name ≡ Some saw.item) agrees.items saw.named in
    let taken : is_taken (item_at s dir name set) ≡ true = rw here (item_taken saw.item saw.is_object) in
    let real : real_in s.contents dir name set ≡ Some saw.item = real_is s count dir name set a ∙ ap real_of here ∙ item_real saw.item saw.is_object in
    record {
      item = saw.item;
      named = over_one s.contents dir name set saw.item count 0 [] (omega arith) (omega arith) refl real (λ other off. real_is s count dir name other a ∙ taken_by (item_at s dir name other) (only other off taken (is_taken (item_at s dir name other)) refl));
      gfid_is = saw.gfid_is;
      kind_is = saw.kind_is;
      kept = kept_by taken (is_removed (s.contents 0 (names_cell dir))) refl;
      made = subst (λ (g : Gfid). s.kinds g ≡ Some kind) saw.gfid_is (a.named dir name set saw.item here saw.is_object ∙ ap (λ (k : Kind). Some k) saw.kind_is);
    }
  where
    only : (other : ℕ) → (other == set) ≡ false → is_taken (item_at s dir name set) ≡ true → (b : Bool) → is_taken (item_at s dir name other) ≡ b → is_taken (item_at s dir name other) ≡ false
    only other off taken true e = absurd (eqb-false other set off (a.alone dir name other set e taken))
    only other off taken false e = e

    kept_by : is_taken (item_at s dir name set) ≡ true → (b : Bool) → is_removed (s.contents 0 (names_cell dir)) ≡ b → is_removed (s.contents 0 (names_cell dir)) ≡ false
    kept_by taken true e = absurd (let no = a.empty dir name set e in let wrong : true ≡ false = sym taken ∙ no in cc)
    kept_by taken false e = e

-- ---- what every operation on a name looks at

pub name_checked : (s : Volumes) (count : ℕ) (dir : Gfid) (name : List ℕ) (outcome : Outcome) → IsDirectory s count dir → nat_lt max_item_name (length name) ≡ false → is_removed (s.contents 0 (names_cell dir)) ≡ false
    → checked (entry_error (object_at s.files dir) name) outcome ≡ outcome
name_checked s count dir name outcome d short kept = rw (d.object_is, short, kept) refl

pub name_gone : (s : Volumes) (count : ℕ) (dir : Gfid) (name : List ℕ) (outcome : Outcome) → IsDirectory s count dir → nat_lt max_item_name (length name) ≡ false → is_removed (s.contents 0 (names_cell dir)) ≡ true
    → checked (entry_error (object_at s.files dir) name) outcome ≡ refused Enoent
name_gone s count dir name outcome d short gone = rw (d.object_is, short, gone) refl

pub name_long : (s : Volumes) (count : ℕ) (dir : Gfid) (name : List ℕ) (outcome : Outcome) → IsDirectory s count dir → nat_lt max_item_name (length name) ≡ true
    → checked (entry_error (object_at s.files dir) name) outcome ≡ refused Enametoolong
name_long s count dir name outcome d long = rw (d.object_is, long) refl

pub name_in_file : (s : Volumes) (gfid : Gfid) (name : List ℕ) (outcome : Outcome) → IsFile s gfid → checked (entry_error (object_at s.files gfid) name) outcome ≡ refused Enotdir
name_in_file s gfid name outcome f = rw f.object_is refl

-- a set that shows the directory removed is the first
pub gone_flat : (s : Volumes) (count : ℕ) (handed : Handed) (dir : Gfid) (set : ℕ) (shown : DirNames) → AreSound s count → StillShown s.contents handed → Saw handed dir set shown → shown.removed ≡ true
    → is_removed (s.contents 0 (names_cell dir)) ≡ true
gone_flat s count handed dir set shown a still saw gone =
    let agrees = saw_agrees s handed dir set shown saw still in by_set set (sym agrees.removed ∙ gone)
  where
    by_set : (set : ℕ) → is_removed (s.contents set (names_cell dir)) ≡ true → is_removed (s.contents 0 (names_cell dir)) ≡ true
    by_set zero e = e
    by_set (suc other) e = absurd (let no = a.marked dir (suc other) (omega arith) in let wrong : true ≡ false = sym e ∙ no in cc)
