-- What a search knows of the sets: facts about the replies so far alone, whatever the sets show later.
use Rattle.std.specs.Prelude.{◌≡◌, ℕ, ◌<◌, ◌==◌, Bool, true, false, List, [], ◌∷◌, Option, Some, None, Result, Ok, Err, length, if◌then◌else◌}
use Rattle.dht_linkto.specs.Laws.{times}
use Rattle.dht_linkto.specs.Search.{Search, search_of}
use Rattle.dht_linkto.specs.Steps.{next, after}
use Rattle.dht_linkto.specs.declared.found.Found.{Found}
use Rattle.dht_linkto.specs.declared.found.Found.TheVariants as found
use Rattle.dht_linkto.specs.declared.found.Next.{Next}
use Rattle.dht_linkto.specs.declared.found.Next.TheVariants.{Ask, Done}
use Rattle.fop_types.specs.Bounds.{Each}
use Rattle.fop_types.specs.Names.{item_named, is_link}
use Rattle.fop_types.specs.declared.answers.IoError.{IoError}
use Rattle.fop_types.specs.declared.cells.Gfid.{Gfid}
use Rattle.fop_types.specs.declared.cells.Kind.{Kind}
use Rattle.fop_types.specs.declared.contents.Item.{Item}

-- what a set shows of a directory's names, or the I/O error by which it was not read
abbrev pub Reply : Type 0
Reply = Result (List Item) IoError

-- the replies so far, each with its set, the latest first
abbrev pub Replies : Type 0
Replies = List (ℕ × Reply)

-- the latest reply of a set
abbrev pub reply_of : ℕ → Replies → Option Reply
reply_of set [] = None
reply_of set (one ∷ replies) = if one.0 == set then Some one.1 else reply_of set replies

-- ---- what a reply shows of a name

-- no file or directory: nothing, or a link
abbrev pub is_no_object : Option Item → Bool
is_no_object None = true
is_no_object (Some item) = is_link item.kind

abbrev pub shows_none : List ℕ → Option Reply → Bool
shows_none name None = false
shows_none name (Some (Ok items)) = is_no_object (item_named items name)
shows_none name (Some (Err error)) = false

-- a file or directory of the name, with its gfid and kind
pub record ShowsObject (name : List ℕ) (reply : Option Reply) (gfid : Gfid) (kind : Kind) : Type 0 where
  pub items : List Item
  pub item : Item
  pub read : reply ≡ Some (Ok items)
  pub named : item_named items name ≡ Some item
  pub is_object : is_link item.kind ≡ false
  pub gfid_is : item.gfid ≡ gfid
  pub kind_is : item.kind ≡ kind

-- ---- what a search knows

-- the sets that were not read: the one that is asked, and those after it
abbrev pub unread : Option ℕ → List ℕ → List ℕ
unread None rest = rest
unread (Some set) rest = set ∷ rest

-- While a search is under way: the sets that were not read are sets of the volume, and every other set showed no file or
-- directory of the name.
pub record Knows (s : Search) (replies : Replies) : Type 0 where
  pub hashed_is_set : s.hashed < length s.names
  pub unread_are_sets : Each (λ (set : ℕ). set < length s.names) (unread s.asked s.rest)
  pub others_show_none : (set : ℕ) → set < length s.names → times set (unread s.asked s.rest) ≡ 0 → shows_none s.name (reply_of set replies) ≡ true

pub record IsObjectOf (s : Search) (replies : Replies) (set : ℕ) (gfid : Gfid) (kind : Kind) : Type 0 where
  pub is_set : set < length s.names
  pub shown : ShowsObject s.name (reply_of set replies) gfid kind

pub record IsErrorOf (s : Search) (replies : Replies) (error : IoError) : Type 0 where
  pub set : ℕ
  pub is_set : set < length s.names
  pub failed : reply_of set replies ≡ Some (Err error)

-- What was found is what a set showed; nothing was found only where every set showed no file or directory of the name;
-- an I/O error is a set's own.
abbrev pub IsFoundBy : Search → Replies → Found → Type 0
IsFoundBy s replies (found.Item set gfid kind) = IsObjectOf s replies set gfid kind
IsFoundBy s replies found.Absent = (set : ℕ) → set < length s.names → shows_none s.name (reply_of set replies) ≡ true
IsFoundBy s replies (found.Io error) = IsErrorOf s replies error

abbrev pub KnowsNext : Search → Replies → Next → Type 0
KnowsNext s replies (Ask set) = Knows s replies
KnowsNext s replies (Done result) = IsFoundBy s replies result

-- ---- the law

abbrev pub BeginsKnowing : Type 0
BeginsKnowing = (parent : Gfid) (name : List ℕ) (names : List (List ℕ)) (hashed : ℕ) → hashed < length names → Knows (search_of parent name names hashed) []

abbrev pub KeepsKnowing : Type 0
KeepsKnowing = (s : Search) (replies : Replies) (set : ℕ) (reply : Reply) → s.asked ≡ Some set → Knows s replies
    → KnowsNext (after s set reply) ((set, reply) ∷ replies) (next s set reply)
