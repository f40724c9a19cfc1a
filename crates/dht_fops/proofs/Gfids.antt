-- The gfids that replies show are within their bounds, if the replies are.
use Rattle.fop_types.specs.Jobs.{IsSetReply}
use Rattle.std.proofs.Common.{◌≡◌, ℕ, inl, inr, Bool, true, false, List, [], ◌∷◌, Option, Some, None, IfSome, Result, Ok, Err, if◌then◌else◌, nat_eq, ap, subst}
use Rattle.std.specs.Cmp.Lexicographic.{pointwise}
use Rattle.dht_linkto.specs.DirNames.{names_in, names_shown, first_content}
use Rattle.dht_linkto.specs.declared.names.DirNames.{DirNames}
use Rattle.dht_fops.proofs.Handing.{IsKnown}
use Rattle.dht_fops.specs.Handed.{Handed, HaveBounds, Saw, SawName}
use Rattle.dht_fops.specs.Handed.Event.{Replied, Held}
use Rattle.fop_types.specs.Bounds.{Each, IsItem, IsGfid, IsContent}
use Rattle.fop_types.specs.Names.{item_named}
use Rattle.fop_types.specs.declared.answers.IoError.{IoError}
use Rattle.fop_types.specs.declared.cells.Gfid.{Gfid}
use Rattle.fop_types.specs.declared.cells.Kind.{Kind}
use Rattle.fop_types.specs.declared.contents.Content.{Content}
use Rattle.fop_types.specs.declared.contents.Content.TheVariants.{Bytes, Meta, Names}
use Rattle.fop_types.specs.declared.contents.Item.{Item}
use Rattle.fop_types.specs.declared.jobs.SetReply.{SetReply}
use Rattle.fop_types.specs.declared.jobs.SetReply.TheVariants as reply
use Rattle.fop_types.specs.StoreOps.{items_of}

-- the names in a content of a directory's entry cell
content_items : (content : Option Content) → IfSome content (IsContent true) → Each IsItem (items_of content)
content_items None c = tt
content_items (Some (Bytes bytes)) c = tt
content_items (Some (Meta mode attrs span)) c = tt
content_items (Some (Names removed items)) c = c.1

first_items : (contents : List (Option Content)) → Each (λ (content : Option Content). IfSome content (IsContent true)) contents → Each IsItem (items_of (first_content contents))
first_items [] b = tt
first_items (content ∷ contents) b = content_items content b.0

shown_items : (one two : DirNames) → ◌≡◌ {A = Result DirNames IoError} (Ok one) (Ok two) → Each IsItem one.items → Each IsItem two.items
shown_items one two e i = let same : one ≡ two = cc in subst (λ (d : DirNames). Each IsItem d.items) same i

reply_items : (r : SetReply) (shown : DirNames) → IsSetReply r → names_in r ≡ Ok shown → Each IsItem shown.items
reply_items (reply.Contents contents place) shown b e = shown_items (names_shown (first_content contents) place) shown e (first_items contents b)
reply_items (reply.Decided number) shown b e = shown_items (names_shown None 0) shown e tt
reply_items reply.Opened shown b e = shown_items (names_shown None 0) shown e tt
reply_items (reply.Listed cells group short) shown b e = shown_items (names_shown None 0) shown e tt
reply_items (reply.Healed records) shown b e = shown_items (names_shown None 0) shown e tt
reply_items (reply.Skipped cause) shown b e = shown_items (names_shown None 0) shown e tt
reply_items (reply.Io error) shown b e = absurd (let wrong : ◌≡◌ {A = Result DirNames IoError} (Err error) (Ok shown) = e in cc)

saw_items : (handed : Handed) (dir : Gfid) (set : ℕ) (shown : DirNames) → Saw handed dir set shown → HaveBounds handed → Each IsItem shown.items
saw_items [] dir set shown s a = absurd s
saw_items (Replied one job reply ∷ handed) dir set shown (inl n) a =
    reply_items reply shown a.0 n.2
saw_items (Held held ∷ handed) dir set shown (inl n) a = absurd n
saw_items (event ∷ handed) dir set shown (inr s) a = saw_items handed dir set shown s a.1

named_by : (other item : Item) (items : List Item) (name : List ℕ) (b : Bool) → (if b then Some other else item_named items name) ≡ Some item → IsItem other → (item_named items name ≡ Some item → IsItem item) → IsItem item
named_by other item items name true e o k = let same : other ≡ item = cc in subst (λ (i : Item). IsItem i) same o
named_by other item items name false e o k = k e

named_item : (items : List Item) (name : List ℕ) (item : Item) → item_named items name ≡ Some item → Each IsItem items → IsItem item
named_item [] name item e i = absurd cc
named_item (other ∷ items) name item e i = named_by other item items name (pointwise nat_eq other.name name) e i.0 (λ f. named_item items name item f i.1)

pub saw_known : (handed : Handed) (dir : Gfid) (name : List ℕ) (set : ℕ) (gfid : Gfid) (kind : Kind) → SawName handed dir name set gfid kind → IsKnown handed gfid
saw_known handed dir name set gfid kind s a =
    let item : IsItem s.item = named_item s.shown.items name s.item s.named (saw_items handed dir set s.shown s.saw a) in
    subst (λ (g : Gfid). IsGfid g) s.gfid_is item.1
