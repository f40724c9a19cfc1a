-- An io-cache node: a read of which all needed pages are held is answered at once. Any other asks below for the whole pages
-- of its range; those that come back are kept, by rising number up to the first short one, and the answer is cut from them
-- alone. All else passes. A retired node keeps no page.
use Rattle.std.specs.Prelude.{◌≡◌, ℕ, ◌-◌, nat_lt, List, [], ◌∷◌, length, Option, Some, None, if◌then◌else◌}
use Rattle.std.specs.List.{range_with_len}
use Rattle.fop_types.specs.declared.answers.Answer.TheVariants as answer
use Rattle.fop_types.specs.declared.answers.FopAnswer.TheVariants as fop_answer
use Rattle.fop_types.specs.declared.fops.Fop.{Fop}
use Rattle.fop_types.specs.declared.fops.Fop.TheVariants as fop
use Rattle.fop_types.specs.declared.fops.Object.{Object}
use Rattle.xlator_law.specs.declared.step.Step.{Step}
use Rattle.io_cache.specs.Pages.{Held, answer as pages_answer, after_read, put_page}
use Rattle.graph_items.specs.declared.items.Down.{Down}
use Rattle.graph_items.specs.declared.items.Down.TheVariants as down
use Rattle.graph_items.specs.declared.items.Up.{Up}
use Rattle.graph_items.specs.declared.items.Up.TheVariants as up
use Rattle.graph_nodes.specs.declared.kinds.IoCache.{IoCache}
use Rattle.graph_nodes.specs.declared.locals.Local.{Local}
use Rattle.graph_nodes.specs.declared.locals.Local.TheVariants as local
use Rattle.graph_nodes.specs.declared.locals.PageRange.{PageRange}
use Rattle.graph_nodes.specs.Moves.{Move, IsMove, to_child}
use Rattle.graph_nodes.specs.Moves.Move.{Back}
use Rattle.graph_nodes.specs.Pages.{start_of, pages_of, page_bytes, answer_of}

abbrev pub asked_for : ℕ → Object → PageRange → Fop
asked_for fd object r = fop.Read fd object (start_of r.first) (start_of r.end - start_of r.first)

-- the page with this number is kept
abbrev pub put_of : PageRange → List ℕ → ℕ → Held → Held
put_of r bytes page held = put_page r.gfid page (page_bytes r bytes page) held

-- the pages with these numbers are kept, up to the first short one
abbrev pub kept : PageRange → List ℕ → List ℕ → Held → Held
kept r bytes [] held = held
kept r bytes (page ∷ pages) held =
    if nat_lt (length (page_bytes r bytes page)) 4096
    then put_of r bytes page held
    else kept r bytes pages (put_of r bytes page held)

abbrev pub kept_by : IoCache → PageRange → List ℕ → IoCache
kept_by node r bytes = if node.retired then node else record node { pages = kept r bytes (range_with_len r.first (r.end - r.first)) node.pages }

-- the answer from the pages, or what is asked for
abbrev pub hit_or_miss : ℕ → Object → ℕ → ℕ → Option (List ℕ) → Move
hit_or_miss fd object offset count (Some bytes) = Back (up.Answer (fop_answer.Call (answer.Bytes bytes)) None)
hit_or_miss fd object offset count None = to_child 0 (down.Fop (asked_for fd object (pages_of object offset count))) (local.Pages (pages_of object offset count))

pub record IsRead (old : IoCache) (fd : ℕ) (object : Object) (offset count : ℕ) (step : Step Down Up Local) (new : IoCache) : Type 0 where
  pub step_is : IsMove (hit_or_miss fd object offset count (pages_answer old.pages object.gfid offset count)) step
  pub node : new ≡ record old { pages = after_read old.pages object.gfid offset count }

pub record Passes (old : IoCache) (d : Down) (step : Step Down Up Local) (new : IoCache) : Type 0 where
  pub step_is : IsMove (to_child 0 d local.Relay) step
  pub node : new ≡ old

-- a read, by its descriptor, its object, its offset and its count
pub record ReadFop : Type 0 where
  pub fd : ℕ
  pub object : Object
  pub offset : ℕ
  pub count : ℕ

abbrev pub read_in : Fop → Option ReadFop
read_in (fop.Read fd object offset count) = Some (record { fd = fd; object = object; offset = offset; count = count })
read_in other = None

abbrev pub EntersBy : Option ReadFop → IoCache → Down → Step Down Up Local → IoCache → Type 0
EntersBy (Some r) old d step new = IsRead old r.fd r.object r.offset r.count step new
EntersBy None old d step new = Passes old d step new

-- a read is looked up; all else passes
abbrev pub IsEntered : IoCache → Down → Step Down Up Local → IoCache → Type 0
IsEntered old (down.Fop f) step new = EntersBy (read_in f) old (down.Fop f) step new
IsEntered old (down.Job j) step new = Passes old (down.Job j) step new
IsEntered old (down.Request r) step new = Passes old (down.Request r) step new

-- bytes that came back, with the place of their answer
pub record Came : Type 0 where
  pub bytes : List ℕ
  pub place : Option ℕ

abbrev pub bytes_in : Up → Option Came
bytes_in (up.Answer (fop_answer.Call (answer.Bytes bytes)) place) = Some (record { bytes = bytes; place = place })
bytes_in other = None

abbrev pub PagesCome : Option Came → IoCache → PageRange → Up → Step Down Up Local → IoCache → Type 0
PagesCome (Some came) old r reply step new = IsMove (Back (up.Answer (fop_answer.Call (answer.Bytes (answer_of r came.bytes))) came.place)) step × (new ≡ kept_by old r came.bytes)
PagesCome None old r reply step new = IsMove (Back reply) step × (new ≡ old)

-- the read for whose pages a frame has asked
abbrev pub range_in : Local → Option PageRange
range_in (local.Pages r) = Some r
range_in local.Relay = None
range_in (local.Queued d) = None
range_in (local.Distribute frame) = None
range_in (local.Set frame) = None

-- the bytes that came back are kept, and the read is cut from them; any other reply passes
abbrev pub IsAnswered : IoCache → Local → Up → Step Down Up Local → IoCache → Type 0
IsAnswered old (local.Pages r) reply step new = PagesCome (bytes_in reply) old r reply step new
IsAnswered old other reply step new = IsMove (Back reply) step × (new ≡ old)
