-- What is found of one answer: what a content shows, and what a call has read of a file's data and of an object's metadata.
use Rattle.std.specs.Prelude.{◌≡◌, ℕ, List, Option, Some, length}
use Rattle.fop_types.specs.Cells.{data_cell, meta_cell}
use Rattle.fop_types.specs.FileBytes.{read_from}
use Rattle.fop_types.specs.Names.{attr_named}
use Rattle.fop_types.specs.declared.cells.Gfid.{Gfid}
use Rattle.fop_types.specs.declared.contents.Attr.{Attr}
use Rattle.fop_types.specs.declared.contents.Content.{Content as Held}
use Rattle.fop_types.specs.declared.contents.Content.TheVariants.{Bytes, Meta}
use Rattle.fop_types.specs.declared.contents.Span.{Span}
use Rattle.graph_build.specs.declared.plans.Plan.{Plan}
use Rattle.script_lang.specs.declared.scripts.Script.{Script}
use Rattle.brick_machine.specs.Journal.{Journal}
use Rattle.mount_log.specs.declared.logs.Log.{Log}
use Rattle.read_audit.specs.Read.{IsFetched}

-- ---- contents

-- the bytes are those of a file from an offset on, at most so many
pub record HasPart (offset count : ℕ) (bytes : List ℕ) (content : Held) : Type 0 where
  pub whole : List ℕ
  pub is : content ≡ Bytes whole
  pub part : bytes ≡ read_from whole offset count

-- the content is a file's bytes, so many
pub record HasSize (size : ℕ) (content : Held) : Type 0 where
  pub whole : List ℕ
  pub is : content ≡ Bytes whole
  pub size_is : size ≡ length whole

-- the content is metadata with this mode
pub record HasMode (mode : ℕ) (content : Held) : Type 0 where
  pub attrs : List Attr
  pub span : Option Span
  pub is : content ≡ Meta mode attrs span

-- the attribute of a name has this value
pub record HasValue (attrs : List Attr) (name value : List ℕ) : Type 0 where
  pub attr : Attr
  pub named : attr_named attrs name ≡ Some attr
  pub value_is : value ≡ attr.value

-- the content is metadata in which the attribute of a name has this value
pub record HasAttribute (name value : List ℕ) (content : Held) : Type 0 where
  pub mode : ℕ
  pub attrs : List Attr
  pub span : Option Span
  pub is : content ≡ Meta mode attrs span
  pub has : HasValue attrs name value

-- ---- what was read

-- a call has read a file's bytes, so many
pub record IsSizeRead (script : Script) (plans : List Plan) (log : Log) (bricks : List Journal) (call number set : ℕ) (gfid : Gfid) (size : ℕ) : Type 0 where
  pub whole : List ℕ
  pub fetched : IsFetched script plans log bricks call number set (data_cell gfid) (Bytes whole)
  pub size_is : size ≡ length whole

-- a call has read an object's metadata with this mode
pub record IsModeRead (script : Script) (plans : List Plan) (log : Log) (bricks : List Journal) (call number set : ℕ) (gfid : Gfid) (mode : ℕ) : Type 0 where
  pub attrs : List Attr
  pub span : Option Span
  pub fetched : IsFetched script plans log bricks call number set (meta_cell gfid) (Meta mode attrs span)
