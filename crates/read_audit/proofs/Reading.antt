-- What a call has read of an object, by the content that it was shown.
use Rattle.std.proofs.Common.{◌≡◌, subst}
use Rattle.std.specs.Prelude.{ℕ, List}
use Rattle.fop_types.specs.Cells.{data_cell, meta_cell}
use Rattle.fop_types.specs.declared.cells.Cell.{Cell}
use Rattle.fop_types.specs.declared.cells.Gfid.{Gfid}
use Rattle.fop_types.specs.declared.contents.Content.{Content as Held}
use Rattle.graph_build.specs.declared.plans.Plan.{Plan}
use Rattle.script_lang.specs.declared.scripts.Script.{Script}
use Rattle.brick_machine.specs.Journal.{Journal}
use Rattle.mount_log.specs.declared.logs.Log.{Log}
use Rattle.read_audit.specs.Read.{IsFetched, IsPartRead, IsFileRead, IsDirectoryRead, IsAttributeRead}
use Rattle.read_audit.specs.Showing.{HasPart, HasSize, HasMode, HasAttribute, IsSizeRead, IsModeRead}

module _ (script : Script) (plans : List Plan) (log : Log) (bricks : List Journal) (call number set : ℕ) where
  pub shown : (cell own : Cell) (content held : Held) → cell ≡ own → content ≡ held → IsFetched script plans log bricks call number set cell content → IsFetched script plans log bricks call number set own held
  shown cell own content held same is fetched =
      subst (λ (c : Cell). IsFetched script plans log bricks call number set c held) same
      (subst (λ (h : Held). IsFetched script plans log bricks call number set cell h) is fetched)

  pub part_is : (cell : Cell) (gfid : Gfid) (content : Held) (offset count : ℕ) (bytes : List ℕ) → cell ≡ data_cell gfid → IsFetched script plans log bricks call number set cell content → HasPart offset count bytes content
      → IsPartRead script plans log bricks call number count bytes
  part_is cell gfid content offset count bytes same fetched has = record {
    set = set;
    gfid = gfid;
    whole = has.whole;
    fetched = shown cell (data_cell gfid) content _ same has.is fetched;
    offset = offset;
    part = has.part;
  }

  pub size_is : (cell : Cell) (gfid : Gfid) (content : Held) (size : ℕ) → cell ≡ data_cell gfid → IsFetched script plans log bricks call number set cell content → HasSize size content
      → IsSizeRead script plans log bricks call number set gfid size
  size_is cell gfid content size same fetched has = record {
    whole = has.whole;
    fetched = shown cell (data_cell gfid) content _ same has.is fetched;
    size_is = has.size_is;
  }

  pub mode_is : (cell : Cell) (gfid : Gfid) (content : Held) (mode : ℕ) → cell ≡ meta_cell gfid → IsFetched script plans log bricks call number set cell content → HasMode mode content
      → IsModeRead script plans log bricks call number set gfid mode
  mode_is cell gfid content mode same fetched has = record {
    attrs = has.attrs;
    span = has.span;
    fetched = shown cell (meta_cell gfid) content _ same has.is fetched;
  }

  pub attribute_is : (cell : Cell) (gfid : Gfid) (content : Held) (name value : List ℕ) → cell ≡ meta_cell gfid → IsFetched script plans log bricks call number set cell content → HasAttribute name value content
      → IsAttributeRead script plans log bricks call number set gfid name value
  attribute_is cell gfid content name value same fetched has = record {
    mode = has.mode;
    attrs = has.attrs;
    span = has.span;
    meta = shown cell (meta_cell gfid) content _ same has.is fetched;
    attr = has.has.attr;
    named = has.has.named;
    value_is = has.has.value_is;
  }

  pub file_is : (gfid : Gfid) (mode size : ℕ) → IsSizeRead script plans log bricks call number set gfid size → IsModeRead script plans log bricks call number set gfid mode → IsFileRead script plans log bricks call number set gfid mode size
  file_is gfid mode size sized moded = record {
    whole = sized.whole;
    attrs = moded.attrs;
    span = moded.span;
    bytes = sized.fetched;
    meta = moded.fetched;
    size_is = sized.size_is;
  }

  pub directory_is : (gfid : Gfid) (mode : ℕ) → IsModeRead script plans log bricks call number set gfid mode → IsDirectoryRead script plans log bricks call number set gfid mode
  directory_is gfid mode moded = record { attrs = moded.attrs; span = moded.span; meta = moded.fetched }
