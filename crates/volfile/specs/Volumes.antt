-- What the volumes of a volfile are: those that the grammar gives for some text, but for line numbers. Each
-- has a name that none before it has, a type, options whose keys are words and whose values hold neither
-- quote nor backquote, and subvolumes among those before it.
use Rattle.std.specs.Prelude.{◌≡◌, ⊤, ℕ, ◌==◌, ◌&&◌, ◌||◌, not, nat_le, Bool, true, false, List, [], ◌∷◌, ◌++◌, length, Option, Some, None, Ok}
use Rattle.std.specs.List.{list_all}
use Rattle.volfile.specs.TextLines.{is_name, is_text_byte}
use Rattle.volfile.specs.VolumeNames.{place_of}
use Rattle.volfile.specs.VolfileText.{Reading, parsed, is_defined, is_type}
use Rattle.volfile.specs.declared.volumes.OptionLine.{OptionLine}
use Rattle.volfile.specs.declared.volumes.Volume.{Volume}
use Rattle.volfile.specs.declared.volumes.Volfile.{Volfile}

-- ---- the same but for line numbers
abbrev pub without_line : Volume → Volume
without_line v = record v { line = 0 }

abbrev pub without_lines : List Volume → List Volume
without_lines [] = []
without_lines (v ∷ vs) = without_line v ∷ without_lines vs

-- a text whose volumes these are
pub record ReadsAs (text : List ℕ) (v : Volfile) : Type 0 where
  pub said : Volfile
  pub parsed : parsed text ≡ Ok said
  pub same : without_lines said.volumes ≡ without_lines v.volumes

pub record IsVolfile (v : Volfile) : Type 0 where
  pub text : List ℕ
  pub reads : ReadsAs text v

-- ---- the form of each volume
-- a byte of a word without quotes
abbrev pub is_plain : ℕ → Bool
is_plain b = nat_le 33 b && nat_le b 126 && not (b == 34) && not (b == 35) && not (b == 96)

abbrev pub is_plain_word : List ℕ → Bool
is_plain_word w = not (length w == 0) && list_all is_plain w

-- a byte of a value
abbrev pub is_value_byte : ℕ → Bool
is_value_byte b = is_text_byte b && not (b == 34) && not (b == 96)

abbrev pub is_option : OptionLine → Bool
is_option o = is_plain_word o.key && list_all is_value_byte o.value

-- a type, or nothing so far
abbrev pub is_kind : List ℕ → Bool
is_kind w = (length w == 0) || (is_type w && is_plain_word w)

-- a volume, or a block as far as it was read, behind these volumes
pub record IsBlock (before : List Volume) (v : Volume) : Type 0 where
  pub name : is_name v.name ≡ true
  pub fresh : place_of v.name before ≡ None
  pub room : nat_le 256 (length before) ≡ false
  pub kind : is_kind v.kind ≡ true
  pub options : list_all is_option v.options ≡ true
  pub names : list_all is_name v.subvolumes ≡ true
  pub defined : list_all (is_defined before) v.subvolumes ≡ true

-- volumes that come one after the other behind these
abbrev pub AreVolumes : List Volume → List Volume → Type 0
AreVolumes before [] = ⊤
AreVolumes before (v ∷ vs) = IsBlock before v × ((length v.kind == 0) ≡ false) × AreVolumes (before ++ v ∷ []) vs

abbrev pub IsOpen : List Volume → Option Volume → Type 0
IsOpen volumes None = ⊤
IsOpen volumes (Some v) = IsBlock volumes v

-- what may have been read
pub record IsRead (r : Reading) : Type 0 where
  pub volumes : AreVolumes [] r.volumes
  pub block : IsOpen r.volumes r.block
