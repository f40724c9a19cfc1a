-- The limits of numbers, strings and lists, in messages and in files.
use Rattle.std.specs.Prelude.{ℕ, ◌&&◌, nat_le, Bool}

-- how many numbers a unit has, and the greatest of a unit and of a hyper
abbrev pub unit_range : ℕ
unit_range = 4294967296

abbrev pub max_unit : ℕ
max_unit = 4294967295

abbrev pub max_hyper : ℕ
max_hyper = 18446744073709551615

-- the nine bits of a mode, and a mask of five replicas
abbrev pub max_mode : ℕ
max_mode = 511

abbrev pub max_mask : ℕ
max_mask = 31

-- the bytes of a file, and of one write
abbrev pub max_data : ℕ
max_data = 65536

-- the bytes of the name and of the value of an attribute
abbrev pub min_attr_name : ℕ
min_attr_name = 6

abbrev pub max_attr_name : ℕ
max_attr_name = 64

abbrev pub max_attr_value : ℕ
max_attr_value = 1024

-- the bytes of the name of an item of a directory, and of a volume
abbrev pub max_item_name : ℕ
max_item_name = 255

abbrev pub max_volume_name : ℕ
max_volume_name = 64

-- the attributes, directory items or rows of a list; the cells of a request, and those of an index
abbrev pub max_list : ℕ
max_list = 65536

abbrev pub max_cells : ℕ
max_cells = 4

abbrev pub max_index : ℕ
max_index = 1048576

-- the mkdir and create calls of a script, which bound the objects that a heal finds; and the open descriptors of a
-- mount: 256 of each of 64 sessions
abbrev pub max_made : ℕ
max_made = 4096

abbrev pub max_open_fds : ℕ
max_open_fds = 16384

abbrev pub is_between : ℕ → ℕ → ℕ → Bool
is_between least most n = nat_le least n && nat_le n most
