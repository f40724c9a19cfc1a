-- The commands of the program, by their words. A number is decimal and below 2^64.
use Rattle.std.specs.Prelude.{ℕ, nat_le, nat_lt, List, [], ◌∷◌, Option, Some, None, codes, if◌then◌else◌, ◌==◌, ◌&&◌}
use Rattle.std.specs.Cmp.Lexicographic.{pointwise}
use Rattle.xl_base.specs.Words.{decimal_of}
use Rattle.script_commands.specs.declared.commands.Command.{Command}
use Rattle.script_commands.specs.declared.commands.Command.TheVariants.{Check, Run, Mount, Generate, Replay}

-- check, and replay
abbrev pub lone_of : List ℕ → Option Command
lone_of word =
    if pointwise ◌==◌ word (codes "check") then Some Check
    else (if pointwise ◌==◌ word (codes "replay") then Some Replay else None)

-- run SEED; mount WORKERS, of which there are 1 to 16; gen N, where N is below 2^32
abbrev pub numbered_of : List ℕ → ℕ → Option Command
numbered_of word number =
    if pointwise ◌==◌ word (codes "run") then Some (Run number)
    else (if pointwise ◌==◌ word (codes "mount") && (nat_le 1 number && nat_le number 16) then Some (Mount number)
    else (if pointwise ◌==◌ word (codes "gen") && nat_lt number 4294967296 then Some (Generate number) else None))

abbrev pub numbered_by : List ℕ → Option ℕ → Option Command
numbered_by word None = None
numbered_by word (Some number) = numbered_of word number

-- the command, `None` where the words are no command
abbrev pub command_of : List (List ℕ) → Option Command
command_of [] = None
command_of (word ∷ []) = lone_of word
command_of (word ∷ number ∷ []) = numbered_by word (decimal_of number)
command_of (word ∷ number ∷ other ∷ others) = None

-- the commands that wait for nobody, and the one that is carried out by threads
abbrev pub without_threads : Option Command → Option Command
without_threads None = None
without_threads (Some Check) = Some Check
without_threads (Some (Run seed)) = Some (Run seed)
without_threads (Some (Mount workers)) = None
without_threads (Some (Generate number)) = Some (Generate number)
without_threads (Some Replay) = Some Replay

abbrev pub mount_command : Option Command → Option Command
mount_command None = None
mount_command (Some Check) = None
mount_command (Some (Run seed)) = None
mount_command (Some (Mount workers)) = Some (Mount workers)
mount_command (Some (Generate number)) = None
mount_command (Some Replay) = None
