-- The words of the process file system (proc(4)): its files, and how they are opened. Scripts and histories have them.
use Rattle.std.specs.Prelude.{ℕ, Bool, Option, List, [], ◌∷◌, codes, find}
use Rattle.std.specs.Str.{bytes_eq}
use Rattle.pr_model.specs.declared.calls.File.{File}
use Rattle.pr_model.specs.declared.calls.File.TheVariants.{Ctl, Status, Lstatus, Psinfo, Map, Usage, Mem, Sigact, Watch, Fds, Lwpctl, Lwpstatus}
use Rattle.pr_model.specs.declared.calls.Mode.{Mode}
use Rattle.pr_model.specs.declared.calls.Mode.TheVariants.{Read, Write, WriteExcl}

-- every file
abbrev pub files : List File
files = Ctl ∷ Status ∷ Lstatus ∷ Psinfo ∷ Map ∷ Usage ∷ Mem ∷ Sigact ∷ Watch ∷ Fds ∷ Lwpctl ∷ Lwpstatus ∷ []

-- the name of a file
unfoldable pub file_name : File → List ℕ
file_name Ctl = codes "ctl"
file_name Status = codes "status"
file_name Lstatus = codes "lstatus"
file_name Psinfo = codes "psinfo"
file_name Map = codes "map"
file_name Usage = codes "usage"
file_name Mem = codes "as"
file_name Sigact = codes "sigact"
file_name Watch = codes "watch"
file_name Fds = codes "fds"
file_name Lwpctl = codes "lwpctl"
file_name Lwpstatus = codes "lwpstatus"

-- whether these bytes are the whole name of the file
abbrev pub is_file_named : List ℕ → File → Bool
is_file_named bytes f = bytes_eq bytes (file_name f)

-- the file that these bytes name, none where they name none
unfoldable pub file_of_name : List ℕ → Option File
file_of_name bytes = find (is_file_named bytes) files

-- every way to open a file
abbrev pub modes : List Mode
modes = Read ∷ Write ∷ WriteExcl ∷ []

-- how a file is opened: r for reading, w for writing, wx for writing while nobody else writes
unfoldable pub mode_name : Mode → List ℕ
mode_name Read = codes "r"
mode_name Write = codes "w"
mode_name WriteExcl = codes "wx"

-- whether these bytes are the whole name of the mode
abbrev pub is_mode_named : List ℕ → Mode → Bool
is_mode_named bytes m = bytes_eq bytes (mode_name m)

-- the mode that these bytes name, none where they name none
unfoldable pub mode_of_name : List ℕ → Option Mode
mode_of_name bytes = find (is_mode_named bytes) modes
