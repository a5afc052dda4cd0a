use Rattle.std.specs.Prelude.{ℕ, List, ◌++◌, length}
use Rattle.std.specs.List.{flat_map}
use Rattle.pr_num.specs.Records.{entries_words, counted_words}
use Rattle.pr_num.specs.Words.{word_bytes, words_bytes}
use Rattle.pr_core.specs.Cores.{CoreState, CoreWords, core_words}

-- The bytes of a core: the version of its layout, the process's id, and sections.

-- the version of this layout
abbrev pub core_version : ℕ
core_version = 1

-- The kinds of sections, in the order in which they stand. Each record is that of the file of the process file system
-- that has this name (proc(4)); of memory there is a section for each mapping.
abbrev pub psinfo_kind : ℕ
psinfo_kind = 1

abbrev pub lstatus_kind : ℕ
lstatus_kind = 2

abbrev pub sigact_kind : ℕ
sigact_kind = 3

abbrev pub map_kind : ℕ
map_kind = 4

abbrev pub fds_kind : ℕ
fds_kind = 5

abbrev pub memory_kind : ℕ
memory_kind = 6

-- a section: its kind, how many bytes it has, and these bytes
unfoldable pub section : ℕ → List ℕ → List ℕ
section kind bytes = word_bytes kind ++ word_bytes (length bytes) ++ bytes

-- the bytes of a core with these words
unfoldable pub encoded : CoreWords → List ℕ
encoded c =
    word_bytes core_version
    ++ word_bytes c.pid
    ++ section psinfo_kind (words_bytes c.psinfo)
    ++ section lstatus_kind (words_bytes (counted_words c.lwps))
    ++ section sigact_kind (words_bytes c.sigact)
    ++ section map_kind (words_bytes (entries_words c.maps))
    ++ section fds_kind (words_bytes (entries_words c.fds))
    ++ flat_map (section memory_kind) c.memory

-- the bytes of a core
abbrev pub core_bytes : CoreState → List ℕ
core_bytes c = encoded (core_words c)
