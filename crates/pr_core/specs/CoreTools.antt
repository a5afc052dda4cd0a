-- The proc tools over a core: the text that each prints of the process that was written there.
use Rattle.std.specs.Prelude.{ℕ, List, [], ◌∷◌}
use Rattle.pr_model.specs.declared.tools.ToolKind.{ToolKind}
use Rattle.pr_model.specs.declared.tools.ToolKind.TheVariants.{Pflags, Psig, Pstack, Pmap, Pfiles, Pstop, Prun, Pwait, Ptree}
use Rattle.pr_num.specs.Programs.{Program}
use Rattle.pr_num.specs.Records.{entries_words}
use Rattle.pr_num.specs.Spaces.{Space}
use Rattle.pr_num.specs.Words.{words_bytes}
use Rattle.pr_num.specs.declared.mappings.Mapping.{Mapping}
use Rattle.pr_rec.specs.RecordBytes.{lstatus_bytes, map_bytes, sigact_bytes}
use Rattle.pr_rec.specs.declared.mappings.MapEntry.{MapEntry}
use Rattle.pr_tools.specs.RecordTexts.{text_of_record}
use Rattle.pr_tools.specs.SpaceStacks.{lwps_stacks}
use Rattle.pr_core.specs.Cores.{CoreState}

-- a mapping of a core, with its bytes
abbrev pub mapping_with : MapEntry → List ℕ → Mapping
mapping_with m bytes = record { at = m.at; prot = m.prot; kind = m.kind; bytes = bytes }

-- mappings, each with its bytes
abbrev pub space_with : List MapEntry → List (List ℕ) → Space
space_with [] memory = []
space_with (m ∷ ms) [] = []
space_with (m ∷ ms) (bytes ∷ memory) = mapping_with m bytes ∷ space_with ms memory

-- the address space of the process of a core
unfoldable pub core_space : CoreState → Space
core_space c = space_with c.maps c.memory

-- the bytes of the record of a core that a tool shows, a row a tool; pstack shows more than a record, and what the
-- others show is no part of a core
unfoldable pub record_of : ToolKind → CoreState → List ℕ
record_of Pflags c = lstatus_bytes c.lwps
record_of Psig c = sigact_bytes c.sigact
record_of Pstack c = []
record_of Pmap c = map_bytes c.maps
record_of Pfiles c = words_bytes (entries_words c.fds)
record_of Pstop c = []
record_of Prun c = []
record_of Pwait c = []
record_of Ptree c = []

-- The text of a tool over a core, a row a tool; the labels of stacks are those of programs. What is no part of a core
-- has no text.
unfoldable pub tool_over_core : ToolKind → CoreState → List Program → List ℕ
tool_over_core Pflags c programs = text_of_record Pflags c.pid (record_of Pflags c)
tool_over_core Psig c programs = text_of_record Psig c.pid (record_of Psig c)
tool_over_core Pstack c programs = lwps_stacks c.pid programs (core_space c) c.lwps
tool_over_core Pmap c programs = text_of_record Pmap c.pid (record_of Pmap c)
tool_over_core Pfiles c programs = text_of_record Pfiles c.pid (record_of Pfiles c)
tool_over_core Pstop c programs = []
tool_over_core Prun c programs = []
tool_over_core Pwait c programs = []
tool_over_core Ptree c programs = []
