-- The names of the tools of proc(1) and pmap(1).
use Rattle.std.specs.Prelude.{ℕ, Bool, Option, List, [], ◌∷◌, codes, find}
use Rattle.std.specs.Str.{bytes_eq}
use Rattle.pr_model.specs.declared.tools.ToolKind.{ToolKind}
use Rattle.pr_model.specs.declared.tools.ToolKind.TheVariants.{Pflags, Psig, Pstack, Pmap, Pfiles, Pstop, Prun, Pwait, Ptree}

-- the tools of one process; ptree is of all
abbrev pub process_tools : List ToolKind
process_tools = Pflags ∷ Psig ∷ Pstack ∷ Pmap ∷ Pfiles ∷ Pstop ∷ Prun ∷ Pwait ∷ []

-- the name of a tool
unfoldable pub tool_name : ToolKind → List ℕ
tool_name Pflags = codes "pflags"
tool_name Psig = codes "psig"
tool_name Pstack = codes "pstack"
tool_name Pmap = codes "pmap"
tool_name Pfiles = codes "pfiles"
tool_name Pstop = codes "pstop"
tool_name Prun = codes "prun"
tool_name Pwait = codes "pwait"
tool_name Ptree = codes "ptree"

-- whether these bytes are the whole name of the tool
abbrev pub is_tool_named : List ℕ → ToolKind → Bool
is_tool_named bytes k = bytes_eq bytes (tool_name k)

-- the tool of one process that these bytes name, none where they name none
unfoldable pub process_tool_of_name : List ℕ → Option ToolKind
process_tool_of_name bytes = find (is_tool_named bytes) process_tools
