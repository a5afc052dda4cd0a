use Rattle.std.specs.Prelude.{ℕ, Bool, true, false, List, [], Option, Some, None, option_map}
use Rattle.pr_model.specs.Records.{fds_of, list_of, lstatus_of, map_of, psinfo_of}
use Rattle.pr_model.specs.State.{TracedSystem, live_process, process_of}
use Rattle.pr_model.specs.declared.tools.ToolKind.{ToolKind}
use Rattle.pr_model.specs.declared.tools.ToolKind.TheVariants.{Pflags, Psig, Pstack, Pmap, Pfiles, Pstop, Prun, Pwait, Ptree}
use Rattle.pr_tool_laws.specs.TextsOfRecords.{descriptors_text, dispositions_text, end_text, lwps_text, mappings_text, tree_text}

-- The text of a tool as a function of one state of the machine.

-- the tools that read at most once; pstack reads more than once, of a stopped process
unfoldable pub reads_once : ToolKind → Bool
reads_once Pflags = true
reads_once Psig = true
reads_once Pstack = false
reads_once Pmap = true
reads_once Pfiles = true
reads_once Pstop = true
reads_once Prun = true
reads_once Pwait = true
reads_once Ptree = true

-- The text that a tool prints of a process as it is in one state, a row a tool. None: there is no such process, or it
-- has ended, which hides it from all tools but pwait. What pstack prints is not of one read, and has a file of its own.
unfoldable pub tool_text : ToolKind → ℕ → TracedSystem → Option (List ℕ)
tool_text Pflags pid s = option_map (λ p. lwps_text pid (lstatus_of p)) (live_process s pid)
tool_text Psig pid s = option_map (λ p. dispositions_text pid p.dispositions) (live_process s pid)
tool_text Pstack pid s = None
tool_text Pmap pid s = option_map (λ p. mappings_text pid (map_of s p)) (live_process s pid)
tool_text Pfiles pid s = option_map (λ p. descriptors_text pid (fds_of s.files p)) (live_process s pid)
tool_text Pstop pid s = Some []
tool_text Prun pid s = Some []
tool_text Pwait pid s = option_map (λ p. end_text (psinfo_of s pid p)) (process_of s pid)
tool_text Ptree pid s = Some (tree_text (list_of s))
