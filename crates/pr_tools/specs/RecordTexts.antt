-- The text of a tool that shows one record, of the bytes of that: those that a live process shows, or those of a core.
use Rattle.std.specs.Prelude.{ℕ, List, []}
use Rattle.pr_model.specs.declared.tools.ToolKind.{ToolKind}
use Rattle.pr_model.specs.declared.tools.ToolKind.TheVariants.{Pflags, Psig, Pstack, Pmap, Pfiles, Pstop, Prun, Pwait, Ptree}
use Rattle.pr_tools.specs.Pfiles.{pfiles_text}
use Rattle.pr_tools.specs.Pflags.{pflags_text}
use Rattle.pr_tools.specs.Pmap.{pmap_text}
use Rattle.pr_tools.specs.Psig.{psig_text}
use Rattle.pr_tools.specs.Ptree.{ptree_text}
use Rattle.pr_tools.specs.Pwait.{pwait_text}

-- pstop and prun show nothing, and pstack shows more than a record
unfoldable pub text_of_record : ToolKind → ℕ → List ℕ → List ℕ
text_of_record Pflags pid bytes = pflags_text pid bytes
text_of_record Psig pid bytes = psig_text pid bytes
text_of_record Pstack pid bytes = []
text_of_record Pmap pid bytes = pmap_text pid bytes
text_of_record Pfiles pid bytes = pfiles_text pid bytes
text_of_record Pstop pid bytes = []
text_of_record Prun pid bytes = []
text_of_record Pwait pid bytes = pwait_text pid bytes
text_of_record Ptree pid bytes = ptree_text bytes
