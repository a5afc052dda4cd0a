use Rattle.std.proofs.Common.{ap, subst, sym, ◌∙◌}
use Rattle.pr_model.specs.declared.tools.ToolKind.{ToolKind}
use Rattle.pr_tools.specs.Pmap.{HasTotal}
use Rattle.pr_core.proofs.SizeLemmas.{maps-total}
use Rattle.pr_core.specs.CoreTools.{record_of}
use Rattle.pr_core.proofs.core_tools.tool_over_core.Goals as goal

pub text_of_record-requires : goal.text_of_record-requires
unfolding record_of
text_of_record-requires c = λ same.
    subst HasTotal (sym (c.as_slice.ensures ∙ c.in_ok-bytes-in-Pflags.ensures
    ∙ ap (λ (kind : ToolKind). record_of kind c.args.core.now) same))
    (maps-total c.args.core.now c.requires.core c.requires.fits)
