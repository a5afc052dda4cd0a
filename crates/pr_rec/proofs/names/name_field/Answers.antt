use Rattle.std.proofs.Common.{◌++◌, drop, length, replicate, ap, ◌∙◌}
use Rattle.std.proofs.lemmas.List.{drop-replicate}
use Rattle.pr_num.specs.Records.{name_field}
use Rattle.pr_rec.proofs.names.name_field.Goals as goal

pub returns : goal.returns
returns c =
    let bytes = c.as_slice-bytes.result.now in
    ap (λ front. front ++ drop (length bytes) (replicate 32 0)) c.copy_from_slice.ensures.after
    ∙ ap (λ zeros. bytes ++ zeros) (drop-replicate (length bytes) 32 0)
    ∙ ap name_field c.as_slice-bytes.ensures.bytes
