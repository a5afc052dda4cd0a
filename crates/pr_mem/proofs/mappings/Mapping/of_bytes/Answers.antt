use Rattle.std.proofs.Common.{◌≡◌, ◌∙◌, ℕ, List, ap, replicate}
use Rattle.pr_num.specs.Programs.{whole_pages}
use Rattle.pr_num.specs.declared.mappings.Mapping.{Mapping}
use Rattle.pr_num.specs.declared.mappings.MappingKind.{MappingKind}
use Rattle.pr_parts.specs.AddressSpaces.{written_bytes}
use Rattle.pr_mem.proofs.PageLemmas.{whole_pages-written}
use Rattle.pr_mem.proofs.mappings.Mapping.of_bytes.Goals as goal

abbrev made : ℕ → ℕ → MappingKind → List ℕ → Mapping
made at prot kind bytes = record { at = at; prot = prot; kind = kind; bytes = bytes }

pub returns : goal.returns
returns c =
    let bytes = c.args.bytes.now in
    let zeros = c.in_ok-pages.ensures ∙ ap (λ n. replicate {A = ℕ} n 0) c.rounded.ensures in
    let written : c.write.new.self ≡ whole_pages bytes =
    c.in_ok-write.ensures.ok ∙ ap (written_bytes c.args.at bytes c.args.at) zeros
    ∙ whole_pages-written c.args.at bytes in
    ap (made c.args.at c.args.prot c.args.kind) written
