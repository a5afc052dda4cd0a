use Rattle.std.proofs.Common.{◌≡◌, ℕ, List, [], ◌∷◌, ◌++◌, refl}
use Rattle.pr_num.specs.Layout.{data_base, page_size, stack_base, text_base}
use Rattle.pr_num.specs.Spaces.{Space, read_execute, read_write, unless_empty, first_mappings}
use Rattle.pr_num.specs.declared.mappings.Mapping.{Mapping}
use Rattle.pr_num.specs.declared.mappings.MappingKind.TheVariants.{Text, Data, Stack}
use Rattle.pr_parts.specs.AddressSpaces.{zeros_at}
use Rattle.pr_mem.proofs.mapping_lists.first_mappings.Goals as goal

-- one mapping behind another
built : (none one two all : Space) (text bytes : List ℕ) (run change : ℕ) (stack : Mapping) → none ≡ []
    → run ≡ read_execute → change ≡ read_write → one ≡ none ++ unless_empty text_base run Text text
    → two ≡ one ++ unless_empty data_base change Data bytes → stack ≡ zeros_at stack_base page_size change Stack
    → all ≡ two ++ stack ∷ [] → all ≡ first_mappings text bytes
unfolding first_mappings
built none one two all text bytes run change stack e0 er ec e1 e2 es e3 = rw (e3, e2, e1, e0, es, er, ec) refl

pub returns : goal.returns
returns c =
    built c.new-first.result.items c.push_pages.new.mappings.items c.push_pages-2.new.mappings.items
    c.push.new.mappings.items c.args.text.now c.args.bytes.now c.prot_of-run.result c.prot_of-change.result
    c.in_ok-stack.stack c.new-first.ensures.items c.prot_of-run.ensures c.prot_of-change.ensures
    c.in_ok-push_pages.ensures c.in_ok-push_pages-2.ensures c.in_ok-stack.ensures c.in_ok-push.ensures
