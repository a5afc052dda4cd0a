-- How many bytes a process has mapped when it begins.
use Rattle.std.proofs.Common.{◌≡◌, ℕ, ◌+◌, ◌*◌, length, ap, ◌∙◌}
use Rattle.pr_num.proofs.ListLemmas.{length-text}
use Rattle.pr_num.specs.Layout.{page_size}
use Rattle.pr_num.specs.Limits.{instruction_size}
use Rattle.pr_num.specs.Programs.{Program, rounded, text_of}
use Rattle.pr_num.specs.Spaces.{first_space, mapped_size}
use Rattle.pr_parts.proofs.FirstLemmas.{mapped_size-first}

pub size_at_first : (p : Program)
    → mapped_size (first_space p) ≡ rounded (instruction_size * length p.code) + rounded (length p.bytes) + page_size
unfolding first_space
size_at_first p =
    mapped_size-first (text_of p) p.bytes
    ∙ ap (λ (n : ℕ). rounded n + rounded (length p.bytes) + page_size) (length-text p.code)
