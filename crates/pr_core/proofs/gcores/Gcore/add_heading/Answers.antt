use Rattle.std.proofs.Common.{List, ℕ, ap, ◌∙◌, append_assoc}
use Rattle.pr_num.specs.Words.{word_bytes}
use Rattle.pr_core.specs.Gcores.{GcoreState, with_bytes}
use Rattle.pr_core.proofs.gcores.Gcore.add_heading.Goals as goal

pub returns-clause-state : goal.returns-clause-state
returns-clause-state c =
    let before : GcoreState = c.args.self.now.state in
    c.add_word-2.ensures.state
    ∙ ap (λ (s : GcoreState). with_bytes s (word_bytes c.args.size)) c.add_word.ensures.state
    ∙ ap (λ (bytes : List ℕ). record before { bytes = bytes })
    (append_assoc before.bytes (word_bytes c.args.kind) (word_bytes c.args.size))
