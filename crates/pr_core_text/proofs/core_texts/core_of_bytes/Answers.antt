use Rattle.std.proofs.Common.{◌≡◌, ℕ, List, Ok, length, ap, sym, ◌∙◌, arith}
use Rattle.pr_core.specs.CoreReading.{core_read}
use Rattle.pr_core_text.specs.CoreTexts.{Bytes, if_core}
use Rattle.pr_core_text.proofs.core_texts.core_of_bytes.Goals as goal

pub returns-in-Ok-clause-read : goal.returns-in-Ok-clause-read
returns-in-Ok-clause-read c =
    let same : c.deref.result.now ≡ c.args.read.bytes =
    c.deref.ensures.value ∙ ap (λ (b : Bytes). b.bytes) c.read.view_is in
    ap (λ xs. if_core c.args.first c.args.read (core_read xs)) (sym same)
    ∙ ap (if_core c.args.first c.args.read) c.in-Ok.ensures.ok
    ∙ ap (λ (xs : List ℕ). Ok xs) (sym (c.in-Ok.ensures.bytes ∙ same))

pub returns-in-Ok-clause-fits : goal.returns-in-Ok-clause-fits
returns-in-Ok-clause-fits c =
    let same : c.deref.result.now ≡ c.args.read.bytes =
    c.deref.ensures.value ∙ ap (λ (b : Bytes). b.bytes) c.read.view_is in
    omega (arith, ap length (c.in-Ok.ensures.bytes ∙ same), c.requires.few, c.requires.small)
