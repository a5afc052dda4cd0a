use Rattle.std.proofs.Common.{◌≡◌, ◌-◌, ◌++◌, List, ℕ, sym, ap, ◌∙◌, arith}
use Rattle.std.specs.Option.{option_copied}
use Rattle.pr_codec.specs.Words.{word_at}
use Rattle.pr_tools.specs.Pstack.{frame_line}
use Rattle.pr_core.specs.CoreMemory.{space_in}
use Rattle.pr_core.proofs.FrameLemmas.{lines_from, next-frame, no-frame, no-pointer, none-left}
use Rattle.pr_core.proofs.core_stacks.push_frames.Goals as goal

pub returns-then-len-lt-SHORT_READ : goal.returns-then-len-lt-SHORT_READ
returns-then-len-lt-SHORT_READ c =
    sym (no-frame (option_copied c.args.program) (space_in c.args.space.now) c.loop-left.left c.loop-left.frame
    c.loop-left.text c.in_ok-bytes.bytes.items (omega arith) (omega arith) c.in_ok-bytes.ensures
    (omega (arith, c.len.ensures))) ∙ c.loop-left.invariant

pub loop-left-preserved : goal.loop-left-preserved
loop-left-preserved c =
    let program = option_copied c.args.program in
    let space = space_in c.args.space.now in
    let left : ℕ = c.loop-left.left - 1 in
    let text : List ℕ = c.loop-left.text in
    let bytes : List ℕ = c.in_ok-bytes.bytes.items in
    let pc : c.word_at.result ≡ word_at bytes 8 =
    c.word_at.ensures ∙ ap (λ (xs : List ℕ). word_at xs 8) c.deref.ensures.value in
    let frame : c.word_at-frame.result ≡ word_at bytes 0 =
    c.word_at-frame.ensures ∙ ap (λ (xs : List ℕ). word_at xs 0) c.deref-in-loop-left.ensures.value in
    ap (λ (t : List ℕ). t ++ lines_from program space left c.word_at-frame.result) c.in_ok-push_frame.ensures
    ∙ ap (λ (n : ℕ). (text ++ frame_line program n) ++ lines_from program space left c.word_at-frame.result) pc
    ∙ ap (λ (n : ℕ). (text ++ frame_line program (word_at bytes 8)) ++ lines_from program space left n) frame
    ∙ sym (next-frame program space c.loop-left.left c.loop-left.frame text bytes (omega arith) (omega arith)
    c.in_ok-bytes.ensures (omega (arith, c.len.ensures))) ∙ c.loop-left.invariant

pub returns-else-frame-ne0 : goal.returns-else-frame-ne0
returns-else-frame-ne0 c =
    let program = option_copied c.args.program in
    let space = space_in c.args.space.now in
    let none : c.loop-left.frame ≡ 0 = omega arith in
    sym (ap (λ (n : ℕ). c.loop-left.text ++ lines_from program space c.loop-left.left n) none
    ∙ no-pointer program space c.loop-left.left c.loop-left.text) ∙ c.loop-left.invariant

pub returns-after-loop-left : goal.returns-after-loop-left
returns-after-loop-left c =
    let program = option_copied c.args.program in
    let space = space_in c.args.space.now in
    let none : c.loop-left.left ≡ 0 = omega arith in
    sym (ap (λ (n : ℕ). c.loop-left.text ++ lines_from program space n c.loop-left.frame) none
    ∙ none-left program space c.loop-left.frame c.loop-left.text) ∙ c.loop-left.invariant
