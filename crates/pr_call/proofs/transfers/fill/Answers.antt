use Rattle.std.proofs.Common.{◌≡◌, ◌∙◌, ℕ, Ok, Result, ap, arith, length}
use Rattle.std.proofs.lemmas.List.{length-take}
use Rattle.pr_model.specs.Changes.{files_are, gives, space_is}
use Rattle.pr_parts.specs.FileTransfers.{count_of, read_fd}
use Rattle.pr_parts.specs.declared.files.FileNo.{FileNo}
use Rattle.std.proofs.Common.{[], ◌∷◌}
use Rattle.pr_call.proofs.TransferLemmas.{can_write-front, fill-gave, fill-lacks, fill-refused-lacks}
use Rattle.pr_call.proofs.transfers.fill.Goals as goal

pub store-requires : goal.store-requires
store-requires c =
    can_write-front c.args.space.now c.args.at _ c.in-Ok.count c.args.buffer.now c.look.new.out c.requires.can
    c.in-Ok.ensures.answer c.in-Ok.ensures.bytes (omega arith)

pub returns-in-Err-clause-memory : goal.returns-in-Err-clause-memory
returns-in-Err-clause-memory c lacks =
    fill-refused-lacks c.args.files.now c.args.fds.now c.args.space.now c.args.fd c.args.at _ c.in-Err.why
    c.in-Err.ensures.answer lacks

pub returns-in_err-store-clause-memory : goal.returns-in_err-store-clause-memory
returns-in_err-store-clause-memory c lacks =
    let taken = length-take c.in-Ok.count c.look.new.out in
    fill-lacks c.args.files.now c.args.fds.now c.args.space.now c.args.fd c.args.at _ c.in-Ok.count
    (omega (arith, taken, c.in_err-store.ensures.some)) c.requires.readable c.requires.within c.requires.can
    c.in-Ok.ensures.answer

same_count : (r : Result ℕ FileNo) (a b : ℕ) → Ok a ≡ r → Ok b ≡ r → a ≡ b
same_count r a b p q = cc

pub returns-clause-effect : goal.returns-clause-effect
returns-clause-effect c lacks =
    let files = c.args.files.now in
    let fds = c.args.fds.now in
    let same : length c.look.new.out ≡ length c.args.buffer.now = omega arith in
    let moved : c.read.new.self ≡ (read_fd files fds c.args.fd (length c.args.buffer.now)).files =
    c.in-Ok-read.ensures.files ∙ ap (λ n. (read_fd files fds c.args.fd n).files) same in
    let again : Ok c.in-Ok-read.count ≡ count_of (read_fd files fds c.args.fd (length c.args.buffer.now)).bytes =
    c.in-Ok-read.ensures.answer ∙ ap (λ n. count_of (read_fd files fds c.args.fd n).bytes) same in
    ap (λ n. gives n (files_are c.read.new.self fds ∷ space_is c.store.new.space ∷ []))
    (same_count _ _ _ again c.in-Ok.ensures.answer)
    ∙ fill-gave files fds c.args.space.now c.args.fd c.args.at _ c.in-Ok.count c.read.new.self c.store.new.space
    c.args.buffer.now c.look.new.out c.requires.readable c.requires.within c.requires.can moved
    c.in-Ok.ensures.answer c.in-Ok.ensures.bytes c.in_ok-store.ensures.ok
