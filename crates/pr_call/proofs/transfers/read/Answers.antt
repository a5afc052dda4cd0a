use Rattle.std.proofs.Common.{◌≡◌, ℕ, true, Result, OnErr, [], ◌∷◌, refl, subst, sym, ◌∙◌}
use Rattle.std.specs.Option.{ForSome}
use Rattle.pr_model.specs.Changes.{files_are, space_is}
use Rattle.pr_model.specs.FileCallRows.{read_effect}
use Rattle.pr_model.specs.State.{TracedProcess, live_process}
use Rattle.pr_call.specs.Effects.{gives_bytes}
use Rattle.pr_call.specs.declared.answers.Refusal.{Refusal}
use Rattle.pr_call.proofs.FilingLemmas.{both-done, done-outcome, found-live, lacking-kept, live-put, on_err, on_err_refl}
use Rattle.pr_call.proofs.transfers.read.Goals as goal

pub settle-requires : goal.settle-requires
settle-requires c =
    live-put c.args.sys.now c.read_into-answer.new.files c.args.pid _ _ c.get_mut-process.ensures.value refl c.requires

pub returns-clause-system : goal.returns-clause-system
returns-clause-system c p found l =
    let same = c.in_ok-answer.ensures.ok in
    c.settle.ensures.system p l
    ∙ both-done c.args.sys.now c.args.pid _ p c.args.id l c.in_ok-answer.answer
    (read_effect c.args.sys.now.files p.fds p.space c.args.fd c.args.at c.args.size) c.read_into-answer.new.files _
    c.read_into-answer.new.space c.get_mut-process.ensures.value found
    (λ same_fds same_space.
    rw (same_fds, same_space, same) (c.read_into-answer.ensures.effect (sym c.in_ok-answer.ensures.lacks)))
    (subst (λ (answer : Result ℕ Refusal). OnErr answer (c.read_into-answer.new.files ≡ c.args.sys.now.files))
    (sym same) c.read_into-answer.ensures.files) (on_err_refl c.in_ok-answer.answer _)
    (subst (λ (answer : Result ℕ Refusal).
    OnErr answer (c.read_into-answer.new.space ≡ c.get_mut-process.result.now.space))
    (sym same) c.read_into-answer.ensures.space)

pub returns-clause-outcome : goal.returns-clause-outcome
returns-clause-outcome c p found =
    let same = c.in_ok-answer.ensures.ok in
    c.settle.ensures.outcome
    ∙ done-outcome c.args.sys.now c.args.pid _ p c.in_ok-answer.answer
    (read_effect c.args.sys.now.files p.fds p.space c.args.fd c.args.at c.args.size)
    (files_are c.read_into-answer.new.files c.get_mut-process.result.now.fds ∷ space_is c.read_into-answer.new.space
    ∷ []) c.get_mut-process.ensures.value found
    (λ same_fds same_space.
    rw (same_fds, same_space, same) (c.read_into-answer.ensures.effect (sym c.in_ok-answer.ensures.lacks)))

pub returns-in_err-answer-clause-err : goal.returns-in_err-answer-clause-err
returns-in_err-answer-clause-err c =
    on_err _
    (lacking-kept c.args.sys.now c.args.pid _ c.read_into-answer.result c.read_into-answer.new.files
    c.get_mut-process.result.now.fds c.read_into-answer.new.space
    (sym c.in_err-answer.ensures.lacks) c.get_mut-process.ensures.value c.read_into-answer.ensures.files
    (on_err_refl c.read_into-answer.result _) c.read_into-answer.ensures.space)

pub returns-in_err-answer-clause-memory : goal.returns-in_err-answer-clause-memory
returns-in_err-answer-clause-memory c =
    let told : ForSome (live_process c.args.sys.now c.args.pid)
    (λ p. gives_bytes (read_effect c.args.sys.now.files p.fds p.space c.args.fd c.args.at c.args.size) ≡ true) =
    λ p found.
    subst (λ (x : TracedProcess).
    gives_bytes (read_effect c.args.sys.now.files x.fds x.space c.args.fd c.args.at c.args.size) ≡ true)
    (found-live c.args.sys.now c.args.pid _ p c.get_mut-process.ensures.value found)
    (c.read_into-answer.ensures.memory (sym c.in_err-answer.ensures.lacks)) in
    on_err _ told
