use Rattle.std.proofs.Common.{◌≡◌, true, [], ◌∷◌, OnErr, subst, refl, sym, ◌∙◌}
use Rattle.std.specs.Option.{ForSome}
use Rattle.pr_model.specs.Changes.{files_are}
use Rattle.pr_model.specs.FileCallRows.{write_effect}
use Rattle.pr_model.specs.State.{TracedProcess, live_process}
use Rattle.pr_call.specs.Effects.{is_granted}
use Rattle.pr_call.proofs.FilingLemmas.{done-outcome, files-done, files-kept, found-live, live-put, on_err, on_err_refl}
use Rattle.pr_call.proofs.transfers.write.Goals as goal

pub settle-requires : goal.settle-requires
settle-requires c =
    live-put c.args.sys.now c.write_from-answer.new.files c.args.pid _ _ c.get_mut-process.ensures.value refl c.requires

pub returns-clause-system : goal.returns-clause-system
returns-clause-system c p found l =
    let same = c.in_ok-answer.ensures.ok in
    c.settle.ensures.system p l
    ∙ files-done c.args.sys.now c.args.pid _ p c.args.id l c.in_ok-answer.answer
    (write_effect c.args.sys.now.files p.fds p.space c.args.fd c.args.at c.args.size) c.write_from-answer.new.files
    _ c.get_mut-process.ensures.value found
    (λ same_fds same_space.
    rw (same_fds, same_space, same) (c.write_from-answer.ensures.effect (sym c.in_ok-answer.ensures.lacks)))
    (subst (λ a. OnErr a (c.write_from-answer.new.files ≡ c.args.sys.now.files))
    (sym same) c.write_from-answer.ensures.files) (on_err_refl c.in_ok-answer.answer _)

pub returns-clause-outcome : goal.returns-clause-outcome
returns-clause-outcome c p found =
    let same = c.in_ok-answer.ensures.ok in
    c.settle.ensures.outcome
    ∙ done-outcome c.args.sys.now c.args.pid _ p c.in_ok-answer.answer
    (write_effect c.args.sys.now.files p.fds p.space c.args.fd c.args.at c.args.size)
    (files_are c.write_from-answer.new.files c.get_mut-process.result.now.fds ∷ []) c.get_mut-process.ensures.value
    found (λ same_fds same_space.
    rw (same_fds, same_space, same) (c.write_from-answer.ensures.effect (sym c.in_ok-answer.ensures.lacks)))

pub returns-in_err-answer-clause-err : goal.returns-in_err-answer-clause-err
returns-in_err-answer-clause-err c =
    on_err _
    (files-kept c.args.sys.now c.args.pid _ c.write_from-answer.result c.write_from-answer.new.files
    c.get_mut-process.ensures.value (sym c.in_err-answer.ensures.lacks) c.write_from-answer.ensures.files)

pub returns-in_err-answer-clause-memory : goal.returns-in_err-answer-clause-memory
returns-in_err-answer-clause-memory c =
    let told : ForSome (live_process c.args.sys.now c.args.pid)
    (λ p. is_granted (write_effect c.args.sys.now.files p.fds p.space c.args.fd c.args.at c.args.size)
    ≡ true) =
    λ p found.
    subst (λ (x : TracedProcess).
    is_granted (write_effect c.args.sys.now.files x.fds x.space c.args.fd c.args.at c.args.size) ≡ true)
    (found-live c.args.sys.now c.args.pid _ p c.get_mut-process.ensures.value found)
    (c.write_from-answer.ensures.memory (sym c.in_err-answer.ensures.lacks)) in
    on_err _ told
