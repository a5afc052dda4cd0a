use Rattle.std.proofs.Common.{◌≡◌, ℕ, true, Result, OnErr, [], ◌∷◌, refl, ap, subst, sym, ◌∙◌}
use Rattle.std.specs.Option.{ForSome}
use Rattle.pr_num.specs.Files.{Descriptors}
use Rattle.pr_num.specs.Spaces.{Space}
use Rattle.pr_model.specs.Changes.{files_are}
use Rattle.pr_model.specs.FileCallRows.{open_effect}
use Rattle.pr_call.proofs.FilingLemmas.{done-outcome, files-done, found-live, lacking-kept, live-put, on_err, on_err_refl}
use Rattle.pr_call.specs.Effects.{is_granted, outcome_of}
use Rattle.pr_call.specs.FileAnswers.{answer_meant}
use Rattle.pr_model.specs.State.{TracedProcess, live_process}
use Rattle.pr_call.specs.declared.answers.Refusal.{Refusal}
use Rattle.pr_call.proofs.filing.open.Goals as goal

pub settle-requires : goal.settle-requires
settle-requires c =
    live-put c.args.sys.now c.open-answer.new.files c.args.pid _ _ c.get_mut-process.ensures.value refl c.requires.live

pub returns-clause-system : goal.returns-clause-system
returns-clause-system c p found l =
    c.settle.ensures.system p l
    ∙ files-done c.args.sys.now c.args.pid _ p c.args.id l c.in_ok-answer.answer
    (open_effect c.args.sys.now.files p.fds p.space c.args.at c.args.flags) c.open-answer.new.files
    c.open-answer.new.fds c.get_mut-process.ensures.value found
    (λ same_fds same_space.
    ap (λ (answer : Result ℕ Refusal).
    answer_meant answer (files_are c.open-answer.new.files c.open-answer.new.fds ∷ [])) c.in_ok-answer.ensures.ok
    ∙ c.open-answer.ensures.effect (sym c.in_ok-answer.ensures.lacks)
    ∙ ap (λ (ds : Descriptors).
    open_effect c.args.sys.now.files ds c.get_mut-process.result.now.space c.args.at c.args.flags) (sym same_fds)
    ∙ ap (λ (m : Space). open_effect c.args.sys.now.files p.fds m c.args.at c.args.flags) (sym same_space))
    (subst (λ (answer : Result ℕ Refusal). OnErr answer (c.open-answer.new.files ≡ c.args.sys.now.files))
    (sym c.in_ok-answer.ensures.ok) c.open-answer.ensures.files)
    (subst (λ (answer : Result ℕ Refusal). OnErr answer (c.open-answer.new.fds ≡ c.get_mut-process.result.now.fds))
    (sym c.in_ok-answer.ensures.ok) c.open-answer.ensures.fds)

pub returns-clause-outcome : goal.returns-clause-outcome
returns-clause-outcome c p found =
    c.settle.ensures.outcome
    ∙ ap (λ (answer : Result ℕ Refusal). outcome_of (answer_meant answer [])) c.in_ok-answer.ensures.ok
    ∙ done-outcome c.args.sys.now c.args.pid _ p c.open-answer.result
    (open_effect c.args.sys.now.files p.fds p.space c.args.at c.args.flags) _ c.get_mut-process.ensures.value found
    (λ same_fds same_space. c.open-answer.ensures.effect (sym c.in_ok-answer.ensures.lacks)
    ∙ ap (λ (ds : Descriptors).
    open_effect c.args.sys.now.files ds c.get_mut-process.result.now.space c.args.at c.args.flags) (sym same_fds)
    ∙ ap (λ (m : Space). open_effect c.args.sys.now.files p.fds m c.args.at c.args.flags) (sym same_space))

pub returns-in_err-answer-clause-err : goal.returns-in_err-answer-clause-err
returns-in_err-answer-clause-err c =
    on_err _
    (lacking-kept c.args.sys.now c.args.pid _ c.open-answer.result c.open-answer.new.files c.open-answer.new.fds
    c.get_mut-process.result.now.space
    (sym c.in_err-answer.ensures.lacks) c.get_mut-process.ensures.value c.open-answer.ensures.files
    c.open-answer.ensures.fds (on_err_refl c.open-answer.result _))

pub returns-in_err-answer-clause-memory : goal.returns-in_err-answer-clause-memory
returns-in_err-answer-clause-memory c =
    let told : ForSome (live_process c.args.sys.now c.args.pid)
    (λ p. is_granted (open_effect c.args.sys.now.files p.fds p.space c.args.at c.args.flags) ≡ true) =
    λ p found.
    subst (λ (x : TracedProcess).
    is_granted (open_effect c.args.sys.now.files x.fds x.space c.args.at c.args.flags) ≡ true)
    (found-live c.args.sys.now c.args.pid _ p c.get_mut-process.ensures.value found)
    (c.open-answer.ensures.memory (sym c.in_err-answer.ensures.lacks)) in
    on_err _ told
