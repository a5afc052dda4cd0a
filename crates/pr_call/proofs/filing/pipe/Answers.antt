use Rattle.std.proofs.Common.{◌≡◌, ℕ, true, Result, OnErr, [], ◌∷◌, refl, ap, subst, sym, ◌∙◌}
use Rattle.std.specs.Option.{ForSome}
use Rattle.pr_num.specs.Files.{Descriptors}
use Rattle.pr_num.specs.Spaces.{Space}
use Rattle.pr_model.specs.Changes.{files_are, space_is}
use Rattle.pr_model.specs.FileCallRows.{pipe_effect}
use Rattle.pr_call.proofs.FilingLemmas.{both-done, done-outcome, found-live, lacking-kept, live-put, on_err}
use Rattle.pr_call.specs.Effects.{is_granted, outcome_of}
use Rattle.pr_call.specs.FileAnswers.{answer_meant}
use Rattle.pr_model.specs.State.{TracedProcess, live_process}
use Rattle.pr_call.specs.declared.answers.Refusal.{Refusal}
use Rattle.pr_call.proofs.filing.pipe.Goals as goal

pub settle-requires : goal.settle-requires
settle-requires c =
    live-put c.args.sys.now c.pipe-answer.new.files c.args.pid _ _ c.get_mut-process.ensures.value refl c.requires.live

pub returns-clause-system : goal.returns-clause-system
returns-clause-system c p found l =
    c.settle.ensures.system p l
    ∙ both-done c.args.sys.now c.args.pid _ p c.args.id l c.in_ok-answer.answer
    (pipe_effect c.args.sys.now.files p.fds p.space c.args.at) c.pipe-answer.new.files c.pipe-answer.new.fds
    c.pipe-answer.new.space c.get_mut-process.ensures.value found
    (λ same_fds same_space.
    ap (λ (answer : Result ℕ Refusal).
    answer_meant answer
    (files_are c.pipe-answer.new.files c.pipe-answer.new.fds ∷ space_is c.pipe-answer.new.space ∷ []))
    c.in_ok-answer.ensures.ok ∙ c.pipe-answer.ensures.effect (sym c.in_ok-answer.ensures.lacks)
    ∙ ap (λ (ds : Descriptors). pipe_effect c.args.sys.now.files ds c.get_mut-process.result.now.space c.args.at)
    (sym same_fds) ∙ ap (λ (m : Space). pipe_effect c.args.sys.now.files p.fds m c.args.at) (sym same_space))
    (subst (λ (answer : Result ℕ Refusal). OnErr answer (c.pipe-answer.new.files ≡ c.args.sys.now.files))
    (sym c.in_ok-answer.ensures.ok) c.pipe-answer.ensures.files)
    (subst (λ (answer : Result ℕ Refusal). OnErr answer (c.pipe-answer.new.fds ≡ c.get_mut-process.result.now.fds))
    (sym c.in_ok-answer.ensures.ok) c.pipe-answer.ensures.fds)
    (subst (λ (answer : Result ℕ Refusal).
    OnErr answer (c.pipe-answer.new.space ≡ c.get_mut-process.result.now.space))
    (sym c.in_ok-answer.ensures.ok) c.pipe-answer.ensures.space)

pub returns-clause-outcome : goal.returns-clause-outcome
returns-clause-outcome c p found =
    c.settle.ensures.outcome
    ∙ ap (λ (answer : Result ℕ Refusal). outcome_of (answer_meant answer [])) c.in_ok-answer.ensures.ok
    ∙ done-outcome c.args.sys.now c.args.pid _ p c.pipe-answer.result
    (pipe_effect c.args.sys.now.files p.fds p.space c.args.at) _ c.get_mut-process.ensures.value found
    (λ same_fds same_space. c.pipe-answer.ensures.effect (sym c.in_ok-answer.ensures.lacks)
    ∙ ap (λ (ds : Descriptors). pipe_effect c.args.sys.now.files ds c.get_mut-process.result.now.space c.args.at)
    (sym same_fds) ∙ ap (λ (m : Space). pipe_effect c.args.sys.now.files p.fds m c.args.at) (sym same_space))

pub returns-in_err-answer-clause-err : goal.returns-in_err-answer-clause-err
returns-in_err-answer-clause-err c =
    on_err _
    (lacking-kept c.args.sys.now c.args.pid _ c.pipe-answer.result c.pipe-answer.new.files c.pipe-answer.new.fds
    c.pipe-answer.new.space
    (sym c.in_err-answer.ensures.lacks) c.get_mut-process.ensures.value c.pipe-answer.ensures.files
    c.pipe-answer.ensures.fds c.pipe-answer.ensures.space)

pub returns-in_err-answer-clause-memory : goal.returns-in_err-answer-clause-memory
returns-in_err-answer-clause-memory c =
    let told : ForSome (live_process c.args.sys.now c.args.pid)
    (λ p. is_granted (pipe_effect c.args.sys.now.files p.fds p.space c.args.at) ≡ true) =
    λ p found.
    subst (λ (x : TracedProcess). is_granted (pipe_effect c.args.sys.now.files x.fds x.space c.args.at) ≡ true)
    (found-live c.args.sys.now c.args.pid _ p c.get_mut-process.ensures.value found)
    (c.pipe-answer.ensures.memory (sym c.in_err-answer.ensures.lacks)) in
    on_err _ told
