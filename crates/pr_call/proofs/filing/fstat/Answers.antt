use Rattle.std.proofs.Common.{◌≡◌, ℕ, true, Result, OnErr, [], ◌∷◌, refl, ap, subst, sym, ◌∙◌}
use Rattle.std.specs.Option.{ForSome}
use Rattle.pr_num.specs.Files.{Descriptors}
use Rattle.pr_num.specs.Spaces.{Space}
use Rattle.pr_model.specs.Changes.{space_is}
use Rattle.pr_model.specs.FileCallRows.{fstat_effect}
use Rattle.pr_model.specs.State.{TracedProcess, live_process}
use Rattle.pr_call.specs.Effects.{outcome_of, stores_bytes}
use Rattle.pr_call.specs.FileAnswers.{answer_meant}
use Rattle.pr_call.specs.declared.answers.Refusal.{Refusal}
use Rattle.pr_call.proofs.FilingLemmas.{done-outcome, found-live, lacking-kept, live-put, on_err, on_err_refl, space-done}
use Rattle.pr_call.proofs.filing.fstat.Goals as goal

pub settle-requires : goal.settle-requires
settle-requires c =
    live-put c.args.sys.now c.args.sys.now.files c.args.pid _ _ c.get_mut-process.ensures.value refl c.requires.live

pub returns-clause-system : goal.returns-clause-system
returns-clause-system c p found l =
    c.settle.ensures.system p l
    ∙ space-done c.args.sys.now c.args.pid _ p c.args.id l c.in_ok-answer.answer
    (fstat_effect c.args.sys.now.files p.fds p.space c.args.fd c.args.at) c.fstat-answer.new.space
    c.get_mut-process.ensures.value found
    (λ same_fds same_space.
    ap (λ (answer : Result ℕ Refusal). answer_meant answer (space_is c.fstat-answer.new.space ∷ []))
    c.in_ok-answer.ensures.ok ∙ c.fstat-answer.ensures.effect (sym c.in_ok-answer.ensures.lacks)
    ∙ ap (λ (ds : Descriptors).
    fstat_effect c.args.sys.now.files ds c.get_mut-process.result.now.space c.args.fd c.args.at) (sym same_fds)
    ∙ ap (λ (m : Space). fstat_effect c.args.sys.now.files p.fds m c.args.fd c.args.at) (sym same_space))
    (subst (λ (answer : Result ℕ Refusal).
    OnErr answer (c.fstat-answer.new.space ≡ c.get_mut-process.result.now.space))
    (sym c.in_ok-answer.ensures.ok) c.fstat-answer.ensures.space)

pub returns-clause-outcome : goal.returns-clause-outcome
returns-clause-outcome c p found =
    c.settle.ensures.outcome
    ∙ ap (λ (answer : Result ℕ Refusal). outcome_of (answer_meant answer [])) c.in_ok-answer.ensures.ok
    ∙ done-outcome c.args.sys.now c.args.pid _ p c.fstat-answer.result
    (fstat_effect c.args.sys.now.files p.fds p.space c.args.fd c.args.at) _ c.get_mut-process.ensures.value found
    (λ same_fds same_space. c.fstat-answer.ensures.effect (sym c.in_ok-answer.ensures.lacks)
    ∙ ap (λ (ds : Descriptors).
    fstat_effect c.args.sys.now.files ds c.get_mut-process.result.now.space c.args.fd c.args.at) (sym same_fds)
    ∙ ap (λ (m : Space). fstat_effect c.args.sys.now.files p.fds m c.args.fd c.args.at) (sym same_space))

pub returns-in_err-answer-clause-err : goal.returns-in_err-answer-clause-err
returns-in_err-answer-clause-err c =
    on_err _
    (lacking-kept c.args.sys.now c.args.pid _ c.fstat-answer.result c.args.sys.now.files
    c.get_mut-process.result.now.fds c.fstat-answer.new.space
    (sym c.in_err-answer.ensures.lacks) c.get_mut-process.ensures.value (on_err_refl c.fstat-answer.result _)
    (on_err_refl c.fstat-answer.result _) c.fstat-answer.ensures.space)

pub returns-in_err-answer-clause-memory : goal.returns-in_err-answer-clause-memory
returns-in_err-answer-clause-memory c =
    let told : ForSome (live_process c.args.sys.now c.args.pid)
    (λ p. stores_bytes (fstat_effect c.args.sys.now.files p.fds p.space c.args.fd c.args.at) ≡ true) =
    λ p found.
    subst (λ (x : TracedProcess).
    stores_bytes (fstat_effect c.args.sys.now.files x.fds x.space c.args.fd c.args.at) ≡ true)
    (found-live c.args.sys.now c.args.pid _ p c.get_mut-process.ensures.value found)
    (c.fstat-answer.ensures.memory (sym c.in_err-answer.ensures.lacks)) in
    on_err _ told
