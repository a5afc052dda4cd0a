use Rattle.std.proofs.Common.{refl, ap, sym, ◌∙◌}
use Rattle.pr_num.specs.Files.{Descriptors}
use Rattle.pr_model.specs.FileCallRows.{lseek_effect}
use Rattle.pr_call.proofs.FilingLemmas.{on_err_refl, done-outcome, files-done, live-put}
use Rattle.pr_call.proofs.filing.lseek.Goals as goal

pub settle-requires : goal.settle-requires
settle-requires c =
    live-put c.args.sys.now c.lseek-answer.new.files c.args.pid _ _ c.get_mut-process.ensures.value refl c.requires.live

pub returns-clause-system : goal.returns-clause-system
returns-clause-system c p found l =
    c.settle.ensures.system p l
    ∙ files-done c.args.sys.now c.args.pid _ p c.args.id l c.lseek-answer.result
    (lseek_effect c.args.sys.now.files p.fds p.space c.args.fd c.args.offset) c.lseek-answer.new.files _
    c.get_mut-process.ensures.value found
    (λ same_fds same_space. c.lseek-answer.ensures.effect p.space
    ∙ ap (λ (ds : Descriptors). lseek_effect c.args.sys.now.files ds p.space c.args.fd c.args.offset)
    (sym same_fds)) c.lseek-answer.ensures.files (on_err_refl c.lseek-answer.result _)

pub returns-clause-outcome : goal.returns-clause-outcome
returns-clause-outcome c p found =
    c.settle.ensures.outcome
    ∙ done-outcome c.args.sys.now c.args.pid _ p c.lseek-answer.result
    (lseek_effect c.args.sys.now.files p.fds p.space c.args.fd c.args.offset) _ c.get_mut-process.ensures.value
    found (λ same_fds same_space. c.lseek-answer.ensures.effect p.space
    ∙ ap (λ (ds : Descriptors). lseek_effect c.args.sys.now.files ds p.space c.args.fd c.args.offset)
    (sym same_fds))
