use Rattle.std.proofs.Common.{refl, ap, sym, ◌∙◌}
use Rattle.pr_num.specs.Files.{Descriptors}
use Rattle.pr_model.specs.FileCallRows.{close_effect}
use Rattle.pr_call.proofs.FilingLemmas.{done-outcome, files-done, live-put}
use Rattle.pr_call.proofs.filing.close.Goals as goal

pub settle-requires : goal.settle-requires
settle-requires c =
    live-put c.args.sys.now c.close-answer.new.files c.args.pid _ _ c.get_mut.ensures.value refl c.requires.live

pub returns-clause-system : goal.returns-clause-system
returns-clause-system c p found l =
    c.settle.ensures.system p l
    ∙ files-done c.args.sys.now c.args.pid _ p c.args.id l c.close-answer.result
    (close_effect c.args.sys.now.files p.fds p.space c.args.fd) c.close-answer.new.files c.close-answer.new.fds
    c.get_mut.ensures.value found
    (λ same_fds same_space. c.close-answer.ensures.effect p.space
    ∙ ap (λ (ds : Descriptors). close_effect c.args.sys.now.files ds p.space c.args.fd) (sym same_fds))
    c.close-answer.ensures.files c.close-answer.ensures.fds

pub returns-clause-outcome : goal.returns-clause-outcome
returns-clause-outcome c p found =
    c.settle.ensures.outcome
    ∙ done-outcome c.args.sys.now c.args.pid _ p c.close-answer.result
    (close_effect c.args.sys.now.files p.fds p.space c.args.fd) _ c.get_mut.ensures.value found
    (λ same_fds same_space. c.close-answer.ensures.effect p.space
    ∙ ap (λ (ds : Descriptors). close_effect c.args.sys.now.files ds p.space c.args.fd) (sym same_fds))
