use Rattle.std.proofs.Common.{refl, ap, sym, ◌∙◌}
use Rattle.pr_num.specs.Files.{Descriptors}
use Rattle.pr_model.specs.FileCallRows.{dup_effect}
use Rattle.pr_call.proofs.FilingLemmas.{done-outcome, files-done, live-put}
use Rattle.pr_call.proofs.filing.dup.Goals as goal

pub settle-requires : goal.settle-requires
settle-requires c =
    live-put c.args.sys.now c.dup-answer.new.files c.args.pid _ _ c.get_mut.ensures.value refl c.requires.live

pub returns-clause-system : goal.returns-clause-system
returns-clause-system c p found l =
    c.settle.ensures.system p l
    ∙ files-done c.args.sys.now c.args.pid _ p c.args.id l c.dup-answer.result
    (dup_effect c.args.sys.now.files p.fds p.space c.args.fd) c.dup-answer.new.files c.dup-answer.new.fds
    c.get_mut.ensures.value found
    (λ same_fds same_space. c.dup-answer.ensures.effect p.space
    ∙ ap (λ (ds : Descriptors). dup_effect c.args.sys.now.files ds p.space c.args.fd) (sym same_fds))
    c.dup-answer.ensures.files c.dup-answer.ensures.fds

pub returns-clause-outcome : goal.returns-clause-outcome
returns-clause-outcome c p found =
    c.settle.ensures.outcome
    ∙ done-outcome c.args.sys.now c.args.pid _ p c.dup-answer.result
    (dup_effect c.args.sys.now.files p.fds p.space c.args.fd) _ c.get_mut.ensures.value found
    (λ same_fds same_space. c.dup-answer.ensures.effect p.space
    ∙ ap (λ (ds : Descriptors). dup_effect c.args.sys.now.files ds p.space c.args.fd) (sym same_fds))
