use Rattle.std.proofs.Common.{◌*◌, ◌≡◌, ◌++◌, true, length, eqb, ap, ◌∙◌, arith, append_assoc}
use Rattle.std.proofs.lemmas.Bool.{eq-eqb}
use Rattle.std.proofs.lemmas.Result.{on_ok_weaker}
use Rattle.pr_num.specs.Limits.{signal_count}
use Rattle.pr_num.specs.Signals.{signals}
use Rattle.pr_rec.specs.Fields.{front_words}
use Rattle.pr_tools.specs.Psig.{psig_text, signal_lines}
use Rattle.pr_tools.specs.Texts.{header}
use Rattle.pr_tools.proofs.dispositions.push_psig.Goals as goal

pub returns : goal.returns
unfolding psig_text
returns c =
    let size : eqb (length c.args.bytes.now) (8 * signal_count) ≡ true = eq-eqb _ (8 * signal_count) (omega arith) in
    rw size (on_ok_weaker c.push_signals.result
    (λ e. e ∙ ap (λ ws. c.push_header.new.text ++ signal_lines signals ws) c.fill.ensures
    ∙ ap (λ t. t ++ signal_lines signals (front_words signal_count c.args.bytes.now)) c.in_ok-push_header.ensures
    ∙ append_assoc c.args.text.now (header c.args.pid)
    (signal_lines signals (front_words signal_count c.args.bytes.now))) c.push_signals.ensures)
