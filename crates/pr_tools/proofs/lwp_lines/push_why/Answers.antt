use Rattle.std.proofs.Common.{◌≡◌, ◌++◌, Option, sym, subst}
use Rattle.std.specs.Result.{OnOk}
use Rattle.pr_num.specs.declared.stop_reasons.StopReason.{StopReason}
use Rattle.pr_tools.specs.Pflags.{stop_text}
use Rattle.pr_tools.proofs.FieldLemmas.{reason_back}
use Rattle.pr_tools.proofs.lwp_lines.push_why.Goals as goal

pub returns : goal.returns
returns c =
    let P : Option StopReason → Type 0 =
    λ why. OnOk c.push_stop.result (c.push_stop.new.text ≡ c.args.text.now ++ stop_text why c.args.lwp.now.what) in
    subst P (sym (reason_back c.args.lwp.now.why)) c.push_stop.ensures
