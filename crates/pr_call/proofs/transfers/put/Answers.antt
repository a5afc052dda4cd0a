use Rattle.pr_call.proofs.FileKeptLemmas.{lacking-file, written-keeps}
use Rattle.pr_call.proofs.TransferLemmas.{put-done, put-files, put-refused}
use Rattle.pr_call.proofs.transfers.put.Goals as goal

pub returns-in-Ok-clause-effect : goal.returns-in-Ok-clause-effect
returns-in-Ok-clause-effect c some =
    put-done c.args.files.now c.args.fds.now c.write.new.self _ c.in-Ok.count c.in-Ok.ensures

pub returns-in-Err-clause-effect : goal.returns-in-Err-clause-effect
returns-in-Err-clause-effect c some =
    put-refused c.args.files.now c.args.fds.now c.write.new.self _ c.in-Err.why some c.in-Err.ensures

pub returns-in-Err-clause-files : goal.returns-in-Err-clause-files
returns-in-Err-clause-files c =
    put-files c.args.files.now c.args.fds.now c.write.new.self c.args.fd c.args.bytes.now c.in-Err.why c.in-Err.ensures

pub returns-in-Err-clause-memory : goal.returns-in-Err-clause-memory
returns-in-Err-clause-memory c lacks =
    lacking-file c.args.files.now c.args.fds.now c.write.new.self c.args.fds.now _
    (written-keeps c.args.files.now c.args.fds.now c.args.fd c.args.bytes.now) c.in-Err.why c.in-Err.ensures lacks
