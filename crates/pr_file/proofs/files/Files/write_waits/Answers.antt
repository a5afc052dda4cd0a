use Rattle.std.proofs.Common.{sym, ◌∙◌}
use Rattle.pr_file.proofs.WaitLemmas.{writes-pipe}
use Rattle.pr_file.proofs.files.Files.write_waits.Goals as goal

pub returns-in-PipeReader : goal.returns-in-PipeReader
returns-in-PipeReader c bytes long =
    c.write_pipe_waits.ensures c.args.fds.now bytes long
    ∙ writes-pipe c.args.self.now c.args.fds.now bytes c.args.fd
    (c.in-Some.field-0-0, c.in-Some.file) c.in-PipeReader.pipe (sym c.in-Some.ensures.file) c.in-PipeReader.is
