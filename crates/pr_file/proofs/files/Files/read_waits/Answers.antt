use Rattle.std.proofs.Common.{sym, ◌∙◌}
use Rattle.pr_file.proofs.WaitLemmas.{reads-pipe}
use Rattle.pr_file.proofs.files.Files.read_waits.Goals as goal

pub returns-in-PipeReader : goal.returns-in-PipeReader
returns-in-PipeReader c most =
    c.read_pipe_waits.ensures most
    ∙ reads-pipe c.args.self.now c.args.fds.now c.args.fd most
    (c.in-Some.field-0-0, c.in-Some.file) c.in-PipeReader.pipe (sym c.in-Some.ensures.file) c.in-PipeReader.is
