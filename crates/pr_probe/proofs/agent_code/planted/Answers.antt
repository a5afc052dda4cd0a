use Rattle.std.proofs.Common.{refl}
use Rattle.pr_num.specs.Instructions.{fields_of}
use Rattle.pr_num.specs.Syscalls.{syscall_number}
use Rattle.pr_num.specs.Words.{word_bytes}
use Rattle.pr_probe.specs.AgentCode.{planted}
use Rattle.pr_probe.proofs.agent_code.planted.Goals as goal

pub returns : goal.returns
unfolding planted fields_of syscall_number word_bytes
returns c =
    rw (c.copy_from_slice.ensures.after, c.copy_from_slice-2.ensures.after, c.encode.ensures, c.encode-2.ensures) refl
