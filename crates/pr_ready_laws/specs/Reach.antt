use Rattle.std.specs.Prelude.{Bool, true, false}
use Rattle.pr_num.specs.declared.syscalls.Sysno.{Sysno}
use Rattle.pr_num.specs.declared.syscalls.Sysno.TheVariants.{Fork, Vfork, Exec, Read, Write, Open, Close, Pipe, Dup, Lseek, Kill, Sigqueue}
use Rattle.pr_model.specs.declared.events.Did.{Did}
use Rattle.pr_model.specs.declared.events.Did.TheVariants.{Made, Woke, Acted}
use Rattle.pr_model.specs.declared.events.How.TheVariants.{Died}
use Rattle.pr_model.specs.declared.events.Res.{Res}
use Rattle.pr_model.specs.declared.events.Res.TheVariants.{Ended}

-- How far a turn of an lwp reaches beyond its own process, by what it did.

pub data Reach : Type 0 where
  -- no further
  itself : Reach
  -- to the files, and so to those that sleep at pipes
  to_pipes : Reach
  -- to the files, and to the processes around its own: a child that it makes, those that share its memory, its parent,
  -- and one that it sends a signal to
  around : Reach

-- the reach of a system call that is over
abbrev pub reach_of_call : Sysno → Reach
reach_of_call Read = to_pipes
reach_of_call Write = to_pipes
reach_of_call Open = to_pipes
reach_of_call Close = to_pipes
reach_of_call Pipe = to_pipes
reach_of_call Dup = to_pipes
reach_of_call Lseek = to_pipes
reach_of_call Fork = around
reach_of_call Vfork = around
reach_of_call Exec = around
reach_of_call Kill = around
reach_of_call Sigqueue = around
reach_of_call _ = itself

-- a call that ends its lwp may end its process
abbrev pub reach_of_result : Sysno → Res → Reach
reach_of_result call Ended = around
reach_of_result call _ = reach_of_call call

-- the reach of a turn
unfoldable pub reach_of : Did → Reach
reach_of (Made call result) = reach_of_result call result
reach_of (Woke call result) = reach_of_result call result
reach_of (Acted signal Died) = around
reach_of _ = itself

-- whether files may differ after a turn of this reach
abbrev pub changes_files : Reach → Bool
changes_files itself = false
changes_files to_pipes = true
changes_files around = true

-- whether processes around its own may differ
abbrev pub reaches_around : Reach → Bool
reaches_around itself = false
reaches_around to_pipes = false
reaches_around around = true
