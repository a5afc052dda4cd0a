-- A process that truss(1) traces, and the files of it that are open (proc(4)).
use Rattle.std.specs.Prelude.{ℕ, false, Option, Some, None, is_some, if◌then◌else◌}
use Rattle.pr_model.specs.Replies.{number_of}
use Rattle.pr_truss.specs.Marks.{no_marks}
use Rattle.pr_truss.specs.declared.processes.Traced.{Traced}

-- a process of which just the control file is open
unfoldable pub newly_traced : ℕ → ℕ → Traced
newly_traced pid control =
    record {
      pid = pid;
      control = control;
      status = None;
      lstatus = None;
      memory = None;
      attached = false;
      old = 0;
      seen = false;
      marks = no_marks;
    }

-- the handle of the file that was opened last: `ctl`, `status`, `lstatus` and `as` are opened in this order
unfoldable pub last_handle : Traced → ℕ
last_handle t =
    if is_some t.memory then number_of t.memory
    else (if is_some t.lstatus then number_of t.lstatus
    else (if is_some t.status then number_of t.status else t.control))

-- the process without the file that was opened last; none where no file is left
unfoldable pub without_last : Traced → Option Traced
without_last t =
    if is_some t.memory then Some (record t { memory = None })
    else (if is_some t.lstatus then Some (record t { lstatus = None })
    else (if is_some t.status then Some (record t { status = None }) else None))
