use Rattle.std.specs.Prelude.{ℕ}
use Rattle.pr_num.specs.declared.infos.Info.{Info}

-- What comes with a signal (siginfo.h(3HEAD)).

-- how a signal came: by kill(2), with a value by sigqueue(3C), from the kernel, from a fault, from a controller
abbrev pub kill_code : ℕ
kill_code = 1

abbrev pub queue_code : ℕ
queue_code = 2

abbrev pub kernel_code : ℕ
kernel_code = 3

abbrev pub fault_code : ℕ
fault_code = 4

abbrev pub controller_code : ℕ
controller_code = 5

-- no information: what stands where there is no signal
abbrev pub no_info : Info
no_info = record { code = 0; pid = 0; value = 0 }

-- sent by kill(2) by a process of this id, or from outside by none of them, whose id is 0
abbrev pub killed_by : ℕ → Info
killed_by pid = record { code = kill_code; pid = pid; value = 0 }

-- sent with a value by a process of this id
abbrev pub queued_by : ℕ → ℕ → Info
queued_by pid value = record { code = queue_code; pid = pid; value = value }

-- told by the kernel of a child of this id, which ended with this wait status
abbrev pub of_child : ℕ → ℕ → Info
of_child pid status = record { code = kernel_code; pid = pid; value = status }

-- told by the kernel of a pipe that no process reads
abbrev pub of_broken_pipe : Info
of_broken_pipe = record { code = kernel_code; pid = 0; value = 0 }

-- sent by a fault at an address
abbrev pub of_fault : ℕ → Info
of_fault address = record { code = fault_code; pid = 0; value = address }

-- sent by a controller
abbrev pub by_controller : Info
by_controller = record { code = controller_code; pid = 0; value = 0 }
