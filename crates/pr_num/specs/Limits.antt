use Rattle.std.specs.Prelude.{◌+◌, ◌-◌, ◌*◌, ◌^◌, ℕ}

-- How much there can be of each thing. A number that limits is written here, and nowhere else.

-- ---- the tables

-- signals, whose numbers count from 1 to this one; those up to the second number are pending once at most, and those
-- above it queue
abbrev pub signal_count : ℕ
signal_count = 39

abbrev pub standard_signal_count : ℕ
standard_signal_count = 31

abbrev pub fault_count : ℕ
fault_count = 8

abbrev pub syscall_count : ℕ
syscall_count = 31

-- the words of the sets of all of them
abbrev pub all_signals : ℕ
all_signals = 2 ^ signal_count - 1

abbrev pub all_faults : ℕ
all_faults = 2 ^ fault_count - 1

abbrev pub all_calls : ℕ
all_calls = 2 ^ syscall_count - 1

-- ---- a run

-- turns of a run, and how many there are where a scenario does not say
abbrev pub turn_limit : ℕ
turn_limit = 100000

abbrev pub default_turns : ℕ
default_turns = 10000

-- milliseconds: the clock goes on below this moment, and not from it on
abbrev pub clock_limit : ℕ
clock_limit = 2 ^ 62

abbrev pub controller_limit : ℕ
controller_limit = 64

abbrev pub worker_limit : ℕ
worker_limit = 16

-- children that the program of a generated scenario makes
abbrev pub child_limit : ℕ
child_limit = 64

-- bytes of a scenario, of one of its lines, and of all that is given to a check of a history
abbrev pub scenario_limit : ℕ
scenario_limit = 1048576

abbrev pub line_limit : ℕ
line_limit = 4096

abbrev pub checked_limit : ℕ
checked_limit = 268435456

-- `list` lines of all scripts
abbrev pub list_line_limit : ℕ
list_line_limit = 4096

-- programs of a scenario
abbrev pub program_limit : ℕ
program_limit = 256

-- processes that are made before the first turn: all that there can be but process 0
abbrev pub spawn_limit : ℕ
spawn_limit = 4095

-- turns of all schedule lines
abbrev pub schedule_limit : ℕ
schedule_limit = 100000

-- ---- processes

-- processes ever made, process 0 included
abbrev pub process_limit : ℕ
process_limit = 4096

-- lwps of a process, an agent included
abbrev pub lwp_limit : ℕ
lwp_limit = 64

-- registers of an lwp: r0 to r7, sp, fp and pc
abbrev pub register_count : ℕ
register_count = 11

-- the last id that an lwp gets which is no agent
abbrev pub last_lwp : ℕ
last_lwp = 65534

-- frames of handlers of an lwp
abbrev pub frame_limit : ℕ
frame_limit = 32

-- signals with information that queue for a process or an lwp
abbrev pub queue_limit : ℕ
queue_limit = 32

-- descriptors of a process
abbrev pub descriptor_limit : ℕ
descriptor_limit = 64

-- mapped bytes of a process, and of all live processes
abbrev pub mapping_limit : ℕ
mapping_limit = 0x100000

abbrev pub all_mappings_limit : ℕ
all_mappings_limit = 0x4000000

-- watched areas of a process
abbrev pub area_limit : ℕ
area_limit = 64

-- instructions of a program, and bytes of its data
abbrev pub code_limit : ℕ
code_limit = 4096

abbrev pub data_limit : ℕ
data_limit = 65536

-- bytes of an instruction, and of the text of a program
abbrev pub instruction_size : ℕ
instruction_size = 16

abbrev pub text_limit : ℕ
text_limit = instruction_size * code_limit

-- ---- files

abbrev pub file_limit : ℕ
file_limit = 256

abbrev pub pipe_limit : ℕ
pipe_limit = 256

-- bytes of a file, and bytes that stand in a pipe
abbrev pub file_size_limit : ℕ
file_size_limit = 65536

abbrev pub pipe_size_limit : ℕ
pipe_size_limit = 4096

-- bytes of a name of a program or a file
abbrev pub name_limit : ℕ
name_limit = 31

-- bytes of a path that a system call is given, with its zero byte
abbrev pub path_limit : ℕ
path_limit = 32

-- bytes that one system call reads or writes
abbrev pub transfer_limit : ℕ
transfer_limit = 4096

-- ---- the process files

-- open handles of all controllers
abbrev pub handle_limit : ℕ
handle_limit = 1024

-- bytes of one read of a process file
abbrev pub read_limit : ℕ
read_limit = 20480

-- bytes of a list of processes: 48 for each that there can be but process 0
abbrev pub list_limit : ℕ
list_limit = 48 * spawn_limit

-- bytes that one message reads or writes of a process's memory
abbrev pub message_bytes_limit : ℕ
message_bytes_limit = 4096

-- milliseconds that a sleep can last
abbrev pub sleep_limit : ℕ
sleep_limit = 1000000000

-- milliseconds that a wait for a stop can last
abbrev pub wait_limit : ℕ
wait_limit = 1000000000

-- ---- the lines of truss

-- bytes of a text or a buffer that a line shows
abbrev pub shown_limit : ℕ
shown_limit = 64

-- bytes that are read for them: one more tells whether there are more
abbrev pub asked_limit : ℕ
asked_limit = shown_limit + 1
