use Rattle.std.specs.Prelude.{◌||◌, ℕ, Bool, Option, List, [], ◌∷◌, codes, drop, find}
use Rattle.std.specs.Str.{bytes_eq}
use Rattle.pr_num.specs.Sets.{without_number, least_entry}
use Rattle.pr_num.specs.Tables.{entry_at}
use Rattle.pr_num.specs.declared.signals.Sig.{Sig}
use Rattle.pr_num.specs.declared.signals.Sig.TheVariants.{Hup, Int, Quit, Ill, Trap, Abrt, Emt, Fpe, Kill, Bus, Segv, Sys, Pipe, Alrm, Term, Usr1, Usr2, Cld, Pwr, Winch, Urg, Poll, Stop, Tstp, Cont, Ttin, Ttou, Vtalrm, Prof, Xcpu, Xfsz, Rt0, Rt1, Rt2, Rt3, Rt4, Rt5, Rt6, Rt7}
use Rattle.pr_num.specs.declared.signals.DefAct.{DefAct}
use Rattle.pr_num.specs.declared.signals.DefAct.TheVariants.{Die, Ignore}
use Rattle.pr_num.specs.declared.signals.DefAct.TheVariants.{Stop as StopProcess}

-- every signal, in the order of its number, which counts from 1
abbrev pub signals : List Sig
signals =
    Hup ∷ Int ∷ Quit ∷ Ill ∷ Trap ∷ Abrt ∷ Emt ∷ Fpe ∷ Kill ∷ Bus ∷ Segv ∷ Sys ∷ Pipe ∷ Alrm ∷ Term ∷ Usr1 ∷ Usr2 ∷ Cld
    ∷ Pwr ∷ Winch ∷ Urg ∷ Poll ∷ Stop ∷ Tstp ∷ Cont ∷ Ttin ∷ Ttou ∷ Vtalrm ∷ Prof ∷ Xcpu ∷ Xfsz ∷ Rt0 ∷ Rt1 ∷ Rt2 ∷ Rt3
    ∷ Rt4 ∷ Rt5 ∷ Rt6 ∷ Rt7 ∷ []

-- the number of a signal (signal.h(3HEAD))
unfoldable pub signal_number : Sig → ℕ
signal_number Hup = 1
signal_number Int = 2
signal_number Quit = 3
signal_number Ill = 4
signal_number Trap = 5
signal_number Abrt = 6
signal_number Emt = 7
signal_number Fpe = 8
signal_number Kill = 9
signal_number Bus = 10
signal_number Segv = 11
signal_number Sys = 12
signal_number Pipe = 13
signal_number Alrm = 14
signal_number Term = 15
signal_number Usr1 = 16
signal_number Usr2 = 17
signal_number Cld = 18
signal_number Pwr = 19
signal_number Winch = 20
signal_number Urg = 21
signal_number Poll = 22
signal_number Stop = 23
signal_number Tstp = 24
signal_number Cont = 25
signal_number Ttin = 26
signal_number Ttou = 27
signal_number Vtalrm = 28
signal_number Prof = 29
signal_number Xcpu = 30
signal_number Xfsz = 31
signal_number Rt0 = 32
signal_number Rt1 = 33
signal_number Rt2 = 34
signal_number Rt3 = 35
signal_number Rt4 = 36
signal_number Rt5 = 37
signal_number Rt6 = 38
signal_number Rt7 = 39

-- the name of a signal, with SIG
unfoldable pub signal_name : Sig → List ℕ
signal_name Hup = codes "SIGHUP"
signal_name Int = codes "SIGINT"
signal_name Quit = codes "SIGQUIT"
signal_name Ill = codes "SIGILL"
signal_name Trap = codes "SIGTRAP"
signal_name Abrt = codes "SIGABRT"
signal_name Emt = codes "SIGEMT"
signal_name Fpe = codes "SIGFPE"
signal_name Kill = codes "SIGKILL"
signal_name Bus = codes "SIGBUS"
signal_name Segv = codes "SIGSEGV"
signal_name Sys = codes "SIGSYS"
signal_name Pipe = codes "SIGPIPE"
signal_name Alrm = codes "SIGALRM"
signal_name Term = codes "SIGTERM"
signal_name Usr1 = codes "SIGUSR1"
signal_name Usr2 = codes "SIGUSR2"
signal_name Cld = codes "SIGCLD"
signal_name Pwr = codes "SIGPWR"
signal_name Winch = codes "SIGWINCH"
signal_name Urg = codes "SIGURG"
signal_name Poll = codes "SIGPOLL"
signal_name Stop = codes "SIGSTOP"
signal_name Tstp = codes "SIGTSTP"
signal_name Cont = codes "SIGCONT"
signal_name Ttin = codes "SIGTTIN"
signal_name Ttou = codes "SIGTTOU"
signal_name Vtalrm = codes "SIGVTALRM"
signal_name Prof = codes "SIGPROF"
signal_name Xcpu = codes "SIGXCPU"
signal_name Xfsz = codes "SIGXFSZ"
signal_name Rt0 = codes "SIGRT0"
signal_name Rt1 = codes "SIGRT1"
signal_name Rt2 = codes "SIGRT2"
signal_name Rt3 = codes "SIGRT3"
signal_name Rt4 = codes "SIGRT4"
signal_name Rt5 = codes "SIGRT5"
signal_name Rt6 = codes "SIGRT6"
signal_name Rt7 = codes "SIGRT7"

-- whether these bytes name the signal: its name, with or without SIG
abbrev pub is_named : List ℕ → Sig → Bool
is_named bytes s = bytes_eq bytes (signal_name s) || bytes_eq bytes (drop 3 (signal_name s))

-- what a signal does to a process that neither catches nor ignores it
unfoldable pub default_action : Sig → DefAct
default_action Hup = Die
default_action Int = Die
default_action Quit = Die
default_action Ill = Die
default_action Trap = Die
default_action Abrt = Die
default_action Emt = Die
default_action Fpe = Die
default_action Kill = Die
default_action Bus = Die
default_action Segv = Die
default_action Sys = Die
default_action Pipe = Die
default_action Alrm = Die
default_action Term = Die
default_action Usr1 = Die
default_action Usr2 = Die
default_action Cld = Ignore
default_action Pwr = Ignore
default_action Winch = Ignore
default_action Urg = Ignore
default_action Poll = Die
default_action Stop = StopProcess
default_action Tstp = StopProcess
default_action Cont = Ignore
default_action Ttin = StopProcess
default_action Ttou = StopProcess
default_action Vtalrm = Die
default_action Prof = Die
default_action Xcpu = Die
default_action Xfsz = Die
default_action Rt0 = Die
default_action Rt1 = Die
default_action Rt2 = Die
default_action Rt3 = Die
default_action Rt4 = Die
default_action Rt5 = Die
default_action Rt6 = Die
default_action Rt7 = Die

-- what of a set of signals an lwp can hold: all but SIGKILL and SIGSTOP (sigprocmask(2))
unfoldable pub holdable_word : ℕ → ℕ
holdable_word w = without_number (without_number w (signal_number Kill)) (signal_number Stop)

-- the signal of least number in a set, none where the set is empty
unfoldable pub least_signal : ℕ → Option Sig
least_signal w = least_entry signal_number signals w

-- the signal of a number, none where no signal has it
unfoldable pub signal_of_number : ℕ → Option Sig
signal_of_number n = entry_at signals n

-- the signal that these bytes name, none where they name none
unfoldable pub signal_of_name : List ℕ → Option Sig
signal_of_name bytes = find (is_named bytes) signals
