use Rattle.std.specs.Prelude.{ℕ, zero, suc, Bool, true, false, List, [], ◌∷◌, Option, Some, None, take, drop, replicate, slice_index, ◌+◌}
use Rattle.pr_num.specs.Control.{stopped_flag, istop_flag, dstop_flag, step_flag, asleep_flag, agent_flag, issys_flag, vforkp_flag}
use Rattle.pr_num.specs.Words.{word_of}
use Rattle.pr_num.specs.declared.files.Access.{Access}
use Rattle.pr_num.specs.declared.files.Access.TheVariants.{Read, Write, Both}
use Rattle.pr_num.specs.declared.files.Target.{Target}
use Rattle.pr_num.specs.declared.files.Target.TheVariants as target
use Rattle.pr_num.specs.declared.infos.Info.{Info}
use Rattle.pr_num.specs.declared.files.FdKind.{FdKind}
use Rattle.pr_num.specs.declared.files.FdKind.TheVariants.{File, PipeReader, PipeWriter}
use Rattle.pr_rec.specs.declared.lwp_flags.LwpMarks.{LwpMarks}
use Rattle.pr_rec.specs.declared.lwps.Disposition.{Disposition}
use Rattle.pr_rec.specs.declared.lwps.Disposition.TheVariants.{Default, Ignored, Caught}

-- How the fields of records are words.

-- the number of what a field has, 0 where it has nothing
abbrev pub number_or_zero : {T : Type 0} → (T → ℕ) → Option T → ℕ
number_or_zero number None = 0
number_or_zero number (Some x) = number x

-- a truth value
abbrev pub truth_word : Bool → ℕ
truth_word false = 0
truth_word true = 1

-- how a process disposes of a signal
abbrev pub disposition_number : Disposition → ℕ
disposition_number Default = 0
disposition_number Ignored = 1
disposition_number Caught = 2

-- what a disposition is: 0 default, 1 ignored, else the address of a handler
abbrev pub disposition_of : ℕ → Disposition
disposition_of zero = Default
disposition_of (suc zero) = Ignored
disposition_of (suc (suc n)) = Caught

-- the code, process id and value of a signal's information
abbrev pub info_words : Info → List ℕ
info_words i = i.code ∷ i.pid ∷ i.value ∷ []

-- a flag that is set or not
abbrev pub flag_if : Bool → ℕ → ℕ
flag_if false bit = 0
flag_if true bit = bit

-- the flags of an lwp with these marks
abbrev pub lwp_flags_of : LwpMarks → ℕ
lwp_flags_of m =
    flag_if m.stopped stopped_flag + flag_if m.on_event istop_flag + flag_if m.directed dstop_flag
    + flag_if m.step step_flag
    + flag_if m.asleep asleep_flag + flag_if m.agent agent_flag

-- the flags of a process: its modes, whether it is the system process, and whether it has lent its address space
abbrev pub process_flags_of : ℕ → Bool → Bool → ℕ
process_flags_of modes system lent = modes + flag_if system issys_flag + flag_if lent vforkp_flag

-- the first so many words of bytes
abbrev pub front_words : ℕ → List ℕ → List ℕ
front_words zero bytes = []
front_words (suc n) bytes = word_of (take 8 bytes) ∷ front_words n (drop 8 bytes)

-- so many words of an array of them
abbrev pub elements : ℕ → List ℕ → List ℕ
elements n xs = elements_from 0 n
  where
    elements_from : ℕ → ℕ → List ℕ
    elements_from at zero = []
    elements_from at (suc n) = slice_index xs at ∷ elements_from (at + 1) n

-- the 4 words of a field that is a name
abbrev pub name_words : List ℕ → List ℕ
name_words name = front_words 4 name
