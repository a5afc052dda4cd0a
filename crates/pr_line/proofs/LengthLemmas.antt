-- How long the texts of a line are: no line is near to its limit.
use Rattle.std.proofs.Common.{◌≡◌, ℕ, ◌+◌, ◌*◌, ◌^◌, ◌<◌, ◌≤◌, cond, eqb, Bool, true, false, Option, Some, None, Ok, Err, List, [], ◌∷◌, ◌++◌, length, take, drop, get_or, ap, arith, lit≤}
use Rattle.std.proofs.lemmas.Fmt.{length-decimal-le}
use Rattle.std.proofs.lemmas.List.{drop_more, length-append}
use Rattle.std.specs.Fmt.{decimal}
use Rattle.std.specs.List.{position}
use Rattle.pr_num.specs.Errnos.{errno_number, errno_name}
use Rattle.pr_num.specs.Faults.{fault_number, fault_name}
use Rattle.pr_num.specs.Limits.{name_limit}
use Rattle.pr_num.specs.Signals.{signal_number, signal_name}
use Rattle.pr_num.specs.Syscalls.{syscall_name, syscall_args}
use Rattle.pr_num.specs.declared.errnos.Errno.{Errno}
use Rattle.pr_num.specs.declared.errnos.Errno.TheVariants.{Perm}
use Rattle.pr_num.specs.declared.faults.Flt.{Flt}
use Rattle.pr_num.specs.declared.faults.Flt.TheVariants.{Ill}
use Rattle.pr_num.specs.declared.signals.Sig.{Sig}
use Rattle.pr_num.specs.declared.signals.Sig.TheVariants.{Hup}
use Rattle.pr_num.specs.declared.syscalls.ArgKind.{ArgKind}
use Rattle.pr_num.specs.declared.syscalls.ArgKind.TheVariants.{Dec, Hex, Text, Buf}
use Rattle.pr_num.specs.declared.syscalls.Sysno.{Sysno}
use Rattle.pr_num.specs.declared.syscalls.Sysno.TheVariants.{Exit}
use Rattle.pr_rec.specs.declared.lwps.Disposition.{Disposition}
use Rattle.pr_rec.specs.declared.lwps.Disposition.TheVariants.{Default, Ignored, Caught}
use Rattle.pr_text.specs.Quotes.{quoted_text}
use Rattle.pr_text.proofs.TextLemmas.{length-decimal, length-hex_text, length-quoted_text}
use Rattle.pr_line.specs.ArgumentTexts.{Came, text_before, text_argument, bytes_argument, buffer_argument, argument_text, separator, arguments_text}
use Rattle.pr_line.specs.FunctionLines.{called_text, function_text, three_text}
use Rattle.pr_line.specs.EventLines.{prefix, call_text, result_text, disposition_text, signal_text, fault_text}
use Rattle.pr_line.specs.declared.options.Options.{Options}
use Rattle.pr_num.specs.Padding.{is_zero}

-- ---- the tables

-- no call has more than three arguments
pub few_arguments : (call : Sysno) → length (syscall_args call) ≤ 3
unfolding syscall_args
few_arguments Exit = lit≤ tt
few_arguments _ = lit≤ tt

length-syscall_name : (call : Sysno) → length (syscall_name call) ≤ 12
unfolding syscall_name
length-syscall_name Exit = lit≤ tt
length-syscall_name _ = lit≤ tt

length-disposition_text : (disposition : Disposition) → length (disposition_text disposition) ≤ 7
unfolding disposition_text
length-disposition_text Default = lit≤ tt
length-disposition_text Ignored = lit≤ tt
length-disposition_text Caught = lit≤ tt

length-signal_name : (signal : Sig) → length (signal_name signal) ≤ 9
unfolding signal_name
length-signal_name Hup = lit≤ tt
length-signal_name _ = lit≤ tt

signal_number-small : (signal : Sig) → signal_number signal ≤ 99
unfolding signal_number
signal_number-small Hup = lit≤ tt
signal_number-small _ = lit≤ tt

length-signal_number : (signal : Sig) → length (decimal (signal_number signal)) ≤ 2
length-signal_number signal =
    let small = signal_number-small signal in
    length-decimal-le 2 (signal_number signal) (omega arith) (omega arith) (omega arith)

length-fault_name : (fault : Flt) → length (fault_name fault) ≤ 9
unfolding fault_name
length-fault_name Ill = lit≤ tt
length-fault_name _ = lit≤ tt

fault_number-small : (fault : Flt) → fault_number fault ≤ 9
unfolding fault_number
fault_number-small Ill = lit≤ tt
fault_number-small _ = lit≤ tt

length-fault_number : (fault : Flt) → length (decimal (fault_number fault)) ≤ 1
length-fault_number fault =
    let small = fault_number-small fault in
    length-decimal-le 1 (fault_number fault) (omega arith) (omega arith) (omega arith)

length-errno_name : (errno : Errno) → length (errno_name errno) ≤ 7
unfolding errno_name
length-errno_name Perm = lit≤ tt
length-errno_name _ = lit≤ tt

errno_number-small : (errno : Errno) → errno_number errno ≤ 99
unfolding errno_number
errno_number-small Perm = lit≤ tt
errno_number-small _ = lit≤ tt

length-errno_number : (errno : Errno) → length (decimal (errno_number errno)) ≤ 2
length-errno_number errno =
    let small = errno_number-small errno in
    length-decimal-le 2 (errno_number errno) (omega arith) (omega arith) (omega arith)

-- ---- arguments

length-text_before : (bytes : List ℕ) (end : Option ℕ) → length (text_before bytes end) ≤ 260
length-text_before bytes None = length-quoted_text bytes true
length-text_before bytes (Some end) = length-quoted_text (take end bytes) false

length-text_argument : (text : Came) (address : ℕ) → address < 2 ^ 64 → length (text_argument text address) ≤ 260
unfolding text_argument
length-text_argument None address fits = omega (arith, length-hex_text address fits)
length-text_argument (Some came) address fits = length-text_before came.0 (position is_zero came.0)

length-bytes_argument : (text : Came) (address : ℕ) → address < 2 ^ 64 → length (bytes_argument text address) ≤ 260
length-bytes_argument None address fits = omega (arith, length-hex_text address fits)
length-bytes_argument (Some came) address fits = length-quoted_text came.0 came.1

length-choice : (b : Bool) (xs ys : List ℕ) (n : ℕ) → length xs ≤ n → length ys ≤ n → length (cond b xs ys) ≤ n
length-choice true xs ys n p q = p
length-choice false xs ys n p q = q

length-buffer_argument : (size : Option ℕ) (text : Came) (address : ℕ) → address < 2 ^ 64
    → length (buffer_argument size text address) ≤ 260
unfolding buffer_argument
length-buffer_argument None text address fits = omega (arith, length-hex_text address fits)
length-buffer_argument (Some size) text address fits =
    length-choice (eqb size 0) (quoted_text [] false) (bytes_argument text address) 260 (length-quoted_text [] false)
    (length-bytes_argument text address fits)

length-argument_text : (size : Option ℕ) (text : Came) (kind : ArgKind) (value : ℕ) → value < 2 ^ 64
    → length (argument_text size text kind value) ≤ 260
unfolding argument_text
length-argument_text size text Dec value fits = omega (arith, length-decimal value fits)
length-argument_text size text Hex value fits = omega (arith, length-hex_text value fits)
length-argument_text size text Text value fits = length-text_argument text value fits
length-argument_text size text Buf value fits = length-buffer_argument size text value fits

length-separator : (place : ℕ) → length (separator place) ≤ 2
length-separator place = length-choice (eqb place 0) [] (44 ∷ 32 ∷ []) 2 (lit≤ tt) (lit≤ tt)

-- each argument is a word
abbrev pub AreWords : List ℕ → Type 0
AreWords values = (k : ℕ) → get_or values k 0 < 2 ^ 64

length-arguments_text : (size : Option ℕ) (text : Came) (values : List ℕ) (kinds : List ArgKind) (place : ℕ)
    → AreWords values → length (arguments_text size text values kinds place) ≤ 262 * length kinds
unfolding arguments_text
length-arguments_text size text values [] place fit = omega arith
length-arguments_text size text values (kind ∷ kinds) place fit =
    let first = length-argument_text size text kind (get_or values place 0) (fit place) in
    let before = length-separator place in
    let others = length-arguments_text size text values kinds (place + 1) fit in
    simp length-append (omega (arith, first, before, others))

-- the arguments from a place on are that one and those after it
pub arguments_text-more : (size : Option ℕ) (text : Came) (values : List ℕ) (kinds : List ArgKind) (place : ℕ)
    (d : ArgKind) → place < length kinds
    → arguments_text size text values (drop place kinds) place
    ≡ separator place ++ argument_text size text (get_or kinds place d) (get_or values place 0)
    ++ arguments_text size text values (drop (place + 1) kinds) (place + 1)
unfolding arguments_text
arguments_text-more size text values kinds place d inside =
    ap (λ rest. arguments_text size text values rest place) (drop_more kinds place d inside)

-- ---- events

pub length-call_text : (call : Sysno) (values : List ℕ) (size : Option ℕ) (text : Came) → AreWords values
    → length (call_text call values size text) ≤ 800
unfolding call_text
length-call_text call values size text fit =
    let name = length-syscall_name call in
    let few = few_arguments call in
    let shown = length-arguments_text size text values (syscall_args call) 0 fit in
    simp length-append (omega (arith, name, few, shown))

pub length-result_value : (value : ℕ) → value < 2 ^ 64 → length (result_text (Ok value)) ≤ 30
unfolding result_text
length-result_value value fits = omega (arith, length-decimal value fits)

pub length-result_errno : (errno : Errno) → length (result_text (Err errno)) ≤ 30
unfolding result_text
length-result_errno errno =
    let number = length-errno_number errno in
    let name = length-errno_name errno in
    simp length-append (omega (arith, number, name))

pub length-signal_text : (signal : Sig) (disposition : Disposition) → length (signal_text signal disposition) ≤ 40
unfolding signal_text
length-signal_text signal disposition =
    let number = length-signal_number signal in
    let name = length-signal_name signal in
    let how = length-disposition_text disposition in
    simp length-append (omega (arith, number, name, how))

pub length-fault_text : (fault : Flt) (pc : ℕ) → pc < 2 ^ 64 → length (fault_text fault pc) ≤ 60
unfolding fault_text
length-fault_text fault pc fits =
    let number = length-fault_number fault in
    let name = length-fault_name fault in
    let at = length-hex_text pc fits in
    simp length-append (omega (arith, number, name, at))

pub length-prefix : (follow lwps : Bool) (pid id : ℕ) → pid < 2 ^ 64 → id < 2 ^ 64
    → length (prefix follow lwps pid id) ≤ 50
unfolding prefix
length-prefix false false pid id pid_fits id_fits = lit≤ tt
length-prefix true false pid id pid_fits id_fits = simp length-append (omega (arith, length-decimal pid pid_fits))
length-prefix false true pid id pid_fits id_fits = simp length-append (omega (arith, length-decimal id id_fits))
length-prefix true true pid id pid_fits id_fits =
    simp length-append (omega (arith, length-decimal pid pid_fits, length-decimal id id_fits))

-- ---- calls of functions

pub length-three_text : (values : List ℕ) → AreWords values → length (three_text values) ≤ 60
unfolding three_text
length-three_text values fit =
    let first = length-hex_text (get_or values 0 0) (fit 0) in
    let second = length-hex_text (get_or values 1 0) (fit 1) in
    let third = length-hex_text (get_or values 2 0) (fit 2) in
    simp length-append (omega (arith, first, second, third))

pub length-called_text : (name values : List ℕ) → length name ≤ name_limit → AreWords values
    → length (called_text name values) ≤ 100
unfolding called_text
length-called_text name values few fit =
    let shown = length-three_text values fit in
    simp length-append (omega (arith, few, shown))

pub length-function_text : (o : Options) (pid id : ℕ) (name values : List ℕ)
    → length (prefix o.follow o.lwps pid id) ≤ 50 → length name ≤ name_limit → AreWords values
    → length (function_text o pid id name values) ≤ 200
unfolding function_text
length-function_text o pid id name values before few fit =
    let called = length-called_text name values few fit in
    simp length-append (omega (arith, before, called))

pub ruleset hex_lengths = (length-hex_text)

pub ruleset lengths = (length-decimal, length-result_errno, length-signal_text, length-fault_text, length-prefix)
