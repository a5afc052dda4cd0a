-- Every word that is written is a word: it has bytes, and neither a blank nor a newline.
use Rattle.std.proofs.Common.{◌≡◌, ℕ, zero, suc, ◌/◌, ◌%◌, Bool, true, false, eqb, List, [], ◌∷◌, ◌++◌, map, codes, refl, ◌∙◌, arith}
use Rattle.std.proofs.lemmas.Bool.{and_from, false≢true}
use Rattle.std.proofs.lemmas.Bool.Decides.{nat_tests}
use Rattle.std.proofs.lemmas.List.Folds.{list_all-append}
use Rattle.std.specs.List.{list_all}
use Rattle.std.specs.Fmt.{decimal, digits, digits_onto, digit_glyph}
use Rattle.pr_num.specs.declared.errnos.Errno.{Errno}
use Rattle.pr_num.specs.declared.errnos.Errno.TheVariants.{Perm}
use Rattle.pr_num.specs.declared.faults.Flt.{Flt}
use Rattle.pr_num.specs.declared.faults.Flt.TheVariants.{Ill}
use Rattle.pr_num.specs.declared.signals.Sig.{Sig}
use Rattle.pr_num.specs.declared.signals.Sig.TheVariants.{Hup}
use Rattle.pr_num.specs.declared.syscalls.Sysno.{Sysno}
use Rattle.pr_num.specs.declared.syscalls.Sysno.TheVariants.{Exit}
use Rattle.pr_num.specs.Errnos.{errno_name}
use Rattle.pr_num.specs.Faults.{fault_name, fault_signal}
use Rattle.pr_num.specs.Signals.{signal_name}
use Rattle.pr_num.specs.Syscalls.{syscall_name}
use Rattle.pr_model.specs.declared.calls.Call.{Call}
use Rattle.pr_model.specs.declared.calls.Call.TheVariants as call
use Rattle.pr_model.specs.declared.calls.File.{File}
use Rattle.pr_model.specs.declared.calls.File.TheVariants as file
use Rattle.pr_model.specs.declared.calls.Mode.{Mode}
use Rattle.pr_model.specs.declared.calls.Mode.TheVariants as mode
use Rattle.pr_model.specs.declared.calls.Reply.{Reply}
use Rattle.pr_model.specs.declared.calls.Reply.TheVariants as reply
use Rattle.pr_model.specs.declared.events.Act.{Act}
use Rattle.pr_model.specs.declared.events.Act.TheVariants as act
use Rattle.pr_model.specs.declared.events.Actor.{Actor}
use Rattle.pr_model.specs.declared.events.Actor.TheVariants.{Controller, Lwp, Clock}
use Rattle.pr_model.specs.declared.events.Did.{Did}
use Rattle.pr_model.specs.declared.events.Did.TheVariants.{Stopped, Ran, Entered, Made, Slept, Woke, Returned, Faulted, Posted, Took, Acted}
use Rattle.pr_model.specs.declared.events.Entry.{Entry}
use Rattle.pr_model.specs.declared.events.How.{How}
use Rattle.pr_model.specs.declared.events.How.TheVariants.{Caught}
use Rattle.pr_model.specs.declared.events.Res.{Res}
use Rattle.pr_model.specs.declared.events.Res.TheVariants.{Value, Error, Ended}
use Rattle.pr_model.specs.declared.events.Turned.{Turned}
use Rattle.pr_model.specs.FileNames.{file_name, mode_name}
use Rattle.pr_text.specs.HexWords.{byte_digits, digits_of_bytes}
use Rattle.pr_plain.specs.HexWords.{hex_word}
use Rattle.pr_text.specs.LwpWords.{lwp_text}
use Rattle.pr_plain.specs.HistoryText.{actor_text, result_words, how_text, did_words, stop_words, turn_words, target_text, held_words, call_words, reply_words, act_words, entry_words}
use Rattle.pr_plain.specs.Lines.{is_word_byte, is_word, names_words, has_words}
use Rattle.pr_num.proofs.BoolLemmas.{either}

-- ---- bytes of words

record AllBytes (w : List ℕ) : Type 0 where
  each : list_all is_word_byte w ≡ true

pub record AllWords (ws : List (List ℕ)) : Type 0 where
  pub each : list_all is_word ws ≡ true

pub record IsWord (w : List ℕ) : Type 0 where
  pub is : is_word w ≡ true

no_bytes : AllBytes []
no_bytes = record { each = refl }

bytes_cons : (b : ℕ) (bs : List ℕ) → is_word_byte b ≡ true → AllBytes bs → AllBytes (b ∷ bs)
bytes_cons b bs p q = record { each = and_from (is_word_byte b) (list_all is_word_byte bs) p q.each }

bytes_append : (xs ys : List ℕ) → AllBytes xs → AllBytes ys → AllBytes (xs ++ ys)
bytes_append xs ys p q = record {
  each = list_all-append is_word_byte xs ys
      ∙ and_from (list_all is_word_byte xs) (list_all is_word_byte ys) p.each q.each;
}

-- a word has bytes of words
bytes_of : (w : List ℕ) → IsWord w → AllBytes w
bytes_of [] h = no_bytes
bytes_of (b ∷ bs) h = record { each = h.is }

-- bytes of words are a word, where there are any
word_of : (b : ℕ) (bs : List ℕ) → AllBytes (b ∷ bs) → IsWord (b ∷ bs)
word_of b bs h = record { is = h.each }

word_behind : (b : ℕ) (bs : List ℕ) → is_word_byte b ≡ true → AllBytes bs → IsWord (b ∷ bs)
word_behind b bs p q = word_of b bs (bytes_cons b bs p q)

-- a word with more bytes of words behind it is one
word_append : (xs ys : List ℕ) → IsWord xs → AllBytes ys → IsWord (xs ++ ys)
word_append [] ys p q = record { is = absurd (false≢true p.is) }
word_append (x ∷ xs) ys p q = word_of x (xs ++ ys) (bytes_append (x ∷ xs) ys (bytes_of (x ∷ xs) p) q)

none : AllWords []
none = record { each = refl }

words_cons : (w : List ℕ) (ws : List (List ℕ)) → IsWord w → AllWords ws → AllWords (w ∷ ws)
words_cons w ws p q = record { each = and_from (is_word w) (list_all is_word ws) p.is q.each }

words_append : (xs ys : List (List ℕ)) → AllWords xs → AllWords ys → AllWords (xs ++ ys)
words_append xs ys p q = record {
  each = list_all-append is_word xs ys ∙ and_from (list_all is_word xs) (list_all is_word ys) p.each q.each;
}

one : (w : List ℕ) → IsWord w → AllWords (w ∷ [])
one w p = words_cons w [] p none

pub two : (v w : List ℕ) → IsWord v → IsWord w → AllWords (v ∷ w ∷ [])
two v w p q = words_cons v (w ∷ []) p (one w q)

three : (u v w : List ℕ) → IsWord u → IsWord v → IsWord w → AllWords (u ∷ v ∷ w ∷ [])
three u v w o p q = words_cons u (v ∷ w ∷ []) o (two v w p q)

-- ---- numbers

glyph_byte : (n : ℕ) → is_word_byte (digit_glyph false n) ≡ true
glyph_byte n = grind (arith, nat_tests)

digit_byte : (n : ℕ) → is_word_byte (digit_glyph false (n % 10)) ≡ true
digit_byte n = glyph_byte (n % 10)

decimal_from : (k n : ℕ) (acc : List ℕ) → AllBytes acc → IsWord (digits_onto (suc k) 10 false n acc)
decimal_from zero n acc h =
    let front : IsWord (digit_glyph false (n % 10) ∷ acc) =
    word_behind (digit_glyph false (n % 10)) acc (digit_byte n) h in
    either (λ w. IsWord w) (eqb (n / 10) 0) (digit_glyph false (n % 10) ∷ acc)
    (digit_glyph false (n % 10) ∷ acc) front front
decimal_from (suc k) n acc h =
    let more : AllBytes (digit_glyph false (n % 10) ∷ acc) =
    bytes_cons (digit_glyph false (n % 10)) acc (digit_byte n) h in
    either (λ w. IsWord w) (eqb (n / 10) 0) (digit_glyph false (n % 10) ∷ acc)
    (digits_onto (suc k) 10 false (n / 10) (digit_glyph false (n % 10) ∷ acc))
    (word_of (digit_glyph false (n % 10)) acc more)
    (decimal_from k (n / 10) (digit_glyph false (n % 10) ∷ acc) more)

pub decimal_word : (n : ℕ) → IsWord (decimal n)
unfolding digits
decimal_word n = decimal_from 63 n [] no_bytes

decimals : (ns : List ℕ) → AllWords (map decimal ns)
decimals [] = none
decimals (n ∷ ns) = words_cons (decimal n) (map decimal ns) (decimal_word n) (decimals ns)

-- ---- hex

digits_bytes : (bs : List ℕ) → AllBytes (digits_of_bytes bs)
unfolding byte_digits
digits_bytes [] = no_bytes
digits_bytes (b ∷ bs) =
    bytes_cons (digit_glyph false (b / 16)) (digit_glyph false (b % 16) ∷ digits_of_bytes bs) (glyph_byte (b / 16))
    (bytes_cons (digit_glyph false (b % 16)) (digits_of_bytes bs) (glyph_byte (b % 16)) (digits_bytes bs))

bytes_word : (bs : List ℕ) → IsWord (hex_word bs)
unfolding hex_word byte_digits
bytes_word [] = record { is = refl }
bytes_word (b ∷ bs) = record { is = (digits_bytes (b ∷ bs)).each }

-- ---- names

syscall_word : (c : Sysno) → IsWord (syscall_name c)
unfolding syscall_name
syscall_word Exit = record { is = refl }
syscall_word _ = record { is = refl }

errno_word : (e : Errno) → IsWord (errno_name e)
unfolding errno_name
errno_word Perm = record { is = refl }
errno_word _ = record { is = refl }

fault_word : (f : Flt) → IsWord (fault_name f)
unfolding fault_name
fault_word Ill = record { is = refl }
fault_word _ = record { is = refl }

signal_word : (s : Sig) → IsWord (signal_name s)
unfolding signal_name
signal_word Hup = record { is = refl }
signal_word _ = record { is = refl }

file_word : (f : File) → IsWord (file_name f)
unfolding file_name
file_word file.Ctl = record { is = refl }
file_word _ = record { is = refl }

mode_word : (m : Mode) → IsWord (mode_name m)
unfolding mode_name
mode_word mode.Read = record { is = refl }
mode_word _ = record { is = refl }

how_word : (how : How) → IsWord (how_text how)
unfolding how_text
how_word Caught = record { is = refl }
how_word _ = record { is = refl }

-- a word that is typed, before others
headed : (w : List ℕ) (ws : List (List ℕ)) → is_word w ≡ true → AllWords ws → AllWords (w ∷ ws)
headed w ws h others = words_cons w ws (record { is = h }) others

-- ---- actors and turns

lwp_word : (p l : ℕ) → IsWord (lwp_text p l)
unfolding lwp_text
lwp_word p l =
    word_append (decimal p ++ codes "/") (decimal l)
    (word_append (decimal p) (codes "/") (decimal_word p) (record { each = refl }))
    (bytes_of (decimal l) (decimal_word l))

actor_word : (a : Actor) → IsWord (actor_text a)
unfolding actor_text
actor_word (Controller k) = word_behind 99 (decimal k) refl (bytes_of (decimal k) (decimal_word k))
actor_word (Lwp p l) = lwp_word p l
actor_word Clock = record { is = refl }

result_all : (r : Res) → AllWords (result_words r)
unfolding result_words
result_all (Value n) = headed (codes "=") _ refl (one (decimal n) (decimal_word n))
result_all (Error e) = one (errno_name e) (errno_word e)
result_all Ended = none

did_all : (d : Did) → AllWords (did_words d)
unfolding did_words
did_all Stopped = record { each = refl }
did_all Ran = record { each = refl }
did_all (Entered c) = headed (codes "entered") _ refl (one _ (syscall_word c))
did_all (Made c r) =
    words_append (codes "made" ∷ syscall_name c ∷ []) (result_words r)
    (headed (codes "made") _ refl (one _ (syscall_word c))) (result_all r)
did_all (Slept c) = headed (codes "slept") _ refl (one _ (syscall_word c))
did_all (Woke c r) =
    words_append (codes "woke" ∷ syscall_name c ∷ []) (result_words r)
    (headed (codes "woke") _ refl (one _ (syscall_word c))) (result_all r)
did_all (Returned c) = headed (codes "returned") _ refl (one _ (syscall_word c))
did_all (Faulted f) = headed (codes "faulted") _ refl (one _ (fault_word f))
did_all (Posted f) = headed (codes "posted") _ refl (two _ _ (fault_word f) (signal_word (fault_signal f)))
did_all (Took s) = headed (codes "took") _ refl (one _ (signal_word s))
did_all (Acted s how) = headed (codes "acted") _ refl (two _ _ (signal_word s) (how_word how))

stop_all : (stop : Bool) → AllWords (stop_words stop)
unfolding stop_words
stop_all true = record { each = refl }
stop_all false = none

turn_all : (t : Turned) → AllWords (turn_words t)
unfolding turn_words
turn_all t = words_append (did_words t.did) (stop_words t.stop) (did_all t.did) (stop_all t.stop)

-- ---- calls and replies

target_word : (p l : ℕ) → IsWord (target_text p l)
unfolding target_text
target_word p l =
    either (λ w. IsWord w) (eqb l 0) (decimal p) (lwp_text p l) (decimal_word p) (lwp_word p l)

held_all : (held : Bool) → AllWords (held_words held)
unfolding held_words
held_all true = record { each = refl }
held_all false = none

numbered : (w : List ℕ) (n : ℕ) → is_word w ≡ true → AllWords (w ∷ decimal n ∷ [])
numbered w n h = headed w (decimal n ∷ []) h (one (decimal n) (decimal_word n))

call_all : (c : Call) → names_words c ≡ true → AllWords (call_words c)
unfolding call_words names_words
call_all (call.Open p l f m) h =
    headed (codes "open") _ refl (three _ _ _ (target_word p l) (file_word f) (mode_word m))
call_all (call.Close n) h = numbered (codes "close") n refl
call_all (call.Ctl n bytes) h = headed (codes "ctl") _ refl (two _ _ (decimal_word n) (bytes_word bytes))
call_all (call.CtlWait n until bytes) h =
    headed (codes "ctlwait") _ refl (three _ _ _ (decimal_word n) (decimal_word until) (bytes_word bytes))
call_all (call.Read n at len) h =
    headed (codes "read") _ refl (three _ _ _ (decimal_word n) (decimal_word at) (decimal_word len))
call_all (call.Poll ns) h = headed (codes "poll") _ refl (decimals ns)
call_all (call.Interrupt k) h = numbered (codes "interrupt") k refl
call_all (call.Spawn program held) h =
    headed (codes "spawn") _ refl (words_cons program (held_words held) (record { is = h }) (held_all held))
call_all (call.Kill p s) h = headed (codes "kill") _ refl (two _ _ (decimal_word p) (decimal_word s))
call_all (call.Until n) h = numbered (codes "until") n refl
call_all call.List h = record { each = refl }

reply_all : (r : Reply) → AllWords (reply_words r)
unfolding reply_words
reply_all (reply.Handle n) = numbered (codes "handle") n refl
reply_all reply.Done = record { each = refl }
reply_all (reply.Used n) = numbered (codes "used") n refl
reply_all (reply.Half n) = numbered (codes "half") n refl
reply_all (reply.Bytes bytes) = headed (codes "bytes") _ refl (one _ (bytes_word bytes))
reply_all (reply.Pid n) = numbered (codes "pid") n refl
reply_all (reply.Ready n) = numbered (codes "ready") n refl
reply_all (reply.Fail e) = headed (codes "fail") _ refl (one _ (errno_word e))

-- ---- entries

act_all : (a : Act) (who : Actor) → has_words (record { actor = who; act = a }) ≡ true → AllWords (act_words a)
unfolding act_words has_words
act_all (act.Call c r) who h =
    words_append (call_words c) (codes "->" ∷ reply_words r) (call_all c h) (headed (codes "->") _ refl (reply_all r))
act_all (act.Turn t) who h = turn_all t
act_all (act.Tick n) who h = one (decimal n) (decimal_word n)

pub entry_words-words : (n : ℕ) (e : Entry) → has_words e ≡ true → list_all is_word (entry_words n e) ≡ true
unfolding entry_words
entry_words-words n e h =
    (words_cons (decimal n) (actor_text e.actor ∷ act_words e.act) (decimal_word n)
    (words_cons (actor_text e.actor) (act_words e.act) (actor_word e.actor) (act_all e.act e.actor h))).each

pub ruleset words_of_entries = (entry_words-words)
