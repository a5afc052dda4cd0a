use Rattle.std.proofs.Common.{◌≡◌, ℕ, Bool, true, false, IfOk, Ok, Err, Result, List, [], nat_lt, length, refl, ap, ◌∙◌}
use Rattle.pr_num.specs.Messages.{first_message, message_code, message_read, nth_word, one_word, operands, spelling}
use Rattle.pr_num.specs.Messages.{two_words}
use Rattle.pr_num.specs.Words.{word_bytes, word_of}
use Rattle.pr_num.specs.declared.messages.Message.{Message}
use Rattle.pr_num.specs.declared.messages.Message.TheVariants as message
use Rattle.pr_num.specs.declared.messages.MsgFault.{MsgFault}
use Rattle.pr_truss_laws.proofs.Machine.TakenLemmas.{ReadsAs, read-as}

-- Messages that hide nothing: neither PCWRITE nor PCAGENT.

abbrev pub is_still : Message → Bool
is_still (message.Write at size) = false
is_still (message.Agent regs) = false
is_still m = true

abbrev pub BeginStill : List ℕ → Type 0
BeginStill bytes = IfOk (first_message bytes) (λ first. is_still first.0 ≡ true)

abbrev Parsed : Type 0
Parsed = Result (Message × ℕ) MsgFault

still-as : (m : Message) (r : Parsed) → is_still m ≡ true → ReadsAs m r → IfOk r (λ f. is_still f.0 ≡ true)
still-as m (Ok first) still same = ap is_still same ∙ still
still-as m (Err fault) still same = tt

pub stop-still : BeginStill (spelling message.Stop [])
unfolding message_code operands nth_word word_bytes word_of message_read
stop-still =
    still-as message.Stop (first_message (spelling message.Stop [])) refl
    (read-as (spelling message.Stop []) message.Stop refl refl)

pub wstop-reads : ReadsAs message.Wstop (first_message (spelling message.Wstop []))
unfolding message_code operands nth_word word_bytes word_of message_read
wstop-reads = read-as (spelling message.Wstop []) message.Wstop refl refl

pub wstop-still : BeginStill (spelling message.Wstop [])
wstop-still = still-as message.Wstop (first_message (spelling message.Wstop [])) refl wstop-reads

pub cfault-still : BeginStill (spelling message.Cfault [])
unfolding message_code operands nth_word word_bytes word_of message_read
cfault-still =
    still-as message.Cfault (first_message (spelling message.Cfault [])) refl
    (read-as (spelling message.Cfault []) message.Cfault refl refl)

-- one word behind the code
one-still : (make : ℕ → Message) → ((w : ℕ) → is_still (make w) ≡ true) → (bytes : List ℕ)
    → nat_lt (length bytes) 8 ≡ false → message_read (nth_word bytes 0) bytes ≡ Ok (make (nth_word bytes 1))
    → BeginStill bytes
one-still make still bytes long read =
    still-as (make (nth_word bytes 1)) (first_message bytes) (still (nth_word bytes 1))
    (read-as bytes (make (nth_word bytes 1)) long read)

pub run-still : (flags : ℕ) → BeginStill (spelling (message.Run flags) [])
unfolding message_code operands nth_word word_bytes word_of message_read one_word
run-still flags = one-still message.Run (λ w. refl) (spelling (message.Run flags) []) refl refl

pub set-still : (modes : ℕ) → BeginStill (spelling (message.Set modes) [])
unfolding message_code operands nth_word word_bytes word_of message_read one_word
set-still modes = one-still message.Set (λ w. refl) (spelling (message.Set modes) []) refl refl

pub unset-still : (modes : ℕ) → BeginStill (spelling (message.Unset modes) [])
unfolding message_code operands nth_word word_bytes word_of message_read one_word
unset-still modes = one-still message.Unset (λ w. refl) (spelling (message.Unset modes) []) refl refl

pub strace-still : (set : ℕ) → BeginStill (spelling (message.Strace set) [])
unfolding message_code operands nth_word word_bytes word_of message_read one_word
strace-still set = one-still message.Strace (λ w. refl) (spelling (message.Strace set) []) refl refl

pub sfault-still : (set : ℕ) → BeginStill (spelling (message.Sfault set) [])
unfolding message_code operands nth_word word_bytes word_of message_read one_word
sfault-still set = one-still message.Sfault (λ w. refl) (spelling (message.Sfault set) []) refl refl

pub sentry-still : (set : ℕ) → BeginStill (spelling (message.Sentry set) [])
unfolding message_code operands nth_word word_bytes word_of message_read one_word
sentry-still set = one-still message.Sentry (λ w. refl) (spelling (message.Sentry set) []) refl refl

pub sexit-still : (set : ℕ) → BeginStill (spelling (message.Sexit set) [])
unfolding message_code operands nth_word word_bytes word_of message_read one_word
sexit-still set = one-still message.Sexit (λ w. refl) (spelling (message.Sexit set) []) refl refl

pub read-still : (at size : ℕ) → BeginStill (spelling (message.Read at size) [])
unfolding message_code operands nth_word word_bytes word_of message_read two_words
read-still at size =
    let bytes : List ℕ = spelling (message.Read at size) [] in
    let m : Message = message.Read (nth_word bytes 1) (nth_word bytes 2) in
    still-as m (first_message bytes) refl (read-as bytes m refl refl)
