use Rattle.std.proofs.Common.{◌≡◌, ◌≢◌, ℕ, Bool, true, false, cond, is_ok, length, nat_le, All, List, [], Option, Some, Ok, Err, refl, ap, ◌∙◌, arith}
use Rattle.std.proofs.lemmas.List.Elements.{All-from_recursion}
use Rattle.pr_model.specs.Calls.{Answer, answer_to, controlled}
use Rattle.pr_model.specs.Changes.{with_space}
use Rattle.pr_model.specs.ControlMessages.{decoded_answer, tail_of, targeted_answer}
use Rattle.pr_model.specs.Handles.{handle_of}
use Rattle.pr_model.specs.Messages.{message_answer, agent_answer, refused, write_answer, with_agent, with_process_changed}
use Rattle.pr_model.specs.Readers.{has_lent}
use Rattle.pr_model.specs.State.{TracedProcess, TracedState, live_process}
use Rattle.pr_model.specs.declared.calls.Call.TheVariants as call
use Rattle.pr_model.specs.declared.calls.Reply.TheVariants as reply
use Rattle.pr_num.specs.Limits.{lwp_limit}
use Rattle.pr_num.specs.Messages.{bad_operand, first_message, operand_count, operands, spelling, tail_length}
use Rattle.pr_num.specs.Spaces.{bytes_for}
use Rattle.pr_num.specs.Words.{IsWord}
use Rattle.pr_num.specs.declared.errnos.Errno.{Errno}
use Rattle.pr_num.specs.declared.errnos.Errno.TheVariants.{Busy, Inval, Io, Nomem}
use Rattle.pr_num.specs.declared.messages.Message.{Message}
use Rattle.pr_num.specs.declared.messages.Message.TheVariants as message
use Rattle.pr_parts.specs.AddressSpaces.{with_bytes}
use Rattle.pr_probe.specs.AgentCode.{agent_registers}
use Rattle.pr_truss_laws.proofs.Machine.TakenLemmas.{Read, ReadsAs, ctl-is, taken-unless}
use Rattle.pr_probe_laws.proofs.Agents.LeavingRows.{exit_registers}
use Rattle.pr_probe_laws.proofs.PuttingBack.MemoryMessages.{IsWriteOf, write_bytes, writer_of}
use Rattle.pr_probe_laws.proofs.Sets.SetMessages.{still-lives}
use Rattle.pr_probe_laws.proofs.OneState.TextMessages.{spelt-reads}

-- The messages by which apfiles hides something, as they are read and answered.

pub exit-words : All IsWord exit_registers
unfolding agent_registers
exit-words =
    All-from_recursion IsWord exit_registers (
      omega arith,
      (
        omega arith,
        (
          omega arith,
          (
            omega arith,
            (
              omega arith,
              (
                omega arith,
                (
                  omega arith,
                  (omega arith, (omega arith, (omega arith, (omega arith, tt)))),
                ),
              ),
            ),
          ),
        ),
      ),
    )

pub exit-reads : ReadsAs (message.Sreg exit_registers) (first_message (spelling (message.Sreg exit_registers) []))
unfolding operands operand_count bad_operand tail_length agent_registers
exit-reads = spelt-reads (message.Sreg exit_registers) exit-words refl refl refl

module _ (s : TracedState) (k c pid : ℕ) (a : Answer) (stands : handle_of s.opens k c ≡ Some (writer_of k pid))
    (granted : (e : Errno) → a.reply ≢ reply.Fail e) where
  -- a message that was not refused was read
  pub record IsRead (m : Message) (bytes : List ℕ) : Type 0 where
    pub process : TracedProcess
    pub live : live_process s.system pid ≡ Some process
    pub len : ℕ
    pub read : first_message bytes ≡ Ok (m, len)

  pub was-read : (bytes : List ℕ) (m : Message) → ReadsAs m (first_message bytes)
      → answer_to s k (call.Ctl c bytes) ≡ Some a → IsRead m bytes
  was-read bytes m reads given =
      let lives = still-lives s k c pid a stands granted bytes given in
      by lives.process lives.live (first_message bytes) refl reads
      (ctl-is s k c (writer_of k pid) stands refl bytes a given
      ∙ ap (λ (o : Option TracedProcess). controlled s (targeted_answer s.system (writer_of k pid) o bytes)) lives.live)
    where
      by : (p : TracedProcess) → live_process s.system pid ≡ Some p → (r : Read) → first_message bytes ≡ r
          → ReadsAs m r → a ≡ controlled s (decoded_answer s.system (writer_of k pid) p bytes r) → IsRead m bytes
      by p live (Err fault) read same is = absurd (granted Inval (ap (λ (x : Answer). x.reply) is))
      by p live (Ok first) read same is = record {
        process = p;
        live = live;
        len = first.1;
        read = read ∙ ap (λ (n : Message). Ok (n, first.1)) same;
      }

  -- ---- what is written, and an agent that is made, are answered so

  abbrev IsUsed : Type 0
  IsUsed = (n : ℕ) × (a.reply ≡ reply.Used n)

  pub write-used : (at : ℕ) (bytes : List ℕ) → IsWriteOf at bytes
      → answer_to s k (call.Ctl c (write_bytes at bytes)) ≡ Some a → IsUsed
  unfolding message_answer write_answer
  write-used at bytes writes given =
      let lives = still-lives s k c pid a stands granted (write_bytes at bytes) given in
      let t =
      taken-unless s k c (writer_of k pid) stands refl lives.process lives.live (write_bytes at bytes)
      (message.Write at (length bytes)) a writes.reads given granted in
      by lives.process t.len (tail_of (message.Write at (length bytes)) (write_bytes at bytes)) (has_lent lives.process)
      (is_ok (bytes_for 0 lives.process.space at
      (length (tail_of (message.Write at (length bytes)) (write_bytes at bytes))))) t.is
    where
      by : (p : TracedProcess) (len : ℕ) (tail : List ℕ) (lent mapped : Bool)
          → a ≡ controlled s
          (cond lent (refused s.system Busy)
          (cond mapped (with_process_changed s.system pid p len (with_space (with_bytes at tail p.space)))
          (refused s.system Io)))
          → IsUsed
      by p len tail true mapped is = absurd (granted Busy (ap (λ (x : Answer). x.reply) is))
      by p len tail false true is = (len, ap (λ (x : Answer). x.reply) is)
      by p len tail false false is = absurd (granted Io (ap (λ (x : Answer). x.reply) is))

  pub agent-used : (bytes regs : List ℕ) → ReadsAs (message.Agent regs) (first_message bytes)
      → answer_to s k (call.Ctl c bytes) ≡ Some a → IsUsed
  unfolding message_answer agent_answer
  agent-used bytes regs reads given =
      let lives = still-lives s k c pid a stands granted bytes given in
      let t =
      taken-unless s k c (writer_of k pid) stands refl lives.process lives.live bytes (message.Agent regs) a reads given
      granted in
      by lives.process t.len (has_lent lives.process) _ (nat_le lwp_limit (length lives.process.lwps)) t.is
    where
      by : (p : TracedProcess) (len : ℕ) (lent busy full : Bool)
          → a ≡ controlled s
          (cond lent (refused s.system Busy)
          (cond busy (refused s.system Busy)
          (cond full (refused s.system Nomem) (with_process_changed s.system pid p len (with_agent regs)))))
          → IsUsed
      by p len true busy full is = absurd (granted Busy (ap (λ (x : Answer). x.reply) is))
      by p len false true full is = absurd (granted Busy (ap (λ (x : Answer). x.reply) is))
      by p len false false true is = absurd (granted Nomem (ap (λ (x : Answer). x.reply) is))
      by p len false false false is = (len, ap (λ (x : Answer). x.reply) is)
