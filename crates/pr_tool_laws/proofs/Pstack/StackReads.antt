use Rattle.std.proofs.Common.{◌≡◌, ◌≢◌, ◌≤◌, ℕ, false, Option, Some, None, length, take, refl, sym, subst, ap, ◌∙◌, arith}
use Rattle.std.proofs.lemmas.Option.{none-some, same_Some}
use Rattle.pr_model.specs.Calls.{Answer, answer_to, answered}
use Rattle.pr_model.specs.ControlMessages.{targeted_answer}
use Rattle.pr_model.specs.Handles.{handle_of, is_control}
use Rattle.pr_model.specs.Messages.{message_answer}
use Rattle.pr_model.specs.Reads.{file_read, file_reply, mapped_from, of_process, part_read, read_process, unless_none}
use Rattle.pr_model.specs.Readers.{space_seen, space_shown}
use Rattle.pr_model.specs.Records.{lstatus_of}
use Rattle.pr_model.specs.Replies.{until_in}
use Rattle.pr_model.specs.State.{Places, TracedProcess, TracedState, TracedSystem, live_process}
use Rattle.pr_model.specs.Stops.{with_all_directed}
use Rattle.pr_model.specs.declared.calls.Call.TheVariants as call
use Rattle.pr_model.specs.declared.calls.File.TheVariants as file
use Rattle.pr_model.specs.declared.calls.Mode.TheVariants as mode
use Rattle.pr_model.specs.declared.calls.Reply.{Reply}
use Rattle.pr_model.specs.declared.calls.Reply.TheVariants as reply
use Rattle.pr_model.specs.declared.handles.Held.{Held}
use Rattle.pr_model.specs.declared.tools.ToolKind.TheVariants.{Pstack}
use Rattle.pr_num.specs.Limits.{read_limit}
use Rattle.pr_num.specs.declared.errnos.Errno.{Errno}
use Rattle.pr_num.specs.declared.errnos.Errno.TheVariants.{Noent}
use Rattle.pr_num.specs.declared.messages.Message.TheVariants as message
use Rattle.pr_rec.specs.RecordBytes.{lstatus_bytes}
use Rattle.pr_tools.specs.Steps.{record_room}
use Rattle.pr_tools.specs.Calls.{short_read, stop_bytes}
use Rattle.pr_tool_laws.proofs.Records.ReadBackLemmas.{lwps-length}
use Rattle.pr_tool_laws.proofs.Records.ReadTextLemmas.{whole-read}
use Rattle.pr_tool_laws.proofs.Stages.ReaderLemmas.{handle-read}
use Rattle.pr_tool_laws.proofs.Pstack.StackHalts.{HaltsWith}
use Rattle.pr_tool_laws.proofs.OwnFiles.StandingLemmas.{Stands}
use Rattle.pr_tool_laws.specs.OneState.{AreLwpsRead}
use Rattle.pr_truss_laws.proofs.Machine.FrameLemmas.{memory-self}
use Rattle.pr_truss_laws.proofs.Files.OpensLemmas.{Opens, held_by, own-free, own-mine, own-other, own-set}
use Rattle.pr_truss_laws.proofs.EventStops.OwnTurnLemmas.{all-directed}
use Rattle.pr_truss_laws.proofs.Machine.TakenLemmas.{ctl-is, stop-directs, stop-reads, taken-unless}
use Rattle.pr_truss_laws.specs.Stills.{IsHalting, KeepsMemory}

-- What the machine answers to the calls of pstack: to its opens, to its request to stop, and to its reads.

-- ---- its files

abbrev pub control_of : ℕ → ℕ → Held
control_of k pid = held_by k pid 0 file.Ctl mode.WriteExcl

abbrev pub status_of : ℕ → ℕ → Held
status_of k pid = held_by k pid 0 file.Lstatus mode.Read

abbrev pub memory_of : ℕ → ℕ → Held
memory_of k pid = held_by k pid 0 file.Mem mode.Read

-- ---- a handle more

module _ (s : TracedState) (k : ℕ) (held : Held) (own : held.controller ≡ k) (r : Reply) (opens : Places)
    (granted : Opens s k held r opens) where
  pub new-stands : handle_of opens k granted.place ≡ Some held
  new-stands =
      ap (λ (x : Places). handle_of x k granted.place) granted.is
      ∙ own-set s.opens k granted.place (Some held) None granted.free ∙ own-mine k held own

  pub old-stands : (number : ℕ) (old : Held) → handle_of s.opens k number ≡ Some old
      → handle_of opens k number ≡ Some old
  old-stands number old stands =
      let apart : granted.place ≢ number =
      λ same. none-some old (sym (own-free s.opens k granted.place granted.free) ∙ ap (handle_of s.opens k) same
      ∙ stands) in
      ap (λ (x : Places). handle_of x k number) granted.is ∙ own-other s.opens k granted.place number (Some held) apart
      ∙ stands

-- ---- a process that halts

-- it is as it is here
pub halts-here : (pid : ℕ) (p : TracedProcess) (s : TracedSystem) → live_process s pid ≡ Some p → IsHalting p
    → HaltsWith pid p s
halts-here pid p s live halting = record {
  each = λ q there.
      subst (λ (x : TracedProcess). IsHalting x × KeepsMemory p x) (same_Some p q (sym live ∙ there))
      (halting, memory-self p);
}

-- ---- a request to stop

-- Where it is not refused, the process does nothing but stop from then on, and the wait for it has no end of its own.
pub stop-halts : (s : TracedState) (k c pid : ℕ) (a : Answer) → handle_of s.opens k c ≡ Some (control_of k pid)
    → answer_to s k (call.Ctl c stop_bytes) ≡ Some a → ((e : Errno) → a.reply ≢ reply.Fail e)
    → ((was : TracedProcess) × HaltsWith pid was a.state.system) × (until_in a.reply ≡ 0)
unfolding message_answer until_in
stop-halts s k c pid a stands given accepted = by (live_process s.system pid) refl
  where
    by : (o : Option TracedProcess) → live_process s.system pid ≡ o
        → ((was : TracedProcess) × HaltsWith pid was a.state.system) × (until_in a.reply ≡ 0)
    by None none =
        absurd (accepted Noent
        (ap (λ (x : Answer). x.reply) (ctl-is s k c (control_of k pid) stands refl stop_bytes a given)
        ∙ ap (λ (o : Option TracedProcess).
        (targeted_answer s.system (control_of k pid) o stop_bytes).reply) none))
    by (Some p) live =
        let later = stop-directs s k c (control_of k pid) stands refl p live a given accepted in
        let halts : HaltsWith pid (with_all_directed p) a.state.system =
        halts-here pid (with_all_directed p) a.state.system later (all-directed p) in
        let taken =
        taken-unless s k c
        (control_of k pid) stands refl p live stop_bytes message.Stop a stop-reads given accepted in
        ((with_all_directed p, halts), ap (λ (x : Answer). until_in x.reply) taken.is)

-- ---- a read

-- of a file that is no control file
pub read-answer : (s : TracedState) (number from len : ℕ) (held : Held) (a : Answer) → is_control held.file ≡ false
    → Stands s.opens number held → answer_to s held.controller (call.Read number from len) ≡ Some a
    → a ≡ answered s (file_read s.system held.pid held.lwp from len held.file)
unfolding answer_to
read-answer s number from len held a plain stands given =
    sym (same_Some _ a given) ∙ ap (answered s) (handle-read s number from len held plain stands)

module _ (s : TracedSystem) (pid : ℕ) where
  pub status-gone : live_process s pid ≡ None → file_read s pid 0 0 read_limit file.Lstatus ≡ reply.Fail Noent
  unfolding file_read read_process
  status-gone none = ap (of_process s pid 0 0 read_limit file.Lstatus) none

  pub status-there : (p : TracedProcess) → live_process s pid ≡ Some p
      → file_read s pid 0 0 read_limit file.Lstatus ≡ reply.Bytes
      (part_read (lstatus_bytes (lstatus_of p)) 0 read_limit)
  unfolding file_read read_process file_reply
  status-there p live = ap (of_process s pid 0 0 read_limit file.Lstatus) live

  pub memory-gone : (from : ℕ) → live_process s pid ≡ None
      → file_read s pid 0 from short_read file.Mem ≡ reply.Fail Noent
  unfolding file_read read_process
  memory-gone from none = ap (of_process s pid 0 from short_read file.Mem) none

  pub memory-there : (from : ℕ) (p : TracedProcess) → live_process s pid ≡ Some p
      → file_read s pid 0 from short_read file.Mem ≡ unless_none (mapped_from (space_seen s p) from short_read)
  unfolding file_read read_process file_reply
  memory-there from p live = ap (of_process s pid 0 from short_read file.Mem) live

-- who has lent nothing shows his own memory
pub own-seen : (s : TracedSystem) (p : TracedProcess) → p.borrower ≡ None → space_seen s p ≡ p.space
own-seen s p none = ap (λ (o : Option ℕ). space_shown s s.made o p.space) none

-- one read has the status of all lwps
pub status-whole : (p : TracedProcess) → AreLwpsRead p
    → take read_limit (part_read (lstatus_bytes (lstatus_of p)) 0 read_limit) ≡ lstatus_bytes (lstatus_of p)
unfolding record_room
status-whole p are =
    let size = lwps-length 0 (lstatus_of p) are.few are.fields in
    let few = are.few in
    let fits : length (lstatus_bytes (lstatus_of p)) ≤ read_limit = omega arith in
    whole-read Pstack (lstatus_bytes (lstatus_of p)) fits fits
