use Rattle.std.proofs.Common.{◌≡◌, ◌==◌, ◌||◌, ℕ, Bool, true, false, not, Option, Some, None, List, [], Result, Ok, Err, cond, is_some, take, ap, arith, refl, sym, subst, ◌∙◌}
use Rattle.std.specs.List.{All}
use Rattle.std.proofs.lemmas.List.Elements.{All-nil, All-take}
use Rattle.std.proofs.lemmas.Option.{same_Some}
use Rattle.pr_lawful.proofs.LawfulTurns.EndLemmas.{found-live}
use Rattle.pr_model.specs.Calls.{Answer, answer_to, controlled}
use Rattle.pr_model.specs.ControlMessages.{aim_of, control_answer, control_handle, decoded_answer, held_answer, still_there, system_refusal, tail_of, target_of, targeted_answer}
use Rattle.pr_model.specs.Handles.{handle_of, is_of_lwp}
use Rattle.pr_model.specs.Messages.{message_answer, read_answer, read_of, refused}
use Rattle.pr_model.specs.Readers.{space_seen}
use Rattle.pr_model.specs.Replies.{bytes_in, number_of, until_in}
use Rattle.pr_model.specs.State.{TracedProcess, TracedState, TracedSystem, live_process, lwp_of}
use Rattle.pr_model.specs.declared.calls.Call.{Call}
use Rattle.pr_model.specs.declared.calls.Call.TheVariants as call
use Rattle.pr_model.specs.declared.calls.Reply.{Reply}
use Rattle.pr_model.specs.declared.calls.Reply.TheVariants as reply
use Rattle.pr_model.specs.declared.handles.Held.{Held}
use Rattle.pr_num.specs.Layout.{stack_base, text_base}
use Rattle.pr_num.specs.Messages.{bad_operand, encoded_length, first_message, in_columns, message_code, message_read, nth_word, operand_count, operands, spelling, tail_length, two_words, unpadded_length, with_tail}
use Rattle.pr_num.specs.Spaces.{bytes_for}
use Rattle.pr_num.specs.Words.{IsByte, IsWord, word_bytes, word_of}
use Rattle.pr_num.specs.declared.errnos.Errno.{Errno}
use Rattle.pr_num.specs.declared.mappings.BadByte.{BadByte}
use Rattle.pr_num.specs.declared.messages.Message.TheVariants as message
use Rattle.pr_num.specs.declared.files.FdKind.{FdKind}
use Rattle.pr_probe.proofs.FedLemmas.{advanced-kept, answer-by, fed-by, kind-kept, map-by, next-kept, poll-by}
use Rattle.pr_probe.specs.AgentCode.{code_size, stack_size}
use Rattle.pr_probe.specs.DescriptorLines.{kind_in}
use Rattle.pr_probe.specs.ProbeStages.{way_out}
use Rattle.pr_probe.specs.Probes as probes
use Rattle.pr_probe.specs.Probes.{ProbeState}
use Rattle.pr_probe.specs.declared.probe_stages.AskingStep.TheVariants as asking
use Rattle.pr_probe.specs.declared.probe_stages.ProbeFile.TheVariants as probe_file
use Rattle.pr_probe.specs.declared.probe_stages.ProbeStage.{ProbeStage}
use Rattle.pr_probe.specs.declared.probe_stages.ProbeStage.TheVariants as stage
use Rattle.pr_reached.proofs.RecordsInRange.EntryRanges.{seen-range}
use Rattle.pr_reached.proofs.StatesInRange.MemoryRanges.{AreBytesRead, bytes-read}
use Rattle.pr_reached.specs.InRange.{IsInRange}
use Rattle.pr_tools.specs.Replies.{bytes_read}
use Rattle.pr_tools.specs.Stacks.{process_stands}

-- What a probe saves of the memory of a process is bytes, so what it writes back is.

-- ---- a reply that fails gives no bytes, and one to PCREAD the bytes of the memory

abbrev pub GivesBytes : Reply → Type 0
GivesBytes r = All IsByte (bytes_read r)

fails-bytes : (e : Errno) → GivesBytes (reply.Fail e)
unfolding bytes_in
fails-bytes e = All-nil IsByte

module _ (s : TracedSystem) (h : IsInRange s) (at size len : ℕ) (bytes : List ℕ) (fits : IsWord at)
    (read : first_message bytes ≡ Ok (message.Read at size, len)) where
  memory-bytes : (pid : ℕ) (p : TracedProcess) → live_process s pid ≡ Some p
      → GivesBytes (read_answer s pid p at size).reply
  unfolding read_answer bytes_in
  memory-bytes pid p live =
      of (bytes_for 0 (space_seen s p) at size)
      (bytes-read 0 (space_seen s p) (seen-range s pid p h (found-live s pid p live).0).mappings size at fits)
    where
      of : (r : Result (List ℕ) BadByte) → AreBytesRead size r → GivesBytes (read_of s pid p r).reply
      of (Err bad) all = All-nil IsByte
      of (Ok found) all = all.0

  message-bytes : (g : Held) (p : TracedProcess) (tail : List ℕ) → live_process s g.pid ≡ Some p
      → GivesBytes (message_answer s g.pid p (aim_of g) (message.Read at size) tail len).reply
  unfolding message_answer
  message-bytes g p tail live = memory-bytes g.pid p live

  decoded-bytes : (g : Held) (p : TracedProcess) → live_process s g.pid ≡ Some p
      → GivesBytes (decoded_answer s g p bytes (first_message bytes)).reply
  unfolding bytes_in
  decoded-bytes g p live = rw read (of (g.pid == 0))
    where
      of : (b : Bool)
          → GivesBytes (cond b (refused s (system_refusal (message.Read at size)))
          (message_answer s g.pid p (aim_of g) (message.Read at size) (tail_of (message.Read at size) bytes) len)).reply
      of true = All-nil IsByte
      of false = message-bytes g p (tail_of (message.Read at size) bytes) live

  -- what a control handle stands for is a live process
  still-live : (g : Held) (o : Option TracedProcess) (p : TracedProcess) → still_there g o ≡ Some p → o ≡ Some p
  still-live g None p is = absurd cc
  still-live g (Some q) p is = of (not (is_of_lwp g.file)) (is_some (lwp_of q g.lwp)) is
    where
      of : (a b : Bool) → cond (a || b) (Some q) None ≡ Some p → Some q ≡ Some p
      of true b same = same
      of false true same = same
      of false false same = absurd cc

  targeted-bytes : (g : Held) (o : Option TracedProcess) → target_of s g ≡ o
      → GivesBytes (targeted_answer s g o bytes).reply
  unfolding target_of bytes_in
  targeted-bytes g None is = All-nil IsByte
  targeted-bytes g (Some p) is = decoded-bytes g p (still-live g (live_process s g.pid) p is)

  held-bytes : (o : Option Held) → GivesBytes (held_answer s o bytes).reply
  unfolding bytes_in
  held-bytes None = All-nil IsByte
  held-bytes (Some g) = targeted-bytes g (target_of s g) refl

control-bytes : (s : TracedState) (by handle at size len : ℕ) (bytes : List ℕ) (t : TracedState) (r : Reply)
    → IsInRange s.system → IsWord at → first_message bytes ≡ Ok (message.Read at size, len)
    → answer_to s by (call.Ctl handle bytes) ≡ Some (record { state = t; reply = r }) → GivesBytes r
unfolding answer_to control_answer
control-bytes s by handle at size len bytes t r h fits read given =
    let same : controlled s (control_answer s.system s.opens by handle bytes) ≡ record { state = t; reply = r } =
    same_Some _ _ given in
    subst GivesBytes (ap (λ (a : Answer). a.reply) same)
    (held-bytes s.system h at size len bytes fits read (control_handle (handle_of s.opens by handle)))

-- ---- the two reads

read-code : first_message (spelling (message.Read text_base code_size) []) ≡ Ok (message.Read text_base code_size, 24)
unfolding first_message message_read two_words nth_word word_of word_bytes message_code operands in_columns bad_operand
    with_tail encoded_length unpadded_length operand_count tail_length
read-code = refl

read-stack : first_message (spelling (message.Read stack_base stack_size) [])
    ≡ Ok (message.Read stack_base stack_size, 24)
unfolding first_message message_read two_words nth_word word_of word_bytes message_code operands in_columns bad_operand
    with_tail encoded_length unpadded_length operand_count tail_length
read-stack = refl

-- a reply that the machine gives to a probe that saves is bytes
module _ (p : ProbeState) (s : TracedState) (by : ℕ) (c : Call) (t : TracedState) (r : Reply) (h : IsInRange s.system)
    (asks : probes.next_call_of p ≡ Some c) (given : answer_to s by c ≡ Some (record { state = t; reply = r })) where
  pub code-given : p.stage ≡ stage.SaveCode → GivesBytes r
  unfolding probes.next_call_of probes.call_of
  code-given at =
      let control = probes.message_to p probe_file.Control (message.Read text_base code_size) in
      let is : Some control ≡ Some c = sym (ap (probes.call_of p) at) ∙ asks in
      let same : control ≡ c = same_Some _ _ is in
      control-bytes s by (number_of (probes.handle_of p probe_file.Control)) text_base code_size 24
      (spelling (message.Read text_base code_size) []) t r h (omega arith) read-code
      (ap (answer_to s by) same ∙ given)

  pub stack-given : p.stage ≡ stage.SaveStack → GivesBytes r
  unfolding probes.next_call_of probes.call_of
  stack-given at =
      let control = probes.message_to p probe_file.Control (message.Read stack_base stack_size) in
      let is : Some control ≡ Some c = sym (ap (probes.call_of p) at) ∙ asks in
      let same : control ≡ c = same_Some _ _ is in
      control-bytes s by (number_of (probes.handle_of p probe_file.Control)) stack_base stack_size 24
      (spelling (message.Read stack_base stack_size) []) t r h (omega arith) read-stack
      (ap (answer_to s by) same ∙ given)

-- ---- what is saved of the replies

-- what is saved is bytes
abbrev pub SavesBytes : ProbeState → Type 0
SavesBytes p = All IsByte p.code × All IsByte p.stack

on : (u : ProbeState) → SavesBytes u → SavesBytes (probes.advanced u)
on u saves = (
  subst (All IsByte) (sym (advanced-kept (λ t. t.code) (λ t g. refl) u)) saves.0,
  subst (All IsByte) (sym (advanced-kept (λ t. t.stack) (λ t g. refl) u)) saves.1,
)

out : (u : ProbeState) (e : Errno) → SavesBytes u → SavesBytes (probes.refused u e)
unfolding probes.refused
out u e saves =
    let v : ProbeState = record u { refusal = Some e } in (
      subst (All IsByte) (sym (next-kept (λ t. t.code) (λ t g. refl) v (way_out u.stage))) saves.0,
      subst (All IsByte) (sym (next-kept (λ t. t.stack) (λ t g. refl) v (way_out u.stage))) saves.1,
    )

kind-saves : (u : ProbeState) (d : ℕ) (k : Option FdKind) → SavesBytes u → SavesBytes (probes.with_kind u d k)
kind-saves u d k saves = (
  subst (All IsByte) (sym (kind-kept (λ t. t.code) (λ t lines. refl) u d k)) saves.0,
  subst (All IsByte) (sym (kind-kept (λ t. t.stack) (λ t lines. refl) u d k)) saves.1,
)

accepted-saves : (p : ProbeState) (g : ProbeStage) (r : Reply) → SavesBytes p → (g ≡ stage.SaveCode → GivesBytes r)
    → (g ≡ stage.SaveStack → GivesBytes r) → SavesBytes (probes.accepted p r g)
unfolding probes.accepted probes.asking_accepted probes.with_status
accepted-saves p (stage.Open f) r saves code stack = on (probes.with_opened p f r) saves
accepted-saves p stage.ReadFirst r saves code stack = on (record p { stood = process_stands (bytes_read r) }) saves
accepted-saves p stage.Stop r saves code stack = on (record p { until = until_in r }) saves
accepted-saves p stage.AwaitStop r saves code stack = on p saves
accepted-saves p stage.ReadStatus r saves code stack = on (probes.with_status p (bytes_read r)) saves
accepted-saves p stage.ReadMap r saves code stack = map-by SavesBytes p (bytes_read r) (λ e. out p e saves) (on p saves)
accepted-saves p stage.SaveCode r saves code stack =
    on (record p { code = take code_size (bytes_read r) })
    (All-take IsByte code_size (bytes_read r) (code refl), saves.1)
accepted-saves p stage.SaveStack r saves code stack =
    on (record p { stack = take stack_size (bytes_read r) })
    (saves.0, All-take IsByte stack_size (bytes_read r) (stack refl))
accepted-saves p (stage.Trace k) r saves code stack = on p saves
accepted-saves p stage.MakeAgent r saves code stack = on p saves
accepted-saves p stage.PlantCode r saves code stack = on p saves
accepted-saves p (stage.Asking d asking.SetRegisters) r saves code stack = on p saves
accepted-saves p (stage.Asking d asking.Run) r saves code stack = on p saves
accepted-saves p (stage.Asking d asking.Await) r saves code stack = poll-by SavesBytes p r saves (on p saves)
accepted-saves p (stage.Asking d asking.ReadAgent) r saves code stack =
    answer-by SavesBytes p d (bytes_read r) saves saves
accepted-saves p (stage.Asking d asking.ReadKind) r saves code stack = kind-saves p d (kind_in (bytes_read r)) saves
accepted-saves p stage.UntraceExits r saves code stack = on p saves
accepted-saves p stage.SetExit r saves code stack = on p saves
accepted-saves p stage.RunExit r saves code stack = on p saves
accepted-saves p stage.AwaitExit r saves code stack = poll-by SavesBytes p r saves (on p saves)
accepted-saves p stage.WriteCode r saves code stack = on p saves
accepted-saves p stage.WriteStack r saves code stack = on p saves
accepted-saves p (stage.Retrace k) r saves code stack = on p saves
accepted-saves p stage.Run r saves code stack = on p saves
accepted-saves p (stage.Restore k) r saves code stack = on p saves
accepted-saves p stage.Release r saves code stack = on p saves
accepted-saves p stage.Close r saves code stack = saves

pub fed-saves : (p : ProbeState) (r : Reply) → SavesBytes p → (p.stage ≡ stage.SaveCode → GivesBytes r)
    → (p.stage ≡ stage.SaveStack → GivesBytes r) → SavesBytes (probes.fed p r)
fed-saves p r saves code stack =
    fed-by SavesBytes p r (λ e is. out p e saves) (λ is. accepted-saves p p.stage r saves code stack)
