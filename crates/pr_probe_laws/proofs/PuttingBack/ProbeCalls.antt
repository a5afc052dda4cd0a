use Rattle.std.proofs.Common.{◌≡◌, ◌≢◌, ◌∷◌, ◌++◌, ◌⊎◌, ◌+◌, ◌-◌, ◌^◌, ◌<◌, ℕ, Bool, true, false, cond, List, [], Option, Some, None, Result, Ok, Err, nat_lt, take, refl, sym, subst, ap, ◌∙◌, inl, inr, arith}
use Rattle.std.proofs.lemmas.Bool.{false≢true}
use Rattle.std.proofs.lemmas.List.{get_or-set_other, take_all}
use Rattle.std.proofs.lemmas.Option.{same_Some}
use Rattle.pr_api.specs.Entries.{call_entry}
use Rattle.pr_model.specs.Calls.{Answer, answer_to}
use Rattle.pr_model.specs.Handles.{handle_of as handle_in}
use Rattle.pr_model.specs.Legal.{state_after}
use Rattle.pr_model.specs.Replies.{bytes_in, number_of, opened_in}
use Rattle.pr_model.specs.State.{Places, TracedState}
use Rattle.pr_model.specs.declared.calls.Call.{Call}
use Rattle.pr_model.specs.declared.calls.Call.TheVariants as call
use Rattle.pr_model.specs.declared.calls.File.{File}
use Rattle.pr_model.specs.declared.calls.File.TheVariants as file
use Rattle.pr_model.specs.declared.calls.Mode.{Mode}
use Rattle.pr_model.specs.declared.calls.Mode.TheVariants as mode
use Rattle.pr_model.specs.declared.calls.Reply.{Reply}
use Rattle.pr_model.specs.declared.calls.Reply.TheVariants as reply
use Rattle.pr_model.specs.declared.events.Act.TheVariants as act
use Rattle.pr_model.specs.declared.events.Entry.{Entry}
use Rattle.pr_num.specs.Layout.{stack_base, text_base}
use Rattle.pr_num.specs.Limits.{descriptor_limit}
use Rattle.pr_num.specs.Messages.{first_message}
use Rattle.pr_num.specs.declared.errnos.Errno.{Errno}
use Rattle.pr_num.specs.declared.files.FdKind.{FdKind}
use Rattle.pr_num.specs.declared.messages.Message.{Message}
use Rattle.pr_num.specs.declared.messages.Message.TheVariants as message
use Rattle.pr_num.specs.declared.messages.MsgFault.{MsgFault}
use Rattle.pr_probe.proofs.FedLemmas.{answer-by, fed-back, fed-by, kind-kept, map-by, not-refused, poll-by, run-next-by}
use Rattle.pr_probe.specs.AgentCode.{code_size, stack_size}
use Rattle.pr_probe.specs.DescriptorLines.{kind_in}
use Rattle.pr_probe.specs.ProbeStages.{asking_after, file_of, is_passed_over, lwp_of, mode_of, place_of, stage_after, stage_asked, stage_opened}
use Rattle.pr_probe.specs.Probes.{ProbeState, accepted, advanced, asked, asking_accepted, asking_call, at_stage, call_of, fed, next_call_of, refusal_in, with_kind, with_next, with_status}
use Rattle.pr_probe.specs.TracedSets.{kind_after, set_word, trace_message}
use Rattle.pr_probe.specs.declared.probe_stages.AskingStep.{AskingStep}
use Rattle.pr_probe.specs.declared.probe_stages.AskingStep.TheVariants.{SetRegisters, Run as RunAgent, Await, ReadAgent, ReadKind}
use Rattle.pr_probe.specs.declared.probe_stages.ProbeFile.TheVariants.{Control, Status, Lstatus, Map, AgentControl, AgentStatus}
use Rattle.pr_probe.specs.declared.probe_stages.ProbeStage.{ProbeStage}
use Rattle.pr_probe.specs.declared.probe_stages.ProbeStage.TheVariants as stage
use Rattle.pr_probe.specs.declared.traced_sets.SetKind.TheVariants.{Signals, Faults, Entries, Exits}
use Rattle.pr_tool_laws.proofs.Pstack.StackReads.{new-stands, old-stands}
use Rattle.pr_tool_laws.proofs.Stages.StageLemmas.{state-called}
use Rattle.pr_tools.specs.Handles.{handle_at, nothing_open, with_handle}
use Rattle.pr_tools.specs.Replies.{bytes_read}
use Rattle.pr_tools.specs.declared.handles.Opened.{Opened}
use Rattle.pr_truss_laws.proofs.Files.OpensLemmas.{Opens, Refuses, held_by, keeps_handles, open-opens, plain-leaves}
use Rattle.pr_truss_laws.proofs.Machine.TakenLemmas.{ReadsAs}
use Rattle.pr_probe_laws.proofs.PuttingBack.MemoryMessages.{IsWriteOf, code-reads, code-written, read-given, read_bytes, stack-reads, stack-written, write_bytes, writer_of, written-stands}
use Rattle.pr_probe_laws.proofs.Hiding.HiddenCovers.{is_plain}
use Rattle.pr_probe_laws.proofs.Hiding.HiddenPlain.{is_special, plain-of}
use Rattle.pr_probe_laws.proofs.PuttingBack.ProbeStages.{BothSaved, Comes, Holds, IsBack, IsSaved, So, Unwritten, back-still, both-back, both-still, saved-still, unwritten-still}
use Rattle.pr_probe_laws.specs.PutBack.{StandAt, WritesNoMemory, begins_with_write, is_write}

-- What a call of apfiles makes of its stage.

-- ---- what was not refused

pub not-refusing : (e : Errno) (b : Bool) → cond b None (Some e) ≡ None → b ≡ true
not-refusing e true none = refl
not-refusing e false none = absurd cc

-- at a stage that passes over no refusal the reply is none
pub granted : (now : ProbeStage) (r : Reply) → ((e : Errno) → is_passed_over now e ≡ false) → refusal_in now r ≡ None
    → (e : Errno) → r ≢ reply.Fail e
unfolding refusal_in
granted now r counts none e is =
    let over = not-refusing e (is_passed_over now e) (ap (refusal_in now) (sym is) ∙ none) in
    absurd (let both : false ≡ true = sym (counts e) ∙ over in cc)

-- after a descriptor comes the next one, or the way of the agent to its end
pub asked-next : (P : ProbeStage → Type 0) → ((d : ℕ) (step : AskingStep) → P (stage.Asking d step))
    → P stage.UntraceExits → (d : ℕ) → P (stage_asked d)
unfolding stage_asked
asked-next P asks out d = by (nat_lt d (descriptor_limit - 1))
  where
    by : (b : Bool) → P (cond b (stage.Asking (d + 1) SetRegisters) stage.UntraceExits)
    by true = asks (d + 1) SetRegisters
    by false = out

-- the first file that is open
first-at : (number : ℕ) → handle_at (with_handle nothing_open 0 (opened_in (reply.Handle number))) 0 ≡ Some number
unfolding handle_at with_handle nothing_open opened_in
first-at number = refl

no-write : (m : Message) → is_plain m ≡ true → is_write m ≡ false
no-write (message.Write at size) plain = absurd (false≢true plain)
no-write _ plain = refl

-- the call of a plain stage writes to no memory
plain-call : (k : ℕ) (c : Call) (r : Reply) (p : ProbeState) (g : ProbeStage) → is_special g ≡ false
    → call_of p g ≡ Some c → WritesNoMemory k (call_entry k c r)
plain-call k c r p g plain same handle bytes d is = by (first_message bytes) refl
  where
    its : c ≡ call.Ctl handle bytes
    its = let made : act.Call c r ≡ act.Call (call.Ctl handle bytes) d = ap (λ (x : Entry). x.act) is in cc

    by : (q : Result (Message × ℕ) MsgFault) → first_message bytes ≡ q → begins_with_write q ≡ false
    by (Err fault) read = refl
    by (Ok first) read =
        no-write first.0
        (plain-of handle bytes first.0 first.1 read p g plain (same ∙ ap (λ (x : Call). Some x) its))

module _ (k pid : ℕ) (first : TracedState) (h : List Entry) (c : Call) (a : Answer)
    (given : answer_to (state_after first h) k c ≡ Some a) where
  abbrev s : TracedState
  s = state_after first h

  abbrev it : Entry
  it = call_entry k c a.reply

  abbrev longer : List Entry
  longer = h ++ it ∷ []

  -- what is so once the reply was fed
  abbrev pub Next : ProbeState → Type 0
  Next u = u.refusal ≡ None → So k pid first longer a.state u u.stage

  module _ (d : Call) (same : Some d ≡ Some c) where
    its : answer_to s k d ≡ Some a
    its = ap (answer_to s k) (same_Some d c same) ∙ given

    -- ---- a call that leaves the handles

    holds-still : keeps_handles d ≡ true → (o : Opened) → Holds k pid s o → Holds k pid a.state o
    holds-still keeps o holds = record {
      number = holds.number;
      at = holds.at;
      stands =
          ap (λ (x : Places). handle_in x k holds.number) (plain-leaves s k d a keeps its) ∙ holds.stands;
    }

    both-on : keeps_handles d ≡ true → (p : ProbeState) → BothSaved k pid first h s p
        → BothSaved k pid first longer a.state p
    both-on keeps p so = both-still k pid first h it s a.state p (holds-still keeps p.opened) so

  -- ---- its opens

  -- the control file
  control-open : (p : ProbeState) → (p.pid ≡ pid) × (p.opened ≡ nothing_open)
      → Some (call.Open p.pid 0 file.Ctl mode.Write) ≡ Some c → ((e : Errno) → a.reply ≢ reply.Fail e)
      → Holds k pid a.state (with_handle p.opened 0 (opened_in a.reply))
  unfolding place_of
  control-open p so same accepts = of (open-opens s k pid 0 file.Ctl mode.Write a answers)
    where
      answers : answer_to s k (call.Open pid 0 file.Ctl mode.Write) ≡ Some a
      answers =
          ap (λ (q : ℕ). answer_to s k (call.Open q 0 file.Ctl mode.Write)) (sym so.0)
          ∙ its (call.Open p.pid 0 file.Ctl mode.Write) same

      of : Refuses s a.reply a.state.opens ⊎ Opens s k (writer_of k pid) a.reply a.state.opens
          → Holds k pid a.state (with_handle p.opened 0 (opened_in a.reply))
      of (inl denied) = absurd (accepts denied.errno denied.reply)
      of (inr opens) = record {
        number = opens.place;
        at =
            ap (λ (o : Opened). handle_at (with_handle o 0 (opened_in a.reply)) 0) so.1
            ∙ ap (λ (r : Reply). handle_at (with_handle nothing_open 0 (opened_in r)) 0) opens.reply
            ∙ first-at opens.place;
        stands = new-stands s k (writer_of k pid) refl a.reply a.state.opens opens;
      }

  -- a file after it
  module _ (o : Opened) (place of_pid id : ℕ) (name : File) (way : Mode) (apart : 0 ≢ place)
      (same : Some (call.Open of_pid id name way) ≡ Some c) (accepts : (e : Errno) → a.reply ≢ reply.Fail e) where
    another-open : Holds k pid s o → Holds k pid a.state (with_handle o place (opened_in a.reply))
    unfolding place_of handle_at with_handle
    another-open holds = of (open-opens s k of_pid id name way a (its (call.Open of_pid id name way) same))
      where
        of : Refuses s a.reply a.state.opens ⊎ Opens s k (held_by k of_pid id name way) a.reply a.state.opens
            → Holds k pid a.state (with_handle o place (opened_in a.reply))
        of (inl denied) = absurd (accepts denied.errno denied.reply)
        of (inr opens) = record {
          number = holds.number;
          at = get_or-set_other o.handles place 0 (opened_in a.reply) None apart ∙ holds.at;
          stands =
              old-stands s k (held_by k of_pid id name way) refl a.reply a.state.opens opens holds.number
              (writer_of k pid) holds.stands;
        }

    another-both : (p : ProbeState) → p.opened ≡ o → BothSaved k pid first h s p
        → BothSaved k pid first longer a.state (record p { opened = with_handle o place (opened_in a.reply) })
    another-both p is so = (
      another-open (subst (Holds k pid s) is so.0),
      saved-still k pid first h it text_base code_size p.code so.1,
      saved-still k pid first h it stack_base stack_size p.stack so.2,
    )

  -- ---- what it saves, and writes back

  module _ (o : Opened) (holds : Holds k pid s o) (accepts : (e : Errno) → a.reply ≢ reply.Fail e) where
    abbrev number : ℕ
    number = holds.number

    -- the message goes to the control file
    module _ (bytes : List ℕ)
        (same : Some (call.Ctl (number_of (handle_at o (place_of Control))) bytes) ≡ Some c) where
      call-is : c ≡ call.Ctl number bytes
      call-is =
          sym (same_Some _ c same) ∙ ap (λ (x : Option ℕ). call.Ctl (number_of x) bytes) holds.at

      sent-by : answer_to s k (call.Ctl number bytes) ≡ Some a
      sent-by = ap (answer_to s k) (sym call-is) ∙ given

    -- what a read gave is saved
    saved-on : (at size : ℕ) → Unwritten k pid first h
        → ReadsAs (message.Read at size) (first_message (read_bytes at size))
        → Some (call.Ctl (number_of (handle_at o (place_of Control))) (read_bytes at size)) ≡ Some c
        → IsSaved k pid first at size (take size (bytes_read a.reply)) longer
    unfolding bytes_in
    saved-on at size unwritten reads same =
        let gives =
        read-given s k number pid a holds.stands accepts at size reads (sent-by (read_bytes at size) same) in
        let bytes = gives.bytes in
        let all : take size (bytes_read a.reply) ≡ bytes =
        ap (λ (r : Reply). take size (bytes_read r)) gives.reply
        ∙ take_all size bytes (omega (arith, gives.size_is)) in
        let saves : IsSaved k pid first at size bytes longer = record {
          whole = gives.size_is;
          saved = record {
            before = h;
            call = c;
            reply = a.reply;
            after = [];
            place = refl;
            unwritten = unwritten;
            reads = record {
              handle = number;
              held = writer_of k pid;
              sends =
                  call-is (read_bytes at size) same
                  ∙ ap (λ (n : ℕ). call.Ctl number (read_bytes at n)) (sym gives.size_is);
              there = holds.stands;
              of = refl;
              file = refl;
            };
            stood = gives.stood;
          };
        } in
        subst (λ (bs : List ℕ). IsSaved k pid first at size bs longer) (sym all) saves

    -- what was saved is written back
    back-on : (at size : ℕ) (bytes : List ℕ) → at + size < 2 ^ 64 → IsWriteOf at bytes
        → IsSaved k pid first at size bytes h
        → Some (call.Ctl (number_of (handle_at o (place_of Control))) (write_bytes at bytes)) ≡ Some c
        → IsBack k pid first at size bytes longer
    back-on at size bytes end writes saves same =
        let stands =
        written-stands s k number pid a holds.stands accepts at bytes (omega (arith, end, saves.whole)) writes
        (sent-by (write_bytes at bytes) same) in
        record {
          whole = saves.whole;
          back = record {
            before = h;
            call = c;
            reply = a.reply;
            after = [];
            place = refl;
            saved = saves.saved;
            writes = record {
              handle = number;
              held = writer_of k pid;
              sends = call-is (write_bytes at bytes) same;
              there = holds.stands;
              of = refl;
              file = refl;
            };
            stand =
                subst (λ (x : TracedState). StandAt pid at bytes x.system) (sym (state-called first h k c a given))
                stands;
          };
        }

  -- ---- a descriptor that is noted

  both-noted : (p : ProbeState) (d : ℕ) (kind : Option FdKind) → BothSaved k pid first longer a.state p
      → BothSaved k pid first longer a.state (with_kind p d kind)
  both-noted p d kind so = (
    subst (Holds k pid a.state) (sym (kind-kept (λ t. t.opened) (λ t lines. refl) p d kind)) so.0,
    subst (λ (bs : List ℕ). IsSaved k pid first text_base code_size bs longer)
        (sym (kind-kept (λ t. t.code) (λ t lines. refl) p d kind)) so.1,
    subst (λ (bs : List ℕ). IsSaved k pid first stack_base stack_size bs longer)
        (sym (kind-kept (λ t. t.stack) (λ t lines. refl) p d kind)) so.2,
  )

  asked-on : (p : ProbeState) (d : ℕ) → BothSaved k pid first longer a.state p
      → So k pid first longer a.state (asked p d) (stage_asked d)
  unfolding So
  asked-on p d so =
      asked-next (λ (g : ProbeStage). So k pid first longer a.state (asked p d) g) (λ e step. so) so d

  -- ---- what it has not written

  more-unwritten : (p : ProbeState) (g : ProbeStage) → is_special g ≡ false → call_of p g ≡ Some c
      → Unwritten k pid first h → Unwritten k pid first longer
  more-unwritten p g plain same so = unwritten-still k pid first h it (plain-call k c a.reply p g plain same) so

  -- its control file stays open, and nothing is written
  comes-on : (p : ProbeState) (g : ProbeStage) (d : Call) → Some d ≡ Some c → keeps_handles d ≡ true
      → is_special g ≡ false → call_of p g ≡ Some c → Comes k pid first h s p → Comes k pid first longer a.state p
  comes-on p g d made keeps plain same so =
      (holds-still d made keeps p.opened so.0, more-unwritten p g plain same so.1)

  -- ---- the stages

  -- a step of asking for a descriptor
  asks-on : (p : ProbeState) (d : ℕ) (step : AskingStep) → BothSaved k pid first h s p
      → Some (asking_call p d step) ≡ Some c
      → Next (asking_accepted (at_stage p (stage.Asking d step)) a.reply d step)
  unfolding So asking_call asking_accepted advanced with_next stage_after asking_after
  asks-on p d SetRegisters so same = λ none. both-on _ same refl p so
  asks-on p d RunAgent so same = λ none. both-on _ same refl p so
  asks-on p d Await so same =
      poll-by Next (at_stage p (stage.Asking d Await)) a.reply (λ none. both-on _ same refl p so)
      (λ none. both-on _ same refl p so)
  asks-on p d ReadAgent so same =
      answer-by Next (at_stage p (stage.Asking d ReadAgent)) d (bytes_read a.reply)
      (λ none. both-on _ same refl p so)
      (λ none. asked-on (at_stage p (stage.Asking d ReadAgent)) d (both-on _ same refl p so))
  asks-on p d ReadKind so same =
      let q : ProbeState = at_stage p (stage.Asking d ReadKind) in
      λ none. asked-on (with_kind q d (kind_in (bytes_read a.reply))) d
      (both-noted q d (kind_in (bytes_read a.reply)) (both-on _ same refl p so))

  step-on : (p : ProbeState) (g : ProbeStage) → So k pid first h s (at_stage p g) g
      → call_of (at_stage p g) g ≡ Some c → refusal_in g a.reply ≡ None → Next (accepted (at_stage p g) a.reply g)
  unfolding So call_of accepted advanced with_next with_status stage_after stage_opened place_of file_of lwp_of mode_of
      is_passed_over kind_after set_word trace_message is_special
  step-on p (stage.Open Control) so same right =
      λ none. (
        control-open p (so.0, so.1) same (granted (stage.Open Control) a.reply (λ e. refl) right),
        more-unwritten (at_stage p (stage.Open Control)) (stage.Open Control) refl same so.2,
      )
  step-on p (stage.Open Status) so same right =
      λ none. (
        another-open p.opened 1 _ _ _ _ (λ e. omega arith) same
            (granted (stage.Open Status) a.reply (λ e. refl) right) so.0,
        more-unwritten (at_stage p (stage.Open Status)) (stage.Open Status) refl same so.1,
      )
  step-on p (stage.Open Lstatus) so same right =
      λ none. (
        another-open p.opened 2 _ _ _ _ (λ e. omega arith) same
            (granted (stage.Open Lstatus) a.reply (λ e. refl) right) so.0,
        more-unwritten (at_stage p (stage.Open Lstatus)) (stage.Open Lstatus) refl same so.1,
      )
  step-on p (stage.Open Map) so same right =
      λ none. (
        another-open p.opened 3 _ _ _ _ (λ e. omega arith) same
            (granted (stage.Open Map) a.reply (λ e. refl) right) so.0,
        more-unwritten (at_stage p (stage.Open Map)) (stage.Open Map) refl same so.1,
      )
  step-on p (stage.Open AgentControl) so same right =
      λ none. another-both p.opened 4 _ _ _ _ (λ e. omega arith) same
      (granted (stage.Open AgentControl) a.reply (λ e. refl) right) p refl so
  step-on p (stage.Open AgentStatus) so same right =
      λ none. another-both p.opened 5 _ _ _ _ (λ e. omega arith) same
      (granted (stage.Open AgentStatus) a.reply (λ e. refl) right) p refl so
  step-on p stage.ReadFirst so same right =
      λ none. comes-on (at_stage p stage.ReadFirst) stage.ReadFirst _ same refl refl same so
  step-on p stage.Stop so same right =
      λ none. comes-on (at_stage p stage.Stop) stage.Stop _ same refl refl same so
  step-on p stage.AwaitStop so same right =
      λ none. comes-on (at_stage p stage.AwaitStop) stage.AwaitStop _ same refl refl same so
  step-on p stage.ReadStatus so same right =
      λ none. comes-on (at_stage p stage.ReadStatus) stage.ReadStatus _ same refl refl same so
  step-on p stage.ReadMap so same right =
      map-by Next (at_stage p stage.ReadMap) (bytes_read a.reply)
      (λ e none. not-refused (at_stage p stage.ReadMap) e none)
      (λ none. comes-on (at_stage p stage.ReadMap) stage.ReadMap _ same refl refl same so)
  step-on p stage.SaveCode so same right =
      λ none. (
        holds-still _ same refl p.opened so.0,
        saved-on p.opened so.0 (granted stage.SaveCode a.reply (λ e. refl) right) text_base code_size so.1 code-reads
            same,
        more-unwritten (at_stage p stage.SaveCode) stage.SaveCode refl same so.1,
      )
  step-on p stage.SaveStack so same right =
      λ none. (
        holds-still _ same refl p.opened so.0,
        saved-still k pid first h it text_base code_size p.code so.1,
        saved-on p.opened so.0 (granted stage.SaveStack a.reply (λ e. refl) right) stack_base stack_size so.2
            stack-reads same,
      )
  step-on p (stage.Trace Signals) so same right = λ none. both-on _ same refl p so
  step-on p (stage.Trace Faults) so same right = λ none. both-on _ same refl p so
  step-on p (stage.Trace Entries) so same right = λ none. both-on _ same refl p so
  step-on p (stage.Trace Exits) so same right = λ none. both-on _ same refl p so
  step-on p stage.MakeAgent so same right = λ none. both-on _ same refl p so
  step-on p stage.PlantCode so same right = λ none. both-on _ same refl p so
  step-on p (stage.Asking d step) so same right = asks-on (at_stage p (stage.Asking d step)) d step so same
  step-on p stage.UntraceExits so same right = λ none. both-on _ same refl p so
  step-on p stage.SetExit so same right = λ none. both-on _ same refl p so
  step-on p stage.RunExit so same right = λ none. both-on _ same refl p so
  step-on p stage.AwaitExit so same right =
      poll-by Next (at_stage p stage.AwaitExit) a.reply (λ none. both-on _ same refl p so)
      (λ none. both-on _ same refl p so)
  step-on p stage.WriteCode so same right =
      λ none. (
        holds-still _ same refl p.opened so.0,
        back-on p.opened so.0 (granted stage.WriteCode a.reply (λ e. refl) right) text_base code_size p.code
            (omega arith) (code-written p.code so.1.whole) so.1 same,
        saved-still k pid first h it stack_base stack_size p.stack so.2,
      )
  step-on p stage.WriteStack so same right =
      λ none. (
        back-still k pid first h it text_base code_size p.code so.1,
        back-on p.opened so.0 (granted stage.WriteStack a.reply (λ e. refl) right) stack_base stack_size p.stack
            (omega arith) (stack-written p.stack so.2.whole) so.2 same,
      )
  step-on p (stage.Retrace Signals) so same right = λ none. both-back k pid first h it p so
  step-on p (stage.Retrace Faults) so same right = λ none. both-back k pid first h it p so
  step-on p (stage.Retrace Entries) so same right = λ none. both-back k pid first h it p so
  step-on p (stage.Retrace Exits) so same right =
      run-next-by Next (at_stage p (stage.Retrace Exits)) stage.Run (λ stood none. both-back k pid first h it p so)
      (λ stood none. both-back k pid first h it p so)
  step-on p stage.Run so same right = λ none. both-back k pid first h it p so
  step-on p stage.Close so same right = λ none. both-back k pid first h it p so
  step-on p (stage.Restore kind) so same right = absurd so
  step-on p stage.Release so same right = absurd so

  -- a probe that was fed the reply to its call
  pub called-so : (p : ProbeState) → next_call_of p ≡ Some c → (p.refusal ≡ None → So k pid first h s p p.stage)
      → Next (fed p a.reply)
  unfolding next_call_of
  called-so p next so none =
      let before : p.refusal ≡ None = fed-back p a.reply none in
      fed-by Next p a.reply (λ e is refused. not-refused p e refused)
      (λ right. step-on p p.stage (so before) next right) none
