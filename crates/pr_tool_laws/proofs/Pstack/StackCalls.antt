use Rattle.std.proofs.Common.{◌≡◌, ◌≢◌, ◌⊎◌, ◌∷◌, ◌++◌, ◌≤◌, ℕ, true, false, List, [], Option, Some, None, IsSome, length, take, refl, sym, subst, ap, ◌∙◌, inl, inr}
use Rattle.std.proofs.lemmas.Option.{same_Some}
use Rattle.pr_api.proofs.ShapeLemmas.{machine-shaped}
use Rattle.pr_api.specs.Entries.{call_entry}
use Rattle.pr_api.specs.Shapes.{has_shape}
use Rattle.pr_model.specs.Calls.{Answer, answer_to}
use Rattle.pr_model.specs.Handles.{handle_of}
use Rattle.pr_model.specs.Lawful.{IsLawful}
use Rattle.pr_model.specs.Legal.{state_after}
use Rattle.pr_model.specs.Reads.{file_read, mapped_from, part_read, unless_none}
use Rattle.pr_model.specs.Readers.{space_seen}
use Rattle.pr_model.specs.Records.{lstatus_of}
use Rattle.pr_model.specs.Replies.{until_in}
use Rattle.pr_model.specs.State.{Places, TracedProcess, TracedState, live_process}
use Rattle.pr_model.specs.declared.calls.Call.{Call}
use Rattle.pr_model.specs.declared.calls.Call.TheVariants as call
use Rattle.pr_model.specs.declared.calls.File.TheVariants as file
use Rattle.pr_model.specs.declared.calls.Mode.TheVariants as mode
use Rattle.pr_model.specs.declared.calls.Reply.{Reply}
use Rattle.pr_model.specs.declared.calls.Reply.TheVariants as reply
use Rattle.pr_model.specs.declared.events.Entry.{Entry}
use Rattle.pr_model.specs.declared.tools.ToolKind.TheVariants.{Pstack}
use Rattle.pr_num.specs.Layout.{text_base}
use Rattle.pr_num.specs.Limits.{read_limit}
use Rattle.pr_num.specs.Spaces.{Space}
use Rattle.pr_num.specs.declared.errnos.Errno.{Errno}
use Rattle.pr_num.specs.declared.errnos.Errno.TheVariants.{Noent}
use Rattle.pr_rec.specs.RecordBytes.{lstatus_bytes}
use Rattle.pr_tools.specs.Handles.{without_last}
use Rattle.pr_tools.specs.Replies.{bytes_read, is_passed_over, is_unmapped}
use Rattle.pr_tools.specs.Stacks.{process_stands, walk_after, walk_in, with_frame}
use Rattle.pr_tools.specs.Calls.{short_read, stop_bytes}
use Rattle.pr_tools.specs.Tools.{ToolState, accepted, fed, first_tool, next_call_of, with_walk}
use Rattle.pr_tools.specs.declared.stacks.CallFrame.{CallFrame}
use Rattle.pr_tools.specs.declared.stacks.Walk.{Walk}
use Rattle.pr_tools.specs.declared.steps.Step.{Step}
use Rattle.pr_tools.specs.declared.steps.Step.TheVariants as step
use Rattle.pr_tool_laws.proofs.Stages.KindLemmas.{refused-still}
use Rattle.pr_tool_laws.proofs.Pstack.StackHalts.{HaltsWith}
use Rattle.pr_tool_laws.proofs.Pstack.StackReads.{control_of, halts-here, memory-gone, memory-there, memory_of, new-stands, old-stands, own-seen, read-answer, status-gone, status-there, status-whole, status_of, stop-halts}
use Rattle.pr_tool_laws.proofs.Pstack.StackStages.{HasFrames, HasReadAll, Holds, Reads, Seen, So, StackStage, Walks, at_first, goes, has_control, has_read, has_status, refused, seen-here, seen-still, still-read}
use Rattle.pr_tool_laws.proofs.Pstack.StackSteps as steps
use Rattle.pr_tool_laws.proofs.Pstack.StackSteps.{Ends, IsEnding, Notes, no_notes, pstack_at, unless-refused, wait-used, with_control, with_memory, with_status}
use Rattle.pr_tool_laws.proofs.Pstack.StackTexts.{first-shown}
use Rattle.pr_tool_laws.proofs.Pstack.StackWalks.{HasWalked, room, walk-begins, walk-goes}
use Rattle.pr_tool_laws.proofs.OwnFiles.StandingLemmas.{Stands}
use Rattle.pr_tool_laws.specs.Reads.{IsToolRead}
use Rattle.pr_tools.specs.SpaceStacks.{first_instruction}
use Rattle.pr_tool_laws.specs.Stacks.{HasStopped}
use Rattle.pr_truss_laws.proofs.Files.OpensLemmas.{Opens, Refuses, looking-stays, only_looks, open-opens, plain-leaves}

-- What a call of pstack makes of its stage.

module _ (n k pid : ℕ) (first : TracedState) (h : List Entry) (c : Call) (a : Answer)
    (lawful : IsLawful (state_after first h)) (given : answer_to (state_after first h) k c ≡ Some a) where
  abbrev s : TracedState
  s = state_after first h

  abbrev longer : List Entry
  longer = h ++ call_entry k c a.reply ∷ []

  -- the stage after the call
  abbrev Next : ToolState → Type 0
  Next t = StackStage n k pid first longer a.state t

  -- the call is the one that pstack makes
  its-call : (t : ToolState) (d : Call) → next_call_of t ≡ Some d → next_call_of t ≡ Some c → c ≡ d
  its-call t d its next = same_Some c d (sym next ∙ its)

  its-answer : (t : ToolState) (d : Call) → next_call_of t ≡ Some d → next_call_of t ≡ Some c → answer_to s k d ≡ Some a
  its-answer t d its next = ap (answer_to s k) (sym (its-call t d its next)) ∙ given

  -- ---- its opens

  control-stage : next_call_of (first_tool Pstack pid) ≡ Some c → Next (fed (first_tool Pstack pid) a.reply)
  control-stage next =
      of (open-opens s k pid 0 file.Ctl mode.WriteExcl a
      (its-answer (first_tool Pstack pid) (call.Open pid 0 file.Ctl mode.WriteExcl) (steps.first-call pid) next))
    where
      of : Refuses s a.reply a.state.opens ⊎ Opens s k (control_of k pid) a.reply a.state.opens
          → Next (fed (first_tool Pstack pid) a.reply)
      of (inl denied) =
          refused (subst (λ (r : Reply). IsSome (fed (first_tool Pstack pid) r).refusal) (sym denied.reply)
          (steps.control-refused pid denied.errno))
      of (inr granted) =
          has_control granted.place (ap (fed (first_tool Pstack pid)) granted.reply
          ∙ steps.control-opened pid granted.place)
          (new-stands s k (control_of k pid) refl a.reply a.state.opens granted)

  module _ (control : ℕ) (stands_control : Stands s.opens control (control_of k pid)) where
    file-stage : (t : ToolState) → t ≡ pstack_at pid (with_control control) step.OpenFile no_notes
        → next_call_of t ≡ Some c → Next (fed t a.reply)
    unfolding is_passed_over
    file-stage t is next =
        of (open-opens s k pid 0 file.Lstatus mode.Read a
        (its-answer t (call.Open pid 0 file.Lstatus mode.Read) (ap next_call_of is
        ∙ steps.file-call pid (with_control control) no_notes) next))
      where
        of : Refuses s a.reply a.state.opens ⊎ Opens s k (status_of k pid) a.reply a.state.opens → Next (fed t a.reply)
        of (inl denied) =
            refused (subst (λ (r : Reply). IsSome (fed t r).refusal) (sym denied.reply)
            (steps.refused-now t denied.errno (ap (λ (u : ToolState). is_passed_over u.step denied.errno) is)))
        of (inr granted) =
            has_status control granted.place (ap (λ (u : ToolState). fed u a.reply) is
            ∙ ap (fed (pstack_at pid (with_control control) step.OpenFile no_notes)) granted.reply
            ∙ steps.file-opened pid no_notes control granted.place)
            (old-stands s k (status_of k pid) refl a.reply a.state.opens granted control
            (control_of k pid) stands_control)
            (new-stands s k (status_of k pid) refl a.reply a.state.opens granted)

    module _ (status : ℕ) (stands_status : Stands s.opens status (status_of k pid)) where
      memory-stage : (t : ToolState) → t ≡ pstack_at pid (with_status control status) step.OpenMemory no_notes
          → next_call_of t ≡ Some c → Next (fed t a.reply)
      unfolding is_passed_over So
      memory-stage t is next =
          of (open-opens s k pid 0 file.Mem mode.Read a
          (its-answer t (call.Open pid 0 file.Mem mode.Read) (ap next_call_of is
          ∙ steps.memory-call pid (with_status control status) no_notes) next))
        where
          of : Refuses s a.reply a.state.opens ⊎ Opens s k (memory_of k pid) a.reply a.state.opens
              → Next (fed t a.reply)
          of (inl denied) =
              refused (subst (λ (r : Reply). IsSome (fed t r).refusal) (sym denied.reply)
              (steps.refused-now t denied.errno (ap (λ (u : ToolState). is_passed_over u.step denied.errno) is)))
          of (inr granted) = goes (record {
            control = control;
            status = status;
            memory = granted.place;
            next = step.ReadFirst;
            notes = no_notes;
            is =
                ap (λ (u : ToolState). fed u a.reply) is
                ∙ ap (fed (pstack_at pid (with_status control status) step.OpenMemory no_notes)) granted.reply
                ∙ steps.memory-opened pid no_notes control status granted.place;
            holds = record {
              holds_control =
                  old-stands s k (memory_of k pid) refl a.reply a.state.opens granted control
                  (control_of k pid) stands_control;
              holds_status =
                  old-stands s k (memory_of k pid) refl a.reply a.state.opens granted status
                  (status_of k pid) stands_status;
              holds_memory = new-stands s k (memory_of k pid) refl a.reply a.state.opens granted;
            };
            so = refl;
          })

  -- ---- its other calls, with all three files open

  module _ (control status memory : ℕ) (holds : Holds n k pid first s control status memory) (notes : Notes) where
    abbrev at : Step → ToolState
    at p = pstack_at pid (with_memory control status memory) p notes

    -- a call that leaves the handles
    held-still : a.state.opens ≡ s.opens → Holds n k pid first a.state control status memory
    held-still same = record {
      holds_control = ap (λ (x : Places). handle_of x k control) same ∙ holds.holds_control;
      holds_status = ap (λ (x : Places). handle_of x k status) same ∙ holds.holds_status;
      holds_memory = ap (λ (x : Places). handle_of x k memory) same ∙ holds.holds_memory;
    }

    -- a call that only looks
    looks-still : (d : Call) → only_looks d ≡ true → answer_to s k d ≡ Some a
        → (a.state.opens ≡ s.opens) × (a.state.system ≡ s.system)
    looks-still d looks its =
        let stays = looking-stays s k d a looks its in
        (ap (λ (x : TracedState). x.opens) stays, ap (λ (x : TracedState). x.system) stays)

    going : (t : ToolState) (p : Step) (later : Notes) → a.state.opens ≡ s.opens
        → t ≡ pstack_at pid (with_memory control status memory) p later
        → So n k pid first longer a.state.system later p → Next t
    going t p later same is so =
        goes (record {
          control = control;
          status = status;
          memory = memory;
          next = p;
          notes = later;
          is = is;
          holds = held-still same;
          so = so;
        })

    look-stage : notes ≡ no_notes → next_call_of (at step.ReadFirst) ≡ Some c → Next (fed (at step.ReadFirst) a.reply)
    unfolding is_passed_over So
    look-stage none next = of (unless-refused (at step.ReadFirst) a.reply (λ e. refl))
      where
        still : (a.state.opens ≡ s.opens) × (a.state.system ≡ s.system)
        still =
            looks-still (call.Read status 0 read_limit) refl
            (its-answer (at step.ReadFirst) (call.Read status 0 read_limit)
            (steps.look-call pid control status memory notes) next)

        of : IsSome (fed (at step.ReadFirst) a.reply).refusal ⊎
            (((e : Errno) → a.reply ≢ reply.Fail e) ×
            (fed (at step.ReadFirst) a.reply ≡ accepted (at step.ReadFirst) a.reply step.ReadFirst)) → Next
            (fed (at step.ReadFirst) a.reply)
        of (inl was) = refused was
        of (inr goes_on) =
            going (fed (at step.ReadFirst) a.reply) step.Stop
            (record notes { stood = process_stands (bytes_read a.reply) }) still.0 (goes_on.1
            ∙ steps.looked pid notes (with_memory control status memory) a.reply)
            (ap (λ (x : Notes). x.frames) none)

    stop-stage : notes.frames ≡ [] → next_call_of (at step.Stop) ≡ Some c → Next (fed (at step.Stop) a.reply)
    unfolding is_passed_over So
    stop-stage none next = of (unless-refused (at step.Stop) a.reply (λ e. refl))
      where
        its : answer_to s k (call.Ctl control stop_bytes) ≡ Some a
        its =
            its-answer (at step.Stop) (call.Ctl control stop_bytes)
            (steps.stop-call pid control status memory notes) next

        of : IsSome (fed (at step.Stop) a.reply).refusal ⊎
            (((e : Errno) → a.reply ≢ reply.Fail e) ×
            (fed (at step.Stop) a.reply ≡ accepted (at step.Stop) a.reply step.Stop)) → Next
            (fed (at step.Stop) a.reply)
        of (inl was) = refused was
        of (inr goes_on) =
            going (fed (at step.Stop) a.reply) step.AwaitStop (record notes { until = until_in a.reply })
            (plain-leaves s k (call.Ctl control stop_bytes) a refl its) (goes_on.1
            ∙ steps.asked pid notes (with_memory control status memory) a.reply)
            (let stops = stop-halts s k control pid a holds.holds_control its goes_on.0 in (none, stops.0, stops.1))

    -- where the system stays, so does what was said of it
    halts-still : (was : TracedProcess) → a.state.system ≡ s.system → HaltsWith pid was s.system
        → HaltsWith pid was a.state.system
    halts-still was same halts = subst (HaltsWith pid was) (sym same) halts

    -- the wait is over
    stopped-here : c ≡ call.CtlWait control 0 stop_bytes → ((e : Errno) → a.reply ≢ reply.Fail e)
        → HasStopped k pid first longer
    stopped-here same accepted =
        let its : answer_to s k (call.CtlWait control 0 stop_bytes) ≡ Some a = ap (answer_to s k) (sym same) ∙ given in
        let used =
        wait-used control 0 stop_bytes a.reply accepted
        (machine-shaped s k (call.CtlWait control 0 stop_bytes) a lawful.system its) in
        record {
          before = h;
          handle = control;
          used = used.0;
          after = [];
          held = control_of k pid;
          place =
              ap (λ (d : Call). h ++ call_entry k d a.reply ∷ []) same
              ∙ ap (λ (r : Reply). h ++ call_entry k (call.CtlWait control 0 stop_bytes) r ∷ []) used.1;
          there = holds.holds_control;
          of = refl;
          file = refl;
        }

    wait-stage : notes.frames ≡ [] → (was : TracedProcess) → HaltsWith pid was s.system → notes.until ≡ 0
        → next_call_of (at step.AwaitStop) ≡ Some c → Next (fed (at step.AwaitStop) a.reply)
    unfolding is_passed_over So
    wait-stage none was halts endless next = of (unless-refused (at step.AwaitStop) a.reply (λ e. refl))
      where
        call_is : next_call_of (at step.AwaitStop) ≡ Some (call.CtlWait control 0 stop_bytes)
        call_is =
            steps.wait-call pid control status memory notes
            ∙ ap (λ (until : ℕ). Some (call.CtlWait control until stop_bytes)) endless

        still : (a.state.opens ≡ s.opens) × (a.state.system ≡ s.system)
        still =
            looks-still (call.CtlWait control 0 stop_bytes) refl
            (its-answer (at step.AwaitStop) (call.CtlWait control 0 stop_bytes) call_is next)

        of : IsSome (fed (at step.AwaitStop) a.reply).refusal ⊎
            (((e : Errno) → a.reply ≢ reply.Fail e) ×
            (fed (at step.AwaitStop) a.reply ≡ accepted (at step.AwaitStop) a.reply step.AwaitStop)) → Next
            (fed (at step.AwaitStop) a.reply)
        of (inl was) = refused was
        of (inr goes_on) =
            going (fed (at step.AwaitStop) a.reply) step.ReadFile notes still.0 (goes_on.1
            ∙ steps.waited pid notes (with_memory control status memory) a.reply) (
              none,
              (was, halts-still was still.1 halts),
              stopped-here
                  (its-call (at step.AwaitStop) (call.CtlWait control 0 stop_bytes) call_is next) goes_on.0,
            )

    -- ---- the status of all lwps

    status-stage : notes.frames ≡ [] → (was : TracedProcess) → HaltsWith pid was s.system → HasStopped k pid first h
        → next_call_of (at step.ReadFile) ≡ Some c → Next (fed (at step.ReadFile) a.reply)
    unfolding is_passed_over So IsToolRead
    status-stage none was halts stopped next = by (live_process s.system pid) refl
      where
        call_is : next_call_of (at step.ReadFile) ≡ Some (call.Read status 0 read_limit)
        call_is = steps.status-call pid control status memory notes

        its : answer_to s k (call.Read status 0 read_limit) ≡ Some a
        its = its-answer (at step.ReadFile) (call.Read status 0 read_limit) call_is next

        reads : IsToolRead Pstack k pid s c
        reads = record {
          handle = status;
          held = status_of k pid;
          is_read = its-call (at step.ReadFile) (call.Read status 0 read_limit) call_is next;
          there = holds.holds_status;
          of = refl;
          file = refl;
        }

        still : (a.state.opens ≡ s.opens) × (a.state.system ≡ s.system)
        still = looks-still (call.Read status 0 read_limit) refl its

        replies : a.reply ≡ file_read s.system pid 0 0 read_limit file.Lstatus
        replies =
            ap (λ (x : Answer). x.reply)
            (read-answer s status 0 read_limit (status_of k pid) a refl holds.holds_status its)

        by : (o : Option TracedProcess) → live_process s.system pid ≡ o → Next (fed (at step.ReadFile) a.reply)
        by None gone =
            refused (subst (λ (r : Reply). IsSome (fed (at step.ReadFile) r).refusal) (sym (replies
            ∙ status-gone s.system pid gone)) (steps.refused-now (at step.ReadFile) Noent refl))
        by (Some p) live =
            let whole : a.reply ≡ reply.Bytes (part_read (lstatus_bytes (lstatus_of p)) 0 read_limit) =
            replies ∙ status-there s.system pid p live in
            let own = halts.each p live in
            going (fed (at step.ReadFile) a.reply) step.ReadText
            (record notes {
              bytes = take read_limit
                  (part_read (lstatus_bytes (lstatus_of p)) 0 read_limit);
            }) still.0
            (ap (fed (at step.ReadFile)) whole
            ∙ steps.status-read pid notes (with_memory control status memory)
            (part_read (lstatus_bytes (lstatus_of p)) 0 read_limit)) (record {
              seen = seen-here n k pid first h c a.reply p reads stopped live own.0;
              halts = halts-still p still.1 (halts-here pid p s.system live own.0);
              status = λ are. status-whole p are;
              none = none;
            })

    -- ---- memory

    -- What is read of it stands in some memory: in that which the process had, if it had lent nothing.
    record IsOfMemory (was : TracedProcess) (from : ℕ) : Type 0 where
      space : Space
      gives : a.reply ≡ unless_none (mapped_from space from short_read)
      own : was.borrower ≡ None → space ≡ was.space

    module _ (was : TracedProcess) (halts : HaltsWith pid was s.system) (p : Step) (from : ℕ)
        (its : answer_to s k (call.Read memory from short_read) ≡ Some a)
        (counts : is_passed_over p Noent ≡ false) where
      memory-replies : a.reply ≡ file_read s.system pid 0 from short_read file.Mem
      memory-replies =
          ap (λ (x : Answer). x.reply)
          (read-answer s memory from short_read (memory_of k pid) a refl holds.holds_memory its)

      memory-read : IsSome (fed (at p) a.reply).refusal ⊎ IsOfMemory was from
      memory-read = by (live_process s.system pid) refl
        where
          by : (o : Option TracedProcess) → live_process s.system pid ≡ o
              → IsSome (fed (at p) a.reply).refusal ⊎ IsOfMemory was from
          by None gone =
              inl (subst (λ (r : Reply). IsSome (fed (at p) r).refusal) (sym (memory-replies
              ∙ memory-gone s.system pid from gone)) (steps.refused-now (at p) Noent counts))
          by (Some q) live =
              let keeps = (halts.each q live).1 in
              inr (record {
                space = space_seen s.system q;
                gives = memory-replies ∙ memory-there s.system pid from q live;
                own = λ none. let kept = keeps.own none in own-seen s.system q kept.0 ∙ kept.1;
              })

      -- no more than was asked for
      memory-fits : (read : IsOfMemory was from) → length (mapped_from read.space from short_read) ≤ short_read
      memory-fits read =
          steps.memory-few memory from short_read (mapped_from read.space from short_read)
          (ap (has_shape (call.Read memory from short_read)) (sym read.gives)
          ∙ machine-shaped s k (call.Read memory from short_read) a lawful.system its)

    -- the next frame is read, or all were
    walking : (t : ToolState) (p : Step) (later : Notes) (next : Option Walk) → a.state.opens ≡ s.opens
        → t ≡ with_walk (pstack_at pid (with_memory control status memory) p later) next
        → (seen : Seen n k pid first longer) → HaltsWith pid seen.process a.state.system
        → HasFrames n k pid first seen.process later next → Next t
    unfolding So
    walking t p later None same is seen halts read =
        let ends = steps.walked pid later (with_memory control status memory) p in
        has_read (record {
          opened = with_memory control status memory;
          next = ends.next;
          notes = record later { walk = None };
          is = is ∙ ends.is;
          ends = ends.ends;
          seen = seen;
          read = record { status = read.status; instruction = read.instruction; frames = read.frames };
        })
    walking t p later (Some w) same is seen halts read =
        going t step.ReadFrame (record later { walk = Some w }) same (is
        ∙ steps.walks pid later (with_memory control status memory) p w)
        (record {
          seen = seen;
          halts = halts;
          next = w;
          is = refl;
          read = record { status = read.status; instruction = read.instruction; frames = read.frames };
        })

    text-stage : Reads n k pid first h s.system notes → next_call_of (at step.ReadText) ≡ Some c
        → Next (fed (at step.ReadText) a.reply)
    unfolding is_passed_over is_unmapped
    text-stage reads next = of (memory-read reads.seen.process reads.halts step.ReadText text_base its refl)
      where
        its : answer_to s k (call.Read memory text_base short_read) ≡ Some a
        its =
            its-answer (at step.ReadText) (call.Read memory text_base short_read)
            (steps.text-call pid control status memory notes) next

        still : (a.state.opens ≡ s.opens) × (a.state.system ≡ s.system)
        still = looks-still (call.Read memory text_base short_read) refl its

        of : IsSome (fed (at step.ReadText) a.reply).refusal ⊎ IsOfMemory reads.seen.process text_base
            → Next (fed (at step.ReadText) a.reply)
        of (inl was) = refused was
        of (inr read) =
            let bytes : List ℕ = mapped_from read.space text_base short_read in
            walking (fed (at step.ReadText) a.reply) step.ReadText
            (record notes { first = steps.first_of pid notes bytes }) (walk_in notes.bytes 8) still.0
            (ap (fed (at step.ReadText)) read.gives
            ∙ steps.text-read pid notes (with_memory control status memory) bytes)
            (seen-still n k pid first h (call_entry k c a.reply) reads.seen)
            (halts-still reads.seen.process still.1 reads.halts)
            (record {
              status = reads.status;
              instruction = λ own.
                  first-shown read.space
                  (memory-fits reads.seen.process reads.halts step.ReadText text_base its refl read)
                  ∙ ap first_instruction (read.own own);
              frames = λ own are.
                  let lwps = lstatus_of reads.seen.process in
                  let space : Space = reads.seen.process.space in
                  let begun = walk-begins lwps are.few are.fields space in
                  let none = reads.none in
                  subst (λ (bytes : List ℕ). HasWalked lwps space notes.frames (walk_in bytes 8))
                  (sym (reads.status are))
                  (subst (λ (fs : List CallFrame). HasWalked lwps space fs (walk_in (lstatus_bytes lwps) 8)) (sym none)
                  begun);
            })

    frame-stage : Walks n k pid first h s.system notes → next_call_of (at step.ReadFrame) ≡ Some c
        → Next (fed (at step.ReadFrame) a.reply)
    unfolding is_passed_over is_unmapped
    frame-stage walks next =
        of (memory-read walks.seen.process walks.halts step.ReadFrame walks.next.frame its refl)
      where
        its : answer_to s k (call.Read memory walks.next.frame short_read) ≡ Some a
        its =
            its-answer (at step.ReadFrame) (call.Read memory walks.next.frame short_read)
            (steps.frame-call pid control status memory notes walks.next walks.is) next

        still : (a.state.opens ≡ s.opens) × (a.state.system ≡ s.system)
        still = looks-still (call.Read memory walks.next.frame short_read) refl its

        of : IsSome (fed (at step.ReadFrame) a.reply).refusal ⊎ IsOfMemory walks.seen.process walks.next.frame
            → Next (fed (at step.ReadFrame) a.reply)
        of (inl was) = refused was
        of (inr read) =
            let frame : List ℕ = mapped_from read.space walks.next.frame short_read in
            walking (fed (at step.ReadFrame) a.reply) step.ReadFrame
            (record notes { frames = with_frame room notes.frames walks.next frame })
            (walk_after notes.bytes walks.next frame) still.0
            (ap (fed (at step.ReadFrame)) read.gives
            ∙ steps.frame-read pid notes (with_memory control status memory) walks.next walks.is frame)
            (seen-still n k pid first h (call_entry k c a.reply) walks.seen)
            (halts-still walks.seen.process still.1 walks.halts)
            (record {
              status = walks.read.status;
              instruction = walks.read.instruction;
              frames = λ own are.
                  let lwps = lstatus_of walks.seen.process in
                  let space : Space = walks.seen.process.space in
                  let goes_on =
                  walk-goes lwps are.few are.fields space walks.next notes.frames (walks.read.frames own are) in
                  let here : HasWalked lwps space (with_frame room notes.frames walks.next frame)
                  (walk_after (lstatus_bytes lwps) walks.next frame) =
                  subst (λ (x : Space). HasWalked lwps space
                  (with_frame room notes.frames walks.next (mapped_from x walks.next.frame short_read))
                  (walk_after (lstatus_bytes lwps) walks.next (mapped_from x walks.next.frame short_read)))
                  (sym (read.own own)) goes_on in
                  subst (λ (bytes : List ℕ). HasWalked lwps space (with_frame room notes.frames walks.next frame)
                  (walk_after bytes walks.next frame)) (sym (walks.read.status are)) here;
            })

    -- ---- all of them

    going-stage : (p : Step) → So n k pid first h s.system notes p → next_call_of (at p) ≡ Some c
        → Next (fed (at p) a.reply)
    unfolding So
    going-stage step.ReadFirst so next = look-stage so next
    going-stage step.Stop so next = stop-stage so next
    going-stage step.AwaitStop so next = wait-stage so.0 so.1.0 so.1.1 so.2 next
    going-stage step.ReadFile so next = status-stage so.0 so.1.0 so.1.1 so.2 next
    going-stage step.ReadText so next = text-stage so next
    going-stage step.ReadFrame so next = frame-stage so next
    going-stage _ so next = absurd so

  -- ---- after the last read

  read-stage : (t : ToolState) → HasReadAll n k pid first h t → Next (fed t a.reply)
  unfolding is_passed_over
  read-stage t all = of all.ends
    where
      later : HasReadAll n k pid first longer t
      later = still-read n k pid first h (call_entry k c a.reply) t all

      runs : t ≡ pstack_at pid all.opened step.Run all.notes
          → IsSome (fed t a.reply).refusal ⊎
          (((e : Errno) → a.reply ≢ reply.Fail e) × (fed t a.reply ≡ accepted t a.reply t.step)) → Next (fed t a.reply)
      runs is (inl was) = refused was
      runs is (inr goes_on) = has_read (record {
        opened = all.opened;
        next = step.Close;
        notes = all.notes;
        is =
            goes_on.1 ∙ ap (λ (u : ToolState). accepted u a.reply u.step) is
            ∙ steps.has-run pid all.notes all.opened a.reply;
        ends = inr refl;
        seen = seen-still n k pid first h (call_entry k c a.reply) all.seen;
        read = all.read;
      })

      of : IsEnding all.next → Next (fed t a.reply)
      of (inl run) =
          let is : t ≡ pstack_at pid all.opened step.Run all.notes =
          all.is ∙ ap (λ (p : Step). pstack_at pid all.opened p all.notes) run in
          runs is (unless-refused t a.reply (λ e. ap (λ (u : ToolState). is_passed_over u.step e) is))
      of (inr close) =
          let is : t ≡ pstack_at pid all.opened step.Close all.notes =
          all.is ∙ ap (λ (p : Step). pstack_at pid all.opened p all.notes) close in
          has_read (record {
            opened = without_last all.opened;
            next = step.Close;
            notes = all.notes;
            is = ap (λ (u : ToolState). fed u a.reply) is ∙ steps.closes pid all.notes all.opened a.reply;
            ends = inr refl;
            seen = seen-still n k pid first h (call_entry k c a.reply) all.seen;
            read = all.read;
          })

  pub called-stage : (t : ToolState) → next_call_of t ≡ Some c → StackStage n k pid first h s t → Next (fed t a.reply)
  called-stage t next (at_first same) =
      let Q : ToolState → Type 0 = λ u. next_call_of u ≡ Some c → Next (fed u a.reply) in
      subst Q (sym same) control-stage next
  called-stage t next (has_control control is stands_control) = file-stage control stands_control t is next
  called-stage t next (has_status control status is stands_control stands_status) =
      memory-stage control stands_control status stands_status t is next
  called-stage t next (goes g) =
      let Q : ToolState → Type 0 = λ u. next_call_of u ≡ Some c → Next (fed u a.reply) in
      subst Q (sym g.is) (going-stage g.control g.status g.memory g.holds g.notes g.next g.so) next
  called-stage t next (has_read all) = read-stage t all
  called-stage t next (refused was) = refused (refused-still t a.reply was)
