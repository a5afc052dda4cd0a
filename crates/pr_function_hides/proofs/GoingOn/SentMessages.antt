use Rattle.std.proofs.Common.{◌≡◌, ◌≢◌, ◌<◌, ◌+◌, ◌^◌, ◌==◌, ◌||◌, ℕ, Bool, true, false, nat_lt, Option, Some, None, Result, Ok, List, [], All, length, refl, sym, subst, arith, inl, inr}
use Rattle.std.proofs.lemmas.Bool.{eqb-true, false≢true}
use Rattle.std.proofs.lemmas.Option.{none-some, same_Some}
use Rattle.std.specs.List.{slice_get}
use Rattle.pr_function_hides.proofs.Replies.OwnFiles.{IsBeside, IsWithin}
use Rattle.pr_function_hides.proofs.Tidy.OwnWrites.{breakpoint-size, code-is, named-at, write-is, write-read}
use Rattle.pr_function_laws.proofs.Marks.MarkLemmas.{AreRunFlags}
use Rattle.pr_function_hides.specs.FunctionHiders.{ArePatchable, IsPatchable}
use Rattle.pr_function_laws.proofs.Marks.MarkLemmas.{first-below}
use Rattle.pr_function_laws.proofs.Marks.SoundLemmas.{AsideIsBelow}
use Rattle.pr_hidden.specs.Tidiness.{is_step_flags}
use Rattle.pr_line.specs.declared.functions.Function.{Function}
use Rattle.pr_line.specs.declared.options.Options.{Options}
use Rattle.pr_model.specs.declared.calls.Call.{Call}
use Rattle.pr_model.specs.declared.calls.Call.TheVariants as call
use Rattle.pr_num.proofs.SearchLemmas.{All-at}
use Rattle.pr_num.specs.Control.{clear_fault, fork_mode, rlc_mode, single_step}
use Rattle.pr_num.specs.Messages.{first_message, message_code, message_read, nth_word, one_word, operands, spelling, two_words}
use Rattle.pr_num.specs.Words.{IsByte, word_bytes, word_of}
use Rattle.pr_num.specs.declared.instructions.Instruction.TheVariants.{Bpt}
use Rattle.pr_num.specs.declared.messages.Message.{Message}
use Rattle.pr_num.specs.declared.messages.Message.TheVariants as message
use Rattle.pr_num.specs.declared.messages.MsgFault.{MsgFault}
use Rattle.pr_reached.proofs.StatesInRange.MemoryRanges.{instruction-bytes}
use Rattle.pr_truss.specs.FunctionCalls.{call_beside, function_call_of, lift_call, patch_call, plant_call}
use Rattle.pr_truss.specs.Marks.{breakpoint, code_of, first_function}
use Rattle.pr_truss.specs.NextCalls.{call_of, opening_call}
use Rattle.pr_truss.specs.Trusses.{TrussState, traced_at}
use Rattle.pr_truss.specs.declared.asides.Aside.{Aside}
use Rattle.pr_truss.specs.declared.asides.Aside.TheVariants.{Nothing, Reading, Planting, Patching}
use Rattle.pr_truss.specs.declared.stages.AfterClosing.{AfterClosing}
use Rattle.pr_truss.specs.declared.stages.AfterClosing.TheVariants.{GoOn, OpenNext}
use Rattle.pr_truss.specs.declared.stages.OpeningStep.{OpeningStep}
use Rattle.pr_truss.specs.declared.stages.OpeningStep.TheVariants as opening
use Rattle.pr_truss.specs.declared.stages.Stage.{Stage}
use Rattle.pr_truss.specs.declared.stages.Stage.TheVariants.{Spawning, OpeningControl, Opening, Polling, ReadingStatus, ReadingText, Running, Closing, Finished}
use Rattle.pr_truss_laws.proofs.Machine.TakenLemmas.{ReadsAs, read-as, stop-reads}

-- What truss sends while it opens processes, plants and lifts breakpoints, runs processes and closes its files: what is
-- so of a few kinds of messages, whatever their operands, is so of each that it sends.

module _ (P : Message → Type 0) where
  -- the message with which bytes begin, if they begin with one, is so
  abbrev pub Begin : List ℕ → Type 0
  Begin bytes = (m : Message) (len : ℕ) → first_message bytes ≡ Ok (m, len) → P m

  -- the message that a call writes is so; and where it waits, it waits for PCSTOP
  abbrev pub Sends : Call → Type 0
  Sends (call.Ctl handle bytes) = Begin bytes
  Sends (call.CtlWait handle until bytes) = bytes ≡ spelling message.Stop []
  Sends _ = Unit {0}

  -- messages that set what is traced and how a process is left, and those that stop, read and write
  pub record Admits : Type 0 where
    pub stop : P message.Stop
    pub strace : (set : ℕ) → P (message.Strace set)
    pub sfault : (set : ℕ) → P (message.Sfault set)
    pub sentry : (set : ℕ) → P (message.Sentry set)
    pub sexit : (set : ℕ) → P (message.Sexit set)
    pub follow : P (message.Set fork_mode)
    pub release : P (message.Set rlc_mode)
    pub unset : (modes : ℕ) → P (message.Unset modes)
    pub read : (at size : ℕ) → P (message.Read at size)
    pub write : (at : ℕ) → P (message.Write at 16)

  -- ---- what bytes begin with

  abbrev Parsed : Type 0
  Parsed = Result (Message × ℕ) MsgFault

  reads-so : (bytes : List ℕ) (w : Message) → P w → ReadsAs w (first_message bytes) → Begin bytes
  reads-so bytes w is reads m len read = subst P (sym (of reads)) is
    where
      of : ReadsAs w (first_message bytes) → m ≡ w
      of it = subst (λ (x : Parsed). ReadsAs w x) read it

  pub cfault-begins : P message.Cfault → Begin (spelling message.Cfault [])
  unfolding message_code operands nth_word word_bytes word_of message_read
  cfault-begins is =
      reads-so (spelling message.Cfault []) message.Cfault is
      (read-as (spelling message.Cfault []) message.Cfault refl refl)

  -- one word behind the code
  one-begins : (make : ℕ → Message) (bytes : List ℕ) → P (make (nth_word bytes 1))
      → nat_lt (length bytes) 8 ≡ false → message_read (nth_word bytes 0) bytes ≡ Ok (make (nth_word bytes 1))
      → Begin bytes
  one-begins make bytes is long read =
      reads-so bytes (make (nth_word bytes 1)) is (read-as bytes (make (nth_word bytes 1)) long read)

  -- PCRUN, with no run flag and with whatever
  none-begins : P (message.Run 0) → Begin (spelling (message.Run 0) [])
  unfolding message_code operands nth_word word_bytes word_of message_read one_word
  none-begins is = one-begins message.Run (spelling (message.Run 0) []) is refl refl

  pub run-begins : ((word : ℕ) → P (message.Run word)) → (flags : ℕ) → Begin (spelling (message.Run flags) [])
  unfolding message_code operands nth_word word_bytes word_of message_read one_word
  run-begins all flags = one-begins message.Run (spelling (message.Run flags) []) (all _) refl refl

  -- PCRUN with the flags that truss gives it
  clear-begins : P (message.Run clear_fault) → Begin (spelling (message.Run clear_fault) [])
  unfolding message_code operands nth_word word_bytes word_of message_read one_word
  clear-begins is = one-begins message.Run (spelling (message.Run clear_fault) []) is refl refl

  step-begins : P (message.Run single_step) → Begin (spelling (message.Run single_step) [])
  unfolding message_code operands nth_word word_bytes word_of message_read one_word
  step-begins is = one-begins message.Run (spelling (message.Run single_step) []) is refl refl

  both-begins : P (message.Run (clear_fault + single_step))
      → Begin (spelling (message.Run (clear_fault + single_step)) [])
  unfolding message_code operands nth_word word_bytes word_of message_read one_word
  both-begins is = one-begins message.Run (spelling (message.Run (clear_fault + single_step)) []) is refl refl

  pub flags-begin : P (message.Run 0) → ((flags : ℕ) → is_step_flags flags ≡ true → P (message.Run flags))
      → (flags : ℕ) → AreRunFlags flags → Begin (spelling (message.Run flags) [])
  flags-begin plain steps flags (inl none) =
      subst (λ f. Begin (spelling (message.Run f) [])) (sym none) (none-begins plain)
  flags-begin plain steps flags (inr some) =
      by (flags == clear_fault) (flags == single_step) (flags == clear_fault + single_step) refl refl refl some
    where
      at : (f : ℕ) → (flags == f) ≡ true → Begin (spelling (message.Run f) [])
          → Begin (spelling (message.Run flags) [])
      at f same is = subst (λ g. Begin (spelling (message.Run g) [])) (sym (eqb-true flags f same)) is

      by : (a b d : Bool) → (flags == clear_fault) ≡ a → (flags == single_step) ≡ b
          → (flags == clear_fault + single_step) ≡ d → (a || (b || d)) ≡ true → Begin (spelling (message.Run flags) [])
      by true b d clears one two is = at clear_fault clears (clear-begins (steps clear_fault refl))
      by false true d clears one two is = at single_step one (step-begins (steps single_step refl))
      by false false true clears one two is =
          at (clear_fault + single_step) two (both-begins (steps (clear_fault + single_step) refl))
      by false false false clears one two is = absurd (false≢true is)

  module _ (all : Admits) where
    stop-begins : Begin (spelling message.Stop [])
    stop-begins = reads-so (spelling message.Stop []) message.Stop all.stop stop-reads

    follow-begins : Begin (spelling (message.Set fork_mode) [])
    unfolding message_code operands nth_word word_bytes word_of message_read one_word
    follow-begins = one-begins message.Set (spelling (message.Set fork_mode) []) all.follow refl refl

    release-begins : Begin (spelling (message.Set rlc_mode) [])
    unfolding message_code operands nth_word word_bytes word_of message_read one_word
    release-begins = one-begins message.Set (spelling (message.Set rlc_mode) []) all.release refl refl

    unset-begins : (modes : ℕ) → Begin (spelling (message.Unset modes) [])
    unfolding message_code operands nth_word word_bytes word_of message_read one_word
    unset-begins modes = one-begins message.Unset (spelling (message.Unset modes) []) (all.unset _) refl refl

    strace-begins : (set : ℕ) → Begin (spelling (message.Strace set) [])
    unfolding message_code operands nth_word word_bytes word_of message_read one_word
    strace-begins set = one-begins message.Strace (spelling (message.Strace set) []) (all.strace _) refl refl

    sfault-begins : (set : ℕ) → Begin (spelling (message.Sfault set) [])
    unfolding message_code operands nth_word word_bytes word_of message_read one_word
    sfault-begins set = one-begins message.Sfault (spelling (message.Sfault set) []) (all.sfault _) refl refl

    sentry-begins : (set : ℕ) → Begin (spelling (message.Sentry set) [])
    unfolding message_code operands nth_word word_bytes word_of message_read one_word
    sentry-begins set = one-begins message.Sentry (spelling (message.Sentry set) []) (all.sentry _) refl refl

    sexit-begins : (set : ℕ) → Begin (spelling (message.Sexit set) [])
    unfolding message_code operands nth_word word_bytes word_of message_read one_word
    sexit-begins set = one-begins message.Sexit (spelling (message.Sexit set) []) (all.sexit _) refl refl

    read-begins : (at size : ℕ) → Begin (spelling (message.Read at size) [])
    unfolding message_code operands nth_word word_bytes word_of message_read two_words
    read-begins at size =
        let bytes : List ℕ = spelling (message.Read at size) [] in
        let m : Message = message.Read (nth_word bytes 1) (nth_word bytes 2) in
        reads-so bytes m (all.read _ _) (read-as bytes m refl refl)

    write-begins : (at : ℕ) (code : List ℕ) → at < 2 ^ 64 → length code ≡ 16 → All IsByte code
        → Begin (spelling (message.Write at 16) code)
    write-begins at code fits size bytes =
        let m : Message = message.Write at 16 in
        reads-so (spelling m code) m (all.write at)
        (subst (λ (x : Parsed). ReadsAs m x) (sym (write-read at code fits size bytes)) refl)

    -- ---- the calls of truss

    module _ (t : TrussState) (fit : ArePatchable t.options) (c : Call) where
      abbrev o : Options
      o = t.options

      as-call : (d : Call) → Some d ≡ Some c → Sends d → Sends c
      as-call d same is = subst Sends (same_Some d c same) is

      -- while it opens a process
      pub opening-sends : P (message.Run 0) → (q : ℕ) (step : OpeningStep)
          → function_call_of t (Opening q step) ≡ Some c → Sends c
      unfolding function_call_of call_of opening_call
      opening-sends starts q opening.OpenStatus is = as-call _ is tt
      opening-sends starts q opening.OpenLstatus is = as-call _ is tt
      opening-sends starts q opening.OpenMemory is = as-call _ is tt
      opening-sends starts q opening.ClearModes is = as-call _ is (unset-begins _)
      opening-sends starts q opening.SetRelease is = as-call _ is release-begins
      opening-sends starts q opening.Stop is = as-call _ is stop-begins
      opening-sends starts q (opening.AwaitStop until) is = as-call _ is refl
      opening-sends starts q opening.ReadLwps is = as-call _ is tt
      opening-sends starts q opening.TraceSignals is = as-call _ is (strace-begins _)
      opening-sends starts q opening.TraceFaults is = as-call _ is (sfault-begins _)
      opening-sends starts q opening.TraceEntries is = as-call _ is (sentry-begins _)
      opening-sends starts q opening.TraceExits is = as-call _ is (sexit-begins _)
      opening-sends starts q opening.Follow is = as-call _ is follow-begins
      opening-sends starts q opening.Start is = as-call _ is (none-begins starts)

      -- while it closes the files of one
      pub closing-sends : (q : ℕ) (next : AfterClosing) → function_call_of t (Closing q next) ≡ Some c → Sends c
      unfolding function_call_of call_of
      closing-sends q next is = as-call _ is tt

      -- the run flags of each process are so
      abbrev pub Runs : Type 0
      Runs = (q : ℕ) → q < length t.traced → Begin (spelling (message.Run (traced_at t q).marks.flags) [])

      -- at each stage, where nothing comes before
      pub stage-sends : P (message.Run 0) → Runs → (stage : Stage) → IsWithin (length t.traced) stage
          → function_call_of t stage ≡ Some c → Sends c
      unfolding function_call_of call_of
      stage-sends starts runs (Spawning program) w is = as-call _ is tt
      stage-sends starts runs (OpeningControl pid) w is = as-call _ is tt
      stage-sends starts runs (Opening q step) w is = opening-sends starts q step is
      stage-sends starts runs Polling w is = as-call _ is tt
      stage-sends starts runs (ReadingStatus q) w is = as-call _ is tt
      stage-sends starts runs (ReadingText q l from len) w is = as-call _ is tt
      stage-sends starts runs (Running q) w is = as-call _ is (runs q w)
      stage-sends starts runs (Closing q OpenNext) w is = as-call _ is tt
      stage-sends starts runs (Closing q GoOn) w is = as-call _ is tt
      stage-sends starts runs Finished w is = absurd (none-some c is)
      stage-sends starts runs _ w is = absurd w

      -- while it plants and lifts
      patchable : (i : ℕ) (f : Function) → slice_get o.functions i ≡ Some f → IsPatchable f
      patchable i f named = All-at IsPatchable o.functions i f named fit.each

      write-so : (control : ℕ) (f : Function) (code : List ℕ) → IsPatchable f → length code ≡ 16 → All IsByte code
          → c ≡ call.Ctl control (spelling (message.Write f.at 16) code) → Sends c
      write-so control f code p size bytes is =
          let below = p.within in
          subst Sends (sym is) (write-begins f.at code (omega (arith, below)) size bytes)

      plant-sends : (control i : ℕ) → i < length o.functions → Some (plant_call o control i) ≡ Some c → Sends c
      plant-sends control i inside is =
          let it = named-at o i inside in
          write-so control it.0 breakpoint (patchable i it.0 it.1) breakpoint-size (instruction-bytes Bpt)
          (write-is o c control i it.0 breakpoint breakpoint it.1 refl is)

      lift-sends : (control i : ℕ) → i < length o.functions → Some (lift_call o control i) ≡ Some c → Sends c
      lift-sends control i inside is =
          let it = named-at o i inside in
          let f : Function = it.0 in
          let p = patchable i f it.1 in
          write-so control f f.code p p.size p.bytes
          (write-is o c control i f f.code (code_of o i) it.1 (code-is o i f it.1) is)

      -- where nothing is left to plant or lift it would clear the fault
      abbrev pub Clears : Aside → Type 0
      Clears (Patching q plants lifts clear) =
          first_function plants ≡ None → first_function lifts ≡ None → P message.Cfault
      Clears _ = Unit {0}

      pub aside-sends : (aside : Aside) → IsBeside (length t.traced) aside → AsideIsBelow (length o.functions) aside
          → aside ≢ Nothing → Clears aside → call_beside t t.stage aside ≡ Some c → Sends c
      unfolding call_beside
      aside-sends Nothing w small busy clears is = absurd (busy refl)
      aside-sends (Reading q i) w small busy clears is = as-call _ is (read-begins _ _)
      aside-sends (Planting q i) w small busy clears is = plant-sends (traced_at t q).control i small is
      aside-sends (Patching q plants lifts clear) w small busy clears is =
          by (first_function plants) (first_function lifts) refl refl is
        where
          by : (plant lift : Option ℕ) → first_function plants ≡ plant → first_function lifts ≡ lift
              → Some (patch_call o (traced_at t q).control plant lift) ≡ Some c → Sends c
          by (Some i) lift first second its =
              plant-sends (traced_at t q).control i (first-below _ plants i small.0 first) its
          by None (Some i) first second its =
              lift-sends (traced_at t q).control i (first-below _ lifts i small.1 second) its
          by None None first second its = as-call _ its (cfault-begins (clears first second))
      aside-sends _ w small busy clears is = absurd w
