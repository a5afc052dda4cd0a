use Rattle.std.proofs.Common.{◌≡◌, ◌≢◌, ◌<◌, ◌++◌, ◌||◌, ℕ, Bool, true, false, cond, is_ok, is_some, Option, Some, None, List, [], ◌∷◌, length, refl, sym, subst, ap, ◌∙◌, inl, inr, zero, suc, arith, replicate}
use Rattle.std.proofs.lemmas.Bool.{cases_eq, false≢true, ne_eqb, le-ltb}
use Rattle.std.proofs.lemmas.Option.{none-some, same_Some}
use Rattle.pr_lawful.proofs.LawfulStates.HistoryLemmas.{history-state}
use Rattle.pr_lawful.proofs.LawfulTurns.TurnLemmas.{acting}
use Rattle.pr_lawful.proofs.Following.UseLemmas.{live-lawful}
use Rattle.pr_line.specs.declared.functions.Function.{Function}
use Rattle.pr_line.specs.declared.options.Options.{Options}
use Rattle.pr_model.specs.Calls.{Answer, answer_to, controlled}
use Rattle.pr_model.specs.Changes.{with_space}
use Rattle.pr_model.specs.ControlMessages.{aim_of, decoded_answer, system_refusal, tail_of, targeted_answer}
use Rattle.pr_model.specs.Lawful.{IsLawful}
use Rattle.pr_model.specs.Legal.{IsLegal, IsLegalEntry, after, state_after}
use Rattle.pr_model.specs.LwpTurns.{LwpTurn, turn_of}
use Rattle.pr_model.specs.Messages.{at_process, message_answer, refused, with_process_changed, write_answer}
use Rattle.pr_model.specs.Readers.{has_lent}
use Rattle.pr_model.specs.Registers.{pc_of}
use Rattle.pr_model.specs.State.{TracedLwp, TracedProcess, TracedState, live_process, lwp_of}
use Rattle.pr_model.specs.declared.calls.Call.{Call}
use Rattle.pr_model.specs.declared.calls.Call.TheVariants as call
use Rattle.pr_model.specs.declared.calls.File.TheVariants.{Ctl}
use Rattle.pr_model.specs.declared.calls.Mode.TheVariants.{WriteExcl}
use Rattle.pr_model.specs.declared.events.Act.{Act}
use Rattle.pr_model.specs.declared.events.Act.TheVariants as act
use Rattle.pr_model.specs.declared.events.Actor.{Actor}
use Rattle.pr_model.specs.declared.events.Actor.TheVariants.{Controller, Lwp, Clock}
use Rattle.pr_model.specs.declared.events.Entry.{Entry}
use Rattle.pr_model.specs.declared.handles.Held.{Held}
use Rattle.pr_num.specs.ById.{IsRising, under}
use Rattle.pr_num.specs.Messages.{message_code, nth_word, operands, spelling}
use Rattle.pr_num.specs.Spaces.{bytes_for}
use Rattle.pr_num.specs.Words.{word_bytes, word_of}
use Rattle.pr_num.specs.declared.errnos.Errno.TheVariants.{Busy, Io}
use Rattle.pr_num.specs.declared.messages.Message.TheVariants as message
use Rattle.pr_parts.specs.AddressSpaces.{with_bytes}
use Rattle.pr_report_laws.proofs.Files.WatchHistories.{cons-exchanges}
use Rattle.pr_truss.specs.Asides.{patching, with_aside, marks_at}
use Rattle.pr_truss.specs.FunctionCalls.{call_beside, next_function_call_of, patch_call}
use Rattle.pr_truss.specs.FunctionFeeding.{after_first, after_patch, fed_functions, planted_if, with_aside_answered, with_patch_answered, without_planted}
use Rattle.pr_truss.specs.Feeding.{fed}
use Rattle.pr_truss.specs.Marks.{address_of, breakpoint, code_of, first_function, has_functions, is_in, no_functions, with_function, without_function, address_in, code_in, put_back}
use Rattle.pr_truss.specs.Messages.{message_call}
use Rattle.pr_truss.specs.NextCalls.{next_call_of}
use Rattle.pr_truss.specs.Replies.{answer_of}
use Rattle.pr_truss.specs.Trusses.{TrussState, traced_at, nobody}
use Rattle.pr_truss.specs.declared.asides.Aside.{Aside}
use Rattle.pr_truss.specs.declared.asides.Aside.TheVariants.{Nothing, Patching}
use Rattle.pr_truss.specs.declared.processes.Traced.{Traced}
use Rattle.pr_truss.specs.declared.replies.Answer.{Answer as Answered}
use Rattle.pr_truss.specs.declared.replies.Answer.TheVariants.{Accepted, Gone, Interrupted, Refused}
use Rattle.pr_truss.specs.declared.stages.Stage.TheVariants.{Running, Closing}
use Rattle.pr_truss_laws.proofs.Replies.FunctionOptionLemmas.{fed_functions-options}
use Rattle.pr_truss_laws.proofs.Machine.OutlastLemmas.{others-entry, Outlasts}
use Rattle.pr_truss_laws.proofs.Machine.OverLemmas.{stays-over, stays-made}
use Rattle.pr_truss_laws.proofs.Machine.StillLemmas.{frozen-turns, live-changed}
use Rattle.pr_truss_laws.proofs.Machine.TakenLemmas.{ctl-is, process-aim}
use Rattle.pr_truss_laws.specs.Exchanges.{Exchange, exchange_of, exchanges}
use Rattle.pr_truss_laws.specs.Stills.{IsUndisturbed}
use Rattle.pr_function_laws.proofs.Stepping.AwayLemmas.{Away, away-acts, Own, away-weaker}
use Rattle.pr_function_laws.proofs.Stepping.BreakpointLemmas.{IsForeign, IsOwnEntry, foreign-entry, own-entry, sole-by, away-keeps, away-later, calm, gone-over, keeps, keeps-goes, others-stand, same-keeps, stand-later, handles-same, lawful-now, live-now, looks-now, own-met, seen-then, stands}
use Rattle.pr_function_laws.proofs.OpenedProcesses.CodeLemmas.{code-runs, lift-read, lift-tail, lift_bytes, lift_message, unmapped-code, written-code}
use Rattle.pr_function_laws.proofs.Stepping.FaultLemmas.{StandsAtFault, fault-frozen}
use Rattle.pr_function_laws.proofs.Marks.LiftLemmas.{Looks, step_flags, AfterLook, goes_on, has_ended, is_away, looks-weaker, ran-looks, reply-after, begun-is, met-is, met_at}
use Rattle.pr_function_laws.proofs.Marks.ReturnLemmas.{one-first}
use Rattle.pr_function_laws.specs.Lifted.{GoesElsewhere, HasControl, IsNoRead, ReadsOnlyLast, StepsNoCall, IsAtStopAtBreakpoint}
use Rattle.pr_function_laws.specs.Runs.{MakesFunctionCalls}
use Rattle.pr_function_laws.specs.Steppable.{HasCode, IsAtCode, IsSteppable, StepsItsCode}
use Rattle.pr_function_laws.specs.Steps.{RunsNoCall}
use Rattle.pr_line.specs.Functions.{function_limit}
use Rattle.pr_function_laws.proofs.OpenedProcesses.StoodCalls.{leaves_lwps, message-lwps}
use Rattle.pr_function_laws.proofs.OpenedProcesses.OpenedCalls.{write-as}
use Rattle.pr_truss_laws.specs.Handles.{HasNoOtherWriter}
use Rattle.pr_num.specs.Limits.{instruction_size}
use Rattle.std.specs.List.{cons_option, position_or_len, slice_get, slice_set}
use Rattle.pr_truss.specs.declared.stages.AfterClosing.{AfterClosing}
use Rattle.pr_truss.specs.declared.stages.AfterClosing.TheVariants.{GoOn}
use Rattle.pr_truss_laws.proofs.Machine.OutlastLemmas as outlast
use Rattle.pr_laws.proofs.RunLemmas.{representative-stands}
use Rattle.pr_function_laws.specs.Stretches.{acts_by}
use Rattle.pr_function_laws.proofs.Stepping.StretchLemmas as stretch
use Rattle.pr_lawful.proofs.LawfulTurns.EndLemmas.{found-live}
use Rattle.pr_line.specs.Events.{event_of}
use Rattle.pr_line.specs.declared.events.Event.TheVariants.{Incurred}
use Rattle.pr_model.specs.Statuses.{lwpstatus_of}
use Rattle.pr_num.specs.declared.faults.Flt.TheVariants.{Bpt}
use Rattle.pr_truss_laws.proofs.Machine.FrameLemmas.{was-made}
use Rattle.pr_function_laws.proofs.Marks.MetLemmas.{event-breaks, found-function, fresh-stands}
use Rattle.pr_function_laws.proofs.CallTurns.TurnReads.{fault-told, shown-lwp, told-stop}
use Rattle.std.proofs.lemmas.List.{length-replicate, length-set}

-- Where truss steps an lwp over the first instruction of a function, that instruction stands there again, as truss has
-- written it, and it is no system call.

-- ---- the set of one function

none-place : (n : ℕ) → position_or_len is_in (replicate n false) ≡ n
none-place zero = refl
none-place (suc n) = omega (arith, none-place n)

left-place : (n f : ℕ) → position_or_len is_in (slice_set (slice_set (replicate n false) f true) f false) ≡ n
left-place zero f = refl
left-place (suc n) zero = omega (arith, none-place n)
left-place (suc n) (suc f) = omega (arith, left-place n f)

left-length : (n f : ℕ) → length (slice_set (slice_set (replicate n false) f true) f false) ≡ n
left-length n f =
    length-set (slice_set (replicate n false) f true) f false ∙ length-set (replicate n false) f true
    ∙ length-replicate n false

one-left : (n f : ℕ) → first_function (slice_set (slice_set (replicate n false) f true) f false) ≡ None
one-left n f = rw (left-place n f, left-length n f, le-ltb n n (omega arith)) refl

-- ---- a write is no run

abbrev bytes_sent : Call → List ℕ
bytes_sent (call.Ctl handle bytes) = bytes
bytes_sent _ = []

write-first : (at size : ℕ) (code : List ℕ) → nth_word (spelling (message.Write at size) code) 0 ≡ 23
unfolding message_code operands nth_word word_bytes word_of
write-first at size code = refl

run-first : (flags : ℕ) → nth_word (spelling (message.Run flags) []) 0 ≢ 23
unfolding message_code operands nth_word word_bytes word_of
run-first flags is = cc

write-run : {handle other : ℕ} (at size : ℕ) (code : List ℕ) (flags : ℕ)
    → call.Ctl handle (spelling (message.Write at size) code) ≡ message_call other (message.Run flags) → ⊥
write-run at size code flags is =
    run-first flags (sym (ap (λ (d : Call). nth_word (bytes_sent d) 0) is) ∙ write-first at size code)

-- before any entry
nothing-in : (before : List Entry) (e : Entry) (later : List Entry) → [] ≡ before ++ e ∷ later → ⊥
nothing-in [] e later is = cc
nothing-in (g ∷ before) e later is = cc

pub calm-none : (k pid id c : ℕ) (s : TracedState) → StepsNoCall k pid id c s []
calm-none k pid id c s = record { each = λ before later e x p l is. absurd (nothing-in before e later is) }

-- ---- a process that stands at its breakpoint

module _ (n k pid id c ns : ℕ) (met : Traced) (place function : ℕ) (o : Options) (f : Function)
    (named : slice_get o.functions function ≡ Some f) (few : function < function_limit) (steppable : IsSteppable f)
  where
    abbrev Goes : TracedState → ℕ → Type 0
    Goes s m = GoesElsewhere k pid s m

    abbrev Stands : TracedState → Type 0
    Stands s = (p : TracedProcess) → live_process s.system pid ≡ Some p → StandsAtFault p id

    -- the lwp is at the address of the function
    abbrev IsThere : TracedState → Type 0
    IsThere s =
        (p : TracedProcess) (l : TracedLwp) → live_process s.system pid ≡ Some p → lwp_of p id ≡ Some l
        → pc_of l.regs ≡ f.at

    -- what can be fetched there is the first instruction of the function
    abbrev IsCoded : TracedState → Type 0
    IsCoded s = (p : TracedProcess) → live_process s.system pid ≡ Some p → HasCode f p.space

    pub only : List Bool
    only = with_function no_functions function

    -- truss plants others, and then lifts this one
    pub record IsLifting (t : TrussState) : Type 0 where
      pub options : t.options ≡ o
      pub plants : List Bool
      pub aside : t.aside ≡ Patching place plants only false

    -- Truss looks at the process, and has the breakpoint still to lift or has lifted it; or it is away from it.
    pub data Comes (t : TrussState) (s : TracedState) : Type 0 where
      lifting : Looks (Goes s) c ns met place t → HasControl k pid c s → Stands s → IsThere s → IsLifting t → Comes t s
      lifted : Looks (Goes s) c ns met place t → HasControl k pid c s → Stands s → IsThere s → t.aside ≡ Nothing
          → IsCoded s → Comes t s
      away : Away (Goes s) c ns met t → HasControl k pid c s → Comes t s
      over : live_process s.system pid ≡ None → Comes t s

    code-is : code_of o function ≡ f.code
    unfolding code_of
    code-is = ap code_in named

    address-is : address_of o function ≡ f.at
    unfolding address_of
    address-is = ap address_in named

    module _ (s : TracedState) (lawful : IsLawful s) (made : pid < s.system.made) (e : Entry)
        (legal : IsLegalEntry n s e) where
      gone-later : live_process s.system pid ≡ None → live_process (after s e).system pid ≡ None
      gone-later none = stays-over n s e pid lawful legal made none

      rises : (p : TracedProcess) → live_process s.system pid ≡ Some p → IsRising p.lwps
      rises p live = let l = live-lawful s.system pid p lawful.system live in l.rising

      -- what lives later lived before
      lived : (q : TracedProcess) → live_process (after s e).system pid ≡ Some q
          → (p : TracedProcess) × (live_process s.system pid ≡ Some p)
      lived q later = by (live_process s.system pid) refl
        where
          by : (x : Option TracedProcess) → live_process s.system pid ≡ x
              → (p : TracedProcess) × (live_process s.system pid ≡ Some p)
          by None none = absurd (none-some q (sym (gone-later none) ∙ later))
          by (Some p) live = (p, live)

      -- ---- an entry of others

      module _ (foreign : IsForeign k s e) (control : HasControl k pid c s) (stands : Stands s) where
        sole : HasNoOtherWriter k pid s.opens
        sole = sole-by n k pid id c ns met place s lawful made control

        elsewhere : (p q : TracedProcess) → live_process s.system pid ≡ Some p
            → live_process (after s e).system pid ≡ Some q → ((own : ℕ) → e.actor ≢ Lwp pid own) → IsUndisturbed p q
        elsewhere p q live later apart =
            by (others-entry n s k pid e p lawful sole legal apart foreign.other live)
          where
            by : Outlasts pid p (after s e).system → IsUndisturbed p q
            by (outlast.lives r now alone) = subst (IsUndisturbed p) (same_Some r q (sym now ∙ later)) alone
            by (outlast.killed z gone there status) = absurd (none-some q (sym gone ∙ later))

        frozen-turn : {A : Type 0} (p : TracedProcess) (own : ℕ) (t : LwpTurn) → live_process s.system pid ≡ Some p
            → turn_of s.system pid own ≡ Some t → A
        frozen-turn p own t live turn =
            absurd (none-some t (sym (frozen-turns s.system pid p live
            (fault-frozen p id (stands p live) (rises p live)) own) ∙ turn))

      others-alone : (foreign : IsForeign k s e) (control : HasControl k pid c s) (stands : Stands s)
          (p q : TracedProcess) → live_process s.system pid ≡ Some p
          → live_process (after s e).system pid ≡ Some q → IsUndisturbed p q
      unfolding IsLegalEntry
      others-alone foreign control stands p q live later = by e.actor e.act refl refl legal
        where
          alone : ((own : ℕ) → e.actor ≢ Lwp pid own) → IsUndisturbed p q
          alone apart = elsewhere foreign control stands p q live later apart

          by : (actor : Actor) (it : Act) → e.actor ≡ actor → e.act ≡ it
              → IsLegalEntry n s (record { actor = actor; act = it }) → IsUndisturbed p q
          by (Controller j) (act.Call d r) who what lawful_entry = alone (λ own same. other-actor (sym who ∙ same))
            where
              other-actor : {own : ℕ} → Controller j ≡ Lwp pid own → ⊥
              other-actor is = cc
          by (Lwp acting own) (act.Turn turned) who what lawful_entry = elim (cases_eq acting pid) [
            | inl same ↦ frozen-turn foreign control stands p own
                (record { system = lawful_entry.0; turned = turned }) live
                (subst (λ i. turn_of s.system i own ≡ Some (record { system = lawful_entry.0; turned = turned })) same
                lawful_entry.1)
            | inr differs ↦ alone (λ i same. differs (acting-same (sym who ∙ same)))
          ]
            where
              acting-same : {i : ℕ} → Lwp acting own ≡ Lwp pid i → acting ≡ pid
              acting-same is = cc
          by Clock (act.Tick m) who what lawful_entry = alone (λ own same. other-actor (sym who ∙ same))
            where
              other-actor : {own : ℕ} → Clock ≡ Lwp pid own → ⊥
              other-actor is = cc
          by _ _ who what lawful_entry = absurd lawful_entry

      others-come : (t : TrussState) → IsForeign k s e → Comes t s → Comes t (after s e)
      others-come t foreign (lifting looks control stands there is) =
          let kept = same-keeps n k pid id c ns met place s (after s e) foreign.handles control in
          lifting
          (looks-weaker (Goes s) (Goes (after s e)) c ns met place t
          (keeps-goes n k pid id c ns met place s (after s e) kept) looks)
          kept.control
          (others-stand n k pid id s lawful made (λ p live. sole foreign control stands) stands e legal foreign.other)
          (λ q l later at.
          let was = lived q later in
          let alone = others-alone foreign control stands was.0 q was.1 later in
          let m = alone.each id l at in
          ap (λ (x : TracedLwp). pc_of x.regs) m.1.1 ∙ there was.0 m.0 was.1 m.1.0)
          is
      others-come t foreign (lifted looks control stands there idle coded) =
          let kept = same-keeps n k pid id c ns met place s (after s e) foreign.handles control in
          lifted
          (looks-weaker (Goes s) (Goes (after s e)) c ns met place t
          (keeps-goes n k pid id c ns met place s (after s e) kept) looks)
          kept.control
          (others-stand n k pid id s lawful made (λ p live. sole foreign control stands) stands e legal foreign.other)
          (λ q l later at.
          let was = lived q later in
          let alone = others-alone foreign control stands was.0 q was.1 later in
          let m = alone.each id l at in
          ap (λ (x : TracedLwp). pc_of x.regs) m.1.1 ∙ there was.0 m.0 was.1 m.1.0)
          idle
          (λ q later.
          let was = lived q later in
          let alone = others-alone foreign control stands was.0 q was.1 later in
          let at_fault = stands was.0 was.1 in
          let memory = alone.memory in
          subst (HasCode f) (sym (memory.own at_fault.not_lent).1) (coded was.0 was.1))
      others-come t foreign (away it control) =
          let kept = same-keeps n k pid id c ns met place s (after s e) foreign.handles control in
          away
          (away-weaker (Goes s) (Goes (after s e)) c ns met t
          (keeps-goes n k pid id c ns met place s (after s e) kept) it)
          kept.control
      others-come t foreign (over none) = over (gone-later none)

      -- ---- a call of truss

      module _ (t : TrussState) (has : has_functions t.options ≡ true) (x : Exchange) (own : IsOwnEntry k s e x)
          (next : next_function_call_of t ≡ Some x.call) (quiet : IsNoRead ns x) where
        abbrev RunsCalm : Type 0
        RunsCalm =
            (p : TracedProcess) (l : TracedLwp) → x.call ≡ message_call c (message.Run step_flags)
            → live_process s.system pid ≡ Some p → lwp_of p id ≡ Some l → RunsNoCall p l

        abbrev RunsCode : Type 0
        RunsCode =
            (p : TracedProcess) (l : TracedLwp) → x.call ≡ message_call c (message.Run step_flags)
            → live_process s.system pid ≡ Some p → lwp_of p id ≡ Some l → IsAtCode f p l

        later-live : (q : TracedProcess) → live_process (after s e).system pid ≡ Some q
            → live_process own.answer.state.system pid ≡ Some q
        later-live q later = ap (λ (u : TracedState). live_process u.system pid) own.later ∙ later

        -- the lwps stay where memory is written
        written-there : HasControl k pid c s → IsThere s → (at size : ℕ) (code : List ℕ)
            → x.call ≡ call.Ctl c (spelling (message.Write at size) code) → IsThere (after s e)
        written-there control there at size code is q l later stands_there =
            let was = lived q later in
            let v : Traced = record nobody { pid = pid; control = c } in
            let keeps =
            message-lwps n k o s lawful x.call own.answer own.is
            (λ i small none. ap (λ (u : TracedState). live_process u.system i) own.later
            ∙ stays-over n s e i lawful legal small none) v
            (spelling (message.Write at size) code) is control was.0 q was.1 (later-live q later)
            (write-as leaves_lwps (λ a b. refl) at size code) in
            there was.0 l was.1 (ap (under id) (sym keeps.lwps) ∙ stands_there)

        -- ---- the breakpoint has still to be lifted

        module _ (looks : Looks (Goes s) c ns met place t) (control : HasControl k pid c s) (stands : Stands s)
            (there : IsThere s) (is : IsLifting t) where
          only-first : first_function only ≡ Some function
          unfolding only
          only-first = one-first function few

          call-is : x.call ≡ patch_call o c (first_function is.plants) (Some function)
          unfolding next_function_call_of call_beside
          call-is =
              let mine : Own (Goes s) c ns met (traced_at t place) = looks.own in
              same_Some _ _ (sym next
              ∙ ap (λ b. cond b (call_beside t t.stage t.aside) (next_call_of t)) has
              ∙ ap (call_beside t t.stage) is.aside
              ∙ ap (λ m. Some (patch_call t.options m (first_function is.plants) (first_function only))) mine.control
              ∙ ap (λ w. Some (patch_call t.options c (first_function is.plants) w)) only-first
              ∙ ap (λ w. Some (patch_call w c (first_function is.plants) (Some function))) is.options)

          -- it writes
          writes : (plant : Option ℕ)
              → (at : ℕ) × ((code : List ℕ) × (patch_call o c plant (Some function)
              ≡ call.Ctl c (spelling (message.Write at instruction_size) code)))
          writes (Some g) = (address_of o g, (breakpoint, refl))
          writes None = (address_of o function, (code_of o function, refl))

          none-run : {A : Type 0} → x.call ≡ message_call c (message.Run step_flags) → A
          none-run run =
              let w = writes (first_function is.plants) in
              absurd (write-run w.0 instruction_size w.1.0 step_flags (sym (call-is ∙ w.1.1) ∙ run))

          no-run : RunsCalm
          no-run p l run live at = none-run run

          now-there : IsThere (after s e)
          now-there =
              let w = writes (first_function is.plants) in
              written-there control there w.0 instruction_size w.1.0 (call-is ∙ w.1.1)

          -- what comes before the next call
          abbrev later : TrussState
          later = fed_functions t x.reply

          fed-is : (plant : Option ℕ) → first_function is.plants ≡ plant
              → later
              ≡ after_first (with_aside t Nothing) place is.plants only false (answer_of x.reply) plant (Some function)
          unfolding fed_functions with_aside_answered with_patch_answered
          fed-is plant first =
              ap (λ b. cond b (with_aside_answered t x.reply t.aside) (fed t x.reply)) has
              ∙ ap (with_aside_answered t x.reply) is.aside
              ∙ ap (λ w. after_first (with_aside t Nothing) place is.plants only false (answer_of x.reply) w
              (first_function only)) first
              ∙ ap (λ w. after_first (with_aside t Nothing) place is.plants only false (answer_of x.reply) plant w)
              only-first

          module _ (more : Looks (Goes s) c ns met place later) where
            patch-aside : (u : TrussState) (rest : Aside) → later ≡ after_patch u rest place t.stage (answer_of x.reply)
                → later.aside ≡ rest
            unfolding after_patch
            patch-aside u rest same = by (answer_of x.reply) refl
                (same ∙ ap (λ st. after_patch u rest place st (answer_of x.reply)) looks.stage)
              where
                closing-not : (after : AfterClosing) → Closing place after ≡ Running place → ⊥
                closing-not after it = cc

                by : (a : Answered) → answer_of x.reply ≡ a
                    → later ≡ after_patch u rest place (Running place) (answer_of x.reply) → later.aside ≡ rest
                by Accepted at it =
                    ap (λ (v : TrussState). v.aside) (it ∙ ap (after_patch u rest place (Running place)) at)
                by (Refused errno) at it =
                    ap (λ (v : TrussState). v.aside) (it ∙ ap (after_patch u rest place (Running place)) at)
                by Gone at it =
                    absurd (closing-not GoOn
                    (sym (ap (λ (v : TrussState). v.stage) (it ∙ ap (after_patch u rest place (Running place)) at))
                    ∙ more.stage))
                by Interrupted at it =
                    absurd (calm n k pid id c ns met place s lawful made e legal t has x own next quiet no-run at)

            busy-on : (plants : List Bool) → patching place plants only false ≡ Patching place plants only false
            unfolding patching
            busy-on plants =
                ap (λ w. cond (is_some (first_function plants) || is_some w || false) (Patching place plants only false)
                Nothing) only-first
                ∙ or-on (is_some (first_function plants))
              where
                or-on : (b : Bool)
                    → cond (b || true || false) (Patching place plants only false) Nothing
                    ≡ Patching place plants only false
                or-on true = refl
                or-on false = refl

            plants-on : (g : ℕ) → first_function is.plants ≡ Some g → IsLifting later
            plants-on g first = record {
              options = fed_functions-options t x.reply ∙ is.options;
              plants = without_function is.plants g;
              aside = patch-aside (planted_if (with_aside t Nothing) place g (answer_of x.reply)) _
                  (fed-is (Some g) first) ∙ busy-on (without_function is.plants g);
            }

            lifts-off : first_function is.plants ≡ None → later.aside ≡ Nothing
            unfolding patching only
            lifts-off first =
                patch-aside (without_planted (with_aside t Nothing) place function) _ (fed-is None first)
                ∙ ap (λ w. cond (is_some w || is_some (first_function (without_function only function)) || false)
                (Patching place is.plants (without_function only function) false) Nothing) first
                ∙ ap (λ w. cond (false || is_some w || false)
                (Patching place is.plants (without_function only function) false) Nothing)
                (one-left function_limit function)

          -- its memory, once the instruction was written, or was refused since nothing is mapped there
          lift-codes : first_function is.plants ≡ None → IsCoded (after s e)
          unfolding message_answer write_answer with_space
          lift-codes first q later_live =
              let was = lived q later_live in
              by was.0 was.1
            where
              sent : x.call ≡ call.Ctl c (lift_bytes f steppable)
              sent =
                  call-is ∙ ap (λ w. patch_call o c w (Some function)) first
                  ∙ ap (λ a. call.Ctl c (spelling (message.Write a instruction_size) (code_of o function))) address-is
                  ∙ ap (λ b. call.Ctl c (spelling (message.Write f.at instruction_size) b)) code-is

              held : Held
              held = record { controller = k; pid = pid; lwp = 0; file = Ctl; mode = WriteExcl }

              wrote : (p : TracedProcess) → live_process s.system pid ≡ Some p → (len : ℕ) (lent fits : Bool)
                  → has_lent p ≡ lent → is_ok (bytes_for 0 p.space f.at (length f.code)) ≡ fits
                  → own.answer ≡ controlled s
                  (cond lent (refused s.system Busy)
                  (cond fits (with_process_changed s.system pid p len (with_space (with_bytes f.at f.code p.space)))
                  (refused s.system Io))) → HasCode f q.space
              wrote p live len true fits lends maps it =
                  let at = stands p live in absurd (false≢true (sym (ap is_some at.not_lent) ∙ lends))
              wrote p live len false false lends maps it =
                  let same : p ≡ q =
                  same_Some p q (sym live
                  ∙ ap (λ (z : Answer). live_process z.state.system pid) (sym it) ∙ later-live q later_live) in
                  subst (λ (y : TracedProcess). HasCode f y.space) same (unmapped-code f steppable p.space maps)
              wrote p live len false true lends maps it =
                  let now : live_process own.answer.state.system pid
                  ≡ Some (with_space (with_bytes f.at f.code p.space) p) =
                  ap (λ (z : Answer). live_process z.state.system pid) it
                  ∙ live-changed s.system pid (with_space (with_bytes f.at f.code p.space)) p live refl in
                  let same = same_Some (with_space (with_bytes f.at f.code p.space) p) q (sym now ∙ later-live q
                  later_live)
                  in
                  subst (λ (y : TracedProcess). HasCode f y.space) same (written-code f steppable p.space maps)

              by : (p : TracedProcess) → live_process s.system pid ≡ Some p → HasCode f q.space
              by p live =
                  let at = stands p live in
                  let user = acting s.system pid id p at.lwp lawful.system live
                  (representative-stands p (id, at.lwp) (rises p live) at.leads) in
                  let taken : own.answer
                  ≡ controlled s
                  (message_answer s.system pid p at_process (lift_message f steppable)
                  (tail_of (lift_message f steppable) (lift_bytes f steppable)) (length (lift_bytes f steppable))) =
                  ctl-is s k c held control refl (lift_bytes f steppable) own.answer (ap (answer_to s k) (sym sent) ∙
                  own.is)
                  ∙ ap (λ y. controlled s (targeted_answer s.system held y (lift_bytes f steppable))) live
                  ∙ ap (λ y. controlled s (decoded_answer s.system held p (lift_bytes f steppable) y))
                  (lift-read f steppable)
                  ∙ ap (λ b. controlled s
                  (cond b (refused s.system (system_refusal (lift_message f steppable)))
                  (message_answer s.system pid p (aim_of held) (lift_message f steppable)
                  (tail_of (lift_message f steppable) (lift_bytes f steppable)) (length (lift_bytes f steppable)))))
                  (ne_eqb pid 0 user.user)
                  ∙ ap (λ y. controlled s
                  (message_answer s.system pid p y (lift_message f steppable)
                  (tail_of (lift_message f steppable) (lift_bytes f steppable)) (length (lift_bytes f steppable))))
                  (process-aim held refl) in
                  wrote p live (length (lift_bytes f steppable)) (has_lent p)
                  (is_ok (bytes_for 0 p.space f.at (length f.code))) refl refl
                  (taken
                  ∙ ap (λ y. controlled s
                  (message_answer s.system pid p at_process (lift_message f steppable) y
                  (length (lift_bytes f steppable)))) (lift-tail f steppable))

          lifting-next : AfterLook (Goes s) c ns met place t.options x.reply x.call later → Comes later (after s e)
          lifting-next (goes_on more g code same) =
              let kept = keeps n k pid id c ns met place s lawful made e legal t has x own next quiet no-run looks
              control stands in
              let looking =
              looks-weaker (Goes s) (Goes (after s e)) c ns met place later
              (keeps-goes n k pid id c ns met place s (after s e) kept) more in
              let stood =
              stand-later n k pid id c ns met place s lawful made e legal t has x own next quiet no-run looks control
              stands g code same in
              by (first_function is.plants) refl looking kept.control stood
            where
              by : (plant : Option ℕ) → first_function is.plants ≡ plant
                  → Looks (Goes (after s e)) c ns met place later → HasControl k pid c (after s e) → Stands (after s e)
                  → Comes later (after s e)
              by (Some h) first looking held_control stood =
                  lifting looking held_control stood now-there (plants-on more h first)
              by None first looking held_control stood =
                  lifted looking held_control stood now-there (lifts-off more first) (lift-codes first)
          lifting-next (is_away it ran) =
              let kept = keeps n k pid id c ns met place s lawful made e legal t has x own next quiet no-run looks
              control stands in
              away
              (away-weaker (Goes s) (Goes (after s e)) c ns met later
              (keeps-goes n k pid id c ns met place s (after s e) kept) it) kept.control
          lifting-next (has_ended gone) =
              over (gone-over n k pid id c ns met place s lawful made e legal t has x own next quiet no-run looks
              control
              stands gone)

          pub lifting-comes : Comes later (after s e)
          lifting-comes =
              lifting-next (reply-after (Goes s) c ns met place t looks has x.reply
              (calm n k pid id c ns met place s lawful made e legal t has x own next quiet no-run) x.call next)

        -- ---- the breakpoint was lifted: it is stepped

        module _ (looks : Looks (Goes s) c ns met place t) (control : HasControl k pid c s) (stands : Stands s)
            (there : IsThere s) (idle : t.aside ≡ Nothing) (coded : IsCoded s) where
          run-code : RunsCode
          run-code p l run live at = record { at = there p l live at; code = coded p live }

          run-calm : RunsCalm
          run-calm p l run live at = code-runs f steppable p l (run-code p l run live at)

          run-is : x.call ≡ message_call c (message.Run step_flags)
          unfolding next_function_call_of call_beside
          run-is =
              ran-looks (Goes s) c ns met place t looks has x.call
              (sym (ap (λ b. cond b (call_beside t t.stage t.aside) (next_call_of t)) has
              ∙ ap (call_beside t t.stage) idle) ∙ next)

          lifted-next : AfterLook (Goes s) c ns met place t.options x.reply x.call (fed_functions t x.reply)
              → Comes (fed_functions t x.reply) (after s e)
          lifted-next (goes_on more g code same) =
              absurd (write-run (address_of t.options g) instruction_size code step_flags (sym same ∙ run-is))
          lifted-next (is_away it ran) =
              let kept = keeps n k pid id c ns met place s lawful made e legal t has x own next quiet run-calm looks
              control stands in
              away
              (away-weaker (Goes s) (Goes (after s e)) c ns met (fed_functions t x.reply)
              (keeps-goes n k pid id c ns met place s (after s e) kept) it) kept.control
          lifted-next (has_ended gone) =
              over (gone-over n k pid id c ns met place s lawful made e legal t has x own next quiet run-calm looks
              control
              stands gone)

          pub lifted-comes : Comes (fed_functions t x.reply) (after s e)
          lifted-comes =
              lifted-next (reply-after (Goes s) c ns met place t looks has x.reply
              (calm n k pid id c ns met place s lawful made e legal t has x own next quiet run-calm) x.call next)

        -- ---- truss is away

        module _ (it : Away (Goes s) c ns met t) (control : HasControl k pid c s) where
          away-none : {A : Type 0} → x.call ≡ message_call c (message.Run step_flags) → A
          away-none run = absurd (away-acts (Goes s) c ns met t it c has x.call next (ap acts_by run) _ control refl)

          away-calm : RunsCalm
          away-calm p l run live at = away-none run

          pub away-comes : Comes (fed_functions t x.reply) (after s e)
          away-comes =
              let kept =
              away-keeps n k pid id c ns met place s lawful made e legal t has x own next quiet away-calm it control in
              away
              (away-later n k pid id c ns met place s lawful made e legal t has x own next quiet away-calm it control)
              kept.control

        pub comes-code : Comes t s → RunsCode
        comes-code (lifting looks control stands there is) p l run live at =
            none-run looks control stands there is run
        comes-code (lifted looks control stands there idle coded) p l run live at =
            run-code looks control stands there idle coded p l run live at
        comes-code (away it control) p l run live at = away-none it control run
        comes-code (over none) p l run live at = absurd (none-some p (sym none ∙ live))

        pub own-comes : Comes t s → Comes (fed_functions t x.reply) (after s e)
        own-comes (lifting looks control stands there is) = lifting-comes looks control stands there is
        own-comes (lifted looks control stands there idle coded) = lifted-comes looks control stands there idle coded
        own-comes (away it control) = away-comes it control
        own-comes (over none) = over (gone-later none)

    -- ---- all entries

    code-none : (s : TracedState) → StepsItsCode k pid id c f s []
    code-none s = record { each = λ before later e x p l is. absurd (nothing-in before e later is) }

    code-cons : (s : TracedState) (e : Entry) (h : List Entry)
        → ((x : Exchange) (p : TracedProcess) (l : TracedLwp) → exchange_of k e ≡ Some x
        → x.call ≡ message_call c (message.Run step_flags) → live_process s.system pid ≡ Some p → lwp_of p id ≡ Some l
        → IsAtCode f p l) → StepsItsCode k pid id c f (after s e) h → StepsItsCode k pid id c f s (e ∷ h)
    code-cons s e h first rest = record { each = by }
      where
        by : (before later : List Entry) (g : Entry) (x : Exchange) (p : TracedProcess) (l : TracedLwp)
            → e ∷ h ≡ before ++ g ∷ later → exchange_of k g ≡ Some x
            → x.call ≡ message_call c (message.Run step_flags)
            → live_process (state_after s before).system pid ≡ Some p → lwp_of p id ≡ Some l → IsAtCode f p l
        by [] later g x p l is own run live at =
            first x p l (ap (exchange_of k) (stretch.head-same e g h later is) ∙ own) run live at
        by (g ∷ before) later m x p l is own run live at =
            let same : e ≡ g = stretch.head-same e g h (before ++ m ∷ later) is in
            rest.each before later m x p l (stretch.tail-same e g h (before ++ m ∷ later) is) own run
            (subst (λ (i : Entry). live_process (state_after (after s i) before).system pid ≡ Some p) (sym same)
            live) at

    -- entries of others alone
    code-others : (h : List Entry) (s : TracedState) → exchanges k h ≡ [] → StepsItsCode k pid id c f s h
    code-others [] s none = code-none s
    code-others (e ∷ h) s none =
        other-first s e h (exchange_of k e) refl (sym (cons-exchanges k e h) ∙ none)
        (λ rest. code-others h (after s e) rest)
      where
        other-first : (s : TracedState) (e : Entry) (h : List Entry) (x : Option Exchange) → exchange_of k e ≡ x
            → cons_option x (exchanges k h) ≡ []
            → (exchanges k h ≡ [] → StepsItsCode k pid id c f (after s e) h) → StepsItsCode k pid id c f s (e ∷ h)
        other-first s e h None own rest more =
            code-cons s e h (λ x p l is. absurd (none-some x (sym own ∙ is))) (more rest)
        other-first s e h (Some x) own rest more = cc

    abbrev Rest : TracedState → List Entry → Type 0
    Rest s h =
        (u : TrussState) → has_functions u.options ≡ true → MakesFunctionCalls u (exchanges k h) → Comes u s
        → ReadsOnlyLast ns (exchanges k h) → StepsItsCode k pid id c f s h

    entry-code : (s : TracedState) (e : Entry) (h : List Entry) (t : TrussState) → IsLawful s → pid < s.system.made
        → has_functions t.options ≡ true → IsLegalEntry n s e → Comes t s → Rest (after s e) h
        → (o : Option Exchange) → exchange_of k e ≡ o → MakesFunctionCalls t (cons_option o (exchanges k h))
        → ReadsOnlyLast ns (cons_option o (exchanges k h)) → StepsItsCode k pid id c f s (e ∷ h)
    entry-code s e h t lawful made has legal comes rest None own makes quiet =
        code-cons s e h (λ x p l is. absurd (none-some x (sym own ∙ is)))
        (rest t has makes (others-come s lawful made e legal t (foreign-entry n k s e legal own) comes) quiet)
    entry-code s e h t lawful made has legal comes rest (Some x) own makes (inl quiet) =
        let its = own-entry n k s e x legal own in
        code-cons s e h (λ y p l is.
        subst (λ (z : Exchange). z.call ≡ message_call c (message.Run step_flags) → live_process s.system pid ≡ Some p
        → lwp_of p id ≡ Some l → IsAtCode f p l) (same_Some x y (sym own ∙ is))
        (comes-code s lawful made e legal t has x its makes.0 quiet.0 comes p l))
        (rest (fed_functions t x.reply) (ap has_functions (fed_functions-options t x.reply) ∙ has) makes.1
        (own-comes s lawful made e legal t has x its makes.0 quiet.0 comes) quiet.1)
    entry-code s e h t lawful made has legal comes rest (Some x) own makes (inr ends) =
        code-cons s e h (λ y p l is run.
        absurd (read-run (ap (λ (d : Call). acts_by d)
        (sym ends.0 ∙ ap (λ (z : Exchange). z.call) (same_Some x y (sym own ∙ is)) ∙ run))))
        (code-others h (after s e) ends.1)
      where
        read-run : None ≡ Some c → ⊥
        read-run same = cc

    pub history-code : (h : List Entry) (t : TrussState) (s : TracedState) → IsLawful s → pid < s.system.made
        → has_functions t.options ≡ true → IsLegal n s h → MakesFunctionCalls t (exchanges k h) → Comes t s
        → ReadsOnlyLast ns (exchanges k h) → StepsItsCode k pid id c f s h
    history-code [] t s lawful made has legal makes comes quiet = code-none s
    history-code (e ∷ h) t s lawful made has legal makes comes quiet =
        entry-code s e h t lawful made has legal.0 comes
        (λ u its more now still. history-code h u (after s e) (history-state n s (e ∷ []) lawful (legal.0, tt))
        (stays-made n s e pid lawful legal.0 made) its legal.1 more now still)
        (exchange_of k e) refl (subst (MakesFunctionCalls t) (cons-exchanges k e h) makes)
        (subst (ReadsOnlyLast ns) (cons-exchanges k e h) quiet)

-- ---- the read at the breakpoint

module _ (n k : ℕ) (t : TrussState) (place ns pid id : ℕ) (s : TracedState) (e : Entry)
    (w : IsAtStopAtBreakpoint n k t place ns pid id s e []) (f : Function)
    (named : slice_get t.options.functions (let m = w.meets in m.function) ≡ Some f)
    (few : (let m = w.meets in m.function) < function_limit) (steppable : IsSteppable f) where
  abbrev function : ℕ
  function = let m = w.meets in m.function

  abbrev c : ℕ
  c = (traced_at t place).control

  abbrev met : Traced
  met = let m = w.meets in met_at t place m.l function

  abbrev begun : TrussState
  begun = fed_functions t w.x.reply

  -- truss plants what the step before has lifted, and lifts this one
  begun-lifts : IsLifting n k pid id c ns met place function t.options f named few steppable begun
  unfolding patching only put_back
  begun-lifts =
      let m = w.meets in
      let files = w.files in
      record {
        options = fed_functions-options t w.x.reply;
        plants = put_back (marks_at t place);
        aside =
            ap (λ (u : TrussState). u.aside)
            (met-is (GoesElsewhere k pid s) c ns met place t w.x w.meets w.has w.follows_none
            (own-met n k t place ns pid id s e [] w) files.others
            ∙ begun-is (GoesElsewhere k pid s) c ns met place t w.x w.meets w.has w.follows_none
            (own-met n k t place ns pid id s e [] w) files.others)
            ∙ ap (λ o. cond (is_some (first_function (put_back (marks_at t place))) || is_some o || false)
            (Patching place (put_back (marks_at t place)) (with_function no_functions function) false) Nothing)
            (one-first function few)
            ∙ or-true (is_some (first_function (put_back (marks_at t place))));
      }
    where
      or-true : (b : Bool)
          → cond (b || true || false)
          (Patching place (put_back (marks_at t place)) (with_function no_functions function) false) Nothing
          ≡ Patching place (put_back (marks_at t place)) (with_function no_functions function) false
      or-true true = refl
      or-true false = refl

  -- the lwp is at the address of the function
  its-place : (l : TracedLwp) → lwp_of w.process id ≡ Some l → pc_of l.regs ≡ f.at
  its-place l there =
      let m = w.meets in
      let told = w.told in
      let on = fresh-stands (traced_at t place) m.l m.event m.fresh in
      let b = event-breaks t.options (marks_at t place) m.l.id m.event function m.at_breakpoint in
      let found = found-function t.options b.pc function b.found in
      let own = live-lawful s.system pid w.process (let it = w.lawful in it.system) w.live in
      let shown = shown-lwp w.process m.l m.event own.rising (seen-then n k t place ns pid id s e [] w) on in
      let incurs : event_of (lwpstatus_of w.process m.l.id shown.lwp) ≡ Some (Incurred Bpt b.pc) =
      ap event_of (sym shown.is) ∙ on ∙ ap (λ x. Some x) b.is in
      let stops = told-stop w.process m.l.id shown.lwp Bpt b.pc incurs in
      let at : pc_of shown.lwp.regs ≡ b.pc =
      incurred-pc (pc_of shown.lwp.regs) b.pc
      (sym (fault-told w.process m.l.id shown.lwp Bpt stops) ∙ incurs) in
      let one : shown.lwp ≡ l =
      same_Some shown.lwp l (sym shown.there ∙ ap (lwp_of w.process) told.its ∙ there) in
      let which : found.0 ≡ f = same_Some found.0 f (sym found.1.0 ∙ named) in
      ap (λ (y : TracedLwp). pc_of y.regs) (sym one) ∙ at ∙ sym found.1.1 ∙ ap (λ (y : Function). y.at) which
    where
      incurred-pc : (a b : ℕ) → Some (Incurred Bpt a) ≡ Some (Incurred Bpt b) → a ≡ b
      incurred-pc a b is = cc

  first-comes : Comes n k pid id c ns met place function t.options f named few steppable begun (after s e)
  first-comes =
      let files = w.files in
      let now = live-now n k t place ns pid id s e [] w in
      lifting (looks-now n k t place ns pid id s e [] w)
      (handles-same n k t place ns pid id s e [] w c ∙ files.control)
      (λ p live. subst (λ (q : TracedProcess). StandsAtFault q id) (same_Some w.process p (sym now ∙ live))
      (stands n k t place ns pid id s e [] w))
      (λ p l live there.
      its-place l (ap (λ (q : TracedProcess). lwp_of q id) (same_Some w.process p (sym now ∙ live)) ∙ there))
      begun-lifts

  -- wherever truss steps the lwp from there on, the first instruction of the function stands there
  pub steps-code : (h : List Entry) → IsLegal n (after s e) h → MakesFunctionCalls begun (exchanges k h)
      → ReadsOnlyLast ns (exchanges k h) → StepsItsCode k pid id c f (after s e) h
  steps-code h legal makes quiet =
      let before =
      was-made pid s.system w.process (let it = w.lawful in it.system)
      (found-live s.system pid w.process w.live).0 in
      history-code n k pid id c ns met place function t.options f named few steppable h begun (after s e)
      (lawful-now n k t place ns pid id s e [] w) (stays-made n s e pid w.lawful w.legal.0 before)
      (ap has_functions (fed_functions-options t w.x.reply) ∙ w.has) legal makes first-comes quiet

-- and so its next instruction is no system call
pub code-calm : (k pid id c : ℕ) (f : Function) → IsSteppable f → (s : TracedState) (h : List Entry)
    → StepsItsCode k pid id c f s h → StepsNoCall k pid id c s h
code-calm k pid id c f steppable s h w = record {
  each = λ before later e x p l is own run live there.
      code-runs f steppable p l (w.each before later e x p l is own run live there);
}
