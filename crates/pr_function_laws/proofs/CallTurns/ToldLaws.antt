use Rattle.std.proofs.Common.{◌≡◌, ◌≢◌, ◌==◌, ◌<◌, ◌++◌, ℕ, true, false, cond, Option, Some, None, List, [], ◌∷◌, length, append_assoc, append-nil, refl, sym, subst, ap, ◌∙◌, arith}
use Rattle.std.proofs.lemmas.Bool.{false≢true}
use Rattle.std.proofs.lemmas.List.Elements.{All-head}
use Rattle.std.proofs.lemmas.Option.{none-some, same_Some, slice_get_within}
use Rattle.std.specs.List.{All, cons_option, slice_get}
use Rattle.std.specs.Option.{option_and_then}
use Rattle.pr_line.specs.Events.{event_of}
use Rattle.pr_line.specs.declared.events.Event.{Event}
use Rattle.pr_line.specs.declared.functions.Function.{Function}
use Rattle.pr_line.specs.declared.options.Options.{Options}
use Rattle.pr_model.specs.Calls.{answer_to}
use Rattle.pr_model.specs.Legal.{IsLegalEntry, state_after}
use Rattle.pr_model.specs.Replies.{bytes_in}
use Rattle.pr_model.specs.State.{TracedProcess, TracedState, live_process}
use Rattle.pr_model.specs.declared.calls.File.TheVariants.{Status}
use Rattle.pr_model.specs.declared.calls.Mode.TheVariants.{Read}
use Rattle.pr_model.specs.declared.calls.Reply.{Reply}
use Rattle.pr_model.specs.declared.calls.Reply.TheVariants as reply
use Rattle.pr_model.specs.declared.events.Entry.{Entry}
use Rattle.pr_rec.specs.declared.lwps.LwpStatus.{LwpStatus}
use Rattle.pr_report_laws.proofs.Files.WatchHistories.{cons-exchanges, exchanges-both, exchanges-push, no-exchanges}
use Rattle.pr_report_laws.proofs.Invariant.StandLemmas.{Each}
use Rattle.pr_report_laws.proofs.Machine.RecordLaws.{status-ended}
use Rattle.pr_report_laws.proofs.SeenChildren.Splits.{state_after-both}
use Rattle.pr_report_laws.proofs.Watching.HistoryParts.{all-front, all-rest}
use Rattle.pr_truss.specs.Asides.{marks_at}
use Rattle.pr_truss.specs.FunctionCalls.{next_function_call_of}
use Rattle.pr_truss.specs.FunctionEvents.{fresh_event, step_of}
use Rattle.pr_truss.specs.FunctionFeeding.{fed_functions}
use Rattle.pr_truss.specs.Marks.{has_functions}
use Rattle.pr_truss.specs.NextCalls.{read_record}
use Rattle.pr_truss.specs.Records.{status_lwp}
use Rattle.pr_truss.specs.Replies.{answer_of}
use Rattle.pr_truss.specs.Trusses.{TrussState, first_truss, traced_at}
use Rattle.pr_truss.specs.declared.asides.Aside.{Aside}
use Rattle.pr_truss.specs.declared.asides.Aside.TheVariants.{Nothing}
use Rattle.pr_truss.specs.declared.marks.Stepped.{Stepped}
use Rattle.pr_truss.specs.declared.processes.Traced.{Traced}
use Rattle.pr_truss.specs.declared.replies.Answer.TheVariants.{Accepted, Interrupted, Gone}
use Rattle.pr_truss.specs.declared.reports.Report.{Report}
use Rattle.pr_truss.specs.declared.stages.Stage.{Stage}
use Rattle.pr_truss.specs.declared.stages.Stage.TheVariants.{OpeningControl, ReadingLwps, ReadingStatus}
use Rattle.pr_truss_laws.proofs.Files.HeldLemmas.{at_place}
use Rattle.pr_truss_laws.proofs.Files.OpensLemmas.{held_by}
use Rattle.pr_truss_laws.proofs.Machine.OverLemmas.{stays-over}
use Rattle.pr_truss_laws.specs.Exchanges.{Exchange, exchange_of, exchanges}
use Rattle.pr_function_laws.proofs.CallTurns.BegunSteps.{IsUnderWay, Steps, StepsAt, WasBegun, begun, each-found, ended, only-last, other-kept, quiet-push, read-kept, reading-at, reading-is, reading_now}
use Rattle.pr_function_laws.proofs.Stepping.BreakpointLemmas.{IsOwnEntry, own-entry, read-is}
use Rattle.pr_function_laws.proofs.CallTurns.CalledLaws.{calls-are-turns, step-there, tells-there}
use Rattle.pr_function_laws.proofs.Marks.KeptPlaces.{AtStage, Kept, Position, apart-at, closes, first-kept, kept-weaker, looks, opens, rests, runs, to_read}
use Rattle.pr_function_laws.proofs.Marks.MetLemmas.{event-breaks, found-function}
use Rattle.pr_function_laws.proofs.OpenedProcesses.OpenedCalls.{control-fresh, lowest}
use Rattle.pr_function_laws.proofs.OpenedProcesses.OpenedLaws.{Goes, before-goes, holds-opened}
use Rattle.pr_function_laws.proofs.OpenedProcesses.OpenedLemmas.{control-made}
use Rattle.pr_function_laws.proofs.CallTurns.StepMarks.{AreLike, EndsNoStep, IsRead, Leaves, begins, clears, keeps, no-other-trap, status-read}
use Rattle.pr_function_laws.proofs.CallTurns.TurnReads.{shows-call}
use Rattle.pr_function_laws.proofs.CallTurns.TurnWalks.{AreNoReads}
use Rattle.pr_function_laws.specs.CalledTurns.{ReadsTwice}
use Rattle.pr_function_laws.specs.Calls.{call_beside, call_of_lwp, call_read, call_told}
use Rattle.pr_function_laws.specs.Lifted.{IsNoRead, ReadsOnlyLast}
use Rattle.pr_function_laws.specs.ReachedRuns.{IsReachedFunctionRun}
use Rattle.pr_function_laws.specs.Opened.{OwnsAndTraces, ReadsBreakpoint, WasNotInterrupted, functions_at, is_opened}
use Rattle.pr_function_laws.specs.Runs.{functions_after, functions_on}
use Rattle.pr_function_laws.specs.Steppable.{IsSteppable}
use Rattle.pr_function_laws.specs.ToldTurns.{AreSteppable, TellsATurn, TellsTurnsAlone}
use Rattle.pr_function_laws.specs.Turns.{ends_step}
use Rattle.pr_function_laws.proofs.Pending.FrontLemmas as fronts
use Rattle.pr_function_laws.proofs.Pending.FrontLemmas.{calm-answer}

-- Each call that truss tells in a history, until it is interrupted, is told by the second read of a stop at a
-- breakpoint.

same-place : (a b : ℕ) → ReadingStatus a ≡ ReadingStatus b → a ≡ b
same-place a b is = cc

-- truss reads the status of this process next, in which this step is under way; and it has not looked at its stop yet
record ReadsStep (t : TrussState) (pid : ℕ) (step : Stepped) : Type 0 where
  at : ℕ
  is : reading_now t ≡ Some at
  own : (traced_at t at).pid ≡ pid
  new : ((traced_at t at).old == 0) ≡ true
  unseen : (traced_at t at).seen ≡ false
  under_way : (marks_at t at).stepped ≡ Some step

-- truss reads the status of this process next
record ReadsIt (t : TrussState) (pid : ℕ) : Type 0 where
  at : ℕ
  is : reading_now t ≡ Some at
  own : (traced_at t at).pid ≡ pid

pub new-event : (u : Traced) (l : LwpStatus) (e : Event) → (u.old == 0) ≡ true → u.seen ≡ false → event_of l ≡ Some e
    → fresh_event u l ≡ Some e
unfolding fresh_event
new-event u l e new unseen on =
    ap (λ b. cond b (cond u.seen None (event_of l)) None) new ∙ ap (λ b. cond b None (event_of l)) unseen ∙ on

module _ (n k : ℕ) (o : Options) (s : TracedState) (h : List Entry) (run : IsReachedFunctionRun n k o s h)
    (able : AreSteppable o) where
  goes : (front later : List Entry) → h ≡ front ++ later → All WasNotInterrupted (exchanges k front)
      → Goes ⊥ k o (functions_at k o front) (state_after s front)
  goes front later is calm =
      before-goes n k o s h run.of front later is calm ⊥ (λ none. absurd none) (λ none. absurd none)

  module _ (front : List Entry) (e : Entry) (later : List Entry) (is : h ≡ front ++ e ∷ later)
      (calm : All WasNotInterrupted (exchanges k front)) where
    abbrev t : TrussState
    t = functions_at k o front

    abbrev now : TracedState
    now = state_after s front

    abbrev next : List Entry
    next = front ++ e ∷ []

    here : Goes ⊥ k o t now
    here = fronts.here n k o s h run.of front e later is calm

    pub legal : IsLegalEntry n now e
    legal = fronts.legal n k o s h run.of front e later is calm

    has : has_functions t.options ≡ true
    has = fronts.has n k o s h run.of front e later is calm

    made-at : (q : ℕ) → q < length t.traced → (traced_at t q).pid < now.system.made
    made-at q within =
        let g = here in
        let w = g.kept in
        let low = lowest ⊥ k t.options now t.traced t.stage w.stage q within in
        let held = low.holds in
        control-made k (traced_at t q).pid (traced_at t q).control now g.lawful held.its

    stays-ended : (pid : ℕ) → pid < now.system.made → live_process now.system pid ≡ None
        → live_process (state_after s next).system pid ≡ None
    stays-ended pid made none =
        let g = here in
        ap (λ (u : TracedState). live_process u.system pid) (state_after-both s front (e ∷ []))
        ∙ stays-over n now e pid g.lawful legal made none

    -- ---- the second read of a stop

    module _ (pid : ℕ) (status : Option ℕ) (step : Stepped) (b : WasBegun k o front pid status step) where
      abbrev t0 : TrussState
      t0 = functions_at k o b.before

      abbrev id : ℕ
      id = let m = b.meets in m.l.id

      pub parted : h ≡ b.before ++ b.e ∷ (b.between ++ e ∷ later)
      parted =
          is ∙ ap (λ es. es ++ e ∷ later) b.is ∙ append_assoc b.before (b.e ∷ b.between) (e ∷ later)

      pub calm-before : All WasNotInterrupted (exchanges k b.before)
      calm-before =
          all-front WasNotInterrupted (exchanges k b.before) (exchanges k (b.e ∷ b.between))
          (subst (All WasNotInterrupted) (ap (exchanges k) b.is ∙ exchanges-both k b.before (b.e ∷ b.between)) calm)

      options-then : t0.options ≡ o
      options-then = let g = goes b.before (b.e ∷ (b.between ++ e ∷ later)) parted calm-before in g.options

      abbrev function : ℕ
      function = let m = b.meets in m.function

      found : (f : Function) × (slice_get t0.options.functions function ≡ Some f)
      found =
          let m = b.meets in
          let at = event-breaks t0.options (marks_at t0 b.place) m.l.id m.event m.function m.at_breakpoint in
          let f = found-function t0.options at.pc m.function at.found in
          (f.0, f.1.0)

      pub breaks : (between : List Entry)
          → ((number : ℕ) → (traced_at t0 b.place).status ≡ Some number → ReadsOnlyLast number (exchanges k between))
          → ReadsBreakpoint k t0 b.place id (state_after s b.before) b.e between
      breaks between reads_last = record {
        x = b.x;
        own = b.own;
        meets = b.meets;
        its = refl;
        f = let f = found in f.0;
        named = let f = found in f.1;
        few = let f = found in
            omega (
              arith,
              slice_get_within t0.options.functions function f.0 f.1,
              able.few,
              ap (λ (opts : Options). length opts.functions) options-then,
            );
        steppable = let f = found in
            each-found IsSteppable o.functions function f.0 able.each
            (ap (λ (opts : Options). slice_get opts.functions function) (sym options-then) ∙ f.1);
        reads_last = reads_last;
      }

      -- the read at the breakpoint is this one
      pub breaks-function : (between : List Entry)
          → (last : (number : ℕ) → (traced_at t0 b.place).status ≡ Some number
          → ReadsOnlyLast number (exchanges k between))
          → (let w = breaks between last in let m = w.meets in m.function) ≡ (let m = b.meets in m.function)
      unfolding breaks
      breaks-function between last = refl

      pub breaks-lwp : (between : List Entry)
          → (last : (number : ℕ) → (traced_at t0 b.place).status ≡ Some number
          → ReadsOnlyLast number (exchanges k between))
          → (let w = breaks between last in let m = w.meets in m.l) ≡ (let m = b.meets in m.l)
      unfolding breaks
      breaks-lwp between last = refl

    module _ (pid : ℕ) (status : Option ℕ) (step : Stepped) (b : WasBegun k o front pid status step) (x : Exchange)
        (own : exchange_of k e ≡ Some x) (p : TracedProcess) (live : live_process now.system pid ≡ Some p) where
      abbrev then : TrussState
      then = functions_at k o b.before

      abbrev its-id : ℕ
      its-id = let m = b.meets in m.l.id

      twice : x.call ≡ read_record (traced_at then b.place).status
          → ReadsTwice k o s h b.before b.e b.between e later b.place its-id
      twice reads = record {
        is = parted pid status step b;
        calm = calm-before pid status step b;
        breakpoint =
            breaks pid status step b (b.between ++ e ∷ []) (λ number there.
            subst (ReadsOnlyLast number)
            (sym (exchanges-push k b.between e
            ∙ ap (λ (y : Option Exchange). exchanges k b.between ++ cons_option y []) own))
            (only-last number (exchanges k b.between) x (b.quiet number there) (reads ∙ ap read_record there)));
        y = x;
        own = own;
        reads = reads;
        process = p;
        live = ap (live_process (state_after (state_after s b.before) (b.e ∷ b.between)).system) b.its_pid
            ∙ ap (λ (u : TracedState). live_process u.system pid)
            (sym (ap (state_after s) b.is ∙ state_after-both s b.before (b.e ∷ b.between)))
            ∙ live;
      }

      -- the step is under way in the process of which truss reads the status then
      reads-step : x.call ≡ read_record (traced_at then b.place).status
          → ReadsStep t pid (let m = b.meets in step_of m.l m.function)
      unfolding twice breaks
      reads-step reads =
          let c =
          step-there n k o s h run b.before b.between later b.e e b.place its-id (twice reads) in
          subst (λ es. ReadsStep (functions_at k o es) pid (let m = b.meets in step_of m.l m.function)) (sym b.is)
          (record {
            at = c.at;
            is = reading-at _ _ c.at c.idle c.reads;
            own = c.pid ∙ b.its_pid;
            new = c.new;
            unseen = c.unseen;
            under_way = c.under_way;
          })

      no-read : WasNotInterrupted x → (ReadsIt t pid → ⊥) → (number : ℕ)
          → (traced_at then b.place).status ≡ Some number → IsNoRead number x
      no-read quiet away number there = record {
        no_read = λ same.
            let c = reads-step (same ∙ ap read_record (sym there)) in
            away (record { at = c.at; is = c.is; own = c.own });
        no_interrupt = quiet.unbroken;
      }

      -- and it ends with what the read tells of the lwp
      ends-step : (q : ℕ) → reading_now t ≡ Some q → (within : q < length t.traced) → (idle : t.aside ≡ Nothing)
          → (at : t.stage ≡ ReadingStatus q) → (off : t.leaving ≡ false) → (quiet : answer_of x.reply ≢ Interrupted)
          → x.call ≡ read_record (traced_at then b.place).status
          → EndsNoStep t q within x has idle at off quiet → ⊥
      unfolding twice breaks step_of
      ends-step q reading within idle at off quiet reads none =
          let m = b.meets in
          let c = reads-step reads in
          let same : c.at ≡ q = same_Some c.at q (sym c.is ∙ reading) in
          let tells =
          tells-there n k o s h run b.before b.between later b.e e b.place its-id (twice reads) in
          no-other-trap t.options (marks_at t q) tells.l.id (step_of m.l m.function)
          (ap (λ i. (marks_at t i).stepped) (sym same) ∙ c.under_way) (sym tells.its) tells.event
          (none tells.l tells.event tells.told
          (new-event (traced_at t q) tells.l tells.event
          (ap (λ i. (traced_at t i).old == 0) (sym same) ∙ c.new)
          (ap (λ i. (traced_at t i).seen) (sym same) ∙ c.unseen) tells.stands))

    -- ---- a step that goes on

    -- the entry is no read of the status of this process
    abbrev LeavesAlone : ℕ → Type 0
    LeavesAlone pid = (x : Exchange) → exchange_of k e ≡ Some x → WasNotInterrupted x × (ReadsIt t pid → ⊥)

    under-later : (pid : ℕ) (status : Option ℕ) (step : Stepped) → pid < now.system.made → LeavesAlone pid
        → IsUnderWay k o s front pid status step → IsUnderWay k o s next pid status step
    under-later pid status step made alone (ended none) = ended (stays-ended pid made none)
    under-later pid status step made alone (begun b) = by (live_process now.system pid) refl
      where
        by : (p : Option TracedProcess) → live_process now.system pid ≡ p → IsUnderWay k o s next pid status step
        by None none = ended (stays-ended pid made none)
        by (Some p) live = begun (record {
          before = b.before;
          e = b.e;
          between = b.between ++ e ∷ [];
          is = ap (λ es. es ++ e ∷ []) b.is ∙ append_assoc b.before (b.e ∷ b.between) (e ∷ []);
          place = b.place;
          x = b.x;
          own = b.own;
          meets = b.meets;
          its_pid = b.its_pid;
          its_status = b.its_status;
          its_step = b.its_step;
          quiet = λ number there.
              subst (AreNoReads number) (sym (exchanges-push k b.between e))
              (quiet-push number (exchanges k b.between) (exchange_of k e) (b.quiet number there)
              (λ x own.
              let it = alone x own in no-read pid status step b x own p live it.0 it.1 number there));
        })

    each-later : (j : ℕ) → j < length t.traced → LeavesAlone (traced_at t j).pid → (at : Position)
        → StepsAt k o s front at (at_place t.traced j) → StepsAt k o s next at (at_place t.traced j)
    each-later j inside alone (opens step) w = w
    each-later j inside alone rests w =
        λ step there. under-later _ _ step (made-at j inside) alone (w step there)
    each-later j inside alone to_read w = tt
    each-later j inside alone looks w = tt
    each-later j inside alone runs w =
        λ step there. under-later _ _ step (made-at j inside) alone (w step there)
    each-later j inside alone closes w = tt

    -- ---- an entry

    makes-next : (x : Exchange) → exchange_of k e ≡ Some x → next_function_call_of t ≡ Some x.call
    makes-next = fronts.makes-next n k o s h run.of front e later is calm

    owns : (q : ℕ) → q < length t.traced → t.stage ≡ ReadingStatus q → OwnsAndTraces k o t q now
    owns q within at =
        let holds = holds-opened n k o s h run.of in
        holds.each front (e ∷ later) q is calm within (ap (λ (stage : Stage). is_opened stage q) at)

    module _ (w : Kept (StepsAt k o s front) t) (x : Exchange) (own : exchange_of k e ≡ Some x)
        (quiet : WasNotInterrupted x) where
      ow : IsOwnEntry k now e x
      ow = own-entry n k now e x legal own

      calm-reply : answer_of x.reply ≢ Interrupted
      calm-reply = calm-answer x quiet

      same-quiet : (y : Exchange) → exchange_of k e ≡ Some y → WasNotInterrupted y
      same-quiet y other = subst WasNotInterrupted (same_Some x y (sym own ∙ other)) quiet

      fresh : (pid : ℕ) → t.stage ≡ OpeningControl pid → t.aside ≡ Nothing → answer_of x.reply ≡ Accepted
          → Each (λ (u : Traced). u.pid ≢ pid) t.traced
      fresh pid at idle accepted =
          let g = here in
          let it = ow in
          control-fresh ⊥ n k now g.lawful x.call it.answer it.is
          (λ number made none.
          ap (λ (u : TracedState). live_process u.system number) it.later
          ∙ stays-over n now e number g.lawful legal made none)
          t g.kept (λ none. absurd none) pid at idle has (makes-next x own) (ap answer_of it.replied ∙ accepted)

      -- another call than the read of a status
      goes-elsewhere : reading_now t ≡ None → Kept (StepsAt k o s next) (fed_functions t x.reply)
      goes-elsewhere none =
          other-kept k o s next t x.reply
          (kept-weaker (StepsAt k o s front) (StepsAt k o s next) t
          (λ j inside at.
          each-later j inside
          (λ y other. (same-quiet y other, λ it. none-some it.at (sym none ∙ it.is))) at) w)
          fresh has calm-reply none

      -- the read of the status of the process at a place
      module _ (q : ℕ) (reading : reading_now t ≡ Some q) (idle : t.aside ≡ Nothing)
          (at : t.stage ≡ ReadingStatus q) where
        placed : AtStage (StepsAt k o s front) t.traced (ReadingStatus q)
        placed = subst (AtStage (StepsAt k o s front) t.traced) at w.stage

        within : q < length t.traced
        within = let p = placed in p.0

        abbrev pid : ℕ
        pid = (traced_at t q).pid

        its : IsRead t q within x has idle at w.off calm-reply (fed_functions t x.reply)
        its = status-read t q within x has idle at w.off calm-reply

        reads-own : (step : Stepped) → (b : WasBegun k o front pid (traced_at t q).status step)
            → x.call ≡ read_record (traced_at (functions_at k o b.before) b.place).status
        reads-own step b =
            let mine = owns q within at in
            let f = mine.files in
            same_Some _ _ (sym (makes-next x own) ∙ read-is t q has at idle)
            ∙ ap read_record (f.own_status ∙ sym (b.its_status mine.status f.own_status))

        still : (step : Stepped) → EndsNoStep t q within x has idle at w.off calm-reply
            → IsUnderWay k o s front pid (traced_at t q).status step
            → IsUnderWay k o s next pid (traced_at t q).status step
        still step none (ended over) = ended (stays-ended pid (made-at q within) over)
        still step none (begun b) = by (live_process now.system pid) refl
          where
            by : (p : Option TracedProcess) → live_process now.system pid ≡ p
                → IsUnderWay k o s next pid (traced_at t q).status step
            by None over = ended (stays-ended pid (made-at q within) over)
            by (Some p) live =
                absurd (ends-step pid (traced_at t q).status step b x own p live q reading within idle at w.off
                calm-reply (reads-own step b) none)

        left : {so : Option Stepped} → Leaves t q within x has idle at w.off calm-reply so → (step : Stepped)
            → so ≡ Some step → IsUnderWay k o s next pid (traced_at t q).status step
        left (keeps none) step there =
            let p = placed in
            let all : Each (Steps k o s front) t.traced = p.1.0 in
            still step none (all q within step there)
        left clears step there = absurd (none-some step there)
        left (begins m) step there = begun (record {
          before = front;
          e = e;
          between = [];
          is = refl;
          place = q;
          x = x;
          own = own;
          meets = m;
          its_pid = refl;
          its_status = λ number same. same;
          its_step = sym (same_Some _ step there);
          quiet = λ number same. subst (AreNoReads number) (sym (no-exchanges k)) tt;
        })

        now-steps : Steps k o s next (traced_at (fed_functions t x.reply) q)
        now-steps step there =
            let r = its in
            let like : AreLike t.traced q r.step (fed_functions t x.reply).traced = r.like in
            subst (λ number. IsUnderWay k o s next number (traced_at (fed_functions t x.reply) q).status step)
            (sym like.pid)
            (subst (λ file. IsUnderWay k o s next pid file step) (sym like.status)
            (left r.leaves step (sym like.stepped ∙ there)))

        reads-status : Kept (StepsAt k o s next) (fed_functions t x.reply)
        reads-status =
            let p = placed in
            read-kept k o s next t x q w.follow w.off w.apart idle at within calm-reply has
            (λ j inside other.
            each-later j inside
            (λ y same. (
              same-quiet y same,
              λ it.
                  apart-at t.traced j q inside within other w.apart
                  (sym it.own ∙ ap (λ i. (traced_at t i).pid) (same_Some it.at q (sym it.is ∙ reading))),
            ))
            rests (p.1.0 j inside))
            its now-steps

      own-kept : Kept (StepsAt k o s next) (fed_functions t x.reply)
      own-kept = by (reading_now t) refl
        where
          by : (q : Option ℕ) → reading_now t ≡ q → Kept (StepsAt k o s next) (fed_functions t x.reply)
          by None none = goes-elsewhere none
          by (Some q) reading =
              let it = reading-is t.aside t.stage q reading in reads-status q reading it.0 it.1

    pushed : functions_at k o next ≡ functions_on t (exchange_of k e)
    pushed = fronts.pushed n k o s h run.of front e later is calm

    entry-kept : Kept (StepsAt k o s front) t → ((x : Exchange) → exchange_of k e ≡ Some x → WasNotInterrupted x)
        → Kept (StepsAt k o s next) (functions_at k o next)
    entry-kept w quiet = subst (Kept (StepsAt k o s next)) (sym pushed) (by (exchange_of k e) refl)
      where
        by : (x : Option Exchange) → exchange_of k e ≡ x → Kept (StepsAt k o s next) (functions_on t x)
        by None none =
            kept-weaker (StepsAt k o s front) (StepsAt k o s next) t
            (λ j inside at. each-later j inside (λ x own. absurd (none-some x (sym none ∙ own))) at) w
        by (Some x) own = own-kept w x own (quiet x own)

  -- ---- all entries

  abbrev KeptAt : List Entry → Type 0
  KeptAt front = Kept (StepsAt k o s front) (functions_at k o front)

  first : KeptAt []
  first =
      subst (λ xs. Kept (StepsAt k o s []) (functions_after (first_truss o) xs)) (sym (no-exchanges k))
      (first-kept (StepsAt k o s []) o run.of.follows_none)

  walk : (mid front later : List Entry) → h ≡ front ++ (mid ++ later)
      → All WasNotInterrupted (exchanges k (front ++ mid)) → KeptAt front → KeptAt (front ++ mid)
  walk [] front later is calm w = subst KeptAt (sym (append-nil front)) w
  walk (e ∷ mid) front later is calm w =
      let both : All WasNotInterrupted (exchanges k front ++ exchanges k (e ∷ mid)) =
      subst (All WasNotInterrupted) (exchanges-both k front (e ∷ mid)) calm in
      let rest : All WasNotInterrupted (cons_option (exchange_of k e) (exchanges k mid)) =
      subst (All WasNotInterrupted) (cons-exchanges k e mid)
      (all-rest WasNotInterrupted (exchanges k front) (exchanges k (e ∷ mid)) both) in
      subst KeptAt (append_assoc front (e ∷ []) mid)
      (walk mid (front ++ e ∷ []) later (is ∙ sym (append_assoc front (e ∷ []) (mid ++ later)))
      (subst (λ es. All WasNotInterrupted (exchanges k es)) (sym (append_assoc front (e ∷ []) mid)) calm)
      (entry-kept front e (mid ++ later) is
      (all-front WasNotInterrupted (exchanges k front) (exchanges k (e ∷ mid)) both) w
      (λ x own.
      All-head WasNotInterrupted x (exchanges k mid)
      (subst (λ y. All WasNotInterrupted (cons_option y (exchanges k mid))) own rest))))

  pub kept-front : (front later : List Entry) → h ≡ front ++ later → All WasNotInterrupted (exchanges k front)
      → KeptAt front
  kept-front front later is calm = walk front [] later is calm first

  -- ---- a status that is read

  module _ (front later : List Entry) (again : Entry) (y : Exchange) (is : h ≡ front ++ again ∷ later)
      (own : exchange_of k again ≡ Some y) (calm : All WasNotInterrupted (exchanges k front)) (q : ℕ)
      (idle : (functions_at k o front).aside ≡ Nothing) (at : (functions_at k o front).stage ≡ ReadingStatus q)
      (l : LwpStatus) (told : option_and_then status_lwp (bytes_in y.reply) ≡ Some l) where
    abbrev reader : TrussState
    reader = functions_at k o front

    placed-now : AtStage (StepsAt k o s front) reader.traced (ReadingStatus q)
    placed-now =
        let w = kept-front front (again ∷ later) is calm in
        subst (AtStage (StepsAt k o s front) reader.traced) at w.stage

    inside : q < length reader.traced
    inside = let p = placed-now in p.0

    its-step : (step : Stepped) → (marks_at reader q).stepped ≡ Some step
        → IsUnderWay k o s front (traced_at reader q).pid (traced_at reader q).status step
    its-step = let p = placed-now in let all : Each (Steps k o s front) reader.traced = p.1.0 in all q inside

    has-now : has_functions reader.options ≡ true
    has-now = has front again later is calm

    accepted : answer_of y.reply ≡ Accepted
    unfolding answer_of bytes_in
    accepted = by y.reply told
      where
        by : (r : Reply) → option_and_then status_lwp (bytes_in r) ≡ Some l → answer_of r ≡ Accepted
        by (reply.Bytes bs) some = refl
        by _ some = absurd (none-some l some)

    gone-not : Gone ≡ Accepted → ⊥
    gone-not same = cc

    abbrev number : ℕ
    number = (traced_at reader q).pid

    lives : (p : TracedProcess) × (live_process (state_after s front).system number ≡ Some p)
    lives = by (live_process (state_after s front).system number) refl
      where
        by : (p : Option TracedProcess) → live_process (state_after s front).system number ≡ p
            → (p : TracedProcess) × (live_process (state_after s front).system number ≡ Some p)
        by (Some p) live = (p, live)
        by None over =
            let mine = owns front again later is calm q inside at in
            let f = mine.files in
            let it = own-entry n k (state_after s front) again y (legal front again later is calm) own in
            let call : y.call ≡ read_record (Some mine.status) =
            same_Some _ _ (sym (makes-next front again later is calm y own) ∙ read-is reader q has-now at idle)
            ∙ ap read_record f.own_status in
            let sees =
            status-ended (state_after s front) k mine.status (held_by k number 0 Status Read) f.reads it.answer refl
            over (ap (answer_to (state_after s front) k) (sym call) ∙ it.is) in
            absurd (gone-not (sym sees.gone ∙ ap answer_of it.replied ∙ accepted))

    -- where a step is under way, it is the second read of the stop with which that was begun
    second-read : (step : Stepped) (b : WasBegun k o front number (traced_at reader q).status step)
        → ReadsTwice k o s h b.before b.e b.between again later b.place (let m = b.meets in m.l.id)
    second-read step b =
        let it = lives in
        let mine = owns front again later is calm q inside at in
        let f = mine.files in
        twice front again later is calm number (traced_at reader q).status step b y own it.0 it.1
        (same_Some _ _ (sym (makes-next front again later is calm y own) ∙ read-is reader q has-now at idle)
        ∙ ap read_record (f.own_status ∙ sym (b.its_status mine.status f.own_status)))

    -- no step is under way where it tells of another event than a signal or a fault
    pub none-under-way : (event : Event) → event_of l ≡ Some event → ends_step event ≡ false
        → (marks_at reader q).stepped ≡ None
    none-under-way event on other = by (marks_at reader q).stepped refl
      where
        under : (step : Stepped) → IsUnderWay k o s front number (traced_at reader q).status step → ⊥
        under step (ended over) = let it = lives in none-some it.0 (sym over ∙ it.1)
        under step (begun b) =
            let r = second-read step b in
            let tells = tells-there n k o s h run b.before b.between later b.e again b.place _ r in
            let same : l ≡ tells.l =
            same_Some l tells.l
            (sym told
            ∙ ap (λ (x : Exchange). option_and_then status_lwp (bytes_in x.reply)) (same_Some y r.y (sym own ∙ r.own))
            ∙ tells.told) in
            false≢true
            (sym other ∙ ap ends_step (same_Some event tells.event (sym on ∙ ap event_of same ∙ tells.stands))
            ∙ tells.ends)

        by : (so : Option Stepped) → (marks_at reader q).stepped ≡ so → so ≡ None
        by None is_none = refl
        by (Some step) is_some = absurd (under step (its-step step is_some))

  -- ---- a call that is told

  module _ (front later : List Entry) (again : Entry) (y : Exchange) (report : Report)
      (is : h ≡ front ++ again ∷ later) (own : exchange_of k again ≡ Some y)
      (calm : All WasNotInterrupted (exchanges k front)) where
    abbrev tr : TrussState
    tr = functions_at k o front

    abbrev Tells : List Report → Type 0
    Tells told = told ≡ report ∷ [] → TellsATurn k o s h front again later report

    nothing : Tells []
    nothing told = cc

    w : Kept (StepsAt k o s front) tr
    w = kept-front front (again ∷ later) is calm

    module _ (q : ℕ) (idle : tr.aside ≡ Nothing) (at : tr.stage ≡ ReadingStatus q) (l : LwpStatus)
        (told : option_and_then status_lwp (bytes_in y.reply) ≡ Some l) (calls : call_told tr y.reply ≡ report ∷ [])
      where
        turns : (step : Stepped) → IsUnderWay k o s front (traced_at tr q).pid (traced_at tr q).status step
            → TellsATurn k o s h front again later report
        turns step (ended over) =
            let it = lives front later again y is own calm q idle at l told in absurd (none-some it.0 (sym over ∙ it.1))
        turns step (begun b) =
            second step b (second-read front later again y is own calm q idle at l told step b)
            (ap (λ es. call_told (functions_at k o es) y.reply) (sym b.is) ∙ calls)
          where
            second : (step : Stepped) (b : WasBegun k o front (traced_at tr q).pid (traced_at tr q).status step)
                → (r : ReadsTwice k o s h b.before b.e b.between again later b.place
                (let m = b.meets in m.l.id))
                → call_told (functions_at k o (b.before ++ b.e ∷ b.between)) y.reply ≡ report ∷ []
                → TellsATurn k o s h front again later report
            second step b r told_then =
                let all = calls-are-turns n k o s h run in
                let same : call_told (functions_at k o (b.before ++ b.e ∷ b.between)) r.y.reply ≡ report ∷ [] =
                ap (λ (x : Exchange). call_told (functions_at k o (b.before ++ b.e ∷ b.between)) x.reply)
                (same_Some r.y y (sym r.own ∙ own)) ∙ told_then in
                record {
                  before = b.before;
                  e = b.e;
                  between = b.between;
                  front_is = b.is;
                  place = b.place;
                  id = let m = b.meets in m.l.id;
                  reads = r;
                  call = all.call b.before b.between later b.e again b.place _ r report same;
                  turn = all.turn b.before b.between later b.e again b.place _ r report same;
                }

        tells-turn : TellsATurn k o s h front again later report
        tells-turn =
            let c = shows-call tr y.reply q idle at l told report calls in
            turns c.step (its-step front later again y is own calm q idle at l told c.step c.under_way)

    lwp-tells : (q : ℕ) → tr.aside ≡ Nothing → tr.stage ≡ ReadingStatus q
        → call_told tr y.reply ≡ report ∷ [] → (l : Option LwpStatus)
        → option_and_then status_lwp (bytes_in y.reply) ≡ l → Tells (call_of_lwp tr q l)
    lwp-tells q idle at calls None none told = nothing told
    lwp-tells q idle at calls (Some l) some told = tells-turn q idle at l some calls

    stage-tells : tr.aside ≡ Nothing → call_told tr y.reply ≡ report ∷ [] → (stage : Stage) → tr.stage ≡ stage
        → AtStage (StepsAt k o s front) tr.traced stage → Tells (call_read tr y.reply stage)
    stage-tells idle calls (ReadingStatus q) at placed told =
        lwp-tells q idle at calls (option_and_then status_lwp (bytes_in y.reply)) refl told
    stage-tells idle calls ReadingLwps at placed told = absurd placed
    stage-tells idle calls _ at placed told = nothing told

    aside-tells : call_told tr y.reply ≡ report ∷ [] → (aside : Aside) → tr.aside ≡ aside
        → Tells (call_beside tr y.reply aside)
    aside-tells calls Nothing idle told =
        let it = w in stage-tells idle calls tr.stage refl it.stage told
    aside-tells calls _ other told = nothing told

    pub is-turn : call_told tr y.reply ≡ report ∷ [] → TellsATurn k o s h front again later report
    unfolding call_told
    is-turn calls = aside-tells calls tr.aside refl calls

  pub tells-turns : TellsTurnsAlone k o s h
  tells-turns = record {
    each = λ front later again y report is own calm told. is-turn front later again y report is own calm told;
  }
