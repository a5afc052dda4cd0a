use Rattle.std.proofs.Common.{◌≡◌, ◌≢◌, ◌==◌, ◌<◌, ◌+◌, ◌++◌, ℕ, Bool, true, false, cond, not, Option, Some, None, List, [], ◌∷◌, append_assoc, length, position, refl, sym, subst, ap, ◌∙◌, arith}
use Rattle.std.proofs.lemmas.Bool.{false≢true}
use Rattle.std.proofs.lemmas.List.{get_or_append_left, get_or_push, length-append, length-map}
use Rattle.std.proofs.lemmas.Option.{none-some, same_Some}
use Rattle.std.specs.List.{All, slice_get}
use Rattle.std.specs.Option.{option_and_then}
use Rattle.pr_line.specs.declared.events.Event.{Event}
use Rattle.pr_line.specs.declared.events.Event.TheVariants as event
use Rattle.pr_line.specs.declared.options.Options.{Options}
use Rattle.pr_model.specs.Handles.{handle_of}
use Rattle.pr_model.specs.Legal.{state_after}
use Rattle.pr_model.specs.Replies.{bytes_in, handle_in, number_of}
use Rattle.pr_model.specs.State.{TracedState}
use Rattle.pr_model.specs.declared.calls.Call.TheVariants as call
use Rattle.pr_model.specs.declared.calls.File.{File}
use Rattle.pr_model.specs.declared.calls.File.TheVariants as file
use Rattle.pr_model.specs.declared.calls.Mode.TheVariants.{Read, WriteExcl}
use Rattle.pr_model.specs.declared.calls.Reply.{Reply}
use Rattle.pr_model.specs.declared.calls.Reply.TheVariants as reply
use Rattle.pr_model.specs.declared.events.Entry.{Entry}
use Rattle.pr_model.specs.declared.handles.Held.{Held}
use Rattle.pr_num.specs.Limits.{read_limit}
use Rattle.pr_num.specs.Messages.{message_code}
use Rattle.pr_num.specs.Words.{word_bytes}
use Rattle.pr_num.specs.declared.faults.Flt.{Flt}
use Rattle.pr_num.specs.declared.faults.Flt.TheVariants.{Bpt, Trace}
use Rattle.pr_rec.specs.declared.lwps.LwpStatus.{LwpStatus}
use Rattle.pr_report_laws.proofs.Files.FileLaws.{HasFiles, IsFileOf}
use Rattle.pr_report_laws.proofs.Files.FileUses.{lwps-read, stage-control, stage_place, status-read}
use Rattle.pr_report_laws.proofs.Holding.HoldEnds.{same-exchange}
use Rattle.pr_report_laws.proofs.Files.WatchHistories.{Reaches, no-exchanges}
use Rattle.pr_report_laws.proofs.Invariant.OpeningRuns.{granted-accepted}
use Rattle.pr_report_laws.proofs.Invariant.StandLemmas.{Each, EachBut, Leaves, Stands}
use Rattle.pr_report_laws.proofs.Memory.WatchMemory.{accepted-granted}
use Rattle.pr_report_laws.specs.Attachments.{ReadsFile}
use Rattle.pr_report_laws.specs.Watching.{place_of}
use Rattle.pr_truss.specs.Asides.{marks_at}
use Rattle.pr_truss.specs.FunctionCalls.{call_beside, function_call_of, lift_call, next_function_call_of, patch_call, plant_call, write_code_call}
use Rattle.pr_truss.specs.FunctionEvents.{begins_at, breakpoint_event, copies_memory, fault_event, fresh_event, function_at, function_event, keeps_memory, trap_event}
use Rattle.pr_truss.specs.FunctionFeeding.{with_function_reply}
use Rattle.pr_truss.specs.Feeding.{with_reply}
use Rattle.pr_truss.specs.Marks.{breakpoint, code_of, first_function, has_functions, without_function}
use Rattle.pr_truss.specs.NextCalls.{call_of, open_control}
use Rattle.pr_truss.specs.Openings.{with_control, with_control_answered}
use Rattle.pr_truss.specs.Processes.{newly_traced}
use Rattle.pr_truss.specs.Records.{event_stops, status_lwp}
use Rattle.pr_truss.specs.Replies.{answer_of}
use Rattle.pr_truss.specs.Trusses.{TrussState, first_truss, nobody, traced_at}
use Rattle.pr_truss.specs.declared.asides.Aside.{Aside}
use Rattle.pr_truss.specs.declared.asides.Aside.TheVariants.{Nothing, Reading, Planting, Patching, AwaitingStop, Asking, AwaitingAgain}
use Rattle.pr_truss.specs.declared.function_events.FunctionEvent.{FunctionEvent}
use Rattle.pr_truss.specs.declared.function_events.FunctionEvent.TheVariants.{Other, AtBreakpoint, Completed, TraceTrap, BeforeCopy, AfterCopy, Replaced}
use Rattle.pr_truss.specs.declared.marks.Marks.{Marks}
use Rattle.pr_truss.specs.declared.marks.Stepped.{Stepped}
use Rattle.pr_truss.specs.declared.processes.Traced.{Traced}
use Rattle.pr_truss.specs.declared.replies.Answer.{Answer}
use Rattle.pr_truss.specs.declared.replies.Answer.TheVariants.{Accepted, Interrupted, Gone, Refused}
use Rattle.pr_truss.specs.declared.stages.AfterClosing.TheVariants.{GoOn, OpenNext}
use Rattle.pr_truss.specs.declared.stages.OpeningStep.TheVariants as opening
use Rattle.pr_truss.specs.declared.stages.Stage.{Stage}
use Rattle.pr_truss.specs.declared.stages.Stage.TheVariants.{OpeningControl, Opening, ReadingStatus, ReadingText, OpeningChildControl, Running, Closing, ReadingLwps}
use Rattle.pr_truss_laws.proofs.Files.HeldLemmas.{Fits, at_place}
use Rattle.pr_truss_laws.proofs.Files.OpensLemmas.{held_by}
use Rattle.pr_truss_laws.proofs.Files.OwnLemmas.{Owns}
use Rattle.pr_truss_laws.specs.Exchanges.{Exchange, IsGranted, exchange_of, exchanges}
use Rattle.pr_function_laws.proofs.Holding.HoldEnds.{leaves-interrupted}
use Rattle.pr_function_laws.proofs.Holding.HoldOpens.{opens-given}
use Rattle.pr_function_laws.proofs.Marks.FunctionSets.{first-has}
use Rattle.pr_function_laws.proofs.Marks.MarkWalk.{AfterSo, AllIn, AsideIn, BesideSo, Holds, MarksIn, StageSo, fed-holds, first-holds-so, marks_then, planted_after, then-in}
use Rattle.pr_function_laws.proofs.Marks.MetLemmas.{event-breaks, found-function, fresh-stands}
use Rattle.pr_function_laws.proofs.NextCalls.PatchCalls.{fed-staged, next-beside, next-staged}
use Rattle.pr_function_laws.proofs.OrdinaryTruss.OrdinaryEntries as entries
use Rattle.pr_function_laws.proofs.OrdinaryTruss.OrdinaryEntries.{along}
use Rattle.pr_function_laws.proofs.OrdinaryTruss.OrdinaryExchanges.{IsFit}
use Rattle.pr_function_laws.proofs.OrdinaryTruss.OrdinaryFiles.{Follows, Halfway, run-halfway}
use Rattle.pr_function_laws.proofs.OrdinaryTruss.OrdinaryReplies.{at-ordinary}
use Rattle.pr_function_laws.proofs.OrdinaryTruss.OrdinaryStops.{FitsAside, IsLookedAt, IsOpenedAt, patch-looked}
use Rattle.pr_function_laws.proofs.PlantedCalls.PlantedFacts.{Facts, facts-as, facts-kept, facts-lifted, facts-new, facts-other, facts-planted, facts-told}
use Rattle.pr_function_laws.proofs.PlantedCalls.WriteCalls.{by-call, is_pcwrite, lifts-apart, plants-apart, plants-lifts, stage-quiet, writes-code}
use Rattle.pr_function_laws.proofs.ShownOnce.GoingOn.{Going}
use Rattle.pr_function_laws.specs.Opened.{IsFunctionRun, functions_at}
use Rattle.pr_function_laws.specs.Ordinary.{ordinary}
use Rattle.pr_function_laws.specs.Runs.{functions_after}
use Rattle.pr_function_laws.specs.PlantedByCalls.{IsFirstNamed, IsNoBreakpoint, LiftsNot, OpensNot, ReadsLwp, is_replacement, of_lwps, of_status}
use Rattle.pr_function_laws.specs.ToldTurns.{AreSteppable}

-- What one entry makes of the marks of each process: they are those that the exchanges tell.

-- ---- events

-- the first function at an address
pub first-found : (o : Options) (pc function : ℕ) → position (begins_at pc) o.functions ≡ Some function
    → IsFirstNamed o function
first-found o pc function is =
    let it = found-function o pc function is in
    record {
      f = it.0;
      named = it.1.0;
      first = ap (λ a. position (begins_at a) o.functions) it.1.1 ∙ is;
    }

abbrev is_replaced : FunctionEvent → Bool
is_replaced Replaced = true
is_replaced event = false

breakpoint-not : (place : Option ℕ) → is_replaced (breakpoint_event place) ≡ false
breakpoint-not None = refl
breakpoint-not (Some function) = refl

trap-not : (step : Option Stepped) (id : ℕ) → is_replaced (trap_event step id) ≡ false
trap-not None id = refl
trap-not (Some step) id =
    elim (step.lwp == id) as (λ b. is_replaced (cond b (Completed step) TraceTrap) ≡ false)
    [ true ↦ refl | false ↦ refl ]

-- what ends all breakpoints is the exit of a vfork or an exec that was granted
module _ (o : Options) (m : Marks) (id : ℕ) where
  copy-not : (b : Bool) → is_replaced (cond b BeforeCopy Other) ≡ true → ⊥
  copy-not true is = false≢true is
  copy-not false is = false≢true is

  left-is : (b keeps : Bool) → is_replaced (cond b (cond keeps AfterCopy Replaced) Other) ≡ true
      → cond b (not keeps) false ≡ true
  left-is true true is = is
  left-is true false is = refl
  left-is false keeps is = is

  fault-not : (f : Flt) (pc : ℕ) → is_replaced (fault_event o m id f pc) ≡ false
  fault-not Bpt pc = breakpoint-not (function_at o m pc)
  fault-not Trace pc = trap-not m.stepped id
  fault-not _ pc = refl

  replaces : (e : Event) → function_event o m id e ≡ Replaced → is_replacement e ≡ true
  unfolding function_event
  replaces (event.Entered call arguments) is = absurd (copy-not (copies_memory call) (ap is_replaced is))
  replaces (event.Left call arguments result) is =
      left-is (copies_memory call) (keeps_memory call result) (ap is_replaced is)
  replaces (event.Received signal disposition info) is = absurd (false≢true (ap is_replaced is))
  replaces (event.Incurred fault pc) is =
      absurd (false≢true (sym (fault-not fault pc) ∙ ap is_replaced is))

-- ---- bytes that tell of an lwp

status-bytes : (r : Reply) (l : LwpStatus) → option_and_then status_lwp (bytes_in r) ≡ Some l
    → (bytes : List ℕ) × ((r ≡ reply.Bytes bytes) × (status_lwp bytes ≡ Some l))
unfolding bytes_in
status-bytes (reply.Bytes bytes) l told = (bytes, (refl, told))
status-bytes _ l told = absurd (none-some l told)

lwps-bytes : (r : Reply) (l : LwpStatus) → slice_get (event_stops (bytes_in r)) 0 ≡ Some l
    → (bytes : List ℕ) × ((r ≡ reply.Bytes bytes) × (slice_get (event_stops (Some bytes)) 0 ≡ Some l))
unfolding bytes_in event_stops
lwps-bytes (reply.Bytes bytes) l told = (bytes, (refl, told))
lwps-bytes _ l told = absurd (none-some l told)

-- ---- where truss is with what comes beside a stage

opened-place : (q : ℕ) (stage : Stage) → IsOpenedAt q stage → stage_place stage ≡ Some q
opened-place q (Opening at opening.Start) is = ap (λ n. Some n) is
opened-place q _ is = absurd is

looked-place : (q : ℕ) (stage : Stage) → IsLookedAt q stage → stage_place stage ≡ Some q
looked-place q (Running at) is = ap (λ n. Some n) is
looked-place q (ReadingText at l from len) is = ap (λ n. Some n) is
looked-place q (Closing at OpenNext) is = ap (λ n. Some n) is
looked-place q (Closing at GoOn) is = ap (λ n. Some n) is
looked-place q _ is = absurd is

-- ---- one entry

module _ (n k : ℕ) (o : Options) (s : TracedState) (able : AreSteppable o) (others : All IsNoBreakpoint o.functions)
  where
    -- what is so of a process after a history
    abbrev pub So : List Entry → Traced → Type 0
    So h v = Facts k o s h v.pid v.control v.marks

    abbrev Named : ℕ → Type 0
    Named i = IsFirstNamed o i

    pub so-alike : (h : List Entry) (u v : Traced) → v.pid ≡ u.pid → v.control ≡ u.control → v.marks ≡ u.marks → So h u
        → So h v
    so-alike h u v pid control marks w =
        subst (λ p. Facts k o s h p v.control v.marks) (sym pid)
        (subst (λ c. Facts k o s h u.pid c v.marks) (sym control)
        (subst (Facts k o s h u.pid u.control) (sym marks) w))

    pub so-sets : (h : List Entry) (u : Traced) → So h u → MarksIn Named u.marks
    so-sets h u w = w.marks

    -- and of truss
    abbrev pub Kept : List Entry → Type 0
    Kept h = Holds o Named (first-found o) (So h) (so-alike h) (so-sets h) (functions_at k o h)

    module _ (before later : List Entry) (e : Entry) (run : IsFunctionRun n k o s (before ++ e ∷ later))
        (kept : Kept before) where
      abbrev t : TrussState
      t = functions_at k o before

      abbrev now : TracedState
      now = state_after s before

      abbrev then : List Entry
      then = before ++ e ∷ []

      follows : Follows k o t now
      follows = entries.follows n k o s before later e run

      fit : IsFit o t
      fit = follows.fit

      reached : Reaches k (ordinary t) now
      reached = follows.reaches

      files : HasFiles k (ordinary t) now
      files = let g = reached in g.files

      fits : Fits (ordinary t).traced t.stage
      fits = let g = reached in let owns : Owns k (ordinary t) now = g.owns in owns.fits

      has : has_functions t.options ≡ true
      has = ap has_functions kept.options ∙ run.has

      same-length : length (ordinary t).traced ≡ length t.traced
      same-length = length-map t.traced _

      inside : (i : ℕ) → i < length t.traced → i < length (ordinary t).traced
      inside i within = omega (arith, within, same-length)

      control-of : (i : ℕ) → i < length t.traced
          → IsFileOf k now (traced_at t i).pid (traced_at t i).control file.Ctl WriteExcl
      control-of i within =
          subst (λ (v : Traced). IsFileOf k now v.pid v.control file.Ctl WriteExcl) (at-ordinary t i)
          (files.control i (inside i within))

      one-place : (i j : ℕ) → i < length t.traced → j < length t.traced
          → (traced_at t i).pid ≡ (traced_at t j).pid → i ≡ j
      one-place i j within there same =
          same_Some i j
          (sym (files.one i (inside i within))
          ∙ ap (place_of (ordinary t))
          (ap (λ (v : Traced). v.pid) (at-ordinary t i) ∙ same ∙ ap (λ (v : Traced). v.pid) (sym (at-ordinary t j)))
          ∙ files.one j (inside j there))

      -- the control files of two processes are two
      controls-apart : (i j : ℕ) → i < length t.traced → j < length t.traced → i ≢ j
          → (traced_at t i).control ≢ (traced_at t j).control
      controls-apart i j within there apart same =
          let v = control-of i within in
          let w = control-of j there in
          apart (one-place i j within there
          (ap (λ (h : Held). h.pid)
          (same_Some _ _ (sym v.is ∙ ap (λ m. handle_of now.opens k m) same ∙ w.is))))

      -- an entry of another
      others-kept : exchange_of k e ≡ None → Kept then
      others-kept none =
          let still : functions_at k o then ≡ t = entries.unmoved n k o s before later e run none in
          subst (Holds o Named (first-found o) (So then) (so-alike then) (so-sets then)) (sym still) (record {
            options = kept.options;
            each = λ i within.
                facts-other k o s before e none (traced_at t i).pid (traced_at t i).control (marks_at t i)
                (kept.each i within);
            aside = kept.aside;
          })

      module _ (x : Exchange) (own : exchange_of k e ≡ Some x) where
        made : next_function_call_of t ≡ Some x.call
        made = entries.made n k o s before later e run x own

        called : (aside : Aside) → t.aside ≡ aside → call_beside t t.stage aside ≡ Some x.call
        called aside at = sym (next-beside o run.has t kept.options ∙ ap (call_beside t t.stage) at) ∙ made

        staged : (stage : Stage) → t.stage ≡ stage → t.aside ≡ Nothing → function_call_of t stage ≡ Some x.call
        staged stage at idle = sym (next-staged o run.has t stage kept.options idle at) ∙ made

        -- Truss opens no control file of a process that it traces.
        twice : (i : ℕ) → i < length t.traced → x.call ≡ open_control (traced_at t i).pid
            → answer_of x.reply ≡ Accepted → ⊥
        unfolding with_function_reply with_reply with_control_answered with_control newly_traced
        twice i within is accepted =
            let v : Traced = newly_traced (traced_at t i).pid (handle_in x.reply) in
            let g =
            opens-given o run.has run.follows_none (exchanges k before) t x (traced_at t i).pid fit made
            (entries.calm n k o s before later e run x own) (entries.going n k o s before later e run) is in
            let z : TrussState = functions_at k o then in
            let fed_so : z ≡ with_control t (traced_at t i).pid (handle_in x.reply) =
            entries.pushed n k o s before later e run x own
            ∙ fed-staged o run.has t x.reply (OpeningControl (traced_at t i).pid) kept.options g.idle g.stage
            ∙ ap (with_control_answered t (traced_at t i).pid x.reply) accepted in
            let half : Halfway n k o _ s then later =
            run-halfway n k o s then later
            (subst (IsFunctionRun n k o s) (sym (append_assoc before (e ∷ []) later)) run) in
            let f : Follows k o z (state_after s then) = half.follows in
            let r : Reaches k (ordinary z) (state_after s then) = f.reaches in
            let hf : HasFiles k (ordinary z) (state_after s then) = r.files in
            let traced_so : z.traced ≡ t.traced ++ v ∷ [] = ap (λ (y : TrussState). y.traced) fed_so in
            let many : length (ordinary z).traced ≡ length t.traced + 1 =
            length-map z.traced _ ∙ ap (λ (ts : List Traced). length ts) traced_so ∙ length-append t.traced (v ∷ []) in
            let old_pid : (traced_at (ordinary z) i).pid ≡ (traced_at t i).pid =
            ap (λ (y : Traced). y.pid) (at-ordinary z i)
            ∙ ap (λ (ts : List Traced). (at_place ts i).pid) traced_so
            ∙ ap (λ (y : Traced). y.pid) (get_or_append_left t.traced (v ∷ []) nobody i within) in
            let new_pid : (traced_at (ordinary z) (length t.traced)).pid ≡ (traced_at t i).pid =
            ap (λ (y : Traced). y.pid) (at-ordinary z (length t.traced))
            ∙ ap (λ (ts : List Traced). (at_place ts (length t.traced)).pid) traced_so
            ∙ ap (λ (y : Traced). y.pid) (get_or_push t.traced v nobody (length t.traced) refl) in
            let first = hf.one i (omega (arith, many, within)) in
            let last = hf.one (length t.traced) (omega (arith, many)) in
            let same : i ≡ length t.traced =
            same_Some i (length t.traced)
            (sym first ∙ ap (place_of (ordinary z)) (old_pid ∙ sym new_pid) ∙ last) in
            omega (arith, same, within)

        pub opens-not : (i : ℕ) → i < length t.traced → OpensNot (traced_at t i).pid x
        opens-not i within = record {
          opens_not = λ is granted. twice i within is (granted-accepted x.reply granted.not_refused);
        }

        -- ---- calls that plant and lift nothing

        lifts-quiet : is_pcwrite x.call ≡ false → (c i : ℕ) → LiftsNot o c i x
        lifts-quiet quiet c i = record {
          lifts_not = λ is. false≢true (sym quiet ∙ ap is_pcwrite is ∙ writes-code o c i (code_of o i));
        }

        plants-quiet : is_pcwrite x.call ≡ false → (c i : ℕ) → x.call ≡ plant_call o c i → ⊥
        plants-quiet quiet c i is = false≢true (sym quiet ∙ ap is_pcwrite is ∙ writes-code o c i breakpoint)

        each-quiet : is_pcwrite x.call ≡ false → Each (So then) t.traced
        each-quiet quiet i within =
            facts-kept k o s before e x own (traced_at t i).pid (traced_at t i).control (marks_at t i)
            (kept.each i within) (opens-not i within) (λ j first. lifts-quiet quiet (traced_at t i).control j)
            (λ j first is granted. plants-quiet quiet (traced_at t i).control j is)

        -- one that writes to the control file of another process
        each-apart : (q g : ℕ) (code : List ℕ) → q < length t.traced
            → x.call ≡ write_code_call o (traced_at t q).control g code → EachBut (So then) t.traced q
        each-apart q g code there is i within other =
            let apart : (traced_at t q).control ≢ (traced_at t i).control =
            controls-apart q i there within (λ same. other (sym same)) in
            facts-kept k o s before e x own (traced_at t i).pid (traced_at t i).control (marks_at t i)
            (kept.each i within) (opens-not i within)
            (λ j first. record {
              lifts_not = λ so. lifts-apart o able others (traced_at t q).control (traced_at t i).control g j code apart
                  (sym is ∙ so);
            })
            (λ j first so granted.
            plants-apart o able others (traced_at t q).control (traced_at t i).control g j code apart (sym is ∙ so))

        -- ---- the process that it writes to

        other : (a : Answer) → answer_of x.reply ≡ a → (Accepted ≡ a → ⊥) → IsGranted x → ⊥
        other a answer apart granted = apart (sym (granted-accepted x.reply granted.not_refused) ∙ answer)

        module _ (q g : ℕ) (there : q < length t.traced) (first : Named g) where
          abbrev c : ℕ
          c = (traced_at t q).control

          abbrev m : Marks
          m = marks_at t q

          abbrev At : Marks → Type 0
          At l = Facts k o s then (traced_at t q).pid c l

          -- a plant that was not granted
          refused-so : x.call ≡ plant_call o c g → (IsGranted x → ⊥) → At m
          refused-so is refused =
              facts-kept k o s before e x own (traced_at t q).pid c m (kept.each q there) (opens-not q there)
              (λ j named. record {
                lifts_not = λ so. plants-lifts o able others c c g j first named (sym is ∙ so);
              })
              (λ j named so granted. refused granted)

          planted-so : (a : Answer) → answer_of x.reply ≡ a → (lift : Option ℕ) → x.call ≡ plant_call o c g
              → At (record m { planted = planted_after m.planted a (Some g) lift })
          planted-so Accepted answer lift is =
              facts-planted k o s before e x own (traced_at t q).pid c m (kept.each q there) (opens-not q there) able
              others g first is (accepted-granted x answer)
          planted-so Interrupted answer lift is = refused-so is (other Interrupted answer (λ same. cc))
          planted-so Gone answer lift is = refused-so is (other Gone answer (λ same. cc))
          planted-so (Refused errno) answer lift is = refused-so is (other (Refused errno) answer (λ same. cc))

          lifted-so : (a : Answer) → x.call ≡ lift_call o c g
              → At (record m { planted = planted_after m.planted a None (Some g) })
          lifted-so a is = by a
            where
              done : At (record m { planted = without_function m.planted g })
              done =
                  facts-lifted k o s before e x own (traced_at t q).pid c m (kept.each q there) (opens-not q there) able
                  others g first is

              by : (a : Answer) → At (record m { planted = planted_after m.planted a None (Some g) })
              by Accepted = done
              by Interrupted = done
              by Gone = done
              by (Refused errno) = done

        -- ---- what is read

        -- the marks of a process of which truss reads this lwp
        module _ (q : ℕ) (l : LwpStatus) (there : q < length t.traced) (quiet : is_pcwrite x.call ≡ false)
            (reads : ReadsLwp k (traced_at t q).pid s before e l) (ev : Event)
            (fresh : fresh_event (traced_at t q) l ≡ Some ev) where
          abbrev Then : FunctionEvent → Type 0
          Then what =
              Facts k o s then (traced_at t q).pid (traced_at t q).control (marks_then (marks_at t q) l what)

          met : (function : ℕ) → function_event t.options (marks_at t q) l.id ev ≡ AtBreakpoint function
              → Named function
          met function is =
              let b =
              event-breaks o (marks_at t q) l.id ev function
              (ap (λ p. function_event p (marks_at t q) l.id ev) (sym kept.options) ∙ is) in
              first-found o b.pc function b.found

          -- nothing is lifted by it alone
          stays-so : (what : FunctionEvent) → function_event t.options (marks_at t q) l.id ev ≡ what
              → (marks_then (marks_at t q) l what).planted ≡ (marks_at t q).planted → Then what
          stays-so what is same =
              facts-as k o s then (traced_at t q).pid (traced_at t q).control (marks_at t q)
              (marks_then (marks_at t q) l what) same
              (then-in Named (marks_at t q) l what (so-sets before (traced_at t q) (kept.each q there))
              (λ function at. met function (is ∙ at))) (each-quiet quiet q there)

          read-so : (what : FunctionEvent) → function_event t.options (marks_at t q) l.id ev ≡ what → Then what
          read-so (AtBreakpoint function) is = stays-so (AtBreakpoint function) is refl
          read-so (Completed step) is = stays-so (Completed step) is refl
          read-so TraceTrap is = stays-so TraceTrap is refl
          read-so BeforeCopy is = stays-so BeforeCopy is refl
          read-so AfterCopy is = stays-so AfterCopy is refl
          read-so Other is = stays-so Other is refl
          read-so Replaced is =
              facts-told k o s before e x own (traced_at t q).pid (traced_at t q).control (marks_at t q)
              (kept.each q there) (opens-not q there) (record {
                l = l;
                reads = reads;
                event = ev;
                stands = fresh-stands (traced_at t q) l ev fresh;
                replaced = replaces t.options (marks_at t q) l.id ev is;
              })

        -- a file of a process is read
        reads-file : (q number : ℕ) (f : File) (bytes : List ℕ) → IsFileOf k now (traced_at t q).pid number f Read
            → x.call ≡ call.Read number 0 read_limit → x.reply ≡ reply.Bytes bytes
            → ReadsFile k (traced_at t q).pid f now e
        reads-file q number f bytes is made got = record {
          handle = number;
          from = 0;
          len = read_limit;
          bytes = bytes;
          held = held_by k (traced_at t q).pid 0 f Read;
          is =
              own
              ∙ ap (λ (z : Exchange). Some z)
              (same-exchange x (call.Read number 0 read_limit) (reply.Bytes bytes) made got);
          there = is.is;
          of = refl;
          file = refl;
        }

        status-file : (q : ℕ) → t.stage ≡ ReadingStatus q
            → IsFileOf k now (traced_at t q).pid (number_of (traced_at t q).status) file.Status Read
        status-file q at =
            subst (λ (v : Traced). IsFileOf k now v.pid (number_of v.status) file.Status Read) (at-ordinary t q)
            (status-read k (ordinary t) now files fits q at)

        lwps-file : t.stage ≡ ReadingLwps
            → IsFileOf k now (traced_at t 0).pid (number_of (traced_at t 0).lstatus) file.Lstatus Read
        lwps-file at =
            subst (λ (v : Traced). IsFileOf k now v.pid (number_of v.lstatus) file.Lstatus Read) (at-ordinary t 0)
            (lwps-read k (ordinary t) now files fits at)

        status-called : (q : ℕ) → t.stage ≡ ReadingStatus q → t.aside ≡ Nothing
            → x.call ≡ call.Read (number_of (traced_at t q).status) 0 read_limit
        unfolding function_call_of call_of
        status-called q at idle = sym (same_Some _ x.call (staged (ReadingStatus q) at idle))

        lwps-called : t.stage ≡ ReadingLwps → t.aside ≡ Nothing
            → x.call ≡ call.Read (number_of (traced_at t 0).lstatus) 0 read_limit
        unfolding function_call_of call_of
        lwps-called at idle = sym (same_Some _ x.call (staged ReadingLwps at idle))

        status-lwp : (q : ℕ) (l : LwpStatus) → t.stage ≡ ReadingStatus q → t.aside ≡ Nothing
            → option_and_then status_lwp (bytes_in x.reply) ≡ Some l → ReadsLwp k (traced_at t q).pid s before e l
        unfolding reads-file status-bytes
        status-lwp q l at idle told =
            let b = status-bytes x.reply l told in
            of_status
            (reads-file q (number_of (traced_at t q).status) file.Status b.0 (status-file q at)
            (status-called q at idle)
            b.1.0) b.1.1

        lwps-lwp : (l : LwpStatus) → t.stage ≡ ReadingLwps → t.aside ≡ Nothing
            → slice_get (event_stops (bytes_in x.reply)) 0 ≡ Some l → ReadsLwp k (traced_at t 0).pid s before e l
        unfolding reads-file lwps-bytes
        lwps-lwp l at idle told =
            let b = lwps-bytes x.reply l told in
            let stands : Stands (ordinary t).traced t.leaving t.stage = files.stands in
            let leaving : t.leaving ≡ true = subst (Leaves t.leaving) at stands.leaves in
            of_lwps (leaves-interrupted n k o (traced_at t 0).pid s before later e run leaving)
            (reads-file 0 (number_of (traced_at t 0).lstatus) file.Lstatus b.0 (lwps-file at) (lwps-called at idle)
            b.1.0) b.1.1

        -- ---- a row a stage, and a row what comes before its call

        abbrev AtStage : Stage → Type 0
        AtStage stage =
            StageSo o Named (first-found o) (So then) (so-alike then) (so-sets then) t x.reply kept.options
            kept.aside stage

        abbrev Beside : Aside → Type 0
        Beside aside =
            BesideSo o Named (first-found o) (So then) (so-alike then) (so-sets then) t x.reply kept.options
            kept.aside aside

        at-stage : (stage : Stage) → t.stage ≡ stage → t.aside ≡ Nothing → AtStage stage
        unfolding function_call_of call_of newly_traced
        at-stage (OpeningControl pid) at idle = λ accepted.
            facts-new k o s before e x own pid (sym (same_Some _ x.call (staged (OpeningControl pid) at idle)))
            (accepted-granted x accepted)
        at-stage (OpeningChildControl parent pid) at idle = absurd
            (subst (Going (exchanges k before)) at (entries.going n k o s before later e run))
        at-stage (ReadingStatus q) at idle = λ l accepted told ev fresh there.
            read-so q l there (stage-quiet t (ReadingStatus q) x.call (staged (ReadingStatus q) at idle))
            (status-lwp q l at idle told) ev fresh (function_event t.options (marks_at t q) l.id ev) refl
        at-stage ReadingLwps at idle = λ l accepted told ev fresh there.
            read-so 0 l there (stage-quiet t ReadingLwps x.call (staged ReadingLwps at idle))
            (lwps-lwp l at idle told) ev fresh (function_event t.options (marks_at t 0) l.id ev) refl
        at-stage (Running q) at idle = λ there.
            let w = so-sets before (traced_at t q) (kept.each q there) in
            facts-as k o s then (traced_at t q).pid (traced_at t q).control (marks_at t q)
            (record (marks_at t q) { flags = 0 }) refl
            (record { planted = w.planted; lifted = w.lifted; stepped = w.stepped })
            (each-quiet (stage-quiet t (Running q) x.call (staged (Running q) at idle)) q there)
        at-stage stage at idle = tt

        stage-within : (q : ℕ) → stage_place t.stage ≡ Some q → q < length t.traced
        stage-within q is =
            let c = stage-control k (ordinary t) now files fits q is in
            let inside_so : q < length (ordinary t).traced = c.0 in
            omega (arith, inside_so, same-length)

        aside-within : (aside : Aside) → t.aside ≡ aside → FitsAside aside t.stage
        aside-within aside at = let w = fit in subst (λ a. FitsAside a t.stage) at w.fits

        aside-named : (aside : Aside) → t.aside ≡ aside → AsideIn Named aside
        aside-named aside at = subst (AsideIn Named) at kept.aside

        patches-so : (q : ℕ) (plants lifts : List Bool) (clear : Bool) → t.aside ≡ Patching q plants lifts clear
            → Beside (Patching q plants lifts clear)
        unfolding call_beside message_code word_bytes
        patches-so q plants lifts clear at =
            by (first_function plants) (first_function lifts) refl refl
          where
            there : q < length t.traced
            there =
                let w = aside-within (Patching q plants lifts clear) at in
                stage-within q (looked-place q t.stage (patch-looked q plants clear t.stage w.0))

            sent : (plant lift : Option ℕ) → first_function plants ≡ plant → first_function lifts ≡ lift
                → Some (patch_call o (traced_at t q).control plant lift) ≡ Some x.call
            sent plant lift first second =
                ap (λ z. Some (patch_call o (traced_at t q).control z lift)) (sym first)
                ∙ ap (λ z. Some (patch_call o (traced_at t q).control (first_function plants) z)) (sym second)
                ∙ ap (λ z. Some (patch_call z (traced_at t q).control (first_function plants) (first_function lifts)))
                (sym kept.options)
                ∙ called (Patching q plants lifts clear) at

            named : AllIn Named plants × AllIn Named lifts
            named = aside-named (Patching q plants lifts clear) at

            after : Option ℕ → Option ℕ → Type 0
            after plant lift =
                AfterSo o Named (first-found o) (So then) (so-alike then) (so-sets then) t x.reply kept.options
                kept.aside q
                (answer_of x.reply) plant lift

            cleared : is_pcwrite x.call ≡ false → (a : Answer)
                → Facts k o s then (traced_at t q).pid (traced_at t q).control
                (record (marks_at t q) { planted = planted_after (marks_at t q).planted a None None })
            cleared quiet Accepted = each-quiet quiet q there
            cleared quiet Interrupted = each-quiet quiet q there
            cleared quiet Gone = each-quiet quiet q there
            cleared quiet (Refused errno) = each-quiet quiet q there

            by : (plant lift : Option ℕ) → first_function plants ≡ plant → first_function lifts ≡ lift
                → EachBut (So then) t.traced q × after plant lift
            by (Some g) lift first second =
                let is : x.call ≡ plant_call o (traced_at t q).control g =
                sym (same_Some _ x.call (sent (Some g) lift first second)) in
                let its : Named g = named.0 g (first-has plants g first) in (
                  each-apart q g breakpoint there is,
                  λ inside_so. planted-so q g there its (answer_of x.reply) refl lift is,
                )
            by None (Some g) first second =
                let is : x.call ≡ lift_call o (traced_at t q).control g =
                sym (same_Some _ x.call (sent None (Some g) first second)) in
                let its : Named g = named.1 g (first-has lifts g second) in
                (each-apart q g (code_of o g) there is, λ inside_so. lifted-so q g there its (answer_of x.reply) is)
            by None None first second =
                let quiet : is_pcwrite x.call ≡ false = by-call x.call _ refl (sent None None first second) in
                (λ i within apart. each-quiet quiet i within, λ inside_so. cleared quiet (answer_of x.reply))

        beside-so : (aside : Aside) → t.aside ≡ aside → Beside aside
        unfolding call_beside message_code word_bytes
        beside-so Nothing at =
            (each-quiet (stage-quiet t t.stage x.call (staged t.stage refl at)), at-stage t.stage refl at)
        beside-so (Reading q g) at = each-quiet (by-call x.call _ refl (called (Reading q g) at))
        beside-so (Planting q g) at =
            let there : q < length t.traced =
            stage-within q (opened-place q t.stage (aside-within (Planting q g) at)) in
            let is : x.call ≡ plant_call o (traced_at t q).control g =
            sym (same_Some _ x.call (called (Planting q g) at))
            ∙ ap (λ z. plant_call z (traced_at t q).control g) kept.options in
            let its : Named g = aside-named (Planting q g) at in
            (each-apart q g breakpoint there is, λ inside_so. planted-so q g there its (answer_of x.reply) refl None is)
        beside-so (Patching q plants lifts clear) at = patches-so q plants lifts clear at
        beside-so (AwaitingStop until) at = each-quiet (by-call x.call _ refl (called (AwaitingStop until) at))
        beside-so Asking at = each-quiet (by-call x.call _ refl (called Asking at))
        beside-so (AwaitingAgain until) at = each-quiet (by-call x.call _ refl (called (AwaitingAgain until) at))

        own-kept : Kept then
        own-kept =
            subst (Holds o Named (first-found o) (So then) (so-alike then) (so-sets then))
            (sym (entries.pushed n k o s before later e run x own))
            (fed-holds o Named (first-found o) (So then) (so-alike then) (so-sets then) t x.reply kept.options
            kept.aside
            has (beside-so t.aside refl))

      pub entry-kept : Kept (before ++ e ∷ [])
      entry-kept = by (exchange_of k e) refl
        where
          by : (x : Option Exchange) → exchange_of k e ≡ x → Kept then
          by None none = others-kept none
          by (Some x) own = own-kept x own

    -- ---- along a history

    first-kept : Kept []
    first-kept =
        subst
        (λ xs. Holds o Named (first-found o) (So []) (so-alike []) (so-sets []) (functions_after (first_truss o) xs))
        (sym (no-exchanges k)) (first-holds-so o Named (first-found o) (So []) (so-alike []) (so-sets []))

    pub always-kept : (h : List Entry) → IsFunctionRun n k o s h → Kept h
    always-kept h run =
        along Kept first-kept h
        (λ before later e is w. entry-kept before later e (subst (IsFunctionRun n k o s) is run) w)
