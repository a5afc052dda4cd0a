use Rattle.std.proofs.Common.{◌≡◌, ◌++◌, ℕ, Some, List, [], ◌∷◌, append_assoc, refl, sym, subst, ap, ◌∙◌}
use Rattle.pr_function_laws.proofs.Stepping.BreakpointLemmas.{handles-same, lawful-now, live-now, looks-now, makes, seen-then, stands}
use Rattle.pr_function_laws.proofs.Marks.LiftLemmas.{met_at}
use Rattle.pr_function_laws.proofs.Marks.MetLemmas.{event-breaks, found-function, fresh-stands}
use Rattle.pr_function_laws.proofs.OpenedProcesses.OpenedLaws.{calls-front}
use Rattle.pr_function_laws.proofs.CallTurns.TurnReads.{ShownLwp, fault-told, shown-lwp, told-stop}
use Rattle.pr_function_laws.proofs.CallTurns.TurnStates.{Waits, had-no-turn}
use Rattle.pr_function_laws.proofs.CallTurns.TurnWalks as walks
use Rattle.pr_function_laws.proofs.CallTurns.TurnWalks.{AreNoReads, Before, Comes, Files, Going, walk}
use Rattle.pr_function_laws.specs.Lifted.{IsAtStopAtBreakpoint, StepsNoCall}
use Rattle.pr_function_laws.specs.Runs.{MakesFunctionCalls}
use Rattle.pr_function_laws.specs.Turns.{IsNoTurnOf}
use Rattle.pr_lawful.proofs.LawfulTurns.EndLemmas.{found-live}
use Rattle.pr_lawful.proofs.Following.UseLemmas.{live-lawful}
use Rattle.pr_line.specs.Events.{event_of}
use Rattle.pr_line.specs.declared.events.Event.TheVariants as event
use Rattle.pr_model.proofs.TurnLemmas.{turn-taken}
use Rattle.pr_model.specs.Lawful.{IsLawful}
use Rattle.pr_model.specs.Legal.{IsLegal, IsLegalEntry, after, state_after}
use Rattle.pr_model.specs.Registers.{pc_of}
use Rattle.pr_model.specs.State.{TracedLwp, TracedProcess, TracedState, lwp_of, live_process}
use Rattle.pr_model.specs.Statuses.{lwpstatus_of}
use Rattle.pr_model.specs.declared.events.Act.TheVariants.{Turn}
use Rattle.pr_model.specs.declared.events.Actor.TheVariants.{Lwp}
use Rattle.pr_model.specs.declared.events.Entry.{Entry}
use Rattle.pr_model.specs.declared.events.Turned.{Turned}
use Rattle.pr_model.specs.declared.stops.Stop.TheVariants as stop
use Rattle.pr_num.specs.declared.faults.Flt.TheVariants.{Bpt}
use Rattle.pr_num.specs.declared.faults.Flt.{Flt}
use Rattle.pr_reached.proofs.FitStates.FitHistoryLemmas.{history-fits}
use Rattle.pr_rec.specs.declared.lwps.LwpStatus.{LwpStatus}
use Rattle.pr_report_laws.proofs.Files.WatchHistories.{exchanges-both}
use Rattle.pr_report_laws.proofs.Watching.HistoryParts.{all-rest, legal-front, legal-rest}
use Rattle.pr_truss.specs.Asides.{marks_at}
use Rattle.pr_truss.specs.FunctionFeeding.{fed_functions}
use Rattle.pr_truss.specs.Marks.{address_in, address_of, has_functions}
use Rattle.pr_truss.specs.Trusses.{TrussState, traced_at}
use Rattle.pr_truss.specs.declared.processes.Traced.{Traced}
use Rattle.pr_truss_laws.proofs.Machine.FrameLemmas.{was-made}
use Rattle.pr_truss_laws.proofs.Replies.FunctionOptionLemmas.{fed_functions-options}
use Rattle.pr_truss_laws.proofs.Machine.OverLemmas.{stays-made}
use Rattle.pr_truss_laws.specs.Exchanges.{exchanges}
use Rattle.std.proofs.lemmas.List.Elements.{All-head}
use Rattle.std.proofs.lemmas.Option.{none-some, same_Some}
use Rattle.std.specs.List.{All}

-- From the read of an lwp at a breakpoint on: how the process stood at that read, and that the lwp has one turn at most
-- until truss reads the process again.

-- one turn among entries that have none
pub turn-none : (pid id : ℕ) (t : Turned) → IsNoTurnOf pid id (record { actor = Lwp pid id; act = Turn t }) → ⊥
turn-none pid id t w = w.other refl

pub among-none : (pid id : ℕ) (t : Turned) (us vs : List Entry)
    → All (IsNoTurnOf pid id) (us ++ record { actor = Lwp pid id; act = Turn t } ∷ vs) → ⊥
among-none pid id t us vs none =
    turn-none pid id t
    (All-head (IsNoTurnOf pid id) (record { actor = Lwp pid id; act = Turn t }) vs
    (all-rest (IsNoTurnOf pid id) us (record { actor = Lwp pid id; act = Turn t } ∷ vs) none))

module _ (n k : ℕ) (t : TrussState) (place ns pid id : ℕ) (s : TracedState) (e : Entry) (rest : List Entry)
    (here : IsAtStopAtBreakpoint n k t place ns pid id s e rest) where
  abbrev c : ℕ
  c = (traced_at t place).control

  abbrev first_lwp : LwpStatus
  first_lwp = let m = here.meets in m.l

  abbrev function : ℕ
  function = let m = here.meets in m.function

  abbrev met : Traced
  met = met_at t place first_lwp function

  abbrev now : TracedState
  now = after s e

  abbrev begun : TrussState
  begun = let x = here.x in fed_functions t x.reply

  -- ---- the first read

  pub lwp-then : ShownLwp here.process first_lwp
  lwp-then =
      let m = here.meets in
      let l = live-lawful s.system pid here.process (let it = here.lawful in it.system) here.live in
      shown-lwp here.process first_lwp m.event l.rising
      (seen-then n k t place ns pid id s e rest here)
      (fresh-stands (traced_at t place) first_lwp m.event m.fresh)

  -- the lwp as it stood at the breakpoint
  abbrev pub stood : TracedLwp
  stood = let x = lwp-then in x.lwp

  pub first-id : first_lwp.id ≡ id
  first-id = let told = here.told in told.its

  -- the breakpoint
  pub at-break : event_of first_lwp ≡ Some (event.Incurred Bpt (address_of t.options function))
  unfolding address_of
  at-break =
      let m = here.meets in
      let b = event-breaks t.options (marks_at t place) first_lwp.id m.event function m.at_breakpoint in
      let f = found-function t.options b.pc function b.found in
      fresh-stands (traced_at t place) first_lwp m.event m.fresh ∙ ap (λ x. Some x) b.is
      ∙ ap (λ pc. Some (event.Incurred Bpt pc)) (sym f.1.1 ∙ ap address_in (sym f.1.0))

  pub lwp-stop : stood.control.stop ≡ Some (stop.Faulted Bpt)
  lwp-stop =
      let x = lwp-then in
      told-stop here.process first_lwp.id x.lwp Bpt (address_of t.options function)
      (ap event_of (sym x.is) ∙ at-break)

  pub status-regs : (p : TracedProcess) (own : ℕ) (l : TracedLwp) → (lwpstatus_of p own l).regs ≡ l.regs
  unfolding lwpstatus_of
  status-regs p own l = refl

  pub lwp-regs : stood.regs ≡ first_lwp.regs
  lwp-regs =
      let x = lwp-then in
      sym (ap (λ (y : LwpStatus). y.regs) x.is ∙ status-regs here.process first_lwp.id x.lwp)

  pub incurred-pc : (f : Flt) (a b : ℕ) → Some (event.Incurred f a) ≡ Some (event.Incurred f b) → a ≡ b
  incurred-pc f a b is = cc

  pub stands-at : pc_of stood.regs ≡ address_of t.options function
  stands-at =
      let x = lwp-then in
      incurred-pc Bpt (pc_of x.lwp.regs) (address_of t.options function)
      (sym (fault-told here.process first_lwp.id x.lwp Bpt lwp-stop) ∙ ap event_of (sym x.is) ∙ at-break)

  pub waits-then : Waits id stood here.process
  waits-then =
      let x = lwp-then in
      record {
        stands = stands n k t place ns pid id s e rest here;
        all = here.stops;
        own = λ l there.
            let one : x.lwp ≡ l = same_Some x.lwp l (sym x.there ∙ ap (lwp_of here.process) first-id ∙ there) in
            record {
              holds = ap (λ (y : TracedLwp). y.regs) (sym one);
              suspended = ap (λ (y : TracedLwp). y.suspended) (sym one);
              stop = ap (λ (y : TracedLwp). y.control.stop) (sym one) ∙ lwp-stop;
            };
      }

  pub files-now : Files n k pid id c ns met place stood now
  files-now =
      let f = here.files in
      let same_handles = handles-same n k t place ns pid id s e rest here in
      record { control = same_handles c ∙ f.control; status = same_handles ns ∙ f.reads }

  pub first-before : Before n k pid id c ns met place stood begun now
  first-before =
      walks.looks (looks-now n k t place ns pid id s e rest here) files-now
      (λ p live. subst (Waits id stood)
      (same_Some here.process p (sym (live-now n k t place ns pid id s e rest here) ∙ live))
      waits-then)

  -- ---- on the way

  module _ (between more : List Entry) (is : rest ≡ between ++ more) (quiet : AreNoReads ns (exchanges k between)) where
    pub going-front : Going n k pid id c ns met place stood begun now between
    going-front =
        let first = found-live s.system pid here.process here.live in
        let lawful : IsLawful s = here.lawful in
        record {
          lawful = lawful-now n k t place ns pid id s e rest here;
          made = stays-made n s e pid lawful here.legal.0 (was-made pid s.system here.process lawful.system first.0);
          fit = history-fits n s (e ∷ []) lawful here.fit (here.legal.0, tt);
          has = let x = here.x in ap has_functions (fed_functions-options t x.reply) ∙ here.has;
          legal = legal-front n now between more (subst (IsLegal n now) is here.legal.1);
          makes = calls-front begun (exchanges k between) (exchanges k more)
              (subst (MakesFunctionCalls begun) (ap (exchanges k) is ∙ exchanges-both k between more)
              (makes n k t place ns pid id s e rest here).1);
          quiet = quiet;
          no_call = let calls : StepsNoCall k pid id c now rest = here.no_call in record {
            each = λ before later f x p l at.
                calls.each before (later ++ more) f x p l
                (is ∙ ap (λ (es : List Entry). es ++ more) at ∙ append_assoc before (f ∷ later) more);
          };
        }

    pub came-front : Comes n k pid id c ns met place stood begun now between
    came-front = walk n k pid id c ns met place stood between begun now going-front first-before

  -- a turn of the lwp
  abbrev turn : Turned → Entry
  turn did = record { actor = Lwp pid id; act = Turn did }

  module _ (before mid later : List Entry) (did again : Turned)
      (is : rest ≡ before ++ turn did ∷ (mid ++ turn again ∷ later))
      (quiet : AreNoReads ns (exchanges k (before ++ turn did ∷ mid))) where
    abbrev front : List Entry
    front = before ++ turn did ∷ mid

    parted : rest ≡ front ++ turn again ∷ later
    parted = is ∙ sym (append_assoc before (turn did ∷ mid) (turn again ∷ later))

    takes : IsLegalEntry n (state_after now front) (turn again)
    takes =
        let legal = legal-rest n now front (turn again ∷ later) (subst (IsLegal n now) parted here.legal.1) in legal.0

    pub no-second : ⊥
    unfolding IsLegalEntry
    no-second =
        let it =
        turn-taken (state_after now front).system pid id (record { system = takes.0; turned = again }) takes.1 in
        by it.process it.live (came-front front (turn again ∷ later) parted quiet)
      where
        by : (p : TracedProcess) → live_process (state_after now front).system pid ≡ Some p
            → Comes n k pid id c ns met place stood begun now front → ⊥
        by p live (walks.no_turn none b) = among-none pid id did before mid none
        by p live (walks.ends gone) = none-some p (sym gone ∙ live)
        by p live (walks.one_turn b l d point one facts a) =
            had-no-turn id stood point (state_after now front).system pid p
            (record { system = takes.0; turned = again }) live takes.1 (a.had p live)
