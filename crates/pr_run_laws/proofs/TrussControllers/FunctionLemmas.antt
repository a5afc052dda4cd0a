use Rattle.std.proofs.Common.{◌≡◌, ◌≢◌, ℕ, Option, None, Some, List, [], ◌∷◌, arith}
use Rattle.std.proofs.Common.{sym, subst, ◌∙◌, refl}
use Rattle.std.proofs.lemmas.Bool.{false≢true}
use Rattle.std.proofs.lemmas.List.Elements.{All-cons, All-nil, All-weaker}
use Rattle.std.proofs.lemmas.Slice.Eq.{bytes_eq-Decides}
use Rattle.std.specs.List.{All, cons_option, slice_get}
use Rattle.std.proofs.lemmas.Option.{slice_get_within}
use Rattle.pr_line.specs.declared.options.Options.{Options}
use Rattle.pr_model.specs.Legal.{IsLegal}
use Rattle.pr_model.specs.State.{TracedState}
use Rattle.pr_model.specs.declared.events.Entry.{Entry}
use Rattle.pr_truss.specs.Trusses.{TrussState, first_truss, traced_at}
use Rattle.pr_truss_laws.specs.Exchanges.{Exchange, exchanges}
use Rattle.pr_world.specs.ControllerStates.{ControllerState, FnTruss}
use Rattle.pr_tool_laws.specs.OwnCalls.{AreOwnCalls}
use Rattle.pr_truss_laws.specs.Exchanges.{exchange_of}
use Rattle.pr_truss_laws.specs.Handles.{HasNothingOpen}
use Rattle.pr_reached.specs.ByteHistories.{HasBytes}
use Rattle.pr_reached.specs.Reached.{IsReached}
use Rattle.pr_function_laws.proofs.Marks.MetLemmas.{event-breaks, found-function, tells-calls}
use Rattle.pr_function_laws.proofs.CallTurns.CalledLaws.{calls-are-turns}
use Rattle.pr_function_laws.proofs.Pending.EventReads.{events-read}
use Rattle.pr_function_laws.proofs.Listing.LeavingEvents.{lists-its-events}
use Rattle.pr_function_laws.proofs.LeavingProcesses.LeavingHolds.{has-one-event-each, holds-what-it-opened}
use Rattle.pr_function_laws.proofs.LeavingProcesses.LeavingAlone.{is-left-alone}
use Rattle.pr_function_laws.proofs.OpenedProcesses.OpenedLaws.{lifts-alone}
use Rattle.pr_function_laws.proofs.LineMemory.LineEvents.{are-of-their-events}
use Rattle.pr_function_laws.proofs.LineMemory.LineMoments.{memories-stand}
use Rattle.pr_function_laws.proofs.LineMemory.LineReads.{reads-for-lines}
use Rattle.pr_function_laws.proofs.LineMemory.TextsAtOnce.{reads-at-once}
use Rattle.pr_function_laws.proofs.LineMemory.LineTexts.{have-their-texts}
use Rattle.pr_function_laws.proofs.OrdinaryTruss.OrdinaryExchanges.{truss-beside}
use Rattle.pr_function_laws.proofs.OrdinaryTruss.HandledLaws.{handles-its-given}
use Rattle.pr_function_laws.proofs.Holding.EndedFiles.{closes-all-ended}
use Rattle.pr_function_laws.proofs.Holding.HoldGiven.{holds-or-refuses}
use Rattle.pr_function_laws.proofs.Holding.HoldLaws.{watches-what-it-holds}
use Rattle.pr_function_laws.proofs.Holding.HoldOnce.{keeps-its-holds}
use Rattle.pr_function_laws.proofs.Holding.HoldQuiet.{opens-quietly}
use Rattle.pr_function_laws.proofs.LeavingProcesses.LeavingLaws.{calm-exchanges, leaves-its-processes}
use Rattle.pr_function_laws.proofs.OrdinaryTruss.OrdinaryLaws.{calls-its-files, closes-controls-last, closes-throughout, nothing-left}
use Rattle.pr_function_laws.proofs.OrdinaryTruss.OrdinaryPolls.{polls-in-order, polls-once}
use Rattle.pr_function_laws.proofs.Looking.LookPlaces.{looks-in-place}
use Rattle.pr_function_laws.proofs.Looking.NamedLooks.{looks-at-named}
use Rattle.pr_function_laws.proofs.Looking.SoonPolls.{polls-by-files}
use Rattle.pr_function_laws.proofs.ShownOnce.OrdinaryNew.{shows-what-is-new}
use Rattle.pr_function_laws.proofs.ShownOnce.OrdinaryOnce.{shows-stops-once}
use Rattle.pr_function_laws.proofs.OrdinaryTruss.OrdinaryShown.{shows-what-it-reads}
use Rattle.pr_function_laws.proofs.CallTurns.OwnSteps.{steps-read}
use Rattle.pr_function_laws.proofs.NextCalls.PlantedLaws.{plants-what-it-read}
use Rattle.pr_function_laws.proofs.PlantedCalls.PlantedHolds.{marks-planted}
use Rattle.pr_function_laws.proofs.OrdinaryTruss.RefusalLaws.{tells-no-refusal-of-held, tells-refusals-at-first}
use Rattle.pr_function_laws.proofs.NextCalls.SoonLemmas.{soon-done}
use Rattle.pr_function_laws.proofs.NextCalls.SoonNamed.{runs-before-it-polls, soon-run-or-closed}
use Rattle.pr_function_laws.proofs.CallTurns.ToldLaws.{tells-turns}
use Rattle.pr_function_laws.proofs.NextCalls.TreatedLaws.{options-at, treats-its-events}
use Rattle.pr_function_laws.specs.Opened.{IsFunctionRun, ReadsBreakpoint, functions_at}
use Rattle.pr_function_laws.specs.PlantedByCalls.{IsNoBreakpoint}
use Rattle.pr_function_laws.specs.ReachedRuns.{IsReachedFunctionRun}
use Rattle.pr_function_laws.specs.Runs.{functions_after, replies_in}
use Rattle.pr_function_laws.specs.Soon.{IsCalm}
use Rattle.pr_function_laws.specs.Steppable.{IsSteppable}
use Rattle.pr_function_laws.specs.ToldTurns.{AreSteppable}
use Rattle.pr_function_laws.specs.Lifted.{MeetsBreakpoint, ReadsOnlyLast}
use Rattle.pr_model.specs.Legal.{state_after}
use Rattle.pr_num.proofs.SearchLemmas.{All-at}
use Rattle.pr_run_laws.proofs.TrussControllers.TrussHiders.{all-patchable}
use Rattle.pr_run_laws.proofs.TrussControllers.TrussOptions.{full-truss}
use Rattle.pr_run_laws.specs.FunctionRuns.{IsFunctionTrussKept}
use Rattle.pr_run_laws.specs.NamedFunctions.{AreShowable, IsShowable}
use Rattle.pr_function_hides.specs.FunctionHiders.{IsPatchable}
use Rattle.pr_truss.specs.Asides.{marks_at}
use Rattle.pr_truss.specs.Marks.{breakpoint}
use Rattle.pr_function_hides.proofs.LeavingCopies.CopyHistory.{finds-so}
use Rattle.pr_function_hides.proofs.LiftedSteps.LiftedLaw.{steps-what-it-lifted}
use Rattle.pr_function_hides.proofs.LiftedSteps.ToldCalls.{tells-its-calls}
use Rattle.pr_function_hides.proofs.Listed.ListedLaw.{fetched-turns}
use Rattle.pr_function_hides.proofs.PlantedFetches.FetchesLaw.{fetches_breakpoints}
use Rattle.pr_function_hides.proofs.Replacing.ReplacedWalk.{writes-none-so}
use Rattle.pr_function_hides.proofs.Replies.WaitingWalk.{keeps-what-waits}
use Rattle.pr_function_hides.proofs.Files.OwnRuns.{function-stays}
use Rattle.pr_function_laws.proofs.NextCalls.KindLemmas.{event-kinds, looks-at-each}
use Rattle.pr_function_laws.proofs.NextCalls.BreakpointCallLemmas.{breakpoint-calls}
use Rattle.pr_function_laws.proofs.NextCalls.TracedWords.{traces-its-words}
use Rattle.pr_report_laws.proofs.Asking.AskedLaws.{reads-replies}
use Rattle.pr_report_laws.proofs.Asking.SelectedLaws.{selects-named}

-- A truss that shows calls of functions among the controllers of a run.

-- ---- its reads of breakpoints

-- the breakpoint is that of a function which truss was given
breakpoint-read : (k : ℕ) (t : TrussState) (place id : ℕ) (s : TracedState) (e : Entry) (between : List Entry)
    → AreShowable t.options → (x : Exchange) → exchange_of k e ≡ Some x → (meets : MeetsBreakpoint t x place)
    → meets.l.id ≡ id
    → ((status : ℕ) → (traced_at t place).status ≡ Some status → ReadsOnlyLast status (exchanges k between))
    → ReadsBreakpoint k t place id s e between
breakpoint-read k t place id s e between named x own meets its reads_last =
    let breaks =
    event-breaks t.options (marks_at t place) meets.l.id meets.event meets.function meets.at_breakpoint in
    let found = found-function t.options breaks.pc meets.function breaks.found in
    let there : slice_get t.options.functions meets.function ≡ Some found.0 = found.1.0 in
    record {
      x = x;
      own = own;
      meets = meets;
      its = its;
      f = found.0;
      named = there;
      few =
          omega (arith, named.few, slice_get_within t.options.functions meets.function found.0 there);
      steppable =
          let f = All-at IsShowable t.options.functions meets.function found.0 there named.each in f.steppable;
      reads_last = reads_last;
    }

-- truss can step each function that it was given
pub all-steppable : (o : Options) → AreShowable o → AreSteppable o
all-steppable o named = record {
  few = named.few;
  each = All-weaker IsShowable IsSteppable (λ f it. it.steppable) o.functions named.each;
}

-- and none of them begins with a breakpoint
none-breaks : (o : Options) → AreShowable o → All IsNoBreakpoint o.functions
none-breaks o named =
    All-weaker IsShowable IsNoBreakpoint
    (λ f it. record {
      other = λ same.
          let patchable : IsPatchable f = it.patchable in
          false≢true (sym patchable.other ∙ (bytes_eq-Decides breakpoint f.code).1 (sym same));
    }) o.functions named.each

-- ---- all of it

-- its history
pub function-run : (controllers : List ControllerState) (n : ℕ) (s : TracedState) (h : List Entry) (k : ℕ)
    (o : Options) → IsReached s → HasNothingOpen k s → slice_get controllers k ≡ Some (FnTruss (first_truss o))
    → o.functions ≢ [] → AreShowable o → IsLegal n s h → AreOwnCalls controllers h → IsFunctionRun n k o s h
function-run controllers n s h k o reached none at some named legal own =
    let stays = function-stays h controllers k (first_truss o) at own in
    record {
      has = full-truss o some;
      follows_none = named.follows_none some;
      lawful = reached.lawful;
      nothing_open = none;
      legal = legal;
      makes = stays.0;
    }

pub function-kept : (controllers : List ControllerState) (n : ℕ) (s : TracedState) (h : List Entry) (k : ℕ)
    (o : Options) → IsReached s → HasBytes h → HasNothingOpen k s
    → slice_get controllers k ≡ Some (FnTruss (first_truss o)) → o.functions ≢ [] → AreShowable o → IsLegal n s h
    → AreOwnCalls controllers h → IsFunctionTrussKept controllers s h k o
function-kept controllers n s h k o reached bytes none at some named legal own =
    let stays = function-stays h controllers k (first_truss o) at own in
    let has = full-truss o some in
    let run = function-run controllers n s h k o reached none at some named legal own in
    let whole : IsReachedFunctionRun n k o s h = record { of = run; reached = reached; bytes = bytes } in
    let calm = calm-exchanges h n k s legal in
    let beside = truss-beside o (exchanges k h) has run.follows_none stays.0 calm in
    record {
      makes = stays.0;
      truss = stays.1;
      calls = tells-calls o (replies_in (exchanges k h)) has;
      soon = soon-done o (exchanges k h) has stays.0 calm;
      named_soon = soon-run-or-closed n k o s h run;
      before_polls = runs-before-it-polls n k o s h run;
      named_looks = looks-at-named n k o s h run;
      looks = looks-in-place n k o s h run;
      polls_soon = polls-by-files n k o s h run;
      names = named;
      meets = record {
        each = λ before between e x place id.
            breakpoint-read k (functions_at k o before) place id (state_after s before) e between
            (subst AreShowable (sym (options-at o (exchanges k before))) named) x;
      };
      opens = holds-what-it-opened n k o s h run;
      plants = plants-what-it-read o (exchanges k h) has run.follows_none stays.0;
      marks = marks-planted n k o s h run (all-steppable o named) (none-breaks o named);
      events = has-one-event-each n k o s h whole;
      reads = events-read n k o s h whole;
      lists_events = lists-its-events n k o s h whole;
      fetches = fetches_breakpoints n k o s h whole (all-patchable o named);
      lists_calls = fetched-turns n k o s h whole (all-steppable o named);
      under_way = steps-what-it-lifted n k o s h whole (all-steppable o named);
      calls_told = tells-its-calls n k o s h whole (all-steppable o named) (none-breaks o named);
      lifts = lifts-alone n k o s h whole;
      left_alone = is-left-alone n k o s h whole;
      turns = calls-are-turns n k o s h whole;
      told = tells-turns n k o s h whole (all-steppable o named);
      steps = steps-read n k o s h whole (all-steppable o named);
      kinds = event-kinds o;
      looks_new = looks-at-each;
      messages = breakpoint-calls o;
      words = traces-its-words o;
      selects = selects-named o;
      replies = reads-replies;
      copies = λ opens. finds-so n k o s h whole opens;
      replaced = λ opens. writes-none-so n k o s h whole opens;
      treats = treats-its-events o (exchanges k h) has run.follows_none stays.0 calm;
      waits = keeps-what-waits o (exchanges k h) has stays.0;
      leaves = leaves-its-processes n k o s h run;
      ordinary = beside;
      handled = handles-its-given o (exchanges k h) has beside;
      given = holds-or-refuses n k o s h run;
      tells = tells-refusals-at-first n k o s h run;
      holds = watches-what-it-holds n k o s h run;
      keeps = keeps-its-holds n k o s h run;
      ended = closes-all-ended n k o s h run;
      quiet = opens-quietly n k o s h whole;
      refusals = tells-no-refusal-of-held n k o s h run;
      shows = shows-what-it-reads n k o s h run;
      new = shows-what-is-new n k o s h run;
      once = shows-stops-once n k o s h run;
      asks = reads-for-lines n k o s h run;
      at_once = reads-at-once n k o s h whole (all-steppable o named);
      texts = have-their-texts n k o s h run;
      moments = memories-stand n k o s h whole;
      of_their_events = λ pid. are-of-their-events n k o s h pid whole (all-steppable o named);
      files = calls-its-files n k o s h run;
      order = polls-in-order n k o s h run;
      polls = polls-once n k o s h run;
      controls_last = closes-controls-last n k o s h run;
      releases = closes-throughout n k o s h run;
      done = λ finished. nothing-left n k o s h run finished;
    }
