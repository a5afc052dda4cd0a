use Rattle.std.proofs.Common.{◌≡◌, ◌<◌, ◌≤◌, ◌++◌, ℕ, Some, List, ◌∷◌, length, map, position, refl, sym, subst, ap, ◌∙◌, append_assoc}
use Rattle.std.proofs.lemmas.Option.{same_Some}
use Rattle.std.specs.List.{All, cons_option, slice_get}
use Rattle.pr_line.specs.declared.options.Options.{Options}
use Rattle.pr_model.specs.Handles.{handle_of}
use Rattle.pr_model.specs.Legal.{IsLegal, after, state_after}
use Rattle.pr_model.specs.State.{TracedState}
use Rattle.pr_model.specs.declared.calls.Call.TheVariants as call
use Rattle.pr_model.specs.declared.calls.File.TheVariants as file
use Rattle.pr_model.specs.declared.calls.Mode.TheVariants.{WriteExcl}
use Rattle.pr_model.specs.declared.calls.Reply.TheVariants as reply
use Rattle.pr_model.specs.declared.events.Entry.{Entry}
use Rattle.pr_model.specs.declared.handles.Held.{Held}
use Rattle.pr_report_laws.proofs.Files.FileLaws.{HasFiles, IsFileOf}
use Rattle.pr_report_laws.proofs.Files.FileUses.{polled-place}
use Rattle.pr_report_laws.proofs.Files.WatchHistories.{IsAnswered, Reaches, cons-exchanges, exchange-answered, exchanges-both}
use Rattle.pr_report_laws.proofs.Machine.PollLaws.{poll-named}
use Rattle.pr_report_laws.proofs.Watching.HistoryParts.{legal-rest}
use Rattle.pr_report_laws.proofs.Watching.NamedSoon.{control-at, poll-stage}
use Rattle.pr_report_laws.specs.Named.{IsNamedIn}
use Rattle.pr_truss.specs.FunctionCalls.{next_function_call_of}
use Rattle.pr_truss.specs.NextCalls.{next_call_of}
use Rattle.pr_truss.specs.Stops.{has_control}
use Rattle.pr_truss.specs.Trusses.{TrussState, first_truss, traced_at}
use Rattle.pr_truss.specs.declared.processes.Traced.{Traced}
use Rattle.pr_truss.specs.declared.stages.Stage.TheVariants.{Polling}
use Rattle.pr_truss_laws.specs.Exchanges.{Exchange, exchanges}
use Rattle.pr_function_laws.proofs.CallTurns.CalledLaws.{functions-both}
use Rattle.pr_function_laws.proofs.LeavingProcesses.LeavingLaws.{calm-exchanges}
use Rattle.pr_function_laws.proofs.ShownOnce.OpenFiles.{AreOpen, EndsNowhere, files-open, no-ends, stay-open}
use Rattle.pr_function_laws.proofs.OrdinaryTruss.OrdinaryEntries as entries
use Rattle.pr_function_laws.proofs.OrdinaryTruss.OrdinaryEntries.{front-run}
use Rattle.pr_function_laws.proofs.OrdinaryTruss.OrdinaryLaws.{plain-next}
use Rattle.pr_function_laws.proofs.OrdinaryTruss.OrdinaryReplies.{at-ordinary, position-unmarked}
use Rattle.pr_function_laws.proofs.NextCalls.SoonLemmas.{polled-soon, polls-not}
use Rattle.pr_function_laws.specs.Named.{IsAwaited, IsSoonRunOrClosed, RunsBeforeItPollsOf, RunsOrClosesIn}
use Rattle.pr_function_laws.specs.Opened.{IsFunctionRun, functions_at}
use Rattle.pr_function_laws.specs.Ordinary.{ordinary, unmarked}
use Rattle.pr_function_laws.specs.Runs.{MakesFunctionCalls, functions_after}
use Rattle.pr_function_laws.specs.Soon.{IsCalm, IsNamed, IsNoEndOf, calls_until_end}

-- In a history truss with calls of functions soon runs the process that a poll named, or closes a file of it.

-- ---- the poll

module _ (n k : ℕ) (o : Options) (pid handle : ℕ) (s : TracedState) (before between : List Entry) (e : Entry)
    (run : IsFunctionRun n k o s (before ++ e ∷ between)) (names : IsNamedIn k pid handle (state_after s before) e)
  where
    abbrev t : TrussState
    t = functions_at k o before

    abbrev now : TracedState
    now = state_after s before

    abbrev polled : Exchange
    polled = record { call = call.Poll names.handles; reply = reply.Ready handle }

    legal : IsLegal n now (e ∷ between)
    legal = legal-rest n s before (e ∷ between) run.legal

    reached : Reaches k (ordinary t) now
    reached = let f = entries.follows n k o s before between e run in f.reaches

    files : HasFiles k (ordinary t) now
    files = let g = reached in g.files

    polls : (t.stage ≡ Polling) × (map (λ (u : Traced). u.control) (ordinary t).traced ≡ names.handles)
    unfolding next_call_of
    polls =
        poll-stage (ordinary t) names.handles t.stage (plain-next n k o s before between e polled run names.is refl)

    -- the handle is that of the process at this place
    at : (place : ℕ) × ((place < length (ordinary t).traced) × ((traced_at (ordinary t) place).control ≡ handle))
    at =
        let y : IsAnswered k now polled = exchange-answered n k now e polled legal.0 names.is in
        let it = poll-named now k names.handles y.answer handle y.is y.reply in (
          it.place,
          control-at (ordinary t).traced it.place handle
              (ap (λ (ms : List ℕ). slice_get ms it.place) polls.1 ∙ it.named),
        )

    abbrev place : ℕ
    place = at.0

    abbrev p : Traced
    p = traced_at t place

    abbrev q : Traced
    q = traced_at (ordinary t) place

    as-unmarked : q ≡ unmarked p
    as-unmarked = at-ordinary t place

    its-control : p.control ≡ handle
    its-control = sym (ap (λ (u : Traced). u.control) as-unmarked) ∙ at.1.1

    its-pid : q.pid ≡ pid
    its-pid =
        let f : IsFileOf k now q.pid q.control file.Ctl WriteExcl = files.control place at.1.0 in
        ap (λ (h : Held). h.pid)
        (same_Some _ names.held (sym f.is ∙ ap (λ m. handle_of now.opens k m) at.1.1 ∙ names.there))
        ∙ names.of

    -- where the process stands that the poll named
    pub record IsAtPlace : Type 0 where
      pub place : ℕ
      pub within : place < length (ordinary (functions_at k o before)).traced
      pub own : (traced_at (ordinary (functions_at k o before)) place).pid ≡ pid
      pub polls : (functions_at k o before).stage ≡ Polling
      pub there : position (has_control handle) (ordinary (functions_at k o before)).traced ≡ Some place

    there-so : position (has_control handle) (ordinary t).traced ≡ Some place
    there-so =
        subst (λ m. position (has_control m) (ordinary t).traced ≡ Some place) at.1.1
        (polled-place k (ordinary t) now files place at.1.0)

    pub named-place : IsAtPlace
    named-place = record { place = place; within = at.1.0; own = its-pid; polls = polls.0; there = there-so }

    named : IsNamed t polled place
    named = record {
      handles = names.handles;
      polls = refl;
      handle = handle;
      ready = refl;
      there = sym (position-unmarked (has_control handle) (λ u. refl) t.traced) ∙ there-so;
    }

    module _ (waits : IsAwaited k pid handle (after (state_after s before) e) between) where
      -- its files are open before the poll and behind it
      open-then : AreOpen k pid p (after now e)
      open-then =
          stay-open n k pid p now e legal.0 (files-open k pid t now files place at.1.0 its-pid)
          (λ x f m own mine is. not-poll m
          (sym is ∙ ap (λ (y : Exchange). y.call) (same_Some x polled (sym own ∙ names.is))))
        where
          not-poll : (m : ℕ) → call.Close m ≡ call.Poll names.handles → ⊥
          not-poll m is = cc

      ends-nowhere : EndsNowhere n k pid p (after now e) between
      ends-nowhere = record {
        none = λ first rest f is opens ends.
            waits.none first rest f is
            (subst (λ m. RunsOrClosesIn k pid m (state_after (after now e) first) f) its-control ends);
      }

      parts : exchanges k (before ++ e ∷ between) ≡ exchanges k before ++ polled ∷ exchanges k between
      parts =
          exchanges-both k before (e ∷ between)
          ∙ ap (λ xs. exchanges k before ++ xs)
          (cons-exchanges k e between ∙ ap (λ x. cons_option x (exchanges k between)) names.is)

      made : MakesFunctionCalls (first_truss o) (exchanges k before ++ polled ∷ exchanges k between)
      made = subst (MakesFunctionCalls (first_truss o)) parts run.makes

      ends-not : All (IsNoEndOf p) (exchanges k between)
      ends-not = no-ends n k pid p between (after now e) legal.1 open-then ends-nowhere

      calm : All IsCalm (exchanges k between)
      calm = calm-exchanges between n k (after now e) legal.1

      pub named-soon : length (exchanges k between) ≤ calls_until_end o
      named-soon =
          polled-soon o (exchanges k before) (exchanges k between) polled place run.has made named ends-not calm

      pub named-quiet : (handles : List ℕ)
          → next_function_call_of (functions_at k o (before ++ e ∷ between)) ≡ Some (call.Poll handles) → ⊥
      named-quiet handles is =
          let both : functions_at k o (before ++ e ∷ between) ≡ functions_after t (polled ∷ exchanges k between) =
          ap (functions_after (first_truss o)) parts
          ∙ functions-both (first_truss o) (exchanges k before) (polled ∷ exchanges k between) in
          polls-not o (exchanges k before) (exchanges k between) polled place run.has made named ends-not calm handles
          (sym (ap next_function_call_of both) ∙ is)

pub soon-run-or-closed : (n k : ℕ) (o : Options) (s : TracedState) (h : List Entry) → IsFunctionRun n k o s h
    → IsSoonRunOrClosed k o s h
soon-run-or-closed n k o s h run = record {
  each = λ before between later e pid handle is names waits.
      named-soon n k o pid handle s before between e
      (front-run n k o s (before ++ e ∷ between) later
      (subst (IsFunctionRun n k o s) (is ∙ sym (append_assoc before (e ∷ between) later)) run)) names waits;
}

pub runs-before-it-polls : (n k : ℕ) (o : Options) (s : TracedState) (h : List Entry) → IsFunctionRun n k o s h
    → RunsBeforeItPollsOf k s h
runs-before-it-polls n k o s h run = record {
  each = λ before between later e f pid handle handles r is names waits own.
      let joined : (before ++ e ∷ between) ++ f ∷ later ≡ before ++ e ∷ (between ++ f ∷ later) =
      append_assoc before (e ∷ between) (f ∷ later) in
      let whole : IsFunctionRun n k o s ((before ++ e ∷ between) ++ f ∷ later) =
      subst (IsFunctionRun n k o s) (is ∙ sym joined) run in
      named-quiet n k o pid handle s before between e (front-run n k o s (before ++ e ∷ between) (f ∷ later) whole)
      names waits handles
      (entries.made n k o s (before ++ e ∷ between) later f whole
      (record { call = call.Poll handles; reply = r }) own);
}

pub ruleset named_soon = (soon-run-or-closed, runs-before-it-polls)
