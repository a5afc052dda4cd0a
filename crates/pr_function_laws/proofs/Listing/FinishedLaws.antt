use Rattle.std.proofs.Common.{◌≡◌, ◌≢◌, ◌<◌, ℕ, false, Option, Some, None, List, [], length, append-nil, refl, sym, ap, ◌∙◌}
use Rattle.std.proofs.lemmas.Bool.{false≢true}
use Rattle.std.proofs.lemmas.Option.{none-some}
use Rattle.pr_line.specs.declared.options.Options.{Options}
use Rattle.pr_model.specs.Legal.{state_after}
use Rattle.pr_model.specs.State.{TracedState, live_process}
use Rattle.pr_model.specs.declared.events.Entry.{Entry}
use Rattle.pr_num.proofs.TableLemmas.{position-within}
use Rattle.pr_report_laws.proofs.Files.FileLaws.{HasFiles}
use Rattle.pr_report_laws.specs.Shown.{LwpEvent}
use Rattle.pr_report_laws.specs.Watching.{is_of, place_of, watches, watches_at}
use Rattle.pr_truss.specs.FunctionCalls.{next_function_call_of}
use Rattle.pr_truss.specs.Trusses.{TrussState, traced_at}
use Rattle.pr_function_laws.proofs.LeavingProcesses.LeavingCourse.{files-at}
use Rattle.pr_function_laws.proofs.LeavingProcesses.LeftProcesses.{its-control}
use Rattle.pr_function_laws.proofs.OrdinaryTruss.OrdinaryLaws.{nothing-left}
use Rattle.pr_function_laws.specs.ListedEvents.{MayMiss, ended, none, unread}
use Rattle.pr_function_laws.specs.Opened.{IsFunctionRun, functions_at}
use Rattle.pr_function_laws.specs.Ordinary.{ordinary}

-- Once truss has finished it watches no process, so that no event is unread.

module _ (n k : ℕ) (o : Options) (s : TracedState) (h : List Entry) (run : IsFunctionRun n k o s h)
    (finished : next_function_call_of (functions_at k o h) ≡ None) where
  abbrev t : TrussState
  t = functions_at k o h

  abbrev now : TracedState
  now = state_after s h

  files : HasFiles k (ordinary t) now
  files = files-at ⊥ n k o s h run (λ none. absurd none) (λ none. absurd none) h [] (sym (append-nil h))

  none-traced : (place : ℕ) → place < length t.traced → ⊥
  none-traced place within =
      let w = nothing-left n k o s h run finished in
      none-some _ (sym (w.none (traced_at t place).control) ∙ its-control k t now files place within)

  pub finished-unwatched : (pid : ℕ) → watches t pid ≡ false
  unfolding watches
  finished-unwatched pid = by (place_of t pid) refl
    where
      by : (x : Option ℕ) → place_of t pid ≡ x → watches_at t (place_of t pid) ≡ false
      by None at = ap (watches_at t) at
      by (Some place) at = absurd (none-traced place (position-within (is_of pid) t.traced place at))

  pub missing-at-last : (pid : ℕ) {missing : List LwpEvent} → MayMiss k o s h pid missing → missing ≢ []
      → live_process now.system pid ≡ None
  missing-at-last pid none some = absurd (some refl)
  missing-at-last pid (unread event w watched p live) some =
      absurd (false≢true (sym (finished-unwatched pid) ∙ watched))
  missing-at-last pid (ended event w over killed) some = over
