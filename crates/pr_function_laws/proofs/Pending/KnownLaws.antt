use Rattle.std.proofs.Common.{append_assoc, append-nil, ◌≡◌, ◌<◌, ◌++◌, ℕ, Option, Some, None, List, [], ◌∷◌, refl, sym, subst, ap, ◌∙◌}
use Rattle.std.specs.List.{All}
use Rattle.pr_line.specs.declared.options.Options.{Options}
use Rattle.pr_model.specs.Legal.{state_after}
use Rattle.pr_model.specs.State.{TracedState, live_process}
use Rattle.pr_model.specs.declared.events.Entry.{Entry}
use Rattle.pr_report_laws.proofs.Files.WatchHistories.{exchanges-both}
use Rattle.pr_report_laws.proofs.Watching.HistoryParts.{all-front}
use Rattle.pr_truss.specs.Replies.{answer_of}
use Rattle.pr_truss.specs.Trusses.{TrussState}
use Rattle.pr_truss_laws.proofs.Machine.OverLemmas.{stays-over}
use Rattle.pr_truss_laws.specs.Exchanges.{Exchange, exchange_of, exchanges}
use Rattle.pr_function_laws.proofs.Stepping.BreakpointLemmas.{own-entry}
use Rattle.pr_function_laws.proofs.Pending.FrontLemmas as fronts
use Rattle.pr_function_laws.proofs.Pending.FrontLemmas.{all-entry, calm-answer}
use Rattle.pr_function_laws.proofs.Marks.KeptPlaces.{Kept}
use Rattle.pr_function_laws.proofs.Pending.KnownFiles.{Knows, known-fed, known-first}
use Rattle.pr_function_laws.proofs.OpenedProcesses.OpenedCalls.{control-fresh}
use Rattle.pr_function_laws.specs.Opened.{IsFunctionRun, WasNotInterrupted, functions_at}
use Rattle.pr_function_laws.specs.Runs.{functions_on}
use Rattle.pr_report_laws.proofs.Files.WatchHistories.{no-exchanges}
use Rattle.pr_truss.specs.Trusses.{first_truss}
use Rattle.pr_function_laws.specs.Runs.{functions_after}

-- Wherever truss has come to in a history, until it is interrupted, it knows the files of each process that it has
-- opened.

module _ (n k : ℕ) (o : Options) (s : TracedState) (h : List Entry) (run : IsFunctionRun n k o s h) where
  abbrev Known : List Entry → Type 0
  Known front = Kept Knows (functions_at k o front)

  module _ (front : List Entry) (e : Entry) (later : List Entry) (is : h ≡ front ++ e ∷ later)
      (calm : All WasNotInterrupted (exchanges k front)) (w : Known front) where
    abbrev t : TrussState
    t = functions_at k o front

    own-known : (x : Exchange) → exchange_of k e ≡ Some x → WasNotInterrupted x → Kept Knows (functions_on t (Some x))
    own-known x mine quiet =
        let g = fronts.here n k o s h run front e later is calm in
        let legal = fronts.legal n k o s h run front e later is calm in
        let has = fronts.has n k o s h run front e later is calm in
        let next = fronts.makes-next n k o s h run front e later is calm x mine in
        let it = own-entry n k (state_after s front) e x legal mine in
        let over : (pid : ℕ) → pid < (state_after s front).system.made
        → live_process (state_after s front).system pid ≡ None → live_process it.answer.state.system pid ≡ None =
        λ pid made none.
        ap (λ (u : TracedState). live_process u.system pid) it.later
        ∙ stays-over n (state_after s front) e pid g.lawful legal made none in
        known-fed t x.reply (calm-answer x quiet) w
        (λ pid at idle accepted.
        control-fresh ⊥ n k (state_after s front) g.lawful x.call it.answer it.is over t g.kept
        (λ none. absurd none) pid
        at idle has next (ap answer_of it.replied ∙ accepted)) has

    entry-known : ((x : Exchange) → exchange_of k e ≡ Some x → WasNotInterrupted x) → Known (front ++ e ∷ [])
    entry-known quiet =
        subst (Kept Knows) (sym (fronts.pushed n k o s h run front e later is calm)) (by (exchange_of k e) refl)
      where
        by : (x : Option Exchange) → exchange_of k e ≡ x → Kept Knows (functions_on t x)
        by None none = w
        by (Some x) mine = own-known x mine (quiet x mine)

  walk : (rest done later : List Entry) → h ≡ done ++ (rest ++ later)
      → All WasNotInterrupted (exchanges k (done ++ rest)) → Known done → Known (done ++ rest)
  walk [] done later is calm w = subst (λ (es : List Entry). Known es) (sym (append-nil done)) w
  walk (e ∷ rest) done later is calm w =
      let so_far : All WasNotInterrupted (exchanges k done) =
      all-front WasNotInterrupted (exchanges k done) (exchanges k (e ∷ rest))
      (subst (All WasNotInterrupted) (exchanges-both k done (e ∷ rest)) calm) in
      let next : Known (done ++ e ∷ []) =
      entry-known done e (rest ++ later) is so_far w
      (λ x mine. all-entry WasNotInterrupted k done rest e x calm mine) in
      let parts : done ++ e ∷ rest ≡ (done ++ e ∷ []) ++ rest = sym (append_assoc done (e ∷ []) rest) in
      subst (λ (es : List Entry). Known es) (sym parts)
      (walk rest (done ++ e ∷ []) later (is ∙ sym (append_assoc done (e ∷ []) (rest ++ later)))
      (subst (λ (es : List Entry). All WasNotInterrupted (exchanges k es)) parts calm) next)

  pub known-at : (front later : List Entry) → h ≡ front ++ later → All WasNotInterrupted (exchanges k front)
      → Known front
  known-at front later is calm =
      walk front [] later is calm
      (subst (λ xs. Kept Knows (functions_after (first_truss o) xs))
      (sym (no-exchanges k)) (known-first o run.follows_none))
