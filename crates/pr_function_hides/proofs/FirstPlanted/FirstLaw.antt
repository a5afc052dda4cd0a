use Rattle.std.proofs.Common.{◌≡◌, ◌++◌, ℕ, true, false, Option, Some, None, List, [], ◌∷◌, append-nil, append_assoc, refl, sym, subst, ap, ◌∙◌}
use Rattle.std.proofs.lemmas.Option.{same_Some}
use Rattle.std.specs.List.{All}
use Rattle.pr_function_hides.proofs.Copying.CopyEnds.{aside-within, stage-within}
use Rattle.pr_function_hides.proofs.Tidy.CopyFree.{calm-on, function-run, run-options, truss-is}
use Rattle.pr_function_hides.proofs.Replies.CountedWalk.{TrussIn, first-so, truss-in-later}
use Rattle.pr_function_hides.proofs.FirstPlanted.FirstFunctions.{IsFirstOf}
use Rattle.pr_function_hides.specs.RunsOfTrusses.{IsRunOfTrusses}
use Rattle.pr_function_hides.specs.TidyWrites.{IsTrussAfter}
use Rattle.pr_function_laws.proofs.Pending.FrontLemmas as fronts
use Rattle.pr_function_laws.proofs.OpenedProcesses.OpenedCalls.{IsSo}
use Rattle.pr_function_laws.proofs.OpenedProcesses.OpenedLaws.{Goes, before-goes}
use Rattle.pr_function_laws.proofs.NextCalls.ToPlant.{to-plant}
use Rattle.pr_function_laws.specs.Opened.{IsFunctionRun, WasNotInterrupted, functions_at}
use Rattle.pr_function_laws.specs.Planted.{IsFirstThere}
use Rattle.pr_function_laws.specs.Runs.{functions_after, functions_on}
use Rattle.pr_hidden.specs.Hiders.{Hiders, hides}
use Rattle.pr_line.specs.declared.options.Options.{Options}
use Rattle.pr_model.specs.Legal.{state_after}
use Rattle.pr_model.specs.Replies.{bytes_in}
use Rattle.pr_model.specs.State.{TracedState}
use Rattle.pr_model.specs.declared.calls.Reply.{Reply}
use Rattle.pr_model.specs.declared.events.Entry.{Entry}
use Rattle.pr_report_laws.proofs.Files.WatchHistories.{exchanges-both, no-exchanges}
use Rattle.pr_report_laws.proofs.Watching.HistoryParts.{all-front}
use Rattle.pr_truss.specs.FunctionFeeding.{is_to_plant}
use Rattle.pr_truss.specs.Trusses.{TrussState, first_truss, traced_at}
use Rattle.pr_truss_laws.specs.Exchanges.{Exchange, exchange_of, exchanges}
use Rattle.pr_world.specs.ControllerStates.{ControllerState}

-- Of the functions at one address each truss that hides its breakpoints has planted the first alone: where it has read
-- the code of another one it leaves that alone.

module _ (n k : ℕ) (o : Options) (s : TracedState) (h : List Entry) (run : IsFunctionRun n k o s h) where
  abbrev truss : List Entry → TrussState
  truss front = functions_at k o front

  abbrev Calm : List Entry → Type 0
  Calm front = All WasNotInterrupted (exchanges k front)

  -- all that truss has planted, or is to plant or to lift
  abbrev Firsts : TrussState → Type 0
  Firsts t = TrussIn (IsFirstOf o) t

  at-first : Firsts (truss [])
  at-first =
      subst (λ xs. Firsts (functions_after (first_truss o) xs)) (sym (no-exchanges k))
      (first-so (IsFirstOf o) (IsFirstOf o) o)

  calm-front : (front back : List Entry) → Calm (front ++ back) → Calm front
  calm-front front back calm =
      all-front WasNotInterrupted (exchanges k front) (exchanges k back)
      (subst (All WasNotInterrupted) (exchanges-both k front back) calm)

  module _ (front back : List Entry) (e : Entry) (is : h ≡ front ++ e ∷ back) (calm : Calm front) where
    abbrev t : TrussState
    t = truss front

    abbrev now : TracedState
    now = state_after s front

    goes : Goes ⊥ k o t now
    goes = fronts.here n k o s h run front e back is calm

    -- the function that it plants next
    planted-next : (r : Reply) (pid i : ℕ) → is_to_plant t.options i (bytes_in r) ≡ true → IsFirstOf o pid i
    planted-next r pid i plants f named =
        let g = goes in
        let it =
        to-plant o i (bytes_in r) (ap (λ p. is_to_plant p i (bytes_in r)) (sym g.options) ∙ plants) in
        subst (IsFirstThere o i) (same_Some it.f f (sym it.named ∙ named)) it.first

    entry-firsts : Firsts t → Calm (front ++ e ∷ []) → Firsts (truss (front ++ e ∷ []))
    entry-firsts was calm_then =
        subst Firsts (sym (fronts.pushed n k o s h run front e back is calm)) (by (exchange_of k e) refl)
      where
        by : (x : Option Exchange) → exchange_of k e ≡ x → Firsts (functions_on t x)
        by None own = was
        by (Some x) own =
            let g = goes in
            let m = g.kept in
            truss-in-later (IsFirstOf o) t was x.reply m.off m.follow
            (stage-within (IsSo ⊥ k t.options now) t.traced t.stage m.stage)
            (aside-within (IsSo ⊥ k t.options now) t.traced t.aside m.beside)
            (fronts.calm-answer x (fronts.all-entry WasNotInterrupted k front [] e x calm_then own))
            (fronts.has n k o s h run front e back is calm)
            (λ q i at accepted plants. planted-next x.reply (traced_at t q).pid i plants)

  walk : (middle front back : List Entry) → h ≡ front ++ (middle ++ back) → Calm (front ++ middle)
      → Firsts (truss front) → Firsts (truss (front ++ middle))
  walk [] front back is calm was = subst (λ es. Firsts (truss es)) (sym (append-nil front)) was
  walk (e ∷ middle) front back is calm was =
      let more : Calm ((front ++ e ∷ []) ++ middle) = subst Calm (sym (append_assoc front (e ∷ []) middle)) calm in
      let here : Calm (front ++ e ∷ []) = calm-front (front ++ e ∷ []) middle more in
      subst (λ es. Firsts (truss es)) (append_assoc front (e ∷ []) middle)
      (walk middle (front ++ e ∷ []) back (is ∙ sym (append_assoc front (e ∷ []) (middle ++ back))) more
      (entry-firsts front (middle ++ back) e is (calm-front front (e ∷ []) here) was here))

  pub firsts-after : (front back : List Entry) → h ≡ front ++ back → Calm front → Firsts (truss front)
  firsts-after front back is calm = walk front [] back is calm at-first

module _ {n : ℕ} {who : Hiders} {controllers : List ControllerState} {first : TracedState}
    {h : List Entry} (run : IsRunOfTrusses n who controllers first h) (k : ℕ) (hider : hides who k ≡ true) where
  abbrev its : Options
  its = run-options run k hider

  its-run : IsFunctionRun n k its first h
  its-run = function-run run.legal run.reached run.own_calls run.are k hider

  pub firsts-on : (front back : List Entry) → h ≡ front ++ back → (t : TrussState)
      → IsTrussAfter who controllers first h front k t → t.leaving ≡ false → TrussIn (IsFirstOf t.options) t
  firsts-on front back place t is off =
      let calm = calm-on run k hider front back place t is off in
      let goes =
      before-goes n k its first h its-run front back place calm ⊥ (λ none. absurd none) (λ none. absurd none) in
      let firsts = firsts-after n k its first h its-run front back place calm in
      subst (λ (u : TrussState). TrussIn (IsFirstOf u.options) u)
      (sym (truss-is run.own_calls run.are k hider front back place t is))
      (subst (λ (p : Options). TrussIn (IsFirstOf p) (functions_at k its front)) (sym goes.options) firsts)
