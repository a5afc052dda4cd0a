use Rattle.std.proofs.Common.{◌≡◌, ◌⊎◌, ◌++◌, ℕ, Bool, true, false, Option, Some, None, List, [], ◌∷◌, append-nil, append_assoc, refl, sym, subst, ap, ◌∙◌, inl, inr}
use Rattle.std.proofs.lemmas.Bool.{false≢true}
use Rattle.std.specs.List.{All}
use Rattle.pr_line.specs.declared.options.Options.{Options}
use Rattle.pr_model.specs.Legal.{state_after}
use Rattle.pr_model.specs.State.{TracedState}
use Rattle.pr_model.specs.declared.calls.Reply.{Reply}
use Rattle.pr_model.specs.declared.events.Entry.{Entry}
use Rattle.pr_report_laws.proofs.Files.FileLaws.{HasFiles}
use Rattle.pr_report_laws.proofs.Files.FileUses.{standing}
use Rattle.pr_report_laws.proofs.Files.WatchHistories.{Reaches, exchanges-both}
use Rattle.pr_report_laws.proofs.Invariant.StandLemmas.{Stands}
use Rattle.pr_report_laws.proofs.Memory.WatchMemory.{reached-comes}
use Rattle.pr_report_laws.proofs.Replies.StageChanges.{Begins, child_interrupted, followed, interrupted, opened}
use Rattle.pr_report_laws.proofs.Replies.WatchedPlaces.{place-watched, watched-place}
use Rattle.pr_report_laws.proofs.Watching.BeginsOnlyLaws.{watched-before}
use Rattle.pr_report_laws.proofs.Watching.HistoryParts.{all-front}
use Rattle.pr_report_laws.specs.OwnOpens.{IsGoingOn}
use Rattle.pr_report_laws.specs.Watching.{watches}
use Rattle.pr_truss.specs.Feeding.{fed}
use Rattle.pr_truss.specs.FunctionFeeding.{fed_functions}
use Rattle.pr_truss.specs.Trusses.{TrussState}
use Rattle.pr_truss.specs.declared.stages.OpeningStep.{OpeningStep}
use Rattle.pr_truss.specs.declared.stages.OpeningStep.TheVariants as opening
use Rattle.pr_truss.specs.declared.stages.Stage.TheVariants.{Opening}
use Rattle.pr_truss_laws.proofs.Files.OwnLemmas.{Owns}
use Rattle.pr_truss_laws.specs.Exchanges.{Exchange, exchange_of, exchanges}
use Rattle.pr_function_laws.proofs.ShownOnce.GoingOn.{Going}
use Rattle.pr_function_laws.proofs.LeavingProcesses.LeavingStays.{fed-leaves}
use Rattle.pr_function_laws.proofs.OrdinaryTruss.OrdinaryEntries as entries
use Rattle.pr_function_laws.proofs.OrdinaryTruss.OrdinaryEntries.{watches-ordinary}
use Rattle.pr_function_laws.proofs.OrdinaryTruss.OrdinaryExchanges.{Turn, goes_on, goes_out}
use Rattle.pr_function_laws.proofs.OrdinaryTruss.OrdinaryFiles.{Follows}
use Rattle.pr_function_laws.specs.Opened.{IsFunctionRun, functions_at}
use Rattle.pr_function_laws.specs.Ordinary.{ordinary}

-- Once truss has polled, or leaves its processes, it begins to watch none.

-- ---- one reply

module _ (k pid : ℕ) (u : TrussState) (s : TracedState) (r : Reply) (done : List Exchange) (g : Reaches k u s)
    (over : (All IsGoingOn done → ⊥) ⊎ (u.leaving ≡ true)) (going : Going done u.stage) where
  opens-none : (place : ℕ) (now : OpeningStep) → u.stage ≡ Opening place now → ⊥
  opens-none place now is =
      let w : Stands u.traced u.leaving (Opening place now) = standing k u s (Opening place now) g.files is in
      elim over [
        | inl polled ↦ polled (subst (Going done) is going)
        | inr leaving ↦ false≢true (sym w.leaves ∙ leaving)
      ]

  begins-none : (place : ℕ) → Begins u r place → ⊥
  begins-none place (opened is accepted) = opens-none place opening.Start is
  begins-none place (followed parent is lives) = subst (Going done) is going
  begins-none place (interrupted now is answer) = opens-none place now is
  begins-none place (child_interrupted parent now is answer) = subst (Going done) is going

  still-off : watches u pid ≡ false → watches (fed u r) pid ≡ true → ⊥
  still-off off on =
      let files : HasFiles k u s = g.files in
      let owns : Owns k u s = g.owns in
      let w = watched-place (fed u r) pid on in
      let c = reached-comes k u s r g in
      elim (watched-before u r (fed u r) pid w.0 w.1 owns.fits c.how) [
        | inl was ↦ false≢true (sym off ∙ place-watched u pid was.0 files.one was.1)
        | inr b ↦ begins-none w.0 b.begins
      ]

-- ---- along a history

module _ (n k : ℕ) (o : Options) (pid : ℕ) (s : TracedState) where
  abbrev T : List Entry → TrussState
  T h = functions_at k o h

  -- it has polled, or leaves its processes
  abbrev pub IsOver : List Entry → Type 0
  IsOver h = (All IsGoingOn (exchanges k h) → ⊥) ⊎ ((functions_at k o h).leaving ≡ true)

  pub polled-over : (before later : List Entry) → (All IsGoingOn (exchanges k before) → ⊥) → IsOver (before ++ later)
  polled-over before later polled =
      inl
      (λ all. polled
      (all-front IsGoingOn (exchanges k before) (exchanges k later)
      (subst (All IsGoingOn) (exchanges-both k before later) all)))

  module _ (before later : List Entry) (e : Entry) (run : IsFunctionRun n k o s (before ++ e ∷ later))
      (over : IsOver before) where
    abbrev t : TrussState
    t = functions_at k o before

    abbrev v : TrussState
    v = functions_at k o (before ++ e ∷ [])

    leaves-on : t.leaving ≡ true → (x : Exchange) → exchange_of k e ≡ Some x → Turn t x → v.leaving ≡ true
    leaves-on leaving x own (goes_out sees passes stay) =
        ap (λ (z : TrussState). z.leaving) (entries.pushed n k o s before later e run x own)
        ∙ ap (λ (z : TrussState). z.leaving) stay ∙ leaving
    leaves-on leaving x own (goes_on y like called now) =
        ap (λ (z : TrussState). z.leaving) (entries.pushed n k o s before later e run x own)
        ∙ ap (λ (z : TrussState). z.leaving) now ∙ fed-leaves (ordinary t) y.reply leaving

    pub over-on : IsOver (before ++ e ∷ [])
    over-on = elim over [
      | inl polled ↦ polled-over before (e ∷ []) polled
      | inr leaving ↦ inr (by leaving (exchange_of k e) refl)
    ]
      where
        by : t.leaving ≡ true → (x : Option Exchange) → exchange_of k e ≡ x → v.leaving ≡ true
        by leaving None own =
            ap (λ (z : TrussState). z.leaving) (entries.unmoved n k o s before later e run own) ∙ leaving
        by leaving (Some x) own = leaves-on leaving x own (entries.turned n k o s before later e run x own)

    module _ (off : watches t pid ≡ false) where
      turn-off : (x : Exchange) → exchange_of k e ≡ Some x → Turn t x → watches v pid ≡ false
      turn-off x own (goes_out sees passes stay) =
          ap (λ z. watches z pid) (entries.pushed n k o s before later e run x own)
          ∙ sym (watches-ordinary (fed_functions t x.reply) pid) ∙ ap (λ z. watches z pid) stay
          ∙ watches-ordinary t pid ∙ off
      turn-off x own (goes_on y like called now) = by (watches v pid) refl
        where
          by : (b : Bool) → watches v pid ≡ b → watches v pid ≡ false
          by false is = is
          by true on =
              let f : Follows k o t (state_after s before) = entries.follows n k o s before later e run in
              absurd
              (still-off k pid (ordinary t) (state_after s before) y.reply (exchanges k before) f.reaches over
              (entries.going n k o s before later e run) (watches-ordinary t pid ∙ off)
              (ap (λ z. watches z pid) (sym now) ∙ watches-ordinary (fed_functions t x.reply) pid
              ∙ ap (λ z. watches z pid) (sym (entries.pushed n k o s before later e run x own)) ∙ on))

      off-on : watches v pid ≡ false
      off-on = by (exchange_of k e) refl
        where
          by : (x : Option Exchange) → exchange_of k e ≡ x → watches v pid ≡ false
          by None own = ap (λ z. watches z pid) (entries.unmoved n k o s before later e run own) ∙ off
          by (Some x) own = turn-off x own (entries.turned n k o s before later e run x own)

  pub off-after : (later before : List Entry) → IsFunctionRun n k o s (before ++ later) → IsOver before
      → watches (T before) pid ≡ false → watches (T (before ++ later)) pid ≡ false
  off-after [] before run over off = ap (λ h. watches (T h) pid) (append-nil before) ∙ off
  off-after (e ∷ later) before run over off =
      ap (λ h. watches (T h) pid) (sym (append_assoc before (e ∷ []) later))
      ∙ off-after later (before ++ e ∷ [])
      (subst (IsFunctionRun n k o s) (sym (append_assoc before (e ∷ []) later)) run)
      (over-on before later e run over) (off-on before later e run over off)
