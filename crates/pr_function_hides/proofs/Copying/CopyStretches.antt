use Rattle.std.proofs.Common.{◌≡◌, ◌<◌, ◌++◌, ℕ, true, None, Some, Option, List, [], ◌∷◌, length, append-nil, append_assoc, refl, sym, subst, ap, ◌∙◌}
use Rattle.std.proofs.lemmas.Bool.{false≢true}
use Rattle.std.proofs.lemmas.Option.{none-some, same_Some}
use Rattle.std.specs.List.{All, cons_option}
use Rattle.pr_lawful.proofs.LawfulStates.HistoryLemmas.{history-state}
use Rattle.pr_line.specs.declared.options.Options.{Options}
use Rattle.pr_model.proofs.HistoryLemmas.{state_after-push}
use Rattle.pr_model.specs.Lawful.{IsLawful}
use Rattle.pr_model.specs.Legal.{IsLegal, IsLegalEntry, after, state_after}
use Rattle.pr_model.specs.LwpTurns.{LwpTurn}
use Rattle.pr_model.specs.State.{TracedProcess, TracedState, live_process}
use Rattle.pr_model.specs.declared.events.Act.TheVariants.{Turn}
use Rattle.pr_model.specs.declared.events.Actor.TheVariants.{Lwp}
use Rattle.pr_model.specs.declared.events.Entry.{Entry}
use Rattle.pr_model.specs.declared.events.Turned.{Turned}
use Rattle.pr_report_laws.proofs.Files.WatchHistories.{cons-exchanges, exchanges-both, no-exchanges}
use Rattle.pr_tool_laws.proofs.Records.WholeLemmas.{front-legal}
use Rattle.pr_truss.specs.Asides.{marks_at}
use Rattle.pr_truss.specs.Trusses.{TrussState, first_truss, traced_at}
use Rattle.pr_truss.specs.declared.marks.Marks.{Marks}
use Rattle.pr_truss_laws.proofs.Machine.OverLemmas.{stays-over}
use Rattle.pr_truss_laws.specs.Exchanges.{Exchange, exchange_of, exchanges}
use Rattle.pr_function_laws.proofs.OpenedProcesses.OpenedLaws.{holds-opened}
use Rattle.pr_function_laws.proofs.OpenedProcesses.OpenedLemmas.{control-made}
use Rattle.pr_function_laws.specs.Lifted.{HasControl}
use Rattle.pr_function_laws.specs.Opened.{IsFunctionRun, OwnsAndTraces, WasNotInterrupted, functions_at, is_opened}
use Rattle.pr_function_laws.specs.Runs.{functions_after}
use Rattle.pr_function_hides.proofs.Files.CallFacts.{legal-here}
use Rattle.pr_function_hides.proofs.StoppedCopies.CopyOthers.{others-wait}
use Rattle.pr_function_hides.proofs.StoppedCopies.CopyTurns.{turn-makes-none}
use Rattle.pr_function_hides.specs.Copying.{CopiesStand, HaveNoCopyGoing, IsLifted, IsTracedIn, NoCopyGoesIn, StandIn, bare, makes_copy, none_goes, one_goes}

-- Between two calls of truss the forks, vforks and execs of a process that it has opened stand as they did.

-- ---- entries with no call of truss

none-first : (o : Option Exchange) (xs : List Exchange) → cons_option o xs ≡ [] → (o ≡ None) × (xs ≡ [])
none-first None xs is = (refl, is)
none-first (Some x) xs is = cc

module _ (k : ℕ) (e : Entry) (es : List Entry) (none : exchanges k (e ∷ es) ≡ []) where
  no-call : (exchange_of k e ≡ None) × (exchanges k es ≡ [])
  no-call = none-first (exchange_of k e) (exchanges k es) (sym (cons-exchanges k e es) ∙ none)

  same-exchanges : (before : List Entry) → exchanges k (before ++ e ∷ []) ≡ exchanges k before
  same-exchanges before =
      exchanges-both k before (e ∷ [])
      ∙ ap (λ xs. exchanges k before ++ xs)
      (cons-exchanges k e [] ∙ ap (λ (o : Option Exchange). cons_option o (exchanges k [])) no-call.0 ∙ no-exchanges k)
      ∙ append-nil (exchanges k before)

module _ (n k : ℕ) (o : Options) (s : TracedState) (h : List Entry) (run : IsFunctionRun n k o s h) (t : TrussState)
    (place : ℕ) (within : place < length t.traced) (opened : is_opened t.stage place ≡ true) where
  abbrev pid : ℕ
  pid = (traced_at t place).pid

  abbrev m : Marks
  m = marks_at t place

  -- ---- one entry

  module _ (before later : List Entry) (e : Entry) (is : h ≡ before ++ e ∷ later)
      (calm : All WasNotInterrupted (exchanges k before)) (at : functions_at k o before ≡ t) where
    abbrev now : TracedState
    now = state_after s before

    legal-all : IsLegal n s (before ++ e ∷ later)
    legal-all = subst (IsLegal n s) is run.legal

    its-legal : IsLegalEntry n now e
    its-legal = legal-here n s before e later legal-all

    its-lawful : IsLawful now
    its-lawful = history-state n s before run.lawful (front-legal n s before (e ∷ later) legal-all)

    owns : OwnsAndTraces k o t place now
    owns =
        let holds = holds-opened n k o s h run in
        subst (λ (u : TrussState). OwnsAndTraces k o u place now) at
        (holds.each before (e ∷ later) place is calm
        (subst (λ (u : TrussState). place < length u.traced) (sym at) within)
        (subst (λ (u : TrussState). is_opened u.stage place ≡ true) (sym at) opened))

    traced-now : IsTracedIn o pid now
    traced-now = record { live = let w = owns in w.traces }

    -- a turn makes such a call only where all is lifted
    pub copy-lifted : (id : ℕ) (turned : Turned) → e ≡ record { actor = Lwp pid id; act = Turn turned }
        → makes_copy turned.did ≡ true → StandIn m pid now → (p : TracedProcess)
        → live_process now.system pid ≡ Some p → IsLifted m
    unfolding IsLegalEntry
    copy-lifted id turned turn makes stand p live = by (stand.live p live)
      where
        legal : IsLegalEntry n now (record { actor = Lwp pid id; act = Turn turned })
        legal = subst (IsLegalEntry n now) turn its-legal

        by : CopiesStand m p → IsLifted m
        by (none_goes all) =
            let it : LwpTurn = record { system = legal.0; turned = turned } in
            absurd
            (false≢true
            (sym (turn-makes-none now.system pid p id it its-lawful.system live legal.1 None all tt) ∙ makes))
        by (one_goes i lifted all) = lifted
        by (bare lifted none) = lifted

    -- and what is no call of truss leaves that
    pub stand-after : exchange_of k e ≡ None → StandIn m pid now → StandIn m pid (after now e)
    stand-after own stand = record { live = λ q later. by q later (live_process now.system pid) refl }
      where
        its-control : HasControl k pid (traced_at t place).control now
        its-control = let w = owns in let f = w.files in f.control

        goes : (p : TracedProcess) → live_process now.system pid ≡ Some p → (but : Option ℕ) → HaveNoCopyGoing but p
            → NoCopyGoesIn pid but (after now e)
        goes p live but all =
            others-wait n k o now e pid (traced_at t place).control but its-lawful its-legal own its-control traced-now
            (record { live = λ x there. subst (HaveNoCopyGoing but) (same_Some p x (sym live ∙ there)) all })

        kept : (q p : TracedProcess) → live_process now.system pid ≡ Some p
            → live_process (after now e).system pid ≡ Some q → CopiesStand m p → CopiesStand m q
        kept q p live later (none_goes all) = let g = goes p live None all in none_goes (g.live q later)
        kept q p live later (one_goes i lifted all) =
            let g = goes p live (Some i) all in one_goes i lifted (g.live q later)
        kept q p live later (bare lifted none) = bare lifted none

        by : (q : TracedProcess) → live_process (after now e).system pid ≡ Some q → (x : Option TracedProcess)
            → live_process now.system pid ≡ x → CopiesStand m q
        by q later None gone =
            absurd
            (none-some q
            (sym (stays-over n now e pid its-lawful its-legal
            (control-made k pid (traced_at t place).control now its-lawful its-control) gone) ∙ later))
        by q later (Some p) live = kept q p live later (stand.live p live)

  -- ---- all of them

  pub stand-on : (between before later : List Entry) → h ≡ before ++ (between ++ later)
      → All WasNotInterrupted (exchanges k before) → functions_at k o before ≡ t → exchanges k between ≡ []
      → StandIn m pid (state_after s before) → StandIn m pid (state_after s (before ++ between))
  stand-on [] before later is calm at none stand =
      subst (λ es. StandIn m pid (state_after s es)) (sym (append-nil before)) stand
  stand-on (e ∷ es) before later is calm at none stand =
      let same = same-exchanges k e es none before in
      let call = no-call k e es none in
      let next : StandIn m pid (state_after s (before ++ e ∷ [])) =
      subst (StandIn m pid) (sym (state_after-push s before e))
      (stand-after before (es ++ later) e is calm at call.0 stand) in
      subst (λ xs. StandIn m pid (state_after s xs)) (append_assoc before (e ∷ []) es)
      (stand-on es (before ++ e ∷ []) later (is ∙ sym (append_assoc before (e ∷ []) (es ++ later)))
      (subst (All WasNotInterrupted) (sym same) calm)
      (ap (functions_after (first_truss o)) same ∙ at) call.1 next)

-- ---- the law

-- between two calls of truss they stand as they did
pub between-stands : (n k : ℕ) (o : Options) (s : TracedState) (h before between later : List Entry) (place : ℕ)
    → IsFunctionRun n k o s h → h ≡ before ++ (between ++ later) → All WasNotInterrupted (exchanges k before)
    → exchanges k between ≡ [] → place < length (functions_at k o before).traced
    → is_opened (functions_at k o before).stage place ≡ true
    → StandIn (marks_at (functions_at k o before) place) (traced_at (functions_at k o before) place).pid
    (state_after s before)
    → StandIn (marks_at (functions_at k o before) place) (traced_at (functions_at k o before) place).pid
    (state_after s (before ++ between))
between-stands n k o s h before between later place run is calm none within opened stand =
    stand-on n k o s h run (functions_at k o before) place within opened between before later is calm refl none stand

-- and a turn that makes such a call finds all lifted
pub stands-lifted : (n k : ℕ) (o : Options) (s : TracedState) (h before later : List Entry) (place id : ℕ)
    (turned : Turned) (p : TracedProcess) → IsFunctionRun n k o s h
    → h ≡ before ++ record { actor = Lwp (traced_at (functions_at k o before) place).pid id; act = Turn turned } ∷ later
    → All WasNotInterrupted (exchanges k before) → place < length (functions_at k o before).traced
    → is_opened (functions_at k o before).stage place ≡ true → makes_copy turned.did ≡ true
    → StandIn (marks_at (functions_at k o before) place) (traced_at (functions_at k o before) place).pid
    (state_after s before)
    → live_process (state_after s before).system (traced_at (functions_at k o before) place).pid ≡ Some p
    → IsLifted (marks_at (functions_at k o before) place)
stands-lifted n k o s h before later place id turned p run is calm within opened makes stand live =
    copy-lifted n k o s h run (functions_at k o before) place within opened before later
    (record { actor = Lwp (traced_at (functions_at k o before) place).pid id; act = Turn turned }) is calm refl id
    turned refl makes stand p live

pub ruleset copy_stretches = (between-stands, stands-lifted)
