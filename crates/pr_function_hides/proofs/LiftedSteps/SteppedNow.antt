use Rattle.std.proofs.Common.{◌≡◌, ◌≢◌, ◌<◌, ◌++◌, ℕ, Option, Some, None, List, [], ◌∷◌, length, position, append_assoc, refl, sym, subst, ap, ◌∙◌, inl, inr}
use Rattle.std.proofs.lemmas.List.Elements.{All-weaker}
use Rattle.std.proofs.lemmas.Option.{none-some, same_Some}
use Rattle.std.specs.List.{All, cons_option}
use Rattle.pr_line.specs.declared.options.Options.{Options}
use Rattle.pr_model.specs.Handles.{handle_of}
use Rattle.pr_model.specs.Lawful.{IsLawful}
use Rattle.pr_model.specs.Legal.{IsLegal, state_after}
use Rattle.pr_model.specs.State.{TracedProcess, TracedState, live_process}
use Rattle.pr_model.specs.declared.calls.Call.{Call}
use Rattle.pr_model.specs.declared.calls.Call.TheVariants as call
use Rattle.pr_model.specs.declared.events.Entry.{Entry}
use Rattle.pr_model.specs.declared.handles.Held.{Held}
use Rattle.pr_report_laws.proofs.Files.WatchHistories.{cons-exchanges, exchanges-both}
use Rattle.pr_report_laws.proofs.SeenChildren.Splits.{state_after-both}
use Rattle.pr_report_laws.proofs.Watching.ExchangeEntries.{HasEntryOf, entry-of}
use Rattle.pr_report_laws.proofs.Watching.HistoryParts.{all-front, all-rest, legal-front, legal-rest}
use Rattle.pr_truss.specs.Asides.{marks_at}
use Rattle.pr_truss.specs.NextCalls.{open_control}
use Rattle.pr_truss.specs.Trusses.{TrussState, traced_at}
use Rattle.pr_truss.specs.declared.marks.Stepped.{Stepped}
use Rattle.pr_truss_laws.specs.Exchanges.{Exchange, exchange_of, exchanges}
use Rattle.pr_function_laws.proofs.CallTurns.BegunSteps.{WasBegun}
use Rattle.pr_function_laws.proofs.CallTurns.OwnSteps.{begun-there}
use Rattle.pr_function_laws.proofs.CallTurns.TurnWalks.{AreNoReads}
use Rattle.pr_function_laws.proofs.LeavingProcesses.LeavingCourse.{goes-there, has-there, makes-there}
use Rattle.pr_function_laws.proofs.OpenedProcesses.OpenedCalls.{IsSo}
use Rattle.pr_function_laws.proofs.OpenedProcesses.OpenedLaws.{Goes}
use Rattle.pr_function_laws.proofs.OpenedProcesses.OpenedLemmas.{control-made}
use Rattle.pr_function_laws.specs.FunctionTurns.{is_process}
use Rattle.pr_function_laws.specs.Lifted.{HasControl}
use Rattle.pr_function_laws.specs.ReachedRuns.{IsReachedFunctionRun}
use Rattle.pr_function_laws.specs.Opened.{WasNotInterrupted, functions_at, is_opened}
use Rattle.pr_function_laws.specs.PlantedByCalls.{IsSinceOpened, OpensNot}
use Rattle.pr_function_hides.specs.SteppedByCalls.{IsLiftedForStep}
use Rattle.pr_function_laws.specs.ToldTurns.{AreSteppable, HasStep}
use Rattle.pr_function_hides.proofs.Copying.CopyEnds.{aside-within, stage-within}
use Rattle.pr_function_hides.proofs.LiftedSteps.BegunLifts.{made-on, over-on}
use Rattle.pr_function_hides.proofs.LiftedSteps.MarkedWalk.{IsFlagged, IsNotOf, OpensSo, flagged-kept, from-first, other-kept, walk}
use Rattle.pr_function_hides.proofs.LiftedSteps.SinceOpened.{HasItsControls, at-place-of}
use Rattle.pr_function_hides.proofs.LiftedSteps.StepRuns.{RunsStep, flagged-step, runs-step}
use Rattle.pr_function_hides.proofs.StepsUnderWay.UnderWay.{apart-here, control-there, lawful-here, place-of}

-- Where truss ran a process with PRCFAULT and PRSTEP, a step was under way there, which it had just begun.

-- ---- lists of exchanges

-- The last open of a control file comes before the lift and the run behind it.
pub record OpensFirst (before after since : List Exchange) (x run f : Exchange) : Type 0 where
  pub mid : List Exchange
  pub begins : before ++ x ∷ [] ≡ f ∷ mid
  pub since_is : since ≡ mid ++ run ∷ after

pub opens-first : (before after since : List Exchange) (x run f : Exchange)
    → f ∷ since ≡ before ++ x ∷ (run ∷ after) → f ≢ x → OpensFirst before after since x run f
opens-first [] after since x run f is other =
    let same : f ≡ x = cc in absurd (other same)
opens-first (y ∷ before) after since x run f is other =
    let same : f ≡ y = cc in
    let rest : since ≡ before ++ x ∷ (run ∷ after) = cc in
    record {
      mid = before ++ x ∷ [];
      begins = ap (λ z. z ∷ (before ++ x ∷ [])) (sym same);
      since_is = rest ∙ sym (append_assoc before (x ∷ []) (run ∷ after));
    }

module _ (n k : ℕ) (o : Options) (s : TracedState) (h : List Entry) (run : IsReachedFunctionRun n k o s h)
    (able : AreSteppable o) (controls : HasItsControls k o h)
    (front later : List Entry) (is : h ≡ front ++ later) (calm : All WasNotInterrupted (exchanges k front))
    (pid place control : ℕ) (xs : List Exchange)
    (at : position (is_process pid) (functions_at k o front).traced ≡ Some place)
    (w : IsSinceOpened k pid front control xs) (p : TracedProcess)
    (live : live_process (state_after s front).system pid ≡ Some p) (function : ℕ)
    (z : IsLiftedForStep o control function xs) where
  abbrev T : List Entry → TrussState
  T es = functions_at k o es

  abbrev S : List Entry → TracedState
  S es = state_after s es

  -- ---- the run

  abbrev earlier : List Exchange
  earlier = w.earlier ++ (z.before ++ z.x ∷ [])

  exchanges-are : exchanges k front ≡ earlier ++ z.run ∷ z.after
  exchanges-are =
      w.is ∙ ap (λ (ys : List Exchange). w.earlier ++ ys)
      (z.is ∙ sym (append_assoc z.before (z.x ∷ []) (z.run ∷ z.after)))
      ∙ sym (append_assoc w.earlier (z.before ++ z.x ∷ []) (z.run ∷ z.after))

  pub entry : HasEntryOf k front earlier z.run z.after
  entry = entry-of k front earlier z.run z.after exchanges-are

  abbrev pub fr : List Entry
  fr = let y = entry in y.before

  abbrev pub er : Entry
  er = let y = entry in y.entry

  abbrev pub fv : List Entry
  fv = let y = entry in y.later

  pub front-is : front ≡ fr ++ er ∷ fv
  front-is = let y = entry in y.is

  pub whole : h ≡ fr ++ er ∷ (fv ++ later)
  whole = is ∙ ap (λ es. es ++ later) front-is ∙ append_assoc fr (er ∷ fv) later

  both-are : exchanges k front ≡ exchanges k fr ++ exchanges k (er ∷ fv)
  both-are = ap (exchanges k) front-is ∙ exchanges-both k fr (er ∷ fv)

  pub calm-run : All WasNotInterrupted (exchanges k fr)
  calm-run =
      all-front WasNotInterrupted (exchanges k fr) (exchanges k (er ∷ fv)) (subst (All WasNotInterrupted) both-are calm)

  calm-since : All WasNotInterrupted (exchanges k (er ∷ fv))
  calm-since =
      all-rest WasNotInterrupted (exchanges k fr) (exchanges k (er ∷ fv)) (subst (All WasNotInterrupted) both-are calm)

  pub since-are : exchanges k (er ∷ fv) ≡ z.run ∷ z.after
  since-are =
      let y = entry in
      cons-exchanges k er fv ∙ ap (λ x. cons_option x (exchanges k fv)) y.own ∙ ap (λ (ys : List Exchange). z.run ∷ ys)
      y.rest

  pub rest-is : exchanges k fv ≡ z.after
  rest-is = let y = entry in y.rest

  pub own-run : exchange_of k er ≡ Some z.run
  own-run = let y = entry in y.own

  -- ---- truss before it

  goes : Goes (Unit {0}) k o (T fr) (S fr)
  goes = goes-there (Unit {0}) n k o s h run.of (λ r. run.reached) (λ r. run.bytes) fr er (fv ++ later) whole calm-run

  pub runs-there : RunsStep (T fr) control
  runs-there =
      let g = goes in
      let y = g.kept in
      runs-step (T fr) control
      (has-there (Unit {0}) n k o s h run.of (λ r. run.reached) (λ r. run.bytes) fr er (fv ++ later) whole)
      (makes-there (Unit {0}) n k o s h run.of (λ r. run.reached) (λ r. run.bytes) fr er (fv ++ later) whole z.run
      own-run ∙ ap (λ (d : Call). Some d) z.runs)
      (stage-within (IsSo (Unit {0}) k (T fr).options (S fr)) (T fr).traced (T fr).stage y.stage)
      (aside-within (IsSo (Unit {0}) k (T fr).options (S fr)) (T fr).traced (T fr).aside y.beside)

  abbrev q : ℕ
  q = let y = runs-there in y.place

  under-run : (step : Stepped) × ((marks_at (T fr) q).stepped ≡ Some step)
  under-run =
      let y = runs-there in
      let all =
      from-first n k o s h run IsFlagged flagged-kept (λ own. inr (inl refl)) fr (er ∷ (fv ++ later))
      whole
      calm-run in
      flagged-step (marks_at (T fr) y.place) (traced_at (T fr) y.place).pid (all y.place y.within) y.flags

  pub step : Stepped
  step = under-run.0

  -- ---- it is the process

  pub opens : OpensFirst z.before z.after w.since z.x z.run w.first
  opens =
      opens-first z.before z.after w.since z.x z.run w.first (sym w.begins ∙ z.is)
      (λ same. clash (sym w.opens ∙ ap (λ (y : Exchange). y.call) same ∙ z.lifts))
    where
      clash : {m : ℕ} {sent : List ℕ} → open_control pid ≡ call.Ctl m sent → ⊥
      clash both = cc

  pub since-run : IsSinceOpened k pid fr control (z.before ++ z.x ∷ [])
  since-run =
      let y = entry in
      let f = opens in
      record {
        earlier = w.earlier;
        first = w.first;
        since = f.mid;
        is = y.earlier;
        begins = f.begins;
        opens = w.opens;
        granted = w.granted;
        handle = w.handle;
        last = all-front (OpensNot pid) f.mid (z.run ∷ z.after) (subst (All (OpensNot pid)) f.since_is w.last);
      }

  none-since : All (OpensSo (IsNotOf pid)) (exchanges k (er ∷ fv))
  none-since =
      let f = opens in
      subst (All (OpensSo (IsNotOf pid))) (sym since-are)
      (All-weaker (OpensNot pid) (OpensSo (IsNotOf pid))
      (λ y none. record { so = λ i opens_it granted same. none.opens_not (opens_it ∙ ap open_control same) granted })
      (z.run ∷ z.after)
      (all-rest (OpensNot pid) f.mid (z.run ∷ z.after) (subst (All (OpensNot pid)) f.since_is w.last)))

  traced-run : (i : ℕ) × (position (is_process pid) (T fr).traced ≡ Some i)
  traced-run = by (position (is_process pid) (T fr).traced) refl
    where
      not-there : position (is_process pid) (T fr).traced ≡ None → ⊥
      not-there none =
          let x = at-place-of (T front) pid place at in
          let all =
          walk n k o s h run (IsNotOf pid) (other-kept pid) (er ∷ fv) fr later whole calm-run calm-since
          none-since
          (λ i within same.
          none-some i
          (sym none
          ∙ place-of pid (T fr).traced i (apart-here n k o s h run.of fr (er ∷ (fv ++ later)) whole calm-run)
          within same)) in
          subst (λ es. (i : ℕ) → i < length (T es).traced → (traced_at (T es) i).pid ≢ pid) (sym front-is) all place
          x.within x.its

      by : (x : Option ℕ) → position (is_process pid) (T fr).traced ≡ x
          → (i : ℕ) × (position (is_process pid) (T fr).traced ≡ Some i)
      by None none = absurd (not-there none)
      by (Some i) there = (i, there)

  pub its : (traced_at (T fr) q).pid ≡ pid
  its =
      let y = runs-there in
      let i = traced-run in
      let x = at-place-of (T fr) pid i.0 i.1 in
      let c = controls fr (er ∷ (fv ++ later)) pid i.0 control (z.before ++ z.x ∷ []) whole calm-run i.1 since-run in
      let one =
      control-there n k o s h run.of fr (er ∷ (fv ++ later)) whole calm-run y.place y.within in
      let two = control-there n k o s h run.of fr (er ∷ (fv ++ later)) whole calm-run i.0 x.within in
      ap (λ (held : Held). held.pid)
      (same_Some _ _
      (sym one ∙ ap (handle_of (S fr).opens k) (y.control ∙ c) ∙ two))
      ∙ x.its

  -- ---- it lives then

  legal-since : (es more : List Entry) → h ≡ es ++ more → IsLegal n (S es) more
  legal-since es more parts = legal-rest n s es more (subst (IsLegal n s) parts run.of.legal)

  -- wherever truss had come to since, as it lives at the end
  lives : (es more : List Entry) → front ≡ es ++ more → pid < (S es).system.made
      → (y : TracedProcess) × (live_process (S es).system pid ≡ Some y)
  lives es more parts made = by (live_process (S es).system pid) refl
    where
      whole_es : h ≡ es ++ (more ++ later)
      whole_es = is ∙ ap (λ vs. vs ++ later) parts ∙ append_assoc es more later

      lawful : IsLawful (S es)
      lawful =
          lawful-here n k o s h run.of es (more ++ later) whole_es
          (all-front WasNotInterrupted (exchanges k es) (exchanges k more)
          (subst (All WasNotInterrupted) (ap (exchanges k) parts ∙ exchanges-both k es more) calm))

      over : live_process (S es).system pid ≡ None → live_process (S front).system pid ≡ None
      over none =
          ap (λ (v : TracedState). live_process v.system pid)
          (ap (state_after s) parts ∙ state_after-both s es more)
          ∙ over-on n pid more (S es) lawful made
          (legal-front n (S es) more later (legal-since es (more ++ later) whole_es)) none

      by : (x : Option TracedProcess) → live_process (S es).system pid ≡ x
          → (y : TracedProcess) × (live_process (S es).system pid ≡ Some y)
      by None none = absurd (none-some p (sym (over none) ∙ live))
      by (Some y) there = (y, there)

  pub control-run : HasControl k pid control (S fr)
  control-run =
      let y = runs-there in
      subst (λ i. HasControl k i control (S fr)) its
      (subst (λ c. HasControl k (traced_at (T fr) y.place).pid c (S fr)) y.control
      (control-there n k o s h run.of fr (er ∷ (fv ++ later)) whole calm-run y.place y.within))

  lawful-run : IsLawful (S fr)
  lawful-run = lawful-here n k o s h run.of fr (er ∷ (fv ++ later)) whole calm-run

  made-run : pid < (S fr).system.made
  made-run = control-made k pid control (S fr) lawful-run control-run

  pub live-run : (y : TracedProcess) × (live_process (S fr).system pid ≡ Some y)
  live-run = lives fr (er ∷ fv) front-is made-run

  pub live-since : (es more : List Entry) → er ∷ fv ≡ es ++ more
      → (y : TracedProcess) × (live_process (S (fr ++ es)).system pid ≡ Some y)
  live-since es more parts =
      lives (fr ++ es) more (front-is ∙ ap (λ vs. fr ++ vs) parts ∙ sym (append_assoc fr es more))
      (subst (λ (v : TracedState). pid < v.system.made) (sym (state_after-both s fr es))
      (made-on n pid es (S fr) lawful-run made-run
      (legal-front n (S fr) es (more ++ later)
      (legal-since fr (es ++ (more ++ later))
      (whole ∙ ap (λ vs. fr ++ (vs ++ later)) parts ∙ ap (λ vs. fr ++ vs) (append_assoc es more later))))))

  -- ---- the step was begun before

  abbrev pub status : Option ℕ
  status = (traced_at (T fr) q).status

  under : HasStep k o fr q step
  unfolding step
  under =
      let y = runs-there in
      record {
        calm = calm-run;
        within = y.within;
        opened = ap (λ st. is_opened st y.place) y.stage;
        under_way = under-run.1;
      }

  pub begun : WasBegun k o fr pid status step
  begun =
      subst (λ i. WasBegun k o fr i status step) its
      (begun-there n k o s h run able fr (er ∷ (fv ++ later)) whole q step under live-run.0
      (ap (live_process (S fr).system) its ∙ live-run.1))

  -- and goes on as long as truss does not read the process
  unfoldable pub going : (es : List Entry)
      → ((m : ℕ) → (let b = begun in (traced_at (functions_at k o b.before) b.place).status) ≡ Some m
      → AreNoReads m (exchanges k es))
      → WasBegun k o (fr ++ es) pid status step
  going es quiet =
      let b = begun in
      record {
        before = b.before;
        e = b.e;
        between = b.between ++ es;
        is = ap (λ vs. vs ++ es) b.is ∙ append_assoc b.before (b.e ∷ b.between) es;
        place = b.place;
        x = b.x;
        own = b.own;
        meets = b.meets;
        its_pid = b.its_pid;
        its_status = b.its_status;
        its_step = b.its_step;
        quiet = λ m there.
            subst (AreNoReads m) (sym (exchanges-both k b.between es))
            (no-reads (exchanges k b.between) (exchanges k es) m (b.quiet m there) (quiet m there));
      }
    where
      no-reads : (vs ys : List Exchange) (m : ℕ) → AreNoReads m vs → AreNoReads m ys → AreNoReads m (vs ++ ys)
      no-reads [] ys m one two = two
      no-reads (v ∷ vs) ys m one two = (one.0, no-reads vs ys m one.1 two)
