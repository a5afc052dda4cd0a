use Rattle.std.proofs.Common.{◌≡◌, ◌<◌, ◌++◌, ℕ, Option, Some, None, List, [], ◌∷◌, length, position, refl, sym, subst, ap, ◌∙◌}
use Rattle.std.proofs.lemmas.Bool.{eqb-true}
use Rattle.std.proofs.lemmas.List.Elements.{All-cons, All-head}
use Rattle.std.proofs.lemmas.List.Quantifiers.{position-Some}
use Rattle.std.specs.List.{All}
use Rattle.pr_line.specs.declared.options.Options.{Options}
use Rattle.pr_model.specs.State.{TracedState}
use Rattle.pr_model.specs.declared.events.Entry.{Entry}
use Rattle.pr_report_laws.proofs.Watching.HistoryParts.{all-front, all-rest}
use Rattle.pr_truss.specs.NextCalls.{open_control, read_record}
use Rattle.pr_truss.specs.Trusses.{TrussState, nobody, traced_at}
use Rattle.pr_truss.specs.declared.marks.Stepped.{Stepped}
use Rattle.pr_truss_laws.proofs.Files.HeldLemmas.{at_place}
use Rattle.pr_truss_laws.specs.Exchanges.{Exchange, exchanges}
use Rattle.pr_function_laws.proofs.CallTurns.BegunSteps.{WasBegun}
use Rattle.pr_function_laws.specs.FunctionTurns.{is_process}
use Rattle.pr_function_laws.specs.ReachedRuns.{IsReachedFunctionRun}
use Rattle.pr_function_laws.specs.Opened.{WasNotInterrupted, functions_at}
use Rattle.pr_function_laws.specs.PlantedByCalls.{IsSinceOpened, OpensNot}
use Rattle.pr_function_laws.specs.ToldTurns.{AreSteppable}
use Rattle.pr_function_hides.proofs.LiftedSteps.BegunLifts.{begun-calm, exchanges-are, parted, reads-call}
use Rattle.pr_function_hides.proofs.LiftedSteps.LiftCalls.{OpensNone}
use Rattle.pr_function_hides.proofs.StepsUnderWay.UnderWay.{apart-here, place-of}

-- The exchanges since truss opened the control file of a process, and a step that was begun there.

-- ---- lists of exchanges

none-opens : (xs es gs : List Exchange) (f : Exchange) (pid : ℕ) → All OpensNone xs → xs ≡ es ++ f ∷ gs
    → f.call ≡ open_control pid → ⊥
none-opens xs es gs f pid none is opens =
    let here = All-head OpensNone f gs (all-rest OpensNone es (f ∷ gs) (subst (All OpensNone) is none)) in
    here.opens_none pid opens

-- The last open of a control file comes before exchanges that open none.
pub record OpensBefore (us bs es gs : List Exchange) (x f : Exchange) : Type 0 where
  pub mid : List Exchange
  pub since : gs ≡ mid ++ x ∷ bs
  pub front : us ≡ es ++ f ∷ mid

pub opens-before : (us bs es gs : List Exchange) (x f : Exchange) (pid : ℕ) → us ++ x ∷ bs ≡ es ++ f ∷ gs
    → All OpensNone (x ∷ bs) → f.call ≡ open_control pid → OpensBefore us bs es gs x f
opens-before [] bs es gs x f pid is none opens = absurd (none-opens (x ∷ bs) es gs f pid none is opens)
opens-before (a ∷ us) bs [] gs x f pid is none opens =
    let same : a ≡ f = cc in
    let rest : us ++ x ∷ bs ≡ gs = cc in
    record { mid = us; since = sym rest; front = ap (λ y. y ∷ us) same }
opens-before (a ∷ us) bs (e ∷ es) gs x f pid is none opens =
    let same : a ≡ e = cc in
    let rest : us ++ x ∷ bs ≡ es ++ f ∷ gs = cc in
    let w = opens-before us bs es gs x f pid rest none opens in
    record {
      mid = w.mid;
      since = w.since;
      front = ap (λ (ys : List Exchange). a ∷ ys) w.front ∙ ap (λ y. y ∷ (es ++ f ∷ w.mid)) same;
    }

-- a read of a status opens none
pub read-opens : (x : Exchange) (o : Option ℕ) → x.call ≡ read_record o → OpensNone x
read-opens x o is = record { opens_none = λ pid same. clash o (sym is ∙ same) }
  where
    clash : {pid : ℕ} (o : Option ℕ) → read_record o ≡ open_control pid → ⊥
    clash None both = cc
    clash (Some m) both = cc

-- ---- the process at a place

pub record IsAtPlace (t : TrussState) (pid place : ℕ) : Type 0 where
  pub within : place < length t.traced
  pub its : (traced_at t place).pid ≡ pid

pub at-place-of : (t : TrussState) (pid place : ℕ) → position (is_process pid) t.traced ≡ Some place
    → IsAtPlace t pid place
at-place-of t pid place at =
    let found = position-Some (is_process pid) t.traced place nobody at in
    record { within = found.0; its = eqb-true (at_place t.traced place).pid pid found.1 }

-- The handle of the control file is the one that the last open of it gave.
abbrev pub HasItsControls : ℕ → Options → List Entry → Type 0
HasItsControls k o h =
    (front later : List Entry) (pid place control : ℕ) (xs : List Exchange) → h ≡ front ++ later
    → All WasNotInterrupted (exchanges k front) → position (is_process pid) (functions_at k o front).traced ≡ Some place
    → IsSinceOpened k pid front control xs
    → control ≡ (traced_at (functions_at k o front) place).control

module _ (n k : ℕ) (o : Options) (s : TracedState) (h : List Entry) (run : IsReachedFunctionRun n k o s h)
    (able : AreSteppable o) (controls : HasItsControls k o h)
    (front later : List Entry) (is : h ≡ front ++ later) (calm : All WasNotInterrupted (exchanges k front))
    (pid control : ℕ) (xs : List Exchange) (w : IsSinceOpened k pid front control xs) (status : Option ℕ)
    (step : Stepped) (b : WasBegun k o front pid status step) (none : All OpensNone (exchanges k b.between)) where
  abbrev t0 : TrussState
  t0 = functions_at k o b.before

  whole : h ≡ b.before ++ b.e ∷ (b.between ++ later)
  whole = parted n k o s h run able front later is calm pid status step b

  calm0 : All WasNotInterrupted (exchanges k b.before)
  calm0 = begun-calm n k o s h run able front later is calm pid status step b

  at0 : position (is_process pid) t0.traced ≡ Some b.place
  at0 =
      let m = b.meets in
      place-of pid t0.traced b.place
      (apart-here n k o s h run.of b.before (b.e ∷ (b.between ++ later)) whole calm0) m.within b.its_pid

  -- the open comes before the read at the breakpoint
  pub split : OpensBefore (exchanges k b.before) (exchanges k b.between) w.earlier w.since b.x w.first
  split =
      opens-before (exchanges k b.before) (exchanges k b.between) w.earlier w.since b.x w.first pid
      (sym (exchanges-are n k o s h run able front later is calm pid status step b)
      ∙ w.is ∙ ap (λ (ys : List Exchange). w.earlier ++ ys) w.begins)
      (All-cons OpensNone b.x (exchanges k b.between)
      (read-opens b.x (traced_at t0 b.place).status
      (reads-call n k o s h run able front later is calm pid status step b)) none) w.opens

  pub control-is : control ≡ (traced_at (functions_at k o b.before) b.place).control
  control-is =
      let x = split in
      controls b.before (b.e ∷ (b.between ++ later)) pid b.place control (w.first ∷ x.mid) whole calm0 at0
      (record {
        earlier = w.earlier;
        first = w.first;
        since = x.mid;
        is = x.front;
        begins = refl;
        opens = w.opens;
        granted = w.granted;
        handle = w.handle;
        last = all-front (OpensNot pid) x.mid (b.x ∷ exchanges k b.between)
            (subst (All (OpensNot pid)) x.since w.last);
      })
