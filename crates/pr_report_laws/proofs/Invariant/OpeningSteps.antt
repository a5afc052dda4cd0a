use Rattle.std.proofs.Common.{◌≡◌, ◌≢◌, ◌<◌, ℕ, zero, suc, true, false, None, Some, Option, List, length, refl, sym, subst, ap, ◌∙◌, arith, inl, inr}
use Rattle.std.proofs.lemmas.Bool.{cases_Bool, cases_eq, false≢true}
use Rattle.std.proofs.lemmas.Option.{same_Some}
use Rattle.pr_line.specs.declared.options.Options.{Options}
use Rattle.pr_model.specs.Replies.{handle_in, until_in}
use Rattle.pr_model.specs.State.{TracedProcess, TracedState, live_process}
use Rattle.pr_model.specs.declared.calls.Reply.{Reply}
use Rattle.pr_num.specs.declared.errnos.Errno.{Errno}
use Rattle.pr_num.specs.declared.errnos.Errno.TheVariants.{Noent}
use Rattle.pr_truss.specs.Closings.{with_going_on, with_interrupt, with_next_opening}
use Rattle.pr_truss.specs.Feeding.{fed, with_reply}
use Rattle.pr_truss.specs.Openings.{at_step, learnt, pid_in, step_after, with_control, with_control_answered, with_refused_control, with_refused_start, with_refused_step, with_start_answered, with_step_answered, with_step_done, with_stop_seen}
use Rattle.pr_truss.specs.Processes.{newly_traced}
use Rattle.pr_truss.specs.Replies.{answer_of}
use Rattle.pr_truss.specs.Trusses.{TrussState, traced_at, with_opened, with_report, with_stage, with_traced}
use Rattle.pr_truss.specs.declared.processes.Traced.{Traced}
use Rattle.pr_truss.specs.declared.replies.Answer.{Answer}
use Rattle.pr_truss.specs.declared.replies.Answer.TheVariants.{Accepted, Interrupted, Gone, Refused}
use Rattle.pr_truss.specs.declared.reports.Report.TheVariants.{CannotStart, CannotTrace}
use Rattle.pr_truss.specs.declared.stages.AfterClosing.TheVariants.{OpenNext}
use Rattle.pr_truss.specs.declared.stages.OpeningStep.{OpeningStep}
use Rattle.pr_truss.specs.declared.stages.OpeningStep.TheVariants as opening
use Rattle.pr_truss.specs.declared.stages.Stage.{Stage}
use Rattle.pr_truss.specs.declared.stages.Stage.TheVariants.{Spawning, OpeningControl, Opening, Closing}
use Rattle.pr_truss_laws.proofs.Files.HeldLemmas.{Fits}
use Rattle.pr_report_laws.proofs.Invariant.Tallies.{IsWhole, Tally}
use Rattle.pr_report_laws.proofs.Replies.NextStages.{ComesNext, comes-places, comes-same, going_on-comes, interrupt-comes, next_opening-comes, prepares-none}
use Rattle.pr_report_laws.proofs.Replies.OpeningParts.{HasStarted, IsPlain, IsStepDone, Leaves, closing-plain, comes-plain, control-plain, last-start, learnt-pid, learnt-start, leaves-standing, opening-plain, prepares-opening, spawning-plain, until-after}
use Rattle.pr_report_laws.proofs.Replies.Orderly.{IsOrderly}
use Rattle.pr_report_laws.proofs.Invariant.OtherSteps.{is-watched}
use Rattle.pr_report_laws.proofs.Replies.TracedPlaces.{none-pid, opened-before, opened-last, opened-length, other-place, place-none, place-pid, place-some, place-within, same-place, set-here, set-length, set-other, set-place}
use Rattle.pr_report_laws.proofs.Invariant.Standing.{Opened, Position, Prepares, Standing, goes, lives, old_stops, over}
use Rattle.pr_report_laws.proofs.Replies.Unwatched.{apart-accounted, apart-standing, away-watched, none-watched, unattached-watched}
use Rattle.pr_report_laws.specs.Watching.{is_away, place_of, watches}

-- What the steps make of a process with which truss begins to trace, or opens, a process: that one is not watched
-- before its opening is done, and the others stand as they stood.

-- how a process stands with truss, and what is asked of it where truss opens it
abbrev pub Comes : Type 0 → Options → ℕ → TrussState → TracedState → Tally → Type 0
Comes Why o pid u s tally = Standing Why o pid u s tally × Prepares o pid u s

-- ---- truss makes the process of its program

module _ (Why : Type 0) (o : Options) (pid : ℕ) (t : TrussState) (s : TracedState) (tally : Tally)
    (r : Reply) where
  abbrev After : TrussState → Type 0
  After u = Comes Why o pid u s tally

  -- a step about no process is followed by another one
  plain-comes : (v u : TrussState) → v.traced ≡ t.traced → ComesNext v u
      → ((place : ℕ) → is_away t.leaving t.stage place ≡ false) → IsPlain t.stage → Standing Why o pid t s tally
      → After u
  plain-comes v u traced c here plain standing =
      let places : place_of u pid ≡ place_of t pid =
      comes-places pid v u c ∙ ap (λ (ts : List Traced). place_of (record v { traced = ts }) pid) traced in
      let l : Leaves pid t u = record {
        none = λ none. places ∙ none;
        then = λ place at. places ∙ at;
        same =
            λ place at. comes-same place v u c
            ∙ ap (λ (ts : List Traced). traced_at (record v { traced = ts }) place) traced;
        was = λ place at. here place;
        here = λ place at on. c.here place on;
        before = plain;
        after = comes-plain v u c;
      } in
      (leaves-standing Why o pid t u s tally l standing, prepares-none o pid u s c.opens)

  -- The process is opened, or its refusal is reported.
  module _ (program : List ℕ) (stage : t.stage ≡ Spawning program) where
    spawning-here : (place : ℕ) → is_away t.leaving t.stage place ≡ false
    spawning-here place = ap (λ (st : Stage). is_away t.leaving st place) stage

    refused-start : (errno : Errno) → Standing Why o pid t s tally → After (with_refused_start t program errno)
    unfolding with_refused_start
    refused-start errno standing =
        let v : TrussState = with_report t (CannotStart program errno) in
        let c = going_on-comes v in
        plain-comes v (with_going_on v) refl c spawning-here
        (subst IsPlain (sym stage) (spawning-plain program)) standing

    opens-control : (of : ℕ) → Standing Why o pid t s tally → After (with_stage t (OpeningControl of))
    opens-control of standing =
        let u : TrussState = with_stage t (OpeningControl of) in
        let c : ComesNext t u = record {
          traced = refl;
          reports = refl;
          options = refl;
          here = λ place on. refl;
          read = λ place. refl;
          named = λ place. refl;
          pending = refl;
          opens = refl;
        } in
        plain-comes t u refl c spawning-here
        (subst IsPlain (sym stage) (spawning-plain program)) standing

    spawning-answered : (a : Answer) → a ≢ Interrupted → Standing Why o pid t s tally
        → After (with_start_answered t program r a)
    unfolding with_start_answered
    spawning-answered Accepted calm standing = opens-control (pid_in r) standing
    spawning-answered Interrupted calm standing = absurd (calm refl)
    spawning-answered Gone calm standing = refused-start Noent standing
    spawning-answered (Refused errno) calm standing = refused-start errno standing

    pub spawning-step : answer_of r ≢ Interrupted → Standing Why o pid t s tally → After (fed t r)
    unfolding fed with_reply
    spawning-step calm standing =
        subst (λ (st : Stage). After (with_reply t r st)) (sym stage) (spawning-answered (answer_of r) calm standing)

  -- ---- truss opens the control file of a process

  module _ (of : ℕ) (stage : t.stage ≡ OpeningControl of) where
    control-here : (place : ℕ) → is_away t.leaving t.stage place ≡ false
    control-here place = ap (λ (st : Stage). is_away t.leaving st place) stage

    refused-control : (errno : Errno) → Standing Why o pid t s tally → After (with_refused_control t of errno)
    unfolding with_refused_control
    refused-control errno standing =
        let v : TrussState = with_report t (CannotTrace of errno) in
        let c = next_opening-comes v in
        plain-comes v (with_next_opening v) refl c control-here
        (subst IsPlain (sym stage) (control-plain of)) standing

    module _ (handle : ℕ) (order : IsOrderly t) (later : IsOrderly (with_control t of handle)) where
      abbrev new : Traced
      new = newly_traced of handle

      abbrev opened : TrussState
      opened = with_stage (with_opened t new) (Opening (length t.traced) opening.OpenStatus)

      -- it stood nowhere, and stands last
      stood-nowhere : IsOrderly opened → pid ≡ of → place_of t pid ≡ None
      unfolding newly_traced
      stood-nowhere next own = place-none t pid (λ place within is. clash place within is)
        where
          clash : (place : ℕ) → place < length t.traced → (traced_at t place).pid ≡ pid → ⊥
          clash place within is =
              let first =
              place-some opened pid next place (omega (arith, opened-length t new))
              (ap (λ (x : Traced). x.pid) (opened-before t new place within) ∙ is) in
              let last =
              place-some opened pid next (length t.traced) (omega (arith, opened-length t new))
              (ap (λ (x : Traced). x.pid) (opened-last t new) ∙ sym own) in
              let same : place ≡ length t.traced = same_Some place (length t.traced) (sym first ∙ last) in
              omega arith

      stands-last : IsOrderly opened → pid ≡ of → place_of opened pid ≡ Some (length t.traced)
      unfolding newly_traced
      stands-last next own =
          place-some opened pid next (length t.traced) (omega (arith, opened-length t new))
          (ap (λ (x : Traced). x.pid) (opened-last t new) ∙ sym own)

      stands-nowhere : IsOrderly t → pid ≢ of → place_of t pid ≡ None → place_of opened pid ≡ None
      unfolding newly_traced
      stands-nowhere before other none =
          place-none opened pid (λ place within is. elim (cases_eq place (length t.traced)) [
            | inl last ↦ other (sym is ∙ ap (λ n. (traced_at opened n).pid) last
                ∙ ap (λ (x : Traced). x.pid) (opened-last t new))
            | inr apart ↦
                let first : place < length t.traced = omega (arith, opened-length t new) in
                none-pid t pid before none place first
                (ap (λ (x : Traced). x.pid) (sym (opened-before t new place first))
                ∙ is)
          ])

      other-leaves : IsOrderly opened → pid ≢ of → Leaves pid t opened
      other-leaves next other = record {
        none = stands-nowhere order other;
        then =
            λ place at. place-some opened pid next place
            (omega (arith, place-within t pid place at, opened-length t new))
            (ap (λ (x : Traced). x.pid) (opened-before t new place (place-within t pid place at))
            ∙ place-pid t pid place at);
        same = λ place at. opened-before t new place (place-within t pid place at);
        was = λ place at. control-here place;
        here =
            λ place at on. other-place (length t.traced) place
            (λ same. absurd (let w = place-within t pid place at in omega arith));
        before = subst IsPlain (sym stage) (control-plain of);
        after = opening-plain (length t.traced) opening.OpenStatus;
      }

      opened-prepares : Prepares o pid opened s
      unfolding Opened
      opened-prepares =
          prepares-opening o pid opened s (length t.traced) opening.OpenStatus refl (λ n is. cc) (λ q own live. tt)

      control-opened : Standing Why o pid t s tally → After (with_control t of handle)
      unfolding with_control
      control-opened standing = elim (cases_eq pid of) [
        | inl own ↦ (
          apart-standing Why o pid t s tally opened s (none-watched t pid (stood-nowhere later own))
              (away-watched opened pid (length t.traced) (stands-last later own)
              (same-place (length t.traced) (length t.traced) refl)) standing,
          opened-prepares,
        )
        | inr other ↦ (leaves-standing Why o pid t opened s tally (other-leaves later other) standing, opened-prepares)
      ]

    control-answered : (a : Answer) → a ≢ Interrupted → IsOrderly t → IsOrderly (with_control_answered t of r a)
        → Standing Why o pid t s tally → After (with_control_answered t of r a)
    unfolding with_control_answered
    control-answered Accepted calm order later standing = control-opened (handle_in r) order later standing
    control-answered Interrupted calm order later standing = absurd (calm refl)
    control-answered Gone calm order later standing = refused-control Noent standing
    control-answered (Refused errno) calm order later standing = refused-control errno standing

    pub control-step : answer_of r ≢ Interrupted → IsOrderly t → IsOrderly (fed t r) → Standing Why o pid t s tally
        → After (fed t r)
    unfolding fed with_reply
    control-step calm order =
        subst (λ (st : Stage). IsOrderly (with_reply t r st) → Standing Why o pid t s tally → After (with_reply t r st))
        (sym stage) (control-answered (answer_of r) calm order)

-- ---- a step of an opening

-- How a process stands with truss before the call of a step, where truss opens that process; and after the call, which
-- leaves it alone, where truss opens another one.
pub record Stood (Why : Type 0) (o : Options) (pid : ℕ) (t : TrussState) (before s : TracedState)
    (tally : Tally) (place : ℕ) : Type 0 where
  pub own : (traced_at t place).pid ≡ pid → Standing Why o pid t before tally
  pub other : (traced_at t place).pid ≢ pid → Standing Why o pid t s tally

module _ (Why : Type 0) (o : Options) (pid : ℕ) (t : TrussState) (before s : TracedState) (tally : Tally)
    (r : Reply) (place : ℕ) (step : OpeningStep) (stage : t.stage ≡ Opening place step) (order : IsOrderly t) where
  within : place < length t.traced
  within = let f : Fits t.traced (Opening place step) = subst (Fits t.traced) stage order.fits in f.0

  -- ---- the process at the place, and the others

  -- Where each process stands, and what is known of the others.
  record StepsTo (u : TrussState) : Type 0 where
    pub places : place_of u pid ≡ place_of t pid
    pub same : (other : ℕ) → other ≢ place → traced_at u other ≡ traced_at t other
    pub here : (other : ℕ) → other ≢ place → (traced_at u other).attached ≡ true
        → is_away u.leaving u.stage other ≡ false
    pub plain : IsPlain u.stage

  module _ (differs : (traced_at t place).pid ≢ pid) where
    elsewhere : (other : ℕ) → place_of t pid ≡ Some other → other ≢ place
    elsewhere other at same = differs (ap (λ n. (traced_at t n).pid) (sym same) ∙ place-pid t pid other at)

    others-leave : (u : TrussState) → StepsTo u → Leaves pid t u
    others-leave u n = record {
      none = λ none. n.places ∙ none;
      then = λ other at. n.places ∙ at;
      same = λ other at. n.same other (elsewhere other at);
      was =
          λ other at. ap (λ (st : Stage). is_away t.leaving st other) stage
          ∙ other-place place other (λ same. elsewhere other at (sym same));
      here = λ other at on. n.here other (elsewhere other at) on;
      before = subst IsPlain (sym stage) (opening-plain place step);
      after = n.plain;
    }

    others-stand : (u : TrussState) → StepsTo u → Standing Why o pid t s tally → Standing Why o pid u s tally
    others-stand u n standing = leaves-standing Why o pid t u s tally (others-leave u n) standing

  module _ (own : (traced_at t place).pid ≡ pid) where
    at-place : place_of t pid ≡ Some place
    at-place = place-some t pid order place within own

    -- it is not watched before its opening is done
    pub not-watched : watches t pid ≡ false
    not-watched =
        away-watched t pid place at-place (ap (λ (st : Stage). is_away t.leaving st place) stage
        ∙ same-place place place refl)

    stays-apart : (u : TrussState) → StepsTo u → (place_of u pid ≡ Some place → watches u pid ≡ false)
        → Standing Why o pid t before tally → Standing Why o pid u s tally
    stays-apart u n off standing =
        apart-standing Why o pid t before tally u s not-watched (off (n.places ∙ at-place)) standing

    stays-away : (u : TrussState) → StepsTo u → is_away u.leaving u.stage place ≡ true
        → Standing Why o pid t before tally → Standing Why o pid u s tally
    stays-away u n away standing = stays-apart u n (λ at. away-watched u pid place at away) standing

    stays-free : (u : TrussState) → StepsTo u → (traced_at u place).attached ≡ false → Standing Why o pid t before tally
        → Standing Why o pid u s tally
    stays-free u n off standing = stays-apart u n (λ at. unattached-watched u pid place at off) standing

  abbrev Knows : Type 0
  Knows = Stood Why o pid t before s tally place

  abbrev Then : TrussState → Type 0
  Then u = Comes Why o pid u s tally

  -- a step after which the process at the place is not watched
  unwatched-step : (u : TrussState) → StepsTo u → Prepares o pid u s
      → ((traced_at t place).pid ≡ pid → Standing Why o pid t before tally → Standing Why o pid u s tally) → Knows
      → Then u
  unwatched-step u n prepares off k = elim (cases_eq (traced_at t place).pid pid) [
    | inl own ↦ (off own (k.own own), prepares)
    | inr other ↦ (others-stand other u n (k.other other), prepares)
  ]

  -- ---- the next step comes

  module _ (x : Traced) (same-pid : x.pid ≡ (traced_at t place).pid) where
    abbrev changed : TrussState
    changed = with_traced t place x

    goes-on : (next : OpeningStep) → StepsTo (with_stage changed (Opening place next))
    goes-on next = record {
      places = set-place t place x pid same-pid;
      same = λ other differs. set-other t place x other differs;
      here = λ other differs on. other-place place other (λ same. differs (sym same));
      plain = opening-plain place next;
    }

    -- nothing is done for the process any more
    turns-to : (u : TrussState) → ComesNext changed u → StepsTo u
    turns-to u c =
        record {
          places = comes-places pid changed u c ∙ set-place t place x pid same-pid;
          same = λ other differs. comes-same other changed u c ∙ set-other t place x other differs;
          here = λ other differs on. c.here other on;
          plain = comes-plain changed u c;
        }

  module _ (options : t.options ≡ o)
      (facts : (traced_at t place).pid ≡ pid → answer_of r ≡ Accepted → IsStepDone o pid
      (traced_at t place) r step before s) (stop_until : step ≡ opening.Stop → answer_of r ≡ Accepted
      → until_in r ≡ 0) where
    abbrev x : Traced
    x = learnt (traced_at t place) r step

    done-next : (next : OpeningStep) → step_after o r step ≡ Some next → answer_of r ≡ Accepted
        → Prepares o pid t before → Knows → Then (with_stage (with_traced t place x) (Opening place next))
    done-next next after accepted asked k =
        let u : TrussState = with_stage (with_traced t place x) (Opening place next) in
        let same = learnt-pid (traced_at t place) r step in
        let n = goes-on x same next in
        let here : traced_at u place ≡ x = set-here t place x within in
        unwatched-step u n (prepares-opening o pid u s place next refl
        (λ i is. let l = until-after o r step i (after ∙ ap (λ (y : OpeningStep). Some y) is) in l.1
        ∙ stop_until l.0 accepted)
        (λ q mine live.
        let own : (traced_at t place).pid ≡ pid = sym same ∙ ap (λ (y : Traced). y.pid) (sym here) ∙ mine in
        let f = facts own accepted in
        subst (λ (y : Traced). Opened o next q y.old) (sym here)
        (f.done next q after live (λ p lives. asked.opened place step p stage own lives))))
        (λ own standing. stays-away own u n (same-place place place refl) standing) k

    -- ---- the last step

    module _ (last : step ≡ opening.Start) (accepted : answer_of r ≡ Accepted) (asked : Prepares o pid t before)
        (whole : (traced_at t place).pid ≡ pid →
        (p q : TracedProcess) → live_process before.system pid ≡ Some p → live_process s.system pid ≡ Some q
        → IsWhole tally) where
      abbrev finished : TrussState
      finished = with_next_opening (with_traced t place x)

      comes : ComesNext (with_traced t place x) finished
      comes = next_opening-comes (with_traced t place x)

      steps : StepsTo finished
      steps = turns-to x (learnt-pid (traced_at t place) r step) finished comes

      here-last : traced_at finished place ≡ traced_at t place
      here-last =
          comes-same place (with_traced t place x) finished comes ∙ set-here t place x within
          ∙ learnt-start (traced_at t place) r step last

      module _ (own : (traced_at t place).pid ≡ pid) (on : (traced_at finished place).attached ≡ true) where
        at-last : place_of finished pid ≡ Some place
        at-last = steps.places ∙ at-place own

        started : (q : TracedProcess) → live_process s.system pid ≡ Some q → HasStarted o (traced_at t place).old q
        started q live =
            let f = facts own accepted in
            f.started q last live (λ p lives. asked.opened place step p stage own lives)

        all-told : (q : TracedProcess) → live_process s.system pid ≡ Some q → IsWhole tally
        all-told q live =
            let f = facts own accepted in
            let l = f.lived q last live in
            whole own l.0 q l.1 live

        stands-started : (q : TracedProcess) → live_process s.system pid ≡ Some q → (old : ℕ)
            → (traced_at finished place).old ≡ old → HasStarted o old q → Standing Why o pid finished s tally
        stands-started q live old is st =
            lives place q at-last on (comes.here place on) live st.traced (position old is st)
          where
            position : (n : ℕ) → (traced_at finished place).old ≡ n → HasStarted o n q
                → Position o finished.stage place (traced_at finished place).old q tally
            position zero none h = goes (comes.read place) (comes.named place) none (h.quiet refl) (all-told q live)
            position (suc n) some h = old_stops n (comes.read place) some (h.waits n refl) (all-told q live)

        stands-last-by : (y : Option TracedProcess) → live_process s.system pid ≡ y → Standing Why o pid t before tally
            → Standing Why o pid finished s tally
        stands-last-by None ended standing =
            over (is-watched finished pid place at-last on (comes.here place on)) ended
            (apart-accounted Why o pid t before tally (not-watched own) standing)
        stands-last-by (Some q) live standing =
            stands-started q live (traced_at t place).old (ap (λ (y : Traced). y.old) here-last) (started q live)

      done-last : Knows → Then finished
      done-last k = unwatched-step finished steps (prepares-none o pid finished s comes.opens)
          (λ own standing. elim (cases_Bool (traced_at finished place).attached) [
            | inl on ↦ stands-last-by own on (live_process s.system pid) refl standing
            | inr off ↦ stays-free own finished steps off standing
          ]) k

    -- ---- the replies

    step-refused : (errno : Errno) → Knows → Then (with_refused_step t place errno)
    unfolding with_refused_step
    step-refused errno k =
        let of : ℕ = (traced_at t place).pid in
        let v : TrussState = with_report t (CannotTrace of errno) in
        let u : TrussState = with_stage v (Closing place OpenNext) in
        let n : StepsTo u = record {
          places = refl;
          same = λ other differs. refl;
          here = λ other differs on. other-place place other (λ same. differs (sym same));
          plain = closing-plain place;
        } in
        unwatched-step u n (prepares-none o pid u s refl)
        (λ own standing. stays-away own u n (same-place place place refl) standing) k

    step-interrupted : IsOrderly (with_interrupt (with_stop_seen t place)) → Knows
        → Then (with_interrupt (with_stop_seen t place))
    unfolding with_stop_seen
    step-interrupted later k =
        let y : Traced = record (traced_at t place) { seen = true } in
        let v : TrussState = with_traced t place y in
        let u : TrussState = with_interrupt v in
        let c = interrupt-comes v in
        let n = turns-to y refl u c in
        let inside : place < length u.traced =
        subst (λ (ts : List Traced). place < length ts) (sym c.traced)
        (omega (arith, within, set-length t place y)) in
        let seen : (traced_at u place).seen ≡ true =
        ap (λ (z : Traced). z.seen) (comes-same place v u c ∙ set-here t place y within) in
        let off : (traced_at u place).attached ≡ false =
        elim (cases_Bool (traced_at u place).attached) [
          | inl on ↦ absurd
              (false≢true (sym (later.unseen place inside on) ∙ seen))
          | inr not ↦ not
        ] in
        unwatched-step u n (prepares-none o pid u s c.opens) (λ own standing. stays-free own u n off standing) k

    module _ (asked : Prepares o pid t before)
        (whole : step ≡ opening.Start → (traced_at t place).pid ≡ pid →
        (p q : TracedProcess) → live_process before.system pid ≡ Some p → live_process s.system pid ≡ Some q
        → IsWhole tally) (k : Knows) where
      step-done : answer_of r ≡ Accepted → (next : Option OpeningStep) → step_after o r step ≡ next
          → Then (at_step (with_traced t place x) place next)
      step-done accepted (Some next) is = done-next next is accepted asked k
      step-done accepted None is = let last = last-start o r step is in done-last last accepted asked (whole last) k

      step-answered : (a : Answer) → answer_of r ≡ a → IsOrderly (with_step_answered t place step r a)
          → Then (with_step_answered t place step r a)
      unfolding with_step_answered with_step_done
      step-answered Accepted is later =
          subst (λ (w : Options). Then (at_step (with_traced t place x) place (step_after w r step))) (sym options)
          (step-done is (step_after o r step) refl)
      step-answered Interrupted is later = step-interrupted later k
      step-answered Gone is later = step-refused Noent k
      step-answered (Refused errno) is later = step-refused errno k

      pub opening-step : IsOrderly (fed t r) → Then (fed t r)
      unfolding fed with_reply
      opening-step =
          subst (λ (st : Stage). IsOrderly (with_reply t r st) → Then (with_reply t r st)) (sym stage)
          (step-answered (answer_of r) refl)
