use Rattle.std.proofs.Common.{◌≡◌, ◌<◌, ◌++◌, ℕ, Bool, true, false, Option, Some, None, List, [], ◌∷◌, length, append-nil, append_assoc, refl, sym, subst, ap, ◌∙◌, inl, inr}
use Rattle.std.proofs.lemmas.Bool.{false≢true}
use Rattle.std.proofs.lemmas.List.{get_or_push}
use Rattle.std.proofs.lemmas.List.Elements.{All-cons, All-nil, All-push}
use Rattle.std.proofs.lemmas.Option.{same_Some}
use Rattle.std.specs.List.{All, cons_option, slice_get}
use Rattle.pr_line.specs.declared.options.Options.{Options}
use Rattle.pr_model.specs.Legal.{state_after}
use Rattle.pr_model.specs.Replies.{handle_in}
use Rattle.pr_model.specs.State.{TracedState}
use Rattle.pr_model.specs.declared.calls.Reply.{Reply}
use Rattle.pr_model.specs.declared.calls.Reply.TheVariants as reply
use Rattle.pr_model.specs.declared.events.Entry.{Entry}
use Rattle.pr_num.specs.declared.errnos.Errno.{Errno}
use Rattle.pr_num.specs.declared.errnos.Errno.TheVariants.{Intr}
use Rattle.pr_num.specs.declared.messages.Message.TheVariants as message
use Rattle.pr_report_laws.proofs.Files.FileLaws.{HasFiles}
use Rattle.pr_report_laws.proofs.Files.FileUses.{standing}
use Rattle.pr_report_laws.proofs.Files.WatchHistories.{Reaches, exchanges-push, no-exchanges}
use Rattle.pr_report_laws.proofs.Memory.WatchMemory.{accepted-granted, reached-comes}
use Rattle.pr_report_laws.proofs.Invariant.OpeningRuns.{granted-accepted}
use Rattle.pr_report_laws.proofs.Replies.NextStages.{opens}
use Rattle.pr_report_laws.proofs.Replies.OpeningParts.{learnt-pid}
use Rattle.pr_report_laws.proofs.Replies.StageChanges.{Begins, How, Opens, at, child_goes, child_interrupted, child_starts, followed, free, goes, interrupted, less, no, opened, starts}
use Rattle.pr_report_laws.proofs.Replies.TextReports.{reads_stop}
use Rattle.pr_report_laws.proofs.Replies.WatchedPlaces.{place-watched, watched-place}
use Rattle.pr_report_laws.proofs.Watching.BeginsOnlyLaws.{watched-before}
use Rattle.pr_report_laws.specs.Watching.{watches}
use Rattle.pr_truss.specs.Children.{with_child_control}
use Rattle.pr_truss.specs.Feeding.{fed}
use Rattle.pr_truss.specs.FunctionCalls.{call_beside, function_call_of, next_function_call_of, plant_call, read_code_call}
use Rattle.pr_truss.specs.FunctionFeeding.{fed_functions}
use Rattle.pr_truss.specs.Marks.{has_functions}
use Rattle.pr_truss.specs.Messages.{message_call}
use Rattle.pr_truss.specs.NextCalls.{call_of, open_control, opening_call}
use Rattle.pr_truss.specs.Openings.{learnt, step_after, with_control}
use Rattle.pr_truss.specs.Processes.{newly_traced}
use Rattle.pr_truss.specs.Replies.{answer_of}
use Rattle.pr_truss.specs.Trusses.{TrussState, first_of_program, first_truss, idle, nobody, opening_or, traced_at, with_stage, with_traced}
use Rattle.pr_truss.specs.declared.asides.Aside.{Aside}
use Rattle.pr_truss.specs.declared.asides.Aside.TheVariants.{Nothing, Reading, Planting, Patching}
use Rattle.pr_truss.specs.declared.processes.Traced.{Traced}
use Rattle.pr_truss.specs.declared.replies.Answer.TheVariants.{Accepted, Interrupted}
use Rattle.pr_truss.specs.declared.stages.OpeningStep.{OpeningStep}
use Rattle.pr_truss.specs.declared.stages.OpeningStep.TheVariants as opening
use Rattle.pr_truss.specs.declared.stages.OpeningStep.TheVariants.{OpenStatus, Start}
use Rattle.pr_truss.specs.declared.stages.Stage.{Stage}
use Rattle.pr_truss.specs.declared.stages.Stage.TheVariants.{OpeningControl, Opening, OpeningChild, ReadingLwps}
use Rattle.pr_truss_laws.proofs.Replies.AnswerLemmas.{IsAnswer, Refuses, answer-is}
use Rattle.pr_truss_laws.proofs.Files.HeldLemmas.{Fits, set-at}
use Rattle.pr_truss_laws.proofs.Files.OwnLemmas.{Owns}
use Rattle.pr_truss_laws.proofs.Replies.ReplySteps.{accepts, refused-other}
use Rattle.pr_truss_laws.specs.Exchanges.{Exchange, IsGranted, exchange_of, exchanges}
use Rattle.pr_function_laws.proofs.ShownOnce.GoingOn.{Going}
use Rattle.pr_function_laws.proofs.Holding.HoldCalls.{GoesBeside, GoesToRun, after-next, after-other, before-start, beside-runs, exits-look, is_follow, look_in, next-plain, next_step, opening-free, plant-look, read-look, runs-beside, step-called, step-runs, step_call, whole}
use Rattle.pr_function_laws.proofs.OrdinaryTruss.OrdinaryEntries as entries
use Rattle.pr_function_laws.proofs.OrdinaryTruss.OrdinaryEntries.{along, watches-ordinary}
use Rattle.pr_function_laws.proofs.OrdinaryTruss.OrdinaryExchanges.{IsFit, own-row}
use Rattle.pr_function_laws.proofs.OrdinaryTruss.OrdinaryFiles.{Follows}
use Rattle.pr_function_laws.proofs.OrdinaryTruss.OrdinaryReplies.{at-ordinary}
use Rattle.pr_function_laws.proofs.OrdinaryTruss.OrdinaryRows.{Row, Step, feeds, is_beside, passes, refuses, stays}
use Rattle.pr_function_laws.proofs.OrdinaryTruss.OrdinaryStops.{FitsAside}
use Rattle.pr_function_laws.proofs.NextCalls.PatchCalls.{next-beside, next-staged}
use Rattle.pr_function_laws.specs.Holds.{GetsHoldWithFunctions, IsWholeFunctionOpening, LooksAndRuns}
use Rattle.pr_function_laws.specs.Opened.{IsFunctionRun, functions_at}
use Rattle.pr_function_laws.specs.Ordinary.{PassesOver, ordinary}
use Rattle.pr_function_laws.specs.Planted.{Look, look_at}
use Rattle.pr_function_laws.specs.Runs.{functions_after}
use Rattle.pr_function_laws.specs.Soon.{IsCalm, may_wait}

-- Truss with calls of functions begins to watch a process in no other way than by a whole opening of it.

-- ---- the opening that is under way

-- Truss opens the process at a place, and has come to this step, and to this look at a function: the last exchanges are
-- those of its opening so far.
record IsUnderWay (o : Options) (u : TrussState) (look : Option Look) (place : ℕ) (now : OpeningStep)
    (xs : List Exchange) : Type 0 where
  pid : ℕ
  earlier : List Exchange
  first : Exchange
  begun : List Exchange
  is : xs ≡ earlier ++ (first ∷ begun)
  of : (traced_at u place).pid ≡ pid
  control : first.call ≡ open_control pid
  granted : All IsGranted (first ∷ begun)
  plain : is_follow now ≡ false
  goes : (ys : List Exchange) → GoesBeside o (traced_at u place) look now ys
      → GoesToRun o (newly_traced pid (handle_in first.reply)) OpenStatus (begun ++ ys)

abbrev Remembers : Options → TrussState → Option Look → List Exchange → Stage → Type 0
Remembers o u look xs (Opening place now) = IsUnderWay o u look place now xs
Remembers o u look xs _ = Unit {0}

remembers-none : (o : Options) (u : TrussState) (look : Option Look) (xs : List Exchange) (stage : Stage)
    → opens stage ≡ false → Remembers o u look xs stage
remembers-none o u look xs (Opening place now) none = absurd (false≢true (sym none))
remembers-none o u look xs _ none = tt

child-remembers : (o : Options) (u : TrussState) (look : Option Look) (xs : List Exchange) (stage : Stage)
    (parent place : ℕ) (now : _) → stage ≡ OpeningChild parent place now → Remembers o u look xs stage
child-remembers o u look xs stage parent place now is = subst (Remembers o u look xs) (sym is) tt

pub new-pid : (pid control : ℕ) → (newly_traced pid control).pid ≡ pid
unfolding newly_traced
new-pid pid control = refl

learnt-control : (v : Traced) (r : Reply) (now : OpeningStep) → (learnt v r now).control ≡ v.control
unfolding learnt
learnt-control v r opening.Stop = refl
learnt-control v r _ = refl

-- the stages at which an opening begins and goes on
abbrev opening_stage : Stage → Bool
opening_stage (OpeningControl pid) = true
opening_stage (Opening place now) = true
opening_stage _ = false

reads-apart : (stage : Stage) → reads_stop stage ≡ true → opening_stage stage ≡ true → ⊥
reads-apart (OpeningControl pid) reads opens = false≢true reads
reads-apart (Opening place now) reads opens = false≢true reads
reads-apart _ reads opens = false≢true opens

-- ---- one exchange more

module _ (o : Options) (has : has_functions o ≡ true) (off : o.follow ≡ false) (t : TrussState) (past : List Exchange)
    (x : Exchange) (fit : IsFit o t) (next : next_function_call_of t ≡ Some x.call) where
  abbrev u : TrussState
  u = ordinary t

  abbrev v : TrussState
  v = fed_functions t x.reply

  abbrev Under : ℕ → OpeningStep → Type 0
  Under place now = IsUnderWay o u (look_in t.aside) place now past

  abbrev Later : ℕ → OpeningStep → Type 0
  Later place now = IsUnderWay o (ordinary v) (look_in v.aside) place now (past ++ x ∷ [])

  staged : (stage : Stage) → t.stage ≡ stage → t.aside ≡ Nothing → function_call_of t stage ≡ Some x.call
  staged stage here idle = sym (next-staged o has t stage fit.options idle here) ∙ next

  beside : (aside : Aside) → t.aside ≡ aside → call_beside t t.stage aside ≡ Some x.call
  beside aside here = sym (next-beside o has t fit.options ∙ ap (call_beside t t.stage) here) ∙ next

  longer : (earlier begun : List Exchange) (first : Exchange) → past ≡ earlier ++ (first ∷ begun)
      → past ++ x ∷ [] ≡ earlier ++ (first ∷ (begun ++ x ∷ []))
  longer earlier begun first is =
      ap (λ (ys : List Exchange). ys ++ x ∷ []) is ∙ append_assoc earlier (first ∷ begun) (x ∷ [])

  -- the control file is open
  started : (pid : ℕ) → t.stage ≡ OpeningControl pid → t.aside ≡ Nothing → answer_of x.reply ≡ Accepted
      → ordinary v ≡ with_control u pid (handle_in x.reply) → Later (length u.traced) OpenStatus
  unfolding function_call_of call_of with_control
  started pid here idle accepted now =
      let new : Traced = newly_traced pid (handle_in x.reply) in
      let there : traced_at (ordinary v) (length u.traced) ≡ new =
      ap (λ (w : TrussState). traced_at w (length u.traced)) now
      ∙ get_or_push u.traced new nobody (length u.traced) refl in
      record {
        pid = pid;
        earlier = past;
        first = x;
        begun = [];
        is = refl;
        of = ap (λ (w : Traced). w.pid) there ∙ new-pid pid (handle_in x.reply);
        control = sym (same_Some _ x.call (staged (OpeningControl pid) here idle));
        granted = All-cons IsGranted x [] (accepted-granted x accepted) (All-nil IsGranted);
        plain = refl;
        goes = λ ys g. subst (λ w. GoesToRun o w OpenStatus ys) there g;
      }

  -- a step of the opening was done
  went-on : (place : ℕ) (now following : OpeningStep) → t.stage ≡ Opening place now → t.aside ≡ Nothing
      → answer_of x.reply ≡ Accepted → step_after o x.reply now ≡ Some following → place < length u.traced
      → ordinary v ≡ with_stage (with_traced u place (learnt (traced_at u place) x.reply now)) (Opening place following)
      → Under place now → Later place following
  went-on place now following here idle accepted comes within stepped w =
      let old : Traced = traced_at u place in
      let there : traced_at (ordinary v) place ≡ learnt old x.reply now =
      ap (λ (z : TrussState). traced_at z place) stepped
      ∙ set-at u.traced place (learnt old x.reply now) within in
      let other = after-other o x.reply now following comes in
      let is : following ≡ next_step x.reply now = after-next o off x.reply now following w.plain comes in
      let called : x.call ≡ step_call o old now =
      step-called o t x.call place now fit.options (staged (Opening place now) here idle) in
      record {
        pid = w.pid;
        earlier = w.earlier;
        first = w.first;
        begun = w.begun ++ x ∷ [];
        is = longer w.earlier w.begun w.first w.is;
        of = ap (λ (z : Traced). z.pid) there ∙ learnt-pid old x.reply now ∙ w.of;
        control = w.control;
        granted = All-push IsGranted (w.first ∷ w.begun) x w.granted (accepted-granted x accepted);
        plain = ap is_follow is ∙ next-plain x.reply now;
        goes = λ ys g.
            let first_look : following ≡ Start → look_in v.aside ≡ look_at o 0 = λ last. exits-look o has t x.reply
            fit.options accepted place
            (here ∙ ap (Opening place) (before-start x.reply now other w.plain (sym is ∙ last))) idle in
            let later : GoesToRun o (learnt old x.reply now) (next_step x.reply now) ys =
            subst (λ z. GoesToRun o z (next_step x.reply now) ys) there
            (subst (λ z. GoesToRun o (traced_at (ordinary v) place) z ys) is
            (beside-runs o (traced_at (ordinary v) place) (look_in v.aside) following ys first_look g)) in
            subst (GoesToRun o (newly_traced w.pid (handle_in w.first.reply)) OpenStatus)
            (sym (append_assoc w.begun (x ∷ []) ys))
            (w.goes (x ∷ ys)
            (runs-beside o old (look_in t.aside) now (x ∷ ys) other (step-runs o old now x ys other called later)));
      }

  -- a function was looked at before the last step
  looked-on : (place : ℕ) → answer_of x.reply ≡ Accepted → ordinary v ≡ u
      → ((ys : List Exchange) → LooksAndRuns o (traced_at u place).control (look_in v.aside) ys
      → LooksAndRuns o (traced_at u place).control (look_in t.aside) (x ∷ ys))
      → Under place Start → Later place Start
  looked-on place accepted stay looks w = record {
    pid = w.pid;
    earlier = w.earlier;
    first = w.first;
    begun = w.begun ++ x ∷ [];
    is = longer w.earlier w.begun w.first w.is;
    of = ap (λ (z : TrussState). (traced_at z place).pid) stay ∙ w.of;
    control = w.control;
    granted = All-push IsGranted (w.first ∷ w.begun) x w.granted (accepted-granted x accepted);
    plain = refl;
    goes = λ ys g.
        subst (GoesToRun o (newly_traced w.pid (handle_in w.first.reply)) OpenStatus)
        (sym (append_assoc w.begun (x ∷ []) ys))
        (w.goes (x ∷ ys)
        (looks ys
        (subst (λ (z : TrussState). LooksAndRuns o (traced_at z place).control (look_in v.aside) ys) stay g)));
  }

  -- the control file of a process, without what truss keeps of its breakpoints
  same-control : (place : ℕ) → (traced_at t place).control ≡ (traced_at u place).control
  same-control place = ap (λ (z : Traced). z.control) (sym (at-ordinary t place))

  looks-at : (place : ℕ) (aside : Aside) → t.aside ≡ aside → t.stage ≡ Opening place Start
      → FitsAside aside (Opening place Start) → is_beside aside ≡ true → answer_of x.reply ≡ Accepted
      → ordinary v ≡ u → Under place Start → Later place Start
  unfolding call_beside
  looks-at place Nothing is stage fits on accepted stay w = absurd (false≢true on)
  looks-at place (Reading there function) is stage fits on accepted stay w =
      let called : x.call ≡ read_code_call o (traced_at u place).control function =
      sym (same_Some _ x.call (beside (Reading there function) is))
      ∙ ap (λ p. read_code_call p (traced_at t there).control function) fit.options
      ∙ ap (λ p. read_code_call o (traced_at t p).control function) (sym fits)
      ∙ ap (λ c. read_code_call o c function) (same-control place) in
      looked-on place accepted stay
      (λ ys g.
      subst (λ (a : Aside). LooksAndRuns o (traced_at u place).control (look_in a) (x ∷ ys)) (sym is) (
        called,
        subst (λ l. LooksAndRuns o (traced_at u place).control l ys)
            (read-look o has t x.reply fit.options accepted there function is) g,
      )) w
  looks-at place (Planting there function) is stage fits on accepted stay w =
      let called : x.call ≡ plant_call o (traced_at u place).control function =
      sym (same_Some _ x.call (beside (Planting there function) is))
      ∙ ap (λ p. plant_call p (traced_at t there).control function) fit.options
      ∙ ap (λ p. plant_call o (traced_at t p).control function) (sym fits)
      ∙ ap (λ c. plant_call o c function) (same-control place) in
      looked-on place accepted stay
      (λ ys g.
      subst (λ (a : Aside). LooksAndRuns o (traced_at u place).control (look_in a) (x ∷ ys)) (sym is) (
        called,
        subst (λ l. LooksAndRuns o (traced_at u place).control l ys)
            (plant-look o has t x.reply fit.options accepted there function is) g,
      )) w
  looks-at place (Patching there plants lifts clear) is stage fits on accepted stay w = absurd fits.0
  looks-at place _ is stage fits on accepted stay w = absurd (clash fits)
    where
      clash : Opening place Start ≡ ReadingLwps → ⊥
      clash same_stage = cc

  -- Where nothing changes but what truss does beside, a function was looked at, or truss opens no process.
  stay-kept : (stage : Stage) → t.stage ≡ stage → is_beside t.aside ≡ true → PassesOver stage x.reply
      → ordinary v ≡ u → Remembers o u (look_in t.aside) past stage
      → Remembers o (ordinary v) (look_in v.aside) (past ++ x ∷ []) stage
  stay-kept (Opening place Start) here on over stay w =
      looks-at place t.aside refl here (subst (FitsAside t.aside) here fit.fits) on (granted-accepted x.reply over) stay
      w
  stay-kept (Opening place now) here on over stay w =
      let idle : t.aside ≡ Nothing =
      opening-free t.aside place now refl (subst (FitsAside t.aside) here fit.fits) in
      absurd (false≢true (sym (ap is_beside idle) ∙ on))
  stay-kept _ here on over stay w = tt

  -- Else a reply counts as this one: truss opens a control file, goes on with an opening, or opens no process then.
  module _ (r : Reply) (comes : ordinary v ≡ fed u r)
      (counts : opening_stage t.stage ≡ true → answer_of r ≡ Accepted → (t.aside ≡ Nothing) × (r ≡ x.reply))
      (fits : Fits u.traced u.stage) (w : Remembers o u (look_in t.aside) past t.stage) where
    abbrev Kept : Stage → Type 0
    Kept stage = Remembers o (ordinary v) (look_in v.aside) (past ++ x ∷ []) stage

    none-kept : opens (fed u r).stage ≡ false → Kept (ordinary v).stage
    none-kept none =
        remembers-none o (ordinary v) (look_in v.aside) (past ++ x ∷ []) (ordinary v).stage
        (ap (λ (z : TrussState). opens z.stage) comes ∙ none)

    opens-kept : (place : ℕ) → Opens u r place (fed u r) → Kept (ordinary v).stage
    unfolding with_control with_child_control
    opens-kept place (no none stay) = none-kept none
    opens-kept place (starts pid is accepted begun) =
        let c = counts (ap opening_stage is) accepted in
        let then : ordinary v ≡ with_control u pid (handle_in x.reply) =
        comes ∙ begun ∙ ap (λ q. with_control u pid (handle_in q)) c.1 in
        subst Kept (sym (ap (λ (z : TrussState). z.stage) then))
        (started pid is c.0 (ap answer_of (sym c.1) ∙ accepted) then)
    opens-kept place (goes now following is accepted after begun) =
        let c = counts (ap opening_stage is) accepted in
        let under : Under place now = subst (Remembers o u (look_in t.aside) past) is w in
        let within : Fits u.traced (Opening place now) = subst (Fits u.traced) is fits in
        let then : ordinary v
        ≡ with_stage (with_traced u place (learnt (traced_at u place) x.reply now)) (Opening place following) =
        comes ∙ begun
        ∙ ap (λ q. with_stage (with_traced u place (learnt (traced_at u place) q now)) (Opening place following)) c.1 in
        subst Kept (sym (ap (λ (z : TrussState). z.stage) then))
        (went-on place now following is c.0 (ap answer_of (sym c.1) ∙ accepted)
        (ap (λ p. step_after p x.reply now) (sym fit.options) ∙ ap (λ q. step_after t.options q now) (sym c.1) ∙ after)
        within.0 then under)
    opens-kept place (child_starts parent pid is accepted begun) =
        child-remembers o (ordinary v) (look_in v.aside) (past ++ x ∷ []) (ordinary v).stage parent _ _
        (ap (λ (z : TrussState). z.stage) (comes ∙ begun))
    opens-kept place (child_goes parent now following is accepted after begun) =
        child-remembers o (ordinary v) (look_in v.aside) (past ++ x ∷ []) (ordinary v).stage parent _ _
        (ap (λ (z : TrussState). z.stage) (comes ∙ begun))

    how-kept : How u r (fed u r) → Kept (ordinary v).stage
    how-kept (free places f begins) = none-kept f.opens
    how-kept (less place after is removed f) = none-kept f.opens
    how-kept (at place f) = opens-kept place f.opens

  step-kept : (k : ℕ) (s : TracedState) → Reaches k u s → Step t x.reply v
      → Remembers o u (look_in t.aside) past t.stage
      → Remembers o (ordinary v) (look_in v.aside) (past ++ x ∷ []) (ordinary v).stage
  step-kept k s g (stays on over stay) w =
      subst (Remembers o (ordinary v) (look_in v.aside) (past ++ x ∷ [])) (sym (ap (λ (z : TrussState). z.stage) stay))
      (stay-kept t.stage refl on over stay w)
  step-kept k s g (feeds idle none_own comes) w =
      let owns : Owns k u s = g.owns in
      let c = reached-comes k u s x.reply g in
      how-kept x.reply comes (λ opening_so accepted. (idle, refl)) owns.fits w c.how
  step-kept k s g (refuses errno on was may comes) w =
      let owns : Owns k u s = g.owns in
      let c = reached-comes k u s x.reply g in
      how-kept x.reply comes
      (λ opening_so accepted. absurd (false≢true (sym (refused-other x.reply errno was) ∙ ap accepts accepted)))
      owns.fits w c.how
  step-kept k s g (passes idle reads own comes) w =
      let owns : Owns k u s = g.owns in
      let c = reached-comes k u s (reply.Bytes []) g in
      how-kept (reply.Bytes []) comes (λ opening_so accepted. absurd (reads-apart t.stage reads opening_so)) owns.fits
      w c.how

-- ---- along a history

first-remembers : (o : Options) (u : TrussState) (look : Option Look) (xs : List Exchange)
    → Remembers o u look xs (first_truss o).stage
unfolding first_truss
first-remembers o u look xs = by o.program
  where
    pids : (p : Option ℕ) → Remembers o u look xs (opening_or (idle o) (idle o) p).stage
    pids None = tt
    pids (Some pid) = tt

    by : (p : Option (List ℕ)) → Remembers o u look xs (first_of_program o p).stage
    by None = pids (slice_get o.pids 0)
    by (Some program) = tt

module _ (n k : ℕ) (o : Options) (s : TracedState) where
  abbrev Run : List Entry → Type 0
  Run h = IsFunctionRun n k o s h

  abbrev RemembersOf : TrussState → List Exchange → Type 0
  RemembersOf t xs = Remembers o (ordinary t) (look_in t.aside) xs t.stage

  module _ (before later : List Entry) (e : Entry) (run : Run (before ++ e ∷ later)) where
    abbrev was : TrussState
    was = functions_at k o before

    abbrev behind : TrussState
    behind = functions_at k o (before ++ e ∷ [])

    follows_was : Follows k o was (state_after s before)
    follows_was = entries.follows n k o s before later e run

    pushed-own : (x : Option Exchange) → exchange_of k e ≡ x
        → exchanges k (before ++ e ∷ []) ≡ exchanges k before ++ cons_option x []
    pushed-own x own = exchanges-push k before e ∙ ap (λ y. exchanges k before ++ cons_option y []) own

    entry-kept : RemembersOf was (exchanges k before) → RemembersOf behind (exchanges k (before ++ e ∷ []))
    entry-kept w = by (exchange_of k e) refl
      where
        by : (x : Option Exchange) → exchange_of k e ≡ x → RemembersOf behind (exchanges k (before ++ e ∷ []))
        by None own =
            subst (λ xs. RemembersOf behind xs) (sym (pushed-own None own ∙ append-nil (exchanges k before)))
            (subst (λ (z : TrussState). RemembersOf z (exchanges k before))
            (sym (entries.unmoved n k o s before later e run own)) w)
        by (Some x) own =
            let made = entries.made n k o s before later e run x own in
            let calm = entries.calm n k o s before later e run x own in
            let row : Row was x.reply (fed_functions was x.reply) =
            own-row o run.has run.follows_none was x follows_was.fit made calm in
            subst (λ xs. RemembersOf behind xs) (sym (pushed-own (Some x) own))
            (subst (λ (z : TrussState). RemembersOf z (exchanges k before ++ x ∷ []))
            (sym (entries.pushed n k o s before later e run x own))
            (step-kept o run.has run.follows_none was (exchanges k before) x follows_was.fit made k
            (state_after s before) follows_was.reaches row.step w))

  remembered : (h : List Entry) → Run h → RemembersOf (functions_at k o h) (exchanges k h)
  remembered h run =
      along (λ es. RemembersOf (functions_at k o es) (exchanges k es))
      (subst (λ xs. RemembersOf (functions_after (first_truss o) xs) xs) (sym (no-exchanges k))
      (first-remembers o (ordinary (first_truss o)) (look_in (first_truss o).aside) []))
      h (λ before later e is w. entry-kept before later e (subst Run is run) w)

-- ---- the wait alone is interrupted

waits-step : (o : Options) (v : Traced) (now : OpeningStep) → may_wait (step_call o v now) ≡ true
    → (until : ℕ) × (now ≡ opening.AwaitStop until)
unfolding opening_call
waits-step o v (opening.AwaitStop until) waits_so = (until, refl)
waits-step o v opening.TraceSignals waits_so = absurd (false≢true waits_so)
waits-step o v opening.TraceFaults waits_so = absurd (false≢true waits_so)
waits-step o v opening.TraceEntries waits_so = absurd (false≢true waits_so)
waits-step o v opening.TraceExits waits_so = absurd (false≢true waits_so)
waits-step o v _ waits_so = absurd (false≢true waits_so)

-- ---- the hold begins

module _ (n k : ℕ) (o : Options) (pid : ℕ) (s : TracedState) (before later : List Entry) (e : Entry)
    (run : IsFunctionRun n k o s (before ++ e ∷ later)) where
  abbrev truss : TrussState
  truss = functions_at k o before

  abbrev plain : TrussState
  plain = ordinary truss

  abbrev now : TracedState
  now = state_after s before

  follows_truss : Follows k o truss now
  follows_truss = entries.follows n k o s before later e run

  module _ (x : Exchange) (own : exchange_of k e ≡ Some x) where
    made : next_function_call_of truss ≡ Some x.call
    made = entries.made n k o s before later e run x own

    staged-here : (stage : Stage) → truss.stage ≡ stage → truss.aside ≡ Nothing
        → function_call_of truss stage ≡ Some x.call
    staged-here stage here idle =
        let fit : IsFit o truss = follows_truss.fit in
        sym (next-staged o run.has truss stage fit.options idle here) ∙ made

    called-here : (place : ℕ) (step : OpeningStep) → truss.stage ≡ Opening place step → truss.aside ≡ Nothing
        → x.call ≡ step_call o (traced_at plain place) step
    called-here place step here idle =
        let fit : IsFit o truss = follows_truss.fit in
        step-called o truss x.call place step fit.options (staged-here (Opening place step) here idle)

    -- by the last call of a whole opening
    pub complete : (place : ℕ) → (traced_at plain place).pid ≡ pid → truss.stage ≡ Opening place Start
        → truss.aside ≡ Nothing → answer_of x.reply ≡ Accepted → GetsHoldWithFunctions k o pid before e
    unfolding opening_call
    complete place of here idle accepted =
        let front : IsFunctionRun n k o s before = entries.front-run n k o s before (e ∷ later) run in
        let w : IsUnderWay o plain (look_in truss.aside) place Start (exchanges k before) =
        subst (Remembers o plain (look_in truss.aside) (exchanges k before)) here (remembered n k o s before front) in
        let called : x.call ≡ message_call (traced_at plain place).control (message.Run 0) =
        called-here place Start here idle in
        let runs_so : LooksAndRuns o (traced_at plain place).control (look_in truss.aside) (x ∷ []) =
        subst (λ (a : Aside). LooksAndRuns o (traced_at plain place).control (look_in a) (x ∷ [])) (sym idle)
        (called, refl) in
        let done =
        whole o w.pid w.first (w.begun ++ x ∷ []) w.control
        (All-push IsGranted (w.first ∷ w.begun) x w.granted (accepted-granted x accepted))
        (w.goes (x ∷ []) runs_so) in
        record {
          last = x;
          own = own;
          earlier = w.earlier;
          opening = w.first ∷ (w.begun ++ x ∷ []);
          is =
              exchanges-push k before e ∙ ap (λ y. exchanges k before ++ cons_option y []) own
              ∙ ap (λ (ys : List Exchange). ys ++ x ∷ []) w.is
              ∙ append_assoc w.earlier (w.first ∷ w.begun) (x ∷ []);
          whole = subst (λ p. IsWholeFunctionOpening o p (w.first ∷ (w.begun ++ x ∷ []))) (sym w.of ∙ of) done;
        }

  module _ (off : watches (functions_at k o before) pid ≡ false)
      (on : watches (functions_at k o (before ++ e ∷ [])) pid ≡ true) where
    reached : Reaches k plain now
    reached = follows_truss.reaches

    off-before : watches plain pid ≡ false
    off-before = watches-ordinary truss pid ∙ off

    module _ (x : Exchange) (own : exchange_of k e ≡ Some x) where
      abbrev later_truss : TrussState
      later_truss = fed_functions truss x.reply

      calm : IsCalm x
      calm = entries.calm n k o s before later e run x own

      on-behind : watches (ordinary later_truss) pid ≡ true
      on-behind =
          watches-ordinary later_truss pid
          ∙ ap (λ z. watches z pid) (sym (entries.pushed n k o s before later e run x own)) ∙ on

      -- the opening is over with this reply
      begun-with : (r : Reply) → ordinary later_truss ≡ fed plain r
          → (place : ℕ)
          × (((traced_at plain place).pid ≡ pid) × (((traced_at plain place).attached ≡ true) × Begins plain r place))
      begun-with r comes =
          let g = reached in
          let files : HasFiles k plain now = g.files in
          let owns : Owns k plain now = g.owns in
          let w = watched-place (fed plain r) pid (ap (λ z. watches z pid) (sym comes) ∙ on-behind) in
          let c = reached-comes k plain now r g in
          elim (watched-before plain r (fed plain r) pid w.0 w.1 owns.fits c.how) [
            | inl was ↦ absurd (false≢true (sym off-before ∙ place-watched plain pid was.0 files.one was.1))
            | inr b ↦ (w.0, (b.of, (b.attached, b.begins)))
          ]

      -- truss follows no children
      childless : (parent place : ℕ) (step : _) → truss.stage ≡ OpeningChild parent place step → ⊥
      childless parent place step is =
          subst (Going (exchanges k before)) is (entries.going n k o s before later e run)

      not-interrupted : (place : ℕ) (step : OpeningStep) → truss.stage ≡ Opening place step → truss.aside ≡ Nothing
          → (traced_at plain place).attached ≡ true → answer_of x.reply ≡ Interrupted → ⊥
      unfolding IsAnswer
      not-interrupted place step here idle attached answer =
          let g = reached in
          let files : HasFiles k plain now = g.files in
          let refused_so : x.reply ≡ reply.Fail Intr = subst (IsAnswer x.reply) answer (answer-is x.reply) in
          let c : IsCalm x = calm in
          let waited =
          waits-step o (traced_at plain place) step
          (ap may_wait (sym (called-here x own place step here idle)) ∙ c.waits refused_so) in
          let stands =
          standing k plain now (Opening place (opening.AwaitStop waited.0)) files
          (here ∙ ap (Opening place) waited.1) in
          let memory = stands.at in
          let fresh = memory.fresh in
          false≢true (sym fresh.free ∙ attached)

      begins-by : (place : ℕ) → (traced_at plain place).pid ≡ pid → (traced_at plain place).attached ≡ true
          → truss.aside ≡ Nothing → Begins plain x.reply place → GetsHoldWithFunctions k o pid before e
      begins-by place of attached idle (opened is accepted) = complete x own place of is idle accepted
      begins-by place of attached idle (followed parent is lives) = absurd (childless parent place _ is)
      begins-by place of attached idle (interrupted step is answer) =
          absurd (not-interrupted place step is idle attached answer)
      begins-by place of attached idle (child_interrupted parent step is answer) =
          absurd (childless parent place step is)

      -- a refusal ends no opening, and a read of a stop is none
      refused-not : (place : ℕ) (errno : Errno) → Refuses x.reply errno → Begins plain x.reply place → ⊥
      unfolding IsAnswer
      refused-not place errno was (opened is accepted) =
          false≢true (sym (refused-other x.reply errno was) ∙ ap accepts accepted)
      refused-not place errno was (followed parent is lives) = childless parent place _ is
      refused-not place errno was (interrupted step is answer) =
          let broken : x.reply ≡ reply.Fail Intr = subst (IsAnswer x.reply) answer (answer-is x.reply) in
          was.not_interrupted (same-errno errno Intr (sym was.is ∙ broken))
        where
          same-errno : (a b : Errno) → reply.Fail a ≡ reply.Fail b → a ≡ b
          same-errno a b is_so = cc
      refused-not place errno was (child_interrupted parent step is answer) = childless parent place step is

      read-not : (r : Reply) (place : ℕ) → reads_stop truss.stage ≡ true → Begins plain r place → ⊥
      read-not r place reads (opened is accepted) = reads-apart truss.stage reads (ap opening_stage is)
      read-not r place reads (followed parent is lives) = childless parent place _ is
      read-not r place reads (interrupted step is answer) = reads-apart truss.stage reads (ap opening_stage is)
      read-not r place reads (child_interrupted parent step is answer) = childless parent place step is

      gets-by : Step truss x.reply later_truss → GetsHoldWithFunctions k o pid before e
      gets-by (stays beside over stay) =
          absurd (false≢true (sym off-before ∙ ap (λ z. watches z pid) (sym stay) ∙ on-behind))
      gets-by (feeds idle none_own comes) =
          let b = begun-with x.reply comes in begins-by b.0 b.1.0 b.1.1.0 idle b.1.1.1
      gets-by (refuses errno beside was may comes) =
          let b = begun-with x.reply comes in absurd (refused-not b.0 errno was b.1.1.1)
      gets-by (passes idle reads own_fault_read comes) =
          let b = begun-with (reply.Bytes []) comes in absurd (read-not (reply.Bytes []) b.0 reads b.1.1.1)

      gets : GetsHoldWithFunctions k o pid before e
      gets =
          let row : Row truss x.reply later_truss =
          own-row o run.has run.follows_none truss x follows_truss.fit (made x own) calm in
          gets-by row.step

    -- Where truss begins to watch a process it gets hold of it.
    pub begins-gets : GetsHoldWithFunctions k o pid before e
    begins-gets = by (exchange_of k e) refl
      where
        by : (x : Option Exchange) → exchange_of k e ≡ x → GetsHoldWithFunctions k o pid before e
        by None own =
            absurd
            (false≢true (sym off ∙ ap (λ z. watches z pid) (sym (entries.unmoved n k o s before later e run own)) ∙ on))
        by (Some x) own = gets x own
