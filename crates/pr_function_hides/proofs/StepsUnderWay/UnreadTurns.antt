use Rattle.std.proofs.Common.{◌≡◌, ◌<◌, ◌++◌, ℕ, true, Option, Some, List, [], ◌∷◌, length, append_assoc, refl, sym, subst, ap, ◌∙◌, inl, inr}
use Rattle.std.proofs.lemmas.Bool.{cases_eq, eqb-true}
use Rattle.std.proofs.lemmas.List.Elements.{All-head}
use Rattle.std.proofs.lemmas.Option.{same_Some}
use Rattle.std.specs.List.{All, cons_option}
use Rattle.pr_line.specs.declared.options.Options.{Options}
use Rattle.pr_model.specs.Handles.{handle_of}
use Rattle.pr_model.specs.Legal.{after, state_after}
use Rattle.pr_model.specs.State.{TracedProcess, TracedState, live_process}
use Rattle.pr_model.specs.declared.calls.Call.TheVariants as call
use Rattle.pr_model.specs.declared.events.Entry.{Entry}
use Rattle.pr_model.specs.declared.events.Turned.{Turned}
use Rattle.pr_model.specs.declared.handles.Held.{Held}
use Rattle.pr_report_laws.proofs.Files.WatchHistories.{cons-exchanges, exchanges-both, exchanges-push}
use Rattle.pr_report_laws.proofs.SeenChildren.Splits.{Compares, ahead, behind, compare, same, state_after-both}
use Rattle.pr_report_laws.proofs.Watching.HistoryParts.{all-front, all-rest}
use Rattle.pr_truss.specs.Asides.{marks_at}
use Rattle.pr_truss.specs.FunctionEvents.{step_of}
use Rattle.pr_truss.specs.NextCalls.{read_record}
use Rattle.pr_truss.specs.Trusses.{TrussState, traced_at}
use Rattle.pr_truss.specs.declared.marks.Stepped.{Stepped}
use Rattle.pr_truss.specs.declared.reports.Report.{Report}
use Rattle.pr_truss_laws.proofs.Machine.HaltLemmas.{HaltsOn}
use Rattle.pr_truss_laws.specs.Exchanges.{Exchange, exchange_of, exchanges}
use Rattle.pr_function_laws.proofs.CallTurns.BegunSteps.{WasBegun}
use Rattle.pr_function_laws.proofs.Marks.KeptPlaces.{apart-at}
use Rattle.pr_function_laws.proofs.CallTurns.OwnSteps.{quiet-both, steps-read}
use Rattle.pr_function_laws.proofs.CallTurns.ToldLaws.{tells-turns}
use Rattle.pr_function_laws.proofs.CallTurns.TurnLemmas.{reads-none}
use Rattle.pr_function_laws.proofs.CallTurns.TurnWalks.{AreNoReads}
use Rattle.pr_function_laws.specs.Calls.{call_told}
use Rattle.pr_function_laws.specs.FunctionTurns.{is_call_of}
use Rattle.pr_function_laws.specs.Lifted.{IsNoRead, ReadsOnlyLast}
use Rattle.pr_function_laws.specs.ReachedRuns.{IsReachedFunctionRun}
use Rattle.pr_function_laws.specs.Opened.{WasNotInterrupted, functions_at}
use Rattle.pr_function_laws.specs.ToldTurns.{AreSteppable, HasStep}
use Rattle.pr_function_laws.specs.Turns.{EndsInTrap}
use Rattle.pr_function_hides.proofs.StepsUnderWay.CallLists.{all-quiet}
use Rattle.pr_function_hides.proofs.StepsUnderWay.TrapStops.{AtTrap}
use Rattle.pr_function_hides.proofs.StepsUnderWay.TrapTurns.{BreakpointsHold, begun, its-turn, own-lwp, turn_entry}
use Rattle.pr_function_hides.proofs.StepsUnderWay.UnderWay.{apart-here, goes-behind, its-lwp, marks-say, ns, ns-is, trap-now}

-- The turn of a step that truss has not read yet: there is one at most, and a call that a read tells is of such a turn.

module _ (n k : ℕ) (o : Options) (s : TracedState) (h : List Entry) (run : IsReachedFunctionRun n k o s h)
    (able : AreSteppable o) (facts : BreakpointsHold k o s h)
    (all_calm : All WasNotInterrupted (exchanges k h)) (pid : ℕ) where
  abbrev T : List Entry → TrussState
  T front = functions_at k o front

  abbrev S : List Entry → TracedState
  S front = state_after s front

  pub calm-front : (front later : List Entry) → h ≡ front ++ later → All WasNotInterrupted (exchanges k front)
  calm-front front later is =
      all-front WasNotInterrupted (exchanges k front) (exchanges k later)
      (subst (All WasNotInterrupted) (ap (exchanges k) is ∙ exchanges-both k front later) all_calm)

  -- truss has one record of a process at most
  pub one-place : (front later : List Entry) → h ≡ front ++ later → (i j : ℕ) → i < length (T front).traced
      → j < length (T front).traced → (traced_at (T front) i).pid ≡ (traced_at (T front) j).pid → i ≡ j
  one-place front later is i j within inside own = elim (cases_eq i j) [
    | inl one ↦ one
    | inr other ↦ absurd
        (apart-at (T front).traced i j within inside other
        (apart-here n k o s h run.of front later is (calm-front front later is)) own)
  ]

  -- Among these entries is the turn of a step, and behind it truss has not read the status of the process.
  pub record Unread (f : List Entry) : Type 0 where
    pub front : List Entry
    pub id : ℕ
    pub turned : Turned
    pub mid : List Entry
    pub is : f ≡ front ++ turn_entry pid id turned ∷ mid
    pub place : ℕ
    pub step : Stepped
    pub under : HasStep k o front place step
    pub own : (traced_at (T front) place).pid ≡ pid
    pub trapped : EndsInTrap turned
    pub number : ℕ
    pub file : (traced_at (T front) place).status ≡ Some number
    pub quiet : All (IsNoRead number) (exchanges k mid)

  pub parted : (f later : List Entry) → h ≡ f ++ later → (a : Unread f)
      → h ≡ a.front ++ turn_entry pid a.id a.turned ∷ (a.mid ++ later)
  parted f later is a =
      is ∙ ap (λ es. es ++ later) a.is
      ∙ append_assoc a.front (turn_entry pid a.id a.turned ∷ a.mid) later

  -- ---- its step goes on

  -- The step is under way still, as the marks of the process say.
  pub record StillUnder (f : List Entry) (step : Stepped) : Type 0 where
    pub place : ℕ
    pub own : (traced_at (T f) place).pid ≡ pid
    pub under : HasStep k o f place step
    pub new : (traced_at (T f) place).old ≡ 0

  module _ (f later : List Entry) (is : h ≡ f ++ later) (a : Unread f) where
    abbrev one : Entry
    one = turn_entry pid a.id a.turned

    abbrev number1 : ℕ
    number1 = (traced_at (T a.front) a.place).pid

    abbrev status1 : Option ℕ
    status1 = (traced_at (T a.front) a.place).status

    begun-first : WasBegun k o a.front number1 status1 a.step
    begun-first =
        let u = a.under in
        begun n k o s h run able facts a.front (a.mid ++ later) pid a.id a.turned (parted f later is a)
        u.calm a.place a.step a.under a.own a.trapped

    begun-still : WasBegun k o f number1 status1 a.step
    begun-still =
        let b = begun-first in
        record {
          before = b.before;
          e = b.e;
          between = b.between ++ one ∷ a.mid;
          is = a.is ∙ ap (λ es. es ++ one ∷ a.mid) b.is ∙ append_assoc b.before (b.e ∷ b.between) (one ∷ a.mid);
          place = b.place;
          x = b.x;
          own = b.own;
          meets = b.meets;
          its_pid = b.its_pid;
          its_status = b.its_status;
          its_step = b.its_step;
          quiet = λ m there.
              subst (AreNoReads m)
              (sym (exchanges-both k b.between (one ∷ a.mid)
              ∙ ap (λ xs. exchanges k b.between ++ xs) (cons-exchanges k one a.mid)))
              (quiet-both m (exchanges k b.between) (exchanges k a.mid) (b.quiet m there)
              (subst (λ i. All (IsNoRead i) (exchanges k a.mid))
              (same_Some a.number m (sym (b.its_status a.number a.file) ∙ there)) a.quiet));
        }

    pub its-own-lwp : a.id ≡ (let step = a.step in step.lwp)
    its-own-lwp =
        let u = a.under in
        own-lwp n k o s h run able facts a.front (a.mid ++ later) pid a.id a.turned (parted f later is a)
        u.calm a.place a.step a.under a.own a.trapped

    pub still-under : (p : TracedProcess) → live_process (S f).system pid ≡ Some p → StillUnder f a.step
    still-under p live =
        let u =
        marks-say n k o s h run able f later is (calm-front f later is) number1 status1 a.step begun-still
        p
        (ap (live_process (S f).system) a.own ∙ live) in
        record { place = u.place; own = u.own ∙ a.own; under = u.under; new = u.new }

    -- its lwp stands at the trace trap
    pub trap-still : (p : TracedProcess) → live_process (S f).system pid ≡ Some p
        → AtTrap (let step = a.step in step.lwp) p
    unfolding begun-still
    trap-still p live =
        let b = begun-first in
        let its =
        its-lwp n k o s h run able f later is (calm-front f later is) number1 status1 a.step
        begun-still in
        trap-now n k o s h run able f later is (calm-front f later is) number1 status1 a.step
        begun-still b.between a.mid a.turned
        (ap (λ i. b.between ++ turn_entry i a.id a.turned ∷ a.mid) (sym (b.its_pid ∙ a.own))
        ∙ ap (λ i. b.between ++ turn_entry (let x = begun-first in (traced_at (T x.before) x.place).pid) i a.turned
        ∷ a.mid) (its-own-lwp ∙ sym its))
        p (ap (live_process (S f).system) a.own ∙ live) a.trapped

    -- One entry more: the process halts so still, or SIGKILL ends it there; and where truss reads a file of it there,
    -- that is the read of its status.
    pub record OneMore (e : Entry) (p : TracedProcess) : Type 0 where
      pub halts : HaltsOn pid p (after (S f) e).system
      pub reads : (x : Exchange) → exchange_of k e ≡ Some x → (handle from len : ℕ) (file : Held)
          → x.call ≡ call.Read handle from len → handle_of (S f).opens k handle ≡ Some file → file.pid ≡ pid
          → x.call ≡ read_record (Some a.number)

    pub one-more : (e : Entry) (more : List Entry) → later ≡ e ∷ more → (p : TracedProcess)
        → live_process (S f).system pid ≡ Some p → OneMore e p
    unfolding begun-still
    one-more e more next_is p live =
        let b = begun-first in
        let its =
        its-lwp n k o s h run able f later is (calm-front f later is) number1 status1 a.step
        begun-still in
        let w =
        goes-behind n k o s h run able f later is (calm-front f later is) number1 status1 a.step
        begun-still b.between a.mid a.turned
        (ap (λ i. b.between ++ turn_entry i a.id a.turned ∷ a.mid) (sym (b.its_pid ∙ a.own))
        ∙ ap (λ i. b.between ++ turn_entry (let x = begun-first in (traced_at (T x.before) x.place).pid) i a.turned
        ∷ a.mid) (its-own-lwp ∙ sym its))
        p (ap (live_process (S f).system) a.own ∙ live) e more next_is in
        record {
          halts = subst (λ i. HaltsOn i p (after (S f) e).system) a.own w.halts;
          reads = λ x own handle from len file read there of.
              w.reads x own handle from len file read there (of ∙ sym a.own)
              ∙ ap (λ i. read_record (Some i))
              (same_Some _ a.number
              (sym (ns-is n k o s h run able f later is (calm-front f later is) number1 status1 a.step
              begun-still)
              ∙ b.its_status a.number a.file));
        }

  -- ---- no other turn

  module _ (f later : List Entry) (a : Unread f) (id2 : ℕ) (turned2 : Turned)
      (is : h ≡ f ++ turn_entry pid id2 turned2 ∷ later) (place : ℕ) (step : Stepped) (under : HasStep k o f place step)
      (own : (traced_at (T f) place).pid ≡ pid) (trap : EndsInTrap turned2) where
    abbrev two : Entry
    two = turn_entry pid id2 turned2

    abbrev number2 : ℕ
    number2 = (traced_at (T a.front) a.place).pid

    first-is : h ≡ a.front ++ turn_entry pid a.id a.turned ∷ (a.mid ++ two ∷ later)
    first-is = parted f (two ∷ later) is a

    same-step : step ≡ a.step
    same-step =
        let x = its-turn n k o s h run able facts f later pid id2 turned2 is
        (calm-front f (two ∷ later) is) in
        let u = still-under f (two ∷ later) is a x.process x.live in
        let its = u.under in
        let at : place ≡ u.place =
        one-place f (two ∷ later) is place u.place under.within its.within (own ∙ sym u.own) in
        same_Some step a.step
        (sym under.under_way ∙ ap (λ i. (marks_at (T f) i).stepped) at ∙ its.under_way)

    same-lwp : id2 ≡ a.id
    same-lwp =
        own-lwp n k o s h run able facts f later pid id2 turned2 is (calm-front f (two ∷ later) is) place
        step under own trap
        ∙ ap (λ (x : Stepped). x.lwp) same-step ∙ sym (its-own-lwp f (two ∷ later) is a)

    pub no-more : ⊥
    no-more =
        let all = steps-read n k o s h run able in
        all.once a.front a.mid later a.place a.id a.step a.turned turned2
        (first-is
        ∙ ap (λ i. a.front ++ turn_entry i a.id a.turned ∷ (a.mid ++ turn_entry i id2 turned2 ∷ later)) (sym a.own)
        ∙ ap (λ i. a.front ++ turn_entry number2 a.id a.turned ∷ (a.mid ++ turn_entry number2 i turned2 ∷ later))
        same-lwp)
        a.under (its-own-lwp f (two ∷ later) is a)
        (λ status there.
        subst (λ i. All (IsNoRead i) (exchanges k a.mid)) (same_Some a.number status (sym a.file ∙ there)) a.quiet)

  -- so there is one such turn alone
  later-of : (f later : List Entry) → h ≡ f ++ later → (a b : Unread f) → (between : List Entry)
      → b.front ≡ a.front ++ turn_entry pid a.id a.turned ∷ between
      → a.mid ≡ between ++ turn_entry pid b.id b.turned ∷ b.mid → ⊥
  later-of f later is a b between first second =
      no-more b.front (b.mid ++ later)
      (record {
        front = a.front;
        id = a.id;
        turned = a.turned;
        mid = between;
        is = first;
        place = a.place;
        step = a.step;
        under = a.under;
        own = a.own;
        trapped = a.trapped;
        number = a.number;
        file = a.file;
        quiet =
            all-front (IsNoRead a.number) (exchanges k between) (exchanges k (turn_entry pid b.id b.turned ∷ b.mid))
            (subst (All (IsNoRead a.number))
            (ap (exchanges k) second ∙ exchanges-both k between (turn_entry pid b.id b.turned ∷ b.mid)) a.quiet);
      })
      b.id b.turned (parted f later is b) b.place b.step b.under b.own b.trapped

  same-front : (f later : List Entry) → h ≡ f ++ later → (a b : Unread f) → a.front ≡ b.front
  same-front f later is a b =
      by (compare a.front b.front (turn_entry pid a.id a.turned) (turn_entry pid b.id b.turned) a.mid b.mid
      (sym a.is ∙ b.is))
    where
      by : Compares a.front (turn_entry pid a.id a.turned) a.mid b.front (turn_entry pid b.id b.turned) b.mid
          → a.front ≡ b.front
      by (same one two three) = one
      by (behind between first second) = absurd (later-of f later is b a between first second)
      by (ahead between first second) = absurd (later-of f later is a b between first second)

  pub same-number : (f later : List Entry) → h ≡ f ++ later → (a b : Unread f) → a.number ≡ b.number
  same-number f later is a b =
      let same_fronts = same-front f later is a b in
      let u = a.under in
      let v = b.under in
      let at : a.place ≡ b.place =
      one-place b.front (turn_entry pid b.id b.turned ∷ (b.mid ++ later)) (parted f later is b) a.place b.place
      (subst (λ es. a.place < length (T es).traced) same_fronts u.within) v.within
      (ap (λ es. (traced_at (T es) a.place).pid) (sym same_fronts) ∙ a.own ∙ sym b.own) in
      same_Some a.number b.number
      (sym a.file ∙ ap (λ es. (traced_at (T es) a.place).status) same_fronts
      ∙ ap (λ i. (traced_at (T b.front) i).status) at ∙ b.file)

  -- ---- with one entry more

  pub data Where (f : List Entry) (e : Entry) : Type 0 where
    before : (b : Unread f) → ((x : Exchange) → exchange_of k e ≡ Some x → IsNoRead b.number x) → Where f e
    here : (a : Unread (f ++ e ∷ [])) → f ≡ a.front → e ≡ turn_entry pid a.id a.turned → Where f e

  none-more : (xs ys : List Entry) (y : Entry) → [] ≡ xs ++ y ∷ ys → ⊥
  none-more [] ys y is = cc
  none-more (x ∷ xs) ys y is = cc

  pub where-is : (f : List Entry) (e : Entry) → Unread (f ++ e ∷ []) → Where f e
  where-is f e a =
      by (compare f a.front e (turn_entry pid a.id a.turned) [] a.mid a.is)
    where
      by : Compares f e [] a.front (turn_entry pid a.id a.turned) a.mid → Where f e
      by (same one two three) = here a one two
      by (ahead between first second) = absurd (none-more between a.mid _ second)
      by (behind between first second) =
          let all : All (IsNoRead a.number) (exchanges k between ++ cons_option (exchange_of k e) []) =
          subst (All (IsNoRead a.number)) (ap (exchanges k) second ∙ exchanges-push k between e) a.quiet in
          before
          (record {
            front = a.front;
            id = a.id;
            turned = a.turned;
            mid = between;
            is = first;
            place = a.place;
            step = a.step;
            under = a.under;
            own = a.own;
            trapped = a.trapped;
            number = a.number;
            file = a.file;
            quiet = all-front (IsNoRead a.number) (exchanges k between) (cons_option (exchange_of k e) []) all;
          })
          (λ x own.
          All-head (IsNoRead a.number) x []
          (subst (λ y. All (IsNoRead a.number) (cons_option y [])) own
          (all-rest (IsNoRead a.number) (exchanges k between) (cons_option (exchange_of k e) []) all)))

  -- ---- a call that is told

  -- A read tells a call of a turn that was unread, and the process lives then.
  pub record TellsUnread (f : List Entry) (x : Exchange) : Type 0 where
    pub its : Unread f
    pub reads : x.call ≡ read_record (Some its.number)
    pub process : TracedProcess
    pub live : live_process (S f).system pid ≡ Some process

  module _ (f : List Entry) (e : Entry) (later : List Entry) (is : h ≡ f ++ e ∷ later) (x : Exchange)
      (own : exchange_of k e ≡ Some x) (report : Report) (told : call_told (T f) x.reply ≡ report ∷ [])
      (its : is_call_of pid report ≡ true) where
    pub told-unread : TellsUnread f x
    told-unread =
        let all = tells-turns n k o s h run able in
        let w = all.each f later e x report is own (calm-front f (e ∷ later) is) told in
        let r = w.reads in
        let turn = w.turn in
        let c = turn.completes in
        let once = turn.one in
        let b0 = r.breakpoint in
        let m = b0.meets in
        let number : ℕ = (traced_at (T w.before) w.place).pid in
        let own_pid : number ≡ pid = eqb-true number pid (ap (is_call_of pid) (sym w.call) ∙ its) in
        let g : List Entry = w.before ++ w.e ∷ turn.before in
        let one : Entry = turn_entry pid w.id turn.turned in
        let f_is : f ≡ g ++ one ∷ turn.later =
        w.front_is ∙ ap (λ es. w.before ++ w.e ∷ es) once.is
        ∙ sym (append_assoc w.before (w.e ∷ turn.before) (turn_entry number w.id turn.turned ∷ turn.later))
        ∙ ap (λ i. g ++ turn_entry i w.id turn.turned ∷ turn.later) own_pid in
        let h_is : h ≡ g ++ one ∷ (turn.later ++ e ∷ later) =
        is ∙ ap (λ es. es ++ e ∷ later) f_is ∙ append_assoc g (one ∷ turn.later) (e ∷ later) in
        let calm = calm-front g (one ∷ (turn.later ++ e ∷ later)) h_is in
        let quiet : (i : ℕ) → (traced_at (T w.before) w.place).status ≡ Some i
        → AreNoReads i (exchanges k turn.before ++ exchanges k turn.later) =
        λ i there.
        subst (AreNoReads i)
        (ap (exchanges k) once.is
        ∙ exchanges-both k turn.before (turn_entry number w.id turn.turned ∷ turn.later)
        ∙ ap (λ xs. exchanges k turn.before ++ xs)
        (cons-exchanges k (turn_entry number w.id turn.turned) turn.later))
        (reads-none i (exchanges k w.between) x
        (subst (ReadsOnlyLast i)
        (exchanges-push k w.between e ∙ ap (λ y. exchanges k w.between ++ cons_option y []) own)
        (b0.reads_last i there))) in
        let b : WasBegun k o g number (traced_at (T w.before) w.place).status (step_of m.l m.function) =
        record {
          before = w.before;
          e = w.e;
          between = turn.before;
          is = refl;
          place = w.place;
          x = b0.x;
          own = b0.own;
          meets = m;
          its_pid = refl;
          its_status = λ i there. there;
          its_step = refl;
          quiet = λ i there. quiet-front i (exchanges k turn.before) (exchanges k turn.later) (quiet i there);
        } in
        let y =
        its-turn n k o s h run able facts g (turn.later ++ e ∷ later) pid w.id turn.turned h_is calm in
        let u =
        marks-say n k o s h run able g (one ∷ (turn.later ++ e ∷ later)) h_is calm number
        (traced_at (T w.before) w.place).status (step_of m.l m.function) b y.process
        (ap (live_process (S g).system) own_pid ∙ y.live) in
        let file : ℕ =
        ns n k o s h run able g (one ∷ (turn.later ++ e ∷ later)) h_is calm number
        (traced_at (T w.before) w.place).status (step_of m.l m.function) b in
        let file_is : (traced_at (T w.before) w.place).status ≡ Some file =
        ns-is n k o s h run able g (one ∷ (turn.later ++ e ∷ later)) h_is calm number
        (traced_at (T w.before) w.place).status (step_of m.l m.function) b in
        record {
          its = record {
            front = g;
            id = w.id;
            turned = turn.turned;
            mid = turn.later;
            is = f_is;
            place = u.place;
            step = step_of m.l m.function;
            under = u.under;
            own = u.own ∙ own_pid;
            trapped = c.trapped;
            number = file;
            file = u.file ∙ file_is;
            quiet =
                all-quiet file (exchanges k turn.later)
                (quiet-rest file (exchanges k turn.before) (exchanges k turn.later) (quiet file file_is));
          };
          reads =
              ap (λ (z : Exchange). z.call) (same_Some x r.y (sym own ∙ r.own)) ∙ r.reads ∙ ap read_record file_is;
          process = r.process;
          live =
              ap (λ i. live_process (S f).system i) (sym own_pid)
              ∙ ap (λ (v : TracedState). live_process v.system number)
              (ap (state_after s) w.front_is ∙ state_after-both s w.before (w.e ∷ w.between))
              ∙ r.live;
        }
      where
        quiet-front : (i : ℕ) (xs ys : List Exchange) → AreNoReads i (xs ++ ys) → AreNoReads i xs
        quiet-front i [] ys quiet = tt
        quiet-front i (z ∷ xs) ys quiet = (quiet.0, quiet-front i xs ys quiet.1)

        quiet-rest : (i : ℕ) (xs ys : List Exchange) → AreNoReads i (xs ++ ys) → AreNoReads i ys
        quiet-rest i [] ys quiet = quiet
        quiet-rest i (z ∷ xs) ys quiet = quiet-rest i xs ys quiet.1
