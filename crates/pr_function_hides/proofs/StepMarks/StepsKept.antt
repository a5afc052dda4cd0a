use Rattle.std.proofs.Common.{◌≡◌, ◌≢◌, ◌⊎◌, ◌<◌, ◌||◌, ◌++◌, ℕ, Bool, true, false, cond, Some, None, Result, Ok, List}
use Rattle.std.proofs.Common.{[], ◌∷◌, All, length, refl, sym, subst, ap, ◌∙◌, inl, inr}
use Rattle.std.proofs.lemmas.Bool.{false≢true, ne_eqb}
use Rattle.std.proofs.lemmas.List.Elements.{All-head, All-tail}
use Rattle.std.specs.Bool.{IsTrue}
use Rattle.std.specs.List.{slice_get}
use Rattle.pr_api.specs.Entries.{call_entry}
use Rattle.pr_function_hides.proofs.Files.CallFacts.{controllers-push, same-truss}
use Rattle.pr_function_hides.proofs.Replies.ClosingStages.{stage-stays}
use Rattle.pr_function_hides.proofs.Replies.ClosingWalk.{ClosesSo, StageSo, is_quiet}
use Rattle.pr_function_hides.proofs.Replies.OwnFiles.{GoesOn, HasItsFiles}
use Rattle.pr_function_hides.proofs.StepMarks.ReleasedMarks.{HasRelease, kept-release}
use Rattle.pr_function_hides.proofs.StepMarks.SteplessCalls.{other-stepless}
use Rattle.pr_function_hides.proofs.Tidy.TidyCalls as Calls
use Rattle.pr_function_hides.proofs.Tidy.TidyEntries.{its-lawful, its-legal, now-is}
use Rattle.pr_function_hides.proofs.Tidy.TidyKept.{Holder, Kept as TidyKept, Truss, has-files, stays-on}
use Rattle.pr_function_hides.proofs.Tidy.TidyLaw.{kept-at}
use Rattle.pr_function_hides.specs.RunsOfTrusses.{IsRunOfTrusses}
use Rattle.pr_function_hides.specs.TidyWrites.{IsTrussAfter}
use Rattle.pr_function_laws.proofs.Stepping.BreakpointLemmas.{IsForeign, foreign-entry}
use Rattle.pr_function_laws.proofs.Marks.KeptPlaces.{IsLasting, Kept, Position, closes, kept-weaker, looks, opens, planted_as}
use Rattle.pr_function_laws.proofs.Marks.KeptPlaces.{rests, runs, to_read}
use Rattle.pr_function_laws.proofs.Pending.KnownFiles.{Knows}
use Rattle.pr_function_laws.proofs.OpenedProcesses.OpenedLaws.{foreign-sets}
use Rattle.pr_function_laws.proofs.OpenedProcesses.OpenedLemmas.{control-made}
use Rattle.pr_function_laws.specs.Lifted.{HasControl}
use Rattle.pr_hidden.specs.Hiders.{Hiders, hides}
use Rattle.pr_hidden.specs.Tidiness.{IsPassiveBut, is_hider_act, is_hider_message, is_hider_write}
use Rattle.pr_model.specs.Calls.{Answer, answer_to}
use Rattle.pr_model.specs.Handles.{handle_of}
use Rattle.pr_model.specs.Lawful.{IsLawful}
use Rattle.pr_model.specs.Legal.{IsLegalEntry, after, state_after}
use Rattle.pr_model.specs.LwpTurns.{LwpTurn, turn_of}
use Rattle.pr_model.specs.Passive.{is_passive_act, is_passive_message, is_passive_write}
use Rattle.pr_model.specs.State.{TracedState, live_process}
use Rattle.pr_model.specs.declared.calls.Call.{Call}
use Rattle.pr_model.specs.declared.calls.Call.TheVariants as call
use Rattle.pr_model.specs.declared.calls.File.TheVariants as file
use Rattle.pr_model.specs.declared.calls.Mode.TheVariants.{WriteExcl}
use Rattle.pr_model.specs.declared.calls.Reply.{Reply}
use Rattle.pr_model.specs.declared.calls.Reply.TheVariants as reply
use Rattle.pr_model.specs.declared.events.Act.{Act}
use Rattle.pr_model.specs.declared.events.Act.TheVariants as act
use Rattle.pr_model.specs.declared.events.Actor.{Actor}
use Rattle.pr_model.specs.declared.events.Actor.TheVariants.{Clock, Controller, Lwp}
use Rattle.pr_model.specs.declared.events.Entry.{Entry}
use Rattle.pr_model.specs.declared.events.Turned.{Turned}
use Rattle.pr_num.specs.Messages.{first_message}
use Rattle.pr_num.specs.declared.errnos.Errno.{Errno}
use Rattle.pr_num.specs.declared.messages.Message.{Message}
use Rattle.pr_num.specs.declared.messages.MsgFault.{MsgFault}
use Rattle.pr_probe_laws.proofs.StepMarks.MarkCalls.{MarksNone, called-unmarked}
use Rattle.pr_probe_laws.proofs.StepMarks.MarkTurns.{IsOne, IsUnmarked, turn-unmarked}
use Rattle.pr_probe_laws.specs.StepMarks.{IsUnstepped}
use Rattle.pr_report_laws.specs.Releases.{is_past}
use Rattle.pr_truss.specs.Trusses.{TrussState, traced_at}
use Rattle.pr_truss.specs.declared.processes.Traced.{Traced}
use Rattle.pr_truss.specs.declared.stages.Stage.{Stage}
use Rattle.pr_truss_laws.proofs.Files.HeldLemmas.{at_place}
use Rattle.pr_truss_laws.proofs.Machine.OverLemmas.{stays-made, stays-over}
use Rattle.pr_truss_laws.specs.Exchanges.{exchange_of}
use Rattle.pr_world.specs.ControllerStates.{ControllerState}
use Rattle.pr_world.specs.Protocol.{controllers_after, controllers_at}

-- Where step marks stand: none in a process whose control file nobody who hides has open, nor in one that truss is
-- still opening. Where one may stand PR_RLC is set, so that none outlives the close of that file, also where truss
-- leaves a process that it has run. What turns, ticks and the calls of who hides nothing leave of that.

-- ---- one entry

-- what a turn or a tick leaves, and a call that sets no mark
pub entry-unmarked : (n : ℕ) (s : TracedState) (pid : ℕ) (actor : Actor) (did : Act)
    → IsLegalEntry n s (record { actor = actor; act = did })
    → ((k : ℕ) (c : Call) (r : Reply) → actor ≡ Controller k → did ≡ act.Call c r → ((e : Errno) → r ≢ reply.Fail e)
    → MarksNone (IsOne pid) s k c)
    → IsUnmarked pid s.system → IsUnmarked pid (after s (record { actor = actor; act = did })).system
unfolding IsLegalEntry after
entry-unmarked n s pid (Controller by) (act.Call c r) legal plain u =
    let a : Answer = record { state = legal.1.0; reply = r } in
    let answer : answer_to s by c ≡ Some a = legal.1.1 in
    rw answer (called-unmarked (IsOne pid) s by c a answer (plain by c r refl refl) u)
entry-unmarked n s pid (Lwp acting id) (act.Turn turned) legal plain u =
    let t : LwpTurn = record { system = legal.0; turned = turned } in
    let taken : turn_of s.system acting id ≡ Some t = legal.1 in
    rw taken (turn-unmarked (IsOne pid) s.system acting id t taken u)
entry-unmarked n s pid Clock (act.Tick moment) legal plain u = record { processes = u.processes }
entry-unmarked n s pid _ _ legal plain u = absurd legal

module _ {n : ℕ} {who : Hiders} {controllers : List ControllerState} {first : TracedState}
    {h : List Entry} (run : IsRunOfTrusses n who controllers first h) (passive : IsPassiveBut who h)
    (unstepped : IsUnstepped first.system) where
  abbrev pub here : List Entry → TracedState
  here front = state_after first front

  abbrev pub After : List Entry → ℕ → TrussState → Type 0
  After front k t = IsTrussAfter who controllers first h front k t

  abbrev KeptAfter : List Entry → Type 0
  KeptAfter front = TidyKept who controllers first h front

  abbrev pub kept : (front back : List Entry) → h ≡ front ++ back → TidyKept who controllers first h front
  kept = kept-at run

  abbrev pub Over : List Entry → ℕ → Type 0
  Over front pid = live_process (here front).system pid ≡ None

  -- a process was made, and lives no more
  pub record IsGone (front : List Entry) (pid : ℕ) : Type 0 where
    pub made : pid < (here front).system.made
    pub over : Over front pid

  -- no lwp of a process has a step mark, or it has ended
  abbrev pub Calm : List Entry → ℕ → Type 0
  Calm front pid = IsUnmarked pid (here front).system ⊎ IsGone front pid

  -- one who hides has the control file of a process open for itself alone, and PR_RLC is set
  pub record Releaser (front : List Entry) (pid : ℕ) : Type 0 where
    pub k : ℕ
    pub hider : hides who k ≡ true
    pub control : ℕ
    pub its : HasControl k pid control (here front)
    pub release : HasRelease (here front) pid

  -- ---- truss

  abbrev pub Closes : List Entry → TrussState → Type 0
  Closes front t = ClosesSo (Over front) (λ step pid. Calm front pid) (Calm front) t

  abbrev pub OpenedSo : List Entry → TrussState → Stage → Type 0
  OpenedSo front t at = StageSo (Over front) (λ step pid. Calm front pid) (Calm front) t at

  -- PR_RLC is set past that step of the opening, and once a process was opened whole
  abbrev pub SetsAt : List Entry → Position → Traced → Type 0
  SetsAt front (opens step) v = is_past step ≡ true → HasRelease (here front) v.pid
  SetsAt front rests v = HasRelease (here front) v.pid
  SetsAt front to_read v = Unit {0}
  SetsAt front looks v = Unit {0}
  SetsAt front runs v = HasRelease (here front) v.pid
  SetsAt front closes v = Unit {0}

  pub sets-any : (front : List Entry) (at : Position) (v : Traced) → HasRelease (here front) v.pid → SetsAt front at v
  sets-any front (opens step) v has = λ past. has
  sets-any front rests v has = has
  sets-any front to_read v has = tt
  sets-any front looks v has = tt
  sets-any front runs v has = has
  sets-any front closes v has = tt

  sets-plants : (front : List Entry) (at : Position) (v : Traced) (set : List Bool) → SetsAt front at v
      → SetsAt front at (planted_as v set)
  sets-plants front (opens step) v set it = it
  sets-plants front rests v set it = it
  sets-plants front to_read v set it = tt
  sets-plants front looks v set it = tt
  sets-plants front runs v set it = it
  sets-plants front closes v set it = tt

  pub sets-lasting : (front : List Entry) → IsLasting (SetsAt front)
  sets-lasting front = record {
    may_close = λ at u it. tt;
    reads = λ u it its. tt;
    may_run = λ u it its. it;
    counts = λ u it its some. it;
    sees = λ u m it. tt;
    meets = λ u m it new. it;
    plants = sets-plants front;
    loosens = λ u m it. tt;
  }

  sets-stay : (front later : List Entry) (at : Position) (v : Traced)
      → (HasRelease (here front) v.pid → HasRelease (here later) v.pid) → SetsAt front at v → SetsAt later at v
  sets-stay front later (opens step) v stays it = λ past. stays (it past)
  sets-stay front later rests v stays it = stays it
  sets-stay front later to_read v stays it = tt
  sets-stay front later looks v stays it = tt
  sets-stay front later runs v stays it = stays it
  sets-stay front later closes v stays it = tt

  -- of all processes of truss
  pub sets-later : (front later : List Entry) (t : TrussState)
      → ((q : ℕ) → q < length t.traced → HasRelease (here front) (traced_at t q).pid
      → HasRelease (here later) (traced_at t q).pid)
      → Kept (SetsAt front) t → Kept (SetsAt later) t
  sets-later front later t stays =
      kept-weaker (SetsAt front) (SetsAt later) t
      (λ q within at it. sets-stay front later at (at_place t.traced q) (stays q within) it)

  -- What is so of a truss that does not leave its processes: what it opens or closes has no step mark, or has ended; it
  -- knows the files of its processes; and PR_RLC is set on each that it has opened whole.
  pub record Going (front : List Entry) (t : TrussState) : Type 0 where
    pub closing : Closes front t
    pub known : Kept Knows t
    pub sets : Kept (SetsAt front) t

  pub record StepsKept (front : List Entry) : Type 0 where
    pub bare : (pid : ℕ) → Calm front pid ⊎ Releaser front pid
    pub trusses : (k : ℕ) → hides who k ≡ true → (t : TrussState) → After front k t → t.leaving ≡ false
        → Going front t

  pub releaser-holds : (front : List Entry) (pid : ℕ) → Releaser front pid → Holder who pid (here front)
  releaser-holds front pid x = record {
    k = x.k;
    hider = x.hider;
    number = x.control;
    held = record { controller = x.k; pid = pid; lwp = 0; file = file.Ctl; mode = WriteExcl };
    there = x.its;
    of = refl;
    control = refl;
  }

  -- ---- one entry

  module _ (front : List Entry) (actor : Actor) (did : Act) (back : List Entry)
      (place : h ≡ front ++ record { actor = actor; act = did } ∷ back) where
    abbrev e : Entry
    e = record { actor = actor; act = did }

    abbrev next_front : List Entry
    next_front = front ++ e ∷ []

    abbrev s : TracedState
    s = here front

    abbrev kept-here : KeptAfter front
    kept-here = kept front (e ∷ back) place

    pub later-is : here next_front ≡ after s e
    later-is = now-is run front e back place kept-here

    pub lawful-here : IsLawful s
    lawful-here = its-lawful run front e back place kept-here

    pub legal-entry : IsLegalEntry n s e
    legal-entry = its-legal run front e back place kept-here

    pub over-later : (pid : ℕ) → pid < s.system.made → Over front pid → Over next_front pid
    over-later pid made over =
        ap (λ (x : TracedState). live_process x.system pid) later-is
        ∙ stays-over n s e pid lawful-here legal-entry made over

    pub made-later : (pid : ℕ) → pid < s.system.made → pid < (here next_front).system.made
    made-later pid made =
        subst (λ (x : TracedState). pid < x.system.made) (sym later-is)
        (stays-made n s e pid lawful-here legal-entry made)

    pub calm-later : (pid : ℕ)
        → ((k : ℕ) (c : Call) (r : Reply) → actor ≡ Controller k → did ≡ act.Call c r
        → ((x : Errno) → r ≢ reply.Fail x) → MarksNone (IsOne pid) s k c)
        → Calm front pid → Calm next_front pid
    calm-later pid plain (inl u) =
        inl (subst (λ (x : TracedState). IsUnmarked pid x.system) (sym later-is)
        (entry-unmarked n s pid actor did legal-entry plain u))
    calm-later pid plain (inr gone) =
        inr (record { made = made-later pid gone.made; over = over-later pid gone.made gone.over })

    -- PR_RLC, where another has the control file open
    pub foreign-release : (k : ℕ) → IsForeign k s e → (pid control : ℕ) → HasControl k pid control s
        → HasRelease s pid → HasRelease (here next_front) pid
    foreign-release k foreign pid control its has =
        subst (λ (x : TracedState). HasRelease x pid) (sym later-is)
        (kept-release pid s (after s e)
        (foreign-sets n k s lawful-here actor did legal-entry foreign pid control its) has)

    pub foreign-releaser : (pid : ℕ) (x : Releaser front pid) → IsForeign x.k s e → Releaser next_front pid
    foreign-releaser pid x foreign = record {
      k = x.k;
      hider = x.hider;
      control = x.control;
      its = ap (λ (y : TracedState). handle_of y.opens x.k x.control) later-is ∙ foreign.handles x.control ∙ x.its;
      release = foreign-release x.k foreign pid x.control x.its x.release;
    }

    -- a truss that made another call, or none
    module _ (k : ℕ) (hider : hides who k ≡ true) where
      abbrev pub truss : Truss who controllers first h front k
      truss = let w = kept-here in w.trusses k hider

      abbrev pub t : TrussState
      t = let w = truss in w.t

      pub files : HasItsFiles k t s
      files = has-files truss

      pub made-at : (q : ℕ) → q < length t.traced → (traced_at t q).pid < s.system.made
      made-at q within =
          let f = files in
          control-made k (traced_at t q).pid (traced_at t q).control s lawful-here (f.control q within)

      pub goes : t.leaving ≡ false → GoesOn t
      goes off = stays-on truss off

      module _ (steps : StepsKept front) where
        pub before : t.leaving ≡ false → Going front t
        before off = let w = truss in steps.trusses k hider w.t w.is off

        pub stage-later : (off : t.leaving ≡ false)
            → (is_quiet t.stage ≡ false → (q : ℕ) → q < length t.traced → Calm front (traced_at t q).pid
            → Calm next_front (traced_at t q).pid)
            → StageSo (Over next_front) (λ step pid. Calm next_front pid) (Calm next_front) t t.stage
        stage-later off calm =
            let g = goes off in
            let was = before off in
            let so = was.closing in
            stage-stays (Over front) (Over next_front) (λ step pid. Calm front pid) (λ step pid. Calm next_front pid)
            (Calm front) (Calm next_front) t (λ q within. over-later (traced_at t q).pid (made-at q within)) t.stage
            g.stage (λ q step within is. calm (ap is_quiet is) q within) (λ q within is. calm (ap is_quiet is) q within)
            so.stage

        pub foreign-going : IsForeign k s e
            → ((q : ℕ) → q < length t.traced → Calm front (traced_at t q).pid → Calm next_front (traced_at t q).pid)
            → slice_get (controllers_at controllers next_front) k ≡ slice_get (controllers_at controllers front) k
            → (later : TrussState) → After next_front k later → later.leaving ≡ false → Going next_front later
        foreign-going foreign calm same later is off = subst (Going next_front) alike (going (ap leaving alike ∙ off))
          where
            leaving : TrussState → Bool
            leaving x = x.leaving

            alike : t ≡ later
            alike = let w = truss in same-truss t later _ w.is (sym same ∙ is)

            going : t.leaving ≡ false → Going next_front t
            going on =
                let f = files in
                let was = before on in
                let so = was.closing in
                record {
                  closing = record { stage = stage-later on (λ busy. calm); looks = so.looks };
                  known = was.known;
                  sets = sets-later front next_front t
                      (λ q within. foreign-release k foreign (traced_at t q).pid (traced_at t q).control
                      (f.control q within)) was.sets;
                }

    -- ---- turns and ticks

    pub quiet-steps : ((k : ℕ) → exchange_of k e ≡ None) → ((k : ℕ) → actor ≢ Controller k)
        → ((k : ℕ) → slice_get (controllers_at controllers next_front) k
        ≡ slice_get (controllers_at controllers front) k)
        → StepsKept front → StepsKept next_front
    quiet-steps quiet none same steps = record {
      bare = λ pid. by pid (steps.bare pid);
      trusses = λ k hider. foreign-going k hider steps (foreign k) (λ q within. calm _) (same k);
    }
      where
        foreign : (k : ℕ) → IsForeign k s e
        foreign k = foreign-entry n k s e legal-entry (quiet k)

        calm : (pid : ℕ) → Calm front pid → Calm next_front pid
        calm pid = calm-later pid (λ k c r by is granted. absurd (none k by))

        by : (pid : ℕ) → Calm front pid ⊎ Releaser front pid → Calm next_front pid ⊎ Releaser next_front pid
        by pid (inl it) = inl (calm pid it)
        by pid (inr x) = inr (foreign-releaser pid x (foreign x.k))

  pub turn-steps : (front back : List Entry) (acting id : ℕ) (turned : Turned)
      (place : h ≡ front ++ record { actor = Lwp acting id; act = act.Turn turned } ∷ back) → StepsKept front
      → StepsKept (front ++ record { actor = Lwp acting id; act = act.Turn turned } ∷ [])
  unfolding controllers_after
  turn-steps front back acting id turned place =
      quiet-steps front (Lwp acting id) (act.Turn turned) back place (λ k. refl) (λ k is. cc)
      (λ k.
      ap (λ (cs : List ControllerState). slice_get cs k)
      (controllers-push controllers front (record { actor = Lwp acting id; act = act.Turn turned })))

  pub tick-steps : (front back : List Entry) (moment : ℕ)
      (place : h ≡ front ++ record { actor = Clock; act = act.Tick moment } ∷ back) → StepsKept front
      → StepsKept (front ++ record { actor = Clock; act = act.Tick moment } ∷ [])
  unfolding controllers_after
  tick-steps front back moment place =
      quiet-steps front Clock (act.Tick moment) back place (λ k. refl) (λ k is. cc)
      (λ k.
      ap (λ (cs : List ControllerState). slice_get cs k)
      (controllers-push controllers front (record { actor = Clock; act = act.Tick moment })))

  -- ---- calls

  module _ (front back : List Entry) (j : ℕ) (c : Call) (r : Reply) (place : h ≡ front ++ call_entry j c r ∷ back) where
    abbrev later_front : List Entry
    later_front = front ++ call_entry j c r ∷ []

    abbrev v : TracedState
    v = here front

    abbrev kept-now : KeptAfter front
    kept-now = kept front (call_entry j c r ∷ back) place

    -- the call itself
    pub calm-called : (pid : ℕ) → (((x : Errno) → r ≢ reply.Fail x) → MarksNone (IsOne pid) v j c) → Calm front pid
        → Calm later_front pid
    calm-called pid plain =
        calm-later front (Controller j) (act.Call c r) back place pid
        (λ k d y by is granted.
        let who_is : j ≡ k = actor-same by in
        let what : (c ≡ d) × (r ≡ y) = act-same is in
        subst (λ i. MarksNone (IsOne pid) v i d) who_is
        (subst (MarksNone (IsOne pid) v j) what.0
        (plain (λ x fails. granted x (sym what.1 ∙ fails)))))
      where
        actor-same : {a b : ℕ} → Controller a ≡ Controller b → a ≡ b
        actor-same e = cc

        act-same : {a b : Call} {x y : Reply} → act.Call a x ≡ act.Call b y → (a ≡ b) × (x ≡ y)
        act-same e = (cc, cc)

    abbrev Allowed : Call → Reply → Type 0
    Allowed d y = IsTrue (is_passive_act (act.Call d y) || is_hider_act who (Controller j) (act.Call d y))

    allowed : Allowed c r
    allowed = among front (subst (IsPassiveBut who) place passive)
      where
        Passes : Entry → Type 0
        Passes x = IsTrue (is_passive_act x.act || is_hider_act who x.actor x.act)

        among : (xs : List Entry) → All Passes (xs ++ call_entry j c r ∷ back) → Passes (call_entry j c r)
        among [] all = All-head Passes (call_entry j c r) back all
        among (x ∷ xs) all = among xs (All-tail Passes x (xs ++ call_entry j c r ∷ back) all)

    -- of one who hides nothing
    pub other-none : hides who j ≡ false → (pid : ℕ) → ((x : Errno) → r ≢ reply.Fail x) → MarksNone (IsOne pid) v j c
    other-none bare pid granted = record {
      none = λ handle bytes held m len is there its read.
          other-stepless who j m bare (written handle bytes is m len read r refl granted);
    }
      where
        written : (handle : ℕ) (bytes : List ℕ) → c ≡ call.Ctl handle bytes → (m : Message) (len : ℕ)
            → first_message bytes ≡ Ok (m, len) → (y : Reply) → r ≡ y → ((x : Errno) → r ≢ reply.Fail x)
            → IsTrue (is_passive_message m || is_hider_message who j m)
        written handle bytes is m len read (reply.Fail x) same granted = absurd (granted x same)
        written handle bytes is m len read y same granted =
            subst (λ (z : Result (Message × ℕ) MsgFault). IsTrue (is_passive_write z || is_hider_write who j z)) read
            (subst (λ (d : Call). Allowed d y) is (subst (Allowed c) same allowed))

    pub foreign-at : (k : ℕ) → j ≢ k
        → slice_get (controllers_at controllers later_front) k ≡ slice_get (controllers_at controllers front) k
    foreign-at = Calls.foreign-same run front back j c r place kept-now

    pub foreign-to : (k : ℕ) → j ≢ k → IsForeign k v (call_entry j c r)
    foreign-to k apart =
        foreign-entry n k v (call_entry j c r) (legal-entry front (Controller j) (act.Call c r) back place)
        (ap (λ b. cond b (Some (record { call = c; reply = r })) None) (ne_eqb j k apart))

    pub other-steps : hides who j ≡ false → StepsKept front → StepsKept later_front
    other-steps bare steps = record {
      bare = λ pid. by pid (steps.bare pid);
      trusses = λ k hider.
          foreign-going front (Controller j) (act.Call c r) back place k hider steps (foreign-to k (apart k hider))
          (λ q within. calm _) (foreign-at k (apart k hider));
    }
      where
        apart : (k : ℕ) → hides who k ≡ true → j ≢ k
        apart k hider same = false≢true (sym bare ∙ ap (hides who) same ∙ hider)

        calm : (pid : ℕ) → Calm front pid → Calm later_front pid
        calm pid = calm-called pid (other-none bare pid)

        by : (pid : ℕ) → Calm front pid ⊎ Releaser front pid → Calm later_front pid ⊎ Releaser later_front pid
        by pid (inl it) = inl (calm pid it)
        by pid (inr x) =
            inr (foreign-releaser front (Controller j) (act.Call c r) back place pid x
            (foreign-to x.k (apart x.k x.hider)))
