use Rattle.std.proofs.Common.{◌≡◌, ◌≢◌, ◌⊎◌, ◌<◌, ◌++◌, ℕ, true, false, Option, Some, None, List, [], ◌∷◌, All, length, refl, sym, subst, ap, ◌∙◌, inl, inr}
use Rattle.std.proofs.lemmas.Bool.{cases_eq, false≢true}
use Rattle.std.proofs.lemmas.List.Elements.{All-head, All-nil, All-weaker}
use Rattle.std.proofs.lemmas.Option.{none-some, same_Some}
use Rattle.std.specs.List.{slice_get}
use Rattle.pr_hidden.specs.Covers.{Covers, Patch}
use Rattle.pr_hidden.specs.Hiders.{Hiders, covers_after, covers_at, hides, no_covers, replaces_memory}
use Rattle.pr_lawful.proofs.ProcessParts.HandleLemmas.{handle-at}
use Rattle.pr_lawful.proofs.LawfulStates.HistoryLemmas.{history-state}
use Rattle.pr_lending.proofs.LendingStates.HistoryLemmas.{history-lends}
use Rattle.pr_lending.specs.Lending.{AreLending}
use Rattle.pr_model.proofs.HistoryLemmas.{state_after-push}
use Rattle.pr_model.proofs.StateLemmas.{live_process-found}
use Rattle.pr_model.specs.Handles.{handle_of}
use Rattle.pr_model.specs.Lawful.{IsLawful, IsOfMade}
use Rattle.pr_model.specs.Legal.{IsLegal, IsLegalEntry, after, state_after}
use Rattle.pr_model.specs.State.{TracedProcess, TracedState, live_process}
use Rattle.pr_model.specs.declared.events.Act.TheVariants as act
use Rattle.pr_model.specs.declared.events.Actor.TheVariants.{Lwp, Clock}
use Rattle.pr_model.specs.declared.events.Did.{Did}
use Rattle.pr_model.specs.declared.events.Did.TheVariants.{Made}
use Rattle.pr_model.specs.declared.events.Entry.{Entry}
use Rattle.pr_model.specs.declared.events.Res.TheVariants.{Value}
use Rattle.pr_model.specs.declared.events.Turned.{Turned}
use Rattle.pr_num.proofs.SearchLemmas.{All-at}
use Rattle.pr_num.specs.Syscalls.{is_fork_call}
use Rattle.pr_tool_laws.proofs.Records.WholeLemmas.{front-legal}
use Rattle.pr_truss.specs.Asides.{marks_at}
use Rattle.pr_num.specs.declared.syscalls.Sysno.TheVariants.{Exec, Vfork}
use Rattle.pr_truss.specs.FunctionEvents.{copies_memory}
use Rattle.pr_truss.specs.Trusses.{TrussState, traced_at}
use Rattle.pr_truss_laws.proofs.Machine.FrameLemmas.{was-made}
use Rattle.pr_truss_laws.proofs.Machine.OverLemmas.{stays-over}
use Rattle.pr_truss_laws.specs.Handles.{HasNoOtherWriter}
use Rattle.pr_world.specs.ControllerStates.{ControllerState}
use Rattle.pr_world.specs.Protocol.{controllers_after, controllers_at}
use Rattle.pr_tool_laws.specs.OwnCalls.{AreOwnCalls, IsOwnCall}
use Rattle.pr_function_laws.proofs.Stepping.BreakpointLemmas.{foreign-entry}
use Rattle.pr_function_laws.proofs.OpenedProcesses.OpenedLemmas.{control-made, control-sole}
use Rattle.pr_function_hides.proofs.Files.CallFacts.{controllers-push, own-here, legal-here}
use Rattle.pr_function_hides.proofs.Tidy.CalledCovers.{IsAsPatched, covers-push, patched-self, turn-stays}
use Rattle.pr_function_hides.proofs.Files.FilesCalls.{foreign-files}
use Rattle.pr_function_hides.proofs.Memory.MappedMemory.{entry-maps, mapped-owns}
use Rattle.pr_function_hides.proofs.Memory.MarkedPatches.{through-all}
use Rattle.pr_function_hides.proofs.Memory.Unborrowed.{IsUnborrowed, entry-unborrowed, unborrowed-none, unborrowed-now}
use Rattle.pr_function_hides.specs.FunctionHiders.{StandAsMarked}
use Rattle.pr_function_hides.proofs.Replies.OwnFiles.{HasItsFiles}
use Rattle.pr_function_hides.specs.RunsOfTrusses.{IsRunOfTrusses}
use Rattle.pr_function_hides.specs.TidyWrites.{IsMappedIn}
use Rattle.pr_function_hides.proofs.Tidy.CopyFree.{copies-bare}
use Rattle.pr_function_hides.proofs.Tidy.TidyKept.{AreMappedIn, Holder, Kept, Lives, Truss, has-files}
use Rattle.pr_function_hides.proofs.Tidy.TidyKept.{holder-moves}
use Rattle.pr_function_hides.specs.Copying.{makes_copy}

-- What is kept is so one entry later, where the entry changes nothing that is hidden; so it is kept by each turn, and
-- by each tick of the clock.

-- a turn that replaces the memory makes a call that copies or replaces it, and that is granted
pub replaced-copies : (did : Did) → replaces_memory did ≡ true → makes_copy did ≡ true
unfolding copies_memory is_fork_call
replaced-copies (Made Vfork (Value value)) is = refl
replaced-copies (Made Exec (Value value)) is = refl
replaced-copies _ is = absurd (false≢true is)

module _ {n : ℕ} {who : Hiders} {controllers : List ControllerState} {first : TracedState}
    {h : List Entry} (run : IsRunOfTrusses n who controllers first h) where
  none : (k : ℕ) → who.probes k ≡ false
  none = run.are.no_probes

  abbrev at : List Entry → Covers
  at front = covers_at who first front

  abbrev now : List Entry → TracedState
  now front = state_after first front

  pub lending-at : (front back : List Entry) → h ≡ front ++ back → AreLending (now front).system
  lending-at front back place =
      history-lends n first front (let x = run.reached in x.lawful) (let x = run.reached in x.lending)
      (front-legal n first front back (subst (λ (es : List Entry). IsLegal n first es) place run.legal))

  -- ---- one entry

  module _ (front : List Entry) (e : Entry) (back : List Entry) (place : h ≡ front ++ e ∷ back)
      (kept : Kept who controllers first h front) where
    abbrev next_front : List Entry
    next_front = front ++ e ∷ []

    abbrev s : TracedState
    s = now front

    pub now-is : now next_front ≡ after s e
    now-is = state_after-push first front e

    pub at-is : at next_front ≡ covers_after who (at front) s e
    at-is = covers-push who no_covers first front e

    pub its-lawful : IsLawful s
    its-lawful =
        history-state n first front (let x = run.reached in x.lawful)
        (front-legal n first front (e ∷ back) (subst (λ (es : List Entry). IsLegal n first es) place run.legal))

    pub its-legal : IsLegalEntry n s e
    its-legal = legal-here n first front e back (subst (λ (es : List Entry). IsLegal n first es) place run.legal)

    pub its-call : IsOwnCall (controllers_at controllers front) e
    its-call =
        own-here controllers front e back
        (subst (λ (es : List Entry). AreOwnCalls controllers es) place run.own_calls)

    pub its-lending : AreLending s.system
    its-lending = lending-at front (e ∷ back) place

    later-is : (pid : ℕ) (o : Option TracedProcess) → live_process (now next_front).system pid ≡ o
        → live_process (after s e).system pid ≡ o
    later-is pid o is = ap (λ (x : TracedState). live_process x.system pid) (sym now-is) ∙ is

    -- ---- memory

    holder-made : (pid : ℕ) → Holder who pid s → pid < s.system.made
    holder-made pid x =
        subst (λ i. i < s.system.made) x.of
        (All-at (IsOfMade s.system.made) s.opens x.number (Some x.held)
        (handle-at s.opens x.k x.number x.held x.there) its-lawful.handles)

    -- nothing is hidden of a new process
    new-bare : (pid : ℕ) (q : TracedProcess) → live_process (now next_front).system pid ≡ Some q
        → live_process s.system pid ≡ None → (at front pid).patches ≡ []
    new-bare pid q later gone = by (kept.bare pid)
      where
        by : ((at front pid).patches ≡ []) ⊎ Holder who pid (now front) → (at front pid).patches ≡ []
        by (inl nothing) = nothing
        by (inr x) =
            absurd (none-some q
            (sym (stays-over n s e pid its-lawful its-legal (holder-made pid x) gone) ∙ later-is pid (Some q) later))

    pub mapped-later : (pid : ℕ) (q : TracedProcess) → live_process (now next_front).system pid ≡ Some q
        → ((p : TracedProcess) → live_process s.system pid ≡ Some p → AreMappedIn p (at front pid).patches
        → AreMappedIn q (at front pid).patches) → AreMappedIn q (at front pid).patches
    mapped-later pid q later maps = by (live_process s.system pid) refl
      where
        by : (o : Option TracedProcess) → live_process s.system pid ≡ o → AreMappedIn q (at front pid).patches
        by None gone =
            subst (AreMappedIn q) (sym (new-bare pid q later gone)) (All-nil (IsMappedIn q.space))
        by (Some p) live = maps p live (kept.mapped pid p live)

    -- where the entry is no turn of its own
    pub foreign-maps : (pid : ℕ) → ((id : ℕ) → e.actor ≢ Lwp pid id) → (p q : TracedProcess)
        → live_process s.system pid ≡ Some p → live_process (now next_front).system pid ≡ Some q
        → (ps : List Patch) → AreMappedIn p ps → AreMappedIn q ps
    foreign-maps pid apart p q live later [] all = All-nil (IsMappedIn q.space)
    foreign-maps pid apart p q live later (f ∷ fs) all =
        let owns = mapped-owns s.system pid p its-lending live f (All-head (IsMappedIn p.space) f fs all) in
        let m =
        entry-maps pid p q owns n s e.actor e.act its-lawful its-legal apart live (later-is pid (Some q) later) in
        All-weaker (IsMappedIn p.space) (IsMappedIn q.space) (λ g it. m.mapped g it) (f ∷ fs) all

    pub later-unborrowed : (pid : ℕ) → IsUnborrowed pid s.system → IsUnborrowed pid (now next_front).system
    later-unborrowed pid o =
        subst (λ (x : TracedState). IsUnborrowed pid x.system) (sym now-is)
        (entry-unborrowed pid n s e.actor e.act its-legal o)

    -- nothing is hidden of who borrows later
    pub unlent-later : (pid lender : ℕ) (q : TracedProcess) → live_process (now next_front).system pid ≡ Some q
        → q.lender ≡ Some lender → (at front pid).patches ≡ []
    unlent-later pid lender q later lends = by (live_process s.system pid) refl
      where
        of : (p : TracedProcess) → live_process s.system pid ≡ Some p → (o : Option ℕ) → p.lender ≡ o
            → (at front pid).patches ≡ []
        of p live (Some old) was = kept.unlent pid old p live was
        of p live None free =
            let made = was-made pid s.system p its-lawful.system (live_process-found s.system pid p live) in
            let before =
            unborrowed-now pid s.system its-lawful.system made
            (λ x there. ap (λ (y : TracedProcess). y.lender) (same_Some x p (sym there ∙ live)) ∙ free) in
            absurd (none-some lender
            (sym (unborrowed-none pid (now next_front).system (later-unborrowed pid before) q later) ∙ lends))

        by : (o : Option TracedProcess) → live_process s.system pid ≡ o → (at front pid).patches ≡ []
        by None gone = new-bare pid q later gone
        by (Some p) live = of p live p.lender refl

    -- ---- the trusses

    module _ (k : ℕ) (hider : hides who k ≡ true) where
      abbrev truss : Truss who controllers first h front k
      truss = kept.trusses k hider

      abbrev t : TrussState
      t = let w = truss in w.t

      holds : HasItsFiles k t s
      holds = has-files truss

      -- a process that lives later lived before
      pub lived : (q : ℕ) → q < length t.traced → Lives (now next_front) (traced_at t q).pid
          → Lives (now front) (traced_at t q).pid
      lived q within lives = by (live_process s.system (traced_at t q).pid) refl
        where
          pid : ℕ
          pid = (traced_at t q).pid

          over : live_process s.system pid ≡ None → live_process (after s e).system pid ≡ None
          over none_before =
              let w = holds in
              stays-over n s e pid its-lawful its-legal
              (control-made k pid (traced_at t q).control s its-lawful (w.control q within)) none_before

          by : (o : Option TracedProcess) → live_process s.system pid ≡ o → Lives (now front) pid
          by (Some p) live = (p, live)
          by None none_before =
              absurd (none-some lives.0
              (sym (over none_before) ∙ ap (λ (x : TracedState). live_process x.system pid) (sym now-is) ∙ lives.1))

      -- where others made the entry, and it left what is hidden of its processes
      pub foreign-truss :
          slice_get (controllers_at controllers next_front) k ≡ slice_get (controllers_at controllers front) k
          → ((q : ℕ) → q < length t.traced
          → IsAsPatched (at front (traced_at t q).pid) (at next_front (traced_at t q).pid))
          → ((m : ℕ) → handle_of (now next_front).opens k m ≡ handle_of (now front).opens k m)
          → Truss who controllers first h next_front k
      foreign-truss same stays handles =
          let w = truss in
          record {
            it = w.it;
            t = w.t;
            is = same ∙ w.is;
            sound = w.sound;
            stand = λ q within lives.
                let a = stays q within in
                subst (StandAsMarked w.t.options (marks_at w.t q).planted) (sym a.patches)
                (w.stand q within (lived q within lives));
            files = foreign-files k (now front) (now next_front) w.t handles w.files;
            apart = w.apart;
            follow = w.follow;
            alone = λ q within. later-unborrowed (traced_at w.t q).pid (w.alone q within);
            course = w.course;
          }

      -- nobody else has its processes open for writing
      pub sole : (q : ℕ) → q < length t.traced → HasNoOtherWriter k (traced_at t q).pid s.opens
      sole q within =
          let w = holds in
          control-sole k (traced_at t q).pid (traced_at t q).control s its-lawful (w.control q within)

    -- ---- an entry that changes nothing that is hidden

    module _ (stays : (pid : ℕ) → IsAsPatched (at front pid) (at next_front pid))
        (same : (k : ℕ) → hides who k ≡ true
        → slice_get (controllers_at controllers next_front) k ≡ slice_get (controllers_at controllers front) k)
        (handles : (k m : ℕ) → hides who k ≡ true
        → handle_of (now next_front).opens k m ≡ handle_of (now front).opens k m)
        (maps : (pid : ℕ) (p q : TracedProcess) → live_process (now front).system pid ≡ Some p
        → live_process (now next_front).system pid ≡ Some q → AreMappedIn p (at front pid).patches
        → AreMappedIn q (at front pid).patches) where
      pub quiet-kept : Kept who controllers first h next_front
      quiet-kept = record {
        trusses = λ k hider.
            foreign-truss k hider (same k hider) (λ q within. stays (traced_at (t k hider) q).pid)
            (λ m. handles k m hider);
        bare = λ pid. by pid (kept.bare pid);
        no_agent = λ pid. let a = stays pid in a.no_agent (kept.no_agent pid);
        mapped = λ pid q later.
            let a = stays pid in
            subst (AreMappedIn q) (sym a.patches)
            (mapped-later pid q later (λ p live all. maps pid p q live later all));
        unlent = λ pid lender q later lends.
            let a = stays pid in a.patches ∙ unlent-later pid lender q later lends;
      }
        where
          by : (pid : ℕ) → ((at front pid).patches ≡ []) ⊎ Holder who pid (now front)
              → ((at next_front pid).patches ≡ []) ⊎ Holder who pid (now next_front)
          by pid (inl nothing) = let a = stays pid in inl (a.patches ∙ nothing)
          by pid (inr it) = inr (holder-moves it (handles it.k it.number it.hider ∙ it.there))

  -- ---- turns, and ticks of the clock

  -- a turn changes no patches
  pub turn-covers : (front back : List Entry) (acting id : ℕ) (turned : Turned)
      → h ≡ front ++ record { actor = Lwp acting id; act = act.Turn turned } ∷ back → Kept who controllers first h front
      → (pid : ℕ)
      → IsAsPatched (at front pid) (at (front ++ record { actor = Lwp acting id; act = act.Turn turned } ∷ []) pid)
  unfolding covers_after
  turn-covers front back acting id turned place kept pid =
      subst (λ (cs : Covers). IsAsPatched (at front pid) (cs pid))
      (sym (at-is front (record { actor = Lwp acting id; act = act.Turn turned }) back place kept))
      (turn-stays who none (at front) (now front) acting id turned.did pid (kept.no_agent acting)
      (λ is. copies-bare run front back acting id turned place (replaced-copies turned.did is) kept))

  pub turn-kept : (front back : List Entry) (acting id : ℕ) (turned : Turned)
      → h ≡ front ++ record { actor = Lwp acting id; act = act.Turn turned } ∷ back → Kept who controllers first h front
      → Kept who controllers first h (front ++ record { actor = Lwp acting id; act = act.Turn turned } ∷ [])
  unfolding controllers_after
  turn-kept front back acting id turned place kept =
      quiet-kept front e back place kept (turn-covers front back acting id turned place kept)
      (λ k hider. ap (λ (cs : List ControllerState). slice_get cs k) (controllers-push controllers front e))
      (λ k m hider.
      ap (λ (x : TracedState). handle_of x.opens k m) (now-is front e back place kept)
      ∙ (let f = foreign-entry n k (now front) e (its-legal front e back place kept) refl in f.handles m))
      (λ pid p q live later all. by pid p q live later all (cases_eq acting pid))
    where
      e : Entry
      e = record { actor = Lwp acting id; act = act.Turn turned }

      own-maps : (pid : ℕ) (p q : TracedProcess) → live_process (now front).system pid ≡ Some p
          → live_process (now (front ++ e ∷ [])).system pid ≡ Some q → AreMappedIn p (at front pid).patches
          → acting ≡ pid → AreMappedIn q (at front pid).patches
      own-maps pid p q live later all same =
          let mapping : Patch → Type 0 = λ (f : Patch). IsMappedIn p.space f → IsMappedIn q.space f in
          through-all (IsMappedIn p.space) (IsMappedIn q.space) (at front pid).patches
          (subst (λ i. All mapping (at front i).patches) same
          (run.undisturbed.untouched.stays_mapped front back acting id turned p q place
          (ap (live_process (now front).system) same ∙ live)
          (ap (live_process (after (now front) e).system) same
          ∙ later-is front e back place kept pid (Some q) later))) all

      by : (pid : ℕ) (p q : TracedProcess) → live_process (now front).system pid ≡ Some p
          → live_process (now (front ++ e ∷ [])).system pid ≡ Some q → AreMappedIn p (at front pid).patches
          → (acting ≡ pid) ⊎ (acting ≢ pid) → AreMappedIn q (at front pid).patches
      by pid p q live later all (inl same) = own-maps pid p q live later all same
      by pid p q live later all (inr apart) =
          foreign-maps front e back place kept pid (λ i is. apart (lwp-same is)) p q live later (at front pid).patches
          all
        where
          lwp-same : {a b i j : ℕ} → Lwp a i ≡ Lwp b j → a ≡ b
          lwp-same is = cc

  -- nor does a tick
  pub tick-covers : (front back : List Entry) (moment : ℕ)
      → h ≡ front ++ record { actor = Clock; act = act.Tick moment } ∷ back → Kept who controllers first h front
      → at (front ++ record { actor = Clock; act = act.Tick moment } ∷ []) ≡ at front
  unfolding covers_after
  tick-covers front back moment place kept =
      at-is front (record { actor = Clock; act = act.Tick moment }) back place kept

  pub tick-kept : (front back : List Entry) (moment : ℕ)
      → h ≡ front ++ record { actor = Clock; act = act.Tick moment } ∷ back → Kept who controllers first h front
      → Kept who controllers first h (front ++ record { actor = Clock; act = act.Tick moment } ∷ [])
  unfolding controllers_after
  tick-kept front back moment place kept =
      quiet-kept front e back place kept
      (λ pid.
      subst (λ (cs : Covers). IsAsPatched (at front pid) (cs pid)) (sym (tick-covers front back moment place kept))
      (patched-self (at front pid)))
      (λ k hider. ap (λ (cs : List ControllerState). slice_get cs k) (controllers-push controllers front e))
      (λ k m hider.
      ap (λ (x : TracedState). handle_of x.opens k m) (now-is front e back place kept)
      ∙ (let f = foreign-entry n k (now front) e (its-legal front e back place kept) refl in f.handles m))
      (λ pid p q live later all.
      foreign-maps front e back place kept pid (λ i is. cc) p q live later (at front pid).patches all)
    where
      e : Entry
      e = record { actor = Clock; act = act.Tick moment }
