use Rattle.std.proofs.Common.{◌≡◌, ◌≢◌, ◌⊎◌, ◌<◌, ◌||◌, ◌++◌, ℕ, Bool, true, false, cond, is_ok, Some, None, Ok, List}
use Rattle.std.proofs.Common.{[], ◌∷◌, length, refl, sym, subst, ap, ◌∙◌, inl, inr}
use Rattle.std.proofs.lemmas.Bool.{eq-eqb, false≢true, ne_eqb}
use Rattle.std.proofs.lemmas.Option.{slice_get_within}
use Rattle.std.specs.List.{slice_get}
use Rattle.std.specs.Option.{option_and_then}
use Rattle.std.specs.Prelude.{map}
use Rattle.pr_api.specs.Entries.{call_entry}
use Rattle.pr_hidden.specs.Covers.{Covers, Patch}
use Rattle.pr_hidden.specs.Hiders.{Hiders, are_some, covers_after, covers_at, covers_called, hides, is_ctl, patch_at}
use Rattle.pr_lawful.proofs.ProcessParts.HandleLemmas.{handle-at, handle-writer}
use Rattle.pr_line.specs.declared.options.Options.{Options}
use Rattle.pr_model.specs.Calls.{answer_to}
use Rattle.pr_model.specs.ControlMessages.{tail_of}
use Rattle.pr_model.specs.Handles.{handle_of, has_writer, is_control}
use Rattle.pr_model.specs.Lawful.{IsLawful}
use Rattle.pr_model.specs.Legal.{after, state_after}
use Rattle.pr_model.specs.State.{TracedProcess, TracedState, live_process}
use Rattle.pr_model.specs.declared.calls.Call.{Call}
use Rattle.pr_model.specs.declared.calls.Call.TheVariants as call
use Rattle.pr_model.specs.declared.calls.File.{File}
use Rattle.pr_model.specs.declared.calls.File.TheVariants as file
use Rattle.pr_model.specs.declared.calls.Mode.TheVariants.{WriteExcl}
use Rattle.pr_model.specs.declared.calls.Reply.{Reply}
use Rattle.pr_model.specs.declared.calls.Reply.TheVariants as reply
use Rattle.pr_model.specs.declared.events.Entry.{Entry}
use Rattle.pr_model.specs.declared.handles.Held.{Held}
use Rattle.pr_num.specs.Messages.{first_message}
use Rattle.pr_num.specs.Spaces.{bytes_for}
use Rattle.pr_num.specs.declared.messages.Message.TheVariants as message
use Rattle.pr_report_laws.proofs.Invariant.StandLemmas.{Each}
use Rattle.pr_tool_laws.proofs.Stages.ProtocolLemmas.{fed-other, fed-own}
use Rattle.pr_truss.specs.FunctionCalls.{next_function_call_of}
use Rattle.pr_truss.specs.FunctionFeeding.{fed_functions}
use Rattle.pr_truss.specs.Marks.{has_functions}
use Rattle.pr_truss.specs.Replies.{answer_of}
use Rattle.pr_truss.specs.Trusses.{TrussState, traced_at}
use Rattle.pr_truss.specs.declared.processes.Traced.{Traced}
use Rattle.pr_truss.specs.declared.replies.Answer.TheVariants.{Accepted}
use Rattle.pr_world.specs.Controllers.{after_reply, call_by, next_call, with_fed}
use Rattle.pr_world.specs.ControllerStates.{ControllerState, FnTruss}
use Rattle.pr_world.specs.Protocol.{controllers_after, controllers_at}
use Rattle.pr_tool_laws.specs.OwnCalls.{IsOwnCall}
use Rattle.pr_function_laws.proofs.Stepping.BreakpointLemmas.{IsOwnEntry, foreign-entry, own-entry}
use Rattle.pr_function_laws.proofs.Marks.SoundLemmas.{AsideIsBelow}
use Rattle.pr_function_hides.proofs.Files.CallFacts.{controllers-push, open-finds, open-made, shape-of}
use Rattle.pr_function_hides.proofs.Tidy.CalledCovers.{IsAsPatched, call-still, close-other, ctl-other}
use Rattle.pr_function_hides.proofs.Replies.FilesWalk.{SameFiles}
use Rattle.pr_function_hides.proofs.Memory.MappedMemory.{mapped-owns}
use Rattle.pr_function_hides.proofs.Memory.MarkedPatches.{patch-there}
use Rattle.pr_function_hides.proofs.Tidy.OwnTidy.{Kind, kind, left-kind}
use Rattle.pr_function_hides.proofs.Memory.Unborrowed.{IsUnborrowed, unborrowed-now}
use Rattle.pr_function_hides.proofs.Memory.WriteReplies.{mapped-user, write-granted}
use Rattle.pr_function_hides.specs.FunctionHiders.{ArePatchable, IsTrussAt, patch_of}
use Rattle.pr_function_hides.proofs.Replies.OwnFiles.{HasItsFiles}
use Rattle.pr_function_hides.specs.RunsOfTrusses.{IsRunOfTrusses}
use Rattle.pr_function_hides.specs.TidyWrites.{IsMappedIn, IsTrussAfter}
use Rattle.pr_function_hides.proofs.Tidy.TidyKept.{AreMappedIn, Course, Holder, Kept, Truss, goes_on}
use Rattle.pr_function_hides.proofs.Tidy.TidyKept.{has-files, leaves_them}
use Rattle.pr_function_hides.proofs.Tidy.TidyEntries.{now-is, at-is, its-lawful, its-legal, its-call, its-lending}
use Rattle.pr_function_hides.proofs.Tidy.TidyEntries.{foreign-maps, later-unborrowed, quiet-kept}

-- A call of one who hides nothing leaves what is kept; and what is known of truss as it makes a call: which call it is,
-- that its breakpoints stand as it has marked them, its files, and that its processes borrow no memory, then and later.

module _ {n : ℕ} {who : Hiders} {controllers : List ControllerState} {first : TracedState}
    {h : List Entry} (run : IsRunOfTrusses n who controllers first h)
    (front back : List Entry) (j : ℕ) (c : Call) (r : Reply) (place : h ≡ front ++ call_entry j c r ∷ back)
    (kept : Kept who controllers first h front) where
  none : (k : ℕ) → who.probes k ≡ false
  none = run.are.no_probes

  abbrev at : List Entry → Covers
  at front = covers_at who first front

  abbrev now : List Entry → TracedState
  now front = state_after first front

  abbrev pub e : Entry
  e = call_entry j c r

  abbrev pub later_front : List Entry
  later_front = front ++ e ∷ []

  abbrev pub v : TracedState
  v = now front

  pub called-is : at later_front ≡ covers_called who (at front) v j c r
  unfolding covers_after
  called-is = at-is run front e back place kept

  pub called-now : now later_front ≡ after v e
  called-now = now-is run front e back place kept

  called-controllers : controllers_at controllers later_front ≡ with_fed j r (controllers_at controllers front)
  unfolding controllers_after
  called-controllers = controllers-push controllers front e

  pub foreign-handles : (k m : ℕ) → j ≢ k → handle_of (now later_front).opens k m ≡ handle_of v.opens k m
  foreign-handles k m apart =
      ap (λ (x : TracedState). handle_of x.opens k m) called-now
      ∙ (let f = foreign-entry n k v e (its-legal run front e back place kept)
      (ap (λ b. cond b (Some (record { call = c; reply = r })) None) (ne_eqb j k apart)) in f.handles m)

  pub foreign-same : (k : ℕ) → j ≢ k
      → slice_get (controllers_at controllers later_front) k ≡ slice_get (controllers_at controllers front) k
  foreign-same k apart =
      ap (λ (cs : List ControllerState). slice_get cs k) called-controllers
      ∙ fed-other (controllers_at controllers front) j k r apart

  pub called-stays : (pid : ℕ) → IsAsPatched (at front pid) (covers_called who (at front) v j c r pid)
      → IsAsPatched (at front pid) (at later_front pid)
  called-stays pid stays = subst (λ (cs : Covers). IsAsPatched (at front pid) (cs pid)) (sym called-is) stays

  pub called-maps : (pid : ℕ) (p q : TracedProcess) → live_process v.system pid ≡ Some p
      → live_process (now later_front).system pid ≡ Some q → (ps : List Patch) → AreMappedIn p ps → AreMappedIn q ps
  called-maps pid p q live later ps all =
      foreign-maps run front e back place kept pid (λ i is. cc) p q live later ps all

  -- ---- of one who hides nothing

  -- it changes no patches
  pub other-stays : hides who j ≡ false → (pid : ℕ) → IsAsPatched (at front pid) (at later_front pid)
  other-stays bare pid = called-stays pid (by c)
    where
      nothing : (fs : List Patch) (b : Bool) → (are_some fs || b) ≡ false → fs ≡ []
      nothing [] b is = refl
      nothing (f ∷ fs) b is = absurd (false≢true (sym is))

      by : (d : Call) → IsAsPatched (at front pid) (covers_called who (at front) v j d r pid)
      by (call.Ctl number bytes) =
          ctl-other who none (at front) v j pid number bytes r (nothing (who.functions j) (who.probes j) bare)
      by (call.Close number) = close-other who none (at front) v j pid number r bare
      by d = call-still who none (at front) v j pid d r refl

  pub other-kept : hides who j ≡ false → Kept who controllers first h later_front
  other-kept bare =
      quiet-kept run front e back place kept (other-stays bare)
      (λ k hider. foreign-same k (λ same. false≢true (sym bare ∙ ap (hides who) same ∙ hider)))
      (λ k m hider. foreign-handles k m (λ same. false≢true (sym bare ∙ ap (hides who) same ∙ hider)))
      (λ pid p q live later all. called-maps pid p q live later (at front pid).patches all)

  -- ---- of truss

  module _ (hider : hides who j ≡ true) where
    abbrev pub truss-now : Truss who controllers first h front j
    truss-now = kept.trusses j hider

    abbrev it : IsTrussAt who controllers j
    it = let w = truss-now in w.it

    abbrev o : Options
    o = let i = it in i.options

    abbrev pub tr : TrussState
    tr = let w = truss-now in w.t

    options-is : tr.options ≡ o
    options-is = let w = truss-now in let names = w.sound.names in names.options

    pub fits : ArePatchable tr.options
    fits = let i = it in subst ArePatchable (sym options-is) i.patchable

    pub these : who.functions j ≡ map patch_of tr.options.functions
    these =
        let i = it in
        i.hides_these ∙ ap (λ (x : Options). map patch_of x.functions) (sym options-is)

    pub has : has_functions tr.options ≡ true
    has = let i = it in ap has_functions options-is ∙ i.has

    pub below : AsideIsBelow (length tr.options.functions) tr.aside
    below =
        let w = truss-now in
        let names = w.sound.names in
        subst (λ (x : Options). AsideIsBelow (length x.functions) tr.aside) (sym options-is) names.aside

    pub files-now : HasItsFiles j tr v
    files-now = has-files truss-now

    pub next : next_function_call_of tr ≡ Some c
    unfolding IsOwnCall call_by next_call
    next =
        let w = truss-now in
        sym (ap (option_and_then next_call) w.is)
        ∙ its-call run front e back place kept (slice_get_within (controllers_at controllers front) j (FnTruss tr) w.is)

    pub own : IsOwnEntry j v e (record { call = c; reply = r })
    own =
        own-entry n j v e (record { call = c; reply = r }) (its-legal run front e back place kept)
        (ap (λ b. cond b (Some (record { call = c; reply = r })) None) (eq-eqb j j refl))

    pub given : (d : Call) → c ≡ d → answer_to v j d ≡ Some own.answer
    given d same = ap (answer_to v j) (sym same) ∙ own.is

    pub reply-is : own.answer.reply ≡ r
    reply-is = own.replied

    pub its-kind : Kind c tr
    its-kind = let w = truss-now in by w.course
      where
        by : Course tr → Kind c tr
        by (goes_on goes flags) = kind c tr fits goes below next has
        by (leaves_them on there) = left-kind c tr fits below next has there

    abbrev pub held-of : ℕ → Held
    held-of q = record { controller = j; pid = (traced_at tr q).pid; lwp = 0; file = file.Ctl; mode = WriteExcl }

    pub lawful-now : IsLawful v
    lawful-now = its-lawful run front e back place kept

    -- ---- truss itself

    pub shape : (q : ℕ) (bytes : List ℕ) (address len : ℕ) → q < length tr.traced
        → c ≡ call.Ctl (traced_at tr q).control bytes → first_message bytes ≡ Ok (message.Write address 16, len)
        → ((used : ℕ) × (r ≡ reply.Used used)) ⊎ ((answer_of r ≢ Accepted) × ((used : ℕ) → r ≢ reply.Used used))
    shape q bytes address len within is read =
        subst (λ (x : Reply). ((used : ℕ) × (x ≡ reply.Used used))
        ⊎ ((answer_of x ≢ Accepted) × ((used : ℕ) → x ≢ reply.Used used))) reply-is
        (shape-of v j (traced_at tr q).control (held-of q) (files-now.control q within) refl bytes address 16 len read
        own.answer (given _ is))

    pub ctl-control : (f : File) → is_ctl f ≡ true → is_control f ≡ true
    ctl-control file.Ctl is = refl
    ctl-control _ is = absurd (false≢true is)

    pub holder-writes : (pid : ℕ) → Holder who pid v → has_writer pid v.opens ≡ true
    holder-writes pid x =
        subst (λ i. has_writer i v.opens ≡ true) x.of
        (handle-writer v.opens x.number x.held lawful-now.fitting
        (handle-at v.opens x.k x.number x.held x.there) (ctl-control x.held.file x.control))

    pub fresh : (pid : ℕ) → c ≡ call.Open pid 0 file.Ctl WriteExcl → answer_of r ≡ Accepted
        → (at front pid).patches ≡ []
    fresh pid is accepted = by (kept.bare pid)
      where
        by : ((at front pid).patches ≡ []) ⊎ Holder who pid v → (at front pid).patches ≡ []
        by (inl nothing) = nothing
        by (inr x) =
            absurd (open-finds v j pid own.answer (given _ is) (ap answer_of reply-is ∙ accepted)
            (holder-writes pid x))

    pub granted : (q : ℕ) (bytes : List ℕ) (address len : ℕ) (p : TracedProcess) (g : Patch) → q < length tr.traced
        → c ≡ call.Ctl (traced_at tr q).control bytes → first_message bytes ≡ Ok (message.Write address 16, len)
        → length (tail_of (message.Write address 16) bytes) ≡ 16 → live_process v.system (traced_at tr q).pid ≡ Some p
        → patch_at address (at front (traced_at tr q).pid).patches ≡ Some g → (used : ℕ) × (r ≡ reply.Used used)
    granted q bytes address len p g within is read long live found =
        let pid : ℕ = (traced_at tr q).pid in
        let it = patch-there (IsMappedIn p.space) address (at front pid).patches g (kept.mapped pid p live) found in
        let mapped = it.0 in
        let owns = mapped-owns v.system pid p (its-lending run front e back place kept) live g mapped in
        let user = mapped-user v.system pid p lawful-now.system live g mapped in
        let ok : is_ok (bytes_for 0 p.space address (length (tail_of (message.Write address 16) bytes))) ≡ true =
        ap (λ m. is_ok (bytes_for 0 p.space address m)) long
        ∙ ap (λ m. is_ok (bytes_for 0 p.space m 16)) (sym it.1) ∙ mapped.ok in
        let got =
        write-granted v j (traced_at tr q).control (held-of q) (files-now.control q within) refl bytes address 16 len
        read own.answer (given _ is) p live user owns ok in (got.0, sym reply-is ∙ got.1)

    -- ---- its processes have no lenders

    abbrev pub Alone : Traced → Type 0
    Alone x = IsUnborrowed x.pid (now later_front).system

    pub alone-alike : (x y : Traced) → SameFiles x y → Alone x → Alone y
    alone-alike x y same it = subst (λ i. IsUnborrowed i (now later_front).system) (sym same.pid) it

    pub all-alone : Each Alone tr.traced
    all-alone q within =
        let w = truss-now in
        later-unborrowed run front e back place kept (traced_at tr q).pid (w.alone q within)

    -- of one that is opened
    pub new-alone : (pid : ℕ) → c ≡ call.Open pid 0 file.Ctl WriteExcl → answer_of r ≡ Accepted
        → IsUnborrowed pid (now later_front).system
    new-alone pid is accepted =
        later-unborrowed run front e back place kept pid
        (unborrowed-now pid v.system lawful-now.system
        (open-made v j pid lawful-now.system own.answer (given _ is) (ap answer_of reply-is ∙ accepted))
        (λ p live.
        run.undisturbed.untouched.unlent front back j pid r p
        (place ∙ ap (λ (d : Call). front ++ call_entry j d r ∷ back) is) hider
        accepted live))

    pub new-apart : (pid : ℕ) → c ≡ call.Open pid 0 file.Ctl WriteExcl → answer_of r ≡ Accepted → (i : ℕ)
        → i < length tr.traced → (traced_at tr i).pid ≢ pid
    new-apart pid is accepted i within same =
        open-finds v j pid own.answer (given _ is) (ap answer_of reply-is ∙ accepted)
        (subst (λ m. has_writer m v.opens ≡ true) same
        (handle-writer v.opens (traced_at tr i).control (held-of i) lawful-now.fitting
        (handle-at v.opens j (traced_at tr i).control (held-of i) (files-now.control i within)) refl))

    pub own-after : IsTrussAfter who controllers first h later_front j (fed_functions tr r)
    unfolding after_reply
    own-after =
        let w = truss-now in
        ap (λ (cs : List ControllerState). slice_get cs j) called-controllers
        ∙ fed-own (controllers_at controllers front) j r (FnTruss tr) w.is
