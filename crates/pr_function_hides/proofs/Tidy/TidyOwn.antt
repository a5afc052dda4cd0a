use Rattle.std.proofs.Common.{◌≡◌, ◌≢◌, ◌⊎◌, ◌<◌, ◌++◌, ℕ, Bool, true, false, cond, Option, Some, None, List, [], ◌∷◌}
use Rattle.std.proofs.Common.{length, refl, sym, subst, ap, ◌∙◌, inl, inr}
use Rattle.std.proofs.lemmas.Bool.{cases_Bool, false≢true}
use Rattle.std.proofs.lemmas.Option.{none-some, same_Some}
use Rattle.std.specs.Prelude.{map}
use Rattle.pr_api.specs.Entries.{call_entry}
use Rattle.pr_hidden.specs.Covers.{Covers}
use Rattle.pr_line.specs.declared.options.Options.{Options}
use Rattle.pr_hidden.specs.Hiders.{Hiders, covers_at, covers_called, hides}
use Rattle.pr_model.specs.Legal.{state_after}
use Rattle.pr_model.specs.State.{TracedState}
use Rattle.pr_model.specs.declared.calls.Call.{Call}
use Rattle.pr_model.specs.declared.calls.Call.TheVariants as call
use Rattle.pr_model.specs.declared.calls.Reply.{Reply}
use Rattle.pr_model.specs.declared.events.Entry.{Entry}
use Rattle.pr_report_laws.proofs.Files.KeepLemmas.{can_wait}
use Rattle.pr_report_laws.proofs.Invariant.StandLemmas.{Each, EachBut, each-but}
use Rattle.pr_report_laws.proofs.Machine.PollLaws.{never-interrupted}
use Rattle.pr_truss.specs.Asides.{marks_at}
use Rattle.pr_truss.specs.FunctionCalls.{call_beside, function_call_of, next_function_call_of, patch_call}
use Rattle.pr_truss.specs.FunctionFeeding.{fed_functions}
use Rattle.pr_truss.specs.Marks.{first_function, has_functions, no_functions}
use Rattle.pr_truss.specs.NextCalls.{call_of, next_call_of}
use Rattle.pr_truss.specs.Processes.{last_handle, newly_traced, without_last}
use Rattle.pr_truss.specs.Replies.{answer_of}
use Rattle.pr_truss.specs.Trusses.{TrussState, traced_at}
use Rattle.pr_truss.specs.declared.asides.Aside.{Aside}
use Rattle.pr_truss.specs.declared.asides.Aside.TheVariants.{Asking, AwaitingAgain, AwaitingStop, Nothing, Patching}
use Rattle.pr_truss.specs.declared.asides.Aside.TheVariants.{Planting, Reading}
use Rattle.pr_truss.specs.declared.marks.Stepped.{Stepped}
use Rattle.pr_truss.specs.declared.processes.Traced.{Traced}
use Rattle.pr_truss.specs.declared.replies.Answer.{Answer}
use Rattle.pr_truss.specs.declared.replies.Answer.TheVariants.{Accepted, Gone, Interrupted, Refused}
use Rattle.pr_truss.specs.declared.stages.AfterClosing.TheVariants.{GoOn, OpenNext}
use Rattle.pr_truss.specs.declared.stages.Stage.{Stage}
use Rattle.pr_truss.specs.declared.stages.Stage.TheVariants.{Closing, Finished, Opening, OpeningControl, Polling}
use Rattle.pr_truss.specs.declared.stages.Stage.TheVariants.{ReadingLwps, ReadingStatus, ReadingText, Running, Spawning}
use Rattle.pr_truss.specs.declared.stages.Stage.TheVariants.{Unfollowing}
use Rattle.pr_truss_laws.proofs.Replies.FunctionOptionLemmas.{fed_functions-options}
use Rattle.pr_truss_laws.proofs.Replies.ReplySteps.{lost-same}
use Rattle.pr_world.specs.ControllerStates.{ControllerState}
use Rattle.pr_function_laws.proofs.Stepping.BreakpointLemmas.{IsOwnEntry}
use Rattle.pr_function_laws.proofs.Marks.MarkLemmas.{first-below}
use Rattle.pr_function_laws.proofs.NextCalls.PatchCalls.{next-beside, next-staged}
use Rattle.pr_function_laws.proofs.Marks.SoundLemmas.{AsideIsBelow, function-sound}
use Rattle.pr_function_hides.proofs.Tidy.CalledCovers.{IsAsPatched, call-still}
use Rattle.pr_function_hides.proofs.Tidy.CopyFree.{last-bare, replaced-bare}
use Rattle.pr_function_hides.proofs.FirstPlanted.FirstLaw.{firsts-on}
use Rattle.pr_function_hides.proofs.Replies.CountedWalk.{AsideIn}
use Rattle.pr_function_hides.proofs.FirstPlanted.FirstFunctions.{IsFirstOf}
use Rattle.pr_function_hides.proofs.Replies.FunctionSets.{first-has}
use Rattle.pr_function_hides.proofs.Files.FilesCalls as OpenFiles
use Rattle.pr_function_hides.proofs.Files.FilesCalls.{Files, files-alike, own-under}
use Rattle.pr_function_hides.proofs.Replies.FilesWalk.{AfterAside, AfterStage, LeftFiles, SameFiles, Under, fed-under}
use Rattle.pr_function_hides.proofs.Replies.LeavingStages.{IsLeft, asks, awaits, closes_files, halts, has_ended, lifted_after}
use Rattle.pr_function_hides.proofs.Replies.LeavingStages.{lifts_all, looks, reads_text, waits_again, with_no_marks}
use Rattle.pr_function_hides.proofs.Replies.LeavingWalk.{After, Left, Rest, begins-left, fed-left}
use Rattle.pr_function_hides.proofs.Memory.MarkedPatches.{none-stand}
use Rattle.pr_function_hides.proofs.Tidy.OwnCalls as Own
use Rattle.pr_function_hides.proofs.Tidy.OwnCalls.{lift-after, own-planted}
use Rattle.pr_function_hides.proofs.Replies.OwnFiles.{GoesOn, HasItsFiles, IsBeside, IsWithin}
use Rattle.pr_function_hides.proofs.Replies.PlantedReplies.{LeftSo, So, learnt-pid, lost-marks}
use Rattle.pr_function_hides.proofs.Replies.RunFlags.{FlagsOf, flags-fed}
use Rattle.pr_function_hides.proofs.Tidy.StillMessages.{BeginStill, cfault-still, stop-still, wstop-still}
use Rattle.pr_function_hides.proofs.Tidy.TidyCalls as Calls
use Rattle.pr_function_hides.proofs.Tidy.TidyEntries.{lived}
use Rattle.pr_function_hides.proofs.Tidy.TidyKept.{Course, Kept, Lives, Truss, goes_on, leaves_them}
use Rattle.pr_function_hides.proofs.Replies.TreatedEvents.{first-of-none}
use Rattle.pr_function_hides.proofs.Memory.Unborrowed.{IsUnborrowed}
use Rattle.pr_function_hides.specs.FunctionHiders.{ArePatchable, StandAsMarked, patch_of}
use Rattle.pr_function_hides.specs.RunsOfTrusses.{IsRunOfTrusses}

-- What a call of truss makes of what is kept of it: where it goes on, with its first interrupt, and where it leaves its
-- processes.

module _ {n : ℕ} {who : Hiders} {controllers : List ControllerState} {first : TracedState}
    {h : List Entry} (run : IsRunOfTrusses n who controllers first h)
    (front back : List Entry) (j : ℕ) (c : Call) (r : Reply) (place : h ≡ front ++ call_entry j c r ∷ back)
    (kept : Kept who controllers first h front) (hider : hides who j ≡ true) where
  none : (k : ℕ) → who.probes k ≡ false
  none = run.are.no_probes

  abbrev at : List Entry → Covers
  at front = covers_at who first front

  abbrev now : List Entry → TracedState
  now front = state_after first front

  abbrev e : Entry
  e = call_entry j c r

  abbrev later_front : List Entry
  later_front = front ++ e ∷ []

  abbrev v : TracedState
  v = now front

  abbrev truss : Truss who controllers first h front j
  truss = kept.trusses j hider

  abbrev t : TrussState
  t = let w = truss in w.t

  abbrev fits : ArePatchable t.options
  fits = Calls.fits run front back j c r place kept hider

  abbrev these : who.functions j ≡ map patch_of t.options.functions
  these = Calls.these run front back j c r place kept hider

  abbrev has : has_functions t.options ≡ true
  has = Calls.has run front back j c r place kept hider

  abbrev below : AsideIsBelow (length t.options.functions) t.aside
  below = Calls.below run front back j c r place kept hider

  abbrev files : HasItsFiles j t v
  files = Calls.files-now run front back j c r place kept hider

  abbrev next : next_function_call_of t ≡ Some c
  next = Calls.next run front back j c r place kept hider

  abbrev own : IsOwnEntry j v e (record { call = c; reply = r })
  own = Calls.own run front back j c r place kept hider

  abbrev follow : t.options.follow ≡ false
  follow = let w = truss in w.follow

  abbrev apart : (i k : ℕ) → i < length t.traced → k < length t.traced → i ≢ k
      → (traced_at t i).pid ≢ (traced_at t k).pid
  apart = let w = truss in w.apart

  abbrev Lived : ℕ → Type 0
  Lived = Lives (now later_front)

  -- the breakpoints of a process stand as it is marked, once the call was made
  abbrev Stands : Traced → Type 0
  Stands x =
      Lived x.pid → StandAsMarked t.options x.marks.planted (covers_called who (at front) v j c r x.pid).patches

  abbrev Alone : Traced → Type 0
  Alone x = IsUnborrowed x.pid (now later_front).system

  was : (q : ℕ) → q < length t.traced → Lived (traced_at t q).pid → Lives (now front) (traced_at t q).pid
  was q within lives = lived run front e back place kept j hider q within lives

  old : Each (λ (x : Traced). Lived x.pid → StandAsMarked t.options x.marks.planted (at front x.pid).patches) t.traced
  old q within lives = let w = truss in w.stand q within (was q within lives)

  state-is : own.answer.state ≡ now later_front
  state-is = own.later ∙ sym (Calls.called-now run front back j c r place kept)

  all-alone : Each Alone t.traced
  all-alone = Calls.all-alone run front back j c r place kept hider

  alone-alike : (x y : Traced) → SameFiles x y → Alone x → Alone y
  alone-alike x y same it = subst (λ i. IsUnborrowed i (now later_front).system) (sym same.pid) it

  -- truss as it is later
  later-truss : Each Stands (fed_functions t r).traced → Each (Files j (now later_front)) (fed_functions t r).traced
      → ((i k : ℕ) → i < length (fed_functions t r).traced → k < length (fed_functions t r).traced → i ≢ k
      → (traced_at (fed_functions t r) i).pid ≢ (traced_at (fed_functions t r) k).pid)
      → Each Alone (fed_functions t r).traced → Course (fed_functions t r)
      → Truss who controllers first h later_front j
  later-truss stand its_files others alone course =
      let w = truss in
      record {
        it = w.it;
        t = fed_functions w.t r;
        is = Calls.own-after run front back j c r place kept hider;
        sound = function-sound (let i = w.it in i.options) (λ (step : Stepped). Unit {0}) w.t r w.sound
            (λ q l told event function fresh_event at_breakpoint. tt);
        stand = λ q within lives.
            subst (λ (x : Options). StandAsMarked x (marks_at (fed_functions w.t r) q).planted
            (at later_front (traced_at (fed_functions w.t r) q).pid).patches)
            (sym (fed_functions-options w.t r))
            (subst (λ (cs : Covers). StandAsMarked w.t.options (marks_at (fed_functions w.t r) q).planted
            (cs (traced_at (fed_functions w.t r) q).pid).patches)
            (sym (Calls.called-is run front back j c r place kept)) (stand q within lives));
        files = its_files;
        apart = others;
        follow = ap (λ (x : Options). x.follow) (fed_functions-options w.t r) ∙ w.follow;
        alone = alone;
        course = course;
      }

  -- ---- where it goes on

  module _ (goes : GoesOn t) (flags : Each (So FlagsOf) t.traced) (calm : answer_of r ≢ Interrupted) where
    lost-alone : (q : ℕ) → q < length t.traced → (x : Option Traced) → without_last (traced_at t q) ≡ x
        → LeftFiles Alone alone-alike x (traced_at t q)
    lost-alone q within None is = tt
    lost-alone q within (Some x) is =
        let same = lost-same (traced_at t q) x is in
        subst (λ i. IsUnborrowed i (now later_front).system) (sym same.pid) (all-alone q within)

    alone-stage : (stage : Stage) → IsWithin (length t.traced) stage → function_call_of t stage ≡ Some c
        → AfterStage Alone alone-alike t r stage
    unfolding function_call_of call_of newly_traced
    alone-stage (Spawning program) w is = all-alone
    alone-stage (OpeningControl pid) w is = (
      all-alone,
      λ accepted. (
        Calls.new-alone run front back j c r place kept hider pid (sym (same_Some _ c is)) accepted,
        Calls.new-apart run front back j c r place kept hider pid (sym (same_Some _ c is)) accepted,
      ),
    )
    alone-stage (Opening q step) w is = (
      each-but Alone t.traced q all-alone,
      (
        all-alone q w,
        λ accepted.
            subst (λ i. IsUnborrowed i (now later_front).system) (sym (learnt-pid (traced_at t q) r step))
            (all-alone q w),
      ),
    )
    alone-stage Polling w is = all-alone
    alone-stage (ReadingStatus q) w is = all-alone
    alone-stage (ReadingText q l from len) w is = all-alone
    alone-stage (Running q) w is = all-alone
    alone-stage (Closing q OpenNext) w is =
        (each-but Alone t.traced q all-alone, lost-alone q w (without_last (traced_at t q)) refl)
    alone-stage (Closing q GoOn) w is =
        (each-but Alone t.traced q all-alone, lost-alone q w (without_last (traced_at t q)) refl)
    alone-stage Finished w is = all-alone
    alone-stage _ w is = absurd w

    alone-aside : (aside : Aside) → IsBeside (length t.traced) aside → call_beside t t.stage aside ≡ Some c
        → AfterAside Alone alone-alike t r aside
    unfolding call_beside
    alone-aside Nothing w is = alone-stage t.stage goes.stage is
    alone-aside (Reading q i) w is = all-alone
    alone-aside (Planting q i) w is = all-alone
    alone-aside (Patching q plants lifts clear) w is = all-alone
    alone-aside _ w is = absurd w

    alone-later : Under Alone alone-alike (fed_functions t r)
    unfolding next_function_call_of
    alone-later =
        fed-under Alone alone-alike t r goes.off goes.follow goes.stage goes.beside apart calm has
        (alone-aside t.aside goes.beside
        (sym (ap (λ b. cond b (call_beside t t.stage t.aside) (next_call_of t)) has) ∙ next))

    files-later : Under (Files j (now later_front)) (files-alike j (now later_front)) (fed_functions t r)
    files-later =
        let w = truss in
        subst (λ (x : TracedState). Under (Files j x) (files-alike j x) (fed_functions t r)) state-is
        (subst (λ (y : Reply). Under (Files j own.answer.state) (files-alike j own.answer.state) (fed_functions t y))
        (Calls.reply-is run front back j c r place kept hider)
        (own-under j v c own.answer own.is
        (let l = Calls.lawful-now run front back j c r place kept hider in l.fitting) t w.files w.apart goes next has
        (λ interrupted.
        calm (ap answer_of (sym (Calls.reply-is run front back j c r place kept hider)) ∙ interrupted))))

    firsts : AsideIn (IsFirstOf t.options) t.traced t.aside
    firsts =
        let w = truss in
        let f = firsts-on run j hider front (call_entry j c r ∷ back) place w.t w.is goes.off in f.aside

    stand-later : Each Stands (fed_functions t r).traced
    stand-later =
        own-planted who none j (at front) v c r t fits these files below Lived was old
        (Calls.shape run front back j c r place kept hider) (Calls.fresh run front back j c r place kept hider)
        (λ q within lives tells.
        replaced-bare run front back j c r place kept hider q within (was q within lives) tells)
        (Calls.granted run front back j c r place kept hider) goes firsts next has calm

    going-truss : Truss who controllers first h later_front j
    going-truss =
        let u = files-later in
        let a = alone-later in
        later-truss stand-later u.each u.apart a.each
        (goes_on (record { off = u.off; follow = u.follow; stage = u.stage; beside = u.beside })
        (flags-fed t r goes.off goes.follow goes.stage goes.beside calm flags has))

  -- ---- where it leaves its processes, or begins to

  abbrev Good : Traced → Type 0
  Good x = Stands x × (Files j (now later_front) x × Alone x)

  good-alike : (x y : Traced) → SameFiles x y → y.attached ≡ x.attached → y.marks ≡ x.marks → Good x → Good y
  good-alike x y same attached marks g = (
    λ lives.
        subst (λ m. StandAsMarked t.options m.planted (covers_called who (at front) v j c r y.pid).patches) (sym marks)
        (subst (λ i. StandAsMarked t.options x.marks.planted (covers_called who (at front) v j c r i).patches)
        (sym same.pid) (g.0 (subst Lived same.pid lives))),
    (files-alike j (now later_front) x y same g.1.0, alone-alike x y same g.1.1),
  )

  -- nothing is asked of old stops
  abbrev none_old : Traced → Type 0
  none_old x = Unit {0}

  as-old : (x y : Traced) → SameFiles x y → y.attached ≡ x.attached → y.old ≡ x.old → y.seen ≡ x.seen
      → none_old x → none_old y
  as-old x y same attached old seen it = it

  -- the same files, whatever its marks are
  marked-good : (x y : Traced) → SameFiles x y → Stands y → Good x → Good y
  marked-good x y same stand g =
      (stand, (files-alike j (now later_front) x y same g.1.0, alone-alike x y same g.1.1))

  abbrev Stays : ℕ → Type 0
  Stays pid = IsAsPatched (at front pid) (covers_called who (at front) v j c r pid)

  -- a call that closes nothing
  open-files : ((m : ℕ) → c ≢ call.Close m) → Each (Files j (now later_front)) t.traced
  open-files other =
      let w = truss in
      subst (λ (x : TracedState). Each (Files j x) t.traced) state-is
      (OpenFiles.all-stay j v c own.answer own.is
      (let l = Calls.lawful-now run front back j c r place kept hider in l.fitting) t w.files w.apart other)

  good-stays : ((m : ℕ) → c ≢ call.Close m) → ((pid : ℕ) → Stays pid) → Each Good t.traced
  good-stays other stays q within = (
    Own.all-stay who none j (at front) v c r t fits these files below Lived was old stays q within,
    (open-files other q within, all-alone q within),
  )

  never-closes : (d : Call) → Some d ≡ Some c → ((m : ℕ) → d ≢ call.Close m) → (m : ℕ) → c ≢ call.Close m
  never-closes d same other m closes = other m (same_Some d c same ∙ closes)

  still-good : (control : ℕ) (bytes : List ℕ) → Some (call.Ctl control bytes) ≡ Some c
      → ((pid : ℕ) → Stays pid) → Each Good t.traced
  still-good control bytes is stays = good-stays (never-closes _ is (λ m same. cc)) stays

  -- it leaves what is hidden
  call-stays : (d : Call) → Some d ≡ Some c
      → ((pid : ℕ) → IsAsPatched (at front pid) (covers_called who (at front) v j d r pid)) → (pid : ℕ) → Stays pid
  call-stays d is stays pid =
      Own.is-call who none j (at front) v c r t fits these files below Lived was old d is pid (stays pid)

  -- ---- where it leaves them

  module _ (on : t.leaving ≡ true) where
    staged : (stage : Stage) → t.stage ≡ stage → t.aside ≡ Nothing → function_call_of t stage ≡ Some c
    staged stage is idle = sym (next-staged t.options has t stage refl idle is) ∙ next

    beside : (aside : Aside) → t.aside ≡ aside → call_beside t t.stage aside ≡ Some c
    beside aside is = sym (next-beside t.options has t refl ∙ ap (call_beside t t.stage) is) ∙ next

    message-good : (control : ℕ) (bytes : List ℕ) → Some (call.Ctl control bytes) ≡ Some c → BeginStill bytes
        → Each Good t.traced
    message-good control bytes is still =
        still-good control bytes is
        (λ pid.
        Own.still-call who none j (at front) v c r t fits these files below Lived was old control bytes is still pid)

    -- a file is closed
    closed-good : (within : 0 < length t.traced) → Some (call.Close (last_handle (traced_at t 0))) ≡ Some c
        → EachBut Good t.traced 0 × Rest Good good-alike none_old as-old (without_last (traced_at t 0))
    closed-good within is =
        let w = truss in
        let its_files : EachBut (Files j (now later_front)) t.traced 0
        × LeftFiles (Files j (now later_front)) (files-alike j (now later_front)) (without_last (traced_at t 0))
        (traced_at t 0) =
        subst (λ (x : TracedState). EachBut (Files j x) t.traced 0
        × LeftFiles (Files j x) (files-alike j x) (without_last (traced_at t 0)) (traced_at t 0)) state-is
        (OpenFiles.closing j v c own.answer own.is
        (let l = Calls.lawful-now run front back j c r place kept hider in l.fitting) t w.files w.apart 0 within is)
        in (
          (λ i inside other. (
            Own.others-stay who none j (at front) v c r t fits these files below Lived was old 0 within is i inside
                other,
            (its_files.0 i inside other, all-alone i inside),
          )),
          by (without_last (traced_at t 0)) refl its_files.1
              (Own.left-so who none j (at front) v c r t fits these files below Lived was old 0 within is),
        )
      where
        by : (x : Option Traced) → without_last (traced_at t 0) ≡ x
            → LeftFiles (Files j (now later_front)) (files-alike j (now later_front)) x (traced_at t 0)
            → LeftSo (λ pid m. Lived pid
            → StandAsMarked t.options m.planted (covers_called who (at front) v j c r pid).patches) x (traced_at t 0)
            → Rest Good good-alike none_old as-old x
        by None is its_files left = tt
        by (Some x) is its_files left =
            let same = lost-same (traced_at t 0) x is in (
              (λ lives.
                  subst (λ m. StandAsMarked t.options m.planted (covers_called who (at front) v j c r x.pid).patches)
                  (sym (lost-marks (traced_at t 0) x is))
                  (subst (λ i. StandAsMarked t.options (marks_at t 0).planted
                  (covers_called who (at front) v j c r i).patches) (sym same.pid)
                  (left (subst Lived same.pid lives)))),
              (its_files, subst (λ i. IsUnborrowed i (now later_front).system) (sym same.pid) (all-alone 0 within)),
            )

    -- a breakpoint is lifted, or a fault cleared
    lifted-good : (within : 0 < length t.traced) (clear : Bool)
        → AsideIsBelow (length t.options.functions) (Patching 0 no_functions (marks_at t 0).planted clear)
        → (lift : Option ℕ) → first_function (marks_at t 0).planted ≡ lift
        → Some (patch_call t.options (traced_at t 0).control None lift) ≡ Some c
        → EachBut Good t.traced 0
        × Good (record (traced_at t 0) {
          marks = record (marks_at t 0) { planted = lifted_after (marks_at t 0).planted lift };
        })
    lifted-good within clear small None first_is is =
        let all = message-good _ _ is cfault-still in (each-but Good t.traced 0 all, all 0 within)
    lifted-good within clear small (Some i) first_is is =
        let its_files = open-files (never-closes _ is (λ m same. cc)) in
        let w =
        Own.lift-after-all who none j (at front) v c r t fits these files below Lived was old
        (Calls.shape run front back j c r place kept hider) (Calls.fresh run front back j c r place kept hider)
        (λ q inside lives tells.
        replaced-bare run front back j c r place kept hider q inside (was q inside lives) tells)
        (Calls.granted run front back j c r place kept hider) 0 i within
        (first-below _ (marks_at t 0).planted i small.1 first_is)
        (λ lives f named.
        let stand = old 0 within lives in stand.first i f named (first-has (marks_at t 0).planted i first_is)) is in (
          (λ k inside other. (w.0 k inside other, (its_files k inside, all-alone k inside))),
          (
            (λ lives.
                subst (λ set. StandAsMarked t.options set
                (covers_called who (at front) v j c r (traced_at t 0).pid).patches)
                (lift-after (marks_at t 0).planted (answer_of r) i) (w.1 lives)),
            (
              files-alike j (now later_front) (traced_at t 0) _
                  (record { pid = refl; control = refl; status = refl; lstatus = refl; memory = refl })
                  (its_files 0 within),
              all-alone 0 within,
            ),
          ),
        )

    -- what the call has made so, a row a place
    made-so : (w : IsLeft t) → After Good good-alike none_old as-old t r w
    unfolding call_beside function_call_of call_of
    made-so (halts is idle within) = message-good _ _ (staged Unfollowing is idle) stop-still
    made-so (awaits until is aside within) =
        let its = beside (AwaitingStop until) aside in
        good-stays (never-closes _ its (λ m same. cc))
        (call-stays _ its (λ pid. call-still who none (at front) v j pid _ r refl))
    made-so (asks is aside within) = message-good _ _ (beside Asking aside) wstop-still
    made-so (waits_again until is aside within) =
        let its = beside (AwaitingAgain until) aside in
        good-stays (never-closes _ its (λ m same. cc))
        (call-stays _ its (λ pid. call-still who none (at front) v j pid _ r refl))
    made-so (looks is idle within) =
        let its = staged ReadingLwps is idle in
        let stays : (pid : ℕ) → Stays pid =
        call-stays _ its (λ pid. call-still who none (at front) v j pid _ r refl) in
        let all = good-stays (never-closes _ its (λ m same. cc)) stays in (
          all,
          λ tells.
              marked-good (traced_at t 0) (with_no_marks (traced_at t 0))
              (record { pid = refl; control = refl; status = refl; lstatus = refl; memory = refl })
              (λ lives.
              let a = stays (traced_at t 0).pid in
              subst (StandAsMarked t.options no_functions)
              (sym (a.patches
              ∙ last-bare run front back j c r place kept hider within (was 0 within lives) tells))
              (none-stand t.options fits)) (all 0 within),
        )
    made-so (reads_text l from len is idle within) =
        let its = staged (ReadingText 0 l from len) is idle in
        good-stays (never-closes _ its (λ m same. cc))
        (call-stays _ its (λ pid. call-still who none (at front) v j pid _ r refl))
    made-so (lifts_all clear is aside within) =
        lifted-good within clear (subst (AsideIsBelow (length t.options.functions)) aside below)
        (first_function (marks_at t 0).planted) refl
        (sym (ap (λ plant. Some (patch_call t.options (traced_at t 0).control plant
        (first_function (marks_at t 0).planted))) first-of-none)
        ∙ beside (Patching 0 no_functions (marks_at t 0).planted clear) aside)
    made-so (closes_files is idle within) = closed-good within (staged (Closing 0 GoOn) is idle)
    made-so (has_ended is idle) = absurd (none-some c (staged Finished is idle))

  left-truss : Left Good good-alike none_old as-old (fed_functions t r) → Truss who controllers first h later_front j
  left-truss w =
      later-truss (λ q within. (w.each q within).0) (λ q within. (w.each q within).1.0) w.apart
      (λ q within. (w.each q within).1.1) (leaves_them w.on w.at)

  left-later : (on : t.leaving ≡ true) → IsLeft t → Left Good good-alike none_old as-old (fed_functions t r)
  left-later on there =
      fed-left Good good-alike none_old as-old t r on follow has apart (λ q within still. tt) there (made-so on there)

  leaving-truss : t.leaving ≡ true → IsLeft t → Truss who controllers first h later_front j
  leaving-truss on there =
      left-truss (left-later on there)

  -- ---- the first interrupt

  module _ (goes : GoesOn t) (interrupted : answer_of r ≡ Interrupted) where
    waits : can_wait c ≡ true
    waits = elim (cases_Bool (can_wait c)) [
      | inl is ↦ is
      | inr not ↦
          absurd (never-interrupted v j c own.answer not own.is
          (ap answer_of (Calls.reply-is run front back j c r place kept hider) ∙ interrupted))
    ]

    wait-good : (d : Call) → c ≡ d → can_wait d ≡ true → Each Good t.traced
    wait-good (call.CtlWait handle until bytes) is wait =
        good-stays (λ m same. let its : call.CtlWait handle until bytes ≡ call.Close m = sym is ∙ same in cc)
        (call-stays _ (ap (λ (x : Call). Some x) (sym is))
        (λ pid. call-still who none (at front) v j pid _ r refl))
    wait-good (call.Poll handles) is wait =
        good-stays (λ m same. let its : call.Poll handles ≡ call.Close m = sym is ∙ same in cc)
        (call-stays _ (ap (λ (x : Call). Some x) (sym is))
        (λ pid. call-still who none (at front) v j pid _ r refl))
    wait-good (call.Until moment) is wait =
        good-stays (λ m same. let its : call.Until moment ≡ call.Close m = sym is ∙ same in cc)
        (call-stays _ (ap (λ (x : Call). Some x) (sym is))
        (λ pid. call-still who none (at front) v j pid _ r refl))
    wait-good _ is wait = absurd (false≢true wait)

    begun-later : Left Good good-alike none_old as-old (fed_functions t r)
    begun-later =
        begins-left Good good-alike none_old as-old t r follow has apart (wait-good c refl waits) (λ q within. tt)
        (λ q step opens within. tt) interrupted c waits goes.stage goes.beside next

    begun-truss : Truss who controllers first h later_front j
    begun-truss =
        left-truss begun-later

  -- ---- all of them

  is-interrupted : (a : Answer) → answer_of r ≡ a → (answer_of r ≡ Interrupted) ⊎ (answer_of r ≢ Interrupted)
  is-interrupted Interrupted is = inl is
  is-interrupted Accepted is = inr (λ same. let its : Accepted ≡ Interrupted = sym is ∙ same in cc)
  is-interrupted (Refused errno) is = inr (λ same. let its : Refused errno ≡ Interrupted = sym is ∙ same in cc)
  is-interrupted Gone is = inr (λ same. let its : Gone ≡ Interrupted = sym is ∙ same in cc)

  by-course : Course t → (answer_of r ≡ Interrupted) ⊎ (answer_of r ≢ Interrupted)
      → Truss who controllers first h later_front j
  by-course (goes_on goes flags) (inl interrupted) = begun-truss goes interrupted
  by-course (goes_on goes flags) (inr calm) = going-truss goes flags calm
  by-course (leaves_them on there) answered = leaving-truss on there

  pub own-truss : Truss who controllers first h later_front j
  own-truss = let w = truss in by-course w.course (is-interrupted (answer_of r) refl)

  -- ---- where it goes on later

  -- it went on before, and was not interrupted
  pub went-on : (fed_functions t r).leaving ≡ false → GoesOn t × (answer_of r ≢ Interrupted)
  went-on off = let w = truss in by w.course (is-interrupted (answer_of r) refl)
    where
      by : Course t → (answer_of r ≡ Interrupted) ⊎ (answer_of r ≢ Interrupted)
          → GoesOn t × (answer_of r ≢ Interrupted)
      by (goes_on goes flags) (inr calm) = (goes, calm)
      by (goes_on goes flags) (inl interrupted) =
          let w = begun-later goes interrupted in absurd (false≢true (sym off ∙ w.on))
      by (leaves_them on there) answered = let w = left-later on there in absurd (false≢true (sym off ∙ w.on))

  -- where it leaves its processes and did not before, it was interrupted
  pub breaks : t.leaving ≡ false → (fed_functions t r).leaving ≡ true → answer_of r ≡ Interrupted
  breaks off on = let w = truss in by w.course (is-interrupted (answer_of r) refl)
    where
      by : Course t → (answer_of r ≡ Interrupted) ⊎ (answer_of r ≢ Interrupted) → answer_of r ≡ Interrupted
      by (goes_on goes flags) (inl interrupted) = interrupted
      by (goes_on goes flags) (inr calm) =
          let w = files-later goes flags calm in absurd (false≢true (sym w.off ∙ on))
      by (leaves_them left there) answered = absurd (false≢true (sym off ∙ left))
