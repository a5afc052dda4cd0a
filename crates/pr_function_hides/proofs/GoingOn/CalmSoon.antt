use Rattle.std.proofs.Common.{◌≡◌, ◌≢◌, ◌<◌, ◌++◌, ◌⊎◌, ◌||◌, ℕ, Bool, true, false, cond, is_some, Option, Some, None}
use Rattle.std.proofs.Common.{List, [], ◌∷◌, length, refl, sym, ap, ◌∙◌, inl, inr}
use Rattle.std.proofs.lemmas.Bool.{eqb-true, false≢true}
use Rattle.std.proofs.lemmas.Option.{none-some, same_Some}
use Rattle.std.specs.Option.{option_and_then}
use Rattle.pr_api.specs.Entries.{call_entry}
use Rattle.pr_function_hides.proofs.GoingOn.CalmCalls as Calm
use Rattle.pr_function_hides.proofs.GoingOn.CalmCalls.{kept-now, tr, u}
use Rattle.pr_function_hides.proofs.Replies.ClosingWalk.{called_at}
use Rattle.pr_function_hides.proofs.Tidy.CopyFree.{run-options}
use Rattle.pr_function_hides.proofs.StandingFaults.SoonRuns.{IsPatchedFirst, RunsOrCloses, RunsSoon, flags_after, flags_read, soon-on}
use Rattle.pr_function_hides.proofs.Tidy.TidyCalls as Calls
use Rattle.pr_function_hides.proofs.Tidy.TidyEntries.{its-legal, now-is}
use Rattle.pr_function_hides.specs.RunsOfTrusses.{IsRunOfTrusses}
use Rattle.pr_function_hides.specs.Treating.{is_run_soon}
use Rattle.pr_function_laws.proofs.Marks.KeptPlaces.{AtAside}
use Rattle.pr_function_laws.proofs.OpenedProcesses.OpenedCalls.{IsSo, write-as}
use Rattle.pr_function_laws.proofs.OpenedProcesses.OpenedLaws.{Goes, goes-opened}
use Rattle.pr_function_laws.proofs.OpenedProcesses.OpenedLemmas.{by-process}
use Rattle.pr_function_laws.proofs.OpenedProcesses.StoodCalls.{BeginLeavingLwps, KeepsLwps, leaves_lwps, message-lwps}
use Rattle.pr_function_laws.proofs.OrdinaryTruss.OrdinaryStops.{FitsAside, IsLookedAt, IsOpenedAt, patch-looked}
use Rattle.pr_function_laws.specs.Opened.{is_opened}
use Rattle.pr_function_laws.specs.Stretches.{acts_by}
use Rattle.pr_hidden.specs.Hiders.{Hiders, hides}
use Rattle.pr_lawful.proofs.LawfulTurns.EndLemmas.{found-live}
use Rattle.pr_model.specs.Calls.{answer_to}
use Rattle.pr_model.specs.Legal.{state_after}
use Rattle.pr_model.specs.Replies.{bytes_in}
use Rattle.pr_model.specs.State.{TracedProcess, TracedState, live_process}
use Rattle.pr_model.specs.Statuses.{status_of, status_of_found}
use Rattle.pr_model.specs.Stops.{representative}
use Rattle.pr_model.specs.declared.calls.Call.{Call}
use Rattle.pr_model.specs.declared.calls.Call.TheVariants as call
use Rattle.pr_model.specs.declared.calls.File.TheVariants as file
use Rattle.pr_model.specs.declared.calls.Mode.TheVariants.{Read}
use Rattle.pr_model.specs.declared.calls.Reply.{Reply}
use Rattle.pr_model.specs.declared.events.Entry.{Entry}
use Rattle.pr_num.specs.Limits.{instruction_size}
use Rattle.pr_num.specs.Messages.{spelling}
use Rattle.pr_num.specs.declared.messages.Message.TheVariants as message
use Rattle.pr_reached.proofs.RecordsInRange.EntryRanges.{records-range}
use Rattle.pr_rec.specs.declared.lwps.LwpStatus.{LwpStatus}
use Rattle.pr_report_laws.proofs.Machine.RecordLaws.{status-read}
use Rattle.pr_truss.specs.Asides.{marks_at}
use Rattle.pr_truss.specs.FunctionCalls.{call_beside, function_call_of, next_function_call_of, patch_call}
use Rattle.pr_truss.specs.Marks.{address_of, first_function}
use Rattle.pr_truss.specs.Messages.{message_call}
use Rattle.pr_truss.specs.NextCalls.{call_of, next_call_of, read_record}
use Rattle.pr_truss.specs.Records.{status_lwp}
use Rattle.pr_truss.specs.Replies.{answer_of}
use Rattle.pr_truss.specs.Trusses.{TrussState, traced_at}
use Rattle.pr_truss.specs.declared.asides.Aside.{Aside}
use Rattle.pr_truss.specs.declared.asides.Aside.TheVariants.{Nothing, Patching, Planting, Reading}
use Rattle.pr_truss.specs.declared.replies.Answer.TheVariants.{Gone, Interrupted}
use Rattle.pr_truss.specs.declared.stages.Stage.{Stage}
use Rattle.pr_truss.specs.declared.stages.Stage.TheVariants.{ReadingStatus, ReadingText, Running}
use Rattle.pr_truss_laws.proofs.Files.OpensLemmas.{held_by}
use Rattle.pr_truss_laws.proofs.Machine.OverLemmas.{stays-over}
use Rattle.pr_truss_laws.specs.Stills.{IsUndisturbed}
use Rattle.pr_world.specs.ControllerStates.{ControllerState}

-- A call of a truss that goes on, and a process that it runs soon: until truss runs it, its lwps stay; then it is run
-- with the flags that its status has brought about.

-- ---- what comes before a process is run

-- breakpoints of another are not patched then
opened-soon : (place i : ℕ) (stage : Stage) → IsOpenedAt place stage → is_run_soon stage i ≡ true → ⊥
opened-soon place i (Running at) opened soon = opened
opened-soon place i (ReadingText at l from len) opened soon = opened
opened-soon place i _ opened soon = false≢true soon

looked-soon : (place i : ℕ) (stage : Stage) → IsLookedAt place stage → is_run_soon stage i ≡ true → place ≡ i
looked-soon place i (Running at) looked soon = sym looked ∙ eqb-true at i soon
looked-soon place i (ReadingText at l from len) looked soon = sym looked ∙ eqb-true at i soon
looked-soon place i _ looked soon = absurd (false≢true soon)

pub patched-first : (aside : Aside) (stage : Stage) (i : ℕ) → FitsAside aside stage → is_run_soon stage i ≡ true
    → IsPatchedFirst i aside
patched-first Nothing stage i fits soon = tt
patched-first (Reading at function) stage i fits soon = opened-soon at i stage fits soon
patched-first (Planting at function) stage i fits soon = opened-soon at i stage fits soon
patched-first (Patching at plants lifts clear) stage i fits soon =
    looked-soon at i stage (patch-looked at plants clear stage fits.0) soon
patched-first _ stage i fits soon = false≢true (sym (ap (λ st. is_run_soon st i) fits) ∙ soon)

-- it is run now, or not
pub runs-now : (aside : Aside) (stage : Stage) (i : ℕ) → is_run_soon stage i ≡ true
    → ((stage ≡ Running i) × (aside ≡ Nothing)) ⊎ (aside ≡ Nothing → stage ≢ Running i)
runs-now Nothing (Running at) i soon = inl (ap (λ q. Running q) (eqb-true at i soon), refl)
runs-now Nothing (ReadingText at l from len) i soon = inr (λ idle runs. cc)
runs-now Nothing _ i soon = absurd (false≢true soon)
runs-now _ stage i soon = inr (λ idle runs. cc)

-- one process at most is run soon
pub soon-same : (stage : Stage) (a b : ℕ) → is_run_soon stage a ≡ true → is_run_soon stage b ≡ true → a ≡ b
soon-same (Running at) a b one two = sym (eqb-true at a one) ∙ eqb-true at b two
soon-same (ReadingText at l from len) a b one two = sym (eqb-true at a one) ∙ eqb-true at b two
soon-same _ a b one two = absurd (false≢true one)

-- ---- the calls before that

module _ {n : ℕ} {who : Hiders} {controllers : List ControllerState} {first : TracedState}
    {h : List Entry} (run : IsRunOfTrusses n who controllers first h) (front back : List Entry) (j : ℕ) (c : Call)
    (r : Reply) (place : h ≡ front ++ call_entry j c r ∷ back) (hider : hides who j ≡ true)
    (off : (tr run front back j c r place hider).leaving ≡ false) where
  abbrev here : List Entry → TracedState
  here front = state_after first front

  abbrev e : Entry
  e = call_entry j c r

  abbrev later_front : List Entry
  later_front = front ++ e ∷ []

  abbrev v : TracedState
  v = here front

  abbrev t : TrussState
  t = tr run front back j c r place hider

  abbrev then_t : TrussState
  then_t = u run front back j c r place hider

  goes : Goes (Unit {0}) j (run-options run j hider) t v
  goes = Calm.goes run front e back place j hider off

  over-own : (at : ℕ) → at < v.system.made → live_process v.system at ≡ None
      → (let own = Calls.own run front back j c r place (kept-now run front back j c r place) hider in
      live_process own.answer.state.system at ≡ None)
  over-own at made none =
      let own = Calls.own run front back j c r place (kept-now run front back j c r place) hider in
      ap (λ (y : TracedState). live_process y.system at) own.later
      ∙ stays-over n v e at (Calm.lawful run front back j c r place hider)
      (its-legal run front e back place (kept-now run front back j c r place)) made none

  answered-is : (let own = Calls.own run front back j c r place (kept-now run front back j c r place) hider in
      own.answer.state ≡ here later_front)
  answered-is =
      let own = Calls.own run front back j c r place (kept-now run front back j c r place) hider in
      own.later ∙ sym (now-is run front e back place (kept-now run front back j c r place))

  module _ (i : ℕ) (inside : i < length t.traced) where
    abbrev pid : ℕ
    pid = (traced_at t i).pid

    -- one of which truss is told that it is gone has ended
    pub gone-then : called_at t.stage t.aside ≡ Some i → answer_of r ≡ Gone → (x : TracedProcess)
        → live_process (here later_front).system pid ≡ Some x → ⊥
    gone-then called told x later =
        let over = Calm.told-over run front back j c r place hider off i called told in
        none-some x
        (sym (over-own pid (Calm.control-there run front back j c r place hider i inside) over)
        ∙ ap (λ (y : TracedState). live_process y.system pid) answered-is ∙ later)

    -- ---- it is run

    pub call-runs : t.stage ≡ Running i → t.aside ≡ Nothing
        → c ≡ message_call (traced_at t i).control (message.Run (traced_at t i).marks.flags)
    unfolding function_call_of
    call-runs runs idle =
        same_Some c _
        (sym (Calm.call-now run front back j c r place hider idle) ∙ ap (function_call_of t) runs)

    -- ---- its status is read

    call-reads : t.stage ≡ ReadingStatus i → t.aside ≡ Nothing → c ≡ read_record (traced_at t i).status
    unfolding function_call_of call_of
    call-reads reads idle =
        same_Some c _
        (sym (Calm.call-now run front back j c r place hider idle) ∙ ap (function_call_of t) reads)

    -- with these run flags truss runs it then
    pub read-flags : t.stage ≡ ReadingStatus i → t.aside ≡ Nothing → (p : TracedProcess)
        → live_process v.system pid ≡ Some p
        → flags_after t i r (answer_of r) ≡ flags_read t i (Some (status_of_found p (representative p)))
    unfolding status_of
    read-flags reads idle p live =
        let own = Calls.own run front back j c r place (kept-now run front back j c r place) hider in
        let g = goes in
        let lawful = Calm.lawful run front back j c r place hider in
        let its = goes-opened (Unit {0}) j _ t v goes i inside (ap (λ st. is_opened st i) reads) in
        let files = its.files in
        let at = g.reached tt in
        let records = records-range v.system lawful.system at.in_range in
        let ranged = (records.processes pid p (found-live v.system pid p live).0).status in
        let sees =
        status-read v j its.status (held_by j pid 0 file.Status Read) files.reads own.answer p live refl ranged
        (ap (answer_to v j) (sym (ap read_record files.own_status) ∙ sym (call-reads reads idle)) ∙ own.is) in
        ap (flags_after t i r) (sym (ap answer_of own.replied) ∙ sees.accepted)
        ∙ ap (flags_read t i) (sym (ap (λ y. option_and_then status_lwp (bytes_in y)) own.replied) ∙ sees.lwp)

    -- ---- it is run soon

    module _ (soon : is_run_soon t.stage i ≡ true) where
      -- a process of it was there before, and was left alone, or its lwps were
      abbrev WasLeft : TracedProcess → Type 0
      WasLeft x =
          (p : TracedProcess) × ((live_process v.system pid ≡ Some p) × (IsUndisturbed p x ⊎ KeepsLwps p x))

      abbrev Left : Type 0
      Left =
          ((x : TracedProcess) → live_process (here later_front).system pid ≡ Some x → WasLeft x)
          × ((number : ℕ) → c ≢ call.Close number)

      -- by a call that acts by no handle
      none-acts : acts_by c ≡ None → Left
      none-acts none = (
        λ x later.
            (let was =
            Calm.own-alone run front back j c r place hider i inside
            (λ m held acts there at. none-some m (sym none ∙ acts)) x later in
            (was.0, (was.1.0, inl was.1.1))),
        λ number is. none-some number (sym none ∙ ap acts_by is),
      )

      -- by a message that leaves the lwps
      written : (sent : List ℕ) → c ≡ call.Ctl (traced_at t i).control sent → BeginLeavingLwps sent → Left
      written sent is begins = (
        λ x later.
            (let own = Calls.own run front back j c r place (kept-now run front back j c r place) hider in
            let f = Calm.files run front e back place j hider in
            let lawful = Calm.lawful run front back j c r place hider in
            let was =
            by-process n j t.options v lawful c own.answer own.is over-own pid (traced_at t i).control sent is
            (f.control i inside) KeepsLwps
            (λ p y live now.
            message-lwps n j t.options v lawful c own.answer own.is over-own (traced_at t i) sent is
            (f.control i inside) p y live now begins) x
            (ap (λ (y : TracedState). live_process y.system pid) answered-is ∙ later) in
            (was.0, (was.1.0, inr was.1.1))),
        λ number closes. (let both : call.Ctl (traced_at t i).control sent ≡ call.Close number = sym is ∙ closes in cc),
      )

      begins-write : (at size : ℕ) (code : List ℕ) → BeginLeavingLwps (spelling (message.Write at size) code)
      begins-write at size code = write-as leaves_lwps (λ a b. refl) at size code

      -- by a breakpoint that is planted or lifted
      patch-soon : (plant lift : Option ℕ) → (is_some plant || is_some lift) ≡ true
          → c ≡ patch_call t.options (traced_at t i).control plant lift → Left
      patch-soon (Some f) lift busy is = written _ is (begins-write (address_of t.options f) instruction_size _)
      patch-soon None (Some f) busy is = written _ is (begins-write (address_of t.options f) instruction_size _)
      patch-soon None None busy is = absurd (false≢true busy)

      -- by memory that is read
      reads-text : (at from len : ℕ) (l : LwpStatus) → t.stage ≡ ReadingText at l from len → t.aside ≡ Nothing
          → Left
      unfolding function_call_of call_of
      reads-text at from len l is idle =
          none-acts
          (ap acts_by
          (same_Some c _ (sym (Calm.call-now run front back j c r place hider idle) ∙ ap (function_call_of t) is)))

      stage-soon : (stage : Stage) → t.stage ≡ stage → t.aside ≡ Nothing → is_run_soon stage i ≡ true
          → stage ≢ Running i → Left
      stage-soon (Running at) is idle here_soon away = absurd (away (ap (λ q. Running q) (eqb-true at i here_soon)))
      stage-soon (ReadingText at l from len) is idle here_soon away = reads-text at from len l is idle
      stage-soon _ is idle here_soon away = absurd (false≢true here_soon)

      patch-is : (at : ℕ) (plants lifts : List Bool) (clear : Bool) → t.aside ≡ Patching at plants lifts clear
          → at ≡ i
          → c ≡ patch_call t.options (traced_at t i).control (first_function plants) (first_function lifts)
      unfolding next_function_call_of call_beside
      patch-is at plants lifts clear is same =
          same_Some c _
          (sym (Calm.next run front back j c r place hider)
          ∙ ap (λ b. cond b (call_beside t t.stage t.aside) (next_call_of t))
          (Calm.has run front back j c r place hider)
          ∙ ap (call_beside t t.stage) is
          ∙ ap (λ q. Some (patch_call t.options (traced_at t q).control (first_function plants) (first_function lifts)))
          same)

      aside-soon : (aside : Aside) → t.aside ≡ aside → IsPatchedFirst i aside
          → AtAside (IsSo (Unit {0}) j t.options v) t.traced aside → (t.aside ≡ Nothing → t.stage ≢ Running i) → Left
      aside-soon Nothing is first_patched beside away = stage-soon t.stage refl is soon (away is)
      aside-soon (Patching at plants lifts clear) is first_patched beside away =
          patch-soon (first_function plants) (first_function lifts) beside.1.0
          (patch-is at plants lifts clear is first_patched)
      aside-soon _ is first_patched beside away = absurd first_patched

      first-now : IsPatchedFirst i t.aside
      first-now = patched-first t.aside t.stage i (Calm.fit-here run front e back place j hider) soon

      pub left-so : (t.aside ≡ Nothing → t.stage ≢ Running i) → Left
      left-so away = let g = goes in let kept = g.kept in aside-soon t.aside refl first-now kept.beside away

      called-it : (aside : Aside) (stage : Stage) → IsPatchedFirst i aside → is_run_soon stage i ≡ true
          → called_at stage aside ≡ Some i
      called-it Nothing (Running at) first_patched here_soon = ap (λ q. Some q) (eqb-true at i here_soon)
      called-it Nothing (ReadingText at l from len) first_patched here_soon =
          ap (λ q. Some q) (eqb-true at i here_soon)
      called-it Nothing _ first_patched here_soon = absurd (false≢true here_soon)
      called-it (Patching at plants lifts clear) stage first_patched here_soon = ap (λ q. Some q) first_patched
      called-it _ stage first_patched here_soon = absurd first_patched

      pub called-soon : called_at t.stage t.aside ≡ Some i
      called-soon = called-it t.aside t.stage first-now soon

      -- truss goes on with it, or it has ended
      pub goes-soon : answer_of r ≢ Interrupted → (t.aside ≡ Nothing → t.stage ≢ Running i)
          → RunsOrCloses r i (marks_at t i).flags then_t
      goes-soon calm away =
          let f = Calm.on run front e back place j hider off in
          let its : RunsSoon i (marks_at t i).flags t = record {
            follow = f.follow;
            off = f.off;
            within = inside;
            stage = soon;
            flags = refl;
            aside = first-now;
          } in
          soon-on t r i (marks_at t i).flags calm its (Calm.has run front back j c r place hider) away
