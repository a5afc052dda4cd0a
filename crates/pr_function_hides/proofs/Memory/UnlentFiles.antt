use Rattle.std.proofs.Common.{◌≡◌, ◌≢◌, ◌⊎◌, ◌++◌, ℕ, true, false, cond, Option, Some, None, IsSome, List, [], ◌∷◌, append-nil, append_assoc, refl, sym, subst, ap, ◌∙◌, inl, inr}
use Rattle.std.proofs.lemmas.Bool.{cases_eq, false≢true}
use Rattle.std.proofs.lemmas.Option.{none-some, same_Some}
use Rattle.pr_api.specs.Entries.{call_entry}
use Rattle.pr_function_hides.proofs.Files.CallFacts.{legal-here, open-made}
use Rattle.pr_function_hides.proofs.Tidy.CopyFree.{entry-is, opens-out, reached-run, run-options}
use Rattle.pr_function_hides.proofs.Copying.CopyWalk.{next-is}
use Rattle.pr_function_hides.proofs.Memory.Unborrowed.{IsUnborrowed, entry-unborrowed, unborrowed-none, unborrowed-now}
use Rattle.pr_function_hides.specs.CountedFunctions.{HasBorrowed, directly, through}
use Rattle.pr_function_hides.specs.RunsOfTrusses.{IsRunOfTrusses}
use Rattle.pr_function_laws.proofs.Stepping.BreakpointLemmas.{IsOwnEntry, foreign-entry, own-entry}
use Rattle.pr_function_laws.specs.Opened.{functions_at}
use Rattle.pr_hidden.specs.Hiders.{Hiders, hides}
use Rattle.pr_lawful.proofs.ProcessParts.HandleLemmas.{handle-at}
use Rattle.pr_lawful.proofs.LawfulStates.HistoryLemmas.{history-state}
use Rattle.pr_lending.proofs.LendingStates.HistoryLemmas.{history-lends}
use Rattle.pr_lending.proofs.ProcessLoans.LoanLemmas.{lender-found}
use Rattle.pr_lending.specs.Lending.{AreLending}
use Rattle.pr_line.specs.declared.options.Options.{Options}
use Rattle.pr_model.proofs.HistoryLemmas.{state_after-push}
use Rattle.pr_model.proofs.StateLemmas.{live_process-found}
use Rattle.pr_model.specs.Calls.{answer_to}
use Rattle.pr_model.specs.Handles.{handle_of, is_control}
use Rattle.pr_model.specs.Lawful.{IsLawful}
use Rattle.pr_model.specs.Legal.{IsLegal, IsLegalEntry, after, state_after}
use Rattle.pr_model.specs.Readers.{borrower_at}
use Rattle.pr_model.specs.State.{TracedProcess, TracedState, TracedSystem, live_process}
use Rattle.pr_model.specs.declared.calls.Call.{Call}
use Rattle.pr_model.specs.declared.calls.Call.TheVariants as call
use Rattle.pr_model.specs.declared.calls.File.{File}
use Rattle.pr_model.specs.declared.calls.File.TheVariants as file
use Rattle.pr_model.specs.declared.calls.Mode.{Mode}
use Rattle.pr_model.specs.declared.calls.Mode.TheVariants.{WriteExcl}
use Rattle.pr_model.specs.declared.events.Act.{Act}
use Rattle.pr_model.specs.declared.events.Actor.{Actor}
use Rattle.pr_model.specs.declared.events.Entry.{Entry}
use Rattle.pr_model.specs.declared.handles.Held.{Held}
use Rattle.pr_tool_laws.proofs.Records.WholeLemmas.{front-legal}
use Rattle.pr_truss.specs.FunctionCalls.{call_beside, function_call_of, next_function_call_of, patch_call}
use Rattle.pr_truss.specs.Marks.{has_functions}
use Rattle.pr_truss.specs.NextCalls.{call_of, child_call, freeing_call, next_call_of, opening_call}
use Rattle.pr_truss.specs.Replies.{answer_of}
use Rattle.pr_truss.specs.Trusses.{TrussState, traced_at}
use Rattle.pr_truss.specs.declared.asides.Aside.{Aside}
use Rattle.pr_truss.specs.declared.asides.Aside.TheVariants.{Nothing, Patching}
use Rattle.pr_truss.specs.declared.processes.Traced.{Traced}
use Rattle.pr_truss.specs.declared.replies.Answer.TheVariants.{Accepted}
use Rattle.pr_truss.specs.declared.stages.ChildStep.{ChildStep}
use Rattle.pr_truss.specs.declared.stages.ChildStep.TheVariants as child
use Rattle.pr_truss.specs.declared.stages.FreeingStep.{FreeingStep}
use Rattle.pr_truss.specs.declared.stages.FreeingStep.TheVariants as freeing
use Rattle.pr_truss.specs.declared.stages.OpeningStep.{OpeningStep}
use Rattle.pr_truss.specs.declared.stages.OpeningStep.TheVariants as opening
use Rattle.pr_truss.specs.declared.stages.Stage.{Stage}
use Rattle.pr_truss.specs.declared.stages.Stage.TheVariants.{FreeingChild, Opening, OpeningChild, OpeningChildControl, OpeningControl, Running, Unfollowing}
use Rattle.pr_truss_laws.proofs.Files.OpensLemmas.{ClosesOne, NotOpen, Opens, Refuses, close-closes, held_by, open-opens, own-mine, own-other, own-set, plain-leaves}
use Rattle.pr_truss_laws.specs.Exchanges.{Exchange, exchange_of}
use Rattle.pr_world.specs.ControllerStates.{ControllerState}

-- Who has borrowed its memory is no process whose control file one has open who hides: none has when it is opened, and
-- none gets a lender later.

-- ---- which control files truss opens

-- a call that opens a control file is one by which truss begins with a process
abbrev OpensControl : Option Call → Type 0
OpensControl (Some (call.Open pid id f mode)) =
    is_control f ≡ true → call.Open pid id f mode ≡ call.Open pid 0 file.Ctl WriteExcl
OpensControl _ = Unit {0}

opening-control : (o : Options) (t : Traced) (step : OpeningStep) → OpensControl (Some (opening_call o t step))
unfolding opening_call
opening-control o t opening.OpenStatus = λ is. cc
opening-control o t opening.OpenLstatus = λ is. cc
opening-control o t opening.OpenMemory = λ is. cc
opening-control o t _ = tt

child-control : (t : Traced) (step : ChildStep) → OpensControl (Some (child_call t step))
unfolding child_call
child-control t child.OpenStatus = λ is. cc
child-control t child.OpenLstatus = λ is. cc
child-control t child.OpenMemory = λ is. cc
child-control t _ = tt

freeing-control : (pid : ℕ) (step : FreeingStep) → OpensControl (Some (freeing_call pid step))
unfolding freeing_call
freeing-control pid freeing.OpenControl = λ is. refl
freeing-control pid _ = tt

stage-control : (s : TrussState) (stage : Stage) → OpensControl (call_of s stage)
unfolding call_of
stage-control s (OpeningControl pid) = λ is. refl
stage-control s (Opening place step) = opening-control s.options (traced_at s place) step
stage-control s (OpeningChildControl parent pid) = λ is. refl
stage-control s (OpeningChild parent place step) = child-control (traced_at s place) step
stage-control s (FreeingChild pid step) = freeing-control pid step
stage-control s _ = tt

function-control : (s : TrussState) (stage : Stage) → OpensControl (function_call_of s stage)
unfolding function_call_of
function-control s (Opening place opening.TraceSignals) = tt
function-control s (Opening place opening.TraceFaults) = tt
function-control s (Opening place opening.TraceEntries) = tt
function-control s (Opening place opening.TraceExits) = tt
function-control s (Running place) = tt
function-control s Unfollowing = tt
function-control s stage = stage-control s stage

patch-control : (o : Options) (control : ℕ) (plant lift : Option ℕ)
    → OpensControl (Some (patch_call o control plant lift))
patch-control o control (Some i) lift = tt
patch-control o control None (Some i) = tt
patch-control o control None None = tt

beside-control : (s : TrussState) (stage : Stage) (aside : Aside) → OpensControl (call_beside s stage aside)
unfolding call_beside
beside-control s stage Nothing = function-control s stage
beside-control s stage (Patching q plants lifts clear) = patch-control s.options _ _ _
beside-control s stage _ = tt

next-control : (s : TrussState) → OpensControl (next_function_call_of s)
unfolding next_function_call_of next_call_of
next-control s =
    elim (has_functions s.options)
    as (λ b. OpensControl (cond b (call_beside s s.stage s.aside) (call_of s s.stage))) [
      | true ↦ beside-control s s.stage s.aside
      | false ↦ stage-control s s.stage
    ]

-- ---- who has borrowed its memory

-- it has a lender
lent-not : (s : TracedSystem) (a x : ℕ) → AreLending s → borrower_at s a ≡ Some x → IsUnborrowed x s → ⊥
lent-not s a x lending is it = by (live_process s x) refl (lending.lives a x is).1
  where
    by : (y : Option TracedProcess) → live_process s x ≡ y → IsSome y → ⊥
    by None none some = false≢true some
    by (Some q) live some =
        none-some a
        (sym (unborrowed-none x s it q live) ∙ sym (lender-found s x q (live_process-found s x q live))
        ∙ lending.lent a x is)

borrowed-not : (s : TracedSystem) (pid x : ℕ) → AreLending s → HasBorrowed s pid x → IsUnborrowed x s → ⊥
borrowed-not s pid x lending (directly is) it = lent-not s pid x lending is it
borrowed-not s pid x lending (through {a = a} from is) it = lent-not s a x lending is it

-- ---- along a history

module _ {n : ℕ} {who : Hiders} {controllers : List ControllerState} {first : TracedState}
    {h : List Entry} (run : IsRunOfTrusses n who controllers first h) (k : ℕ) (hider : hides who k ≡ true) where
  abbrev now : List Entry → TracedState
  now front = state_after first front

  abbrev o : Options
  o = run-options run k hider

  -- the processes whose control files it has open have borrowed their memory from nobody
  abbrev AreUnlent : TracedState → Type 0
  AreUnlent s =
      (m : ℕ) (g : Held) → handle_of s.opens k m ≡ Some g → is_control g.file ≡ true → IsUnborrowed g.pid s.system

  at-first : AreUnlent first
  at-first m g there control =
      let begins = run.are.begins k hider in absurd (none-some g (sym (begins.none m) ∙ there))

  module _ (front : List Entry) (actor : Actor) (did : Act) (back : List Entry)
      (place : h ≡ front ++ record { actor = actor; act = did } ∷ back) where
    abbrev e : Entry
    e = record { actor = actor; act = did }

    abbrev s : TracedState
    s = now front

    legal-all : IsLegal n first (front ++ e ∷ back)
    legal-all = subst (λ (es : List Entry). IsLegal n first es) place run.legal

    legal : IsLegalEntry n s e
    legal = legal-here n first front e back legal-all

    lawful : IsLawful s
    lawful = history-state n first front (let x = run.reached in x.lawful) (front-legal n first front
        (e ∷ back) legal-all)

    goes-on : (pid : ℕ) → IsUnborrowed pid s.system → IsUnborrowed pid (after s e).system
    goes-on pid it = entry-unborrowed pid n s actor did legal it

    -- where the handles are as they were
    same-files : ((m : ℕ) → handle_of (after s e).opens k m ≡ handle_of s.opens k m) → AreUnlent s
        → AreUnlent (after s e)
    same-files same was m g there control = goes-on g.pid (was m g (sym (same m) ∙ there) control)

    module _ (x : Exchange) (own : exchange_of k e ≡ Some x) where
      it : IsOwnEntry k s e x
      it = own-entry n k s e x legal own

      next-call : next_function_call_of (functions_at k o front) ≡ Some x.call
      next-call =
          next-is n k o first h (reached-run run k hider) (opens-out run k hider) front back e place x own

      -- one that it opens
      opened-one : (pid id : ℕ) (f : File) (mode : Mode) → x.call ≡ call.Open pid id f mode → is_control f ≡ true
          → answer_of x.reply ≡ Accepted → IsUnborrowed pid s.system
      opened-one pid id f mode is control accepted =
          let ours : x.call ≡ call.Open pid 0 file.Ctl WriteExcl =
          is
          ∙ (subst OpensControl (next-call ∙ ap (λ c. Some c) is) (next-control (functions_at k o front))) control in
          let w = it in
          unborrowed-now pid s.system lawful.system
          (open-made s k pid lawful.system w.answer (ap (answer_to s k) (sym ours) ∙ w.is)
          (ap answer_of w.replied ∙ accepted))
          (λ p live.
          run.undisturbed.untouched.unlent front back k pid x.reply p
          (place ∙ ap (λ (y : Entry). front ++ y ∷ back)
          (entry-is k e x own ∙ ap (λ (c : Call). call_entry k c x.reply) ours)) hider accepted live)

      called : (c : Call) → x.call ≡ c → AreUnlent s → AreUnlent (after s e)
      unfolding answer_of
      called (call.Open pid id f mode) is was = by (open-opens s k pid id f mode w.answer (ap (answer_to s k) (sym is)
          ∙ w.is))
        where
          w : IsOwnEntry k s e x
          w = it

          old : w.answer.state.opens ≡ s.opens → AreUnlent (after s e)
          old same =
              same-files
              (λ m. ap (λ (y : TracedState). handle_of y.opens k m) (sym w.later)
              ∙ ap (λ os. handle_of os k m) same) was

          by : Refuses s w.answer.reply w.answer.state.opens
              ⊎ Opens s k (held_by k pid id f mode) w.answer.reply w.answer.state.opens → AreUnlent (after s e)
          by (inl refused) m g there control = old refused.is m g there control
          by (inr new) m g there control = of (cases_eq new.place m)
            where
              found : handle_of w.answer.state.opens k m ≡ Some g
              found = ap (λ (y : TracedState). handle_of y.opens k m) w.later ∙ there

              of : (new.place ≡ m) ⊎ (new.place ≢ m) → IsUnborrowed g.pid (after s e).system
              of (inr other) =
                  goes-on g.pid
                  (was m g
                  (sym (ap (λ os. handle_of os k m) new.is ∙ own-other s.opens k new.place m _ other) ∙ found) control)
              of (inl same) =
                  let mine : held_by k pid id f mode ≡ g =
                  same_Some (held_by k pid id f mode) g
                  (sym (ap (λ os. handle_of os k new.place) new.is
                  ∙ own-set s.opens k new.place (Some (held_by k pid id f mode)) None new.free
                  ∙ own-mine k (held_by k pid id f mode) refl)
                  ∙ ap (handle_of w.answer.state.opens k) same ∙ found) in
                  goes-on g.pid
                  (subst (λ (y : Held). IsUnborrowed y.pid s.system) mine
                  (opened-one pid id f mode is (ap (λ (y : Held). is_control y.file) mine ∙ control)
                  (ap answer_of (sym w.replied ∙ new.reply))))
      called (call.Close number) is was =
          by (close-closes s k number w.answer (ap (answer_to s k) (sym is) ∙ w.is))
        where
          w : IsOwnEntry k s e x
          w = it

          by : NotOpen s k number w.answer ⊎ ((g : Held) × ClosesOne s k number g w.answer) → AreUnlent (after s e)
          by (inl none) m g there control =
              same-files
              (λ i. ap (λ (y : TracedState). handle_of y.opens k i) (sym w.later) ∙ ap (λ os. handle_of os k i) none.is)
              was m g there control
          by (inr one) m g there control = of (cases_eq number m)
            where
              found : handle_of w.answer.state.opens k m ≡ Some g
              found = ap (λ (y : TracedState). handle_of y.opens k m) w.later ∙ there

              of : (number ≡ m) ⊎ (number ≢ m) → IsUnborrowed g.pid (after s e).system
              of (inr other) =
                  goes-on g.pid
                  (was m g
                  (sym (ap (λ os. handle_of os k m) one.1.is ∙ own-other s.opens k number m None other)
                  ∙ found) control)
              of (inl same) =
                  absurd (none-some g
                  (sym (ap (λ os. handle_of os k number) one.1.is
                  ∙ own-set s.opens k number None (Some one.0) (handle-at s.opens k number one.0 one.1.held))
                  ∙ ap (handle_of w.answer.state.opens k) same ∙ found))
      called c is was =
          let w = it in
          same-files
          (λ m.
          ap (λ (y : TracedState). handle_of y.opens k m) (sym w.later)
          ∙ ap (λ os. handle_of os k m) (plain-leaves s k c w.answer refl (ap (answer_to s k) (sym is) ∙ w.is))) was

    entry-unlent : AreUnlent s → AreUnlent (now (front ++ e ∷ []))
    entry-unlent was = subst AreUnlent (sym (state_after-push first front e)) (by (exchange_of k e) refl)
      where
        by : (x : Option Exchange) → exchange_of k e ≡ x → AreUnlent (after s e)
        by None none = let w = foreign-entry n k s e legal none in same-files w.handles was
        by (Some x) own = called x own x.call refl was

  walk : (middle front back : List Entry) → h ≡ front ++ (middle ++ back) → AreUnlent (now front)
      → AreUnlent (now (front ++ middle))
  walk [] front back place was = subst (λ es. AreUnlent (now es)) (sym (append-nil front)) was
  walk (e ∷ middle) front back place was =
      subst (λ es. AreUnlent (now es)) (append_assoc front (e ∷ []) middle)
      (walk middle (front ++ e ∷ []) back (place ∙ sym (append_assoc front (e ∷ []) (middle ++ back)))
      (entry-unlent front e.actor e.act (middle ++ back) place was))

  unlent-at : (front back : List Entry) → h ≡ front ++ back → AreUnlent (now front)
  unlent-at front back place = walk front [] back place at-first

  -- it writes to none that has
  pub never-borrowed : (front back : List Entry) → h ≡ front ++ back → (m : ℕ) (g : Held)
      → handle_of (now front).opens k m ≡ Some g → is_control g.file ≡ true → (pid : ℕ)
      → HasBorrowed (now front).system pid g.pid → ⊥
  never-borrowed front back place m g there control pid borrowed =
      borrowed-not (now front).system pid g.pid
      (history-lends n first front (let x = run.reached in x.lawful) (let x = run.reached in x.lending)
      (front-legal n first front back (subst (λ (es : List Entry). IsLegal n first es) place run.legal))) borrowed
      (unlent-at front back place m g there control)
