use Rattle.std.proofs.Common.{◌≡◌, ◌<◌, ◌&&◌, ℕ, Bool, true, false, is_some, Option, Some, None, length, refl, sym, subst}
use Rattle.std.proofs.Common.{◌∙◌}
use Rattle.std.proofs.lemmas.Bool.{false≢true}
use Rattle.pr_function_hides.proofs.Replies.LeavingStages.{IsLeft, asks, awaits, closes_files, halts, has_ended, lifts_all}
use Rattle.pr_function_hides.proofs.Replies.LeavingStages.{looks, reads_text, waits_again}
use Rattle.pr_function_laws.proofs.LeavingProcesses.LeavingSteps.{FirstIs, IsAt, IsAtNext, IsAtStep, Look, NextLeft, Then}
use Rattle.pr_function_laws.proofs.LeavingProcesses.LeavingSteps.{Went, begins, ended, finished-fed, halted, has_read}
use Rattle.pr_function_laws.proofs.LeavingProcesses.LeavingSteps.{is_gone, leaves, looked, loses, next-is, none_left}
use Rattle.pr_function_laws.proofs.LeavingProcesses.LeavingSteps.{patched, shuts, step_at, tells_last, tells_neither}
use Rattle.pr_function_laws.proofs.LeavingProcesses.LeavingSteps.{tells_own, to_close, to_lift, to_read}
pub use Rattle.pr_function_laws.proofs.LeavingProcesses.LeavingSteps.{TellsOwn, is_own_event}
use Rattle.pr_function_laws.proofs.LeavingProcesses.LeavingWaits.{WaitsAt, awaits_opening, interrupted_at, polls, waits-fed}
use Rattle.pr_function_laws.specs.Leaving.{AsksAgain, Directs, HaltStep, Waits, WaitsAgain, halt_next}
use Rattle.pr_model.specs.Replies.{until_in}
use Rattle.pr_model.specs.declared.calls.Reply.{Reply}
use Rattle.pr_truss.specs.Asides.{has_fault_to_clear, marks_at}
use Rattle.pr_truss.specs.FunctionFeeding.{fed_functions}
use Rattle.pr_truss.specs.Marks.{first_function, has_functions}
use Rattle.pr_truss.specs.Openings.{with_stop_seen}
use Rattle.pr_truss.specs.Processes.{without_last}
use Rattle.pr_truss.specs.Replies.{answer_of}
use Rattle.pr_truss.specs.Trusses.{TrussState, traced_at}
use Rattle.pr_truss.specs.declared.asides.Aside.{Aside}
use Rattle.pr_truss.specs.declared.asides.Aside.TheVariants.{Asking, AwaitingAgain, AwaitingStop, Nothing, Patching}
use Rattle.pr_truss.specs.declared.processes.Traced.{Traced}
use Rattle.pr_truss.specs.declared.replies.Answer.{Answer}
use Rattle.pr_truss.specs.declared.replies.Answer.TheVariants.{Accepted, Gone, Interrupted, Refused}
use Rattle.pr_truss.specs.declared.stages.Stage.{Stage}
use Rattle.pr_truss.specs.declared.stages.Stage.TheVariants.{Closing, ReadingLwps, ReadingText, Unfollowing}
use Rattle.pr_truss_laws.proofs.Files.HeldLemmas.{at_place}

-- The process that a truss leaves first, by where truss stands with it. It was attached; its wait for the stop has no
-- end; when truss looks at its lwps it stands still; and where truss will clear its fault, that is the fault of the lwp
-- at which PCCFAULT is aimed.

-- Still is what is so when truss looks at the lwps, Leads what is so while it will clear the fault, and Done what is so
-- once it has looked and none is left to clear.
module _ (Still Leads Done : ℕ → Type 0) where
  abbrev pub FirstAt : Aside → Stage → Traced → Type 0
  FirstAt (AwaitingStop until) stage v = (v.attached ≡ true) × (until ≡ 0)
  FirstAt (AwaitingAgain until) stage v = (v.attached ≡ true) × (until ≡ 0)
  FirstAt Asking stage v = v.attached ≡ true
  FirstAt Nothing Unfollowing v = v.attached ≡ true
  FirstAt Nothing ReadingLwps v = (v.attached ≡ true) × Still v.pid
  FirstAt Nothing (ReadingText q l from len) v = Done v.pid
  FirstAt Nothing (Closing q next) v = v.attached ≡ true → Done v.pid
  FirstAt (Patching q plants lifts true) stage v = Leads v.pid
  FirstAt (Patching q plants lifts false) stage v = Done v.pid
  FirstAt aside stage v = Unit {0}

  abbrev pub First : TrussState → Type 0
  First u = FirstAt u.aside u.stage (traced_at u 0)

  -- ---- where it comes to

  placed : {stage : Stage} {aside : Aside} (v : TrussState) → IsAt v stage aside
      → FirstAt aside stage (traced_at v 0) → First v
  placed {stage} {aside} v at so =
      subst (λ a. FirstAt a v.stage (traced_at v 0)) (sym at.1)
      (subst (λ s. FirstAt aside s (traced_at v 0)) (sym at.0) so)

  next-first : (v : TrussState) → NextLeft v → First v
  next-first v (begins at within on) = placed v at on
  next-first v (shuts at within off) = placed v at (λ on. absurd (false≢true (sym off ∙ on)))
  next-first v (none_left at none) = placed v at tt

  then-first : (r : Reply) (v : TrussState) {clear : Bool} → Then r v clear
      → (answer_of r ≡ Gone → Done (traced_at v 0).pid) → (clear ≡ true → Leads (traced_at v 0).pid)
      → (clear ≡ false → Done (traced_at v 0).pid) → First v
  then-first r v (to_read l from len at) over leads done = placed v at (done refl)
  then-first r v (to_lift true at) over leads done = placed v at (leads refl)
  then-first r v (to_lift false at) over leads done = placed v at (done refl)
  then-first r v (to_close at none) over leads done = placed v at (λ on. done refl)
  then-first r v (is_gone at gone) over leads done = placed v at (λ on. over gone)

-- ---- a reply while it leaves

module _ (Still Leads Done : ℕ → Type 0) (t : TrussState) (r : Reply) (on : t.leaving ≡ true)
    (follow : t.options.follow ≡ false) (has : has_functions t.options ≡ true) where
  abbrev At : TrussState → Type 0
  At = First Still Leads Done

  abbrev pid : ℕ
  pid = (traced_at t 0).pid

  -- what the wait for the stop, or the request for it, has made so: one that is granted or refused finds the process
  -- standing still
  abbrev Granted : HaltStep → Type 0
  Granted Directs = until_in r ≡ 0
  Granted AsksAgain = until_in r ≡ 0
  Granted _ = Still pid

  abbrev StepMade : HaltStep → Type 0
  StepMade step =
      ((traced_at t 0).attached ≡ true)
      × ((answer_of r ≡ Accepted → Granted step)
      × (((errno : _) → answer_of r ≡ Refused errno → Still pid) × (answer_of r ≡ Gone → Done pid)))

  -- What the call has made so of the first process, before truss takes its reply.
  abbrev pub FirstMade : IsLeft t → Type 0
  FirstMade (halts at idle within) = StepMade Directs
  FirstMade (awaits until at beside within) = StepMade (Waits until)
  FirstMade (asks at beside within) = StepMade AsksAgain
  FirstMade (waits_again until at beside within) = StepMade (WaitsAgain until)
  FirstMade (looks at idle within) =
      (has_fault_to_clear (marks_at t 0) ≡ false)
      × ((TellsOwn t r → Leads pid) × ((TellsOwn t r → ⊥) → Done pid))
  FirstMade (reads_text l from len at idle within) = Done pid
  FirstMade (lifts_all clear at beside within) =
      ((i : ℕ) → first_function (marks_at t 0).planted ≡ Some i
      → (clear ≡ true → Leads pid) × (clear ≡ false → Done pid))
      × ((first_function (marks_at t 0).planted ≡ None → Done pid) × (answer_of r ≡ Gone → Done pid))
  FirstMade (closes_files at idle within) =
      (v : Traced) → without_last (traced_at t 0) ≡ Some v → (traced_at t 0).attached ≡ true → Done pid
  FirstMade (has_ended at idle) = Unit {0}

  step-made : (step : HaltStep) (at : IsAtStep t step) (within : 0 < length t.traced)
      → FirstMade (step_at t step at within) → StepMade step
  step-made Directs at within made = made
  step-made (Waits until) at within made = made
  step-made AsksAgain at within made = made
  step-made (WaitsAgain until) at within made = made

  -- a step of the stop was answered: it traces the same processes
  module _ (v : TrussState) (same : v.traced ≡ t.traced) where
    same-first : {stage : Stage} {aside : Aside} → IsAt v stage aside
        → FirstAt Still Leads Done aside stage (traced_at t 0) → At v
    same-first {stage} {aside} at so =
        placed Still Leads Done v at
        (subst (λ ts. FirstAt Still Leads Done aside stage (at_place ts 0)) (sym same) so)

    halt-first : (step : HaltStep) (a : Answer) → answer_of r ≡ a → IsAtNext v (halt_next step r a) → StepMade step
        → At v
    halt-first step Gone is at made = same-first at (λ attached. made.1.1.1 is)
    halt-first step Interrupted is at made = same-first at made.0
    halt-first step (Refused errno) is at made = same-first at (made.0, made.1.1.0 errno is)
    halt-first Directs Accepted is at made = same-first at (made.0, made.1.0 is)
    halt-first (Waits until) Accepted is at made = same-first at (made.0, made.1.0 is)
    halt-first AsksAgain Accepted is at made = same-first at (made.0, made.1.0 is)
    halt-first (WaitsAgain until) Accepted is at made = same-first at (made.0, made.1.0 is)

  -- whether a fault will be cleared, what is so of it
  abbrev Clears : Bool → Type 0
  Clears clear = (clear ≡ true → Leads pid) × (clear ≡ false → Done pid)

  first-then : {x : Traced} {clear : Bool} (v : TrussState) → FirstIs t x v → Then r v clear
      → (answer_of r ≡ Gone → Done pid) → Clears clear → At v
  first-then v f next over made =
      let s = f.shares in
      let same = sym (s.pids 0) in
      then-first Still Leads Done r v next (λ gone. subst Done same (over gone))
      (λ is. subst Leads same (made.0 is)) (λ is. subst Done same (made.1 is))

  not-clear : Done pid → Clears false
  not-clear done = (λ is. absurd (false≢true is), λ is. done)

  look-clears : {x : Traced} {clear : Bool} → Look t r x clear → has_fault_to_clear (marks_at t 0) ≡ false
      → (TellsOwn t r → Leads pid) → ((TellsOwn t r → ⊥) → Done pid) → Clears clear
  look-clears (tells_own own) left leads done = (λ is. leads own, λ is. absurd (false≢true (sym is)))
  look-clears (tells_last last none) left leads done = not-clear (done none)
  look-clears (tells_neither none clears) left leads done =
      (λ is. absurd (false≢true (sym left ∙ clears is)), λ is. done none)

  lift-clears : (clear : Bool) (lift : Option ℕ) → ((i : ℕ) → lift ≡ Some i → Clears clear) → (lift ≡ None → Done pid)
      → Clears (is_some lift && clear)
  lift-clears clear (Some i) some none = some i refl
  lift-clears clear None some none = not-clear (none refl)

  -- ---- a row a kind

  went-first : (w : IsLeft t) (v : TrussState) → Went t r v w → FirstMade w → At v
  went-first w v (halted step at within same to) made =
      halt-first v same step (answer_of r) refl to (step-made step at within made)
  went-first w v (looked at within look f next) made =
      first-then v f next (λ gone. made.1.1 (λ own. let both : Gone ≡ Accepted = sym gone ∙ own.accepted in cc))
      (look-clears look made.0 made.1.0 made.1.1)
  went-first w v (has_read l from len at within f next) made = first-then v f next (λ gone. made) (not-clear made)
  went-first w v (patched clear at within f next) made =
      first-then v f next made.1.1
      (lift-clears clear (first_function (marks_at t 0).planted) made.0 made.1.0)
  went-first w v (loses u at within is f to) made =
      let s = f.shares in
      placed Still Leads Done v to
      (λ attached. subst Done (sym (s.pids 0)) (made u is (sym (s.attached 0) ∙ attached)))
  went-first w v (ended at within none same to) made = next-first Still Leads Done v to

  pub fed-first : (w : IsLeft t) → FirstMade w → At (fed_functions t r)
  fed-first (has_ended at idle) made =
      subst At (sym (finished-fed t r on follow has (at, idle))) (placed Still Leads Done t (at, idle) tt)
  fed-first w made =
      let l = leaves t r on follow has w tt in went-first w (fed_functions t r) l.went made

-- ---- the first interrupt

module _ (Still Leads Done : ℕ → Type 0) (t : TrussState) (r : Reply) (has : has_functions t.options ≡ true)
    (idle : t.aside ≡ Nothing) (interrupted : answer_of r ≡ Interrupted) where
  pub first-begins : WaitsAt t → First Still Leads Done (fed_functions t r)
  unfolding interrupted_at with_stop_seen
  first-begins w =
      subst (First Still Leads Done) (sym (waits-fed t.options has t refl r interrupted idle w))
      (next-first Still Leads Done _ (next-is (interrupted_at t w) (still w)))
    where
      still : (w : WaitsAt t) → (interrupted_at t w).aside ≡ Nothing
      still (awaits_opening q until at) = idle
      still (polls at) = idle

-- ---- what else is so then

module _ (Still Leads Done Stays Still_leads Still_done : ℕ → Type 0) where
  first-at : (a : Aside) (s : Stage) (v : Traced) → (Still v.pid → Stays v.pid) → (Leads v.pid → Still_leads v.pid)
      → (Done v.pid → Still_done v.pid) → FirstAt Still Leads Done a s v
      → FirstAt Stays Still_leads Still_done a s v
  first-at (AwaitingStop until) s v still leads done w = w
  first-at (AwaitingAgain until) s v still leads done w = w
  first-at Asking s v still leads done w = w
  first-at Nothing Unfollowing v still leads done w = w
  first-at Nothing ReadingLwps v still leads done w = (w.0, still w.1)
  first-at Nothing (ReadingText q l from len) v still leads done w = done w
  first-at Nothing (Closing q next) v still leads done w = λ attached. done (w attached)
  first-at Nothing _ v still leads done w = tt
  first-at (Patching q plants lifts true) s v still leads done w = leads w
  first-at (Patching q plants lifts false) s v still leads done w = done w
  first-at _ s v still leads done w = tt

  pub first-on : (u : TrussState) → (Still (traced_at u 0).pid → Stays (traced_at u 0).pid)
      → (Leads (traced_at u 0).pid → Still_leads (traced_at u 0).pid)
      → (Done (traced_at u 0).pid → Still_done (traced_at u 0).pid) → First Still Leads Done u
      → First Stays Still_leads Still_done u
  first-on u still leads done w = first-at u.aside u.stage (traced_at u 0) still leads done w
