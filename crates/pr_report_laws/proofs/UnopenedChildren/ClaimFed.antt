use Rattle.std.proofs.Common.{◌≡◌, ◌<◌, ℕ, Bool, true, false, Option, Some, None, length, refl, sym, ap, ◌∙◌, inr}
use Rattle.std.proofs.lemmas.Bool.{false≢true}
use Rattle.std.proofs.lemmas.Option.{none-some}
use Rattle.std.specs.Option.{option_and_then}
use Rattle.pr_line.specs.declared.events.Event.{Event}
use Rattle.pr_model.specs.Replies.{bytes_in, handle_in}
use Rattle.pr_model.specs.declared.calls.Reply.{Reply}
use Rattle.pr_rec.specs.declared.lwps.LwpStatus.{LwpStatus}
use Rattle.pr_truss.specs.Feeding.{fed}
use Rattle.pr_truss.specs.Processes.{newly_traced}
use Rattle.pr_truss.specs.Records.{status_lwp}
use Rattle.pr_truss.specs.Replies.{answer_of}
use Rattle.pr_truss.specs.Stops.{followed_child}
use Rattle.pr_truss.specs.Trusses.{TrussState, with_opened, with_stage, with_traced}
use Rattle.pr_truss.specs.declared.processes.Traced.{Traced}
use Rattle.pr_truss.specs.declared.replies.Answer.TheVariants.{Accepted}
use Rattle.pr_truss.specs.declared.stages.AfterClosing.{AfterClosing}
use Rattle.pr_truss.specs.declared.stages.AfterClosing.TheVariants.{OpenNext, GoOn}
use Rattle.pr_truss.specs.declared.stages.ChildStep.TheVariants as child
use Rattle.pr_truss.specs.declared.stages.Stage.{Stage}
use Rattle.pr_truss.specs.declared.stages.Stage.TheVariants.{Spawning, OpeningControl, Polling, ReadingStatus, Running, Closing, ReadingLwps, Finished}
use Rattle.pr_truss_laws.proofs.Files.HeldLemmas.{Fits, at_place}
use Rattle.pr_truss_laws.proofs.Replies.OptionLemmas.{settles-options}
use Rattle.pr_truss_laws.proofs.Replies.ReplySteps as step
use Rattle.pr_truss_laws.proofs.Replies.ReplySteps.{Closes, IsNew, Learns, Looks, Opens, Reads, ReplyStep, Returns, Settles, Turns, on-staged, over-staged}
use Rattle.pr_truss_laws.proofs.Replies.FedSteps.{fed-step}
use Rattle.pr_report_laws.proofs.UnopenedChildren.Claims.{Comes, Names, WasClaimed, claim_of, sets}
use Rattle.pr_report_laws.proofs.UnopenedChildren.ClaimOpenings.{child-opens, child-refused, less-goes, next-child, next-goes, opens-goes, parent-left, parent-next, parent-runs, refused-goes, removed-known, started-known}
use Rattle.pr_report_laws.proofs.UnopenedChildren.ClaimReplies.{known-all, run-known, run-ready, status-less, status-ready, status-told, text-claimed, text-ready}
use Rattle.pr_report_laws.proofs.UnopenedChildren.ClaimSteps.{Known, Ready, idle-comes, on-goes, over-goes, stop-goes, text-goes}
use Rattle.pr_report_laws.proofs.Invariant.StandLemmas.{Each}
use Rattle.pr_report_laws.proofs.Replies.Leaving.{IsLeaving, leaves as leaving_stage}

-- What any reply leaves of the children of forks that truss is to open.

module _ (t : TrussState) (r : Reply) (leaves : IsLeaving t) where
  abbrev Goes : TrussState → Type 0
  Goes u = u.leaving ≡ false → Comes t r u

  -- truss leaves its processes at this stage
  gone : {X : Type 0} (stage : Stage) → t.stage ≡ stage → leaving_stage stage ≡ true → t.leaving ≡ false → X
  gone stage is on stays = absurd (false≢true (sym stays ∙ leaves.leaving (ap leaving_stage is ∙ on)))

  -- ---- nothing is to be done for a process any more

  settles-known : (stage : Stage) (given : Bool) (u : TrussState) → t.stage ≡ stage → Fits t.traced stage
      → Settles t r stage given u → u.leaving ≡ false → (t.leaving ≡ false) × Each (Known t r) u.traced
  settles-known stage given u is f (step.refuses_start {program = program} _ _) stays =
      (stays, known-all t r (Spawning program) is (λ place. refl) (λ place. refl))
  settles-known stage given u is f (step.refuses_control {pid = pid} _ _) stays =
      (stays, known-all t r (OpeningControl pid) is (λ place. refl) (λ place. refl))
  settles-known stage given u is f (step.ends_opening {place = at} {now = now} accepted last) stays =
      (stays, started-known t r at now is f.0 accepted last)
  settles-known stage given u is f (step.ran {place = at}) stays = (stays, run-known t r at is f)
  settles-known stage given u is f (step.closed_next {place = at} _) stays =
      (stays, removed-known t r at f.0 OpenNext is (λ place. refl))
  settles-known stage given u is f (step.closed {place = at} _) stays =
      (stays, removed-known t r at f.0 GoOn is (λ place. refl))
  settles-known stage given u is f _ stays = absurd (false≢true (sym stays))

  -- ---- the stop of a process

  record IsStatus (at : ℕ) (o : Option LwpStatus) : Type 0 where
    stage : t.stage ≡ ReadingStatus at
    within : at < length t.traced
    told : (l : LwpStatus) → o ≡ Some l
        → (answer_of r ≡ Accepted) × (option_and_then status_lwp (bytes_in r) ≡ Some l)

  reads-status : (stage : Stage) (at : ℕ) (o : Option LwpStatus) → t.stage ≡ stage → Fits t.traced stage
      → t.leaving ≡ false → Reads t r stage at o → IsStatus at o
  reads-status stage at o is f stays (step.reads_status accepted) =
      record { stage = is; within = f; told = λ l same. (accepted, same) }
  reads-status stage at o is f stays (step.reads_none _) =
      record { stage = is; within = f; told = λ l same. absurd (none-some l same) }
  reads-status stage at o is f stays (step.reads_lwps _) = gone ReadingLwps is refl stays

  event-known : (at : ℕ) (l : LwpStatus) (e : Event) → IsStatus at (Some l) → IsNew t r at l e → (c : ℕ)
      → followed_child t.options l ≡ Some c → WasClaimed t r (at_place t.traced at).pid c
  event-known at l e status new =
      let told = status.told l refl in
      status-told t r at status.stage status.within l e new told.0 told.1

  abbrev Looked : ℕ → Option ℕ → TrussState → Type 0
  Looked at child u =
      Ready t r u at × ((c : ℕ) → child ≡ Some c → WasClaimed t r (at_place u.traced at).pid c)

  looks-ready : (stage : Stage) (at : ℕ) (child : Option ℕ) (u : TrussState) → t.stage ≡ stage → Fits t.traced stage
      → t.leaving ≡ false → Looks t r stage at child u → Looked at child u
  looks-ready stage at child u is f stays (step.passes {l = o} w) =
      let status = reads-status stage at o is f stays w.reads in
      (status-ready t r at status.stage status.within t.reports, λ c none. absurd (none-some c none))
  looks-ready stage at child u is f stays (step.passes_old {l = l} reads _ _) =
      let status = reads-status stage at (Some l) is f stays reads in
      (status-less t r at status.stage status.within, λ c none. absurd (none-some c none))
  looks-ready stage at child u is f stays (step.passes_event {l = l} {e = e} reads new _) =
      let status = reads-status stage at (Some l) is f stays reads in
      (status-ready t r at status.stage status.within t.reports, event-known at l e status new)
  looks-ready stage at child u is f stays (step.shows {l = l} {e = e} reads new _ _) =
      let status = reads-status stage at (Some l) is f stays reads in
      (status-ready t r at status.stage status.within u.reports, event-known at l e status new)
  looks-ready stage at child u is f stays (step.shows_text {l = l} {from = from} {len = len}) =
      (text-ready t r at l from len is f u.reports, text-claimed t r at l from len is f)

  looks-leaving : (stage : Stage) (at : ℕ) (child : Option ℕ) (u : TrussState) → Looks t r stage at child u
      → u.leaving ≡ t.leaving
  looks-leaving stage at child u (step.passes _) = refl
  looks-leaving stage at child u _ = refl

  -- ---- the other kinds

  closes-goes : (stage : Stage) (at : ℕ) (next : AfterClosing) (u : TrussState) → t.stage ≡ stage
      → Fits t.traced stage → Closes t r stage at next u → Goes (with_stage u (Closing at next))
  closes-goes stage at next u is f (step.status_ended _) =
      over-goes t r t at (status-ready t r at is f t.reports) GoOn
  closes-goes stage at next u is f (step.text_ended {l = l} {from = from} {len = len} _) =
      over-goes t r u at (text-ready t r at l from len is f u.reports) GoOn
  closes-goes stage at next u is f (step.run_ended _) = over-goes t r t at (run-ready t r at is f) GoOn
  closes-goes stage at next u is f (step.refuses_opening {now = now} errno _) = refused-goes t r at now is f.0 errno
  closes-goes stage at next u is f (step.refuses_child {parent = parent} {now = now} errno _) =
      child-refused t r parent at now is f.0 u refl refl
  closes-goes stage at next u is f (step.child_ended {parent = parent} _) =
      child-refused t r parent at child.Start is f.0 t refl refl
  closes-goes stage at next u is f _ = gone stage is refl

  opens-on : (stage next : Stage) (pid : ℕ) → t.stage ≡ stage → Fits t.traced stage → answer_of r ≡ Accepted
      → Opens (length t.traced) stage pid next
      → Goes (with_stage (with_opened t (newly_traced pid (handle_in r))) next)
  opens-on stage next pid is f accepted step.new_given = opens-goes t r pid (handle_in r) is
  opens-on stage next pid is f accepted (step.new_child {parent = parent}) =
      child-opens t r parent pid is f accepted (handle_in r)

  learns-goes : (stage next : Stage) (at : ℕ) (x : Traced) → t.stage ≡ stage → Fits t.traced stage
      → answer_of r ≡ Accepted → Learns t r stage at x next → Goes (with_stage (with_traced t at x) next)
  learns-goes stage next at x is f accepted (step.opening_goes {now = now} {next = later} comes) =
      next-goes t r at now is f.0 accepted later comes
  learns-goes stage next at x is f accepted (step.child_goes {parent = parent} {now = now} {next = later} comes) =
      next-child t r parent at now is f.0 accepted later

  returns-goes : (stage : Stage) (parent : ℕ) (u : TrussState) → t.stage ≡ stage → Fits t.traced stage
      → Returns t r stage parent u → Goes (with_stage u (Running parent))
  returns-goes stage parent u is f (step.refuses_child_control {pid = pid} errno _) =
      parent-runs t r parent pid is f errno
  returns-goes stage parent u is f (step.child_runs {place = at} _) =
      parent-next t r parent at child.Start is f.0 refl
  returns-goes stage parent u is f (step.child_closed {place = at} _) = parent-left t r at f.0 parent is f.1

  idle-goes : (next : Stage) → Each (Known t r) t.traced → ((place : ℕ) → claim_of t.options next place ≡ None)
      → ((place : ℕ) → sets next place ≡ false) → Names t.options t.traced next → Goes (with_stage t next)
  idle-goes next known claims none names stays =
      idle-comes t r t (with_stage t next) stays known (record {
        same = refl;
        claims = claims;
        sets = none;
        names = names;
      })

  turns-goes : (stage next : Stage) → t.stage ≡ stage → Names t.options t.traced stage → Turns t r stage next
      → Goes (with_stage t next)
  turns-goes stage next is names (step.starts {program = program} _) =
      idle-goes next (known-all t r (Spawning program) is (λ place. refl) (λ place. refl)) (λ place. refl)
      (λ place. refl) (inr names)
  turns-goes stage next is names step.polls_again =
      idle-goes next (known-all t r Polling is (λ place. refl) (λ place. refl)) (λ place. refl) (λ place. refl) tt
  turns-goes stage next is names (step.is_named _) =
      idle-goes next (known-all t r Polling is (λ place. refl) (λ place. refl)) (λ place. refl) (λ place. refl) tt
  turns-goes stage next is names step.has_finished =
      idle-goes next (known-all t r Finished is (λ place. refl) (λ place. refl)) (λ place. refl) (λ place. refl) tt
  turns-goes stage next is names _ = gone stage is refl

  -- ---- any reply

  step-goes : (stage : Stage) (v : TrussState) → t.stage ≡ stage → Fits t.traced stage
      → Names t.options t.traced stage → ReplyStep t r stage v → Goes v
  step-goes stage v is f names (step.settles {given = given} {u = u} w on) stays =
      let same = on-staged on in
      let known = settles-known stage given u is f w (sym same.leaving ∙ stays) in
      on-goes t r u v given known.0 (settles-options t r stage given u w) known.1 on stays
  step-goes stage v is f names (step.looks {place = at} {pid = child} {u = u} w over) stays =
      let same = over-staged over in
      let looked =
      looks-ready stage at child u is f (sym (same.leaving ∙ looks-leaving stage at child u w) ∙ stays) w in
      stop-goes t r u at looked.0 child v looked.1 over stays
  step-goes stage v is f names (step.asks {place = at} {l = l} {e = e} {range = range} reads new _ _) stays =
      let status = reads-status stage at (Some l) is f stays reads in
      text-goes t r t at (status-ready t r at status.stage status.within t.reports) l (event-known at l e status new)
      range.0 range.1 stays
  step-goes stage v is f names (step.closes {place = at} {next = next} {u = u} w) stays =
      closes-goes stage at next u is f w stays
  step-goes stage v is f names (step.loses {place = at} {next = next} {t = x} _) stays =
      less-goes t r at f.0 next is x stays
  step-goes stage v is f names (step.opens {next = next} {pid = pid} accepted w) stays =
      opens-on stage next pid is f accepted w stays
  step-goes stage v is f names (step.learns {next = next} {place = at} {t = x} accepted w) stays =
      learns-goes stage next at x is f accepted w stays
  step-goes stage v is f names (step.returns {parent = parent} {u = u} w) stays =
      returns-goes stage parent u is f w stays
  step-goes stage v is f names (step.turns {next = next} w) stays = turns-goes stage next is names w stays

  pub fed-comes : Fits t.traced t.stage → Names t.options t.traced t.stage → (fed t r).leaving ≡ false
      → Comes t r (fed t r)
  fed-comes fits names = step-goes t.stage (fed t r) refl fits names (fed-step t r)
