use Rattle.std.proofs.Common.{◌≡◌, ◌<◌, ◌+◌, ℕ, Bool, true, false, cond, Option, Some, None, List, [], ◌∷◌, ◌++◌, length, refl, sym, subst, arith}
use Rattle.std.proofs.lemmas.List.{length-append, length-set}
use Rattle.std.proofs.lemmas.List.Edits.{length-remove}
use Rattle.std.proofs.lemmas.Option.{none-some, same_Some, slice_get_within}
use Rattle.std.specs.List.{position, slice_set}
use Rattle.std.specs.Option.{option_and_then}
use Rattle.pr_line.specs.declared.options.Options.{Options}
use Rattle.pr_model.specs.Replies.{handle_in}
use Rattle.pr_model.specs.declared.calls.Reply.{Reply}
use Rattle.pr_num.proofs.TableLemmas.{position-within}
use Rattle.pr_rec.specs.declared.lwps.LwpStatus.{LwpStatus}
use Rattle.pr_truss.specs.Children.{child_learnt, child_step_after}
use Rattle.pr_truss.specs.Feeding.{fed}
use Rattle.pr_truss.specs.Openings.{learnt, step_after}
use Rattle.pr_truss.specs.Processes.{newly_traced}
use Rattle.pr_truss.specs.Stops.{has_control}
use Rattle.pr_truss.specs.Trusses.{TrussState, traced_at}
use Rattle.pr_truss.specs.declared.processes.Traced.{Traced}
use Rattle.pr_truss.specs.declared.stages.AfterClosing.{AfterClosing}
use Rattle.pr_truss.specs.declared.stages.AfterClosing.TheVariants.{RunParent}
use Rattle.pr_truss.specs.declared.stages.ChildStep.{ChildStep}
use Rattle.pr_truss.specs.declared.stages.ChildStep.TheVariants as child
use Rattle.pr_truss.specs.declared.stages.OpeningStep.{OpeningStep}
use Rattle.pr_truss.specs.declared.stages.OpeningStep.TheVariants as opening
use Rattle.pr_truss.specs.declared.stages.Stage.{Stage}
use Rattle.pr_truss.specs.declared.stages.Stage.TheVariants.{Closing}
use Rattle.pr_truss_laws.proofs.Files.HeldLemmas.{Fits, FitsAfter, Grown, IsBare, IsFresh, IsFreshChild, IsLast, at_place, empty-list, grown-one, grown-same, set-at}
use Rattle.pr_truss_laws.proofs.Replies.ReplySteps as step
use Rattle.pr_truss_laws.proofs.Replies.ReplySteps.{Closes, GoesOn, Learns, Looks, Opens, Reads, ReplyStep, Settles, StopOver, on-staged, over-staged}
use Rattle.pr_truss_laws.proofs.Replies.FedSteps.{fed-step}

-- What each reply does to the reports of truss, which grow, and to the places that its stages name, which are there.

-- ---- reports grow

module _ (s : TrussState) (r : Reply) where
  abbrev Grows : TrussState → Type 0
  Grows u = Grown s.reports u.reports

  settles-grown : (stage : Stage) (given : Bool) (u : TrussState) → Settles s r stage given u → Grows u
  settles-grown stage given u (step.refuses_start _ _) = grown-one s.reports _
  settles-grown stage given u (step.refuses_control _ _) = grown-one s.reports _
  settles-grown stage given u (step.interrupts_text _ _) = grown-one s.reports _
  settles-grown stage given u _ = grown-same s.reports

  looks-grown : (stage : Stage) (place : ℕ) (pid : Option ℕ) (u : TrussState) → Looks s r stage place pid u → Grows u
  looks-grown stage place pid u (step.shows _ _ _ _) = grown-one s.reports _
  looks-grown stage place pid u step.shows_text = grown-one s.reports _
  looks-grown stage place pid u _ = grown-same s.reports

  closes-grown : (stage : Stage) (place : ℕ) (next : AfterClosing) (u : TrussState) → Closes s r stage place next u
      → Grows u
  closes-grown stage place next u (step.text_ended _) = grown-one s.reports _
  closes-grown stage place next u (step.refuses_free _ _) = grown-one s.reports _
  closes-grown stage place next u (step.refuses_opening _ _) = grown-one s.reports _
  closes-grown stage place next u (step.refuses_child _ _) = grown-one s.reports _
  closes-grown stage place next u _ = grown-same s.reports

  step-grown : (stage : Stage) (v : TrussState) → ReplyStep s r stage v → Grows v
  step-grown stage v (step.settles w on) =
      let same = on-staged on in
      subst (Grown s.reports) (sym same.reports) (settles-grown stage _ _ w)
  step-grown stage v (step.looks w over) =
      let same = over-staged over in
      subst (Grown s.reports) (sym same.reports) (looks-grown stage _ _ _ w)
  step-grown stage v (step.closes w) = closes-grown stage _ _ _ w
  step-grown stage v (step.returns (step.refuses_child_control _ _)) = grown-one s.reports _
  step-grown stage v _ = grown-same s.reports

pub fed-grown : (s : TrussState) (r : Reply) → Grown s.reports (fed s r).reports
fed-grown s r = step-grown s r s.stage (fed s r) (fed-step s r)

-- ---- the places are there

pub at-last : (ts : List Traced) (t : Traced) → at_place (ts ++ t ∷ []) (length ts) ≡ t
at-last [] t = refl
at-last (u ∷ ts) t = at-last ts t

count-more : (ts : List Traced) (t : Traced) → length (ts ++ t ∷ []) ≡ length ts + 1
count-more ts t = length-append ts (t ∷ [])

pub set-within : (ts : List Traced) (place : ℕ) (t : Traced) → place < length ts → place < length (slice_set ts place t)
set-within ts place t within = omega (arith, length-set ts place t)

pub last-within : (ts : List Traced) (parent place : ℕ) → IsLast ts parent place → place < length ts
last-within ts parent place last = omega (arith, last.last)

pub parent-within : (ts : List Traced) (parent place : ℕ) → IsLast ts parent place → parent < length ts
parent-within ts parent place last = omega (arith, last.last, last.behind)

last-set : (ts : List Traced) (parent place : ℕ) (t : Traced) → IsLast ts parent place
    → IsLast (slice_set ts place t) parent place
last-set ts parent place t last =
    record { behind = last.behind; last = omega (arith, last.last, length-set ts place t) }

after-set : (ts : List Traced) (place : ℕ) (t : Traced) (next : AfterClosing) → FitsAfter ts place next
    → FitsAfter (slice_set ts place t) place next
after-set ts place t (RunParent parent) f = last-set ts parent place t f
after-set ts place t _ f = tt

-- the place that a poll named
named-place : (ts : List Traced) (ready : Option ℕ) (place : ℕ)
    → option_and_then (λ handle. position (has_control handle) ts) ready ≡ Some place → place < length ts
named-place ts None place is = cc
named-place ts (Some handle) place is = position-within (has_control handle) ts place is

-- a process of which just the control file is open
bare-last : (ts : List Traced) (of control : ℕ) → IsBare (at_place (ts ++ newly_traced of control ∷ []) (length ts))
unfolding newly_traced
bare-last ts of control =
    subst IsBare (sym (at-last ts (newly_traced of control))) (record { status = refl; lstatus = refl; memory = refl })

-- what a step of an opening has opened, the next one does not open
abbrev pub FreshNext : Traced → Option OpeningStep → Type 0
FreshNext t None = Unit {0}
FreshNext t (Some now) = IsFresh t now

fresh-last : (b : Bool) (t : Traced) → FreshNext t (Some (cond b opening.Follow opening.Start))
fresh-last true t = tt
fresh-last false t = tt

pub step-fresh : (o : Options) (t : Traced) (r : Reply) (now : OpeningStep) → IsFresh t now
    → FreshNext (learnt t r now) (step_after o r now)
unfolding learnt step_after
step-fresh o t r opening.OpenStatus f = record { lstatus = f.lstatus; memory = f.memory }
step-fresh o t r opening.OpenLstatus f = f.memory
step-fresh o t r opening.TraceExits f = fresh-last o.follow t
step-fresh o t r _ f = tt

child-fresh : (t : Traced) (r : Reply) (now next : ChildStep) → IsFreshChild t now → child_step_after now ≡ Some next
    → IsFreshChild (child_learnt t r now) next
unfolding child_learnt child_step_after
child-fresh t r child.SetRelease next f is = subst (IsFreshChild t) (same_Some child.OpenStatus next is) f
child-fresh t r child.OpenStatus next f is =
    subst (IsFreshChild _) (same_Some child.OpenLstatus next is) (record { lstatus = f.lstatus; memory = f.memory })
child-fresh t r child.OpenLstatus next f is = subst (IsFreshChild _) (same_Some child.OpenMemory next is) f.memory
child-fresh t r child.OpenMemory next f is = subst (IsFreshChild _) (same_Some child.Start next is) tt
child-fresh t r child.Start next f is = absurd (none-some next is)

pub on-fits : (u v : TrussState) (given : Bool) → GoesOn u given v → Fits v.traced v.stage
on-fits u v given (step.finishes none) = empty-list u.traced none
on-fits u v given (step.unfollows on first attached) = slice_get_within u.traced 0 _ first
on-fits u v given (step.closes_first on first attached) = (slice_get_within u.traced 0 _ first, tt)
on-fits u v given (step.polls _ first) = slice_get_within u.traced 0 _ first
on-fits u v given _ = tt

over-fits : (u v : TrussState) (place : ℕ) (pid : Option ℕ) → place < length u.traced → StopOver u place pid v
    → Fits v.traced v.stage
over-fits u v place pid within (step.leaves on) = (within, tt)
over-fits u v place pid within (step.frees_child on) = omega (arith, within)
over-fits u v place pid within _ = within

module _ (s : TrussState) (r : Reply) where
  abbrev pub Fit : Stage → Type 0
  Fit stage = Fits s.traced stage

  pub reads-within : (stage : Stage) (place : ℕ) (l : Option LwpStatus) → Fit stage → Reads s r stage place l
      → place < length s.traced
  reads-within stage place l f (step.reads_lwps _) = f
  reads-within stage place l f _ = f

  looks-within : (stage : Stage) (place : ℕ) (pid : Option ℕ) (u : TrussState) → Fit stage → Looks s r stage place pid u
      → place < length u.traced
  looks-within stage place pid u f (step.passes w) = reads-within stage place _ f w.reads
  looks-within stage place pid u f (step.passes_old reads _ _) =
      set-within s.traced place _ (reads-within stage place _ f reads)
  looks-within stage place pid u f (step.passes_event reads _ _) = reads-within stage place _ f reads
  looks-within stage place pid u f (step.shows reads _ _ _) = reads-within stage place _ f reads
  looks-within stage place pid u f step.shows_text = f

  closes-fits : (stage : Stage) (place : ℕ) (next : AfterClosing) (u : TrussState) → Fit stage
      → Closes s r stage place next u
      → Fits u.traced (Closing place next)
  closes-fits stage place next u f (step.refuses_opening _ _) = (f.0, tt)
  closes-fits stage place next u f (step.refuses_child _ _) = (last-within s.traced _ place f.0, f.0)
  closes-fits stage place next u f (step.child_ended _) = (last-within s.traced _ place f.0, f.0)
  closes-fits stage place next u f _ = (f, tt)

  opens-fits : (stage next : Stage) (pid : ℕ) → Fit stage → Opens (length s.traced) stage pid next
      → Fits (s.traced ++ newly_traced pid (handle_in r) ∷ []) next
  opens-fits stage next pid f step.new_given =
      (omega (arith, count-more s.traced (newly_traced pid (handle_in r))), bare-last s.traced pid (handle_in r))
  opens-fits stage next pid f step.new_child =
      (record { behind = f; last = sym (count-more s.traced _) }, bare-last s.traced pid (handle_in r))

  learns-fits : (stage next : Stage) (place : ℕ) (t : Traced) → Fit stage → Learns s r stage place t next
      → Fits (slice_set s.traced place t) next
  learns-fits stage goes place t f (step.opening_goes {now = now} {next = next} after) = (
    set-within s.traced place t f.0,
    subst (λ u. IsFresh u next) (sym (set-at s.traced place t f.0))
        (subst (FreshNext t) after (step-fresh s.options (traced_at s place) r now f.1)),
  )
  learns-fits stage goes place t f (step.child_goes {parent = parent} {now = now} {next = next} after) = (
    last-set s.traced parent place t f.0,
    subst (λ u. IsFreshChild u next) (sym (set-at s.traced place t (last-within s.traced parent place f.0)))
        (child-fresh (traced_at s place) r now next f.1 after),
  )

  step-fits : (stage : Stage) (v : TrussState) → Fit stage → ReplyStep s r stage v → Fits v.traced v.stage
  step-fits stage v f (step.settles _ on) = on-fits _ v _ on
  step-fits stage v f (step.looks w over) = over-fits _ v _ _ (looks-within stage _ _ _ f w) over
  step-fits stage v f (step.asks reads _ _ _) = reads-within stage _ _ f reads
  step-fits stage v f (step.closes w) = closes-fits stage _ _ _ f w
  step-fits stage v f (step.loses {place = place} {next = next} _) =
      (set-within s.traced place _ f.0, after-set s.traced place _ next f.1)
  step-fits stage v f (step.opens _ w) = opens-fits stage _ _ f w
  step-fits stage v f (step.learns _ w) = learns-fits stage _ _ _ f w
  step-fits stage v f (step.returns (step.refuses_child_control _ _)) = f
  step-fits stage v f (step.returns (step.child_runs _)) = parent-within s.traced _ _ f.0
  step-fits stage v f (step.returns (step.child_closed {place = place} _)) =
      let last = f.1 in omega (arith, last.behind, last.last, length-remove s.traced place f.0)
  step-fits stage v f (step.turns (step.is_named is)) = named-place s.traced _ _ is
  step-fits stage v f (step.turns (step.starts _)) = tt
  step-fits stage v f (step.turns _) = f

pub fed-fits : (s : TrussState) (r : Reply) → Fits s.traced s.stage → Fits (fed s r).traced (fed s r).stage
fed-fits s r f = step-fits s r s.stage (fed s r) f (fed-step s r)
