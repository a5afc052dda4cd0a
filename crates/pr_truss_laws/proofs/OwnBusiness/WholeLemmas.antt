use Rattle.std.proofs.Common.{◌≡◌, ◌<◌, ℕ, zero, suc, Bool, true, false, cond, Option, Some, None, List, [], ◌∷◌, ◌++◌, length, get_or, is_some, refl, sym, subst, ap, ◌∙◌, arith, inl, inr, ◌⊎◌}
use Rattle.std.proofs.lemmas.Bool.{false≢true}
use Rattle.std.proofs.lemmas.List.{length-set}
use Rattle.std.proofs.lemmas.List.Elements.{All-nil, All-cons, All-head, All-set, All-tail, All-weaker}
use Rattle.std.proofs.lemmas.Option.{none-some, same_Some, slice_get-get_or, slice_get_within, get_or_from_slice_get}
use Rattle.std.specs.List.{All, remove, slice_get, slice_set}
use Rattle.pr_line.specs.declared.options.Options.{Options}
use Rattle.pr_model.specs.Replies.{handle_in}
use Rattle.pr_model.specs.declared.calls.Reply.{Reply}
use Rattle.pr_num.proofs.SearchLemmas.{All-at}
use Rattle.pr_rec.specs.declared.lwps.LwpStatus.{LwpStatus}
use Rattle.pr_truss.specs.Children.{child_learnt, child_step_after}
use Rattle.pr_truss.specs.Feeding.{fed}
use Rattle.pr_truss.specs.Openings.{learnt, step_after}
use Rattle.pr_truss.specs.Processes.{newly_traced}
use Rattle.pr_truss.specs.Trusses.{TrussState, first_of_program, first_truss, idle, nobody, opening_or}
use Rattle.pr_truss.specs.declared.processes.Traced.{Traced}
use Rattle.pr_truss.specs.declared.stages.AfterClosing.{AfterClosing}
use Rattle.pr_truss.specs.declared.stages.ChildStep.{ChildStep}
use Rattle.pr_truss.specs.declared.stages.ChildStep.TheVariants as child
use Rattle.pr_truss.specs.declared.stages.OpeningStep.{OpeningStep}
use Rattle.pr_truss.specs.declared.stages.OpeningStep.TheVariants as opening
use Rattle.pr_truss.specs.declared.stages.Stage.{Stage}
use Rattle.pr_truss.specs.declared.stages.Stage.TheVariants.{Opening, Polling, ReadingStatus, ReadingText, OpeningChild, Closing, Unfollowing, ReadingLwps}
use Rattle.pr_truss_laws.proofs.Files.ClosesLemmas.{first-fits}
use Rattle.pr_truss_laws.proofs.Replies.FedSteps.{fed-step}
use Rattle.pr_truss_laws.proofs.Replies.FitLemmas.{at-last, fed-fits, last-within, parent-within, reads-within}
use Rattle.pr_truss_laws.proofs.Files.HeldLemmas.{Fits, at_place, set-at}
use Rattle.pr_truss_laws.proofs.OwnBusiness.KnownLemmas.{All-removed}
use Rattle.pr_truss_laws.proofs.Replies.ReplySteps as step
use Rattle.pr_truss_laws.proofs.Replies.ReplySteps.{Closes, GoesOn, Learns, Looks, Reads, ReplyStep, Returns, Settles, StopOver, Turns}
use Rattle.pr_truss_laws.specs.Exchanges.{Exchange, truss_after}

-- Which files are open of each process that truss traces: all four, unless it is being opened or closed, or truss
-- leaves it before it had stopped.

-- ---- a place of a list

module _ {X : Type 0} (P : X → Type 0) where
  All-with : (xs : List X) (i : ℕ) (d : X) → i < length xs → All P (remove xs i) → P (get_or xs i d) → All P xs
  All-with [] i d within others own = absurd (omega arith)
  All-with (x ∷ xs) zero d within others own = All-cons P x xs own others
  All-with (x ∷ xs) (suc i) d within others own =
      All-cons P x xs (All-head P x (remove xs i) others)
      (All-with xs i d (omega arith) (All-tail P x (remove xs i) others) own)

remove-set : {X : Type 0} (xs : List X) (i : ℕ) (x : X) → remove (slice_set xs i x) i ≡ remove xs i
remove-set [] i x = refl
remove-set (y ∷ xs) zero x = refl
remove-set (y ∷ xs) (suc i) x = ap (λ ys. y ∷ ys) (remove-set xs i x)

remove-last : {X : Type 0} (xs : List X) (x : X) → remove (xs ++ x ∷ []) (length xs) ≡ xs
remove-last [] x = refl
remove-last (y ∷ xs) x = ap (λ ys. y ∷ ys) (remove-last xs x)

-- ---- the files of a process

pub record IsWhole (t : Traced) : Type 0 where
  pub status : is_some t.status ≡ true
  pub lstatus : is_some t.lstatus ≡ true
  pub memory : is_some t.memory ≡ true

-- all its files are open, or truss leaves and has not attached it
abbrev Keeps : Bool → Traced → Type 0
Keeps leaving t = IsWhole t ⊎ ((leaving ≡ true) × (t.attached ≡ false))

leaves-kept : (b : Bool) (t : Traced) → Keeps b t → Keeps true t
leaves-kept b t (inl whole) = inl whole
leaves-kept b t (inr other) = inr (refl, other.1)

-- one at a step of its opening
abbrev pub OwnOpening : Traced → OpeningStep → Type 0
OwnOpening t opening.OpenStatus = t.attached ≡ false
OwnOpening t opening.OpenLstatus = (t.attached ≡ false) × (is_some t.status ≡ true)
OwnOpening t opening.OpenMemory =
    (t.attached ≡ false) × ((is_some t.status ≡ true) × (is_some t.lstatus ≡ true))
OwnOpening t _ = IsWhole t

abbrev pub OwnChild : Traced → ChildStep → Type 0
OwnChild t child.SetRelease = t.attached ≡ false
OwnChild t child.OpenStatus = t.attached ≡ false
OwnChild t child.OpenLstatus = (t.attached ≡ false) × (is_some t.status ≡ true)
OwnChild t child.OpenMemory = (t.attached ≡ false) × ((is_some t.status ≡ true) × (is_some t.lstatus ≡ true))
OwnChild t child.Start = IsWhole t

-- The process with which a stage has to do, and the others.
abbrev pub OwnStage : Bool → List Traced → Stage → Type 0
OwnStage b ts (Opening place now) = OwnOpening (at_place ts place) now
OwnStage b ts (OpeningChild parent place now) = OwnChild (at_place ts place) now
OwnStage b ts Polling = b ≡ false
OwnStage b ts (ReadingStatus place) = IsWhole (at_place ts place)
OwnStage b ts (ReadingText place l from len) = IsWhole (at_place ts place)
OwnStage b ts Unfollowing = IsWhole (at_place ts 0)
OwnStage b ts ReadingLwps = IsWhole (at_place ts 0)
OwnStage b ts _ = Unit {0}

abbrev Others : Bool → List Traced → Stage → Type 0
Others b ts (Opening place now) = All (Keeps b) (remove ts place)
Others b ts (OpeningChild parent place now) = All (Keeps b) (remove ts place)
Others b ts (Closing place next) = All (Keeps b) (remove ts place)
Others b ts _ = All (Keeps b) ts

pub record HasItsFiles (s : TrussState) : Type 0 where
  pub fits : Fits s.traced s.stage
  pub own : OwnStage s.leaving s.traced s.stage
  others : Others s.leaving s.traced s.stage

opening-keeps : (t : Traced) (now : OpeningStep) → OwnOpening t now → Keeps true t
opening-keeps t opening.OpenStatus own = inr (refl, own)
opening-keeps t opening.OpenLstatus own = inr (refl, own.0)
opening-keeps t opening.OpenMemory own = inr (refl, own.0)
opening-keeps t _ own = inl own

child-keeps : (t : Traced) (now : ChildStep) → OwnChild t now → Keeps true t
child-keeps t child.SetRelease own = inr (refl, own)
child-keeps t child.OpenStatus own = inr (refl, own)
child-keeps t child.OpenLstatus own = inr (refl, own.0)
child-keeps t child.OpenMemory own = inr (refl, own.0)
child-keeps t child.Start own = inl own

-- marks are no files
marked-keeps : (b : Bool) (t u : Traced) → u.status ≡ t.status → u.lstatus ≡ t.lstatus → u.memory ≡ t.memory
    → u.attached ≡ t.attached → Keeps b t → Keeps b u
marked-keeps b t u status lstatus memory attached (inl w) = inl (record {
  status = ap is_some status ∙ w.status;
  lstatus = ap is_some lstatus ∙ w.lstatus;
  memory = ap is_some memory ∙ w.memory;
})
marked-keeps b t u status lstatus memory attached (inr other) = inr (other.0, attached ∙ other.1)

-- ---- the next step of an opening

abbrev OwnNext : Traced → Option OpeningStep → Type 0
OwnNext t None = IsWhole t
OwnNext t (Some now) = OwnOpening t now

last-own : (b : Bool) (t : Traced) → IsWhole t → OwnNext t (Some (cond b opening.Follow opening.Start))
last-own true t whole = whole
last-own false t whole = whole

next-own : (o : Options) (t : Traced) (r : Reply) (now : OpeningStep) → OwnOpening t now
    → OwnNext (learnt t r now) (step_after o r now)
unfolding learnt step_after
next-own o t r opening.OpenStatus own = (own, refl)
next-own o t r opening.OpenLstatus own = (own.0, (own.1, refl))
next-own o t r opening.OpenMemory own = record { status = own.1.0; lstatus = own.1.1; memory = refl }
next-own o t r (opening.AwaitStop until) own =
    record { status = own.status; lstatus = own.lstatus; memory = own.memory }
next-own o t r opening.ReadLwps own = record { status = own.status; lstatus = own.lstatus; memory = own.memory }
next-own o t r opening.TraceExits own = last-own o.follow t own
next-own o t r _ own = own

child-own : (t : Traced) (r : Reply) (now next : ChildStep) → OwnChild t now → child_step_after now ≡ Some next
    → OwnChild (child_learnt t r now) next
unfolding child_learnt child_step_after
child-own t r child.SetRelease next own is =
    subst (OwnChild (child_learnt t r child.SetRelease)) (same_Some child.OpenStatus next is) own
child-own t r child.OpenStatus next own is =
    subst (OwnChild (child_learnt t r child.OpenStatus)) (same_Some child.OpenLstatus next is) (own, refl)
child-own t r child.OpenLstatus next own is =
    subst (OwnChild (child_learnt t r child.OpenLstatus)) (same_Some child.OpenMemory next is) (own.0, (own.1, refl))
child-own t r child.OpenMemory next own is =
    subst (OwnChild (child_learnt t r child.OpenMemory)) (same_Some child.Start next is)
    (record { status = own.1.0; lstatus = own.1.1; memory = refl })
child-own t r child.Start next own is = absurd (none-some next is)

-- ---- what comes next

at-keeps : (b : Bool) (ts : List Traced) (place : ℕ) → place < length ts → All (Keeps b) ts
    → Keeps b (at_place ts place)
at-keeps b ts place within all =
    All-at (Keeps b) ts place (at_place ts place) (slice_get-get_or ts place nobody within) all

abbrev Both : Bool → List Traced → Stage → Type 0
Both b ts stage = OwnStage b ts stage × Others b ts stage

on-both : (u v : TrussState) (given : Bool) → All (Keeps u.leaving) u.traced → GoesOn u given v
    → Both v.leaving v.traced v.stage
on-both u v given all (step.finishes _) = (tt, all)
on-both u v given all (step.polls off _) = (off, all)
on-both u v given all (step.closes_first _ _ _) = (tt, All-removed (Keeps u.leaving) u.traced 0 all)
on-both u v given all (step.opens_next _) = (tt, all)
on-both u v given all (step.unfollows {t = t} on first attached) =
    (by (at-keeps u.leaving u.traced 0 (slice_get_within u.traced 0 t first) all), all)
  where
    by : Keeps u.leaving (at_place u.traced 0) → IsWhole (at_place u.traced 0)
    by (inl whole) = whole
    by (inr other) =
        let same : at_place u.traced 0 ≡ t = get_or_from_slice_get u.traced 0 t nobody first in
        absurd (false≢true (sym other.1 ∙ ap (λ (w : Traced). w.attached) same ∙ attached))

over-both : (u v : TrussState) (place : ℕ) (pid : Option ℕ) → All (Keeps u.leaving) u.traced → StopOver u place pid v
    → Both v.leaving v.traced v.stage
over-both u v place pid all (step.runs _) = (tt, all)
over-both u v place pid all (step.leaves _) = (tt, All-removed (Keeps u.leaving) u.traced place all)
over-both u v place pid all (step.opens_child _) = (tt, all)
over-both u v place pid all (step.frees_child _) = (tt, all)

-- ---- a reply

module _ (s : TrussState) (r : Reply) where
  abbrev b : Bool
  b = s.leaving

  abbrev ts : List Traced
  ts = s.traced

  -- the stop of one was looked at, and truss leaves
  seen-all : (place : ℕ) → place < length ts → All (Keeps true) ts
      → All (Keeps true) (slice_set ts place (record (at_place ts place) { seen = true }))
  seen-all place within all =
      All-set (Keeps true) ts place _
      (marked-keeps true (at_place ts place) _ refl refl refl refl (at-keeps true ts place within all)) all

  leaves-all : All (Keeps b) ts → All (Keeps true) ts
  leaves-all all = All-weaker _ _ (leaves-kept b) ts all

  settles-all : (stage : Stage) (given : Bool) (u : TrussState) → Fits ts stage → Both b ts stage
      → Settles s r stage given u → All (Keeps u.leaving) u.traced
  settles-all stage given u f h (step.interrupts_start _) = leaves-all h.1
  settles-all stage given u f h (step.interrupts_control _) = leaves-all h.1
  settles-all stage given u f h (step.interrupts_poll _) = leaves-all h.1
  settles-all stage given u f h (step.interrupts_status _) = leaves-all h.1
  settles-all stage given u f h (step.interrupts_opening {place = place} {now = now} _) =
      seen-all place f.0
      (All-with (Keeps true) ts place nobody f.0 (All-weaker _ _ (leaves-kept b) (remove ts place) h.1)
      (opening-keeps (at_place ts place) now h.0))
  settles-all stage given u f h (step.interrupts_text {place = place} _ _) = seen-all place f (leaves-all h.1)
  settles-all stage given u f h (step.interrupts_child_control {parent = parent} _) =
      seen-all parent f (leaves-all h.1)
  settles-all stage given u f h (step.interrupts_child {parent = parent} {place = place} {now = now} _) =
      seen-all parent (parent-within ts parent place f.0)
      (All-with (Keeps true) ts place nobody (last-within ts parent place f.0)
      (All-weaker _ _ (leaves-kept b) (remove ts place) h.1) (child-keeps (at_place ts place) now h.0))
  settles-all stage given u f h (step.interrupts_run {place = place} _) = seen-all place f (leaves-all h.1)
  settles-all stage given u f h (step.refuses_start _ _) = h.1
  settles-all stage given u f h (step.refuses_control _ _) = h.1
  settles-all stage given u f h (step.ends_opening {place = place} {now = now} _ last) =
      let t : Traced = learnt (at_place ts place) r now in
      let whole : IsWhole t = subst (OwnNext t) last (next-own s.options (at_place ts place) r now h.0) in
      All-with (Keeps b) (slice_set ts place t) place nobody (omega (arith, f.0, length-set ts place t))
      (subst (All (Keeps b)) (sym (remove-set ts place t)) h.1)
      (subst (Keeps b) (sym (set-at ts place t f.0)) (inl whole))
  settles-all stage given u f h step.ran = h.1
  settles-all stage given u f h (step.closed_next _) = h.1
  settles-all stage given u f h (step.closed _) = h.1

  -- where truss reads how a process stands
  reads-both : (stage : Stage) (place : ℕ) (l : Option LwpStatus) → Both b ts stage → Reads s r stage place l
      → IsWhole (at_place ts place) × All (Keeps b) ts
  reads-both stage place l h (step.reads_lwps _) = h
  reads-both stage place l h (step.reads_status _) = h
  reads-both stage place l h (step.reads_none _) = h

  looks-all : (stage : Stage) (place : ℕ) (pid : Option ℕ) (u : TrussState) → Fits ts stage → Both b ts stage
      → Looks s r stage place pid u → All (Keeps u.leaving) u.traced
  looks-all stage place pid u f h (step.passes w) = (reads-both stage place _ h w.reads).1
  looks-all stage place pid u f h (step.passes_old reads _ _) =
      let it = reads-both stage place _ h reads in
      All-set (Keeps b) ts place _
      (marked-keeps b (at_place ts place) _ refl refl refl refl
      (at-keeps b ts place (reads-within s r stage place _ f reads) it.1)) it.1
  looks-all stage place pid u f h (step.passes_event reads _ _) = (reads-both stage place _ h reads).1
  looks-all stage place pid u f h (step.shows reads _ _ _) = (reads-both stage place _ h reads).1
  looks-all stage place pid u f h step.shows_text = h.1

  closes-others : (stage : Stage) (place : ℕ) (next : AfterClosing) (u : TrussState) → Both b ts stage
      → Closes s r stage place next u → All (Keeps u.leaving) (remove u.traced place)
  closes-others stage place next u h (step.status_ended _) = All-removed (Keeps b) ts place h.1
  closes-others stage place next u h (step.text_ended _) = All-removed (Keeps b) ts place h.1
  closes-others stage place next u h (step.run_ended _) = All-removed (Keeps b) ts place h.1
  closes-others stage place next u h (step.left_ended _) = All-removed (Keeps b) ts place h.1
  closes-others stage place next u h (step.looked_last _) = All-removed (Keeps b) ts place h.1
  closes-others stage place next u h step.freed_last = All-removed (Keeps b) ts place h.1
  closes-others stage place next u h (step.freed_none _) = All-removed (Keeps b) ts place h.1
  closes-others stage place next u h (step.refuses_free _ _) = All-removed (Keeps b) ts place h.1
  closes-others stage place next u h (step.refuses_opening _ _) = h.1
  closes-others stage place next u h (step.refuses_child _ _) = h.1
  closes-others stage place next u h (step.child_ended _) = h.1

  learns-both : (stage next : Stage) (place : ℕ) (t : Traced) → Fits ts stage → Both b ts stage
      → Learns s r stage place t next → Both b (slice_set ts place t) next
  learns-both stage next place t f h (step.opening_goes {now = now} {next = goes} after) = (
    subst (λ u. OwnOpening u goes) (sym (set-at ts place t f.0))
        (subst (OwnNext t) after (next-own s.options (at_place ts place) r now h.0)),
    subst (All (Keeps b)) (sym (remove-set ts place t)) h.1,
  )
  learns-both stage next place t f h (step.child_goes {parent = parent} {now = now} {next = goes} after) = (
    subst (λ u. OwnChild u goes) (sym (set-at ts place t (last-within ts parent place f.0)))
        (child-own (at_place ts place) r now goes h.0 after),
    subst (All (Keeps b)) (sym (remove-set ts place t)) h.1,
  )

  returns-all : (stage : Stage) (parent : ℕ) (u : TrussState) → Fits ts stage → Both b ts stage
      → Returns s r stage parent u → All (Keeps u.leaving) u.traced
  returns-all stage parent u f h (step.refuses_child_control _ _) = h.1
  returns-all stage parent u f h (step.child_runs {place = place} _) =
      All-with (Keeps b) ts place nobody (last-within ts parent place f.0) h.1 (inl h.0)
  returns-all stage parent u f h (step.child_closed _) = h.1

  turns-both : (stage next : Stage) → Fits ts next → Both b ts stage → Turns s r stage next → Both b ts next
  turns-both stage next f h (step.starts _) = (tt, h.1)
  turns-both stage next f h step.polls_again = h
  turns-both stage next f h (step.is_named {place = place} _) = (by (at-keeps b ts place f h.1), h.1)
    where
      by : Keeps b (at_place ts place) → IsWhole (at_place ts place)
      by (inl whole) = whole
      by (inr other) = absurd (false≢true (sym h.0 ∙ other.0))
  turns-both stage next f h step.unfollowed = h
  turns-both stage next f h (step.frees _) = (tt, h.1)
  turns-both stage next f h step.frees_on = (tt, h.1)
  turns-both stage next f h step.has_finished = h

  step-both : (stage : Stage) (v : TrussState) → Fits ts stage → Fits v.traced v.stage → Both b ts stage
      → ReplyStep s r stage v → Both v.leaving v.traced v.stage
  unfolding newly_traced
  step-both stage v f g h (step.settles {u = u} w on) = on-both u v _ (settles-all stage _ u f h w) on
  step-both stage v f g h (step.looks {u = u} w over) = over-both u v _ _ (looks-all stage _ _ u f h w) over
  step-both stage v f g h (step.asks reads _ _ _) = reads-both stage _ _ h reads
  step-both stage v f g h (step.closes {u = u} w) = (tt, closes-others stage _ _ u h w)
  step-both stage v f g h (step.loses {place = place} {t = t} _) =
      (tt, subst (All (Keeps b)) (sym (remove-set ts place t)) h.1)
  step-both stage v f g h (step.opens _ (step.new_given {pid = pid})) =
      let new : Traced = newly_traced pid (handle_in r) in (
        ap (λ (t : Traced). t.attached) (at-last ts new),
        subst (All (Keeps b)) (sym (remove-last ts new)) h.1,
      )
  step-both stage v f g h (step.opens _ (step.new_child {pid = pid})) =
      let new : Traced = newly_traced pid (handle_in r) in (
        ap (λ (t : Traced). t.attached) (at-last ts new),
        subst (All (Keeps b)) (sym (remove-last ts new)) h.1,
      )
  step-both stage v f g h (step.learns _ w) = learns-both stage _ _ _ f h w
  step-both stage v f g h (step.returns {u = u} w) = (tt, returns-all stage _ u f h w)
  step-both stage v f g h (step.turns {next = next} w) = turns-both stage next g h w

  fed-files : HasItsFiles s → HasItsFiles (fed s r)
  fed-files h =
      let fits = fed-fits s r h.fits in
      let it = step-both s.stage (fed s r) h.fits fits (h.own, h.others) (fed-step s r) in
      record { fits = fits; own = it.0; others = it.1 }

-- ---- from its start on

named-both : (o : Options) (p : Option ℕ)
    → Both (opening_or (idle o) (idle o) p).leaving (opening_or (idle o) (idle o) p).traced
    (opening_or (idle o) (idle o) p).stage
named-both o None = (tt, All-nil (Keeps false))
named-both o (Some pid) = (tt, All-nil (Keeps false))

program-both : (o : Options) (p : Option (List ℕ))
    → Both (first_of_program o p).leaving (first_of_program o p).traced (first_of_program o p).stage
program-both o None = named-both o (slice_get o.pids 0)
program-both o (Some program) = (tt, All-nil (Keeps false))

first-files : (o : Options) → HasItsFiles (first_truss o)
unfolding first_truss
first-files o = let it = program-both o o.program in record { fits = first-fits o; own = it.0; others = it.1 }

after-files : (xs : List Exchange) (s : TrussState) → HasItsFiles s → HasItsFiles (truss_after s xs)
after-files [] s h = h
after-files (x ∷ xs) s h = after-files xs (fed s x.reply) (fed-files s x.reply h)

pub reached-files : (o : Options) (xs : List Exchange) → HasItsFiles (truss_after (first_truss o) xs)
reached-files o xs = after-files xs (first_truss o) (first-files o)
