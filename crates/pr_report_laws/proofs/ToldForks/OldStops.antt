use Rattle.std.proofs.Common.{◌≡◌, ◌≢◌, ◌<◌, ◌-◌, nat_lt, ℕ, zero, suc, Bool, true, Option, Some, None, List, [], ◌∷◌, ◌++◌, length, refl, sym, subst, ap, ◌∙◌, arith, inl, inr}
use Rattle.std.proofs.lemmas.Bool.{cases_eq, eq-eqb, false≢true}
use Rattle.std.proofs.lemmas.List.{get_or_append_left, get_or_push, length-append}
use Rattle.std.proofs.lemmas.Option.{same_Some}
use Rattle.std.specs.List.{slice_get}
use Rattle.std.specs.Option.{option_and_then}
use Rattle.pr_line.specs.declared.options.Options.{Options}
use Rattle.pr_model.specs.Replies.{bytes_in, handle_in}
use Rattle.pr_model.specs.declared.calls.Reply.{Reply}
use Rattle.pr_rec.specs.declared.lwps.LwpStatus.{LwpStatus}
use Rattle.pr_truss.specs.Children.{child_learnt}
use Rattle.pr_truss.specs.Feeding.{fed}
use Rattle.pr_truss.specs.Openings.{learnt}
use Rattle.pr_truss.specs.Processes.{newly_traced}
use Rattle.pr_truss.specs.Records.{event_stops, is_on_event, status_lwp}
use Rattle.pr_truss.specs.Trusses.{TrussState, first_of_program, first_truss, idle, nobody, opening_or, traced_at, with_opened, with_traced, without_traced}
use Rattle.pr_truss.specs.declared.processes.Traced.{Traced}
use Rattle.pr_truss.specs.declared.stages.AfterClosing.{AfterClosing}
use Rattle.pr_truss.specs.declared.stages.ChildStep.{ChildStep}
use Rattle.pr_truss.specs.declared.stages.ChildStep.TheVariants as child
use Rattle.pr_truss.specs.declared.stages.OpeningStep.{OpeningStep}
use Rattle.pr_truss.specs.declared.stages.Stage.{Stage}
use Rattle.pr_truss.specs.declared.stages.Stage.TheVariants.{Opening, ReadingStatus, OpeningChild, ReadingLwps}
use Rattle.pr_truss_laws.proofs.Replies.FedSteps.{fed-step}
use Rattle.pr_truss_laws.proofs.Files.ClosesLemmas.{first-fits}
use Rattle.pr_truss_laws.proofs.Replies.FitLemmas.{fed-fits, last-within, parent-within, reads-within}
use Rattle.pr_truss_laws.proofs.Files.HeldLemmas.{Fits, at_place, set-at}
use Rattle.pr_truss_laws.proofs.Replies.ReplySteps as step
use Rattle.pr_truss_laws.proofs.Replies.ReplySteps.{Closes, GoesOn, Looks, Opens, Reads, ReplyStep, Returns, Settles, StopOver, Turns, lost-same, on-staged, over-staged}
use Rattle.pr_truss_laws.specs.Exchanges.{Exchange, truss_after}
use Rattle.pr_report_laws.proofs.Invariant.OpeningRuns.{child-pid}
use Rattle.pr_report_laws.proofs.Invariant.StandLemmas.{Each, each-append, each-but, each-remove, each-set}
use Rattle.pr_report_laws.proofs.Replies.OpeningParts.{learnt-pid}
use Rattle.pr_report_laws.proofs.Replies.WatchedPlaces.{IsWatched, StandOnce}
use Rattle.pr_report_laws.specs.Watching.{is_away, place_of}

-- How many old stops of a process that truss watches are left, from one reply to the next: as many as there were, or
-- one less where the reply tells of an lwp of it on an event.

-- ---- what is said of them

-- so many old stops are left of the process of an id, where it is that one
abbrev pub HasLeft : ℕ → ℕ → Traced → Type 0
HasLeft pid n u = u.pid ≡ pid → u.old ≡ n

-- wherever it stands
abbrev pub AllLeft : ℕ → ℕ → List Traced → Type 0
AllLeft pid n ts = Each (HasLeft pid n) ts

-- The reply tells how an lwp stands of the process at a place: the one that its status shows, or the first of its lwps
-- on an event.
pub data ReadsAt (t : TrussState) (r : Reply) (place : ℕ) (l : LwpStatus) : Type 0 where
  at_status : t.stage ≡ ReadingStatus place → option_and_then status_lwp (bytes_in r) ≡ Some l → ReadsAt t r place l
  at_lwps : t.stage ≡ ReadingLwps → place ≡ 0 → slice_get (event_stops (bytes_in r)) 0 ≡ Some l → ReadsAt t r place l

-- An old stop was read of the process.
pub record ReadsOld (t : TrussState) (r : Reply) (pid n : ℕ) (later : List Traced) : Type 0 where
  pub place : ℕ
  pub of : (traced_at t place).pid ≡ pid
  pub lwp : LwpStatus
  pub reads : ReadsAt t r place lwp
  pub event : is_on_event lwp ≡ true
  pub left : ℕ
  pub was : n ≡ suc left
  pub less : AllLeft pid left later

pub data Leaves (t : TrussState) (r : Reply) (pid n : ℕ) (later : List Traced) : Type 0 where
  as_many : AllLeft pid n later → Leaves t r pid n later
  one_less : ReadsOld t r pid n later → Leaves t r pid n later

-- ---- where the process stands

-- two places of one id are one
pub one-place : (t : TrussState) → StandOnce t → (p q : ℕ) → p < length t.traced → q < length t.traced
    → (traced_at t p).pid ≡ (traced_at t q).pid → p ≡ q
one-place t once p q here there same =
    same_Some p q (sym (once p here) ∙ ap (place_of t) same ∙ once q there)

pub at-left : (t : TrussState) (pid n p : ℕ) → StandOnce t → p < length t.traced → (traced_at t p).pid ≡ pid
    → (traced_at t p).old ≡ n → AllLeft pid n t.traced
at-left t pid n p once within of left q inside own =
    let same : q ≡ p = one-place t once q p inside within (own ∙ sym of) in
    ap (λ m. (traced_at t m).old) same ∙ left

child-old : (u : Traced) (r : Reply) (now : ChildStep) → (child_learnt u r now).old ≡ u.old
unfolding child_learnt
child-old u r child.OpenMemory = refl
child-old u r _ = refl

-- ---- a reply

module _ (t : TrussState) (r : Reply) (pid n p : ℕ) (once : StandOnce t) (w : IsWatched t pid p)
    (all : AllLeft pid n t.traced) where
  abbrev Fit : Stage → Type 0
  Fit stage = Fits t.traced stage

  -- it is not the process that is opened
  away-other : (place : ℕ) → place < length t.traced → is_away t.leaving t.stage place ≡ true
      → (traced_at t place).pid ≢ pid
  away-other place within away own =
      let same : p ≡ place = one-place t once p place w.within within (w.of ∙ sym own) in
      false≢true (sym w.here ∙ ap (is_away t.leaving t.stage) same ∙ away)

  opening-other : (place : ℕ) (now : OpeningStep) → t.stage ≡ Opening place now → place < length t.traced
      → (traced_at t place).pid ≢ pid
  opening-other place now is within =
      away-other place within (ap (λ x. is_away t.leaving x place) is ∙ eq-eqb place place refl)

  child-other : (parent place : ℕ) (now : ChildStep) → t.stage ≡ OpeningChild parent place now
      → place < length t.traced → (traced_at t place).pid ≢ pid
  child-other parent place now is within =
      away-other place within (ap (λ x. is_away t.leaving x place) is ∙ eq-eqb place place refl)

  -- ---- one process changes

  set-left : (place : ℕ) (u : Traced) → place < length t.traced → HasLeft pid n u
      → AllLeft pid n (with_traced t place u).traced
  set-left place u within left =
      each-set (HasLeft pid n) t.traced place u within (each-but (HasLeft pid n) t.traced place all) left

  same-left : (place : ℕ) (u : Traced) → place < length t.traced → u.pid ≡ (traced_at t place).pid
      → u.old ≡ (traced_at t place).old → AllLeft pid n (with_traced t place u).traced
  same-left place u within pids olds =
      set-left place u within (λ own. olds ∙ all place within (sym pids ∙ own))

  -- one of another id
  other-left : (place : ℕ) (u : Traced) → place < length t.traced → u.pid ≡ (traced_at t place).pid
      → (traced_at t place).pid ≢ pid → AllLeft pid n (with_traced t place u).traced
  other-left place u within pids other = set-left place u within (λ own. absurd (other (sym pids ∙ own)))

  removed-left : (place : ℕ) → place < length t.traced → AllLeft pid n (without_traced t place).traced
  removed-left place within =
      each-remove (HasLeft pid n) t.traced place within (each-but (HasLeft pid n) t.traced place all)

  -- one process more
  push-left : (new control : ℕ) → StandOnce (with_opened t (newly_traced new control))
      → AllLeft pid n (with_opened t (newly_traced new control)).traced
  unfolding newly_traced
  push-left new control later =
      let u = newly_traced new control in
      let v : TrussState = with_opened t u in
      each-append (HasLeft pid n) t.traced u all
      (λ own.
      let before : (traced_at v p).pid ≡ pid =
      ap (λ (x : Traced). x.pid) (get_or_append_left t.traced (u ∷ []) nobody p w.within) ∙ w.of in
      let same : p ≡ length t.traced =
      one-place v later p (length t.traced) (omega (arith, w.within, length-append t.traced (u ∷ [])))
      (omega (arith, length-append t.traced (u ∷ []))) (before ∙ sym own) in
      absurd (omega (arith, w.within, same)))

  -- ---- nothing is to be done for a process any more

  settles-left : (stage : Stage) (given : Bool) (u : TrussState) → t.stage ≡ stage → Fit stage
      → Settles t r stage given u → AllLeft pid n u.traced
  settles-left stage given u is f (step.interrupts_opening {place = place} _) = same-left place _ f.0 refl refl
  settles-left stage given u is f (step.interrupts_text {place = place} _ _) = same-left place _ f refl refl
  settles-left stage given u is f (step.interrupts_child_control {parent = parent} _) =
      same-left parent _ f refl refl
  settles-left stage given u is f (step.interrupts_child {parent = parent} {place = place} _) =
      same-left parent _ (parent-within t.traced parent place f.0) refl refl
  settles-left stage given u is f (step.interrupts_run {place = place} _) = same-left place _ f refl refl
  settles-left stage given u is f (step.ends_opening {place = place} {now = now} _ _) =
      other-left place (learnt (traced_at t place) r now) f.0 (learnt-pid (traced_at t place) r now)
      (opening-other place now is f.0)
  settles-left stage given u is f (step.closed_next {place = place} _) = removed-left place f.0
  settles-left stage given u is f (step.closed {place = place} _) = removed-left place f.0
  settles-left stage given u is f _ = all

  -- ---- a stop is looked at

  reads-at : (stage : Stage) (place : ℕ) (read : Option LwpStatus) → t.stage ≡ stage → Reads t r stage place read
      → (l : LwpStatus) → read ≡ Some l → ReadsAt t r place l
  reads-at stage place read is (step.reads_status _) l told = at_status is told
  reads-at stage place read is (step.reads_none _) l told = cc
  reads-at stage place read is (step.reads_lwps _) l told = at_lwps is refl told

  one-more : (m : ℕ) → nat_lt 0 m ≡ true → m ≡ suc (m - 1)
  one-more zero some = absurd (false≢true some)
  one-more (suc m) some = omega arith

  abbrev less_old : ℕ → Traced
  less_old place = record (traced_at t place) { old = (traced_at t place).old - 1 }

  less-left : (place : ℕ) → place < length t.traced → (traced_at t place).pid ≡ pid
      → AllLeft pid ((traced_at t place).old - 1) (step.old_less t place).traced
  less-left place within own =
      let m : ℕ = (traced_at t place).old - 1 in
      each-set (HasLeft pid m) t.traced place (less_old place) within
      (λ q inside apart its. absurd (apart (one-place t once q place inside within (its ∙ sym own)))) (λ its. refl)

  -- an old one
  old-read : (place : ℕ) (l : LwpStatus) → ReadsAt t r place l → place < length t.traced → is_on_event l ≡ true
      → nat_lt 0 (traced_at t place).old ≡ true → Leaves t r pid n (step.old_less t place).traced
  old-read place l reads within on some = elim (cases_eq (traced_at t place).pid pid) [
    | inl own ↦ one_less (record {
      place = place;
      of = own;
      lwp = l;
      reads = reads;
      event = on;
      left = (traced_at t place).old - 1;
      was = sym (all place within own) ∙ one-more (traced_at t place).old some;
      less = less-left place within own;
    })
    | inr other ↦ as_many (other-left place (less_old place) within refl other)
  ]

  looks-left : (stage : Stage) (place : ℕ) (of : Option ℕ) (u : TrussState) → t.stage ≡ stage → Fit stage
      → Looks t r stage place of u → Leaves t r pid n u.traced
  looks-left stage place of u is f (step.passes_old {l = l} reads on some) =
      old-read place l (reads-at stage place (Some l) is reads l refl)
      (reads-within t r stage place (Some l) f reads) on some
  looks-left stage place of u is f _ = as_many all

  -- ---- the other kinds

  closes-left : (stage : Stage) (place : ℕ) (next : AfterClosing) (u : TrussState) → Closes t r stage place next u
      → AllLeft pid n u.traced
  closes-left stage place next u (step.looked_last _) = all
  closes-left stage place next u _ = all

  returns-left : (stage : Stage) (parent : ℕ) (u : TrussState) → Fit stage → Returns t r stage parent u
      → AllLeft pid n u.traced
  returns-left stage parent u f (step.child_closed {place = place} _) = removed-left place f.0
  returns-left stage parent u f _ = all

  opens-left : (stage next : Stage) (new control : ℕ) → Opens (length t.traced) stage new next
      → StandOnce (with_opened t (newly_traced new control)) → AllLeft pid n (t.traced ++ newly_traced new control ∷ [])
  opens-left stage next new control o later = push-left new control later

  step-left : (stage : Stage) (v : TrussState) → t.stage ≡ stage → Fit stage → StandOnce v → ReplyStep t r stage v
      → Leaves t r pid n v.traced
  step-left stage v is f later (step.settles w on) =
      let same = on-staged on in
      as_many (subst (AllLeft pid n) (sym same.traced) (settles-left stage _ _ is f w))
  step-left stage v is f later (step.looks w over) =
      let same = over-staged over in
      subst (Leaves t r pid n) (sym same.traced) (looks-left stage _ _ _ is f w)
  step-left stage v is f later (step.asks _ _ _ _) = as_many all
  step-left stage v is f later (step.closes w) = as_many (closes-left stage _ _ _ w)
  step-left stage v is f later (step.loses {place = place} {t = u} lost) =
      let same = lost-same (traced_at t place) u lost in
      as_many (same-left place u f.0 same.pid same.old)
  step-left stage v is f later (step.opens {pid = new} _ o) =
      as_many (opens-left stage _ new (handle_in r) o later)
  step-left stage v is f later (step.learns _ (step.opening_goes {place = place} {now = now} _)) =
      as_many (other-left place _ f.0 (learnt-pid (traced_at t place) r now) (opening-other place now is f.0))
  step-left stage v is f later (step.learns _ (step.child_goes {parent = parent} {place = place} {now = now} _)) =
      let within = last-within t.traced parent place f.0 in
      as_many (other-left place _ within (child-pid (traced_at t place) r now) (child-other parent place now is within))
  step-left stage v is f later (step.returns w) = as_many (returns-left stage _ _ f w)
  step-left stage v is f later (step.turns _) = as_many all

  -- any reply
  pub fed-left : Fits t.traced t.stage → StandOnce (fed t r) → Leaves t r pid n (fed t r).traced
  fed-left fits later = step-left t.stage (fed t r) refl fits later (fed-step t r)

-- ---- a child that truss opens

-- a child has no old stop while truss opens it
abbrev pub NewAt : List Traced → Stage → Type 0
NewAt ts (OpeningChild parent place now) = (at_place ts place).old ≡ 0
NewAt ts _ = Unit {0}

on-new : {u v : TrussState} {given : Bool} → GoesOn u given v → NewAt v.traced v.stage
on-new (step.finishes _) = tt
on-new _ = tt

over-new : {u v : TrussState} {place : ℕ} {of : Option ℕ} → StopOver u place of v → NewAt v.traced v.stage
over-new (step.runs _) = tt
over-new _ = tt

module _ (t : TrussState) (r : Reply) where
  turns-new : (stage next : Stage) → Turns t r stage next → NewAt t.traced next
  turns-new stage next step.polls_again = tt
  turns-new stage next _ = tt

  opens-new : (stage next : Stage) (new : ℕ) → Opens (length t.traced) stage new next
      → NewAt (t.traced ++ newly_traced new (handle_in r) ∷ []) next
  unfolding newly_traced
  opens-new stage next new step.new_given = tt
  opens-new stage next new step.new_child =
      ap (λ (u : Traced). u.old) (get_or_push t.traced (newly_traced new (handle_in r)) nobody (length t.traced) refl)

  step-new : (stage : Stage) (v : TrussState) → Fits t.traced stage → NewAt t.traced stage → ReplyStep t r stage v
      → NewAt v.traced v.stage
  step-new stage v f new (step.opens {next = next} {pid = pid} _ o) = opens-new stage next pid o
  step-new stage v f new (step.learns _ (step.child_goes {parent = parent} {place = place} {now = now} _)) =
      ap (λ (u : Traced). u.old)
      (set-at t.traced place (child_learnt (traced_at t place) r now) (last-within t.traced parent place f.0))
      ∙ child-old (traced_at t place) r now ∙ new
  step-new stage v f new (step.settles w on) = on-new on
  step-new stage v f new (step.looks w over) = over-new over
  step-new stage v f new (step.turns {next = next} w) = turns-new stage next w
  step-new stage v f new _ = tt

  fed-new : Fits t.traced t.stage → NewAt t.traced t.stage → NewAt (fed t r).traced (fed t r).stage
  fed-new fits new = step-new t.stage (fed t r) fits new (fed-step t r)

after-new : (xs : List Exchange) (t : TrussState) → Fits t.traced t.stage → NewAt t.traced t.stage
    → NewAt (truss_after t xs).traced (truss_after t xs).stage
after-new [] t fits new = new
after-new (x ∷ xs) t fits new = after-new xs (fed t x.reply) (fed-fits t x.reply fits) (fed-new t x.reply fits new)

first-new : (o : Options) → NewAt (first_truss o).traced (first_truss o).stage
unfolding first_truss
first-new o = by o.program
  where
    pids : (p : Option ℕ) → NewAt (opening_or (idle o) (idle o) p).traced (opening_or (idle o) (idle o) p).stage
    pids None = tt
    pids (Some pid) = tt

    by : (p : Option (List ℕ)) → NewAt (first_of_program o p).traced (first_of_program o p).stage
    by None = pids (slice_get o.pids 0)
    by (Some program) = tt

pub reached-new : (o : Options) (xs : List Exchange)
    → NewAt (truss_after (first_truss o) xs).traced (truss_after (first_truss o) xs).stage
reached-new o xs = after-new xs (first_truss o) (first-fits o) (first-new o)
