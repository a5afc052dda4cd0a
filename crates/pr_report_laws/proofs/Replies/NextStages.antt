use Rattle.std.proofs.Common.{◌≡◌, ◌==◌, ◌++◌, ℕ, zero, suc, Bool, true, false, Some, List, [], ◌∷◌, filter_map, refl, sym, ap, ◌∙◌}
use Rattle.std.proofs.lemmas.Bool.{false≢true}
use Rattle.std.proofs.lemmas.Option.{none-some, same_Some}
use Rattle.std.proofs.Math.Dec.{eqb-zero-suc}
use Rattle.std.specs.List.{slice_get}
use Rattle.pr_line.specs.declared.options.Options.{Options}
use Rattle.pr_model.specs.State.{TracedState}
use Rattle.pr_truss.specs.Closings.{with_going_on, with_interrupt, with_next_opening}
use Rattle.pr_truss.specs.Reports.{all_reports, pending_at}
use Rattle.pr_truss.specs.Trusses.{TrussState, traced_at}
use Rattle.pr_truss.specs.declared.processes.Traced.{Traced}
use Rattle.pr_truss.specs.declared.reports.Report.{Report}
use Rattle.pr_truss.specs.declared.stages.Stage.{Stage}
use Rattle.pr_truss.specs.declared.stages.Stage.TheVariants.{Opening, OpeningChild}
use Rattle.pr_truss_laws.proofs.Files.HeldLemmas.{at_place}
use Rattle.pr_truss_laws.proofs.Replies.ReplySteps as step
use Rattle.pr_truss_laws.proofs.Replies.ReplySteps.{GoesOn, leaving_now}
use Rattle.pr_truss_laws.proofs.Replies.FedSteps.{goes-on, interrupt-on, opens-next}
use Rattle.pr_report_laws.proofs.Invariant.Standing.{Prepares, has_read, is_named}
use Rattle.pr_report_laws.specs.Shown.{LwpEvent, event_reported, shown}
use Rattle.pr_report_laws.specs.Watching.{is_away, place_of}

-- What truss comes to when nothing is to be done for a process: it traces the same ones and has reported the same, and
-- its step is about no process that is attached.

-- ---- the opening of a process is no step of these

-- whether a step opens a process whose control file is open
abbrev pub opens : Stage → Bool
opens (Opening place _) = true
opens (OpeningChild parent place _) = true
opens _ = false

-- then nothing is asked of a process that truss opens
pub prepares-none : (o : Options) (pid : ℕ) (t : TrussState) (s : TracedState) → opens t.stage ≡ false
    → Prepares o pid t s
prepares-none o pid t s not = record {
  opened = λ place step p is own live. absurd (false≢true (sym not ∙ ap opens is));
  until = λ place until is. absurd (false≢true (sym not ∙ ap opens is));
  child = λ parent place step p is own live. absurd (false≢true (sym not ∙ ap opens is));
  new = λ parent place step is. absurd (false≢true (sym not ∙ ap opens is));
}

-- ---- what is shown

-- what reports show of a process
unfoldable pub reported : ℕ → List Report → List LwpEvent
reported pid reports = filter_map (event_reported pid) reports

pub shown-all : (pid : ℕ) (t : TrussState) → shown pid t ≡ reported pid (all_reports t)
unfolding shown reported
shown-all pid t = refl

pub all-none : (t : TrussState) → pending_at t t.stage ≡ [] → all_reports t ≡ t.reports ++ []
unfolding all_reports
all-none t none = ap (λ (rs : List Report). t.reports ++ rs) none

-- ---- what comes next

pub record ComesNext (t u : TrussState) : Type 0 where
  pub traced : u.traced ≡ t.traced
  pub reports : u.reports ≡ t.reports
  pub options : u.options ≡ t.options
  pub here : (place : ℕ) → (traced_at u place).attached ≡ true → is_away u.leaving u.stage place ≡ false
  pub read : (place : ℕ) → has_read u.stage place ≡ false
  pub named : (place : ℕ) → is_named u.stage place ≡ false
  pub pending : pending_at u u.stage ≡ []
  pub opens : opens u.stage ≡ false

-- the processes stand where they stood
pub comes-places : (pid : ℕ) (t u : TrussState) → ComesNext t u → place_of u pid ≡ place_of t pid
comes-places pid t u c = ap (λ (ts : List Traced). place_of (record t { traced = ts }) pid) c.traced

pub comes-same : (place : ℕ) (t u : TrussState) → ComesNext t u → traced_at u place ≡ traced_at t place
comes-same place t u c = ap (λ (ts : List Traced). at_place ts place) c.traced

-- ---- the steps

-- the first process is closed alone where it is not attached
not-first : (ts : List Traced) (x : Traced) (place : ℕ) → slice_get ts 0 ≡ Some x → x.attached ≡ false
    → (at_place ts place).attached ≡ true → (zero == place) ≡ false
not-first ts x (suc n) first off on = eqb-zero-suc n
not-first [] x zero first off on = absurd (none-some x first)
not-first (y ∷ ts) x zero first off on =
    absurd (false≢true (sym off ∙ ap (λ (z : Traced). z.attached) (sym (same_Some y x first)) ∙ on))

pub on-comes : (u v : TrussState) (given : Bool) → GoesOn u given v → ComesNext u v
on-comes u v given (step.closes_first {t = x} _ first off) = record {
  traced = refl;
  reports = refl;
  options = refl;
  here = λ place on. not-first u.traced x place first off on;
  read = λ place. refl;
  named = λ place. refl;
  pending = refl;
  opens = refl;
}
on-comes u v given _ = record {
  traced = refl;
  reports = refl;
  options = refl;
  here = λ place on. refl;
  read = λ place. refl;
  named = λ place. refl;
  pending = refl;
  opens = refl;
}

pub going_on-comes : (t : TrussState) → ComesNext t (with_going_on t)
going_on-comes t = on-comes t (with_going_on t) false (goes-on t false)

pub next_opening-comes : (t : TrussState) → ComesNext t (with_next_opening t)
next_opening-comes t = on-comes t (with_next_opening t) true (opens-next t)

pub interrupt-comes : (t : TrussState) → ComesNext t (with_interrupt t)
interrupt-comes t = let c = on-comes (leaving_now t) (with_interrupt t) false (interrupt-on t) in record {
  traced = c.traced;
  reports = c.reports;
  options = c.options;
  here = c.here;
  read = c.read;
  named = c.named;
  pending = c.pending;
  opens = c.opens;
}
