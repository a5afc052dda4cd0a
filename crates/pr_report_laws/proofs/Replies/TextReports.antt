use Rattle.std.proofs.Common.{◌≡◌, ◌++◌, ℕ, Bool, true, false, Option, Some, None, List, [], ◌∷◌, refl, sym, subst, ap, ◌∙◌}
use Rattle.std.specs.List.{slice_get}
use Rattle.std.specs.Option.{option_and_then}
use Rattle.pr_line.specs.ArgumentTexts.{Came}
use Rattle.pr_line.specs.declared.events.Event.{Event}
use Rattle.pr_line.specs.declared.options.Options.{Options}
use Rattle.pr_model.specs.Replies.{bytes_in}
use Rattle.pr_model.specs.declared.calls.Reply.{Reply}
use Rattle.pr_rec.specs.declared.lwps.LwpStatus.{LwpStatus}
use Rattle.pr_truss.specs.Feeding.{fed}
use Rattle.pr_truss.specs.Stops.{after_text, asked_range, text_of}
use Rattle.pr_truss.specs.Trusses.{TrussState, first_of_program, first_truss, idle, opening_or, traced_at}
use Rattle.pr_truss.specs.declared.replies.Answer.{Answer}
use Rattle.pr_truss.specs.declared.replies.Answer.TheVariants.{Interrupted, Gone}
use Rattle.pr_truss.specs.declared.reports.Report.{Report}
use Rattle.pr_truss.specs.declared.reports.Report.TheVariants as report
use Rattle.pr_truss.specs.declared.stages.AfterClosing.{AfterClosing}
use Rattle.pr_truss.specs.declared.stages.Stage.{Stage}
use Rattle.pr_truss.specs.declared.stages.Stage.TheVariants.{ReadingStatus, ReadingText, ReadingLwps}
use Rattle.pr_truss_laws.proofs.Replies.ReplySteps as step
use Rattle.pr_truss_laws.proofs.Replies.ReplySteps.{Closes, GoesOn, IsNew, Looks, Reads, ReplyStep, Settles, StopOver, on-staged, over-staged}
use Rattle.pr_truss_laws.proofs.Replies.FedSteps.{by_test, event-over, fed-step, seen-on}
use Rattle.pr_truss_laws.proofs.Files.HeldLemmas.{Grown, grown-same}
use Rattle.pr_report_laws.specs.Memories.{range_asked}

-- What one reply adds to the reports of truss, and which memory truss asks for then.

-- ---- what is said of them

-- An event that a reply makes truss report: its line asks for no memory; or the reply is to the read of the memory that
-- it asks for.
pub data IsToldEvent (o : Options) (t : TrussState) (r : Reply) (pid : ℕ) (l : LwpStatus) (text : Came) : Type 0 where
  silent : range_asked o l ≡ None → text ≡ None → IsToldEvent o t r pid l text
  told : (place from len : ℕ) → t.stage ≡ ReadingText place l from len → pid ≡ (traced_at t place).pid
      → text ≡ text_of len (bytes_in r) → IsToldEvent o t r pid l text

-- the same of any report
abbrev pub IsTold : Options → TrussState → Reply → Report → Type 0
IsTold o t r (report.CannotStart program errno) = Unit {0}
IsTold o t r (report.CannotTrace pid errno) = Unit {0}
IsTold o t r (report.Event pid l text) = IsToldEvent o t r pid l text
IsTold o t r (report.Called pid lwp function arguments) = Unit {0}

-- These reports are those of truss before the reply, or one more.
pub data Grows (o : Options) (t : TrussState) (r : Reply) (reports : List Report) : Type 0 where
  as_before : reports ≡ t.reports → Grows o t r reports
  one_more : (x : Report) → reports ≡ t.reports ++ x ∷ [] → IsTold o t r x → Grows o t r reports

-- Where memory is read, it is what the line of the event asks for.
abbrev pub AsksItsRange : Options → Stage → Type 0
AsksItsRange o (ReadingText place l from len) = range_asked o l ≡ Some (from, len)
AsksItsRange o _ = Unit {0}

-- whether truss reads at a stage on what event a process stands
abbrev pub reads_stop : Stage → Bool
reads_stop (ReadingStatus place) = true
reads_stop ReadingLwps = true
reads_stop _ = false

-- Memory that is to be read now is what the line of the event asks for. Truss was to read a stop before, and these
-- reports are as they were.
pub record AsksNow (o : Options) (t : TrussState) (reports : List Report) (l : LwpStatus) (from len : ℕ) : Type 0 where
  pub range : range_asked o l ≡ Some (from, len)
  pub same : reports ≡ t.reports
  pub reads : reads_stop t.stage ≡ true

abbrev pub Asks : Options → TrussState → List Report → Stage → Type 0
Asks o t reports (ReadingText place l from len) = AsksNow o t reports l from len
Asks o t reports _ = Unit {0}

pub asks-range : (o : Options) (t : TrussState) (reports : List Report) (stage : Stage) → Asks o t reports stage
    → AsksItsRange o stage
asks-range o t reports (ReadingText place l from len) asks = asks.range
asks-range o t reports _ asks = tt

pub record Goes (o : Options) (t : TrussState) (r : Reply) (u : TrussState) : Type 0 where
  pub reports : Grows o t r u.reports
  pub asks : Asks o t u.reports u.stage

-- ---- the first state

-- truss has reported nothing
pub record IsSilent (o : Options) (t : TrussState) : Type 0 where
  pub options : t.options ≡ o
  pub reports : t.reports ≡ []
  pub asks : AsksItsRange o t.stage

pub first-silent : (o : Options) → IsSilent o (first_truss o)
unfolding first_truss
first-silent o = by o.program
  where
    pids : (p : Option ℕ) → IsSilent o (opening_or (idle o) (idle o) p)
    pids None = record { options = refl; reports = refl; asks = tt }
    pids (Some pid) = record { options = refl; reports = refl; asks = tt }

    by : (p : Option (List ℕ)) → IsSilent o (first_of_program o p)
    by None = pids (slice_get o.pids 0)
    by (Some program) = record { options = refl; reports = refl; asks = tt }

module _ (o : Options) (t : TrussState) (r : Reply) (same : t.options ≡ o) where
  -- the memory that the line of a new event asks for
  new-range : (place : ℕ) (l : LwpStatus) (e : Event) → IsNew t r place l e → range_asked o l ≡ asked_range t.options e
  new-range place l e new =
      ap (option_and_then (asked_range o)) new.is ∙ ap (λ (p : Options). asked_range p e) (sym same)

  on-asks : (rs : List Report) (u v : TrussState) (given : Bool) → GoesOn u given v → Asks o t rs v.stage
  on-asks rs u v given (step.polls _ _) = tt
  on-asks rs u v given _ = tt

  over-asks : (rs : List Report) (u v : TrussState) (place : ℕ) (pid : Option ℕ) → StopOver u place pid v
      → Asks o t rs v.stage
  over-asks rs u v place pid (step.runs _) = tt
  over-asks rs u v place pid _ = tt

  reads-reads : (stage : Stage) (place : ℕ) (l : Option LwpStatus) → t.stage ≡ stage → Reads t r stage place l
      → reads_stop t.stage ≡ true
  reads-reads stage place l at (step.reads_lwps _) = ap reads_stop at
  reads-reads stage place l at _ = ap reads_stop at

  settles-grows : (stage : Stage) (given : Bool) (u : TrussState) → t.stage ≡ stage → Settles t r stage given u
      → Grows o t r u.reports
  settles-grows stage given u at (step.refuses_start _ _) = one_more _ refl tt
  settles-grows stage given u at (step.refuses_control _ _) = one_more _ refl tt
  settles-grows stage given u at (step.interrupts_text {place = place} {from = from} {len = len} _ _) =
      one_more _ refl (told place from len at refl refl)
  settles-grows stage given u at _ = as_before refl

  looks-grows : (stage : Stage) (place : ℕ) (pid : Option ℕ) (u : TrussState) → t.stage ≡ stage
      → Looks t r stage place pid u → Grows o t r u.reports
  looks-grows stage place pid u at (step.shows {l = l} {e = e} _ new _ none) =
      one_more _ refl (silent (new-range place l e new ∙ none) refl)
  looks-grows stage place pid u at (step.shows_text {from = from} {len = len}) =
      one_more _ refl (told place from len at refl refl)
  looks-grows stage place pid u at _ = as_before refl

  closes-grows : (stage : Stage) (place : ℕ) (next : AfterClosing) (u : TrussState) → t.stage ≡ stage
      → Closes t r stage place next u → Grows o t r u.reports
  closes-grows stage place next u at (step.text_ended {from = from} {len = len} _) =
      one_more _ refl (told place from len at refl refl)
  closes-grows stage place next u at (step.refuses_free _ _) = one_more _ refl tt
  closes-grows stage place next u at (step.refuses_opening _ _) = one_more _ refl tt
  closes-grows stage place next u at (step.refuses_child _ _) = one_more _ refl tt
  closes-grows stage place next u at _ = as_before refl

  step-goes : (stage : Stage) (v : TrussState) → t.stage ≡ stage → ReplyStep t r stage v → Goes o t r v
  step-goes stage v at (step.settles w on) =
      let s = on-staged on in
      record {
        reports = subst (Grows o t r) (sym s.reports)
            (settles-grows stage _ _ at w);
        asks = on-asks v.reports _ v _ on;
      }
  step-goes stage v at (step.looks w over) =
      let s = over-staged over in
      record {
        reports = subst (Grows o t r) (sym s.reports)
            (looks-grows stage _ _ _ at w);
        asks = over-asks v.reports _ v _ _ over;
      }
  step-goes stage v at (step.asks {place = place} {l = l} {e = e} reads new _ some) = record {
    reports = as_before refl;
    asks = record { range = new-range place l e new ∙ some; same = refl; reads = reads-reads stage place _ at reads };
  }
  step-goes stage v at (step.closes w) = record { reports = closes-grows stage _ _ _ at w; asks = tt }
  step-goes stage v at (step.opens _ step.new_given) = record { reports = as_before refl; asks = tt }
  step-goes stage v at (step.opens _ step.new_child) = record { reports = as_before refl; asks = tt }
  step-goes stage v at (step.learns _ (step.opening_goes _)) = record { reports = as_before refl; asks = tt }
  step-goes stage v at (step.learns _ (step.child_goes _)) = record { reports = as_before refl; asks = tt }
  step-goes stage v at (step.returns (step.refuses_child_control _ _)) =
      record { reports = one_more _ refl tt; asks = tt }
  step-goes stage v at (step.returns _) = record { reports = as_before refl; asks = tt }
  step-goes stage v at (step.turns (step.is_named _)) = record { reports = as_before refl; asks = tt }
  step-goes stage v at (step.turns _) = record { reports = as_before refl; asks = tt }
  step-goes stage v at (step.loses _) = record { reports = as_before refl; asks = tt }

  pub fed-goes : Goes o t r (fed t r)
  fed-goes = step-goes t.stage (fed t r) refl (fed-step t r)

-- ---- after the memory of an event was read

text-reports : (u : TrussState) (at : ℕ) (l : LwpStatus) (a : Answer) → (after_text u at l a).reports ≡ u.reports
unfolding after_text
text-reports u at l Interrupted = by_test (λ (v : TrussState). v.reports ≡ u.reports) u.leaving _ _
    (λ on. let same = over-staged (event-over u at l) in same.reports)
    (λ off. let same = on-staged (seen-on u at) in same.reports)
text-reports u at l Gone = refl
text-reports u at l _ = let same = over-staged (event-over u at l) in same.reports

pub text-grown : (u : TrussState) (at : ℕ) (l : LwpStatus) (a : Answer) → Grown u.reports (after_text u at l a).reports
text-grown u at l a = subst (Grown u.reports) (sym (text-reports u at l a)) (grown-same u.reports)
