use Rattle.std.proofs.Common.{◌≡◌, ◌==◌, ◌≤◌, ◌++◌, ℕ, suc, Bool, true, false, cond, not, is_some, Option, Some, None, List, [], ◌∷◌, filter, length, Ok, Err, codes, refl, sym, ap, ◌∙◌, arith}
use Rattle.std.proofs.lemmas.Bool.{ne_eqb}
use Rattle.std.proofs.lemmas.List.{append-nil}
use Rattle.std.proofs.lemmas.Option.{none-some}
use Rattle.std.specs.List.{cons_option, filter_map, flat_map, slice_get}
use Rattle.pr_line.specs.TextRanges.{text_range}
use Rattle.pr_line.specs.declared.events.Event.{Event}
use Rattle.pr_line.specs.declared.events.Event.TheVariants.{Entered, Left, Received, Incurred}
use Rattle.pr_line.specs.declared.options.Options.{Options}
use Rattle.pr_model.specs.declared.calls.Reply.{Reply}
use Rattle.pr_num.proofs.EntryLemmas.{fault_numbers-range, fault_of_number-number}
use Rattle.pr_num.proofs.NumberedLemmas.{signal_number-range}
use Rattle.pr_num.specs.Faults.{fault_name, fault_number, faults}
use Rattle.pr_num.specs.Signals.{signal_name, signal_number, signals}
use Rattle.pr_num.specs.Syscalls.{syscall_name, syscall_number, syscalls}
use Rattle.pr_num.specs.declared.faults.Flt.{Flt}
use Rattle.pr_num.specs.declared.signals.Sig.{Sig}
use Rattle.pr_num.specs.declared.syscalls.Sysno.{Sysno}
use Rattle.pr_rec.specs.Fields.{number_or_zero}
use Rattle.pr_text.specs.TextLines.{newline}
use Rattle.pr_truss.proofs.ForkLemmas.{call_number-range}
use Rattle.pr_truss.specs.Counts.{call_counts, call_in, call_row, count_of, counts_text, event_in, fault_in, fault_row, has_failed, if_any, number_in, one_count_row, other_counts, signal_in, signal_row, total_of, total_row, two_counts_row}
use Rattle.pr_truss.specs.Feeding.{fed}
use Rattle.pr_truss.specs.Printing.{printed}
use Rattle.pr_truss.specs.Reports.{all_reports, pending_at, refusal_or_nothing, report_lines}
use Rattle.pr_truss.specs.Stops.{asked_range}
use Rattle.pr_truss.specs.Trusses.{TrussState, first_of_program, first_truss, idle, opening_or}
use Rattle.pr_truss.specs.declared.reports.Report.{Report}
use Rattle.pr_truss.specs.declared.reports.Report.TheVariants as report
use Rattle.pr_truss.specs.declared.stages.Stage.{Stage}
use Rattle.pr_truss.specs.declared.stages.Stage.TheVariants.{ReadingText}
use Rattle.pr_truss_laws.proofs.Replies.FedSteps.{fed-step}
use Rattle.pr_truss_laws.proofs.OwnBusiness.KnownLemmas.{Knows, after-knows, first-knows}
use Rattle.pr_truss_laws.proofs.Replies.OptionLemmas.{fed-options}
use Rattle.pr_truss_laws.proofs.Replies.ReplySteps as step
use Rattle.pr_truss_laws.proofs.Replies.ReplySteps.{GoesOn, ReplyStep, StopOver}
use Rattle.pr_truss_laws.specs.Exchanges.{Exchange, Makes, truss_after}
use Rattle.pr_report_laws.specs.Counted.{PrintsItsCounts, counts_line, event_shown, how_many, is_call, is_failure, is_failure_of, is_of_call, is_of_fault, is_of_signal, line_of_call, line_of_fault, line_of_signal, other_line, table_of}

-- What truss prints with -c.

-- ---- what a report counts as

abbrev passes : (Event → Bool) → Option Event → Bool
passes is None = false
passes is (Some e) = is e

shown-in : (r : Report) → event_in r ≡ event_shown r
shown-in (report.CannotStart program errno) = refl
shown-in (report.CannotTrace pid errno) = refl
shown-in (report.Event pid l text) = refl
shown-in (report.Called pid lwp function arguments) = refl

below : (n : ℕ) → 1 ≤ n → (0 == n) ≡ false
below n some = ne_eqb 0 n (λ is. absurd (omega (arith, is)))

above : (n : ℕ) → 1 ≤ n → (n == 0) ≡ false
above n some = ne_eqb n 0 (λ is. absurd (omega (arith, is)))

fault-some : (f : Flt) → 1 ≤ fault_number f
fault-some f =
    let range = (fault_numbers-range (fault_number f)).0 (ap is_some (fault_of_number-number f)) in
    omega (arith, range.0)

module _ (c : Sysno) where
  some : 1 ≤ syscall_number c
  some = (call_number-range c).0

  call-passes : (x : Option Event)
      → (number_or_zero syscall_number (call_in x) == syscall_number c) ≡ passes (is_of_call c) x
  call-passes None = below (syscall_number c) some
  call-passes (Some (Entered of args)) = refl
  call-passes (Some (Left of args r)) = refl
  call-passes (Some (Received g d info)) = below (syscall_number c) some
  call-passes (Some (Incurred f pc)) = below (syscall_number c) some

  failure-passes : (x : Option Event)
      → (cond (has_failed x) (number_or_zero syscall_number (call_in x)) 0 == syscall_number c)
      ≡ passes (is_failure_of c) x
  failure-passes None = below (syscall_number c) some
  failure-passes (Some (Entered of args)) = below (syscall_number c) some
  failure-passes (Some (Left of args (Ok v))) = below (syscall_number c) some
  failure-passes (Some (Left of args (Err e))) = refl
  failure-passes (Some (Received g d info)) = below (syscall_number c) some
  failure-passes (Some (Incurred f pc)) = below (syscall_number c) some

signal-passes : (g : Sig) (x : Option Event)
    → (number_or_zero signal_number (signal_in x) == signal_number g) ≡ passes (is_of_signal g) x
signal-passes g None = below (signal_number g) (signal_number-range g).0
signal-passes g (Some (Entered of args)) = below (signal_number g) (signal_number-range g).0
signal-passes g (Some (Left of args r)) = below (signal_number g) (signal_number-range g).0
signal-passes g (Some (Received of d info)) = refl
signal-passes g (Some (Incurred f pc)) = below (signal_number g) (signal_number-range g).0

fault-passes : (f : Flt) (x : Option Event)
    → (number_or_zero fault_number (fault_in x) == fault_number f) ≡ passes (is_of_fault f) x
fault-passes f None = below (fault_number f) (fault-some f)
fault-passes f (Some (Entered of args)) = below (fault_number f) (fault-some f)
fault-passes f (Some (Left of args r)) = below (fault_number f) (fault-some f)
fault-passes f (Some (Received g d info)) = below (fault_number f) (fault-some f)
fault-passes f (Some (Incurred of pc)) = refl

call-any : (x : Option Event) → not (number_or_zero syscall_number (call_in x) == 0) ≡ passes is_call x
call-any None = refl
call-any (Some (Entered of args)) = ap not (above (syscall_number of) (some of))
call-any (Some (Left of args r)) = ap not (above (syscall_number of) (some of))
call-any (Some (Received g d info)) = refl
call-any (Some (Incurred f pc)) = refl

failure-any : (x : Option Event)
    → not (cond (has_failed x) (number_or_zero syscall_number (call_in x)) 0 == 0) ≡ passes is_failure x
failure-any None = refl
failure-any (Some (Entered of args)) = refl
failure-any (Some (Left of args (Ok v))) = refl
failure-any (Some (Left of args (Err e))) = ap not (above (syscall_number of) (some of))
failure-any (Some (Received g d info)) = refl
failure-any (Some (Incurred f pc)) = refl

-- ---- how many there are

count-same : (p : Report → Bool) (q : Event → Bool) → ((r : Report) → p r ≡ passes q (event_shown r))
    → (rs : List Report) → length (filter p rs) ≡ how_many q (filter_map event_shown rs)
count-same p q each [] = refl
count-same p q each (r ∷ rs) = by (event_shown r) (p r) (each r) (count-same p q each rs)
  where
    both : (e : Event) (b : Bool) → length (filter p rs) ≡ how_many q (filter_map event_shown rs)
        → length (cond b (r ∷ filter p rs) (filter p rs))
        ≡ length (cond b (e ∷ filter q (filter_map event_shown rs)) (filter q (filter_map event_shown rs)))
    both e true rest = ap suc rest
    both e false rest = rest

    by : (x : Option Event) (b : Bool) → b ≡ passes q x
        → length (filter p rs) ≡ how_many q (filter_map event_shown rs)
        → length (cond b (r ∷ filter p rs) (filter p rs)) ≡ how_many q (cons_option x (filter_map event_shown rs))
    by None b is rest = ap (λ d. length (cond d (r ∷ filter p rs) (filter p rs))) is ∙ rest
    by (Some e) b is rest = ap (λ d. length (cond d (r ∷ filter p rs) (filter p rs))) is ∙ both e (q e) rest

-- what a report counts as, by its number
abbrev of_call : Sysno → Report → Bool
of_call c r = number_or_zero syscall_number (call_in (event_in r)) == syscall_number c

abbrev of_failure : Sysno → Report → Bool
of_failure c r =
    cond (has_failed (event_in r)) (number_or_zero syscall_number (call_in (event_in r))) 0 == syscall_number c

abbrev of_signal : Sig → Report → Bool
of_signal g r = number_or_zero signal_number (signal_in (event_in r)) == signal_number g

abbrev of_fault : Flt → Report → Bool
of_fault f r = number_or_zero fault_number (fault_in (event_in r)) == fault_number f

abbrev of_any : Report → Bool
of_any r = not (number_or_zero syscall_number (call_in (event_in r)) == 0)

abbrev of_any_failure : Report → Bool
of_any_failure r =
    not (cond (has_failed (event_in r)) (number_or_zero syscall_number (call_in (event_in r))) 0 == 0)

abbrev reported : (Report → Bool) → List Report → ℕ
reported p rs = length (filter p rs)

module _ (rs : List Report) where
  abbrev events : List Event
  events = filter_map event_shown rs

  calls-are : (c : Sysno) → reported (of_call c) rs ≡ how_many (is_of_call c) events
  calls-are c =
      count-same (of_call c) (is_of_call c)
      (λ r. ap (λ x. number_or_zero syscall_number (call_in x) == syscall_number c) (shown-in r)
      ∙ call-passes c (event_shown r)) rs

  failures-are : (c : Sysno) → reported (of_failure c) rs ≡ how_many (is_failure_of c) events
  failures-are c =
      count-same (of_failure c) (is_failure_of c)
      (λ r. ap (λ x. cond (has_failed x) (number_or_zero syscall_number (call_in x)) 0 == syscall_number c) (shown-in r)
      ∙ failure-passes c (event_shown r)) rs

  signals-are : (g : Sig) → reported (of_signal g) rs ≡ how_many (is_of_signal g) events
  signals-are g =
      count-same (of_signal g) (is_of_signal g)
      (λ r. ap (λ x. number_or_zero signal_number (signal_in x) == signal_number g) (shown-in r)
      ∙ signal-passes g (event_shown r)) rs

  faults-are : (f : Flt) → reported (of_fault f) rs ≡ how_many (is_of_fault f) events
  faults-are f =
      count-same (of_fault f) (is_of_fault f)
      (λ r. ap (λ x. number_or_zero fault_number (fault_in x) == fault_number f) (shown-in r)
      ∙ fault-passes f (event_shown r)) rs

  all-calls-are : reported of_any rs ≡ how_many is_call events
  all-calls-are =
      count-same of_any is_call
      (λ r. ap (λ x. not (number_or_zero syscall_number (call_in x) == 0)) (shown-in r) ∙ call-any (event_shown r)) rs

  all-failures-are : reported of_any_failure rs ≡ how_many is_failure events
  all-failures-are =
      count-same of_any_failure is_failure
      (λ r. ap (λ x. not (cond (has_failed x) (number_or_zero syscall_number (call_in x)) 0 == 0)) (shown-in r)
      ∙ failure-any (event_shown r)) rs

  -- ---- the lines

  call-line : (c : Sysno) → call_row rs c ≡ line_of_call events c
  unfolding call_row count_of number_in
  call-line c =
      ap (λ n. if_any n (two_counts_row (syscall_name c) n (reported (of_failure c) rs))) (calls-are c)
      ∙ ap (λ n. if_any (how_many (is_of_call c) events)
      (two_counts_row (syscall_name c) (how_many (is_of_call c) events) n)) (failures-are c)

  signal-line : (g : Sig) → signal_row rs g ≡ line_of_signal events g
  unfolding signal_row count_of number_in
  signal-line g = ap (λ n. if_any n (one_count_row (signal_name g) n)) (signals-are g)

  fault-line : (f : Flt) → fault_row rs f ≡ line_of_fault events f
  unfolding fault_row count_of number_in
  fault-line f = ap (λ n. if_any n (one_count_row (fault_name f) n)) (faults-are f)

  all-line : total_row rs ≡ counts_line (codes "total") (how_many is_call events) (how_many is_failure events)
  unfolding total_row total_of number_in
  all-line =
      ap (λ n. two_counts_row (codes "total") n (reported of_any_failure rs)) all-calls-are
      ∙ ap (λ n. two_counts_row (codes "total") (how_many is_call events) n) all-failures-are

flat-same : {X : Type 0} (f g : X → List ℕ) → ((x : X) → f x ≡ g x) → (xs : List X) → flat_map f xs ≡ flat_map g xs
flat-same f g each [] = refl
flat-same f g each (x ∷ xs) =
    ap (λ line. line ++ flat_map f xs) (each x) ∙ ap (λ lines. g x ++ lines) (flat-same f g each xs)

table-is : (rs : List Report) → counts_text rs ≡ table_of (filter_map event_shown rs)
unfolding counts_text call_counts other_counts
table-is rs =
    let es : List Event = filter_map event_shown rs in
    let signal_lines : List ℕ = flat_map (signal_row rs) signals in
    let fault_lines : List ℕ = flat_map (fault_row rs) faults in
    ap (λ lines. (codes "syscall calls errors" ++ newline ∷ [] ++ lines ++ total_row rs)
    ++ (signal_lines ++ fault_lines)) (flat-same (call_row rs) (line_of_call es) (call-line rs) syscalls)
    ∙ ap (λ line. (codes "syscall calls errors" ++ newline ∷ [] ++ flat_map (line_of_call es) syscalls ++ line)
    ++ (signal_lines ++ fault_lines)) (all-line rs)
    ∙ ap (λ lines. (codes "syscall calls errors" ++ newline ∷ [] ++ flat_map (line_of_call es) syscalls
    ++ counts_line (codes "total") (how_many is_call es) (how_many is_failure es)) ++ lines)
    (ap (λ lines. lines ++ fault_lines) (flat-same (signal_row rs) (line_of_signal es) (signal-line rs) signals)
    ∙ ap (λ lines. flat_map (line_of_signal es) signals ++ lines)
    (flat-same (fault_row rs) (line_of_fault es) (fault-line rs) faults))

-- ---- the refusals

other-is : (o : Options) (r : Report) → refusal_or_nothing r ≡ other_line o r
unfolding refusal_or_nothing
other-is o (report.CannotStart program errno) = refl
other-is o (report.CannotTrace pid errno) = refl
other-is o (report.Event pid l text) = refl
other-is o (report.Called pid lwp function arguments) = refl

-- ---- no memory is read

abbrev ReadsNone : Stage → Type 0
ReadsNone (ReadingText place l from len) = ⊥
ReadsNone _ = Unit {0}

no-range : (o : Options) (e : Event) → o.count ≡ true → asked_range o e ≡ None
unfolding asked_range
no-range o e counts = ap (λ b. cond b None (text_range e)) counts

on-none : (u v : TrussState) (given : Bool) → GoesOn u given v → ReadsNone v.stage
on-none u v given (step.polls _ _) = tt
on-none u v given _ = tt

over-none : (u v : TrussState) (place : ℕ) (pid : Option ℕ) → StopOver u place pid v → ReadsNone v.stage
over-none u v place pid (step.runs _) = tt
over-none u v place pid _ = tt

module _ (s : TrussState) (r : Reply) (counts : s.options.count ≡ true) where
  step-none : (stage : Stage) (v : TrussState) → ReplyStep s r stage v → ReadsNone v.stage
  step-none stage v (step.settles w on) = on-none _ v _ on
  step-none stage v (step.looks w over) = over-none _ v _ _ over
  step-none stage v (step.asks {e = e} {range = range} _ _ _ asked) =
      absurd (none-some range (sym (no-range s.options e counts) ∙ asked))
  step-none stage v (step.closes w) = tt
  step-none stage v (step.loses _) = tt
  step-none stage v (step.opens _ step.new_given) = tt
  step-none stage v (step.opens _ step.new_child) = tt
  step-none stage v (step.learns _ (step.opening_goes _)) = tt
  step-none stage v (step.learns _ (step.child_goes _)) = tt
  step-none stage v (step.returns w) = tt
  step-none stage v (step.turns (step.starts _)) = tt
  step-none stage v (step.turns (step.is_named _)) = tt
  step-none stage v (step.turns (step.frees _)) = tt
  step-none stage v (step.turns _) = tt

after-none : (xs : List Exchange) (s : TrussState) → s.options.count ≡ true → ReadsNone s.stage
    → ReadsNone (truss_after s xs).stage
after-none [] s counts none = none
after-none (x ∷ xs) s counts none =
    after-none xs (fed s x.reply) (ap (λ (o : Options). o.count) (fed-options s x.reply) ∙ counts)
    (step-none s x.reply counts s.stage (fed s x.reply) (fed-step s x.reply))

named-none : (o : Options) (p : Option ℕ) → ReadsNone (opening_or (idle o) (idle o) p).stage
named-none o None = tt
named-none o (Some pid) = tt

first-none : (o : Options) (p : Option (List ℕ)) → ReadsNone (first_of_program o p).stage
first-none o None = named-none o (slice_get o.pids 0)
first-none o (Some program) = tt

start-none : (o : Options) → ReadsNone (first_truss o).stage
unfolding first_truss
start-none o = first-none o o.program

none-pending : (s : TrussState) (stage : Stage) → ReadsNone stage → pending_at s stage ≡ []
none-pending s (ReadingText place l from len) none = absurd none
none-pending s _ none = refl

-- ---- what is printed

all-are : (s : TrussState) → ReadsNone s.stage → all_reports s ≡ s.reports
unfolding all_reports
all-are s none = ap (λ rs. s.reports ++ rs) (none-pending s s.stage none) ∙ append-nil s.reports

prints : (o : Options) (s : TrussState) → s.options.count ≡ true → ReadsNone s.stage
    → printed s ≡ flat_map (other_line o) (all_reports s) ++ table_of (filter_map event_shown (all_reports s))
unfolding printed
prints o s counts none =
    ap (λ b. cond b (flat_map refusal_or_nothing s.reports ++ counts_text s.reports) (report_lines s)) counts
    ∙ ap (λ lines. lines ++ counts_text s.reports)
    (flat-same refusal_or_nothing (other_line o) (other-is o) s.reports)
    ∙ ap (λ lines. flat_map (other_line o) s.reports ++ lines) (table-is s.reports)
    ∙ ap (λ (rs : List Report). flat_map (other_line o) rs ++ table_of (filter_map event_shown rs))
    (sym (all-are s none))

pub prints-counts : (o : Options) (xs : List Exchange) → Makes (first_truss o) xs → PrintsItsCounts o xs
prints-counts o xs makes = record {
  is = λ counts.
      let s : TrussState = truss_after (first_truss o) xs in
      let first : Knows o [] (first_truss o) = first-knows o in
      let knows : Knows o xs s = after-knows o xs [] (first_truss o) first makes in
      prints o s (ap (λ (p : Options). p.count) knows.options ∙ counts)
      (after-none xs (first_truss o) (ap (λ (p : Options). p.count) first.options ∙ counts) (start-none o));
}

pub ruleset counts = (prints-counts)
