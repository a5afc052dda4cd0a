use Rattle.std.proofs.Common.{◌≡◌, ◌&&◌, ◌||◌, ℕ, Bool, true, false, cond, not, Option, Some, None, List, [], refl, sym, ap, ◌∙◌, arith}
use Rattle.std.proofs.lemmas.Bool.{or_right}
use Rattle.std.specs.Prelude.{◌==◌, ◌^◌, filter, is_none, is_some, nat_lt, option_and_then, unwrap_or}
use Rattle.pr_line.specs.Events.{event_of}
use Rattle.pr_line.specs.Selections.{is_chosen, never_returns}
use Rattle.pr_line.specs.TextRanges.{text_range}
use Rattle.pr_line.specs.declared.events.Event.{Event}
use Rattle.pr_line.specs.declared.events.Event.TheVariants.{Entered, Left, Received, Incurred}
use Rattle.pr_line.specs.declared.options.Options.{Options}
use Rattle.pr_num.proofs.BoolLemmas.{or_false}
use Rattle.pr_num.proofs.SetLemmas.{has_number-common, has_number-minus}
use Rattle.pr_num.specs.Sets.{has_number, minus_word}
use Rattle.pr_num.specs.Syscalls.{is_fork_call, syscall_number}
use Rattle.pr_num.specs.declared.stop_reasons.StopReason.{StopReason}
use Rattle.pr_num.specs.declared.stop_reasons.StopReason.TheVariants as reason
use Rattle.pr_num.specs.declared.syscalls.Sysno.{Sysno}
use Rattle.pr_rec.specs.declared.lwps.LwpStatus.{LwpStatus}
use Rattle.pr_truss.proofs.ForkLemmas.{call_number-range, with_forks-has, with_forks-others}
use Rattle.pr_truss.specs.Messages.{ending_calls, traced_entries, traced_exits, traced_faults, traced_signals, with_forks}
use Rattle.pr_truss.specs.Records.{child_of, event_stops, has_ended_fork, is_exit, is_fork, is_on_event, lstatus_lwps}
use Rattle.pr_truss.specs.Stops.{asked_range}
use Rattle.pr_report_laws.proofs.Machine.RecordLaws.{lstatus-back, status-back}
use Rattle.pr_report_laws.proofs.Machine.SelectedPoints.{ending_calls-small, ends-its-lwp}
use Rattle.pr_report_laws.specs.Asked.{AsksForItsLines, ReadsItsReplies, TracesWhatIsAsked, WritesOneMessage, child_made, is_asked, is_at_exit, makes_child}
use Rattle.pr_report_laws.specs.Reads.{traces}

-- What truss traces, writes and asks for is what the options, the messages and the lines say.

-- ---- what is traced

module _ (o : Options) where
  entry-asked : (c : Sysno) → has_number (traced_entries o) (syscall_number c)
      ≡ (has_number o.calls (syscall_number c) && never_returns c)
  unfolding traced_entries
  entry-asked c =
      has_number-common o.calls ending_calls (syscall_number c)
      ∙ ap (λ b. has_number o.calls (syscall_number c) && b) (ends-its-lwp c)

  others-asked : (c : Sysno) → has_number (minus_word o.calls ending_calls) (syscall_number c)
      ≡ (has_number o.calls (syscall_number c) && not (never_returns c))
  others-asked c =
      let range = call_number-range c in
      has_number-minus o.calls ending_calls (syscall_number c) ending_calls-small range.0 (omega arith)
      ∙ ap (λ b. has_number o.calls (syscall_number c) && not b) (ends-its-lwp c)

  exit-asked : (c : Sysno) → has_number (traced_exits o) (syscall_number c)
      ≡ ((has_number o.calls (syscall_number c) && not (never_returns c)) || (o.follow && is_fork_call c))
  unfolding traced_exits
  exit-asked c = by o.follow (is_fork_call c) refl
    where
      others : ℕ
      others = minus_word o.calls ending_calls

      chosen : Bool
      chosen = has_number o.calls (syscall_number c) && not (never_returns c)

      by : (b fork : Bool) → is_fork_call c ≡ fork
          → has_number (cond b (with_forks others) others) (syscall_number c) ≡ (chosen || (b && fork))
      by true true is = with_forks-has others c is ∙ sym (or_right chosen true refl)
      by true false is = with_forks-others others c is ∙ others-asked c ∙ sym (or_false chosen)
      by false fork is = others-asked c ∙ sym (or_false chosen)

  traces-asked : (e : Event) → traces o e ≡ is_asked o e
  unfolding traces traced_signals traced_faults is_chosen
  traces-asked (Entered c args) = entry-asked c
  traces-asked (Left c args r) = exit-asked c
  traces-asked (Received g d info) = refl
  traces-asked (Incurred f pc) = refl

  pub what-traces : TracesWhatIsAsked o
  unfolding traced_signals traced_faults traced_entries traced_exits with_forks ending_calls
  what-traces = record {
    each = traces-asked;
    signals = refl;
    faults = refl;
    entries = refl;
    exits = λ not-followed. ap (λ (b : Bool). exits-if b) not-followed;
    exits_and_forks = λ followed. ap (λ (b : Bool). exits-if b) followed;
  }
    where
      exits-if : Bool → ℕ
      exits-if b = cond b (with_forks (minus_word o.calls ending_calls)) (minus_word o.calls ending_calls)

-- ---- what is written

pub one-message : WritesOneMessage
one-message = record { each = λ control message. refl; modes = refl }

-- ---- what is read for a line

range-is : (o : Options) (e : Event) → asked_range o e ≡ cond o.count None (text_range e)
unfolding asked_range
range-is o e = refl

pub asks-lines : (o : Options) → AsksForItsLines o
asks-lines o = record {
  range = λ e. range-is o e;
  came = λ len bytes. refl;
  nothing = λ len. refl;
}

-- ---- what it makes of replies

exit-is : (why : Option StopReason) → is_exit why ≡ is_at_exit why
exit-is None = refl
exit-is (Some reason.Requested) = refl
exit-is (Some reason.Signalled) = refl
exit-is (Some reason.SysEntry) = refl
exit-is (Some reason.SysExit) = refl
exit-is (Some reason.JobControl) = refl
exit-is (Some reason.Faulted) = refl
exit-is (Some reason.Suspended) = refl

fork-is : (call : Option Sysno) → is_fork call ≡ makes_child call
fork-is None = refl
fork-is (Some call) = refl

child-is : (l : LwpStatus) → child_of l ≡ child_made l
unfolding child_of has_ended_fork
child-is l =
    ap (λ (at-exit : Bool). made at-exit (is_fork l.call)) (exit-is l.why)
    ∙ ap (λ (fork : Bool). made (is_at_exit l.why) fork) (fork-is l.call)
  where
    made : Bool → Bool → Option ℕ
    made at-exit fork =
        cond ((at-exit && fork && is_none l.errno) && not (l.result == 0) && nat_lt l.result (2 ^ 32))
        (Some l.result) None

on-event-is : (l : LwpStatus) → is_on_event l ≡ is_some (event_of l)
unfolding is_on_event
on-event-is l = refl

stops-are : (bytes : Option (List ℕ)) → event_stops bytes
    ≡ filter (λ l. is_some (event_of l)) (unwrap_or (option_and_then lstatus_lwps bytes) [])
unfolding event_stops is_on_event
stops-are bytes = refl

pub reads-replies : ReadsItsReplies
reads-replies = record {
  pid = λ n. refl;
  child = child-is;
  on_event = on-event-is;
  stops = stops-are;
  status = status-back;
  lstatus = lstatus-back;
}

pub ruleset asked = (one-message, asks-lines, reads-replies)
