use Rattle.std.proofs.Common.{◌≡◌, ◌==◌, ◌&&◌, ◌^◌, nat_lt, not, is_none, is_some, ℕ, Bool, true, false, cond, Option, Some, None, List, [], slice_get, unwrap_or, refl, sym, subst, ap, ◌∙◌}
use Rattle.std.proofs.lemmas.Bool.{and_parts, false≢true}
use Rattle.std.proofs.lemmas.Option.{none-some, same_Some}
use Rattle.std.proofs.lemmas.List.Elements.{filter_passes}
use Rattle.std.specs.List.{filter}
use Rattle.std.specs.Option.{option_and_then, option_map}
use Rattle.pr_line.specs.Events.{event_for, event_of, named_call, result_of}
use Rattle.pr_line.specs.Selections.{is_selected}
use Rattle.pr_line.specs.TextRanges.{text_range}
use Rattle.pr_line.specs.declared.events.Event.{Event}
use Rattle.pr_line.specs.declared.events.Event.TheVariants.{Left}
use Rattle.pr_line.specs.declared.options.Options.{Options}
use Rattle.pr_model.specs.Replies.{bytes_in}
use Rattle.pr_model.specs.ShownBytes.{range_from}
use Rattle.pr_model.specs.declared.calls.Reply.{Reply}
use Rattle.pr_model.specs.declared.calls.Reply.TheVariants as reply
use Rattle.pr_num.proofs.SearchLemmas.{All-at}
use Rattle.pr_num.specs.Syscalls.{is_fork_call, syscall_args, syscall_number}
use Rattle.pr_num.specs.declared.stop_reasons.StopReason.{StopReason}
use Rattle.pr_num.specs.declared.stop_reasons.StopReason.TheVariants.{SysExit}
use Rattle.pr_num.specs.declared.syscalls.Sysno.{Sysno}
use Rattle.pr_num.specs.declared.syscalls.Sysno.TheVariants.{Fork, Vfork}
use Rattle.pr_rec.specs.declared.lwps.LwpStatus.{LwpStatus}
use Rattle.pr_truss.specs.Feeding.{fed, with_reply}
use Rattle.pr_truss.specs.Records.{child_of, event_stops, has_ended_fork, is_exit, is_fork, is_on_event, lstatus_lwps, status_lwp}
use Rattle.pr_truss.specs.Replies.{answer_of}
use Rattle.pr_truss.specs.Stops.{asked_range, followed_child, with_child_or, with_event, with_event_over, with_event_shown, with_lwps_answered, with_old_stop_over, with_status_answered, with_stop, with_stop_over, with_stop_read, with_text_or_shown}
use Rattle.pr_truss.specs.Trusses.{TrussState, traced_at, with_report}
use Rattle.pr_truss.specs.declared.replies.Answer.TheVariants.{Accepted}
use Rattle.pr_truss.specs.declared.reports.Report.TheVariants.{Event as Shown}
use Rattle.pr_truss.specs.declared.stages.FreeingStep.TheVariants.{OpenControl}
use Rattle.pr_truss.specs.declared.stages.Stage.{Stage}
use Rattle.pr_truss.specs.declared.stages.Stage.TheVariants.{OpeningChildControl, FreeingChild}
use Rattle.pr_report_laws.specs.Follows.{ReadsFork}
use Rattle.pr_report_laws.specs.Freed.{ReadsLastFork}

-- What truss makes of the return of a call that made a child, and that it has read: it comes to the control file of the
-- child.

-- ---- the event of such a call has no text

pub fork-text : (call : Sysno) (arguments : List ℕ) (size : Option ℕ) → is_fork_call call ≡ true
    → range_from arguments size (syscall_args call) 0 ≡ None
unfolding range_from syscall_args is_fork_call
fork-text Fork arguments size makes = refl
fork-text Vfork arguments size makes = refl
fork-text _ arguments size makes = absurd (false≢true makes)

-- a status stands at the exit of a call that makes a child
record LeavesFork (l : LwpStatus) : Type 0 where
  call : Sysno
  makes : is_fork_call call ≡ true
  exits : l.why ≡ Some SysExit
  named : l.call ≡ Some call

-- one that tells a child does
child-forked : (l : LwpStatus) (c : ℕ) → child_of l ≡ Some c → LeavesFork l
unfolding child_of has_ended_fork
child-forked l c is = by (has_ended_fork l && not (l.result == 0) && nat_lt l.result (2 ^ 32)) refl is
  where
    exits : (w : Option StopReason) → is_exit w ≡ true → w ≡ Some SysExit
    exits (Some SysExit) e = refl
    exits _ e = absurd (false≢true e)

    forks : (n : Option Sysno) → l.call ≡ n → is_fork n ≡ true → l.why ≡ Some SysExit → LeavesFork l
    forks (Some call) is makes left = record { call = call; makes = makes; exits = left; named = is }
    forks None is makes left = absurd (false≢true makes)

    by : (b : Bool) → (has_ended_fork l && not (l.result == 0) && nat_lt l.result (2 ^ 32)) ≡ b
        → cond b (Some l.result) None ≡ Some c → LeavesFork l
    by false tests e = absurd (none-some c e)
    by true tests e =
        let all = and_parts (has_ended_fork l && not (l.result == 0)) (nat_lt l.result (2 ^ 32)) tests in
        let some = and_parts (has_ended_fork l) (not (l.result == 0)) all.0 in
        let fork = and_parts (is_exit l.why && is_fork l.call) (is_none l.errno) some.0 in
        let call = and_parts (is_exit l.why) (is_fork l.call) fork.0 in
        forks l.call refl call.1 (exits l.why call.0)

left-text : (l : LwpStatus) (call : Sysno) → is_fork_call call ≡ true → (named : Bool) (e : Event)
    → option_map (λ c. Left c l.arguments (result_of l.result l.errno)) (cond named (Some call) None) ≡ Some e
    → text_range e ≡ None
unfolding text_range
left-text l call makes true e is = ap text_range (sym (same_Some _ e is)) ∙ fork-text call l.arguments _ makes
left-text l call makes false e is = absurd (none-some e is)

pub event-text : (l : LwpStatus) (c : ℕ) (e : Event) → child_of l ≡ Some c → event_of l ≡ Some e → text_range e ≡ None
unfolding event_of
event-text l c e made is =
    let at = child-forked l c made in
    let event : Option Sysno → Option Event =
    λ n. option_map (λ c. Left c l.arguments (result_of l.result l.errno)) (option_and_then (named_call l.what) n) in
    left-text l at.call at.makes (syscall_number at.call == l.what) e
    (sym (ap (λ w. option_and_then (event_for l) w) at.exits ∙ ap event at.named) ∙ is)

-- ---- the reply

bytes-accepted : (r : Reply) (l : LwpStatus) → option_and_then status_lwp (bytes_in r) ≡ Some l → answer_of r ≡ Accepted
unfolding bytes_in answer_of
bytes-accepted (reply.Fail errno) l is = absurd (none-some l is)
bytes-accepted _ l is = refl

-- Truss comes to this step, and what it knows of its processes stays.
pub record ComesTo (next : Stage) (t u : TrussState) : Type 0 where
  pub stage : u.stage ≡ next
  pub traced : u.traced ≡ t.traced

-- the control file of the child is opened, to set the child free where truss leaves
abbrev opens_child : Bool → ℕ → ℕ → Stage
opens_child leaving place child = cond leaving (FreeingChild child OpenControl) (OpeningChildControl place child)

module _ (t : TrussState) (place child : ℕ) (l : LwpStatus) (follows : t.options.follow ≡ true)
    (made : child_of l ≡ Some child) where
  abbrev Comes : TrussState → Type 0
  Comes u = ComesTo (opens_child t.leaving place child) t u

  over : (u : TrussState) → u.options ≡ t.options → u.leaving ≡ t.leaving → u.traced ≡ t.traced
      → Comes (with_event_over u place l)
  unfolding with_event_over followed_child
  over u options leaving traced =
      subst (λ c. Comes (with_child_or u place c)) (sym is) (record {
        stage = ap (λ b. opens_child b place child) leaving;
        traced = traced;
      })
    where
      is : cond u.options.follow (child_of l) None ≡ Some child
      is =
          ap (λ (o : Options). cond o.follow (child_of l) None) options ∙ ap (λ b. cond b (child_of l) None) follows
          ∙ made

  module _ (e : Event) (is : event_of l ≡ Some e) where
    no-range : asked_range t.options e ≡ None
    unfolding asked_range
    no-range = by t.options.count
      where
        by : (b : Bool) → cond b None (text_range e) ≡ None
        by true = refl
        by false = event-text l child e made is

    shown : Comes (with_text_or_shown t place l None)
    unfolding with_event_shown
    shown = over (with_report t (Shown (traced_at t place).pid l None)) refl refl refl

    selected : (b : Bool)
        → Comes (cond b (with_text_or_shown t place l (asked_range t.options e)) (with_event_over t place l))
    selected true = subst (λ range. Comes (with_text_or_shown t place l range)) (sym no-range) shown
    selected false = over t refl refl refl

    looked : Comes (with_event t place l (event_of l))
    looked = subst (λ x. Comes (with_event t place l x)) (sym is) (selected (is_selected t.options e))

  on-event : is_on_event l ≡ true → Comes (with_event t place l (event_of l))
  unfolding is_on_event
  on-event on = by (event_of l) refl on
    where
      by : (x : Option Event) → event_of l ≡ x → is_some x ≡ true → Comes (with_event t place l (event_of l))
      by None is none = absurd (false≢true none)
      by (Some e) is some = looked e is

  new-event : is_on_event l ≡ true → (traced_at t place).old ≡ 0 → (traced_at t place).seen ≡ false
      → Comes (with_stop t place l)
  unfolding with_stop
  new-event on none unseen =
      subst (λ b. Comes
      (cond (not b) (with_stop_over t place)
      (cond (nat_lt 0 (traced_at t place).old) (with_old_stop_over t place)
      (cond (traced_at t place).seen (with_stop_over t place) (with_event t place l (event_of l))))))
      (sym on)
      (subst (λ n. Comes
      (cond (nat_lt 0 n) (with_old_stop_over t place)
      (cond (traced_at t place).seen (with_stop_over t place) (with_event t place l (event_of l))))) (sym none)
      (subst (λ b. Comes (cond b (with_stop_over t place) (with_event t place l (event_of l)))) (sym unseen)
      (on-event on)))

pub fork-comes : (t : TrussState) (r : Reply) (place child : ℕ) → t.options.follow ≡ true → t.leaving ≡ false
    → (traced_at t place).seen ≡ false → ReadsFork t r place child
    → ComesTo (OpeningChildControl place child) t (fed t r)
unfolding fed with_reply with_status_answered
fork-comes t r place child follows stays unseen f =
    subst (λ b. ComesTo (opens_child b place child) t (fed t r)) stays
    (subst (λ stage. ComesTo (opens_child t.leaving place child) t (with_reply t r stage)) (sym f.stage)
    (subst (λ a. ComesTo (opens_child t.leaving place child) t (with_status_answered t place r a))
    (sym (bytes-accepted r f.lwp f.read))
    (subst (λ l. ComesTo (opens_child t.leaving place child) t (with_stop_read t place l)) (sym f.read)
    (new-event t place child f.lwp follows f.made f.event f.new unseen))))

-- ---- the reply where it leaves

stops-accepted : (r : Reply) (l : LwpStatus) → slice_get (event_stops (bytes_in r)) 0 ≡ Some l → answer_of r ≡ Accepted
unfolding bytes_in answer_of event_stops
stops-accepted (reply.Fail errno) l is = absurd (none-some l is)
stops-accepted _ l is = refl

pub first-on : (bytes : Option (List ℕ)) (l : LwpStatus) → slice_get (event_stops bytes) 0 ≡ Some l
    → is_on_event l ≡ true
unfolding event_stops
first-on bytes l is =
    let lwps = unwrap_or (option_and_then lstatus_lwps bytes) [] in
    All-at (λ x. is_on_event x ≡ true) (filter is_on_event lwps) 0 l is (filter_passes is_on_event lwps)

pub leaving-comes : (t : TrussState) (r : Reply) (child : ℕ) → t.options.follow ≡ true → t.leaving ≡ true
    → ReadsLastFork t r child → ComesTo (FreeingChild child OpenControl) t (fed t r)
unfolding fed with_reply with_lwps_answered
leaving-comes t r child follows leaves f =
    subst (λ b. ComesTo (opens_child b 0 child) t (fed t r)) leaves
    (subst (λ stage. ComesTo (opens_child t.leaving 0 child) t (with_reply t r stage)) (sym f.stage)
    (subst (λ a. ComesTo (opens_child t.leaving 0 child) t (with_lwps_answered t r a))
    (sym (stops-accepted r f.lwp f.first))
    (subst (λ l. ComesTo (opens_child t.leaving 0 child) t (with_stop_read t 0 l)) (sym f.first)
    (new-event t 0 child f.lwp follows f.made (first-on (bytes_in r) f.lwp f.first) f.new f.unseen))))
