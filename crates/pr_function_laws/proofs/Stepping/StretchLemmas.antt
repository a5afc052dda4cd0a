use Rattle.std.proofs.Common.{◌≡◌, ◌≢◌, ◌<◌, ◌≤◌, ◌==◌, ◌||◌, ◌+◌, ◌++◌, ◌⊎◌, ℕ, Bool, true, false, cond, is_ok, is_some, Ok, Err, IfOk, Option, Some, None, List, [], ◌∷◌, length, refl, sym, subst, ap, ◌∙◌, arith, inl, inr}
use Rattle.std.proofs.lemmas.Bool.{cases_eq, eq-eqb, eqb-true, false≢true}
use Rattle.std.proofs.lemmas.Option.{none-some, same_Some}
use Rattle.pr_laws.proofs.RepresentativeLemmas.{representative-leads}
use Rattle.pr_lawful.proofs.LawfulTurns.EndLemmas.{found-live}
use Rattle.pr_lawful.proofs.Following.UseLemmas.{live-lawful}
use Rattle.pr_lawful.proofs.LawfulStates.HistoryLemmas.{history-state}
use Rattle.pr_model.specs.Calls.{Answer, answer_to, controlled}
use Rattle.pr_model.specs.ControlMessages.{aim_of, decoded_answer, system_refusal, tail_of, targeted_answer}
use Rattle.pr_model.proofs.TurnLemmas.{turn-taken}
use Rattle.pr_model.specs.Changes.{with_space}
use Rattle.pr_model.specs.Lawful.{IsLawful}
use Rattle.pr_model.specs.Legal.{IsLegal, IsLegalEntry, after, after_call, after_turn, state_after}
use Rattle.pr_model.specs.LwpTurns.{LwpTurn, turn_of, with_counted}
use Rattle.pr_model.specs.Messages.{at_process, message_answer, refused, run_answer, with_process_changed, write_answer}
use Rattle.pr_model.specs.Readers.{has_lent}
use Rattle.pr_model.specs.Running.{let_go, run_lwp, run_refused, with_cleared, with_aborted, with_run, with_step, without_fault}
use Rattle.pr_model.specs.State.{TracedControl, TracedLwp, TracedProcess, TracedState, TracedSystem, has_agent, live_process, lwp_of, with_lwp}
use Rattle.pr_model.specs.Stops.{IsBefore, IsFirstOfClasses, class_of, class_of_shown, class_of_stop, found_on_event, has_event_stop, is_stopped, representative, shown}
use Rattle.pr_model.specs.declared.calls.Call.{Call}
use Rattle.pr_model.specs.declared.calls.Call.TheVariants as call
use Rattle.pr_model.specs.declared.calls.Reply.{Reply}
use Rattle.pr_model.specs.declared.calls.Reply.TheVariants as reply
use Rattle.pr_model.specs.declared.events.Act.{Act}
use Rattle.pr_model.specs.declared.events.Act.TheVariants as act
use Rattle.pr_model.specs.declared.events.Actor.{Actor}
use Rattle.pr_model.specs.declared.events.Actor.TheVariants.{Controller, Lwp, Clock}
use Rattle.pr_model.specs.declared.events.Did.TheVariants.{Stopped}
use Rattle.pr_model.specs.declared.events.Entry.{Entry}
use Rattle.pr_model.specs.declared.events.Turned.{Turned}
use Rattle.pr_model.specs.declared.stops.Stop.{Stop}
use Rattle.pr_model.specs.declared.stops.Stop.TheVariants as stop
use Rattle.pr_num.specs.Spaces.{bytes_for}
use Rattle.pr_parts.specs.AddressSpaces.{with_bytes}
use Rattle.pr_num.proofs.ByIdLaws.{All-under}
use Rattle.pr_num.specs.ById.{IsRising}
use Rattle.pr_num.specs.Control.{async_mode, clear_fault, has_flags, single_step}
use Rattle.pr_num.specs.Messages.{first_message}
use Rattle.pr_num.specs.Sets.{common_word}
use Rattle.pr_num.specs.declared.errnos.Errno.{Errno}
use Rattle.pr_num.specs.declared.errnos.Errno.TheVariants.{Busy, Inval, Io, Noent}
use Rattle.pr_num.specs.declared.messages.Message.{Message}
use Rattle.pr_num.specs.declared.messages.Message.TheVariants as message
use Rattle.pr_num.specs.declared.signals.Sig.{Sig}
use Rattle.pr_reached.proofs.FitStates.FitHistoryLemmas.{history-fits}
use Rattle.pr_reached.specs.Fits.{IsFitSystem}
use Rattle.pr_report_laws.proofs.Machine.TracedPoints.{fit-process}
use Rattle.pr_truss_laws.proofs.EventStops.AloneLemmas.{alone-halting}
use Rattle.pr_truss_laws.proofs.Machine.ForeignLemmas.{exclusive-sole, names}
use Rattle.pr_truss_laws.proofs.Machine.FrameLemmas.{was-made}
use Rattle.pr_truss_laws.proofs.Machine.OutlastLemmas as outlast
use Rattle.pr_truss_laws.proofs.Machine.OutlastLemmas.{Outlasts, others-entry, own-call-elsewhere}
use Rattle.pr_truss_laws.proofs.Machine.OverLemmas.{stays-made, stays-over}
use Rattle.pr_truss_laws.proofs.Machine.StillLemmas.{halting-did, halting-leaves, halting-stays, live-changed}
use Rattle.pr_truss_laws.proofs.Machine.TakenLemmas.{Read, ctl-is, process-aim}
use Rattle.pr_truss_laws.specs.Exchanges.{Exchange, exchange_in, exchange_of}
use Rattle.pr_truss_laws.specs.Handles.{HasNoOtherWriter}
use Rattle.pr_truss_laws.specs.Stills.{HasSameSettings, IsFrozen, IsHalting, IsUndisturbed, stands_still, with_lwp_stopped}
use Rattle.pr_function_laws.proofs.Stepping.HaltingSteps.{step-halts, step-settings}
use Rattle.pr_function_laws.proofs.Stepping.OtherSteps.{stays-there}
use Rattle.pr_function_laws.proofs.Stepping.StepLemmas.{other-did, other-leaves, other-stays, one-run, step-alone, step-begun}
use Rattle.pr_function_laws.specs.Steps.{IsStepped, RunsNoCall, StopsAtAll}
use Rattle.pr_function_laws.specs.Stretches.{BeginWith, BeginWithWrite, IsAtStop, IsControlOf, IsReadyToStep, IsStretch, MovesOneAlone, OthersOnlyStop, acts_by, elsewhere, is_write, over, steps, writes}

-- At most one lwp of a process moves, from its stop at a fault over its step and on.

-- ---- a process that is stopped on an event

met-class : (t : Stop) → 3 ≤ class_of_stop t
met-class stop.Requested = omega arith
met-class (stop.Signalled g) = omega arith
met-class (stop.SysEntry c) = omega arith
met-class (stop.SysExit c) = omega arith
met-class (stop.Faulted f) = omega arith

stopped-class : (job : Option Sig) (l : TracedLwp) → has_event_stop l ≡ true → 3 ≤ class_of job l
unfolding class_of shown
stopped-class job l stands = by l.control.stop stands
  where
    by : (o : Option Stop) → is_some o ≡ true
        → 3 ≤ class_of_shown (shown job (record l { control = record l.control { stop = o } }))
    by None is = absurd (false≢true is)
    by (Some t) is = met-class t

class-still : (job : Option Sig) (l : TracedLwp) → 3 ≤ class_of job l → stands_still l ≡ true
unfolding class_of shown
class-still job l great = by l.control.stop l.suspended job great
  where
    by : (o : Option Stop) (suspended : Bool) (j : Option Sig)
        → 3 ≤ class_of_shown (shown j (record l { control = record l.control { stop = o }; suspended = suspended }))
        → (is_some o || suspended) ≡ true
    by (Some t) suspended j few = refl
    by None true j few = refl
    by None false None few = absurd (omega (arith, few))
    by None false (Some g) few = absurd (omega (arith, few))

pub no-agent : (o : Option TracedLwp) → is_some o ≡ false → o ≡ None
no-agent None none = refl
no-agent (Some l) none = cc

module _ (p : TracedProcess) (rises : IsRising p.lwps) (alone : has_agent p ≡ false) where
  pub led-frozen : (e : ℕ × TracedLwp) → representative p ≡ Some e → has_event_stop e.1 ≡ true → IsFrozen p
  led-frozen e is stands =
      let first : IsFirstOfClasses p e = representative-leads p e rises (no-agent _ alone) is in
      record {
        each = λ id l there.
            let it : IsBefore p.job_stop e (id, l) = All-under (IsBefore p.job_stop e) id l p.lwps first.first there in
            class-still p.job_stop l (omega (arith, it.class, stopped-class p.job_stop e.1 stands));
      }

  found-frozen : (o : Option (ℕ × TracedLwp)) → representative p ≡ o → found_on_event o ≡ true → IsFrozen p
  found-frozen None is stopped = absurd (false≢true stopped)
  found-frozen (Some e) is stopped = led-frozen e is stopped

pub stop-frozen : (p : TracedProcess) → IsRising p.lwps → IsAtStop p → IsFrozen p
unfolding is_stopped
stop-frozen p rises w = found-frozen p rises w.no_agent (representative p) refl w.stopped

still-stops : (b c : Bool) → b ≡ true → (b || c) ≡ true
still-stops true c is = refl
still-stops false c is = cc

pub frozen-halting : (p : TracedProcess) → IsFrozen p → IsHalting p
frozen-halting p w = record {
  each = λ id l there. still-stops (stands_still l) l.control.directed (w.each id l there);
}

-- ---- how the process goes on

-- what is set on a process
settings-from : (p q : TracedProcess) → HasSameSettings p q → StopsAtAll p.control → StopsAtAll q.control
settings-from p q same all = record {
  signals = ap (λ (c : TracedControl). c.traced_signals) same.control ∙ all.signals;
  faults = ap (λ (c : TracedControl). c.traced_faults) same.control ∙ all.faults;
  directs = ap (λ (c : TracedControl). has_flags c.modes async_mode) same.control ∙ all.directs;
}

-- It halts, or has ended; or the lwp of this id is stepped alone.
pub data Goes (pid id : ℕ) (s : TracedSystem) : Type 0 where
  goes_on : (q : TracedProcess) (k : TracedLwp) → live_process s pid ≡ Some q → IsStepped q id k
      → StopsAtAll q.control → q.borrower ≡ None → RunsNoCall q k → Goes pid id s
  halts : (q : TracedProcess) → live_process s pid ≡ Some q → IsHalting q → StopsAtAll q.control → Goes pid id s
  ends : live_process s pid ≡ None → pid < s.made → Goes pid id s

pub alone-settings : (p q : TracedProcess) → IsUndisturbed p q → StopsAtAll p.control → StopsAtAll q.control
alone-settings p q alone all =
    subst StopsAtAll (sym (ap (λ (x : TracedProcess). x.control) alone.rest)) all

pub alone-no-call : (p q : TracedProcess) (id : ℕ) (l k : TracedLwp) → IsUndisturbed p q → p.borrower ≡ None
    → lwp_of p id ≡ Some l → lwp_of q id ≡ Some k → RunsNoCall p l → (q.borrower ≡ None) × RunsNoCall q k
alone-no-call p q id l k alone lent here there none =
    let memory = alone.memory.own lent in
    let was = alone.each id k there in
    let same : was.0 ≡ l = same_Some was.0 l (sym was.1.0 ∙ here) in
    let regs : k.regs ≡ l.regs =
    ap (λ (x : TracedLwp). x.regs) was.1.1 ∙ ap (λ (x : TracedLwp). x.regs) same in
    let areas : q.control.areas ≡ p.control.areas = ap (λ (x : TracedProcess). x.control.areas) alone.rest in
    (memory.0, record { is_none = λ c rs is. none.is_none c rs (sym (rw (memory.1, areas, regs) refl) ∙ is) })

-- what others leave of it
outlasts-goes : (pid id : ℕ) (p : TracedProcess) (k : TracedLwp) (u : TracedSystem) → pid < u.made → IsStepped p id k
    → StopsAtAll p.control → p.borrower ≡ None → RunsNoCall p k → Outlasts pid p u → Goes pid id u
outlasts-goes pid id p k u made stepped all lent none (outlast.lives q live alone) =
    let m = stays-there p q id k alone stepped.there in
    let rest = alone-no-call p q id k m.0 alone lent stepped.there m.1 none in
    goes_on q m.0 live (step-alone p q id k m.0 alone stepped m.1) (alone-settings p q alone all) rest.0 rest.1
outlasts-goes pid id p k u made stepped all lent none (outlast.killed z gone there status) = ends gone made

outlasts-halts : (pid id : ℕ) (p : TracedProcess) (u : TracedSystem) → pid < u.made → IsHalting p
    → StopsAtAll p.control → Outlasts pid p u → Goes pid id u
outlasts-halts pid id p u made halting all (outlast.lives q live alone) =
    halts q live (alone-halting p q alone halting) (alone-settings p q alone all)
outlasts-halts pid id p u made halting all (outlast.killed z gone there status) = ends gone made

pub stopped-settings : (other : ℕ) (p : TracedProcess) → StopsAtAll p.control
    → StopsAtAll (with_lwp_stopped other p).control
unfolding with_lwp with_counted
stopped-settings other p all = record { signals = all.signals; faults = all.faults; directs = all.directs }

pub stopped-no-call : (other : ℕ) (p : TracedProcess) (k : TracedLwp) → RunsNoCall p k
    → RunsNoCall (with_lwp_stopped other p) k
unfolding with_lwp with_counted
stopped-no-call other p k none = record { is_none = none.is_none }

pub stopped-lent : (other : ℕ) (p : TracedProcess) → (with_lwp_stopped other p).borrower ≡ p.borrower
unfolding with_lwp with_counted
stopped-lent other p = refl

-- ---- an entry

module _ (n k pid id number : ℕ) (s : TracedState) (lawful : IsLawful s) (sole : HasNoOtherWriter k pid s.opens)
    (made : pid < s.system.made) where
  module _ (e : Entry) (legal : IsLegalEntry n s e) where
    pub made-after : pid < (after s e).system.made
    made-after = stays-made n s e pid lawful legal made

    over-goes : live_process s.system pid ≡ None → Goes pid id (after s e).system
    over-goes none = ends (stays-over n s e pid lawful legal made none) made-after

    outlasting : Goes pid id s.system
        → ((p : TracedProcess) → live_process s.system pid ≡ Some p → Outlasts pid p (after s e).system)
        → Goes pid id (after s e).system
    outlasting (goes_on p l live stepped all lent none) lasts =
        outlasts-goes pid id p l (after s e).system made-after stepped all lent none (lasts p live)
    outlasting (halts p live halting all) lasts =
        outlasts-halts pid id p (after s e).system made-after halting all (lasts p live)
    outlasting (ends none before) lasts = over-goes none

  -- ---- a turn of the process itself

  module _ (fit : IsFitSystem s.system) (other : ℕ) (t : LwpTurn) (turn : turn_of s.system pid other ≡ Some t) where
    live-after : (p : TracedProcess) (l : TracedLwp) → live_process s.system pid ≡ Some p → IsStepped p id l
        → StopsAtAll p.control → RunsNoCall p l → turn_of s.system pid id ≡ Some t → pid < t.system.made
        → (o : Option TracedProcess) → live_process t.system pid ≡ o → Goes pid id t.system
    live-after p l live stepped all none own later None gone = ends gone later
    live-after p l live stepped all none own later (Some q) now =
        halts q now (step-halts s.system pid p id l t live stepped all none
        (fit-process s.system pid p fit live) own lawful.system q now)
        (settings-from p q (step-settings s.system pid p id l t live stepped all none
        (fit-process s.system pid p fit live) own lawful.system q now) all)

    own-goes : Goes pid id s.system → pid < t.system.made → Goes pid id t.system
    own-goes (goes_on p l live stepped all lent none) later =
        elim (cases_eq other id) [
          | inl same ↦ live-after p l live stepped all none
              (subst (λ m. turn_of s.system pid m ≡ Some t) same turn) later (live_process t.system pid) refl
          | inr differs ↦ goes_on (with_lwp_stopped other p) l
              (other-leaves s.system pid p id l other t live stepped differs turn)
              (other-stays p id l other stepped differs) (stopped-settings other p all) (stopped-lent other p ∙ lent)
              (stopped-no-call other p l none)
        ]
    own-goes (halts p live halting all) later =
        halts (with_lwp_stopped other p) (halting-leaves s.system pid p live halting other t turn)
        (halting-stays s.system pid p live halting other t turn) (stopped-settings other p all)
    own-goes (ends none before) later =
        let it = turn-taken s.system pid other t turn in absurd (none-some it.process (sym none ∙ it.live))

    own-stops : Goes pid id s.system → other ≢ id → t.turned ≡ record { did = Stopped; stop = false }
    own-stops (goes_on p l live stepped all lent none) differs =
        other-did s.system pid p id l other t live stepped differs turn
    own-stops (halts p live halting all) differs = halting-did s.system pid p live halting other t turn
    own-stops (ends none before) differs =
        let it = turn-taken s.system pid other t turn in absurd (none-some it.process (sym none ∙ it.live))

  -- ---- a message of the controller to the process

  system-not-gone : (m : Message) → system_refusal m ≢ Noent
  system-not-gone (message.Set modes) is = cc
  system-not-gone (message.Unset modes) is = cc
  system-not-gone _ is = cc

  -- A message does what its row says, or is refused.
  pub data Does (p : TracedProcess) (bytes : List ℕ) (a : Answer) : Type 0 where
    refuses : (e : Errno) → a.reply ≡ reply.Fail e → e ≢ Noent → a.state.system ≡ s.system → Does p bytes a
    does : (m : Message) (len : ℕ) → first_message bytes ≡ Ok (m, len)
        → a ≡ controlled s (message_answer s.system pid p at_process m (tail_of m bytes) len) → Does p bytes a

  pub message-does : (handle : ℕ) (bytes : List ℕ) (p : TracedProcess) (a : Answer) → IsControlOf k pid handle s
      → live_process s.system pid ≡ Some p → answer_to s k (call.Ctl handle bytes) ≡ Some a → Does p bytes a
  message-does handle bytes p a c live is =
      by-read (first_message bytes) refl
      (ctl-is s k handle c.held c.there c.file bytes a is
      ∙ ap (λ i. controlled s (targeted_answer s.system c.held (live_process s.system i) bytes)) c.of
      ∙ ap (λ o. controlled s (targeted_answer s.system c.held o bytes)) live)
    where
      by-process : (m : Message) (len : ℕ) → first_message bytes ≡ Ok (m, len) → (b : Bool)
          → a ≡ controlled s
          (cond b (refused s.system (system_refusal m))
          (message_answer s.system c.held.pid p (aim_of c.held) m (tail_of m bytes) len)) → Does p bytes a
      by-process m len same true it = refuses (system_refusal m) (ap (λ (x : Answer). x.reply) it) (system-not-gone m)
          (ap (λ (x : Answer). x.state.system) it)
      by-process m len same false it =
          does m len same (it
          ∙ ap (λ i. controlled s (message_answer s.system i p (aim_of c.held) m (tail_of m bytes) len)) c.of
          ∙ ap (λ x. controlled s (message_answer s.system pid p x m (tail_of m bytes) len))
          (process-aim c.held c.file))

      by-read : (r : Read) → first_message bytes ≡ r → a ≡ controlled s (decoded_answer s.system c.held p bytes r)
          → Does p bytes a
      by-read (Err fault) same it =
          refuses Inval (ap (λ (x : Answer). x.reply) it) (λ (same_errno : Inval ≡ Noent). cc)
          (ap (λ (x : Answer). x.state.system) it)
      by-read (Ok first) same it = by-process first.0 first.1 same (c.held.pid == 0) it

  -- the process that halts, with another space
  spaced-halts : (p : TracedProcess) (space : _) → IsHalting p → IsHalting (with_space space p)
  unfolding with_space
  spaced-halts p space halting = record { each = halting.each }

  spaced-settings : (p : TracedProcess) (space : _) → StopsAtAll p.control → StopsAtAll (with_space space p).control
  unfolding with_space
  spaced-settings p space all = all

  rises : (p : TracedProcess) → live_process s.system pid ≡ Some p → IsRising p.lwps
  rises p live = let l = live-lawful s.system pid p lawful.system live in l.rising

  spaced-ended : (p : TracedProcess) (space : _) → (with_space space p).ended ≡ p.ended
  unfolding with_space
  spaced-ended p space = refl

  -- the process of which one lwp was run
  abbrev run_one : TracedProcess → TracedProcess
  run_one p = with_lwp id (run_lwp (clear_fault + single_step)) p

  lwp-ended : (p : TracedProcess) → (run_one p).ended ≡ p.ended
  unfolding with_lwp
  lwp-ended p = refl

  lwp-settings : (p : TracedProcess) → StopsAtAll p.control → StopsAtAll (run_one p).control
  unfolding with_lwp
  lwp-settings p all = all

  lwp-lent : (p : TracedProcess) → (run_one p).borrower ≡ p.borrower
  unfolding with_lwp
  lwp-lent p = refl

  lwp-no-call : (p : TracedProcess) (l : TracedLwp) → RunsNoCall p l
      → RunsNoCall (run_one p) (run_lwp (clear_fault + single_step) l)
  unfolding with_lwp run_lwp with_cleared with_aborted with_step without_fault let_go has_flags common_word
  lwp-no-call p l none = record { is_none = none.is_none }

  module _ (p : TracedProcess) (live : live_process s.system pid ≡ Some p) (all : StopsAtAll p.control)
      (a : Answer) where
    still-halts : IsHalting p → a.state.system ≡ s.system → Goes pid id a.state.system
    still-halts halting same =
        subst (Goes pid id) (sym same) (halts p live halting all)

    -- PCWRITE
    written : (at : ℕ) (bytes : List ℕ) (len : ℕ) (lent fits : Bool) → IsHalting p
        → a ≡ controlled s
        (cond lent (refused s.system Busy)
        (cond fits (with_process_changed s.system pid p len (with_space (with_bytes at bytes p.space)))
        (refused s.system Io)))
        → Goes pid id a.state.system
    written at bytes len true fits halting is = still-halts halting (ap (λ (x : Answer). x.state.system) is)
    written at bytes len false false halting is = still-halts halting (ap (λ (x : Answer). x.state.system) is)
    written at bytes len false true halting is =
        subst (Goes pid id) (sym (ap (λ (x : Answer). x.state.system) is))
        (halts (with_space (with_bytes at bytes p.space) p)
        (live-changed s.system pid (with_space (with_bytes at bytes p.space)) p live (spaced-ended p _))
        (spaced-halts p _ halting) (spaced-settings p _ all))

    -- PCRUN with PRCFAULT and PRSTEP
    ran : (len : ℕ) (refused_so : Bool) → IsHalting p → IsReadyToStep p id
        → a ≡ controlled s
        (cond refused_so (refused s.system Busy)
        (with_process_changed s.system pid p len (with_run (clear_fault + single_step))))
        → Goes pid id a.state.system
    unfolding has_flags common_word
    ran len true halting r is = still-halts halting (ap (λ (x : Answer). x.state.system) is)
    ran len false halting r is =
        let q = with_run (clear_fault + single_step) p in
        let one : q ≡ with_lwp id (run_lwp (clear_fault + single_step)) p =
        one-run p id (clear_fault + single_step) r.lwp r.leads refl in
        subst (Goes pid id) (sym (ap (λ (x : Answer). x.state.system) is))
        (goes_on q (run_lwp (clear_fault + single_step) r.lwp)
        (live-changed s.system pid (with_run (clear_fault + single_step)) p live
        (ap (λ (y : TracedProcess). y.ended) one ∙ lwp-ended p))
        (step-begun p id r.lwp r.fault r.address (rises p live) r.leads r.at_fault r.no_current halting)
        (subst (λ (y : TracedProcess). StopsAtAll y.control) (sym one) (lwp-settings p all))
        (ap (λ (y : TracedProcess). y.borrower) one ∙ lwp-lent p ∙ r.not_lent)
        (subst (λ (y : TracedProcess). RunsNoCall y (run_lwp (clear_fault + single_step) r.lwp)) (sym one)
        (lwp-no-call p r.lwp r.no_call)))

  -- ---- a call of the controller

  pub named-acts : (c : Call) (m : ℕ) → names c m ≡ true → acts_by c ≡ Some m
  named-acts (call.Ctl handle bytes) m is = ap (λ i. Some i) (eqb-true handle m is)
  named-acts (call.Close handle) m is = ap (λ i. Some i) (eqb-true handle m is)
  named-acts _ m is = absurd (false≢true is)

  at-stop : (p : TracedProcess) → live_process s.system pid ≡ Some p → IsAtStop p → IsHalting p
  at-stop p live w = frozen-halting p (stop-frozen p (rises p live) w)

  at-fault : (p : TracedProcess) → live_process s.system pid ≡ Some p → IsReadyToStep p id → IsHalting p
  at-fault p live r =
      frozen-halting p (led-frozen p (rises p live) r.no_agent (id, r.lwp) r.leads r.stands)

  -- the process lives, and stops at all signals and faults
  record Lives (p : TracedProcess) : Type 0 where
    live : live_process s.system pid ≡ Some p
    all : StopsAtAll p.control

  lives-or-over : Goes pid id s.system → ((p : TracedProcess) × Lives p) ⊎ (live_process s.system pid ≡ None)
  lives-or-over (goes_on p l live stepped all lent none) = inl (p, record { live = live; all = all })
  lives-or-over (halts p live halting all) = inl (p, record { live = live; all = all })
  lives-or-over (ends none before) = inr none

  module _ (c : Call) (a : Answer) (is : answer_to s k c ≡ Some a) where
    call-writes : (handle : ℕ) (bytes : List ℕ) → c ≡ call.Ctl handle bytes → IsControlOf k pid handle s
        → BeginWithWrite bytes → (p : TracedProcess) → Lives p → IsHalting p → Goes pid id a.state.system
    unfolding message_answer write_answer
    call-writes handle bytes same own begins p l halting =
        by (message-does handle bytes p a own l.live (ap (answer_to s k) (sym same) ∙ is))
      where
        by-message : (m : Message) (len : ℕ) → is_write m ≡ true
            → a ≡ controlled s (message_answer s.system pid p at_process m (tail_of m bytes) len)
            → Goes pid id a.state.system
        by-message (message.Write at size) len writes_so it =
            let tail = tail_of (message.Write at size) bytes in
            written p l.live l.all a at tail len (has_lent p) (is_ok (bytes_for 0 p.space at (length tail))) halting it
        by-message _ len writes_so it = absurd (false≢true writes_so)

        by : Does p bytes a → Goes pid id a.state.system
        by (refuses errno replied other state) = still-halts p l.live l.all a halting state
        by (does m len first it) =
            by-message m len (subst (λ r. IfOk r (λ f. is_write f.0 ≡ true)) first begins) it

    call-steps : (handle : ℕ) (bytes : List ℕ) → c ≡ call.Ctl handle bytes → IsControlOf k pid handle s
        → BeginWith (message.Run (clear_fault + single_step)) bytes → (p : TracedProcess) → Lives p
        → IsReadyToStep p id → Goes pid id a.state.system
    unfolding message_answer run_answer
    call-steps handle bytes same own begins p l ready =
        by (message-does handle bytes p a own l.live (ap (answer_to s k) (sym same) ∙ is))
      where
        by : Does p bytes a → Goes pid id a.state.system
        by (refuses errno replied other state) = still-halts p l.live l.all a (at-fault p l.live ready) state
        by (does m len first it) =
            let same_message : m ≡ message.Run (clear_fault + single_step) =
            subst (λ r. IfOk r (λ f. f.0 ≡ message.Run (clear_fault + single_step))) first begins in
            ran p l.live l.all a len (run_refused p) (at-fault p l.live ready) ready
            (it
            ∙ ap (λ x. controlled s (message_answer s.system pid p at_process x (tail_of x bytes) len)) same_message)

  module _ (e : Entry) (legal : IsLegalEntry n s e) (g : Goes pid id s.system) where
    pub call-goes : (c : Call) (a : Answer) → answer_to s k c ≡ Some a → a.state.system ≡ (after s e).system
        → MovesOneAlone k pid id s c → Goes pid id (after s e).system
    call-goes c a is same (elsewhere apart) =
        outlasting e legal g (λ p live. subst (Outlasts pid p) same
        (own-call-elsewhere s k pid c a p lawful
        (λ m held named there. apart m held (named-acts c m named) there) is live))
    call-goes c a is same (over none) = over-goes e legal none
    call-goes c a is same (writes handle bytes its own reads stands) =
        elim (lives-or-over g) [
          | inl l ↦ subst (Goes pid id) same (call-writes c a is handle bytes its own reads l.0 l.1
              (at-stop l.0 (let it = l.1 in it.live) (stands l.0 (let it = l.1 in it.live))))
          | inr none ↦ over-goes e legal none
        ]
    call-goes c a is same (steps handle bytes its own reads ready) =
        elim (lives-or-over g) [
          | inl l ↦ subst (Goes pid id) same (call-steps c a is handle bytes its own reads l.0 l.1
              (ready l.0 (let it = l.1 in it.live)))
          | inr none ↦ over-goes e legal none
        ]

  -- ---- every entry

  -- what the controller does in an entry
  abbrev Careful : Entry → Type 0
  Careful e = (x : Exchange) → exchange_of k e ≡ Some x → MovesOneAlone k pid id s x.call

  own-exchange : (c : Call) (r : Reply)
      → exchange_in k (Controller k) (act.Call c r) ≡ Some (record { call = c; reply = r })
  own-exchange c r =
      ap (λ b. cond b (Some (let x : Exchange = record { call = c; reply = r } in x)) None) (eq-eqb k k refl)

  pub actor-goes : IsFitSystem s.system → (actor : Actor) (it : Act)
      → (legal : IsLegalEntry n s (record { actor = actor; act = it }))
      → Careful (record { actor = actor; act = it }) → Goes pid id s.system
      → Goes pid id (after s (record { actor = actor; act = it })).system
  unfolding IsLegalEntry after
  actor-goes fit (Controller by) (act.Call c r) legal careful g = elim (cases_eq by k) [
    | inl same ↦ own same
    | inr other ↦ others other
  ]
    where
      e : Entry
      e = record { actor = Controller by; act = act.Call c r }

      own : by ≡ k → Goes pid id (after s (record { actor = Controller by; act = act.Call c r })).system
      own same =
          let a : Answer = record { state = legal.1.0; reply = r } in
          let mine : answer_to s k c ≡ Some a = subst (λ m. answer_to s m c ≡ Some a) same legal.1.1 in
          call-goes (record { actor = Controller by; act = act.Call c r }) legal g c a mine
          (ap (λ (o : Option Answer). (after_call s o).system) (sym legal.1.1))
          (careful (record { call = c; reply = r })
          (subst (λ m. exchange_in k (Controller m) (act.Call c r) ≡ Some (record { call = c; reply = r })) (sym same)
          (own-exchange c r)))

      others : by ≢ k → Goes pid id (after s (record { actor = Controller by; act = act.Call c r })).system
      others other =
          outlasting (record { actor = Controller by; act = act.Call c r }) legal g
          (λ p live. others-entry n s k pid (record { actor = Controller by; act = act.Call c r }) p lawful sole legal
          (λ own same. cc) (λ same. other (cc)) live)
  actor-goes fit (Lwp acting own) (act.Turn turned) legal careful g = elim (cases_eq acting pid) [
    | inl same ↦ mine same
    | inr differs ↦ outlasting (record { actor = Lwp acting own; act = act.Turn turned }) legal g
        (λ p live. others-entry n s k pid (record { actor = Lwp acting own; act = act.Turn turned }) p lawful sole legal
        (λ other same. differs (cc)) (λ same. cc) live)
  ]
    where
      t : LwpTurn
      t = record { system = legal.0; turned = turned }

      mine : acting ≡ pid → Goes pid id (after s (record { actor = Lwp acting own; act = act.Turn turned })).system
      mine same =
          let turn : turn_of s.system pid own ≡ Some t = ap (λ (m : ℕ). turn_of s.system m own) (sym same) ∙ legal.1 in
          let later = made-after (record { actor = Lwp acting own; act = act.Turn turned }) legal in
          let here : (after_turn s (turn_of s.system acting own)).system ≡ t.system =
          ap (λ (o : Option LwpTurn). (after_turn s o).system) legal.1 in
          subst (Goes pid id) (sym here)
          (own-goes fit own t turn g (subst (λ (u : TracedSystem). pid < u.made) here later))
  actor-goes fit Clock (act.Tick m) legal careful g =
      outlasting (record { actor = Clock; act = act.Tick m }) legal g
      (λ p live. others-entry n s k pid (record { actor = Clock; act = act.Tick m }) p lawful sole legal
      (λ own same. cc) (λ same. cc) live)
  actor-goes fit _ _ legal careful g = absurd legal

  -- a turn of another lwp of the process
  pub turn-stops : IsFitSystem s.system → (other : ℕ) (turned : Turned)
      → IsLegalEntry n s (record { actor = Lwp pid other; act = act.Turn turned }) → Goes pid id s.system
      → other ≢ id → turned ≡ record { did = Stopped; stop = false }
  unfolding IsLegalEntry
  turn-stops fit other turned legal g differs =
      own-stops fit other (record { system = legal.0; turned = turned }) legal.1 g differs

-- ---- all entries

pub head-same : (e f : Entry) (h later : List Entry) → e ∷ h ≡ f ∷ later → e ≡ f
head-same e f h later is = cc

pub tail-same : (e f : Entry) (h later : List Entry) → e ∷ h ≡ f ∷ later → h ≡ later
tail-same e f h later is = cc

module _ (n k pid id number : ℕ) where
  later-stretch : (s : TracedState) (e : Entry) (h : List Entry) → IsStretch k pid id number s (e ∷ h)
      → IsStretch k pid id number (after s e) h
  later-stretch s e h w = record {
    stays_open = λ before later p is live. w.stays_open (e ∷ before) later p (ap (λ (es : List Entry). e ∷ es) is) live;
    each = λ before later f x is its. w.each (e ∷ before) later f x (ap (λ (es : List Entry). e ∷ es) is) its;
  }

  sole-now : (s : TracedState) (h : List Entry) (p : TracedProcess) → IsLawful s → IsStretch k pid id number s h
      → live_process s.system pid ≡ Some p → HasNoOtherWriter k pid s.opens
  sole-now s h p lawful w live =
      let it = w.stays_open [] h p refl live in
      subst (λ i. HasNoOtherWriter k i s.opens) it.1.1.1
      (exclusive-sole s k number it.0 lawful it.1.0 it.1.1.0)

  -- one that has ended has no turns
  over-stops : (h : List Entry) (s : TracedState) → IsLawful s → pid < s.system.made → live_process s.system pid ≡ None
      → IsLegal n s h → (before later : List Entry) (other : ℕ) (t : Turned)
      → h ≡ before ++ record { actor = Lwp pid other; act = act.Turn t } ∷ later
      → t ≡ record { did = Stopped; stop = false }
  unfolding IsLegalEntry
  over-stops [] s lawful made none legal [] later other t is = cc
  over-stops [] s lawful made none legal (f ∷ before) later other t is = cc
  over-stops (e ∷ h) s lawful made none legal [] later other t is =
      let mine = subst (IsLegalEntry n s) (head-same e _ h later is) legal.0 in
      let it = turn-taken s.system pid other (record { system = mine.0; turned = t }) mine.1 in
      absurd (none-some it.process (sym none ∙ it.live))
  over-stops (e ∷ h) s lawful made none legal (f ∷ before) later other t is =
      over-stops h (after s e) (history-state n s (e ∷ []) lawful (legal.0, tt))
      (stays-made n s e pid lawful legal.0 made) (stays-over n s e pid lawful legal.0 made none) legal.1 before later
      other t (tail-same e f h _ is)

  live-stops : (p : TracedProcess) (e : Entry) (h : List Entry) (s : TracedState) → IsLawful s → pid < s.system.made
      → IsFitSystem s.system → live_process s.system pid ≡ Some p → Goes pid id s.system → IsLegal n s (e ∷ h)
      → IsStretch k pid id number s (e ∷ h)
      → (Goes pid id (after s e).system → OthersOnlyStop pid id h) → OthersOnlyStop pid id (e ∷ h)
  live-stops p e h s lawful made fit live g legal w rest =
      let sole = sole-now s (e ∷ h) p lawful w live in
      let later_goes =
      actor-goes n k pid id number s lawful sole made fit e.actor e.act legal.0 (λ x its. w.each [] h e x refl its) g in
      record { each = λ before later other t is differs. by sole later_goes before later other t is differs }
    where
      by : HasNoOtherWriter k pid s.opens → Goes pid id (after s e).system → (before later : List Entry) (other : ℕ)
          (t : Turned) → e ∷ h ≡ before ++ record { actor = Lwp pid other; act = act.Turn t } ∷ later → other ≢ id
          → t ≡ record { did = Stopped; stop = false }
      by sole goes [] later other t is differs =
          turn-stops n k pid id number s lawful sole made fit other t
          (subst (IsLegalEntry n s) (head-same e _ h later is) legal.0) g differs
      by sole goes (f ∷ before) later other t is differs =
          let others = rest goes in others.each before later other t (tail-same e f h _ is) differs

  goes-stops : (h : List Entry) (s : TracedState) → IsLawful s → pid < s.system.made → IsFitSystem s.system
      → Goes pid id s.system
      → IsLegal n s h → IsStretch k pid id number s h → OthersOnlyStop pid id h
  goes-stops [] s lawful made fit g legal w = record {
    each = λ before later other t is differs. absurd (none-there before _ later is);
  }
    where
      none-there : (before : List Entry) (f : Entry) (later : List Entry) → [] ≡ before ++ f ∷ later → ⊥
      none-there [] f later is = cc
      none-there (x ∷ before) f later is = cc
  goes-stops (e ∷ h) s lawful made fit g legal w =
      by g (λ goes. goes-stops h (after s e) (history-state n s (e ∷ []) lawful (legal.0, tt))
      (stays-made n s e pid lawful legal.0 made) (history-fits n s (e ∷ []) lawful fit (legal.0, tt)) goes legal.1
      (later-stretch s e h w))
    where
      by : Goes pid id s.system → (Goes pid id (after s e).system → OthersOnlyStop pid id h)
          → OthersOnlyStop pid id (e ∷ h)
      by (goes_on p l live stepped all lent none) next =
          live-stops p e h s lawful made fit live (goes_on p l live stepped all lent none) legal w next
      by (halts p live halting all) next =
          live-stops p e h s lawful made fit live (halts p live halting all) legal w next
      by (ends none before) next = record {
        each = λ front later other t is differs. over-stops (e ∷ h) s lawful made none legal front later other t is;
      }

  -- and so it goes on behind them
  pub goes-end : (h : List Entry) (s : TracedState) → IsLawful s → pid < s.system.made → IsFitSystem s.system
      → Goes pid id s.system → IsLegal n s h → IsStretch k pid id number s h
      → Goes pid id (state_after s h).system
  goes-end [] s lawful made fit g legal w = g
  goes-end (e ∷ h) s lawful made fit g legal w =
      goes-end h (after s e) (history-state n s (e ∷ []) lawful (legal.0, tt))
      (stays-made n s e pid lawful legal.0 made) (history-fits n s (e ∷ []) lawful fit (legal.0, tt))
      (by (live_process s.system pid) refl) legal.1 (later-stretch s e h w)
    where
      by : (o : Option TracedProcess) → live_process s.system pid ≡ o → Goes pid id (after s e).system
      by None none = ends (stays-over n s e pid lawful legal.0 made none) (stays-made n s e pid lawful legal.0 made)
      by (Some p) live =
          actor-goes n k pid id number s lawful (sole-now s (e ∷ h) p lawful w live) made fit e.actor e.act legal.0
          (λ x its. w.each [] h e x refl its) g

pub stretch-goes : (n k pid id number : ℕ) (s : TracedState) (p : TracedProcess) (h : List Entry) → IsLawful s
    → IsFitSystem s.system → live_process s.system pid ≡ Some p → IsAtStop p → StopsAtAll p.control → IsLegal n s h
    → IsStretch k pid id number s h → Goes pid id (state_after s h).system
stretch-goes n k pid id number s p h lawful fit live stop all legal w =
    let l = live-lawful s.system pid p lawful.system live in
    let made = was-made pid s.system p lawful.system (found-live s.system pid p live).0 in
    let halting = frozen-halting p (stop-frozen p l.rising stop) in
    goes-end n k pid id number h s lawful made fit (halts p live halting all) legal w

pub stretch-stops : (n k pid id number : ℕ) (s : TracedState) (p : TracedProcess) (h : List Entry) → IsLawful s
    → IsFitSystem s.system → live_process s.system pid ≡ Some p → IsAtStop p → StopsAtAll p.control → IsLegal n s h
    → IsStretch k pid id number s h → OthersOnlyStop pid id h
stretch-stops n k pid id number s p h lawful fit live stop all legal w =
    let l = live-lawful s.system pid p lawful.system live in
    let made = was-made pid s.system p lawful.system (found-live s.system pid p live).0 in
    let halting = frozen-halting p (stop-frozen p l.rising stop) in
    goes-stops n k pid id number h s lawful made fit (halts p live halting all) legal w

pub ruleset stretches = (stop-frozen, stretch-stops)
