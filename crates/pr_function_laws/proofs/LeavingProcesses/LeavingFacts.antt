use Rattle.std.proofs.Common.{◌≡◌, ◌≢◌, ◌==◌, ◌||◌, ◌&&◌, ℕ, Bool, true, false, cond, not, nat_le, is_some}
use Rattle.std.proofs.Common.{Ok, Option, Some, None, List, [], refl, sym, subst, ap, ◌∙◌, arith, inl, inr}
use Rattle.std.proofs.lemmas.Bool.{cases_eq, eqb-true}
use Rattle.std.proofs.lemmas.Option.{none-some, same_Some}
use Rattle.std.specs.List.{slice_set}
use Rattle.std.specs.Option.{option_map}
use Rattle.pr_lawful.proofs.LawfulTurns.TurnLemmas.{acting}
use Rattle.pr_lawful.proofs.Following.UseLemmas.{live-lawful}
use Rattle.pr_line.specs.Events.{event_of}
use Rattle.pr_model.specs.Calls.{Answer, answer_to, controlled, is_interrupted, waited}
use Rattle.pr_model.specs.ControlMessages.{aim_of, decoded_answer, decoded_wait, held_wait, system_refusal, tail_of}
use Rattle.pr_model.specs.ControlMessages.{target_stopped}
use Rattle.pr_model.specs.ControlMessages.{targeted_answer, targeted_wait, wait_over, wait_reply, waits as waits_for}
use Rattle.pr_model.specs.Handles.{after_last_close, handle_of, has_writer, is_writable, with_closed}
use Rattle.pr_model.specs.Lawful.{IsLawful}
use Rattle.pr_model.specs.Messages.{aimed_lwp, at_process, message_answer, on_found, refused, with_aim_directed}
use Rattle.pr_model.specs.Replies.{until_in}
use Rattle.pr_model.specs.Running.{without_fault}
use Rattle.pr_model.specs.State.{TracedLwp, TracedProcess, TracedState, TracedSystem, has_agent, live_process, lwp_of}
use Rattle.pr_model.specs.State.{with_lwp}
use Rattle.pr_model.specs.Statuses.{lwpstatus_of}
use Rattle.pr_model.specs.Stops.{directed, has_event_stop, is_stopped, with_all_directed}
use Rattle.pr_model.specs.declared.calls.Call.TheVariants as call
use Rattle.pr_model.specs.declared.calls.File.TheVariants as file
use Rattle.pr_model.specs.declared.calls.Mode.TheVariants.{WriteExcl}
use Rattle.pr_model.specs.declared.calls.Reply.{Reply}
use Rattle.pr_model.specs.declared.calls.Reply.TheVariants as reply
use Rattle.pr_model.specs.declared.handles.Held.{Held}
use Rattle.pr_num.proofs.ByIdLaws.{under-change_under, under-change_under_other, under-map_each}
use Rattle.pr_num.specs.ById.{IsRising, change_under, under}
use Rattle.pr_num.specs.Messages.{bad_operand, encoded_length, first_message, in_columns, message_code, message_read}
use Rattle.pr_num.specs.Messages.{nth_word, operand_count, operands, spelling, tail_length, unpadded_length, with_tail}
use Rattle.pr_num.specs.Words.{word_bytes, word_of}
use Rattle.pr_num.specs.declared.errnos.Errno.{Errno}
use Rattle.pr_num.specs.declared.errnos.Errno.TheVariants.{Busy, Intr, Inval, Noent}
use Rattle.pr_num.specs.declared.messages.Message.{Message}
use Rattle.pr_num.specs.declared.messages.Message.TheVariants as message
use Rattle.pr_report_laws.proofs.Machine.FrameLaws.{alone-event}
use Rattle.pr_report_laws.proofs.Machine.StoppedLaws.{count-mapped, stopped-frozen}
use Rattle.pr_report_laws.specs.AtBirth.{has_met, is_met_if, met_in}
use Rattle.pr_report_laws.specs.Positions.{HasEvent, IsHeld}
use Rattle.pr_report_laws.specs.Shown.{LwpEvent}
use Rattle.pr_truss.specs.Messages.{message_call}
use Rattle.pr_truss.specs.Replies.{answer_of, refusal_of}
use Rattle.pr_truss.specs.declared.processes.Traced.{Traced}
use Rattle.pr_truss_laws.proofs.Machine.FrameLemmas.{memory-same, memory-self}
use Rattle.pr_truss_laws.proofs.EventStops.AloneLemmas.{alone-frozen, alone-halting}
use Rattle.pr_truss_laws.proofs.EventStops.BridgeLemmas.{mapped-some}
use Rattle.pr_truss_laws.proofs.Files.OpensLemmas.{close-closes, looking-stays}
use Rattle.pr_truss_laws.proofs.EventStops.OwnTurnLemmas.{all-directed}
use Rattle.pr_truss_laws.proofs.Machine.StillLemmas.{live-changed}
use Rattle.pr_truss_laws.proofs.Machine.TakenLemmas.{control-held, ctl-is, process-aim, target-live}
use Rattle.pr_truss_laws.specs.Stills.{IsFrozen, IsHalting, IsUndisturbed, KeepsMemory, StandsOnEvent, stands_still, will_stop}
use Rattle.pr_function_laws.proofs.OpenedProcesses.OneEventLemmas.{stands-stop}
use Rattle.pr_function_laws.proofs.OpenedProcesses.OneEventTurns.{directed-held, directed-suspended}
use Rattle.pr_function_laws.proofs.OpenedProcesses.OpenedLemmas.{each-agent}
use Rattle.pr_function_laws.proofs.OpenedProcesses.StoodLemmas.{Stood, alone-stood, as_stopped, waits}
use Rattle.pr_function_laws.proofs.OpenedProcesses.StopTurns.{AreAsStopped, directed-leaves, each-stopped, left-stopped}
use Rattle.pr_function_laws.proofs.OpenedProcesses.TracedSets.{IsAsSet, alone-sets, same-sets}
use Rattle.pr_function_laws.specs.Leaving.{AsksAgain, Directs, Ends, Goes as GoesTo, HaltNext, HaltStep, Looks, Waits}
use Rattle.pr_function_laws.specs.Leaving.{WaitsAgain, halt_call, halt_next}
use Rattle.pr_function_laws.specs.Lifted.{HasControl}
use Rattle.pr_function_laws.specs.OneEvent.{HasMetNothing, HasOneEventAtMost, met, unmet}

-- What the calls by which truss leaves a process make of it.

-- ---- each lwp is directed to stop

stays-directed : (l : TracedLwp) → has_event_stop l ≡ true → directed l ≡ l
unfolding directed
stays-directed l on = ap (λ b. cond b l (record l { control = record l.control { directed = true } })) on

pub directed-is : (p : TracedProcess) (n : ℕ) (l : TracedLwp) → lwp_of p n ≡ Some l
    → lwp_of (with_all_directed p) n ≡ Some (directed l)
unfolding with_all_directed
directed-is p n l there = under-map_each n directed p.lwps ∙ ap (option_map directed) there

pub directed-from : (p : TracedProcess) (n : ℕ) (k : TracedLwp) → lwp_of (with_all_directed p) n ≡ Some k
    → (l : TracedLwp) × ((lwp_of p n ≡ Some l) × (directed l ≡ k))
unfolding with_all_directed
directed-from p n k there = mapped-some directed (lwp_of p n) k (sym (under-map_each n directed p.lwps) ∙ there)

directed-met : (l : TracedLwp) → has_met (directed l) ≡ has_met l
directed-met l = let leaves = directed-leaves in ap is_met_if (leaves.stops l)

directed-still : (l : TracedLwp) → stands_still (directed l) ≡ stands_still l
directed-still l =
    let leaves = directed-leaves in
    ap (λ (b : Bool). b || (directed l).suspended) (ap is_some_stop (leaves.stops l))
    ∙ ap (λ (b : Bool). has_event_stop l || b) (directed-suspended l)
  where
    is_some_stop : {A : Type 0} → Option A → Bool
    is_some_stop o = is_some o

directed-ended : (p : TracedProcess) → (with_all_directed p).ended ≡ p.ended
unfolding with_all_directed
directed-ended p = refl

cleared-ended : (id : ℕ) (p : TracedProcess) → (with_lwp id without_fault p).ended ≡ p.ended
unfolding with_lwp
cleared-ended id p = refl

module _ (p : TracedProcess) where
  abbrev asked : TracedProcess
  asked = with_all_directed p

  directed-unmet : HasMetNothing p → HasMetNothing asked
  directed-unmet none n k there =
      let l = directed-from p n k there in
      ap has_met (sym l.1.1) ∙ directed-met l.0 ∙ none n l.0 l.1.0

  -- one that was held is so still
  held-still : (n : ℕ) (k : TracedLwp) → lwp_of asked n ≡ Some k → ((l : TracedLwp) → lwp_of p n ≡ Some l → IsHeld l)
      → IsHeld k
  held-still n k there held =
      let l = directed-from p n k there in
      let halting = all-directed p in
      let was = held l.0 l.1.0 in
      subst IsHeld l.1.1 (directed-held l.0 (ap will_stop l.1.1 ∙ halting.each n k there) was.met_nothing)

  -- one that stands on an event stays as it is
  still-there : (n : ℕ) (l : TracedLwp) → StandsOnEvent l → lwp_of p n ≡ Some l → lwp_of asked n ≡ Some l
  still-there n l stands there =
      directed-is p n l there ∙ ap (λ (x : TracedLwp). Some x) (stays-directed l (stands-stop l stands))

  directed-loan : asked.borrower ≡ p.borrower
  unfolding with_all_directed
  directed-loan = refl

  directed-few : HasOneEventAtMost p → HasOneEventAtMost asked
  directed-few (unmet none) = unmet (directed-unmet none)
  directed-few (met id w) =
      met id (record {
        lwp = w.lwp;
        there = still-there id w.lwp w.stands w.there;
        stands = w.stands;
        awake = w.awake;
        not_lent = λ f is. directed-loan ∙ w.not_lent f is;
        others = λ n k other there. held-still n k there (λ l at. w.others n l other at);
      })

  directed-told : (id : ℕ) (l : TracedLwp) → lwpstatus_of asked id l ≡ lwpstatus_of p id l
  unfolding with_all_directed lwpstatus_of
  directed-told id l = refl

  directed-event : (event : LwpEvent) → HasEvent p event.id event.event → HasEvent asked event.id event.event
  directed-event event has = record {
    lwp = has.lwp;
    there = still-there event.id has.lwp has.stands has.there;
    stands = has.stands;
    tells = ap event_of (directed-told event.id has.lwp) ∙ has.tells;
    others = λ n k other there. held-still n k there (λ l at. has.others n l other at);
  }

  directed-stopped : AreAsStopped p → AreAsStopped asked
  unfolding with_all_directed
  directed-stopped all = each-stopped directed p (left-stopped directed directed-leaves) all

  directed-frozen : IsFrozen p → IsFrozen asked
  directed-frozen frozen = record {
    each = λ n k there.
        let l = directed-from p n k there in
        ap stands_still (sym l.1.1) ∙ directed-still l.0 ∙ frozen.each n l.0 l.1.0;
  }

  directed-count : met_in asked ≡ met_in p
  unfolding with_all_directed
  directed-count =
      count-mapped (λ (e : ℕ × TracedLwp). has_met e.1) directed (λ (e : ℕ × TracedLwp). directed-met e.1) p.lwps

  directed-stood : (flags n : ℕ) → Stood flags n p → Stood flags n asked
  directed-stood flags n (as_stopped all few) = as_stopped (directed-stopped all) (directed-few few)
  directed-stood flags n (waits w none) =
      waits (record { frozen = directed-frozen w.frozen; few = omega (arith, w.few, directed-count) }) none

  directed-sets : IsAsSet p asked
  unfolding with_all_directed
  directed-sets = record { sets = same-sets p.control p.control refl; agent = λ none. each-agent directed p ∙ none }

-- ---- a process that truss leaves, and that it has not looked at

-- Truss let it alone; or directed each of its lwps to stop; or others had to do with it.
pub data Moved (p q : TracedProcess) : Type 0 where
  stays : p ≡ q → Moved p q
  directs : with_all_directed p ≡ q → Moved p q
  alone : IsUndisturbed p q → Moved p q

module _ (p q : TracedProcess) where
  pub moved-unmet : Moved p q → HasMetNothing p → HasMetNothing q
  moved-unmet (stays is) h = subst HasMetNothing is h
  moved-unmet (directs is) h = subst HasMetNothing is (directed-unmet p h)
  moved-unmet (alone w) h = λ n k there. let a = w.each n k there in ap has_met a.1.1 ∙ h n a.0 a.1.0

  pub moved-event : (event : LwpEvent) → Moved p q → HasEvent p event.id event.event
      → HasEvent q event.id event.event
  moved-event event (stays is) h = subst (λ (x : TracedProcess). HasEvent x event.id event.event) is h
  moved-event event (directs is) h =
      subst (λ (x : TracedProcess). HasEvent x event.id event.event) is (directed-event p event h)
  moved-event event (alone w) h = alone-event p q w event.id event.event h

  pub moved-stood : (flags n : ℕ) → Moved p q → Stood flags n p → Stood flags n q
  moved-stood flags n (stays is) h = subst (Stood flags n) is h
  moved-stood flags n (directs is) h = subst (Stood flags n) is (directed-stood p flags n h)
  moved-stood flags n (alone w) h = alone-stood p q w flags n h

  pub moved-sets : Moved p q → IsAsSet p q
  moved-sets (stays is) = subst (IsAsSet p) is (record {
    sets = same-sets p.control p.control refl;
    agent = λ none.
        none;
  })
  moved-sets (directs is) = subst (IsAsSet p) is (directed-sets p)
  moved-sets (alone w) = alone-sets p q w

  pub moved-frozen : Moved p q → IsFrozen p → IsFrozen q
  moved-frozen (stays is) h = subst IsFrozen is h
  moved-frozen (directs is) h = subst IsFrozen is (directed-frozen p h)
  moved-frozen (alone w) h = alone-frozen p q w h

  pub moved-memory : Moved p q → KeepsMemory p q
  unfolding with_all_directed
  moved-memory (stays is) = subst (KeepsMemory p) is (memory-self p)
  moved-memory (directs is) = subst (KeepsMemory p) is (memory-same p (with_all_directed p) refl refl)
  moved-memory (alone w) = w.memory

  pub moved-halting : Moved p q → IsHalting p → IsHalting q
  moved-halting (stays is) h = subst IsHalting is h
  moved-halting (directs is) h = subst IsHalting is (all-directed p)
  moved-halting (alone w) h = alone-halting p q w h

-- ---- the steps of its stop

-- how a process stands that lives, before such a step, and before what comes then
abbrev pub StoodNext : HaltNext → TracedProcess → Type 0
StoodNext (GoesTo Directs) p = Unit {0}
StoodNext (GoesTo (Waits until)) p = (until ≡ 0) × IsHalting p
StoodNext (GoesTo AsksAgain) p = IsHalting p
StoodNext (GoesTo (WaitsAgain until)) p = (until ≡ 0) × IsHalting p
StoodNext Looks p = IsFrozen p
StoodNext Ends p = ⊥

pub still-halts : (p : TracedProcess) → IsFrozen p → IsHalting p
still-halts p frozen = record {
  each = λ id l there. ap (λ (b : Bool). b || l.control.directed) (frozen.each id l there);
}

-- a process that stands still stands so whatever refusal comes
refused-next : (step : HaltStep) (r : Reply) (e : Errno) (p : TracedProcess) → r ≡ reply.Fail e → e ≢ Noent
    → IsFrozen p → StoodNext (halt_next step r (answer_of r)) p
unfolding answer_of
refused-next step r e p is other frozen =
    subst (λ (x : Reply). StoodNext (halt_next step x (answer_of x)) p) (sym is) (by e other)
  where
    by : (e : Errno) → e ≢ Noent → StoodNext (halt_next step (reply.Fail e) (refusal_of e)) p
    by Intr other = still-halts p frozen
    by Noent other = absurd (other refl)
    by _ other = frozen

-- what the system process says to a message
pub taken-lives : (m : Message) → system_refusal m ≢ Noent
taken-lives (message.Set modes) is = cc
taken-lives (message.Unset modes) is = cc
taken-lives _ is = cc

stop-read : first_message (spelling message.Stop []) ≡ Ok (message.Stop, 8)
unfolding first_message message_read message_code operands nth_word word_bytes word_of in_columns bad_operand
    with_tail encoded_length unpadded_length operand_count tail_length
stop-read = refl

wstop-read : first_message (spelling message.Wstop []) ≡ Ok (message.Wstop, 8)
unfolding first_message message_read message_code operands nth_word word_bytes word_of in_columns bad_operand
    with_tail encoded_length unpadded_length operand_count tail_length
wstop-read = refl

cfault-read : first_message (spelling message.Cfault []) ≡ Ok (message.Cfault, 8)
unfolding first_message message_read message_code operands nth_word word_bytes word_of in_columns bad_operand
    with_tail encoded_length unpadded_length operand_count tail_length
cfault-read = refl

module _ (k : ℕ) (s : TracedState) (lawful : IsLawful s) (pid m : ℕ) (its : HasControl k pid m s) (a : Answer)
    (p : TracedProcess) (live : live_process s.system pid ≡ Some p) where
  abbrev held : Held
  held = record { controller = k; pid = pid; lwp = 0; file = file.Ctl; mode = WriteExcl }

  rises : IsRising p.lwps
  rises = let l = live-lawful s.system pid p lawful.system live in l.rising

  -- the system process has no lwps
  no-lwps : (pid == 0) ≡ true → IsFrozen p
  no-lwps is = record {
    each = λ id l there.
        let w = acting s.system pid id p l lawful.system live there in absurd (w.user (eqb-true pid 0 is));
  }

  -- a message of no operands is taken, but by the system process
  data Sent (msg : Message) : Type 0 where
    sent_refused : (e : Errno) → a.reply ≡ reply.Fail e → e ≢ Noent → a.state.system ≡ s.system → IsFrozen p
        → Sent msg
    sent_done : a ≡ controlled s (message_answer s.system pid p at_process msg (tail_of msg (spelling msg [])) 8)
        → Sent msg

  sent-so : (msg : Message) → first_message (spelling msg []) ≡ Ok (msg, 8)
      → answer_to s k (message_call m msg) ≡ Some a → Sent msg
  sent-so msg read is =
      by (pid == 0) refl
      (ctl-is s k m held its refl (spelling msg []) a is
      ∙ ap (λ o. controlled s (targeted_answer s.system held o (spelling msg []))) live
      ∙ ap (λ r. controlled s (decoded_answer s.system held p (spelling msg []) r)) read)
    where
      by : (b : Bool) → (pid == 0) ≡ b
          → a ≡ controlled s
          (cond b (refused s.system (system_refusal msg))
          (message_answer s.system pid p (aim_of held) msg (tail_of msg (spelling msg [])) 8)) → Sent msg
      by true zero it =
          sent_refused (system_refusal msg) (ap (λ (x : Answer). x.reply) it) (taken-lives msg)
          (ap (λ (x : Answer). x.state.system) it) (no-lwps zero)
      by false user it =
          sent_done (it
          ∙ ap (λ x. controlled s (message_answer s.system pid p x msg (tail_of msg (spelling msg [])) 8))
          (process-aim held refl))

  -- what comes of a wait, for the system process or another, and where its controller was interrupted or not
  abbrev waiting : Bool → Bool → Option Reply
  waiting zero broken =
      cond zero (Some (reply.Fail Busy))
      (cond broken (Some (reply.Fail Intr)) (cond (wait_over s.system held p 0) (Some (reply.Used 8)) None))

  -- a wait without an end
  data Waited : Type 0 where
    wait_refused : a.reply ≡ reply.Fail Busy → IsFrozen p → Waited
    interrupted : a.reply ≡ reply.Fail Intr → Waited
    stopped : (len : ℕ) → a.reply ≡ reply.Used len → is_stopped p ≡ true → Waited

  waited-so : (msg : Message) → first_message (spelling msg []) ≡ Ok (msg, 8) → waits_for msg ≡ true
      → answer_to s k (call.CtlWait m 0 (spelling msg [])) ≡ Some a → Waited
  unfolding answer_to wait_reply target_stopped
  waited-so msg read waits_so is =
      by-user (pid == 0) refl
      (sym (ap (λ b. option_map (waited s k) (cond b (waiting (pid == 0) (is_interrupted s k)) (Some (reply.Fail
      Inval))))
      waits_so)
      ∙ sym (ap (λ r. option_map (waited s k) (decoded_wait s.system held p 0 (is_interrupted s k) r)) read)
      ∙ sym (ap
      (λ o. option_map (waited s k) (targeted_wait s.system held o 0 (is_interrupted s k) (spelling msg []))) live)
      ∙ sym (ap (λ o. option_map (waited s k) (held_wait s.system o 0 (is_interrupted s k) (spelling msg [])))
      (control-held s k m held its refl)
      ∙ ap (λ o. option_map (waited s k) (targeted_wait s.system held o 0 (is_interrupted s k) (spelling msg [])))
      (target-live s k m held its refl)) ∙ is)
    where
      reply-is : (r : Reply) → Some (waited s k r) ≡ Some a → (waited s k r).reply ≡ r → a.reply ≡ r
      reply-is r same its_reply = ap (λ (x : Answer). x.reply) (sym (same_Some _ a same)) ∙ its_reply

      over-stopped : (b : Bool) → (b || (not true && nat_le 0 s.system.clock)) ≡ true → b ≡ true
      over-stopped true over = refl
      over-stopped false over = cc

      by-over : (b : Bool) → wait_over s.system held p 0 ≡ b
          → option_map (waited s k) (cond b (Some (reply.Used 8)) None) ≡ Some a → Waited
      by-over true over same = stopped 8 (reply-is (reply.Used 8) same refl) (over-stopped (is_stopped p) over)
      by-over false over same = absurd (none-some a same)

      by-broken : (b : Bool)
          → option_map (waited s k)
          (cond b (Some (reply.Fail Intr)) (cond (wait_over s.system held p 0) (Some (reply.Used 8)) None)) ≡ Some a
          → Waited
      by-broken true same = interrupted (reply-is (reply.Fail Intr) same refl)
      by-broken false same = by-over (wait_over s.system held p 0) refl same

      by-user : (b : Bool) → (pid == 0) ≡ b → option_map (waited s k) (waiting b (is_interrupted s k)) ≡ Some a → Waited
      by-user true zero same = wait_refused (reply-is (reply.Fail Busy) same refl) (no-lwps zero)
      by-user false user same = by-broken (is_interrupted s k) same

  -- What a step of the stop makes of it: it is as it was, or directed to stop, and stands so as comes next.
  module _ (q : TracedProcess) (later : live_process a.state.system pid ≡ Some q) (no_agent : has_agent p ≡ false) where
    same-process : a.state.system ≡ s.system → p ≡ q
    same-process same =
        same_Some p q (sym live ∙ ap (λ (x : TracedSystem). live_process x pid) (sym same) ∙ later)

    refused-stood : (step : HaltStep) (e : Errno) → a.reply ≡ reply.Fail e → e ≢ Noent
        → a.state.system ≡ s.system → IsFrozen p
        → Moved p q × StoodNext (halt_next step a.reply (answer_of a.reply)) q
    refused-stood step e replied other same frozen = (
      stays (same-process same),
      refused-next step a.reply e q replied other (subst IsFrozen (same-process same) frozen),
    )

    directed-next : (r : Reply) → r ≡ reply.Half 0 → with_all_directed p ≡ q
        → StoodNext (halt_next Directs r (answer_of r)) q
    unfolding answer_of until_in
    directed-next r is same =
        subst (λ (x : Reply). StoodNext (halt_next Directs x (answer_of x)) q) (sym is)
        (refl, subst IsHalting same (all-directed p))

    directs-stood : answer_to s k (message_call m message.Stop) ≡ Some a
        → Moved p q × StoodNext (halt_next Directs a.reply (answer_of a.reply)) q
    unfolding message_answer with_aim_directed
    directs-stood is = by (sent-so message.Stop stop-read is)
      where
        by : Sent message.Stop → Moved p q × StoodNext (halt_next Directs a.reply (answer_of a.reply)) q
        by (sent_refused e replied other same frozen) = refused-stood Directs e replied other same frozen
        by (sent_done it) =
            let now : live_process a.state.system pid ≡ Some (with_all_directed p) =
            ap (λ (x : Answer). live_process x.state.system pid) it
            ∙ live-changed s.system pid with_all_directed p live (directed-ended p) in
            let same : with_all_directed p ≡ q = same_Some (with_all_directed p) q (sym now ∙ later) in
            (directs same, directed-next a.reply (ap (λ (x : Answer). x.reply) it) same)

    asked-next : (r : Reply) → r ≡ reply.Half 0 → IsHalting q → StoodNext (halt_next AsksAgain r (answer_of r)) q
    unfolding answer_of until_in
    asked-next r is halting =
        subst (λ (x : Reply). StoodNext (halt_next AsksAgain x (answer_of x)) q) (sym is) (refl, halting)

    asks-stood : IsHalting p → answer_to s k (message_call m message.Wstop) ≡ Some a
        → Moved p q × StoodNext (halt_next AsksAgain a.reply (answer_of a.reply)) q
    unfolding message_answer
    asks-stood halting is = by (sent-so message.Wstop wstop-read is)
      where
        by : Sent message.Wstop → Moved p q × StoodNext (halt_next AsksAgain a.reply (answer_of a.reply)) q
        by (sent_refused e replied other same frozen) = refused-stood AsksAgain e replied other same frozen
        by (sent_done it) =
            let same = same-process (ap (λ (x : Answer). x.state.system) it) in
            (stays same, asked-next a.reply (ap (λ (x : Answer). x.reply) it) (subst IsHalting same halting))

    broken-next : (step : HaltStep) (r : Reply) → r ≡ reply.Fail Intr → IsHalting q
        → StoodNext (halt_next step r (answer_of r)) q
    unfolding answer_of
    broken-next step r is halting =
        subst (λ (x : Reply). StoodNext (halt_next step x (answer_of x)) q) (sym is) halting

    waited-next : (step : HaltStep) (until len : ℕ) → IsFrozen q
        → StoodNext (halt_next (Waits until) (reply.Used len) (answer_of (reply.Used len))) q
        × StoodNext (halt_next (WaitsAgain until) (reply.Used len) (answer_of (reply.Used len))) q
    unfolding answer_of
    waited-next step until len frozen = (frozen, frozen)

    wait-same : (bytes : List ℕ) → answer_to s k (call.CtlWait m 0 bytes) ≡ Some a → p ≡ q
    wait-same bytes is =
        same-process (ap (λ (x : TracedState). x.system) (looking-stays s k (call.CtlWait m 0 bytes) a refl is))

    wait-stood : (step : HaltStep) (until : ℕ) → IsHalting p → (msg : Message)
        → first_message (spelling msg []) ≡ Ok (msg, 8) → waits_for msg ≡ true
        → answer_to s k (call.CtlWait m 0 (spelling msg [])) ≡ Some a
        → ((len : ℕ) → a.reply ≡ reply.Used len → IsFrozen q
        → StoodNext (halt_next step a.reply (answer_of a.reply)) q)
        → Moved p q × StoodNext (halt_next step a.reply (answer_of a.reply)) q
    wait-stood step until halting msg read waits_so is stops = by (waited-so msg read waits_so is)
      where
        same : p ≡ q
        same = wait-same (spelling msg []) is

        by : Waited → Moved p q × StoodNext (halt_next step a.reply (answer_of a.reply)) q
        by (wait_refused replied frozen) = (
          stays same,
          refused-next step a.reply Busy q replied (λ (lives : Busy ≡ Noent). cc) (subst IsFrozen same frozen),
        )
        by (interrupted replied) =
            (stays same, broken-next step a.reply replied (subst IsHalting same halting))
        by (stopped len replied stopped_so) =
            (stays same, stops len replied (subst IsFrozen same (stopped-frozen p rises no_agent stopped_so)))

    pub step-stood : (step : HaltStep) (u : Traced) → u.control ≡ m → StoodNext (GoesTo step) p
        → answer_to s k (halt_call u step) ≡ Some a
        → Moved p q × StoodNext (halt_next step a.reply (answer_of a.reply)) q
    step-stood Directs u control stood is =
        directs-stood (subst (λ i. answer_to s k (message_call i message.Stop) ≡ Some a) control is)
    step-stood AsksAgain u control stood is =
        asks-stood stood (subst (λ i. answer_to s k (message_call i message.Wstop) ≡ Some a) control is)
    step-stood (Waits until) u control stood is =
        wait-stood (Waits until) until stood.1 message.Stop stop-read refl
        (subst (λ t. answer_to s k (call.CtlWait m t (spelling message.Stop [])) ≡ Some a) stood.0
        (subst (λ i. answer_to s k (call.CtlWait i until (spelling message.Stop [])) ≡ Some a) control is))
        (λ len replied frozen.
        subst (λ (x : Reply). StoodNext (halt_next (Waits until) x (answer_of x)) q) (sym replied)
        (waited-next Directs until len frozen).0)
    step-stood (WaitsAgain until) u control stood is =
        wait-stood (WaitsAgain until) until stood.1 message.Wstop wstop-read refl
        (subst (λ t. answer_to s k (call.CtlWait m t (spelling message.Wstop [])) ≡ Some a) stood.0
        (subst (λ i. answer_to s k (call.CtlWait i until (spelling message.Wstop [])) ≡ Some a) control is))
        (λ len replied frozen.
        subst (λ (x : Reply). StoodNext (halt_next (WaitsAgain until) x (answer_of x)) q) (sym replied)
        (waited-next Directs until len frozen).1)

  -- it lives on
  pub step-lives : (step : HaltStep) (u : Traced) → u.control ≡ m
      → answer_to s k (halt_call u step) ≡ Some a
      → (q : TracedProcess) × (live_process a.state.system pid ≡ Some q)
  unfolding message_answer with_aim_directed
  step-lives Directs u control is =
      by (sent-so message.Stop stop-read
      (subst (λ i. answer_to s k (message_call i message.Stop) ≡ Some a) control is))
    where
      by : Sent message.Stop → (q : TracedProcess) × (live_process a.state.system pid ≡ Some q)
      by (sent_refused e replied other same frozen) =
          (p, ap (λ (x : TracedSystem). live_process x pid) same ∙ live)
      by (sent_done it) = (
        with_all_directed p,
        ap (λ (x : Answer). live_process x.state.system pid) it
            ∙ live-changed s.system pid with_all_directed p live (directed-ended p),
      )
  step-lives AsksAgain u control is =
      by (sent-so message.Wstop wstop-read
      (subst (λ i. answer_to s k (message_call i message.Wstop) ≡ Some a) control is))
    where
      by : Sent message.Wstop → (q : TracedProcess) × (live_process a.state.system pid ≡ Some q)
      by (sent_refused e replied other same frozen) =
          (p, ap (λ (x : TracedSystem). live_process x pid) same ∙ live)
      by (sent_done it) = (p, ap (λ (x : Answer). live_process x.state.system pid) it ∙ live)
  step-lives (Waits until) u control is = (
    p,
    ap (λ (x : TracedState). live_process x.system pid) (looking-stays s k (halt_call u (Waits until)) a refl is)
        ∙ live,
  )
  step-lives (WaitsAgain until) u control is = (
    p,
    ap (λ (x : TracedState). live_process x.system pid)
        (looking-stays s k (halt_call u (WaitsAgain until)) a refl is) ∙ live,
  )

-- ---- PCCFAULT

cleared-still : (l : TracedLwp) → stands_still (without_fault l) ≡ stands_still l
unfolding without_fault
cleared-still l = refl

pub one-frozen : (target : ℕ) (f : TracedLwp → TracedLwp) (x : TracedProcess)
    → ((l : TracedLwp) → stands_still (f l) ≡ stands_still l) → IsFrozen x → IsFrozen (with_lwp target f x)
unfolding with_lwp
one-frozen target f x same frozen = record {
  each = λ n k there. elim (cases_eq target n) [
    | inl one ↦
        let m =
        mapped-some f (lwp_of x n) k (sym (under-change_under n f x.lwps)
        ∙ subst (λ i. under n (change_under i f x.lwps) ≡ Some k) one there) in
        ap stands_still (sym m.1.1) ∙ same m.0 ∙ frozen.each n m.0 m.1.0
    | inr other ↦ frozen.each n k (sym (under-change_under_other target n f other x.lwps) ∙ there)
  ];
}

module _ (k : ℕ) (s : TracedState) (lawful : IsLawful s) (pid m : ℕ) (its : HasControl k pid m s) (a : Answer)
    (p : TracedProcess) (live : live_process s.system pid ≡ Some p) (q : TracedProcess)
    (later : live_process a.state.system pid ≡ Some q) where
  unmoved : a.state.system ≡ s.system → p ≡ q
  unmoved same = same_Some p q (sym live ∙ ap (λ (x : TracedSystem). live_process x pid) (sym same) ∙ later)

  found-frozen : (len : ℕ) (e : Option (ℕ × TracedLwp))
      → a ≡ controlled s (on_found s.system pid p len without_fault e) → IsFrozen p → IsFrozen q
  found-frozen len None it frozen = subst IsFrozen (unmoved (ap (λ (x : Answer). x.state.system) it)) frozen
  found-frozen len (Some e) it frozen =
      let now : live_process a.state.system pid ≡ Some (with_lwp e.0 without_fault p) =
      ap (λ (x : Answer). live_process x.state.system pid) it
      ∙ live-changed s.system pid (with_lwp e.0 without_fault) p live (cleared-ended e.0 p) in
      subst IsFrozen (same_Some _ q (sym now ∙ later)) (one-frozen e.0 without_fault p cleared-still frozen)

  pub cleared-frozen : answer_to s k (message_call m message.Cfault) ≡ Some a → IsFrozen p → IsFrozen q
  unfolding message_answer
  cleared-frozen is frozen = by (sent-so k s lawful pid m its a p live message.Cfault cfault-read is)
    where
      by : Sent k s lawful pid m its a p live message.Cfault → IsFrozen q
      by (sent_refused e replied other same stands) = subst IsFrozen (unmoved same) frozen
      by (sent_done it) = found-frozen 8 (aimed_lwp s.system pid p at_process) it frozen

-- ---- the close of a file that is open for reading

closed-system : (s : TracedState) (g : Held) (m : ℕ) → is_writable g.mode ≡ false
    → (with_closed g m s).system ≡ s.system
unfolding with_closed
closed-system s g m reads =
    ap (λ b. cond (b && not (has_writer g.pid (slice_set s.opens m None)))
    (after_last_close g.pid (live_process s.system g.pid) s.system) s.system) reads

pub read-closes : (s : TracedState) (k m : ℕ) (g : Held) (a : Answer) → handle_of s.opens k m ≡ Some g
    → is_writable g.mode ≡ false → answer_to s k (call.Close m) ≡ Some a → a.state.system ≡ s.system
read-closes s k m g a there reads is = elim (close-closes s k m a is) [
  | inl none ↦ none.system
  | inr one ↦
      let w = one.1 in
      let same : one.0 ≡ g = same_Some one.0 g (sym w.held ∙ there) in
      ap (λ (x : TracedState). x.system) w.state
      ∙ closed-system s one.0 m (ap (λ (h : Held). is_writable h.mode) same ∙ reads)
]
