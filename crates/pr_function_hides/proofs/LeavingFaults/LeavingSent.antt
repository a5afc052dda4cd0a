use Rattle.std.proofs.Common.{◌≡◌, ◌<◌, ℕ, true, false, cond, is_some, Option, Some, None, Result, Ok, [], refl, sym}
use Rattle.std.proofs.Common.{subst, ap, ◌∙◌}
use Rattle.std.proofs.lemmas.Bool.{false≢true}
use Rattle.std.proofs.lemmas.Option.{same_Some}
use Rattle.std.specs.Option.{option_map}
use Rattle.pr_function_hides.proofs.LeavingCopies.CopyLeft.{IsLeftSo, left-copies}
use Rattle.pr_function_hides.proofs.Copying.CopyPlaces.{bare-stands}
use Rattle.pr_function_hides.proofs.Replies.FunctionSets.{has-none}
use Rattle.pr_function_hides.proofs.LeavingFaults.LeavingWaits.{stop-read, wstop-read}
use Rattle.pr_function_hides.proofs.MetFaults.MetCounts.{IsTakenKind, MetCount, breaks, old-count, trap}
use Rattle.pr_function_hides.proofs.MetFaults.MetTurns.{at-function}
use Rattle.pr_function_hides.proofs.StandingFaults.OwnFaults.{AreOld, CountLess, alone-old}
use Rattle.pr_function_hides.specs.Copying.{CopiesStand}
use Rattle.pr_function_laws.proofs.OpenedProcesses.OneEventLemmas.{alone-few}
use Rattle.pr_function_laws.proofs.OpenedProcesses.OpenedLemmas.{by-process, does, made, sole}
use Rattle.pr_function_laws.proofs.OpenedProcesses.StopTurns.{directed-leaves}
use Rattle.pr_function_laws.proofs.Stepping.StretchLemmas as stretch
use Rattle.pr_function_laws.proofs.Stepping.StretchLemmas.{Does}
use Rattle.pr_function_laws.specs.Lifted.{HasControl}
use Rattle.pr_function_laws.specs.OneEvent.{HasOneEventAtMost, met, unmet}
use Rattle.pr_function_laws.specs.Opened.{TracesAll}
use Rattle.pr_hidden.specs.Covers.{Cover}
use Rattle.pr_line.specs.declared.options.Options.{Options}
use Rattle.pr_model.specs.Calls.{Answer, answer_to, controlled}
use Rattle.pr_model.specs.ControlMessages.{tail_of}
use Rattle.pr_model.specs.Lawful.{IsLawful}
use Rattle.pr_model.specs.Messages.{at_process, message_answer, with_aim_directed}
use Rattle.pr_model.specs.State.{TracedControl, TracedLwp, TracedProcess, TracedState, TracedSystem, has_agent}
use Rattle.pr_model.specs.State.{live_process, lwp_of}
use Rattle.pr_model.specs.Stops.{directed, has_event_stop, with_all_directed}
use Rattle.pr_model.specs.declared.calls.Call.{Call}
use Rattle.pr_model.specs.declared.stops.Stop.{Stop}
use Rattle.pr_num.proofs.ByIdLaws.{under-map_each}
use Rattle.pr_num.specs.Agents.{agent_id}
use Rattle.pr_num.specs.Messages.{first_message, spelling}
use Rattle.pr_num.specs.declared.messages.Message.{Message}
use Rattle.pr_num.specs.declared.messages.Message.TheVariants as message
use Rattle.pr_num.specs.declared.messages.MsgFault.{MsgFault}
use Rattle.pr_report_laws.proofs.Machine.FrameLaws.{alone-agent}
use Rattle.pr_report_laws.specs.AtBirth.{has_met, is_met_if}
use Rattle.pr_truss.specs.Marks.{no_marks, standing}
use Rattle.pr_truss.specs.Messages.{message_call}
use Rattle.pr_truss.specs.declared.marks.Marks.{Marks}
use Rattle.pr_truss_laws.proofs.EventStops.BridgeLemmas.{mapped-some}
use Rattle.pr_truss_laws.proofs.EventStops.OwnTurnLemmas.{all-directed}
use Rattle.pr_truss_laws.proofs.Machine.StillLemmas.{live-changed}
use Rattle.pr_truss_laws.proofs.EventStops.AloneLemmas.{alone-frozen}
use Rattle.pr_truss_laws.specs.Stills.{IsFrozen, stands_still, IsHalting, IsUndisturbed}

-- How a process stands that truss leaves, until truss looks at it: what others do, and the directions to stop, leave it
-- so.

-- ---- what is so

-- All of it is traced, and it has no agent. Where no stop is left that stood before truss came, at most one lwp stands
-- on an event that it met, each that stands on the stop of a fault which truss takes for its own counts as standing at
-- one of those who hide, and its forks, vforks and execs stand as they are to.
pub record StandsSo (o : Options) (New : Type 0) (m : Marks) (c : Cover) (p : TracedProcess) : Type 0 where
  pub traces : TracesAll o p.control
  pub no_agent : has_agent p ≡ false
  pub few : New → HasOneEventAtMost p
  pub met : New → MetCount c o m p
  pub copies : New → CopiesStand m p

-- its lwps are those from before, as far as that is asked
pub record LastsSo (p q : TracedProcess) : Type 0 where
  pub old : AreOld p q
  pub few : HasOneEventAtMost p → HasOneEventAtMost q
  pub agent : has_agent p ≡ false → has_agent q ≡ false
  pub still : IsFrozen p → IsFrozen q

pub stands-on : (o : Options) (New : Type 0) (m : Marks) (c d : Cover) (p q : TracedProcess) → IsLeftSo p q
    → LastsSo p q → CountLess d c → StandsSo o New m c p → StandsSo o New m d q
stands-on o New m c d p q left lasts more w = record {
  traces = subst (λ (x : TracedControl). TracesAll o x) (sym left.control) w.traces;
  no_agent = lasts.agent w.no_agent;
  few = λ new. lasts.few (w.few new);
  met = λ new. old-count c d o m p q more lasts.old (w.met new);
  copies = λ new. left-copies o m p q left (w.copies new);
}

-- others leave it alone
pub alone-lasts : (p q : TracedProcess) → IsUndisturbed p q → LastsSo p q
alone-lasts p q alone = record {
  old = alone-old p q alone;
  few = alone-few p q alone;
  agent = λ none. alone-agent p q alone ∙ none;
  still = alone-frozen p q alone;
}

-- its memory was replaced
pub stands-unmarked : (o : Options) (New : Type 0) (m : Marks) (c : Cover) (p : TracedProcess) → StandsSo o New m c p
    → StandsSo o New no_marks c p
unfolding standing
stands-unmarked o New m c p w = record {
  traces = w.traces;
  no_agent = w.no_agent;
  few = w.few;
  met = λ new id l there f is kind. w.met new id l there f is (kept l f kind);
  copies = λ new. bare-stands no_marks p (record {
    lifted = record { none_planted = has-none; no_step = refl };
    left = has-none;
  });
}
  where
    kept : (l : TracedLwp) (f : _) → IsTakenKind o no_marks l f → IsTakenKind o m l f
    kept l f (trap is) = trap is
    kept l f (breaks function is at) =
        absurd (false≢true (sym (has-none function) ∙ (at-function o no_marks _ function at).1))

-- ---- the direction to stop

-- it is as it was, or each lwp of it was directed to stop
pub data IsAsked (p q : TracedProcess) : Type 0 where
  kept : q ≡ p → IsAsked p q
  asked : q ≡ with_all_directed p → IsAsked p q

module _ (p : TracedProcess) where
  abbrev q : TracedProcess
  q = with_all_directed p

  was-directed : (id : ℕ) (k : TracedLwp) → lwp_of q id ≡ Some k
      → (l : TracedLwp) × ((lwp_of p id ≡ Some l) × (directed l ≡ k))
  unfolding with_all_directed
  was-directed id k there =
      mapped-some directed (lwp_of p id) k (sym (under-map_each id directed p.lwps) ∙ there)

  directed-same : (l : TracedLwp) → has_event_stop l ≡ true → directed l ≡ l
  unfolding directed
  directed-same l on =
      ap (λ b. cond b l (record l { control = record l.control { directed = true } })) on

  directed-regs : (l : TracedLwp) → (directed l).regs ≡ l.regs
  unfolding directed
  directed-regs l =
      elim (has_event_stop l) as
      (λ b. (cond b l (record l { control = record l.control { directed = true } })).regs ≡ l.regs)
      [ true ↦ refl | false ↦ refl ]

  directed-old : AreOld p q
  directed-old id k there =
      let m = was-directed id k there in
      let leaves = directed-leaves in (
        m.0,
        (
          m.1.0,
          (
            ap (λ (x : TracedLwp). x.phase) (sym m.1.1) ∙ leaves.phase m.0,
            (
              ap (λ (x : TracedLwp). x.control.stop) (sym m.1.1) ∙ leaves.stops m.0,
              ap (λ (x : TracedLwp). x.regs) (sym m.1.1) ∙ directed-regs m.0,
            ),
          ),
        ),
      )

  met-same : (l : TracedLwp) → has_met (directed l) ≡ has_met l
  met-same l = let leaves = directed-leaves in ap is_met_if (leaves.stops l)

  directed-few : HasOneEventAtMost p → HasOneEventAtMost q
  unfolding with_all_directed
  directed-few (unmet none) =
      unmet (λ id k there.
      let m = was-directed id k there in ap has_met (sym m.1.1) ∙ met-same m.0 ∙ none id m.0 m.1.0)
  directed-few (met id w) =
      met id (record {
        lwp = w.lwp;
        there =
            under-map_each id directed p.lwps ∙ ap (option_map directed) w.there
            ∙ ap (λ (x : TracedLwp). Some x) (directed-same w.lwp on);
        stands = w.stands;
        awake = w.awake;
        not_lent = w.not_lent;
        others = λ other k apart there.
            let m = was-directed other k there in
            let held = w.others other m.0 apart m.1.0 in
            let halting : IsHalting (with_all_directed p) = all-directed p in
            record {
              stops = halting.each other k there;
              met_nothing = ap has_met (sym m.1.1) ∙ met-same m.0 ∙ held.met_nothing;
            };
      })
    where
      on : has_event_stop w.lwp ≡ true
      on = let s = w.stands in ap (λ (o : Option Stop). is_some o) s.is

  directed-none : has_agent p ≡ false → has_agent q ≡ false
  directed-none none = by (lwp_of q agent_id) refl
    where
      by : (o : Option TracedLwp) → lwp_of q agent_id ≡ o → is_some o ≡ false
      by None is = refl
      by (Some k) is =
          let m = was-directed agent_id k is in
          absurd (false≢true (sym none ∙ ap (λ (x : Option TracedLwp). is_some x) m.1.0))

  still-same : (l : TracedLwp) → stands_still (directed l) ≡ stands_still l
  unfolding directed
  still-same l =
      elim (has_event_stop l) as
      (λ b. stands_still (cond b l (record l { control = record l.control { directed = true } })) ≡ stands_still l)
      [ true ↦ refl | false ↦ refl ]

  directed-frozen : IsFrozen p → IsFrozen q
  directed-frozen frozen = record {
    each = λ id k there.
        (let m = was-directed id k there in
        ap stands_still (sym m.1.1) ∙ still-same m.0 ∙ frozen.each id m.0 m.1.0);
  }

pub asked-lasts : (p q : TracedProcess) → IsAsked p q → LastsSo p q
asked-lasts p q (kept same) = subst (LastsSo p) (sym same) (record {
  old = λ id k there. (k, (there, (refl, (refl, refl))));
  few = λ few. few;
  agent = λ none. none;
  still = λ frozen. frozen;
})
asked-lasts p q (asked same) =
    subst (LastsSo p) (sym same)
    (record {
      old = directed-old p;
      few = directed-few p;
      agent = directed-none p;
      still = directed-frozen p;
    })

-- ---- the messages that ask for a stop

directed-unended : (p : TracedProcess) → (with_all_directed p).ended ≡ p.ended
unfolding with_all_directed
directed-unended p = refl

module _ (n k : ℕ) (o : Options) (s : TracedState) (lawful : IsLawful s) (c : Call) (a : Answer)
    (answer : answer_to s k c ≡ Some a)
    (over : (pid : ℕ) → pid < s.system.made → live_process s.system pid ≡ None
    → live_process a.state.system pid ≡ None) (pid control : ℕ) (its : HasControl k pid control s) where
  module _ (w : Message) (len : ℕ) (is : c ≡ message_call control w)
      (reads : first_message (spelling w []) ≡ Ok (w, len)) where
    abbrev DoesTo : TracedProcess → Type 0
    DoesTo p =
        Does n k pid 0 control s lawful (sole n k o s lawful c a answer over pid control (spelling w []) is its)
        (made n k o s lawful c a answer over pid control (spelling w []) is its) p (spelling w []) a

    message-sent : ((p : TracedProcess) → live_process s.system pid ≡ Some p → (long : ℕ)
        → a ≡ controlled s (message_answer s.system pid p at_process w (tail_of w (spelling w [])) long)
        → (q : TracedProcess) → live_process a.state.system pid ≡ Some q → IsAsked p q)
        → (q : TracedProcess) → live_process a.state.system pid ≡ Some q
        → (p : TracedProcess) × ((live_process s.system pid ≡ Some p) × IsAsked p q)
    message-sent does_so =
        by-process n k o s lawful c a answer over pid control (spelling w []) is its IsAsked each
      where
        each : (p q : TracedProcess) → live_process s.system pid ≡ Some p → live_process a.state.system pid ≡ Some q
            → IsAsked p q
        each p q live later =
            by (does n k o s lawful c a answer over pid control (spelling w []) is its p live)
          where
            by : DoesTo p → IsAsked p q
            by (stretch.refuses errno replied other same) =
                kept (same_Some q p
                (sym later ∙ ap (λ (x : TracedSystem). live_process x pid) same ∙ live))
            by (stretch.does m long first it) =
                does_so p live long
                (it
                ∙ ap (λ x. controlled s (message_answer s.system pid p at_process x (tail_of x (spelling w [])) long))
                (ap (λ (x : Message × ℕ). x.0) (ok-same (sym first ∙ reads)))) q later
              where
                ok-same : {x y : Message × ℕ} → (let r : Result (Message × ℕ) MsgFault = Ok x in r) ≡ Ok y → x ≡ y
                ok-same e = cc

  pub stop-sent : c ≡ message_call control message.Stop → (q : TracedProcess)
      → live_process a.state.system pid ≡ Some q
      → (p : TracedProcess) × ((live_process s.system pid ≡ Some p) × IsAsked p q)
  unfolding message_answer with_aim_directed
  stop-sent is =
      message-sent message.Stop 8 is stop-read (λ p live long it q later.
      asked (same_Some q (with_all_directed p)
      (sym later ∙ ap (λ (x : Answer). live_process x.state.system pid) it
      ∙ live-changed s.system pid with_all_directed p live (directed-unended p))))

  pub wstop-sent : c ≡ message_call control message.Wstop → (q : TracedProcess)
      → live_process a.state.system pid ≡ Some q
      → (p : TracedProcess) × ((live_process s.system pid ≡ Some p) × IsAsked p q)
  unfolding message_answer
  wstop-sent is =
      message-sent message.Wstop 8 is wstop-read (λ p live long it q later.
      kept (same_Some q p
      (sym later ∙ ap (λ (x : Answer). live_process x.state.system pid) it ∙ live)))
