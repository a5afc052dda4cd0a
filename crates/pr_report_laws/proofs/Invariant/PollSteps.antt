use Rattle.std.proofs.Common.{◌≡◌, ◌==◌, ◌<◌, ℕ, false, Option, Some, None, length, position, refl, sym, subst, ap, ◌∙◌, inl, inr}
use Rattle.std.proofs.lemmas.Bool.{cases_Bool, eq-eqb, eqb-true, false≢true}
use Rattle.std.proofs.lemmas.List.Quantifiers.{position-Some}
use Rattle.std.proofs.lemmas.Option.{none-some}
use Rattle.std.specs.Option.{option_and_then}
use Rattle.pr_line.specs.declared.events.Event.{Event}
use Rattle.pr_line.specs.declared.options.Options.{Options}
use Rattle.pr_model.specs.State.{TracedProcess, TracedState, has_agent, live_process}
use Rattle.pr_model.specs.declared.calls.Reply.{Reply}
use Rattle.pr_num.proofs.TableLemmas.{position-within}
use Rattle.pr_truss.specs.Closings.{with_interrupt}
use Rattle.pr_truss.specs.Feeding.{fed, with_reply}
use Rattle.pr_truss.specs.Replies.{answer_of, ready_in}
use Rattle.pr_truss.specs.Stops.{has_control, with_poll_answered, with_polled}
use Rattle.pr_truss.specs.Trusses.{TrussState, nobody, traced_at, with_stage}
use Rattle.pr_truss.specs.declared.replies.Answer.{Answer}
use Rattle.pr_truss.specs.declared.replies.Answer.TheVariants.{Accepted, Interrupted, Gone, Refused}
use Rattle.pr_truss.specs.declared.stages.Stage.{Stage}
use Rattle.pr_truss.specs.declared.stages.Stage.TheVariants.{Polling, ReadingStatus}
use Rattle.pr_truss_laws.specs.Stills.{IsQuiet}
use Rattle.pr_report_laws.proofs.Invariant.Tallies.{Tally}
use Rattle.pr_report_laws.proofs.Replies.Carries.{Carries, carries-standing, stays}
use Rattle.pr_report_laws.proofs.Replies.Elsewhere.{IsAside, none-standing}
use Rattle.pr_report_laws.proofs.Replies.Moves.{Passes, passes-standing}
use Rattle.pr_report_laws.proofs.Replies.NextStages.{ComesNext, comes-places, comes-same, interrupt-comes, opens, prepares-none}
use Rattle.pr_report_laws.proofs.Replies.Places.{by-place, place-pid}
use Rattle.pr_report_laws.proofs.Invariant.Standing.{Position, Prepares, Standing, goes, has_event, is_named, old_stops, stop_read}
use Rattle.pr_report_laws.proofs.Invariant.Positions.{HasEvent, Waits}
use Rattle.pr_report_laws.specs.Watching.{place_of}

-- Truss waits for a process that stops or ends.

-- A process that a poll named: it is not quiet, and one that has an event stands still.
pub record HasStopped (p : TracedProcess) : Type 0 where
  pub stops : IsQuiet p → ⊥
  pub still : has_agent p ≡ false → (id : ℕ) (event : Event) → HasEvent p id event → Waits p 1

-- ---- the poll that names a process

-- the poll is about no process, and the next step about none but the one that it named
named-position : (o : Options) (at place old : ℕ) (p : TracedProcess) (tally : Tally)
    → has_agent p ≡ false → (at ≡ place → HasStopped p) → Position o Polling place old p tally
    → Position o (ReadingStatus at) place old p tally
named-position o at place old p tally no_agent polled (stop_read read waits is) = absurd (false≢true read)
named-position o at place old p tally no_agent polled (old_stops n read counts waits is) =
    old_stops n refl counts waits is
named-position o at place old p tally no_agent polled (goes read named none quiet is) =
    elim (cases_Bool (at == place)) [
      | inl same ↦ let h : HasStopped p = polled (eqb-true at place same) in absurd (h.stops quiet)
      | inr other ↦ goes refl other none quiet is
    ]
named-position o at place old p tally no_agent polled (has_event id event read none one named is) =
    has_event id event refl none one
    (λ same. let h : HasStopped p = polled (eqb-true at place same) in h.still no_agent id event one) is

poll-fed : (t : TrussState) → t.stage ≡ Polling → (r : Reply) → fed t r ≡ with_poll_answered t r (answer_of r)
unfolding fed with_reply
poll-fed t is r = ap (with_reply t r) is

module _ (Why : Type 0) (o : Options) (pid : ℕ) (t : TrussState) (s : TracedState) (tally : Tally)
    (is : t.stage ≡ Polling) where
  -- a poll is about no process
  poll-aside : (place : ℕ) → IsAside t.leaving t.stage place
  poll-aside place =
      subst (λ (st : Stage). IsAside t.leaving st place) (sym is) (record { here = refl; read = refl; named = refl })

  named-carries : (at place : ℕ) → place_of t pid ≡ Some place
      → ((p : TracedProcess) → (traced_at t at).pid ≡ pid → live_process s.system pid ≡ Some p → HasStopped p)
      → Carries Why o pid t (with_stage t (ReadingStatus at)) s s tally tally place
  named-carries at place stands polled = let aside = poll-aside place in record {
    at = stands;
    then = stands;
    same = refl;
    was = λ on. aside.here;
    off = λ off. refl;
    ends = λ ended. (ended, refl);
    moves = λ p on live traced position.
        stays p refl live traced
        (named-position o at place (traced_at t place).old p tally traced.no_agent
        (λ same. polled p
        (subst (λ n. (traced_at t n).pid ≡ pid) (sym same) (place-pid t pid place stands)) live)
        (subst (λ (st : Stage). Position o st place (traced_at t place).old p tally) is position));
  }

  named-standing : (at : ℕ)
      → ((p : TracedProcess) → (traced_at t at).pid ≡ pid → live_process s.system pid ≡ Some p → HasStopped p)
      → Standing Why o pid t s tally → Standing Why o pid (with_stage t (ReadingStatus at)) s tally
  named-standing at polled w =
      by-place t pid (Standing Why o pid (with_stage t (ReadingStatus at)) s tally)
      (λ none. none-standing Why o pid t (with_stage t (ReadingStatus at)) s s tally none none w)
      (λ place stands. carries-standing Why o pid t (with_stage t (ReadingStatus at)) s s tally tally place
      (named-carries at place stands polled) w)

  -- ---- the poll that was interrupted

  comes-passes : (u : TrussState) (place : ℕ) → ComesNext t u → place_of t pid ≡ Some place → Passes pid t u place place
  comes-passes u place c stands = let aside = poll-aside place in record {
    at = stands;
    then = comes-places pid t u c ∙ stands;
    same = comes-same place t u c;
    was = λ on. aside.here;
    here = λ on. c.here place (ap (λ x. x.attached) (comes-same place t u c) ∙ on);
    read = c.read place ∙ sym aside.read;
    named = c.named place ∙ sym aside.named;
  }

  comes-standing : (u : TrussState) → ComesNext t u → Standing Why o pid t s tally → Standing Why o pid u s tally
  comes-standing u c w =
      by-place t pid (Standing Why o pid u s tally)
      (λ none. none-standing Why o pid t u s s tally none (comes-places pid t u c ∙ none) w)
      (λ place stands. passes-standing Why o pid t u s tally place place (comes-passes u place c stands) w)

  -- ---- the reply

  -- what a poll named is polled, where it stands at the place of this process
  abbrev Polled : TrussState → Type 0
  Polled u =
      (at : ℕ) (p : TracedProcess) → u.stage ≡ ReadingStatus at → (traced_at t at).pid ≡ pid
      → live_process s.system pid ≡ Some p → HasStopped p

  polled-standing : (x : Option ℕ) → Polled (with_polled t x) → Standing Why o pid t s tally
      → Standing Why o pid (with_polled t x) s tally
  polled-standing None polled w = w
  polled-standing (Some at) polled w = named-standing at (λ p own live. polled at p refl own live) w

  answered-standing : (r : Reply) (a : Answer) → Polled (with_poll_answered t r a) → Standing Why o pid t s tally
      → Standing Why o pid (with_poll_answered t r a) s tally
  unfolding with_poll_answered
  answered-standing r Accepted polled w =
      polled-standing (option_and_then (λ handle. position (has_control handle) t.traced) (ready_in r)) polled w
  answered-standing r (Refused errno) polled w = w
  answered-standing r Gone polled w = w
  answered-standing r Interrupted polled w = comes-standing (with_interrupt t) (interrupt-comes t) w

  pub poll-standing : (r : Reply)
      → ((at : ℕ) (p : TracedProcess) → (fed t r).stage ≡ ReadingStatus at →
      (traced_at t at).pid ≡ pid → live_process s.system pid ≡ Some p
      → HasStopped p) → Standing Why o pid t s tally → Standing Why o pid (fed t r) s tally
  poll-standing r polled w =
      subst (λ (u : TrussState). Standing Why o pid u s tally) (sym (poll-fed t is r))
      (answered-standing r (answer_of r)
      (λ at p named own live. polled at p (ap (λ (u : TrussState). u.stage) (poll-fed t is r) ∙ named) own live) w)

  -- ---- no process is opened

  polled-opens : (x : Option ℕ) → opens (with_polled t x).stage ≡ false
  polled-opens None = ap opens is
  polled-opens (Some at) = refl

  answered-opens : (r : Reply) (a : Answer) → opens (with_poll_answered t r a).stage ≡ false
  unfolding with_poll_answered
  answered-opens r Accepted =
      polled-opens (option_and_then (λ handle. position (has_control handle) t.traced) (ready_in r))
  answered-opens r (Refused errno) = ap opens is
  answered-opens r Gone = ap opens is
  answered-opens r Interrupted = let c = interrupt-comes t in c.opens

  pub poll-prepares : (r : Reply) → Prepares o pid (fed t r) s
  poll-prepares r =
      prepares-none o pid (fed t r) s (ap (λ (u : TrussState). opens u.stage) (poll-fed t is r)
      ∙ answered-opens r (answer_of r))

-- ---- which process a poll names

-- the one whose control file the poll is about
pub record Names (t : TrussState) (r : Reply) (at : ℕ) : Type 0 where
  pub handle : ℕ
  pub ready : ready_in r ≡ Some handle
  pub found : position (has_control handle) t.traced ≡ Some at

pub named-within : (t : TrussState) (r : Reply) (at : ℕ) → Names t r at → at < length t.traced
named-within t r at n = position-within (has_control n.handle) t.traced at n.found

pub named-control : (t : TrussState) (r : Reply) (at : ℕ) (n : Names t r at) → (traced_at t at).control ≡ n.handle
named-control t r at n =
    let found = position-Some (has_control n.handle) t.traced at nobody n.found in
    eqb-true (traced_at t at).control n.handle found.1

module _ (t : TrussState) (r : Reply) (at : ℕ) (is : t.stage ≡ Polling) where
  not-named : t.stage ≡ ReadingStatus at → ⊥
  not-named named =
      false≢true (sym (ap (λ (st : Stage). is_named st at) is) ∙ ap (λ (st : Stage). is_named st at) named
      ∙ eq-eqb at at refl)

  handle-names : (ready : Option ℕ) → ready_in r ≡ ready
      → option_and_then (λ handle. position (has_control handle) t.traced) ready ≡ Some at → Names t r at
  handle-names None is_ready found = absurd (none-some at found)
  handle-names (Some handle) is_ready found = record { handle = handle; ready = is_ready; found = found }

  polled-is : (x : Option ℕ) → (with_polled t x).stage ≡ ReadingStatus at → x ≡ Some at
  polled-is None named = absurd (not-named named)
  polled-is (Some place) named =
      ap Some (eqb-true place at (ap (λ (st : Stage). is_named st at) named ∙ eq-eqb at at refl))

  answered-names : (a : Answer) → (with_poll_answered t r a).stage ≡ ReadingStatus at → Names t r at
  unfolding with_poll_answered
  answered-names Accepted named =
      handle-names (ready_in r) refl
      (polled-is (option_and_then (λ handle. position (has_control handle) t.traced) (ready_in r)) named)
  answered-names (Refused errno) named = absurd (not-named named)
  answered-names Gone named = absurd (not-named named)
  answered-names Interrupted named =
      let c = interrupt-comes t in
      absurd (false≢true (sym (c.named at) ∙ ap (λ (st : Stage). is_named st at) named ∙ eq-eqb at at refl))

  pub poll-names : (fed t r).stage ≡ ReadingStatus at → Names t r at
  poll-names named = answered-names (answer_of r) (ap (λ (u : TrussState). u.stage) (sym (poll-fed t is r)) ∙ named)
