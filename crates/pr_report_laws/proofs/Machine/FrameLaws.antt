use Rattle.std.proofs.Common.{◌≡◌, ◌≢◌, ◌+◌, ℕ, Bool, cond, is_some, None, Some, Option, List, [], ◌∷◌, refl, sym, ap, ◌∙◌}
use Rattle.std.proofs.lemmas.Bool.{ne_eqb}
use Rattle.std.proofs.lemmas.List.Sums.{sum_by-cons}
use Rattle.std.specs.List.{count_by}
use Rattle.std.specs.Option.{option_map}
use Rattle.pr_line.specs.declared.events.Event.{Event}
use Rattle.pr_line.specs.declared.options.Options.{Options}
use Rattle.pr_num.proofs.ByIdLaws.{under-map_each}
use Rattle.pr_num.specs.Agents.{agent_id}
use Rattle.pr_num.specs.ById.{map_each, under}
use Rattle.pr_num.specs.Control.{async_mode, has_flags, klc_mode}
use Rattle.pr_model.specs.Events.{Event as MachineEvent, events_of, logged}
use Rattle.pr_model.specs.Legal.{after}
use Rattle.pr_model.specs.State.{TracedControl, TracedLwp, TracedProcess, TracedState, has_agent, lwp_of}
use Rattle.pr_model.specs.declared.events.Act.{Act}
use Rattle.pr_model.specs.declared.events.Act.TheVariants as act
use Rattle.pr_model.specs.declared.events.Actor.{Actor}
use Rattle.pr_model.specs.declared.events.Actor.TheVariants.{Lwp}
use Rattle.pr_model.specs.declared.events.Entry.{Entry}
use Rattle.pr_truss_laws.proofs.EventStops.AloneLemmas.{alone-frozen, alone-tells}
use Rattle.pr_truss_laws.proofs.Machine.FrameLemmas.{lwp-alike}
use Rattle.pr_truss_laws.specs.Stills.{IsUndisturbed, unsignalled, will_stop}
use Rattle.pr_report_laws.proofs.Invariant.Positions.{HasEvent, IsAtBirth, IsTracedBy, Waits, has_met, met_in}
use Rattle.pr_report_laws.specs.Shown.{event_picked, picked}

-- What the entries of others leave of how a process stands, and of what is picked.

-- ---- the log

logged-elsewhere : (picks : Event → Bool) (pid : ℕ) (new : TracedState) (other id : ℕ) (event : Option MachineEvent)
    → other ≢ pid → picked picks pid (logged new other id event) ≡ []
unfolding picked event_picked
logged-elsewhere picks pid new other id None differs = refl
logged-elsewhere picks pid new other id (Some event) differs = rw (ne_eqb other pid differs) refl

no-events-in : (picks : Event → Bool) (pid : ℕ) (s : TracedState) (actor : Actor) (it : Act) →
    ((id : ℕ) → actor ≢ Lwp pid id)
    → picked picks pid (events_of s (record { actor = actor; act = it })) ≡ []
unfolding events_of picked
no-events-in picks pid s (Lwp other id) (act.Turn t) elsewhere =
    logged-elsewhere picks pid (after s (record { actor = Lwp other id; act = act.Turn t })) other id _
    (λ same. elsewhere id (ap (λ m. Lwp m id) same))
no-events-in picks pid s _ _ elsewhere = refl

-- what is no turn of an lwp of a process logs no event of it
pub no-events : (picks : Event → Bool) (pid : ℕ) (s : TracedState) (e : Entry) → ((id : ℕ) → e.actor ≢ Lwp pid id)
    → picked picks pid (events_of s e) ≡ []
no-events picks pid s e elsewhere = no-events-in picks pid s e.actor e.act elsewhere

-- ---- how a process stands that was left alone

-- what is counted of lwps by what does not pend for them
count-unsignalled : (f : TracedLwp → Bool) → ((l : TracedLwp) → f (unsignalled l) ≡ f l) → (es : List (ℕ × TracedLwp))
    → count_by (λ (e : ℕ × TracedLwp). f e.1) (map_each unsignalled es) ≡ count_by (λ (e : ℕ × TracedLwp). f e.1) es
count-unsignalled f keeps [] = refl
count-unsignalled f keeps (e ∷ es) =
    let one : ℕ × TracedLwp → ℕ = λ (x : ℕ × TracedLwp). cond (f x.1) 1 0 in
    sum_by-cons one (e.0, unsignalled e.1) (map_each unsignalled es)
    ∙ ap (λ b. cond b 1 0 + count_by (λ (x : ℕ × TracedLwp). f x.1) (map_each unsignalled es)) (keeps e.1)
    ∙ ap (λ n. cond (f e.1) 1 0 + n) (count-unsignalled f keeps es)
    ∙ sym (sum_by-cons one e es)

module _ (p q : TracedProcess) (alone : IsUndisturbed p q) where
  pub alone-count : (f : TracedLwp → Bool) → ((l : TracedLwp) → f (unsignalled l) ≡ f l)
      → count_by (λ (e : ℕ × TracedLwp). f e.1) q.lwps ≡ count_by (λ (e : ℕ × TracedLwp). f e.1) p.lwps
  alone-count f keeps =
      sym (count-unsignalled f keeps q.lwps) ∙ ap (count_by (λ (e : ℕ × TracedLwp). f e.1)) alone.same
      ∙ count-unsignalled f keeps p.lwps

  pub alone-met : met_in q ≡ met_in p
  alone-met = alone-count has_met (λ l. refl)

  -- an lwp that was there is there
  pub alone-lwp : (id : ℕ) (l : TracedLwp) → lwp_of p id ≡ Some l
      → (k : TracedLwp) × ((lwp_of q id ≡ Some k) × (l ≡ record k { pending = l.pending }))
  alone-lwp id l there = lwp-alike p.lwps q.lwps (sym alone.same) id l there

  some-mapped : (o : Option TracedLwp) → is_some (option_map unsignalled o) ≡ is_some o
  some-mapped None = refl
  some-mapped (Some l) = refl

  pub alone-agent : has_agent q ≡ has_agent p
  alone-agent =
      sym (some-mapped (lwp_of q agent_id))
      ∙ ap (λ (o : Option TracedLwp). is_some o) (sym (under-map_each agent_id unsignalled q.lwps)
      ∙ ap (under agent_id) alone.same ∙ under-map_each agent_id unsignalled p.lwps)
      ∙ some-mapped (lwp_of p agent_id)

  pub alone-control : q.control ≡ p.control
  alone-control = ap (λ (x : TracedProcess). x.control) alone.rest

  pub alone-waits : (n : ℕ) → Waits p n → Waits q n
  alone-waits n w = record { frozen = alone-frozen p q alone w.frozen; count = alone-met ∙ w.count }

  pub alone-event : (id : ℕ) (event : Event) → HasEvent p id event → HasEvent q id event
  alone-event id event has =
      let it = alone-lwp id has.lwp has.there in
      record {
        lwp = it.0;
        there = it.1.0;
        stands = record {
          stop = has.stands.stop;
          is = sym (ap (λ (x : TracedLwp). x.control.stop) it.1.1) ∙ has.stands.is;
          met = has.stands.met;
        };
        tells = alone-tells p q alone id has.lwp it.0 has.stands.stop has.there it.1.0 has.stands.is ∙ has.tells;
        others = λ other k apart there.
            let was = alone.each other k there in
            let held = has.others other was.0 apart was.1.0 in
            record { stops = ap will_stop was.1.1 ∙ held.stops; met_nothing = ap has_met was.1.1 ∙ held.met_nothing };
      }

  pub alone-traced : (o : Options) → IsTracedBy o p → IsTracedBy o q
  alone-traced o t = record {
    signals = ap (λ (c : TracedControl). c.traced_signals) alone-control ∙ t.signals;
    faults = ap (λ (c : TracedControl). c.traced_faults) alone-control ∙ t.faults;
    entries = ap (λ (c : TracedControl). c.traced_entries) alone-control ∙ t.entries;
    exits = ap (λ (c : TracedControl). c.traced_exits) alone-control ∙ t.exits;
    directs = ap (λ (c : TracedControl). has_flags c.modes async_mode) alone-control ∙ t.directs;
    spares = ap (λ (c : TracedControl). has_flags c.modes klc_mode) alone-control ∙ t.spares;
    no_agent = alone-agent ∙ t.no_agent;
  }

  pub alone-birth : (o : Options) → IsAtBirth o p → IsAtBirth o q
  alone-birth o b = record { traced = alone-traced o b.traced; waits = alone-waits 1 b.waits }
