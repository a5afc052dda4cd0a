use Rattle.std.proofs.Common.{◌≡◌, ◌%◌, ◌^◌, ◌==◌, ◌≤◌, ℕ, Bool, true, false, is_some, None, Some, Option, List, [], ◌∷◌, refl, sym, ap, ◌∙◌, arith, inl, inr}
use Rattle.std.proofs.lemmas.Bool.{cases_Bool, eq-eqb, eqb-true, false≢true}
use Rattle.std.proofs.lemmas.Option.{none-some, same_Some}
use Rattle.std.specs.List.{find}
use Rattle.pr_laws.proofs.RepresentativeLemmas.{representative-leads}
use Rattle.pr_line.specs.declared.options.Options.{Options}
use Rattle.pr_model.specs.Messages.{tracing_entries, tracing_exits, tracing_faults, tracing_signals, with_control, with_modes}
use Rattle.pr_model.specs.State.{TracedControl, TracedLwp, TracedProcess, has_agent, lwp_of}
use Rattle.pr_model.specs.Stops.{IsBefore, class_of, class_of_stop, first_in_class, found_on_event, has_event_stop, is_in_class, is_stopped, representative, shown}
use Rattle.pr_model.specs.declared.stops.Stop.{Stop}
use Rattle.pr_model.specs.declared.stops.Stop.TheVariants as stop
use Rattle.pr_num.proofs.ByIdLaws.{All-under}
use Rattle.pr_num.specs.Agents.{agent_id}
use Rattle.pr_num.specs.ById.{IsRising, under}
use Rattle.pr_num.specs.Control.{fork_mode}
use Rattle.pr_truss.specs.Messages.{traced_entries, traced_exits, traced_faults, traced_signals}
use Rattle.pr_truss_laws.proofs.EventStops.OneEventLemmas.{or-some, some-or}
use Rattle.pr_truss_laws.specs.Stills.{IsFrozen}
use Rattle.pr_report_laws.proofs.Machine.SettingLaws.{HasPlainModes, follow-plain, set-halting, set-waits}
use Rattle.pr_report_laws.proofs.Invariant.Standing.{HasEntries, HasExits, HasFaults, HasSignals, HasStop, IsAttached, IsCounted, IsSpared}
use Rattle.pr_report_laws.proofs.Machine.StoppedLaws.{no-thing}
use Rattle.pr_report_laws.proofs.Invariant.Positions.{IsTracedBy, met_in}

-- A process that stands still is stopped where one of its lwps stands on an event; and what the messages of an opening
-- set on a process.

-- ---- a process that stands still is stopped where an lwp of it stands on an event of interest

found-under : {X : Type 0} (f : ℕ × X → Bool) (id : ℕ) (x : X) (es : List (ℕ × X)) → under id es ≡ Some x
    → f (id, x) ≡ true → is_some (find f es) ≡ true
found-under f id x [] there passes = absurd (none-some x there)
found-under f id x (e ∷ es) there passes =
    elim (cases_Bool (f e)) [
      | inl here ↦ rw here refl
      | inr not ↦ elim (cases_Bool (e.0 == id)) [
        | inl own ↦
            let thing : e.1 ≡ x = same_Some e.1 x (rw own at there) in
            absurd (false≢true (sym not ∙ ap (λ n. f (n, e.1)) (eqb-true e.0 id own) ∙ ap (λ y. f (id, y)) thing
            ∙ passes))
        | inr other ↦ let rest = found-under f id x es (rw other at there) passes in rw not rest
      ]
    ]

-- the classes of those that stand on events of interest come before that of those that are suspended
stop-most : (s : Stop) → class_of_stop s ≤ 4
stop-most stop.Requested = omega arith
stop-most _ = omega arith

module _ (p : TracedProcess) where
  own-class : (l : TracedLwp) (s : Stop) → l.control.stop ≡ Some s → class_of p.job_stop l ≡ class_of_stop s
  unfolding class_of shown
  own-class l s is = rw is refl

  suspended-class : (l : TracedLwp) → l.control.stop ≡ None → l.suspended ≡ true → class_of p.job_stop l ≡ 5
  unfolding class_of shown
  suspended-class l none is = rw (none, is) refl

  in-class : (class id : ℕ) (l : TracedLwp) → lwp_of p id ≡ Some l → class_of p.job_stop l ≡ class
      → is_some (first_in_class p.job_stop class p.lwps) ≡ true
  unfolding first_in_class
  in-class class id l there is =
      found-under (is_in_class p.job_stop class) id l p.lwps there (eq-eqb (class_of p.job_stop l) class is)

  -- where an lwp stands on an event, there is a representative
  stop-represented : (s : Stop) (id : ℕ) (l : TracedLwp) → lwp_of p id ≡ Some l
      → class_of p.job_stop l ≡ class_of_stop s → is_some (representative p) ≡ true
  unfolding representative
  stop-represented s id l there is = by s (in-class (class_of_stop s) id l there is)
    where
      third : is_some (first_in_class p.job_stop 3 p.lwps) ≡ true → is_some (representative p) ≡ true
      third some =
          or-some _ (first_in_class p.job_stop 5 p.lwps)
          (or-some _ (first_in_class p.job_stop 4 p.lwps) (some-or _ (first_in_class p.job_stop 3 p.lwps) some))

      by : (s : Stop) → is_some (first_in_class p.job_stop (class_of_stop s) p.lwps) ≡ true
          → is_some (representative p) ≡ true
      by stop.Requested some =
          or-some _ (first_in_class p.job_stop 5 p.lwps) (some-or _ (first_in_class p.job_stop 4 p.lwps) some)
      by _ some = third some

  module _ (rises : IsRising p.lwps) (no_agent : has_agent p ≡ false) (frozen : IsFrozen p) (h : HasStop p) where
    -- the representative comes before the lwp that stands on an event, so that it stands on one too
    first-stands : (s : Stop) → h.lwp.control.stop ≡ Some s → (e : ℕ × TracedLwp) → representative p ≡ Some e
        → has_event_stop e.1 ≡ true
    first-stands s stands e is =
        let first = representative-leads p e rises (no-thing (lwp_of p agent_id) no_agent) is in
        let before : IsBefore p.job_stop e (h.id, h.lwp) =
        All-under (IsBefore p.job_stop e) h.id h.lwp p.lwps first.first h.there in
        let own = own-class h.lwp s stands in
        let most = stop-most s in
        elim (cases_Bool (has_event_stop e.1)) [
          | inl on ↦ on
          | inr off ↦
              let suspended : e.1.suspended ≡ true = rw off at (frozen.each e.0 e.1 first.stands) in
              let five = suspended-class e.1 (no-thing e.1.control.stop off) suspended in
              absurd (omega (arith, before.class))
        ]

    stops-by : (o : Option Stop) → h.lwp.control.stop ≡ o → is_some o ≡ true → (x : Option (ℕ × TracedLwp))
        → representative p ≡ x → found_on_event x ≡ true
    stops-by None stands some x is = cc
    stops-by (Some s) stands some None is =
        absurd (false≢true (sym (ap (λ (y : Option (ℕ × TracedLwp)). is_some y) is)
        ∙ stop-represented s h.id h.lwp h.there (own-class h.lwp s stands)))
    stops-by (Some s) stands some (Some e) is = first-stands s stands e is

    pub stop-stopped : is_stopped p ≡ true
    unfolding is_stopped
    stop-stopped = stops-by h.lwp.control.stop refl h.stops (representative p) refl

-- ---- what is set on a process

module _ (change : TracedControl → TracedControl) (p : TracedProcess) where
  pub plain-spared : HasPlainModes (change p.control) → IsSpared (with_control change p)
  unfolding with_control
  plain-spared h = record { directs = h.directs; spares = h.spares }

  stop-kept : HasStop p → HasStop (with_control change p)
  unfolding with_control
  stop-kept h = record { id = h.id; lwp = h.lwp; there = h.there; stops = h.stops }

  attached-kept : HasPlainModes (change p.control) → IsAttached p → IsAttached (with_control change p)
  unfolding with_control
  attached-kept plain h = record {
    spared = plain-spared plain;
    halting = set-halting change p h.halting;
    stops = λ none. stop-kept (h.stops none);
    waits = λ none. set-waits change p (met_in p) (h.waits none);
  }

  counted-kept : (old : ℕ) → HasPlainModes (change p.control) → IsCounted p old → IsCounted (with_control change p) old
  unfolding with_control
  counted-kept old plain h = record { attached = attached-kept plain h.attached; counts = h.counts }

pub plain-of : (p : TracedProcess) → IsSpared p → HasPlainModes p.control
plain-of p h = record { directs = h.directs; spares = h.spares }

module _ (o : Options) (p : TracedProcess) (old : ℕ) where
  pub with-signals : IsCounted p old → HasSignals o (with_control (tracing_signals (traced_signals o)) p) old
  unfolding with_control tracing_signals
  with-signals h =
      let plain = plain-of p h.attached.spared in
      record {
        counted =
            counted-kept (tracing_signals (traced_signals o)) p old
            (record { directs = plain.directs; spares = plain.spares }) h;
        signals = refl;
      }

  pub with-faults : HasSignals o p old → HasFaults o (with_control (tracing_faults (traced_faults o % 2 ^ 64)) p) old
  unfolding with_control tracing_faults
  with-faults h =
      let plain = plain-of p h.counted.attached.spared in
      record {
        before = record {
          counted =
              counted-kept (tracing_faults (traced_faults o % 2 ^ 64)) p old
              (record { directs = plain.directs; spares = plain.spares }) h.counted;
          signals = h.signals;
        };
        faults = refl;
      }

  pub with-entries : HasFaults o p old → HasEntries o (with_control (tracing_entries (traced_entries o)) p) old
  unfolding with_control tracing_entries
  with-entries h =
      let counted = h.before.counted in
      let plain = plain-of p counted.attached.spared in
      record {
        before = record {
          before = record {
            counted =
                counted-kept (tracing_entries (traced_entries o)) p old
                (record { directs = plain.directs; spares = plain.spares }) counted;
            signals = h.before.signals;
          };
          faults = h.faults;
        };
        entries = refl;
      }

  pub with-exits : HasEntries o p old → HasExits o (with_control (tracing_exits (traced_exits o)) p) old
  unfolding with_control tracing_exits
  with-exits h =
      let counted = h.before.before.counted in
      let plain = plain-of p counted.attached.spared in
      record {
        before = record {
          before = record {
            before = record {
              counted =
                  counted-kept (tracing_exits (traced_exits o)) p old
                  (record { directs = plain.directs; spares = plain.spares }) counted;
              signals = h.before.before.signals;
            };
            faults = h.before.faults;
          };
          entries = h.entries;
        };
        exits = refl;
      }

  pub with-follow : HasExits o p old → HasExits o (with_control (with_modes fork_mode) p) old
  unfolding with_control with_modes
  with-follow h =
      let counted = h.before.before.before.counted in
      let plain = follow-plain p.control (plain-of p counted.attached.spared) in
      record {
        before = record {
          before = record {
            before = record {
              counted =
                  counted-kept (with_modes fork_mode) p old
                  (record { directs = plain.directs; spares = plain.spares }) counted;
              signals = h.before.before.before.signals;
            };
            faults = h.before.before.faults;
          };
          entries = h.before.entries;
        };
        exits = h.exits;
      }

  -- a process that is run from here is traced
  pub exits-traced : HasExits o p old → has_agent p ≡ false → IsTracedBy o p
  exits-traced h none =
      let spared = h.before.before.before.counted.attached.spared in
      record {
        signals = h.before.before.before.signals;
        faults = h.before.before.faults;
        entries = h.before.entries;
        exits = h.exits;
        directs = spared.directs;
        spares = spared.spares;
        no_agent = none;
      }
