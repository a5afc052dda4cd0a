use Rattle.std.proofs.Common.{◌≡◌, ◌&&◌, ◌++◌, not, is_some, ℕ, suc, Bool, true, false, cond, Option, Some, None, List, [], ◌∷◌, append-nil, refl, sym, subst, ap, ◌∙◌}
use Rattle.std.proofs.lemmas.Bool.{eq-eqb, false≢true}
use Rattle.std.proofs.lemmas.Option.{same_Some}
use Rattle.std.specs.Option.{option_map}
use Rattle.pr_line.specs.Events.{event_of}
use Rattle.pr_line.specs.Selections.{is_selected}
use Rattle.pr_line.specs.declared.events.Event.{Event}
use Rattle.pr_line.specs.declared.events.Event.TheVariants.{Incurred}
use Rattle.pr_line.specs.declared.options.Options.{Options}
use Rattle.pr_model.specs.Legal.{state_after}
use Rattle.pr_model.specs.State.{TracedState}
use Rattle.pr_model.specs.declared.calls.Reply.{Reply}
use Rattle.pr_model.specs.declared.calls.Reply.TheVariants as reply
use Rattle.pr_model.specs.declared.events.Entry.{Entry}
use Rattle.pr_num.specs.declared.faults.Flt.TheVariants.{Bpt, Trace}
use Rattle.pr_rec.specs.declared.lwps.LwpStatus.{LwpStatus}
use Rattle.pr_report_laws.proofs.Invariant.Tallies.{told_in}
use Rattle.pr_report_laws.proofs.Replies.NewStops.{new-event, new-old, new_of, read_now, told-event}
use Rattle.pr_report_laws.specs.Positions.{if_in}
use Rattle.pr_report_laws.specs.Shown.{LwpEvent, event_told, shown}
use Rattle.pr_truss.specs.Asides.{marks_at}
use Rattle.pr_truss.specs.FunctionEvents.{fresh_event, function_at}
use Rattle.pr_truss.specs.Trusses.{TrussState, traced_at}
use Rattle.pr_truss.specs.declared.marks.Marks.{Marks}
use Rattle.pr_truss.specs.declared.processes.Traced.{Traced}
use Rattle.pr_truss_laws.specs.Exchanges.{Exchange, exchange_of}
use Rattle.pr_truss_laws.specs.Sent.{sends}
use Rattle.pr_function_laws.proofs.OrdinaryTruss.OrdinaryCalls.{stands-sends}
use Rattle.pr_function_laws.proofs.OrdinaryTruss.OrdinaryFiles.{run-halfway}
use Rattle.pr_function_laws.proofs.OrdinaryTruss.OrdinaryReplies.{at-ordinary}
use Rattle.pr_function_laws.proofs.OrdinaryTruss.OrdinaryShown.{ShownStep, as_before, as_like, shown-step}
use Rattle.pr_function_laws.proofs.Marks.MetLemmas.{fresh-stands}
use Rattle.pr_function_laws.specs.ListedEvents.{is_own_fault, is_to_show}
use Rattle.pr_function_laws.specs.Opened.{IsFunctionRun, functions_at}
use Rattle.pr_function_laws.specs.Ordinary.{IsAtOwnFault, IsLike, IsOwnFault, IsOwnStop, SeesTo, TellsOfOwnFault, at_breakpoint, at_trap, in_place, ordinary, own_fault, refused, same}

-- What truss shows where it reads of an lwp of a process: the event on which that stands, if it is to be shown.

-- ---- its own faults

own-true : (o : Options) (m : Marks) (e : Event) → IsOwnFault o m e → is_own_fault o m e ≡ true
own-true o m e (at_breakpoint at) = ap (λ (f : Option ℕ). is_some f) at
own-true o m e at_trap = refl

own-of : (o : Options) (m : Marks) (e : Event) → is_own_fault o m e ≡ true → IsOwnFault o m e
own-of o m (Incurred Bpt pc) is = by (function_at o m pc) refl is
  where
    by : (f : Option ℕ) → function_at o m pc ≡ f → is_some f ≡ true → IsOwnFault o m (Incurred Bpt pc)
    by (Some function) at on = at_breakpoint at
    by None at on = absurd (false≢true on)
own-of o m (Incurred Trace pc) is = at_trap
own-of o m _ is = absurd (false≢true is)

-- ---- a read

module _ (n k : ℕ) (o : Options) (s : TracedState) (before later : List Entry) (e : Entry) (pid : ℕ)
    (run : IsFunctionRun n k o s (before ++ e ∷ later)) (place : ℕ) (x : Exchange)
    (read : Reply → Option LwpStatus) where
  abbrev t : TrussState
  t = functions_at k o before

  abbrev v : TracedState
  v = state_after s before

  abbrev z : Traced
  z = traced_at (ordinary t) place

  -- In an entry truss reads of the process at a place, and looks at the lwp of which its reply tells so. No stop of
  -- that
  -- process is left that stood before truss came, nor one that truss has looked at.
  pub record IsRead : Type 0 where
    pub new : (traced_at (functions_at k o before) place).old ≡ 0
    pub unseen : (traced_at (functions_at k o before) place).seen ≡ false
    pub own : exchange_of k e ≡ Some x
    pub unsent : sends x.call ≡ false
    pub value : (r : Reply) → read_now pid (ordinary (functions_at k o before)) r
        ≡ new_of (traced_at (ordinary (functions_at k o before)) place) (read r)
    pub tells : TellsOfOwnFault (functions_at k o before) x.reply
        → IsOwnStop (functions_at k o before) place (read x.reply)
    pub is_told : IsOwnStop (functions_at k o before) place (read x.reply)
        → TellsOfOwnFault (functions_at k o before) x.reply
    pub nothing : read (reply.Bytes []) ≡ None
    pub never : SeesTo (functions_at k o before) (functions_at k o before).stage x.call → ⊥

  module _ (w : IsRead) (l : LwpStatus) (told : read x.reply ≡ Some l) where
    its-options : t.options ≡ o
    its-options =
        let half = run-halfway n k o s before (e ∷ later) run in
        let follows = half.follows in
        let fit = follows.fit in fit.options

    abbrev ShownNext : List LwpEvent → Type 0
    ShownNext more = shown pid (functions_at k o (before ++ e ∷ [])) ≡ shown pid t ++ more

    abbrev AsBefore : Type 0
    AsBefore = shown pid (functions_at k o (before ++ e ∷ [])) ≡ shown pid t

    nothing-more : ShownNext [] → AsBefore
    nothing-more is = is ∙ append-nil (shown pid t)

    read-value : (r : Reply) (u : Option LwpStatus) → read r ≡ u → read_now pid (ordinary t) r ≡ new_of z u
    read-value r u is = w.value r ∙ ap (new_of z) is

    z-old : z.old ≡ 0
    z-old = ap (λ (u : Traced). u.old) (at-ordinary t place) ∙ w.new

    z-unseen : z.seen ≡ false
    z-unseen = ap (λ (u : Traced). u.seen) (at-ordinary t place) ∙ w.unseen

    -- it is shown as it stands, or is a fault of truss's own and is passed over
    data ReadShows : Type 0 where
      shows : (TellsOfOwnFault t x.reply → ⊥) → ShownNext (told_in (is_selected o) (event_told l)) → ReadShows
      passes : TellsOfOwnFault t x.reply → AsBefore → ReadShows

    likes : {a b : Exchange} → IsLike t a b → a ≡ x
        → ShownNext (told_in (is_selected o) (read_now pid (ordinary t) b.reply)) → ReadShows
    likes {a} {b} (same sent none_own) is shown_so =
        shows (subst (λ (y : Exchange). TellsOfOwnFault t y.reply → ⊥) is none_own)
        (shown_so
        ∙ ap (λ (r : Option LwpEvent). shown pid t ++ told_in (is_selected o) r)
        (ap (λ (y : Exchange). read_now pid (ordinary t) y.reply) is
        ∙ read-value x.reply (Some l) told ∙ new-event z l z-old z-unseen))
    likes (in_place stands) is shown_so =
        let sent = stands-sends stands in
        absurd (false≢true (sym w.unsent ∙ ap (λ (y : Exchange). sends y.call) (sym is) ∙ sent.0))
    likes (refused {c = c} sees may called) is shown_so =
        absurd (w.never (subst (λ (y : Exchange). SeesTo t t.stage y.call) is sees))
    likes (own_fault tells) is shown_so =
        passes (subst (TellsOfOwnFault t) (ap (λ (y : Exchange). y.reply) is) tells)
        (nothing-more (shown_so
        ∙ ap (λ (r : Option LwpEvent). shown pid t ++ told_in (is_selected o) r)
        (read-value (reply.Bytes []) None w.nothing)))

    read-shows : ReadShows
    read-shows = by (shown-step n k o s before later e pid run)
      where
        by : ShownStep n k o s before later e pid run → ReadShows
        by (as_before sees is) = absurd (w.never (sees x w.own))
        by (as_like y of b like is) = likes like (same_Some y x (sym of ∙ w.own)) is

    -- no event is told: nothing more is shown
    pub shown-none : event_of l ≡ None → AsBefore
    shown-none none = by read-shows
      where
        by : ReadShows → AsBefore
        by (shows none_own is) =
            nothing-more
            (is ∙ ap (λ (r : Option Event). shown pid t ++ told_in (is_selected o) (option_map (λ ev. record {
              id = l.id;
              event = ev;
            }) r)) none)
        by (passes tells is) = is

    -- an event is told: it is shown if it is to be shown
    module _ (event : LwpEvent) (on : event_of l ≡ Some event.event) (id : l.id ≡ event.id) where
      abbrev marks : Marks
      marks = marks_at t place

      fresh : fresh_event (traced_at t place) l ≡ Some event.event
      unfolding fresh_event
      fresh =
          ap (λ b. cond b (cond (traced_at t place).seen None (event_of l)) None)
          (eq-eqb (traced_at t place).old 0 w.new)
          ∙ ap (λ b. cond b None (event_of l)) w.unseen ∙ on

      its-event : event_told l ≡ Some event
      its-event = told-event l event.id event.event on id

      own-stop : IsAtOwnFault t place l → is_own_fault o marks event.event ≡ true
      own-stop stop =
          let e = same_Some stop.event event.event (sym (fresh-stands (traced_at t place) l stop.event stop.fresh) ∙
          on) in
          own-true o marks event.event
          (subst (λ (ev : Event). IsOwnFault o marks ev) e
          (subst (λ (p : Options). IsOwnFault p marks stop.event) its-options stop.own))

      tells-own : TellsOfOwnFault t x.reply → is_own_fault o marks event.event ≡ true
      tells-own tells =
          own-stop (subst (IsOwnStop t place) told (w.tells tells))

      is-own : is_own_fault o marks event.event ≡ true → TellsOfOwnFault t x.reply
      is-own is =
          w.is_told
          (subst (IsOwnStop t place) (sym told) (record {
            event = event.event;
            fresh = fresh;
            own = subst (λ (p : Options). IsOwnFault p marks event.event) (sym its-options)
                (own-of o marks event.event is);
          }))

      pub shown-event : ShownNext (if_in (is_to_show o marks) event)
      shown-event = by read-shows
        where
          as-chosen : (b c : Bool) → c ≡ false
              → cond b (event ∷ []) [] ≡ (let m : List LwpEvent = cond (b && not c) (event ∷ []) [] in m)
          as-chosen true false is = refl
          as-chosen false c is = refl
          as-chosen true true is = absurd (false≢true (sym is))

          as-hidden : (b c : Bool) → c ≡ true
              → (let m : List LwpEvent = cond (b && not c) (event ∷ []) [] in m) ≡ []
          as-hidden true true is = refl
          as-hidden false c is = refl
          as-hidden true false is = absurd (false≢true is)

          not-own : (b : Bool) → is_own_fault o marks event.event ≡ b → (TellsOfOwnFault t x.reply → ⊥)
              → is_own_fault o marks event.event ≡ false
          not-own true is none = absurd (none (is-own is))
          not-own false is none = is

          by : ReadShows → ShownNext (if_in (is_to_show o marks) event)
          by (shows none_own is) =
              is
              ∙ ap (λ (r : Option LwpEvent). shown pid t ++ told_in (is_selected o) r) its-event
              ∙ ap (λ (more : List LwpEvent). shown pid t ++ more)
              (as-chosen (is_selected o event.event) (is_own_fault o marks event.event)
              (not-own (is_own_fault o marks event.event) refl none_own))
          by (passes tells is) =
              is ∙ sym (append-nil (shown pid t))
              ∙ ap (λ (more : List LwpEvent). shown pid t ++ more)
              (sym (as-hidden (is_selected o event.event) (is_own_fault o marks event.event) (tells-own tells)))

  -- of no lwp it reads: nothing more is shown
  module _ (w : IsRead) (none : read x.reply ≡ None) where
    abbrev SameShown : Type 0
    SameShown = shown pid (functions_at k o (before ++ e ∷ [])) ≡ shown pid t

    as-none : (r : Reply) → read r ≡ None
        → shown pid (functions_at k o (before ++ e ∷ []))
        ≡ shown pid t ++ told_in (is_selected o) (read_now pid (ordinary t) r) → SameShown
    as-none r is shown_so =
        shown_so
        ∙ ap (λ (u : Option LwpEvent). shown pid t ++ told_in (is_selected o) u) (w.value r ∙ ap (new_of z) is)
        ∙ append-nil (shown pid t)

    likes-none : {a b : Exchange} → IsLike t a b → a ≡ x
        → shown pid (functions_at k o (before ++ e ∷ []))
        ≡ shown pid t ++ told_in (is_selected o) (read_now pid (ordinary t) b.reply) → SameShown
    likes-none {a} {b} (same sent none_own) is shown_so =
        as-none a.reply (ap (λ (y : Exchange). read y.reply) is ∙ none) shown_so
    likes-none (in_place stands) is shown_so =
        let sent = stands-sends stands in
        absurd (false≢true (sym w.unsent ∙ ap (λ (y : Exchange). sends y.call) (sym is) ∙ sent.0))
    likes-none (refused {c = c} sees may called) is shown_so =
        absurd (w.never (subst (λ (y : Exchange). SeesTo t t.stage y.call) is sees))
    likes-none (own_fault tells) is shown_so = as-none (reply.Bytes []) w.nothing shown_so

    pub shown-empty : SameShown
    shown-empty = by (shown-step n k o s before later e pid run)
      where
        by : ShownStep n k o s before later e pid run → SameShown
        by (as_before sees is) = is
        by (as_like y of b like is) = likes-none like (same_Some y x (sym of ∙ w.own)) is

  -- a stop is left that stood before truss came: nothing more is shown
  module _ (old : (i : ℕ) × ((traced_at (functions_at k o before) place).old ≡ suc i))
      (own : exchange_of k e ≡ Some x)
      (value : (r : Reply) → read_now pid (ordinary (functions_at k o before)) r
      ≡ new_of (traced_at (ordinary (functions_at k o before)) place) (read r)) where
    old-none : (u : Option LwpStatus) → new_of z u ≡ None
    old-none None = refl
    old-none (Some l) = new-old z l old.0 (ap (λ (u : Traced). u.old) (at-ordinary t place) ∙ old.1)

    pub shown-old : shown pid (functions_at k o (before ++ e ∷ [])) ≡ shown pid t
    shown-old = by (shown-step n k o s before later e pid run)
      where
        by : ShownStep n k o s before later e pid run → shown pid (functions_at k o (before ++ e ∷ [])) ≡ shown pid t
        by (as_before sees is) = is
        by (as_like y of b like is) =
            is
            ∙ ap (λ (u : Option LwpEvent). shown pid t ++ told_in (is_selected o) u)
            (value b.reply ∙ old-none (read b.reply)) ∙ append-nil (shown pid t)
