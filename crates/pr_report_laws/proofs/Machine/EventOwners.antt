use Rattle.std.proofs.Common.{◌≡◌, ◌≢◌, ◌⊎◌, ℕ, Bool, true, false, cond, Option, Some, None, Result, Ok, Err, List, [], ◌∷◌, refl, sym, subst, ap, ◌∙◌, inl, inr}
use Rattle.std.proofs.lemmas.Bool.{cases_Bool, cases_eq, false≢true}
use Rattle.std.proofs.lemmas.Option.{none-some, same_Some}
use Rattle.std.specs.Option.{option_and_then}
use Rattle.pr_line.specs.TextRanges.{text_range}
use Rattle.pr_line.specs.declared.events.Event.{Event}
use Rattle.pr_line.specs.declared.events.Event.TheVariants.{Left}
use Rattle.pr_model.proofs.TurnLemmas.{turn-taken}
use Rattle.pr_model.specs.Events.{event_of, events_of, lwp_alone, lwp_in_state, result_event}
use Rattle.pr_model.specs.Legal.{IsLegalEntry, after}
use Rattle.pr_model.specs.LwpTurns.{LwpTurn, turn_of}
use Rattle.pr_model.specs.State.{TracedLwp, TracedProcess, TracedState, TracedSystem, live_process}
use Rattle.pr_model.specs.declared.events.Act.{Act}
use Rattle.pr_model.specs.declared.events.Act.TheVariants as act
use Rattle.pr_model.specs.declared.events.Actor.{Actor}
use Rattle.pr_model.specs.declared.events.Actor.TheVariants.{Controller, Lwp, Clock}
use Rattle.pr_model.specs.declared.events.Did.{Did}
use Rattle.pr_model.specs.declared.events.Did.TheVariants as did
use Rattle.pr_model.specs.declared.events.Entry.{Entry}
use Rattle.pr_model.specs.declared.events.Res.{Res}
use Rattle.pr_model.specs.declared.events.Res.TheVariants.{Value, Error, Ended}
use Rattle.pr_num.specs.Syscalls.{is_fork_call}
use Rattle.pr_num.specs.declared.errnos.Errno.{Errno}
use Rattle.pr_num.specs.declared.syscalls.Sysno.{Sysno}
use Rattle.pr_num.specs.declared.syscalls.Sysno.TheVariants.{Vfork}
use Rattle.pr_truss_laws.proofs.Machine.OwnMemoryLemmas.{turn-owns}
use Rattle.pr_truss_laws.proofs.Machine.StoresLemmas.{is_lending_call, may_have_lent}
use Rattle.pr_truss_laws.specs.Told.{told}
use Rattle.pr_report_laws.proofs.Machine.FrameLaws.{no-events}
use Rattle.pr_report_laws.proofs.Machine.TurnEvents.{state-after}
use Rattle.pr_report_laws.proofs.Machine.TracedPoints.{listed, told_of, turn-picks}
use Rattle.pr_report_laws.proofs.FollowedChildren.FollowForks.{fork-text}
use Rattle.pr_report_laws.specs.Shown.{LwpEvent, if_picked, picked}

-- Right after an entry whose event asks for memory its process has lent its memory to nobody.

lending-forks : (c : Sysno) → is_lending_call c ≡ true → is_fork_call c ≡ true
unfolding is_fork_call
lending-forks Vfork lends = refl
lending-forks _ lends = absurd (false≢true lends)

-- the first of these events
first_event : List LwpEvent → Option Event
first_event [] = None
first_event (x ∷ xs) = Some x.event

first-listed : (id : ℕ) (x : Option Event) → first_event (listed id x) ≡ x
unfolding first_event
first-listed id None = refl
first-listed id (Some e) = refl

-- what is picked is what is told
picks-told : (picks : Event → Bool) (x : Option Event) (e : Event) → option_and_then (if_picked picks) x ≡ Some e
    → x ≡ Some e
picks-told picks None e is = is
picks-told picks (Some a) e is = by (picks a) is
  where
    by : (b : Bool) → cond b (Some a) None ≡ Some e → Some a ≡ Some e
    by true it = it
    by false it = absurd (none-some e it)

module _ (n : ℕ) (picks : Event → Bool) (pid : ℕ) (s : TracedState) (event : LwpEvent) (range : ℕ × ℕ)
    (asks : text_range event.event ≡ Some range) where
  -- ---- what a turn with such an event did

  -- it did not stop as directed, and lent nothing
  record Keeps (d : Did) : Type 0 where
    moves : d ≢ did.Stopped
    lends_none : may_have_lent d ≡ false

  lends-none : (c : Sysno) (args : List ℕ) (r : Result ℕ Errno) → Some (Left c args r) ≡ Some event.event
      → is_lending_call c ≡ false
  unfolding text_range
  lends-none c args r tells = elim (cases_Bool (is_lending_call c)) [
    | inl lends ↦ absurd (none-some range (sym (no-text lends) ∙ ap text_range (same_Some (Left c args r) event.event
        tells) ∙ asks))
    | inr keeps ↦ keeps
  ]
    where
      no-text : is_lending_call c ≡ true → text_range (Left c args r) ≡ None
      no-text lends = fork-text c args _ (lending-forks c lends)

  made-keeps : (c : Sysno) (args : List ℕ) (r : Res) → told (result_event c args r) ≡ Some event.event
      → is_lending_call c ≡ false
  unfolding told
  made-keeps c args (Value v) tells = lends-none c args (Ok v) tells
  made-keeps c args (Error e) tells = lends-none c args (Err e) tells
  made-keeps c args Ended tells = absurd (none-some event.event tells)

  did-keeps : (p : TracedProcess) (l : TracedLwp) (new : Option TracedLwp) (d : Did)
      → option_and_then told (event_of p l new d) ≡ Some event.event → Keeps d
  unfolding event_of
  did-keeps p l new (did.Made c r) tells = record { moves = λ is. cc; lends_none = made-keeps c _ r tells }
  did-keeps p l new (did.Woke c r) tells = record { moves = λ is. cc; lends_none = made-keeps c _ r tells }
  did-keeps p l new did.Stopped tells = absurd (none-some event.event tells)
  did-keeps p l new did.Ran tells = record { moves = λ is. cc; lends_none = refl }
  did-keeps p l new (did.Entered c) tells = record { moves = λ is. cc; lends_none = refl }
  did-keeps p l new (did.Slept c) tells = record { moves = λ is. cc; lends_none = refl }
  did-keeps p l new (did.Returned c) tells = record { moves = λ is. cc; lends_none = refl }
  did-keeps p l new (did.Faulted f) tells = record { moves = λ is. cc; lends_none = refl }
  did-keeps p l new (did.Posted f) tells = record { moves = λ is. cc; lends_none = refl }
  did-keeps p l new (did.Took g) tells = record { moves = λ is. cc; lends_none = refl }
  did-keeps p l new (did.Acted g how) tells = record { moves = λ is. cc; lends_none = refl }

  -- ---- the process after the entry

  -- the process of this id, where it lives, has lent its memory to nobody
  abbrev Owns : TracedSystem → Type 0
  Owns u = (q : TracedProcess) → live_process u pid ≡ Some q → q.borrower ≡ None

  turn-keeps : (id : ℕ) (d : LwpTurn) → turn_of s.system pid id ≡ Some d
      → picked picks pid (events_of s (record { actor = Lwp pid id; act = act.Turn d.turned })) ≡ event ∷ []
      → Owns d.system
  unfolding first_event
  turn-keeps id d turn came =
      let it = turn-taken s.system pid id d turn in
      let e : Entry = record { actor = Lwp pid id; act = act.Turn d.turned } in
      let new : Option TracedLwp = lwp_alone (lwp_in_state (after s e) pid id) in
      let all = sym (turn-picks picks s pid id it.process it.lwp it.live it.there d.turned) ∙ came in
      let first = sym (first-listed id (told_of picks (event_of it.process it.lwp new d.turned.did)))
      ∙ ap first_event all in
      let keeps =
      did-keeps it.process it.lwp new d.turned.did
      (picks-told picks (option_and_then told (event_of it.process it.lwp new d.turned.did)) event.event first) in
      turn-owns s.system pid id d turn keeps.moves keeps.lends_none

  no-event : {X : Type 0} (xs : List LwpEvent) → xs ≡ [] → xs ≡ event ∷ [] → X
  no-event xs none some = let both : [] ≡ event ∷ [] = sym none ∙ some in absurd (cc)

  owns-in : (actor : Actor) (it : Act) → IsLegalEntry n s (record { actor = actor; act = it })
      → picked picks pid (events_of s (record { actor = actor; act = it })) ≡ event ∷ []
      → Owns (after s (record { actor = actor; act = it })).system
  unfolding IsLegalEntry
  owns-in (Lwp other id) (act.Turn turned) legal came = by (cases_eq other pid)
    where
      of-lwp : (x y i j : ℕ) → Lwp x i ≡ Lwp y j → x ≡ y
      of-lwp x y i j e = cc

      own-turn :
          (legal : (u : TracedSystem) × (turn_of s.system pid id ≡ Some (record { system = u; turned = turned })))
          → picked picks pid (events_of s (record { actor = Lwp pid id; act = act.Turn turned })) ≡ event ∷ []
          → Owns (after s (record { actor = Lwp pid id; act = act.Turn turned })).system
      own-turn l came =
          let d : LwpTurn = record { system = l.0; turned = turned } in
          subst (λ (u : TracedState). Owns u.system) (sym (state-after s pid id d l.1)) (turn-keeps id d l.1 came)

      by : (other ≡ pid) ⊎ (other ≢ pid)
          → Owns (after s (record { actor = Lwp other id; act = act.Turn turned })).system
      by (inl same) =
          subst (λ m.
          ((u : TracedSystem) × (turn_of s.system m id ≡ Some (record { system = u; turned = turned })))
          → picked picks pid (events_of s (record { actor = Lwp m id; act = act.Turn turned })) ≡ event ∷ []
          → Owns (after s (record { actor = Lwp m id; act = act.Turn turned })).system)
          (sym same) own-turn legal came
      by (inr apart) =
          no-event _
          (no-events picks pid s (record { actor = Lwp other id; act = act.Turn turned })
          (λ i same. apart (of-lwp other pid id i same))) came
  owns-in (Controller by) it legal came =
      no-event _ (no-events picks pid s (record { actor = Controller by; act = it }) (λ i same. cc)) came
  owns-in Clock it legal came = no-event _
      (no-events picks pid s (record { actor = Clock; act = it }) (λ i same. cc)) came
  owns-in (Lwp other id) it legal came = absurd legal

  pub event-owns : (e : Entry) → IsLegalEntry n s e → picked picks pid (events_of s e) ≡ event ∷ []
      → (q : TracedProcess) → live_process (after s e).system pid ≡ Some q → q.borrower ≡ None
  event-owns e legal came = owns-in e.actor e.act legal came
