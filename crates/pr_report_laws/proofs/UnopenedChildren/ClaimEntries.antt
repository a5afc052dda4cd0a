use Rattle.pr_model.specs.declared.handles.Held.{Held}
use Rattle.std.proofs.Common.{◌≡◌, ◌≢◌, ◌==◌, ◌<◌, ℕ, suc, true, false, Some, List, [], ◌∷◌, length, refl, sym, subst, ap, ◌∙◌, arith, inl, inr}
use Rattle.std.proofs.lemmas.Bool.{cases_Bool, cases_eq, eqb-false, eqb-true, false≢true}
use Rattle.std.proofs.lemmas.Option.{none-some, same_Some}
use Rattle.pr_lawful.proofs.ProcessParts.HandleLemmas.{handle-at}
use Rattle.pr_line.specs.declared.options.Options.{Options}
use Rattle.pr_num.proofs.ByIdLaws.{under-change_under, under-change_under_other}
use Rattle.pr_num.specs.ById.{under}
use Rattle.pr_num.specs.Control.{fork_mode, has_flags}
use Rattle.pr_model.proofs.TurnLemmas.{turn-taken}
use Rattle.pr_model.specs.Handles.{handle_of}
use Rattle.pr_model.specs.Lawful.{IsLawful}
use Rattle.pr_model.specs.Legal.{IsLegalEntry, after, after_turn}
use Rattle.pr_model.specs.LwpTurns.{LwpTurn, turn_of, with_counted}
use Rattle.pr_model.specs.State.{TracedControl, TracedLwp, TracedProcess, TracedState, live_process, lwp_of, with_lwp}
use Rattle.pr_model.specs.declared.calls.File.TheVariants as file
use Rattle.pr_model.specs.declared.calls.Mode.TheVariants.{WriteExcl}
use Rattle.pr_model.specs.declared.events.Act.{Act}
use Rattle.pr_model.specs.declared.events.Act.TheVariants as act
use Rattle.pr_model.specs.declared.events.Actor.{Actor}
use Rattle.pr_model.specs.declared.events.Actor.TheVariants.{Controller, Lwp, Clock}
use Rattle.pr_model.specs.declared.events.Entry.{Entry}
use Rattle.pr_model.specs.declared.stops.Stop.TheVariants.{SysExit}
use Rattle.pr_num.specs.declared.syscalls.Sysno.{Sysno}
use Rattle.pr_model.specs.Machines.{stopped_as_directed}
use Rattle.pr_truss.specs.Trusses.{TrussState, traced_at}
use Rattle.pr_truss_laws.proofs.EventStops.BridgeLemmas.{mapped-some}
use Rattle.pr_truss_laws.proofs.Files.OpensLemmas.{held_by}
use Rattle.pr_truss_laws.proofs.Machine.StillLemmas.{frozen-turns, halting-leaves}
use Rattle.pr_truss_laws.specs.Stills.{HasSameSettings, IsUndisturbed, stopped_lwp, with_lwp_stopped}
use Rattle.pr_report_laws.proofs.Invariant.Tallies.{Tally}
use Rattle.pr_report_laws.proofs.UnopenedChildren.Claims.{Claims, KeepsChildren, IsFree, IsSet, opened, stands, watched}
use Rattle.pr_report_laws.proofs.UnopenedChildren.Claims as claims
use Rattle.pr_report_laws.proofs.UnopenedChildren.ClaimStands.{IsStanding, stood-at}
use Rattle.pr_report_laws.proofs.UnopenedChildren.LeftChildren.{LeavesTo, opens-on, other-told}
use Rattle.pr_report_laws.proofs.Invariant.EntrySteps.{made-at}
use Rattle.pr_report_laws.proofs.Files.FileLaws.{HasFiles}
use Rattle.pr_report_laws.proofs.Machine.ForkTurns.{HasForked, alone-forked, forked-born, forked-did, forked-next}
use Rattle.pr_truss_laws.proofs.Machine.ForeignLemmas.{exclusive-sole}
use Rattle.pr_truss_laws.proofs.Machine.OutlastLemmas.{others-entry}
use Rattle.pr_report_laws.proofs.Machine.FrameLaws.{alone-control}
use Rattle.pr_report_laws.proofs.Machine.NewBorn.{IsBegun, IsLeftTo, IsNeverGranted, IsNew, IsNewBorn, Stands, is_begun, is_never, left-later, never-later, new-alone, stands_new, untouched-on}
use Rattle.pr_report_laws.proofs.Invariant.OtherSteps.{lives-later}
use Rattle.pr_truss_laws.proofs.Machine.OverLemmas.{stays-made, stays-over}
use Rattle.pr_report_laws.proofs.Machine.OwnTurnLaws.{event-halts}
use Rattle.pr_report_laws.proofs.Machine.TurnEvents.{state-after}
use Rattle.pr_report_laws.proofs.Invariant.Standing as st
use Rattle.pr_report_laws.proofs.Invariant.Standing.{Position}
use Rattle.pr_report_laws.proofs.Machine.TurnSettings.{turn-settings}
use Rattle.pr_report_laws.specs.Births.{child_made}
use Rattle.pr_reached.specs.Fits.{IsFitSystem}
use Rattle.pr_report_laws.proofs.Invariant.Positions.{IsTracedBy}

-- An entry that is no call of truss leaves the children of forks that truss is to open at their births; and a fork of a
-- process that truss watches makes one more.

-- ---- a turn of a process with an unread event

-- the lwp that stops as it was directed stands at the exit of no call
not-requested : (x : TracedLwp) (call : Sysno) → (stopped_lwp x).control.stop ≡ Some (SysExit call) → ⊥
unfolding stopped_as_directed
not-requested x call is = cc

pub stopped-forked : (p : TracedProcess) (id c : ℕ) → HasForked (with_lwp_stopped id p) c → HasForked p c
unfolding with_counted with_lwp
stopped-forked p id c f = elim (cases_eq id f.id) [
  | inl same ↦
      let m =
      mapped-some stopped_lwp (under id p.lwps) f.lwp (sym (under-change_under id stopped_lwp p.lwps)
      ∙ ap (lwp_of (with_lwp_stopped id p)) same ∙ f.there) in
      absurd (not-requested m.0 f.call (ap (λ (x : TracedLwp). x.control.stop) m.1.1 ∙ f.stop))
  | inr other ↦ record {
    id = f.id;
    lwp = f.lwp;
    there = sym (under-change_under_other id f.id stopped_lwp other p.lwps) ∙ f.there;
    call = f.call;
    makes = f.makes;
    stop = f.stop;
    args = f.args;
    phase = f.phase;
  }
]

-- ---- the entry

abbrev turn_entry : ℕ → ℕ → LwpTurn → Entry
turn_entry pid id d = record { actor = Lwp pid id; act = act.Turn d.turned }

-- what an entry leaves of a process that lives afterwards: it was left alone, or had a turn
pub data Left (pid : ℕ) (s : TracedState) (e : Entry) (q : TracedProcess) : Type 0 where
  alone : (p : TracedProcess) → live_process s.system pid ≡ Some p → IsUndisturbed p q → Left pid s e q
  turned : (id : ℕ) (d : LwpTurn) (p : TracedProcess) → e ≡ turn_entry pid id d → turn_of s.system pid id ≡ Some d
      → live_process s.system pid ≡ Some p → live_process d.system pid ≡ Some q → Left pid s e q

module _ (Line : ℕ → Type 0) (n k : ℕ) (o : Options) (t : TrussState) (s : TracedState) (e : Entry)
    (h : List Entry) (lawful : IsLawful s) (fit : IsFitSystem s.system) (files : HasFiles k t s)
    (stand : (pid : ℕ) → Line pid → IsStanding o pid t s)
    (stays : t.leaving ≡ false) (legal : IsLegalEntry n s e) (later : IsLawful (after s e))
    (others : e.actor ≢ Controller k) where
  module _ (place : ℕ) (within : place < length t.traced) where
    abbrev pid : ℕ
    pid = (traced_at t place).pid

    held : handle_of s.opens k (traced_at t place).control ≡ Some (held_by k pid 0 file.Ctl WriteExcl)
    held = let f = files.control place within in f.is

    was-made : pid < s.system.made
    was-made =
        made-at s.opens (traced_at t place).control (held_by k pid 0 file.Ctl WriteExcl)
        (handle-at s.opens k (traced_at t place).control (held_by k pid 0 file.Ctl WriteExcl) held) lawful.handles

    left-alone : ((id : ℕ) → e.actor ≢ Lwp pid id) → (q : TracedProcess) → live_process (after s e).system pid ≡ Some q
        → Left pid s e q
    left-alone elsewhere q now =
        let mine : Held = held_by k pid 0 file.Ctl WriteExcl in
        let sole = exclusive-sole s k (traced_at t place).control mine lawful held refl in
        let w =
        lives-later o pid t s (after s e) (λ p live. others-entry n s k pid e p lawful sole legal elsewhere others live)
        (λ none. stays-over n s e pid lawful legal was-made none) q now in
        alone w.0 w.1.0 w.1.1

    left-in : (actor : Actor) (it : Act) → e ≡ record { actor = actor; act = it }
        → IsLegalEntry n s (record { actor = actor; act = it }) → (q : TracedProcess)
        → live_process (after s (record { actor = actor; act = it })).system pid ≡ Some q → Left pid s e q
    unfolding IsLegalEntry after
    left-in (Lwp other id) (act.Turn did) is itself q now = elim (cases_Bool (other == pid)) [
      | inl mine ↦
          let same : other ≡ pid = eqb-true other pid mine in
          let d : LwpTurn = record { system = itself.0; turned = did } in
          let taken : turn_of s.system pid id ≡ Some d = ap (λ x. turn_of s.system x id) (sym same) ∙ itself.1 in
          let there : live_process d.system pid ≡ Some q =
          subst (λ x. live_process (after_turn s x).system pid ≡ Some q) itself.1 now in
          let w = turn-taken s.system pid id d taken in
          turned id d w.process (is ∙ ap (λ x. record { actor = Lwp x id; act = act.Turn did }) same) taken w.live there
      | inr apart ↦ left-alone
          (λ i same. eqb-false other pid apart (of-lwp other pid id i (sym (ap (λ (x : Entry). x.actor) is)
          ∙ same))) q (subst (λ (x : Entry). live_process (after s x).system pid ≡ Some q) (sym is) now)
    ]
      where
        of-lwp : (x y i j : ℕ) → Lwp x i ≡ Lwp y j → x ≡ y
        of-lwp x y i j same = cc
    left-in (Controller by) it is itself q now =
        left-alone (λ i same. no-lwp i (sym (ap (λ (x : Entry). x.actor) is)
        ∙ same)) q (subst (λ (x : Entry). live_process (after s x).system pid ≡ Some q) (sym is) now)
      where
        no-lwp : (i : ℕ) → Controller by ≡ Lwp pid i → ⊥
        no-lwp i same = cc
    left-in Clock it is itself q now =
        left-alone (λ i same. no-lwp i (sym (ap (λ (x : Entry). x.actor) is)
        ∙ same)) q (subst (λ (x : Entry). live_process (after s x).system pid ≡ Some q) (sym is) now)
      where
        no-lwp : (i : ℕ) → Clock ≡ Lwp pid i → ⊥
        no-lwp i same = cc
    left-in (Lwp other id) (act.Call c r) is itself q now = absurd itself
    left-in (Lwp other id) (act.Tick moment) is itself q now = absurd itself

    pub left : (q : TracedProcess) → live_process (after s e).system pid ≡ Some q → Left pid s e q
    left q now = left-in e.actor e.act refl legal q now

  -- ---- the children

  module _ (forks : LeavesTo Line k o t (e ∷ h)) (f : KeepsChildren Line k o t s (e ∷ h)) where
    -- a child that is to be opened was to be opened before, or is made now
    pub data WasClaimed (pid c : ℕ) : Type 0 where
      claimed : Claims o t.traced t.stage s.system pid c → WasClaimed pid c
      made : (id : ℕ) → e.actor ≡ Lwp pid id → c ≡ s.system.made → IsNewBorn k o t (after s e) h c → WasClaimed pid c

    -- the rest of the history leaves to truss a child that is made in the entry
    left-to : (of id c : ℕ) (d : LwpTurn) → e ≡ turn_entry of id d → child_made d.turned.did ≡ Some c
        → o.follow ≡ true → Line c → IsLeftTo k o c t h
    left-to of id c d is forks_it follow its =
        subst (λ (u : TrussState). IsLeftTo k o c u h) (other-told k t e others) (record {
          each = λ w had. forks.left follow c its (opens-on k c t e h w) (record {
            before = [];
            parent = of;
            id = id;
            turned = d.turned;
            since = w.front;
            is = ap (λ x. x ∷ w.front) is;
            forks = forks_it;
            had = had;
          });
        })

    later-is : (pid id : ℕ) (d : LwpTurn) → e ≡ turn_entry pid id d → turn_of s.system pid id ≡ Some d
        → after s e ≡ record s { system = d.system }
    later-is pid id d is taken = ap (after s) is ∙ state-after s pid id d taken

    -- a turn of the process
    turn-claims : (place c : ℕ) → Line (traced_at t place).pid → Line c → IsFree t.traced t.stage place
        → o.follow ≡ true
        → (id : ℕ) (d : LwpTurn) (p q : TracedProcess) → e ≡ turn_entry (traced_at t place).pid id d
        → turn_of s.system (traced_at t place).pid id ≡ Some d
        → live_process s.system (traced_at t place).pid ≡ Some p
        → live_process d.system (traced_at t place).pid ≡ Some q → HasForked q c → WasClaimed (traced_at t place).pid c
    turn-claims place c line its free follow id d p q is taken live there forked =
        let w =
        stood-at k o t s files stays place free.within
        (stand (traced_at t place).pid line) free.attached free.here p live in
        by w.0 w.1
      where
        after_it : after s e ≡ record s { system = d.system }
        after_it = later-is (traced_at t place).pid id d is taken

        by : {tally : Tally} → IsTracedBy o p → Position o t.stage place (traced_at t place).old p tally
            → WasClaimed (traced_at t place).pid c
        by traced (st.stop_read read waits whole) = absurd (false≢true (sym free.read ∙ read))
        by traced (st.old_stops m read counts waits whole) = absurd (clash (sym counts ∙ free.none))
          where
            clash : suc m ≡ 0 → ⊥
            clash same = omega arith
        by traced (st.goes read not_named none quiet whole) =
            let flag = f.flags follow place (watched free.within free.attached free.here) line p live in
            made id (ap (λ (x : Entry). x.actor) is)
            (forked-next o s (traced_at t place).pid id p d lawful fit live traced quiet taken q there c forked)
            (subst (λ (x : TracedState). IsNewBorn k o t x h c) (sym after_it)
            (forked-born o s
            (traced_at t place).pid id p d lawful fit live traced quiet taken q there c forked flag follow k t h
            (let w : IsLawful (record s { system = d.system }) = subst IsLawful after_it later in w.system)
            (left-to (traced_at t place).pid id c d is
            (forked-did o s (traced_at t place).pid id p d lawful fit live traced quiet taken q there c forked) follow
            its)))
        by traced (st.has_event other event read none one waits whole) =
            let halting = event-halts p other event one in
            let now : live_process d.system (traced_at t place).pid ≡ Some (with_lwp_stopped id p) =
            halting-leaves s.system (traced_at t place).pid p live halting id d taken in
            claimed (stands place free refl follow p live
            (stopped-forked p id c
            (subst (λ (x : TracedProcess). HasForked x c) (sym (same_Some (with_lwp_stopped id p) q (sym now
            ∙ there))) forked)))

    pub claims-were : (pid c : ℕ) → Line pid → Line c → Claims o t.traced t.stage (after s e).system pid c
        → WasClaimed pid c
    claims-were of c line its (claims.reads place within same claim) = claimed (claims.reads place within same claim)
    claims-were of c line its (stands place free same follow q now forked) =
        subst (λ m. WasClaimed m c) same (by (left place free.within q (ap (live_process (after s e).system) same
        ∙ now)))
      where
        by : Left (traced_at t place).pid s e q → WasClaimed (traced_at t place).pid c
        by (alone p live apart) = claimed (stands place free refl follow p live (alone-forked p q c apart forked))
        by (turned id d p is taken live there) =
            turn-claims place c (subst Line (sym same) line) its free follow id d p q is taken live there forked

    -- a child that truss has begun to open by its id
    begun-later : (c : ℕ) → IsBegun k o t s (e ∷ h) c → IsBegun k o t (after s e) h c
    begun-later c b = record {
      place = b.place;
      within = b.within;
      at = b.at;
      of = b.of;
      named = b.named;
      born = λ q now. from q (left b.place b.within q (ap (live_process (after s e).system) b.of ∙ now));
      left =
          subst (λ (u : TrussState). IsLeftTo k o c u h) (other-told k t e others) (left-later k o c t e h b.left);
    }
      where
        from : (q : TracedProcess) → Left (traced_at t b.place).pid s e q → IsNew o q
        from q (alone p live apart) =
            new-alone o p q apart (b.born p (ap (live_process s.system) (sym b.of) ∙ live))
        from q (turned id d p is taken live there) =
            let new = b.born p (ap (live_process s.system) (sym b.of) ∙ live) in
            let birth = new.birth in
            let waits = birth.waits in
            absurd (none-some d (sym (frozen-turns s.system (traced_at t b.place).pid p live waits.frozen id) ∙ taken))

    claimed-stands : (c : ℕ) → c < s.system.made → Stands k o t s (e ∷ h) c → Stands k o t (after s e) h c
    claimed-stands c before (stands_new new) =
        subst (λ (u : TrussState). Stands k o u (after s e) h c) (other-told k t e others)
        (untouched-on n k o t s h c e lawful legal before new
        (λ lwp handle opened_file mode is writes. others (ap (λ (x : Entry). x.actor) is)))
    claimed-stands c before (is_begun b) = is_begun (begun-later c b)
    claimed-stands c before (is_never never) =
        is_never
        (subst (λ (u : TrussState). IsNeverGranted k c u h) (other-told k t e others) (never-later k c t e h never))

    claimed-born : (pid c : ℕ) → Line pid → Line c → Claims o t.traced t.stage s.system pid c
        → IsNewBorn k o t (after s e) h c
    claimed-born pid c line its claim =
        let new = f.born pid c line its claim in
        record {
          made = stays-made n s e c lawful legal new.made;
          now = claimed-stands c new.made new.now;
        }

    born-later : (pid c : ℕ) → Line pid → Line c → WasClaimed pid c → IsNewBorn k o t (after s e) h c
    born-later of c line its (claimed claim) = claimed-born of c line its claim
    born-later of c line its (made id actor next new) = new

    -- the child that is made now was not there before
    not-before : {X : Type 0} (pid c : ℕ) → Line pid → Line c → Claims o t.traced t.stage s.system pid c
        → c ≡ s.system.made → X
    not-before pid c line its claim next =
        let new = f.born pid c line its claim in absurd (omega (arith, new.made, next))

    one-later : (pid other c : ℕ) → Line pid → Line other → Line c → WasClaimed pid c → WasClaimed other c → pid ≡ other
    one-later pid other c line both its (claimed x) (claimed y) = f.one pid other c line both its x y
    one-later pid other c line both its (claimed x) (made id actor next new) = not-before pid c line its x next
    one-later pid other c line both its (made id actor next new) (claimed y) = not-before other c both its y next
    one-later pid other c line both its (made id actor next new) (made j by also born) = of-lwp (sym actor ∙ by)
      where
        of-lwp : Lwp pid id ≡ Lwp other j → pid ≡ other
        of-lwp same = cc

    -- ---- PR_FORK

    set-within : (place : ℕ) → IsSet t.traced t.stage place → place < length t.traced
    set-within place (watched within on here) = within
    set-within place (opened within its) = within

    flags-later : o.follow ≡ true → (place : ℕ) → IsSet t.traced t.stage place → Line (traced_at t place).pid
        → (q : TracedProcess) → live_process (after s e).system (traced_at t place).pid ≡ Some q
        → has_flags q.control.modes fork_mode ≡ true
    flags-later follow place x line q now = by (left place (set-within place x) q now)
      where
        by : Left (traced_at t place).pid s e q → has_flags q.control.modes fork_mode ≡ true
        by (alone p live apart) =
            ap (λ (y : TracedControl). has_flags y.modes fork_mode) (alone-control p q apart)
            ∙ f.flags follow place x line p live
        by (turned id d p is taken live there) =
            let same : HasSameSettings p q =
            turn-settings s.system (traced_at t place).pid p id d lawful.system live taken q there in
            ap (λ (y : TracedControl). has_flags y.modes fork_mode) same.control ∙ f.flags follow place x line p live

    pub entry-follows : KeepsChildren Line k o t (after s e) h
    entry-follows = record {
      flags = flags-later;
      born = λ pid c line its claim. born-later pid c line its (claims-were pid c line its claim);
      one = λ pid other c line both its x y. one-later pid other c line both its (claims-were pid c line its x)
          (claims-were other c both its y);
      names = f.names;
    }
