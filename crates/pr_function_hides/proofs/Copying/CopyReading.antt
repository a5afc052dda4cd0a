use Rattle.std.proofs.Common.{◌≡◌, ◌≢◌, ◌<◌, ◌==◌, ◌-◌, ℕ, zero, suc, Bool, true, false, cond, nat_lt, is_some, Option, Some, None, length, refl, sym, subst, ap, ◌∙◌, inl, inr, arith}
use Rattle.std.proofs.lemmas.Bool.{eqb-true, false≢true, lt-ltb, ne_eqb}
use Rattle.std.proofs.lemmas.Option.{none-some, same_Some}
use Rattle.std.specs.List.{slice_set}
use Rattle.std.specs.Option.{option_and_then}
use Rattle.pr_laws.proofs.RunLemmas.{representative-stands}
use Rattle.pr_lawful.proofs.LawfulTurns.EndLemmas.{found-live}
use Rattle.pr_lawful.proofs.Following.UseLemmas.{live-lawful}
use Rattle.pr_line.specs.Events.{event_of}
use Rattle.pr_line.specs.declared.events.Event.{Event}
use Rattle.pr_line.specs.declared.options.Options.{Options}
use Rattle.pr_model.specs.Calls.{Answer, answer_to}
use Rattle.pr_model.specs.Replies.{bytes_in}
use Rattle.pr_model.specs.State.{TracedLwp, TracedProcess, TracedState, TracedSystem, has_agent, live_process, lwp_of}
use Rattle.pr_model.specs.Statuses.{lwpstatus_of, status_of, status_of_found}
use Rattle.pr_model.specs.Stops.{representative}
use Rattle.pr_model.specs.declared.calls.Call.{Call}
use Rattle.pr_model.specs.declared.calls.File.TheVariants as file
use Rattle.pr_model.specs.declared.calls.Mode.TheVariants.{Read}
use Rattle.pr_model.specs.declared.calls.Reply.{Reply}
use Rattle.pr_num.proofs.ByIdLaws.{All-under}
use Rattle.pr_num.specs.ById.{IsRising}
use Rattle.pr_rec.specs.declared.lwps.LwpStatus.{LwpStatus}
use Rattle.pr_reached.proofs.RecordsInRange.EntryRanges.{records-range}
use Rattle.pr_reached.specs.Fits.{IsFitLwp, IsFitProcess}
use Rattle.pr_report_laws.proofs.Invariant.StandLemmas.{Each, EachBut, but-set, each-but}
use Rattle.pr_report_laws.proofs.Machine.EventStopLemmas.{on-where-met}
use Rattle.pr_report_laws.proofs.Machine.RecordLaws.{status-ended, status-read}
use Rattle.pr_report_laws.proofs.Machine.StoppedLaws.{HasMetFirst, waits-first}
use Rattle.pr_report_laws.specs.AtBirth.{met_in}
use Rattle.pr_truss.specs.FunctionEvents.{fresh_event, function_event}
use Rattle.pr_truss.specs.Closings.{with_closing}
use Rattle.pr_truss.specs.FunctionFeeding.{fed_functions, with_function_reply}
use Rattle.pr_truss.specs.FunctionStops.{with_function_status_answered}
use Rattle.pr_truss.specs.Stops.{with_status_answered}
use Rattle.pr_truss.specs.declared.replies.Answer.{Answer as Told}
use Rattle.pr_num.specs.declared.errnos.Errno.{Errno}
use Rattle.pr_truss.specs.NextCalls.{read_record}
use Rattle.pr_truss.specs.Records.{is_on_event, status_lwp}
use Rattle.pr_truss.specs.Replies.{answer_of}
use Rattle.pr_truss.specs.Trusses.{TrussState, traced_at, with_stage, with_traced}
use Rattle.pr_truss.specs.declared.asides.Aside.TheVariants.{Nothing}
use Rattle.pr_truss.specs.declared.function_events.FunctionEvent.{FunctionEvent}
use Rattle.pr_truss.specs.declared.function_events.FunctionEvent.TheVariants.{Replaced, TraceTrap}
use Rattle.pr_truss.specs.declared.processes.Traced.{Traced}
use Rattle.pr_truss.specs.declared.replies.Answer.TheVariants.{Accepted, Gone, Refused}
use Rattle.pr_truss.specs.declared.stages.Stage.{Stage}
use Rattle.pr_truss.specs.declared.stages.Stage.TheVariants.{ReadingStatus, Running}
use Rattle.pr_truss_laws.proofs.Files.HeldLemmas.{at_place, set-at}
use Rattle.pr_truss_laws.proofs.Files.OpensLemmas.{held_by, looking-stays}
use Rattle.pr_truss_laws.specs.Stills.{IsFrozen}
use Rattle.pr_function_laws.proofs.Marks.KeptPlaces.{AtStage, Position, rests, to_read}
use Rattle.pr_function_laws.proofs.OpenedProcesses.OneEventLemmas.{none-unmet}
use Rattle.pr_function_laws.proofs.OpenedProcesses.OpenedCalls.{IsSo}
use Rattle.pr_function_laws.proofs.OpenedProcesses.StoodLemmas.{Stood, as_stopped, waits}
use Rattle.pr_function_laws.proofs.CallTurns.TurnReads.{fresh-new, shown-lwp}
use Rattle.pr_function_laws.proofs.Marks.MetLemmas.{fresh-stands}
use Rattle.pr_function_laws.proofs.Stepping.ToldLemmas.{none-on}
use Rattle.pr_function_laws.specs.OneEvent.{HasMetNothing, HasOneEventAtMost, unmet}
use Rattle.pr_function_laws.specs.Stretches.{acts_by}
use Rattle.pr_function_hides.proofs.Copying.CopyFeeds.{IsRestedSo, but-one, event-fed, event-flags, event-set, idle-fed, off-fed, old-fed, over-runs, rests-of, still-fed, treats-about, treats-fits, unread-fed}
use Rattle.pr_function_hides.proofs.Copying.CopyOpening.{fits-idle}
use Rattle.pr_function_hides.proofs.Copying.CopyOwn.{OwnCall, all-rested, is-off, is-unfollowed, later, stood-there}
use Rattle.pr_function_hides.proofs.Copying.CopyPlaces.{CopiesSo, IsClean, MetBy, RestsSo, RunsSo, WaitsOut, is_about, rests_new, rests_old, runs_old, runs_so, treats}
use Rattle.pr_function_hides.proofs.Copying.CopyRows.{lifted-after, tells-of}
use Rattle.pr_function_hides.proofs.Replies.PlantedWalk.{marks_then}
use Rattle.pr_function_hides.proofs.Replies.TreatedEvents.{done, own-place, read-treats, trap-will}
use Rattle.pr_function_hides.specs.Copying.{CopiesStand, IsLifted, ends_copy}
use Rattle.pr_function_hides.specs.Treating.{Treats}

-- The forks, vforks and execs of a process of which truss reads the status: a stop from before truss came is run; at an
-- event truss does what it is to do; and another stop is no event.

-- what truss reads of a process that lives
pub record ReadsSo (k : ℕ) (t : TrussState) (s : TracedState) (q : ℕ) (r : Reply) (x : TracedProcess) : Type 0 where
  pub live : live_process s.system (traced_at t q).pid ≡ Some x
  pub stands : RestsSo (traced_at t q) x
  pub frozen : IsFrozen x
  pub no_agent : has_agent x ≡ false
  pub rises : IsRising x.lwps
  pub fit : (id : ℕ) (l : TracedLwp) → lwp_of x id ≡ Some l → IsFitLwp l
  pub few : (traced_at t q).old ≡ 0 → HasOneEventAtMost x
  pub accepted : answer_of r ≡ Accepted
  pub told : option_and_then status_lwp (bytes_in r) ≡ Some (status_of_found x (representative x))

few-of : (flags n : ℕ) (p : TracedProcess) → n ≡ 0 → Stood flags n p → HasOneEventAtMost p
few-of flags n p none (as_stopped all few) = few
few-of flags n p none (waits w unset) = unmet (none-unmet p (omega (arith, w.few, none)))

module _ {n k : ℕ} {o : Options} {t : TrussState} {s : TracedState} {c : Call} {a : Answer}
    (w : OwnCall n k o t s c a) (q : ℕ) (within : q < length t.traced) (reads : t.stage ≡ ReadingStatus q)
    (idle : t.aside ≡ Nothing) (is : c ≡ read_record (traced_at t q).status) where
  abbrev r : Reply
  r = let b : Answer = a in b.reply

  abbrev v : Traced
  v = traced_at t q

  abbrev So : Position → Traced → Type 0
  So = IsSo (Unit {0}) k t.options s

  abbrev Done : TrussState → Type 0
  Done z = CopiesSo z (later w)

  abbrev X : Traced → Type 0
  X u = IsRestedSo (later w) u

  at-stage : AtStage So t.traced (ReadingStatus q)
  at-stage = let g = w.goes in let m = g.kept in subst (AtStage So t.traced) reads m.stage

  pub reads-so : (x : TracedProcess) → live_process (later w) v.pid ≡ Some x → ReadsSo k t s q r x
  unfolding status_of
  reads-so x now =
      let g = w.goes in
      let was = stood-there w q within x now in
      let p = was.0 in
      let h : So rests v = at-stage.1.0 q within in
      let sees_so : So to_read v = at-stage.1.1 in
      let held = h.holds in
      let known = held.known in
      let found = (found-live s.system v.pid p was.1.0).0 in
      let records = records-range s.system g.lawful.system (let at = g.reached tt in at.in_range) in
      let ranged = (records.processes v.pid p found).status in
      let sees =
      status-read s k known.number (held_by k v.pid 0 file.Status Read) (held.its_status known.number known.is) a p
      was.1.0 refl ranged (ap (answer_to s k) (sym (ap read_record known.is) ∙ sym is) ∙ w.given) in
      let same : p ≡ x = same_Some p x
      (sym was.1.0 ∙ ap (λ (u : TracedState). live_process u.system v.pid) (sym sees.state) ∙ now) in
      subst (ReadsSo k t s q r) same
      (record {
        live = was.1.0;
        stands = rests-of t q p (ap (λ (z : Stage). is_about z q) reads) was.1.1;
        frozen = let st = sees_so.stands tt in st.stood p was.1.0;
        no_agent = (held.set p was.1.0).1;
        rises = let l = live-lawful s.system v.pid p g.lawful.system was.1.0 in l.rising;
        fit = λ id l there.
            let at = g.reached tt in
            let fits = All-under (λ (e : ℕ × TracedProcess). IsFitProcess e.1) v.pid p s.system.processes
            at.fit.processes found in
            All-under (λ (e : ℕ × TracedLwp). IsFitLwp e.1) id l p.lwps fits.lwps there;
        few = λ none. let st = h.stands tt in few-of v.marks.flags v.old p none (st.stood p was.1.0);
        accepted = sees.accepted;
        told = sees.lwp;
      })

  module _ (x : TracedProcess) (m : ReadsSo k t s q r x) where
    -- the first of the lwps that met an event
    first-met : (i : ℕ) → met_in x ≡ suc i → HasMetFirst x
    first-met i counts = waits-first x m.rises m.no_agent i (record { frozen = m.frozen; count = counts })

    met-on : (i : ℕ) → met_in x ≡ suc i → is_on_event (status_of_found x (representative x)) ≡ true
    met-on i counts =
        let f = first-met i counts in
        let e = f.lwp in
        ap (λ e. is_on_event (status_of_found x e)) f.is
        ∙ on-where-met x e.0 e.1 (m.fit e.0 e.1 (representative-stands x e m.rises f.is)) ∙ f.met

    none-met : is_on_event (status_of_found x (representative x)) ≡ false → HasMetNothing x
    none-met on = by (met_in x) refl
      where
        by : (i : ℕ) → met_in x ≡ i → HasMetNothing x
        by zero counts = none-unmet x counts
        by (suc i) counts = absurd (false≢true (sym on ∙ met-on i counts))

  all-x : Each X t.traced
  all-x = all-rested w (λ place. ap (λ (z : Stage). is_about z place) reads) (ap acts_by is)

  others : EachBut X t.traced q
  others = each-but X t.traced q all-x

  clean-here : IsClean v
  clean-here = let cs = w.copies in cs.clean q within

  -- it runs the process next, with the same marks
  runs-next : ((x : TracedProcess) → live_process (later w) v.pid ≡ Some x → RunsSo (with_stage t (Running q)) q x)
      → fed_functions t r ≡ with_stage t (Running q) → Done (fed_functions t r)
  runs-next here same =
      subst Done (sym same)
      (but-one (later w) (with_stage t (Running q)) q (λ place other. ne_eqb q place (λ same. other (sym same)))
      (fits-idle w (with_stage t (Running q)) idle) others clean-here (λ x now. runs_so (own-place q) (here x now)))

  no-records : answer_of r ≡ Accepted → option_and_then status_lwp (bytes_in r) ≡ None → Done (fed_functions t r)
  no-records accepted none =
      runs-next (λ x now. (let m = reads-so x now in absurd (none-some _ (sym none ∙ m.told))))
      (unread-fed t r q w.has (is-off w) (is-unfollowed w) idle reads accepted none)

  module _ (accepted : answer_of r ≡ Accepted) (l : LwpStatus)
      (told : option_and_then status_lwp (bytes_in r) ≡ Some l) where
    -- it is that of the representative
    own-status : (x : TracedProcess) → live_process (later w) v.pid ≡ Some x
        → l ≡ status_of_found x (representative x)
    own-status x now = let m = reads-so x now in same_Some l _ (sym told ∙ m.told)

    -- a stop that stood before truss came
    waits-here : 0 < v.old → (x : TracedProcess) → live_process (later w) v.pid ≡ Some x
        → (v.marks.flags ≡ 0) × WaitsOut v.old x
    waits-here some x now = let m = reads-so x now in by m.stands
      where
        by : RestsSo v x → (v.marks.flags ≡ 0) × WaitsOut v.old x
        by (rests_new none stands) = absurd (omega (arith, none, some))
        by (rests_old flags more it) = (flags, it)

    old-on : 0 < v.old → (x : TracedProcess) → live_process (later w) v.pid ≡ Some x → is_on_event l ≡ true
    old-on some x now =
        let it = (waits-here some x now).1 in
        ap is_on_event (own-status x now) ∙ by (met_in x) refl it.count
      where
        by : (i : ℕ) → met_in x ≡ i → met_in x ≡ v.old
            → is_on_event (status_of_found x (representative x)) ≡ true
        by zero is counts = absurd (omega (arith, is, counts, some))
        by (suc i) is counts = met-on x (reads-so x now) i is

    old-goes : 0 < v.old → nat_lt 0 v.old ≡ true → (v.old == 0) ≡ false → Done (fed_functions t r)
    old-goes some less other = by (is_on_event l) refl
      where
        u : Traced
        u = record v { old = v.old - 1 }

        z : TrussState
        z = with_stage (with_traced t q u) (Running q)

        there : traced_at z q ≡ u
        there = set-at t.traced q u within

        by : (on : Bool) → is_on_event l ≡ on → Done (fed_functions t r)
        by false on =
            runs-next (λ x now. absurd (false≢true (sym on ∙ old-on some x now)))
            (off-fed t r q w.has (is-off w) (is-unfollowed w) idle l reads accepted told other on)
        by true on =
            subst Done (sym (old-fed t r q w.has (is-off w) idle reads accepted l told on less other))
            (but-one (later w) z q (λ place apart. ne_eqb q place (λ same. apart (sym same)))
            (fits-idle w z idle) (but-set X t.traced q u others)
            (subst IsClean (sym there)
            (let it = clean-here in record { unseen = it.unseen; flags = it.flags }))
            (λ x now.
            let it = waits-here some x (ap (λ (y : Traced). live_process (later w) y.pid) (sym there) ∙ now) in
            let at = it.1 in
            runs_so (own-place q)
            (runs_old idle refl (ap (λ (y : Traced). y.marks.flags) there ∙ it.0)
            (record {
              out = at.out;
              frozen = at.frozen;
              count = omega (arith, at.count, some, ap (λ (y : Traced). y.old) there);
            }))))

    stands-new : v.old ≡ 0 → (x : TracedProcess) → live_process (later w) v.pid ≡ Some x → CopiesStand v.marks x
    stands-new none x now = let m = reads-so x now in by m.stands
      where
        by : RestsSo v x → CopiesStand v.marks x
        by (rests_new zero_old stands) = stands
        by (rests_old flags more it) = absurd (omega (arith, none, more))

    -- a stop that is no event
    still-goes : v.old ≡ 0 → event_of l ≡ None → Done (fed_functions t r)
    unfolding is_on_event
    still-goes none no_event =
        runs-next (λ x now.
        treats v.marks TraceTrap none
        (done v.marks TraceTrap q v.marks (with_stage t (Running q))
        (record {
          follow = is-unfollowed w;
          off = is-off w;
          within = within;
          stage = own-place q;
          marks = refl;
          aside = idle;
        }) (trap-will t q (is-unfollowed w) (is-off w) within idle l v.marks.flags))
        (stands-new none x now) (let m = reads-so x now in m.few none)
        (inr (
          refl,
          none-met x (reads-so x now)
              (ap is_on_event (sym (own-status x now)) ∙ ap (λ e. is_some e) no_event),
        )))
        (still-fed t r q w.has (is-off w) idle reads accepted l told none
        (let it = clean-here in it.unseen) no_event)

    -- an event
    event-goes : v.old ≡ 0 → (e : Event) → event_of l ≡ Some e → fresh_event v l ≡ Some e → Done (fed_functions t r)
    unfolding is_on_event lwpstatus_of
    event-goes none e tells fresh =
        but-one (later w) z q (treats-about z.stage q treating.stage)
        (treats-fits v.marks fe q z treating)
        (subst (λ us. EachBut X us q) (sym traced) (but-set X t.traced q u others))
        (subst IsClean (sym there)
        (record {
          unseen = (let it = clean-here in it.unseen);
          flags = event-flags v.marks l fe (let it = clean-here in it.flags);
        }))
        (λ x now.
        let at : live_process (later w) v.pid ≡ Some x = ap (λ (y : Traced). live_process (later w) y.pid) (sym there)
        ∙ now in
        runs_so treating.stage
        (treats v.marks fe (ap (λ (y : Traced). y.old) there ∙ none) treating (stands-new none x at)
        (let m = reads-so x at in m.few none) (inl (met x at))))
      where
        fe : FunctionEvent
        fe = function_event t.options v.marks l.id e

        z : TrussState
        z = fed_functions t r

        u : Traced
        u = record v { marks = marks_then v.marks l fe }

        treating : Treats v.marks fe q z
        treating =
            read-treats t r q l e w.has (is-unfollowed w) (is-off w) within idle reads accepted told fresh

        traced : z.traced ≡ slice_set t.traced q u
        traced =
            ap (λ (y : TrussState). y.traced) (event-fed t r q w.has (is-off w) idle reads accepted l told e fresh)
            ∙ event-set t (is-off w) (is-unfollowed w) q l within none fe

        there : traced_at z q ≡ u
        there = ap (λ us. at_place us q) traced ∙ set-at t.traced q u within

        met : (x : TracedProcess) → live_process (later w) v.pid ≡ Some x → MetBy v.marks fe x
        met x at =
            let m = reads-so x at in
            let shown = shown-lwp x l e m.rises (sym (own-status x at)) tells in
            let fit = m.fit l.id shown.lwp shown.there in
            record {
              id = l.id;
              lwp = shown.lwp;
              there = shown.there;
              met = sym (on-where-met x l.id shown.lwp fit) ∙ ap is_on_event (sym shown.is)
                  ∙ ap (λ (o : Option Event). is_some o) tells;
              tells = tells-of x l.id shown.lwp t.options v.marks e (ap event_of (sym shown.is) ∙ tells) fit;
            }

    fresh-goes : Done (fed_functions t r)
    unfolding fresh_event
    fresh-goes = by v.old refl
      where
        event-by : v.old ≡ 0 → (e : Option Event) → event_of l ≡ e → Done (fed_functions t r)
        event-by none None tells = still-goes none tells
        event-by none (Some e) tells =
            event-goes none e tells
            (ap (λ i. cond (i == 0) (cond v.seen None (event_of l)) None) none
            ∙ ap (λ b. cond b None (event_of l)) (let it = clean-here in it.unseen) ∙ tells)

        by : (i : ℕ) → v.old ≡ i → Done (fed_functions t r)
        by zero is = event-by is (event_of l) refl
        by (suc i) is =
            let some : 0 < v.old = omega (arith, is) in
            old-goes some (lt-ltb 0 v.old some) (ne_eqb v.old 0 (λ none. absurd (omega (arith, is, none))))

  pub status-accepted : answer_of r ≡ Accepted → Done (fed_functions t r)
  status-accepted accepted = by (option_and_then status_lwp (bytes_in r)) refl
    where
      by : (l : Option LwpStatus) → option_and_then status_lwp (bytes_in r) ≡ l → Done (fed_functions t r)
      by None told = no-records accepted told
      by (Some l) told = fresh-goes accepted l told

  -- ---- a read that is refused

  status-reply : (told : Told) → answer_of r ≡ told
      → fed_functions t r ≡ with_function_status_answered t q r told
  unfolding with_function_reply
  status-reply told is_told =
      idle-fed t r q w.has (is-off w) (is-unfollowed w) idle ∙ ap (with_function_reply t r) reads
      ∙ ap (with_function_status_answered t q r) is_told

  -- of a process that lives none is
  never-refused : {A : Type 0} (x : TracedProcess) → live_process (later w) v.pid ≡ Some x → answer_of r ≢ Accepted → A
  never-refused x now other = let m = reads-so x now in absurd (other m.accepted)

  pub status-refused : (errno : Errno) → answer_of r ≡ Refused errno → Done (fed_functions t r)
  unfolding with_function_status_answered with_status_answered
  status-refused errno told =
      runs-next (λ x now. never-refused x now (λ e. let both : Refused errno ≡ Accepted = sym told ∙ e in cc))
      (status-reply (Refused errno) told ∙ over-runs t (is-off w) (is-unfollowed w) q)

  pub status-gone : answer_of r ≡ Gone → Done (fed_functions t r)
  unfolding with_function_status_answered with_status_answered
  status-gone told =
      subst Done (sym (status-reply Gone told))
      (but-one (later w) (with_closing t q) q (λ place other. ne_eqb q place (λ same. other (sym same)))
      (fits-idle w (with_closing t q) idle) others clean-here
      (λ x now. never-refused x now (λ e. let both : Gone ≡ Accepted = sym told ∙ e in cc)))

  -- ---- the end of a copy

  same-system : a.state.system ≡ s.system
  same-system =
      let h : So rests v = at-stage.1.0 q within in
      let held = h.holds in
      let known = held.known in
      ap (λ (u : TracedState). u.system)
      (looking-stays s k (read_record (Some known.number)) a refl
      (ap (answer_to s k) (sym (ap read_record known.is) ∙ sym is) ∙ w.given))

  -- a process of which a status came lives
  lives-here : answer_of r ≡ Accepted
      → (x : TracedProcess) × (live_process (later w) v.pid ≡ Some x)
  lives-here accepted = by (live_process s.system v.pid) refl
    where
      by : (x : Option TracedProcess) → live_process s.system v.pid ≡ x
          → (y : TracedProcess) × (live_process (later w) v.pid ≡ Some y)
      by (Some x) live = (x, ap (λ (u : TracedSystem). live_process u v.pid) same-system ∙ live)
      by None ended =
          let h : So rests v = at-stage.1.0 q within in
          let held = h.holds in
          let known = held.known in
          let sees =
          status-ended s k known.number (held_by k v.pid 0 file.Status Read) (held.its_status known.number known.is) a
          refl ended (ap (answer_to s k) (sym (ap read_record known.is) ∙ sym is) ∙ w.given) in
          absurd (apart (sym accepted ∙ sees.gone))
        where
          apart : Accepted ≡ Gone → ⊥
          apart e = cc

  -- where the status tells that the memory was replaced, all is lifted
  pub replaced-lifted : answer_of r ≡ Accepted → (l : LwpStatus)
      → option_and_then status_lwp (bytes_in r) ≡ Some l → (e : Event) → fresh_event v l ≡ Some e
      → function_event t.options v.marks l.id e ≡ Replaced → IsLifted v.marks
  unfolding lwpstatus_of
  replaced-lifted accepted l told e fresh replaced =
      let it = lives-here accepted in
      let m = reads-so it.0 it.1 in
      let none : v.old ≡ 0 = (let new_is = fresh-new v l e fresh in eqb-true v.old 0 new_is.new) in
      let same : l ≡ status_of_found it.0 (representative it.0) = same_Some l _ (sym told ∙ m.told) in
      let tells : event_of l ≡ Some e = fresh-stands v l e fresh in
      let shown = shown-lwp it.0 l e m.rises (sym same) tells in
      by it.0 m (stands-new accepted l told none it.0 it.1) same tells (representative it.0) refl
    where
      by : (x : TracedProcess) → ReadsSo k t s q r x → CopiesStand v.marks x
          → l ≡ status_of_found x (representative x) → event_of l ≡ Some e → (first : Option (ℕ × TracedLwp))
          → representative x ≡ first → IsLifted v.marks
      by x m stands same tells None leads =
          absurd (none-some e
          (sym (ap event_of (same ∙ ap (status_of_found x) leads) ∙ none-on) ∙ tells))
      by x m stands same tells (Some f) leads =
          let is_of : l ≡ lwpstatus_of x f.0 f.1 = same ∙ ap (status_of_found x) leads in
          let its_id : l.id ≡ f.0 = ap (λ (y : LwpStatus). y.id) is_of in
          let there = representative-stands x f m.rises leads in
          let its = tells-of x f.0 f.1 t.options v.marks e (ap event_of (sym is_of) ∙ tells) (m.fit f.0 f.1 there) in
          lifted-after x 0 f m.rises leads v.marks (function_event t.options v.marks f.0 e) its
          (ap (λ i. ends_copy (function_event t.options v.marks i e)) (sym its_id) ∙ ap ends_copy replaced) stands

  -- and the process of which it was read lives
  pub read-lives : answer_of r ≡ Accepted → (x : TracedProcess) × (live_process s.system v.pid ≡ Some x)
  read-lives accepted =
      let it = lives-here accepted in
      (it.0, ap (λ (u : TracedSystem). live_process u v.pid) (sym same-system) ∙ it.1)
