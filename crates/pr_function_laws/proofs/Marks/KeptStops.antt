use Rattle.std.proofs.Common.{◌≡◌, ◌<◌, ◌||◌, ℕ, Bool, true, false, cond, is_some, nat_lt, not, Option, Some, None, List, length, refl, sym, subst, ap, ◌∙◌, arith, ◌-◌}
use Rattle.std.proofs.lemmas.Bool.{eqb-true, ltb-true}
use Rattle.std.proofs.lemmas.List.{length-set}
use Rattle.std.specs.List.{slice_get, slice_set}
use Rattle.pr_line.specs.Events.{event_of}
use Rattle.pr_line.specs.Selections.{is_selected}
use Rattle.pr_line.specs.declared.events.Event.{Event}
use Rattle.pr_rec.specs.declared.lwps.LwpStatus.{LwpStatus}
use Rattle.pr_report_laws.proofs.Invariant.StandLemmas.{EachBut, but-set, each-but, each-set}
use Rattle.pr_truss.specs.Asides.{patching, with_aside, with_marks, with_patches}
use Rattle.pr_truss.specs.Closings.{polls_or_finished, with_closing, with_going_on, with_next_left, with_next_opening}
use Rattle.pr_truss.specs.FunctionEvents.{fresh_event}
use Rattle.pr_truss.specs.FunctionStops.{with_call_shown, with_copy_begun, with_copy_ended, with_fresh_event, with_function_event, with_function_stop, with_function_stop_read, with_memory_replaced, with_other_event, with_step_begun, with_step_completed, with_trap_over}
use Rattle.pr_truss.specs.Marks.{first_function}
use Rattle.pr_truss.specs.Records.{child_of, is_on_event}
use Rattle.pr_truss.specs.Stops.{asked_range, followed_child, with_child_or, with_event, with_event_over, with_event_shown, with_old_stop_over, with_stop, with_stop_over, with_text_or_shown}
use Rattle.pr_truss.specs.Trusses.{TrussState, opening_or, traced_at, with_report, with_stage, with_traced}
use Rattle.pr_truss.specs.declared.asides.Aside.{Aside}
use Rattle.pr_truss.specs.declared.asides.Aside.TheVariants.{Nothing, Patching}
use Rattle.pr_truss.specs.declared.function_events.FunctionEvent.{FunctionEvent}
use Rattle.pr_truss.specs.declared.function_events.FunctionEvent.TheVariants.{Other, AtBreakpoint, Completed, TraceTrap, BeforeCopy, AfterCopy, Replaced}
use Rattle.pr_truss.specs.declared.marks.Marks.{Marks}
use Rattle.pr_truss.specs.declared.processes.Traced.{Traced}
use Rattle.pr_truss.specs.declared.reports.Report.{Report}
use Rattle.pr_truss.specs.declared.stages.AfterClosing.TheVariants.{GoOn}
use Rattle.pr_truss.specs.declared.stages.Stage.{Stage}
use Rattle.pr_truss.specs.declared.stages.Stage.TheVariants.{Polling, ReadingText, Running, Closing, Finished}
use Rattle.pr_truss_laws.proofs.Files.HeldLemmas.{at_place, set-at}
use Rattle.pr_function_laws.proofs.CallTurns.TurnReads.{fresh-new}
use Rattle.pr_function_laws.proofs.Marks.KeptPlaces.{Apart, AtAside, AtPlace, AtStage, IsLastingWhere, Kept, Position, Whole, apart-set, closes, looks, rests, runs}

-- What is so of each process stays so where truss has looked at a stop, by what it does next: it runs the process,
-- reads memory, plants or lifts breakpoints, closes files, or goes on with its next process.

-- a stop that is new did not stand before truss came
none-old : (t : Traced) (l : LwpStatus) (e : Event) → fresh_event t l ≡ Some e → t.old ≡ 0
none-old t l e is = let new = fresh-new t l e is in eqb-true t.old 0 new.new

module _ (P : Position → Traced → Type 0) (Seen : Traced → Type 0) (Touched : ℕ → Type 0)
    (lasting : IsLastingWhere P Seen Touched) where
  -- all processes were opened whole, and nothing comes before the next call
  pub record Full (u : TrussState) : Type 0 where
    pub follow : u.options.follow ≡ false
    pub off : u.leaving ≡ false
    pub all : Whole P u.traced
    pub idle : u.aside ≡ Nothing
    pub apart : Apart u.traced

  pub record Base (q : ℕ) (u : TrussState) : Type 0 where
    pub full : Full u
    pub here : q < length u.traced
    pub sees : P looks (at_place u.traced q)
    pub touched : Touched (at_place u.traced q).pid

  pub record KeptAt (q : ℕ) (u : TrussState) : Type 0 where
    pub kept : Kept P u
    pub here : AtPlace P u.traced q

  place-of : (q : ℕ) (ts : List Traced) → Whole P ts → q < length ts → Touched (at_place ts q).pid → AtPlace P ts q
  place-of q ts all within touched =
      (within, (each-but (P rests) ts q all, lasting.may_close rests (at_place ts q) touched (all q within)))

  pub to : (u : TrussState) (stage : Stage) → Full u → AtStage P u.traced stage → Kept P (with_stage u stage)
  to u stage f is = record {
    follow = f.follow;
    off = f.off;
    stage = is;
    beside = subst (AtAside P u.traced) (sym f.idle) tt;
    apart = f.apart;
  }

  at : (q : ℕ) (u : TrussState) (stage : Stage) → Base q u → AtStage P u.traced stage → KeptAt q (with_stage u stage)
  at q u stage b is = record {
    kept = to u stage b.full is;
    here = place-of q u.traced b.full.all b.here b.touched;
  }

  pub told : (q : ℕ) (u : TrussState) (report : Report) → Base q u → Base q (with_report u report)
  told q u report b =
      let f = b.full in
      record {
        full = record { follow = f.follow; off = f.off; all = f.all; idle = f.idle; apart = f.apart };
        here = b.here;
        sees = b.sees;
        touched = b.touched;
      }

  -- the process there is another one with the same files
  set-base : (q : ℕ) (u : TrussState) (t : Traced) → P rests t → P looks t → t.pid ≡ (traced_at u q).pid → Base q u
      → Base q (with_traced u q t)
  set-base q u t has sees same b =
      let f = b.full in
      record {
        full = record {
          follow = f.follow;
          off = f.off;
          all =
              each-set (P rests) u.traced q t b.here (each-but (P rests) u.traced q f.all) has;
          idle = f.idle;
          apart = apart-set u.traced q t b.here same f.apart;
        };
        here = omega (arith, b.here, length-set u.traced q t);
        sees = subst (P looks) (sym (set-at u.traced q t b.here)) sees;
        touched =
            subst Touched (sym (ap (λ (x : Traced). x.pid) (set-at u.traced q t b.here) ∙ same)) b.touched;
      }

  -- a new stop was looked at
  marked-base : (q : ℕ) (u : TrussState) (m : Marks) → Seen (traced_at u q) → (traced_at u q).old ≡ 0 → Base q u
      → Base q (with_marks u q m)
  marked-base q u m seen new b =
      set-base q u (record (traced_at u q) { marks = m })
      (let f = b.full in lasting.meets (traced_at u q) m seen (f.all q b.here) new)
      (lasting.sees (traced_at u q) m b.sees) refl b

  either : (q : ℕ) (b : Bool) (u v : TrussState) → KeptAt q u → KeptAt q v → KeptAt q (cond b u v)
  either q true u v x y = x
  either q false u v x y = y

  stays : (q : ℕ) (s u v : TrussState) → s.leaving ≡ false → KeptAt q v → KeptAt q (cond s.leaving u v)
  stays q s u v off it = subst (KeptAt q) (sym (ap (λ b. cond b u v) off)) it

  off-at : (q : ℕ) (u : TrussState) → Base q u → u.leaving ≡ false
  off-at q u b = let f = b.full in f.off

  -- ---- stops

  run-place : (ts : List Traced) (q : ℕ) → Whole P ts → q < length ts → P looks (at_place ts q)
      → (q < length ts) × (EachBut (P rests) ts q × P runs (at_place ts q))
  run-place ts q all within sees =
      (within, (each-but (P rests) ts q all, lasting.may_run (at_place ts q) (all q within) sees))

  pub over-kept : (q : ℕ) (u : TrussState) → Base q u → KeptAt q (with_stop_over u q)
  unfolding with_stop_over
  over-kept q u b =
      stays q u _ _ (off-at q u b)
      (at q u (Running q) b (run-place u.traced q (let f = b.full in f.all) b.here b.sees))

  -- a stop that stood before truss came
  counted-kept : (q : ℕ) (u : TrussState) → 0 < (traced_at u q).old → Base q u → KeptAt q (with_old_stop_over u q)
  unfolding with_old_stop_over with_stop_over
  counted-kept q u some b =
      let f = b.full in
      let v : Traced = record (traced_at u q) { old = (traced_at u q).old - 1 } in
      let later : List Traced = slice_set u.traced q v in
      let has : P runs v = lasting.counts (traced_at u q) (f.all q b.here) b.sees some in
      let others : EachBut (P rests) later q = but-set (P rests) u.traced q v (each-but (P rests) u.traced q f.all) in
      let same : at_place later q ≡ v = set-at u.traced q v b.here in
      let inside : q < length later = omega (arith, b.here, length-set u.traced q v) in
      stays q u _ _ (off-at q u b) (record {
        kept = record {
          follow = f.follow;
          off = f.off;
          stage = (inside, (others, subst (P runs) (sym same) has));
          beside = subst (AtAside P later) (sym f.idle) tt;
          apart = apart-set u.traced q v b.here refl f.apart;
        };
        here = (inside, (others, subst (P closes) (sym same) (lasting.may_close runs v b.touched has)));
      })

  pub event-over-kept : (q : ℕ) (u : TrussState) (l : LwpStatus) → Base q u → KeptAt q (with_event_over u q l)
  unfolding with_event_over followed_child
  event-over-kept q u l b =
      subst (KeptAt q)
      (sym (ap (λ f. with_child_or u q (cond f (child_of l) None)) (let f = b.full in f.follow))) (over-kept q u b)

  shown-kept : (q : ℕ) (u : TrussState) (l : LwpStatus) (range : Option (ℕ × ℕ)) → Base q u
      → KeptAt q (with_text_or_shown u q l range)
  unfolding with_event_shown
  shown-kept q u l None b = event-over-kept q (with_event_shown u q l None) l (told q u _ b)
  shown-kept q u l (Some range) b =
      at q u (ReadingText q l range.0 range.1) b (b.here, (let f = b.full in f.all, b.sees))

  event-kept : (q : ℕ) (u : TrussState) (l : LwpStatus) (e : Option Event) → Base q u
      → KeptAt q (with_event u q l e)
  event-kept q u l None b = over-kept q u b
  event-kept q u l (Some e) b =
      either q (is_selected u.options e) _ _ (shown-kept q u l (asked_range u.options e) b) (event-over-kept q u l b)

  stop-kept : (q : ℕ) (u : TrussState) (l : LwpStatus) → Base q u → KeptAt q (with_stop u q l)
  unfolding with_stop
  stop-kept q u l b =
      either q (not (is_on_event l)) _ _ (over-kept q u b) (by (nat_lt 0 (traced_at u q).old) refl)
    where
      new : KeptAt q (cond (traced_at u q).seen (with_stop_over u q) (with_event u q l (event_of l)))
      new = either q (traced_at u q).seen _ _ (over-kept q u b) (event-kept q u l (event_of l) b)

      by : (some : Bool) → nat_lt 0 (traced_at u q).old ≡ some
          → KeptAt q
          (cond some (with_old_stop_over u q)
          (cond (traced_at u q).seen (with_stop_over u q) (with_event u q l (event_of l))))
      by true is = counted-kept q u (ltb-true 0 (traced_at u q).old is) b
      by false is = new

  -- ---- patches

  pub beside-kept : (q : ℕ) (u : TrussState) (a : Aside) → AtAside P u.traced a → KeptAt q u → KeptAt q (with_aside u a)
  beside-kept q u a is w =
      let v : Kept P u = w.kept in
      record {
        kept = record { follow = v.follow; off = v.off; stage = v.stage; beside = is; apart = v.apart };
        here = w.here;
      }

  pub patching-at : (q : ℕ) (ts : List Traced) (plants lifts : List Bool) → AtPlace P ts q
      → AtAside P ts (patching q plants lifts false)
  unfolding patching
  patching-at q ts plants lifts here = by (is_some (first_function plants)) (is_some (first_function lifts)) refl refl
    where
      by : (a b : Bool) → is_some (first_function plants) ≡ a → is_some (first_function lifts) ≡ b
          → AtAside P ts (cond (a || b || false) (Patching q plants lifts false) Nothing)
      by true b p l = (here, (ap (λ x. x || is_some (first_function lifts)) p, refl))
      by false true p l =
          (here, (ap (λ x. is_some (first_function plants) || x) l ∙ ap (λ x. x || true) p, refl))
      by false false p l = tt

  patched : (q : ℕ) (u : TrussState) (plants lifts : List Bool) → KeptAt q u
      → KeptAt q (with_patches u q plants lifts)
  unfolding with_patches
  patched q u plants lifts w = beside-kept q u _ (patching-at q u.traced plants lifts w.here) w

  -- ---- stops with breakpoints

  function-kept : (q : ℕ) (u : TrussState) (l : LwpStatus) (e : FunctionEvent) → Seen (traced_at u q)
      → (traced_at u q).old ≡ 0 → Base q u → KeptAt q (with_function_event u q l e)
  unfolding with_function_event with_step_begun with_step_completed with_trap_over with_copy_begun with_copy_ended
      with_other_event with_memory_replaced with_call_shown
  function-kept q u l (AtBreakpoint function) seen new b =
      patched q _ _ _ (over-kept q _ (marked-base q u _ seen new b))
  function-kept q u l (Completed step) seen new b =
      patched q _ _ _ (over-kept q _ (told q _ _ (marked-base q u _ seen new b)))
  function-kept q u l TraceTrap seen new b = over-kept q _ (marked-base q u _ seen new b)
  function-kept q u l BeforeCopy seen new b = patched q _ _ _ (stop-kept q _ l (marked-base q u _ seen new b))
  function-kept q u l AfterCopy seen new b = patched q _ _ _ (stop-kept q _ l (marked-base q u _ seen new b))
  function-kept q u l Replaced seen new b = stop-kept q _ l (marked-base q u _ seen new b)
  function-kept q u l Other seen new b = patched q _ _ _ (stop-kept q _ l (marked-base q u _ seen new b))

  fresh-kept : (q : ℕ) (u : TrussState) (l : LwpStatus) (e : Option Event) → fresh_event (traced_at u q) l ≡ e
      → Seen (traced_at u q) → Base q u → KeptAt q (with_fresh_event u q l e)
  fresh-kept q u l None is seen b = stays q u _ _ (off-at q u b) (stop-kept q u l b)
  fresh-kept q u l (Some e) is seen b =
      stays q u _ _ (off-at q u b) (function-kept q u l _ seen (none-old (traced_at u q) l e is) b)

  pub read-kept : (q : ℕ) (u : TrussState) (l : Option LwpStatus) → Seen (traced_at u q) → Base q u
      → KeptAt q (with_function_stop_read u q l)
  unfolding with_function_stop
  read-kept q u None seen b = stays q u _ _ (off-at q u b) (over-kept q u b)
  read-kept q u (Some l) seen b = fresh-kept q u l (fresh_event (traced_at u q) l) refl seen b

  -- ---- closing, and when nothing is to be done for a process

  pub closing-kept : (q : ℕ) (u : TrussState) → Base q u → KeptAt q (with_closing u q)
  closing-kept q u b = at q u (Closing q GoOn) b (place-of q u.traced (let f = b.full in f.all) b.here b.touched)

  polls-kept : (u : TrussState) (t : Option Traced) → Full u → Kept P (polls_or_finished u t)
  polls-kept u None f = to u Finished f f.all
  polls-kept u (Some t) f = to u Polling f f.all

  pub going-kept : (u : TrussState) → Full u → Kept P (with_going_on u)
  unfolding with_going_on
  going-kept u f =
      subst (Kept P) (sym (ap (λ b. cond b (with_next_left u) (polls_or_finished u (slice_get u.traced 0))) f.off))
      (polls-kept u (slice_get u.traced 0) f)

  next-kept : (u : TrussState) (pid : Option ℕ) → Full u → Kept P (opening_or u (with_going_on u) pid)
  next-kept u None f = going-kept u f
  next-kept u (Some pid) f = record {
    follow = f.follow;
    off = f.off;
    stage = f.all;
    beside = subst (AtAside P u.traced) (sym f.idle) tt;
    apart = f.apart;
  }

  pub opening-kept : (u : TrussState) → Full u → Kept P (with_next_opening u)
  unfolding with_next_opening
  opening-kept u f = next-kept u (slice_get u.options.pids u.begun) f
