use Rattle.std.proofs.Common.{◌≡◌, ℕ, Bool, true, false, cond, None, Some, Option, List, [], ◌∷◌, refl, sym, subst, ap, ◌∙◌, inl, inr}
use Rattle.std.proofs.lemmas.Bool.{false≢true, cases_Bool}
use Rattle.std.proofs.lemmas.Option.{same_Some, none-some}
use Rattle.std.specs.Option.{option_map}
use Rattle.pr_num.proofs.ByIdLaws.{under-change_under, under-map_each}
use Rattle.pr_num.specs.ById.{change_under, under}
use Rattle.pr_num.specs.Control.{async_mode, has_flags}
use Rattle.pr_num.specs.declared.signals.Sig.{Sig}
use Rattle.pr_lawful.proofs.LawfulTurns.EndLemmas.{found-live}
use Rattle.pr_lawful.proofs.LawfulTurns.SuitingLemmas.{SuitsTransition, is_stop}
use Rattle.pr_lawful.proofs.LawfulTurns.TurnLemmas.{acting, row-suits}
use Rattle.pr_model.specs.Changes.{Change, all_changed, changed, takes_shared, with_shared_taken}
use Rattle.pr_model.specs.Lawful.{IsLawfulSystem}
use Rattle.pr_model.specs.LwpTurns.{LwpTurn, settled, turn_of, with_counted}
use Rattle.pr_model.specs.Machines.{traced}
use Rattle.pr_model.specs.Moves.{moved}
use Rattle.pr_model.specs.Points.{after_meeting, is_traced, meets, stop_at, stopped_at, with_others_directed, with_stop_at}
use Rattle.pr_model.specs.Rows.{Row, requested_row, row_for}
use Rattle.pr_model.specs.State.{TracedLwp, TracedProcess, TracedSystem, live_process, lwp_of, process_of, with_lwp, with_lwp_of, with_process}
use Rattle.pr_model.specs.Stops.{directed, with_all_directed}
use Rattle.pr_model.specs.Transitions.{after_transition}
use Rattle.pr_model.specs.declared.stops.Point.{Point}
use Rattle.pr_truss_laws.proofs.EventStops.OwnTurnLemmas.{GoesOn, row-carries, traced-same}
use Rattle.pr_truss_laws.proofs.Machine.StillLemmas.{row-directed}
use Rattle.pr_truss_laws.proofs.EventStops.ToldLemmas.{MoveShows, KeepsDispositions, row-tells}
use Rattle.pr_truss_laws.specs.Told.{TellsItsEvent, has_ended}
use Rattle.pr_model.proofs.TurnLemmas.{turn-taken}

-- The status of an lwp right after the turn in which it stopped on an event tells that event: the turn as a whole.

-- ---- the lwp that met the point

pub mapped-some : {X Y : Type 0} (f : X → Y) (o : Option X) (y : Y) → option_map f o ≡ Some y
    → (x : X) × ((o ≡ Some x) × (f x ≡ y))
mapped-some f None y is = absurd (none-some y is)
mapped-some f (Some x) y is = (x, (refl, same_Some (f x) y is))

module _ (pt : Point) (id : ℕ) (x : TracedProcess) where
  met-lwps : (b : Bool) → has_flags x.control.modes async_mode ≡ b → (k : TracedLwp)
      → lwp_of (with_stop_at pt id x) id ≡ Some k → (y : TracedLwp) × ((lwp_of x id ≡ Some y) × (stopped_at pt y ≡ k))
  unfolding with_stop_at with_others_directed with_lwp with_all_directed directed stopped_at
  met-lwps true off k there =
      mapped-some (stopped_at pt) (lwp_of x id) k (sym (under-change_under id (stopped_at pt) x.lwps)
      ∙ (rw off at there))
  met-lwps false off k there =
      let m =
      mapped-some directed (option_map (stopped_at pt) (lwp_of x id)) k
      (ap (option_map directed) (sym (under-change_under id (stopped_at pt) x.lwps))
      ∙ sym (under-map_each id directed (change_under id (stopped_at pt) x.lwps)) ∙ (rw off at there)) in
      let n = mapped-some (stopped_at pt) (lwp_of x id) m.0 m.1.0 in
      (n.0, (n.1.0, sym (ap directed (sym n.1.1)) ∙ m.1.1))

  -- its process keeps its dispositions and whether it lives
  met-same : ((with_stop_at pt id x).dispositions ≡ x.dispositions) × ((with_stop_at pt id x).ended ≡ x.ended)
  unfolding with_stop_at with_others_directed with_lwp with_all_directed
  met-same = elim (has_flags x.control.modes async_mode) as
      (λ b. ((cond b (record x { lwps = change_under id (stopped_at pt) x.lwps })
      (with_all_directed
      (record x { lwps = change_under id (stopped_at pt) x.lwps }))).dispositions ≡ x.dispositions) ×
      ((cond b (record x { lwps = change_under id (stopped_at pt) x.lwps })
      (with_all_directed
      (record x { lwps = change_under id (stopped_at pt) x.lwps }))).ended ≡ x.ended)) [
        | true ↦
            (refl, refl)
        | false ↦ (refl, refl)
      ]

-- ---- a turn that met a point

module _ (s : TracedSystem) (pid : ℕ) (p : TracedProcess) (id : ℕ) (l : TracedLwp) (h : IsLawfulSystem s)
    (live : live_process s pid ≡ Some p) (there : lwp_of p id ≡ Some l) (row : Row)
    (suits : SuitsTransition s pid p id l row.transition) (pt : Point) (met : row.point ≡ Some pt)
    (not_stop : is_stop row.transition.move ≡ false) (ending : row.transition.ending ≡ None) where
  -- the process once its lwp has moved and the turn was counted
  abbrev pub gone_on : TracedProcess → TracedProcess
  gone_on x = with_counted row.did row.begun (with_lwp id (moved traced row.transition.move) x)

  made-is : after_transition traced pid p id l row.transition s ≡ with_process pid
      (with_lwp id (moved traced row.transition.move)) (all_changed traced pid p id l row.transition.changes s)
  unfolding after_transition with_lwp_of
  made-is = rw ending refl

  -- the process before the point is looked at, and what it was made of
  pub record Stages (q : TracedProcess) : Type 0 where
    pub before : TracedProcess
    pub found : process_of (all_changed traced pid p id l row.transition.changes s) pid ≡ Some before
    pub now : process_of
        (with_process pid (with_counted row.did row.begun)
        (after_transition traced pid p id l row.transition s)) pid ≡ Some (gone_on before)
    pub is : after_meeting row.point id (gone_on before) ≡ q

  stages : (q : TracedProcess) → process_of (settled s pid p id l row).system pid ≡ Some q → Stages q
  unfolding settled with_process
  stages q at =
      let made : TracedSystem = after_transition traced pid p id l row.transition s in
      let all : TracedSystem = all_changed traced pid p id l row.transition.changes s in
      let counted : TracedProcess → TracedProcess = with_counted row.did row.begun in
      let move : TracedProcess → TracedProcess = with_lwp id (moved traced row.transition.move) in
      let a =
      mapped-some (after_meeting row.point id) (under pid (change_under pid counted made.processes)) q
      (sym (under-change_under pid (after_meeting row.point id) (change_under pid counted made.processes))
      ∙ at) in
      let b =
      mapped-some counted (under pid made.processes) a.0 (sym (under-change_under pid counted made.processes)
      ∙ a.1.0) in
      let c =
      mapped-some move (under pid all.processes) b.0 (sym (under-change_under pid move all.processes)
      ∙ ap (λ (v : TracedSystem). process_of v pid) (sym made-is) ∙ b.1.0) in
      let x : counted (move c.0) ≡ a.0 = ap counted c.1.1 ∙ b.1.1 in
      record {
        before = c.0;
        found = c.1.0;
        now = a.1.0 ∙ ap (λ (y : TracedProcess). Some y) (sym x);
        is = ap (after_meeting row.point id) x ∙ a.1.1;
      }

  module _ (q : TracedProcess) (over : q.ended ≡ None) (st : Stages q) (stop : is_traced p.control pt ≡ true) where
    abbrev pub now_is : TracedProcess
    now_is = gone_on st.before

    q-by : after_meeting (Some pt) id now_is ≡ q
    q-by = ap (λ o. after_meeting o id now_is) (sym met) ∙ st.is

    lives-by : (b : Bool) → is_traced now_is.control pt ≡ b → after_meeting (Some pt) id now_is ≡ q
        → now_is.ended ≡ None
    unfolding after_meeting
    lives-by true is e =
        sym (met-same pt id now_is).1
        ∙ ap (λ (y : TracedProcess). y.ended) (ap (λ b. cond b (with_stop_at pt id now_is) now_is) (sym is) ∙ e)
        ∙ over
    lives-by false is e =
        ap (λ (y : TracedProcess). y.ended) (ap (λ b. cond b (with_stop_at pt id now_is) now_is) (sym is) ∙ e) ∙ over

    lives : now_is.ended ≡ None
    lives = lives-by (is_traced now_is.control pt) refl q-by

    went-on : GoesOn p now_is
    went-on =
        let c = row-carries pid p id l row s h not_stop suits in
        let a = c.from now_is st.now lives in
        let was = found-live s pid p live in
        subst (λ (y : TracedProcess). GoesOn y now_is) (same_Some a.0 p (sym a.1.0 ∙ was.0)) a.1.1

    is-met : is_traced now_is.control pt ≡ true
    is-met = traced-same p now_is went-on.settings pt ∙ stop

    q-stops : with_stop_at pt id now_is ≡ q
    unfolding after_meeting
    q-stops = ap (λ b. cond b (with_stop_at pt id now_is) now_is) (sym is-met) ∙ q-by

    -- ---- its lwp

    record Stopped (k : TracedLwp) : Type 0 where
      pub earlier : TracedLwp
      pub follows : MoveShows row.transition.move earlier k
      pub stopped : k.control.stop ≡ Some (stop_at pt)

    stopped-follows : (y : TracedLwp) → Stopped (stopped_at pt (moved traced row.transition.move y))
    unfolding stopped_at
    stopped-follows y = record {
      earlier = y;
      follows = record { phase_is = refl; regs_are = refl; current_is = refl };
      stopped = refl;
    }

    moved-lwp : (y : TracedLwp) → lwp_of now_is id ≡ Some y
        → (z : TracedLwp) × ((lwp_of st.before id ≡ Some z) × (moved traced row.transition.move z ≡ y))
    unfolding with_counted with_lwp
    moved-lwp y at =
        mapped-some (moved traced row.transition.move) (lwp_of st.before id) y
        (sym (under-change_under id (moved traced row.transition.move) st.before.lwps) ∙ at)

    lwp-stopped : (k : TracedLwp) → lwp_of q id ≡ Some k → Stopped k
    lwp-stopped k at =
        let m =
        met-lwps pt id now_is (has_flags now_is.control.modes async_mode) refl k
        (ap (λ (y : TracedProcess). lwp_of y id) q-stops ∙ at) in
        let n = moved-lwp m.0 m.1.0 in
        subst Stopped (ap (stopped_at pt) n.1.1 ∙ m.1.1) (stopped-follows n.0)

    -- ---- its dispositions

    same-dispositions : q.dispositions ≡ st.before.dispositions
    unfolding with_counted with_lwp
    same-dispositions = ap (λ (y : TracedProcess). y.dispositions) (sym q-stops) ∙ (met-same pt id now_is).0

    taken-found : (g : Sig) (b : TracedProcess)
        → process_of (all_changed traced pid p id l (takes_shared g ∷ []) s) pid ≡ Some b
        → b.dispositions ≡ p.dispositions
    unfolding all_changed changed with_process with_shared_taken
    taken-found g b at =
        let m =
        mapped-some (with_shared_taken g) (process_of s pid) b
        (sym (under-change_under pid (with_shared_taken g) s.processes) ∙ at) in
        let was = found-live s pid p live in
        ap (λ (y : TracedProcess). y.dispositions) (sym m.1.1)
        ∙ ap (λ (y : TracedProcess). y.dispositions) (same_Some m.0 p (sym m.1.0 ∙ was.0))

    kept-by : (cs : List Change) (b : TracedProcess) → process_of (all_changed traced pid p id l cs s) pid ≡ Some b
        → q.dispositions ≡ b.dispositions → KeepsDispositions cs p q
    unfolding all_changed
    kept-by [] b at same =
        let was = found-live s pid p live in
        same ∙ ap (λ (y : TracedProcess). y.dispositions) (same_Some b p (sym at ∙ was.0))
    kept-by (takes_shared g ∷ []) b at same = same ∙ taken-found g b at
    kept-by _ b at same = tt

-- ---- the turn

module _ (s : TracedSystem) (pid : ℕ) (p : TracedProcess) (id : ℕ) (l : TracedLwp) (h : IsLawfulSystem s)
    (live : live_process s pid ≡ Some p) (there : lwp_of p id ≡ Some l) where
  abbrev pub row : Row
  row = row_for s pid p id l

  suits-row : SuitsTransition s pid p id l row.transition
  suits-row = row-suits s pid p id l (acting s pid id p l h live there)

  self-kept : (cs : List Change) → KeepsDispositions cs p p
  self-kept [] = refl
  self-kept (takes_shared g ∷ []) = refl
  self-kept _ = tt

  -- a row that meets a point ends nothing
  ends-nothing : (pt : Point) → row.point ≡ Some pt → has_ended row.did ≡ false → row.transition.ending ≡ None
  unfolding stopped_at
  ends-nothing pt met lives =
      (row-tells p l s pid id pt l (stopped_at pt (moved traced row.transition.move l)) p id met
      (record { phase_is = refl; regs_are = refl; current_is = refl }) refl
      (self-kept row.transition.changes) lives).0

  no-point : row ≡ requested_row → row.point ≡ None
  unfolding requested_row
  no-point is = ap (λ (r : Row). r.point) is

  -- and does not stop as directed
  not-stop : (pt : Point) → row.point ≡ Some pt → is_stop row.transition.move ≡ false
  not-stop pt met =
      elim (cases_Bool (is_stop row.transition.move)) [
        | inl is ↦ absurd
            (none-some pt (sym (no-point (row-directed s pid p id l (suits-row.stop is).0))
            ∙ met))
        | inr not_stop ↦ not_stop
      ]

  met-tells : (pt : Point) → row.point ≡ Some pt → is_traced p.control pt ≡ true → has_ended row.did ≡ false
      → (q : TracedProcess) (k : TracedLwp) → live_process (settled s pid p id l row).system pid ≡ Some q
      → lwp_of q id ≡ Some k → TellsItsEvent p l row.did q id k
  met-tells pt met stop lives q k after at =
      let now = found-live (settled s pid p id l row).system pid q after in
      let not_stop = not-stop pt met in
      let ending = ends-nothing pt met lives in
      let st = stages s pid p id l h live there row suits-row pt met not_stop ending q now.0 in
      let k_is = lwp-stopped s pid p id l h live there row suits-row pt met not_stop ending q now.1 st stop k at in
      let kept =
      kept-by s pid p id l h live there row suits-row pt met not_stop ending q now.1 st stop row.transition.changes
      st.before st.found (same-dispositions s pid p id l h live there row suits-row pt met not_stop ending q now.1
      st stop) in
      (row-tells p l s pid id pt k_is.earlier k q id met k_is.follows k_is.stopped kept lives).1

  row-met : (o : Option Point) → row.point ≡ o → meets p.control o ≡ true → has_ended row.did ≡ false
      → (q : TracedProcess) (k : TracedLwp) → live_process (settled s pid p id l row).system pid ≡ Some q
      → lwp_of q id ≡ Some k → TellsItsEvent p l row.did q id k
  row-met None met stop lives q k after at = absurd (false≢true stop)
  row-met (Some pt) met stop lives q k after at = met-tells pt met stop lives q k after at

  settled-tells : (settled s pid p id l row).turned.stop ≡ true
      → has_ended (settled s pid p id l row).turned.did ≡ false → (q : TracedProcess) (k : TracedLwp)
      → live_process (settled s pid p id l row).system pid ≡ Some q → lwp_of q id ≡ Some k
      → TellsItsEvent p l (settled s pid p id l row).turned.did q id k
  unfolding settled
  settled-tells stop lives q k after at = row-met row.point refl stop lives q k after at

  pub turn-tells : (t : LwpTurn) → turn_of s pid id ≡ Some t → t.turned.stop ≡ true → has_ended t.turned.did ≡ false
      → (q : TracedProcess) (k : TracedLwp) → live_process t.system pid ≡ Some q → lwp_of q id ≡ Some k
      → TellsItsEvent p l t.turned.did q id k
  turn-tells t turn stop lives q k after at =
      let it = turn-taken s pid id t turn in
      let same : it.process ≡ p = same_Some it.process p (sym it.live ∙ live) in
      let own : it.lwp ≡ l =
      same_Some it.lwp l (sym (subst (λ (y : TracedProcess). lwp_of y id ≡ Some it.lwp) same it.there) ∙ there) in
      let is : t ≡ settled s pid p id l row =
      it.is ∙ ap (λ (y : TracedProcess). settled s pid y id it.lwp (row_for s pid y id it.lwp)) same
      ∙ ap (λ (m : TracedLwp). settled s pid p id m (row_for s pid p id m)) own in
      subst (λ (v : LwpTurn). TellsItsEvent p l v.turned.did q id k) (sym is)
      (settled-tells (ap (λ (v : LwpTurn). v.turned.stop) (sym is)
      ∙ stop) (ap (λ (v : LwpTurn). has_ended v.turned.did) (sym is)
      ∙ lives) q k (ap (λ (v : LwpTurn). live_process v.system pid) (sym is) ∙ after) at)

pub ruleset bridges = (turn-tells)
