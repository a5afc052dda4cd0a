use Rattle.std.proofs.Common.{◌≡◌, ◌≢◌, ◌==◌, ◌<◌, ◌+◌, ℕ, true, false, cond, None, Some, Option, List, [], ◌∷◌, Ok, refl, sym, subst, ap, ◌∙◌, arith, inl, inr}
use Rattle.std.proofs.lemmas.Bool.{cases_Bool, cases_eq, false≢true, ne_eqb}
use Rattle.std.proofs.lemmas.Option.{none-some, same_Some}
use Rattle.std.specs.Option.{option_and_then}
use Rattle.pr_parts.specs.FileCalls.{with_all_shared}
use Rattle.pr_lawful.proofs.LawfulTurns.EndLemmas.{found-live}
use Rattle.pr_lawful.proofs.Following.UseLemmas.{new-unopened}
use Rattle.pr_line.specs.Events.{event_of as event_shown}
use Rattle.pr_line.specs.declared.events.Event.TheVariants.{Left}
use Rattle.pr_line.specs.declared.options.Options.{Options}
use Rattle.pr_num.proofs.ByIdLaws.{under-change_under_other, under-inserted}
use Rattle.pr_num.specs.ById.{change_under}
use Rattle.pr_num.specs.Control.{async_mode, fork_mode, has_flags, klc_mode, rlc_mode}
use Rattle.pr_num.specs.Sets.{common_word, has_number, minus_word}
use Rattle.pr_num.specs.Syscalls.{is_fork_call, syscall_number}
use Rattle.pr_num.specs.declared.syscalls.Sysno.{Sysno}
use Rattle.pr_model.proofs.TurnLemmas.{turn-taken}
use Rattle.pr_model.specs.Changes.{all_changed, changed, forks}
use Rattle.pr_model.specs.Handles.{has_writer}
use Rattle.pr_model.specs.Lawful.{IsLawful, IsLawfulSystem}
use Rattle.pr_model.specs.Legal.{after}
use Rattle.pr_model.specs.Lives.{Birth, call_of, forked, forked_lwp, with_child, with_made, by_fork, by_vfork, lent_to}
use Rattle.pr_model.specs.LwpTurns.{LwpTurn, settled, turn_of, with_counted}
use Rattle.pr_model.specs.Machines.{birth_marks, birth_stop, child_control, no_marks, nothing_used, traced}
use Rattle.pr_model.specs.Moves.{moved}
use Rattle.pr_model.specs.Points.{after_meeting, meets}
use Rattle.pr_model.specs.Rows.{Row, row_for}
use Rattle.pr_model.specs.State.{TracedControl, TracedLwp, TracedProcess, TracedState, TracedSystem, live_process, lwp_of, process_of, with_lwp, with_lwp_of, with_process}
use Rattle.pr_model.specs.Statuses.{lwpstatus_of}
use Rattle.pr_model.specs.Transitions.{after_transition, ended_if}
use Rattle.pr_model.specs.declared.events.Entry.{Entry}
use Rattle.pr_model.specs.declared.events.Res.TheVariants.{Value}
use Rattle.pr_model.specs.declared.lwps.Phase.TheVariants.{Exiting}
use Rattle.pr_model.specs.declared.stops.Point.{Point}
use Rattle.pr_model.specs.declared.stops.Stop.{Stop}
use Rattle.pr_model.specs.declared.stops.Stop.TheVariants.{SysExit}
use Rattle.pr_truss.proofs.ForkLemmas.{with_forks-has}
use Rattle.pr_truss.specs.Messages.{ending_calls, traced_exits, with_forks}
use Rattle.pr_truss.specs.Trusses.{TrussState}
use Rattle.pr_truss_laws.proofs.EventStops.BridgeLemmas.{turn-tells}
use Rattle.pr_truss_laws.proofs.Machine.FrameLemmas.{was-made}
use Rattle.pr_truss_laws.proofs.EventStops.OwnTurnLemmas.{quiet-stays}
use Rattle.pr_truss_laws.proofs.EventStops.ToldLemmas.{exit-told}
use Rattle.pr_truss_laws.specs.Stills.{IsQuiet, IsUndisturbed, stands_still}
use Rattle.pr_truss_laws.specs.Told.{has_ended, told}
use Rattle.pr_report_laws.proofs.Machine.ForkRows.{MakesOne, birth-makes, row-makes, told-made}
use Rattle.pr_report_laws.proofs.Machine.NewBorn.{IsLeftTo, IsNew, IsNewBorn, stands_new}
use Rattle.pr_report_laws.proofs.Machine.OwnTurnLaws as own
use Rattle.pr_report_laws.proofs.Machine.OwnTurnLaws.{AfterTurn, quiet-turn}
use Rattle.pr_report_laws.proofs.Machine.TurnEvents.{state-after}
use Rattle.pr_report_laws.proofs.Machine.StayingLwps.{live-by}
use Rattle.pr_report_laws.proofs.Machine.StoppedLaws.{count-cons}
use Rattle.pr_report_laws.proofs.Machine.TracedPoints.{fit-row, picks-traced, traced-picked}
use Rattle.pr_report_laws.specs.Reads.{traces}
use Rattle.pr_report_laws.specs.Births.{child_made}
use Rattle.pr_reached.specs.Fits.{IsFitSystem}
use Rattle.pr_report_laws.specs.Shown.{LwpEvent}
use Rattle.pr_report_laws.proofs.Invariant.Positions.{HasEvent, IsTracedBy, has_met, is_met_if}

-- A process that truss traces makes a child: the child stands at its birth.

-- an lwp of a process stands at the exit of the call that made this child
pub record HasForked (p : TracedProcess) (c : ℕ) : Type 0 where
  pub id : ℕ
  pub lwp : TracedLwp
  pub there : lwp_of p id ≡ Some lwp
  pub call : Sysno
  pub makes : is_fork_call call ≡ true
  pub stop : lwp.control.stop ≡ Some (SysExit call)
  pub args : List ℕ
  pub phase : lwp.phase ≡ Exiting call args (Value c)

-- none does in a quiet process
pub quiet-forked : (p : TracedProcess) (c : ℕ) → IsQuiet p → HasForked p c → ⊥
quiet-forked p c quiet f =
    let none = quiet.each f.id f.lwp f.there in
    none-some (SysExit f.call) (sym none.no_stop ∙ f.stop)

-- what others do makes none
pub alone-forked : (p q : TracedProcess) (c : ℕ) → IsUndisturbed p q → HasForked q c → HasForked p c
alone-forked p q c alone f =
    let was = alone.each f.id f.lwp f.there in
    record {
      id = f.id;
      lwp = was.0;
      there = was.1.0;
      call = f.call;
      makes = f.makes;
      stop = sym (ap (λ (x : TracedLwp). x.control.stop) was.1.1) ∙ f.stop;
      args = f.args;
      phase = sym (ap (λ (x : TracedLwp). x.phase) was.1.1) ∙ f.phase;
    }

-- ---- the child as it is made

not-async : has_flags fork_mode async_mode ≡ false
unfolding has_flags common_word
not-async = refl

not-klc : has_flags fork_mode klc_mode ≡ false
unfolding has_flags common_word
not-klc = refl

not-rlc : has_flags fork_mode rlc_mode ≡ false
unfolding has_flags common_word
not-rlc = refl

has-fork : has_flags fork_mode fork_mode ≡ true
unfolding has_flags common_word
has-fork = refl

module _ (o : Options) (birth : Birth) (pid : ℕ) (p : TracedProcess) (l : TracedLwp) (args : List ℕ) (clock : ℕ)
    (by : IsTracedBy o p) (flag : has_flags p.control.modes fork_mode ≡ true) (follow : o.follow ≡ true) where
  abbrev child : TracedProcess
  child = forked traced birth pid p l args clock

  abbrev child_lwp : TracedLwp
  child_lwp = forked_lwp traced birth args p.control l

  child-set : child.control ≡ record p.control { modes = fork_mode; areas = []; usage = nothing_used }
  unfolding forked traced child_control
  child-set = rw flag refl

  child-lwps : child.lwps ≡ (1, child_lwp) ∷ []
  unfolding forked
  child-lwps = refl

  -- the exit of each call that makes a child is traced
  traced-fork : (call : Sysno) → is_fork_call call ≡ true
      → has_number p.control.traced_exits (syscall_number call) ≡ true
  unfolding traced_exits
  traced-fork call makes =
      let others : ℕ = minus_word o.calls ending_calls in
      ap (λ w. has_number w (syscall_number call)) by.exits
      ∙ ap (λ b. has_number (cond b (with_forks others) others) (syscall_number call)) follow
      ∙ with_forks-has others call makes

  child-stop : child_lwp.control.stop ≡ Some (SysExit (call_of birth))
  unfolding forked_lwp traced birth_marks no_marks birth_stop
  child-stop = rw (flag, traced-fork (call_of birth) (birth-makes birth)) refl

  child-still : (id : ℕ) (x : TracedLwp) → lwp_of child id ≡ Some x → stands_still x ≡ true
  unfolding forked
  child-still id x there = elim (cases_Bool (1 == id)) [
    | inl one ↦
        let same : child_lwp ≡ x = same_Some _ x (sym (ap (λ b. cond b (Some child_lwp) None) one) ∙ there) in
        subst (λ y. stands_still y ≡ true) same (rw child-stop refl)
    | inr other ↦ absurd (none-some x (sym (ap (λ b. cond b (Some child_lwp) None) other) ∙ there))
  ]

  pub child-new : IsNew o child
  unfolding forked
  child-new = record {
    birth = record {
      traced = record {
        signals = ap (λ (c : TracedControl). c.traced_signals) child-set ∙ by.signals;
        faults = ap (λ (c : TracedControl). c.traced_faults) child-set ∙ by.faults;
        entries = ap (λ (c : TracedControl). c.traced_entries) child-set ∙ by.entries;
        exits = ap (λ (c : TracedControl). c.traced_exits) child-set ∙ by.exits;
        directs = ap (λ (c : TracedControl). has_flags c.modes async_mode) child-set ∙ not-async;
        spares = ap (λ (c : TracedControl). has_flags c.modes klc_mode) child-set ∙ not-klc;
        no_agent = refl;
      };
      waits = record {
        frozen = record { each = child-still };
        count =
            count-cons (λ (e : ℕ × TracedLwp). has_met e.1) (1, child_lwp) []
            ∙ ap (λ (x : Option Stop). cond (is_met_if x) 1 0 + 0) child-stop;
      };
    };
    follows = ap (λ (c : TracedControl). has_flags c.modes fork_mode) child-set ∙ has-fork;
    kept = ap (λ (c : TracedControl). has_flags c.modes rlc_mode) child-set ∙ not-rlc;
  }

-- ---- the system after the turn

module _ (s : TracedSystem) (pid : ℕ) (p : TracedProcess) (id : ℕ) (l : TracedLwp) (lawful : IsLawfulSystem s)
    (live : live_process s pid ≡ Some p) where
  abbrev row : Row
  row = row_for s pid p id l

  below : pid < s.made
  below = was-made pid s p lawful (found-live s pid p live).0

  apart : pid ≢ s.made
  apart same = absurd (omega (arith, below))

  changed-child : (birth : Birth) (args : List ℕ)
      → process_of (all_changed traced pid p id l (forks birth args ∷ []) s) s.made
      ≡ Some (forked traced birth pid p l args s.clock)
  unfolding all_changed changed with_child with_made with_process
  changed-child birth args = rw (ne_eqb s.made pid (λ same. apart (sym same))) (under birth)
    where
      shared : TracedSystem
      shared = record s { files = with_all_shared s.files p.fds }

      under : (birth : Birth)
          → process_of (with_child traced birth pid p l args s) s.made ≡ Some (forked traced birth pid p l args s.clock)
      under by_fork = under-inserted s.made (forked traced by_fork pid p l args s.clock) shared.processes
      under by_vfork =
          under-inserted s.made (forked traced by_vfork pid p l args s.clock)
          (change_under pid (lent_to s.made) shared.processes)

  pub child-found : (made : MakesOne row)
      → process_of (settled s pid p id l row).system s.made ≡ Some (forked traced made.birth pid p l made.args s.clock)
  unfolding settled with_process after_transition with_lwp_of
  child-found one =
      let made : TracedSystem = after_transition traced pid p id l row.transition s in
      let counted = with_counted row.did row.begun in
      let all : TracedSystem = all_changed traced pid p id l (forks one.birth one.args ∷ []) s in
      under-change_under_other pid s.made (after_meeting row.point id) apart (change_under pid counted made.processes)
      ∙ under-change_under_other pid s.made counted apart made.processes
      ∙ ap (λ e. process_of (ended_if traced pid p id l e (with_lwp_of pid id (moved traced row.transition.move)
      (all_changed traced pid p id l row.transition.changes s))) s.made) one.ending
      ∙ ap (λ cs. process_of (with_lwp_of pid id (moved traced row.transition.move)
      (all_changed traced pid p id l cs s)) s.made) one.changes
      ∙ under-change_under_other pid s.made (with_lwp id (moved traced row.transition.move)) apart all.processes
      ∙ changed-child one.birth one.args

-- ---- the turn of a quiet process

-- at the exit of such a call the status tells its child
made-told : (p : TracedProcess) (c : ℕ) (f : HasForked p c)
    → event_shown (lwpstatus_of p f.id f.lwp) ≡ Some (Left f.call f.args (Ok c))
made-told p c f = exit-told p f.id f.lwp f.call f.args (Value c) f.stop f.phase refl

module _ (o : Options) (s : TracedState) (pid id : ℕ) (p : TracedProcess) (t : LwpTurn) (lawful : IsLawful s)
    (fit : IsFitSystem s.system) (live : live_process s.system pid ≡ Some p) (by : IsTracedBy o p) (still : IsQuiet p)
    (turn : turn_of s.system pid id ≡ Some t) (q : TracedProcess) (later : live_process t.system pid ≡ Some q)
    (c : ℕ) (forks_it : HasForked q c) where
  -- the lwp whose turn it is stops
  stops : t.turned.stop ≡ true
  stops =
      elim (cases_Bool t.turned.stop) [
        | inl on ↦ on
        | inr off ↦ absurd
            (quiet-forked q c
            (quiet-stays s.system pid p id t lawful.system live still by.directs turn q later off) forks_it)
      ]

  own-lwp : forks_it.id ≡ id
  own-lwp = from (quiet-turn o (traces o) (picks-traced o) s pid id p t lawful.system fit live by still turn)
    where
      from : {sel : List LwpEvent} → AfterTurn o (traces o) pid id t.system sel → forks_it.id ≡ id
      from (own.goes_on r now quiet kept nothing) =
          absurd (quiet-forked q c (subst (λ (x : TracedProcess). IsQuiet x) (same_Some r q (sym now
          ∙ later)) quiet) forks_it)
      from (own.halts r ev now event kept one) =
          let has : HasEvent q id ev =
          subst (λ (x : TracedProcess). HasEvent x id ev) (same_Some r q (sym now ∙ later)) event in
          elim (cases_eq forks_it.id id) [
            | inl same ↦ same
            | inr other ↦ let held =
                has.others forks_it.id forks_it.lwp other forks_it.there in absurd (false≢true (sym held.met_nothing
                ∙ ap is_met_if forks_it.stop))
          ]
      from (own.over none nothing) = absurd (none-some q (sym none ∙ later))

  taken : (l : TracedLwp) × ((lwp_of p id ≡ Some l) × (t ≡ settled s.system pid p id l (row_for s.system pid p id l)))
  taken =
      let it = turn-taken s.system pid id t turn in
      let same : it.process ≡ p = same_Some it.process p (sym it.live ∙ live) in (
        it.lwp,
        (
          subst (λ (y : TracedProcess). lwp_of y id ≡ Some it.lwp) same it.there,
          it.is
              ∙ ap (λ (y : TracedProcess). settled s.system pid y id it.lwp (row_for s.system pid y id it.lwp)) same,
        ),
      )

  module _ (l : TracedLwp) (there : lwp_of p id ≡ Some l)
      (is : t ≡ settled s.system pid p id l (row_for s.system pid p id l)) where
    abbrev its_row : Row
    its_row = row_for s.system pid p id l

    did-is : t.turned.did ≡ its_row.did
    unfolding settled
    did-is = ap (λ (v : LwpTurn). v.turned.did) is

    not-ended : has_ended t.turned.did ≡ false
    unfolding settled
    not-ended = at its_row.point refl
      where
        at : (point : Option Point) → its_row.point ≡ point → has_ended t.turned.did ≡ false
        at None none =
            absurd (false≢true (sym (ap (meets p.control) none) ∙ ap (λ (v : LwpTurn). v.turned.stop) (sym is) ∙ stops))
        at (Some pt) met =
            let goes =
            fit-row s.system pid id p l (traces o) (traced-picked o p by (traces o) (picks-traced o)) fit live there in
            ap has_ended did-is ∙ goes.not_ended pt met

    made-it : child_made t.turned.did ≡ Some c
    made-it =
        let own_there : lwp_of q id ≡ Some forks_it.lwp = ap (lwp_of q) (sym own-lwp) ∙ forks_it.there in
        let tells =
        turn-tells s.system pid p id l lawful.system live there t turn stops not-ended q forks_it.lwp later own_there in
        let told_it : event_shown (lwpstatus_of q id forks_it.lwp) ≡ Some (Left forks_it.call forks_it.args (Ok c)) =
        ap (λ m. event_shown (lwpstatus_of q m forks_it.lwp)) (sym own-lwp) ∙ made-told q c forks_it in
        told-made p l (Some forks_it.lwp) t.turned.did forks_it.call forks_it.args c forks_it.makes
        (ap (option_and_then told) tells.logged ∙ sym tells.tells ∙ told_it)

    -- the child is the next process
    next-made : c ≡ s.system.made
    next-made = let m = row-makes s.system pid p id l in (m.child c (ap child_made (sym did-is) ∙ made-it)).0

    found : (made : MakesOne its_row)
        × (process_of t.system c ≡ Some (forked traced made.birth pid p l made.args s.system.clock))
    found =
        let m = row-makes s.system pid p id l in
        let f = m.child c (ap child_made (sym did-is) ∙ made-it) in (
          f.1,
          ap (process_of t.system) f.0 ∙ ap (λ (v : LwpTurn). process_of v.system s.system.made) is
              ∙ child-found s.system pid p id l lawful.system live f.1,
        )

  -- ---- what it made

  pub forked-did : child_made t.turned.did ≡ Some c
  forked-did = let w = taken in made-it w.0 w.1.0 w.1.1

  pub forked-next : c ≡ s.system.made
  forked-next = let w = taken in next-made w.0 w.1.0 w.1.1

  module _ (flag : has_flags p.control.modes fork_mode ≡ true) (follow : o.follow ≡ true) where
    born-new : (r : TracedProcess) → live_process t.system c ≡ Some r → IsNew o r
    unfolding forked
    born-new r now =
        let w = taken in
        let f = found w.0 w.1.0 w.1.1 in
        let one = f.0 in
        let x : TracedProcess = forked traced one.birth pid p w.0 one.args s.system.clock in
        subst (IsNew o) (same_Some x r (sym (live-by t.system c x f.1 refl) ∙ now))
        (child-new o one.birth pid p w.0 one.args s.system.clock by flag follow)

    -- A child that is made so is new, where the history leaves it to truss.
    pub forked-born : (k : ℕ) (u : TrussState) (h : List Entry) → IsLawfulSystem t.system → IsLeftTo k o c u h
        → IsNewBorn k o u (record s { system = t.system }) h c
    forked-born k u h after left =
        let w = taken in
        let f = found w.0 w.1.0 w.1.1 in
        let one = f.0 in
        record {
          made = was-made c t.system (forked traced one.birth pid p w.0 one.args s.system.clock) after f.1;
          now = stands_new (record {
            alone = ap (λ n. has_writer n s.opens) forked-next ∙ new-unopened s lawful;
            born = born-new;
            left = left;
          });
        }
