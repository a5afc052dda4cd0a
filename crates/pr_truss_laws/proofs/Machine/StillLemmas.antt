use Rattle.std.proofs.Common.{◌≡◌, ◌==◌, ◌||◌, ℕ, Bool, true, false, not, cond, None, Some, Option, refl, sym, subst, ap, ◌∙◌, inl, inr}
use Rattle.std.proofs.lemmas.Bool.{false≢true, cases_Bool, eqb-true, eqb-false}
use Rattle.std.proofs.lemmas.Option.{same_Some, none-some}
use Rattle.std.specs.Option.{option_and_then, option_map}
use Rattle.pr_num.proofs.ByIdLaws.{under-change_under, under-change_under_other}
use Rattle.pr_num.specs.ById.{change_under, under}
use Rattle.pr_lawful.proofs.LawfulTurns.EndLemmas.{found-live}
use Rattle.pr_model.specs.Changes.{all_changed}
use Rattle.pr_model.specs.LwpTurns.{LwpTurn, can_move, is_held_back, may_turn, may_turn_in, may_turn_of, settled, turn_of, turn_of_lwp, turn_of_process, with_counted}
use Rattle.pr_model.specs.Machines.{stopped_as_directed, traced}
use Rattle.pr_model.specs.Moves.{moved}
use Rattle.pr_model.specs.Points.{after_meeting}
use Rattle.pr_model.specs.Rows.{requested_row, row_for}
use Rattle.pr_model.specs.State.{TracedLwp, TracedProcess, TracedSystem, if_live, live_process, lwp_of, with_lwp, with_lwp_of, with_process}
use Rattle.pr_model.specs.Stops.{has_event_stop}
use Rattle.pr_model.specs.Transitions.{after_transition, requested}
use Rattle.pr_model.specs.declared.events.Did.TheVariants.{Stopped}
use Rattle.pr_truss_laws.specs.Stills.{IsFrozen, IsHalting, stands_still, stopped_lwp, will_stop, with_lwp_stopped}

-- A process that stands still stays so.

-- ---- who stands still has no turn

or-left : (a b : Bool) → a ≡ true → (a || b) ≡ true
or-left true b is = refl
or-left false b is = cc

or-middle : (a b c : Bool) → (a || b) ≡ true → (a || (b || c)) ≡ true
or-middle true b c is = refl
or-middle false true c is = refl
or-middle false false c is = cc

still-held : (p : TracedProcess) (id : ℕ) (l : TracedLwp) → stands_still l ≡ true → is_held_back p id l ≡ true
unfolding is_held_back
still-held p id l still = or-middle (has_event_stop l) l.suspended _ still

still-waits : (s : TracedSystem) (pid : ℕ) (p : TracedProcess) (id : ℕ) (l : TracedLwp) → stands_still l ≡ true
    → may_turn s pid p id l ≡ false
unfolding may_turn
still-waits s pid p id l still = rw (still-held p id l still) refl

module _ (s : TracedSystem) (pid : ℕ) (p : TracedProcess) (live : live_process s pid ≡ Some p)
    (frozen : IsFrozen p) where
  no-move-in : (id : ℕ) (o : Option TracedLwp) → lwp_of p id ≡ o → may_turn_in s pid id p o ≡ false
  no-move-in id None there = refl
  no-move-in id (Some l) there = still-waits s pid p id l (frozen.each id l there)

  pub frozen-moves : (id : ℕ) → can_move s pid id ≡ false
  unfolding can_move
  frozen-moves id = ap (may_turn_of s pid id) live ∙ no-move-in id (lwp_of p id) refl

  no-turn-in : (id : ℕ) (o : Option TracedLwp) → lwp_of p id ≡ o → turn_of_lwp s pid id p o ≡ None
  no-turn-in id None there = refl
  no-turn-in id (Some l) there = rw (still-waits s pid p id l (frozen.each id l there)) refl

  pub frozen-turns : (id : ℕ) → turn_of s pid id ≡ None
  unfolding turn_of
  frozen-turns id = ap (turn_of_process s pid id) live ∙ no-turn-in id (lwp_of p id) refl

-- ---- who is directed only stops

pub if-live-none : (q : TracedProcess) → q.ended ≡ None → if_live q ≡ Some q
if-live-none q is = rw is refl

-- a live process that is changed under its id
pub live-changed : (s : TracedSystem) (pid : ℕ) (f : TracedProcess → TracedProcess) (p : TracedProcess)
    → live_process s pid ≡ Some p → (f p).ended ≡ p.ended → live_process (with_process pid f s) pid ≡ Some (f p)
unfolding live_process with_process
live-changed s pid f p live same =
    let found = found-live s pid p live in
    ap (option_and_then if_live) (under-change_under pid f s.processes ∙ ap (option_map f) found.0)
    ∙ if-live-none (f p) (same ∙ found.1)

pub row-directed : (s : TracedSystem) (pid : ℕ) (p : TracedProcess) (id : ℕ) (l : TracedLwp)
    → l.control.directed ≡ true → row_for s pid p id l ≡ requested_row
unfolding row_for
row-directed s pid p id l is = rw is refl

-- an lwp that may have a turn where all stand still or are directed is directed
must-be-directed : (a b : Bool) → (a || b) ≡ true → a ≡ false → b ≡ true
must-be-directed true b is not_a = cc
must-be-directed false b is not_a = is

may-not-still : (s : TracedSystem) (pid : ℕ) (p : TracedProcess) (id : ℕ) (l : TracedLwp)
    → may_turn s pid p id l ≡ true → stands_still l ≡ false
may-not-still s pid p id l may =
    elim (cases_Bool (stands_still l)) [
      | inl still ↦ absurd (false≢true (sym (still-waits s pid p id l still)
          ∙ may))
      | inr not ↦ not
    ]

-- what the turn of a directed lwp makes of the system
pub stop-settled : (s : TracedSystem) (pid : ℕ) (p : TracedProcess) (id : ℕ) (l : TracedLwp)
    → settled s pid p id l requested_row ≡ record {
      system =
          with_process pid (after_meeting None id)
          (with_process pid (with_counted Stopped false) (with_lwp_of pid id stopped_lwp s));
      turned = record { did = Stopped; stop = false };
    }
unfolding settled requested_row after_transition requested moved all_changed traced
stop-settled s pid p id l = refl

module _ (s : TracedSystem) (pid : ℕ) (p : TracedProcess) (live : live_process s pid ≡ Some p) where
  pub stopped-live : (id : ℕ)
      → live_process
      (with_process pid (after_meeting None id)
      (with_process pid (with_counted Stopped false) (with_lwp_of pid id stopped_lwp s))) pid ≡ Some
      (with_lwp_stopped id p)
  unfolding with_lwp_of with_lwp with_counted after_meeting
  stopped-live id =
      let one = live-changed s pid (with_lwp id stopped_lwp) p live refl in
      let two =
      live-changed (with_process pid (with_lwp id stopped_lwp) s) pid (with_counted Stopped false)
      (with_lwp id stopped_lwp p) one refl in
      live-changed (with_process pid (with_counted Stopped false) (with_process pid (with_lwp id stopped_lwp) s)) pid
      (after_meeting None id) (with_counted Stopped false (with_lwp id stopped_lwp p)) two refl

  stopped-lwps : (id : ℕ) → (with_lwp_stopped id p).lwps ≡ change_under id stopped_lwp p.lwps
  unfolding with_lwp with_counted
  stopped-lwps id = refl

  stopped-stops : (l : TracedLwp) → will_stop (stopped_lwp l) ≡ true
  unfolding stopped_as_directed
  stopped-stops l = refl

  stopped-halting : (id : ℕ) → IsHalting p → IsHalting (with_lwp_stopped id p)
  stopped-halting id h =
      record {
        each = λ other l there. elim
            (cases_Bool (id == other)) [
              | inl same ↦ own other l (eqb-true id other same) there
              | inr not ↦ h.each other l
                  (sym (ap (under other) (stopped-lwps id)
                  ∙ under-change_under_other id other stopped_lwp (eqb-false id other not) p.lwps) ∙ there)
            ];
      }
    where
      mapped : (o : Option TracedLwp) (l : TracedLwp) → option_map stopped_lwp o ≡ Some l → will_stop l ≡ true
      mapped None l is = absurd (none-some l is)
      mapped (Some x) l is = subst (λ y. will_stop y ≡ true) (same_Some (stopped_lwp x) l is) (stopped-stops x)

      own : (other : ℕ) (l : TracedLwp) → id ≡ other → lwp_of (with_lwp_stopped id p) other ≡ Some l
          → will_stop l ≡ true
      own other l same there =
          mapped (lwp_of p id) l (sym (under-change_under id stopped_lwp p.lwps)
          ∙ ap (under id) (sym (stopped-lwps id))
          ∙ subst (λ n. lwp_of (with_lwp_stopped id p) n ≡ Some l) (sym same) there)

  module _ (halting : IsHalting p) (id : ℕ) (t : LwpTurn) where
    halting-row : (l : TracedLwp) → lwp_of p id ≡ Some l → may_turn s pid p id l ≡ true
        → row_for s pid p id l ≡ requested_row
    halting-row l there may =
        row-directed s pid p id l
        (must-be-directed (stands_still l) l.control.directed (halting.each id l there)
        (may-not-still s pid p id l may))

    by-test : (l : TracedLwp) → lwp_of p id ≡ Some l → (b : Bool) → may_turn s pid p id l ≡ b
        → cond b (Some (settled s pid p id l (row_for s pid p id l))) None ≡ Some t
        → t ≡ settled s pid p id l requested_row
    by-test l there true may is = sym (same_Some _ _ is) ∙ ap (settled s pid p id l) (halting-row l there may)
    by-test l there false may is = absurd (none-some t is)

    by-lwp : (o : Option TracedLwp) → lwp_of p id ≡ o → turn_of_lwp s pid id p o ≡ Some t
        → (l : TracedLwp) × (t ≡ settled s pid p id l requested_row)
    by-lwp None there is = absurd (none-some t is)
    by-lwp (Some l) there is = (l, by-test l there (may_turn s pid p id l) refl is)

    halting-turn : turn_of s pid id ≡ Some t → t ≡ record {
      system =
          with_process pid (after_meeting None id)
          (with_process pid (with_counted Stopped false) (with_lwp_of pid id stopped_lwp s));
      turned = record { did = Stopped; stop = false };
    }
    unfolding turn_of
    halting-turn is =
        let its = by-lwp (lwp_of p id) refl (ap (turn_of_process s pid id) (sym live) ∙ is) in
        its.1 ∙ stop-settled s pid p id its.0

    pub halting-did : turn_of s pid id ≡ Some t → t.turned ≡ record { did = Stopped; stop = false }
    halting-did is = ap (λ (x : LwpTurn). x.turned) (halting-turn is)

    pub halting-leaves : turn_of s pid id ≡ Some t → live_process t.system pid ≡ Some (with_lwp_stopped id p)
    halting-leaves is = ap (λ (x : LwpTurn). live_process x.system pid) (halting-turn is) ∙ stopped-live id

    pub halting-stays : turn_of s pid id ≡ Some t → IsHalting (with_lwp_stopped id p)
    halting-stays is = stopped-halting id halting

pub ruleset stills = (frozen-moves, frozen-turns, halting-did, halting-leaves, halting-stays)
