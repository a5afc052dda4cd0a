use Rattle.std.proofs.Common.{◌≡◌, ℕ, Bool, true, false, cond, Option, Some, None, IfSome, IfNone, IsSome, is_some, [], ◌∷◌, refl, sym, ap, ◌∙◌, subst}
use Rattle.std.proofs.lemmas.Option.{same_Some}
use Rattle.pr_num.specs.ById.{put_under, under}
use Rattle.pr_num.proofs.ByIdLaws.{change_under-change_under, put_under-found, put_under-same}
use Rattle.pr_num.specs.Spaces.{Space}
use Rattle.pr_num.specs.declared.signals.Sig.{Sig}
use Rattle.pr_model.specs.Changes.{all_changed, changed, ended, ends_process, space_is, takes_shared, job_stops, with_space, with_shared_taken, with_job_stop}
use Rattle.pr_model.specs.InstructionEffects.{InstructionEffect, instruction_effect, runs, calls, faults, runs_into_watch}
use Rattle.pr_model.specs.Lives.{with_ended, with_this_ended}
use Rattle.pr_model.specs.LwpTurns.{can_move, LwpTurn, may_turn, settled, turn_of, with_counted}
use Rattle.pr_model.specs.Machines.{traced}
use Rattle.pr_model.specs.Moves.{Move, moved, stays}
use Rattle.pr_model.specs.Points.{after_meeting, meets}
use Rattle.pr_model.specs.Rows.{Row, own_taken_row, shared_taken_row, executed_row, requested_row, posted_row, returned_row, ran_row, entered_row, incurred_row, watched_row, row_for}
use Rattle.pr_model.specs.State.{TracedLwp, TracedProcess, TracedSystem, live_process, lwp_of, process_of, with_lwp, with_lwp_of, with_process}
use Rattle.pr_model.specs.Transitions.{own_taken, shared_taken, dropped, job_stopped, after_transition, changing, ending, requested, posted, returned, ran, entered, incurred, trapped, stored_in}
use Rattle.pr_proc.specs.Counts.{AllUsedAtMost}
use Rattle.pr_turn.proofs.ChangeUsageLemmas.{AllUsedAtMost-transition}
use Rattle.pr_turn.specs.CallTurns.{Asks}
use Rattle.pr_turn.specs.Making.{ends, of_row, process_after, quiet}
use Rattle.pr_turn.specs.NextRows.{row_of, row_of_turn, turn_fits}
use Rattle.pr_turn.specs.Turns.{IsNext, TurnMakes}
use Rattle.pr_turn.specs.declared.making.Made.{Made}
use Rattle.pr_model.specs.declared.events.Did.{Did}
use Rattle.pr_turn.specs.declared.next.Next.{Next}
use Rattle.pr_turn.specs.declared.next.NextTurn.{NextTurn}
use Rattle.pr_turn.specs.declared.next.NextTurn.TheVariants.{Row as ThisRow}
use Rattle.pr_turn.specs.declared.next.Next.TheVariants.{Requested, Posted, Gave, Ends, Returned, Executed, TookOwn, TookShared, Dropped, JobStopped, Caught}
use Rattle.pr_model.proofs.StateLemmas.{live_process-found}

-- What a turn makes of the whole system.

-- ---- what is told of an answer

pub told-some : {X : Type 0} (P : X → Type 0) (o : Option X) (x : X) → o ≡ Some x → IfSome o P → P x
told-some P o x e told = subst (λ q. IfSome q P) e told

pub told-none : {X Q : Type 0} (o : Option X) → o ≡ None → IfNone o Q → Q
told-none None e told = told
told-none (Some x) e told = absurd (cc)

-- ---- who may have a turn

module _ (s : TracedSystem) (pid id : ℕ) where
  -- an lwp that can move stands in a live process
  pub can_move-live : can_move s pid id ≡ true → IsSome (live_process s pid)
  unfolding can_move
  can_move-live can =
      elim (live_process s pid) as (λ o. o ≡ live_process s pid → IsSome o)
      [ None ↦ λ e. absurd (let wrong : false ≡ true = rw (sym e) at can in cc) | Some p ↦ λ e. refl ] refl

  pub can_move-stands : (p : TracedProcess) → live_process s pid ≡ Some p → can_move s pid id ≡ true
      → IsSome (lwp_of p id)
  unfolding can_move
  can_move-stands p found can =
      elim (lwp_of p id) as (λ o. o ≡ lwp_of p id → IsSome o)
      [ None ↦ λ e. absurd (let wrong : false ≡ true = rw (found, sym e) at can in cc) | Some l ↦ λ e. refl ] refl

  pub can_move-may : (p : TracedProcess) (l : TracedLwp) → live_process s pid ≡ Some p → lwp_of p id ≡ Some l
      → can_move s pid id ≡ true → may_turn s pid p id l ≡ true
  unfolding can_move
  can_move-may p l found stands can = rw (found, stands) at can

  pub is-next : (p : TracedProcess) (l : TracedLwp) (next : NextTurn) → live_process s pid ≡ Some p
      → lwp_of p id ≡ Some l → can_move s pid id ≡ true → row_of_turn s pid p id l next ≡ row_for s pid p id l
      → turn_fits l next ≡ true → Asks s.clock pid id l next → IsNext s pid id next
  is-next p l next found stands can row room asks =
      record {
        process = p;
        lwp = l;
        found = found;
        stands = stands;
        may = can_move-may p l found stands can;
        fits =
            room;
        asks = asks;
        row = row;
      }

  -- so its process stands, and it in it
  pub can_move-found : can_move s pid id ≡ true → IsSome (under pid s.processes)
  can_move-found can =
      elim (live_process s pid) as (λ o. o ≡ live_process s pid → IsSome o → IsSome (under pid s.processes)) [
        | None ↦ λ e some. absurd (cc)
        | Some q ↦ λ e some. ap is_some (live_process-found s pid q (sym e))
      ] refl (can_move-live can)

  module _ (p : TracedProcess) (there : under pid s.processes ≡ Some p) (can : can_move s pid id ≡ true) where
    found-live : live_process s pid ≡ Some p
    found-live =
        elim (live_process s pid) as (λ o. o ≡ live_process s pid → IsSome o → live_process s pid ≡ Some p) [
          | None ↦ λ e some. absurd (cc)
          | Some q ↦ λ e some.
              let same : q ≡ p = same_Some q p (sym (live_process-found s pid q (sym e)) ∙ there) in
              sym e ∙ ap Some same
        ] refl (can_move-live can)

    pub can_move-there : IsSome (lwp_of p id)
    can_move-there = can_move-stands p found-live can

    -- one that has nothing else to do runs an instruction
    pub runs-next : ((l : TracedLwp) → lwp_of p id ≡ Some l → row_of p l Executed ≡ row_for s pid p id l)
        → IsNext s pid id (ThisRow Executed)
    runs-next rows =
        elim (lwp_of p id) as (λ o. o ≡ lwp_of p id → IsSome o → IsNext s pid id (ThisRow Executed)) [
          | None ↦ λ e some. absurd (cc)
          | Some l ↦ λ e some. is-next p l (ThisRow Executed) found-live (sym e) can (rows l (sym e)) refl tt
        ] refl can_move-there

pub ruleset turn_laws = (can_move-live, can_move-stands, is-next)

-- a process that came back as it was
pub put-same : (s : TracedSystem) (pid : ℕ) (p q : TracedProcess) → under pid s.processes ≡ Some p → q ≡ p
    → record s { processes = put_under pid q s.processes } ≡ s
put-same s pid p q there same =
    ap (λ ps. record s { processes = ps })
    (ap (λ r. put_under pid r s.processes) same ∙ put_under-same pid p s.processes there)

-- ---- the transition

module _ (s : TracedSystem) (pid : ℕ) (p : TracedProcess) (id : ℕ) (l : TracedLwp) where
  -- a move alone, and a move after a store
  after-move : (move : Move)
      → with_process pid (process_after id (changing [] move)) s
      ≡ after_transition traced pid p id l (changing [] move) s
  unfolding after_transition all_changed with_lwp_of process_after
  after-move move = refl

  after-store : (space : Space) (move : Move)
      → with_process pid (process_after id (changing (space_is space ∷ []) move)) s
      ≡ after_transition traced pid p id l (changing (space_is space ∷ []) move) s
  unfolding after_transition all_changed changed with_lwp_of with_process process_after
  after-store space move =
      ap (λ ps. record s { processes = ps })
      (sym (change_under-change_under pid (with_space space) (with_lwp id (moved traced move)) s.processes))

  after-shared : (g : Sig) (move : Move)
      → with_process pid (process_after id (changing (takes_shared g ∷ []) move)) s
      ≡ after_transition traced pid p id l (changing (takes_shared g ∷ []) move) s
  unfolding after_transition all_changed changed with_lwp_of with_process process_after
  after-shared g move =
      ap (λ ps. record s { processes = ps })
      (sym (change_under-change_under pid (with_shared_taken g) (with_lwp id (moved traced move)) s.processes))

  after-job_stop : (g : Sig) (move : Move)
      → with_process pid (process_after id (changing (job_stops g ∷ []) move)) s
      ≡ after_transition traced pid p id l (changing (job_stops g ∷ []) move) s
  unfolding after_transition all_changed changed with_lwp_of with_process process_after
  after-job_stop g move =
      ap (λ ps. record s { processes = ps })
      (sym (change_under-change_under pid (with_job_stop g) (with_lwp id (moved traced move)) s.processes))

  -- one of two rows
  either : (b : Bool) (x y : Row)
      → with_process pid (process_after id x.transition) s ≡ after_transition traced pid p id l x.transition s
      → with_process pid (process_after id y.transition) s ≡ after_transition traced pid p id l y.transition s
      → with_process pid (process_after id (cond b x y).transition) s
      ≡ after_transition traced pid p id l (cond b x y).transition s
  either true x y e f = e
  either false x y e f = f

  after-executed : (e : InstructionEffect)
      → with_process pid (process_after id (executed_row p l e).transition) s
      ≡ after_transition traced pid p id l (executed_row p l e).transition s
  unfolding executed_row ran_row entered_row incurred_row watched_row ran entered incurred trapped stored_in
  after-executed (runs regs None) = either l.control.step _ _ (after-move _) (after-move _)
  after-executed (runs regs (Some store)) = either l.control.step _ _ (after-store _ _) (after-store _ _)
  after-executed (calls call regs) = after-move _
  after-executed (faults f address) = after-move _
  after-executed (runs_into_watch address regs None) = after-move _
  after-executed (runs_into_watch address regs (Some store)) = after-store _ _

  -- what a row makes of its process, it makes of the system
  pub after-row : (next : Next) → ends next ≡ false
      → with_process pid (process_after id (row_of p l next).transition) s
      ≡ after_transition traced pid p id l (row_of p l next).transition s
  unfolding row_of requested_row posted_row returned_row requested posted returned trapped stored_in own_taken_row
      own_taken shared_taken_row shared_taken dropped job_stopped
  after-row Requested on = after-move _
  after-row (Posted f address) on = after-move _
  after-row (Gave woken call args result) on = after-move _
  after-row (Ends did status) on = absurd (cc)
  after-row (TookOwn g) on = after-move _
  after-row (TookShared g) on = after-shared g _
  after-row (Dropped g) on = after-move _
  after-row (JobStopped g) on = after-job_stop g _
  after-row (Caught c handler) on = after-move _
  after-row (Returned call) on = either l.control.step _ _ (after-move _) (after-move _)
  after-row Executed on = after-executed (instruction_effect p.space p.control.areas l.regs)

  -- an lwp that stays as it was leaves its system as it was
  stays-process : lwp_of p id ≡ Some l → with_lwp id (moved traced stays) p ≡ p
  unfolding with_lwp moved
  stays-process stands =
      ap (λ ls. record p { lwps = ls })
      (sym (put_under-found id (moved traced stays) l p.lwps stands) ∙ put_under-same id l p.lwps stands)

  stays-system : process_of s pid ≡ Some p → lwp_of p id ≡ Some l → with_lwp_of pid id (moved traced stays) s ≡ s
  unfolding with_lwp_of with_process
  stays-system there stands =
      ap (λ ps. record s { processes = ps })
      (sym (put_under-found pid (with_lwp id (moved traced stays)) p s.processes there)
      ∙ ap (λ q. put_under pid q s.processes) (stays-process stands) ∙ put_under-same pid p s.processes there)

  -- the end of the process
  pub after-end : (status : ℕ) → live_process s pid ≡ Some p → lwp_of p id ≡ Some l
      → with_ended traced pid status s ≡ after_transition traced pid p id l (ending (ends_process status)) s
  unfolding with_ended after_transition all_changed ended
  after-end status found stands =
      rw found
      (ap (λ t. with_this_ended traced pid p status t)
      (sym (stays-system (live_process-found s pid p found) stands)))

-- ---- the parts of a turn

module _ (s new : TracedSystem) (pid id : ℕ) (next : Next) where
  -- a row that does not end its process
  pub makes-row : (p p1 : TracedProcess) (did : Made) (stop : Bool) → IsNext s pid id (ThisRow next) → ends next ≡ false
      → under pid s.processes ≡ Some p
      → ((l : TracedLwp) → lwp_of p id ≡ Some l → p1 ≡ process_after id (row_of p l next).transition p)
      → ((l : TracedLwp) → lwp_of p id ≡ Some l → did ≡ of_row (row_of p l next))
      → ((l : TracedLwp) → lwp_of p id ≡ Some l → stop ≡ meets p.control (row_of p l next).point)
      → new ≡ record s { processes = put_under pid p1 s.processes } → TurnMakes s new pid id did stop
  unfolding with_process
  makes-row p p1 did stop is on there changes what traces e =
      let same : p ≡ is.process = same_Some p is.process (sym there ∙ live_process-found s pid is.process is.found) in
      let stands : lwp_of p id ≡ Some is.lwp = ap (λ q. lwp_of q id) same ∙ is.stands in
      let row : row_of p is.lwp next ≡ row_for s pid is.process id is.lwp =
      ap (λ q. row_of q is.lwp next) same ∙ is.row in
      let put : record s { processes = put_under pid p1 s.processes }
      ≡ with_process pid (process_after id (row_of p is.lwp next).transition) s =
      ap (λ q. record s { processes = put_under pid q s.processes }) (changes is.lwp stands)
      ∙ ap (λ ps. record s { processes = ps })
      (put_under-found pid (process_after id (row_of p is.lwp next).transition) p s.processes there)
      in
      let made : new ≡ after_transition traced pid p id is.lwp (row_of p is.lwp next).transition s =
      e ∙ put ∙ after-row s pid p id is.lwp next on in
      record {
        process = is.process;
        lwp = is.lwp;
        found = is.found;
        stands = is.stands;
        may = is.may;
        system =
            made ∙ ap (λ r. after_transition traced pid p id is.lwp r.transition s) row
            ∙ ap (λ q. after_transition traced pid q id is.lwp (row_for s pid is.process id is.lwp).transition s) same;
        what = what is.lwp stands ∙ ap of_row row;
        traces =
            traces is.lwp stands ∙ ap (λ r. meets p.control r.point) row
            ∙ ap (λ q. meets q.control (row_for s pid is.process id is.lwp).point) same;
      }

  -- one that ends it
  pub makes-end : (how : Did) (status : ℕ) (did : Made) → IsNext s pid id (ThisRow (Ends how status))
      → new ≡ with_ended traced pid status s → did ≡ quiet how → TurnMakes s new pid id did false
  unfolding row_of
  makes-end how status did is e what =
      let made : new ≡ after_transition traced pid is.process id is.lwp (ending (ends_process status)) s =
      e ∙ after-end s pid is.process id is.lwp status is.found is.stands in
      record {
        process = is.process;
        lwp = is.lwp;
        found = is.found;
        stands = is.stands;
        may = is.may;
        system = made ∙ ap (λ r. after_transition traced pid is.process id is.lwp r.transition s) is.row;
        what = what ∙ ap of_row is.row;
        traces = ap (λ r. meets is.process.control r.point) is.row;
      }

module _ (s : TracedSystem) (pid id : ℕ) (next : NextTurn) where
  -- the process and the lwp of a turn that is next stand
  pub next-found : IsNext s pid id next → IsSome (under pid s.processes)
  next-found is = ap is_some (live_process-found s pid is.process is.found)

  pub next-live : IsNext s pid id next → IsSome (live_process s pid)
  next-live is = ap is_some is.found

  pub next-stands : (p : TracedProcess) → IsNext s pid id next → under pid s.processes ≡ Some p → IsSome (lwp_of p id)
  next-stands p is there =
      let same : p ≡ is.process = same_Some p is.process (sym there ∙ live_process-found s pid is.process is.found) in
      ap is_some (ap (λ q. lwp_of q id) same ∙ is.stands)

  pub next-fits : (p : TracedProcess) (l : TracedLwp) → IsNext s pid id next → under pid s.processes ≡ Some p
      → lwp_of p id ≡ Some l → turn_fits l next ≡ true
  next-fits p l is there stands =
      let same : p ≡ is.process = same_Some p is.process (sym there ∙ live_process-found s pid is.process is.found) in
      let same_lwp : l ≡ is.lwp = same_Some l is.lwp (sym stands ∙ ap (λ q. lwp_of q id) same ∙ is.stands) in
      ap (λ x. turn_fits x next) same_lwp ∙ is.fits

pub ruleset next_laws = (next-found, next-live, next-stands, next-fits)

-- what bounds all counts of use goes on to bound them
pub makes-used : (n : ℕ) (s new : TracedSystem) (pid id : ℕ) (did : Made) (stop : Bool)
    → TurnMakes s new pid id did stop → AllUsedAtMost n s → AllUsedAtMost n new
makes-used n s new pid id did stop m h =
    subst (AllUsedAtMost n) (sym m.system)
    (AllUsedAtMost-transition n pid m.process id m.lwp (row_for s pid m.process id m.lwp).transition s h)

-- the turn
pub turn-made : (s new : TracedSystem) (pid id : ℕ) (did : Made) (stop : Bool) → TurnMakes s new pid id did stop
    → turn_of s pid id
    ≡ Some (record {
      system = with_process pid (after_meeting did.point id) (with_process pid (with_counted did.did did.begun) new);
      turned = record { did = did.did; stop = stop };
    })
unfolding turn_of settled
turn-made s new pid id did stop m =
    let row : Row = row_for s pid m.process id m.lwp in
    let after : TracedSystem = after_transition traced pid m.process id m.lwp row.transition s in
    let start : turn_of s pid id ≡ Some (settled s pid m.process id m.lwp row) = rw (m.found, m.stands, m.may) refl in
    start
    ∙ ap (λ (d : Made). Some (turn_with d after (meets m.process.control row.point))) (sym m.what)
    ∙ ap (λ x. Some (turn_with did x (meets m.process.control row.point))) (sym m.system)
    ∙ ap (λ b. Some (turn_with did new b)) (sym m.traces)
  where
    turn_with : Made → TracedSystem → Bool → LwpTurn
    turn_with d x b =
        record {
          system = with_process pid (after_meeting d.point id) (with_process pid (with_counted d.did d.begun) x);
          turned = record { did = d.did; stop = b };
        }

pub ruleset making_laws = (makes-row, makes-end, turn-made)
