use Rattle.std.proofs.Common.{◌≡◌, ℕ, Bool, true, false, Some, refl, sym, subst, ◌∙◌}
use Rattle.std.specs.Option.{ForSome}
use Rattle.std.proofs.lemmas.Option.{same_Some}
use Rattle.pr_lwp.specs.declared.steps.Effect.{Effect}
use Rattle.pr_lwp.specs.declared.steps.Effect.TheVariants.{Ran, Sys, Fault}
use Rattle.pr_model.specs.LwpTurns.{can_move, with_counted}
use Rattle.pr_model.specs.Points.{after_meeting, meets}
use Rattle.pr_model.specs.State.{TracedLwp, TracedProcess, TracedSystem, live_process, lwp_of}
use Rattle.pr_model.specs.declared.events.Turned.{Turned}
use Rattle.pr_model.proofs.StateLemmas.{live_process-found}
use Rattle.pr_num.specs.ById.{put_under, under}
use Rattle.pr_parts.specs.PendingSignals.{pending_set}
use Rattle.pr_turn.proofs.NextLemmas.{runs-row}
use Rattle.pr_turn.proofs.SettleLemmas.{meets-row, turned-in}
use Rattle.pr_turn.proofs.TurnLemmas.{runs-next}
use Rattle.pr_turn.specs.Making.{made_by, of_row, process_after}
use Rattle.pr_turn.specs.NextRows.{row_of, runs_on}
use Rattle.pr_turn.specs.Turns.{IsNext, IsTurned, is_of_instruction}
use Rattle.pr_turn.specs.declared.next.Next.TheVariants.{Executed}
use Rattle.pr_turn.specs.declared.next.NextTurn.TheVariants.{Row as ThisRow}

-- The turn of an lwp that runs an instruction.

-- what one can have done
pub of-instruction : (e : Effect) → is_of_instruction (made_by e).did ≡ true
of-instruction Ran = refl
of-instruction (Sys call) = refl
of-instruction (Fault f address) = refl

module _ (s : TracedSystem) (pid id : ℕ) (p : TracedProcess) (there : under pid s.processes ≡ Some p) where
  -- what is so of the lwp in the process that stands is so of it in the live one
  pub rests-live : ForSome (lwp_of p id) (λ l. runs_on (pending_set p.pending) l ≡ false)
      → ForSome (live_process s pid) (λ q. ForSome (lwp_of q id) (λ l. runs_on (pending_set q.pending) l ≡ false))
  rests-live rests q live =
      let same : p ≡ q = same_Some p q (sym there ∙ live_process-found s pid q live) in
      subst (λ (x : TracedProcess). ForSome (lwp_of x id) (λ l. runs_on (pending_set x.pending) l ≡ false)) same rests

  -- it is the next one of an lwp that has nothing else to do
  pub instruction-next : can_move s pid id ≡ true
      → ((l : TracedLwp) → lwp_of p id ≡ Some l → runs_on (pending_set p.pending) l ≡ true)
      → IsNext s pid id (ThisRow Executed)
  instruction-next can on = runs-next s pid id p there can (λ l stands. runs-row s pid p id l (on l stands))

  module _ (p1 : TracedProcess) (is : IsNext s pid id (ThisRow Executed))
      (makes : (l : TracedLwp) → lwp_of p id ≡ Some l → p1 ≡ process_after id (row_of p l Executed).transition p)
      (e : Effect) (what : (l : TracedLwp) → lwp_of p id ≡ Some l → made_by e ≡ of_row (row_of p l Executed)) where
    -- it is told by what it came to
    pub turned-as : (new : TracedSystem) (p2 : TracedProcess) (turned : Turned)
        → p2 ≡ after_meeting (made_by e).point id (with_counted (made_by e).did (made_by e).begun p1)
        → turned ≡ record { did = (made_by e).did; stop = meets p1.control (made_by e).point }
        → new ≡ record s { processes = put_under pid p2 s.processes } → IsTurned s new pid id turned
    turned-as new p2 turned left told put =
        let stop : Bool = meets p1.control (made_by e).point in
        subst (IsTurned s new pid id) (sym told)
        (turned-in s pid id Executed p p1 is there makes new p2 (made_by e) stop refl what
        (λ l stands. meets-row p p1 id (row_of p l Executed) (made_by e) stop (makes l stands) (what l stands) refl)
        left put)
