use Rattle.std.proofs.Common.{◌≡◌, ◌≢◌, ◌||◌, ◌&&◌, ℕ, Bool, true, false, eqb, Option, Some, None, refl, sym, subst, ◌∙◌, ap}
use Rattle.std.specs.Option.{option_map}
use Rattle.pr_num.proofs.BoolLemmas.{or_false}
use Rattle.pr_model.proofs.TurnLemmas.{turn-taken}
use Rattle.pr_model.specs.Calls.{Answer, answer_to}
use Rattle.pr_model.specs.Lawful.{IsLawful, IsLawfulSystem}
use Rattle.pr_model.specs.Legal.{ticked}
use Rattle.pr_model.specs.Lives.{is_id}
use Rattle.pr_model.specs.LwpTurns.{LwpTurn, turn_of}
use Rattle.pr_model.specs.State.{TracedLwp, TracedProcess, TracedState, TracedSystem, live_process, lwp_of, process_of}
use Rattle.pr_model.specs.declared.calls.Call.{Call}
use Rattle.pr_model.specs.declared.calls.Call.TheVariants as calls
use Rattle.pr_lawful.proofs.LawfulStates.CallLemmas.{call-state}
use Rattle.pr_lawful.proofs.LawfulTurns.TurnLemmas.{turn-lawful}
use Rattle.pr_ready.specs.Around.{around_of, is_around, is_in_kin_of, kin, target_kin}
use Rattle.pr_ready.specs.Following.{around_call, around_lwp, made_by, target_in_process}
use Rattle.pr_ready.specs.Queues.{AreReady, is_movable}
use Rattle.pr_ready.specs.Ready.{ReadySets}
use Rattle.pr_ready.specs.Steps.{KeepsUp}
use Rattle.pr_ready_laws.specs.Left.{IsLeft}
use Rattle.pr_ready_laws.specs.Reach.{changes_files, reach_of, reaches_around}
use Rattle.pr_ready_laws.specs.Touched.{call_changes_files, call_touches, is_kin_of, is_made_by, is_near, is_with_kin, is_with_kin_of, target_in, target_of, turn_touches}
use Rattle.pr_ready_laws.proofs.CallLemmas.{call-leaves, tick-leaves}
use Rattle.pr_ready_laws.proofs.TurnLemmas.{turn-leaves}
use Rattle.pr_ready.proofs.StepLemmas.{follows-ready}

-- What is noted before a step are the processes that it touches.

kin-same : (o : Option TracedProcess) (other : ℕ) → is_in_kin_of (option_map kin o) other ≡ is_kin_of o other
kin-same None other = refl
kin-same (Some p) other = refl

target-same : (s : TracedSystem) (target : Option ℕ) (other : ℕ)
    → (is_id other target || is_in_kin_of (target_kin s target) other) ≡ is_with_kin_of s target other
unfolding is_with_kin
target-same s None other = refl
target-same s (Some n) other = ap (λ b. eqb n other || b) (kin-same (process_of s n) other)

around-same : (s : TracedSystem) (made : Option ℕ) (o : Option TracedProcess) (target : Option ℕ) (other : ℕ)
    → is_around (around_of s made o target) other
    ≡ (is_id other made || (is_kin_of o other || is_with_kin_of s target other))
unfolding is_around around_of
around-same s made o target other =
    ap (λ b. is_id other made || b)
    (ap (λ b. b || (is_id other target || is_in_kin_of (target_kin s target) other)) (kin-same o other)
    ∙ ap (λ b. is_kin_of o other || b) (target-same s target other))

-- ---- turns

module _ (s : TracedSystem) (pid id : ℕ) (p : TracedProcess) (l : TracedLwp) (live : live_process s pid ≡ Some p)
    (there : lwp_of p id ≡ Some l) where
  lwp-around : (other : ℕ) → is_around (around_lwp s pid id) other ≡ is_near s p l other
  unfolding around_lwp
  lwp-around other =
      around-same s (Some s.made) (live_process s pid) (target_in_process (live_process s pid) id) other
      ∙ rw (live, there) refl

pub turn-ready : (s : TracedSystem) (pid id : ℕ) (t : LwpTurn) (old new : ReadySets) → IsLawfulSystem s
    → turn_of s pid id ≡ Some t
    → KeepsUp
    (λ other. eqb pid other || (reaches_around (reach_of t.turned.did) && is_around (around_lwp s pid id) other))
    (changes_files (reach_of t.turned.did)) false (is_movable t.system) t.system old new → AreReady s old
    → AreReady t.system new
unfolding turn_touches
turn-ready s pid id t old new h turn follows before =
    let it = turn-taken s pid id t turn in
    follows-ready _ (changes_files (reach_of t.turned.did)) false s t.system old new (turn-lawful s pid id t h turn)
    follows before
    (λ other user spared. turn-leaves s other pid id t it.process it.lwp h user turn it.live it.there
    (subst (λ b. (eqb pid other || (reaches_around (reach_of t.turned.did) && b)) ≡ false)
    (lwp-around s pid id it.process it.lwp it.live it.there other) spared))

-- ---- calls

made-same : (s : TracedSystem) (c : Call) (other : ℕ) → is_id other (made_by s c) ≡ is_made_by s c other
made-same s (calls.Spawn name held) other = refl
made-same s _ other = refl

pub call-ready : (s : TracedState) (by : ℕ) (c : Call) (a : Answer) (old new : ReadySets) → IsLawful s
    → answer_to s by c ≡ Some a
    → KeepsUp (is_around (around_call s by c)) (call_changes_files c) false
    (is_movable a.state.system) a.state.system old
    new → AreReady s.system old → AreReady a.state.system new
unfolding call_touches around_call
call-ready s by c a old new h answer follows before =
    follows-ready (is_around (around_of s.system (made_by s.system c) None (target_of s by c))) (call_changes_files c)
    false s.system a.state.system old new (call-state s h by c a answer).system follows before
    (λ other user spared. call-leaves s other by c a user answer
    (sym (around-same s.system (made_by s.system c) None (target_of s by c) other
    ∙ ap (λ b. b || is_with_kin_of s.system (target_of s by c) other) (made-same s.system c other)) ∙ spared))

-- ---- the clock

pub tick-ready : (s : TracedSystem) (old new : ReadySets) → IsLawfulSystem (ticked s)
    → KeepsUp (λ other. false) false true (is_movable (ticked s)) (ticked s) old new → AreReady s old
    → AreReady (ticked s) new
tick-ready s old new h follows before =
    follows-ready (λ other. false) false true s (ticked s) old new h follows before
    (λ pid user spared. tick-leaves pid s)
