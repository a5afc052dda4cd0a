use Rattle.std.proofs.Common.{◌≡◌, ◌⊎◌, ◌<◌, ◌||◌, ◌&&◌, ◌∙◌, ℕ, Bool, true, false, Option, Some, None, eqb, inl, inr, refl, subst, sym, arith}
use Rattle.std.specs.Prelude.{IfSome, IfNone}
use Rattle.std.proofs.lemmas.Bool.{cases_Bool, eq-eqb, eqb-true, true≢false}
use Rattle.pr_num.proofs.ByIdLaws.{All-under}
use Rattle.pr_num.specs.Limits.{process_limit}
use Rattle.pr_model.specs.Calls.{Answer, answer_to}
use Rattle.pr_model.specs.Lawful.{IsLawful, IsLawfulSystem, IsNumberedBelow}
use Rattle.pr_model.specs.LwpTurns.{LwpTurn, turn_of}
use Rattle.pr_model.specs.State.{TracedProcess, TracedState, TracedSystem, live_process}
use Rattle.pr_model.specs.declared.calls.Call.{Call}
use Rattle.pr_model.specs.declared.events.Did.{Did}
use Rattle.pr_model.specs.declared.events.Did.TheVariants.{Ran, Entered, Faulted}
use Rattle.pr_lawful.proofs.LawfulTurns.EndLemmas.{found-live}
use Rattle.pr_pids.specs.Members.{has_pid}
use Rattle.pr_ready.proofs.AroundLemmas.{call-ready, turn-ready}
use Rattle.pr_ready.specs.Around.{is_around}
use Rattle.pr_ready.specs.Following.{around_call, around_lwp}
use Rattle.pr_ready.specs.Queues.{AreReady, is_movable}
use Rattle.pr_ready.specs.Ready.{Covers, CoversMoves, CoversDozing, GrowsBut, IsDue, ReadySets, some_answer, some_dozing}
use Rattle.pr_ready.specs.Steps.{KeepsUp}
use Rattle.pr_ready.specs.declared.around.Around.{Around}
use Rattle.pr_ready_laws.specs.Reach.{changes_files, itself, reach_of, reaches_around}
use Rattle.pr_ready_laws.specs.Touched.{call_changes_files}
use Rattle.pr_turn.specs.Turns.{is_of_instruction}

-- The sets at the start have every process that was made; and what the walks over them ask for.

small : (s : TracedSystem) (pid : ℕ) (p : TracedProcess) → IsLawfulSystem s → live_process s pid ≡ Some p
    → (pid < s.made) × (pid < process_limit)
small s pid p h live =
    let made = (All-under (IsNumberedBelow s.made) pid p s.processes h.numbered (found-live s pid p live).0).id in
    let most = h.made in
    (made, omega arith)

pub all-ready : (s : TracedSystem) (r : ReadySets) → IsLawfulSystem s
    → ((pid : ℕ) → pid < s.made → pid < process_limit → has_pid r.movable pid ≡ true)
    → ((pid : ℕ) → pid < s.made → pid < process_limit → has_pid r.at_pipes pid ≡ true)
    → ((pid : ℕ) → pid < s.made → pid < process_limit → has_pid r.dozing pid ≡ true)
    → ((pid moment : ℕ) → IsDue r.moments pid moment) → AreReady s r
all-ready s r h movable at_pipes dozing moments = record {
  covers = record {
    each = λ pid is below. record {
      moves = λ p live said. movable pid (small s pid p h live).0 below;
      waits = λ p live said. at_pipes pid (small s pid p h live).0 below;
      dozes = λ p live said. dozing pid (small s pid p h live).0 below;
      wakes = λ p moment live said. moments pid moment;
    };
  };
}

pub ready-moves : (s : TracedSystem) (r : ReadySets) → IsLawfulSystem s → AreReady s r
    → CoversMoves (is_movable s) s r.movable
ready-moves s r h ready = record {
  each = λ pid p live said. (ready.covers.each pid refl (small s pid p h live).1).moves p live said;
}

pub ready-dozing : (s : TracedSystem) (r : ReadySets) → IsLawfulSystem s → AreReady s r → CoversDozing s r.dozing
ready-dozing s r h ready = record {
  each = λ pid p live said. (ready.covers.each pid refl (small s pid p h live).1).dozes p live said;
}

-- The sets after a call and after a turn, where what these may touch was noted before.
pub call-follows : (s : TracedState) (by : ℕ) (c : Call) (a : Answer) (around : Around) (files : Bool)
    (old new : ReadySets)
    → IsLawful s → answer_to s by c ≡ Some a → around ≡ around_call s by c → files ≡ call_changes_files c
    → KeepsUp (is_around around) files false (is_movable a.state.system) a.state.system old new → AreReady s.system old
    → AreReady a.state.system new
call-follows s by c a around files old new h answer noted said follows before =
    let whom : KeepsUp (is_around (around_call s by c)) files false (is_movable a.state.system) a.state.system old new =
    subst (λ (x : Around). KeepsUp (is_around x) files false (is_movable a.state.system) a.state.system old new) noted
    follows in
    call-ready s by c a old new h answer
    (subst (λ (b : Bool).
    KeepsUp (is_around (around_call s by c)) b false (is_movable a.state.system) a.state.system old new)
    said whom) before

pub turn-follows : (s : TracedSystem) (pid id : ℕ) (t : LwpTurn) (around : Around) (old new : ReadySets)
    → IsLawfulSystem s → turn_of s pid id ≡ Some t → around ≡ around_lwp s pid id
    → KeepsUp (λ other. eqb pid other || (reaches_around (reach_of t.turned.did) && is_around around other))
    (changes_files (reach_of t.turned.did)) false (is_movable t.system) t.system old new → AreReady s old
    → AreReady t.system new
turn-follows s pid id t around old new h turn noted follows before =
    turn-ready s pid id t old new h turn
    (subst (λ (x : Around).
    KeepsUp (λ other. eqb pid other || (reaches_around (reach_of t.turned.did) && is_around x other))
    (changes_files (reach_of t.turned.did)) false (is_movable t.system) t.system old new) noted follows)
    before

-- what is so of what there is, and where there is nothing
pub some-has : (A : Type 0) (P : A → Type 0) (o : Option A) (x : A) → o ≡ Some x → IfSome o P → P x
some-has A P o x at it = subst (λ q. IfSome q P) at it

pub none-has : (A X : Type 0) (o : Option A) → o ≡ None → IfNone o X → X
none-has A X o at it = subst (λ q. IfNone q X) at it

-- An instruction reaches no further than its process.
pub instruction-reach : (d : Did) → is_of_instruction d ≡ true → reach_of d ≡ itself
unfolding reach_of
instruction-reach Ran is = refl
instruction-reach (Entered call) is = refl
instruction-reach (Faulted f) is = refl
instruction-reach _ is = absurd (cc)

-- Sets of which one process was looked at anew, while nothing moved.
pub renewed-ready : (s : TracedSystem) (pid : ℕ) (old new : ReadySets) → AreReady s old
    → (pid < process_limit → Covers (is_movable s) s new pid) → GrowsBut pid old new → AreReady s new
renewed-ready s pid old new before covers grows = record {
  covers = record { each = λ other is small. by other small (cases_Bool (eqb pid other)) };
}
  where
    by : (other : ℕ) → other < process_limit → (eqb pid other ≡ true) ⊎ (eqb pid other ≡ false)
        → Covers (is_movable s) s new other
    by other small (inl same) =
        let at = eqb-true pid other same in
        subst (λ n. Covers (is_movable s) s new n) at (covers (subst (λ n. n < process_limit) (sym at) small))
    by other small (inr differs) =
        let apart : other ≡ pid → ⊥ = λ same. true≢false (sym (eq-eqb pid other (sym same)) ∙ differs) in
        let was = before.covers.each other refl small in
        record {
          moves = λ p live said. grows.movable other apart (was.moves p live said);
          waits = λ p live said. grows.at_pipes other apart (was.waits p live said);
          dozes = λ p live said. grows.dozing other apart (was.dozes p live said);
          wakes = λ p moment live said. grows.moments other moment (was.wakes p moment live said);
        }
