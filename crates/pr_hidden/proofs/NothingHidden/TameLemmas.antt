use Rattle.std.proofs.Common.{◌≡◌, ◌≢◌, ℕ, Bool, true, false, eqb, not, Option, Some, None, List, [], ◌∷◌, cond, refl, sym, ◌∙◌, ap, inl, inr}
use Rattle.std.proofs.lemmas.Bool.{cases_Bool}
use Rattle.std.proofs.lemmas.List.Elements.{All-nil, All-cons, All-head, All-tail, All-weaker}
use Rattle.std.specs.List.{All}
use Rattle.pr_num.specs.Agents.{agent_id}
use Rattle.pr_num.specs.ById.{change_under, map_each, under}
use Rattle.pr_num.specs.Control.{has_flags, klc_mode}
use Rattle.pr_num.proofs.ByIdLaws.{All-change_under, All-map_each}
use Rattle.pr_keeps.proofs.KeepsLemmas.{all-replaced}
use Rattle.pr_model.specs.Machines.{step_taken}
use Rattle.pr_model.specs.State.{TracedLwp, TracedProcess, TracedSystem, process_of, with_lwp, with_process}
use Rattle.pr_erasure.specs.Untouched.{IsUntouched, IsUntouchedLwp, IsUntouchedProcess}
use Rattle.pr_hidden.specs.Covers.{Cover, Covers, all_kept, keeps_lwp, lwp_beneath, process_beneath, seen_under, uncovered, uncovered_lwp, uncovered_process}

-- What hiders leave alone in a state, beside what is hidden: it is untouched without that.

pub record IsTameLwp (c : Cover) (e : ℕ × TracedLwp) : Type 0 where
  pub no_abort : keeps_lwp c e.0 ≡ true → e.1.control.abort ≡ false
  pub no_agent : keeps_lwp c e.0 ≡ true → eqb e.0 agent_id ≡ false

pub record IsTameProcess (covers : Covers) (e : ℕ × TracedProcess) : Type 0 where
  pub no_kill : has_flags e.1.control.modes klc_mode ≡ false
  pub unwatched : e.1.control.areas ≡ []
  pub lwps : All (IsTameLwp (covers e.0)) e.1.lwps

pub record IsTame (covers : Covers) (s : TracedSystem) : Type 0 where
  pub processes : All (IsTameProcess covers) s.processes

-- ---- the same as untouched without what is hidden

module _ (c : Cover) where
  untouched-lwp : (e : ℕ × TracedLwp) → keeps_lwp c e.0 ≡ true → IsTameLwp c e
      → IsUntouchedLwp (e.0, lwp_beneath c e.0 e.1)
  unfolding uncovered_lwp step_taken
  untouched-lwp e kept tame = record { no_step = refl; no_abort = tame.no_abort kept; no_agent = tame.no_agent kept }

  untouched-lwps : (ls : List (ℕ × TracedLwp)) → All (IsTameLwp c) ls
      → All IsUntouchedLwp (seen_under (keeps_lwp c) (lwp_beneath c) ls)
  untouched-lwps [] tame = All-nil IsUntouchedLwp
  untouched-lwps (e ∷ ls) tame =
      let rest = untouched-lwps ls (All-tail (IsTameLwp c) e ls tame) in
      let first = All-head (IsTameLwp c) e ls tame in
      elim (cases_Bool (keeps_lwp c e.0)) [
        | inl kept ↦ rw kept (All-cons IsUntouchedLwp _ _ (untouched-lwp e kept first) rest)
        | inr hidden ↦ rw hidden rest
      ]

  tame-lwps : (ls : List (ℕ × TracedLwp)) → All IsUntouchedLwp (seen_under (keeps_lwp c) (lwp_beneath c) ls)
      → All (IsTameLwp c) ls
  unfolding uncovered_lwp step_taken
  tame-lwps [] untouched = All-nil (IsTameLwp c)
  tame-lwps (e ∷ ls) untouched =
      elim (keeps_lwp c e.0) as (λ b. keeps_lwp c e.0 ≡ b
      → All IsUntouchedLwp (cond b
      ((e.0, lwp_beneath c e.0 e.1) ∷ seen_under (keeps_lwp c) (lwp_beneath c) ls)
      (seen_under (keeps_lwp c) (lwp_beneath c) ls)) → All (IsTameLwp c) (e ∷ ls)) [
        | true ↦ λ kept all.
            let first = All-head IsUntouchedLwp _ _ all in
            All-cons (IsTameLwp c) e ls (record { no_abort = λ k. first.no_abort; no_agent = λ k. first.no_agent })
            (tame-lwps ls (All-tail IsUntouchedLwp _ _ all))
        | false ↦ λ hidden all.
            All-cons (IsTameLwp c) e ls
            (record { no_abort = λ k. clash k hidden; no_agent = λ k. clash k hidden }) (tame-lwps ls all)
      ] refl untouched
    where
      clash : {X : Type 0} {b : Bool} → b ≡ true → b ≡ false → X
      clash is other = absurd (both (sym is ∙ other))
        where
          both : true ≡ false → ⊥
          both e = cc

module _ (covers : Covers) where
  untouched-processes : (ps : List (ℕ × TracedProcess)) → All (IsTameProcess covers) ps
      → All IsUntouchedProcess (seen_under all_kept (process_beneath covers) ps)
  unfolding uncovered_process
  untouched-processes [] tame = All-nil IsUntouchedProcess
  untouched-processes (e ∷ ps) tame =
      let first = All-head (IsTameProcess covers) e ps tame in
      All-cons IsUntouchedProcess _ _
      (record {
        no_kill = first.no_kill;
        unwatched = first.unwatched;
        lwps = untouched-lwps (covers e.0) e.1.lwps first.lwps;
      }) (untouched-processes ps (All-tail (IsTameProcess covers) e ps tame))

  tame-processes : (ps : List (ℕ × TracedProcess))
      → All IsUntouchedProcess (seen_under all_kept (process_beneath covers) ps) → All (IsTameProcess covers) ps
  unfolding uncovered_process
  tame-processes [] untouched = All-nil (IsTameProcess covers)
  tame-processes (e ∷ ps) untouched =
      let first = All-head IsUntouchedProcess _ _ untouched in
      All-cons (IsTameProcess covers) e ps
      (record {
        no_kill = first.no_kill;
        unwatched = first.unwatched;
        lwps = tame-lwps (covers e.0) e.1.lwps first.lwps;
      }) (tame-processes ps (All-tail IsUntouchedProcess _ _ untouched))

  pub tame-untouched : (s : TracedSystem) → IsTame covers s → IsUntouched (uncovered covers s)
  unfolding uncovered
  tame-untouched s tame = record { processes = untouched-processes s.processes tame.processes }

  pub untouched-tame : (s : TracedSystem) → IsUntouched (uncovered covers s) → IsTame covers s
  unfolding uncovered
  untouched-tame s untouched = record { processes = tame-processes s.processes untouched.processes }

-- ---- what keeps it

-- fewer lwps are kept
pub tame-fewer : (covers new : Covers)
    → ((pid id : ℕ) → keeps_lwp (new pid) id ≡ true → keeps_lwp (covers pid) id ≡ true) → (s : TracedSystem)
    → IsTame covers s → IsTame new s
tame-fewer covers new fewer s tame = record {
  processes = All-weaker (IsTameProcess covers) (IsTameProcess new) one s.processes tame.processes;
}
  where
    one : (e : ℕ × TracedProcess) → IsTameProcess covers e → IsTameProcess new e
    one e it = record {
      no_kill = it.no_kill;
      unwatched = it.unwatched;
      lwps =
          All-weaker (IsTameLwp (covers e.0)) (IsTameLwp (new e.0))
          (λ l of. record {
            no_abort = λ kept. of.no_abort (fewer e.0 l.0 kept);
            no_agent = λ kept. of.no_agent (fewer e.0 l.0 kept);
          }) e.1.lwps it.lwps;
    }

-- the process of an id is changed
pub tame-process : (covers : Covers) (pid : ℕ) (f : TracedProcess → TracedProcess)
    → ((x : TracedProcess) → IsTameProcess covers (pid, x) → IsTameProcess covers (pid, f x)) → (s : TracedSystem)
    → IsTame covers s → IsTame covers (with_process pid f s)
unfolding with_process
tame-process covers pid f keeps s tame = record {
  processes = All-change_under (IsTameProcess covers) pid f s.processes (λ x there it. keeps x it) tame.processes;
}

pub tame-found : (covers : Covers) (pid : ℕ) (f : TracedProcess → TracedProcess) (p : TracedProcess) (s : TracedSystem)
    → process_of s pid ≡ Some p → (IsTameProcess covers (pid, p) → IsTameProcess covers (pid, f p)) → IsTame covers s
    → IsTame covers (with_process pid f s)
unfolding with_process
tame-found covers pid f p s found keeps tame = record {
  processes = all-replaced (IsTameProcess covers) pid f p s.processes found keeps tame.processes;
}

-- an lwp of it is, which keeps its abort mark
pub tame-lwp : (covers : Covers) (pid id : ℕ) (f : TracedLwp → TracedLwp)
    → ((l : TracedLwp) → (f l).control.abort ≡ l.control.abort) → (x : TracedProcess) → IsTameProcess covers (pid, x)
    → IsTameProcess covers (pid, with_lwp id f x)
unfolding with_lwp
tame-lwp covers pid id f same x it = record {
  no_kill = it.no_kill;
  unwatched = it.unwatched;
  lwps =
      All-change_under (IsTameLwp (covers pid)) id f x.lwps
      (λ l there of. record { no_abort = λ kept. same l ∙ of.no_abort kept; no_agent = of.no_agent }) it.lwps;
}

-- one that is hidden is, in any way
pub tame-unkept : (covers : Covers) (pid id : ℕ) (f : TracedLwp → TracedLwp) → keeps_lwp (covers pid) id ≡ false
    → (x : TracedProcess) → IsTameProcess covers (pid, x) → IsTameProcess covers (pid, with_lwp id f x)
unfolding with_lwp
tame-unkept covers pid id f hidden x it = record {
  no_kill = it.no_kill;
  unwatched = it.unwatched;
  lwps =
      All-change_under (IsTameLwp (covers pid)) id f x.lwps
      (λ l there of. record {
        no_abort = λ kept. absurd (clash (sym kept ∙ hidden));
        no_agent = λ kept. absurd (clash (sym kept ∙ hidden));
      }) it.lwps;
}
  where
    clash : true ≡ false → ⊥
    clash e = cc

-- and each is
pub tame-each : (covers : Covers) (pid : ℕ) (f : TracedLwp → TracedLwp)
    → ((l : TracedLwp) → (f l).control.abort ≡ l.control.abort) → (ls : List (ℕ × TracedLwp))
    → All (IsTameLwp (covers pid)) ls → All (IsTameLwp (covers pid)) (map_each f ls)
tame-each covers pid f same ls all =
    All-map_each (IsTameLwp (covers pid)) (IsTameLwp (covers pid)) f
    (λ e of. record { no_abort = λ kept. same e.1 ∙ of.no_abort kept; no_agent = of.no_agent }) ls all
