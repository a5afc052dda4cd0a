use Rattle.std.proofs.Common.{◌≡◌, ℕ, ◌+◌, ◌<◌, ◌≤◌, Bool, List, [], ◌∷◌, Some, None, IsNone, is_some, length, drop, get_or, refl, ap, sym, ◌∙◌, subst, arith}
use Rattle.std.specs.List.{All, slice_get}
use Rattle.std.proofs.lemmas.List.Elements.{All-nil, All-cons, All-weaker}
use Rattle.pr_num.specs.ById.{inserted, under}
use Rattle.pr_num.proofs.ByIdLaws.{All-inserted, under-beyond}
use Rattle.pr_proc.specs.Counts.{IsNumbered}
use Rattle.std.proofs.lemmas.List.{drop_more, drop_all}
use Rattle.std.proofs.lemmas.Option.{same_Some, slice_get_past}
use Rattle.pr_num.specs.Programs.{Program}
use Rattle.pr_num.specs.Spaces.{Space, first_space}
use Rattle.pr_num.specs.declared.files.StoredFile.{StoredFile}
use Rattle.pr_model.specs.Lives.{bare_process, first_lwp, new_process, with_made, with_spawned}
use Rattle.pr_model.specs.Machines.{traced}
use Rattle.pr_model.specs.State.{TracedLwp, TracedProcess, TracedSystem, process_of}
use Rattle.pr_model.specs.FirstState.{spawned_at, with_spawns, bare_system}
use Rattle.pr_model.proofs.StateLemmas.{with_spawned-made}

-- at a step of a loop over places of programs
pub with_spawns-step : (places : List ℕ) (i : ℕ) (d : ℕ) (s : TracedSystem) → i < length places
    → with_spawns (drop i places) s
    ≡ with_spawns (drop (i + 1) places) (spawned_at (slice_get s.programs (get_or places i d)) s)
unfolding with_spawns
with_spawns-step places i d s within = ap (λ xs. with_spawns xs s) (drop_more places i d within)

-- nothing is left to spawn
pub with_spawns-end : (places : List ℕ) (i : ℕ) (s : TracedSystem) → length places ≤ i
    → with_spawns (drop i places) s ≡ s
unfolding with_spawns
with_spawns-end places i s past = ap (λ xs. with_spawns xs s) (drop_all i places past)

pub bare_system-made : (programs : List Program) (files : List StoredFile) → (bare_system programs files).made ≡ 1
unfolding bare_system
bare_system-made programs files = refl

-- ---- ids

-- no process has the next id
pub next_id-free : (s : TracedSystem) → IsNumbered s → process_of s s.made ≡ None
next_id-free s ids = under-beyond s.made s.processes ids.each

pub free-none : (s : TracedSystem) → process_of s s.made ≡ None → IsNone (under s.made s.processes)
free-none s free = ap is_some free

-- one more process under the next id
pub made-numbered : (s new : TracedSystem) (p : TracedProcess) → IsNumbered s → new.made ≡ s.made + 1
    → new.processes ≡ inserted s.made p s.processes → IsNumbered new
made-numbered s new p ids made processes =
    let below : (e : ℕ × TracedProcess) → e.0 < s.made → e.0 < new.made = λ e b. omega arith in
    let own : s.made < new.made = omega arith in
    record {
      each =
          subst (All (λ (e : ℕ × TracedProcess). e.0 < new.made)) (sym processes)
          (All-inserted (λ (e : ℕ × TracedProcess). e.0 < new.made) s.made p s.processes own
          (All-weaker (λ (e : ℕ × TracedProcess). e.0 < s.made)
          (λ (e : ℕ × TracedProcess). e.0 < new.made) below s.processes ids.each));
    }

pub first-numbered : (s : TracedSystem) (p : TracedProcess) → s.made ≡ 1 → s.processes ≡ (0, p) ∷ [] → IsNumbered s
first-numbered s p made processes = record {
  each =
      subst (All (λ (e : ℕ × TracedProcess). e.0 < s.made)) (sym processes)
      (All-cons (λ (e : ℕ × TracedProcess). e.0 < s.made) (0, p)
      [] (omega arith) (All-nil (λ (e : ℕ × TracedProcess). e.0 < s.made)));
}

-- ---- the process of a program

-- a process that begins the program at a place was spawned
pub spawned-so : (s new : TracedSystem) (place : ℕ) (program own : Program) (held : Bool) (name : List ℕ)
    (space : Space)
    (lwps : List (ℕ × TracedLwp)) (bare : TracedProcess) → slice_get s.programs place ≡ Some program
    → slice_get s.programs place ≡ Some own → name ≡ own.name → space ≡ first_space program
    → lwps ≡ (1, first_lwp traced held) ∷ [] → bare ≡ bare_process traced 0 name s.clock
    → new ≡ with_made (record bare { space = space; next_lwp = 2; lwps = lwps }) s
    → new ≡ with_spawned traced program held s
unfolding with_spawned new_process
spawned-so s new place program own held name space lwps bare at here named memory first made added =
    let same : own ≡ program = same_Some own program (sym here ∙ at) in
    let called : name ≡ program.name = named ∙ ap (λ (g : Program). g.name) same in
    let blank : bare ≡ bare_process traced 0 program.name s.clock =
    made ∙ ap (λ n. bare_process traced 0 n s.clock) called
    in
    added
    ∙ ap (λ (p : TracedProcess). with_made (record p { space = space; next_lwp = 2; lwps = lwps }) s) blank
    ∙ ap (λ (m : Space).
    with_made (record (bare_process traced 0 program.name s.clock) { space = m; next_lwp = 2; lwps = lwps }) s)
    memory
    ∙ ap (λ (ls : List (ℕ × TracedLwp)).
    with_made
    (record (bare_process traced 0 program.name s.clock) { space = first_space program; next_lwp = 2; lwps = ls })
    s) first

pub ruleset numbering = (next_id-free, free-none, made-numbered, first-numbered)

pub ruleset spawning_laws = (with_spawns-step, with_spawns-end, with_spawned-made, bare_system-made, slice_get_past)
