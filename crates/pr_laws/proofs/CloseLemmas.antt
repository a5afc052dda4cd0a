use Rattle.std.proofs.Common.{◌≡◌, ℕ, Bool, true, false, is_none, Option, Some, None, List, [], ◌∷◌, cond, refl, sym, ◌∙◌, ap}
use Rattle.std.proofs.lemmas.List.Elements.{All-nil, All-cons}
use Rattle.std.proofs.lemmas.Option.{same_Some}
use Rattle.std.proofs.lemmas.Bool.{and_parts, not-true}
use Rattle.std.specs.List.{All, slice_set}
use Rattle.std.specs.Option.{option_map, option_and_then}
use Rattle.pr_num.specs.ById.{map_each}
use Rattle.pr_num.specs.Control.{has_flags, rlc_mode, klc_mode}
use Rattle.pr_num.proofs.ByIdLaws.{under-change_under}
use Rattle.pr_model.specs.Handles.{is_writable, has_writer, was_last_writer, after_last_close, with_last_close, with_closed, released, released_control, released_lwp}
use Rattle.pr_model.specs.State.{TracedState, TracedSystem, TracedProcess, TracedLwp, if_live, live_process, process_of, with_process}
use Rattle.pr_model.specs.declared.handles.Held.{Held}
use Rattle.pr_laws.specs.LastCloses.{HasNoMark, IsReleased}
use Rattle.pr_model.proofs.StateLemmas.{live-found}

-- What the last close for writing leaves.

pub no_writer-left : (s : TracedState) (h : Held) (number : ℕ)
    → was_last_writer h (slice_set s.opens number None) ≡ true → has_writer h.pid (with_closed h number s).opens ≡ false
unfolding with_closed
no_writer-left s h number last = not-true _ (and_parts (is_writable h.mode) _ last).1

unmarked : (ls : List (ℕ × TracedLwp)) → All HasNoMark (map_each released_lwp ls)
unfolding released_lwp
unmarked [] = All-nil HasNoMark
unmarked (e ∷ es) =
    All-cons HasNoMark _ _ (record { no_stop = refl; no_directive = refl; no_step = refl }) (unmarked es)

released-is : (p : TracedProcess) → IsReleased (released p)
unfolding released released_control
released-is p = record {
  no_signals = refl;
  no_faults = refl;
  no_entries = refl;
  no_exits = refl;
  no_areas = refl;
  lwps = unmarked p.lwps;
}

released-live : (p : TracedProcess) → is_none p.ended ≡ true → if_live (released p) ≡ Some (released p)
unfolding released
released-live p live = rw live refl

released-stands : (s : TracedSystem) (pid : ℕ) (p : TracedProcess) → live_process s pid ≡ Some p
    → live_process (with_process pid released s) pid ≡ Some (released p)
unfolding live_process with_process
released-stands s pid p live =
    let parts = live-found (process_of s pid) p live in
    ap (option_and_then if_live) (under-change_under pid released s.processes ∙ ap (option_map released) parts.0)
    ∙ released-live p parts.1

last_close-is : (pid : ℕ) (p : TracedProcess) (s : TracedSystem) → has_flags p.control.modes rlc_mode ≡ true
    → has_flags p.control.modes klc_mode ≡ false → with_last_close pid p s ≡ with_process pid released s
unfolding with_last_close
last_close-is pid p s runs not_killed = rw (not_killed, runs) refl

closed-is : (s : TracedState) (h : Held) (number : ℕ) (p : TracedProcess)
    → was_last_writer h (slice_set s.opens number None) ≡ true → live_process s.system h.pid ≡ Some p
    → (with_closed h number s).system ≡ with_last_close h.pid p s.system
unfolding with_closed
closed-is s h number p last live =
    ap (λ b. cond b (after_last_close h.pid (live_process s.system h.pid) s.system) s.system) last
    ∙ ap (λ o. after_last_close h.pid o s.system) live

pub released-after : (s : TracedState) (h : Held) (number : ℕ) (p : TracedProcess)
    → was_last_writer h (slice_set s.opens number None) ≡ true → live_process s.system h.pid ≡ Some p
    → has_flags p.control.modes rlc_mode ≡ true → has_flags p.control.modes klc_mode ≡ false
    → (q : TracedProcess) × ((live_process (with_closed h number s).system h.pid ≡ Some q) × IsReleased q)
released-after s h number p last live runs not_killed = (
  released p,
  (
    ap (λ t. live_process t h.pid) (closed-is s h number p last live ∙ last_close-is h.pid p s.system runs not_killed)
        ∙ released-stands s.system h.pid p live,
    released-is p,
  ),
)

pub ruleset last_closes = (no_writer-left, released-after)
