use Rattle.std.proofs.Common.{◌≡◌, ◌⊎◌, ◌<◌, ◌≤◌, ◌+◌, ℕ, Bool, true, false, is_none, Option, Some, None, List, refl, sym, subst, ◌∙◌, ap, inl, inr}
use Rattle.std.specs.List.{find}
use Rattle.std.specs.Option.{option_or}
use Rattle.std.proofs.lemmas.Bool.{cases_Bool, true≢false}
use Rattle.pr_num.specs.ById.{IsRising, under}
use Rattle.pr_model.specs.Order.{live_lwps, lwps_in, pairs_of}
use Rattle.pr_model.specs.State.{TracedProcess, TracedSystem, live_process, process_of}
use Rattle.pr_pids.specs.Members.{HasNoneFrom, IsNextFrom, has_pid}
use Rattle.pr_proc.specs.Orders.{asked_after, next_asked}
use Rattle.pr_ready.specs.Ready.{CoversMoves, some_answer}
use Rattle.pr_ready.specs.Walks.{first_of}
use Rattle.pr_ready.proofs.WalkLemmas.{Found, Nothing, behind, found_in, none-asked, walk-end, walk-step}

-- The walk over the processes of a set finds what a walk over all would find.

module _ (answer : ℕ × ℕ → Bool) (after : Option (ℕ × ℕ)) (s : TracedSystem) (movable : List ℕ)
    (ids : IsRising s.processes) (covers : CoversMoves answer s movable) where
  abbrev asked : ℕ × ℕ → Bool
  asked = asked_after answer after

  -- what is found in a live process
  first-same : (pid : ℕ) → found_in asked pid (process_of s pid) ≡ first_of answer after pid (live_process s pid)
  unfolding live_process lwps_in
  first-same pid = by (process_of s pid) refl
    where
      at : (p : TracedProcess) → process_of s pid ≡ Some p → (ended : Option ℕ) → p.ended ≡ ended
          → found_in asked pid (process_of s pid) ≡ first_of answer after pid (live_process s pid)
      at p there None live = rw (there, live) refl
      at p there (Some status) over = rw (there, over) refl

      by : (o : Option TracedProcess) → process_of s pid ≡ o
          → found_in asked pid (process_of s pid) ≡ first_of answer after pid (live_process s pid)
      by None none = rw none refl
      by (Some p) there = at p there p.ended refl

  -- nothing is found in one that is not of the set
  nothing-in : (pid : ℕ) (p : TracedProcess) → process_of s pid ≡ Some p → has_pid movable pid ≡ false
      → find asked (lwps_in (pid, p)) ≡ None
  unfolding live_process lwps_in
  nothing-in pid p there out = by p.ended refl (cases_Bool (some_answer answer pid p))
    where
      by : (ended : Option ℕ) → p.ended ≡ ended
          → (some_answer answer pid p ≡ true) ⊎ (some_answer answer pid p ≡ false)
          → find asked (lwps_in (pid, p)) ≡ None
      by (Some status) over any = rw over refl
      by None live (inl said) =
          absurd (true≢false (sym (covers.each pid p (rw (there, live) refl) said) ∙ out))
      by None live (inr none) = none-asked answer after pid p none

  nothing-before : (from pid : ℕ) → IsNextFrom movable from pid → Nothing asked s.processes from pid
  nothing-before from pid next other p past below there = nothing-in other p there (next.least other past below)

  step : (from pid : ℕ) → IsNextFrom movable from pid
      → Found asked (behind from s.processes)
      ≡ option_or (first_of answer after pid (live_process s pid)) (Found asked (behind (pid + 1) s.processes))
  step from pid next =
      walk-step asked 0 s.processes from pid ids next.behind (nothing-before from pid next)
      ∙ ap (λ (o : Option (ℕ × ℕ)). option_or o (Found asked (behind (pid + 1) s.processes))) (first-same pid)

  pub next-here : (from pid : ℕ) (lwp : ℕ × ℕ) → IsNextFrom movable from pid
      → Found asked (behind from s.processes) ≡ Found asked s.processes
      → first_of answer after pid (live_process s pid) ≡ Some lwp → next_asked answer s after ≡ Some lwp
  unfolding next_asked live_lwps
  next-here from pid lwp next so_far found =
      sym so_far ∙ step from pid next
      ∙ ap (λ (o : Option (ℕ × ℕ)). option_or o (Found asked (behind (pid + 1) s.processes))) found

  pub next-on : (from pid : ℕ) → IsNextFrom movable from pid
      → Found asked (behind from s.processes) ≡ Found asked s.processes
      → first_of answer after pid (live_process s pid) ≡ None
      → Found asked (behind (pid + 1) s.processes) ≡ Found asked s.processes
  next-on from pid next so_far none =
      sym (sym so_far ∙ step from pid next
      ∙ ap (λ (o : Option (ℕ × ℕ)). option_or o (Found asked (behind (pid + 1) s.processes))) none)

  pub next-end : (from : ℕ) → HasNoneFrom movable from
      → Found asked (behind from s.processes) ≡ Found asked s.processes → next_asked answer s after ≡ None
  unfolding next_asked live_lwps
  next-end from none so_far =
      sym so_far
      ∙ walk-end asked 0 s.processes from ids (λ end other p past below there. nothing-in other p there
      (none.none other past))
