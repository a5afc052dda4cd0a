use Rattle.std.proofs.Common.{◌≡◌, ◌⊎◌, ◌||◌, ◌+◌, ◌<◌, ◌≤◌, ℕ, Bool, true, false, not, is_some, eqb, cond, Option, Some, None, List, [], refl, sym, subst, ◌∙◌, ap, inl, inr}
use Rattle.std.specs.Prelude.{nat_le, nat_lt, slice_index}
use Rattle.std.proofs.lemmas.Bool.{and_parts, and_from, cases_Bool, cases_lt, false≢true, le-leb, lt-ltb}
use Rattle.pr_num.specs.Limits.{sleep_limit}
use Rattle.pr_num.specs.Spaces.{Space}
use Rattle.pr_num.specs.declared.syscalls.Sysno.{Sysno}
use Rattle.pr_num.specs.declared.syscalls.Sysno.TheVariants.{Read, Write, Wait, Pause, Sleep}
use Rattle.pr_num.proofs.BoolLemmas.{either}
use Rattle.pr_model.specs.CallEffects.{call_effect}
use Rattle.pr_model.specs.Changes.{Effect, gives, is_over, sleeps}
use Rattle.pr_model.specs.FileCallRows.{word_size}
use Rattle.pr_model.specs.LwpTurns.{can_move, is_held_back, is_ready, may_go_on, may_turn, may_turn_in, may_turn_of, may_wake}
use Rattle.pr_model.specs.MemoryCalls.{can_write}
use Rattle.pr_model.specs.ProcessCalls.{sleep_effect, wait_effect}
use Rattle.pr_model.specs.Readers.{Children, no_child, all_live, first_zombie, children_of}
use Rattle.pr_model.specs.Signals.{has_takeable, takeable}
use Rattle.pr_model.specs.State.{TracedLwp, TracedProcess, TracedSystem, live_process, lwp_of, process_of}
use Rattle.pr_model.specs.declared.lwps.Phase.{Phase}
use Rattle.pr_model.specs.declared.lwps.Phase.TheVariants.{User, Entered, Asleep, Exiting, Faulted}
use Rattle.pr_lawful.proofs.LawfulTurns.EndLemmas.{found-live}
use Rattle.pr_ready_laws.specs.Left.{HasLwp, IsLeft, comes_between, waits}

-- An lwp of a process that a step left alone can move later only if it could before, unless it waits for what may
-- differ.

-- ---- choices

or-on : (a b c : Bool) (W : Type 0) → ((b ≡ true) → (c ≡ true) ⊎ W) → (a || b) ≡ true → ((a || c) ≡ true) ⊎ W
or-on true b c W on it = inl refl
or-on false b c W on it = on it

-- ---- waits

over-wait : (space : Space) (c : Children) (at : ℕ) → (c ≡ all_live) ⊎ (is_over (wait_effect space c at) ≡ true)
unfolding wait_effect
over-wait space no_child at = inr refl
over-wait space all_live at = inl refl
over-wait space (first_zombie child status) at =
    inr
    (either (λ (e : Effect). is_over e ≡ true) (eqb at 0) _ _ refl
    (either (λ (e : Effect). is_over e ≡ true) (can_write space at word_size) _ _ refl refl))

live-wait : (space : Space) (c : Children) (at : ℕ) → c ≡ all_live → is_over (wait_effect space c at) ≡ false
unfolding wait_effect
live-wait space c at all = rw all refl

-- ---- sleep

-- a call of sleep that is over at a later moment was over before, or the clock came to its moment in between
slept-before : (from to since time : ℕ) → is_over (sleep_effect to since time) ≡ true
    → (is_over (sleep_effect from since time) ≡ true) ⊎ (comes_between from to (since + time) ≡ true)
unfolding sleep_effect
slept-before from to since time over = by (cases_Bool (nat_lt sleep_limit time))
  where
    later : is_over (cond (nat_le (since + time) to) (gives 0 []) sleeps) ≡ true → nat_le (since + time) to ≡ true
    later over = elim (nat_le (since + time) to) as (λ b. is_over (cond b (gives 0 []) sleeps) ≡ true → b ≡ true) [
      | true ↦ λ is. refl
      | false ↦ λ is. absurd (false≢true is)
    ] over

    on : nat_lt sleep_limit time ≡ false → (since + time ≤ from) ⊎ (from < since + time)
        → (is_over (sleep_effect from since time) ≡ true) ⊎ (comes_between from to (since + time) ≡ true)
    on few (inl past) = inl (rw (few, le-leb (since + time) from past) refl)
    on few (inr coming) =
        inr (and_from _ _ (lt-ltb from (since + time) coming) (later (rw few at over)))

    by : (nat_lt sleep_limit time ≡ true) ⊎ (nat_lt sleep_limit time ≡ false)
        → (is_over (sleep_effect from since time) ≡ true) ⊎ (comes_between from to (since + time) ≡ true)
    by (inl many) = inl (rw many refl)
    by (inr few) = on few (swap (cases_lt from (since + time)))
      where
        swap : (from < since + time) ⊎ (since + time ≤ from) → (since + time ≤ from) ⊎ (from < since + time)
        swap (inl less) = inr less
        swap (inr more) = inl more

module _ (pid : ℕ) (files clock : Bool) (s u : TracedSystem) (h : IsLeft pid files clock s u) where
  module _ (p : TracedProcess) (parent id : ℕ) (l : TracedLwp) where
    -- the process as it stands later
    abbrev later : TracedProcess
    later = record p { parent = parent }

    abbrev Before : ℕ → Sysno → List ℕ → Type 0
    Before since call args =
        (is_ready s pid p id l since call args ≡ true) ⊎ (waits files s.clock u.clock (Asleep call args since) ≡ true)

    ready-before : (since : ℕ) (call : Sysno) (args : List ℕ) → is_ready u pid later id l since call args ≡ true
        → Before since call args
    unfolding is_ready call_effect
    ready-before since Read args ready = by files refl
      where
        by : (b : Bool) → files ≡ b → Before since Read args
        by true may = inr may
        by false none = inl (rw (h.same_files none) at ready)
    ready-before since Write args ready = by files refl
      where
        by : (b : Bool) → files ≡ b → Before since Write args
        by true may = inr may
        by false none = inl (rw (h.same_files none) at ready)
    ready-before since Wait args ready = by (over-wait p.space (children_of s pid) (slice_index args 0))
      where
        by : (children_of s pid ≡ all_live)
            ⊎ (is_over (wait_effect p.space (children_of s pid) (slice_index args 0)) ≡ true) → Before since Wait args
        by (inr over) = inl over
        by (inl all) =
            absurd
            (false≢true
            (sym (live-wait p.space (children_of u pid) (slice_index args 0) (h.children all)) ∙ ready))
    ready-before since Pause args ready = absurd (false≢true ready)
    ready-before since Sleep args ready =
        slept-before s.clock u.clock since (slice_index args 0) ready
    ready-before since _ args ready = inl refl

    Waits : Type 0
    Waits = waits files s.clock u.clock l.phase ≡ true

    goes-before : (ph : Phase) → l.phase ≡ ph → may_go_on u pid later id l ph ≡ true
        → (may_go_on s pid p id l ph ≡ true) ⊎ Waits
    unfolding may_wake Waits takeable
    goes-before User at goes = inl refl
    goes-before (Entered call) at goes = inl refl
    goes-before (Asleep call args since) at goes =
        or-on l.control.directed _ _ Waits
        (or-on (is_some l.current) _ _ Waits
        (or-on (has_takeable p l) _ _ Waits
        (or-on l.control.abort (is_ready u pid later id l since call args) (is_ready s pid p id l since call args) Waits
        (λ ready. to (ready-before since call args ready))))) goes
      where
        to : Before since call args → (is_ready s pid p id l since call args ≡ true) ⊎ Waits
        to (inl ready) = inl ready
        to (inr wait) = inr (ap (waits files s.clock u.clock) at ∙ wait)
    goes-before (Exiting call args result) at goes = inl refl
    goes-before (Faulted f address) at goes = inl refl

    turn-before : may_turn u pid later id l ≡ true → (may_turn s pid p id l ≡ true) ⊎ Waits
    unfolding may_turn is_held_back
    turn-before may =
        let parts = and_parts (not (is_held_back later id l)) (may_go_on u pid later id l l.phase) may in
        by parts.0 (goes-before l.phase refl parts.1)
      where
        by : not (is_held_back later id l) ≡ true → (may_go_on s pid p id l l.phase ≡ true) ⊎ Waits
            → (may_turn s pid p id l ≡ true) ⊎ Waits
        by free (inl goes) = inl (and_from _ _ free goes)
        by free (inr wait) = inr wait

  abbrev Moves : ℕ → Type 0
  Moves id = (can_move s pid id ≡ true) ⊎ HasLwp (waits files s.clock u.clock) s pid id

  pub moves-before : (id : ℕ) → can_move u pid id ≡ true → Moves id
  unfolding can_move live_process Waits
  moves-before id can = by_process (live_process u pid) refl can
    where
      by_turn : (p : TracedProcess) (l : TracedLwp) → live_process s pid ≡ Some p → lwp_of p id ≡ Some l
          → (may_turn s pid p id l ≡ true) ⊎ (waits files s.clock u.clock l.phase ≡ true) → Moves id
      by_turn p l live there (inl may) = inl (rw (live, there) may)
      by_turn p l live there (inr wait) =
          inr (record { process = p; lwp = l; live = live; there = there; kind = wait })

      by_lwp : (p : TracedProcess) (parent : ℕ) → live_process s pid ≡ Some p → (o : Option TracedLwp)
          → lwp_of p id ≡ o → may_turn_in u pid id (record p { parent = parent }) o ≡ true → Moves id
      by_lwp p parent live None none may = absurd (false≢true may)
      by_lwp p parent live (Some l) there may =
          by_turn p l live there (turn-before p parent id l may)

      found : (p q : TracedProcess) → process_of s pid ≡ Some p → q ≡ record p { parent = q.parent }
          → q.ended ≡ None → may_turn_in u pid id q (lwp_of q id) ≡ true → Moves id
      found p q there same live may =
          let ended : p.ended ≡ None = sym (ap (λ (x : TracedProcess). x.ended) same) ∙ live in
          by_lwp p q.parent (rw (there, ended) refl) (lwp_of p id) refl
          (subst (λ (x : TracedProcess). may_turn_in u pid id x (lwp_of x id) ≡ true) same may)

      from : (q : TracedProcess) → q.ended ≡ None → may_turn_in u pid id q (lwp_of q id) ≡ true
          → (p : TracedProcess) × ((process_of s pid ≡ Some p) × (q ≡ record p { parent = q.parent })) → Moves id
      from q live may (p, (there, same)) = found p q there same live may

      by_process : (o : Option TracedProcess) → live_process u pid ≡ o → may_turn_of u pid id o ≡ true → Moves id
      by_process None none may = absurd (false≢true may)
      by_process (Some q) is may =
          let it = found-live u pid q is in
          from q it.1 may (h.process q it.0 it.1)
