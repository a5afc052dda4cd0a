use Rattle.std.proofs.Common.{◌≡◌, ◌≢◌, ◌==◌, ℕ, true, false, Some, List, [], ◌∷◌, refl, sym, ap, ◌∙◌}
use Rattle.std.proofs.lemmas.Option.{same_Some}
use Rattle.std.proofs.lemmas.Bool.{eq-eqb, ne_eqb}
use Rattle.pr_num.specs.Agents.{agent_id}
use Rattle.pr_num.specs.declared.errnos.Errno.{Errno}
use Rattle.pr_num.specs.declared.errnos.Errno.TheVariants.{Inval, Srch, Again, Notsup}
use Rattle.pr_model.specs.Changes.{fails, gives, makes_lwp, suspends, all_changed, changed}
use Rattle.pr_model.specs.Lives.{with_new_lwp}
use Rattle.pr_model.specs.LwpCalls.{can_be_named, lwp_continue_effect, lwp_create_effect, lwp_suspend_effect, made_registers}
use Rattle.pr_model.specs.Machines.{traced}
use Rattle.pr_model.specs.State.{TracedLwp, TracedProcess, TracedSystem, live_process, lwp_of, with_process}
use Rattle.pr_call.specs.Effects.{after_effect}
use Rattle.pr_call.specs.Lwps.{is_full}

-- What the calls on lwps do, by what they find.

module _ (p : TracedProcess) (other : ℕ) where
  pub suspend-none : (id : ℕ) → can_be_named p other ≡ false → fails Srch ≡ lwp_suspend_effect p id other
  unfolding lwp_suspend_effect
  suspend-none id none = rw none refl

  pub suspend-own : (id own : ℕ) → own ≡ other → can_be_named p other ≡ true → own ≡ id
      → fails Inval ≡ lwp_suspend_effect p id other
  unfolding lwp_suspend_effect
  suspend-own id own named can same = rw (can, eq-eqb other id (rw (← named) same)) refl

  pub suspend-other : (id found : ℕ) → found ≡ other → can_be_named p other ≡ true → found ≢ id
      → gives 0 (suspends found true ∷ []) ≡ lwp_suspend_effect p id other
  unfolding lwp_suspend_effect
  suspend-other id found named can apart = rw (can, ne_eqb other id (λ same. apart (rw named same)), named) refl

  pub continue-none : can_be_named p other ≡ false → fails Srch ≡ lwp_continue_effect p other
  unfolding lwp_continue_effect
  continue-none none = rw none refl

  pub continue-other : (found : ℕ) → found ≡ other → can_be_named p other ≡ true
      → gives 0 (suspends found false ∷ []) ≡ lwp_continue_effect p other
  unfolding lwp_continue_effect
  continue-other found named can = rw (can, named) refl

pub ruleset suspending = (suspend-none, suspend-own, suspend-other)

pub ruleset continuing = (continue-none, continue-other)

-- ---- lwp_create

module _ (p : TracedProcess) (id held pc sp r1 : ℕ) where
  pub create-agent : id ≡ agent_id → lwp_create_effect p id held pc sp r1 ≡ fails Notsup
  unfolding lwp_create_effect
  create-agent agent = rw agent refl

  pub create-full : (id == agent_id) ≡ false → is_full p ≡ true → lwp_create_effect p id held pc sp r1 ≡ fails Again
  unfolding lwp_create_effect
  create-full other full = rw (other, full) refl

  pub create-room : (id == agent_id) ≡ false → is_full p ≡ false
      → lwp_create_effect p id held pc sp r1
      ≡ gives p.next_lwp (makes_lwp p.next_lwp (made_registers pc sp r1) held ∷ [])
  unfolding lwp_create_effect
  create-room other room = rw (other, room) refl

-- a call that is refused leaves all as it was
pub after-refused : (s : TracedSystem) (pid : ℕ) (p : TracedProcess) (id : ℕ) (l : TracedLwp) (e : Errno)
    → s ≡ after_effect pid p id l (fails e) s
unfolding after_effect all_changed
after-refused s pid p id l e = refl

module _ (s t : TracedSystem) (pid : ℕ) (q p : TracedProcess) (id : ℕ) (m l : TracedLwp) (pc sp r1 : ℕ)
    (regs : List ℕ) where
  created : q ≡ p → m ≡ l → (id == agent_id) ≡ false → is_full q ≡ false → regs ≡ made_registers pc sp r1
      → t ≡ with_process pid (with_new_lwp traced q.next_lwp regs m.held) s
      → t ≡ after_effect pid p id l (lwp_create_effect p id l.held pc sp r1) s
  unfolding after_effect all_changed changed
  created same alike other room is made =
      made
      ∙ ap (λ r. with_process pid (with_new_lwp traced q.next_lwp r m.held) s) is
      ∙ ap (λ (x : TracedLwp). with_process pid (with_new_lwp traced q.next_lwp (made_registers pc sp r1) x.held) s)
      alike
      ∙ ap (λ (x : TracedProcess). with_process pid (with_new_lwp traced x.next_lwp (made_registers pc sp r1) l.held) s)
      same
      ∙ ap (λ e. after_effect pid p id l e s)
      (sym (create-room p id l.held pc sp r1 other (ap (λ (x : TracedProcess). is_full x) (sym same) ∙ room)))

  pub created-by : live_process s pid ≡ Some q → lwp_of q id ≡ Some m → live_process s pid ≡ Some p
      → lwp_of p id ≡ Some l → (id == agent_id) ≡ false → is_full q ≡ false → regs ≡ made_registers pc sp r1
      → t ≡ with_process pid (with_new_lwp traced q.next_lwp regs m.held) s
      → t ≡ after_effect pid p id l (lwp_create_effect p id l.held pc sp r1) s
  created-by there at found stands other room is made =
      let same : q ≡ p = same_Some q p (sym there ∙ found) in
      let alike : m ≡ l = same_Some m l (sym at ∙ ap (λ (x : TracedProcess). lwp_of x id) same ∙ stands) in
      created same alike other room is made

pub ruleset creating = (create-agent, create-full, create-room, after-refused)
