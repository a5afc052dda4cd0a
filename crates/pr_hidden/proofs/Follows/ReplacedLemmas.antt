use Rattle.std.proofs.Common.{◌≡◌, ◌==◌, ◌||◌, ◌&&◌, ◌⊎◌, ℕ, Bool, true, false, cond, not, nat_le, Option, Some, None, List, [], ◌∷◌, Result, Ok, Err, length, refl, sym, subst, ◌∙◌, ap, inl, inr}
use Rattle.std.proofs.lemmas.Bool.{cases_Bool}
use Rattle.std.specs.List.{slice_index}
use Rattle.pr_num.specs.Agents.{agent_id}
use Rattle.pr_num.specs.Limits.{process_limit}
use Rattle.pr_num.specs.Programs.{Program}
use Rattle.pr_num.specs.Spaces.{first_space, mapped_size}
use Rattle.pr_num.specs.declared.errnos.Errno.{Errno}
use Rattle.pr_num.specs.declared.errnos.Errno.TheVariants.{Again, Noent, Nomem, Notsup}
use Rattle.pr_num.specs.declared.syscalls.Sysno.{Sysno}
use Rattle.pr_num.specs.declared.syscalls.Sysno.TheVariants.{Exec, Vfork}
use Rattle.pr_num.proofs.BoolLemmas.{and_false, either}
use Rattle.pr_keeps.specs.RowKinds as kind
use Rattle.pr_keeps.specs.RowKinds.{RowKind}
use Rattle.pr_keeps.proofs.RowLemmas.{row-kind}
use Rattle.pr_model.specs.CallEffects.{call_effect}
use Rattle.pr_model.specs.Changes.{Effect, becomes, does, ends, fails, forks, gives, sleeps}
use Rattle.pr_model.specs.InstructionEffects.{InstructionEffect, Store, calls, faults, instruction_effect, runs, runs_into_watch}
use Rattle.pr_model.specs.Lives.{by_vfork}
use Rattle.pr_model.specs.MemoryCalls.{path_at}
use Rattle.pr_model.specs.ProcessCalls.{exec_effect, given_up, program_named, vfork_effect}
use Rattle.pr_model.specs.Readers.{total_has_room}
use Rattle.pr_model.specs.Rows.{Row, entered_row, executed_row, handler_row, incurred_row, interrupted_row, own_taken_row, performed_row, posted_row, ran_row, requested_row, returned_row, row_for, shared_taken_row, watched_row}
use Rattle.pr_model.specs.State.{TracedLwp, TracedProcess, TracedSystem}
use Rattle.pr_model.specs.Transitions.{performed}
use Rattle.pr_model.specs.declared.events.Did.{Did}
use Rattle.pr_hidden.specs.Covers.{Cover, Covers, Patch}
use Rattle.pr_hidden.specs.Hiders.{is_value, replaces, replaces_memory, without_replaced}
use Rattle.pr_hidden.specs.Hiding.{with_own_agent, with_patches}
use Rattle.pr_hidden.specs.Tidiness.{AreTidyChanges}
use Rattle.pr_hidden.proofs.Follows.FaultRows.{no-way}

-- A vfork or an exec that is granted finds no patches where its changes are tidy, so that none is dropped after it; nor
-- is an agent, where none is hidden beside it.

-- which calls these are
which : (call : Sysno) → replaces call ≡ true → (call ≡ Vfork) ⊎ (call ≡ Exec)
which Vfork is = inl refl
which Exec is = inr refl
which _ is = no-way is

no-value : (call : Sysno) → replaces call && false ≡ true → ⊥
no-value call is = no-way (sym (and_false (replaces call)) ∙ is)

module _ (covers : Covers) (s : TracedSystem) (pid : ℕ) (p : TracedProcess) (id : ℕ) (l : TracedLwp) where
  -- a turn by this row finds no patches, if it is such a call and its changes are tidy
  abbrev FindsNone : Row → Type 0
  FindsNone row =
      replaces_memory row.did ≡ true → AreTidyChanges covers pid p id l row.transition.changes s
      → (covers pid).patches ≡ []

  -- ---- calls that are made

  module _ (args : List ℕ) (since : ℕ) where
    abbrev Makes : Sysno → Effect → Type 0
    Makes call e = FindsNone (performed_row false call args since e)

    fails-finds : (call : Sysno) (e : Errno) → Makes call (fails e)
    unfolding performed_row
    fails-finds call e is tidy = absurd (no-value call is)

    forks-finds : (call : Sysno) (value : ℕ) (given : List ℕ) → Makes call (gives value (forks by_vfork given ∷ []))
    unfolding performed_row performed
    forks-finds call value given is tidy = tidy.0

    becomes-finds : (call : Sysno) (value : ℕ) (program : Program) → Makes call (gives value (becomes program ∷ []))
    unfolding performed_row performed
    becomes-finds call value program is tidy = tidy.0.0

    vfork-finds : (call : Sysno) (given : List ℕ) → Makes call (vfork_effect s p id given)
    unfolding vfork_effect
    vfork-finds call given =
        either (Makes call) ((id == agent_id) || not (length p.lwps == 1)) _ _ (fails-finds call Notsup)
        (either (Makes call) (nat_le process_limit s.made) _ _ (fails-finds call Again) (forks-finds call s.made given))

    exec-finds : (call : Sysno) (at : ℕ) → Makes call (exec_effect s p id at)
    unfolding exec_effect
    exec-finds call at = path (id == agent_id) refl (path_at p.space at) refl
      where
        fits : Program → Bool
        fits program = total_has_room s (mapped_size (first_space program)) (given_up s p id)

        named : (name : List ℕ) (o : Option Program) → (id == agent_id) ≡ false → path_at p.space at ≡ Ok name
            → program_named s.programs name ≡ o → Makes call (exec_effect s p id at)
        named name None other is found =
            let e : exec_effect s p id at ≡ fails Noent = rw (other, is, found) refl in
            subst (Makes call) (sym e) (fails-finds call Noent)
        named name (Some program) other is found =
            let e : exec_effect s p id at ≡ cond (fits program) (gives 0 (becomes program ∷ [])) (fails Nomem) =
            rw (other, is, found) refl in
            subst (Makes call) (sym e)
            (either (Makes call) (fits program) _ _ (becomes-finds call 0 program) (fails-finds call Nomem))

        path : (b : Bool) → (id == agent_id) ≡ b → (r : Result (List ℕ) Errno) → path_at p.space at ≡ r
            → Makes call (exec_effect s p id at)
        path true agent r is =
            let e : exec_effect s p id at ≡ fails Notsup = rw agent refl in
            subst (Makes call) (sym e) (fails-finds call Notsup)
        path false other (Err refused) is =
            let e : exec_effect s p id at ≡ fails refused = rw (other, is) refl in
            subst (Makes call) (sym e) (fails-finds call refused)
        path false other (Ok name) is = named name (program_named s.programs name) other is refl

    other-finds : (call : Sysno) (e : Effect) → replaces call ≡ false → Makes call e
    unfolding performed_row
    other-finds call (does result changes) other is tidy = no-way (sym (ap (λ b. b && is_value result) other) ∙ is)
    other-finds call sleeps other is tidy = no-way is
    other-finds call (ends how) other is tidy = absurd (no-value call is)

    woken-finds : (call : Sysno) (e : Effect) → FindsNone (performed_row true call args since e)
    unfolding performed_row
    woken-finds call (does result changes) is tidy = no-way is
    woken-finds call sleeps is tidy = no-way is
    woken-finds call (ends how) is tidy = no-way is

  performed-finds : (woken : Bool) (call : Sysno) (args : List ℕ) (since : ℕ)
      → FindsNone (performed_row woken call args since (call_effect s pid p id l since call args))
  unfolding call_effect
  performed-finds true call args since = woken-finds args since call (call_effect s pid p id l since call args)
  performed-finds false call args since =
      elim (cases_Bool (replaces call)) [
        | inr other ↦ other-finds args since call (call_effect s pid p id l since call args) other
        | inl is ↦
            elim (which call is) [
              | inl vfork ↦ subst Made-by (sym vfork) (vfork-finds args since Vfork args)
              | inr exec ↦ subst Made-by (sym exec) (exec-finds args since Exec (slice_index args 0))
            ]
      ]
    where
      Made-by : Sysno → Type 0
      Made-by c = FindsNone (performed_row false c args since (call_effect s pid p id l since c args))

  -- ---- other rows

  interrupted-finds : (woken : Bool) (call : Sysno) (args : List ℕ) → FindsNone (interrupted_row woken call args)
  unfolding interrupted_row
  interrupted-finds false call args is tidy = absurd (no-value call is)
  interrupted-finds true call args is tidy = no-way is

  returned-finds : (call : Sysno) → FindsNone (returned_row p l call)
  unfolding returned_row
  returned-finds call = either FindsNone l.control.step _ _ (λ is tidy. no-way is) (λ is tidy. no-way is)

  executed-finds : (e : InstructionEffect) → FindsNone (executed_row p l e)
  unfolding executed_row ran_row entered_row incurred_row watched_row
  executed-finds (runs regs store) is tidy =
      either FindsNone l.control.step _ _ (λ is tidy. no-way is) (λ is tidy. no-way is) is tidy
  executed-finds (calls call regs) is tidy = no-way is
  executed-finds (faults f address) is tidy = no-way is
  executed-finds (runs_into_watch address regs store) is tidy = no-way is

  kind-finds : (row : Row) → RowKind s pid p id l row → FindsNone row
  unfolding requested_row posted_row handler_row own_taken_row shared_taken_row
  kind-finds row (kind.returns {call = call} {args = args} {result = result} at none) = returned-finds call
  kind-finds row (kind.executes at none) = executed-finds (instruction_effect p.space p.control.areas l.regs)
  kind-finds row (kind.interrupts {woken = woken} {call = call} {args = args} it why) =
      interrupted-finds woken call args
  kind-finds row (kind.performs {woken = woken} {call = call} {args = args} {since = since} it goes none) =
      performed-finds woken call args since
  kind-finds row _ = λ is tidy. no-way is

  -- ---- what is dropped

  -- beside a hidden agent no such call is granted
  pub none-dropped : (did : Did) → did ≡ (row_for s pid p id l).did
      → AreTidyChanges covers pid p id l (row_for s pid p id l).transition.changes s
      → (c : Cover) → c.patches ≡ (covers pid).patches → (replaces_memory did ≡ true → c.agent ≡ false)
      → without_replaced did c ≡ c
  none-dropped did is tidy c same alone =
      elim (cases_Bool (replaces_memory did)) [
        | inl replaced ↦
            ap (λ b. cond b (with_own_agent false (with_patches [] c)) c) replaced
            ∙ ap (λ (ps : List Patch). with_own_agent false (with_patches ps c))
            (sym (same
            ∙ kind-finds (row_for s pid p id l) (row-kind s pid p id l) (ap replaces_memory (sym is) ∙ replaced) tidy))
            ∙ ap (λ b. with_own_agent b c) (sym (alone replaced))
        | inr other ↦ ap (λ b. cond b (with_own_agent false (with_patches [] c)) c) other
      ]
