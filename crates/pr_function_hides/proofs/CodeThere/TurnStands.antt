use Rattle.std.proofs.Common.{◌≡◌, ◌==◌, ℕ, Bool, true, false, cond, ltb, None, Some, Option, List, [], ◌∷◌, Result, Ok, Err, length, refl, sym, subst, ap, ◌∙◌}
use Rattle.std.proofs.lemmas.Bool.{false≢true}
use Rattle.std.proofs.lemmas.Option.{none-some, same_Some}
use Rattle.pr_function_hides.proofs.StoppedCopies.RefusedCopies.{call_in, performed-call, refused-leaves}
use Rattle.pr_function_hides.specs.CountedFunctions.{LeavesAlone, StoresBeside, WorksBeside, takes_memory}
use Rattle.pr_function_hides.specs.Copying.{makes_copy}
use Rattle.pr_hidden.proofs.PatchedSpaces.ByteLemmas.{spares-range}
use Rattle.pr_hidden.proofs.Covers.CallCovers.{call-uncovered}
use Rattle.pr_hidden.proofs.PatchedSpaces.PatchLemmas.{patched-store}
use Rattle.pr_hidden.specs.Covers.{Cover, Patch, keeps_lwp, lwp_beneath, no_cover, seen_under, uncovered, uncovered_lwp, uncovered_process}
use Rattle.pr_hidden.specs.Following.{patched_change, patched_changes, patched_effect}
use Rattle.pr_hidden.specs.Hiders.{no_covers}
use Rattle.pr_hidden.specs.Sparing.{AreWithin, spares_call}
use Rattle.pr_hidden.specs.Tidiness.{AreTidyChanges}
use Rattle.pr_keeps.proofs.KeepsLemmas.{choice}
use Rattle.pr_keeps.proofs.RowLemmas.{row-kind}
use Rattle.pr_keeps.specs.RowKinds as kind
use Rattle.pr_keeps.specs.RowKinds.{RowKind}
use Rattle.pr_model.specs.CallEffects.{call_effect}
use Rattle.pr_model.specs.Changes.{Change, Effect, becomes, changed, does, ends, forks, sleeps, space_is}
use Rattle.pr_model.specs.InstructionEffects.{InstructionEffect, Store, calls, faults, instruction_effect, runs, runs_into_watch}
use Rattle.pr_model.specs.Lives.{by_fork, by_vfork}
use Rattle.pr_model.specs.Machines.{traced}
use Rattle.pr_model.specs.MemoryCalls.{path_at}
use Rattle.pr_model.specs.ProcessCalls.{exec_effect, fork_effect, given_up, program_named}
use Rattle.pr_model.specs.Readers.{size_of, total_has_room}
use Rattle.pr_model.specs.Registers.{arguments}
use Rattle.pr_model.specs.Rows.{Row, acted_row, call_row, caught_row, current_row_or, entered_row, executed_row, finished, handler_row, incurred_row, interrupted_row, own_taken_row, performed_row, posted_row, posted_row_or, ran_row, requested_row, returned_row, row_for, row_in, shared_taken_row, signal_row_or, taken_or, watched_row}
use Rattle.pr_model.specs.Signals.{action_for, own_takeable, shared_takeable}
use Rattle.pr_model.specs.State.{TracedLwp, TracedProcess, TracedSystem}
use Rattle.pr_model.specs.Transitions.{Transition, died, dropped, entered, handled, incurred, interrupted, job_stopped, own_taken, performed, posted, ran, requested, returned, shared_taken, stored_in, trapped}
use Rattle.pr_model.specs.declared.events.Did.{Did}
use Rattle.pr_model.specs.declared.events.Did.TheVariants.{Made, Woke}
use Rattle.pr_model.specs.declared.events.Res.{Res}
use Rattle.pr_model.specs.declared.events.Res.TheVariants.{Value}
use Rattle.pr_model.specs.declared.lwps.Current.{Current}
use Rattle.pr_model.specs.declared.lwps.Phase.{Phase}
use Rattle.pr_model.specs.declared.lwps.Phase.TheVariants.{User, Entered, Asleep, Exiting, Faulted}
use Rattle.pr_num.specs.Agents.{agent_id}
use Rattle.pr_num.specs.Limits.{frame_limit, process_limit}
use Rattle.pr_num.specs.Programs.{Program}
use Rattle.pr_num.specs.Spaces.{Space, first_space, mapped_size}
use Rattle.pr_num.specs.Syscalls.{is_fork_call}
use Rattle.pr_num.specs.declared.errnos.Errno.{Errno}
use Rattle.pr_num.specs.declared.signals.Sig.{Sig}
use Rattle.pr_num.specs.declared.syscalls.Sysno.{Sysno}
use Rattle.pr_num.specs.declared.syscalls.Sysno.TheVariants as sys
use Rattle.pr_parts.specs.AddressSpaces.{with_bytes}
use Rattle.pr_parts.specs.declared.actions.Action.{Action}
use Rattle.pr_parts.specs.declared.actions.Action.TheVariants as act
use Rattle.pr_probe_laws.proofs.Hiding.TidyEffects.{IsCopying}
use Rattle.pr_probe_laws.proofs.Hiding.TidyTurns.{none-spared, row-tidy}
use Rattle.pr_truss.specs.FunctionEvents.{copies_memory, is_exec}
use Rattle.std.proofs.Common.{nat_le}

-- What a turn makes of the code of a function that programs leave alone: where it stands it stands after the turn, but
-- where the memory is replaced, or a child has it too.

module _ (f : Patch) where
  -- the code stands in a space
  abbrev pub Stands : Space → Type 0
  Stands space = with_bytes f.at f.bytes space ≡ space

  -- a change leaves it
  abbrev pub Keeps : Change → Type 0
  Keeps (space_is space) = Stands space
  Keeps (forks by_vfork args) = ⊥
  Keeps (becomes program) = ⊥
  Keeps c = Unit {0}

  abbrev pub KeepAll : List Change → Type 0
  KeepAll [] = Unit {0}
  KeepAll (c ∷ cs) = Keeps c × KeepAll cs

module _ (f : Patch) (within : AreWithin (f ∷ [])) where
  -- ---- the spaces that the changes of a turn leave

  abbrev pub SpaceStands : Change → Type 0
  SpaceStands (space_is space) = Stands f space
  SpaceStands c = Unit {0}

  abbrev pub SpacesStand : List Change → Type 0
  SpacesStand [] = Unit {0}
  SpacesStand (c ∷ cs) = SpaceStands c × SpacesStand cs

  abbrev EffectStands : Effect → Type 0
  EffectStands (does result changes) = SpacesStand changes
  EffectStands sleeps = Unit {0}
  EffectStands (ends how) = Unit {0}

  abbrev pub RowStands : Row → Type 0
  RowStands row = SpacesStand row.transition.changes

  space-same : {a b : Space} → space_is a ≡ space_is b → a ≡ b
  space-same e = cc

  cons-same : {x y : Change} {xs ys : List Change} → x ∷ xs ≡ y ∷ ys → (x ≡ y) × (xs ≡ ys)
  cons-same e = (cc, cc)

  does-same : {r q : Res} {xs ys : List Change} → does r xs ≡ does q ys → xs ≡ ys
  does-same e = cc

  change-stands : (c : Change) → patched_change (f ∷ []) c ≡ patched_change [] c → SpaceStands c
  change-stands (space_is space) same = space-same same
  change-stands _ same = tt

  changes-stand : (cs : List Change) → patched_changes (f ∷ []) cs ≡ patched_changes [] cs → SpacesStand cs
  changes-stand [] same = tt
  changes-stand (c ∷ cs) same =
      let both = cons-same same in (change-stands c both.0, changes-stand cs both.1)

  effect-stands : (e : Effect) → patched_effect (f ∷ []) e ≡ patched_effect [] e → EffectStands e
  effect-stands (does result changes) same = changes-stand changes (does-same same)
  effect-stands sleeps same = tt
  effect-stands (ends how) same = tt

  abbrev cover : Cover
  cover = record { patches = f ∷ []; faulted = λ id. false; agent = false }

  one-of : (b : Bool) (x y : Effect) → EffectStands x → EffectStands y → EffectStands (cond b x y)
  one-of true x y one two = one
  one-of false x y one two = two

  module _ (s : TracedSystem) (pid : ℕ) (p : TracedProcess) (id : ℕ) (l : TracedLwp) (stands : Stands f p.space) where
    alike : uncovered_process cover p ≡ uncovered_process no_cover p
    unfolding uncovered_process
    alike =
        ap
        (λ (sp : Space).
        record p { space = sp; lwps = seen_under (keeps_lwp no_cover) (lwp_beneath no_cover) p.lwps }) stands

    call-stands : (since : ℕ) (call : Sysno) (args : List ℕ) → spares_call (f ∷ []) p.space call args ≡ true
        → EffectStands (call_effect s pid p id l since call args)
    call-stands since call args spared =
        let bare = none-spared p (record l { phase = Asleep call args since }) in
        let one = call-uncovered no_covers s pid p id false l cover refl within since call args spared in
        let none =
        call-uncovered no_covers s pid p id false l no_cover refl tt since call args (bare.asleep call args since refl)
        in
        effect-stands (call_effect s pid p id l since call args)
        (sym one
        ∙ ap
        (λ (x : TracedProcess).
        call_effect (uncovered no_covers s) pid x id (uncovered_lwp false l) since call args) alike ∙ none)

    -- an exec leaves no space of its process
    exec-stands : (at : ℕ) → EffectStands (exec_effect s p id at)
    unfolding exec_effect
    exec-stands at = by (path_at p.space at) refl
      where
        run : (name : List ℕ) (o : Option Program) → path_at p.space at ≡ Ok name → program_named s.programs name ≡ o
            → EffectStands (exec_effect s p id at)
        run name None is found = rw (is, found) (one-of (id == agent_id) _ _ tt tt)
        run name (Some program) is found =
            rw (is, found) (one-of (id == agent_id) _ _ tt
            (one-of (total_has_room s (mapped_size (first_space program)) (given_up s p id)) _ _ (tt, tt) tt))

        by : (r : Result (List ℕ) Errno) → path_at p.space at ≡ r → EffectStands (exec_effect s p id at)
        by (Err e) is = rw is (one-of (id == agent_id) _ _ tt tt)
        by (Ok name) is = run name (program_named s.programs name) is refl

    any-call-stands : (since : ℕ) (call : Sysno) (args : List ℕ)
        → (is_exec call ≡ false → spares_call (f ∷ []) p.space call args ≡ true)
        → EffectStands (call_effect s pid p id l since call args)
    unfolding call_effect
    any-call-stands since sys.Exec args spared = exec-stands _
    any-call-stands since call args spared = call-stands since call args (spared refl)

    -- ---- the rows

    performed-stands : (woken : Bool) (call : Sysno) (args : List ℕ) (since : ℕ) (e : Effect) → EffectStands e
        → RowStands (performed_row woken call args since e)
    unfolding performed_row performed
    performed-stands woken call args since (does result changes) it = it
    performed-stands woken call args since sleeps it = tt
    performed-stands woken call args since (ends how) it = tt

    called-stands : (woken : Bool) (call : Sysno) (args : List ℕ) (since : ℕ)
        → (is_exec call ≡ false → spares_call (f ∷ []) p.space call args ≡ true)
        → RowStands (call_row s pid p id l woken call args since)
    unfolding call_row interrupted_row interrupted
    called-stands woken call args since spared =
        choice RowStands l.control.abort _ _ (λ aborted. tt)
        (λ goes. performed-stands woken call args since _ (any-call-stands since call args spared))

    stored-stands : (store : Option Store) → StoresBeside f store → SpacesStand (stored_in p.space store)
    unfolding stored_in
    stored-stands None beside = tt
    stored-stands (Some store) beside = (
      patched-store (f ∷ []) store.at store.bytes
          (spares-range (f ∷ []) store.at (length store.bytes) within beside) p.space
          ∙ ap (with_bytes store.at store.bytes) stands,
      tt,
    )

    executed-stands : (e : InstructionEffect) → WorksBeside f e → RowStands (executed_row p l e)
    unfolding executed_row ran_row entered_row incurred_row watched_row ran entered incurred trapped
    executed-stands (runs regs store) beside =
        choice RowStands l.control.step _ _ (λ marked. stored-stands store beside) (λ free. stored-stands store beside)
    executed-stands (calls call regs) beside = tt
    executed-stands (faults fault address) beside = tt
    executed-stands (runs_into_watch address regs store) beside = stored-stands store beside

    returned-stands : (call : Sysno) → RowStands (returned_row p l call)
    unfolding returned_row returned trapped stored_in
    returned-stands call = choice RowStands l.control.step _ _ (λ marked. tt) (λ free. tt)

    handler-stands : (c : Current) (handler : ℕ) → RowStands (handler_row l c handler)
    unfolding handler_row handled
    handler-stands c handler =
        choice (λ (t : Transition). SpacesStand t.changes) (ltb (length l.frames) frame_limit) _ _ (λ room. tt)
        (λ full. tt)

    caught-stands : (c : Current) (handler : ℕ) (phase : Phase) → RowStands (caught_row l c handler phase)
    unfolding caught_row interrupted_row interrupted
    caught-stands c handler (Entered call) = tt
    caught-stands c handler (Asleep call args since) = tt
    caught-stands c handler User = handler-stands c handler
    caught-stands c handler (Exiting call args result) = handler-stands c handler
    caught-stands c handler (Faulted fault address) = handler-stands c handler

    acted-stands : (it : Current) → RowStands (acted_row p l it)
    unfolding acted_row dropped job_stopped died
    acted-stands it = by (action_for p.dispositions it.signal) refl
      where
        by : (a : Action) → action_for p.dispositions it.signal ≡ a → RowStands (acted_row p l it)
        by act.Ignore is = rw is tt
        by act.Stop is = rw is (tt, tt)
        by act.Die is = rw is tt
        by (act.Catch handler) is = rw is (caught-stands it handler l.phase)

    taken-stands : (own shared : Option Sig) (row : Row) → (own ≡ None → shared ≡ None → RowStands row)
        → RowStands (taken_or s pid p id l own shared row)
    unfolding own_taken_row own_taken shared_taken_row shared_taken
    taken-stands (Some g) shared row rest = tt
    taken-stands None (Some g) row rest = (tt, tt)
    taken-stands None None row rest = rest refl refl

    current-stands : (o : Option Current) (row : Row) → (o ≡ None → RowStands row)
        → RowStands (current_row_or s pid p id l o row)
    current-stands (Some it) row rest = acted-stands it
    current-stands None row rest = rest refl

    phase-stands : LeavesAlone f p l → l.control.directed ≡ false → (phase : Phase) → l.phase ≡ phase
        → RowStands (posted_row_or s pid p id l phase
        (current_row_or s pid p id l l.current (signal_row_or s pid p id l phase (row_in s pid p id l phase))))
    unfolding signal_row_or row_in posted_row posted
    phase-stands alone going User is =
        current-stands l.current _ (λ current.
        taken-stands (own_takeable l) (shared_takeable p l) _ (λ own shared.
        executed-stands (instruction_effect p.space p.control.areas l.regs)
        (alone.instruction (record {
          not_directed = going;
          in_program = is;
          no_current = current;
          none_own = own;
          none_shared = shared;
        }))))
    phase-stands alone going (Entered call) is =
        current-stands l.current _ (λ current.
        called-stands false call (arguments l.regs) s.clock (alone.called call is))
    phase-stands alone going (Asleep call args since) is =
        current-stands l.current _ (λ current.
        taken-stands (own_takeable l) (shared_takeable p l) _ (λ own shared.
        called-stands true call args since (alone.asleep call args since is)))
    phase-stands alone going (Exiting call args result) is =
        current-stands l.current _ (λ current.
        taken-stands (own_takeable l) (shared_takeable p l) _ (λ own shared. returned-stands call))
    phase-stands alone going (Faulted fault address) is = tt

    pub row-stands : (l.control.directed ≡ false → LeavesAlone f p l) → RowStands (row_for s pid p id l)
    unfolding row_for requested_row requested
    row-stands alone =
        choice RowStands l.control.directed _ _ (λ directed. tt)
        (λ going. phase-stands (alone going) going l.phase refl)

  -- ---- the memory is neither replaced nor lent

  abbrev pub Frees : Change → Type 0
  Frees (forks by_vfork args) = ⊥
  Frees (becomes program) = ⊥
  Frees c = Unit {0}

  abbrev pub FreeAll : List Change → Type 0
  FreeAll [] = Unit {0}
  FreeAll (c ∷ cs) = Frees c × FreeAll cs

  both-keep : (cs : List Change) → SpacesStand cs → FreeAll cs → KeepAll f cs
  both-keep [] one two = tt
  both-keep (c ∷ cs) one two = (by c one.0 two.0, both-keep cs one.1 two.1)
    where
      by : (d : Change) → SpaceStands d → Frees d → Keeps f d
      by (space_is space) it free = it
      by (forks by_vfork args) it free = free
      by (becomes program) it free = free
      by (forks by_fork args) it free = tt
      by _ it free = tt

  module _ (s : TracedSystem) (pid : ℕ) (p : TracedProcess) (id : ℕ) (l : TracedLwp) where
    -- changes that are tidy beside a patch make no child and run no other program
    tidy-frees : (cs : List Change) (u : TracedSystem) → AreTidyChanges (λ n. cover) pid p id l cs u → FreeAll cs
    tidy-frees [] u tidy = tt
    tidy-frees (c ∷ cs) u tidy = (by c tidy, tidy-frees cs (changed traced pid p id l c u) tidy.1)
      where
        some : {A : Type 0} → f ∷ [] ≡ [] → A
        some e = absurd (cc)

        by : (d : Change) → AreTidyChanges (λ n. cover) pid p id l (d ∷ cs) u → Frees d
        by (forks birth args) it = some it.0
        by (becomes program) it = some it.0.0
        by _ it = tt

    abbrev row : Row
    row = row_for s pid p id l

    performs : (woken : Bool) (c : Sysno) (args : List ℕ) (since : ℕ)
        → row ≡ performed_row woken c args since (call_effect s pid p id l since c args) → call_in row.did ≡ Some c
    performs woken c args since is =
        ap (λ (r : Row). call_in r.did) is
        ∙ performed-call woken c args since (call_effect s pid p id l since c args)

    copying-copies : (c : Sysno) → IsCopying c → copies_memory c ≡ true
    unfolding copies_memory is_fork_call
    copying-copies sys.Fork copying = refl
    copying-copies sys.Vfork copying = refl
    copying-copies sys.Exec copying = refl
    copying-copies _ copying = absurd copying

    -- a call that copies no memory, or no call
    plain-frees : ((c : Sysno) → call_in row.did ≡ Some c → copies_memory c ≡ false) → FreeAll row.transition.changes
    plain-frees plain =
        tidy-frees row.transition.changes s
        (row-tidy (λ n. cover) s pid p id l (record { alike = λ lender lends. refl })
        (λ woken c args since copying is.
        absurd (false≢true (sym (plain c (performs woken c args since is)) ∙ copying-copies c copying)))
        (λ target killed. record { returnable = λ q live. record { alike = λ lender lends. refl } }))

    -- ---- a fork

    abbrev EffectFrees : Effect → Type 0
    EffectFrees (does result changes) = FreeAll changes
    EffectFrees sleeps = Unit {0}
    EffectFrees (ends how) = Unit {0}

    either-frees : (b : Bool) (x y : Effect) → EffectFrees x → EffectFrees y → EffectFrees (cond b x y)
    either-frees true x y one two = one
    either-frees false x y one two = two

    fork-frees : (args : List ℕ) → EffectFrees (fork_effect s p id args)
    unfolding fork_effect
    fork-frees args =
        either-frees (id == agent_id) _ _ tt
        (either-frees (nat_le process_limit s.made) _ _ tt
        (either-frees (total_has_room s (size_of p) 0) _ _ (tt, tt) tt))

    abbrev ForkFrees : Row → Type 0
    ForkFrees r = call_in r.did ≡ Some sys.Fork → FreeAll r.transition.changes

    performed-frees : (woken : Bool) (call : Sysno) (args : List ℕ) (since : ℕ) (e : Effect)
        → (call ≡ sys.Fork → EffectFrees e) → ForkFrees (performed_row woken call args since e)
    unfolding performed_row performed
    performed-frees woken call args since sleeps frees is = tt
    performed-frees woken call args since (ends how) frees is = tt
    performed-frees woken call args since (does result changes) frees is = frees (own woken is)
      where
        own : (b : Bool) → call_in (finished b call result) ≡ Some sys.Fork → call ≡ sys.Fork
        own true same = cc
        own false same = cc

    call-frees : (since : ℕ) (call : Sysno) (args : List ℕ) → call ≡ sys.Fork
        → EffectFrees (call_effect s pid p id l since call args)
    unfolding call_effect
    call-frees since sys.Fork args is = fork-frees args
    call-frees since call args is =
        subst (λ c. EffectFrees (call_effect s pid p id l since c args)) (sym is) (fork-frees args)

    ran-frees : (e : InstructionEffect) → ForkFrees (executed_row p l e)
    unfolding ran_row entered_row incurred_row watched_row executed_row
    ran-frees (runs regs store) =
        choice ForkFrees l.control.step _ _ (λ marked is. absurd (none-some sys.Fork is))
        (λ free is. absurd (none-some sys.Fork is))
    ran-frees (calls call regs) = λ is. absurd (none-some sys.Fork is)
    ran-frees (faults fault address) = λ is. absurd (none-some sys.Fork is)
    ran-frees (runs_into_watch address regs store) = λ is. absurd (none-some sys.Fork is)

    kind-frees : (r : Row) → RowKind s pid p id l r → ForkFrees r
    unfolding requested_row posted_row handler_row own_taken_row shared_taken_row interrupted_row interrupted
        returned_row
    kind-frees r (kind.interrupts it why) = λ is. tt
    kind-frees r (kind.performs {woken = woken} {call = call} {args = args} {since = since} it goes none) =
        performed-frees woken call args since _ (call-frees since call args)
    kind-frees r (kind.returns at none) =
        choice ForkFrees l.control.step _ _ (λ marked is. absurd (none-some sys.Fork is))
        (λ free is. absurd (none-some sys.Fork is))
    kind-frees r (kind.executes at none) = ran-frees (instruction_effect p.space p.control.areas l.regs)
    kind-frees r _ = λ is. absurd (none-some sys.Fork is)

    -- ---- any turn

    granted-fork : (did : Did) (c : Sysno) → call_in did ≡ Some c → makes_copy did ≡ true → takes_memory did ≡ false
        → copies_memory c ≡ true → c ≡ sys.Fork
    unfolding copies_memory is_fork_call
    granted-fork (Made call (Value value)) c is copies takes copying = by call c is copies takes
      where
        by : (a b : Sysno) → call_in (Made a (Value value)) ≡ Some b → makes_copy (Made a (Value value)) ≡ true
            → takes_memory (Made a (Value value)) ≡ false → b ≡ sys.Fork
        by sys.Fork b same made free = cc
        by sys.Vfork b same made free = absurd (false≢true (sym free))
        by sys.Exec b same made free = absurd (false≢true (sym free))
        by _ b same made free = absurd (false≢true made)
    granted-fork (Woke call (Value value)) c is copies takes copying = by call c is copies takes
      where
        by : (a b : Sysno) → call_in (Woke a (Value value)) ≡ Some b → makes_copy (Woke a (Value value)) ≡ true
            → takes_memory (Woke a (Value value)) ≡ false → b ≡ sys.Fork
        by sys.Fork b same made free = cc
        by sys.Vfork b same made free = absurd (false≢true (sym free))
        by sys.Exec b same made free = absurd (false≢true (sym free))
        by _ b same made free = absurd (false≢true made)
    granted-fork _ c is copies takes copying = absurd (false≢true copies)

    pub row-frees : takes_memory row.did ≡ false → FreeAll row.transition.changes
    row-frees takes = by (call_in row.did) refl
      where
        copying : (c : Sysno) → call_in row.did ≡ Some c → copies_memory c ≡ true → (b : Bool) → makes_copy row.did ≡ b
            → FreeAll row.transition.changes
        copying c its copies true granted =
            kind-frees row (row-kind s pid p id l)
            (its ∙ ap (λ (x : Sysno). Some x) (granted-fork row.did c its granted takes copies))
        copying c its copies false refused =
            subst FreeAll (sym (refused-leaves s pid p id l c copies its refused)) tt

        called : (c : Sysno) → call_in row.did ≡ Some c → (b : Bool) → copies_memory c ≡ b
            → FreeAll row.transition.changes
        called c its true copies = copying c its copies (makes_copy row.did) refl
        called c its false plain =
            plain-frees (λ d same. ap copies_memory (same_Some d c (sym same ∙ its)) ∙ plain)

        by : (o : Option Sysno) → call_in row.did ≡ o → FreeAll row.transition.changes
        by None none = plain-frees (λ d same. absurd (none-some d (sym none ∙ same)))
        by (Some c) its = called c its (copies_memory c) refl

    pub row-keeps : Stands f p.space → (l.control.directed ≡ false → LeavesAlone f p l) → takes_memory row.did ≡ false
        → KeepAll f row.transition.changes
    row-keeps stands alone takes =
        both-keep row.transition.changes (row-stands s pid p id l stands alone) (row-frees takes)
