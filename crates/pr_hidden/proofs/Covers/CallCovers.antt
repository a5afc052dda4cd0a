use Rattle.std.proofs.Common.{◌≡◌, ◌+◌, ◌-◌, ◌*◌, ◌≤◌, ◌<◌, ℕ, Bool, true, false, eqb, leb, ltb, not, ◌||◌, ◌&&◌, Option, Some, None, Result, Ok, Err, List, [], ◌∷◌, length, take, cond, refl, sym, ◌∙◌, ap, arith, inl, inr}
use Rattle.std.specs.Option.{option_map}
use Rattle.std.specs.List.{list_any, slice_get, slice_index}
use Rattle.std.proofs.lemmas.Bool.{cases_Bool}
use Rattle.std.proofs.lemmas.List.{length-replicate}
use Rattle.pr_num.specs.Agents.{agent_id}
use Rattle.pr_num.specs.Infos.{killed_by, queued_by}
use Rattle.pr_num.specs.Layout.{break_limit, heap_base}
use Rattle.pr_num.specs.Limits.{all_mappings_limit, path_limit, process_limit, sleep_limit, signal_count}
use Rattle.pr_num.specs.Programs.{Program, rounded}
use Rattle.pr_num.specs.Signals.{holdable_word, signal_number, signal_of_number}
use Rattle.pr_num.specs.Spaces.{Space, first_space, mapped_size, mapping_limit}
use Rattle.pr_num.specs.Words.{word_bytes}
use Rattle.pr_num.specs.declared.errnos.Errno.{Errno}
use Rattle.pr_num.specs.declared.errnos.Errno.TheVariants.{Again, Inval, Nomem, Notsup, Srch}
use Rattle.pr_num.specs.declared.infos.Info.{Info}
use Rattle.pr_num.specs.declared.mappings.MappingKind.TheVariants.{Mapped}
use Rattle.pr_num.specs.declared.signals.Sig.{Sig}
use Rattle.pr_num.specs.declared.syscalls.Sysno.{Sysno}
use Rattle.pr_num.specs.declared.syscalls.Sysno.TheVariants as sys
use Rattle.pr_parts.specs.AddressSpaces.{gap_in, has_range, with_break, with_bytes, with_mapping, with_protected, without_range, zeros_at}
use Rattle.pr_parts.specs.FileCalls.{duplicated, sought}
use Rattle.pr_model.specs.CallEffects.{call_effect}
use Rattle.pr_model.specs.Changes.{Effect, becomes, disposition_is, does, ends, ends_process, fails, forks, gives, held_is, makes_lwp, reaps, signals, sleeps, space_is, suspends}
use Rattle.pr_model.specs.FileCallRows.{dup_effect, lseek_effect, word_size}
use Rattle.pr_model.specs.Lives.{by_fork, by_vfork}
use Rattle.pr_model.specs.LwpCalls.{made_registers, lwp_continue_effect, lwp_create_effect, lwp_suspend_effect}
use Rattle.pr_model.specs.MemoryCalls.{brk_effect, can_write, is_mapped_range, mmap_effect, mprotect_effect, munmap_effect, path_at, prot_limit, unless_too_big}
use Rattle.pr_model.specs.ProcessCalls.{exec_effect, exit_effect, fork_effect, given_up, program_named, sleep_effect, vfork_effect, wait_effect}
use Rattle.pr_model.specs.Readers.{Children, Life, all_live, children_among, children_of, first_zombie, life_of, no_child, size_of, sizes_of, total_has_room, total_size}
use Rattle.pr_model.specs.SignalCalls.{Sending, can_be_caught, refuses, send_effect, sending, sends, sends_nothing, sent_effect, sigaction_effect, sigmask_effect, sigreturn_effect}
use Rattle.pr_model.specs.Signals.{disposition_of, is_kill}
use Rattle.pr_model.specs.State.{TracedLwp, TracedProcess, TracedSystem, lwp_of, process_of}
use Rattle.pr_model.specs.declared.frames.Frame.{Frame}
use Rattle.pr_hidden.specs.Covers.{Cover, Covers, Patch, all_kept, patched, process_beneath, seen_under, uncovered, uncovered_lwp, uncovered_process}
use Rattle.pr_hidden.specs.Following.{patched_effect}
use Rattle.pr_hidden.specs.Sparing.{AreWithin, are_spared, spares_call, spares_gap}
use Rattle.pr_hidden.proofs.PatchedSpaces.AccessLemmas.{path-spared}
use Rattle.pr_hidden.proofs.PatchedSpaces.ByteLemmas.{spares-range}
use Rattle.pr_hidden.proofs.Covers.FileCovers.{can-spared, close-patched, file-patched, fstat-patched, one_word, open-patched, pipe-patched, read-patched, store-spared, write-patched}
use Rattle.pr_hidden.proofs.PatchedSpaces.MappingLemmas.{gap-patched, has_range-patched, heap-patched, mapped-patched, mapped_range-patched, mapping-patched, protected-patched, without_range-patched}
use Rattle.pr_hidden.proofs.Covers.StateCovers.{lwps-uncovered, no_agent-keeps, process-uncovered, stands-uncovered}

-- What system calls do, without what is hidden: a line a call. A call that spares the patches does the same in the
-- space as programs have it.

-- ---- what calls read of the rest of the system

children-seen : (covers : Covers) (pid : ℕ) (ps : List (ℕ × TracedProcess))
    → children_among pid (seen_under all_kept (process_beneath covers) ps) ≡ children_among pid ps
unfolding uncovered_process
children-seen covers pid [] = refl
children-seen covers pid (e ∷ es) = rw (children-seen covers pid es) refl

children-uncovered : (covers : Covers) (s : TracedSystem) (pid : ℕ)
    → children_of (uncovered covers s) pid ≡ children_of s pid
unfolding uncovered children_of
children-uncovered covers s pid = children-seen covers pid s.processes

sizes-seen : (covers : Covers) (ps : List (ℕ × TracedProcess))
    → sizes_of (seen_under all_kept (process_beneath covers) ps) ≡ sizes_of ps
unfolding uncovered_process size_of
sizes-seen covers [] = refl
sizes-seen covers (e ∷ es) = rw (mapped-patched (covers e.0).patches e.1.space, sizes-seen covers es) refl

pub room-uncovered : (covers : Covers) (s : TracedSystem) (more less : ℕ)
    → total_has_room (uncovered covers s) more less ≡ total_has_room s more less
unfolding total_has_room total_size uncovered
room-uncovered covers s more less =
    ap (λ n. leb (n + more) (all_mappings_limit + less)) (sizes-seen covers s.processes)

size-uncovered : (c : Cover) (p : TracedProcess) → size_of (uncovered_process c p) ≡ size_of p
unfolding size_of uncovered_process
size-uncovered c p = mapped-patched c.patches p.space

pub life-uncovered : (covers : Covers) (s : TracedSystem) (pid : ℕ) → life_of (uncovered covers s) pid ≡ life_of s pid
unfolding life_of uncovered_process
life-uncovered covers s pid = found (process_of s pid) refl
  where
    ended : (p : TracedProcess) (e : Option ℕ) → p.ended ≡ e → process_of s pid ≡ Some p
        → life_of (uncovered covers s) pid ≡ life_of s pid
    ended p None live is =
        rw (process-uncovered covers s pid ∙ ap (option_map (uncovered_process (covers pid))) is, is, live) refl
    ended p (Some status) over is =
        rw (process-uncovered covers s pid ∙ ap (option_map (uncovered_process (covers pid))) is, is, over) refl

    found : (o : Option TracedProcess) → process_of s pid ≡ o → life_of (uncovered covers s) pid ≡ life_of s pid
    found None is = rw (process-uncovered covers s pid ∙ ap (option_map (uncovered_process (covers pid))) is, is) refl
    found (Some p) is = ended p p.ended refl is

-- ---- effects that leave the space

record LeavesSpace (ps : List Patch) (e : Effect) : Type 0 where
  same : patched_effect ps e ≡ e

unless : (ps : List Patch) (b : Bool) (x y : Effect) → LeavesSpace ps x → LeavesSpace ps y → LeavesSpace ps (cond b x y)
unless ps true x y one other = one
unless ps false x y one other = other

left : (ps : List Patch) (e : Effect) → patched_effect ps e ≡ e → LeavesSpace ps e
left ps e same = record { same = same }

failed : (ps : List Patch) (e : Errno) → LeavesSpace ps (fails e)
failed ps e = record { same = refl }

exit-left : (ps : List Patch) (status : ℕ) → LeavesSpace ps (exit_effect status)
unfolding exit_effect
exit-left ps status = record { same = refl }

sleep-left : (ps : List Patch) (clock since time : ℕ) → LeavesSpace ps (sleep_effect clock since time)
unfolding sleep_effect
sleep-left ps clock since time =
    unless ps _ _ _ (failed ps Inval) (unless ps _ _ _ (left ps (gives 0 []) refl) (left ps sleeps refl))

sent-left : (ps : List Patch) (own target : ℕ) (info : Info) (it : Sending)
    → LeavesSpace ps (sent_effect own target info it)
unfolding sent_effect
sent-left ps own target info (refuses e) = failed ps e
sent-left ps own target info sends_nothing = left ps (gives 0 []) refl
sent-left ps own target info (sends g) =
    unless ps _ _ _ (left ps (ends (ends_process (signal_number g))) refl)
    (left ps (gives 0 (signals target g info ∷ [])) refl)

send-left : (ps : List Patch) (own target number : ℕ) (info : Info) (life : Life)
    → LeavesSpace ps (send_effect own target number info life)
unfolding send_effect
send-left ps own target number info life = sent-left ps own target info (sending target number life)

sigaction-left : (ps : List Patch) (dispositions : List ℕ) (number disposition : ℕ)
    → LeavesSpace ps (sigaction_effect dispositions number disposition)
unfolding sigaction_effect
sigaction-left ps dispositions number disposition = by (signal_of_number number) refl
  where
    caught : (g : Sig) (b : Bool)
        → LeavesSpace ps
        (cond b (gives (disposition_of dispositions g) (disposition_is g disposition ∷ [])) (fails Inval))
    caught g true = record { same = refl }
    caught g false = record { same = refl }

    by : (o : Option Sig) → signal_of_number number ≡ o
        → LeavesSpace ps (sigaction_effect dispositions number disposition)
    by None is = rw is (failed ps Inval)
    by (Some g) is = rw is (caught g (can_be_caught g))

sigmask-left : (ps : List Patch) (held word : ℕ) → LeavesSpace ps (sigmask_effect held word)
unfolding sigmask_effect
sigmask-left ps held word =
    unless ps _ _ _ (left ps (gives held (held_is (holdable_word word) ∷ [])) refl) (failed ps Inval)

sigreturn-left : (ps : List Patch) (frames : List Frame) → LeavesSpace ps (sigreturn_effect frames)
unfolding sigreturn_effect
sigreturn-left ps frames = by (slice_get frames (length frames - 1)) refl
  where
    by : (o : Option Frame) → slice_get frames (length frames - 1) ≡ o → LeavesSpace ps (sigreturn_effect frames)
    by None is = rw is (failed ps Inval)
    by (Some frame) is = rw is (record { same = refl })

fork-left : (ps : List Patch) (s : TracedSystem) (p : TracedProcess) (id : ℕ) (args : List ℕ)
    → LeavesSpace ps (fork_effect s p id args)
unfolding fork_effect
fork-left ps s p id args =
    unless ps _ _ _ (failed ps Notsup)
    (unless ps _ _ _ (failed ps Again)
    (unless ps _ _ _ (left ps (gives s.made (forks by_fork args ∷ [])) refl) (failed ps Nomem)))

vfork-left : (ps : List Patch) (s : TracedSystem) (p : TracedProcess) (id : ℕ) (args : List ℕ)
    → LeavesSpace ps (vfork_effect s p id args)
unfolding vfork_effect
vfork-left ps s p id args =
    unless ps _ _ _ (failed ps Notsup)
    (unless ps _ _ _ (failed ps Again) (left ps (gives s.made (forks by_vfork args ∷ [])) refl))

create-left : (ps : List Patch) (p : TracedProcess) (id held pc sp r1 : ℕ)
    → LeavesSpace ps (lwp_create_effect p id held pc sp r1)
unfolding lwp_create_effect
create-left ps p id held pc sp r1 =
    unless ps _ _ _ (failed ps Notsup)
    (unless ps _ _ _ (failed ps Again)
    (left ps (gives p.next_lwp (makes_lwp p.next_lwp (made_registers pc sp r1) held ∷ [])) refl))

suspend-left : (ps : List Patch) (p : TracedProcess) (id other : ℕ) → LeavesSpace ps (lwp_suspend_effect p id other)
unfolding lwp_suspend_effect
suspend-left ps p id other =
    unless ps _ _ _ (unless ps _ _ _ (failed ps Inval) (left ps (gives 0 (suspends other true ∷ [])) refl))
    (failed ps Srch)

continue-left : (ps : List Patch) (p : TracedProcess) (other : ℕ) → LeavesSpace ps (lwp_continue_effect p other)
unfolding lwp_continue_effect
continue-left ps p other = unless ps _ _ _ (left ps (gives 0 (suspends other false ∷ [])) refl) (failed ps Srch)

-- ---- processes and lwps

fork-uncovered : (covers : Covers) (s : TracedSystem) (c : Cover) (p : TracedProcess) (id : ℕ) (args : List ℕ)
    → fork_effect (uncovered covers s) (uncovered_process c p) id args ≡ fork_effect s p id args
unfolding fork_effect uncovered
fork-uncovered covers s c p id args = rw (size-uncovered c p, room-uncovered covers s (size_of p) 0) refl

vfork-uncovered : (covers : Covers) (s : TracedSystem) (c : Cover) (p : TracedProcess) (id : ℕ) (args : List ℕ)
    → c.agent ≡ false
    → vfork_effect (uncovered covers s) (uncovered_process c p) id args ≡ vfork_effect s p id args
unfolding vfork_effect uncovered
vfork-uncovered covers s c p id args none = rw (lwps-uncovered c p none) refl

given_up-uncovered : (covers : Covers) (s : TracedSystem) (c : Cover) (p : TracedProcess) (id : ℕ)
    → given_up (uncovered covers s) (uncovered_process c p) id ≡ given_up s p id
unfolding given_up uncovered_process size_of
given_up-uncovered covers s c p id = rw (mapped-patched c.patches p.space) refl

exec-uncovered : (covers : Covers) (s : TracedSystem) (c : Cover) (p : TracedProcess) (id at : ℕ)
    → are_spared c.patches at path_limit ≡ true
    → exec_effect (uncovered covers s) (uncovered_process c p) id at
    ≡ patched_effect c.patches (exec_effect s p id at)
unfolding exec_effect uncovered uncovered_process
exec-uncovered covers s c p id at spared = path (eqb id agent_id) refl (path_at p.space at) refl
  where
    fits : (program : Program) (b : Bool)
        → cond b (gives 0 (becomes program ∷ [])) (fails Nomem)
        ≡ patched_effect c.patches (cond b (gives 0 (becomes program ∷ [])) (fails Nomem))
    fits program true = refl
    fits program false = refl

    same_path : path_at (patched c.patches p.space) at ≡ path_at p.space at
    same_path = path-spared c.patches p.space at spared

    named : (name : List ℕ) (o : Option Program) → eqb id agent_id ≡ false → path_at p.space at ≡ Ok name
        → program_named s.programs name ≡ o → exec_effect (uncovered covers s) (uncovered_process c p) id at
        ≡ patched_effect c.patches (exec_effect s p id at)
    named name None other is found = rw (other, same_path ∙ is, is, found) refl
    named name (Some program) other is found =
        rw (
          other,
          same_path ∙ is,
          is,
          found,
          given_up-uncovered covers s c p id,
          room-uncovered covers s (mapped_size (first_space program)) (given_up s p id),
        )
        (fits program (total_has_room s (mapped_size (first_space program)) (given_up s p id)))

    path : (b : Bool) → eqb id agent_id ≡ b → (r : Result (List ℕ) Errno) → path_at p.space at ≡ r
        → exec_effect (uncovered covers s) (uncovered_process c p) id at
        ≡ patched_effect c.patches (exec_effect s p id at)
    path true agent r is = rw agent refl
    path false other (Err e) is = rw (other, same_path ∙ is, is) refl
    path false other (Ok name) is = named name (program_named s.programs name) other is refl

wait-uncovered : (ps : List Patch) → AreWithin ps → (space : Space) (children : Children) (at : ℕ)
    → are_spared ps at word_size ≡ true
    → wait_effect (patched ps space) children at ≡ patched_effect ps (wait_effect space children at)
unfolding wait_effect
wait-uncovered ps within space no_child at spared = refl
wait-uncovered ps within space all_live at spared = refl
wait-uncovered ps within space (first_zombie child status) at spared =
    by (eqb at 0) refl (can_write space at word_size) refl
  where
    by : (n : Bool) → eqb at 0 ≡ n → (w : Bool) → can_write space at word_size ≡ w
        → wait_effect (patched ps space) (first_zombie child status) at
        ≡ patched_effect ps (wait_effect space (first_zombie child status) at)
    by true none w can = rw none refl
    by false some false can = rw (some, can-spared ps within space at word_size spared ∙ can, can) refl
    by false some true can =
        rw (some, can-spared ps within space at word_size spared ∙ can, can)
        (ap (λ (sp : Space). gives child (reaps child ∷ space_is sp ∷ []))
        (store-spared ps within space at word_size (word_bytes status) spared (omega (arith, one_word status))))

create-uncovered : (c : Cover) (p : TracedProcess) (id held pc sp r1 : ℕ) → c.agent ≡ false
    → lwp_create_effect (uncovered_process c p) id held pc sp r1 ≡ lwp_create_effect p id held pc sp r1
unfolding lwp_create_effect uncovered_process
create-uncovered c p id held pc sp r1 none = rw (lwps-uncovered c p none) refl

suspend-uncovered : (c : Cover) (p : TracedProcess) (id other : ℕ) → c.agent ≡ false
    → lwp_suspend_effect (uncovered_process c p) id other ≡ lwp_suspend_effect p id other
unfolding lwp_suspend_effect
suspend-uncovered c p id other none = rw (stands-uncovered c p other (no_agent-keeps c none other)) refl

continue-uncovered : (c : Cover) (p : TracedProcess) (other : ℕ) → c.agent ≡ false
    → lwp_continue_effect (uncovered_process c p) other ≡ lwp_continue_effect p other
unfolding lwp_continue_effect
continue-uncovered c p other none = rw (stands-uncovered c p other (no_agent-keeps c none other)) refl

-- ---- memory

-- another space, of the same size
another : (covers : Covers) (s : TracedSystem) (c : Cover) (p : TracedProcess) (value : ℕ) (space beneath : Space)
    → beneath ≡ patched c.patches space
    → unless_too_big (uncovered covers s) (uncovered_process c p) value beneath
    ≡ patched_effect c.patches (unless_too_big s p value space)
another covers s c p value space beneath is =
    rw (is, mapped-patched c.patches space, size-uncovered c p, room-uncovered covers s (mapped_size space) (size_of p))
    (by (leb (mapped_size space) mapping_limit && total_has_room s (mapped_size space) (size_of p)))
  where
    by : (b : Bool)
        → cond b (gives value (space_is (patched c.patches space) ∷ [])) (fails Nomem)
        ≡ patched_effect c.patches (cond b (gives value (space_is space ∷ [])) (fails Nomem))
    by true = refl
    by false = refl

choose : (ps : List Patch) (b : Bool) (x y new : Effect) → patched_effect ps x ≡ x → new ≡ patched_effect ps y
    → cond b x new ≡ patched_effect ps (cond b x y)
choose ps true x y new same agree = sym same
choose ps false x y new same agree = agree

brk-uncovered : (covers : Covers) (s : TracedSystem) (c : Cover) (p : TracedProcess) (end : ℕ) → AreWithin c.patches
    → are_spared c.patches heap_base (rounded (end - heap_base)) ≡ true
    → brk_effect (uncovered covers s) (uncovered_process c p) end ≡ patched_effect c.patches (brk_effect s p end)
unfolding brk_effect uncovered_process
brk-uncovered covers s c p end within spared =
    let spares = spares-range c.patches heap_base (rounded (end - heap_base)) within spared in
    choose c.patches (ltb end heap_base || ltb break_limit end) (fails Inval)
    (unless_too_big s p 0 (with_break end p.space))
    (unless_too_big (uncovered covers s) (uncovered_process c p) 0 (with_break end (patched c.patches p.space))) refl
    (another covers s c p 0 (with_break end p.space) (with_break end (patched c.patches p.space))
    (heap-patched c.patches (rounded (end - heap_base)) p.space spares))

mmap-uncovered : (covers : Covers) (s : TracedSystem) (c : Cover) (p : TracedProcess) (len prot : ℕ)
    → AreWithin c.patches → spares_gap c.patches (rounded len) (gap_in (rounded len) p.space) ≡ true
    → mmap_effect (uncovered covers s) (uncovered_process c p) len prot
    ≡ patched_effect c.patches (mmap_effect s p len prot)
unfolding mmap_effect uncovered_process
mmap-uncovered covers s c p len prot within spared =
    gap (eqb len 0 || (ltb mapping_limit len || ltb prot_limit prot)) refl (gap_in (rounded len) p.space) refl
  where
    gap : (b : Bool) → (eqb len 0 || (ltb mapping_limit len || ltb prot_limit prot)) ≡ b → (o : Option ℕ)
        → gap_in (rounded len) p.space ≡ o → mmap_effect (uncovered covers s) (uncovered_process c p) len prot
        ≡ patched_effect c.patches (mmap_effect s p len prot)
    gap true refused o is = rw refused refl
    gap false taken None is = rw (taken, gap-patched c.patches (rounded len) p.space ∙ is, is) refl
    gap false taken (Some at) is =
        let spares = spares-range c.patches at (rounded len) within (rw is at spared) in
        let m = zeros_at at (rounded len) prot Mapped in
        rw (taken, gap-patched c.patches (rounded len) p.space ∙ is, is)
        (another covers s c p at (with_mapping m p.space) (with_mapping m (patched c.patches p.space))
        (mapping-patched c.patches m p.space
        (λ a low high. spares a low (omega (arith, length-replicate {A = ℕ} (rounded len) 0)))))

munmap-uncovered : (covers : Covers) (s : TracedSystem) (c : Cover) (p : TracedProcess) (at len : ℕ)
    → munmap_effect (uncovered covers s) (uncovered_process c p) at len
    ≡ patched_effect c.patches (munmap_effect s p at len)
unfolding munmap_effect uncovered_process
munmap-uncovered covers s c p at len =
    rw (
      mapped_range-patched c.patches at (rounded len) p.space,
      without_range-patched c.patches at (rounded len) p.space,
    )
    (by (list_any (is_mapped_range at (rounded len)) p.space))
  where
    by : (b : Bool)
        → cond b (gives 0 (space_is (patched c.patches (without_range at (rounded len) p.space)) ∷ [])) (fails Inval)
        ≡ patched_effect c.patches
        (cond b (gives 0 (space_is (without_range at (rounded len) p.space) ∷ [])) (fails Inval))
    by true = refl
    by false = refl

mprotect-uncovered : (covers : Covers) (s : TracedSystem) (c : Cover) (p : TracedProcess) (at len prot : ℕ)
    → mprotect_effect (uncovered covers s) (uncovered_process c p) at len prot
    ≡ patched_effect c.patches (mprotect_effect s p at len prot)
unfolding mprotect_effect uncovered_process
mprotect-uncovered covers s c p at len prot =
    rw (has_range-patched c.patches at (rounded len) p.space, protected-patched c.patches at (rounded len) prot p.space)
    (by (has_range at (rounded len) p.space && leb prot prot_limit))
  where
    by : (b : Bool)
        → cond b (gives 0 (space_is (patched c.patches (with_protected at (rounded len) prot p.space)) ∷ []))
        (fails Inval)
        ≡ patched_effect c.patches
        (cond b (gives 0 (space_is (with_protected at (rounded len) prot p.space) ∷ [])) (fails Inval))
    by true = refl
    by false = refl

-- ---- the calls

module _ (covers : Covers) (s : TracedSystem) (pid : ℕ) (p : TracedProcess) (id : ℕ) (own : Bool) (l : TracedLwp)
    (c : Cover) (none : c.agent ≡ false) (within : AreWithin c.patches) where
  abbrev Follows : ℕ → Sysno → List ℕ → Type 0
  Follows since call args =
      call_effect (uncovered covers s) pid (uncovered_process c p) id (uncovered_lwp own l) since call args
      ≡ patched_effect c.patches (call_effect s pid p id l since call args)

  pub call-uncovered : (since : ℕ) (call : Sysno) (args : List ℕ) → spares_call c.patches p.space call args ≡ true
      → Follows since call args
  unfolding call_effect spares_call uncovered uncovered_process uncovered_lwp dup_effect lseek_effect
  call-uncovered since sys.Exit args spared = sym (exit-left c.patches (slice_index args 0)).same
  call-uncovered since sys.Fork args spared =
      fork-uncovered covers s c p id args ∙ sym (fork-left c.patches s p id args).same
  call-uncovered since sys.Vfork args spared =
      vfork-uncovered covers s c p id args none ∙ sym (vfork-left c.patches s p id args).same
  call-uncovered since sys.Read args spared =
      read-patched c.patches within s.files p.fds p.space (slice_index args 0) (slice_index args 1) (slice_index args 2)
      spared
  call-uncovered since sys.Write args spared =
      write-patched c.patches within s.files p.fds p.space
      (slice_index args 0) (slice_index args 1) (slice_index args 2) spared
  call-uncovered since sys.Open args spared =
      open-patched c.patches within s.files p.fds p.space (slice_index args 0) (slice_index args 1) spared
  call-uncovered since sys.Close args spared = close-patched c.patches within s.files p.fds p.space (slice_index args 0)
  call-uncovered since sys.Wait args spared =
      ap (λ cs. wait_effect (patched c.patches p.space) cs (slice_index args 0)) (children-uncovered covers s pid)
      ∙ wait-uncovered c.patches within p.space (children_of s pid) (slice_index args 0) spared
  call-uncovered since sys.Getpid args spared = refl
  call-uncovered since sys.Getppid args spared = refl
  call-uncovered since sys.Exec args spared = exec-uncovered covers s c p id (slice_index args 0) spared
  call-uncovered since sys.Pipe args spared =
      pipe-patched c.patches within s.files p.fds p.space (slice_index args 0) spared
  call-uncovered since sys.Dup args spared =
      sym (file-patched c.patches (duplicated s.files p.fds (slice_index args 0)))
  call-uncovered since sys.Lseek args spared =
      sym (file-patched c.patches (sought s.files p.fds (slice_index args 0) (slice_index args 1)))
  call-uncovered since sys.Kill args spared =
      ap (send_effect pid (slice_index args 0) (slice_index args 1) (killed_by pid))
      (life-uncovered covers s (slice_index args 0))
      ∙ sym (send-left c.patches pid (slice_index args 0) (slice_index args 1) (killed_by pid)
      (life_of s (slice_index args 0))).same
  call-uncovered since sys.Sigaction args spared =
      sym (sigaction-left c.patches p.dispositions (slice_index args 0) (slice_index args 1)).same
  call-uncovered since sys.Sigmask args spared = sym (sigmask-left c.patches l.held (slice_index args 0)).same
  call-uncovered since sys.Pause args spared = refl
  call-uncovered since sys.Sigreturn args spared = sym (sigreturn-left c.patches l.frames).same
  call-uncovered since sys.Brk args spared = brk-uncovered covers s c p (slice_index args 0) within spared
  call-uncovered since sys.Mmap args spared =
      mmap-uncovered covers s c p (slice_index args 0) (slice_index args 1) within spared
  call-uncovered since sys.Munmap args spared = munmap-uncovered covers s c p (slice_index args 0) (slice_index args 1)
  call-uncovered since sys.Mprotect args spared =
      mprotect-uncovered covers s c p (slice_index args 0) (slice_index args 1) (slice_index args 2)
  call-uncovered since sys.Time args spared = refl
  call-uncovered since sys.Sleep args spared = sym (sleep-left c.patches s.clock since (slice_index args 0)).same
  call-uncovered since sys.LwpCreate args spared =
      create-uncovered c p id l.held (slice_index args 0) (slice_index args 1) (slice_index args 2) none
      ∙ sym (create-left c.patches p id l.held (slice_index args 0) (slice_index args 1) (slice_index args 2)).same
  call-uncovered since sys.LwpExit args spared = refl
  call-uncovered since sys.LwpSuspend args spared =
      suspend-uncovered c p id (slice_index args 0) none ∙ sym (suspend-left c.patches p id (slice_index args 0)).same
  call-uncovered since sys.LwpContinue args spared =
      continue-uncovered c p (slice_index args 0) none ∙ sym (continue-left c.patches p (slice_index args 0)).same
  call-uncovered since sys.Fstat args spared =
      fstat-patched c.patches within s.files p.fds p.space (slice_index args 0) (slice_index args 1) spared
  call-uncovered since sys.Sigqueue args spared =
      ap (send_effect pid (slice_index args 0) (slice_index args 1) (queued_by pid (slice_index args 2)))
      (life-uncovered covers s (slice_index args 0))
      ∙ sym (send-left c.patches pid (slice_index args 0) (slice_index args 1) (queued_by pid (slice_index args 2))
      (life_of s (slice_index args 0))).same

pub ruleset follows = (call-uncovered)
