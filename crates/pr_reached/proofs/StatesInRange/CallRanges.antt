use Rattle.std.proofs.Common.{◌≡◌, ◌⊎◌, ◌&&◌, ◌||◌, ℕ, ◌+◌, ◌*◌, ◌-◌, ◌^◌, ◌<◌, ◌≤◌, true, false, is_none, IsSome, eqb, ltb, leb, Option, Some, None, Result, Ok, Err, List, [], ◌∷◌, ◌++◌, length, get_or, set, replicate, take, refl, arith, inl, inr, ◌==◌, not}
use Rattle.std.specs.List.{All, list_any, slice_get}
use Rattle.std.specs.Option.{option_and_then}
use Rattle.std.proofs.lemmas.Bool.{and_parts, eqb-false, or_parts, false≢true, leb-true, ltb-false, ltb-true}
use Rattle.std.proofs.lemmas.List.Elements.{All-cons, All-head, All-nil, All-append, All-tail, All-take}
use Rattle.pr_codec.proofs.WordLemmas.{AreBytes-word_bytes}
use Rattle.pr_num.proofs.ByIdLaws.{All-under}
use Rattle.pr_num.proofs.SearchLemmas.{All-at}
use Rattle.pr_num.proofs.SetLemmas.{without_number-le}
use Rattle.pr_num.specs.Agents.{agent_id}
use Rattle.pr_num.specs.Control.{prot_read}
use Rattle.pr_num.specs.Files.{FileTable}
use Rattle.pr_num.specs.Infos.{killed_by, queued_by}
use Rattle.pr_num.specs.Layout.{heap_base, break_limit}
use Rattle.pr_num.specs.Limits.{last_lwp, lwp_limit, process_limit, signal_count, sleep_limit, transfer_limit}
use Rattle.pr_num.specs.Programs.{Program, rounded}
use Rattle.pr_num.specs.Sets.{without_number}
use Rattle.pr_num.specs.Signals.{holdable_word, signal_number, signal_of_number}
use Rattle.pr_num.specs.Spaces.{IsSpace, Space, bytes_for, first_space, mapped_size, mapping_limit}
use Rattle.pr_num.specs.Words.{IsByte, IsWord, word_bytes}
use Rattle.pr_num.specs.declared.errnos.Errno.{Errno}
use Rattle.pr_num.specs.declared.infos.Info.{Info}
use Rattle.pr_num.specs.declared.mappings.BadByte.{BadByte}
use Rattle.pr_num.specs.declared.mappings.MappingKind.TheVariants.{Mapped}
use Rattle.pr_num.specs.declared.signals.Sig.{Sig}
use Rattle.pr_num.specs.declared.signals.Sig.TheVariants.{Kill, Stop}
use Rattle.pr_num.specs.declared.syscalls.Sysno.{Sysno}
use Rattle.pr_num.specs.declared.syscalls.Sysno.TheVariants as sys
use Rattle.pr_parts.specs.AddressSpaces.{with_bytes, with_break, gap_in, with_mapping, zeros_at, has_range, without_range, with_protected}
use Rattle.pr_parts.specs.FileCalls.{FileEffect, are_open_flags, closed, described, duplicated, open_for_reading, open_for_writing, opened, piped, sought}
use Rattle.pr_parts.specs.FileTransfers.{read_fd, write_fd}
use Rattle.pr_parts.specs.declared.files.FileNo.{FileNo}
use Rattle.pr_parts.specs.declared.files.FileNo.TheVariants.{Sleep, NoReader}
use Rattle.pr_parts.specs.declared.files.Stat.{Stat}
use Rattle.pr_lawful.proofs.LawfulTurns.EffectLemmas.{IsActing, own-process}
use Rattle.pr_lawful.proofs.ProcessParts.FileLemmas.{choice}
use Rattle.pr_model.specs.CallEffects.{call_effect}
use Rattle.pr_model.specs.Changes.{Change, files_are, space_is, signals, signals_itself, disposition_is, held_is, resumes, forks, reaps, becomes, makes_lwp, suspends, Effect, does, sleeps, ends, gives}
use Rattle.pr_model.specs.FileCallRows.{read_effect, write_effect, open_effect, close_effect, pipe_effect, dup_effect, lseek_effect, fstat_effect, refusal_effect, file_effect, word_size}
use Rattle.pr_model.specs.Lawful.{HasParent, IsLawfulSystem, IsNumberedBelow}
use Rattle.pr_model.specs.LwpCalls.{lwp_create_effect, lwp_suspend_effect, lwp_continue_effect, can_be_named, made_registers}
use Rattle.pr_model.specs.MemoryCalls.{can_write, path_at, brk_effect, mmap_effect, munmap_effect, mprotect_effect, unless_too_big, is_mapped_range, prot_limit}
use Rattle.pr_model.specs.Lives.{by_fork, by_vfork}
use Rattle.pr_model.specs.ProcessCalls.{exit_effect, fork_effect, is_program_of, wait_effect, exec_effect, sleep_effect, program_named, vfork_effect, given_up}
use Rattle.pr_model.specs.Readers.{Life, Children, no_child, all_live, first_zombie, child_before, children_among, children_of, life_of, size_of, total_has_room}
use Rattle.pr_model.specs.Registers.{with_sp}
use Rattle.pr_model.specs.SignalCalls.{Sending, refuses, sends_nothing, sends, sending, sent_effect, send_effect, can_be_caught, sigaction_effect, sigmask_effect, sigreturn_effect}
use Rattle.pr_model.specs.Signals.{disposition_of, is_kill}
use Rattle.pr_model.specs.State.{TracedLwp, TracedProcess, TracedSystem, if_live, live_process, process_of}
use Rattle.pr_model.specs.declared.frames.Frame.{Frame}
use Rattle.pr_reached.proofs.StatesInRange.ChangeRanges.{IsChangeInRange}
use Rattle.pr_reached.proofs.StatesInRange.EndRanges.{IsEndingInRange, signal-word}
use Rattle.pr_reached.proofs.StatesInRange.FileRanges.{AreBytesGiven, IsFileEffect, IsNumber, closed-range, duplicated-range, opened-range, piped-range, read-range, sought-range, written-range}
use Rattle.pr_reached.proofs.StatesInRange.MemoryRanges.{All-find, AreBytesRead, break-range, break-space, bytes-read, gap-word, mapped-space, path-name, rounded-page, sized-few, with_bytes-range, with_protected-range, without_range-range, zeros_mapped-range}
use Rattle.pr_reached.proofs.StatesInRange.ProcessRanges.{lwp-range, process-range}
use Rattle.pr_reached.proofs.StatesInRange.RegisterRanges.{registers-set, word_at, zeros-registers}
use Rattle.pr_reached.specs.InRange.{AreArguments, AreRegisters, IsFrameInRange, IsInRange, IsLwpInRange, IsMappingInRange, IsProcessInRange, IsProgramInRange, IsResult, IsSignalSet, IsSpaceInRange, HasWord}

-- What a system call gives and changes is in range: a line a call.

-- ---- ids

-- the id of a process, and that of its parent
pub process-id : (s : TracedSystem) (pid : ℕ) (p : TracedProcess) → IsLawfulSystem s → process_of s pid ≡ Some p
    → pid < process_limit
process-id s pid p h found =
    let own = All-under (IsNumberedBelow s.made) pid p s.processes h.numbered found in
    let below = own.id in
    let made = h.made in
    omega arith

live-id : (s : TracedSystem) (pid : ℕ) → IsLawfulSystem s → IsSome (live_process s pid) → pid < process_limit
unfolding live_process
live-id s pid h is = by (process_of s pid) refl is
  where
    by : (o : Option TracedProcess) → process_of s pid ≡ o → IsSome (option_and_then if_live o) → pid < process_limit
    by None none there = absurd (false≢true there)
    by (Some p) found there = process-id s pid p h found

pub parent-below : (s : TracedSystem) → IsLawfulSystem s → (e : ℕ × TracedProcess) → HasParent s e
    → e.1.parent < process_limit
parent-below s h e it = by it.parent
  where
    by : (e.1.parent ≡ 0) ⊎ IsSome (live_process s e.1.parent) → e.1.parent < process_limit
    by (inl first) = omega arith
    by (inr live) = live-id s e.1.parent h live

pub parent-id : (s : TracedSystem) (pid : ℕ) (p : TracedProcess) → IsLawfulSystem s → process_of s pid ≡ Some p
    → p.parent < process_limit
parent-id s pid p h found = parent-below s h (pid, p) (All-under (HasParent s) pid p s.processes h.parents found)

-- the id of a zombie among the children of a process
abbrev IsChildBelow : ℕ → Children → Type 0
IsChildBelow made no_child = Unit {0}
IsChildBelow made all_live = Unit {0}
IsChildBelow made (first_zombie child status) = child < made

child-below : (made pid : ℕ) (es : List (ℕ × TracedProcess)) → All (IsNumberedBelow made) es
    → IsChildBelow made (children_among pid es)
child-below made pid [] all = tt
child-below made pid (e ∷ es) all =
    choice (IsChildBelow made) (eqb e.1.parent pid) _ _
    (λ own. before e.1.ended (children_among pid es)
    (child-below made pid es (All-tail (IsNumberedBelow made) e es all)))
    (λ other. child-below made pid es (All-tail (IsNumberedBelow made) e es all))
  where
    before : (o : Option ℕ) (others : Children) → IsChildBelow made others
        → IsChildBelow made (child_before e.0 o others)
    before (Some status) others it = (All-head (IsNumberedBelow made) e es all).id
    before None no_child it = tt
    before None all_live it = tt
    before None (first_zombie other status) it = it

-- ---- effects

abbrev pub IsEffectInRange : Effect → Type 0
IsEffectInRange (does result changes) = IsResult result × All IsChangeInRange changes
IsEffectInRange sleeps = Unit {0}
IsEffectInRange (ends how) = IsEndingInRange how

no-change : All IsChangeInRange []
no-change = All-nil IsChangeInRange

one-change : (c : Change) → IsChangeInRange c → All IsChangeInRange (c ∷ [])
one-change c it = All-cons IsChangeInRange c [] it no-change

two-changes : (c d : Change) → IsChangeInRange c → IsChangeInRange d → All IsChangeInRange (c ∷ d ∷ [])
two-changes c d it next = All-cons IsChangeInRange c (d ∷ []) it (one-change d next)

-- a call that is refused, and one that gives 0 and changes nothing
refusal : Unit {0} × All IsChangeInRange []
refusal = (tt, no-change)

zero-given : IsEffectInRange (gives 0 [])
zero-given = (omega arith, no-change)

pub holdable-set : (held : ℕ) → IsSignalSet held → IsSignalSet (holdable_word held)
unfolding holdable_word
holdable-set held it =
    let once = without_number-le held (signal_number Kill) in
    let twice = without_number-le (without_number held (signal_number Kill)) (signal_number Stop) in
    omega arith

-- a program that is found by its name
pub named-range : (programs : List Program) (name : List ℕ) (program : Program) → All IsProgramInRange programs
    → program_named programs name ≡ Some program → IsProgramInRange program
unfolding program_named
named-range programs name program all is = All-find IsProgramInRange (is_program_of name) programs program all is

module _ (s : TracedSystem) (pid : ℕ) (p : TracedProcess) (id : ℕ) (l : TracedLwp) (a : IsActing s pid p id l)
    (h : IsInRange s) where
  pub acting-process : IsProcessInRange p
  acting-process = process-range s pid p h a.found

  pub acting-lwp : IsLwpInRange l
  acting-lwp = lwp-range p id l acting-process a.there

  -- ---- memory

  stored-space : (at : ℕ) (bytes : List ℕ) → All IsByte bytes → IsChangeInRange (space_is (with_bytes at bytes p.space))
  stored-space at bytes all = with_bytes-range at bytes all p.space acting-process.space

  one-space : (value : ℕ) (space : Space) → IsWord value → IsSpaceInRange space
      → IsEffectInRange (gives value (space_is space ∷ []))
  one-space value space fits it = (fits, one-change (space_is space) it)

  sized-range : (value : ℕ) (space : Space) → IsWord value → All IsMappingInRange space
      → (mapped_size space ≤ mapping_limit → IsSpace space) → IsEffectInRange (unless_too_big s p value space)
  sized-range value space fits it apart =
      choice IsEffectInRange
      (leb (mapped_size space) mapping_limit && total_has_room s (mapped_size space) (size_of p)) _ _
      (λ room.
      let small =
      leb-true (mapped_size space) mapping_limit
      (and_parts (leb (mapped_size space) mapping_limit)
      (total_has_room s (mapped_size space) (size_of p)) room).0 in
      one-space value space fits (sized-few space (apart small) it))
      (λ big. refusal)

  brk-range : (end : ℕ) → IsEffectInRange (brk_effect s p end)
  unfolding brk_effect
  brk-range end =
      choice IsEffectInRange (ltb end heap_base || ltb break_limit end) _ _ (λ out. refusal)
      (λ within.
      let both = or_parts (ltb end heap_base) (ltb break_limit end) within in
      let above = ltb-false end heap_base both.0 in
      let below = ltb-false break_limit end both.1 in
      sized-range 0 (with_break end p.space) (omega arith) (break-range end p.space acting-process.space.mappings)
      (break-space end p.space acting-process.space.is_space (own-process s pid p id l a).heap_place (omega arith)
      (omega arith)))

  mmap-range : (len prot : ℕ) → IsEffectInRange (mmap_effect s p len prot)
  unfolding mmap_effect
  mmap-range len prot = by (gap_in (rounded len) p.space) refl
    where
      by : (o : Option ℕ) → gap_in (rounded len) p.space ≡ o → IsEffectInRange (mmap_effect s p len prot)
      by None is =
          rw is (choice IsEffectInRange (eqb len 0 || (ltb mapping_limit len || ltb prot_limit prot)) _ _
          (λ bad. refusal) (λ right. refusal))
      by (Some at) is =
          rw is (choice IsEffectInRange (eqb len 0 || (ltb mapping_limit len || ltb prot_limit prot)) _ _
          (λ bad. refusal)
          (λ right.
          let some : 0 < len =
          let apart =
          eqb-false len 0 (or_parts (eqb len 0) (ltb mapping_limit len || ltb prot_limit prot) right).0 in
          omega arith in
          let allowed : prot ≤ 7 =
          ltb-false 7 prot
          (or_parts (ltb mapping_limit len) (ltb prot_limit prot)
          (or_parts (eqb len 0) (ltb mapping_limit len || ltb prot_limit prot) right).1).1 in
          let fits = gap-word (rounded len) p.space at is in
          sized-range at (with_mapping (zeros_at at (rounded len) prot Mapped) p.space) fits
          (zeros_mapped-range at (rounded len) prot Mapped p.space fits (omega arith)
          (rounded-page len some) acting-process.space.mappings)
          (mapped-space at (rounded len) prot p.space acting-process.space.is_space
          (let page = rounded-page len some in omega arith) is)))

  munmap-range : (at len : ℕ) → IsEffectInRange (munmap_effect s p at len)
  unfolding munmap_effect
  munmap-range at len =
      choice IsEffectInRange (list_any (is_mapped_range at (rounded len)) p.space) _ _
      (λ one. one-space 0 (without_range at (rounded len) p.space) (omega arith)
      (without_range-range at (rounded len) p.space acting-process.space)) (λ none. refusal)

  mprotect-range : (at len prot : ℕ) → IsEffectInRange (mprotect_effect s p at len prot)
  unfolding mprotect_effect
  mprotect-range at len prot =
      choice IsEffectInRange (has_range at (rounded len) p.space && leb prot prot_limit) _ _
      (λ one.
      let allowed : prot ≤ 7 =
      leb-true prot 7 (and_parts (has_range at (rounded len) p.space) (leb prot prot_limit) one).1 in
      one-space 0 (with_protected at (rounded len) prot p.space) (omega arith)
      (with_protected-range at (rounded len) prot p.space (omega arith) acting-process.space))
      (λ none. refusal)

  -- ---- files

  refused-call : (why : FileNo) → IsEffectInRange (refusal_effect why)
  refused-call Sleep = tt
  refused-call NoReader = (tt, one-change (signals_itself _ _) (omega arith))
  refused-call _ = (tt, no-change)

  file-range : (e : FileEffect ℕ) → IsFileEffect e → IsEffectInRange (file_effect e)
  unfolding file_effect
  file-range e it = by e.answer refl it.answer
    where
      by : (r : Result ℕ FileNo) → e.answer ≡ r → IsNumber r → IsEffectInRange (file_effect e)
      by (Ok value) is fits = rw is (fits, one-change (files_are e.files e.fds) it.files)
      by (Err why) is fits = rw is (refused-call why)

  read-call : (fd at size : ℕ) → IsEffectInRange (read_effect s.files p.fds p.space fd at size)
  unfolding read_effect
  read-call fd at size = by (read_fd s.files p.fds fd size).bytes refl (read-range s.files p.fds h.files fd size).bytes
    where
      files : FileTable
      files = (read_fd s.files p.fds fd size).files

      by : (r : Result (List ℕ) FileNo) → (read_fd s.files p.fds fd size).bytes ≡ r → AreBytesGiven size r
          → IsEffectInRange (read_effect s.files p.fds p.space fd at size)
      by (Ok bytes) is it =
          rw is (choice IsEffectInRange (is_none (open_for_reading s.files p.fds fd)) _ _ (λ shut. refusal) (λ open_now.
          choice IsEffectInRange (ltb transfer_limit size) _ _ (λ long. refusal) (λ short.
          choice IsEffectInRange (can_write p.space at size) _ _
          (λ fits.
          let most = ltb-false transfer_limit size short in
          let few = it.1 in (
            omega arith,
            two-changes (files_are files p.fds) (space_is (with_bytes at bytes p.space))
                (read-range s.files p.fds h.files fd size).files (stored-space at bytes it.0),
          ))
          (λ bad. refusal))))
      by (Err why) is it =
          rw is (choice IsEffectInRange (is_none (open_for_reading s.files p.fds fd)) _ _ (λ shut. refusal) (λ open_now.
          choice IsEffectInRange (ltb transfer_limit size) _ _ (λ long. refusal) (λ short.
          choice IsEffectInRange (can_write p.space at size) _ _ (λ fits. refused-call why) (λ bad. refusal))))

  write-call : (fd at size : ℕ) → IsWord at → IsEffectInRange (write_effect s.files p.fds p.space fd at size)
  unfolding write_effect
  write-call fd at size word =
      by (bytes_for prot_read p.space at size) refl
      (bytes-read prot_read p.space acting-process.space.mappings size at word)
    where
      by : (r : Result (List ℕ) BadByte) → bytes_for prot_read p.space at size ≡ r → AreBytesRead size r
          → IsEffectInRange (write_effect s.files p.fds p.space fd at size)
      by (Ok bytes) is it =
          rw is (choice IsEffectInRange (is_none (open_for_writing s.files p.fds fd)) _ _ (λ shut. refusal) (λ open_now.
          choice IsEffectInRange (ltb transfer_limit size) _ _ (λ long. refusal)
          (λ short. file-range (write_fd s.files p.fds fd bytes)
          (written-range s.files p.fds h.files fd bytes it.0))))
      by (Err bad) is it =
          rw is (choice IsEffectInRange (is_none (open_for_writing s.files p.fds fd)) _ _ (λ shut. refusal) (λ open_now.
          choice IsEffectInRange (ltb transfer_limit size) _ _ (λ long. refusal) (λ short. refusal)))

  open-call : (at flags : ℕ) → IsWord at → IsEffectInRange (open_effect s.files p.fds p.space at flags)
  unfolding open_effect
  open-call at flags word = by (path_at p.space at) refl
    where
      by : (r : Result (List ℕ) Errno) → path_at p.space at ≡ r
          → IsEffectInRange (open_effect s.files p.fds p.space at flags)
      by (Err e) is = rw is (refusal)
      by (Ok name) is =
          rw is (choice IsEffectInRange (are_open_flags flags) _ _
          (λ right. file-range (opened s.files p.fds name flags)
          (opened-range s.files p.fds h.files name flags
          (path-name p.space acting-process.space.mappings at name word is)
          (own-process s pid p id l a).descriptors))
          (λ bad. refusal))

  close-call : (fd : ℕ) → IsEffectInRange (close_effect s.files p.fds p.space fd)
  unfolding close_effect
  close-call fd = by (closed s.files p.fds fd).answer refl
    where
      by : (r : Result (Unit {0}) FileNo) → (closed s.files p.fds fd).answer ≡ r
          → IsEffectInRange (close_effect s.files p.fds p.space fd)
      by (Ok done) is =
          rw is (
            omega arith,
            one-change (files_are (closed s.files p.fds fd).files (closed s.files p.fds fd).fds)
                (closed-range s.files p.fds h.files fd),
          )
      by (Err why) is = rw is (refused-call why)

  pipe-call : (at : ℕ) → IsEffectInRange (pipe_effect s.files p.fds p.space at)
  unfolding pipe_effect
  pipe-call at = by (piped s.files p.fds).answer refl
    where
      by : (r : Result (ℕ × ℕ) FileNo) → (piped s.files p.fds).answer ≡ r
          → IsEffectInRange (pipe_effect s.files p.fds p.space at)
      by (Ok both) is =
          rw is (choice IsEffectInRange (can_write p.space at (2 * word_size)) _ _
          (λ fits. (
            omega arith,
            two-changes (files_are (piped s.files p.fds).files (piped s.files p.fds).fds)
                (space_is (with_bytes at (word_bytes both.0 ++ word_bytes both.1) p.space))
                (piped-range s.files p.fds h.files)
                (stored-space at (word_bytes both.0 ++ word_bytes both.1)
                (All-append IsByte (word_bytes both.0) (word_bytes both.1) (AreBytes-word_bytes both.0)
                (AreBytes-word_bytes both.1))),
          ))
          (λ bad. refusal))
      by (Err why) is =
          rw is (choice IsEffectInRange (can_write p.space at (2 * word_size)) _ _ (λ fits. refused-call why)
          (λ bad. refusal))

  fstat-call : (fd at : ℕ) → IsEffectInRange (fstat_effect s.files p.fds p.space fd at)
  unfolding fstat_effect
  fstat-call fd at = by (described s.files p.fds fd) refl
    where
      words : (stat : Stat) → All IsByte (word_bytes stat.kind ++ word_bytes stat.size ++ word_bytes stat.offset)
      words stat =
          All-append IsByte (word_bytes stat.kind ++ word_bytes stat.size) (word_bytes stat.offset)
          (All-append IsByte (word_bytes stat.kind) (word_bytes stat.size) (AreBytes-word_bytes stat.kind)
          (AreBytes-word_bytes stat.size)) (AreBytes-word_bytes stat.offset)

      by : (r : Result Stat FileNo) → described s.files p.fds fd ≡ r
          → IsEffectInRange (fstat_effect s.files p.fds p.space fd at)
      by (Ok stat) is =
          rw is (choice IsEffectInRange (can_write p.space at (3 * word_size)) _ _
          (λ fits. one-space 0
          (with_bytes at (word_bytes stat.kind ++ word_bytes stat.size ++ word_bytes stat.offset) p.space)
          (omega arith)
          (stored-space at (word_bytes stat.kind ++ word_bytes stat.size ++ word_bytes stat.offset)
          (words stat)))
          (λ bad. refusal))
      by (Err why) is = rw is (refused-call why)

  -- ---- processes

  fork-call : (args : List ℕ) → AreArguments args → IsEffectInRange (fork_effect s p id args)
  unfolding fork_effect
  fork-call args given =
      let made = a.lawful.made in
      choice IsEffectInRange (eqb id agent_id) _ _ (λ agent. refusal) (λ other.
      choice IsEffectInRange (leb process_limit s.made) _ _ (λ full. refusal) (λ room.
      choice IsEffectInRange (total_has_room s (size_of p) 0) _ _
      (λ fits. (omega arith, one-change (forks by_fork args) given)) (λ big. refusal)))

  vfork-call : (args : List ℕ) → AreArguments args → IsEffectInRange (vfork_effect s p id args)
  unfolding vfork_effect
  vfork-call args given =
      let made = a.lawful.made in
      choice IsEffectInRange ((id == agent_id) || not (length p.lwps == 1)) _ _ (λ refused. refusal) (λ alone.
      choice IsEffectInRange (leb process_limit s.made) _ _ (λ full. refusal)
      (λ room. (omega arith, one-change (forks by_vfork args) given)))

  exec-call : (at : ℕ) → IsEffectInRange (exec_effect s p id at)
  unfolding exec_effect
  exec-call at = by (path_at p.space at) refl
    where
      named : (name : List ℕ) (o : Option Program) → path_at p.space at ≡ Ok name → program_named s.programs name ≡ o
          → IsEffectInRange (exec_effect s p id at)
      named name None is found =
          rw (is, found) (choice IsEffectInRange (eqb id agent_id) _ _ (λ agent. refusal) (λ other. refusal))
      named name (Some program) is found =
          rw (is, found) (choice IsEffectInRange (eqb id agent_id) _ _ (λ agent. refusal) (λ other.
          choice IsEffectInRange (total_has_room s (mapped_size (first_space program)) (given_up s p id)) _ _
          (λ fits. (omega arith, one-change (becomes program) (named-range s.programs name program h.programs found)))
          (λ big. refusal)))

      by : (r : Result (List ℕ) Errno) → path_at p.space at ≡ r → IsEffectInRange (exec_effect s p id at)
      by (Err e) is = rw is (choice IsEffectInRange (eqb id agent_id) _ _ (λ agent. refusal) (λ other. refusal))
      by (Ok name) is = named name (program_named s.programs name) is refl

  wait-call : (at : ℕ) → IsEffectInRange (wait_effect p.space (children_of s pid) at)
  unfolding wait_effect children_of
  wait-call at = by (children_among pid s.processes) (child-below s.made pid s.processes a.lawful.numbered)
    where
      by : (c : Children) → IsChildBelow s.made c → IsEffectInRange (wait_effect p.space c at)
      by no_child it = refusal
      by all_live it = tt
      by (first_zombie child status) it =
          let made = a.lawful.made in
          let fits : IsWord child = omega arith in
          choice IsEffectInRange (eqb at 0) _ _ (λ nowhere. (fits, one-change (reaps child) tt)) (λ somewhere.
          choice IsEffectInRange (can_write p.space at word_size) _ _
          (λ there. (
            fits,
            two-changes (reaps child) (space_is (with_bytes at (word_bytes status) p.space)) tt
                (stored-space at (word_bytes status) (AreBytes-word_bytes status)),
          )) (λ bad. refusal))

  sleep-call : (since time : ℕ) → IsEffectInRange (sleep_effect s.clock since time)
  unfolding sleep_effect
  sleep-call since time =
      choice IsEffectInRange (ltb sleep_limit time) _ _ (λ long. refusal)
      (λ short. choice IsEffectInRange (leb (since + time) s.clock) _ _ (λ over. zero-given) (λ not_yet. tt))

  -- ---- signals

  send-call : (target number : ℕ) (info : Info) (life : Life) → HasWord info
      → IsEffectInRange (send_effect pid target number info life)
  unfolding send_effect sent_effect
  send-call target number info life new = by (sending target number life)
    where
      by : (x : Sending) → IsEffectInRange (sent_effect pid target info x)
      by (refuses e) = refusal
      by sends_nothing = zero-given
      by (sends g) =
          choice IsEffectInRange (is_kill g && eqb target pid) _ _ (λ own. signal-word g)
          (λ other. (omega arith, one-change (signals target g info) new))

  sigaction-call : (number disposition : ℕ) → IsWord disposition
      → IsEffectInRange (sigaction_effect p.dispositions number disposition)
  unfolding sigaction_effect disposition_of
  sigaction-call number disposition fits = by (signal_of_number number) refl
    where
      by : (o : Option Sig) → signal_of_number number ≡ o
          → IsEffectInRange (sigaction_effect p.dispositions number disposition)
      by None is = rw is (refusal)
      by (Some g) is =
          rw is (choice IsEffectInRange (can_be_caught g) _ _
          (λ can. (
            word_at p.dispositions (signal_number g - 1) acting-process.dispositions.words,
            one-change
                (disposition_is g disposition) fits,
          )) (λ cannot. refusal))

  sigmask-call : (word : ℕ) → IsEffectInRange (sigmask_effect l.held word)
  unfolding sigmask_effect
  sigmask-call word =
      choice IsEffectInRange (ltb word (2 ^ signal_count)) _ _
      (λ within. (
        let held = acting-lwp.held in omega arith,
        one-change (held_is (holdable_word word))
            (holdable-set word (ltb-true word (2 ^ signal_count) within)),
      )) (λ beyond. refusal)

  sigreturn-call : IsEffectInRange (sigreturn_effect l.frames)
  unfolding sigreturn_effect
  sigreturn-call = by (slice_get l.frames (length l.frames - 1)) refl
    where
      by : (o : Option Frame) → slice_get l.frames (length l.frames - 1) ≡ o
          → IsEffectInRange (sigreturn_effect l.frames)
      by None is = rw is (refusal)
      by (Some frame) is =
          rw is (
            omega arith,
            one-change (resumes frame (take (length l.frames - 1) l.frames)) (
              All-at IsFrameInRange l.frames (length l.frames - 1) frame is acting-lwp.frames,
              All-take IsFrameInRange
                  (length l.frames - 1) l.frames acting-lwp.frames,
            ),
          )

  -- ---- lwps

  made-registers : (pc sp r1 : ℕ) → IsWord pc → IsWord sp → IsWord r1 → AreRegisters (made_registers pc sp r1)
  made-registers pc sp r1 is_pc is_sp is_r1 =
      let first = set (replicate 11 0) 1 r1 in
      registers-set (with_sp sp first) 10 pc is_pc
      (registers-set first 8 sp is_sp (registers-set (replicate 11 0) 1 r1 is_r1 zeros-registers))

  create-call : (pc sp r1 : ℕ) → IsWord pc → IsWord sp → IsWord r1
      → IsEffectInRange (lwp_create_effect p id l.held pc sp r1)
  unfolding lwp_create_effect
  create-call pc sp r1 is_pc is_sp is_r1 =
      let next = (own-process s pid p id l a).next_lwp in
      choice IsEffectInRange (eqb id agent_id) _ _ (λ agent. refusal) (λ other.
      choice IsEffectInRange (leb lwp_limit (length p.lwps) || ltb last_lwp p.next_lwp) _ _ (λ full. refusal)
      (λ room. (
        omega arith,
        one-change (makes_lwp p.next_lwp (made_registers pc sp r1) l.held)
            (made-registers pc sp r1 is_pc is_sp is_r1, acting-lwp.held),
      )))

  suspend-call : (other : ℕ) → IsEffectInRange (lwp_suspend_effect p id other)
  unfolding lwp_suspend_effect
  suspend-call other =
      choice IsEffectInRange (can_be_named p other) _ _
      (λ named. choice IsEffectInRange (eqb other id) _ _ (λ own. refusal)
      (λ apart. (omega arith, one-change (suspends other true) tt))) (λ none. refusal)

  continue-call : (other : ℕ) → IsEffectInRange (lwp_continue_effect p other)
  unfolding lwp_continue_effect
  continue-call other =
      choice IsEffectInRange (can_be_named p other) _ _ (λ named. (omega arith, one-change (suspends other false) tt))
      (λ none. refusal)

  -- ---- the calls

  pub call-range : (since : ℕ) (call : Sysno) (args : List ℕ) → AreArguments args
      → IsEffectInRange (call_effect s pid p id l since call args)
  unfolding call_effect exit_effect dup_effect lseek_effect
  call-range since sys.Exit args given = omega arith
  call-range since sys.Fork args given = fork-call args given
  call-range since sys.Vfork args given = vfork-call args given
  call-range since sys.Read args given = read-call (get_or args 0 0) (get_or args 1 0) (get_or args 2 0)
  call-range since sys.Write args given =
      write-call (get_or args 0 0) (get_or args 1 0) (get_or args 2 0) (word_at args 1 given.words)
  call-range since sys.Open args given = open-call (get_or args 0 0) (get_or args 1 0) (word_at args 0 given.words)
  call-range since sys.Close args given = close-call (get_or args 0 0)
  call-range since sys.Wait args given = wait-call (get_or args 0 0)
  call-range since sys.Getpid args given = (let own = process-id s pid p a.lawful a.found in omega arith, no-change)
  call-range since sys.Getppid args given = (let own = parent-id s pid p a.lawful a.found in omega arith, no-change)
  call-range since sys.Exec args given = exec-call (get_or args 0 0)
  call-range since sys.Pipe args given = pipe-call (get_or args 0 0)
  call-range since sys.Dup args given =
      file-range (duplicated s.files p.fds (get_or args 0 0))
      (duplicated-range s.files p.fds h.files (get_or args 0 0) (own-process s pid p id l a).descriptors)
  call-range since sys.Lseek args given =
      file-range (sought s.files p.fds (get_or args 0 0) (get_or args 1 0))
      (sought-range s.files p.fds h.files (get_or args 0 0) (get_or args 1 0))
  call-range since sys.Kill args given =
      send-call (get_or args 0 0) (get_or args 1 0) (killed_by pid) (life_of s (get_or args 0 0)) (omega arith)
  call-range since sys.Sigaction args given =
      sigaction-call (get_or args 0 0) (get_or args 1 0) (word_at args 1 given.words)
  call-range since sys.Sigmask args given = sigmask-call (get_or args 0 0)
  call-range since sys.Pause args given = tt
  call-range since sys.Sigreturn args given = sigreturn-call
  call-range since sys.Brk args given = brk-range (get_or args 0 0)
  call-range since sys.Mmap args given = mmap-range (get_or args 0 0) (get_or args 1 0)
  call-range since sys.Munmap args given = munmap-range (get_or args 0 0) (get_or args 1 0)
  call-range since sys.Mprotect args given = mprotect-range (get_or args 0 0) (get_or args 1 0) (get_or args 2 0)
  call-range since sys.Time args given = (let now = h.clock in omega arith, no-change)
  call-range since sys.Sleep args given = sleep-call since (get_or args 0 0)
  call-range since sys.LwpCreate args given =
      create-call (get_or args 0 0) (get_or args 1 0) (get_or args 2 0) (word_at args 0 given.words)
      (word_at args 1 given.words) (word_at args 2 given.words)
  call-range since sys.LwpExit args given = tt
  call-range since sys.LwpSuspend args given = suspend-call (get_or args 0 0)
  call-range since sys.LwpContinue args given = continue-call (get_or args 0 0)
  call-range since sys.Fstat args given = fstat-call (get_or args 0 0) (get_or args 1 0)
  call-range since sys.Sigqueue args given =
      send-call (get_or args 0 0) (get_or args 1 0) (queued_by pid (get_or args 2 0)) (life_of s (get_or args 0 0))
      (word_at args 2 given.words)
