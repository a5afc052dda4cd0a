use Rattle.std.proofs.Common.{◌≡◌, ◌≢◌, ◌&&◌, ◌||◌, ℕ, ◌+◌, ◌*◌, ◌-◌, ◌≤◌, Bool, true, false, not, is_none, eqb, ltb, leb, cond, Option, Some, None, Result, Ok, Err, List, [], ◌∷◌, ◌++◌, length, refl, sym, ◌∙◌, ap, arith}
use Rattle.std.specs.List.{All, list_any, slice_get, sum_by}
use Rattle.std.specs.Option.{option_map}
use Rattle.std.specs.Prelude.{slice_index}
use Rattle.std.proofs.lemmas.Bool.{and_parts, or_parts, eqb-false, eq-eqb, leb-true, leb-false, ltb-false, ne_eqb}
use Rattle.std.proofs.lemmas.List.{length-take}
use Rattle.std.proofs.lemmas.List.Elements.{All-take}
use Rattle.std.proofs.lemmas.List.Sums.{sum_by-cons}
use Rattle.std.proofs.lemmas.Option.{none-some}
use Rattle.pr_num.specs.Layout.{heap_base, break_limit}
use Rattle.pr_num.proofs.ByIdLaws.{All-under, under-change_under, under-without_id_other}
use Rattle.pr_num.proofs.ByIdLemmas.{rises_from-tail, under-below}
use Rattle.pr_num.specs.ById.{under, rises_from}
use Rattle.pr_num.specs.Agents.{agent_id}
use Rattle.pr_num.specs.Files.{FileTable, Descriptors}
use Rattle.pr_num.specs.KeyedTables.{without_first}
use Rattle.pr_num.specs.Limits.{all_mappings_limit, last_lwp, lwp_limit, process_limit, signal_count, sleep_limit, transfer_limit}
use Rattle.pr_num.specs.Programs.{Program, rounded}
use Rattle.pr_num.specs.Signals.{signal_number, signal_of_number}
use Rattle.pr_num.specs.Spaces.{Space, bytes_for, first_space, mapped_size, mapping_limit}
use Rattle.pr_num.specs.Control.{prot_read}
use Rattle.pr_num.specs.Infos.{killed_by, of_broken_pipe, queued_by}
use Rattle.pr_num.specs.declared.errnos.Errno.{Errno}
use Rattle.pr_num.specs.declared.errnos.Errno.TheVariants.{Inval, Perm, Nomem, Fault}
use Rattle.pr_num.specs.Words.{word_bytes}
use Rattle.pr_num.specs.declared.mappings.MappingKind.TheVariants.{Mapped}
use Rattle.pr_num.specs.declared.infos.Info.{Info}
use Rattle.pr_num.specs.declared.mappings.BadByte.{BadByte}
use Rattle.pr_num.specs.declared.mappings.Mapping.{Mapping}
use Rattle.pr_num.specs.declared.signals.Sig.{Sig}
use Rattle.pr_num.specs.declared.signals.Sig.TheVariants.{Pipe}
use Rattle.pr_num.specs.declared.syscalls.Sysno.{Sysno}
use Rattle.pr_num.specs.declared.syscalls.Sysno.TheVariants as sys
use Rattle.pr_parts.specs.AddressSpaces.{with_bytes, with_break, gap_in, with_mapping, zeros_at, has_range, without_range, with_protected, is_range}
use Rattle.pr_parts.specs.FileCalls.{FileEffect, are_open_flags, closed, described, duplicated, open_for_reading, open_for_writing, opened, piped, sought}
use Rattle.pr_parts.specs.FileTables.{CountsUsers, IsFileTable, PipesHaveEnds}
use Rattle.pr_parts.specs.FileTransfers.{read_fd, write_fd}
use Rattle.pr_parts.specs.declared.files.FileNo.{FileNo}
use Rattle.pr_parts.specs.declared.files.FileNo.TheVariants.{Sleep, NoReader}
use Rattle.pr_parts.specs.declared.files.Stat.{Stat}
use Rattle.pr_parts.proofs.SpaceLemmas.{mapped_size-with_bytes, mapped_size-with_protected}
use Rattle.pr_model.specs.CallEffects.{call_effect}
use Rattle.pr_model.specs.Changes.{files_are, space_is, forks, reaps, Effect, does, sleeps, ends, gives, fails, with_fds, changed}
use Rattle.pr_model.specs.FileCallRows.{read_effect, write_effect, open_effect, close_effect, pipe_effect, dup_effect, lseek_effect, fstat_effect, refusal_effect, file_effect, word_size}
use Rattle.pr_model.specs.Lawful.{IsLawfulFrame, IsLawfulLwp, IsLawfulProgram, IsLawfulProcess, IsLawfulSystem}
use Rattle.pr_model.specs.Lives.{Birth, by_fork, by_vfork, with_reaped}
use Rattle.pr_model.specs.LwpCalls.{lwp_create_effect, lwp_suspend_effect, lwp_continue_effect, can_be_named}
use Rattle.pr_model.specs.Machines.{traced}
use Rattle.pr_model.specs.MemoryCalls.{can_write, path_at, brk_effect, mmap_effect, munmap_effect, mprotect_effect, unless_too_big, is_mapped_range, prot_limit}
use Rattle.pr_model.specs.ProcessCalls.{exit_effect, fork_effect, vfork_effect, given_up, wait_effect, exec_effect, sleep_effect, program_named}
use Rattle.pr_model.specs.Readers.{Life, Children, no_child, all_live, first_zombie, child_before, children_among, children_of, life_of, size_of, total_size, total_has_room}
use Rattle.pr_model.specs.SignalCalls.{Sending, refuses, sends_nothing, sends, sending, sent_effect, send_effect, can_be_caught, sigaction_effect, sigmask_effect, sigreturn_effect}
use Rattle.pr_model.specs.Signals.{is_kill}
use Rattle.pr_model.specs.State.{TracedLwp, TracedProcess, TracedSystem, process_of, lwp_of, with_process}
use Rattle.pr_model.specs.declared.frames.Frame.{Frame}
use Rattle.pr_lawful.proofs.LawfulTurns.ChangeLemmas.{changed-lawful}
use Rattle.pr_num.proofs.TableLaws.{All-without_first}
use Rattle.pr_parts.specs.AddressSpaces.{LeavesHeapPlace}
use Rattle.pr_parts.proofs.HeapLemmas.{LeavesHeapPlace-with_heap}
use Rattle.pr_parts.proofs.HeapPlaceLemmas.{LeavesHeapPlace-with_bytes, LeavesHeapPlace-with_mapping, LeavesHeapPlace-with_protected}
use Rattle.pr_rec.specs.InRange.{IsInfo}
use Rattle.pr_lawful.proofs.LawfulTurns.EndLemmas.{own-id}
use Rattle.pr_lawful.proofs.ProcessParts.ProgramLemmas.{gap-outside, named-lawful, program-leaves, program-small}
use Rattle.pr_lawful.proofs.ProcessParts.FileLemmas.{choice, IsFair, fair-closed, fair-duplicated, fair-opened, fair-piped, fair-sought, fair-written, fair-read, read-ends, read-ordered}
use Rattle.pr_lawful.proofs.ProcessParts.HoldableLemmas.{holdable-holdable}
use Rattle.pr_lawful.proofs.ProcessParts.SignalLemmas.{sent-reaches, standard-reaches}
use Rattle.pr_lawful.proofs.LawfulTurns.SuitingLemmas.{SuitsFiles, SuitsSpace, SuitsReaped, SuitChanges, more_mapped}
use Rattle.pr_num.proofs.SearchLemmas.{All-at}

-- What a system call does suits a lawful system: a line a call.

-- ---- what calls read of the system

-- the first zombie among the children of a process
pub record HasZombie (es : List (ℕ × TracedProcess)) (child status : ℕ) : Type 0 where
  pub zombie : TracedProcess
  pub found : under child es ≡ Some zombie
  pub over : zombie.ended ≡ Some status

-- the id and the status of what was found
zombie_id : Children → ℕ
zombie_id no_child = 0
zombie_id all_live = 0
zombie_id (first_zombie child status) = child

zombie_status : Children → ℕ
zombie_status no_child = 0
zombie_status all_live = 0
zombie_status (first_zombie child status) = status

all_live-none : (child status : ℕ) → all_live ≡ first_zombie child status → ⊥
all_live-none child status e = cc

children-zombie : (pid low : ℕ) (es : List (ℕ × TracedProcess)) (child status : ℕ) → rises_from low es ≡ true
    → children_among pid es ≡ first_zombie child status → HasZombie es child status
unfolding zombie_id zombie_status
children-zombie pid low [] child status rises is = absurd (nobody is)
  where
    nobody : no_child ≡ first_zombie child status → ⊥
    nobody e = cc
children-zombie pid low (e ∷ es) child status rises is =
    elim (eqb e.1.parent pid) as
    (λ b. cond b (child_before e.0 e.1.ended (children_among pid es))
    (children_among pid es) ≡ first_zombie child status → HasZombie (e ∷ es) child status) [
      | true ↦ λ here. own e.1.ended (children_among pid es) refl refl
          (λ there. later (children-zombie pid (e.0 + 1) es child status tail there)) here
      | false ↦ λ there. later
          (children-zombie pid (e.0 + 1) es child status tail there)
    ] is
  where
    tail : rises_from (e.0 + 1) es ≡ true
    tail = rises_from-tail low e es rises

    later : HasZombie es child status → HasZombie (e ∷ es) child status
    later rest =
        let apart : e.0 ≢ child =
        λ same. none-some rest.zombie (sym (under-below (e.0 + 1) child es tail (omega arith)) ∙ rest.found) in
        record { zombie = rest.zombie; found = rw (ne_eqb e.0 child apart) rest.found; over = rest.over }

    own : (ended : Option ℕ) (others : Children) → e.1.ended ≡ ended → children_among pid es ≡ others
        → (children_among pid es ≡ first_zombie child status → HasZombie (e ∷ es) child status)
        → child_before e.0 ended others ≡ first_zombie child status → HasZombie (e ∷ es) child status
    own (Some own_status) others over rest go found =
        let same : e.0 ≡ child = ap zombie_id found in
        record {
          zombie = e.1;
          found = rw (eq-eqb e.0 child same) refl;
          over = over ∙ ap (λ n. Some n) (ap zombie_status found);
        }
    own None no_child over rest go found = absurd (all_live-none child status found)
    own None all_live over rest go found = absurd (all_live-none child status found)
    own None (first_zombie other other_status) over rest go found = go (rest ∙ found)

-- a signal that is sent is not sent to the system process
pub sent-user : (target number : ℕ) (life : Life) (g : Sig) → sending target number life ≡ sends g → target ≢ 0
unfolding sending
sent-user target number life g is first =
    let at_first : sending 0 number life ≡ sends g = ap (λ n. sending n number life) (sym first) ∙ is in
    by (ltb signal_count number) refl at_first
  where
    by : (b : Bool) → ltb signal_count number ≡ b → sending 0 number life ≡ sends g → ⊥
    by true is e = let wrong : refuses Inval ≡ sends g = rw is at e in absurd (cc)
    by false is e = let wrong : refuses Perm ≡ sends g = rw is at e in absurd (cc)

-- ---- sizes

smaller : (f : Mapping → ℕ) (p : Mapping → Bool) (ms : List Mapping) → sum_by f (without_first p ms) ≤ sum_by f ms
smaller f p [] = omega arith
smaller f p (m ∷ ms) =
    let whole = sum_by-cons f m ms in
    let part = sum_by-cons f m (without_first p ms) in
    let rest = smaller f p ms in
    elim (p m) as
    (λ b. sum_by f (cond b ms (m ∷ without_first p ms)) ≤ sum_by f
    (m ∷ ms)) [ true ↦ omega arith | false ↦ omega arith ]

-- ---- effects

-- an lwp in its process, in a lawful system
pub record IsActing (s : TracedSystem) (pid : ℕ) (p : TracedProcess) (id : ℕ) (l : TracedLwp) : Type 0 where
  pub lawful : IsLawfulSystem s
  pub user : pid ≢ 0
  pub found : process_of s pid ≡ Some p
  pub live : p.ended ≡ None
  pub there : lwp_of p id ≡ Some l

module _ (s : TracedSystem) (pid : ℕ) (p : TracedProcess) (id : ℕ) (l : TracedLwp) (a : IsActing s pid p id l) where
  pub own-process : IsLawfulProcess (pid, p)
  own-process = All-under IsLawfulProcess pid p s.processes a.lawful.processes a.found

  pub own-lwp : IsLawfulLwp p.next_lwp (id, l)
  own-lwp = All-under (IsLawfulLwp p.next_lwp) id l p.lwps own-process.lwps a.there

  unfoldable pub Suits : Effect → Type 0
  Suits (does result changes) = SuitChanges pid p id l s changes
  Suits sleeps = Unit {0}
  Suits (ends how) = Unit {0}

  fails-suits : (e : Errno) → Suits (fails e)
  unfolding Suits
  fails-suits e = tt

  quiet-suits : (value : ℕ) → Suits (gives value [])
  unfolding Suits
  quiet-suits value = tt

  -- ---- memory

  -- a space that is no larger; one for which there is room
  no_larger : (space : Space) → mapped_size space ≤ mapped_size p.space → All LeavesHeapPlace space
      → SuitsSpace s pid space
  unfolding size_of
  no_larger space small leaves = record {
    process = p;
    found = a.found;
    live = a.live;
    mapped = let limit = a.lawful.mapped in omega arith;
    heap_place = leaves;
    small = let few = own-process.small_space in omega arith;
  }

  with_room : (space : Space) → mapped_size space ≤ mapping_limit
      → total_has_room s (mapped_size space) (size_of p) ≡ true → All LeavesHeapPlace space → SuitsSpace s pid space
  unfolding total_has_room
  with_room space small room leaves = record {
    process = p;
    found = a.found;
    live = a.live;
    mapped = leb-true _ _ room;
    heap_place = leaves;
    small = small;
  }

  pub stored-suits : (at : ℕ) (bytes : List ℕ) → SuitsSpace s pid (with_bytes at bytes p.space)
  stored-suits at bytes =
      no_larger (with_bytes at bytes p.space) (let same = mapped_size-with_bytes at bytes p.space in omega arith)
      (LeavesHeapPlace-with_bytes at bytes p.space own-process.heap_place)

  -- bytes that are stored after another change
  stored-after : (t : TracedSystem) (x : TracedProcess) (at : ℕ) (bytes : List ℕ) → IsLawfulSystem t
      → process_of t pid ≡ Some x → x.ended ≡ None → x.space ≡ p.space → SuitsSpace t pid (with_bytes at bytes p.space)
  unfolding size_of
  stored-after t x at bytes lawful found alive space = record {
    process = x;
    found = found;
    live = alive;
    mapped =
        let limit = lawful.mapped in
        let same = mapped_size-with_bytes at bytes p.space in
        let as_before = ap mapped_size space in
        omega arith;
    heap_place = LeavesHeapPlace-with_bytes at bytes p.space own-process.heap_place;
    small = let few = own-process.small_space in let same = mapped_size-with_bytes at bytes p.space in omega arith;
  }

  one-space : (value : ℕ) (space : Space) → SuitsSpace s pid space → Suits (gives value (space_is space ∷ []))
  unfolding Suits
  one-space value space suits = (suits, tt)

  big-suits : (value : ℕ) (space : Space) → All LeavesHeapPlace space → Suits (unless_too_big s p value space)
  big-suits value space leaves =
      choice Suits (leb (mapped_size space) mapping_limit && total_has_room s (mapped_size space) (size_of p)) _ _
      (λ fits. let within = and_parts _ _ fits in one-space value space
      (with_room space (leb-true (mapped_size space) mapping_limit within.0) within.1 leaves))
      (λ big. fails-suits _)

  brk-suits : (end : ℕ) → Suits (brk_effect s p end)
  unfolding brk_effect
  brk-suits end =
      choice Suits (ltb end heap_base || ltb break_limit end) _ _ (λ out. fails-suits _)
      (λ within. big-suits 0 (with_break end p.space)
      (LeavesHeapPlace-with_heap (rounded (end - heap_base)) p.space own-process.heap_place))

  mmap-suits : (len prot : ℕ) → Suits (mmap_effect s p len prot)
  unfolding mmap_effect
  mmap-suits len prot = by (gap_in (rounded len) p.space) refl
    where
      by : (o : Option ℕ) → gap_in (rounded len) p.space ≡ o → Suits (mmap_effect s p len prot)
      by None is =
          rw is (choice Suits (eqb len 0 || (ltb mapping_limit len || ltb prot_limit prot)) _ _
          (λ wrong. fails-suits Inval) (λ right. fails-suits Nomem))
      by (Some at) is =
          rw is (choice Suits (eqb len 0 || (ltb mapping_limit len || ltb prot_limit prot)) _ _
          (λ wrong. fails-suits _)
          (λ right. big-suits at (with_mapping (zeros_at at (rounded len) prot Mapped) p.space)
          (LeavesHeapPlace-with_mapping at (rounded len) prot Mapped p.space
          (gap-outside (rounded len) p.space at is) own-process.heap_place)))

  munmap-suits : (at len : ℕ) → Suits (munmap_effect s p at len)
  unfolding munmap_effect without_range
  munmap-suits at len =
      choice Suits (list_any (is_mapped_range at (rounded len)) p.space) _ _
      (λ one. one-space 0 (without_range at (rounded len) p.space)
      (no_larger (without_range at (rounded len) p.space)
      (smaller (λ m. length m.bytes) (is_range at (rounded len)) p.space)
      (All-without_first LeavesHeapPlace (is_range at (rounded len)) p.space own-process.heap_place)))
      (λ none. fails-suits _)

  mprotect-suits : (at len prot : ℕ) → Suits (mprotect_effect s p at len prot)
  unfolding mprotect_effect
  mprotect-suits at len prot =
      choice Suits (has_range at (rounded len) p.space && leb prot prot_limit) _ _
      (λ one. one-space 0 (with_protected at (rounded len) prot p.space)
      (no_larger (with_protected at (rounded len) prot p.space)
      (let same = mapped_size-with_protected at (rounded len) prot p.space in omega arith)
      (LeavesHeapPlace-with_protected at (rounded len) prot p.space own-process.heap_place)))
      (λ none. fails-suits _)

  -- ---- files

  files-suit : (files : FileTable) (fds : Descriptors) → IsFileTable files → PipesHaveEnds files
      → CountsUsers s.files p.fds files fds → length fds ≡ length p.fds → SuitsFiles s pid files fds
  files-suit files fds table pipes counted places = record {
    process = p;
    found = a.found;
    live = a.live;
    table = table;
    pipes = pipes;
    counted = counted;
    places = places ∙ own-process.descriptors;
  }

  fair-suits : {A : Type 0} (e : FileEffect A) → IsFair s.files p.fds e → SuitsFiles s pid e.files e.fds
  fair-suits e fair = files-suit e.files e.fds fair.table fair.pipes fair.counted fair.places

  -- what stands then, and what is stored in it
  files-then : (files : FileTable) (fds : Descriptors) (at : ℕ) (bytes : List ℕ) → SuitsFiles s pid files fds
      → SuitsSpace (changed traced pid p id l (files_are files fds) s) pid (with_bytes at bytes p.space)
  unfolding changed with_process with_fds
  files-then files fds at bytes suits =
      stored-after (changed traced pid p id l (files_are files fds) s) (with_fds fds p) at bytes
      (changed-lawful pid p id l a.user (files_are files fds) s a.lawful suits)
      (under-change_under pid (with_fds fds) s.processes ∙ ap (option_map (with_fds fds)) a.found) a.live refl

  refusal-suits : (why : FileNo) → Suits (refusal_effect why)
  unfolding Suits signal_number
  refusal-suits Sleep = tt
  refusal-suits NoReader =
      (standard-reaches s pid (Some id) Pipe of_broken_pipe (record { code = omega arith; pid = omega arith }) refl, tt)
  refusal-suits _ = tt

  file-suits : (e : FileEffect ℕ) → IsFair s.files p.fds e → Suits (file_effect e)
  unfolding file_effect Suits
  file-suits e fair = by e.answer refl
    where
      by : (r : Result ℕ FileNo) → e.answer ≡ r → Suits (file_effect e)
      by (Ok value) is = rw is (fair-suits e fair, tt)
      by (Err why) is = rw is (refusal-suits why)

  read-suits : (fd at size : ℕ) → Suits (read_effect s.files p.fds p.space fd at size)
  unfolding read_effect Suits
  read-suits fd at size = by (read_fd s.files p.fds fd size).bytes refl
    where
      files : FileTable
      files = (read_fd s.files p.fds fd size).files

      suits : SuitsFiles s pid files p.fds
      suits =
          files-suit files p.fds (read-ordered s.files p.fds a.lawful.files.table fd size)
          (read-ends s.files p.fds a.lawful.files.table a.lawful.files.pipes fd size)
          (fair-read s.files p.fds a.lawful.files.table a.lawful.files.pipes fd size) refl

      by : (r : Result (List ℕ) FileNo) → (read_fd s.files p.fds fd size).bytes ≡ r
          → Suits (read_effect s.files p.fds p.space fd at size)
      by (Ok bytes) is =
          rw is (choice Suits (is_none (open_for_reading s.files p.fds fd)) _ _ (λ closed. tt)
          (λ open_now. choice Suits (ltb transfer_limit size) _ _ (λ long. tt)
          (λ short. choice Suits (can_write p.space at size) _ _
          (λ fits. (suits, (files-then files p.fds at bytes suits, tt))) (λ bad. tt))))
      by (Err why) is =
          rw is (choice Suits (is_none (open_for_reading s.files p.fds fd)) _ _ (λ closed. tt)
          (λ open_now. choice Suits (ltb transfer_limit size) _ _ (λ long. tt)
          (λ short. choice Suits (can_write p.space at size) _ _ (λ fits. refusal-suits why) (λ bad. tt))))

  write-suits : (fd at size : ℕ) → Suits (write_effect s.files p.fds p.space fd at size)
  unfolding write_effect Suits
  write-suits fd at size = by (bytes_for prot_read p.space at size) refl
    where
      by : (r : Result (List ℕ) BadByte) → bytes_for prot_read p.space at size ≡ r
          → Suits (write_effect s.files p.fds p.space fd at size)
      by (Ok bytes) is =
          rw is (choice Suits (is_none (open_for_writing s.files p.fds fd)) _ _ (λ closed. tt)
          (λ open_now. choice Suits (ltb transfer_limit size) _ _ (λ long. tt)
          (λ short. file-suits (write_fd s.files p.fds fd bytes)
          (fair-written s.files p.fds a.lawful.files.table a.lawful.files.pipes fd bytes))))
      by (Err bad) is =
          rw is (choice Suits (is_none (open_for_writing s.files p.fds fd)) _ _ (λ closed. tt)
          (λ open_now. choice Suits (ltb transfer_limit size) _ _ (λ long. tt) (λ short. tt)))

  open-suits : (at flags : ℕ) → Suits (open_effect s.files p.fds p.space at flags)
  unfolding open_effect Suits
  open-suits at flags = by (path_at p.space at) refl
    where
      by : (r : Result (List ℕ) Errno) → path_at p.space at ≡ r → Suits (open_effect s.files p.fds p.space at flags)
      by (Err e) is = rw is tt
      by (Ok name) is =
          rw is (choice Suits (are_open_flags flags) _ _
          (λ right. file-suits (opened s.files p.fds name flags)
          (fair-opened s.files p.fds a.lawful.files.table a.lawful.files.pipes name flags)) (λ wrong. tt))

  close-suits : (fd : ℕ) → Suits (close_effect s.files p.fds p.space fd)
  unfolding close_effect Suits
  close-suits fd = by (closed s.files p.fds fd).answer refl
    where
      by : (r : Result (Unit {0}) FileNo) → (closed s.files p.fds fd).answer ≡ r
          → Suits (close_effect s.files p.fds p.space fd)
      by (Ok done) is =
          rw is (
            fair-suits (closed s.files p.fds fd)
                (fair-closed s.files p.fds a.lawful.files.table a.lawful.files.pipes fd),
            tt,
          )
      by (Err why) is = rw is (refusal-suits why)

  pipe-suits : (at : ℕ) → Suits (pipe_effect s.files p.fds p.space at)
  unfolding pipe_effect Suits
  pipe-suits at = by (piped s.files p.fds).answer refl
    where
      suits : SuitsFiles s pid (piped s.files p.fds).files (piped s.files p.fds).fds
      suits = fair-suits (piped s.files p.fds) (fair-piped s.files p.fds a.lawful.files.table a.lawful.files.pipes)

      by : (r : Result (ℕ × ℕ) FileNo) → (piped s.files p.fds).answer ≡ r → Suits (pipe_effect s.files p.fds p.space at)
      by (Ok both) is =
          rw is (choice Suits (can_write p.space at (2 * word_size)) _ _
          (λ fits. (
            suits,
            (
              files-then (piped s.files p.fds).files (piped s.files p.fds).fds at
                  (word_bytes both.0 ++ word_bytes both.1) suits,
              tt,
            ),
          )) (λ bad. tt))
      by (Err why) is =
          rw is (choice Suits (can_write p.space at (2 * word_size)) _ _ (λ fits. refusal-suits why) (λ bad. tt))

  dup-suits : (fd : ℕ) → Suits (dup_effect s.files p.fds p.space fd)
  unfolding dup_effect
  dup-suits fd =
      file-suits (duplicated s.files p.fds fd)
      (fair-duplicated s.files p.fds a.lawful.files.table a.lawful.files.pipes fd)

  lseek-suits : (fd offset : ℕ) → Suits (lseek_effect s.files p.fds p.space fd offset)
  unfolding lseek_effect
  lseek-suits fd offset =
      file-suits (sought s.files p.fds fd offset)
      (fair-sought s.files p.fds a.lawful.files.table a.lawful.files.pipes fd offset)

  fstat-suits : (fd at : ℕ) → Suits (fstat_effect s.files p.fds p.space fd at)
  unfolding fstat_effect
  fstat-suits fd at = by (described s.files p.fds fd) refl
    where
      by : (r : Result Stat FileNo) → described s.files p.fds fd ≡ r → Suits (fstat_effect s.files p.fds p.space fd at)
      by (Ok stat) is =
          rw is (choice Suits (can_write p.space at (3 * word_size)) _ _
          (λ fits. one-space 0
          (with_bytes at (word_bytes stat.kind ++ word_bytes stat.size ++ word_bytes stat.offset) p.space)
          (stored-suits at (word_bytes stat.kind ++ word_bytes stat.size ++ word_bytes stat.offset)))
          (λ bad. fails-suits Fault))
      by (Err why) is = rw is (refusal-suits why)

  -- ---- processes

  -- a child, where it and its memory have room
  child-suits : (birth : Birth) (args : List ℕ) → leb process_limit s.made ≡ false
      → total_size s + more_mapped birth p ≤ all_mappings_limit → Suits (gives s.made (forks birth args ∷ []))
  unfolding Suits
  child-suits birth args room mapped = (
    record {
      found = a.found;
      live = a.live;
      room = leb-false process_limit s.made room;
      mapped = mapped;
      held = own-lwp.held;
      frames = own-lwp.frames;
      few_frames = own-lwp.few_frames;
    },
    tt,
  )

  fork-suits : (args : List ℕ) → Suits (fork_effect s p id args)
  unfolding fork_effect Suits total_has_room
  fork-suits args =
      choice Suits (eqb id agent_id) _ _ (λ agent. tt) (λ other.
      choice Suits (leb process_limit s.made) _ _ (λ full. tt) (λ room.
      choice Suits (total_has_room s (size_of p) 0) _ _
      (λ fits. let limit = leb-true _ _ fits in child-suits by_fork args room (omega arith)) (λ big. tt)))

  vfork-suits : (args : List ℕ) → Suits (vfork_effect s p id args)
  unfolding vfork_effect Suits
  vfork-suits args =
      choice Suits (eqb id agent_id || not (eqb (length p.lwps) 1)) _ _ (λ refused. tt) (λ alone.
      choice Suits (leb process_limit s.made) _ _ (λ full. tt)
      (λ room. let limit = a.lawful.mapped in child-suits by_vfork args room (omega arith)))

  exec-suits : (at : ℕ) → Suits (exec_effect s p id at)
  unfolding exec_effect Suits total_has_room
  exec-suits at = by (path_at p.space at) refl
    where
      named : (name : List ℕ) (program : Program) → program_named s.programs name ≡ Some program
          → IsLawfulProgram program
      named name program found = named-lawful name s.programs program a.lawful.programs found

      run : (name : List ℕ) (o : Option Program) → path_at p.space at ≡ Ok name → program_named s.programs name ≡ o
          → Suits (exec_effect s p id at)
      run name None is found = rw (is, found) (choice Suits (eqb id agent_id) _ _ (λ agent. tt) (λ other. tt))
      run name (Some program) is found =
          rw (is, found) (choice Suits (eqb id agent_id) _ _ (λ agent. tt) (λ other.
          choice Suits (total_has_room s (mapped_size (first_space program)) (given_up s p id)) _ _
          (λ fits. (
            record {
              found = a.found;
              live = a.live;
              mapped = leb-true _ _ fits;
              heap_place =
                  program-leaves program (named name program found);
              small = program-small program (named name program
                  found);
              there = a.there;
            },
            tt,
          )) (λ big. tt)))

      by : (r : Result (List ℕ) Errno) → path_at p.space at ≡ r → Suits (exec_effect s p id at)
      by (Err e) is = rw is (choice Suits (eqb id agent_id) _ _ (λ agent. tt) (λ other. tt))
      by (Ok name) is = run name (program_named s.programs name) is refl

  -- the caller stands once a zombie is reaped
  reaped-then : (child : ℕ) → process_of (changed traced pid p id l (reaps child) s) pid ≡ Some p
  unfolding changed with_reaped
  reaped-then child =
      choice (λ t. process_of t pid ≡ Some p) (eqb child pid) s (with_reaped child s)
      (λ same. a.found) (λ apart. under-without_id_other child pid (eqb-false child pid apart) s.processes ∙ a.found)

  wait-suits : (at : ℕ) → Suits (wait_effect p.space (children_of s pid) at)
  unfolding wait_effect Suits children_of
  wait-suits at = by (children_among pid s.processes) refl
    where
      by : (c : Children) → children_among pid s.processes ≡ c → Suits (wait_effect p.space c at)
      by no_child is = tt
      by all_live is = tt
      by (first_zombie child status) is =
          let it = children-zombie pid 0 s.processes child status a.lawful.rising is in
          let suits : SuitsReaped s child = record {
            zombie = it.zombie;
            status = status;
            found = it.found;
            over = it.over;
          } in
          choice Suits (eqb at 0) _ _ (λ nowhere. (suits, tt)) (λ somewhere.
          choice Suits (can_write p.space at word_size) _ _
          (λ fits. (
            suits,
            (
              stored-after (changed traced pid p id l (reaps child) s) p at (word_bytes status)
                  (changed-lawful pid p id l a.user (reaps child) s a.lawful suits)
                  (reaped-then child) a.live refl,
              tt,
            ),
          ))
          (λ bad. tt))

  sleep-suits : (since time : ℕ) → Suits (sleep_effect s.clock since time)
  unfolding sleep_effect Suits
  sleep-suits since time =
      choice Suits (ltb sleep_limit time) _ _ (λ long. tt)
      (λ short. choice Suits (leb (since + time) s.clock) _ _ (λ over. tt) (λ not_yet. tt))

  -- ---- signals

  send-suits : (target number : ℕ) (info : Info) → IsInfo info
      → Suits (send_effect pid target number info (life_of s target))
  unfolding send_effect sent_effect Suits
  send-suits target number info new = by (sending target number (life_of s target)) refl
    where
      by : (x : Sending) → sending target number (life_of s target) ≡ x → Suits (sent_effect pid target info x)
      by (refuses e) is = tt
      by sends_nothing is = tt
      by (sends g) is =
          choice Suits (is_kill g && eqb target pid) _ _ (λ own. tt)
          (λ other.
          ((sent-user target number (life_of s target) g is, sent-reaches s target number g info new is), tt))

  sigaction-suits : (number disposition : ℕ) → Suits (sigaction_effect p.dispositions number disposition)
  unfolding sigaction_effect Suits
  sigaction-suits number disposition = by (signal_of_number number) refl
    where
      by : (o : Option Sig) → signal_of_number number ≡ o → Suits (sigaction_effect p.dispositions number disposition)
      by None is = rw is tt
      by (Some g) is = rw is (choice Suits (can_be_caught g) _ _ (λ catchable. (catchable, tt)) (λ uncatchable. tt))

  sigmask-suits : (word : ℕ) → Suits (sigmask_effect l.held word)
  unfolding sigmask_effect Suits
  sigmask-suits word = choice Suits (ltb word _) _ _ (λ within. (holdable-holdable word, tt)) (λ beyond. tt)

  sigreturn-suits : Suits (sigreturn_effect l.frames)
  unfolding sigreturn_effect Suits
  sigreturn-suits = by (slice_get l.frames (length l.frames - 1)) refl
    where
      by : (o : Option Frame) → slice_get l.frames (length l.frames - 1) ≡ o → Suits (sigreturn_effect l.frames)
      by None is = rw is tt
      by (Some frame) is =
          rw is (
            record {
              holdable = All-at IsLawfulFrame l.frames (length l.frames - 1) frame is own-lwp.frames;
              backs = All-take IsLawfulFrame (length l.frames - 1) l.frames own-lwp.frames;
              few =
                  let few = own-lwp.few_frames in
                  let fewer = length-take (length l.frames - 1) l.frames in
                  omega arith;
            },
            tt,
          )

  -- ---- lwps

  create-suits : (pc sp r1 : ℕ) → Suits (lwp_create_effect p id l.held pc sp r1)
  unfolding lwp_create_effect Suits
  create-suits pc sp r1 =
      choice Suits (eqb id agent_id) _ _ (λ agent. tt) (λ other.
      choice Suits (leb lwp_limit (length p.lwps) || ltb last_lwp p.next_lwp) _ _ (λ full. tt) (λ room.
      let parts = or_parts (leb lwp_limit (length p.lwps)) (ltb last_lwp p.next_lwp) room in (
        record {
          process = p;
          found = a.found;
          live = a.live;
          next = refl;
          last = ltb-false last_lwp p.next_lwp
              parts.1;
          few = leb-false lwp_limit (length p.lwps) parts.0;
          holdable = own-lwp.held;
        },
        tt,
      )))

  suspend-suits : (other : ℕ) → Suits (lwp_suspend_effect p id other)
  unfolding lwp_suspend_effect Suits
  suspend-suits other =
      choice Suits (can_be_named p other) _ _
      (λ named. choice Suits (eqb other id) _ _ (λ own. tt) (λ apart. (tt, tt))) (λ none. tt)

  continue-suits : (other : ℕ) → Suits (lwp_continue_effect p other)
  unfolding lwp_continue_effect Suits
  continue-suits other = choice Suits (can_be_named p other) _ _ (λ named. (tt, tt)) (λ none. tt)

  -- ---- the calls

  pub call-suits : (since : ℕ) (call : Sysno) (args : List ℕ) → Suits (call_effect s pid p id l since call args)
  unfolding call_effect exit_effect Suits
  call-suits since sys.Exit args = tt
  call-suits since sys.Fork args = fork-suits args
  call-suits since sys.Vfork args = vfork-suits args
  call-suits since sys.Read args = read-suits (slice_index args 0) (slice_index args 1) (slice_index args 2)
  call-suits since sys.Write args = write-suits (slice_index args 0) (slice_index args 1) (slice_index args 2)
  call-suits since sys.Open args = open-suits (slice_index args 0) (slice_index args 1)
  call-suits since sys.Close args = close-suits (slice_index args 0)
  call-suits since sys.Wait args = wait-suits (slice_index args 0)
  call-suits since sys.Getpid args = tt
  call-suits since sys.Getppid args = tt
  call-suits since sys.Exec args = exec-suits (slice_index args 0)
  call-suits since sys.Pipe args = pipe-suits (slice_index args 0)
  call-suits since sys.Dup args = dup-suits (slice_index args 0)
  call-suits since sys.Lseek args = lseek-suits (slice_index args 0) (slice_index args 1)
  call-suits since sys.Kill args =
      send-suits (slice_index args 0) (slice_index args 1) (killed_by pid) (record {
        code = omega arith;
        pid = own-id s pid p a.lawful a.found;
      })
  call-suits since sys.Sigaction args = sigaction-suits (slice_index args 0) (slice_index args 1)
  call-suits since sys.Sigmask args = sigmask-suits (slice_index args 0)
  call-suits since sys.Pause args = tt
  call-suits since sys.Sigreturn args = sigreturn-suits
  call-suits since sys.Brk args = brk-suits (slice_index args 0)
  call-suits since sys.Mmap args = mmap-suits (slice_index args 0) (slice_index args 1)
  call-suits since sys.Munmap args = munmap-suits (slice_index args 0) (slice_index args 1)
  call-suits since sys.Mprotect args = mprotect-suits (slice_index args 0) (slice_index args 1) (slice_index args 2)
  call-suits since sys.Time args = tt
  call-suits since sys.Sleep args = sleep-suits since (slice_index args 0)
  call-suits since sys.LwpCreate args = create-suits (slice_index args 0) (slice_index args 1) (slice_index args 2)
  call-suits since sys.LwpExit args = tt
  call-suits since sys.LwpSuspend args = suspend-suits (slice_index args 0)
  call-suits since sys.LwpContinue args = continue-suits (slice_index args 0)
  call-suits since sys.Fstat args = fstat-suits (slice_index args 0) (slice_index args 1)
  call-suits since sys.Sigqueue args =
      send-suits (slice_index args 0) (slice_index args 1) (queued_by pid (slice_index args 2)) (record {
        code = omega arith;
        pid = own-id s pid p a.lawful a.found;
      })
