use Rattle.std.proofs.Common.{◌≡◌, ◌≢◌, ◌&&◌, ℕ, ◌+◌, ◌<◌, ◌≤◌, Bool, true, false, not, is_none, eqb, cond, Option, Some, None, List, [], ◌∷◌, length, refl, sym, subst, ◌∙◌, ap, arith, inl, inr}
use Rattle.std.specs.List.{All, position, slice_get, slice_set}
use Rattle.std.specs.Option.{option_and_then}
use Rattle.std.proofs.lemmas.Bool.{cases_eq, false≢true, ne_eqb}
use Rattle.std.proofs.lemmas.List.{length-set}
use Rattle.std.proofs.lemmas.List.Elements.{All-set, All-nil, All-cons, All-weaker}
use Rattle.std.proofs.lemmas.Option.{same_Some, none-some}
use Rattle.pr_num.proofs.BoolLemmas.{and_false}
use Rattle.pr_num.specs.ById.{map_each}
use Rattle.pr_num.proofs.ByIdLaws.{All-under}
use Rattle.pr_num.proofs.SetLemmas.{has_number-zero}
use Rattle.pr_num.specs.Control.{has_flags, klc_mode, rlc_mode}
use Rattle.pr_num.specs.Infos.{by_controller}
use Rattle.pr_num.specs.Limits.{process_limit, all_mappings_limit}
use Rattle.pr_num.specs.Programs.{Program}
use Rattle.pr_num.specs.Sets.{common_word, minus_word, without_number}
use Rattle.pr_num.specs.Signals.{holdable_word, signal_number}
use Rattle.pr_num.specs.Spaces.{Space, first_space, mapped_size}
use Rattle.pr_num.specs.declared.errnos.Errno.TheVariants.{Inval, Noent, Busy}
use Rattle.pr_num.specs.declared.messages.Message.{Message}
use Rattle.pr_num.specs.declared.signals.Sig.TheVariants.{Kill}
use Rattle.pr_parts.specs.FileTables.{count_at, users_at}
use Rattle.pr_keeps.proofs.CallLemmas.{close-edit}
use Rattle.pr_keeps.specs.MessageEdits.{MessageEdit, nothing, a_process, an_end, a_signal}
use Rattle.pr_model.specs.FirstState.{system_process}
use Rattle.pr_model.specs.Handles.{is_writable, is_writer, has_writer, fits_file, has_file, conflicts, open_refusal, with_opened, released_lwp, released_control, released, with_last_close, after_last_close, was_last_writer, with_closed}
use Rattle.pr_model.specs.Lawful.{IsNumberedBelow, IsOfMade, IsLawfulFrame, IsLawfulLwp, IsLawfulProgram, IsLawfulProcess, IsLawfulSystem, IsFitting, AreExclusive, IsReleasedLwp, IsReleased, IsLawful}
use Rattle.pr_model.specs.Lives.{bare_process, first_lwp, new_lwp, new_process, with_spawned, zombie}
use Rattle.pr_model.specs.LwpTurns.{LwpTurn, turn_of}
use Rattle.pr_model.specs.Machines.{nothing_set, traced}
use Rattle.pr_model.specs.Readers.{size_of, total_size}
use Rattle.pr_model.specs.Rows.{row_for}
use Rattle.pr_model.specs.Signals.{disposition_of}
use Rattle.pr_model.specs.State.{Places, TracedLwp, TracedProcess, TracedState, TracedSystem, if_live, process_of, live_process, with_process}
use Rattle.pr_model.specs.declared.handles.Held.{Held}
use Rattle.pr_lawful.proofs.LawfulTurns.EndLemmas.{ended-lawful, found-live}
use Rattle.pr_lawful.proofs.ProcessParts.FileLemmas.{choice}
use Rattle.pr_lawful.proofs.ProcessParts.HandleLemmas.{all-fixed, alone-before, alone-then, exclusive-kept, exclusive-left, fitting-freed, fitting-taken, free-at, released-beside}
use Rattle.pr_lawful.proofs.ProcessParts.InfoLemmas.{no-infos}
use Rattle.pr_lawful.proofs.ProcessParts.ProgramLemmas.{program-leaves, program-small}
use Rattle.pr_lawful.proofs.ProcessParts.LocalLemmas.{KeepsLwp, same_sets, live-empty, Keeps, mapped_lwps}
use Rattle.pr_lawful.proofs.Following.MadeLemmas.{Grows, closed-grows, handles-on, settled-grows, edit-grows}
use Rattle.pr_lawful.proofs.LawfulStates.MessageLemmas.{edit-lawful}
use Rattle.pr_lawful.proofs.LawfulStates.ReleasedLemmas.{buried-released, ended-released, generated-released, modeless-released, process-released, settled-released, writer-released, zombie-released}
use Rattle.pr_lawful.proofs.ProcessParts.SystemLemmas.{change_under-same, joined, kept}
use Rattle.pr_lawful.proofs.LawfulTurns.TurnLemmas.{acting, row-suits, turn-lawful}
use Rattle.pr_model.proofs.TurnLemmas.{turn-taken}

-- Turns, opens, closes and what comes from outside leave a state lawful.

-- ---- a turn

pub turn-state : (s : TracedState) (pid id : ℕ) (t : LwpTurn) → IsLawful s → turn_of s.system pid id ≡ Some t
    → IsLawful (record s { system = t.system })
turn-state s pid id t h turn =
    let it = turn-taken s.system pid id t turn in
    let a = acting s.system pid id it.process it.lwp h.system it.live it.there in
    record {
      system = turn-lawful s.system pid id t h.system turn;
      places = h.places;
      fitting = h.fitting;
      handles =
          handles-on s.opens s.system t.system
          (subst (λ (v : LwpTurn). Grows s.system v.system) (sym it.is)
          (settled-grows pid it.process id it.lwp s.system
          (row_for s.system pid it.process id it.lwp))) h.handles;
      exclusive = h.exclusive;
      released = subst (λ (v : LwpTurn). All (IsReleased s.opens) v.system.processes) (sym it.is)
          (settled-released s.opens pid it.process id it.lwp s.system
          (row_for s.system pid it.process id it.lwp) a.found a.there
          (row-suits s.system pid it.process id it.lwp a) h.released);
    }

-- ---- what changes neither the system nor the handles

pub same-state : (s t : TracedState) → t.system ≡ s.system → t.opens ≡ s.opens → IsLawful s → IsLawful t
same-state s t system opens h = record {
  system = subst IsLawfulSystem (sym system) h.system;
  places = ap (λ (os : Places). length os) opens ∙ h.places;
  fitting = subst (All IsFitting) (sym opens) h.fitting;
  handles = rw (system, opens) h.handles;
  exclusive = subst AreExclusive (sym opens) h.exclusive;
  released = rw (system, opens) h.released;
}

-- ---- a message

-- nothing is asked of a process that a controller has open for writing
edit-released : (opens : Places) (s : TracedSystem) (pid : ℕ) (p : TracedProcess) (m : Message) (tail : List ℕ)
    (t : TracedSystem) → has_writer pid opens ≡ true → All (IsReleased opens) s.processes → MessageEdit s pid p m tail t
    → All (IsReleased opens) t.processes
edit-released opens s pid p m tail t written all nothing = all
edit-released opens s pid p m tail t written all (a_process f edits) =
    process-released opens s pid f (λ x at it. writer-released opens pid (f x) written) all
edit-released opens s pid p m tail t written all an_end = ended-released opens s pid p (signal_number Kill) all
edit-released opens s pid p m tail t written all (a_signal target g is room) =
    generated-released opens s pid target g by_controller all

pub edit-state : (s : TracedState) (pid : ℕ) (p : TracedProcess) (m : Message) (tail : List ℕ) (t : TracedSystem)
    → IsLawful s → pid ≢ 0 → process_of s.system pid ≡ Some p → p.ended ≡ None → has_writer pid s.opens ≡ true
    → MessageEdit s.system pid p m tail t → IsLawful (record s { system = t })
edit-state s pid p m tail t h user found live written e = record {
  system = edit-lawful s.system pid p m tail t h.system user found live e;
  places = h.places;
  fitting = h.fitting;
  handles = handles-on s.opens s.system t (edit-grows s.system pid p m tail t found e) h.handles;
  exclusive = h.exclusive;
  released = edit-released s.opens s.system pid p m tail t written h.released e;
}

-- ---- opens

pub opened-state : (s : TracedState) (place : ℕ) (h : Held) → IsLawful s → position is_none s.opens ≡ Some place
    → open_refusal s h.pid h.lwp h.file h.mode ≡ None → IsLawful (with_opened h place s)
unfolding with_opened open_refusal
opened-state s place h lawful at grants =
    by (fits_file h.file h.mode h.lwp) (has_file (process_of s.system h.pid) h.file h.lwp)
    (conflicts h.pid h.mode s.opens) refl refl refl grants
  where
    made-file : (o : Option TracedProcess) → process_of s.system h.pid ≡ o → has_file o h.file h.lwp ≡ true
        → h.pid < s.system.made
    made-file None is has = absurd (false≢true has)
    made-file (Some p) is has =
        (All-under (IsNumberedBelow s.system.made) h.pid p s.system.processes lawful.system.numbered is).id

    by : (a b c : Bool) → fits_file h.file h.mode h.lwp ≡ a → has_file (process_of s.system h.pid) h.file h.lwp ≡ b
        → conflicts h.pid h.mode s.opens ≡ c
        → cond (not a) (Some Inval) (cond (not b) (Some Noent) (cond c (Some Busy) None)) ≡ None
        → IsLawful (with_opened h place s)
    by true true false fits has free ok =
        let there = free-at s.opens place at in
        record {
          system = lawful.system;
          places = length-set s.opens place (Some h) ∙ lawful.places;
          fitting = fitting-taken s.opens place h there fits lawful.fitting;
          handles =
              All-set (IsOfMade s.system.made) s.opens place (Some h)
              (made-file (process_of s.system h.pid) refl has) lawful.handles;
          exclusive = exclusive-kept s.opens place h there free lawful.exclusive;
          released =
              All-weaker (IsReleased s.opens) (IsReleased (slice_set s.opens place (Some h)))
              (λ e it. released-beside s.opens (slice_set s.opens place (Some h)) e
              (alone-before s.opens place h there e.0) it) s.system.processes lawful.released;
        }
    by true true true fits has free ok = absurd (none-some _ (sym ok))
    by true false c fits has free ok = absurd (none-some _ (sym ok))
    by false b c fits has free ok = absurd (none-some _ (sym ok))

-- ---- closes

released-sets : KeepsLwp released_lwp
unfolding released_lwp
released-sets = same_sets released_lwp (λ l. refl) (λ l. refl) (λ l. refl) (λ l. refl)

released-keeps : Keeps released
unfolding released released_control
released-keeps pid x =
    let lwps = mapped_lwps x released_lwp released-sets in
    record {
      lawful = λ it. record {
        has_lwps = record { some = λ user live. subst (λ n. 0 < n) (sym lwps.count) (it.has_lwps.some user live) };
        empty_zombie = record {
          no_lwps = λ status is. ap (map_each released_lwp) (it.empty_zombie.no_lwps status is);
          no_memory = it.empty_zombie.no_memory;
          no_loan = it.empty_zombie.no_loan;
          no_files = it.empty_zombie.no_files;
        };
        rising = lwps.rising it.rising;
        lwps = lwps.lawful it.lwps;
        next_lwp = it.next_lwp;
        few_lwps = rw lwps.count it.few_lwps;
        descriptors = it.descriptors;
        traced = has_number-zero (signal_number Kill);
        uncaught = it.uncaught;
        pending = it.pending;
        heap_place = it.heap_place;
        small_space = it.small_space;
      };
      parent = refl;
      ended = refl;
      size = refl;
      fds = refl;
    }

-- the system process has no mode, so that its last close does nothing
system-modeless : (s : TracedSystem) (p : TracedProcess) → IsLawfulSystem s → process_of s 0 ≡ Some p
    → has_flags p.control.modes klc_mode ≡ false
unfolding system_process bare_process traced nothing_set has_flags common_word
system-modeless s p h found =
    subst (λ (x : TracedProcess). has_flags x.control.modes klc_mode ≡ false) (same_Some system_process p (sym h.first
    ∙ found)) refl

system-rests : (s : TracedSystem) (p : TracedProcess) → IsLawfulSystem s → process_of s 0 ≡ Some p
    → has_flags p.control.modes rlc_mode ≡ false
unfolding system_process bare_process traced nothing_set has_flags common_word
system-rests s p h found =
    subst (λ (x : TracedProcess). has_flags x.control.modes rlc_mode ≡ false) (same_Some system_process p (sym h.first
    ∙ found)) refl

last-close-lawful : (s : TracedSystem) (pid : ℕ) (p : TracedProcess) → IsLawfulSystem s → process_of s pid ≡ Some p
    → IsLawfulSystem (with_last_close pid p s)
unfolding with_last_close
last-close-lawful s pid p h found =
    choice IsLawfulSystem (has_flags p.control.modes klc_mode) _ _
    (λ kills. ended-lawful s pid p (signal_number Kill) h
    (λ is. false≢true (sym (system-modeless s p h (ap (process_of s) (sym is) ∙ found)) ∙ kills)) found)
    (λ spares. choice IsLawfulSystem (has_flags p.control.modes rlc_mode) _ _
    (λ releases. kept s pid released (λ is. false≢true (sym (system-rests s p h (ap (process_of s) (sym is) ∙ found))
    ∙ releases)) (λ x at. released-keeps pid x) h)
    (λ stays. h))

after-close-lawful : (s : TracedSystem) (pid : ℕ) → IsLawfulSystem s
    → IsLawfulSystem (after_last_close pid (live_process s pid) s)
after-close-lawful s pid h = by (live_process s pid) refl
  where
    by : (o : Option TracedProcess) → live_process s pid ≡ o → IsLawfulSystem (after_last_close pid o s)
    by None is = h
    by (Some p) is = last-close-lawful s pid p h (found-live s pid p is).0

-- ---- closes, and what is released then

module _ (others : Places) where
  -- released beside the handles that are left, but perhaps one process
  ButOne : ℕ → TracedSystem → Type 0
  ButOne pid s = All (λ (e : ℕ × TracedProcess). e.0 ≢ pid → IsReleased others e) s.processes

  mapped-calm : (es : List (ℕ × TracedLwp)) → All IsReleasedLwp (map_each released_lwp es)
  unfolding released_lwp
  mapped-calm [] = All-nil IsReleasedLwp
  mapped-calm (e ∷ es) =
      All-cons IsReleasedLwp (e.0, released_lwp e.1) (map_each released_lwp es)
      (record { no_stop = refl; not_directed = refl; no_step = refl }) (mapped-calm es)

  released-released : (pid : ℕ) (x : TracedProcess) → has_flags x.control.modes klc_mode ≡ false
      → IsReleased others (pid, released x)
  unfolding released released_control
  released-released pid x spares = record {
    no_kill = λ live alone. spares;
    untraced = λ live alone mode. record { signals = refl; faults = refl; entries = refl; exits = refl; areas = refl };
    runs = λ live alone mode. mapped-calm x.lwps;
  }

  -- a process that is no live one
  ended-one : (s : TracedSystem) (pid : ℕ) → live_process s pid ≡ None → (x : TracedProcess)
      → process_of s pid ≡ Some x → IsReleased others (pid, x)
  unfolding live_process
  ended-one s pid none x found = record {
    no_kill = λ live alone. absurd (clash live);
    untraced = λ live alone mode. absurd (clash live);
    runs = λ live alone mode. absurd (clash live);
  }
    where
      clash : x.ended ≡ None → ⊥
      clash live =
          none-some x (sym none ∙ ap (option_and_then if_live) found
          ∙ ap (λ (o : Option ℕ). cond (is_none o) (Some x) None) live)

  close-released : (s : TracedSystem) (pid : ℕ) → IsLawfulSystem s → ButOne pid s
      → All (IsReleased others) (after_last_close pid (live_process s pid) s).processes
  unfolding with_last_close ButOne with_process
  close-released s pid h all = by (live_process s pid) refl
    where
      Done : TracedSystem → Type 0
      Done t = All (IsReleased others) t.processes

      same : ((x : TracedProcess) → process_of s pid ≡ Some x → IsReleased others (pid, x)) → Done s
      same here =
          subst (All (IsReleased others)) (change_under-same pid (λ x. x) (λ x. refl) s.processes)
          (all-fixed (IsReleased others) pid (λ x. x) 0 s.processes h.rising all here)

      of : (p : TracedProcess) → live_process s pid ≡ Some p → Done (with_last_close pid p s)
      of p is =
          let found = (found-live s pid p is).0 in
          choice Done (has_flags p.control.modes klc_mode) _ _
          (λ kills. buried-released others s pid p (signal_number Kill)
          (all-fixed (IsReleased others) pid (zombie traced (signal_number Kill)) 0 s.processes h.rising all
          (λ x at. zombie-released others pid (signal_number Kill) x)))
          (λ spares. choice Done (has_flags p.control.modes rlc_mode) _ _
          (λ releases. all-fixed (IsReleased others) pid released 0 s.processes h.rising all
          (λ x at. released-released pid x
          (subst (λ (y : TracedProcess). has_flags y.control.modes klc_mode ≡ false) (same_Some p x (sym found
          ∙ at)) spares)))
          (λ stays. same (λ x at. subst (λ y. IsReleased others (pid, y)) (same_Some p x (sym found
          ∙ at)) (modeless-released others pid p spares stays))))

      by : (o : Option TracedProcess) → live_process s pid ≡ o → Done (after_last_close pid o s)
      by None is = same (ended-one s pid is)
      by (Some p) is = of p is

-- the handle that is closed is no writer of another process
not-writer : (h : Held) (pid : ℕ) → pid ≢ h.pid → is_writer pid (Some h) ≡ false
not-writer h pid apart = ap (λ b. b && is_writable h.mode) (ne_eqb h.pid pid (λ is. apart (sym is)))

pub closed-state : (s : TracedState) (number : ℕ) (h : Held) → IsLawful s → slice_get s.opens number ≡ Some (Some h)
    → IsLawful (with_closed h number s)
unfolding with_closed ButOne
closed-state s number h lawful there = record {
  system =
      choice IsLawfulSystem (was_last_writer h (slice_set s.opens number None)) _ _
      (λ last. after-close-lawful s.system h.pid lawful.system) (λ others. lawful.system);
  places = length-set s.opens number None ∙ lawful.places;
  fitting = fitting-freed s.opens number h there lawful.fitting;
  handles =
      All-set (IsOfMade
      (cond (was_last_writer h (slice_set s.opens number None))
      (after_last_close h.pid (live_process s.system h.pid) s.system) s.system).made) s.opens number None tt
      (handles-on s.opens s.system (with_closed h number s).system
      (closed-grows s.system h.pid (with_closed h number s).system (close-edit s number h)) lawful.handles);
  exclusive = exclusive-left s.opens number h there lawful.exclusive;
  released =
      choice (λ (t : TracedSystem). All (IsReleased (slice_set s.opens number None)) t.processes)
      (was_last_writer h (slice_set s.opens number None)) _ _
      (λ last. close-released (slice_set s.opens number None) s.system h.pid lawful.system
      (All-weaker (IsReleased s.opens)
      (λ (e : ℕ × TracedProcess). e.0 ≢ h.pid → IsReleased (slice_set s.opens number None) e)
      (λ e it apart. released-beside s.opens (slice_set s.opens number None) e
      (alone-then s.opens number h there e.0
      (not-writer h e.0 apart)) it) s.system.processes lawful.released))
      (λ left. All-weaker (IsReleased s.opens) (IsReleased (slice_set s.opens number None))
      (λ e it. released-beside s.opens (slice_set s.opens number None) e
      (λ alone. alone-then s.opens number h there e.0
      (none-left e.0 left alone) alone) it) s.system.processes lawful.released);
}
  where
    one : (w a : Bool) → (w && not a) ≡ false → a ≡ false → w ≡ false
    one true true left alone = cc
    one true false left alone = cc
    one false a left alone = refl

    none-left : (pid : ℕ) → was_last_writer h (slice_set s.opens number None) ≡ false
        → has_writer pid (slice_set s.opens number None) ≡ false → is_writer pid (Some h) ≡ false
    none-left pid left alone =
        elim (cases_eq pid h.pid) [
          | inl same ↦
              let writes =
              one (is_writable h.mode) (has_writer h.pid (slice_set s.opens number None)) left
              (ap (λ n. has_writer n (slice_set s.opens number None)) (sym same) ∙ alone) in
              rw (writes) (and_false (eqb h.pid pid))
          | inr apart ↦ not-writer h pid apart
        ]

-- ---- what comes from outside

new_lwp-lawful : (held : Bool) → IsLawfulLwp 2 (1, first_lwp traced held)
unfolding first_lwp new_lwp holdable_word without_number minus_word
new_lwp-lawful held = record {
  id = inl (omega arith);
  held = record { same = refl };
  frames = All-nil IsLawfulFrame;
  few_frames = omega arith;
  pending = no-infos;
  current = tt;
}

new_process-lawful : (pid clock : ℕ) (program : Program) (held : Bool) → IsLawfulProgram program
    → IsLawfulProcess (pid, new_process traced program clock held)
unfolding new_process bare_process traced nothing_set disposition_of signal_number
new_process-lawful pid clock program held within = record {
  has_lwps = record { some = λ user live. omega arith };
  empty_zombie = live-empty (new_process traced program clock held) refl;
  rising = refl;
  lwps = All-cons (IsLawfulLwp 2) (1, first_lwp traced held) [] (new_lwp-lawful held) (All-nil (IsLawfulLwp 2));
  next_lwp = omega arith;
  few_lwps = omega arith;
  descriptors = refl;
  traced = has_number-zero (signal_number Kill);
  uncaught = record { kill = refl; stop = refl };
  pending = no-infos;
  heap_place = program-leaves program within;
  small_space = program-small program within;
}

new-parent : (program : Program) (clock : ℕ) (held : Bool) → (new_process traced program clock held).parent ≡ 0
unfolding new_process bare_process
new-parent program clock held = refl

pub new-space : (program : Program) (clock : ℕ) (held : Bool)
    → (new_process traced program clock held).space ≡ first_space program
unfolding new_process bare_process
new-space program clock held = refl

new-users : (program : Program) (clock : ℕ) (held : Bool) (place n : ℕ)
    → n ≡ n + count_at (new_process traced program clock held).fds place
unfolding new_process bare_process
new-users program clock held place n = omega arith

-- a process of a program is made, where there is room
pub spawned-lawful : (s : TracedSystem) (program : Program) (held : Bool) → IsLawfulProgram program → IsLawfulSystem s
    → s.made < process_limit → total_size s + mapped_size (first_space program) ≤ all_mappings_limit
    → IsLawfulSystem (with_spawned traced program held s)
unfolding with_spawned size_of
spawned-lawful s program held within h room mapped =
    joined s s.files (new_process traced program s.clock held) h (record {
      lawful = new_process-lawful s.made s.clock program held within;
      parent = record { parent = inl (new-parent program s.clock held) };
      room = room;
      mapped =
          subst (λ (space : Space). total_size s + mapped_size space ≤ all_mappings_limit)
          (sym (new-space program s.clock held)) mapped;
      table = h.files.table;
      pipes = h.files.pipes;
      users = λ place. new-users program s.clock held place (users_at s.files place);
    })
