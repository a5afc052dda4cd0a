use Rattle.std.proofs.Common.{◌≡◌, ◌≢◌, ◌&&◌, ℕ, zero, suc, ◌+◌, ◌-◌, ◌<◌, ◌≤◌, Bool, true, false, is_some, is_none, eqb, get_or, map, Option, Some, None, List, [], ◌∷◌, length, cond, refl, sym, subst, ◌∙◌, ap, arith, inl, inr, get_or-set_other}
use Rattle.std.specs.Option.{option_map}
use Rattle.std.proofs.lemmas.Bool.{eqb-false, le-leb}
use Rattle.std.proofs.lemmas.List.Elements.{All-nil, All-cons}
use Rattle.std.proofs.lemmas.Option.{same_Some}
use Rattle.pr_num.specs.ById.{inserted}
use Rattle.pr_num.specs.Control.{has_flags, fork_mode}
use Rattle.pr_num.specs.Sets.{has_number}
use Rattle.pr_num.proofs.ByIdLemmas.{rises_from-inserted}
use Rattle.pr_num.proofs.ByIdLaws.{All-under, All-inserted, length-inserted, under-change_under}
use Rattle.pr_num.proofs.SetLemmas.{has_number-zero}
use Rattle.std.proofs.lemmas.List.Elements.{All-weaker}
use Rattle.pr_num.specs.Limits.{all_mappings_limit, last_lwp, lwp_limit}
use Rattle.pr_num.specs.Programs.{Program}
use Rattle.pr_num.specs.Signals.{signal_number}
use Rattle.pr_num.specs.Spaces.{first_space, mapped_size}
use Rattle.pr_num.specs.declared.signals.Sig.{Sig}
use Rattle.pr_num.specs.declared.signals.Sig.TheVariants.{Kill, Stop}
use Rattle.pr_file_laws.proofs.CountLemmas.{users-all_shared}
use Rattle.pr_file_laws.proofs.EndLemmas.{ends-all_shared}
use Rattle.pr_file_laws.proofs.UserLemmas.{IsFileTable-all_shared}
use Rattle.pr_parts.specs.FileCalls.{with_all_shared}
use Rattle.pr_model.specs.Changes.{Change, files_are, space_is, signals, signals_itself, takes_shared, job_stops, disposition_is, held_is, resumes, forks, reaps, becomes, makes_lwp, suspends, with_fds, with_space, with_shared_taken, with_job_stop, with_disposition_of, with_held, resumed, with_suspended, changed, all_changed}
use Rattle.pr_model.specs.Lawful.{IsHoldable, IsLawfulFrame, IsLawfulLwp, AreUncaught, IsLawfulProcess, IsLawfulSystem}
use Rattle.pr_model.specs.Lives.{Birth, by_fork, by_vfork, uncaught, lent_to, with_loan_back, new_lwp, forked_lwp, forked, with_child, started, with_program, with_new_lwp}
use Rattle.pr_model.specs.Machines.{nothing_set, nothing_used, no_marks, child_control, exec_control, traced}
use Rattle.pr_model.specs.ProcessCalls.{given_up}
use Rattle.pr_model.specs.Readers.{size_of, total_size}
use Rattle.pr_model.specs.SignalCalls.{can_be_caught}
use Rattle.pr_model.specs.Signals.{is_kill, disposition_of}
use Rattle.pr_model.specs.State.{TracedControl, TracedLwp, TracedProcess, TracedSystem, lwp_of, process_of, with_process, with_process_if, with_lwp}
use Rattle.pr_model.specs.declared.frames.Frame.{Frame}
use Rattle.pr_lawful.proofs.LawfulTurns.EndLemmas.{generated-lawful}
use Rattle.pr_lawful.proofs.ProcessParts.InfoLemmas.{no-infos, taken-infos}
use Rattle.pr_lawful.proofs.ProcessParts.LocalLemmas.{KeepsLwp, same_sets, live-empty, StaysLawful, Keeps, kept-same, kept-parts, same_rest, same_lwps, keeps-lwp}
use Rattle.pr_lawful.proofs.LawfulTurns.LoanLemmas.{back-lawful, lent-lawful, lent-total, total-changed}
use Rattle.pr_lawful.proofs.LawfulTurns.SuitingLemmas.{SuitsFiles, SuitsSpace, SuitsFrames, SuitsChild, SuitsProgram, SuitsLwp, SuitsChange, SuitChanges}
use Rattle.pr_lawful.proofs.ProcessParts.SystemLemmas.{Replaces, replaced, kept, Joins, joined, reaped, lives, lives-live, descriptors-open}

-- Each change that suits a lawful system leaves it lawful: a line a kind of change.

-- ---- files and memory

files-lawful : (s : TracedSystem) (pid : ℕ) (files : _) (fds : _) → pid ≢ 0 → IsLawfulSystem s
    → SuitsFiles s pid files fds → IsLawfulSystem (with_process pid (with_fds fds) (record s { files = files }))
unfolding with_fds size_of
files-lawful s pid files fds user h suits =
    let x = suits.process in
    replaced s files pid (with_fds fds) x h user suits.found (record {
      lawful = λ it. record {
        has_lwps = record { some = it.has_lwps.some };
        empty_zombie = live-empty (with_fds fds x) suits.live;
        rising = it.rising;
        lwps = it.lwps;
        next_lwp = it.next_lwp;
        few_lwps = it.few_lwps;
        descriptors = suits.places;
        traced = it.traced;
        uncaught = it.uncaught;
        pending = it.pending;
        heap_place = it.heap_place;
        small_space = it.small_space;
      };
      parent = refl;
      ended = refl;
      mapped = let limit = h.mapped in omega arith;
      table = suits.table;
      pipes = suits.pipes;
      users = suits.counted.each;
    })

space-lawful : (s : TracedSystem) (pid : ℕ) (space : _) → pid ≢ 0 → IsLawfulSystem s → SuitsSpace s pid space
    → IsLawfulSystem (with_process pid (with_space space) s)
unfolding with_space size_of
space-lawful s pid space user h suits =
    replaced s s.files pid (with_space space) suits.process h user suits.found (record {
      lawful = λ it. record {
        has_lwps = record { some = it.has_lwps.some };
        empty_zombie = live-empty (with_space space suits.process) suits.live;
        rising = it.rising;
        lwps = it.lwps;
        next_lwp = it.next_lwp;
        few_lwps = it.few_lwps;
        descriptors = it.descriptors;
        traced = it.traced;
        uncaught = it.uncaught;
        pending = it.pending;
        heap_place = suits.heap_place;
        small_space = suits.small;
      };
      parent = refl;
      ended = refl;
      mapped = suits.mapped;
      table = h.files.table;
      pipes = h.files.pipes;
      users = λ place. refl;
    })

-- ---- signals

pub shared_taken-keeps : (g : Sig) → Keeps (with_shared_taken g)
unfolding with_shared_taken
shared_taken-keeps g pid x =
    kept-parts pid x (with_shared_taken g x) refl (same_rest x _ refl refl refl refl refl (taken-infos g x.pending))
    (same_lwps x _ refl refl) refl refl

job_stop-keeps : (g : Sig) → Keeps (with_job_stop g)
unfolding with_job_stop
job_stop-keeps g pid x =
    kept-parts pid x (with_job_stop g x) refl (same_rest x _ refl refl refl refl refl (λ it. it))
    (same_lwps x _ refl refl) refl refl

-- a signal that can be caught is neither SIGKILL nor SIGSTOP
other-kill : (g : Sig) → can_be_caught g ≡ true → eqb 8 (signal_number g - 1) ≡ false
unfolding signal_number
other-kill Kill catchable = cc
other-kill Stop catchable = cc
other-kill _ catchable = refl

other-stop : (g : Sig) → can_be_caught g ≡ true → eqb 22 (signal_number g - 1) ≡ false
unfolding signal_number
other-stop Kill catchable = cc
other-stop Stop catchable = cc
other-stop _ catchable = refl

disposition-keeps : (g : Sig) (d : ℕ) → can_be_caught g ≡ true → Keeps (with_disposition_of g d)
unfolding with_disposition_of disposition_of signal_number
disposition-keeps g d catchable pid x = record {
  lawful = λ it. record {
    has_lwps = record { some = it.has_lwps.some };
    empty_zombie = record {
      no_lwps = it.empty_zombie.no_lwps;
      no_memory = it.empty_zombie.no_memory;
      no_loan = it.empty_zombie.no_loan;
      no_files = it.empty_zombie.no_files;
    };
    rising = it.rising;
    lwps = it.lwps;
    next_lwp = it.next_lwp;
    few_lwps = it.few_lwps;
    descriptors = it.descriptors;
    traced = it.traced;
    uncaught = record {
      kill =
          get_or-set_other x.dispositions (signal_number g - 1) 8 d 0
          (eqb-false 8 (signal_number g - 1) (other-kill g catchable)) ∙ it.uncaught.kill;
      stop =
          get_or-set_other x.dispositions (signal_number g - 1) 22 d 0
          (eqb-false 22 (signal_number g - 1) (other-stop g catchable)) ∙ it.uncaught.stop;
    };
    pending = it.pending;
    heap_place = it.heap_place;
    small_space = it.small_space;
  };
  parent = refl;
  ended = refl;
  size = refl;
  fds = refl;
}

-- ---- lwps

pub held-keeps : (held : ℕ) → IsHoldable held → KeepsLwp (with_held held)
unfolding with_held
held-keeps held holdable next id l it = record {
  id = it.id;
  held = holdable;
  frames = it.frames;
  few_frames = it.few_frames;
  pending = it.pending;
  current = it.current;
}

resumed-keeps : (frame : Frame) (frames : List Frame) → SuitsFrames frame.held frames → KeepsLwp (resumed frame frames)
unfolding resumed
resumed-keeps frame frames suits next id l it = record {
  id = it.id;
  held = suits.holdable;
  frames = suits.backs;
  few_frames = suits.few;
  pending = it.pending;
  current = it.current;
}

suspended-keeps : (suspended : Bool) → KeepsLwp (with_suspended suspended)
unfolding with_suspended
suspended-keeps suspended = same_sets (with_suspended suspended) (λ l. refl) (λ l. refl) (λ l. refl) (λ l. refl)

new_lwp-lawful : (regs : List ℕ) (held next id : ℕ) (marks : Bool) → IsHoldable held → id < next
    → IsLawfulLwp next (id, new_lwp traced regs held (no_marks marks))
unfolding new_lwp
new_lwp-lawful regs held next id marks holdable low = record {
  id = inl low;
  held = holdable;
  frames = All-nil IsLawfulFrame;
  few_frames = omega arith;
  pending = no-infos;
  current = tt;
}

more-ids : (next : ℕ) (e : ℕ × TracedLwp) → IsLawfulLwp next e → IsLawfulLwp (next + 1) e
more-ids next e it = record {
  id = elim it.id [ inl low ↦ inl (omega arith) | inr agent ↦ inr agent ];
  held = it.held;
  frames = it.frames;
  few_frames = it.few_frames;
  pending = it.pending;
  current = it.current;
}

one_more-kept : (pid new held : ℕ) (regs : List ℕ) (x : TracedProcess) → x.ended ≡ None → new ≡ x.next_lwp
    → x.next_lwp ≤ last_lwp → length x.lwps < lwp_limit → IsHoldable held
    → StaysLawful pid x (with_new_lwp traced new regs held x)
unfolding with_new_lwp traced
one_more-kept pid new held regs x live next last few holdable = by (is_some (lwp_of x new)) refl
  where
    made : TracedProcess
    made = record x { next_lwp = new + 1; lwps = inserted new (new_lwp traced regs held (no_marks false)) x.lwps }

    by : (b : Bool) → is_some (lwp_of x new) ≡ b → StaysLawful pid x (cond b x made)
    by true stood = kept-same pid x
    by false free = record {
      lawful = λ it.
          let count = length-inserted new (new_lwp traced regs held (no_marks false)) x.lwps in
          record {
            has_lwps = record { some = λ user is. omega arith };
            empty_zombie = live-empty made live;
            rising =
                rises_from-inserted 0 new (new_lwp traced regs held (no_marks false)) x.lwps
                (omega arith) it.rising free;
            lwps =
                All-inserted (IsLawfulLwp (new + 1)) new (new_lwp traced regs held (no_marks false)) x.lwps
                (new_lwp-lawful regs held (new + 1) new false holdable (omega arith))
                (rw next
                (All-weaker (IsLawfulLwp x.next_lwp) (IsLawfulLwp (x.next_lwp + 1))
                (more-ids x.next_lwp) x.lwps it.lwps));
            next_lwp = omega arith;
            few_lwps = omega arith;
            descriptors = it.descriptors;
            traced = it.traced;
            uncaught = it.uncaught;
            pending = it.pending;
            heap_place = it.heap_place;
            small_space = it.small_space;
          };
      parent = refl;
      ended = refl;
      size = refl;
      fds = refl;
    }

new-lawful : (s : TracedSystem) (pid new held : ℕ) (regs : List ℕ) → pid ≢ 0 → IsLawfulSystem s
    → SuitsLwp s pid new held → IsLawfulSystem (with_process pid (with_new_lwp traced new regs held) s)
new-lawful s pid new held regs user h suits =
    kept s pid (with_new_lwp traced new regs held) user (λ x is.
    let same = same_Some suits.process x (sym suits.found ∙ is) in
    subst (λ y. StaysLawful pid y (with_new_lwp traced new regs held y)) same
    (one_more-kept pid new held regs suits.process suits.live suits.next suits.last suits.few suits.holdable)) h

-- ---- processes

uncaught-at : (ds : List ℕ) (i : ℕ) → get_or ds i 0 ≡ 0 → get_or (map uncaught ds) i 0 ≡ 0
uncaught-at [] i none = refl
uncaught-at (d ∷ ds) zero none = rw none refl
uncaught-at (d ∷ ds) (suc i) none = uncaught-at ds i none

uncaught-all : (ds : List ℕ) → AreUncaught ds → AreUncaught (map uncaught ds)
unfolding disposition_of
uncaught-all ds it = record { kill = uncaught-at ds _ it.kill; stop = uncaught-at ds _ it.stop }

-- a process that runs another program has the memory of that
program-size : (id : ℕ) (l : TracedLwp) (program : Program) (p : TracedProcess)
    → size_of (with_program traced id l program p) ≡ mapped_size (first_space program)
unfolding with_program size_of
program-size id l program p = refl

-- it gives up no more than it had, and nothing where it has borrowed
given_up-most : (s : TracedSystem) (p : TracedProcess) (id : ℕ) → given_up s p id ≤ size_of p
unfolding given_up
given_up-most s p id =
    elim (is_some p.lender) as (λ b. cond b 0 (size_of p) ≤ size_of p) [ true ↦ omega arith | false ↦ omega arith ]

given_up-none : (s : TracedSystem) (p : TracedProcess) (id lender : ℕ) → p.lender ≡ Some lender → given_up s p id ≡ 0
unfolding given_up
given_up-none s p id lender is = rw is refl

program-replaces : (s : TracedSystem) (pid : ℕ) (p : TracedProcess) (id : ℕ) (l : TracedLwp) (program : Program)
    → IsLawfulSystem s → SuitsProgram s pid p id l program
    → Replaces s s.files pid p (with_program traced id l program p)
unfolding with_program started traced exec_control size_of
program-replaces s pid p id l program h suits =
    let own = All-under IsLawfulProcess pid p s.processes h.processes suits.found in
    let lwp = All-under (IsLawfulLwp p.next_lwp) id l p.lwps own.lwps suits.there in
    record {
      lawful = λ it. record {
        has_lwps = record { some = λ other is. omega arith };
        empty_zombie = live-empty (with_program traced id l program p) suits.live;
        rising = rw (le-leb 0 id (omega arith)) refl;
        lwps =
            All-cons (IsLawfulLwp p.next_lwp) (id, started traced l) []
            (record {
              id = lwp.id;
              held = lwp.held;
              frames = All-nil IsLawfulFrame;
              few_frames = omega arith;
              pending = lwp.pending;
              current = lwp.current;
            }) (All-nil (IsLawfulLwp p.next_lwp));
        next_lwp = it.next_lwp;
        few_lwps = omega arith;
        descriptors = it.descriptors;
        traced = it.traced;
        uncaught = uncaught-all p.dispositions it.uncaught;
        pending = it.pending;
        heap_place = suits.heap_place;
        small_space = suits.small;
      };
      parent = refl;
      ended = refl;
      mapped = let room = suits.mapped in let most = given_up-most s p id in omega arith;
      table = h.files.table;
      pipes = h.files.pipes;
      users = λ place. refl;
    }

program-lawful : (s : TracedSystem) (pid : ℕ) (p : TracedProcess) (id : ℕ) (l : TracedLwp) (program : Program)
    → pid ≢ 0 → IsLawfulSystem s → SuitsProgram s pid p id l program
    → IsLawfulSystem (with_process_if p.lender (with_loan_back pid p)
    (with_process pid (with_program traced id l program) s))
program-lawful s pid p id l program user h suits = by p.lender refl
  where
    t : TracedSystem
    t = with_process pid (with_program traced id l program) s

    lawful : IsLawfulSystem t
    lawful =
        replaced s s.files pid (with_program traced id l program) p h user suits.found
        (program-replaces s pid p id l program h suits)

    by : (o : Option ℕ) → p.lender ≡ o → IsLawfulSystem (with_process_if o (with_loan_back pid p) t)
    by None none = lawful
    by (Some lender) is =
        let all = total-changed s pid (with_program traced id l program) p suits.found in
        let new = program-size id l program p in
        let kept = given_up-none s p id lender is in
        let room = suits.mapped in
        back-lawful t pid p (Some lender) lawful
        (All-under IsLawfulProcess pid p s.processes h.processes suits.found) (omega arith)

child_control-traced : (c : TracedControl) → has_number c.traced_signals (signal_number Kill) ≡ false
    → has_number (child_control c).traced_signals (signal_number Kill) ≡ false
unfolding child_control nothing_set
child_control-traced c is = by (has_flags c.modes fork_mode)
  where
    by : (b : Bool)
        → has_number
        (cond b (record c { modes = fork_mode; areas = []; usage = nothing_used }) nothing_set).traced_signals
        (signal_number Kill) ≡ false
    by true = is
    by false = has_number-zero (signal_number Kill)

module _ (birth : Birth) (s : TracedSystem) (pid : ℕ) (p : TracedProcess) (l : TracedLwp) (args : List ℕ)
    (h : IsLawfulSystem s) (suits : SuitsChild birth s pid p l) where
  -- a child joins the system, once its memory is lent to it where it has that as a loan
  child-joins : (t : TracedSystem) → t.made ≡ s.made → t.files ≡ s.files → IsLawfulSystem t
      → lives (process_of t pid) ≡ true → total_size t + size_of p ≤ all_mappings_limit
      → Joins t (with_all_shared s.files p.fds) (forked traced birth pid p l args s.clock)
  unfolding forked forked_lwp traced size_of
  child-joins t made files lawful there mapped =
      let own = All-under IsLawfulProcess pid p s.processes h.processes suits.found in
      record {
        lawful = record {
          has_lwps = record { some = λ user is. omega arith };
          empty_zombie = live-empty (forked traced birth pid p l args s.clock) refl;
          rising = refl;
          lwps =
              All-cons (IsLawfulLwp 2) (1, forked_lwp traced birth args p.control l) []
              (record {
                id = inl (omega arith);
                held = suits.held;
                frames = suits.frames;
                few_frames = suits.few_frames;
                pending = no-infos;
                current = tt;
              }) (All-nil (IsLawfulLwp 2));
          next_lwp = omega arith;
          few_lwps = omega arith;
          descriptors = own.descriptors;
          traced = child_control-traced p.control own.traced;
          uncaught = own.uncaught;
          pending = no-infos;
          heap_place = own.heap_place;
          small_space = own.small_space;
        };
        parent = record { parent = inr (lives-live t pid ∙ there) };
        room = let room = suits.room in omega arith;
        mapped = mapped;
        table = IsFileTable-all_shared s.files p.fds h.files.table;
        pipes = ends-all_shared s.files p.fds h.files.pipes;
        users = rw files (users-all_shared s.files p.fds (descriptors-open s pid p h suits.found));
      }

lives-there : (s : TracedSystem) (pid : ℕ) (p : TracedProcess) → process_of s pid ≡ Some p → p.ended ≡ None
    → lives (process_of s pid) ≡ true
lives-there s pid p found live = ap lives found ∙ ap (λ (o : Option ℕ). is_none o) live

child-lawful : (birth : Birth) (s : TracedSystem) (pid : ℕ) (p : TracedProcess) (l : TracedLwp) (args : List ℕ)
    → pid ≢ 0 → IsLawfulSystem s → SuitsChild birth s pid p l → IsLawfulSystem (with_child traced birth pid p l args s)
unfolding with_child with_process lent_to
child-lawful by_fork s pid p l args user h suits =
    joined s (with_all_shared s.files p.fds) (forked traced by_fork pid p l args s.clock) h
    (child-joins by_fork s pid p l args h suits s refl refl h (lives-there s pid p suits.found suits.live) suits.mapped)
child-lawful by_vfork s pid p l args user h suits =
    let t : TracedSystem = with_process pid (lent_to s.made) s in
    let there : process_of t pid ≡ Some (lent_to s.made p) =
    under-change_under pid (lent_to s.made) s.processes ∙ ap (option_map (lent_to s.made)) suits.found in
    let lawful = lent-lawful s pid s.made p h user suits.found suits.live in
    let total = lent-total s pid s.made p suits.found in
    let limit = h.mapped in
    joined t (with_all_shared s.files p.fds) (forked traced by_vfork pid p l args s.clock) lawful
    (child-joins by_vfork s pid p l args h suits t refl refl lawful
    (lives-there t pid (lent_to s.made p) there suits.live) (omega arith))

-- ---- the kinds of change

module _ (pid : ℕ) (p : TracedProcess) (id : ℕ) (l : TracedLwp) (user : pid ≢ 0) where
  unless : (b : Bool) (s t : TracedSystem) → IsLawfulSystem s → IsLawfulSystem t → IsLawfulSystem (cond b s t)
  unless true s t one other = one
  unless false s t one other = other

  pub changed-lawful : (c : Change) (s : TracedSystem) → IsLawfulSystem s → SuitsChange pid p id l s c
      → IsLawfulSystem (changed traced pid p id l c s)
  unfolding changed
  changed-lawful (files_are files fds) s h suits = files-lawful s pid files fds user h suits
  changed-lawful (space_is space) s h suits = space-lawful s pid space user h suits
  changed-lawful (signals target g info) s h suits =
      unless (is_kill g && eqb target pid) s _ h (generated-lawful s target None g info suits.1 h suits.0)
  changed-lawful (signals_itself g info) s h suits =
      unless (is_kill g) s _ h (generated-lawful s pid (Some id) g info suits h user)
  changed-lawful (takes_shared g) s h suits =
      kept s pid (with_shared_taken g) user (λ x is. shared_taken-keeps g pid x) h
  changed-lawful (job_stops g) s h suits = kept s pid (with_job_stop g) user (λ x is. job_stop-keeps g pid x) h
  changed-lawful (disposition_is g d) s h suits =
      kept s pid (with_disposition_of g d) user (λ x is. disposition-keeps g d suits pid x) h
  changed-lawful (held_is held) s h suits =
      kept s pid (with_lwp id (with_held held)) user
      (λ x is. keeps-lwp id (with_held held) (held-keeps held suits) pid x) h
  changed-lawful (resumes frame frames) s h suits =
      kept s pid (with_lwp id (resumed frame frames)) user
      (λ x is. keeps-lwp id (resumed frame frames) (resumed-keeps frame frames suits) pid x) h
  changed-lawful (forks birth args) s h suits =
      unless (eqb s.made pid) s _ h (child-lawful birth s pid p l args user h suits)
  changed-lawful (reaps child) s h suits =
      unless (eqb child pid) s _ h (reaped s child suits.status suits.zombie h suits.found suits.over)
  changed-lawful (becomes program) s h suits = program-lawful s pid p id l program user h suits
  changed-lawful (makes_lwp new regs held) s h suits = new-lawful s pid new held regs user h suits
  changed-lawful (suspends other suspended) s h suits =
      kept s pid (with_lwp other (with_suspended suspended)) user
      (λ x is. keeps-lwp other (with_suspended suspended) (suspended-keeps suspended) pid x) h

  pub all_changed-lawful : (cs : List Change) (s : TracedSystem) → IsLawfulSystem s → SuitChanges pid p id l s cs
      → IsLawfulSystem (all_changed traced pid p id l cs s)
  unfolding all_changed
  all_changed-lawful [] s h suits = h
  all_changed-lawful (c ∷ cs) s h suits =
      all_changed-lawful cs (changed traced pid p id l c s) (changed-lawful c s h suits.0) suits.1
