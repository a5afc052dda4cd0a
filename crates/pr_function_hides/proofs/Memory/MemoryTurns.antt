use Rattle.std.proofs.Common.{◌≡◌, ◌≢◌, ◌⊎◌, ◌==◌, ◌&&◌, ℕ, Bool, true, is_some, Option, Some, None, IsSome, List, [], ◌∷◌, length, refl, sym, subst, ap, ◌∙◌, inl, inr}
use Rattle.std.proofs.lemmas.Bool.{cases_eq, false≢true}
use Rattle.std.proofs.lemmas.Option.{none-some}
use Rattle.std.specs.Option.{option_map}
use Rattle.pr_function_hides.proofs.Memory.PassedMemory.{Passes, either-passes, edit-passes, ended-passes, generated-passes, left-passes, next-passes, plain-passes, processes-pass, reaped-passes, same-pass, same-passes}
use Rattle.pr_function_hides.proofs.Memory.SharedMemory.{HasMemoryOf, Shows, borrower-stands, its_own, itself, lent_on, of_borrower}
use Rattle.pr_keeps.proofs.KeepsLemmas.{choice}
use Rattle.pr_lawful.proofs.LawfulTurns.EffectLemmas.{IsActing}
use Rattle.pr_lawful.proofs.LawfulTurns.SuitingLemmas.{SuitChanges, SuitsChange, SuitsTransition}
use Rattle.pr_lawful.proofs.ProcessParts.SystemLemmas.{next-free}
use Rattle.pr_lawful.proofs.LawfulTurns.TurnLemmas.{row-suits}
use Rattle.pr_lending.proofs.LendingTurns.ChangeLemmas.{moved-kept}
use Rattle.pr_lending.proofs.ProcessLoans.LifeLemmas.{found-stands, stands-kept}
use Rattle.pr_lending.proofs.ProcessLoans.LoanLemmas.{borrower-found, borrower_in, is_live_in, lender_in, lending-kept, seen-kept, space-found, space_in, zombie-dead}
use Rattle.pr_lending.proofs.ProcessLoans.PassLemmas.{IsFree, Stands, loans-passed}
use Rattle.pr_lending.specs.Lending.{AreLending}
use Rattle.pr_model.specs.Changes.{Change, Ending, all_changed, becomes, changed, disposition_is, ended, ends_lwp, ends_process, files_are, forks, held_is, job_stops, makes_lwp, reaps, resumed, resumes, signals, signals_itself, space_is, suspends, takes_shared, with_disposition_of, with_fds, with_held, with_job_stop, with_shared_taken, with_space, with_suspended}
use Rattle.pr_model.specs.Lives.{by_fork, by_vfork, forked, lent_to, with_child, with_lender_of, with_loan_back, with_loans_passed, with_lwp_ended, with_made, with_new_lwp, with_program, without_lwp}
use Rattle.pr_model.specs.LwpTurns.{settled, with_counted}
use Rattle.pr_model.specs.Machines.{traced}
use Rattle.pr_model.specs.Moves.{Move, moved}
use Rattle.pr_model.specs.Points.{after_meeting}
use Rattle.pr_model.specs.Readers.{borrower_at, lender_at, space_at}
use Rattle.pr_model.specs.Rows.{Row, requested_row, row_for}
use Rattle.pr_model.specs.Signals.{is_kill}
use Rattle.pr_model.specs.State.{TracedLwp, TracedProcess, TracedSystem, live_process, lwp_of, process_of, with_lwp, with_lwp_of, with_process, with_process_if}
use Rattle.pr_model.specs.Transitions.{Transition, after_transition, ended_if, requested}
use Rattle.pr_num.proofs.ByIdLaws.{under-change_under, under-change_under_other, under-inserted, under-inserted_other}
use Rattle.pr_num.specs.ById.{change_under, under}
use Rattle.pr_num.specs.Programs.{Program}
use Rattle.pr_num.specs.Spaces.{Space}
use Rattle.pr_parts.specs.FileCalls.{with_all_shared}
use Rattle.pr_truss_laws.proofs.EventStops.OwnTurnLemmas.{meeting-same}
use Rattle.pr_truss_laws.proofs.Machine.StoresLemmas.{may_have_lent, row-stores, stores_after}

-- What a turn makes of the memory that a process shows: so it is of it still, where it is so of each space that the
-- turn leaves to one of those that have the memory, and where the process itself runs no other program.

-- ---- a child that gets the memory

module _ (P : Space → Type 0) (pid : ℕ) (s : TracedSystem) (acting : ℕ) (p : TracedProcess) (l : TracedLwp)
    (args : List ℕ) (found : process_of s acting ≡ Some p) (own : p.borrower ≡ None)
    (free : process_of s s.made ≡ None)
    (stands : (x : ℕ) → HasMemoryOf s pid x → (z : TracedProcess) × (process_of s x ≡ Some z)) where
  abbrev lends : TracedSystem
  lends = with_process acting (lent_to s.made) (record s { files = with_all_shared s.files p.fds })

  abbrev child : TracedProcess
  child = forked traced by_vfork acting p l args s.clock

  abbrev born : TracedSystem
  born = with_child traced by_vfork acting p l args s

  new-is : process_of born s.made ≡ Some child
  unfolding with_child with_made with_process
  new-is = under-inserted s.made child (change_under acting (lent_to s.made) s.processes)

  old-is : (x : ℕ) → s.made ≢ x → process_of born x ≡ under x (change_under acting (lent_to s.made) s.processes)
  unfolding with_child with_made with_process
  old-is x apart = under-inserted_other s.made x child apart (change_under acting (lent_to s.made) s.processes)

  not-new : (x : ℕ) (z : TracedProcess) → process_of s x ≡ Some z → s.made ≢ x
  not-new x z there same = none-some z (sym free ∙ ap (process_of s) same ∙ there)

  lender-is : process_of born acting ≡ Some (lent_to s.made p)
  lender-is =
      old-is acting (not-new acting p found)
      ∙ under-change_under acting (lent_to s.made) s.processes ∙ ap (option_map (lent_to s.made)) found

  other-is : (x : ℕ) → s.made ≢ x → acting ≢ x → process_of born x ≡ process_of s x
  other-is x apart other =
      old-is x apart ∙ under-change_under_other acting x (lent_to s.made) other s.processes

  child-lends : borrower_at born s.made ≡ None
  unfolding forked
  child-lends = borrower-found born s.made child new-is

  child-space : space_at born s.made ≡ p.space
  unfolding forked
  child-space = space-found born s.made child new-is

  lender-lends : borrower_at born acting ≡ Some s.made
  unfolding lent_to
  lender-lends = borrower-found born acting (lent_to s.made p) lender-is

  born-shows : (a : ℕ) → HasMemoryOf s pid a → Shows P s a → Shows P born a
  unfolding borrower_at space_at
  born-shows a there (its_own none holds) = by (cases_eq acting a)
    where
      by : (acting ≡ a) ⊎ (acting ≢ a) → Shows P born a
      by (inl here) =
          of_borrower s.made (ap (borrower_at born) (sym here) ∙ lender-lends)
          (its_own child-lends
          (subst P (sym (child-space ∙ sym (space-found s acting p found) ∙ ap (space_at s) here)) holds))
      by (inr other) =
          let it = stands a there in
          let same = other-is a (not-new a it.0 it.1) other in
          its_own (ap borrower_in same ∙ none) (subst P (sym (ap space_in same)) holds)
  born-shows a there (of_borrower b is rest) =
      let it = stands a there in
      let same =
      other-is a (not-new a it.0 it.1)
      (λ here.
      none-some b (sym own ∙ sym (borrower-found s acting p found) ∙ ap (borrower_at s) here ∙ is)) in
      of_borrower b (ap borrower_in same ∙ is) (born-shows b (lent_on there is) rest)

-- ---- another program

module _ (s : TracedSystem) (acting : ℕ) (p : TracedProcess) (id : ℕ) (l : TracedLwp) (program : Program)
    (found : process_of s acting ≡ Some p) (own : p.borrower ≡ None) (lending : AreLending s) where
  abbrev begun : TracedSystem
  begun = with_process acting (with_program traced id l program) s

  begun-free : IsFree s begun acting
  unfolding borrower_at lender_at space_at live_process with_program with_process
  begun-free = record {
    own_borrower =
        ap borrower_in (under-change_under acting (with_program traced id l program) s.processes)
        ∙ ap (λ o. borrower_in (option_map (with_program traced id l program) o)) found ∙ own;
    own_lender =
        ap lender_in (under-change_under acting (with_program traced id l program) s.processes)
        ∙ ap (λ o. lender_in (option_map (with_program traced id l program) o)) found;
    borrower = λ x apart. others borrower_in x apart;
    lender = λ x apart. others lender_in x apart;
    lives = λ x apart is. others is_live_in x apart ∙ is;
    space = λ x apart. others space_in x apart;
  }
    where
      others : {A : Type 0} (v : Option TracedProcess → A) (x : ℕ) → acting ≢ x
          → v (under x (change_under acting (with_program traced id l program) s.processes)) ≡ v (process_of s x)
      others v x apart =
          ap v (under-change_under_other acting x (with_program traced id l program) apart s.processes)

  begun-passes : (P : Space → Type 0) (pid : ℕ) → acting ≢ pid
      → Passes P pid s (with_process_if p.lender (with_loan_back acting p) begun)
  unfolding with_loans_passed
  begun-passes P pid apart =
      let stands = found-stands s acting p lending found in
      let same : with_loans_passed acting p begun ≡ with_process_if p.lender (with_loan_back acting p) begun =
      ap (λ (b : Option ℕ). with_process_if p.lender (with_loan_back acting p)
      (with_process_if b (with_lender_of acting p) begun)) own in
      subst (Passes P pid s) same
      (left-passes P pid s acting p lending stands (space-found s acting p found) (with_loans_passed acting p begun)
      (loans-passed s begun acting p lending stands begun-free) apart)

-- ---- the turn of an lwp

-- a space that is left to one of those that have the memory; another program is run by another process
module _ (P : Space → Type 0) (pid : ℕ) (s : TracedSystem) (acting : ℕ) where
  abbrev pub IsSpared : Change → Type 0
  IsSpared (space_is space) = HasMemoryOf s pid acting → P space
  IsSpared (becomes program) = acting ≢ pid
  IsSpared c = Unit {0}

  abbrev pub AreSpared : List Change → Type 0
  AreSpared [] = Unit {0}
  AreSpared (c ∷ cs) = IsSpared c × AreSpared cs

module _ (P : Space → Type 0) (bare : P []) (pid : ℕ) (s : TracedSystem) (lending : AreLending s)
    (alive : IsSome (live_process s pid)) (there : (z : TracedProcess) × (process_of s pid ≡ Some z))
    (acting : ℕ) (p : TracedProcess) (id : ℕ) (l : TracedLwp) (a : IsActing s acting p id l) where
  in-stands : (x : ℕ) → HasMemoryOf s pid x → (z : TracedProcess) × (process_of s x ≡ Some z)
  in-stands x itself = there
  in-stands x (lent_on {a = b} before is) = borrower-stands P s a.lawful lending b x is

  in-lives : (x : ℕ) → HasMemoryOf s pid x → IsSome (live_process s x)
  in-lives x itself = alive
  in-lives x (lent_on {a = b} before is) = (lending.lives b x is).1

  abbrev Spared : Change → Type 0
  Spared = IsSpared P pid s acting

  abbrev AllSpared : List Change → Type 0
  AllSpared = AreSpared P pid s acting

  -- The process shows it later too; and where the one that acts is one of those that have the memory later, and has it
  -- itself, it was one of them before.
  record Goes (t : TracedSystem) : Type 0 where
    shows : Shows P s pid → Shows P t pid
    owner : HasMemoryOf t pid acting → borrower_at t acting ≡ None → HasMemoryOf s pid acting

  passed : (t : TracedSystem) → Passes P pid s t → Goes t
  passed t it = record { shows = it.shows; owner = λ within none. it.back acting within }

  plain : (f : TracedProcess → TracedProcess) → ((z : TracedProcess) → (f z).borrower ≡ z.borrower)
      → ((z : TracedProcess) → (f z).space ≡ z.space) → Goes (with_process acting f s)
  plain f lends space = passed _ (plain-passes P pid acting f s lends (λ z none. space z))

  new_lwp-same : {X : Type 0} (view : TracedProcess → X)
      → ((y : TracedProcess) (next : ℕ) (es : List (ℕ × TracedLwp))
      → view (record y { next_lwp = next; lwps = es }) ≡ view y)
      → (fresh held : ℕ) (regs : List ℕ) (x : TracedProcess) → view (with_new_lwp traced fresh regs held x) ≡ view x
  unfolding with_new_lwp
  new_lwp-same view hides fresh held regs x =
      choice (λ (y : TracedProcess). view y ≡ view x) (is_some (lwp_of x fresh)) _ _ (λ known. refl)
      (λ new. hides x _ _)

  free : process_of s s.made ≡ None
  free = next-free s a.lawful

  vforked : (args : List ℕ) → p.borrower ≡ None → Goes (with_child traced by_vfork acting p l args s)
  vforked args own = record {
    shows = λ it. born-shows P pid s acting p l args a.found own free in-stands pid itself it;
    owner = λ within none.
        absurd (none-some s.made (sym none ∙ lender-lends P pid s acting p l args a.found own free in-stands));
  }

  forked-passes : (args : List ℕ) → Passes P pid s (with_child traced by_fork acting p l args s)
  unfolding with_child with_made borrower_at space_at
  forked-passes args =
      let child : TracedProcess = forked traced by_fork acting p l args s.clock in
      same-pass P pid s (with_child traced by_fork acting p l args s)
      (λ x within. ap borrower_in (under-inserted_other s.made x child (apart x within) s.processes))
      (λ x within none holds.
      subst P (sym (ap space_in (under-inserted_other s.made x child (apart x within) s.processes))) holds)
    where
      apart : (x : ℕ) → HasMemoryOf s pid x → s.made ≢ x
      apart x within same =
          let it = in-stands x within in none-some it.0 (sym free ∙ ap (process_of s) same ∙ it.1)

  change-goes : (c : Change) → SuitsChange acting p id l s c → p.borrower ≡ None → Spared c
      → Goes (changed traced acting p id l c s)
  unfolding changed with_fds with_space with_shared_taken with_job_stop with_disposition_of with_lwp
  change-goes (files_are files fds) suits own spared =
      let filed : TracedSystem = record s { files = files } in
      passed _
      (next-passes P pid s filed _ (processes-pass P pid s filed refl)
      (plain-passes P pid acting (with_fds fds) filed (λ z. refl) (λ z none. refl)))
  change-goes (space_is space) suits own spared =
      passed _
      (edit-passes P pid acting (with_space space) s (λ z found. refl) (λ z found within none holds. spared within))
  change-goes (signals target g info) suits own spared =
      passed _
      (either-passes P pid (is_kill g && (target == acting)) s _ _ (same-passes P pid s)
      (generated-passes P pid bare s lending target None g info))
  change-goes (signals_itself g info) suits own spared =
      passed _
      (either-passes P pid (is_kill g) s _ _ (same-passes P pid s)
      (generated-passes P pid bare s lending acting (Some id) g info))
  change-goes (takes_shared g) suits own spared = plain (with_shared_taken g) (λ z. refl) (λ z. refl)
  change-goes (job_stops g) suits own spared = plain (with_job_stop g) (λ z. refl) (λ z. refl)
  change-goes (disposition_is g d) suits own spared = plain (with_disposition_of g d) (λ z. refl) (λ z. refl)
  change-goes (held_is held) suits own spared = plain (with_lwp id (with_held held)) (λ z. refl) (λ z. refl)
  change-goes (resumes frame frames) suits own spared =
      plain (with_lwp id (resumed frame frames)) (λ z. refl) (λ z. refl)
  change-goes (forks by_fork args) suits own spared =
      passed _ (either-passes P pid (s.made == acting) s _ _ (same-passes P pid s) (forked-passes args))
  change-goes (forks by_vfork args) suits own spared =
      choice Goes (s.made == acting) _ _ (λ same. passed s (same-passes P pid s)) (λ other. vforked args own)
  change-goes (reaps child) suits own spared =
      passed _
      (either-passes P pid (child == acting) s _ _ (same-passes P pid s)
      (reaped-passes P pid bare s lending in-stands child apart))
    where
      apart : (x : ℕ) → HasMemoryOf s pid x → child ≢ x
      apart x within same =
          zombie-dead s child
          (record {
            rising = let w = a.lawful in w.rising;
            zombie = suits.zombie;
            status = suits.status;
            found = suits.found;
            over = suits.over;
          }) (subst (λ n. IsSome (live_process s n)) (sym same) (in-lives x within))
  change-goes (becomes program) suits own spared =
      passed _ (begun-passes s acting p id l program a.found own lending P pid spared)
  change-goes (makes_lwp fresh regs held) suits own spared =
      plain (with_new_lwp traced fresh regs held)
      (new_lwp-same (λ (y : TracedProcess). y.borrower) (λ y next es. refl) fresh held regs)
      (new_lwp-same (λ (y : TracedProcess). y.space) (λ y next es. refl) fresh held regs)
  change-goes (suspends target suspended) suits own spared =
      plain (with_lwp target (with_suspended suspended)) (λ z. refl) (λ z. refl)

  -- a first change, and what is stored after it
  changes-show : (may : Bool) (cs : List Change) → SuitChanges acting p id l s cs → stores_after may cs ≡ true
      → (cs ≡ []) ⊎ (p.borrower ≡ None) → AllSpared cs → Shows P s pid
      → Shows P (all_changed traced acting p id l cs s) pid
  unfolding all_changed changed with_space
  changes-show may [] suits stores owns spared it = it
  changes-show may (c ∷ []) suits stores owns spared it = by owns
    where
      by : (c ∷ [] ≡ []) ⊎ (p.borrower ≡ None) → Shows P (changed traced acting p id l c s) pid
      by (inl e) = absurd (cc)
      by (inr own) = let g = change-goes c suits.0 own spared.0 in g.shows it
  changes-show may (c ∷ space_is space ∷ []) suits stores owns spared it = by owns
    where
      next : TracedSystem
      next = changed traced acting p id l c s

      by : (c ∷ space_is space ∷ [] ≡ []) ⊎ (p.borrower ≡ None)
          → Shows P (with_process acting (with_space space) next) pid
      by (inl e) = absurd (cc)
      by (inr own) =
          let g = change-goes c suits.0 own spared.0 in
          let w =
          edit-passes P pid acting (with_space space) next (λ z found. refl)
          (λ z found within none holds.
          spared.1.0 (g.owner within (borrower-found next acting z found ∙ none))) in
          w.shows (g.shows it)
  changes-show may _ suits stores owns spared it = absurd (false≢true stores)

  -- ---- the end

  record MayEnd (u : TracedSystem) : Type 0 where
    in_order : AreLending u
    stands : Stands u acting p
    space : space_at u acting ≡ p.space

  ending-passes : (how : Ending) (u : TracedSystem) → MayEnd u → Passes P pid u (ended traced acting p id how u)
  unfolding ended with_lwp_ended without_lwp
  ending-passes (ends_process status) u may =
      ended-passes u acting p status P pid bare may.in_order may.stands may.space
  ending-passes ends_lwp u may =
      either-passes P pid (length p.lwps == 1) u _ _
      (ended-passes u acting p 0 P pid bare may.in_order may.stands may.space)
      (plain-passes P pid acting (without_lwp id) u (λ z. refl) (λ z none. refl))

  may-end : (m : Move) → MayEnd (with_lwp_of acting id (moved traced m) s)
  unfolding with_lwp_of with_lwp space_at
  may-end m =
      let kept = moved-kept acting p id l m s in
      record {
        in_order = lending-kept s (with_lwp_of acting id (moved traced m) s) kept lending;
        stands =
            stands-kept s (with_lwp_of acting id (moved traced m) s) acting p kept
            (found-stands s acting p lending a.found);
        space = same-space ∙ space-found s acting p a.found;
      }
    where
      same-space : space_at (with_process acting (with_lwp id (moved traced m)) s) acting ≡ space_at s acting
      same-space = seen-kept space_in s acting (with_lwp id (moved traced m)) acting (λ z found here. refl)

  transition-shows : (may : Bool) (t : Transition) → SuitsTransition s acting p id l t
      → stores_after may t.changes ≡ true → (t.changes ≡ []) ⊎ (p.borrower ≡ None) → AllSpared t.changes
      → Shows P s pid → Shows P (after_transition traced acting p id l t s) pid
  unfolding after_transition with_lwp_of with_lwp all_changed
  transition-shows may t suits stores owns spared it = by t.ending refl
    where
      to : TracedSystem
      to = with_lwp_of acting id (moved traced t.move) (all_changed traced acting p id l t.changes s)

      then : Shows P to pid
      then =
          let w =
          plain-passes P pid acting (with_lwp id (moved traced t.move)) (all_changed traced acting p id l t.changes s)
          (λ z. refl) (λ z none. refl) in
          w.shows (changes-show may t.changes suits.changes stores owns spared it)

      by : (o : Option Ending) → t.ending ≡ o → Shows P (ended_if traced acting p id l o to) pid
      by None is = then
      by (Some how) is =
          let w =
          ending-passes how to
          (subst (λ (cs : List Change). MayEnd (with_lwp_of acting id (moved traced t.move)
          (all_changed traced acting p id l cs s)))
          (sym (suits.alone how is).0) (may-end t.move)) in
          w.shows then

  settled-shows : (row : Row) → SuitsTransition s acting p id l row.transition
      → stores_after (may_have_lent row.did) row.transition.changes ≡ true
      → (row.transition.changes ≡ []) ⊎ (p.borrower ≡ None) → AllSpared row.transition.changes
      → Shows P s pid → Shows P (settled s acting p id l row).system pid
  unfolding settled with_counted
  settled-shows row suits stores owns spared it =
      let made : TracedSystem = after_transition traced acting p id l row.transition s in
      let counted_one : TracedSystem = with_process acting (with_counted row.did row.begun) made in
      let counts = plain-passes P pid acting (with_counted row.did row.begun) made (λ z. refl) (λ z none. refl) in
      let meets =
      plain-passes P pid acting (after_meeting row.point id) counted_one
      (meeting-same (λ (y : TracedProcess). y.borrower) (λ y es. refl) row.point id)
      (λ z none. meeting-same (λ (y : TracedProcess). y.space) (λ y es. refl) row.point id z) in
      meets.shows
      (counts.shows (transition-shows (may_have_lent row.did) row.transition suits stores owns spared it))

  pub row-shows : (row_for s acting p id l ≡ requested_row) ⊎ (p.borrower ≡ None)
      → AllSpared (row_for s acting p id l).transition.changes
      → Shows P s pid → Shows P (settled s acting p id l (row_for s acting p id l)).system pid
  unfolding requested_row requested
  row-shows owns spared it =
      settled-shows (row_for s acting p id l) (row-suits s acting p id l a) (row-stores s acting p id l) (by owns)
      spared it
    where
      by : (row_for s acting p id l ≡ requested_row) ⊎ (p.borrower ≡ None)
          → ((row_for s acting p id l).transition.changes ≡ []) ⊎ (p.borrower ≡ None)
      by (inl stop) = inl (ap (λ (r : Row). r.transition.changes) stop)
      by (inr own) = inr own
