use Rattle.std.proofs.Common.{◌≡◌, ◌≢◌, ◌⊎◌, ◌==◌, ℕ, Bool, true, false, cond, Option, Some, None, [], refl, sym, subst, ap, ◌∙◌, arith, inl, inr}
use Rattle.std.proofs.lemmas.Bool.{cases_eq, eq-eqb, ne_eqb}
use Rattle.std.proofs.lemmas.Option.{none-some, same_Some}
use Rattle.std.specs.Option.{option_map}
use Rattle.pr_function_hides.proofs.Memory.SharedMemory.{HasMemoryOf, Moves, Shows, alone-in, gets_back, its_own, itself, moved-in, moved-shows, stays}
use Rattle.pr_keeps.proofs.KeepsLemmas.{choice}
use Rattle.pr_lending.proofs.ProcessLoans.LifeLemmas.{found-stands, signalled-same}
use Rattle.pr_lending.proofs.ProcessLoans.LoanLemmas.{borrower-found, borrower_in, is_live_in, lender_in, live-alike, same-of, seen-kept, space-found, space_in}
use Rattle.pr_lending.proofs.ProcessLoans.PassLemmas.{IsFree, PassesLoans, Stands, loans-passed, passed}
use Rattle.pr_lending.specs.Lending.{AreLending}
use Rattle.pr_lawful.proofs.LawfulTurns.EndLemmas.{buried}
use Rattle.pr_model.proofs.StateLemmas.{live_process-found}
use Rattle.pr_model.specs.Generation.{signalled}
use Rattle.pr_model.specs.Lives.{bare_process, ended_if_live, is_id, with_ended, with_lender_of, with_loan_back, with_loans_passed, with_made, with_parent_signalled, with_reaped, with_this_ended, orphaned, zombie}
use Rattle.pr_model.specs.Machines.{traced}
use Rattle.pr_model.specs.Readers.{borrower_at, lender_at, space_at}
use Rattle.pr_model.specs.Signals.{generated, is_kill}
use Rattle.pr_model.specs.State.{TracedProcess, TracedSystem, live_process, process_of, with_process, with_process_if}
use Rattle.pr_num.proofs.ByIdLaws.{under-change_under, under-change_under_other, under-inserted_other, under-map_each, under-without_id_other}
use Rattle.pr_num.specs.ById.{change_under, under}
use Rattle.pr_num.specs.Infos.{of_child}
use Rattle.pr_num.specs.Signals.{signal_number}
use Rattle.pr_num.specs.Spaces.{Space}
use Rattle.pr_num.specs.declared.infos.Info.{Info}
use Rattle.pr_num.specs.declared.signals.Sig.{Sig}
use Rattle.pr_num.specs.declared.signals.Sig.TheVariants.{Cld}
use Rattle.pr_truss_laws.proofs.Machine.FrameLemmas.{told-undisturbed}
use Rattle.pr_truss_laws.specs.Stills.{IsUndisturbed}

-- What one step of the machine makes of the memory that a process shows: where nobody writes to it, it is as it was,
-- whoever of those that have it lends it on, gives it back or ends.

-- whether it is that id
same-id : (id : ℕ) (o : Option ℕ) → o ≡ Some id → is_id id o ≡ true
same-id id o is = ap (is_id id) is ∙ eq-eqb id id refl

other-id : (id : ℕ) (o : Option ℕ) → o ≢ Some id → is_id id o ≡ false
other-id id None apart = refl
other-id id (Some other) apart = ne_eqb other id (λ same. apart (ap (λ n. Some n) same))

passed-same : (id : ℕ) (to o : Option ℕ) → o ≡ Some id → passed id to o ≡ to
passed-same id to o is = ap (λ b. cond b to o) (same-id id o is)

passed-other : (id : ℕ) (to o : Option ℕ) → o ≢ Some id → passed id to o ≡ o
passed-other id to o apart = ap (λ b. cond b to o) (other-id id o apart)

module _ (P : Space → Type 0) (pid : ℕ) where
  -- The process shows it later where it did before, and who has its memory later had it before.
  pub record Passes (s t : TracedSystem) : Type 0 where
    pub shows : Shows P s pid → Shows P t pid
    pub back : (x : ℕ) → HasMemoryOf t pid x → HasMemoryOf s pid x

  pub same-passes : (s : TracedSystem) → Passes s s
  same-passes s = record { shows = λ it. it; back = λ x there. there }

  pub next-passes : (s t u : TracedSystem) → Passes s t → Passes t u → Passes s u
  next-passes s t u one two = record {
    shows = λ it. two.shows (one.shows it);
    back = λ x there. one.back x (two.back x there);
  }

  pub either-passes : (b : Bool) (s t u : TracedSystem) → Passes s t → Passes s u → Passes s (cond b t u)
  either-passes b s t u one other = choice (Passes s) b t u (λ is. one) (λ not. other)

  moves-pass : (s t : TracedSystem) (Stays : ℕ → Type 0) → Stays pid
      → ((a : ℕ) → HasMemoryOf s pid a → Stays a → Moves P s t Stays a) → Passes s t
  moves-pass s t Stays begins each = record {
    shows = moved-shows P s t pid Stays each begins;
    back = λ x there. (moved-in P s t pid Stays each begins x there).0;
  }

  -- ---- all lend to the same

  pub same-pass : (s t : TracedSystem) → ((a : ℕ) → HasMemoryOf s pid a → borrower_at t a ≡ borrower_at s a)
      → ((a : ℕ) → HasMemoryOf s pid a → borrower_at s a ≡ None → P (space_at s a) → P (space_at t a)) → Passes s t
  same-pass s t lends own =
      moves-pass s t (λ a. Unit {0}) tt
      (λ a there stay. stays (lends a there) (λ b is. tt) (λ none holds. own a there none holds))

  -- the processes are the same
  pub processes-pass : (s t : TracedSystem) → t.processes ≡ s.processes → Passes s t
  unfolding borrower_at space_at
  processes-pass s t same =
      same-pass s t (λ a there. ap (λ ps. borrower_in (under a ps)) same)
      (λ a there none holds. subst P (sym (ap (λ ps. space_in (under a ps)) same)) holds)

  -- A process is changed, and lends as it did. Where it has the memory itself, and is one of those that have it, that
  -- is so of it still.
  pub edit-passes : (x : ℕ) (f : TracedProcess → TracedProcess) (s : TracedSystem)
      → ((z : TracedProcess) → process_of s x ≡ Some z → (f z).borrower ≡ z.borrower)
      → ((z : TracedProcess) → process_of s x ≡ Some z → HasMemoryOf s pid x → z.borrower ≡ None → P z.space
      → P (f z).space) → Passes s (with_process x f s)
  unfolding borrower_at space_at with_process
  edit-passes x f s lends keeps =
      same-pass s (with_process x f s) (λ a there. seen-kept borrower_in s x f a (λ z found here. lends z found))
      (λ a there none holds. own a there none holds (cases_eq x a))
    where
      other : (a : ℕ) → x ≢ a → space_at (with_process x f s) a ≡ space_at s a
      other a apart = seen-kept space_in s x f a (λ z found here. absurd (apart here))

      at : (o : Option TracedProcess) → process_of s x ≡ o → HasMemoryOf s pid x → borrower_at s x ≡ None
          → P (space_at s x) → P (space_at (with_process x f s) x)
      at None missing there none holds =
          subst P
          (sym (seen-kept space_in s x f x (λ z found here. absurd (none-some z (sym missing ∙ found))))) holds
      at (Some z) found there none holds =
          subst P (sym (now z found))
          (keeps z found there (sym (borrower-found s x z found) ∙ none) (subst P (space-found s x z found) holds))
        where
          now : (z : TracedProcess) → process_of s x ≡ Some z → space_at (with_process x f s) x ≡ (f z).space
          now z found = ap space_in (under-change_under x f s.processes ∙ ap (option_map f) found)

      own : (a : ℕ) → HasMemoryOf s pid a → borrower_at s a ≡ None → P (space_at s a) → (x ≡ a) ⊎ (x ≢ a)
          → P (space_at (with_process x f s) a)
      own a there none holds (inr apart) = subst P (sym (other a apart)) holds
      own a there none holds (inl here) =
          subst (λ n. P (space_at (with_process x f s) n)) here
          (at (process_of s x) refl (subst (HasMemoryOf s pid) (sym here) there) (ap (borrower_at s) here ∙ none)
          (subst (λ n. P (space_at s n)) (sym here) holds))

  -- it keeps its memory
  pub plain-passes : (x : ℕ) (f : TracedProcess → TracedProcess) (s : TracedSystem)
      → ((z : TracedProcess) → (f z).borrower ≡ z.borrower)
      → ((z : TracedProcess) → z.borrower ≡ None → (f z).space ≡ z.space) → Passes s (with_process x f s)
  plain-passes x f s lends same =
      edit-passes x f s (λ z found. lends z) (λ z found there none holds. subst P (sym (same z none)) holds)

  signalled-passes : (x : ℕ) (target : Option ℕ) (g : Sig) (info : Info) (s : TracedSystem)
      → Passes s (with_process x (signalled target g info) s)
  signalled-passes x target g info s =
      plain-passes x (signalled target g info) s (λ z. let w = signalled-same target g info z in w.borrower)
      (λ z none.
      let it : IsUndisturbed z (signalled target g info z) = told-undisturbed target g info z in
      let m = it.memory in
      (m.own none).1)

  -- ---- a process passes on what it lent and borrowed

  module _ (s : TracedSystem) (gone : ℕ) (p : TracedProcess) (lending : AreLending s) (stands : Stands s gone p)
      (space : space_at s gone ≡ p.space) where
    module _ (t : TracedSystem) (it : PassesLoans s t gone p) (apart : gone ≢ pid) where
      left : (a : ℕ) → gone ≢ a → (o : Option ℕ) → borrower_at s a ≡ o → Moves P s t (λ b. gone ≢ b) a
      left a other None none =
          stays
          (it.borrower a other
          ∙ passed-other gone p.borrower (borrower_at s a) (λ same. none-some gone (sym none ∙ same)))
          (λ b is. absurd (none-some b (sym none ∙ is)))
          (λ own holds.
          subst P
          (sym (it.space a other
          ∙ ap (λ b. cond b p.space (space_at s a))
          (other-id gone (borrower_at s a) (λ same. none-some gone (sym none ∙ same))))) holds)
      left a other (Some b) is = by (cases_eq gone b)
        where
          by : (gone ≡ b) ⊎ (gone ≢ b) → Moves P s t (λ c. gone ≢ c) a
          by (inl here) =
              let to : borrower_at s a ≡ Some gone = is ∙ ap (λ n. Some n) (sym here) in
              gets_back gone to
              (it.borrower a other ∙ passed-same gone p.borrower (borrower_at s a) to ∙ sym stands.borrower)
              (it.space a other
              ∙ ap (λ c. cond c p.space (space_at s a)) (same-id gone (borrower_at s a) to) ∙ sym space)
              (λ c its same. let younger = lending.younger gone c its in absurd (omega (arith, younger, same)))
          by (inr elsewhere) =
              let never : borrower_at s a ≢ Some gone =
              λ same. elsewhere (sym (same_Some b gone (sym is ∙ same))) in
              stays (it.borrower a other ∙ passed-other gone p.borrower (borrower_at s a) never)
              (λ c its same. elsewhere (same ∙ sym (same_Some b c (sym is ∙ its))))
              (λ none. absurd (none-some b (sym none ∙ is)))

      pub left-passes : Passes s t
      left-passes =
          moves-pass s t (λ a. gone ≢ a) apart (λ a there other. left a other (borrower_at s a) refl)

  -- the process itself has ended
  own-passes : (s t : TracedSystem) → borrower_at t pid ≡ None → P (space_at t pid) → Passes s t
  own-passes s t none holds = record {
    shows = λ it. its_own none holds;
    back = λ x there. subst (HasMemoryOf s pid) (sym (alone-in t pid none x there)) itself;
  }

-- ---- a process that ends

module _ (s : TracedSystem) (gone : ℕ) (p : TracedProcess) (status : ℕ) where
  abbrev dies : TracedSystem
  dies = buried gone p status s

  orphan-same : {A : Type 0} (v : TracedProcess → A) (z : TracedProcess) → v (record z { parent = 0 }) ≡ v z
      → v (orphaned gone z) ≡ v z
  unfolding orphaned
  orphan-same v z same = same-of v (z.parent == gone) (record z { parent = 0 }) z same

  seen-orphaned : {A : Type 0} (v : Option TracedProcess → A) (x : ℕ)
      → ((z : TracedProcess) → v (Some (orphaned gone z)) ≡ v (Some z))
      → v (process_of dies x) ≡ v (under x (change_under gone (zombie traced status) s.processes))
  seen-orphaned v x same =
      ap v (under-map_each x (orphaned gone) (change_under gone (zombie traced status) s.processes))
      ∙ by (under x (change_under gone (zombie traced status) s.processes))
    where
      by : (o : Option TracedProcess) → v (option_map (orphaned gone) o) ≡ v o
      by None = refl
      by (Some z) = same z

  seen-buried : {A : Type 0} (v : Option TracedProcess → A) (x : ℕ) → gone ≢ x
      → ((z : TracedProcess) → v (Some (orphaned gone z)) ≡ v (Some z)) → v (process_of dies x) ≡ v (process_of s x)
  seen-buried v x apart same =
      seen-orphaned v x same ∙ ap v (under-change_under_other gone x (zombie traced status) apart s.processes)

  seen-dead : {A : Type 0} (v : Option TracedProcess → A)
      → ((z : TracedProcess) → v (Some (orphaned gone z)) ≡ v (Some z))
      → ((z : TracedProcess) → v (Some (zombie traced status z)) ≡ v None) → v (process_of dies gone) ≡ v None
  seen-dead v same none =
      seen-orphaned v gone same ∙ ap v (under-change_under gone (zombie traced status) s.processes)
      ∙ by (process_of s gone)
    where
      by : (o : Option TracedProcess) → v (option_map (zombie traced status) o) ≡ v None
      by None = refl
      by (Some z) = none z

  dies-free : IsFree s dies gone
  unfolding borrower_at lender_at space_at live_process zombie bare_process
  dies-free = record {
    own_borrower = seen-dead borrower_in (λ z. orphan-same (λ x. x.borrower) z refl) (λ z. refl);
    own_lender = seen-dead lender_in (λ z. orphan-same (λ x. x.lender) z refl) (λ z. refl);
    borrower = λ x apart. seen-buried borrower_in x apart (λ z. orphan-same (λ x. x.borrower) z refl);
    lender = λ x apart. seen-buried lender_in x apart (λ z. orphan-same (λ x. x.lender) z refl);
    lives = λ x apart is.
        seen-buried is_live_in x apart
        (λ z. live-alike z (orphaned gone z) (orphan-same (λ x. x.ended) z refl)) ∙ is;
    space = λ x apart. seen-buried space_in x apart (λ z. orphan-same (λ x. x.space) z refl);
  }

  dies-bare : space_at dies gone ≡ []
  unfolding space_at zombie bare_process
  dies-bare = seen-dead space_in (λ z. orphan-same (λ x. x.space) z refl) (λ z. refl)

  -- what it passes on comes to others
  if-kept : {A : Type 0} (v : Option TracedProcess → A) (o : Option ℕ) (f : TracedProcess → TracedProcess)
      (u : TracedSystem) → ((z : TracedProcess) → process_of u gone ≡ Some z → v (Some (f z)) ≡ v (Some z))
      → v (process_of (with_process_if o f u) gone) ≡ v (process_of u gone)
  if-kept v None f u same = refl
  if-kept v (Some y) f u same =
      seen-kept v u y f gone (λ z found here. same z (ap (process_of u) (sym here) ∙ found))

  abbrev lender_told : TracedSystem
  lender_told = with_process_if p.borrower (with_lender_of gone p) dies

  lender_of-same : {A : Type 0} (v : TracedProcess → A) (z : TracedProcess) → v (record z { lender = p.lender }) ≡ v z
      → v (with_lender_of gone p z) ≡ v z
  unfolding with_lender_of
  lender_of-same v z same = same-of v (is_id gone z.lender) (record z { lender = p.lender }) z same

  told-lends : borrower_at lender_told gone ≡ None
  unfolding borrower_at
  told-lends =
      if-kept borrower_in p.borrower (with_lender_of gone p) dies (λ z found. lender_of-same (λ x. x.borrower) z refl)
      ∙ (let w = dies-free in w.own_borrower)

  told-bare : space_at lender_told gone ≡ []
  unfolding space_at
  told-bare =
      if-kept space_in p.borrower (with_lender_of gone p) dies (λ z found. lender_of-same (λ x. x.space) z refl)
      ∙ dies-bare

  loan_back-same : (z : TracedProcess) → z.borrower ≡ None → (with_loan_back gone p z).space ≡ z.space
  unfolding with_loan_back
  loan_back-same z none =
      ap (λ b. let x : TracedProcess = cond b (record z { space = p.space; borrower = p.borrower }) z in x.space)
      (ap (is_id gone) none)

  passed-bare : space_at (with_loans_passed gone p dies) gone ≡ []
  unfolding space_at with_loans_passed
  passed-bare =
      if-kept space_in p.lender (with_loan_back gone p) lender_told
      (λ z found. loan_back-same z (sym (borrower-found lender_told gone z found) ∙ told-lends))
      ∙ told-bare

  module _ (P : Space → Type 0) (pid : ℕ) (bare : P []) (lending : AreLending s) (stands : Stands s gone p)
      (space : space_at s gone ≡ p.space) where
    abbrev passes_on : TracedSystem
    passes_on = with_loans_passed gone p dies

    passes-on : PassesLoans s passes_on gone p
    passes-on = loans-passed s dies gone p lending stands dies-free

    ends : (gone ≡ pid) ⊎ (gone ≢ pid) → Passes P pid s passes_on
    ends (inl same) =
        own-passes P pid s passes_on
        (ap (borrower_at passes_on) (sym same) ∙ (let w = passes-on in w.own_borrower))
        (subst P (sym (ap (space_at passes_on) (sym same) ∙ passed-bare)) bare)
    ends (inr apart) = left-passes P pid s gone p lending stands space passes_on passes-on apart

    pub ended-passes : Passes P pid s (with_this_ended traced gone p status s)
    unfolding with_this_ended with_parent_signalled
    ended-passes =
        next-passes P pid s passes_on (with_this_ended traced gone p status s) (ends (cases_eq gone pid))
        (either-passes P pid (p.parent == 0) passes_on _ _ (same-passes P pid passes_on)
        (signalled-passes P pid p.parent None Cld (of_child gone status) passes_on))

-- ---- what happens to others

module _ (P : Space → Type 0) (pid : ℕ) (bare : P []) (s : TracedSystem) (lending : AreLending s) where
  pub found-ends : (gone : ℕ) (p : TracedProcess) (status : ℕ) → process_of s gone ≡ Some p
      → Passes P pid s (with_this_ended traced gone p status s)
  found-ends gone p status found =
      ended-passes s gone p status P pid bare lending (found-stands s gone p lending found)
      (space-found s gone p found)

  pub live-ends : (gone : ℕ) (p : TracedProcess) (status : ℕ) → live_process s gone ≡ Some p
      → Passes P pid s (with_this_ended traced gone p status s)
  live-ends gone p status live = found-ends gone p status (live_process-found s gone p live)

  pub generated-passes : (target : ℕ) (own : Option ℕ) (g : Sig) (info : Info)
      → Passes P pid s (generated traced target own g info s)
  unfolding generated with_ended
  generated-passes target own g info =
      either-passes P pid (is_kill g) s _ _ (by (live_process s target) refl)
      (signalled-passes P pid target own g info s)
    where
      by : (o : Option TracedProcess) → live_process s target ≡ o
          → Passes P pid s (ended_if_live traced target (signal_number g) s o)
      by None is = same-passes P pid s
      by (Some p) is = live-ends target p (signal_number g) is

  -- ---- a process is made, or a zombie reaped

  module _ (stands : (x : ℕ) → HasMemoryOf s pid x → (z : TracedProcess) × (process_of s x ≡ Some z)) where
    -- one of those that have the memory stands under another id than one that is free
    not-free : (new : ℕ) → process_of s new ≡ None → (x : ℕ) → HasMemoryOf s pid x → new ≢ x
    not-free new free x there same =
        let it = stands x there in absurd (none-some it.0 (sym free ∙ ap (process_of s) same ∙ it.1))

    made-at : (child : TracedProcess) (x : ℕ) → s.made ≢ x
        → process_of (with_made child s) x ≡ process_of s x
    unfolding with_made
    made-at child x apart = under-inserted_other s.made x child apart s.processes

    pub made-passes : (child : TracedProcess) → process_of s s.made ≡ None → Passes P pid s (with_made child s)
    unfolding borrower_at space_at
    made-passes child free =
        same-pass P pid s (with_made child s)
        (λ a there. ap borrower_in (made-at child a (not-free s.made free a there)))
        (λ a there none holds.
        subst P (sym (ap space_in (made-at child a (not-free s.made free a there)))) holds)

    pub reaped-passes : (child : ℕ) → ((x : ℕ) → HasMemoryOf s pid x → child ≢ x) → Passes P pid s (with_reaped child s)
    unfolding borrower_at space_at with_reaped
    reaped-passes child apart =
        same-pass P pid s (with_reaped child s)
        (λ a there. ap borrower_in (under-without_id_other child a (apart a there) s.processes))
        (λ a there none holds.
        subst P (sym (ap space_in (under-without_id_other child a (apart a there) s.processes))) holds)
