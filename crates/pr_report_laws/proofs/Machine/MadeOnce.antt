use Rattle.std.proofs.Common.{◌≡◌, ◌<◌, ℕ, Bool, Option, Some, None, List, [], ◌∷◌, ◌++◌, refl, sym, subst, ap, ◌∙◌, arith}
use Rattle.std.proofs.lemmas.Option.{same_Some}
use Rattle.pr_api.specs.Entries.{call_entry, turn_entry}
use Rattle.pr_model.proofs.TurnLemmas.{turn-taken}
use Rattle.pr_model.specs.Calls.{Answer, answer_to, spawn_answer, spawn_found, spawn_unless}
use Rattle.pr_model.specs.Lawful.{IsLawful}
use Rattle.pr_model.specs.Legal.{IsLegal, IsLegalEntry, after, after_call}
use Rattle.pr_model.specs.Lives.{forked, with_made, with_spawned}
use Rattle.pr_model.specs.LwpTurns.{LwpTurn, settled}
use Rattle.pr_model.specs.Machines.{traced}
use Rattle.pr_model.specs.ProcessCalls.{program_named}
use Rattle.pr_model.specs.Rows.{row_for}
use Rattle.pr_model.specs.Spawning.{spawn_refusal}
use Rattle.pr_model.specs.State.{TracedState, process_of, TracedProcess}
use Rattle.pr_num.specs.Programs.{Program}
use Rattle.pr_num.specs.declared.errnos.Errno.{Errno}
use Rattle.pr_model.specs.declared.calls.Call.TheVariants.{Spawn}
use Rattle.pr_model.specs.declared.calls.Reply.TheVariants.{Pid}
use Rattle.pr_model.specs.declared.events.Actor.TheVariants.{Controller, Lwp}
use Rattle.pr_model.specs.declared.events.Entry.{Entry}
use Rattle.pr_model.specs.declared.events.Turned.{Turned}
use Rattle.pr_truss_laws.proofs.Machine.FrameLemmas.{was-made}
use Rattle.pr_truss_laws.proofs.Machine.OverLemmas.{stays-made}
use Rattle.pr_report_laws.proofs.Files.FileSteps.{entry-lawful}
use Rattle.pr_report_laws.proofs.Machine.ForkRows.{row-makes}
use Rattle.pr_report_laws.proofs.Machine.ForkTurns.{child-found}
use Rattle.pr_report_laws.proofs.Machine.TurnEvents.{state-after}
use Rattle.pr_report_laws.specs.Births.{child_made}
use Rattle.pr_report_laws.specs.Newborn.{WasForked, WasSpawned}

-- A process is made once in a history: by one fork, or by one controller.

-- ---- what makes a process

-- The process is the next one of the state, and was made after the entry.
pub record MakesProcess (pid : ℕ) (s : TracedState) (e : Entry) : Type 0 where
  pub next : pid ≡ s.system.made
  pub made : pid < (after s e).system.made

-- an entry that makes the process wherever it is legal
record IsMaker (n pid : ℕ) (e : Entry) : Type 0 where
  makes : (s : TracedState) → IsLawful s → IsLegalEntry n s e → MakesProcess pid s e

module _ (n pid : ℕ) where
  -- ---- a fork

  pub fork-makes : (parent id : ℕ) (turned : Turned) (s : TracedState) → child_made turned.did ≡ Some pid → IsLawful s
      → IsLegalEntry n s (turn_entry parent id turned) → MakesProcess pid s (turn_entry parent id turned)
  unfolding IsLegalEntry settled
  fork-makes parent id turned s made lawful legal =
      let t : LwpTurn = record { system = legal.0; turned = turned } in
      let it = turn-taken s.system parent id t legal.1 in
      let row = row_for s.system parent it.process id it.lwp in
      let did : turned.did ≡ row.did = ap (λ (v : LwpTurn). v.turned.did) it.is in
      let m = row-makes s.system parent it.process id it.lwp in
      let f = m.child pid (ap child_made (sym did) ∙ made) in
      let one = f.1 in
      let child : TracedProcess = forked traced one.birth parent it.process it.lwp one.args s.system.clock in
      let stands : process_of t.system s.system.made ≡ Some child =
      ap (λ (v : LwpTurn). process_of v.system s.system.made) it.is
      ∙ child-found s.system parent it.process id it.lwp lawful.system it.live one in
      let now : (after s (turn_entry parent id turned)).system ≡ t.system =
      ap (λ (x : TracedState). x.system) (state-after s parent id t legal.1) in
      let later : IsLawful (after s (turn_entry parent id turned)) =
      entry-lawful n s (turn_entry parent id turned) lawful legal in
      record {
        next = f.0;
        made = subst (λ m. m < (after s (turn_entry parent id turned)).system.made) (sym f.0)
            (was-made s.system.made (after s (turn_entry parent id turned)).system child later.system
            (ap (λ x. process_of x s.system.made) now ∙ stands));
      }

  -- ---- a controller

  -- where the answer is a process, it is the next one, and is made
  record Answers (s : TracedState) (a : Answer) : Type 0 where
    each : a.reply ≡ Pid pid → (pid ≡ s.system.made) × (pid < a.state.system.made)

  spawn-answers : (s : TracedState) (name : List ℕ) (held : Bool) → Answers s (spawn_answer s name held)
  unfolding spawn_answer with_spawned with_made
  spawn-answers s name held = by (program_named s.system.programs name)
    where
      unless : (program : Program) (refusal : Option Errno) → Answers s (spawn_unless s program held refusal)
      unless program (Some e) = record { each = λ is. cc }
      unless program None = record { each = λ is. (let same : s.system.made ≡ pid = cc in (sym same, omega arith)) }

      by : (x : Option Program) → Answers s (spawn_found s held x)
      by None = record { each = λ is. cc }
      by (Some program) = unless program (spawn_refusal s.system program)

  spawn-makes : (controller : ℕ) (name : List ℕ) (held : Bool) (s : TracedState)
      → IsLegalEntry n s (call_entry controller (Spawn name held) (Pid pid))
      → MakesProcess pid s (call_entry controller (Spawn name held) (Pid pid))
  unfolding IsLegalEntry answer_to after
  spawn-makes controller name held s legal =
      let a : Answer = record { state = legal.1.0; reply = Pid pid } in
      let answer : answer_to s controller (Spawn name held) ≡ Some a = legal.1.1 in
      let is : spawn_answer s name held ≡ a = same_Some (spawn_answer s name held) a answer in
      let from : Answers s a = subst (Answers s) is (spawn-answers s name held) in
      let both = from.each refl in
      record { next = both.0; made = subst (λ x. pid < (after_call s x).system.made) (sym answer) both.1 }

  -- ---- in a history

  -- a process that was made is not made again
  not-again : (before later : List Entry) (e : Entry) (s : TracedState) (h : List Entry) → IsMaker n pid e → IsLawful s
      → IsLegal n s h → h ≡ before ++ e ∷ later → pid < s.system.made → ⊥
  not-again before later e s [] maker lawful legal is made = nowhere before is
    where
      nowhere : (xs : List Entry) → [] ≡ xs ++ e ∷ later → ⊥
      nowhere [] split = cc
      nowhere (x ∷ xs) split = cc
  not-again [] later e s (x ∷ h) maker lawful legal is made =
      let same : x ≡ e = cc in
      let it = maker.makes s lawful (subst (IsLegalEntry n s) same legal.0) in
      absurd (let next : pid ≡ s.system.made = it.next in omega arith)
  not-again (y ∷ before) later e s (x ∷ h) maker lawful legal is made =
      let rest : h ≡ before ++ e ∷ later = cc in
      not-again before later e (after s x) h maker (entry-lawful n s x lawful legal.0) legal.1 rest
      (stays-made n s x pid lawful legal.0 made)

  -- so two entries that make it are one
  one-maker : (h one two later after_two : List Entry) (d e : Entry) (s : TracedState) → IsMaker n pid d
      → IsMaker n pid e → IsLawful s → IsLegal n s h → h ≡ one ++ d ∷ later → h ≡ two ++ e ∷ after_two
      → (one ≡ two) × (d ≡ e)
  one-maker [] one two later after_two d e s first second lawful legal is its = absurd (nowhere one is)
    where
      nowhere : (xs : List Entry) → [] ≡ xs ++ d ∷ later → ⊥
      nowhere [] split = cc
      nowhere (x ∷ xs) split = cc
  one-maker (x ∷ h) [] [] later after_two d e s first second lawful legal is its = (refl, cc)
  one-maker (x ∷ h) [] (y ∷ two) later after_two d e s first second lawful legal is its =
      let same : x ≡ d = cc in
      let rest : h ≡ two ++ e ∷ after_two = cc in
      let it = first.makes s lawful (subst (IsLegalEntry n s) same legal.0) in
      absurd (not-again two after_two e (after s x) h second (entry-lawful n s x lawful legal.0) legal.1 rest
      (subst (λ z. pid < (after s z).system.made) (sym same) it.made))
  one-maker (x ∷ h) (y ∷ one) [] later after_two d e s first second lawful legal is its =
      let same : x ≡ e = cc in
      let rest : h ≡ one ++ d ∷ later = cc in
      let it = second.makes s lawful (subst (IsLegalEntry n s) same legal.0) in
      absurd (not-again one later d (after s x) h first (entry-lawful n s x lawful legal.0) legal.1 rest
      (subst (λ z. pid < (after s z).system.made) (sym same) it.made))
  one-maker (x ∷ h) (y ∷ one) (z ∷ two) later after_two d e s first second lawful legal is its =
      let front : y ≡ z = cc in
      let rest : h ≡ one ++ d ∷ later = cc in
      let other : h ≡ two ++ e ∷ after_two = cc in
      let same =
      one-maker h one two later after_two d e (after s x) first second
      (entry-lawful n s x lawful legal.0) legal.1 rest other in
      (ap (λ w. w ∷ one) front ∙ ap (λ ws. z ∷ ws) same.0, same.1)

  module _ (s : TracedState) (h : List Entry) (lawful : IsLawful s) (legal : IsLegal n s h) where
    forked-by : (f : WasForked pid h) → IsMaker n pid (turn_entry f.parent f.id f.turned)
    forked-by f = record { makes = λ u. fork-makes f.parent f.id f.turned u f.made }

    spawned-by : (by : ℕ) (f : WasSpawned by pid h) → IsMaker n pid (call_entry by (Spawn f.program f.held) (Pid pid))
    spawned-by by f = record { makes = λ u within. spawn-makes by f.program f.held u }

    pub forked-once : (f g : WasForked pid h) → f.before ≡ g.before
    forked-once f g =
        (one-maker h f.before g.before f.later g.later (turn_entry f.parent f.id f.turned)
        (turn_entry g.parent g.id g.turned) s (forked-by f) (forked-by g) lawful legal f.is g.is).0

    pub spawned-once : (j k : ℕ) (f : WasSpawned j pid h) (g : WasSpawned k pid h) → f.before ≡ g.before
    spawned-once j k f g =
        (one-maker h f.before g.before f.later g.later (call_entry j (Spawn f.program f.held) (Pid pid))
        (call_entry k (Spawn g.program g.held) (Pid pid)) s (spawned-by j f)
        (spawned-by k g) lawful legal f.is g.is).0

    pub not-both : (by : ℕ) → WasForked pid h → WasSpawned by pid h → ⊥
    not-both by f g =
        let same =
        one-maker h f.before g.before f.later g.later (turn_entry f.parent f.id f.turned)
        (call_entry by (Spawn g.program g.held) (Pid pid)) s (forked-by f)
        (spawned-by by g) lawful legal f.is g.is in
        by_another f.parent f.id by (ap (λ (e : Entry). e.actor) same.1)
      where
        by_another : (p i b : ℕ) → Lwp p i ≡ Controller b → ⊥
        by_another p i b is = cc
