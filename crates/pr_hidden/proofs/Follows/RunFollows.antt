use Rattle.std.proofs.Common.{◌≡◌, ◌+◌, ℕ, Bool, true, false, eqb, not, Option, Some, None, List, cond, refl, sym, subst, ◌∙◌, ap, inl, inr}
use Rattle.std.proofs.lemmas.Bool.{cases_Bool, eqb-true}
use Rattle.std.specs.List.{All, list_all}
use Rattle.pr_num.specs.Agents.{agent_id}
use Rattle.pr_num.specs.ById.{IsRising, change_under, map_each}
use Rattle.pr_num.specs.Control.{clear_fault, has_flags, single_step}
use Rattle.pr_num.specs.Sets.{common_word}
use Rattle.pr_num.specs.declared.faults.Flt.{Flt}
use Rattle.pr_num.specs.declared.signals.Sig.{Sig}
use Rattle.pr_num.proofs.BoolLemmas.{either}
use Rattle.pr_num.proofs.ByIdLaws.{All-change_under}
use Rattle.pr_model.specs.Erasure.{erased_lwp, erased_process, uncontrolled_lwp, uncontrolled_process}
use Rattle.pr_model.specs.Machines.{step_taken}
use Rattle.pr_model.specs.Messages.{agent_lwp, with_agent}
use Rattle.pr_model.specs.Running.{if_all_requested, let_go, run_lwp, shows_run, was_requested, with_aborted, with_all_run, with_cleared, with_flags_on, with_one_run, with_representative_run, with_request, with_run, with_step, without_directive, without_fault, without_request}
use Rattle.pr_model.specs.State.{TracedLwp, TracedProcess, lwp_of, with_lwp}
use Rattle.pr_model.specs.Stops.{has_event_stop, representative}
use Rattle.pr_model.specs.declared.lwps.Phase.{Phase}
use Rattle.pr_model.specs.declared.lwps.Phase.TheVariants as phase
use Rattle.pr_model.specs.declared.stops.Stop.TheVariants.{Requested}
use Rattle.pr_erasure.proofs.SeenParts.StateLemmas.{map_each-all_hidden, map_each-hidden}
use Rattle.pr_hidden.specs.Covers.{Cover, Covers, all_kept, keeps_lwp, lwp_beneath, patched, seen, seen_under, uncovered_lwp, uncovered_process}
use Rattle.pr_hidden.specs.Hiding.{with_own_agent}
use Rattle.pr_hidden.specs.Tidiness.{is_step_flags}
use Rattle.pr_hidden.proofs.Covers.BareCovers.{process-by-bare}
use Rattle.pr_hidden.proofs.Follows.FollowLemmas.{change-same}
use Rattle.pr_hidden.proofs.Covers.HiddenCovers.{hidden_lwp}
use Rattle.pr_hidden.proofs.Covers.OneLemmas.{absent, come-hidden, one-followed}
use Rattle.pr_hidden.proofs.Covers.SeenLemmas.{seen-alike}
use Rattle.pr_hidden.proofs.NothingHidden.TameLemmas.{IsTameLwp, IsTameProcess, tame-each, tame-lwp}

-- What programs see of PCRUN and PCCFAULT over a fault of a controller's, and of PCAGENT: nothing.

-- ---- an lwp that is run over a fault

-- an lwp stands at no fault but one of a controller's
abbrev pub NoOther : Bool → TracedLwp → Type 0
NoOther own l = (f : Flt) (address : ℕ) → l.phase ≡ phase.Faulted f address → own ≡ true

pub clears-same : (own : Bool) (l : TracedLwp) → NoOther own l
    → uncovered_lwp own (without_fault l) ≡ uncovered_lwp own l
unfolding uncovered_lwp without_fault
clears-same own l none = by l.phase refl
  where
    by : (ph : Phase) → l.phase ≡ ph → uncovered_lwp own (without_fault l) ≡ uncovered_lwp own l
    by phase.User is = rw is refl
    by (phase.Entered call) is = rw is refl
    by (phase.Asleep call args since) is = rw is refl
    by (phase.Exiting call args result) is = rw is refl
    by (phase.Faulted f address) is = rw (is, none f address is) refl

goes-same : (own : Bool) (l : TracedLwp) → erased_lwp (uncovered_lwp own (let_go l)) ≡ erased_lwp (uncovered_lwp own l)
unfolding erased_lwp uncovered_lwp let_go step_taken
goes-same own l = refl

steps-same : (own : Bool) (l : TracedLwp)
    → erased_lwp (uncovered_lwp own (with_step l)) ≡ erased_lwp (uncovered_lwp own l)
unfolding erased_lwp uncovered_lwp with_step step_taken
steps-same own l = refl

-- the flags of a message of a controller with functions
pub data StepFlags : ℕ → Type 0 where
  clearing : StepFlags clear_fault
  stepping : StepFlags single_step
  clearing_stepping : StepFlags (clear_fault + single_step)

pub step-flags : (flags : ℕ) → is_step_flags flags ≡ true → StepFlags flags
step-flags flags is =
    elim (cases_Bool (eqb flags clear_fault)) [
      | inl one ↦ subst StepFlags (sym (eqb-true flags clear_fault one)) clearing
      | inr no_one ↦
          elim (cases_Bool (eqb flags single_step)) [
            | inl two ↦ subst StepFlags (sym (eqb-true flags single_step two)) stepping
            | inr no_two ↦
                subst StepFlags (sym (eqb-true flags (clear_fault + single_step) (rw (no_one, no_two) at is)))
                clearing_stepping
          ]
    ]

pub run-same : (flags : ℕ) → StepFlags flags → (own : Bool) (l : TracedLwp) → NoOther own l
    → erased_lwp (uncovered_lwp own (run_lwp flags l)) ≡ erased_lwp (uncovered_lwp own l)
unfolding run_lwp with_cleared with_aborted has_flags common_word let_go
run-same _ clearing own l none =
    ap erased_lwp (clears-same own (let_go l) (gone own l none)) ∙ goes-same own l
  where
    gone : (own : Bool) (l : TracedLwp) → NoOther own l → NoOther own (let_go l)
    gone own l none = none
run-same _ stepping own l none = steps-same own (let_go l) ∙ goes-same own l
run-same _ clearing_stepping own l none =
    steps-same own (without_fault (let_go l))
    ∙ ap erased_lwp (clears-same own (let_go l) (gone own l none)) ∙ goes-same own l
  where
    gone : (own : Bool) (l : TracedLwp) → NoOther own l → NoOther own (let_go l)
    gone own l none = none

pub run-abort : (flags : ℕ) → StepFlags flags → (l : TracedLwp) → (run_lwp flags l).control.abort ≡ l.control.abort
unfolding run_lwp with_cleared with_aborted has_flags common_word with_step without_fault let_go
run-abort _ clearing l = refl
run-abort _ stepping l = refl
run-abort _ clearing_stepping l = refl

pub clear-abort : (l : TracedLwp) → (without_fault l).control.abort ≡ l.control.abort
unfolding without_fault
clear-abort l = refl

-- ---- processes

module _ (covers : Covers) (pid : ℕ) where
  abbrev c : Cover
  c = covers pid

  -- programs see the same of a process, and it is as tame
  pub record IsUnseen (x y : TracedProcess) : Type 0 where
    pub seen : erased_process (uncovered_process c y) ≡ erased_process (uncovered_process c x)
    pub tame : IsTameProcess covers (pid, x) → IsTameProcess covers (pid, y)

  -- one lwp is changed
  pub lwp-unseen : (x : TracedProcess) (id : ℕ) (l : TracedLwp) (f : TracedLwp → TracedLwp) → IsRising x.lwps
      → lwp_of x id ≡ Some l
      → erased_lwp (uncovered_lwp (c.faulted id) (f l)) ≡ erased_lwp (uncovered_lwp (c.faulted id) l)
      → ((k : TracedLwp) → (f k).control.abort ≡ k.control.abort) → IsUnseen x (with_lwp id f x)
  unfolding erased_process uncovered_process with_lwp
  lwp-unseen x id l f rising there same abort = record {
    seen = by (keeps_lwp c id) refl;
    tame = tame-lwp covers pid id f abort x;
  }
    where
      view : ℕ → TracedLwp → TracedLwp
      view = lwp_beneath c

      by : (b : Bool) → keeps_lwp c id ≡ b
          → erased_process (uncovered_process c (with_lwp id f x)) ≡ erased_process (uncovered_process c x)
      by true kept =
          ap (λ ls. record (erased_process (uncovered_process c x)) { lwps = ls })
          (one-followed (keeps_lwp c) view view erased_lwp id
          (λ n other y. refl) f (λ y. y) l kept same 0 x.lwps rising there
          ∙ ap (map_each erased_lwp) (change-same id (λ y. y) (λ y. refl) (seen_under (keeps_lwp c) view x.lwps)))
      by false hidden = ap erased_process (hidden_lwp c id f x hidden)

  -- what controllers set is changed
  bare-unseen : (x y : TracedProcess) → uncontrolled_process y ≡ uncontrolled_process x
      → (IsTameProcess covers (pid, x) → IsTameProcess covers (pid, y)) → IsUnseen x y
  bare-unseen x y same tame = record { seen = process-by-bare c x y same; tame = tame }

  next-unseen : (x y z : TracedProcess) → IsUnseen x y → IsUnseen y z → IsUnseen x z
  next-unseen x y z one two = record { seen = two.seen ∙ one.seen; tame = λ it. two.tame (one.tame it) }

  -- PCRUN of a process: what comes after the flags
  same-request : (l : TracedLwp) → uncontrolled_lwp (with_request l) ≡ uncontrolled_lwp l
  unfolding with_request uncontrolled_lwp
  same-request l =
      elim (has_event_stop l) as
      (λ b. uncontrolled_lwp (cond b (record l {
        control = record l.control {
          stop = Some Requested;
        };
      }) l) ≡ uncontrolled_lwp l) [ true ↦ refl | false ↦ refl ]

  abort-request : (l : TracedLwp) → (with_request l).control.abort ≡ l.control.abort
  unfolding with_request
  abort-request l =
      elim (has_event_stop l) as
      (λ b. (cond b (record l {
        control = record l.control {
          stop = Some Requested;
        };
      }) l).control.abort ≡ l.control.abort) [ true ↦ refl | false ↦ refl ]

  same-end : (l : TracedLwp) → uncontrolled_lwp (without_request l) ≡ uncontrolled_lwp l
  unfolding without_request uncontrolled_lwp
  same-end l =
      elim (was_requested l.control.stop) as
      (λ b. uncontrolled_lwp (cond b (record l { control = record l.control { stop = None } }) l) ≡ uncontrolled_lwp l)
      [ true ↦ refl | false ↦ refl ]

  abort-end : (l : TracedLwp) → (without_request l).control.abort ≡ l.control.abort
  unfolding without_request
  abort-end l =
      elim (was_requested l.control.stop) as
      (λ b. (cond b (record l { control = record l.control { stop = None } }) l).control.abort ≡ l.control.abort)
      [ true ↦ refl | false ↦ refl ]

  same-undirected : (l : TracedLwp) → uncontrolled_lwp (without_directive l) ≡ uncontrolled_lwp l
  unfolding without_directive uncontrolled_lwp
  same-undirected l = refl

  abort-undirected : (l : TracedLwp) → (without_directive l).control.abort ≡ l.control.abort
  unfolding without_directive
  abort-undirected l = refl

  record IsQuietList (ls ks : List (ℕ × TracedLwp)) : Type 0 where
    seen : map_each uncontrolled_lwp ks ≡ map_each uncontrolled_lwp ls
    tame : All (IsTameLwp c) ls → All (IsTameLwp c) ks

  each-quiet : (f : TracedLwp → TracedLwp) → ((l : TracedLwp) → uncontrolled_lwp (f l) ≡ uncontrolled_lwp l)
      → ((l : TracedLwp) → (f l).control.abort ≡ l.control.abort) → (ls : List (ℕ × TracedLwp))
      → IsQuietList ls (map_each f ls)
  each-quiet f same abort ls = record {
    seen = map_each-all_hidden uncontrolled_lwp f ls same;
    tame = tame-each covers pid f abort ls;
  }

  one-quiet : (id : ℕ) (f : TracedLwp → TracedLwp) → ((l : TracedLwp) → uncontrolled_lwp (f l) ≡ uncontrolled_lwp l)
      → ((l : TracedLwp) → (f l).control.abort ≡ l.control.abort) → (ls : List (ℕ × TracedLwp))
      → IsQuietList ls (change_under id f ls)
  one-quiet id f same abort ls = record {
    seen = map_each-hidden uncontrolled_lwp id f ls same;
    tame =
        All-change_under (IsTameLwp c) id f ls
        (λ l found of. record { no_abort = λ kept. abort l ∙ of.no_abort kept; no_agent = of.no_agent });
  }

  next-quiet : (ls ks js : List (ℕ × TracedLwp)) → IsQuietList ls ks → IsQuietList ks js → IsQuietList ls js
  next-quiet ls ks js one two = record { seen = two.seen ∙ one.seen; tame = λ it. two.tame (one.tame it) }

  requested-quiet : (job : Option Sig) (ls : List (ℕ × TracedLwp)) → IsQuietList ls (if_all_requested job ls)
  unfolding if_all_requested
  requested-quiet job ls =
      either (IsQuietList ls) (list_all (shows_run job) ls) (map_each without_request ls) ls
      (each-quiet without_request same-end abort-end ls) (record { seen = refl; tame = λ it. it })

  list-unseen : (x : TracedProcess) (ls : List (ℕ × TracedLwp)) → IsQuietList x.lwps ls
      → IsUnseen x (record x { lwps = ls })
  unfolding uncontrolled_process
  list-unseen x ls q =
      bare-unseen x (record x { lwps = ls }) (ap (λ ks. record (uncontrolled_process x) { lwps = ks }) q.seen)
      (λ it. record { no_kill = it.no_kill; unwatched = it.unwatched; lwps = q.tame it.lwps })

  -- PRCFAULT alone runs the whole process
  all_run-unseen : (p : TracedProcess) → IsRising p.lwps
      → ((e : ℕ × TracedLwp) → representative p ≡ Some e → (lwp_of p e.0 ≡ Some e.1) × NoOther (c.faulted e.0) e.1)
      → IsUnseen p (with_all_run clear_fault p)
  unfolding with_all_run with_flags_on with_cleared with_aborted has_flags common_word with_lwp
  all_run-unseen p rising aim = by (representative p) refl
    where
      by : (o : Option (ℕ × TracedLwp)) → representative p ≡ o
          → IsUnseen p (record p { lwps = if_all_requested p.job_stop (with_representative_run clear_fault o p.lwps) })
      by None is =
          let undirected = map_each without_directive p.lwps in
          list-unseen p (if_all_requested p.job_stop undirected)
          (next-quiet p.lwps undirected (if_all_requested p.job_stop undirected)
          (each-quiet without_directive same-undirected abort-undirected p.lwps)
          (requested-quiet p.job_stop undirected))
      by (Some e) is =
          let found = aim e is in
          let cleared = change_under e.0 without_fault p.lwps in
          let x = with_lwp e.0 without_fault p in
          let undirected = map_each without_directive cleared in
          let asked = change_under e.0 with_request undirected in
          next-unseen p x (record p { lwps = if_all_requested p.job_stop asked })
          (lwp-unseen p e.0 e.1 without_fault rising found.0
          (ap erased_lwp (clears-same (c.faulted e.0) e.1 found.1)) clear-abort)
          (list-unseen x (if_all_requested p.job_stop asked)
          (next-quiet cleared undirected (if_all_requested p.job_stop asked)
          (each-quiet without_directive same-undirected abort-undirected cleared)
          (next-quiet undirected asked (if_all_requested p.job_stop asked)
          (one-quiet e.0 with_request same-request abort-request undirected) (requested-quiet p.job_stop asked))))

  one_run-unseen : (flags : ℕ) → StepFlags flags → (p : TracedProcess) → IsRising p.lwps → (o : Option (ℕ × TracedLwp))
      → ((e : ℕ × TracedLwp) → o ≡ Some e → (lwp_of p e.0 ≡ Some e.1) × NoOther (c.faulted e.0) e.1)
      → IsUnseen p (with_one_run flags o p)
  one_run-unseen flags ask p rising None aim = record { seen = refl; tame = λ it. it }
  one_run-unseen flags ask p rising (Some e) aim =
      let found = aim e refl in
      lwp-unseen p e.0 e.1 (run_lwp flags) rising found.0
      (run-same flags ask (c.faulted e.0) e.1 found.1) (run-abort flags ask)

  pub run-unseen : (flags : ℕ) → StepFlags flags → (p : TracedProcess) → IsRising p.lwps
      → ((e : ℕ × TracedLwp) → representative p ≡ Some e → (lwp_of p e.0 ≡ Some e.1) × NoOther (c.faulted e.0) e.1)
      → IsUnseen p (with_run flags p)
  unfolding with_run has_flags common_word
  run-unseen _ clearing p rising aim = all_run-unseen p rising aim
  run-unseen _ stepping p rising aim = one_run-unseen single_step stepping p rising (representative p) aim
  run-unseen _ clearing_stepping p rising aim =
      one_run-unseen (clear_fault + single_step) clearing_stepping p rising (representative p) aim

-- ---- an agent comes

pub agent_came : (c : Cover) (regs : List ℕ) (p : TracedProcess) → lwp_of p agent_id ≡ None
    → uncovered_process (with_own_agent true c) (with_agent regs p) ≡ uncovered_process c p
unfolding uncovered_process with_agent
agent_came c regs p none =
    ap (λ ls. record p { space = patched c.patches p.space; lwps = ls })
    (come-hidden (lwp_beneath c) agent_id (agent_lwp regs) p.lwps none ∙ by c.agent refl)
  where
    by : (b : Bool) → c.agent ≡ b
        → seen_under all_kept (lwp_beneath c) p.lwps ≡ seen_under (keeps_lwp c) (lwp_beneath c) p.lwps
    by false is = seen-alike all_kept (keeps_lwp c) (lwp_beneath c) (λ id. rw is refl) p.lwps
    by true is =
        sym (absent (lwp_beneath c) agent_id p.lwps none)
        ∙ seen-alike (λ id. not (eqb id agent_id)) (keeps_lwp c) (lwp_beneath c) (λ id. rw is refl) p.lwps
