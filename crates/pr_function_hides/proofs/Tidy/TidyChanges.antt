use Rattle.std.proofs.Common.{◌≡◌, ◌++◌, ℕ, Bool, true, false, List, [], ◌∷◌, Option, None, Some, refl, sym, subst, ap, ◌∙◌}
use Rattle.std.proofs.lemmas.Bool.{false≢true}
use Rattle.std.proofs.lemmas.Option.{none-some, same_Some}
use Rattle.pr_api.specs.Entries.{call_entry}
use Rattle.pr_function_hides.proofs.Files.CallFacts.{legal-here}
use Rattle.pr_function_hides.proofs.StoppedCopies.RefusedCopies.{call_in, performed-call, refused-leaves}
use Rattle.pr_function_hides.specs.TidyWrites.{TurnsTidily}
use Rattle.pr_hidden.specs.Covers.{Covers}
use Rattle.pr_hidden.specs.Following.{IsReturnable, MayEnd}
use Rattle.pr_hidden.specs.Hiders.{Hiders, covers_at}
use Rattle.pr_hidden.specs.Tidiness.{AreTidyChanges, IsTidyCall}
use Rattle.pr_model.specs.CallEffects.{call_effect}
use Rattle.pr_model.specs.Changes.{Change}
use Rattle.pr_model.specs.Legal.{IsLegal, state_after}
use Rattle.pr_model.specs.Rows.{Row, performed_row, row_for}
use Rattle.pr_model.specs.State.{TracedLwp, TracedProcess, TracedState, live_process, lwp_of}
use Rattle.pr_model.specs.declared.calls.Call.TheVariants as call
use Rattle.pr_model.specs.declared.calls.Reply.{Reply}
use Rattle.pr_model.specs.declared.calls.Reply.TheVariants as reply
use Rattle.pr_model.specs.declared.events.Act.TheVariants.{Turn}
use Rattle.pr_model.specs.declared.events.Actor.TheVariants.{Lwp}
use Rattle.pr_model.specs.declared.events.Entry.{Entry}
use Rattle.pr_model.specs.declared.events.Turned.{Turned}
use Rattle.pr_num.specs.Syscalls.{is_fork_call}
use Rattle.pr_num.specs.declared.syscalls.Sysno.{Sysno}
use Rattle.pr_num.specs.declared.syscalls.Sysno.TheVariants as sys
use Rattle.pr_probe_laws.proofs.Hiding.HiddenFacts.{legal-turn}
use Rattle.pr_probe_laws.proofs.Hiding.HiddenTurns.{did-is}
use Rattle.pr_probe_laws.proofs.Hiding.TidyEffects.{IsCopying}
use Rattle.pr_probe_laws.proofs.Hiding.TidyTurns.{row-tidy}
use Rattle.pr_truss.specs.FunctionEvents.{copies_memory}
use Rattle.pr_world.specs.ControllerStates.{ControllerState}
use Rattle.pr_function_hides.specs.Copying.{makes_copy}

-- What turns change, and whom controllers kill, is tidy where breakpoints stand.

-- ---- the turn of a call that copies the memory

copying-copies : (c : Sysno) → IsCopying c → copies_memory c ≡ true
unfolding copies_memory is_fork_call
copying-copies sys.Fork copying = refl
copying-copies sys.Vfork copying = refl
copying-copies sys.Exec copying = refl
copying-copies _ copying = absurd copying

-- ---- a history

module _ (n : ℕ) (who : Hiders) (controllers : List ControllerState) (first : TracedState) (h : List Entry)
    (legal : IsLegal n first h)
    (copies : (front back : List Entry) (pid id : ℕ) (t : Turned)
    → h ≡ front ++ record { actor = Lwp pid id; act = Turn t } ∷ back → makes_copy t.did ≡ true
    → (covers_at who first front pid).patches ≡ [])
    (lenders : (front back : List Entry) (pid lender : ℕ) (p : TracedProcess) → h ≡ front ++ back
    → live_process (state_after first front).system pid ≡ Some p → p.lender ≡ Some lender
    → ((covers_at who first front pid).patches ≡ []) × ((covers_at who first front lender).patches ≡ [])) where
  abbrev at : List Entry → Covers
  at front = covers_at who first front

  abbrev now : List Entry → TracedState
  now front = state_after first front

  module _ (front back : List Entry) (place : h ≡ front ++ back) where
    -- a process gives back memory that is seen alike
    gives-back : (pid : ℕ) (p : TracedProcess) → live_process (now front).system pid ≡ Some p
        → IsReturnable (at front) pid p
    gives-back pid p live = record {
      alike = λ lender lends.
          let both = lenders front back pid lender p place live lends in both.1 ∙ sym both.0;
    }

    ends-so : (pid : ℕ) → MayEnd (at front) (now front).system pid
    ends-so pid = record { returnable = λ p live. gives-back pid p live }

  pub turn-changes : (front back : List Entry) (pid id : ℕ) (t : Turned) (p : TracedProcess) (l : TracedLwp)
      → h ≡ front ++ record { actor = Lwp pid id; act = Turn t } ∷ back
      → live_process (now front).system pid ≡ Some p → lwp_of p id ≡ Some l
      → TurnsTidily who controllers first h front pid id p l
  turn-changes front back pid id t p l place live there = record {
    changes = by (makes_copy row.did) refl;
    returns = λ how is. back_so;
  }
    where
      e : Entry
      e = record { actor = Lwp pid id; act = Turn t }

      row : Row
      row = row_for (now front).system pid p id l

      did : t.did ≡ row.did
      did =
          let here =
          legal-turn n (now front) pid id t
          (legal-here n first front e back (subst (λ (es : List Entry). IsLegal n first es) place legal)) in
          did-is (now front) pid id (record { system = here.0; turned = t }) here.1 p l live there

      back_so : IsReturnable (at front) pid p
      back_so = gives-back front (e ∷ back) place pid p live

      AreTidy : List Change → Type 0
      AreTidy cs = AreTidyChanges (at front) pid p id l cs (now front).system

      tidy : ((woken : Bool) (c : Sysno) (args : List ℕ) (since : ℕ) → IsCopying c
          → row ≡ performed_row woken c args since (call_effect (now front).system pid p id l since c args)
          → (at front pid).patches ≡ []) → AreTidy row.transition.changes
      tidy bare =
          row-tidy (at front) (now front).system pid p id l back_so bare
          (λ target killed. ends-so front (e ∷ back) place target)

      -- the call that the row performs
      performs : (woken : Bool) (c : Sysno) (args : List ℕ) (since : ℕ)
          → row ≡ performed_row woken c args since (call_effect (now front).system pid p id l since c args)
          → call_in row.did ≡ Some c
      performs woken c args since is =
          ap (λ (r : Row). call_in r.did) is
          ∙ performed-call woken c args since (call_effect (now front).system pid p id l since c args)

      copying : (c : Sysno) → call_in row.did ≡ Some c → makes_copy row.did ≡ false → (b : Bool)
          → copies_memory c ≡ b → AreTidy row.transition.changes
      copying c its refused true is =
          subst AreTidy (sym (refused-leaves (now front).system pid p id l c is its refused)) tt
      copying c its refused false is =
          tidy (λ woken d args since copies same.
          absurd (false≢true (sym is
          ∙ ap copies_memory (same_Some c d (sym its ∙ performs woken d args since same)) ∙ copying-copies d copies)))

      calls : (o : Option Sysno) → call_in row.did ≡ o → makes_copy row.did ≡ false → AreTidy row.transition.changes
      calls None none refused =
          tidy (λ woken d args since copies same. absurd (none-some d (sym none ∙ performs woken d args since same)))
      calls (Some c) its refused = copying c its refused (copies_memory c) refl

      by : (b : Bool) → makes_copy row.did ≡ b → AreTidy row.transition.changes
      by true is =
          tidy (λ woken c args since its same. copies front back pid id t place (ap makes_copy did ∙ is))
      by false is = calls (call_in row.did) refl is

  pub kill-tidy : (front back : List Entry) (k pid number : ℕ) (r : Reply)
      → h ≡ front ++ call_entry k (call.Kill pid number) r ∷ back
      → IsTidyCall who (at front) (now front) k (call.Kill pid number) r
  kill-tidy front back k pid number r place = by r refl
    where
      by : (x : Reply) → r ≡ x → IsTidyCall who (at front) (now front) k (call.Kill pid number) x
      by reply.Done is =
          λ g sending deadly. ends-so front (call_entry k (call.Kill pid number) r ∷ back) place pid
      by _ is = tt
