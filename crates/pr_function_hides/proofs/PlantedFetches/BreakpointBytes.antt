use Rattle.std.proofs.Common.{◌≡◌, ◌≢◌, ◌+◌, ◌^◌, ◌≤◌, ◌&&◌, ℕ, true, cond, nat_le, Some, None, Ok, List, [], ◌∷◌, length, sym, subst, ap, ◌∙◌, arith}
use Rattle.pr_function_hides.proofs.CodeThere.FetchedCode.{all-read}
use Rattle.pr_function_hides.proofs.Memory.MarkedPatches.{functions-apart}
use Rattle.pr_function_hides.proofs.Tidy.OwnWrites.{breakpoint-size}
use Rattle.pr_function_hides.proofs.Memory.SpaceEdits.{EntryRelates, entry-relates}
use Rattle.pr_function_hides.proofs.CodeThere.TurnCode.{HoldsCode, holds-same}
use Rattle.pr_function_hides.proofs.CodeThere.TurnStands.{Stands}
use Rattle.pr_function_hides.specs.FunctionHiders.{IsPatchable}
use Rattle.pr_function_hides.specs.PlantedBreakpoints.{breakpoint_of}
use Rattle.pr_function_laws.specs.Lifted.{HasControl}
use Rattle.pr_function_laws.proofs.OpenedProcesses.OpenedLemmas.{control-sole}
use Rattle.pr_hidden.proofs.PatchedSpaces.PatchLemmas.{apart-spares, hidden-store, patched-store, same-range}
use Rattle.pr_hidden.specs.Covers.{Patch}
use Rattle.pr_hidden.specs.Sparing.{AreWithin, is_apart}
use Rattle.pr_lawful.proofs.ProcessParts.HandleLemmas.{control-writes, handle-at}
use Rattle.pr_line.specs.declared.functions.Function.{Function}
use Rattle.pr_model.specs.Changes.{with_space}
use Rattle.pr_model.specs.Handles.{handle_of, is_control}
use Rattle.pr_model.specs.Lawful.{IsFitting, IsLawful}
use Rattle.pr_model.specs.Legal.{IsLegalEntry, after}
use Rattle.pr_model.specs.State.{TracedProcess, TracedState, live_process}
use Rattle.pr_model.specs.declared.events.Act.{Act}
use Rattle.pr_model.specs.declared.events.Act.TheVariants as act
use Rattle.pr_model.specs.declared.events.Actor.{Actor}
use Rattle.pr_model.specs.declared.events.Actor.TheVariants.{Controller, Lwp, Clock}
use Rattle.pr_model.specs.declared.handles.Held.{Held}
use Rattle.pr_num.proofs.SearchLemmas.{All-at}
use Rattle.pr_num.specs.Control.{prot_exec}
use Rattle.pr_num.specs.Spaces.{Space, bytes_for}
use Rattle.pr_parts.specs.AddressSpaces.{with_bytes}
use Rattle.pr_truss.specs.Marks.{breakpoint}

-- The bytes of a breakpoint in the memory of a process that has it to itself: where they stand they are what is
-- fetched, and they stand on whatever others do, and whatever is written over another function.

-- ---- one function

module _ (f : Function) (patchable : IsPatchable f) where
  abbrev bf : Patch
  bf = breakpoint_of f

  most : f.at + 16 ≤ 2 ^ 64
  most = patchable.within

  pub breakpoint-within : AreWithin (bf ∷ [])
  breakpoint-within =
      let size : length breakpoint ≡ 16 = breakpoint-size in let m = most in (omega (arith, size, m), tt)

  -- what is fetched there
  pub breakpoint-fetched : (p : TracedProcess) → HoldsCode bf p → (bytes : List ℕ)
      → bytes_for prot_exec p.space f.at 16 ≡ Ok bytes → bytes ≡ breakpoint
  breakpoint-fetched p holds bytes fetch =
      let size : length breakpoint ≡ 16 = breakpoint-size in
      let m = most in
      all-read prot_exec p.space f.at breakpoint (omega (arith, size, m)) holds.stands 16 breakpoint-size bytes fetch

  -- it is written
  pub breakpoint-written : (space : Space) → Stands bf (with_bytes f.at breakpoint space)
  breakpoint-written space =
      hidden-store (bf ∷ []) f.at breakpoint (λ a low high. same-range bf [] a low high) space

  -- another function is written over
  module _ (g : Function) (its : IsPatchable g) (apart : g.at ≢ f.at) where
    ranges-apart : (code : List ℕ) → length code ≡ 16
        → is_apart (let p : Patch = record { at = g.at; bytes = code } in p) bf ≡ true
    ranges-apart code size =
        subst (λ n. cond (nat_le (g.at + n) f.at) true (nat_le (f.at + length breakpoint) g.at) ≡ true)
        (its.size ∙ sym size)
        (subst (λ n. cond (nat_le (g.at + length g.code) f.at) true (nat_le (f.at + n) g.at) ≡ true)
        (patchable.size ∙ sym breakpoint-size) (functions-apart g f its patchable apart))

    pub other-written : (code : List ℕ) → length code ≡ 16 → (space : Space) → Stands bf space
        → Stands bf (with_bytes g.at code space)
    other-written code size space stands =
        let p : Patch = record { at = g.at; bytes = code } in
        patched-store (bf ∷ []) g.at code
        (apart-spares p (bf ∷ []) (ap (λ b. b && true) (ranges-apart code size))) space
        ∙ ap (with_bytes g.at code) stands

  -- so it is of the process after a write
  pub written-same : (code : List ℕ) → code ≡ breakpoint → (p : TracedProcess) → p.borrower ≡ None
      → HoldsCode bf (with_space (with_bytes f.at code p.space) p)
  unfolding with_space
  written-same code is p own = record {
    own = own;
    stands = subst (λ xs. Stands bf (with_bytes f.at xs p.space)) (sym is) (breakpoint-written p.space);
  }

  pub written-other : (g : Function) → IsPatchable g → g.at ≢ f.at → (code : List ℕ) → length code ≡ 16
      → (p : TracedProcess) → HoldsCode bf p → HoldsCode bf (with_space (with_bytes g.at code p.space) p)
  unfolding with_space
  written-other g its apart code size p holds = record {
    own = holds.own;
    stands = other-written g its apart code size p.space holds.stands;
  }

-- ---- entries

module _ (f : Patch) where
  abbrev pub Keeps : TracedProcess → TracedProcess → Type 0
  Keeps x y = HoldsCode f x → HoldsCode f y

  abbrev keeps-same : (x y : TracedProcess) → y.borrower ≡ x.borrower → y.space ≡ x.space → Keeps x y
  keeps-same x y lent space = holds-same f x y lent space

  abbrev keeps-next : (x y z : TracedProcess) → Keeps x y → Keeps y z → Keeps x z
  keeps-next x y z one two = λ it. two (one it)

  module _ (n k : ℕ) (s : TracedState) (lawful : IsLawful s) (pid control : ℕ) (its : HasControl k pid control s)
    where
      -- nobody else writes to the process
      none-writes : (j number : ℕ) (x : Held) → j ≢ k → handle_of s.opens j number ≡ Some x
          → is_control x.file ≡ true → x.pid ≢ pid
      none-writes j number x apart there controls =
          let sole = control-sole k pid control s lawful its in
          sole.none j number x apart there
          (control-writes x
          (All-at IsFitting s.opens number (Some x) (handle-at s.opens j number x there) lawful.fitting) controls)

      relates : (p q : TracedProcess) (own : p.borrower ≡ None) (by : Actor) (it : Act) → by ≢ Controller k
          → EntryRelates Keeps keeps-same keeps-next pid p q own s by it
      relates p q own (Controller j) (act.Call c r) other =
          λ handle bytes held m len is there controls its_pid read.
          absurd (none-writes j handle held (λ is_k. other (ap Controller is_k)) there controls its_pid)
      relates p q own (Controller j) (act.Turn turned) other = tt
      relates p q own (Controller j) (act.Tick moment) other = tt
      relates p q own (Lwp acting id) it other = tt
      relates p q own Clock it other = tt

      -- an entry of others, which is no turn of the process
      pub others-hold : (actor : Actor) (it : Act) → IsLegalEntry n s (record { actor = actor; act = it })
          → actor ≢ Controller k → ((id : ℕ) → actor ≢ Lwp pid id) → (p q : TracedProcess)
          → live_process s.system pid ≡ Some p
          → live_process (after s (record { actor = actor; act = it })).system pid ≡ Some q → Keeps p q
      others-hold actor it legal foreign apart p q live later held =
          entry-relates Keeps keeps-same keeps-next pid p q held.own n s actor it lawful legal apart
          (relates p q held.own actor it foreign) live later held
