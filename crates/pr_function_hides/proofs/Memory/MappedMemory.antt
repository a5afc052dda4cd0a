use Rattle.std.proofs.Common.{◌≡◌, ◌≢◌, ℕ, is_some, None, Some, Option, List, [], ◌∷◌, All, refl, sym, subst, ap, ◌∙◌}
use Rattle.std.proofs.lemmas.Bool.{false≢true}
use Rattle.std.proofs.lemmas.List.Elements.{All-head}
use Rattle.pr_hidden.specs.Covers.{Patch}
use Rattle.pr_lending.proofs.ProcessLoans.LoanLemmas.{borrower-found, lender-found, space-found}
use Rattle.pr_lending.specs.Lending.{AreLending}
use Rattle.pr_model.proofs.StateLemmas.{live_process-found}
use Rattle.pr_model.specs.Changes.{with_space}
use Rattle.pr_model.specs.ControlMessages.{tail_of}
use Rattle.pr_model.specs.Lawful.{IsLawful}
use Rattle.pr_model.specs.Legal.{IsLegalEntry, after}
use Rattle.pr_model.specs.State.{TracedProcess, TracedState, TracedSystem, live_process, process_of}
use Rattle.pr_model.specs.declared.events.Act.{Act}
use Rattle.pr_model.specs.declared.events.Act.TheVariants as act
use Rattle.pr_model.specs.declared.events.Actor.{Actor}
use Rattle.pr_model.specs.declared.events.Actor.TheVariants.{Controller, Lwp, Clock}
use Rattle.pr_num.specs.Limits.{instruction_size}
use Rattle.pr_num.specs.Spaces.{Space, bytes_for}
use Rattle.pr_probe_laws.proofs.Agents.AgentMemory.{still-allowed}
use Rattle.pr_parts.specs.AddressSpaces.{with_bytes}
use Rattle.pr_function_hides.proofs.Memory.SpaceEdits.{EntryRelates, entry-relates}
use Rattle.pr_function_hides.specs.TidyWrites.{IsMappedIn}

-- What is mapped where breakpoints stand: controllers unmap nothing, and other processes nothing but what was lent.

-- ---- a space with nothing mapped

pub none-mapped : (f : Patch) → IsMappedIn [] f → ⊥
unfolding bytes_for
none-mapped f it = false≢true it.ok

-- where a breakpoint's bytes are mapped, something is
pub bare-patches : (space : Space) (ps : List Patch) → space ≡ [] → All (IsMappedIn space) ps → ps ≡ []
bare-patches space [] bare all = refl
bare-patches space (p ∷ ps) bare all =
    absurd (none-mapped p (subst (λ (x : Space). IsMappedIn x p) bare (All-head (IsMappedIn space) p ps all)))

-- ---- who lends

pub lender-bare : (s : TracedSystem) (pid lender : ℕ) (p : TracedProcess) → AreLending s → live_process s pid ≡ Some p
    → p.lender ≡ Some lender → (q : TracedProcess) → live_process s lender ≡ Some q → q.space ≡ []
lender-bare s pid lender p lending live lends q lives =
    sym (space-found s lender q (live_process-found s lender q lives))
    ∙ lending.bare lender pid
    (lending.borrowed lender pid (lender-found s pid p (live_process-found s pid p live) ∙ lends))

-- it lives
pub lender-lives : (s : TracedSystem) (pid lender : ℕ) (p : TracedProcess) → AreLending s → live_process s pid ≡ Some p
    → p.lender ≡ Some lender → live_process s lender ≢ None
lender-lives s pid lender p lending live lends gone =
    let both =
    lending.lives lender pid
    (lending.borrowed lender pid (lender-found s pid p (live_process-found s pid p live) ∙ lends)) in
    false≢true (ap (λ (o : Option TracedProcess). is_some o) (sym gone) ∙ both.0)

-- a process in whose memory something is mapped has lent it to nobody
pub mapped-owns : (s : TracedSystem) (pid : ℕ) (p : TracedProcess) → AreLending s → live_process s pid ≡ Some p
    → (f : Patch) → IsMappedIn p.space f → p.borrower ≡ None
mapped-owns s pid p lending live f mapped = by p.borrower refl
  where
    there : process_of s pid ≡ Some p
    there = live_process-found s pid p live

    by : (o : Option ℕ) → p.borrower ≡ o → o ≡ None
    by None is = refl
    by (Some child) is =
        let bare : p.space ≡ [] =
        sym (space-found s pid p there) ∙ lending.bare pid child (borrower-found s pid p there ∙ is) in
        absurd (none-mapped f (subst (λ (x : Space). IsMappedIn x f) bare mapped))

-- ---- one process

-- what was mapped before is mapped later
pub record MapsAll (x y : TracedProcess) : Type 0 where
  pub mapped : (f : Patch) → IsMappedIn x.space f → IsMappedIn y.space f

maps-same : (x y : TracedProcess) → y.space ≡ x.space → MapsAll x y
maps-same x y same = record { mapped = λ f it. subst (λ (z : Space). IsMappedIn z f) (sym same) it }

maps-next : (x y z : TracedProcess) → MapsAll x y → MapsAll y z → MapsAll x z
maps-next x y z one two = record { mapped = λ f it. two.mapped f (one.mapped f it) }

-- and so is what PCWRITE writes to
written-maps : (at : ℕ) (tail : List ℕ) (x : TracedProcess) → MapsAll x (with_space (with_bytes at tail x.space) x)
unfolding with_space
written-maps at tail x = record {
  mapped = λ f it. record { ok = still-allowed 0 x.space at tail f.at instruction_size ∙ it.ok };
}

-- ---- every entry but a turn of its own

module _ (pid : ℕ) (p q : TracedProcess) (own : p.borrower ≡ None) where
  abbrev relates : (x y : TracedProcess) → y.borrower ≡ x.borrower → y.space ≡ x.space → MapsAll x y
  relates x y lent space = maps-same x y space

  all-relate : (s : TracedState) (actor : Actor) (it : Act)
      → EntryRelates MapsAll relates maps-next pid p q own s actor it
  all-relate s (Controller by) (act.Call c r) =
      λ handle bytes held m len is there controls its read at size writes x alone ok.
      written-maps at (tail_of m bytes) x
  all-relate s (Controller by) (act.Turn t) = tt
  all-relate s (Controller by) (act.Tick m) = tt
  all-relate s (Lwp acting id) it = tt
  all-relate s Clock it = tt

  pub entry-maps : (n : ℕ) (s : TracedState) (actor : Actor) (it : Act) → IsLawful s
      → IsLegalEntry n s (record { actor = actor; act = it }) → ((id : ℕ) → actor ≢ Lwp pid id)
      → live_process s.system pid ≡ Some p
      → live_process (after s (record { actor = actor; act = it })).system pid ≡ Some q → MapsAll p q
  entry-maps n s actor it lawful legal other before later =
      entry-relates MapsAll relates maps-next pid p q own n s actor it lawful legal other (all-relate s actor it)
      before later
