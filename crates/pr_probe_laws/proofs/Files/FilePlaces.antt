use Rattle.std.proofs.Common.{◌≡◌, ◌≢◌, ◌⊎◌, ◌<◌, ◌+◌, ◌==◌, ℕ, zero, suc, Some, None, length, if◌then◌else◌, refl, sym, subst, ap, ◌∙◌, inl, inr, arith}
use Rattle.std.proofs.lemmas.Bool.{cases_eq}
use Rattle.std.proofs.lemmas.List.{get_or-set_other, get_or-set_same, length-set}
use Rattle.std.proofs.lemmas.Option.{same_Some}
use Rattle.pr_model.specs.Handles.{handle_of}
use Rattle.pr_model.specs.State.{Places, TracedState}
use Rattle.pr_model.specs.declared.calls.Reply.{Reply}
use Rattle.pr_model.specs.declared.handles.Held.{Held}
use Rattle.pr_probe.specs.ProbeStages.{file_of, lwp_of, mode_of, place_of}
use Rattle.pr_probe.specs.declared.probe_stages.ProbeFile.{ProbeFile}
use Rattle.pr_probe.specs.declared.probe_stages.ProbeFile.TheVariants.{Control, Status, Lstatus, Map, AgentControl, AgentStatus}
use Rattle.pr_tool_laws.proofs.Pstack.StackReads.{new-stands, old-stands}
use Rattle.pr_tools.specs.Handles.{handle_at, most_open, nothing_open, with_handle}
use Rattle.pr_tools.specs.declared.handles.Opened.{Opened}
use Rattle.pr_truss_laws.proofs.Files.OpensLemmas.{Opens, held_by}

-- The files that apfiles has open, by their places.

-- the file of a place
abbrev pub file_at : ℕ → ProbeFile
file_at place =
    if place == 0 then Control else (if place == 1 then Status else (if place == 2 then Lstatus
    else (if place == 3 then Map else (if place == 4 then AgentControl else AgentStatus))))

its-file : (f : ProbeFile) → file_at (place_of f) ≡ f
unfolding place_of
its-file Control = refl
its-file Status = refl
its-file Lstatus = refl
its-file Map = refl
its-file AgentControl = refl
its-file AgentStatus = refl

pub few-places : (f : ProbeFile) → place_of f < 6
unfolding place_of
few-places Control = omega arith
few-places Status = omega arith
few-places Lstatus = omega arith
few-places Map = omega arith
few-places AgentControl = omega arith
few-places AgentStatus = omega arith

pub at-file : (place : ℕ) → place < 6 → place_of (file_at place) ≡ place
unfolding place_of
at-file zero few = refl
at-file (suc zero) few = refl
at-file (suc (suc zero)) few = refl
at-file (suc (suc (suc zero))) few = refl
at-file (suc (suc (suc (suc zero)))) few = refl
at-file (suc (suc (suc (suc (suc zero))))) few = refl
at-file (suc (suc (suc (suc (suc (suc place)))))) few = absurd (omega (arith, few))

-- two files at one place are one
same-file : (f g : ProbeFile) → place_of f ≡ place_of g → f ≡ g
same-file f g same = sym (its-file f) ∙ ap file_at same ∙ its-file g

module _ (k pid : ℕ) where
  -- what the handle of a file stands for
  abbrev pub held_of : ProbeFile → Held
  held_of f = held_by k pid (lwp_of f) (file_of f) (mode_of f)

  -- a file is open
  pub record HasFile (opens : Places) (o : Opened) (f : ProbeFile) : Type 0 where
    pub number : ℕ
    pub at : handle_at o (place_of f) ≡ Some number
    pub stands : handle_of opens k number ≡ Some (held_of f)

  -- the first so many are
  pub record HasFirst (many : ℕ) (opens : Places) (o : Opened) : Type 0 where
    pub each : (f : ProbeFile) → place_of f < many → HasFile opens o f
    pub places : length o.handles ≡ most_open

  -- what is noted at the place of a file is a handle of it
  abbrev pub AreStanding : Places → Opened → Type 0
  AreStanding opens o =
      (f : ProbeFile) (number : ℕ) → handle_at o (place_of f) ≡ Some number
      → handle_of opens k number ≡ Some (held_of f)

  pub none-first : (opens : Places) → HasFirst 0 opens nothing_open
  unfolding nothing_open
  none-first opens = record { each = λ f below. absurd (omega (arith, below)); places = refl }

  pub keeps-first : (many : ℕ) (opens later : Places) (o : Opened)
      → ((number : ℕ) (held : Held) → held.controller ≡ k → handle_of opens k number ≡ Some held
      → handle_of later k number ≡ Some held)
      → HasFirst many opens o → HasFirst many later o
  keeps-first many opens later o keeps has = record {
    each = λ f below.
        let it = has.each f below in
        record { number = it.number; at = it.at; stands = keeps it.number (held_of f) refl it.stands };
    places = has.places;
  }

  -- ---- one more

  module _ (s : TracedState) (f : ProbeFile) (r : Reply) (opens : Places) (granted : Opens s k (held_of f) r opens)
      (o : Opened) where
    abbrev now : Opened
    now = with_handle o (place_of f) (Some granted.place)

    handle-same : length o.handles ≡ most_open → handle_at now (place_of f) ≡ Some granted.place
    unfolding handle_at with_handle
    handle-same places =
        get_or-set_same o.handles (place_of f) (Some granted.place) None (omega (arith, places, few-places f))

    handle-other : (place : ℕ) → place ≢ place_of f → handle_at now place ≡ handle_at o place
    unfolding handle_at with_handle
    handle-other place apart =
        get_or-set_other o.handles (place_of f) place (Some granted.place) None apart

    new-places : length o.handles ≡ most_open → length now.handles ≡ most_open
    unfolding with_handle
    new-places places = length-set o.handles (place_of f) (Some granted.place) ∙ places

    new-file : length o.handles ≡ most_open → HasFile opens now f
    new-file places = record {
      number = granted.place;
      at = handle-same places;
      stands = new-stands s k (held_of f) refl r opens granted;
    }

    old-file : (g : ProbeFile) → place_of g ≢ place_of f → HasFile s.opens o g → HasFile opens now g
    old-file g apart old = record {
      number = old.number;
      at = handle-other (place_of g) apart ∙ old.at;
      stands = old-stands s k (held_of f) refl r opens granted old.number (held_of g) old.stands;
    }

    pub stands-more : length o.handles ≡ most_open → AreStanding s.opens o → AreStanding opens now
    stands-more places all g number at = by (cases_eq (place_of g) (place_of f))
      where
        by : (place_of g ≡ place_of f) ⊎ (place_of g ≢ place_of f) → handle_of opens k number ≡ Some (held_of g)
        by (inl same) =
            let is : granted.place ≡ number =
            same_Some granted.place number
            (sym (handle-same places) ∙ ap (handle_at now) (sym same) ∙ at) in
            subst (λ (m : ℕ). handle_of opens k m ≡ Some (held_of g)) is
            (subst (λ (x : ProbeFile). handle_of opens k granted.place ≡ Some (held_of x)) (same-file f g (sym same))
            (new-stands s k (held_of f) refl r opens granted))
        by (inr apart) =
            old-stands s k (held_of f) refl r opens granted number (held_of g)
            (all g number (sym (handle-other (place_of g) apart) ∙ at))

    pub one-more : HasFirst (place_of f) s.opens o → HasFirst (place_of f + 1) opens now
    one-more has = record { each = each; places = new-places has.places }
      where
        each : (g : ProbeFile) → place_of g < place_of f + 1 → HasFile opens now g
        each g inside = by (cases_eq (place_of g) (place_of f))
          where
            by : (place_of g ≡ place_of f) ⊎ (place_of g ≢ place_of f) → HasFile opens now g
            by (inl same) = subst (HasFile opens now) (same-file f g (sym same)) (new-file has.places)
            by (inr apart) = old-file g apart (has.each g (omega (arith, inside, apart)))
