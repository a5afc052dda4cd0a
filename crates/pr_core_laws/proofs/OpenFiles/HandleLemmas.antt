use Rattle.std.proofs.Common.{◌≡◌, ◌≢◌, ◌⊎◌, ◌<◌, ◌+◌, ◌∷◌, ℕ, Some, None, List, [], length, refl, sym, subst, ap, ◌∙◌, inl, inr, arith}
use Rattle.std.specs.List.{slice_get}
use Rattle.std.proofs.lemmas.Bool.{cases_eq}
use Rattle.std.proofs.lemmas.List.Elements.{All-from_recursion}
use Rattle.std.proofs.lemmas.List.{get_or-set_other, get_or-set_same, length-set}
use Rattle.std.proofs.lemmas.Option.{same_Some}
use Rattle.pr_model.specs.Handles.{handle_of}
use Rattle.pr_model.specs.State.{Places, TracedState}
use Rattle.pr_model.specs.declared.calls.File.{File}
use Rattle.pr_model.specs.declared.calls.File.TheVariants as file
use Rattle.pr_model.specs.declared.calls.Mode.TheVariants as mode
use Rattle.pr_model.specs.declared.calls.Reply.{Reply}
use Rattle.pr_model.specs.declared.handles.Held.{Held}
use Rattle.pr_tools.specs.Handles.{handle_at, most_open, nothing_open, with_handle}
use Rattle.pr_tools.specs.declared.handles.Opened.{Opened}
use Rattle.pr_num.proofs.SearchLemmas.{All-at}
use Rattle.pr_tool_laws.proofs.Pstack.StackReads.{control_of, new-stands, old-stands}
use Rattle.pr_tool_laws.proofs.OwnFiles.StandingLemmas.{Stands}
use Rattle.pr_truss_laws.proofs.Files.OpensLemmas.{Opens, held_by}

-- The files that gcore has open, by their places.

-- a file of a process, for reading
abbrev pub file_of : ℕ → ℕ → File → Held
file_of k pid name = held_by k pid 0 name mode.Read

-- its files in the order of their places
abbrev pub files_of : ℕ → ℕ → List Held
files_of k pid =
    control_of k pid ∷ file_of k pid file.Status ∷ file_of k pid file.Psinfo ∷ file_of k pid file.Lstatus
    ∷ file_of k pid file.Sigact ∷ file_of k pid file.Map ∷ file_of k pid file.Fds ∷ file_of k pid file.Mem ∷ []

abbrev IsOf : ℕ → Held → Type 0
IsOf k h = h.controller ≡ k

pub own-files : (k pid place : ℕ) (held : Held) → slice_get (files_of k pid) place ≡ Some held → held.controller ≡ k
own-files k pid place held at =
    All-at (IsOf k) (files_of k pid) place held at
    (All-from_recursion (IsOf k) (files_of k pid)
    (refl, (refl, (refl, (refl, (refl, (refl, (refl, (refl, tt)))))))))

own-stands : (k number : ℕ) (opens : Places) (h : Held) → h.controller ≡ k → handle_of opens k number ≡ Some h
    → Stands opens number h
own-stands k number opens h own at = subst (λ (c : ℕ). handle_of opens c number ≡ Some h) (sym own) at

own-at : (k number : ℕ) (opens : Places) (h : Held) → h.controller ≡ k → Stands opens number h
    → handle_of opens k number ≡ Some h
own-at k number opens h own stands = subst (λ (c : ℕ). handle_of opens c number ≡ Some h) own stands

-- the file at a place is open
pub record HasOpen (opens : Places) (opened : Opened) (place : ℕ) (held : Held) : Type 0 where
  pub number : ℕ
  pub at : handle_at opened place ≡ Some number
  pub stands : Stands opens number held

-- so many files are open
pub record HasFirst (k pid many : ℕ) (opens : Places) (opened : Opened) : Type 0 where
  pub each : (place : ℕ) (held : Held) → place < many → slice_get (files_of k pid) place ≡ Some held
      → HasOpen opens opened place held
  pub places : length opened.handles ≡ most_open

pub none-first : (k pid : ℕ) (opens : Places) → HasFirst k pid 0 opens nothing_open
unfolding nothing_open
none-first k pid opens = record { each = λ place held below at. absurd (omega arith); places = refl }

pub keeps-first : (k pid many : ℕ) (opens later : Places) (opened : Opened)
    → ((number : ℕ) (held : Held) → held.controller ≡ k → Stands opens number held → Stands later number held)
    → HasFirst k pid many opens opened → HasFirst k pid many later opened
keeps-first k pid many opens later opened keeps has = record {
  each = λ place held below at.
      let it = has.each place held below at in
      record {
        number = it.number;
        at = it.at;
        stands = keeps it.number held (own-files k pid place held at) it.stands;
      };
  places = has.places;
}

-- ---- one more

module _ (s : TracedState) (k pid place : ℕ) (held : Held) (r : Reply) (opens : Places)
    (granted : Opens s k held r opens) (opened : Opened) (at : slice_get (files_of k pid) place ≡ Some held)
    (below : place < most_open) where
  abbrev now : Opened
  now = with_handle opened place (Some granted.place)

  own : held.controller ≡ k
  own = own-files k pid place held at

  handle-same : length opened.handles ≡ most_open → handle_at now place ≡ Some granted.place
  unfolding handle_at with_handle
  handle-same places = get_or-set_same opened.handles place (Some granted.place) None (omega (arith, places, below))

  handle-other : (other : ℕ) → other ≢ place → handle_at now other ≡ handle_at opened other
  unfolding handle_at with_handle
  handle-other other apart = get_or-set_other opened.handles place other (Some granted.place) None apart

  new-places : length opened.handles ≡ most_open → length now.handles ≡ most_open
  unfolding with_handle
  new-places places = length-set opened.handles place (Some granted.place) ∙ places

  new-open : length opened.handles ≡ most_open → HasOpen opens now place held
  new-open places = record {
    number = granted.place;
    at = handle-same places;
    stands = own-stands k granted.place opens held own (new-stands s k held own r opens granted);
  }

  old-open : (other : ℕ) (h : Held) → other ≢ place → h.controller ≡ k → HasOpen s.opens opened other h
      → HasOpen opens now other h
  old-open other h apart mine old = record {
    number = old.number;
    at = handle-other other apart ∙ old.at;
    stands = own-stands k old.number opens h mine
        (old-stands s k held own r opens granted old.number h (own-at k old.number s.opens h mine old.stands));
  }

  pub one-more : HasFirst k pid place s.opens opened → HasFirst k pid (place + 1) opens now
  one-more has = record { each = each; places = new-places has.places }
    where
      each : (other : ℕ) (h : Held) → other < place + 1 → slice_get (files_of k pid) other ≡ Some h
          → HasOpen opens now other h
      each other h inside there = by (cases_eq other place)
        where
          by : (other ≡ place) ⊎ (other ≢ place) → HasOpen opens now other h
          by (inl same) =
              let held_same : held ≡ h =
              same_Some held h (sym at ∙ ap (slice_get (files_of k pid)) (sym same) ∙ there) in
              subst (λ (x : Held). HasOpen opens now other x) held_same
              (subst (λ (i : ℕ). HasOpen opens now i held) (sym same) (new-open has.places))
          by (inr apart) =
              old-open other h apart (own-files k pid other h there) (has.each other h (omega arith) there)
