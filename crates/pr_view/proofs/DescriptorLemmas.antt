use Rattle.std.proofs.Common.{◌≡◌, ℕ, zero, suc, ◌+◌, ◌≤◌, Option, Some, None, List, [], ◌∷◌, ◌++◌, length, drop, option_map, refl, sym, ap, ◌∙◌, append_assoc, arith}
use Rattle.std.specs.List.{slice_get}
use Rattle.std.specs.Option.{option_flatten}
use Rattle.std.proofs.lemmas.List.{append-nil, drop_all}
use Rattle.pr_num.specs.Files.{FileTable, Descriptors}
use Rattle.pr_num.specs.declared.files.OpenFile.{OpenFile}
use Rattle.pr_parts.specs.FileTables.{at_place, open_of, open_with_place}
use Rattle.pr_model.specs.Records.{fd_entries_from, fd_entry_before, fd_entry_of}
use Rattle.pr_rec.specs.declared.entries.FdEntry.{FdEntry}

-- A walk over the descriptors of a process.

opened : FileTable → Option ℕ → Option OpenFile
opened t place = option_map (λ (found : ℕ × OpenFile). found.1) (open_with_place t place)

here : (t : FileTable) (fd : ℕ) (x : Option ℕ) (fds : Descriptors)
    → fd_entries_from t fd (x ∷ fds) ≡ fd_entry_before t fd (opened t x) (fd_entries_from t (fd + 1) fds)
unfolding opened
here t fd None fds = refl
here t fd (Some place) fds = of (at_place t.opens place)
  where
    of : (o : Option OpenFile)
        → fd_entry_before t fd o (fd_entries_from t (fd + 1) fds)
        ≡ fd_entry_before t fd (option_map (λ (found : ℕ × OpenFile). found.1) (option_map (λ o. (place, o)) o))
        (fd_entries_from t (fd + 1) fds)
    of None = refl
    of (Some o) = refl

step : (t : FileTable) (fd : ℕ) (fds : Descriptors) (i : ℕ)
    → fd_entries_from t fd (drop i fds)
    ≡ fd_entry_before t fd (opened t (option_flatten (slice_get fds i))) (fd_entries_from t (fd + 1) (drop (i + 1) fds))
unfolding opened
step t fd [] zero = refl
step t fd [] (suc i) = let e : suc i + 1 ≡ suc (i + 1) = omega arith in rw e refl
step t fd (x ∷ fds) zero = here t fd x fds
step t fd (x ∷ fds) (suc i) = let e : suc i + 1 ≡ suc (i + 1) = omega arith in rw e (step t fd fds i)

module _ (t : FileTable) (fds : Descriptors) (fd : ℕ) (out all : List FdEntry) where
  so_far-before : out ++ fd_entries_from t fd (drop fd fds) ≡ all
      → out ++ fd_entry_before t fd (option_map (λ (found : ℕ × OpenFile). found.1) (open_of t fds fd))
      (fd_entries_from t (fd + 1) (drop (fd + 1) fds)) ≡ all
  unfolding open_of opened
  so_far-before so_far = ap (λ es. out ++ es) (sym (step t fd fds fd)) ∙ so_far

  pub entry-on : (o : OpenFile) → option_map (λ (found : ℕ × OpenFile). found.1) (open_of t fds fd) ≡ Some o
      → out ++ fd_entries_from t fd (drop fd fds) ≡ all
      → (out ++ fd_entry_of t fd o ∷ []) ++ fd_entries_from t (fd + 1) (drop (fd + 1) fds) ≡ all
  entry-on o found so_far =
      append_assoc out (fd_entry_of t fd o ∷ []) (fd_entries_from t (fd + 1) (drop (fd + 1) fds))
      ∙ sym (ap (λ x. out ++ fd_entry_before t fd x (fd_entries_from t (fd + 1) (drop (fd + 1) fds))) found)
      ∙ so_far-before so_far

  pub entry-past : option_map (λ (found : ℕ × OpenFile). found.1) (open_of t fds fd) ≡ None
      → out ++ fd_entries_from t fd (drop fd fds) ≡ all → out ++ fd_entries_from t (fd + 1) (drop (fd + 1) fds) ≡ all
  entry-past none so_far =
      sym (ap (λ x. out ++ fd_entry_before t fd x (fd_entries_from t (fd + 1) (drop (fd + 1) fds))) none)
      ∙ so_far-before so_far

  pub entry-end : length fds ≤ fd → out ++ fd_entries_from t fd (drop fd fds) ≡ all → out ≡ all
  entry-end past so_far =
      sym (append-nil out) ∙ sym (ap (λ es. out ++ fd_entries_from t fd es) (drop_all fd fds past)) ∙ so_far

pub ruleset descriptor_laws = (entry-on, entry-past, entry-end)
