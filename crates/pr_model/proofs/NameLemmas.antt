-- The names of files, of the ways to open them, and of tools are told from one another.
use Rattle.std.proofs.Common.{◌≡◌, ◌≢◌, ℕ, Some, None, List, refl, sym, ◌∙◌, ap}
use Rattle.std.proofs.lemmas.Option.{none-some}
use Rattle.std.proofs.lemmas.Slice.Eq.{bytes_eq-Decides}
use Rattle.pr_num.proofs.SearchLemmas.{find-passes}
use Rattle.pr_model.specs.declared.calls.File.{File}
use Rattle.pr_model.specs.declared.calls.File.TheVariants.{Ctl}
use Rattle.pr_model.specs.declared.calls.Mode.{Mode}
use Rattle.pr_model.specs.declared.calls.Mode.TheVariants.{Read}
use Rattle.pr_model.specs.FileNames.{files, file_name, is_file_named, file_of_name, modes, mode_name, is_mode_named, mode_of_name}

-- ---- files

pub file_of_name-name : (f : File) → file_of_name (file_name f) ≡ Some f
unfolding file_of_name file_name
file_of_name-name Ctl = refl
file_of_name-name _ = refl

pub file_name-of_name : (bytes : List ℕ) (f : File) → file_of_name bytes ≡ Some f → bytes ≡ file_name f
unfolding file_of_name
file_name-of_name bytes f e = (bytes_eq-Decides bytes (file_name f)).0 (find-passes (is_file_named bytes) files f e)

pub file_name-none : (bytes : List ℕ) (f : File) → file_of_name bytes ≡ None → bytes ≢ file_name f
file_name-none bytes f none same = none-some f (sym none ∙ ap file_of_name same ∙ file_of_name-name f)

-- ---- modes

pub mode_of_name-name : (m : Mode) → mode_of_name (mode_name m) ≡ Some m
unfolding mode_of_name mode_name
mode_of_name-name Read = refl
mode_of_name-name _ = refl

pub mode_name-of_name : (bytes : List ℕ) (m : Mode) → mode_of_name bytes ≡ Some m → bytes ≡ mode_name m
unfolding mode_of_name
mode_name-of_name bytes m e = (bytes_eq-Decides bytes (mode_name m)).0 (find-passes (is_mode_named bytes) modes m e)

pub mode_name-none : (bytes : List ℕ) (m : Mode) → mode_of_name bytes ≡ None → bytes ≢ mode_name m
mode_name-none bytes m none same = none-some m (sym none ∙ ap mode_of_name same ∙ mode_of_name-name m)

pub ruleset names_of_files =
    (file_of_name-name, file_name-of_name, file_name-none, mode_of_name-name, mode_name-of_name, mode_name-none)
