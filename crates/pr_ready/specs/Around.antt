use Rattle.std.specs.Prelude.{◌==◌, ◌||◌, ℕ, Bool, false, Option, Some, None}
use Rattle.std.specs.Option.{option_map, option_and_then}
use Rattle.pr_model.specs.Lives.{is_id}
use Rattle.pr_model.specs.State.{TracedProcess, TracedSystem, process_of}
use Rattle.pr_ready.specs.declared.around.Around.{Around}
use Rattle.pr_ready.specs.declared.around.Kin.{Kin}

-- The processes around one, as they are noted before a step.

-- the parent of a process, its lender and its borrower
abbrev pub kin : TracedProcess → Kin
kin p = record { parent = p.parent; lender = p.lender; borrower = p.borrower }

abbrev pub is_in_kin : Kin → ℕ → Bool
is_in_kin k other = (k.parent == other) || (is_id other k.lender || is_id other k.borrower)

abbrev pub is_in_kin_of : Option Kin → ℕ → Bool
is_in_kin_of None other = false
is_in_kin_of (Some k) other = is_in_kin k other

-- whether an id is one of those noted: that of a process that is made, of one around a process, or of a target or of
-- one around that
unfoldable pub is_around : Around → ℕ → Bool
is_around a other =
    is_id other a.made || (is_in_kin_of a.kin other || (is_id other a.target || is_in_kin_of a.target_kin other))

-- what is noted of a process that is made, if one is, of one whose kin is noted, and of a target
abbrev pub target_kin : TracedSystem → Option ℕ → Option Kin
target_kin s None = None
target_kin s (Some target) = option_map kin (process_of s target)

unfoldable pub around_of : TracedSystem → Option ℕ → Option TracedProcess → Option ℕ → Around
around_of s made p target = record {
  made = made;
  kin = option_map kin p;
  target = target;
  target_kin = target_kin s target;
}
