-- What a line that begins a block tells of what stands above it.
use Rattle.std.proofs.Common.{◌≡◌, ℕ, ◌<◌, Bool, true, false, cond, Option, Some, None, is_some, List, length, nat_lt, Result, Ok, Err, refl}
use Rattle.pr_num.specs.Limits.{program_limit}
use borrow.Author.Tests.{ltb-true}
use Rattle.pr_scen.specs.Drafts.{may_begin}
use Rattle.pr_scen.specs.Names.{place_of}
use Rattle.pr_scen.specs.declared.drafts.Draft.{Draft}
use Rattle.pr_scen.specs.declared.items.Item.TheVariants.{Program}
use Rattle.pr_scen.specs.declared.refusals.ScenKind.{ScenKind}
use Rattle.pr_scen.specs.declared.refusals.ScenKind.TheVariants.{Double, TooMany}

-- where neither of two tests refuses, neither holds
fresh_at : (o : Option ℕ) (r : Result (Unit {0}) ScenKind) → cond (is_some o) (Err Double) r ≡ Ok tt → o ≡ None
fresh_at None r e = refl
fresh_at (Some place) r e = cc

abbrev pub may : Bool → Bool → Result (Unit {0}) ScenKind
may a b = cond a (Err Double) (cond b (Ok tt) (Err TooMany))

pub room_after : (a b : Bool) → may a b ≡ Ok tt → b ≡ true
room_after true b e = cc
room_after false true e = refl
room_after false false e = cc

-- a program that may begin has a name of its own, and there is room for it
pub fresh_program : (d : Draft) (name : List ℕ) → may_begin d (Program name) ≡ Ok tt
    → place_of d.program_names name ≡ None
unfolding may_begin
fresh_program d name e = fresh_at (place_of d.program_names name) _ e

pub few_programs : (d : Draft) (name : List ℕ) → may_begin d (Program name) ≡ Ok tt
    → length d.program_names < program_limit
unfolding may_begin
few_programs d name e =
    ltb-true _ _
    (room_after (is_some (place_of d.program_names name)) (nat_lt (length d.program_names) program_limit) e)

pub ruleset may_laws = (fresh_program, few_programs)
