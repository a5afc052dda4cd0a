-- What entries tell of a process: which program it runs from then on, and that it moved.
use Rattle.std.specs.Prelude.{◌≡◌, ◌<◌, ◌&&◌, not, ℕ, Bool, true, Option, Some, None, List, [], ◌∷◌, ◌++◌, length}
use Rattle.pr_num.specs.ById.{under}
use Rattle.pr_num.specs.declared.syscalls.Sysno.TheVariants.{Exec, Fork, Vfork}
use Rattle.pr_model.specs.declared.calls.Call.TheVariants as call
use Rattle.pr_model.specs.declared.calls.File.TheVariants.{Psinfo}
use Rattle.pr_model.specs.declared.calls.Mode.{Mode}
use Rattle.pr_model.specs.declared.calls.Reply.TheVariants as reply
use Rattle.pr_model.specs.declared.events.Act.TheVariants as act
use Rattle.pr_model.specs.declared.events.Actor.TheVariants.{Lwp}
use Rattle.pr_model.specs.declared.events.Did.TheVariants.{Made}
use Rattle.pr_model.specs.declared.events.Entry.{Entry}
use Rattle.pr_model.specs.declared.events.Res.TheVariants.{Value}
use Rattle.pr_hist.specs.Lanes.{is_lwp_of}
use Rattle.pr_hist.specs.Listings.{listed_at}
use Rattle.pr_hist.specs.Names.{Names}
use Rattle.pr_hist.specs.News.{name_shown}

-- ---- which program it runs

-- An entry before which this is known tells that a process runs the program whose listing has this place from then on;
-- or one that has no listing, or is not known. A row a way.
pub data TellsProgram (names : Names) (e : Entry) (p : ℕ) (place : Option ℕ) : Type 0 where
  -- a controller made it, of a program that it names
  made : (program : List ℕ) (held : Bool) → e.act ≡ act.Call (call.Spawn program held) (reply.Pid p)
      → place ≡ listed_at names.listings program → TellsProgram names e p place
  -- a fork of its parent was granted, and gave its id: it runs what the parent runs
  forked : (parent l : ℕ) (stop : Bool) → p < 4294967296
      → e ≡ record { actor = Lwp parent l; act = act.Turn (record { did = Made Fork (Value p); stop = stop }) }
      → place ≡ under parent names.running → TellsProgram names e p place
  -- or a vfork
  vforked : (parent l : ℕ) (stop : Bool) → p < 4294967296
      → e ≡ record { actor = Lwp parent l; act = act.Turn (record { did = Made Vfork (Value p); stop = stop }) }
      → place ≡ under parent names.running → TellsProgram names e p place
  -- an exec of it was granted: the turn does not tell which program it runs now
  began_another : (l v : ℕ) (stop : Bool)
      → e ≡ record { actor = Lwp p l; act = act.Turn (record { did = Made Exec (Value v); stop = stop }) }
      → place ≡ None → TellsProgram names e p place
  -- a read of its psinfo gave the bytes that have the name of its program
  shown : (h at len lwp : ℕ) (mode : Mode) (bytes name : List ℕ)
      → e.act ≡ act.Call (call.Read h at len) (reply.Bytes bytes)
      → under h names.handles ≡ Some (record { pid = p; lwp = lwp; file = Psinfo; mode = mode })
      → name_shown at bytes ≡ Some name → place ≡ listed_at names.listings name → TellsProgram names e p place

-- ---- when it moved

unfoldable pub none_moves : ℕ → List Entry → Bool
none_moves p [] = true
none_moves p (e ∷ es) = not (is_lwp_of p e.actor) && none_moves p es

-- The entry of this number is of an lwp of the process, and none behind it is. Entries count from 0.
pub record LastMovedIn (p number : ℕ) (es : List Entry) : Type 0 where
  pub before : List Entry
  pub entry : Entry
  pub behind : List Entry
  pub are : es ≡ before ++ entry ∷ behind
  pub counts : number ≡ length before
  pub is : is_lwp_of p entry.actor ≡ true
  pub left : none_moves p behind ≡ true
