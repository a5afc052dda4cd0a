use Rattle.std.specs.Prelude.{◌≡◌, ◌≢◌, ℕ, ◌≤◌, List, Option, Result, Err, OnOk, IsErrOf}
use Rattle.pr_io.specs.Faults.{Rose}
use Rattle.pr_io.specs.Known.{with_end}
use Rattle.pr_io.specs.Writing.{AppendsFront}
use Rattle.pr_output.specs.declared.cuts.Cut.{Cut}
use Rattle.pr_output.specs.declared.cuts.Cut.TheVariants.{WriteFailed, NoMemory}
use Rattle.pr_output.specs.Output.{AppendsSome}

-- What came of putting a text into a sink, of which the bytes and the count of faults are known before and after:
-- all of the text is there; or a write failed, the count rose, and a prefix of the text is there that lacks some bytes;
-- or memory ran out, and a prefix is there. Only a write that failed raises the count.
pub record Puts (result : Result Unit Cut) (old new : Option (List ℕ)) (before after : ℕ) (text : List ℕ) : Type 0 where
  pub all : OnOk result (new ≡ with_end old text)
  pub failed : IsErrOf result WriteFailed → AppendsFront old new text
  pub rose : IsErrOf result WriteFailed → Rose before after
  pub memory : IsErrOf result NoMemory → AppendsSome old new text
  pub no_fault : result ≢ Err WriteFailed → after ≡ before
  pub never_falls : before ≤ after
