use Rattle.std.proofs.Common.{◌≡◌, ℕ, refl, ap, ◌∙◌}
use Rattle.pr_line.specs.declared.options.Options.{Options}
use Rattle.pr_report_laws.proofs.Asking.AskedLaws.{what-traces}
use Rattle.pr_report_laws.specs.Asked.{TracesWhatIsAsked}
use Rattle.pr_truss.specs.FunctionCalls.{with_copying}
use Rattle.pr_truss.specs.Messages.{traced_entries, traced_exits, with_forks}
use Rattle.pr_function_laws.specs.SentSets.{TracesItsWords, and_copying}

-- The calls that truss with calls of functions has traced are those of its options, and those that copy or replace the
-- memory.

copying-is : (calls : ℕ) → with_copying calls ≡ and_copying calls
unfolding with_copying with_forks
copying-is calls = refl

pub traces-its-words : (o : Options) → TracesItsWords o
traces-its-words o =
    let w : TracesWhatIsAsked o = what-traces o in
    record {
      entries = copying-is (traced_entries o) ∙ ap and_copying w.entries;
      exits = λ off. copying-is (traced_exits o) ∙ ap and_copying (w.exits off);
    }
