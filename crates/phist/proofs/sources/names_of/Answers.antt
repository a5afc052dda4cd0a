use Rattle.std.proofs.Common.{◌≡◌, ◌≤◌, IfOk, List, ℕ, Ok, Result, Err, length, sym, subst}
use Rattle.std.specs.List.{All}
use Rattle.pr_hist.specs.Names.{Names}
use Rattle.pr_hist.specs.News.{known_at_start}
use Rattle.pr_num.specs.Limits.{spawn_limit}
use Rattle.pr_num.specs.declared.memory.NoMemory.{NoMemory}
use Rattle.pr_scen.specs.Reading.{scenario_of}
use Rattle.pr_scen.specs.Scenarios.{IsWithinLimits, Scenario}
use Rattle.pr_text.specs.TextLines.{lines_of}
use Rattle.phist.proofs.LineLemmas.{programs-have-their-lines}
use Rattle.phist.specs.Sources.{HasItsLines, code_lines, listings_of, names_of}
use Rattle.phist.proofs.sources.names_of.Goals as goal

pub names_from-requires-clause-spawns : goal.names_from-requires-clause-spawns
names_from-requires-clause-spawns c =
    let limits = subst IsWithinLimits (sym c.scenario.view_is) c.requires.limits in
    subst (λ (spawns : List ℕ). length spawns ≤ spawn_limit) (sym c.as_slice.ensures.value) limits.spawns

pub returns-clause-names : goal.returns-clause-names
unfolding names_of
returns-clause-names c =
    let parts = c.scenario.inside in
    let text = c.args.text.now in
    let told = c.names_from.ensures in
    subst (λ (s : Scenario). IfOk c.names_from.result (λ names. names ≡ names_of s text)) c.scenario.view_is
    (subst (λ (spawns : List ℕ). IfOk c.names_from.result
    (λ names. names ≡ known_at_start (listings_of parts.programs.items (code_lines text)) spawns))
    c.as_slice.ensures.value told)

-- names that were made of a scenario have its programs, each with its own lines
have-lines : (result : Result Names NoMemory) (s : Scenario) (text : List ℕ)
    → IfOk result (λ names. names ≡ names_of s text) → scenario_of text ≡ Ok s
    → IfOk result (λ names. All (HasItsLines (lines_of text)) names.listings)
unfolding names_of
have-lines (Ok names) s text is read =
    subst (λ (n : Names). All (HasItsLines (lines_of text)) n.listings) (sym is)
    (programs-have-their-lines text s read)
have-lines (Err error) s text is read = tt

pub returns-clause-lines : goal.returns-clause-lines
returns-clause-lines c read =
    have-lines c.names_from.result c.args.scenario c.args.text.now (returns-clause-names c) read
