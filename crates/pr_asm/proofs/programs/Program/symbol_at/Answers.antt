use Rattle.std.proofs.Common.{◌≡◌, true, false, refl}
use Rattle.pr_asm.proofs.SymbolLemmas.{symbol_here, symbol_nowhere, symbol_somewhere}
use Rattle.pr_asm.proofs.programs.Program.symbol_at.Goals as goal

apart : true ≡ false → ⊥
apart e = cc

pub returns-clause-last : goal.returns-clause-last
returns-clause-last c =
    symbol_here c.args.pc c.labels.result.now c.args.self.now.labels c.in_ok-name.name.now c.in_ok-name.at
    c.in_ok-name.ensures.value c.labels.ensures.value

pub returns-clause-none : goal.returns-clause-none
returns-clause-none c = (
  λ none. absurd (apart none),
  λ above.
      absurd (symbol_somewhere c.args.pc c.labels.result.now c.args.self.now.labels c.in_ok-name.name.now
      c.in_ok-name.at c.in_ok-name.ensures.value c.labels.ensures.value above),
)

pub returns-in_err-name-clause-none : goal.returns-in_err-name-clause-none
returns-in_err-name-clause-none c =
    rw c.from_residual.ensures (
      λ none.
          symbol_nowhere c.args.pc c.labels.result.now c.args.self.now.labels c.in_err-name.ensures.value
          c.labels.ensures.value,
      λ above. refl,
    )
