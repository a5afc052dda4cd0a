use Rattle.std.proofs.Common.{ℕ, List}
use Rattle.pr_keeps.proofs.KeptHistories.{AnyEntry, AnyState, KeepsEach, act-keeps, any-history}
use Rattle.pr_model.specs.Lawful.{IsLawful}
use Rattle.pr_model.specs.Legal.{IsLegal, IsLegalEntry, after, state_after}
use Rattle.pr_model.specs.State.{TracedState}
use Rattle.pr_model.specs.declared.events.Entry.{Entry}
use Rattle.pr_lawful.proofs.LawfulStates.CallLemmas.{edited-state, tick-state}
use Rattle.pr_lawful.proofs.LawfulStates.StateLemmas.{turn-state}

-- Every state of a legal history from a lawful one is lawful.

each-state : (n : ℕ) → KeepsEach n AnyState AnyEntry IsLawful
each-state n = record {
  call = λ s by c r t before such e h. edited-state s h by c t e;
  turn = λ s pid id t before such turn h. turn-state s pid id t h turn;
  tick = λ s before below h. tick-state s h;
}

pub entry-state : (n : ℕ) (s : TracedState) (e : Entry) → IsLawful s → IsLegalEntry n s e → IsLawful (after s e)
entry-state n s e h legal = act-keeps n AnyState AnyEntry IsLawful (each-state n) s e.actor e.act tt tt legal h

pub history-state : (n : ℕ) (s : TracedState) (h : List Entry) → IsLawful s → IsLegal n s h → IsLawful (state_after s h)
history-state n s h lawful legal = any-history n IsLawful (each-state n) s h legal lawful
