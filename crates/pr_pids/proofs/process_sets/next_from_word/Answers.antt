use Rattle.std.proofs.Common.{◌≤◌, ◌<◌, ◌*◌, arith}
use Rattle.pr_pids.proofs.WalkLemmas.{found-next, none-here, none-left, passed}
use Rattle.pr_pids.proofs.process_sets.next_from_word.Goals as goal

-- no word is left that has an id
pub returns-in_default-clause-none : goal.returns-in_default-clause-none
returns-in_default-clause-none c =
    none-left c.args.words.now (c.args.from * 64) 64 c.told-words (omega arith)
    (passed c.args.words.now c.args.some (c.args.from * 64) c.loop-at.at 64 c.requires
    (omega arith) c.loop-at.invariant.1
    (λ i low high. c.in_default.ensures.none i low high))

-- the next word that may have one has
pub returns-in-Some-first_bit-clause-next : goal.returns-in-Some-first_bit-clause-next
returns-in-Some-first_bit-clause-next c =
    let begun : c.args.from ≤ c.loop-at.at = c.loop-at.invariant.0 in
    let behind : c.loop-at.at ≤ c.in-Some.word = c.in-Some.ensures.behind in
    let within : c.in-Some.word < 64 = c.in-Some.ensures.within in
    found-next c.args.words.now (c.args.from * 64) c.in-Some.word 0
    (passed c.args.words.now c.args.some (c.args.from * 64) c.loop-at.at c.in-Some.word c.requires
    (omega arith) c.loop-at.invariant.1
    (λ i low high. c.in-Some.ensures.least i low high))
    (omega arith) (λ other past there. omega arith)
    c.in-Some-first_bit.bit c.in-Some-first_bit.ensures.behind c.in-Some-first_bit.ensures.within
    c.in-Some-first_bit.ensures.member c.in-Some-first_bit.ensures.least

-- it has none
pub loop-at-preserved : goal.loop-at-preserved
loop-at-preserved c =
    let begun : c.args.from ≤ c.loop-at.at = c.loop-at.invariant.0 in
    let behind : c.loop-at.at ≤ c.in-Some.word = c.in-Some.ensures.behind in
    let within : c.in-Some.word < 64 = c.in-Some.ensures.within in (
      omega arith,
      λ other past under.
          none-here c.args.words.now (c.args.from * 64) c.in-Some.word 0
          (passed c.args.words.now c.args.some (c.args.from * 64) c.loop-at.at c.in-Some.word c.requires
          (omega arith) c.loop-at.invariant.1
          (λ i low high. c.in-Some.ensures.least i low high))
          (omega arith) (λ any above there. omega arith) c.in_default-first_bit.ensures.none other past under,
    )

pub returns-clause-none : goal.returns-clause-none
returns-clause-none c =
    none-left c.args.words.now (c.args.from * 64) c.loop-at.at c.told-words c.loop-at-test.false c.loop-at.invariant.1
