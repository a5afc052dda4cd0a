use Rattle.std.proofs.Common.{◌≤◌, ◌+◌, ◌*◌, ◌/◌, ◌%◌, ℕ, List, arith, refl, subst}
use Rattle.std.proofs.Math.Nat.{div-add-mod}
use Rattle.std.specs.Prelude.{IfNone, IfSome}
use Rattle.pr_pids.specs.Members.{HasNoneFrom, IsNextFrom}
use Rattle.pr_pids.proofs.BitLemmas.{bit-within}
use Rattle.pr_pids.proofs.WalkLemmas.{found-next, if-next-behind, if-none-behind, low-behind, low-each, none-before, none-here, none-left}
use Rattle.pr_pids.proofs.process_sets.ProcessSet.next_from.Goals as goal

-- no word has that id
pub returns-then-from-ge-WORDS-clause-none : goal.returns-then-from-ge-WORDS-clause-none
returns-then-from-ge-WORDS-clause-none c =
    subst (λ (words : List ℕ). HasNoneFrom words c.args.from) c.self.view_is
    (none-left c.self.inside.words c.args.from (c.args.from / 64) c.self.told c.if-from-ge-WORDS.true
    (none-before c.self.inside.words c.args.from))

-- its own word has one
pub returns-in-Some-clause-next : goal.returns-in-Some-clause-next
returns-in-Some-clause-next c =
    subst (λ (words : List ℕ). IsNextFrom words c.args.from (c.args.from / 64 * 64 + c.in-Some.bit)) c.self.view_is
    (found-next c.self.inside.words c.args.from (c.args.from / 64) (c.args.from % 64)
    (none-before c.self.inside.words c.args.from) (low-behind (c.args.from / 64) c.args.from refl)
    (λ other past there. low-each (c.args.from / 64) c.args.from other refl past there)
    c.in-Some.bit c.in-Some.ensures.behind c.in-Some.ensures.within c.in-Some.ensures.member c.in-Some.ensures.least)

-- it has none, and a word behind it has
pub returns-in-None-clause-next : goal.returns-in-None-clause-next
returns-in-None-clause-next c =
    let from : ℕ = c.args.from in
    let behind : from ≤ (from / 64 + 1) * 64 = let parts = div-add-mod from 64 in let less = bit-within from in
    omega arith in
    subst (λ (words : List ℕ). IfSome c.next_from_word.result (λ pid. IsNextFrom words from pid)) c.self.view_is
    (if-next-behind c.self.inside.words from (from / 64 + 1)
    (none-here c.self.inside.words from (from / 64) (from % 64)
    (none-before c.self.inside.words from) (low-behind (from / 64) from refl)
    (λ other past there. low-each (from / 64) from other refl past there) c.in-None.ensures.none)
    behind c.next_from_word.result c.next_from_word.ensures.next)

pub returns-in-None-clause-none : goal.returns-in-None-clause-none
returns-in-None-clause-none c =
    let from : ℕ = c.args.from in
    let behind : from ≤ (from / 64 + 1) * 64 = let parts = div-add-mod from 64 in let less = bit-within from in
    omega arith in
    subst (λ (words : List ℕ). IfNone c.next_from_word.result (HasNoneFrom words from)) c.self.view_is
    (if-none-behind c.self.inside.words from (from / 64 + 1)
    (none-here c.self.inside.words from (from / 64) (from % 64)
    (none-before c.self.inside.words from) (low-behind (from / 64) from refl)
    (λ other past there. low-each (from / 64) from other refl past there) c.in-None.ensures.none)
    behind c.next_from_word.result c.next_from_word.ensures.none)
