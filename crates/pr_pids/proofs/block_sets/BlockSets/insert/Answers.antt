use Rattle.std.proofs.Common.{◌≡◌, ◌||◌, ◌&&◌, ◌<◌, ◌*◌, ◌%◌, ◌^◌, ℕ, List, length, eqb, subst, sym, ap, ◌∙◌}
use Rattle.std.specs.Int.RustNames.{bit_or}
use Rattle.std.specs.Prelude.{slice_set}
use Rattle.std.proofs.lemmas.List.{get_or_default}
use Rattle.pr_pids.specs.Blocks.{has_block}
use Rattle.pr_pids.proofs.BlockLemmas.{block-inserted}
use Rattle.pr_pids.proofs.block_sets.BlockSets.insert.Goals as goal

pub returns : goal.returns
returns c = λ p b.
    let words : List ℕ = c.self.inside.words.items in
    let inside : c.args.pid < length words = subst (λ n. c.args.pid < n) (sym c.self.invariant) c.requires.pid in
    let read = c.index_mut.ensures.value ∙ get_or_default words c.args.pid _ 0 inside in
    subst (λ w. has_block (slice_set words c.args.pid (bit_or w ((1 * 2 ^ c.args.block) % 2 ^ 64))) p b
    ≡ (has_block words p b || (eqb p c.args.pid && eqb b c.args.block)))
    (sym read) (block-inserted words c.args.pid c.args.block p b inside c.requires.block)
    ∙ ap (λ (words : List ℕ). (has_block words p b || (eqb p c.args.pid && eqb b c.args.block))) c.self.view_is
