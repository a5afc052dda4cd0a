use Rattle.std.proofs.Common.{◌≡◌, [], ◌∷◌, ℕ, length, map, sym, ap, ◌∙◌, arith, length-append}
use Rattle.std.proofs.lemmas.List.{map-append}
use Rattle.pr_tools.specs.Entries.{entries_from}
use Rattle.pr_tools.proofs.EntryLemmas.{before, before-none, before-last, entries-fail, entries-on}
use Rattle.pr_tools.proofs.entries.entries_from.Goals as goal

pub returns-in-None-clause-value : goal.returns-in-None-clause-value
returns-in-None-clause-value g c =
    sym (c.loop-left.invariant.0
    ∙ entries-fail g.R.Record.ranges c.loop-left.left c.loop-left.rest.now
    (map g.R.Record.words c.loop-left.entries.items) (omega arith) c.in-None.ensures)

pub loop-left-init : goal.loop-left-init
loop-left-init g c =
    let none = c.new-entries.ensures.items in
    let whole = entries_from g.R.Record.ranges c.args.count c.args.bytes.now in
    (before-none whole ∙ ap (λ xs. before (map g.R.Record.words xs) whole) (sym none), omega (arith, ap length none))

pub loop-left-preserved : goal.loop-left-preserved
loop-left-preserved g c =
    let items = c.loop-left.entries.items in
    let words = map g.R.Record.words items in (
      c.loop-left.invariant.0
          ∙ entries-on g.R.Record.ranges c.loop-left.left c.loop-left.rest.now c.behind-rest.result.now words
          (map g.R.Record.words c.push.new.self.items) (g.R.Record.words c.in-Some.entry) c.size.result
          (omega arith) c.in-Some.ensures c.size.ensures.value c.behind-rest.ensures
          (ap (map g.R.Record.words) c.in_ok-push-in-Some.ensures.items
          ∙ map-append g.R.Record.words items (c.in-Some.entry ∷ [])),
      omega (
        arith,
        ap length c.in_ok-push-in-Some.ensures.items,
        length-append items (c.in-Some.entry ∷ []),
        c.loop-left.invariant.1,
      ),
    )

pub returns-clause-value : goal.returns-clause-value
returns-clause-value g c =
    let none : c.loop-left.left ≡ 0 = omega arith in
    let words = map g.R.Record.words c.loop-left.entries.items in
    sym (c.loop-left.invariant.0
    ∙ ap (λ (k : ℕ). before words (entries_from g.R.Record.ranges k c.loop-left.rest.now)) none
    ∙ before-last g.R.Record.ranges words c.loop-left.rest.now)
