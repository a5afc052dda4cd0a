use Rattle.std.proofs.Common.{rules, ◌≡◌, ◌<◌, ℕ, zero, suc, Some, IsSome, List, [], ◌∷◌, length, refl, sym, subst, ◌∙◌, ap, arith}
use Rattle.std.specs.List.{slice_get}
use Rattle.std.specs.Option.{option_copied}
use Rattle.std.proofs.lemmas.Grind.{common_steps}
use Rattle.pr_model.specs.Legal.{IsLegalEntry}
use Rattle.pr_model.specs.State.{TracedState}
use Rattle.pr_model.specs.declared.events.Entry.{Entry}
use Rattle.pr_hide.specs.Hidings.{hiders_of}
use Rattle.pr_hide.proofs.HistoryLemmas.{legal-at, walk-begins, walk-on}
use Rattle.pr_hide.proofs.hiding.strip_hidden.Goals as goal

some-at : (xs : List Entry) (i : ℕ) → i < length xs → IsSome (slice_get xs i)
some-at [] i within = absurd (omega arith)
some-at (x ∷ xs) zero within = refl
some-at (x ∷ xs) (suc i) within = some-at xs i (omega arith)

pub loop-i-init : goal.loop-i-init
loop-i-init c =
    let begins = walk-begins (hiders_of c.args.who.now) c.args.kern.state in (
      record {
        steps_are = c.new-steps.ensures.items ∙ begins.steps_are;
        remembers = c.new-past.ensures ∙ begins.remembers;
        hides = c.new-table.ensures ∙ begins.hides;
        state_is = begins.state_is;
      },
      omega arith,
      refl,
    )

pub unwrap-entry-requires : goal.unwrap-entry-requires
unwrap-entry-requires c =
    let history = c.args.history.now.entries in
    let within : c.loop-i.i < length history = omega (arith, c.len-i-end.ensures, c.loop-i-test.true) in
    let stands : IsSome (slice_get history c.loop-i.i) = some-at history c.loop-i.i within in
    let copied : IsSome (option_copied c.get.result) = rw c.get.ensures stands in
    first_of (search (rules, copied), grind (arith, common_steps, copied))

pub play_legal-requires-clause-legal : goal.play_legal-requires-clause-legal
play_legal-requires-clause-legal c =
    let history = c.args.history.now.entries in
    let there : c.get.result ≡ Some c.unwrap-entry.result = search rules in
    let here : slice_get history c.loop-i.i ≡ Some c.unwrap-entry.result.now =
    sym c.get.ensures ∙ ap option_copied there in
    subst (λ (s : TracedState). IsLegalEntry c.args.controllers s c.unwrap-entry.result.now)
    (sym c.loop-i.invariant.0.state_is)
    (legal-at c.args.controllers c.args.kern.state history c.loop-i.i c.unwrap-entry.result.now c.requires.legal here)

pub loop-i-preserved : goal.loop-i-preserved
loop-i-preserved c =
    let who = hiders_of c.args.who.now in
    let history = c.args.history.now.entries in
    let there : c.get.result ≡ Some c.unwrap-entry.result = search rules in
    let here : slice_get history c.loop-i.i ≡ Some c.unwrap-entry.result.now =
    sym c.get.ensures ∙ ap option_copied there in
    let places = c.in_ok-play_legal.ensures.places in
    let longer = c.in_ok-play_legal.ensures.history in
    let so_far = c.loop-i.invariant in (
      walk-on who c.args.kern.state history c.loop-i.i c.unwrap-entry.result.now here _ _ _ _ _ _ _ _ _ _ so_far.0
          c.machine.ensures c.in_ok-push_seen.ensures c.machine-in-loop-i.ensures c.in_ok-follow.ensures
          c.in_ok-remember.ensures c.in_ok-play_legal.ensures.state,
      omega (arith, longer, so_far.1),
      places ∙ so_far.2,
    )
