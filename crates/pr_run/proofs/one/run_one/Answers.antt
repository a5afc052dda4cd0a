use Rattle.std.proofs.Common.{◌≡◌, ◌≤◌, inl, ℕ, length, ap, subst, sym, ◌∙◌, arith}
use Rattle.pr_world.specs.Worlds.{WorldOf, goes_on, seen}
use Rattle.pr_run.proofs.OneLemmas.{full-is, has-places, is-full, moved-on, run-on, run-start, stood, stopped, stuck-ends, stuck-is, whatever}
use Rattle.pr_run.proofs.one.run_one.Goals as goal

pub loop-init : goal.loop-init
loop-init g c =
    let view = g.Q.Kernel.view in
    run-start (seen view c.args.world.now) c.entries-counter.result _
    (c.entries-counter.ensures.value ∙ ap (λ k. length (view k).history) c.kernel.ensures)

pub advance-requires : goal.advance-requires
advance-requires g c =
    let view = g.Q.Kernel.view in
    record {
      place = has-places (seen view c.args.world.now)
          (seen view c.loop.world) c.loop.counter c.entries-counter.result c.places-end.result
          (c.entries-counter.ensures.value ∙ ap (λ k. length (view k).history) c.kernel.ensures)
          (c.places-end.ensures ∙ ap (λ k. (view k).places) c.kernel-2.ensures) c.loop.auto.counter c.loop.invariant
          c.loop-test.true;
    }

pub returns-in_err-advance-clause-err : goal.returns-in_err-advance-clause-err
returns-in_err-advance-clause-err g c =
    let view = g.Q.Kernel.view in
    let full = c.places-end.ensures ∙ ap (λ k. (view k).places) c.kernel-2.ensures in
    let within : c.loop.counter ≤ c.places-end.result = omega (arith, c.loop-test.true) in
    let stop =
    stopped (seen view c.args.world.now)
    (seen view c.loop.world) c.loop.counter c.entries-counter.result c.places-end.result
    (c.entries-counter.ensures.value ∙ ap (λ k. length (view k).history) c.kernel.ensures) full c.loop.auto.counter
    c.loop.invariant (seen view c.advance.new.world) within c.in_err-advance.ensures.err in
    whatever c.from_residual.result _ stop

pub end-requires-clause-ended : goal.end-requires-clause-ended
end-requires-clause-ended g c =
    let view = g.Q.Kernel.view in
    let still =
    stood c.in_ok-advance.field-0 (seen view c.loop.world)
    (seen view c.advance.new.world) c.if-not-branch.true c.in_ok-advance.ensures.ok in
    ap goes_on still.0 ∙ stuck-ends (seen view c.loop.world) still.1

pub returns-then-not-branch-clause-told : goal.returns-then-not-branch-clause-told
returns-then-not-branch-clause-told g c =
    let view = g.Q.Kernel.view in
    let first = seen view c.args.world.now in
    let w = seen view c.loop.world in
    let still =
    stood c.in_ok-advance.field-0 w
    (seen view c.advance.new.world) c.if-not-branch.true c.in_ok-advance.ensures.ok in
    let within : c.loop.counter ≤ c.places-end.result = omega (arith, c.loop-test.true) in
    let over = stuck-is first w c.loop.counter c.entries-counter.result c.places-end.result
    (c.entries-counter.ensures.value ∙ ap (λ k. length (view k).history) c.kernel.ensures)
    (c.places-end.ensures ∙ ap (λ k. (view k).places) c.kernel-2.ensures) c.loop.auto.counter c.loop.invariant
    within still.1 in
    λ told. still.0 ∙ over told

pub loop-preserved : goal.loop-preserved
loop-preserved g c =
    let view = g.Q.Kernel.view in
    let first = seen view c.args.world.now in
    let from : length first.kernel.history ≤ c.loop.counter =
    subst (λ (n : ℕ). n ≤ c.loop.counter)
    (c.entries-counter.ensures.value ∙ ap (λ k. length (view k).history) c.kernel.ensures) c.loop.auto.counter in
    run-on first (seen view c.loop.world) (seen view c.advance.new.world) c.loop.counter
    (length first.kernel.history) from c.loop.invariant
    (moved-on c.in_ok-advance.field-0 (seen view c.loop.world)
    (seen view c.advance.new.world) c.if-not-branch.false c.in_ok-advance.ensures.ok)

-- the calls are made, and all else is as it was at the end of the loop
pub end-requires-2-clause-ended : goal.end-requires-2-clause-ended
end-requires-2-clause-ended g c =
    let view = g.Q.Kernel.view in
    ap (λ (w : WorldOf _). goes_on (seen view w)) c.in_ok-make_calls.ensures.made
    ∙ is-full (seen view c.args.world.now)
    (seen view c.loop.world) c.loop.counter c.entries-counter.result c.places-end.result
    (c.entries-counter.ensures.value ∙ ap (λ k. length (view k).history) c.kernel.ensures)
    (c.places-end.ensures ∙ ap (λ k. (view k).places) c.kernel-2.ensures) c.loop.auto.counter c.loop.invariant
    c.loop-test.false

pub returns-clause-told : goal.returns-clause-told
returns-clause-told g c =
    let view = g.Q.Kernel.view in
    let first = seen view c.args.world.now in
    let w = seen view c.loop.world in
    let full = c.places-end.ensures ∙ ap (λ k. (view k).places) c.kernel-2.ensures in
    let same : (view c.kernel.result.now).places ≡ c.places-end.result =
    ap (λ k. (view k).places) c.kernel.ensures ∙ sym full in
    let fits : c.entries-counter.result ≤ c.places-end.result = omega (arith, c.entries-counter.ensures.places, same) in
    let within = c.loop.auto.counter-end fits in
    let at : c.loop.counter ≡ c.places-end.result = omega (arith, c.loop-test.false, within) in
    let over = full-is first w c.loop.counter c.entries-counter.result c.places-end.result
    (c.entries-counter.ensures.value ∙ ap (λ k. length (view k).history) c.kernel.ensures) full c.loop.auto.counter
    c.loop.invariant at in
    λ told. ap (seen view) c.in_ok-make_calls.ensures.made ∙ over told

pub returns-in_err-make_calls-clause-err : goal.returns-in_err-make_calls-clause-err
returns-in_err-make_calls-clause-err g c =
    let view = g.Q.Kernel.view in
    let first = seen view c.args.world.now in
    let full = c.places-end.ensures ∙ ap (λ k. (view k).places) c.kernel-2.ensures in
    let same : (view c.kernel.result.now).places ≡ c.places-end.result =
    ap (λ k. (view k).places) c.kernel.ensures ∙ sym full in
    let fits : c.entries-counter.result ≤ c.places-end.result = omega (arith, c.entries-counter.ensures.places, same) in
    let stop = stopped first (seen view c.loop.world) c.loop.counter c.entries-counter.result c.places-end.result
    (c.entries-counter.ensures.value ∙ ap (λ k. length (view k).history) c.kernel.ensures) full c.loop.auto.counter
    c.loop.invariant
    (seen view c.make_calls.new.self) (c.loop.auto.counter-end fits)
    (inl (ap (seen view) c.in_err-make_calls.ensures.err)) in
    whatever c.from_residual-in_err-make_calls.result _ stop
