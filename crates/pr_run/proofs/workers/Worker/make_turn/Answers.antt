use Rattle.std.proofs.Common.{◌≡◌, ◌≤◌, ◌∙◌, sym, ap, length, refl, arith}
use Rattle.pr_world.specs.Worlds.{WorldOf, seen}
use Rattle.pr_run.proofs.ManyLemmas.{full-done, next-moves}
use Rattle.pr_run.proofs.workers.Worker.make_turn.Goals as goal

pub turn-requires-clause-acts : goal.turn-requires-clause-acts
turn-requires-clause-acts g c =
    let view = g.Q.Kernel.view in
    (next-moves c.args.self.processors c.args.self.number c.args.last.now
    (seen view c.make_calls.new.self) c.in-Some.actor (sym c.next.ensures ∙ c.in-Some.is)).acts

pub returns-then-entries-places-clause-ok : goal.returns-then-entries-places-clause-ok
returns-then-entries-places-clause-ok g c =
    let view = g.Q.Kernel.view in
    let w = c.args.world.now in
    let same = c.in_ok-make_calls.ensures.made in
    let entries : c.entries.result ≡ length (view w.kernel).history =
    c.entries.ensures.value ∙ ap (λ k. length (view k).history) c.kernel.ensures
    ∙ ap (λ (u : WorldOf _). length (view u.kernel).history) same in
    let places : c.places.result ≡ (view w.kernel).places =
    c.places.ensures ∙ ap (λ k. (view k).places) c.kernel-2.ensures
    ∙ ap (λ (u : WorldOf _). (view u.kernel).places) same in
    let full : (view w.kernel).places ≤ length (view w.kernel).history =
    omega (arith, entries, places, c.if-entries-places.true) in (
      record { world = ap (seen view) same; last = refl },
      full-done (seen view w) c.args.self.processors c.args.self.number full,
    )
