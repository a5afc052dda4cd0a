use Rattle.std.proofs.Common.{◌/◌, ◌≤◌, ap, refl, sym, subst, ◌∙◌, arith, inl, inr}
use Rattle.std.specs.Prelude.{slice_index}
use Rattle.std.proofs.lemmas.Bool.{cases_eq}
use Rattle.pr_ready.proofs.TickLemmas.{block-inside}
use Rattle.pr_ready.proofs.ticks.renew_blocks.Goals as goal

pub loop-block-init : goal.loop-block-init
loop-block-init g c = record {
  looked = λ pid less due said. absurd (omega arith);
  next = λ pid moment less due wakes. absurd (omega arith);
  others = λ other behind. refl;
  grows = λ other has. has;
}

pub loop-block-preserved : goal.loop-block-preserved
loop-block-preserved g c = record {
  looked = λ pid less due said. elim (cases_eq (pid / 64) c.loop-block.block) [
    | inl same ↦
        c.renew_block.ensures.looked pid same
        (subst (λ n. n ≤ c.args.sys.now.clock)
        (ap (slice_index c.args.blocks.now) same ∙ sym (c.loop-block.invariant.others c.loop-block.block (omega arith)))
        due) said
    | inr apart ↦
        c.renew_block.ensures.grows pid (c.loop-block.invariant.looked pid (omega arith) due said)
  ];
  next = λ pid moment less due wakes. elim (cases_eq (pid / 64) c.loop-block.block) [
    | inl same ↦
        subst (λ n. n ≤ moment) (sym (ap (slice_index c.renew_block.new.blocks) same))
        (c.renew_block.ensures.next pid moment same
        (subst (λ n. n ≤ moment)
        (ap (slice_index c.args.blocks.now) same ∙ sym (c.loop-block.invariant.others c.loop-block.block (omega arith)))
        due) wakes)
    | inr apart ↦
        subst (λ n. n ≤ moment) (sym (c.renew_block.ensures.others (pid / 64) apart))
        (c.loop-block.invariant.next pid moment (omega arith) due wakes)
  ];
  others = λ other behind.
      c.renew_block.ensures.others other (λ same. absurd (omega arith))
      ∙ c.loop-block.invariant.others other (omega arith);
  grows = λ other has. c.renew_block.ensures.grows other (c.loop-block.invariant.grows other has);
}

pub returns : goal.returns
returns g c = record {
  looked = λ pid small due said.
      c.loop-block.invariant.looked pid (let less = block-inside pid small in omega arith) due said;
  next = λ pid moment small due wakes.
      c.loop-block.invariant.next pid moment (let less = block-inside pid small in omega arith) due wakes;
  grows = c.loop-block.invariant.grows;
}
