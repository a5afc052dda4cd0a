use Rattle.std.proofs.Common.{inr}
use Rattle.own_tracer.proofs.telling.read.Goals as goal

-- memory ran out behind the reading
pub returns-clause-unread : goal.returns-clause-unread
returns-clause-unread g c = (
  inr (record {
    text = c.in_ok-text.text;
    all = c.in_ok-text.ensures.all;
    within = c.in_ok-text.ensures.within;
  }),
  c.in_ok-text.ensures.no_fault,
)
