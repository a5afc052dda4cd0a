use Rattle.pr_watch.proofs.LawLemmas.{hit_in-least, hit_in-none, none-hit_in}
use Rattle.pr_watch.proofs.laws.a_hit_is_the_least_watched_byte.Goals as goal

pub returns-clause-found : goal.returns-clause-found
returns-clause-found c kind address size byte after areas within hit =
    hit_in-least kind address size byte after areas within hit

pub returns-clause-none : goal.returns-clause-none
returns-clause-none c kind address size areas within =
    (hit_in-none kind address size areas within, none-hit_in kind address size areas within)
