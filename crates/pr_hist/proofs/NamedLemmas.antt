-- What stands under an id once something was named so.
use Rattle.std.proofs.Common.{◌≡◌, ◌≢◌, ℕ, Some, is_some, List, ap, ◌∙◌, arith}
use Rattle.pr_num.specs.ById.{IsRising, under, without_id}
use Rattle.pr_num.proofs.ByIdLaws.{under-inserted, under-inserted_other, under-without_id, under-without_id_other}
use Rattle.pr_num.proofs.ByIdLemmas.{rises_from-inserted, rises_from-without_id}
use Rattle.pr_hist.specs.Names.{named}

pub named-own : {X : Type 0} (id : ℕ) (x : X) (es : List (ℕ × X)) → under id (named id x es) ≡ Some x
unfolding named
named-own id x es = under-inserted id x (without_id id es)

pub named-other : {X : Type 0} (id other : ℕ) (x : X) (es : List (ℕ × X)) → id ≢ other
    → under other (named id x es) ≡ under other es
unfolding named
named-other id other x es apart =
    under-inserted_other id other x apart (without_id id es) ∙ under-without_id_other id other apart es

pub named-rises : {X : Type 0} (id : ℕ) (x : X) (es : List (ℕ × X)) → IsRising es → IsRising (named id x es)
unfolding named
named-rises id x es rises =
    rises_from-inserted 0 id x (without_id id es) (omega arith) (rises_from-without_id 0 id es rises)
    (ap is_some (under-without_id 0 id es rises))
