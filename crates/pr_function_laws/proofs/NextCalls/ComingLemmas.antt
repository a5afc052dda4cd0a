use Rattle.std.proofs.Common.{◌≡◌, ◌≢◌, ◌<◌, ◌≤◌, ◌+◌, ◌++◌, ℕ, zero, suc, Bool, true, false, cond, nat_lt, Some, None, List, [], ◌∷◌, length, refl, sym, subst, ap, ◌∙◌, append_assoc, arith}
use Rattle.std.proofs.lemmas.Bool.{ltb-true, ltb-false}
use Rattle.std.proofs.lemmas.List.{append-nil}
use Rattle.std.proofs.lemmas.Option.{none-some, same_Some}
use Rattle.std.specs.List.{position_or_len, slice_set}
use Rattle.pr_model.specs.declared.calls.Call.{Call}
use Rattle.pr_model.specs.declared.calls.Reply.{Reply}
use Rattle.pr_model.specs.declared.calls.Reply.TheVariants as reply
use Rattle.pr_num.specs.declared.errnos.Errno.TheVariants.{Noent}
use Rattle.pr_truss.specs.Marks.{first_function, is_in, no_functions, without_function}
use Rattle.pr_truss.specs.Replies.{answer_of}
use Rattle.pr_truss.specs.declared.replies.Answer.TheVariants.{Gone}
use Rattle.pr_truss_laws.specs.Exchanges.{Exchange}
use Rattle.pr_function_laws.specs.Coming.{Anything, ComeWhileItLives, IfEnded, Later, functions_from, functions_in}

-- Which calls come next, and the functions of a set one after another.

-- ---- by a reply

pub if-ended : (r : Reply) (A B : Type 0) → (answer_of r ≡ Gone → A) → (answer_of r ≢ Gone → B) → IfEnded r A B
unfolding answer_of
if-ended (reply.Fail Noent) A B ended lives = ended refl
if-ended _ A B ended lives = lives (λ is. cc)

if-weaker : (r : Reply) (A B C : Type 0) → (B → C) → IfEnded r A B → IfEnded r A C
if-weaker (reply.Fail Noent) A B C f w = w
if-weaker _ A B C f w = f w

-- ---- one list of calls behind another

pub come-both : (cs ds : List Call) (Then Ended : Later) (xs : List Exchange)
    → ComeWhileItLives cs (ComeWhileItLives ds Then Ended) Ended xs → ComeWhileItLives (cs ++ ds) Then Ended xs
come-both [] ds Then Ended xs w = w
come-both (c ∷ cs) ds Then Ended [] w = tt
come-both (c ∷ cs) ds Then Ended (x ∷ xs) w =
    (w.0, if-weaker x.reply (Ended xs) _ _ (come-both cs ds Then Ended xs) w.1)

pub come-weaker : (cs : List Call) (P Q Ended : Later) (xs : List Exchange) → ((ys : List Exchange) → P ys → Q ys)
    → ComeWhileItLives cs P Ended xs → ComeWhileItLives cs Q Ended xs
come-weaker [] P Q Ended xs f w = f xs w
come-weaker (c ∷ cs) P Q Ended [] f w = tt
come-weaker (c ∷ cs) P Q Ended (x ∷ xs) f w =
    (w.0, if-weaker x.reply (Ended xs) _ _ (come-weaker cs P Q Ended xs f) w.1)

-- three lists, one behind another
pub come-three : (cs ds es : List Call) (Ended : Later) (xs : List Exchange)
    → ComeWhileItLives (cs ++ (ds ++ [])) (ComeWhileItLives es Anything Ended) Ended xs
    → ComeWhileItLives (cs ++ (ds ++ es)) Anything Ended xs
come-three cs ds es Ended xs w =
    subst (λ fs. ComeWhileItLives fs Anything Ended xs) (append_assoc cs ds es)
    (come-both (cs ++ ds) es Anything Ended xs
    (subst (λ fs. ComeWhileItLives (cs ++ fs) (ComeWhileItLives es Anything Ended) Ended xs) (append-nil ds) w))

-- ---- the functions of a set

from-first : (set : List Bool) (n f : ℕ) → position_or_len is_in set ≡ f → f < length set
    → functions_from n set ≡ (n + f) ∷ functions_from n (slice_set set f false)
from-first [] n f at within = absurd (omega (arith, within))
from-first (true ∷ set) n zero at within =
    let e : n ≡ n + 0 = omega arith in ap (λ m. m ∷ functions_from (n + 1) set) e
from-first (true ∷ set) n (suc f) at within = absurd (omega (arith, at))
from-first (false ∷ set) n zero at within = absurd (omega (arith, at))
from-first (false ∷ set) n (suc f) at within =
    let e : (n + 1) + f ≡ n + suc f = omega arith in
    from-first set (n + 1) f (omega (arith, at)) (omega (arith, within))
    ∙ ap (λ m. m ∷ functions_from (n + 1) (slice_set set f false)) e

from-none : (set : List Bool) (n : ℕ) → length set ≤ position_or_len is_in set → functions_from n set ≡ []
from-none [] n past = refl
from-none (true ∷ set) n past = absurd (omega (arith, past))
from-none (false ∷ set) n past = from-none set (n + 1) (omega (arith, past))

pub functions-first : (set : List Bool) (f : ℕ) → first_function set ≡ Some f
    → functions_in set ≡ f ∷ functions_in (without_function set f)
functions-first set f is = by (nat_lt (position_or_len is_in set) (length set)) refl
  where
    by : (b : Bool) → nat_lt (position_or_len is_in set) (length set) ≡ b
        → functions_in set ≡ f ∷ functions_in (without_function set f)
    by true lt =
        let found : Some (position_or_len is_in set) ≡ Some f =
        sym (ap (λ b. cond b (Some (position_or_len is_in set)) None) lt) ∙ is in
        let at = same_Some (position_or_len is_in set) f found in
        let less : position_or_len is_in set < length set = ltb-true (position_or_len is_in set) (length set) lt in
        let e : 0 + f ≡ f = omega arith in
        from-first set 0 f at (omega (arith, at, less))
        ∙ ap (λ m. m ∷ functions_from 0 (slice_set set f false)) e
    by false lt =
        absurd (none-some f (sym (ap (λ b. cond b (Some (position_or_len is_in set)) None) lt) ∙ is))

pub functions-none : (set : List Bool) → first_function set ≡ None → functions_in set ≡ []
functions-none set is = by (nat_lt (position_or_len is_in set) (length set)) refl
  where
    by : (b : Bool) → nat_lt (position_or_len is_in set) (length set) ≡ b → functions_in set ≡ []
    by true lt =
        absurd (none-some (position_or_len is_in set)
        (sym is ∙ ap (λ b. cond b (Some (position_or_len is_in set)) None) lt))
    by false lt = from-none set 0 (ltb-false (position_or_len is_in set) (length set) lt)

-- none
pub no-functions : functions_in no_functions ≡ []
no-functions = refl
