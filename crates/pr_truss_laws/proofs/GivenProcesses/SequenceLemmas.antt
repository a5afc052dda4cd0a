use Rattle.std.proofs.Common.{◌≡◌, ◌+◌, ℕ, zero, suc, Bool, true, false, cond, Option, Some, None, List, [], ◌∷◌, ◌++◌, length, take, refl, sym, ap, ◌∙◌, arith}
use Rattle.std.proofs.lemmas.List.{length-append, map-append}
use Rattle.pr_line.specs.declared.options.Options.{Options}
use Rattle.pr_model.specs.Replies.{handle_in, until_in}
use Rattle.pr_model.specs.declared.calls.Call.{Call}
use Rattle.pr_model.specs.declared.calls.Reply.TheVariants as reply
use Rattle.pr_num.specs.Control.{fork_mode}
use Rattle.pr_num.specs.declared.messages.Message.TheVariants as message
use Rattle.pr_truss.specs.Messages.{message_call}
use Rattle.pr_truss.specs.NextCalls.{open_control, opening_call}
use Rattle.pr_truss.specs.Openings.{learnt, step_after}
use Rattle.pr_truss.specs.Processes.{newly_traced}
use Rattle.pr_truss.specs.declared.processes.Traced.{Traced}
use Rattle.pr_truss.specs.declared.stages.OpeningStep.{OpeningStep}
use Rattle.pr_truss.specs.declared.stages.OpeningStep.TheVariants.{OpenStatus, Follow, Start}
use Rattle.pr_truss_laws.specs.Exchanges.{Exchange, calls_in}
use Rattle.pr_truss_laws.specs.Given.{calls_with, opening_calls, reply_at}

-- The calls of an opening, step by step, are those of its list.

-- These are calls of an opening from a step on, where truss has learnt so much of the process.
abbrev pub Goes : Options → Traced → Option OpeningStep → List Exchange → Type 0
Goes o t None xs = xs ≡ []
Goes o t (Some step) [] = Unit {0}
Goes o t (Some step) (x ∷ xs) =
    (x.call ≡ opening_call o t step) × Goes o (learnt t x.reply step) (step_after o x.reply step) xs

-- The same, and the last step is among them.
abbrev pub GoesToEnd : Options → Traced → Option OpeningStep → List Exchange → Type 0
GoesToEnd o t None xs = xs ≡ []
GoesToEnd o t (Some step) [] = ⊥
GoesToEnd o t (Some step) (x ∷ xs) =
    (x.call ≡ opening_call o t step) × GoesToEnd o (learnt t x.reply step) (step_after o x.reply step) xs

pub front : {c d : Call} {cs ds : List Call} → c ≡ d → cs ≡ ds → c ∷ cs ≡ d ∷ ds
front p q = cc

last_with : Bool → ℕ → List Call
last_with b control =
    cond b (message_call control (message.Set fork_mode) ∷ message_call control (message.Run 0) ∷ [])
    (message_call control (message.Run 0) ∷ [])

last-begun : (o : Options) (t : Traced) (b : Bool) (xs : List Exchange) → Goes o t (Some (cond b Follow Start)) xs
    → calls_in xs ≡ take (length xs) (last_with b t.control)
unfolding last_with opening_call learnt step_after
last-begun o t true [] g = refl
last-begun o t true (x ∷ []) g = front g.0 refl
last-begun o t true (x ∷ y ∷ []) g = front g.0 (front g.1.0 refl)
last-begun o t true (x ∷ y ∷ z ∷ zs) g = cc
last-begun o t false [] g = refl
last-begun o t false (x ∷ []) g = front g.0 refl
last-begun o t false (x ∷ y ∷ zs) g = cc

last-whole : (o : Options) (t : Traced) (b : Bool) (xs : List Exchange) → GoesToEnd o t (Some (cond b Follow Start)) xs
    → calls_in xs ≡ last_with b t.control
unfolding last_with opening_call learnt step_after
last-whole o t true [] g = absurd g
last-whole o t true (x ∷ []) g = absurd g.1
last-whole o t true (x ∷ y ∷ []) g = front g.0 (front g.1.0 refl)
last-whole o t true (x ∷ y ∷ z ∷ zs) g = cc
last-whole o t false [] g = absurd g
last-whole o t false (x ∷ []) g = front g.0 refl
last-whole o t false (x ∷ y ∷ zs) g = cc

pub begun-calls : (o : Options) (pid : ℕ) (x0 : Exchange) (xs : List Exchange) → x0.call ≡ open_control pid
    → Goes o (newly_traced pid (handle_in x0.reply)) (Some OpenStatus) xs
    → calls_in (x0 ∷ xs) ≡ take (suc (length xs)) (opening_calls o pid (x0 ∷ xs))
unfolding opening_calls last_with opening_call learnt step_after newly_traced
begun-calls o pid x0 [] f g = front f refl
begun-calls o pid x0 (x1 ∷ []) f g = front f (front g.0 refl)
begun-calls o pid x0 (x1 ∷ x2 ∷ []) f g = front f (front g.0 (front g.1.0 refl))
begun-calls o pid x0 (x1 ∷ x2 ∷ x3 ∷ []) f g = front f (front g.0 (front g.1.0 (front g.1.1.0 refl)))
begun-calls o pid x0 (x1 ∷ x2 ∷ x3 ∷ x4 ∷ []) f g =
    front f (front g.0 (front g.1.0 (front g.1.1.0 (front g.1.1.1.0 refl))))
begun-calls o pid x0 (x1 ∷ x2 ∷ x3 ∷ x4 ∷ x5 ∷ []) f g =
    front f (front g.0 (front g.1.0 (front g.1.1.0 (front g.1.1.1.0 (front g.1.1.1.1.0 refl)))))
begun-calls o pid x0 (x1 ∷ x2 ∷ x3 ∷ x4 ∷ x5 ∷ x6 ∷ []) f g =
    front f (front g.0 (front g.1.0 (front g.1.1.0 (front g.1.1.1.0 (front g.1.1.1.1.0 (front g.1.1.1.1.1.0 refl))))))
begun-calls o pid x0 (x1 ∷ x2 ∷ x3 ∷ x4 ∷ x5 ∷ x6 ∷ x7 ∷ []) f g =
    front f (front g.0
    (front g.1.0
    (front g.1.1.0 (front g.1.1.1.0 (front g.1.1.1.1.0 (front g.1.1.1.1.1.0 (front g.1.1.1.1.1.1.0 refl)))))))
begun-calls o pid x0 (x1 ∷ x2 ∷ x3 ∷ x4 ∷ x5 ∷ x6 ∷ x7 ∷ x8 ∷ []) f g =
    front f (front g.0
    (front g.1.0
    (front g.1.1.0
    (front g.1.1.1.0
    (front g.1.1.1.1.0 (front g.1.1.1.1.1.0 (front g.1.1.1.1.1.1.0 (front g.1.1.1.1.1.1.1.0 refl))))))))
begun-calls o pid x0 (x1 ∷ x2 ∷ x3 ∷ x4 ∷ x5 ∷ x6 ∷ x7 ∷ x8 ∷ x9 ∷ []) f g =
    front f (front g.0
    (front g.1.0
    (front g.1.1.0
    (front g.1.1.1.0
    (front g.1.1.1.1.0
    (front g.1.1.1.1.1.0
    (front g.1.1.1.1.1.1.0 (front g.1.1.1.1.1.1.1.0 (front g.1.1.1.1.1.1.1.1.0 refl)))))))))
begun-calls o pid x0 (x1 ∷ x2 ∷ x3 ∷ x4 ∷ x5 ∷ x6 ∷ x7 ∷ x8 ∷ x9 ∷ x10 ∷ []) f g =
    front f (front g.0
    (front g.1.0
    (front g.1.1.0
    (front g.1.1.1.0
    (front g.1.1.1.1.0
    (front g.1.1.1.1.1.0
    (front g.1.1.1.1.1.1.0
    (front g.1.1.1.1.1.1.1.0
    (front g.1.1.1.1.1.1.1.1.0 (front g.1.1.1.1.1.1.1.1.1.0 refl))))))))))
begun-calls o pid x0 (x1 ∷ x2 ∷ x3 ∷ x4 ∷ x5 ∷ x6 ∷ x7 ∷ x8 ∷ x9 ∷ x10 ∷ x11 ∷ []) f g =
    front f (front g.0
    (front g.1.0
    (front g.1.1.0
    (front g.1.1.1.0
    (front g.1.1.1.1.0
    (front g.1.1.1.1.1.0
    (front g.1.1.1.1.1.1.0
    (front g.1.1.1.1.1.1.1.0
    (front g.1.1.1.1.1.1.1.1.0
    (front g.1.1.1.1.1.1.1.1.1.0 (front g.1.1.1.1.1.1.1.1.1.1.0 refl)))))))))))
begun-calls o pid x0 (x1 ∷ x2 ∷ x3 ∷ x4 ∷ x5 ∷ x6 ∷ x7 ∷ x8 ∷ x9 ∷ x10 ∷ x11 ∷ x12 ∷ xs) f g =
    front f (front g.0
    (front g.1.0
    (front g.1.1.0
    (front g.1.1.1.0
    (front g.1.1.1.1.0
    (front g.1.1.1.1.1.0
    (front g.1.1.1.1.1.1.0
    (front g.1.1.1.1.1.1.1.0
    (front g.1.1.1.1.1.1.1.1.0
    (front g.1.1.1.1.1.1.1.1.1.0
    (front g.1.1.1.1.1.1.1.1.1.1.0
    (front g.1.1.1.1.1.1.1.1.1.1.1.0
    (last-begun o _ o.follow xs g.1.1.1.1.1.1.1.1.1.1.1.1)))))))))))))

-- A call that was not made replied nothing.
reply-pushed : (xs : List Exchange) (c : Call) (i : ℕ)
    → reply_at (xs ++ record { call = c; reply = reply.Done } ∷ []) i ≡ reply_at xs i
reply-pushed [] c zero = refl
reply-pushed [] c (suc i) = refl
reply-pushed (x ∷ xs) c zero = refl
reply-pushed (x ∷ xs) c (suc i) = reply-pushed xs c i

opening-pushed : (o : Options) (pid : ℕ) (xs : List Exchange) (c : Call)
    → opening_calls o pid (xs ++ record { call = c; reply = reply.Done } ∷ []) ≡ opening_calls o pid xs
unfolding opening_calls
opening-pushed o pid xs c =
    let control = reply-pushed xs c 0 in
    let lstatus = reply-pushed xs c 2 in
    let until = reply-pushed xs c 6 in
    ap (λ r. calls_with o pid (handle_in r)
    (handle_in (reply_at (xs ++ record { call = c; reply = reply.Done } ∷ []) 2))
    (until_in (reply_at (xs ++ record { call = c; reply = reply.Done } ∷ []) 6))) control
    ∙ ap (λ r. calls_with o pid (handle_in (reply_at xs 0)) (handle_in r)
    (until_in (reply_at (xs ++ record { call = c; reply = reply.Done } ∷ []) 6))) lstatus
    ∙ ap (λ r. calls_with o pid (handle_in (reply_at xs 0)) (handle_in (reply_at xs 2)) (until_in r)) until

-- the calls of an opening so far, and its next one
pub next-calls : (o : Options) (pid : ℕ) (x0 : Exchange) (xs : List Exchange) (next : Call)
    → x0.call ≡ open_control pid
    → Goes o (newly_traced pid (handle_in x0.reply)) (Some OpenStatus)
    (xs ++ record { call = next; reply = reply.Done } ∷ [])
    → calls_in (x0 ∷ xs) ++ next ∷ [] ≡ take (length (x0 ∷ xs) + 1) (opening_calls o pid (x0 ∷ xs))
next-calls o pid x0 xs next f g =
    let y : Exchange = record { call = next; reply = reply.Done } in
    let count : suc (length (xs ++ y ∷ [])) ≡ length (x0 ∷ xs) + 1 = omega (arith, length-append xs (y ∷ [])) in
    sym (map-append (λ (x : Exchange). x.call) (x0 ∷ xs) (y ∷ []))
    ∙ begun-calls o pid x0 (xs ++ y ∷ []) f g
    ∙ ap (λ n. take n (opening_calls o pid (x0 ∷ (xs ++ y ∷ [])))) count
    ∙ ap (take (length (x0 ∷ xs) + 1)) (opening-pushed o pid (x0 ∷ xs) next)

pub whole-calls : (o : Options) (pid : ℕ) (x0 : Exchange) (xs : List Exchange) → x0.call ≡ open_control pid
    → GoesToEnd o (newly_traced pid (handle_in x0.reply)) (Some OpenStatus) xs
    → calls_in (x0 ∷ xs) ≡ opening_calls o pid (x0 ∷ xs)
unfolding opening_calls last_with opening_call learnt step_after newly_traced
whole-calls o pid x0 [] f g = absurd g
whole-calls o pid x0 (x1 ∷ []) f g = absurd g.1
whole-calls o pid x0 (x1 ∷ x2 ∷ []) f g = absurd g.1.1
whole-calls o pid x0 (x1 ∷ x2 ∷ x3 ∷ []) f g = absurd g.1.1.1
whole-calls o pid x0 (x1 ∷ x2 ∷ x3 ∷ x4 ∷ []) f g = absurd g.1.1.1.1
whole-calls o pid x0 (x1 ∷ x2 ∷ x3 ∷ x4 ∷ x5 ∷ []) f g = absurd g.1.1.1.1.1
whole-calls o pid x0 (x1 ∷ x2 ∷ x3 ∷ x4 ∷ x5 ∷ x6 ∷ []) f g = absurd g.1.1.1.1.1.1
whole-calls o pid x0 (x1 ∷ x2 ∷ x3 ∷ x4 ∷ x5 ∷ x6 ∷ x7 ∷ []) f g = absurd g.1.1.1.1.1.1.1
whole-calls o pid x0 (x1 ∷ x2 ∷ x3 ∷ x4 ∷ x5 ∷ x6 ∷ x7 ∷ x8 ∷ []) f g = absurd g.1.1.1.1.1.1.1.1
whole-calls o pid x0 (x1 ∷ x2 ∷ x3 ∷ x4 ∷ x5 ∷ x6 ∷ x7 ∷ x8 ∷ x9 ∷ []) f g = absurd g.1.1.1.1.1.1.1.1.1
whole-calls o pid x0 (x1 ∷ x2 ∷ x3 ∷ x4 ∷ x5 ∷ x6 ∷ x7 ∷ x8 ∷ x9 ∷ x10 ∷ []) f g = absurd g.1.1.1.1.1.1.1.1.1.1
whole-calls o pid x0 (x1 ∷ x2 ∷ x3 ∷ x4 ∷ x5 ∷ x6 ∷ x7 ∷ x8 ∷ x9 ∷ x10 ∷ x11 ∷ []) f g = absurd g.1.1.1.1.1.1.1.1.1.1.1
whole-calls o pid x0 (x1 ∷ x2 ∷ x3 ∷ x4 ∷ x5 ∷ x6 ∷ x7 ∷ x8 ∷ x9 ∷ x10 ∷ x11 ∷ x12 ∷ xs) f g =
    front f (front g.0
    (front g.1.0
    (front g.1.1.0
    (front g.1.1.1.0
    (front g.1.1.1.1.0
    (front g.1.1.1.1.1.0
    (front g.1.1.1.1.1.1.0
    (front g.1.1.1.1.1.1.1.0
    (front g.1.1.1.1.1.1.1.1.0
    (front g.1.1.1.1.1.1.1.1.1.0
    (front g.1.1.1.1.1.1.1.1.1.1.0
    (front g.1.1.1.1.1.1.1.1.1.1.1.0
    (last-whole o _ o.follow xs g.1.1.1.1.1.1.1.1.1.1.1.1)))))))))))))
