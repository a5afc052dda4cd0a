use Rattle.std.specs.Prelude.{◌≡◌, ◌==◌, ◌+◌, ℕ, zero, suc, Bool, true, false, List, [], ◌∷◌, ◌++◌, Option, Some, None, length, is_none, refl, cond}
use Rattle.std.proofs.Common.{◌∙◌, ap, sym, subst, arith, length-append}
use Rattle.std.proofs.lemmas.List.{get_or_append_left, get_or-append-add}
use Rattle.std.proofs.lemmas.Bool.{eqb-true}
use Rattle.std.proofs.lemmas.Option.{same_Some}
use Rattle.std.specs.List.{Contains}
use Rattle.std.specs.Option.{option_and_then}
use Rattle.pr_num.specs.ById.{under}
use Rattle.pr_model.specs.LwpTurns.{can_move, may_turn_in, may_turn_of}
use Rattle.pr_model.specs.Order.{live_lwps, lwps_among, lwps_in, pairs_of}
use Rattle.pr_model.specs.State.{TracedState, TracedSystem, TracedProcess, TracedLwp, if_live, live_process, lwp_of, process_of}
use Rattle.pr_model.specs.declared.events.Entry.{Entry}
use Rattle.pr_api.specs.Views.{IsLawful, kernel_of}

-- What holds of every kernel holds of one that tells its machine.

-- ---- what lists contain

later : {X : Type 0} (x y : X) (xs : List X) → Contains xs x → Contains (y ∷ xs) x
later x y xs there = (suc there.0, omega (arith, there.1), there.2)

among-first : {X : Type 0} (x : X) (xs ys : List X) → Contains xs x → Contains (xs ++ ys) x
among-first x xs ys there =
    (there.0, omega (arith, there.1, length-append xs ys), get_or_append_left xs ys x there.0 there.1 ∙ there.2)

among-last : {X : Type 0} (x : X) (xs ys : List X) → Contains ys x → Contains (xs ++ ys) x
among-last x xs ys there =
    (length xs + there.0, omega (arith, there.1, length-append xs ys), get_or-append-add xs ys there.0 x ∙ there.2)

-- ---- lwps

-- an lwp that stands is among those of its process
among-lwps : (pid id : ℕ) (l : TracedLwp) (es : List (ℕ × TracedLwp)) → under id es ≡ Some l
    → Contains (pairs_of pid es) (pid, id)
among-lwps pid id l [] found = cc
among-lwps pid id l (e ∷ es) found = of (e.0 == id) refl found (among-lwps pid id l es)
  where
    of : (b : Bool) → (e.0 == id) ≡ b → cond b (Some e.1) (under id es) ≡ Some l
        → (under id es ≡ Some l → Contains (pairs_of pid es) (pid, id))
        → Contains ((pid, e.0) ∷ pairs_of pid es) (pid, id)
    of true same found below = (zero, omega arith, ap (λ n. (pid, n)) (eqb-true _ _ same))
    of false other found below = later (pid, id) (pid, e.0) (pairs_of pid es) (below found)

in-process : (pid id : ℕ) (p : TracedProcess) (l : TracedLwp) → is_none p.ended ≡ true → under id p.lwps ≡ Some l
    → Contains (lwps_in (pid, p)) (pid, id)
unfolding lwps_in
in-process pid id p l live found =
    let P : Bool → Type 0 = λ b. Contains {X = ℕ × ℕ} (cond b (pairs_of pid p.lwps) []) (pid, id) in
    subst P (sym live) (among-lwps pid id l p.lwps found)

-- the lwps of a live process that stands are among those of all live processes
among-processes : (pid id : ℕ) (p : TracedProcess) (l : TracedLwp) → is_none p.ended ≡ true → under id p.lwps ≡ Some l
    → (es : List (ℕ × TracedProcess)) → under pid es ≡ Some p → Contains (lwps_among es) (pid, id)
among-processes pid id p l live there [] found = cc
among-processes pid id p l live there (e ∷ es) found =
    of (e.0 == pid) refl found (among-processes pid id p l live there es)
  where
    here : e.0 ≡ pid → e.1 ≡ p → Contains (lwps_in e) (pid, id)
    here same thing =
        let P : ℕ → Type 0 = λ n. Contains (lwps_in (n, e.1)) (pid, id) in
        let Q : TracedProcess → Type 0 = λ q. Contains (lwps_in (pid, q)) (pid, id) in
        subst P (sym same) (subst Q (sym thing) (in-process pid id p l live there))

    of : (b : Bool) → (e.0 == pid) ≡ b → cond b (Some e.1) (under pid es) ≡ Some p
        → (under pid es ≡ Some p → Contains (lwps_among es) (pid, id)) → Contains (lwps_in e ++ lwps_among es) (pid, id)
    of true same found below =
        among-first (pid, id) (lwps_in e) (lwps_among es) (here (eqb-true _ _ same) (same_Some e.1 p found))
    of false other found below = among-last (pid, id) (lwps_in e) (lwps_among es) (below found)

-- an lwp that can have a turn is one of a live process
turns-are-live : (s : TracedSystem) (pid id : ℕ) → can_move s pid id ≡ true → Contains (live_lwps s) (pid, id)
unfolding can_move live_process live_lwps
turns-are-live s pid id h = of_process (process_of s pid) refl h
  where
    of_lwp : (p : TracedProcess) → under pid s.processes ≡ Some p → is_none p.ended ≡ true → (l : Option TracedLwp)
        → lwp_of p id ≡ l → may_turn_in s pid id p l ≡ true → Contains (lwps_among s.processes) (pid, id)
    of_lwp p found live None there e = cc
    of_lwp p found live (Some l) there e = among-processes pid id p l live there s.processes found

    if_it_lives : (p : TracedProcess) → under pid s.processes ≡ Some p → (b : Bool) → is_none p.ended ≡ b
        → may_turn_of s pid id (cond b (Some p) None) ≡ true → Contains (lwps_among s.processes) (pid, id)
    if_it_lives p found true live e = of_lwp p found live (lwp_of p id) refl e
    if_it_lives p found false live e = cc

    of_process : (p : Option TracedProcess) → under pid s.processes ≡ p
        → may_turn_of s pid id (option_and_then if_live p) ≡ true → Contains (lwps_among s.processes) (pid, id)
    of_process None found e = cc
    of_process (Some p) found e = if_it_lives p found (is_none p.ended) refl e

pub machine-lawful : (s : TracedState) (history : List Entry) (places : ℕ) → IsLawful (kernel_of s history places)
unfolding kernel_of
machine-lawful s history places = record {
  live = turns-are-live s.system;
  told = λ t e. ap (λ (m : TracedState). kernel_of m history places) (same_Some s t e);
}
