use Rattle.std.proofs.Common.{◌≡◌, ℕ, Bool, true, false, List, [], ◌∷◌, ◌++◌, cond, refl, ap, ◌∙◌}
use Rattle.pr_model.specs.declared.calls.Call.{Call}
use Rattle.pr_model.specs.declared.calls.Call.TheVariants as call
use Rattle.pr_model.specs.declared.calls.Reply.{Reply}
use Rattle.pr_api.specs.Entries.{call_entry}
use Rattle.pr_api.specs.Shapes.{has_shape}
use Rattle.pr_api.specs.Steps.{IsCalled}
use Rattle.pr_api.specs.TableKernels.{TableState, Taken, otherwise, table_view, taken}

-- The steps of a kernel that answers from a list.

otherwise-shaped : (c : Call) → has_shape c (otherwise c) ≡ true
unfolding otherwise has_shape
otherwise-shaped (call.Open pid id file mode) = refl
otherwise-shaped (call.Close handle) = refl
otherwise-shaped (call.Ctl handle bytes) = refl
otherwise-shaped (call.CtlWait handle until bytes) = refl
otherwise-shaped (call.Read handle at len) = refl
otherwise-shaped (call.Poll handles) = refl
otherwise-shaped (call.Interrupt controller) = refl
otherwise-shaped (call.Spawn program held) = refl
otherwise-shaped (call.Kill pid sig) = refl
otherwise-shaped (call.Until moment) = refl
otherwise-shaped call.List = refl

taken-shaped : (c : Call) (replies : List Reply) → has_shape c (taken c replies).reply ≡ true
unfolding taken
taken-shaped c [] = otherwise-shaped c
taken-shaped c (r ∷ rs) = of (has_shape c r) refl
  where
    of : (b : Bool) → has_shape c r ≡ b
        → has_shape c
        (let t : Taken = cond b (record { reply = r; left = rs }) (record { reply = otherwise c; left = r ∷ rs }) in
        t.reply) ≡ true
    of true fits = fits
    of false fails = otherwise-shaped c

-- A call took a reply and put its entry after the others.
pub table-called : (by : ℕ) (c : Call) (old new : TableState) (t : Taken) → t ≡ taken c old.replies
    → new.history ≡ old.history ++ call_entry by c t.reply ∷ [] → new.places ≡ old.places
    → IsCalled by c (table_view old) (table_view new)
table-called by c old new t took grown stays = record {
  reply = t.reply;
  shaped = ap (λ (x : Taken). has_shape c x.reply) took ∙ taken-shaped c old.replies;
  history = grown;
  places = stays;
  machine = tt;
}
