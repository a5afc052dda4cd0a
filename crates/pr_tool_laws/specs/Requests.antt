use Rattle.std.specs.Prelude.{Bool, true, false, List, [], ◌∷◌, if◌then◌else◌}
use Rattle.std.specs.Str.{bytes_eq}
use Rattle.pr_api.specs.Shapes.{is_failure}
use Rattle.pr_model.specs.declared.calls.Call.{Call}
use Rattle.pr_model.specs.declared.calls.Call.TheVariants.{Ctl}
use Rattle.pr_model.specs.declared.calls.Reply.{Reply}
use Rattle.pr_tools.specs.Calls.{run_bytes, stop_bytes}
use Rattle.pr_truss_laws.specs.Exchanges.{Exchange}

-- Whether a controller has asked for a stop and has not run the process since: PCSTOP asks, unless it was refused, and
-- PCRUN takes it back.
abbrev pub asks_after : Bool → Call → Reply → Bool
asks_after asks (Ctl handle bytes) r =
    if bytes_eq bytes stop_bytes then (if is_failure r then asks else true)
    else (if bytes_eq bytes run_bytes then false else asks)
asks_after asks _ r = asks

-- the same after these exchanges
abbrev pub asks_still : Bool → List Exchange → Bool
asks_still asks [] = asks
asks_still asks (x ∷ xs) = asks_still (asks_after asks x.call x.reply) xs
