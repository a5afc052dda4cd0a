use Rattle.std.specs.Prelude.{false}
use Rattle.pr_hidden.specs.Covers.{Cover, Covers}

-- Covers but for the lwps that stand at a fault of a controller's. No step depends on these: they are hidden of states
-- alone.

abbrev pub bare_cover : Cover → Cover
bare_cover c = record c { faulted = λ id. false }

abbrev pub bare : Covers → Covers
bare covers pid = bare_cover (covers pid)
