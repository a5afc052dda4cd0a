use Rattle.std.proofs.Common.{All, subst}
use Rattle.pr_rec.specs.InRange.{IsInfo, IsLwpStatus, IsMapEntry}
use Rattle.pr_rec.specs.declared.lwps.LwpStatus.{LwpStatus}
use Rattle.pr_core.proofs.EntryLemmas.{sigact-encoded}
use Rattle.pr_core.proofs.cores.Core.write.Goals as goal

pub returns-clause-core : goal.returns-clause-core
returns-clause-core c =
    let encodable = rw (← c.self.view_is) at c.requires in
    let lwps = subst (All (λ (l : LwpStatus). IsInfo l.info → IsLwpStatus l)) c.deref.ensures.value
    c.in_ok-write_lstatus.ensures.ranged in
    rw (← c.self.view_is) (record {
      encodable = encodable;
      psinfo = c.encode.ensures.ranged;
      lwps = λ k d inside. lwps k d inside (encodable.infos k d inside);
      sigact = sigact-encoded _ c.self.inside.sigact c.encode_sigact.ensures.encoded;
      maps = subst (All IsMapEntry) c.deref-2.ensures.value c.in_ok-write_map.ensures.ranged;
    })
