use Rattle.pr_truss_laws.proofs.OwnBusiness.BusinessLemmas.{does-business}
use Rattle.pr_truss_laws.proofs.business.truss_does_its_own_business.Goals as goal

pub returns : goal.returns
returns c = does-business
