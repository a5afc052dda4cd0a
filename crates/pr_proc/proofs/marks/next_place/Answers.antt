use Rattle.std.proofs.Common.{◌≡◌, Some, ap, subst, sym, ◌∙◌, inl, inr}
use Rattle.std.proofs.lemmas.Bool.{cases_eq}
use Rattle.pr_num.specs.ById.{under}
use Rattle.pr_proc.specs.Marks.{IsMarked, IsBefore}
use Rattle.pr_proc.proofs.marks.next_place.Goals as goal

-- the one process that may not be marked is looked at by itself
pub returns-clause-passed : goal.returns-clause-passed
returns-clause-passed c = λ kind marks id p there meant least before own. elim (cases_eq id c.args.out) [
  | inl same ↦
      let found : under c.args.out c.args.table.now ≡ Some p = ap (λ n. under n c.args.table.now) (sym same) ∙ there in
      c.out_from.ensures.passed p found own (rw same at least)
      (subst (λ n. IsBefore n c.out_from.result) same (c.earlier.ensures.other id before))
  | inr apart ↦
      c.next_marked.ensures.passed id least (c.earlier.ensures.one id before)
      (subst (λ n. IsMarked c.args.marks.now n id) own (marks.each id p there meant apart))
]
