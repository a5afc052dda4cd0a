use Rattle.std.proofs.Common.{◌≡◌, ◌∙◌, ℕ, Some, ap, sym, subst, get_or, set, refl}
use Rattle.std.specs.List.{All, position}
use Rattle.std.proofs.lemmas.Option.{slice_get_read}
use Rattle.pr_num.proofs.TableLemmas.{position-within}
use Rattle.pr_num.specs.Spaces.{Space, IsSpace, mapped_size}
use Rattle.pr_num.specs.declared.mappings.Mapping.{Mapping}
use Rattle.pr_parts.specs.AddressSpaces.{LeavesHeapPlace, is_range, with_prot, with_protected}
use Rattle.pr_parts.proofs.SpaceLemmas.{IsSpace-with_protected, mapped_size-with_protected, set-with_protected}
use Rattle.pr_parts.proofs.HeapPlaceLemmas.{LeavesHeapPlace-with_protected}
use Rattle.pr_mem.proofs.spaces.Space.protect_as.Goals as goal

-- the list with the mapping changed
holds : (items found : Space) (at size place prot : ℕ) (m n : Mapping) → found ≡ items
    → position (is_range at size) found ≡ Some place → m ≡ get_or items place m → n ≡ with_prot prot m
    → set items place n ≡ with_protected at size prot items
holds items found at size place prot m n same place_is here step =
    let is = ap (position (is_range at size)) (sym same) ∙ place_is in
    let read = slice_get_read items _ place m refl (position-within (is_range at size) items place is) here in
    rw step (set-with_protected at size prot items place m is read)

pub invariant_of-self : goal.invariant_of-self
invariant_of-self c =
    let items = c.self.inside.mappings.items in
    let now =
    holds items c.deref.result.now c.args.at c.args.size c.in-Some.place c.args.prot c.index_mut.result.now
    c.set_prot.new.self c.deref.ensures.value
    (sym c.place_of.ensures ∙ c.in-Some.is) c.index_mut.ensures.value c.set_prot.ensures in (
      subst IsSpace (sym now) (IsSpace-with_protected c.args.at c.args.size c.args.prot items c.self.invariant.0),
      c.self.invariant.1
          ∙ sym (ap mapped_size now ∙ mapped_size-with_protected c.args.at c.args.size c.args.prot items),
    )

pub returns-clause-ok : goal.returns-clause-ok
returns-clause-ok c =
    holds c.self.inside.mappings.items c.deref.result.now c.args.at c.args.size c.in-Some.place c.args.prot
    c.index_mut.result.now c.set_prot.new.self c.deref.ensures.value
    (sym c.place_of.ensures ∙ c.in-Some.is) c.index_mut.ensures.value c.set_prot.ensures
    ∙ ap (with_protected c.args.at c.args.size c.args.prot) c.self.view_is

pub returns-clause-heap_place : goal.returns-clause-heap_place
returns-clause-heap_place c =
    let now =
    holds c.self.inside.mappings.items c.deref.result.now c.args.at c.args.size c.in-Some.place c.args.prot
    c.index_mut.result.now c.set_prot.new.self c.deref.ensures.value
    (sym c.place_of.ensures ∙ c.in-Some.is) c.index_mut.ensures.value c.set_prot.ensures in
    λ leaves.
    subst (All LeavesHeapPlace) (sym now)
    (LeavesHeapPlace-with_protected c.args.at c.args.size c.args.prot c.self.inside.mappings.items
    (subst (All LeavesHeapPlace) (sym c.self.view_is) leaves))
