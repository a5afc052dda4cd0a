use Rattle.std.specs.Prelude.{◌-◌, ◌%◌, ◌==◌, ◌&&◌, ◌<◌, nat_le}
use Rattle.pr_num.specs.Records.{Range}
use Rattle.pr_core.specs.declared.sections.Sizes.{Sizes}
use Rattle.pr_core.specs.declared.sections.Sizes.TheVariants.{Exactly, Records, Counted}

-- How many bytes a section of a kind may have.

abbrev pub takes : Sizes → Range
takes (Exactly expected) = λ size. size == expected
takes (Records record_size) = λ size. size % record_size == 0
takes (Counted record_size) = λ size. nat_le 8 size && ((size - 8) % record_size == 0)

-- records have bytes
abbrev pub HasRecords : Sizes → Type 0
HasRecords (Exactly expected) = Unit {0}
HasRecords (Records record_size) = 0 < record_size
HasRecords (Counted record_size) = 0 < record_size
