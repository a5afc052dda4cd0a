use Rattle.pr_num.specs.Records.{Range, below, any_word, an_errno}
use Rattle.std.specs.Prelude.{nat_le, ◌&&◌}
use Rattle.pr_rec.specs.declared.columns.Column.{Column}
use Rattle.pr_rec.specs.declared.columns.Column.TheVariants.{Any, Below, OneTo, ErrnoOrNone}

-- what a column of a table of records takes
abbrev pub range_of : Column → Range
range_of Any = any_word
range_of (Below bound) = below bound
range_of (OneTo most) = λ w. nat_le 1 w && nat_le w most
range_of ErrnoOrNone = an_errno
