use Rattle.pr_model.specs.Readers as readers
use Rattle.pr_proc.specs.declared.families.Children.{Children}
use Rattle.pr_proc.specs.declared.families.Children.TheVariants.{Nobody, Living, Zombie}

-- What the code answers of the children of a process, in the words of the definitions.

abbrev pub children_as : Children → readers.Children
children_as Nobody = readers.no_child
children_as Living = readers.all_live
children_as (Zombie child status) = readers.first_zombie child status
