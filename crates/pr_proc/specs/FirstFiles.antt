use Rattle.std.specs.Prelude.{List, []}
use Rattle.pr_num.specs.Files.{FileTable}
use Rattle.pr_num.specs.declared.files.StoredFile.{StoredFile}

-- a system's files before anything is opened
abbrev pub stored_alone : List StoredFile → FileTable
stored_alone files = record { files = files; pipes = []; opens = [] }
