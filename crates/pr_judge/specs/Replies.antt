use Rattle.std.specs.Prelude.{◌==◌, Bool, true, false}
use Rattle.std.specs.Str.{bytes_eq}
use Rattle.pr_num.specs.Errnos.{errno_number}
use Rattle.pr_model.specs.declared.calls.Reply.{Reply}
use Rattle.pr_model.specs.declared.calls.Reply.TheVariants.{Handle, Done, Used, Half, Bytes, Pid, Ready, Fail}

-- whether two replies are one
unfoldable pub same_reply : Reply → Reply → Bool
same_reply (Handle a) (Handle b) = a == b
same_reply Done Done = true
same_reply (Used a) (Used b) = a == b
same_reply (Half a) (Half b) = a == b
same_reply (Bytes a) (Bytes b) = bytes_eq a b
same_reply (Pid a) (Pid b) = a == b
same_reply (Ready a) (Ready b) = a == b
same_reply (Fail a) (Fail b) = errno_number a == errno_number b
same_reply _ _ = false
