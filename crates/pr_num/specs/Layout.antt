use Rattle.std.specs.Prelude.{◌+◌, ℕ}

-- Where things stand in an address space. An address that lays one out is written here, and nowhere else.

-- bytes of a page: each mapping has a multiple of them
abbrev pub page_size : ℕ
page_size = 4096

-- where the text of a program begins, and where its data begins
abbrev pub text_base : ℕ
text_base = 0x10000

abbrev pub data_base : ℕ
data_base = 0x80000

-- where the heap begins, and which address the break cannot pass
abbrev pub heap_base : ℕ
heap_base = 0x100000

abbrev pub break_limit : ℕ
break_limit = 0x180000

-- where the first mapping that mmap(2) makes may begin; the last one ends before the stack
abbrev pub gap_base : ℕ
gap_base = 0x200000

-- where the stack begins, which has one page, and where it ends: a program begins with its sp there
abbrev pub stack_base : ℕ
stack_base = 0x700000

abbrev pub stack_end : ℕ
stack_end = stack_base + page_size
