-- The lines that tell why there is no verdict, each with the byte that ends it.
-- Source: own
use Rattle.std.specs.Prelude.{ℕ, List, codes}
use Rattle.mcf_checker.specs.declared.command.FileFault.{FileFault}
use Rattle.mcf_checker.specs.declared.command.FileFault.TheVariants.{NoMemory, Unreadable}

-- there are other words than three
abbrev pub usage_line : List ℕ
usage_line = codes "usage: mcfcheck INSTANCE ANSWER\n"

-- the file of the instance can't be read
abbrev pub instance_line : List ℕ
instance_line = codes "mcfcheck: cannot read the instance\n"

-- the file of the answer can't be read
abbrev pub answer_line : List ℕ
answer_line = codes "mcfcheck: cannot read the answer\n"

-- the line of the verdict couldn't be written
abbrev pub write_line : List ℕ
write_line = codes "mcfcheck: write failed\n"

-- memory ran out
abbrev pub memory_line : List ℕ
memory_line = codes "mcfcheck: out of memory\n"

-- what is said of a file that wasn't read: memory ran out, or this line
abbrev pub file_line : List ℕ → FileFault → List ℕ
file_line unreadable NoMemory = memory_line
file_line unreadable Unreadable = unreadable
