-- Why a run of the command gives no verdict, and what is said of it.
use Rattle.std.specs.Prelude.{ℕ, List}
use Rattle.mcf_checker.specs.declared.command.Failure.{Failure}
use Rattle.mcf_checker.specs.declared.command.Failure.TheVariants.{Usage, Instance, Answer, Write, NoMemory}
use Rattle.mcf_checker.specs.declared.command.FileFault.{FileFault}
use Rattle.mcf_checker.specs.declared.command.FileFault.TheVariants.{NoMemory as NoRoom, Unreadable}
use Rattle.mcf_checker.specs.Lines.{answer_line, instance_line, memory_line, usage_line, write_line}

-- the line that says so
abbrev pub failure_line : Failure → List ℕ
failure_line Usage = usage_line
failure_line Instance = instance_line
failure_line Answer = answer_line
failure_line Write = write_line
failure_line NoMemory = memory_line

-- what is said of a file that wasn't read: lack of memory, or that this file can't be read
abbrev pub failure_of : FileFault → Failure → Failure
failure_of NoRoom unreadable = NoMemory
failure_of Unreadable unreadable = unreadable
