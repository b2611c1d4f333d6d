use Rattle.std.proofs.Common.{◌≡◌, drop}
use Rattle.ecam_io.specs.Outside.{file_named}
use Rattle.ecam_io.specs.MemoryShelf.{files_of}
use Rattle.ecam_io.proofs.memory_shelf.find.Given as goal

abbrev pub invariant-loop-i : goal.invariant-loop-i
invariant-loop-i l = file_named (files_of (drop l.i l.files)) l.name ≡ file_named (files_of l.files) l.name
