-- The map that a list of files stands for.
use Rattle.std.specs.Prelude.{ℕ, List, map}
use Rattle.std.specs.FinMap.{from_entries}
use Rattle.std.specs.String.{string_bytes}
use Rattle.fx_io.specs.Shelf.{Files}
use Rattle.fx_io.specs.declared.file_list.MemFile.{MemFile}

-- the names with their contents
abbrev pub entries_of : List MemFile → List (List ℕ × List ℕ)
entries_of files = map (λ f. (string_bytes f.name, f.bytes.items)) files

-- newest first
abbrev pub files_of : List MemFile → Files
files_of files = from_entries (entries_of files)
