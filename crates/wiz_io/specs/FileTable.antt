-- What a table of files shows.
use Rattle.std.specs.BTreeMap.{get_by_text}
use Rattle.wiz_io.specs.declared.file_table.FileTable.{FileTable}
use Rattle.wiz_io.specs.Files.{Files}

-- the files of a table
abbrev pub files_in_table : FileTable → Files
files_in_table table = λ name. get_by_text table.files name
