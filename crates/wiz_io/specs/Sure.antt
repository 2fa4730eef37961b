-- What contracts see of files in memory that never fail.
use Rattle.wiz_io.specs.declared.sure.SureStore.{SureStore}
use Rattle.wiz_io.specs.Files.{Files}
use Rattle.wiz_io.specs.FileTable.{files_in_table}

-- the files of a store that never fails
abbrev pub sure_files : SureStore → Files
sure_files store = files_in_table store.table
