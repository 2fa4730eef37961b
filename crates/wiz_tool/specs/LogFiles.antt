-- The files of logs.
use Rattle.std.specs.Prelude.{ℕ, suc, List, [], ◌∷◌, ◌++◌, codes}
use Rattle.srr_entry.specs.declared.log.Log.{Log}
use Rattle.srr_log2.specs.LogBytes.{log_bytes}
use Rattle.wiz_base.specs.Decimals.{decimal_text}
use Rattle.wiz_tool.specs.Files.{NamedFile}

-- PREFIX.g.srr for the log of group g
abbrev pub log_name : List ℕ → ℕ → List ℕ
log_name prefix group = prefix ++ codes "." ++ decimal_text group ++ codes ".srr"

-- the logs of the groups from `group` on, in format 2
abbrev pub log_files : List ℕ → ℕ → List Log → List NamedFile
log_files prefix group [] = []
log_files prefix group (log ∷ logs) =
    (record { name = log_name prefix group; bytes = log_bytes log }) ∷ log_files prefix (suc group) logs
