-- Names of starts.
use Rattle.std.specs.Prelude.{◌||◌, Bool, false, Option, Some, None}
use Rattle.msg_races.specs.declared.names.Name.{Name}
use Rattle.msg_races.specs.Names.{same_start}

-- a name is one of two, where there are two
abbrev pub is_either : Option Name → Name → Name → Bool
is_either None name other = false
is_either (Some earlier) name other = same_start earlier other || same_start name other
