-- Logs whose lists can be counted in four bytes, and the members of a communicator in one.
use Rattle.std.specs.Prelude.{◌<◌, ◌^◌, List, [], ◌∷◌, length}
use Rattle.srr_entry.specs.declared.entry.Mark.{Mark}
use Rattle.srr_entry.specs.declared.entry.Mark.TheVariants.{Outside, Outer, MadeOutside}
use Rattle.srr_entry.specs.declared.entry.Marked.{Marked}
use Rattle.srr_entry.specs.declared.entry.Entry.{Entry}
use Rattle.srr_entry.specs.declared.entry.Entry.TheVariants.{Took}

-- a mark whose lists can be counted
abbrev pub IsShortMark : Mark → Type 0
IsShortMark (Outside source start tag ints) = length ints < 2 ^ 32
IsShortMark (Outer ints) = length ints < 2 ^ 32
IsShortMark (MadeOutside comm members) = length members < 2 ^ 8
IsShortMark mark = Unit {0}

-- items whose lists can be counted
abbrev pub AreShortItems : List Marked → Type 0
AreShortItems [] = Unit {0}
AreShortItems (item ∷ items) = IsShortMark item.mark × AreShortItems items

-- an entry whose lists can be counted
abbrev pub IsShortEntry : Entry → Type 0
IsShortEntry (Took items) = (length items < 2 ^ 32) × AreShortItems items
IsShortEntry entry = Unit {0}

-- entries whose lists can be counted
abbrev pub AreShortEntries : List Entry → Type 0
AreShortEntries [] = Unit {0}
AreShortEntries (entry ∷ entries) = IsShortEntry entry × AreShortEntries entries

-- the entries of a rank, which can be counted
abbrev pub IsShortList : List Entry → Type 0
IsShortList entries = (length entries < 2 ^ 32) × AreShortEntries entries

-- those of each rank
abbrev pub AreShortLists : List (List Entry) → Type 0
AreShortLists [] = Unit {0}
AreShortLists (entries ∷ lists) = IsShortList entries × AreShortLists lists
