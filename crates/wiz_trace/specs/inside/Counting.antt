-- How counts of entries grow.
use Rattle.std.specs.Prelude.{◌≡◌, ◌<◌, ◌+◌, ◌^◌, ℕ, List, length, sum_by}
use Rattle.plan_advice.specs.Costs.{ints_of_entry, ints_in_mark}
use Rattle.srr_entry.specs.declared.entry.Entry.{Entry}
use Rattle.srr_entry.specs.declared.entry.Mark.{Mark}
use Rattle.srr_entry.specs.declared.entry.Marked.{Marked}
use Rattle.wiz_trace.specs.StatsTexts.{counts_line, inner_in, inner_in_mark, not_yet_in, outer_in, outer_in_mark}
use Rattle.wiz_trace.specs.declared.stats.EntryCounts.{EntryCounts}

-- each count can grow by so much
pub record CountsHaveRoom (counts : EntryCounts) (more : ℕ) : Type 0 where
  pub entries : counts.entries + more < 2 ^ 64
  pub inner : counts.inner + more < 2 ^ 64
  pub outer : counts.outer + more < 2 ^ 64
  pub ints : counts.ints + more < 2 ^ 64
  pub not_yet : counts.not_yet + more < 2 ^ 64

-- the counts grew by these counts
pub record CountsGrewBy (before after more : EntryCounts) : Type 0 where
  pub entries : after.entries ≡ before.entries + more.entries
  pub inner : after.inner ≡ before.inner + more.inner
  pub outer : after.outer ≡ before.outer + more.outer
  pub ints : after.ints ≡ before.ints + more.ints
  pub not_yet : after.not_yet ≡ before.not_yet + more.not_yet

-- the counts of a mark
abbrev pub mark_counts : Mark → EntryCounts
mark_counts mark = record { entries = 0; inner = inner_in_mark mark; outer = outer_in_mark mark; ints = ints_in_mark mark; not_yet = 0 }

-- the counts of some items
abbrev pub items_counts : List Marked → EntryCounts
items_counts items =
    record {
      entries = 0;
      inner = sum_by (λ item. inner_in_mark item.mark) items;
      outer = sum_by (λ item. outer_in_mark item.mark) items;
      ints = sum_by (λ item. ints_in_mark item.mark) items;
      not_yet = 0;
    }

-- the counts of an entry
abbrev pub entry_counts : Entry → EntryCounts
entry_counts entry = record { entries = 1; inner = inner_in entry; outer = outer_in entry; ints = ints_of_entry entry; not_yet = not_yet_in entry }

-- the counts of some entries
abbrev pub entries_counts : List Entry → EntryCounts
entries_counts entries =
    record {
      entries = length entries;
      inner = sum_by inner_in entries;
      outer = sum_by outer_in entries;
      ints = sum_by ints_of_entry entries;
      not_yet = sum_by not_yet_in entries;
    }

-- by those of a mark
abbrev pub GrewByMark : EntryCounts → EntryCounts → Mark → Type 0
GrewByMark before after mark = CountsGrewBy before after (mark_counts mark)

-- by those of some items
abbrev pub GrewByItems : EntryCounts → EntryCounts → List Marked → Type 0
GrewByItems before after items = CountsGrewBy before after (items_counts items)

-- by those of an entry
abbrev pub GrewByEntry : EntryCounts → EntryCounts → Entry → Type 0
GrewByEntry before after entry = CountsGrewBy before after (entry_counts entry)

-- by those of some entries
abbrev pub GrewByEntries : EntryCounts → EntryCounts → List Entry → Type 0
GrewByEntries before after entries = CountsGrewBy before after (entries_counts entries)

-- the counts of some entries
pub record AreCountsOf (list : List Entry) (counts : EntryCounts) : Type 0 where
  pub entries : counts.entries ≡ length list
  pub inner : counts.inner ≡ sum_by inner_in list
  pub outer : counts.outer ≡ sum_by outer_in list
  pub ints : counts.ints ≡ sum_by ints_of_entry list
  pub not_yet : counts.not_yet ≡ sum_by not_yet_in list

-- the line of these counts
abbrev pub line_of : EntryCounts → List ℕ
line_of counts = counts_line counts.entries counts.inner counts.outer counts.ints counts.not_yet
