-- The diff text of two histories of one program.
use Rattle.std.specs.Prelude.{ℕ, List, [], ◌∷◌, ◌++◌, Option, Some, None, codes, flat_map, if◌then◌else◌, length, nat_lt, slice_get, take}
use Rattle.std.specs.List.{list_any}
use Rattle.mpi_call.specs.declared.call.Call.{Call}
use Rattle.mpi_call.specs.declared.reply.Reply.{Reply}
use Rattle.run_model.specs.declared.event.Event.{Event}
use Rattle.run_model.specs.Views.{View, view_of}
use Rattle.msg_races.specs.declared.names.Name.{Name}
use Rattle.run_text.specs.CallTexts.{call_text, reply_text}
use Rattle.view_diff.specs.declared.compared.Compared.{Compared}
use Rattle.view_diff.specs.declared.compared.ViewRelation.{ViewRelation}
use Rattle.view_diff.specs.declared.compared.ViewRelation.TheVariants.{Alike, First, Follows}
use Rattle.view_diff.specs.Compared.{comes_first}
use Rattle.view_diff.specs.Opens.{got_from, open_receives_before}
use Rattle.wiz_base.specs.Decimals.{decimal_text}
use Rattle.explanation_text.specs.RacesTexts.{names_text}

-- the most messages that are named after `any`
abbrev pub most_named : ℕ
most_named = 8

-- K CALL
abbrev pub made_text : ℕ → Call → List ℕ
made_text number call = decimal_text number ++ codes " " ++ call_text call ++ codes "\n"

-- the same, of the first view that has the call
abbrev pub call_at_text : ℕ → Option (Call × Reply) → Option (Call × Reply) → List ℕ
call_at_text number (Some seen) other = made_text number seen.0
call_at_text number None (Some seen) = made_text number seen.0
call_at_text number None None = []

-- start S CALL
abbrev pub open_text : ℕ × Call → List ℕ
open_text start = codes "start " ++ made_text start.0 start.1

-- the reply · no call
abbrev pub given_text : Reply → List ℕ
given_text reply = codes " " ++ reply_text reply ++ codes "\n"

-- the reply, or that there is no call
abbrev pub answer_text : Option (Call × Reply) → List ℕ
answer_text None = codes " no call\n"
answer_text (Some seen) = given_text seen.1

-- S.K S.K .., a blank before each, and ` ..` where there are more
abbrev pub named_text : List Name → List ℕ
named_text names = names_text (take most_named names) ++ (if nat_lt most_named (length names) then codes " .." else [])

-- after a sign: any S.K S.K .., no line where there is none
abbrev pub any_source_text : List ℕ → List Name → List ℕ
any_source_text sign [] = []
any_source_text sign (name ∷ names) = sign ++ codes " any" ++ named_text (name ∷ names) ++ codes "\n"

-- the replies to a call: `<` in the first view, `>` in the other
abbrev pub answers_text : View → View → ℕ → List ℕ
answers_text own other number =
    codes "<" ++ answer_text (slice_get own number) ++ codes ">" ++ answer_text (slice_get other number)

-- the messages that receives from any source got from a call on
abbrev pub gots_text : View → View → ℕ → List ℕ
gots_text own other number = any_source_text (codes "<") (got_from own number) ++ any_source_text (codes ">") (got_from other number)

-- what two views have around the call at which they part: the call, the open receives from any source, the replies, and the messages
abbrev pub parting_text : View → View → ℕ → List ℕ
parting_text own other number =
    call_at_text number (slice_get own number) (slice_get other number) ++ flat_map open_text (open_receives_before own number)
    ++ answers_text own other number ++ gots_text own other number

-- the end of a rank's line, and what follows it
abbrev pub way_text : View → View → ℕ → ViewRelation → List ℕ
way_text own other number Alike = codes "\n"
way_text own other number First = codes " first\n" ++ parting_text own other number
way_text own other number Follows = codes " follows\n" ++ parting_text own other number

-- rank R same K
abbrev pub compared_rank_text : List Event → List Event → Compared → List ℕ
compared_rank_text one other rank =
    codes "rank " ++ decimal_text rank.rank ++ codes " same " ++ decimal_text rank.same
    ++ way_text (view_of one rank.rank) (view_of other rank.rank) rank.same rank.way

-- R:C with a blank before it, of a rank that parts first
abbrev pub first_text : Compared → List ℕ
first_text rank = if comes_first rank then codes " " ++ decimal_text rank.rank ++ codes ":" ++ decimal_text rank.same else []

-- parts R:C R:C .. · same
abbrev pub partings_text : List Compared → List ℕ
partings_text ranks = if list_any comes_first ranks then codes "parts" ++ flat_map first_text ranks ++ codes "\n" else codes "same\n"

-- a part for each rank, and where the histories part first
abbrev pub diff_text : List Event → List Event → List Compared → List ℕ
diff_text one other ranks = flat_map (compared_rank_text one other) ranks ++ partings_text ranks
