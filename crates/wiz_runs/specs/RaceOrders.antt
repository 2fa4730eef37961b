-- The order files of races: each makes a receive of the recorded run take another message.
use Rattle.std.specs.Prelude.{ℕ, List, [], ◌++◌, Option, Some, None, codes, map, take}
use Rattle.clap.specs.Words.{Text}
use Rattle.explanation_text.specs.OrderTexts.{other_order_text}
use Rattle.group_plan.specs.OrderText.{IsOrderText}
use Rattle.other_picks.specs.declared.other.OtherPick.{OtherPick}
use Rattle.other_picks.specs.declared.other.TheConstants.{MOST_OTHER_PICKS}
use Rattle.other_picks.specs.OtherLaws.{IsTakenOtherwise, turns_to}
use Rattle.other_picks.specs.Others.{others_of}
use Rattle.run_model.specs.Views.{Next}
use Rattle.srr_record.specs.declared.recording.Recording.{Recording}
use Rattle.wiz_base.specs.Decimals.{decimal_text}
use Rattle.wiz_tool.specs.Files.{NamedFile}

-- PREFIX.R.K.S.order: the receive's rank and its start number, and the sender
abbrev pub other_name : Text → OtherPick → Text
other_name prefix other =
    prefix ++ (codes "." ++ (decimal_text other.rank ++ (codes "." ++ (decimal_text other.start ++ (codes "." ++ (decimal_text other.sender ++ codes ".order"))))))

-- the order file of a receive and a message that it could have taken
abbrev pub other_file : Text → Recording → OtherPick → NamedFile
other_file prefix recording other =
    record { name = other_name prefix other; bytes = other_order_text recording.history.events recording.picks.written other }

-- where a prefix is given, one for each of the first other picks of the run
abbrev pub order_files : Option Text → ℕ → Recording → List NamedFile
order_files None n recording = []
order_files (Some prefix) n recording = map (other_file prefix recording) (take MOST_OTHER_PICKS (others_of n recording.history.events))

-- the order of another pick is read back as its turns, and what these record begins as the run did up to the receive, which then has another
-- mate than in the run
pub record IsOtherOrder (next : Next) (n : ℕ) (recording : Recording) (other : OtherPick) : Type 0 where
  pub order : IsOrderText n (other_order_text recording.history.events recording.picks.written other) (turns_to recording.history.events recording.picks.written other)
  pub taken : IsTakenOtherwise next n recording.picks.written recording.history.events other
