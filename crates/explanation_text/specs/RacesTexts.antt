-- The races text of a run.
use Rattle.std.specs.Prelude.{ℕ, List, [], ◌∷◌, ◌++◌, codes, flat_map, length, sum_by}
use Rattle.msg_races.specs.declared.names.Name.{Name}
use Rattle.msg_races.specs.declared.receives.WildcardReceive.{WildcardReceive}
use Rattle.run_model.specs.declared.ending.Ending.{Ending}
use Rattle.run_text.specs.RecordTexts.{ending_text}
use Rattle.srr_log.specs.EntryText.{name_text}
use Rattle.wiz_base.specs.Decimals.{decimal_text}

-- S.K S.K .., a blank before each
abbrev pub names_text : List Name → List ℕ
names_text names = flat_map (λ (name : Name). codes " " ++ name_text name.rank name.start) names

-- none · S.K S.K ..
abbrev pub others_text : List Name → List ℕ
others_text [] = codes " none"
others_text (name ∷ names) = names_text (name ∷ names)

-- receive R.K took S.K others, and the others
abbrev pub receive_text : WildcardReceive → List ℕ
receive_text receive =
    codes "receive " ++ name_text receive.rank receive.start ++ codes " took " ++ name_text receive.took.rank receive.took.start
    ++ codes " others" ++ others_text receive.others ++ codes "\n"

-- 1 for a receive that has others
abbrev pub raced_in : List Name → ℕ
raced_in [] = 0
raced_in (name ∷ names) = 1

-- how many receives from any source could have taken another message
abbrev pub raced : List WildcardReceive → ℕ
raced receives = sum_by (λ (receive : WildcardReceive). raced_in receive.others) receives

-- a line for each receive, receives W raced Z, and how the run ended
abbrev pub races_text : List WildcardReceive → Ending → List ℕ
races_text receives ending =
    flat_map receive_text receives ++ codes "receives " ++ decimal_text (length receives) ++ codes " raced " ++ decimal_text (raced receives)
    ++ codes "\n" ++ ending_text ending
