use Rattle.std.proofs.Common.{ℕ, List, [], ◌∷◌, length, sym, subst}
use Rattle.std.specs.Prelude.{Err}
use Rattle.std.proofs.lemmas.Result.{err_from_is_err_and}
use Rattle.srr_entry.specs.declared.entry.Entry.{Entry}
use Rattle.srr_log.specs.Parts.{head_line, ranks_line, group_line, size_line, program_bytes, end_line, lists_parts, log_parts}
use Rattle.srr_log.specs.inside.Reading.{Reads, at_head, at_list}
use Rattle.srr_log.proofs.ReadLaws.{read_ranks, read_group, read_program, read_lists}
use Rattle.srr_log.proofs.StateLaws.{AreRead, read_then, reads_behind}
use Rattle.srr_log.proofs.read_log.read.Goals as goal

pub returns-in_err-ranks-clause-parts : goal.returns-in_err-ranks-clause-parts
returns-in_err-ranks-clause-parts c =
    let p = err_from_is_err_and c.from_residual-in_err-ranks.result c.from_residual-in_err-ranks.ensures.1 in
    let front = read_ranks c.args.text.now _ _ (sym c.new-cursor.ensures) c.in_ok-head.ensures in
    rw (p.1, p.2) (reads_behind at_head (head_line ∷ []) (λ ranks. ranks_line ranks ∷ []) log_parts c.args.text.now c.head.new.cursor c.ranks.new.cursor [] c.in_err-ranks.field-0.0 front.0 front.1 c.in_err-ranks.ensures)

pub returns-in_err-group-clause-parts : goal.returns-in_err-group-clause-parts
returns-in_err-group-clause-parts c =
    let p = err_from_is_err_and c.from_residual-in_err-group.result c.from_residual-in_err-group.ensures.1 in
    let n = c.in_ok-ranks.ranks in
    let front = read_group n c.args.text.now _ _ (read_ranks c.args.text.now _ _ (sym c.new-cursor.ensures) c.in_ok-head.ensures) c.in_ok-ranks.ensures in
    rw (p.1, p.2) (reads_behind at_head (head_line ∷ ranks_line n ∷ []) (λ group. group_line group ∷ []) log_parts c.args.text.now c.ranks.new.cursor c.group.new.cursor [] c.in_err-group.field-0.0 front.0 front.1 c.in_err-group.ensures)

pub returns-in_err-program-clause-parts : goal.returns-in_err-program-clause-parts
returns-in_err-program-clause-parts c =
    let p = err_from_is_err_and c.from_residual-in_err-program.result c.from_residual-in_err-program.ensures.1 in
    let n = c.in_ok-ranks.ranks in
    let group = c.in_ok-group.group in
    let front = read_program n group c.args.text.now _ _ (read_group n c.args.text.now _ _ (read_ranks c.args.text.now _ _ (sym c.new-cursor.ensures) c.in_ok-head.ensures) c.in_ok-ranks.ensures) c.in_ok-group.ensures in
    rw (p.1, p.2) (reads_behind at_head (head_line ∷ ranks_line n ∷ group_line group ∷ []) (λ program. size_line (length program) ∷ program_bytes program ∷ []) log_parts c.args.text.now c.group.new.cursor c.program.new.cursor [] c.in_err-program.field-0.0 front.0 front.1 (c.in_err-program.ensures n group))

pub returns-in_err-lists-clause-parts : goal.returns-in_err-lists-clause-parts
returns-in_err-lists-clause-parts c =
    let p = err_from_is_err_and c.from_residual-in_err-lists.result c.from_residual-in_err-lists.ensures.1 in
    let n = c.in_ok-ranks.ranks in
    let group = c.in_ok-group.group in
    let program = c.in_ok-program.program in
    let front = read_lists n group program c.args.text.now _ _ (read_program n group c.args.text.now _ _ (read_group n c.args.text.now _ _ (read_ranks c.args.text.now _ _ (sym c.new-cursor.ensures) c.in_ok-head.ensures) c.in_ok-ranks.ensures) c.in_ok-group.ensures) (c.in_ok-program.ensures n group) in
    let P : List ℕ → Type 0 = λ g. Reads {A = List (List Entry)} (at_list n g g) (λ lists. lists_parts g lists (end_line ∷ [])) c.program.new.cursor (Err c.in_err-lists.field-0.0) [] in
    rw (p.1, p.2) (reads_behind at_head (head_line ∷ ranks_line n ∷ group_line group ∷ size_line (length program) ∷ program_bytes program ∷ []) (λ lists. lists_parts group lists (end_line ∷ [])) log_parts c.args.text.now c.program.new.cursor [] [] c.in_err-lists.field-0.0 front.0 front.1
    (subst P c.as_slice.ensures c.in_err-lists.ensures.read))

pub returns-clause-parts : goal.returns-clause-parts
returns-clause-parts c =
    let n = c.in_ok-ranks.ranks in
    let group = c.in_ok-group.group in
    let program = c.in_ok-program.program in
    let lists = c.in_ok-lists.lists in
    let P : List ℕ → Type 0 = λ g. AreRead (at_list n g g) (lists_parts g lists (end_line ∷ [])) c.program.new.cursor [] in
    let front = read_lists n group program c.args.text.now _ _ (read_program n group c.args.text.now _ _ (read_group n c.args.text.now _ _ (read_ranks c.args.text.now _ _ (sym c.new-cursor.ensures) c.in_ok-head.ensures) c.in_ok-ranks.ensures) c.in_ok-group.ensures) (c.in_ok-program.ensures n group) in
    read_then at_head (head_line ∷ ranks_line n ∷ group_line group ∷ size_line (length program) ∷ program_bytes program ∷ []) (lists_parts group lists (end_line ∷ [])) c.args.text.now c.program.new.cursor [] front (subst P c.as_slice.ensures c.in_ok-lists.ensures.read)
