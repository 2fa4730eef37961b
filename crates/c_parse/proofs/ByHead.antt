-- A statement is read as its head, its inner statement and what is after that.
use Rattle.std.proofs.Common.{◌≡◌, ◌-◌, true, ℕ, List, Ok, Err, refl, ◌∙◌}
use Rattle.c_grammar.specs.declared.terminal.Symbol.{Symbol}
use Rattle.c_grammar.specs.declared.terminal.Symbol.TheVariants as w
use Rattle.c_grammar.specs.declared.terminal.Span.{Span}
use Rattle.c_grammar.specs.declared.terminal.Terminal.{Terminal}
use Rattle.c_grammar.specs.Tree as t
use Rattle.c_grammar.specs.Symbols.{isnt}
use Rattle.c_grammar.specs.Reading.{Answer, ◌>>=◌, expect, expr_at, many, maybe}
use Rattle.c_grammar.specs.StmtView.{parts_from}
use Rattle.c_grammar.specs.StmtReading.{if_head, read_block, read_body, read_do, read_else, read_for, read_if, read_simple, read_for_start, stmt_at, read_while_loop}
use Rattle.c_parse.specs.inside.Blocks.{BlockTree, braces_of}
use Rattle.c_parse.specs.inside.StatementHeads.{ForTree, TestTree, test_head_of, ended_of, for_head_of}

-- what goes on alike
alike : {A B : Type 0} (a : Answer A) {f g : A × List Terminal → Answer B} → ((x : A × List Terminal) → f x ≡ g x) → (a >>= f) ≡ (a >>= g)
alike (Ok x) h = h x
alike (Err e) h = refl

-- the first two of three steps taken together
regroup : {A B C : Type 0} (a : Answer A) (f : A × List Terminal → Answer B) (g : B × List Terminal → Answer C) → (a >>= λ x. f x >>= g) ≡ (a >>= f >>= g)
regroup (Ok x) f g = refl
regroup (Err e) f g = refl

-- what is read after a keyword and its test
test_head_then : {A : Type 0} (expr : List Terminal → Answer t.Expr) (first : Symbol) (ts : List Terminal) (next : TestTree × List Terminal → Answer A)
    → (expect first ts >>= λ keyword. expect w.OpenParen keyword.1 >>= λ opening. expr opening.1 >>= λ test. expect w.CloseParen test.1
    >>= λ closing. next (record { keyword = keyword.0; opening = opening.0; test = test.0; closing = closing.0 }, closing.1))
    ≡ (test_head_of expr first ts >>= next)
unfolding test_head_of
test_head_then expr first ts next =
    alike (expect first ts) (λ keyword.
    alike (expect w.OpenParen keyword.1) (λ opening.
    alike (expr opening.1) (λ test. regroup (expect w.CloseParen test.1) _ next)
    ∙ regroup (expr opening.1) _ next)
    ∙ regroup (expect w.OpenParen keyword.1) _ next)
    ∙ regroup (expect first ts) _ next

-- what is read after a thing and the terminal after it
ended_then : {A B : Type 0} (one : List Terminal → Answer A) (last : Symbol) (ts : List Terminal) (next : (A × Span) × List Terminal → Answer B)
    → (one ts >>= λ thing. expect last thing.1 >>= λ end. next ((thing.0, end.0), end.1)) ≡ (ended_of one last ts >>= next)
unfolding ended_of
ended_then one last ts next = alike (one ts) (λ thing. regroup (expect last thing.1) _ next) ∙ regroup (one ts) _ next

pub if_by_head : (n : ℕ) (ts : List Terminal) → read_if (expr_at n true) (stmt_at (n - 1)) ts
    ≡ (test_head_of (expr_at n true) w.If ts >>= λ head. stmt_at (n - 1) head.1 >>= λ then.
    read_else (stmt_at (n - 1)) (if_head head.0.keyword head.0.opening head.0.test head.0.closing) then.0 then.1)
if_by_head n ts = test_head_then (expr_at n true) w.If ts _

pub while_by_head : (n : ℕ) (ts : List Terminal) → read_while_loop (expr_at n true) (stmt_at (n - 1)) ts
    ≡ (test_head_of (expr_at n true) w.While ts >>= λ head. stmt_at (n - 1) head.1 >>= λ body.
    Ok (t.while head.0.keyword head.0.opening head.0.test head.0.closing body.0, body.1))
while_by_head n ts = test_head_then (expr_at n true) w.While ts _

pub do_by_head : (n : ℕ) (ts : List Terminal) → read_do (expr_at n true) (stmt_at (n - 1)) ts
    ≡ (expect w.Do ts >>= λ keyword. stmt_at (n - 1) keyword.1 >>= λ body. ended_of (test_head_of (expr_at n true) w.While) w.Semicolon body.1 >>= λ tail.
    Ok (t.do_while keyword.0 body.0 tail.0.0.keyword tail.0.0.opening tail.0.0.test tail.0.0.closing tail.0.1, tail.1))
do_by_head n ts =
    alike (expect w.Do ts) (λ keyword. alike (stmt_at (n - 1) keyword.1) (λ body.
    test_head_then (expr_at n true) w.While body.1 (λ head. expect w.Semicolon head.1 >>= λ end.
    Ok (t.do_while keyword.0 body.0 head.0.keyword head.0.opening head.0.test head.0.closing end.0, end.1))
    ∙ ended_then (test_head_of (expr_at n true) w.While) w.Semicolon body.1 _))

-- what is read after the head of a `for`
for_head_then : (expr index : List Terminal → Answer t.Expr) (ts : List Terminal) (next : ForTree × List Terminal → Answer t.Stmt)
    → (expect w.For ts >>= λ keyword. expect w.OpenParen keyword.1 >>= λ opening. ended_of (read_for_start expr index) w.Semicolon opening.1 >>= λ start.
    ended_of (maybe (isnt w.Semicolon) expr) w.Semicolon start.1 >>= λ test.
    ended_of (maybe (isnt w.CloseParen) (read_simple expr index)) w.CloseParen test.1 >>= λ step.
    next (record { keyword = keyword.0; opening = opening.0; start = start.0; test = test.0; step = step.0 }, step.1))
    ≡ (for_head_of expr index ts >>= next)
unfolding for_head_of
for_head_then expr index ts next =
    alike (expect w.For ts) (λ keyword.
    alike (expect w.OpenParen keyword.1) (λ opening.
    alike (ended_of (read_for_start expr index) w.Semicolon opening.1) (λ start.
    alike (ended_of (maybe (isnt w.Semicolon) expr) w.Semicolon start.1) (λ test.
    regroup (ended_of (maybe (isnt w.CloseParen) (read_simple expr index)) w.CloseParen test.1) _ next)
    ∙ regroup (ended_of (maybe (isnt w.Semicolon) expr) w.Semicolon start.1) _ next)
    ∙ regroup (ended_of (read_for_start expr index) w.Semicolon opening.1) _ next)
    ∙ regroup (expect w.OpenParen keyword.1) _ next)
    ∙ regroup (expect w.For ts) _ next

pub for_by_head : (n : ℕ) (ts : List Terminal) → read_for (expr_at n true) (expr_at (n - 1) true) (stmt_at (n - 1)) ts
    ≡ (for_head_of (expr_at n true) (expr_at (n - 1) true) ts >>= λ head. stmt_at (n - 1) head.1 >>= λ body.
    Ok (t.for head.0.keyword head.0.opening head.0.start.0 head.0.start.1 head.0.test.0 head.0.test.1 head.0.step.0 head.0.step.1 body.0, body.1))
for_by_head n ts =
    let expr = expr_at n true in
    let index = expr_at (n - 1) true in
    alike (expect w.For ts) (λ keyword. alike (expect w.OpenParen keyword.1) (λ opening.
    ended_then (read_for_start expr index) w.Semicolon opening.1 _
    ∙ alike (ended_of (read_for_start expr index) w.Semicolon opening.1) (λ start.
    ended_then (maybe (isnt w.Semicolon) expr) w.Semicolon start.1 _
    ∙ alike (ended_of (maybe (isnt w.Semicolon) expr) w.Semicolon start.1) (λ test.
    ended_then (maybe (isnt w.CloseParen) (read_simple expr index)) w.CloseParen test.1 _))))
    ∙ for_head_then expr index ts _

-- what is read after a block's braces
braces_then : {A : Type 0} (part : List Terminal → Answer t.Part) (ts : List Terminal) (next : BlockTree × List Terminal → Answer A)
    → (expect w.OpenBrace ts >>= λ opening. many (isnt w.CloseBrace) part opening.1 >>= λ parts. expect w.CloseBrace parts.1
    >>= λ closing. next (record { opening = opening.0; parts = parts.0; closing = closing.0 }, closing.1))
    ≡ (braces_of part ts >>= next)
unfolding braces_of
braces_then part ts next =
    alike (expect w.OpenBrace ts) (λ opening.
    alike (many (isnt w.CloseBrace) part opening.1) (λ parts. regroup (expect w.CloseBrace parts.1) _ next)
    ∙ regroup (many (isnt w.CloseBrace) part opening.1) _ next)
    ∙ regroup (expect w.OpenBrace ts) _ next

pub block_by_braces : (part : List Terminal → Answer t.Part) (ts : List Terminal) → read_block part ts
    ≡ (braces_of part ts >>= λ block. Ok (t.block block.0.opening (parts_from block.0.parts) block.0.closing, block.1))
block_by_braces part ts = braces_then part ts _

pub body_by_braces : (part : List Terminal → Answer t.Part) (head : t.Head) (ts : List Terminal) → read_body part head true ts
    ≡ (braces_of part ts >>= λ block. Ok (t.function head block.0.opening (parts_from block.0.parts) block.0.closing, block.1))
body_by_braces part head ts = braces_then part ts _
