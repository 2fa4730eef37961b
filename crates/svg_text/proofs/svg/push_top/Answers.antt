use Rattle.std.proofs.Common.{◌≡◌, ◌++◌, ◌∙◌, ℕ, List, ap, length}
use Rattle.svg_text.specs.SvgTexts.{frame_text, ground_text, heading_text, heads_text, style_text, subtitle_text, top_text}
use Rattle.svg_text.proofs.Texts.{six_texts}
use Rattle.svg_text.proofs.svg.push_top.Goals as goal

pub returns : goal.returns
unfolding top_text
returns c =
    let o : List ℕ = c.args.out.now in
    let a : List ℕ = frame_text c.args.wide c.args.high in
    let g : List ℕ = ground_text c.args.wide c.args.high in
    let t : List ℕ = heading_text c.args.drawing.now.groups (length c.args.drawing.now.marks) c.args.ending.now in
    let s : List ℕ = subtitle_text c.args.drawing.now.receives in
    let first : c.push_frame.new.out ≡ o ++ a = c.in_ok-push_frame.ensures in
    let second : c.push_style.new.out ≡ (o ++ a) ++ style_text = c.in_ok-push_style.ensures ∙ ap (λ (l : List ℕ). l ++ style_text) first in
    let third : c.push_heads.new.out ≡ ((o ++ a) ++ style_text) ++ heads_text = c.in_ok-push_heads.ensures ∙ ap (λ (l : List ℕ). l ++ heads_text) second in
    let fourth : c.push_ground.new.out ≡ (((o ++ a) ++ style_text) ++ heads_text) ++ g = c.in_ok-push_ground.ensures ∙ ap (λ (l : List ℕ). l ++ g) third in
    c.in_ok-push_titles.ensures ∙ ap (λ (l : List ℕ). l ++ (t ++ s)) fourth ∙ six_texts o a style_text heads_text g t s
