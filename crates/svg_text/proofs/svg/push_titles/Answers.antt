use Rattle.std.proofs.Common.{length}
use Rattle.svg_text.specs.SvgTexts.{heading_text, subtitle_text}
use Rattle.svg_text.proofs.Texts.{two_texts}
use Rattle.svg_text.proofs.svg.push_titles.Goals as goal

pub returns : goal.returns
returns c =
    rw (
      c.in_ok-push_subtitle.ensures,
      c.in_ok-push_heading.ensures,
      c.groups.ensures,
      c.marks.ensures,
      c.receives.ensures,
    )
    (two_texts c.args.out.now (heading_text c.args.drawing.now.groups (length c.args.drawing.now.marks) c.args.ending.now) (subtitle_text c.args.drawing.now.receives))
