use Rattle.std.proofs.Common.{◌+◌, ◌-◌, ℕ, List, flat_map, length}
use Rattle.std.specs.Prelude.{codes}
use Rattle.svg_text.specs.Endings.{arc_text, arcs_of, beside, cycles_text, endings_text, farthest, longest}
use Rattle.svg_text.specs.Grids.{bottom_of}
use Rattle.svg_text.specs.SvgTexts.{choices_legend, lanes_text, legend_text, picture_text, shapes_text, top_text, wide_of}
use Rattle.svg_text.proofs.Texts.{picture_texts}
use Rattle.svg_text.proofs.svg.push_picture.Goals as goal

pub returns : goal.returns
unfolding picture_text
returns c =
    let ranks : ℕ = length c.args.drawing.now.groups in
    let x : ℕ = beside c.args.right (farthest (arcs_of c.args.all.now)) in
    let top : List ℕ = top_text (wide_of x (longest c.args.texts.now)) c.args.high c.args.drawing.now c.args.ending.now in
    let lanes : List ℕ = lanes_text c.args.grid.now c.args.right c.args.drawing.now.groups in
    let shapes : List ℕ = shapes_text c.args.grid.now c.args.history.now.events c.args.drawing.now in
    let arcs : List ℕ = flat_map (arc_text c.args.grid.now c.args.right) (arcs_of c.args.all.now) in
    let cycles : List ℕ = cycles_text (bottom_of c.args.grid.now ranks + 16) c.args.cycles.now in
    let endings : List ℕ = endings_text c.args.grid.now c.args.all.now x c.args.texts.now ranks in
    let legend : List ℕ = legend_text (c.args.high - 30) in
    let choices : List ℕ = choices_legend c.args.grid.now (c.args.high - 30) in
    rw (
      c.in_ok-push_bottom.ensures,
      c.in_ok-push_beside.ensures,
      c.in_ok-push_arcs.ensures,
      c.in_ok-push_shapes.ensures,
      c.in_ok-push_lanes.ensures,
      c.in_ok-push_top.ensures,
      c.wide_of.ensures,
      c.longest.ensures.longest,
      c.beside-x.ensures.beside,
      c.farthest.ensures.far,
      c.as_slice-2.ensures.value,
      c.as_slice.ensures.value,
      c.in_ok-arcs.ensures,
      c.lanes.ensures,
    )
    (picture_texts c.args.out.now top lanes shapes arcs cycles endings legend choices (codes "</svg>\n"))
