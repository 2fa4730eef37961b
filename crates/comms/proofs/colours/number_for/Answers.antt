use Rattle.std.proofs.Common.{◌∙◌, ap, arith, w32}
use Rattle.std.proofs.lemmas.Int.{to_z-of_z}
use Rattle.comms.proofs.ColourLemmas.{number_in, number_out}
use Rattle.comms.specs.Colours.{place_among}
use Rattle.comms.proofs.colours.number_for.Goals as goal

pub returns-then-place-colours : goal.returns-then-place-colours
returns-then-place-colours c = number_in c.args.colours.now c.args.first c.place_among-place.result c.args.colour (c.place_among-place.ensures ∙ ap (place_among c.args.colours.now) (to_z-of_z w32 c.args.colour c.ranges.colour)) (omega arith)

pub returns-else-place-colours : goal.returns-else-place-colours
returns-else-place-colours c = number_out c.args.colours.now c.args.first c.place_among-place.result c.args.colour (c.place_among-place.ensures ∙ ap (place_among c.args.colours.now) (to_z-of_z w32 c.args.colour c.ranges.colour)) (omega arith)
