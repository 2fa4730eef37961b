use Rattle.std.proofs.Common.{◌∙◌, ap, of_z, to_z, w32}
use Rattle.std.proofs.lemmas.Int.{to_z-of_z}
use Rattle.comms.proofs.ColourLemmas.{search_found, search_missed}
use Rattle.comms.specs.Colours.{place_among}
use Rattle.comms.proofs.colours.place_among.Goals as goal

pub returns-in-Ok : goal.returns-in-Ok
returns-in-Ok c =
    search_found c.args.colours.now (to_z w32 (of_z w32 c.args.colour)) c.in-Ok.place c.requires c.in-Ok.ensures.bound c.in-Ok.ensures.ok
    ∙ ap (place_among c.args.colours.now) (to_z-of_z w32 c.args.colour c.ranges.colour)

pub returns-in-Err : goal.returns-in-Err
returns-in-Err c =
    search_missed c.args.colours.now (to_z w32 (of_z w32 c.args.colour)) c.in-Err.field-0 c.requires c.in-Err.ensures.position
    ∙ ap (place_among c.args.colours.now) (to_z-of_z w32 c.args.colour c.ranges.colour)
