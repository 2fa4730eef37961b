use Rattle.std.proofs.Common.{◌∙◌, Some, None}
use Rattle.c_scope.specs.inside.ScopeView.{entries_view}
use Rattle.c_scope.proofs.Hiding.{in_block_by}
use Rattle.c_scope.proofs.declarations.Declarations.is_in_block.Goals as goal

pub returns-in-Some : goal.returns-in-Some
returns-in-Some c =
    rw (← c.self.view_is)
    (in_block_by (entries_view c.self.inside.placed.items) c.args.name.now c.self.inside.depth (Some c.in-Some.declaration) (c.in-Some.ensures ∙ c.self.invariant.names c.args.name.now) c.self.invariant.open_blocks)

pub returns-in-None : goal.returns-in-None
returns-in-None c =
    rw (← c.self.view_is)
    (in_block_by (entries_view c.self.inside.placed.items) c.args.name.now c.self.inside.depth None (c.in-None.ensures ∙ c.self.invariant.names c.args.name.now) c.self.invariant.open_blocks)
