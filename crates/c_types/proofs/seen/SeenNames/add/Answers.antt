use Rattle.std.proofs.Common.{◌∙◌, ap, map, Bor, List, ℕ}
use Rattle.std.specs.List.{list_any}
use Rattle.std.specs.Str.{bytes_eq}
use Rattle.c_types.proofs.Names.{inserted}
use Rattle.c_types.proofs.seen.SeenNames.add.Goals as goal

pub returns : goal.returns
returns c =
    rw (← c.self.view_is)
    (λ name. ap (λ keys. list_any (bytes_eq name) (map (λ (other : Bor (List ℕ)). other.now) keys)) c.in_ok-insert.ensures.keys ∙ inserted c.self.inside.names.keys c.args.name name)
