-- What is looked up in a history while it is drawn.
use Rattle.std.specs.Prelude.{◌≡◌, ◌<◌, ◌^◌, ℕ, List, Option, None, Some, false, length, nat_eq, slice_index, take}
use Rattle.std.specs.List.{slice_index_or}
use Rattle.std.specs.Map.{lookup}
use Rattle.run_model.specs.declared.event.Event.{Event}
use Rattle.causes.specs.Beside.{AreTables}
use Rattle.causes.specs.Clocks.{comes_before}
use Rattle.causes.specs.Positions.{positions}
use Rattle.msg_races.specs.declared.sends.Way.{Way}
use Rattle.msg_races.specs.Listing.{lists_below}
use Rattle.msg_races.specs.Ways.{AreSends, goes_way, same_way}
use Rattle.run_drawing.specs.declared.links.CompletedStart.{CompletedStart}
use Rattle.run_drawing.specs.declared.links.Links.{Links}
use Rattle.run_drawing.specs.declared.scene.Scene.{Scene}
use Rattle.run_drawing.specs.declared.tracing.Tracing.{Tracing}
use Rattle.run_drawing.specs.Basis.{Basis}
use Rattle.run_drawing.specs.Choices.{is_untaken}
use Rattle.run_drawing.specs.Columns.{behind_all}
use Rattle.run_drawing.specs.Depths.{AreDepths, IsDepth}
use Rattle.run_drawing.specs.Links.{cause_at, completion_in, links, links_at, taker_in}

-- one of two, the first where it is there
abbrev pub or_link : Option CompletedStart → Option CompletedStart → Option CompletedStart
or_link None other = other
or_link (Some link) other = Some link

-- the first link of each start, and of each cause
pub record AreIndexed (links : Links) : Type 0 where
  pub starts : (p : ℕ) → lookup (nat_eq p) links.by_start.entries ≡ completion_in links.list.items p
  pub causes : (p : ℕ) → lookup (nat_eq p) links.by_cause.entries ≡ taker_in links.list.items p

-- the causes of the first events, and all their links, by their depths
pub record AreTraced (n : ℕ) (events : List Event) (k : ℕ) (depths : List ℕ) (tracing : Tracing) : Type 0 where
  pub causes : (p : ℕ) → p < k → slice_index_or tracing.causes.items p None ≡ cause_at n events depths p
  pub links : tracing.links.list.items ≡ lists_below (links_at n events depths) k

-- the first k events are traced: whatever depths follow theirs
pub record IsTraced (n : ℕ) (events : List Event) (k : ℕ) (tracing : Tracing) : Type 0 where
  pub ranks : tracing.tables.ranks ≡ n
  pub tables : AreTables (take k events) tracing.tables
  pub as_many : length tracing.depths.items ≡ k
  pub as_many_causes : length tracing.causes.items ≡ k
  pub depths : (u : ℕ) → u < k → IsDepth n events u (slice_index tracing.depths.items u)
  pub indexed : AreIndexed tracing.links
  pub traced : (depths : List ℕ) → take k depths ≡ tracing.depths.items → AreTraced n events k depths tracing

-- what a scene's drawing is made from
abbrev pub basis_of : Scene → Basis
basis_of scene = record {
  ranks = scene.causes.ranks;
  events = scene.causes.events;
  depths = scene.depths.items;
  before = comes_before scene.causes;
}

-- a scene has what is looked up in its events
pub record IsScene (scene : Scene) : Type 0 where
  pub short : length scene.causes.events < 2 ^ 32
  pub depths : AreDepths scene.causes.ranks scene.causes.events scene.depths.items
  pub late : (p : ℕ) → slice_index_or scene.late.items p None ≡ cause_at scene.causes.ranks scene.causes.events scene.depths.items p
  pub indexed : AreIndexed scene.links
  pub links : scene.links.list.items ≡ links (basis_of scene)
  pub sends : AreSends scene.causes.events scene.sends
  pub behind : scene.behind ≡ behind_all scene.causes.events scene.depths.items

-- a number, or 0 where there is none
abbrev pub or_zero : Option ℕ → ℕ
or_zero None = 0
or_zero (Some count) = count

-- how many Sends of a way are skipped
abbrev pub skipped_at : List (Way × ℕ) → Way → ℕ
skipped_at table way = or_zero (lookup (same_way way) table)

-- the Sends that are skipped were taken before position p
abbrev pub ArePast : Basis → ℕ → List (Way × ℕ) → Type 0
ArePast basis p table =
    (way : Way) (k : ℕ) → k < skipped_at table way → k < length (positions (goes_way way) 0 basis.events)
    → is_untaken basis p (slice_index (positions (goes_way way) 0 basis.events) k) ≡ false
