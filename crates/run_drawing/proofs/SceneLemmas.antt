-- The scene of a history, and the drawing that is made from it.
use Rattle.std.proofs.Common.{◌≡◌, ◌<◌, ◌^◌, ◌∷◌, [], ℕ, zero, suc, List, refl, ap, ◌∙◌, arith, length, length-append, subst}
use Rattle.run_model.specs.declared.event.Event.{Event}
use Rattle.causes.specs.Clocks.{TellsBefore, comes_before}
use Rattle.group_plan.specs.Plans.{number_of_ranks}
use Rattle.msg_races.specs.Listing.{lists_below}
use Rattle.msg_races.specs.Ways.{AreSends}
use Rattle.run_drawing.specs.declared.drawing.Arrow.{Arrow}
use Rattle.run_drawing.specs.declared.drawing.DrawnCollective.{DrawnCollective}
use Rattle.run_drawing.specs.declared.drawing.DrawnMark.{DrawnMark}
use Rattle.run_drawing.specs.declared.drawing.DrawnReceive.{DrawnReceive}
use Rattle.run_drawing.specs.declared.drawing.Unreceived.{Unreceived}
use Rattle.run_drawing.specs.declared.scene.Scene.{Scene}
use Rattle.run_drawing.specs.declared.tracing.Tracing.{Tracing}
use Rattle.run_drawing.specs.Basis.{Basis}
use Rattle.run_drawing.specs.Columns.{behind_all}
use Rattle.run_drawing.specs.Depths.{AreDepths}
use Rattle.run_drawing.specs.Drawings.{IsDrawing, drawn}
use Rattle.run_drawing.specs.Drawn.{Drawn}
use Rattle.run_drawing.specs.inside.Scenes.{IsScene, IsTraced, basis_of}
use Rattle.run_drawing.proofs.TracedLemmas.{depths_of, late_of, links_of}

-- what a scene is made of
pub record IsMadeOf (n : ℕ) (events : List Event) (tracing : Tracing) (scene : Scene) : Type 0 where
  pub short : length events < 2 ^ 32
  pub traced : IsTraced n events (length events) tracing
  pub ranks : scene.causes.ranks ≡ n
  pub events_are : scene.causes.events ≡ events
  pub depths : scene.depths.items ≡ tracing.depths.items
  pub late : scene.late.items ≡ tracing.causes.items
  pub links : scene.links ≡ tracing.links
  pub sends : AreSends events scene.sends
  pub behind : scene.behind ≡ behind_all events tracing.depths.items

pub scene_is : (n : ℕ) (events : List Event) (tracing : Tracing) (scene : Scene) → IsMadeOf n events tracing scene → IsScene scene
scene_is n events tracing scene made = record {
  short = (let long = ap length made.events_are in let short = made.short in omega (arith, long, short));
  depths = rw (made.ranks, made.events_are, made.depths) (depths_of n events tracing made.traced);
  late = λ p. rw (made.ranks, made.events_are, made.depths, made.late) (late_of n events tracing made.traced p);
  indexed = rw (made.links) (made.traced.indexed);
  links = rw (made.ranks, made.events_are, made.depths, made.links) (links_of n events tracing made.traced);
  sends = rw (made.events_are) (made.sends);
  behind = rw (made.events_are, made.depths) (made.behind);
}

-- a list of one for each rank
pub one_each : (f : ℕ → ℕ) (n : ℕ) → length (lists_below (λ rank. f rank ∷ []) n) ≡ n
one_each f zero = refl
one_each f (suc n) =
    let rest = one_each f n in
    let long = length-append (lists_below (λ rank. f rank ∷ []) n) (f n ∷ []) in
    omega (arith, rest, long)

pub same_drawn : (one other : Drawn) → one.groups ≡ other.groups → one.columns ≡ other.columns → one.marks ≡ other.marks → one.receives ≡ other.receives
    → one.collectives ≡ other.collectives → one.probes ≡ other.probes → one.unreceived ≡ other.unreceived → one ≡ other
same_drawn one other g k m r c p u =
    let M : List ℕ → ℕ → List DrawnMark → List DrawnReceive → List DrawnCollective → List Arrow → List Unreceived → Drawn =
    λ groups columns marks receives collectives probes unreceived. record {
      groups = groups;
      columns = columns;
      marks = marks;
      receives = receives;
      collectives = collectives;
      probes = probes;
      unreceived = unreceived;
    } in
    ap (λ (x : List ℕ). M x one.columns one.marks one.receives one.collectives one.probes one.unreceived) g
    ∙ ap (λ (x : ℕ). M other.groups x one.marks one.receives one.collectives one.probes one.unreceived) k
    ∙ ap (λ (x : List DrawnMark). M other.groups other.columns x one.receives one.collectives one.probes one.unreceived) m
    ∙ ap (λ (x : List DrawnReceive). M other.groups other.columns other.marks x one.collectives one.probes one.unreceived) r
    ∙ ap (λ (x : List DrawnCollective). M other.groups other.columns other.marks other.receives x one.probes one.unreceived) c
    ∙ ap (λ (x : List Arrow). M other.groups other.columns other.marks other.receives other.collectives x one.unreceived) p
    ∙ ap (λ (x : List Unreceived). M other.groups other.columns other.marks other.receives other.collectives other.probes x) u

pub drawing_is : (plan : List (List ℕ)) (events : List Event) (scene : Scene) (drawing : Drawn) → IsScene scene → scene.causes.ranks ≡ number_of_ranks plan → scene.causes.events ≡ events
    → TellsBefore (comes_before scene.causes) scene.causes.ranks scene.causes.events → drawing ≡ drawn plan (basis_of scene) → IsDrawing plan events drawing
drawing_is plan events scene drawing is ranks events_are tells of =
    let m : ℕ = number_of_ranks plan in
    let B : ℕ → List Event → Basis = λ k l. record { ranks = k; events = l; depths = scene.depths.items; before = comes_before scene.causes } in
    let base : basis_of scene ≡ B m events = ap (λ (k : ℕ). B k scene.causes.events) ranks ∙ ap (λ (l : List Event). B m l) events_are in
    let D : ℕ → List Event → Type 0 = λ k l. AreDepths k l scene.depths.items in
    let T : ℕ → List Event → Type 0 = λ k l. TellsBefore (comes_before scene.causes) k l in
    record {
      depths = scene.depths.items;
      before = comes_before scene.causes;
      are_depths = subst (λ (l : List Event). D m l) events_are (subst (λ (k : ℕ). D k scene.causes.events) ranks is.depths);
      tells = subst (λ (l : List Event). T m l) events_are (subst (λ (k : ℕ). T k scene.causes.events) ranks tells);
      is = of ∙ ap (drawn plan) base;
    }
