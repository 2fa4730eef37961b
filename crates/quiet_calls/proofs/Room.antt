-- Histories below the bound of events and of sizes.
use Rattle.std.proofs.Common.{◌≡◌, ◌∙◌, ◌++◌, ◌+◌, ◌<◌, ◌∷◌, ℕ, List, [], false, append_assoc, length, length-append, nat_le, suc, refl, ap, sym, subst, arith}
use Rattle.std.proofs.lemmas.Bool.{leb-false, lt-leb, or_parts}
use Rattle.mpi_call.specs.declared.limits.TheConstants.{MOST_EVENTS, MOST_SIZE}
use Rattle.run_model.specs.declared.event.Event.{Event}
use Rattle.run_model.specs.Due.{is_full, size_of, total_size}

pub record HasRoom (events : List Event) : Type 0 where
  pub count : length events < MOST_EVENTS
  pub size : total_size events < MOST_SIZE

pub room_in : (events : List Event) → is_full events ≡ false → HasRoom events
room_in events h =
    let parts = or_parts (nat_le MOST_EVENTS (length events)) (nat_le MOST_SIZE (total_size events)) h in
    record { count = leb-false MOST_EVENTS (length events) parts.0; size = leb-false MOST_SIZE (total_size events) parts.1 }

pub not_full : (events : List Event) → HasRoom events → is_full events ≡ false
not_full events room = rw (lt-leb MOST_EVENTS (length events) room.count, lt-leb MOST_SIZE (total_size events) room.size) refl

pub size_append : (xs ys : List Event) → total_size (xs ++ ys) ≡ total_size xs + total_size ys
size_append [] ys = (let e : total_size ys ≡ 0 + total_size ys = omega arith in e)
size_append (x ∷ xs) ys = (let rest : total_size (xs ++ ys) ≡ total_size xs + total_size ys = size_append xs ys in omega (arith, rest))

less_front : (a b most : ℕ) → a + b < most → a < most
less_front a b most h = omega (arith, h)

pub room_front : (xs ys : List Event) → HasRoom (xs ++ ys) → HasRoom xs
room_front xs ys room =
    let F : ℕ → Type 0 = λ c. c < MOST_EVENTS in
    let G : ℕ → Type 0 = λ c. c < MOST_SIZE in
    record {
      count = less_front (length xs) (length ys) MOST_EVENTS (subst F (length-append xs ys) room.count);
      size = less_front (total_size xs) (total_size ys) MOST_SIZE (subst G (size_append xs ys) room.size);
    }

-- the order of events is nothing to it
room_as : (xs ys : List Event) → length xs ≡ length ys → total_size xs ≡ total_size ys → HasRoom xs → HasRoom ys
room_as xs ys same size room =
    let F : ℕ → Type 0 = λ c. c < MOST_EVENTS in
    let G : ℕ → Type 0 = λ c. c < MOST_SIZE in
    record { count = subst F same room.count; size = subst G size room.size }

pub room_swapped : (xs ys : List Event) (a b : Event) → HasRoom (xs ++ a ∷ b ∷ ys) → HasRoom ((xs ++ b ∷ []) ++ a ∷ ys)
room_swapped xs ys a b room =
    let one : length (xs ++ a ∷ b ∷ ys) ≡ length xs + suc (suc (length ys)) = length-append xs (a ∷ b ∷ ys) in
    let two : length (xs ++ b ∷ a ∷ ys) ≡ length xs + suc (suc (length ys)) = length-append xs (b ∷ a ∷ ys) in
    let tail : size_of a + (size_of b + total_size ys) ≡ size_of b + (size_of a + total_size ys) = omega arith in
    let size : total_size (xs ++ a ∷ b ∷ ys) ≡ total_size (xs ++ b ∷ a ∷ ys) =
    size_append xs (a ∷ b ∷ ys) ∙ (ap (λ s. total_size xs + s) tail ∙ sym (size_append xs (b ∷ a ∷ ys))) in
    let F : List Event → Type 0 = λ l. HasRoom l in
    subst F (sym (append_assoc xs (b ∷ []) (a ∷ ys))) (room_as (xs ++ a ∷ b ∷ ys) (xs ++ b ∷ a ∷ ys) (one ∙ sym two) size room)

less_put : (a b c most : ℕ) → a + suc (b + c) < most → (a + b) + 1 < most
less_put a b c most h = omega (arith, h)

less_size : (a b c d most : ℕ) → a + (d + (b + c)) < most → (a + b) + (d + 0) < most
less_size a b c d most h = omega (arith, h)

-- the event that stands first, behind some of those that stand behind it
pub room_put : (root front tail : List Event) (q : Event) → HasRoom (root ++ q ∷ (front ++ tail)) → HasRoom ((root ++ front) ++ q ∷ [])
room_put root front tail q room =
    let F : ℕ → Type 0 = λ c. c < MOST_EVENTS in
    let G : ℕ → Type 0 = λ c. c < MOST_SIZE in
    let count : length (root ++ q ∷ (front ++ tail)) ≡ length root + suc (length front + length tail) =
    length-append root (q ∷ (front ++ tail)) ∙ ap (λ c. length root + suc c) (length-append front tail) in
    let size : total_size (root ++ q ∷ (front ++ tail)) ≡ total_size root + (size_of q + (total_size front + total_size tail)) =
    size_append root (q ∷ (front ++ tail)) ∙ ap (λ c. total_size root + (size_of q + c)) (size_append front tail) in
    let count' : length ((root ++ front) ++ q ∷ []) ≡ (length root + length front) + 1 =
    length-append (root ++ front) (q ∷ []) ∙ ap (λ c. c + 1) (length-append root front) in
    let size' : total_size ((root ++ front) ++ q ∷ []) ≡ (total_size root + total_size front) + (size_of q + 0) =
    size_append (root ++ front) (q ∷ []) ∙ ap (λ c. c + (size_of q + 0)) (size_append root front) in
    record {
      count = subst F (sym count') (less_put (length root) (length front) (length tail) MOST_EVENTS (subst F count room.count));
      size = subst G (sym size') (less_size (total_size root) (total_size front) (total_size tail) (size_of q) MOST_SIZE (subst G size room.size));
    }

-- with another event of its size
pub room_like : (root front : List Event) (q other : Event) → size_of q ≡ size_of other → HasRoom (root ++ q ∷ front) → HasRoom (root ++ other ∷ front)
room_like root front q other same room =
    let size : total_size (root ++ q ∷ front) ≡ total_size (root ++ other ∷ front) =
    size_append root (q ∷ front) ∙ (ap (λ s. total_size root + (s + total_size front)) same ∙ sym (size_append root (other ∷ front))) in
    room_as (root ++ q ∷ front) (root ++ other ∷ front) (length-append root (q ∷ front) ∙ sym (length-append root (other ∷ front))) size room
