-- What is known of a view, as it grows.
use Rattle.std.proofs.Common.{◌≡◌, ◌≤◌, ◌-◌, ◌∙◌, ◌++◌, ◌∷◌, ℕ, suc, List, [], Some, None, true, false, append-nil, append_assoc, ap, arith, drop, get_or, length, nat_eq, sym, take}
use Rattle.std.proofs.Math.Seq.{take-length}
use Rattle.std.specs.Map.{lookup}
use Rattle.mpi_call.specs.declared.call.Call.{Call}
use Rattle.mpi_call.specs.declared.reply.Reply.{Reply}
use Rattle.run_model.specs.Communicators.{known_after, known_in, learned}
use Rattle.run_model.specs.Lists.{world}
use Rattle.run_model.specs.Views.{View, is_start, starts_of}
use Rattle.run_model.proofs.CommunicatorLaws.{known_after-some}
use Rattle.run_model.proofs.Enters.{known_after-append}
use Rattle.run_model.proofs.StartLemmas.{starts_of-append}
use Rattle.view_tables.specs.MemberTable.{members_after}
use Rattle.view_tables.proofs.MemberTableLemmas.{lookup-after}
use Rattle.srr_entry.specs.Known.{IsKnownOf, KnownSoFar}

members_more : (own : View) (call : Call) (reply : Reply) (members members' : List (ℕ × List ℕ)) → members' ≡ members_after members reply
    → ((comm : ℕ) → lookup (nat_eq comm) members ≡ known_after comm None own)
    → (comm : ℕ) → lookup (nat_eq comm) members' ≡ known_after comm None (own ++ (call, reply) ∷ [])
members_more own call reply members members' made so_far = λ comm.
    ap (λ table. lookup (nat_eq comm) table) made
    ∙ (lookup-after members comm reply
    ∙ (ap (λ known. learned comm known reply) (so_far comm)
    ∙ sym (known_after-append comm None own ((call, reply) ∷ []))))

-- one more start, and one more call that is none
pub known_start : (n : ℕ) (own : View) (call : Call) (reply : Reply) (all : List ℕ) (starts starts' : List Call) (members members' : List (ℕ × List ℕ))
    → is_start (call, reply) ≡ true → starts' ≡ starts ++ call ∷ [] → members' ≡ members_after members reply
    → IsKnownOf n own (record { world = all; starts = starts; members = members })
    → IsKnownOf n (own ++ (call, reply) ∷ []) (record { world = all; starts = starts'; members = members' })
known_start n own call reply all starts starts' members members' start grown made is =
    record {
      world = is.world;
      starts = rw (starts_of-append own ((call, reply) ∷ []), start) (grown ∙ ap (λ l. l ++ call ∷ []) is.starts);
      members = members_more own call reply members members' made is.members;
    }

pub known_other : (n : ℕ) (own : View) (call : Call) (reply : Reply) (all : List ℕ) (starts : List Call) (members members' : List (ℕ × List ℕ))
    → is_start (call, reply) ≡ false → members' ≡ members_after members reply
    → IsKnownOf n own (record { world = all; starts = starts; members = members })
    → IsKnownOf n (own ++ (call, reply) ∷ []) (record { world = all; starts = starts; members = members' })
known_other n own call reply all starts members members' other made is =
    record {
      world = is.world;
      starts = rw (starts_of-append own ((call, reply) ∷ []), other) (is.starts ∙ sym (append-nil (starts_of own)));
      members = members_more own call reply members members' made is.members;
    }

-- all ranks are in communicator 0
pub known_world : (n : ℕ) (own : View) (known : KnownSoFar) → IsKnownOf n own known → Some known.world ≡ known_in n own 0
known_world n own known is = ap (λ l. Some l) is.world ∙ sym (known_after-some 0 (world n 0) own)

-- a view that is read from its front
pub read_more : (view own rest : View) (one d : Call × Reply) → view ≡ own ++ rest → 1 ≤ length rest → one ≡ get_or rest 0 d
    → view ≡ (own ++ (one.0, one.1) ∷ []) ++ take (length rest - 1) (drop 1 rest)
read_more view own [] one d all some is = absurd (omega (arith, some))
read_more view own (x ∷ rest) one d all some is =
    let less : suc (length rest) - 1 ≡ length rest = omega arith in
    rw (append_assoc, less, take-length rest) (all ∙ ap (λ (seen : Call × Reply). own ++ seen ∷ rest) (sym is))
